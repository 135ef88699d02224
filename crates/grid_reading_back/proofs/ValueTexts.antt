-- The text of a value is read back as the value.
use Rattle.std.proofs.Common.{◌≡◌, ◌≤◌, ℕ, suc, pos, negsuc, max, List, [], ◌∷◌, ◌++◌, Bool, true, false, Some, Ordering, Less, Equal, Greater, IsUtf8, decimal, option_map, option_and_then, refl, sym, ap, ap₂, ◌∙◌, append-nil}
use Rattle.std.proofs.lemmas.Cmp.{nat_list_cmp_total}
use Rattle.std.proofs.lemmas.Fmt.{IsAscii-decimal, IsAscii-signed}
use Rattle.std.proofs.lemmas.Str.{IsUtf8-append, IsUtf8-nil, IsUtf8-from_ascii}
use Rattle.std.specs.Ordering.{nat_cmp, match_ordering, ordering_reverse}
use Rattle.std.specs.Cmp.Lexicographic.{slice_cmp}
use Rattle.std.specs.Fmt.{signed_decimal}
use Rattle.json.specs.Lex.{tokens}
use Rattle.json.specs.Json as json
use Rattle.json.specs.Print.{print, quoted}
use Rattle.json.specs.Tree as tree
use Rattle.json.proofs.Printed.Decimals.{IsNumber-decimal, IsNumber-signed_decimal}
use Rattle.json.proofs.Printed.Tokens.{tokens-print}
use Rattle.json.proofs.Printed.Trees.{ArePrintable-json_tokens, value-json_tokens}
use Rattle.json.proofs.Printed.Utf8.{IsUtf8-are_ascii, IsUtf8-quoted, IsUtf8-boolean}
use Rattle.serde_json.specs.Data.{Num, unsigned, negative, float, Data, null, boolean, number, string, array, object, Items, no_items, item, Members, no_members, member, put, depth, items_depth, members_depth}
use Rattle.serde_json.specs.Read.{number_of, of_json, of_items, of_members, read, max_depth}
use Rattle.serde_json.specs.Written.{number_text, outline, items_outline, members_outline, unless_float, blank, blank_items, blank_members, IsInOrder, comma_if, compact_text, items_text, members_text}
use Rattle.serde_json.proofs.Numbers.{number_of-decimal, number_of-negative}
use Rattle.serde_json.proofs.Texts.{unless_float-number_of, print-outline}
use Rattle.grid_reading_back.specs.Spelling.{IsSpelledNumber, StandsBefore, IsSpelled, ItemsAreSpelled, MembersAreSpelled}

-- ---- members one behind the other

abbrev joined : Members → Members → Members
joined no_members ms = ms
joined (member k d found) ms = member k d (joined found ms)

abbrev AllBefore : Members → Members → Type 0
AllBefore no_members ms = Unit {0}
AllBefore (member k d found) ms = StandsBefore k ms × AllBefore found ms

joined_none : (found : Members) → joined found no_members ≡ found
joined_none no_members = refl
joined_none (member k d found) = ap (member k d) (joined_none found)

joined_more : (found : Members) (k : List ℕ) (d : Data) (ms : Members) → joined (joined found (member k d no_members)) ms ≡ joined found (member k d ms)
joined_more no_members k d ms = refl
joined_more (member l e found) k d ms = ap (member l e) (joined_more found k d ms)

after_of : (k l : List ℕ) → slice_cmp nat_cmp l k ≡ Less → slice_cmp nat_cmp k l ≡ Greater
after_of k l less = nat_list_cmp_total.antisymm k l ∙ ap ordering_reverse less

before_of : (k l : List ℕ) → slice_cmp nat_cmp l k ≡ Greater → slice_cmp nat_cmp k l ≡ Less
before_of k l greater = nat_list_cmp_total.antisymm k l ∙ ap ordering_reverse greater

-- a member behind all others is put last
put_last : (found : Members) (k : List ℕ) (d : Data) (ms : Members) → AllBefore found (member k d ms) → put k d found ≡ joined found (member k d no_members)
put_last no_members k d ms before = refl
put_last (member l e found) k d ms before = rw (after_of k l before.0.0) (ap (member l e) (put_last found k d ms before.1))

-- what stands before those stands before the rest of them
all_more : (found : Members) (k : List ℕ) (d : Data) (ms : Members) → AllBefore found (member k d ms) → StandsBefore k ms → AllBefore (joined found (member k d no_members)) ms
all_more no_members k d ms before first = (first, tt)
all_more (member l e found) k d ms before first = (before.0.1, all_more found k d ms before.1 first)

-- ---- the tree of a value is read as the value

number_read : (n : Num) → IsSpelledNumber n → number_of (number_text n) ≡ Some n
number_read (unsigned n) fits = number_of-decimal n fits
number_read (negative (pos n)) fits = absurd fits
number_read (negative (negsuc n)) fits = number_of-negative n fits
number_read (float x) fits = absurd fits

mutual
  tree_read : (d : Data) → IsSpelled d → of_json (outline d) ≡ Some d
  tree_read null fine = refl
  tree_read (boolean b) fine = refl
  tree_read (number n) fine = ap (option_map number) (number_read n fine)
  tree_read (string s) fine = refl
  tree_read (array ds) fine = ap (option_map array) (items_read ds fine)
  tree_read (object ms) fine = ap (option_map object) (members_read ms no_members fine tt)

  items_read : (ds : Items) → ItemsAreSpelled ds → of_items (items_outline ds) ≡ Some ds
  items_read no_items fine = refl
  items_read (item d ds) fine = rw (tree_read d fine.0, items_read ds fine.1) refl

  members_read : (ms found : Members) → MembersAreSpelled ms → AllBefore found ms → of_members (members_outline ms) found ≡ Some (joined found ms)
  members_read no_members found fine before = ap Some (sym (joined_none found))
  members_read (member k d ms) found fine before =
      ap (option_and_then (λ e. of_members (members_outline ms) (put k e found))) (tree_read d fine.1.0)
      ∙ ap (of_members (members_outline ms)) (put_last found k d ms before)
      ∙ members_read ms (joined found (member k d no_members)) fine.1.1 (all_more found k d ms before fine.0.1)
      ∙ ap Some (joined_more found k d ms)

-- ---- its numbers are written, and are whole

number_kept : (n : Num) → IsSpelledNumber n → unless_float (number_text n) ≡ number_text n
number_kept (unsigned n) fits = unless_float-number_of (decimal n) (unsigned n) (number_of-decimal n fits)
number_kept (negative (pos n)) fits = absurd fits
number_kept (negative (negsuc n)) fits = unless_float-number_of (signed_decimal (negsuc n)) (negative (negsuc n)) (number_of-negative n fits)
number_kept (float x) fits = absurd fits

mutual
  kept : (d : Data) → IsSpelled d → blank (outline d) ≡ outline d
  kept null fine = refl
  kept (boolean b) fine = refl
  kept (number n) fine = ap json.number (number_kept n fine)
  kept (string s) fine = refl
  kept (array ds) fine = ap json.array (items_kept ds fine)
  kept (object ms) fine = ap json.object (members_kept ms fine)

  items_kept : (ds : Items) → ItemsAreSpelled ds → blank_items (items_outline ds) ≡ items_outline ds
  items_kept no_items fine = refl
  items_kept (item d ds) fine = ap₂ json.item (kept d fine.0) (items_kept ds fine.1)

  members_kept : (ms : Members) → MembersAreSpelled ms → blank_members (members_outline ms) ≡ members_outline ms
  members_kept no_members fine = refl
  members_kept (member k d ms) fine = ap₂ (json.member k) (kept d fine.1.0) (members_kept ms fine.1.1)

number_numbered : (n : Num) → IsSpelledNumber n → tree.HasNumbers (json.number (number_text n))
number_numbered (unsigned n) fits = IsNumber-decimal n fits
number_numbered (negative (pos n)) fits = absurd fits
number_numbered (negative (negsuc n)) fits = IsNumber-signed_decimal (negsuc n) fits
number_numbered (float x) fits = absurd fits

mutual
  numbered : (d : Data) → IsSpelled d → tree.HasNumbers (outline d)
  numbered null fine = tt
  numbered (boolean b) fine = tt
  numbered (number n) fine = number_numbered n fine
  numbered (string s) fine = tt
  numbered (array ds) fine = items_numbered ds fine
  numbered (object ms) fine = members_numbered ms fine

  items_numbered : (ds : Items) → ItemsAreSpelled ds → tree.ItemsHaveNumbers (items_outline ds)
  items_numbered no_items fine = tt
  items_numbered (item d ds) fine = (numbered d fine.0, items_numbered ds fine.1)

  members_numbered : (ms : Members) → MembersAreSpelled ms → tree.MembersHaveNumbers (members_outline ms)
  members_numbered no_members fine = tt
  members_numbered (member k d ms) fine = (numbered d fine.1.0, members_numbered ms fine.1.1)

mutual
  deep : (d : Data) → tree.depth (outline d) ≡ depth d
  deep null = refl
  deep (boolean b) = refl
  deep (number n) = refl
  deep (string s) = refl
  deep (array ds) = ap suc (items_deep ds)
  deep (object ms) = ap suc (members_deep ms)

  items_deep : (ds : Items) → tree.items_depth (items_outline ds) ≡ items_depth ds
  items_deep no_items = refl
  items_deep (item d ds) = ap₂ max (deep d) (items_deep ds)

  members_deep : (ms : Members) → tree.members_depth (members_outline ms) ≡ members_depth ms
  members_deep no_members = refl
  members_deep (member k d ms) = ap₂ max (deep d) (members_deep ms)

-- ---- the text is text

number_utf8 : (n : Num) → IsSpelledNumber n → IsUtf8 (number_text n)
number_utf8 (unsigned n) fits = IsUtf8-from_ascii (decimal n) (IsAscii-decimal n fits)
number_utf8 (negative (pos n)) fits = absurd fits
number_utf8 (negative (negsuc n)) fits = IsUtf8-from_ascii (signed_decimal (negsuc n)) (IsAscii-signed (negsuc n) fits)
number_utf8 (float x) fits = absurd fits

comma_utf8 : (later : Bool) → IsUtf8 (comma_if later)
comma_utf8 true = IsUtf8-are_ascii (44 ∷ []) refl
comma_utf8 false = IsUtf8-nil

mutual
  utf8 : (d : Data) → IsSpelled d → IsUtf8 (compact_text d)
  utf8 null fine = IsUtf8-are_ascii (compact_text null) refl
  utf8 (boolean b) fine = IsUtf8-boolean b
  utf8 (number n) fine = number_utf8 n fine
  utf8 (string s) fine = IsUtf8-quoted s fine
  utf8 (array ds) fine = IsUtf8-append (91 ∷ []) (items_text false ds) (IsUtf8-are_ascii (91 ∷ []) refl) (items_utf8 false ds fine)
  utf8 (object ms) fine = IsUtf8-append (123 ∷ []) (members_text false ms) (IsUtf8-are_ascii (123 ∷ []) refl) (members_utf8 false ms fine)

  items_utf8 : (later : Bool) (ds : Items) → ItemsAreSpelled ds → IsUtf8 (items_text later ds)
  items_utf8 later no_items fine = IsUtf8-are_ascii (93 ∷ []) refl
  items_utf8 later (item d ds) fine = IsUtf8-append (comma_if later) (compact_text d ++ items_text true ds) (comma_utf8 later) (IsUtf8-append (compact_text d) (items_text true ds) (utf8 d fine.0) (items_utf8 true ds fine.1))

  members_utf8 : (later : Bool) (ms : Members) → MembersAreSpelled ms → IsUtf8 (members_text later ms)
  members_utf8 later no_members fine = IsUtf8-are_ascii (125 ∷ []) refl
  members_utf8 later (member k d ms) fine =
      let rest = IsUtf8-append (compact_text d) (members_text true ms) (utf8 d fine.1.0) (members_utf8 true ms fine.1.1) in
      let after = IsUtf8-append (58 ∷ []) (compact_text d ++ members_text true ms) (IsUtf8-are_ascii (58 ∷ []) refl) rest in
      IsUtf8-append (comma_if later) (quoted k ++ 58 ∷ (compact_text d ++ members_text true ms)) (comma_utf8 later) (IsUtf8-append (quoted k) (58 ∷ (compact_text d ++ members_text true ms)) (IsUtf8-quoted k fine.0.0) after)

pub text_is_utf8 : (d : Data) → IsSpelled d → IsUtf8 (compact_text d)
text_is_utf8 d fine = utf8 d fine

-- ---- the text

text_tokens : (d : Data) → IsSpelled d → tokens (compact_text d) ≡ tree.json_tokens (outline d)
text_tokens d fine = ap tokens (sym (print-outline d)) ∙ tokens-print (tree.json_tokens (outline d)) (ArePrintable-json_tokens (outline d) (numbered d fine))

pub text_is_compact : (d : Data) → IsSpelled d → compact_text d ≡ print (tokens (compact_text d))
text_is_compact d fine = sym (ap print (text_tokens d fine) ∙ print-outline d)

pub text_is_in_order : (d : Data) → IsSpelled d → IsInOrder (compact_text d) d
text_is_in_order d fine = (outline d, text_tokens d fine, kept d fine)

pub texts_are_read : (d : Data) → IsSpelled d → depth d ≤ max_depth → read (compact_text d) ≡ Some d
texts_are_read d fine shallow =
    ap (λ ts. option_and_then of_json (option_and_then (λ p. json.if_last p.0 p.1) (json.value max_depth ts))) (text_tokens d fine ∙ sym (append-nil (tree.json_tokens (outline d))))
    ∙ ap (λ v. option_and_then of_json (option_and_then (λ p. json.if_last p.0 p.1) v)) (value-json_tokens (outline d) max_depth [] (rw (deep d) shallow))
    ∙ tree_read d fine

-- ---- a member that is put among others

before_put : (l k : List ℕ) (d : Data) (ms : Members) → slice_cmp nat_cmp l k ≡ Less → StandsBefore l ms → StandsBefore l (put k d ms)
before_put l k d no_members less before = (less, tt)
before_put l k d (member m e ms) less before = by (slice_cmp nat_cmp k m) (before_put l k d ms less before.1)
  where
    by : (o : Ordering) → StandsBefore l (put k d ms) → StandsBefore l (match_ordering o (member k d (member m e ms)) (member m d ms) (member m e (put k d ms)))
    by Less later = (less, before)
    by Equal later = before
    by Greater later = (before.0, later)

before_both : (k l : List ℕ) (ms : Members) → slice_cmp nat_cmp k l ≡ Less → StandsBefore l ms → StandsBefore k ms
before_both k l no_members less before = tt
before_both k l (member m e ms) less before = (nat_list_cmp_total.trans k l m less before.0, before_both k l ms less before.1)

pub put_spelled : (k : List ℕ) (d : Data) (ms : Members) → IsUtf8 k → IsSpelled d → MembersAreSpelled ms → MembersAreSpelled (put k d ms)
put_spelled k d no_members text fine old = ((text, tt), (fine, tt))
put_spelled k d (member l e ms) text fine old = by (slice_cmp nat_cmp k l) refl (put_spelled k d ms text fine old.1.1)
  where
    by : (o : Ordering) → slice_cmp nat_cmp k l ≡ o → MembersAreSpelled (put k d ms) → MembersAreSpelled (match_ordering o (member k d (member l e ms)) (member l d ms) (member l e (put k d ms)))
    by Less is later = ((text, (is, before_both k l ms is old.0.1)), (fine, old))
    by Equal is later = (old.0, (fine, old.1.1))
    by Greater is later = ((old.0.0, before_put l k d ms (before_of l k is) old.0.1), (old.1.0, later))
