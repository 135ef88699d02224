-- The text of a tree of whole numbers is read back.
use Rattle.std.proofs.Common.{◌≡◌, ◌<◌, ◌≤◌, ℕ, suc, get_or, cond, pos, negsuc, max, List, [], ◌∷◌, Option, Some, None, refl, sym, ap, ap₂, ◌∙◌, arith, append-nil}
use Rattle.std.specs.Prelude.{decimal, option_map, option_and_then}
use Rattle.std.proofs.lemmas.Bool.{ne_eqb}
use Rattle.std.proofs.lemmas.Fmt.{first_decimal}
use Rattle.json.specs.Word.{after_whole, after_fraction, after_exponent, after_number}
use Rattle.json.specs.Token.{Token}
use Rattle.json.specs.Lex.{tokens}
use Rattle.json.specs.Json as json
use Rattle.json.specs.Print.{IsNumber}
use Rattle.json.specs.Tree as tree
use Rattle.json.proofs.Printed.Tokens.{tokens-print}
use Rattle.json.proofs.Printed.Trees.{value-json_tokens, ArePrintable-json_tokens}
use Rattle.json.proofs.Printed.Decimals.{IsNumber-decimal}
use Rattle.serde_json.specs.Data.{Num, unsigned, negative, float, Data, null, boolean, number, string, array, object, Items, no_items, item, Members, no_members, member, put, depth, items_depth, members_depth}
use Rattle.serde_json.specs.Read.{number_of, of_json, of_items, of_members, max_depth, read}
use Rattle.serde_json.specs.Written.{number_text, outline, items_outline, members_outline, compact_text}
use Rattle.serde_json.proofs.Numbers.{number_of-decimal, number_of-negative}
use Rattle.serde_json.proofs.Texts.{print-outline}
use Rattle.grid_told.specs.Trees.{IsWhole, HasWholes, ItemsHaveWholes, MembersHaveWholes, by_name, items_by_name, put_by_name}

-- ---- numbers

number_read : (n : Num) → IsWhole n → number_of (number_text n) ≡ Some n
number_read (unsigned n) h = number_of-decimal n h
number_read (negative (pos n)) h = absurd h
number_read (negative (negsuc n)) h = number_of-negative n h
number_read (float x) h = absurd h

minus_number : (digits : List ℕ) → 48 < get_or digits 0 0 → IsNumber digits → IsNumber (45 ∷ digits)
unfolding after_number
minus_number [] first h = absurd (omega (arith, first))
minus_number (d ∷ ds) first h =
    sym (ap (λ b. option_and_then after_exponent (option_and_then after_fraction (after_whole (cond b ds (d ∷ ds))))) (ne_eqb d 45 (λ e. omega (arith, first, e)))) ∙ h

number_printed : (n : Num) → IsWhole n → IsNumber (number_text n)
number_printed (unsigned n) h = IsNumber-decimal n h
number_printed (negative (pos n)) h = absurd h
number_printed (negative (negsuc n)) h = minus_number (decimal (suc n)) (first_decimal (suc n) (omega arith) (omega (arith, h))) (IsNumber-decimal (suc n) (omega (arith, h)))
number_printed (float x) h = absurd h

-- ---- tokens

mutual
  numbers : (d : Data) → HasWholes d → tree.HasNumbers (outline d)
  numbers null h = tt
  numbers (boolean b) h = tt
  numbers (number n) h = number_printed n h
  numbers (string s) h = tt
  numbers (array ds) h = items_numbers ds h
  numbers (object ms) h = members_numbers ms h

  items_numbers : (ds : Items) → ItemsHaveWholes ds → tree.ItemsHaveNumbers (items_outline ds)
  items_numbers no_items h = tt
  items_numbers (item d ds) h = (numbers d h.0, items_numbers ds h.1)

  members_numbers : (ms : Members) → MembersHaveWholes ms → tree.MembersHaveNumbers (members_outline ms)
  members_numbers no_members h = tt
  members_numbers (member k d ms) h = (numbers d h.0, members_numbers ms h.1)

mutual
  same_depth : (d : Data) → tree.depth (outline d) ≡ depth d
  same_depth null = refl
  same_depth (boolean b) = refl
  same_depth (number n) = refl
  same_depth (string s) = refl
  same_depth (array ds) = ap suc (items_same_depth ds)
  same_depth (object ms) = ap suc (members_same_depth ms)

  items_same_depth : (ds : Items) → tree.items_depth (items_outline ds) ≡ items_depth ds
  items_same_depth no_items = refl
  items_same_depth (item d ds) = ap₂ max (same_depth d) (items_same_depth ds)

  members_same_depth : (ms : Members) → tree.members_depth (members_outline ms) ≡ members_depth ms
  members_same_depth no_members = refl
  members_same_depth (member k d ms) = ap₂ max (same_depth d) (members_same_depth ms)

tree_tokens : (d : Data) → HasWholes d → tokens (compact_text d) ≡ tree.json_tokens (outline d)
tree_tokens d h = ap tokens (sym (print-outline d)) ∙ tokens-print (tree.json_tokens (outline d)) (ArePrintable-json_tokens (outline d) (numbers d h))

pub tree_parsed : (d : Data) (deepest : ℕ) → HasWholes d → depth d ≤ deepest → json.value deepest (tokens (compact_text d)) ≡ Some (outline d, [])
tree_parsed d deepest h shallow =
    let same = same_depth d in
    ap (json.value deepest) (tree_tokens d h ∙ sym (append-nil (tree.json_tokens (outline d)))) ∙ value-json_tokens (outline d) deepest [] (omega (arith, same, shallow))

-- ---- values

mutual
  value_of : (d : Data) → HasWholes d → of_json (outline d) ≡ Some (by_name d)
  value_of null h = refl
  value_of (boolean b) h = refl
  value_of (number n) h = ap (option_map number) (number_read n h)
  value_of (string s) h = refl
  value_of (array ds) h = ap (option_map array) (items_of ds h)
  value_of (object ms) h = ap (option_map object) (members_of ms no_members h)

  items_of : (ds : Items) → ItemsHaveWholes ds → of_items (items_outline ds) ≡ Some (items_by_name ds)
  items_of no_items h = refl
  items_of (item d ds) h = rw (value_of d h.0, items_of ds h.1) refl

  members_of : (ms before : Members) → MembersHaveWholes ms → of_members (members_outline ms) before ≡ Some (put_by_name ms before)
  members_of no_members before h = refl
  members_of (member k d ms) before h = ap (option_and_then (λ x. of_members (members_outline ms) (put k x before))) (value_of d h.0) ∙ members_of ms (put k (by_name d) before) h.1

pub tree_read : (d : Data) → HasWholes d → depth d ≤ max_depth → read (compact_text d) ≡ Some (by_name d)
tree_read d h shallow = ap (λ o. option_and_then of_json (option_and_then (λ p. json.if_last p.0 p.1) o)) (tree_parsed d max_depth h shallow) ∙ value_of d h

-- ---- a tree by its text

abbrev number_or_none : Option Num → Num
number_or_none None = unsigned 0
number_or_none (Some n) = n

-- the value whose members stand in the order of the text
abbrev mutual
  tree_in : json.Json → Data
  tree_in json.null = null
  tree_in (json.boolean b) = boolean b
  tree_in (json.number s) = number (number_or_none (number_of s))
  tree_in (json.string s) = string s
  tree_in (json.array js) = array (items_in js)
  tree_in (json.object ms) = object (members_in ms)

  items_in : json.Items → Items
  items_in json.no_items = no_items
  items_in (json.item j js) = item (tree_in j) (items_in js)

  members_in : json.Members → Members
  members_in json.no_members = no_members
  members_in (json.member k j ms) = member k (tree_in j) (members_in ms)

mutual
  back : (d : Data) → HasWholes d → tree_in (outline d) ≡ d
  back null h = refl
  back (boolean b) h = refl
  back (number n) h = ap (λ o. number (number_or_none o)) (number_read n h)
  back (string s) h = refl
  back (array ds) h = ap array (items_back ds h)
  back (object ms) h = ap object (members_back ms h)

  items_back : (ds : Items) → ItemsHaveWholes ds → items_in (items_outline ds) ≡ ds
  items_back no_items h = refl
  items_back (item d ds) h = ap₂ item (back d h.0) (items_back ds h.1)

  members_back : (ms : Members) → MembersHaveWholes ms → members_in (members_outline ms) ≡ ms
  members_back no_members h = refl
  members_back (member k d ms) h = ap₂ (member k) (back d h.0) (members_back ms h.1)

abbrev first_tree : Option (json.Json × List Token) → Data
first_tree None = null
first_tree (Some p) = tree_in p.0

-- trees of equal texts are equal
pub tree_told : (d e : Data) → HasWholes d → HasWholes e → compact_text d ≡ compact_text e → d ≡ e
tree_told d e h k same =
    let deepest = max (depth d) (depth e) in
    let one = tree_parsed d deepest h (omega arith) in
    let other = tree_parsed e deepest k (omega arith) in
    sym (back d h) ∙ ap first_tree (sym one ∙ ap (λ text. json.value deepest (tokens text)) same ∙ other) ∙ back e k
