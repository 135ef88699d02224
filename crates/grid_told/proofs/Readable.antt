-- Objects and arrays are readable where their parts are.
use Rattle.std.proofs.Common.{◌≡◌, ℕ, suc, ℤ, pos, negsuc, ◌^◌, ◌<◌, ◌≤◌, Bool, true, false, not, ◌&&◌, List, [], ◌∷◌, ◌++◌, Option, Some, None, Ordering, Less, Equal, Greater, refl, sym, ap, ◌∙◌, arith}
use Rattle.std.specs.Prelude.{⊤, IsUtf8, IfSome}
use Rattle.std.specs.Str.{bytes_eq}
use Rattle.std.specs.List.{AllByRecursion}
use Rattle.std.specs.Ordering.{nat_cmp, match_ordering, is_eq}
use Rattle.std.specs.Cmp.Lexicographic.{slice_cmp}
use Rattle.std.proofs.lemmas.Bool.{and_parts, true≢false}
use Rattle.std.proofs.lemmas.Slice.Eq.{bytes_eq-Decides}
use Rattle.std.proofs.lemmas.Map.Text.{is_eq-slice_cmp}
use Rattle.json.proofs.Printed.Utf8.{are_ascii, IsUtf8-are_ascii}
use Rattle.serde_json.specs.Data.{Data, boolean, string, Members, no_members, member, put, members_depth}
use Rattle.serde_json.specs.Find.{get_member}
use Rattle.serde_json.proofs.Views.{get_member-put_other}
use Rattle.grid_print.specs.Objects.{members_from, object_of, array_of, natural, whole, given}
use Rattle.grid_jsonl.specs.Trees.{members_of, ordered}
use Rattle.grid_told.specs.Trees.{MembersHaveWholes, MembersHaveTexts, MemberNamesDiffer}
use Rattle.grid_told.specs.Held.{IsSigned}
use Rattle.grid_told.specs.Shapes.{IsReadable}

-- ---- leaves

pub text_readable : (n : ℕ) (text : List ℕ) → IsUtf8 text → IsReadable n (string text)
text_readable n text h = record { wholes = tt; texts = h; names = tt; within = omega arith }

pub word_readable : (n : ℕ) (text : List ℕ) → are_ascii text ≡ true → IsReadable n (string text)
word_readable n text h = text_readable n text (IsUtf8-are_ascii text h)

pub flag_readable : (n : ℕ) (b : Bool) → IsReadable n (boolean b)
flag_readable n b = record { wholes = tt; texts = tt; names = tt; within = omega arith }

pub natural_readable : (n m : ℕ) → m < 2 ^ 64 → IsReadable n (natural m)
natural_readable n m h = record { wholes = h; texts = tt; names = tt; within = omega arith }

pub whole_readable : (n : ℕ) (z : ℤ) → IsSigned z → IsReadable n (whole z)
whole_readable n (pos m) h = natural_readable n m (omega (arith, h))
whole_readable n (negsuc m) h = record { wholes = h; texts = tt; names = tt; within = omega arith }

pub deeper : (n m : ℕ) (d : Data) → n ≤ m → IsReadable n d → IsReadable m d
deeper n m d more h = record { wholes = h.wholes; texts = h.texts; names = h.names; within = omega (arith, more, h.within) }

-- ---- arrays

pub array_readable : {A : Type 0} (P : A → Type 0) (n : ℕ) (written : A → Data) → ((x : A) → P x → IsReadable n (written x)) → (xs : List A) → AllByRecursion P xs → IsReadable (suc n) (array_of written xs)
array_readable P n written each [] h = record { wholes = tt; texts = tt; names = tt; within = omega arith }
array_readable P n written each (x ∷ xs) h =
    let here = each x h.0 in
    let later = array_readable P n written each xs h.1 in
    record { wholes = (here.wholes, later.wholes); texts = (here.texts, later.texts); names = (here.names, later.names); within = omega (arith, here.within, later.within) }

-- ---- objects

pub record MembersReadable (deepest : ℕ) (ms : Members) : Type 0 where
  pub wholes : MembersHaveWholes ms
  pub texts : MembersHaveTexts ms
  pub names : MemberNamesDiffer ms
  pub within : members_depth ms ≤ deepest

-- no member has the name
abbrev pub lacks : List ℕ → List (List ℕ × Data) → Bool
lacks name [] = true
lacks name (f ∷ fields) = not (bytes_eq name f.0) && lacks name fields

-- the names differ, and are ASCII
abbrev pub named : List (List ℕ × Data) → Bool
named [] = true
named (f ∷ fields) = are_ascii f.0 && (lacks f.0 fields && named fields)

abbrev pub FieldsReadable : ℕ → List (List ℕ × Data) → Type 0
FieldsReadable n [] = ⊤
FieldsReadable n (f ∷ fields) = IsReadable n f.1 × FieldsReadable n fields

pub fields_readable : (n : ℕ) (xs ys : List (List ℕ × Data)) → FieldsReadable n xs → FieldsReadable n ys → FieldsReadable n (xs ++ ys)
fields_readable n [] ys h k = k
fields_readable n (x ∷ xs) ys h k = (h.0, fields_readable n xs ys h.1 k)

not_true : (b : Bool) → not b ≡ true → b ≡ false
not_true true h = sym h
not_true false h = refl

apart : (name k : List ℕ) → not (bytes_eq name k) ≡ true → name ≡ k → ⊥
apart name k h same = true≢false (sym ((bytes_eq-Decides name k).1 same) ∙ not_true (bytes_eq name k) h)

skipped : (name k : List ℕ) (d : Data) (ms : Members) → not (bytes_eq name k) ≡ true → get_member name (member k d ms) ≡ get_member name ms
skipped name k d ms h = by (slice_cmp nat_cmp name k) (is_eq-slice_cmp name k ∙ not_true (bytes_eq name k) h)
  where
    by : (o : Ordering) → is_eq o ≡ false → match_ordering o (get_member name ms) (Some d) (get_member name ms) ≡ get_member name ms
    by Less e = refl
    by Equal e = absurd (true≢false e)
    by Greater e = refl

none_found : (name : List ℕ) (fields : List (List ℕ × Data)) → lacks name fields ≡ true → get_member name (members_of fields) ≡ None
none_found name [] h = refl
none_found name (f ∷ fields) h =
    let parts = and_parts (not (bytes_eq name f.0)) (lacks name fields) h in
    skipped name f.0 f.1 (members_of fields) parts.0 ∙ none_found name fields parts.1

one_more : (n : ℕ) (k : List ℕ) (d : Data) (ms : Members) → IsUtf8 k → get_member k ms ≡ None → IsReadable n d → MembersReadable n ms → MembersReadable n (member k d ms)
one_more n k d ms name none new old = record {
  wholes = (new.wholes, old.wholes);
  texts = (name, (new.texts, old.texts));
  names = (none, (new.names, old.names));
  within = omega (arith, new.within, old.within);
}

members_readable : (n : ℕ) (fields : List (List ℕ × Data)) → named fields ≡ true → FieldsReadable n fields → MembersReadable n (members_of fields)
members_readable n [] h k = record { wholes = tt; texts = tt; names = tt; within = omega arith }
members_readable n (f ∷ fields) h k =
    let parts = and_parts (are_ascii f.0) (lacks f.0 fields && named fields) h in
    let rest = and_parts (lacks f.0 fields) (named fields) parts.1 in
    one_more n f.0 f.1 (members_of fields) (IsUtf8-are_ascii f.0 parts.0) (none_found f.0 fields rest.0) k.0 (members_readable n fields rest.1 k.1)

-- members in an order of their own
pub ordered_readable : (n : ℕ) (fields : List (List ℕ × Data)) → named fields ≡ true → FieldsReadable n fields → IsReadable (suc n) (ordered fields)
unfolding ordered
ordered_readable n fields h k =
    let all = members_readable n fields h k in
    record { wholes = all.wholes; texts = all.texts; names = all.names; within = omega (arith, all.within) }

-- ---- members by byte order of their names

first_of : (n : ℕ) (k : List ℕ) (d : Data) (ms : Members) → MembersReadable n (member k d ms) → IsReadable n d × (MembersReadable n ms × (IsUtf8 k × (get_member k ms ≡ None)))
first_of n k d ms old = (
  record { wholes = old.wholes.0; texts = old.texts.1.0; names = old.names.1.0; within = omega (arith, old.within) },
  (record { wholes = old.wholes.1; texts = old.texts.1.1; names = old.names.1.1; within = omega (arith, old.within) }, (old.texts.0, old.names.0)),
)

later_none : (o : Ordering) (d : Data) (found : Option Data) → match_ordering o found (Some d) found ≡ None → found ≡ None
later_none Less d found h = h
later_none Equal d found h = absurd (cc)
later_none Greater d found h = h

put_readable : (n : ℕ) (k : List ℕ) (d : Data) (ms : Members) → IsUtf8 k → get_member k ms ≡ None → IsReadable n d → MembersReadable n ms → MembersReadable n (put k d ms)
put_readable n k d no_members name none new old = one_more n k d no_members name none new old
put_readable n k d (member l e ms) name none new old =
    let parts = first_of n l e ms old in
    let later = later_none (slice_cmp nat_cmp k l) e (get_member k ms) none in
    by (put_readable n k d ms name later new parts.1.0) parts (slice_cmp nat_cmp k l) refl
  where
    by : MembersReadable n (put k d ms) → IsReadable n e × (MembersReadable n ms × (IsUtf8 l × (get_member l ms ≡ None))) → (o : Ordering) → slice_cmp nat_cmp k l ≡ o
        → MembersReadable n (match_ordering o (member k d (member l e ms)) (member l d ms) (member l e (put k d ms)))
    by later parts Less is = one_more n k d (member l e ms) name none new old
    by later parts Equal is = one_more n l d ms parts.1.1.0 parts.1.1.1 new parts.1.0
    by later parts Greater is =
        let other : l ≡ k → ⊥ = λ same. true≢false (sym ((bytes_eq-Decides k l).1 (sym same)) ∙ sym (is_eq-slice_cmp k l) ∙ ap is_eq is) in
        one_more n l e (put k d ms) parts.1.1.0 (get_member-put_other l k d ms other ∙ parts.1.1.1) parts.0 later

-- none of these names stands there
abbrev Absent : List (List ℕ × Data) → Members → Type 0
Absent [] ms = ⊤
Absent (f ∷ fields) ms = (get_member f.0 ms ≡ None) × Absent fields ms

absent_put : (k : List ℕ) (d : Data) (ms : Members) (fields : List (List ℕ × Data)) → lacks k fields ≡ true → Absent fields ms → Absent fields (put k d ms)
absent_put k d ms [] h a = tt
absent_put k d ms (f ∷ fields) h a =
    let parts = and_parts (not (bytes_eq k f.0)) (lacks k fields) h in
    (get_member-put_other f.0 k d ms (λ same. apart k f.0 parts.0 (sym same)) ∙ a.0, absent_put k d ms fields parts.1 a.1)

from_readable : (n : ℕ) (ms : Members) (fields : List (List ℕ × Data)) → named fields ≡ true → Absent fields ms → FieldsReadable n fields → MembersReadable n ms → MembersReadable n (members_from ms fields)
unfolding members_from
from_readable n ms [] h a k old = old
from_readable n ms (f ∷ fields) h a k old =
    let parts = and_parts (are_ascii f.0) (lacks f.0 fields && named fields) h in
    let rest = and_parts (lacks f.0 fields) (named fields) parts.1 in
    from_readable n (put f.0 f.1 ms) fields rest.1 (absent_put f.0 f.1 ms fields rest.0 a.1) k.1 (put_readable n f.0 f.1 ms (IsUtf8-are_ascii f.0 parts.0) a.0 k.0 old)

absent_first : (fields : List (List ℕ × Data)) → Absent fields no_members
absent_first [] = tt
absent_first (f ∷ fields) = (refl, absent_first fields)

pub object_readable : (n : ℕ) (fields : List (List ℕ × Data)) → named fields ≡ true → FieldsReadable n fields → IsReadable (suc n) (object_of fields)
object_readable n fields h k =
    let all = from_readable n no_members fields h (absent_first fields) k (record { wholes = tt; texts = tt; names = tt; within = omega arith }) in
    record { wholes = all.wholes; texts = all.texts; names = all.names; within = omega (arith, all.within) }

-- a member that is given
pub given_readable : {A : Type 0} (P : A → Type 0) (n : ℕ) (name : List ℕ) (written : A → Data) → ((x : A) → P x → IsReadable n (written x)) → (o : Option A) → IfSome o P → FieldsReadable n (given name written o)
given_readable P n name written each None h = tt
given_readable P n name written each (Some x) h = (each x h, tt)
