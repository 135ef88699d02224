-- The texts of objects and arrays, part by part.
use Rattle.std.proofs.Common.{◌≡◌, refl, sym, ap, ◌∙◌, ℕ, List, [], ◌∷◌, ◌++◌, true, false, map, append_assoc, append-nil, Result, length, get_or, take, drop, ◌≤◌, ◌-◌, arith}
use Rattle.std.proofs.lemmas.List.{take_rest}
use Rattle.std.proofs.lemmas.List.Concat.{flat_map-append}
use Rattle.std.specs.List.{flat_map}
use Rattle.json.specs.Print.{quoted}
use Rattle.serde_json.specs.Data.{Data}
use Rattle.serde_json.specs.View.{items_of}
use Rattle.serde_json.specs.Written.{compact_text, items_text, members_text, comma_if}
use Rattle.grid_print.specs.Objects.{array_of}
use Rattle.grid_print.specs.Job.{line_of}
use Rattle.grid_report.specs.Puts.{Puts}
use Rattle.grid_jsonl.specs.Trees.{ordered, members_of, name_text, field_text, more_text, fields_text}
use Rattle.grid_jsonl.proofs.Puts.{put_with}

-- ---- arrays

others_text : {A : Type 0} (v : A → Data) (xs : List A) → items_text true (items_of (map v xs)) ≡ flat_map (λ x. 44 ∷ compact_text (v x)) xs ++ 93 ∷ []
others_text v [] = refl
others_text v (x ∷ xs) = ap (λ l. 44 ∷ (compact_text (v x) ++ l)) (others_text v xs) ∙ sym (append_assoc (44 ∷ compact_text (v x)) (flat_map (λ y. 44 ∷ compact_text (v y)) xs) (93 ∷ []))

pub items_text_is : {A : Type 0} (v : A → Data) (x : A) (xs : List A) → compact_text (array_of v (x ∷ xs)) ≡ 91 ∷ (compact_text (v x) ++ (flat_map (λ y. 44 ∷ compact_text (v y)) xs ++ 93 ∷ []))
items_text_is v x xs = ap (λ l. 91 ∷ (compact_text (v x) ++ l)) (others_text v xs)

-- ---- objects

one_text : (later : _) (f : List ℕ × Data) → field_text later f ≡ comma_if later ++ (quoted f.0 ++ 58 ∷ compact_text f.1)
unfolding field_text name_text
one_text later f = append_assoc (comma_if later) (quoted f.0 ++ 58 ∷ []) (compact_text f.1) ∙ ap (λ l. comma_if later ++ l) (append_assoc (quoted f.0) (58 ∷ []) (compact_text f.1))

-- a member and those behind it
one_more : (later : _) (f : List ℕ × Data) (rest : List ℕ) → comma_if later ++ (quoted f.0 ++ 58 ∷ (compact_text f.1 ++ rest)) ≡ field_text later f ++ rest
one_more later f rest =
    sym (ap (λ l. l ++ rest) (one_text later f) ∙ append_assoc (comma_if later) (quoted f.0 ++ 58 ∷ compact_text f.1) rest ∙ ap (λ l. comma_if later ++ l) (append_assoc (quoted f.0) (58 ∷ compact_text f.1) rest))

more_members : (fields : List (List ℕ × Data)) → members_text true (members_of fields) ≡ more_text fields ++ 125 ∷ []
more_members [] = refl
more_members (f ∷ fields) =
    one_more true f (members_text true (members_of fields)) ∙ ap (λ l. field_text true f ++ l) (more_members fields)
    ∙ sym (append_assoc (field_text true f) (more_text fields) (125 ∷ []))

pub object_text : (f : List ℕ × Data) (fields : List (List ℕ × Data)) → compact_text (ordered (f ∷ fields)) ≡ 123 ∷ (field_text false f ++ (more_text fields ++ 125 ∷ []))
unfolding ordered
object_text f fields = ap (λ l. 123 ∷ l) (one_more false f (members_text true (members_of fields)) ∙ ap (λ l. field_text false f ++ l) (more_members fields))

comma_first : (g : List ℕ × Data) (gs : List (List ℕ × Data)) → 44 ∷ fields_text (g ∷ gs) ≡ more_text (g ∷ gs)
unfolding field_text name_text
comma_first g gs = refl

-- ---- objects and arrays that are put part by part

-- an object was opened, and has these members
pub record Open (old : List ℕ) (fields : List (List ℕ × Data)) (now : List ℕ) : Type 0 where
  pub is : now ≡ old ++ 123 ∷ fields_text fields

pub begun : (old now : List ℕ) (f : List ℕ × Data) → now ≡ old ++ 123 ∷ field_text false f → Open old (f ∷ []) now
begun old now f e = record { is = e ∙ ap (λ l. old ++ 123 ∷ l) (sym (append-nil (field_text false f))) }

-- members that are put at once
pub begun_with : (old opened now : List ℕ) (f : List ℕ × Data) (fields : List (List ℕ × Data)) → opened ≡ old ++ 123 ∷ [] → now ≡ opened ++ fields_text (f ∷ fields) → Open old (f ∷ fields) now
begun_with old opened now f fields a b = record { is = b ∙ ap (λ l. l ++ fields_text (f ∷ fields)) a ∙ append_assoc old (123 ∷ []) (fields_text (f ∷ fields)) }

last_more : (fields : List (List ℕ × Data)) (g : List ℕ × Data) → more_text (fields ++ g ∷ []) ≡ more_text fields ++ field_text true g
last_more [] g = append-nil (field_text true g)
last_more (f ∷ fields) g = ap (λ l. field_text true f ++ l) (last_more fields g) ∙ sym (append_assoc (field_text true f) (more_text fields) (field_text true g))

last_field : (f : List ℕ × Data) (fields : List (List ℕ × Data)) (g : List ℕ × Data) → fields_text (f ∷ (fields ++ g ∷ [])) ≡ fields_text (f ∷ fields) ++ field_text true g
last_field f fields g = ap (λ l. field_text false f ++ l) (last_more fields g) ∙ sym (append_assoc (field_text false f) (more_text fields) (field_text true g))

pub more : {old now : List ℕ} {f : List ℕ × Data} {fields : List (List ℕ × Data)} (next : List ℕ) (g : List ℕ × Data) → Open old (f ∷ fields) now → next ≡ now ++ field_text true g → Open old (f ∷ (fields ++ g ∷ [])) next
more {old} {now} {f} {fields} next g o e = record {
  is = e ∙ ap (λ l. l ++ field_text true g) o.is ∙ append_assoc old (123 ∷ fields_text (f ∷ fields)) (field_text true g)
      ∙ ap (λ l. old ++ 123 ∷ l) (sym (last_field f fields g));
}

-- several members more
list_more : (fields gs : List (List ℕ × Data)) → more_text (fields ++ gs) ≡ more_text fields ++ more_text gs
list_more [] gs = refl
list_more (f ∷ fields) gs = ap (λ l. field_text true f ++ l) (list_more fields gs) ∙ sym (append_assoc (field_text true f) (more_text fields) (more_text gs))

pub more_of : {old now : List ℕ} {f : List ℕ × Data} {fields : List (List ℕ × Data)} (next : List ℕ) (gs : List (List ℕ × Data)) → Open old (f ∷ fields) now → next ≡ now ++ more_text gs → Open old (f ∷ (fields ++ gs)) next
more_of {old} {now} {f} {fields} next gs o e = record {
  is = e ∙ ap (λ l. l ++ more_text gs) o.is ∙ append_assoc old (123 ∷ fields_text (f ∷ fields)) (more_text gs)
      ∙ ap (λ l. old ++ 123 ∷ l) (append_assoc (field_text false f) (more_text fields) (more_text gs) ∙ ap (λ l. field_text false f ++ l) (sym (list_more fields gs)));
}

-- members that stand in an object which is already open begin behind a comma
pub more_in : {old now : List ℕ} {f : List ℕ × Data} {fields : List (List ℕ × Data)} (comma next : List ℕ) (g : List ℕ × Data) (gs : List (List ℕ × Data)) → Open old (f ∷ fields) now → comma ≡ now ++ 44 ∷ [] → next ≡ comma ++ fields_text (g ∷ gs) → Open old (f ∷ (fields ++ g ∷ gs)) next
more_in {old} {now} comma next g gs o a b = more_of next (g ∷ gs) o (b ∙ ap (λ l. l ++ fields_text (g ∷ gs)) a ∙ append_assoc now (44 ∷ []) (fields_text (g ∷ gs)) ∙ ap (λ l. now ++ l) (comma_first g gs))

closed : {old now : List ℕ} {f : List ℕ × Data} {fields : List (List ℕ × Data)} (next : List ℕ) → Open old (f ∷ fields) now → next ≡ now ++ 125 ∷ [] → next ≡ old ++ compact_text (ordered (f ∷ fields))
closed {old} {now} {f} {fields} next o e =
    e ∙ ap (λ l. l ++ 125 ∷ []) o.is ∙ append_assoc old (123 ∷ fields_text (f ∷ fields)) (125 ∷ [])
    ∙ ap (λ l. old ++ 123 ∷ l) (append_assoc (field_text false f) (more_text fields) (125 ∷ []))
    ∙ ap (λ l. old ++ l) (sym (object_text f fields))

-- the object is put where its closing brace is
pub ends : {E : Type 0} {old now next : List ℕ} {f : List ℕ × Data} {fields : List (List ℕ × Data)} {r : Result (Unit {0}) E} → Open old (f ∷ fields) now → Puts now (125 ∷ []) next r → Puts old (compact_text (ordered (f ∷ fields))) next r
ends {E} {old} {now} {next} o p = put_with (closed next o) p

-- the line of an object is put where its closing brace and the newline are
pub line_ends : {E : Type 0} {old now next : List ℕ} {f : List ℕ × Data} {fields : List (List ℕ × Data)} {r : Result (Unit {0}) E} → Open old (f ∷ fields) now → Puts now (125 ∷ 10 ∷ []) next r → Puts old (line_of (ordered (f ∷ fields))) next r
line_ends {E} {old} {now} {next} {f} {fields} o p =
    let whole = closed (now ++ 125 ∷ []) o refl in
    put_with (λ e. e ∙ sym (append_assoc now (125 ∷ []) (10 ∷ [])) ∙ ap (λ l. l ++ 10 ∷ []) whole ∙ append_assoc old (compact_text (ordered (f ∷ fields))) (10 ∷ [])) p

-- ---- members without braces

pub record Members (old : List ℕ) (fields : List (List ℕ × Data)) (now : List ℕ) : Type 0 where
  pub is : now ≡ old ++ fields_text fields

pub members : (old now : List ℕ) (fields : List (List ℕ × Data)) → now ≡ old ++ fields_text fields → Members old fields now
members old now fields e = record { is = e }

pub first_member : (old now : List ℕ) (f : List ℕ × Data) → now ≡ old ++ field_text false f → Members old (f ∷ []) now
first_member old now f e = record { is = e ∙ ap (λ l. old ++ l) (sym (append-nil (field_text false f))) }

one_member : {old now : List ℕ} {f : List ℕ × Data} {fields : List (List ℕ × Data)} (next : List ℕ) (g : List ℕ × Data) → Members old (f ∷ fields) now → next ≡ now ++ field_text true g → next ≡ old ++ fields_text (f ∷ (fields ++ g ∷ []))
one_member {old} {now} {f} {fields} next g o e =
    e ∙ ap (λ l. l ++ field_text true g) o.is ∙ append_assoc old (fields_text (f ∷ fields)) (field_text true g) ∙ ap (λ l. old ++ l) (sym (last_field f fields g))

pub next_member : {old now : List ℕ} {f : List ℕ × Data} {fields : List (List ℕ × Data)} (next : List ℕ) (g : List ℕ × Data) → Members old (f ∷ fields) now → next ≡ now ++ field_text true g → Members old (f ∷ (fields ++ g ∷ [])) next
next_member next g o e = record { is = one_member next g o e }

pub last_member : {E : Type 0} {old now next : List ℕ} {f : List ℕ × Data} {fields : List (List ℕ × Data)} {r : Result (Unit {0}) E} (g : List ℕ × Data) → Members old (f ∷ fields) now → Puts now (field_text true g) next r → Puts old (fields_text (f ∷ (fields ++ g ∷ []))) next r
last_member {E} {old} {now} {next} g o p = put_with (one_member next g o) p

whole : {A : Type 0} (xs : List A) (x : A) → 1 ≤ length xs → x ≡ get_or xs 0 x → x ∷ drop 1 xs ≡ xs
whole [] x some is = absurd (omega arith)
whole (y ∷ xs) x some is = ap (λ z. z ∷ xs) is

-- a list that is not empty, by its first item
pub first_and : {A : Type 0} (xs : List A) (x : A) → 1 ≤ length xs → x ≡ get_or xs 0 x → x ∷ take (length xs - 1) (drop 1 xs) ≡ xs
first_and xs x some is = ap (λ l. x ∷ l) (take_rest xs 1) ∙ whole xs x some is

-- the same of an array
pub array_ends : {E A : Type 0} {others next : List ℕ} {r : Result (Unit {0}) E} (v : A → Data) (x : A) (xs items : List A) (old opened first : List ℕ) → x ∷ xs ≡ items
    → opened ≡ old ++ 91 ∷ [] → first ≡ opened ++ compact_text (v x) → others ≡ first ++ flat_map (λ y. 44 ∷ compact_text (v y)) xs
    → Puts others (93 ∷ []) next r → Puts old (compact_text (array_of v items)) next r
array_ends v x xs items old opened first same a b c p =
    let rest = flat_map (λ y. 44 ∷ compact_text (v y)) xs in
    put_with (λ d. d ∙ ap (λ l. l ++ 93 ∷ []) (c ∙ ap (λ l. l ++ rest) (b ∙ ap (λ l. l ++ compact_text (v x)) a ∙ append_assoc old (91 ∷ []) (compact_text (v x))) ∙ append_assoc old (91 ∷ compact_text (v x)) rest)
    ∙ append_assoc old (91 ∷ (compact_text (v x) ++ rest)) (93 ∷ [])
    ∙ ap (λ l. old ++ 91 ∷ l) (append_assoc (compact_text (v x)) rest (93 ∷ []))
    ∙ ap (λ l. old ++ l) (sym (items_text_is v x xs))
    ∙ ap (λ l. old ++ compact_text (array_of v l)) same) p

-- an item more behind the first, behind a comma
pub other_more : {A : Type 0} (v : A → Data) (xs : List A) (x : A) (first now comma next : List ℕ) → now ≡ first ++ flat_map (λ y. 44 ∷ compact_text (v y)) xs
    → comma ≡ now ++ 44 ∷ [] → next ≡ comma ++ compact_text (v x) → next ≡ first ++ flat_map (λ y. 44 ∷ compact_text (v y)) (xs ++ x ∷ [])
other_more v xs x first now comma next so_far a b =
    let before = flat_map (λ y. 44 ∷ compact_text (v y)) xs in
    b ∙ ap (λ l. l ++ compact_text (v x)) (a ∙ ap (λ l. l ++ 44 ∷ []) so_far) ∙ append_assoc (first ++ before) (44 ∷ []) (compact_text (v x))
    ∙ append_assoc first before (44 ∷ compact_text (v x))
    ∙ ap (λ l. first ++ l) (ap (λ l. before ++ l) (sym (append-nil (44 ∷ compact_text (v x)))) ∙ sym (flat_map-append (λ y. 44 ∷ compact_text (v y)) xs (x ∷ [])))

-- a member is put where its name and then its value are
pub member_ends : {E : Type 0} {named next : List ℕ} {r : Result (Unit {0}) E} (name : List ℕ) (d : Data) (old : List ℕ) → named ≡ old ++ name_text true name
    → Puts named (compact_text d) next r → Puts old (field_text true (name, d)) next r
unfolding field_text
member_ends name d old a p = put_with (λ b. b ∙ ap (λ l. l ++ compact_text d) a ∙ append_assoc old (name_text true name) (compact_text d)) p
