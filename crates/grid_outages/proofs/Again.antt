-- Ids may be put out in any order, and one that comes again changes nothing.
use Rattle.std.proofs.Common.{◌≡◌, inl, inr, refl, sym, ap, ◌∙◌, subst, ℕ, zero, suc, Bool, true, false, cond, not, List, [], ◌∷◌, ◌++◌, ◌+◌, ◌<◌, length, get_or, take, Option, Some, None}
use Rattle.std.specs.Prelude.{filter, fold, slice_set}
use Rattle.std.proofs.lemmas.Bool.{or_cases, false≢true}
use Rattle.std.proofs.lemmas.List.{take_more}
use Rattle.grid_json.specs.Seen.{Knows}
use Rattle.grid_json.proofs.IdSets.{knows-append}
use Rattle.grid_ids.specs.Name.{same_id, has_id}
use Rattle.grid_ids.proofs.Alike.{same_is}
use Rattle.grid_level.specs.declared.Placed.{Placed}
use Rattle.grid_level.specs.VoltageLevel.{VoltageLevel}
use Rattle.grid_level.specs.LevelEdits.{level_without_equipment}
use Rattle.grid_states.specs.Rows.{row_at, with_row, with_flag}
use Rattle.grid_structure.specs.Network.{Network}
use Rattle.grid_structure.specs.Sites.{find_switch, site}
use Rattle.grid_structure.specs.Clearing.{cleared, cleared_at}
use Rattle.grid_outages.specs.Steps.{level_of_site, cleared_side, taken_out, levels_by, rows_by, levels_with_out, rows_with_out, levels_after, rows_after}

-- ---- steps that swap and settle

module _ {S : Type 0} (step : S → List ℕ → S) (swaps : (s : S) (a b : List ℕ) → step (step s a) b ≡ step (step s b) a) (settles : (s : S) (a : List ℕ) → step (step s a) a ≡ step s a) where
  moved : (s : S) (ids : List (List ℕ)) (id : List ℕ) → step (fold step s ids) id ≡ fold step (step s id) ids
  moved s [] id = refl
  moved s (x ∷ ids) id = moved (step s x) ids id ∙ ap (λ z. fold step z ids) (swaps s x id)

  again : (s : S) (ids : List (List ℕ)) (id : List ℕ) → has_id ids id ≡ true → step (fold step s ids) id ≡ fold step s ids
  unfolding has_id
  again s [] id h = absurd (false≢true h)
  again s (x ∷ ids) id h = elim (or_cases (same_id id x) (has_id ids id) h) [
    | inl e ↦ (let same : id ≡ x = same_is id x e in moved (step s x) ids id ∙ ap (λ z. fold step z ids) (subst (λ z. step (step s x) z ≡ step s x) (sym same) (settles s x)))
    | inr e ↦ again (step s x) ids id e
  ]

-- ---- flags

set_swap : (row : List Bool) (p q : ℕ) → slice_set (slice_set row p true) q true ≡ slice_set (slice_set row q true) p true
set_swap [] p q = refl
set_swap (x ∷ row) zero zero = refl
set_swap (x ∷ row) zero (suc q) = refl
set_swap (x ∷ row) (suc p) zero = refl
set_swap (x ∷ row) (suc p) (suc q) = ap (λ z. x ∷ z) (set_swap row p q)

set_twice : (row : List Bool) (p : ℕ) → slice_set (slice_set row p true) p true ≡ slice_set row p true
set_twice [] p = refl
set_twice (x ∷ row) zero = refl
set_twice (x ∷ row) (suc p) = ap (λ z. x ∷ z) (set_twice row p)

flag_swap : (rows : List (List Bool)) (k p j q : ℕ) → with_flag (with_flag rows k p true) j q true ≡ with_flag (with_flag rows j q true) k p true
unfolding with_flag with_row row_at
flag_swap [] k p j q = refl
flag_swap (r ∷ rows) zero p zero q = ap (λ z. z ∷ rows) (set_swap r p q)
flag_swap (r ∷ rows) zero p (suc j) q = refl
flag_swap (r ∷ rows) (suc k) p zero q = refl
flag_swap (r ∷ rows) (suc k) p (suc j) q = ap (λ z. r ∷ z) (flag_swap rows k p j q)

flag_twice : (rows : List (List Bool)) (k p : ℕ) → with_flag (with_flag rows k p true) k p true ≡ with_flag rows k p true
unfolding with_flag with_row row_at
flag_twice [] k p = refl
flag_twice (r ∷ rows) zero p = ap (λ z. z ∷ rows) (set_twice r p)
flag_twice (r ∷ rows) (suc k) p = ap (λ z. r ∷ z) (flag_twice rows k p)

by_swap : (o u : Option (ℕ × ℕ)) (rows : List (List Bool)) → rows_by u (rows_by o rows) ≡ rows_by o (rows_by u rows)
by_swap (Some at) (Some it) rows = flag_swap rows at.0 at.1 it.0 it.1
by_swap (Some at) None rows = refl
by_swap None (Some it) rows = refl
by_swap None None rows = refl

by_twice : (o : Option (ℕ × ℕ)) (rows : List (List Bool)) → rows_by o (rows_by o rows) ≡ rows_by o rows
by_twice (Some at) rows = flag_twice rows at.0 at.1
by_twice None rows = refl

pub rows_again : (net : Network) (ids : List (List ℕ)) (rows : List (List Bool)) (id : List ℕ) → has_id ids id ≡ true → rows_with_out net (rows_after net ids rows) id ≡ rows_after net ids rows
unfolding rows_with_out rows_after
rows_again net ids rows id h =
    again (rows_with_out net) (λ s a b. by_swap (find_switch net a) (find_switch net b) s) (λ s a. by_twice (find_switch net a) s) rows ids id h

-- ---- terminals

module _ {X : Type 0} where
  filter_swap : (p q : X → Bool) (xs : List X) → filter p (filter q xs) ≡ filter q (filter p xs)
  filter_swap p q [] = refl
  filter_swap p q (x ∷ xs) = by (p x) (q x) refl refl (filter_swap p q xs)
    where
      by : (a b : Bool) → p x ≡ a → q x ≡ b → filter p (filter q xs) ≡ filter q (filter p xs) → filter p (cond b (x ∷ filter q xs) (filter q xs)) ≡ filter q (cond a (x ∷ filter p xs) (filter p xs))
      by true true e f rest = ap (λ t. cond t (x ∷ filter p (filter q xs)) (filter p (filter q xs))) e ∙ ap (λ z. x ∷ z) rest ∙ sym (ap (λ t. cond t (x ∷ filter q (filter p xs)) (filter q (filter p xs))) f)
      by true false e f rest = rest ∙ sym (ap (λ t. cond t (x ∷ filter q (filter p xs)) (filter q (filter p xs))) f)
      by false true e f rest = ap (λ t. cond t (x ∷ filter p (filter q xs)) (filter p (filter q xs))) e ∙ rest
      by false false e f rest = rest

  filter_twice : (p : X → Bool) (xs : List X) → filter p (filter p xs) ≡ filter p xs
  filter_twice p [] = refl
  filter_twice p (x ∷ xs) = by (p x) refl (filter_twice p xs)
    where
      by : (t : Bool) → p x ≡ t → filter p (filter p xs) ≡ filter p xs → filter p (cond t (x ∷ filter p xs) (filter p xs)) ≡ cond t (x ∷ filter p xs) (filter p xs)
      by true e rest = ap (λ t. cond t (x ∷ filter p (filter p xs)) (filter p (filter p xs))) e ∙ ap (λ z. x ∷ z) rest
      by false e rest = rest

abbrev other : List ℕ → Placed → Bool
other id p = not (same_id id p.terminal.equipment)

level_swap : (a b : List ℕ) (l : VoltageLevel) → level_without_equipment b (level_without_equipment a l) ≡ level_without_equipment a (level_without_equipment b l)
unfolding level_without_equipment
level_swap a b l = ap (λ z. record l { placed = z }) (filter_swap (other b) (other a) l.placed)

level_twice : (a : List ℕ) (l : VoltageLevel) → level_without_equipment a (level_without_equipment a l) ≡ level_without_equipment a l
unfolding level_without_equipment
level_twice a l = ap (λ z. record l { placed = z }) (filter_twice (other a) l.placed)

at_swap : (a b : List ℕ) (k j : ℕ) (ls : List VoltageLevel) → cleared_at b j (cleared_at a k ls) ≡ cleared_at a k (cleared_at b j ls)
unfolding cleared_at
at_swap a b k j [] = refl
at_swap a b zero zero (l ∷ ls) = ap (λ z. z ∷ ls) (level_swap a b l)
at_swap a b zero (suc j) (l ∷ ls) = refl
at_swap a b (suc k) zero (l ∷ ls) = refl
at_swap a b (suc k) (suc j) (l ∷ ls) = ap (λ z. l ∷ z) (at_swap a b k j ls)

at_twice : (a : List ℕ) (k : ℕ) (ls : List VoltageLevel) → cleared_at a k (cleared_at a k ls) ≡ cleared_at a k ls
unfolding cleared_at
at_twice a k [] = refl
at_twice a zero (l ∷ ls) = ap (λ z. z ∷ ls) (level_twice a l)
at_twice a (suc k) (l ∷ ls) = ap (λ z. l ∷ z) (at_twice a k ls)

swap : (a b : List ℕ) (k j : Option ℕ) (ls : List VoltageLevel) → cleared b j (cleared a k ls) ≡ cleared a k (cleared b j ls)
swap a b (Some k) (Some j) ls = at_swap a b k j ls
swap a b (Some k) None ls = refl
swap a b None (Some j) ls = refl
swap a b None None ls = refl

twice : (a : List ℕ) (k : Option ℕ) (ls : List VoltageLevel) → cleared a k (cleared a k ls) ≡ cleared a k ls
twice a (Some k) ls = at_twice a k ls
twice a None ls = refl

-- all three sides of an equipment
abbrev all_out : List ℕ → (k l m : Option ℕ) → List VoltageLevel → List VoltageLevel
all_out id k l m ls = cleared id m (cleared id l (cleared id k ls))

past : (a b : List ℕ) (k l m j : Option ℕ) (ls : List VoltageLevel) → cleared b j (all_out a k l m ls) ≡ all_out a k l m (cleared b j ls)
past a b k l m j ls = swap a b m j (cleared a l (cleared a k ls)) ∙ ap (cleared a m) (swap a b l j (cleared a k ls)) ∙ ap (λ z. cleared a m (cleared a l z)) (swap a b k j ls)

all_swap : (a b : List ℕ) (k l m x y z : Option ℕ) (ls : List VoltageLevel) → all_out b x y z (all_out a k l m ls) ≡ all_out a k l m (all_out b x y z ls)
all_swap a b k l m x y z ls =
    ap (λ w. cleared b z (cleared b y w)) (past a b k l m x ls) ∙ ap (cleared b z) (past a b k l m y (cleared b x ls)) ∙ past a b k l m z (cleared b y (cleared b x ls))

all_twice : (a : List ℕ) (k l m : Option ℕ) (ls : List VoltageLevel) → all_out a k l m (all_out a k l m ls) ≡ all_out a k l m ls
all_twice a k l m ls =
    let first = past a a k l m k ls ∙ ap (λ z. cleared a m (cleared a l z)) (twice a k ls) in
    let second = swap a a m l (cleared a l (cleared a k ls)) ∙ ap (cleared a m) (twice a l (cleared a k ls)) in
    ap (λ z. cleared a m (cleared a l z)) first ∙ ap (cleared a m) second ∙ twice a m (cleared a l (cleared a k ls))

out_swap : (net : Network) (a b : List ℕ) (o u : Option (ℕ × ℕ)) (ls : List VoltageLevel) → levels_by net b u (levels_by net a o ls) ≡ levels_by net a o (levels_by net b u ls)
unfolding taken_out cleared_side
out_swap net a b (Some x) (Some y) ls = refl
out_swap net a b (Some x) None ls = refl
out_swap net a b None (Some y) ls = refl
out_swap net a b None None ls =
    all_swap a b (level_of_site (site net a 1)) (level_of_site (site net a 2)) (level_of_site (site net a 3)) (level_of_site (site net b 1)) (level_of_site (site net b 2)) (level_of_site (site net b 3)) ls

out_twice : (net : Network) (a : List ℕ) (o : Option (ℕ × ℕ)) (ls : List VoltageLevel) → levels_by net a o (levels_by net a o ls) ≡ levels_by net a o ls
unfolding taken_out cleared_side
out_twice net a (Some x) ls = refl
out_twice net a None ls = all_twice a (level_of_site (site net a 1)) (level_of_site (site net a 2)) (level_of_site (site net a 3)) ls

pub levels_again : (net : Network) (ids : List (List ℕ)) (ls : List VoltageLevel) (id : List ℕ) → has_id ids id ≡ true → levels_with_out net (levels_after net ids ls) id ≡ levels_after net ids ls
unfolding levels_with_out levels_after
levels_again net ids ls id h =
    again (levels_with_out net) (λ s a b. out_swap net a b (find_switch net a) (find_switch net b) s) (λ s a. out_twice net a (find_switch net a) s) ls ids id h

-- a set that knows the ids before a place, with the one there
pub knows_more : (seen new ids : List (List ℕ)) (i : ℕ) (id : List ℕ) → i < length ids → id ≡ get_or ids i id → Knows seen (take i ids) → Knows new (seen ++ id ∷ []) → Knows new (take (i + 1) ids)
knows_more seen new ids i id lt at k h q = h q ∙ knows-append seen (take i ids) (id ∷ []) k q ∙ ap (λ z. has_id z q) (sym (take_more ids i id lt ∙ ap (λ z. take i ids ++ z ∷ []) (sym at)))
