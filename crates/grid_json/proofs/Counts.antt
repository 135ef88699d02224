-- Counting worker after worker, as a loop does.
use Rattle.std.proofs.Common.{◌≡◌, ℕ, ℤ, pos, suc, ◌+◌, ◌<◌, ◌≤◌, List, [], ◌∷◌, length, drop, get_or, Bool, true, false, ◌&&◌, refl, sym, ap, ◌∙◌, drop-cons, add-one, eqb, map, zero, arith}
use Rattle.std.specs.Prelude.{count_by}
use Rattle.std.proofs.lemmas.List.{drop_all}
use Rattle.grid_json.specs.Job.{stands_for, counts_from}

turn : (ns : List ℕ) (order : List ℤ) (i : ℕ) → i < length ns → counts_from i (drop i ns) order ≡ (eqb (count_by (stands_for (pos i)) order) (get_or ns i 0) && counts_from (suc i) (drop (suc i) ns) order)
unfolding counts_from
turn ns order i lt = rw (drop-cons ns i 0 lt) refl

pub differs : (ns : List ℕ) (order : List ℤ) (i : ℕ) (total : Bool) → i < length ns → eqb (count_by (stands_for (pos i)) order) (get_or ns i 0) ≡ false → counts_from i (drop i ns) order ≡ total → false ≡ total
differs ns order i total lt differ so_far = sym (turn ns order i lt ∙ rw differ refl) ∙ so_far

pub goes_on : (ns : List ℕ) (order : List ℤ) (i : ℕ) (total : Bool) → i < length ns → eqb (count_by (stands_for (pos i)) order) (get_or ns i 0) ≡ true → counts_from i (drop i ns) order ≡ total → counts_from (i + 1) (drop (i + 1) ns) order ≡ total
goes_on ns order i total lt same so_far = rw add-one (sym (turn ns order i lt ∙ rw same refl) ∙ so_far)

pub ends : (ns : List ℕ) (order : List ℤ) (i : ℕ) (total : Bool) → length ns ≤ i → counts_from i (drop i ns) order ≡ total → true ≡ total
unfolding counts_from
ends ns order i total le so_far = let none : drop i ns ≡ [] = drop_all i ns le in rw none at so_far

-- the length of the script at a place
pub at_script : {A : Type 0} (scripts : List (List A)) (i : ℕ) (script : List A) → i < length scripts → script ≡ get_or scripts i script → get_or (map length scripts) i 0 ≡ length script
at_script [] i script lt is = absurd (omega arith)
at_script (s ∷ scripts) zero script lt is = ap length (sym is)
at_script (s ∷ scripts) (suc i) script lt is = at_script scripts i script (omega arith) is
