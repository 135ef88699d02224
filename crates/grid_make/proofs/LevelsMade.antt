-- The levels of a made network are added one after the other, and no edit is refused.
use Rattle.std.proofs.Common.{◌≡◌, refl, sym, ap, ◌∙◌, subst, ℕ, zero, suc, ◌+◌, ◌*◌, ◌^◌, ◌<◌, ◌≤◌, Bool, true, false, cond, List, [], ◌∷◌, ◌++◌, length, arith, None, Ok, inl, inr, append_assoc}
use Rattle.std.specs.Prelude.{map, decimal, codes}
use Rattle.std.specs.List.{list_all, list_any}
use Rattle.std.proofs.lemmas.Bool.{and_parts, or_cases, lt-leb, ne_eqb, false≢true}
use Rattle.std.proofs.lemmas.List.{append-nil, map-append, length-append}
use Rattle.grid_ids.specs.Name.{same_id, has_id, ids_differ}
use Rattle.grid_ids.proofs.Alike.{same_is}
use Rattle.grid_kinds.specs.Records.{level_fault, limits_fault}
use Rattle.grid_level.specs.VoltageLevel.{VoltageLevel}
use Rattle.grid_structure.specs.Network.{Network, Substation}
use Rattle.grid_structure.specs.Sites.{levels, branches, level_ids, branch_ids, all_ids, taken}
use Rattle.grid_structure.specs.Editing.{apply, max_levels}
use Rattle.grid_structure.specs.declared.NamedBranch.{NamedBranch}
use Rattle.grid_structure.specs.declared.Edit.TheVariants as edits
use Rattle.grid_structure.proofs.SoundSubstations.{bare, apply_bare}
use Rattle.grid_structure.proofs.Counts.{times, times-append, differ-times, not_there}
use Rattle.grid_structure.proofs.Frames.{ids_of, locals, sub_ids, ids_counted, switch_total, switch_total-append}
use Rattle.grid_structure.proofs.LevelHomes.{none_there}
use Rattle.grid_structure.proofs.Substations.{names, levels_in, levels_at, transformers_at}
use Rattle.grid_structure.proofs.LastLevels.{growing, ending, earlier, levels_before, ids_ending, not_taken_before, none_earlier, substation_found, level_put}
use Rattle.grid_make.specs.Draws.{later, in_turn}
use Rattle.grid_make.specs.MadeNetwork.{substation_name, level_name, part_name, nominal, level_edits, unrefused}
use Rattle.grid_make.proofs.Turns.{and_then}
use Rattle.grid_make.proofs.IdNumbers.{is_tail, numbers_apart, tails_decide}
use Rattle.grid_make.proofs.LevelParts.{edit_of, all_tails, ids_with, ids_full, id_full, Room, filled}
use Rattle.grid_make.proofs.MadeLevel.{Flags, flags, parts, empty_level, filled_level, level_edits_are, parts_pass, tails_pass, tails_differ, part_count, switch_count}

abbrev pub made : List Substation → Network
made front = record { id = codes "M"; substations = front; lines = [] }

-- ---- ids of other levels

-- other than the ids of the levels below a number
abbrev pub Apart : ℕ → List ℕ → Type 0
Apart k q = (c j : ℕ) (t : List ℕ) → c < 84 → j < k → is_tail t ≡ true → same_id q (c ∷ (decimal j ++ t)) ≡ false

apart_part : (c k : ℕ) (t : List ℕ) → k < 2 ^ 64 → is_tail t ≡ true → Apart k (c ∷ (decimal k ++ t))
apart_part c k t small tail d j u letter less other = numbers_apart c d k j t u less small tail other

apart_bare : (c k : ℕ) → k < 2 ^ 64 → Apart k (c ∷ decimal k)
apart_bare c k small = subst (λ z. Apart k (c ∷ z)) (append-nil (decimal k)) (apart_part c k [] small refl)

-- a line's id begins with another letter
pub apart_letter : (k : ℕ) (r : List ℕ) → Apart k (84 ∷ r)
apart_letter k r c j t letter less tail = rw (ne_eqb 84 c (λ e. omega (arith, e, letter))) refl

-- ---- ids of one level

has_with : (i : ℕ) (t : List ℕ) (ts : List (List ℕ)) → has_id (ids_with i ts) (part_name i t) ≡ has_id ts t
unfolding has_id
has_with i t [] = refl
has_with i t (u ∷ ts) = rw (tails_decide (level_name i) t u, has_with i t ts) refl

differ_with : (i : ℕ) (ts : List (List ℕ)) → ids_differ (ids_with i ts) ≡ ids_differ ts
unfolding ids_differ
differ_with i [] = refl
differ_with i (t ∷ ts) = rw (has_with i t ts, differ_with i ts) refl

no_substation : (i : ℕ) (ts : List (List ℕ)) → has_id (ids_with i ts) (substation_name i) ≡ false
unfolding has_id
no_substation i [] = refl
no_substation i (t ∷ ts) = no_substation i ts

none_with : (i : ℕ) (ts : List (List ℕ)) (q : List ℕ) → list_all is_tail ts ≡ true → Apart (suc i) q → times q (ids_with i ts) ≡ 0
none_with i [] q h apart = refl
none_with i (t ∷ ts) q h apart =
    let both = and_parts (is_tail t) (list_all is_tail ts) h in
    rw (apart 76 i t (omega arith) (omega arith) both.0, none_with i ts q both.1 apart) refl

-- the level's own name stands first
own_names : (i : ℕ) (ts : List (List ℕ)) → level_name i ∷ ids_with i ts ≡ ids_with i ([] ∷ ts)
own_names i ts = ap (λ z. (76 ∷ z) ∷ ids_with i ts) (sym (append-nil (decimal i)))

-- ids that differ join others of which none is theirs
pub join_once : (xs ys : List (List ℕ)) → ((q : List ℕ) → times q xs ≤ 1) → ids_differ ys ≡ true → ((q : List ℕ) → has_id ys q ≡ true → times q xs ≡ 0) → (q : List ℕ) → times q xs + times q ys ≤ 1
join_once xs ys once differ none q = by (has_id ys q) refl
  where
    by : (t : Bool) → has_id ys q ≡ t → times q xs + times q ys ≤ 1
    by true e = omega (arith, none q e, differ-times ys differ q)
    by false e = omega (arith, once q, not_there q ys e)

-- ---- what stands before a level is added

pub record Before (k : ℕ) (front : List Substation) : Type 0 where
  pub once : (q : List ℕ) → times q (all_ids (made front)) ≤ 1
  pub none : (q : List ℕ) → Apart k q → times q (all_ids (made front)) ≡ 0
  pub level_count : length (levels_in front) ≡ k
  pub switches : switch_total (levels_in front) ≡ 13 * k

abbrev pub sub_with : ℕ → VoltageLevel → Substation
sub_with i l = record { id = substation_name i; levels = l ∷ []; transformers = [] }

module _ (i : ℕ) (w : Flags) (front : List Substation) (small : i < 1000) (b : Before i front) where
  abbrev id : List ℕ
  id = codes "M"

  abbrev s : Substation
  s = bare (substation_name i)

  abbrev base : Network
  base = growing id front s

  abbrev tails : List (List ℕ)
  tails = all_tails (parts w)

  base_ids : (q : List ℕ) → times q (all_ids base) ≡ times q (all_ids (made front)) + times q (substation_name i ∷ [])
  unfolding levels level_ids branch_ids branches
  base_ids q =
      let old = made front in
      let same : levels base ≡ levels old = levels_before id front s ∙ append-nil (levels_in front) in
      let a : times q (sub_ids base) ≡ times q (sub_ids old) + times q (substation_name i ∷ []) = ap (times q) (map-append (λ (x : Substation). x.id) front (s ∷ [])) ∙ times-append q (names front) (substation_name i ∷ []) in
      let d : times q (level_ids base) ≡ times q (level_ids old) = ap (λ (z : List VoltageLevel). times q (ids_of z)) same in
      let e : locals q (levels base) ≡ locals q (levels old) = ap (locals q) same in
      let f : times q (branch_ids base) ≡ times q (branch_ids old) = ap (λ (z : List NamedBranch). times q (map (λ (x : NamedBranch). x.id) (z ++ []))) (transformers_at front [] s ∙ append-nil _) in
      omega (arith, a, d, e, f, ids_counted q base, ids_counted q old)

  -- the ids of the level are new
  none_own : (ts : List (List ℕ)) (q : List ℕ) → list_all is_tail ts ≡ true → has_id (ids_with i ts) q ≡ true → times q (all_ids (made front)) ≡ 0
  unfolding has_id
  none_own [] q h there = absurd (false≢true there)
  none_own (t ∷ ts) q h there =
      let both = and_parts (is_tail t) (list_all is_tail ts) h in
      elim (or_cases (same_id q (part_name i t)) (list_any (same_id q) (ids_with i ts)) there) [
        | inl e ↦ b.none q (subst (λ z. Apart i z) (sym (same_is q (part_name i t) e)) (apart_part 76 i t (omega (arith, small)) both.0))
        | inr e ↦ none_own ts q both.1 e
      ]

  none_all : (ts : List (List ℕ)) (q : List ℕ) → list_all is_tail ts ≡ true → has_id (substation_name i ∷ ids_with i ts) q ≡ true → times q (all_ids (made front)) ≡ 0
  unfolding has_id
  none_all ts q h there = elim (or_cases (same_id q (substation_name i)) (list_any (same_id q) (ids_with i ts)) there) [
    | inl e ↦ b.none q (subst (λ z. Apart i z) (sym (same_is q (substation_name i) e)) (apart_bare 83 i (omega (arith, small))))
    | inr e ↦ none_own ts q h e
  ]

  all_differ : ids_differ (substation_name i ∷ ids_with i ([] ∷ tails)) ≡ true
  unfolding ids_differ
  all_differ = rw (no_substation i ([] ∷ tails)) (differ_with i ([] ∷ tails) ∙ tails_differ w)

  whole_once : (q : List ℕ) → times q (all_ids base) + (times q (level_name i ∷ []) + times q (ids_with i tails)) ≤ 1
  whole_once q =
      let all = join_once (all_ids (made front)) (substation_name i ∷ ids_with i ([] ∷ tails)) b.once all_differ (λ x e. none_all ([] ∷ tails) x (tails_pass w) e) q in
      let own : times q (level_name i ∷ ids_with i tails) ≡ times q (ids_with i ([] ∷ tails)) = ap (times q) (own_names i tails) in
      omega (arith, all, own, base_ids q)

  level_new : times (level_name i) (all_ids base) ≡ 0
  level_new = omega (arith, base_ids (level_name i), b.none (level_name i) (apart_bare 76 i (omega (arith, small))))

  substation_added : apply (made front) (edits.AddSubstation (substation_name i)) ≡ Ok base
  unfolding taken
  substation_added = apply_bare (substation_name i) (made front) (none_there (substation_name i) (all_ids (made front)) (b.none (substation_name i) (apart_bare 83 i (omega (arith, small)))))

  level_added : apply base (edits.AddLevel (level_name i) (substation_name i) nominal None None) ≡ Ok (ending id front s (empty_level i))
  unfolding apply level_fault limits_fault
  level_added =
      let once : times (substation_name i) (all_ids base) ≤ 1 = omega (arith, whole_once (substation_name i)) in
      let count : length (levels base) ≡ i = ap length (levels_before id front s ∙ append-nil (levels_in front)) ∙ b.level_count in
      rw (not_taken_before id front s (level_name i) level_new, substation_found id front s once, lt-leb max_levels (length (levels base)) (omega (arith, count, small)))
      (ap (λ (z : Network). Ok z) (level_put id front s (empty_level i) once))

  room : Room id front s i (empty_level i) (parts w)
  room = record {
    named = refl;
    alone = none_earlier id front s (level_name i) level_new;
    once = λ q. omega (arith, whole_once q);
    few = (let same : switch_total (earlier id front s) ≡ 13 * i = ap switch_total (append-nil (levels_in front)) ∙ b.switches in omega (arith, same, part_count w, small));
  }

  -- one level more
  pub level_made : unrefused (edits.AddSubstation (substation_name i) ∷ edits.AddLevel (level_name i) (substation_name i) nominal None None ∷ map (edit_of i) (parts w)) (made front) ≡ Ok (made (front ++ sub_with i (filled_level i w) ∷ []))
  unfolding unrefused
  level_made = rw (substation_added, level_added) (filled id front s i (empty_level i) (parts w) room (parts_pass i w))

  pub level_after : Before (suc i) (front ++ sub_with i (filled_level i w) ∷ [])
  level_after =
      let l = filled_level i w in
      let ids : (q : List ℕ) → times q (all_ids (made (front ++ sub_with i l ∷ []))) ≡ times q (all_ids base) + (times q (level_name i ∷ []) + times q (ids_with i tails)) =
      λ q. (let name : times q (l.id ∷ []) ≡ times q (level_name i ∷ []) = ap (λ z. times q (z ∷ [])) (id_full i (empty_level i) (parts w)) in omega (arith, ids_ending id front s q l, ids_full q i (empty_level i) (parts w), name)) in
      let are : levels_in (front ++ sub_with i l ∷ []) ≡ levels_in front ++ l ∷ [] = levels_at front [] (sub_with i l) in
      record {
        once = λ q. omega (arith, ids q, whole_once q);
        none = λ q apart.
            (let old = b.none q (λ c j t letter less tail. apart c j t letter (omega (arith, less)) tail) in
            let own : times q (level_name i ∷ ids_with i tails) ≡ 0 = ap (times q) (own_names i tails) ∙ none_with i ([] ∷ tails) q (tails_pass w) apart in
            let sub : times q (substation_name i ∷ []) ≡ 0 = rw (append-nil (decimal i)) at (ap (λ t. cond t 1 0 + 0) (apart 83 i [] (omega arith) (omega arith) refl)) in
            omega (arith, ids q, base_ids q, old, own, sub));
        level_count = omega (arith, ap length are, length-append (levels_in front) (l ∷ []), b.level_count);
        switches = (let all : switch_total (levels_in (front ++ sub_with i l ∷ [])) ≡ switch_total (levels_in front) + switch_total (l ∷ []) = ap switch_total are ∙ switch_total-append (levels_in front) (l ∷ []) in
            omega (arith, all, switch_count i w, b.switches));
      }

-- ---- all levels

abbrev pub made_subs : ℕ → ℕ → ℕ → List Substation
made_subs size i before = sub_with i (filled_level i (flags size i before)) ∷ []

pub record Levels (size from count before : ℕ) (front : List Substation) : Type 0 where
  pub accepted : unrefused (in_turn (level_edits size) (later 5) from count before) (made front) ≡ Ok (made (front ++ in_turn (made_subs size) (later 5) from count before))
  pub after : Before (from + count) (front ++ in_turn (made_subs size) (later 5) from count before)

pub levels_made : (size from count before : ℕ) (front : List Substation) → from + count ≤ 1000 → Before from front → Levels size from count before front
unfolding in_turn unrefused
levels_made size from zero before front few b =
    let none : from + 0 ≡ from = omega arith in
    record {
      accepted = ap (λ (z : List Substation). Ok (made z)) (sym (append-nil front));
      after = rw (none, append-nil front) b;
    }
levels_made size from (suc count) before front few b =
    let w = flags size from before in
    let new = sub_with from (filled_level from w) in
    let rest = in_turn (made_subs size) (later 5) (suc from) count (later 5 before) in
    let small : from < 1000 = omega (arith, few) in
    let again = levels_made size (suc from) count (later 5 before) (front ++ new ∷ []) (omega (arith, few)) (level_after from w front small b) in
    let first : unrefused (level_edits size from before) (made front) ≡ Ok (made (front ++ new ∷ [])) = rw (level_edits_are size from before) (level_made from w front small b) in
    let split : (front ++ new ∷ []) ++ rest ≡ front ++ new ∷ rest = append_assoc front (new ∷ []) rest in
    let total : suc from + count ≡ from + suc count = omega arith in
    record {
      accepted = and_then (level_edits size from before) (in_turn (level_edits size) (later 5) (suc from) count (later 5 before)) (made front) (made (front ++ new ∷ [])) (made (front ++ new ∷ rest)) first (rw split at again.accepted);
      after = rw (total, split) at again.after;
    }
