-- A network whose last level is being filled.
use Rattle.std.proofs.Common.{◌≡◌, refl, sym, ap, ◌∙◌, ℕ, ◌+◌, ◌≤◌, Bool, true, false, cond, List, [], ◌∷◌, ◌++◌, length, arith, Option, Some, append_assoc}
use Rattle.std.specs.Prelude.{map, find}
use Rattle.std.proofs.lemmas.List.{append-nil, map-append, length-append}
use Rattle.grid_ids.specs.Name.{same_id}
use Rattle.grid_level.specs.VoltageLevel.{VoltageLevel}
use Rattle.grid_structure.specs.declared.NamedBranch.{NamedBranch}
use Rattle.grid_structure.specs.Network.{Network, Substation}
use Rattle.grid_structure.specs.Sites.{levels, branches, switches, level_named, substation_named, level_ids, branch_ids, all_ids, taken}
use Rattle.grid_structure.specs.Editing.{substation_with_levels, with_levels, with_level, with_substation}
use Rattle.grid_structure.proofs.Counts.{times, times-append}
use Rattle.grid_structure.proofs.Frames.{put, is_same, ids_of, local, locals, locals-append, sub_ids, ids_counted, switch_total, switch_total-append, switches_counted, put_absent}
use Rattle.grid_structure.proofs.LevelHomes.{none_there}
use Rattle.grid_structure.proofs.Substations.{names, changed_at, names_at, levels_in, levels_at, transformers_at}
use Rattle.grid_structure.proofs.StageLoad.{times_ids}

-- a network whose last substation is open for more
abbrev pub growing : List ℕ → List Substation → Substation → Network
growing id front s = record { id = id; substations = front ++ s ∷ []; lines = [] }

-- the substation with one more level
abbrev pub more : Substation → VoltageLevel → Substation
more s l = record s { levels = s.levels ++ l ∷ [] }

-- ---- what has the id of no level

kept_substations : (new : VoltageLevel) (subs : List Substation) → times new.id (ids_of (levels_in subs)) ≡ 0 → map (substation_with_levels (put new)) subs ≡ subs
unfolding substation_with_levels
kept_substations new [] h = refl
kept_substations new (s ∷ subs) h =
    let sum = times_ids new.id s.levels (levels_in subs) in
    rw (put_absent new s.levels (omega (arith, h, sum)), kept_substations new subs (omega (arith, h, sum))) refl

last_found : (p : VoltageLevel) (ls : List VoltageLevel) → times p.id (ids_of ls) ≡ 0 → find (λ (l : VoltageLevel). same_id p.id l.id) (ls ++ p ∷ []) ≡ Some p
last_found p [] h = rw (is_same p.id p.id refl) refl
last_found p (l ∷ ls) h = by (same_id p.id l.id) h (last_found p ls)
  where
    by : (t : Bool) → cond t 1 0 + times p.id (ids_of ls) ≡ 0 → (times p.id (ids_of ls) ≡ 0 → find (λ (l : VoltageLevel). same_id p.id l.id) (ls ++ p ∷ []) ≡ Some p)
        → ◌≡◌ {A = Option VoltageLevel} (cond t (Some l) (find (λ (l : VoltageLevel). same_id p.id l.id) (ls ++ p ∷ []))) (Some p)
    by true h again = absurd (omega arith)
    by false h again = again (omega arith)

substation_last : (s : Substation) (subs : List Substation) → times s.id (names subs) ≡ 0 → find (λ (x : Substation). same_id s.id x.id) (subs ++ s ∷ []) ≡ Some s
substation_last s [] h = rw (is_same s.id s.id refl) refl
substation_last s (x ∷ subs) h = by (same_id s.id x.id) h (substation_last s subs)
  where
    by : (t : Bool) → cond t 1 0 + times s.id (names subs) ≡ 0 → (times s.id (names subs) ≡ 0 → find (λ (x : Substation). same_id s.id x.id) (subs ++ s ∷ []) ≡ Some s)
        → ◌≡◌ {A = Option Substation} (cond t (Some x) (find (λ (x : Substation). same_id s.id x.id) (subs ++ s ∷ []))) (Some s)
    by true h again = absurd (omega arith)
    by false h again = again (omega arith)

pub own_once : (q : List ℕ) → times q (q ∷ []) ≡ 1
own_once q = ap (λ t. cond t 1 0 + 0) (is_same q q refl)

-- ---- the last level

module _ (id : List ℕ) (front : List Substation) (s : Substation) where
  -- the network with this level last
  abbrev pub ending : VoltageLevel → Network
  ending l = growing id front (more s l)

  -- the levels before it
  abbrev pub earlier : List VoltageLevel
  earlier = levels_in front ++ s.levels

  pub levels_before : levels (growing id front s) ≡ earlier
  unfolding levels
  levels_before = levels_at front [] s ∙ ap (λ z. levels_in front ++ z) (append-nil s.levels)

  pub levels_ending : (l : VoltageLevel) → levels (ending l) ≡ earlier ++ l ∷ []
  unfolding levels
  levels_ending l = levels_at front [] (more s l) ∙ ap (λ z. levels_in front ++ z) (append-nil (s.levels ++ l ∷ [])) ∙ sym (append_assoc (levels_in front) s.levels (l ∷ []))

  -- the last level has its id and the ids of its parts besides
  pub ids_ending : (q : List ℕ) (l : VoltageLevel) → times q (all_ids (ending l)) ≡ times q (all_ids (growing id front s)) + (times q (l.id ∷ []) + local q l)
  unfolding level_ids branch_ids branches
  ids_ending q l =
      let base = growing id front s in
      let a : times q (sub_ids (ending l)) ≡ times q (sub_ids base) = ap (times q) (names_at front [] (more s l) s refl) in
      let b : times q (level_ids (ending l)) ≡ times q (ids_of earlier) + times q (l.id ∷ []) = ap (λ z. times q (ids_of z)) (levels_ending l) ∙ times_ids q earlier (l ∷ []) in
      let d : times q (level_ids base) ≡ times q (ids_of earlier) = ap (λ z. times q (ids_of z)) levels_before in
      let e : locals q (levels (ending l)) ≡ locals q earlier + locals q (l ∷ []) = ap (locals q) (levels_ending l) ∙ locals-append q earlier (l ∷ []) in
      let f : locals q (levels base) ≡ locals q earlier = ap (locals q) levels_before in
      let g : times q (branch_ids (ending l)) ≡ times q (branch_ids base) = ap (λ (z : List NamedBranch). times q (map (λ (b : NamedBranch). b.id) (z ++ []))) (transformers_at front [] (more s l) ∙ sym (transformers_at front [] s)) in
      omega (arith, a, b, d, e, f, g, ids_counted q (ending l), ids_counted q base)

  pub switches_ending : (l : VoltageLevel) → length (switches (ending l)) ≡ switch_total earlier + length l.switches
  switches_ending l = (let a : switch_total (levels (ending l)) ≡ switch_total earlier + switch_total (l ∷ []) = ap switch_total (levels_ending l) ∙ switch_total-append earlier (l ∷ []) in omega (arith, a, switches_counted (ending l)))

  pub length_before : (l : VoltageLevel) → length (levels (ending l)) ≡ length (levels (growing id front s)) + 1
  length_before l = (let a : length (levels (ending l)) ≡ length earlier + 1 = ap length (levels_ending l) ∙ length-append earlier (l ∷ []) in let b : length (levels (growing id front s)) ≡ length earlier = ap length levels_before in omega (arith, a, b))

  -- an id that stands nowhere
  pub not_taken : (q : List ℕ) (l : VoltageLevel) → times q (all_ids (growing id front s)) + (times q (l.id ∷ []) + local q l) ≡ 0 → taken (ending l) q ≡ false
  unfolding taken
  not_taken q l h = none_there q (all_ids (ending l)) (ids_ending q l ∙ h)

  pub not_taken_before : (q : List ℕ) → times q (all_ids (growing id front s)) ≡ 0 → taken (growing id front s) q ≡ false
  unfolding taken
  not_taken_before q h = none_there q (all_ids (growing id front s)) h

  -- an id that stands nowhere is no level's
  pub none_earlier : (q : List ℕ) → times q (all_ids (growing id front s)) ≡ 0 → times q (ids_of earlier) ≡ 0
  unfolding level_ids
  none_earlier q h = (let d : times q (level_ids (growing id front s)) ≡ times q (ids_of earlier) = ap (λ z. times q (ids_of z)) levels_before in omega (arith, d, h, ids_counted q (growing id front s)))

  pub named_last : (l : VoltageLevel) → times l.id (ids_of earlier) ≡ 0 → level_named (ending l) l.id ≡ Some l
  unfolding level_named
  named_last l none = ap (find (λ (x : VoltageLevel). same_id l.id x.id)) (levels_ending l) ∙ last_found l earlier none

  pub put_last : (new l : VoltageLevel) → new.id ≡ l.id → times new.id (ids_of earlier) ≡ 0 → with_level new (ending l) ≡ ending new
  unfolding with_level with_levels substation_with_levels
  put_last new l same none =
      let sum = times_ids new.id (levels_in front) s.levels in
      let own : same_id new.id l.id ≡ true = is_same new.id l.id same in
      let here : map (put new) (s.levels ++ l ∷ []) ≡ s.levels ++ new ∷ [] = map-append (put new) s.levels (l ∷ []) ∙ rw (put_absent new s.levels (omega (arith, sum, none)), own) refl in
      let all : map (substation_with_levels (put new)) (front ++ more s l ∷ []) ≡ front ++ more s new ∷ [] =
      map-append (substation_with_levels (put new)) front (more s l ∷ []) ∙ rw (kept_substations new front (omega (arith, sum, none)), here) refl in
      ap (λ (z : List Substation). record { id = id; substations = z; lines = [] }) all

  -- ---- the last substation

  pub substation_alone : times s.id (all_ids (growing id front s)) ≤ 1 → times s.id (names front) ≡ 0
  substation_alone h =
      (let a : times s.id (sub_ids (growing id front s)) ≡ times s.id (names front) + times s.id (s.id ∷ []) = ap (times s.id) (map-append (λ (x : Substation). x.id) front (s ∷ [])) ∙ times-append s.id (names front) (s.id ∷ []) in
      omega (arith, a, h, own_once s.id, ids_counted s.id (growing id front s)))

  pub substation_found : times s.id (all_ids (growing id front s)) ≤ 1 → substation_named (growing id front s) s.id ≡ Some s
  unfolding substation_named
  substation_found h = substation_last s front (substation_alone h)

  pub level_put : (l : VoltageLevel) → times s.id (all_ids (growing id front s)) ≤ 1 → with_substation s.id (λ (x : Substation). record x { levels = x.levels ++ l ∷ [] }) (growing id front s) ≡ ending l
  unfolding with_substation
  level_put l h =
      let once : times s.id (names (front ++ s ∷ [])) ≤ 1 = omega (arith, h, ids_counted s.id (growing id front s)) in
      ap (λ (z : List Substation). record { id = id; substations = z; lines = [] }) (changed_at s.id (λ (x : Substation). record x { levels = x.levels ++ l ∷ [] }) front [] s refl once)
