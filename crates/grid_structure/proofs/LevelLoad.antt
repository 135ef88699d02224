-- The edits that load a level give the level again.
use Rattle.std.proofs.Common.{◌≡◌, refl, sym, ap, ◌∙◌, ℕ, pos, ◌+◌, ◌≤◌, Bool, true, false, cond, not, List, [], ◌∷◌, ◌++◌, length, arith, None, append_assoc}
use Rattle.std.specs.Prelude.{map, flat_map, filter, Result, Ok, is_none, ◌==◌, IsTrue}
use Rattle.std.specs.List.{list_all}
use Rattle.std.proofs.lemmas.Bool.{and_parts, eqb-true}
use Rattle.std.proofs.lemmas.List.{append-nil}
use Rattle.std.proofs.lemmas.List.Elements.{filter-append}
use Rattle.grid_ids.specs.Name.{ids_differ}
use Rattle.grid_kinds.specs.Records.{injection_fault}
use Rattle.grid_level.specs.declared.Placed.{Placed}
use Rattle.grid_level.specs.declared.Switch.{Switch}
use Rattle.grid_level.specs.declared.Internal.{Internal}
use Rattle.grid_level.specs.declared.Stand.{Stand}
use Rattle.grid_level.specs.declared.Stand.TheVariants.{Busbar, Feeder, BranchEnd}
use Rattle.grid_level.specs.VoltageLevel.{VoltageLevel}
use Rattle.grid_level.specs.Passing.{is_busbar, is_branch_end}
use Rattle.grid_level.specs.Sound.{side_passes, stand_passes, level_passes}
use Rattle.grid_level.specs.Kept.{IsWithin}
use Rattle.grid_level.proofs.LevelEdits.{all_parts, all_filter, passes_of, fewer_placed_within}
use Rattle.grid_structure.specs.Network.{Network, Substation}
use Rattle.grid_structure.specs.Sites.{levels, switches, all_ids}
use Rattle.grid_structure.specs.Editing.{apply, max_levels, max_switches}
use Rattle.grid_structure.proofs.Counts.{times, differ-times}
use Rattle.grid_structure.proofs.Frames.{local}
use Rattle.grid_structure.proofs.OneLevel.{names_of}
use Rattle.grid_structure.proofs.SoundRemovals.{names_filter}
use Rattle.grid_structure.specs.declared.Edit.{Edit}
use Rattle.grid_structure.specs.declared.EditFault.{EditFault}
use Rattle.grid_structure.specs.declared.Edit.TheVariants as edits
use Rattle.grid_structure.specs.Loading.{apply_each, busbar_edits, switch_edit, internal_edit, injection_edits, level_edits}
use Rattle.grid_structure.proofs.EditLists.{first_then, both_parts}
use Rattle.grid_structure.proofs.LevelRoom.{below, above, placing_in, first_within, around, around_within}
use Rattle.grid_structure.proofs.LastLevels.{growing, more, ending, ids_ending, switches_ending, length_before}
use Rattle.grid_structure.proofs.LevelParts.{part, IsReady, none_is, name_missing, level_made, busbar_put, injection_put, switch_put, internal_put}

-- ---- tests of what stands at a node

abbrev bus : Placed → Bool
bus p = is_busbar p.stand

abbrev plain : Placed → Bool
plain p = not (is_branch_end p.stand)

abbrev never : Placed → Bool
never p = false

none_pass : (ps : List Placed) → filter never ps ≡ []
none_pass [] = refl
none_pass (p ∷ ps) = none_pass ps

twice : (a : Placed → Bool) (ps : List Placed) → filter a (filter a ps) ≡ filter a ps
twice a [] = refl
twice a (p ∷ ps) = by (a p) refl (twice a ps)
  where
    by : (t : Bool) → a p ≡ t → filter a (filter a ps) ≡ filter a ps → filter a (cond t (p ∷ filter a ps) (filter a ps)) ≡ cond t (p ∷ filter a ps) (filter a ps)
    by true e again = rw e (ap (λ z. p ∷ z) again)
    by false e again = again

-- one terminal from the back to the front, where both tests say the same of it
same_kept : (a b : Placed → Bool) (xs : List Placed) (p : Placed) (ys : List Placed) → a p ≡ b p → filter a xs ++ filter b (p ∷ ys) ≡ filter a (xs ++ p ∷ []) ++ filter b ys
same_kept a b xs p ys same = ap (λ z. filter a xs ++ z) (by (a p) (b p) same) ∙ sym (append_assoc (filter a xs) (filter a (p ∷ [])) (filter b ys)) ∙ ap (λ z. z ++ filter b ys) (sym (filter-append a xs (p ∷ [])))
  where
    by : (t u : Bool) → t ≡ u → cond u (p ∷ filter b ys) (filter b ys) ≡ cond t (p ∷ []) [] ++ filter b ys
    by true true e = refl
    by true false e = cc
    by false true e = cc
    by false false e = refl

-- and where the first test alone keeps it
now_kept : (a b : Placed → Bool) (xs : List Placed) (p : Placed) (ys : List Placed) → a p ≡ true → filter a xs ++ p ∷ filter b ys ≡ filter a (xs ++ p ∷ []) ++ filter b ys
now_kept a b xs p ys kept = rw (filter-append a xs (p ∷ []), kept, append_assoc (filter a xs) (p ∷ []) (filter b ys)) refl

-- the level with no branch end placed
abbrev pub bare : VoltageLevel → VoltageLevel
bare l = record l { placed = filter (λ p. not (is_branch_end p.stand)) l.placed }

-- ---- the parts, one after the other

module _ {id : List ℕ} {front : List Substation} {s : Substation} {l : VoltageLevel} (r : IsReady id front s l) where
  abbrev state : List Switch → List Internal → List Placed → Network
  state ss is ps = ending id front s (part l ss is ps)

  switches_from : (xs ys : List Switch) (ps : List Placed) → l.switches ≡ xs ++ ys → ((q : List ℕ) → times q (names_of ps) ≤ times q (names_of l.placed)) → IsWithin (placing_in l ps)
      → apply_each (state xs [] ps) (map (switch_edit l.id) ys) ≡ Ok (state (xs ++ ys) [] ps)
  unfolding apply_each
  switches_from xs [] ps e few k = rw (append-nil xs) refl
  switches_from xs (y ∷ ys) ps e few k =
      let shifted : l.switches ≡ (xs ++ y ∷ []) ++ ys = e ∙ sym (append_assoc xs (y ∷ []) ys) in
      let within : IsWithin (part l (xs ++ y ∷ []) [] ps) = first_within (placing_in l ps) (xs ++ y ∷ []) ys [] l.internals shifted refl k in
      let again = switches_from (xs ++ y ∷ []) ys ps shifted few k in
      rw (switch_put r xs y ys [] ps e (few y.id) within, again, append_assoc xs (y ∷ []) ys) refl

  internals_from : (xs ys : List Internal) (ps : List Placed) → l.internals ≡ xs ++ ys → IsWithin (placing_in l ps) → apply_each (state l.switches xs ps) (map (internal_edit l.id) ys) ≡ Ok (state l.switches (xs ++ ys) ps)
  unfolding apply_each
  internals_from xs [] ps e k = rw (append-nil xs) refl
  internals_from xs (y ∷ ys) ps e k =
      let shifted : l.internals ≡ (xs ++ y ∷ []) ++ ys = e ∙ sym (append_assoc xs (y ∷ []) ys) in
      let within : IsWithin (part l l.switches (xs ++ y ∷ []) ps) = first_within (placing_in l ps) l.switches [] (xs ++ y ∷ []) ys (sym (append-nil l.switches)) shifted k in
      let again = internals_from (xs ++ y ∷ []) ys ps shifted k in
      rw (internal_put r l.switches xs y ps within, again, append_assoc xs (y ∷ []) ys) refl

  -- what the edits make of one terminal: they pass over it, or put it between those that stand
  data Step (edits_of : Placed → List Edit) (a b : Placed → Bool) (ss : List Switch) (is : List Internal) (xs : List Placed) (p : Placed) (ys : List Placed) : Type 0 where
    passed : edits_of p ≡ [] → a p ≡ b p → Step edits_of a b ss is xs p ys
    added : (edit : Edit) → edits_of p ≡ edit ∷ [] → a p ≡ true → b p ≡ false → apply (state ss is (filter a xs ++ filter b ys)) edit ≡ Ok (state ss is (filter a xs ++ p ∷ filter b ys)) → Step edits_of a b ss is xs p ys

  placed_from : (edits_of : Placed → List Edit) (a b : Placed → Bool) (ss : List Switch) (is : List Internal)
      → ((xs : List Placed) (p : Placed) (ys : List Placed) → l.placed ≡ xs ++ p ∷ ys → Step edits_of a b ss is xs p ys)
      → (xs ys : List Placed) → l.placed ≡ xs ++ ys → apply_each (state ss is (filter a xs ++ filter b ys)) (flat_map edits_of ys) ≡ Ok (state ss is (filter a (xs ++ ys)))
  unfolding apply_each
  placed_from edits_of a b ss is step xs [] e = rw (append-nil xs, append-nil (filter a xs)) refl
  placed_from edits_of a b ss is step xs (p ∷ ys) e = by (step xs p ys e) (placed_from edits_of a b ss is step (xs ++ p ∷ []) ys (e ∙ sym (append_assoc xs (p ∷ []) ys)))
    where
      by : Step edits_of a b ss is xs p ys
          → apply_each (state ss is (filter a (xs ++ p ∷ []) ++ filter b ys)) (flat_map edits_of ys) ≡ Ok (state ss is (filter a ((xs ++ p ∷ []) ++ ys)))
          → apply_each (state ss is (filter a xs ++ filter b (p ∷ ys))) (edits_of p ++ flat_map edits_of ys) ≡ Ok (state ss is (filter a (xs ++ p ∷ ys)))
      by (passed none same) again = rw (none, same_kept a b xs p ys same, again, append_assoc xs (p ∷ []) ys) refl
      by (added edit one kept left done) again = rw (one, left, done, now_kept a b xs p ys kept, again, append_assoc xs (p ∷ []) ys) refl

  -- ---- one terminal

  record Spot (a b : Placed → Bool) (ss : List Switch) (is : List Internal) (xs : List Placed) (p : Placed) (ys : List Placed) : Type 0 where
    before : list_all (below p.node) (filter a xs) ≡ true
    behind : list_all (above p.node) (filter b ys) ≡ true
    within : IsWithin (part l ss is (filter a xs ++ p ∷ filter b ys))
    stands : side_passes p.terminal.side p.stand ≡ true

  spot : (a b : Placed → Bool) (ss ss2 : List Switch) (is is2 : List Internal) (xs : List Placed) (p : Placed) (ys : List Placed) → l.switches ≡ ss ++ ss2 → l.internals ≡ is ++ is2 → l.placed ≡ xs ++ p ∷ ys → Spot a b ss is xs p ys
  unfolding stand_passes
  spot a b ss ss2 is is2 xs p ys e f g =
      let sides = around xs p ys (rw g at r.passes.within.rise) in
      let stands = all_parts stand_passes xs (p ∷ ys) (rw g at r.passes.stands) in
      record {
        before = all_filter (below p.node) a xs sides.0;
        behind = all_filter (above p.node) b ys sides.1;
        within = first_within (placing_in l (filter a xs ++ p ∷ filter b ys)) ss ss2 is is2 e f (around_within l a b xs p ys g r.passes.within);
        stands = (and_parts (stand_passes p) (list_all stand_passes ys) stands.1).0;
      }

  fewer_ids : (a b : Placed → Bool) (ss : List Switch) (is : List Internal) (xs : List Placed) (p : Placed) (ys : List Placed) → times p.terminal.equipment (map (λ (x : Switch). x.id) ss) ≤ times p.terminal.equipment (map (λ (x : Switch). x.id) l.switches)
      → l.placed ≡ xs ++ p ∷ ys → is_branch_end p.stand ≡ false → 1 + local p.terminal.equipment (part l ss is (filter a xs ++ filter b ys)) ≤ local p.terminal.equipment l
  fewer_ids a b ss is xs p ys few g alone =
      let all : times p.terminal.equipment (names_of l.placed) ≡ times p.terminal.equipment (names_of (xs ++ p ∷ ys)) = ap (λ z. times p.terminal.equipment (names_of z)) g in
      omega (arith, few, all, name_missing a b xs p ys alone)

  busbar_step : (xs : List Placed) (p : Placed) (ys : List Placed) → l.placed ≡ xs ++ p ∷ ys → Step (λ p. busbar_edits l.id p.terminal.equipment p.node p.stand) bus never [] [] xs p ys
  unfolding is_busbar is_branch_end side_passes
  busbar_step xs p ys g = by p.stand refl
    where
      by : (stand : Stand) → p.stand ≡ stand → Step (λ p. busbar_edits l.id p.terminal.equipment p.node p.stand) bus never [] [] xs p ys
      by Busbar e =
          let k = spot bus never [] l.switches [] l.internals xs p ys refl refl g in
          let side : p.terminal.side ≡ 1 = eqb-true p.terminal.side 1 (rw e at k.stands) in
          let less = fewer_ids bus never [] [] xs p ys (omega arith) g (ap is_branch_end e) in
          added (edits.AddBusbar p.terminal.equipment l.id (pos p.node)) (ap (busbar_edits l.id p.terminal.equipment p.node) e) (ap is_busbar e) refl
          (busbar_put r [] [] (filter bus xs) p (filter never ys) k.before k.behind k.within side e less)
      by (Feeder item) e = passed (ap (busbar_edits l.id p.terminal.equipment p.node) e) (ap is_busbar e)
      by BranchEnd e = passed (ap (busbar_edits l.id p.terminal.equipment p.node) e) (ap is_busbar e)

  injection_step : (xs : List Placed) (p : Placed) (ys : List Placed) → l.placed ≡ xs ++ p ∷ ys
      → Step (λ p. injection_edits l.id p.terminal.equipment p.node p.stand) plain bus l.switches l.internals xs p ys
  unfolding is_busbar is_branch_end side_passes
  injection_step xs p ys g = by p.stand refl
    where
      by : (stand : Stand) → p.stand ≡ stand → Step (λ p. injection_edits l.id p.terminal.equipment p.node p.stand) plain bus l.switches l.internals xs p ys
      by Busbar e = passed (ap (injection_edits l.id p.terminal.equipment p.node) e) (ap (λ z. not (is_branch_end z)) e ∙ sym (ap is_busbar e))
      by (Feeder item) e =
          let k = spot plain bus l.switches [] l.internals [] xs p ys (sym (append-nil l.switches)) (sym (append-nil l.internals)) g in
          let both = and_parts (p.terminal.side == 1) (is_none (injection_fault item)) (rw e at k.stands) in
          let side : p.terminal.side ≡ 1 = eqb-true p.terminal.side 1 both.0 in
          let fine : injection_fault item ≡ None = none_is (injection_fault item) both.1 in
          let less = fewer_ids plain bus l.switches l.internals xs p ys (omega arith) g (ap is_branch_end e) in
          added (edits.AddInjection p.terminal.equipment l.id (pos p.node) item) (ap (injection_edits l.id p.terminal.equipment p.node) e) (ap (λ z. not (is_branch_end z)) e) (ap is_busbar e)
          (injection_put r l.switches l.internals (filter plain xs) p (filter bus ys) item k.before k.behind k.within side e fine less)
      by BranchEnd e = passed (ap (injection_edits l.id p.terminal.equipment p.node) e) (ap (λ z. not (is_branch_end z)) e ∙ sym (ap is_busbar e))

  -- ---- all of each kind

  busbars_in : apply_each (state [] [] []) (flat_map (λ p. busbar_edits l.id p.terminal.equipment p.node p.stand) l.placed) ≡ Ok (state [] [] (filter bus l.placed))
  busbars_in = rw (none_pass l.placed) at (placed_from (λ p. busbar_edits l.id p.terminal.equipment p.node p.stand) bus never [] [] busbar_step [] l.placed refl)

  bus_within : IsWithin (placing_in l (filter bus l.placed))
  bus_within = fewer_placed_within bus l r.passes.within

  switches_in : apply_each (state [] [] (filter bus l.placed)) (map (switch_edit l.id) l.switches) ≡ Ok (state l.switches [] (filter bus l.placed))
  switches_in = switches_from [] l.switches (filter bus l.placed) refl (λ q. names_filter q bus l.placed) bus_within

  internals_in : apply_each (state l.switches [] (filter bus l.placed)) (map (internal_edit l.id) l.internals) ≡ Ok (state l.switches l.internals (filter bus l.placed))
  internals_in = internals_from [] l.internals (filter bus l.placed) refl bus_within

  injections_in : apply_each (state l.switches l.internals (filter bus l.placed)) (flat_map (λ p. injection_edits l.id p.terminal.equipment p.node p.stand) l.placed) ≡ Ok (ending id front s (bare l))
  injections_in = placed_from (λ p. injection_edits l.id p.terminal.equipment p.node p.stand) plain bus l.switches l.internals injection_step [] l.placed refl

  all_in : apply_each (growing id front s) (level_edits s.id l) ≡ Ok (ending id front s (bare l))
  unfolding level_edits
  all_in =
      let with_busbars = state [] [] (filter bus l.placed) in
      let with_switches = state l.switches [] (filter bus l.placed) in
      let with_internals = state l.switches l.internals (filter bus l.placed) in
      let injections = flat_map (λ p. injection_edits l.id p.terminal.equipment p.node p.stand) l.placed in
      let internals = map (internal_edit l.id) l.internals in
      let switches = map (switch_edit l.id) l.switches in
      let busbars = flat_map (λ p. busbar_edits l.id p.terminal.equipment p.node p.stand) l.placed in
      let end : Result Network EditFault = Ok (ending id front s (bare l)) in
      first_then (growing id front s) (state [] [] []) (edits.AddLevel l.id s.id l.nominal_v l.low_v l.high_v) (busbars ++ (switches ++ (internals ++ injections))) end (level_made r)
      (both_parts (state [] [] []) with_busbars busbars (switches ++ (internals ++ injections)) end busbars_in
      (both_parts with_busbars with_switches switches (internals ++ injections) end switches_in
      (both_parts with_switches with_internals internals injections end internals_in injections_in)))

-- ---- the level

-- a level is loaded behind others
abbrev pub LevelsAreLoaded : Type 0
LevelsAreLoaded = (id : List ℕ) (front : List Substation) (s : Substation) (l : VoltageLevel)
    → IsTrue (ids_differ (all_ids (growing id front (more s (bare l)))))
    → IsTrue (level_passes l)
    → length (levels (growing id front (more s l))) ≤ max_levels
    → length (switches (growing id front (more s l))) ≤ max_switches
    → apply_each (growing id front s) (level_edits s.id l) ≡ Ok (growing id front (more s (bare l)))

ready : (id : List ℕ) (front : List Substation) (s : Substation) (l : VoltageLevel) → IsTrue (ids_differ (all_ids (growing id front (more s (bare l))))) → IsTrue (level_passes l)
    → length (levels (growing id front (more s l))) ≤ max_levels → length (switches (growing id front (more s l))) ≤ max_switches → IsReady id front s l
ready id front s l ids passes few_levels few_switches = record {
  once = λ q. (let same : times q (names_of (filter plain l.placed)) ≡ times q (names_of l.placed) = ap (λ z. times q (map (λ (p : Placed). p.terminal.equipment) z)) (twice plain l.placed) in
      omega (arith, differ-times (all_ids (growing id front (more s (bare l)))) ids q, ids_ending id front s q (bare l), same));
  passes = passes_of l passes;
  few_levels = omega (arith, few_levels, length_before id front s l);
  few_switches = omega (arith, few_switches, switches_ending id front s l);
}

pub level_is_loaded : LevelsAreLoaded
level_is_loaded id front s l ids passes few_levels few_switches = all_in (ready id front s l ids passes few_levels few_switches)
