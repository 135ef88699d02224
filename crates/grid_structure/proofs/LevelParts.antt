-- The edits that load one level, each on the network whose last level is that level so far.
use Rattle.std.proofs.Common.{◌≡◌, refl, sym, ap, ◌∙◌, ℕ, pos, ◌+◌, ◌<◌, ◌≤◌, Bool, true, false, cond, not, List, [], ◌∷◌, ◌++◌, length, arith, Option, Some, None}
use Rattle.std.specs.Prelude.{map, filter, Ok, is_none}
use Rattle.std.specs.List.{list_all}
use Rattle.std.proofs.lemmas.Bool.{lt-leb, false≢true}
use Rattle.std.proofs.lemmas.List.{map-append, length-append}
use Rattle.grid_kinds.specs.Records.{level_fault, injection_fault}
use Rattle.grid_kinds.specs.declared.Injection.{Injection}
use Rattle.grid_level.specs.declared.Placed.{Placed}
use Rattle.grid_level.specs.declared.Switch.{Switch}
use Rattle.grid_level.specs.declared.Internal.{Internal}
use Rattle.grid_level.specs.declared.Terminal.{Terminal}
use Rattle.grid_level.specs.declared.Stand.TheVariants.{Busbar, Feeder}
use Rattle.grid_level.specs.VoltageLevel.{VoltageLevel}
use Rattle.grid_level.specs.Passing.{is_branch_end}
use Rattle.grid_level.specs.LevelEdits.{level_with_terminal}
use Rattle.grid_level.specs.Kept.{IsWithin}
use Rattle.grid_level.proofs.LevelEdits.{Passes}
use Rattle.grid_structure.specs.Network.{Network, Substation}
use Rattle.grid_structure.specs.Sites.{levels, switches, all_ids}
use Rattle.grid_structure.specs.Editing.{apply, with_single, stand_fault, max_levels, max_switches}
use Rattle.grid_structure.specs.declared.Edit.TheVariants as edits
use Rattle.grid_structure.proofs.Counts.{times, times-append}
use Rattle.grid_structure.proofs.Frames.{is_same, ids_of, local, switch_ids_of, switch_total}
use Rattle.grid_structure.proofs.OneLevel.{names_of}
use Rattle.grid_structure.proofs.Singles.{busbar_is, injection_is, terminal_of}
use Rattle.grid_structure.proofs.NameCounts.{names_both}
use Rattle.grid_structure.proofs.SoundRemovals.{names_filter}
use Rattle.grid_structure.proofs.LevelRoom.{below, above, switch_done, internal_done, terminal_done}
use Rattle.grid_structure.proofs.LastLevels.{growing, ending, earlier, own_once, not_taken, not_taken_before, none_earlier, named_last, put_last, switches_ending, substation_found, level_put}

-- the level with these of its parts
abbrev pub part : VoltageLevel → List Switch → List Internal → List Placed → VoltageLevel
part l ss is ps = record l { switches = ss; internals = is; placed = ps }

-- what the edits rest on
pub record IsReady (id : List ℕ) (front : List Substation) (s : Substation) (l : VoltageLevel) : Type 0 where
  pub once : (q : List ℕ) → times q (all_ids (growing id front s)) + (times q (l.id ∷ []) + local q l) ≤ 1
  pub passes : Passes l
  pub few_levels : length (levels (growing id front s)) < max_levels
  pub few_switches : switch_total (earlier id front s) + length l.switches ≤ max_switches

pub none_is : {X : Type 0} (o : Option X) → is_none o ≡ true → o ≡ None
none_is (Some x) h = absurd (false≢true h)
none_is None h = refl

-- ---- ids

own_name : (p : Placed) (ps : List Placed) → is_branch_end p.stand ≡ false → times p.terminal.equipment (names_of (p ∷ ps)) ≡ 1 + times p.terminal.equipment (names_of ps)
own_name p ps plain =
    let q = p.terminal.equipment in
    let test : Placed → Bool = λ x. not (is_branch_end x.stand) in
    let first : names_of (p ∷ ps) ≡ q ∷ names_of ps = ap (λ t. map (λ (x : Placed). x.terminal.equipment) (cond (not t) (p ∷ filter test ps) (filter test ps))) plain in
    ap (times q) first ∙ ap (λ t. cond t 1 0 + times q (names_of ps)) (is_same q q refl)

-- without a terminal, fewer stand there that have its id
pub name_missing : (a b : Placed → Bool) (xs : List Placed) (p : Placed) (ys : List Placed) → is_branch_end p.stand ≡ false
    → 1 + times p.terminal.equipment (names_of (filter a xs ++ filter b ys)) ≤ times p.terminal.equipment (names_of (xs ++ p ∷ ys))
name_missing a b xs p ys plain =
    let q = p.terminal.equipment in
    omega (arith, names_both q (filter a xs) (filter b ys), names_both q xs (p ∷ ys), own_name p ys plain, names_filter q a xs, names_filter q b ys)

switches_both : (q : List ℕ) (xs ys : List Switch) → times q (map (λ (x : Switch). x.id) (xs ++ ys)) ≡ times q (map (λ (x : Switch). x.id) xs) + times q (map (λ (x : Switch). x.id) ys)
switches_both q xs ys = ap (times q) (map-append (λ (x : Switch). x.id) xs ys) ∙ times-append q (map (λ (x : Switch). x.id) xs) (map (λ (x : Switch). x.id) ys)

-- ---- the edits

module _ {id : List ℕ} {front : List Substation} {s : Substation} {l : VoltageLevel} (r : IsReady id front s l) where
  abbrev base : Network
  base = growing id front s

  level_new : times l.id (all_ids base) ≡ 0
  level_new = omega (arith, r.once l.id, own_once l.id)

  level_alone : times l.id (ids_of (earlier id front s)) ≡ 0
  level_alone = none_earlier id front s l.id level_new

  sub_once : times s.id (all_ids base) ≤ 1
  sub_once = omega (arith, r.once s.id)

  pub level_made : apply base (edits.AddLevel l.id s.id l.nominal_v l.low_v l.high_v) ≡ Ok (ending id front s (part l [] [] []))
  unfolding apply
  level_made =
      let fine : level_fault l.nominal_v l.low_v l.high_v ≡ None = none_is _ r.passes.volts in
      rw (not_taken_before id front s l.id level_new, substation_found id front s sub_once, lt-leb max_levels (length (levels base)) r.few_levels, fine) (ap (λ (z : Network). Ok z) (level_put id front s (part l [] [] []) sub_once))

  -- an id that the level has oftener than its part
  free : (q : List ℕ) (ss : List Switch) (is : List Internal) (ps : List Placed) → 1 + local q (part l ss is ps) ≤ local q l → times q (all_ids base) + (times q (l.id ∷ []) + local q (part l ss is ps)) ≡ 0
  free q ss is ps less = omega (arith, less, r.once q)

  single_put : (ss : List Switch) (is : List Internal) (xs : List Placed) (p : Placed) (ys : List Placed) → list_all (below p.node) xs ≡ true → list_all (above p.node) ys ≡ true
      → IsWithin (part l ss is (xs ++ p ∷ ys)) → p.terminal.side ≡ 1 → stand_fault p.stand ≡ None → 1 + local p.terminal.equipment (part l ss is (xs ++ ys)) ≤ local p.terminal.equipment l
      → with_single (ending id front s (part l ss is (xs ++ ys))) p.terminal.equipment l.id (pos p.node) p.stand ≡ Ok (ending id front s (part l ss is (xs ++ p ∷ ys)))
  unfolding with_single
  single_put ss is xs p ys b a k side fine less =
      let old = part l ss is (xs ++ ys) in
      let new = part l ss is (xs ++ p ∷ ys) in
      let same : terminal_of p.terminal.equipment ≡ p.terminal = ap (λ (n : ℕ). (let t : Terminal = record { equipment = p.terminal.equipment; side = n } in t)) (sym side) in
      let done : level_with_terminal old (pos p.node) (terminal_of p.terminal.equipment) p.stand ≡ Ok new = rw same (terminal_done old p xs ys b a k) in
      rw (not_taken id front s p.terminal.equipment old (free p.terminal.equipment ss is (xs ++ ys) less), named_last id front s old level_alone, fine, done) (ap (λ (z : Network). Ok z) (put_last id front s new old refl level_alone))

  pub busbar_put : (ss : List Switch) (is : List Internal) (xs : List Placed) (p : Placed) (ys : List Placed) → list_all (below p.node) xs ≡ true → list_all (above p.node) ys ≡ true
      → IsWithin (part l ss is (xs ++ p ∷ ys)) → p.terminal.side ≡ 1 → p.stand ≡ Busbar → 1 + local p.terminal.equipment (part l ss is (xs ++ ys)) ≤ local p.terminal.equipment l
      → apply (ending id front s (part l ss is (xs ++ ys))) (edits.AddBusbar p.terminal.equipment l.id (pos p.node)) ≡ Ok (ending id front s (part l ss is (xs ++ p ∷ ys)))
  unfolding stand_fault
  busbar_put ss is xs p ys b a k side stand less =
      busbar_is (ending id front s (part l ss is (xs ++ ys))) p.terminal.equipment l.id (pos p.node)
      ∙ ap (with_single (ending id front s (part l ss is (xs ++ ys))) p.terminal.equipment l.id (pos p.node)) (sym stand)
      ∙ single_put ss is xs p ys b a k side (ap stand_fault stand) less

  pub injection_put : (ss : List Switch) (is : List Internal) (xs : List Placed) (p : Placed) (ys : List Placed) (item : Injection) → list_all (below p.node) xs ≡ true → list_all (above p.node) ys ≡ true
      → IsWithin (part l ss is (xs ++ p ∷ ys)) → p.terminal.side ≡ 1 → p.stand ≡ Feeder item → injection_fault item ≡ None → 1 + local p.terminal.equipment (part l ss is (xs ++ ys)) ≤ local p.terminal.equipment l
      → apply (ending id front s (part l ss is (xs ++ ys))) (edits.AddInjection p.terminal.equipment l.id (pos p.node) item) ≡ Ok (ending id front s (part l ss is (xs ++ p ∷ ys)))
  unfolding stand_fault
  injection_put ss is xs p ys item b a k side stand fine less =
      injection_is (ending id front s (part l ss is (xs ++ ys))) p.terminal.equipment l.id (pos p.node) item
      ∙ ap (with_single (ending id front s (part l ss is (xs ++ ys))) p.terminal.equipment l.id (pos p.node)) (sym stand)
      ∙ single_put ss is xs p ys b a k side (ap stand_fault stand ∙ fine) less

  pub switch_put : (xs : List Switch) (x : Switch) (ys : List Switch) (is : List Internal) (ps : List Placed) → l.switches ≡ xs ++ x ∷ ys → times x.id (names_of ps) ≤ times x.id (names_of l.placed)
      → IsWithin (part l (xs ++ x ∷ []) is ps)
      → apply (ending id front s (part l xs is ps)) (edits.AddSwitch x.id l.id x.kind (pos x.node1) (pos x.node2) x.opened x.retained x.fictitious) ≡ Ok (ending id front s (part l (xs ++ x ∷ []) is ps))
  unfolding apply
  switch_put xs x ys is ps e few k =
      let old = part l xs is ps in
      let new = part l (xs ++ x ∷ []) is ps in
      let count : times x.id (switch_ids_of l) ≡ times x.id (switch_ids_of old) + (1 + times x.id (map (λ (y : Switch). y.id) ys)) =
      ap (λ (z : List Switch). times x.id (map (λ (y : Switch). y.id) z)) e ∙ switches_both x.id xs (x ∷ ys) ∙ ap (λ t. times x.id (switch_ids_of old) + (cond t 1 0 + times x.id (map (λ (y : Switch). y.id) ys))) (is_same x.id x.id refl) in
      let less : 1 + local x.id old ≤ local x.id l = omega (arith, count, few) in
      let room : length (switches (ending id front s old)) < max_switches = omega (arith, switches_ending id front s old, r.few_switches, ap length e, length-append xs (x ∷ ys)) in
      rw (not_taken id front s x.id old (free x.id xs is ps less), named_last id front s old level_alone, lt-leb max_switches (length (switches (ending id front s old))) room, switch_done old x k) (ap (λ (z : Network). Ok z) (put_last id front s new old refl level_alone))

  pub internal_put : (ss : List Switch) (xs : List Internal) (x : Internal) (ps : List Placed) → IsWithin (part l ss (xs ++ x ∷ []) ps)
      → apply (ending id front s (part l ss xs ps)) (edits.AddInternal l.id (pos x.node1) (pos x.node2)) ≡ Ok (ending id front s (part l ss (xs ++ x ∷ []) ps))
  unfolding apply
  internal_put ss xs x ps k =
      let old = part l ss xs ps in
      let new = part l ss (xs ++ x ∷ []) ps in
      rw (named_last id front s old level_alone, internal_done old x k) (ap (λ (z : Network). Ok z) (put_last id front s new old refl level_alone))
