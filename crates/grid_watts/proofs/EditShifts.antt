-- By how much each edit changes a sum.
use Rattle.std.proofs.Common.{◌≡◌, refl, sym, ap, ◌∙◌, subst, ℕ, ℤ, pos, ◌+◌, Bool, true, false, cond, List, [], ◌∷◌, ◌++◌, length, arith, Option}
use Rattle.std.specs.Prelude.{◌+ℤ◌, map, nat_le, Ok}
use Rattle.std.proofs.lemmas.Int.{ints}
use Rattle.std.proofs.lemmas.List.{append-nil}
use Rattle.std.proofs.lemmas.Grind.{flat_map-append}
use Rattle.grid_ids.specs.Name.{same_id}
use Rattle.grid_ids.specs.Refusing.{refuse_if, refuse_by, found_or, map_fault}
use Rattle.grid_kinds.specs.Records.{level_fault, injection_fault}
use Rattle.grid_kinds.specs.declared.Injection.{Injection}
use Rattle.grid_level.specs.declared.Placed.{Placed}
use Rattle.grid_level.specs.declared.Terminal.{Terminal}
use Rattle.grid_level.specs.declared.Stand.TheVariants.{Feeder}
use Rattle.grid_level.specs.VoltageLevel.{VoltageLevel}
use Rattle.grid_level.specs.LevelEdits.{level_with_terminal}
use Rattle.grid_level.proofs.PlacedTerminals as placing
use Rattle.grid_level.proofs.LevelEdits as on_level
use Rattle.grid_structure.specs.Network.{Network, Substation}
use Rattle.grid_structure.specs.Sites.{levels, switches, level_named, substation_named, all_ids, taken}
use Rattle.grid_structure.specs.Editing.{apply, edit_fault, with_level, with_substation, max_levels}
use Rattle.grid_structure.specs.declared.Edit.{Edit}
use Rattle.grid_structure.specs.declared.Edit.TheVariants as edits
use Rattle.grid_structure.specs.declared.EditFault.TheVariants as faults
use Rattle.grid_structure.specs.Soundness.{IsSound}
use Rattle.grid_structure.proofs.Counts.{differ-times}
use Rattle.grid_structure.proofs.OneLevel.{found, fits}
use Rattle.grid_structure.proofs.Substations.{changed, levels_in}
use Rattle.grid_powers.specs.Listed.{Listed}
use Rattle.grid_watts.specs.Watts.{watts_at, watts_for}
use Rattle.grid_watts.specs.Moved.{leaves_rows}
use Rattle.grid_watts.specs.Shares.{Part}
use Rattle.grid_watts.proofs.TerminalSums.{summed, summed-append, adds, all_placed, over, whole}
use Rattle.grid_watts.proofs.EquipmentShares.{IsPart, unpowered_adds}
use Rattle.grid_watts.proofs.LevelReadings.{readings, ReadsPowered, edit_alike}
use Rattle.grid_watts.proofs.TotalShifts.{total_put, same_levels, placed_adds}

-- ---- the same terminals

pub substations_alike : (change : Substation → Substation) → ((s : Substation) → all_placed (change s).levels ≡ all_placed s.levels) → (subs : List Substation)
    → all_placed (levels_in (map change subs)) ≡ all_placed (levels_in subs)
substations_alike change step [] = refl
substations_alike change step (s ∷ subs) =
    flat_map-append (λ (l : VoltageLevel). l.placed) (change s).levels (levels_in (map change subs))
    ∙ ap (λ z. z ++ all_placed (levels_in (map change subs))) (step s)
    ∙ ap (λ z. all_placed s.levels ++ z) (substations_alike change step subs)
    ∙ sym (flat_map-append (λ (l : VoltageLevel). l.placed) s.levels (levels_in subs))

one_alike : (id : List ℕ) (change : Substation → Substation) → ((s : Substation) → all_placed (change s).levels ≡ all_placed s.levels) → (s : Substation)
    → all_placed (changed id change s).levels ≡ all_placed s.levels
one_alike id change step s = by (same_id id s.id)
  where
    by : (t : Bool) → all_placed (cond t (change s) s).levels ≡ all_placed s.levels
    by true = step s
    by false = refl

abbrev pub Stays : (part : Part) → Network → Network → Listed → Type 0
Stays part net new listed = whole part new listed ≡ whole part net listed +ℤ pos 0

pub level_stays : (part : Part) (net new : Network) (id substation : List ℕ) (nominal_v : ℤ) (low_v high_v : Option ℤ) (listed : Listed)
    → apply net (edits.AddLevel id substation nominal_v low_v high_v) ≡ Ok new → Stays part net new listed
unfolding apply levels with_substation
level_stays part net new id substation nominal_v low_v high_v listed h =
    let t = on_level.went (refuse_if (taken net id) faults.IdTaken) _ new h in
    let o = on_level.went (found_or (substation_named net substation) faults.NoSubstation) _ new t.next in
    let r = on_level.went (refuse_if (nat_le max_levels (length (levels net))) faults.TooManyLevels) _ new o.next in
    let c = on_level.went (refuse_by faults.Check (level_fault nominal_v low_v high_v)) _ new r.next in
    let l : VoltageLevel = record { id = id; nominal_v = nominal_v; low_v = low_v; high_v = high_v; switches = []; internals = []; placed = [] } in
    let change : Substation → Substation = λ s. record s { levels = s.levels ++ l ∷ [] } in
    let made : Network = record net { substations = map (changed substation change) net.substations } in
    let is : made ≡ new = cc (c.next) in
    let step : (s : Substation) → all_placed (change s).levels ≡ all_placed s.levels = λ s. flat_map-append (λ (l : VoltageLevel). l.placed) s.levels (l ∷ []) ∙ append-nil _ in
    subst (λ (z : Network). Stays part net z listed) is
    (same_levels part net made listed (substations_alike (changed substation change) (one_alike substation change step) net.substations))

-- ---- an injection more

pub injection_brings : (part : Part) (net new : Network) (id level : List ℕ) (node : ℤ) (item : Injection) (listed : Listed) → IsSound net → apply net (edits.AddInjection id level node item) ≡ Ok new
    → whole part new listed ≡ whole part net listed +ℤ part (Feeder item) (watts_for listed id (Feeder item))
unfolding apply watts_at
injection_brings part net new id level node item listed s h =
    let terminal : Terminal = record { equipment = id; side = 1 } in
    let t = on_level.went (refuse_if (taken net id) faults.IdTaken) _ new h in
    let o = on_level.went (found_or (level_named net level) faults.NoLevel) _ new t.next in
    let c = on_level.went (refuse_by faults.Check (injection_fault item)) _ new o.next in
    let m = on_level.went (map_fault edit_fault (level_with_terminal o.value node terminal (Feeder item))) _ new c.next in
    let is : with_level m.value net ≡ new = cc (m.next) in
    let k = placing.placing o.value node terminal (Feeder item) m.value (fits _ _ _ m.is) in
    let p : Placed = record { node = k.number; terminal = terminal; stand = Feeder item } in
    subst (λ (z : Network). whole part z listed ≡ whole part net listed +ℤ part (Feeder item) (watts_for listed id (Feeder item))) is
    (total_put part net listed level m.value o.value (adds part listed p) (differ-times (all_ids net) s.ids) (found _ _ _ o.is) (ap (λ (l : VoltageLevel). l.id) (sym k.is))
    (ap (λ (l : VoltageLevel). summed (adds part listed) l.placed) (sym k.is) ∙ placed_adds (adds part listed) p o.value.placed))

-- ---- edits that leave each level's sum

abbrev total : List ℤ → ℤ
total [] = pos 0
total (x ∷ xs) = x +ℤ total xs

over_readings : (part : Part) (listed : Listed) (ls : List VoltageLevel) → over part listed ls ≡ total (readings (summed (adds part listed)) ls)
over_readings part listed [] = refl
over_readings part listed (l ∷ ls) = summed-append (adds part listed) l.placed (all_placed ls) ∙ ap (λ z. summed (adds part listed) l.placed +ℤ z) (over_readings part listed ls)

reads_powered : (part : Part) (listed : Listed) → IsPart part → ReadsPowered (summed (adds part listed))
reads_powered part listed only p none ps =
    let a = placed_adds (adds part listed) p ps in
    let b = unpowered_adds part listed p only none in
    omega (arith, ints, a, b)

pub edit_stays : (part : Part) (net new : Network) (edit : Edit) (listed : Listed) → IsPart part → IsSound net → apply net edit ≡ Ok new → leaves_rows edit ≡ true → Stays part net new listed
edit_stays part net new edit listed only s h leaves =
    let a = over_readings part listed (levels new) in
    let b = over_readings part listed (levels net) in
    let e = ap total (edit_alike (summed (adds part listed)) (reads_powered part listed only) net new edit s h leaves) in
    omega (arith, ints, a, b, e)
