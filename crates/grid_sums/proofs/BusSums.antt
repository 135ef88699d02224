-- The sums of buses, terminal by terminal.
use Rattle.std.proofs.Common.{◌≡◌, refl, sym, ap, ◌∙◌, subst, ℕ, ℤ, pos, ◌+ℤ◌, ◌+◌, ◌<◌, Bool, true, false, cond, List, [], ◌∷◌, ◌++◌, length, get_or, set, arith, inl, inr, Option, Some, None, get_or-set_same, get_or-set_other}
use Rattle.std.specs.Prelude.{eqb, map, filter, fold, zip}
use Rattle.std.specs.List.{list_any}
use Rattle.std.proofs.lemmas.Bool.{cases_eq, eq-eqb, ne_eqb}
use Rattle.std.proofs.lemmas.List.{append-nil, same_lists, length-map, get_or-map}
use Rattle.std.proofs.lemmas.List.Elements.{filter-append}
use Rattle.std.proofs.lemmas.List.Sums.{fold-append}
use Rattle.std.proofs.lemmas.Slice.Zip.{length-zip, get_or-zip}
use Rattle.grid_level.specs.declared.Placed.{Placed}
use Rattle.grid_level.specs.declared.Stand.{Stand}
use Rattle.grid_level.specs.VoltageLevel.{VoltageLevel}
use Rattle.grid_level.specs.Passing.{nodes, bus, positioned}
use Rattle.grid_level.specs.Kept.{KeepsLimits}
use Rattle.grid_groups.specs.Groups.{group_under, leaders}
use Rattle.grid_groups.proofs.Lists.{filter_same, get_or_any}
use Rattle.grid_groups.proofs.TerminalNodes.{placed_node}
use Rattle.grid_powers.specs.Listed.{Listed}
use Rattle.grid_busview.specs.declared.ViewBus.{ViewBus}
use Rattle.grid_busview.specs.Views.{Fed, fed_among, is_load, is_generation, watts_over, is_bus, bus_of, bus_leasts, node_buses_of, bus_view_of}
use Rattle.grid_unions.specs.declared.summed.Sums.{Sums}
use Rattle.grid_watts.specs.Watts.{level_watts, watts_at}
use Rattle.grid_sums.specs.Sums.{bus_sums, buses_under, sums_of}
use Rattle.grid_sums.specs.Feeding.{no_sums, watts_if, with_watts, is_at, place_of, fed_in, sums_in}
use Rattle.grid_sums.proofs.NodeBuses.{bus_holds, place_is}

abbrev add_fed : ℤ → Fed → ℤ
add_fed total pair = total +ℤ pair.1

pushed : (xs : List Fed) (x : Fed) (t : Bool) → fold add_fed (pos 0) (xs ++ cond t (x ∷ []) []) ≡ watts_if t (fold add_fed (pos 0) xs) x.1
pushed xs x true = fold-append add_fed (pos 0) xs (x ∷ [])
pushed xs x false = ap (fold add_fed (pos 0)) (append-nil xs)

watts_push : (test : Stand → Bool) (fed : List Fed) (x : Fed) → watts_over test (fed ++ x ∷ []) ≡ watts_if (test x.0.stand) (watts_over test fed) x.1
unfolding watts_over
watts_push test fed x =
    ap (fold add_fed (pos 0)) (filter-append (λ (pair : Fed). test pair.0.stand) fed (x ∷ [])) ∙ pushed (filter (λ (pair : Fed). test pair.0.stand) fed) x (test x.0.stand)

-- ---- one terminal more

module _ (ns : List ℕ) (places : List (Option ℕ)) (fed : List Fed) (x : Fed) where
  abbrev stands_in : ℕ → Fed → Bool
  stands_in k pair = is_at k (place_of ns places pair.0.node)

  fed_more : (k : ℕ) (t : Bool) → stands_in k x ≡ t → fed_in ns places k (fed ++ x ∷ []) ≡ fed_in ns places k fed ++ cond t (x ∷ []) []
  fed_more k t e = filter-append (stands_in k) fed (x ∷ []) ∙ ap (λ z. filter (stands_in k) fed ++ cond z (x ∷ []) []) e

  made : ℤ → ℤ → Sums
  made a b = record { load = a; generation = b }

  sums_more : (k : ℕ) → stands_in k x ≡ true → sums_in ns places (fed ++ x ∷ []) k ≡ with_watts (sums_in ns places fed k) x.0.stand x.1
  unfolding sums_in made
  sums_more k e =
      let own = fed_in ns places k fed in
      let more = fed_more k true e in
      ap (λ z. made (watts_over is_load z) (watts_over is_generation z)) more
      ∙ ap (λ z. made z (watts_over is_generation (own ++ x ∷ []))) (watts_push is_load own x)
      ∙ ap (made (watts_if (is_load x.0.stand) (watts_over is_load own) x.1)) (watts_push is_generation own x)

  sums_stay : (k : ℕ) → stands_in k x ≡ false → sums_in ns places (fed ++ x ∷ []) k ≡ sums_in ns places fed k
  unfolding sums_in made
  sums_stay k e = ap (λ z. made (watts_over is_load z) (watts_over is_generation z)) (fed_more k false e ∙ append-nil (fed_in ns places k fed))

  pub none_fed : (k : ℕ) → place_of ns places x.0.node ≡ None → sums_in ns places (fed ++ x ∷ []) k ≡ sums_in ns places fed k
  none_fed k e = sums_stay k (ap (is_at k) e)

  pub one_fed : (sums : List Sums) (place k : ℕ) → place_of ns places x.0.node ≡ Some place → place < length sums → get_or sums place no_sums ≡ sums_in ns places fed place → get_or sums k no_sums ≡ sums_in ns places fed k
      → get_or (set sums place (with_watts (get_or sums place no_sums) x.0.stand x.1)) k no_sums ≡ sums_in ns places (fed ++ x ∷ []) k
  one_fed sums place k at lt own here = elim (cases_eq k place) [
    | inl e ↦ (let P : ℕ → Type 0 = λ z. get_or (set sums place new) z no_sums ≡ sums_in ns places (fed ++ x ∷ []) z in
        subst P (sym e) (get_or-set_same sums place new no_sums lt ∙ ap (λ z. with_watts z x.0.stand x.1) own ∙ sym (sums_more place (ap (is_at place) at ∙ eq-eqb place place refl))))
    | inr ne ↦ get_or-set_other sums place k new no_sums ne ∙ here ∙ sym (sums_stay k (ap (is_at k) at ∙ ne_eqb place k (λ e. ne (sym e))))
  ]
    where
      new : Sums
      new = with_watts (get_or sums place no_sums) x.0.stand x.1

-- ---- all terminals

module _ (listed : Listed) (level : VoltageLevel) (opened : List Bool) (keeps : KeepsLimits level) (e : length opened ≡ length level.switches) (places : List (Option ℕ)) (found : places ≡ (node_buses_of (positioned level opened)).places) where
  abbrev here : VoltageLevel
  here = positioned level opened

  abbrev watts : List ℤ
  watts = level_watts listed level

  fed_as : (bus_at : ℕ) → bus_at < length (bus_leasts here) → fed_in (nodes level) places bus_at (zip level.placed watts) ≡ fed_among here watts (group_under bus here (get_or (bus_leasts here) bus_at 0))
  unfolding fed_among positioned
  fed_as bus_at lt =
      filter_same (λ (pair : Fed). is_at bus_at (place_of (nodes level) places pair.0.node)) (λ (pair : Fed). list_any (eqb pair.0.node) (group_under bus here (get_or (bus_leasts here) bus_at 0))) (zip level.placed watts) (λ i d less.
      let x = get_or (zip level.placed watts) i d in
      let first : i < length level.placed = omega (arith, less, length-zip level.placed watts) in
      let second : i < length watts = omega (arith, less, length-zip level.placed watts) in
      let node_is : x.0.node ≡ (get_or level.placed i d.0).node = ap (λ (z : Fed). z.0.node) (get_or-zip level.placed watts i d first second) in
      let there = placed_node level keeps i d.0 first in
      ap (λ z. is_at bus_at (place_of (nodes level) places z)) node_is
      ∙ ap (is_at bus_at) (place_is level opened keeps e places (get_or level.placed i d.0).node found there)
      ∙ bus_holds level opened keeps e (get_or level.placed i d.0).node bus_at there lt
      ∙ ap (λ z. list_any (eqb z) (group_under bus here (get_or (bus_leasts here) bus_at 0))) (sym node_is))

  sums_as : (bus_at : ℕ) → bus_at < length (bus_leasts here) → sums_in (nodes level) places (zip level.placed watts) bus_at ≡ bus_sums (bus_of here watts (get_or (bus_leasts here) bus_at 0))
  unfolding sums_in bus_of
  sums_as bus_at lt =
      let build : List Fed → Sums = λ z. record { load = watts_over is_load z; generation = watts_over is_generation z } in
      ap build (fed_as bus_at lt)

  pub all_sums : (sums : List Sums) → length sums ≡ length (bus_leasts here) → ((place : ℕ) → place < length (bus_leasts here) → get_or sums place no_sums ≡ sums_in (nodes level) places (zip level.placed watts) place) → sums ≡ sums_of listed level opened
  unfolding sums_of buses_under bus_view_of bus_leasts
  all_sums sums long each =
      let leasts = bus_leasts here in
      let views = map (bus_of here watts) leasts in
      let many : length views ≡ length leasts = length-map leasts (bus_of here watts) in
      same_lists sums (map bus_sums views) (long ∙ sym many ∙ sym (length-map views bus_sums)) (λ i d lt.
      let less : i < length leasts = omega (arith, lt, long) in
      let inside : i < length views = omega (arith, less, many) in
      any sums i d lt ∙ each i less ∙ sums_as i less
      ∙ sym (get_or-map bus_sums views i (bus_of here watts 0) d inside ∙ ap bus_sums (get_or-map (bus_of here watts) leasts i 0 (bus_of here watts 0) less)))
    where
      any : (sums : List Sums) (i : ℕ) (d : Sums) → i < length sums → get_or sums i d ≡ get_or sums i no_sums
      any sums i d lt = get_or_any sums i d no_sums lt
