-- Sums of watts that are asked for, and watts that are set.
use Rattle.std.proofs.Common.{◌≡◌, refl, sym, ap, ◌∙◌, subst, ℕ, ℤ, ◌<◌, Bool, true, false, List, [], length, Option, Some, None, arith}
use Rattle.std.specs.Prelude.{is_none, if◌then◌else◌, ◌==◌}
use Rattle.std.specs.Option.{option_map, option_and_then}
use Rattle.std.specs.Ordering.{int_eq}
use Rattle.std.proofs.lemmas.Bool.{true≢false}
use Rattle.grid_level.specs.declared.Placed.{Placed}
use Rattle.grid_structure.specs.Network.{Network}
use Rattle.grid_structure.specs.Sites.{levels, sides, site}
use Rattle.grid_structure.specs.Soundness.{IsSound}
use Rattle.grid_states.specs.declared.sums.Shift.{Shift}
use Rattle.grid_states.specs.Rows.{Rows, HasRoom, pairs_at, shifted, with_watts}
use Rattle.grid_slots.specs.Variant.{Variant}
use Rattle.grid_slots.specs.Variants.{rows_at, changed, IsTable}
use Rattle.grid_powers.specs.Listed.{with_value}
use Rattle.grid_watts.specs.Watts.{watts, watts_at, powered}
use Rattle.grid_watts.specs.Ranges.{is_narrow}
use Rattle.grid_watts.specs.Nodes.{listed_rows, rows_under, row_watts_at, powered_at, change}
use Rattle.grid_requests.specs.declared.request.Request.TheVariants as requests
use Rattle.grid_core.specs.declared.reply.Reply.TheVariants as replies
use Rattle.grid_core.specs.declared.reply.Refusal.TheVariants as refusals
use Rattle.grid_core.specs.declared.machine.Machine.{Machine}
use Rattle.grid_core.specs.declared.machine.Made.{Made}
use Rattle.grid_core.specs.Solo.{State, state_rows, refused, with_power, power_from, power_set, totals, solo}
use Rattle.grid_core.specs.History.{is_switching}
use Rattle.grid_core.specs.Replies.{events_of}
use Rattle.grid_core.specs.Made.{made_of}
use Rattle.grid_core.specs.Machines.{StandsAt, Steps, WorksOn}
use Rattle.grid_core.proofs.Ranges.{rows_of_levels}
use Rattle.grid_core.proofs.RequestKinds.{of_variant, refused_events}
use Rattle.grid_core.proofs.VariantSteps.{Flagged, stays, moves}
use Rattle.grid_watts.proofs.FirstSides.{no_site}
use Rattle.grid_watts.proofs.Listings.{values_keep, listings_room}
use Rattle.grid_watts.proofs.Variants.{values_move, row_told}

-- ---- the machine of one variant

power_nowhere : (state : State) (id : List ℕ) (new : ℤ) → sides state.structure id ≡ None → solo state (requests.SetPower id new) ≡ (state, replies.Refused refusals.NoEquipment)
unfolding solo power_set refused
power_nowhere state id new h = rw h refl

power_none : (state : State) (id : List ℕ) (new : ℤ) (count : ℕ) → sides state.structure id ≡ Some count → powered state.structure id ≡ None → solo state (requests.SetPower id new) ≡ (state, replies.Refused refusals.NoPower)
unfolding solo power_set power_from watts refused
power_none state id new count h k = rw (h, k) refl

power_found : (state : State) (id : List ℕ) (new : ℤ) (count : ℕ) (p : Placed) → sides state.structure id ≡ Some count → powered state.structure id ≡ Some p
    → solo state (requests.SetPower id new) ≡ (if int_eq (watts_at state.powers p) new then (state, replies.Unchanged) else (with_power state id new, replies.Done))
unfolding solo power_set power_from watts
power_found state id new count p h k = rw (h, k) refl

chosen : {X : Type 0} (b t : Bool) (x y : X) → b ≡ t → (if b then x else y) ≡ (if t then x else y)
chosen b t x y h = rw h refl

-- what is found with the place of its level is found
pub found_powered : (net : Network) (id : List ℕ) (level : ℕ) (p : Placed) → powered_at net id ≡ Some (level, p) → powered net id ≡ Some p
unfolding powered_at
found_powered net id level p h = by (site net id 1) (powered net id) h
  where
    by : (o : Option (ℕ × ℕ)) (q : Option Placed) → option_and_then {U = ℕ × Placed} (λ (at : ℕ × ℕ). option_map (λ (x : Placed). (at.0, x)) q) o ≡ Some (level, p) → q ≡ Some p
    by (Some at) (Some x) e = let pair : ◌≡◌ {A = ℕ × Placed} (at.0, x) (level, p) = cc in ap (λ (z : ℕ × Placed). Some z.1) pair
    by (Some at) None e = cc
    by None q e = cc

pub unpowered : (net : Network) (id : List ℕ) → IsSound net → powered_at net id ≡ None → powered net id ≡ None
unfolding powered_at
unpowered net id sound h = by (site net id 1) refl (powered net id) refl h
  where
    by : (o : Option (ℕ × ℕ)) → site net id 1 ≡ o → (q : Option Placed) → powered net id ≡ q → option_and_then {U = ℕ × Placed} (λ (at : ℕ × ℕ). option_map (λ (x : Placed). (at.0, x)) q) o ≡ None → powered net id ≡ None
    by None s q p e = no_site net id sound s
    by (Some at) s None p e = p
    by (Some at) s (Some x) p e = cc

-- ---- what is at a slot

-- there are rows for each level
pub level_in_rows : (m : Machine) (slot level : ℕ) → Flagged m slot → level < length (levels m.structure) → level < length (rows_at m.slots slot).opened
level_in_rows m slot level f below =
    let count = rows_of_levels f.state.structure f.state.opened f.fits.opened in
    let same : length (levels m.structure) ≡ length (levels f.state.structure) = ap (λ (n : Network). length (levels n)) f.structure_is in
    subst (λ (rows : Rows). level < length rows.opened) (sym f.rows) (omega (arith, count, same, below))

-- and the sums have room
pub slot_room : (m : Machine) (slot : ℕ) → IsSound m.structure → Flagged m slot → HasRoom (rows_at m.slots slot)
slot_room m slot sound f =
    subst HasRoom (sym f.rows) (subst (λ (n : Network). HasRoom (rows_under n f.state.opened f.state.retained f.state.powers)) f.structure_is (listings_room m.structure f.state.opened f.state.retained f.state.powers sound f.listing))

module _ (m : Machine) (worker slot : ℕ) (v : List ℕ) (works : WorksOn m worker v) (at : StandsAt m v slot) where
  -- the sums
  pub totals_made : (rows : Rows) (made : Made) → rows ≡ rows_at m.slots slot → made ≡ made_of (replies.Totals rows.load rows.generation) [] → Steps m m worker requests.Totals made
  unfolding of_variant events_of solo totals
  totals_made rows made held is =
      stays m worker slot v requests.Totals (replies.Totals rows.load rows.generation) made refl works at
      (λ state st ro. ap (λ (r : Rows). (state, replies.Totals r.load r.generation)) (sym (held ∙ ro))) refl is

  module _ (id : List ℕ) (new : ℤ) where
    pub set_nowhere : (made : Made) → sides m.structure id ≡ None → made ≡ made_of (replies.Refused refusals.NoEquipment) [] → Steps m m worker (requests.SetPower id new) made
    unfolding of_variant
    set_nowhere made none is =
        stays m worker slot v (requests.SetPower id new) (replies.Refused refusals.NoEquipment) made refl works at
        (λ state st ro. power_nowhere state id new (ap (λ (n : Network). sides n id) (sym st) ∙ none)) (refused_events v (requests.SetPower id new) refusals.NoEquipment) is

    module _ (count : ℕ) (there : sides m.structure id ≡ Some count) where
      pub set_none : (made : Made) → powered m.structure id ≡ None → made ≡ made_of (replies.Refused refusals.NoPower) [] → Steps m m worker (requests.SetPower id new) made
      unfolding of_variant
      set_none made none is =
          stays m worker slot v (requests.SetPower id new) (replies.Refused refusals.NoPower) made refl works at
          (λ state st ro. power_none state id new count (ap (λ (n : Network). sides n id) (sym st) ∙ there) (ap (λ (n : Network). powered n id) (sym st) ∙ none)) (refused_events v (requests.SetPower id new) refusals.NoPower) is

      module _ (sound : IsSound m.structure) (level : ℕ) (p : Placed) (found : powered_at m.structure id ≡ Some (level, p)) (now : ℤ) (read : now ≡ row_watts_at (pairs_at (rows_at m.slots slot).watts level) p) where
        -- the watts that were read are the state's
        former : (state : State) → m.structure ≡ state.structure → rows_at m.slots slot ≡ state_rows state → now ≡ watts_at state.powers p
        former state st ro =
            read ∙ ap (λ (r : Rows). row_watts_at (pairs_at r.watts level) p) ro ∙ ap (λ (n : Network). row_watts_at (pairs_at (listed_rows state.powers n) level) p) (sym st)
            ∙ row_told m.structure id level p state.powers sound found

        -- what the machine of one variant does, by the watts now
        asked : (state : State) (same : Bool) → m.structure ≡ state.structure → rows_at m.slots slot ≡ state_rows state → int_eq now new ≡ same
            → solo state (requests.SetPower id new) ≡ (if same then (state, replies.Unchanged) else (with_power state id new, replies.Done))
        asked state same st ro is =
            power_found state id new count p (ap (λ (n : Network). sides n id) (sym st) ∙ there) (ap (λ (n : Network). powered n id) (sym st) ∙ found_powered m.structure id level p found)
            ∙ chosen (int_eq (watts_at state.powers p) new) same (state, replies.Unchanged) (with_power state id new, replies.Done) (ap (λ (w : ℤ). int_eq w new) (sym (former state st ro)) ∙ is)

        pub set_same : (made : Made) → int_eq now new ≡ true → made ≡ made_of replies.Unchanged [] → Steps m m worker (requests.SetPower id new) made
        unfolding of_variant events_of
        set_same made is tells = stays m worker slot v (requests.SetPower id new) replies.Unchanged made refl works at (λ state st ro. asked state true st ro is) refl tells

        pub set_made : (by : Shift) (variants : List Variant) (made : Made) → IsTable m.slots → int_eq now new ≡ false → is_narrow new ≡ true → by ≡ change p.stand now new → made ≡ made_of replies.Done []
            → variants ≡ changed (λ x. x.slot == slot) (λ rows. shifted by (with_watts rows level p.node new)) m.slots → Steps m (record m { slots = variants }) worker (requests.SetPower id new) made
        unfolding is_switching events_of with_power
        set_made by variants made table is few shift tells gone =
            moves m worker slot v (requests.SetPower id new) replies.Done [] made (λ rows. shifted by (with_watts rows level p.node new)) (λ state. with_power state id new) variants refl table works at
            (λ state f st ro li. record {
              does = asked state false st ro is;
              rows = ap (λ (n : Network). rows_under n state.opened state.retained (with_value id new state.powers)) (sym st)
                  ∙ values_move m.structure id level p new state.opened state.retained state.powers sound found
                  ∙ ap (λ (w : ℤ). shifted (change p.stand w new) (with_watts (rows_under m.structure state.opened state.retained state.powers) level p.node new)) (sym (former state st ro))
                  ∙ ap (λ (s : Shift). shifted s (with_watts (rows_under m.structure state.opened state.retained state.powers) level p.node new)) (sym shift)
                  ∙ ap (λ (n : Network). shifted by (with_watts (rows_under n state.opened state.retained state.powers) level p.node new)) st;
              listing = values_keep m.structure id p new state.powers sound (found_powered m.structure id level p found) few li;
            })
            refl tells gone

-- the count of sides, where there is one
pub sides_there : (o : Option ℕ) → is_none o ≡ false → (count : ℕ) × (o ≡ Some count)
sides_there (Some count) h = (count, refl)
sides_there None h = absurd (true≢false h)

pub sides_nowhere : (o : Option ℕ) → is_none o ≡ true → o ≡ None
sides_nowhere (Some count) h = absurd (true≢false (sym h))
sides_nowhere None h = refl
