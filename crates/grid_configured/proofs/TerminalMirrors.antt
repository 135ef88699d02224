-- Terminals that are connected and disconnected mirror their breakers of the node/breaker form.
use Rattle.std.proofs.Common.{◌≡◌, refl, sym, ap, ◌∙◌, subst, ℕ, ℤ, zero, suc, ◌+◌, ◌<◌, Bool, true, false, cond, not, List, [], ◌∷◌, length, get_or, inl, inr, ◌⊎◌, arith}
use Rattle.std.specs.Prelude.{Option, Some, None, Result, Ok, map, slice_get}
use Rattle.std.specs.Bool.{beq}
use Rattle.std.proofs.lemmas.Option.{slice_get_within, get_or_from_slice_get}
use Rattle.std.proofs.lemmas.List.Elements.{All-get_or}
use Rattle.grid_ids.specs.Name.{has_id}
use Rattle.grid_ids.specs.Refusing.{◌>>=◌, found_or}
use Rattle.grid_level.specs.VoltageLevel.{VoltageLevel}
use Rattle.grid_level.specs.Passing.{positioned}
use Rattle.grid_structure.specs.Sites as sites
use Rattle.grid_structure.specs.Sites.{levels}
use Rattle.grid_states.specs.Rows.{row_at, with_flag, with_flags}
use Rattle.grid_connect.specs.Plans.{connect_plan_of, disconnect_plan_of}
use Rattle.grid_connect.specs.declared.ConnectPlan.{ConnectPlan}
use Rattle.grid_connect.specs.declared.DisconnectPlan.{DisconnectPlan}
use Rattle.grid_core.specs.declared.reply.Refusal.{Refusal}
use Rattle.grid_core.specs.declared.reply.Refusal.TheVariants as refusals
use Rattle.grid_core.specs.Solo as solo
use Rattle.grid_core.specs.Solo.{State, flag_at, side_of, site_of_side, level_at, positioned_at, with_all_opened, connected, connected_from, connected_at, disconnected, disconnected_from, disconnected_at}
use Rattle.grid_paths.proofs.Least.{some_same, some_none}
use Rattle.grid_core.proofs.SwitchCounts.{lengths-with_flag}
use Rattle.grid_configured.specs.declared.network.ConfiguredNetwork.{ConfiguredNetwork}
use Rattle.grid_configured.specs.declared.reply.ConfiguredReply.TheVariants as told
use Rattle.grid_placed.specs.Places.{PlacedLevel, PlacesFit, stood}
use Rattle.grid_configured.specs.Levels.{placed_levels}
use Rattle.grid_placed.specs.Translation.{translated_level}
use Rattle.grid_configured.specs.Translation.{translated}
use Rattle.grid_configured.specs.Sites.{bus_ids, find_outlet, sides}
use Rattle.grid_configured.specs.Machine.{Flags, refused, already, outlet_of_side, plugged}
use Rattle.grid_configured.specs.Told.{told_reply}
use Rattle.grid_placed.proofs.BusTerminals.{absent}
use Rattle.grid_placed.proofs.PresentLevels.{length_opened, length_connected, level_positioned, places_stood, flag_of}
use Rattle.grid_placed.proofs.ConnectPlans.{connect_closes, connect_stays}
use Rattle.grid_placed.proofs.DisconnectPlans.{disconnect_opens, disconnect_stays}
use Rattle.grid_configured.proofs.Locations.{levels_are, sides_found, IsAt, sited}
use Rattle.grid_configured.proofs.Rows.{row_joined, put_second}
use Rattle.grid_configured.proofs.Mirrors.{NetworkFits, Mirrors, StepMirrors, rows_here}

pub mapped_at : (ls : List PlacedLevel) (p : ℕ) (l : PlacedLevel) → slice_get ls p ≡ Some l → slice_get (map translated_level ls) p ≡ Some (translated_level l)
mapped_at [] p l e = absurd (some_none l e)
mapped_at (x ∷ ls) zero l e = ap (λ (z : PlacedLevel). Some (translated_level z)) (some_same x l e)
mapped_at (x ∷ ls) (suc p) l e = mapped_at ls p l e

pub fits_at : (network : ConfiguredNetwork) → NetworkFits network → (p : ℕ) (l : PlacedLevel) → slice_get (placed_levels network) p ≡ Some l → PlacesFit l
fits_at network fits p l there =
    let same : get_or (placed_levels network) p l ≡ l = get_or_from_slice_get (placed_levels network) p l l there in
    subst PlacesFit same (All-get_or PlacesFit (placed_levels network) p l (slice_get_within (placed_levels network) p l there) fits.places)

module _ (network : ConfiguredNetwork) (fits : NetworkFits network) (state : State) (flags : Flags) (m : Mirrors network state flags) where
  -- the level in node/breaker form at its place
  pub level_there : (p : ℕ) (l : PlacedLevel) → slice_get (placed_levels network) p ≡ Some l → level_at state.structure p ≡ Some (translated_level l)
  unfolding level_at
  level_there p l there = ap (λ z. slice_get (levels z) p) m.structure ∙ ap (λ z. slice_get z p) (levels_are network) ∙ mapped_at (placed_levels network) p l there

  -- and as it stands
  pub level_now : (p : ℕ) (l : PlacedLevel) → slice_get (placed_levels network) p ≡ Some l
      → positioned_at state p (translated_level l) ≡ translated_level (stood l (row_at flags.opened p) (row_at flags.connected p))
  unfolding positioned_at
  level_now p l there =
      let r = rows_here network state flags m p l there in
      ap (λ z. positioned (translated_level l) (row_at z p)) m.opened
      ∙ ap (positioned (translated_level l)) (row_joined flags.opened flags.connected p r.0 r.1)
      ∙ level_positioned l (row_at flags.opened p) (row_at flags.connected p) r.2 r.3

  module _ (p k : ℕ) (l : PlacedLevel) (there : slice_get (placed_levels network) p ≡ Some l) (inside : k < length l.outlets) where
    now : PlacedLevel
    now = stood l (row_at flags.opened p) (row_at flags.connected p)

    now_fits : PlacesFit now
    unfolding now
    now_fits = places_stood l (row_at flags.opened p) (row_at flags.connected p) (fits_at network fits p l there)

    now_inside : k < length now.outlets
    unfolding now stood
    now_inside = let e = length_connected l.outlets (row_at flags.connected p) in omega (arith, e, inside)

    now_flag : (get_or now.outlets k absent).connected ≡ flag_at flags.connected (p, k)
    unfolding now stood flag_at
    now_flag = flag_of l.outlets (row_at flags.connected p) k absent (rows_here network state flags m p l there).3 inside

    now_place : length now.joints + k ≡ length (row_at flags.opened p) + k
    unfolding now stood
    now_place =
        let e = length_opened l.joints (row_at flags.opened p) in
        let long = (rows_here network state flags m p l there).2 in
        omega (arith, e, long)

    -- its breaker closed or opened
    put_breaker : (b : Bool) → Mirrors network (with_all_opened state p ((length now.joints + k) ∷ []) (not b)) (record flags { connected = with_flag flags.connected p k b })
    unfolding with_all_opened with_flags
    put_breaker b =
        let r = rows_here network state flags m p l there in
        record {
          structure = m.structure;
          opened = ap (λ z. with_flag z p (length now.joints + k) (not b)) m.opened ∙ put_second flags.opened flags.connected p k (length now.joints + k) b r.0 r.1 now_place;
          switches_fit = m.switches_fit;
          terminals_fit = lengths-with_flag flags.connected p k b ∙ m.terminals_fit;
        }

    connect_by : (t : Bool) → flag_at flags.connected (p, k) ≡ t
        → StepMirrors network (connected state p (translated_level l) (connect_plan_of (translated_level now) (length l.buses + k)))
        (cond (beq t true) (flags, already true) (record flags { connected = with_flag flags.connected p k true }, told.Done))
    unfolding connected already told_reply now stood
    connect_by true e =
        let P : ConnectPlan → Type 0 = λ z. StepMirrors network (connected state p (translated_level l) z) (flags, already true) in
        subst P (sym (connect_stays now now_fits k now_inside (now_flag ∙ e))) (record { mirrors = m; reply = refl })
    connect_by false e =
        let P : ConnectPlan → Type 0 = λ z. StepMirrors network (connected state p (translated_level l) z) (record flags { connected = with_flag flags.connected p k true }, told.Done) in
        subst P (sym (connect_closes now now_fits k now_inside (now_flag ∙ e))) (record { mirrors = put_breaker true; reply = refl })

    disconnect_by : (t : Bool) → flag_at flags.connected (p, k) ≡ t
        → StepMirrors network (disconnected state p (translated_level l) (disconnect_plan_of (translated_level now) (length l.buses + k)))
        (cond (beq t false) (flags, already false) (record flags { connected = with_flag flags.connected p k false }, told.Done))
    unfolding disconnected already told_reply now stood
    disconnect_by true e =
        let P : DisconnectPlan → Type 0 = λ z. StepMirrors network (disconnected state p (translated_level l) z) (record flags { connected = with_flag flags.connected p k false }, told.Done) in
        subst P (sym (disconnect_opens now now_fits k now_inside (now_flag ∙ e))) (record { mirrors = put_breaker false; reply = refl })
    disconnect_by false e =
        let P : DisconnectPlan → Type 0 = λ z. StepMirrors network (disconnected state p (translated_level l) z) (flags, already false) in
        subst P (sym (disconnect_stays now now_fits k now_inside (now_flag ∙ e))) (record { mirrors = m; reply = refl })

    pub connect_there : StepMirrors network (connected_from state (Ok (p, length l.buses + k))) (plugged flags true (Ok (p, k)))
    unfolding connected_from connected_at plugged stood now
    connect_there =
        let P : Option VoltageLevel → Type 0 = λ z. StepMirrors network (connected_at state (p, length l.buses + k) z) (plugged flags true (Ok (p, k))) in
        let Q : VoltageLevel → Type 0 = λ z. StepMirrors network (connected state p (translated_level l) (connect_plan_of z (length l.buses + k))) (plugged flags true (Ok (p, k))) in
        subst P (sym (level_there p l there)) (subst Q (sym (level_now p l there)) (connect_by (flag_at flags.connected (p, k)) refl))

    pub disconnect_there : StepMirrors network (disconnected_from state (Ok (p, length l.buses + k))) (plugged flags false (Ok (p, k)))
    unfolding disconnected_from disconnected_at plugged stood now
    disconnect_there =
        let P : Option VoltageLevel → Type 0 = λ z. StepMirrors network (disconnected_at state (p, length l.buses + k) z) (plugged flags false (Ok (p, k))) in
        let Q : VoltageLevel → Type 0 = λ z. StepMirrors network (disconnected state p (translated_level l) (disconnect_plan_of z (length l.buses + k))) (plugged flags false (Ok (p, k))) in
        subst P (sym (level_there p l there)) (subst Q (sym (level_now p l there)) (disconnect_by (flag_at flags.connected (p, k)) refl))

  -- ---- of a side of an equipment

  -- what a terminal's connecting and disconnecting come to, where it is
  at_outlet : (id : List ℕ) (n : ℕ) → IsAt (placed_levels network) 0 id n (find_outlet network id n) (sites.site (translated network) id n)
      → StepMirrors network (connected_from state (found_or (sites.site (translated network) id n) refusals.NoSide)) (plugged flags true (found_or (find_outlet network id n) refusals.NoSide))
      × StepMirrors network (disconnected_from state (found_or (sites.site (translated network) id n) refusals.NoSide)) (plugged flags false (found_or (find_outlet network id n) refusals.NoSide))
  at_outlet id n a =
      let zero_more : 0 + a.place ≡ a.place = omega arith in
      let found : find_outlet network id n ≡ Some (a.place, a.own) = a.find ∙ ap (λ z. Some (z, a.own)) zero_more in
      let site : sites.site (translated network) id n ≡ Some (a.place, length a.level.buses + a.own) = a.site ∙ ap (λ z. Some (z, length a.level.buses + a.own)) zero_more in
      rw (found, site) (connect_there a.place a.own a.level a.there a.inside, disconnect_there a.place a.own a.level a.there a.inside)

  no_outlet : (id : List ℕ) (n : ℕ) → find_outlet network id n ≡ None → sites.site (translated network) id n ≡ None
      → StepMirrors network (connected_from state (found_or (sites.site (translated network) id n) refusals.NoSide)) (plugged flags true (found_or (find_outlet network id n) refusals.NoSide))
      × StepMirrors network (disconnected_from state (found_or (sites.site (translated network) id n) refusals.NoSide)) (plugged flags false (found_or (find_outlet network id n) refusals.NoSide))
  unfolding connected_from disconnected_from plugged solo.refused refused told_reply
  no_outlet id n e f = rw (e, f) (record { mirrors = m; reply = refl }, record { mirrors = m; reply = refl })

  of_side : (id : List ℕ) → has_id (bus_ids network) id ≡ false → (o : Option ℕ)
      → StepMirrors network (connected_from state (found_or o refusals.NoSide >>= (λ n. found_or (sites.site (translated network) id n) refusals.NoSide))) (plugged flags true (found_or o refusals.NoSide >>= (λ n. found_or (find_outlet network id n) refusals.NoSide)))
      × StepMirrors network (disconnected_from state (found_or o refusals.NoSide >>= (λ n. found_or (sites.site (translated network) id n) refusals.NoSide))) (plugged flags false (found_or o refusals.NoSide >>= (λ n. found_or (find_outlet network id n) refusals.NoSide)))
  unfolding connected_from disconnected_from plugged solo.refused refused told_reply
  of_side id other None = (record { mirrors = m; reply = refl }, record { mirrors = m; reply = refl })
  of_side id other (Some n) = by (sited network id n other)
    where
      by : ((find_outlet network id n ≡ None) × (sites.site (translated network) id n ≡ None)) ⊎ IsAt (placed_levels network) 0 id n (find_outlet network id n) (sites.site (translated network) id n)
          → StepMirrors network (connected_from state (found_or (sites.site (translated network) id n) refusals.NoSide)) (plugged flags true (found_or (find_outlet network id n) refusals.NoSide))
          × StepMirrors network (disconnected_from state (found_or (sites.site (translated network) id n) refusals.NoSide)) (plugged flags false (found_or (find_outlet network id n) refusals.NoSide))
      by (inl h) = no_outlet id n h.0 h.1
      by (inr a) = at_outlet id n a

  of_sides : (id : List ℕ) (side : ℤ) → has_id (bus_ids network) id ≡ false → (o : Option ℕ)
      → StepMirrors network (connected_from state (found_or o refusals.NoEquipment >>= (λ count. found_or (side_of count side) refusals.NoSide >>= (λ n. found_or (sites.site (translated network) id n) refusals.NoSide)))) (plugged flags true (found_or o refusals.NoEquipment >>= (λ count. found_or (side_of count side) refusals.NoSide >>= (λ n. found_or (find_outlet network id n) refusals.NoSide))))
      × StepMirrors network (disconnected_from state (found_or o refusals.NoEquipment >>= (λ count. found_or (side_of count side) refusals.NoSide >>= (λ n. found_or (sites.site (translated network) id n) refusals.NoSide)))) (plugged flags false (found_or o refusals.NoEquipment >>= (λ count. found_or (side_of count side) refusals.NoSide >>= (λ n. found_or (find_outlet network id n) refusals.NoSide))))
  unfolding connected_from disconnected_from plugged solo.refused refused told_reply
  of_sides id side other None = (record { mirrors = m; reply = refl }, record { mirrors = m; reply = refl })
  of_sides id side other (Some count) = of_side id other (side_of count side)

  -- an injection or a line, or nothing, of which a terminal is connected or disconnected
  pub plug_mirrors : (id : List ℕ) (side : ℤ) → has_id (bus_ids network) id ≡ false
      → StepMirrors network (connected_from state (site_of_side state.structure id side)) (plugged flags true (outlet_of_side network id side))
      × StepMirrors network (disconnected_from state (site_of_side state.structure id side)) (plugged flags false (outlet_of_side network id side))
  unfolding site_of_side outlet_of_side
  plug_mirrors id side other =
      let P : Result (ℕ × ℕ) Refusal → Type 0 = λ z. StepMirrors network (connected_from state z) (plugged flags true (outlet_of_side network id side)) × StepMirrors network (disconnected_from state z) (plugged flags false (outlet_of_side network id side)) in
      let same : site_of_side state.structure id side ≡ (found_or (sides network id) refusals.NoEquipment >>= (λ count. found_or (side_of count side) refusals.NoSide >>= (λ n. found_or (sites.site (translated network) id n) refusals.NoSide)))
      = ap (λ z. site_of_side z id side) m.structure
      ∙ ap (λ o. found_or o refusals.NoEquipment >>= (λ count. found_or (side_of count side) refusals.NoSide >>= (λ n. found_or (sites.site (translated network) id n) refusals.NoSide))) (sides_found network id other) in
      subst P (sym same) (of_sides id side other (sides network id))
