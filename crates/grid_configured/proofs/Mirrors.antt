-- The machine of the node/breaker form mirrors that of the configured buses.
use Rattle.std.proofs.Common.{◌≡◌, refl, sym, ap, ◌∙◌, subst, ℕ, suc, ◌+◌, ◌<◌, Bool, true, false, cond, List, [], ◌∷◌, length, arith}
use Rattle.std.specs.Prelude.{Option, Some, None, map, position, slice_get, All}
use Rattle.std.specs.Bool.{beq}
use Rattle.std.proofs.lemmas.List.{length-map}
use Rattle.grid_ids.specs.Name.{has_id}
use Rattle.grid_level.specs.declared.Switch.{Switch}
use Rattle.grid_level.specs.VoltageLevel.{VoltageLevel}
use Rattle.grid_structure.specs.Sites as sites
use Rattle.grid_structure.specs.Sites.{first_found}
use Rattle.grid_states.specs.Rows.{row_at, with_flag}
use Rattle.grid_core.specs.declared.reply.Reply.TheVariants as replies
use Rattle.grid_core.specs.Solo as solo
use Rattle.grid_core.specs.Solo.{State, record_rows, flag_at, set_from}
use Rattle.grid_paths.proofs.Least.{some_same, some_none}
use Rattle.grid_structure.proofs.Places.{position_found}
use Rattle.grid_core.proofs.SwitchCounts.{lengths-with_flag}
use Rattle.grid_configured.specs.declared.network.ConfiguredNetwork.{ConfiguredNetwork}
use Rattle.grid_configured.specs.declared.reply.ConfiguredReply.TheVariants as told
use Rattle.grid_placed.specs.Places.{PlacedLevel, PlacesFit}
use Rattle.grid_configured.specs.Levels.{placed_levels}
use Rattle.grid_placed.specs.Translation.{translated_level}
use Rattle.grid_configured.specs.Translation.{translated}
use Rattle.grid_configured.specs.Sites.{bus_ids, is_joint, find_joint, sides}
use Rattle.grid_configured.specs.Machine.{Flags, Step, opening, refused, switched}
use Rattle.grid_configured.specs.Told.{told_reply}
use Rattle.grid_configured.proofs.Locations.{levels_are, switch_found, is_marked}
use Rattle.grid_configured.proofs.Rows.{joined_rows, flag_first, put_first, record_flags, row_long}

-- what each network that can be translated keeps: places of buses, and no bus has the id of an injection or a line
pub record NetworkFits (network : ConfiguredNetwork) : Type 0 where
  pub places : All PlacesFit (placed_levels network)
  pub apart : (id : List ℕ) → has_id (bus_ids network) id ≡ true → sides network id ≡ None

-- a state of the node/breaker form, and flags of switches and terminals
pub record Mirrors (network : ConfiguredNetwork) (state : State) (flags : Flags) : Type 0 where
  pub structure : state.structure ≡ translated network
  pub opened : state.opened ≡ joined_rows flags.opened flags.connected
  pub switches_fit : map length flags.opened ≡ map (λ l. length l.joints) (placed_levels network)
  pub terminals_fit : map length flags.connected ≡ map (λ l. length l.outlets) (placed_levels network)

-- a step of each: what they leave mirrors, and the reply is told
pub record StepMirrors (network : ConfiguredNetwork) (of : solo.Step) (step : Step) : Type 0 where
  pub mirrors : Mirrors network of.0 step.0
  pub reply : told_reply of.1 ≡ step.1

-- ---- at first

record_length : {X : Type 0} (f : PlacedLevel → List X) (g : X → Bool) (ls : List PlacedLevel) → map length (map (λ l. map g (f l)) ls) ≡ map (λ l. length (f l)) ls
record_length f g [] = refl
record_length f g (l ∷ ls) = ap (λ n. n ∷ map length (map (λ l. map g (f l)) ls)) (length-map (f l) g) ∙ ap (λ z. length (f l) ∷ z) (record_length f g ls)

map_map' : (ls : List PlacedLevel) → map (λ (l : VoltageLevel). map (λ s. s.opened) l.switches) (map translated_level ls) ≡ map (λ (l : PlacedLevel). map (λ (s : Switch). s.opened) (translated_level l).switches) ls
map_map' [] = refl
map_map' (l ∷ ls) = ap (λ z. map (λ (s : Switch). s.opened) (translated_level l).switches ∷ z) (map_map' ls)

pub opening_mirrors : (network : ConfiguredNetwork) → Mirrors network (solo.opening (translated network)) (opening network)
unfolding solo.opening opening record_rows
opening_mirrors network = record {
  structure = refl;
  opened = ap (map (λ (l : VoltageLevel). map (λ s. s.opened) l.switches)) (levels_are network) ∙ map_map' (placed_levels network) ∙ record_flags (placed_levels network);
  switches_fit = record_length (λ l. l.joints) (λ s. s.opened) (placed_levels network);
  terminals_fit = record_length (λ l. l.outlets) (λ t. t.connected) (placed_levels network);
}

-- ---- what is found is there

pub record IsThere (ls : List PlacedLevel) (from : ℕ) (test : PlacedLevel → Option ℕ) (at : ℕ × ℕ) : Type 0 where
  pub place : ℕ
  pub level : PlacedLevel
  pub there : slice_get ls place ≡ Some level
  pub same : at.0 ≡ from + place
  pub own : test level ≡ Some at.1

found_there : (from : ℕ) (test : PlacedLevel → Option ℕ) (ls : List PlacedLevel) (at : ℕ × ℕ) → first_found from test ls ≡ Some at → IsThere ls from test at
found_there from test [] at e = absurd (some_none at e)
found_there from test (l ∷ ls) at e = by (test l) refl e (found_there (from + 1) test ls at)
  where
    by : (o : Option ℕ) → test l ≡ o → ◌≡◌ {A = Option (ℕ × ℕ)} (elim o [ Some y ↦ Some (from, y) | None ↦ first_found (from + 1) test ls ]) (Some at) → (first_found (from + 1) test ls ≡ Some at → IsThere ls (from + 1) test at) → IsThere (l ∷ ls) from test at
    by (Some y) own h rest =
        let same : (from, y) ≡ at = some_same (from, y) at h in
        record { place = 0; level = l; there = refl; same = sym (ap (λ (z : ℕ × ℕ). z.0) same) ∙ omega arith; own = own ∙ ap (λ (z : ℕ × ℕ). Some z.1) same }
    by None own h rest =
        let r = rest h in
        let next = r.same in
        record { place = suc r.place; level = r.level; there = r.there; same = omega (arith, next); own = r.own }

-- ---- switches

module _ (network : ConfiguredNetwork) (state : State) (flags : Flags) (m : Mirrors network state flags) where
  -- a level's rows
  pub rows_here : (p : ℕ) (l : PlacedLevel) → slice_get (placed_levels network) p ≡ Some l
      → (p < length flags.opened) × (p < length flags.connected) × (length (row_at flags.opened p) ≡ length l.joints) × (length (row_at flags.connected p) ≡ length l.outlets)
  rows_here p l there =
      let one = row_long (λ l. length l.joints) (placed_levels network) flags.opened p l m.switches_fit there in
      let two = row_long (λ l. length l.outlets) (placed_levels network) flags.connected p l m.terminals_fit there in
      (one.0, two.0, one.1, two.1)

  put_switch : (p k : ℕ) (b : Bool) → p < length flags.opened → p < length flags.connected → k < length (row_at flags.opened p)
      → Mirrors network (solo.with_opened state (p, k) b) (record flags { opened = with_flag flags.opened p k b })
  unfolding solo.with_opened
  put_switch p k b lt less here = record {
    structure = m.structure;
    opened = ap (λ z. with_flag z p k b) m.opened ∙ put_first flags.opened flags.connected p k b lt less here;
    switches_fit = lengths-with_flag flags.opened p k b ∙ m.switches_fit;
    terminals_fit = m.terminals_fit;
  }

  switch_set : (b t : Bool) (changed : State) (new : Flags) → Mirrors network changed new
      → StepMirrors network (cond t (state, replies.Unchanged) (changed, replies.Done)) (cond t (flags, told.Unchanged) (new, told.Done))
  unfolding told_reply
  switch_set b true changed new c = record { mirrors = m; reply = refl }
  switch_set b false changed new c = record { mirrors = c; reply = refl }

  switched_at : (b : Bool) (at : ℕ × ℕ) → at.0 < length flags.opened → at.0 < length flags.connected → at.1 < length (row_at flags.opened at.0)
      → StepMirrors network (solo.switched state b (Some at)) (switched flags b (Some at))
  unfolding solo.switched switched set_from
  switched_at b at lt less here =
      let same : flag_at state.opened at ≡ flag_at flags.opened at = ap (λ z. flag_at z at) m.opened ∙ flag_first flags.opened flags.connected at.0 at.1 lt less here in
      let P : Bool → Type 0 = λ z. StepMirrors network (cond (beq z b) (state, replies.Unchanged) (solo.with_opened state at b, replies.Done)) (cond (beq (flag_at flags.opened at) b) (flags, told.Unchanged) (record flags { opened = with_flag flags.opened at.0 at.1 b }, told.Done)) in
      subst P (sym same) (switch_set b (beq (flag_at flags.opened at) b) (solo.with_opened state at b) (record flags { opened = with_flag flags.opened at.0 at.1 b }) (put_switch at.0 at.1 b lt less here))

  switched_found : (b : Bool) (id : List ℕ) (o : Option (ℕ × ℕ)) → find_joint network id ≡ o → StepMirrors network (solo.switched state b o) (switched flags b o)
  unfolding solo.switched switched solo.refused refused told_reply find_joint
  switched_found b id None e = record { mirrors = m; reply = refl }
  switched_found b id (Some at) e =
      let f = found_there 0 (λ l. position (is_joint id) l.joints) (placed_levels network) at e in
      let same : at.0 ≡ f.place = (let g = f.same in omega (arith, g)) in
      let P : ℕ → Type 0 = λ z. slice_get (placed_levels network) z ≡ Some f.level in
      let r = rows_here at.0 f.level (subst P (sym same) f.there) in
      let inside : at.1 < length f.level.joints = (position_found (is_joint id) f.level.joints at.1 f.own).0 in
      let long : length (row_at flags.opened at.0) ≡ length f.level.joints = r.2 in
      switched_at b at r.0 r.1 (omega (arith, inside, long))

  -- a switch that is opened or closed
  pub switch_mirrors : (b : Bool) (id : List ℕ) → is_marked id ≡ false → StepMirrors network (solo.switched state b (sites.find_switch state.structure id)) (switched flags b (find_joint network id))
  switch_mirrors b id plain =
      let same : sites.find_switch state.structure id ≡ find_joint network id = ap (λ z. sites.find_switch z id) m.structure ∙ switch_found network id plain in
      let P : Option (ℕ × ℕ) → Type 0 = λ z. StepMirrors network (solo.switched state b z) (switched flags b (find_joint network id)) in
      subst P (sym same) (switched_found b id (find_joint network id) refl)
