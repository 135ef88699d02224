-- What a world of configured buses reads of its node/breaker form.
use Rattle.std.proofs.Common.{◌≡◌, refl, sym, ap, ◌∙◌, subst, ℕ, ℤ, zero, suc, ◌+◌, ◌<◌, Bool, true, false, cond, List, [], ◌∷◌, length, get_or, inl, inr, arith}
use Rattle.std.specs.Prelude.{Option, Some, None, nat_lt, map, option_map, slice_get, IsTrue}
use Rattle.std.proofs.lemmas.Bool.{cases_Bool, both_ways, lt-ltb, le-ltb, false≢true}
use Rattle.std.proofs.lemmas.List.{length-map}
use Rattle.std.proofs.lemmas.List.Elements.{All-head, All-tail}
use Rattle.std.proofs.lemmas.Option.{slice_get-get_or}
use Rattle.grid_ids.specs.Name.{has_id}
use Rattle.grid_level.specs.VoltageLevel.{VoltageLevel}
use Rattle.grid_level.specs.Passing.{positioned}
use Rattle.grid_states.specs.Rows.{row_at}
use Rattle.grid_busview.specs.declared.BusView.{BusView}
use Rattle.grid_busview.specs.Views.{record_watts, bus_view_of}
use Rattle.grid_structure.specs.declared.Site.{Site}
use Rattle.grid_structure.specs.Network.{Network}
use Rattle.grid_structure.specs.Sites as sites
use Rattle.grid_structure.specs.Sites.{levels, terminal_spot}
use Rattle.grid_requests.specs.declared.request.Request.{Request}
use Rattle.grid_requests.specs.declared.request.Request.TheVariants as requests
use Rattle.grid_core.specs.declared.reply.Reply.{Reply}
use Rattle.grid_core.specs.declared.reply.Refusal.TheVariants as refusals
use Rattle.grid_core.specs.Solo.{State}
use Rattle.grid_core.specs.Fitting.{StateFits, RowsFit}
use Rattle.grid_core.specs.Worlds.{worker_live, worker_state}
use Rattle.grid_core.specs.Replies as answers
use Rattle.grid_core.specs.History.{History, Command, command, is_live, working, structure}
use Rattle.grid_requests.specs.Changes.{structure_after}
use Rattle.grid_core.specs.Replies.{state_of}
use Rattle.grid_paths.proofs.Least.{some_same, some_none}
use Rattle.grid_configured.specs.declared.network.ConfiguredLevel.{ConfiguredLevel}
use Rattle.grid_configured.specs.declared.network.ConfiguredNetwork.{ConfiguredNetwork}
use Rattle.grid_configured.specs.Names.{request_plain}
use Rattle.grid_placed.specs.Places.{PlacedLevel}
use Rattle.grid_configured.specs.Levels.{placed_level, placed_levels}
use Rattle.grid_placed.specs.Translation.{translated_level}
use Rattle.grid_configured.specs.Translation.{translated}
use Rattle.grid_configured.specs.Sites.{bus_ids}
use Rattle.grid_configured.specs.Histories.{ConfiguredHistory, ArePlain, view, reply, reply_to}
use Rattle.grid_configured.specs.Viewed.{told_view, seen_at}
use Rattle.grid_configured.specs.declared.view.ConfiguredView.{ConfiguredView}
use Rattle.grid_configured.specs.declared.reply.ConfiguredReply.TheVariants as told
use Rattle.grid_configured.specs.Told.{told_reply, bus_refusal, IsTerminalAsked, IsPassed, is_passed}
use Rattle.grid_configured.specs.Worlds.{history_of, IsConfiguredWorld, bus_count, is_bus_site}
use Rattle.grid_configured.proofs.Locations.{levels_are, level_found, sited}
use Rattle.grid_configured.proofs.Mirrors.{NetworkFits}
use Rattle.grid_configured.proofs.Buses.{bus_sited}
use Rattle.grid_configured.proofs.HistoryMirrors.{IsPlainStep, asks_bus, asks_view, reply_told, bus_reply}
use Rattle.grid_configured.proofs.PresentViews.{variant_view, view_reply, dead_reply, lost_reply}
use Rattle.grid_configured.proofs.FaultlessNetworks.{translatable_fits}
use Rattle.grid_configured.proofs.TerminalMirrors.{mapped_at}

-- ---- the structure stays

no_change : (net : Network) (request : Request) → IsTrue (request_plain request) → structure_after net request ≡ net
unfolding structure_after request_plain
no_change net (requests.Change edit) h = absurd (false≢true h)
no_change net other h = refl

pub structure_stays : (origin : Network) (steps : List Command) → ArePlain steps → structure origin steps ≡ origin
unfolding structure
structure_stays origin [] plain = refl
structure_stays origin (step ∷ before) plain =
    ap (λ z. structure_after z step.request) (structure_stays origin before (All-tail IsPlainStep step before plain)) ∙ no_change origin step.request (All-head IsPlainStep step before plain)

pub level_total : (network : ConfiguredNetwork) → length (levels (translated network)) ≡ length network.levels
unfolding placed_levels
level_total network = ap length (levels_are network) ∙ length-map (placed_levels network) translated_level ∙ length-map network.levels (placed_level network)

-- ---- sites of buses

counted_from : (network : ConfiguredNetwork) (ls : List ConfiguredLevel) (k : ℕ) (p : PlacedLevel) → slice_get (map (placed_level network) ls) k ≡ Some p
    → (k < length ls) × (◌≡◌ {A = ℕ} (elim (slice_get ls k) [ None ↦ 0 | Some l ↦ length l.buses ]) (length p.buses))
unfolding placed_level
counted_from network [] k p e = absurd (some_none p e)
counted_from network (l ∷ ls) zero p e = (omega arith, ap (λ (z : PlacedLevel). length z.buses) (some_same (placed_level network l) p e))
counted_from network (l ∷ ls) (suc k) p e = let r = counted_from network ls k p e in (let lt : k < length ls = r.0 in omega (arith, lt), r.1)

pub counted : (network : ConfiguredNetwork) (k : ℕ) (p : PlacedLevel) → slice_get (placed_levels network) k ≡ Some p → (k < length network.levels) × (bus_count network k ≡ length p.buses)
unfolding placed_levels bus_count
counted network k p e = counted_from network network.levels k p e

-- what is known of a site
record Known (network : ConfiguredNetwork) (id : List ℕ) (o : Option Site) : Type 0 where
  bus : is_bus_site network o ≡ has_id (bus_ids network) id
  inside : (s : Site) → o ≡ Some s → s.level < length network.levels

known_none : (network : ConfiguredNetwork) (id : List ℕ) (o : Option Site) → o ≡ None → has_id (bus_ids network) id ≡ false → Known network id o
unfolding is_bus_site
known_none network id o e h = record {
  bus = ap (is_bus_site network) e ∙ sym h;
  inside = λ s f. absurd (some_none s (sym e ∙ f));
}

known_some : (network : ConfiguredNetwork) (id : List ℕ) (o : Option Site) (s : Site) (k : ℕ) (p : PlacedLevel) → o ≡ Some s → s.level ≡ k → slice_get (placed_levels network) k ≡ Some p
    → nat_lt s.node (length p.buses) ≡ has_id (bus_ids network) id → Known network id o
unfolding is_bus_site
known_some network id o s k p e at there test =
    let r = counted network k p there in
    let lt : k < length network.levels = r.0 in
    record {
      bus = ap (is_bus_site network) e ∙ ap (λ z. nat_lt s.node (bus_count network z)) at ∙ ap (nat_lt s.node) r.1 ∙ test;
      inside = λ t f. let same : s ≡ t = some_same s t (sym e ∙ f) in let level : s.level ≡ t.level = ap (λ (z : Site). z.level) same in omega (arith, level, at, lt);
    }

known : (network : ConfiguredNetwork) → NetworkFits network → (id : List ℕ) → Known network id (option_map terminal_spot (sites.site (translated network) id 1))
known network fits id = elim (cases_Bool (has_id (bus_ids network) id)) [
  | inl h ↦ elim (bus_sited network id 1 (fits.apart id h)) [
    | inl none ↦ absurd (both_ways (has_id (bus_ids network) id) (none.1 refl) h)
    | inr a ↦ known_some network id (option_map terminal_spot (sites.site (translated network) id 1)) (terminal_spot (0 + a.place, a.node)) a.place a.level (ap (option_map terminal_spot) a.site) (omega arith) a.there
        (lt-ltb a.node (length a.level.buses) a.inside ∙ sym h)
  ]
  | inr h ↦ elim (sited network id 1 h) [
    | inl none ↦ known_none network id (option_map terminal_spot (sites.site (translated network) id 1)) (ap (option_map terminal_spot) none.1) h
    | inr a ↦ known_some network id (option_map terminal_spot (sites.site (translated network) id 1)) (terminal_spot (0 + a.place, length a.level.buses + a.own)) a.place a.level (ap (option_map terminal_spot) a.site) (omega arith) a.there
        (le-ltb (length a.level.buses + a.own) (length a.level.buses) (omega arith) ∙ sym h)
  ]
]

pub bus_known : (network : ConfiguredNetwork) → NetworkFits network → (id : List ℕ) (o : Option Site) → o ≡ option_map terminal_spot (sites.site (translated network) id 1) → is_bus_site network o ≡ has_id (bus_ids network) id
bus_known network fits id o e = ap (is_bus_site network) e ∙ (known network fits id).bus

pub site_inside : (network : ConfiguredNetwork) → NetworkFits network → (id : List ℕ) (s : Site) → Some s ≡ option_map terminal_spot (sites.site (translated network) id 1) → s.level < length network.levels
site_inside network fits id s e = (known network fits id).inside s (sym e)

-- ---- views

pub variant_seen : (network : ConfiguredNetwork) → NetworkFits network → (steps : List Command) → ArePlain steps → (v : List ℕ) (place : ℕ) (level : PlacedLevel) → slice_get (placed_levels network) place ≡ Some level
    → view network steps v place ≡ seen_at network (state_of (translated network) steps v).opened place
unfolding seen_at
variant_seen network fits steps plain v place level there = variant_view network fits steps plain v place level there ∙ sym (rw there refl)

there_from : (network : ConfiguredNetwork) (ls : List ConfiguredLevel) (k : ℕ) → k < length ls → (level : PlacedLevel) × (slice_get (map (placed_level network) ls) k ≡ Some level)
there_from network [] k lt = absurd (omega (arith, lt))
there_from network (l ∷ ls) zero lt = (placed_level network l, refl)
there_from network (l ∷ ls) (suc k) lt = there_from network ls k (omega (arith, lt))

pub placed_there : (network : ConfiguredNetwork) (place : ℕ) → place < length network.levels → (level : PlacedLevel) × (slice_get (placed_levels network) place ≡ Some level)
unfolding placed_levels
placed_there network place lt = there_from network network.levels place lt

-- ---- what the code reads

pub total_of : (network : ConfiguredNetwork) (levels : List ConfiguredLevel) (k count : ℕ) (l : ConfiguredLevel) → levels ≡ network.levels → k < length network.levels → l ≡ get_or levels k l → count ≡ length l.buses → count ≡ bus_count network k
unfolding bus_count
total_of network levels k count l same lt at e =
    let there : slice_get network.levels k ≡ Some l = slice_get-get_or network.levels k l lt ∙ ap Some (sym (at ∙ ap (λ z. get_or z k l) same)) in
    e ∙ sym (ap (λ (z : Option ConfiguredLevel). elim z [ None ↦ 0 | Some x ↦ length x.buses ]) there)

-- a world by its parts, and the history that it is seen as
module _ (network : ConfiguredNetwork) (world : History) (now : ConfiguredHistory) (seen : history_of network world ≡ now) (keeps : IsConfiguredWorld network world) where
  pub own_network : network ≡ now.network
  own_network = ap (λ (h : ConfiguredHistory). h.network) seen

  pub own_steps : world.steps ≡ now.steps
  own_steps = ap (λ (h : ConfiguredHistory). h.steps) seen

  pub now_fits : NetworkFits now.network
  now_fits = subst NetworkFits own_network (translatable_fits network keeps.translatable.1)

  pub now_plain : ArePlain now.steps
  now_plain = subst ArePlain own_steps keeps.plain

  pub now_origin : world.origin ≡ translated now.network
  now_origin = keeps.origin ∙ ap translated own_network

  -- its structure is the node/breaker form
  pub now_structure : (net : Network) → net ≡ structure world.origin world.steps → net ≡ translated now.network
  now_structure net e = e ∙ structure_stays world.origin world.steps keeps.plain ∙ now_origin

  module _ (net : Network) (is : net ≡ structure world.origin world.steps) where
    pub level_inside : (place : ℕ) → place < length now.network.levels → place < length (levels net)
    level_inside place lt = let e : length (levels net) ≡ length now.network.levels = ap (λ z. length (levels z)) (now_structure net is) ∙ level_total now.network in omega (arith, e, lt)

    pub level_outside : (place : ℕ) → place < length (levels net) → place < length now.network.levels
    level_outside place lt = let e : length (levels net) ≡ length now.network.levels = ap (λ z. length (levels z)) (now_structure net is) ∙ level_total now.network in omega (arith, e, lt)

    module _ (id : List ℕ) (o : Option Site) (at : o ≡ option_map terminal_spot (sites.site net id 1)) where
      own_site : o ≡ option_map terminal_spot (sites.site (translated now.network) id 1)
      own_site = at ∙ ap (λ z. option_map terminal_spot (sites.site z id 1)) (now_structure net is)

      pub some_inside : (s : Site) → o ≡ Some s → s.level < length now.network.levels
      some_inside s e = site_inside now.network now_fits id s (sym e ∙ own_site)

      pub some_bus : (s : Site) (node count : ℕ) → o ≡ Some s → node ≡ s.node → count ≡ bus_count now.network s.level → nat_lt node count ≡ has_id (bus_ids now.network) id
      unfolding is_bus_site
      some_bus s node count e f g = ap (λ z. nat_lt z count) f ∙ ap (nat_lt s.node) g ∙ sym (ap (is_bus_site now.network) e) ∙ bus_known now.network now_fits id o own_site

      pub none_bus : o ≡ None → false ≡ has_id (bus_ids now.network) id
      unfolding is_bus_site
      none_bus e = sym (ap (is_bus_site now.network) e) ∙ bus_known now.network now_fits id o own_site

    -- the level at a place
    module _ (place : ℕ) (level : VoltageLevel) (at : slice_get (levels net) place ≡ Some level) where
      own_level : (p : PlacedLevel) → slice_get (placed_levels now.network) place ≡ Some p → level ≡ translated_level p
      own_level p there =
          some_same level (translated_level p) (sym at ∙ ap (λ z. slice_get (levels z) place) (now_structure net is) ∙ ap (λ z. slice_get z place) (levels_are now.network) ∙ mapped_at (placed_levels now.network) place p there)

      pub seen_level : (place_in : place < length now.network.levels) (opened : List (List Bool)) (row : List Bool) (watts : List ℤ) (view : BusView) (count : ℕ) → row ≡ row_at opened place → watts ≡ record_watts level
          → view ≡ bus_view_of (positioned level row) watts → count ≡ bus_count now.network place → seen_at now.network opened place ≡ Some (told_view count view)
      unfolding seen_at
      seen_level place_in opened row watts view count r w v e =
          let p = placed_there now.network place place_in in
          let l = own_level p.0 p.1 in
          let long : length p.0.buses ≡ count = sym (counted now.network place p.0 p.1).1 ∙ sym e in
          rw p.1 (sym (ap (λ z. Some (told_view count z)) (v ∙ ap (bus_view_of (positioned level row)) w ∙ ap (λ z. bus_view_of (positioned z row) (record_watts z)) l ∙ ap (λ z. bus_view_of (positioned (translated_level p.0) z) (record_watts (translated_level p.0))) r)
          ∙ ap (λ z. Some (told_view z (bus_view_of (positioned (translated_level p.0) (row_at opened place)) (record_watts (translated_level p.0))))) (sym long)))

  -- rows that a state of the world has fit the network
  pub rows_fit : (state : State) (opened : List (List Bool)) → opened ≡ state.opened → structure world.origin world.steps ≡ state.structure → StateFits state → RowsFit (translated now.network) opened
  rows_fit state opened o s f =
      let same : state.structure ≡ translated now.network = sym s ∙ now_structure (structure world.origin world.steps) refl in
      let P : Network → Type 0 = λ z. RowsFit z opened in
      let Q : List (List Bool) → Type 0 = λ z. RowsFit state.structure z in
      subst P same (subst Q (sym o) f.opened)

  pub named_view : (name : List ℕ) (place : ℕ) (opened : List (List Bool)) (view_seen : ConfiguredView) → place < length now.network.levels → opened ≡ (state_of world.origin world.steps name).opened → seen_at now.network opened place ≡ Some view_seen
      → view now.network now.steps name place ≡ Some view_seen
  named_view name place opened view_seen lt o e =
      let p = placed_there now.network place lt in
      let rows : opened ≡ (state_of (translated now.network) now.steps name).opened
      = o ∙ ap (λ z. (state_of z world.steps name).opened) now_origin ∙ ap (λ z. (state_of (translated now.network) z name).opened) own_steps in
      variant_seen now.network now_fits now.steps now_plain name place p.0 p.1 ∙ ap (λ z. seen_at now.network z place) (sym rows) ∙ e

  -- ---- replies

  module _ (worker : ℕ) where
    pub worker_lives : (t : Bool) → worker_live world worker ≡ t → is_live now.steps (working now.steps worker) ≡ t
    unfolding worker_live
    worker_lives t e = let P : List Command → Type 0 = λ z. is_live z (working z worker) ≡ t in subst P own_steps e

    pub worker_alive : is_live now.steps (working now.steps worker) ≡ true → IsTrue (worker_live world worker)
    unfolding worker_live
    worker_alive e = let P : List Command → Type 0 = λ z. is_live z (working z worker) ≡ true in subst P (sym own_steps) e

    pub worker_view : (id : List ℕ) (place : ℕ) (opened : List (List Bool)) (view : ConfiguredView) → is_live now.steps (working now.steps worker) ≡ true → sites.find_level (translated now.network) id ≡ Some place
        → place < length now.network.levels → opened ≡ (worker_state world worker).opened → seen_at now.network opened place ≡ Some view → reply_to now.network now.steps worker (requests.BusView id) ≡ told.View view
    unfolding worker_state
    worker_view id place opened view alive found lt o e =
        let p = placed_there now.network place lt in
        let rows : opened ≡ (state_of (translated now.network) now.steps (working now.steps worker)).opened
        = o ∙ ap (λ z. (state_of z world.steps (working world.steps worker)).opened) now_origin ∙ ap (λ z. (state_of (translated now.network) z (working z worker)).opened) own_steps in
        view_reply now.network now_fits now.steps now_plain worker id place view alive (sym (level_found now.network id) ∙ found)
        (variant_seen now.network now_fits now.steps now_plain (working now.steps worker) place p.0 p.1 ∙ ap (λ z. seen_at now.network z place) (sym rows) ∙ e)

    pub worker_dead : (id : List ℕ) → is_live now.steps (working now.steps worker) ≡ false → told.Refused refusals.NoVariant ≡ reply_to now.network now.steps worker (requests.BusView id)
    worker_dead id dead = sym (dead_reply now.network now_fits now.steps now_plain worker id dead)

    pub worker_lost : (id : List ℕ) → is_live now.steps (working now.steps worker) ≡ true → sites.find_level (translated now.network) id ≡ None → told.Refused refusals.NoLevel ≡ reply_to now.network now.steps worker (requests.BusView id)
    worker_lost id alive none = sym (lost_reply now.network now_fits now.steps now_plain worker id alive (sym (level_found now.network id) ∙ none))

    -- a reply of the node/breaker form, told
    pub worker_told : (request : Request) (answer : Reply) → IsTrue (request_plain request) → asks_view request ≡ false → asks_bus now.network request ≡ false
        → answer ≡ answers.reply world.origin world.steps (command worker request) → told_reply answer ≡ reply now.network now.steps (command worker request)
    unfolding answers.reply reply
    worker_told request answer plain view bus e =
        ap told_reply (e ∙ ap (λ z. answers.reply_to z world.steps worker request) now_origin ∙ ap (λ z. answers.reply_to (translated now.network) z worker request) own_steps)
        ∙ reply_told now.network now_fits now.steps now_plain worker request plain view bus

    pub worker_bus : (request : Request) (live : Bool) → asks_bus now.network request ≡ true → live ≡ is_live now.steps (working now.steps worker) → bus_refusal live ≡ reply now.network now.steps (command worker request)
    unfolding reply bus_refusal
    worker_bus request live bus e =
        by live e ∙ sym (bus_reply now.network now_fits now.steps now_plain worker request bus)
      where
        by : (t : Bool) → t ≡ is_live now.steps (working now.steps worker) → bus_refusal t ≡ cond (is_live now.steps (working now.steps worker)) (told.Refused refusals.NoEquipment) (told.Refused refusals.NoVariant)
        by true e = sym (ap (λ t. cond t (told.Refused refusals.NoEquipment) (told.Refused refusals.NoVariant)) (sym e))
        by false e = sym (ap (λ t. cond t (told.Refused refusals.NoEquipment) (told.Refused refusals.NoVariant)) (sym e))

    pub worker_plugged : (request : Request) (id : List ℕ) (answer : Reply) (bus live : Bool) → IsTrue (request_plain request) → asks_view request ≡ false → asks_bus now.network request ≡ has_id (bus_ids now.network) id → bus ≡ has_id (bus_ids now.network) id
        → live ≡ is_live now.steps (working now.steps worker) → answer ≡ answers.reply world.origin world.steps (command worker request) → cond bus (bus_refusal live) (told_reply answer) ≡ reply now.network now.steps (command worker request)
    worker_plugged request id answer true live plain view asked bus l e = worker_bus request live (asked ∙ sym bus) l
    worker_plugged request id answer false live plain view asked bus l e = worker_told request answer plain view (asked ∙ sym bus) e

-- ---- kinds of requests

pub passed_parts : (network : ConfiguredNetwork) (request : Request) → IsPassed request → (asks_view request ≡ false) × (asks_bus network request ≡ false)
unfolding is_passed asks_view asks_bus
passed_parts network (requests.Connect id side) h = absurd (false≢true h)
passed_parts network (requests.Disconnect id side) h = absurd (false≢true h)
passed_parts network (requests.BusView level) h = absurd (false≢true h)
passed_parts network other h = (refl, refl)

pub asked_parts : (network : ConfiguredNetwork) (id : List ℕ) (request : Request) → IsTerminalAsked id request → (asks_view request ≡ false) × (asks_bus network request ≡ has_id (bus_ids network) id)
unfolding asks_view asks_bus
asked_parts network id (requests.Connect asked side) h = (refl, ap (has_id (bus_ids network)) (sym h))
asked_parts network id (requests.Disconnect asked side) h = (refl, ap (has_id (bus_ids network)) (sym h))
asked_parts network id other h = absurd h
