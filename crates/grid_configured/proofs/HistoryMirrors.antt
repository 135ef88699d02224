-- The machines of the two forms side by side: of one request, of a lineage, and of a history.
use Rattle.std.proofs.Common.{◌≡◌, refl, sym, ap, ◌∙◌, subst, ℕ, ℤ, Bool, true, false, cond, not, ◌&&◌, ◌||◌, List, [], ◌∷◌, length, inl, inr}
use Rattle.std.specs.Prelude.{nat_le, All, IsTrue}
use Rattle.std.specs.List.{list_all}
use Rattle.std.proofs.lemmas.Bool.{cases_Bool, false≢true, true≢false, and_parts, not-true}
use Rattle.std.proofs.lemmas.List.Elements.{All-head, All-tail, All-cons, All-nil}
use Rattle.grid_ids.specs.Name.{same_id, has_id}
use Rattle.grid_slots.specs.Names.{initial_state, max_variants}
use Rattle.grid_structure.specs.Network.{Network}
use Rattle.grid_requests.specs.declared.request.Request.{Request}
use Rattle.grid_requests.specs.declared.request.Request.TheVariants as requests
use Rattle.grid_core.specs.declared.reply.Reply.{Reply}
use Rattle.grid_core.specs.declared.reply.Reply.TheVariants as replies
use Rattle.grid_core.specs.declared.reply.Refusal.{Refusal}
use Rattle.grid_core.specs.declared.reply.Refusal.TheVariants as refusals
use Rattle.grid_core.specs.Solo as solo
use Rattle.grid_core.specs.Solo.{State}
use Rattle.grid_core.specs.History as histories
use Rattle.grid_core.specs.History.{Command, live, is_live, working, switches_on, source_of, is_kept, edit_passes, structure}
use Rattle.grid_core.specs.Replies as answers
use Rattle.grid_core.specs.Replies.{state_of, use_reply, clone_reply, remove_reply}
use Rattle.grid_configured.specs.declared.network.ConfiguredNetwork.{ConfiguredNetwork}
use Rattle.grid_configured.specs.declared.reply.ConfiguredReply.TheVariants as told
use Rattle.grid_configured.specs.Names.{is_plain, request_plain}
use Rattle.grid_configured.specs.Translation.{translated}
use Rattle.grid_configured.specs.Sites.{bus_ids}
use Rattle.grid_configured.specs.Machine.{Flags, refused, outlet_of_side, plugged, machine, after}
use Rattle.grid_configured.specs.Histories.{lineage, flags_of, variant_reply, reply_on, reply_to, ArePlain}
use Rattle.grid_configured.specs.Told.{told_reply}
use Rattle.grid_configured.proofs.Locations.{is_marked}
use Rattle.grid_configured.proofs.Mirrors.{NetworkFits, Mirrors, opening_mirrors, switch_mirrors}
use Rattle.grid_configured.proofs.TerminalMirrors.{plug_mirrors}
use Rattle.grid_configured.proofs.Buses.{bus_stays}

plain_unmarked : (id : List ℕ) → IsTrue (list_all is_plain (id ∷ [])) → is_marked id ≡ false
unfolding is_plain
plain_unmarked id h = not-true (is_marked id) (and_parts (not (is_marked id)) _ (and_parts (is_plain id) _ h).0).0

-- ---- one request

-- whether a terminal of a bus is asked for
unfoldable pub asks_bus : ConfiguredNetwork → Request → Bool
asks_bus network (requests.Connect id side) = has_id (bus_ids network) id
asks_bus network (requests.Disconnect id side) = has_id (bus_ids network) id
asks_bus network other = false

-- whether a view is asked for
unfoldable pub asks_view : Request → Bool
asks_view (requests.BusView level) = true
asks_view other = false

module _ (network : ConfiguredNetwork) (fits : NetworkFits network) (state : State) (flags : Flags) (m : Mirrors network state flags) where
  kept_by : (other : State) → other ≡ state → Mirrors network other flags
  kept_by other e = let P : State → Type 0 = λ z. Mirrors network z flags in subst P (sym e) m

  bus_mirrors : (id : List ℕ) (side : ℤ) → has_id (bus_ids network) id ≡ true
      → Mirrors network (solo.connected_from state (solo.site_of_side state.structure id side)).0 (plugged flags true (outlet_of_side network id side)).0
      × Mirrors network (solo.disconnected_from state (solo.site_of_side state.structure id side)).0 (plugged flags false (outlet_of_side network id side)).0
  unfolding outlet_of_side plugged refused
  bus_mirrors id side h =
      let none = fits.apart id h in
      let stays = bus_stays network fits state (flags, m) id side none in
      rw none (kept_by (solo.connected_from state (solo.site_of_side state.structure id side)).0 stays.0, kept_by (solo.disconnected_from state (solo.site_of_side state.structure id side)).0 stays.1)

  -- what a request leaves in each
  pub request_mirrors : (request : Request) → IsTrue (request_plain request) → Mirrors network (solo.solo state request).0 (machine network flags request).0
  unfolding solo.solo machine request_plain
  request_mirrors (requests.OpenSwitch id) h = (switch_mirrors network state flags m true id (plain_unmarked id h)).mirrors
  request_mirrors (requests.CloseSwitch id) h = (switch_mirrors network state flags m false id (plain_unmarked id h)).mirrors
  request_mirrors (requests.Connect id side) h = elim (cases_Bool (has_id (bus_ids network) id)) [
    | inl bus ↦ (bus_mirrors id side bus).0
    | inr other ↦ (plug_mirrors network fits state flags m id side other).0.mirrors
  ]
  request_mirrors (requests.Disconnect id side) h = elim (cases_Bool (has_id (bus_ids network) id)) [
    | inl bus ↦ (bus_mirrors id side bus).1
    | inr other ↦ (plug_mirrors network fits state flags m id side other).1.mirrors
  ]
  request_mirrors (requests.BusView level) h = m
  request_mirrors (requests.UseVariant name) h = m
  request_mirrors (requests.CloneVariant from to overwrite) h = m
  request_mirrors (requests.RemoveVariant name) h = m
  request_mirrors other h = absurd (false≢true h)

  -- the reply to a request of switches or terminals
  pub reply_mirrors : (request : Request) → IsTrue (request_plain request) → histories.is_switching request ≡ true → asks_bus network request ≡ false
      → told_reply (solo.solo state request).1 ≡ (machine network flags request).1
  unfolding solo.solo machine request_plain asks_bus histories.is_switching
  reply_mirrors (requests.OpenSwitch id) h s b = (switch_mirrors network state flags m true id (plain_unmarked id h)).reply
  reply_mirrors (requests.CloseSwitch id) h s b = (switch_mirrors network state flags m false id (plain_unmarked id h)).reply
  reply_mirrors (requests.Connect id side) h s b = (plug_mirrors network fits state flags m id side b).0.reply
  reply_mirrors (requests.Disconnect id side) h s b = (plug_mirrors network fits state flags m id side b).1.reply
  reply_mirrors (requests.RetainSwitch id retained) h s b = absurd (false≢true h)
  reply_mirrors (requests.SetPower id watts) h s b = absurd (false≢true h)
  reply_mirrors other h s b = absurd (false≢true s)

-- ---- lineages

no_edit : (net : Network) (request : Request) → IsTrue (request_plain request) → edit_passes net request ≡ false
unfolding edit_passes request_plain
no_edit net (requests.Change edit) h = absurd (false≢true h)
no_edit net other h = refl

same_kept : (network : Network) (before : List Command) (step : Command) (v : List ℕ) → IsTrue (request_plain step.request) → is_kept network before step v ≡ switches_on before step v
unfolding is_kept
same_kept network before step v h = ap (λ t. t || switches_on before step v) (no_edit (structure network before) step.request h)

-- of a step with plain ids
abbrev pub IsPlainStep : Command → Type 0
IsPlainStep step = IsTrue (request_plain step.request)

-- without edits a lineage knows no network
pub lineage_same : (network : Network) (steps : List Command) (v : List ℕ) → ArePlain steps → histories.lineage network steps v ≡ lineage steps v
unfolding histories.lineage lineage
lineage_same network [] v plain = refl
lineage_same network (step ∷ before) v plain =
    let rest = lineage_same network before (source_of before step.request v) (All-tail IsPlainStep step before plain) in
    ap (λ z. cond (is_kept network before step v) (step.request ∷ z) z) rest
    ∙ ap (λ t. cond t (step.request ∷ lineage before (source_of before step.request v)) (lineage before (source_of before step.request v))) (same_kept network before step v (All-head IsPlainStep step before plain))

abbrev IsPlainRequest : Request → Type 0
IsPlainRequest request = IsTrue (request_plain request)

plain_by : (request : Request) (rest : List Request) (t : Bool) → IsPlainRequest request → All IsPlainRequest rest → All IsPlainRequest (cond t (request ∷ rest) rest)
plain_by request rest true h k = All-cons IsPlainRequest request rest h k
plain_by request rest false h k = k

lineage_plain : (steps : List Command) (v : List ℕ) → ArePlain steps → All IsPlainRequest (lineage steps v)
unfolding lineage
lineage_plain [] v plain = All-nil IsPlainRequest
lineage_plain (step ∷ before) v plain =
    plain_by step.request (lineage before (source_of before step.request v)) (switches_on before step v) (All-head IsPlainStep step before plain)
    (lineage_plain before (source_of before step.request v) (All-tail IsPlainStep step before plain))

after_mirrors : (network : ConfiguredNetwork) → NetworkFits network → (list : List Request) → All IsPlainRequest list → Mirrors network (solo.after (translated network) list) (after network list)
unfolding solo.after after
after_mirrors network fits [] plain = opening_mirrors network
after_mirrors network fits (request ∷ before) plain =
    request_mirrors network fits (solo.after (translated network) before) (after network before) (after_mirrors network fits before (All-tail IsPlainRequest request before plain)) request (All-head IsPlainRequest request before plain)

-- what a variant's lineage left it in
pub variant_mirrors : (network : ConfiguredNetwork) → NetworkFits network → (steps : List Command) (v : List ℕ) → ArePlain steps → Mirrors network (state_of (translated network) steps v) (flags_of network steps v)
unfolding state_of flags_of
variant_mirrors network fits steps v plain =
    let P : List Request → Type 0 = λ z. Mirrors network (solo.after (translated network) z) (after network (lineage steps v)) in
    subst P (sym (lineage_same (translated network) steps v plain)) (after_mirrors network fits (lineage steps v) (lineage_plain steps v plain))

-- ---- replies

-- told as it is answered of variants
abbrev IsAlike : Reply → Type 0
IsAlike r = told_reply r ≡ variant_reply r

alike_by : (t : Bool) (one two : Reply) → IsAlike one → IsAlike two → IsAlike (cond t one two)
alike_by true one two h k = h
alike_by false one two h k = k

alike_refused : (refusal : Refusal) → IsAlike (replies.Refused refusal)
unfolding told_reply variant_reply
alike_refused refusal = refl

alike_done : IsAlike replies.Done × IsAlike replies.Created × IsAlike replies.Overwritten
unfolding told_reply variant_reply
alike_done = (refl, refl, refl)

use_told : (names : List (List ℕ)) (name : List ℕ) → IsAlike (use_reply names name)
unfolding use_reply
use_told names name = alike_by (has_id names name) replies.Done (replies.Refused refusals.NoVariant) alike_done.0 (alike_refused refusals.NoVariant)

clone_told : (names : List (List ℕ)) (from to : List ℕ) (overwrite : Bool) → IsAlike (clone_reply names from to overwrite)
unfolding clone_reply
clone_told names from to overwrite =
    alike_by (not (has_id names from)) _ _ (alike_refused refusals.NoVariant)
    (alike_by (has_id names to && not overwrite) _ _ (alike_refused refusals.TargetExists)
    (alike_by (not (has_id names to) && nat_le max_variants (length names)) _ _ (alike_refused refusals.TooManyVariants)
    (alike_by (has_id names to) replies.Overwritten replies.Created alike_done.2 alike_done.1)))

remove_told : (names : List (List ℕ)) (name : List ℕ) → IsAlike (remove_reply names name)
unfolding remove_reply
remove_told names name =
    alike_by (same_id initial_state name) _ _ (alike_refused refusals.InitialStays)
    (alike_by (has_id names name) replies.Done (replies.Refused refusals.NoVariant) alike_done.0 (alike_refused refusals.NoVariant))

module _ (network : ConfiguredNetwork) (fits : NetworkFits network) (before : List Command) (plain : ArePlain before) where
  on_told : (v : List ℕ) (request : Request) → IsTrue (request_plain request) → histories.is_switching request ≡ true → asks_bus network request ≡ false
      → told_reply (answers.reply_on (translated network) before v request) ≡ reply_on network before v request
  unfolding answers.reply_on reply_on told_reply
  on_told v request h s b = by (is_live before v)
    where
      by : (t : Bool) → told_reply (cond t (solo.solo (state_of (translated network) before v) request).1 (replies.Refused refusals.NoVariant)) ≡ cond t (machine network (flags_of network before v) request).1 (told.Refused refusals.NoVariant)
      by true = reply_mirrors network fits (state_of (translated network) before v) (flags_of network before v) (variant_mirrors network fits before v plain) request h s b
      by false = refl

  -- the reply to a request other than a view, told
  pub reply_told : (worker : ℕ) (request : Request) → IsTrue (request_plain request) → asks_view request ≡ false → asks_bus network request ≡ false
      → told_reply (answers.reply_to (translated network) before worker request) ≡ reply_to network before worker request
  unfolding answers.reply_to reply_to request_plain asks_view histories.is_switching
  reply_told worker (requests.UseVariant name) h w b = use_told (live before) name
  reply_told worker (requests.CloneVariant from to overwrite) h w b = clone_told (live before) from to overwrite
  reply_told worker (requests.RemoveVariant name) h w b = remove_told (live before) name
  reply_told worker (requests.OpenSwitch id) h w b = on_told (working before worker) (requests.OpenSwitch id) h refl b
  reply_told worker (requests.CloseSwitch id) h w b = on_told (working before worker) (requests.CloseSwitch id) h refl b
  reply_told worker (requests.Connect id side) h w b = on_told (working before worker) (requests.Connect id side) h refl b
  reply_told worker (requests.Disconnect id side) h w b = on_told (working before worker) (requests.Disconnect id side) h refl b
  reply_told worker (requests.BusView level) h w b = absurd (true≢false w)
  reply_told worker other h w b = absurd (false≢true h)

  -- where a terminal of a bus is asked for
  pub bus_reply : (worker : ℕ) (request : Request) → asks_bus network request ≡ true
      → reply_to network before worker request ≡ cond (is_live before (working before worker)) (told.Refused refusals.NoEquipment) (told.Refused refusals.NoVariant)
  unfolding asks_bus reply_to reply_on machine outlet_of_side plugged refused
  bus_reply worker (requests.Connect id side) b = rw (fits.apart id b) refl
  bus_reply worker (requests.Disconnect id side) b = rw (fits.apart id b) refl
  bus_reply worker other b = absurd (false≢true b)
