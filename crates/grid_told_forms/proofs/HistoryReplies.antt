-- The replies of a history with configured buses fit what was asked.
use Rattle.std.proofs.Common.{◌≡◌, ℕ, ◌<◌, Bool, true, false, Option, Some, None, Result, Ok, Err, List, [], ◌∷◌, refl, sym, ap, subst}
use Rattle.std.specs.Prelude.{option_map, slice_get, if◌then◌else◌}
use Rattle.std.specs.Bool.{beq}
use Rattle.std.specs.List.{AllByRecursion}
use Rattle.std.proofs.lemmas.Option.{slice_get-map}
use Rattle.std.proofs.lemmas.Slice.Eq.{bytes_eq-Decides}
use Rattle.grid_ids.specs.Name.{same_id}
use Rattle.grid_states.specs.Rows.{row_at, with_flag}
use Rattle.grid_core.specs.Solo.{flag_at}
use Rattle.grid_structure.proofs.Places.{position_found}
use Rattle.grid_requests.specs.declared.request.Request.{Request}
use Rattle.grid_requests.specs.declared.request.Request.TheVariants as requests
use Rattle.grid_core.specs.declared.reply.Reply.{Reply}
use Rattle.grid_core.specs.declared.reply.Reply.TheVariants as answers
use Rattle.grid_core.specs.declared.reply.Refusal.{Refusal}
use Rattle.grid_core.specs.declared.reply.Refusal.TheVariants as refusals
use Rattle.grid_core.specs.History.{Command, live, is_live, working}
use Rattle.grid_core.specs.Replies.{use_reply, clone_reply, remove_reply}
use Rattle.grid_print.proofs.Each.{each_of, of_each}
use Rattle.grid_configured.specs.declared.network.ConfiguredNetwork.{ConfiguredNetwork}
use Rattle.grid_configured.specs.declared.network.ConfiguredLevel.{ConfiguredLevel}
use Rattle.grid_configured.specs.declared.reply.ConfiguredReply.{ConfiguredReply}
use Rattle.grid_configured.specs.declared.reply.ConfiguredReply.TheVariants as replies
use Rattle.grid_placed.specs.Places.{stood}
use Rattle.grid_configured.specs.Levels.{placed_level, placed_levels}
use Rattle.grid_configured.specs.Sites.{find_level}
use Rattle.grid_configured.specs.Views.{configured_view}
use Rattle.grid_configured.specs.Machine.{Flags, Step, refused, switched, already, plugged, level_under, view_under, viewed, viewed_at, machine}
use Rattle.grid_configured.specs.Histories.{flags_of, variant_reply, reply_on, reply_to, reply}
use Rattle.grid_configured.specs.Reports.{told_step, told_steps, report_after}
use Rattle.grid_told.proofs.Each.{each_append}
use Rattle.grid_told_forms.specs.Reports.{Fits}
use Rattle.grid_told_forms.specs.Laws.{ConfiguredHistoriesFit}

module _ (r : Request) where
  either : (b : Bool) (x y : Step) → Fits r x.1 → Fits r y.1 → Fits r (if b then x else y).1
  either true x y h k = h
  either false x y h k = k

  one_of : (b : Bool) (x y : ConfiguredReply) → Fits r x → Fits r y → Fits r (if b then x else y)
  one_of true x y h k = h
  one_of false x y h k = k

  already_fits : (connected : Bool) → Fits r (already connected)
  unfolding already
  already_fits true = tt
  already_fits false = tt

  switched_fits : (flags : Flags) (opened : Bool) (o : Option (ℕ × ℕ)) → Fits r (switched flags opened o).1
  unfolding switched refused
  switched_fits flags opened None = tt
  switched_fits flags opened (Some at) = either (beq (flag_at flags.opened at) opened) (flags, replies.Unchanged) (record flags { opened = with_flag flags.opened at.0 at.1 opened }, replies.Done) tt tt

  plugged_fits : (flags : Flags) (connected : Bool) (at : Result (ℕ × ℕ) Refusal) → Fits r (plugged flags connected at).1
  unfolding plugged refused
  plugged_fits flags connected (Ok at) = either (beq (flag_at flags.connected at) connected) (flags, already connected) (record flags { connected = with_flag flags.connected at.0 at.1 connected }, replies.Done) (already_fits connected) tt
  plugged_fits flags connected (Err refusal) = tt

  variant_fits : (x : Reply) → Fits r (variant_reply x)
  unfolding variant_reply
  variant_fits answers.Done = tt
  variant_fits other = tt

viewed_fits : (network : ConfiguredNetwork) (opened connected : List Bool) (id : List ℕ) (o : Option ConfiguredLevel) → ((l : ConfiguredLevel) → o ≡ Some l → l.id ≡ id)
    → Fits (requests.BusView id) (viewed (option_map configured_view (option_map (λ l. stood l opened connected) (option_map (placed_level network) o))))
unfolding viewed configured_view stood placed_level
viewed_fits network opened connected id None named = tt
viewed_fits network opened connected id (Some l) named = ap requests.BusView (sym (named l refl))

view_fits : (network : ConfiguredNetwork) (flags : Flags) (id : List ℕ) (o : Option ℕ) → find_level network id ≡ o → Fits (requests.BusView id) (viewed_at network flags o)
unfolding viewed_at view_under level_under placed_levels find_level
view_fits network flags id None e = tt
view_fits network flags id (Some place) e =
    let opened = row_at flags.opened place in
    let connected = row_at flags.connected place in
    let named : (l : ConfiguredLevel) → slice_get network.levels place ≡ Some l → l.id ≡ id =
    λ l there. sym ((bytes_eq-Decides id l.id).0 ((position_found (λ (x : ConfiguredLevel). same_id id x.id) network.levels place e).1 l there)) in
    subst (λ o. Fits (requests.BusView id) (viewed (option_map configured_view (option_map (λ l. stood l opened connected) o)))) (sym (slice_get-map (placed_level network) network.levels place))
    (viewed_fits network opened connected id (slice_get network.levels place) named)

machine_fits : (network : ConfiguredNetwork) (flags : Flags) (r : Request) → Fits r (machine network flags r).1
unfolding machine
machine_fits network flags (requests.OpenSwitch id) = switched_fits (requests.OpenSwitch id) flags true _
machine_fits network flags (requests.CloseSwitch id) = switched_fits (requests.CloseSwitch id) flags false _
machine_fits network flags (requests.Connect id side) = plugged_fits (requests.Connect id side) flags true _
machine_fits network flags (requests.Disconnect id side) = plugged_fits (requests.Disconnect id side) flags false _
machine_fits network flags (requests.BusView level) = view_fits network flags level (find_level network level) refl
machine_fits network flags other = tt

on_fits : (network : ConfiguredNetwork) (before : List Command) (v : List ℕ) (r : Request) → Fits r (reply_on network before v r)
unfolding reply_on
on_fits network before v r = one_of r (is_live before v) _ (replies.Refused refusals.NoVariant) (machine_fits network (flags_of network before v) r) tt

reply_fits : (network : ConfiguredNetwork) (before : List Command) (worker : ℕ) (r : Request) → Fits r (reply_to network before worker r)
unfolding reply_to
reply_fits network before worker (requests.UseVariant name) = variant_fits (requests.UseVariant name) (use_reply (live before) name)
reply_fits network before worker (requests.CloneVariant from to overwrite) = variant_fits (requests.CloneVariant from to overwrite) (clone_reply (live before) from to overwrite)
reply_fits network before worker (requests.RemoveVariant name) = variant_fits (requests.RemoveVariant name) (remove_reply (live before) name)
reply_fits network before worker (requests.OpenSwitch id) = on_fits network before (working before worker) (requests.OpenSwitch id)
reply_fits network before worker (requests.CloseSwitch id) = on_fits network before (working before worker) (requests.CloseSwitch id)
reply_fits network before worker (requests.RetainSwitch id retained) = on_fits network before (working before worker) (requests.RetainSwitch id retained)
reply_fits network before worker (requests.SetPower id watts) = on_fits network before (working before worker) (requests.SetPower id watts)
reply_fits network before worker requests.Totals = on_fits network before (working before worker) requests.Totals
reply_fits network before worker (requests.Connect id side) = on_fits network before (working before worker) (requests.Connect id side)
reply_fits network before worker (requests.Disconnect id side) = on_fits network before (working before worker) (requests.Disconnect id side)
reply_fits network before worker (requests.BusBreakerView level) = on_fits network before (working before worker) (requests.BusBreakerView level)
reply_fits network before worker (requests.BusView level) = on_fits network before (working before worker) (requests.BusView level)
reply_fits network before worker (requests.Components level) = on_fits network before (working before worker) (requests.Components level)
reply_fits network before worker (requests.Change edit) = on_fits network before (working before worker) (requests.Change edit)

told_fit : (network : ConfiguredNetwork) (steps : List Command) → AllByRecursion (λ t. Fits t.request t.reply) (told_steps network steps)
unfolding told_steps told_step reply
told_fit network [] = tt
told_fit network (step ∷ before) = each_append (λ t. Fits t.request t.reply) (told_steps network before) (told_step network before step ∷ []) (told_fit network before) (reply_fits network before step.worker step.request, tt)

workers_fit : (count : ℕ) (network : ConfiguredNetwork) (steps : List Command) → AllByRecursion (λ step. step.worker < count) steps → AllByRecursion (λ t. t.worker < count) (told_steps network steps)
unfolding told_steps told_step
workers_fit count network [] h = tt
workers_fit count network (step ∷ before) h = each_append (λ t. t.worker < count) (told_steps network before) (told_step network before step ∷ []) (workers_fit count network before h.1) (h.0, tt)

pub configured_histories_fit : ConfiguredHistoriesFit
unfolding report_after
configured_histories_fit history h =
    let told = told_steps history.network history.steps in
    record {
      replies = of_each (λ t. Fits t.request t.reply) told (told_fit history.network history.steps);
      workers = of_each (λ t. t.worker < history.workers) told (workers_fit history.workers history.network history.steps (each_of (λ step. step.worker < history.workers) history.steps h));
    }
