-- The replies of a history fit what was asked.
use Rattle.std.proofs.Common.{◌≡◌, ℕ, ◌<◌, Bool, true, false, Option, Some, None, Result, Ok, Err, List, [], ◌∷◌, refl, sym, ap, ◌∙◌}
use Rattle.std.specs.Prelude.{not, ◌&&◌, nat_le, if◌then◌else◌, option_map, option_and_then, length}
use Rattle.std.specs.Bool.{beq}
use Rattle.std.specs.Ordering.{int_eq}
use Rattle.std.specs.List.{AllByRecursion}
use Rattle.std.proofs.lemmas.Slice.Eq.{bytes_eq-Decides}
use Rattle.grid_ids.specs.Name.{same_id, has_id}
use Rattle.grid_level.specs.VoltageLevel.{VoltageLevel}
use Rattle.grid_level.specs.Passing.{stood}
use Rattle.grid_structure.specs.Network.{Network}
use Rattle.grid_structure.specs.Sites.{levels, find_level}
use Rattle.grid_structure.specs.Editing.{apply}
use Rattle.grid_structure.specs.declared.EditFault.{EditFault}
use Rattle.grid_structure.proofs.Places.{position_found}
use Rattle.grid_slots.specs.Names.{initial_state, max_variants}
use Rattle.grid_connect.specs.declared.ConnectPlan.{ConnectPlan}
use Rattle.grid_connect.specs.declared.ConnectPlan.TheVariants as connects
use Rattle.grid_connect.specs.declared.DisconnectPlan.{DisconnectPlan}
use Rattle.grid_connect.specs.declared.DisconnectPlan.TheVariants as disconnects
use Rattle.grid_busview.specs.Views.{bus_view_of}
use Rattle.grid_busbreaker.specs.Views.{bus_breaker_view_of}
use Rattle.grid_requests.specs.declared.request.Request.{Request}
use Rattle.grid_requests.specs.declared.request.Request.TheVariants as requests
use Rattle.grid_core.specs.declared.reply.Reply.{Reply}
use Rattle.grid_core.specs.declared.reply.Reply.TheVariants as replies
use Rattle.grid_core.specs.declared.reply.Refusal.{Refusal}
use Rattle.grid_core.specs.declared.reply.Refusal.TheVariants as refusals
use Rattle.grid_core.specs.Solo.{State, Step, refused, set_from, switched, retained_set, power_from, power_set, totals, connected, disconnected, connected_at, connected_from, disconnected_at, disconnected_from, stood_at, bus_breaker_view_at, bus_view_at, level_at, level_found, viewed, edited, solo}
use Rattle.grid_core.specs.History.{Command, live, is_live, working, structure}
use Rattle.grid_core.specs.Replies.{state_of, use_reply, clone_reply, remove_reply, change_reply, reply_on, reply_to, reply}
use Rattle.grid_core.specs.Journals.{entry_of, journal_of}
use Rattle.grid_report.specs.Histories.{outcome_of}
use Rattle.grid_print.proofs.Each.{each_of, of_each}
use Rattle.grid_told.specs.Outcomes.{Fits}
use Rattle.grid_told.specs.Laws.{HistoriesFit}
use Rattle.grid_told.proofs.Each.{each_append}

abbrev level_or : VoltageLevel → Option (ℕ × VoltageLevel) → VoltageLevel
level_or d None = d
level_or d (Some at) = at.1

-- ---- levels that are found

named_so : (net : Network) (id : List ℕ) (place : ℕ) (level : VoltageLevel) → find_level net id ≡ Some place → level_at net place ≡ Some level → level.id ≡ id
unfolding find_level level_at
named_so net id place level found there = sym ((bytes_eq-Decides id level.id).0 ((position_found (λ l. same_id id l.id) (levels net) place found).1 level there))

level_is : (net : Network) (id : List ℕ) (at : ℕ × VoltageLevel) → level_found net id ≡ Some at → at.1.id ≡ id
unfolding level_found
level_is net id at e = by (find_level net id) refl e
  where
    inner : (place : ℕ) (o : Option VoltageLevel) → find_level net id ≡ Some place → level_at net place ≡ o → option_map (λ level. (place, level)) o ≡ Some at → at.1.id ≡ id
    inner place None found there e = absurd (cc)
    inner place (Some level) found there e = ap (λ (l : VoltageLevel). l.id) (sym (ap (level_or level) e)) ∙ named_so net id place level found there

    by : (o : Option ℕ) → find_level net id ≡ o → option_and_then (λ place. option_map (λ level. (place, level)) (level_at net place)) o ≡ Some at → at.1.id ≡ id
    by None found e = absurd (cc)
    by (Some place) found e = inner place (level_at net place) found refl e

-- ---- the machine of one variant

module _ (r : Request) where
  either : (b : Bool) (x y : Reply) → Fits r x → Fits r y → Fits r (if b then x else y)
  either true x y h k = h
  either false x y h k = k

  step_either : (b : Bool) (x y : Step) → Fits r x.1 → Fits r y.1 → Fits r (if b then x else y).1
  step_either true x y h k = h
  step_either false x y h k = k

  set_fits : (state : State) (now flag : Bool) (changed : State) → Fits r (set_from state now flag changed).1
  unfolding set_from
  set_fits state now flag changed = step_either (beq now flag) (state, replies.Unchanged) (changed, replies.Done) tt tt

  switched_fits : (state : State) (opened : Bool) (o : Option (ℕ × ℕ)) → Fits r (switched state opened o).1
  unfolding switched refused
  switched_fits state opened None = tt
  switched_fits state opened (Some at) = set_fits state _ opened _

  retained_fits : (state : State) (retained : Bool) (o : Option (ℕ × ℕ)) → Fits r (retained_set state retained o).1
  unfolding retained_set refused
  retained_fits state retained None = tt
  retained_fits state retained (Some at) = set_fits state _ retained _

  from_fits : (state : State) (id : List ℕ) (watts : _) (o : Option _) → Fits r (power_from state id watts o).1
  unfolding power_from refused
  from_fits state id watts None = tt
  from_fits state id watts (Some now) = step_either (int_eq now watts) _ _ tt tt

  power_fits : (state : State) (id : List ℕ) (watts : _) (o : Option ℕ) → Fits r (power_set state id watts o).1
  unfolding power_set refused
  power_fits state id watts None = tt
  power_fits state id watts (Some count) = from_fits state id watts _

  plan_fits : (state : State) (place : ℕ) (level : VoltageLevel) (plan : ConnectPlan) → Fits r (connected state place level plan).1
  unfolding connected
  plan_fits state place level (connects.Close places) = tt
  plan_fits state place level connects.AlreadyConnected = tt
  plan_fits state place level connects.NoPath = tt

  opening_fits : (state : State) (place : ℕ) (level : VoltageLevel) (plan : DisconnectPlan) → Fits r (disconnected state place level plan).1
  unfolding disconnected
  opening_fits state place level (disconnects.Opens places) = tt
  opening_fits state place level disconnects.AlreadyDisconnected = tt
  opening_fits state place level (disconnects.NoBreaker terminal) = tt

  connected_fits : (state : State) (at : ℕ × ℕ) (o : Option VoltageLevel) → Fits r (connected_at state at o).1
  unfolding connected_at refused
  connected_fits state at None = tt
  connected_fits state at (Some level) = plan_fits state at.0 level _

  disconnected_fits : (state : State) (at : ℕ × ℕ) (o : Option VoltageLevel) → Fits r (disconnected_at state at o).1
  unfolding disconnected_at refused
  disconnected_fits state at None = tt
  disconnected_fits state at (Some level) = opening_fits state at.0 level _

  connects_fit : (state : State) (at : Result (ℕ × ℕ) Refusal) → Fits r (connected_from state at).1
  unfolding connected_from refused
  connects_fit state (Ok at) = connected_fits state at _
  connects_fit state (Err refusal) = tt

  disconnects_fit : (state : State) (at : Result (ℕ × ℕ) Refusal) → Fits r (disconnected_from state at).1
  unfolding disconnected_from refused
  disconnects_fit state (Ok at) = disconnected_fits state at _
  disconnects_fit state (Err refusal) = tt

  edited_fits : (state : State) (edit : _) (after : Result Network EditFault) → Fits r (edited state edit after).1
  unfolding edited refused
  edited_fits state edit (Ok after) = tt
  edited_fits state edit (Err fault) = tt

  use_fits : (names : List (List ℕ)) (name : List ℕ) → Fits r (use_reply names name)
  unfolding use_reply
  use_fits names name = either (has_id names name) _ _ tt tt

  remove_fits : (names : List (List ℕ)) (name : List ℕ) → Fits r (remove_reply names name)
  unfolding remove_reply
  remove_fits names name = either (same_id initial_state name) _ _ tt (either (has_id names name) _ _ tt tt)

  clone_fits : (names : List (List ℕ)) (from to : List ℕ) (overwrite : Bool) → Fits r (clone_reply names from to overwrite)
  unfolding clone_reply
  clone_fits names from to overwrite =
      let made = if has_id names to then replies.Overwritten else replies.Created in
      let room = if not (has_id names to) && nat_le max_variants (length names) then replies.Refused refusals.TooManyVariants else made in
      let free = if has_id names to && not overwrite then replies.Refused refusals.TargetExists else room in
      either (not (has_id names from)) (replies.Refused refusals.NoVariant) free tt
      (either (has_id names to && not overwrite) (replies.Refused refusals.TargetExists) room tt
      (either (not (has_id names to) && nat_le max_variants (length names)) (replies.Refused refusals.TooManyVariants) made tt
      (either (has_id names to) replies.Overwritten replies.Created tt tt)))

  change_fits : (after : Result Network EditFault) → Fits r (change_reply after)
  unfolding change_reply
  change_fits (Ok after) = tt
  change_fits (Err fault) = tt

view_fits : (state : State) (id : List ℕ) → Fits (requests.BusView id) (solo state (requests.BusView id)).1
unfolding solo viewed bus_view_at bus_view_of stood_at stood
view_fits state id = by (level_found state.structure id) refl
  where
    by : (o : Option (ℕ × VoltageLevel)) → level_found state.structure id ≡ o → Fits (requests.BusView id) (viewed (λ place lists. replies.Bus (bus_view_at state place lists)) o)
    by None e = tt
    by (Some at) e = ap requests.BusView (sym (level_is state.structure id at e))

breaker_fits : (state : State) (id : List ℕ) → Fits (requests.BusBreakerView id) (solo state (requests.BusBreakerView id)).1
unfolding solo viewed bus_breaker_view_at bus_breaker_view_of stood_at stood
breaker_fits state id = by (level_found state.structure id) refl
  where
    by : (o : Option (ℕ × VoltageLevel)) → level_found state.structure id ≡ o → Fits (requests.BusBreakerView id) (viewed (λ place lists. replies.BusBreaker (bus_breaker_view_at state place lists)) o)
    by None e = tt
    by (Some at) e = ap requests.BusBreakerView (sym (level_is state.structure id at e))

components_fit : (id : List ℕ) (answer : ℕ → VoltageLevel → List _) (o : Option (ℕ × VoltageLevel)) → Fits (requests.Components id) (viewed (λ place lists. replies.Components (answer place lists)) o)
unfolding viewed
components_fit id answer None = tt
components_fit id answer (Some at) = (id, refl)

solo_fits : (state : State) (r : Request) → Fits r (solo state r).1
unfolding solo totals
solo_fits state (requests.OpenSwitch id) = switched_fits (requests.OpenSwitch id) state true _
solo_fits state (requests.CloseSwitch id) = switched_fits (requests.CloseSwitch id) state false _
solo_fits state (requests.RetainSwitch id retained) = retained_fits (requests.RetainSwitch id retained) state retained _
solo_fits state (requests.SetPower id watts) = power_fits (requests.SetPower id watts) state id watts _
solo_fits state (requests.Connect id side) = connects_fit (requests.Connect id side) state _
solo_fits state (requests.Disconnect id side) = disconnects_fit (requests.Disconnect id side) state _
solo_fits state (requests.BusBreakerView level) = breaker_fits state level
solo_fits state (requests.BusView level) = view_fits state level
solo_fits state (requests.Components level) = components_fit level _ (level_found state.structure level)
solo_fits state (requests.Change edit) = edited_fits (requests.Change edit) state edit _
solo_fits state other = tt

-- ---- the machine of all variants

on_fits : (origin : Network) (before : List Command) (v : List ℕ) (r : Request) → Fits r (reply_on origin before v r)
unfolding reply_on
on_fits origin before v r = either r (is_live before v) _ _ (solo_fits (state_of origin before v) r) tt

reply_fits : (origin : Network) (before : List Command) (worker : ℕ) (r : Request) → Fits r (reply_to origin before worker r)
unfolding reply_to
reply_fits origin before worker (requests.UseVariant name) = use_fits (requests.UseVariant name) (live before) name
reply_fits origin before worker (requests.CloneVariant from to overwrite) = clone_fits (requests.CloneVariant from to overwrite) (live before) from to overwrite
reply_fits origin before worker (requests.RemoveVariant name) = remove_fits (requests.RemoveVariant name) (live before) name
reply_fits origin before worker (requests.Change edit) = change_fits (requests.Change edit) (apply (structure origin before) edit)
reply_fits origin before worker (requests.OpenSwitch id) = on_fits origin before (working before worker) (requests.OpenSwitch id)
reply_fits origin before worker (requests.CloseSwitch id) = on_fits origin before (working before worker) (requests.CloseSwitch id)
reply_fits origin before worker (requests.RetainSwitch id retained) = on_fits origin before (working before worker) (requests.RetainSwitch id retained)
reply_fits origin before worker (requests.SetPower id watts) = on_fits origin before (working before worker) (requests.SetPower id watts)
reply_fits origin before worker requests.Totals = on_fits origin before (working before worker) requests.Totals
reply_fits origin before worker (requests.Connect id side) = on_fits origin before (working before worker) (requests.Connect id side)
reply_fits origin before worker (requests.Disconnect id side) = on_fits origin before (working before worker) (requests.Disconnect id side)
reply_fits origin before worker (requests.BusBreakerView level) = on_fits origin before (working before worker) (requests.BusBreakerView level)
reply_fits origin before worker (requests.BusView level) = on_fits origin before (working before worker) (requests.BusView level)
reply_fits origin before worker (requests.Components level) = on_fits origin before (working before worker) (requests.Components level)

-- ---- histories

journal_fits : (origin : Network) (steps : List Command) → AllByRecursion (λ e. Fits e.request e.reply) (journal_of origin steps)
unfolding journal_of entry_of reply
journal_fits origin [] = tt
journal_fits origin (step ∷ before) = each_append (λ e. Fits e.request e.reply) (journal_of origin before) (entry_of origin before step ∷ []) (journal_fits origin before) (reply_fits origin before step.worker step.request, tt)

workers_fit : (count : ℕ) (origin : Network) (steps : List Command) → AllByRecursion (λ step. step.worker < count) steps → AllByRecursion (λ e. e.worker < count) (journal_of origin steps)
unfolding journal_of entry_of
workers_fit count origin [] h = tt
workers_fit count origin (step ∷ before) h = each_append (λ e. e.worker < count) (journal_of origin before) (entry_of origin before step ∷ []) (workers_fit count origin before h.1) (h.0, tt)

pub histories_fit : HistoriesFit
unfolding outcome_of
histories_fit history filters h =
    let journal = journal_of history.origin history.steps in
    record {
      replies = of_each (λ e. Fits e.request e.reply) journal (journal_fits history.origin history.steps);
      workers = of_each (λ e. e.worker < history.workers) journal (workers_fit history.workers history.origin history.steps (each_of (λ step. step.worker < history.workers) history.steps h));
    }
