-- Each request leaves a sound structure with rows that fit it.
use Rattle.std.proofs.Common.{◌≡◌, refl, ap, ◌∙◌, ℕ, ℤ, Bool, true, false, List, [], ◌∷◌, length, map, Option, Some, None}
use Rattle.std.specs.Prelude.{Result, Ok, Err, if◌then◌else◌}
use Rattle.std.proofs.lemmas.List.{length-map}
use Rattle.grid_level.specs.declared.Switch.{Switch}
use Rattle.grid_level.specs.VoltageLevel.{VoltageLevel}
use Rattle.grid_structure.specs.declared.Edit.{Edit}
use Rattle.grid_structure.specs.declared.EditFault.{EditFault}
use Rattle.grid_structure.specs.Network.{Network}
use Rattle.grid_structure.specs.Sites.{levels}
use Rattle.grid_structure.specs.Editing.{apply}
use Rattle.grid_structure.specs.Soundness.{IsSound}
use Rattle.grid_structure.proofs.Soundly.{apply_sound}
use Rattle.grid_connect.specs.declared.ConnectPlan.{ConnectPlan}
use Rattle.grid_connect.specs.declared.ConnectPlan.TheVariants as connects
use Rattle.grid_connect.specs.declared.DisconnectPlan.{DisconnectPlan}
use Rattle.grid_connect.specs.declared.DisconnectPlan.TheVariants as disconnects
use Rattle.grid_requests.specs.declared.request.Request.{Request}
use Rattle.grid_requests.specs.declared.request.Request.TheVariants as requests
use Rattle.grid_core.specs.declared.reply.Refusal.{Refusal}
use Rattle.grid_core.specs.Solo.{State, Step, the_opened, the_retained, record_rows, opening, refused, set_from, with_opened, with_retained, with_power, power_from, power_set, switched, retained_set, with_all_opened, connected, disconnected, connected_at, connected_from, disconnected_at, disconnected_from, changed_state, edited, solo, after}
use Rattle.grid_core.specs.History.{Command, structure, lineage}
use Rattle.grid_requests.specs.Changes.{changed_or, structure_after}
use Rattle.grid_core.specs.Replies.{state_of}
use Rattle.grid_core.specs.Fitting.{RowsFit, switch_counts, StateFits}
use Rattle.grid_core.proofs.SwitchCounts.{lengths-with_flag, lengths-with_flags}
use Rattle.grid_core.proofs.Fits.{rows_after-fit}

-- ---- one switch, and a plan's switches

pub with_opened-fits : (state : State) (at : ℕ × ℕ) (opened : Bool) → StateFits state → StateFits (with_opened state at opened)
unfolding with_opened
with_opened-fits state at opened f = record { sound = f.sound; opened = lengths-with_flag state.opened at.0 at.1 opened ∙ f.opened; retained = f.retained }

pub with_retained-fits : (state : State) (at : ℕ × ℕ) (retained : Bool) → StateFits state → StateFits (with_retained state at retained)
unfolding with_retained
with_retained-fits state at retained f = record { sound = f.sound; opened = f.opened; retained = lengths-with_flag state.retained at.0 at.1 retained ∙ f.retained }

pub with_all_opened-fits : (state : State) (place : ℕ) (places : List ℕ) (opened : Bool) → StateFits state → StateFits (with_all_opened state place places opened)
unfolding with_all_opened
with_all_opened-fits state place places opened f = record { sound = f.sound; opened = lengths-with_flags places state.opened place opened ∙ f.opened; retained = f.retained }

chosen-fits : (b : Bool) (x y : Step) → StateFits x.0 → StateFits y.0 → StateFits (if b then x else y).0
chosen-fits true x y f g = f
chosen-fits false x y f g = g

switched-fits : (state : State) (opened : Bool) (at : Option (ℕ × ℕ)) → StateFits state → StateFits (switched state opened at).0
unfolding switched refused set_from
switched-fits state opened None f = f
switched-fits state opened (Some at) f = chosen-fits _ _ _ f (with_opened-fits state at opened f)

retained_set-fits : (state : State) (retained : Bool) (at : Option (ℕ × ℕ)) → StateFits state → StateFits (retained_set state retained at).0
unfolding retained_set refused set_from
retained_set-fits state retained None f = f
retained_set-fits state retained (Some at) f = chosen-fits _ _ _ f (with_retained-fits state at retained f)

connected-fits : (state : State) (place : ℕ) (level : VoltageLevel) (plan : ConnectPlan) → StateFits state → StateFits (connected state place level plan).0
unfolding connected
connected-fits state place level (connects.Close places) f = with_all_opened-fits state place places false f
connected-fits state place level connects.AlreadyConnected f = f
connected-fits state place level connects.NoPath f = f

disconnected-fits : (state : State) (place : ℕ) (level : VoltageLevel) (plan : DisconnectPlan) → StateFits state → StateFits (disconnected state place level plan).0
unfolding disconnected
disconnected-fits state place level (disconnects.Opens places) f = with_all_opened-fits state place places true f
disconnected-fits state place level disconnects.AlreadyDisconnected f = f
disconnected-fits state place level (disconnects.NoBreaker terminal) f = f

connected_at-fits : (state : State) (at : ℕ × ℕ) (found : Option VoltageLevel) → StateFits state → StateFits (connected_at state at found).0
unfolding connected_at refused
connected_at-fits state at None f = f
connected_at-fits state at (Some level) f = connected-fits state at.0 level _ f

disconnected_at-fits : (state : State) (at : ℕ × ℕ) (found : Option VoltageLevel) → StateFits state → StateFits (disconnected_at state at found).0
unfolding disconnected_at refused
disconnected_at-fits state at None f = f
disconnected_at-fits state at (Some level) f = disconnected-fits state at.0 level _ f

connected_from-fits : (state : State) (at : Result (ℕ × ℕ) Refusal) → StateFits state → StateFits (connected_from state at).0
unfolding connected_from refused
connected_from-fits state (Err refusal) f = f
connected_from-fits state (Ok at) f = connected_at-fits state at _ f

disconnected_from-fits : (state : State) (at : Result (ℕ × ℕ) Refusal) → StateFits state → StateFits (disconnected_from state at).0
unfolding disconnected_from refused
disconnected_from-fits state (Err refusal) f = f
disconnected_from-fits state (Ok at) f = disconnected_at-fits state at _ f

-- ---- watts

power_from-fits : (state : State) (id : List ℕ) (watts : ℤ) (now : Option ℤ) → StateFits state → StateFits (power_from state id watts now).0
unfolding power_from refused with_power
power_from-fits state id watts None f = f
power_from-fits state id watts (Some now) f = chosen-fits _ _ _ f (record { sound = f.sound; opened = f.opened; retained = f.retained })

power_set-fits : (state : State) (id : List ℕ) (watts : ℤ) (count : Option ℕ) → StateFits state → StateFits (power_set state id watts count).0
unfolding power_set refused
power_set-fits state id watts None f = f
power_set-fits state id watts (Some count) f = power_from-fits state id watts _ f

-- ---- an edit

pub changed_state-fits : (state : State) (edit : Edit) (new : Network) → apply state.structure edit ≡ Ok new → StateFits state → StateFits (changed_state state edit new)
unfolding changed_state
changed_state-fits state edit new h f = record {
  sound = apply_sound state.structure new edit h f.sound;
  opened = rows_after-fit the_opened state.structure new edit state.opened f.sound h f.opened;
  retained = rows_after-fit the_retained state.structure new edit state.retained f.sound h f.retained;
}

edited-fits : (state : State) (edit : Edit) (r : Result Network EditFault) → apply state.structure edit ≡ r → StateFits state → StateFits (edited state edit r).0
unfolding edited refused
edited-fits state edit (Ok new) h f = changed_state-fits state edit new h f
edited-fits state edit (Err fault) h f = f

-- ---- the machine

pub solo-fits : (state : State) (request : Request) → StateFits state → StateFits (solo state request).0
unfolding solo
solo-fits state (requests.OpenSwitch id) f = switched-fits state true _ f
solo-fits state (requests.CloseSwitch id) f = switched-fits state false _ f
solo-fits state (requests.RetainSwitch id retained) f = retained_set-fits state retained _ f
solo-fits state (requests.SetPower id watts) f = power_set-fits state id watts _ f
solo-fits state (requests.Connect id side) f = connected_from-fits state _ f
solo-fits state (requests.Disconnect id side) f = disconnected_from-fits state _ f
solo-fits state (requests.Change edit) f = edited-fits state edit (apply state.structure edit) refl f
solo-fits state other f = f

pub record_rows-fit : (flag : Switch → Bool) (net : Network) → RowsFit net (record_rows flag net)
unfolding record_rows switch_counts
record_rows-fit flag net = each (levels net)
  where
    each : (ls : List VoltageLevel) → map length (map (λ (l : VoltageLevel). map flag l.switches) ls) ≡ map (λ (l : VoltageLevel). length l.switches) ls
    each [] = refl
    each (l ∷ ls) = ap (λ n. n ∷ map length (map (λ (l : VoltageLevel). map flag l.switches) ls)) (length-map l.switches flag) ∙ ap (λ ns. length l.switches ∷ ns) (each ls)

pub opening-fits : (net : Network) → IsSound net → StateFits (opening net)
unfolding opening
opening-fits net s = record { sound = s; opened = record_rows-fit _ net; retained = record_rows-fit _ net }

-- whatever is asked, from a sound structure on
pub after-fits : (origin : Network) (asked : List Request) → IsSound origin → StateFits (after origin asked)
unfolding after
after-fits origin [] s = opening-fits origin s
after-fits origin (request ∷ before) s = solo-fits (after origin before) request (after-fits origin before s)

pub state_of-fits : (origin : Network) (steps : List Command) (v : List ℕ) → IsSound origin → StateFits (state_of origin steps v)
unfolding state_of
state_of-fits origin steps v s = after-fits origin (lineage origin steps v) s

-- ---- the present structure

changed-sound : (net : Network) (edit : Edit) (r : Result Network EditFault) → apply net edit ≡ r → IsSound net → IsSound (changed_or net r)
unfolding changed_or
changed-sound net edit (Ok new) h s = apply_sound net new edit h s
changed-sound net edit (Err fault) h s = s

after-sound : (net : Network) (request : Request) → IsSound net → IsSound (structure_after net request)
unfolding structure_after
after-sound net (requests.Change edit) s = changed-sound net edit (apply net edit) refl s
after-sound net other s = s

pub structure-sound : (origin : Network) (steps : List Command) → IsSound origin → IsSound (structure origin steps)
unfolding structure
structure-sound origin [] s = s
structure-sound origin (step ∷ before) s = after-sound (structure origin before) step.request (structure-sound origin before s)
