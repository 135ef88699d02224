-- The structure after a step, for what is kept of it.
use Rattle.std.proofs.Common.{◌≡◌, refl, sym, ap, ◌∙◌, ℕ, true, List, subst, false}
use Rattle.std.proofs.lemmas.Bool.{false≢true}
use Rattle.grid_structure.specs.Network.{Network}
use Rattle.grid_requests.specs.Changes.{structure_after, changed_or}
use Rattle.grid_requests.specs.declared.request.Request.{Request}
use Rattle.grid_requests.specs.declared.request.Request.TheVariants as requests
use Rattle.grid_core.specs.declared.machine.Machine.{Machine}
use Rattle.grid_core.specs.declared.machine.Made.{Made}
use Rattle.grid_core.specs.History.{Command, command, structure}
use Rattle.grid_core.specs.Machines.{Held, Makes}
use Rattle.std.specs.Prelude.{Ok, Err, Result}
use Rattle.grid_structure.specs.declared.Edit.{Edit}
use Rattle.grid_structure.specs.declared.EditFault.{EditFault}
use Rattle.grid_structure.specs.Editing.{apply}
use Rattle.grid_slots.specs.Variant.{Variant}
use Rattle.grid_core.specs.declared.kept.Kept.{Kept}
use Rattle.grid_core.specs.declared.reply.Reply.{Reply}
use Rattle.grid_core.specs.Replies.{reply, reply_to, change_reply}
use Rattle.grid_core.specs.declared.touched.Touched.{Touched}
use Rattle.grid_core.specs.Touched.{IsTouch}
use Rattle.grid_core.specs.Kept.{IsKept, IsMoveOf, AreMoved, SameFlags, moves_at, moved_level, leaves, accepts}
use Rattle.grid_core.proofs.RowMoves.{move_of}

pub structure_next : (origin : Network) (before : List Command) (old new : Machine) (worker : ℕ) (request : Request) (made : Made) → Held origin before old → Makes origin before (command worker request) made new → new.structure ≡ structure_after old.structure request
unfolding structure
structure_next origin before old new worker request made held makes =
    makes.held.parts.structure_is ∙ ap (λ (n : Network). structure_after n request) (sym held.parts.structure_is)

refused_same : (net : Network) (edit : Edit) (r : Result Network EditFault) → accepts (requests.Change edit) (change_reply r) ≡ false → changed_or net r ≡ net
unfolding accepts change_reply changed_or
refused_same net edit (Ok new) h = absurd (false≢true (sym h))
refused_same net edit (Err fault) h = refl

-- what is no edit that is accepted leaves the structure
pub not_accepted_same : (origin : Network) (before : List Command) (worker : ℕ) (request : Request) (r : Reply) → r ≡ reply origin before (command worker request) → accepts request r ≡ false
    → structure_after (structure origin before) request ≡ structure origin before
unfolding reply reply_to structure_after
not_accepted_same origin before worker (requests.Change edit) r is h =
    refused_same (structure origin before) edit (apply (structure origin before) edit) (ap (accepts (requests.Change edit)) (sym is) ∙ h)
not_accepted_same origin before worker other r is h = refl

-- what `follow` leaves is of the structure after the step
pub followed_so : (origin : Network) (before : List Command) (old new : Machine) (worker : ℕ) (request : Request) (made : Made) (was now : Kept) (touched : Touched) → Held origin before old → Makes origin before (command worker request) made new
    → IsTouch old.structure (structure_after old.structure request) touched → IsMoveOf old.structure request touched
    → ((net : Network) (olds news : List Variant) → IsKept net olds was → IsTouch net (structure_after net request) touched → (leaves request ≡ true → SameFlags olds news) → (accepts request made.reply ≡ false → structure_after net request ≡ net)
    → AreMoved (moved_level request touched) olds news → IsKept (structure_after net request) news now)
    → (leaves request ≡ true → SameFlags old.slots new.slots) → AreMoved (moves_at old.structure request) old.slots new.slots → IsKept old.structure old.slots was → IsKept new.structure new.slots now
followed_so origin before old new worker request made was now touched held makes touches of follows stays moved k =
    subst (λ (n : Network). IsKept n new.slots now) (sym (structure_next origin before old new worker request made held makes))
    (follows old.structure old.slots new.slots k touches stays (λ h. subst (λ (n : Network). structure_after n request ≡ n) (sym held.parts.structure_is) (not_accepted_same origin before worker request made.reply makes.replied h))
    (move_of old.structure request touched old.slots new.slots of moved))
