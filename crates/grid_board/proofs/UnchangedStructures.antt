-- What no edit leaves as it is.
use Rattle.std.proofs.Common.{◌≡◌, ◌≢◌, refl, sym, ap, ◌∙◌, Option, Some, None}
use Rattle.grid_structure.specs.declared.Edit.{Edit}
use Rattle.grid_structure.specs.Network.{Network}
use Rattle.grid_requests.specs.declared.request.Request.{Request}
use Rattle.grid_requests.specs.declared.request.Request.TheVariants as requests
use Rattle.grid_requests.specs.Changes.{structure_after}
use Rattle.grid_board.specs.declared.tasks.Question.{Question}
use Rattle.grid_board.specs.Questions.{asked_of}

-- what is no edit leaves the structure
pub no_edit_stays : (net : Network) (request : Request) → ((edit : Edit) → request ≢ requests.Change edit) → structure_after net request ≡ net
unfolding structure_after
no_edit_stays net (requests.Change edit) apart = absurd (apart edit refl)
no_edit_stays net other apart = refl

-- an edit has no task
pub asking_is_no_edit : (net : Network) (request : Request) (asked : Question) → asked_of net request ≡ Some asked → (edit : Edit) → request ≢ requests.Change edit
unfolding asked_of
asking_is_no_edit net request asked own edit is =
    let nothing : ◌≡◌ {A = Option Question} None (Some asked) = sym (ap (asked_of net) is) ∙ own in
    cc
