use Rattle.std.proofs.Common.{◌≡◌, ap, ◌∙◌, Bool, List, length}
use Rattle.std.proofs.lemmas.Option.{slice_get_within}
use Rattle.std.proofs.lemmas.Result.{IfOk-weaker}
use Rattle.grid_states.specs.Rows.{row_at}
use Rattle.grid_structure.specs.Network.{Network}
use Rattle.grid_structure.specs.Sites.{levels}
use Rattle.grid_busview.specs.Views.{node_buses_of}
use Rattle.grid_islands.specs.Islands.{level_components}
use Rattle.grid_islands.specs.Numbering.{AreNumbers, IsOwn}
use Rattle.grid_islands.specs.Kept.{kept_of}
use Rattle.grid_islands.proofs.LevelComponents.{level_exists}
use Rattle.grid_islands.proofs.KeptLevels.{still_kept, own_kept, numbers_are}
use Rattle.grid_islands.proofs.kept.KeptBuses.list_level.Goals as goal
use Rattle.grid_islands.proofs.kept.KeptBuses.list_level.Goals.{After-slice}

pub buses-requires : goal.buses-requires
buses-requires c =
    let net = c.args.structure.now in
    let opened = c.args.states.now.opened in
    let level = level_exists net c.args.level c.requires.level in
    let every = still_kept net opened (length (levels net)) c.args.self.now c.find_numbers.new.self c.find_numbers.ensures.levels c.requires.every in
    slice_get_within c.find_numbers.new.self.levels c.args.level (kept_of level.0 (row_at opened c.args.level)) (every c.args.level level.0 c.requires.level level.1)

numbers_of : (c : After-slice) → AreNumbers c.args.structure.now c.args.states.now.opened c.in-Some.numbers
numbers_of c =
    let net = c.args.structure.now in
    let opened = c.args.states.now.opened in
    let every = still_kept net opened (length (levels net)) c.args.self.now c.find_numbers.new.self c.find_numbers.ensures.levels c.requires.every in
    numbers_are net c.find_numbers.new.self opened c.in-Some.numbers c.requires.rows every c.find_numbers.ensures.kept c.in-Some.is

own_of : (c : After-slice) → IsOwn c.args.structure.now c.args.states.now.opened c.args.level c.slice.result.now
unfolding kept_of node_buses_of
own_of c =
    let net = c.args.structure.now in
    let opened = c.args.states.now.opened in
    let k = c.args.level in
    let level = level_exists net k c.requires.level in
    let every = still_kept net opened (length (levels net)) c.args.self.now c.find_numbers.new.self c.find_numbers.ensures.levels c.requires.every in
    own_kept net opened k level.0 c.slice.result.now level.1 (c.slice.ensures ∙ ap (λ z. z.leasts) (c.buses.ensures (kept_of level.0 (row_at opened k)) (every k level.0 c.requires.level level.1)))

pub list_level-requires : goal.list_level-requires
list_level-requires c = let at = (goal.at.list_level-requires c).After-slice in record { own = (c.args.structure.now, c.args.states.now.opened, (numbers_of at, own_of at)) }

pub returns-clause-list : goal.returns-clause-list
returns-clause-list c =
    let at = (goal.at.returns-clause-list c).After-slice in
    let net = c.args.structure.now in
    IfOk-weaker c.list_level.result (λ list. (net : Network) (opened retained : List (List Bool)) → AreNumbers net opened c.in-Some.numbers → IsOwn net opened c.args.level c.slice.result.now → list ≡ level_components net opened retained c.args.level)
    (λ list. (retained : List (List Bool)) → list ≡ level_components net c.args.states.now.opened retained c.args.level)
    (λ list e retained. e net c.args.states.now.opened retained (numbers_of at) (own_of at)) c.list_level.ensures
