use Rattle.std.proofs.Common.{◌≡◌, ◌++◌, length}
use Rattle.grid_value.specs.View.{listed, members_view}
use Rattle.grid_json.specs.Reading.{texts, all_known}
use Rattle.grid_json.proofs.Objects.{are_known}
use Rattle.grid_json.proofs.read.has_only.Given as goal

-- the members that were passed are known
abbrev pub invariant-loop-name : goal.invariant-loop-name
invariant-loop-name l =
    let names = texts (l.names ++ l.of_kind) in
    all_known names (members_view l.members) ≡ are_known names (listed l.left)

abbrev pub decreases-loop-name : goal.decreases-loop-name
decreases-loop-name l = length (listed l.left)
