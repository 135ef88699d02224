use Rattle.std.proofs.Common.{◌≡◌, length}
use Rattle.serde_json.specs.Find.{get_member}
use Rattle.grid_value.specs.View.{listed, members_view}
use Rattle.grid_value.proofs.value.Members.last_of.Given as goal

-- the members that were passed have other names
abbrev pub invariant-loop-known : goal.invariant-loop-known
invariant-loop-known l = get_member l.name (members_view l.self) ≡ get_member l.name (members_view l.members)

abbrev pub decreases-loop-known : goal.decreases-loop-known
decreases-loop-known l = length (listed l.members)
