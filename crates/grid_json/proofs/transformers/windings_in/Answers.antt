use Rattle.std.proofs.Common.{rules}
use Rattle.std.specs.Prelude.{codes}
use Rattle.grid_json.specs.Reading.{whole_at}
use Rattle.grid_json.specs.Network.{end_draft_at, windings_at}
use Rattle.grid_json.proofs.Pairs.{two_member, three_member}
use Rattle.grid_json.proofs.transformers.windings_in.Goals as goal

pub returns-in_ok-two_in-in-Two-2 : goal.returns-in_ok-two_in-in-Two-2
unfolding windings_at
returns-in_ok-two_in-in-Two-2 c = λ format d ends rated_u. rw (
  c.in-Two.is,
  two_member (end_draft_at format) (codes "ends") d ends c.in_ok-two_in-in-Two.ensures,
  two_member whole_at (codes "rated_u") d rated_u c.in_ok-two_in-in-Two-2.ensures,
) (search rules)

pub returns-in_ok-three_in-in-Three-2 : goal.returns-in_ok-three_in-in-Three-2
unfolding windings_at
returns-in_ok-three_in-in-Three-2 c = λ format d ends rated_u. rw (
  c.in-Three.is,
  three_member (end_draft_at format) (codes "ends") d ends c.in_ok-three_in-in-Three.ensures,
  three_member whole_at (codes "rated_u") d rated_u c.in_ok-three_in-in-Three-2.ensures,
) (search rules)
