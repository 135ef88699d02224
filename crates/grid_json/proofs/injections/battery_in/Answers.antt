use Rattle.std.proofs.Common.{refl, rules}
use Rattle.grid_json.specs.Network.{item_at}
use Rattle.grid_json.proofs.MemberSlots.{filled_is, empty_is}
use Rattle.grid_json.proofs.injections.battery_in.Goals as goal

pub returns : goal.returns
unfolding item_at
returns c = λ format found held. (
  rw (
    filled_is held.target_p c.in_ok-found.was,
    filled_is held.target_q c.in_ok-found-2.was,
    filled_is held.min_p c.in_ok-found-3.was,
    filled_is held.max_p c.in_ok-found-4.was,
  ) (search rules),
  rw (
    empty_is held.p0 c.in_ok-absent.ensures,
    empty_is held.q0 c.in_ok-absent-2.ensures,
    empty_is held.target_v c.in_ok-absent-3.ensures,
    empty_is held.section_count c.in_ok-absent-4.ensures,
    empty_is held.max_sections c.in_ok-absent-5.ensures,
  ) refl,
)
