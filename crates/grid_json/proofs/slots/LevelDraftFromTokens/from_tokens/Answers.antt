use Rattle.std.proofs.Common.{[], rules}
use Rattle.std.specs.Prelude.{codes}
use Rattle.serde_json.specs.Data.{object}
use Rattle.grid_json.specs.Reading.{array_at}
use Rattle.grid_json.specs.Network.{busbar_at, injection_at, internal_at, level_at, level_members_at, switch_at}
use Rattle.grid_json.proofs.MemberSlots.{filled_is, member_or_is}
use Rattle.grid_json.proofs.slots.LevelDraftFromTokens.from_tokens.Goals as goal

pub returns-clause-read : goal.returns-clause-read
unfolding level_at level_members_at
returns-clause-read c =
    let slots = c.in_ok-slots.slots.second in
    let read = c.in_ok-slots.ensures.object in
    let found = read.0 in
    let format = c.args.format in
    let volts = read.2.1.0 in
    let parts = read.2.1.1 in (
      object found,
      read.1,
      rw (
        read.2.0,
        filled_is volts.id c.in_ok-voltages.was,
        filled_is volts.nominal_v c.in_ok-voltages-2.was,
        volts.low_v.holds,
        volts.high_v.holds,
        member_or_is (array_at busbar_at) (codes "busbars") [] found slots.busbars parts.busbars,
        ← c.or_none.ensures,
        member_or_is (array_at (switch_at format)) (codes "switches") [] found slots.switches parts.switches,
        ← c.or_none-2.ensures,
        member_or_is (array_at internal_at) (codes "internal") [] found slots.internals parts.internals,
        ← c.or_none-3.ensures,
        member_or_is (array_at (injection_at format)) (codes "injections") [] found slots.injections parts.injections,
        ← c.or_none-4.ensures,
      ) (search rules),
    )
