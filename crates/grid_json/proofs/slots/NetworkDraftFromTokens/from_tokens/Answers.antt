use Rattle.std.proofs.Common.{[], Some, refl}
use Rattle.std.specs.Prelude.{codes}
use Rattle.serde_json.specs.Data.{object}
use Rattle.grid_json.specs.Reading.{id_at, array_at}
use Rattle.grid_json.specs.Network.{line_at, network_at, substation_at}
use Rattle.grid_json.specs.Streams.{Holds}
use Rattle.grid_json.proofs.MemberSlots.{member_is, member_or_is}
use Rattle.grid_json.proofs.slots.NetworkDraftFromTokens.from_tokens.Goals as goal

pub returns-clause-read : goal.returns-clause-read
unfolding network_at
returns-clause-read c =
    let slots = c.in_ok-slots.slots in
    let read = c.in_ok-slots.ensures.object in
    let found = read.0 in
    let held = read.2.1 in
    let id : Holds id_at (codes "id") found (Some c.in_ok-slots-2.field-0) = rw c.in_ok-slots-2.was at held.id in (
      object found,
      read.1,
      rw (
        read.2.0,
        member_is id_at (codes "id") found c.in_ok-slots-2.field-0 id,
        member_or_is (array_at (substation_at c.args.format)) (codes "substations") [] found slots.substations held.substations,
        ← c.or_none.ensures,
        member_or_is (array_at (line_at c.args.format)) (codes "lines") [] found slots.lines held.lines,
        ← c.or_none-2.ensures,
      ) refl,
    )
