use Rattle.std.proofs.Common.{false, rules}
use Rattle.std.specs.Prelude.{codes}
use Rattle.serde_json.specs.Data.{object}
use Rattle.grid_json.specs.Reading.{flag_at}
use Rattle.grid_json.specs.Network.{switch_at}
use Rattle.grid_json.proofs.MemberSlots.{filled_is, member_or_is}
use Rattle.grid_json.proofs.slots.SwitchDraftFromTokens.from_tokens.Goals as goal

pub returns-clause-read : goal.returns-clause-read
unfolding switch_at
returns-clause-read c =
    let slots = c.in_ok-slots.slots in
    let read = c.in_ok-slots.ensures.object in
    let found = read.0 in
    let named = read.2.1.0 in
    let nodes = read.2.1.1.0 in
    let flags = read.2.1.1.1 in (
      object found,
      read.1,
      rw (
        read.2.0,
        filled_is named.id c.in_ok-named.was,
        filled_is named.kind c.in_ok-named-2.was,
        filled_is nodes.node1 c.in_ok-nodes.was,
        filled_is nodes.node2 c.in_ok-nodes-2.was,
        member_or_is flag_at (codes "open") false found slots.second.second.opened flags.opened,
        ← c.unwrap_or.ensures,
        member_or_is flag_at (codes "retained") false found slots.second.second.retained flags.retained,
        ← c.unwrap_or-2.ensures,
        member_or_is flag_at (codes "fictitious") false found slots.second.second.fictitious flags.fictitious,
        ← c.unwrap_or-3.ensures,
      ) (search rules),
    )
