use Rattle.std.proofs.Common.{◌≡◌, [], length, map, Some, Ok, rules}
use Rattle.std.specs.Prelude.{codes}
use Rattle.serde_json.specs.Data.{object}
use Rattle.grid_json.specs.declared.format.Format.TheVariants.{One}
use Rattle.grid_json.specs.Reading.{whole_at, array_at}
use Rattle.grid_json.specs.Network.{network_at}
use Rattle.grid_json.specs.Job.{format_at, listeners_at, workers_at, ordered, draft_at}
use Rattle.grid_json.specs.Streams.{Holds, some_then}
use Rattle.grid_json.proofs.MemberSlots.{member_is, member_or_is, optional_then}
use Rattle.grid_json.proofs.stream.next_draft.Goals as goal

pub returns-clause-draft : goal.returns-clause-draft
unfolding draft_at
returns-clause-draft c =
    let slots = c.in_ok-slots.slots in
    let read = c.in_ok-slots.ensures.object in
    let found = read.0 in
    let held = read.2.1 in
    let one = c.in_ok-_format._format in
    let scripts = c.scripts_or_none-scripts.result in
    let format : Holds (format_at One) (codes "format") found (Some one) = rw c.in_ok-_format.was at held.format in
    let network : Holds (network_at one) (codes "network") found (Some c.in_ok-network.network) = rw (c.in_ok-_format.was, c.in_ok-network.was) at held.network in
    let listeners : Holds (listeners_at one) (codes "listeners") found slots.listeners = rw c.in_ok-_format.was at held.listeners in
    let workers : Holds (workers_at one) (codes "workers") found slots.workers = rw c.in_ok-_format.was at held.workers in
    let order : some_then (ordered (map length scripts)) slots.order ≡ Ok c.in_ok-order.order = search rules in (
      object found,
      read.1,
      rw (
        read.2.0,
        member_is (format_at One) (codes "format") found one format,
        member_is (network_at one) (codes "network") found c.in_ok-network.network network,
        member_or_is (listeners_at one) (codes "listeners") [] found slots.listeners listeners,
        ← c.filters_or_none-filters.ensures,
        member_or_is (workers_at one) (codes "workers") [] found slots.workers workers,
        ← c.scripts_or_none-scripts.ensures.scripts,
        optional_then (array_at whole_at) (codes "order") (ordered (map length scripts)) found slots.order c.in_ok-order.order held.order order,
      ) (search rules),
    )
