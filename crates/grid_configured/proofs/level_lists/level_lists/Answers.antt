use Rattle.std.proofs.Common.{◌≡◌, ◌++◌, [], ap, ◌∙◌, sym, length, to_z, of_z, w64, rules}
use Rattle.std.specs.Prelude.{map}
use Rattle.std.specs.List.{enumerate_from}
use Rattle.grid_configured.specs.Partial.{bus_at, joint_at, item_at, item_breaker}
use Rattle.grid_configured.proofs.ListParts.{level_first}
use Rattle.grid_configured.proofs.level_lists.level_lists.Goals as goal

pub returns : goal.returns
returns c =
    let l = c.args.level.now in
    let busbars : c.in_ok-busbars.busbars ≡ map bus_at (enumerate_from 0 l.buses) = c.in_ok-busbars.ensures ∙ ap (λ z. map bus_at (enumerate_from 0 z)) c.slice.ensures in
    let switches : c.items_of.new.switches ≡ map (joint_at l) l.switches ++ map (item_breaker l) (enumerate_from (length l.buses) l.items) =
    c.in_ok-injections.ensures.breakers ∙ ap (λ z. z ++ map (item_breaker l) (enumerate_from (length l.buses) l.items)) c.in_ok-switches.ensures in
    let items : c.in_ok-injections.injections ≡ map item_at (enumerate_from (length l.buses) l.items) = c.in_ok-injections.ensures.items in
    let id : c.in_ok-copy.field-0 ≡ l.id = c.in_ok-copy.ensures in
    let internals : c.empty.result ≡ [] = c.empty.ensures in
    let nominal : to_z w64 (of_z w64 l.nominal_v) ≡ l.nominal_v = search rules in
    rw (id, nominal, busbars, switches, internals, items) (sym (level_first l))
