use Rattle.std.proofs.Common.{◌+◌, subst, length, ℕ}
use Rattle.std.specs.Prelude.{codes}
use Rattle.std.proofs.lemmas.Result.{on_ok_weaker}
use Rattle.grid_json.specs.Reading.{Gives}
use Rattle.grid_configured.specs.Checks.{item_check, list_check, parts_check}
use Rattle.grid_configured.proofs.LevelParts.{all_known, fails_on, parts_end, parts_stop}
use Rattle.grid_configured.proofs.contents.check_contents.Goals as goal

pub returns-in_err-check_switches_under-clause-check : goal.returns-in_err-check_switches_under-clause-check
returns-in_err-check_switches_under-clause-check c =
    let before = c.in_ok-check_buses_under.ensures in
    let ids = c.args.ids.now in
    let l = c.args.level.now in
    fails_on c.from_residual-in_err-check_switches_under.result c.in_err-check_switches_under.field-0.0 (parts_check ids c.args.total l) c.from_residual-in_err-check_switches_under.ensures.1
    (parts_stop ids c.check_buses_under.new.ids c.check_buses_under.new.own ids c.args.total l before.known before.own before.check c.in_err-check_switches_under.field-0.0 c.in_err-check_switches_under.ensures.check)

pub returns-clause-check : goal.returns-clause-check
returns-clause-check c =
    let before = c.in_ok-check_buses_under.ensures in
    let ids = c.args.ids.now in
    let own = c.check_buses_under.new.own in
    let more = c.check_switches_under.new.ids in
    let l = c.args.level.now in
    let switches = length l.switches in
    let counted : ℕ → ℕ → ℕ → Type 0 = λ nodes edges total. Gives c.check_items_under.result (list_check (item_check more own nodes edges total) (codes "injections") l.items) in
    let first = subst (λ n. counted n c.len-2.result (c.args.total + c.len-3.result)) c.len.ensures c.check_items_under.ensures.check in
    let second = subst (λ n. counted (length l.buses) n (c.args.total + c.len-3.result)) c.len-2.ensures first in
    let third = subst (λ n. counted (length l.buses) switches (c.args.total + n)) c.len-3.ensures second in
    parts_end ids c.check_buses_under.new.ids own more c.args.total l before.known before.own before.check c.check_items_under.result c.in_ok-check_switches_under.ensures.check c.in_ok-check_switches_under.ensures.known third

pub returns-clause-known : goal.returns-clause-known
returns-clause-known c =
    let before = c.in_ok-check_buses_under.ensures in
    let ids = c.args.ids.now in
    let more = c.check_switches_under.new.ids in
    let l = c.args.level.now in
    on_ok_weaker c.check_items_under.result (all_known ids c.check_buses_under.new.ids c.check_buses_under.new.own c.args.total l before.known before.own more c.in_ok-check_switches_under.ensures.known c.check_items_under.new.ids) c.check_items_under.ensures.known
