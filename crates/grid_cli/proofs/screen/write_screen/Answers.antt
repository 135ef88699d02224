use Rattle.std.proofs.Common.{refl, sym, ap, ◌∙◌, subst, rules}
use Rattle.grid_screen.specs.Findings.{CaseFits}
use Rattle.grid_core.specs.Journals.{journal_of}
use Rattle.grid_cli.specs.Findings.{case_state, listed_in}
use Rattle.grid_cli.proofs.Written.{handing, unbegun, whole_or_not}
use Rattle.grid_cli.proofs.ScreenAnswers.{absent_is, listed_for}
use Rattle.grid_cli.proofs.Warnings.{warned}
use Rattle.grid_cli.proofs.screen.write_screen.Goals as goal

pub returns-in_default-clause-written : goal.returns-in_default-clause-written
returns-in_default-clause-written g c =
    let text = absent_is c.args.form.now.layout c.args.screened c.in_ok-world.world (journal_of c.in_ok-world.world.origin c.in_ok-world.world.steps) c.in_ok-name.name c.in_ok-world.ensures refl c.in_ok-name.ensures (sym c.in_ok-case.ensures ∙ c.in_default.is) in
    handing c.write_absent.result _ _ _ _ text c.write_absent.ensures.ok c.write_absent.ensures.err

pub write_findings-requires : goal.write_findings-requires
write_findings-requires g c =
    let fits : CaseFits c.in-Some.case = search rules in
    (search rules, record { fits = subst CaseFits (sym c.in_ok-kept.ensures) fits; before = c.figures.ensures })

pub returns-clause-written : goal.returns-clause-written
returns-clause-written g c =
    let screened = c.args.screened in
    let text =
    ap (λ z. listed_in c.args.form.now.layout screened.format screened.only (case_state z) c.entries-2.result.now c.slice.result.now) c.in_ok-kept.ensures
    ∙ listed_for c.args.form.now.layout screened c.in_ok-world.world c.entries-2.result.now c.in_ok-name.name c.in-Some.case c.slice.result.now c.in_ok-world.ensures c.entries-2.ensures c.in_ok-name.ensures
    (sym c.in_ok-case.ensures ∙ c.in-Some.is) (c.slice.ensures ∙ c.in_ok-list.ensures)
    in
    handing c.write_findings.result _ _ _ _ text c.write_findings.ensures.ok c.write_findings.ensures.err

pub returns-in_default-clause-warning : goal.returns-in_default-clause-warning
returns-in_default-clause-warning g c =
    whole_or_not c.write_absent.result
    (warned c.args.screened.job c.in_ok-world.world c.entries.result.now c.args.warning.now c.put_warning.new.out c.in_ok-put_warning.ensures.ok c.requires.silent c.entries.ensures c.in_ok-world.ensures)

pub returns-clause-warning : goal.returns-clause-warning
returns-clause-warning g c =
    whole_or_not c.write_findings.result
    (warned c.args.screened.job c.in_ok-world.world c.entries.result.now c.args.warning.now c.put_warning.new.out c.in_ok-put_warning.ensures.ok c.requires.silent c.entries.ensures c.in_ok-world.ensures)

pub returns-in_err-name-clause-written : goal.returns-in_err-name-clause-written
returns-in_err-name-clause-written g c = unbegun _ _ _ c.from_residual.ensures.0

pub returns-in_err-world-clause-written : goal.returns-in_err-world-clause-written
returns-in_err-world-clause-written g c = unbegun _ _ _ c.from_residual-in_err-world.ensures.0

pub returns-in_err-put_warning-clause-written : goal.returns-in_err-put_warning-clause-written
returns-in_err-put_warning-clause-written g c = unbegun _ _ _ c.from_residual-in_err-put_warning.ensures.0

pub returns-in_err-case-clause-written : goal.returns-in_err-case-clause-written
returns-in_err-case-clause-written g c = unbegun _ _ _ c.from_residual-in_err-case.ensures.0

pub returns-in_err-list-clause-written : goal.returns-in_err-list-clause-written
returns-in_err-list-clause-written g c = unbegun _ _ _ c.from_residual-in_err-list.ensures.0

pub returns-in_err-kept-clause-written : goal.returns-in_err-kept-clause-written
returns-in_err-kept-clause-written g c = unbegun _ _ _ c.from_residual-in_err-kept.ensures.0
