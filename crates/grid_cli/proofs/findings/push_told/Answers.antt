use Rattle.std.proofs.Common.{◌≡◌, ◌+◌, ◌++◌, true, false, length, length-append, sym, ap, ◌∙◌, append-nil, arith, rules}
use Rattle.std.specs.List.{flat_map}
use Rattle.grid_screen.specs.Bodies.{is_told, told_line}
use Rattle.grid_screen.specs.Texts.{screen_line}
use Rattle.grid_screen.specs.Lines.{contingency_object}
use Rattle.grid_print.specs.Job.{line_of}
use Rattle.grid_cli.specs.Findings.{case_state, found_object, part_lines, part_text}
use Rattle.grid_cli.proofs.ItemTexts.{last_text}
use Rattle.grid_cli.proofs.ScreenAnswers.{left_lines, left_none, left_text, told_is, told_lines, told_one, told_text}
use Rattle.grid_cli.proofs.findings.push_told.Goals as goal

pub returns-then-not-is_told : goal.returns-then-not-is_told
returns-then-not-is_told c =
    let look = c.args.sight.now.look in
    let state = case_state c.args.sight.now.case.now in
    let contingency = c.args.contingency.now in
    let said : c.is_told.result ≡ false = search rules in
    let not_told : is_told look.only state contingency ≡ false =
    sym (told_is look.only state look.before contingency c.args.finding.now (c.requires.look.before c.args.sight.now.case.now.states.retained) c.requires.found) ∙ sym c.is_told.ensures ∙ said
    in
    record {
      text = sym (ap (λ t. flat_map part_text c.args.parts.now.items ++ t) (left_text look.format look.only state contingency not_told) ∙ append-nil (flat_map part_text c.args.parts.now.items));
      lines = sym (ap (λ t. flat_map part_lines c.args.parts.now.items ++ t) (left_lines look.format look.only state c.args.place contingency not_told) ∙ append-nil (flat_map part_lines c.args.parts.now.items));
      count = omega (arith, left_none look.format look.only state contingency not_told);
    }

pub returns-clause-text : goal.returns-clause-text
unfolding told_line
returns-clause-text c =
    let look = c.args.sight.now.look in
    let state = case_state c.args.sight.now.case.now in
    let contingency = c.args.contingency.now in
    let said : c.is_told.result ≡ true = search rules in
    let is_one : is_told look.only state contingency ≡ true =
    sym (told_is look.only state look.before contingency c.args.finding.now (c.requires.look.before c.args.sight.now.case.now.states.retained) c.requires.found) ∙ sym c.is_told.ensures ∙ said
    in
    let line = ap (screen_line look.format c.args.sight.now.case.now.structure contingency.name) c.requires.found ∙ sym (told_text look.format look.only state contingency is_one) in
    ap (flat_map part_text) c.in_ok-push.ensures.items ∙ last_text part_text c.args.parts.now.items _ ∙ ap (λ t. flat_map part_text c.args.parts.now.items ++ t) line

pub returns-clause-lines : goal.returns-clause-lines
unfolding found_object
returns-clause-lines c =
    let look = c.args.sight.now.look in
    let state = case_state c.args.sight.now.case.now in
    let contingency = c.args.contingency.now in
    let said : c.is_told.result ≡ true = search rules in
    let is_one : is_told look.only state contingency ≡ true =
    sym (told_is look.only state look.before contingency c.args.finding.now (c.requires.look.before c.args.sight.now.case.now.states.retained) c.requires.found) ∙ sym c.is_told.ensures ∙ said
    in
    let line =
    ap (λ f. line_of (contingency_object look.format c.args.sight.now.case.now.structure c.args.place contingency.name f)) c.requires.found
    ∙ sym (told_lines look.format look.only state c.args.place contingency is_one)
    in
    ap (flat_map part_lines) c.in_ok-push.ensures.items ∙ last_text part_lines c.args.parts.now.items _ ∙ ap (λ t. flat_map part_lines c.args.parts.now.items ++ t) line

pub returns-clause-count : goal.returns-clause-count
returns-clause-count c =
    let look = c.args.sight.now.look in
    let state = case_state c.args.sight.now.case.now in
    let contingency = c.args.contingency.now in
    let said : c.is_told.result ≡ true = search rules in
    let is_one : is_told look.only state contingency ≡ true =
    sym (told_is look.only state look.before contingency c.args.finding.now (c.requires.look.before c.args.sight.now.case.now.states.retained) c.requires.found) ∙ sym c.is_told.ensures ∙ said
    in
    ap length c.in_ok-push.ensures.items ∙ length-append c.args.parts.now.items _ ∙ ap (λ k. length c.args.parts.now.items + k) (sym (told_one look.format look.only state contingency is_one))
