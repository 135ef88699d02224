use Rattle.std.proofs.Common.{◌≡◌, ◌+◌, [], ◌∷◌, ◌++◌, List, length, length-append, take, sym, ap, ◌∙◌, arith, rules}
use Rattle.std.proofs.lemmas.List.{length-take-le, take_all}
use Rattle.std.proofs.lemmas.Slice.Zip.{zip_turn, zip_end}
use Rattle.grid_lemmas.proofs.Lists.{take_next, length_map}
use Rattle.grid_core.specs.Solo.{State}
use Rattle.grid_jsonl.specs.Outcomes.{lines}
use Rattle.grid_contingencies.specs.declared.Contingency.{Contingency}
use Rattle.grid_screen.specs.Found.{finding_of}
use Rattle.grid_cli.specs.Findings.{case_state, list_objects, list_text, told_count}
use Rattle.grid_cli.proofs.ScreenAnswers.{found_at, list_text-append, lines-append, told_count-append}
use Rattle.grid_cli.proofs.findings.parts_of.Goals as goal

pub loop-contingency-init : goal.loop-contingency-init
unfolding list_text list_objects told_count
loop-contingency-init c = search rules

pub push_told-requires-clause-found : goal.push_told-requires-clause-found
push_told-requires-clause-found c =
    let cs = c.args.piece.now in
    let fs = c.args.findings.now in
    let case = c.args.sight.now.case.now in
    let turn = zip_turn cs fs c.loop-contingency.yielded _ c.loop-contingency.contingency-iterator c.next.new.self c.next.result (search rules) (search rules) c.loop-contingency.yielded_by (c.in-Some.contingency, c.in-Some.finding) c.in-Some.is c.next.ensures.steps in
    found_at (finding_of (case_state case)) cs fs (length c.loop-contingency.yielded) c.in-Some.contingency.now c.in-Some.finding.now (c.requires.found case.states.retained) turn.0 (turn.2 c.in-Some.contingency.now) (turn.3 c.in-Some.finding.now)

pub overflow_add-place : goal.overflow_add-place
overflow_add-place c =
    let cs = c.args.piece.now in
    let fs = c.args.findings.now in
    let turn = zip_turn cs fs c.loop-contingency.yielded _ c.loop-contingency.contingency-iterator c.next.new.self c.next.result (search rules) (search rules) c.loop-contingency.yielded_by (c.in-Some.contingency, c.in-Some.finding) c.in-Some.is c.next.ensures.steps in
    omega (arith, turn.0, c.loop-contingency.invariant.placed, c.requires.few)

pub loop-contingency-preserved : goal.loop-contingency-preserved
loop-contingency-preserved c =
    let cs = c.args.piece.now in
    let fs = c.args.findings.now in
    let look = c.args.sight.now.look in
    let state : State = case_state c.args.sight.now.case.now in
    let turn = zip_turn cs fs c.loop-contingency.yielded _ c.loop-contingency.contingency-iterator c.next.new.self c.next.result (search rules) (search rules) c.loop-contingency.yielded_by (c.in-Some.contingency, c.in-Some.finding) c.in-Some.is c.next.ensures.steps in
    let n = length c.loop-contingency.yielded in
    let inv = c.loop-contingency.invariant in
    let one : List Contingency = c.in-Some.contingency.now ∷ [] in
    let front : List Contingency = take n cs in
    let longer : length (c.loop-contingency.yielded ++ (c.in-Some.contingency, c.in-Some.finding) ∷ []) ≡ n + 1 = length-append c.loop-contingency.yielded ((c.in-Some.contingency, c.in-Some.finding) ∷ []) in
    let more : take (length (c.loop-contingency.yielded ++ (c.in-Some.contingency, c.in-Some.finding) ∷ [])) cs ≡ front ++ one = ap (λ k. take k cs) longer ∙ take_next cs n c.in-Some.contingency.now turn.0 (turn.2 c.in-Some.contingency.now) in
    let long : length front ≡ n = length-take-le n cs (omega (arith, turn.0)) in
    let place : c.loop-contingency.place ≡ c.args.first + length front = inv.placed ∙ ap (λ k. c.args.first + k) (sym long) in
    record {
      placed = omega (arith, inv.placed, longer);
      text =
          c.in_ok-push_told.ensures.text ∙ ap (λ t. t ++ list_text look.format look.only state one) inv.text
          ∙ sym (list_text-append look.format look.only state front one) ∙ ap (list_text look.format look.only state) (sym more);
      lined =
          c.in_ok-push_told.ensures.lines ∙ ap (λ t. t ++ lines (list_objects look.format look.only state c.loop-contingency.place one)) inv.lined
          ∙ ap (λ k. lines (list_objects look.format look.only state c.args.first front) ++ lines (list_objects look.format look.only state k one)) place
          ∙ sym (lines-append look.format look.only state c.args.first front one) ∙ ap (λ l. lines (list_objects look.format look.only state c.args.first l)) (sym more);
      count =
          c.in_ok-push_told.ensures.count ∙ ap (λ k. k + told_count look.only state one) inv.count
          ∙ sym (told_count-append look.format look.only state front one) ∙ ap (told_count look.only state) (sym more);
    }

pub returns-clause-text : goal.returns-clause-text
returns-clause-text c =
    let cs = c.args.piece.now in
    let fs = c.args.findings.now in
    let look = c.args.sight.now.look in
    let end = zip_end cs fs c.loop-contingency.yielded _ c.loop-contingency.contingency-iterator c.next.new.self c.next.result (search rules) (search rules) c.loop-contingency.yielded_by c.in-None.is c.next.ensures.steps in
    let same : length fs ≡ length cs = ap length (c.requires.found c.args.sight.now.case.now.states.retained) ∙ length_map (finding_of (case_state c.args.sight.now.case.now)) cs in
    c.loop-contingency.invariant.text ∙ ap (list_text look.format look.only (case_state c.args.sight.now.case.now)) (take_all (length c.loop-contingency.yielded) cs (omega (arith, end, same)))

pub returns-clause-lines : goal.returns-clause-lines
returns-clause-lines c =
    let cs = c.args.piece.now in
    let fs = c.args.findings.now in
    let look = c.args.sight.now.look in
    let end = zip_end cs fs c.loop-contingency.yielded _ c.loop-contingency.contingency-iterator c.next.new.self c.next.result (search rules) (search rules) c.loop-contingency.yielded_by c.in-None.is c.next.ensures.steps in
    let same : length fs ≡ length cs = ap length (c.requires.found c.args.sight.now.case.now.states.retained) ∙ length_map (finding_of (case_state c.args.sight.now.case.now)) cs in
    c.loop-contingency.invariant.lined ∙ ap (λ l. lines (list_objects look.format look.only (case_state c.args.sight.now.case.now) c.args.first l)) (take_all (length c.loop-contingency.yielded) cs (omega (arith, end, same)))

pub returns-clause-count : goal.returns-clause-count
returns-clause-count c =
    let cs = c.args.piece.now in
    let fs = c.args.findings.now in
    let look = c.args.sight.now.look in
    let end = zip_end cs fs c.loop-contingency.yielded _ c.loop-contingency.contingency-iterator c.next.new.self c.next.result (search rules) (search rules) c.loop-contingency.yielded_by c.in-None.is c.next.ensures.steps in
    let same : length fs ≡ length cs = ap length (c.requires.found c.args.sight.now.case.now.states.retained) ∙ length_map (finding_of (case_state c.args.sight.now.case.now)) cs in
    c.loop-contingency.invariant.count ∙ ap (told_count look.only (case_state c.args.sight.now.case.now)) (take_all (length c.loop-contingency.yielded) cs (omega (arith, end, same)))
