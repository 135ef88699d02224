use Rattle.std.proofs.Common.{◌≡◌, ◌+◌, [], ◌++◌, List, length, length-append, refl, sym, ap, ◌∙◌, subst, append_assoc, append-nil, arith, rules}
use Rattle.std.specs.Io.KnownBytes.{Appends}
use Rattle.std.specs.Slice.Iter.{chunks_rest}
use Rattle.std.proofs.KnownBytes.{Appends-nil, Appends-trans}
use Rattle.std.proofs.lemmas.List.{nil_from_length}
use Rattle.grid_lemmas.proofs.Results.{on_err}
use Rattle.grid_report.proofs.Begun.{within}
use Rattle.grid_core.specs.declared.case.Case.{Case}
use Rattle.grid_contingencies.specs.declared.Contingency.{Contingency}
use Rattle.grid_cli.specs.Findings.{case_state, told_count, told_of}
use Rattle.grid_cli.specs.declared.findings.Look.{Look}
use Rattle.grid_cli.proofs.ScreenAnswers.{counts-all, list_in-append, list_in-nil, told_count-append}
use Rattle.grid_cli.proofs.findings.write_list.Goals as goal

-- a front, a piece and what is left
parted : (list front piece rest all : List Contingency) → list ≡ front ++ all → all ≡ piece ++ rest → list ≡ (front ++ piece) ++ rest
parted list front piece rest all cut more = cut ∙ ap (λ l. front ++ l) more ∙ sym (append_assoc front piece rest)

long : (list front piece rest all : List Contingency) → list ≡ front ++ all → all ≡ piece ++ rest → length list ≡ (length front + length piece) + length rest
long list front piece rest all cut more =
    ap length (parted list front piece rest all cut more) ∙ length-append (front ++ piece) rest ∙ ap (λ n. n + length rest) (length-append front piece)

told_parts : (case : Case) (look : Look) (first : _) (list front piece rest all : List Contingency) → list ≡ front ++ all → all ≡ piece ++ rest → first ≡ length front
    → told_of case look 0 list ≡ told_of case look 0 front ++ (told_of case look first piece ++ told_of case look (first + length piece) rest)
told_parts case look first list front piece rest all cut more is =
    let state = case_state case in
    let at : 0 + length front ≡ first = omega (arith, is) in
    ap (told_of case look 0) (cut ∙ ap (λ l. front ++ l) more) ∙ list_in-append look.format look.only state look.layout 0 front (piece ++ rest)
    ∙ ap (λ n. told_of case look 0 front ++ told_of case look n (piece ++ rest)) at
    ∙ ap (λ t. told_of case look 0 front ++ t) (list_in-append look.format look.only state look.layout first piece rest)

told_more : (case : Case) (look : Look) (first : _) (front piece : List Contingency) → first ≡ length front → told_of case look 0 front ++ told_of case look first piece ≡ told_of case look 0 (front ++ piece)
told_more case look first front piece is =
    let at : first ≡ 0 + length front = omega (arith, is) in
    ap (λ n. told_of case look 0 front ++ told_of case look n piece) at ∙ sym (list_in-append look.format look.only (case_state case) look.layout 0 front piece)

pub loop-piece-init : goal.loop-piece-init
unfolding told_count
loop-piece-init g c =
    let look = c.args.screening.now.look in
    record {
      can_next = search rules;
      finite = search rules;
      size = search rules;
      so_far = (
        [],
        search rules,
        refl,
        refl,
        subst (Appends (g.K.Sink.written c.args.sink.now) (g.K.Sink.written c.args.sink.now)) (sym (list_in-nil look.format look.only (case_state c.args.screening.now.case.now) look.layout 0)) (Appends-nil (g.K.Sink.written c.args.sink.now)),
      );
      same = refl;
    }

pub write_piece-requires-clause-few : goal.write_piece-requires-clause-few
write_piece-requires-clause-few g c =
    let i = c.loop-piece.invariant.so_far in
    omega (arith, i.2, long c.args.list.now i.0 c.in-Some.piece.now _ _ i.1 c.in-Some.ensures.steps.1.0)

pub overflow_add-told : goal.overflow_add-told
overflow_add-told g c =
    let i = c.loop-piece.invariant.so_far in
    let look = c.args.screening.now.look in
    let state = case_state c.args.screening.now.case.now in
    omega (arith, i.3, counts-all look.format look.only state i.0, counts-all look.format look.only state c.in-Some.piece.now, c.in_ok-told.ensures.count, long c.args.list.now i.0 c.in-Some.piece.now _ _ i.1 c.in-Some.ensures.steps.1.0)

pub overflow_add-first : goal.overflow_add-first
overflow_add-first g c =
    let i = c.loop-piece.invariant.so_far in
    omega (arith, i.2, long c.args.list.now i.0 c.in-Some.piece.now _ _ i.1 c.in-Some.ensures.steps.1.0)

pub returns-in_err-told-clause-err : goal.returns-in_err-told-clause-err
returns-in_err-told-clause-err g c =
    let i = c.loop-piece.invariant.so_far in
    let look = c.args.screening.now.look in
    let piece = c.in-Some.piece.now in
    on_err c.from_residual.result
    (within _ _ _ (told_of c.args.screening.now.case.now look 0 i.0) (told_of c.args.screening.now.case.now look c.loop-piece.first piece) (told_of c.args.screening.now.case.now look (c.loop-piece.first + length piece) (chunks_rest c.next.new.self)) (told_of c.args.screening.now.case.now look 0 c.args.list.now)
    (told_parts c.args.screening.now.case.now look c.loop-piece.first c.args.list.now i.0 piece (chunks_rest c.next.new.self) _ i.1 c.in-Some.ensures.steps.1.0 i.2) i.4 c.in_err-told.ensures.err)

pub loop-piece-preserved : goal.loop-piece-preserved
loop-piece-preserved g c =
    let i = c.loop-piece.invariant.so_far in
    let look = c.args.screening.now.look in
    let state = case_state c.args.screening.now.case.now in
    let piece = c.in-Some.piece.now in
    let steps = c.in-Some.ensures.steps in
    record {
      can_next = search rules;
      finite = search rules;
      size = steps.0 ∙ c.loop-piece.invariant.size;
      so_far = (
        i.0 ++ piece,
        parted c.args.list.now i.0 piece (chunks_rest c.next.new.self) _ i.1 steps.1.0,
        omega (arith, i.2, length-append i.0 piece),
        omega (arith, i.3, c.in_ok-told.ensures.count, told_count-append look.format look.only state i.0 piece),
        subst (Appends (g.K.Sink.written c.args.sink.now) (g.K.Sink.written c.write_piece.new.sink)) (told_more c.args.screening.now.case.now look c.loop-piece.first i.0 piece i.2) (Appends-trans _ _ _ _ _ i.4 c.in_ok-told.ensures.ok),
      );
      same = c.in_ok-told.ensures.stays (λ is. absurd (cc)) ∙ c.loop-piece.invariant.same;
    }

-- nothing is left
over : (list front rest : List Contingency) → list ≡ front ++ rest → length rest ≡ 0 → front ≡ list
over list front rest cut none = sym (cut ∙ ap (λ l. front ++ l) (nil_from_length rest none) ∙ append-nil front)

pub returns-clause-ok : goal.returns-clause-ok
returns-clause-ok g c =
    let i = c.loop-piece.invariant.so_far in
    subst (λ l. Appends (g.K.Sink.written c.args.sink.now) (g.K.Sink.written c.loop-piece.sink) (told_of c.args.screening.now.case.now c.args.screening.now.look 0 l)) (over c.args.list.now i.0 _ i.1 c.in-None.ensures.steps.1.0) i.4

pub returns-clause-count : goal.returns-clause-count
returns-clause-count g c =
    let i = c.loop-piece.invariant.so_far in
    let look = c.args.screening.now.look in
    i.3 ∙ ap (told_count look.only (case_state c.args.screening.now.case.now)) (over c.args.list.now i.0 _ i.1 c.in-None.ensures.steps.1.0)
