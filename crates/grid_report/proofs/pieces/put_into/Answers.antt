use Rattle.std.proofs.Common.{◌≡◌, ◌∙◌, ◌++◌, arith}
use Rattle.grid_lemmas.proofs.Results.{on_err}
use Rattle.grid_report.proofs.WriteBuffers.{waits_more, handed_over, begun, begun_in, begun_whole, begun_bare, further}
use Rattle.grid_report.proofs.pieces.put_into.Goals as goal

pub returns-in-Err-clause-err : goal.returns-in-Err-clause-err
returns-in-Err-clause-err g c = let i = c.loop-rest.invariant.so_far in begun _ _ _ _ _ _ _ i.1 i.2

pub returns-in_err-hand_over-clause-err : goal.returns-in_err-hand_over-clause-err
returns-in_err-hand_over-clause-err g c =
    let i = c.loop-rest.invariant.so_far in
    let front = c.split_at.result.0.now in
    let e : c.args.bytes.now ≡ (i.0 ++ front) ++ c.split_at.result.1.now = rw (c.split_at.ensures.front, c.split_at.ensures.back) (further c.args.bytes.now i.0 c.loop-rest.rest.now c.min.result i.1) in
    let h = c.in_err-hand_over.ensures.err in
    on_err c.from_residual.result (begun_in _ _ _ _ _ _ _ _ h.0 e (waits_more _ _ _ _ _ _ _ i.2 c.in-Ok.ensures.items) h.1)

pub loop-rest-preserved-in_ok-hand_over : goal.loop-rest-preserved-in_ok-hand_over
loop-rest-preserved-in_ok-hand_over g c =
    let i = c.loop-rest.invariant.so_far in
    let front = c.split_at.result.0.now in
    let e : c.args.bytes.now ≡ (i.0 ++ front) ++ c.split_at.result.1.now = rw (c.split_at.ensures.front, c.split_at.ensures.back) (further c.args.bytes.now i.0 c.loop-rest.rest.now c.min.result i.1) in
    record {
      below = rw c.in_ok-hand_over.ensures.cleared (omega arith);
      so_far = (i.0 ++ front, e, rw c.in_ok-hand_over.ensures.cleared (handed_over _ _ _ _ _ _ (waits_more _ _ _ _ _ _ _ i.2 c.in-Ok.ensures.items) c.in_ok-hand_over.ensures.ok));
      same = c.in_ok-hand_over.ensures.stays (λ is. absurd (cc)) ∙ c.loop-rest.invariant.same;
    }

pub loop-rest-preserved : goal.loop-rest-preserved
loop-rest-preserved g c =
    let i = c.loop-rest.invariant.so_far in
    let front = c.split_at.result.0.now in
    let e : c.args.bytes.now ≡ (i.0 ++ front) ++ c.split_at.result.1.now = rw (c.split_at.ensures.front, c.split_at.ensures.back) (further c.args.bytes.now i.0 c.loop-rest.rest.now c.min.result i.1) in
    record {
      below = omega (arith, c.in-Ok.ensures.len, c.split_at.ensures.front_len, c.min.ensures, c.len-room.ensures, c.len.ensures, c.if-len-eq-PIECE.false);
      so_far = (i.0 ++ front, e, waits_more _ _ _ _ _ _ _ i.2 c.in-Ok.ensures.items);
      same = c.loop-rest.invariant.same;
    }

pub returns-in-Err-clause-waits : goal.returns-in-Err-clause-waits
returns-in-Err-clause-waits g c = λ _. let i = c.loop-rest.invariant.so_far in rw c.in-Err.ensures.items (begun_whole _ _ _ _ _ i.1 i.2)

pub returns-in_err-hand_over-clause-waits : goal.returns-in_err-hand_over-clause-waits
returns-in_err-hand_over-clause-waits g c =
    let i = c.loop-rest.invariant.so_far in
    let front = c.split_at.result.0.now in
    let e : c.args.bytes.now ≡ (i.0 ++ front) ++ c.split_at.result.1.now = rw (c.split_at.ensures.front, c.split_at.ensures.back) (further c.args.bytes.now i.0 c.loop-rest.rest.now c.min.result i.1) in
    let h = c.in_err-hand_over.ensures.err in
    λ _. begun_bare _ _ _ _ c.in_err-hand_over.ensures.cleared (begun_in _ _ _ _ _ _ _ _ h.0 e (waits_more _ _ _ _ _ _ _ i.2 c.in-Ok.ensures.items) h.1)
