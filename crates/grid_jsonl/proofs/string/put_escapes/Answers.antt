use Rattle.std.proofs.Common.{arith}
use Rattle.grid_jsonl.proofs.Puts.{put_with}
use Rattle.grid_jsonl.proofs.TextEscapes.{plain_more, escaped_more, all_put}
use Rattle.grid_jsonl.proofs.string.put_escapes.Goals as goal
use Rattle.grid_jsonl.proofs.string.put_escapes.Goals.{then-not-is_plain+in_ok-put_bytes+in_ok-put_bytes-2, else-not-is_plain}

pub loop-at-preserved : goal.loop-at-preserved
loop-at-preserved c =
    let l = c.loop-at in
    let bytes = c.as_bytes-bytes.result.now in
    let old = c.args.out.now in
    elim c.if-not-is_plain.branch [
      | then-not-is_plain+in_ok-put_bytes+in_ok-put_bytes-2 w ↦
          rw (w.out-is, w.start-is) (record {
            within = omega arith;
            so_far = escaped_more bytes l.at 0 c.loop-at-test.true l.start old l.out w.put_bytes.new.self w.put_bytes-then-not-is_plain.new.self _ l.invariant.within l.invariant.so_far w.in_ok-put_bytes.ensures.ok w.in_ok-put_bytes-2.ensures.ok w.escape_of-len.ensures.value;
          })
      | else-not-is_plain w ↦
          rw (w.out-is, w.start-is) (record {
            within = omega (arith, l.invariant.within);
            so_far = plain_more bytes l.at 0 c.loop-at-test.true l.start old l.out l.invariant.within (c.is_plain.ensures w.if-not-is_plain.false) l.invariant.so_far;
          })
    ]

pub returns : goal.returns
returns c =
    let l = c.loop-at in
    put_with
    (all_put c.as_bytes-bytes.result.now c.args.text.now l.at l.start c.args.out.now l.out c.put_bytes-2.new.self c.as_bytes-bytes.ensures.value c.loop-at-test.false l.invariant.so_far) c.put_bytes-2.ensures
