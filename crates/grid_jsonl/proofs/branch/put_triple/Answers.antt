use Rattle.std.proofs.Common.{◌∷◌, [], refl, sym, append-nil}
use Rattle.grid_print.specs.Objects.{array_of}
use Rattle.grid_jsonl.proofs.Objects.{array_ends, member_ends, other_more}
use Rattle.grid_jsonl.proofs.branch.put_triple.Goals as goal

pub returns : goal.returns
returns g c =
    let v = g.T.Written.written in
    let first = c.args.first.now in
    let second = c.args.second.now in
    let third = c.args.third.now in
    let begun = c.put-2.new.out in
    member_ends c.args.name.now (array_of v (first ∷ second ∷ third ∷ [])) c.args.out.now c.in_ok-put_name.ensures.ok
    (array_ends v first (second ∷ third ∷ []) (first ∷ second ∷ third ∷ []) c.put_name.new.out c.put.new.self begun refl
    c.in_ok-put.ensures.ok c.in_ok-put-2.ensures.ok
    (other_more v (second ∷ []) third begun c.put-4.new.out c.put-5.new.self c.put-6.new.out
    (other_more v [] second begun begun c.put-3.new.self c.put-4.new.out (sym (append-nil begun)) c.in_ok-put-3.ensures.ok c.in_ok-put-4.ensures.ok)
    c.in_ok-put-5.ensures.ok c.in_ok-put-6.ensures.ok)
    c.put-7.ensures)
