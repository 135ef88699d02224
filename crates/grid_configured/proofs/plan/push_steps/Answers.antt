use Rattle.std.proofs.Common.{◌≡◌, ◌+◌, ◌<◌, ◌≤◌, ◌==◌, Some, ◌++◌, [], ◌∷◌, length, map, take, get_or, refl, sym, ap, ◌∙◌, append-nil, length-append, arith, rules}
use Rattle.std.specs.Prelude.{zip, filter, slice_get, option_map}
use Rattle.std.proofs.lemmas.Option.{slice_get_read, slice_get-map}
use Rattle.std.specs.List.{flat_map}
use Rattle.std.proofs.lemmas.List.{take_all, take-map, length-map}
use Rattle.std.proofs.lemmas.Slice.Zip.{zip_turn, zip_end, length-zip, get_or-zip}
use Rattle.grid_core.specs.declared.journal.Entry.{Entry}
use Rattle.grid_report.specs.Outcomes.{numbered}
use Rattle.grid_report.proofs.ReportPlans.{part_more}
use Rattle.grid_configured.specs.declared.reply.ConfiguredReply.{ConfiguredReply}
use Rattle.grid_configured.specs.Texts.{step_text, steps_by}
use Rattle.grid_configured.specs.Outcomes.{told_pair, told_of}
use Rattle.grid_configured.specs.Blocks.{block_objects, block_text}
use Rattle.grid_configured.specs.Lines.{placed, placed_from, command_object, worker_objects}
use Rattle.grid_configured.proofs.PartObjects.{objects_more, pushed_objects, first_objects, own_object, other_object, length-placed}
use Rattle.grid_configured.proofs.ReportSteps.{told_more, other_step, few_told, counted_more, steps_more, pushed}
use Rattle.grid_configured.proofs.plan.push_steps.Goals as goal

pub loop-entry-init : goal.loop-entry-init
unfolding numbered steps_by
loop-entry-init c = record { counted = refl; placed = refl; lined = sym (append-nil (flat_map block_objects c.args.blocks.now.items)); planned = sym (append-nil (flat_map block_text c.args.blocks.now.items)) }

pub overflow_add-place : goal.overflow_add-place
overflow_add-place c =
    let journal = c.args.journal.now in
    let replies = c.args.replies.now in
    let turn = zip_turn journal replies c.loop-entry.yielded _ c.loop-entry.entry-iterator c.next.new.self c.next.result (search rules) (search rules) c.loop-entry.yielded_by (c.in-Some.entry, c.in-Some.reply) c.in-Some.is c.next.ensures.steps in
    omega (arith, turn.0, c.loop-entry.invariant.placed)

pub overflow_add-number : goal.overflow_add-number
overflow_add-number c =
    let journal = c.args.journal.now in
    let replies = c.args.replies.now in
    let turn = zip_turn journal replies c.loop-entry.yielded _ c.loop-entry.entry-iterator c.next.new.self c.next.result (search rules) (search rules) c.loop-entry.yielded_by (c.in-Some.entry, c.in-Some.reply) c.in-Some.is c.next.ensures.steps in
    let n = length c.loop-entry.yielded in
    let within : n ≤ length (zip journal replies) = omega (arith, turn.0, turn.1, length-zip journal replies) in
    omega (arith, turn.0, few_told c.args.worker (zip journal replies) n within, c.loop-entry.invariant.counted)

pub loop-entry-preserved-in-Continue-1 : goal.loop-entry-preserved-in-Continue-1
loop-entry-preserved-in-Continue-1 c =
    let journal = c.args.journal.now in
    let replies = c.args.replies.now in
    let worker = c.args.worker in
    let turn = zip_turn journal replies c.loop-entry.yielded _ c.loop-entry.entry-iterator c.next.new.self c.next.result (search rules) (search rules) c.loop-entry.yielded_by (c.in-Some.entry, c.in-Some.reply) c.in-Some.is c.next.ensures.steps in
    let n = length c.loop-entry.yielded in
    let pair : Entry × ConfiguredReply = (c.in-Some.entry.now, c.in-Some.reply.now) in
    let pairs = zip journal replies in
    let longer : length (c.loop-entry.yielded ++ (c.in-Some.entry, c.in-Some.reply) ∷ []) ≡ n + 1 = length-append c.loop-entry.yielded ((c.in-Some.entry, c.in-Some.reply) ∷ []) in
    let at : pair ≡ get_or pairs n pair = ap (λ z. (z, c.in-Some.reply.now)) (turn.2 c.in-Some.entry.now) ∙ ap (λ z. (get_or journal n c.in-Some.entry.now, z)) (turn.3 c.in-Some.reply.now) ∙ sym (get_or-zip journal replies n pair turn.0 turn.1) in
    let told = map told_pair (take n pairs) in
    let more : map told_pair (take (length (c.loop-entry.yielded ++ (c.in-Some.entry, c.in-Some.reply) ∷ [])) pairs) ≡ told ++ told_pair pair ∷ [] = ap (λ k. map told_pair (take k pairs)) longer ∙ told_more pairs n pair (omega (arith, turn.0, turn.1, length-zip journal replies)) at in
    let own = c.if-entry-worker.true in
    let inv = c.loop-entry.invariant in
    let all = map told_pair pairs in
    let below : n < length pairs = omega (arith, turn.0, turn.1, length-zip journal replies) in
    let there : slice_get all n ≡ Some (told_pair pair) = slice_get-map told_pair pairs n ∙ ap (option_map told_pair) (slice_get_read pairs (length pairs) n pair refl below at) in
    let same_take : map told_pair (take (length (c.loop-entry.yielded ++ (c.in-Some.entry, c.in-Some.reply) ∷ [])) pairs) ≡ take (n + 1) all = ap (λ k. map told_pair (take k pairs)) longer ∙ sym (take-map told_pair (n + 1) pairs) in
    let next : c.loop-entry.number + 1 ≡ length (steps_by worker (take (n + 1) all)) = counted_more worker c.loop-entry.number told (told_pair pair) own inv.counted ∙ ap (λ l. length (steps_by worker l)) (sym more ∙ same_take) in
    record {
      placed = ap (λ k. k + 1) inv.placed ∙ sym longer;
      lined =
          objects_more _ _ _ _ _ _ inv.lined (pushed_objects _ _ _ c.in_ok-push.ensures.items ∙ ap (λ k. flat_map block_objects c.loop-entry.blocks.items ++ command_object (placed k (c.loop-entry.number + 1) (told_pair pair)) ∷ []) inv.placed)
          (own_object worker all n (c.loop-entry.number + 1) (told_pair pair) there own next)
          ∙ ap (λ k. flat_map block_objects c.args.blocks.now.items ++ first_objects worker all k) (sym longer);
      counted = counted_more worker c.loop-entry.number told (told_pair pair) own inv.counted ∙ ap (λ l. length (steps_by worker l)) (sym more);
      planned =
          part_more _ _ _ _ _ _ inv.planned (pushed _ _ _ c.in_ok-push.ensures.items) (steps_more worker c.loop-entry.number told (told_pair pair) own inv.counted)
          ∙ ap (λ l. flat_map block_text c.args.blocks.now.items ++ numbered step_text 1 (steps_by worker l)) (sym more);
    }

pub loop-entry-preserved : goal.loop-entry-preserved
loop-entry-preserved c =
    let journal = c.args.journal.now in
    let replies = c.args.replies.now in
    let worker = c.args.worker in
    let turn = zip_turn journal replies c.loop-entry.yielded _ c.loop-entry.entry-iterator c.next.new.self c.next.result (search rules) (search rules) c.loop-entry.yielded_by (c.in-Some.entry, c.in-Some.reply) c.in-Some.is c.next.ensures.steps in
    let n = length c.loop-entry.yielded in
    let pair : Entry × ConfiguredReply = (c.in-Some.entry.now, c.in-Some.reply.now) in
    let pairs = zip journal replies in
    let longer : length (c.loop-entry.yielded ++ (c.in-Some.entry, c.in-Some.reply) ∷ []) ≡ n + 1 = length-append c.loop-entry.yielded ((c.in-Some.entry, c.in-Some.reply) ∷ []) in
    let at : pair ≡ get_or pairs n pair = ap (λ z. (z, c.in-Some.reply.now)) (turn.2 c.in-Some.entry.now) ∙ ap (λ z. (get_or journal n c.in-Some.entry.now, z)) (turn.3 c.in-Some.reply.now) ∙ sym (get_or-zip journal replies n pair turn.0 turn.1) in
    let told = map told_pair (take n pairs) in
    let more : map told_pair (take (length (c.loop-entry.yielded ++ (c.in-Some.entry, c.in-Some.reply) ∷ [])) pairs) ≡ told ++ told_pair pair ∷ [] = ap (λ k. map told_pair (take k pairs)) longer ∙ told_more pairs n pair (omega (arith, turn.0, turn.1, length-zip journal replies)) at in
    let same = sym (ap (steps_by worker) more ∙ other_step worker told (told_pair pair) c.if-entry-worker.false) in
    let inv = c.loop-entry.invariant in
    let all = map told_pair pairs in
    let below : n < length pairs = omega (arith, turn.0, turn.1, length-zip journal replies) in
    let there : slice_get all n ≡ Some (told_pair pair) = slice_get-map told_pair pairs n ∙ ap (option_map told_pair) (slice_get_read pairs (length pairs) n pair refl below at) in
    record {
      placed = ap (λ k. k + 1) inv.placed ∙ sym longer;
      lined =
          inv.lined ∙ ap (λ l. flat_map block_objects c.args.blocks.now.items ++ l) (sym (other_object worker all n (told_pair pair) there c.if-entry-worker.false))
          ∙ ap (λ k. flat_map block_objects c.args.blocks.now.items ++ first_objects worker all k) (sym longer);
      counted = inv.counted ∙ ap length same;
      planned = inv.planned ∙ ap (λ l. flat_map block_text c.args.blocks.now.items ++ numbered step_text 1 l) same;
    }

pub returns-clause-text : goal.returns-clause-text
unfolding told_of
returns-clause-text c =
    let journal = c.args.journal.now in
    let replies = c.args.replies.now in
    let end = zip_end journal replies c.loop-entry.yielded _ c.loop-entry.entry-iterator c.next.new.self c.next.result (search rules) (search rules) c.loop-entry.yielded_by c.in-None.is c.next.ensures.steps in
    c.loop-entry.invariant.planned
    ∙ ap (λ l. flat_map block_text c.args.blocks.now.items ++ numbered step_text 1 (steps_by c.args.worker (map told_pair l))) (take_all (length c.loop-entry.yielded) (zip journal replies) (omega (arith, end, length-zip journal replies)))

pub returns-clause-lines : goal.returns-clause-lines
unfolding told_of worker_objects
returns-clause-lines c =
    let journal = c.args.journal.now in
    let replies = c.args.replies.now in
    let all = map told_pair (zip journal replies) in
    let end = zip_end journal replies c.loop-entry.yielded _ c.loop-entry.entry-iterator c.next.new.self c.next.result (search rules) (search rules) c.loop-entry.yielded_by c.in-None.is c.next.ensures.steps in
    let n = length c.loop-entry.yielded in
    let long = length-placed all 0 all ∙ length-map (zip journal replies) told_pair in
    c.loop-entry.invariant.lined
    ∙ ap (λ l. flat_map block_objects c.args.blocks.now.items ++ map command_object (filter (λ s. s.told.worker == c.args.worker) l)) (take_all n (placed_from all 0 all) (omega (arith, end, length-zip journal replies, long)))
