use Rattle.std.proofs.Common.{sym, ◌∙◌, ap, subst, ℕ, Option}
use Rattle.grid_structure.specs.Network.{Network}
use Rattle.grid_structure.specs.Sites.{levels}
use Rattle.grid_requests.specs.Changes.{structure_after}
use Rattle.grid_core.specs.Copied.{AreCopies}
use Rattle.grid_core.specs.Kept.{AreBySlot, AreMoved}
use Rattle.grid_core.proofs.LevelCopies.{copies_same}
use Rattle.grid_core.proofs.Left.{left_so}
use Rattle.grid_core.proofs.kept.follow.Goals as goal

pub returns-then-leaves : goal.returns-then-leaves
returns-then-leaves c net before after k touch stays refused moved =
    let left = sym c.leaves.ensures ∙ c.if-leaves.true in
    left_so net c.args.request.now before after c.args.all.now left k (stays left)

pub returns-then-accepts : goal.returns-then-accepts
returns-then-accepts c net before after k touch stays refused moved =
    let next = structure_after net c.args.request.now in
    record {
      slots = c.follow_slots.ensures net next before after touch k.slots;
      copies = c.follow.ensures net next touch (subst (AreCopies net) (sym c.count_moves.ensures) k.copies);
    }

pub returns-else-accepts : goal.returns-else-accepts
returns-else-accepts c net before after k touch stays refused moved =
    let same = refused (sym c.accepts.ensures ∙ c.if-accepts.false) in
    record {
      slots = subst (λ (n : Network). AreBySlot n after c.doubt.new.all.items) (sym same) (c.doubt.ensures net before after (subst (λ (m : Option ℕ). AreMoved m before after) (sym c.moved_level.ensures) moved) k.slots);
      copies = subst (AreCopies (structure_after net c.args.request.now)) (sym c.count_moves.ensures) (copies_same net (structure_after net c.args.request.now) c.args.all.now.copies (ap (λ (n : Network). levels n) same) k.copies);
    }
