use Rattle.std.proofs.Common.{◌≡◌, ap, ◌∙◌, sym, subst, rules}
use Rattle.std.specs.Prelude.{unwrap_or}
use Rattle.std.proofs.lemmas.Int.{to_z-of_z}
use mir.Syntax.{w64}
use mir.Val.{SFits}
use Rattle.grid_states.specs.Pairs.{value_at}
use Rattle.grid_states.specs.Rows.{HasRoom, pairs_at, shifted, without_terminal}
use Rattle.grid_states.specs.Sums.{taken}
use Rattle.grid_states.proofs.PageOrder.{room_kept}
use Rattle.grid_states.proofs.states.States.lose_terminal.Goals as goal

pub shift-requires-clause-room : goal.shift-requires-clause-room
shift-requires-clause-room c = subst HasRoom (sym c.in_ok-forget_watts.ensures.ok) (room_kept c.args.self.now c.args.level c.args.node c.requires.room)

pub returns-clause-ok : goal.returns-clause-ok
unfolding without_terminal
returns-clause-ok c =
    let counted = c.args.counted.watts in
    let listed = value_at c.args.node (pairs_at c.args.self.now.watts c.args.level) in
    let fits1 : SFits w64 c.unwrap_or-watts.result = search rules in
    let fits2 : SFits w64 counted = search rules in
    let watts = to_z-of_z w64 c.unwrap_or-watts.result fits1 ∙ c.unwrap_or-watts.ensures ∙ ap (unwrap_or c.watts.result) (to_z-of_z w64 counted fits2)
    ∙ ap (λ o. unwrap_or o counted) c.watts.ensures in
    c.shift.ensures ∙ ap (λ by. shifted by c.forget_watts.new.self) (c.loss.ensures.shift ∙ ap (taken c.args.counted.sum) watts)
    ∙ ap (shifted (taken c.args.counted.sum (unwrap_or listed counted))) c.in_ok-forget_watts.ensures.ok
