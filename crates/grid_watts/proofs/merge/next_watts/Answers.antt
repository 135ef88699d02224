use Rattle.std.proofs.Common.{◌≡◌, sym, ◌∙◌, rules}
use Rattle.std.proofs.lemmas.Int.{to_z-of_z}
use mir.Syntax.{w64}
use mir.Val.{SFits}
use Rattle.grid_watts.proofs.Merges.{first_is, first_behind, first_of_none, ended}
use Rattle.grid_watts.proofs.merge.next_watts.Goals as goal
use Rattle.grid_watts.proofs.merge.next_watts.Goals.{in_default-via-in-Some+else-pair-placed, in_default-via-in_default}

pub returns-in-Some : goal.returns-in-Some
returns-in-Some c = λ listed rest rise is.
    let wide : SFits w64 c.in-Some.pair.now.watts = search rules in
    let found = first_is listed c.args.placed.now rest rise c.in-Some.pair.now c.in-Some.rest.now (sym c.in-Some.ensures.cases.0 ∙ is) c.if-pair-placed.true in
    (to_z-of_z w64 c.in-Some.pair.now.watts wide ∙ found.0, found.1)

pub returns-in_default : goal.returns-in_default
returns-in_default c = λ listed rest rise is.
    let own : SFits w64 c.watts_of.result = search rules in
    elim c.in_default.branch [
      | in_default-via-in-Some+else-pair-placed w ↦
          let found = first_behind listed c.args.placed.now rest rise w.in-Some.pair.now w.in-Some.rest.now (sym w.in-Some.ensures.cases.0 ∙ is) w.if-pair-placed.false in
          (to_z-of_z w64 c.watts_of.result own ∙ c.watts_of.ensures ∙ found.0, w.in-Some.ensures.cases.0 ∙ found.1)
      | in_default-via-in_default w ↦
          let found = first_of_none listed c.args.placed.now rest rise c.args.row.now (ended c.args.row.now w.in_default.ensures.cases) is in
          (to_z-of_z w64 c.watts_of.result own ∙ c.watts_of.ensures ∙ found.0, found.1)
    ]
