use Rattle.std.proofs.Common.{[], ◌∷◌, Ok, refl, sym, ap, rules}
use Rattle.std.specs.Prelude.{codes}
use Rattle.serde_json.specs.Data.{object}
use Rattle.grid_json.specs.declared.kinds.BranchKind.TheVariants.{Line, TwoWindings, ThreeWindings}
use Rattle.grid_json.specs.Reading.{whole_at}
use Rattle.grid_json.specs.Network.{end_at}
use Rattle.grid_json.specs.Command.{shape_at, branch_names}
use Rattle.grid_json.specs.CommandTokens.{branch_slots}
use Rattle.grid_json.proofs.Absent.{narrower}
use Rattle.grid_json.proofs.MemberSlots.{filled_is, empty_is}
use Rattle.grid_json.proofs.Pairs.{two_member, three_member}
use Rattle.grid_json.proofs.command_tokens.shape_in.Goals as goal

pub returns-in_ok-two_in-in-Line : goal.returns-in_ok-two_in-in-Line
unfolding shape_at
returns-in_ok-two_in-in-Line c = λ found ends substation rated. (
  rw (c.in-Line.is, two_member end_at (codes "ends") (object found) (filled_is ends refl) c.in_ok-two_in-in-Line.ensures)
      (ap Ok (sym c.line.ensures)),
  λ known. rw c.in-Line.is (narrower branch_slots (branch_names Line) (codes "substation" ∷ codes "rated_u" ∷ []) found refl known
      (rw (empty_is substation c.in_ok-none_in-in-Line.ensures, empty_is rated c.in_ok-none_in-in-Line-2.ensures) refl)),
)

pub returns-in_ok-substation-in-TwoWindings : goal.returns-in_ok-substation-in-TwoWindings
unfolding shape_at
returns-in_ok-substation-in-TwoWindings c = λ found ends substation rated. (
  rw (
    c.in-TwoWindings.is,
    two_member end_at (codes "ends") (object found) (filled_is ends refl) c.in_ok-ends-in-TwoWindings.ensures,
    filled_is substation c.in_ok-substation-in-TwoWindings.was,
    two_member whole_at (codes "rated_u") (object found) (filled_is rated c.in_ok-rated-in-TwoWindings.was) c.in_ok-voltages-in-TwoWindings.ensures,
    c.two_windings.ensures,
  ) (search rules),
  λ known. rw c.in-TwoWindings.is (narrower branch_slots (branch_names TwoWindings) [] found refl known refl),
)

pub returns-in_ok-substation-in-ThreeWindings : goal.returns-in_ok-substation-in-ThreeWindings
unfolding shape_at
returns-in_ok-substation-in-ThreeWindings c = λ found ends substation rated. (
  rw (
    c.in-ThreeWindings.is,
    three_member end_at (codes "ends") (object found) (filled_is ends refl) c.in_ok-ends-in-ThreeWindings.ensures,
    filled_is substation c.in_ok-substation-in-ThreeWindings.was,
    three_member whole_at (codes "rated_u") (object found) (filled_is rated c.in_ok-rated-in-ThreeWindings.was)
        c.in_ok-voltages-in-ThreeWindings.ensures,
    c.three_windings.ensures,
  ) (search rules),
  λ known. rw c.in-ThreeWindings.is (narrower branch_slots (branch_names ThreeWindings) [] found refl known refl),
)
