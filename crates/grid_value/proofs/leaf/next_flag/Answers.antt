use Rattle.std.proofs.Common.{◌≡◌, [], ◌∷◌, ap, ◌∙◌, arith}
use Rattle.json.specs.Reads.{token_of}
use Rattle.json.specs.Token as json
use Rattle.serde_json.specs.Find.{as_bool}
use Rattle.grid_value.specs.Leaves.{of_leaf}
use Rattle.grid_value.proofs.Leaves.{flag_is, no_token, no_flag}
use Rattle.grid_value.proofs.leaf.next_flag.Goals as goal

pub returns-in_err-flag-clause-other : goal.returns-in_err-flag-clause-other
returns-in_err-flag-clause-other c refused =
    let none : c.args.reader.now ≡ [] = grind arith in
    ap (of_leaf as_bool) none ∙ no_token as_bool

pub returns-in-Bool-clause-flag : goal.returns-in-Bool-clause-flag
returns-in-Bool-clause-flag c =
    let first : c.args.reader.now ≡ json.boolean c.in-Bool.flag ∷ c.next.new.self = grind arith in
    flag_is _ _ _ first

pub returns-in_default : goal.returns-in_default
returns-in_default c =
    let first : c.args.reader.now ≡ token_of c.in_ok-flag.field-0 ∷ c.next.new.self = grind arith in
    record { flag = tt; other = λ refused. ap (of_leaf as_bool) first ∙ no_flag _ _ c.in_default.not-Bool; shorter = tt }
