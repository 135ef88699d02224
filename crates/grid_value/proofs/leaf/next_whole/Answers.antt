use Rattle.std.proofs.Common.{◌≡◌, [], ◌∷◌, sym, ap, ◌∙◌, arith}
use Rattle.json.specs.Reads.{token_of}
use Rattle.json.specs.Token as json
use Rattle.grid_value.specs.Leaves.{of_leaf, whole_of}
use Rattle.grid_value.proofs.Leaves.{whole_is, no_token, no_number, no_whole}
use Rattle.grid_value.proofs.leaf.next_whole.Goals as goal

pub returns-in_err-text-clause-other : goal.returns-in_err-text-clause-other
returns-in_err-text-clause-other c refused =
    let none : c.args.reader.now ≡ [] = grind arith in
    ap (of_leaf whole_of) none ∙ no_token whole_of

pub returns-in-Number-clause-whole : goal.returns-in-Number-clause-whole
returns-in-Number-clause-whole c =
    let first : c.args.reader.now ≡ json.number c.in-Number.text.now ∷ c.next.new.self = grind arith in
    whole_is _ _ _ _ first c.parse_i64.ensures

pub returns-in-Number-clause-other : goal.returns-in-Number-clause-other
returns-in-Number-clause-other c refused =
    let first : c.args.reader.now ≡ json.number c.in-Number.text.now ∷ c.next.new.self = grind arith in
    no_whole _ _ _ first (sym refused ∙ c.parse_i64.ensures)

pub returns-in_default : goal.returns-in_default
returns-in_default c =
    let first : c.args.reader.now ≡ token_of c.in_ok-text.field-0 ∷ c.next.new.self = grind arith in
    record { whole = tt; other = λ refused. ap (of_leaf whole_of) first ∙ no_number _ _ c.in_default.not-Number; shorter = tt }
