use Rattle.std.proofs.Common.{◌≡◌, [], ◌∷◌, ap, ◌∙◌, arith}
use Rattle.json.specs.Reads.{token_of}
use Rattle.json.specs.Token as json
use Rattle.serde_json.specs.Find.{as_str}
use Rattle.grid_value.specs.Leaves.{of_leaf}
use Rattle.grid_value.proofs.Leaves.{text_is, no_token, no_text}
use Rattle.grid_value.proofs.leaf.next_text.Goals as goal

pub returns-in_err-text-clause-other : goal.returns-in_err-text-clause-other
returns-in_err-text-clause-other c refused =
    let none : c.args.reader.now ≡ [] = grind arith in
    ap (of_leaf as_str) none ∙ no_token as_str

pub returns-in-String-clause-text : goal.returns-in-String-clause-text
returns-in-String-clause-text c =
    let first : c.args.reader.now ≡ json.string c.in-String.text.now ∷ c.next.new.self = grind arith in
    text_is _ _ _ first

pub returns-in_default : goal.returns-in_default
returns-in_default c =
    let first : c.args.reader.now ≡ token_of c.in_ok-text.field-0 ∷ c.next.new.self = grind arith in
    record { text = tt; other = λ refused. ap (of_leaf as_str) first ∙ no_text _ _ c.in_default.not-String; shorter = tt }
