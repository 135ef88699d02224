use Rattle.std.proofs.Common.{◌≡◌, [], ◌∷◌, Some, None, sym, ap, ◌∙◌, arith}
use Rattle.json.specs.Token.{Token}
use Rattle.json.specs.Json.{value}
use Rattle.json.specs.Reads.{token_of}
use Rattle.json.proofs.Grammar.{value_is}
use Rattle.serde_json.specs.Read.{of_json, converted}
use Rattle.grid_value.proofs.value.Value.next_leaf.Goals as goal

pub returns-in-String-clause-leaf : goal.returns-in-String-clause-leaf
returns-in-String-clause-leaf c = λ depth.
    let first : c.args.reader.now ≡ Token.string c.in-String.text.now ∷ c.next.new.self = grind arith in
    ap (λ ts. converted of_json (value depth ts)) first ∙ ap (converted of_json) (value_is depth _) ∙ ap (λ d. Some (d, c.next.new.self)) (sym c.leaf.ensures)

pub returns-in_ok-parse-in-Number-clause-leaf : goal.returns-in_ok-parse-in-Number-clause-leaf
returns-in_ok-parse-in-Number-clause-leaf c = λ depth.
    let read = c.in_ok-parse-in-Number in
    let first : c.args.reader.now ≡ Token.number c.in-Number.text.now ∷ c.next.new.self = grind arith in
    ap (λ ts. converted of_json (value depth ts)) first ∙ ap (converted of_json) (value_is depth _) ∙ rw (← read.ensures) (ap (λ d. Some (d, c.next.new.self)) (sym c.leaf-in-Number.ensures))

pub returns-in-Bool-clause-leaf : goal.returns-in-Bool-clause-leaf
returns-in-Bool-clause-leaf c = λ depth.
    let first : c.args.reader.now ≡ Token.boolean c.in-Bool.flag ∷ c.next.new.self = grind arith in
    ap (λ ts. converted of_json (value depth ts)) first ∙ ap (converted of_json) (value_is depth _) ∙ ap (λ d. Some (d, c.next.new.self)) (sym c.leaf-in-Bool.ensures)

pub returns-in-Null-clause-leaf : goal.returns-in-Null-clause-leaf
returns-in-Null-clause-leaf c = λ depth.
    let first : c.args.reader.now ≡ Token.null ∷ c.next.new.self = grind arith in
    ap (λ ts. converted of_json (value depth ts)) first ∙ ap (converted of_json) (value_is depth _) ∙ ap (λ d. Some (d, c.next.new.self)) (sym c.leaf-in-Null.ensures)

-- ---- no value

pub returns-in_err-text-clause-other : goal.returns-in_err-text-clause-other
returns-in_err-text-clause-other c refused =
    let none : c.args.reader.now ≡ [] = grind arith in
    ap (λ ts. converted of_json (value 0 ts)) none ∙ ap (converted of_json) (value_is 0 [])

pub returns-in_err-parse-in-Number-clause-other : goal.returns-in_err-parse-in-Number-clause-other
returns-in_err-parse-in-Number-clause-other c refused =
    let first : c.args.reader.now ≡ Token.number c.in-Number.text.now ∷ c.next.new.self = grind arith in
    ap (λ ts. converted of_json (value 0 ts)) first ∙ ap (converted of_json) (value_is 0 _) ∙ rw (← c.parse.ensures) (grind arith)

pub returns-in-BeginArray-clause-other : goal.returns-in-BeginArray-clause-other
returns-in-BeginArray-clause-other c refused =
    let first : c.args.reader.now ≡ token_of c.in_ok-text.field-0 ∷ c.next.new.self = grind arith in
    let none : value 0 c.args.reader.now ≡ None = rw (value_is 0 c.args.reader.now, first) (grind arith) in
    ap (converted of_json) none

pub returns-in-EndObject-clause-other : goal.returns-in-EndObject-clause-other
returns-in-EndObject-clause-other c refused =
    let first : c.args.reader.now ≡ token_of c.in_ok-text.field-0 ∷ c.next.new.self = grind arith in
    let none : value 0 c.args.reader.now ≡ None = rw (value_is 0 c.args.reader.now, first) (grind arith) in
    ap (converted of_json) none
