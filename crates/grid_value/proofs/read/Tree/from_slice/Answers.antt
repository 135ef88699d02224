use Rattle.std.proofs.Common.{◌≡◌, List, [], ◌∷◌, Option, Some, None, true, true≢false, sym, ap, ◌∙◌, arith, rules}
use Rattle.std.specs.Prelude.{MatchOption, is_some}
use Rattle.json.specs.Token.{Token}
use Rattle.json.specs.declared.token.Token.{Token as NextToken}
use Rattle.json.specs.Lex.{tokens}
use Rattle.json.specs.Json.{value}
use Rattle.json.specs.Reads.{token_of}
use Rattle.grid_value.specs.View.{data_at}
use Rattle.grid_value.proofs.MemberLists.{grown_alone}
use Rattle.grid_value.proofs.Texts.{reading_some, reading_none}
use Rattle.grid_value.proofs.Turns.{whole, whole_some, whole_longer, whole_none}
use Rattle.grid_value.proofs.read.Tree.from_slice.Goals as goal

more_come : (old new : List Token) (next : Option NextToken) → MatchOption next ((old ≡ []) × (new ≡ [])) (λ t. old ≡ token_of t ∷ new) → is_some next ≡ true → old ≡ [] → ⊥
more_come old new None is some none = true≢false (sym some)
more_come old new (Some t) is some none = cc

pub returns-in_default-clause-not_json : goal.returns-in_default-clause-not_json
returns-in_default-clause-not_json c = λ _. reading_none c.args.bytes.now (λ text. absurd (c.in_default.ensures.cases.0 text))

pub returns-in_err-read-clause-not_json : goal.returns-in_err-read-clause-not_json
returns-in_err-read-clause-not_json c refused =
    let text = c.in-Ok.ensures.cases.0 in
    let from : c.in_ok-reader.reader ≡ tokens c.in-Ok.text.now = grind rules in
    let none = c.read.ensures.err (grind arith) in
    reading_none c.args.bytes.now (λ _. ap (λ t. whole (value 127 (tokens t))) (sym text) ∙ whole_none (value 127 (tokens c.in-Ok.text.now)) (rw from at none))

pub returns-then-is_some-clause-not_json : goal.returns-then-is_some-clause-not_json
returns-then-is_some-clause-not_json c refused =
    let text = c.in-Ok.ensures.cases.0 in
    let from : c.in_ok-reader.reader ≡ tokens c.in-Ok.text.now = grind rules in
    let none : c.in_ok-nodes.nodes.items ≡ [] = search rules in
    let read = grown_alone _ c.read.new.reader none c.in_ok-read.ensures.ok in
    reading_none c.args.bytes.now (λ _. ap (λ t. whole (value 127 (tokens t))) (sym text) ∙ whole_longer (value 127 (tokens c.in-Ok.text.now)) (data_at c.read.new.nodes.items) c.read.new.reader (rw from at read) (more_come c.read.new.reader c.next.new.self c.next.result c.next.ensures.value (sym c.is_some.ensures ∙ c.if-is_some.true)))

pub returns-clause-ok : goal.returns-clause-ok
returns-clause-ok c =
    let text = c.in-Ok.ensures.cases in
    let from : c.in_ok-reader.reader ≡ tokens c.in-Ok.text.now = grind rules in
    let end : c.read.new.reader ≡ [] = search rules in
    let none : c.in_ok-nodes.nodes.items ≡ [] = search rules in
    let read = grown_alone _ c.read.new.reader none c.in_ok-read.ensures.ok in
    reading_some c.args.bytes.now (data_at c.read.new.nodes.items) text.1
    (ap (λ t. whole (value 127 (tokens t))) (sym text.0) ∙ whole_some (value 127 (tokens c.in-Ok.text.now)) (data_at c.read.new.nodes.items) (rw (from, end) at read))
