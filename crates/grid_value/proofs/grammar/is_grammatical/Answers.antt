use Rattle.std.proofs.Common.{◌≡◌, List, [], ◌∷◌, Some, None, sym, ap, ◌∙◌, rules}
use Rattle.std.specs.Prelude.{is_some}
use Rattle.json.specs.Lex.{tokens}
use Rattle.json.specs.Json.{skip_value, value}
use Rattle.grid_value.proofs.Texts.{alone, spelled_text, spelled_none, not_spelled, alone_refused, alone_passed, alone_longer}
use Rattle.grid_value.proofs.grammar.is_grammatical.Goals as goal

pub returns-in_default-clause-grammar : goal.returns-in_default-clause-grammar
returns-in_default-clause-grammar c = sym (ap is_some (spelled_none c.args.bytes.now (λ text. absurd (c.in_default.ensures.cases.0 text))))

pub returns-in_default-clause-broken : goal.returns-in_default-clause-broken
returns-in_default-clause-broken c = λ _. not_spelled c.args.bytes.now (spelled_none c.args.bytes.now (λ text. absurd (c.in_default.ensures.cases.0 text)))

pub returns-in_default-skip_value-clause-grammar : goal.returns-in_default-skip_value-clause-grammar
returns-in_default-skip_value-clause-grammar c =
    let from : c.in_ok-reader.reader ≡ tokens c.in-Ok.text.now = grind rules in
    let none : skip_value 127 (tokens c.in-Ok.text.now) ≡ None = rw (← from) c.in_default-skip_value.ensures.value in
    sym (ap is_some (spelled_none c.args.bytes.now (λ _. ap (λ t. alone (value 127 (tokens t))) (sym c.in-Ok.ensures.cases.0) ∙ alone_refused (value 127 (tokens c.in-Ok.text.now)) none)))

pub returns-in_default-skip_value-clause-broken : goal.returns-in_default-skip_value-clause-broken
returns-in_default-skip_value-clause-broken c = λ _.
    let from : c.in_ok-reader.reader ≡ tokens c.in-Ok.text.now = grind rules in
    let none : skip_value 127 (tokens c.in-Ok.text.now) ≡ None = rw (← from) c.in_default-skip_value.ensures.value in
    not_spelled c.args.bytes.now (spelled_none c.args.bytes.now (λ _. ap (λ t. alone (value 127 (tokens t))) (sym c.in-Ok.ensures.cases.0) ∙ alone_refused (value 127 (tokens c.in-Ok.text.now)) none))

pub returns-in-None-clause-grammar : goal.returns-in-None-clause-grammar
returns-in-None-clause-grammar c =
    let from : c.in_ok-reader.reader ≡ tokens c.in-Ok.text.now = grind rules in
    let passed : skip_value 127 (tokens c.in-Ok.text.now) ≡ Some c.skip_value.new.self = rw (← from) c.in-Ok-skip_value.ensures.value in
    let text = c.in-Ok.ensures.cases in
    sym (ap is_some (spelled_text c.args.bytes.now text.1 ∙ ap (λ t. alone (value 127 (tokens t))) (sym text.0)) ∙ alone_passed (value 127 (tokens c.in-Ok.text.now)) c.skip_value.new.self passed c.in-None.ensures.value.0)

longer : {A : Type 0} (ts rest : List A) (t : A) → ts ≡ t ∷ rest → ts ≡ [] → ⊥
longer [] rest t is none = cc
longer (u ∷ ts) rest t is none = cc

pub returns-in-Some-clause-grammar : goal.returns-in-Some-clause-grammar
returns-in-Some-clause-grammar c =
    let from : c.in_ok-reader.reader ≡ tokens c.in-Ok.text.now = grind rules in
    let passed : skip_value 127 (tokens c.in-Ok.text.now) ≡ Some c.skip_value.new.self = rw (← from) c.in-Ok-skip_value.ensures.value in
    let more = longer c.skip_value.new.self _ _ c.in-Some.ensures.value in
    sym (ap is_some (spelled_none c.args.bytes.now (λ _. ap (λ t. alone (value 127 (tokens t))) (sym c.in-Ok.ensures.cases.0) ∙ alone_longer (value 127 (tokens c.in-Ok.text.now)) c.skip_value.new.self passed more)))

pub returns-in-Some-clause-broken : goal.returns-in-Some-clause-broken
returns-in-Some-clause-broken c = λ _.
    let from : c.in_ok-reader.reader ≡ tokens c.in-Ok.text.now = grind rules in
    let passed : skip_value 127 (tokens c.in-Ok.text.now) ≡ Some c.skip_value.new.self = rw (← from) c.in-Ok-skip_value.ensures.value in
    let more = longer c.skip_value.new.self _ _ c.in-Some.ensures.value in
    not_spelled c.args.bytes.now (spelled_none c.args.bytes.now (λ _. ap (λ t. alone (value 127 (tokens t))) (sym c.in-Ok.ensures.cases.0) ∙ alone_longer (value 127 (tokens c.in-Ok.text.now)) c.skip_value.new.self passed more))
