use Rattle.std.proofs.Common.{◌≡◌, [], Some, refl, sym, ap, ◌∙◌, arith, rules}
use Rattle.json.specs.Lex.{tokens}
use Rattle.json.specs.Json.{value}
use Rattle.grid_value.specs.Bytes.{reading}
use Rattle.grid_value.proofs.Texts.{reading_some}
use Rattle.grid_value.proofs.Turns.{whole, whole_some}
use Rattle.grid_json.specs.Whole.{draft_of}
use Rattle.grid_json.proofs.stream.stream_draft.Goals as goal

pub returns-clause-draft : goal.returns-clause-draft
unfolding draft_of
returns-clause-draft c =
    let text = c.in-Ok.ensures.cases in
    let from : c.in-Ok-new.reader ≡ tokens c.in-Ok.text.now = grind arith in
    let end : c.next_draft.new.reader ≡ [] = search rules in
    let read = c.in-Some.ensures.draft in
    let next = rw (from, end) at read.1 in
    let is : reading c.args.bytes.now ≡ Some read.0 =
    reading_some c.args.bytes.now read.0 text.1 (ap (λ t. whole (value 127 (tokens t))) (sym text.0) ∙ whole_some (value 127 (tokens c.in-Ok.text.now)) read.0 next) in
    rw (is, read.2) refl
