use Rattle.grid_json.specs.declared.fault.Reason.TheVariants.{Unknown}
use Rattle.grid_json.specs.Kinds.{injection_kind_at}
use Rattle.grid_json.proofs.Leaves.{text_streams}
use Rattle.grid_json.proofs.tokens.InjectionKindFromTokens.from_tokens.Goals as goal

pub returns-clause-read : goal.returns-clause-read
returns-clause-read c =
    let next = c.in_ok-next_text in
    text_streams c.args._depth c.args.reader.now c.next_text.new.reader (injection_kind_at c.args.format) next.field-0.now c.injection_kind_of.result Unknown next.ensures.text c.injection_kind_of.ensures
