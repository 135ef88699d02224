use Rattle.std.proofs.Common.{[], ◌∷◌, refl}
use Rattle.std.specs.Prelude.{codes}
use Rattle.serde_json.specs.Data.{object}
use Rattle.grid_json.specs.declared.command.Verb.TheVariants.{Totals}
use Rattle.grid_json.specs.Command.{command_names, request_at}
use Rattle.grid_json.proofs.CommandTokens.{command_is, only_these}
use Rattle.grid_json.proofs.command_tokens.totals.Goals as goal

pub returns-clause-request : goal.returns-clause-request
unfolding request_at
returns-clause-request c = λ old begins.
    let read = c.in_ok-behind_verb.ensures.slots Totals old begins in (
      object read.0,
      read.1,
      command_is c.args.format Totals read.0 _ read.2.0 (only_these (codes "do" ∷ []) (command_names Totals) read.0 read.2.1 refl) refl,
    )
