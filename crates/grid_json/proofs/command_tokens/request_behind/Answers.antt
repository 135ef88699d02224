use Rattle.std.proofs.Common.{refl, rules}
use Rattle.grid_json.specs.declared.command.Verb.TheVariants as verbs
use Rattle.grid_json.specs.Command.{request_at, sided_at}
use Rattle.grid_json.specs.CommandTokens.{IsSided, sided_names}
use Rattle.grid_json.proofs.CommandTokens.{completes}
use Rattle.grid_json.proofs.command_tokens.request_behind.Goals as goal

pub returns-in_ok-sided-in-Connect-clause-request : goal.returns-in_ok-sided-in-Connect-clause-request
unfolding request_at sided_at
returns-in_ok-sided-in-Connect-clause-request c =
    completes c.args.format c.args.verb verbs.Connect sided_names IsSided c.args.depth c.args.reader.now _ _ _
    c.in-Connect.is c.in_ok-sided-in-Connect.ensures.sided (λ found. refl) refl (λ found is. rw (is.0, is.1) (search rules))

pub returns-in_ok-sided-in-Disconnect-clause-request : goal.returns-in_ok-sided-in-Disconnect-clause-request
unfolding request_at sided_at
returns-in_ok-sided-in-Disconnect-clause-request c =
    completes c.args.format c.args.verb verbs.Disconnect sided_names IsSided c.args.depth c.args.reader.now _ _ _
    c.in-Disconnect.is c.in_ok-sided-in-Disconnect.ensures.sided (λ found. refl) refl (λ found is. rw (is.0, is.1) (search rules))
