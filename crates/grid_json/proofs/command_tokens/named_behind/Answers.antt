use Rattle.std.proofs.Common.{[], ◌∷◌, refl}
use Rattle.std.specs.Prelude.{codes}
use Rattle.grid_json.specs.declared.command.Verb.TheVariants as verbs
use Rattle.grid_json.specs.Command.{request_at, named_at}
use Rattle.grid_json.specs.CommandTokens.{IsIdUnder}
use Rattle.grid_json.proofs.CommandTokens.{completes}
use Rattle.grid_json.proofs.command_tokens.named_behind.Goals as goal

pub returns-in_ok-lone_id-in-Use-clause-request : goal.returns-in_ok-lone_id-in-Use-clause-request
unfolding request_at named_at
returns-in_ok-lone_id-in-Use-clause-request c =
    completes c.args.format c.args.verb verbs.Use (codes "variant" ∷ []) (IsIdUnder (codes "variant")) c.args.depth
    c.args.reader.now _ _ _ c.in-Use.is c.in_ok-lone_id-in-Use.ensures.id (λ found. refl) refl (λ found is. rw is refl)

pub returns-in_ok-lone_id-in-Remove-clause-request : goal.returns-in_ok-lone_id-in-Remove-clause-request
unfolding request_at named_at
returns-in_ok-lone_id-in-Remove-clause-request c =
    completes c.args.format c.args.verb verbs.Remove (codes "variant" ∷ []) (IsIdUnder (codes "variant")) c.args.depth
    c.args.reader.now _ _ _ c.in-Remove.is c.in_ok-lone_id-in-Remove.ensures.id (λ found. refl) refl (λ found is. rw is refl)

pub returns-in_ok-lone_id-in-Open-clause-request : goal.returns-in_ok-lone_id-in-Open-clause-request
unfolding request_at named_at
returns-in_ok-lone_id-in-Open-clause-request c =
    completes c.args.format c.args.verb verbs.Open (codes "switch" ∷ []) (IsIdUnder (codes "switch")) c.args.depth
    c.args.reader.now _ _ _ c.in-Open.is c.in_ok-lone_id-in-Open.ensures.id (λ found. refl) refl (λ found is. rw is refl)

pub returns-in_ok-lone_id-in-Close-clause-request : goal.returns-in_ok-lone_id-in-Close-clause-request
unfolding request_at named_at
returns-in_ok-lone_id-in-Close-clause-request c =
    completes c.args.format c.args.verb verbs.Close (codes "switch" ∷ []) (IsIdUnder (codes "switch")) c.args.depth
    c.args.reader.now _ _ _ c.in-Close.is c.in_ok-lone_id-in-Close.ensures.id (λ found. refl) refl (λ found is. rw is refl)

pub returns-in_ok-lone_id-in-BusBreakerView-clause-request : goal.returns-in_ok-lone_id-in-BusBreakerView-clause-request
unfolding request_at named_at
returns-in_ok-lone_id-in-BusBreakerView-clause-request c =
    completes c.args.format c.args.verb verbs.BusBreakerView (codes "level" ∷ []) (IsIdUnder (codes "level")) c.args.depth
    c.args.reader.now _ _ _ c.in-BusBreakerView.is c.in_ok-lone_id-in-BusBreakerView.ensures.id (λ found. refl) refl (λ found is. rw is refl)

pub returns-in_ok-lone_id-in-BusView-clause-request : goal.returns-in_ok-lone_id-in-BusView-clause-request
unfolding request_at named_at
returns-in_ok-lone_id-in-BusView-clause-request c =
    completes c.args.format c.args.verb verbs.BusView (codes "level" ∷ []) (IsIdUnder (codes "level")) c.args.depth
    c.args.reader.now _ _ _ c.in-BusView.is c.in_ok-lone_id-in-BusView.ensures.id (λ found. refl) refl (λ found is. rw is refl)

pub returns-in_ok-lone_id-in-Components-clause-request : goal.returns-in_ok-lone_id-in-Components-clause-request
unfolding request_at named_at
returns-in_ok-lone_id-in-Components-clause-request c =
    completes c.args.format c.args.verb verbs.Components (codes "level" ∷ []) (IsIdUnder (codes "level")) c.args.depth
    c.args.reader.now _ _ _ c.in-Components.is c.in_ok-lone_id-in-Components.ensures.id (λ found. refl) refl (λ found is. rw is refl)
