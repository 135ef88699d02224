use Rattle.std.proofs.Common.{[], ◌∷◌, refl, ap, rules}
use Rattle.std.specs.Prelude.{codes}
use Rattle.grid_json.specs.declared.command.EditVerb.TheVariants as edits
use Rattle.grid_json.specs.declared.command.Verb.TheVariants.{Change}
use Rattle.grid_json.specs.Command.{request_at, edit_at, named_at, add_internal_at, remove_internal_at}
use Rattle.grid_json.specs.CommandTokens.{IsIdUnder, IsInternalEdit, internal_edit_names}
use Rattle.grid_json.proofs.CommandTokens.{completes}
use Rattle.grid_json.proofs.command_tokens.edit_behind.Goals as goal

pub returns-in_ok-id-in-AddSubstation-clause-edit : goal.returns-in_ok-id-in-AddSubstation-clause-edit
unfolding request_at edit_at named_at
returns-in_ok-id-in-AddSubstation-clause-edit c =
    completes c.args.format (Change c.args.verb) (Change edits.AddSubstation) (codes "id" ∷ [])
    (IsIdUnder (codes "id")) c.args.depth c.args.reader.now _ _ _
    (ap Change c.in-AddSubstation.is) c.in_ok-id-in-AddSubstation.ensures.id
    (λ found. refl) refl (λ found is. rw is refl)

pub returns-in_ok-id-in-RemoveSwitch-clause-edit : goal.returns-in_ok-id-in-RemoveSwitch-clause-edit
unfolding request_at edit_at named_at
returns-in_ok-id-in-RemoveSwitch-clause-edit c =
    completes c.args.format (Change c.args.verb) (Change edits.RemoveSwitch) (codes "id" ∷ [])
    (IsIdUnder (codes "id")) c.args.depth c.args.reader.now _ _ _
    (ap Change c.in-RemoveSwitch.is) c.in_ok-id-in-RemoveSwitch.ensures.id
    (λ found. refl) refl (λ found is. rw is refl)

pub returns-in_ok-id-in-RemoveEquipment-clause-edit : goal.returns-in_ok-id-in-RemoveEquipment-clause-edit
unfolding request_at edit_at named_at
returns-in_ok-id-in-RemoveEquipment-clause-edit c =
    completes c.args.format (Change c.args.verb) (Change edits.RemoveEquipment) (codes "id" ∷ [])
    (IsIdUnder (codes "id")) c.args.depth c.args.reader.now _ _ _
    (ap Change c.in-RemoveEquipment.is) c.in_ok-id-in-RemoveEquipment.ensures.id
    (λ found. refl) refl (λ found is. rw is refl)

pub returns-in_ok-internal-in-AddInternal-clause-edit : goal.returns-in_ok-internal-in-AddInternal-clause-edit
unfolding request_at edit_at add_internal_at
returns-in_ok-internal-in-AddInternal-clause-edit c =
    completes c.args.format (Change c.args.verb) (Change edits.AddInternal) internal_edit_names
    IsInternalEdit c.args.depth c.args.reader.now _ _ _
    (ap Change c.in-AddInternal.is) c.in_ok-internal-in-AddInternal.ensures.edit
    (λ found. refl) refl (λ found is. rw (is.0, is.1, is.2) (search rules))

pub returns-in_ok-internal-in-RemoveInternal-clause-edit : goal.returns-in_ok-internal-in-RemoveInternal-clause-edit
unfolding request_at edit_at remove_internal_at
returns-in_ok-internal-in-RemoveInternal-clause-edit c =
    completes c.args.format (Change c.args.verb) (Change edits.RemoveInternal) internal_edit_names
    IsInternalEdit c.args.depth c.args.reader.now _ _ _
    (ap Change c.in-RemoveInternal.is) c.in_ok-internal-in-RemoveInternal.ensures.edit
    (λ found. refl) refl (λ found is. rw (is.0, is.1, is.2) (search rules))
