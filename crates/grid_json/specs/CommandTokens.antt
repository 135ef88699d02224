-- Commands that are read from tokens, the verb first.
use Rattle.std.specs.Prelude.{◌≡◌, ℕ, ℤ, pos, List, [], ◌∷◌, Option, Some, Ok, true, codes}
use Rattle.json.specs.Token.{Token}
use Rattle.serde_json.specs.Data.{Members, object}
use Rattle.grid_structure.specs.declared.End.{End}
use Rattle.grid_structure.specs.declared.Branch.{Branch}
use Rattle.grid_requests.specs.declared.request.Request.{Request}
use Rattle.grid_json.specs.declared.format.Format.{Format}
use Rattle.grid_json.specs.declared.command.Verb.{Verb}
use Rattle.grid_json.specs.declared.command_tokens.InternalEdit.{InternalEdit}
use Rattle.grid_json.specs.declared.command_tokens.Sided.{Sided}
use Rattle.grid_json.specs.declared.kinds.BranchKind.{BranchKind}
use Rattle.grid_json.specs.Reading.{id_at, whole_at, array_at, member_at, member_or, all_known}
use Rattle.grid_json.specs.Network.{end_at}
use Rattle.grid_json.specs.Command.{verb_at, command_at, shape_at, branch_names}
use Rattle.grid_json.specs.Streams.{Streams, Holds, IsObject, BeginsWith, Led}

-- the tokens begin a command with its verb, and the new tokens are those behind the verb
abbrev pub BeginsCommand : Format → Verb → ℕ → List Token → List Token → Type 0
BeginsCommand format verb depth old new = BeginsWith (verb_at format) (codes "do") depth old new verb

-- behind the verb of a command the tokens are its other members, which have these names, and this holds of all
abbrev pub HoldsBehind : {S : Type 0} → Format → List (List ℕ) → (S → Members → Type 0) → ℕ → List Token → List Token
    → S → Type 0
HoldsBehind format names holds depth left new slots =
    (verb : Verb) (old : List Token) → BeginsCommand format verb depth old left
    → IsObject (Led (verb_at format) (codes "do") verb names holds slots) depth old new

-- the one member of a command behind its verb
abbrev pub IsIdUnder : List ℕ → List ℕ → Members → Type 0
IsIdUnder name id found = member_at id_at name (object found) ≡ Ok id

-- behind this verb the tokens are the rest of the command
abbrev pub Completes : Format → Verb → ℕ → List Token → List Token → Request → Type 0
Completes format verb depth left new request =
    (old : List Token) → BeginsCommand format verb depth old left → Streams (command_at format) depth old new request

-- ---- the members of several verbs

abbrev pub internal_edit_names : List (List ℕ)
internal_edit_names = codes "level" ∷ codes "node1" ∷ codes "node2" ∷ []

abbrev pub IsInternalEdit : InternalEdit → Members → Type 0
IsInternalEdit edit found =
    (member_at id_at (codes "level") (object found) ≡ Ok edit.level)
    × (member_at whole_at (codes "node1") (object found) ≡ Ok edit.node1)
    × (member_at whole_at (codes "node2") (object found) ≡ Ok edit.node2)

abbrev pub sided_names : List (List ℕ)
sided_names = codes "equipment" ∷ codes "side" ∷ []

abbrev pub IsSided : Sided → Members → Type 0
IsSided sided found =
    (member_at id_at (codes "equipment") (object found) ≡ Ok sided.id)
    × (member_or (pos 1) whole_at (codes "side") (object found) ≡ Ok sided.side)

-- ---- branches

-- the members that added branches of all kinds have, and their verb
abbrev pub branch_slots : List (List ℕ)
branch_slots = codes "do" ∷ codes "kind" ∷ codes "id" ∷ codes "ends" ∷ codes "substation" ∷ codes "rated_u" ∷ []

-- what was found is just what a branch of the kind has, and this is the branch
abbrev pub ShapeOf : BranchKind → List End → Option (List ℕ) → Option (List ℤ) → Branch → Type 0
ShapeOf kind ends substation rated shape =
    (found : Members) → Holds (array_at end_at) (codes "ends") found (Some ends)
    → Holds id_at (codes "substation") found substation → Holds (array_at whole_at) (codes "rated_u") found rated
    → (shape_at kind (object found) ≡ Ok shape)
    × (all_known branch_slots found ≡ true → all_known (branch_names kind) found ≡ true)
