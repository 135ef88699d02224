-- Commands that are read from tokens, the verb first.
use Rattle.std.proofs.Common.{◌≡◌, ℕ, List, [], ◌∷◌, true, Option, Some, None, Result, Ok, Err, refl, ap, ◌∙◌}
use Rattle.std.specs.Prelude.{IfSome, codes, if◌then◌else◌}
use Rattle.json.specs.Token.{Token}
use Rattle.serde_json.specs.Data.{Members, object}
use Rattle.grid_requests.specs.declared.request.Request.{Request}
use Rattle.grid_json.specs.declared.fault.Reason.TheVariants.{Unknown}
use Rattle.grid_json.specs.declared.format.Format.{Format}
use Rattle.grid_json.specs.declared.command.Verb.{Verb}
use Rattle.grid_json.specs.Reading.{here, id_at, member_at, all_known, only_at}
use Rattle.grid_json.specs.Command.{verb_at, plain_names, command_names, request_at, command_at}
use Rattle.grid_json.specs.Streams.{Streams, Holds, IsObject, Led}
use Rattle.grid_json.specs.CommandTokens.{BeginsCommand, Completes, HoldsBehind, IsIdUnder}
use Rattle.grid_json.proofs.Absent.{covers, narrower}
use Rattle.grid_json.proofs.MemberSlots.{filled_is}

-- an object whose members are those of its verb is the command
pub command_is : (format : Format) (verb : Verb) (found : Members) (request : Request)
    → member_at (verb_at format) (codes "do") (object found) ≡ Ok verb → plain_names verb (object found) ≡ Ok tt
    → request_at format verb (object found) ≡ Ok request → command_at format (object found) ≡ Ok request
unfolding command_at
command_is format verb found request led plain is = rw (led, plain, is) refl

-- members whose names are all among these are no others
pub only_these : (names kept : List (List ℕ)) (found : Members) → all_known names found ≡ true
    → covers names kept [] ≡ true → only_at kept (object found) ≡ Ok tt
only_these names kept found known all =
    ap (λ b. if b then Ok tt else Err (here Unknown)) (narrower names kept [] found all known refl)

-- a verb without a kind, and what holds its members, are the command
pub completes : {S : Type 0} (format : Format) (given verb : Verb) (names : List (List ℕ)) (holds : S → Members → Type 0)
    (depth : ℕ) (left new : List Token) (slots : S) (request : Request) → given ≡ verb
    → HoldsBehind format names holds depth left new slots
    → ((found : Members) → plain_names verb (object found) ≡ only_at (command_names verb) (object found))
    → covers (codes "do" ∷ names) (command_names verb) [] ≡ true
    → ((found : Members) → holds slots found → request_at format verb (object found) ≡ Ok request)
    → Completes format given depth left new request
completes format given verb names holds depth left new slots request same held plain all is = λ old begins.
    let read = held verb old (rw same at begins) in
    let found = read.0 in (
      object found,
      read.1,
      command_is format verb found request read.2.0
          (plain found ∙ only_these (codes "do" ∷ names) (command_names verb) found read.2.1 all) (is found read.2.2),
    )

-- the slot of a lone id is the id's member
pub lone_held : (format : Format) (name : List ℕ) (depth : ℕ) (left new : List Token) (slot : Option (List ℕ))
    → ((verb : Verb) (old : List Token) → BeginsCommand format verb depth old left
    → IsObject (λ found. (member_at (verb_at format) (codes "do") (object found) ≡ Ok verb)
    × (all_known (codes "do" ∷ name ∷ []) found ≡ true) × Holds id_at name found slot) depth old new)
    → IfSome slot (HoldsBehind format (name ∷ []) (IsIdUnder name) depth left new)
lone_held format name depth left new None held = tt
lone_held format name depth left new (Some id) held = λ verb old begins.
    let read = held verb old begins in
    (read.0, read.1, (read.2.0, read.2.1, filled_is read.2.2 refl))

-- a command that was begun and completed
pub command_read : (format : Format) (verb : Verb) (depth : ℕ) (old left new : List Token) (request : Option Request)
    → BeginsCommand format verb depth old left → IfSome request (Completes format verb depth left new)
    → IfSome request (Streams (command_at format) depth old new)
command_read format verb depth old left new None begins rest = tt
command_read format verb depth old left new (Some request) begins rest = rest old begins
