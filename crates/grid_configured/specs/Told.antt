-- Replies of the node/breaker form, told of configured buses.
use Rattle.std.specs.Prelude.{◌≡◌, ℕ, Bool, true, false, List, IsTrue}
use Rattle.grid_requests.specs.declared.request.Request.{Request}
use Rattle.grid_requests.specs.declared.request.Request.TheVariants as requests
use Rattle.grid_core.specs.declared.reply.Reply.{Reply}
use Rattle.grid_core.specs.declared.reply.Reply.TheVariants as replies
use Rattle.grid_core.specs.declared.reply.Refusal.TheVariants as refusals
use Rattle.grid_configured.specs.declared.reply.ConfiguredReply.{ConfiguredReply}
use Rattle.grid_configured.specs.declared.reply.ConfiguredReply.TheVariants.{Done, Unchanged, AlreadyConnected, AlreadyDisconnected, Created, Overwritten, Refused}

-- a terminal's breaker that was closed or opened is a terminal that was connected or disconnected
unfoldable pub told_reply : Reply → ConfiguredReply
told_reply replies.Unchanged = Unchanged
told_reply replies.AlreadyConnected = AlreadyConnected
told_reply replies.AlreadyDisconnected = AlreadyDisconnected
told_reply replies.Created = Created
told_reply replies.Overwritten = Overwritten
told_reply (replies.Refused refusal) = Refused refusal
told_reply other = Done

-- where a terminal of a bus is asked for in a variant that is live or not: a bus has none
unfoldable pub bus_refusal : Bool → ConfiguredReply
bus_refusal true = Refused refusals.NoEquipment
bus_refusal false = Refused refusals.NoVariant

-- a request that connects or disconnects a terminal of this equipment
abbrev pub IsTerminalAsked : List ℕ → Request → Type 0
IsTerminalAsked id (requests.Connect asked side) = id ≡ asked
IsTerminalAsked id (requests.Disconnect asked side) = id ≡ asked
IsTerminalAsked id other = ⊥

-- neither that nor a request for a view
unfoldable pub is_passed : Request → Bool
is_passed (requests.Connect id side) = false
is_passed (requests.Disconnect id side) = false
is_passed (requests.BusView level) = false
is_passed other = true

abbrev pub IsPassed : Request → Type 0
IsPassed request = IsTrue (is_passed request)
