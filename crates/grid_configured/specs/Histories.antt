-- Histories of a network with configured buses: what stands after a list of steps, and the reply to the next one.
-- A list of steps has the newest first. Live names and working names are those of every network.
use Rattle.std.specs.Prelude.{ℕ, if◌then◌else◌, Option, List, [], ◌∷◌, All, IsTrue}
use Rattle.grid_requests.specs.declared.request.Request.{Request}
use Rattle.grid_requests.specs.declared.request.Request.TheVariants as requests
use Rattle.grid_core.specs.declared.reply.Reply.{Reply}
use Rattle.grid_core.specs.declared.reply.Reply.TheVariants as replies
use Rattle.grid_core.specs.declared.reply.Refusal.TheVariants as refusals
use Rattle.grid_core.specs.History.{Command, live, is_live, working, switches_on, source_of}
use Rattle.grid_core.specs.Replies.{use_reply, clone_reply, remove_reply}
use Rattle.grid_configured.specs.declared.network.ConfiguredNetwork.{ConfiguredNetwork}
use Rattle.grid_configured.specs.declared.view.ConfiguredView.{ConfiguredView}
use Rattle.grid_configured.specs.declared.reply.ConfiguredReply.{ConfiguredReply}
use Rattle.grid_configured.specs.declared.reply.ConfiguredReply.TheVariants.{Done, Created, Overwritten, Refused}
use Rattle.grid_configured.specs.Names.{request_plain}
use Rattle.grid_configured.specs.Machine.{Flags, machine, after, view_under}

pub record ConfiguredHistory : Type 0 where
  pub network : ConfiguredNetwork
  pub workers : ℕ
  pub steps : List Command

-- a history with one step more
abbrev pub longer : ConfiguredHistory → Command → ConfiguredHistory
longer history step = record history { steps = step ∷ history.steps }

-- a history with no step
abbrev pub begun : ConfiguredNetwork → ℕ → ConfiguredHistory
begun network workers = record { network = network; workers = workers; steps = [] }

-- the requests that made a variant, the newest first: those that switch or connect in it, and before an accepted clone into it
-- those of the clone's source
unfoldable pub lineage : List Command → List ℕ → List Request
lineage [] v = []
lineage (step ∷ before) v =
    let rest = lineage before (source_of before step.request v) in
    if switches_on before step v then step.request ∷ rest else rest

-- the flags that its lineage left a variant
unfoldable pub flags_of : ConfiguredNetwork → List Command → List ℕ → Flags
flags_of network before v = after network (lineage before v)

-- ---- replies

-- the reply to a request on variants
unfoldable pub variant_reply : Reply → ConfiguredReply
variant_reply replies.Created = Created
variant_reply replies.Overwritten = Overwritten
variant_reply (replies.Refused refusal) = Refused refusal
variant_reply other = Done

-- what the machine of v answers, where v is live
unfoldable pub reply_on : ConfiguredNetwork → List Command → List ℕ → Request → ConfiguredReply
reply_on network before v request = if is_live before v then (machine network (flags_of network before v) request).1 else Refused refusals.NoVariant

-- the reply to a worker's request after the steps before
unfoldable pub reply_to : ConfiguredNetwork → List Command → ℕ → Request → ConfiguredReply
reply_to network before worker (requests.UseVariant name) = variant_reply (use_reply (live before) name)
reply_to network before worker (requests.CloneVariant from to overwrite) = variant_reply (clone_reply (live before) from to overwrite)
reply_to network before worker (requests.RemoveVariant name) = variant_reply (remove_reply (live before) name)
reply_to network before worker other = reply_on network before (working before worker) other

unfoldable pub reply : ConfiguredNetwork → List Command → Command → ConfiguredReply
reply network before step = reply_to network before step.worker step.request

-- the view of a level in a live variant
unfoldable pub view : ConfiguredNetwork → List Command → List ℕ → ℕ → Option ConfiguredView
view network steps v place = view_under network (flags_of network steps v) place

-- each step asks for one of the eight commands, with plain ids
abbrev pub ArePlain : List Command → Type 0
ArePlain steps = All (λ step. IsTrue (request_plain step.request)) steps
