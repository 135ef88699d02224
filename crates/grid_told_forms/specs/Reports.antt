-- What the types of configured outcomes hold, and those whose views are of the levels that were asked for.
use Rattle.std.specs.Prelude.{◌≡◌, ◌<◌, length, ⊤, IsUtf8, All}
use Rattle.grid_requests.specs.declared.request.Request.{Request}
use Rattle.grid_requests.specs.declared.request.Request.TheVariants as requests
use Rattle.grid_configured.specs.declared.view.ConfiguredBus.{ConfiguredBus}
use Rattle.grid_configured.specs.declared.view.ConfiguredView.{ConfiguredView}
use Rattle.grid_configured.specs.declared.reply.ConfiguredReply.{ConfiguredReply}
use Rattle.grid_configured.specs.declared.reply.ConfiguredReply.TheVariants as replies
use Rattle.grid_configured.specs.declared.outcome.ConfiguredVariant.{ConfiguredVariant}
use Rattle.grid_configured.specs.Texts.{Told, Report}
use Rattle.grid_told.specs.Held.{IsUnsigned, IsSum, IsTerminal}
use Rattle.grid_told.specs.Requested.{IsRequest}
use Rattle.grid_told.specs.Outcomes.{IsRefusal}

pub record IsBus (b : ConfiguredBus) : Type 0 where
  pub place : IsUnsigned b.place
  pub buses : All IsUtf8 b.buses
  pub terminals : All IsTerminal b.terminals
  pub load : IsSum b.load
  pub generation : IsSum b.generation

pub record IsView (v : ConfiguredView) : Type 0 where
  pub level : IsUtf8 v.level
  pub buses : All IsBus v.buses

abbrev pub IsReply : ConfiguredReply → Type 0
IsReply replies.Done = ⊤
IsReply replies.Unchanged = ⊤
IsReply replies.AlreadyConnected = ⊤
IsReply replies.AlreadyDisconnected = ⊤
IsReply (replies.View view) = IsView view
IsReply replies.Created = ⊤
IsReply replies.Overwritten = ⊤
IsReply (replies.Refused refusal) = IsRefusal refusal

pub record IsTold (t : Told) : Type 0 where
  pub worker : IsUnsigned t.worker
  pub variant : IsUtf8 t.variant
  pub request : IsRequest t.request
  pub reply : IsReply t.reply

pub record IsLive (v : ConfiguredVariant) : Type 0 where
  pub name : IsUtf8 v.name
  pub views : All IsView v.views

-- what the types of a report's parts hold: texts are UTF-8, and a number, or a count, has the bits of its type
pub record IsHeld (r : Report) : Type 0 where
  pub told : All IsTold r.told
  pub commands : IsUnsigned (length r.told)
  pub workers : IsUnsigned r.workers
  pub views : All IsLive r.views
  pub variants : IsUnsigned (length r.views)

-- a view is of the level that was asked for
abbrev pub Fits : Request → ConfiguredReply → Type 0
Fits request replies.Done = ⊤
Fits request replies.Unchanged = ⊤
Fits request replies.AlreadyConnected = ⊤
Fits request replies.AlreadyDisconnected = ⊤
Fits request (replies.View view) = request ≡ requests.BusView view.level
Fits request replies.Created = ⊤
Fits request replies.Overwritten = ⊤
Fits request (replies.Refused refusal) = ⊤

-- the replies fit what was asked, and each step is by one of the workers
pub record IsFitting (r : Report) : Type 0 where
  pub replies : All (λ t. Fits t.request t.reply) r.told
  pub workers : All (λ t. t.worker < r.workers) r.told
