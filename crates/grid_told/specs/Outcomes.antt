-- What an outcome's types hold, and outcomes whose views are of the levels that were asked for.
use Rattle.std.specs.Prelude.{◌≡◌, ℕ, ◌<◌, List, length, ⊤, IsUtf8, All}
use Rattle.grid_requests.specs.declared.request.Request.{Request}
use Rattle.grid_requests.specs.declared.request.Request.TheVariants as requests
use Rattle.grid_core.specs.declared.reply.Refusal.{Refusal}
use Rattle.grid_core.specs.declared.reply.Refusal.TheVariants as refusals
use Rattle.grid_core.specs.declared.reply.Reply.{Reply}
use Rattle.grid_core.specs.declared.reply.Reply.TheVariants as replies
use Rattle.grid_core.specs.declared.journal.Entry.{Entry}
use Rattle.grid_report.specs.declared.outcome.VariantView.{VariantView}
use Rattle.grid_report.specs.declared.outcome.Outcome.{Outcome}
use Rattle.grid_told.specs.Held.{IsUnsigned, IsSum, IsTerminal, IsBusView, IsBreakerView, IsEvent}
use Rattle.grid_told.specs.Requested.{IsRequest, IsComponent, IsEditFault}

abbrev pub IsRefusal : Refusal → Type 0
IsRefusal refusals.NoVariant = ⊤
IsRefusal refusals.NoSwitch = ⊤
IsRefusal refusals.NoEquipment = ⊤
IsRefusal refusals.NoSide = ⊤
IsRefusal refusals.NoLevel = ⊤
IsRefusal refusals.TargetExists = ⊤
IsRefusal refusals.InitialStays = ⊤
IsRefusal refusals.TooManyVariants = ⊤
IsRefusal refusals.NoPower = ⊤
IsRefusal (refusals.Edit fault) = IsEditFault fault

abbrev pub IsReply : Reply → Type 0
IsReply replies.Done = ⊤
IsReply replies.Unchanged = ⊤
IsReply (replies.Closed ids) = All IsUtf8 ids
IsReply replies.AlreadyConnected = ⊤
IsReply replies.NoPath = ⊤
IsReply (replies.Opened ids) = All IsUtf8 ids
IsReply replies.AlreadyDisconnected = ⊤
IsReply (replies.NoBreaker terminal) = IsTerminal terminal
IsReply (replies.BusBreaker view) = IsBreakerView view
IsReply (replies.Bus view) = IsBusView view
IsReply (replies.Components buses) = All IsComponent buses
IsReply (replies.Totals load generation) = IsSum load × IsSum generation
IsReply replies.Created = ⊤
IsReply replies.Overwritten = ⊤
IsReply (replies.Refused refusal) = IsRefusal refusal

pub record IsEntry (e : Entry) : Type 0 where
  pub worker : IsUnsigned e.worker
  pub variant : IsUtf8 e.variant
  pub request : IsRequest e.request
  pub reply : IsReply e.reply
  pub events : All IsEvent e.events

pub record IsVariantView (v : VariantView) : Type 0 where
  pub name : IsUtf8 v.name
  pub views : All IsBusView v.views

-- what the type of outcomes holds: a text of an outcome is UTF-8, and a number, or a count of what it lists, has the bits of
-- its type
pub record IsHeld (o : Outcome) : Type 0 where
  pub entries : All IsEntry o.journal
  pub commands : IsUnsigned (length o.journal)
  pub workers : IsUnsigned o.workers
  pub views : All IsVariantView o.views
  pub variants : IsUnsigned (length o.views)
  pub listeners : IsUnsigned (length o.filters)

-- ---- fitting outcomes

-- a view is of the level that was asked for, and components were asked for
abbrev pub Fits : Request → Reply → Type 0
Fits request replies.Done = ⊤
Fits request replies.Unchanged = ⊤
Fits request (replies.Closed ids) = ⊤
Fits request replies.AlreadyConnected = ⊤
Fits request replies.NoPath = ⊤
Fits request (replies.Opened ids) = ⊤
Fits request replies.AlreadyDisconnected = ⊤
Fits request (replies.NoBreaker terminal) = ⊤
Fits request (replies.BusBreaker view) = request ≡ requests.BusBreakerView view.level
Fits request (replies.Bus view) = request ≡ requests.BusView view.level
Fits request (replies.Components buses) = (level : List ℕ) × (request ≡ requests.Components level)
Fits request (replies.Totals load generation) = ⊤
Fits request replies.Created = ⊤
Fits request replies.Overwritten = ⊤
Fits request (replies.Refused refusal) = ⊤

-- the replies fit what was asked, and each step is by one of the workers
pub record IsFitting (o : Outcome) : Type 0 where
  pub replies : All (λ e. Fits e.request e.reply) o.journal
  pub workers : All (λ e. e.worker < o.workers) o.journal
