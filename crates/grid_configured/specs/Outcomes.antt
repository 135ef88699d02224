-- What a report tells of the journal of the node/breaker form and the replies of the same steps.
use Rattle.std.specs.Prelude.{ℕ, List, map, zip}
use Rattle.grid_core.specs.declared.journal.Entry.{Entry}
use Rattle.grid_configured.specs.declared.reply.ConfiguredReply.{ConfiguredReply}
use Rattle.grid_configured.specs.declared.outcome.ConfiguredVariant.{ConfiguredVariant}
use Rattle.grid_configured.specs.Texts.{Told, Report}

-- a step of the journal with its reply, which stands in the place of that of the node/breaker form
abbrev pub told_entry : Entry → ConfiguredReply → Told
told_entry e reply = record { worker = e.worker; variant = e.variant; request = e.request; reply = reply }

abbrev pub told_pair : Entry × ConfiguredReply → Told
told_pair pair = told_entry pair.0 pair.1

unfoldable pub told_of : List Entry → List ConfiguredReply → List Told
told_of journal replies = map told_pair (zip journal replies)

abbrev pub reported : List Entry → List ConfiguredReply → ℕ → List ConfiguredVariant → Report
reported journal replies workers views = record { told = told_of journal replies; workers = workers; views = views }
