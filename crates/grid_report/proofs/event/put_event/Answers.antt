use Rattle.grid_report.specs.Events.{event_text}
use Rattle.grid_report.proofs.event.put_event.Goals as goal

pub returns-in-VariantCreated : goal.returns-in-VariantCreated
unfolding event_text
returns-in-VariantCreated c = rw c.in-VariantCreated.is c.put_made.ensures

pub returns-in-VariantOverwritten : goal.returns-in-VariantOverwritten
unfolding event_text
returns-in-VariantOverwritten c = rw c.in-VariantOverwritten.is c.put_made-in-VariantOverwritten.ensures

pub returns-in-VariantRemoved : goal.returns-in-VariantRemoved
unfolding event_text
returns-in-VariantRemoved c = rw c.in-VariantRemoved.is c.put_named-in-VariantRemoved.ensures
