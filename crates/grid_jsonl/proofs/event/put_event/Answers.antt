use Rattle.grid_jsonl.specs.Outcomes.{event_fields}
use Rattle.grid_jsonl.proofs.event.put_event.Goals as goal

pub returns-in-Created : goal.returns-in-Created
unfolding event_fields
returns-in-Created c = rw c.in-Created.is c.put_one.ensures

pub returns-in-Removed : goal.returns-in-Removed
unfolding event_fields
returns-in-Removed c = rw c.in-Removed.is c.put_one-in-Removed.ensures

pub returns-in-Updated : goal.returns-in-Updated
unfolding event_fields
returns-in-Updated c = rw c.in-Updated.is c.put_updated.ensures

pub returns-in-VariantCreated : goal.returns-in-VariantCreated
unfolding event_fields
returns-in-VariantCreated c = rw c.in-VariantCreated.is c.put_made.ensures

pub returns-in-VariantOverwritten : goal.returns-in-VariantOverwritten
unfolding event_fields
returns-in-VariantOverwritten c = rw c.in-VariantOverwritten.is c.put_made-in-VariantOverwritten.ensures

pub returns-in-VariantRemoved : goal.returns-in-VariantRemoved
unfolding event_fields
returns-in-VariantRemoved c = rw c.in-VariantRemoved.is c.put_one-in-VariantRemoved.ensures
