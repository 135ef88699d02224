use Rattle.grid_watts.proofs.Listings.{nothing_listed, edits_keep, values_keep, listings_room}
use Rattle.grid_watts.proofs.laws.listed_is_there.Goals as goal

pub returns-clause-nothing : goal.returns-clause-nothing
returns-clause-nothing c = nothing_listed

pub returns-clause-edits : goal.returns-clause-edits
returns-clause-edits c = edits_keep

pub returns-clause-values : goal.returns-clause-values
returns-clause-values c = values_keep

pub returns-clause-room : goal.returns-clause-room
returns-clause-room c = listings_room
