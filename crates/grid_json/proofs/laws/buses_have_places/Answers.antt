use Rattle.grid_json.proofs.BusPositions.{places_are_positions}
use Rattle.grid_json.proofs.BusSections.{buses_are_sections}
use Rattle.grid_json.proofs.laws.buses_have_places.Goals as goal

pub returns-clause-sections : goal.returns-clause-sections
returns-clause-sections c = buses_are_sections

pub returns-clause-places : goal.returns-clause-places
returns-clause-places c = places_are_positions
