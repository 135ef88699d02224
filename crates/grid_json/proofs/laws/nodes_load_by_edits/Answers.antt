use Rattle.grid_json.proofs.OlderNetworks.{nodes_load}
use Rattle.grid_json.proofs.laws.nodes_load_by_edits.Goals as goal

pub returns : goal.returns
returns c = nodes_load
