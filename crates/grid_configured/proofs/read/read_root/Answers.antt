use Rattle.grid_value.specs.View.{view}
use Rattle.grid_configured.proofs.Readings.{all_configured, translatable}
use Rattle.grid_configured.proofs.read.read_root.Goals as goal

pub returns-clause-network : goal.returns-clause-network
returns-clause-network c = translatable (view c.args.value.now) c.in_ok-network.network c.in_ok-network.ensures c.in_ok-check_member.ensures

pub returns-clause-requests : goal.returns-clause-requests
returns-clause-requests c = all_configured (view c.args.value.now) c.in_ok-scripts.scripts c.in_ok-scripts.ensures.scripts
