-- Loading a draft gives what it was made of.
use Rattle.std.specs.Prelude.{◌≡◌, [], None, Ok}
use Rattle.grid_structure.specs.Network.{Network}
use Rattle.grid_structure.specs.Soundness.{IsSound}
use Rattle.grid_json.specs.declared.whole.Job.{Job}
use Rattle.grid_json.specs.Loading.{network_load}
use Rattle.grid_print.specs.Laws.{network_draft}

-- loading the draft of a sound network gives the network
abbrev pub NetworksAreLoaded : Type 0
NetworksAreLoaded = (net : Network) → IsSound net → network_load (network_draft net) ≡ Ok net

-- the job of a network alone
abbrev pub job_alone : Network → Job
job_alone net = record { network = net; filters = []; scripts = []; order = None }
