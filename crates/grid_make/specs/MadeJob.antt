-- The made job: its network, and the scripts of its four workers.
use Rattle.std.specs.Prelude.{ℕ, pos, ◌*◌, ◌/◌, ◌%◌, ◌==◌, false, if◌then◌else◌, None, List, [], ◌∷◌, ◌++◌, decimal, codes}
use Rattle.grid_slots.specs.Names.{initial_state}
use Rattle.grid_requests.specs.declared.request.Request.{Request}
use Rattle.grid_requests.specs.declared.request.Request.TheVariants as requests
use Rattle.grid_json.specs.declared.whole.Job.{Job}
use Rattle.grid_make.specs.Draws.{next, later, in_turn}
use Rattle.grid_make.specs.MadeNetwork.{level_name, part_name, injection_name, made_network}

-- the variant of a worker
abbrev pub variant_name : ℕ → List ℕ
variant_name w = codes "W" ++ decimal w

-- the command of a kind, on a feeder of a level or on the level's coupler
unfoldable pub command_of : ℕ → ℕ → ℕ → Request
command_of kind l f =
    if kind == 0 then requests.Disconnect (injection_name l f) (pos 1)
    else if kind == 1 then requests.Connect (injection_name l f) (pos 1)
    else requests.OpenSwitch (part_name l (codes "C"))

-- the command of a draw
unfoldable pub drawn_command : ℕ → ℕ → Request
drawn_command size x = command_of ((x / 64) % 3) (x % size) ((x / 16) % 4)

-- the command of the next draw, whatever its number in the script
unfoldable pub next_command : ℕ → ℕ → ℕ → List Request
next_command size number before = drawn_command size (next before) ∷ []

-- a worker makes a variant and works in it, with four commands per level of the network, and looks at the first level last
unfoldable pub script : ℕ → ℕ → ℕ → List Request
script size w before =
    (requests.CloneVariant initial_state (variant_name w) false ∷ requests.UseVariant (variant_name w) ∷ [])
    ++ in_turn (next_command size) next 0 (4 * size) before
    ++ (requests.BusView (level_name 0) ∷ [])

unfoldable pub worker_scripts : ℕ → ℕ → ℕ → List (List Request)
worker_scripts size w before = script size w before ∷ []

-- four workers; their draws come in their order, after those of the network
unfoldable pub made_scripts : ℕ → ℕ → List (List Request)
made_scripts seed size = in_turn (worker_scripts size) (later (4 * size)) 0 4 (later (5 * size) seed)

-- no listeners and no order
unfoldable pub made_job : ℕ → ℕ → Job
made_job seed size = record { network = made_network seed size; filters = []; scripts = made_scripts seed size; order = None }
