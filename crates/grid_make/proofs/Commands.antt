-- How many commands the made scripts have.
use Rattle.std.proofs.Common.{◌≡◌, ℕ, zero, suc, ◌+◌, ◌*◌, ◌∷◌, length, refl, ap, ◌∙◌, arith}
use Rattle.std.specs.List.{sum_by}
use Rattle.std.proofs.Math.Nat.{suc-mul, add_comm}
use Rattle.std.proofs.lemmas.List.{length-append}
use Rattle.std.proofs.lemmas.List.Sums.{sum_by-cons}
use Rattle.grid_json.specs.Job.{command_total}
use Rattle.grid_make.specs.Draws.{next, later, in_turn}
use Rattle.grid_make.specs.MadeJob.{next_command, script, worker_scripts, made_scripts}

length_commands : (size from count before : ℕ) → length (in_turn (next_command size) next from count before) ≡ count
unfolding in_turn next_command
length_commands size from zero before = refl
length_commands size from (suc count) before = ap suc (length_commands size (suc from) count (next before))

length_script : (size w before : ℕ) → length (script size w before) ≡ 3 + 4 * size
unfolding script
length_script size w before =
    let commands = in_turn (next_command size) next 0 (4 * size) before in
    let count : length commands ≡ 4 * size = length_commands size 0 (4 * size) before in
    rw (length-append, count) (omega arith)

total_of : (size from count before : ℕ) (last : ℕ → ℕ) → sum_by length (in_turn (worker_scripts size) last from count before) ≡ count * (3 + 4 * size)
unfolding in_turn worker_scripts
total_of size from zero before last = omega arith
total_of size from (suc count) before last =
    let more = in_turn (worker_scripts size) last (suc from) count (last before) in
    let first : sum_by length (script size from before ∷ more) ≡ length (script size from before) + sum_by length more = sum_by-cons length (script size from before) more in
    let rest : sum_by length more ≡ count * (3 + 4 * size) = total_of size (suc from) count (last before) last in
    let one : length (script size from before) ≡ 3 + 4 * size = length_script size from before in
    let product : suc count * (3 + 4 * size) ≡ count * (3 + 4 * size) + (3 + 4 * size) = suc-mul count (3 + 4 * size) in
    let sum : length (script size from before) + sum_by length more ≡ suc count * (3 + 4 * size) = rw (one, rest, product) (add_comm (3 + 4 * size) (count * (3 + 4 * size))) in
    first ∙ sum

-- four workers with three commands more than four per level
pub made_total : (seed size : ℕ) → command_total (made_scripts seed size) ≡ 4 * (3 + 4 * size)
unfolding command_total made_scripts
made_total seed size = total_of size 0 4 (later (5 * size) seed) (later (4 * size))

pub made_workers : (seed size : ℕ) → length (made_scripts seed size) ≡ 4
unfolding made_scripts in_turn worker_scripts
made_workers seed size = refl
