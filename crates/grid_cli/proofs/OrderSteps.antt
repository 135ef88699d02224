-- The steps of an order, one after the other, as a loop makes them.
use Rattle.std.proofs.Common.{◌≡◌, sym, ap, ◌∙◌, ℕ, ◌+◌, List, length, Some}
use Rattle.grid_requests.specs.declared.request.Request.{Request}
use Rattle.grid_structure.specs.Network.{Network}
use Rattle.grid_core.specs.History.{Command, History, longer}
use Rattle.grid_report.specs.Histories.{step_at, steps_of, history_of}
-- so many steps of the order, the newest first
use Rattle.grid_report.proofs.ScriptCursors.{made, made_more}

-- ---- the history

-- the history after so many steps of the order
abbrev pub history_at : Network → List (List Request) → List ℕ → ℕ → History
history_at network scripts order k = record { origin = network; workers = length scripts; steps = made scripts order k }

pub grown : (network : Network) (scripts : List (List Request)) (order : List ℕ) (k : ℕ) (step : Command) (world new : History) → step_at scripts order k ≡ Some step
    → world ≡ history_at network scripts order k → new ≡ longer world step → new ≡ history_at network scripts order (k + 1)
grown network scripts order k step world new is was grows =
    let with_steps : List Command → History = λ steps. record { origin = network; workers = length scripts; steps = steps } in
    grows ∙ ap (λ w. longer w step) was ∙ ap with_steps (sym (made_more scripts order k step is))

pub whole : (network : Network) (scripts : List (List Request)) (order : List ℕ) (k : ℕ) (world : History) → k ≡ length order → world ≡ history_at network scripts order k → world ≡ history_of network scripts order
unfolding history_of steps_of
whole network scripts order k world all is = is ∙ ap (history_at network scripts order) all
