-- The steps of an order, one after the other, as a loop makes them.
use Rattle.std.proofs.Common.{◌≡◌, refl, sym, ap, ◌∙◌, subst, ℕ, ◌+◌, ◌<◌, List, [], ◌∷◌, ◌++◌, length, get_or, Some, All}
use Rattle.std.proofs.lemmas.List.Elements.{All-get_or}
use Rattle.grid_requests.specs.declared.request.Request.{Request}
use Rattle.grid_core.specs.History.{Command}
use Rattle.grid_report.specs.Histories.{step_at, steps_of}
use Rattle.grid_configured.specs.declared.network.ConfiguredNetwork.{ConfiguredNetwork}
use Rattle.grid_configured.specs.declared.reply.ConfiguredReply.{ConfiguredReply}
use Rattle.grid_configured.specs.Histories.{ConfiguredHistory, longer, reply}
use Rattle.grid_configured.specs.Reports.{replies_of, history_of}
-- so many steps of the order, the newest first
use Rattle.grid_report.proofs.ScriptCursors.{made, made_more}

-- what is asked of a script is as all its commands are
pub asked_as : (P : Request → Type 0) (scripts : List (List Request)) (place : ℕ) (script : List Request) (cursor : ℕ) (request : Request) → All (All P) scripts → place < length scripts → script ≡ get_or scripts place script
    → cursor < length script → request ≡ get_or script cursor request → P request
asked_as P scripts place script cursor request all below is within same =
    let own : All P script = subst (All P) (sym is) (All-get_or (All P) scripts place script below all) in
    subst P (sym same) (All-get_or P script cursor request within own)

-- ---- the history

-- the history after so many steps of the order
abbrev pub history_at : ConfiguredNetwork → List (List Request) → List ℕ → ℕ → ConfiguredHistory
history_at network scripts order k = record { network = network; workers = length scripts; steps = made scripts order k }

pub grown : (network : ConfiguredNetwork) (scripts : List (List Request)) (order : List ℕ) (k : ℕ) (step : Command) (world new : ConfiguredHistory) → step_at scripts order k ≡ Some step
    → world ≡ history_at network scripts order k → new ≡ longer world step → new ≡ history_at network scripts order (k + 1)
grown network scripts order k step world new is was grows =
    let with_steps : List Command → ConfiguredHistory = λ steps. record { network = network; workers = length scripts; steps = steps } in
    grows ∙ ap (λ w. longer w step) was ∙ ap with_steps (sym (made_more scripts order k step is))

pub whole : (network : ConfiguredNetwork) (scripts : List (List Request)) (order : List ℕ) (k : ℕ) (world : ConfiguredHistory) → k ≡ length order → world ≡ history_at network scripts order k → world ≡ history_of network scripts order
unfolding history_of steps_of
whole network scripts order k world all is = is ∙ ap (history_at network scripts order) all

-- ---- the replies

-- of one step more
pub answered : (network : ConfiguredNetwork) (scripts : List (List Request)) (order : List ℕ) (k : ℕ) (step : Command) (world : ConfiguredHistory) (answer : ConfiguredReply) (so_far more : List ConfiguredReply) → step_at scripts order k ≡ Some step
    → world ≡ history_at network scripts order k → answer ≡ reply world.network world.steps step → so_far ≡ replies_of network (made scripts order k) → more ≡ so_far ++ answer ∷ [] → more ≡ replies_of network (made scripts order (k + 1))
unfolding replies_of
answered network scripts order k step world answer so_far more is was answers told pushed =
    let same : answer ≡ reply network (made scripts order k) step = answers ∙ ap (λ (w : ConfiguredHistory). reply w.network w.steps step) was in
    pushed ∙ ap (λ rs. rs ++ answer ∷ []) told ∙ ap (λ r. replies_of network (made scripts order k) ++ r ∷ []) same ∙ ap (replies_of network) (sym (made_more scripts order k step is))

pub all_answered : (network : ConfiguredNetwork) (scripts : List (List Request)) (order : List ℕ) (k : ℕ) (so_far : List ConfiguredReply) → k ≡ length order → so_far ≡ replies_of network (made scripts order k) → so_far ≡ replies_of network (steps_of scripts order)
unfolding steps_of
all_answered network scripts order k so_far all told = told ∙ ap (λ n. replies_of network (made scripts order n)) all

pub none_answered : (network : ConfiguredNetwork) (scripts : List (List Request)) (order : List ℕ) → [] ≡ replies_of network (made scripts order 0)
unfolding replies_of
none_answered network scripts order = refl
