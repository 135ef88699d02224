use Rattle.std.proofs.Common.{ap, ◌∙◌, ℕ, ◌+◌, ◌++◌, ◌∷◌, [], List, Option}
use Rattle.grid_islands.specs.declared.numbering.Numbered.{Numbered}
use Rattle.grid_islands.specs.Numbering.{counted_from, with_buses}
use Rattle.grid_islands.proofs.numbering.Numbered.add.Goals as goal

pub returns-in-Ok-clause-added : goal.returns-in-Ok-clause-added
unfolding with_buses
returns-in-Ok-clause-added c =
    let old = c.args.self.now in
    let buses = c.args.buses.now in
    let build : List (List (Option ℕ)) → List ℕ → ℕ → Numbered = λ x y z. record { rows = x; firsts = y; count = z } in
    let row = counted_from old.count buses.places in
    ap (λ z. build z c.push-2.new.self c.in_ok-count.count) (c.in_ok-push.ensures.ok ∙ ap (λ z. old.rows ++ z ∷ []) (c.in_ok-counted.ensures ∙ ap (counted_from old.count) c.slice.ensures))
    ∙ ap (λ z. build (old.rows ++ row ∷ []) z c.in_ok-count.count) c.in-Ok.ensures.ok
    ∙ ap (build (old.rows ++ row ∷ []) (old.firsts ++ old.count ∷ [])) (c.in_ok-count.ensures.value ∙ ap (λ z. old.count + z) c.len.ensures)
