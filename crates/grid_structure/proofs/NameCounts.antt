-- How often an id names equipment.
use Rattle.std.proofs.Common.{Bool, List, ap, not, ℕ, ◌++◌, ◌+◌, ◌∙◌, ◌≡◌}
use Rattle.std.proofs.lemmas.List.{map-append}
use Rattle.std.proofs.lemmas.List.Elements.{filter-append}
use Rattle.std.specs.Prelude.{filter, map}
use Rattle.grid_level.specs.Passing.{is_branch_end}
use Rattle.grid_level.specs.declared.Placed.{Placed}
use Rattle.grid_structure.proofs.Counts.{times, times-append}
use Rattle.grid_structure.proofs.OneLevel.{names_of}

pub names_both : (id : List ℕ) (xs ys : List Placed) → times id (names_of (xs ++ ys)) ≡ times id (names_of xs) + times id (names_of ys)
names_both id xs ys =
    let t : Placed → Bool = λ p. not (is_branch_end p.stand) in
    let f : Placed → List ℕ = λ p. p.terminal.equipment in
    ap (λ z. times id (map f z)) (filter-append t xs ys) ∙ ap (times id) (map-append f (filter t xs) (filter t ys)) ∙ times-append id (map f (filter t xs)) (map f (filter t ys))
