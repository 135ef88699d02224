-- Where the substations' levels and transformers stand in the lists of a structure.
use Rattle.std.specs.Prelude.{ℕ, ◌-◌, List, length, take, drop, flat_map}
use Rattle.grid_structure.specs.Network.{Substation}

abbrev pub between : {A : Type 0} → ℕ → ℕ → List A → List A
between from to xs = take (to - from) (drop from xs)

-- how many levels, and how many transformers, the first substations have
unfoldable pub levels_before : ℕ → List Substation → ℕ
levels_before k subs = length (flat_map (λ s. s.levels) (take k subs))

unfoldable pub transformers_before : ℕ → List Substation → ℕ
transformers_before k subs = length (flat_map (λ s. s.transformers) (take k subs))
