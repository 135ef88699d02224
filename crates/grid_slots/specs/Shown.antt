-- How names and slots, and rows by place beside them, are seen as variants.
use Rattle.std.specs.Prelude.{List, [], ◌∷◌}
use Rattle.grid_states.specs.Rows.{Rows}
use Rattle.grid_slots.specs.declared.slots.Named.{Named}
use Rattle.grid_slots.specs.Variant.{Variant}
use Rattle.grid_slots.specs.Places.{variant}

unfoldable pub shown : List Named → List Rows → List Variant
shown (n ∷ named) (rows ∷ all) = variant n.name n.slot rows ∷ shown named all
shown named all = []
