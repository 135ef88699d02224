-- Readable objects are read back.
use Rattle.std.proofs.Common.{List, [], ◌∷◌, arith}
use Rattle.std.specs.List.{AllByRecursion}
use Rattle.serde_json.specs.Data.{Data}
use Rattle.serde_json.specs.Written.{compact_text}
use Rattle.grid_value.proofs.Texts.{reading_some}
use Rattle.grid_print.proofs.Each.{of_each}
use Rattle.grid_jsonl.specs.Outcomes.{objects}
use Rattle.grid_told.specs.Trees.{by_name}
use Rattle.grid_told.specs.Shapes.{IsReadable, IsReadBack}
use Rattle.grid_told.specs.Laws.{ObjectsAreReadBack}
use Rattle.grid_told.proofs.TreeTexts.{tree_read}
use Rattle.grid_told.proofs.Written.{tree_utf8}
use Rattle.grid_told.proofs.Objects.{objects_readable}

read_back : (d : Data) → IsReadable 6 d → IsReadBack d
read_back d h = (h, reading_some (compact_text d) (by_name d) (tree_utf8 d h.wholes h.texts) (tree_read d h.wholes (omega (arith, h.within))))

pub all_read : (ds : List Data) → AllByRecursion (IsReadable 6) ds → AllByRecursion IsReadBack ds
all_read [] h = tt
all_read (d ∷ ds) h = (read_back d h.0, all_read ds h.1)

pub objects_are_read_back : ObjectsAreReadBack
objects_are_read_back o held = of_each IsReadBack (objects o) (all_read (objects o) (objects_readable o held))
