-- Laws of the lines of components and of contingencies.
use Rattle.std.specs.Prelude.{◌≡◌, ℕ, ◌<◌, Bool, List, [], ◌∷◌, ◌++◌, map, All}
use Rattle.std.specs.List.{flat_map}
use Rattle.serde_json.specs.Data.{Data}
use Rattle.grid_structure.specs.Network.{Network}
use Rattle.grid_jsonl.specs.Outcomes.{lines}
use Rattle.grid_hvdc.specs.declared.HvdcLine.{HvdcLine}
use Rattle.grid_hvdc.specs.Lines.{variant_objects}
use Rattle.grid_json.specs.declared.format.Format.{Format}
use Rattle.grid_told.specs.Trees.{HasWholes}
use Rattle.grid_told.specs.Shapes.{IsReadBack}
use Rattle.grid_told_forms.specs.Findings.{Screened, IsScreened, told_of, found_objects}
use Rattle.grid_configured.specs.Texts.{Report}
use Rattle.grid_configured.specs.Histories.{ConfiguredHistory}
use Rattle.grid_configured.specs.Reports.{report_after}
use Rattle.grid_configured.specs.Lines.{objects}
use Rattle.grid_told_forms.specs.Reports.{IsHeld, IsFitting}
use Rattle.grid_told_forms.specs.Rows.{Variant, IsVariant, row_objects, rows_of}

-- ---- contingencies

abbrev pub FindingsAreReadBack : Type 0
FindingsAreReadBack = (format : Format) (net : Network) (screened : List Screened) → All (IsScreened net) screened → All IsReadBack (found_objects format net screened)

-- between whatever first and last objects, equal lines tell equal places, names and findings, and equal first and last objects
abbrev pub FindingsAreTold : Type 0
FindingsAreTold =
    (format later : Format) (net other : Network) (first also last end : Data) (screened others : List Screened)
    → HasWholes first → HasWholes also → HasWholes last → HasWholes end → All (IsScreened net) screened → All (IsScreened other) others
    → lines (first ∷ (found_objects format net screened ++ last ∷ [])) ≡ lines (also ∷ (found_objects later other others ++ end ∷ []))
    → (first ≡ also) × ((map (told_of format net) screened ≡ map (told_of later other) others) × (last ≡ end))

-- ---- components

-- the objects of a variant and its buses are those of its rows
abbrev pub BusesAreRows : Type 0
BusesAreRows = (name : List ℕ) (net : Network) (opened retained : List (List Bool)) (hvdc_lines : List HvdcLine)
    → variant_objects name net opened retained hvdc_lines ≡ row_objects (record { name = name; rows = rows_of net opened retained hvdc_lines })

abbrev pub NumbersAreReadBack : Type 0
NumbersAreReadBack = (variants : List Variant) → All IsVariant variants → All IsReadBack (flat_map row_objects variants)

-- between whatever first and last objects, equal lines tell equal variants, and equal first and last objects
abbrev pub NumbersAreTold : Type 0
NumbersAreTold =
    (first also last end : Data) (variants others : List Variant) → HasWholes first → HasWholes also → HasWholes last → HasWholes end
    → All IsVariant variants → All IsVariant others
    → lines (first ∷ (flat_map row_objects variants ++ last ∷ [])) ≡ lines (also ∷ (flat_map row_objects others ++ end ∷ []))
    → (first ≡ also) × ((variants ≡ others) × (last ≡ end))

-- ---- configured outcomes

abbrev pub ReportsAreReadBack : Type 0
ReportsAreReadBack = (r : Report) → IsHeld r → All IsReadBack (objects r)

-- fitting configured outcomes of equal lines are equal: their steps with working variants, requests and replies, their counts
-- of workers, and their live names and views
abbrev pub ReportsAreTold : Type 0
ReportsAreTold = (r s : Report) → IsHeld r → IsHeld s → IsFitting r → IsFitting s → lines (objects r) ≡ lines (objects s) → r ≡ s

-- in what comes of every history with configured buses, whose steps are by its workers, a view has the level that its request names
abbrev pub ConfiguredHistoriesFit : Type 0
ConfiguredHistoriesFit = (history : ConfiguredHistory) → All (λ step. step.worker < history.workers) history.steps → IsFitting (report_after history)
