-- Views of one variant.
use Rattle.std.proofs.Common.{◌≡◌, sym, ap, ◌∙◌, subst, ℕ, ℤ, ◌<◌, Bool, List, [], length, map, Some, arith}
use Rattle.std.specs.Prelude.{slice_get, option_map}
use Rattle.grid_level.specs.VoltageLevel.{VoltageLevel}
use Rattle.grid_level.specs.Passing.{positioned}
use Rattle.grid_structure.specs.Network.{Network}
use Rattle.grid_structure.specs.Sites.{levels}
use Rattle.grid_states.specs.Rows.{Rows, row_at, pairs_at}
use Rattle.grid_busview.specs.declared.BusView.{BusView}
use Rattle.grid_busview.specs.Views.{bus_view_of}
use Rattle.grid_powers.specs.Listed.{Listed}
use Rattle.grid_watts.specs.Watts.{level_watts}
use Rattle.grid_watts.specs.Nodes.{listed_row, listed_rows}
use Rattle.grid_islands.specs.Numbering.{FlagsFit}
use Rattle.grid_slots.specs.Variants.{rows_at}
use Rattle.grid_core.specs.declared.machine.Machine.{Machine}
use Rattle.grid_core.specs.Solo.{State, level_at}
use Rattle.grid_core.specs.History.{Command}
use Rattle.grid_core.specs.Replies.{state_of, view}
use Rattle.grid_core.specs.Fitting.{RowsFit}
use Rattle.grid_core.specs.Machines.{Held, StandsAt}
use Rattle.grid_core.proofs.Ranges.{rows_of_levels, row_of_level}
use Rattle.grid_core.proofs.RequestOutcomes.{view_read}
use Rattle.grid_core.proofs.VariantSteps.{Flagged, got_is}
use Rattle.std.proofs.lemmas.Option.{slice_get-map, slice_get_within}

-- ---- rows

pub fits_at : (net : Network) (rows : List (List Bool)) (place : ℕ) (level : VoltageLevel) → RowsFit net rows → slice_get (levels net) place ≡ Some level → (place < length rows) × (length (row_at rows place) ≡ length level.switches)
unfolding level_at
fits_at net rows place level fit at =
    let long = rows_of_levels net rows fit in
    let below = slice_get_within (levels net) place level at in
    (omega (arith, long, below), row_of_level net rows place level fit at)

pub opened_row : (m : Machine) (slot place : ℕ) (level : VoltageLevel) → Flagged m slot → slice_get (levels m.structure) place ≡ Some level
    → (place < length (rows_at m.slots slot).opened) × (length (row_at (rows_at m.slots slot).opened place) ≡ length level.switches)
opened_row m slot place level f at =
    subst (λ (rows : Rows). (place < length rows.opened) × (length (row_at rows.opened place) ≡ length level.switches)) (sym f.rows)
    (fits_at f.state.structure f.state.opened place level f.fits.opened (ap (λ (n : Network). slice_get (levels n) place) (sym f.structure_is) ∙ at))

pub flags_fit : (net : Network) (rows : List (List Bool)) → RowsFit net rows → FlagsFit net rows
flags_fit net rows fit place level at = (fits_at net rows place level fit at).1

-- ---- a level

level_in : (m : Machine) (state : State) (place : ℕ) (level : VoltageLevel) → m.structure ≡ state.structure → slice_get (levels m.structure) place ≡ Some level → level_at state.structure place ≡ Some level
unfolding level_at
level_in m state place level st at = ap (λ (n : Network). slice_get (levels n) place) (sym st) ∙ at

-- the pairs of a level are those that are listed of it
pub row_listed : (net : Network) (listed : Listed) (place : ℕ) (level : VoltageLevel) → slice_get (levels net) place ≡ Some level → pairs_at (listed_rows listed net) place ≡ listed_row listed level
unfolding pairs_at listed_rows
row_listed net listed place level at = got_is (map (listed_row listed) (levels net)) place (listed_row listed level) [] (slice_get-map (listed_row listed) (levels net) place ∙ ap (option_map (listed_row listed)) at)

-- of a variant in a history
pub row_at_slot : (origin : Network) (steps : List Command) (m : Machine) (name : List ℕ) (slot place : ℕ) (level : VoltageLevel) → Held origin steps m → StandsAt m name slot → slice_get (levels m.structure) place ≡ Some level
    → pairs_at (rows_at m.slots slot).watts place ≡ listed_row (state_of origin steps name).powers level
row_at_slot origin steps m name slot place level h at there =
    let s = at.1 origin steps h in
    ap (λ (rows : Rows). pairs_at rows.watts place) s.rows ∙ row_listed (state_of origin steps name).structure (state_of origin steps name).powers place level (ap (λ (n : Network). slice_get (levels n) place) (sym s.structure_is) ∙ there)

-- the bus view of a variant in a history
pub view_told : (origin : Network) (steps : List Command) (m : Machine) (name : List ℕ) (slot place : ℕ) (level : VoltageLevel) (row : List Bool) (watts : List ℤ) (seen : BusView) → Held origin steps m → StandsAt m name slot
    → slice_get (levels m.structure) place ≡ Some level → row ≡ row_at (rows_at m.slots slot).opened place → watts ≡ level_watts (state_of origin steps name).powers level → seen ≡ bus_view_of (positioned level row) watts → view origin steps name place ≡ Some seen
view_told origin steps m name slot place level row watts seen h at there is po told =
    let s = at.1 origin steps h in
    let state = state_of origin steps name in
    view_read origin steps name place level (level_in m state place level s.structure_is there)
    ∙ ap (λ (z : BusView). Some z) (sym (told ∙ ap (λ (z : List Bool). bus_view_of (positioned level z) watts) (is ∙ ap (λ (rows : Rows). row_at rows.opened place) s.rows)
    ∙ ap (bus_view_of (positioned level (row_at state.opened place))) po))
