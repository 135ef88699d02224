-- What a look at a changed level tells of its buses.
use Rattle.std.proofs.Common.{◌≡◌, sym, ap, ◌∙◌, subst, ℕ, ◌<◌, List, length, get_or, map, Bool, Option, Some, None}
use Rattle.std.specs.Prelude.{filter, Box}
use Rattle.std.specs.declared.alloc.Global.{Global}
use Rattle.std.proofs.lemmas.List.{length-map}
use Rattle.grid_level.specs.VoltageLevel.{VoltageLevel}
use Rattle.grid_level.specs.Passing.{positioned}
use Rattle.grid_powers.specs.Listed.{Listed}
use Rattle.grid_busview.specs.Views.{bus_of, bus_view_of, bus_leasts, node_buses_of}
use Rattle.grid_islands.proofs.LevelNumbers.{places_fit}
use Rattle.grid_watts.specs.Watts.{level_watts}
use Rattle.grid_sums.specs.Sums.{bus_sums, buses_under, sums_of}
use Rattle.grid_outages.specs.declared.outage.Changed.{Changed}
use Rattle.grid_outages.specs.Changes.{IsLookedAt}
use Rattle.grid_outages.specs.Effects.{ArePlaced}

-- there are as many sums as buses
pub sums_long : (listed : Listed) (level : VoltageLevel) (opened : List Bool) → length (sums_of listed level opened) ≡ length (bus_leasts (positioned level opened))
unfolding sums_of buses_under bus_view_of bus_leasts
sums_long listed level opened =
    let leasts = bus_leasts (positioned level opened) in
    length-map (map (bus_of (positioned level opened) (level_watts listed level)) leasts) bus_sums ∙ length-map leasts (bus_of (positioned level opened) (level_watts listed level))

pub places_below : (listed : Listed) (level : VoltageLevel) (opened : List Bool) (k place : ℕ) → get_or (node_buses_of (positioned level opened)).places k None ≡ Some place → place < length (sums_of listed level opened)
unfolding node_buses_of
places_below listed level opened k place e = subst (λ z. place < z) (sym (sums_long listed level opened)) (places_fit (positioned level opened) k place e)

pub looked_placed : (listed : Listed) (o : Option (Box Changed Global)) → IsLookedAt listed o → ArePlaced o
looked_placed listed None h = tt
looked_placed listed (Some c) h = λ k place e.
    subst (λ z. place < length z) (sym h.sums) (places_below listed c.value.level c.value.opened k place (ap (λ z. get_or z k None) (sym h.places) ∙ e))
