-- The lists of a network have the edits that load it.
use Rattle.std.proofs.Common.{◌≡◌, refl, ap, ◌∙◌, ℕ, pos, List, [], ◌∷◌, ◌++◌}
use Rattle.std.specs.Prelude.{map, flat_map}
use Rattle.grid_level.specs.declared.Stand.{Stand}
use Rattle.grid_level.specs.declared.Stand.TheVariants.{Busbar, Feeder, BranchEnd}
use Rattle.grid_level.specs.declared.Placed.{Placed}
use Rattle.grid_level.specs.declared.Switch.{Switch}
use Rattle.grid_level.specs.declared.Internal.{Internal}
use Rattle.grid_level.specs.VoltageLevel.{VoltageLevel}
use Rattle.grid_structure.specs.declared.NamedBranch.{NamedBranch}
use Rattle.grid_structure.specs.declared.Edit.TheVariants as edits
use Rattle.grid_structure.specs.Network.{Network, Substation, empty_of}
use Rattle.grid_structure.specs.Loading.{apply_each, loaded, loading_edits, substation_edits, level_edits, branch_edit, busbar_edits, switch_edit, internal_edit, injection_edits}
use Rattle.grid_structure.specs.Lists.{ListsAreLoaded, each_listed, listed, network_listed, network_shown, substation_listed, substation_shown, level_listed, level_shown, branch_listed, busbar_listed, busbar_shown, switch_listed, switch_shown, internal_listed, internal_shown, injection_listed, injection_shown}
use Rattle.grid_structure.proofs.NetworkLoad.{networks_are_loaded}

busbars_are : (level : List ℕ) (placed : List Placed) → each_listed busbar_listed level (flat_map (λ p. busbar_shown p.terminal.equipment p.node p.stand) placed) ≡ flat_map (λ p. busbar_edits level p.terminal.equipment p.node p.stand) placed
busbars_are level [] = refl
busbars_are level (p ∷ placed) = by p.stand (busbars_are level placed)
  where
    by : (stand : Stand) → each_listed busbar_listed level (flat_map (λ q. busbar_shown q.terminal.equipment q.node q.stand) placed) ≡ flat_map (λ q. busbar_edits level q.terminal.equipment q.node q.stand) placed
        → each_listed busbar_listed level (busbar_shown p.terminal.equipment p.node stand ++ flat_map (λ q. busbar_shown q.terminal.equipment q.node q.stand) placed)
        ≡ busbar_edits level p.terminal.equipment p.node stand ++ flat_map (λ q. busbar_edits level q.terminal.equipment q.node q.stand) placed
    by Busbar rest = ap (λ z. edits.AddBusbar p.terminal.equipment level (pos p.node) ∷ z) rest
    by (Feeder item) rest = rest
    by BranchEnd rest = rest

injections_are : (level : List ℕ) (placed : List Placed) → each_listed injection_listed level (flat_map (λ p. injection_shown p.terminal.equipment p.node p.stand) placed) ≡ flat_map (λ p. injection_edits level p.terminal.equipment p.node p.stand) placed
injections_are level [] = refl
injections_are level (p ∷ placed) = by p.stand (injections_are level placed)
  where
    by : (stand : Stand) → each_listed injection_listed level (flat_map (λ q. injection_shown q.terminal.equipment q.node q.stand) placed) ≡ flat_map (λ q. injection_edits level q.terminal.equipment q.node q.stand) placed
        → each_listed injection_listed level (injection_shown p.terminal.equipment p.node stand ++ flat_map (λ q. injection_shown q.terminal.equipment q.node q.stand) placed)
        ≡ injection_edits level p.terminal.equipment p.node stand ++ flat_map (λ q. injection_edits level q.terminal.equipment q.node q.stand) placed
    by Busbar rest = rest
    by (Feeder item) rest = ap (λ z. edits.AddInjection p.terminal.equipment level (pos p.node) item ∷ z) rest
    by BranchEnd rest = rest

switches_are : (level : List ℕ) (switches : List Switch) → each_listed switch_listed level (map switch_shown switches) ≡ map (switch_edit level) switches
switches_are level [] = refl
switches_are level (s ∷ switches) = ap (λ z. switch_edit level s ∷ z) (switches_are level switches)

internals_are : (level : List ℕ) (internals : List Internal) → each_listed internal_listed level (map internal_shown internals) ≡ map (internal_edit level) internals
internals_are level [] = refl
internals_are level (i ∷ internals) = ap (λ z. internal_edit level i ∷ z) (internals_are level internals)

branches_are : (owner : List ℕ) (branches : List NamedBranch) → each_listed branch_listed owner branches ≡ map branch_edit branches
branches_are owner [] = refl
branches_are owner (b ∷ branches) = ap (λ z. branch_edit b ∷ z) (branches_are owner branches)

level_is : (substation : List ℕ) (l : VoltageLevel) → level_listed substation (level_shown l) ≡ level_edits substation l
unfolding level_listed level_edits
level_is substation l = rw (busbars_are l.id l.placed, switches_are l.id l.switches, internals_are l.id l.internals, injections_are l.id l.placed) refl

levels_are : (substation : List ℕ) (levels : List VoltageLevel) → flat_map (level_listed substation) (map level_shown levels) ≡ flat_map (level_edits substation) levels
levels_are substation [] = refl
levels_are substation (l ∷ levels) = rw (level_is substation l, levels_are substation levels) refl

substation_is : (s : Substation) → substation_listed (substation_shown s) ≡ substation_edits s
unfolding substation_listed substation_edits
substation_is s = rw (levels_are s.id s.levels, branches_are s.id s.transformers) refl

substations_are : (substations : List Substation) → flat_map substation_listed (map substation_shown substations) ≡ flat_map substation_edits substations
substations_are [] = refl
substations_are (s ∷ substations) = rw (substation_is s, substations_are substations) refl

network_is : (net : Network) → network_listed (network_shown net) ≡ loading_edits net
unfolding network_listed loading_edits
network_is net = rw (substations_are net.substations, branches_are net.id net.lines) refl

pub lists_are_loaded : ListsAreLoaded
unfolding listed loaded
lists_are_loaded net sound = ap (apply_each (empty_of net.id)) (network_is net) ∙ networks_are_loaded net sound
