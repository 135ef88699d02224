-- The parts of lists, one after the other, as they are added.
use Rattle.std.proofs.Common.{◌≡◌, List, ℕ, ◌++◌}
use Rattle.std.specs.Prelude.{flat_map, Result, Ok}
use Rattle.std.specs.Result.{IsErrAnd}
use Rattle.grid_structure.specs.declared.lists.LevelLists.{LevelLists}
use Rattle.grid_structure.specs.declared.lists.SubstationLists.{SubstationLists}
use Rattle.grid_structure.specs.declared.lists.NetworkLists.{NetworkLists}
use Rattle.grid_structure.specs.declared.Edit.{Edit}
use Rattle.grid_structure.specs.declared.Edit.TheVariants as edits
use Rattle.grid_structure.specs.declared.ApplyFault.{ApplyFault}
use Rattle.grid_structure.specs.Network.{Network}
use Rattle.grid_structure.specs.Editing.{apply, IsTold}
use Rattle.grid_structure.specs.Loading.{apply_each}
use Rattle.grid_structure.specs.Lists.{IsMade, each_listed, level_listed, substation_listed, network_listed, busbar_listed, switch_listed, internal_listed, injection_listed, branch_listed}
use Rattle.grid_structure.proofs.ListLoops.{made_on, made_first, refused_part, refused_first}

abbrev Answer : Type 0
Answer = Result (Unit {0}) ApplyFault

-- ---- a level

abbrev bare_edit : List ℕ → LevelLists → Edit
bare_edit substation l = edits.AddLevel l.id substation l.nominal_v l.low_v l.high_v

abbrev busbars_of : LevelLists → List Edit
busbars_of l = each_listed busbar_listed l.id l.busbars

abbrev switches_of : LevelLists → List Edit
switches_of l = each_listed switch_listed l.id l.switches

abbrev internals_of : LevelLists → List Edit
internals_of l = each_listed internal_listed l.id l.internals

abbrev injections_of : LevelLists → List Edit
injections_of l = each_listed injection_listed l.id l.injections

abbrev behind_switches : LevelLists → List Edit
behind_switches l = internals_of l ++ injections_of l

abbrev behind_busbars : LevelLists → List Edit
behind_busbars l = switches_of l ++ behind_switches l

module _ (substation : List ℕ) (l : LevelLists) (before after : Network) (result : Answer) where
  pub level_begun : (n1 : Network) → apply before (bare_edit substation l) ≡ Ok n1 → IsMade n1 (busbars_of l ++ behind_busbars l) after result → IsMade before (level_listed substation l) after result
  unfolding level_listed
  level_begun n1 done rest = made_first before n1 after (bare_edit substation l) (busbars_of l ++ behind_busbars l) result done rest

  pub busbars_added : (n1 n2 : Network) → apply before (bare_edit substation l) ≡ Ok n1 → apply_each n1 (busbars_of l) ≡ Ok n2 → IsMade n2 (behind_busbars l) after result → IsMade before (level_listed substation l) after result
  busbars_added n1 n2 done busbars rest = level_begun n1 done (made_on n1 n2 after (busbars_of l) (behind_busbars l) result busbars rest)

  pub switches_added : (n1 n2 n3 : Network) → apply before (bare_edit substation l) ≡ Ok n1 → apply_each n1 (busbars_of l) ≡ Ok n2 → apply_each n2 (switches_of l) ≡ Ok n3 → IsMade n3 (behind_switches l) after result
      → IsMade before (level_listed substation l) after result
  switches_added n1 n2 n3 done busbars switches rest = busbars_added n1 n2 done busbars (made_on n2 n3 after (switches_of l) (behind_switches l) result switches rest)

  pub level_added : (n1 n2 n3 n4 : Network) → apply before (bare_edit substation l) ≡ Ok n1 → apply_each n1 (busbars_of l) ≡ Ok n2 → apply_each n2 (switches_of l) ≡ Ok n3 → apply_each n3 (internals_of l) ≡ Ok n4 → IsMade n4 (injections_of l) after result
      → IsMade before (level_listed substation l) after result
  level_added n1 n2 n3 n4 done busbars switches internals rest = switches_added n1 n2 n3 done busbars switches (made_on n3 n4 after (internals_of l) (injections_of l) result internals rest)

  module _ (fault : ApplyFault) (failed : IsErrAnd result (λ f. f ≡ fault)) where
    pub level_refused : IsTold (apply before (bare_edit substation l)) fault → IsMade before (level_listed substation l) after result
    unfolding level_listed
    level_refused told = refused_first before after (bare_edit substation l) (busbars_of l ++ behind_busbars l) result fault failed told

    pub busbar_refused : (n1 : Network) → apply before (bare_edit substation l) ≡ Ok n1 → IsTold (apply_each n1 (busbars_of l)) fault → IsMade before (level_listed substation l) after result
    busbar_refused n1 done told = level_begun n1 done (refused_part n1 after (busbars_of l) (behind_busbars l) result fault failed told)

    pub switch_refused : (n1 n2 : Network) → apply before (bare_edit substation l) ≡ Ok n1 → apply_each n1 (busbars_of l) ≡ Ok n2 → IsTold (apply_each n2 (switches_of l)) fault → IsMade before (level_listed substation l) after result
    switch_refused n1 n2 done busbars told = busbars_added n1 n2 done busbars (refused_part n2 after (switches_of l) (behind_switches l) result fault failed told)

    pub internal_refused : (n1 n2 n3 : Network) → apply before (bare_edit substation l) ≡ Ok n1 → apply_each n1 (busbars_of l) ≡ Ok n2 → apply_each n2 (switches_of l) ≡ Ok n3 → IsTold (apply_each n3 (internals_of l)) fault
        → IsMade before (level_listed substation l) after result
    internal_refused n1 n2 n3 done busbars switches told = switches_added n1 n2 n3 done busbars switches (refused_part n3 after (internals_of l) (injections_of l) result fault failed told)

-- ---- a substation

abbrev levels_of : SubstationLists → List Edit
levels_of s = flat_map (level_listed s.id) s.levels

abbrev transformers_of : SubstationLists → List Edit
transformers_of s = each_listed branch_listed s.id s.transformers

module _ (s : SubstationLists) (before after : Network) (result : Answer) where
  substation_begun : (n1 : Network) → apply before (edits.AddSubstation s.id) ≡ Ok n1 → IsMade n1 (levels_of s ++ transformers_of s) after result → IsMade before (substation_listed s) after result
  unfolding substation_listed
  substation_begun n1 done rest = made_first before n1 after (edits.AddSubstation s.id) (levels_of s ++ transformers_of s) result done rest

  pub substation_added : (n1 n2 : Network) → apply before (edits.AddSubstation s.id) ≡ Ok n1 → apply_each n1 (levels_of s) ≡ Ok n2 → IsMade n2 (transformers_of s) after result → IsMade before (substation_listed s) after result
  substation_added n1 n2 done levels rest = substation_begun n1 done (made_on n1 n2 after (levels_of s) (transformers_of s) result levels rest)

  module _ (fault : ApplyFault) (failed : IsErrAnd result (λ f. f ≡ fault)) where
    pub substation_refused : IsTold (apply before (edits.AddSubstation s.id)) fault → IsMade before (substation_listed s) after result
    unfolding substation_listed
    substation_refused told = refused_first before after (edits.AddSubstation s.id) (levels_of s ++ transformers_of s) result fault failed told

    pub levels_refused : (n1 : Network) → apply before (edits.AddSubstation s.id) ≡ Ok n1 → IsTold (apply_each n1 (levels_of s)) fault → IsMade before (substation_listed s) after result
    levels_refused n1 done told = substation_begun n1 done (refused_part n1 after (levels_of s) (transformers_of s) result fault failed told)

-- ---- a network

module _ (n : NetworkLists) (before after : Network) (result : Answer) where
  pub network_added : (n1 : Network) → apply_each before (flat_map substation_listed n.substations) ≡ Ok n1 → IsMade n1 (each_listed branch_listed n.id n.lines) after result → IsMade before (network_listed n) after result
  unfolding network_listed
  network_added n1 done rest = made_on before n1 after (flat_map substation_listed n.substations) (each_listed branch_listed n.id n.lines) result done rest

  pub substations_refused : (fault : ApplyFault) → IsErrAnd result (λ f. f ≡ fault) → IsTold (apply_each before (flat_map substation_listed n.substations)) fault → IsMade before (network_listed n) after result
  unfolding network_listed
  substations_refused fault failed told = refused_part before after (flat_map substation_listed n.substations) (each_listed branch_listed n.id n.lines) result fault failed told
