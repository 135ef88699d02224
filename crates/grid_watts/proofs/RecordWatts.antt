-- The watts under a list that is empty are those of the records.
use Rattle.std.proofs.Common.{◌≡◌, refl, ℕ, true, List, [], ◌∷◌}
use Rattle.std.specs.Prelude.{map, unwrap_or}
use Rattle.grid_kinds.specs.declared.Injection.TheVariants.{Load, Generator, Battery, ShuntCompensator, StaticVarCompensator, ConverterStation}
use Rattle.grid_level.specs.declared.Placed.{Placed}
use Rattle.grid_level.specs.declared.Stand.{Stand}
use Rattle.grid_level.specs.declared.Stand.TheVariants.{Busbar, Feeder, BranchEnd}
use Rattle.grid_level.specs.VoltageLevel.{VoltageLevel}
use Rattle.grid_busview.specs.Views.{is_load, is_load_item, is_generation, is_generation_item, stand_watts, item_watts, record_watts}
use Rattle.grid_powers.specs.Listed.{Listed, value_in}
use Rattle.grid_watts.specs.Watts.{is_powered, watts_for, watts_at, level_watts}

pub powered_watts : (listed : Listed) (id : List ℕ) (s : Stand) → is_powered s ≡ true → watts_for listed id s ≡ unwrap_or (value_in listed id) (stand_watts s)
unfolding watts_for
powered_watts listed id s is = rw is refl

pub of_record : (id : List ℕ) (s : Stand) → watts_for [] id s ≡ stand_watts s
unfolding watts_for is_powered is_load is_generation is_load_item is_generation_item stand_watts item_watts
of_record id Busbar = refl
of_record id (Feeder (Load p0 q0)) = refl
of_record id (Feeder other) = refl
of_record id BranchEnd = refl

each_of_record : (ps : List Placed) → map (λ (p : Placed). stand_watts p.stand) ps ≡ map (watts_at []) ps
unfolding watts_at
each_of_record [] = refl
each_of_record (p ∷ ps) = rw (of_record p.terminal.equipment p.stand, each_of_record ps) refl

pub records_stand : (listed : Listed) (level : VoltageLevel) → listed ≡ [] → record_watts level ≡ level_watts listed level
unfolding record_watts level_watts
records_stand listed level none = rw none (each_of_record level.placed)
