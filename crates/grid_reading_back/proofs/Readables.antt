-- A sound network whose ids are ids and whose numbers fit is readable.
use Rattle.std.proofs.Common.{◌≡◌, ◌<◌, ◌^◌, ℕ, ℤ, pos, negsuc, List, [], ◌∷◌, Option, Some, None, refl}
use Rattle.std.specs.Prelude.{IfSome}
use Rattle.std.specs.List.{AllByRecursion, flat_map}
use Rattle.std.proofs.lemmas.Bool.{lt-ltb}
use Rattle.grid_kinds.specs.declared.Injection.{Injection}
use Rattle.grid_kinds.specs.declared.Injection.TheVariants as injections
use Rattle.grid_level.specs.declared.Placed.{Placed}
use Rattle.grid_level.specs.declared.Stand.{Stand}
use Rattle.grid_level.specs.declared.Stand.TheVariants.{Busbar, Feeder, BranchEnd}
use Rattle.grid_level.specs.declared.Switch.{Switch}
use Rattle.grid_level.specs.VoltageLevel.{VoltageLevel}
use Rattle.grid_structure.specs.declared.NamedBranch.{NamedBranch}
use Rattle.grid_structure.specs.declared.Branch.{Branch}
use Rattle.grid_structure.specs.declared.Branch.TheVariants.{Line, TwoWindings, ThreeWindings}
use Rattle.grid_structure.specs.Network.{Network, Substation}
use Rattle.grid_structure.specs.Sites.{levels, branches}
use Rattle.grid_structure.specs.Soundness.{IsSound}
use Rattle.grid_requests.specs.RequestParts.{item_numbers, shape_ids, shape_numbers}
use Rattle.grid_print.specs.Readable.{IsId, IsWhole, AreWhole, IsReadableSwitch, IsReadableInternal, IsReadableBusbar, IsReadableInjection, IsReadableLevel, IsReadableShape, IsReadableBranch, IsReadable}
use Rattle.grid_print.proofs.Each.{of_each}
use Rattle.grid_print.proofs.ReadableNetworks.{network_readable}
use Rattle.grid_reading_back.proofs.Networks.{SwitchKeeps, InternalKeeps, PlacedKeeps, LevelKeeps, BranchKeeps, SubstationKeeps, NetworkKeeps}
use Rattle.grid_reading_back.proofs.Legible.{IsSigned}
use Rattle.grid_reading_back.proofs.EditRules.{join, levels_keep}

pub is_whole : (z : ℤ) → IsSigned z → IsWhole z
is_whole (pos n) fits = lt-ltb n (2 ^ 63) fits
is_whole (negsuc n) fits = refl

pub each_weaker : {A : Type 0} (R S : A → Type 0) → ((x : A) → R x → S x) → (xs : List A) → AllByRecursion R xs → AllByRecursion S xs
each_weaker R S weaker [] all = tt
each_weaker R S weaker (x ∷ xs) all = (weaker x all.0, each_weaker R S weaker xs all.1)

some_whole : (o : Option ℤ) → IfSome o IsSigned → IfSome o IsWhole
some_whole None fits = tt
some_whole (Some z) fits = is_whole z fits

item_whole : (x : Injection) → AllByRecursion IsSigned (item_numbers x) → AreWhole x
item_whole (injections.Load p0 q0) fit = (is_whole p0 fit.0, is_whole q0 fit.1.0)
item_whole (injections.Generator target_p target_v min_p max_p) fit = (is_whole target_p fit.0, is_whole target_v fit.1.0, is_whole min_p fit.1.1.0, is_whole max_p fit.1.1.1.0)
item_whole (injections.Battery target_p target_q min_p max_p) fit = (is_whole target_p fit.0, is_whole target_q fit.1.0, is_whole min_p fit.1.1.0, is_whole max_p fit.1.1.1.0)
item_whole (injections.ShuntCompensator section_count max_sections) fit = (is_whole section_count fit.0, is_whole max_sections fit.1.0)
item_whole (injections.StaticVarCompensator target_q) fit = is_whole target_q fit.0
item_whole (injections.ConverterStation target_q) fit = is_whole target_q fit.0

-- the rule of ids
module _ (P : List ℕ → Type 0) (is_id : (id : List ℕ) → P id → IsId id) where
  switch_readable : (s : Switch) → SwitchKeeps P IsSigned s → IsReadableSwitch s
  switch_readable s keeps = (is_id s.id keeps.0, keeps.1, keeps.2)

  busbar_readable : (id : List ℕ) (node : ℕ) (stand : Stand) → P id → node < 2 ^ 63 → IsReadableBusbar id node stand
  busbar_readable id node Busbar valid fits = (is_id id valid, fits)
  busbar_readable id node (Feeder x) valid fits = tt
  busbar_readable id node BranchEnd valid fits = tt

  injection_readable : (p : Placed) (stand : Stand) → p.stand ≡ stand → PlacedKeeps P IsSigned p → IsReadableInjection p.terminal.equipment p.node stand
  injection_readable p Busbar is keeps = tt
  injection_readable p (Feeder x) is keeps = (is_id p.terminal.equipment keeps.0, keeps.1, item_whole x (rw is at keeps.2))
  injection_readable p BranchEnd is keeps = tt

  level_readable : (l : VoltageLevel) → LevelKeeps P IsSigned l → IsReadableLevel l
  level_readable l keeps = record {
    id = is_id l.id keeps.id;
    nominal = is_whole l.nominal_v keeps.nominal;
    low = some_whole l.low_v keeps.low;
    high = some_whole l.high_v keeps.high;
    busbars = of_each (λ p. IsReadableBusbar p.terminal.equipment p.node p.stand) l.placed
        (each_weaker (PlacedKeeps P IsSigned) (λ p. IsReadableBusbar p.terminal.equipment p.node p.stand) (λ p k. busbar_readable p.terminal.equipment p.node p.stand k.0 k.1) l.placed keeps.placed);
    switches = of_each IsReadableSwitch l.switches (each_weaker (SwitchKeeps P IsSigned) IsReadableSwitch switch_readable l.switches keeps.switches);
    internals = of_each IsReadableInternal l.internals (each_weaker (InternalKeeps P IsSigned) IsReadableInternal (λ i k. (k.0, k.1)) l.internals keeps.internals);
    injections = of_each (λ p. IsReadableInjection p.terminal.equipment p.node p.stand) l.placed
        (each_weaker (PlacedKeeps P IsSigned) (λ p. IsReadableInjection p.terminal.equipment p.node p.stand) (λ p k. injection_readable p p.stand refl k) l.placed keeps.placed);
  }

  shape_readable : (shape : Branch) → AllByRecursion P (shape_ids shape) → AllByRecursion IsSigned (shape_numbers shape) → IsReadableShape shape
  shape_readable (Line end1 end2) ids fit = ((is_id end1.level ids.0, is_whole end1.node fit.0), (is_id end2.level ids.1.0, is_whole end2.node fit.1.0))
  shape_readable (TwoWindings substation end1 end2 rated_u1 rated_u2) ids fit =
      ((is_id end1.level ids.1.0, is_whole end1.node fit.0), ((is_id end2.level ids.1.1.0, is_whole end2.node fit.1.0), (is_whole rated_u1 fit.1.1.0, is_whole rated_u2 fit.1.1.1.0)))
  shape_readable (ThreeWindings substation end1 end2 end3 rated_u1 rated_u2 rated_u3) ids fit = (
    (is_id end1.level ids.1.0, is_whole end1.node fit.0),
    (
      (is_id end2.level ids.1.1.0, is_whole end2.node fit.1.0),
      ((is_id end3.level ids.1.1.1.0, is_whole end3.node fit.1.1.0), (is_whole rated_u1 fit.1.1.1.0, (is_whole rated_u2 fit.1.1.1.1.0, is_whole rated_u3 fit.1.1.1.1.1.0))),
    ),
  )

  branch_readable : (b : NamedBranch) → BranchKeeps P IsSigned b → IsReadableBranch b
  branch_readable b keeps = (is_id b.id keeps.0, shape_readable b.shape keeps.1 keeps.2)

  transformers_keep : (ss : List Substation) → AllByRecursion (SubstationKeeps P IsSigned) ss → AllByRecursion (BranchKeeps P IsSigned) (flat_map (λ s. s.transformers) ss)
  transformers_keep [] all = tt
  transformers_keep (s ∷ ss) all = join (BranchKeeps P IsSigned) s.transformers (flat_map (λ t. t.transformers) ss) all.0.transformers (transformers_keep ss all.1)

  pub kept_is_readable : (net : Network) → NetworkKeeps P IsSigned net → IsSound net → IsReadable net
  unfolding levels branches
  kept_is_readable net keeps sound =
      network_readable net sound (is_id net.id keeps.id)
      (of_each (λ s. IsId s.id) net.substations (each_weaker (SubstationKeeps P IsSigned) (λ s. IsId s.id) (λ s k. is_id s.id k.id) net.substations keeps.substations))
      (of_each IsReadableLevel (levels net) (each_weaker (LevelKeeps P IsSigned) IsReadableLevel level_readable (levels net) (levels_keep P IsSigned net.substations keeps.substations)))
      (of_each IsReadableBranch (branches net) (each_weaker (BranchKeeps P IsSigned) IsReadableBranch branch_readable (branches net)
      (join (BranchKeeps P IsSigned) (flat_map (λ s. s.transformers) net.substations) net.lines (transformers_keep net.substations keeps.substations) keeps.lines)))
