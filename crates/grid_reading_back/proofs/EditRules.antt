-- Edits whose ids and numbers keep a rule leave a network whose ids and numbers keep it.
use Rattle.std.proofs.Common.{◌≡◌, ◌+◌, ◌≤◌, ℕ, ℤ, pos, negsuc, Bool, true, false, cond, not, List, [], ◌∷◌, ◌++◌, Option, Some, None, map, length, Result, Ok, Err, refl, ap, ◌∙◌, subst}
use Rattle.std.specs.Prelude.{IfSome, find, nat_le, nat_lt}
use Rattle.std.specs.List.{AllByRecursion, flat_map}
use Rattle.std.proofs.lemmas.Bool.{leb-true}
use Rattle.grid_ids.specs.Name.{same_id}
use Rattle.grid_ids.specs.Refusing.{refuse_if, refuse_by, found_or, map_fault}
use Rattle.grid_kinds.specs.Records.{level_fault, injection_fault}
use Rattle.grid_kinds.specs.declared.SwitchKind.{SwitchKind}
use Rattle.grid_kinds.specs.declared.Injection.{Injection}
use Rattle.grid_level.specs.declared.Placed.{Placed}
use Rattle.grid_level.specs.declared.Terminal.{Terminal}
use Rattle.grid_level.specs.declared.Switch.{Switch}
use Rattle.grid_level.specs.declared.Internal.{Internal}
use Rattle.grid_level.specs.declared.Stand.{Stand}
use Rattle.grid_level.specs.declared.Stand.TheVariants.{Busbar, Feeder, BranchEnd}
use Rattle.grid_level.specs.VoltageLevel.{VoltageLevel}
use Rattle.grid_level.specs.LevelEdits.{Unfit, node_range, too_many_nodes, max_node, max_nodes, node_of, edge_fits, terminal_fits, refuse_taken, with_placed, level_with_switch, level_with_internal, level_with_terminal}
use Rattle.grid_level.specs.Passing.{nodes, placed_at, with_node}
use Rattle.grid_level.proofs.LevelEdits.{went, fitting}
use Rattle.grid_structure.specs.declared.NamedBranch.{NamedBranch}
use Rattle.grid_structure.specs.declared.Branch.{Branch}
use Rattle.grid_structure.specs.declared.Branch.TheVariants.{Line, TwoWindings, ThreeWindings}
use Rattle.grid_structure.specs.declared.End.{End}
use Rattle.grid_structure.specs.declared.Edit.TheVariants as edits
use Rattle.grid_structure.specs.declared.EditFault.TheVariants as faults
use Rattle.grid_structure.specs.Network.{Network, Substation}
use Rattle.grid_structure.specs.Sites.{levels, switches, level_named, substation_named, taken, branch_ends, home_of}
use Rattle.grid_structure.specs.Editing.{edit_fault, max_levels, max_switches, substation_with_levels, with_levels, with_level, with_substation, in_home, place_end, place_ends, refuse_home, with_branch, apply}
use Rattle.grid_structure.proofs.OneLevel.{found}
use Rattle.grid_requests.specs.RequestParts.{item_numbers, shape_ids, shape_numbers}
use Rattle.grid_reading_back.proofs.Networks.{SwitchKeeps, InternalKeeps, StandKeeps, PlacedKeeps, LevelKeeps, BranchKeeps, SubstationKeeps, NetworkKeeps, rated_numbers}

-- ---- lists

one_more : {A : Type 0} (R : A → Type 0) (xs : List A) (x : A) → AllByRecursion R xs → R x → AllByRecursion R (xs ++ x ∷ [])
one_more R [] x all new = (new, tt)
one_more R (y ∷ xs) x all new = (all.0, one_more R xs x all.1 new)

pub join : {A : Type 0} (R : A → Type 0) (xs ys : List A) → AllByRecursion R xs → AllByRecursion R ys → AllByRecursion R (xs ++ ys)
join R [] ys first second = second
join R (x ∷ xs) ys first second = (first.0, join R xs ys first.1 second)

found_keeps : {A : Type 0} (R : A → Type 0) (t : A → Bool) (xs : List A) (x : A) → find t xs ≡ Some x → AllByRecursion R xs → R x
found_keeps R t [] x is all = cc
found_keeps {A} R t (y ∷ xs) x is all = by (t y) is (λ e. found_keeps R t xs x e all.1)
  where
    by : (b : Bool) → cond b (Some y) (find t xs) ≡ Some x → (find t xs ≡ Some x → R x) → R x
    by true e later = let same : y ≡ x = cc in subst R same all.0
    by false e later = later e

-- ---- nodes

node_is : (z : ℤ) (n : ℕ) → node_of z ≡ Ok n → (z ≡ pos n) × (n ≤ max_node)
unfolding node_of
node_is (pos k) n h = by (nat_le k max_node) refl h
  where
    by : (t : Bool) → nat_le k max_node ≡ t → ◌≡◌ {A = Result ℕ Unfit} (cond t (Ok k) (Err (node_range (pos k)))) (Ok n) → (pos k ≡ pos n) × (n ≤ max_node)
    by true low e = let same : k ≡ n = cc in (ap pos same, rw (← same) (leb-true k max_node low))
    by false low e = cc
node_is (negsuc k) n h = cc

-- a refusal told otherwise
unwrapped : (r : Result VoltageLevel Unfit) (l : VoltageLevel) → map_fault edit_fault r ≡ Ok l → r ≡ Ok l
unwrapped (Ok m) l is = cc
unwrapped (Err fault) l is = cc

-- the levels of substations that keep the rules
module _ (P : List ℕ → Type 0) (Q : ℤ → Type 0) where
  pub levels_keep : (ss : List Substation) → AllByRecursion (SubstationKeeps P Q) ss → AllByRecursion (LevelKeeps P Q) (flat_map (λ s. s.levels) ss)
  levels_keep [] all = tt
  levels_keep (s ∷ ss) all = join (LevelKeeps P Q) s.levels (flat_map (λ t. t.levels) ss) all.0.levels (levels_keep ss all.1)

-- a rule of ids, and one of numbers that the numbers of nodes keep
module _ (P : List ℕ → Type 0) (Q : ℤ → Type 0) (low : (n : ℕ) → n ≤ max_node → Q (pos n)) where
  node_keeps : (z : ℤ) (n : ℕ) → node_of z ≡ Ok n → Q (pos n)
  node_keeps z n is = low n (node_is z n is).1

  -- ---- one level

  placed_keeps : (new : Placed) (placed : List Placed) → PlacedKeeps P Q new → AllByRecursion (PlacedKeeps P Q) placed → AllByRecursion (PlacedKeeps P Q) (with_placed new placed)
  unfolding with_placed
  placed_keeps new [] fits all = (fits, tt)
  placed_keeps new (p ∷ placed) fits all = by (nat_lt p.node new.node) (placed_keeps new placed fits all.1)
    where
      by : (b : Bool) → AllByRecursion (PlacedKeeps P Q) (with_placed new placed) → AllByRecursion (PlacedKeeps P Q) (cond b (p ∷ with_placed new placed) (new ∷ p ∷ placed))
      by true later = (all.0, later)
      by false later = (fits, all)

  terminal_keeps : (old new : VoltageLevel) (node : ℤ) (terminal : Terminal) (stand : Stand) → level_with_terminal old node terminal stand ≡ Ok new → P terminal.equipment → StandKeeps P Q stand
      → LevelKeeps P Q old → LevelKeeps P Q new
  unfolding level_with_terminal terminal_fits
  terminal_keeps old new node terminal stand is id item keeps =
      let a = went (terminal_fits old node) _ new is in
      let b = went (node_of node) _ a.value a.is in
      let c = went (refuse_taken (placed_at old b.value)) _ a.value b.next in
      let d = went (refuse_if (nat_lt max_nodes (length (with_node b.value (nodes old)))) too_many_nodes) _ a.value c.next in
      let same_node : b.value ≡ a.value = cc (d.next) in
      let number : Q (pos a.value) = node_keeps node a.value (b.is ∙ ap Ok same_node) in
      let placed : Placed = record { node = a.value; terminal = terminal; stand = stand } in
      let made : VoltageLevel = record old { placed = with_placed placed old.placed } in
      let same : made ≡ new = cc (a.next) in
      let kept : LevelKeeps P Q made = record {
        id = keeps.id;
        nominal = keeps.nominal;
        low = keeps.low;
        high = keeps.high;
        switches = keeps.switches;
        internals = keeps.internals;
        placed = placed_keeps placed old.placed (id, number, item) keeps.placed;
      } in
      subst (LevelKeeps P Q) same kept

  switch_keeps : (old new : VoltageLevel) (id : List ℕ) (kind : SwitchKind) (node1 node2 : ℤ) (opened retained fictitious : Bool) → level_with_switch old id kind node1 node2 opened retained fictitious ≡ Ok new
      → P id → LevelKeeps P Q old → LevelKeeps P Q new
  unfolding level_with_switch
  switch_keeps old new id kind node1 node2 opened retained fictitious is valid keeps =
      let a = went (edge_fits old node1 node2) _ new is in
      let fit = fitting old node1 node2 a.value a.is in
      let switch : Switch = record { id = id; kind = kind; node1 = a.value.0; node2 = a.value.1; opened = opened; retained = retained; fictitious = fictitious } in
      let made : VoltageLevel = record old { switches = old.switches ++ switch ∷ [] } in
      let same : made ≡ new = cc (a.next) in
      let kept : LevelKeeps P Q made = record {
        id = keeps.id;
        nominal = keeps.nominal;
        low = keeps.low;
        high = keeps.high;
        switches = one_more (SwitchKeeps P Q) old.switches switch keeps.switches (valid, node_keeps node1 a.value.0 fit.first, node_keeps node2 a.value.1 fit.second);
        internals = keeps.internals;
        placed = keeps.placed;
      } in
      subst (LevelKeeps P Q) same kept

  internal_keeps : (old new : VoltageLevel) (node1 node2 : ℤ) → level_with_internal old node1 node2 ≡ Ok new → LevelKeeps P Q old → LevelKeeps P Q new
  unfolding level_with_internal
  internal_keeps old new node1 node2 is keeps =
      let a = went (edge_fits old node1 node2) _ new is in
      let fit = fitting old node1 node2 a.value a.is in
      let internal : Internal = record { node1 = a.value.0; node2 = a.value.1 } in
      let made : VoltageLevel = record old { internals = old.internals ++ internal ∷ [] } in
      let same : made ≡ new = cc (a.next) in
      let kept : LevelKeeps P Q made = record {
        id = keeps.id;
        nominal = keeps.nominal;
        low = keeps.low;
        high = keeps.high;
        switches = keeps.switches;
        internals = one_more (InternalKeeps P Q) old.internals internal keeps.internals (node_keeps node1 a.value.0 fit.first, node_keeps node2 a.value.1 fit.second);
        placed = keeps.placed;
      } in
      subst (LevelKeeps P Q) same kept

  -- ---- a level within a network

  levels_changed : (new : VoltageLevel) (ls : List VoltageLevel) → LevelKeeps P Q new → AllByRecursion (LevelKeeps P Q) ls → AllByRecursion (LevelKeeps P Q) (map (λ l. cond (same_id new.id l.id) new l) ls)
  levels_changed new [] fits all = tt
  levels_changed new (l ∷ ls) fits all = (by (same_id new.id l.id), levels_changed new ls fits all.1)
    where
      by : (b : Bool) → LevelKeeps P Q (cond b new l)
      by true = fits
      by false = all.0

  substations_changed : (new : VoltageLevel) (ss : List Substation) → LevelKeeps P Q new → AllByRecursion (SubstationKeeps P Q) ss
      → AllByRecursion (SubstationKeeps P Q) (map (substation_with_levels (λ l. cond (same_id new.id l.id) new l)) ss)
  unfolding substation_with_levels
  substations_changed new [] fits all = tt
  substations_changed new (s ∷ ss) fits all =
      (record { id = all.0.id; levels = levels_changed new s.levels fits all.0.levels; transformers = all.0.transformers }, substations_changed new ss fits all.1)

  level_put : (new : VoltageLevel) (net : Network) → LevelKeeps P Q new → NetworkKeeps P Q net → NetworkKeeps P Q (with_level new net)
  unfolding with_level with_levels
  level_put new net fits keeps = record { id = keeps.id; substations = substations_changed new net.substations fits keeps.substations; lines = keeps.lines }

  level_found : (net : Network) (id : List ℕ) (l : VoltageLevel) → found_or (level_named net id) faults.NoLevel ≡ Ok l → NetworkKeeps P Q net → LevelKeeps P Q l
  unfolding level_named levels
  level_found net id l is keeps = found_keeps (LevelKeeps P Q) (λ m. same_id id m.id) (levels net) l (found _ _ _ is) (levels_keep P Q net.substations keeps.substations)

  -- ---- a substation within a network

  substation_put : (id : List ℕ) (change : Substation → Substation) (ss : List Substation) → ((s : Substation) → SubstationKeeps P Q s → SubstationKeeps P Q (change s)) → AllByRecursion (SubstationKeeps P Q) ss
      → AllByRecursion (SubstationKeeps P Q) (map (λ s. cond (same_id id s.id) (change s) s) ss)
  substation_put id change [] kept all = tt
  substation_put id change (s ∷ ss) kept all = (by (same_id id s.id), substation_put id change ss kept all.1)
    where
      by : (b : Bool) → SubstationKeeps P Q (cond b (change s) s)
      by true = kept s all.0
      by false = all.0

  -- ---- the ends of a branch

  -- the node of a terminal that was placed
  terminal_node : (old new : VoltageLevel) (node : ℤ) (terminal : Terminal) (stand : Stand) → level_with_terminal old node terminal stand ≡ Ok new → Q node
  unfolding level_with_terminal terminal_fits
  terminal_node old new node terminal stand is =
      let a = went (terminal_fits old node) _ new is in
      let b = went (node_of node) _ a.value a.is in
      rw (node_is node b.value b.is).0 (node_keeps node b.value b.is)

  end_keeps : (home : Option (List ℕ)) (id : List ℕ) (side : ℕ) (end : End) (net new : Network) → place_end home id side end net ≡ Ok new → P id → NetworkKeeps P Q net → Q end.node × NetworkKeeps P Q new
  unfolding place_end
  end_keeps home id side end net new is valid keeps =
      let a = went (found_or (level_named net end.level) faults.NoLevel) _ new is in
      let terminal : Terminal = record { equipment = id; side = side } in
      let b = went (refuse_if (not (in_home net home end.level)) (faults.OtherSubstation side)) _ new a.next in
      let c = went (map_fault edit_fault (level_with_terminal a.value end.node terminal BranchEnd)) _ new b.next in
      let placed : level_with_terminal a.value end.node terminal BranchEnd ≡ Ok c.value = unwrapped _ c.value c.is in
      let same : with_level c.value net ≡ new = cc (c.next) in (
        terminal_node a.value c.value end.node terminal BranchEnd placed,
        subst (NetworkKeeps P Q) same (level_put c.value net (terminal_keeps a.value c.value end.node terminal BranchEnd placed valid tt (level_found net end.level a.value a.is keeps)) keeps),
      )

  ends_keep : (home : Option (List ℕ)) (id : List ℕ) (side : ℕ) (ends : List End) (net new : Network) → place_ends home id side ends net ≡ Ok new → P id → NetworkKeeps P Q net
      → AllByRecursion (λ e. Q e.node) ends × NetworkKeeps P Q new
  unfolding place_ends
  ends_keep home id side [] net new is valid keeps = let same : net ≡ new = cc in (tt, subst (NetworkKeeps P Q) same keeps)
  ends_keep home id side (end ∷ ends) net new is valid keeps =
      let a = went (place_end home id side end net) _ new is in
      let here = end_keeps home id side end net a.value a.is valid keeps in
      let later = ends_keep home id (side + 1) ends a.value new a.next valid here.1 in
      ((here.0, later.0), later.1)

  numbers_of : (shape : Branch) → AllByRecursion (λ e. Q e.node) (branch_ends shape) → AllByRecursion Q (rated_numbers shape) → AllByRecursion Q (shape_numbers shape)
  unfolding branch_ends
  numbers_of (Line end1 end2) ends rated = (ends.0, (ends.1.0, tt))
  numbers_of (TwoWindings substation end1 end2 rated_u1 rated_u2) ends rated = (ends.0, (ends.1.0, rated))
  numbers_of (ThreeWindings substation end1 end2 end3 rated_u1 rated_u2 rated_u3) ends rated = (ends.0, (ends.1.0, (ends.1.1.0, rated)))

  branch_put : (b : NamedBranch) (home : Option (List ℕ)) (net : Network) → BranchKeeps P Q b → NetworkKeeps P Q net → NetworkKeeps P Q (with_branch b home net)
  unfolding with_branch with_substation
  branch_put b None net fits keeps = record { id = keeps.id; substations = keeps.substations; lines = one_more (BranchKeeps P Q) net.lines b keeps.lines fits }
  branch_put b (Some home) net fits keeps = record {
    id = keeps.id;
    substations = substation_put home (λ s. record s { transformers = s.transformers ++ b ∷ [] }) net.substations
        (λ s kept. record { id = kept.id; levels = kept.levels; transformers = one_more (BranchKeeps P Q) s.transformers b kept.transformers fits }) keeps.substations;
    lines = keeps.lines;
  }

  -- ---- the edits

  single_keeps : (net : Network) (old new : VoltageLevel) (level id : List ℕ) (node : ℤ) (stand : Stand) → found_or (level_named net level) faults.NoLevel ≡ Ok old
      → map_fault edit_fault (level_with_terminal old node (record { equipment = id; side = 1 }) stand) ≡ Ok new → P id → StandKeeps P Q stand → NetworkKeeps P Q net → NetworkKeeps P Q (with_level new net)
  single_keeps net old new level id node stand there is valid item keeps =
      level_put new net (terminal_keeps old new node (record { equipment = id; side = 1 }) stand (unwrapped _ new is) valid item (level_found net level old there keeps)) keeps

  module _ (net new : Network) (keeps : NetworkKeeps P Q net) where
    pub substation_added : (id : List ℕ) → apply net (edits.AddSubstation id) ≡ Ok new → P id → NetworkKeeps P Q new
    unfolding apply
    substation_added id is valid =
        let a = went (refuse_if (taken net id) faults.IdTaken) _ new is in
        let fresh : Substation = record { id = id; levels = []; transformers = [] } in
        let made : Network = record net { substations = net.substations ++ fresh ∷ [] } in
        let same : made ≡ new = cc (a.next) in
        let kept : SubstationKeeps P Q fresh = record { id = valid; levels = tt; transformers = tt } in
        let done : NetworkKeeps P Q made = record { id = keeps.id; substations = one_more (SubstationKeeps P Q) net.substations fresh keeps.substations kept; lines = keeps.lines } in
        subst (NetworkKeeps P Q) same done

    pub level_added : (id substation : List ℕ) (nominal_v : ℤ) (low_v high_v : Option ℤ) → apply net (edits.AddLevel id substation nominal_v low_v high_v) ≡ Ok new → P id → Q nominal_v → IfSome low_v Q → IfSome high_v Q
        → NetworkKeeps P Q new
    unfolding apply with_substation
    level_added id substation nominal_v low_v high_v is valid nominal low high =
        let a = went (refuse_if (taken net id) faults.IdTaken) _ new is in
        let b = went (found_or (substation_named net substation) faults.NoSubstation) _ new a.next in
        let c = went (refuse_if (nat_le max_levels (length (levels net))) faults.TooManyLevels) _ new b.next in
        let d = went (refuse_by faults.Check (level_fault nominal_v low_v high_v)) _ new c.next in
        let level : VoltageLevel = record { id = id; nominal_v = nominal_v; low_v = low_v; high_v = high_v; switches = []; internals = []; placed = [] } in
        let more : Substation → Substation = λ s. record s { levels = s.levels ++ level ∷ [] } in
        let made : Network = with_substation substation more net in
        let same : made ≡ new = cc (d.next) in
        let kept : LevelKeeps P Q level = record { id = valid; nominal = nominal; low = low; high = high; switches = tt; internals = tt; placed = tt } in
        let done : NetworkKeeps P Q made = record {
          id = keeps.id;
          substations = substation_put substation more net.substations
              (λ s old. record { id = old.id; levels = one_more (LevelKeeps P Q) s.levels level old.levels kept; transformers = old.transformers }) keeps.substations;
          lines = keeps.lines;
        } in
        subst (NetworkKeeps P Q) same done

    pub busbar_added : (id level : List ℕ) (node : ℤ) → apply net (edits.AddBusbar id level node) ≡ Ok new → P id → NetworkKeeps P Q new
    unfolding apply
    busbar_added id level node is valid =
        let a = went (refuse_if (taken net id) faults.IdTaken) _ new is in
        let b = went (found_or (level_named net level) faults.NoLevel) _ new a.next in
        let c = went (map_fault edit_fault (level_with_terminal b.value node (record { equipment = id; side = 1 }) Busbar)) _ new b.next in
        let same : with_level c.value net ≡ new = cc (c.next) in
        subst (NetworkKeeps P Q) same (single_keeps net b.value c.value level id node Busbar b.is c.is valid tt keeps)

    pub switch_added : (id level : List ℕ) (kind : SwitchKind) (node1 node2 : ℤ) (opened retained fictitious : Bool) → apply net (edits.AddSwitch id level kind node1 node2 opened retained fictitious) ≡ Ok new
        → P id → NetworkKeeps P Q new
    unfolding apply
    switch_added id level kind node1 node2 opened retained fictitious is valid =
        let a = went (refuse_if (taken net id) faults.IdTaken) _ new is in
        let b = went (found_or (level_named net level) faults.NoLevel) _ new a.next in
        let c = went (refuse_if (nat_le max_switches (length (switches net))) faults.TooManySwitches) _ new b.next in
        let d = went (map_fault edit_fault (level_with_switch b.value id kind node1 node2 opened retained fictitious)) _ new c.next in
        let same : with_level d.value net ≡ new = cc (d.next) in
        subst (NetworkKeeps P Q) same
        (level_put d.value net (switch_keeps b.value d.value id kind node1 node2 opened retained fictitious (unwrapped _ d.value d.is) valid (level_found net level b.value b.is keeps)) keeps)

    pub internal_added : (level : List ℕ) (node1 node2 : ℤ) → apply net (edits.AddInternal level node1 node2) ≡ Ok new → NetworkKeeps P Q new
    unfolding apply
    internal_added level node1 node2 is =
        let b = went (found_or (level_named net level) faults.NoLevel) _ new is in
        let c = went (map_fault edit_fault (level_with_internal b.value node1 node2)) _ new b.next in
        let same : with_level c.value net ≡ new = cc (c.next) in
        subst (NetworkKeeps P Q) same (level_put c.value net (internal_keeps b.value c.value node1 node2 (unwrapped _ c.value c.is) (level_found net level b.value b.is keeps)) keeps)

    pub injection_added : (id level : List ℕ) (node : ℤ) (item : Injection) → apply net (edits.AddInjection id level node item) ≡ Ok new → P id → AllByRecursion Q (item_numbers item) → NetworkKeeps P Q new
    unfolding apply
    injection_added id level node item is valid numbers =
        let a = went (refuse_if (taken net id) faults.IdTaken) _ new is in
        let b = went (found_or (level_named net level) faults.NoLevel) _ new a.next in
        let c = went (refuse_by faults.Check (injection_fault item)) _ new b.next in
        let d = went (map_fault edit_fault (level_with_terminal b.value node (record { equipment = id; side = 1 }) (Feeder item))) _ new c.next in
        let same : with_level d.value net ≡ new = cc (d.next) in
        subst (NetworkKeeps P Q) same (single_keeps net b.value d.value level id node (Feeder item) b.is d.is valid numbers keeps)

    pub branch_added : (id : List ℕ) (shape : Branch) → apply net (edits.AddBranch id shape) ≡ Ok new → P id → AllByRecursion P (shape_ids shape) → AllByRecursion Q (rated_numbers shape) → NetworkKeeps P Q new
    unfolding apply
    branch_added id shape is valid ids rated =
        let a = went (refuse_if (taken net id) faults.IdTaken) _ new is in
        let b = went (refuse_home net shape) _ new a.next in
        let c = went (place_ends (home_of shape) id 1 (branch_ends shape) net) _ new b.next in
        let branch : NamedBranch = record { id = id; shape = shape } in
        let same : with_branch branch (home_of shape) c.value ≡ new = cc (c.next) in
        let placed = ends_keep (home_of shape) id 1 (branch_ends shape) net c.value c.is valid keeps in
        subst (NetworkKeeps P Q) same (branch_put branch (home_of shape) c.value (valid, ids, numbers_of shape placed.0 rated) placed.1)
