-- An equipment less in a structure.
use Rattle.std.proofs.Common.{◌≡◌, refl, sym, ap, ◌∙◌, subst, ℕ, zero, suc, ◌+◌, ◌<◌, ◌≤◌, Bool, true, false, cond, not, ◌||◌, ◌&&◌, List, [], ◌∷◌, ◌++◌, length, arith, Option, Some, None, inl, inr}
use Rattle.std.specs.Prelude.{map, filter, find, position, slice_get, is_some, nat_lt, ◌==◌, IfSome, Ok, Err}
use Rattle.std.specs.List.{list_any, list_all}
use Rattle.std.specs.Str.{bytes_eq}
use Rattle.std.proofs.lemmas.Bool.{false≢true, or_cases, and_from, eq-eqb}
use Rattle.std.proofs.lemmas.List.{map-append}
use Rattle.std.proofs.lemmas.List.Elements.{filter-append}
use Rattle.grid_lemmas.proofs.Lists.{length_map, position_map}
use Rattle.grid_ids.specs.Name.{same_id, has_id, ids_differ}
use Rattle.grid_level.specs.declared.Placed.{Placed}
use Rattle.grid_level.specs.VoltageLevel.{VoltageLevel}
use Rattle.grid_level.specs.LevelEdits.{level_without_equipment}
use Rattle.grid_structure.specs.declared.NamedBranch.{NamedBranch}
use Rattle.grid_structure.specs.declared.Branch.{Branch}
use Rattle.grid_structure.specs.declared.Branch.TheVariants.{Line, TwoWindings, ThreeWindings}
use Rattle.grid_structure.specs.declared.Edit.TheVariants.{RemoveEquipment}
use Rattle.grid_structure.specs.declared.EditFault.TheVariants as faults
use Rattle.grid_structure.specs.declared.structure.IdOwner.{IdOwner}
use Rattle.grid_structure.specs.declared.structure.IdOwner.TheVariants as entries
use Rattle.grid_structure.specs.declared.structure.Head.{Head}
use Rattle.grid_structure.specs.Network.{Network, Substation}
use Rattle.grid_structure.specs.Sites.{levels, switches, equipment_ids, branch_ends}
use Rattle.grid_structure.specs.Editing.{apply, with_levels, substation_without, without_branch}
use Rattle.grid_structure.specs.Cutting.{level_total, network_of}
use Rattle.grid_structure.specs.Clearing.{IsDropped, cleared}
use Rattle.grid_structure.specs.Indexed.{substation_at, level_at, switch_at, sides_at, terminal_at, is_within, has_switch, has_terminal}
use Rattle.grid_structure.specs.Kept.{IsKept}
use Rattle.grid_structure.proofs.Soundly.{apply_sound}
use Rattle.grid_structure.proofs.Counts.{times, times-append, times-differ}
use Rattle.grid_structure.proofs.Frames.{locals, switch_total, switches_counted}
use Rattle.grid_structure.proofs.Places.{position_found, position_alike, position_none, none_position}
use Rattle.grid_structure.proofs.Found.{equipment_there}
use Rattle.grid_structure.proofs.FlatNetworks.{kept_levels, kept_branches, levels-network_of, cut_map}
use Rattle.grid_structure.proofs.Flat.{IsFlat, turned, from_flat, has_single, sides_over}
use Rattle.grid_structure.proofs.LevelChanges.{kept_flat}
use Rattle.grid_structure.proofs.LevelInsertions.{position_heads}
use Rattle.grid_structure.proofs.Uniquely.{one_home, branch_once, local_once, names_of_branches, single_in}
use Rattle.grid_structure.proofs.BranchRemovals.{dropped_none, none_out}
use Rattle.grid_structure.proofs.TerminalRemovals.{all_cleared, is_at, mentions, one_of_three, single_other, single_own, terminal_other, terminal_own, branch_other, branch_own}
use Rattle.grid_structure.proofs.BranchEntries.{count_sides}

-- ---- tests over levels without the equipment

any_own : {X : Type 0} (t : X → Bool) (f : X → X) (xs : List X) → ((x : X) → t (f x) ≡ false) → list_any t (map f xs) ≡ false
any_own t f [] h = refl
any_own t f (x ∷ xs) h = rw (h x) (any_own t f xs h)

any_alike : {X : Type 0} (t : X → Bool) (f : X → X) (xs : List X) → ((x : X) → t (f x) ≡ t x) → list_any t (map f xs) ≡ list_any t xs
any_alike t f [] h = refl
any_alike t f (x ∷ xs) h = rw (h x, any_alike t f xs h) refl

place_alike : {X : Type 0} (t : X → Bool) (f : X → X) (xs : List X) → ((x : X) → t (f x) ≡ t x) → position t (map f xs) ≡ position t xs
place_alike {X} t f xs h = position_map t f xs ∙ position_alike (λ (x : X). t (f x)) t xs h

total_alike : (e : List ℕ) (ls : List VoltageLevel) → switch_total (map (level_without_equipment e) ls) ≡ switch_total ls
unfolding level_without_equipment
total_alike e [] = refl
total_alike e (l ∷ ls) = ap (λ n. length l.switches + n) (total_alike e ls)

-- ---- what the table finds then

pub flat_less : (look other : List ℕ → Option IdOwner) (places : List ℕ) (heads less : List Head) (ls : List VoltageLevel) (bs : List NamedBranch) (e : List ℕ) (n : ℕ) → map (λ (h : Head). h.id) less ≡ map (λ (h : Head). h.id) heads
    → sides_at (look e) ≡ Some n → ((q : List ℕ) → other q ≡ cond (bytes_eq e q) None (look q)) → IsFlat look places heads ls bs
    → IsFlat other places less (map (level_without_equipment e) ls) (without_branch e bs)
unfolding level_without_equipment has_switch
flat_less look other places heads less ls bs e n alike some is f =
    let after = map (λ (l : VoltageLevel). level_without_equipment e l) ls in
    let ids = λ (q : List ℕ). position_heads q less ∙ ap (position (same_id q)) alike ∙ sym (position_heads q heads) in
    let level = λ (q : List ℕ). position_map (λ (l : VoltageLevel). same_id q l.id) (λ (l : VoltageLevel). level_without_equipment e l) ls in
    let switch = λ (q : List ℕ). position_map (has_switch q) (λ (l : VoltageLevel). level_without_equipment e l) ls in
    record {
      substations = turned look other e None is (λ q z. position (λ (h : Head). same_id q h.id) less ≡ substation_at z) (ids e ∙ f.substations e ∙ no_substation (look e) some) (λ q h. ids q ∙ f.substations q);
      levels_found = turned look other e None is (λ q z. position (λ (l : VoltageLevel). same_id q l.id) after ≡ level_at places z) (level e ∙ f.levels_found e ∙ no_level (look e) some) (λ q h. level q ∙ f.levels_found q);
      switches_found = turned look other e None is (λ q z. position (has_switch q) after ≡ switch_at places z) (switch e ∙ f.switches_found e ∙ no_switch (look e) some) (λ q h. switch q ∙ f.switches_found q);
      sides_found = turned look other e None is (λ q z. sides_over after (without_branch e bs) q ≡ sides_at z)
          (ap (λ t. cond t (Some 1) (count_sides (find (λ (b : NamedBranch). same_id e b.id) (without_branch e bs)))) (any_own (has_single e) (λ (l : VoltageLevel). level_without_equipment e l) ls (single_own e))
          ∙ ap count_sides (branch_own e bs))
          (λ q h.
          ap (λ t. cond t (Some 1) (count_sides (find (λ (b : NamedBranch). same_id q b.id) (without_branch e bs)))) (any_alike (has_single q) (λ (l : VoltageLevel). level_without_equipment e l) ls (λ l. single_other e q l h))
          ∙ ap (λ z. cond (list_any (has_single q) ls) (Some 1) (count_sides z)) (branch_other e q bs h) ∙ f.sides_found q);
      terminals = λ q side. turned look other e None is (λ q z. position (has_terminal q side) after ≡ terminal_at places side z)
          (none_position (has_terminal e side) after (any_own (has_terminal e side) (λ (l : VoltageLevel). level_without_equipment e l) ls (terminal_own e side)))
          (λ q h. place_alike (has_terminal q side) (λ (l : VoltageLevel). level_without_equipment e l) ls (λ l. terminal_other e q side l h) ∙ f.terminals q side) q;
      within = turned look other e None is (λ q z. is_within (length places) z ≡ true) refl (λ q h. f.within q);
      each_level = f.each_level ∙ sym (length_map (λ (l : VoltageLevel). level_without_equipment e l) ls);
      below = ap (λ m. list_all (λ (place : ℕ). nat_lt place m) places) (length_map (λ (l : VoltageLevel). level_without_equipment e l) ls) ∙ f.below;
    }
  where
    no_substation : (o : Option IdOwner) → sides_at o ≡ Some n → substation_at o ≡ None
    no_substation None h = refl
    no_substation (Some (entries.Substation place)) h = cc
    no_substation (Some (entries.Level key)) h = refl
    no_substation (Some (entries.Switch key)) h = refl
    no_substation (Some (entries.Single key)) h = refl
    no_substation (Some (entries.TwoEnded key1 key2)) h = refl
    no_substation (Some (entries.ThreeEnded key1 key2 key3)) h = refl

    no_level : (o : Option IdOwner) → sides_at o ≡ Some n → level_at places o ≡ None
    no_level None h = refl
    no_level (Some (entries.Substation place)) h = refl
    no_level (Some (entries.Level key)) h = cc
    no_level (Some (entries.Switch key)) h = refl
    no_level (Some (entries.Single key)) h = refl
    no_level (Some (entries.TwoEnded key1 key2)) h = refl
    no_level (Some (entries.ThreeEnded key1 key2 key3)) h = refl

    no_switch : (o : Option IdOwner) → sides_at o ≡ Some n → switch_at places o ≡ None
    no_switch None h = refl
    no_switch (Some (entries.Substation place)) h = refl
    no_switch (Some (entries.Level key)) h = refl
    no_switch (Some (entries.Switch key)) h = cc
    no_switch (Some (entries.Single key)) h = refl
    no_switch (Some (entries.TwoEnded key1 key2)) h = refl
    no_switch (Some (entries.ThreeEnded key1 key2 key3)) h = refl

-- ---- a busbar section or an injection is no branch

pub two_or_more : (shape : Branch) → 2 ≤ length (branch_ends shape)
unfolding branch_ends
two_or_more (Line end1 end2) = omega arith
two_or_more (TwoWindings substation end1 end2 rated_u1 rated_u2) = omega arith
two_or_more (ThreeWindings substation end1 end2 end3 rated_u1 rated_u2 rated_u3) = omega arith

alone_single : (ls : List VoltageLevel) (bs : List NamedBranch) (e : List ℕ) → sides_over ls bs e ≡ Some 1 → list_any (has_single e) ls ≡ true
alone_single ls bs e h = by (list_any (has_single e) ls) (find (λ (b : NamedBranch). same_id e b.id) bs) h
  where
    by : (t : Bool) (o : Option NamedBranch) → ◌≡◌ {A = Option ℕ} (cond t (Some 1) (count_sides o)) (Some 1) → t ≡ true
    by true o h = refl
    by false (Some b) h = let same : length (branch_ends b.shape) ≡ 1 = cc in absurd (omega (arith, two_or_more b.shape, same))
    by false None h = cc

some_local : (e : List ℕ) (ls : List VoltageLevel) → list_any (has_single e) ls ≡ true → 1 ≤ locals e ls
some_local e [] h = absurd (false≢true h)
some_local e (l ∷ ls) h = elim (or_cases (has_single e l) (list_any (has_single e) ls) h) [
  | inl a ↦ omega (arith, single_in e l a)
  | inr a ↦ omega (arith, some_local e ls a)
]

module _ {id : List ℕ} {heads : List Head} {ls : List VoltageLevel} {ts lines : List NamedBranch} {count : ℕ} {look : List ℕ → Option IdOwner} {places : List ℕ} (kept : IsKept id heads ls ts lines count look places) where
  abbrev net : Network
  net = network_of id heads ls ts lines

  names_once : (q : List ℕ) → times q (names_of_branches (ts ++ lines)) ≤ 1
  names_once q = rw (kept_branches kept) at (branch_once net q kept.sound)

  names_both : (q : List ℕ) → times q (names_of_branches ts) + times q (names_of_branches lines) ≡ times q (names_of_branches (ts ++ lines))
  names_both q = sym (ap (times q) (map-append (λ (b : NamedBranch). b.id) ts lines) ∙ times-append q (names_of_branches ts) (names_of_branches lines))

  pub branches_differ : ids_differ (map (λ (b : NamedBranch). b.id) (ts ++ lines)) ≡ true
  branches_differ = times-differ (map (λ (b : NamedBranch). b.id) (ts ++ lines)) names_once

  pub nothing_removed : (e : List ℕ) → sides_at (look e) ≡ None → apply net (RemoveEquipment e) ≡ Err faults.NoSuchId
  unfolding apply
  nothing_removed e none = rw (equipment_there net e, kept.indexed.sides_found e, none) refl

  pub place_fits : (e : List ℕ) (s k : ℕ) → terminal_at places s (look e) ≡ Some k → k < length ls
  place_fits e s k h = (position_found (has_terminal e s) ls k ((kept_flat kept).terminals e s ∙ h)).0

  -- a level with a terminal of the equipment stands at the place of one of its sides
  reached : (e : List ℕ) (k : ℕ) (l : VoltageLevel) → slice_get ls k ≡ Some l → mentions e l ≡ true
      → is_at k (terminal_at places 1 (look e)) || (is_at k (terminal_at places 2 (look e)) || is_at k (terminal_at places 3 (look e))) ≡ true
  unfolding has_terminal
  reached e k l at h =
      let s = some_side l.placed h in
      let here : has_terminal e s.0 l ≡ true = s.1 in
      let found = some_place ls k l at (has_terminal e s.0) here in
      let there = some_got ls found.0 (position_found (has_terminal e s.0) ls found.0 found.1).0 in
      let passes = (position_found (has_terminal e s.0) ls found.0 found.1).1 there.0 there.1 in
      let flat : levels net ≡ ls = kept_levels kept in
      let same : found.0 ≡ k = one_home net e s.0 found.0 k kept.sound (there.0, rw flat there.1, passes) (l, rw flat at, here) in
      one_of_three places s.0 k (look e) (sym ((kept_flat kept).terminals e s.0) ∙ found.1 ∙ ap (λ z. Some z) same)
    where
      some_side : (ps : List Placed) → list_any (λ (p : Placed). same_id e p.terminal.equipment) ps ≡ true → (s : ℕ) × (list_any (λ (p : Placed). same_id e p.terminal.equipment && (p.terminal.side == s)) ps ≡ true)
      some_side [] h = absurd (false≢true h)
      some_side (p ∷ ps) h = elim (or_cases (same_id e p.terminal.equipment) (list_any (λ (p : Placed). same_id e p.terminal.equipment) ps) h) [
        | inl a ↦ (p.terminal.side, left _ _ (and_from (same_id e p.terminal.equipment) (p.terminal.side == p.terminal.side) a (eq-eqb p.terminal.side p.terminal.side refl)))
        | inr a ↦ (let k = some_side ps a in (k.0, right (same_id e p.terminal.equipment && (p.terminal.side == k.0)) _ k.1))
      ]
        where
          left : (a b : Bool) → a ≡ true → a || b ≡ true
          left true b h = refl
          left false b h = absurd (false≢true h)

          right : (a b : Bool) → b ≡ true → a || b ≡ true
          right true b h = refl
          right false b h = h

      some_place : (xs : List VoltageLevel) (k : ℕ) (l : VoltageLevel) → slice_get xs k ≡ Some l → (t : VoltageLevel → Bool) → t l ≡ true → (j : ℕ) × (position t xs ≡ Some j)
      some_place xs k l at t h = by (position t xs) refl
        where
          passes : (ys : List VoltageLevel) (n : ℕ) → slice_get ys n ≡ Some l → list_any t ys ≡ true
          passes [] n e = cc
          passes (y ∷ ys) zero e = let same : y ≡ l = cc in rw (ap t same ∙ h) refl
          passes (y ∷ ys) (suc n) e = or_right (t y) _ (passes ys n e)
            where
              or_right : (a b : Bool) → b ≡ true → a || b ≡ true
              or_right true b h = refl
              or_right false b h = h

          by : (o : Option ℕ) → position t xs ≡ o → (j : ℕ) × (position t xs ≡ Some j)
          by (Some j) q = (j, q)
          by None q = absurd (false≢true (sym (position_none t xs q) ∙ passes xs k at))

      some_got : (xs : List VoltageLevel) (n : ℕ) → n < length xs → (l : VoltageLevel) × (slice_get xs n ≡ Some l)
      some_got [] n l = absurd (omega arith)
      some_got (x ∷ xs) zero l = (x, refl)
      some_got (x ∷ xs) (suc n) l = some_got xs n (omega arith)

  pub cleared_all : (e : List ℕ) → cleared e (terminal_at places 3 (look e)) (cleared e (terminal_at places 2 (look e)) (cleared e (terminal_at places 1 (look e)) ls)) ≡ map (level_without_equipment e) ls
  cleared_all e = all_cleared e (terminal_at places 1 (look e)) (terminal_at places 2 (look e)) (terminal_at places 3 (look e)) ls (reached e)

  -- a busbar section or an injection takes no branch away
  pub single_dropped : (e : List ℕ) → sides_at (look e) ≡ Some 1 → IsDropped e heads heads ts ts × (lines ≡ without_branch e lines)
  unfolding without_branch
  single_dropped e one =
      let single = alone_single ls (ts ++ lines) e ((kept_flat kept).sides_found e ∙ one) in
      let local = some_local e ls single in
      let once : locals e ls + times e (names_of_branches (ts ++ lines)) ≤ 1 = rw (kept_levels kept, kept_branches kept) at (local_once net e kept.sound) in
      let none_ts : times e (names_of_branches ts) ≡ 0 = omega (arith, local, once, names_both e) in
      let none_lines : times e (names_of_branches lines) ≡ 0 = omega (arith, local, once, names_both e) in
      (dropped_none e heads ts none_ts kept.transformer_count, sym (none_out (λ (b : NamedBranch). b.id) e lines none_lines))

  pub equipment_done : (e : List ℕ) (n : ℕ) (less : List Head) (rest : List NamedBranch) → sides_at (look e) ≡ Some n → IsDropped e heads less ts rest
      → apply net (RemoveEquipment e) ≡ Ok (network_of id less (map (level_without_equipment e) ls) rest (without_branch e lines))
  unfolding apply with_levels
  equipment_done e n less rest some d =
      let there : has_id (equipment_ids net) e ≡ true = equipment_there net e ∙ ap is_some (kept.indexed.sides_found e ∙ some) in
      let subs = ap (map (substation_without e)) (cut_map (level_without_equipment e) heads ls ts) ∙ sym (d.substations (map (level_without_equipment e) ls)) in
      rw there (ap (λ (z : List Substation). Ok (record net { substations = z; lines = without_branch e lines })) subs)

  pub equipment_kept : (e : List ℕ) (n : ℕ) (less : List Head) (rest : List NamedBranch) (other : List ℕ → Option IdOwner) → sides_at (look e) ≡ Some n → IsDropped e heads less ts rest
      → ((q : List ℕ) → other q ≡ cond (bytes_eq e q) None (look q)) → IsKept id less (map (level_without_equipment e) ls) rest (without_branch e lines) count other places
  unfolding without_branch
  equipment_kept e n less rest other some d is =
      let after = map (λ (l : VoltageLevel). level_without_equipment e l) ls in
      let left = without_branch e lines in
      let now = network_of id less after rest left in
      let many : length after ≡ level_total less = length_map (λ (l : VoltageLevel). level_without_equipment e l) ls ∙ kept.level_count ∙ sym d.level_count in
      let had : length (switches net) ≡ switch_total ls = switches_counted net ∙ ap switch_total (kept_levels kept) in
      let has : length (switches now) ≡ switch_total ls = switches_counted now ∙ ap switch_total (levels-network_of id less after rest left many) ∙ total_alike e ls in
      let whole : without_branch e (ts ++ lines) ≡ rest ++ left = filter-append (λ (b : NamedBranch). not (same_id e b.id)) ts lines ∙ ap (λ z. z ++ left) (sym d.transformers) in
      record {
        sound = apply_sound net now (RemoveEquipment e) (equipment_done e n less rest some d) kept.sound;
        level_count = many;
        transformer_count = d.transformer_count;
        switch_count = kept.switch_count ∙ had ∙ sym has;
        few_substations = omega (arith, kept.few_substations, d.few);
        few_branches = omega (arith, kept.few_branches, ap length d.transformers, shorter ts, shorter lines);
        indexed = from_flat id less after rest left many d.transformer_count other places
            (subst (λ (z : List NamedBranch). IsFlat other places less after z) whole (flat_less look other places heads less ls (ts ++ lines) e n d.ids some is (kept_flat kept)));
      }
    where
      shorter : (bs : List NamedBranch) → length (filter (λ (b : NamedBranch). not (same_id e b.id)) bs) ≤ length bs
      shorter [] = omega arith
      shorter (b ∷ bs) = by (not (same_id e b.id)) (shorter bs)
        where
          by : (t : Bool) → length (filter (λ (b : NamedBranch). not (same_id e b.id)) bs) ≤ length bs → length (cond t (b ∷ filter (λ (b : NamedBranch). not (same_id e b.id)) bs) (filter (λ (b : NamedBranch). not (same_id e b.id)) bs)) ≤ suc (length bs)
          by true l = omega (arith, l)
          by false l = omega (arith, l)

  -- ---- what the code asks, and a busbar section or an injection less

  pub side_inside : (e : List ℕ) (s n : ℕ) (o : Option ℕ) → o ≡ terminal_at places s (look e) → n ≡ length ls → IfSome o (λ k. k < n)
  side_inside e s n None q m = tt
  side_inside e s n (Some k) q m = omega (arith, place_fits e s k (sym q), m)

  -- the level of a side, as the substations count it
  pub side_counted : (e : List ℕ) (s : ℕ) (o : Option ℕ) → o ≡ terminal_at places s (look e) → IfSome o (λ k. k < level_total heads)
  side_counted e s o q = side_inside e s (level_total heads) o q (sym kept.level_count)

  pub single_done : (e : List ℕ) (n : ℕ) → sides_at (look e) ≡ Some n → n ≡ 1 → apply net (RemoveEquipment e) ≡ Ok (network_of id heads (map (level_without_equipment e) ls) ts lines)
  single_done e n some one =
      let d = single_dropped e (some ∙ ap (λ z. Some z) one) in
      equipment_done e n heads ts some d.0 ∙ ap (λ (z : List NamedBranch). Ok (network_of id heads (map (level_without_equipment e) ls) ts z)) (sym d.1)

  pub single_kept : (e : List ℕ) (n : ℕ) (other : List ℕ → Option IdOwner) → sides_at (look e) ≡ Some n → n ≡ 1 → ((q : List ℕ) → other q ≡ cond (bytes_eq e q) None (look q))
      → IsKept id heads (map (level_without_equipment e) ls) ts lines count other places
  single_kept e n other some one is =
      let d = single_dropped e (some ∙ ap (λ z. Some z) one) in
      subst (λ (z : List NamedBranch). IsKept id heads (map (level_without_equipment e) ls) ts z count other places) (sym d.1) (equipment_kept e n heads ts other some d.0 is)
