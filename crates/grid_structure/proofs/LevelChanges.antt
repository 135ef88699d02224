-- A level changed in place: the edit of the network, and what the structure keeps.
use Rattle.std.proofs.Common.{◌≡◌, refl, sym, ap, ◌∙◌, subst, ℕ, zero, suc, ◌+◌, ◌<◌, Bool, true, false, cond, List, [], ◌∷◌, ◌++◌, length, arith, Option, Some, None}
use Rattle.std.specs.Prelude.{find, position, slice_get, slice_set, Result, Ok, Err}
use Rattle.std.specs.Option.{option_map}
use Rattle.grid_lemmas.proofs.Lists.{position-cons}
use Rattle.grid_ids.specs.Name.{same_id}
use Rattle.grid_ids.specs.Refusing.{◌>>=◌, map_fault}
use Rattle.grid_ids.proofs.Alike.{same_is}
use Rattle.grid_level.specs.VoltageLevel.{VoltageLevel}
use Rattle.grid_level.specs.declared.LevelFault.{LevelFault}
use Rattle.grid_level.specs.LevelEdits.{Unfit, refusal_of, level_fault_of, node_range}
use Rattle.grid_structure.specs.declared.NamedBranch.{NamedBranch}
use Rattle.grid_structure.specs.declared.structure.IdOwner.{IdOwner}
use Rattle.grid_structure.specs.declared.structure.Head.{Head}
use Rattle.grid_structure.specs.declared.EditFault.{EditFault}
use Rattle.grid_structure.specs.Network.{Network}
use Rattle.grid_structure.specs.Sites.{levels, find_level, level_named, switches, all_ids}
use Rattle.grid_structure.specs.Soundness.{IsSound}
use Rattle.grid_structure.specs.Editing.{edit_fault, with_level, IsTold, told_of}
use Rattle.grid_structure.specs.Cutting.{network_of}
use Rattle.grid_structure.specs.Kept.{IsKept}
use Rattle.grid_structure.proofs.Counts.{differ-times}
use Rattle.grid_structure.proofs.Frames.{switch_total, switches_counted}
use Rattle.grid_structure.proofs.Places.{position_found, length-slice_set}
use Rattle.grid_structure.proofs.FlatNetworks.{kept_levels, levels-network_of, flat_put}
use Rattle.grid_structure.proofs.Flat.{IsFlat, to_flat, from_flat}

-- what is found by a place is found by the test
pub find_at : {X : Type 0} (p : X → Bool) (xs : List X) (k : ℕ) (x : X) → position p xs ≡ Some k → slice_get xs k ≡ Some x → find p xs ≡ Some x
find_at p [] k x e g = cc
find_at {X} p (y ∷ xs) k x e g = by (p y) (rw (position-cons p y xs) at e) (λ j. find_at p xs j x)
  where
    by : (t : Bool) → ◌≡◌ {A = Option ℕ} (cond t (Some 0) (option_map suc (position p xs))) (Some k) → ((j : ℕ) → position p xs ≡ Some j → slice_get xs j ≡ Some x → find p xs ≡ Some x)
        → ◌≡◌ {A = Option X} (cond t (Some y) (find p xs)) (Some x)
    by true e again = let z : k ≡ 0 = cc in subst (λ (n : ℕ). slice_get (y ∷ xs) n ≡ Some x) z g
    by false e again = step (position p xs) refl e
      where
        step : (o : Option ℕ) → position p xs ≡ o → option_map suc o ≡ Some k → find p xs ≡ Some x
        step (Some j) q e = let z : k ≡ suc j = cc in again j q (subst (λ (n : ℕ). slice_get (y ∷ xs) n ≡ Some x) z g)
        step None q e = cc

pub switch_total-set : (ls : List VoltageLevel) (k : ℕ) (old new : VoltageLevel) → slice_get ls k ≡ Some old → switch_total (slice_set ls k new) + length old.switches ≡ switch_total ls + length new.switches
switch_total-set [] k old new e = cc
switch_total-set (l ∷ ls) zero old new e = let same : l ≡ old = cc in omega (arith, ap (λ (z : VoltageLevel). length z.switches) same)
switch_total-set (l ∷ ls) (suc k) old new e = omega (arith, switch_total-set ls k old new e)

-- a level found by its id
pub record Level_at (net : Network) (level : List ℕ) (old : VoltageLevel) : Type 0 where
  pub named : level_named net level ≡ Some old
  pub id_is : old.id ≡ level

module _ {id : List ℕ} {heads : List Head} {ls : List VoltageLevel} {ts lines : List NamedBranch} {count : ℕ} {look : List ℕ → Option IdOwner} {places : List ℕ} (kept : IsKept id heads ls ts lines count look places) where
  abbrev net : Network
  net = network_of id heads ls ts lines

  pub level_there : (level : List ℕ) (k : ℕ) (old : VoltageLevel) → find_level net level ≡ Some k → slice_get ls k ≡ Some old → Level_at net level old
  unfolding find_level level_named
  level_there level k old found at =
      let there : slice_get (levels net) k ≡ Some old = rw (kept_levels kept) at in
      record {
        named = find_at (λ (l : VoltageLevel). same_id level l.id) (levels net) k old found there;
        id_is = sym (same_is level old.id ((position_found (λ (l : VoltageLevel). same_id level l.id) (levels net) k found).1 old there));
      }

  pub level_nowhere : (level : List ℕ) → find_level net level ≡ None → level_named net level ≡ None
  unfolding find_level level_named
  level_nowhere level e = nowhere (levels net) e
    where
      nowhere : (xs : List VoltageLevel) → position (λ (l : VoltageLevel). same_id level l.id) xs ≡ None → find (λ (l : VoltageLevel). same_id level l.id) xs ≡ None
      nowhere [] e = refl
      nowhere (x ∷ xs) e = by (same_id level x.id) (rw (position-cons (λ (l : VoltageLevel). same_id level l.id) x xs) at e) (nowhere xs)
        where
          by : (t : Bool) → ◌≡◌ {A = Option ℕ} (cond t (Some 0) (option_map suc (position (λ (l : VoltageLevel). same_id level l.id) xs))) None
              → (position (λ (l : VoltageLevel). same_id level l.id) xs ≡ None → find (λ (l : VoltageLevel). same_id level l.id) xs ≡ None)
              → ◌≡◌ {A = Option VoltageLevel} (cond t (Some x) (find (λ (l : VoltageLevel). same_id level l.id) xs)) None
          by true e again = cc
          by false e again = again (none (position (λ (l : VoltageLevel). same_id level l.id) xs) e)
            where
              none : (o : Option ℕ) → option_map suc o ≡ None → o ≡ None
              none (Some j) e = cc
              none None e = refl

  -- a level that has a place is there
  pub some_level : (level : List ℕ) (k : ℕ) → find_level net level ≡ Some k → (old : VoltageLevel) × (level_named net level ≡ Some old)
  unfolding find_level level_named
  some_level level k found = (by (slice_get (levels net) k) refl)
    where
      inside : (xs : List VoltageLevel) (n : ℕ) → n < length xs → slice_get xs n ≡ None → ⊥
      inside [] n l e = absurd (omega arith)
      inside (x ∷ xs) zero l e = cc
      inside (x ∷ xs) (suc n) l e = inside xs n (omega arith) e

      by : (o : Option VoltageLevel) → slice_get (levels net) k ≡ o → (old : VoltageLevel) × (find (λ (l : VoltageLevel). same_id level l.id) (levels net) ≡ Some old)
      by (Some old) e = (old, find_at (λ (l : VoltageLevel). same_id level l.id) (levels net) k old found e)
      by None e = absurd (inside (levels net) k (position_found (λ (l : VoltageLevel). same_id level l.id) (levels net) k found).0 e)

  pub level_put : (level : List ℕ) (k : ℕ) (old new : VoltageLevel) → find_level net level ≡ Some k → slice_get ls k ≡ Some old → new.id ≡ old.id → with_level new net ≡ network_of id heads (slice_set ls k new) ts lines
  level_put level k old new found at same =
      let there = level_there level k old found at in
      flat_put id heads ls ts lines new k kept.level_count (differ-times (all_ids net) kept.sound.ids) (rw (same, there.id_is) found)

  -- the structure with the level changed, its counts and its table given
  pub level_kept : (k : ℕ) (old new : VoltageLevel) (more : ℕ) (other : List ℕ → Option IdOwner) → slice_get ls k ≡ Some old → IsSound (network_of id heads (slice_set ls k new) ts lines)
      → more + length old.switches ≡ count + length new.switches → IsFlat other places heads (slice_set ls k new) (ts ++ lines) → IsKept id heads (slice_set ls k new) ts lines more other places
  level_kept k old new more other at sound sum flat =
      let count_is : length (slice_set ls k new) ≡ length ls = length-slice_set ls k new in
      let now = network_of id heads (slice_set ls k new) ts lines in
      let had : length (switches net) ≡ switch_total ls = switches_counted net ∙ ap switch_total (kept_levels kept) in
      let has : length (switches now) ≡ switch_total (slice_set ls k new) = switches_counted now ∙ ap switch_total (levels-network_of id heads (slice_set ls k new) ts lines (count_is ∙ kept.level_count)) in
      record {
        sound = sound;
        level_count = count_is ∙ kept.level_count;
        transformer_count = kept.transformer_count;
        switch_count = omega (arith, had, has, sum, kept.switch_count, switch_total-set ls k old new at);
        few_substations = kept.few_substations;
        few_branches = kept.few_branches;
        indexed = from_flat id heads (slice_set ls k new) ts lines (count_is ∙ kept.level_count) kept.transformer_count other places flat;
      }

  pub kept_flat : IsFlat look places heads ls (ts ++ lines)
  kept_flat = to_flat id heads ls ts lines kept.level_count kept.transformer_count look places kept.indexed

-- ---- what a call answers

pub told_refusal : (r : Result VoltageLevel Unfit) (f : VoltageLevel → Result Network EditFault) (fault : LevelFault) → fault ≡ refusal_of r → IsTold (map_fault edit_fault r >>= f) (told_of fault)
unfolding refusal_of level_fault_of edit_fault
told_refusal (Ok x) f fault e = rw e tt
told_refusal (Err (node_range node)) f fault e = rw e refl
told_refusal (Err unfit) f fault e = rw e refl
