-- A substation more.
use Rattle.std.proofs.Common.{◌≡◌, refl, sym, ap, ◌∙◌, ℕ, suc, ◌+◌, ◌<◌, ◌^◌, Bool, true, false, cond, List, [], ◌∷◌, ◌++◌, length, arith, Option, Some, None, drop}
use Rattle.std.specs.Prelude.{position, Ok, Err}
use Rattle.std.specs.Option.{option_map}
use Rattle.std.specs.Str.{bytes_eq}
use Rattle.std.proofs.lemmas.List.{length-append}
use Rattle.grid_lemmas.proofs.Lists.{position-cons}
use Rattle.grid_ids.specs.Name.{same_id}
use Rattle.grid_ids.proofs.Alike.{same_swap}
use Rattle.grid_level.specs.VoltageLevel.{VoltageLevel}
use Rattle.grid_structure.specs.declared.NamedBranch.{NamedBranch}
use Rattle.grid_structure.specs.declared.structure.IdOwner.{IdOwner}
use Rattle.grid_structure.specs.declared.structure.IdOwner.TheVariants as entries
use Rattle.grid_structure.specs.declared.structure.Head.{Head}
use Rattle.grid_structure.specs.declared.Edit.TheVariants.{AddSubstation}
use Rattle.grid_structure.specs.declared.EditFault.TheVariants as faults
use Rattle.grid_structure.specs.Network.{Network, Substation}
use Rattle.grid_structure.specs.Sites.{switches, taken}
use Rattle.grid_structure.specs.Editing.{apply}
use Rattle.grid_structure.specs.Cutting.{cut, level_total, transformer_total, network_of}
use Rattle.grid_structure.specs.Indexed.{substation_at, level_at, switch_at, sides_at, terminal_at, is_within, has_switch, has_terminal}
use Rattle.grid_structure.specs.Kept.{IsKept}
use Rattle.grid_structure.proofs.Soundly.{apply_sound}
use Rattle.grid_structure.proofs.Frames.{is_same, switch_total, switches_counted}
use Rattle.grid_structure.proofs.FlatNetworks.{kept_levels, levels-network_of}
use Rattle.grid_structure.proofs.Flat.{IsFlat, turned, from_flat, sides_over}
use Rattle.grid_structure.proofs.LevelChanges.{kept_flat}
use Rattle.grid_structure.proofs.SwitchAdditions.{finds_nothing}

pub position_push_other : {X : Type 0} (p : X → Bool) (xs : List X) (x : X) → p x ≡ false → position p (xs ++ x ∷ []) ≡ position p xs
position_push_other p [] x h = position-cons p x [] ∙ rw h refl
position_push_other p (y ∷ xs) x h = position-cons p y (xs ++ x ∷ []) ∙ (rw (position_push_other p xs x h) (sym (position-cons p y xs)))

pub position_push_new : {X : Type 0} (p : X → Bool) (xs : List X) (x : X) → position p xs ≡ None → p x ≡ true → position p (xs ++ x ∷ []) ≡ Some (length xs)
position_push_new p [] x e h = position-cons p x [] ∙ rw h refl
position_push_new {X} p (y ∷ xs) x e h = position-cons p y (xs ++ x ∷ []) ∙ by (p y) (rw (position-cons p y xs) at e) (λ f. position_push_new p xs x f h)
  where
    none_suc : (o : Option ℕ) → option_map suc o ≡ None → o ≡ None
    none_suc (Some j) e = cc
    none_suc None e = refl

    by : (t : Bool) → ◌≡◌ {A = Option ℕ} (cond t (Some 0) (option_map suc (position p xs))) None → (position p xs ≡ None → position p (xs ++ x ∷ []) ≡ Some (length xs))
        → ◌≡◌ {A = Option ℕ} (cond t (Some 0) (option_map suc (position p (xs ++ x ∷ [])))) (Some (suc (length xs)))
    by true e again = cc
    by false e again = ap (option_map suc) (again (none_suc (position p xs) e))

abbrev pub bare : List ℕ → Head
bare e = record { id = e; levels = 0; transformers = 0 }

cut_push : (e : List ℕ) (heads : List Head) (ls : List VoltageLevel) (ts : List NamedBranch) → cut (heads ++ bare e ∷ []) ls ts ≡ cut heads ls ts ++ record { id = e; levels = []; transformers = [] } ∷ []
unfolding cut
cut_push e [] ls ts = refl
cut_push e (h ∷ heads) ls ts = rw (cut_push e heads (drop h.levels ls) (drop h.transformers ts)) refl

total_push : (e : List ℕ) (heads : List Head) → level_total (heads ++ bare e ∷ []) ≡ level_total heads
unfolding level_total
total_push e [] = omega arith
total_push e (h ∷ heads) = omega (arith, total_push e heads)

many_push : (e : List ℕ) (heads : List Head) → transformer_total (heads ++ bare e ∷ []) ≡ transformer_total heads
unfolding transformer_total
many_push e [] = omega arith
many_push e (h ∷ heads) = omega (arith, many_push e heads)

module _ {id : List ℕ} {heads : List Head} {ls : List VoltageLevel} {ts lines : List NamedBranch} {count : ℕ} {look : List ℕ → Option IdOwner} {places : List ℕ} (kept : IsKept id heads ls ts lines count look places) where
  abbrev net : Network
  net = network_of id heads ls ts lines

  pub head_done : (e : List ℕ) → taken net e ≡ false → apply net (AddSubstation e) ≡ Ok (network_of id (heads ++ bare e ∷ []) ls ts lines)
  unfolding apply
  head_done e free = rw free (ap (λ (z : List Substation). Ok (record net { substations = z })) (sym (cut_push e heads ls ts)))

  pub head_taken : (e : List ℕ) → taken net e ≡ true → apply net (AddSubstation e) ≡ Err faults.IdTaken
  unfolding apply
  head_taken e h = rw h refl

  head_flat : (e : List ℕ) (place : ℕ) (other : List ℕ → Option IdOwner) → look e ≡ None → place ≡ length heads → ((q : List ℕ) → other q ≡ cond (bytes_eq e q) (Some (entries.Substation place)) (look q))
      → IsFlat other places (heads ++ bare e ∷ []) ls (ts ++ lines)
  head_flat e place other none at is =
      let f = kept_flat kept in
      let entry = Some (entries.Substation place) in
      record {
        substations = turned look other e entry is (λ q o. position (λ (h : Head). same_id q h.id) (heads ++ bare e ∷ []) ≡ substation_at o)
            (position_push_new (λ (h : Head). same_id e h.id) heads (bare e) (f.substations e ∙ ap substation_at none) (is_same e e refl) ∙ ap (λ z. Some z) (sym at))
            (λ q h. position_push_other (λ (h : Head). same_id q h.id) heads (bare e) (same_swap e q h) ∙ f.substations q);
        levels_found = turned look other e entry is (λ q o. position (λ (l : VoltageLevel). same_id q l.id) ls ≡ level_at places o) (f.levels_found e ∙ ap (level_at places) none) (λ q h. f.levels_found q);
        switches_found = turned look other e entry is (λ q o. position (has_switch q) ls ≡ switch_at places o) (f.switches_found e ∙ ap (switch_at places) none) (λ q h. f.switches_found q);
        sides_found = turned look other e entry is (λ q o. sides_over ls (ts ++ lines) q ≡ sides_at o) (f.sides_found e ∙ ap sides_at none) (λ q h. f.sides_found q);
        terminals = λ q side. turned look other e entry is (λ q o. position (has_terminal q side) ls ≡ terminal_at places side o) (f.terminals e side ∙ ap (terminal_at places side) none) (λ q h. f.terminals q side) q;
        within = turned look other e entry is (λ q o. is_within (length places) o ≡ true) refl (λ q h. f.within q);
        each_level = f.each_level;
        below = f.below;
      }

  pub head_kept : (e : List ℕ) (place : ℕ) (other : List ℕ → Option IdOwner) → taken net e ≡ false → place ≡ length heads → place + 1 < 2 ^ 32
      → ((q : List ℕ) → other q ≡ cond (bytes_eq e q) (Some (entries.Substation place)) (look q)) → IsKept id (heads ++ bare e ∷ []) ls ts lines count other places
  head_kept e place other free at few is =
      let many : length ls ≡ level_total (heads ++ bare e ∷ []) = kept.level_count ∙ sym (total_push e heads) in
      let much : length ts ≡ transformer_total (heads ++ bare e ∷ []) = kept.transformer_count ∙ sym (many_push e heads) in
      let now = network_of id (heads ++ bare e ∷ []) ls ts lines in
      let had : length (switches net) ≡ switch_total ls = switches_counted net ∙ ap switch_total (kept_levels kept) in
      let has : length (switches now) ≡ switch_total ls = switches_counted now ∙ ap switch_total (levels-network_of id (heads ++ bare e ∷ []) ls ts lines many) in
      record {
        sound = apply_sound net now (AddSubstation e) (head_done e free) kept.sound;
        level_count = many;
        transformer_count = much;
        switch_count = kept.switch_count ∙ had ∙ sym has;
        few_substations = omega (arith, length-append heads (bare e ∷ []));
        few_branches = kept.few_branches;
        indexed = from_flat id (heads ++ bare e ∷ []) ls ts lines many much other places (head_flat e place other (finds_nothing kept e free) at is);
      }
