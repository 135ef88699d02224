-- What each live variant lists is there, step by step.
use Rattle.std.proofs.Common.{◌≡◌, refl, sym, ap, ◌∙◌, subst, ℕ, Bool, true, false, List, ◌∷◌}
use Rattle.std.specs.Prelude.{Ok}
use Rattle.grid_ids.specs.Name.{same_id, has_id}
use Rattle.grid_ids.proofs.Alike.{same_is}
use Rattle.grid_structure.specs.declared.Edit.{Edit}
use Rattle.grid_structure.specs.Network.{Network}
use Rattle.grid_structure.specs.Editing.{apply}
use Rattle.grid_structure.specs.Soundness.{IsSound}
use Rattle.grid_watts.specs.Nodes.{IsListing}
use Rattle.grid_watts.specs.Moved.{HasNarrowRecord}
use Rattle.grid_core.specs.Solo.{State, changed_state, solo}
use Rattle.grid_core.specs.History.{Command, live, is_live}
use Rattle.grid_core.specs.Replies.{state_of}
use Rattle.grid_core.specs.Machines.{AllListing}
use Rattle.grid_core.proofs.Lineages.{has-with_name, removed_source}
use Rattle.grid_core.proofs.StepEffects.{Unmoved, Switched, Edited, Cloned as CloneStep, Removed, Used}
use Rattle.grid_watts.proofs.Listings.{edits_keep}

module _ (origin : Network) (before : List Command) (step : Command) (net : Network) (all : AllListing origin before net) where
  -- a name that was live, in a state that lists the same
  as_before : (u v : List ℕ) → is_live before v ≡ true → state_of origin (step ∷ before) u ≡ state_of origin before v → IsListing net (state_of origin (step ∷ before) u).powers
  as_before u v was same = subst (λ (s : State). IsListing net s.powers) (sym same) (all v was)

  still_live : live (step ∷ before) ≡ live before → (v : List ℕ) → is_live (step ∷ before) v ≡ true → is_live before v ≡ true
  unfolding is_live
  still_live same v alive = ap (λ ns. has_id ns v) (sym same) ∙ alive

  pub listing_unmoved : Unmoved origin before step → AllListing origin (step ∷ before) net
  listing_unmoved u v alive = as_before v v (still_live u.live_is v alive) (u.state_is v)

  pub listing_used : (name : List ℕ) → Used origin before step name → AllListing origin (step ∷ before) net
  listing_used name u v alive = as_before v v (still_live u.live_is v alive) (u.state_is v)

  -- one variant is as the machine of one variant leaves it
  pub listing_switched : (v : List ℕ) → Switched origin before step v → IsListing net (solo (state_of origin before v) step.request).0.powers → AllListing origin (step ∷ before) net
  listing_switched v s own u alive = by (same_id u v) refl
    where
      by : (t : Bool) → same_id u v ≡ t → IsListing net (state_of origin (step ∷ before) u).powers
      by true e = subst (λ (s : State). IsListing net s.powers) (sym (ap (state_of origin (step ∷ before)) (same_is u v e) ∙ s.own)) own
      by false e = as_before u u (still_live s.live_is u alive) (s.others u e)

  pub listing_removed : (name : List ℕ) → Removed origin before step name → AllListing origin (step ∷ before) net
  unfolding is_live
  listing_removed name r v alive = as_before v v (removed_source v name (live before) true (ap (λ ns. has_id ns v) (sym r.live_is) ∙ alive)) (r.state_is v)

  pub listing_cloned : (from to : List ℕ) → CloneStep origin before step from to → is_live before from ≡ true → AllListing origin (step ∷ before) net
  unfolding is_live
  listing_cloned from to c source u alive = by (same_id u to) refl
    where
      by : (t : Bool) → same_id u to ≡ t → IsListing net (state_of origin (step ∷ before) u).powers
      by true e = as_before u from source (ap (state_of origin (step ∷ before)) (same_is u to e) ∙ c.target)
      by false e = as_before u u (has-with_name u to (live before) e (ap (λ ns. has_id ns u) (sym c.live_is) ∙ alive)) (c.others u e)

  -- an accepted edit
  pub listing_edited : (edit : Edit) (new : Network) → Edited origin before step edit new → IsSound net → apply net edit ≡ Ok new → HasNarrowRecord edit → AllListing origin (step ∷ before) new
  unfolding changed_state
  listing_edited edit new e sound accepted narrow v alive =
      let was = still_live e.live_is v alive in
      subst (λ (s : State). IsListing new s.powers) (sym (e.each v was)) (edits_keep net new edit (state_of origin before v).powers sound accepted narrow (all v was))
