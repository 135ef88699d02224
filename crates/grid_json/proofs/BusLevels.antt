-- Which levels have configured buses, by the set of their ids.
use Rattle.std.proofs.Common.{◌≡◌, refl, ap, ◌∙◌, ℕ, Bool, ◌||◌, List, [], ◌∷◌, ◌++◌, Result, Ok, Err}
use Rattle.grid_lemmas.proofs.Bools.{or_false}
use Rattle.grid_ids.specs.Name.{same_id, has_id}
use Rattle.grid_ids.proofs.Alike.{has_join}
use Rattle.grid_structure.specs.Network.{Network, empty_of}
use Rattle.grid_json.specs.declared.fault.Fault.{Fault}
use Rattle.grid_json.specs.declared.fault.ReadError.{ReadError}
use Rattle.grid_json.specs.declared.fault.ReadError.TheVariants as errors
use Rattle.grid_json.specs.Seen.{Knows}
use Rattle.grid_json.specs.Loading.{Leads, Loaded, nothing_of, with_bus_level}

just_one : (id q : List ℕ) → has_id (id ∷ []) q ≡ same_id q id
unfolding has_id
just_one id q = or_false (same_id q id)

one_more : (old new : List (List ℕ)) (id q : List ℕ) → Knows new (old ++ id ∷ []) → has_id new q ≡ (has_id old q || same_id q id)
one_more old new id q known = known q ∙ has_join old (id ∷ []) q ∙ ap (λ t. has_id old q || t) (just_one id q)

pub one_level_more : (old new : List (List ℕ)) (id : List ℕ) → Knows new (old ++ id ∷ []) → ◌≡◌ {A = List ℕ → Bool} (λ q. has_id new q) (λ q. has_id old q || same_id q id)
one_level_more old new id known = λ i q. one_more old new id q known i

-- a level with configured buses more
pub leads_with : (new : Network) (r : Result (Unit {0}) ReadError) (wanted : Result Network Fault) (s : Loaded) (id : List ℕ) (levels : List ℕ → Bool) → levels ≡ (λ q. s.bus_levels q || same_id q id) → Leads new r wanted
    → Leads (record { network = new; bus_levels = levels }) r (with_bus_level id s wanted)
leads_with new (Ok u) wanted s id levels same h = rw (h, same) refl
leads_with new (Err errors.Memory) wanted s id levels same h = tt
leads_with new (Err (errors.Fault f)) wanted s id levels same h = rw h refl

pub nothing_loaded : (net : Network) (levels : List (List ℕ)) (id : List ℕ) → net ≡ empty_of id → levels ≡ [] → ◌≡◌ {A = Loaded} (record { network = net; bus_levels = λ q. has_id levels q }) (nothing_of id)
unfolding has_id
nothing_loaded net levels id empty none = rw (empty, none) refl
