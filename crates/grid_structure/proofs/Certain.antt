-- A level or a substation is found by its id wherever it stands.
use Rattle.std.proofs.Common.{◌≡◌, refl, ap, ◌∙◌, ℕ, ◌≤◌, Bool, true, false, cond, List, ◌++◌, Option, Some, None, arith}
use Rattle.std.specs.Prelude.{map, slice_get, position, is_some, Result, Err}
use Rattle.std.specs.Option.{option_map}
use Rattle.grid_ids.specs.Name.{same_id, ids_differ}
use Rattle.grid_level.specs.VoltageLevel.{VoltageLevel}
use Rattle.grid_structure.specs.declared.NamedBranch.{NamedBranch}
use Rattle.grid_structure.specs.declared.EditFault.{EditFault}
use Rattle.grid_structure.specs.declared.EditFault.TheVariants.{IdTaken}
use Rattle.grid_structure.specs.declared.ApplyFault.TheVariants.{Refused}
use Rattle.grid_structure.specs.declared.structure.Head.{Head}
use Rattle.grid_structure.specs.declared.structure.IdOwner.{IdOwner}
use Rattle.grid_structure.specs.Network.{Network, Substation}
use Rattle.grid_structure.specs.Sites.{levels, level_ids, switch_ids, equipment_ids, all_ids, taken, find_level}
use Rattle.grid_structure.specs.Indexed.{level_at, find_substation}
use Rattle.grid_structure.specs.Cutting.{network_of}
use Rattle.grid_structure.specs.Editing.{IsTold}
use Rattle.grid_structure.specs.Kept.{IsKept}
use Rattle.grid_structure.proofs.Found.{taken_by}
use Rattle.grid_structure.proofs.FlatNetworks.{kept_levels}
use Rattle.grid_structure.proofs.Counts.{times, times-append, differ-times, times-differ}
use Rattle.grid_structure.proofs.Substations.{sub_ids_once}
use Rattle.grid_structure.proofs.BranchRemovals.{place_sure}

-- no two levels have one id
level_once : (net : Network) (q : List ℕ) → ids_differ (all_ids net) ≡ true → times q (level_ids net) ≤ 1
unfolding all_ids
level_once net q differ =
    let subs = map (λ (s : Substation). s.id) net.substations in
    let once = differ-times (all_ids net) differ q in
    omega (arith, once, times-append q ((subs ++ level_ids net) ++ switch_ids net) (equipment_ids net), times-append q (subs ++ level_ids net) (switch_ids net), times-append q subs (level_ids net))

pub level_sure : (net : Network) (q : List ℕ) (k : ℕ) → ids_differ (all_ids net) ≡ true → option_map (λ (l : VoltageLevel). same_id q l.id) (slice_get (levels net) k) ≡ Some true → find_level net q ≡ Some k
unfolding find_level level_ids
level_sure net q k differ named = place_sure (λ (l : VoltageLevel). l.id) q (levels net) k (level_once net q differ) named

named_so : (name : List ℕ) (q : List ℕ) (o : Option Substation) → option_map (λ (s : Substation). s.id) o ≡ Some name → same_id q name ≡ true → option_map (λ (s : Substation). same_id q s.id) o ≡ Some true
named_so name q (Some s) e h = let same : s.id ≡ name = cc in ap (λ t. Some t) (ap (same_id q) same ∙ h)
named_so name q None e h = cc

pub substation_sure : (net : Network) (q name : List ℕ) (k : ℕ) → ids_differ (all_ids net) ≡ true → option_map (λ (s : Substation). s.id) (slice_get net.substations k) ≡ Some name → same_id q name ≡ true
    → find_substation net q ≡ Some k
unfolding find_substation
substation_sure net q name k differ named same =
    place_sure (λ (s : Substation). s.id) q net.substations k (sub_ids_once net (differ-times (all_ids net) differ) q) (named_so name q (slice_get net.substations k) named same)

-- ---- what the flat list of levels keeps: their ids differ, and the table finds each

pub kept_differ : {id : List ℕ} {heads : List Head} {ls : List VoltageLevel} {ts lines : List NamedBranch} {count : ℕ} {look : List ℕ → Option IdOwner} {places : List ℕ}
    → IsKept id heads ls ts lines count look places → ids_differ (map (λ (l : VoltageLevel). l.id) ls) ≡ true
unfolding level_ids
kept_differ {id} {heads} {ls} {ts} {lines} k =
    let net = network_of id heads ls ts lines in
    rw (kept_levels k) at (times-differ (level_ids net) (λ q. level_once net q k.sound.ids))

pub kept_found : {id : List ℕ} {heads : List Head} {ls : List VoltageLevel} {ts lines : List NamedBranch} {count : ℕ} {look : List ℕ → Option IdOwner} {places : List ℕ}
    → IsKept id heads ls ts lines count look places → (q : List ℕ) → position (λ (l : VoltageLevel). same_id q l.id) ls ≡ level_at places (look q)
unfolding find_level
kept_found k q = rw (kept_levels k) at (k.indexed.levels_found q)

-- ---- which ids are taken, and what is told first

pub kept_taken : {id : List ℕ} {heads : List Head} {ls : List VoltageLevel} {ts lines : List NamedBranch} {count : ℕ} {look : List ℕ → Option IdOwner} {places : List ℕ}
    → IsKept id heads ls ts lines count look places → (q : List ℕ) → is_some (look q) ≡ true → taken (network_of id heads ls ts lines) q ≡ true
kept_taken {look = look} {places} k q some = taken_by look places _ q k.indexed ∙ some

pub kept_free : {id : List ℕ} {heads : List Head} {ls : List VoltageLevel} {ts lines : List NamedBranch} {count : ℕ} {look : List ℕ → Option IdOwner} {places : List ℕ}
    → IsKept id heads ls ts lines count look places → (q : List ℕ) → look q ≡ None → taken (network_of id heads ls ts lines) q ≡ false
kept_free {look = look} {places} k q none = taken_by look places _ q k.indexed ∙ ap is_some none

pub taken_first : (t : Bool) (answer : Result Network EditFault) (fault : EditFault) → (t ≡ true → answer ≡ Err IdTaken) → (t ≡ false → answer ≡ Err fault) → IsTold answer (Refused (cond t IdTaken fault))
taken_first true answer fault had free = had refl
taken_first false answer fault had free = free refl
