-- The switches of a level in node/breaker form by their places: first those between buses, then each terminal's
-- breaker.
use Rattle.std.proofs.Common.{◌≡◌, refl, sym, ap, ◌∙◌, ℕ, zero, suc, ◌+◌, ◌-◌, ◌<◌, false, List, [], ◌∷◌, ◌++◌, length, get_or, inl, inr, ◌⊎◌, arith}
use Rattle.std.specs.Prelude.{Some, None, map, slice_get}
use Rattle.std.specs.List.{enumerate_from}
use Rattle.std.proofs.lemmas.Bool.{cases_lt, cases_eq, eq-eqb, ne_eqb}
use Rattle.std.proofs.lemmas.Option.{slice_get-get_or, slice_get_past}
use Rattle.std.proofs.lemmas.List.{append-nil, length-append, length-map, get_or_append_left, get_or-append_right, get_or-map}
use Rattle.std.proofs.lemmas.List.FromFn.{length-enumerate_from, get_or-enumerate_from}
use Rattle.std.proofs.lemmas.List.Elements.{All-get_or}
use Rattle.grid_lemmas.proofs.Lists.{map_twice}
use Rattle.grid_level.specs.declared.Switch.{Switch}
use Rattle.grid_level.specs.Passing.{switch_edge, edges, ends}
use Rattle.grid_paths.specs.Paths.{across}
use Rattle.grid_paths.proofs.Least.{some_same, some_none}
use Rattle.grid_connect.specs.Plans.{all_ends}
use Rattle.grid_placed.specs.Places.{Joint, Outlet, PlacedLevel, PlacesFit}
use Rattle.grid_placed.specs.Translation.{joint_breaker, outlet_breaker, outlets_at, translated_level}
use Rattle.grid_placed.proofs.Nodes.{StandsWell}
use Rattle.grid_placed.proofs.BusTerminals.{absent}

-- what stands where no switch does
abbrev no_joint : Joint
no_joint = record { id = []; place1 = 0; place2 = 0; opened = false }

pub switch_count : (level : PlacedLevel) → length (translated_level level).switches ≡ length level.joints + length level.outlets
unfolding translated_level outlets_at
switch_count level =
    let one = length-map level.joints joint_breaker in
    let two = length-map (enumerate_from (length level.buses) level.outlets) outlet_breaker in
    let three = length-enumerate_from (length level.buses) level.outlets in
    length-append (map joint_breaker level.joints) (map outlet_breaker (enumerate_from (length level.buses) level.outlets)) ∙ omega (arith, one, two, three)

-- a switch between buses
pub joint_at : (level : PlacedLevel) (p : ℕ) (d : Joint) → p < length level.joints → slice_get (translated_level level).switches p ≡ Some (joint_breaker (get_or level.joints p d))
unfolding translated_level
joint_at level p d lt =
    let one = length-map level.joints joint_breaker in
    let less : p < length (map joint_breaker level.joints) = omega (arith, one, lt) in
    let all = length-append (map joint_breaker level.joints) (map outlet_breaker (outlets_at level)) in
    slice_get-get_or (map joint_breaker level.joints ++ map outlet_breaker (outlets_at level)) p (joint_breaker d) (omega (arith, all, less))
    ∙ ap Some (get_or_append_left (map joint_breaker level.joints) (map outlet_breaker (outlets_at level)) (joint_breaker d) p less
    ∙ get_or-map joint_breaker level.joints p d (joint_breaker d) lt)

-- a terminal's breaker
pub breaker_at : (level : PlacedLevel) (k p : ℕ) → p ≡ length level.joints + k → k < length level.outlets → slice_get (translated_level level).switches p ≡ Some (outlet_breaker (length level.buses + k, get_or level.outlets k absent))
unfolding translated_level outlets_at
breaker_at level k p e lt =
    let one = length-map level.joints joint_breaker in
    let two = length-map (enumerate_from (length level.buses) level.outlets) outlet_breaker in
    let three = length-enumerate_from (length level.buses) level.outlets in
    let front = map joint_breaker level.joints in
    let back = map outlet_breaker (enumerate_from (length level.buses) level.outlets) in
    let all = length-append front back in
    let d : ℕ × Outlet = (0, absent) in
    let same : p - length level.joints ≡ k = omega (arith, e) in
    slice_get-get_or (front ++ back) p (outlet_breaker d) (omega (arith, all, one, two, three, e, lt))
    ∙ ap Some (get_or-append_right front back (length level.joints) p (outlet_breaker d) one (omega (arith, e))
    ∙ ap (λ z. get_or back z (outlet_breaker d)) same
    ∙ get_or-map outlet_breaker (enumerate_from (length level.buses) level.outlets) k d (outlet_breaker d) (omega (arith, three, lt))
    ∙ ap outlet_breaker (get_or-enumerate_from (length level.buses) level.outlets k d lt))

-- ---- their ends

abbrev switch_ends : Switch → ℕ × ℕ
switch_ends s = (s.node1, s.node2)

ends_are : (level : PlacedLevel) → all_ends (translated_level level) ≡ map switch_ends (translated_level level).switches
unfolding all_ends edges ends translated_level
ends_are level = ap (map ends) (append-nil (map switch_edge (map joint_breaker level.joints ++ map outlet_breaker (outlets_at level)))) ∙ map_twice ends switch_edge (map joint_breaker level.joints ++ map outlet_breaker (outlets_at level))

get_mapped : (ss : List Switch) (p : ℕ) (s : Switch) → slice_get ss p ≡ Some s → slice_get (map switch_ends ss) p ≡ Some (switch_ends s)
get_mapped [] p s h = absurd (some_none s h)
get_mapped (x ∷ ss) zero s h = ap (λ (z : Switch). Some (switch_ends z)) (some_same x s h)
get_mapped (x ∷ ss) (suc p) s h = get_mapped ss p s h

get_none : (ss : List Switch) (p : ℕ) → slice_get ss p ≡ None → slice_get (map switch_ends ss) p ≡ None
get_none [] p h = refl
get_none (x ∷ ss) zero h = absurd (some_none x (sym h))
get_none (x ∷ ss) (suc p) h = get_none ss p h

pub ends_past : (level : PlacedLevel) (p : ℕ) → slice_get (translated_level level).switches p ≡ None → slice_get (all_ends (translated_level level)) p ≡ None
ends_past level p h = ap (λ z. slice_get z p) (ends_are level) ∙ get_none (translated_level level).switches p h

pub ends_at : (level : PlacedLevel) (p : ℕ) (s : Switch) → slice_get (translated_level level).switches p ≡ Some s → slice_get (all_ends (translated_level level)) p ≡ Some (s.node1, s.node2)
ends_at level p s h = ap (λ z. slice_get z p) (ends_are level) ∙ get_mapped (translated_level level).switches p s h

-- the place of a switch is that of one between buses, or that of a terminal's breaker
pub which : (level : PlacedLevel) (p : ℕ) → (p < length level.joints) ⊎ ((k : ℕ) × (p ≡ length level.joints + k) × (k < length level.outlets)) ⊎ (slice_get (translated_level level).switches p ≡ None)
which level p = elim (cases_lt p (length level.joints)) [
  | inl lt ↦ inl lt
  | inr le ↦ elim (cases_lt (p - length level.joints) (length level.outlets)) [
    | inl less ↦ inr (inl (p - length level.joints, omega (arith, le), less))
    | inr more ↦ (let count = switch_count level in inr (inr (slice_get_past (translated_level level).switches p (omega (arith, count, le, more)))))
  ]
]

-- ---- what leads on from a terminal's node

across_none : (a : ℕ) (pair : ℕ × ℕ) → (pair.0 ≡ a → ⊥) → (pair.1 ≡ a → ⊥) → across a pair ≡ None
unfolding across
across_none a pair h k = rw (ne_eqb pair.0 a h, ne_eqb pair.1 a k) refl

across_back : (a : ℕ) (pair : ℕ × ℕ) → (pair.0 ≡ a → ⊥) → pair.1 ≡ a → across a pair ≡ Some pair.0
unfolding across
across_back a pair h k = rw (ne_eqb pair.0 a h, eq-eqb pair.1 a k) refl

module _ (level : PlacedLevel) (fit : PlacesFit level) (k : ℕ) (lt : k < length level.outlets) where
  pub inside : (get_or level.outlets k absent).place < length level.buses
  inside = (All-get_or (StandsWell (length level.buses)) level.outlets k absent lt fit.outlets).0

  -- its own breaker leads to its bus
  pub own_across : across (length level.buses + k) ((outlet_breaker (length level.buses + k, get_or level.outlets k absent)).node1, (outlet_breaker (length level.buses + k, get_or level.outlets k absent)).node2)
      ≡ Some (get_or level.outlets k absent).place
  unfolding outlet_breaker
  own_across = let p = inside in across_back (length level.buses + k) ((get_or level.outlets k absent).place, length level.buses + k) (λ e. omega (arith, e, p)) refl

  joint_across : (p : ℕ) → p < length level.joints → across (length level.buses + k) ((joint_breaker (get_or level.joints p no_joint)).node1, (joint_breaker (get_or level.joints p no_joint)).node2) ≡ None
  unfolding joint_breaker
  joint_across p less =
      let h = All-get_or (λ (s : Joint). (s.place1 < length level.buses) × (s.place2 < length level.buses)) level.joints p no_joint less fit.joints in
      let one : (get_or level.joints p no_joint).place1 < length level.buses = h.0 in
      let two : (get_or level.joints p no_joint).place2 < length level.buses = h.1 in
      across_none (length level.buses + k) ((get_or level.joints p no_joint).place1, (get_or level.joints p no_joint).place2) (λ e. omega (arith, e, one)) (λ e. omega (arith, e, two))

  other_across : (n : ℕ) → n < length level.outlets → (n ≡ k → ⊥)
      → across (length level.buses + k) ((outlet_breaker (length level.buses + n, get_or level.outlets n absent)).node1, (outlet_breaker (length level.buses + n, get_or level.outlets n absent)).node2) ≡ None
  unfolding outlet_breaker
  other_across n less ne =
      let one : (get_or level.outlets n absent).place < length level.buses = (All-get_or (StandsWell (length level.buses)) level.outlets n absent less fit.outlets).0 in
      across_none (length level.buses + k) ((get_or level.outlets n absent).place, length level.buses + n) (λ e. omega (arith, e, one)) (λ e. ne (omega (arith, e)))

  -- no other switch leads on from its node
  pub leads_on : (p c : ℕ) (pair : ℕ × ℕ) → slice_get (all_ends (translated_level level)) p ≡ Some pair → across (length level.buses + k) pair ≡ Some c → p ≡ length level.joints + k
  leads_on p c pair at leads = elim (which level p) [
    | inl less ↦ absurd (none_leads (ends_at level p (joint_breaker (get_or level.joints p no_joint)) (joint_at level p no_joint less)) (joint_across p less))
    | inr (inl own) ↦ elim (cases_eq own.0 k) [
      | inl e ↦ (let same = own.1 in omega (arith, e, same))
      | inr ne ↦ absurd (none_leads (ends_at level p (outlet_breaker (length level.buses + own.0, get_or level.outlets own.0 absent)) (breaker_at level own.0 p own.1 own.2)) (other_across own.0 own.2 ne))
    ]
    | inr (inr none) ↦ absurd (past none)
  ]
    where
      none_leads : {other : ℕ × ℕ} → slice_get (all_ends (translated_level level)) p ≡ Some other → across (length level.buses + k) other ≡ None → ⊥
      none_leads {other} h none =
          let same : pair ≡ other = some_same pair other (sym at ∙ h) in
          some_none c (sym none ∙ sym (ap (across (length level.buses + k)) same) ∙ leads)

      past : slice_get (translated_level level).switches p ≡ None → ⊥
      past none = some_none pair (sym (ends_past level p none) ∙ at)
