-- The edges that a net has at a node are those that lead on from it, in order of place.
use Rattle.std.proofs.Common.{◌≡◌, refl, sym, ap, ◌∙◌, subst, ℕ, zero, suc, ◌+◌, ◌≤◌, Bool, true, false, cond, List, [], ◌∷◌, ◌++◌, inl, inr, arith, append_assoc}
use Rattle.std.specs.Prelude.{Some, eqb, map, slice_get}
use Rattle.std.proofs.lemmas.Bool.{eqb-true, eq-eqb}
use Rattle.grid_queue.specs.declared.net.NetEdge.{NetEdge}
use Rattle.grid_queue.specs.declared.net.Next.{Next}
use Rattle.grid_queue.specs.Net.{next_to, next_over, nexts_from, nexts_of}
use Rattle.grid_paths.specs.Paths.{across}
use Rattle.grid_paths.specs.Search.{AreNexts}
use Rattle.grid_paths.proofs.Least.{some_same, some_none}
use Rattle.grid_paths.proofs.RouteCosts.{across_ends, across_first, across_second}

abbrev pub net_ends : NetEdge → ℕ × ℕ
net_ends edge = (edge.a, edge.b)

-- a list, with an item before it or not
abbrev before : Bool → Next → List Next → List Next
before t x xs = cond t (x ∷ []) [] ++ xs

abbrev Each : (Next → Type 0) → List Next → Type 0
Each P xs = (i : ℕ) (next : Next) → slice_get xs i ≡ Some next → P next

abbrev Has : List Next → Next → Type 0
Has xs next = (i : ℕ) × (slice_get xs i ≡ Some next)

abbrev Rises : List Next → Type 0
Rises xs = (i j : ℕ) (next other : Next) → i ≤ j → slice_get xs i ≡ Some next → slice_get xs j ≡ Some other → next.edge ≤ other.edge

each_before : (P : Next → Type 0) (t : Bool) (x : Next) (xs : List Next) → (t ≡ true → P x) → Each P xs → Each P (before t x xs)
each_before P false x xs here rest i next e = rest i next e
each_before P true x xs here rest zero next e = subst P (some_same x next e) (here refl)
each_before P true x xs here rest (suc i) next e = rest i next e

has_before : (t : Bool) (x : Next) (xs : List Next) (next : Next) → Has xs next → Has (before t x xs) next
has_before false x xs next (i, e) = (i, e)
has_before true x xs next (i, e) = (suc i, e)

has_first : (t : Bool) (x : Next) (xs : List Next) → t ≡ true → Has (before t x xs) x
has_first true x xs e = (0, refl)
has_first false x xs e = absurd (cc)

rises_before : (t : Bool) (x : Next) (xs : List Next) → Each (λ n. x.edge ≤ n.edge) xs → Rises xs → Rises (before t x xs)
rises_before false x xs low rest i j next other le e f = rest i j next other le e f
rises_before true x xs low rest zero zero next other le e f =
    let same : next ≡ other = some_same next other (sym e ∙ f) in
    let h = ap (λ (z : Next). z.edge) same in
    omega (arith, h)
rises_before true x xs low rest zero (suc j) next other le e f =
    let P : Next → Type 0 = λ z. z.edge ≤ other.edge in subst P (some_same x next e) (low j other f)
rises_before true x xs low rest (suc i) zero next other le e f = absurd (omega (arith, le))
rises_before true x xs low rest (suc i) (suc j) next other le e f = rest i j next other (omega (arith, le)) e f

-- ---- the edges from a place on

-- the edge leads on from u, where the first edge has that place
record IsFrom (k : ℕ) (pairs : List (ℕ × ℕ)) (u : ℕ) (next : Next) : Type 0 where
  pub index : ℕ
  pub place : next.edge ≡ k + index
  pub pair : ℕ × ℕ
  pub at : slice_get pairs index ≡ Some pair
  pub over : across u pair ≡ Some next.node

from_later : (k : ℕ) (pair : ℕ × ℕ) (pairs : List (ℕ × ℕ)) (u : ℕ) (next : Next) → IsFrom (k + 1) pairs u next → IsFrom k (pair ∷ pairs) u next
from_later k pair pairs u next h = let p = h.place in record { index = suc h.index; place = omega (arith, p); pair = h.pair; at = h.at; over = h.over }

from_first : (k : ℕ) (e : NetEdge) (pairs : List (ℕ × ℕ)) (u : ℕ) → eqb e.a u ≡ true → IsFrom k (net_ends e ∷ pairs) u (next_to k e.b)
from_first k e pairs u h = record { index = 0; place = omega arith; pair = net_ends e; at = refl; over = across_first u e.b (net_ends e) (eqb-true e.a u h) refl }

from_second : (k : ℕ) (e : NetEdge) (pairs : List (ℕ × ℕ)) (u : ℕ) → eqb e.b u ≡ true → IsFrom k (net_ends e ∷ pairs) u (next_to k e.a)
from_second k e pairs u h = record { index = 0; place = omega arith; pair = net_ends e; at = refl; over = across_second u e.a (net_ends e) (eqb-true e.b u h) refl }

-- the first edge, at one of its ends or the other, and those that follow
nexts_split : (k : ℕ) (e : NetEdge) (es : List NetEdge) (u : ℕ) → nexts_from k (e ∷ es) u ≡ before (eqb e.a u) (next_to k e.b) (before (eqb e.b u) (next_to k e.a) (nexts_from (k + 1) es u))
unfolding nexts_from next_over
nexts_split k e es u = append_assoc (cond (eqb e.a u) (next_to k e.b ∷ []) []) (cond (eqb e.b u) (next_to k e.a ∷ []) []) (nexts_from (k + 1) es u)

nexts_each : (k : ℕ) (es : List NetEdge) (u : ℕ) → Each (IsFrom k (map net_ends es) u) (nexts_from k es u)
unfolding nexts_from
nexts_each k [] u = λ i next h. absurd (some_none next h)
nexts_each k (e ∷ es) u =
    let P : Next → Type 0 = IsFrom k (map net_ends (e ∷ es)) u in
    subst (Each P) (sym (nexts_split k e es u))
    (each_before P (eqb e.a u) (next_to k e.b) _ (from_first k e (map net_ends es) u)
    (each_before P (eqb e.b u) (next_to k e.a) _ (from_second k e (map net_ends es) u)
    (λ i next h. from_later k (net_ends e) (map net_ends es) u next (nexts_each (k + 1) es u i next h))))

nexts_low : (k : ℕ) (es : List NetEdge) (u : ℕ) → Each (λ n. k ≤ n.edge) (nexts_from k es u)
nexts_low k es u i next h = let p = (nexts_each k es u i next h).place in omega (arith, p)

nexts_rise : (k : ℕ) (es : List NetEdge) (u : ℕ) → Rises (nexts_from k es u)
unfolding nexts_from
nexts_rise k [] u = λ i j next other le e f. absurd (some_none next e)
nexts_rise k (e ∷ es) u =
    let low : Each (λ n. k ≤ n.edge) (nexts_from (k + 1) es u) = λ i next h. (let l = nexts_low (k + 1) es u i next h in omega (arith, l)) in
    subst Rises (sym (nexts_split k e es u))
    (rises_before (eqb e.a u) (next_to k e.b) _ (each_before (λ n. k ≤ n.edge) (eqb e.b u) (next_to k e.a) _ (λ s. omega arith) low)
    (rises_before (eqb e.b u) (next_to k e.a) _ low (nexts_rise (k + 1) es u)))

nexts_all : (k : ℕ) (es : List NetEdge) (u index v : ℕ) (pair : ℕ × ℕ) → slice_get (map net_ends es) index ≡ Some pair → across u pair ≡ Some v → Has (nexts_from k es u) (next_to (k + index) v)
nexts_all k [] u index v pair at over = absurd (some_none pair at)
nexts_all k (e ∷ es) u zero v pair at over =
    let P : List Next → Type 0 = λ z. Has z (next_to (k + 0) v) in
    let same : net_ends e ≡ pair = some_same (net_ends e) pair at in
    subst P (sym (nexts_split k e es u)) (elim (across_ends u v (net_ends e) (ap (across u) same ∙ over)) [
      | inl h ↦ (
          let Q : ℕ → Type 0 = λ z. Has (before (eqb e.a u) (next_to k e.b) (before (eqb e.b u) (next_to k e.a) (nexts_from (k + 1) es u))) (next_to z v) in
          let R : ℕ → Type 0 = λ z. Has (before (eqb e.a u) (next_to k e.b) (before (eqb e.b u) (next_to k e.a) (nexts_from (k + 1) es u))) (next_to k z) in
          let zero_more : k ≡ k + 0 = omega arith in
          subst Q zero_more (subst R h.1 (has_first (eqb e.a u) (next_to k e.b) _ (eq-eqb e.a u h.0)))
          )
      | inr h ↦ (
          let Q : ℕ → Type 0 = λ z. Has (before (eqb e.a u) (next_to k e.b) (before (eqb e.b u) (next_to k e.a) (nexts_from (k + 1) es u))) (next_to z v) in
          let R : ℕ → Type 0 = λ z. Has (before (eqb e.a u) (next_to k e.b) (before (eqb e.b u) (next_to k e.a) (nexts_from (k + 1) es u))) (next_to k z) in
          let zero_more : k ≡ k + 0 = omega arith in
          subst Q zero_more (subst R h.1 (has_before (eqb e.a u) (next_to k e.b) _ (next_to k e.a) (has_first (eqb e.b u) (next_to k e.a) _ (eq-eqb e.b u h.0))))
          )
    ])
nexts_all k (e ∷ es) u (suc index) v pair at over =
    let P : List Next → Type 0 = λ z. Has z (next_to (k + suc index) v) in
    let Q : ℕ → Type 0 = λ z. Has (nexts_from (k + 1) es u) (next_to z v) in
    let one_more : (k + 1) + index ≡ k + suc index = omega arith in
    let rest = subst Q one_more (nexts_all (k + 1) es u index v pair at over) in
    subst P (sym (nexts_split k e es u))
    (has_before (eqb e.a u) (next_to k e.b) _ (next_to (k + suc index) v) (has_before (eqb e.b u) (next_to k e.a) _ (next_to (k + suc index) v) rest))

-- ---- all of them

pub nexts_are : (es : List NetEdge) (u : ℕ) → AreNexts (map net_ends es) u (nexts_of es u)
unfolding nexts_of
nexts_are es u = record {
  each = λ i next h. (
      let f = nexts_each 0 es u i next h in
      let P : ℕ → Type 0 = λ z. slice_get (map net_ends es) z ≡ Some f.pair in
      let p = f.place in
      let same : f.index ≡ next.edge = omega (arith, p) in
      record { pair = f.pair; at = subst P same f.at; over = f.over }
      );
  all = λ place v n. (
      let Q : ℕ → Type 0 = λ z. Has (nexts_from 0 es u) (next_to z v) in
      let same : 0 + place ≡ place = omega arith in
      subst Q same (nexts_all 0 es u place v n.pair n.at n.over)
      );
  rising = nexts_rise 0 es u;
}
