-- The connected terminals of a level hang at their buses.
use Rattle.std.proofs.Common.{◌≡◌, refl, sym, ap, ◌∙◌, subst, ℕ, zero, suc, ◌+◌, ◌-◌, ◌<◌, ◌≤◌, Bool, true, false, cond, List, [], ◌∷◌, length, get_or, inl, inr, ◌⊎◌, arith}
use Rattle.std.specs.Prelude.{map, filter, flat_map, not, All}
use Rattle.std.specs.List.{enumerate_from}
use Rattle.std.proofs.lemmas.Bool.{false≢true}
use Rattle.std.proofs.lemmas.List.Elements.{All-get_or, All-head, All-tail, All-cons, All-nil}
use Rattle.grid_graph.specs.Joined.{end_across, neighbours}
use Rattle.grid_graph.specs.Graph.{EndsBelow}
use Rattle.grid_graph.proofs.Reach.{In, In_parts, In_left, In_right, across_from, across_first}
use Rattle.grid_level.specs.declared.Stand.TheVariants.{BranchEnd}
use Rattle.grid_placed.specs.Places.{Joint, Outlet, PlacedLevel, PlacesFit, closed_pairs}
use Rattle.grid_placed.specs.Translation.{outlets_at}
use Rattle.grid_placed.proofs.Spokes.{HangsAt, AreSpokes}
use Rattle.grid_placed.proofs.Nodes.{StandsWell, spokes}

-- what stands where no terminal does
abbrev pub absent : Outlet
absent = record { terminal = record { equipment = []; side = 0 }; place = 0; connected = false; stand = BranchEnd }

-- the terminal at a node
unfoldable pub outlet_of : PlacedLevel → ℕ → Outlet
outlet_of level node = get_or level.outlets (node - length level.buses) absent

abbrev spokes_from : ℕ → List Outlet → List (ℕ × ℕ)
spokes_from at ts = map (λ e. (e.1.place, e.0)) (filter (λ e. e.1.connected) (enumerate_from at ts))

-- the terminal at a place of the list joins a place of a bus to its node
record Spoke (at : ℕ) (ts : List Outlet) (place node : ℕ) : Type 0 where
  k : ℕ
  lt : k < length ts
  connected : (get_or ts k absent).connected ≡ true
  here : place ≡ (get_or ts k absent).place
  there : node ≡ at + k

later : (at : ℕ) (t : Outlet) (ts : List Outlet) (place node : ℕ) → Spoke (at + 1) ts place node → Spoke at (t ∷ ts) place node
later at t ts place node s =
    let lt : s.k < length ts = s.lt in
    let there : node ≡ at + 1 + s.k = s.there in
    record { k = suc s.k; lt = omega (arith, lt); connected = s.connected; here = s.here; there = omega (arith, there) }

either_later : (at : ℕ) (t : Outlet) (ts : List Outlet) (a c : ℕ) → Spoke (at + 1) ts a c ⊎ Spoke (at + 1) ts c a → Spoke at (t ∷ ts) a c ⊎ Spoke at (t ∷ ts) c a
either_later at t ts a c (inl s) = inl (later at t ts a c s)
either_later at t ts a c (inr s) = inr (later at t ts c a s)

across_here : (at : ℕ) (t : Outlet) (ts : List Outlet) (a c : ℕ) → t.connected ≡ true → ((t.place ≡ a) × (c ≡ at)) ⊎ ((at ≡ a) × (c ≡ t.place)) → Spoke at (t ∷ ts) a c ⊎ Spoke at (t ∷ ts) c a
across_here at t ts a c h (inl e) = inl (record { k = 0; lt = omega arith; connected = h; here = sym e.0; there = omega (arith, e.1) })
across_here at t ts a c h (inr e) = inr (record { k = 0; lt = omega arith; connected = h; here = e.1; there = omega (arith, e.0) })

spoke_across : (at : ℕ) (ts : List Outlet) (a c : ℕ) → In c (neighbours (spokes_from at ts) a) → Spoke at ts a c ⊎ Spoke at ts c a
unfolding neighbours
spoke_across at [] a c i = absurd (false≢true i)
spoke_across at (t ∷ ts) a c i = by (spoke_across (at + 1) ts a c) t.connected refl i
  where
    by : (In c (neighbours (spokes_from (at + 1) ts) a) → Spoke (at + 1) ts a c ⊎ Spoke (at + 1) ts c a) → (b : Bool) → t.connected ≡ b → In c (flat_map (end_across a) (map (λ (e : ℕ × Outlet). (e.1.place, e.0)) (cond b ((at, t) ∷ filter (λ e. e.1.connected) (enumerate_from (at + 1) ts)) (filter (λ e. e.1.connected) (enumerate_from (at + 1) ts)))))
        → Spoke at (t ∷ ts) a c ⊎ Spoke at (t ∷ ts) c a
    by again true h j = elim (In_parts c (end_across a (t.place, at)) (flat_map (end_across a) (spokes_from (at + 1) ts)) j) [
      | inl g ↦ across_here at t ts a c h (across_from a c (t.place, at) g)
      | inr g ↦ either_later at t ts a c (again g)
    ]
    by again false h j = either_later at t ts a c (again j)

spoke_there : (at : ℕ) (ts : List Outlet) (k node : ℕ) → at + k ≡ node → k < length ts → (get_or ts k absent).connected ≡ true → In node (neighbours (spokes_from at ts) (get_or ts k absent).place)
unfolding neighbours
spoke_there at [] k node e lt h = absurd (omega (arith, lt))
spoke_there at (t ∷ ts) zero node e lt h =
    let same : node ≡ at = omega (arith, e) in
    let P : ℕ → Type 0 = λ z. In z (flat_map (end_across t.place) (spokes_from at (t ∷ ts))) in
    let Q : Bool → Type 0 = λ b. In at (flat_map (end_across t.place) (map (λ (e : ℕ × Outlet). (e.1.place, e.0)) (cond b ((at, t) ∷ filter (λ e. e.1.connected) (enumerate_from (at + 1) ts)) (filter (λ e. e.1.connected) (enumerate_from (at + 1) ts))))) in
    subst P (sym same) (subst Q (sym h) (In_left at (end_across t.place (t.place, at)) (flat_map (end_across t.place) (spokes_from (at + 1) ts)) (across_first t.place (t.place, at) refl)))
spoke_there at (t ∷ ts) (suc k) node e lt h = by t.connected (spoke_there (at + 1) ts k node (omega (arith, e)) (omega (arith, lt)) h)
  where
    by : (b : Bool) → In node (flat_map (end_across (get_or ts k absent).place) (spokes_from (at + 1) ts)) → In node (flat_map (end_across (get_or ts k absent).place) (map (λ (e : ℕ × Outlet). (e.1.place, e.0)) (cond b ((at, t) ∷ filter (λ e. e.1.connected) (enumerate_from (at + 1) ts)) (filter (λ e. e.1.connected) (enumerate_from (at + 1) ts)))))
    by true rest = In_right node (end_across (get_or ts k absent).place (t.place, at)) (flat_map (end_across (get_or ts k absent).place) (spokes_from (at + 1) ts)) rest
    by false rest = rest

-- ---- of a level

pub outlet_at : (level : PlacedLevel) (k node : ℕ) → node ≡ length level.buses + k → outlet_of level node ≡ get_or level.outlets k absent
unfolding outlet_of
outlet_at level k node e = let same : node - length level.buses ≡ k = omega (arith, e) in ap (λ z. get_or level.outlets z absent) same

module _ (level : PlacedLevel) (fit : PlacesFit level) where
  hangs_at : (a c : ℕ) → Spoke (length level.buses) level.outlets a c → HangsAt (length level.buses) (length level.buses + length level.outlets) (λ n. (outlet_of level n).place) (λ n. (outlet_of level n).connected) a c
  hangs_at a c s =
      let lt : s.k < length level.outlets = s.lt in
      let there : c ≡ length level.buses + s.k = s.there in
      let same : outlet_of level c ≡ get_or level.outlets s.k absent = outlet_at level s.k c s.there in
      record {
        behind = omega (arith, there);
        below = omega (arith, there, lt);
        hangs = ap (λ (t : Outlet). t.connected) same ∙ s.connected;
        here = s.here ∙ sym (ap (λ (t : Outlet). t.place) same);
      }

  hang_either : (a c : ℕ) → Spoke (length level.buses) level.outlets a c ⊎ Spoke (length level.buses) level.outlets c a
      → HangsAt (length level.buses) (length level.buses + length level.outlets) (λ n. (outlet_of level n).place) (λ n. (outlet_of level n).connected) a c
      ⊎ HangsAt (length level.buses) (length level.buses + length level.outlets) (λ n. (outlet_of level n).place) (λ n. (outlet_of level n).connected) c a
  hang_either a c (inl s) = inl (hangs_at a c s)
  hang_either a c (inr s) = inr (hangs_at c a s)

  -- each terminal's bus is there
  pub outlet_place : (node : ℕ) → length level.buses ≤ node → node < length level.buses + length level.outlets → (outlet_of level node).place < length level.buses
  unfolding outlet_of
  outlet_place node b lt = (All-get_or (StandsWell (length level.buses)) level.outlets (node - length level.buses) absent (omega (arith, b, lt)) fit.outlets).0

  pub are_spokes : AreSpokes (length level.buses) (length level.buses + length level.outlets) (λ n. (outlet_of level n).place) (λ n. (outlet_of level n).connected) (spokes level)
  unfolding spokes outlets_at outlet_of
  are_spokes = record {
    across = λ a c i. hang_either a c (spoke_across (length level.buses) level.outlets a c i);
    there = λ c b lt h. spoke_there (length level.buses) level.outlets (c - length level.buses) c (omega (arith, b)) (omega (arith, b, lt)) h;
    inside = λ c b lt h. outlet_place c b lt;
  }

  joint_ends : (js : List Joint) → All (λ (s : Joint). (s.place1 < length level.buses) × (s.place2 < length level.buses)) js → EndsBelow (map (λ (s : Joint). (s.place1, s.place2)) (filter (λ (s : Joint). not s.opened) js)) (length level.buses)
  joint_ends [] h = All-nil (λ (p : ℕ × ℕ). (p.0 < length level.buses) × (p.1 < length level.buses))
  joint_ends (j ∷ js) h = by j.opened (joint_ends js (All-tail (λ (s : Joint). (s.place1 < length level.buses) × (s.place2 < length level.buses)) j js h))
    where
      by : (b : Bool) → EndsBelow (map (λ (s : Joint). (s.place1, s.place2)) (filter (λ (s : Joint). not s.opened) js)) (length level.buses) → EndsBelow (map (λ (s : Joint). (s.place1, s.place2)) (cond (not b) (j ∷ filter (λ (s : Joint). not s.opened) js) (filter (λ (s : Joint). not s.opened) js))) (length level.buses)
      by true rest = rest
      by false rest = All-cons (λ (p : ℕ × ℕ). (p.0 < length level.buses) × (p.1 < length level.buses)) (j.place1, j.place2) (map (λ (s : Joint). (s.place1, s.place2)) (filter (λ (s : Joint). not s.opened) js))
          (All-head (λ (s : Joint). (s.place1 < length level.buses) × (s.place2 < length level.buses)) j js h) rest

  pub closed_below : EndsBelow (closed_pairs level) (length level.buses)
  unfolding closed_pairs
  closed_below = joint_ends level.joints fit.joints
