-- The least node that is joined to a node.
use Rattle.std.proofs.Common.{◌≡◌, ◌≢◌, refl, sym, ◌∙◌, subst, ℕ, zero, suc, ◌+◌, ◌<◌, ◌≤◌, Bool, true, false, cond, List, [], ◌∷◌, length, get_or, inl, inr, arith}
use Rattle.std.specs.Prelude.{eqb, filter}
use Rattle.std.specs.List.{list_any, range_with_len, IsDistinct}
use Rattle.std.proofs.lemmas.Bool.{false≢true, both_ways, cases_eq, or_cases, eqb-true}
use Rattle.std.proofs.lemmas.List.Sums.{length-filter}
use Rattle.std.proofs.lemmas.Map.Made.{length-le_from_is_member}
use Rattle.grid_lemmas.proofs.Bools.{or_left}
use Rattle.grid_graph.specs.Joined.{joined, group_of}
use Rattle.grid_graph.specs.Components.{places}
use Rattle.grid_graph.proofs.Reach.{In, In_there, eqb_laws}
use Rattle.grid_graph.proofs.Places.{AreBelow, j_refl, j_symm, j_same, j_below, In_places}
use Rattle.grid_graph.specs.Graph.{Graph}
use Rattle.grid_graph.specs.Graph.{joined_in, least_joined, count_joined}

-- the first node of a rising range at which a test passes
record IsHead (p : ℕ → Bool) (low h : ℕ) : Type 0 where
  pub passes : p h ≡ true
  pub least : (x : ℕ) → low ≤ x → p x ≡ true → h ≤ x

head_least : (p : ℕ → Bool) (low count a : ℕ) → p a ≡ true → low ≤ a → a < low + count → IsHead p low (get_or (filter p (range_with_len low count)) 0 0)
head_least p low zero a h le lt = absurd (omega arith)
head_least p low (suc n) a h le lt = pick (p low) refl (λ ne. head_least p (low + 1) n a h (omega (arith, ne)) (omega arith))
  where
    above : (x : ℕ) → low ≤ x → p x ≡ true → p low ≡ false → low + 1 ≤ x
    above x k q e = elim (cases_eq x low) [
      | inl g ↦ absurd (both_ways (p low) e (let P : ℕ → Type 0 = λ z. p z ≡ true in subst P g q))
      | inr g ↦ omega (arith, g)
    ]

    pick : (t : Bool) → p low ≡ t → (low ≢ a → IsHead p (low + 1) (get_or (filter p (range_with_len (low + 1) n)) 0 0)) → IsHead p low (get_or (cond (p low) (low ∷ filter p (range_with_len (low + 1) n)) (filter p (range_with_len (low + 1) n))) 0 0)
    pick true e rest = rw e (record { passes = e; least = λ x k q. k })
    pick false e rest =
        let r = rest (λ g. both_ways (p low) e (let P : ℕ → Type 0 = λ z. p z ≡ true in subst P (sym g) h)) in
        rw e (record { passes = r.passes; least = λ x k q. r.least x (above x k q e) q })

-- the least node that is joined to a
pub record IsLeast (net : Graph) (a l : ℕ) : Type 0 where
  pub reached : joined_in net a l ≡ true
  pub least : (x : ℕ) → joined_in net a x ≡ true → l ≤ x

self_joined : (net : Graph) (a : ℕ) → AreBelow net.nodes net.pairs → joined (range_with_len 0 net.nodes) net.pairs a a ≡ true
unfolding places
self_joined net a fit = j_refl net.nodes net.pairs fit a

pub least_is_least : (net : Graph) (a : ℕ) → AreBelow net.nodes net.pairs → a < net.nodes → IsLeast net a (least_joined net a)
unfolding least_joined joined_in group_of places
least_is_least net a fit lt =
    let h = head_least (joined (range_with_len 0 net.nodes) net.pairs a) 0 net.nodes a (self_joined net a fit) (omega arith) (omega arith) in
    record { reached = h.passes; least = λ x k. h.least x (omega arith) k }

pub least_is : (net : Graph) (a l : ℕ) → AreBelow net.nodes net.pairs → a < net.nodes → IsLeast net a l → least_joined net a ≡ l
least_is net a l fit lt h =
    let f = least_is_least net a fit lt in
    let one : least_joined net a ≤ l = f.least l h.reached in
    let two : l ≤ least_joined net a = h.least (least_joined net a) f.reached in
    omega (arith, one, two)

-- laws of joined, at a net
pub n_symm : (net : Graph) (a b : ℕ) → AreBelow net.nodes net.pairs → b < net.nodes → joined_in net a b ≡ true → joined_in net b a ≡ true
unfolding joined_in
n_symm net a b fit lt h = j_symm net.nodes net.pairs fit a b lt h

pub n_below : (net : Graph) (a b : ℕ) → AreBelow net.nodes net.pairs → a < net.nodes → joined_in net a b ≡ true → b < net.nodes
unfolding joined_in
n_below net a b fit lt h = j_below net.nodes net.pairs fit a b lt h

pub n_same : (net : Graph) (a b x : ℕ) → AreBelow net.nodes net.pairs → a < net.nodes → joined_in net a b ≡ true → joined_in net a x ≡ joined_in net b x
unfolding joined_in
n_same net a b x fit lt h = j_same net.nodes net.pairs fit a b x lt h

pub n_refl : (net : Graph) (a : ℕ) → AreBelow net.nodes net.pairs → joined_in net a a ≡ true
unfolding joined_in
n_refl net a fit = j_refl net.nodes net.pairs fit a

pub least_below : (net : Graph) (a : ℕ) → AreBelow net.nodes net.pairs → a < net.nodes → least_joined net a < net.nodes
least_below net a fit lt = n_below net a (least_joined net a) fit lt (least_is_least net a fit lt).reached

pub least_le : (net : Graph) (a : ℕ) → AreBelow net.nodes net.pairs → a < net.nodes → least_joined net a ≤ a
least_le net a fit lt = (least_is_least net a fit lt).least a (n_refl net a fit)

-- nodes that are joined have the same least node
pub least_same : (net : Graph) (a b : ℕ) → AreBelow net.nodes net.pairs → a < net.nodes → joined_in net a b ≡ true → least_joined net a ≡ least_joined net b
least_same net a b fit lt h =
    let f = least_is_least net b fit (n_below net a b fit lt h) in
    least_is net a (least_joined net b) fit lt (record { reached = n_same net a b (least_joined net b) fit lt h ∙ f.reached; least = λ x k. f.least x (sym (n_same net a b x fit lt h) ∙ k) })

-- and nodes with the same least node are joined
pub joined_from_least : (net : Graph) (a b : ℕ) → AreBelow net.nodes net.pairs → a < net.nodes → b < net.nodes → least_joined net a ≡ least_joined net b → joined_in net a b ≡ true
joined_from_least net a b fit lt less e =
    let f = least_is_least net a fit lt in
    let g = least_is_least net b fit less in
    let P : ℕ → Type 0 = λ z. joined_in net a z ≡ true in
    let k : joined_in net a (least_joined net b) ≡ true = subst P e f.reached in
    n_same net a (least_joined net b) b fit lt k ∙ n_symm net b (least_joined net b) fit (least_below net b fit less) g.reached

-- the least node of a node is its own least node
pub leads_itself : (net : Graph) (x k : ℕ) → AreBelow net.nodes net.pairs → x < net.nodes → least_joined net x ≡ k → least_joined net k ≡ k
leads_itself net x k fit less e =
    let P : ℕ → Type 0 = λ z. joined_in net x z ≡ true in
    let there : joined_in net x k ≡ true = subst P e (least_is_least net x fit less).reached in
    sym (least_same net x k fit less there) ∙ e

-- ---- how many

pub In_filter : (p : ℕ → Bool) (x : ℕ) (xs : List ℕ) → In x xs → p x ≡ true → In x (filter p xs)
In_filter p x [] i h = absurd (false≢true i)
In_filter p x (y ∷ ys) i h = elim (or_cases (eqb x y) (list_any (eqb x) ys) i) [
  | inl e ↦ (let same : p y ≡ true = (let P : ℕ → Type 0 = λ z. p z ≡ true in subst P (eqb-true x y e) h) in rw same (or_left (eqb x y) _ e))
  | inr e ↦ past (p y) (In_filter p x ys e h)
]
  where
    past : (t : Bool) → In x (filter p ys) → In x (cond t (y ∷ filter p ys) (filter p ys))
    past true k = In_there x y (filter p ys) k
    past false k = k

-- what a filter keeps was there, and passes
pub filter_In : (p : ℕ → Bool) (x : ℕ) (xs : List ℕ) → In x (filter p xs) → In x xs × (p x ≡ true)
filter_In p x [] i = absurd (false≢true i)
filter_In p x (y ∷ ys) i = pick (p y) refl (filter_In p x ys) i
  where
    pick : (t : Bool) → p y ≡ t → (In x (filter p ys) → In x ys × (p x ≡ true)) → In x (cond t (y ∷ filter p ys) (filter p ys)) → In x (y ∷ ys) × (p x ≡ true)
    pick true e rest j = elim (or_cases (eqb x y) (list_any (eqb x) (filter p ys)) j) [
      | inl h ↦ (or_left (eqb x y) _ h, (let P : ℕ → Type 0 = λ z. p z ≡ true in subst P (sym (eqb-true x y h)) e))
      | inr h ↦ (let r = rest h in (In_there x y ys r.0, r.1))
    ]
    pick false e rest j = let r = rest j in (In_there x y ys r.0, r.1)

-- nodes that differ and are joined to the start are as many as are joined to it at most
pub few_joined : (net : Graph) (start : ℕ) (nodes : List ℕ) → AreBelow net.nodes net.pairs → start < net.nodes → IsDistinct eqb nodes → ((x : ℕ) → In x nodes → joined_in net start x ≡ true) → length nodes ≤ count_joined net start
unfolding count_joined
few_joined net start nodes fit lt distinct inside =
    rw (← length-filter (joined_in net start) (places net.nodes))
    (length-le_from_is_member eqb_laws nodes (filter (joined_in net start) (places net.nodes)) distinct
    (λ x i. In_filter (joined_in net start) x (places net.nodes) (In_places x net.nodes (n_below net start x fit lt (inside x i))) (inside x i)))
