-- What a walk has done so far, and when it is done.
use Rattle.std.proofs.Common.{◌≡◌, refl, sym, ap, ◌∙◌, subst, ℕ, ◌<◌, ◌≤◌, min, true, List, [], ◌∷◌, ◌++◌, length, take, drop, inl, inr, ◌⊎◌, arith, append_assoc, length-append, Some, None}
use Rattle.std.proofs.lemmas.List.{append-nil}
use Rattle.std.specs.Prelude.{slice_get}
use Rattle.std.proofs.lemmas.Bool.{false≢true, cases_eq}
use Rattle.grid_lemmas.proofs.Bools.{same_test}
use Rattle.grid_graph.specs.Joined.{neighbours, joined}
use Rattle.grid_graph.specs.Components.{places}
use Rattle.grid_graph.proofs.Reach.{In, In_left, In_right, In_parts, In_here}
use Rattle.grid_graph.proofs.Places.{AreBelow, j_refl, j_step, j_along, j_below}
use Rattle.grid_graph.specs.Graph.{Graph}
use Rattle.grid_queue.specs.Work.{Queue, is_in, has, after_put, after_take, cleared, AreNodes}
use Rattle.grid_graph.specs.Graph.{joined_in, count_joined}
use Rattle.grid_graph.proofs.Least.{few_joined, n_below}
use Rattle.grid_queue.specs.Walks.{ArePut, IsWalked}
use Rattle.grid_queue.proofs.QueueAdditions.{one_In}

-- what was put is joined to the start, and what a taken node is joined to was put
pub record IsWalking (net : Graph) (start : ℕ) (queue : Queue) : Type 0 where
  pub room : queue.room ≡ net.nodes
  pub started : has queue start ≡ true
  pub sound : (x : ℕ) → has queue x ≡ true → joined_in net start x ≡ true
  pub spread : (x c : ℕ) → is_in queue.taken x ≡ true → In c (neighbours net.pairs x) → has queue c ≡ true

pub walk_begun : (net : Graph) (start : ℕ) (queue : Queue) → AreBelow net.nodes net.pairs → queue.room ≡ net.nodes → IsWalking net start (after_put (cleared queue) start)
unfolding joined_in
walk_begun net start queue fit room = record {
  room = room;
  started = In_here start [];
  sound = λ x h. (let P : ℕ → Type 0 = λ z. joined (places net.nodes) net.pairs start z ≡ true in subst P (sym (one_In x start h)) (j_refl net.nodes net.pairs fit start));
  spread = λ x c i n. absurd (false≢true i);
}

pub min_cases : (a b : ℕ) → (min a b ≡ a) ⊎ (min a b ≡ b)
min_cases a b = elim (cases_eq (min a b) a) [ inl e ↦ inl e | inr n ↦ inr (omega (arith, n)) ]

-- the node at the front is taken, and what passing edges join to it is put
walk_on : (net : Graph) (start room node : ℕ) (taken waiting : List ℕ) (new : Queue) → AreBelow net.nodes net.pairs → start < net.nodes
    → IsWalking net start (record { room = room; taken = taken; waiting = node ∷ waiting })
    → ArePut (neighbours net.pairs node) (record { room = room; taken = taken ++ node ∷ []; waiting = waiting }) new
    → IsWalking net start new
unfolding joined_in
walk_on net start room node taken waiting new fit lt s p = record {
  room = p.room ∙ s.room;
  started = p.kept start (moved start s.started);
  sound = λ x h. elim (p.sound x h) [
    | inl k ↦ s.sound x (unmoved x k)
    | inr k ↦ j_step net.nodes net.pairs below start node x lt node_less node_joined k
  ];
  spread = λ x c i n. elim (In_parts x taken (node ∷ []) (in_taken x i)) [
    | inl k ↦ p.kept c (moved c (s.spread x c k n))
    | inr k ↦ (let P : ℕ → Type 0 = λ z. In c (neighbours net.pairs z) in p.put c (subst P (one_In x node k) n))
  ];
}
  where
    below : AreBelow net.nodes net.pairs
    below = fit

    node_joined : joined (places net.nodes) net.pairs start node ≡ true
    node_joined = s.sound node (In_right node taken (node ∷ waiting) (In_here node waiting))

    node_less : node < net.nodes
    node_less = j_below net.nodes net.pairs below start node lt node_joined

    moved : (x : ℕ) → is_in (taken ++ node ∷ waiting) x ≡ true → is_in ((taken ++ node ∷ []) ++ waiting) x ≡ true
    moved x h = rw append_assoc h

    unmoved : (x : ℕ) → is_in ((taken ++ node ∷ []) ++ waiting) x ≡ true → is_in (taken ++ node ∷ waiting) x ≡ true
    unmoved x h = rw append_assoc at h

    in_taken : (x : ℕ) → is_in new.taken x ≡ true → is_in (taken ++ node ∷ []) x ≡ true
    in_taken x i = rw (← p.taken) i

pub front : (waiting : List ℕ) (node : ℕ) → slice_get waiting 0 ≡ Some node → (rest : List ℕ) × (waiting ≡ node ∷ rest)
front [] node e = absurd (cc)
front (x ∷ xs) node e = (xs, (let same : x ≡ node = cc in ap (λ z. z ∷ xs) same))

pub walk_more : (net : Graph) (start node : ℕ) (queue new : Queue) → AreBelow net.nodes net.pairs → start < net.nodes
    → IsWalking net start queue → slice_get queue.waiting 0 ≡ Some node
    → ArePut (neighbours net.pairs node) (after_take queue) new
    → IsWalking net start new
walk_more net start node queue new fit lt s first p =
    let f = front queue.waiting node first in
    let S : List ℕ → Type 0 = λ ws. IsWalking net start (record { room = queue.room; taken = queue.taken; waiting = ws }) in
    let P : List ℕ → Type 0 = λ ws. ArePut (neighbours net.pairs node) (after_take (record { room = queue.room; taken = queue.taken; waiting = ws })) new in
    walk_on net start queue.room node queue.taken f.0 new fit lt (subst S f.1 s) (subst P f.1 p)

front_joined : (waiting taken : List ℕ) (node : ℕ) → slice_get waiting 0 ≡ Some node → has (record { room = 0; taken = taken; waiting = waiting }) node ≡ true
front_joined waiting taken node first =
    let f = front waiting node first in
    rw f.1 (In_right node taken (node ∷ f.0) (In_here node f.0))

pub node_below : (net : Graph) (start node : ℕ) (queue : Queue) → AreBelow net.nodes net.pairs → start < net.nodes → IsWalking net start queue → slice_get queue.waiting 0 ≡ Some node → node < net.nodes
node_below net start node queue fit lt s first = n_below net start node fit lt (s.sound node (front_joined queue.waiting queue.taken node first))

pub one_taken : (waiting : List ℕ) (node : ℕ) → slice_get waiting 0 ≡ Some node → length (take 1 waiting) ≡ 1
one_taken waiting node first = let f = front waiting node first in rw f.1 refl

pub front_none : (waiting : List ℕ) → slice_get waiting 0 ≡ None → waiting ≡ []
front_none [] e = refl
front_none (x ∷ xs) e = absurd (cc)

-- nothing waits
pub walk_done : (net : Graph) (start : ℕ) (queue : Queue) → AreBelow net.nodes net.pairs → start < net.nodes → IsWalking net start queue → queue.waiting ≡ [] → IsWalked net start queue
unfolding joined_in
walk_done net start queue fit lt s none = record {
  room = s.room;
  done = none;
  each = λ x. same_test _ _ (λ h. s.sound x (In_left x queue.taken queue.waiting h))
      (λ h. j_along net.nodes net.pairs fit (is_in queue.taken) (λ a c i n. taken c (s.spread a c i n)) start x (taken start s.started) h);
}
  where
    taken : (x : ℕ) → has queue x ≡ true → is_in queue.taken x ≡ true
    taken x h = let P : List ℕ → Type 0 = λ ns. is_in ns x ≡ true in subst P (ap (λ z. queue.taken ++ z) none ∙ append-nil queue.taken) h

-- ---- a walk at its end

pub walk_ended : (net : Graph) (start : ℕ) (queue : Queue) → AreBelow net.nodes net.pairs → start < net.nodes → IsWalking net start queue → slice_get queue.waiting 0 ≡ None → IsWalked net start (after_take queue)
walk_ended net start queue fit lt s first =
    let none : queue.waiting ≡ [] = front_none queue.waiting first in
    let w = walk_done net start queue fit lt s none in
    let P : List ℕ → Type 0 = λ ws. IsWalked net start (record { room = queue.room; taken = queue.taken ++ take 1 ws; waiting = drop 1 ws }) in
    subst P (sym none) (record { room = w.room; done = refl; each = λ x. (let Q : List ℕ → Type 0 = λ ns. is_in ns x ≡ joined_in net start x in subst Q (sym (append-nil queue.taken)) (w.each x)) })

-- what a walk took is no more than what is joined to its start
pub taken_few : (net : Graph) (start : ℕ) (queue : Queue) → AreBelow net.nodes net.pairs → start < net.nodes → ((x : ℕ) → has queue x ≡ true → joined_in net start x ≡ true) → AreNodes queue.room (queue.taken ++ queue.waiting) → length queue.taken ≤ count_joined net start
taken_few net start queue fit lt sound differ =
    let few = few_joined net start (queue.taken ++ queue.waiting) fit lt differ.distinct sound in
    omega (arith, few, length-append queue.taken queue.waiting)
