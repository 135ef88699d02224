-- Pairs by rising node: what a search finds, and what a change leaves.
use Rattle.std.proofs.Common.{◌≡◌, refl, sym, ap, ◌∙◌, ℕ, ℤ, suc, ◌<◌, ◌≤◌, Bool, true, false, cond, not, List, [], ◌∷◌, length, arith, get_or, set, Option, Some, None}
use Rattle.std.specs.Prelude.{map, filter, find, nat_lt, ◌==◌, insert, remove, option_map}
use Rattle.std.specs.List.{list_all}
use Rattle.std.proofs.lemmas.Bool.{and_parts, and_from, eq-eqb, ne_eqb, eqb-true, ltb-true, ltb-false, lt-ltb, false≢true}
use Rattle.grid_level.specs.Uses.{place_among, key_here}
use Rattle.grid_level.specs.Passing.{is_rising, with_node}
use Rattle.grid_level.proofs.NodeCounts.{Order, order, below, equal, above}
use Rattle.grid_level.proofs.Places.{here-is, here-below, rising-with_node}
use Rattle.grid_states.specs.declared.row.NodeWatts.{NodeWatts}
use Rattle.grid_states.specs.Pairs.{pair, value_at, with_pair, without_pair}

abbrev pub node : NodeWatts → ℕ
node w = w.node

abbrev pub pair_of : ℕ → List NodeWatts → Option NodeWatts
pair_of n ws = find (λ (w : NodeWatts). w.node == n) ws

abbrev pub rest_of : ℕ → List NodeWatts → List NodeWatts
rest_of n ws = filter (λ (w : NodeWatts). not (w.node == n)) ws

-- ---- a later node

pub none_above : (n m : ℕ) (ws : List NodeWatts) → n ≤ m → list_all (nat_lt m) (map node ws) ≡ true → pair_of n ws ≡ None
none_above n m [] l h = refl
none_above n m (w ∷ ws) l h =
    let parts = and_parts (nat_lt m w.node) (list_all (nat_lt m) (map node ws)) h in
    let k : m < w.node = ltb-true m w.node parts.0 in
    rw (ne_eqb w.node n (λ f. omega arith)) (none_above n m ws l parts.1)

pub all_kept : (n : ℕ) (ws : List NodeWatts) → pair_of n ws ≡ None → rest_of n ws ≡ ws
all_kept n [] h = refl
all_kept n (w ∷ ws) h = one (w.node == n) h (all_kept n ws)
  where
    one : (d : Bool) → ◌≡◌ {A = Option NodeWatts} (cond d (Some w) (pair_of n ws)) None → (pair_of n ws ≡ None → rest_of n ws ≡ ws) → cond (not d) (w ∷ rest_of n ws) (rest_of n ws) ≡ w ∷ ws
    one true h again = cc
    one false h again = ap (λ z. w ∷ z) (again h)

-- ---- what is found

found_here : (n : ℕ) (ws : List NodeWatts) (x : NodeWatts) → key_here node n ws ≡ true → x ≡ get_or ws (place_among node n ws) x → pair_of n ws ≡ Some x
found_here n [] x h e = absurd (false≢true h)
found_here n (w ∷ ws) x h e = by (nat_lt w.node n) refl h e (found_here n ws x)
  where
    by : (t : Bool) → nat_lt w.node n ≡ t → cond t (key_here node n ws) (w.node == n) ≡ true → x ≡ get_or (w ∷ ws) (cond t (suc (place_among node n ws)) 0) x
        → (key_here node n ws ≡ true → x ≡ get_or ws (place_among node n ws) x → pair_of n ws ≡ Some x)
        → cond (w.node == n) (Some w) (pair_of n ws) ≡ Some x
    by true q h e again = let l : w.node < n = ltb-true w.node n q in rw (ne_eqb w.node n (λ f. omega arith)) (again h e)
    by false q h e again = rw h (ap (λ z. Some z) (sym e))

free_here : (n : ℕ) (ws : List NodeWatts) → is_rising (map node ws) ≡ true → key_here node n ws ≡ false → pair_of n ws ≡ None
unfolding is_rising
free_here n [] r h = refl
free_here n (w ∷ ws) r h =
    let parts = and_parts (list_all (nat_lt w.node) (map node ws)) (is_rising (map node ws)) r in
    by (order w.node n) h parts.0 (free_here n ws parts.1)
  where
    by : Order w.node n → cond (nat_lt w.node n) (key_here node n ws) (w.node == n) ≡ false → list_all (nat_lt w.node) (map node ws) ≡ true
        → (key_here node n ws ≡ false → pair_of n ws ≡ None) → cond (w.node == n) (Some w) (pair_of n ws) ≡ None
    by (below l) h first again = let lt : w.node < n = ltb-true w.node n l in rw (ne_eqb w.node n (λ f. omega arith)) (again (rw l at h))
    by (equal l e same) h first again = absurd (cc)
    by (above l e g) h first again = rw e (none_above n w.node ws (ltb-false w.node n l) first)

pub found_value : (n : ℕ) (ws : List NodeWatts) (i : ℕ) (x : NodeWatts) → i ≡ place_among node n ws → key_here node n ws ≡ true → x ≡ get_or ws i x → Some x.watts ≡ value_at n ws
unfolding value_at
found_value n ws i x at h e = sym (ap (option_map (λ (w : NodeWatts). w.watts)) (found_here n ws x h (e ∙ ap (λ z. get_or ws z x) at)))

pub no_value : (n : ℕ) (ws : List NodeWatts) → is_rising (map node ws) ≡ true → key_here node n ws ≡ false → None ≡ value_at n ws
unfolding value_at
no_value n ws r h = sym (ap (option_map (λ (w : NodeWatts). w.watts)) (free_here n ws r h))

-- ---- a pair set

nodes-with_pair : (n : ℕ) (v : ℤ) (ws : List NodeWatts) → map node (with_pair n v ws) ≡ with_node n (map node ws)
unfolding with_pair with_node
nodes-with_pair n v [] = refl
nodes-with_pair n v (w ∷ ws) = by (nat_lt w.node n) (w.node == n) refl (nodes-with_pair n v ws)
  where
    by : (t d : Bool) → (w.node == n) ≡ d → map node (with_pair n v ws) ≡ with_node n (map node ws)
        → map node (cond t (w ∷ with_pair n v ws) (cond d (pair n v ∷ ws) (pair n v ∷ w ∷ ws))) ≡ cond t (w.node ∷ with_node n (map node ws)) (cond d (w.node ∷ map node ws) (n ∷ w.node ∷ map node ws))
    by true d e again = ap (λ z. w.node ∷ z) again
    by false true e again = let same : w.node ≡ n = eqb-true w.node n e in ap (λ z. z ∷ map node ws) (sym same)
    by false false e again = refl

pub rising-with_pair : (n : ℕ) (v : ℤ) (ws : List NodeWatts) → is_rising (map node ws) ≡ true → is_rising (map node (with_pair n v ws)) ≡ true
rising-with_pair n v ws r = ap is_rising (nodes-with_pair n v ws) ∙ rising-with_node n (map node ws) r

set_here : (n : ℕ) (v : ℤ) (ws : List NodeWatts) (x : NodeWatts) → key_here node n ws ≡ true → x ≡ get_or ws (place_among node n ws) x → set ws (place_among node n ws) (record x { watts = v }) ≡ with_pair n v ws
unfolding with_pair
set_here n v [] x h e = absurd (false≢true h)
set_here n v (w ∷ ws) x h e = by (nat_lt w.node n) h e (set_here n v ws x)
  where
    by : (t : Bool) → cond t (key_here node n ws) (w.node == n) ≡ true → x ≡ get_or (w ∷ ws) (cond t (suc (place_among node n ws)) 0) x
        → (key_here node n ws ≡ true → x ≡ get_or ws (place_among node n ws) x → set ws (place_among node n ws) (record x { watts = v }) ≡ with_pair n v ws)
        → set (w ∷ ws) (cond t (suc (place_among node n ws)) 0) (record x { watts = v }) ≡ cond t (w ∷ with_pair n v ws) (cond (w.node == n) (pair n v ∷ ws) (pair n v ∷ w ∷ ws))
    by true h e again = ap (λ z. w ∷ z) (again h e)
    by false h e again =
        let same : x.node ≡ n = ap (λ (z : NodeWatts). z.node) e ∙ eqb-true w.node n h in
        rw h (ap (λ m. pair m v ∷ ws) same)

pub set_there : (n : ℕ) (v : ℤ) (ws : List NodeWatts) (i : ℕ) (x : NodeWatts) → i ≡ place_among node n ws → key_here node n ws ≡ true → x ≡ get_or ws i x → set ws i (record x { watts = v }) ≡ with_pair n v ws
set_there n v ws i x at h e = ap (λ z. set ws z (record x { watts = v })) at ∙ set_here n v ws x h (e ∙ ap (λ z. get_or ws z x) at)

put_here : (n : ℕ) (v : ℤ) (ws : List NodeWatts) → key_here node n ws ≡ false → insert ws (place_among node n ws) (pair n v) ≡ with_pair n v ws
unfolding with_pair
put_here n v [] h = refl
put_here n v (w ∷ ws) h = by (nat_lt w.node n) h (put_here n v ws)
  where
    by : (t : Bool) → cond t (key_here node n ws) (w.node == n) ≡ false → (key_here node n ws ≡ false → insert ws (place_among node n ws) (pair n v) ≡ with_pair n v ws)
        → insert (w ∷ ws) (cond t (suc (place_among node n ws)) 0) (pair n v) ≡ cond t (w ∷ with_pair n v ws) (cond (w.node == n) (pair n v ∷ ws) (pair n v ∷ w ∷ ws))
    by true h again = ap (λ z. w ∷ z) (again h)
    by false h again = rw h refl

pub put_there : (n : ℕ) (v : ℤ) (ws : List NodeWatts) (i : ℕ) → i ≡ place_among node n ws → key_here node n ws ≡ false → insert ws i (pair n v) ≡ with_pair n v ws
put_there n v ws i at h = ap (λ z. insert ws z (pair n v)) at ∙ put_here n v ws h

-- ---- a pair taken out

all-rest : (p : ℕ → Bool) (n : ℕ) (ws : List NodeWatts) → list_all p (map node ws) ≡ true → list_all p (map node (rest_of n ws)) ≡ true
all-rest p n [] h = refl
all-rest p n (w ∷ ws) h = by (w.node == n) (all-rest p n ws parts.1)
  where
    parts : (p w.node ≡ true) × (list_all p (map node ws) ≡ true)
    parts = and_parts (p w.node) (list_all p (map node ws)) h

    by : (d : Bool) → list_all p (map node (rest_of n ws)) ≡ true → list_all p (map node (cond (not d) (w ∷ rest_of n ws) (rest_of n ws))) ≡ true
    by true again = again
    by false again = and_from _ _ parts.0 again

rising-rest : (n : ℕ) (ws : List NodeWatts) → is_rising (map node ws) ≡ true → is_rising (map node (rest_of n ws)) ≡ true
unfolding is_rising
rising-rest n [] r = refl
rising-rest n (w ∷ ws) r = by (w.node == n) (rising-rest n ws parts.1)
  where
    parts : (list_all (nat_lt w.node) (map node ws) ≡ true) × (is_rising (map node ws) ≡ true)
    parts = and_parts (list_all (nat_lt w.node) (map node ws)) (is_rising (map node ws)) r

    by : (d : Bool) → is_rising (map node (rest_of n ws)) ≡ true → is_rising (map node (cond (not d) (w ∷ rest_of n ws) (rest_of n ws))) ≡ true
    by true again = again
    by false again = and_from _ _ (all-rest (nat_lt w.node) n ws parts.0) again

pub rising-without_pair : (n : ℕ) (ws : List NodeWatts) → is_rising (map node ws) ≡ true → is_rising (map node (without_pair n ws)) ≡ true
unfolding without_pair
rising-without_pair n ws r = rising-rest n ws r

removed_here : (n : ℕ) (ws : List NodeWatts) → is_rising (map node ws) ≡ true → key_here node n ws ≡ true → remove ws (place_among node n ws) ≡ rest_of n ws
unfolding is_rising
removed_here n [] r h = absurd (false≢true h)
removed_here n (w ∷ ws) r h =
    let parts = and_parts (list_all (nat_lt w.node) (map node ws)) (is_rising (map node ws)) r in
    by (order w.node n) h parts.0 (removed_here n ws parts.1)
  where
    by : Order w.node n → cond (nat_lt w.node n) (key_here node n ws) (w.node == n) ≡ true → list_all (nat_lt w.node) (map node ws) ≡ true
        → (key_here node n ws ≡ true → remove ws (place_among node n ws) ≡ rest_of n ws)
        → remove (w ∷ ws) (cond (nat_lt w.node n) (suc (place_among node n ws)) 0) ≡ cond (not (w.node == n)) (w ∷ rest_of n ws) (rest_of n ws)
    by (below l) h first again = let lt : w.node < n = ltb-true w.node n l in rw (l, ne_eqb w.node n (λ f. omega arith)) (ap (λ z. w ∷ z) (again (rw l at h)))
    by (equal l e same) h first again = rw (l, e) (sym (all_kept n ws (none_above n w.node ws (omega (arith, same)) first)))
    by (above l e g) h first again = absurd (cc)

pub removed_there : (n : ℕ) (ws : List NodeWatts) (i : ℕ) → is_rising (map node ws) ≡ true → i ≡ place_among node n ws → key_here node n ws ≡ true → remove ws i ≡ without_pair n ws
unfolding without_pair
removed_there n ws i r at h = ap (remove ws) at ∙ removed_here n ws r h

pub none_removed : (n : ℕ) (ws : List NodeWatts) → is_rising (map node ws) ≡ true → key_here node n ws ≡ false → ws ≡ without_pair n ws
unfolding without_pair
none_removed n ws r h = sym (all_kept n ws (free_here n ws r h))

-- a node that has no value is not there
pub no_value_kept : (n : ℕ) (ws : List NodeWatts) → value_at n ws ≡ None → without_pair n ws ≡ ws
unfolding value_at without_pair
no_value_kept n ws h = all_kept n ws (by (pair_of n ws) h)
  where
    by : (o : Option NodeWatts) → option_map (λ (w : NodeWatts). w.watts) o ≡ None → o ≡ None
    by None h = refl
    by (Some w) h = cc
