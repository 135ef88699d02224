-- Paths of nodes under other names: a level's nodes and their indices.
use Rattle.std.proofs.Common.{◌≡◌, refl, sym, ap, ◌∙◌, subst, ℕ, zero, suc, Bool, true, false, cond, not, ◌&&◌, ◌||◌, List, [], ◌∷◌, inl, inr}
use Rattle.std.specs.Prelude.{Option, Some, None, eqb, slice_get, map, unwrap_or}
use Rattle.std.specs.List.{list_any}
use Rattle.std.specs.Option.{option_map}
use Rattle.std.proofs.lemmas.Bool.{eqb-true, eq-eqb}
use Rattle.std.proofs.lemmas.Option.{slice_get-map}
use Rattle.grid_lemmas.proofs.Bools.{or_left, or_right}
use Rattle.grid_graph.specs.Joined.{within}
use Rattle.grid_graph.proofs.Reach.{In}
use Rattle.grid_graph.proofs.RenamedNodes.{renamed, IsApart, EndsIn, within_renamed}
use Rattle.grid_paths.specs.Paths.{◌>>=◌, has_node, all_differ, across, visited, differ_if_some, is_path, last_in, last_node}
use Rattle.grid_paths.proofs.Least.{Member, begins, some_same, some_none, visited_ends, IsEnd}
use Rattle.grid_paths.proofs.RouteCosts.{across_ends}

module _ (f : ℕ → ℕ) (nodes : List ℕ) (apart : IsApart f nodes) where
  same_node : (x y : ℕ) → In x nodes → In y nodes → eqb (f x) (f y) ≡ eqb x y
  unfolding within
  same_node x y i j = within_renamed f nodes apart [] 0 x y i j tt

  -- ---- the nodes that are visited

  across_by : (s t : Bool) (x y : ℕ) → cond s (Some (f y)) (cond t (Some (f x)) None) ≡ option_map f (cond s (Some y) (cond t (Some x) None))
  across_by true t x y = refl
  across_by false true x y = refl
  across_by false false x y = refl

  across_renamed : (a : ℕ) (pair : ℕ × ℕ) → In a nodes → In pair.0 nodes → In pair.1 nodes → across (f a) (f pair.0, f pair.1) ≡ option_map f (across a pair)
  unfolding across
  across_renamed a pair i j k = rw (same_node pair.0 a j i, same_node pair.1 a k i) (across_by (eqb pair.0 a) (eqb pair.1 a) pair.0 pair.1)

  pair_in : (pairs : List (ℕ × ℕ)) (place : ℕ) (pair : ℕ × ℕ) → EndsIn nodes pairs → slice_get pairs place ≡ Some pair → In pair.0 nodes × In pair.1 nodes
  pair_in [] place pair ends e = absurd (some_none pair e)
  pair_in (p ∷ ps) zero pair ends e = let P : ℕ × ℕ → Type 0 = λ z. In z.0 nodes × In z.1 nodes in subst P (some_same p pair e) (ends.0, ends.1)
  pair_in (p ∷ ps) (suc place) pair ends e = pair_in ps place pair ends.2 e

  end_in : (a c : ℕ) (pair : ℕ × ℕ) → In pair.0 nodes → In pair.1 nodes → across a pair ≡ Some c → In c nodes
  end_in a c pair j k e = let P : ℕ → Type 0 = λ z. In z nodes in elim (across_ends a c pair e) [ inl h ↦ subst P h.1 k | inr h ↦ subst P h.1 j ]

  with_nodes : (a : ℕ) (now : Option (List ℕ)) (was : Option (List ℕ)) → now ≡ option_map (map f) was → (now >>= λ ns. Some (f a ∷ ns)) ≡ option_map (map f) (was >>= λ ns. Some (a ∷ ns))
  with_nodes a now was e = ap (λ z. z >>= λ ns. Some (f a ∷ ns)) e ∙ by was
    where
      by : (o : Option (List ℕ)) → (option_map (map f) o >>= λ ns. Some (f a ∷ ns)) ≡ option_map (map f) (o >>= λ ns. Some (a ∷ ns))
      by None = refl
      by (Some ns) = refl

  module _ (pairs : List (ℕ × ℕ)) (ends : EndsIn nodes pairs) where
    with_end : (rest : List ℕ) (a : ℕ) (o : Option ℕ) → ((c : ℕ) → o ≡ Some c → visited (renamed f pairs) (f c) rest ≡ option_map (map f) (visited pairs c rest))
        → (option_map f o >>= λ c. visited (renamed f pairs) c rest >>= λ ns. Some (f a ∷ ns)) ≡ option_map (map f) (o >>= λ c. visited pairs c rest >>= λ ns. Some (a ∷ ns))
    with_end rest a None h = refl
    with_end rest a (Some c) h = with_nodes a _ _ (h c refl)

    with_pair : (rest : List ℕ) (a : ℕ) (o : Option (ℕ × ℕ)) → In a nodes → ((pair : ℕ × ℕ) → o ≡ Some pair → In pair.0 nodes × In pair.1 nodes)
        → ((c : ℕ) → In c nodes → visited (renamed f pairs) (f c) rest ≡ option_map (map f) (visited pairs c rest))
        → (option_map (λ p. (f p.0, f p.1)) o >>= λ pair. across (f a) pair >>= λ c. visited (renamed f pairs) c rest >>= λ ns. Some (f a ∷ ns))
        ≡ option_map (map f) (o >>= λ pair. across a pair >>= λ c. visited pairs c rest >>= λ ns. Some (a ∷ ns))
    with_pair rest a None i h onward = refl
    with_pair rest a (Some pair) i h onward =
        let at = h pair refl in
        ap (λ z. z >>= λ c. visited (renamed f pairs) c rest >>= λ ns. Some (f a ∷ ns)) (across_renamed a pair i at.0 at.1)
        ∙ with_end rest a (across a pair) (λ c e. onward c (end_in a c pair at.0 at.1 e))

    visits_renamed : (path : List ℕ) (a : ℕ) → In a nodes → visited (renamed f pairs) (f a) path ≡ option_map (map f) (visited pairs a path)
    unfolding visited
    visits_renamed [] a i = refl
    visits_renamed (place ∷ rest) a i =
        ap (λ z. z >>= λ pair. across (f a) pair >>= λ c. visited (renamed f pairs) c rest >>= λ ns. Some (f a ∷ ns)) (slice_get-map (λ p. (f p.0, f p.1)) pairs place)
        ∙ with_pair rest a (slice_get pairs place) i (λ pair e. pair_in pairs place pair ends e) (λ c k. visits_renamed rest c k)

    -- ---- all that is visited is a node

    member_in : (ps : List (ℕ × ℕ)) (pair : ℕ × ℕ) → EndsIn nodes ps → Member pair ps → In pair.0 nodes × In pair.1 nodes
    member_in [] pair e m = absurd m
    member_in (p ∷ ps) pair e (inl g) = let P : ℕ × ℕ → Type 0 = λ z. In z.0 nodes × In z.1 nodes in subst P g (e.0, e.1)
    member_in (p ∷ ps) pair e (inr m) = member_in ps pair e.2 m

    seen_end : (n : ℕ) → IsEnd pairs n → In n nodes
    seen_end n (pair, m, inl e) = let P : ℕ → Type 0 = λ z. In z nodes in subst P (sym e) (member_in pairs pair ends m).0
    seen_end n (pair, m, inr e) = let P : ℕ → Type 0 = λ z. In z nodes in subst P (sym e) (member_in pairs pair ends m).1

    seen_by : (a n : ℕ) (ns : List ℕ) (t : Bool) → eqb n a ≡ t → In a nodes → (list_any (eqb n) ns ≡ true → In n nodes) → t || list_any (eqb n) ns ≡ true → In n nodes
    seen_by a n ns true e i h k = let P : ℕ → Type 0 = λ z. In z nodes in subst P (sym (eqb-true n a e)) i
    seen_by a n ns false e i h k = h k

    seen : (path : List ℕ) (a : ℕ) (ns : List ℕ) → In a nodes → visited pairs a path ≡ Some ns → (n : ℕ) → has_node ns n ≡ true → In n nodes
    unfolding has_node
    seen path a ns i e n h =
        let b = begins pairs a path ns e in
        let P : List ℕ → Type 0 = λ z. list_any (eqb n) z ≡ true in
        seen_by a n b.0 (eqb n a) refl i (λ k. seen_end n (visited_ends pairs path a b.0 (e ∙ ap Some b.1) n k)) (subst P b.1 h)

    -- ---- the same path

    has_renamed : (n : ℕ) (ns : List ℕ) → In n nodes → ((m : ℕ) → has_node ns m ≡ true → In m nodes) → has_node (map f ns) (f n) ≡ has_node ns n
    unfolding has_node
    has_renamed n [] i h = refl
    has_renamed n (m ∷ ns) i h =
        ap (λ t. t || list_any (eqb (f n)) (map f ns)) (same_node n m i (h m (or_left (eqb m m) (list_any (eqb m) ns) (eq-eqb m m refl))))
        ∙ ap (λ t. eqb n m || t) (has_renamed n ns i (λ q k. h q (or_right (eqb q m) (list_any (eqb q) ns) k)))

    differ_renamed : (ns : List ℕ) → ((m : ℕ) → has_node ns m ≡ true → In m nodes) → all_differ (map f ns) ≡ all_differ ns
    unfolding all_differ has_node
    differ_renamed [] h = refl
    differ_renamed (n ∷ ns) h =
        ap (λ t. not t && all_differ (map f ns)) (has_renamed n ns (h n (or_left (eqb n n) (list_any (eqb n) ns) (eq-eqb n n refl))) (λ q k. h q (or_right (eqb q n) (list_any (eqb q) ns) k)))
        ∙ ap (λ t. not (has_node ns n) && t) (differ_renamed ns (λ q k. h q (or_right (eqb q n) (list_any (eqb q) ns) k)))

    differ_by : (path : List ℕ) (a : ℕ) (o : Option (List ℕ)) → In a nodes → visited pairs a path ≡ o → differ_if_some (option_map (map f) o) ≡ differ_if_some o
    unfolding differ_if_some
    differ_by path a None i e = refl
    differ_by path a (Some ns) i e = differ_renamed ns (seen path a ns i e)

    pub path_renamed : (path : List ℕ) (a : ℕ) → In a nodes → is_path (renamed f pairs) (f a) path ≡ is_path pairs a path
    unfolding is_path
    path_renamed path a i = ap differ_if_some (visits_renamed path a i) ∙ differ_by path a (visited pairs a path) i refl

    last_renamed : (ns : List ℕ) (a : ℕ) → last_in (f a) (map f ns) ≡ f (last_in a ns)
    unfolding last_in
    last_renamed [] a = refl
    last_renamed (n ∷ ns) a = last_renamed ns n

    last_by : (a : ℕ) (o : Option (List ℕ)) → last_in (f a) (unwrap_or (option_map (map f) o) []) ≡ f (last_in a (unwrap_or o []))
    unfolding last_in
    last_by a None = refl
    last_by a (Some ns) = last_renamed ns a

    pub end_renamed : (path : List ℕ) (a : ℕ) → In a nodes → last_node (renamed f pairs) (f a) path ≡ f (last_node pairs a path)
    unfolding last_node
    end_renamed path a i = ap (λ z. last_in (f a) (unwrap_or z [])) (visits_renamed path a i) ∙ last_by a (visited pairs a path)

    last_seen : (ns : List ℕ) (a : ℕ) → In a nodes → ((m : ℕ) → has_node ns m ≡ true → In m nodes) → In (last_in a ns) nodes
    unfolding last_in has_node
    last_seen [] a i h = i
    last_seen (n ∷ ns) a i h = last_seen ns n (h n (or_left (eqb n n) (list_any (eqb n) ns) (eq-eqb n n refl))) (λ q k. h q (or_right (eqb q n) (list_any (eqb q) ns) k))

    end_by : (path : List ℕ) (a : ℕ) (o : Option (List ℕ)) → In a nodes → visited pairs a path ≡ o → In (last_in a (unwrap_or o [])) nodes
    unfolding last_in
    end_by path a None i e = i
    end_by path a (Some ns) i e = last_seen ns a i (seen path a ns i e)

    -- where a path ends is a node
    pub end_among : (path : List ℕ) (a : ℕ) → In a nodes → In (last_node pairs a path) nodes
    unfolding last_node
    end_among path a i = end_by path a (visited pairs a path) i refl
