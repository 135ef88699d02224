-- The least of a list of paths, and that every path is listed.
use Rattle.std.proofs.Common.{◌≡◌, refl, sym, ap, ◌∙◌, subst, ℕ, zero, suc, ◌+◌, ◌≤◌, Bool, true, false, cond, not, ◌||◌, List, [], ◌∷◌, ◌++◌, length, inl, inr, ◌⊎◌, arith}
use Rattle.std.specs.Prelude.{Option, Some, None, eqb, slice_get, map, filter, count_by}
use Rattle.std.specs.List.{list_any, flat_map, enumerate_from, IsDistinct}
use Rattle.std.specs.declared.cmp.Ordering.{Ordering}
use Rattle.std.specs.declared.cmp.Ordering.TheVariants.{Less, Equal, Greater}
use Rattle.std.specs.Ordering.{is_lt, is_gt, ordering_reverse}
use Rattle.std.specs.Cmp.{IsTotalOrder}
use Rattle.std.proofs.lemmas.Cmp.{upto, tied_itself, nat_cmp_total, on_total, then_total, nat_list_cmp_total}
use Rattle.std.proofs.lemmas.Bool.{false≢true, or_cases, and_parts, not-true, both_ways, eqb-true, eq-eqb}
use Rattle.std.specs.Set.{is_member}
use Rattle.std.proofs.lemmas.Map.Made.{length-le_from_is_member}
use Rattle.grid_lemmas.proofs.Bools.{not_false}
use Rattle.grid_graph.proofs.Reach.{absent, eqb_laws}
use Rattle.grid_paths.specs.Paths.{◌>>=◌, has_node, all_differ, across, visited, differ_if_some, is_path, measure_cmp, is_better, better_of, least_path, step_over, steps_from, paths_beyond, paths_from}

abbrev pub Member : {A : Type 0} → A → List A → Type 0
Member x [] = ⊥
Member x (y ∷ ys) = (y ≡ x) ⊎ Member x ys

-- ---- the measure is a total order

measure_total : (costs : ℕ → Bool) → IsTotalOrder (measure_cmp costs)
unfolding measure_cmp
measure_total costs = then_total (on_total (count_by costs) nat_cmp_total) (then_total (on_total length nat_cmp_total) nat_list_cmp_total)

turned : (o : Ordering) → is_lt (ordering_reverse o) ≡ is_gt o
turned Less = refl
turned Equal = refl
turned Greater = refl

pub better_turned : (costs : ℕ → Bool) (p q : List ℕ) → is_better costs p q ≡ is_gt (measure_cmp costs q p)
unfolding is_better
better_turned costs p q = ap is_lt ((measure_total costs).antisymm p q) ∙ turned (measure_cmp costs q p)

not_better_itself : (costs : ℕ → Bool) (p : List ℕ) → is_better costs p p ≡ false
unfolding is_better
not_better_itself costs p = ap is_lt (tied_itself (measure_total costs) p)

-- r isn't better than q, nor q than p: then r isn't better than p
not_better_trans : (costs : ℕ → Bool) (p q r : List ℕ) → is_better costs r q ≡ false → is_better costs q p ≡ false → is_better costs r p ≡ false
not_better_trans costs p q r h k =
    better_turned costs r p ∙ upto (measure_total costs) p q r (sym (better_turned costs q p) ∙ k) (sym (better_turned costs r q) ∙ h)

less_not_back : (o : Ordering) → is_lt o ≡ true → is_gt o ≡ false
less_not_back Less h = refl
less_not_back Equal h = refl
less_not_back Greater h = absurd (false≢true h)

better_not_back : (costs : ℕ → Bool) (p q : List ℕ) → is_better costs q p ≡ true → is_better costs p q ≡ false
unfolding is_better
better_not_back costs p q h = better_turned costs p q ∙ less_not_back (measure_cmp costs q p) h

-- ---- the least of a list

abbrev pub LeastOf : (ℕ → Bool) → List (List ℕ) → Option (List ℕ) → Type 0
LeastOf costs ps None = ps ≡ []
LeastOf costs ps (Some q) = Member q ps × ((r : List ℕ) → Member r ps → is_better costs r q ≡ false)

chosen_least : (costs : ℕ → Bool) (p q : List ℕ) (rest : List (List ℕ)) (t : Bool) → is_better costs q p ≡ t → LeastOf costs rest (Some q) → LeastOf costs (p ∷ rest) (Some (cond t q p))
chosen_least costs p q rest true e least = (inr least.0, by)
  where
    by : (r : List ℕ) → Member r (p ∷ rest) → is_better costs r q ≡ false
    by r (inl g) = let P : List ℕ → Type 0 = λ z. is_better costs z q ≡ false in subst P g (better_not_back costs p q e)
    by r (inr g) = least.1 r g
chosen_least costs p q rest false e least = (inl refl, by)
  where
    by : (r : List ℕ) → Member r (p ∷ rest) → is_better costs r p ≡ false
    by r (inl g) = let P : List ℕ → Type 0 = λ z. is_better costs z p ≡ false in subst P g (not_better_itself costs p)
    by r (inr g) = not_better_trans costs p q r (least.1 r g) e

picked_least : (costs : ℕ → Bool) (p : List ℕ) (rest : List (List ℕ)) (o : Option (List ℕ)) → LeastOf costs rest o → LeastOf costs (p ∷ rest) (Some (better_of costs p o))
unfolding better_of
picked_least costs p rest None e = (inl refl, by)
  where
    by : (r : List ℕ) → Member r (p ∷ rest) → is_better costs r p ≡ false
    by r (inl g) = let P : List ℕ → Type 0 = λ z. is_better costs z p ≡ false in subst P g (not_better_itself costs p)
    by r (inr g) = absurd (let P : List (List ℕ) → Type 0 = λ z. Member r z in subst P e g)
picked_least costs p rest (Some q) least = chosen_least costs p q rest _ refl least

pub least_path_least : (costs : ℕ → Bool) (ps : List (List ℕ)) → LeastOf costs ps (least_path costs ps)
unfolding least_path
least_path_least costs [] = refl
least_path_least costs (p ∷ rest) = picked_least costs p rest (least_path costs rest) (least_path_least costs rest)

-- ---- membership

Member_left : {A : Type 0} (x : A) (xs ys : List A) → Member x xs → Member x (xs ++ ys)
Member_left x (z ∷ zs) ys (inl e) = inl e
Member_left x (z ∷ zs) ys (inr m) = inr (Member_left x zs ys m)
Member_left x [] ys m = absurd m

Member_right : {A : Type 0} (x : A) (xs ys : List A) → Member x ys → Member x (xs ++ ys)
Member_right x [] ys m = m
Member_right x (z ∷ zs) ys m = inr (Member_right x zs ys m)

Member-flat_map : {A B : Type 0} (f : A → List B) (xs : List A) (x : A) (y : B) → Member x xs → Member y (f x) → Member y (flat_map f xs)
Member-flat_map f [] x y m n = absurd m
Member-flat_map f (z ∷ zs) x y (inl e) n = Member_left y (f z) (flat_map f zs) (subst (λ w. Member y (f w)) (sym e) n)
Member-flat_map f (z ∷ zs) x y (inr m) n = Member_right y (f z) (flat_map f zs) (Member-flat_map f zs x y m n)

Member-map : {A B : Type 0} (f : A → B) (xs : List A) (x : A) → Member x xs → Member (f x) (map f xs)
Member-map f [] x m = absurd m
Member-map f (z ∷ zs) x (inl e) = inl (ap f e)
Member-map f (z ∷ zs) x (inr m) = inr (Member-map f zs x m)

Member_cond : {A : Type 0} (t : Bool) (z x : A) (kept : List A) → Member x kept → Member x (cond t (z ∷ kept) kept)
Member_cond true z x kept m = inr m
Member_cond false z x kept m = m

pub Member-filter : {A : Type 0} (test : A → Bool) (xs : List A) (x : A) → Member x xs → test x ≡ true → Member x (filter test xs)
Member-filter test [] x m h = absurd m
Member-filter test (z ∷ zs) x (inl e) h = rw (ap test e ∙ h) (inl e)
Member-filter test (z ∷ zs) x (inr m) h = Member_cond (test z) z x (filter test zs) (Member-filter test zs x m h)

filter_cond : {A : Type 0} (test : A → Bool) (z x : A) (kept : List A) (t : Bool) → test z ≡ t → (Member x kept → test x ≡ true) → Member x (cond t (z ∷ kept) kept) → test x ≡ true
filter_cond test z x kept true e f (inl g) = sym (ap test g) ∙ e
filter_cond test z x kept true e f (inr m) = f m
filter_cond test z x kept false e f m = f m

pub filter-Member : {A : Type 0} (test : A → Bool) (xs : List A) (x : A) → Member x (filter test xs) → test x ≡ true
filter-Member test [] x m = absurd m
filter-Member test (z ∷ zs) x m = filter_cond test z x (filter test zs) (test z) refl (filter-Member test zs x) m

-- ---- every path is listed

pub some_none : {A : Type 0} (x : A) → None ≡ Some x → ⊥
some_none x e = cc

pub some_same : {A : Type 0} (x y : A) → Some x ≡ Some y → x ≡ y
some_same x y e = cc

pub bind_some : {A B : Type 0} (o : Option A) (f : A → Option B) (y : B) → o >>= f ≡ Some y → (x : A) × (o ≡ Some x) × (f x ≡ Some y)
bind_some None f y e = absurd (some_none y e)
bind_some (Some x) f y e = (x, refl, e)

numbered : (edges : List (ℕ × ℕ)) (k p q : ℕ) (pair : ℕ × ℕ) → q ≡ k + p → slice_get edges p ≡ Some pair → Member (q, pair) (enumerate_from k edges)
numbered [] k p q pair e g = absurd (some_none pair g)
numbered (d ∷ ds) k zero q pair e g = inl (let same : d ≡ pair = some_same d pair g in let at : k ≡ q = omega (arith, e) in rw (same, at) refl)
numbered (d ∷ ds) k (suc p) q pair e g = inr (numbered ds (k + 1) p q pair (omega (arith, e)) g)

-- a path that has a first edge
pub record Onward (edges : List (ℕ × ℕ)) (a place : ℕ) (rest nodes : List ℕ) : Type 0 where
  pub pair : ℕ × ℕ
  pub next : ℕ
  pub onward : List ℕ
  pub at : slice_get edges place ≡ Some pair
  pub over : across a pair ≡ Some next
  pub goes : visited edges next rest ≡ Some onward
  pub all : nodes ≡ a ∷ onward

pub first_edge : (edges : List (ℕ × ℕ)) (a place : ℕ) (rest nodes : List ℕ) → visited edges a (place ∷ rest) ≡ Some nodes → Onward edges a place rest nodes
unfolding visited
first_edge edges a place rest nodes e =
    let one = bind_some (slice_get edges place) _ nodes e in
    let two = bind_some (across a one.0) _ nodes one.2 in
    let three = bind_some (visited edges two.0 rest) _ nodes two.2 in
    record { pair = one.0; next = two.0; onward = three.0; at = one.1; over = two.1; goes = three.1; all = sym (some_same (a ∷ three.0) nodes three.2) }

-- what is visited begins where the path does
pub begins : (edges : List (ℕ × ℕ)) (a : ℕ) (path nodes : List ℕ) → visited edges a path ≡ Some nodes → (rest : List ℕ) × (nodes ≡ a ∷ rest)
unfolding visited
begins edges a [] nodes e = ([], sym (some_same (a ∷ []) nodes e))
begins edges a (place ∷ rest) nodes e = let f = first_edge edges a place rest nodes e in (f.onward, f.all)

pub differ_parts : (n : ℕ) (rest : List ℕ) → all_differ (n ∷ rest) ≡ true → (has_node rest n ≡ false) × (all_differ rest ≡ true)
unfolding all_differ
differ_parts n rest h = let parts = and_parts (not (has_node rest n)) (all_differ rest) h in (not-true (has_node rest n) parts.0, parts.1)

pub has_node_here : (n : ℕ) (rest : List ℕ) → has_node (n ∷ rest) n ≡ true
unfolding has_node
has_node_here n rest = ap (λ t. t || list_any (eqb n) rest) (eq-eqb n n refl)

has_node_there : (n m : ℕ) (rest : List ℕ) → has_node rest n ≡ true → has_node (m ∷ rest) n ≡ true
unfolding has_node
has_node_there n m rest h = by (eqb n m)
  where
    by : (t : Bool) → t || list_any (eqb n) rest ≡ true
    by true = refl
    by false = h

has_node_not : (n m : ℕ) (rest : List ℕ) → (n ≡ m → ⊥) → has_node rest n ≡ false → has_node (m ∷ rest) n ≡ false
unfolding has_node
has_node_not n m rest ne h = by (eqb n m) refl
  where
    by : (t : Bool) → eqb n m ≡ t → t || list_any (eqb n) rest ≡ false
    by true e = absurd (ne (eqb-true n m e))
    by false e = h

stepped : (place : ℕ) (o : Option ℕ) (c : ℕ) → o ≡ Some c → Member (place, c) (step_over place o)
unfolding step_over
stepped place None c e = absurd (some_none c e)
stepped place (Some d) c e = inl (ap (λ z. (place, z)) (some_same d c e))

step_listed : (edges : List (ℕ × ℕ)) (a place c : ℕ) (pair : ℕ × ℕ) → slice_get edges place ≡ Some pair → across a pair ≡ Some c → Member (place, c) (steps_from edges a)
unfolding steps_from
step_listed edges a place c pair e f =
    Member-flat_map (λ (e : ℕ × (ℕ × ℕ)). step_over e.0 (across a e.1)) (enumerate_from 0 edges) (place, pair) (place, c)
    (numbered edges 0 place place pair (omega arith) e) (stepped place (across a pair) c f)

-- what a path visits after a isn't among what was seen
Fresh : List ℕ → List ℕ → Type 0
Fresh seen nodes = (n : ℕ) → has_node nodes n ≡ true → has_node seen n ≡ false

fresh_on : (c : ℕ) (seen rest : List ℕ) → Fresh seen (c ∷ rest) → has_node rest c ≡ false → Fresh (c ∷ seen) rest
unfolding Fresh
fresh_on c seen rest fresh alone n h =
    has_node_not n c seen (λ e. both_ways _ alone (let P : ℕ → Type 0 = λ z. has_node rest z ≡ true in subst P e h)) (fresh n (has_node_there n c rest h))

fresh_head : (c : ℕ) (seen rest : List ℕ) → Fresh seen (c ∷ rest) → has_node seen c ≡ false
unfolding Fresh
fresh_head c seen rest fresh = fresh c (has_node_here c rest)

put_on : (edges : List (ℕ × ℕ)) (k a place c : ℕ) (seen rest : List ℕ) → Member (place, c) (steps_from edges a) → has_node seen c ≡ false
    → Member rest (paths_beyond edges k (c ∷ seen) c) → Member (place ∷ rest) (paths_beyond edges (suc k) seen a)
unfolding paths_beyond
put_on edges k a place c seen rest step free m =
    inr (Member-flat_map (λ (s : ℕ × ℕ). map (λ r. s.0 ∷ r) (paths_beyond edges k (s.1 ∷ seen) s.1)) (filter (λ s. not (has_node seen s.1)) (steps_from edges a)) (place, c) (place ∷ rest)
    (Member-filter (λ (s : ℕ × ℕ). not (has_node seen s.1)) (steps_from edges a) (place, c) step (not_false _ free))
    (Member-map (λ r. place ∷ r) (paths_beyond edges k (c ∷ seen) c) rest m))

no_edges : (edges : List (ℕ × ℕ)) (k a : ℕ) (seen : List ℕ) → Member [] (paths_beyond edges k seen a)
unfolding paths_beyond
no_edges edges zero a seen = inl refl
no_edges edges (suc k) a seen = inl refl

listed : (edges : List (ℕ × ℕ)) (path : List ℕ) (k a : ℕ) (seen nodes : List ℕ)
    → visited edges a path ≡ Some (a ∷ nodes) → all_differ (a ∷ nodes) ≡ true → Fresh seen nodes → length path ≤ k → Member path (paths_beyond edges k seen a)
listed edges [] k a seen nodes e d fresh le = no_edges edges k a seen
listed edges (place ∷ rest) zero a seen nodes e d fresh le = absurd (omega arith)
listed edges (place ∷ rest) (suc k) a seen nodes e d fresh le =
    let f = first_edge edges a place rest (a ∷ nodes) e in
    let b = begins edges f.next rest f.onward f.goes in
    let whole : a ∷ nodes ≡ a ∷ f.next ∷ b.0 = f.all ∙ ap (λ z. a ∷ z) b.1 in
    let tail : nodes ≡ f.next ∷ b.0 = cc in
    let P : List ℕ → Type 0 = λ z. all_differ (a ∷ z) ≡ true in
    let differ = differ_parts a (f.next ∷ b.0) (subst P tail d) in
    let alone = differ_parts f.next b.0 differ.1 in
    let Q : List ℕ → Type 0 = λ z. Fresh seen z in
    let fresh' : Fresh seen (f.next ∷ b.0) = subst Q tail fresh in
    put_on edges k a place f.next seen rest (step_listed edges a place f.next f.pair f.at f.over)
    (fresh_head f.next seen b.0 fresh')
    (listed edges rest k f.next (f.next ∷ seen) b.0 (f.goes ∙ ap Some b.1) differ.1 (fresh_on f.next seen b.0 fresh' alone.0) (omega (arith, le)))

has_none : (n : ℕ) → has_node [] n ≡ false
unfolding has_node
has_none n = refl

begin_fresh : (a : ℕ) (rest : List ℕ) → has_node rest a ≡ false → Fresh (a ∷ []) rest
unfolding Fresh
begin_fresh a rest alone n h = has_node_not n a [] (λ e. both_ways _ alone (let P : ℕ → Type 0 = λ z. has_node rest z ≡ true in subst P e h)) (has_none n)

pub any_has : (ns : List ℕ) (q : ℕ) → list_any (eqb q) ns ≡ true → has_node ns q ≡ true
unfolding has_node
any_has ns q h = h

pub has_any : (ns : List ℕ) (q : ℕ) → has_node ns q ≡ true → list_any (eqb q) ns ≡ true
unfolding has_node
has_any ns q h = h

-- ---- no path has more edges than there are nodes

pub length_visited : (edges : List (ℕ × ℕ)) (path : List ℕ) (a : ℕ) (nodes : List ℕ) → visited edges a path ≡ Some (a ∷ nodes) → length nodes ≡ length path
unfolding visited
length_visited edges [] a nodes e = let same : a ∷ [] ≡ a ∷ nodes = some_same (a ∷ []) (a ∷ nodes) e in let tail : [] ≡ nodes = cc in ap length (sym tail)
length_visited edges (place ∷ rest) a nodes e =
    let f = first_edge edges a place rest (a ∷ nodes) e in
    let b = begins edges f.next rest f.onward f.goes in
    let whole : a ∷ nodes ≡ a ∷ f.next ∷ b.0 = f.all ∙ ap (λ z. a ∷ z) b.1 in
    let tail : nodes ≡ f.next ∷ b.0 = cc in
    ap length tail ∙ ap suc (length_visited edges rest f.next b.0 (f.goes ∙ ap Some b.1))

abbrev pub IsEnd : List (ℕ × ℕ) → ℕ → Type 0
IsEnd edges c = (pair : ℕ × ℕ) × Member pair edges × ((c ≡ pair.0) ⊎ (c ≡ pair.1))

pub got_Member : (edges : List (ℕ × ℕ)) (p : ℕ) (pair : ℕ × ℕ) → slice_get edges p ≡ Some pair → Member pair edges
got_Member [] p pair e = absurd (some_none pair e)
got_Member (d ∷ ds) zero pair e = inl (some_same d pair e)
got_Member (d ∷ ds) (suc p) pair e = inr (got_Member ds p pair e)

across_end : (a c : ℕ) (pair : ℕ × ℕ) → across a pair ≡ Some c → (c ≡ pair.0) ⊎ (c ≡ pair.1)
unfolding across
across_end a c pair e = by (eqb pair.0 a) (eqb pair.1 a) e
  where
    by : (s t : Bool) → cond s (Some pair.1) (cond t (Some pair.0) None) ≡ Some c → (c ≡ pair.0) ⊎ (c ≡ pair.1)
    by true t g = inr (sym (some_same pair.1 c g))
    by false true g = inl (sym (some_same pair.0 c g))
    by false false g = absurd (some_none c g)

pub visited_ends : (edges : List (ℕ × ℕ)) (path : List ℕ) (a : ℕ) (nodes : List ℕ) → visited edges a path ≡ Some (a ∷ nodes) → (n : ℕ) → has_node nodes n ≡ true → IsEnd edges n
unfolding visited has_node
visited_ends edges [] a nodes e n h =
    let same : a ∷ [] ≡ a ∷ nodes = some_same (a ∷ []) (a ∷ nodes) e in
    let tail : [] ≡ nodes = cc in
    absurd (false≢true (let P : List ℕ → Type 0 = λ z. list_any (eqb n) z ≡ true in subst P (sym tail) h))
visited_ends edges (place ∷ rest) a nodes e n h =
    let f = first_edge edges a place rest (a ∷ nodes) e in
    let b = begins edges f.next rest f.onward f.goes in
    let whole : a ∷ nodes ≡ a ∷ f.next ∷ b.0 = f.all ∙ ap (λ z. a ∷ z) b.1 in
    let tail : nodes ≡ f.next ∷ b.0 = cc in
    let P : List ℕ → Type 0 = λ z. list_any (eqb n) z ≡ true in
    elim (or_cases (eqb n f.next) (list_any (eqb n) b.0) (subst P tail h)) [
      | inl g ↦ (let Q : ℕ → Type 0 = λ z. IsEnd edges z in subst Q (sym (eqb-true n f.next g)) (f.pair, got_Member edges place f.pair f.at, across_end a f.next f.pair f.over))
      | inr g ↦ visited_ends edges rest f.next b.0 (f.goes ∙ ap Some b.1) n g
    ]

pub distinct : (ns : List ℕ) → all_differ ns ≡ true → IsDistinct eqb ns
unfolding IsDistinct has_node
distinct [] h = tt
distinct (n ∷ rest) h = let parts = differ_parts n rest h in (absent n rest parts.0, distinct rest parts.1)

few_edges : (nodes : List ℕ) (edges : List (ℕ × ℕ)) → ((n : ℕ) → IsEnd edges n → has_node nodes n ≡ true)
    → (path : List ℕ) (a : ℕ) (rest : List ℕ) → visited edges a path ≡ Some (a ∷ rest) → all_differ (a ∷ rest) ≡ true → length path ≤ length nodes
few_edges nodes edges ends path a rest e d =
    let le : length rest ≤ length nodes = length-le_from_is_member eqb_laws rest nodes (distinct rest (differ_parts a rest d).1) inside in
    let same : length rest ≡ length path = length_visited edges path a rest e in
    omega (arith, le, same)
  where
    inside : (q : ℕ) → is_member eqb rest q ≡ true → is_member eqb nodes q ≡ true
    inside q h = has_any nodes q (ends q (visited_ends edges path a rest e q (any_has rest q h)))

-- a path is one of those that are listed
path_listed : (nodes : List ℕ) (edges : List (ℕ × ℕ)) → ((n : ℕ) → IsEnd edges n → has_node nodes n ≡ true)
    → (path : List ℕ) (a : ℕ) (o : Option (List ℕ)) → visited edges a path ≡ o → differ_if_some o ≡ true → Member path (paths_from edges (length nodes) a)
unfolding differ_if_some paths_from
path_listed nodes edges ends path a None e d = absurd (false≢true d)
path_listed nodes edges ends path a (Some seen) e d =
    let b = begins edges a path seen e in
    let P : List ℕ → Type 0 = λ z. all_differ z ≡ true in
    let whole : visited edges a path ≡ Some (a ∷ b.0) = e ∙ ap Some b.1 in
    let differ : all_differ (a ∷ b.0) ≡ true = subst P b.1 d in
    listed edges path (length nodes) a (a ∷ []) b.0 whole differ (begin_fresh a b.0 (differ_parts a b.0 differ).0) (few_edges nodes edges ends path a b.0 whole differ)

pub is_path-listed : (nodes : List ℕ) (edges : List (ℕ × ℕ)) → ((n : ℕ) → IsEnd edges n → has_node nodes n ≡ true)
    → (path : List ℕ) (a : ℕ) → is_path edges a path ≡ true → Member path (paths_from edges (length nodes) a)
unfolding is_path
is_path-listed nodes edges ends path a h = path_listed nodes edges ends path a (visited edges a path) refl h
