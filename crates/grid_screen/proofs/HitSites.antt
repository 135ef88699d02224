-- The sites that are hit, listed level by level and node by node.
use Rattle.std.proofs.Common.{◌≡◌, refl, sym, ap, ◌∙◌, subst, ℕ, zero, suc, ◌+◌, ◌<◌, ◌≤◌, Bool, true, false, cond, List, [], ◌∷◌, ◌++◌, map, length, get_or, take, arith, Some, None, Option, append_assoc}
use Rattle.std.specs.Prelude.{slice_get, filter, Box}
use Rattle.std.specs.declared.alloc.Global.{Global}
use Rattle.std.specs.Option.{option_map}
use Rattle.std.specs.List.{flat_map, enumerate_from}
use Rattle.std.proofs.lemmas.List.{append-nil, take_all}
use Rattle.grid_lemmas.proofs.Lists.{map_one_more, some_got}
use Rattle.grid_level.specs.VoltageLevel.{VoltageLevel}
use Rattle.grid_level.specs.Passing.{nodes}
use Rattle.grid_groups.specs.Labels.{label_of, index_in}
use Rattle.grid_groups.proofs.Indices.{index_at}
use Rattle.grid_states.specs.Rows.{row_at}
use Rattle.grid_structure.specs.declared.Site.{Site}
use Rattle.grid_structure.specs.Sites.{levels}
use Rattle.grid_sparse.specs.Options.{present}
use Rattle.grid_sparse.proofs.Passes.{flat_map_present}
use Rattle.grid_screen.specs.declared.walk.Touched.{Touched}
use Rattle.grid_screen.specs.Grounds.{Ground, fault_flags}
use Rattle.grid_screen.specs.Listing.{is_hit, Fits, hit_sites}
use Rattle.grid_screen.specs.Walks.{Touches, touched_at, hits_in, hits_by, hits, IsTouched, IsTouchedBy, AreTouched}
use Rattle.grid_screen.specs.Zones.{site_at, network_sites}
use Rattle.grid_outages.proofs.Members.{map_among, filter_agrees}
use Rattle.grid_screen.proofs.WalkSteps.{got_below}
use Rattle.grid_screen.proofs.FaultEdges as passed

-- ---- node by node

read_at : (xs : List ℕ) (i x : ℕ) → slice_get xs i ≡ Some x → get_or xs i 0 ≡ x
read_at [] i x e = cc
read_at (y ∷ ys) zero x e = cc
read_at (y ∷ ys) (suc i) x e = read_at ys i x e

pub filter_last : {X : Type 0} (p : X → Bool) (xs : List X) (x : X) → filter p (xs ++ x ∷ []) ≡ filter p xs ++ cond (p x) (x ∷ []) []
filter_last p [] x = refl
filter_last {X} p (y ∷ ys) x = by (p y) (filter_last p ys x)
  where
    by : (t : Bool) → filter p (ys ++ x ∷ []) ≡ filter p ys ++ cond (p x) (x ∷ []) [] → cond t (y ∷ filter p (ys ++ x ∷ [])) (filter p (ys ++ x ∷ [])) ≡ cond t (y ∷ filter p ys) (filter p ys) ++ cond (p x) (x ∷ []) []
    by true again = ap (λ z. y ∷ z) again
    by false again = again

-- the sites of a level before an index that are hit
abbrev pub hit_before : ℕ → Touched → ℕ → List Site
hit_before place t i = filter (λ s. hits_in t s.node) (map (site_at place) (take i (nodes t.level.now)))

index_hit : (t : Touched) (i node : ℕ) → Fits t → slice_get (nodes t.level.now) i ≡ Some node → hits_in t node ≡ is_hit t i
unfolding label_of
index_hit t i node fits at =
    let ns = nodes t.level.now in
    let read = read_at ns i node at in
    let index : index_in ns node ≡ i = ap (index_in ns) (sym read) ∙ index_at ns i fits.rise (got_below ns i node at) in
    ap (λ z. get_or t.hit.items (get_or t.labels.items z 0) false) index

step : (place : ℕ) (t : Touched) (i node : ℕ) → Fits t → slice_get (nodes t.level.now) i ≡ Some node → hit_before place t (i + 1) ≡ hit_before place t i ++ cond (is_hit t i) (site_at place node ∷ []) []
step place t i node fits at =
    ap (filter (λ (s : Site). hits_in t s.node)) (map_one_more (site_at place) (nodes t.level.now) i (site_at place node) (ap (option_map (site_at place)) at))
    ∙ filter_last (λ (s : Site). hits_in t s.node) (map (site_at place) (take i (nodes t.level.now))) (site_at place node)
    ∙ ap (λ z. hit_before place t i ++ cond z (site_at place node ∷ []) []) (index_hit t i node fits at)

pub hit_more : (place : ℕ) (t : Touched) (i node : ℕ) (start old new : List Site) → Fits t → slice_get (nodes t.level.now) i ≡ Some node → is_hit t i ≡ true
    → old ≡ start ++ hit_before place t i → new ≡ old ++ site_at place node ∷ [] → new ≡ start ++ hit_before place t (i + 1)
hit_more place t i node start old new fits at h was is =
    is ∙ ap (λ z. z ++ site_at place node ∷ []) was ∙ append_assoc start (hit_before place t i) (site_at place node ∷ [])
    ∙ ap (λ z. start ++ z) (sym (step place t i node fits at ∙ ap (λ z. hit_before place t i ++ cond z (site_at place node ∷ []) []) h))

pub hit_skipped : (place : ℕ) (t : Touched) (i : ℕ) (start old : List Site) → Fits t → i < length (nodes t.level.now) → is_hit t i ≡ false → old ≡ start ++ hit_before place t i → old ≡ start ++ hit_before place t (i + 1)
hit_skipped place t i start old fits lt h was =
    let node = some_got (nodes t.level.now) i lt in
    was ∙ ap (λ z. start ++ z) (sym (step place t i node.0 fits node.1 ∙ ap (λ z. hit_before place t i ++ cond z (site_at place node.0 ∷ []) []) h ∙ append-nil (hit_before place t i)))

pub hit_all : (place : ℕ) (t : Touched) (i : ℕ) (start now : List Site) → length (nodes t.level.now) ≤ i → now ≡ start ++ hit_before place t i → now ≡ start ++ hit_sites place t
unfolding hit_sites
hit_all place t i start now most is = is ∙ ap (λ z. start ++ filter (λ (s : Site). hits_in t s.node) (map (site_at place) z)) (take_all i (nodes t.level.now) most)

-- ---- level by level

pub fits : (g : Ground) (place : ℕ) (t : Touched) → IsTouched g place t → Fits t
fits g place t h =
    let l = t.level.now in
    let flags = fault_flags g.stuck l.switches (row_at g.opened place) in
    let long = passed.long l flags t.labels.items h.keeps h.labels in
    record {
      long = long;
      below = λ k lt. (let less = passed.each_below l flags t.labels.items h.keeps h.labels k lt in omega (arith, less, long, h.long));
      rise = h.keeps.nodes_rise;
    }

abbrev pub level_sites : ℕ × VoltageLevel → List Site
level_sites at = map (site_at at.0) (nodes at.1)

abbrev numbered : {X : Type 0} → ℕ → X → Option (ℕ × X)
numbered n x = Some (n, x)

pub enumerate_got : {X : Type 0} (xs : List X) (low k : ℕ) (x : X) → slice_get xs k ≡ Some x → slice_get (enumerate_from low xs) k ≡ Some (low + k, x)
enumerate_got [] low k x e = cc
enumerate_got (y ∷ ys) low zero x e = let same : y ≡ x = cc in let here : low ≡ low + 0 = omega arith in rw (same, ← here) refl
enumerate_got {X} (y ∷ ys) low (suc k) x e =
    let moved : (low + 1) + k ≡ low + suc k = omega arith in
    enumerate_got ys (low + 1) k x e ∙ ap (λ (z : ℕ). numbered z x) moved

filter_join : {X : Type 0} (p : X → Bool) (xs ys : List X) → filter p (xs ++ ys) ≡ filter p xs ++ filter p ys
filter_join p [] ys = refl
filter_join {X} p (x ∷ xs) ys = by (p x) (filter_join p xs ys)
  where
    by : (t : Bool) → filter p (xs ++ ys) ≡ filter p xs ++ filter p ys → cond t (x ∷ filter p (xs ++ ys)) (filter p (xs ++ ys)) ≡ cond t (x ∷ filter p xs) (filter p xs) ++ filter p ys
    by true again = ap (λ z. x ∷ z) again
    by false again = again

none_pass : {X : Type 0} (xs : List X) → filter (λ (x : X). false) xs ≡ []
none_pass [] = refl
none_pass (x ∷ xs) = none_pass xs

filter_flat : {X Y : Type 0} (p : Y → Bool) (f : X → List Y) (xs : List X) → filter p (flat_map f xs) ≡ flat_map (λ x. filter p (f x)) xs
filter_flat p f [] = refl
filter_flat p f (x ∷ xs) = filter_join p (f x) (flat_map f xs) ∙ ap (λ z. filter p (f x) ++ z) (filter_flat p f xs)

-- those of a level that was hit, by its place
abbrev pub sites_hit : ℕ × Box Touched Global → List Site
sites_hit at = hit_sites at.0 at.1.value

hit_there : (touched : Touches) (k : ℕ) (l : VoltageLevel) (o : Option (Box Touched Global)) → touched_at touched k ≡ o → filter (hits touched) (level_sites (k, l)) ≡ filter (λ s. hits_by o s.node) (level_sites (k, l))
unfolding hits
hit_there touched k l o at =
    filter_agrees (hits touched) (λ (s : Site). hits_by o s.node) (level_sites (k, l))
    (λ s i. let n = map_among (site_at k) s (nodes l) i in
    let level : s.level ≡ k = ap (λ (z : Site). z.level) n.2 in
    ap (λ z. hits_by (touched_at touched z) s.node) level ∙ ap (λ z. hits_by z s.node) at)

own_sites : (g : Ground) (touched : Touches) (k : ℕ) (here : Box Touched Global) (l : VoltageLevel) → AreTouched g touched → touched_at touched k ≡ Some here → slice_get (levels g.net) k ≡ Some l → filter (hits touched) (level_sites (k, l)) ≡ hit_sites k here.value
unfolding hit_sites
own_sites g touched k here l each at got =
    let h = subst (IsTouchedBy g k) at (each.each k) in
    let there = h.at in
    let same : l ≡ here.value.level.now = cc in
    hit_there touched k l (Some here) at ∙ ap (λ (z : VoltageLevel). filter (λ (s : Site). hits_in here.value s.node) (level_sites (k, z))) same

-- the sites of a network that are hit are those of the levels that were hit
pub zone_present : (g : Ground) (touched : Touches) → AreTouched g touched → filter (hits touched) (network_sites g.net) ≡ flat_map sites_hit (present touched)
unfolding network_sites
zone_present g touched each =
    filter_flat (hits touched) level_sites (enumerate_from 0 (levels g.net))
    ∙ flat_map_present (λ (at : ℕ × VoltageLevel). filter (hits touched) (level_sites at)) sites_hit touched (levels g.net) each.long
    (λ k l none got. hit_there touched k l None none ∙ none_pass (level_sites (k, l)))
    (λ k here l some got. own_sites g touched k here l each some got)
