-- An outage made of changes fits what is kept, and has the figures of the changes.
use Rattle.std.proofs.Common.{◌≡◌, refl, sym, ap, ◌∙◌, subst, ℕ, ℤ, pos, negsuc, zero, suc, ◌+◌, ◌<◌, ◌≤◌, ◌-◌, Bool, true, false, cond, not, ◌||◌, List, [], ◌∷◌, ◌++◌, length, get_or, map, arith, inl, inr, ◌⊎◌, Option, Some, None}
use Rattle.std.specs.Prelude.{eqb, filter, flat_map, slice_get, position, is_some, option_and_then, All, Box}
use Rattle.std.specs.List.{list_any}
use Rattle.std.specs.Option.{option_map}
use Rattle.std.specs.List.Sorted.{IsStrictlyIncreasing}
use Rattle.std.specs.declared.alloc.Global.{Global}
use Rattle.std.proofs.lemmas.Bool.{cases_eq, cases_lt, eq-eqb, ne_eqb, eqb-true, or_cases, or_left, or_right, both_ways, false≢true, not-true, not_from_false, false_from_ne_true}
use Rattle.std.proofs.lemmas.List.{get_or-map, length-map, length-append}
use Rattle.std.proofs.lemmas.List.Elements.{All-nil, All-cons, All-head, All-tail}
use Rattle.std.proofs.lemmas.Grind.{flat_map-append}
use Rattle.grid_lemmas.proofs.Lists.{map_twice, some_got}
use Rattle.grid_graph.specs.Components.{places}
use Rattle.grid_graph.specs.Graph.{EndsBelow}
use Rattle.grid_graph.proofs.Counts.{at_place}
use Rattle.grid_groups.proofs.Steps.{places_more}
use Rattle.grid_level.specs.Passing.{nodes, placed_at}
use Rattle.grid_islands.specs.Islands.{pair_between}
use Rattle.grid_islands.specs.Numbering.{number_of_node, node_within}
use Rattle.grid_sparse.specs.Options.{present}
use Rattle.grid_unions.specs.Sweep.{is_among}
use Rattle.grid_unions.specs.declared.summed.Sums.{Sums}
use Rattle.grid_unions.proofs.Orders.{AreAmong, AreAlike}
use Rattle.grid_figures.specs.Figures.{figures_by}
use Rattle.grid_figures.specs.Outages as outages
use Rattle.grid_figures.specs.Outages.{LinkAt, link_at, links_left, number_of, pair_of, is_changed, IsThere, LinksThere, OutageFits}
use Rattle.grid_figures.specs.declared.outage.BusAt.{BusAt}
use Rattle.grid_figures.specs.declared.outage.ChangedSums.{ChangedSums}
use Rattle.grid_figures.specs.declared.outage.Outage.{Outage}
use Rattle.grid_figures.proofs.Alike.{figures_alike}
use Rattle.grid_outages.specs.declared.outage.Changed.{Changed}
use Rattle.grid_outages.specs.declared.screening.EndBus.{EndBus}
use Rattle.grid_outages.specs.declared.screening.Link.{Link}
use Rattle.grid_outages.specs.declared.screening.Screening.{Screening}
use Rattle.grid_outages.specs.Changes.{Changes, change_at, sums_in, present_sums, sums_before, place_among, place_in, number_at, link_pairs}
use Rattle.grid_outages.specs.Effects.{bus_at, link_of_buses, joined_of, joined_under, levels_of, levels_at, IsBelow, IsKept, IsWhole, ArePlaced, ChangesFit, firsts_under, figures_with, IsEffect}
use Rattle.grid_outages.specs.Parts.{ChangeAt, changed_part, row_of, joined_at, own_among, own_at}
use Rattle.grid_outages.specs.Tables.{is_end, ends_at}
use Rattle.grid_outages.proofs.Members.{Among, among_got, got_among, among_left, among_right, among_parts, among_filter, filter_among, any_among, any_found, among_map, map_among, among_flat, flat_among}
use Rattle.grid_outages.proofs.LevelPlaces.{row_has, row_is, place_has, place_is}
use Rattle.grid_outages.proofs.ShownLevels.{nothing_past}
use Rattle.grid_outages.proofs.There.{is_present, present_is, places_rise}

-- ---- lists

module _ {X : Type 0} (P : X → Type 0) where
  pub all_of : (xs : List X) → ((x : X) → Among x xs → P x) → All P xs
  all_of [] h = All-nil P
  all_of (x ∷ xs) h = All-cons P x xs (h x (inl refl)) (all_of xs (λ y i. h y (inr i)))

  pub of_all : (xs : List X) → All P xs → (x : X) → Among x xs → P x
  of_all [] h x i = absurd i
  of_all (y ∷ ys) h x (inl e) = subst P (sym e) (All-head P y ys h)
  of_all (y ∷ ys) h x (inr i) = of_all ys (All-tail P y ys h) x i

at_among : {X : Type 0} (xs : List X) (k : ℕ) (d : X) → k < length xs → Among (get_or xs k d) xs
at_among [] k d lt = absurd (omega arith)
at_among (x ∷ xs) zero d lt = inl refl
at_among (x ∷ xs) (suc k) d lt = inr (at_among xs k d (omega arith))

among_at : {X : Type 0} (xs : List X) (x d : X) → Among x xs → (k : ℕ) × (k < length xs) × (get_or xs k d ≡ x)
among_at [] x d i = absurd i
among_at (y ∷ ys) x d (inl e) = (0, omega arith, sym e)
among_at (y ∷ ys) x d (inr i) = let r = among_at ys x d i in (suc r.0, omega (arith, r.1), r.2)

got_at : {X : Type 0} (xs : List X) (k : ℕ) (d x : X) → slice_get xs k ≡ Some x → (k < length xs) × (get_or xs k d ≡ x)
got_at [] k d x e = cc
got_at (y ∷ ys) zero d x e = (omega arith, cc)
got_at (y ∷ ys) (suc k) d x e = let r = got_at ys k d x e in (omega (arith, r.0), r.1)

flat_same : {X Y : Type 0} (f g : X → List Y) (xs : List X) → ((x : X) → f x ≡ g x) → flat_map f xs ≡ flat_map g xs
flat_same f g [] h = refl
flat_same f g (x ∷ xs) h = ap (λ z. z ++ flat_map f xs) (h x) ∙ ap (λ z. g x ++ z) (flat_same f g xs h)

are_among : (first second : List (ℕ × ℕ)) → ((x : ℕ × ℕ) → Among x first → Among x second) → AreAmong first second
are_among first second h = record { found = λ k lt. among_at second (get_or first k (0, 0)) (0, 0) (h (get_or first k (0, 0)) (at_among first k (0, 0) lt)) }

-- ---- the link of two buses

pub of_buses : (link : Link) (p q : Option ℕ) (x : LinkAt) → Among x (link_of_buses link p q) → (a : ℕ) × (b : ℕ) × (p ≡ Some a) × (q ≡ Some b) × (x ≡ (bus_at link.first.level a, bus_at link.second.level b))
of_buses link (Some a) (Some b) x (inl e) = (a, b, refl, refl, e)
of_buses link (Some a) (Some b) x (inr i) = absurd i
of_buses link (Some a) None x i = absurd i
of_buses link None q x i = absurd i

to_buses : (link : Link) (p q : Option ℕ) (a b : ℕ) → p ≡ Some a → q ≡ Some b → Among (bus_at link.first.level a, bus_at link.second.level b) (link_of_buses link p q)
to_buses link p q a b e f = rw (e, f) (inl refl)

-- ---- an outage made of changes

module _ (kept : Screening) (changes : Changes) (w : IsWhole kept) (fit : ChangesFit kept changes) where
  abbrev sums : List (List Sums)
  sums = kept.sums

  abbrev links : List Link
  links = kept.links

  abbrev joined : List LinkAt
  joined = kept.joined

  abbrev all : List ChangeAt
  all = present changes

  abbrev levels : List ChangedSums
  levels = map changed_part all

  abbrev gone : List ℕ
  gone = flat_map (row_of kept.joined_ends) all

  abbrev own : List LinkAt
  own = flat_map (own_at links kept.ends changes) all

  abbrev outage : Outage
  outage = record { levels = levels; gone = gone; own = own }

  abbrev firsts : List ℕ
  firsts = firsts_under sums changes

  -- ---- buses

  module _ (l : ℕ) where
    abbrev Said : List ChangeAt → Type 0
    Said xs = (outages.level_sums sums (map changed_part xs) l ≡ present_sums sums changes l) ⊎ (((e : ChangeAt) → Among e xs → e.0 ≡ l → ⊥) × (outages.level_sums sums (map changed_part xs) l ≡ get_or sums l []))

    said : (xs : List ChangeAt) → ((e : ChangeAt) → Among e xs → change_at changes e.0 ≡ Some e.1) → Said xs
    unfolding outages.level_sums present_sums
    said [] h = inr (λ e i. absurd i, refl)
    said (x ∷ xs) h = elim (cases_eq x.0 l) [
      | inl e ↦ inl (rw (eq-eqb x.0 l e) (sym (ap (λ z. sums_in sums z l) (ap (change_at changes) (sym e) ∙ h x (inl refl)))))
      | inr ne ↦ (let skip : outages.level_sums sums (map changed_part (x ∷ xs)) l ≡ outages.level_sums sums (map changed_part xs) l = rw (ne_eqb x.0 l ne) refl in
          elim (said xs (λ e i. h e (inr i))) [
            | inl g ↦ inl (skip ∙ g)
            | inr g ↦ inr (λ e i q. others x xs ne g.0 e i q, skip ∙ g.1)
          ])
    ]
      where
        others : (x : ChangeAt) (xs : List ChangeAt) → (x.0 ≡ l → ⊥) → ((e : ChangeAt) → Among e xs → e.0 ≡ l → ⊥) → (e : ChangeAt) → Among e (x ∷ xs) → e.0 ≡ l → ⊥
        others x xs ne g e (inl h) q = ne (ap (λ (z : ChangeAt). z.0) (sym h) ∙ q)
        others x xs ne g e (inr i) q = g e i q

    sums_as : outages.level_sums sums levels l ≡ present_sums sums changes l
    unfolding present_sums
    sums_as = elim (said all (λ e i. present_is changes e i)) [
      | inl g ↦ g
      | inr g ↦ by (change_at changes l) refl g.0 g.1
    ]
      where
        by : (o : Option (Box Changed Global)) → change_at changes l ≡ o → ((e : ChangeAt) → Among e all → e.0 ≡ l → ⊥) → outages.level_sums sums levels l ≡ get_or sums l [] → outages.level_sums sums levels l ≡ present_sums sums changes l
        by None e none is = is ∙ sym (ap (λ z. sums_in sums z l) e)
        by (Some c) e none is = absurd (none (l, c) (is_present changes l c e) refl)

  before_as : (l : ℕ) → outages.sums_before sums levels l ≡ sums_before sums changes l
  unfolding outages.sums_before sums_before
  before_as l = flat_same (outages.level_sums sums levels) (present_sums sums changes) (places l) sums_as

  first_at : (l : ℕ) → l < length sums → get_or firsts l 0 ≡ length (sums_before sums changes l)
  unfolding firsts_under
  first_at l lt = at_place (length sums) (λ place. length (sums_before sums changes place)) firsts l refl lt

  number_as : (level bus : ℕ) → level < length sums → number_of sums levels (bus_at level bus) ≡ get_or firsts level 0 + bus
  unfolding number_of
  number_as level bus lt = ap (λ z. length z + bus) (before_as level) ∙ ap (λ z. z + bus) (sym (first_at level lt))

  append_nil : (xs : List Sums) → xs ++ [] ≡ xs
  append_nil [] = refl
  append_nil (x ∷ xs) = ap (λ z. x ∷ z) (append_nil xs)

  next_before : (l : ℕ) → sums_before sums changes (l + 1) ≡ sums_before sums changes l ++ present_sums sums changes l
  unfolding sums_before
  next_before l = ap (flat_map (present_sums sums changes)) (places_more l) ∙ flat_map-append (present_sums sums changes) (places l) (l ∷ []) ∙ ap (λ z. flat_map (present_sums sums changes) (places l) ++ z) (append_nil (present_sums sums changes l))

  long_before : (l : ℕ) → length (sums_before sums changes (l + 1)) ≡ length (sums_before sums changes l) + length (present_sums sums changes l)
  long_before l = ap length (next_before l) ∙ length-append (sums_before sums changes l) (present_sums sums changes l)

  grows_by : (l n : ℕ) → length (sums_before sums changes l) ≤ length (sums_before sums changes (l + n))
  grows_by l zero = let same : l ≡ l + 0 = omega arith in subst (λ z. length (sums_before sums changes l) ≤ length (sums_before sums changes z)) same (omega arith)
  grows_by l (suc n) =
      let r = grows_by l n in
      let more = long_before (l + n) in
      let up : length (sums_before sums changes l) ≤ length (sums_before sums changes ((l + n) + 1)) = omega (arith, r, more) in
      let same : (l + n) + 1 ≡ l + suc n = omega arith in
      subst (λ z. length (sums_before sums changes l) ≤ length (sums_before sums changes z)) same up

  grows : (l m : ℕ) → l ≤ m → length (sums_before sums changes l) ≤ length (sums_before sums changes m)
  grows l m le = let same : l + (m - l) ≡ m = omega (arith, le) in subst (λ z. length (sums_before sums changes l) ≤ length (sums_before sums changes z)) same (grows_by l (m - l))

  -- a bus's number is below the count of all buses
  number_below : (level bus : ℕ) → level < length sums → bus < length (present_sums sums changes level) → get_or firsts level 0 + bus < length (sums_before sums changes (length sums))
  number_below level bus lt inside =
      let first = first_at level lt in
      let up = grows (level + 1) (length sums) (omega (arith, lt)) in
      let next = long_before level in
      omega (arith, first, up, next, inside)

  -- ---- a bus at an end

  placed_below : (c : Changed) (node : ℤ) (a : ℕ) → ((k place : ℕ) → get_or c.places k None ≡ Some place → place < length c.sums) → (o : Option ℕ) → place_among c o node ≡ Some a → a < length c.sums
  unfolding place_among number_of_node
  placed_below c node a below None e = absurd (cc)
  placed_below c (pos node) a below (Some number) e = by (is_some (placed_at c.level number)) (position (λ n. eqb n node) (nodes c.level)) e
    where
      by : (t : Bool) (o : Option ℕ) → cond t (option_and_then (λ index. get_or c.places index None) o) None ≡ Some a → a < length c.sums
      by true (Some index) h = below index a h
      by true None h = absurd (cc)
      by false o h = absurd (cc)
  placed_below c (negsuc node) a below (Some number) e = by (is_some (placed_at c.level number)) e
    where
      by : (t : Bool) → cond t None None ≡ Some a → a < length c.sums
      by true h = absurd (cc)
      by false h = absurd (cc)

  bus_below : (spot : EndBus) (a : ℕ) → IsKept sums spot → place_in (change_at changes spot.level) spot ≡ Some a → a < length (present_sums sums changes spot.level)
  unfolding present_sums
  bus_below spot a known e = by (change_at changes spot.level) refl e
    where
      by : (o : Option (Box Changed Global)) → change_at changes spot.level ≡ o → place_in o spot ≡ Some a → a < length (sums_in sums (change_at changes spot.level) spot.level)
      by None is h = subst (λ z. a < length (sums_in sums z spot.level)) (sym is) (subst (λ z. IsBelow z (length (get_or sums spot.level []))) h known.1)
      by (Some c) is h = subst (λ z. a < length (sums_in sums z spot.level)) (sym is) (placed_below c.value spot.node a (subst ArePlaced is (fit.placed spot.level)) (node_within spot.node) h)

  -- ---- what is gone

  in_joined : (j : ℕ) → j < length joined → ends_at (map levels_at joined) j ≡ levels_at (link_at joined j)
  in_joined j lt = get_or-map levels_at joined j outages.no_link (0, 0) lt

  gone_has : (l : ℕ) (c : Box Changed Global) (j : ℕ) → change_at changes l ≡ Some c → j < length joined → is_end l (levels_at (link_at joined j)) ≡ true → is_among gone j ≡ true
  unfolding is_among
  gone_has l c j is lt h =
      let long : length (map levels_at joined) ≡ length joined = length-map joined levels_at in
      let inside = inside_of l c is in
      let here = row_has (length sums) (map levels_at joined) kept.joined_ends w.joined_ends l j inside (omega (arith, lt, long)) (ap (is_end l) (in_joined j lt) ∙ h) in
      any_among (λ other. eqb other j) j gone (among_flat (row_of kept.joined_ends) j (l, c) all (is_present changes l c is) here) (eq-eqb j j refl)
    where
      inside_of : (l : ℕ) (c : Box Changed Global) → change_at changes l ≡ Some c → l < length sums
      inside_of l c is = elim (cases_lt l (length changes)) [
        | inl lt ↦ omega (arith, lt, fit.long)
        | inr ge ↦ (let none : ◌≡◌ {A = Option (Box Changed Global)} (Some c) None = sym is ∙ nothing_past changes l ge in absurd (cc))
      ]

  -- a link that is gone has an end at a changed level
  gone_is : (j : ℕ) → is_among gone j ≡ true → (j < length joined) × ((e : ChangeAt) × Among e all × (is_end e.0 (levels_at (link_at joined j)) ≡ true))
  unfolding is_among
  gone_is j h =
      let other = any_found (λ other. eqb other j) gone h in
      let same = eqb-true other.0 j other.2 in
      let e = flat_among (row_of kept.joined_ends) other.0 all other.1 in
      let here = row_is (length sums) (map levels_at joined) kept.joined_ends w.joined_ends e.0.0 other.0 e.2 in
      let long : length (map levels_at joined) ≡ length joined = length-map joined levels_at in
      let lt : j < length joined = omega (arith, here.0, long, same) in
      (lt, (e.0, e.1, ap (is_end e.0.0) (sym (in_joined j lt)) ∙ ap (λ z. is_end e.0.0 (ends_at (map levels_at joined) z)) (sym same) ∙ here.1))

  left_is : (x : LinkAt) → Among x (links_left joined gone) → (j : ℕ) × (j < length joined) × (x ≡ link_at joined j) × (is_among gone j ≡ false)
  unfolding links_left
  left_is x i =
      let r = map_among (link_at joined) x (filter (λ place. not (is_among gone place)) (places (length joined))) i in
      let parts = filter_among (λ place. not (is_among gone place)) r.0 (places (length joined)) r.1 in
      (r.0, place_is (length joined) r.0 parts.0, r.2, not-true (is_among gone r.0) parts.1)

  left_has : (j : ℕ) → j < length joined → is_among gone j ≡ false → Among (link_at joined j) (links_left joined gone)
  unfolding links_left
  left_has j lt h = among_map (link_at joined) j (filter (λ place. not (is_among gone place)) (places (length joined))) (among_filter (λ place. not (is_among gone place)) j (places (length joined)) (place_has (length joined) j lt) (not_from_false (is_among gone j) h))

  -- a level at which a link that is left ends has not changed
  same_level : (j l : ℕ) → j < length joined → is_among gone j ≡ false → is_end l (levels_at (link_at joined j)) ≡ true → change_at changes l ≡ None
  same_level j l lt h end = by (change_at changes l) refl
    where
      by : (o : Option (Box Changed Global)) → change_at changes l ≡ o → o ≡ None
      by None is = refl
      by (Some c) is = absurd (both_ways (is_among gone j) h (gone_has l c j is lt end))

  first_end : (ends : ℕ × ℕ) → is_end ends.0 ends ≡ true
  first_end ends = or_left (eqb ends.0 ends.0) (eqb ends.1 ends.0) (eq-eqb ends.0 ends.0 refl)

  second_end : (ends : ℕ × ℕ) → is_end ends.1 ends ≡ true
  second_end ends = or_right (eqb ends.0 ends.1) (eqb ends.1 ends.1) (eq-eqb ends.1 ends.1 refl)

  left_stays : (x : LinkAt) → Among x (links_left joined gone) → (change_at changes x.0.level ≡ None) × (change_at changes x.1.level ≡ None)
  left_stays x i =
      let r = left_is x i in (
        same_level r.0 x.0.level r.1 r.3 (ap (λ z. is_end x.0.level (levels_at z)) (sym r.2) ∙ first_end (levels_at x)),
        same_level r.0 x.1.level r.1 r.3 (ap (λ z. is_end x.1.level (levels_at z)) (sym r.2) ∙ second_end (levels_at x)),
      )

  -- ---- links of its own

  own_is : (x : LinkAt) → Among x own → (link : Link) × Among link links × Among x (joined_under changes link)
  unfolding own_among
  own_is x i =
      let e = flat_among (own_at links kept.ends changes) x all i in
      let p = flat_among (λ place. joined_at changes (slice_get links place)) x (row_of kept.ends e.0) e.2 in
      by p.0 (slice_get links p.0) refl p.2
    where
      by : (place : ℕ) (o : Option Link) → slice_get links place ≡ o → Among x (joined_at changes o) → (link : Link) × Among link links × Among x (joined_under changes link)
      by place (Some link) is h = (link, among_got links place link is, h)
      by place None is h = absurd h

  own_has : (link : Link) (l : ℕ) (c : Box Changed Global) (x : LinkAt) → Among link links → change_at changes l ≡ Some c → l < length sums → is_end l (levels_of link) ≡ true → Among x (joined_under changes link) → Among x own
  unfolding own_among
  own_has link l c x i is inside end h =
      let r = got_among link links i in
      let at = got_at links r.0 link link r.1 in
      let long : length (map levels_of links) ≡ length links = length-map links levels_of in
      let read : ends_at (map levels_of links) r.0 ≡ levels_of link = get_or-map levels_of links r.0 link (0, 0) at.0 ∙ ap levels_of at.1 in
      let here = row_has (length sums) (map levels_of links) kept.ends w.ends l r.0 inside (omega (arith, at.0, long)) (ap (is_end l) read ∙ end) in
      among_flat (own_at links kept.ends changes) x (l, c) all (is_present changes l c is)
      (among_flat (λ place. joined_at changes (slice_get links place)) x r.0 (row_of kept.ends (l, c)) here (subst (λ z. Among x (joined_at changes z)) (sym r.1) h))

  -- ---- the outage fits

  known : (link : Link) → Among link links → IsKept sums link.first × IsKept sums link.second
  known link i = of_all (λ link. IsKept sums link.first × IsKept sums link.second) links w.buses link i

  there_under : (x : LinkAt) → Among x own → IsThere sums levels x.0 × IsThere sums levels x.1
  unfolding joined_under
  there_under x i =
      let o = own_is x i in
      let link = o.0 in
      let k = known link o.1 in
      let b = of_buses link (place_in (change_at changes link.first.level) link.first) (place_in (change_at changes link.second.level) link.second) x o.2 in
      let Both : LinkAt → Type 0 = λ z. IsThere sums levels z.0 × IsThere sums levels z.1 in
      subst Both (sym b.4) (
        (k.0.0, subst (λ z. b.0 < length z) (sym (sums_as link.first.level)) (bus_below link.first b.0 k.0 b.2)),
        (k.1.0, subst (λ z. b.1 < length z) (sym (sums_as link.second.level)) (bus_below link.second b.1 k.1 b.3)),
      )

  not_changed : (l : ℕ) → change_at changes l ≡ None → is_changed levels l ≡ false
  unfolding is_changed
  not_changed l none = false_from_ne_true (list_any (λ (c : ChangedSums). eqb c.level l) levels) (λ h.
      let c = any_found (λ (c : ChangedSums). eqb c.level l) levels h in
      let e = map_among changed_part c.0 all c.1 in
      let same : e.0.0 ≡ l = ap (λ (z : ChangedSums). z.level) (sym e.2) ∙ eqb-true c.0.level l c.2 in
      let some : ◌≡◌ {A = Option (Box Changed Global)} (Some e.0.1) None = sym (present_is changes e.0 e.1) ∙ ap (change_at changes) same ∙ none in
      absurd (cc))

  level_inside : (e : ChangeAt) → Among e all → e.0 < length sums
  level_inside e i = elim (cases_lt e.0 (length changes)) [
    | inl lt ↦ omega (arith, lt, fit.long)
    | inr ge ↦ (let none : ◌≡◌ {A = Option (Box Changed Global)} (Some e.1) None = sym (present_is changes e i) ∙ nothing_past changes e.0 ge in absurd (cc))
  ]

  gone_from : (j : ℕ) → Among j gone → is_among gone j ≡ true
  unfolding is_among
  gone_from j i = any_among (λ other. eqb other j) j gone i (eq-eqb j j refl)

  pub fits : OutageFits sums joined outage
  fits = record {
    rising = subst IsStrictlyIncreasing (sym (map_twice (λ (c : ChangedSums). c.level) changed_part all)) (places_rise changes);
    levels = all_of (λ (c : ChangedSums). c.level < length sums) levels (λ c i.
        let e = map_among changed_part c all i in
        subst (λ (z : ChangedSums). z.level < length sums) (sym e.2) (level_inside e.0 e.1));
    gone = all_of (λ place. place < length joined) gone (λ j i. (gone_is j (gone_from j i)).0);
    left = all_of (λ (x : LinkAt). (is_changed levels x.0.level ≡ false) × (is_changed levels x.1.level ≡ false)) (links_left joined gone) (λ x i.
        let s = left_stays x i in (not_changed x.0.level s.0, not_changed x.1.level s.1));
    own = all_of (λ (x : LinkAt). IsThere sums levels x.0 × IsThere sums levels x.1) own there_under;
  }

  -- ---- the same pairs

  abbrev pairs : List (ℕ × ℕ)
  pairs = map (pair_of sums levels) (links_left joined gone ++ own)

  abbrev others : List (ℕ × ℕ)
  others = flat_map (link_pairs firsts changes) links

  -- the pair of a link by the places of its buses
  pair_at : (link : Link) (a b : ℕ) → place_in (change_at changes link.first.level) link.first ≡ Some a → place_in (change_at changes link.second.level) link.second ≡ Some b
      → link_pairs firsts changes link ≡ (get_or firsts link.first.level 0 + a, get_or firsts link.second.level 0 + b) ∷ []
  unfolding link_pairs number_at pair_between
  pair_at link a b e f = rw (e, f) refl

  pair_as : (link : Link) (a b : ℕ) → Among link links → pair_of sums levels (bus_at link.first.level a, bus_at link.second.level b) ≡ (get_or firsts link.first.level 0 + a, get_or firsts link.second.level 0 + b)
  pair_as link a b i =
      let k = known link i in
      ap (λ (z : ℕ). (z, number_of sums levels (bus_at link.second.level b))) (number_as link.first.level a k.0.0)
      ∙ ap (λ (z : ℕ). (get_or firsts link.first.level 0 + a, z)) (number_as link.second.level b k.1.0)

  -- the pair of a link that joins buses under the changes is among the others
  forth_of : (link : Link) (x : LinkAt) → Among link links → Among x (joined_under changes link) → Among (pair_of sums levels x) others
  unfolding joined_under
  forth_of link x i h =
      let b = of_buses link (place_in (change_at changes link.first.level) link.first) (place_in (change_at changes link.second.level) link.second) x h in
      among_flat (link_pairs firsts changes) (pair_of sums levels x) link links i
      (subst (λ z. Among (pair_of sums levels x) z) (sym (pair_at link b.0 b.1 b.2 b.3)) (inl (ap (pair_of sums levels) b.4 ∙ pair_as link b.0 b.1 i)))

  -- a link that is left joins the same buses
  left_under : (x : LinkAt) → Among x (links_left joined gone) → (link : Link) × Among link links × Among x (joined_under changes link)
  unfolding joined_of joined_under
  left_under x i =
      let r = left_is x i in
      let s = left_stays x i in
      let here : Among x joined = subst (λ z. Among z joined) (sym r.2) (at_among joined r.0 outages.no_link r.1) in
      let l = flat_among joined_of x links (subst (λ z. Among x z) w.joined here) in
      let link = l.0 in
      let b = of_buses link link.first.bus link.second.bus x l.2 in
      let one : change_at changes link.first.level ≡ None = ap (λ (z : LinkAt). change_at changes z.0.level) (sym b.4) ∙ s.0 in
      let two : change_at changes link.second.level ≡ None = ap (λ (z : LinkAt). change_at changes z.1.level) (sym b.4) ∙ s.1 in (
        link,
        l.1,
        subst (λ z. Among z (link_of_buses link (place_in (change_at changes link.first.level) link.first) (place_in (change_at changes link.second.level) link.second))) (sym b.4)
            (to_buses link (place_in (change_at changes link.first.level) link.first) (place_in (change_at changes link.second.level) link.second) b.0 b.1 (ap (λ z. place_in z link.first) one ∙ b.2) (ap (λ z. place_in z link.second) two ∙ b.3)),
      )

  forth : (p : ℕ × ℕ) → Among p pairs → Among p others
  forth p i =
      let x = map_among (pair_of sums levels) p (links_left joined gone ++ own) i in
      let l = elim (among_parts x.0 (links_left joined gone) own x.1) as (λ _. (link : Link) × Among link links × Among x.0 (joined_under changes link)) [ inl h ↦ left_under x.0 h | inr h ↦ own_is x.0 h ] in
      subst (λ z. Among z others) (sym x.2) (forth_of l.0 x.0 l.1 l.2)

  -- a link under the changes is its own, or it is left
  back_of : (link : Link) (x : LinkAt) → Among link links → Among x (joined_under changes link) → Among x (links_left joined gone ++ own)
  unfolding joined_of joined_under
  back_of link x i h = by (change_at changes link.first.level) (change_at changes link.second.level) refl refl
    where
      k : IsKept sums link.first × IsKept sums link.second
      k = known link i

      by : (o u : Option (Box Changed Global)) → change_at changes link.first.level ≡ o → change_at changes link.second.level ≡ u → Among x (links_left joined gone ++ own)
      by (Some c) u e f = among_right x (links_left joined gone) own (own_has link link.first.level c x i e k.0.0 (first_end (levels_of link)) h)
      by None (Some c) e f = among_right x (links_left joined gone) own (own_has link link.second.level c x i f k.1.0 (second_end (levels_of link)) h)
      by None None e f =
          let b = of_buses link (place_in (change_at changes link.first.level) link.first) (place_in (change_at changes link.second.level) link.second) x h in
          let one : link.first.bus ≡ Some b.0 = ap (λ z. place_in z link.first) (sym e) ∙ b.2 in
          let two : link.second.bus ≡ Some b.1 = ap (λ z. place_in z link.second) (sym f) ∙ b.3 in
          let there : Among x joined = subst (λ z. Among x z) (sym w.joined) (among_flat joined_of x link links i (subst (λ z. Among z (link_of_buses link link.first.bus link.second.bus)) (sym b.4) (to_buses link link.first.bus link.second.bus b.0 b.1 one two))) in
          let at = among_at joined x outages.no_link there in
          let stays : is_among gone at.0 ≡ false = false_from_ne_true (is_among gone at.0) (λ g.
          let r = gone_is at.0 g in
          let end : is_end r.1.0.0 (levels_of link) ≡ true = ap (λ z. is_end r.1.0.0 (levels_at z)) (sym b.4 ∙ sym at.2) ∙ r.1.2 in
          elim (or_cases (eqb link.first.level r.1.0.0) (eqb link.second.level r.1.0.0) end) [
            | inl q ↦ (let some : ◌≡◌ {A = Option (Box Changed Global)} (Some r.1.0.1) None = sym (present_is changes r.1.0 r.1.1) ∙ ap (change_at changes) (sym (eqb-true link.first.level r.1.0.0 q)) ∙ e in absurd (cc))
            | inr q ↦ (let some : ◌≡◌ {A = Option (Box Changed Global)} (Some r.1.0.1) None = sym (present_is changes r.1.0 r.1.1) ∙ ap (change_at changes) (sym (eqb-true link.second.level r.1.0.0 q)) ∙ f in absurd (cc))
          ]) in
          among_left x (links_left joined gone) own (subst (λ z. Among z (links_left joined gone)) at.2 (left_has at.0 at.1 stays))

  back : (p : ℕ × ℕ) → Among p others → Among p pairs
  unfolding link_pairs number_at pair_between joined_under
  back p i =
      let l = flat_among (link_pairs firsts changes) p links i in
      by l.0 (place_in (change_at changes l.0.first.level) l.0.first) (place_in (change_at changes l.0.second.level) l.0.second) refl refl l.1 l.2
    where
      none_of : (o u : Option ℕ) → u ≡ None → pair_between o u ≡ []
      none_of None u e = refl
      none_of (Some a) u e = rw e refl

      only : (p q : ℕ × ℕ) → Among p (q ∷ []) → p ≡ q
      only p q (inl e) = e
      only p q (inr i) = absurd i

      by : (link : Link) (o u : Option ℕ) → place_in (change_at changes link.first.level) link.first ≡ o → place_in (change_at changes link.second.level) link.second ≡ u → Among link links → Among p (link_pairs firsts changes link) → Among p pairs
      by link (Some a) (Some b) e f at h =
          let here : Among p ((get_or firsts link.first.level 0 + a, get_or firsts link.second.level 0 + b) ∷ []) = subst (λ z. Among p z) (pair_at link a b e f) h in
          let x : LinkAt = (bus_at link.first.level a, bus_at link.second.level b) in
          let made = among_map (pair_of sums levels) x (links_left joined gone ++ own) (back_of link x at (to_buses link (place_in (change_at changes link.first.level) link.first) (place_in (change_at changes link.second.level) link.second) a b e f)) in
          subst (λ z. Among z pairs) (pair_as link a b at ∙ sym (only p (get_or firsts link.first.level 0 + a, get_or firsts link.second.level 0 + b) here)) made
      by link (Some a) None e f at h = absurd (subst (λ z. Among p z) (none_of (option_map (λ place. get_or firsts link.first.level 0 + place) (place_in (change_at changes link.first.level) link.first)) (option_map (λ place. get_or firsts link.second.level 0 + place) (place_in (change_at changes link.second.level) link.second)) (ap (option_map (λ place. get_or firsts link.second.level 0 + place)) f)) h)
      by link None u e f at h = absurd (subst (λ z. Among p z) (ap (λ z. pair_between (option_map (λ place. get_or firsts link.first.level 0 + place) z) (option_map (λ place. get_or firsts link.second.level 0 + place) (place_in (change_at changes link.second.level) link.second))) e) h)

  ends_below : EndsBelow pairs (length (sums_before sums changes (length sums)))
  unfolding joined_under
  ends_below = all_of (λ (pair : ℕ × ℕ). (pair.0 < length (sums_before sums changes (length sums))) × (pair.1 < length (sums_before sums changes (length sums)))) pairs (λ p i.
      let x = map_among (pair_of sums levels) p (links_left joined gone ++ own) i in
      let l = elim (among_parts x.0 (links_left joined gone) own x.1) as (λ _. (link : Link) × Among link links × Among x.0 (joined_under changes link)) [ inl h ↦ left_under x.0 h | inr h ↦ own_is x.0 h ] in
      of_link p x.0 x.2 l.0 l.1 l.2)
    where
      of_link : (p : ℕ × ℕ) (x : LinkAt) → p ≡ pair_of sums levels x → (link : Link) → Among link links → Among x (joined_under changes link) → (p.0 < length (sums_before sums changes (length sums))) × (p.1 < length (sums_before sums changes (length sums)))
      of_link p x q link i h =
          let k = known link i in
          let b = of_buses link (place_in (change_at changes link.first.level) link.first) (place_in (change_at changes link.second.level) link.second) x h in
          let Below : ℕ × ℕ → Type 0 = λ z. (z.0 < length (sums_before sums changes (length sums))) × (z.1 < length (sums_before sums changes (length sums))) in
          subst Below (sym (q ∙ ap (pair_of sums levels) b.4 ∙ pair_as link b.0 b.1 i)) (
            number_below link.first.level b.0 k.0.0 (bus_below link.first b.0 k.0 b.2),
            number_below link.second.level b.1 k.1.0 (bus_below link.second b.1 k.1 b.3),
          )

  pub effect : IsEffect kept changes outage
  unfolding figures_with outages.pairs_under
  effect =
      let count = length (sums_before sums changes (length sums)) in
      let Below : ℕ × ℕ → Type 0 = λ z. (z.0 < count) × (z.1 < count) in
      ap (λ z. figures_by z pairs) (before_as (length sums))
      ∙ figures_alike (sums_before sums changes (length sums)) pairs others (record {
        ends = ends_below;
        other_ends = all_of Below others (λ p i. of_all Below pairs ends_below p (back p i));
        forth = are_among pairs others forth;
        back = are_among others pairs back;
      })
