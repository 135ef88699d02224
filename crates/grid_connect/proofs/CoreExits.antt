-- What leaves the marked nodes leaves the core.
use Rattle.std.proofs.Common.{◌≡◌, refl, sym, ap, ◌∙◌, subst, ℕ, zero, suc, ◌+◌, ◌<◌, ◌≤◌, Bool, true, false, cond, ◌&&◌, ◌||◌, List, [], ◌∷◌, ◌++◌, length, arith, take, get_or, length-append}
use Rattle.std.specs.Prelude.{Option, Some, None, eqb, map, filter, find}
use Rattle.std.specs.List.{list_any, enumerate_from}
use Rattle.std.proofs.lemmas.List.{take_more, length-take, length-map}
use Rattle.std.proofs.lemmas.List.Folds.{list_any_at, list_any_more}
use Rattle.grid_graph.specs.Graph.{labels_of}
use Rattle.grid_graph.proofs.Reach.{In}
use Rattle.grid_level.specs.declared.Switch.{Switch}
use Rattle.grid_level.specs.declared.Placed.{Placed}
use Rattle.grid_level.specs.VoltageLevel.{VoltageLevel}
use Rattle.grid_level.specs.Passing.{bus, switch_edge, internal_edge, edges, nodes, positioned, with_opened, joined_under, is_connected, is_busbar, is_operable, placed_among}
use Rattle.grid_level.specs.Kept.{KeepsLimits}
use Rattle.grid_groups.specs.Labels.{graph_under, label_of}
use Rattle.grid_groups.proofs.Indices.{among_In}
use Rattle.grid_groups.proofs.Lists.{get_or_any}
use Rattle.grid_groups.proofs.TerminalNodes.{placed_node}
use Rattle.grid_groups.proofs.Steps.{switch_at}
use Rattle.grid_groups.proofs.Under.{bus_stands}
use Rattle.grid_paths.specs.Paths.{has_node}
use Rattle.grid_paths.proofs.Least.{some_same}
use Rattle.grid_connect.specs.Plans.{core_of, core_busbar, leaves_core, leaving, opens_or, disconnect_plan_of}
use Rattle.grid_connect.specs.declared.DisconnectPlan.TheVariants.{Opens, AlreadyDisconnected, NoBreaker}
use Rattle.grid_connect.specs.Indexed.{marks_where, core_flags, is_marked, marked_busbar, labelled_busbar, leaves_marked, leaving_marked}
use Rattle.grid_connect.proofs.Marks.{one_label, core_mark, connected_any}

-- ---- the switches that leave

leave_by : (t : Bool) (k : ℕ) (s : Switch) (one : List ℕ) (two : List (ℕ × Switch)) → one ≡ map (λ e. e.0) two → cond t (k ∷ one) one ≡ map (λ e. e.0) (cond t ((k, s) ∷ two) two)
leave_by true k s one two h = ap (λ z. k ∷ z) h
leave_by false k s one two h = h

leaving_by : (core ns : List ℕ) (marks : List Bool) (k : ℕ) (sw : List Switch) (flags : List Bool) → length flags ≡ length sw
    → ((j : ℕ) (d : Switch) → j < length sw → (is_marked ns marks (get_or sw j d).node1 ≡ has_node core (get_or sw j d).node1) × (is_marked ns marks (get_or sw j d).node2 ≡ has_node core (get_or sw j d).node2))
    → leaving_marked ns marks k sw flags ≡ map (λ e. e.0) (filter (λ (e : ℕ × Switch). leaves_core core e.1) (enumerate_from k (with_opened sw flags)))
unfolding leaving_marked with_opened leaves_core is_operable
leaving_by core ns marks k [] [] e h = refl
leaving_by core ns marks k [] (f ∷ flags) e h = refl
leaving_by core ns marks k (s ∷ sw) [] e h = absurd (omega (arith, e))
leaving_by core ns marks k (s ∷ sw) (f ∷ flags) e h =
    let at = h 0 s (omega arith) in
    let test : leaves_marked ns marks s f ≡ leaves_core core (record s { opened = f }) = rw (at.0, at.1) refl in
    ap (λ t. cond t (k ∷ leaving_marked ns marks (k + 1) sw flags) (leaving_marked ns marks (k + 1) sw flags)) test
    ∙ leave_by (leaves_core core (record s { opened = f })) k (record s { opened = f }) (leaving_marked ns marks (k + 1) sw flags)
    (filter (λ (e : ℕ × Switch). leaves_core core e.1) (enumerate_from (k + 1) (with_opened sw flags)))
    (leaving_by core ns marks (k + 1) sw flags (omega (arith, e)) (λ j d lt. h (suc j) d (omega arith)))

-- ---- the first busbar section

bar_by : (s : Bool) (p : Placed) (kept : List Placed) → cond (s && is_busbar p.stand) (Some p) (find (λ p. is_busbar p.stand) kept) ≡ find (λ p. is_busbar p.stand) (cond s (p ∷ kept) kept)
bar_by true p kept = refl
bar_by false p kept = refl

bars_by : (core ns : List ℕ) (marks : List Bool) (all : List Placed) → ((j : ℕ) (d : Placed) → j < length all → is_marked ns marks (get_or all j d).node ≡ has_node core (get_or all j d).node)
    → marked_busbar ns marks all ≡ find (λ p. is_busbar p.stand) (filter (λ p. list_any (λ n. eqb p.node n) core) all)
unfolding has_node marked_busbar
bars_by core ns marks [] h = refl
bars_by core ns marks (p ∷ all) h =
    ap (λ t. cond (t && is_busbar p.stand) (Some p) (find (λ p. is_marked ns marks p.node && is_busbar p.stand) all)) (h 0 p (omega arith))
    ∙ ap (λ z. cond (list_any (eqb p.node) core && is_busbar p.stand) (Some p) z) (bars_by core ns marks all (λ j d lt. h (suc j) d (omega arith)))
    ∙ bar_by (list_any (eqb p.node) core) p (filter (λ p. list_any (λ n. eqb p.node n) core) all)

any_same : (p q : Placed → Bool) (all : List Placed) → ((j : ℕ) (d : Placed) → j < length all → p (get_or all j d) ≡ q (get_or all j d)) → list_any p all ≡ list_any q all
any_same p q [] h = refl
any_same p q (x ∷ all) h = ap (λ t. t || list_any p all) (h 0 x (omega arith)) ∙ ap (λ t. q x || t) (any_same p q all (λ j d lt. h (suc j) d (omega arith)))

-- the marks of the core
abbrev pub core_marks : VoltageLevel → List Bool → ℕ → List Bool
core_marks level flags a = marks_where level (core_flags level.switches flags) a

module _ (level : VoltageLevel) (flags : List Bool) (a : ℕ) (keeps : KeepsLimits level) (long : length flags ≡ length level.switches) (here : In a (nodes level)) where
  pub leaving_same : leaving_marked (nodes level) (core_marks level flags a) 0 level.switches flags ≡ leaving (positioned level flags) (core_of (positioned level flags) a)
  unfolding leaving positioned
  leaving_same = leaving_by (core_of (positioned level flags) a) (nodes level) (core_marks level flags a) 0 level.switches flags long (λ j d lt.
      let s = get_or level.switches j d in
      let e = switch_at level level.switches j s keeps.ends_are_nodes refl lt (get_or_any level.switches j d s lt) in (
        core_mark level flags a s.node1 keeps long here (among_In s.node1 (nodes level) e.0),
        core_mark level flags a s.node2 keeps long here (among_In s.node2 (nodes level) e.1),
      ))

  pub bar_same : marked_busbar (nodes level) (core_marks level flags a) level.placed ≡ core_busbar (positioned level flags) (core_of (positioned level flags) a)
  unfolding core_busbar placed_among positioned
  bar_same = bars_by (core_of (positioned level flags) a) (nodes level) (core_marks level flags a) level.placed (λ j d lt. core_mark level flags a (get_or level.placed j d).node keeps long here (placed_node level keeps j d lt))

  -- by one label per node
  pub connected_labelled : (labels : List ℕ) → labels ≡ labels_of (graph_under bus (positioned level flags)) → labelled_busbar (nodes level) labels (label_of (nodes level) labels a) level.placed ≡ is_connected (positioned level flags) a
  unfolding labelled_busbar positioned
  connected_labelled labels e =
      any_same (λ p. eqb (label_of (nodes level) labels p.node) (label_of (nodes level) labels a) && is_busbar p.stand) (λ p. joined_under bus (positioned level flags) a p.node && is_busbar p.stand) level.placed
      (λ j d lt.
      ap (λ t. t && is_busbar (get_or level.placed j d).stand)
      (one_label bus level (positioned level flags) labels a (get_or level.placed j d).node keeps (bus_stands level flags keeps long) e here (placed_node level keeps j d lt)))
      ∙ sym (connected_any (positioned level flags) a)

-- ---- the loops

pub few_switches : (level : VoltageLevel) (ss : List Switch) → KeepsLimits level → ss ≡ level.switches → length ss ≤ 4096
unfolding edges
few_switches level ss keeps e =
    let a = length-append (map switch_edge level.switches) (map internal_edge level.internals) in
    let b = length-map level.switches switch_edge in
    let c = ap length e in
    omega (arith, a, b, c, keeps.few_edges)

leaving_push : (ns : List ℕ) (marks : List Bool) (k : ℕ) (sw : List Switch) (flags : List Bool) (s : Switch) (f : Bool) → length flags ≡ length sw
    → leaving_marked ns marks k (sw ++ s ∷ []) (flags ++ f ∷ []) ≡ leaving_marked ns marks k sw flags ++ cond (leaves_marked ns marks s f) ((k + length sw) ∷ []) []
unfolding leaving_marked
leaving_push ns marks k [] [] s f e = let z : k ≡ k + 0 = omega arith in ap (λ n. cond (leaves_marked ns marks s f) (n ∷ []) []) z
leaving_push ns marks k [] (g ∷ flags) s f e = absurd (omega (arith, e))
leaving_push ns marks k (r ∷ sw) [] s f e = absurd (omega (arith, e))
leaving_push ns marks k (r ∷ sw) (g ∷ flags) s f e =
    let h = leaving_push ns marks (k + 1) sw flags s f (omega (arith, e)) in
    let z : k + 1 + length sw ≡ k + suc (length sw) = omega arith in
    let P : ℕ → Type 0 = λ n. leaving_marked ns marks (k + 1) (sw ++ s ∷ []) (flags ++ f ∷ []) ≡ leaving_marked ns marks (k + 1) sw flags ++ cond (leaves_marked ns marks s f) (n ∷ []) [] in
    put (leaves_marked ns marks r g) k (leaving_marked ns marks (k + 1) (sw ++ s ∷ []) (flags ++ f ∷ [])) (leaving_marked ns marks (k + 1) sw flags) (cond (leaves_marked ns marks s f) ((k + suc (length sw)) ∷ []) []) (subst P z h)
  where
    put : (t : Bool) (k : ℕ) (all front back : List ℕ) → all ≡ front ++ back → cond t (k ∷ all) all ≡ cond t (k ∷ front) front ++ back
    put true k all front back h = ap (λ z. k ∷ z) h
    put false k all front back h = h

pub leaving_more : (ns : List ℕ) (marks : List Bool) (sw : List Switch) (flags : List Bool) (i : ℕ) (s : Switch) (f : Bool) → length flags ≡ length sw → i < length sw
    → leaving_marked ns marks 0 (take (i + 1) sw) (take (i + 1) flags) ≡ leaving_marked ns marks 0 (take i sw) (take i flags) ++ cond (leaves_marked ns marks (get_or sw i s) (get_or flags i f)) (i ∷ []) []
leaving_more ns marks sw flags i s f e lt =
    let la = length-take i sw in
    let lb = length-take i flags in
    let z : 0 + length (take i sw) ≡ i = omega (arith, la, lt) in
    ap (λ y. leaving_marked ns marks 0 y (take (i + 1) flags)) (take_more sw i s lt)
    ∙ ap (λ y. leaving_marked ns marks 0 (take i sw ++ get_or sw i s ∷ []) y) (take_more flags i f (omega (arith, e, lt)))
    ∙ leaving_push ns marks 0 (take i sw) (take i flags) (get_or sw i s) (get_or flags i f) (omega (arith, la, lb, e))
    ∙ ap (λ n. leaving_marked ns marks 0 (take i sw) (take i flags) ++ cond (leaves_marked ns marks (get_or sw i s) (get_or flags i f)) (n ∷ []) []) z

pub leaving_none : (ns : List ℕ) (marks : List Bool) (sw : List Switch) (flags : List Bool) → [] ≡ leaving_marked ns marks 0 (take 0 sw) (take 0 flags)
unfolding leaving_marked
leaving_none ns marks sw flags = refl

find_at_by : (p x : Placed) (t : Bool) (front all : Option Placed) → cond t (Some p) front ≡ None → (front ≡ None → all ≡ Some x) → cond t (Some p) all ≡ Some x
find_at_by p x true front all g f = absurd (let k : Some p ≡ None = g in cc)
find_at_by p x false front all g f = f g

find_at : (test : Placed → Bool) (all : List Placed) (i : ℕ) (d : Placed) → i < length all → find test (take i all) ≡ None → test (get_or all i d) ≡ true → find test all ≡ Some (get_or all i d)
find_at test [] i d lt n h = absurd (omega arith)
find_at test (p ∷ all) zero d lt n h = rw h refl
find_at test (p ∷ all) (suc i) d lt n h = find_at_by p (get_or all i d) (test p) (find test (take i all)) (find test all) n (λ g. find_at test all i d (omega (arith, lt)) g h)

find_push_by : (p : Placed) (t : Bool) (front all : Option Placed) → cond t (Some p) front ≡ None → (front ≡ None → all ≡ None) → cond t (Some p) all ≡ None
find_push_by p true front all g f = absurd (let k : Some p ≡ None = g in cc)
find_push_by p false front all g f = f g

find_push : (test : Placed → Bool) (xs : List Placed) (x : Placed) → find test xs ≡ None → test x ≡ false → find test (xs ++ x ∷ []) ≡ None
find_push test [] x n h = rw h refl
find_push test (y ∷ ys) x n h = find_push_by y (test y) (find test ys) (find test (ys ++ x ∷ [])) n (λ g. find_push test ys x g h)

find_on : (test : Placed → Bool) (all : List Placed) (i : ℕ) (d : Placed) → i < length all → find test (take i all) ≡ None → test (get_or all i d) ≡ false → find test (take (i + 1) all) ≡ None
find_on test all i d lt n h = ap (find test) (take_more all i d lt) ∙ find_push test (take i all) (get_or all i d) n h

pub bar_found : (ns : List ℕ) (marks : List Bool) (all : List Placed) (i : ℕ) (p : Placed) → i < length all → p ≡ get_or all i p → marked_busbar ns marks (take i all) ≡ None → (is_marked ns marks p.node && is_busbar p.stand) ≡ true
    → marked_busbar ns marks all ≡ Some p
unfolding marked_busbar
bar_found ns marks all i p lt e n h =
    let P : Placed → Type 0 = λ z. (is_marked ns marks z.node && is_busbar z.stand) ≡ true in
    find_at (λ p. is_marked ns marks p.node && is_busbar p.stand) all i p lt n (subst P e h) ∙ ap Some (sym e)

pub bar_on : (ns : List ℕ) (marks : List Bool) (all : List Placed) (i : ℕ) (p : Placed) → i < length all → p ≡ get_or all i p → marked_busbar ns marks (take i all) ≡ None → (is_marked ns marks p.node && is_busbar p.stand) ≡ false
    → marked_busbar ns marks (take (i + 1) all) ≡ None
unfolding marked_busbar
bar_on ns marks all i p lt e n h =
    let P : Placed → Type 0 = λ z. (is_marked ns marks z.node && is_busbar z.stand) ≡ false in
    find_on (λ p. is_marked ns marks p.node && is_busbar p.stand) all i p lt n (subst P e h)

pub bar_start : (ns : List ℕ) (marks : List Bool) (all : List Placed) → marked_busbar ns marks (take 0 all) ≡ None
unfolding marked_busbar
bar_start ns marks all = refl

pub labelled_none : (ns labels : List ℕ) (own : ℕ) (all : List Placed) → labelled_busbar ns labels own (take 0 all) ≡ false
unfolding labelled_busbar
labelled_none ns labels own all = refl

module _ (ns labels : List ℕ) (own : ℕ) (all : List Placed) (i : ℕ) (p : Placed) (t : Bool) (lt : i < length all) (at : p ≡ get_or all i p)
    (test : t ≡ (eqb (label_of ns labels p.node) own && is_busbar p.stand)) where
  labelled_at : t ≡ (eqb (label_of ns labels (get_or all i p).node) own && is_busbar (get_or all i p).stand)
  labelled_at = let P : Placed → Type 0 = λ z. t ≡ (eqb (label_of ns labels z.node) own && is_busbar z.stand) in subst P at test

  pub labelled_found : t ≡ true → labelled_busbar ns labels own all ≡ true
  unfolding labelled_busbar
  labelled_found h = list_any_at (λ p. eqb (label_of ns labels p.node) own && is_busbar p.stand) all i p lt (sym labelled_at ∙ h)

  pub labelled_on : labelled_busbar ns labels own (take i all) ≡ false → t ≡ false → labelled_busbar ns labels own (take (i + 1) all) ≡ false
  unfolding labelled_busbar
  labelled_on so_far h =
      list_any_more (λ p. eqb (label_of ns labels p.node) own && is_busbar p.stand) all i p lt
      ∙ ap (λ z. z || (eqb (label_of ns labels (get_or all i p).node) own && is_busbar (get_or all i p).stand)) so_far
      ∙ sym labelled_at ∙ h

-- ---- the plan

pub disconnect_yes : (level : VoltageLevel) (a : ℕ) → is_connected level a ≡ true → disconnect_plan_of level a ≡ opens_or (leaving level (core_of level a)) (core_busbar level (core_of level a))
unfolding disconnect_plan_of
disconnect_yes level a h = rw h refl

pub disconnect_no : (level : VoltageLevel) (a : ℕ) → is_connected level a ≡ false → disconnect_plan_of level a ≡ AlreadyDisconnected
unfolding disconnect_plan_of
disconnect_no level a h = rw h refl

pub breaks : (places : List ℕ) (o : Option Placed) (p : Placed) → o ≡ Some p → opens_or places o ≡ NoBreaker p.terminal
unfolding opens_or
breaks places None p h = absurd (let k : None ≡ Some p = h in cc)
breaks places (Some q) p h = ap (λ (z : Placed). NoBreaker z.terminal) (some_same q p h)

pub opens : (places : List ℕ) (o : Option Placed) → o ≡ None → opens_or places o ≡ Opens places
unfolding opens_or
opens places None h = refl
opens places (Some p) h = absurd (let k : Some p ≡ None = h in cc)
