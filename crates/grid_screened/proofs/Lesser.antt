-- What an outage leaves of a level: fewer terminals, and with them fewer nodes, and fewer edges that pass.
use Rattle.std.proofs.Common.{◌≡◌, refl, sym, ◌∙◌, subst, ℕ, suc, Bool, true, false, cond, not, List, [], ◌∷◌, map, length, get_or, arith, inl, inr}
use Rattle.std.specs.Prelude.{eqb, filter, flat_map}
use Rattle.std.specs.List.{list_any}
use Rattle.std.proofs.lemmas.Bool.{or_left, or_right, or_cases, false≢true}
use Rattle.grid_graph.proofs.Reach.{In, In_parts, In_left, In_right}
use Rattle.grid_ids.specs.Name.{has_id}
use Rattle.grid_level.specs.declared.Internal.{Internal}
use Rattle.grid_level.specs.declared.Placed.{Placed}
use Rattle.grid_level.specs.declared.Switch.{Switch}
use Rattle.grid_level.specs.VoltageLevel.{VoltageLevel}
use Rattle.grid_level.specs.Passing.{bus, switch_edge, internal_edge, edges, ends, both, named, nodes, switch_passes, passes_closed, passing, with_opened, positioned}
use Rattle.grid_level.proofs.LevelReaders.{among_rising}
use Rattle.grid_groups.proofs.Indices.{among_In, In_among}
use Rattle.grid_groups.proofs.PassingEdges.{nodes-positioned}
use Rattle.grid_outages.specs.Changes.{level_without}
use Rattle.grid_screened.proofs.BusNodes.{IsLeft}
use Rattle.grid_outages.proofs.Members.{Among, among_left, among_right, among_parts}

-- ---- nodes

in_filtered : {X : Type 0} (f : X → ℕ) (keep : X → Bool) (xs : List X) (n : ℕ) → In n (map f (filter keep xs)) → In n (map f xs)
in_filtered f keep [] n h = h
in_filtered f keep (x ∷ xs) n h = by (keep x) h (in_filtered f keep xs n)
  where
    by : (t : Bool) → In n (map f (cond t (x ∷ filter keep xs) (filter keep xs))) → (In n (map f (filter keep xs)) → In n (map f xs)) → In n (f x ∷ map f xs)
    by true h again = elim (or_cases (eqb n (f x)) (list_any (eqb n) (map f (filter keep xs))) h) [ inl e ↦ or_left (eqb n (f x)) _ e | inr e ↦ or_right (eqb n (f x)) _ (again e) ]
    by false h again = or_right (eqb n (f x)) _ (again h)

named_node : (level : VoltageLevel) (n : ℕ) → In n (nodes level) → In n (named level)
unfolding nodes
named_node level n i = among_In n (named level) (sym (among_rising (named level) n) ∙ In_among n (nodes level) i)

node_named : (level : VoltageLevel) (n : ℕ) → In n (named level) → In n (nodes level)
unfolding nodes
node_named level n i = among_In n (nodes level) (among_rising (named level) n ∙ In_among n (named level) i)

fewer_nodes : (removed : List (List ℕ)) (l : VoltageLevel) (n : ℕ) → In n (nodes (level_without removed l)) → In n (nodes l)
unfolding named edges level_without
fewer_nodes removed l n i =
    let keep = λ (p : Placed). not (has_id removed p.terminal.equipment) in
    let spine = flat_map (λ e. both (ends e)) (edges l) in
    node_named l n (elim (In_parts n spine (map (λ (p : Placed). p.node) (filter keep l.placed)) (named_node (level_without removed l) n i)) [
      | inl h ↦ In_left n spine (map (λ (p : Placed). p.node) l.placed) h
      | inr h ↦ In_right n spine (map (λ (p : Placed). p.node) l.placed) (in_filtered (λ (p : Placed). p.node) keep l.placed n h)
    ])

-- ---- edges

abbrev switch_pairs : List Switch → List (ℕ × ℕ)
switch_pairs ss = map (λ s. ends (switch_edge s)) (filter (switch_passes bus) ss)

fewer_pass : (ss : List Switch) (row now : List Bool) → length row ≡ length ss → length now ≡ length ss → ((j : ℕ) → get_or row j false ≡ true → get_or now j false ≡ true)
    → (pair : ℕ × ℕ) → Among pair (switch_pairs (with_opened ss now)) → Among pair (switch_pairs (with_opened ss row))
unfolding with_opened ends switch_passes passes_closed
fewer_pass [] row now long also opens pair i = absurd i
fewer_pass (s ∷ ss) [] now long also opens pair i = absurd (omega (arith, long))
fewer_pass (s ∷ ss) (o ∷ row) [] long also opens pair i = absurd (omega (arith, also))
fewer_pass (s ∷ ss) (o ∷ row) (c ∷ now) long also opens pair i =
    by o c (opens 0) i (fewer_pass ss row now (omega (arith, long)) (omega (arith, also)) (λ j. opens (suc j)) pair)
  where
    old : List Switch
    old = filter (switch_passes bus) (with_opened ss row)

    new : List Switch
    new = filter (switch_passes bus) (with_opened ss now)

    by : (a b : Bool) → (a ≡ true → b ≡ true)
        → Among pair (map (λ (x : Switch). ends (switch_edge x)) (cond (switch_passes bus (record s { opened = b })) (record s { opened = b } ∷ new) new)) → (Among pair (switch_pairs (with_opened ss now)) → Among pair (switch_pairs (with_opened ss row)))
        → Among pair (map (λ (x : Switch). ends (switch_edge x)) (cond (switch_passes bus (record s { opened = a })) (record s { opened = a } ∷ old) old))
    by true true k i again = again i
    by true false k i again = absurd (false≢true (k refl))
    by false true k i again = inr (again i)
    by false false k (inl e) again = inl e
    by false false k (inr i) again = inr (again i)

-- ---- the level

pub left_of_level : (removed : List (List ℕ)) (l : VoltageLevel) (row now : List Bool) → length row ≡ length l.switches → length now ≡ length l.switches → ((j : ℕ) → get_or row j false ≡ true → get_or now j false ≡ true)
    → IsLeft (positioned l row) (positioned (level_without removed l) now)
unfolding passing positioned level_without
left_of_level removed l row now long also opens = record {
  nodes_left = λ n i. subst (In n) (sym (nodes-positioned l row)) (fewer_nodes removed l n (subst (In n) (nodes-positioned (level_without removed l) now) i));
  passing_left = λ pair i. elim (among_parts pair (switch_pairs (with_opened l.switches now)) (map (λ (i : Internal). ends (internal_edge i)) l.internals) i) [
    | inl h ↦ among_left pair (switch_pairs (with_opened l.switches row)) (map (λ (i : Internal). ends (internal_edge i)) l.internals) (fewer_pass l.switches row now long also opens pair h)
    | inr h ↦ among_right pair (switch_pairs (with_opened l.switches row)) (map (λ (i : Internal). ends (internal_edge i)) l.internals) h
  ];
  keep = λ p. not (has_id removed p.terminal.equipment);
  placed_left = refl;
}
