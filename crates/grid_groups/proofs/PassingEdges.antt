-- A level under present flags: its nodes stay, and its passing edges are those whose flag says so.
use Rattle.std.proofs.Common.{◌≡◌, refl, ap, ◌∙◌, subst, ℕ, Bool, true, false, cond, not, ◌&&◌, List, [], ◌∷◌, ◌++◌, length, arith}
use Rattle.std.specs.Prelude.{map, filter, ◌==◌}
use Rattle.std.specs.List.{list_any, list_all, flat_map, zip}
use Rattle.std.proofs.lemmas.Bool.{and_parts}
use Rattle.grid_lemmas.proofs.Bools.{and_true}
use Rattle.grid_graph.proofs.Reach.{In}
use Rattle.grid_graph.proofs.RenamedNodes.{EndsIn}
use Rattle.grid_level.specs.declared.Switch.{Switch}
use Rattle.grid_level.specs.declared.Internal.{Internal}
use Rattle.grid_level.specs.VoltageLevel.{VoltageLevel}
use Rattle.grid_level.specs.Passing.{Edge, switch_edge, internal_edge, edges, ends, both, rising, named, nodes, bus, breaker, core, is_operable, passes_closed, switch_passes, passing, with_opened, with_retained, positioned, stood}
use Rattle.grid_groups.specs.Labels.{passing_where}
use Rattle.grid_groups.proofs.Indices.{among_In}

-- ---- nodes

ends_opened : (ss : List Switch) (flags : List Bool) (rest : List Edge) → flat_map (λ e. both (ends e)) (map switch_edge (with_opened ss flags) ++ rest) ≡ flat_map (λ e. both (ends e)) (map switch_edge ss ++ rest)
unfolding with_opened ends
ends_opened [] flags rest = refl
ends_opened (s ∷ ss) [] rest = refl
ends_opened (s ∷ ss) (f ∷ flags) rest = ap (λ z. both (s.node1, s.node2) ++ z) (ends_opened ss flags rest)

ends_retained : (ss : List Switch) (flags : List Bool) (rest : List Edge) → flat_map (λ e. both (ends e)) (map switch_edge (with_retained ss flags) ++ rest) ≡ flat_map (λ e. both (ends e)) (map switch_edge ss ++ rest)
unfolding with_retained ends
ends_retained [] flags rest = refl
ends_retained (s ∷ ss) [] rest = refl
ends_retained (s ∷ ss) (f ∷ flags) rest = ap (λ z. both (s.node1, s.node2) ++ z) (ends_retained ss flags rest)

pub nodes-positioned : (level : VoltageLevel) (opened : List Bool) → nodes (positioned level opened) ≡ nodes level
unfolding nodes named edges positioned
nodes-positioned level opened = ap (λ z. rising (z ++ map (λ p. p.node) level.placed)) (ends_opened level.switches opened (map internal_edge level.internals))

pub nodes-stood : (level : VoltageLevel) (opened retained : List Bool) → nodes (stood level opened retained) ≡ nodes level
unfolding nodes named edges stood
nodes-stood level opened retained =
    ap (λ z. rising (z ++ map (λ p. p.node) level.placed))
    (ends_retained (with_opened level.switches opened) retained (map internal_edge level.internals) ∙ ends_opened level.switches opened (map internal_edge level.internals))

-- ---- passing

abbrev pub marked : List Switch → List Bool → List (ℕ × ℕ)
marked ss flags = map (λ pair. ends (switch_edge pair.0)) (filter (λ pair. pair.1) (zip ss flags))

abbrev tested : (Switch → Bool) → List Switch → List (ℕ × ℕ)
tested test ss = map (λ s. ends (switch_edge s)) (filter test ss)

-- one more switch, that the test lets pass where its flag is set
one_more : (test : Switch → Bool) (now was : Switch) (ss os : List Switch) (flag : Bool) (flags : List Bool) → ends (switch_edge now) ≡ ends (switch_edge was) → test now ≡ flag
    → tested test os ≡ marked ss flags → tested test (now ∷ os) ≡ marked (was ∷ ss) (flag ∷ flags)
one_more test now was ss os flag flags e t h = ap (λ z. map (λ s. ends (switch_edge s)) (cond z (now ∷ filter test os) (filter test os))) t ∙ by flag
  where
    by : (u : Bool) → map (λ s. ends (switch_edge s)) (cond u (now ∷ filter test os) (filter test os))
        ≡ map (λ (pair : Switch × Bool). ends (switch_edge pair.0)) (cond u ((was, flag) ∷ filter (λ (pair : Switch × Bool). pair.1) (zip ss flags)) (filter (λ (pair : Switch × Bool). pair.1) (zip ss flags)))
    by true = ap (λ z. z ∷ tested test os) e ∙ ap (λ z. ends (switch_edge was) ∷ z) h
    by false = h

bus_marked : (ss : List Switch) (opened : List Bool) → length opened ≡ length ss → tested (switch_passes bus) (with_opened ss opened) ≡ marked ss (map not opened)
unfolding with_opened switch_passes passes_closed ends
bus_marked [] [] e = refl
bus_marked [] (o ∷ opened) e = refl
bus_marked (s ∷ ss) [] e = absurd (omega (arith, e))
bus_marked (s ∷ ss) (o ∷ opened) e =
    one_more (switch_passes bus) (record s { opened = o }) s ss (with_opened ss opened) (not o) (map not opened) refl (and_true (not o)) (bus_marked ss opened (omega (arith, e)))

-- under bus, the closed switches pass
pub passing_bus : (level : VoltageLevel) (opened : List Bool) → length opened ≡ length level.switches → passing bus (positioned level opened) ≡ passing_where level (map not opened)
unfolding passing passing_where positioned
passing_bus level opened e = ap (λ z. z ++ map (λ i. ends (internal_edge i)) level.internals) (bus_marked level.switches opened e)

breaker_marked : (ss : List Switch) (opened retained : List Bool) → length opened ≡ length ss → length retained ≡ length ss
    → tested (switch_passes breaker) (with_retained (with_opened ss opened) retained) ≡ marked ss (map (λ pair. not pair.0 && not pair.1) (zip opened retained))
unfolding with_opened with_retained switch_passes passes_closed ends
breaker_marked [] [] [] e f = refl
breaker_marked [] (o ∷ opened) retained e f = absurd (omega (arith, e))
breaker_marked [] [] (r ∷ retained) e f = absurd (omega (arith, f))
breaker_marked (s ∷ ss) [] retained e f = absurd (omega (arith, e))
breaker_marked (s ∷ ss) (o ∷ opened) [] e f = absurd (omega (arith, f))
breaker_marked (s ∷ ss) (o ∷ opened) (r ∷ retained) e f =
    one_more (switch_passes breaker) (record s { opened = o; retained = r }) s ss (with_retained (with_opened ss opened) retained) (not o && not r) (map (λ pair. not pair.0 && not pair.1) (zip opened retained)) refl refl
    (breaker_marked ss opened retained (omega (arith, e)) (omega (arith, f)))

-- under breaker, the closed switches that are not retained pass
pub passing_breaker : (level : VoltageLevel) (opened retained : List Bool) → length opened ≡ length level.switches → length retained ≡ length level.switches
    → passing breaker (stood level opened retained) ≡ passing_where level (map (λ pair. not pair.0 && not pair.1) (zip opened retained))
unfolding passing passing_where stood
passing_breaker level opened retained e f = ap (λ z. z ++ map (λ i. ends (internal_edge i)) level.internals) (breaker_marked level.switches opened retained e f)

core_marked : (ss : List Switch) (opened : List Bool) → length opened ≡ length ss
    → tested (switch_passes core) (with_opened ss opened) ≡ marked ss (map (λ pair. not pair.1 && not (is_operable pair.0)) (zip ss opened))
unfolding with_opened switch_passes passes_closed is_operable ends
core_marked [] [] e = refl
core_marked [] (o ∷ opened) e = refl
core_marked (s ∷ ss) [] e = absurd (omega (arith, e))
core_marked (s ∷ ss) (o ∷ opened) e =
    one_more (switch_passes core) (record s { opened = o }) s ss (with_opened ss opened) (not o && not (is_operable s)) (map (λ pair. not pair.1 && not (is_operable pair.0)) (zip ss opened)) refl refl
    (core_marked ss opened (omega (arith, e)))

-- under core, the closed switches that are not operable breakers pass
pub passing_core : (level : VoltageLevel) (opened : List Bool) → length opened ≡ length level.switches
    → passing core (positioned level opened) ≡ passing_where level (map (λ pair. not pair.1 && not (is_operable pair.0)) (zip level.switches opened))
unfolding passing passing_where positioned
passing_core level opened e = ap (λ z. z ++ map (λ i. ends (internal_edge i)) level.internals) (core_marked level.switches opened e)

bus_by : (now was : Switch) (xs ys : List Switch) (t u : Bool) → t ≡ u → ends (switch_edge now) ≡ ends (switch_edge was) → map (λ s. ends (switch_edge s)) xs ≡ map (λ s. ends (switch_edge s)) ys
    → map (λ s. ends (switch_edge s)) (cond t (now ∷ xs) xs) ≡ map (λ s. ends (switch_edge s)) (cond u (was ∷ ys) ys)
bus_by now was xs ys t u e same h = ap (λ z. map (λ s. ends (switch_edge s)) (cond z (now ∷ xs) xs)) e ∙ by u
  where
    by : (v : Bool) → map (λ s. ends (switch_edge s)) (cond v (now ∷ xs) xs) ≡ map (λ s. ends (switch_edge s)) (cond v (was ∷ ys) ys)
    by true = ap (λ z. z ∷ map (λ s. ends (switch_edge s)) xs) same ∙ ap (λ z. ends (switch_edge was) ∷ z) h
    by false = h

bus_unretained : (ss : List Switch) (retained : List Bool) → tested (switch_passes bus) (with_retained ss retained) ≡ tested (switch_passes bus) ss
unfolding with_retained switch_passes passes_closed ends
bus_unretained [] retained = refl
bus_unretained (s ∷ ss) [] = refl
bus_unretained (s ∷ ss) (r ∷ retained) =
    bus_by (record s { retained = r }) s (filter (switch_passes bus) (with_retained ss retained)) (filter (switch_passes bus) ss) (not s.opened && true) (not s.opened && true) refl refl (bus_unretained ss retained)

-- under bus, the flags retained change nothing
pub passing_bus-stood : (level : VoltageLevel) (opened retained : List Bool) → passing bus (stood level opened retained) ≡ passing bus (positioned level opened)
unfolding passing stood positioned
passing_bus-stood level opened retained = ap (λ z. z ++ map (λ i. ends (internal_edge i)) level.internals) (bus_unretained (with_opened level.switches opened) retained)

-- ---- the ends that pass are nodes

zip_none : (ss : List Switch) → zip {K = Switch} {X = Bool} ss [] ≡ []
zip_none [] = refl
zip_none (s ∷ ss) = refl

ends_by : (ns : List ℕ) (pair : ℕ × ℕ) (ss : List (Switch × Bool)) (s : Switch) (f t : Bool) (rest : List (ℕ × ℕ)) → In (ends (switch_edge s)).0 ns × In (ends (switch_edge s)).1 ns
    → EndsIn ns (map (λ (pair : Switch × Bool). ends (switch_edge pair.0)) ss ++ rest) → EndsIn ns (map (λ (pair : Switch × Bool). ends (switch_edge pair.0)) (cond t ((s, f) ∷ ss) ss) ++ rest)
ends_by ns pair ss s f true rest here h = (here.0, here.1, h)
ends_by ns pair ss s f false rest here h = h

ends_marked : (ns : List ℕ) (ss : List Switch) (flags : List Bool) (is : List Internal)
    → list_all (λ e. list_any (λ m. m == (ends e).0) ns && list_any (λ m. m == (ends e).1) ns) (map switch_edge ss ++ map internal_edge is) ≡ true
    → EndsIn ns (marked ss flags ++ map (λ i. ends (internal_edge i)) is)
ends_marked ns [] flags [] h = tt
ends_marked ns [] flags (i ∷ is) h =
    let e = internal_edge i in
    let parts = and_parts (list_any (λ m. m == (ends e).0) ns && list_any (λ m. m == (ends e).1) ns) _ h in
    let here = and_parts (list_any (λ m. m == (ends e).0) ns) (list_any (λ m. m == (ends e).1) ns) parts.0 in
    (among_In (ends e).0 ns here.0, among_In (ends e).1 ns here.1, ends_marked ns [] flags is parts.1)
ends_marked ns (s ∷ ss) [] is h =
    let e = switch_edge s in
    let P : List (Switch × Bool) → Type 0 = λ z. EndsIn ns (map (λ pair. ends (switch_edge pair.0)) (filter (λ pair. pair.1) z) ++ map (λ i. ends (internal_edge i)) is) in
    subst P (zip_none ss) (ends_marked ns ss [] is (and_parts (list_any (λ m. m == (ends e).0) ns && list_any (λ m. m == (ends e).1) ns) _ h).1)
ends_marked ns (s ∷ ss) (f ∷ flags) is h =
    let e = switch_edge s in
    let parts = and_parts (list_any (λ m. m == (ends e).0) ns && list_any (λ m. m == (ends e).1) ns) _ h in
    let here = and_parts (list_any (λ m. m == (ends e).0) ns) (list_any (λ m. m == (ends e).1) ns) parts.0 in
    ends_by ns (ends e) (filter (λ pair. pair.1) (zip ss flags)) s f f (map (λ i. ends (internal_edge i)) is) (among_In (ends e).0 ns here.0, among_In (ends e).1 ns here.1) (ends_marked ns ss flags is parts.1)

pub passing_ends : (level : VoltageLevel) (flags : List Bool)
    → list_all (λ e. list_any (λ m. m == (ends e).0) (nodes level) && list_any (λ m. m == (ends e).1) (nodes level)) (edges level) ≡ true → EndsIn (nodes level) (passing_where level flags)
unfolding edges passing_where
passing_ends level flags h = ends_marked (nodes level) level.switches flags level.internals h
