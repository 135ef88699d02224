-- What it takes to pass the edges of a level, and which of them are at a node.
use Rattle.std.proofs.Common.{◌≡◌, refl, sym, ap, ◌∙◌, subst, ℕ, zero, suc, ◌≤◌, Bool, not, List, [], ◌∷◌, ◌++◌, length, arith, get_or}
use Rattle.std.specs.Prelude.{Some, slice_get, map}
use Rattle.std.proofs.lemmas.List.{length-map}
use Rattle.grid_level.specs.declared.Switch.{Switch}
use Rattle.grid_level.specs.declared.Internal.{Internal}
use Rattle.grid_level.specs.VoltageLevel.{VoltageLevel}
use Rattle.grid_level.specs.Passing.{nodes, positioned}
use Rattle.grid_groups.specs.Nets.{switch_net_edges, internal_net_edge, net_edges, closed_flags}
use Rattle.grid_queue.specs.Net.{NetShape, nexts_of}
use Rattle.grid_queue.specs.declared.net.Next.{Next}
use Rattle.grid_paths.specs.declared.Way.TheVariants.{Free}
use Rattle.grid_paths.specs.Routes.{PathEdge, ends_of, all_ends}
use Rattle.grid_paths.specs.Search.{AreNexts}
use Rattle.grid_paths.proofs.Least.{some_same, some_none}
use Rattle.grid_connect.specs.Indexed.{way_through, switch_path_edge, switch_path_edges, internal_path_edge, path_edges_of, IsBusNet}
use Rattle.grid_connect.proofs.Lists.{made_edges}
use Rattle.grid_connect.proofs.NetNexts.{net_ends, nexts_are}

-- ---- the same ends

internals_alike : (ns : List ℕ) (is : List Internal) → map ends_of (map (internal_path_edge ns) is) ≡ map net_ends (map (internal_net_edge ns) is)
internals_alike ns [] = refl
internals_alike ns (i ∷ is) = ap (λ z. ends_of (internal_path_edge ns i) ∷ z) (internals_alike ns is)

ends_alike : (ns : List ℕ) (ss : List Switch) (fs gs : List Bool) (is : List Internal) → length fs ≡ length ss → length gs ≡ length ss
    → map ends_of (switch_path_edges ns ss fs ++ map (internal_path_edge ns) is) ≡ map net_ends (switch_net_edges ns ss gs ++ map (internal_net_edge ns) is)
unfolding switch_path_edges switch_net_edges
ends_alike ns [] fs gs is e f = internals_alike ns is
ends_alike ns (s ∷ ss) [] gs is e f = absurd (omega (arith, e))
ends_alike ns (s ∷ ss) (g ∷ fs) [] is e f = absurd (omega (arith, f))
ends_alike ns (s ∷ ss) (g ∷ fs) (h ∷ gs) is e f =
    ap (λ z. ends_of (switch_path_edge ns s g) ∷ z) (ends_alike ns ss fs gs is (omega (arith, e)) (omega (arith, f)))

pub level_nexts : (level : VoltageLevel) (states : List Bool) (net : NetShape) (u : ℕ) (nexts : List Next) → IsBusNet level states net → nexts ≡ nexts_of net.edges u
    → AreNexts (all_ends (path_edges_of (positioned level states))) u nexts
unfolding all_ends net_edges
level_nexts level states net u nexts is e =
    let ends : all_ends (path_edges_of (positioned level states)) ≡ map net_ends (net_edges level (closed_flags states)) =
    ap all_ends (made_edges level states is.flags) ∙ ends_alike (nodes level) level.switches states (closed_flags states) level.internals is.flags (length-map states not ∙ is.flags) in
    let P : List (ℕ × ℕ) → Type 0 = λ z. AreNexts z u nexts in
    let Q : List Next → Type 0 = λ z. AreNexts (map net_ends (net_edges level (closed_flags states))) u z in
    let same : nexts ≡ nexts_of (net_edges level (closed_flags states)) u = e ∙ ap (λ (z : NetShape). nexts_of z.edges u) is.same in
    subst P (sym ends) (subst Q (sym same) (nexts_are (net_edges level (closed_flags states)) u))

-- ---- what it takes

internal_way : (ns : List ℕ) (is : List Internal) (place : ℕ) (edge : PathEdge) → slice_get (map (internal_path_edge ns) is) place ≡ Some edge → Free ≡ edge.way
internal_way ns [] place edge e = absurd (some_none edge e)
internal_way ns (i ∷ is) zero edge e = ap (λ (z : PathEdge). z.way) (some_same (internal_path_edge ns i) edge e)
internal_way ns (i ∷ is) (suc place) edge e = internal_way ns is place edge e

past_way : (ns : List ℕ) (ss : List Switch) (fs : List Bool) (is : List Internal) (place : ℕ) (edge : PathEdge) → length fs ≡ length ss → length fs ≤ place
    → slice_get (switch_path_edges ns ss fs ++ map (internal_path_edge ns) is) place ≡ Some edge → Free ≡ edge.way
unfolding switch_path_edges
past_way ns [] fs is place edge long le e = internal_way ns is place edge e
past_way ns (s ∷ ss) [] is place edge long le e = absurd (omega (arith, long))
past_way ns (s ∷ ss) (f ∷ fs) is zero edge long le e = absurd (omega (arith, le))
past_way ns (s ∷ ss) (f ∷ fs) is (suc place) edge long le e = past_way ns ss fs is place edge (omega (arith, long)) (omega (arith, le)) e

switch_way : (ns : List ℕ) (ss : List Switch) (fs : List Bool) (is : List Internal) (place : ℕ) (edge : PathEdge) (s : Switch) (d : Bool) → length fs ≡ length ss → slice_get ss place ≡ Some s
    → slice_get (switch_path_edges ns ss fs ++ map (internal_path_edge ns) is) place ≡ Some edge → way_through s (get_or fs place d) ≡ edge.way
unfolding switch_path_edges
switch_way ns [] fs is place edge s d long at e = absurd (some_none s at)
switch_way ns (t ∷ ss) [] is place edge s d long at e = absurd (omega (arith, long))
switch_way ns (t ∷ ss) (f ∷ fs) is zero edge s d long at e =
    ap (λ z. way_through z f) (sym (some_same t s at)) ∙ ap (λ (z : PathEdge). z.way) (some_same (switch_path_edge ns t f) edge e)
switch_way ns (t ∷ ss) (f ∷ fs) is (suc place) edge s d long at e = switch_way ns ss fs is place edge s d (omega (arith, long)) at e

pub way_past : (level : VoltageLevel) (states : List Bool) (place : ℕ) (edge : PathEdge) → length states ≡ length level.switches → length states ≤ place
    → slice_get (path_edges_of (positioned level states)) place ≡ Some edge → Free ≡ edge.way
way_past level states place edge long le e =
    past_way (nodes level) level.switches states level.internals place edge long le (ap (λ z. slice_get z place) (sym (made_edges level states long)) ∙ e)

pub way_at : (level : VoltageLevel) (states : List Bool) (place : ℕ) (edge : PathEdge) (s : Switch) (d : Bool) → length states ≡ length level.switches → slice_get level.switches place ≡ Some s
    → slice_get (path_edges_of (positioned level states)) place ≡ Some edge → way_through s (get_or states place d) ≡ edge.way
way_at level states place edge s d long at e =
    switch_way (nodes level) level.switches states level.internals place edge s d long at (ap (λ z. slice_get z place) (sym (made_edges level states long)) ∙ e)
