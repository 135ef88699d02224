-- Levels that have the same ends and look the same have the same bus view.
use Rattle.std.proofs.Common.{◌≡◌, refl, sym, ap, ◌∙◌, subst, ℕ, ℤ, Bool, true, false, not, if◌then◌else◌, List, [], ◌∷◌, ◌++◌, Option, Some, None, IsTrue, length}
use Rattle.std.specs.Prelude.{eqb, map, filter}
use Rattle.std.specs.List.{list_any, zip}
use Rattle.grid_graph.specs.Joined.{least_nodes, group_of}
use Rattle.grid_graph.specs.Graph.{labels_of}
use Rattle.grid_level.specs.declared.Placed.{Placed}
use Rattle.grid_level.specs.declared.Switch.{Switch}
use Rattle.grid_level.specs.VoltageLevel.{VoltageLevel}
use Rattle.grid_level.specs.Passing.{nodes, bus, passing, positioned, placed_among, switch_edge, internal_edge, ends}
use Rattle.grid_groups.specs.Groups.{group_under, leaders, terminals_at}
use Rattle.grid_groups.specs.Labels.{passing_where, graph_among, graph_under}
use Rattle.grid_groups.proofs.PassingEdges.{nodes-positioned, passing_bus, marked}
use Rattle.grid_busview.specs.declared.ViewBus.{ViewBus}
use Rattle.grid_busview.specs.declared.BusView.{BusView}
use Rattle.grid_busview.specs.Views.{fed_among, is_load, is_generation, watts_over, is_valid, is_bus, bus_of, bus_view_of}
use Rattle.grid_bench.specs.declared.base.BaseLevel.{BaseLevel}
use Rattle.grid_bench.specs.declared.shown.Shown.{Shown}
use Rattle.grid_bench.specs.Bases.{placed_open}
use Rattle.grid_bench.specs.Ends.{all_ends, SameEnds}
use Rattle.grid_bench.specs.Shown.{LookSame}
use Rattle.grid_bench.specs.Contents.{Content, content, IsViewOf, IsShownOf}
use Rattle.grid_bench.specs.Stores.{Store, kept_for, IsViewIn}
use Rattle.grid_bench.specs.Answers.{content_of, IsKeptIn}
use Rattle.grid_bench.proofs.Alike.{same_many}

-- ---- what passes

marked_as : (ss ts : List Switch) (flags : List Bool) → all_ends ss ≡ all_ends ts → marked ss flags ≡ marked ts flags
unfolding ends
marked_as [] [] flags e = refl
marked_as [] (t ∷ ts) flags e = absurd (cc)
marked_as (s ∷ ss) [] flags e = absurd (cc)
marked_as (s ∷ ss) (t ∷ ts) [] e = refl
marked_as (s ∷ ss) (t ∷ ts) (true ∷ flags) e =
    let here : ends (switch_edge s) ≡ ends (switch_edge t) = cc in
    let rest : all_ends ss ≡ all_ends ts = cc in
    ap (λ z. z ∷ marked ss flags) here ∙ ap (λ z. ends (switch_edge t) ∷ z) (marked_as ss ts flags rest)
marked_as (s ∷ ss) (t ∷ ts) (false ∷ flags) e = let rest : all_ends ss ≡ all_ends ts = cc in marked_as ss ts flags rest

where_as : (level other : VoltageLevel) (flags : List Bool) → SameEnds level other → passing_where level flags ≡ passing_where other flags
unfolding passing_where
where_as level other flags same =
    ap (λ z. z ++ map (λ i. ends (internal_edge i)) level.internals) (marked_as level.switches other.switches flags same.same_switches)
    ∙ ap (λ z. marked other.switches flags ++ map (λ i. ends (internal_edge i)) z) same.same_internals

passing_as : (level other : VoltageLevel) (opened : List Bool) → length opened ≡ length level.switches → SameEnds level other → passing bus (positioned level opened) ≡ passing bus (positioned other opened)
passing_as level other opened e same =
    passing_bus level opened e ∙ where_as level other (map not opened) same ∙ sym (passing_bus other opened (e ∙ same_many level other same))

nodes_as : (level other : VoltageLevel) (opened : List Bool) → SameEnds level other → nodes (positioned level opened) ≡ nodes (positioned other opened)
nodes_as level other opened same = nodes-positioned level opened ∙ same.same_nodes ∙ sym (nodes-positioned other opened)

-- ---- the view by its terminals, its nodes and the pairs that pass

abbrev bus_by : List Placed → List ℤ → ℕ → List ℕ → ViewBus
bus_by placed watts least ns = record {
  least = least;
  nodes = ns;
  terminals = map (λ p. p.terminal) (filter (λ p. list_any (eqb p.node) ns) placed);
  load = watts_over is_load (filter (λ pair. list_any (eqb pair.0.node) ns) (zip placed watts));
  generation = watts_over is_generation (filter (λ pair. list_any (eqb pair.0.node) ns) (zip placed watts));
}

abbrev view_by : List ℕ → List Placed → List ℤ → List ℕ → List (ℕ × ℕ) → BusView
view_by id placed watts ns pairs = record {
  level = id;
  buses = map (λ least. bus_by placed watts least (group_of ns pairs least)) (filter (λ least. is_valid (filter (λ p. list_any (eqb p.node) (group_of ns pairs least)) placed)) (least_nodes ns pairs));
}

pub view_as : (level other : VoltageLevel) (opened : List Bool) (watts : List ℤ) → length opened ≡ length level.switches → SameEnds level other → LookSame level other
    → bus_view_of (positioned level opened) watts ≡ bus_view_of (positioned other opened) watts
unfolding bus_view_of bus_of is_bus fed_among group_under leaders terminals_at placed_among positioned
view_as level other opened watts e same look =
    ap (λ z. view_by z level.placed watts (nodes (positioned level opened)) (passing bus (positioned level opened))) look.same_id
    ∙ ap (λ z. view_by other.id z watts (nodes (positioned level opened)) (passing bus (positioned level opened))) look.same_placed
    ∙ ap (λ z. view_by other.id other.placed watts z (passing bus (positioned level opened))) (nodes_as level other opened same)
    ∙ ap (λ z. view_by other.id other.placed watts (nodes (positioned other opened)) z) (passing_as level other opened e same)

-- ---- what is shown

pub shown_none : (c : Content) (new : Option Shown) → new ≡ None → IsShownOf c new
shown_none c new e = let P : Option Shown → Type 0 = λ z. IsShownOf c z in subst P (sym e) tt

moved : (level other : VoltageLevel) (opened retained : List Bool) (shown : Option Shown) → length opened ≡ length level.switches → SameEnds level other → LookSame level other
    → IsShownOf (content level opened retained) shown → IsShownOf (content other opened retained) shown
moved level other opened retained None e same look is = tt
moved level other opened retained (Some s) e same look is = record { long = is.long ∙ ap length look.same_placed; made = is.made ∙ view_as level other opened s.powers e same look }

-- where it stays only where both levels look the same, it is the other level's too
pub shown_as : (level other : VoltageLevel) (opened retained : List Bool) (old new : Option Shown) (stays : Bool) → length opened ≡ length level.switches → SameEnds level other → (IsTrue stays → LookSame level other)
    → new ≡ (if stays then old else None) → IsShownOf (content level opened retained) old → IsShownOf (content other opened retained) new
shown_as level other opened retained old new true e same look h is =
    let P : Option Shown → Type 0 = λ z. IsShownOf (content other opened retained) z in
    subst P (sym h) (moved level other opened retained old e same (look refl) is)
shown_as level other opened retained old new false e same look h is = shown_none (content other opened retained) new h

-- a view of a level that is kept is that of what is kept for its id
pub view_in : (kept : Store) (level : VoltageLevel) (opened retained : List Bool) (id : List ℕ) (powers watts : List ℤ) (view made : BusView) → id ≡ level.id → powers ≡ watts → view ≡ made
    → length watts ≡ length level.placed → kept_for kept level.id ≡ Some (content level opened retained) → made ≡ bus_view_of (positioned level opened) watts → IsViewIn kept id powers view
view_in kept level opened retained id powers watts view made e f same long is h c there =
    let both : Some (content level opened retained) ≡ Some c = sym is ∙ ap (kept_for kept) (sym e) ∙ there in
    let one : content level opened retained ≡ c = cc in
    let P : Content → Type 0 = λ z. IsViewOf z powers view in
    subst P one (record { long = ap length f ∙ long; made = same ∙ h ∙ ap (bus_view_of (positioned level opened)) (sym f) })
