-- Where converter stations stand, and in which buses.
use Rattle.std.proofs.Common.{◌≡◌, refl, sym, ap, ◌∙◌, ℕ, pos, ◌<◌, Bool, true, false, cond, ◌&&◌, List, [], ◌∷◌, length, get_or, Option, Some, None}
use Rattle.std.specs.Prelude.{eqb, flat_map, position, slice_get, option_and_then}
use Rattle.std.specs.Option.{option_map}
use Rattle.std.proofs.lemmas.List.Elements.{All-nil, All-cons, All-append}
use Rattle.std.proofs.lemmas.Option.{slice_get_within}
use Rattle.grid_lemmas.proofs.Lists.{none_past}
use Rattle.grid_graph.specs.Graph.{EndsBelow}
use Rattle.grid_level.specs.VoltageLevel.{VoltageLevel}
use Rattle.grid_level.specs.Passing.{nodes}
use Rattle.grid_structure.specs.declared.Site.{Site}
use Rattle.grid_structure.specs.Network.{Network}
use Rattle.grid_structure.specs.Sites.{levels, site, terminal_spot}
use Rattle.grid_structure.proofs.Places.{position_found}
use Rattle.grid_states.specs.Rows.{row_at}
use Rattle.grid_islands.specs.Islands.{holds}
use Rattle.grid_islands.specs.declared.numbering.Numbered.{Numbered}
use Rattle.grid_islands.specs.Numbering.{standing, numbered, buses_before, node_numbers, number_of_node}
use Rattle.grid_islands.proofs.BusPlaces.{number_as, all, all_rows, row_read, place_as}
use Rattle.grid_islands.proofs.LevelComponents.{count_as}
use Rattle.grid_core.specs.Solo.{level_at}
use Rattle.grid_core.proofs.EquipmentSides.{no_site, at_site}
use Rattle.grid_core.proofs.Ranges.{site_level}
use Rattle.grid_hvdc.specs.declared.HvdcLine.{HvdcLine}
use Rattle.grid_hvdc.specs.Stations.{is_station_at, station_of, station_bus, link_between, line_links, hvdc_links, number_of_station, links_of_line}

-- ---- a station by its id

pub nowhere : (net : Network) (id : List ℕ) → None ≡ option_map terminal_spot (site net id 1) → None ≡ option_map terminal_spot (station_of net id)
unfolding station_of
nowhere net id e = rw (no_site (site net id 1) e) refl

pub stands : (net : Network) (id : List ℕ) (at : Site) → Some at ≡ option_map terminal_spot (site net id 1) → true ≡ is_station_at net (at.level, at.node) → Some at ≡ option_map terminal_spot (station_of net id)
unfolding station_of
stands net id at e t = rw (at_site (site net id 1) at e, sym t) refl

pub another : (net : Network) (id : List ℕ) (at : Site) → Some at ≡ option_map terminal_spot (site net id 1) → false ≡ is_station_at net (at.level, at.node) → None ≡ option_map terminal_spot (station_of net id)
unfolding station_of
another net id at e t = rw (at_site (site net id 1) at e, sym t) refl

level_there : (net : Network) (id : List ℕ) (side k node : ℕ) → site net id side ≡ Some (k, node) → k < length (levels net)
unfolding level_at
level_there net id side k node e = let found = site_level net id side k node e in slice_get_within (levels net) k found.0 found.1

pub site_below : (net : Network) (id : List ℕ) (side : ℕ) (at : Site) → Some at ≡ option_map terminal_spot (site net id side) → at.level < length (levels net)
site_below net id side at e = level_there net id side at.level at.node (at_site (site net id side) at e)

-- a station stands at the site of its id
station_site : (net : Network) (id : List ℕ) (at : ℕ × ℕ) → station_of net id ≡ Some at → site net id 1 ≡ Some at
unfolding station_of
station_site net id at e = by (site net id 1) e
  where
    kept : (t : Bool) (x : ℕ × ℕ) → ◌≡◌ {A = Option (ℕ × ℕ)} (cond t (Some x) None) (Some at) → ◌≡◌ {A = Option (ℕ × ℕ)} (Some x) (Some at)
    kept true x h = h
    kept false x h = absurd (cc)

    by : (o : Option (ℕ × ℕ)) → option_and_then (λ x. cond (is_station_at net x) (Some x) None) o ≡ Some at → o ≡ Some at
    by (Some x) h = kept (is_station_at net x) x h
    by None h = absurd (cc)

-- ---- by rows

pub none_numbered : (net : Network) (rows : List (List (Option ℕ))) (id : List ℕ) → None ≡ option_map terminal_spot (station_of net id) → None ≡ number_of_station net rows id
unfolding number_of_station
none_numbered net rows id e = rw (no_site (station_of net id) e) refl

pub numbered_by : (net : Network) (rows : List (List (Option ℕ))) (id : List ℕ) (at : Site) (level : VoltageLevel) → Some at ≡ option_map terminal_spot (station_of net id) → slice_get (levels net) at.level ≡ Some level
    → number_of_node (nodes level) (get_or rows at.level []) (pos at.node) ≡ number_of_station net rows id
unfolding number_of_station
numbered_by net rows id at level e found = rw (at_site (station_of net id) at e, found) refl

-- ---- by the buses of the network

module _ (net : Network) (opened retained : List (List Bool)) where
  spot_at : (k n : ℕ) (level : VoltageLevel) → slice_get (levels net) k ≡ Some level
      → number_of_node (nodes level) (get_or (all_rows net opened retained) k []) (pos n) ≡ position (λ b. eqb b.0 k && holds b.1.nodes (pos n)) (all net opened retained)
  unfolding node_numbers standing
  spot_at k n level at =
      ap (λ z. number_of_node (nodes level) z (pos n)) (row_read net opened retained k level at)
      ∙ number_as level (row_at opened k) (row_at retained k) (buses_before opened (levels net) k) (pos n)
      ∙ sym (place_as net opened retained k level (pos n) at)

  station_as : (id : List ℕ) → number_of_station net (all_rows net opened retained) id ≡ station_bus net (all net opened retained) id
  unfolding number_of_station station_bus
  station_as id = by (station_of net id) refl
    where
      got : (at : ℕ × ℕ) (o : Option VoltageLevel) → at.0 < length (levels net) → slice_get (levels net) at.0 ≡ o
          → option_and_then (λ level. number_of_node (nodes level) (get_or (all_rows net opened retained) at.0 []) (pos at.1)) o ≡ position (λ b. eqb b.0 at.0 && holds b.1.nodes (pos at.1)) (all net opened retained)
      got at (Some level) lt e = spot_at at.0 at.1 level e
      got at None lt e = absurd (none_past (levels net) at.0 lt e)

      by : (o : Option (ℕ × ℕ)) → station_of net id ≡ o
          → option_and_then (λ at. option_and_then (λ level. number_of_node (nodes level) (get_or (all_rows net opened retained) at.0 []) (pos at.1)) (slice_get (levels net) at.0)) o
          ≡ option_and_then (λ at. position (λ b. eqb b.0 at.0 && holds b.1.nodes (pos at.1)) (all net opened retained)) o
      by (Some at) e = got at (slice_get (levels net) at.0) (level_there net id 1 at.0 at.1 (station_site net id at e)) refl
      by None e = refl

  line_as : (line : HvdcLine) → links_of_line net (all_rows net opened retained) line ≡ line_links net (all net opened retained) line
  unfolding links_of_line line_links
  line_as line = ap (λ z. link_between z (number_of_station net (all_rows net opened retained) line.station2)) (station_as line.station1) ∙ ap (link_between (station_bus net (all net opened retained) line.station1)) (station_as line.station2)

  lines_as : (lines : List HvdcLine) → flat_map (links_of_line net (all_rows net opened retained)) lines ≡ flat_map (line_links net (all net opened retained)) lines
  lines_as [] = refl
  lines_as (line ∷ lines) = rw (line_as line, lines_as lines) refl

  pub links_as : (lines : List HvdcLine) → flat_map (links_of_line net (all_rows net opened retained)) lines ≡ hvdc_links net (all net opened retained) lines
  unfolding hvdc_links
  links_as lines = lines_as lines

  -- ---- the links are of buses

  abbrev Below : Option ℕ → Type 0
  Below o = (k : ℕ) → o ≡ Some k → k < length (all net opened retained)

  abbrev OfBuses : ℕ × ℕ → Type 0
  OfBuses pair = (pair.0 < length (all net opened retained)) × (pair.1 < length (all net opened retained))

  station_below : (id : List ℕ) → Below (station_bus net (all net opened retained) id)
  unfolding station_bus
  station_below id k e = by (station_of net id) e
    where
      by : (o : Option (ℕ × ℕ)) → option_and_then (λ at. position (λ b. eqb b.0 at.0 && holds b.1.nodes (pos at.1)) (all net opened retained)) o ≡ Some k → k < length (all net opened retained)
      by (Some at) h = (position_found (λ b. eqb b.0 at.0 && holds b.1.nodes (pos at.1)) (all net opened retained) k h).0
      by None h = absurd (cc)

  between_below : (a b : Option ℕ) → Below a → Below b → EndsBelow (link_between a b) (length (all net opened retained))
  unfolding link_between
  between_below None b f g = All-nil OfBuses
  between_below (Some x) None f g = All-nil OfBuses
  between_below (Some x) (Some y) f g = by (eqb x y)
    where
      by : (t : Bool) → EndsBelow (cond t [] ((x, y) ∷ [])) (length (all net opened retained))
      by true = All-nil OfBuses
      by false = All-cons OfBuses (x, y) [] (f x refl, g y refl) (All-nil OfBuses)

  lines_below : (lines : List HvdcLine) → EndsBelow (flat_map (line_links net (all net opened retained)) lines) (length (all net opened retained))
  unfolding line_links
  lines_below [] = All-nil OfBuses
  lines_below (line ∷ lines) =
      let all_buses = all net opened retained in
      All-append OfBuses (line_links net all_buses line) (flat_map (line_links net all_buses) lines)
      (between_below (station_bus net all_buses line.station1) (station_bus net all_buses line.station2) (station_below line.station1) (station_below line.station2)) (lines_below lines)

  pub links_below : (lines : List HvdcLine) → EndsBelow (hvdc_links net (all net opened retained) lines) (length (all net opened retained))
  unfolding hvdc_links
  links_below lines = lines_below lines

  -- ---- what the calls before give

  module _ (made : Numbered) (as_numbered : made ≡ numbered net opened) (lines : List HvdcLine) (rows : List (List (Option ℕ))) (links : List (ℕ × ℕ)) (given : rows ≡ made.rows) (joined : links ≡ flat_map (links_of_line net rows) lines) where
    pub links_made : links ≡ hvdc_links net (all net opened retained) lines
    unfolding numbered
    links_made = joined ∙ ap (λ z. flat_map (links_of_line net z) lines) (given ∙ ap (λ z. z.rows) as_numbered) ∙ links_as lines

    pub links_ends : EndsBelow links made.count
    links_ends = rw (links_made, count_as net opened retained made as_numbered) (links_below lines)
