-- The text of a variant's buses, by lists of their names and of their components.
use Rattle.std.proofs.Common.{◌≡◌, ap, sym, ◌∙◌, ℕ, Bool, List, [], ◌++◌, length, map, append_assoc, Some}
use Rattle.std.specs.Prelude.{flat_map, zip, slice_get, codes}
use Rattle.std.specs.List.{enumerate_from}
use Rattle.std.proofs.lemmas.List.Folds.{flat_map-map}
use Rattle.std.proofs.lemmas.List.{get_or-map}
use Rattle.std.proofs.lemmas.Option.{get_or_from_slice_get, slice_get_within}
use Rattle.grid_level.specs.VoltageLevel.{VoltageLevel}
use Rattle.grid_structure.specs.Network.{Network}
use Rattle.grid_structure.specs.Sites.{levels, level_ids}
use Rattle.grid_islands.specs.Islands.{network_buses, bus_pairs}
use Rattle.grid_hvdc.specs.declared.HvdcLine.{HvdcLine}
use Rattle.grid_hvdc.specs.declared.HvdcNumber.{HvdcNumber}
use Rattle.grid_hvdc.specs.declared.buses.BusName.{BusName}
use Rattle.grid_hvdc.specs.Names.{bus_names}
use Rattle.grid_hvdc.specs.Numbers.{hvdc_number, hvdc_numbers}
use Rattle.grid_hvdc.specs.Stations.{hvdc_links}
use Rattle.grid_hvdc.specs.Texts.{level_name, named_line, bus_line, hvdc_bus_lines, variant_text, NumbersOf}
use Rattle.grid_print.specs.Job.{line_of}
use Rattle.grid_jsonl.specs.Outcomes.{variant_object}
use Rattle.grid_hvdc.specs.Lines.{named_bus_line, numbered_object, bus_objects, variant_objects}
use Rattle.grid_hvdc.proofs.BusNames.{name_of, names_as, lines_alike}

pub level_named : (net : Network) (k : ℕ) (level : VoltageLevel) → slice_get (levels net) k ≡ Some level → level_name net k ≡ level.id
unfolding level_ids
level_named net k level at =
    get_or-map (λ (l : VoltageLevel). l.id) (levels net) k level [] (slice_get_within (levels net) k level at)
    ∙ ap (λ (l : VoltageLevel). l.id) (get_or_from_slice_get (levels net) k level level at)

lines_as : (net : Network) (opened retained : List (List Bool)) (lines : List HvdcLine) (names : List BusName) (numbers : List HvdcNumber) → names ≡ bus_names net opened → NumbersOf net (network_buses net opened retained) lines numbers
    → flat_map (named_line net) (zip names numbers) ≡ hvdc_bus_lines net opened retained lines
unfolding hvdc_numbers hvdc_bus_lines bus_line
lines_as net opened retained lines names numbers e f =
    let all = network_buses net opened retained in
    let number = hvdc_number (length all) (bus_pairs net all) (hvdc_links net all lines) in
    ap (λ z. flat_map (named_line net) (zip z numbers)) (e ∙ names_as opened retained net) ∙ ap (λ z. flat_map (named_line net) (zip (map name_of all) z)) f
    ∙ lines_alike name_of number (named_line net) all

pub variant_as : (name : List ℕ) (net : Network) (opened retained : List (List Bool)) (lines : List HvdcLine) (names : List BusName) (numbers : List HvdcNumber) (old middle now : List ℕ)
    → names ≡ bus_names net opened → NumbersOf net (network_buses net opened retained) lines numbers
    → middle ≡ old ++ (codes "variant " ++ name ++ codes "\n") → now ≡ middle ++ flat_map (named_line net) (zip names numbers) → now ≡ old ++ variant_text name net opened retained lines
unfolding variant_text
variant_as name net opened retained lines names numbers old middle now e f g h =
    h ∙ ap (λ z. z ++ flat_map (named_line net) (zip names numbers)) g ∙ ap (λ z. (old ++ (codes "variant " ++ name ++ codes "\n")) ++ z) (lines_as net opened retained lines names numbers e f)
    ∙ append_assoc old (codes "variant " ++ name ++ codes "\n") (hvdc_bus_lines net opened retained lines)

-- ---- the same as lines

buses_as : (name : List ℕ) (net : Network) (opened retained : List (List Bool)) (lines : List HvdcLine) (names : List BusName) (numbers : List HvdcNumber) → names ≡ bus_names net opened → NumbersOf net (network_buses net opened retained) lines numbers
    → flat_map (named_bus_line name net) (zip names numbers) ≡ flat_map line_of (bus_objects name net opened retained lines)
unfolding hvdc_numbers bus_objects numbered_object
buses_as name net opened retained lines names numbers e f =
    let all = network_buses net opened retained in
    let number = hvdc_number (length all) (bus_pairs net all) (hvdc_links net all lines) in
    ap (λ z. flat_map (named_bus_line name net) (zip z numbers)) (e ∙ names_as opened retained net) ∙ ap (λ z. flat_map (named_bus_line name net) (zip (map name_of all) z)) f
    ∙ lines_alike name_of number (named_bus_line name net) all
    ∙ sym (flat_map-map line_of (numbered_object name net (length all) (bus_pairs net all) (hvdc_links net all lines)) (enumerate_from 0 all))

pub variant_lines_as : (name : List ℕ) (net : Network) (opened retained : List (List Bool)) (lines : List HvdcLine) (names : List BusName) (numbers : List HvdcNumber) (old middle now : List ℕ)
    → names ≡ bus_names net opened → NumbersOf net (network_buses net opened retained) lines numbers
    → middle ≡ old ++ line_of (variant_object name) → now ≡ middle ++ flat_map (named_bus_line name net) (zip names numbers) → now ≡ old ++ flat_map line_of (variant_objects name net opened retained lines)
unfolding variant_objects
variant_lines_as name net opened retained lines names numbers old middle now e f g h =
    h ∙ ap (λ z. z ++ flat_map (named_bus_line name net) (zip names numbers)) g ∙ ap (λ z. (old ++ line_of (variant_object name)) ++ z) (buses_as name net opened retained lines names numbers e f)
    ∙ append_assoc old (line_of (variant_object name)) (flat_map line_of (bus_objects name net opened retained lines))
