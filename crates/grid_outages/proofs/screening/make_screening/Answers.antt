use Rattle.std.proofs.Common.{◌≡◌, sym, ap, ◌∙◌, subst, ℕ, ◌<◌, [], List, length, map}
use Rattle.std.specs.Prelude.{flat_map, All}
use Rattle.std.specs.List.{enumerate_from}
use Rattle.std.proofs.lemmas.List.{length-map}
use Rattle.std.proofs.lemmas.List.FromFn.{length-enumerate_from}
use Rattle.grid_level.specs.Passing.{positioned}
use Rattle.grid_structure.specs.Sites.{levels}
use Rattle.grid_busview.specs.Views.{node_buses_of}
use Rattle.grid_states.specs.Rows.{row_at}
use Rattle.grid_unions.specs.declared.summed.Sums.{Sums}
use Rattle.grid_figures.specs.Outages.{LinksThere}
use Rattle.grid_outages.specs.declared.screening.Link.{Link}
use Rattle.grid_outages.specs.Changes.{level_places, level_sums, network_links, LinksFit}
use Rattle.grid_outages.specs.Effects.{joined_of, levels_of, levels_at, LevelsFit, IsKept}
use Rattle.grid_outages.specs.Tables.{end_places}
use Rattle.grid_outages.proofs.KeptSums.{kept_long, buses_kept, joined_there, links_fit, levels_fit}
use Rattle.grid_outages.proofs.screening.make_screening.Goals as goal

abbrev AreKept : List (List Sums) → List Link → Type 0
AreKept sums links = All (λ (link : Link). IsKept sums link.first × IsKept sums link.second) links

pub list_links-requires : goal.list_links-requires
unfolding level_places
list_links-requires c =
    let all = levels c.args.structure.now in
    ap length (c.slice.ensures ∙ c.in_ok-all.ensures.places) ∙ length-map (enumerate_from 0 all) (λ at. (node_buses_of (positioned at.1 (row_at c.args.states.now.opened at.0))).places) ∙ length-enumerate_from 0 all

pub list_ends-requires : goal.list_ends-requires
list_ends-requires c =
    let net = c.args.structure.now in
    let listed = c.args.powers.now.listed in
    let opened = c.args.states.now.opened in
    let sums = level_sums listed (levels net) opened in
    let is = c.slice-3.ensures ∙ c.in_ok-links.ensures ∙ ap (network_links net) (c.slice.ensures ∙ c.in_ok-all.ensures.places) in
    let many = kept_long listed (levels net) opened ∙ sym c.level_count-count.ensures in
    subst (λ z. LinksFit z c.slice-3.result.now) many (subst (LinksFit (length sums)) (sym is) (links_fit sums (network_links net (level_places (levels net) opened)) (buses_kept net listed opened)))

pub list_joined_ends-requires : goal.list_joined_ends-requires
list_joined_ends-requires c =
    let net = c.args.structure.now in
    let listed = c.args.powers.now.listed in
    let opened = c.args.states.now.opened in
    let sums = level_sums listed (levels net) opened in
    let links = network_links net (level_places (levels net) opened) in
    let is = c.in_ok-links.ensures ∙ ap (network_links net) (c.slice.ensures ∙ c.in_ok-all.ensures.places) in
    let joined = c.slice-4.ensures ∙ c.in_ok-joined.ensures ∙ ap (flat_map joined_of) (c.slice-2.ensures ∙ is) in
    let many = kept_long listed (levels net) opened ∙ sym c.level_count-count.ensures in
    subst (λ z. LevelsFit z c.slice-4.result.now) many (subst (LevelsFit (length sums)) (sym joined) (levels_fit sums (flat_map joined_of links) (joined_there sums links (buses_kept net listed opened))))

pub returns-clause-whole : goal.returns-clause-whole
returns-clause-whole c =
    let net = c.args.structure.now in
    let listed = c.args.powers.now.listed in
    let opened = c.args.states.now.opened in
    let sums = level_sums listed (levels net) opened in
    let links = network_links net (level_places (levels net) opened) in
    let sums_is = c.in_ok-all.ensures.sums in
    let is = c.in_ok-links.ensures ∙ ap (network_links net) (c.slice.ensures ∙ c.in_ok-all.ensures.places) in
    let joined_is = c.in_ok-joined.ensures ∙ ap (flat_map joined_of) c.slice-2.ensures in
    let many = c.level_count-count.ensures ∙ sym (kept_long listed (levels net) opened) ∙ ap length (sym sums_is) in
    let kept : AreKept c.in_ok-all.all.sums c.in_ok-links.links = subst (λ z. AreKept z c.in_ok-links.links) (sym sums_is) (subst (AreKept sums) (sym is) (buses_kept net listed opened)) in
    record {
      buses = kept;
      joined = joined_is;
      there = subst (LinksThere c.in_ok-all.all.sums []) (sym joined_is) (joined_there c.in_ok-all.all.sums c.in_ok-links.links kept);
      ends = c.in_ok-ends.ensures ∙ ap (λ z. end_places c.level_count-count.result (map levels_of z)) c.slice-3.ensures ∙ ap (λ n. end_places n (map levels_of c.in_ok-links.links)) many;
      joined_ends = c.in_ok-joined_ends.ensures ∙ ap (λ z. end_places c.level_count-count.result (map levels_at z)) c.slice-4.ensures ∙ ap (λ n. end_places n (map levels_at c.in_ok-joined.joined)) many;
    }
