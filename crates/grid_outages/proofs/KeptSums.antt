-- What is kept of a network: as many sums as levels, and links between levels and buses that are there.
use Rattle.std.proofs.Common.{◌≡◌, refl, sym, ap, ◌∙◌, subst, ℕ, ℤ, pos, negsuc, ◌+◌, ◌<◌, Bool, List, [], ◌∷◌, ◌++◌, length, get_or, map, arith, Option, Some, None}
use Rattle.std.specs.Prelude.{eqb, flat_map, position, option_and_then, slice_get, All}
use Rattle.std.specs.List.{enumerate_from}
use Rattle.std.specs.Option.{option_map}
use Rattle.std.proofs.lemmas.List.{length-map, get_or-map}
use Rattle.std.proofs.lemmas.List.FromFn.{length-enumerate_from}
use Rattle.std.proofs.lemmas.List.Elements.{All-nil, All-cons, All-append}
use Rattle.grid_level.specs.VoltageLevel.{VoltageLevel}
use Rattle.grid_level.specs.Passing.{nodes, positioned}
use Rattle.grid_powers.specs.Listed.{Listed}
use Rattle.grid_states.specs.Rows.{row_at}
use Rattle.grid_busview.specs.Views.{node_buses_of}
use Rattle.grid_islands.specs.Numbering.{number_of_node}
use Rattle.grid_islands.proofs.LevelNumbers.{level_at, level_within}
use Rattle.grid_structure.specs.declared.NamedBranch.{NamedBranch}
use Rattle.grid_structure.specs.declared.End.{End}
use Rattle.grid_structure.specs.Network.{Network}
use Rattle.grid_structure.specs.Sites.{levels, branches, branch_ends, find_level}
use Rattle.grid_structure.proofs.Found.{level_below}
use Rattle.grid_unions.specs.declared.summed.Sums.{Sums}
use Rattle.grid_figures.specs.Outages as outages
use Rattle.grid_figures.specs.Outages.{LinkAt, IsThere, LinksThere}
use Rattle.grid_sums.specs.Sums.{sums_of}
use Rattle.grid_outages.specs.declared.screening.EndBus.{EndBus}
use Rattle.grid_outages.specs.declared.screening.Link.{Link}
use Rattle.grid_outages.specs.Changes.{level_sums, level_places, spot_at, spot_of, link_of, link_between, links_among, branch_links, network_links, LinksFit}
use Rattle.grid_outages.specs.Effects.{joined_of, IsBelow, IsKept, LevelsFit}
use Rattle.grid_outages.proofs.Effects.{all_of, of_all, of_buses}
use Rattle.grid_outages.proofs.Looks.{places_below}
use Rattle.grid_outages.proofs.Members.{Among, flat_among}

pub kept_long : (listed : Listed) (ls : List VoltageLevel) (rows : List (List Bool)) → length (level_sums listed ls rows) ≡ length ls
unfolding level_sums
kept_long listed ls rows = length-map (enumerate_from 0 ls) (λ (at : ℕ × VoltageLevel). sums_of listed at.1 (row_at rows at.0)) ∙ length-enumerate_from 0 ls

-- ---- what holds of the ends of branches holds of those of links

module _ (net : Network) (rows : List (List (Option ℕ))) (P : EndBus → Type 0) (there : (end : End) (x : EndBus) → spot_of net rows end ≡ Some x → P x) where
  abbrev There : Option EndBus → Type 0
  There o = (x : EndBus) → o ≡ Some x → P x

  abbrev Both : Link → Type 0
  Both link = P link.first × P link.second

  between_there : (a b : Option EndBus) → There a → There b → All Both (link_between a b)
  unfolding link_between
  between_there None b f g = All-nil Both
  between_there (Some x) None f g = All-nil Both
  between_there (Some x) (Some y) f g = All-cons Both (link_of x y) [] (f x refl, g y refl) (All-nil Both)

  each_there : (a : Option EndBus) (ends : List End) → There a → All Both (flat_map (link_between a) (map (spot_of net rows) ends))
  each_there a [] f = All-nil Both
  each_there a (end ∷ ends) f =
      All-append Both (link_between a (spot_of net rows end)) (flat_map (link_between a) (map (spot_of net rows) ends)) (between_there a (spot_of net rows end) f (there end)) (each_there a ends f)

  among_there : (ends : List End) → All Both (links_among (map (spot_of net rows) ends))
  unfolding links_among
  among_there [] = All-nil Both
  among_there (end ∷ ends) =
      All-append Both (flat_map (link_between (spot_of net rows end)) (map (spot_of net rows) ends)) (links_among (map (spot_of net rows) ends)) (each_there (spot_of net rows end) ends (there end)) (among_there ends)

  of_branches : (bs : List NamedBranch) → All Both (flat_map (λ b. branch_links net rows b.shape) bs)
  unfolding branch_links
  of_branches [] = All-nil Both
  of_branches (b ∷ bs) =
      All-append Both (branch_links net rows b.shape) (flat_map (λ b. branch_links net rows b.shape) bs) (among_there (branch_ends b.shape)) (of_branches bs)

  pub links_have : All Both (network_links net rows)
  unfolding network_links
  links_have = of_branches (branches net)

-- ---- the buses of links are kept

module _ (net : Network) (listed : Listed) (opened : List (List Bool)) where
  abbrev sums : List (List Sums)
  sums = level_sums listed (levels net) opened

  abbrev rows : List (List (Option ℕ))
  rows = level_places (levels net) opened

  sums_at : (k : ℕ) (l : VoltageLevel) → slice_get (levels net) k ≡ Some l → get_or sums k [] ≡ sums_of listed l (row_at opened k)
  unfolding level_sums
  sums_at k l at =
      get_or-map (λ (at : ℕ × VoltageLevel). sums_of listed at.1 (row_at opened at.0)) (enumerate_from 0 (levels net)) k (k, l) [] (level_within (levels net) k l at) ∙ ap (λ (at : ℕ × VoltageLevel). sums_of listed at.1 (row_at opened at.0)) (level_at (levels net) k l (k, l) at)

  row_of_level : (k : ℕ) (l : VoltageLevel) → slice_get (levels net) k ≡ Some l → get_or rows k [] ≡ (node_buses_of (positioned l (row_at opened k))).places
  unfolding level_places
  row_of_level k l at =
      get_or-map (λ (at : ℕ × VoltageLevel). (node_buses_of (positioned at.1 (row_at opened at.0))).places) (enumerate_from 0 (levels net)) k (k, l) [] (level_within (levels net) k l at) ∙ ap (λ (at : ℕ × VoltageLevel). (node_buses_of (positioned at.1 (row_at opened at.0))).places) (level_at (levels net) k l (k, l) at)

  number_below : (ns : List ℕ) (row : List (Option ℕ)) (count : ℕ) (node : ℤ) → ((k place : ℕ) → get_or row k None ≡ Some place → place < count) → IsBelow (number_of_node ns row node) count
  unfolding number_of_node
  number_below ns row count (pos node) below = by (position (λ n. eqb n node) ns)
    where
      read : (o : Option ℕ) → ((place : ℕ) → o ≡ Some place → place < count) → IsBelow o count
      read None h = tt
      read (Some place) h = h place refl

      by : (o : Option ℕ) → IsBelow (option_and_then (λ index. get_or row index None) o) count
      by (Some index) = read (get_or row index None) (below index)
      by None = tt
  number_below ns row count (negsuc node) below = tt

  spot_kept : (end : End) (x : EndBus) → spot_of net rows end ≡ Some x → IsKept sums x
  unfolding spot_of
  spot_kept end x e = by (find_level net end.level) refl e
    where
      got : (k : ℕ) (o : Option VoltageLevel) → slice_get (levels net) k ≡ o → k < length (levels net) → option_map (λ level. spot_at k end.node (number_of_node (nodes level) (get_or rows k []) end.node)) o ≡ Some x → IsKept sums x
      got k (Some l) at lt h =
          let same : spot_at k end.node (number_of_node (nodes l) (get_or rows k []) end.node) ≡ x = cc in
          let below = number_below (nodes l) (get_or rows k []) (length (get_or sums k [])) end.node (λ i place q.
          subst (λ z. place < length z) (sym (sums_at k l at)) (places_below listed l (row_at opened k) i place (ap (λ z. get_or z i None) (sym (row_of_level k l at)) ∙ q))) in
          subst (IsKept sums) same (subst (λ z. k < z) (sym (kept_long listed (levels net) opened)) lt, below)
      got k None at lt h = absurd (cc)

      by : (o : Option ℕ) → find_level net end.level ≡ o → option_and_then (λ place. option_map (λ level. spot_at place end.node (number_of_node (nodes level) (get_or rows place []) end.node)) (slice_get (levels net) place)) o ≡ Some x → IsKept sums x
      by (Some k) q h = got k (slice_get (levels net) k) refl (level_below net end.level k q) h
      by None q h = absurd (cc)

  pub buses_kept : All (λ (link : Link). IsKept sums link.first × IsKept sums link.second) (network_links net rows)
  buses_kept = links_have net rows (IsKept sums) spot_kept

-- ---- the joined links are there

module _ (sums : List (List Sums)) (links : List Link) (kept : All (λ (link : Link). IsKept sums link.first × IsKept sums link.second) links) where
  below_of : (o : Option ℕ) (a n : ℕ) → o ≡ Some a → IsBelow o n → a < n
  below_of o a n e h = subst (λ z. IsBelow z n) e h

  pub joined_there : LinksThere sums [] (flat_map joined_of links)
  unfolding joined_of outages.level_sums
  joined_there = all_of (λ (x : LinkAt). IsThere sums [] x.0 × IsThere sums [] x.1) (flat_map joined_of links) (λ x i.
      let l = flat_among joined_of x links i in
      let k = of_all (λ (link : Link). IsKept sums link.first × IsKept sums link.second) links kept l.0 l.1 in
      let b = of_buses l.0 l.0.first.bus l.0.second.bus x l.2 in
      subst (λ (z : LinkAt). IsThere sums [] z.0 × IsThere sums [] z.1) (sym b.4)
      ((k.0.0, below_of l.0.first.bus b.0 (length (get_or sums l.0.first.level [])) b.2 k.0.1), (k.1.0, below_of l.0.second.bus b.1 (length (get_or sums l.0.second.level [])) b.3 k.1.1)))

  pub links_fit : LinksFit (length sums) links
  links_fit = all_of (λ (link : Link). (link.first.level < length sums) × (link.second.level < length sums)) links (λ link i.
      let k = of_all (λ (link : Link). IsKept sums link.first × IsKept sums link.second) links kept link i in (k.0.0, k.1.0))

pub levels_fit : (sums : List (List Sums)) (joined : List LinkAt) → LinksThere sums [] joined → LevelsFit (length sums) joined
levels_fit sums joined there = all_of (λ (x : LinkAt). (x.0.level < length sums) × (x.1.level < length sums)) joined (λ x i.
    let k = of_all (λ (x : LinkAt). IsThere sums [] x.0 × IsThere sums [] x.1) joined there x i in (k.0.0, k.1.0))
