-- A network's draft is loaded by the network's own edits, and so a sound network is loaded from its draft.
use Rattle.std.proofs.Common.{◌≡◌, refl, ap, ◌∙◌, ℕ, suc, true, List, [], ◌∷◌, ◌++◌, Option, Some, None}
use Rattle.std.specs.Prelude.{map, flat_map, Ok, Result, is_none}
use Rattle.std.specs.List.{list_all}
use Rattle.std.proofs.lemmas.Bool.{and_parts, and_from, false≢true}
use Rattle.grid_ids.specs.Name.{same_id}
use Rattle.grid_ids.proofs.Alike.{same_is}
use Rattle.grid_level.specs.declared.Stand.{Stand}
use Rattle.grid_level.specs.declared.Stand.TheVariants.{Busbar, Feeder, BranchEnd}
use Rattle.grid_level.specs.declared.Placed.{Placed}
use Rattle.grid_level.specs.declared.Switch.{Switch}
use Rattle.grid_level.specs.declared.Internal.{Internal}
use Rattle.grid_level.specs.VoltageLevel.{VoltageLevel}
use Rattle.grid_structure.specs.declared.NamedBranch.{NamedBranch}
use Rattle.grid_structure.specs.declared.Branch.{Branch}
use Rattle.grid_structure.specs.declared.Branch.TheVariants.{Line, TwoWindings, ThreeWindings}
use Rattle.grid_structure.specs.declared.Edit.{Edit}
use Rattle.grid_structure.specs.declared.Edit.TheVariants as edits
use Rattle.grid_structure.specs.Network.{Network, Substation, empty_of}
use Rattle.grid_structure.specs.Sites.{home_of}
use Rattle.grid_structure.specs.Soundness.{IsSound, stands_in, transformer_passes, line_passes}
use Rattle.grid_structure.specs.Loading as loading
use Rattle.grid_structure.specs.Loading.{apply_each, branch_edit, busbar_edits, switch_edit, internal_edit, injection_edits}
use Rattle.grid_structure.proofs.EditLists.{first_of, parted}
use Rattle.grid_structure.proofs.NetworkLoad as on_structure
use Rattle.grid_json.specs.declared.fault.Fault.{Fault}
use Rattle.grid_json.specs.declared.network.AnyLevelDraft.TheVariants as drafts
use Rattle.grid_json.specs.Loading.{load_items, edited, busbar_load, switch_load, internal_load, injection_load, level_load, network_load}
use Rattle.grid_json.specs.OlderFormats.{is_of_nodes, transformer_at_nodes, line_at_nodes, substation_of_nodes, network_of_nodes, transformer_edit, line_edit, level_edits, substation_edits, parts_edits, network_edits}
use Rattle.grid_json.proofs.OlderNetworks.{nodes_load}
use Rattle.grid_print.specs.Laws.{level_draft, switch_draft, internal_draft, busbar_draft_of, injection_draft_of, transformer_draft_of, line_draft_of, substation_draft, network_draft}
use Rattle.grid_print.specs.Loads.{NetworksAreLoaded}

-- ---- drafts of which each is loaded by one edit

-- the drafts are loaded by these edits, one by one
abbrev Drawn : {D : Type 0} → (D → List ℕ → Network → Result Network Fault) → List ℕ → List D → List Edit → Type 0
Drawn load owner [] [] = Unit {0}
Drawn load owner [] (edit ∷ later) = ⊥
Drawn load owner (d ∷ ds) [] = ⊥
Drawn load owner (d ∷ ds) (edit ∷ later) = ((net : Network) → load d owner net ≡ edited edit net) × Drawn load owner ds later

drawn_loaded : {D : Type 0} (load : D → List ℕ → Network → Result Network Fault) (owner : List ℕ) (ds : List D) (all : List Edit) (i : ℕ) (net end : Network) → Drawn load owner ds all → apply_each net all ≡ Ok end
    → load_items load i ds owner net ≡ Ok end
unfolding load_items apply_each
drawn_loaded load owner [] [] i net end drawn made = let same : net ≡ end = cc in ap Ok same
drawn_loaded load owner [] (edit ∷ later) i net end drawn made = absurd drawn
drawn_loaded load owner (d ∷ ds) [] i net end drawn made = absurd drawn
drawn_loaded load owner (d ∷ ds) (edit ∷ later) i net end drawn made =
    let k = first_of net edit later end made in
    rw (drawn.0 net, k.first) (drawn_loaded load owner ds later (suc i) k.new end drawn.1 k.second)

-- ---- the parts of a level

busbars_drawn : (level : List ℕ) (placed : List Placed) → Drawn busbar_load level (flat_map (λ p. busbar_draft_of p.terminal.equipment p.node p.stand) placed) (flat_map (λ p. busbar_edits level p.terminal.equipment p.node p.stand) placed)
unfolding busbar_load
busbars_drawn level [] = tt
busbars_drawn level (p ∷ placed) = by p.stand (busbars_drawn level placed)
  where
    by : (stand : Stand) → Drawn busbar_load level (flat_map (λ q. busbar_draft_of q.terminal.equipment q.node q.stand) placed) (flat_map (λ q. busbar_edits level q.terminal.equipment q.node q.stand) placed)
        → Drawn busbar_load level (busbar_draft_of p.terminal.equipment p.node stand ++ flat_map (λ q. busbar_draft_of q.terminal.equipment q.node q.stand) placed)
        (busbar_edits level p.terminal.equipment p.node stand ++ flat_map (λ q. busbar_edits level q.terminal.equipment q.node q.stand) placed)
    by Busbar rest = (λ net. refl, rest)
    by (Feeder item) rest = rest
    by BranchEnd rest = rest

injections_drawn : (level : List ℕ) (placed : List Placed)
    → Drawn injection_load level (flat_map (λ p. injection_draft_of p.terminal.equipment p.node p.stand) placed) (flat_map (λ p. injection_edits level p.terminal.equipment p.node p.stand) placed)
unfolding injection_load
injections_drawn level [] = tt
injections_drawn level (p ∷ placed) = by p.stand (injections_drawn level placed)
  where
    by : (stand : Stand) → Drawn injection_load level (flat_map (λ q. injection_draft_of q.terminal.equipment q.node q.stand) placed) (flat_map (λ q. injection_edits level q.terminal.equipment q.node q.stand) placed)
        → Drawn injection_load level (injection_draft_of p.terminal.equipment p.node stand ++ flat_map (λ q. injection_draft_of q.terminal.equipment q.node q.stand) placed)
        (injection_edits level p.terminal.equipment p.node stand ++ flat_map (λ q. injection_edits level q.terminal.equipment q.node q.stand) placed)
    by Busbar rest = rest
    by (Feeder item) rest = (λ net. refl, rest)
    by BranchEnd rest = rest

switches_drawn : (level : List ℕ) (switches : List Switch) → Drawn switch_load level (map switch_draft switches) (map (switch_edit level) switches)
unfolding switch_load
switches_drawn level [] = tt
switches_drawn level (s ∷ switches) = (λ net. refl, switches_drawn level switches)

internals_drawn : (level : List ℕ) (internals : List Internal) → Drawn internal_load level (map internal_draft internals) (map (internal_edit level) internals)
unfolding internal_load
internals_drawn level [] = tt
internals_drawn level (i ∷ internals) = (λ net. refl, internals_drawn level internals)

level_loaded : (substation : List ℕ) (l : VoltageLevel) (net end : Network) → apply_each net (loading.level_edits substation l) ≡ Ok end → level_load (level_draft l) substation net ≡ Ok end
unfolding level_load loading.level_edits
level_loaded substation l net end made =
    let busbars = flat_map (λ (p : Placed). busbar_edits l.id p.terminal.equipment p.node p.stand) l.placed in
    let switches = map (switch_edit l.id) l.switches in
    let internals = map (internal_edit l.id) l.internals in
    let injections = flat_map (λ (p : Placed). injection_edits l.id p.terminal.equipment p.node p.stand) l.placed in
    let a = first_of net (edits.AddLevel l.id substation l.nominal_v l.low_v l.high_v) (busbars ++ (switches ++ (internals ++ injections))) end made in
    let b = parted a.new busbars (switches ++ (internals ++ injections)) end a.second in
    let c = parted b.mid switches (internals ++ injections) end b.second in
    let d = parted c.mid internals injections end c.second in
    rw (
      a.first,
      drawn_loaded busbar_load l.id (level_draft l).busbars busbars 0 a.new b.mid (busbars_drawn l.id l.placed) b.first,
      drawn_loaded switch_load l.id (level_draft l).switches switches 0 b.mid c.mid (switches_drawn l.id l.switches) c.first,
      drawn_loaded internal_load l.id (level_draft l).internals internals 0 c.mid d.mid (internals_drawn l.id l.internals) d.first,
      drawn_loaded injection_load l.id (level_draft l).injections injections 0 d.mid end (injections_drawn l.id l.placed) d.second,
    ) refl

levels_loaded : (substation : List ℕ) (ls : List VoltageLevel) (i : ℕ) (net end : Network) → apply_each net (flat_map (loading.level_edits substation) ls) ≡ Ok end
    → load_items level_edits i (map (λ l. drafts.Nodes (level_draft l)) ls) substation net ≡ Ok end
unfolding load_items level_edits apply_each
levels_loaded substation [] i net end made = let same : net ≡ end = cc in ap Ok same
levels_loaded substation (l ∷ ls) i net end made =
    let k = parted net (loading.level_edits substation l) (flat_map (loading.level_edits substation) ls) end made in
    rw (level_loaded substation l net k.mid k.first) (levels_loaded substation ls (suc i) k.mid end k.second)

-- ---- branches

home_is : (id : List ℕ) (ids : List (List ℕ)) (shape : Branch) (home : Option (List ℕ)) → stands_in id ids shape home ≡ true → home ≡ Some id
unfolding stands_in
home_is id ids shape None passes = absurd (false≢true passes)
home_is id ids shape (Some home) passes = ap Some (same_is home id (and_parts (same_id home id) _ passes).0)

transformers_drawn : (s : Substation) (bs : List NamedBranch) → list_all (transformer_passes s) bs ≡ true → Drawn transformer_edit s.id (flat_map (λ b. transformer_draft_of b.id b.shape) bs) (map branch_edit bs)
unfolding transformer_passes home_of transformer_edit
transformers_drawn s [] passes = tt
transformers_drawn s (b ∷ bs) passes =
    let each = and_parts (transformer_passes s b) (list_all (transformer_passes s) bs) passes in
    by b.shape (home_is s.id _ b.shape (home_of b.shape) each.0) (transformers_drawn s bs each.1)
  where
    by : (shape : Branch) → home_of shape ≡ Some s.id → Drawn transformer_edit s.id (flat_map (λ c. transformer_draft_of c.id c.shape) bs) (map branch_edit bs)
        → Drawn transformer_edit s.id (transformer_draft_of b.id shape ++ flat_map (λ c. transformer_draft_of c.id c.shape) bs) (edits.AddBranch b.id shape ∷ map branch_edit bs)
    by (Line end1 end2) home rest = cc
    by (TwoWindings substation end1 end2 rated_u1 rated_u2) home rest = let same : s.id ≡ substation = cc in (λ net. rw same refl, rest)
    by (ThreeWindings substation end1 end2 end3 rated_u1 rated_u2 rated_u3) home rest = let same : s.id ≡ substation = cc in (λ net. rw same refl, rest)

lines_drawn : (owner : List ℕ) (bs : List NamedBranch) → list_all line_passes bs ≡ true → Drawn line_edit owner (flat_map (λ b. line_draft_of b.id b.shape) bs) (map branch_edit bs)
unfolding line_passes home_of line_edit
lines_drawn owner [] passes = tt
lines_drawn owner (b ∷ bs) passes =
    let each = and_parts (line_passes b) (list_all line_passes bs) passes in
    by b.shape each.0 (lines_drawn owner bs each.1)
  where
    by : (shape : Branch) → is_none (home_of shape) ≡ true → Drawn line_edit owner (flat_map (λ c. line_draft_of c.id c.shape) bs) (map branch_edit bs)
        → Drawn line_edit owner (line_draft_of b.id shape ++ flat_map (λ c. line_draft_of c.id c.shape) bs) (edits.AddBranch b.id shape ∷ map branch_edit bs)
    by (Line end1 end2) home rest = (λ net. refl, rest)
    by (TwoWindings substation end1 end2 rated_u1 rated_u2) home rest = absurd (false≢true home)
    by (ThreeWindings substation end1 end2 end3 rated_u1 rated_u2 rated_u3) home rest = absurd (false≢true home)

-- ---- substations

substation_loaded : (owner : List ℕ) (s : Substation) (net end : Network) → list_all (transformer_passes s) s.transformers ≡ true → apply_each net (loading.substation_edits s) ≡ Ok end → substation_edits (substation_draft s) owner net ≡ Ok end
unfolding substation_edits loading.substation_edits
substation_loaded owner s net end passes made =
    let levels = flat_map (loading.level_edits s.id) s.levels in
    let transformers = map branch_edit s.transformers in
    let a = first_of net (edits.AddSubstation s.id) (levels ++ transformers) end made in
    let b = parted a.new levels transformers end a.second in
    rw (
      a.first,
      levels_loaded s.id s.levels 0 a.new b.mid b.first,
      drawn_loaded transformer_edit s.id (substation_draft s).transformers transformers 0 b.mid end (transformers_drawn s s.transformers passes) b.second,
    ) refl

substations_loaded : (owner : List ℕ) (subs : List Substation) (i : ℕ) (net end : Network) → list_all (λ (s : Substation). list_all (transformer_passes s) s.transformers) subs ≡ true
    → apply_each net (flat_map loading.substation_edits subs) ≡ Ok end → load_items substation_edits i (map substation_draft subs) owner net ≡ Ok end
unfolding load_items apply_each
substations_loaded owner [] i net end passes made = let same : net ≡ end = cc in ap Ok same
substations_loaded owner (s ∷ subs) i net end passes made =
    let each = and_parts (list_all (transformer_passes s) s.transformers) (list_all (λ (t : Substation). list_all (transformer_passes t) t.transformers) subs) passes in
    let k = parted net (loading.substation_edits s) (flat_map loading.substation_edits subs) end made in
    rw (substation_loaded owner s net k.mid each.0 k.first) (substations_loaded owner subs (suc i) k.mid end each.1 k.second)

-- ---- a network's draft is of nodes alone

levels_of_nodes : (ls : List VoltageLevel) → list_all is_of_nodes (map (λ l. drafts.Nodes (level_draft l)) ls) ≡ true
levels_of_nodes [] = refl
levels_of_nodes (l ∷ ls) = levels_of_nodes ls

transformers_at_nodes : (bs : List NamedBranch) → list_all transformer_at_nodes (flat_map (λ b. transformer_draft_of b.id b.shape) bs) ≡ true
transformers_at_nodes [] = refl
transformers_at_nodes (b ∷ bs) = by b.shape (transformers_at_nodes bs)
  where
    by : (shape : Branch) → list_all transformer_at_nodes (flat_map (λ b. transformer_draft_of b.id b.shape) bs) ≡ true
        → list_all transformer_at_nodes (transformer_draft_of b.id shape ++ flat_map (λ b. transformer_draft_of b.id b.shape) bs) ≡ true
    by (Line end1 end2) rest = rest
    by (TwoWindings substation end1 end2 rated_u1 rated_u2) rest = rest
    by (ThreeWindings substation end1 end2 end3 rated_u1 rated_u2 rated_u3) rest = rest

lines_at_nodes : (bs : List NamedBranch) → list_all line_at_nodes (flat_map (λ b. line_draft_of b.id b.shape) bs) ≡ true
lines_at_nodes [] = refl
lines_at_nodes (b ∷ bs) = by b.shape (lines_at_nodes bs)
  where
    by : (shape : Branch) → list_all line_at_nodes (flat_map (λ b. line_draft_of b.id b.shape) bs) ≡ true
        → list_all line_at_nodes (line_draft_of b.id shape ++ flat_map (λ b. line_draft_of b.id b.shape) bs) ≡ true
    by (Line end1 end2) rest = rest
    by (TwoWindings substation end1 end2 rated_u1 rated_u2) rest = rest
    by (ThreeWindings substation end1 end2 end3 rated_u1 rated_u2 rated_u3) rest = rest

substations_of_nodes : (ss : List Substation) → list_all substation_of_nodes (map substation_draft ss) ≡ true
substations_of_nodes [] = refl
substations_of_nodes (s ∷ ss) = and_from (substation_of_nodes (substation_draft s)) (list_all substation_of_nodes (map substation_draft ss)) (
    and_from (list_all is_of_nodes (map (λ l. drafts.Nodes (level_draft l)) s.levels)) (list_all transformer_at_nodes (flat_map (λ b. transformer_draft_of b.id b.shape) s.transformers)) (levels_of_nodes s.levels) (transformers_at_nodes s.transformers))
    (substations_of_nodes ss)

drafts_of_nodes : (net : Network) → network_of_nodes (network_draft net) ≡ true
drafts_of_nodes net = and_from (list_all substation_of_nodes (map substation_draft net.substations)) (list_all line_at_nodes (flat_map (λ b. line_draft_of b.id b.shape) net.lines)) (substations_of_nodes net.substations) (lines_at_nodes net.lines)

-- ---- the network

-- where a network's own edits load it, its draft is loaded as it
draft_is_loaded : (net : Network) → IsSound net → loading.loaded net ≡ Ok net → network_load (network_draft net) ≡ Ok net
unfolding loading.loaded loading.loading_edits network_edits parts_edits
draft_is_loaded net sound made =
    let substations = flat_map loading.substation_edits net.substations in
    let lines = map branch_edit net.lines in
    let k = parted (empty_of net.id) substations lines net made in
    nodes_load (network_draft net) (drafts_of_nodes net)
    ∙ rw (
      substations_loaded net.id net.substations 0 (empty_of net.id) k.mid sound.transformers k.first,
      drawn_loaded line_edit net.id (network_draft net).lines lines 0 k.mid net (lines_drawn net.id net.lines sound.lines) k.second,
    ) refl

pub networks_are_loaded : NetworksAreLoaded
networks_are_loaded net sound = draft_is_loaded net sound (on_structure.networks_are_loaded net sound)
