-- A network of nodes alone is loaded by one edit for each part.
use Rattle.std.proofs.Common.{◌≡◌, refl, ap, ◌∙◌, ℕ, suc, Bool, true, false, ◌&&◌, List, [], ◌∷◌, Result, Ok, Err, Option, Some, None}
use Rattle.std.specs.Prelude.{codes, decimal}
use Rattle.std.specs.List.{list_all}
use Rattle.std.proofs.lemmas.Bool.{and_parts}
use Rattle.grid_structure.specs.declared.Branch.{Branch}
use Rattle.grid_structure.specs.declared.Edit.TheVariants as edits
use Rattle.grid_structure.specs.declared.End.{End}
use Rattle.grid_structure.specs.Network.{Network, empty_of}
use Rattle.grid_structure.specs.Sites.{find_level}
use Rattle.grid_json.specs.declared.fault.Fault.{Fault}
use Rattle.grid_json.specs.declared.buses.EndDraft.{EndDraft}
use Rattle.grid_json.specs.declared.buses.EndDraft.TheVariants as ends
use Rattle.grid_json.specs.declared.ends.Two.{Two}
use Rattle.grid_json.specs.declared.ends.Three.{Three}
use Rattle.grid_json.specs.declared.network.AnyLevelDraft.{AnyLevelDraft}
use Rattle.grid_json.specs.declared.network.AnyLevelDraft.TheVariants as levels
use Rattle.grid_json.specs.declared.network.TransformerDraft.{TransformerDraft}
use Rattle.grid_json.specs.declared.network.Windings.{Windings}
use Rattle.grid_json.specs.declared.network.Windings.TheVariants as shapes
use Rattle.grid_json.specs.declared.network.LineDraft.{LineDraft}
use Rattle.grid_json.specs.declared.network.SubstationDraft.{SubstationDraft}
use Rattle.grid_json.specs.declared.network.NetworkDraft.{NetworkDraft}
use Rattle.grid_json.specs.Reading.{◌>>=◌, under}
use Rattle.grid_json.specs.Command.{line_of, two_windings_of, three_windings_of}
use Rattle.grid_json.specs.Loading.{Loaded, load_items, load_member, edited, level_load, any_level_load, end_check, end_fits_in, two_check, three_check, two_placed, three_placed, placed_end, end_breaker, two_breakers, three_breakers, two_load, three_load, transformer_load, line_load, substation_load, parts_load, network_load}
use Rattle.grid_json.specs.OlderFormats.{NodesLoadByEdits, is_of_nodes, at_nodes, two_at_nodes, windings_at_nodes, transformer_at_nodes, line_at_nodes, substation_of_nodes, network_of_nodes, two_ends, three_ends, shape_of, transformer_edit, line_edit, level_edits, substation_edits, parts_edits, network_edits}

-- nothing but levels of nodes is loaded
abbrev plain : Network → Loaded
plain net = record { network = net; bus_levels = λ q. false }

abbrev lifted : Result Network Fault → Result Loaded Fault
lifted (Ok net) = Ok (plain net)
lifted (Err fault) = Err fault

-- ---- results

under_lifted : (name : List ℕ) (r : Result Network Fault) → under name (lifted r) ≡ lifted (under name r)
under_lifted name (Ok net) = refl
under_lifted name (Err fault) = refl

then_lifted : (r : Result Network Fault) (f : Loaded → Result Loaded Fault) (g : Network → Result Network Fault) → ((net : Network) → f (plain net) ≡ lifted (g net)) → (lifted r >>= f) ≡ lifted (r >>= g)
then_lifted (Ok net) f g same = same net
then_lifted (Err fault) f g same = refl

-- ---- parts one after the other

module _ {A : Type 0} (t : A → Bool) (f : A → List ℕ → Loaded → Result Loaded Fault) (g : A → List ℕ → Network → Result Network Fault) (same : (x : A) (owner : List ℕ) (net : Network) → t x ≡ true → f x owner (plain net) ≡ lifted (g x owner net)) where
  items_same : (i : ℕ) (xs : List A) (owner : List ℕ) (net : Network) → list_all t xs ≡ true → load_items f i xs owner (plain net) ≡ lifted (load_items g i xs owner net)
  unfolding load_items
  items_same i [] owner net all = refl
  items_same i (x ∷ xs) owner net all =
      let parts = and_parts (t x) (list_all t xs) all in
      ap (λ z. under (decimal i) z >>= load_items f (suc i) xs owner) (same x owner net parts.0)
      ∙ ap (λ z. z >>= load_items f (suc i) xs owner) (under_lifted (decimal i) (g x owner net))
      ∙ then_lifted (under (decimal i) (g x owner net)) (load_items f (suc i) xs owner) (load_items g (suc i) xs owner) (λ now. items_same (suc i) xs owner now parts.1)

  member_same : (name : List ℕ) (xs : List A) (owner : List ℕ) (net : Network) → list_all t xs ≡ true → load_member f name xs owner (plain net) ≡ lifted (load_member g name xs owner net)
  member_same name xs owner net all = ap (under name) (items_same 0 xs owner net all) ∙ under_lifted name (load_items g 0 xs owner net)

-- ---- branches at nodes

fits : (net : Network) (e : End) → end_check (plain net) (ends.Node e) ≡ Ok tt
unfolding end_check
fits net e = by (find_level net e.level)
  where
    by : (o : Option ℕ) → end_fits_in o (plain net) (ends.Node e) ≡ Ok tt
    by None = refl
    by (Some k) = refl

added : (r : Result Network Fault) → (r >>= λ net. Ok (plain net)) ≡ lifted r
added (Ok net) = refl
added (Err fault) = refl

two_same : (shape : Two End → Branch) (id : List ℕ) (two : Two EndDraft) (net : Network) → two_at_nodes two ≡ true → two_load shape id two (plain net) ≡ lifted (edited (edits.AddBranch id (shape (two_ends two))) net)
unfolding two_load two_check two_placed placed_end two_breakers end_breaker
two_same shape id two net nodes = by two.first two.second nodes
  where
    by : (a b : EndDraft) → at_nodes a && at_nodes b ≡ true → two_load shape id (record { first = a; second = b }) (plain net) ≡ lifted (edited (edits.AddBranch id (shape (two_ends (record { first = a; second = b })))) net)
    by (ends.Node a) (ends.Node b) h = rw (fits net a, fits net b) (added (edited (edits.AddBranch id (shape (record { first = a; second = b }))) net))
    by (ends.Node a) (ends.Bus b) h = cc
    by (ends.Bus a) b h = cc

three_same : (shape : Three End → Branch) (id : List ℕ) (three : Three EndDraft) (net : Network) → at_nodes three.first && (at_nodes three.second && at_nodes three.third) ≡ true
    → three_load shape id three (plain net) ≡ lifted (edited (edits.AddBranch id (shape (three_ends three))) net)
unfolding three_load three_check three_placed placed_end three_breakers end_breaker
three_same shape id three net nodes = by three.first three.second three.third nodes
  where
    by : (a b c : EndDraft) → at_nodes a && (at_nodes b && at_nodes c) ≡ true
        → three_load shape id (record { first = a; second = b; third = c }) (plain net) ≡ lifted (edited (edits.AddBranch id (shape (three_ends (record { first = a; second = b; third = c })))) net)
    by (ends.Node a) (ends.Node b) (ends.Node c) h = rw (fits net a, fits net b, fits net c) (added (edited (edits.AddBranch id (shape (record { first = a; second = b; third = c }))) net))
    by (ends.Node a) (ends.Node b) (ends.Bus c) h = cc
    by (ends.Node a) (ends.Bus b) c h = cc
    by (ends.Bus a) b c h = cc

transformer_same : (x : TransformerDraft) (owner : List ℕ) (net : Network) → transformer_at_nodes x ≡ true → transformer_load x owner (plain net) ≡ lifted (transformer_edit x owner net)
unfolding transformer_load transformer_edit
transformer_same x owner net nodes = by x.windings nodes
  where
    by : (w : Windings) → windings_at_nodes w ≡ true → transformer_load (record { id = x.id; windings = w }) owner (plain net) ≡ lifted (edited (edits.AddBranch x.id (shape_of owner w)) net)
    by (shapes.Two two rated) h = two_same (λ (z : Two End). two_windings_of owner z rated) x.id two net h
    by (shapes.Three three rated) h = three_same (λ (z : Three End). three_windings_of owner z rated) x.id three net h

line_same : (x : LineDraft) (owner : List ℕ) (net : Network) → line_at_nodes x ≡ true → line_load x owner (plain net) ≡ lifted (line_edit x owner net)
unfolding line_load line_edit
line_same x owner net nodes = two_same line_of x.id x.ends net nodes

-- ---- levels, substations, networks

level_same : (x : AnyLevelDraft) (owner : List ℕ) (net : Network) → is_of_nodes x ≡ true → any_level_load x owner (plain net) ≡ lifted (level_edits x owner net)
unfolding any_level_load level_edits
level_same (levels.Nodes l) owner net nodes = by (level_load l owner net) refl
  where
    by : (r : Result Network Fault) → level_load l owner net ≡ r → any_level_load (levels.Nodes l) owner (plain net) ≡ lifted (level_edits (levels.Nodes l) owner net)
    by (Ok new) is = rw is refl
    by (Err fault) is = rw is refl
level_same (levels.Buses l) owner net nodes = cc

substation_same : (x : SubstationDraft) (owner : List ℕ) (net : Network) → substation_of_nodes x ≡ true → substation_load x owner (plain net) ≡ lifted (substation_edits x owner net)
unfolding substation_load substation_edits
substation_same x owner net nodes =
    let parts = and_parts (list_all is_of_nodes x.levels) (list_all transformer_at_nodes x.transformers) nodes in
    let rest : (now : Network) → (load_member any_level_load (codes "levels") x.levels x.id (plain now) >>= load_member transformer_load (codes "transformers") x.transformers x.id)
    ≡ lifted (load_member level_edits (codes "levels") x.levels x.id now >>= load_member transformer_edit (codes "transformers") x.transformers x.id) =
    λ now.
    ap (λ z. z >>= load_member transformer_load (codes "transformers") x.transformers x.id) (member_same is_of_nodes any_level_load level_edits level_same (codes "levels") x.levels x.id now parts.0)
    ∙ then_lifted (load_member level_edits (codes "levels") x.levels x.id now) (load_member transformer_load (codes "transformers") x.transformers x.id) (load_member transformer_edit (codes "transformers") x.transformers x.id)
    (λ then. member_same transformer_at_nodes transformer_load transformer_edit transformer_same (codes "transformers") x.transformers x.id then parts.1) in
    by (edited (edits.AddSubstation x.id) net) refl rest
  where
    by : (r : Result Network Fault) → edited (edits.AddSubstation x.id) net ≡ r
        → ((now : Network) → (load_member any_level_load (codes "levels") x.levels x.id (plain now) >>= load_member transformer_load (codes "transformers") x.transformers x.id)
        ≡ lifted (load_member level_edits (codes "levels") x.levels x.id now >>= load_member transformer_edit (codes "transformers") x.transformers x.id))
        → substation_load x owner (plain net) ≡ lifted (substation_edits x owner net)
    by (Ok now) is rest = rw is (rest now)
    by (Err fault) is rest = rw is refl

parts_same : (n : NetworkDraft) (net : Network) → network_of_nodes n ≡ true → parts_load n (plain net) ≡ lifted (parts_edits n net)
unfolding parts_load parts_edits
parts_same n net nodes =
    let parts = and_parts (list_all substation_of_nodes n.substations) (list_all line_at_nodes n.lines) nodes in
    ap (λ z. z >>= load_member line_load (codes "lines") n.lines n.id) (member_same substation_of_nodes substation_load substation_edits substation_same (codes "substations") n.substations n.id net parts.0)
    ∙ then_lifted (load_member substation_edits (codes "substations") n.substations n.id net) (load_member line_load (codes "lines") n.lines n.id) (load_member line_edit (codes "lines") n.lines n.id)
    (λ now. member_same line_at_nodes line_load line_edit line_same (codes "lines") n.lines n.id now parts.1)

seen : (r : Result Network Fault) → (lifted r >>= λ all. Ok all.network) ≡ r
seen (Ok net) = refl
seen (Err fault) = refl

pub nodes_load : NodesLoadByEdits
unfolding network_load network_edits
nodes_load n nodes =
    ap (λ z. under (codes "network") z >>= λ all. Ok all.network) (parts_same n (empty_of n.id) nodes)
    ∙ ap (λ z. z >>= λ all. Ok all.network) (under_lifted (codes "network") (parts_edits n (empty_of n.id)))
    ∙ seen (under (codes "network") (parts_edits n (empty_of n.id)))
