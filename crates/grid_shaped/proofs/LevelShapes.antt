-- The levels with configured buses of a loaded network are those that its draft means.
use Rattle.std.proofs.Common.{◌≡◌, refl, sym, ap, ◌∙◌, subst, ℕ, suc, Bool, true, false, ◌||◌, List, [], ◌∷◌, ◌++◌, Some, None, Result, Ok, Err, append_assoc}
use Rattle.std.specs.Prelude.{flat_map, codes, All}
use Rattle.std.proofs.lemmas.Bool.{or_left, or_right}
use Rattle.std.proofs.lemmas.List.{append-nil}
use Rattle.std.proofs.lemmas.List.Elements.{All-cons, All-nil, All-weaker}
use Rattle.grid_ids.specs.Name.{same_id}
use Rattle.grid_ids.proofs.Alike.{same_itself}
use Rattle.grid_level.specs.VoltageLevel.{VoltageLevel}
use Rattle.grid_structure.specs.declared.Edit.TheVariants as edits
use Rattle.grid_structure.specs.Network.{Network}
use Rattle.grid_structure.specs.Sites.{branch_ends, home_of}
use Rattle.grid_structure.specs.Editing.{apply}
use Rattle.grid_placed.specs.Places.{Outlet}
use Rattle.grid_json.specs.declared.buses.BusLevelDraft.{BusLevelDraft}
use Rattle.grid_json.specs.declared.ends.Two.{Two}
use Rattle.grid_json.specs.declared.ends.Three.{Three}
use Rattle.grid_structure.specs.declared.End.{End}
use Rattle.grid_json.specs.declared.fault.Fault.{Fault}
use Rattle.grid_json.specs.declared.network.AnyLevelDraft.{AnyLevelDraft}
use Rattle.grid_json.specs.declared.network.AnyLevelDraft.TheVariants as levels
use Rattle.grid_json.specs.declared.network.LineDraft.{LineDraft}
use Rattle.grid_json.specs.declared.network.NetworkDraft.{NetworkDraft}
use Rattle.grid_json.specs.declared.network.SubstationDraft.{SubstationDraft}
use Rattle.grid_json.specs.declared.network.TransformerDraft.{TransformerDraft}
use Rattle.grid_json.specs.declared.network.Windings.{Windings}
use Rattle.grid_json.specs.declared.network.Windings.TheVariants as shapes
use Rattle.grid_json.specs.Reading.{under}
use Rattle.grid_json.specs.Command.{line_of, three_windings_of, two_windings_of}
use Rattle.grid_json.specs.Loading.{Loaded, any_level_load, bus_level_load, edited, level_load, line_load, load_items, load_member, network_load, nothing_of, parts_load, substation_load, transformer_load, windings_load, with_bus_level, with_network}
use Rattle.grid_json.proofs.BusLoops.{accepted}
use Rattle.grid_json.proofs.Results.{bound, inside}
use Rattle.grid_shaped.specs.Drafts.{branch_outlets, line_outlets, outlets_of, placed_level, transformer_outlets, windings_ends}
use Rattle.grid_shaped.specs.Laws.{AtEach, AtLevel, IsShaped, LoadIsShaped}
use Rattle.grid_shaped.proofs.LevelChanges.{Stays}
use Rattle.grid_shaped.proofs.Additions.{home_named, substation_new, substation_stays}
use Rattle.grid_shaped.proofs.Items.{items_add, items_keep, taken}
use Rattle.grid_shaped.proofs.Parts.{part, part_is}
use Rattle.grid_shaped.proofs.Levels.{bus_level_loaded, injections_of, level_stays}
use Rattle.grid_shaped.proofs.Branches.{Branched, Standing, joints_of, networks, stays_part, three_more, two_more}

-- ---- each level of a draft

level_mapped : (P Q : SubstationDraft → BusLevelDraft → Type 0) (x : SubstationDraft) → ((l : BusLevelDraft) → P x l → Q x l) → (a : AnyLevelDraft) → AtLevel P x a → AtLevel Q x a
level_mapped P Q x f (levels.Nodes l) h = tt
level_mapped P Q x f (levels.Buses l) h = f l h

abbrev AtLevels : (SubstationDraft → BusLevelDraft → Type 0) → SubstationDraft → Type 0
AtLevels P x = All (AtLevel P x) x.levels

levels_mapped : (P Q : SubstationDraft → BusLevelDraft → Type 0) (x : SubstationDraft) → ((l : BusLevelDraft) → P x l → Q x l) → AtLevels P x → AtLevels Q x
levels_mapped P Q x f h = All-weaker (AtLevel P x) (AtLevel Q x) (level_mapped P Q x f) x.levels h

pub each_mapped : (draft : NetworkDraft) (P Q : SubstationDraft → BusLevelDraft → Type 0) → ((x : SubstationDraft) (l : BusLevelDraft) → P x l → Q x l) → AtEach draft P → AtEach draft Q
each_mapped draft P Q f h = All-weaker (AtLevels P) (AtLevels Q) (λ x. levels_mapped P Q x (f x)) draft.substations h

-- ---- levels

stands_on : (s t : Loaded) (home : List ℕ) (l : BusLevelDraft) (ts : List Outlet) → Standing s home l ts → t.bus_levels l.id ≡ true → Stays l.id s.network t.network → Standing t home l ts
stands_on s t home l ts st marked stays = record { marked = marked; whole = stays_part l home (joints_of l) ts ts s.network t.network st.whole stays; fits = st.fits }

marked_networks : (id : List ℕ) (s t : Loaded) (r : Result Network Fault) → with_bus_level id s r ≡ Ok t → (r ≡ Ok t.network) × (t.bus_levels ≡ (λ q. s.bus_levels q || same_id q id))
marked_networks id s t (Ok net) h =
    let same : ◌≡◌ {A = Loaded} (record { network = net; bus_levels = λ q. s.bus_levels q || same_id q id }) t = cc in
    (ap (λ (z : Loaded). Ok z.network) same, ap (λ (z : Loaded). z.bus_levels) (sym same))
marked_networks id s t (Err fault) h = cc

module _ (home : List ℕ) (l : BusLevelDraft) (ts : List Outlet) where
  level_keeps : (owner : List ℕ) (a : AnyLevelDraft) (s t : Loaded) → Standing s home l ts → any_level_load a owner s ≡ Ok t → Standing t home l ts
  unfolding any_level_load
  level_keeps owner (levels.Nodes a) s t st h =
      let done = networks s t (level_load a owner s.network) h in
      stands_on s t home l ts st (ap (λ (z : List ℕ → Bool). z l.id) done.1 ∙ st.marked)
      (level_stays a owner s.network t.network l.id (part l (joints_of l) ts ts) st.whole.named done.0)
  level_keeps owner (levels.Buses a) s t st h =
      let done = marked_networks a.id s t (bus_level_load a owner s.network) h in
      let loaded = bus_level_loaded a owner s.network t.network done.0 in
      stands_on s t home l ts st (ap (λ (z : List ℕ → Bool). z l.id) done.1 ∙ or_left (s.bus_levels l.id) (same_id l.id a.id) st.marked)
      (loaded.others l.id (part l (joints_of l) ts ts) st.whole.named)

  levels_keep : (owner : List ℕ) (i : ℕ) (xs : List AnyLevelDraft) (s t : Loaded) → Standing s home l ts → load_items any_level_load i xs owner s ≡ Ok t → Standing t home l ts
  levels_keep owner i xs s t st h = items_keep any_level_load owner (λ (z : Loaded). Standing z home l ts) (level_keeps owner) i xs s t st h

  -- ---- branches

  transformer_adds : (owner : List ℕ) (x : TransformerDraft) (s t : Loaded) → Standing s home l ts → transformer_load x owner s ≡ Ok t → Branched t home l ts (transformer_outlets l x) (Some owner)
  unfolding transformer_load branch_ends home_of
  transformer_adds owner x s t st h = by x.windings h
    where
      by : (w : Windings) → windings_load w x.id owner s ≡ Ok t → Branched t home l ts (branch_outlets l x.id (windings_ends w)) (Some owner)
      by (shapes.Two two rated) h = two_more home l ts (Some owner) x.id s t st (λ (z : Two End). two_windings_of owner z rated) (λ z. refl) (λ z. refl) two h
      by (shapes.Three three rated) h = three_more home l ts (Some owner) x.id s t st (λ (z : Three End). three_windings_of owner z rated) (λ z. refl) (λ z. refl) three h

  -- a transformer of another substation has no end in the level
  transformer_keeps : (owner : List ℕ) → same_id owner home ≡ false → (x : TransformerDraft) (s t : Loaded) → Standing s home l ts → transformer_load x owner s ≡ Ok t → Standing t home l ts
  transformer_keeps owner other x s t st h =
      let b = transformer_adds owner x s t st h in
      let none : transformer_outlets l x ≡ [] = b.foreign owner refl other in
      subst (λ z. Standing t home l z) (ap (λ z. ts ++ z) none ∙ append-nil ts) b.standing

  line_adds : (owner : List ℕ) (x : LineDraft) (s t : Loaded) → Standing s home l ts → line_load x owner s ≡ Ok t → Standing t home l (ts ++ line_outlets l x)
  unfolding line_load branch_ends home_of
  line_adds owner x s t st h = (two_more home l ts None x.id s t st line_of (λ z. refl) (λ z. refl) x.ends h).standing

-- ---- the levels of a substation

level_new : (owner : List ℕ) (l : BusLevelDraft) (s t : Loaded) → any_level_load (levels.Buses l) owner s ≡ Ok t → Standing t owner l (injections_of l)
unfolding any_level_load
level_new owner l s t h =
    let done = marked_networks l.id s t (bus_level_load l owner s.network) h in
    let grown = (bus_level_loaded l owner s.network t.network done.0).grown in
    record { marked = ap (λ (z : List ℕ → Bool). z l.id) done.1 ∙ or_right (s.bus_levels l.id) (same_id l.id l.id) (same_itself l.id); whole = grown.whole; fits = grown.fits }

abbrev Own : Loaded → SubstationDraft → BusLevelDraft → Type 0
Own t x l = Standing t x.id l (injections_of l)

levels_stand : (x : SubstationDraft) (i : ℕ) (xs : List AnyLevelDraft) (s t : Loaded) → load_items any_level_load i xs x.id s ≡ Ok t → All (AtLevel (Own t) x) xs
levels_stand x i [] s t h = All-nil (AtLevel (Own t) x)
levels_stand x i (a ∷ xs) s t h =
    let k = taken any_level_load x.id i a xs s t h in
    All-cons (AtLevel (Own t) x) a xs (here a k.mid k.one k.more) (levels_stand x (suc i) xs k.mid t k.more)
  where
    here : (a : AnyLevelDraft) (mid : Loaded) → any_level_load a x.id s ≡ Ok mid → load_items any_level_load (suc i) xs x.id mid ≡ Ok t → AtLevel (Own t) x a
    here (levels.Nodes l) mid one more = tt
    here (levels.Buses l) mid one more = levels_keep x.id l (injections_of l) x.id (suc i) xs mid t (level_new x.id l s mid one) more

abbrev own_outlets : SubstationDraft → BusLevelDraft → List Outlet
own_outlets x l = injections_of l ++ flat_map (transformer_outlets l) x.transformers

abbrev Grown : Loaded → SubstationDraft → BusLevelDraft → Type 0
Grown t x l = Standing t x.id l (own_outlets x l)

record Entered (x : SubstationDraft) (before t : Loaded) : Type 0 where
  made : Loaded
  there : Loaded
  added : edited (edits.AddSubstation x.id) before.network ≡ Ok made.network
  same : made.bus_levels ≡ before.bus_levels
  levels_loaded : load_items any_level_load 0 x.levels x.id made ≡ Ok there
  transformers_loaded : load_items transformer_load 0 x.transformers x.id there ≡ Ok t

entered : (x : SubstationDraft) (owner : List ℕ) (before t : Loaded) → substation_load x owner before ≡ Ok t → Entered x before t
unfolding substation_load
entered x owner before t h =
    let a = bound (with_network before (edited (edits.AddSubstation x.id) before.network)) _ t h in
    let b = bound (load_member any_level_load (codes "levels") x.levels x.id a.0) _ t a.2 in
    let net = networks before a.0 (edited (edits.AddSubstation x.id) before.network) a.1 in
    record {
      made = a.0;
      there = b.0;
      added = net.0;
      same = net.1;
      levels_loaded = inside (codes "levels") (load_items any_level_load 0 x.levels x.id a.0) b.0 b.1;
      transformers_loaded = inside (codes "transformers") (load_items transformer_load 0 x.transformers x.id b.0) t b.2;
    }

substation_stands : (owner : List ℕ) (x : SubstationDraft) (before t : Loaded) → substation_load x owner before ≡ Ok t → AtLevels (Grown t) x
substation_stands owner x before t h =
    let k = entered x owner before t h in
    levels_mapped (Own k.there) (Grown t) x
    (λ l st. items_add transformer_load x.id (λ ts z. Standing z x.id l ts) (transformer_outlets l) (λ y ts s u p q. (transformer_adds x.id l ts x.id y s u p q).standing) 0 x.transformers (injections_of l) k.there t st k.transformers_loaded)
    (levels_stand x 0 x.levels k.made k.there k.levels_loaded)

-- a level of an earlier substation stays
substation_keeps : (home : List ℕ) (l : BusLevelDraft) (ts : List Outlet) (owner : List ℕ) (x : SubstationDraft) (before t : Loaded) → Standing before home l ts → substation_load x owner before ≡ Ok t → Standing t home l ts
substation_keeps home l ts owner x before t st h =
    let k = entered x owner before t h in
    let added = accepted (apply before.network (edits.AddSubstation x.id)) k.made.network k.added in
    let other : same_id x.id home ≡ false = substation_new before.network k.made.network x.id added home (home_named before.network home l.id st.whole.at_home) in
    let first = stands_on before k.made home l ts st (ap (λ (z : List ℕ → Bool). z l.id) k.same ∙ st.marked) (substation_stays before.network k.made.network x.id added l.id) in
    let second = levels_keep home l ts x.id 0 x.levels k.made k.there first k.levels_loaded in
    items_keep transformer_load x.id (λ (z : Loaded). Standing z home l ts) (transformer_keeps home l ts x.id other) 0 x.transformers k.there t second k.transformers_loaded

substations_stand : (owner : List ℕ) (i : ℕ) (xs : List SubstationDraft) (s t : Loaded) → load_items substation_load i xs owner s ≡ Ok t → All (AtLevels (Grown t)) xs
substations_stand owner i [] s t h = All-nil (AtLevels (Grown t))
substations_stand owner i (x ∷ xs) s t h =
    let k = taken substation_load owner i x xs s t h in
    All-cons (AtLevels (Grown t)) x xs
    (levels_mapped (Grown k.mid) (Grown t) x (λ l st. items_keep substation_load owner (λ (z : Loaded). Standing z x.id l (own_outlets x l)) (λ y u v p q. substation_keeps x.id l (own_outlets x l) owner y u v p q) (suc i) xs k.mid t st k.more)
    (substation_stands owner x s k.mid k.one))
    (substations_stand owner (suc i) xs k.mid t k.more)

-- ---- the network

abbrev Whole : NetworkDraft → Loaded → SubstationDraft → BusLevelDraft → Type 0
Whole draft t x l = Standing t x.id l (own_outlets x l ++ flat_map (line_outlets l) draft.lines)

parts_stand : (draft : NetworkDraft) (s t : Loaded) → parts_load draft s ≡ Ok t → AtEach draft (Whole draft t)
unfolding parts_load
parts_stand draft s t h =
    let a = bound (load_member substation_load (codes "substations") draft.substations draft.id s) _ t h in
    let subs = inside (codes "substations") (load_items substation_load 0 draft.substations draft.id s) a.0 a.1 in
    let lines = inside (codes "lines") (load_items line_load 0 draft.lines draft.id a.0) t a.2 in
    each_mapped draft (Grown a.0) (Whole draft t)
    (λ x l st. items_add line_load draft.id (λ ts z. Standing z x.id l ts) (line_outlets l) (λ y ts u v p q. line_adds x.id l ts draft.id y u v p q) 0 draft.lines (own_outlets x l) a.0 t st lines)
    (substations_stand draft.id 0 draft.substations s a.0 subs)

shape_of : (draft : NetworkDraft) (t : Loaded) (x : SubstationDraft) (l : BusLevelDraft) → Whole draft t x l → IsShaped draft t.network x l
unfolding placed_level outlets_of
shape_of draft t x l st =
    let line_up : own_outlets x l ++ flat_map (line_outlets l) draft.lines ≡ outlets_of draft x l =
    append_assoc (injections_of l) (flat_map (transformer_outlets l) x.transformers) (flat_map (line_outlets l) draft.lines) in
    let all : Standing t x.id l (outlets_of draft x l) = subst (λ z. Standing t x.id l z) line_up st in
    record {
      stands = all.whole.named ∙ ap (λ (z : VoltageLevel). Some z) (sym (part_is l (joints_of l) (outlets_of draft x l)));
      fits = all.fits;
    }

pub load_shaped : LoadIsShaped
unfolding network_load
load_shaped draft net h =
    let a = bound (under (codes "network") (parts_load draft (nothing_of draft.id))) _ net h in
    let is : a.0.network ≡ net = cc (a.2) in
    let whole = parts_stand draft (nothing_of draft.id) a.0 (inside (codes "network") (parts_load draft (nothing_of draft.id)) a.0 a.1) in
    let shaped : AtEach draft (IsShaped draft a.0.network) = each_mapped draft (Whole draft a.0) (IsShaped draft a.0.network) (shape_of draft a.0) whole in
    subst (λ (z : Network). AtEach draft (IsShaped draft z)) is shaped
