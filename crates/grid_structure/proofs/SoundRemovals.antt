-- Edits that take things away leave a network sound.
use Rattle.std.proofs.Common.{◌≡◌, refl, sym, ap, ◌∙◌, subst, ℕ, pos, ◌+◌, ◌≤◌, Bool, true, false, cond, not, ◌&&◌, ◌||◌, List, [], ◌∷◌, ◌++◌, length, arith, inl, inr}
use Rattle.std.specs.Prelude.{map, flat_map, filter, Ok}
use Rattle.std.specs.List.{list_all}
use Rattle.std.proofs.lemmas.Bool.{and_parts, and_from, not_from_false, or_cases, false≢true}
use Rattle.std.proofs.lemmas.List.Elements.{filter-append}
use Rattle.grid_lemmas.proofs.Bools.{and_false, and_true}
use Rattle.grid_lemmas.proofs.Lists.{length_filter}
use Rattle.grid_ids.specs.Name.{same_id, has_id}
use Rattle.grid_ids.specs.Refusing.{refuse_if}
use Rattle.grid_level.specs.declared.Placed.{Placed}
use Rattle.grid_level.specs.declared.Switch.{Switch}
use Rattle.grid_level.specs.VoltageLevel.{VoltageLevel}
use Rattle.grid_level.specs.Passing.{is_branch_end}
use Rattle.grid_level.specs.LevelEdits.{level_without_equipment}
use Rattle.grid_level.specs.Sound.{level_passes}
use Rattle.grid_level.proofs.LevelEdits as on_level
use Rattle.grid_structure.specs.Network.{Network, Substation}
use Rattle.grid_structure.specs.Sites.{levels, branches, switches, level_ids, switch_ids, branch_ids, equipment_ids, branch_ends, home_of}
use Rattle.grid_structure.specs.Editing.{apply, with_levels, level_without_switch, substation_without, without_branch}
use Rattle.grid_structure.specs.declared.NamedBranch.{NamedBranch}
use Rattle.grid_structure.specs.declared.End.{End}
use Rattle.grid_structure.specs.declared.EditFault.TheVariants as faults
use Rattle.grid_structure.specs.declared.Edit.TheVariants as edits
use Rattle.grid_structure.specs.Soundness.{IsSound, record_sides, placed_sides, all_among, same_side, sides_from, transformer_passes, line_passes, stands_in}
use Rattle.grid_structure.proofs.Counts.{times}
use Rattle.grid_structure.proofs.Levels.{levels-with_levels}
use Rattle.grid_structure.proofs.Frames.{Base, changed_base, local, locals, ids_counted, sub_ids, switch_total, switches_counted, frame, frame-with_levels, same_sub_ids, same_level_ids, same_branch_ids, same_branches}
use Rattle.grid_structure.proofs.Sides.{Side, has, has-append, among_has, has_among, placed_itself, sides_at, sides_of, sides_in, same_side_is}
use Rattle.grid_structure.proofs.OneLevel.{base_of, sound_of, records_same, sides_stay, names_of}

-- ---- a change of every level

all_mapped : (change : VoltageLevel → VoltageLevel) → ((l : VoltageLevel) → level_passes l ≡ true → level_passes (change l) ≡ true) → (ls : List VoltageLevel) → list_all level_passes ls ≡ true → list_all level_passes (map change ls) ≡ true
all_mapped change step [] h = refl
all_mapped change step (l ∷ ls) h = let parts = and_parts (level_passes l) (list_all level_passes ls) h in and_from _ _ (step l parts.0) (all_mapped change step ls parts.1)

fewer_locals : (change : VoltageLevel → VoltageLevel) → ((q : List ℕ) (l : VoltageLevel) → local q (change l) ≤ local q l) → (q : List ℕ) (ls : List VoltageLevel) → locals q (map change ls) ≤ locals q ls
fewer_locals change step q [] = omega arith
fewer_locals change step q (l ∷ ls) = omega (arith, step q l, fewer_locals change step q ls)

fewer_total : (change : VoltageLevel → VoltageLevel) → ((l : VoltageLevel) → length (change l).switches ≤ length l.switches) → (ls : List VoltageLevel) → switch_total (map change ls) ≤ switch_total ls
fewer_total change step [] = omega arith
fewer_total change step (l ∷ ls) = omega (arith, step l, fewer_total change step ls)

pub lessened : (change : VoltageLevel → VoltageLevel) → ((l : VoltageLevel) → (change l).id ≡ l.id) → ((l : VoltageLevel) → level_passes l ≡ true → level_passes (change l) ≡ true)
    → ((q : List ℕ) (l : VoltageLevel) → local q (change l) ≤ local q l) → ((l : VoltageLevel) → length (change l).switches ≤ length l.switches) → (net : Network) → Base net → Base (with_levels change net)
unfolding with_levels
lessened change keeps passes ids few net k =
    let after = with_levels change net in
    let lists : levels after ≡ map change (levels net) = levels-with_levels change net in
    let framed : frame after ≡ frame net = frame-with_levels change keeps net in
    changed_base change keeps net k
    (λ q. let a : locals q (levels after) ≡ locals q (map change (levels net)) = ap (locals q) lists in
    let d : times q (sub_ids after) ≡ times q (sub_ids net) = ap (times q) (same_sub_ids after net framed) in
    let e : times q (level_ids after) ≡ times q (level_ids net) = ap (times q) (same_level_ids after net framed) in
    let f : times q (branch_ids after) ≡ times q (branch_ids net) = ap (times q) (same_branch_ids after net framed refl) in
    omega (arith, a, d, e, f, fewer_locals change ids q (levels net), k.ids q, ids_counted q after, ids_counted q net))
    (all_mapped change passes (levels net) k.each_level)
    (omega (arith, fewer_total change few (levels net), k.few_switches, switches_counted net))

-- ---- a switch less

times_filter : {X : Type 0} (f : X → List ℕ) (t : X → Bool) (q : List ℕ) (xs : List X) → times q (map f (filter t xs)) ≤ times q (map f xs)
times_filter f t q [] = omega arith
times_filter f t q (x ∷ xs) = by (t x) (times_filter f t q xs)
  where
    by : (b : Bool) → times q (map f (filter t xs)) ≤ times q (map f xs) → times q (map f (cond b (x ∷ filter t xs) (filter t xs))) ≤ cond (same_id q (f x)) 1 0 + times q (map f xs)
    by true l = omega (arith, l)
    by false l = omega (arith, l)

same_in_each : (change : VoltageLevel → VoltageLevel) → ((l : VoltageLevel) → sides_of (change l) ≡ sides_of l) → (ls : List VoltageLevel) → sides_in (map change ls) ≡ sides_in ls
same_in_each change step [] = refl
same_in_each change step (l ∷ ls) = rw (step l, same_in_each change step ls) refl

pub switch_less_sound : (net new : Network) (id : List ℕ) → apply net (edits.RemoveSwitch id) ≡ Ok new → IsSound net → IsSound new
unfolding apply placed_sides with_levels level_without_switch
switch_less_sound net new id h s =
    let t = on_level.went (refuse_if (not (has_id (switch_ids net) id)) faults.NoSuchId) _ new h in
    let change = λ (l : VoltageLevel). level_without_switch id l in
    let is : with_levels change net ≡ new = cc (t.next) in
    let k : Base (with_levels change net) = lessened change (λ l. refl)
    (λ l p. on_level.passes_from _ (on_level.fewer_switches_pass (λ (s : Switch). not (same_id id s.id)) l (on_level.passes_of l p)))
    (λ q l. omega (arith, times_filter (λ (s : Switch). s.id) (λ (s : Switch). not (same_id id s.id)) q l.switches))
    (λ l. length_filter (λ (s : Switch). not (same_id id s.id)) l.switches) net (base_of net s) in
    subst (λ (z : Network). IsSound z) is
    (sides_stay net (with_levels change net) s k (records_same (with_levels change net) net (frame-with_levels change (λ l. refl) net) refl)
    (λ x. ap (λ z. has (sides_in z) x) (levels-with_levels change net) ∙ ap (λ z. has z x) (same_in_each change (λ l. refl) (levels net))))

-- ---- an equipment less

pub names_filter : (q : List ℕ) (t : Placed → Bool) (ps : List Placed) → times q (names_of (filter t ps)) ≤ times q (names_of ps)
names_filter q t [] = omega arith
names_filter q t (p ∷ ps) = by (t p) (not (is_branch_end p.stand)) refl (names_filter q t ps)
  where
    name : Placed → List ℕ
    name p = p.terminal.equipment

    single : Placed → Bool
    single p = not (is_branch_end p.stand)

    by : (b d : Bool) → single p ≡ d → times q (map name (filter single (filter t ps))) ≤ times q (map name (filter single ps))
        → times q (map name (filter single (cond b (p ∷ filter t ps) (filter t ps)))) ≤ times q (map name (cond d (p ∷ filter single ps) (filter single ps)))
    by true true e l = rw e (omega (arith, l))
    by true false e l = rw e l
    by false true e l = omega (arith, l)
    by false false e l = l

or_and : (a b t : Bool) → (a || b) && t ≡ (a && t) || (b && t)
or_and true b true = refl
or_and true true false = refl
or_and true false false = refl
or_and false b t = refl

-- a side of another equipment is left where it was
apart_sides : (x y : Side) (id : List ℕ) (t : Bool) → same_id id y.0 ≡ t → same_side x y && not (same_id id x.0) ≡ same_side x y && not t
apart_sides x y id t e = by (same_side x y) refl
  where
    by : (b : Bool) → same_side x y ≡ b → b && not (same_id id x.0) ≡ b && not t
    by true h = let same : x ≡ y = same_side_is x y h in ap (λ z. not (same_id id z.0)) same ∙ ap not e
    by false h = refl

-- the placed sides of the other equipments
sides_without : (id level : List ℕ) (ps : List Placed) (x : Side)
    → has (sides_at level (filter (λ (p : Placed). not (same_id id p.terminal.equipment)) ps)) x ≡ (has (sides_at level ps) x && not (same_id id x.0))
sides_without id level [] x = refl
sides_without id level (p ∷ ps) x = by (same_id id p.terminal.equipment) (is_branch_end p.stand) refl refl (sides_without id level ps x)
  where
    side : Placed → Side
    side p = (p.terminal.equipment, p.terminal.side, level, pos p.node)

    ends : Placed → Bool
    ends p = is_branch_end p.stand

    other : Placed → Bool
    other p = not (same_id id p.terminal.equipment)

    by : (b d : Bool) → same_id id p.terminal.equipment ≡ b → ends p ≡ d → has (map side (filter ends (filter other ps))) x ≡ (has (map side (filter ends ps)) x && not (same_id id x.0))
        → has (map side (filter ends (cond (not b) (p ∷ filter other ps) (filter other ps)))) x ≡ (has (map side (cond d (p ∷ filter ends ps) (filter ends ps))) x && not (same_id id x.0))
    by true true b d again = again ∙ sym (or_and (same_side x (side p)) (has (map side (filter ends ps)) x) (not (same_id id x.0)) ∙ ap (λ z. z || (has (map side (filter ends ps)) x && not (same_id id x.0))) (apart_sides x (side p) id true b ∙ and_false (same_side x (side p))))
    by true false b d again = again
    by false true b d again = rw d (ap (λ z. same_side x (side p) || z) again ∙ sym (or_and (same_side x (side p)) (has (map side (filter ends ps)) x) (not (same_id id x.0)) ∙ ap (λ z. z || (has (map side (filter ends ps)) x && not (same_id id x.0))) (apart_sides x (side p) id false b ∙ and_true (same_side x (side p)))))
    by false false b d again = rw d again

placed_without : (id : List ℕ) (ls : List VoltageLevel) (x : Side) → has (sides_in (map (level_without_equipment id) ls)) x ≡ (has (sides_in ls) x && not (same_id id x.0))
unfolding level_without_equipment
placed_without id [] x = refl
placed_without id (l ∷ ls) x =
    has-append (sides_at l.id (filter (λ (p : Placed). not (same_id id p.terminal.equipment)) l.placed)) (sides_in (map (level_without_equipment id) ls)) x
    ∙ rw (sides_without id l.id l.placed x, placed_without id ls x) (sym (ap (λ z. z && not (same_id id x.0)) (has-append (sides_of l) (sides_in ls) x) ∙ or_and (has (sides_of l) x) (has (sides_in ls) x) (not (same_id id x.0))))

-- the sides of a branch have its id
pub own_id : (id : List ℕ) (k : ℕ) (ends : List End) (x : Side) → has (sides_from id k ends) x ≡ true → x.0 ≡ id
unfolding sides_from
own_id id k [] x h = absurd (false≢true h)
own_id id k (e ∷ ends) x h = elim (or_cases (same_side x (id, k, e.level, e.node)) (has (sides_from id (k + 1) ends) x) h) [
  | inl f ↦ (let same : x ≡ (id, k, e.level, e.node) = same_side_is x (id, k, e.level, e.node) f in ap (λ z. z.0) same)
  | inr f ↦ own_id id (k + 1) ends x f
]

abbrev pub sides_by : List NamedBranch → List Side
sides_by bs = flat_map (λ (b : NamedBranch). sides_from b.id 1 (branch_ends b.shape)) bs

others_kept : (id : List ℕ) (b : NamedBranch) (x : Side) (t : Bool) → same_id id b.id ≡ t → (has (sides_from b.id 1 (branch_ends b.shape)) x && not (same_id id x.0)) ≡ (has (sides_from b.id 1 (branch_ends b.shape)) x && not t)
others_kept id b x t e = by (has (sides_from b.id 1 (branch_ends b.shape)) x) refl
  where
    by : (d : Bool) → has (sides_from b.id 1 (branch_ends b.shape)) x ≡ d → (d && not (same_id id x.0)) ≡ (d && not t)
    by true h = let same : x.0 ≡ b.id = own_id b.id 1 (branch_ends b.shape) x h in ap (λ z. not (same_id id z)) same ∙ ap not e
    by false h = refl

records_without : (id : List ℕ) (bs : List NamedBranch) (x : Side) → has (sides_by (without_branch id bs)) x ≡ (has (sides_by bs) x && not (same_id id x.0))
unfolding without_branch
records_without id [] x = refl
records_without id (b ∷ bs) x = by (same_id id b.id) refl (records_without id bs x)
  where
    mine : List Side
    mine = sides_from b.id 1 (branch_ends b.shape)

    other : NamedBranch → Bool
    other b = not (same_id id b.id)

    whole : (has (mine ++ sides_by bs) x && not (same_id id x.0)) ≡ (has mine x && not (same_id id x.0)) || (has (sides_by bs) x && not (same_id id x.0))
    whole = ap (λ z. z && not (same_id id x.0)) (has-append mine (sides_by bs) x) ∙ or_and (has mine x) (has (sides_by bs) x) (not (same_id id x.0))

    by : (t : Bool) → same_id id b.id ≡ t → has (sides_by (filter other bs)) x ≡ (has (sides_by bs) x && not (same_id id x.0))
        → has (sides_by (cond (not t) (b ∷ filter other bs) (filter other bs))) x ≡ (has (mine ++ sides_by bs) x && not (same_id id x.0))
    by true e again = again ∙ sym (whole ∙ ap (λ z. z || (has (sides_by bs) x && not (same_id id x.0))) (others_kept id b x true e ∙ and_false (has mine x)))
    by false e again = has-append mine (sides_by (filter other bs)) x ∙ ap (λ z. has mine x || z) again ∙ sym (whole ∙ ap (λ z. z || (has (sides_by bs) x && not (same_id id x.0))) (others_kept id b x false e ∙ and_true (has mine x)))

-- the sides of the branches that are left stay placed
left_placed : (id : List ℕ) (bs : List NamedBranch) (old new : List Side) → ((x : Side) → has new x ≡ (has old x && not (same_id id x.0))) → all_among (sides_by bs) old ≡ true → all_among (sides_by (without_branch id bs)) new ≡ true
unfolding all_among without_branch sides_from
left_placed id [] old new e h = refl
left_placed id (b ∷ bs) old new e h =
    let parts = on_level.all_parts (λ a. has old a) (sides_from b.id 1 (branch_ends b.shape)) (sides_by bs) h in
    by (same_id id b.id) refl (left_placed id bs old new e parts.1) parts.0
  where
    keep : same_id id b.id ≡ false → (k : ℕ) (ends : List End) → list_all (λ a. has old a) (sides_from b.id k ends) ≡ true → list_all (λ a. has new a) (sides_from b.id k ends) ≡ true
    keep f k [] h = refl
    keep f k (d ∷ ends) h =
        let parts = and_parts (has old (b.id, k, d.level, d.node)) (list_all (λ a. has old a) (sides_from b.id (k + 1) ends)) h in
        and_from _ _ (e (b.id, k, d.level, d.node) ∙ and_from _ _ parts.0 (not_from_false (same_id id b.id) f)) (keep f (k + 1) ends parts.1)

    other : NamedBranch → Bool
    other b = not (same_id id b.id)

    by : (t : Bool) → same_id id b.id ≡ t → list_all (λ a. has new a) (sides_by (filter other bs)) ≡ true → list_all (λ a. has old a) (sides_from b.id 1 (branch_ends b.shape)) ≡ true
        → list_all (λ a. has new a) (sides_by (cond (not t) (b ∷ filter other bs) (filter other bs))) ≡ true
    by true f again mine = again
    by false f again mine = on_level.all_join (λ a. has new a) (sides_from b.id 1 (branch_ends b.shape)) (sides_by (filter other bs)) (keep f 1 (branch_ends b.shape) mine) again

-- ---- the network without the branches of an id

abbrev pub dropped : List ℕ → Network → Network
dropped id net = record net { substations = map (substation_without id) net.substations; lines = without_branch id net.lines }

pub dropped_levels : (id : List ℕ) (subs : List Substation) → flat_map (λ (s : Substation). s.levels) (map (substation_without id) subs) ≡ flat_map (λ (s : Substation). s.levels) subs
unfolding substation_without
dropped_levels id [] = refl
dropped_levels id (s ∷ subs) = ap (λ z. s.levels ++ z) (dropped_levels id subs)

pub dropped_transformers : (id : List ℕ) (subs : List Substation) → flat_map (λ (s : Substation). s.transformers) (map (substation_without id) subs) ≡ without_branch id (flat_map (λ (s : Substation). s.transformers) subs)
unfolding substation_without without_branch
dropped_transformers id [] = refl
dropped_transformers id (s ∷ subs) =
    ap (λ z. filter (λ (b : NamedBranch). not (same_id id b.id)) s.transformers ++ z) (dropped_transformers id subs)
    ∙ sym (filter-append (λ (b : NamedBranch). not (same_id id b.id)) s.transformers (flat_map (λ (s : Substation). s.transformers) subs))

pub levels-dropped : (id : List ℕ) (net : Network) → levels (dropped id net) ≡ levels net
unfolding levels
levels-dropped id net = dropped_levels id net.substations

pub branches-dropped : (id : List ℕ) (net : Network) → branches (dropped id net) ≡ without_branch id (branches net)
unfolding branches without_branch
branches-dropped id net =
    ap (λ z. z ++ filter (λ (b : NamedBranch). not (same_id id b.id)) net.lines) (dropped_transformers id net.substations)
    ∙ sym (filter-append (λ (b : NamedBranch). not (same_id id b.id)) (flat_map (λ (s : Substation). s.transformers) net.substations) net.lines)

sub_ids-dropped : (id : List ℕ) (subs : List Substation) → map (λ (s : Substation). s.id) (map (substation_without id) subs) ≡ map (λ (s : Substation). s.id) subs
unfolding substation_without
sub_ids-dropped id [] = refl
sub_ids-dropped id (s ∷ subs) = ap (λ z. s.id ∷ z) (sub_ids-dropped id subs)

transformers-dropped : (id : List ℕ) (subs : List Substation) → list_all (λ s. list_all (transformer_passes s) s.transformers) subs ≡ true
    → list_all (λ s. list_all (transformer_passes s) s.transformers) (map (substation_without id) subs) ≡ true
unfolding substation_without without_branch transformer_passes
transformers-dropped id [] h = refl
transformers-dropped id (s ∷ subs) h =
    let passes = λ (b : NamedBranch). stands_in s.id (map (λ (l : VoltageLevel). l.id) s.levels) b.shape (home_of b.shape) in
    let parts = and_parts (list_all passes s.transformers) (list_all (λ s. list_all (transformer_passes s) s.transformers) subs) h in
    and_from _ _ (on_level.all_filter passes (λ (b : NamedBranch). not (same_id id b.id)) s.transformers parts.0) (transformers-dropped id subs parts.1)

dropped_base : (id : List ℕ) (net : Network) → Base net → Base (dropped id net)
unfolding level_ids branch_ids switches without_branch
dropped_base id net k =
    let after = dropped id net in
    let lists : levels after ≡ levels net = levels-dropped id net in
    record {
      ids = λ q. (let a : locals q (levels after) ≡ locals q (levels net) = ap (locals q) lists in
          let d : times q (sub_ids after) ≡ times q (sub_ids net) = ap (times q) (sub_ids-dropped id net.substations) in
          let e : times q (level_ids after) ≡ times q (level_ids net) = ap (λ z. times q (map (λ (l : VoltageLevel). l.id) z)) lists in
          let f : times q (branch_ids after) ≡ times q (map (λ (b : NamedBranch). b.id) (filter (λ (b : NamedBranch). not (same_id id b.id)) (branches net))) = ap (λ z. times q (map (λ (b : NamedBranch). b.id) z)) (branches-dropped id net) in
          let g : times q (map (λ (b : NamedBranch). b.id) (filter (λ (b : NamedBranch). not (same_id id b.id)) (branches net))) ≤ times q (branch_ids net) = times_filter (λ (b : NamedBranch). b.id) (λ (b : NamedBranch). not (same_id id b.id)) q (branches net) in
          omega (arith, a, d, e, f, g, k.ids q, ids_counted q after, ids_counted q net));
      each_level = rw lists k.each_level;
      transformers = transformers-dropped id net.substations k.transformers;
      lines = on_level.all_filter line_passes (λ (b : NamedBranch). not (same_id id b.id)) net.lines k.lines;
      few_levels = rw lists k.few_levels;
      few_switches = rw lists k.few_switches;
    }

cleared_base : (id : List ℕ) (net : Network) → Base net → Base (with_levels (level_without_equipment id) net)
unfolding level_without_equipment
cleared_base id net k = lessened (level_without_equipment id) (λ l. refl)
    (λ l p. on_level.passes_from _ (on_level.fewer_placed_pass (λ (p : Placed). not (same_id id p.terminal.equipment)) l (on_level.passes_of l p)))
    (λ q l. omega (arith, names_filter q (λ (p : Placed). not (same_id id p.terminal.equipment)) l.placed))
    (λ l. omega arith) net k

pub cleared_branches : (id : List ℕ) (net : Network) → branches (with_levels (level_without_equipment id) net) ≡ branches net
unfolding with_levels level_without_equipment
cleared_branches id net = same_branches (with_levels (level_without_equipment id) net) net (frame-with_levels (level_without_equipment id) (λ l. refl) net) refl

pub equipment_less_sound : (net new : Network) (id : List ℕ) → apply net (edits.RemoveEquipment id) ≡ Ok new → IsSound net → IsSound new
unfolding apply placed_sides record_sides with_levels
equipment_less_sound net new id h s =
    let t = on_level.went (refuse_if (not (has_id (equipment_ids net) id)) faults.NoSuchId) _ new h in
    let cleared = with_levels (level_without_equipment id) net in
    let is : dropped id cleared ≡ new = cc (t.next) in
    let base = dropped_base id cleared (cleared_base id net (base_of net s)) in
    let placed : (x : Side) → has (sides_in (levels (dropped id cleared))) x ≡ (has (sides_in (levels net)) x && not (same_id id x.0)) =
    λ x. ap (λ z. has (sides_in z) x) (levels-dropped id cleared ∙ levels-with_levels (level_without_equipment id) net) ∙ placed_without id (levels net) x in
    let same_branches_here : branches (dropped id cleared) ≡ without_branch id (branches net) = branches-dropped id cleared ∙ ap (without_branch id) (cleared_branches id net) in
    let first : all_among (sides_by (branches (dropped id cleared))) (sides_in (levels (dropped id cleared))) ≡ true =
    rw same_branches_here (left_placed id (branches net) (sides_in (levels net)) (sides_in (levels (dropped id cleared))) placed s.sides_placed) in
    let second : all_among (sides_in (levels (dropped id cleared))) (sides_by (branches (dropped id cleared))) ≡ true =
    rw same_branches_here (has_among (sides_in (levels (dropped id cleared))) (sides_by (without_branch id (branches net))) (placed_itself (levels (dropped id cleared)))
    (λ x e. let both = and_parts (has (sides_in (levels net)) x) (not (same_id id x.0)) (sym (placed x) ∙ e) in
    records_without id (branches net) x ∙ and_from _ _ (among_has (sides_in (levels net)) (sides_by (branches net)) x s.placed_are_sides both.0) both.1)) in
    subst (λ (z : Network). IsSound z) is (sound_of (dropped id cleared) base first second)
