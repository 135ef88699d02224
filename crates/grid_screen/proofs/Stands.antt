-- Where the terminals of an equipment stand in a sound network.
use Rattle.std.proofs.Common.{◌≡◌, refl, sym, ap, ◌∙◌, subst, ℕ, ℤ, pos, zero, suc, ◌+◌, ◌<◌, ◌≤◌, Bool, true, false, cond, not, ◌&&◌, ◌||◌, List, [], ◌∷◌, length, map, arith, inl, inr, Some}
use Rattle.std.specs.Prelude.{filter, flat_map, position, slice_get, ◌==◌}
use Rattle.std.specs.Option.{option_map}
use Rattle.std.specs.List.{list_any, list_all}
use Rattle.std.proofs.lemmas.List.Folds.{list_any-append}
use Rattle.std.proofs.lemmas.Bool.{or_cases, or_left, or_right, and_parts, and_from, false≢true, true≢false, eq-eqb, eqb-true}
use Rattle.grid_lemmas.proofs.Lists.{all_at, some_got}
use Rattle.grid_lemmas.proofs.Options.{some_value}
use Rattle.grid_ids.specs.Name.{same_id, has_id}
use Rattle.grid_ids.proofs.Alike.{same_is}
use Rattle.grid_level.specs.declared.Placed.{Placed}
use Rattle.grid_level.specs.declared.Stand.{Stand}
use Rattle.grid_level.specs.declared.Stand.TheVariants.{Busbar, Feeder, BranchEnd}
use Rattle.grid_level.specs.VoltageLevel.{VoltageLevel}
use Rattle.grid_level.specs.Passing.{is_branch_end}
use Rattle.grid_level.specs.LevelEdits.{level_without_equipment}
use Rattle.grid_level.specs.Sound.{level_passes, stand_passes, side_passes}
use Rattle.grid_level.proofs.LevelEdits as on_level
use Rattle.grid_structure.specs.declared.NamedBranch.{NamedBranch}
use Rattle.grid_structure.specs.declared.Branch.{Branch}
use Rattle.grid_structure.specs.declared.Branch.TheVariants.{Line, TwoWindings, ThreeWindings}
use Rattle.grid_structure.specs.declared.End.{End}
use Rattle.grid_structure.specs.Network.{Network}
use Rattle.grid_structure.specs.Sites.{levels, branches, branch_ends, branch_ids, single_ids, equipment_ids, site, find_level, all_ids}
use Rattle.grid_structure.specs.Soundness.{IsSound, record_sides, placed_sides, sides_from, same_side, all_among}
use Rattle.grid_structure.specs.Indexed.{has_terminal, level_of_terminal}
use Rattle.grid_structure.proofs.TerminalRemovals.{mentions, unmentioned}
use Rattle.grid_structure.proofs.Counts.{times, not_there, differ-times}
use Rattle.grid_structure.proofs.Found.{any-flat_map, some_position, terminal_somewhere, terminal_tested, terminal_test}
use Rattle.grid_structure.proofs.Frames.{is_same, level_ids_once}
use Rattle.grid_structure.proofs.Places.{position_found}
use Rattle.grid_structure.proofs.SoundRemovals.{sides_by}
use Rattle.grid_structure.proofs.Sides.{Side, has, has-append, same_side_is, is_same_side, sides_of, sides_at, sides_in}
use Rattle.grid_structure.proofs.Uniquely.{side_in, one_home, one_place, some_branch, names_of_branches, recorded}

-- ---- a terminal of the equipment

pub record Mention (id : List ℕ) (ps : List Placed) : Type 0 where
  pub place : ℕ
  pub item : Placed
  pub at : slice_get ps place ≡ Some item
  pub own : same_id id item.terminal.equipment ≡ true

pub mention : (id : List ℕ) (ps : List Placed) → list_any (λ (p : Placed). same_id id p.terminal.equipment) ps ≡ true → Mention id ps
mention id [] h = absurd (false≢true h)
mention id (p ∷ ps) h = elim (or_cases (same_id id p.terminal.equipment) (list_any (λ (p : Placed). same_id id p.terminal.equipment) ps) h) [
  | inl a ↦ record { place = 0; item = p; at = refl; own = a }
  | inr a ↦ (let m = mention id ps a in record { place = suc m.place; item = m.item; at = m.at; own = m.own })
]

pub any_there : {X : Type 0} (t : X → Bool) (xs : List X) (k : ℕ) (x : X) → slice_get xs k ≡ Some x → t x ≡ true → list_any t xs ≡ true
any_there t [] k x at h = cc
any_there t (y ∷ xs) zero x at h = let same : y ≡ x = cc in or_left (t y) (list_any t xs) (ap t same ∙ h)
any_there t (y ∷ xs) (suc k) x at h = or_right (t y) (list_any t xs) (any_there t xs k x at h)

-- ---- the sides of branches

many_ends : (b : Branch) → length (branch_ends b) ≤ 3
unfolding branch_ends
many_ends (Line a b) = omega arith
many_ends (TwoWindings s a b u v) = omega arith
many_ends (ThreeWindings s a b c u v w) = omega arith

side_range : (id : List ℕ) (k : ℕ) (ends : List End) (x : Side) → has (sides_from id k ends) x ≡ true → (k ≤ x.1) × (x.1 < k + length ends)
unfolding sides_from
side_range id k [] x h = absurd (false≢true h)
side_range id k (e ∷ ends) x h = elim (or_cases (same_side x (id, k, e.level, e.node)) (has (sides_from id (k + 1) ends) x) h) [
  | inl f ↦ (let same : x.1 ≡ k = ap (λ (z : Side). z.1) (same_side_is x (id, k, e.level, e.node) f) in (omega (arith, same), omega (arith, same)))
  | inr f ↦ (let r = side_range id (k + 1) ends x f in (omega (arith, r.0), omega (arith, r.1)))
]

-- a side of a branch is one of the first three
branch_range : (bs : List NamedBranch) (x : Side) → has (sides_by bs) x ≡ true → (1 ≤ x.1) × (x.1 ≤ 3)
branch_range [] x h = absurd (false≢true h)
branch_range (b ∷ bs) x h = elim (or_cases (has (sides_from b.id 1 (branch_ends b.shape)) x) (has (sides_by bs) x) (sym (has-append (sides_from b.id 1 (branch_ends b.shape)) (sides_by bs) x) ∙ h)) [
  | inl a ↦ (let r = side_range b.id 1 (branch_ends b.shape) x a in (omega (arith, r.0), omega (arith, r.1, many_ends b.shape)))
  | inr a ↦ branch_range bs x a
]

-- a branch end that stands in a level is a side of it
pub end_side : (id : List ℕ) (ps : List Placed) (k : ℕ) (p : Placed) → slice_get ps k ≡ Some p → is_branch_end p.stand ≡ true → has (sides_at id ps) (p.terminal.equipment, p.terminal.side, id, pos p.node) ≡ true
end_side id [] k p at h = cc
end_side id (q ∷ ps) zero p at h =
    let same : q ≡ p = cc in
    let t : is_branch_end q.stand ≡ true = ap (λ (z : Placed). is_branch_end z.stand) same ∙ h in
    let x : Side = (p.terminal.equipment, p.terminal.side, id, pos p.node) in
    let here : same_side x (q.terminal.equipment, q.terminal.side, id, pos q.node) ≡ true =
    subst (λ (z : Placed). same_side x (z.terminal.equipment, z.terminal.side, id, pos z.node) ≡ true) (sym same) (is_same_side p.terminal.equipment p.terminal.side id p.node) in
    rw t (or_left (same_side x (q.terminal.equipment, q.terminal.side, id, pos q.node)) _ here)
end_side id (q ∷ ps) (suc k) p at h = by (is_branch_end q.stand) (end_side id ps k p at h)
  where
    x : Side
    x = (p.terminal.equipment, p.terminal.side, id, pos p.node)

    mine : Placed → Side
    mine r = (r.terminal.equipment, r.terminal.side, id, pos r.node)

    rest : List Placed
    rest = filter (λ (r : Placed). is_branch_end r.stand) ps

    by : (t : Bool) → has (map mine rest) x ≡ true → has (map mine (cond t (q ∷ rest) rest)) x ≡ true
    by true again = or_right (same_side x (mine q)) _ again
    by false again = again

-- ---- where it stands

-- a terminal has one of three sides
pub one_of_three : (net : Network) (k j : ℕ) (l : VoltageLevel) (p : Placed) → IsSound net → slice_get (levels net) k ≡ Some l → slice_get l.placed j ≡ Some p → (1 ≤ p.terminal.side) × (p.terminal.side ≤ 3)
unfolding is_branch_end side_passes stand_passes
one_of_three net k j l p s at here = by (is_branch_end p.stand) refl
  where
    alone : (stand : Stand) → is_branch_end stand ≡ false → side_passes p.terminal.side stand ≡ true → p.terminal.side ≡ 1
    alone Busbar e h = eqb-true p.terminal.side 1 h
    alone (Feeder item) e h = eqb-true p.terminal.side 1 (and_parts (p.terminal.side == 1) _ h).0
    alone BranchEnd e h = absurd (true≢false e)

    passes : side_passes p.terminal.side p.stand ≡ true
    passes = all_at stand_passes l.placed j p (on_level.passes_of l (all_at level_passes (levels net) k l s.each_level at)).stands here

    by : (t : Bool) → is_branch_end p.stand ≡ t → (1 ≤ p.terminal.side) × (p.terminal.side ≤ 3)
    by true e = branch_range (branches net) (p.terminal.equipment, p.terminal.side, l.id, pos p.node) (recorded net _ s (side_in (levels net) k l _ at (end_side l.id l.placed j p here e)))
    by false e = let one = alone p.stand e passes in (omega (arith, one), omega (arith, one))

-- a level with a terminal of the equipment is at the site of one of its sides
pub record Sited (net : Network) (id : List ℕ) (k : ℕ) : Type 0 where
  pub side : ℕ
  pub least : 1 ≤ side
  pub most : side ≤ 3
  pub node : ℕ
  pub is : site net id side ≡ Some (k, node)

pub sited : (net : Network) (id : List ℕ) (k : ℕ) (l : VoltageLevel) → IsSound net → slice_get (levels net) k ≡ Some l → mentions id l ≡ true → Sited net id k
unfolding has_terminal level_of_terminal
sited net id k l s at h =
    let m = mention id l.placed h in
    let side = m.item.terminal.side in
    let range = one_of_three net k m.place l m.item s at m.at in
    let here : has_terminal id side l ≡ true = any_there (λ (p : Placed). same_id id p.terminal.equipment && (p.terminal.side == side)) l.placed m.place m.item m.at (and_from (same_id id m.item.terminal.equipment) (side == side) m.own (eq-eqb side side refl)) in
    let found = some_value (position (has_terminal id side) (levels net)) (some_position (has_terminal id side) (levels net) ∙ any_there (has_terminal id side) (levels net) k l at here) in
    let passes = position_found (has_terminal id side) (levels net) found.0 found.1 in
    let there = some_got (levels net) found.0 passes.0 in
    let same : found.0 ≡ k = one_home net id side found.0 k s (there.0, there.1, passes.1 there.0 there.1) (l, at, here) in
    let first : level_of_terminal net id side ≡ Some k = found.1 ∙ ap (λ z. Some z) same in
    let node = some_value (terminal_test id side l) (sym (terminal_tested id side l) ∙ here) in
    record { side = side; least = range.0; most = range.1; node = node.0; is = terminal_somewhere net id side k l first at ∙ ap (option_map (λ y. (k, y))) node.1 }

-- ---- no equipment has the id

has_from : (id : List ℕ) (ids : List (List ℕ)) → 1 ≤ times id ids → has_id ids id ≡ true
has_from id ids h = by (has_id ids id) refl
  where
    by : (t : Bool) → has_id ids id ≡ t → t ≡ true
    by true e = refl
    by false e = absurd (omega (arith, not_there id ids e, h))

-- a terminal of a sound network is of an equipment
pub of_equipment : (net : Network) (id : List ℕ) (k : ℕ) (l : VoltageLevel) → IsSound net → slice_get (levels net) k ≡ Some l → mentions id l ≡ true → has_id (equipment_ids net) id ≡ true
unfolding has_id equipment_ids single_ids branch_ids
of_equipment net id k l s at h = list_any-append (same_id id) (single_ids net) (branch_ids net) ∙ by (is_branch_end m.item.stand) refl
  where
    m : Mention id l.placed
    m = mention id l.placed h

    name : Placed → List ℕ
    name p = p.terminal.equipment

    alone : Placed → Bool
    alone p = not (is_branch_end p.stand)

    single : (ps : List Placed) (j : ℕ) (p : Placed) → slice_get ps j ≡ Some p → same_id id p.terminal.equipment ≡ true → is_branch_end p.stand ≡ false → list_any (same_id id) (map name (filter alone ps)) ≡ true
    single [] j p e own isnt = cc
    single (q ∷ ps) zero p e own isnt =
        let same : q ≡ p = cc in
        let t : is_branch_end q.stand ≡ false = ap (λ (z : Placed). is_branch_end z.stand) same ∙ isnt in
        rw t (or_left (same_id id q.terminal.equipment) _ (ap (λ (z : Placed). same_id id z.terminal.equipment) same ∙ own))
    single (q ∷ ps) (suc j) p e own isnt = step (is_branch_end q.stand) (single ps j p e own isnt)
      where
        step : (t : Bool) → list_any (same_id id) (map name (filter alone ps)) ≡ true → list_any (same_id id) (map name (cond (not t) (q ∷ filter alone ps) (filter alone ps))) ≡ true
        step true again = again
        step false again = or_right (same_id id q.terminal.equipment) _ again

    singles : is_branch_end m.item.stand ≡ false → list_any (same_id id) (single_ids net) ≡ true
    singles isnt =
        any-flat_map (same_id id) (λ (l : VoltageLevel). map name (filter alone l.placed)) (levels net)
        ∙ any_there (λ (l : VoltageLevel). list_any (same_id id) (map name (filter alone l.placed))) (levels net) k l at (single l.placed m.place m.item m.at m.own isnt)

    ends : is_branch_end m.item.stand ≡ true → list_any (same_id id) (branch_ids net) ≡ true
    ends at_end =
        let x : Side = (m.item.terminal.equipment, m.item.terminal.side, l.id, pos m.item.node) in
        let many : 1 ≤ times m.item.terminal.equipment (names_of_branches (branches net)) = some_branch (branches net) x (recorded net x s (side_in (levels net) k l x at (end_side l.id l.placed m.place m.item m.at at_end))) in
        let same : id ≡ m.item.terminal.equipment = same_is id m.item.terminal.equipment m.own in
        has_from id (names_of_branches (branches net)) (subst (λ (z : List ℕ). 1 ≤ times z (names_of_branches (branches net))) (sym same) many)

    by : (t : Bool) → is_branch_end m.item.stand ≡ t → list_any (same_id id) (single_ids net) || list_any (same_id id) (branch_ids net) ≡ true
    by true e = or_right (list_any (same_id id) (single_ids net)) (list_any (same_id id) (branch_ids net)) (ends e)
    by false e = or_left (list_any (same_id id) (single_ids net)) (list_any (same_id id) (branch_ids net)) (singles e)

-- without an equipment of the id, no terminal goes
pub none_gone : (net : Network) (id : List ℕ) → IsSound net → has_id (equipment_ids net) id ≡ false → map (level_without_equipment id) (levels net) ≡ levels net
none_gone net id s h = over (levels net) (λ k l at. unmentioned id l (not_there_at k l at (mentions id l) refl))
  where
    not_there_at : (k : ℕ) (l : VoltageLevel) → slice_get (levels net) k ≡ Some l → (t : Bool) → mentions id l ≡ t → t ≡ false
    not_there_at k l at true e = absurd (false≢true (sym h ∙ of_equipment net id k l s at e))
    not_there_at k l at false e = refl

    over : (ls : List VoltageLevel) → ((k : ℕ) (l : VoltageLevel) → slice_get ls k ≡ Some l → level_without_equipment id l ≡ l) → map (level_without_equipment id) ls ≡ ls
    over [] e = refl
    over (l ∷ ls) e = rw (e 0 l refl, over ls (λ k. e (suc k))) refl

-- ---- the ends of branches

-- a terminal of a list of levels
pub record Placing (ls : List VoltageLevel) (x : Side) : Type 0 where
  pub place : ℕ
  pub level : VoltageLevel
  pub at : slice_get ls place ≡ Some level
  pub index : ℕ
  pub item : Placed
  pub stands : slice_get level.placed index ≡ Some item
  pub is : x ≡ (item.terminal.equipment, item.terminal.side, level.id, pos item.node)

placing_in : (id : List ℕ) (ps : List Placed) (x : Side) → has (sides_at id ps) x ≡ true → (index : ℕ) × (item : Placed) × (slice_get ps index ≡ Some item) × (x ≡ (item.terminal.equipment, item.terminal.side, id, pos item.node))
placing_in id [] x h = absurd (false≢true h)
placing_in id (p ∷ ps) x h = by (is_branch_end p.stand) h (placing_in id ps x)
  where
    mine : Placed → Side
    mine r = (r.terminal.equipment, r.terminal.side, id, pos r.node)

    rest : List Placed
    rest = filter (λ (r : Placed). is_branch_end r.stand) ps

    Goal : List Placed → Type 0
    Goal qs = (index : ℕ) × (item : Placed) × (slice_get qs index ≡ Some item) × (x ≡ (item.terminal.equipment, item.terminal.side, id, pos item.node))

    later : Goal ps → Goal (p ∷ ps)
    later (index, item, at, is) = (suc index, item, at, is)

    by : (t : Bool) → has (map mine (cond t (p ∷ rest) rest)) x ≡ true → (has (map mine rest) x ≡ true → Goal ps) → Goal (p ∷ ps)
    by true h again = elim (or_cases (same_side x (mine p)) (has (map mine rest) x) h) [
      | inl a ↦ (0, p, refl, same_side_is x (mine p) a)
      | inr a ↦ later (again a)
    ]
    by false h again = later (again h)

placing : (ls : List VoltageLevel) (x : Side) → has (sides_in ls) x ≡ true → Placing ls x
placing [] x h = absurd (false≢true h)
placing (l ∷ ls) x h = elim (or_cases (has (sides_of l) x) (has (sides_in ls) x) (sym (has-append (sides_of l) (sides_in ls) x) ∙ h)) [
  | inl a ↦ (let p = placing_in l.id l.placed x a in record { place = 0; level = l; at = refl; index = p.0; item = p.1; stands = p.2; is = p.3 })
  | inr a ↦ (let p = placing ls x a in record { place = suc p.place; level = p.level; at = p.at; index = p.index; item = p.item; stands = p.stands; is = p.is })
]

-- what stands at an end of the branch of an id
pub record Ended (net : Network) (id : List ℕ) (end : End) : Type 0 where
  pub place : ℕ
  pub level : VoltageLevel
  pub found : find_level net end.level ≡ Some place
  pub at : slice_get (levels net) place ≡ Some level
  pub index : ℕ
  pub item : Placed
  pub stands : slice_get level.placed index ≡ Some item
  pub own : item.terminal.equipment ≡ id
  pub node : end.node ≡ pos item.node

found_at : (net : Network) (k : ℕ) (l : VoltageLevel) → IsSound net → slice_get (levels net) k ≡ Some l → find_level net l.id ≡ Some k
unfolding find_level
found_at net k l s at =
    let test = λ (x : VoltageLevel). same_id l.id x.id in
    let found = some_value (position test (levels net)) (some_position test (levels net) ∙ any_there test (levels net) k l at (is_same l.id l.id refl)) in
    let passes = position_found test (levels net) found.0 found.1 in
    let there = some_got (levels net) found.0 passes.0 in
    let alike : l.id ≡ there.0.id = same_is l.id there.0.id (passes.1 there.0 there.1) in
    let same : k ≡ found.0 = one_place (levels net) k found.0 l there.0 (level_ids_once net (differ-times (all_ids net) s.ids) l.id) at there.1 alike in
    found.1 ∙ ap (λ z. Some z) (sym same)

ended : (net : Network) (id level : List ℕ) (n : ℕ) (node : ℤ) → IsSound net → has (sides_in (levels net)) (id, n, level, node) ≡ true → Ended net id (record { level = level; node = node })
ended net id level n node s h =
    let p = placing (levels net) (id, n, level, node) h in
    let own : id ≡ p.item.terminal.equipment = ap (λ (z : Side). z.0) p.is in
    let named : level ≡ p.level.id = ap (λ (z : Side). z.2) p.is in
    let number : node ≡ pos p.item.node = ap (λ (z : Side). z.3) p.is in
    record {
      place = p.place;
      level = p.level;
      found = ap (find_level net) named ∙ found_at net p.place p.level s p.at;
      at = p.at;
      index = p.index;
      item = p.item;
      stands = p.stands;
      own = sym own;
      node = number;
    }

-- the ends of a branch stand
abbrev pub AllStand : Network → List Side → Type 0
AllStand net sides = list_all (λ a. has (sides_in (levels net)) a) sides ≡ true

-- two readings of the ends of a branch are alike where they are for each end that stands
pub ends_alike : {X : Type 0} (net : Network) (id : List ℕ) (f g : End → X) (k : ℕ) (ends : List End) → IsSound net → AllStand net (sides_from id k ends) → ((end : End) → Ended net id end → f end ≡ g end) → map f ends ≡ map g ends
unfolding sides_from
ends_alike net id f g k [] s h e = refl
ends_alike net id f g k (end ∷ ends) s h e =
    let both = and_parts (has (sides_in (levels net)) (id, k, end.level, end.node)) (list_all (λ a. has (sides_in (levels net)) a) (sides_from id (k + 1) ends)) h in
    rw (e end (ended net id end.level k end.node s both.0), ends_alike net id f g (k + 1) ends s both.1 e) refl

-- of all branches
pub branches_alike : {X : Type 0} (net : Network) (f g : NamedBranch → List X) (bs : List NamedBranch) → AllStand net (sides_by bs) → ((b : NamedBranch) → AllStand net (sides_from b.id 1 (branch_ends b.shape)) → f b ≡ g b) → flat_map f bs ≡ flat_map g bs
branches_alike net f g [] h e = refl
branches_alike net f g (b ∷ bs) h e =
    let both = on_level.all_parts (λ a. has (sides_in (levels net)) a) (sides_from b.id 1 (branch_ends b.shape)) (sides_by bs) h in
    rw (e b both.0, branches_alike net f g bs both.1 e) refl

pub all_stand : (net : Network) → IsSound net → AllStand net (sides_by (branches net))
unfolding all_among record_sides placed_sides
all_stand net s = s.sides_placed
