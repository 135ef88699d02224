-- The levels in which the terminals of an equipment stand, and what is left of the others without it.
use Rattle.std.proofs.Common.{◌≡◌, ◌≢◌, refl, sym, ap, ◌∙◌, subst, ℕ, zero, suc, ◌+◌, ◌⊎◌, inl, inr, ◌<◌, ◌≤◌, Bool, true, false, not, ◌&&◌, cond, List, [], ◌∷◌, length, map, arith, append-nil, Option, Some, None}
use Rattle.std.specs.Prelude.{pos, ◌==◌, slice_get, slice_set, filter, position, Ok}
use Rattle.std.specs.List.{list_any, list_all}
use Rattle.std.specs.Option.{option_map}
use Rattle.std.proofs.lemmas.Bool.{and_parts, and_from, or_cases, or_left, or_right, eq-eqb, false≢true}
use Rattle.std.proofs.lemmas.Bool.Decides.{eqb_tells}
use Rattle.std.proofs.lemmas.Option.{slice_get-map, slice_get_within}
use Rattle.grid_lemmas.proofs.Lists.{get_set, get_other}
use Rattle.grid_lemmas.proofs.Options.{some_value}
use Rattle.grid_ids.specs.Name.{same_id, has_id}
use Rattle.grid_ids.specs.Refusing.{refuse_if}
use Rattle.grid_ids.proofs.Alike.{same_is}
use Rattle.grid_level.specs.declared.Placed.{Placed}
use Rattle.grid_level.specs.declared.Stand.{Stand}
use Rattle.grid_level.specs.declared.Stand.TheVariants.{Busbar, Feeder, BranchEnd}
use Rattle.grid_level.specs.VoltageLevel.{VoltageLevel}
use Rattle.grid_level.specs.Passing.{is_branch_end}
use Rattle.grid_level.specs.Sound.{level_passes, stand_passes, side_passes}
use Rattle.grid_level.specs.LevelEdits.{level_without_equipment}
use Rattle.grid_level.proofs.LevelEdits as on_level
use Rattle.grid_structure.specs.declared.Branch.{Branch}
use Rattle.grid_structure.specs.declared.Branch.TheVariants.{Line, TwoWindings, ThreeWindings}
use Rattle.grid_structure.specs.declared.End.{End}
use Rattle.grid_structure.specs.declared.NamedBranch.{NamedBranch}
use Rattle.grid_structure.specs.declared.Edit.TheVariants as edits
use Rattle.grid_structure.specs.declared.EditFault.TheVariants as faults
use Rattle.grid_structure.specs.Network.{Network}
use Rattle.grid_structure.specs.Sites.{levels, branches, branch_ends, equipment_ids, site}
use Rattle.grid_structure.specs.Editing.{apply, with_levels, without_branch, substation_without}
use Rattle.grid_structure.specs.Indexed.{has_terminal, level_of_terminal}
use Rattle.grid_structure.specs.Soundness.{IsSound, sides_from, same_side}
use Rattle.grid_structure.proofs.TerminalRemovals.{mentions, unmentioned}
use Rattle.grid_structure.proofs.Found.{some_position, terminal_test, terminal_tested, terminal_somewhere}
use Rattle.grid_structure.proofs.Levels.{levels-with_levels}
use Rattle.grid_structure.proofs.Places.{length-slice_set, position_found}
use Rattle.grid_structure.proofs.SoundRemovals.{sides_by}
use Rattle.grid_structure.proofs.Sides.{Side, has, same_side_is, is_same_side, has-append, sides_at}
use Rattle.grid_structure.proofs.Uniquely.{side_in, recorded, one_home}
use Rattle.grid_core.specs.Solo.{level_at}
use Rattle.grid_core.specs.Touched.{LeavesAllBut, StandAmong}
use Rattle.grid_core.proofs.Fits.{levels-cleared, got-level}
use Rattle.grid_core.proofs.Ranges.{site_level}

-- ---- the number of a side

-- a terminal of the equipment has a side, which is the first one or that of a branch's end
abbrev Reached : List ℕ → List ℕ → List Placed → List Side → Type 0
Reached e id ps ends = (s : ℕ) × (list_any (λ (p : Placed). same_id e p.terminal.equipment && (p.terminal.side == s)) ps ≡ true) × ((s ≡ 1) ⊎ ((node : ℕ) × (has ends (e, s, id, pos node) ≡ true)))

reached : (e id : List ℕ) (ps : List Placed) → list_all stand_passes ps ≡ true → list_any (λ (p : Placed). same_id e p.terminal.equipment) ps ≡ true → Reached e id ps (sides_at id ps)
unfolding stand_passes side_passes is_branch_end
reached e id [] all h = absurd (false≢true h)
reached e id (p ∷ ps) all h =
    let both = and_parts (stand_passes p) (list_all stand_passes ps) all in
    elim (or_cases (same_id e p.terminal.equipment) (list_any (λ (q : Placed). same_id e q.terminal.equipment) ps) h) [
      | inl a ↦ here p.stand both.0 a
      | inr a ↦ later (is_branch_end p.stand) (reached e id ps both.1 a)
    ]
  where
    side : Placed → Side
    side q = (q.terminal.equipment, q.terminal.side, id, pos q.node)

    ends : Bool → List Side
    ends t = map side (cond t (p ∷ filter (λ (q : Placed). is_branch_end q.stand) ps) (filter (λ (q : Placed). is_branch_end q.stand) ps))

    own : (s : ℕ) → same_id e p.terminal.equipment ≡ true → (p.terminal.side == s) ≡ true → list_any (λ (q : Placed). same_id e q.terminal.equipment && (q.terminal.side == s)) (p ∷ ps) ≡ true
    own s a b = or_left (same_id e p.terminal.equipment && (p.terminal.side == s)) _ (and_from (same_id e p.terminal.equipment) (p.terminal.side == s) a b)

    here : (stand : Stand) → side_passes p.terminal.side stand ≡ true → same_id e p.terminal.equipment ≡ true → Reached e id (p ∷ ps) (ends (is_branch_end stand))
    here Busbar b a = (1, own 1 a b, inl refl)
    here (Feeder item) b a = (1, own 1 a (and_parts (p.terminal.side == 1) _ b).0, inl refl)
    here BranchEnd b a =
        let same : e ≡ p.terminal.equipment = same_is e p.terminal.equipment a in
        let itself : same_side (e, p.terminal.side, id, pos p.node) (side p) ≡ true = rw same (is_same_side p.terminal.equipment p.terminal.side id p.node) in
        (p.terminal.side, own p.terminal.side a (eq-eqb p.terminal.side p.terminal.side refl), inr (p.node, or_left (same_side (e, p.terminal.side, id, pos p.node) (side p)) _ itself))

    later : (t : Bool) → Reached e id ps (sides_at id ps) → Reached e id (p ∷ ps) (ends t)
    later t (s, h, inl one) = (s, or_right (same_id e p.terminal.equipment && (p.terminal.side == s)) _ h, inl one)
    later true (s, h, inr (node, q)) = (s, or_right (same_id e p.terminal.equipment && (p.terminal.side == s)) _ h, inr (node, or_right (same_side (e, s, id, pos node) (side p)) _ q))
    later false (s, h, inr (node, q)) = (s, or_right (same_id e p.terminal.equipment && (p.terminal.side == s)) _ h, inr (node, q))

from_within : (id : List ℕ) (k : ℕ) (ends : List End) (x : Side) → has (sides_from id k ends) x ≡ true → (k ≤ x.1) × (x.1 < k + length ends)
unfolding sides_from
from_within id k [] x h = absurd (false≢true h)
from_within id k (end ∷ rest) x h = elim (or_cases (same_side x (id, k, end.level, end.node)) (has (sides_from id (k + 1) rest) x) h) [
  | inl a ↦ (let same : x.1 ≡ k = ap (λ (z : Side). z.1) (same_side_is x (id, k, end.level, end.node) a) in (omega (arith, same), omega (arith, same)))
  | inr a ↦ (let r = from_within id (k + 1) rest x a in (omega (arith, r.0), omega (arith, r.1)))
]

few_ends : (shape : Branch) → length (branch_ends shape) ≤ 3
unfolding branch_ends
few_ends (Line end1 end2) = omega arith
few_ends (TwoWindings substation end1 end2 u v) = omega arith
few_ends (ThreeWindings substation end1 end2 end3 u v w) = omega arith

by_within : (bs : List NamedBranch) (x : Side) → has (sides_by bs) x ≡ true → (1 ≤ x.1) × (x.1 ≤ 3)
by_within [] x h = absurd (false≢true h)
by_within (b ∷ bs) x h =
    elim (or_cases (has (sides_from b.id 1 (branch_ends b.shape)) x) (has (sides_by bs) x) (sym (has-append (sides_from b.id 1 (branch_ends b.shape)) (sides_by bs) x) ∙ h)) [
      | inl a ↦ (let r = from_within b.id 1 (branch_ends b.shape) x a in (r.0, omega (arith, r.1, few_ends b.shape)))
      | inr a ↦ by_within bs x a
    ]

all_got : {X : Type 0} (t : X → Bool) (xs : List X) (k : ℕ) (x : X) → list_all t xs ≡ true → slice_get xs k ≡ Some x → t x ≡ true
all_got t [] k x all at = absurd (cc)
all_got t (y ∷ xs) zero x all at = let same : y ≡ x = cc in ap t (sym same) ∙ (and_parts (t y) (list_all t xs) all).0
all_got t (y ∷ xs) (suc k) x all at = all_got t xs k x (and_parts (t y) (list_all t xs) all).1 at

any_got : {X : Type 0} (t : X → Bool) (xs : List X) (k : ℕ) (x : X) → t x ≡ true → slice_get xs k ≡ Some x → list_any t xs ≡ true
any_got t [] k x h at = absurd (cc)
any_got t (y ∷ xs) zero x h at = let same : y ≡ x = cc in or_left (t y) (list_any t xs) (ap t same ∙ h)
any_got t (y ∷ xs) (suc k) x h at = or_right (t y) (list_any t xs) (any_got t xs k x h at)

module _ (net : Network) (sound : IsSound net) (e : List ℕ) where
  numbered : (k : ℕ) (l : VoltageLevel) → slice_get (levels net) k ≡ Some l → mentions e l ≡ true → (s : ℕ) × (1 ≤ s) × (s ≤ 3) × (has_terminal e s l ≡ true)
  unfolding has_terminal
  numbered k l at h = let passes = on_level.passes_of l (all_got level_passes (levels net) k l sound.each_level at) in by (reached e l.id l.placed passes.stands h)
    where
      by : Reached e l.id l.placed (sides_at l.id l.placed) → (s : ℕ) × (1 ≤ s) × (s ≤ 3) × (list_any (λ (p : Placed). same_id e p.terminal.equipment && (p.terminal.side == s)) l.placed ≡ true)
      by (s, h, inl one) = (s, omega (arith, one), omega (arith, one), h)
      by (s, h, inr (node, q)) = let r = by_within (branches net) (e, s, l.id, pos node) (recorded net (e, s, l.id, pos node) sound (side_in (levels net) k l (e, s, l.id, pos node) at q)) in (s, r.0, r.1, h)

  sited : (k : ℕ) (l : VoltageLevel) (s : ℕ) → slice_get (levels net) k ≡ Some l → has_terminal e s l ≡ true → (n : ℕ) × (site net e s ≡ Some (k, n))
  unfolding level_of_terminal
  sited k l s at h =
      let j = some_value (position (has_terminal e s) (levels net)) (some_position (has_terminal e s) (levels net) ∙ any_got (has_terminal e s) (levels net) k l h at) in
      let found = position_found (has_terminal e s) (levels net) j.0 j.1 in
      let there = got-level (levels net) j.0 found.0 in
      let same : j.0 ≡ k = one_home net e s j.0 k sound (there.0, there.1, found.1 there.0 there.1) (l, at, h) in
      let node = some_value (terminal_test e s l) (sym (terminal_tested e s l) ∙ h) in
      (node.0, terminal_somewhere net e s k l (j.1 ∙ ap (λ z. Some z) same) at ∙ ap (option_map (λ y. (k, y))) node.1)

  -- what stands in none of these levels is in none
  nothing_there : (first second third k : ℕ) (l : VoltageLevel) → StandAmong net e first second third → slice_get (levels net) k ≡ Some l → k ≢ first → k ≢ second → k ≢ third → level_without_equipment e l ≡ l
  nothing_there first second third k l among at a b c = by (mentions e l) refl
    where
      none : (k ≡ first) ⊎ ((k ≡ second) ⊎ (k ≡ third)) → ⊥
      none (inl q) = a q
      none (inr (inl q)) = b q
      none (inr (inr q)) = c q

      by : (t : Bool) → mentions e l ≡ t → level_without_equipment e l ≡ l
      by true q = let n = numbered k l at q in let s = sited k l n.0 at n.3 in absurd (none (among n.0 k s.0 n.1 n.2 s.1))
      by false q = unmentioned e l q

-- ---- levels that change at three places

-- a network that has these levels
having : List VoltageLevel → Network
having ls = record { id = []; substations = record { id = []; levels = ls; transformers = [] } ∷ []; lines = [] }

has_levels : (ls : List VoltageLevel) → levels (having ls) ≡ ls
unfolding levels having
has_levels ls = append-nil ls

module _ (net next : Network) (f : VoltageLevel → VoltageLevel) (a b c : ℕ) (in_a : a < length (levels net)) (in_b : b < length (levels net)) (is : levels next ≡ map f (levels net))
    (stays : (k : ℕ) (l : VoltageLevel) → slice_get (levels net) k ≡ Some l → k ≢ a → k ≢ b → k ≢ c → f l ≡ l) where
  at_a : (l : VoltageLevel) × (slice_get (levels net) a ≡ Some l)
  at_a = got-level (levels net) a in_a

  at_b : (l : VoltageLevel) × (slice_get (levels net) b ≡ Some l)
  at_b = got-level (levels net) b in_b

  abbrev first : List VoltageLevel
  first = slice_set (levels net) a (f at_a.0)

  abbrev second : List VoltageLevel
  second = slice_set first b (f at_b.0)

  in_first : (k : ℕ) → k ≢ b → k ≢ c → slice_get first k ≡ option_map f (slice_get (levels net) k)
  in_first k not_b not_c =
      elim (eqb_tells k a) [
        | inl e ↦ ap (slice_get first) e.1 ∙ get_set (levels net) a (f at_a.0) in_a ∙ sym (ap (option_map f) (ap (slice_get (levels net)) e.1 ∙ at_a.1))
        | inr n ↦ get_other (levels net) a k (f at_a.0) (λ e. n.1 (sym e)) ∙ same n.1 (slice_get (levels net) k) refl
      ]
    where
      same : k ≢ a → (o : Option VoltageLevel) → slice_get (levels net) k ≡ o → o ≡ option_map f o
      same not_a (Some l) e = ap (λ z. Some z) (sym (stays k l e not_a not_b not_c))
      same not_a None e = refl

  in_second : (k : ℕ) → k ≢ c → slice_get second k ≡ option_map f (slice_get (levels net) k)
  in_second k not_c =
      elim (eqb_tells k b) [
        | inl e ↦ ap (slice_get second) e.1 ∙ get_set first b (f at_b.0) (omega (arith, in_b, length-slice_set (levels net) a (f at_a.0))) ∙ sym (ap (option_map f) (ap (slice_get (levels net)) e.1 ∙ at_b.1))
        | inr n ↦ get_other first b k (f at_b.0) (λ e. n.1 (sym e)) ∙ in_first k n.1 not_c
      ]

  three_changes : LeavesAllBut net next a b c
  three_changes = (
    having first,
    having second,
    (λ k differs. ap (λ (ls : List VoltageLevel). slice_get ls k) (has_levels first) ∙ get_other (levels net) a k (f at_a.0) (λ e. differs (sym e))),
    (λ k differs. ap (λ (ls : List VoltageLevel). slice_get ls k) (has_levels second) ∙ get_other first b k (f at_b.0) (λ e. differs (sym e)) ∙ sym (ap (λ (ls : List VoltageLevel). slice_get ls k) (has_levels first))),
    λ k differs. ap (λ (ls : List VoltageLevel). slice_get ls k) is ∙ slice_get-map f (levels net) k ∙ sym (in_second k differs) ∙ sym (ap (λ (ls : List VoltageLevel). slice_get ls k) (has_levels second)),
  )

-- ---- an equipment less

pub equipment_leaves : (net new : Network) (e : List ℕ) (first second third : ℕ) → IsSound net → first < length (levels net) → second < length (levels net) → StandAmong net e first second third → apply net (edits.RemoveEquipment e) ≡ Ok new
    → LeavesAllBut net new first second third
unfolding apply
equipment_leaves net new e first second third sound in_first in_second among h =
    let t = on_level.went (refuse_if (not (has_id (equipment_ids net) e)) faults.NoSuchId) _ new h in
    let cleared : Network = with_levels (level_without_equipment e) net in
    let made : Network = record cleared { substations = map (substation_without e) cleared.substations; lines = without_branch e cleared.lines } in
    let same : made ≡ new = cc (t.next) in
    let is : levels made ≡ map (level_without_equipment e) (levels net) = levels-cleared e cleared ∙ levels-with_levels (level_without_equipment e) net in
    three_changes net new (level_without_equipment e) first second third in_first in_second (ap (λ (n : Network). levels n) (sym same) ∙ is)
    (λ k l at a b c. nothing_there net sound e first second third k l among at a b c)

-- ---- sites

pub site_within : (net : Network) (id : List ℕ) (side level node : ℕ) → site net id side ≡ Some (level, node) → level < length (levels net)
unfolding level_at
site_within net id side level node at = let there = site_level net id side level node at in slice_get_within (levels net) level there.0 there.1

pub same_place : (level node place other : ℕ) → ◌≡◌ {A = Option (ℕ × ℕ)} (Some (level, node)) (Some (place, other)) → level ≡ place
same_place level node place other h = let pair : ◌≡◌ {A = ℕ × ℕ} (level, node) (place, other) = cc in ap (λ (z : ℕ × ℕ). z.0) pair

pub three_sides : (net : Network) (id : List ℕ) (first second third : ℕ) → ((level node : ℕ) → site net id 1 ≡ Some (level, node) → level ≡ first) → ((level node : ℕ) → site net id 2 ≡ Some (level, node) → level ≡ second)
    → ((level node : ℕ) → site net id 3 ≡ Some (level, node) → level ≡ third) → StandAmong net id first second third
three_sides net id first second third one two three side level node low high at =
    elim (eqb_tells side 1) [
      | inl e ↦ inl (one level node (subst (λ (z : ℕ). site net id z ≡ Some (level, node)) e.1 at))
      | inr n ↦ elim (eqb_tells side 2) [
        | inl e ↦ inr (inl (two level node (subst (λ (z : ℕ). site net id z ≡ Some (level, node)) e.1 at)))
        | inr m ↦ (let last : side ≡ 3 = omega (arith, low, high, n.1, m.1) in inr (inr (three level node (subst (λ (z : ℕ). site net id z ≡ Some (level, node)) last at))))
      ]
    ]
