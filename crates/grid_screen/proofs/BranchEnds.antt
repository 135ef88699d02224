-- The ends of branches in a sound network: each stands at the site of its side, and what stands at such a site is one.
use Rattle.std.proofs.Common.{◌≡◌, refl, sym, ap, ◌∙◌, subst, ℕ, pos, zero, suc, ◌≤◌, Bool, true, false, cond, not, ◌&&◌, List, [], ◌∷◌, map, arith, inl, inr, Some}
use Rattle.std.specs.Prelude.{filter, position, slice_get, ◌==◌}
use Rattle.std.specs.Option.{option_map}
use Rattle.std.proofs.lemmas.Bool.{or_cases, and_from, eq-eqb, false≢true}
use Rattle.grid_lemmas.proofs.Lists.{some_got}
use Rattle.grid_lemmas.proofs.Options.{some_value}
use Rattle.grid_ids.specs.Name.{same_id, has_id}
use Rattle.grid_ids.proofs.Alike.{same_itself}
use Rattle.grid_level.specs.declared.Placed.{Placed}
use Rattle.grid_level.specs.VoltageLevel.{VoltageLevel}
use Rattle.grid_level.specs.Passing.{is_branch_end}
use Rattle.grid_structure.specs.declared.NamedBranch.{NamedBranch}
use Rattle.grid_structure.specs.Network.{Network}
use Rattle.grid_structure.specs.Sites.{levels, branches, branch_ends, site}
use Rattle.grid_structure.specs.Soundness.{IsSound, sides_from}
use Rattle.grid_structure.specs.Indexed.{has_terminal, level_of_terminal}
use Rattle.grid_structure.proofs.Counts.{times}
use Rattle.grid_structure.proofs.Flat.{has_single}
use Rattle.grid_structure.proofs.Found.{some_position, terminal_somewhere, terminal_tested, terminal_test}
use Rattle.grid_structure.proofs.Frames.{is_same, locals}
use Rattle.grid_structure.proofs.Places.{position_found}
use Rattle.grid_structure.proofs.SoundRemovals.{own_id, sides_by}
use Rattle.grid_structure.proofs.Sides.{Side, has, has-append}
use Rattle.grid_structure.proofs.Uniquely.{side_in, one_home, one_side, single_in, recorded, branch_once, local_once, names_of_branches}
use Rattle.grid_outages.proofs.Members.{Among, among_got, among_filter, among_map, any_among}
use Rattle.grid_screen.proofs.Sitings.{standing_at}
use Rattle.grid_screen.proofs.Stands.{any_there, end_side}

-- ---- branches by their ids

-- a side of the records is of a branch
pub branch_of : (bs : List NamedBranch) (x : Side) → has (sides_by bs) x ≡ true → (b : NamedBranch) × Among b bs × (x.0 ≡ b.id)
branch_of [] x h = absurd (false≢true h)
branch_of (b ∷ bs) x h = elim (or_cases (has (sides_from b.id 1 (branch_ends b.shape)) x) (has (sides_by bs) x) (sym (has-append (sides_from b.id 1 (branch_ends b.shape)) (sides_by bs) x) ∙ h)) [
  | inl a ↦ (b, inl refl, own_id b.id 1 (branch_ends b.shape) x a)
  | inr a ↦ (let r = branch_of bs x a in (r.0, inr r.1, r.2))
]

named_once : (b : NamedBranch) (bs : List NamedBranch) → Among b bs → 1 ≤ times b.id (names_of_branches bs)
named_once b [] i = absurd i
named_once b (c ∷ bs) (inl e) =
    let one : ◌≡◌ {A = ℕ} (cond (same_id b.id c.id) 1 0) 1 = ap (λ t. cond t 1 0) (is_same b.id c.id (ap (λ (z : NamedBranch). z.id) e)) in
    omega (arith, one)
named_once b (c ∷ bs) (inr i) = let r = named_once b bs i in omega (arith, r)

locals_in : (e : List ℕ) (ls : List VoltageLevel) (k : ℕ) (l : VoltageLevel) → slice_get ls k ≡ Some l → has_single e l ≡ true → 1 ≤ locals e ls
locals_in e [] k l at h = cc
locals_in e (y ∷ ls) zero l at h = let same : y ≡ l = cc in omega (arith, single_in e y (ap (has_single e) same ∙ h))
locals_in e (y ∷ ls) (suc k) l at h = omega (arith, locals_in e ls k l at h)

-- ---- what stands for a branch

-- a terminal with the id of a branch is an end of it
pub is_end : (net : Network) (k j : ℕ) (l : VoltageLevel) (p : Placed) (b : NamedBranch) → IsSound net → slice_get (levels net) k ≡ Some l → slice_get l.placed j ≡ Some p → Among b (branches net) → p.terminal.equipment ≡ b.id → is_branch_end p.stand ≡ true
unfolding has_single has_id
is_end net k j l p b sound at stands i own = by (is_branch_end p.stand) refl
  where
    alone : Placed → Bool
    alone q = not (is_branch_end q.stand)

    by : (t : Bool) → is_branch_end p.stand ≡ t → t ≡ true
    by true e = refl
    by false e =
        let passes : alone p ≡ true = ap not e in
        let named = among_map (λ (q : Placed). q.terminal.equipment) p (filter alone l.placed) (among_filter alone p l.placed (among_got l.placed j p stands) passes) in
        let single : has_single p.terminal.equipment l ≡ true = any_among (same_id p.terminal.equipment) p.terminal.equipment (map (λ (q : Placed). q.terminal.equipment) (filter alone l.placed)) named (same_itself p.terminal.equipment) in
        let many = subst (λ (z : List ℕ). 1 ≤ times z (names_of_branches (branches net))) (sym own) (named_once b (branches net) i) in
        absurd (omega (arith, locals_in p.terminal.equipment (levels net) k l at single, many, local_once net p.terminal.equipment sound))

-- two ends of a side of one equipment are at one node
module _ (net : Network) (k j i : ℕ) (l : VoltageLevel) (p q : Placed) (sound : IsSound net) (at : slice_get (levels net) k ≡ Some l)
    (first : slice_get l.placed j ≡ Some p) (second : slice_get l.placed i ≡ Some q) (p_ends : is_branch_end p.stand ≡ true) (q_ends : is_branch_end q.stand ≡ true)
    (same_equipment : p.terminal.equipment ≡ q.terminal.equipment) (same_side : p.terminal.side ≡ q.terminal.side) where
  pub one_node : p.node ≡ q.node
  one_node =
      let x : Side = (p.terminal.equipment, p.terminal.side, l.id, pos p.node) in
      let y : Side = (q.terminal.equipment, q.terminal.side, l.id, pos q.node) in
      let u = recorded net x sound (side_in (levels net) k l x at (end_side l.id l.placed j p first p_ends)) in
      let v = recorded net y sound (side_in (levels net) k l y at (end_side l.id l.placed i q second q_ends)) in
      let alike = one_side (branches net) x y (branch_once net p.terminal.equipment sound) u v same_equipment same_side in
      let nodes : pos p.node ≡ pos q.node = ap (λ (z : Side). z.3) alike in
      cc

-- the branch of an end
pub branch_of_end : (net : Network) (k j : ℕ) (l : VoltageLevel) (p : Placed) → IsSound net → slice_get (levels net) k ≡ Some l → slice_get l.placed j ≡ Some p → is_branch_end p.stand ≡ true
    → (b : NamedBranch) × Among b (branches net) × (p.terminal.equipment ≡ b.id)
branch_of_end net k j l p sound at stands ends =
    let x : Side = (p.terminal.equipment, p.terminal.side, l.id, pos p.node) in
    branch_of (branches net) x (recorded net x sound (side_in (levels net) k l x at (end_side l.id l.placed j p stands ends)))

-- an end stands at the site of its side
pub end_site : (net : Network) (k j : ℕ) (l : VoltageLevel) (p : Placed) → IsSound net → slice_get (levels net) k ≡ Some l → slice_get l.placed j ≡ Some p → is_branch_end p.stand ≡ true
    → site net p.terminal.equipment p.terminal.side ≡ Some (k, p.node)
unfolding has_terminal level_of_terminal
end_site net k j l p sound at stands ends =
    let id = p.terminal.equipment in
    let side = p.terminal.side in
    let b = branch_of_end net k j l p sound at stands ends in
    let here : has_terminal id side l ≡ true = any_there (λ (q : Placed). same_id id q.terminal.equipment && (q.terminal.side == side)) l.placed j p stands (and_from (same_id id id) (side == side) (same_itself id) (eq-eqb side side refl)) in
    let found = some_value (position (has_terminal id side) (levels net)) (some_position (has_terminal id side) (levels net) ∙ any_there (has_terminal id side) (levels net) k l at here) in
    let passes = position_found (has_terminal id side) (levels net) found.0 found.1 in
    let there = some_got (levels net) found.0 passes.0 in
    let same : found.0 ≡ k = one_home net id side found.0 k sound (there.0, there.1, passes.1 there.0 there.1) (l, at, here) in
    let first : level_of_terminal net id side ≡ Some k = found.1 ∙ ap (λ z. Some z) same in
    let node = some_value (terminal_test id side l) (sym (terminal_tested id side l) ∙ here) in
    let is : site net id side ≡ Some (k, node.0) = terminal_somewhere net id side k l first at ∙ ap (option_map (λ y. (k, y))) node.1 in
    let other = standing_at net id side k node.0 is in
    let one : ◌≡◌ (Some other.level) (Some l) = sym other.at ∙ at in
    let level : other.level ≡ l = cc in
    let other_stands = subst (λ (z : VoltageLevel). slice_get z.placed other.index ≡ Some other.item) level other.stands in
    let other_ends = is_end net k other.index l other.item b.0 sound at other_stands b.1 (other.own ∙ b.2) in
    let alike = one_node net k j other.index l p other.item sound at stands other_stands ends other_ends (sym other.own) (sym other.of_side) in
    is ∙ ap (λ z. Some (k, z)) (sym (alike ∙ other.node))
