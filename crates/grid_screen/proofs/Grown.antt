-- What a walk has hit after one more site.
use Rattle.std.proofs.Common.{◌≡◌, refl, sym, ap, ◌∙◌, subst, ℕ, zero, suc, ◌+◌, ◌<◌, ◌≢◌, Bool, true, false, cond, not, List, [], ◌∷◌, ◌++◌, take, length, get_or, inl, inr, ◌⊎◌, Some, Option, get_or-set_same, get_or-set_other}
use Rattle.std.specs.Prelude.{filter, slice_get, slice_set, ◌==◌, ◌&&◌, IsTrue}
use Rattle.std.specs.List.{list_all}
use Rattle.std.proofs.lemmas.Bool.{and_parts, and_from, eqb-true, eq-eqb, true≢false, false≢true}
use Rattle.grid_ids.specs.Name.{has_id}
use Rattle.grid_lemmas.proofs.Lists.{map_got}
use Rattle.grid_groups.proofs.Steps.{all_at, passed_next, skipped_next}
use Rattle.std.proofs.lemmas.List.{length-set}
use Rattle.grid_level.specs.declared.Placed.{Placed}
use Rattle.grid_level.specs.VoltageLevel.{VoltageLevel}
use Rattle.grid_level.specs.Kept.{KeepsLimits, among}
use Rattle.grid_level.specs.Passing.{nodes, is_branch_end}
use Rattle.grid_groups.specs.Labels.{label_of, labels_where}
use Rattle.grid_states.specs.Rows.{row_at}
use Rattle.grid_structure.specs.Sites.{levels}
use Rattle.grid_screen.specs.declared.walk.Touched.{Touched}
use Rattle.grid_screen.specs.Grounds.{Ground, IsGround, fault_flags}
use Rattle.grid_outages.specs.Changes.{level_without}
use Rattle.grid_screen.specs.Walks.{label_by, label_in, hits_in, is_end_in, ends_in, AreEnds, CanList, IsTouched, IsUntouched, CanHit, IsHitIn}
use Rattle.grid_screen.proofs.FaultEdges as passed

-- ---- the ends of branches

pub ends_as : (l k : VoltageLevel) (labels names : List ℕ) (placed : List Placed) (ends lists : List (List (List ℕ))) → k ≡ l → names ≡ labels → lists ≡ ends → AreEnds l labels placed ends → AreEnds k names placed lists
ends_as l k labels names placed ends lists d e f h =
    subst (λ (z : VoltageLevel). AreEnds z names placed lists) (sym d) (subst (λ (z : List ℕ). AreEnds l z placed lists) (sym e) (subst (λ (z : List (List (List ℕ))). AreEnds l labels placed z) (sym f) h))

-- none of no terminals
pub no_ends : (l : VoltageLevel) (labels : List ℕ) (ends : List (List (List ℕ))) → length ends ≡ length labels → ((k : ℕ) → get_or ends k [] ≡ []) → AreEnds l labels [] ends
unfolding ends_in
no_ends l labels ends long none = record { long = long; each = none }

module _ (l : VoltageLevel) (labels : List ℕ) (ps : List Placed) (i : ℕ) (p : Placed) (ends : List (List (List ℕ))) (lt : i < length ps) (at : p ≡ get_or ps i p) (was : AreEnds l labels (take i ps) ends) where
  at_label : ℕ
  at_label = label_by l labels p.node

  skips : (label : ℕ) → is_end_in l labels label p ≡ false → get_or ends label [] ≡ ends_in l labels (take (i + 1) ps) label
  unfolding ends_in
  skips label e = was.each label ∙ skipped_next (λ (q : Placed). q.terminal.equipment) (is_end_in l labels label) ps i p lt at e

  -- a terminal of no branch
  pub ends_skipped : is_branch_end p.stand ≡ false → AreEnds l labels (take (i + 1) ps) ends
  ends_skipped e = record { long = was.long; each = λ label. skips label (ap (λ z. z && (label_by l labels p.node == label)) e) }

  -- a branch end is put last in the list of its label
  pub ends_more : (new : List (List (List ℕ))) → is_branch_end p.stand ≡ true → label_by l labels p.node < length ends
      → new ≡ slice_set ends (label_by l labels p.node) (get_or ends (label_by l labels p.node) [] ++ p.terminal.equipment ∷ []) → AreEnds l labels (take (i + 1) ps) new
  unfolding ends_in at_label
  ends_more new e below is = record { long = ap length is ∙ length-set ends at_label _ ∙ was.long; each = λ label. by label (label_by l labels p.node == label) refl }
    where
      nor : (u : Bool) → (u && false) ≡ false
      nor true = refl
      nor false = refl

      own : (label : ℕ) → label_by l labels p.node ≡ label → get_or new label [] ≡ ends_in l labels (take (i + 1) ps) label
      own label same =
          ap (λ z. get_or z label []) is ∙ ap (λ z. get_or (slice_set ends at_label (get_or ends at_label [] ++ p.terminal.equipment ∷ [])) z []) (sym same) ∙ get_or-set_same ends at_label (get_or ends at_label [] ++ p.terminal.equipment ∷ []) [] below
          ∙ ap (λ z. get_or ends z [] ++ p.terminal.equipment ∷ []) same
          ∙ ap (λ z. z ++ p.terminal.equipment ∷ []) (was.each label)
          ∙ passed_next (λ (q : Placed). q.terminal.equipment) (is_end_in l labels label) ps i p lt at (and_from (is_branch_end p.stand) (label_by l labels p.node == label) e (eq-eqb (label_by l labels p.node) label same))

      by : (label : ℕ) (u : Bool) → (label_by l labels p.node == label) ≡ u → get_or new label [] ≡ ends_in l labels (take (i + 1) ps) label
      by label true q = own label (eqb-true (label_by l labels p.node) label q)
      by label false q =
          let ne : label ≢ at_label = λ f. true≢false (sym (eq-eqb (label_by l labels p.node) label (sym f)) ∙ q) in
          ap (λ z. get_or z label []) is ∙ get_or-set_other ends at_label label (get_or ends at_label [] ++ p.terminal.equipment ∷ []) [] ne ∙ skips label (ap (λ z. is_branch_end p.stand && z) q ∙ nor (is_branch_end p.stand))

pub placed_among_at : (ns : List ℕ) (ps : List Placed) (i : ℕ) (p : Placed) → IsTrue (list_all (λ (q : Placed). among ns q.node) ps) → i < length ps → p ≡ get_or ps i p → IsTrue (among ns p.node)
placed_among_at ns ps i p all lt at = all_at (λ (q : Placed). among ns q.node) ps i p all lt at

-- ---- the terminals before the fault

fewer : {X : Type 0} (p q : X → Bool) (xs : List X) → list_all p xs ≡ true → list_all p (filter q xs) ≡ true
fewer p q [] h = refl
fewer p q (x ∷ xs) h =
    let both = and_parts (p x) (list_all p xs) h in
    by (q x) both.0 (fewer p q xs both.1)
  where
    by : (t : Bool) → p x ≡ true → list_all p (filter q xs) ≡ true → list_all p (cond t (x ∷ filter q xs) (filter q xs)) ≡ true
    by true here again = and_from (p x) (list_all p (filter q xs)) here again
    by false here again = again

-- the level before the fault has no terminals but those of the level that is screened
present_is : (g : Ground) (b : IsGround g) (k : ℕ) (l m : VoltageLevel) → slice_get (levels g.net) k ≡ Some l → slice_get g.present k ≡ Some m → m ≡ level_without b.removed l
present_is g b k l m at now =
    let there = map_got (level_without b.removed) (levels g.net) k l at in
    let one : ◌≡◌ {A = Option VoltageLevel} (Some m) (Some (level_without b.removed l)) = sym now ∙ ap (λ (z : List VoltageLevel). slice_get z k) b.left ∙ there in
    cc

-- the terminals of a level before the fault are listed by the labels of its nodes
pub can_list : (g : Ground) (k : ℕ) (l m : VoltageLevel) (labels : List ℕ) → IsGround g → slice_get (levels g.net) k ≡ Some l → KeepsLimits l → slice_get g.present k ≡ Some m
    → labels ≡ labels_where l (fault_flags g.stuck l.switches (row_at g.opened k)) → CanList l labels m.placed
unfolding level_without
can_list g k l m labels b at keeps now e =
    let flags = fault_flags g.stuck l.switches (row_at g.opened k) in
    let ns = nodes l in
    let left = ap (λ (z : VoltageLevel). z.placed) (present_is g b k l m at now) in
    record {
      there = subst (λ (z : List Placed). list_all (λ (p : Placed). among ns p.node) z ≡ true) (sym left) (fewer (λ (p : Placed). among ns p.node) (λ (p : Placed). not (has_id b.removed p.terminal.equipment)) l.placed keeps.placed_are_nodes);
      long = passed.long l flags labels keeps e;
      below = λ node i. passed.below l flags labels keeps e node i;
    }

-- ---- a level that was looked at

pub looked : (g : Ground) (place : ℕ) (l m : VoltageLevel) (labels : List ℕ) (ends : List (List (List ℕ))) (t : Touched) → slice_get (levels g.net) place ≡ Some l → slice_get g.present place ≡ Some m → KeepsLimits l
    → labels ≡ labels_where l (fault_flags g.stuck l.switches (row_at g.opened place)) → AreEnds l labels m.placed ends → IsUntouched l labels ends t → IsTouched g place t
looked g place l m labels ends t at now keeps e listed u =
    let long = passed.long l (fault_flags g.stuck l.switches (row_at g.opened place)) labels keeps e in
    record {
      at = at ∙ ap (λ z. Some z) (sym u.level_is);
      keeps = subst KeepsLimits (sym u.level_is) keeps;
      labels = u.labels_are ∙ e ∙ ap (λ (z : VoltageLevel). labels_where z (fault_flags g.stuck z.switches (row_at g.opened place))) (sym u.level_is);
      long = u.long ∙ long ∙ ap (λ (z : VoltageLevel). length (nodes z)) (sym u.level_is);
      present = m;
      there = now;
      ends = ends_as l t.level.now labels t.labels.items m.placed ends t.ends.items u.level_is u.labels_are u.ends_are listed;
    }

-- ---- one label is hit

pub can_hit : (g : Ground) (k node : ℕ) (t : Touched) → IsTouched g k t → IsTrue (among (nodes t.level.now) node) → CanHit t node
can_hit g k node t h i =
    let l = t.level.now in
    let flags = fault_flags g.stuck l.switches (row_at g.opened k) in
    let long = passed.long l flags t.labels.items h.keeps h.labels in
    record { here = i; long = long; hit = h.long ∙ sym long; ends = h.ends.long; below = passed.below l flags t.labels.items h.keeps h.labels node i }

module _ (old : Touched) (node : ℕ) (new : Touched) (is : IsHitIn old node new) (below : label_in old node < length old.hit.items) where
  label_stays : (n : ℕ) → label_in new n ≡ label_in old n
  label_stays n = ap (λ (z : VoltageLevel). label_of (nodes z) new.labels.items n) is.level ∙ ap (λ z. label_of (nodes old.level.now) z n) is.labels

  reads : (n : ℕ) → hits_in new n ≡ get_or (slice_set old.hit.items (label_in old node) true) (label_in old n) false
  reads n = ap (λ z. get_or z (label_in new n) false) is.hit ∙ ap (λ z. get_or (slice_set old.hit.items (label_in old node) true) z false) (label_stays n)

  pub hit_same : (n : ℕ) → label_in old n ≡ label_in old node → hits_in new n ≡ true
  hit_same n e = reads n ∙ ap (λ z. get_or (slice_set old.hit.items (label_in old node) true) z false) e ∙ get_or-set_same old.hit.items (label_in old node) true false below

  other : (n : ℕ) → label_in old n ≢ label_in old node → hits_in new n ≡ hits_in old n
  other n ne = reads n ∙ get_or-set_other old.hit.items (label_in old node) (label_in old n) true false ne

  differs : (n : ℕ) → (label_in old n == label_in old node) ≡ false → label_in old n ≢ label_in old node
  differs n e f = true≢false (sym (eq-eqb (label_in old n) (label_in old node) f) ∙ e)

  pub hit_more : (n : ℕ) → hits_in old n ≡ true → hits_in new n ≡ true
  hit_more n h = by (label_in old n == label_in old node) refl
    where
      by : (t : Bool) → (label_in old n == label_in old node) ≡ t → hits_in new n ≡ true
      by true e = hit_same n (eqb-true (label_in old n) (label_in old node) e)
      by false e = other n (differs n e) ∙ h

  pub hit_cases : (n : ℕ) → hits_in new n ≡ true → (label_in old n ≡ label_in old node) ⊎ (hits_in old n ≡ true)
  hit_cases n h = by (label_in old n == label_in old node) refl
    where
      by : (t : Bool) → (label_in old n == label_in old node) ≡ t → (label_in old n ≡ label_in old node) ⊎ (hits_in old n ≡ true)
      by true e = inl (eqb-true (label_in old n) (label_in old node) e)
      by false e = inr (sym (other n (differs n e)) ∙ h)

pub was_hit : (t : Touched) (node : ℕ) → hits_in t node ≡ true → IsHitIn t node t
was_hit t node h = record { level = refl; labels = refl; ends = refl; hit = sym (set_true t.hit.items (label_in t node) h) }
  where
    set_true : (row : List Bool) (p : ℕ) → get_or row p false ≡ true → slice_set row p true ≡ row
    set_true [] p h = absurd (false≢true h)
    set_true (x ∷ row) zero h = ap (λ z. z ∷ row) (sym h)
    set_true (x ∷ row) (suc p) h = ap (λ z. x ∷ z) (set_true row p h)
