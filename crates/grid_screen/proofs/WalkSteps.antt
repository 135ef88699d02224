-- What a walk has hit after more sites: just what edges join to them, and the equipment of new branch ends waits.
use Rattle.std.proofs.Common.{◌≡◌, refl, sym, ap, ◌∙◌, subst, ℕ, zero, suc, ◌<◌, ◌≢◌, Bool, true, false, cond, List, [], ◌∷◌, ◌++◌, length, get_or, take, ◌+◌, inl, inr, ◌⊎◌, arith, Some, None, Option, get_or-set_same, get_or-set_other}
use Rattle.std.specs.Prelude.{slice_get, slice_set, ◌==◌, Box, filter, map}
use Rattle.std.specs.declared.alloc.Global.{Global}
use Rattle.std.specs.List.{flat_map}
use Rattle.std.proofs.lemmas.Bool.{and_parts, and_from, or_cases, or_left, or_right, eqb-true, eq-eqb, true≢false}
use Rattle.std.proofs.lemmas.List.{length-set, append-nil}
use Rattle.std.proofs.lemmas.Grind.{flat_map-append}
use Rattle.grid_lemmas.proofs.Lists.{take_next}
use Rattle.grid_ids.specs.Name.{same_id, has_id}
use Rattle.grid_ids.proofs.Alike.{has_join, same_is, same_itself}
use Rattle.grid_level.specs.declared.Placed.{Placed}
use Rattle.grid_level.specs.VoltageLevel.{VoltageLevel}
use Rattle.grid_level.specs.Kept.{KeepsLimits, among}
use Rattle.grid_level.specs.Passing.{nodes, positioned, is_branch_end}
use Rattle.grid_groups.specs.Labels.{passing_where, labels_where}
use Rattle.grid_states.specs.Rows.{row_at}
use Rattle.grid_structure.specs.declared.Site.{Site}
use Rattle.grid_structure.specs.Sites.{levels}
use Rattle.grid_screen.specs.declared.walk.Touched.{Touched}
use Rattle.grid_screen.specs.declared.walk.Walk.{Walk}
use Rattle.grid_screen.specs.Grounds.{Ground, IsGround, fault_flags}
use Rattle.grid_screen.specs.Zones.{site_at, passing_fault}
use Rattle.grid_screen.specs.Walks.{Touches, touched_at, label_in, hits_in, hits_by, hits, IsNode, IsTouched, IsTouchedBy, AreTouched, IsHitIn, is_end_in, ends_in, waiting, HasEdges, HasSites, IsEnd, Grows}
use Rattle.grid_outages.proofs.Members.{Among, among_got, got_among, among_left, among_right, among_parts, among_map, map_among, among_filter, filter_among, any_among, any_found}
use Rattle.grid_screen.proofs.PairClosures.{IsClosed}
use Rattle.grid_screen.proofs.Grown.{ends_as, hit_same, hit_more, hit_cases}
use Rattle.grid_screen.proofs.FaultEdges as passed

-- ---- lists

pub got_below : {X : Type 0} (xs : List X) (k : ℕ) (x : X) → slice_get xs k ≡ Some x → k < length xs
got_below [] k x e = cc
got_below (y ∷ ys) zero x e = omega arith
got_below (y ∷ ys) (suc k) x e = let lt = got_below ys k x e in omega (arith, lt)

set_over : {X : Type 0} (xs : List X) (k : ℕ) (x y : X) → slice_set (slice_set xs k x) k y ≡ slice_set xs k y
set_over [] k x y = refl
set_over (z ∷ xs) zero x y = refl
set_over (z ∷ xs) (suc k) x y = ap (λ w. z ∷ w) (set_over xs k x y)

pub unlike : (a b : ℕ) → (a == b) ≡ false → a ≢ b
unlike a b e f = true≢false (sym (eq-eqb a b f) ∙ e)

pub had : (id : List ℕ) (ids : List (List ℕ)) → Among id ids → has_id ids id ≡ true
unfolding has_id
had id ids i = any_among (same_id id) id ids i (same_itself id)

pub has_some : (id : List ℕ) (ids : List (List ℕ)) → has_id ids id ≡ true → Among id ids
unfolding has_id
has_some id ids h = let f = any_found (same_id id) ids h in subst (λ (z : List ℕ). Among z ids) (sym (same_is id f.0 f.2)) f.1

pub flat_more : {X Y : Type 0} (f : X → List Y) (xs : List X) (i : ℕ) (x : X) → i < length xs → x ≡ get_or xs i x → flat_map f (take (i + 1) xs) ≡ flat_map f (take i xs) ++ f x
flat_more f xs i x lt at = ap (flat_map f) (take_next xs i x lt at) ∙ flat_map-append f (take i xs) (x ∷ []) ∙ ap (λ z. flat_map f (take i xs) ++ z) (append-nil (f x))

-- the node of a site is one of the level that was looked at there
pub node_there : (g : Ground) (s : Site) (t : Touched) → IsNode g.net s → IsTouched g s.level t → among (nodes t.level.now) s.node ≡ true
node_there g s t h touched =
    let one : ◌≡◌ {A = Option VoltageLevel} (Some h.level) (Some t.level.now) = sym h.at ∙ touched.at in
    let level : h.level ≡ t.level.now = cc in
    subst (λ (z : VoltageLevel). among (nodes z) s.node ≡ true) level h.node

-- the equipment of the branch ends that wait when a node is hit, by the terminals of the level before the fault
unfoldable pub new_ends : Touched → List Placed → ℕ → List (List ℕ)
new_ends t placed node = cond (hits_in t node) [] (ends_in t.level.now t.labels.items placed (label_in t node))

pub waiting_is : (g : Ground) (k node : ℕ) (t : Touched) (touched : IsTouched g k t) → waiting t node ≡ new_ends t touched.present.placed node
unfolding waiting new_ends
waiting_is g k node t touched = ap (cond (hits_in t node) []) (touched.ends.each (label_in t node))

-- ---- no site more

pub grows_none : (g : Ground) (walk : Walk) → AreTouched g walk.touched → Grows g walk walk []
grows_none g walk sees = record {
  touched = sees;
  here = λ i s e. cc;
  kept = λ s h. h;
  least = λ set edges starts old s node h. old s node h;
  ends = λ s p e h. inl h;
  waits = λ id h. h;
  reasons = λ id h. inl h;
}

-- ---- one site more

module _ (g : Ground) (old new : Walk) (s : Site) (t : Touched) (m : VoltageLevel) (box : Box Touched Global)
    (ground : IsGround g) (sees : AreTouched g old.touched) (is_node : IsNode g.net s) (touched : IsTouched g s.level t)
    (same : (n : ℕ) → hits_in t n ≡ hits_by (touched_at old.touched s.level) n) (now : slice_get g.present s.level ≡ Some m)
    (below : label_in t s.node < length t.hit.items) (is : IsHitIn t s.node box.value)
    (put : new.touched ≡ slice_set (slice_set old.touched s.level None) s.level (Some box))
    (work : new.work ≡ old.work ++ new_ends t m.placed s.node) where
  lt : s.level < length old.touched
  lt = let inside = got_below (levels g.net) s.level is_node.level is_node.at in omega (arith, inside, sees.long)

  once : new.touched ≡ slice_set old.touched s.level (Some box)
  once = put ∙ set_over old.touched s.level None (Some box)

  at_here : touched_at new.touched s.level ≡ Some box
  at_here = ap (λ (z : Touches). touched_at z s.level) once ∙ get_or-set_same old.touched s.level (Some box) None lt

  at_other : (j : ℕ) → j ≢ s.level → touched_at new.touched j ≡ touched_at old.touched j
  at_other j ne = ap (λ (z : Touches). touched_at z j) once ∙ get_or-set_other old.touched s.level j (Some box) None ne

  new_at : (q : Site) → q.level ≡ s.level → hits new.touched q ≡ hits_in box.value q.node
  unfolding hits
  new_at q e = ap (λ z. hits_by (touched_at new.touched z) q.node) e ∙ ap (λ z. hits_by z q.node) at_here

  old_at : (q : Site) → q.level ≡ s.level → hits old.touched q ≡ hits_in t q.node
  unfolding hits
  old_at q e = ap (λ z. hits_by (touched_at old.touched z) q.node) e ∙ sym (same q.node)

  stays : (q : Site) → q.level ≢ s.level → hits new.touched q ≡ hits old.touched q
  unfolding hits
  stays q ne = ap (λ z. hits_by z q.node) (at_other q.level ne)

  flags : List Bool
  flags = fault_flags g.stuck t.level.now.switches (row_at g.opened s.level)

  each : (k : ℕ) → IsTouchedBy g k (touched_at new.touched k)
  each k = by (k == s.level) refl
    where
      own : IsTouched g s.level box.value
      own = record {
        at = touched.at ∙ ap (λ z. Some z) (sym is.level);
        keeps = subst KeepsLimits (sym is.level) touched.keeps;
        labels = is.labels ∙ touched.labels ∙ ap (λ (z : VoltageLevel). labels_where z (fault_flags g.stuck z.switches (row_at g.opened s.level))) (sym is.level);
        long = ap length is.hit ∙ length-set t.hit.items (label_in t s.node) true ∙ touched.long ∙ ap (λ (z : VoltageLevel). length (nodes z)) (sym is.level);
        present = touched.present;
        there = touched.there;
        ends = ends_as t.level.now box.value.level.now t.labels.items box.value.labels.items touched.present.placed t.ends.items box.value.ends.items is.level is.labels is.ends touched.ends;
      }

      by : (u : Bool) → (k == s.level) ≡ u → IsTouchedBy g k (touched_at new.touched k)
      by true e =
          let j = eqb-true k s.level e in
          subst (λ (z : ℕ). IsTouchedBy g z (touched_at new.touched z)) (sym j) (subst (IsTouchedBy g s.level) (sym at_here) own)
      by false e = subst (IsTouchedBy g k) (sym (at_other k (unlike k s.level e))) (sees.each k)

  closed : (set : Site → Bool) → HasEdges g set → IsClosed (λ n. set (site_at s.level n)) (passing_where t.level.now flags)
  unfolding flags
  closed set edges pair i =
      let l = t.level.now in
      let there = subst (λ (z : List (ℕ × ℕ)). Among pair z) (sym (passed.fault_passing g.stuck l (row_at g.opened s.level) (ground.flags s.level l touched.at))) i in
      let got = got_among pair (passing_fault g.stuck (positioned l (row_at g.opened s.level))) there in
      edges s.level got.0 l pair touched.at got.1

  among_here : (q : Site) → q.level ≡ s.level → IsNode g.net q → among (nodes t.level.now) q.node ≡ true
  among_here q e h =
      let one : ◌≡◌ {A = Option VoltageLevel} (Some h.level) (Some t.level.now) = sym h.at ∙ ap (slice_get (levels g.net)) e ∙ touched.at in
      let level : h.level ≡ t.level.now = cc in
      subst (λ (z : VoltageLevel). among (nodes z) q.node ≡ true) level h.node

  kept : (q : Site) → hits old.touched q ≡ true → hits new.touched q ≡ true
  kept q h = by (q.level == s.level) refl
    where
      by : (u : Bool) → (q.level == s.level) ≡ u → hits new.touched q ≡ true
      by true e = let j = eqb-true q.level s.level e in new_at q j ∙ hit_more t s.node box.value is below q.node (sym (old_at q j) ∙ h)
      by false e = stays q (unlike q.level s.level e) ∙ h

  least : (set : Site → Bool) → HasEdges g set → HasSites set (s ∷ []) → ((q : Site) → IsNode g.net q → hits old.touched q ≡ true → set q ≡ true) → (q : Site) → IsNode g.net q → hits new.touched q ≡ true → set q ≡ true
  unfolding flags
  least set edges starts before q h hit = by (q.level == s.level) refl
    where
      by : (u : Bool) → (q.level == s.level) ≡ u → set q ≡ true
      by true e =
          let j = eqb-true q.level s.level e in
          elim (hit_cases t s.node box.value is below q.node (sym (new_at q j) ∙ hit)) [
            | inl label ↦
                ap (λ z. set (site_at z q.node)) j
                ∙ sym (passed.same_set t.level.now flags t.labels.items touched.keeps touched.labels (λ n. set (site_at s.level n)) (closed set edges) s.node q.node (among_here s refl is_node) (among_here q j h) label)
                ∙ starts 0 s refl
            | inr was ↦ before q h (old_at q j ∙ was)
          ]
      by false e = before q h (sym (stays q (unlike q.level s.level e)) ∙ hit)

  fresh : hits_in t s.node ≡ false → (id : List ℕ) → Among id (ends_in t.level.now t.labels.items m.placed (label_in t s.node)) → has_id new.work id ≡ true
  unfolding new_ends
  fresh e id i =
      let ends : new_ends t m.placed s.node ≡ ends_in t.level.now t.labels.items m.placed (label_in t s.node) = rw e refl in
      ap (λ z. has_id z id) (work ∙ ap (λ z. old.work ++ z) ends) ∙ has_join old.work (ends_in t.level.now t.labels.items m.placed (label_in t s.node)) id ∙ or_right (has_id old.work id) _ (had id (ends_in t.level.now t.labels.items m.placed (label_in t s.node)) i)

  ends : (q : Site) (p : Placed) → IsEnd g q p → hits new.touched q ≡ true → (hits old.touched q ≡ true) ⊎ (has_id new.work p.terminal.equipment ≡ true)
  unfolding ends_in
  ends q p end hit = by (q.level == s.level) refl
    where
      new_end : q.level ≡ s.level → label_in t q.node ≡ label_in t s.node → hits_in t s.node ≡ false → has_id new.work p.terminal.equipment ≡ true
      new_end j label e =
          let one : ◌≡◌ {A = Option VoltageLevel} (Some end.level) (Some m) = sym end.at ∙ ap (slice_get g.present) j ∙ now in
          let level : end.level ≡ m = cc in
          let there = subst (λ (z : VoltageLevel). slice_get z.placed end.index ≡ Some p) level end.stands in
          let passes = and_from (is_branch_end p.stand) (label_in t p.node == label_in t s.node) end.ends (eq-eqb (label_in t p.node) (label_in t s.node) (ap (label_in t) end.node ∙ label)) in
          fresh e p.terminal.equipment (among_map (λ (x : Placed). x.terminal.equipment) p (filter (is_end_in t.level.now t.labels.items (label_in t s.node)) m.placed) (among_filter (is_end_in t.level.now t.labels.items (label_in t s.node)) p m.placed (among_got m.placed end.index p there) passes))

      one_label : (u : Bool) → hits_in t s.node ≡ u → q.level ≡ s.level → label_in t q.node ≡ label_in t s.node → (hits old.touched q ≡ true) ⊎ (has_id new.work p.terminal.equipment ≡ true)
      one_label true e j label = inl (old_at q j ∙ ap (λ z. get_or t.hit.items z false) label ∙ e)
      one_label false e j label = inr (new_end j label e)

      by : (u : Bool) → (q.level == s.level) ≡ u → (hits old.touched q ≡ true) ⊎ (has_id new.work p.terminal.equipment ≡ true)
      by true e =
          let j = eqb-true q.level s.level e in
          elim (hit_cases t s.node box.value is below q.node (sym (new_at q j) ∙ hit)) [
            | inl label ↦ one_label (hits_in t s.node) refl j label
            | inr was ↦ inl (old_at q j ∙ was)
          ]
      by false e = inl (sym (stays q (unlike q.level s.level e)) ∙ hit)

  reasons : (id : List ℕ) → has_id new.work id ≡ true → (has_id old.work id ≡ true) ⊎ ((q : Site) × (p : Placed) × IsEnd g q p × (hits new.touched q ≡ true) × (p.terminal.equipment ≡ id))
  unfolding new_ends ends_in
  reasons id h =
      elim (or_cases (has_id old.work id) (has_id (new_ends t m.placed s.node) id) (sym (has_join old.work (new_ends t m.placed s.node) id) ∙ ap (λ z. has_id z id) (sym work) ∙ h)) [
        | inl was ↦ inl was
        | inr is_new ↦ inr (by (hits_in t s.node) (has_some id (new_ends t m.placed s.node) is_new))
      ]
    where
      Reason : Type 0
      Reason = (q : Site) × (p : Placed) × IsEnd g q p × (hits new.touched q ≡ true) × (p.terminal.equipment ≡ id)

      by : (u : Bool) → Among id (cond u [] (map (λ (x : Placed). x.terminal.equipment) (filter (is_end_in t.level.now t.labels.items (label_in t s.node)) m.placed))) → Reason
      by true i = absurd i
      by false i =
          let p = map_among (λ (x : Placed). x.terminal.equipment) id (filter (is_end_in t.level.now t.labels.items (label_in t s.node)) m.placed) i in
          let passes = filter_among (is_end_in t.level.now t.labels.items (label_in t s.node)) p.0 m.placed p.1 in
          let parts = and_parts (is_branch_end p.0.stand) (label_in t p.0.node == label_in t s.node) passes.1 in
          let got = got_among p.0 m.placed passes.0 in
          let q : Site = site_at s.level p.0.node in
          (q, p.0, record { level = m; at = now; index = got.0; stands = got.1; ends = parts.0; node = refl }, new_at q refl ∙ hit_same t s.node box.value is below p.0.node (eqb-true (label_in t p.0.node) (label_in t s.node) parts.1), sym p.2)

  pub grows_hit : Grows g old new (s ∷ [])
  grows_hit = record {
    touched = record { long = ap length once ∙ length-set old.touched s.level (Some box) ∙ sees.long; each = each };
    here = λ i q e. here_at i q e;
    kept = kept;
    least = least;
    ends = ends;
    waits = λ id h. ap (λ z. has_id z id) work ∙ has_join old.work (new_ends t m.placed s.node) id ∙ or_left (has_id old.work id) _ h;
    reasons = reasons;
  }
    where
      here_at : (i : ℕ) (q : Site) → slice_get (s ∷ []) i ≡ Some q → hits new.touched q ≡ true
      here_at zero q e =
          let is_it : s ≡ q = cc in
          subst (λ (z : Site). hits new.touched z ≡ true) is_it (new_at s refl ∙ hit_same t s.node box.value is below s.node refl)
      here_at (suc i) q e = cc

-- ---- one after the other

pub grows_both : (g : Ground) (a b c : Walk) (first second : List Site) → Grows g a b first → Grows g b c second → Grows g a c (first ++ second)
grows_both g a b c first second u v = record {
  touched = v.touched;
  here = λ i s e. elim (among_parts s first second (among_got (first ++ second) i s e)) [
    | inl h ↦ (let got = got_among s first h in v.kept s (u.here got.0 s got.1))
    | inr h ↦ (let got = got_among s second h in v.here got.0 s got.1)
  ];
  kept = λ s h. v.kept s (u.kept s h);
  least = λ set edges starts before s node hit.
      v.least set edges (λ i q e. let got = got_among q (first ++ second) (among_right q first second (among_got second i q e)) in starts got.0 q got.1)
      (u.least set edges (λ i q e. let got = got_among q (first ++ second) (among_left q first second (among_got first i q e)) in starts got.0 q got.1) before) s node hit;
  ends = λ s p e h. elim (v.ends s p e h) [
    | inl was ↦ elim (u.ends s p e was) [ inl first_was ↦ inl first_was | inr waits ↦ inr (v.waits p.terminal.equipment waits) ]
    | inr waits ↦ inr waits
  ];
  waits = λ id h. v.waits id (u.waits id h);
  reasons = λ id h. elim (v.reasons id h) [
    | inl was ↦ elim (u.reasons id was) [ inl first_was ↦ inl first_was | inr r ↦ inr (r.0, r.1, r.2, v.kept r.0 r.3, r.4) ]
    | inr r ↦ inr r
  ];
}
