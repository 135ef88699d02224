-- A walk that goes on until nothing waits has hit just what edges and branches join to the starts.
use Rattle.std.proofs.Common.{◌≡◌, refl, sym, ap, ◌∙◌, subst, ℕ, zero, suc, ◌<◌, Bool, true, false, List, [], ◌∷◌, ◌++◌, length, get_or, inl, inr, ◌⊎◌, arith, Some, None, Option}
use Rattle.std.specs.Prelude.{slice_get, filter, map, not}
use Rattle.std.proofs.lemmas.Bool.{or_cases, or_left, or_right, false≢true}
use Rattle.grid_ids.specs.Name.{has_id}
use Rattle.grid_ids.proofs.Alike.{has_join}
use Rattle.grid_level.specs.declared.Placed.{Placed}
use Rattle.grid_level.specs.VoltageLevel.{VoltageLevel}
use Rattle.grid_level.specs.Kept.{among}
use Rattle.grid_level.specs.Passing.{nodes, positioned}
use Rattle.grid_level.specs.Sound.{level_passes}
use Rattle.grid_lemmas.proofs.Lists.{all_at}
use Rattle.grid_outages.specs.Changes.{level_without}
use Rattle.grid_states.specs.Rows.{row_at}
use Rattle.grid_structure.specs.declared.Site.{Site}
use Rattle.grid_structure.specs.Sites.{levels}
use Rattle.std.specs.Prelude.{Box}
use Rattle.std.specs.declared.alloc.Global.{Global}
use Rattle.grid_screen.specs.declared.walk.Touched.{Touched}
use Rattle.grid_screen.specs.declared.walk.Walk.{Walk}
use Rattle.grid_screen.specs.Grounds.{Ground, IsGround, fault_flags}
use Rattle.grid_screen.specs.Zones.{passing_fault, sites_of_equipment}
use Rattle.grid_screen.specs.Walks.{Touches, touched_at, hits_by, hits, IsNode, IsTouchedBy, AreTouched, HasEdges, HasEnds, HasSites, IsEnd, Grows, IsOpen, Reaches, Runs, IsSettled}
use Rattle.grid_outages.proofs.Members.{Among, among_got, got_among, filter_among}
use Rattle.grid_screen.proofs.WalkSteps.{had, has_some}
use Rattle.grid_screen.proofs.FaultEdges as passed

-- ---- branch ends

pub map_back : {X Y : Type 0} (f : X → Y) (xs : List X) (k : ℕ) (y : Y) → slice_get (map f xs) k ≡ Some y → (x : X) × (slice_get xs k ≡ Some x) × (f x ≡ y)
map_back f [] k y e = cc
map_back f (x ∷ xs) zero y e = (x, refl, cc)
map_back f (x ∷ xs) (suc k) y e = map_back f xs k y e

-- a branch end before the fault stands in the level that is screened
pub record Screened (g : Ground) (b : IsGround g) (s : Site) (p : Placed) : Type 0 where
  pub level : VoltageLevel
  pub at : slice_get (levels g.net) s.level ≡ Some level
  pub index : ℕ
  pub stands : slice_get level.placed index ≡ Some p
  pub left : has_id b.removed p.terminal.equipment ≡ false

pub end_screened : (g : Ground) (b : IsGround g) (s : Site) (p : Placed) → IsEnd g s p → Screened g b s p
unfolding level_without
end_screened g b s p end =
    let level = map_back (level_without b.removed) (levels g.net) s.level end.level (ap (λ (z : List VoltageLevel). slice_get z s.level) (sym b.left) ∙ end.at) in
    let keep = λ (q : Placed). not (has_id b.removed q.terminal.equipment) in
    let among_left = among_got (filter keep level.0.placed) end.index p (ap (λ (z : VoltageLevel). slice_get z.placed end.index) level.2 ∙ end.stands) in
    let both = filter_among keep p level.0.placed among_left in
    let got = got_among p level.0.placed both.0 in
    record { level = level.0; at = level.1; index = got.0; stands = got.1; left = is_false (has_id b.removed p.terminal.equipment) both.1 }
  where
    is_false : (t : Bool) → not t ≡ true → t ≡ false
    is_false true e = absurd (false≢true e)
    is_false false e = refl

pub end_is_node : (g : Ground) → IsGround g → (s : Site) (p : Placed) → IsEnd g s p → IsNode g.net s
end_is_node g b s p end =
    let at = end_screened g b s p end in
    let keeps = passed.keeps_of at.level (all_at level_passes (levels g.net) s.level at.level b.sound.each_level at.at) in
    record {
      level = at.level;
      at = at.at;
      node = ap (among (nodes at.level)) (sym end.node) ∙ all_at (λ (q : Placed). among (nodes at.level) q.node) at.level.placed at.index p keeps.placed_are_nodes at.stands;
    }

-- ---- one id after the other

pub reaches_none : (g : Ground) (touched : Touches) → Reaches g touched touched
reaches_none g touched = record { kept = λ s h. h; least = λ set edges ends before s node h. before s node h }

-- an id that waits is the one that is taken, or one that still waits
taken_id : (rest : List (List ℕ)) (id other : List ℕ) (work : List (List ℕ)) → work ≡ rest ++ id ∷ [] → has_id work other ≡ true → (other ≡ id) ⊎ (has_id rest other ≡ true)
taken_id rest id other work e h = elim (or_cases (has_id rest other) (has_id (id ∷ []) other) (sym (has_join rest (id ∷ []) other) ∙ ap (λ z. has_id z other) (sym e) ∙ h)) [
  | inl still ↦ inr still
  | inr one ↦ inl (own (has_some other (id ∷ []) one))
]
  where
    own : Among other (id ∷ []) → other ≡ id
    own (inl same) = same
    own (inr i) = absurd i

rest_waits : (rest : List (List ℕ)) (id other : List ℕ) (work : List (List ℕ)) → work ≡ rest ++ id ∷ [] → has_id rest other ≡ true → has_id work other ≡ true
rest_waits rest id other work e h = ap (λ z. has_id z other) e ∙ has_join rest (id ∷ []) other ∙ or_left (has_id rest other) _ h

id_waits : (rest : List (List ℕ)) (id : List ℕ) (work : List (List ℕ)) → work ≡ rest ++ id ∷ [] → has_id work id ≡ true
id_waits rest id work e = ap (λ z. has_id z id) e ∙ has_join rest (id ∷ []) id ∙ or_right (has_id rest id) _ (had id (id ∷ []) (inl refl))

module _ (g : Ground) (ground : IsGround g) (old mid new : Walk) (id : List ℕ) (is_open : IsOpen g old) (same : mid.touched ≡ old.touched) (work : old.work ≡ mid.work ++ id ∷ []) (grows : Grows g mid new (sites_of_equipment g.net id)) where
  kept : (s : Site) → hits old.touched s ≡ true → hits new.touched s ≡ true
  kept s h = grows.kept s (ap (λ (z : Touches). hits z s) same ∙ h)

  pub open_more : IsOpen g new
  open_more = record {
    touched = grows.touched;
    pending = λ s p end hit. elim (grows.ends s p end hit) [
      | inl was ↦ elim (is_open.pending s p end (ap (λ (z : Touches). hits z s) (sym same) ∙ was)) [
        | inl waits ↦ elim (taken_id mid.work id p.terminal.equipment old.work work waits) [
          | inl own ↦ inr (subst (λ (z : List ℕ). HasSites (hits new.touched) (sites_of_equipment g.net z)) (sym own) grows.here)
          | inr still ↦ inl (grows.waits p.terminal.equipment still)
        ]
        | inr all ↦ inr (λ i q e. kept q (all i q e))
      ]
      | inr waits ↦ inl waits
    ];
    reasons = λ other h. elim (grows.reasons other h) [
      | inl was ↦ (let r = is_open.reasons other (rest_waits mid.work id other old.work work was) in (r.0, r.1, r.2, kept r.0 r.3, r.4))
      | inr r ↦ r
    ];
  }

  pub reaches_more : (first : Touches) → Reaches g first old.touched → Reaches g first new.touched
  reaches_more first r = record {
    kept = λ s h. kept s (r.kept s h);
    least = λ set edges ends before s node hit.
        let was = λ (q : Site) (n : IsNode g.net q) (h : hits old.touched q ≡ true). r.least set edges ends before q n h in
        let why = is_open.reasons id (id_waits mid.work id old.work work) in
        grows.least set edges (subst (λ (z : List ℕ). HasSites set (sites_of_equipment g.net z)) why.4 (ends why.0 why.1 why.2 (was why.0 (end_is_node g ground why.0 why.1 why.2) why.3)))
        (λ q n h. was q n (ap (λ (z : Touches). hits z q) (sym same) ∙ h)) s node hit;
  }

pub nothing_left : {X : Type 0} (xs : List X) → (0 < length xs → ⊥) → xs ≡ []
nothing_left [] h = refl
nothing_left (x ∷ xs) h = absurd (h (omega arith))

pub ends_all : (g : Ground) (walk : Walk) → IsOpen g walk → walk.work ≡ [] → HasEnds g (hits walk.touched)
unfolding has_id
ends_all g walk is_open e s p end hit = elim (is_open.pending s p end hit) [
  | inl waits ↦ absurd (false≢true (ap (λ z. has_id z p.terminal.equipment) (sym e) ∙ waits))
  | inr all ↦ all
]

-- ---- from nowhere to the end

pub none_touched : (g : Ground) (touched : Touches) → length touched ≡ length (levels g.net) → ((k : ℕ) → touched_at touched k ≡ None) → AreTouched g touched
none_touched g touched long none = record { long = long; each = λ k. subst (IsTouchedBy g k) (sym (none k)) tt }

none_hit : (touched : Touches) → ((k : ℕ) → touched_at touched k ≡ None) → (s : Site) → hits touched s ≡ true → ⊥
unfolding hits
none_hit touched none s h = false≢true (sym (ap (λ z. hits_by z s.node) (none s.level)) ∙ h)

pub opened : (g : Ground) (first walk : Walk) (starts : List Site) → ((k : ℕ) → touched_at first.touched k ≡ None) → first.work ≡ [] → Grows g first walk starts → IsOpen g walk
unfolding has_id
opened g first walk starts none work grows = record {
  touched = grows.touched;
  pending = λ s p end hit. elim (grows.ends s p end hit) [ inl was ↦ absurd (none_hit first.touched none s was) | inr waits ↦ inl waits ];
  reasons = λ id h. elim (grows.reasons id h) [ inl was ↦ absurd (false≢true (ap (λ z. has_id z id) (sym work) ∙ was)) | inr r ↦ r ];
}

-- an edge has both ends hit or neither, as they have one label
pub edges_hit : (g : Ground) → IsGround g → (touched : Touches) → AreTouched g touched → HasEdges g (hits touched)
unfolding hits
edges_hit g ground touched each k i l pair at got = by (touched_at touched k) (each.each k)
  where
    by : (o : Option (Box Touched Global)) → IsTouchedBy g k o → hits_by o pair.0 ≡ hits_by o pair.1
    by None h = refl
    by (Some t) h =
        let one : ◌≡◌ {A = Option VoltageLevel} (Some l) (Some t.value.level.now) = sym at ∙ h.at in
        let same : l ≡ t.value.level.now = cc in
        let own = t.value.level.now in
        let flags = fault_flags g.stuck own.switches (row_at g.opened k) in
        let there = subst (λ (z : VoltageLevel). Among pair (passing_fault g.stuck (positioned z (row_at g.opened k)))) same (among_got (passing_fault g.stuck (positioned l (row_at g.opened k))) i pair got) in
        let passes = subst (λ z. Among pair z) (passed.fault_passing g.stuck own (row_at g.opened k) (ground.flags k own h.at)) there in
        ap (λ z. get_or t.value.hit.items z false) (passed.pair_label own flags t.value.labels.items h.keeps h.labels pair passes)

pub settled : (g : Ground) → IsGround g → (first walk last : Walk) (starts : List Site) → ((k : ℕ) → touched_at first.touched k ≡ None) → Grows g first walk starts → Runs g walk last → IsSettled g starts last.touched
settled g ground first walk last starts none grows runs = record {
  each = runs.touched;
  here = λ i s e. runs.reaches.kept s (grows.here i s e);
  edges = edges_hit g ground last.touched runs.touched;
  ends = runs.ends;
  least = λ set edges ends begun s node hit. runs.reaches.least set edges ends (λ q n h. grows.least set edges begun (λ r m was. absurd (none_hit first.touched none r was)) q n h) s node hit;
}
