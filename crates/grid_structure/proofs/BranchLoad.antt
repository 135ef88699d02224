-- A branch that is added to a network that is being loaded.
use Rattle.std.proofs.Common.{◌≡◌, refl, sym, ap, ◌∙◌, subst, ℕ, ◌+◌, ◌≤◌, Bool, true, false, cond, not, ◌&&◌, ◌||◌, List, [], ◌∷◌, ◌++◌, arith, Option, Some, None, inl, inr, append_assoc}
use Rattle.std.specs.Prelude.{map, filter, find, ◌==◌, Ok, is_none, ⊤}
use Rattle.std.specs.List.{list_all, list_any}
use Rattle.std.proofs.lemmas.Bool.{and_parts, or_cases, false≢true}
use Rattle.std.proofs.lemmas.List.{map-append, append-nil}
use Rattle.grid_lemmas.proofs.Bools.{and_false, or_false}
use Rattle.grid_ids.specs.Name.{same_id, has_id}
use Rattle.grid_ids.proofs.Alike.{same_swap}
use Rattle.grid_kinds.specs.Records.{rated_fault}
use Rattle.grid_kinds.specs.declared.CheckFault.{CheckFault}
use Rattle.grid_level.specs.declared.Placed.{Placed}
use Rattle.grid_level.specs.VoltageLevel.{VoltageLevel}
use Rattle.grid_level.specs.Passing.{is_branch_end}
use Rattle.grid_level.specs.Sound.{level_passes}
use Rattle.grid_level.proofs.LevelEdits as on_level
use Rattle.grid_structure.specs.Network.{Network, Substation}
use Rattle.grid_structure.specs.Sites.{levels, level_named, substation_named, all_ids, taken, branch_ends, home_of, rated}
use Rattle.grid_structure.specs.Editing.{apply, substation_with_levels, with_levels, with_level, with_substation, with_branch, in_home, place_end, place_ends, refuse_home}
use Rattle.grid_structure.specs.Soundness.{all_among, same_side, sides_from}
use Rattle.grid_structure.specs.declared.NamedBranch.{NamedBranch}
use Rattle.grid_structure.specs.declared.Branch.{Branch}
use Rattle.grid_structure.specs.declared.Branch.TheVariants.{Line, TwoWindings, ThreeWindings}
use Rattle.grid_structure.specs.declared.End.{End}
use Rattle.grid_structure.specs.declared.Edit.TheVariants as edits
use Rattle.grid_structure.proofs.Counts.{times, times-append}
use Rattle.grid_structure.proofs.Frames.{is_same, ids_of, put, local, locals, ids_counted, level_ids_once, frame, frame-with_levels, same_sub_ids, same_level_ids, same_branch_ids}
use Rattle.grid_structure.proofs.LevelHomes.{none_there}
use Rattle.grid_structure.proofs.Levels.{levels-with_levels}
use Rattle.grid_structure.proofs.OneLevel.{names_of}
use Rattle.grid_structure.proofs.Sides.{Side, has, has-append, side_of, sides_of, sides_in, same_side_is}
use Rattle.grid_structure.proofs.Substations.{names, levels_in}
use Rattle.grid_structure.proofs.EndsLoad.{stays, kept, end_fits, side_level, one_more}

-- the substation, and the network, with these sides loaded
abbrev pub part_of : List Side → Substation → Substation
part_of loaded s = record s { levels = map (kept loaded) s.levels }

abbrev pub partly : List Side → Network → Network
partly loaded net = record net { substations = map (part_of loaded) net.substations }

pub levels_partly : (loaded : List Side) (net : Network) → levels (partly loaded net) ≡ map (kept loaded) (levels net)
unfolding with_levels substation_with_levels
levels_partly loaded net = levels-with_levels (kept loaded) net

pub frame_partly : (loaded : List Side) (net : Network) → frame (partly loaded net) ≡ frame net
unfolding with_levels substation_with_levels
frame_partly loaded net = frame-with_levels (kept loaded) (λ l. refl) net

-- ---- the ids stay

singles_kept : (loaded : List Side) (l : VoltageLevel) (ps : List Placed) → names_of (filter (stays loaded l) ps) ≡ names_of ps
singles_kept loaded l [] = refl
singles_kept loaded l (p ∷ ps) = by (is_branch_end p.stand) (has loaded (side_of l p)) refl (singles_kept loaded l ps)
  where
    by : (b d : Bool) → is_branch_end p.stand ≡ b → names_of (filter (stays loaded l) ps) ≡ names_of ps
        → names_of (cond (not b || d) (p ∷ filter (stays loaded l) ps) (filter (stays loaded l) ps)) ≡ map (λ (p : Placed). p.terminal.equipment) (cond (not b) (p ∷ filter (λ (p : Placed). not (is_branch_end p.stand)) ps) (filter (λ (p : Placed). not (is_branch_end p.stand)) ps))
    by true true e again = rw e again
    by true false e again = again
    by false d e again = rw e (ap (λ z. p.terminal.equipment ∷ z) again)

pub locals_kept : (q : List ℕ) (loaded : List Side) (ls : List VoltageLevel) → locals q (map (kept loaded) ls) ≡ locals q ls
locals_kept q loaded [] = refl
locals_kept q loaded (l ∷ ls) = let same : local q (kept loaded l) ≡ local q l = ap (λ z. times q (map (λ s. s.id) l.switches) + times q z) (singles_kept loaded l l.placed) in omega (arith, same, locals_kept q loaded ls)

pub ids_partly : (q : List ℕ) (loaded : List Side) (net : Network) → times q (all_ids (partly loaded net)) ≡ times q (all_ids net)
ids_partly q loaded net =
    let now = partly loaded net in
    let same = frame_partly loaded net in
    let a = ap (times q) (same_sub_ids now net same) in
    let b = ap (times q) (same_level_ids now net same) in
    let d : locals q (levels now) ≡ locals q (levels net) = ap (locals q) (levels_partly loaded net) ∙ locals_kept q loaded (levels net) in
    let e = ap (times q) (same_branch_ids now net same refl) in
    omega (arith, a, b, d, e, ids_counted q now, ids_counted q net)

-- ---- one level among all

abbrev Only : VoltageLevel → List VoltageLevel → Type 0
Only l [] = ⊤
Only l (x ∷ xs) = (same_id l.id x.id ≡ true → x ≡ l) × Only l xs

only_none : (l : VoltageLevel) (xs : List VoltageLevel) → times l.id (ids_of xs) ≡ 0 → Only l xs
only_none l [] h = tt
only_none l (x ∷ xs) h = by (same_id l.id x.id) h (only_none l xs)
  where
    by : (t : Bool) → cond t 1 0 + times l.id (ids_of xs) ≡ 0 → (times l.id (ids_of xs) ≡ 0 → Only l xs) → (t ≡ true → x ≡ l) × Only l xs
    by true h again = absurd (omega (arith, h))
    by false h again = ((λ e. absurd (false≢true e)), again (omega (arith, h)))

only_join : (l : VoltageLevel) (xs ys : List VoltageLevel) → Only l xs → Only l ys → Only l (xs ++ ys)
only_join l [] ys a b = b
only_join l (x ∷ xs) ys a b = (a.0, only_join l xs ys a.1 b)

only_parts : (l : VoltageLevel) (xs ys : List VoltageLevel) → Only l (xs ++ ys) → Only l xs × Only l ys
only_parts l [] ys h = (tt, h)
only_parts l (x ∷ xs) ys h = let rest = only_parts l xs ys h.1 in ((h.0, rest.0), rest.1)

only_at : (l : VoltageLevel) (before after : List VoltageLevel) → times l.id (ids_of (before ++ l ∷ after)) ≤ 1 → Only l (before ++ l ∷ after)
only_at l before after once =
    let split : times l.id (ids_of (before ++ l ∷ after)) ≡ times l.id (ids_of before) + (1 + times l.id (ids_of after)) =
    ap (times l.id) (map-append (λ (l : VoltageLevel). l.id) before (l ∷ after)) ∙ times-append l.id (ids_of before) (ids_of (l ∷ after)) ∙ ap (λ t. times l.id (ids_of before) + (cond t 1 0 + times l.id (ids_of after))) (is_same l.id l.id refl) in
    only_join l before (l ∷ after) (only_none l before (omega (arith, split, once))) ((λ e. refl), only_none l after (omega (arith, split, once)))

found_only : (loaded : List Side) (l : VoltageLevel) (before after : List VoltageLevel) → Only l (before ++ l ∷ after) → find (λ (y : VoltageLevel). same_id l.id y.id) (map (kept loaded) (before ++ l ∷ after)) ≡ Some (kept loaded l)
found_only loaded l [] after h = rw (is_same l.id l.id refl) refl
found_only loaded l (x ∷ before) after h = by (same_id l.id x.id) h.0 (found_only loaded l before after h.1)
  where
    by : (t : Bool) → (t ≡ true → x ≡ l) → find (λ (y : VoltageLevel). same_id l.id y.id) (map (kept loaded) (before ++ l ∷ after)) ≡ Some (kept loaded l)
        → ◌≡◌ {A = Option VoltageLevel} (cond t (Some (kept loaded x)) (find (λ (y : VoltageLevel). same_id l.id y.id) (map (kept loaded) (before ++ l ∷ after)))) (Some (kept loaded l))
    by true same again = ap (λ (z : VoltageLevel). Some (kept loaded z)) (same refl)
    by false same again = again

-- ---- the same terminals stay

pub filter_same : {X : Type 0} (q r : X → Bool) (xs : List X) → ((x : X) → q x ≡ r x) → filter q xs ≡ filter r xs
filter_same q r [] h = refl
filter_same q r (x ∷ xs) h = rw (h x, filter_same q r xs h) refl

pub kept_same : (a b : List Side) (l : VoltageLevel) → ((p : Placed) → has a (side_of l p) ≡ has b (side_of l p)) → kept a l ≡ kept b l
kept_same a b l h = ap (λ z. record l { placed = z }) (filter_same (stays a l) (stays b l) l.placed (λ p. ap (λ z. not (is_branch_end p.stand) || z) (h p)))

other_level : (x s : Side) → same_id x.2 s.2 ≡ false → same_side x s ≡ false
unfolding same_side
other_level x s h = rw (h, and_false (x.1 == s.1)) (and_false (same_id x.0 s.0))

level_put : (l : VoltageLevel) (loaded : List Side) (s : Side) (xs : List VoltageLevel) → s.2 ≡ l.id → Only l xs → map (put (kept (loaded ++ s ∷ []) l)) (map (kept loaded) xs) ≡ map (kept (loaded ++ s ∷ [])) xs
level_put l loaded s [] at h = refl
level_put l loaded s (x ∷ xs) at h = rw (level_put l loaded s xs at h.1) (by (same_id l.id x.id) refl h.0)
  where
    same : same_id l.id x.id ≡ false → kept loaded x ≡ kept (loaded ++ s ∷ []) x
    same e = kept_same loaded (loaded ++ s ∷ []) x (λ p. sym (one_more loaded (side_of x p) s ∙ ap (λ z. has loaded (side_of x p) || z) (other_level (side_of x p) s (subst (λ (z : List ℕ). same_id x.id z ≡ false) (sym at) (same_swap l.id x.id e))) ∙ or_false (has loaded (side_of x p))))

    by : (t : Bool) → same_id l.id x.id ≡ t → (t ≡ true → x ≡ l)
        → ◌≡◌ {A = List VoltageLevel} (cond t (kept (loaded ++ s ∷ []) l) (kept loaded x) ∷ map (kept (loaded ++ s ∷ [])) xs) (kept (loaded ++ s ∷ []) x ∷ map (kept (loaded ++ s ∷ [])) xs)
    by true e only = ap (λ (z : VoltageLevel). kept (loaded ++ s ∷ []) z ∷ map (kept (loaded ++ s ∷ [])) xs) (sym (only refl))
    by false e only = ap (λ (z : VoltageLevel). z ∷ map (kept (loaded ++ s ∷ [])) xs) (same e)

subs_put : (l : VoltageLevel) (loaded : List Side) (s : Side) (subs : List Substation) → s.2 ≡ l.id → Only l (levels_in subs)
    → map (substation_with_levels (put (kept (loaded ++ s ∷ []) l))) (map (part_of loaded) subs) ≡ map (part_of (loaded ++ s ∷ [])) subs
unfolding substation_with_levels
subs_put l loaded s [] at h = refl
subs_put l loaded s (x ∷ subs) at h = let parts = only_parts l x.levels (levels_in subs) h in rw (level_put l loaded s x.levels at parts.0, subs_put l loaded s subs at parts.1) refl

put_back : (l : VoltageLevel) (loaded : List Side) (s : Side) (net : Network) → s.2 ≡ l.id → Only l (levels net) → with_level (kept (loaded ++ s ∷ []) l) (partly loaded net) ≡ partly (loaded ++ s ∷ []) net
unfolding with_level with_levels levels
put_back l loaded s net at h = ap (λ z. record net { substations = z }) (subs_put l loaded s net.substations at h)

-- ---- one end

record Holds (ls : List VoltageLevel) (x : Side) : Type 0 where
  pub before : List VoltageLevel
  pub level : VoltageLevel
  pub after : List VoltageLevel
  pub is : ls ≡ before ++ level ∷ after
  pub there : has (sides_of level) x ≡ true
  pub named : x.2 ≡ level.id

holds : (ls : List VoltageLevel) (x : Side) → has (sides_in ls) x ≡ true → Holds ls x
holds [] x h = absurd (false≢true h)
holds (l ∷ ls) x h = elim (or_cases (has (sides_of l) x) (has (sides_in ls) x) (sym (has-append (sides_of l) (sides_in ls) x) ∙ h)) [
  | inl e ↦ record { before = []; level = l; after = ls; is = refl; there = e; named = side_level l.id l.placed x e }
  | inr e ↦ (let k = holds ls x e in record { before = l ∷ k.before; level = k.level; after = k.after; is = ap (λ z. l ∷ z) k.is; there = k.there; named = k.named })
]

pub ids_same : (loaded : List Side) (ls : List VoltageLevel) → ids_of (map (kept loaded) ls) ≡ ids_of ls
ids_same loaded [] = refl
ids_same loaded (l ∷ ls) = ap (λ z. l.id ∷ z) (ids_same loaded ls)

home_partly : (loaded : List Side) (net : Network) (home : Option (List ℕ)) (level : List ℕ) → in_home (partly loaded net) home level ≡ in_home net home level
unfolding in_home
home_partly loaded net None level = refl
home_partly loaded net (Some home) level = along net.substations
  where
    along : (subs : List Substation)
        → list_any (λ (s : Substation). same_id home s.id && has_id (map (λ (l : VoltageLevel). l.id) s.levels) level) (map (part_of loaded) subs) ≡ list_any (λ (s : Substation). same_id home s.id && has_id (map (λ (l : VoltageLevel). l.id) s.levels) level) subs
    along [] = refl
    along (s ∷ subs) = rw (ids_same loaded s.levels, along subs) refl

-- what a network keeps whose sides are not all loaded
pub record Frames (net : Network) : Type 0 where
  pub ids : (q : List ℕ) → times q (all_ids net) ≤ 1
  pub each_level : list_all level_passes (levels net) ≡ true

end_loaded : (net : Network) (home : Option (List ℕ)) (loaded : List Side) (id : List ℕ) (side : ℕ) (end : End) → Frames net → in_home net home end.level ≡ true
    → has (sides_in (levels net)) (id, side, end.level, end.node) ≡ true → has loaded (id, side, end.level, end.node) ≡ false
    → place_end home id side end (partly loaded net) ≡ Ok (partly (loaded ++ (id, side, end.level, end.node) ∷ []) net)
unfolding place_end level_named
end_loaded net home loaded id side end k homely there fresh =
    let s : Side = (id, side, end.level, end.node) in
    let h = holds (levels net) s there in
    let once : times h.level.id (ids_of (h.before ++ h.level ∷ h.after)) ≤ 1 = subst (λ (z : List VoltageLevel). times h.level.id (ids_of z) ≤ 1) h.is (level_ids_once net k.ids h.level.id) in
    let only : Only h.level (h.before ++ h.level ∷ h.after) = only_at h.level h.before h.after once in
    let each : list_all level_passes (h.before ++ h.level ∷ h.after) ≡ true = subst (λ (z : List VoltageLevel). list_all level_passes z ≡ true) h.is k.each_level in
    let passes = (and_parts (level_passes h.level) (list_all level_passes h.after) (on_level.all_parts level_passes h.before (h.level ∷ h.after) each).1).0 in
    let found : find (λ (y : VoltageLevel). same_id end.level y.id) (levels (partly loaded net)) ≡ Some (kept loaded h.level) =
    ap (find (λ (y : VoltageLevel). same_id end.level y.id)) (levels_partly loaded net ∙ ap (map (kept loaded)) h.is)
    ∙ subst (λ (z : List ℕ). find (λ (y : VoltageLevel). same_id z y.id) (map (kept loaded) (h.before ++ h.level ∷ h.after)) ≡ Some (kept loaded h.level)) (sym h.named) (found_only loaded h.level h.before h.after only) in
    let inside : in_home (partly loaded net) home end.level ≡ true = home_partly loaded net home end.level ∙ homely in
    rw (found, inside, end_fits h.level loaded s passes h.there fresh) (ap (λ (z : Network). Ok z) (put_back h.level loaded s net h.named (subst (λ (z : List VoltageLevel). Only h.level z) (sym h.is) only)))

-- ---- one branch

ends_loaded : (net : Network) (home : Option (List ℕ)) (id : List ℕ) (ends : List End) (side : ℕ) (loaded : List Side) → Frames net → list_all (λ (end : End). in_home net home end.level) ends ≡ true
    → all_among (sides_from id side ends) (sides_in (levels net)) ≡ true → ((x : Side) → x.0 ≡ id → side ≤ x.1 → has loaded x ≡ false)
    → place_ends home id side ends (partly loaded net) ≡ Ok (partly (loaded ++ sides_from id side ends) net)
unfolding place_ends sides_from all_among
ends_loaded net home id [] side loaded k homely there fresh = ap (λ (z : List Side). Ok (partly z net)) (sym (append-nil loaded))
ends_loaded net home id (end ∷ ends) side loaded k homely there fresh =
    let s : Side = (id, side, end.level, end.node) in
    let rest = sides_from id (side + 1) ends in
    let h = and_parts (in_home net home end.level) (list_all (λ (end : End). in_home net home end.level) ends) homely in
    let t = and_parts (has (sides_in (levels net)) s) (list_all (λ (a : Side). has (sides_in (levels net)) a) rest) there in
    let first = end_loaded net home loaded id side end k h.0 t.0 (fresh s refl (omega arith)) in
    rw first (ends_loaded net home id ends (side + 1) (loaded ++ s ∷ []) k h.1 t.1 (λ x e l. one_more loaded x s ∙ either x (fresh x e (omega (arith, l))) (same_side x s) refl l) ∙ ap (λ (z : List Side). Ok (partly z net)) (append_assoc loaded (s ∷ []) rest))
  where
    either : (x : Side) → has loaded x ≡ false → (t : Bool) → same_side x (id, side, end.level, end.node) ≡ t → side + 1 ≤ x.1 → has loaded x || t ≡ false
    either x h true e l = let same : x.1 ≡ side = ap (λ (z : Side). z.1) (same_side_is x (id, side, end.level, end.node) e) in absurd (omega (arith, same, l))
    either x h false e l = or_false (has loaded x) ∙ h

branch_put : (b : NamedBranch) (home : Option (List ℕ)) (loaded : List Side) (net : Network) → with_branch b home (partly loaded net) ≡ partly loaded (with_branch b home net)
unfolding with_branch with_substation
branch_put b None loaded net = refl
branch_put b (Some home) loaded net = ap (λ z. record net { substations = z }) (along net.substations)
  where
    along : (subs : List Substation)
        → map (λ (s : Substation). cond (same_id home s.id) (record s { transformers = s.transformers ++ b ∷ [] }) s) (map (part_of loaded) subs) ≡ map (part_of loaded) (map (λ (s : Substation). cond (same_id home s.id) (record s { transformers = s.transformers ++ b ∷ [] }) s) subs)
    along [] = refl
    along (s ∷ subs) = rw (along subs) (by (same_id home s.id))
      where
        by : (t : Bool) → ◌≡◌ {A = List Substation}
            (cond t (record (part_of loaded s) { transformers = s.transformers ++ b ∷ [] }) (part_of loaded s) ∷ map (part_of loaded) (map (λ (s : Substation). cond (same_id home s.id) (record s { transformers = s.transformers ++ b ∷ [] }) s) subs))
            (part_of loaded (cond t (record s { transformers = s.transformers ++ b ∷ [] }) s) ∷ map (part_of loaded) (map (λ (s : Substation). cond (same_id home s.id) (record s { transformers = s.transformers ++ b ∷ [] }) s) subs))
        by true = refl
        by false = refl

-- what is asked of a branch that comes next
pub record Ready (net : Network) (loaded : List Side) (b : NamedBranch) : Type 0 where
  pub frames : Frames net
  pub fresh : times b.id (all_ids net) ≡ 0
  pub unloaded : (x : Side) → x.0 ≡ b.id → has loaded x ≡ false
  pub sides : all_among (sides_from b.id 1 (branch_ends b.shape)) (sides_in (levels net)) ≡ true
  pub homely : list_all (λ (end : End). in_home net (home_of b.shape) end.level) (branch_ends b.shape) ≡ true
  pub home : refuse_home (partly loaded net) b.shape ≡ Ok tt

pub branch_loaded : (net : Network) (loaded : List Side) (b : NamedBranch) → Ready net loaded b
    → apply (partly loaded net) (edits.AddBranch b.id b.shape) ≡ Ok (partly (loaded ++ sides_from b.id 1 (branch_ends b.shape)) (with_branch b (home_of b.shape) net))
unfolding apply taken
branch_loaded net loaded b r =
    let free : has_id (all_ids (partly loaded net)) b.id ≡ false = none_there b.id (all_ids (partly loaded net)) (ids_partly b.id loaded net ∙ r.fresh) in
    let all = loaded ++ sides_from b.id 1 (branch_ends b.shape) in
    rw (free, r.home, ends_loaded net (home_of b.shape) b.id (branch_ends b.shape) 1 loaded r.frames r.homely r.sides (λ x e l. r.unloaded x e)) (ap (λ (z : Network). Ok z) (branch_put b (home_of b.shape) all net))

-- ---- a transformer's home

record Named (id : List ℕ) (subs : List Substation) : Type 0 where
  pub sub : Substation
  pub is : find (λ (s : Substation). same_id id s.id) subs ≡ Some sub

named : (id : List ℕ) (subs : List Substation) → has_id (names subs) id ≡ true → Named id subs
unfolding has_id
named id [] h = absurd (false≢true h)
named id (s ∷ subs) h = by (same_id id s.id) refl h (named id subs)
  where
    by : (t : Bool) → same_id id s.id ≡ t → t || list_any (same_id id) (names subs) ≡ true → (list_any (same_id id) (names subs) ≡ true → Named id subs) → Named id (s ∷ subs)
    by true e h again = record { sub = s; is = rw e refl }
    by false e h again = let k = again h in record { sub = k.sub; is = rw e k.is }

none_is : (o : Option CheckFault) → is_none o ≡ true → o ≡ None
none_is None h = refl
none_is (Some x) h = absurd (false≢true h)

pub home_stands : (net : Network) (home : List ℕ) (shape : Branch) → home_of shape ≡ Some home → has_id (names net.substations) home ≡ true → is_none (rated_fault (rated shape)) ≡ true → refuse_home net shape ≡ Ok tt
unfolding home_of refuse_home rated substation_named
home_stands net home (Line end1 end2) e h good = cc
home_stands net home (TwoWindings substation end1 end2 rated_u1 rated_u2) e h good =
    let same : substation ≡ home = cc in
    let k = named substation net.substations (subst (λ (z : List ℕ). has_id (names net.substations) z ≡ true) (sym same) h) in
    rw (k.is, none_is (rated_fault (rated_u1 ∷ rated_u2 ∷ [])) good) refl
home_stands net home (ThreeWindings substation end1 end2 end3 rated_u1 rated_u2 rated_u3) e h good =
    let same : substation ≡ home = cc in
    let k = named substation net.substations (subst (λ (z : List ℕ). has_id (names net.substations) z ≡ true) (sym same) h) in
    rw (k.is, none_is (rated_fault (rated_u1 ∷ rated_u2 ∷ rated_u3 ∷ [])) good) refl
