-- The branches of a sound network, each added to what is loaded before it.
use Rattle.std.proofs.Common.{◌≡◌, refl, sym, ap, ◌∙◌, subst, ℕ, pos, ◌+◌, ◌≤◌, Bool, true, false, cond, not, ◌&&◌, ◌||◌, List, [], ◌∷◌, ◌++◌, arith, Option, Some, None, inl, inr, append_assoc}
use Rattle.std.specs.Prelude.{map, filter, Ok, is_none}
use Rattle.std.specs.List.{list_all, list_any}
use Rattle.std.proofs.lemmas.Bool.{and_parts, or_cases, or_left, or_right, false≢true}
use Rattle.std.proofs.lemmas.List.{map-append, append-nil}
use Rattle.std.proofs.lemmas.Grind.{flat_map-append}
use Rattle.grid_ids.specs.Name.{same_id, has_id}
use Rattle.grid_ids.proofs.Alike.{same_is}
use Rattle.grid_kinds.specs.Records.{rated_fault}
use Rattle.grid_level.specs.declared.Placed.{Placed}
use Rattle.grid_level.specs.VoltageLevel.{VoltageLevel}
use Rattle.grid_level.specs.Passing.{is_branch_end}
use Rattle.grid_level.specs.Sound.{level_passes}
use Rattle.grid_level.proofs.LevelEdits as on_level
use Rattle.grid_structure.specs.Network.{Network, Substation}
use Rattle.grid_structure.specs.Sites.{levels, branches, all_ids, level_ids, branch_ids, branch_ends, home_of, rated}
use Rattle.grid_structure.specs.Editing.{apply, with_substation, with_branch, in_home, refuse_home}
use Rattle.grid_structure.specs.Soundness.{IsSound, all_among, record_sides, placed_sides, same_side, sides_from, transformer_passes, line_passes, stands_in}
use Rattle.grid_structure.specs.declared.NamedBranch.{NamedBranch}
use Rattle.grid_structure.specs.declared.Branch.{Branch}
use Rattle.grid_structure.specs.declared.Branch.TheVariants.{Line, TwoWindings, ThreeWindings}
use Rattle.grid_structure.specs.declared.End.{End}
use Rattle.grid_structure.specs.declared.Edit.TheVariants as edits
use Rattle.grid_structure.proofs.SoundBranches.{with_transformer}
use Rattle.grid_structure.proofs.Counts.{times, times-append, differ-times, there}
use Rattle.grid_structure.proofs.Frames.{is_same, ids_of, locals, locals-append, ids_counted, level_ids_once}
use Rattle.grid_structure.proofs.SoundRemovals.{sides_by}
use Rattle.grid_structure.proofs.Sides.{Side, has, has-append, side_of, sides_at, sides_of, sides_in, sides_in-append, same_side_is}
use Rattle.grid_structure.proofs.Substations.{names, changed_at, levels_in, transformers_in, levels_at, transformers_at, sub_passes, sub_ids_once, all_implied}
use Rattle.grid_structure.proofs.Uniquely.{names_of_branches, some_branch}
use Rattle.grid_structure.proofs.EndsLoad.{stays, kept, side_level}
use Rattle.grid_structure.proofs.BranchLoad.{part_of, partly, Frames, branch_loaded, home_stands}

abbrev pub stage : List ℕ → List Substation → List NamedBranch → Network
stage id subs lines = record { id = id; substations = subs; lines = lines }

-- a network with just the ends of its own branches placed
abbrev pub shown : Network → Network
shown net = partly (sides_by (branches net)) net

-- ---- ids, counted by substation

abbrev pub weight : List ℕ → Substation → ℕ
weight q s = cond (same_id q s.id) 1 0 + (times q (ids_of s.levels) + (locals q s.levels + times q (names_of_branches s.transformers)))

abbrev pub weights : List ℕ → List Substation → ℕ
weights q [] = 0
weights q (s ∷ subs) = weight q s + weights q subs

pub weights-append : (q : List ℕ) (xs ys : List Substation) → weights q (xs ++ ys) ≡ weights q xs + weights q ys
weights-append q [] ys = omega arith
weights-append q (x ∷ xs) ys = omega (arith, weights-append q xs ys)

pub times_ids : (q : List ℕ) (xs ys : List VoltageLevel) → times q (ids_of (xs ++ ys)) ≡ times q (ids_of xs) + times q (ids_of ys)
times_ids q xs ys = ap (times q) (map-append (λ (l : VoltageLevel). l.id) xs ys) ∙ times-append q (ids_of xs) (ids_of ys)

pub times_branches : (q : List ℕ) (xs ys : List NamedBranch) → times q (names_of_branches (xs ++ ys)) ≡ times q (names_of_branches xs) + times q (names_of_branches ys)
times_branches q xs ys = ap (times q) (map-append (λ (b : NamedBranch). b.id) xs ys) ∙ times-append q (names_of_branches xs) (names_of_branches ys)

pub weighed : (q : List ℕ) (net : Network) → times q (all_ids net) ≡ weights q net.substations + times q (names_of_branches net.lines)
unfolding branch_ids branches levels level_ids
weighed q net =
    let last : times q (branch_ids net) ≡ times q (names_of_branches (transformers_in net.substations)) + times q (names_of_branches net.lines) = times_branches q (transformers_in net.substations) net.lines in
    omega (arith, ids_counted q net, last, flat net.substations, levels_are)
  where
    levels_are : (times q (level_ids net) ≡ times q (ids_of (levels_in net.substations))) × (locals q (levels net) ≡ locals q (levels_in net.substations))
    levels_are = (refl, refl)

    flat : (subs : List Substation) → times q (names subs) + (times q (ids_of (levels_in subs)) + (locals q (levels_in subs) + times q (names_of_branches (transformers_in subs)))) ≡ weights q subs
    flat [] = refl
    flat (s ∷ subs) = omega (arith, flat subs, times_ids q s.levels (levels_in subs), locals-append q s.levels (levels_in subs), times_branches q s.transformers (transformers_in subs))

-- ---- one branch

pub record Next (net : Network) (b : NamedBranch) : Type 0 where
  pub frames : Frames net
  pub fresh : times b.id (all_ids net) ≡ 0
  pub sides : all_among (sides_from b.id 1 (branch_ends b.shape)) (sides_in (levels net)) ≡ true
  pub homely : list_all (λ (end : End). in_home net (home_of b.shape) end.level) (branch_ends b.shape) ≡ true
  pub home : refuse_home (shown net) b.shape ≡ Ok tt

next_loaded : (net : Network) (b : NamedBranch) → Next net b → branches (with_branch b (home_of b.shape) net) ≡ branches net ++ b ∷ []
    → apply (shown net) (edits.AddBranch b.id b.shape) ≡ Ok (shown (with_branch b (home_of b.shape) net))
unfolding branch_ids
next_loaded net b n is =
    let mine = sides_from b.id 1 (branch_ends b.shape) in
    let after = with_branch b (home_of b.shape) net in
    let all : sides_by (branches net) ++ mine ≡ sides_by (branches after) =
    sym (ap sides_by is ∙ flat_map-append (λ (b : NamedBranch). sides_from b.id 1 (branch_ends b.shape)) (branches net) (b ∷ []) ∙ ap (λ z. sides_by (branches net) ++ z) (append-nil mine)) in
    branch_loaded net (sides_by (branches net)) b (record {
      frames = n.frames;
      fresh = n.fresh;
      unloaded = λ x e. by x e (has (sides_by (branches net)) x) refl;
      sides = n.sides;
      homely = n.homely;
      home = n.home;
    })
    ∙ ap (λ (z : List Side). Ok (partly z after)) all
  where
    by : (x : Side) → x.0 ≡ b.id → (t : Bool) → has (sides_by (branches net)) x ≡ t → t ≡ false
    by x e true h =
        let some : 1 ≤ times b.id (names_of_branches (branches net)) = subst (λ (z : List ℕ). 1 ≤ times z (names_of_branches (branches net))) e (some_branch (branches net) x h) in
        let same : times b.id (branch_ids net) ≡ times b.id (names_of_branches (branches net)) = refl in
        absurd (omega (arith, some, same, n.fresh, ids_counted b.id net))
    by x e false h = refl

-- the sides of a branch of a sound network are placed
mine_placed : (net : Network) (before after : List NamedBranch) (b : NamedBranch) → IsSound net → branches net ≡ before ++ b ∷ after → all_among (sides_from b.id 1 (branch_ends b.shape)) (sides_in (levels net)) ≡ true
unfolding record_sides placed_sides all_among
mine_placed net before after b k is =
    let p = λ (a : Side). has (sides_in (levels net)) a in
    let f = λ (b : NamedBranch). sides_from b.id 1 (branch_ends b.shape) in
    let all : list_all p (sides_by (before ++ b ∷ after)) ≡ true = subst (λ (z : List NamedBranch). list_all p (sides_by z) ≡ true) is k.sides_placed in
    let parts = on_level.all_parts p (sides_by before) (f b ++ sides_by after) (subst (λ (z : List Side). list_all p z ≡ true) (flat_map-append f before (b ∷ after)) all) in
    (on_level.all_parts p (f b) (sides_by after) parts.1).0

-- ---- lines

no_home : (net : Network) (shape : Branch) → is_none (home_of shape) ≡ true → (home_of shape ≡ None) × (refuse_home net shape ≡ Ok tt)
unfolding home_of refuse_home
no_home net (Line end1 end2) h = (refl, refl)
no_home net (TwoWindings substation end1 end2 rated_u1 rated_u2) h = absurd (false≢true h)
no_home net (ThreeWindings substation end1 end2 end3 rated_u1 rated_u2 rated_u3) h = absurd (false≢true h)

pub line_step : (net : Network) (done rest : List NamedBranch) (b : NamedBranch) → IsSound net → net.lines ≡ done ++ b ∷ rest
    → apply (shown (stage net.id net.substations done)) (edits.AddBranch b.id b.shape) ≡ Ok (shown (stage net.id net.substations (done ++ b ∷ [])))
unfolding with_branch branches levels line_passes in_home
line_step net done rest b k split =
    let start = stage net.id net.substations done in
    let passes = on_level.all_parts line_passes done (b ∷ rest) (subst (λ (z : List NamedBranch). list_all line_passes z ≡ true) split k.lines) in
    let lone = no_home (shown start) b.shape (and_parts (is_none (home_of b.shape)) (list_all line_passes rest) passes.1).0 in
    let whole : branches net ≡ (transformers_in net.substations ++ done) ++ b ∷ rest = ap (λ z. transformers_in net.substations ++ z) split ∙ sym (append_assoc (transformers_in net.substations) done (b ∷ rest)) in
    let new : with_branch b (home_of b.shape) start ≡ stage net.id net.substations (done ++ b ∷ []) = ap (λ (z : Option (List ℕ)). with_branch b z start) lone.0 in
    let few : (q : List ℕ) → times q (all_ids start) + times q (names_of_branches (b ∷ rest)) ≤ 1 = λ q.
    (let lines : times q (names_of_branches net.lines) ≡ times q (names_of_branches done) + times q (names_of_branches (b ∷ rest)) = ap (λ z. times q (names_of_branches z)) split ∙ times_branches q done (b ∷ rest) in
    omega (arith, lines, weighed q start, weighed q net, differ-times (all_ids net) k.ids q)) in
    let own : times b.id (names_of_branches (b ∷ rest)) ≡ 1 + times b.id (names_of_branches rest) = ap (λ t. cond t 1 0 + times b.id (names_of_branches rest)) (is_same b.id b.id refl) in
    let next : Next start b = record {
      frames = record { ids = λ q. omega (arith, few q); each_level = k.each_level };
      fresh = omega (arith, few b.id, own);
      sides = mine_placed net (transformers_in net.substations ++ done) rest b k whole;
      homely = subst (λ (z : Option (List ℕ)). list_all (λ (end : End). in_home start z end.level) (branch_ends b.shape) ≡ true) (sym lone.0) (all_true (branch_ends b.shape));
      home = lone.1;
    } in
    next_loaded start b next (ap branches new ∙ sym (append_assoc (transformers_in net.substations) done (b ∷ []))) ∙ ap (λ (z : Network). Ok (shown z)) new
  where
    all_true : (ends : List End) → list_all (λ (end : End). true) ends ≡ true
    all_true [] = refl
    all_true (end ∷ ends) = all_true ends

-- ---- transformers

-- what a transformer of a substation keeps
pub record Homed (s : Substation) (b : NamedBranch) : Type 0 where
  pub home : home_of b.shape ≡ Some s.id
  pub ends : list_all (λ (end : End). has_id (ids_of s.levels) end.level) (branch_ends b.shape) ≡ true
  pub good : is_none (rated_fault (rated b.shape)) ≡ true

pub homed : (s : Substation) (b : NamedBranch) → transformer_passes s b ≡ true → Homed s b
unfolding transformer_passes stands_in
homed s b h = by (home_of b.shape) refl h
  where
    by : (o : Option (List ℕ)) → home_of b.shape ≡ o → stands_in s.id (ids_of s.levels) b.shape o ≡ true → Homed s b
    by None e h = absurd (false≢true h)
    by (Some home) e h =
        let a = and_parts (same_id home s.id) (list_all (λ (end : End). has_id (ids_of s.levels) end.level) (branch_ends b.shape) && is_none (rated_fault (rated b.shape))) h in
        let c = and_parts (list_all (λ (end : End). has_id (ids_of s.levels) end.level) (branch_ends b.shape)) (is_none (rated_fault (rated b.shape))) a.1 in
        record { home = e ∙ ap (λ z. Some z) (same_is home s.id a.0); ends = c.0; good = c.1 }

-- a side stands in a level of its id
sides_where : (ls : List VoltageLevel) (x : Side) → has (sides_in ls) x ≡ true → 1 ≤ times x.2 (ids_of ls)
sides_where [] x h = absurd (false≢true h)
sides_where (l ∷ ls) x h = elim (or_cases (has (sides_of l) x) (has (sides_in ls) x) (sym (has-append (sides_of l) (sides_in ls) x) ∙ h)) [
  | inl e ↦ (let one : ◌≡◌ {A = ℕ} (cond (same_id x.2 l.id) 1 0) 1 = ap (λ t. cond t 1 0) (is_same x.2 l.id (side_level l.id l.placed x e)) in omega (arith, one))
  | inr e ↦ omega (arith, sides_where ls x e)
]

-- the ends that are in the middle levels are placed there
in_middle : (front here back : List VoltageLevel) (id : List ℕ) (side : ℕ) (ends : List End) → ((q : List ℕ) → times q (ids_of (front ++ (here ++ back))) ≤ 1) → list_all (λ (end : End). has_id (ids_of here) end.level) ends ≡ true
    → all_among (sides_from id side ends) (sides_in (front ++ (here ++ back))) ≡ true → all_among (sides_from id side ends) (sides_in (front ++ (here ++ []))) ≡ true
unfolding all_among sides_from
in_middle front here back id side [] once inside h = refl
in_middle front here back id side (end ∷ ends) once inside h =
    let s : Side = (id, side, end.level, end.node) in
    let a = and_parts (has_id (ids_of here) end.level) (list_all (λ (end : End). has_id (ids_of here) end.level) ends) inside in
    let p = λ (x : Side). has (sides_in (front ++ (here ++ back))) x in
    let c = and_parts (p s) (list_all p (sides_from id (side + 1) ends)) h in
    let here_once : 1 ≤ times end.level (ids_of here) = there end.level (ids_of here) a.0 in
    let total : times end.level (ids_of (front ++ (here ++ back))) ≡ times end.level (ids_of front) + (times end.level (ids_of here) + times end.level (ids_of back)) =
    times_ids end.level front (here ++ back) ∙ ap (λ z. times end.level (ids_of front) + z) (times_ids end.level here back) in
    let gone : has (sides_in back) s ≡ false = absent (has (sides_in back) s) refl (omega (arith, total, here_once, once end.level)) in
    let whole : has (sides_in (front ++ (here ++ back))) s ≡ (has (sides_in front) s || (has (sides_in here) s || has (sides_in back) s)) = sides_in-append front (here ++ back) s ∙ ap (λ z. has (sides_in front) s || z) (sides_in-append here back s) in
    let part : has (sides_in (front ++ (here ++ []))) s ≡ (has (sides_in front) s || (has (sides_in here) s || false)) = sides_in-append front (here ++ []) s ∙ ap (λ z. has (sides_in front) s || z) (sides_in-append here [] s) in
    let first : has (sides_in (front ++ (here ++ []))) s ≡ true = part ∙ ap (λ z. has (sides_in front) s || (has (sides_in here) s || z)) (sym gone) ∙ sym whole ∙ c.0 in
    rw first (in_middle front here back id (side + 1) ends once a.1 c.1)
  where
    absent : (t : Bool) → has (sides_in back) (id, side, end.level, end.node) ≡ t → times end.level (ids_of back) ≡ 0 → t ≡ false
    absent true e none = absurd (omega (arith, none, sides_where back (id, side, end.level, end.node) e))
    absent false e none = refl

any_at : {X : Type 0} (p : X → Bool) (front back : List X) (x : X) → p x ≡ true → list_any p (front ++ x ∷ back) ≡ true
any_at p [] back x h = or_left (p x) (list_any p back) h
any_at p (y ∷ front) back x h = or_right (p y) (list_any p (front ++ x ∷ back)) (any_at p front back x h)

module _ (net : Network) (k : IsSound net) (front back : List Substation) (s : Substation) (split : net.substations ≡ front ++ s ∷ back) where
  -- the substation with some of its transformers
  abbrev holding : List NamedBranch → Substation
  holding done = record s { transformers = done }

  abbrev pub so_far : List NamedBranch → Network
  so_far done = stage net.id (front ++ record s { transformers = done } ∷ []) []

  pub branches_so_far : (done : List NamedBranch) → branches (so_far done) ≡ transformers_in front ++ done
  unfolding branches
  branches_so_far done = append-nil (transformers_in (front ++ holding done ∷ [])) ∙ transformers_at front [] (holding done) ∙ ap (λ z. transformers_in front ++ z) (append-nil done)

  -- what is counted in the whole network
  pub counted : (q : List ℕ) → weights q front + (weight q s + weights q back) ≤ 1
  counted q = let w : weights q net.substations ≡ weights q front + (weight q s + weights q back) = ap (weights q) split ∙ weights-append q front (s ∷ back) in omega (arith, w, weighed q net, differ-times (all_ids net) k.ids q)

  few : (q : List ℕ) (done rest : List NamedBranch) → s.transformers ≡ done ++ rest → times q (all_ids (so_far done)) + times q (names_of_branches rest) ≤ 1
  few q done rest is =
      let w : weights q (front ++ holding done ∷ []) ≡ weights q front + (weight q (holding done) + 0) = weights-append q front (holding done ∷ []) in
      let t : times q (names_of_branches s.transformers) ≡ times q (names_of_branches done) + times q (names_of_branches rest) = ap (λ z. times q (names_of_branches z)) is ∙ times_branches q done rest in
      omega (arith, w, t, weighed q (so_far done), counted q)

  pub levels_are : levels net ≡ levels_in front ++ (s.levels ++ levels_in back)
  unfolding levels
  levels_are = ap levels_in split ∙ levels_at front back s

  levels_so_far : (done : List NamedBranch) → levels (so_far done) ≡ levels_in front ++ (s.levels ++ [])
  unfolding levels
  levels_so_far done = levels_at front [] (holding done)

  pub each_here : (list_all level_passes (levels_in front) ≡ true) × (list_all level_passes s.levels ≡ true)
  each_here =
      let a = on_level.all_parts level_passes (levels_in front) (s.levels ++ levels_in back) (subst (λ (z : List VoltageLevel). list_all level_passes z ≡ true) levels_are k.each_level) in
      (a.0, (on_level.all_parts level_passes s.levels (levels_in back) a.1).0)

  frames : (done rest : List NamedBranch) → s.transformers ≡ done ++ rest → Frames (so_far done)
  frames done rest is = record {
    ids = λ q. omega (arith, few q done rest is);
    each_level = rw (levels_so_far done) (on_level.all_join level_passes (levels_in front) (s.levels ++ []) each_here.0 (on_level.all_join level_passes s.levels [] each_here.1 refl));
  }

  pub subs_pass : (list_all sub_passes front ≡ true) × (sub_passes s ≡ true)
  subs_pass = let a = on_level.all_parts sub_passes front (s ∷ back) (subst (λ (z : List Substation). list_all sub_passes z ≡ true) split k.transformers) in (a.0, (and_parts (sub_passes s) (list_all sub_passes back) a.1).0)

  home_here : (done : List NamedBranch) (b : NamedBranch) (rest : List NamedBranch) → s.transformers ≡ done ++ b ∷ rest → Homed s b
  home_here done b rest is =
      let a = on_level.all_parts (transformer_passes s) done (b ∷ rest) (subst (λ (z : List NamedBranch). list_all (transformer_passes s) z ≡ true) is subs_pass.1) in
      homed s b (and_parts (transformer_passes s b) (list_all (transformer_passes s) rest) a.1).0

  pub home_is : (done : List NamedBranch) (b : NamedBranch) (rest : List NamedBranch) → s.transformers ≡ done ++ b ∷ rest → home_of b.shape ≡ Some s.id
  home_is done b rest is = (home_here done b rest is).home

  placed_here : (done : List NamedBranch) (b : NamedBranch) (rest : List NamedBranch) → s.transformers ≡ done ++ b ∷ rest → all_among (sides_from b.id 1 (branch_ends b.shape)) (sides_in (levels (so_far done))) ≡ true
  unfolding branches
  placed_here done b rest is =
      let whole : branches net ≡ (transformers_in front ++ done) ++ b ∷ (rest ++ (transformers_in back ++ net.lines)) =
      ap (λ z. transformers_in z ++ net.lines) split ∙ ap (λ z. z ++ net.lines) (transformers_at front back s) ∙ ap (λ z. (transformers_in front ++ (z ++ transformers_in back)) ++ net.lines) is ∙ simp append_assoc in
      let placed = mine_placed net (transformers_in front ++ done) (rest ++ (transformers_in back ++ net.lines)) b k whole in
      let once : (q : List ℕ) → times q (ids_of (levels_in front ++ (s.levels ++ levels_in back))) ≤ 1 = λ q. subst (λ (z : List VoltageLevel). times q (ids_of z) ≤ 1) levels_are (level_ids_once net (differ-times (all_ids net) k.ids) q) in
      subst (λ (z : List VoltageLevel). all_among (sides_from b.id 1 (branch_ends b.shape)) (sides_in z) ≡ true) (sym (levels_so_far done))
      (in_middle (levels_in front) s.levels (levels_in back) b.id 1 (branch_ends b.shape) once (home_here done b rest is).ends
      (subst (λ (z : List VoltageLevel). all_among (sides_from b.id 1 (branch_ends b.shape)) (sides_in z) ≡ true) levels_are placed))

  homely_here : (done : List NamedBranch) (level : List ℕ) → has_id (ids_of s.levels) level ≡ true → in_home (so_far done) (Some s.id) level ≡ true
  unfolding in_home
  homely_here done level h = any_at (λ (x : Substation). same_id s.id x.id && has_id (ids_of x.levels) level) front [] (holding done) (rw (is_same s.id s.id refl) h)

  names_here : (done : List NamedBranch) (loaded : List Side) → has_id (names (map (part_of loaded) (front ++ record s { transformers = done } ∷ []))) s.id ≡ true
  unfolding has_id
  names_here done loaded =
      let same : names (map (part_of loaded) (front ++ holding done ∷ [])) ≡ names (map (part_of loaded) front) ++ s.id ∷ [] =
      ap names (map-append (part_of loaded) front (holding done ∷ [])) ∙ map-append (λ (x : Substation). x.id) (map (part_of loaded) front) (part_of loaded (holding done) ∷ []) in
      rw same (any_at (same_id s.id) (names (map (part_of loaded) front)) [] s.id (is_same s.id s.id refl))

  next_here : (done : List NamedBranch) (b : NamedBranch) (rest : List NamedBranch) → s.transformers ≡ done ++ b ∷ rest → Next (so_far done) b
  next_here done b rest is =
      let h = home_here done b rest is in
      let own : times b.id (names_of_branches (b ∷ rest)) ≡ 1 + times b.id (names_of_branches rest) = ap (λ t. cond t 1 0 + times b.id (names_of_branches rest)) (is_same b.id b.id refl) in
      record {
        frames = frames done (b ∷ rest) is;
        fresh = omega (arith, few b.id done (b ∷ rest) is, own);
        sides = placed_here done b rest is;
        homely = subst (λ (z : Option (List ℕ)). list_all (λ (end : End). in_home (so_far done) z end.level) (branch_ends b.shape) ≡ true) (sym h.home)
            (all_implied (λ (end : End). has_id (ids_of s.levels) end.level) (λ (end : End). in_home (so_far done) (Some s.id) end.level) (λ end e. homely_here done end.level e) (branch_ends b.shape) h.ends);
        home = home_stands (shown (so_far done)) s.id b.shape h.home (names_here done (sides_by (branches (so_far done)))) h.good;
      }

  wound : (done : List NamedBranch) (b : NamedBranch) (rest : List NamedBranch) → s.transformers ≡ done ++ b ∷ rest → with_branch b (home_of b.shape) (so_far done) ≡ so_far (done ++ b ∷ [])
  unfolding with_branch with_substation
  wound done b rest is =
      let h = home_here done b rest is in
      let once : times s.id (names (front ++ holding done ∷ [])) ≤ 1 = sub_ids_once (so_far done) (frames done (b ∷ rest) is).ids s.id in
      ap (λ (z : Option (List ℕ)). with_branch b z (so_far done)) h.home ∙ ap (λ (z : List Substation). stage net.id z []) (changed_at s.id (with_transformer b) front [] (holding done) refl once)

  -- the next transformer of the substation
  pub transformer_step : (done : List NamedBranch) (b : NamedBranch) (rest : List NamedBranch) → s.transformers ≡ done ++ b ∷ rest → apply (shown (so_far done)) (edits.AddBranch b.id b.shape) ≡ Ok (shown (so_far (done ++ b ∷ [])))
  transformer_step done b rest is =
      let new = wound done b rest is in
      let more : branches (so_far (done ++ b ∷ [])) ≡ branches (so_far done) ++ b ∷ [] =
      branches_so_far (done ++ b ∷ []) ∙ sym (append_assoc (transformers_in front) done (b ∷ [])) ∙ ap (λ z. z ++ b ∷ []) (sym (branches_so_far done)) in
      next_loaded (so_far done) b (next_here done b rest is) (ap branches new ∙ more) ∙ ap (λ (z : Network). Ok (shown z)) new

-- ---- levels of other substations

ends_elsewhere : (ids : List (List ℕ)) (x : Side) (id : List ℕ) (side : ℕ) (ends : List End) → list_all (λ (end : End). has_id ids end.level) ends ≡ true → times x.2 ids ≡ 0 → has (sides_from id side ends) x ≡ false
unfolding sides_from
ends_elsewhere ids x id side [] h none = refl
ends_elsewhere ids x id side (end ∷ ends) h none =
    let parts = and_parts (has_id ids end.level) (list_all (λ (end : End). has_id ids end.level) ends) h in
    rw (by (same_side x (id, side, end.level, end.node)) refl parts.0) (ends_elsewhere ids x id (side + 1) ends parts.1 none)
  where
    by : (t : Bool) → same_side x (id, side, end.level, end.node) ≡ t → has_id ids end.level ≡ true → t ≡ false
    by true e inside =
        let same : x.2 ≡ end.level = ap (λ (z : Side). z.2) (same_side_is x (id, side, end.level, end.node) e) in
        let some : 1 ≤ times x.2 ids = subst (λ (z : List ℕ). 1 ≤ times z ids) (sym same) (there end.level ids inside) in
        absurd (omega (arith, some, none))
    by false e inside = refl

transformers_elsewhere : (s : Substation) (x : Side) (bs : List NamedBranch) → list_all (transformer_passes s) bs ≡ true → times x.2 (ids_of s.levels) ≡ 0 → has (sides_by bs) x ≡ false
transformers_elsewhere s x [] h none = refl
transformers_elsewhere s x (b ∷ bs) h none =
    let parts = and_parts (transformer_passes s b) (list_all (transformer_passes s) bs) h in
    let mine = sides_from b.id 1 (branch_ends b.shape) in
    has-append mine (sides_by bs) x ∙ rw (ends_elsewhere (ids_of s.levels) x b.id 1 (branch_ends b.shape) (homed s b parts.0).ends none) (transformers_elsewhere s x bs parts.1 none)

pub elsewhere : (subs : List Substation) (x : Side) → list_all sub_passes subs ≡ true → times x.2 (ids_of (levels_in subs)) ≡ 0 → has (sides_by (transformers_in subs)) x ≡ false
elsewhere [] x h none = refl
elsewhere (s ∷ subs) x h none =
    let parts = and_parts (sub_passes s) (list_all sub_passes subs) h in
    let sum = times_ids x.2 s.levels (levels_in subs) in
    let first = transformers_elsewhere s x s.transformers parts.0 (omega (arith, sum, none)) in
    ap (λ z. has z x) (flat_map-append (λ (b : NamedBranch). sides_from b.id 1 (branch_ends b.shape)) s.transformers (transformers_in subs)) ∙ has-append (sides_by s.transformers) (sides_by (transformers_in subs)) x
    ∙ rw first (elsewhere subs x parts.1 (omega (arith, sum, none)))

-- ---- all is loaded

all_stay : (loaded : List Side) (l : VoltageLevel) (ps : List Placed) → list_all (has loaded) (sides_at l.id ps) ≡ true → filter (stays loaded l) ps ≡ ps
all_stay loaded l [] h = refl
all_stay loaded l (p ∷ ps) h = by (is_branch_end p.stand) h (all_stay loaded l ps)
  where
    by : (t : Bool) → list_all (has loaded) (map (λ (p : Placed). (p.terminal.equipment, p.terminal.side, l.id, pos p.node)) (cond t (p ∷ filter (λ (p : Placed). is_branch_end p.stand) ps) (filter (λ (p : Placed). is_branch_end p.stand) ps))) ≡ true
        → (list_all (has loaded) (sides_at l.id ps) ≡ true → filter (stays loaded l) ps ≡ ps)
        → cond (not t || has loaded (side_of l p)) (p ∷ filter (stays loaded l) ps) (filter (stays loaded l) ps) ≡ p ∷ ps
    by true h again = let parts = and_parts (has loaded (side_of l p)) (list_all (has loaded) (sides_at l.id ps)) h in rw parts.0 (ap (λ z. p ∷ z) (again parts.1))
    by false h again = ap (λ z. p ∷ z) (again h)

levels_stay : (loaded : List Side) (ls : List VoltageLevel) → list_all (has loaded) (sides_in ls) ≡ true → map (kept loaded) ls ≡ ls
levels_stay loaded [] h = refl
levels_stay loaded (l ∷ ls) h =
    let parts = on_level.all_parts (has loaded) (sides_of l) (sides_in ls) h in
    let first : kept loaded l ≡ l = ap (λ z. record l { placed = z }) (all_stay loaded l l.placed parts.0) in
    rw (first, levels_stay loaded ls parts.1) refl

subs_stay : (loaded : List Side) (subs : List Substation) → list_all (has loaded) (sides_in (levels_in subs)) ≡ true → map (part_of loaded) subs ≡ subs
subs_stay loaded [] h = refl
subs_stay loaded (s ∷ subs) h =
    let parts = on_level.all_parts (has loaded) (sides_in s.levels) (sides_in (levels_in subs)) (subst (λ (z : List Side). list_all (has loaded) z ≡ true) (flat_map-append (λ (l : VoltageLevel). sides_of l) s.levels (levels_in subs)) h) in
    let first : part_of loaded s ≡ s = ap (λ z. record s { levels = z }) (levels_stay loaded s.levels parts.0) in
    rw (first, subs_stay loaded subs parts.1) refl

pub all_shown : (net : Network) → IsSound net → shown net ≡ net
unfolding all_among placed_sides record_sides levels
all_shown net k = ap (λ z. record net { substations = z }) (subs_stay (sides_by (branches net)) net.substations k.placed_are_sides)
