-- A branch more in a structure.
use Rattle.std.proofs.Common.{◌≡◌, refl, sym, ap, ◌∙◌, subst, ℕ, zero, suc, ◌+◌, ◌<◌, ◌≤◌, ◌^◌, Bool, true, false, cond, List, [], ◌∷◌, ◌++◌, length, arith, Option, Some, None, take, drop, append_assoc}
use Rattle.std.specs.Prelude.{map, position, slice_get, slice_set, insert, nat_lt, is_some, All, ⊤, Result, Ok, Err, IfErr, IsErrAnd}
use Rattle.std.specs.Str.{bytes_eq}
use Rattle.std.specs.List.{slice_index_or, list_all}
use Rattle.std.proofs.lemmas.Bool.{ltb-true, and_parts}
use Rattle.std.proofs.lemmas.List.{append-nil}
use Rattle.grid_ids.specs.Name.{same_id}
use Rattle.grid_level.specs.VoltageLevel.{VoltageLevel}
use Rattle.grid_structure.specs.declared.NamedBranch.{NamedBranch}
use Rattle.grid_structure.specs.declared.Branch.{Branch}
use Rattle.grid_structure.specs.declared.Edit.TheVariants.{AddBranch}
use Rattle.grid_structure.specs.declared.EditFault.{EditFault}
use Rattle.grid_structure.specs.declared.EditFault.TheVariants as faults
use Rattle.grid_structure.specs.declared.ApplyFault.{ApplyFault}
use Rattle.grid_structure.specs.declared.ApplyFault.TheVariants.{Refused, Memory}
use Rattle.grid_structure.specs.declared.structure.IdOwner.{IdOwner}
use Rattle.grid_structure.specs.declared.structure.Head.{Head}
use Rattle.grid_structure.specs.declared.branches.LevelFound.{LevelFound}
use Rattle.grid_structure.specs.declared.branches.LevelFound.TheVariants.{Nowhere, Elsewhere, At}
use Rattle.grid_structure.specs.declared.End.{End}
use Rattle.grid_structure.specs.declared.branches.Landing.{Landing}
use Rattle.grid_structure.specs.declared.branches.Landings.{Landings}
use Rattle.grid_structure.specs.Network.{Network, Substation}
use Rattle.grid_structure.specs.Sites.{switches, taken, branch_ends, home_of, all_ids}
use Rattle.grid_structure.specs.Editing.{apply, refuse_home, place_ends, with_branch, with_substation, IsTold}
use Rattle.grid_structure.specs.Cutting.{level_total, transformer_total, network_of}
use Rattle.grid_structure.specs.Indexed.{level_at, substation_at, switch_at, terminal_at}
use Rattle.grid_structure.specs.Kept.{IsKept}
use Rattle.grid_structure.specs.Landing.{landed, AreLandings, IsLandFault, IsInside, IsSpot, IsHome, branch_entry, landing_list}
use Rattle.grid_structure.proofs.Counts.{times, differ-times}
use Rattle.grid_structure.proofs.Frames.{switch_total, switches_counted}
use Rattle.grid_structure.proofs.OneLevel.{base_of}
use Rattle.grid_structure.proofs.Substations.{sub_ids_once}
use Rattle.grid_structure.proofs.Soundly.{apply_sound}
use Rattle.grid_structure.proofs.Places.{length-slice_set, position_found}
use Rattle.grid_structure.proofs.FlatNetworks.{kept_levels, levels-network_of, joined, length-cut}
use Rattle.grid_structure.proofs.Found.{substation_below, taken_by}
use Rattle.grid_structure.proofs.Flat.{IsFlat, from_flat}
use Rattle.grid_structure.proofs.LevelChanges.{kept_flat}
use Rattle.grid_structure.proofs.SwitchAdditions.{finds_nothing}
use Rattle.grid_structure.proofs.LevelMore.{cut_names, head_named}
use Rattle.grid_structure.proofs.LevelInsertions.{heads_alike, length-insert}
use Rattle.grid_structure.proofs.Windings.{wound, cut_wound, many_wound, total_wound, ids_wound, many_part, head_many}
use Rattle.grid_structure.proofs.EndLandings.{SameButEnds, same_all, same_length, same_total, others_all}
use Rattle.grid_structure.proofs.EndPlacements.{lift, over, Stage, lifted}
use Rattle.grid_structure.proofs.BranchEntries.{Entered, entered, flat_joined}

insert_split : {X : Type 0} (xs : List X) (n : ℕ) (x : X) → n ≤ length xs → insert xs n x ≡ take n xs ++ x ∷ drop n xs
insert_split xs zero x l = refl
insert_split [] (suc n) x l = absurd (omega arith)
insert_split (y ∷ xs) (suc n) x l = ap (λ z. y ∷ z) (insert_split xs n x (omega arith))

pub insert_last : {X : Type 0} (xs : List X) (n : ℕ) (x : X) → n ≡ length xs → insert xs n x ≡ xs ++ x ∷ []
insert_last {X} xs n x e = rw e (over xs)
  where
    over : (ys : List X) → insert ys (length ys) x ≡ ys ++ x ∷ []
    over [] = refl
    over (y ∷ ys) = ap (λ z. y ∷ z) (over ys)

-- what a call answers that passes a fault on
pub told_on : (r : Result ⊤ ApplyFault) (e : ApplyFault) (x : Result Network EditFault) → IsErrAnd r (λ f. f ≡ e) → IsTold x e → IfErr r (IsTold x)
told_on (Ok done) e x h g = tt
told_on (Err f) e x h g = subst (IsTold x) (sym h) g

entry_no_substation : (l : Landings) → substation_at (Some (branch_entry l)) ≡ None
entry_no_substation l = by l.third
  where
    by : (o : Option Landing) → substation_at (Some (branch_entry (record { first = l.first; second = l.second; third = o }))) ≡ None
    by None = refl
    by (Some d) = refl

entry_no_level : (places : List ℕ) (l : Landings) → level_at places (Some (branch_entry l)) ≡ None
entry_no_level places l = by l.third
  where
    by : (o : Option Landing) → level_at places (Some (branch_entry (record { first = l.first; second = l.second; third = o }))) ≡ None
    by None = refl
    by (Some d) = refl

entry_no_switch : (places : List ℕ) (l : Landings) → switch_at places (Some (branch_entry l)) ≡ None
entry_no_switch places l = by l.third
  where
    by : (o : Option Landing) → switch_at places (Some (branch_entry (record { first = l.first; second = l.second; third = o }))) ≡ None
    by None = refl
    by (Some d) = refl

module _ {id : List ℕ} {heads : List Head} {ls : List VoltageLevel} {ts lines : List NamedBranch} {count : ℕ} {look : List ℕ → Option IdOwner} {places : List ℕ} (kept : IsKept id heads ls ts lines count look places) where
  abbrev net : Network
  net = network_of id heads ls ts lines

  -- what is asked of a new branch
  pub record Joins (e : List ℕ) (shape : Branch) (l : Landings) : Type 0 where
    pub free : taken net e ≡ false
    pub fine : refuse_home net shape ≡ Ok tt
    pub are : AreLandings heads places look (home_of shape) 1 (branch_ends shape) (landing_list l)

  pub branch_taken : (e : List ℕ) (shape : Branch) → taken net e ≡ true → apply net (AddBranch e shape) ≡ Err faults.IdTaken
  unfolding apply
  branch_taken e shape h = rw h refl

  pub branch_unfit : (e : List ℕ) (shape : Branch) (fault : EditFault) → taken net e ≡ false → refuse_home net shape ≡ Err fault → apply net (AddBranch e shape) ≡ Err fault
  unfolding apply
  branch_unfit e shape fault free h = rw (free, h) refl

  finds : (q : List ℕ) → position (λ (l : VoltageLevel). same_id q l.id) ls ≡ level_at places (look q)
  finds q = (kept_flat kept).levels_found q

  stage : Stage id heads ts lines ls ls []
  stage = record { midway = record { base = base_of net kept.sound; frames = refl; lines = refl; ids = λ q. refl; sides = λ x. refl }; ids = refl; few = kept.level_count }

  placed : (e : List ℕ) (shape : Branch) (l : Landings) → Joins e shape l → place_ends (home_of shape) e 1 (branch_ends shape) net ≡ lift (over id heads ts lines) (landed e (landing_list l) ls)
  placed e shape l j = lifted id heads ts lines (home_of shape) e look places ls (branch_ends shape) (landing_list l) 1 ls [] stage finds j.are

  ends_told : (e : List ℕ) (shape : Branch) (l : Landings) (fault : ApplyFault) → Joins e shape l → IsLandFault (landed e (landing_list l) ls) fault → IsTold (apply net (AddBranch e shape)) fault
  unfolding apply
  ends_told e shape l Memory j h = tt
  ends_told e shape l (Refused fault) j h = rw (j.free, j.fine, placed e shape l j, h) refl

  taken_told : (e : List ℕ) (shape : Branch) (fault : ApplyFault) → taken net e ≡ true → IsLandFault (Err faults.IdTaken) fault → IsTold (apply net (AddBranch e shape)) fault
  taken_told e shape Memory had h = tt
  taken_told e shape (Refused fault) had h =
      let same : faults.IdTaken ≡ fault = cc in
      branch_taken e shape had ∙ ap {B = Result Network EditFault} (λ z. Err z) same

  -- that the id is taken is told first
  pub branch_told : (e : List ℕ) (shape : Branch) (l : Landings) (fault : ApplyFault) → refuse_home net shape ≡ Ok tt → AreLandings heads places look (home_of shape) 1 (branch_ends shape) (landing_list l)
      → IsLandFault (cond (is_some (look e)) (Err faults.IdTaken) (landed e (landing_list l) ls)) fault → IsTold (apply net (AddBranch e shape)) fault
  branch_told e shape l fault fine are h = by (is_some (look e)) (taken_by look places net e kept.indexed) h
    where
      by : (t : Bool) → taken net e ≡ t → IsLandFault (cond t (Err faults.IdTaken) (landed e (landing_list l) ls)) fault → IsTold (apply net (AddBranch e shape)) fault
      by true had h = taken_told e shape fault had h
      by false free h = ends_told e shape l fault (record { free = free; fine = fine; are = are }) h

  -- the network with the ends placed, and the branch still to be put
  branch_put : (e : List ℕ) (shape : Branch) (l : Landings) (after : List VoltageLevel) → Joins e shape l → landed e (landing_list l) ls ≡ Ok after
      → apply net (AddBranch e shape) ≡ Ok (with_branch (record { id = e; shape = shape }) (home_of shape) (network_of id heads after ts lines))
  unfolding apply
  branch_put e shape l after j h = rw (j.free, j.fine, placed e shape l j, h) refl

  pub line_done : (e : List ℕ) (shape : Branch) (l : Landings) (after : List VoltageLevel) (last : ℕ) → Joins e shape l → IsHome net (home_of shape) None → landed e (landing_list l) ls ≡ Ok after → last ≡ length lines
      → apply net (AddBranch e shape) ≡ Ok (network_of id heads after ts (insert lines last (record { id = e; shape = shape })))
  unfolding with_branch
  line_done e shape l after last j none h is =
      let b : NamedBranch = record { id = e; shape = shape } in
      branch_put e shape l after j h ∙ by (home_of shape) none ∙ ap (λ (z : List NamedBranch). Ok (network_of id heads after ts z)) (sym (insert_last lines last b is))
    where
      by : (home : Option (List ℕ)) → IsHome net home None → ◌≡◌ {A = Result Network EditFault} (Ok (with_branch (record { id = e; shape = shape }) home (network_of id heads after ts lines))) (Ok (network_of id heads after ts (lines ++ record { id = e; shape = shape } ∷ [])))
      by None u = refl
      by (Some sub) u = absurd u

  pub transformer_done : (e : List ℕ) (shape : Branch) (l : Landings) (after : List VoltageLevel) (j : ℕ) (h : Head) → Joins e shape l → IsHome net (home_of shape) (Some j) → slice_get heads j ≡ Some h → landed e (landing_list l) ls ≡ Ok after
      → apply net (AddBranch e shape) ≡ Ok (network_of id (slice_set heads j (wound h)) after (insert ts (transformer_total (take (j + 1) heads)) (record { id = e; shape = shape })) lines)
  unfolding with_branch with_substation
  transformer_done e shape l after j h joins home at done = branch_put e shape l after joins done ∙ by (home_of shape) home
    where
      by : (home : Option (List ℕ)) → IsHome net home (Some j)
          → ◌≡◌ {A = Result Network EditFault} (Ok (with_branch (record { id = e; shape = shape }) home (network_of id heads after ts lines)))
          (Ok (network_of id (slice_set heads j (wound h)) after (insert ts (transformer_total (take (j + 1) heads)) (record { id = e; shape = shape })) lines))
      by None u = absurd u
      by (Some sub) found =
          let b : NamedBranch = record { id = e; shape = shape } in
          let one : j + 1 ≡ suc j = omega arith in
          let once : times sub (map (λ (h : Head). h.id) heads) ≤ 1 = rw (cut_names heads ls ts) at (sub_ids_once net (differ-times (all_ids net) kept.sound.ids) sub) in
          let room : transformer_total (take (suc j) heads) ≤ length ts = omega (arith, many_part heads (suc j), kept.transformer_count) in
          let made = cut_wound sub b heads after ts j h at (head_named kept sub j h found at) room once in
          rw one (ap (λ (z : List Substation). Ok (record (network_of id heads after ts lines) { substations = z })) made)

  -- ---- what the structure keeps

  switches_same : (after : List VoltageLevel) (more : List Head) (ts' lines' : List NamedBranch) → SameButEnds after ls → length after ≡ level_total more → count ≡ length (switches (network_of id more after ts' lines'))
  switches_same after more ts' lines' same few =
      let now = network_of id more after ts' lines' in
      let had : length (switches net) ≡ switch_total ls = switches_counted net ∙ ap switch_total (kept_levels kept) in
      let has : length (switches now) ≡ switch_total after = switches_counted now ∙ ap switch_total (levels-network_of id more after ts' lines' few) in
      kept.switch_count ∙ had ∙ sym (same_total after ls same) ∙ sym has

  own_ends : (e : List ℕ) (shape : Branch) (l : Landings) (after : List VoltageLevel) → Joins e shape l → landed e (landing_list l) ls ≡ Ok after → Entered places e (branch_entry l) (length (branch_ends shape)) after
  own_ends e shape l after j h =
      entered heads places look (home_of shape) e shape l ls after j.are h (λ s. (kept_flat kept).terminals e s ∙ ap (terminal_at places s) (finds_nothing kept e j.free))

  flat : (e : List ℕ) (shape : Branch) (l : Landings) (after : List VoltageLevel) (more : List Head) (front back : List NamedBranch) (other : List ℕ → Option IdOwner) → Joins e shape l → landed e (landing_list l) ls ≡ Ok after
      → heads_alike more heads → ts ++ lines ≡ front ++ back → ((q : List ℕ) → other q ≡ cond (bytes_eq e q) (Some (branch_entry l)) (look q))
      → IsFlat other places more after (front ++ record { id = e; shape = shape } ∷ back)
  flat e shape l after more front back other j h alike split is =
      let same = same_all e (landing_list l) ls after h in
      let f : IsFlat look places heads ls (front ++ back) = subst (λ (z : List NamedBranch). IsFlat look places heads ls z) split (kept_flat kept) in
      flat_joined look other places heads more ls after front back (record { id = e; shape = shape }) (branch_entry l) alike (finds_nothing kept e j.free) is same
      (λ q s apart. others_all e (landing_list l) ls after q s h apart) (own_ends e shape l after j h) (entry_no_substation l) (entry_no_level places l) (entry_no_switch places l) f

  pub line_kept : (e : List ℕ) (shape : Branch) (l : Landings) (after : List VoltageLevel) (last : ℕ) (other : List ℕ → Option IdOwner) → Joins e shape l → IsHome net (home_of shape) None → landed e (landing_list l) ls ≡ Ok after → last ≡ length lines
      → length ts + length lines + 1 < 2 ^ 32 → ((q : List ℕ) → other q ≡ cond (bytes_eq e q) (Some (branch_entry l)) (look q))
      → IsKept id heads after ts (insert lines last (record { id = e; shape = shape })) count other places
  line_kept e shape l after last other j none h at room is =
      let b : NamedBranch = record { id = e; shape = shape } in
      let all = insert lines last b in
      let now = network_of id heads after ts all in
      let same = same_all e (landing_list l) ls after h in
      let few : length after ≡ level_total heads = same_length after ls same ∙ kept.level_count in
      let whole : ts ++ all ≡ (ts ++ lines) ++ b ∷ [] = ap (λ z. ts ++ z) (insert_last lines last b at) ∙ sym (append_assoc ts lines (b ∷ [])) in
      let table : IsFlat other places heads after (ts ++ all) = subst (λ (z : List NamedBranch). IsFlat other places heads after z) (sym whole)
      (flat e shape l after heads (ts ++ lines) [] other j h refl (sym (append-nil (ts ++ lines))) is) in
      let long : length all ≡ length lines + 1 = length-insert lines last b (omega (arith, at)) in
      record {
        sound = apply_sound net now (AddBranch e shape) (line_done e shape l after last j none h at) kept.sound;
        level_count = few;
        transformer_count = kept.transformer_count;
        switch_count = switches_same after heads ts all same few;
        few_substations = kept.few_substations;
        few_branches = omega (arith, long, room);
        indexed = from_flat id heads after ts all few kept.transformer_count other places table;
      }

  pub transformer_kept : (e : List ℕ) (shape : Branch) (l : Landings) (after : List VoltageLevel) (k : ℕ) (head : Head) (other : List ℕ → Option IdOwner) → Joins e shape l → IsHome net (home_of shape) (Some k) → slice_get heads k ≡ Some head
      → landed e (landing_list l) ls ≡ Ok after → length ts + length lines + 1 < 2 ^ 32 → ((q : List ℕ) → other q ≡ cond (bytes_eq e q) (Some (branch_entry l)) (look q))
      → IsKept id (slice_set heads k (wound head)) after (insert ts (transformer_total (take (k + 1) heads)) (record { id = e; shape = shape })) lines count other places
  transformer_kept e shape l after k head other j home got h room is =
      let b : NamedBranch = record { id = e; shape = shape } in
      let at = transformer_total (take (k + 1) heads) in
      let more = slice_set heads k (wound head) in
      let all = insert ts at b in
      let now = network_of id more after all lines in
      let same = same_all e (landing_list l) ls after h in
      let fits : at ≤ length ts = omega (arith, many_part heads (k + 1), kept.transformer_count) in
      let few : length after ≡ level_total more = same_length after ls same ∙ kept.level_count ∙ sym (total_wound heads k head got) in
      let long : length all ≡ length ts + 1 = length-insert ts at b fits in
      let many : length all ≡ transformer_total more = long ∙ ap (λ n. n + 1) kept.transformer_count ∙ sym (many_wound heads k head got) in
      let front = take at ts in
      let back = drop at ts ++ lines in
      let split : ts ++ lines ≡ front ++ back = ap (λ z. z ++ lines) (sym (joined at ts)) ∙ append_assoc front (drop at ts) lines in
      let whole : all ++ lines ≡ front ++ b ∷ back = ap (λ z. z ++ lines) (insert_split ts at b fits) ∙ append_assoc front (b ∷ drop at ts) lines in
      let table : IsFlat other places more after (all ++ lines) = subst (λ (z : List NamedBranch). IsFlat other places more after z) (sym whole)
      (flat e shape l after more front back other j h (ids_wound heads k head got) split is) in
      record {
        sound = apply_sound net now (AddBranch e shape) (transformer_done e shape l after k head j home got h) kept.sound;
        level_count = few;
        transformer_count = many;
        switch_count = switches_same after more all lines same few;
        few_substations = omega (arith, kept.few_substations, length-slice_set heads k (wound head));
        few_branches = omega (arith, long, room);
        indexed = from_flat id more after all lines few many other places table;
      }

  -- ---- what the code asks

  pub home_inside : (home : Option (List ℕ)) (j : ℕ) → IsHome net home (Some j) → j < length heads
  home_inside None j u = absurd u
  home_inside (Some sub) j found = omega (arith, substation_below net sub j found, length-cut heads ls ts)

  pub transformers_inside : (j : ℕ) → transformer_total (take (j + 1) heads) ≤ length ts
  transformers_inside j = omega (arith, many_part heads (j + 1), kept.transformer_count)

  pub head_fits : (j : ℕ) (h : Head) → slice_get heads j ≡ Some h → h.transformers ≤ length ts
  head_fits j h at = omega (arith, head_many heads j h at, kept.transformer_count)

  -- each place is one of the levels
  pub places_inside : All (λ place. place < level_total heads) places
  places_inside k d l = over places k (kept_flat kept).below l
    where
      over : (ps : List ℕ) (k : ℕ) → list_all (λ place. nat_lt place (length ls)) ps ≡ true → k < length ps → slice_index_or ps k d < level_total heads
      over [] k h l = absurd (omega arith)
      over (p ∷ ps) zero h l = omega (arith, ltb-true p (length ls) (and_parts (nat_lt p (length ls)) (list_all (λ place. nat_lt place (length ls)) ps) h).0, kept.level_count)
      over (p ∷ ps) (suc k) h l = over ps k (and_parts (nat_lt p (length ls)) (list_all (λ place. nat_lt place (length ls)) ps) h).1 (omega arith)

  spot_inside : (home : Option (List ℕ)) (q : List ℕ) (spot : LevelFound) → IsSpot heads places home (look q) spot → IsInside (length ls) spot
  spot_inside home q Nowhere h = tt
  spot_inside home q Elsewhere h = tt
  spot_inside home q (At keyed) (found, key, home_is) = (position_found (λ (l : VoltageLevel). same_id q l.id) ls keyed.place (finds q ∙ found)).0

  all_inside : (home : Option (List ℕ)) (side : ℕ) (ends : List End) (xs : List Landing) → AreLandings heads places look home side ends xs → (k : ℕ) (d : Landing) → k < length xs → IsInside (length ls) (slice_index_or xs k d).spot
  all_inside home side [] [] h k d l = absurd (omega arith)
  all_inside home side [] (x ∷ xs) h k d l = absurd h
  all_inside home side (end ∷ ends) [] h k d l = absurd h
  all_inside home side (end ∷ ends) (x ∷ xs) h zero d l = spot_inside home end.level x.spot h.0.spot
  all_inside home side (end ∷ ends) (x ∷ xs) h (suc k) d l = all_inside home (side + 1) ends xs h.1 k d (omega arith)

  -- each end that has a level has one of the levels
  pub landings_inside : (shape : Branch) (l : Landings) → AreLandings heads places look (home_of shape) 1 (branch_ends shape) (landing_list l) → All (λ x. IsInside (length ls) x.spot) (landing_list l)
  landings_inside shape l are k d less = all_inside (home_of shape) 1 (branch_ends shape) (landing_list l) are k d less
