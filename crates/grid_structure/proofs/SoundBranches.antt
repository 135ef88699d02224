-- A new branch leaves a network sound: its ends are placed one after the other, and then it stands in its list.
use Rattle.std.proofs.Common.{◌≡◌, refl, sym, ap, ◌∙◌, subst, ℕ, ℤ, pos, negsuc, ◌+◌, ◌≤◌, Bool, true, false, cond, not, ◌&&◌, ◌||◌, List, [], ◌∷◌, ◌++◌, arith, inl, inr, Option, Some, None, append_assoc}
use Rattle.std.specs.Prelude.{map, flat_map, find, nat_le, Ok, Err, is_none}
use Rattle.std.specs.List.{list_all, list_any}
use Rattle.std.proofs.lemmas.Bool.{and_parts, and_from, or_cases, or_left, or_right, false≢true, true≢false}
use Rattle.std.proofs.lemmas.List.{map-append, append-nil}
use Rattle.std.proofs.lemmas.Grind.{flat_map-append}
use Rattle.grid_lemmas.proofs.Bools.{or_swap}
use Rattle.grid_ids.specs.Name.{same_id, has_id}
use Rattle.grid_ids.specs.Refusing.{refuse_if, found_or, map_fault}
use Rattle.grid_ids.proofs.Alike.{same_is}
use Rattle.grid_kinds.specs.Records.{rated_fault}
use Rattle.grid_level.specs.declared.Placed.{Placed}
use Rattle.grid_level.specs.VoltageLevel.{VoltageLevel}
use Rattle.grid_level.specs.Passing.{is_branch_end, ends}
use Rattle.grid_level.specs.Sound.{level_passes, stand_passes, side_passes}
use Rattle.grid_level.proofs.LevelEdits as on_level
use Rattle.grid_structure.specs.Network.{Network, Substation}
use Rattle.grid_structure.specs.Sites.{levels, branches, switches, level_named, substation_named, level_ids, branch_ids, all_ids, taken, branch_ends, home_of, rated}
use Rattle.grid_structure.specs.Editing.{apply, with_substation, with_level, with_levels, with_branch, in_home, place_end, place_ends, refuse_home, edit_fault}
use Rattle.grid_structure.specs.declared.NamedBranch.{NamedBranch}
use Rattle.grid_structure.specs.declared.Branch.{Branch}
use Rattle.grid_structure.specs.declared.End.{End}
use Rattle.grid_structure.specs.declared.EditFault.TheVariants as faults
use Rattle.grid_structure.specs.declared.Edit.TheVariants as edits
use Rattle.grid_structure.specs.Soundness.{IsSound, record_sides, placed_sides, all_among, same_side, sides_from, transformer_passes, line_passes, stands_in}
use Rattle.grid_structure.proofs.Counts.{times, times-append}
use Rattle.grid_structure.proofs.SoundSubstations.{bare_alone}
use Rattle.grid_structure.proofs.Frames.{Base, is_same, local, locals, locals-append, ids_of, ids_counted, sub_ids, put, put_keeps, put_base, put_level, frame, framed, frame-with_levels, same_sub_ids, same_level_ids, same_branches, same_branch_ids}
use Rattle.grid_structure.proofs.Sides.{Side, has, has-append, among_has, among_more, has_among, each_itself, placed_itself, sides_in, more_sides, is_same_side}
use Rattle.grid_structure.proofs.OneLevel.{base_of, sound_of, found, none_refused, fits, old_passes, singles_placed, sides_placed_at, names_of}
use Rattle.grid_structure.proofs.Substations.{within_of, found_has, names, changed, changed_at, alone, sub_ids_once, levels_in, transformers_in, levels_at, transformers_at, names_at, at_sub, sub_passes, all_implied}
use Rattle.grid_level.proofs.PlacedTerminals as placing
use Rattle.grid_level.specs.declared.Stand.TheVariants.{BranchEnd}
use Rattle.grid_level.specs.LevelEdits.{level_with_terminal, with_placed, node_of, node_range}
use Rattle.grid_structure.specs.declared.Branch.TheVariants.{Line, TwoWindings, ThreeWindings}

-- ---- the network while the ends are placed

pub record Midway (start net : Network) (ends : List Side) : Type 0 where
  pub base : Base net
  pub frames : frame net ≡ frame start
  pub lines : net.lines ≡ start.lines
  pub ids : (q : List ℕ) → times q (all_ids net) ≡ times q (all_ids start)
  pub sides : (x : Side) → has (sides_in (levels net)) x ≡ (has ends x || has (sides_in (levels start)) x)

home_by : (home : Option (List ℕ)) (level : List ℕ) (a b : Network) → frame a ≡ frame b → in_home a home level ≡ in_home b home level
unfolding in_home
home_by None level a b e = refl
home_by (Some home) level a b e = along a.substations ∙ ap (λ (z : List (List ℕ × List (List ℕ) × List NamedBranch)). list_any (λ f. same_id home f.0 && has_id f.1 level) z) e ∙ sym (along b.substations)
  where
    along : (subs : List Substation) → list_any (λ (s : Substation). same_id home s.id && has_id (map (λ (l : VoltageLevel). l.id) s.levels) level) subs ≡ list_any (λ f. same_id home f.0 && has_id f.1 level) (map framed subs)
    along [] = refl
    along (s ∷ subs) = ap (λ z. (same_id home s.id && has_id (map (λ (l : VoltageLevel). l.id) s.levels) level) || z) (along subs)

or_assoc : (a b c : Bool) → a || (b || c) ≡ (a || b) || c
or_assoc true b c = refl
or_assoc false b c = refl

pub record Ended (start net : Network) (home : Option (List ℕ)) (id : List ℕ) (side : ℕ) (end : End) (ends : List Side) : Type 0 where
  pub midway : Midway start net ((id, side, end.level, end.node) ∷ ends)
  pub itself : same_side (id, side, end.level, end.node) (id, side, end.level, end.node) ≡ true
  pub homely : in_home start home end.level ≡ true

not_not : (t : Bool) → not t ≡ false → t ≡ true
not_not true h = refl
not_not false h = absurd (true≢false h)

pub node_is : (node : ℤ) (n : ℕ) → node_of node ≡ Ok n → node ≡ pos n
unfolding node_of
node_is (pos k) n h = by (nat_le k 65535) h
  where
    by : (t : Bool) → cond t (Ok k) (Err (node_range (pos k))) ≡ Ok n → pos k ≡ pos n
    by true h = cc
    by false h = cc
node_is (negsuc k) n h = cc

found_id : (id : List ℕ) (ls : List VoltageLevel) (l : VoltageLevel) → find (λ (l : VoltageLevel). same_id id l.id) ls ≡ Some l → id ≡ l.id
found_id id [] l h = cc
found_id id (x ∷ ls) l h = by (same_id id x.id) refl h (found_id id ls l)
  where
    by : (t : Bool) → same_id id x.id ≡ t → ◌≡◌ {A = Option VoltageLevel} (cond t (Some x) (find (λ (l : VoltageLevel). same_id id l.id) ls)) (Some l) → (find (λ (l : VoltageLevel). same_id id l.id) ls ≡ Some l → id ≡ l.id) → id ≡ l.id
    by true e h again = let same : x ≡ l = cc in same_is id x.id e ∙ ap (λ z. z.id) same
    by false e h again = again h

named_id : (net : Network) (id : List ℕ) (l : VoltageLevel) → level_named net id ≡ Some l → id ≡ l.id
unfolding level_named
named_id net id l h = found_id id (levels net) l h

same_ends : (id : List ℕ) (side : ℕ) (a b : List ℕ) (m n : ℤ) → a ≡ b → m ≡ n → ◌≡◌ {A = Side} (id, side, a, m) (id, side, b, n)
same_ends id side a b m n e f = rw (e, f) refl

pub ended : (start net new : Network) (home : Option (List ℕ)) (id : List ℕ) (side : ℕ) (end : End) (ends : List Side) → Midway start net ends → place_end home id side end net ≡ Ok new → Ended start new home id side end ends
unfolding place_end is_branch_end stand_passes side_passes with_level with_levels
ended start net new home id side end ends m h =
    let o = on_level.went (found_or (level_named net end.level) faults.NoLevel) _ new h in
    let t = on_level.went (refuse_if (not (in_home net home end.level)) (faults.OtherSubstation side)) _ new o.next in
    let w = on_level.went (map_fault edit_fault (level_with_terminal o.value end.node (record { equipment = id; side = side }) BranchEnd)) _ new t.next in
    let old = o.value in
    let named : level_named net end.level ≡ Some old = found _ _ _ o.is in
    let k = placing.placing old end.node (record { equipment = id; side = side }) BranchEnd w.value (fits _ _ _ w.is) in
    let p : Placed = record { node = k.number; terminal = record { equipment = id; side = side }; stand = BranchEnd } in
    let fresh = placing.placed_in old p in
    let is : with_levels (put fresh) net ≡ new = ap (λ (z : VoltageLevel). with_levels (put z) net) k.is ∙ cc (w.next) in
    let passes : level_passes fresh ≡ true = on_level.passes_from fresh (placing.placed_passes_on old p (on_level.passes_of old (old_passes net end.level old named m.base.each_level)) (on_level.node_of-le end.node k.number k.at) k.free k.few refl) in
    let same : (q : List ℕ) → local q fresh ≡ local q old = λ q. (let a : times q (names_of (with_placed p old.placed)) ≡ times q (names_of (p ∷ old.placed)) = singles_placed q p old.placed in let b : times q (names_of (p ∷ old.placed)) ≡ times q (names_of old.placed) = refl in omega (arith, a, b)) in
    let after = with_levels (put fresh) net in
    let base : Base after = put_base net end.level fresh old [] m.base named refl passes (λ q. omega (arith, same q)) (λ q. omega (arith, m.base.ids q)) (omega (arith, m.base.few_switches)) in
    let at = put_level net end.level fresh old m.base.ids named refl in
    let frames : frame after ≡ frame net = frame-with_levels (put fresh) (put_keeps fresh) net in
    let ids : (q : List ℕ) → times q (all_ids after) ≡ times q (all_ids net) = λ q.
    (let a : locals q (levels after) ≡ locals q at.before + (local q fresh + locals q at.after) = ap (locals q) at.is ∙ locals-append q at.before (fresh ∷ at.after) in
    let b : locals q (levels net) ≡ locals q at.before + (local q old + locals q at.after) = ap (locals q) at.was ∙ locals-append q at.before (old ∷ at.after) in
    let d : times q (sub_ids after) ≡ times q (sub_ids net) = ap (times q) (same_sub_ids after net frames) in
    let e : times q (level_ids after) ≡ times q (level_ids net) = ap (times q) (same_level_ids after net frames) in
    let f : times q (branch_ids after) ≡ times q (branch_ids net) = ap (times q) (same_branch_ids after net frames refl) in
    omega (arith, a, b, d, e, f, same q, ids_counted q after, ids_counted q net)) in
    let name : end.level ≡ old.id = named_id net end.level old named in
    let node : end.node ≡ pos k.number = node_is end.node k.number k.at in
    let mine : ◌≡◌ {A = Side} (id, side, end.level, end.node) (id, side, old.id, pos k.number) = same_ends id side end.level old.id end.node (pos k.number) name node in
    let sides : (x : Side) → has (sides_in (levels after)) x ≡ (same_side x (id, side, old.id, pos k.number) || has (sides_in (levels net)) x) = λ x.
    ap (λ z. has (sides_in z) x) at.is ∙ more_sides at.before at.after old fresh x (id, side, old.id, pos k.number) (sides_placed_at old.id x p old.placed)
    ∙ ap (λ z. same_side x (id, side, old.id, pos k.number) || has (sides_in z) x) (sym at.was) in
    let mid : Midway start after ((id, side, end.level, end.node) ∷ ends) = record {
      base = base;
      frames = frames ∙ m.frames;
      lines = m.lines;
      ids = λ q. ids q ∙ m.ids q;
      sides = λ x. sides x ∙ ap (λ (z : Side). same_side x z || has (sides_in (levels net)) x) (sym mine) ∙ ap (λ z. same_side x (id, side, end.level, end.node) || z) (m.sides x) ∙ or_assoc (same_side x (id, side, end.level, end.node)) (has ends x) (has (sides_in (levels start)) x);
    } in
    record {
      midway = subst (λ (z : Network). Midway start z ((id, side, end.level, end.node) ∷ ends)) is mid;
      itself = subst (λ (z : Side). same_side z z ≡ true) (sym mine) (is_same_side id side old.id k.number);
      homely = sym (home_by home end.level net start m.frames) ∙ not_not (in_home net home end.level) (on_level.not_refused _ _ _ t.is);
    }

pub record AllEnded (start net : Network) (home : Option (List ℕ)) (id : List ℕ) (side : ℕ) (those : List End) (ends : List Side) : Type 0 where
  pub midway : Midway start net (sides_from id side those ++ ends)
  pub itself : each_itself (sides_from id side those) ≡ true
  pub homely : list_all (λ (end : End). in_home start home end.level) those ≡ true

reordered : (start net : Network) (a b : List Side) → ((x : Side) → has a x ≡ has b x) → Midway start net a → Midway start net b
reordered start net a b e m = record { base = m.base; frames = m.frames; lines = m.lines; ids = m.ids; sides = λ x. m.sides x ∙ ap (λ z. z || has (sides_in (levels start)) x) (e x) }

pub all_ended : (home : Option (List ℕ)) (id : List ℕ) (those : List End) (side : ℕ) (start net new : Network) (ends : List Side) → Midway start net ends → place_ends home id side those net ≡ Ok new → AllEnded start new home id side those ends
unfolding place_ends sides_from
all_ended home id [] side start net new ends m h = let same : net ≡ new = cc in record { midway = subst (λ (z : Network). Midway start z ends) same m; itself = refl; homely = refl }
all_ended home id (end ∷ those) side start net new ends m h =
    let w = on_level.went (place_end home id side end net) _ new h in
    let e = ended start net w.value home id side end ends m w.is in
    let s : Side = (id, side, end.level, end.node) in
    let r = all_ended home id those (side + 1) start w.value new (s ∷ ends) e.midway w.next in
    let rest = sides_from id (side + 1) those in
    record {
      midway = reordered start new (rest ++ s ∷ ends) (s ∷ (rest ++ ends)) (λ x. has-append rest (s ∷ ends) x ∙ or_swap (has rest x) (same_side x s) (has ends x) ∙ ap (λ z. same_side x s || z) (sym (has-append rest ends x))) r.midway;
      itself = and_from _ _ e.itself r.itself;
      homely = and_from _ _ e.homely r.homely;
    }

-- ---- the branch in its list

-- a network with one branch more and the same levels, where the sides of the branch are placed already
pub added : (start net new : Network) (b : NamedBranch) (P Q : List NamedBranch) → IsSound start → Midway start net (sides_from b.id 1 (branch_ends b.shape)) → each_itself (sides_from b.id 1 (branch_ends b.shape)) ≡ true
    → taken start b.id ≡ false → branches net ≡ P ++ Q → branches new ≡ P ++ b ∷ Q → levels new ≡ levels net → names new.substations ≡ names net.substations
    → list_all sub_passes new.substations ≡ true → list_all line_passes new.lines ≡ true → IsSound new
unfolding record_sides placed_sides level_ids branch_ids switches all_among
added start net new b P Q s m itself fresh was is lists subs transformers lines =
    let by = λ (bs : List NamedBranch). flat_map (λ (b : NamedBranch). sides_from b.id 1 (branch_ends b.shape)) bs in
    let mine = sides_from b.id 1 (branch_ends b.shape) in
    let started : branches net ≡ branches start = same_branches net start m.frames m.lines in
    let k : Base new = record {
      ids = λ q. (let a : times q (sub_ids new) ≡ times q (sub_ids net) = ap (times q) subs in
          let c : times q (level_ids new) ≡ times q (level_ids net) = ap (λ z. times q (ids_of z)) lists in
          let d : locals q (levels new) ≡ locals q (levels net) = ap (locals q) lists in
          let e : times q (branch_ids new) ≡ times q (map (λ (b : NamedBranch). b.id) P) + (times q (b.id ∷ []) + times q (map (λ (b : NamedBranch). b.id) Q)) =
          ap (λ z. times q (map (λ (b : NamedBranch). b.id) z)) is ∙ ap (times q) (map-append (λ (b : NamedBranch). b.id) P (b ∷ Q)) ∙ times-append q (map (λ (b : NamedBranch). b.id) P) (map (λ (b : NamedBranch). b.id) (b ∷ Q))
          ∙ ap (λ z. times q (map (λ (b : NamedBranch). b.id) P) + z) (times-append q (b.id ∷ []) (map (λ (b : NamedBranch). b.id) Q)) in
          let f : times q (branch_ids net) ≡ times q (map (λ (b : NamedBranch). b.id) P) + times q (map (λ (b : NamedBranch). b.id) Q) =
          ap (λ z. times q (map (λ (b : NamedBranch). b.id) z)) was ∙ ap (times q) (map-append (λ (b : NamedBranch). b.id) P Q) ∙ times-append q (map (λ (b : NamedBranch). b.id) P) (map (λ (b : NamedBranch). b.id) Q) in
          omega (arith, a, c, d, e, f, bare_alone b.id q start fresh s, m.ids q, ids_counted q new, ids_counted q net));
      each_level = rw lists m.base.each_level;
      transformers = transformers;
      lines = lines;
      few_levels = rw lists m.base.few_levels;
      few_switches = rw lists m.base.few_switches;
    } in
    let placed : (x : Side) → has (sides_in (levels new)) x ≡ (has mine x || has (sides_in (levels start)) x) = λ x. ap (λ z. has (sides_in z) x) lists ∙ m.sides x in
    let recorded : (x : Side) → has (by (branches new)) x ≡ (has mine x || has (by (branches start)) x) = λ x.
    ap (λ z. has (by z) x) is ∙ ap (λ z. has z x) (flat_map-append (λ (b : NamedBranch). sides_from b.id 1 (branch_ends b.shape)) P (b ∷ Q)) ∙ has-append (by P) (mine ++ by Q) x
    ∙ ap (λ z. has (by P) x || z) (has-append mine (by Q) x) ∙ or_swap (has (by P) x) (has mine x) (has (by Q) x)
    ∙ ap (λ z. has mine x || z) (sym (has-append (by P) (by Q) x) ∙ ap (λ z. has z x) (sym (flat_map-append (λ (b : NamedBranch). sides_from b.id 1 (branch_ends b.shape)) P Q)) ∙ ap (λ z. has (by z) x) (sym was ∙ started)) in
    let old_placed : all_among (by (branches start)) (sides_in (levels new)) ≡ true = among_more (by (branches start)) (sides_in (levels start)) (sides_in (levels new)) s.sides_placed (λ x e. placed x ∙ or_right (has mine x) (has (sides_in (levels start)) x) e) in
    let new_placed : all_among mine (sides_in (levels new)) ≡ true = has_among mine (sides_in (levels new)) itself (λ x e. placed x ∙ or_left (has mine x) (has (sides_in (levels start)) x) e) in
    let both : branches start ≡ P ++ Q = sym started ∙ was in
    let first : all_among (by (branches new)) (sides_in (levels new)) ≡ true = rw is (joined_up b P Q (sides_in (levels new)) new_placed (rw both at old_placed)) in
    let second : all_among (sides_in (levels new)) (by (branches new)) ≡ true = has_among (sides_in (levels new)) (by (branches new)) (placed_itself (levels new))
    (λ x e. recorded x ∙ either (has mine x) (has (sides_in (levels start)) x) (has (by (branches start)) x) (among_has (sides_in (levels start)) (by (branches start)) x s.placed_are_sides) (sym (placed x) ∙ e)) in
    sound_of new k first second
  where
    either : (a b c : Bool) → (b ≡ true → c ≡ true) → a || b ≡ true → a || c ≡ true
    either true b c f h = refl
    either false b c f h = f h

    joined_up : (b : NamedBranch) (P Q : List NamedBranch) (those : List Side) → all_among (sides_from b.id 1 (branch_ends b.shape)) those ≡ true
        → all_among (flat_map (λ (b : NamedBranch). sides_from b.id 1 (branch_ends b.shape)) (P ++ Q)) those ≡ true → all_among (flat_map (λ (b : NamedBranch). sides_from b.id 1 (branch_ends b.shape)) (P ++ b ∷ Q)) those ≡ true
    joined_up b P Q those mine rest =
        let f = λ (b : NamedBranch). sides_from b.id 1 (branch_ends b.shape) in
        let p = λ (a : Side). has those a in
        let parts = on_level.all_parts p (flat_map f P) (flat_map f Q) (rw (flat_map-append f P Q) at rest) in
        rw (flat_map-append f P (b ∷ Q)) (on_level.all_join p (flat_map f P) (f b ++ flat_map f Q) parts.0 (on_level.all_join p (f b) (flat_map f Q) mine parts.1))

pub line_added : (start net : Network) (b : NamedBranch) → IsSound start → Midway start net (sides_from b.id 1 (branch_ends b.shape)) → each_itself (sides_from b.id 1 (branch_ends b.shape)) ≡ true
    → taken start b.id ≡ false → line_passes b ≡ true → IsSound (with_branch b None net)
unfolding with_branch branches levels
line_added start net b s m itself fresh passes =
    added start net (with_branch b None net) b (transformers_in net.substations ++ net.lines) [] s m itself fresh (sym (append-nil (transformers_in net.substations ++ net.lines)))
    (sym (append_assoc (transformers_in net.substations) net.lines (b ∷ []))) refl refl m.base.transformers (on_level.all_join line_passes net.lines (b ∷ []) m.base.lines (and_from _ _ passes refl))

abbrev pub with_transformer : NamedBranch → Substation → Substation
with_transformer b s = record s { transformers = s.transformers ++ b ∷ [] }

-- a level of the home is a level of its one substation
in_home_at : (home level : List ℕ) (before after : List Substation) (s : Substation) → times home (names before) ≡ 0 → times home (names after) ≡ 0
    → list_any (λ (s : Substation). same_id home s.id && has_id (map (λ (l : VoltageLevel). l.id) s.levels) level) (before ++ s ∷ after) ≡ true → has_id (map (λ (l : VoltageLevel). l.id) s.levels) level ≡ true
in_home_at home level [] after s none_before none_after h = elim (or_cases (same_id home s.id && has_id (map (λ (l : VoltageLevel). l.id) s.levels) level) (list_any (λ (s : Substation). same_id home s.id && has_id (map (λ (l : VoltageLevel). l.id) s.levels) level) after) h) [
  | inl e ↦ (and_parts (same_id home s.id) (has_id (map (λ (l : VoltageLevel). l.id) s.levels) level) e).1
  | inr e ↦ absurd (nowhere home level after none_after e)
]
  where
    nowhere : (home level : List ℕ) (subs : List Substation) → times home (names subs) ≡ 0 → list_any (λ (s : Substation). same_id home s.id && has_id (map (λ (l : VoltageLevel). l.id) s.levels) level) subs ≡ true → ⊥
    nowhere home level [] none h = false≢true h
    nowhere home level (s ∷ subs) none h = elim (or_cases (same_id home s.id && has_id (map (λ (l : VoltageLevel). l.id) s.levels) level) (list_any (λ (s : Substation). same_id home s.id && has_id (map (λ (l : VoltageLevel). l.id) s.levels) level) subs) h) [
      | inl e ↦ (let own : same_id home s.id ≡ true = (and_parts (same_id home s.id) (has_id (map (λ (l : VoltageLevel). l.id) s.levels) level) e).0 in
          let one : ◌≡◌ {A = ℕ} (cond (same_id home s.id) 1 0) 1 = ap (λ t. cond t 1 0) own in absurd (omega (arith, one, none)))
      | inr e ↦ nowhere home level subs (omega (arith, none)) e
    ]
in_home_at home level (x ∷ before) after s none_before none_after h = elim (or_cases (same_id home x.id && has_id (map (λ (l : VoltageLevel). l.id) x.levels) level) (list_any (λ (s : Substation). same_id home s.id && has_id (map (λ (l : VoltageLevel). l.id) s.levels) level) (before ++ s ∷ after)) h) [
  | inl e ↦ (let own : same_id home x.id ≡ true = (and_parts (same_id home x.id) (has_id (map (λ (l : VoltageLevel). l.id) x.levels) level) e).0 in
      let one : ◌≡◌ {A = ℕ} (cond (same_id home x.id) 1 0) 1 = ap (λ t. cond t 1 0) own in absurd (omega (arith, one, none_before)))
  | inr e ↦ in_home_at home level before after s (omega (arith, none_before)) none_after e
]

in_home_list : (home level : List ℕ) (net : Network) (subs : List Substation) → net.substations ≡ subs → in_home net (Some home) level ≡ true
    → list_any (λ (s : Substation). same_id home s.id && has_id (map (λ (l : VoltageLevel). l.id) s.levels) level) subs ≡ true
unfolding in_home
in_home_list home level net subs e h = rw (← e) h

stands_from : (id : List ℕ) (ids : List (List ℕ)) (shape : Branch) (home : List ℕ) → home_of shape ≡ Some home → same_id home id ≡ true → list_all (λ (end : End). has_id ids end.level) (branch_ends shape) ≡ true
    → is_none (rated_fault (rated shape)) ≡ true → stands_in id ids shape (home_of shape) ≡ true
unfolding stands_in
stands_from id ids shape home e a b d = rw e (and_from _ _ a (and_from _ _ b d))

sub_more : (s : Substation) (b : NamedBranch) → sub_passes s ≡ true → stands_in s.id (map (λ (l : VoltageLevel). l.id) s.levels) b.shape (home_of b.shape) ≡ true → sub_passes (with_transformer b s) ≡ true
unfolding transformer_passes
sub_more s b h k = on_level.all_join (λ (b : NamedBranch). stands_in s.id (map (λ (l : VoltageLevel). l.id) s.levels) b.shape (home_of b.shape)) s.transformers (b ∷ []) h (and_from _ _ k refl)

pub transformer_added : (start net : Network) (b : NamedBranch) (home : List ℕ) → IsSound start → Midway start net (sides_from b.id 1 (branch_ends b.shape)) → each_itself (sides_from b.id 1 (branch_ends b.shape)) ≡ true
    → taken start b.id ≡ false → home_of b.shape ≡ Some home → has_id (names start.substations) home ≡ true → list_all (λ (end : End). in_home start (Some home) end.level) (branch_ends b.shape) ≡ true
    → is_none (rated_fault (rated b.shape)) ≡ true → IsSound (with_branch b (Some home) net)
unfolding with_branch with_substation branches levels
transformer_added start net b home s m itself fresh is_home there homely good =
    let subs : names net.substations ≡ names start.substations = same_sub_ids net start m.frames in
    let k = within_of home net.substations (rw subs there) in
    let once : times home (names (k.before ++ k.sub ∷ k.after)) ≤ 1 = rw k.is at (sub_ids_once net m.base.ids home) in
    let others = alone home k.before k.after k.sub k.named once in
    let s' = with_transformer b k.sub in
    let at : map (changed home (with_transformer b)) net.substations ≡ k.before ++ s' ∷ k.after = ap (map (changed home (with_transformer b))) k.is ∙ changed_at home (with_transformer b) k.before k.after k.sub k.named once in
    let P = transformers_in k.before ++ k.sub.transformers in
    let Q = transformers_in k.after ++ net.lines in
    let was : branches net ≡ P ++ Q = ap (λ z. transformers_in z ++ net.lines) k.is ∙ ap (λ z. z ++ net.lines) (transformers_at k.before k.after k.sub) ∙ simp append_assoc in
    let new = at_sub net k.before s' k.after in
    let is : branches new ≡ P ++ b ∷ Q = ap (λ z. z ++ net.lines) (transformers_at k.before k.after s') ∙ simp append_assoc in
    let lists : levels new ≡ levels net = levels_at k.before k.after s' ∙ sym (levels_at k.before k.after k.sub) ∙ ap levels_in (sym k.is) in
    let ids : names new.substations ≡ names net.substations = names_at k.before k.after s' k.sub refl ∙ ap names (sym k.is) in
    let tr = on_level.all_parts sub_passes k.before (k.sub ∷ k.after) (rw k.is at m.base.transformers) in
    let tr_here = and_parts (sub_passes k.sub) (list_all sub_passes k.after) tr.1 in
    let ends_here : list_all (λ (end : End). has_id (map (λ (l : VoltageLevel). l.id) k.sub.levels) end.level) (branch_ends b.shape) ≡ true =
    all_implied (λ (end : End). in_home start (Some home) end.level) (λ (end : End). has_id (map (λ (l : VoltageLevel). l.id) k.sub.levels) end.level)
    (λ end e. in_home_at home end.level k.before k.after k.sub others.0 others.1 (in_home_list home end.level net (k.before ++ k.sub ∷ k.after) k.is (home_by (Some home) end.level net start m.frames ∙ e))) (branch_ends b.shape) homely in
    let stands : stands_in k.sub.id (map (λ (l : VoltageLevel). l.id) k.sub.levels) b.shape (home_of b.shape) ≡ true = stands_from k.sub.id (map (λ (l : VoltageLevel). l.id) k.sub.levels) b.shape home is_home (is_same home k.sub.id k.named) ends_here good in
    let transformers : list_all sub_passes new.substations ≡ true = on_level.all_join sub_passes k.before (s' ∷ k.after) tr.0 (and_from _ _ (sub_more k.sub b tr_here.0 stands) tr_here.1) in
    subst (λ (z : List Substation). IsSound (record net { substations = z })) (sym at)
    (added start net new b P Q s m itself fresh was is lists ids transformers m.base.lines)

-- by the three shapes of a branch
by : (net mid : Network) (id : List ℕ) (shape : Branch) (u : Unit {0}) → IsSound net → Midway net mid (sides_from id 1 (branch_ends shape)) → each_itself (sides_from id 1 (branch_ends shape)) ≡ true → taken net id ≡ false
    → refuse_home net shape ≡ Ok u → list_all (λ (end : End). in_home net (home_of shape) end.level) (branch_ends shape) ≡ true → IsSound (with_branch (record { id = id; shape = shape }) (home_of shape) mid)
unfolding home_of refuse_home rated line_passes substation_named
by net mid id (Line end1 end2) u s m itself fresh r homely = line_added net mid (record { id = id; shape = Line end1 end2 }) s m itself fresh refl
by net mid id (TwoWindings substation end1 end2 rated_u1 rated_u2) u s m itself fresh r homely =
    let f = on_level.went (found_or (find (λ (s : Substation). same_id substation s.id) net.substations) faults.NoSubstation) _ u r in
    transformer_added net mid (record { id = id; shape = TwoWindings substation end1 end2 rated_u1 rated_u2 }) substation s m itself fresh refl (found_has substation net.substations f.value (found _ _ _ f.is)) homely (ap is_none (none_refused _ _ _ f.next))
by net mid id (ThreeWindings substation end1 end2 end3 rated_u1 rated_u2 rated_u3) u s m itself fresh r homely =
    let f = on_level.went (found_or (find (λ (s : Substation). same_id substation s.id) net.substations) faults.NoSubstation) _ u r in
    transformer_added net mid (record { id = id; shape = ThreeWindings substation end1 end2 end3 rated_u1 rated_u2 rated_u3 }) substation s m itself fresh refl (found_has substation net.substations f.value (found _ _ _ f.is)) homely (ap is_none (none_refused _ _ _ f.next))

pub branch_sound : (net new : Network) (id : List ℕ) (shape : Branch) → apply net (edits.AddBranch id shape) ≡ Ok new → IsSound net → IsSound new
unfolding apply
branch_sound net new id shape h s =
    let t = on_level.went (refuse_if (taken net id) faults.IdTaken) _ new h in
    let r = on_level.went (refuse_home net shape) _ new t.next in
    let w = on_level.went (place_ends (home_of shape) id 1 (branch_ends shape) net) _ new r.next in
    let b : NamedBranch = record { id = id; shape = shape } in
    let is : with_branch b (home_of shape) w.value ≡ new = cc (w.next) in
    let start : Midway net net [] = record { base = base_of net s; frames = refl; lines = refl; ids = λ q. refl; sides = λ x. refl } in
    let e = all_ended (home_of shape) id (branch_ends shape) 1 net net w.value [] start w.is in
    let m : Midway net w.value (sides_from id 1 (branch_ends shape)) = reordered net w.value (sides_from id 1 (branch_ends shape) ++ []) (sides_from id 1 (branch_ends shape)) (λ x. ap (λ z. has z x) (append-nil (sides_from id 1 (branch_ends shape)))) e.midway in
    subst (λ (z : Network). IsSound z) is (by net w.value id shape r.value s m e.itself (on_level.not_refused _ _ _ t.is) r.is e.homely)
