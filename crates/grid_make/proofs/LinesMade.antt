-- The lines of a made network are added after its levels, and no edit is refused.
use Rattle.std.proofs.Common.{◌≡◌, refl, sym, ap, ◌∙◌, subst, ℕ, zero, suc, pos, ◌+◌, ◌-◌, ◌^◌, ◌<◌, ◌≤◌, Bool, true, false, cond, not, ◌||◌, List, [], ◌∷◌, ◌++◌, arith, inl, inr, append_assoc}
use Rattle.std.specs.Prelude.{Ok, ◌==◌, map, decimal, codes}
use Rattle.std.specs.List.{list_all}
use Rattle.std.proofs.lemmas.Bool.{and_from, or_cases, or_left, or_right, ne_eqb, eqb-true, eqb-false, false≢true}
use Rattle.std.proofs.lemmas.List.{append-nil, map-append}
use Rattle.grid_ids.specs.Name.{same_id, has_id, ids_differ}
use Rattle.grid_ids.proofs.Alike.{same_is}
use Rattle.grid_level.specs.VoltageLevel.{VoltageLevel}
use Rattle.grid_level.specs.Sound.{level_passes}
use Rattle.grid_structure.specs.Network.{Network, Substation}
use Rattle.grid_structure.specs.Sites.{levels, branches, switches, level_ids, switch_ids, single_ids, branch_ids, equipment_ids, all_ids, branch_ends, home_of}
use Rattle.grid_structure.specs.Editing.{with_branch, in_home, refuse_home}
use Rattle.grid_structure.specs.Soundness.{all_among, same_side, sides_from}
use Rattle.grid_structure.specs.declared.NamedBranch.{NamedBranch}
use Rattle.grid_structure.specs.declared.Branch.TheVariants.{Line}
use Rattle.grid_structure.specs.declared.Edit.{Edit}
use Rattle.grid_structure.proofs.Counts.{times, times-append}
use Rattle.grid_structure.proofs.Frames.{ids_counted}
use Rattle.grid_structure.proofs.Sides.{Side, has, has-append, sides_of, sides_in}
use Rattle.grid_structure.proofs.Substations.{levels_in, transformers_in}
use Rattle.grid_structure.proofs.BranchLoad.{part_of, partly, ids_partly, Ready, branch_loaded}
use Rattle.grid_make.specs.Draws.{later, same, in_turn}
use Rattle.grid_make.specs.MadeNetwork.{level_name, line_name, line_end, line_edits, level_edits, made_edits, blank, made_network, unrefused, MadeEditsAreAccepted}
use Rattle.grid_make.proofs.Turns.{and_then, unrefused_after}
use Rattle.grid_make.proofs.IdNumbers.{numbers_apart}
use Rattle.grid_make.proofs.MadeLevel.{flags, joined_level, joined_passes, joined_kept, forth_side, back_side}
use Rattle.grid_make.proofs.LevelsMade.{made, apart_letter, join_once, Before, sub_with, made_subs, levels_made}

-- ---- the network with the ends of all lines

abbrev joined_at : ℕ → ℕ → ℕ → VoltageLevel
joined_at size i before = joined_level i (flags size i before) (line_name i) (line_name (i - 1))

abbrev joined_subs : ℕ → ℕ → ℕ → List Substation
joined_subs size i before = sub_with i (joined_at size i before) ∷ []

abbrev joined_from : ℕ → ℕ → ℕ → ℕ → List Substation
joined_from size from count before = in_turn (joined_subs size) (later 5) from count before

all_pass : (size from count before : ℕ) → list_all level_passes (levels_in (joined_from size from count before)) ≡ true
unfolding in_turn
all_pass size from zero before = refl
all_pass size from (suc count) before = and_from _ _ (joined_passes from (flags size from before) (line_name from) (line_name (from - 1))) (all_pass size (suc from) count (later 5 before))

-- none of the ends stands yet
none_loaded : (size from count before : ℕ) → map (part_of []) (joined_from size from count before) ≡ in_turn (made_subs size) (later 5) from count before
unfolding in_turn
none_loaded size from zero before = refl
none_loaded size from (suc count) before = rw (joined_kept from (flags size from before) (line_name from) (line_name (from - 1)), none_loaded size (suc from) count (later 5 before)) refl

-- the side of a level is one of all
side_there : (size from count before i : ℕ) (x : Side) → from ≤ i → i < from + count → ((draw : ℕ) → has (sides_of (joined_at size i draw)) x ≡ true) → has (sides_in (levels_in (joined_from size from count before))) x ≡ true
unfolding in_turn
side_there size from zero before i x first last own = absurd (omega (arith, first, last))
side_there size from (suc count) before i x first last own =
    has-append (sides_of (joined_at size from before)) (sides_in (levels_in (joined_from size (suc from) count (later 5 before)))) x
    ∙ by (from == i) refl (side_there size (suc from) count (later 5 before) i x)
  where
    by : (t : Bool) → (from == i) ≡ t → (suc from ≤ i → i < suc from + count → ((draw : ℕ) → has (sides_of (joined_at size i draw)) x ≡ true) → has (sides_in (levels_in (joined_from size (suc from) count (later 5 before)))) x ≡ true)
        → has (sides_of (joined_at size from before)) x || has (sides_in (levels_in (joined_from size (suc from) count (later 5 before)))) x ≡ true
    by true e again = or_left _ _ (subst (λ n. has (sides_of (joined_at size n before)) x ≡ true) (sym (eqb-true from i e)) (own before))
    by false e again = or_right _ _ (again (let other = eqb-false from i e in omega (arith, first, other)) (omega (arith, last)) own)

-- ---- ids of lines

lines_apart : (i j : ℕ) → i < j → j < 2 ^ 64 → same_id (line_name j) (line_name i) ≡ false
lines_apart i j less small = rw (append-nil (decimal j), append-nil (decimal i)) at (numbers_apart 84 84 j i [] [] less small refl refl)

-- ---- the lines, one after the other

module _ (seed size : ℕ) (few : size ≤ 1000) where
  abbrev subs : List Substation
  subs = joined_from size 0 size seed

  abbrev with_lines : List NamedBranch → Network
  with_lines lines = record { id = codes "M"; substations = subs; lines = lines }

  abbrev line : ℕ → NamedBranch
  line i = record { id = line_name i; shape = Line (line_end i 100) (line_end (i + 1) 101) }

  -- what stands before a line is added
  record Lined (k : ℕ) (lines : List NamedBranch) (loaded : List Side) : Type 0 where
    once : (q : List ℕ) → times q (all_ids (with_lines lines)) ≤ 1
    fresh : (j : ℕ) → k ≤ j → j < 2 ^ 64 → times (line_name j) (all_ids (with_lines lines)) ≡ 0
    unloaded : (j : ℕ) → k ≤ j → j < 2 ^ 64 → (x : Side) → x.0 ≡ line_name j → has loaded x ≡ false

  ids_lined : (q : List ℕ) (lines : List NamedBranch) (b : NamedBranch) → times q (all_ids (with_lines (lines ++ b ∷ []))) ≡ times q (all_ids (with_lines lines)) + times q (b.id ∷ [])
  unfolding levels level_ids branch_ids branches
  ids_lined q lines b =
      let new = with_lines (lines ++ b ∷ []) in
      let old = with_lines lines in
      let more : branches new ≡ branches old ++ b ∷ [] = sym (append_assoc (transformers_in subs) lines (b ∷ [])) in
      let a : times q (branch_ids new) ≡ times q (branch_ids old) + times q (b.id ∷ []) =
      ap (λ z. times q (map (λ (x : NamedBranch). x.id) z)) more ∙ ap (times q) (map-append (λ (x : NamedBranch). x.id) (branches old) (b ∷ [])) ∙ times-append q (branch_ids old) (b.id ∷ []) in
      omega (arith, a, ids_counted q new, ids_counted q old)

  sides_there : (i : ℕ) → i + 1 < size → all_among (sides_from (line_name i) 1 (branch_ends (line i).shape)) (sides_in (levels_in subs)) ≡ true
  unfolding all_among sides_from branch_ends
  sides_there i next =
      let forth : not (i + 1 == size) ≡ true = ap not (ne_eqb (i + 1) size (λ e. omega (arith, next, e))) in
      let back : not (i + 1 == 0) ≡ true = ap not (ne_eqb (i + 1) 0 (λ e. omega (arith, e))) in
      let down : (i + 1) - 1 ≡ i = omega arith in
      let first = side_there size 0 size seed i (line_name i, 1, level_name i, pos 100) (omega arith) (omega (arith, next)) (λ draw. forth_side i (flags size i draw) (line_name i) (line_name (i - 1)) forth) in
      let second = side_there size 0 size seed (i + 1) (line_name i, 2, level_name (i + 1), pos 101) (omega arith) (omega (arith, next))
      (λ draw. subst (λ (n : ℕ). has (sides_of (joined_at size (i + 1) draw)) (line_name n, 2, level_name (i + 1), pos 101) ≡ true) down (back_side (i + 1) (flags size (i + 1) draw) (line_name (i + 1)) (line_name ((i + 1) - 1)) back)) in
      and_from _ _ first (and_from _ _ second refl)

  ready : (i : ℕ) (lines : List NamedBranch) (loaded : List Side) → i + 1 < size → Lined i lines loaded → Ready (with_lines lines) loaded (line i)
  unfolding levels in_home home_of refuse_home branch_ends
  ready i lines loaded next k = record {
    frames = record { ids = k.once; each_level = all_pass size 0 size seed };
    fresh = k.fresh i (omega arith) (omega (arith, next, few));
    unloaded = k.unloaded i (omega arith) (omega (arith, next, few));
    sides = sides_there i next;
    homely = refl;
    home = refl;
  }

  abbrev sides : ℕ → List Side
  sides i = sides_from (line_name i) 1 (branch_ends (line i).shape)

  line_made : (i : ℕ) (lines : List NamedBranch) (loaded : List Side) → i + 1 < size → Lined i lines loaded
      → unrefused (line_edits i 0) (partly loaded (with_lines lines)) ≡ Ok (partly (loaded ++ sides i) (with_lines (lines ++ line i ∷ [])))
  unfolding line_edits unrefused with_branch home_of
  line_made i lines loaded next k = rw (branch_loaded (with_lines lines) loaded (line i) (ready i lines loaded next k)) refl

  other_line : (i j : ℕ) (x : Side) → i < j → j < 2 ^ 64 → x.0 ≡ line_name j → has (sides i) x ≡ false
  unfolding sides_from branch_ends same_side
  other_line i j x less small named = (let apart : same_id x.0 (line_name i) ≡ false = rw named (lines_apart i j less small) in rw apart refl)

  line_after : (i : ℕ) (lines : List NamedBranch) (loaded : List Side) → i + 1 < size → Lined i lines loaded → Lined (suc i) (lines ++ line i ∷ []) (loaded ++ sides i)
  unfolding ids_differ has_id
  line_after i lines loaded next k =
      let old = all_ids (with_lines lines) in
      let fresh = k.fresh i (omega arith) (omega (arith, next, few)) in
      record {
        once = λ q. omega (arith, ids_lined q lines (line i), join_once old (line_name i ∷ []) k.once refl (λ x e. own x fresh e) q);
        fresh = λ j less small.
            (let other : times (line_name j) (line_name i ∷ []) ≡ 0 = ap (λ t. cond t 1 0 + 0) (lines_apart i j (omega (arith, less)) small) in
            omega (arith, ids_lined (line_name j) lines (line i), other, k.fresh j (omega (arith, less)) small));
        unloaded = λ j less small x named. has-append loaded (sides i) x ∙ rw (k.unloaded j (omega (arith, less)) small x named) (other_line i j x (omega (arith, less)) small named);
      }
    where
      own : (x : List ℕ) → times (line_name i) (all_ids (with_lines lines)) ≡ 0 → same_id x (line_name i) || false ≡ true → times x (all_ids (with_lines lines)) ≡ 0
      own x fresh e = elim (or_cases (same_id x (line_name i)) false e) [
        | inl y ↦ subst (λ z. times z (all_ids (with_lines lines)) ≡ 0) (sym (same_is x (line_name i) y)) fresh
        | inr n ↦ absurd (false≢true n)
      ]

  record Answer (list : List Edit) (net : Network) : Type 0 where
    after : Network
    is : unrefused list net ≡ Ok after

  lines_made : (from count : ℕ) (lines : List NamedBranch) (loaded : List Side) → from + count + 1 ≤ size → Lined from lines loaded → Answer (in_turn line_edits same from count 0) (partly loaded (with_lines lines))
  unfolding in_turn unrefused
  lines_made from zero lines loaded last k = record { after = partly loaded (with_lines lines); is = refl }
  lines_made from (suc count) lines loaded last k =
      let next : from + 1 < size = omega (arith, last) in
      let again = lines_made (suc from) count (lines ++ line from ∷ []) (loaded ++ sides from) (omega (arith, last)) (line_after from lines loaded next k) in
      record {
        after = again.after;
        is = and_then (line_edits from 0) (in_turn line_edits same (suc from) count 0) (partly loaded (with_lines lines)) (partly (loaded ++ sides from) (with_lines (lines ++ line from ∷ []))) again.after (line_made from lines loaded next k) again.is;
      }

  start : Before 0 []
  unfolding all_ids level_ids switch_ids equipment_ids single_ids branch_ids branches levels switches
  start = record { once = λ q. omega arith; none = λ q apart. refl; level_count = refl; switches = refl }

  no_refusal : 1 ≤ size → unrefused (made_edits seed size) blank ≡ Ok (made_network seed size)
  unfolding made_edits
  no_refusal some =
      let levels_in_place = levels_made size 0 size seed [] (omega (arith, few)) start in
      let bare : partly [] (with_lines []) ≡ made (in_turn (made_subs size) (later 5) 0 size seed) = ap made (none_loaded size 0 size seed) in
      let b = levels_in_place.after in
      let ids : (q : List ℕ) → times q (all_ids (with_lines [])) ≡ times q (all_ids (made (in_turn (made_subs size) (later 5) 0 size seed))) = λ q. sym (ids_partly q [] (with_lines [])) ∙ ap (λ z. times q (all_ids z)) bare in
      let lined : Lined 0 [] [] = record {
        once = λ q. omega (arith, ids q, b.once q);
        fresh = λ j less small. ids (line_name j) ∙ b.none (line_name j) (apart_letter (0 + size) (decimal j));
        unloaded = λ j less small x named. refl;
      } in
      let ended = lines_made 0 (size - 1) [] [] (omega (arith, some)) lined in
      let second : unrefused (in_turn line_edits same 0 (size - 1) 0) (made (in_turn (made_subs size) (later 5) 0 size seed)) ≡ Ok ended.after = subst (λ (z : Network). unrefused (in_turn line_edits same 0 (size - 1) 0) z ≡ Ok ended.after) bare ended.is in
      let all : unrefused (made_edits seed size) blank ≡ Ok ended.after =
      and_then (in_turn (level_edits size) (later 5) 0 size seed) (in_turn line_edits same 0 (size - 1) 0) blank (made (in_turn (made_subs size) (later 5) 0 size seed)) ended.after levels_in_place.accepted second in
      all ∙ ap (λ (z : Network). Ok z) (sym (unrefused_after (made_edits seed size) blank ended.after all))

pub made_edits_are_accepted : MadeEditsAreAccepted
made_edits_are_accepted seed size some few = no_refusal seed size few some
