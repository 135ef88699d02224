-- The edits that load a sound network give the network again: substation by substation its levels and then its transformers, and then the lines.
use Rattle.std.proofs.Common.{◌≡◌, refl, sym, ap, ◌∙◌, subst, ℕ, ◌+◌, ◌≤◌, true, false, cond, not, List, [], ◌∷◌, ◌++◌, length, arith, append_assoc}
use Rattle.std.specs.Prelude.{map, flat_map, Result, Ok}
use Rattle.std.specs.List.{list_all}
use Rattle.std.proofs.lemmas.Bool.{and_parts}
use Rattle.std.proofs.lemmas.List.{map-append, append-nil, length-append, length-map}
use Rattle.grid_lemmas.proofs.Bools.{or_false}
use Rattle.grid_ids.specs.Name.{ids_differ}
use Rattle.grid_level.specs.VoltageLevel.{VoltageLevel}
use Rattle.grid_level.specs.Passing.{is_branch_end}
use Rattle.grid_level.specs.Sound.{level_passes}
use Rattle.grid_level.proofs.LevelEdits as on_level
use Rattle.grid_structure.specs.Network.{Network, Substation, empty_of}
use Rattle.grid_structure.specs.Sites.{levels, branches, switches, all_ids, taken}
use Rattle.grid_structure.specs.Editing.{apply, max_levels, max_switches}
use Rattle.grid_structure.specs.Soundness.{IsSound}
use Rattle.grid_structure.specs.declared.NamedBranch.{NamedBranch}
use Rattle.grid_structure.specs.declared.Edit.TheVariants as edits
use Rattle.grid_structure.specs.declared.EditFault.{EditFault}
use Rattle.grid_structure.specs.Loading.{apply_each, level_edits, branch_edit, substation_edits, loading_edits, loaded, NetworksAreLoaded}
use Rattle.grid_structure.proofs.EditLists.{first_then, both_parts}
use Rattle.grid_structure.proofs.LastLevels.{growing, more}
use Rattle.grid_structure.proofs.Counts.{times, times-differ, differ-times}
use Rattle.grid_structure.proofs.Frames.{is_same, ids_of, locals, locals-append, level_ids_once, switch_total, switch_total-append, switches_counted}
use Rattle.grid_structure.proofs.LevelHomes.{none_there}
use Rattle.grid_structure.proofs.SoundRemovals.{sides_by}
use Rattle.grid_structure.proofs.Sides.{Side, has, side_of}
use Rattle.grid_structure.proofs.Substations.{levels_in, transformers_in, levels_at}
use Rattle.grid_structure.proofs.LevelLoad.{bare, level_is_loaded}
use Rattle.grid_structure.proofs.EndsLoad.{kept, stays}
use Rattle.grid_structure.proofs.BranchLoad.{part_of, partly, levels_partly, ids_partly, ids_same, locals_kept, filter_same, kept_same}
use Rattle.grid_structure.proofs.StageLoad.{stage, shown, weight, weights, weights-append, weighed, times_ids, line_step, transformer_step, branches_so_far, counted, levels_are, each_here, subs_pass, elsewhere, all_shown}

-- ---- levels without their branch ends

bare_is : (l : VoltageLevel) → bare l ≡ kept [] l
bare_is l = ap (λ z. record l { placed = z }) (filter_same (λ p. not (is_branch_end p.stand)) (stays [] l) l.placed (λ p. sym (or_false (not (is_branch_end p.stand)))))

bares_are : (ls : List VoltageLevel) → map bare ls ≡ map (kept []) ls
bares_are [] = refl
bares_are (l ∷ ls) = rw (bare_is l, bares_are ls) refl

-- levels of which no end is loaded
bares_kept : (loaded : List Side) (ls : List VoltageLevel) → ((x : Side) → 1 ≤ times x.2 (ids_of ls) → has loaded x ≡ false) → map bare ls ≡ map (kept loaded) ls
bares_kept loaded [] h = refl
bares_kept loaded (l ∷ ls) h =
    let own : times l.id (ids_of (l ∷ ls)) ≡ 1 + times l.id (ids_of ls) = ap (λ t. cond t 1 0 + times l.id (ids_of ls)) (is_same l.id l.id refl) in
    let first : bare l ≡ kept loaded l = bare_is l ∙ kept_same [] loaded l (λ p. sym (h (side_of l p) (omega (arith, own)))) in
    rw (first, bares_kept loaded ls (λ x e. h x (omega (arith, e)))) refl

total_kept : (loaded : List Side) (ls : List VoltageLevel) → switch_total (map (kept loaded) ls) ≡ switch_total ls
total_kept loaded [] = refl
total_kept loaded (l ∷ ls) = ap (λ n. length l.switches + n) (total_kept loaded ls)

levels_part : (loaded : List Side) (subs : List Substation) → levels_in (map (part_of loaded) subs) ≡ map (kept loaded) (levels_in subs)
unfolding levels
levels_part loaded subs = levels_partly loaded (stage [] subs [])

weights_part : (q : List ℕ) (loaded : List Side) (subs : List Substation) → weights q (map (part_of loaded) subs) ≡ weights q subs
weights_part q loaded [] = refl
weights_part q loaded (s ∷ subs) = omega (arith, weights_part q loaded subs, ap (times q) (ids_same loaded s.levels), locals_kept q loaded s.levels)

-- ---- one substation

-- the substation with some of its levels, none of their branch ends and no transformer
abbrev filled : Substation → List VoltageLevel → Substation
filled s ls = record { id = s.id; levels = map bare ls; transformers = [] }

module _ (net : Network) (k : IsSound net) (front back : List Substation) (s : Substation) (split : net.substations ≡ front ++ s ∷ back) where
  abbrev holding : List NamedBranch → Network
  holding done = stage net.id (front ++ record s { transformers = done } ∷ []) []

  transformers_loaded : (rest done : List NamedBranch) → s.transformers ≡ done ++ rest → apply_each (shown (holding done)) (map branch_edit rest) ≡ Ok (shown (stage net.id (front ++ s ∷ []) []))
  unfolding apply_each
  transformers_loaded [] done is = ap (λ (z : List NamedBranch). Ok (shown (holding z))) (sym (append-nil done) ∙ sym is)
  transformers_loaded (b ∷ rest) done is = rw (transformer_step net k front back s split done b rest is) (transformers_loaded rest (done ++ b ∷ []) (is ∙ sym (append_assoc done (b ∷ []) rest)))

  module _ (loaded : List Side) where
    abbrev before : List Substation
    before = map (part_of loaded) front

    grown : (done : List VoltageLevel) (l : VoltageLevel) → more (filled s done) (bare l) ≡ filled s (done ++ l ∷ [])
    grown done l = ap (λ (z : List VoltageLevel). record { id = s.id; levels = z; transformers = [] }) (sym (map-append bare done (l ∷ [])))

    ids_fit : (done rest : List VoltageLevel) → s.levels ≡ done ++ rest → ids_differ (all_ids (growing net.id before (filled s done))) ≡ true
    ids_fit done rest is = times-differ (all_ids (growing net.id before (filled s done))) (λ q. once q)
      where
        once : (q : List ℕ) → times q (all_ids (growing net.id before (filled s done))) ≤ 1
        once q =
            let w : weights q (before ++ filled s done ∷ []) ≡ weights q before + (weight q (filled s done) + 0) = weights-append q before (filled s done ∷ []) in
            let a : times q (ids_of (map bare done)) ≡ times q (ids_of done) = ap (λ z. times q (ids_of z)) (bares_are done) ∙ ap (times q) (ids_same [] done) in
            let b : locals q (map bare done) ≡ locals q done = ap (locals q) (bares_are done) ∙ locals_kept q [] done in
            let d : times q (ids_of s.levels) ≡ times q (ids_of done) + times q (ids_of rest) = ap (λ z. times q (ids_of z)) is ∙ times_ids q done rest in
            let e : locals q s.levels ≡ locals q done + locals q rest = ap (locals q) is ∙ locals-append q done rest in
            omega (arith, w, a, b, d, e, weights_part q loaded front, weighed q (growing net.id before (filled s done)), counted net k front back s split q)

    levels_grow : (done : List VoltageLevel) (l : VoltageLevel) → levels (growing net.id before (more (filled s done) l)) ≡ map (kept loaded) (levels_in front) ++ ((map (kept []) done ++ l ∷ []) ++ [])
    unfolding levels
    levels_grow done l = levels_at before [] (more (filled s done) l) ∙ ap (λ z. z ++ ((map bare done ++ l ∷ []) ++ [])) (levels_part loaded front) ∙ ap (λ z. map (kept loaded) (levels_in front) ++ ((z ++ l ∷ []) ++ [])) (bares_are done)

    few_levels : (done rest : List VoltageLevel) (l : VoltageLevel) → s.levels ≡ done ++ l ∷ rest → length (levels (growing net.id before (more (filled s done) l))) ≤ max_levels
    few_levels done rest l is =
        let first = map (kept loaded) (levels_in front) in
        let mid = map (kept []) done in
        let now = ap length (levels_grow done l) in
        let all : length (levels net) ≡ length (levels_in front ++ (s.levels ++ levels_in back)) = ap length (levels_are net k front back s split) in
        omega (
          arith,
          now,
          all,
          k.few_levels,
          ap length is,
          length-append first ((mid ++ l ∷ []) ++ []),
          length-append (mid ++ l ∷ []) [],
          length-append mid (l ∷ []),
          length-map (levels_in front) (kept loaded),
          length-map done (kept []),
          length-append (levels_in front) (s.levels ++ levels_in back),
          length-append s.levels (levels_in back),
          length-append done (l ∷ rest),
        )

    few_switches : (done rest : List VoltageLevel) (l : VoltageLevel) → s.levels ≡ done ++ l ∷ rest → length (switches (growing net.id before (more (filled s done) l))) ≤ max_switches
    few_switches done rest l is =
        let first = map (kept loaded) (levels_in front) in
        let mid = map (kept []) done in
        let now = switches_counted (growing net.id before (more (filled s done) l)) ∙ ap switch_total (levels_grow done l) in
        let all : length (switches net) ≡ switch_total (levels_in front ++ (s.levels ++ levels_in back)) = switches_counted net ∙ ap switch_total (levels_are net k front back s split) in
        omega (
          arith,
          now,
          all,
          k.few_switches,
          ap switch_total is,
          switch_total-append first ((mid ++ l ∷ []) ++ []),
          switch_total-append (mid ++ l ∷ []) [],
          switch_total-append mid (l ∷ []),
          total_kept loaded (levels_in front),
          total_kept [] done,
          switch_total-append (levels_in front) (s.levels ++ levels_in back),
          switch_total-append s.levels (levels_in back),
          switch_total-append done (l ∷ rest),
        )

    levels_loaded : (rest done : List VoltageLevel) → s.levels ≡ done ++ rest → apply_each (growing net.id before (filled s done)) (flat_map (level_edits s.id) rest) ≡ Ok (growing net.id before (filled s s.levels))
    unfolding apply_each
    levels_loaded [] done is = ap (λ (z : List VoltageLevel). Ok (growing net.id before (filled s z))) (sym (append-nil done) ∙ sym is)
    levels_loaded (l ∷ rest) done is =
        let next : s.levels ≡ (done ++ l ∷ []) ++ rest = is ∙ sym (append_assoc done (l ∷ []) rest) in
        let passes = (and_parts (level_passes l) (list_all level_passes rest) (on_level.all_parts level_passes done (l ∷ rest) (subst (λ (z : List VoltageLevel). list_all level_passes z ≡ true) is (each_here net k front back s split).1)).1).0 in
        let ids = subst (λ (z : Substation). ids_differ (all_ids (growing net.id before z)) ≡ true) (sym (grown done l)) (ids_fit (done ++ l ∷ []) rest next) in
        let first : apply_each (growing net.id before (filled s done)) (level_edits s.id l) ≡ Ok (growing net.id before (filled s (done ++ l ∷ []))) =
        level_is_loaded net.id before (filled s done) l ids passes (few_levels done rest l is) (few_switches done rest l is) ∙ ap (λ (z : Substation). Ok (growing net.id before z)) (grown done l) in
        both_parts (growing net.id before (filled s done)) (growing net.id before (filled s (done ++ l ∷ []))) (level_edits s.id l) (flat_map (level_edits s.id) rest) (Ok (growing net.id before (filled s s.levels))) first (levels_loaded rest (done ++ l ∷ []) next)

  -- no end of an earlier transformer stands in the levels of this substation
  none_loaded : (x : Side) → 1 ≤ times x.2 (ids_of s.levels) → has (sides_by (transformers_in front ++ [])) x ≡ false
  none_loaded x here =
      let once : times x.2 (ids_of (levels_in front ++ (s.levels ++ levels_in back))) ≤ 1 = subst (λ (z : List VoltageLevel). times x.2 (ids_of z) ≤ 1) (levels_are net k front back s split) (level_ids_once net (differ-times (all_ids net) k.ids) x.2) in
      ap (λ z. has (sides_by z) x) (append-nil (transformers_in front))
      ∙ elsewhere front x (subs_pass net k front back s split).0 (omega (arith, once, here, times_ids x.2 (levels_in front) (s.levels ++ levels_in back), times_ids x.2 s.levels (levels_in back)))

  begun : growing net.id (map (part_of (sides_by (transformers_in front ++ []))) front) (filled s s.levels) ≡ shown (holding [])
  begun =
      let loaded = sides_by (transformers_in front ++ []) in
      let last : filled s s.levels ≡ part_of loaded (record s { transformers = [] }) = ap (λ (z : List VoltageLevel). record { id = s.id; levels = z; transformers = [] }) (bares_kept loaded s.levels none_loaded) in
      ap (λ (z : Substation). growing net.id (map (part_of loaded) front) z) last
      ∙ ap (λ (z : List Substation). stage net.id z []) (sym (map-append (part_of loaded) front (record s { transformers = [] } ∷ [])))
      ∙ ap (λ (z : List NamedBranch). partly (sides_by z) (holding [])) (sym (branches_so_far net k front back s split []))

  sub_free : taken (shown (stage net.id front [])) s.id ≡ false
  unfolding taken
  sub_free =
      let start = stage net.id front [] in
      let own : weight s.id s ≡ 1 + (times s.id (ids_of s.levels) + (locals s.id s.levels + times s.id (map (λ (b : NamedBranch). b.id) s.transformers))) =
      ap (λ t. cond t 1 0 + (times s.id (ids_of s.levels) + (locals s.id s.levels + times s.id (map (λ (b : NamedBranch). b.id) s.transformers)))) (is_same s.id s.id refl) in
      none_there s.id (all_ids (shown start)) (ids_partly s.id (sides_by (branches start)) start ∙ omega (arith, own, weighed s.id start, counted net k front back s split s.id))

  sub_loaded : apply_each (shown (stage net.id front [])) (substation_edits s) ≡ Ok (shown (stage net.id (front ++ s ∷ []) []))
  unfolding substation_edits apply branches
  sub_loaded =
      let loaded = sides_by (transformers_in front ++ []) in
      let start = shown (stage net.id front []) in
      let empty = growing net.id (map (part_of loaded) front) (filled s []) in
      let levels_in_place = growing net.id (map (part_of loaded) front) (filled s s.levels) in
      let levels_of = flat_map (level_edits s.id) s.levels in
      let transformers_of = map branch_edit s.transformers in
      let end : Result Network EditFault = Ok (shown (stage net.id (front ++ s ∷ []) [])) in
      let opened : apply start (edits.AddSubstation s.id) ≡ Ok empty = rw sub_free refl in
      let later : apply_each levels_in_place transformers_of ≡ end = rw begun (transformers_loaded s.transformers [] refl) in
      first_then start empty (edits.AddSubstation s.id) (levels_of ++ transformers_of) end opened
      (both_parts empty levels_in_place levels_of transformers_of end (levels_loaded loaded s.levels [] refl) later)

-- ---- the network

subs_loaded : (net : Network) (k : IsSound net) (rest front : List Substation) → net.substations ≡ front ++ rest → apply_each (shown (stage net.id front [])) (flat_map substation_edits rest) ≡ Ok (shown (stage net.id net.substations []))
unfolding apply_each
subs_loaded net k [] front is = ap (λ (z : List Substation). Ok (shown (stage net.id z []))) (sym (append-nil front) ∙ sym is)
subs_loaded net k (s ∷ rest) front is =
    both_parts (shown (stage net.id front [])) (shown (stage net.id (front ++ s ∷ []) [])) (substation_edits s) (flat_map substation_edits rest) (Ok (shown (stage net.id net.substations []))) (sub_loaded net k front rest s is)
    (subs_loaded net k rest (front ++ s ∷ []) (is ∙ sym (append_assoc front (s ∷ []) rest)))

lines_loaded : (net : Network) (k : IsSound net) (rest done : List NamedBranch) → net.lines ≡ done ++ rest → apply_each (shown (stage net.id net.substations done)) (map branch_edit rest) ≡ Ok (shown net)
unfolding apply_each
lines_loaded net k [] done is = ap (λ (z : List NamedBranch). Ok (shown (stage net.id net.substations z))) (sym (append-nil done) ∙ sym is)
lines_loaded net k (b ∷ rest) done is = rw (line_step net done rest b k is) (lines_loaded net k rest (done ++ b ∷ []) (is ∙ sym (append_assoc done (b ∷ []) rest)))

pub networks_are_loaded : NetworksAreLoaded
unfolding loaded loading_edits
networks_are_loaded net k =
    let all : Result Network EditFault = Ok net in
    both_parts (empty_of net.id) (shown (stage net.id net.substations [])) (flat_map substation_edits net.substations) (map branch_edit net.lines) all (subs_loaded net k net.substations [] refl)
    (lines_loaded net k net.lines [] refl ∙ ap (λ (z : Network). Ok z) (all_shown net k))
