-- A made level is filled part by part, and no part is refused.
use Rattle.std.proofs.Common.{◌≡◌, refl, ap, ◌∙◌, subst, ℕ, suc, pos, ◌+◌, ◌<◌, ◌≤◌, Bool, true, false, cond, not, ◌&&◌, List, [], ◌∷◌, ◌++◌, length, arith, Some, None}
use Rattle.std.specs.Prelude.{Ok, map, filter, flat_map}
use Rattle.std.proofs.lemmas.Bool.{and_parts, lt-leb}
use Rattle.std.proofs.lemmas.List.{append-nil, map-append, length-append}
use Rattle.std.proofs.lemmas.List.Elements.{filter-append}
use Rattle.grid_kinds.specs.Records.{injection_fault}
use Rattle.grid_kinds.specs.declared.Injection.{Injection}
use Rattle.grid_kinds.specs.declared.SwitchKind.{SwitchKind}
use Rattle.grid_level.specs.declared.Placed.{Placed}
use Rattle.grid_level.specs.declared.Switch.{Switch}
use Rattle.grid_level.specs.declared.Internal.{Internal}
use Rattle.grid_level.specs.declared.Stand.{Stand}
use Rattle.grid_level.specs.declared.Stand.TheVariants.{Busbar, Feeder}
use Rattle.grid_level.specs.VoltageLevel.{VoltageLevel}
use Rattle.grid_level.specs.Passing.{is_branch_end}
use Rattle.grid_level.specs.LevelEdits.{level_with_terminal}
use Rattle.grid_level.specs.Sound.{side_passes, stand_passes, level_passes}
use Rattle.grid_level.proofs.LevelEdits.{Passes, passes_of, all_parts}
use Rattle.grid_structure.specs.Network.{Network, Substation}
use Rattle.grid_structure.specs.Sites.{switches, level_named, all_ids, taken}
use Rattle.grid_structure.specs.Editing.{apply, with_single, stand_fault, max_switches}
use Rattle.grid_structure.specs.declared.Edit.{Edit}
use Rattle.grid_structure.specs.declared.Edit.TheVariants as edits
use Rattle.grid_structure.proofs.Counts.{times, times-append}
use Rattle.grid_structure.proofs.Frames.{ids_of, local, switch_total}
use Rattle.grid_structure.proofs.OneLevel.{names_of}
use Rattle.grid_structure.proofs.Singles.{busbar_is, injection_is, terminal_of}
use Rattle.grid_structure.proofs.LevelRoom.{around, switch_done, internal_done, terminal_done}
use Rattle.grid_structure.proofs.LastLevels.{growing, ending, earlier, own_once, not_taken, named_last, put_last, switches_ending}
use Rattle.grid_structure.proofs.LevelParts.{none_is}
use Rattle.grid_make.specs.MadeNetwork.{level_name, part_name, unrefused}

-- ---- the parts of a level, each with the tail of its id, where it has one

pub data Part : Type 0 where
  busbar : List ℕ → ℕ → Part
  switch : List ℕ → SwitchKind → ℕ → ℕ → Bool → Bool → Part
  internal : ℕ → ℕ → Part
  injection : List ℕ → ℕ → Injection → Part

abbrev pub edit_of : ℕ → Part → Edit
edit_of i (busbar tail node) = edits.AddBusbar (part_name i tail) (level_name i) (pos node)
edit_of i (switch tail kind node1 node2 opened retained) = edits.AddSwitch (part_name i tail) (level_name i) kind (pos node1) (pos node2) opened retained false
edit_of i (internal node1 node2) = edits.AddInternal (level_name i) (pos node1) (pos node2)
edit_of i (injection tail node item) = edits.AddInjection (part_name i tail) (level_name i) (pos node) item

abbrev single : ℕ → List ℕ → ℕ → Stand → Placed
single i tail node stand = record { node = node; terminal = terminal_of (part_name i tail); stand = stand }

abbrev with_last : VoltageLevel → Placed → VoltageLevel
with_last l p = record l { placed = l.placed ++ p ∷ [] }

-- the level with one part more, last in its list
abbrev pub grown : ℕ → VoltageLevel → Part → VoltageLevel
grown i l (busbar tail node) = record l { placed = l.placed ++ record { node = node; terminal = terminal_of (part_name i tail); stand = Busbar } ∷ [] }
grown i l (switch tail kind node1 node2 opened retained) =
    record l { switches = l.switches ++ record { id = part_name i tail; kind = kind; node1 = node1; node2 = node2; opened = opened; retained = retained; fictitious = false } ∷ [] }
grown i l (internal node1 node2) = record l { internals = l.internals ++ record { node1 = node1; node2 = node2 } ∷ [] }
grown i l (injection tail node item) = record l { placed = l.placed ++ record { node = node; terminal = terminal_of (part_name i tail); stand = Feeder item } ∷ [] }

abbrev pub full : ℕ → VoltageLevel → List Part → VoltageLevel
full i l [] = l
full i l (x ∷ xs) = full i (grown i l x) xs

abbrev pub tails_of : Part → List (List ℕ)
tails_of (busbar tail node) = tail ∷ []
tails_of (switch tail kind node1 node2 opened retained) = tail ∷ []
tails_of (internal node1 node2) = []
tails_of (injection tail node item) = tail ∷ []

abbrev pub all_tails : List Part → List (List ℕ)
all_tails xs = flat_map tails_of xs

abbrev pub ids_with : ℕ → List (List ℕ) → List (List ℕ)
ids_with i tails = map (part_name i) tails

-- the level passes its checks after each part
abbrev pub all_pass : ℕ → VoltageLevel → List Part → Bool
all_pass i l [] = true
all_pass i l (x ∷ xs) = level_passes (grown i l x) && all_pass i (grown i l x) xs

-- ---- ids

name_last : (q : List ℕ) (ps : List Placed) (p : Placed) → is_branch_end p.stand ≡ false → times q (names_of (ps ++ p ∷ [])) ≡ times q (names_of ps) + times q (p.terminal.equipment ∷ [])
name_last q ps p plain =
    let test : Placed → Bool = λ x. not (is_branch_end x.stand) in
    ap (λ z. times q (map (λ (x : Placed). x.terminal.equipment) z)) (filter-append test ps (p ∷ []))
    ∙ ap (times q) (map-append (λ (x : Placed). x.terminal.equipment) (filter test ps) (filter test (p ∷ []))) ∙ times-append q (names_of ps) (names_of (p ∷ []))
    ∙ ap (λ t. times q (names_of ps) + times q (map (λ (x : Placed). x.terminal.equipment) (cond (not t) (p ∷ []) []))) plain

-- a part more, and its id
pub ids_grown : (q : List ℕ) (i : ℕ) (l : VoltageLevel) (x : Part) → local q (grown i l x) ≡ local q l + times q (ids_with i (tails_of x))
unfolding is_branch_end
ids_grown q i l (busbar tail node) = omega (arith, name_last q l.placed (single i tail node Busbar) refl)
ids_grown q i l (switch tail kind node1 node2 opened retained) =
    let s : Switch = record { id = part_name i tail; kind = kind; node1 = node1; node2 = node2; opened = opened; retained = retained; fictitious = false } in
    let more : times q (map (λ (x : Switch). x.id) (l.switches ++ s ∷ [])) ≡ times q (map (λ (x : Switch). x.id) l.switches) + times q (part_name i tail ∷ []) =
    ap (times q) (map-append (λ (x : Switch). x.id) l.switches (s ∷ [])) ∙ times-append q (map (λ (x : Switch). x.id) l.switches) (part_name i tail ∷ []) in
    omega (arith, more)
ids_grown q i l (internal node1 node2) = omega arith
ids_grown q i l (injection tail node item) = omega (arith, name_last q l.placed (single i tail node (Feeder item)) refl)

ids_next : (q : List ℕ) (i : ℕ) (x : Part) (xs : List Part) → times q (ids_with i (all_tails (x ∷ xs))) ≡ times q (ids_with i (tails_of x)) + times q (ids_with i (all_tails xs))
ids_next q i x xs = ap (times q) (map-append (part_name i) (tails_of x) (all_tails xs)) ∙ times-append q (ids_with i (tails_of x)) (ids_with i (all_tails xs))

pub ids_full : (q : List ℕ) (i : ℕ) (l : VoltageLevel) (xs : List Part) → local q (full i l xs) ≡ local q l + times q (ids_with i (all_tails xs))
ids_full q i l [] = omega arith
ids_full q i l (x ∷ xs) = omega (arith, ids_full q i (grown i l x) xs, ids_grown q i l x, ids_next q i x xs)

id_grown : (i : ℕ) (l : VoltageLevel) (x : Part) → (grown i l x).id ≡ l.id
id_grown i l (busbar tail node) = refl
id_grown i l (switch tail kind node1 node2 opened retained) = refl
id_grown i l (internal node1 node2) = refl
id_grown i l (injection tail node item) = refl

pub id_full : (i : ℕ) (l : VoltageLevel) (xs : List Part) → (full i l xs).id ≡ l.id
id_full i l [] = refl
id_full i l (x ∷ xs) = id_full i (grown i l x) xs ∙ id_grown i l x

switches_grown : (i : ℕ) (l : VoltageLevel) (x : Part) → length (grown i l x).switches ≤ suc (length l.switches)
switches_grown i l (busbar tail node) = omega arith
switches_grown i l (switch tail kind node1 node2 opened retained) = omega (arith, length-append l.switches (record { id = part_name i tail; kind = kind; node1 = node1; node2 = node2; opened = opened; retained = retained; fictitious = false } ∷ []))
switches_grown i l (internal node1 node2) = omega arith
switches_grown i l (injection tail node item) = omega arith

-- ---- the edits

module _ (id : List ℕ) (front : List Substation) (s : Substation) (i : ℕ) where
  -- what each part rests on
  pub record Room (l : VoltageLevel) (xs : List Part) : Type 0 where
    pub named : l.id ≡ level_name i
    pub alone : times l.id (ids_of (earlier id front s)) ≡ 0
    pub once : (q : List ℕ) → times q (all_ids (growing id front s)) + (times q (l.id ∷ []) + (local q l + times q (ids_with i (all_tails xs)))) ≤ 1
    pub few : switch_total (earlier id front s) + (length l.switches + length xs) ≤ max_switches

  found : (l : VoltageLevel) → l.id ≡ level_name i → times l.id (ids_of (earlier id front s)) ≡ 0 → level_named (ending id front s l) (level_name i) ≡ Some l
  found l same alone = subst (λ z. level_named (ending id front s l) z ≡ Some l) same (named_last id front s l alone)

  free : (l : VoltageLevel) (x : Part) (xs : List Part) (q : List ℕ) → ids_with i (tails_of x) ≡ q ∷ [] → Room l (x ∷ xs) → taken (ending id front s l) q ≡ false
  free l x xs q own r = not_taken id front s q l (omega (arith, r.once q, ids_next q i x xs, ap (times q) own, own_once q))

  single_put : (l : VoltageLevel) (p : Placed) → l.id ≡ level_name i → times l.id (ids_of (earlier id front s)) ≡ 0 → taken (ending id front s l) p.terminal.equipment ≡ false → p.terminal ≡ terminal_of p.terminal.equipment
      → stand_fault p.stand ≡ None → Passes (with_last l p)
      → with_single (ending id front s l) p.terminal.equipment (level_name i) (pos p.node) p.stand ≡ Ok (ending id front s (with_last l p))
  unfolding with_single
  single_put l p same alone fresh plain fine k =
      let below = (around l.placed p [] k.within.rise).0 in
      let done : level_with_terminal l (pos p.node) p.terminal p.stand ≡ Ok (with_last l p) = rw (append-nil l.placed) at (terminal_done l p l.placed [] below refl k.within) in
      let put : level_with_terminal l (pos p.node) (terminal_of p.terminal.equipment) p.stand ≡ Ok (with_last l p) = subst (λ z. level_with_terminal l (pos p.node) z p.stand ≡ Ok (with_last l p)) plain done in
      rw (fresh, found l same alone, fine, put) (ap (λ (z : Network). Ok z) (put_last id front s (with_last l p) l refl alone))

  part_put : (l : VoltageLevel) (x : Part) (xs : List Part) → Room l (x ∷ xs) → Passes (grown i l x) → apply (ending id front s l) (edit_of i x) ≡ Ok (ending id front s (grown i l x))
  unfolding apply stand_fault stand_passes side_passes
  part_put l (busbar tail node) xs r k =
      busbar_is (ending id front s l) (part_name i tail) (level_name i) (pos node)
      ∙ single_put l (single i tail node Busbar) r.named r.alone (free l (busbar tail node) xs (part_name i tail) refl r) refl refl k
  part_put l (switch tail kind node1 node2 opened retained) xs r k =
      let x : Switch = record { id = part_name i tail; kind = kind; node1 = node1; node2 = node2; opened = opened; retained = retained; fictitious = false } in
      let room : length (switches (ending id front s l)) < max_switches = omega (arith, switches_ending id front s l, r.few) in
      rw (free l (switch tail kind node1 node2 opened retained) xs (part_name i tail) refl r, found l r.named r.alone, lt-leb max_switches (length (switches (ending id front s l))) room, switch_done l x k.within)
      (ap (λ (z : Network). Ok z) (put_last id front s (grown i l (switch tail kind node1 node2 opened retained)) l refl r.alone))
  part_put l (internal node1 node2) xs r k =
      let x : Internal = record { node1 = node1; node2 = node2 } in
      rw (found l r.named r.alone, internal_done l x k.within) (ap (λ (z : Network). Ok z) (put_last id front s (grown i l (internal node1 node2)) l refl r.alone))
  part_put l (injection tail node item) xs r k =
      let p = single i tail node (Feeder item) in
      let stands = (and_parts (stand_passes p) true (all_parts stand_passes l.placed (p ∷ []) k.stands).1).0 in
      let fine : injection_fault item ≡ None = none_is (injection_fault item) stands in
      injection_is (ending id front s l) (part_name i tail) (level_name i) (pos node) item
      ∙ single_put l p r.named r.alone (free l (injection tail node item) xs (part_name i tail) refl r) refl fine k

  room_left : (l : VoltageLevel) (x : Part) (xs : List Part) → Room l (x ∷ xs) → Room (grown i l x) xs
  room_left l x xs r =
      let same = id_grown i l x in
      record {
        named = same ∙ r.named;
        alone = rw same r.alone;
        once = λ q. (let one : times q ((grown i l x).id ∷ []) ≡ times q (l.id ∷ []) = ap (λ z. times q (z ∷ [])) same in omega (arith, r.once q, one, ids_grown q i l x, ids_next q i x xs));
        few = omega (arith, r.few, switches_grown i l x);
      }

  -- no part is refused
  pub filled : (l : VoltageLevel) (xs : List Part) → Room l xs → all_pass i l xs ≡ true → unrefused (map (edit_of i) xs) (ending id front s l) ≡ Ok (ending id front s (full i l xs))
  unfolding unrefused
  filled l [] r h = refl
  filled l (x ∷ xs) r h =
      let parts = and_parts (level_passes (grown i l x)) (all_pass i (grown i l x) xs) h in
      rw (part_put l x xs r (passes_of (grown i l x) parts.0)) (filled (grown i l x) xs (room_left l x xs r) parts.1)
