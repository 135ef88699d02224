-- What is kept where a request leaves levels and branches as they are.
use Rattle.std.proofs.Common.{◌≡◌, ◌≢◌, refl, sym, ap, ◌∙◌, subst, ℕ, ◌<◌, Bool, true, Option, Some, None, List, [], ◌∷◌, ◌++◌, length}
use Rattle.std.proofs.lemmas.Bool.{false≢true}
use Rattle.std.specs.Prelude.{flat_map, map, slice_get, IfSome, Ok, Err, Result}
use Rattle.grid_ids.specs.Refusing.{refuse_if}
use Rattle.grid_lemmas.proofs.Lists.{map_alike}
use Rattle.grid_level.proofs.LevelEdits as on_level
use Rattle.grid_level.specs.VoltageLevel.{VoltageLevel}
use Rattle.grid_structure.specs.declared.Branch.{Branch}
use Rattle.grid_structure.specs.declared.Branch.TheVariants.{Line, TwoWindings, ThreeWindings}
use Rattle.grid_structure.specs.declared.End.{End}
use Rattle.grid_structure.specs.declared.NamedBranch.{NamedBranch}
use Rattle.grid_structure.specs.declared.Edit.{Edit}
use Rattle.grid_structure.specs.declared.Edit.TheVariants as edits
use Rattle.grid_structure.specs.declared.EditFault.{EditFault}
use Rattle.grid_structure.specs.declared.EditFault.TheVariants as faults
use Rattle.grid_structure.specs.Network.{Network, Substation}
use Rattle.grid_structure.specs.Editing.{apply}
use Rattle.grid_structure.specs.Sites.{levels, branches, branch_ends, find_level, taken}
use Rattle.grid_states.specs.Rows.{row_at}
use Rattle.grid_states.proofs.Lent.{same_functions}
use Rattle.grid_slots.specs.Variant.{Variant}
use Rattle.grid_islands.specs.declared.kept.KeptLevel.{KeptLevel}
use Rattle.grid_islands.specs.declared.kept.KeptBuses.{KeptBuses}
use Rattle.grid_islands.specs.declared.components.Numbers.{Numbers}
use Rattle.grid_islands.specs.Islands.{pairs_among}
use Rattle.grid_islands.specs.Numbering.{numbered, number_of_end, pairs_of_branch, numbered_pairs, counts_before}
use Rattle.grid_islands.specs.Spots.{spot_of_end, spots_of_branch, network_spots, buses_of_spots}
use Rattle.grid_islands.specs.Kept.{kept_of, IsKeptAt, IsMadeOf, AreNumbersOf, AreBusesOf, AreKept, AreKeptBut}
use Rattle.grid_requests.specs.Changes.{structure_after, changed_or}
use Rattle.grid_requests.specs.declared.request.Request.{Request}
use Rattle.grid_requests.specs.declared.request.Request.TheVariants as requests
use Rattle.grid_core.specs.declared.kept.SlotKept.{SlotKept}
use Rattle.grid_core.specs.declared.kept.Kept.{Kept}
use Rattle.grid_core.specs.declared.kept.Known.{Known}
use Rattle.grid_core.specs.declared.kept.Known.TheVariants as knowns
use Rattle.grid_core.specs.declared.verdict.Verdict.TheVariants as verdicts
use Rattle.grid_core.specs.declared.machine.Machine.{Machine}
use Rattle.grid_core.specs.Verdicts.{puts, DecidesSome}
use Rattle.grid_core.specs.Kept.{AreKnown, AreBySlot, IsKept, SameFlags, leaves, edit_leaves}
use Rattle.grid_core.proofs.Fits.{substation-alike}
use Rattle.grid_core.proofs.LevelCopies.{copies_same}

-- ---- networks with the same levels and branches

pub record SameLists (a b : Network) : Type 0 where
  pub levels_are : levels b ≡ levels a
  pub branches_are : branches b ≡ branches a

some_too : {A : Type 0} {P Q : A → Type 0} (o : Option A) → IfSome o P → ((x : A) → P x → Q x) → IfSome o Q
some_too None p next = p
some_too (Some x) p next = next x p

module _ (a b : Network) (same : SameLists a b) where
  spot_same : (end : End) → spot_of_end b end ≡ spot_of_end a end
  unfolding spot_of_end find_level
  spot_same end = rw (same.levels_are) refl

  branch_spots_same : (branch : Branch) → spots_of_branch b branch ≡ spots_of_branch a branch
  unfolding spots_of_branch branch_ends
  branch_spots_same (Line end1 end2) = rw (spot_same end1, spot_same end2) refl
  branch_spots_same (TwoWindings substation end1 end2 rated_u1 rated_u2) = rw (spot_same end1, spot_same end2) refl
  branch_spots_same (ThreeWindings substation end1 end2 end3 rated_u1 rated_u2 rated_u3) = rw (spot_same end1, spot_same end2, spot_same end3) refl

  spots_same : network_spots b ≡ network_spots a
  unfolding network_spots
  spots_same = rw (same.branches_are) (map_alike (λ (x : NamedBranch). spots_of_branch b x.shape) (λ (x : NamedBranch). spots_of_branch a x.shape) (λ x. branch_spots_same x.shape) (branches a))

  numbered_same : (opened : List (List Bool)) → numbered b opened ≡ numbered a opened
  unfolding numbered
  numbered_same opened = rw (same.levels_are) refl

  end_same : (rows : List (List (Option ℕ))) (end : End) → number_of_end b rows end ≡ number_of_end a rows end
  unfolding number_of_end find_level
  end_same rows end = rw (same.levels_are) refl

  branch_pairs_same : (rows : List (List (Option ℕ))) (branch : Branch) → pairs_of_branch b rows branch ≡ pairs_of_branch a rows branch
  unfolding pairs_of_branch
  branch_pairs_same rows branch = ap pairs_among (map_alike (number_of_end b rows) (number_of_end a rows) (end_same rows) (branch_ends branch))

  pairs_same : (opened : List (List Bool)) → numbered_pairs b opened ≡ numbered_pairs a opened
  unfolding numbered_pairs
  pairs_same opened =
      rw (numbered_same opened, same.branches_are)
      (ap (λ (f : NamedBranch → List (ℕ × ℕ)). flat_map f (branches a)) (same_functions (λ x. pairs_of_branch b (numbered a opened).rows x.shape) (λ x. pairs_of_branch a (numbered a opened).rows x.shape) (λ x. branch_pairs_same (numbered a opened).rows x.shape)))

  module _ (kept : KeptBuses) where
    kept_same : (opened : List (List Bool)) → AreKept a opened kept → AreKept b opened kept
    kept_same opened = subst (λ (ls : List VoltageLevel). (place : ℕ) (level : VoltageLevel) → place < length ls → slice_get ls place ≡ Some level → IsKeptAt kept place (kept_of level (row_at opened place))) (sym same.levels_are)

    numbers_same : (numbers : Numbers) → AreNumbersOf a kept numbers → AreNumbersOf b kept numbers
    numbers_same numbers n = record {
      opened = n.opened;
      rows = n.rows ∙ ap length (sym same.levels_are);
      every = kept_same n.opened n.every;
      numbered = record {
        counts = n.numbered.counts ∙ ap (λ (ls : List VoltageLevel). counts_before n.opened ls (length ls)) (sym same.levels_are);
        few = n.numbered.few;
        components = rw (same.levels_are, pairs_same n.opened) n.numbered.components;
        ranked = n.numbered.ranked;
        below = n.numbered.below;
        sizes = n.numbered.sizes;
      };
      ended = n.ended ∙ ap (map (buses_of_spots numbers.counts.firsts kept.levels)) (sym spots_same);
      labelled = n.labelled;
    }

    but_same : (opened : List (List Bool)) (place : ℕ) → AreKeptBut a opened place kept → AreKeptBut b opened place kept
    but_same opened place = subst (λ (ls : List VoltageLevel). (k : ℕ) (level : VoltageLevel) → k ≢ place → slice_get ls k ≡ Some level → IsKeptAt kept k (kept_of level (row_at opened k))) (sym same.levels_are)

    known_same : (opened : List (List Bool)) (known : Known) → AreKnown a opened kept known → AreKnown b opened kept known
    unfolding AreKnown
    known_same opened knowns.All = kept_same opened
    known_same opened (knowns.AllBut place) = but_same opened place
    known_same opened knowns.Nothing = λ k. k

    buses_same : AreBusesOf a kept → AreBusesOf b kept
    buses_same k = record {
      made = subst (λ (ls : List VoltageLevel). (place : ℕ) (level : VoltageLevel) (own : KeptLevel) → slice_get ls place ≡ Some level → IsKeptAt kept place own → IsMadeOf level own) (sym same.levels_are) k.made;
      spotted = λ h. (let was = k.spotted h in record { branches = was.branches ∙ sym spots_same; index = was.index; long = was.long ∙ ap length (sym same.levels_are) });
      numbered = some_too kept.numbers k.numbered numbers_same;
    }

  pub by_slot_same : (before after : List Variant) (all : List SlotKept) → SameFlags before after → AreBySlot a before all → AreBySlot b after all
  by_slot_same before after all flags k slot own at =
      let was = k slot own at in
      record { made = buses_same own.buses was.made; known = subst (λ (opened : List (List Bool)). AreKnown b opened own.buses own.known) (sym (flags slot)) (known_same own.buses _ own.known was.known) }

-- ---- what a request leaves

transformers-last : (subs : List Substation) (s : Substation) → s.transformers ≡ [] → flat_map (λ s. s.transformers) (subs ++ s ∷ []) ≡ flat_map (λ s. s.transformers) subs
transformers-last [] s e = rw e refl
transformers-last (x ∷ subs) s e = ap (λ z. x.transformers ++ z) (transformers-last subs s e)

substation_same : (net new : Network) (id : List ℕ) → apply net (edits.AddSubstation id) ≡ Ok new → SameLists net new
unfolding apply branches
substation_same net new id h =
    let w = on_level.went (refuse_if (taken net id) faults.IdTaken) _ new h in
    let fresh : Network = record net { substations = net.substations ++ record { id = id; levels = []; transformers = [] } ∷ [] } in
    let same : fresh ≡ new = cc (w.next) in
    record {
      levels_are = substation-alike net new id h;
      branches_are = ap branches (sym same) ∙ ap (λ ts. ts ++ net.lines) (transformers-last net.substations (record { id = id; levels = []; transformers = [] }) refl);
    }

accepted_same : (net : Network) (id : List ℕ) (r : Result Network EditFault) → apply net (edits.AddSubstation id) ≡ r → SameLists net (changed_or net r)
unfolding changed_or
accepted_same net id (Ok new) h = substation_same net new id h
accepted_same net id (Err fault) h = record { levels_are = refl; branches_are = refl }

edit_same : (net : Network) (edit : Edit) → edit_leaves edit ≡ true → SameLists net (changed_or net (apply net edit))
unfolding edit_leaves
edit_same net (edits.AddSubstation id) h = accepted_same net id (apply net (edits.AddSubstation id)) refl
edit_same net other h = absurd (false≢true h)

itself : (net : Network) → SameLists net net
itself net = record { levels_are = refl; branches_are = refl }

leaves_same : (net : Network) (request : Request) → leaves request ≡ true → SameLists net (structure_after net request)
unfolding leaves structure_after
leaves_same net (requests.Change edit) h = edit_same net edit h
leaves_same net other h = itself net

pub left_so : (net : Network) (request : Request) (before after : List Variant) (all : Kept) → leaves request ≡ true → IsKept net before all → SameFlags before after → IsKept (structure_after net request) after all
left_so net request before after all h k same =
    let next = structure_after net request in
    let stays = leaves_same net request h in
    record {
      slots = by_slot_same net next stays before after all.slots.items same k.slots;
      copies = copies_same net next all.copies stays.levels_are k.copies;
    }

-- ---- requests that put switches

-- a request that puts switches into a position is none that leaves the flags
pub puts_not_left : (r : Request) (opened : Bool) → puts r opened ≡ true → leaves r ≡ true → ⊥
unfolding puts leaves
puts_not_left (requests.Connect id side) opened h k = false≢true k
puts_not_left (requests.Disconnect id side) opened h k = false≢true k
puts_not_left other opened h k = false≢true h

-- nor is it where a verdict on it operates switches
pub switches_not_left : (m : Machine) (v : List ℕ) (r : Request) (level : ℕ) (places : List ℕ) (opened : Bool) → DecidesSome m v r (verdicts.Switches level places opened) → leaves r ≡ true → ⊥
switches_not_left m v r level places opened d h = puts_not_left r opened d.1.1.is.fits.0 h
