-- A list of watts and its sums stay together through the edits and the values set.
use Rattle.std.proofs.Common.{◌≡◌, refl, sym, ap, ◌∙◌, ℕ, ℤ, pos, Bool, true, false, cond, List, [], ◌∷◌, arith, ◌≤ℤ◌, Option, Some, None}
use Rattle.std.specs.Prelude.{◌+ℤ◌, Ok}
use Rattle.std.specs.List.{list_all}
use Rattle.std.proofs.lemmas.Bool.{and_parts, and_from, false≢true}
use Rattle.std.proofs.lemmas.Int.{ints}
use Rattle.grid_level.specs.declared.Placed.{Placed}
use Rattle.grid_level.specs.declared.Stand.{Stand}
use Rattle.grid_level.specs.declared.Stand.TheVariants.{Feeder}
use Rattle.grid_kinds.specs.declared.Injection.{Injection}
use Rattle.grid_structure.specs.Network.{Network}
use Rattle.grid_structure.specs.Sites.{levels}
use Rattle.grid_structure.specs.Editing.{apply}
use Rattle.grid_structure.specs.Soundness.{IsSound}
use Rattle.grid_structure.specs.declared.Edit.{Edit}
use Rattle.grid_structure.specs.declared.Edit.TheVariants as edits
use Rattle.grid_busview.specs.Views.{is_load, is_generation}
use Rattle.grid_powers.specs.Listed.{Listed, PowerList, with_value}
use Rattle.grid_watts.specs.Watts.{watts_at, watts_for, terminals, powered, total_over, load_total, generation_total}
use Rattle.grid_watts.specs.Shares.{share, own_part, edit_part, set_part, listed_after}
use Rattle.grid_watts.specs.Ranges.{is_narrow, outside, IsSummed}
use Rattle.grid_watts.specs.Moves.{gained, taken, lost, set_to, edit_moved, BringsNarrow, leaves_powers}
use Rattle.grid_watts.proofs.TerminalSums.{summed, adds, all_placed, whole, total_is}
use Rattle.grid_watts.proofs.EquipmentShares.{IsPart, share_is_part}
use Rattle.grid_watts.proofs.EquipmentShifts.{edit_moves, set_moves}

-- ---- narrow watts, by a sum

outside_is_part : IsPart outside
unfolding outside is_narrow
outside_is_part s = refl

outside_narrow : (s : Stand) (w : ℤ) → is_narrow w ≡ true → outside s w ≡ pos 0
unfolding outside
outside_narrow s w h = rw h refl

all_narrow : (listed : Listed) (ps : List Placed) → list_all (λ (p : Placed). is_narrow (watts_at listed p)) ps ≡ true → summed (adds outside listed) ps ≡ pos 0
all_narrow listed [] h = refl
all_narrow listed (p ∷ ps) h =
    let parts = and_parts (is_narrow (watts_at listed p)) (list_all (λ (p : Placed). is_narrow (watts_at listed p)) ps) h in
    omega (arith, ints, outside_narrow p.stand (watts_at listed p) parts.0, all_narrow listed ps parts.1)

outside_low : (s : Stand) (w : ℤ) → pos 0 ≤ℤ outside s w
unfolding outside
outside_low s w = by (is_narrow w)
  where
    by : (t : Bool) → pos 0 ≤ℤ cond t (pos 0) (pos 1)
    by true = omega (arith, ints)
    by false = omega (arith, ints)

sum_outside : (listed : Listed) (ps : List Placed) → pos 0 ≤ℤ summed (adds outside listed) ps
sum_outside listed [] = omega (arith, ints)
sum_outside listed (p ∷ ps) = omega (arith, ints, outside_low p.stand (watts_at listed p), sum_outside listed ps)

one_narrow : (s : Stand) (w : ℤ) → outside s w ≡ pos 0 → is_narrow w ≡ true
unfolding outside
one_narrow s w h = by (is_narrow w) h
  where
    by : (t : Bool) → cond t (pos 0) (pos 1) ≡ pos 0 → t ≡ true
    by true h = refl
    by false h = absurd (omega (arith, ints, h))

narrow_all : (listed : Listed) (ps : List Placed) → summed (adds outside listed) ps ≡ pos 0 → list_all (λ (p : Placed). is_narrow (watts_at listed p)) ps ≡ true
narrow_all listed [] h = refl
narrow_all listed (p ∷ ps) h =
    let a = outside_low p.stand (watts_at listed p) in
    let b = sum_outside listed ps in
    and_from _ _ (one_narrow p.stand (watts_at listed p) (omega (arith, ints, a, b, h))) (narrow_all listed ps (omega (arith, ints, a, b, h)))

-- ---- lists and sums, moved

told : (test : Stand → Bool) (net new : Network) (listed more : Listed) (sum by : ℤ) → sum ≡ total_over test net listed → whole (share test) new more ≡ whole (share test) net listed +ℤ by → sum +ℤ by ≡ total_over test new more
told test net new listed more sum by is e = ap (λ z. z +ℤ by) (is ∙ total_is test net listed) ∙ sym e ∙ sym (total_is test new more)

own_outside : (listed : Listed) (found : Option Placed) → pos 0 ≤ℤ own_part outside listed found
unfolding own_part
own_outside listed None = omega (arith, ints)
own_outside listed (Some p) = outside_low p.stand (watts_at listed p)

none_outside : (net new : Network) (edit : Edit) (listed : Listed) → BringsNarrow edit listed → whole outside net listed ≡ pos 0
    → whole outside new (listed_after edit listed) ≡ whole outside net listed +ℤ edit_part outside net listed edit → whole outside new (listed_after edit listed) ≡ pos 0
unfolding edit_part listed_after
none_outside net new (edits.AddInjection id level node item) listed n z e = omega (arith, ints, z, e, outside_narrow (Feeder item) (watts_for listed id (Feeder item)) n)
none_outside net new (edits.RemoveEquipment id) listed n z e =
    let less = listed_after (edits.RemoveEquipment id) listed in
    omega (arith, ints, z, e, own_outside listed (powered net id), sum_outside less (all_placed (levels new)))
none_outside net new other listed n z e = omega (arith, ints, z, e)

pub edit_summed : (net new : Network) (edit : Edit) (powers : PowerList) → IsSound net → apply net edit ≡ Ok new → BringsNarrow edit powers.listed → IsSummed net powers → IsSummed new (edit_moved net edit powers)
unfolding edit_moved load_total generation_total terminals
edit_summed net new edit powers s h n k = record {
  load = told is_load net new powers.listed (listed_after edit powers.listed) powers.load (edit_part (share is_load) net powers.listed edit) k.load (edit_moves (share is_load) net new edit powers.listed (share_is_part is_load) s h);
  generation = told is_generation net new powers.listed (listed_after edit powers.listed) powers.generation (edit_part (share is_generation) net powers.listed edit) k.generation (edit_moves (share is_generation) net new edit powers.listed (share_is_part is_generation) s h);
  narrow = narrow_all (listed_after edit powers.listed) (all_placed (levels new)) (none_outside net new edit powers.listed n (all_narrow powers.listed (all_placed (levels net)) k.narrow) (edit_moves outside net new edit powers.listed outside_is_part s h));
}

pub set_summed : (net : Network) (id : List ℕ) (p : Placed) (watts : ℤ) (powers : PowerList) → IsSound net → powered net id ≡ Some p → is_narrow watts ≡ true → IsSummed net powers → IsSummed net (set_to id p watts powers)
unfolding set_to load_total generation_total terminals set_part
set_summed net id p watts powers s found n k =
    let more = with_value id watts powers.listed in
    let moves : whole outside net more ≡ whole outside net powers.listed +ℤ set_part outside powers.listed watts p = set_moves outside net id p watts powers.listed outside_is_part s found in
    let z = all_narrow powers.listed (all_placed (levels net)) k.narrow in
    let a = outside_narrow p.stand watts n in
    let b = outside_low p.stand (watts_at powers.listed p) in
    let c = sum_outside more (all_placed (levels net)) in
    record {
      load = told is_load net net powers.listed more powers.load (set_part (share is_load) powers.listed watts p) k.load (set_moves (share is_load) net id p watts powers.listed (share_is_part is_load) s found);
      generation = told is_generation net net powers.listed more powers.generation (set_part (share is_generation) powers.listed watts p) k.generation (set_moves (share is_generation) net id p watts powers.listed (share_is_part is_generation) s found);
      narrow = narrow_all more (all_placed (levels net)) (omega (arith, ints, moves, z, a, b, c));
    }

-- ---- the moves, by edit

pub injection_moved : (net : Network) (id level : List ℕ) (node : ℤ) (item : Injection) (powers : PowerList) → edit_moved net (edits.AddInjection id level node item) powers ≡ gained id (Feeder item) powers
unfolding edit_moved edit_part listed_after gained
injection_moved net id level node item powers = refl

pub plus_nothing : (z : ℤ) → z +ℤ pos 0 ≡ z
plus_nothing z = omega (arith, ints)

pub removal_moved : (net : Network) (id : List ℕ) (powers : PowerList) (found : Option Placed) → powered net id ≡ found → edit_moved net (edits.RemoveEquipment id) powers ≡ lost id found powers
unfolding edit_moved edit_part listed_after lost taken own_part
removal_moved net id powers (Some p) h = rw h refl
removal_moved net id powers None h = rw h (rw (plus_nothing powers.load, plus_nothing powers.generation) refl)

-- the other edits move nothing
pub stays_moved : (net : Network) (edit : Edit) (powers : PowerList) → edit_part (share is_load) net powers.listed edit ≡ pos 0 → edit_part (share is_generation) net powers.listed edit ≡ pos 0
    → listed_after edit powers.listed ≡ powers.listed → edit_moved net edit powers ≡ powers
unfolding edit_moved
stays_moved net edit powers a b c = rw (a, b, c, plus_nothing powers.load, plus_nothing powers.generation) refl

pub leaving_moved : (net : Network) (edit : Edit) (powers : PowerList) → leaves_powers edit ≡ true → edit_moved net edit powers ≡ powers
unfolding leaves_powers edit_part listed_after
leaving_moved net (edits.AddInjection id level node item) powers h = absurd (false≢true h)
leaving_moved net (edits.RemoveEquipment id) powers h = absurd (false≢true h)
leaving_moved net other powers h = stays_moved net other powers refl refl refl

pub leaving_narrow : (edit : Edit) (listed : Listed) → leaves_powers edit ≡ true → BringsNarrow edit listed
unfolding leaves_powers
leaving_narrow (edits.AddInjection id level node item) listed h = absurd (false≢true h)
leaving_narrow (edits.RemoveEquipment id) listed h = absurd (false≢true h)
leaving_narrow other listed h = tt
