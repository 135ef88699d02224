-- The sums over a front of the terminals, under the records.
use Rattle.std.proofs.Common.{◌≡◌, refl, sym, ap, ◌∙◌, subst, ℕ, zero, suc, ◌+◌, ◌≤◌, true, List, [], ◌∷◌, ◌++◌, length, take, arith, Some, append_assoc}
use Rattle.std.specs.Prelude.{◌+ℤ◌, slice_get}
use Rattle.std.specs.List.{list_all}
use Rattle.std.proofs.lemmas.Bool.{and_from}
use Rattle.std.proofs.lemmas.List.{length-append, append-nil}
use Rattle.std.proofs.lemmas.Int.{ints}
use Rattle.grid_level.specs.declared.Placed.{Placed}
use Rattle.grid_level.specs.VoltageLevel.{VoltageLevel}
use Rattle.grid_level.proofs.LevelEdits as on_level
use Rattle.grid_structure.specs.Network.{Network}
use Rattle.grid_structure.specs.Sites.{levels}
use Rattle.grid_structure.specs.Soundness.{IsSound}
use Rattle.grid_busview.specs.Views.{is_load, is_generation}
use Rattle.grid_powers.specs.Listed.{PowerList}
use Rattle.grid_watts.specs.Watts.{watts_at, watts_for, terminals, load_total, generation_total}
use Rattle.grid_watts.specs.Shares.{share}
use Rattle.grid_watts.specs.Ranges.{is_narrow, HasRoom, IsSummed, HasSumsOf}
use Rattle.grid_watts.specs.Moves.{gained}
use Rattle.grid_watts.proofs.TerminalSums.{summed, summed-append, adds, all_placed, sum_is, total_is}
use Rattle.grid_watts.proofs.SumBounds.{sum_low, sum_high, few_terminals}

pub record IsFront (ps : List Placed) (powers : PowerList) : Type 0 where
  pub listed : powers.listed ≡ []
  pub load : powers.load ≡ summed (adds (share is_load) []) ps
  pub generation : powers.generation ≡ summed (adds (share is_generation) []) ps
  pub narrow : list_all (λ (p : Placed). is_narrow (watts_at [] p)) ps ≡ true

pub front_of : (ps : List Placed) (powers : PowerList) → HasSumsOf ps powers → IsFront ps powers
front_of ps powers k = record { listed = k.listed; load = k.load ∙ sum_is is_load [] ps; generation = k.generation ∙ sum_is is_generation [] ps; narrow = k.narrow }

pub sums_of : (ps : List Placed) (powers : PowerList) → IsFront ps powers → HasSumsOf ps powers
sums_of ps powers k = record { listed = k.listed; load = k.load ∙ sym (sum_is is_load [] ps); generation = k.generation ∙ sym (sum_is is_generation [] ps); narrow = k.narrow }

pub front_more : (ps : List Placed) (p : Placed) (old new : PowerList) → IsFront ps old → new ≡ gained p.terminal.equipment p.stand old → is_narrow (watts_for old.listed p.terminal.equipment p.stand) ≡ true → IsFront (ps ++ p ∷ []) new
unfolding gained watts_at
front_more ps p old new k is small =
    let w : watts_for old.listed p.terminal.equipment p.stand ≡ watts_for [] p.terminal.equipment p.stand = ap (λ l. watts_for l p.terminal.equipment p.stand) k.listed in
    let a : new.load ≡ old.load +ℤ share is_load p.stand (watts_for [] p.terminal.equipment p.stand) = ap (λ (z : PowerList). z.load) is ∙ ap (λ x. old.load +ℤ share is_load p.stand x) w in
    let b : new.generation ≡ old.generation +ℤ share is_generation p.stand (watts_for [] p.terminal.equipment p.stand) = ap (λ (z : PowerList). z.generation) is ∙ ap (λ x. old.generation +ℤ share is_generation p.stand x) w in
    let c = summed-append (adds (share is_load) []) ps (p ∷ []) in
    let d = summed-append (adds (share is_generation) []) ps (p ∷ []) in
    record {
      listed = ap (λ (z : PowerList). z.listed) is ∙ k.listed;
      load = omega (arith, ints, a, c, k.load);
      generation = omega (arith, ints, b, d, k.generation);
      narrow = on_level.all_join (λ (p : Placed). is_narrow (watts_at [] p)) ps (p ∷ []) k.narrow (and_from _ _ (ap is_narrow (sym w) ∙ small) refl);
    }

-- a front of all terminals of a sound structure has room
pub front_room : (net : Network) (ps : List Placed) (powers : PowerList) → IsSound net → length ps ≤ length (all_placed (levels net)) → IsFront ps powers → HasRoom powers
front_room net ps powers s short k =
    let few = few_terminals (levels net) s.each_level in
    let levels_few = s.few_levels in
    let load = k.load in
    let generation = k.generation in
    let a = sum_low is_load [] ps k.narrow in
    let b = sum_high is_load [] ps k.narrow in
    let c = sum_low is_generation [] ps k.narrow in
    let d = sum_high is_generation [] ps k.narrow in
    record {
      load_low = omega (arith, ints, a, few, short, levels_few, load);
      load_high = omega (arith, ints, b, few, short, levels_few, load);
      generation_low = omega (arith, ints, c, few, short, levels_few, generation);
      generation_high = omega (arith, ints, d, few, short, levels_few, generation);
    }

pub front_whole : (net : Network) (powers : PowerList) → IsFront (all_placed (levels net)) powers → IsSummed net powers
unfolding load_total generation_total terminals
front_whole net powers k = record {
  load = k.load ∙ sym (total_is is_load net []) ∙ ap (load_total net) (sym k.listed);
  generation = k.generation ∙ sym (total_is is_generation net []) ∙ ap (generation_total net) (sym k.listed);
  narrow = subst (λ l. list_all (λ (p : Placed). is_narrow (watts_at l p)) (all_placed (levels net)) ≡ true) (sym k.listed) k.narrow;
}

-- ---- fronts by level

pub part_long : (ls : List VoltageLevel) (k : ℕ) (l : VoltageLevel) → slice_get ls k ≡ Some l → length (all_placed (take k ls)) + length l.placed ≤ length (all_placed ls)
part_long [] k l at = cc
part_long (x ∷ ls) zero l at =
    let same : x ≡ l = cc in
    let long = length-append x.placed (all_placed ls) in
    let size : length x.placed ≡ length l.placed = ap (λ (z : VoltageLevel). length z.placed) same in
    omega (arith, long, size)
part_long (x ∷ ls) (suc k) l at =
    let rest = part_long ls k l at in
    omega (arith, rest, length-append x.placed (all_placed ls), length-append x.placed (all_placed (take k ls)))

pub part_more : (ls : List VoltageLevel) (k : ℕ) (l : VoltageLevel) → slice_get ls k ≡ Some l → all_placed (take (k + 1) ls) ≡ all_placed (take k ls) ++ l.placed
part_more [] k l at = cc
part_more (x ∷ ls) zero l at = let same : x ≡ l = cc in append-nil x.placed ∙ ap (λ (z : VoltageLevel). z.placed) same
part_more (x ∷ ls) (suc k) l at =
    let e : suc k + 1 ≡ suc (k + 1) = omega arith in
    rw e (ap (λ z. x.placed ++ z) (part_more ls k l at) ∙ sym (append_assoc x.placed (all_placed (take k ls)) l.placed))

pub short_take : (xs : List Placed) (i : ℕ) → length (take i xs) ≤ length xs
short_take [] zero = omega arith
short_take [] (suc i) = omega arith
short_take (x ∷ xs) zero = omega arith
short_take (x ∷ xs) (suc i) = omega (arith, short_take xs i)
