-- What every list keeps.
use Rattle.std.proofs.Common.{◌≡◌, refl, sym, ap, ◌∙◌, subst, ℕ, ℤ, zero, suc, Bool, true, false, cond, not, ◌&&◌, List, [], ◌∷◌, ◌++◌, Option, Some, None}
use Rattle.std.specs.Prelude.{find, insert, nat_lt, Ok}
use Rattle.std.specs.List.Sorted.{IsStrictlySortedBy}
use Rattle.grid_ids.specs.Name.{same_id}
use Rattle.grid_ids.proofs.Alike.{same_is}
use Rattle.grid_level.specs.declared.Placed.{Placed}
use Rattle.grid_level.specs.declared.Stand.TheVariants.{Feeder}
use Rattle.grid_level.specs.VoltageLevel.{VoltageLevel}
use Rattle.grid_level.specs.LevelEdits.{with_placed}
use Rattle.grid_structure.specs.Network.{Network}
use Rattle.grid_structure.specs.Sites.{levels}
use Rattle.grid_structure.specs.Editing.{apply}
use Rattle.grid_structure.specs.declared.Edit.{Edit}
use Rattle.grid_structure.specs.declared.Edit.TheVariants as edits
use Rattle.grid_structure.specs.Soundness.{IsSound}
use Rattle.grid_structure.proofs.ListOfLevels.{level_inserted}
use Rattle.grid_powers.specs.Listed.{Listed, value_in, with_value, without_value, IsByOrder}
use Rattle.grid_powers.proofs.ListedValues.{value_without, value_with-other}
use Rattle.grid_watts.specs.Watts.{is_powered, powered, powered_by, terminals}
use Rattle.grid_watts.specs.Shares.{listed_after}
use Rattle.grid_watts.specs.Moves.{edit_moved, set_to, BringsNarrow}
use Rattle.grid_watts.specs.Ranges.{is_narrow, IsSummed}
use Rattle.grid_watts.specs.Nodes.{powers_under, AllThere, IsListing}
use Rattle.grid_watts.specs.Moved.{leaves_rows, HasNarrowRecord, NothingIsListing, EditsKeepListing, ValuesKeepListing, ListingsHaveRoom}
use Rattle.grid_watts.proofs.TerminalSums.{all_placed}
use Rattle.grid_watts.proofs.EquipmentShares.{others}
use Rattle.grid_watts.proofs.FirstSides.{find_front, find_behind}
use Rattle.grid_watts.proofs.SumBounds.{room}
use Rattle.grid_watts.proofs.PowerSums.{edit_summed, set_summed}
use Rattle.grid_watts.proofs.LevelReadings.{readings, Ignores, ReadsPowered, edit_alike, injection_alike, level_brings, equipment_gone}
use Rattle.grid_watts.proofs.Variants.{injection_new, unlisted_watts}
use Rattle.grid_watts.proofs.Orders.{with_order, without_order, value_gone}

-- ---- what is found, as a reading

abbrev first_some : List (Option Placed) → Option Placed
first_some [] = None
first_some (None ∷ rest) = first_some rest
first_some (Some p ∷ rest) = Some p

found_first : (test : Placed → Bool) (ls : List VoltageLevel) → find test (all_placed ls) ≡ first_some (readings (find test) ls)
found_first test [] = refl
found_first test (l ∷ ls) = by (find test l.placed) refl (found_first test ls)
  where
    by : (o : Option Placed) → find test l.placed ≡ o → find test (all_placed ls) ≡ first_some (readings (find test) ls) → find test (l.placed ++ all_placed ls) ≡ first_some (o ∷ readings (find test) ls)
    by (Some p) h again = find_front test l.placed (all_placed ls) p h
    by None h again = find_behind test l.placed (all_placed ls) h ∙ again

powered_first : (net : Network) (id : List ℕ) → powered net id ≡ first_some (readings (find (powered_by id)) (levels net))
unfolding powered terminals
powered_first net id = found_first (powered_by id) (levels net)

found_ignores : (test : Placed → Bool) (p : Placed) → test p ≡ false → Ignores (find test) p
unfolding with_placed
found_ignores test p none [] = ap (λ t. cond t (Some p) None) none
found_ignores test p none (x ∷ xs) = by (nat_lt x.node p.node) (found_ignores test p none xs)
  where
    by : (b : Bool) → find test (with_placed p xs) ≡ find test xs → find test (cond b (x ∷ with_placed p xs) (p ∷ x ∷ xs)) ≡ find test (x ∷ xs)
    by true again = ap (cond (test x) (Some x)) again
    by false again = ap (λ t. cond t (Some p) (find test (x ∷ xs))) none

neither : (a b : Bool) → b ≡ false → (a && b) ≡ false
neither true b h = h
neither false b h = refl

found_reads : (id : List ℕ) → ReadsPowered (find (powered_by id))
found_reads id p none = found_ignores (powered_by id) p (neither (same_id id p.terminal.equipment) (is_powered p.stand) none)

by_readings : (net new : Network) (id : List ℕ) → readings (find (powered_by id)) (levels new) ≡ readings (find (powered_by id)) (levels net) → powered new id ≡ powered net id
by_readings net new id e = powered_first new id ∙ ap first_some e ∙ sym (powered_first net id)

-- ---- levels

more_none : (os : List (Option Placed)) (k : ℕ) → first_some (insert os k None) ≡ first_some os
more_none os zero = refl
more_none [] (suc k) = refl
more_none (None ∷ os) (suc k) = more_none os k
more_none (Some p ∷ os) (suc k) = refl

level_finds : (net new : Network) (id substation : List ℕ) (nominal_v : ℤ) (low_v high_v : Option ℤ) (q : List ℕ) → IsSound net → apply net (edits.AddLevel id substation nominal_v low_v high_v) ≡ Ok new → powered new q ≡ powered net q
level_finds net new id substation nominal_v low_v high_v q s h =
    let k = level_inserted net new id substation nominal_v low_v high_v h s in
    powered_first new q ∙ ap first_some (level_brings (find (powered_by q)) net new id substation nominal_v low_v high_v k.0 s h k.1) ∙ more_none (readings (find (powered_by q)) (levels net)) k.0 ∙ sym (powered_first net q)

-- ---- equipment removed

found_others : (id q : List ℕ) (ps : List Placed) → same_id q id ≡ false → find (powered_by q) (others id ps) ≡ find (powered_by q) ps
found_others id q [] apart = refl
found_others id q (p ∷ ps) apart = by (same_id id p.terminal.equipment) refl (found_others id q ps apart)
  where
    by : (t : Bool) → same_id id p.terminal.equipment ≡ t → find (powered_by q) (others id ps) ≡ find (powered_by q) ps
        → find (powered_by q) (cond (not t) (p ∷ others id ps) (others id ps)) ≡ find (powered_by q) (p ∷ ps)
    by true h again =
        let differs : same_id q p.terminal.equipment ≡ false = ap (same_id q) (sym (same_is id p.terminal.equipment h)) ∙ apart in
        again ∙ sym (ap (λ t. cond (t && is_powered p.stand) (Some p) (find (powered_by q) ps)) differs)
    by false h again = ap (cond (powered_by q p) (Some p)) again

readings_by : {R : Type 0} (read other : List Placed → R) → ((ps : List Placed) → read ps ≡ other ps) → (ls : List VoltageLevel) → readings read ls ≡ readings other ls
readings_by read other e [] = refl
readings_by read other e (l ∷ ls) = ap (λ z. z ∷ readings read ls) (e l.placed) ∙ ap (λ z. other l.placed ∷ z) (readings_by read other e ls)

removal_finds : (net new : Network) (id q : List ℕ) → apply net (edits.RemoveEquipment id) ≡ Ok new → same_id q id ≡ false → powered new q ≡ powered net q
removal_finds net new id q h apart =
    by_readings net new q (equipment_gone (find (powered_by q)) net new id h ∙ readings_by (λ ps. find (powered_by q) (others id ps)) (find (powered_by q)) (λ ps. found_others id q ps apart) (levels net))

removal_there : (net new : Network) (id q : List ℕ) (listed : Listed) → apply net (edits.RemoveEquipment id) ≡ Ok new → IsListing net listed → powered new q ≡ None → value_in (without_value id listed) q ≡ None
removal_there net new id q listed h k none = by (same_id q id) refl
  where
    by : (t : Bool) → same_id q id ≡ t → value_in (without_value id listed) q ≡ None
    by true e = subst (λ (z : List ℕ). value_in (without_value id listed) z ≡ None) (sym (same_is q id e)) (value_gone id listed k.ordered)
    by false e = value_without id q listed e ∙ k.there q (sym (removal_finds net new id q h e) ∙ none)

-- ---- every edit

edit_ordered : (edit : Edit) (listed : Listed) → IsByOrder listed → IsByOrder (listed_after edit listed)
unfolding listed_after
edit_ordered (edits.RemoveEquipment id) listed o = without_order id listed o
edit_ordered other listed o = o

edit_there : (net new : Network) (edit : Edit) (listed : Listed) → IsSound net → apply net edit ≡ Ok new → IsListing net listed → AllThere new (listed_after edit listed)
unfolding listed_after leaves_rows
edit_there net new (edits.AddLevel id substation nominal_v low_v high_v) listed s h k q none = k.there q (sym (level_finds net new id substation nominal_v low_v high_v q s h) ∙ none)
edit_there net new (edits.AddInjection id level node item) listed s h k q none = by (same_id q id) refl
  where
    by : (t : Bool) → same_id q id ≡ t → value_in listed q ≡ None
    by true e = k.there q (ap (powered net) (same_is q id e) ∙ injection_new net new id level node item h)
    by false e = k.there q
        (sym (by_readings net new q (injection_alike (find (powered_by q)) net new id level node item s h (λ n. found_ignores (powered_by q) _ (ap (λ t. t && is_powered (Feeder item)) e)))) ∙ none)
edit_there net new (edits.RemoveEquipment id) listed s h k q none = removal_there net new id q listed h k none
edit_there net new other listed s h k q none = k.there q (sym (by_readings net new q (edit_alike (find (powered_by q)) (found_reads q) net new other s h refl)) ∙ none)

brings_narrow : (net new : Network) (edit : Edit) (listed : Listed) → apply net edit ≡ Ok new → IsListing net listed → HasNarrowRecord edit → BringsNarrow edit listed
brings_narrow net new (edits.AddInjection id level node item) listed h k n = ap is_narrow (unlisted_watts listed id (Feeder item) (k.there id (injection_new net new id level node item h))) ∙ n
brings_narrow net new other listed h k n = tt

listing_summed : (net : Network) (listed : Listed) → IsListing net listed → IsSummed net (powers_under net listed)
listing_summed net listed k = record { load = refl; generation = refl; narrow = k.narrow }

-- ---- the laws

pub nothing_listed : NothingIsListing
unfolding IsStrictlySortedBy
nothing_listed net n = record { ordered = tt; there = λ id none. refl; narrow = n }

pub edits_keep : EditsKeepListing
unfolding edit_moved
edits_keep net new edit listed s h n k = record {
  ordered = edit_ordered edit listed k.ordered;
  there = edit_there net new edit listed s h k;
  narrow = (edit_summed net new edit (powers_under net listed) s h (brings_narrow net new edit listed h k n) (listing_summed net listed k)).narrow;
}

pub values_keep : ValuesKeepListing
unfolding set_to
values_keep net id p watts listed s found n k = record {
  ordered = with_order id watts listed k.ordered;
  there = λ q none. by q none (same_id q id) refl;
  narrow = (set_summed net id p watts (powers_under net listed) s found n (listing_summed net listed k)).narrow;
}
  where
    by : (q : List ℕ) → powered net q ≡ None → (t : Bool) → same_id q id ≡ t → value_in (with_value id watts listed) q ≡ None
    by q none true e = let there : powered net q ≡ Some p = ap (powered net) (same_is q id e) ∙ found in cc
    by q none false e = value_with-other id q watts listed e ∙ k.there q none

pub listings_room : ListingsHaveRoom
listings_room net opened retained listed s k =
    let r = room net (powers_under net listed) s (listing_summed net listed k) in
    record { load_low = r.load_low; load_high = r.load_high; generation_low = r.generation_low; generation_high = r.generation_high }
