-- What is listed, gathered by id from the rows.
use Rattle.std.proofs.Common.{◌≡◌, refl, sym, ap, ◌∙◌, subst, ℕ, ℤ, zero, suc, ◌+◌, Bool, true, false, cond, ◌&&◌, ◌||◌, List, [], ◌∷◌, ◌++◌, length, take, Option, Some, None, append_assoc, ◌≤◌}
use Rattle.std.specs.Prelude.{map, fold, find, slice_get, option_map}
use Rattle.std.specs.List.{list_any, cons_option, slice_index_or}
use Rattle.std.proofs.lemmas.Bool.{true≢false}
use Rattle.std.proofs.lemmas.List.{append-nil, take_all}
use Rattle.std.specs.List.Sorted.{IsStrictlySortedBy}
use Rattle.grid_ids.specs.Name.{same_id}
use Rattle.grid_ids.proofs.Alike.{same_is}
use Rattle.grid_level.specs.declared.Placed.{Placed}
use Rattle.grid_level.specs.VoltageLevel.{VoltageLevel}
use Rattle.grid_level.specs.Passing.{is_rising, placed_at, stands_at}
use Rattle.grid_level.proofs.LevelEdits as on_level
use Rattle.grid_structure.specs.Soundness.{IsSound}
use Rattle.grid_states.specs.Rows.{pairs_at}
use Rattle.grid_structure.specs.Network.{Network}
use Rattle.grid_structure.specs.Sites.{levels}
use Rattle.grid_states.specs.declared.row.NodeWatts.{NodeWatts}
use Rattle.grid_states.specs.Pairs.{pair}
use Rattle.grid_powers.specs.Listed.{Listed, value_in, with_value, IsByOrder, PowerList}
use Rattle.grid_powers.proofs.ListedValues.{value_with-other, value_with-own}
use Rattle.grid_watts.specs.Watts.{is_powered, powered, powered_by, terminals, terminals_before}
use Rattle.grid_watts.specs.Nodes.{listed_pair, with_pair_of, with_pairs_of, IsListing, listed_rows}
use Rattle.grid_watts.proofs.TerminalSums.{all_placed}
use Rattle.grid_watts.proofs.Orders.{with_order, same_values}
use Rattle.grid_watts.proofs.Spots.{found_at_node}
use Rattle.grid_watts.proofs.Fronts.{part_more}
use Rattle.grid_watts.proofs.FirstSides.{level_at}
use Rattle.grid_watts.proofs.LevelReadings.{readings}
use Rattle.grid_watts.proofs.Variants.{rows_are}
use Rattle.grid_watts.proofs.Pairings.{pairs, unpowered_pair, powered_pair}

-- in order, with the values of the loads, generators and batteries among these terminals, and no others
pub record HasValuesOf (listed : Listed) (ps : List Placed) (found : Listed) : Type 0 where
  pub ordered : IsByOrder found
  pub values : (id : List ℕ) → value_in found id ≡ cond (list_any (powered_by id) ps) (value_in listed id) None

any_join : (id : List ℕ) (xs : List Placed) (p : Placed) → list_any (powered_by id) (xs ++ p ∷ []) ≡ (list_any (powered_by id) xs || powered_by id p)
any_join id [] p = or_false (powered_by id p)
  where
    or_false : (a : Bool) → (a || false) ≡ a
    or_false true = refl
    or_false false = refl
any_join id (x ∷ xs) p = ap (λ z. powered_by id x || z) (any_join id xs p) ∙ assoc (powered_by id x) (list_any (powered_by id) xs) (powered_by id p)
  where
    assoc : (a b c : Bool) → a || (b || c) ≡ (a || b) || c
    assoc true b c = refl
    assoc false b c = refl

-- one terminal more, that gives no pair
none_more : (listed : Listed) (ps : List Placed) (p : Placed) (found : Listed) → listed_pair listed p ≡ None → HasValuesOf listed ps found → HasValuesOf listed (ps ++ p ∷ []) found
none_more listed ps p found none k = record {
  ordered = k.ordered;
  values = λ id. k.values id ∙ by id (list_any (powered_by id) ps) (same_id id p.terminal.equipment) (is_powered p.stand) refl refl ∙ ap (λ t. cond t (value_in listed id) None) (sym (any_join id ps p));
}
  where
    unlisted : (id : List ℕ) → id ≡ p.terminal.equipment → is_powered p.stand ≡ true → value_in listed id ≡ None
    unlisted id e is = empty (value_in listed id) (sym (powered_pair listed p is ∙ ap (λ q. option_map (pair p.node) (value_in listed q)) (sym e)) ∙ none)
      where
        empty : (o : Option ℤ) → option_map (pair p.node) o ≡ None → o ≡ None
        empty (Some x) h = cc
        empty None h = refl

    by : (id : List ℕ) (a t w : Bool) → same_id id p.terminal.equipment ≡ t → is_powered p.stand ≡ w → cond a (value_in listed id) None ≡ cond (a || (t && w)) (value_in listed id) None
    by id true t w e f = refl
    by id false true true e f = sym (unlisted id (same_is id p.terminal.equipment e) f)
    by id false true false e f = refl
    by id false false w e f = refl

-- one terminal more, whose pair is put
one_more : (listed : Listed) (ps : List Placed) (p : Placed) (watts : ℤ) (found : Listed) → is_powered p.stand ≡ true → value_in listed p.terminal.equipment ≡ Some watts → HasValuesOf listed ps found
    → HasValuesOf listed (ps ++ p ∷ []) (with_value p.terminal.equipment watts found)
one_more listed ps p watts found is has k = record {
  ordered = with_order p.terminal.equipment watts found k.ordered;
  values = λ id. by id (same_id id p.terminal.equipment) refl ∙ ap (λ t. cond t (value_in listed id) None) (sym (any_join id ps p));
}
  where
    left : (a : Bool) (o : Option ℤ) → o ≡ cond (a || (true && true)) o None
    left true o = refl
    left false o = refl

    right : (a w : Bool) (o : Option ℤ) → cond a o None ≡ cond (a || (false && w)) o None
    right true w o = refl
    right false w o = refl

    by : (id : List ℕ) (t : Bool) → same_id id p.terminal.equipment ≡ t → value_in (with_value p.terminal.equipment watts found) id ≡ cond (list_any (powered_by id) ps || powered_by id p) (value_in listed id) None
    by id true e =
        ap (value_in (with_value p.terminal.equipment watts found)) (same_is id p.terminal.equipment e) ∙ value_with-own p.terminal.equipment watts found ∙ sym has ∙ ap (value_in listed) (sym (same_is id p.terminal.equipment e))
        ∙ left (list_any (powered_by id) ps) (value_in listed id) ∙ ap (λ z. cond (list_any (powered_by id) ps || z) (value_in listed id) None) (sym (ap (λ t. t && is_powered p.stand) e ∙ is))
    by id false e =
        value_with-other p.terminal.equipment id watts found e ∙ k.values id ∙ right (list_any (powered_by id) ps) (is_powered p.stand) (value_in listed id)
        ∙ ap (λ t. cond (list_any (powered_by id) ps || (t && is_powered p.stand)) (value_in listed id) None) (sym e)

-- ---- a row

-- the terminals of a level from one on
from_on : (listed : Listed) (level : VoltageLevel) (front seen rest : List Placed) (found : Listed) → level.placed ≡ seen ++ rest → is_rising (map (λ (p : Placed). p.node) level.placed) ≡ true
    → HasValuesOf listed (front ++ seen) found → HasValuesOf listed (front ++ level.placed) (fold (with_pair_of level) found (pairs listed rest))
unfolding with_pair_of placed_at
from_on listed level front seen [] found is rises k = subst (λ (z : List Placed). HasValuesOf listed (front ++ z) found) (sym (is ∙ append-nil seen)) k
from_on listed level front seen (p ∷ rest) found is rises k =
    by (is_powered p.stand) (value_in listed p.terminal.equipment) refl refl
    (λ new m. from_on listed level front (seen ++ p ∷ []) rest new (is ∙ sym (append_assoc seen (p ∷ []) rest)) rises (subst (λ (z : List Placed). HasValuesOf listed z new) (append_assoc front seen (p ∷ [])) m))
  where
    here : find (stands_at p.node) level.placed ≡ Some p
    here = ap (find (stands_at p.node)) is ∙ found_at_node seen rest p (ap (λ z. is_rising (map (λ (q : Placed). q.node) z)) (sym is) ∙ rises)

    put : (watts : ℤ) → with_pair_of level found (pair p.node watts) ≡ with_value p.terminal.equipment watts found
    put watts = ap (λ (o : Option Placed). elim o [ Some q ↦ with_value q.terminal.equipment watts found | None ↦ found ]) here

    by : (w : Bool) (o : Option ℤ) → is_powered p.stand ≡ w → value_in listed p.terminal.equipment ≡ o
        → ((new : Listed) → HasValuesOf listed ((front ++ seen) ++ p ∷ []) new → HasValuesOf listed (front ++ level.placed) (fold (with_pair_of level) new (pairs listed rest)))
        → HasValuesOf listed (front ++ level.placed) (fold (with_pair_of level) found (pairs listed (p ∷ rest)))
    by true (Some watts) e f more =
        let pairing : listed_pair listed p ≡ Some (pair p.node watts) = powered_pair listed p e ∙ ap (option_map (pair p.node)) f in
        subst (λ (o : Option NodeWatts). HasValuesOf listed (front ++ level.placed) (fold (with_pair_of level) found (cons_option o (pairs listed rest)))) (sym pairing)
        (subst (λ (z : Listed). HasValuesOf listed (front ++ level.placed) (fold (with_pair_of level) z (pairs listed rest))) (sym (put watts)) (more (with_value p.terminal.equipment watts found) (one_more listed (front ++ seen) p watts found e f k)))
    by true None e f more =
        let none : listed_pair listed p ≡ None = powered_pair listed p e ∙ ap (option_map (pair p.node)) f in
        subst (λ (o : Option NodeWatts). HasValuesOf listed (front ++ level.placed) (fold (with_pair_of level) found (cons_option o (pairs listed rest)))) (sym none) (more found (none_more listed (front ++ seen) p found none k))
    by false o e f more =
        let none : listed_pair listed p ≡ None = unpowered_pair listed p e in
        subst (λ (o : Option NodeWatts). HasValuesOf listed (front ++ level.placed) (fold (with_pair_of level) found (cons_option o (pairs listed rest)))) (sym none) (more found (none_more listed (front ++ seen) p found none k))

pub row_gathered : (listed : Listed) (level : VoltageLevel) (front : List Placed) (found : Listed) → is_rising (map (λ (p : Placed). p.node) level.placed) ≡ true → HasValuesOf listed front found
    → HasValuesOf listed (front ++ level.placed) (with_pairs_of level (pairs listed level.placed) found)
unfolding with_pairs_of
row_gathered listed level front found rises k = from_on listed level front [] level.placed found refl rises (subst (λ (z : List Placed). HasValuesOf listed z found) (sym (append-nil front)) k)

-- ---- all of a network

any_found : (id : List ℕ) (ps : List Placed) → list_any (powered_by id) ps ≡ false → find (powered_by id) ps ≡ None
any_found id [] h = refl
any_found id (p ∷ ps) h = by (powered_by id p) h (any_found id ps)
  where
    by : (t : Bool) → (t || list_any (powered_by id) ps) ≡ false → (list_any (powered_by id) ps ≡ false → find (powered_by id) ps ≡ None) → ◌≡◌ {A = Option Placed} (cond t (Some p) (find (powered_by id) ps)) None
    by true h again = absurd (true≢false h)
    by false h again = again h

pub all_gathered : (net : Network) (listed found : Listed) → IsListing net listed → HasValuesOf listed (all_placed (levels net)) found → found ≡ listed
unfolding powered terminals
all_gathered net listed found k values = same_values found listed values.ordered k.ordered (λ id. values.values id ∙ by id (list_any (powered_by id) (all_placed (levels net))) refl)
  where
    by : (id : List ℕ) (t : Bool) → list_any (powered_by id) (all_placed (levels net)) ≡ t → cond t (value_in listed id) None ≡ value_in listed id
    by id true e = refl
    by id false e = sym (k.there id (any_found id (all_placed (levels net)) e))

-- ---- level by level

pub none_gathered : (listed found : Listed) → found ≡ [] → HasValuesOf listed [] found
unfolding IsStrictlySortedBy
none_gathered listed found none = subst (λ (z : Listed). HasValuesOf listed [] z) (sym none) (record { ordered = tt; values = λ id. refl })

row_at : (listed : Listed) (ls : List VoltageLevel) (k : ℕ) (l : VoltageLevel) → slice_get ls k ≡ Some l → slice_index_or (readings (pairs listed) ls) k [] ≡ pairs listed l.placed
row_at listed [] k l at = cc
row_at listed (x ∷ ls) zero l at = let same : x ≡ l = cc in ap (λ (z : VoltageLevel). pairs listed z.placed) same
row_at listed (x ∷ ls) (suc k) l at = row_at listed ls k l at

pub level_gathered : (net : Network) (listed found : Listed) (place : ℕ) (l : VoltageLevel) (row : List NodeWatts) → IsSound net → slice_get (levels net) place ≡ Some l → row ≡ pairs_at (listed_rows listed net) place
    → HasValuesOf listed (terminals_before net place) found → HasValuesOf listed (terminals_before net (place + 1)) (with_pairs_of l row found)
unfolding terminals_before pairs_at
level_gathered net listed found place l row s at is k =
    let ls = levels net in
    let rises = (on_level.passes_of l (level_at ls place l s.each_level at)).within.rise in
    let told : row ≡ pairs listed l.placed = is ∙ ap (λ z. slice_index_or z place []) (rows_are listed net) ∙ row_at listed ls place l at in
    let made : HasValuesOf listed (all_placed (take place ls) ++ l.placed) (with_pairs_of l (pairs listed l.placed) found) = row_gathered listed l (all_placed (take place ls)) found rises k in
    let here = subst (λ z. HasValuesOf listed (all_placed (take place ls) ++ l.placed) (with_pairs_of l z found)) (sym told) made in
    subst (λ (ps : List Placed). HasValuesOf listed ps (with_pairs_of l row found)) (sym (part_more ls place l at)) here

pub network_gathered : (net : Network) (listed : Listed) (place : ℕ) (powers : PowerList) → IsListing net listed → length (levels net) ≤ place → HasValuesOf listed (terminals_before net place) powers.listed
    → powers ≡ record powers { listed = listed }
unfolding terminals_before
network_gathered net listed place powers k end values =
    let whole : HasValuesOf listed (all_placed (levels net)) powers.listed = subst (λ (z : List VoltageLevel). HasValuesOf listed (all_placed z) powers.listed) (take_all place (levels net) end) values in
    let listing : Listed → PowerList = λ z. record powers { listed = z } in
    ap listing (all_gathered net listed powers.listed k whole)
