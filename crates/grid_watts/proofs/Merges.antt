-- The watts of terminals, taken in order out of a row.
use Rattle.std.proofs.Common.{◌≡◌, refl, sym, ap, ◌∙◌, subst, ℕ, ℤ, pos, ◌<◌, arith, Bool, true, false, cond, List, [], ◌∷◌, length, Option, Some, None}
use Rattle.std.specs.Prelude.{map, filter_map, nat_lt, option_map, unwrap_or}
use Rattle.std.specs.List.{list_all, cons_option}
use Rattle.std.proofs.lemmas.Bool.{and_parts, and_from, ltb-true, false≢true}
use Rattle.grid_kinds.specs.declared.Injection.TheVariants.{Load, Generator, Battery, ShuntCompensator, StaticVarCompensator, ConverterStation}
use Rattle.grid_level.specs.Passing.{is_rising}
use Rattle.grid_level.specs.declared.Placed.{Placed}
use Rattle.grid_level.specs.declared.Stand.{Stand}
use Rattle.grid_level.specs.declared.Stand.TheVariants.{Busbar, Feeder, BranchEnd}
use Rattle.grid_busview.specs.Views.{is_load, is_load_item, is_generation, is_generation_item, stand_watts, item_watts}
use Rattle.grid_powers.specs.Listed.{Listed, value_in}
use Rattle.grid_states.specs.declared.row.NodeWatts.{NodeWatts}
use Rattle.grid_states.specs.Pairs.{pair}
use Rattle.grid_watts.specs.Watts.{is_powered, watts_for, watts_at}
use Rattle.grid_watts.specs.Nodes.{listed_pair}
use Rattle.grid_watts.proofs.EquipmentShares.{unpowered_watts}
use Rattle.grid_watts.proofs.RecordWatts.{powered_watts}

-- the record of other equipment gives none
unpowered_record : (s : Stand) → is_powered s ≡ false → stand_watts s ≡ pos 0
unfolding is_powered is_load is_generation is_load_item is_generation_item stand_watts item_watts
unpowered_record Busbar none = refl
unpowered_record (Feeder (Load p0 q0)) none = absurd (false≢true (sym none))
unpowered_record (Feeder (Generator target_p target_v min_p max_p)) none = absurd (false≢true (sym none))
unpowered_record (Feeder (Battery target_p target_q min_p max_p)) none = absurd (false≢true (sym none))
unpowered_record (Feeder other) none = refl
unpowered_record BranchEnd none = refl

-- a row that has ended
pub ended : (row : List NodeWatts) → length row ≡ 0 → row ≡ []
ended [] none = refl
ended (w ∷ row) none = absurd (omega (arith, none))

module _ (listed : Listed) where
  abbrev pub pairs_of : List Placed → List NodeWatts
  pairs_of ps = filter_map (listed_pair listed) ps

  -- ---- one terminal

  -- without a pair it has the watts of its record
  pub no_pair : (p : Placed) → listed_pair listed p ≡ None → watts_at listed p ≡ stand_watts p.stand
  unfolding listed_pair watts_at
  no_pair p none = by (is_powered p.stand) refl (value_in listed p.terminal.equipment) refl none
    where
      by : (t : Bool) → is_powered p.stand ≡ t → (v : Option ℤ) → value_in listed p.terminal.equipment ≡ v → ◌≡◌ {A = Option NodeWatts} (cond t (option_map (pair p.node) v) None) None
          → watts_for listed p.terminal.equipment p.stand ≡ stand_watts p.stand
      by true is (Some w) found none = cc
      by true is None found none = powered_watts listed p.terminal.equipment p.stand is ∙ ap (λ v. unwrap_or v (stand_watts p.stand)) found
      by false is v found none = unpowered_watts listed p.terminal.equipment p.stand is ∙ sym (unpowered_record p.stand is)

  -- its pair has its node and its watts
  pub pair_of : (p : Placed) (w : NodeWatts) → listed_pair listed p ≡ Some w → (w.node ≡ p.node) × (w.watts ≡ watts_at listed p)
  unfolding listed_pair watts_at
  pair_of p w is = by (is_powered p.stand) refl (value_in listed p.terminal.equipment) refl is
    where
      by : (t : Bool) → is_powered p.stand ≡ t → (v : Option ℤ) → value_in listed p.terminal.equipment ≡ v → ◌≡◌ {A = Option NodeWatts} (cond t (option_map (pair p.node) v) None) (Some w)
          → (w.node ≡ p.node) × (w.watts ≡ watts_for listed p.terminal.equipment p.stand)
      by true on (Some n) found is =
          let same : pair p.node n ≡ w = cc in
          (sym (ap (λ (x : NodeWatts). x.node) same), sym (ap (λ (x : NodeWatts). x.watts) same) ∙ sym (powered_watts listed p.terminal.equipment p.stand on ∙ ap (λ v. unwrap_or v (stand_watts p.stand)) found))
      by true on None found is = cc
      by false on v found is = cc

  -- ---- those behind it

  pairs_above : (n : ℕ) (ps : List Placed) → list_all (nat_lt n) (map (λ (p : Placed). p.node) ps) ≡ true → list_all (λ (w : NodeWatts). nat_lt n w.node) (pairs_of ps) ≡ true
  pairs_above n [] h = refl
  pairs_above n (p ∷ ps) h =
      let parts = and_parts (nat_lt n p.node) (list_all (nat_lt n) (map (λ (p : Placed). p.node) ps)) h in
      by (listed_pair listed p) refl parts.0 (pairs_above n ps parts.1)
    where
      by : (o : Option NodeWatts) → listed_pair listed p ≡ o → nat_lt n p.node ≡ true → list_all (λ (w : NodeWatts). nat_lt n w.node) (pairs_of ps) ≡ true
          → list_all (λ (w : NodeWatts). nat_lt n w.node) (cons_option o (pairs_of ps)) ≡ true
      by (Some w) is here rest = and_from (nat_lt n w.node) (list_all (λ (w : NodeWatts). nat_lt n w.node) (pairs_of ps)) (ap (nat_lt n) (pair_of p w is).0 ∙ here) rest
      by None is here rest = rest

  -- ---- the first pair of a row

  module _ (p : Placed) (ps : List Placed) (rise : is_rising (map (λ (p : Placed). p.node) (p ∷ ps)) ≡ true) where
    -- it is of a later terminal, where this one has none
    behind : (w : NodeWatts) (rest : List NodeWatts) → w ∷ rest ≡ pairs_of ps → w.node ≡ p.node → ⊥
    unfolding is_rising
    behind w rest is same =
        let above = pairs_above p.node ps (and_parts (list_all (nat_lt p.node) (map (λ (p : Placed). p.node) ps)) (is_rising (map (λ (p : Placed). p.node) ps)) rise).0 in
        let first : nat_lt p.node w.node ≡ true = (and_parts (nat_lt p.node w.node) (list_all (λ (w : NodeWatts). nat_lt p.node w.node) rest) (ap (list_all (λ (w : NodeWatts). nat_lt p.node w.node)) is ∙ above)).0 in
        let less : p.node < w.node = ltb-true p.node w.node first in
        absurd (omega (arith, less, same))

    -- at the node it is this one's
    pub first_is : (w : NodeWatts) (rest : List NodeWatts) → w ∷ rest ≡ pairs_of (p ∷ ps) → w.node ≡ p.node → (w.watts ≡ watts_at listed p) × (rest ≡ pairs_of ps)
    first_is w rest is same = by (listed_pair listed p) refl is
      where
        by : (o : Option NodeWatts) → listed_pair listed p ≡ o → w ∷ rest ≡ cons_option o (pairs_of ps) → (w.watts ≡ watts_at listed p) × (rest ≡ pairs_of ps)
        by (Some q) found is = let one : w ≡ q = cc in let others : rest ≡ pairs_of ps = cc in (ap (λ (x : NodeWatts). x.watts) one ∙ (pair_of p q found).1, others)
        by None found is = absurd (behind w rest is same)

    -- at another node this one has none
    pub first_behind : (w : NodeWatts) (rest : List NodeWatts) → w ∷ rest ≡ pairs_of (p ∷ ps) → (w.node ≡ p.node → ⊥) → (stand_watts p.stand ≡ watts_at listed p) × (w ∷ rest ≡ pairs_of ps)
    first_behind w rest is apart = by (listed_pair listed p) refl is
      where
        by : (o : Option NodeWatts) → listed_pair listed p ≡ o → w ∷ rest ≡ cons_option o (pairs_of ps) → (stand_watts p.stand ≡ watts_at listed p) × (w ∷ rest ≡ pairs_of ps)
        by (Some q) found is = let one : w ≡ q = cc in absurd (apart (ap (λ (x : NodeWatts). x.node) one ∙ (pair_of p q found).0))
        by None found is = (sym (no_pair p found), is)

    -- nor where the row has ended
    pub first_of_none : (row : List NodeWatts) → row ≡ [] → row ≡ pairs_of (p ∷ ps) → (stand_watts p.stand ≡ watts_at listed p) × (row ≡ pairs_of ps)
    first_of_none row ended is = by (listed_pair listed p) refl is
      where
        by : (o : Option NodeWatts) → listed_pair listed p ≡ o → row ≡ cons_option o (pairs_of ps) → (stand_watts p.stand ≡ watts_at listed p) × (row ≡ pairs_of ps)
        by (Some q) found is = cc
        by None found is = (sym (no_pair p found), is)
