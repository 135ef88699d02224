-- The watts of a level's terminals, read off its row in order; and those of one terminal.
use Rattle.std.proofs.Common.{◌≡◌, refl, sym, ap, ap₂, ◌∙◌, ℕ, ℤ, pos, zero, suc, ◌+◌, ◌<◌, ◌≤◌, true, false, List, [], ◌∷◌, ◌++◌, length, take, drop, get_or, arith, Option, Some, None}
use Rattle.std.specs.Prelude.{map, filter_map, nat_lt, unwrap_or}
use Rattle.std.specs.List.{list_all, cons_option}
use Rattle.std.proofs.lemmas.Bool.{and_parts}
use Rattle.std.proofs.lemmas.List.{take_all, map_more}
use Rattle.grid_level.specs.Passing.{is_rising}
use Rattle.grid_level.specs.declared.Placed.{Placed}
use Rattle.grid_level.specs.VoltageLevel.{VoltageLevel}
use Rattle.grid_powers.specs.Listed.{Listed}
use Rattle.grid_states.specs.declared.row.NodeWatts.{NodeWatts}
use Rattle.grid_busview.specs.Views.{stand_watts, record_watts}
use Rattle.grid_states.specs.Pairs.{value_at}
use Rattle.grid_watts.proofs.Merges.{no_pair}
use Rattle.grid_watts.specs.Watts.{is_powered, watts_at, level_watts}
use Rattle.grid_watts.specs.Nodes.{listed_pair, listed_row, row_watts_at}

-- the terminals from a place on
pub ahead : (ps : List Placed) (i : ℕ) (p : Placed) → i < length ps → p ≡ get_or ps i p → drop i ps ≡ p ∷ drop (i + 1) ps
ahead [] i p lt is = absurd (omega arith)
ahead (q ∷ ps) zero p lt is = ap (λ z. z ∷ ps) (sym is)
ahead (q ∷ ps) (suc i) p lt is = let e : suc i + 1 ≡ suc (i + 1) = omega arith in rw e (ahead ps i p (omega arith) is)

rising_ahead : (ps : List Placed) (i : ℕ) → is_rising (map (λ (p : Placed). p.node) ps) ≡ true → is_rising (map (λ (p : Placed). p.node) (drop i ps)) ≡ true
unfolding is_rising
rising_ahead [] zero h = h
rising_ahead [] (suc i) h = h
rising_ahead (p ∷ ps) zero h = h
rising_ahead (p ∷ ps) (suc i) h = rising_ahead ps i (and_parts (list_all (nat_lt p.node) (map (λ (q : Placed). q.node) ps)) (is_rising (map (λ (q : Placed). q.node) ps)) h).1

-- what stands while they are read: the watts of the terminals before a place, and what the row has of the others
pub record AreRead (listed : Listed) (ps : List Placed) (i : ℕ) (values : List ℤ) (left : List NodeWatts) : Type 0 where
  pub values_are : values ≡ map (watts_at listed) (take i ps)
  pub left_is : left ≡ filter_map (listed_pair listed) (drop i ps)

pub read_none : (listed : Listed) (level : VoltageLevel) (ps : List Placed) (values : List ℤ) (row : List NodeWatts) → ps ≡ level.placed → values ≡ [] → row ≡ listed_row listed level → AreRead listed ps 0 values row
unfolding listed_row
read_none listed level ps values row same none is = record { values_are = none; left_is = is ∙ ap (filter_map (listed_pair listed)) (sym same) }

-- what is asked of the next one
pub rises_ahead : (level : VoltageLevel) (ps : List Placed) (i : ℕ) (p : Placed) → is_rising (map (λ (q : Placed). q.node) level.placed) ≡ true → ps ≡ level.placed → i < length ps → p ≡ get_or ps i p
    → is_rising (map (λ (q : Placed). q.node) (p ∷ drop (i + 1) ps)) ≡ true
rises_ahead level ps i p rise same lt is =
    ap (λ (qs : List Placed). is_rising (map (λ (q : Placed). q.node) qs)) (sym (ahead ps i p lt is)) ∙ rising_ahead ps i (ap (λ (qs : List Placed). is_rising (map (λ (q : Placed). q.node) qs)) same ∙ rise)

pub row_ahead : (listed : Listed) (ps : List Placed) (i : ℕ) (p : Placed) (values : List ℤ) (left : List NodeWatts) → AreRead listed ps i values left → i < length ps → p ≡ get_or ps i p
    → left ≡ filter_map (listed_pair listed) (p ∷ drop (i + 1) ps)
row_ahead listed ps i p values left are lt is = are.left_is ∙ ap (filter_map (listed_pair listed)) (ahead ps i p lt is)

pub values_more : (listed : Listed) (ps : List Placed) (i : ℕ) (p : Placed) (values : List ℤ) (left : List NodeWatts) → AreRead listed ps i values left → i < length ps → p ≡ get_or ps i p
    → values ++ watts_at listed p ∷ [] ≡ map (watts_at listed) (take (i + 1) ps)
values_more listed ps i p values left are lt is = ap₂ (λ vs w. vs ++ w ∷ []) are.values_are (ap (watts_at listed) is) ∙ sym (map_more (watts_at listed) ps i p lt)

pub read_all : (listed : Listed) (level : VoltageLevel) (ps : List Placed) (i : ℕ) (values : List ℤ) (left : List NodeWatts) → ps ≡ level.placed → length ps ≤ i → AreRead listed ps i values left → values ≡ level_watts listed level
unfolding level_watts
read_all listed level ps i values left same past are = are.values_are ∙ ap (map (watts_at listed)) (take_all i ps past ∙ same)

-- ---- one terminal

pub row_powered : (row : List NodeWatts) (p : Placed) → is_powered p.stand ≡ true → row_watts_at row p ≡ unwrap_or (value_at p.node row) (stand_watts p.stand)
unfolding row_watts_at
row_powered row p is = rw is refl

pub row_unpowered : (row : List NodeWatts) (p : Placed) → is_powered p.stand ≡ false → row_watts_at row p ≡ pos 0
unfolding row_watts_at
row_unpowered row p is = rw is refl

-- ---- a level of which nothing is listed

each_by_record : (listed : Listed) (ps : List Placed) → filter_map (listed_pair listed) ps ≡ [] → map (λ (p : Placed). stand_watts p.stand) ps ≡ map (watts_at listed) ps
each_by_record listed [] none = refl
each_by_record listed (p ∷ ps) none = by (listed_pair listed p) refl none (each_by_record listed ps)
  where
    by : (o : Option NodeWatts) → listed_pair listed p ≡ o → cons_option o (filter_map (listed_pair listed) ps) ≡ []
        → (filter_map (listed_pair listed) ps ≡ [] → map (λ (q : Placed). stand_watts q.stand) ps ≡ map (watts_at listed) ps)
        → stand_watts p.stand ∷ map (λ (q : Placed). stand_watts q.stand) ps ≡ watts_at listed p ∷ map (watts_at listed) ps
    by None own none again = rw (no_pair listed p own, again none) refl
    by (Some w) own none again = cc

pub records_of_level : (listed : Listed) (level : VoltageLevel) (row : List NodeWatts) → row ≡ [] → row ≡ listed_row listed level → record_watts level ≡ level_watts listed level
unfolding record_watts level_watts listed_row
records_of_level listed level row empty is = each_by_record listed level.placed (sym is ∙ empty)
