-- What becomes of the rows and the sums of a variant.
use Rattle.std.proofs.Common.{◌≡◌, refl, sym, ap, ◌∙◌, ℕ, ℤ, pos, Bool, true, false, cond, List, [], ◌∷◌, ◌++◌, length, Option, Some, None, arith}
use Rattle.std.specs.Prelude.{◌+ℤ◌, neg_ℤ, insert, nat_lt, option_map, unwrap_or, slice_set, Ok}
use Rattle.std.specs.List.{cons_option, slice_index_or}
use Rattle.std.proofs.lemmas.Bool.{false≢true}
use Rattle.grid_ids.specs.Refusing.{refuse_if}
use Rattle.grid_ids.proofs.Alike.{same_swap}
use Rattle.grid_kinds.specs.declared.Injection.{Injection}
use Rattle.grid_kinds.specs.declared.Injection.TheVariants.{Load, Generator, Battery, ShuntCompensator, StaticVarCompensator, ConverterStation}
use Rattle.grid_level.specs.declared.Placed.{Placed}
use Rattle.grid_level.specs.declared.Stand.{Stand}
use Rattle.grid_level.specs.declared.Stand.TheVariants.{Busbar, Feeder, BranchEnd}
use Rattle.grid_level.specs.VoltageLevel.{VoltageLevel}
use Rattle.grid_level.specs.LevelEdits.{with_placed}
use Rattle.grid_level.proofs.LevelEdits as on_level
use Rattle.grid_structure.specs.Network.{Network}
use Rattle.grid_structure.specs.Sites.{levels, taken, all_ids}
use Rattle.grid_structure.specs.Editing.{apply}
use Rattle.grid_structure.specs.declared.Edit.{Edit}
use Rattle.grid_structure.specs.declared.Edit.TheVariants as edits
use Rattle.grid_structure.specs.declared.EditFault.TheVariants as faults
use Rattle.grid_structure.specs.Soundness.{IsSound}
use Rattle.grid_structure.proofs.Counts.{not_there}
use Rattle.grid_structure.proofs.Frames.{ids_counted}
use Rattle.grid_busview.specs.Views.{is_load, is_load_item, is_generation, is_generation_item, stand_watts}
use Rattle.grid_states.specs.declared.row.NodeWatts.{NodeWatts}
use Rattle.grid_states.specs.declared.sums.Counted.{Counted}
use Rattle.grid_states.specs.Pairs.{value_at, with_pair, without_pair}
use Rattle.grid_states.specs.Rows as rows
use Rattle.grid_states.specs.Rows.{Rows, pairs_at, with_pairs, with_node, without_node, with_no_pairs, with_watts, without_watts, without_terminal}
use Rattle.grid_states.specs.Sums as sums
use Rattle.grid_states.specs.declared.sums.Sum.TheVariants as of_sum
use Rattle.grid_powers.specs.Listed.{Listed, PowerList, value_in, with_value, without_value}
use Rattle.grid_powers.proofs.ListedValues.{value_without, value_with-other, value_with-own}
use Rattle.grid_watts.specs.Watts.{is_powered, watts_at, watts_for, powered, terminals, load_total, generation_total, total_over}
use Rattle.grid_watts.specs.Shares.{share, own_part, edit_part, set_part, listed_after}
use Rattle.grid_watts.specs.Moves.{edit_moved, leaves_powers}
use Rattle.grid_watts.specs.Nodes.{listed_pair, listed_row, listed_rows, row_watts_at, powers_under, powered_at, counted, gain, change}
use Rattle.grid_watts.specs.Moved.{leaves_rows, ValuesMoveRows, InjectionsAreNew, InjectionsMoveRows, RemovalsMoveRows, RemovalsLeaveRows, LevelsMoveRows, OthersLeaveRows}
use Rattle.grid_watts.proofs.TerminalSums.{all_placed, total_is}
use Rattle.grid_watts.proofs.EquipmentShares.{others, share_is_part}
use Rattle.grid_watts.proofs.EquipmentShifts.{edit_moves, set_moves, names_within}
use Rattle.grid_watts.proofs.FirstSides.{none_powered}
use Rattle.grid_watts.proofs.RecordWatts.{of_record, powered_watts}
use Rattle.grid_watts.proofs.PowerSums.{leaving_moved, plus_nothing}
use Rattle.grid_watts.proofs.LevelReadings.{readings, Ignores, ReadsPowered, edit_alike, injection_alike, level_brings, equipment_gone}
use Rattle.grid_watts.proofs.Spots.{NoneOf, Spot, spot, nowhere, none_found}
use Rattle.grid_watts.proofs.Pairings.{pairs, unpowered_pair, AgreeBut, alike, others_alike, value_around, set_around, gone_around}

-- ---- rows as readings

pub rows_are : (listed : Listed) (net : Network) → listed_rows listed net ≡ readings (pairs listed) (levels net)
unfolding listed_rows listed_row
rows_are listed net = refl

pub pairs_ignore : (listed : Listed) (p : Placed) → listed_pair listed p ≡ None → Ignores (pairs listed) p
unfolding with_placed
pairs_ignore listed p none [] = ap (λ o. cons_option o []) none
pairs_ignore listed p none (x ∷ xs) = by (nat_lt x.node p.node) (pairs_ignore listed p none xs)
  where
    by : (b : Bool) → pairs listed (with_placed p xs) ≡ pairs listed xs → pairs listed (cond b (x ∷ with_placed p xs) (p ∷ x ∷ xs)) ≡ pairs listed (x ∷ xs)
    by true again = ap (cons_option (listed_pair listed x)) again
    by false again = ap (λ o. cons_option o (pairs listed (x ∷ xs))) none

pairs_read : (listed : Listed) → ReadsPowered (pairs listed)
pairs_read listed p none = pairs_ignore listed p (unpowered_pair listed p none)

-- rows and sums alike
same_rows : (opened retained : List (List Bool)) (watts more : List (List NodeWatts)) (load load2 generation generation2 : ℤ) → watts ≡ more → load ≡ load2 → generation ≡ generation2
    → ◌≡◌ {A = Rows} (record { opened = opened; retained = retained; watts = watts; load = load; generation = generation }) (record { opened = opened; retained = retained; watts = more; load = load2; generation = generation2 })
same_rows opened retained watts more load load2 generation generation2 a b c = rw (a, b, c) refl

-- ---- sums

total_moves : (test : Stand → Bool) (net new : Network) (edit : Edit) (listed : Listed) → IsSound net → apply net edit ≡ Ok new
    → total_over test new (listed_after edit listed) ≡ total_over test net listed +ℤ edit_part (share test) net listed edit
total_moves test net new edit listed s h =
    total_is test new (listed_after edit listed) ∙ edit_moves (share test) net new edit listed (share_is_part test) s h ∙ ap (λ z. z +ℤ edit_part (share test) net listed edit) (sym (total_is test net listed))

total_set : (test : Stand → Bool) (net : Network) (id : List ℕ) (p : Placed) (watts : ℤ) (listed : Listed) → IsSound net → powered net id ≡ Some p
    → total_over test net (with_value id watts listed) ≡ total_over test net listed +ℤ set_part (share test) listed watts p
total_set test net id p watts listed s found =
    total_is test net (with_value id watts listed) ∙ set_moves (share test) net id p watts listed (share_is_part test) s found ∙ ap (λ z. z +ℤ set_part (share test) listed watts p) (sym (total_is test net listed))

sums_stay : (net new : Network) (edit : Edit) (listed : Listed) → IsSound net → apply net edit ≡ Ok new → leaves_powers edit ≡ true
    → (load_total new listed ≡ load_total net listed) × (generation_total new listed ≡ generation_total net listed)
unfolding edit_moved load_total generation_total
sums_stay net new edit listed s h leaves =
    let m = leaving_moved net edit (powers_under net listed) leaves in
    let same : listed_after edit listed ≡ listed = ap (λ (z : PowerList). z.listed) m in (
      ap (total_over is_load new) (sym same) ∙ total_moves is_load net new edit listed s h ∙ ap (λ (z : PowerList). z.load) m,
      ap (total_over is_generation new) (sym same) ∙ total_moves is_generation net new edit listed s h ∙ ap (λ (z : PowerList). z.generation) m,
    )

rows_powers : (edit : Edit) → leaves_rows edit ≡ true → leaves_powers edit ≡ true
unfolding leaves_rows leaves_powers
rows_powers (edits.AddInjection id level node item) l = absurd (false≢true l)
rows_powers (edits.RemoveEquipment id) l = absurd (false≢true l)
rows_powers other l = refl

level_leaves : (id substation : List ℕ) (nominal_v : ℤ) (low_v high_v : Option ℤ) → leaves_powers (edits.AddLevel id substation nominal_v low_v high_v) ≡ true
unfolding leaves_powers
level_leaves id substation nominal_v low_v high_v = refl

-- ---- edits of other things, and levels

pub others_leave : OthersLeaveRows
others_leave net new edit opened retained listed s h l =
    let k = sums_stay net new edit listed s h (rows_powers edit l) in
    same_rows opened retained (listed_rows listed new) (listed_rows listed net) (load_total new listed) (load_total net listed) (generation_total new listed) (generation_total net listed)
    (rows_are listed new ∙ edit_alike (pairs listed) (pairs_read listed) net new edit s h l ∙ sym (rows_are listed net)) k.0 k.1

pub levels_move : LevelsMoveRows
unfolding with_no_pairs
levels_move net new id substation nominal_v low_v high_v place listed s h found = (
  rows_are listed new ∙ level_brings (pairs listed) net new id substation nominal_v low_v high_v place s h found ∙ ap (λ z. insert z place []) (sym (rows_are listed net)),
  sums_stay net new (edits.AddLevel id substation nominal_v low_v high_v) listed s h (level_leaves id substation nominal_v low_v high_v),
)

-- ---- a new injection

-- what has an id that is free
free_is_none : (net : Network) (id : List ℕ) → taken net id ≡ false → powered net id ≡ None
unfolding taken powered terminals
free_is_none net id h =
    let none = not_there id (all_ids net) h in
    none_powered id (all_placed (levels net)) (omega (arith, none, ids_counted id net, names_within id (levels net)))

pub injection_new : (net new : Network) (id level : List ℕ) (node : ℤ) (item : Injection) → apply net (edits.AddInjection id level node item) ≡ Ok new → powered net id ≡ None
unfolding apply
injection_new net new id level node item h = let t = on_level.went (refuse_if (taken net id) faults.IdTaken) _ new h in free_is_none net id (on_level.not_refused _ _ _ t.is)

pub injections_new : InjectionsAreNew
injections_new net new id level node item listed s h k = k.there id (injection_new net new id level node item h)

unlisted_pair : (listed : Listed) (p : Placed) → value_in listed p.terminal.equipment ≡ None → listed_pair listed p ≡ None
unfolding listed_pair
unlisted_pair listed p none = ap (λ v. cond (is_powered p.stand) (option_map (λ w. record { node = p.node; watts = w }) v) None) none ∙ by (is_powered p.stand)
  where
    by : (t : Bool) → ◌≡◌ {A = Option NodeWatts} (cond t None None) None
    by true = refl
    by false = refl

pub unlisted_watts : (listed : Listed) (id : List ℕ) (stand : Stand) → value_in listed id ≡ None → watts_for listed id stand ≡ stand_watts stand
unfolding watts_for
unlisted_watts listed id stand none = ap (λ v. cond (is_powered stand) (unwrap_or v (stand_watts stand)) (pos 0)) none ∙ of_record id stand

pub injections_move : InjectionsMoveRows
unfolding rows.shifted gain load_total generation_total edit_part listed_after
injections_move net new id level node item opened retained listed s h k =
    let none = injections_new net new id level node item listed s h k in
    let edit = edits.AddInjection id level node item in
    let watts : watts_for listed id (Feeder item) ≡ stand_watts (Feeder item) = unlisted_watts listed id (Feeder item) none in
    same_rows opened retained (listed_rows listed new) (listed_rows listed net) _ _ _ _
    (rows_are listed new ∙ injection_alike (pairs listed) net new id level node item s h (λ n. pairs_ignore listed _ (unlisted_pair listed _ none)) ∙ sym (rows_are listed net))
    (total_moves is_load net new edit listed s h ∙ ap (λ w. total_over is_load net listed +ℤ share is_load (Feeder item) w) watts)
    (total_moves is_generation net new edit listed s h ∙ ap (λ w. total_over is_generation net listed +ℤ share is_generation (Feeder item) w) watts)

-- ---- rows of levels without the id

levels_alike : (id : List ℕ) (more listed : Listed) (ls : List VoltageLevel) → AgreeBut id more listed → NoneOf id (all_placed ls) → readings (pairs more) ls ≡ readings (pairs listed) ls
levels_alike id more listed [] agree none = refl
levels_alike id more listed (l ∷ ls) agree none =
    let parts = on_level.all_parts _ l.placed (all_placed ls) none in
    ap (λ z. z ∷ readings (pairs more) ls) (alike id more listed l.placed agree parts.0) ∙ ap (λ z. pairs listed l.placed ∷ z) (levels_alike id more listed ls agree parts.1)

levels_others : (id : List ℕ) (more listed : Listed) (ls : List VoltageLevel) → AgreeBut id more listed → NoneOf id (all_placed ls) → readings (λ ps. pairs more (others id ps)) ls ≡ readings (pairs listed) ls
levels_others id more listed [] agree none = refl
levels_others id more listed (l ∷ ls) agree none =
    let parts = on_level.all_parts _ l.placed (all_placed ls) none in
    ap (λ z. z ∷ readings (λ ps. pairs more (others id ps)) ls) (others_alike id more listed l.placed agree parts.0) ∙ ap (λ z. pairs listed l.placed ∷ z) (levels_others id more listed ls agree parts.1)

joined : {R : Type 0} (read : List Placed → R) (front rest : List VoltageLevel) (l : VoltageLevel) → readings read (front ++ l ∷ rest) ≡ readings read front ++ read l.placed ∷ readings read rest
joined read [] rest l = refl
joined read (x ∷ front) rest l = ap (λ z. read x.placed ∷ z) (joined read front rest l)

row_here : (listed : Listed) (front rest : List VoltageLevel) (l : VoltageLevel) → slice_index_or (readings (pairs listed) (front ++ l ∷ rest)) (length front) [] ≡ pairs listed l.placed
row_here listed [] rest l = refl
row_here listed (x ∷ front) rest l = row_here listed front rest l

row_put : (listed : Listed) (front rest : List VoltageLevel) (l : VoltageLevel) (row : List NodeWatts)
    → slice_set (readings (pairs listed) (front ++ l ∷ rest)) (length front) row ≡ readings (pairs listed) front ++ row ∷ readings (pairs listed) rest
row_put listed [] rest l row = refl
row_put listed (x ∷ front) rest l row = ap (λ z. pairs listed x.placed ∷ z) (row_put listed front rest l row)

-- ---- the row of a spot

module _ (net : Network) (id : List ℕ) (place : ℕ) (p : Placed) (listed : Listed) (k : Spot net id place p) where
  row_of : pairs_at (listed_rows listed net) place ≡ pairs listed k.level.placed
  unfolding pairs_at
  row_of = ap (λ z. slice_index_or z place []) (rows_are listed net ∙ ap (readings (pairs listed)) k.is) ∙ ap (λ n. slice_index_or (readings (pairs listed) (k.front ++ k.level ∷ k.rest)) n []) (sym k.place_is) ∙ row_here listed k.front k.rest k.level

  value_of : value_at p.node (pairs_at (listed_rows listed net) place) ≡ value_in listed p.terminal.equipment
  value_of = ap (value_at p.node) row_of ∙ value_around listed id k.level.placed p k.around k.named k.is_one ∙ ap (value_in listed) k.named

  watts_of : unwrap_or (value_at p.node (pairs_at (listed_rows listed net) place)) (stand_watts p.stand) ≡ watts_at listed p
  unfolding watts_at
  watts_of = ap (λ v. unwrap_or v (stand_watts p.stand)) value_of ∙ sym (powered_watts listed p.terminal.equipment p.stand k.is_one)

  told : row_watts_at (pairs_at (listed_rows listed net) place) p ≡ watts_at listed p
  unfolding row_watts_at
  told = ap (λ t. cond t (unwrap_or (value_at p.node (pairs_at (listed_rows listed net) place)) (stand_watts p.stand)) (pos 0)) k.is_one ∙ watts_of

  put_row : (row : List NodeWatts) → with_pairs (listed_rows listed net) place row ≡ readings (pairs listed) k.front ++ row ∷ readings (pairs listed) k.rest
  unfolding with_pairs
  put_row row = ap (λ z. slice_set z place row) (rows_are listed net ∙ ap (readings (pairs listed)) k.is) ∙ ap (λ n. slice_set (readings (pairs listed) (k.front ++ k.level ∷ k.rest)) n row) (sym k.place_is) ∙ row_put listed k.front k.rest k.level row

  set_row : (more : Listed) (watts : ℤ) → AgreeBut id more listed → value_in more id ≡ Some watts → listed_rows more net ≡ with_node (listed_rows listed net) place p.node watts
  unfolding with_node
  set_row more watts agree own =
      rows_are more net ∙ ap (readings (pairs more)) k.is ∙ joined (pairs more) k.front k.rest k.level
      ∙ ap (λ z. z ++ pairs more k.level.placed ∷ readings (pairs more) k.rest) (levels_alike id more listed k.front agree k.none_front)
      ∙ ap (λ z. readings (pairs listed) k.front ++ pairs more k.level.placed ∷ z) (levels_alike id more listed k.rest agree k.none_rest)
      ∙ ap (λ z. readings (pairs listed) k.front ++ z ∷ readings (pairs listed) k.rest) (set_around more listed watts id k.level.placed p k.around k.named k.is_one agree own ∙ ap (with_pair p.node watts) (sym row_of))
      ∙ sym (put_row _)

  gone_row : (new : Network) (more : Listed) → apply net (edits.RemoveEquipment id) ≡ Ok new → AgreeBut id more listed → listed_rows more new ≡ without_node (listed_rows listed net) place p.node
  unfolding without_node
  gone_row new more h agree =
      let left : List Placed → List NodeWatts = λ ps. pairs more (others id ps) in
      rows_are more new ∙ equipment_gone (pairs more) net new id h ∙ ap (readings left) k.is ∙ joined left k.front k.rest k.level
      ∙ ap (λ z. z ++ left k.level.placed ∷ readings left k.rest) (levels_others id more listed k.front agree k.none_front)
      ∙ ap (λ z. readings (pairs listed) k.front ++ left k.level.placed ∷ z) (levels_others id more listed k.rest agree k.none_rest)
      ∙ ap (λ z. readings (pairs listed) k.front ++ z ∷ readings (pairs listed) k.rest) (gone_around more listed id k.level.placed p k.around k.named k.is_one agree ∙ ap (without_pair p.node) (sym row_of))
      ∙ sym (put_row _)

-- the watts of a terminal, by its row
pub row_told : (net : Network) (id : List ℕ) (level : ℕ) (p : Placed) (listed : Listed) → IsSound net → powered_at net id ≡ Some (level, p) → row_watts_at (pairs_at (listed_rows listed net) level) p ≡ watts_at listed p
row_told net id level p listed s at = told net id level p listed (spot net id level p s at)

-- ---- a value set

pub values_move : ValuesMoveRows
unfolding rows.shifted change with_watts load_total generation_total set_part
values_move net id place p watts opened retained listed s at =
    let k = spot net id place p s at in
    let more = with_value id watts listed in
    same_rows opened retained (listed_rows more net) (with_node (listed_rows listed net) place p.node watts) _ _ _ _
    (set_row net id place p listed k more watts (λ q e. value_with-other id q watts listed (same_swap id q e)) (value_with-own id watts listed))
    (total_set is_load net id p watts listed s k.found) (total_set is_generation net id p watts listed s k.found)

-- ---- equipment removed

without_agrees : (id : List ℕ) (listed : Listed) → AgreeBut id (without_value id listed) listed
without_agrees id listed q e = value_without id q listed (same_swap id q e)

removed_total : (test : Stand → Bool) (net new : Network) (id : List ℕ) (listed : Listed) (found : Option Placed) → IsSound net → apply net (edits.RemoveEquipment id) ≡ Ok new → powered net id ≡ found
    → total_over test new (without_value id listed) ≡ total_over test net listed +ℤ neg_ℤ (own_part (share test) listed found)
unfolding edit_part listed_after
removed_total test net new id listed found s h is = total_moves test net new (edits.RemoveEquipment id) listed s h ∙ ap (λ o. total_over test net listed +ℤ neg_ℤ (own_part (share test) listed o)) is

pub removals_leave : RemovalsLeaveRows
unfolding load_total generation_total own_part powered terminals
removals_leave net new id opened retained listed s h none =
    let gone = nowhere net id s none in
    let less = without_value id listed in
    same_rows opened retained (listed_rows less new) (listed_rows listed net) _ _ _ _
    (rows_are less new ∙ equipment_gone (pairs less) net new id h ∙ levels_others id less listed (levels net) (without_agrees id listed) (none_found id (all_placed (levels net)) gone) ∙ sym (rows_are listed net))
    (removed_total is_load net new id listed None s h gone ∙ plus_nothing _) (removed_total is_generation net new id listed None s h gone ∙ plus_nothing _)

load_only : (s : Stand) → is_load s ≡ true → is_generation s ≡ false
unfolding is_load is_load_item is_generation is_generation_item
load_only Busbar h = refl
load_only (Feeder (Generator target_p target_v min_p max_p)) h = absurd (false≢true h)
load_only (Feeder (Battery target_p target_q min_p max_p)) h = absurd (false≢true h)
load_only (Feeder other) h = refl
load_only BranchEnd h = refl

-- what is counted is taken from the sum that it is part of
record Takes (stand : Stand) (counts : Counted) : Type 0 where
  watts : counts.watts ≡ stand_watts stand
  load : (w : ℤ) → (sums.taken counts.sum w).load ≡ neg_ℤ (share is_load stand w)
  generation : (w : ℤ) → (sums.taken counts.sum w).generation ≡ neg_ℤ (share is_generation stand w)

takes : (stand : Stand) (counts : Counted) → counted stand ≡ Some counts → Takes stand counts
unfolding counted share
takes stand counts h = by (is_load stand) (is_generation stand) refl refl h
  where
    by : (l g : Bool) → is_load stand ≡ l → is_generation stand ≡ g
        → ◌≡◌ {A = Option Counted} (cond l (Some (record { sum = of_sum.Load; watts = stand_watts stand })) (cond g (Some (record { sum = of_sum.Generation; watts = stand_watts stand })) None)) (Some counts) → Takes stand counts
    by true g e f h =
        let same : ◌≡◌ {A = Counted} (record { sum = of_sum.Load; watts = stand_watts stand }) counts = cc in
        let none : is_generation stand ≡ false = load_only stand e in
        record {
          watts = ap (λ (c : Counted). c.watts) (sym same);
          load = λ w. ap (λ (c : Counted). (sums.taken c.sum w).load) (sym same) ∙ ap (λ t. neg_ℤ (cond t w (pos 0))) (sym e);
          generation = λ w. ap (λ (c : Counted). (sums.taken c.sum w).generation) (sym same) ∙ ap (λ t. neg_ℤ (cond t w (pos 0))) (sym none);
        }
    by false true e f h =
        let same : ◌≡◌ {A = Counted} (record { sum = of_sum.Generation; watts = stand_watts stand }) counts = cc in
        record {
          watts = ap (λ (c : Counted). c.watts) (sym same);
          load = λ w. ap (λ (c : Counted). (sums.taken c.sum w).load) (sym same) ∙ ap (λ t. neg_ℤ (cond t w (pos 0))) (sym e);
          generation = λ w. ap (λ (c : Counted). (sums.taken c.sum w).generation) (sym same) ∙ ap (λ t. neg_ℤ (cond t w (pos 0))) (sym f);
        }
    by false false e f h = cc

pub removals_move : RemovalsMoveRows
unfolding rows.shifted without_terminal without_watts load_total generation_total own_part
removals_move net new id place p counts opened retained listed s h at counting =
    let k = spot net id place p s at in
    let less = without_value id listed in
    let t = takes p.stand counts counting in
    let row = pairs_at (listed_rows listed net) place in
    let watts : unwrap_or (value_at p.node row) counts.watts ≡ watts_at listed p = ap (unwrap_or (value_at p.node row)) t.watts ∙ watts_of net id place p listed k in
    let w = unwrap_or (value_at p.node row) counts.watts in
    same_rows opened retained (listed_rows less new) (without_node (listed_rows listed net) place p.node) _ _ _ _
    (gone_row net id place p listed k new less h (without_agrees id listed))
    (removed_total is_load net new id listed (Some p) s h k.found ∙ ap (λ z. total_over is_load net listed +ℤ z) (sym (t.load w ∙ ap (λ z. neg_ℤ (share is_load p.stand z)) watts)))
    (removed_total is_generation net new id listed (Some p) s h k.found ∙ ap (λ z. total_over is_generation net listed +ℤ z) (sym (t.generation w ∙ ap (λ z. neg_ℤ (share is_generation p.stand z)) watts)))
