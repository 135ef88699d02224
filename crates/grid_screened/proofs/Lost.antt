-- The watts of what stands in a bus of some levels, and in none of what an outage leaves of them.
use Rattle.std.proofs.Common.{◌≡◌, refl, sym, ap, ◌∙◌, subst, ℕ, ◌+◌, ℤ, pos, Bool, true, false, cond, not, ◌&&◌, List, [], ◌∷◌, map, length, get_or, arith}
use Rattle.std.specs.Prelude.{◌+ℤ◌, neg_ℤ, filter, flat_map, slice_get, Some}
use Rattle.std.specs.List.{enumerate_from, list_any}
use Rattle.std.proofs.lemmas.Bool.{and_parts, and_from, false≢true}
use Rattle.std.proofs.lemmas.Int.{ints}
use Rattle.grid_lemmas.proofs.Bools.{same_test}
use Rattle.grid_lemmas.proofs.Lists.{map_got}
use Rattle.grid_ids.specs.Name.{has_id}
use Rattle.grid_level.specs.declared.Placed.{Placed}
use Rattle.grid_level.specs.declared.Stand.{Stand}
use Rattle.grid_level.specs.VoltageLevel.{VoltageLevel}
use Rattle.grid_level.specs.Passing.{positioned, is_branch_end}
use Rattle.grid_powers.specs.Listed.{Listed}
use Rattle.grid_states.specs.Rows.{row_at}
use Rattle.grid_structure.specs.Network.{Network}
use Rattle.grid_structure.specs.Sites.{levels}
use Rattle.grid_structure.specs.Soundness.{IsSound}
use Rattle.grid_busview.specs.declared.ViewBus.{ViewBus}
use Rattle.grid_busview.specs.Views.{bus_view_of}
use Rattle.grid_watts.specs.Watts.{watts_at, level_watts, watts_sum, terminals}
use Rattle.grid_islands.specs.Islands.{NetworkBus}
use Rattle.grid_screen.specs.Figures.{total_over}
use Rattle.grid_sums.specs.Sums.{buses_under}
use Rattle.grid_outages.specs.Changes.{level_without, buses_over}
use Rattle.grid_screened.proofs.Alone.{one_place, one_node}
use Rattle.grid_screened.proofs.BusNodes.{IsLeft, in_bus, was_in_bus}
use Rattle.grid_screened.proofs.InBuses.{has_equipment, held, holding, level_by_level}
use Rattle.grid_screened.proofs.Lesser.{left_of_level}
use Rattle.grid_outages.proofs.Members.{Among, among_filter, filter_among, enumerate_among}
use Rattle.grid_screen.proofs.WalkResults.{map_back}
use Rattle.grid_screened.proofs.ListSums.{sum_of, passing_only, sum-filter, sum-flat, sum-less}

-- ---- sums by places

mapped_places : {X Y : Type 0} (f : X → Y) (g : ℕ × Y → ℤ) (low : ℕ) (xs : List X) → sum_of g (enumerate_from low (map f xs)) ≡ sum_of (λ (at : ℕ × X). g (at.0, f at.1)) (enumerate_from low xs)
mapped_places f g low [] = refl
mapped_places f g low (x ∷ xs) = ap (λ z. g (low, f x) +ℤ z) (mapped_places f g (low + 1) xs)

without_places : {X : Type 0} (g : X → ℤ) (low : ℕ) (xs : List X) → sum_of (λ (at : ℕ × X). g at.1) (enumerate_from low xs) ≡ sum_of g xs
without_places g low [] = refl
without_places g low (x ∷ xs) = ap (λ z. g x +ℤ z) (without_places g (low + 1) xs)

listed_sum : (listed : Listed) (ps : List Placed) → watts_sum listed ps ≡ sum_of (watts_at listed) ps
unfolding watts_sum
listed_sum listed [] = refl
listed_sum listed (p ∷ ps) = ap (λ z. watts_at listed p +ℤ z) (listed_sum listed ps)

-- ---- what an outage leaves

module _ (net : Network) (listed : Listed) (rows now : List (List Bool)) (removed : List (List ℕ)) (sound : IsSound net)
    (fits : (k : ℕ) (l : VoltageLevel) → slice_get (levels net) k ≡ Some l → length (row_at rows k) ≡ length l.switches)
    (still_fits : (k : ℕ) (l : VoltageLevel) → slice_get (levels net) k ≡ Some l → length (row_at now k) ≡ length l.switches)
    (stays : (k j : ℕ) → get_or (row_at rows k) j false ≡ true → get_or (row_at now k) j false ≡ true) where
  abbrev keep : Placed → Bool
  keep p = not (has_id removed p.terminal.equipment)

  abbrev left : List VoltageLevel
  left = map (level_without removed) (levels net)

  abbrev stood : List ℕ → Bool
  stood id = list_any (λ (b : NetworkBus). has_equipment id b.1) (buses_over listed (levels net) rows)

  abbrev stands : List ℕ → Bool
  stands id = list_any (λ (b : NetworkBus). has_equipment id b.1) (buses_over listed (map (level_without removed) (levels net)) now)

  abbrev was_in : ℕ → VoltageLevel → Placed → Bool
  was_in k l p = in_bus (positioned l (row_at rows k)) p.node

  abbrev is_in : ℕ → VoltageLevel → Placed → Bool
  is_in k l p = in_bus (positioned (level_without removed l) (row_at now k)) p.node

  lesser : (k : ℕ) (l : VoltageLevel) → slice_get (levels net) k ≡ Some l → IsLeft (positioned l (row_at rows k)) (positioned (level_without removed l) (row_at now k))
  lesser k l at = left_of_level removed l (row_at rows k) (row_at now k) (fits k l at) (still_fits k l at) (stays k)

  was_there : (k : ℕ) (l : VoltageLevel) (p : Placed) → slice_get (levels net) k ≡ Some l → is_in k l p ≡ true → was_in k l p ≡ true
  was_there k l p at h = was_in_bus (positioned l (row_at rows k)) (positioned (level_without removed l) (row_at now k)) (lesser k l at) p.node h

  -- what stands in a bus after, by the level that was there
  record StillHolds (id : List ℕ) : Type 0 where
    place : ℕ
    level : VoltageLevel
    at : slice_get (levels net) place ≡ Some level
    item : Placed
    stands_there : Among item level.placed
    kept : keep item ≡ true
    own : item.terminal.equipment ≡ id
    here : is_in place level item ≡ true

  still_held : (id : List ℕ) → stands id ≡ true → StillHolds id
  unfolding level_without
  still_held id h =
      let r = held listed left now id h in
      let l = map_back (level_without removed) (levels net) r.place r.level r.at in
      let both = filter_among keep r.item l.0.placed (subst (λ (z : VoltageLevel). Among r.item z.placed) (sym l.2) r.stands) in
      record {
        place = r.place;
        level = l.0;
        at = l.1;
        item = r.item;
        stands_there = both.0;
        kept = both.1;
        own = r.own;
        here = ap (λ (z : VoltageLevel). in_bus (positioned z (row_at now r.place)) r.item.node) l.2 ∙ r.here;
      }

  -- what stands in a bus stood in one
  pub none_new : (id : List ℕ) → stands id ≡ true → stood id ≡ true
  none_new id h =
      let r = still_held id h in
      holding listed (levels net) rows id (record {
        place = r.place;
        level = r.level;
        at = r.at;
        item = r.item;
        stands = r.stands_there;
        own = r.own;
        here = was_there r.place r.level r.item r.at r.here;
      })

  -- an equipment of one terminal stands in a bus where that terminal does
  module _ (k : ℕ) (l : VoltageLevel) (p : Placed) (at : slice_get (levels net) k ≡ Some l) (i : Among p l.placed) (alone : is_branch_end p.stand ≡ false) where
    same_level : (j : ℕ) (m : VoltageLevel) → slice_get (levels net) j ≡ Some m → k ≡ j → m ≡ l
    same_level j m there e = let both : ◌≡◌ (Some m) (Some l) = sym there ∙ ap (slice_get (levels net)) (sym e) ∙ at in cc

    stood_is : stood p.terminal.equipment ≡ was_in k l p
    stood_is = same_test (stood p.terminal.equipment) (was_in k l p)
        (λ h. let r = held listed (levels net) rows p.terminal.equipment h in
        let place = one_place net k r.place l r.level p r.item sound at r.at i r.stands r.own alone in
        let node = one_node net k r.place l r.level p r.item sound at r.at i r.stands r.own alone in
        ap (λ (z : ℕ). in_bus (positioned l (row_at rows z)) p.node) place ∙ ap (λ (z : VoltageLevel). in_bus (positioned z (row_at rows r.place)) p.node) (sym (same_level r.place r.level r.at place)) ∙ ap (in_bus (positioned r.level (row_at rows r.place))) node ∙ r.here)
        (λ h. holding listed (levels net) rows p.terminal.equipment (record { place = k; level = l; at = at; item = p; stands = i; own = refl; here = h }))

    stands_is : stands p.terminal.equipment ≡ keep p && is_in k l p
    unfolding level_without
    stands_is = same_test (stands p.terminal.equipment) (keep p && is_in k l p)
        (λ h. let r = still_held p.terminal.equipment h in
        let place = one_place net k r.place l r.level p r.item sound at r.at i r.stands_there r.own alone in
        let node = one_node net k r.place l r.level p r.item sound at r.at i r.stands_there r.own alone in
        let inside = ap (λ (z : ℕ). in_bus (positioned (level_without removed l) (row_at now z)) p.node) place ∙ ap (λ (z : VoltageLevel). in_bus (positioned (level_without removed z) (row_at now r.place)) p.node) (sym (same_level r.place r.level r.at place)) ∙ ap (in_bus (positioned (level_without removed r.level) (row_at now r.place))) node ∙ r.here in
        and_from (keep p) (is_in k l p) (ap (λ (z : List ℕ). not (has_id removed z)) (sym r.own) ∙ r.kept) inside)
        (λ h. let both = and_parts (keep p) (is_in k l p) h in
        holding listed left now p.terminal.equipment (record { place = k; level = level_without removed l; at = map_got (level_without removed) (levels net) k l at; item = p; stands = among_filter keep p l.placed i both.0; own = refl; here = both.1 }))

  -- ---- the difference of the sums

  module _ (watts : ViewBus → ℤ) (test : Stand → Bool)
      (sums : (level : VoltageLevel) (w : Placed → ℤ) → sum_of watts (bus_view_of level (map w level.placed)).buses ≡ sum_of (passing_only (λ p. test p.stand) (passing_only (λ p. in_bus level p.node) w)) level.placed)
      (alone : (s : Stand) → test s ≡ true → is_branch_end s ≡ false) where
    abbrev is_lost : Placed → Bool
    is_lost p = test p.stand && (stood p.terminal.equipment && not (stands p.terminal.equipment))

    abbrev w : Placed → ℤ
    w = watts_at listed

    abbrev first : ℕ → VoltageLevel → Placed → ℤ
    first k l = passing_only (λ (p : Placed). test p.stand) (passing_only (was_in k l) w)

    abbrev second : ℕ → VoltageLevel → Placed → ℤ
    second k l = passing_only keep (passing_only (λ (p : Placed). test p.stand) (passing_only (is_in k l) w))

    first_sum : (k : ℕ) (l : VoltageLevel) → sum_of watts (buses_under listed l (row_at rows k)) ≡ sum_of (first k l) l.placed
    unfolding buses_under level_watts positioned
    first_sum k l = sums (positioned l (row_at rows k)) w

    second_sum : (k : ℕ) (l : VoltageLevel) → sum_of watts (buses_under listed (level_without removed l) (row_at now k)) ≡ sum_of (second k l) l.placed
    unfolding buses_under level_watts positioned level_without
    second_sum k l = sums (positioned (level_without removed l) (row_at now k)) w ∙ sum-filter keep (passing_only (λ (p : Placed). test p.stand) (passing_only (is_in k l) w)) l.placed

    one_lost : (k : ℕ) (l : VoltageLevel) (p : Placed) → slice_get (levels net) k ≡ Some l → Among p l.placed → first k l p +ℤ neg_ℤ (second k l p) ≡ passing_only is_lost w p
    one_lost k l p at i = by (test p.stand) refl
      where
        of_three : (a b c : Bool) → (c ≡ true → a ≡ true) → cond a (w p) (pos 0) +ℤ neg_ℤ (cond b (cond c (w p) (pos 0)) (pos 0)) ≡ cond (a && not (b && c)) (w p) (pos 0)
        of_three true true true h = omega (arith, ints)
        of_three true true false h = omega (arith, ints)
        of_three true false c h = omega (arith, ints)
        of_three false true true h = absurd (false≢true (h refl))
        of_three false true false h = omega (arith, ints)
        of_three false false c h = omega (arith, ints)

        by : (t : Bool) → test p.stand ≡ t
            → cond t (cond (was_in k l p) (w p) (pos 0)) (pos 0) +ℤ neg_ℤ (cond (keep p) (cond t (cond (is_in k l p) (w p) (pos 0)) (pos 0)) (pos 0)) ≡ cond (t && (stood p.terminal.equipment && not (stands p.terminal.equipment))) (w p) (pos 0)
        by true e =
            of_three (was_in k l p) (keep p) (is_in k l p) (was_there k l p at)
            ∙ ap (λ (z : Bool). cond (z && not (keep p && is_in k l p)) (w p) (pos 0)) (sym (stood_is k l p at i (alone p.stand e)))
            ∙ ap (λ (z : Bool). cond (stood p.terminal.equipment && not z) (w p) (pos 0)) (sym (stands_is k l p at i (alone p.stand e)))
        by false e = none (keep p)
          where
            none : (t : Bool) → pos 0 +ℤ neg_ℤ (cond t (pos 0) (pos 0)) ≡ pos 0
            none true = omega (arith, ints)
            none false = omega (arith, ints)

    pub difference : total_over watts (buses_over listed (levels net) rows) +ℤ neg_ℤ (total_over watts (buses_over listed (map (level_without removed) (levels net)) now)) ≡ watts_sum listed (filter is_lost (terminals net))
    unfolding terminals
    difference =
        let ls = levels net in
        let a = λ (at : ℕ × VoltageLevel). sum_of watts (buses_under listed at.1 (row_at rows at.0)) in
        let b = λ (at : ℕ × VoltageLevel). sum_of watts (buses_under listed (level_without removed at.1) (row_at now at.0)) in
        let whole = level_by_level listed ls rows watts in
        let rest = level_by_level listed left now watts ∙ mapped_places (level_without removed) (λ (at : ℕ × VoltageLevel). sum_of watts (buses_under listed at.1 (row_at now at.0))) 0 ls in
        let lost = λ (l : VoltageLevel). sum_of (passing_only is_lost w) l.placed in
        let each = λ (at : ℕ × VoltageLevel) (i : Among at (enumerate_from 0 ls)).
        (let place = enumerate_among ls 0 at i in
        let same : at.0 ≡ place.0 = omega (arith, place.1) in
        let there = ap (slice_get ls) same ∙ place.2 in
        ap (λ z. z +ℤ neg_ℤ (b at)) (first_sum at.0 at.1) ∙ ap (λ z. sum_of (first at.0 at.1) at.1.placed +ℤ neg_ℤ z) (second_sum at.0 at.1)
        ∙ sum-less (first at.0 at.1) (second at.0 at.1) (passing_only is_lost w) at.1.placed (λ p j. one_lost at.0 at.1 p there j)) in
        ap (λ z. z +ℤ neg_ℤ (total_over watts (buses_over listed left now))) whole ∙ ap (λ z. sum_of a (enumerate_from 0 ls) +ℤ neg_ℤ z) rest
        ∙ sum-less a b (λ (at : ℕ × VoltageLevel). lost at.1) (enumerate_from 0 ls) each ∙ without_places lost 0 ls
        ∙ sym (listed_sum listed (filter is_lost (flat_map (λ (l : VoltageLevel). l.placed) ls)) ∙ sum-filter is_lost w (flat_map (λ (l : VoltageLevel). l.placed) ls) ∙ sum-flat (passing_only is_lost w) (λ (l : VoltageLevel). l.placed) ls)
