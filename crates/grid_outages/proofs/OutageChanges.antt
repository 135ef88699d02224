-- What a switch that is opened and terminals that are taken out make of what the changes show.
use Rattle.std.proofs.Common.{◌≡◌, refl, sym, ap, ◌∙◌, subst, ℕ, ◌+◌, ◌<◌, Bool, true, List, [], ◌∷◌, ◌++◌, take, length, get_or, Option, Some, None}
use Rattle.std.specs.Prelude.{slice_get, slice_set, fold}
use Rattle.std.proofs.lemmas.List.{take_more}
use Rattle.std.proofs.lemmas.List.Sums.{fold-append}
use Rattle.std.specs.Option.{option_map}
use Rattle.grid_lemmas.proofs.Lists.{set_same, some_got}
use Rattle.grid_ids.specs.Name.{same_id}
use Rattle.grid_level.specs.declared.Switch.{Switch}
use Rattle.grid_level.specs.VoltageLevel.{VoltageLevel}
use Rattle.grid_level.specs.LevelEdits.{level_without_equipment}
use Rattle.grid_states.specs.Rows.{row_at, with_row, with_flag}
use Rattle.grid_structure.specs.declared.Site.{Site}
use Rattle.grid_structure.specs.Network.{Network}
use Rattle.grid_structure.specs.Sites.{levels, site, find_switch, terminal_spot}
use Rattle.grid_structure.specs.Clearing.{cleared, cleared_at}
use Rattle.grid_structure.specs.Indexed.{level_of_switch, level_of_terminal}
use Rattle.grid_structure.proofs.TerminalRemovals.{cleared_is}
use Rattle.grid_structure.proofs.Found.{switch_nowhere, switch_somewhere, switch_below, switch_test, terminal_nowhere, terminal_somewhere, terminal_below, terminal_test}
use Rattle.grid_structure.proofs.Places.{length-slice_set, position_found, set_itself}
use Rattle.grid_outages.specs.Changes.{Changes, change_at, shown_levels}
use Rattle.grid_outages.specs.Steps.{IsPut, Shows, ShowsSo, cleared_side, levels_with_out, rows_with_out, taken_out}
use Rattle.grid_outages.proofs.ShownLevels.{put_shows, levels_unchanged, rows_unchanged}

-- ---- sites

abbrev pair : ℕ → ℕ → ℕ × ℕ
pair a b = (a, b)

first_is : (k j : ℕ) (n : ℕ) (o : Option ℕ) → option_map (pair j) o ≡ Some (pair k n) → j ≡ k
first_is k j n (Some y) e = let same : pair j y ≡ pair k n = cc in ap (λ (z : ℕ × ℕ). z.0) same
first_is k j n None e = cc

second_is : (k j : ℕ) (n : ℕ) (o : Option ℕ) → option_map (pair j) o ≡ Some (pair k n) → o ≡ Some n
second_is k j n (Some y) e = let same : pair j y ≡ pair k n = cc in ap (λ (z : ℕ × ℕ). Some z.1) same
second_is k j n None e = cc

pub no_site : (o : Option (ℕ × ℕ)) → None ≡ option_map terminal_spot o → o ≡ None
no_site (Some spot) e = cc
no_site None e = refl

pub at_site : (o : Option (ℕ × ℕ)) (at : Site) → Some at ≡ option_map terminal_spot o → o ≡ Some (at.level, at.node)
at_site (Some spot) at e = let is : at ≡ terminal_spot spot = cc in ap (λ (a : Site). Some (a.level, a.node)) (sym is)
at_site None at e = cc

-- the level of a site is there
pub site_inside : (net : Network) (id : List ℕ) (side k n : ℕ) → site net id side ≡ Some (k, n) → k < length (levels net)
site_inside net id side k n e = by (level_of_terminal net id side) refl
  where
    by : (o : Option ℕ) → level_of_terminal net id side ≡ o → k < length (levels net)
    by None q = let none : ◌≡◌ {A = Option (ℕ × ℕ)} None (Some (k, n)) = sym (terminal_nowhere net id side q) ∙ e in cc
    by (Some j) q =
        let lt = terminal_below net id side j q in
        let l = some_got (levels net) j lt in
        let same : j ≡ k = first_is k j n (terminal_test id side l.0) (sym (terminal_somewhere net id side j l.0 q l.1) ∙ e) in
        subst (λ z. z < length (levels net)) same lt

-- a switch that is found is one of its level's
pub record SwitchIn (net : Network) (k p : ℕ) : Type 0 where
  pub level : VoltageLevel
  pub at : slice_get (levels net) k ≡ Some level
  pub inside : p < length level.switches

pub switch_in : (net : Network) (id : List ℕ) (k p : ℕ) → find_switch net id ≡ Some (k, p) → SwitchIn net k p
switch_in net id k p e = by (level_of_switch net id) refl
  where
    by : (o : Option ℕ) → level_of_switch net id ≡ o → SwitchIn net k p
    by None q = let none : ◌≡◌ {A = Option (ℕ × ℕ)} None (Some (k, p)) = sym (switch_nowhere net id q) ∙ e in cc
    by (Some j) q =
        let l = some_got (levels net) j (switch_below net id j q) in
        let whole = sym (switch_somewhere net id j l.0 q l.1) ∙ e in
        let same : j ≡ k = first_is k j p (switch_test id l.0) whole in
        record { level = l.0; at = ap (slice_get (levels net)) (sym same) ∙ l.1; inside = (position_found (λ (s : Switch). same_id id s.id) l.0.switches p (second_is k j p (switch_test id l.0) whole)).0 }

-- ---- what changes show

module _ (before : List VoltageLevel) (flags : List (List Bool)) (old new : Changes) (ls : List VoltageLevel) (rows : List (List Bool)) (s : Shows before flags old ls rows) (k : ℕ) (lt : k < length before) (standing : VoltageLevel) (at : slice_get ls k ≡ Some standing) where
  first : (l : VoltageLevel) × (slice_get before k ≡ Some l)
  first = some_got before k lt

  stay : standing.switches ≡ first.0.switches
  unfolding first
  stay = s.switches_stay k first.0 standing first.1 at

  pub flags_as_many : length (row_at rows k) ≡ length standing.switches
  unfolding first
  flags_as_many = s.flags_fit k first.0 first.1 ∙ ap length (sym stay)

  pub opened_shows : (row : List Bool) (p : ℕ) → row ≡ row_at rows k → IsPut k standing (slice_set row p true) old new → Shows before flags new ls (with_flag rows k p true)
  unfolding first with_flag with_row
  opened_shows row p e put =
      let same : slice_set ls k standing ≡ ls = set_itself ls k standing standing at refl in
      let one = put_shows before flags old new ls rows k first.0 standing (slice_set row p true) s put first.1 stay (length-slice_set row p true ∙ ap length e ∙ s.flags_fit k first.0 first.1) in
      subst (λ z. Shows before flags new ls (slice_set rows k (slice_set z p true))) e (subst (λ z. Shows before flags new z (slice_set rows k (slice_set row p true))) same one)

  pub cleared_shows : (id : List ℕ) (row : List Bool) → row ≡ row_at rows k → IsPut k (level_without_equipment id standing) row old new → Shows before flags new (cleared_at id k ls) rows
  unfolding first row_at level_without_equipment
  cleared_shows id row e put =
      let one = put_shows before flags old new ls rows k first.0 (level_without_equipment id standing) row s put first.1 stay (ap length e ∙ s.flags_fit k first.0 first.1) in
      let now : slice_set ls k (level_without_equipment id standing) ≡ cleared_at id k ls = cleared_is id k ls standing at in
      subst (λ z. Shows before flags new (cleared_at id k ls) z) (set_same rows k row e) (subst (λ z. Shows before flags new z (slice_set rows k row)) now one)

-- where no side stands
pub none_cleared : (net : Network) (id : List ℕ) (side : ℕ) (ls : List VoltageLevel) → site net id side ≡ None → cleared_side net id side ls ≡ ls
unfolding cleared_side
none_cleared net id side ls e = ap (λ z. cleared id (option_map (λ (spot : ℕ × ℕ). spot.0) z) ls) e

pub side_cleared : (net : Network) (id : List ℕ) (side k n : ℕ) (ls : List VoltageLevel) → site net id side ≡ Some (k, n) → cleared_side net id side ls ≡ cleared_at id k ls
unfolding cleared_side
side_cleared net id side k n ls e = ap (λ z. cleared id (option_map (λ (spot : ℕ × ℕ). spot.0) z) ls) e

-- ---- an id more

pub switch_out : (net : Network) (id : List ℕ) (k p : ℕ) (ls : List VoltageLevel) (rows : List (List Bool)) → find_switch net id ≡ Some (k, p) → (levels_with_out net ls id ≡ ls) × (rows_with_out net rows id ≡ with_flag rows k p true)
unfolding levels_with_out rows_with_out
switch_out net id k p ls rows e = (rw e refl, rw e refl)

pub equipment_out : (net : Network) (id : List ℕ) (ls : List VoltageLevel) (rows : List (List Bool)) → find_switch net id ≡ None → (levels_with_out net ls id ≡ taken_out net id ls) × (rows_with_out net rows id ≡ rows)
unfolding levels_with_out rows_with_out
equipment_out net id ls rows e = (rw e refl, rw e refl)

-- it is shown so
pub shown_so : (before : List VoltageLevel) (flags : List (List Bool)) (changes : Changes) (ls : List VoltageLevel) (rows : List (List Bool)) → Shows before flags changes ls rows → ShowsSo before flags changes
shown_so before flags changes ls rows s =
    subst (λ z. Shows before flags changes (shown_levels changes before) z) (sym s.rows_are) (subst (λ z. Shows before flags changes z rows) (sym s.levels_are) s)

-- what is shown then, told of the same levels and rows by other words
pub shows_as : (before : List VoltageLevel) (flags : List (List Bool)) (changes : Changes) (ls ms : List VoltageLevel) (rows others : List (List Bool)) → Shows before flags changes ls rows → ls ≡ ms → rows ≡ others → Shows before flags changes ms others
shows_as before flags changes ls ms rows others s e f = subst (λ z. Shows before flags changes ms z) f (subst (λ z. Shows before flags changes z rows) e s)

-- nothing is changed at first
pub none_shows : (before : List VoltageLevel) (flags : List (List Bool)) (changes : Changes) → length changes ≡ length before → length flags ≡ length before → ((k : ℕ) → change_at changes k ≡ None)
    → ((k : ℕ) (l : VoltageLevel) → slice_get before k ≡ Some l → length (row_at flags k) ≡ length l.switches) → Shows before flags changes before flags
none_shows before flags changes long rows none fit = record {
  long = long;
  rows_long = rows;
  levels_are = levels_unchanged changes before long none;
  rows_are = rows_unchanged changes flags (long ∙ sym rows) none;
  switches_stay = λ k l m e f. (let same : l ≡ m = cc in ap (λ z. z.switches) (sym same));
  flags_fit = fit;
}

-- one id more of a list
pub all_more : {S : Type 0} (step : S → List ℕ → S) (first : S) (ids : List (List ℕ)) (i : ℕ) (id : List ℕ) → i < length ids → id ≡ get_or ids i id → step (fold step first (take i ids)) id ≡ fold step first (take (i + 1) ids)
all_more step first ids i id lt at = sym (ap (fold step first) (take_more ids i id lt ∙ ap (λ z. take i ids ++ z ∷ []) (sym at)) ∙ fold-append step first (take i ids) (id ∷ []))
