-- The views of a variant, some of which are taken over from another one.
use Rattle.std.proofs.Common.{◌≡◌, refl, sym, ap, ◌∙◌, subst, ℕ, zero, suc, ◌+◌, ◌<◌, true, List, [], ◌∷◌, length, map, take, arith, Option, Some, None, Bor}
use Rattle.std.specs.Option.{option_copied}
use Rattle.std.specs.Prelude.{◌-◌, IfSome, slice_get, filter_map, is_some, option_map}
use Rattle.std.specs.List.{cons_option, range_with_len}
use Rattle.std.proofs.lemmas.Bool.{false≢true}
use Rattle.std.proofs.lemmas.Option.{slice_get_within, slice_get-map}
use Rattle.grid_ids.specs.Name.{has_id}
use Rattle.grid_ids.proofs.Alike.{stands}
use Rattle.grid_level.specs.VoltageLevel.{VoltageLevel}
use Rattle.grid_level.specs.Passing.{positioned}
use Rattle.grid_structure.specs.Network.{Network}
use Rattle.grid_structure.specs.Sites.{levels}
use Rattle.grid_states.specs.Rows.{Rows, row_at, pairs_at}
use Rattle.grid_watts.specs.Nodes.{listed_row}
use Rattle.grid_watts.specs.Watts.{level_watts}
use Rattle.grid_busview.specs.declared.BusView.{BusView}
use Rattle.grid_busview.specs.Views.{bus_view_of}
use Rattle.grid_islands.proofs.LevelComponents.{level_exists}
use Rattle.grid_core.specs.Solo.{level_at}
use Rattle.grid_core.specs.History.{History, Command, is_live, live, structure}
use Rattle.grid_core.specs.Replies.{state_of, view}
use Rattle.grid_core.proofs.RequestOutcomes.{view_read}
use Rattle.grid_core.proofs.Lineages.{structure_of_lineage}
use Rattle.grid_core.proofs.VariantViews.{fits_at, row_listed}
use Rattle.grid_report.specs.declared.outcome.VariantView.{VariantView}
use Rattle.grid_report.specs.Histories.{variant_view}
use Rattle.grid_cli.specs.Views.{IsShown, IsStanding, IsAlike}

-- where each number of a range is given something, the k-th thing is what the k-th number is given
given_at : {Y : Type 0} (f : ℕ → Option Y) (a n : ℕ) → ((k : ℕ) → k < a + n → is_some (f k) ≡ true) → (k : ℕ) → k < n → slice_get (filter_map f (range_with_len a n)) k ≡ f (a + k)
given_at f a zero each k lt = absurd (omega (arith, lt))
given_at {Y} f a (suc n) each k lt = by (f a) refl (each a (omega arith)) (given_at f (a + 1) n (λ j high. each j (omega (arith, high)))) k lt
  where
    by : (o : Option Y) → f a ≡ o → is_some o ≡ true → ((j : ℕ) → j < n → slice_get (filter_map f (range_with_len (a + 1) n)) j ≡ f ((a + 1) + j)) → (k : ℕ) → k < suc n
        → slice_get (cons_option o (filter_map f (range_with_len (a + 1) n))) k ≡ f (a + k)
    by None is given rest k lt = absurd (false≢true given)
    by (Some y) is given rest zero lt = let same : a ≡ a + 0 = omega arith in sym is ∙ ap f same
    by (Some y) is given rest (suc j) lt = let same : (a + 1) + j ≡ a + suc j = omega arith in rest j (omega (arith, lt)) ∙ ap f same

taken : {X : Type 0} (xs : List X) (count k : ℕ) (x : X) → slice_get (take count xs) k ≡ Some x → slice_get xs k ≡ Some x
taken xs zero k x is = cc
taken [] (suc count) k x is = cc
taken (y ∷ ys) (suc count) zero x is = is
taken (y ∷ ys) (suc count) (suc k) x is = taken ys count k x is

module _ (origin : Network) (steps : List Command) where
  -- a live variant has the history's levels
  there : (name : List ℕ) (place : ℕ) (level : VoltageLevel) → is_live steps name ≡ true → slice_get (levels (structure origin steps)) place ≡ Some level → level_at (state_of origin steps name).structure place ≡ Some level
  unfolding level_at state_of
  there name place level alive at = ap (λ (n : Network). slice_get (levels n) place) (structure_of_lineage origin steps name alive) ∙ at

  seen : (name : List ℕ) (place : ℕ) → is_live steps name ≡ true → place < length (levels (structure origin steps)) → is_some (view origin steps name place) ≡ true
  seen name place alive lt =
      let found = level_exists (structure origin steps) place lt in
      ap is_some (view_read origin steps name place found.0 (there name place found.0 alive found.1))

-- the view of a level among those of a live variant
pub shown_at : (h : History) (shown : VariantView) (place : ℕ) → IsShown h shown → place < length (levels (structure h.origin h.steps)) → slice_get shown.views place ≡ view h.origin h.steps shown.name place
unfolding variant_view
shown_at h shown place is lt =
    ap (λ (v : VariantView). slice_get v.views place) is.views
    ∙ given_at (view h.origin h.steps shown.name) 0 (length (levels (structure h.origin h.steps))) (λ k below. seen h.origin h.steps shown.name k is.live (omega (arith, below))) place lt
    ∙ ap (view h.origin h.steps shown.name) (let same : 0 + place ≡ place = omega arith in same)

pub shown_within : (h : History) (shown : VariantView) (place : ℕ) → IsShown h shown → place < length (levels (structure h.origin h.steps)) → place < length shown.views
shown_within h shown place is lt =
    let found = level_exists (structure h.origin h.steps) place lt in
    slice_get_within shown.views place _ (shown_at h shown place is lt ∙ view_read h.origin h.steps shown.name place found.0 (there h.origin h.steps shown.name place found.0 is.live found.1))

-- the row of a level
pub row_within : (h : History) (name : List ℕ) (rows : Rows) (place : ℕ) → IsStanding h name rows → place < length (levels (structure h.origin h.steps)) → place < length rows.opened
unfolding level_at
row_within h name rows place is lt =
    let state = state_of h.origin h.steps name in
    let found = level_exists (structure h.origin h.steps) place lt in
    subst (λ (r : Rows). place < length r.opened) (sym is.rows_are)
    (fits_at state.structure state.opened place found.0 is.fits.opened (there h.origin h.steps name place found.0 is.live found.1)).0

-- the watts that are listed for a level
pub pairs_standing : (h : History) (name : List ℕ) (rows : Rows) (place : ℕ) (level : VoltageLevel) → IsStanding h name rows → slice_get (levels (structure h.origin h.steps)) place ≡ Some level
    → pairs_at rows.watts place ≡ listed_row (state_of h.origin h.steps name).powers level
unfolding level_at
pairs_standing h name rows place level is at =
    let state = state_of h.origin h.steps name in
    ap (λ (r : Rows). pairs_at r.watts place) is.rows_are ∙ row_listed state.structure state.powers place level (there h.origin h.steps name place level is.live at)

-- a level that is alike in an earlier variant has that one's view
pub taken_over : (h : History) (name : List ℕ) (rows : Rows) (shown : VariantView) (others : Rows) (place : ℕ) (level : VoltageLevel) (seen : BusView) → IsStanding h name rows → IsStanding h shown.name others → IsShown h shown
    → place < length (levels (structure h.origin h.steps)) → slice_get (levels (structure h.origin h.steps)) place ≡ Some level
    → IsAlike rows.opened (state_of h.origin h.steps name).powers others.opened (state_of h.origin h.steps shown.name).powers place level → slice_get shown.views place ≡ Some seen → view h.origin h.steps name place ≡ Some seen
taken_over h name rows shown others place level seen own other is lt at alike here =
    let state = state_of h.origin h.steps name in
    let other_state = state_of h.origin h.steps shown.name in
    view_read h.origin h.steps name place level (there h.origin h.steps name place level own.live at)
    ∙ ap (λ (r : Rows). Some (bus_view_of (positioned level (row_at r.opened place)) (level_watts state.powers level))) (sym own.rows_are)
    ∙ ap (λ row. Some (bus_view_of (positioned level row) (level_watts state.powers level))) alike.positions
    ∙ ap (λ w. Some (bus_view_of (positioned level (row_at others.opened place)) w)) alike.watts
    ∙ ap (λ (r : Rows). Some (bus_view_of (positioned level (row_at r.opened place)) (level_watts other_state.powers level))) other.rows_are
    ∙ sym (view_read h.origin h.steps shown.name place level (there h.origin h.steps shown.name place level other.live at))
    ∙ sym (shown_at h shown place is lt) ∙ here

-- the variants that are shown so far are live
pub shown_so_far : (h : History) (so_far : List VariantView) (count place : ℕ) (shown : VariantView) → so_far ≡ map (variant_view h.origin h.steps) (take count (live h.steps)) → slice_get so_far place ≡ Some shown → IsShown h shown
unfolding variant_view is_live
shown_so_far h so_far count place shown is at =
    by (slice_get (take count (live h.steps)) place) refl (sym (slice_get-map (variant_view h.origin h.steps) (take count (live h.steps)) place) ∙ ap (λ vs. slice_get vs place) (sym is) ∙ at)
  where
    named : (name : List ℕ) → (variant_view h.origin h.steps name).name ≡ name
    named name = refl

    by : (o : Option (List ℕ)) → slice_get (take count (live h.steps)) place ≡ o → option_map (variant_view h.origin h.steps) o ≡ Some shown → IsShown h shown
    by None at is = cc
    by (Some name) at is =
        let same : variant_view h.origin h.steps name ≡ shown = cc in
        let own : shown.name ≡ name = ap (λ (v : VariantView). v.name) (sym same) ∙ named name in
        record {
          live = ap (λ n. has_id (live h.steps) n) own ∙ stands (live h.steps) place name (taken (live h.steps) count place name at);
          views = sym same ∙ ap (variant_view h.origin h.steps) (sym own);
        }

pub last_shown : (h : History) (so_far : List VariantView) (count : ℕ) (last : Option (Bor VariantView)) → so_far ≡ map (variant_view h.origin h.steps) (take count (live h.steps)) → option_copied last ≡ slice_get so_far (length so_far - 1)
    → IfSome last (λ view. IsShown h view.now)
last_shown h so_far count None is e = tt
last_shown h so_far count (Some view) is e = shown_so_far h so_far count (length so_far - 1) view.now is (sym e)
