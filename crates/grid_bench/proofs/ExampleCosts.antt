-- What a change of one switch of a worked level costs.
use Rattle.std.proofs.Common.{◌≡◌, refl, sym, ap, ◌∙◌, ℕ, ◌*◌, ◌≤◌, ◌&&◌, not, cond, Bool, List, [], ◌∷◌, length, arith}
use Rattle.std.specs.Bool.{beq}
use Rattle.std.specs.List.{sum_by}
use Rattle.std.proofs.lemmas.List.{length-map}
use Rattle.std.proofs.lemmas.List.Sums.{sum_by-cons, count_by-le-length}
use Rattle.std.specs.Prelude.{map}
use Rattle.grid_graph.specs.Components.{places}
use Rattle.grid_graph.proofs.Counts.{long_places}
use Rattle.grid_level.specs.VoltageLevel.{VoltageLevel}
use Rattle.grid_level.specs.Passing.{nodes}
use Rattle.grid_bench.specs.Contents.{Content, content}
use Rattle.grid_bench.specs.Costs.{change_cost, content_midway, flag_at, differs_at, place_cost, changes_cost, count_changes, most_followed}
use Rattle.grid_bench.proofs.VisitBounds.{place_le}
use Rattle.grid_bench.proofs.FlagUpdates.{beq_refl}

-- ---- what a change touches

unchanged : (old new : Content) (place : ℕ) → flag_at old.opened place ≡ flag_at new.opened place → flag_at old.retained place ≡ flag_at new.retained place → place_cost old new place ≡ 0
unfolding place_cost differs_at
unchanged old new place e f =
    let was = content_midway old new place in
    let cost = change_cost was place (flag_at new.opened place) (flag_at new.retained place) in
    ap (λ z. cond (not (z && beq (flag_at old.retained place) (flag_at new.retained place))) cost 0) (ap (beq (flag_at old.opened place)) (sym e) ∙ beq_refl (flag_at old.opened place))
    ∙ ap (λ z. cond (not z) cost 0) (ap (beq (flag_at old.retained place)) (sym f) ∙ beq_refl (flag_at old.retained place))

-- where the fourth of five switches alone changes, each node is visited twice at most
pub fourth_costs : (level : VoltageLevel) (retained : List Bool) (a b c d e n : Bool) → length level.switches ≡ 5
    → changes_cost (content level (a ∷ b ∷ c ∷ d ∷ e ∷ []) retained) (content level (a ∷ b ∷ c ∷ n ∷ e ∷ []) retained) ≤ 2 * length (nodes level)
unfolding changes_cost places
fourth_costs level retained a b c d e n five =
    let old = content level (a ∷ b ∷ c ∷ d ∷ e ∷ []) retained in
    let new = content level (a ∷ b ∷ c ∷ n ∷ e ∷ []) retained in
    let f = place_cost old new in
    let all : sum_by f (places (length level.switches)) ≡ sum_by f (0 ∷ 1 ∷ 2 ∷ 3 ∷ 4 ∷ []) = ap (λ z. sum_by f (places z)) five in
    omega (
      arith,
      all,
      sum_by-cons f 0 (1 ∷ 2 ∷ 3 ∷ 4 ∷ []),
      sum_by-cons f 1 (2 ∷ 3 ∷ 4 ∷ []),
      sum_by-cons f 2 (3 ∷ 4 ∷ []),
      sum_by-cons f 3 (4 ∷ []),
      sum_by-cons f 4 [],
      unchanged old new 0 refl refl,
      unchanged old new 1 refl refl,
      unchanged old new 2 refl refl,
      unchanged old new 4 refl refl,
      place_le old new 3,
    )

-- flags of few switches differ at few places
pub few_changes : (old new : Content) → length old.level.switches ≤ most_followed → count_changes old new ≤ most_followed
unfolding count_changes
few_changes old new few =
    let own : ℕ → ℕ = λ x. x in
    let all = places (length old.level.switches) in
    omega (arith, few, count_by-le-length (differs_at old new) all, long_places (length old.level.switches) own (map own all) refl, length-map all own)
