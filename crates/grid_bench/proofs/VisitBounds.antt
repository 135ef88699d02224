-- The bounds on visits, where what was kept of a level follows to another content.
use Rattle.std.proofs.Common.{◌≡◌, ◌≢◌, ◌↔◌, IsTrue, refl, sym, ap, ◌∙◌, subst, ℕ, ◌+◌, ◌*◌, ◌<◌, ◌≤◌, ◌||◌, Bool, true, false, cond, List, [], ◌∷◌, zero, suc, Option, Some, None, length, get_or, arith}
use Rattle.std.specs.List.{sum_by}
use Rattle.std.proofs.lemmas.Bool.{false≢true}
use Rattle.std.proofs.lemmas.List.Sums.{count_by-le-length, sum_by-cons, length-filter}
use Rattle.std.proofs.lemmas.Nat.{mul-le}
use Rattle.std.specs.Prelude.{slice_get, filter}
use Rattle.grid_graph.specs.Components.{places}
use Rattle.grid_level.specs.declared.Switch.{Switch}
use Rattle.grid_level.specs.VoltageLevel.{VoltageLevel}
use Rattle.grid_level.specs.Passing.{Rule, bus, breaker, nodes}
use Rattle.grid_groups.proofs.PassingEdges.{nodes-stood}
use Rattle.grid_bench.specs.Ends.{SameEnds}
use Rattle.grid_bench.specs.Contents.{Content, content}
use Rattle.grid_bench.specs.Costs.{is_at_end, touched_by, touched_both, standing_with, with_flags_at, change_cost, content_midway, flag_at, differs_at, place_cost, changes_cost, count_changes, most_followed, CanFollow, CostsAtMost}
use Rattle.grid_bench.proofs.Alike.{ends_of_same}

pub slot_within : {X : Type 0} (xs : List (Option X)) (k : ℕ) (x : X) → get_or xs k None ≡ Some x → k < length xs
slot_within [] k x h = absurd (cc)
slot_within (y ∷ xs) zero x h = omega arith
slot_within (y ∷ xs) (suc k) x h = let r = slot_within xs k x h in omega (arith, r)

-- ---- what a change touches at most

touched_le : (rule : Rule) (before after : VoltageLevel) (s : Switch) → touched_by rule before after s ≤ length (nodes before)
unfolding touched_by
touched_le rule before after s = count_by-le-length (λ node. is_at_end rule before s node || is_at_end rule after s node) (nodes before)

both_le : (before after : Content) (found : Option Switch) → touched_both before after found ≤ 2 * length (nodes before.level)
unfolding touched_both
both_le before after None = omega arith
both_le before after (Some s) =
    omega (arith, touched_le bus (standing_with before) (standing_with after) s, touched_le breaker (standing_with before) (standing_with after) s, ap length (nodes-stood before.level before.opened before.retained))

cond_le : (b : Bool) (x n : ℕ) → x ≤ n → cond b x 0 ≤ cond b n 0
cond_le true x n le = le
cond_le false x n le = omega arith

-- each node twice, where a flag differs
place_costs : (old new : Content) (place : ℕ) → place_cost old new place ≤ cond (differs_at old new place) (2 * length (nodes old.level)) 0
unfolding place_cost
place_costs old new place =
    let was = content_midway old new place in
    cond_le (differs_at old new place) (change_cost was place (flag_at new.opened place) (flag_at new.retained place)) (2 * length (nodes old.level))
    (both_le was (with_flags_at was place (flag_at new.opened place) (flag_at new.retained place)) (slice_get old.level.switches place))

cond_within : (b : Bool) (n : ℕ) → cond b n 0 ≤ n
cond_within true n = omega arith
cond_within false n = omega arith

pub place_le : (old new : Content) (place : ℕ) → place_cost old new place ≤ 2 * length (nodes old.level)
place_le old new place = omega (arith, place_costs old new place, cond_within (differs_at old new place) (2 * length (nodes old.level)))

one_more : (b : Bool) (n m : ℕ) → cond b n 0 + m * n ≡ cond b (1 + m) m * n
one_more true n m = omega arith
one_more false n m = omega arith

passed_more : (b : Bool) (x : ℕ) (xs : List ℕ) → cond b (1 + length xs) (length xs) ≡ length (cond b (x ∷ xs) xs)
passed_more true x xs = omega arith
passed_more false x xs = refl

sum_le : (f : ℕ → ℕ) (p : ℕ → Bool) (n : ℕ) (xs : List ℕ) → ((x : ℕ) → f x ≤ cond (p x) n 0) → sum_by f xs ≤ length (filter p xs) * n
sum_le f p n [] h = omega arith
sum_le f p n (x ∷ xs) h =
    let more : cond (p x) n 0 + length (filter p xs) * n ≡ length (filter p (x ∷ xs)) * n = one_more (p x) n (length (filter p xs)) ∙ ap (λ z. z * n) (passed_more (p x) x (filter p xs)) in
    omega (arith, sum_by-cons f x xs, h x, sum_le f p n xs h, more)

-- each node four times, where at most two places differ
pub changes_le : (old new : Content) → count_changes old new ≤ 2 → changes_cost old new ≤ 4 * length (nodes old.level)
unfolding changes_cost count_changes
changes_le old new few =
    let n = 2 * length (nodes old.level) in
    let all = places (length old.level.switches) in
    let passed = filter (differs_at old new) all in
    let most : length passed ≤ 2 = omega (arith, few, length-filter (differs_at old new) all) in
    omega (arith, sum_le (place_cost old new) (differs_at old new) n all (place_costs old new), mul-le (length passed) n 2 n most (omega arith))

-- ---- following

-- what is kept of this very level can follow
pub can_of_same : (old new : Content) → old.level ≡ new.level → count_changes old new ≤ most_followed → CanFollow old new
can_of_same old new e near = record { same_ends = ends_of_same old.level new.level e; near = near; few = λ other. absurd (other e) }

pub can_of_few : (old new : Content) → SameEnds old.level new.level → count_changes old new ≤ 2 → CanFollow old new
can_of_few old new same few = record { same_ends = same; near = omega (arith, few); few = λ other. few }

-- where more places differ, just this very level can follow
pub can_where_same : (old new : Content) (same : Bool) → SameEnds old.level new.level → 2 < count_changes old new → count_changes old new ≤ most_followed → IsTrue same ↔ (old.level ≡ new.level) → IsTrue same ↔ CanFollow old new
can_where_same old new true ends many near is = (λ t. can_of_same old new (is.0 t) near, λ can. refl)
can_where_same old new false ends many near is = (
  λ t. absurd (false≢true t),
  λ can. let few = can.few (λ e. false≢true (is.1 e)) in absurd (omega (arith, few, many)),
)

module _ (old : Option Content) (was : Content) (level : VoltageLevel) (opened retained : List Bool) (before after : ℕ) (h : old ≡ Some was) (can : CanFollow was (content level opened retained))
    (cost : after ≤ before + changes_cost was (content was.level opened retained)) where
  changed_costs : (c : Content) → old ≡ Some c → c.level ≡ level → after ≤ before + changes_cost c (content level opened retained)
  changed_costs c is e =
      let both : Some was ≡ Some c = sym h ∙ is in
      let one : was ≡ c = cc in
      let P : Content → Type 0 = λ z. after ≤ before + changes_cost z (content z.level opened retained) in
      let Q : VoltageLevel → Type 0 = λ z. after ≤ before + changes_cost c (content z opened retained) in
      subst Q e (subst P one cost)

  other_costs : was.level ≢ level → after ≤ before + 4 * length (nodes level)
  unfolding count_changes differs_at
  other_costs other = omega (arith, cost, changes_le was (content was.level opened retained) (can.few other), ap length can.same_ends.same_nodes)

  pub followed_costs : (was ≡ content was.level opened retained → after ≡ before) → CostsAtMost old (content level opened retained) before after
  followed_costs equal =
      record {
        equal = λ same.
            let both : Some was ≡ Some (content level opened retained) = sym h ∙ same in
            let one : was ≡ content level opened retained = cc in
            equal (one ∙ sym (ap (λ (z : Content). content z.level opened retained) one));
        changed = λ c is e near. changed_costs c is e;
        built = λ far. other_costs (λ e. absurd (omega (arith, far was h e, can.near)));
      }
