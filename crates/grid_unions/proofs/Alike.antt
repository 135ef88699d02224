-- What is found of graphs with the same pairs.
use Rattle.std.proofs.Common.{◌≡◌, refl, sym, ap, ◌∙◌, subst, ℕ, ◌<◌, cond, List, [], ◌∷◌, length}
use Rattle.std.specs.Prelude.{ℤ, pos, ◌+ℤ◌, eqb, fold, zip}
use Rattle.std.proofs.lemmas.List.{get_or_default}
use Rattle.grid_graph.specs.Components.{places}
use Rattle.grid_graph.specs.Graph.{graph, EndsBelow, least_joined, count_joined}
use Rattle.grid_graph.specs.Joined.{groups}
use Rattle.grid_graph.proofs.Below.{pairs_below}
use Rattle.grid_graph.proofs.Places.{places_In}
use Rattle.grid_components.proofs.Tallies.{counts_same}
use Rattle.grid_unions.specs.Trees.{count_least}
use Rattle.grid_unions.specs.Ranks.{Ranks, IsGreatest}
use Rattle.grid_unions.specs.Summed.{add_joined, class_sum}
use Rattle.grid_unions.specs.Sweep.{IsFound}
use Rattle.grid_unions.specs.Halves.{HaveSame}
use Rattle.grid_unions.specs.declared.summed.Sums.{Sums}
use Rattle.grid_unions.specs.declared.sweeps.Found.{Found}
use Rattle.grid_unions.proofs.Orders.{AreAmong, AreAlike, alike_joined, alike_least, alike_count}
use Rattle.grid_unions.proofs.UnionCounts.{count_groups}
use Rattle.grid_unions.proofs.Pairs.{among_from_same}

-- ---- from the same pairs

ends_among : (count : ℕ) (first second : List (ℕ × ℕ)) → AreAmong second first → EndsBelow first count → EndsBelow second count
ends_among count first second h ends = λ k d lt.
    let f = h.found k lt in
    let P : ℕ × ℕ → Type 0 = λ p. (p.0 < count) × (p.1 < count) in
    subst P (get_or_default second k (0, 0) d lt) (subst P f.2 (ends f.0 (0, 0) f.1))

pub alike_from_same : (count : ℕ) (first second : List (ℕ × ℕ)) → EndsBelow first count → HaveSame first second → AreAlike count first second
alike_from_same count first second ends h =
    let back = among_from_same second first (λ test. sym (h test)) in
    record { ends = ends; other_ends = ends_among count first second back ends; forth = among_from_same first second h; back = back }

-- ---- figures

alike_greatest : (count : ℕ) (first second : List (ℕ × ℕ)) (number : ℕ) → AreAlike count first second → IsGreatest (graph count first) number → IsGreatest (graph count second) number
alike_greatest count first second number s g = record {
  below = g.below;
  least = sym (alike_least count first second s number g.below) ∙ g.least;
  most = λ x lt.
      (let P : ℕ → Type 0 = λ n. Ranks n number (count_joined (graph count second) x) (least_joined (graph count second) x) in
      let Q : ℕ → Type 0 = λ n. Ranks (count_joined (graph count first) number) number n (least_joined (graph count second) x) in
      let R : ℕ → Type 0 = λ n. Ranks (count_joined (graph count first) number) number (count_joined (graph count first) x) n in
      subst P (alike_count count first second s number g.below) (subst Q (alike_count count first second s x lt) (subst R (alike_least count first second s x lt) (g.most x lt))));
}

alike_groups : (count : ℕ) (first second : List (ℕ × ℕ)) → AreAlike count first second → length (groups (places count) first) ≡ length (groups (places count) second)
unfolding count_least
alike_groups count first second s =
    sym (count_groups (graph count first) (pairs_below count first s.ends))
    ∙ counts_same (λ x. eqb (least_joined (graph count first) x) x) (λ x. eqb (least_joined (graph count second) x) x) (places count)
    (λ x i. ap (λ l. eqb l x) (alike_least count first second s x (places_In x count i)))
    ∙ count_groups (graph count second) (pairs_below count second s.other_ends)

fold_alike : {A B : Type 0} (f g : B → A → B) → ((b : B) (x : A) → f b x ≡ g b x) → (b : B) (xs : List A) → fold f b xs ≡ fold g b xs
fold_alike f g h b [] = refl
fold_alike f g h b (x ∷ xs) = ap (λ c. fold f c xs) (h b x) ∙ fold_alike f g h (g b x) xs

alike_sum : (count : ℕ) (first second : List (ℕ × ℕ)) (watts : Sums → ℤ) (weights : List Sums) (a : ℕ) → AreAlike count first second → a < count
    → class_sum watts (graph count first) weights a ≡ class_sum watts (graph count second) weights a
unfolding class_sum
alike_sum count first second watts weights a s lt =
    fold_alike (add_joined watts (graph count first) a) (add_joined watts (graph count second) a)
    (λ total at. ap (λ t. cond t (total +ℤ watts at.1) total) (alike_joined count first second s a at.0 lt)) (pos 0) (zip (places count) weights)

-- what is found of one graph is found of the other
pub alike_found : (count : ℕ) (first second : List (ℕ × ℕ)) (weights : List Sums) (found : Found) → AreAlike count first second
    → IsFound weights (graph count first) found → IsFound weights (graph count second) found
alike_found count first second weights found s f = record {
  classes = f.classes ∙ alike_groups count first second s;
  main = alike_greatest count first second found.main s f.main;
  size = f.size ∙ alike_count count first second s found.main f.main.below;
  load = f.load ∙ alike_sum count first second (λ s. s.load) weights found.main s f.main.below;
  generation = f.generation ∙ alike_sum count first second (λ s. s.generation) weights found.main s f.main.below;
}
