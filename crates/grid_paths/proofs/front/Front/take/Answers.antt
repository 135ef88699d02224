use Rattle.std.proofs.Common.{◌≡◌, ℕ, List, ◌∷◌, ◌++◌, sym, Option, Some, None, IfSome}
use Rattle.std.specs.List.Sorted.{IsPermutation}
use Rattle.std.proofs.lemmas.List.Sorted.{IsPermutation-middle}
use Rattle.grid_paths.proofs.front.Front.take.Goals as goal

taken : (r : Option (ℕ × ℕ)) (all xs ys zs : List (ℕ × ℕ)) → xs ++ ys ≡ all → IfSome r (λ x. ys ≡ x ∷ zs) → IfSome r (λ x. IsPermutation all (x ∷ (xs ++ zs)))
taken (Some x) all xs ys zs e f = rw (sym e) (rw f (IsPermutation-middle xs x zs))
taken None all xs ys zs e f = tt

pub returns-in_default-clause-some : goal.returns-in_default-clause-some
returns-in_default-clause-some c = taken c.take.result c.args.self.now c.self.inside.free c.self.inside.closing c.take.new.self c.self.view_is c.take.ensures.some

pub returns-in-Some-first_cost-clause-some : goal.returns-in-Some-first_cost-clause-some
returns-in-Some-first_cost-clause-some c =
    let take = c.take-in-Some-first_cost in
    taken take.result c.args.self.now c.self.inside.free c.self.inside.closing take.new.self c.self.view_is take.ensures.some
