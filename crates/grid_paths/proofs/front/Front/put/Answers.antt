use Rattle.std.proofs.Common.{◌≡◌, ℕ, List, [], ◌∷◌, ◌++◌, sym, append_assoc}
use Rattle.std.specs.List.Sorted.{IsPermutation}
use Rattle.std.proofs.lemmas.List.Sorted.{IsPermutation-sym, IsPermutation-to_front, IsPermutation-middle}
use Rattle.grid_paths.proofs.CallAnswers.{OnOk_then}
use Rattle.grid_paths.proofs.front.Front.put.Goals as goal

put_last : (all xs ys zs : List (ℕ × ℕ)) (x : ℕ × ℕ) → xs ++ ys ≡ all → zs ≡ ys ++ x ∷ [] → IsPermutation (x ∷ all) (xs ++ zs)
put_last all xs ys zs x e f = rw (sym e) (rw f (rw (sym (append_assoc xs ys (x ∷ []))) (IsPermutation-sym _ _ (IsPermutation-to_front (xs ++ ys) x))))

put_between : (all xs ys zs : List (ℕ × ℕ)) (x : ℕ × ℕ) → xs ++ ys ≡ all → zs ≡ xs ++ x ∷ [] → IsPermutation (x ∷ all) (zs ++ ys)
put_between all xs ys zs x e f = rw (sym e) (rw f (rw (append_assoc xs (x ∷ []) ys) (IsPermutation-sym _ _ (IsPermutation-middle xs x ys))))

pub returns-then-by_closing : goal.returns-then-by_closing
returns-then-by_closing c =
    OnOk_then c.put.result _ _ c.put.ensures
    (put_last c.args.self.now c.self.inside.free c.self.inside.closing c.put.new.self (c.args.cost, c.args.node) c.self.view_is)

pub returns-else-by_closing : goal.returns-else-by_closing
returns-else-by_closing c =
    let put = c.put-else-by_closing in
    OnOk_then put.result _ _ put.ensures
    (put_between c.args.self.now c.self.inside.free c.self.inside.closing put.new.self (c.args.cost, c.args.node) c.self.view_is)
