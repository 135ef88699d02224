use Rattle.std.proofs.Common.{◌≡◌, ℕ, ◌+◌, ◌-◌, min, List, [], ◌∷◌, ◌++◌, length, take, drop, refl, sym, ap, ap₂, ◌∙◌, arith, append_assoc}
use Rattle.std.proofs.lemmas.List.{take-append-drop, length-drop, length-take}
use Rattle.grid_value.specs.declared.node.Node.{Node}
use Rattle.grid_value.specs.View.{listed_of, before, name_of, data_at}
use Rattle.grid_value.proofs.NodeSpellings.{listed_end, listed_cut}
use Rattle.grid_value.proofs.value.Members.pass_back.Goals as goal

nothing : {A : Type 0} (xs : List A) → length xs ≡ 0 → xs ≡ []
nothing [] none = refl
nothing (x ∷ xs) none = absurd (omega (arith, none))

pub returns-in_err-last : goal.returns-in_err-last
returns-in_err-last c =
    let none = nothing c.args.self.now.nodes.now c.in_err-last.ensures.cases in
    rw c.from_residual.ensures (listed_end c.args.self.now.nodes.now none)

-- the nodes before the last are cut where its value begins
cut_at : (ns others front part : List Node) (k : Node) (i : ℕ) → ns ≡ others ++ k ∷ [] → i ≡ length others - min (before k) (length others) → front ≡ take i others → part ≡ drop i others
    → listed_of ns ≡ listed_of front ++ (name_of k, data_at part) ∷ []
cut_at ns others front part k i all here first behind =
    let joined : front ++ part ≡ others = ap₂ (λ xs ys. xs ++ ys) first behind ∙ take-append-drop i others in
    let before_it : length front ≡ min i (length others) = ap length first ∙ length-take i others in
    let behind_it : length part ≡ length others - i = ap length behind ∙ length-drop i others in
    let whole : length part ≡ min (before k) (length front + length part) = omega (arith, before_it, behind_it, here) in
    ap listed_of (all ∙ ap (λ xs. xs ++ k ∷ []) (sym joined) ∙ append_assoc front part (k ∷ [])) ∙ listed_cut front part k whole

pub returns : goal.returns
returns c =
    let last = c.in_ok-last.last.now in
    let others = c.in_ok-last.others.now in
    let all : c.args.self.now.nodes.now ≡ others ++ last ∷ [] = grind arith in
    let here = ap (λ n. length others - n) (c.min.ensures ∙ ap (λ n. min n (length others)) c.before-2.ensures) in
    rw c.name.ensures (cut_at c.args.self.now.nodes.now others c.split_at.result.0.now c.split_at.result.1.now last _ all here c.split_at.ensures.front c.split_at.ensures.back)
