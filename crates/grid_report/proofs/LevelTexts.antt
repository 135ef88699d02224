-- The texts of a variant's levels, which are made from those of the variant before.
use Rattle.std.proofs.Common.{◌≡◌, ℕ, suc, zero, ◌+◌, ◌<◌, List, [], ◌∷◌, ◌++◌, map, take, drop, get_or, length, sym, ap, ◌∙◌, arith, add-one}
use Rattle.std.specs.Prelude.{slice_set}
use Rattle.std.specs.List.{flat_map}
use Rattle.std.proofs.lemmas.List.Folds.{flat_map-map}
use Rattle.grid_busview.specs.declared.BusView.{BusView}
use Rattle.grid_report.specs.declared.outcome.VariantView.{VariantView}
use Rattle.grid_report.specs.Lines.{level_text}
use Rattle.grid_report.specs.Outcomes.{variant_line, variant_text}

-- one more is put where that of the variant before was
renewed : {X Y : Type 0} (f : X → Y) (xs ys : List X) (i : ℕ) (x : X) → length xs ≡ length ys → i < length xs → x ≡ get_or xs i x → slice_set (map f (take i xs ++ drop i ys)) i (f x) ≡ map f (take (suc i) xs ++ drop (suc i) ys)
renewed f [] ys i x long lt is = absurd (omega (arith, lt))
renewed f (a ∷ xs) [] i x long lt is = absurd (omega (arith, long))
renewed f (a ∷ xs) (b ∷ ys) zero x long lt is = ap (λ w. f w ∷ map f ys) is
renewed f (a ∷ xs) (b ∷ ys) (suc i) x long lt is = ap (λ l. f a ∷ l) (renewed f xs ys i x (omega (arith, long)) (omega (arith, lt)) is)

pub one_renewed : {X Y : Type 0} (f : X → Y) (xs ys : List X) (i : ℕ) (x : X) (t : Y) → length xs ≡ length ys → i < length xs → x ≡ get_or xs i x → t ≡ f x → slice_set (map f (take i xs ++ drop i ys)) i t ≡ map f (take (i + 1) xs ++ drop (i + 1) ys)
one_renewed f xs ys i x t long lt is made =
    ap (slice_set (map f (take i xs ++ drop i ys)) i) made
    ∙ renewed f xs ys i x long lt is
    ∙ ap (λ n. map f (take n xs ++ drop n ys)) (sym (add-one i))

-- a variant's line and the texts of its levels
pub variant_made : (v : VariantView) (line : List ℕ) (levels texts : List (List ℕ)) (views : List BusView) → line ≡ variant_line v.name → levels ≡ texts → texts ≡ map level_text views → views ≡ v.views → line ++ flat_map (λ (t : List ℕ). t) levels ≡ variant_text v
unfolding variant_text
variant_made v line levels texts views told same made shown =
    ap (λ l. l ++ flat_map (λ (t : List ℕ). t) levels) told
    ∙ ap (λ ts. variant_line v.name ++ flat_map (λ (t : List ℕ). t) ts) (same ∙ made ∙ ap (map level_text) shown)
    ∙ ap (λ l. variant_line v.name ++ l) (flat_map-map (λ (t : List ℕ). t) level_text v.views)
