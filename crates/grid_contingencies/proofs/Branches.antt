-- The branches of a kind are those of their lists.
use Rattle.std.proofs.Common.{◌≡◌, refl, sym, ap, ◌∙◌, ℕ, Bool, true, false, ◌&&◌, List, [], ◌∷◌, ◌++◌, map, Option, Some, None}
use Rattle.std.specs.Prelude.{filter, is_none}
use Rattle.std.specs.List.{flat_map, list_all}
use Rattle.std.proofs.lemmas.Bool.{and_parts, false≢true}
use Rattle.std.proofs.lemmas.List.{append-nil, map-append}
use Rattle.std.proofs.lemmas.List.Elements.{filter-append}
use Rattle.grid_structure.specs.declared.Branch.{Branch}
use Rattle.grid_structure.specs.declared.Branch.TheVariants as shapes
use Rattle.grid_structure.specs.declared.NamedBranch.{NamedBranch}
use Rattle.grid_structure.specs.Network.{Network, Substation}
use Rattle.grid_structure.specs.Sites.{branches, home_of}
use Rattle.grid_structure.specs.Soundness.{IsSound, transformer_passes, line_passes, stands_in}
use Rattle.grid_contingencies.specs.declared.Piece.{Piece}
use Rattle.grid_contingencies.specs.declared.Piece.TheVariants as pieces
use Rattle.grid_contingencies.specs.Pieces.{is_branch_of, branches_of, transformers, pieces_of}

-- ---- what a filter leaves

all_of : {X : Type 0} (q p : X → Bool) (xs : List X) → ((x : X) → q x ≡ true → p x ≡ true) → list_all q xs ≡ true → filter p xs ≡ xs
all_of q p [] so h = refl
all_of q p (x ∷ xs) so h = let parts = and_parts (q x) (list_all q xs) h in rw (so x parts.0) (ap (λ z. x ∷ z) (all_of q p xs so parts.1))

none_of : {X : Type 0} (q p : X → Bool) (xs : List X) → ((x : X) → q x ≡ true → p x ≡ false) → list_all q xs ≡ true → filter p xs ≡ []
none_of q p [] so h = refl
none_of q p (x ∷ xs) so h = let parts = and_parts (q x) (list_all q xs) h in rw (so x parts.0) (none_of q p xs so parts.1)

-- ---- lines and transformers

is_line_of : (b : NamedBranch) → line_passes b ≡ true → is_branch_of pieces.Line b.shape ≡ true
unfolding line_passes home_of is_branch_of
is_line_of b h = by b.shape h
  where
    by : (s : Branch) → is_none (home_of s) ≡ true → is_branch_of pieces.Line s ≡ true
    by (shapes.Line end1 end2) e = refl
    by (shapes.TwoWindings substation end1 end2 rated_u1 rated_u2) e = absurd (false≢true e)
    by (shapes.ThreeWindings substation end1 end2 end3 rated_u1 rated_u2 rated_u3) e = absurd (false≢true e)

not_two : (b : NamedBranch) → line_passes b ≡ true → is_branch_of pieces.TwoWindings b.shape ≡ false
unfolding line_passes home_of is_branch_of
not_two b h = by b.shape h
  where
    by : (s : Branch) → is_none (home_of s) ≡ true → is_branch_of pieces.TwoWindings s ≡ false
    by (shapes.Line end1 end2) e = refl
    by (shapes.TwoWindings substation end1 end2 rated_u1 rated_u2) e = absurd (false≢true e)
    by (shapes.ThreeWindings substation end1 end2 end3 rated_u1 rated_u2 rated_u3) e = refl

not_three : (b : NamedBranch) → line_passes b ≡ true → is_branch_of pieces.ThreeWindings b.shape ≡ false
unfolding line_passes home_of is_branch_of
not_three b h = by b.shape h
  where
    by : (s : Branch) → is_none (home_of s) ≡ true → is_branch_of pieces.ThreeWindings s ≡ false
    by (shapes.Line end1 end2) e = refl
    by (shapes.TwoWindings substation end1 end2 rated_u1 rated_u2) e = refl
    by (shapes.ThreeWindings substation end1 end2 end3 rated_u1 rated_u2 rated_u3) e = absurd (false≢true e)

no_line : (s : Substation) (b : NamedBranch) → transformer_passes s b ≡ true → is_branch_of pieces.Line b.shape ≡ false
unfolding transformer_passes stands_in home_of is_branch_of
no_line s b h = by b.shape h
  where
    by : (shape : Branch) → stands_in s.id (map (λ l. l.id) s.levels) shape (home_of shape) ≡ true → is_branch_of pieces.Line shape ≡ false
    by (shapes.Line end1 end2) e = absurd (false≢true e)
    by (shapes.TwoWindings substation end1 end2 rated_u1 rated_u2) e = refl
    by (shapes.ThreeWindings substation end1 end2 end3 rated_u1 rated_u2 rated_u3) e = refl

no_lines : (subs : List Substation) → list_all (λ s. list_all (transformer_passes s) s.transformers) subs ≡ true → filter (λ (b : NamedBranch). is_branch_of pieces.Line b.shape) (flat_map (λ (s : Substation). s.transformers) subs) ≡ []
no_lines [] h = refl
no_lines (s ∷ subs) h =
    let parts = and_parts (list_all (transformer_passes s) s.transformers) (list_all (λ s. list_all (transformer_passes s) s.transformers) subs) h in
    let line = λ (b : NamedBranch). is_branch_of pieces.Line b.shape in
    filter-append line s.transformers (flat_map (λ (s : Substation). s.transformers) subs)
    ∙ ap (λ z. z ++ filter line (flat_map (λ (s : Substation). s.transformers) subs)) (none_of (transformer_passes s) line s.transformers (no_line s) parts.0) ∙ no_lines subs parts.1

-- ---- by kind

pub lines_are : (net : Network) → IsSound net → branches_of pieces.Line (branches net) ≡ pieces_of net pieces.Line
unfolding branches_of branches pieces_of
lines_are net sound =
    let line = λ (b : NamedBranch). is_branch_of pieces.Line b.shape in
    let before = flat_map (λ (s : Substation). s.transformers) net.substations in
    ap (map (λ (b : NamedBranch). b.id)) (filter-append line before net.lines ∙ ap (λ z. z ++ filter line net.lines) (no_lines net.substations sound.transformers) ∙ all_of line_passes line net.lines is_line_of sound.lines)

transformers_are : (net : Network) (kind : Piece) → ((b : NamedBranch) → line_passes b ≡ true → is_branch_of kind b.shape ≡ false) → IsSound net → branches_of kind (branches net) ≡ branches_of kind (transformers net)
unfolding branches_of branches transformers
transformers_are net kind other sound =
    let own = λ (b : NamedBranch). is_branch_of kind b.shape in
    let before = flat_map (λ (s : Substation). s.transformers) net.substations in
    ap (map (λ (b : NamedBranch). b.id)) (filter-append own before net.lines ∙ ap (λ z. filter own before ++ z) (none_of line_passes own net.lines other sound.lines) ∙ append-nil (filter own before))

pub two_are : (net : Network) → IsSound net → branches_of pieces.TwoWindings (branches net) ≡ pieces_of net pieces.TwoWindings
unfolding pieces_of
two_are net sound = transformers_are net pieces.TwoWindings not_two sound

pub three_are : (net : Network) → IsSound net → branches_of pieces.ThreeWindings (branches net) ≡ pieces_of net pieces.ThreeWindings
unfolding pieces_of
three_are net sound = transformers_are net pieces.ThreeWindings not_three sound
