-- A network whose parts are readable is readable.
use Rattle.std.proofs.Common.{◌≡◌, ℕ, true, List, [], ◌∷◌, All, sym}
use Rattle.std.specs.Prelude.{is_none}
use Rattle.std.specs.List.{AllByRecursion, flat_map, list_all}
use Rattle.std.proofs.lemmas.Bool.{true≢false, and_parts}
use Rattle.grid_structure.specs.declared.NamedBranch.{NamedBranch}
use Rattle.grid_structure.specs.declared.Branch.{Branch}
use Rattle.grid_structure.specs.declared.Branch.TheVariants.{Line, TwoWindings, ThreeWindings}
use Rattle.grid_structure.specs.Network.{Network, Substation}
use Rattle.grid_structure.specs.Sites.{home_of, levels, branches}
use Rattle.grid_structure.specs.Soundness.{IsSound, stands_in, transformer_passes, line_passes}
use Rattle.grid_print.specs.Readable.{IsId, IsReadableLevel, IsReadableBranch, IsTransformer, IsLine, IsReadableSubstation, IsReadable}
use Rattle.grid_print.proofs.Each.{each_of, of_each, each_apart}

-- ---- branches in their own lists

has_home : (id : List ℕ) (ids : List (List ℕ)) (shape : Branch) → stands_in id ids shape (home_of shape) ≡ true → IsTransformer shape
unfolding stands_in home_of
has_home id ids (Line end1 end2) e = true≢false (sym e)
has_home id ids (TwoWindings home end1 end2 rated_u1 rated_u2) e = tt
has_home id ids (ThreeWindings home end1 end2 end3 rated_u1 rated_u2 rated_u3) e = tt

has_none : (shape : Branch) → is_none (home_of shape) ≡ true → IsLine shape
unfolding home_of
has_none (Line end1 end2) e = tt
has_none (TwoWindings home end1 end2 rated_u1 rated_u2) e = true≢false (sym e)
has_none (ThreeWindings home end1 end2 end3 rated_u1 rated_u2 rated_u3) e = true≢false (sym e)

are_transformers : (s : Substation) (bs : List NamedBranch) → list_all (transformer_passes s) bs ≡ true → AllByRecursion (λ b. IsTransformer b.shape) bs
unfolding transformer_passes
are_transformers s [] e = tt
are_transformers s (b ∷ bs) e = let parts = and_parts (transformer_passes s b) (list_all (transformer_passes s) bs) e in (has_home s.id _ b.shape parts.0, are_transformers s bs parts.1)

are_lines : (bs : List NamedBranch) → list_all line_passes bs ≡ true → AllByRecursion (λ b. IsLine b.shape) bs
unfolding line_passes
are_lines [] e = tt
are_lines (b ∷ bs) e = let parts = and_parts (line_passes b) (list_all line_passes bs) e in (has_none b.shape parts.0, are_lines bs parts.1)

-- ---- networks

substations_readable : (subs : List Substation) → list_all (λ s. list_all (transformer_passes s) s.transformers) subs ≡ true → AllByRecursion (λ s. IsId s.id) subs
    → AllByRecursion IsReadableLevel (flat_map (λ s. s.levels) subs) → AllByRecursion IsReadableBranch (flat_map (λ s. s.transformers) subs) → AllByRecursion IsReadableSubstation subs
substations_readable [] pass ids ls bs = tt
substations_readable (s ∷ subs) pass ids ls bs =
    let passes = and_parts (list_all (transformer_passes s) s.transformers) (list_all (λ t. list_all (transformer_passes t) t.transformers) subs) pass in
    let some_levels = each_apart IsReadableLevel s.levels (flat_map (λ t. t.levels) subs) ls in
    let some_branches = each_apart IsReadableBranch s.transformers (flat_map (λ t. t.transformers) subs) bs in (
      record {
        id = ids.0;
        levels = of_each IsReadableLevel s.levels some_levels.0;
        transformers = of_each IsReadableBranch s.transformers some_branches.0;
        are_transformers = of_each (λ b. IsTransformer b.shape) s.transformers (are_transformers s s.transformers passes.0);
      },
      substations_readable subs passes.1 ids.1 some_levels.1 some_branches.1,
    )

pub network_readable : (net : Network) → IsSound net → IsId net.id → All (λ s. IsId s.id) net.substations → All IsReadableLevel (levels net) → All IsReadableBranch (branches net) → IsReadable net
unfolding levels branches
network_readable net sound id ids ls bs =
    let front = flat_map (λ s. s.transformers) net.substations in
    let apart = each_apart IsReadableBranch front net.lines (each_of IsReadableBranch (branches net) bs) in
    record {
      id = id;
      substations = of_each IsReadableSubstation net.substations
          (substations_readable net.substations sound.transformers (each_of (λ s. IsId s.id) net.substations ids) (each_of IsReadableLevel (levels net) ls) apart.0);
      lines = of_each IsReadableBranch net.lines apart.1;
      are_lines = of_each (λ b. IsLine b.shape) net.lines (are_lines net.lines sound.lines);
    }
