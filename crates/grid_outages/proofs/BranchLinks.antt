-- The links of a branch, by its ends, and one branch more.
use Rattle.std.proofs.Common.{◌≡◌, refl, sym, ap, ◌∙◌, ℕ, ℤ, ◌+◌, ◌<◌, List, [], ◌∷◌, ◌++◌, length, take, append_assoc, Option, Some, None}
use Rattle.std.specs.Prelude.{flat_map, slice_get}
use Rattle.std.specs.Option.{option_map}
use Rattle.std.proofs.lemmas.List.{append-nil}
use Rattle.grid_structure.specs.declared.Branch.{Branch}
use Rattle.grid_structure.specs.declared.End.{End}
use Rattle.grid_structure.specs.declared.NamedBranch.{NamedBranch}
use Rattle.grid_structure.specs.Network.{Network}
use Rattle.grid_structure.specs.Sites.{branch_ends}
use Rattle.grid_islands.proofs.BranchPairs.{gathered_more}
use Rattle.grid_outages.specs.declared.screening.EndBus.{EndBus}
use Rattle.grid_outages.specs.declared.screening.Link.{Link}
use Rattle.grid_outages.specs.Changes.{link_between, links_among, branch_links, spot_of}

two_among : (a b : Option EndBus) → links_among (a ∷ b ∷ []) ≡ link_between a b
unfolding links_among
two_among a b = append-nil (link_between a b ++ []) ∙ append-nil (link_between a b)

three_among : (a b c : Option EndBus) → links_among (a ∷ b ∷ c ∷ []) ≡ link_between a b ++ (link_between a c ++ link_between b c)
unfolding links_among
three_among a b c = simp (append_assoc, append-nil)

module _ (net : Network) (rows : List (List (Option ℕ))) where
  pub two_links : (branch : Branch) (a b : End) → branch_ends branch ≡ a ∷ b ∷ [] → branch_links net rows branch ≡ link_between (spot_of net rows a) (spot_of net rows b)
  unfolding branch_links
  two_links branch a b e = rw e (two_among (spot_of net rows a) (spot_of net rows b))

  pub three_links : (branch : Branch) (a b c : End) → branch_ends branch ≡ a ∷ b ∷ c ∷ []
      → branch_links net rows branch ≡ link_between (spot_of net rows a) (spot_of net rows b) ++ (link_between (spot_of net rows a) (spot_of net rows c) ++ link_between (spot_of net rows b) (spot_of net rows c))
  unfolding branch_links
  three_links branch a b c e = rw e (three_among (spot_of net rows a) (spot_of net rows b) (spot_of net rows c))

-- the links of a branch that is read by its shape
pub branch_more : (net : Network) (rows : List (List (Option ℕ))) (bs : List NamedBranch) (i : ℕ) (now : List Link) (shape : Branch) → i < length bs → now ≡ flat_map (λ b. branch_links net rows b.shape) (take i bs)
    → option_map (λ b. b.shape) (slice_get bs i) ≡ Some shape → now ++ branch_links net rows shape ≡ flat_map (λ b. branch_links net rows b.shape) (take (i + 1) bs)
branch_more net rows bs i now shape lt so_far at = by (slice_get bs i) refl at
  where
    by : (o : Option NamedBranch) → slice_get bs i ≡ o → option_map (λ b. b.shape) o ≡ Some shape → now ++ branch_links net rows shape ≡ flat_map (λ b. branch_links net rows b.shape) (take (i + 1) bs)
    by (Some b) e h = let same : b.shape ≡ shape = cc in ap (λ z. now ++ branch_links net rows z) (sym same) ∙ gathered_more (λ b. branch_links net rows b.shape) bs i now b lt so_far e
    by None e h = absurd (cc)
