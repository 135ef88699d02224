-- What the edits of a level keep.
use Rattle.std.proofs.Common.{◌≡◌, refl, ap, ◌∙◌, ℕ, ◌+◌, ◌≤◌, List, [], ◌∷◌, ◌++◌, length, arith, append_assoc}
use Rattle.std.specs.Prelude.{map, flat_map}
use Rattle.std.proofs.lemmas.Grind.{common_steps}
use Rattle.grid_level.specs.declared.Placed.{Placed}
use Rattle.grid_level.specs.declared.Switch.{Switch}
use Rattle.grid_level.specs.declared.Internal.{Internal}
use Rattle.grid_level.specs.VoltageLevel.{VoltageLevel}
use Rattle.grid_level.specs.Uses.{with_use, without_use, tally}
use Rattle.grid_level.specs.Passing.{Edge, switch_edge, internal_edge, edges, ends, both, named, with_node, rising}
use Rattle.grid_level.proofs.NodeCounts.{tally_insert, tally_remove, rising_insert, length-with_node}

abbrev pub switch_nodes : List Switch → List ℕ
switch_nodes [] = []
switch_nodes (s ∷ rest) = s.node1 ∷ s.node2 ∷ switch_nodes rest

abbrev pub internal_nodes : List Internal → List ℕ
internal_nodes [] = []
internal_nodes (i ∷ rest) = i.node1 ∷ i.node2 ∷ internal_nodes rest

abbrev pub placed_nodes : List Placed → List ℕ
placed_nodes ps = map (λ p. p.node) ps

from_switches : (ss : List Switch) (rest : List Edge) → flat_map (λ e. both (ends e)) (map switch_edge ss ++ rest) ≡ switch_nodes ss ++ flat_map (λ e. both (ends e)) rest
unfolding both ends
from_switches [] rest = refl
from_switches (s ∷ ss) rest = ap (λ z. s.node1 ∷ s.node2 ∷ z) (from_switches ss rest)

from_internals : (is : List Internal) → flat_map (λ e. both (ends e)) (map internal_edge is) ≡ internal_nodes is
unfolding both ends
from_internals [] = refl
from_internals (i ∷ is) = ap (λ z. i.node1 ∷ i.node2 ∷ z) (from_internals is)

-- the uses of nodes, by the three lists
pub named_is : (level : VoltageLevel) → named level ≡ switch_nodes level.switches ++ (internal_nodes level.internals ++ placed_nodes level.placed)
unfolding named edges
named_is level = rw (from_switches level.switches (map internal_edge level.internals), from_internals level.internals, append_assoc) refl

pub length-edges : (level : VoltageLevel) → length (edges level) ≡ length level.switches + length level.internals
unfolding edges
length-edges level = grind (arith, common_steps)

pub switch_nodes-append : (xs ys : List Switch) → switch_nodes (xs ++ ys) ≡ switch_nodes xs ++ switch_nodes ys
switch_nodes-append [] ys = refl
switch_nodes-append (x ∷ xs) ys = ap (λ z. x.node1 ∷ x.node2 ∷ z) (switch_nodes-append xs ys)

pub internal_nodes-append : (xs ys : List Internal) → internal_nodes (xs ++ ys) ≡ internal_nodes xs ++ internal_nodes ys
internal_nodes-append [] ys = refl
internal_nodes-append (x ∷ xs) ys = ap (λ z. x.node1 ∷ x.node2 ∷ z) (internal_nodes-append xs ys)

-- ---- two nodes more, two nodes less

pub grown : (P : List ℕ) (a b : ℕ) (Q : List ℕ) → tally (P ++ a ∷ b ∷ Q) ≡ with_use a (with_use b (tally (P ++ Q)))
grown P a b Q = tally_insert P a (b ∷ Q) ∙ ap (with_use a) (tally_insert P b Q)

pub grown_nodes : (P : List ℕ) (a b : ℕ) (Q : List ℕ) → rising (P ++ a ∷ b ∷ Q) ≡ with_node a (with_node b (rising (P ++ Q)))
grown_nodes P a b Q = rising_insert P a (b ∷ Q) ∙ ap (with_node a) (rising_insert P b Q)

pub shrunk : (P : List ℕ) (a b : ℕ) (Q : List ℕ) → tally (P ++ Q) ≡ without_use b (without_use a (tally (P ++ a ∷ b ∷ Q)))
shrunk P a b Q = tally_remove P b Q ∙ ap (without_use b) (tally_remove P a (b ∷ Q))

pub shrunk_nodes : (P : List ℕ) (a b : ℕ) (Q : List ℕ) → length (rising (P ++ Q)) ≤ length (rising (P ++ a ∷ b ∷ Q))
shrunk_nodes P a b Q = rw (grown_nodes P a b Q) (omega (arith, length-with_node a (with_node b (rising (P ++ Q))), length-with_node b (rising (P ++ Q))))
