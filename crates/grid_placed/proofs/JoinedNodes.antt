-- Which nodes of a level in node/breaker form are joined.
use Rattle.std.proofs.Common.{◌≡◌, refl, sym, ap, ◌∙◌, ℕ, ◌+◌, ◌<◌, ◌≤◌, Bool, true, false, not, ◌&&◌, ◌||◌, List, [], ◌∷◌, ◌++◌, length, arith}
use Rattle.std.specs.Prelude.{eqb, nat_lt}
use Rattle.std.specs.List.{list_any, range_with_len}
use Rattle.std.proofs.lemmas.Bool.{and_left, le-ltb, lt-ltb}
use Rattle.std.proofs.lemmas.List.Folds.{list_any-append}
use Rattle.grid_graph.specs.Joined.{joined, is_least}
use Rattle.grid_graph.specs.Components.{places}
use Rattle.grid_graph.proofs.Reach.{In, In_here, In_there, any_of, joined_refl}
use Rattle.grid_graph.proofs.Places.{In_places, places_In, range_In}
use Rattle.grid_level.specs.Passing.{bus, passing, joined_under}
use Rattle.grid_placed.specs.Places.{PlacedLevel, PlacesFit, closed_pairs}
use Rattle.grid_placed.specs.Translation.{translated_level}
use Rattle.grid_placed.proofs.Nodes.{range_join, level_nodes, level_passing, spokes}
use Rattle.grid_placed.proofs.Spokes.{places_joined, behind_joined, hangs_joined, alone_joined}
use Rattle.grid_placed.proofs.BusTerminals.{outlet_of, outlet_place, are_spokes, closed_below}

-- ---- lists of numbers

-- what holds at each number of a list
pub any_alike : (p q : ℕ → Bool) (xs : List ℕ) → ((n : ℕ) → In n xs → p n ≡ q n) → list_any p xs ≡ list_any q xs
any_alike p q [] same = refl
any_alike p q (x ∷ xs) same =
    ap (λ t. t || list_any p xs) (same x (In_here x xs)) ∙ ap (λ t. q x || t) (any_alike p q xs (λ n i. same n (In_there n x xs i)))

pub any_none : (p : ℕ → Bool) (xs : List ℕ) → ((n : ℕ) → In n xs → p n ≡ false) → list_any p xs ≡ false
any_none p [] none = refl
any_none p (x ∷ xs) none = ap (λ t. t || list_any p xs) (none x (In_here x xs)) ∙ any_none p xs (λ n i. none n (In_there n x xs i))

-- the places of buses, then the nodes behind them
pub places_split : (level : PlacedLevel) → places (length level.buses + length level.outlets) ≡ places (length level.buses) ++ range_with_len (length level.buses) (length level.outlets)
unfolding places
places_split level = sym (range_join 0 (length level.buses) (length level.buses) (length level.outlets) (omega arith))

-- ---- joined

-- the pairs of a level
abbrev pub pairs_of : PlacedLevel → List (ℕ × ℕ)
pairs_of level = closed_pairs level ++ spokes level

-- how many nodes there are
abbrev pub node_total : PlacedLevel → ℕ
node_total level = length level.buses + length level.outlets

-- two nodes are joined
unfoldable pub nodes_joined : PlacedLevel → ℕ → ℕ → Bool
nodes_joined level a b = joined (places (length level.buses + length level.outlets)) (pairs_of level) a b

-- two buses are joined
unfoldable pub buses_joined : PlacedLevel → ℕ → ℕ → Bool
buses_joined level a b = joined (places (length level.buses)) (closed_pairs level) a b

module _ (level : PlacedLevel) (fit : PlacesFit level) where
  pub level_joined : (a b : ℕ) → joined_under bus (translated_level level) a b ≡ nodes_joined level a b
  unfolding joined_under nodes_joined
  level_joined a b =
      ap (λ z. joined z (passing bus (translated_level level)) a b) (level_nodes level fit)
      ∙ ap (λ z. joined (places (length level.buses + length level.outlets)) z a b) (level_passing level)

  pub joined_places_alike : (a b : ℕ) → a < length level.buses → b < length level.buses → nodes_joined level a b ≡ buses_joined level a b
  unfolding nodes_joined buses_joined
  joined_places_alike a b lt less =
      places_joined (length level.buses) (node_total level) (λ n. (outlet_of level n).place) (λ n. (outlet_of level n).connected) (closed_pairs level) (spokes level)
      (omega arith) (closed_below level fit) (are_spokes level fit) a b lt less

  pub joined_behind : (a y : ℕ) → a < length level.buses → length level.buses ≤ y → y < node_total level
      → nodes_joined level a y ≡ ((outlet_of level y).connected && buses_joined level a (outlet_of level y).place)
  unfolding nodes_joined buses_joined
  joined_behind a y lt b less =
      behind_joined (length level.buses) (node_total level) (λ n. (outlet_of level n).place) (λ n. (outlet_of level n).connected) (closed_pairs level) (spokes level)
      (omega arith) (closed_below level fit) (are_spokes level fit) a y lt b less

  pub joined_hanging : (y : ℕ) → length level.buses ≤ y → y < node_total level → (outlet_of level y).connected ≡ true → nodes_joined level y (outlet_of level y).place ≡ true
  unfolding nodes_joined
  joined_hanging y b less h =
      hangs_joined (length level.buses) (node_total level) (λ n. (outlet_of level n).place) (λ n. (outlet_of level n).connected) (closed_pairs level) (spokes level)
      (omega arith) (closed_below level fit) (are_spokes level fit) y b less h

  pub joined_alone : (y b : ℕ) → length level.buses ≤ y → (outlet_of level y).connected ≡ false → nodes_joined level y b ≡ eqb y b
  unfolding nodes_joined
  joined_alone y b behind off =
      alone_joined (length level.buses) (node_total level) (λ n. (outlet_of level n).place) (λ n. (outlet_of level n).connected) (closed_pairs level) (spokes level)
      (omega arith) (closed_below level fit) (are_spokes level fit) y b behind off

  pub joined_self : (a : ℕ) → nodes_joined level a a ≡ true
  unfolding nodes_joined
  joined_self a = joined_refl (places (length level.buses + length level.outlets)) (pairs_of level) a

  -- ---- least nodes

  pub least_bus : (a : ℕ) → a < length level.buses → is_least (places (node_total level)) (pairs_of level) a ≡ is_least (places (length level.buses)) (closed_pairs level) a
  unfolding is_least
  least_bus a lt =
      ap not (ap (list_any (λ b. nat_lt b a && joined (places (node_total level)) (pairs_of level) a b)) (places_split level)
      ∙ list_any-append (λ b. nat_lt b a && joined (places (node_total level)) (pairs_of level) a b) (places (length level.buses)) (range_with_len (length level.buses) (length level.outlets))
      ∙ ap (λ t. list_any (λ b. nat_lt b a && joined (places (node_total level)) (pairs_of level) a b) (places (length level.buses)) || t)
      (any_none (λ b. nat_lt b a && joined (places (node_total level)) (pairs_of level) a b) (range_with_len (length level.buses) (length level.outlets)) past)
      ∙ or_nothing (list_any (λ b. nat_lt b a && joined (places (node_total level)) (pairs_of level) a b) (places (length level.buses)))
      ∙ any_alike (λ b. nat_lt b a && joined (places (node_total level)) (pairs_of level) a b) (λ b. nat_lt b a && joined (places (length level.buses)) (closed_pairs level) a b) (places (length level.buses)) same)
    where
      or_nothing : (t : Bool) → t || false ≡ t
      or_nothing true = refl
      or_nothing false = refl

      past : (n : ℕ) → In n (range_with_len (length level.buses) (length level.outlets)) → nat_lt n a && joined (places (node_total level)) (pairs_of level) a n ≡ false
      past n i =
          let low : length level.buses ≤ n = (range_In n (length level.buses) (length level.outlets) i).0 in
          and_left (nat_lt n a) (joined (places (node_total level)) (pairs_of level) a n) (le-ltb n a (omega (arith, low, lt)))

      same : (n : ℕ) → In n (places (length level.buses)) → (nat_lt n a && joined (places (node_total level)) (pairs_of level) a n) ≡ (nat_lt n a && joined (places (length level.buses)) (closed_pairs level) a n)
      same n i = ap (λ t. nat_lt n a && t) (places_joined (length level.buses) (node_total level) (λ n. (outlet_of level n).place) (λ n. (outlet_of level n).connected) (closed_pairs level) (spokes level)
          (omega arith) (closed_below level fit) (are_spokes level fit) a n lt (places_In n (length level.buses) i))

  pub least_hanging : (y : ℕ) → length level.buses ≤ y → y < node_total level → (outlet_of level y).connected ≡ true → is_least (places (node_total level)) (pairs_of level) y ≡ false
  unfolding is_least nodes_joined
  least_hanging y b less h =
      let inside : (outlet_of level y).place < length level.buses = outlet_place level fit y b less in
      ap not (any_of (λ n. nat_lt n y && joined (places (node_total level)) (pairs_of level) y n) (places (node_total level)) (outlet_of level y).place
      (In_places (outlet_of level y).place (node_total level) (omega (arith, inside)))
      (ap (λ t. t && joined (places (node_total level)) (pairs_of level) y (outlet_of level y).place) (lt-ltb (outlet_of level y).place y (omega (arith, inside, b))) ∙ joined_hanging y b less h))
