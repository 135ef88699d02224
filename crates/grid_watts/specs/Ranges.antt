-- Watts are numbers of 64 bits, so that their sums have room in numbers of 128 bits.
use Rattle.std.specs.Prelude.{◌≡◌, ◌^◌, ℤ, pos, neg_ℤ, ◌≤ℤ◌, Bool, ◌&&◌, int_le, int_lt, if◌then◌else◌, List, [], filter, IsTrue}
use Rattle.std.specs.List.{list_all}
use Rattle.grid_powers.specs.Listed.{PowerList}
use Rattle.grid_level.specs.declared.Placed.{Placed}
use Rattle.grid_busview.specs.Views.{is_load, is_generation}
use Rattle.grid_structure.specs.Network.{Network}
use Rattle.grid_watts.specs.Watts.{terminals, watts_at, watts_sum, load_total, generation_total}
use Rattle.grid_watts.specs.Shares.{Part}

unfoldable pub is_narrow : ℤ → Bool
is_narrow watts = int_le (neg_ℤ (pos (2 ^ 63))) watts && int_lt watts (pos (2 ^ 63))

-- both sums are far from the ends of their type
pub record HasRoom (powers : PowerList) : Type 0 where
  pub load_low : neg_ℤ (pos (2 ^ 100)) ≤ℤ powers.load
  pub load_high : powers.load ≤ℤ pos (2 ^ 100)
  pub generation_low : neg_ℤ (pos (2 ^ 100)) ≤ℤ powers.generation
  pub generation_high : powers.generation ≤ℤ pos (2 ^ 100)

-- the two numbers are the sums over the structure under the list
pub record IsSummed (net : Network) (powers : PowerList) : Type 0 where
  pub load : powers.load ≡ load_total net powers.listed
  pub generation : powers.generation ≡ generation_total net powers.listed
  pub narrow : IsTrue (list_all (λ p. is_narrow (watts_at powers.listed p)) (terminals net))

-- nothing is listed, and the two numbers are the sums over these terminals
pub record HasSumsOf (ps : List Placed) (powers : PowerList) : Type 0 where
  pub listed : powers.listed ≡ []
  pub load : powers.load ≡ watts_sum [] (filter (λ p. is_load p.stand) ps)
  pub generation : powers.generation ≡ watts_sum [] (filter (λ p. is_generation p.stand) ps)
  pub narrow : IsTrue (list_all (λ p. is_narrow (watts_at [] p)) ps)

-- 1 for a number that is none of 64 bits
unfoldable pub outside : Part
outside stand watts = if is_narrow watts then pos 0 else pos 1
