-- Members put one after the other.
use Rattle.std.proofs.Common.{◌≡◌, ℕ, List, [], ◌∷◌, ◌++◌, refl}
use Rattle.serde_json.specs.Data.{Data, Members, put}
use Rattle.grid_print.specs.Objects.{members_from}

pub members_from_append : (ms : Members) (xs ys : List (List ℕ × Data)) → members_from ms (xs ++ ys) ≡ members_from (members_from ms xs) ys
unfolding members_from
members_from_append ms [] ys = refl
members_from_append ms (x ∷ xs) ys = members_from_append (put x.0 x.1 ms) xs ys
