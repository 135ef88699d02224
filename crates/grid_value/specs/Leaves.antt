-- What the next value of tokens is, where it is neither an array nor an object.
use Rattle.std.specs.Prelude.{◌≡◌, ℕ, ℤ, List, Option, Some, None, option_map, option_and_then}
use Rattle.json.specs.Token.{Token}
use Rattle.json.specs.Json.{value}
use Rattle.serde_json.specs.Data.{Num, Data, number}
use Rattle.serde_json.specs.Find.{as_i64, as_number}
use Rattle.serde_json.specs.Read.{of_json, converted}

-- the next value of the tokens is d, however deep arrays and objects may nest, and the new tokens are those behind it
abbrev pub NextIs : Data → List Token → List Token → Type 0
NextIs d old new = (depth : ℕ) → converted of_json (value depth old) ≡ Some (d, new)

-- the next value of the tokens is a number that is whole
abbrev pub NextWhole : ℤ → List Token → List Token → Type 0
NextWhole whole old new = (n : Num) × (as_i64 n ≡ Some whole) × NextIs (number n) old new

-- what a look takes from the next value of the tokens, where it is neither an array nor an object
abbrev pub of_leaf : {A : Type 0} → (Data → Option A) → List Token → Option A
of_leaf look tokens = option_and_then (λ next. look next.0) (converted of_json (value 0 tokens))

-- the whole number that data is
abbrev pub whole_of : Data → Option ℤ
whole_of d = option_and_then as_i64 (as_number d)
