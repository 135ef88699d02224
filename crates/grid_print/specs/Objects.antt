-- Objects by their members, and arrays by their items.
use Rattle.std.specs.Prelude.{ℕ, ℤ, List, [], ◌∷◌, Bool, true, false, Option, Some, None, map}
use Rattle.serde_json.specs.Data.{Data, Members, no_members, put, unsigned, number, string, array, object}
use Rattle.serde_json.specs.Find.{of_integer}
use Rattle.serde_json.specs.View.{items_of}

-- the members, which stand by byte order of their names
unfoldable pub members_from : Members → List (List ℕ × Data) → Members
members_from ms [] = ms
members_from ms (f ∷ fields) = members_from (put f.0 f.1 ms) fields

abbrev pub object_of : List (List ℕ × Data) → Data
object_of fields = object (members_from no_members fields)

abbrev pub array_of : {A : Type 0} → (A → Data) → List A → Data
array_of written xs = array (items_of (map written xs))

abbrev pub whole : ℤ → Data
whole z = number (of_integer z)

abbrev pub natural : ℕ → Data
natural n = number (unsigned n)

-- a member that is written only where it is given
abbrev pub given : {A : Type 0} → List ℕ → (A → Data) → Option A → List (List ℕ × Data)
given name written None = []
given name written (Some x) = (name, written x) ∷ []

-- a word that is written only where its flag is set
abbrev pub word_if : Bool → List ℕ → List Data
word_if true word = string word ∷ []
word_if false word = []
