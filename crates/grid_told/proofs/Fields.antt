-- What stands under a name.
use Rattle.std.proofs.Common.{◌≡◌, ℕ, ℤ, pos, Bool, false, List, [], ◌∷◌, Option, Some, None, map, refl, ap₂}
use Rattle.std.specs.List.{AllByRecursion}
use Rattle.serde_json.specs.Data.{Num, unsigned, negative, float, Data, null, boolean, number, string, array, object, Items, no_items, item}
use Rattle.serde_json.specs.Find.{get}
use Rattle.serde_json.specs.View.{items_of}

abbrev pub text_of : Data → List ℕ
text_of null = []
text_of (boolean b) = []
text_of (number n) = []
text_of (string s) = s
text_of (array ds) = []
text_of (object ms) = []

abbrev pub flag_of : Data → Bool
flag_of null = false
flag_of (boolean b) = b
flag_of (number n) = false
flag_of (string s) = false
flag_of (array ds) = false
flag_of (object ms) = false

abbrev integer_of : Num → ℤ
integer_of (unsigned n) = pos n
integer_of (negative z) = z
integer_of (float x) = pos 0

abbrev pub whole_of : Data → ℤ
whole_of null = pos 0
whole_of (boolean b) = pos 0
whole_of (number n) = integer_of n
whole_of (string s) = pos 0
whole_of (array ds) = pos 0
whole_of (object ms) = pos 0

abbrev unsigned_of : Num → ℕ
unsigned_of (unsigned n) = n
unsigned_of (negative z) = 0
unsigned_of (float x) = 0

abbrev pub natural_of : Data → ℕ
natural_of null = 0
natural_of (boolean b) = 0
natural_of (number n) = unsigned_of n
natural_of (string s) = 0
natural_of (array ds) = 0
natural_of (object ms) = 0

abbrev pub listed : Items → List Data
listed no_items = []
listed (item d ds) = d ∷ listed ds

abbrev pub list_of : Data → List Data
list_of null = []
list_of (boolean b) = []
list_of (number n) = []
list_of (string s) = []
list_of (array ds) = listed ds
list_of (object ms) = []

abbrev pub or_null : Option Data → Data
or_null None = null
or_null (Some d) = d

abbrev pub at : List ℕ → Data → Data
at name d = or_null (get name d)

-- items that are told one by one
pub items_back : {A : Type 0} (P : A → Type 0) (written : A → Data) (read : Data → A) → ((x : A) → P x → read (written x) ≡ x) → (xs : List A) → AllByRecursion P xs → map read (listed (items_of (map written xs))) ≡ xs
items_back P written read back [] h = refl
items_back P written read back (x ∷ xs) h = ap₂ (λ y ys. y ∷ ys) (back x h.0) (items_back P written read back xs h.1)
