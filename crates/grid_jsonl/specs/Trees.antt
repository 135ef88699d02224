-- Objects whose members keep their order, and their texts.
use Rattle.std.specs.Prelude.{ℕ, ℤ, List, [], ◌∷◌, ◌++◌, Bool, true, false, ◌&&◌, int_le, int_lt, pos, neg_ℤ, ◌^◌, if◌then◌else◌}
use Rattle.json.specs.Print.{quoted}
use Rattle.serde_json.specs.Data.{Data, Members, no_members, member, string, object}
use Rattle.serde_json.specs.Written.{comma_if, compact_text}
use Rattle.grid_print.specs.Objects.{whole}
use Rattle.grid_report.specs.Words.{signed}

abbrev pub members_of : List (List ℕ × Data) → Members
members_of [] = no_members
members_of (f ∷ fields) = member f.0 f.1 (members_of fields)

-- an object with these members, in this order
unfoldable pub ordered : List (List ℕ × Data) → Data
ordered fields = object (members_of fields)

-- ---- the text of members

-- the name of a member, behind a comma where another member stands before it
unfoldable pub name_text : Bool → List ℕ → List ℕ
name_text later name = comma_if later ++ (quoted name ++ 58 ∷ [])

unfoldable pub field_text : Bool → List ℕ × Data → List ℕ
field_text later f = name_text later f.0 ++ compact_text f.1

-- members, each behind a comma
abbrev pub more_text : List (List ℕ × Data) → List ℕ
more_text [] = []
more_text (f ∷ fields) = field_text true f ++ more_text fields

-- the members of an object, without its braces
abbrev pub fields_text : List (List ℕ × Data) → List ℕ
fields_text [] = []
fields_text (f ∷ fields) = field_text false f ++ more_text fields

-- ---- sums

-- a sum has 64 bits, so a number stands for it
unfoldable pub has_64_bits : ℤ → Bool
has_64_bits sum = int_le (neg_ℤ (pos (2 ^ 63))) sum && int_lt sum (pos (2 ^ 63))

-- a text of its digits stands for any other sum
unfoldable pub sum_value : ℤ → Data
sum_value sum = if has_64_bits sum then whole sum else string (signed sum)
