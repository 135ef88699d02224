-- Values whose text is read back as the value: their texts are UTF-8, their numbers are whole and fit 64 bits, and their members stand by rising name.
use Rattle.std.specs.Prelude.{◌≡◌, ◌<◌, ◌^◌, ℕ, pos, negsuc, List, IsUtf8, ⊤}
use Rattle.std.specs.declared.cmp.Ordering.TheVariants.{Less}
use Rattle.std.specs.Ordering.{nat_cmp}
use Rattle.std.specs.Cmp.Lexicographic.{slice_cmp}
use Rattle.serde_json.specs.Data.{Num, unsigned, negative, float, Data, null, boolean, number, string, array, object, Items, no_items, item, Members, no_members, member}

abbrev pub IsSpelledNumber : Num → Type 0
IsSpelledNumber (unsigned n) = n < 2 ^ 64
IsSpelledNumber (negative (pos n)) = ⊥
IsSpelledNumber (negative (negsuc n)) = n < 2 ^ 63
IsSpelledNumber (float x) = ⊥

-- the name stands before each of these
abbrev pub StandsBefore : List ℕ → Members → Type 0
StandsBefore k no_members = ⊤
StandsBefore k (member l e ms) = (slice_cmp nat_cmp k l ≡ Less) × StandsBefore k ms

abbrev mutual
  pub IsSpelled : Data → Type 0
  IsSpelled null = ⊤
  IsSpelled (boolean b) = ⊤
  IsSpelled (number n) = IsSpelledNumber n
  IsSpelled (string s) = IsUtf8 s
  IsSpelled (array ds) = ItemsAreSpelled ds
  IsSpelled (object ms) = MembersAreSpelled ms

  pub ItemsAreSpelled : Items → Type 0
  ItemsAreSpelled no_items = ⊤
  ItemsAreSpelled (item d ds) = IsSpelled d × ItemsAreSpelled ds

  pub MembersAreSpelled : Members → Type 0
  MembersAreSpelled no_members = ⊤
  MembersAreSpelled (member k d ms) = (IsUtf8 k × StandsBefore k ms) × (IsSpelled d × MembersAreSpelled ms)
