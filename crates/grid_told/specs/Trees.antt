-- Trees whose numbers are whole, and what a reader makes of them.
use Rattle.std.specs.Prelude.{◌≡◌, ◌^◌, ◌<◌, pos, negsuc, None, ⊤, IsUtf8}
use Rattle.serde_json.specs.Data.{Num, unsigned, negative, float, Data, null, boolean, number, string, array, object, Items, no_items, item, Members, no_members, member, put}
use Rattle.serde_json.specs.Find.{get_member}

-- a number from -2^63 to 2^64 - 1 that is no float
abbrev pub IsWhole : Num → Type 0
IsWhole (unsigned n) = n < 2 ^ 64
IsWhole (negative (pos n)) = ⊥
IsWhole (negative (negsuc n)) = n < 2 ^ 63
IsWhole (float x) = ⊥

-- each number is
abbrev mutual
  pub HasWholes : Data → Type 0
  HasWholes null = ⊤
  HasWholes (boolean b) = ⊤
  HasWholes (number n) = IsWhole n
  HasWholes (string s) = ⊤
  HasWholes (array ds) = ItemsHaveWholes ds
  HasWholes (object ms) = MembersHaveWholes ms

  pub ItemsHaveWholes : Items → Type 0
  ItemsHaveWholes no_items = ⊤
  ItemsHaveWholes (item d ds) = HasWholes d × ItemsHaveWholes ds

  pub MembersHaveWholes : Members → Type 0
  MembersHaveWholes no_members = ⊤
  MembersHaveWholes (member k d ms) = HasWholes d × MembersHaveWholes ms

-- each text and each name is UTF-8
abbrev mutual
  pub HasTexts : Data → Type 0
  HasTexts null = ⊤
  HasTexts (boolean b) = ⊤
  HasTexts (number n) = ⊤
  HasTexts (string s) = IsUtf8 s
  HasTexts (array ds) = ItemsHaveTexts ds
  HasTexts (object ms) = MembersHaveTexts ms

  pub ItemsHaveTexts : Items → Type 0
  ItemsHaveTexts no_items = ⊤
  ItemsHaveTexts (item d ds) = HasTexts d × ItemsHaveTexts ds

  pub MembersHaveTexts : Members → Type 0
  MembersHaveTexts no_members = ⊤
  MembersHaveTexts (member k d ms) = IsUtf8 k × (HasTexts d × MembersHaveTexts ms)

-- the names in each object differ
abbrev mutual
  pub NamesDiffer : Data → Type 0
  NamesDiffer null = ⊤
  NamesDiffer (boolean b) = ⊤
  NamesDiffer (number n) = ⊤
  NamesDiffer (string s) = ⊤
  NamesDiffer (array ds) = NamesInItemsDiffer ds
  NamesDiffer (object ms) = MemberNamesDiffer ms

  pub NamesInItemsDiffer : Items → Type 0
  NamesInItemsDiffer no_items = ⊤
  NamesInItemsDiffer (item d ds) = NamesDiffer d × NamesInItemsDiffer ds

  pub MemberNamesDiffer : Members → Type 0
  MemberNamesDiffer no_members = ⊤
  MemberNamesDiffer (member k d ms) = (get_member k ms ≡ None) × (NamesDiffer d × MemberNamesDiffer ms)

-- the value as a reader has it: the members of each object stand by byte order of their names
abbrev mutual
  pub by_name : Data → Data
  by_name null = null
  by_name (boolean b) = boolean b
  by_name (number n) = number n
  by_name (string s) = string s
  by_name (array ds) = array (items_by_name ds)
  by_name (object ms) = object (put_by_name ms no_members)

  pub items_by_name : Items → Items
  items_by_name no_items = no_items
  items_by_name (item d ds) = item (by_name d) (items_by_name ds)

  -- these members, put one after the other to those before
  pub put_by_name : Members → Members → Members
  put_by_name no_members before = before
  put_by_name (member k d ms) before = put_by_name ms (put k (by_name d) before)
