-- What is read from tokens, value by value and member by member.
use Rattle.std.specs.Prelude.{◌≡◌, ◌<◌, ◌≤◌, ◌-◌, ℕ, List, ◌∷◌, Bool, true, false, not, Option, Some, None, Result, Ok, length}
use Rattle.std.specs.List.{list_all}
use Rattle.json.specs.Token.{Token}
use Rattle.json.specs.Json.{value, members, read_key}
use Rattle.serde_json.specs.Data.{Data, object, Members, put}
use Rattle.serde_json.specs.Read.{of_json, of_members, converted}
use Rattle.serde_json.specs.Find.{get_member}
use Rattle.grid_value.specs.View.{Listed, put_each}
use Rattle.grid_json.specs.declared.fault.Fault.{Fault}
use Rattle.grid_json.specs.declared.tokens.Offer.{Offer}
use Rattle.grid_json.specs.declared.tokens.Offer.TheVariants.{Taken, Unknown, Fault as Refused}
use Rattle.grid_json.specs.Reading.{present_or, some_of, member_at, knows, all_known}

-- the next value of the tokens is read as x, and the new tokens are those behind it
abbrev pub Streams : {A : Type 0} → (Data → Result A Fault) → ℕ → List Token → List Token → A → Type 0
Streams read depth old new x = (d : Data) × (converted of_json (value depth old) ≡ Some (d, new)) × (read d ≡ Ok x)

-- the slot holds what the next value of the tokens is read as
abbrev pub Fills : {A : Type 0} → (Data → Result A Fault) → ℕ → List Token → List Token → Option A → Type 0
Fills {A} read depth old new slot = (x : A) × (slot ≡ Some x) × Streams read depth old new x

-- the slot of a name holds what the member of that name is read as, and nothing where there is none
pub record Holds {A : Type 0} (read : Data → Result A Fault) (name : List ℕ) (found : Members) (slot : Option A) : Type 0 where
  pub holds : present_or None (λ d. some_of (read d)) name (get_member name found) ≡ Ok slot

-- what held of the members that were found holds with the next value of the tokens put at a name
abbrev pub Takes : {S : Type 0} → (S → Members → Type 0) → List ℕ → ℕ → List Token → List Token → S → S → Type 0
Takes holds name depth old new before after =
    (d : Data) × (converted of_json (value depth old) ≡ Some (d, new))
    × ((found : Members) → holds before found → holds after (put name d found))

-- what a member that was taken came with; it had a slot
abbrev pub WhereTaken : Offer → Type 0 → Type 0
WhereTaken Taken P = P
WhereTaken Unknown P = ⊥
WhereTaken Refused P = Unit {0}

-- the members that were found have these names, and this holds of them
abbrev pub Among : {S : Type 0} → List (List ℕ) → (S → Members → Type 0) → S → Members → Type 0
Among names holds slots found = (all_known names found ≡ true) × holds slots found

-- what came of a member of this name, where these names have slots
abbrev pub Offered : {S : Type 0} → List (List ℕ) → (S → Members → Type 0) → List ℕ → ℕ
    → List Token → List Token → S → S → Offer → Type 0
Offered names holds name depth old new before after Taken =
    (knows names name ≡ true) × Takes holds name depth old new before after × (length new < length old)
Offered names holds name depth old new before after Unknown =
    (knows names name ≡ false) × (new ≡ old) × (after ≡ before)
Offered names holds name depth old new before after Refused = Unit {0}

-- none of these names is among the others
abbrev pub disjoint : List (List ℕ) → List (List ℕ) → Bool
disjoint names others = list_all (λ name. not (knows others name)) names

-- The members of the tokens up to the end of an object, put one by one behind those that were found. Their names are
-- among these, and what held before them holds after them.
abbrev pub IsRest : {S : Type 0} → List (List ℕ) → (S → Members → Type 0) → ℕ → List Token → List Token → S → S → Type 0
IsRest names holds depth old new before after =
    (added : Listed) × (list_all (λ m. knows names m.0) added ≡ true)
    × ((n : ℕ) (found : Members) → length old ≤ n
    → converted (λ ms. of_members ms found) (members (value depth) n old) ≡ Some (put_each added found, new))
    × ((found : Members) → holds before found → holds after (put_each added found))

-- the tokens begin an object whose first member has this name and is read as x, and the new tokens are those behind it
abbrev pub BeginsWith : {A : Type 0} → (Data → Result A Fault) → List ℕ → ℕ → List Token → List Token → A → Type 0
BeginsWith read name depth old new x =
    (inner : List Token) × (behind : List Token) × (0 < depth) × (old ≡ Token.begin_object ∷ inner)
    × (read_key inner ≡ Some (Some name, behind)) × Streams read (depth - 1) behind new x × (length new < length behind)

-- the member of a name is read as x, the other members have these names, and this holds of all
abbrev pub Led : {A S : Type 0} → (Data → Result A Fault) → List ℕ → A → List (List ℕ) → (S → Members → Type 0) → S
    → Members → Type 0
Led read name x names holds slots found =
    (member_at read name (object found) ≡ Ok x) × (all_known (name ∷ names) found ≡ true) × holds slots found

-- the next value of the tokens is an object, and this holds of its members
abbrev pub IsObject : (Members → Type 0) → ℕ → List Token → List Token → Type 0
IsObject holds depth old new = (found : Members) × (converted of_json (value depth old) ≡ Some (object found, new)) × holds found

-- what f makes of what was read, and nothing where nothing was
abbrev pub some_then : {A B : Type 0} → (A → Result B Fault) → Option A → Result (Option B) Fault
some_then f None = Ok None
some_then f (Some x) = some_of (f x)
