-- What a JSON value is read as, or the first fault and its place.
use Rattle.std.specs.Prelude.{◌≡◌, ℕ, suc, ℤ, List, [], ◌∷◌, ◌++◌, Bool, true, ◌&&◌, Option, Some, None, Result, Ok, Err, decimal, if◌then◌else◌, map, ⊤}
use Rattle.std.specs.Str.{bytes_eq}
use Rattle.std.specs.Borrow.{Bor}
use Rattle.std.specs.List.{list_any}
use Rattle.serde_json.specs.Data.{Data, Items, no_items, item, Members, no_members, member}
use Rattle.serde_json.specs.Find.{get, as_number, as_i64, as_bool, as_str, as_array, as_object}
use Rattle.grid_json.specs.declared.fault.Fault.{Fault}
use Rattle.grid_json.specs.declared.fault.Reason.{Reason}
use Rattle.grid_json.specs.declared.fault.Reason.TheVariants.{Missing, WrongKind, NotWhole, Unknown, Name}
use Rattle.grid_json.specs.declared.fault.ReadError.{ReadError}
use Rattle.grid_json.specs.declared.fault.ReadError.TheVariants as errors
use Rattle.grid_ids.specs.declared.id.IdFault.{IdFault}
use Rattle.grid_ids.specs.Fault.{id_fault}

infixl 10 ◌>>=◌
abbrev pub ◌>>=◌ : {A B : Type 0} → Result A Fault → (A → Result B Fault) → Result B Fault
(Ok x) >>= f = f x
(Err e) >>= f = Err e

-- What a function returned is what reading gives, unless memory ran out.
abbrev pub Fails : {Y : Type 0} → ReadError → Result Y Fault → Type 0
Fails errors.Memory read = Unit {0}
Fails (errors.Fault f) read = read ≡ Err f

abbrev pub Gives : {X : Type 0} → Result X ReadError → Result X Fault → Type 0
Gives (Ok x) read = read ≡ Ok x
Gives (Err e) read = Fails e read

-- ---- places

abbrev pub here : Reason → Fault
here reason = record { place = []; reason = reason }

-- the fault, seen from the value that holds its value under a name
abbrev pub placed : List ℕ → Fault → Fault
placed name f = record { place = 47 ∷ (name ++ f.place); reason = f.reason }

abbrev pub under : {A : Type 0} → List ℕ → Result A Fault → Result A Fault
under name (Ok x) = Ok x
under name (Err f) = Err (placed name f)

abbrev pub IsUnder : List ℕ → ReadError → ReadError → Type 0
IsUnder name e errors.Memory = Unit {0}
IsUnder name errors.Memory (errors.Fault g) = ⊥
IsUnder name (errors.Fault f) (errors.Fault g) = g ≡ placed name f

-- ---- values

abbrev pub or_fault : {A : Type 0} → Reason → Option A → Result A Fault
or_fault reason None = Err (here reason)
or_fault reason (Some x) = Ok x

abbrev pub whole_at : Data → Result ℤ Fault
whole_at d = or_fault WrongKind (as_number d) >>= λ n. or_fault NotWhole (as_i64 n)

abbrev pub flag_at : Data → Result Bool Fault
flag_at d = or_fault WrongKind (as_bool d)

abbrev pub named : List ℕ → Option IdFault → Result (List ℕ) Fault
named text None = Ok text
named text (Some fault) = Err (here (Name fault))

abbrev pub id_at : Data → Result (List ℕ) Fault
id_at d = or_fault WrongKind (as_str d) >>= λ text. named text (id_fault text)

-- ---- members

abbrev pub present : {A : Type 0} → (Data → Result A Fault) → List ℕ → Option Data → Result A Fault
present read name None = Err (placed name (here Missing))
present read name (Some d) = under name (read d)

abbrev pub member_at : {A : Type 0} → (Data → Result A Fault) → List ℕ → Data → Result A Fault
member_at read name d = present read name (get name d)

abbrev pub present_or : {A : Type 0} → A → (Data → Result A Fault) → List ℕ → Option Data → Result A Fault
present_or otherwise read name None = Ok otherwise
present_or otherwise read name (Some d) = under name (read d)

abbrev pub member_or : {A : Type 0} → A → (Data → Result A Fault) → List ℕ → Data → Result A Fault
member_or otherwise read name d = present_or otherwise read name (get name d)

abbrev pub some_of : {A : Type 0} → Result A Fault → Result (Option A) Fault
some_of (Ok x) = Ok (Some x)
some_of (Err f) = Err f

abbrev pub optional_at : {A : Type 0} → (Data → Result A Fault) → List ℕ → Data → Result (Option A) Fault
optional_at read name d = member_or None (λ v. some_of (read v)) name d

-- ---- objects

abbrev pub texts : List (Bor (List ℕ)) → List (List ℕ)
texts names = map (λ n. n.now) names

abbrev pub knows : List (List ℕ) → List ℕ → Bool
knows names name = list_any (λ known. bytes_eq known name) names

-- each member's name is among these
abbrev pub all_known : List (List ℕ) → Members → Bool
all_known names no_members = true
all_known names (member name d ms) = knows names name && all_known names ms

abbrev pub only_at : List (List ℕ) → Data → Result ⊤ Fault
only_at names d = or_fault WrongKind (as_object d) >>= λ ms. if all_known names ms then Ok tt else Err (here Unknown)

-- ---- arrays

unfoldable pub items_at : {A : Type 0} → (Data → Result A Fault) → ℕ → Items → Result (List A) Fault
items_at read i no_items = Ok []
items_at read i (item d ds) = under (decimal i) (read d) >>= λ x. items_at read (suc i) ds >>= λ xs. Ok (x ∷ xs)

abbrev pub array_at : {A : Type 0} → (Data → Result A Fault) → Data → Result (List A) Fault
array_at read d = or_fault WrongKind (as_array d) >>= λ ds. items_at read 0 ds

abbrev pub object_at : Data → Result ⊤ Fault
object_at d = or_fault WrongKind (as_object d) >>= λ _. Ok tt

-- what a word stands for
abbrev pub word_among : {A : Type 0} → List (List ℕ × A) → List ℕ → Result A Fault
word_among [] word = Err (here Unknown)
word_among (w ∷ words) word = if bytes_eq word w.0 then Ok w.1 else word_among words word

-- what a text stands for, by a list of words
abbrev pub word_at : {A : Type 0} → List (List ℕ × A) → Data → Result A Fault
word_at words d = or_fault WrongKind (as_str d) >>= word_among words
