-- What is read from a value whose texts keep a rule keeps it, and its numbers fit 64 bits.
use Rattle.std.proofs.Common.{◌≡◌, ◌<◌, ◌^◌, ℕ, ℤ, suc, pos, negsuc, Bool, true, false, cond, List, [], ◌∷◌, Option, Some, None, Result, Ok, Ordering, Less, Equal, Greater, refl, subst}
use Rattle.std.specs.Prelude.{IfSome, decimal, nat_lt, ⊤}
use Rattle.std.specs.List.{AllByRecursion}
use Rattle.std.specs.Ordering.{nat_cmp, match_ordering}
use Rattle.std.specs.Cmp.Lexicographic.{slice_cmp}
use Rattle.std.proofs.lemmas.Bool.{ltb-true}
use Rattle.serde_json.specs.Data.{Num, unsigned, negative, float, Data, null, boolean, number, string, array, object, Items, no_items, item, Members, no_members, member}
use Rattle.serde_json.specs.Find.{get_member, get, as_array}
use Rattle.grid_json.specs.declared.fault.Fault.{Fault}
use Rattle.grid_json.specs.declared.fault.Reason.TheVariants.{WrongKind, NotWhole}
use Rattle.grid_json.specs.Reading.{◌>>=◌, or_fault, under, present, present_or, member_at, member_or, some_of, optional_at, items_at, array_at, whole_at}
use Rattle.grid_json.proofs.Results.{bound, inside, some_read}

-- a number that 64 bits with a sign hold
abbrev pub IsSigned : ℤ → Type 0
IsSigned (pos n) = n < 2 ^ 63
IsSigned (negsuc n) = n < 2 ^ 63

abbrev pub IsLegibleNumber : Num → Type 0
IsLegibleNumber (unsigned n) = ⊤
IsLegibleNumber (negative z) = IsSigned z
IsLegibleNumber (float x) = ⊤

module _ (T : List ℕ → Type 0) where
  abbrev mutual
    pub IsLegible : Data → Type 0
    IsLegible null = ⊤
    IsLegible (boolean b) = ⊤
    IsLegible (number n) = IsLegibleNumber n
    IsLegible (string s) = T s
    IsLegible (array ds) = ItemsAreLegible ds
    IsLegible (object ms) = MembersAreLegible ms

    pub ItemsAreLegible : Items → Type 0
    ItemsAreLegible no_items = ⊤
    ItemsAreLegible (item d ds) = IsLegible d × ItemsAreLegible ds

    pub MembersAreLegible : Members → Type 0
    MembersAreLegible no_members = ⊤
    MembersAreLegible (member k d ms) = IsLegible d × MembersAreLegible ms

  -- ---- members

  member_legible : (name : List ℕ) (ms : Members) (d : Data) → MembersAreLegible ms → get_member name ms ≡ Some d → IsLegible d
  member_legible name no_members d fine is = cc
  member_legible name (member l e ms) d fine is = by (slice_cmp nat_cmp name l) is (member_legible name ms d fine.1)
    where
      by : (o : Ordering) → match_ordering o (get_member name ms) (Some e) (get_member name ms) ≡ Some d → (get_member name ms ≡ Some d → IsLegible d) → IsLegible d
      by Less h later = later h
      by Equal h later = let same : e ≡ d = cc in subst IsLegible same fine.0
      by Greater h later = later h

  get_legible : (name : List ℕ) (d found : Data) → IsLegible d → get name d ≡ Some found → IsLegible found
  get_legible name null found fine is = cc
  get_legible name (boolean b) found fine is = cc
  get_legible name (number n) found fine is = cc
  get_legible name (string s) found fine is = cc
  get_legible name (array ds) found fine is = cc
  get_legible name (object ms) found fine is = member_legible name ms found fine is

  -- what is read of a legible value keeps a rule
  abbrev pub Reads : {A : Type 0} → (A → Type 0) → (Data → Result A Fault) → Type 0
  Reads {A} R read = (d : Data) (x : A) → IsLegible d → read d ≡ Ok x → R x

  array_legible : (d : Data) (ds : Items) → IsLegible d → as_array d ≡ Some ds → ItemsAreLegible ds
  array_legible null ds fine e = cc
  array_legible (boolean b) ds fine e = cc
  array_legible (number n) ds fine e = cc
  array_legible (string s) ds fine e = cc
  array_legible (array es) ds fine e = let same : es ≡ ds = cc in subst ItemsAreLegible same fine
  array_legible (object ms) ds fine e = cc

  -- what is read of the items of an array
  pub items_of_array : {B : Type 0} (R : B → Type 0) (read : Items → Result B Fault) → ((ds : Items) (x : B) → ItemsAreLegible ds → read ds ≡ Ok x → R x) → Reads R (λ d. or_fault WrongKind (as_array d) >>= read)
  items_of_array {B} R read reads d x fine is = by (as_array d) refl is
    where
      by : (found : Option Items) → as_array d ≡ found → (or_fault WrongKind found >>= read) ≡ Ok x → R x
      by None e h = cc
      by (Some ds) e h = reads ds x (array_legible d ds fine e) h

  module _ {A : Type 0} (R : A → Type 0) (read : Data → Result A Fault) (reads : Reads R read) where
    pub member_reads : (name : List ℕ) → Reads R (member_at read name)
    member_reads name d x fine is = by (get name d) refl is
      where
        by : (found : Option Data) → get name d ≡ found → present read name found ≡ Ok x → R x
        by None e h = cc
        by (Some v) e h = reads v x (get_legible name d v fine e) (inside name (read v) x h)

    pub either_reads : (otherwise : A) (name : List ℕ) → R otherwise → Reads R (member_or otherwise read name)
    either_reads otherwise name kept d x fine is = by (get name d) refl is
      where
        by : (found : Option Data) → get name d ≡ found → present_or otherwise read name found ≡ Ok x → R x
        by None e h = let same : otherwise ≡ x = cc in subst R same kept
        by (Some v) e h = reads v x (get_legible name d v fine e) (inside name (read v) x h)

    items_read : (n : ℕ) (ds : Items) (xs : List A) → ItemsAreLegible ds → items_at read n ds ≡ Ok xs → AllByRecursion R xs
    unfolding items_at
    items_read n no_items xs fine is = let none : [] ≡ xs = cc in subst (AllByRecursion R) none tt
    items_read n (item d ds) xs fine is =
        let a = bound (under (decimal n) (read d)) (λ x. items_at read (suc n) ds >>= λ ys. Ok (x ∷ ys)) xs is in
        let b = bound (items_at read (suc n) ds) (λ ys. Ok (a.0 ∷ ys)) xs a.2 in
        let same : a.0 ∷ b.0 ≡ xs = cc (b.2) in
        let all : AllByRecursion R (a.0 ∷ b.0) = (reads d a.0 fine.0 (inside (decimal n) (read d) a.0 a.1), items_read (suc n) ds b.0 fine.1 b.1) in
        subst (AllByRecursion R) same all

    pub array_reads : Reads (AllByRecursion R) (array_at read)
    array_reads = items_of_array (AllByRecursion R) (items_at read 0) (items_read 0)

  pub optional_reads : {A : Type 0} (R : A → Type 0) (read : Data → Result A Fault) → Reads R read → (name : List ℕ) → Reads (λ o. IfSome o R) (optional_at read name)
  optional_reads {A} R read reads name = either_reads (λ o. IfSome o R) (λ v. some_of (read v)) by None name tt
    where
      by : Reads (λ o. IfSome o R) (λ v. some_of (read v))
      by d o fine is =
          let a = some_read (read d) o is in
          let kept : IfSome (Some a.0) R = reads d a.0 fine a.1 in
          rw a.2 kept

  -- ---- ids and numbers

  -- a number that was read fits 64 bits with a sign
  pub number_reads : Reads IsSigned whole_at
  number_reads null z fine is = cc
  number_reads (boolean b) z fine is = cc
  number_reads (number (unsigned n)) z fine is = by (nat_lt n (2 ^ 63)) refl is
    where
      by : (b : Bool) → nat_lt n (2 ^ 63) ≡ b → or_fault NotWhole (cond b (Some (pos n)) None) ≡ Ok z → IsSigned z
      by true e h = let same : pos n ≡ z = cc in subst IsSigned same (ltb-true n (2 ^ 63) e)
      by false e h = cc
  number_reads (number (negative y)) z fine is = let same : y ≡ z = cc in subst IsSigned same fine
  number_reads (number (float x)) z fine is = cc
  number_reads (string s) z fine is = cc
  number_reads (array ds) z fine is = cc
  number_reads (object ms) z fine is = cc
