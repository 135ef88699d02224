-- States that are kept once for several variants.
use Rattle.std.proofs.Common.{◌≡◌, ◌≢◌, refl, sym, ap, ◌∙◌, subst, ℕ, zero, suc, ◌+◌, ◌-◌, ◌<◌, ◌≤◌, Bool, true, false, List, [], ◌∷◌, ◌++◌, length, map, get_or, set, arith, inl, inr, length-set, length-append}
use Rattle.std.specs.Prelude.{insert, remove, All, Contains, ◌==◌, if◌then◌else◌}
use Rattle.std.specs.List.{list_any}
use Rattle.std.proofs.lemmas.Bool.{cases_eq, cases_lt, eqb-true, eq-eqb, ne_eqb, true≢false, false_from_ne_true}
use Rattle.std.proofs.lemmas.Grind.{get_or_default_zero}
use Rattle.std.proofs.lemmas.List.{set-get_or, get_or-set_same, get_or-set_other, get_or-map, length-map, get_or_default, get_or_append_left, get_or_at, ext_get_or}
use Rattle.std.proofs.lemmas.List.Edits.{get_or-insert_at, get_or-insert_below, get_or-insert_above, get_or-remove_below, get_or-remove_above, length-insert, length-remove}
use Rattle.std.proofs.lemmas.List.Elements.{All-get_or, All-from_get_or}
use Rattle.std.proofs.lemmas.List.Folds.{list_any_at, list_any_none, Any-from_list_any}
use Rattle.grid_states.specs.Rows.{Rows, no_rows}
use Rattle.grid_slots.proofs.VariantSums.{first, one_more}
use Rattle.grid_slots.specs.Kept.{kept_rows, rows_in_place, number_at, AreKept, AreKeptBut, IsSole, IsShared, IsOwn}

-- ---- what is in a list

pub contains_at : (xs : List ℕ) (i x : ℕ) → i < length xs → number_at xs i ≡ x → Contains xs x
contains_at xs i x lt e = (i, lt, get_or_default_zero xs i x lt ∙ e)

number_of : (xs : List ℕ) (x : ℕ) (is : Contains xs x) → number_at xs is.0 ≡ x
number_of xs x is = sym (get_or_default_zero xs is.0 x is.1) ∙ is.2

-- ---- the rows of each

module _ (numbers : List ℕ) (states : List Rows) where
  pub rows_long : length (kept_rows numbers states) ≡ length numbers
  unfolding kept_rows
  rows_long = length-map numbers (rows_in_place states)

  pub rows_at_number : (i : ℕ) → i < length numbers
      → rows_in_place (kept_rows numbers states) i ≡ rows_in_place states (number_at numbers i)
  unfolding kept_rows
  rows_at_number i lt = get_or-map (rows_in_place states) numbers i 0 no_rows lt

-- rows that agree at each place
same_rows : (numbers : List ℕ) (states : List Rows) (all : List Rows) → length numbers ≡ length all
    → ((i : ℕ) → i < length numbers → rows_in_place states (number_at numbers i) ≡ rows_in_place all i)
    → kept_rows numbers states ≡ all
same_rows numbers states all long each =
    let size = rows_long numbers states in
    ext_get_or no_rows (kept_rows numbers states) all (omega (arith, size, long)) (λ i lt.
    let below : i < length numbers = omega (arith, size, lt) in rows_at_number numbers states i below ∙ each i below)

pub number_within : (numbers : List ℕ) (count : ℕ) → All (λ n. n < count) numbers → (i : ℕ) → i < length numbers
    → number_at numbers i < count
number_within numbers count all i lt = All-get_or (λ n. n < count) numbers i 0 lt all

-- ---- one alone

module _ (numbers : List ℕ) (states : List Rows) (place : ℕ) (lt : place < length numbers)
    (within : All (λ n. n < length states) numbers) where
  -- a write to states that one place has alone
  pub alone_set : IsSole numbers place → (w : Rows)
      → kept_rows numbers (set states (number_at numbers place) w) ≡ set (kept_rows numbers states) place w
  alone_set sole w =
      let size = length-set (kept_rows numbers states) place w in
      let long = rows_long numbers states in
      same_rows numbers (set states (number_at numbers place) w) (set (kept_rows numbers states) place w)
      (omega (arith, size, long)) (λ i below. elim (cases_eq i place) [
        | inl here ↦
            ap (λ k. rows_in_place (set states (number_at numbers place) w) (number_at numbers k)) here
            ∙ get_or-set_same states (number_at numbers place) w no_rows
            (number_within numbers (length states) within place lt)
            ∙ sym (ap (rows_in_place (set (kept_rows numbers states) place w)) here
            ∙ get_or-set_same (kept_rows numbers states) place w no_rows (omega (arith, long, lt)))
        | inr other ↦
            get_or-set_other states (number_at numbers place) (number_at numbers i) w no_rows (sole i below other)
            ∙ sym (rows_at_number numbers states i below)
            ∙ sym (get_or-set_other (kept_rows numbers states) place i w no_rows other)
      ])

  -- a place that gets a copy of its own
  module _ (numbers_new : List ℕ) (states_new : List Rows) (made : numbers_new ≡ set numbers place (length states))
      (pushed : states_new ≡ states ++ rows_in_place states (number_at numbers place) ∷ []) where
    more : length states_new ≡ length states + 1
    more = ap length pushed ∙ length-append states (rows_in_place states (number_at numbers place) ∷ [])

    long_new : length numbers_new ≡ length numbers
    long_new = ap length made ∙ length-set numbers place (length states)

    at_place : number_at numbers_new place ≡ length states
    at_place = ap (λ z. number_at z place) made ∙ get_or-set_same numbers place (length states) 0 lt

    at_other : (i : ℕ) → i ≢ place → number_at numbers_new i ≡ number_at numbers i
    at_other i other = ap (λ z. number_at z i) made ∙ get_or-set_other numbers place i (length states) 0 other

    new_rows : kept_rows numbers_new states_new ≡ kept_rows numbers states
    new_rows =
        let size = rows_long numbers states in
        same_rows numbers_new states_new (kept_rows numbers states) (omega (arith, size, long_new))
        (λ i below. let old : i < length numbers = omega (arith, below, long_new) in elim (cases_eq i place) [
          | inl here ↦
              ap (λ k. rows_in_place states_new (number_at numbers_new k)) here
              ∙ ap (rows_in_place states_new) at_place ∙ ap (λ z. rows_in_place z (length states)) pushed
              ∙ get_or_at states (rows_in_place states (number_at numbers place)) [] no_rows (length states) refl
              ∙ sym (ap (rows_in_place (kept_rows numbers states)) here ∙ rows_at_number numbers states place lt)
          | inr other ↦
              ap (rows_in_place states_new) (at_other i other) ∙ ap (λ z. rows_in_place z (number_at numbers i)) pushed
              ∙ get_or_append_left states (rows_in_place states (number_at numbers place) ∷ []) no_rows
              (number_at numbers i) (number_within numbers (length states) within i old)
              ∙ sym (rows_at_number numbers states i old)
        ])

    new_within : All (λ n. n < length states_new) numbers_new
    new_within = All-from_get_or (λ n. n < length states_new) numbers_new 0 (λ i below. elim (cases_eq i place) [
      | inl here ↦ let is = ap (number_at numbers_new) here ∙ at_place in omega (arith, is, more)
      | inr other ↦
          let is = at_other i other in
          let old = number_within numbers (length states) within i (omega (arith, below, long_new)) in
          omega (arith, is, old, more)
    ])

    new_used : ((k : ℕ) → k < length states → Contains numbers k) → IsShared numbers place → (k : ℕ)
        → k < length states_new → Contains numbers_new k
    new_used used shared k below = elim (cases_eq k (length states)) [
      | inl last ↦ contains_at numbers_new place k (omega (arith, lt, long_new)) (at_place ∙ sym last)
      | inr old ↦
          let there = used k (omega (arith, below, more, old)) in
          let number = number_of numbers k there in
          let within_there : there.0 < length numbers = there.1 in
          elim (cases_eq there.0 place) [
            | inl here ↦
                contains_at numbers_new shared.other k (let other = shared.below in omega (arith, other, long_new))
                (at_other shared.other shared.apart ∙ shared.same ∙ sym (ap (number_at numbers) here) ∙ number)
            | inr other ↦ contains_at numbers_new there.0 k (omega (arith, within_there, long_new))
                (at_other there.0 other ∙ number)
          ]
    ]

    new_sole : IsSole numbers_new place
    new_sole i below other same =
        let old = number_within numbers (length states) within i (omega (arith, below, long_new)) in
        let is : number_at numbers i ≡ length states = sym (at_other i other) ∙ same ∙ at_place in
        omega (arith, old, is)

    pub own_copy : ((k : ℕ) → k < length states → Contains numbers k) → IsShared numbers place
        → IsOwn numbers states numbers_new states_new place (length states)
    own_copy used shared = record {
      rows = new_rows;
      kept = record { within = new_within; used = new_used used shared };
      named = at_place;
      sole = new_sole;
    }

module _ {old_numbers numbers : List ℕ} {old_states states : List Rows} {place own : ℕ}
    (is : IsOwn old_numbers old_states numbers states place own) (lt : place < length old_numbers) where
  own_lt : place < length numbers
  own_lt =
      let old = rows_long old_numbers old_states in
      let new = rows_long numbers states in
      let same = ap length is.rows in
      omega (arith, lt, old, new, same)

  pub own_below : own < length states
  own_below = subst (λ k. k < length states) is.named
      (number_within numbers (length states) is.kept.within place own_lt)

  pub own_set : (w : Rows) → kept_rows numbers (set states own w) ≡ set (kept_rows old_numbers old_states) place w
  own_set w =
      ap (λ k. kept_rows numbers (set states k w)) (sym is.named)
      ∙ alone_set numbers states place own_lt is.kept.within is.sole w
      ∙ ap (λ z. set z place w) is.rows

  pub own_at : (x : Rows) → x ≡ get_or states own x → x ≡ rows_in_place (kept_rows old_numbers old_states) place
  own_at x read =
      read ∙ get_or_default states own x no_rows own_below ∙ ap (rows_in_place states) (sym is.named)
      ∙ sym (rows_at_number numbers states place own_lt)
      ∙ ap (λ z. rows_in_place z place) is.rows

-- ---- what an index gives, under the name that a contract has for the rows

module _ (numbers : List ℕ) (states self : List Rows) (same : kept_rows numbers states ≡ self) where
  pub self_long : length self ≡ length numbers
  self_long = sym (ap length same) ∙ rows_long numbers states

  module _ (i n : ℕ) (lt : i < length self) (read : n ≡ get_or numbers i n) where
    here : i < length numbers
    here = omega (arith, lt, self_long)

    number_is : n ≡ number_at numbers i
    number_is = read ∙ get_or_default_zero numbers i n here

    pub below_count : All (λ n. n < length states) numbers → n < length states
    below_count within = subst (λ k. k < length states) (sym number_is)
        (number_within numbers (length states) within i here)

    pub rows_are : rows_in_place self i ≡ rows_in_place states n
    rows_are = ap (λ z. rows_in_place z i) (sym same) ∙ rows_at_number numbers states i here
        ∙ ap (rows_in_place states) (sym number_is)

    pub states_are : (rows : Rows) → All (λ n. n < length states) numbers → rows ≡ get_or states n rows
        → rows ≡ rows_in_place self i
    states_are rows within is = is ∙ get_or_default states n rows no_rows (below_count within) ∙ sym rows_are

  pub same_number : (i j n m : ℕ) → i < length self → j < length self → n ≡ get_or numbers i n → m ≡ get_or numbers j m
      → (n == m) ≡ true → rows_in_place self i ≡ rows_in_place self j
  same_number i j n m lt below read also equal = rows_are i n lt read ∙ ap (rows_in_place states) (eqb-true n m equal)
      ∙ sym (rows_are j m below also)

-- what is pushed for a place that gets its own
pub copy_is : (numbers : List ℕ) (states : List Rows) (place n : ℕ) (rows : Rows) → place < length numbers
    → All (λ k. k < length states) numbers
    → n ≡ get_or numbers place n → rows ≡ get_or states n rows → rows ≡ rows_in_place states (number_at numbers place)
copy_is numbers states place n rows lt within read is =
    let at = read ∙ get_or_default_zero numbers place n lt in
    let below = number_within numbers (length states) within place lt in
    is ∙ get_or_default states n rows no_rows (omega (arith, at, below)) ∙ ap (rows_in_place states) at

pub first_rows : (none numbers : List ℕ) (without states : List Rows) (rows : Rows) → none ≡ []
    → numbers ≡ none ++ 0 ∷ [] → without ≡ [] → states ≡ without ++ rows ∷ []
    → kept_rows numbers states ≡ rows ∷ []
unfolding kept_rows
first_rows none numbers without states rows e made f pushed =
    ap (λ z. kept_rows z states) (made ∙ ap (λ z. z ++ 0 ∷ []) e)
    ∙ ap (kept_rows (0 ∷ [])) (pushed ∙ ap (λ z. z ++ rows ∷ []) f)

-- ---- numbers that are given for others

module _ (from to : ℕ) where
  abbrev pub renumbering : ℕ → ℕ
  renumbering n = if n == from then to else n

  is_from : (n : ℕ) → n ≡ from → renumbering n ≡ to
  is_from n is = rw (eq-eqb n from is) refl

  not_from : (n : ℕ) → n ≢ from → renumbering n ≡ n
  not_from n other = rw (ne_eqb n from other) refl

  module _ (k : ℕ) (old now : List ℕ) (x : ℕ) (same : now ≡ first renumbering k old) (read : x ≡ get_or now k x)
      (lt : k < length old) where
    pub renumbered : x ≡ from → set now k to ≡ first renumbering (k + 1) old
    renumbered is = one_more renumbering k old now x to same read (sym (is_from x is)) lt

    pub left_number : x ≢ from → now ≡ first renumbering (k + 1) old
    left_number other = sym (ap (set now k) read ∙ set-get_or now k x)
        ∙ one_more renumbering k old now x x same read (sym (not_from x other)) lt

-- ---- states that go

module _ (numbers : List ℕ) (states less : List Rows) (number last : ℕ)
    (kept : AreKeptBut numbers (length states) number)
    (lt : number < length states) (none : list_any (λ n. n == number) numbers ≡ false)
    (long : length less + 1 ≡ length states) (is_last : last ≡ length less)
    (moved : (d : Rows) → number + 1 < length states → get_or less number d ≡ get_or states (length states - 1) d)
    (stay : (k : ℕ) (d : Rows) → k ≢ number → k + 1 < length states → get_or less k d ≡ get_or states k d) where
  apart : (i : ℕ) → i < length numbers → number_at numbers i ≢ number
  apart i below same = true≢false
      (sym (list_any_at (λ n. n == number) numbers i 0 below (eq-eqb (number_at numbers i) number same)) ∙ none)

  new_long : length (map (renumbering last number) numbers) ≡ length numbers
  new_long = length-map numbers (renumbering last number)

  new_number : (i : ℕ) → i < length numbers
      → number_at (map (renumbering last number) numbers) i ≡ renumbering last number (number_at numbers i)
  new_number i below = get_or-map (renumbering last number) numbers i 0 0 below

  -- where the last states are some variant's, they are not those that go
  not_last : (n : ℕ) → n ≢ number → n ≡ last → number + 1 < length states
  not_last n other is = omega (arith, lt, long, is_last, other, is)

  before_last : (n : ℕ) → n < length states → n ≢ last → n + 1 < length states
  before_last n below other = omega (arith, below, long, is_last, other)

  pub released_rows : kept_rows (map (renumbering last number) numbers) less ≡ kept_rows numbers states
  released_rows =
      let size = rows_long numbers states in
      same_rows (map (renumbering last number) numbers) less (kept_rows numbers states) (omega (arith, size, new_long))
      (λ i below.
      let old : i < length numbers = omega (arith, below, new_long) in
      let n : ℕ = number_at numbers i in
      let there = number_within numbers (length states) kept.within i old in
      ap (rows_in_place less) (new_number i old)
      ∙ elim (cases_eq n last) [
        | inl is ↦
            let at : length states - 1 ≡ n = omega (arith, long, is_last, is) in
            ap (rows_in_place less) (is_from last number n is) ∙ moved no_rows (not_last n (apart i old) is)
            ∙ ap (rows_in_place states) at
        | inr other ↦ ap (rows_in_place less) (not_from last number n other)
            ∙ stay n no_rows (apart i old) (before_last n there other)
      ]
      ∙ sym (rows_at_number numbers states i old))

  released_within : All (λ n. n < length less) (map (renumbering last number) numbers)
  released_within = All-from_get_or (λ n. n < length less) (map (renumbering last number) numbers) 0 (λ i below.
      let old : i < length numbers = omega (arith, below, new_long) in
      let n : ℕ = number_at numbers i in
      let there = number_within numbers (length states) kept.within i old in
      subst (λ m. m < length less) (sym (new_number i old)) (elim (cases_eq n last) [
        | inl is ↦
            let room = not_last n (apart i old) is in
            subst (λ m. m < length less) (sym (is_from last number n is)) (omega (arith, room, long))
        | inr other ↦
            let room = before_last n there other in
            subst (λ m. m < length less) (sym (not_from last number n other)) (omega (arith, room, long))
      ]))

  released_used : (k : ℕ) → k < length less → Contains (map (renumbering last number) numbers) k
  released_used k below = elim (cases_eq k number) [
    | inl here ↦
        let there = kept.used last (omega (arith, long, is_last)) (omega (arith, below, is_last, here)) in
        let read = number_of numbers last there in
        let within : there.0 < length numbers = there.1 in
        contains_at (map (renumbering last number) numbers) there.0 k (omega (arith, within, new_long))
        (new_number there.0 within ∙ is_from last number (number_at numbers there.0) read ∙ sym here)
    | inr other ↦
        let there = kept.used k (omega (arith, below, long)) other in
        let read = number_of numbers k there in
        let within : there.0 < length numbers = there.1 in
        contains_at (map (renumbering last number) numbers) there.0 k (omega (arith, within, new_long))
        (new_number there.0 within ∙ not_from last number (number_at numbers there.0)
        (omega (arith, read, below, is_last)) ∙ read)
  ]

  pub released : AreKept (map (renumbering last number) numbers) (length less)
  released = record { within = released_within; used = released_used }

-- where some variant has the number after all
pub still_kept : (numbers : List ℕ) (count number : ℕ) → AreKeptBut numbers count number
    → list_any (λ n. n == number) numbers ≡ true → AreKept numbers count
still_kept numbers count number kept some = record {
  within = kept.within;
  used = λ k lt. elim (cases_eq k number) [
    | inl here ↦
        let there = Any-from_list_any (λ n. n == number) numbers some in (
          there.0,
          there.2,
          get_or_default_zero numbers there.0 k there.2
              ∙ sym (get_or_default_zero numbers there.0 there.1 there.2) ∙ there.3 ∙ eqb-true there.1 number there.4
              ∙ sym here,
        )
    | inr other ↦ kept.used k lt other
  ];
}

-- ---- numbers that are put, that come and that go

module _ (numbers : List ℕ) (count place m : ℕ) (kept : AreKept numbers count) (low : m < count) where
  pub put_kept : place < length numbers → (former : ℕ) → former ≡ number_at numbers place
      → AreKeptBut (set numbers place m) count former
  put_kept lt former was =
      let size = length-set numbers place m in record {
        within = All-from_get_or (λ n. n < count) (set numbers place m) 0 (λ i below. elim (cases_eq i place) [
          | inl here ↦ let is = ap (number_at (set numbers place m)) here
              ∙ get_or-set_same numbers place m 0 lt in omega (arith, is, low)
          | inr other ↦
              let is = get_or-set_other numbers place i m 0 other in
              let old = number_within numbers count kept.within i (omega (arith, below, size)) in omega (arith, is, old)
        ]);
        used = λ k below differs.
            let there = kept.used k below in
            let read = number_of numbers k there in
            let within : there.0 < length numbers = there.1 in
            contains_at (set numbers place m) there.0 k (omega (arith, within, size))
            (get_or-set_other numbers place there.0 m 0
            (λ here. differs (sym read ∙ ap (number_at numbers) here ∙ sym was)) ∙ read);
      }

  pub inserted_kept : place ≤ length numbers → AreKept (insert numbers place m) count
  inserted_kept le =
      let size = length-insert numbers place m le in record {
        within = All-from_get_or (λ n. n < count) (insert numbers place m) 0 (λ i below. elim (cases_eq i place) [
          | inl here ↦ let is = ap (number_at (insert numbers place m)) here
              ∙ get_or-insert_at numbers place m 0 le in omega (arith, is, low)
          | inr other ↦ elim (cases_lt i place) [
            | inl before ↦
                let is = get_or-insert_below numbers place m 0 i before le in
                let old = number_within numbers count kept.within i (omega (arith, before, le)) in
                omega (arith, is, old)
            | inr behind ↦
                let back : i - 1 + 1 ≡ i = omega (arith, other, behind) in
                let is = ap (number_at (insert numbers place m)) (sym back)
                ∙ get_or-insert_above numbers place m 0 (i - 1) (omega (arith, other, behind)) le in
                let old = number_within numbers count kept.within (i - 1) (omega (arith, below, size, back)) in
                omega (arith, is, old)
          ]
        ]);
        used = λ k below.
            let there = kept.used k below in
            let read = number_of numbers k there in
            let within : there.0 < length numbers = there.1 in
            elim (cases_lt there.0 place) [
              | inl before ↦ contains_at (insert numbers place m) there.0 k (omega (arith, within, size))
                  (get_or-insert_below numbers place m 0 there.0 before le ∙ read)
              | inr behind ↦ contains_at (insert numbers place m) (there.0 + 1) k (omega (arith, within, size))
                  (get_or-insert_above numbers place m 0 there.0 behind le ∙ read)
            ];
      }

pub removed_kept : (numbers : List ℕ) (count place former : ℕ) → AreKept numbers count → place < length numbers
    → former ≡ number_at numbers place → AreKeptBut (remove numbers place) count former
removed_kept numbers count place former kept lt was =
    let size = length-remove numbers place lt in record {
      within = All-from_get_or (λ n. n < count) (remove numbers place) 0 (λ i below. elim (cases_lt i place) [
        | inl before ↦
            let is = get_or-remove_below numbers place 0 i before lt in
            let old = number_within numbers count kept.within i (omega (arith, before, lt)) in omega (arith, is, old)
        | inr behind ↦
            let is = get_or-remove_above numbers place 0 i behind lt in
            let old = number_within numbers count kept.within (i + 1) (omega (arith, below, size)) in
            omega (arith, is, old)
      ]);
      used = λ k below differs.
          let there = kept.used k below in
          let read = number_of numbers k there in
          let within : there.0 < length numbers = there.1 in
          let apart : there.0 ≢ place = λ here. differs (sym read ∙ ap (number_at numbers) here ∙ sym was) in
          elim (cases_lt there.0 place) [
            | inl before ↦ contains_at (remove numbers place) there.0 k (omega (arith, before, lt, size))
                (get_or-remove_below numbers place 0 there.0 before lt ∙ read)
            | inr behind ↦
                let back : there.0 - 1 + 1 ≡ there.0 = omega (arith, behind, apart) in
                contains_at (remove numbers place) (there.0 - 1) k (omega (arith, within, size, back))
                (get_or-remove_above numbers place 0 (there.0 - 1) (omega (arith, behind, apart)) lt
                ∙ ap (number_at numbers) back ∙ read)
          ];
    }

module _ (states : List Rows) where
  pub rows_put : (numbers : List ℕ) (place m : ℕ)
      → kept_rows (set numbers place m) states ≡ set (kept_rows numbers states) place (rows_in_place states m)
  unfolding kept_rows
  rows_put [] place m = refl
  rows_put (n ∷ numbers) zero m = refl
  rows_put (n ∷ numbers) (suc place) m = ap (λ rest. rows_in_place states n ∷ rest) (rows_put numbers place m)

  pub rows_inserted : (numbers : List ℕ) (place m : ℕ)
      → kept_rows (insert numbers place m) states ≡ insert (kept_rows numbers states) place (rows_in_place states m)
  unfolding kept_rows
  rows_inserted [] zero m = refl
  rows_inserted [] (suc place) m = refl
  rows_inserted (n ∷ numbers) zero m = refl
  rows_inserted (n ∷ numbers) (suc place) m = ap (λ rest. rows_in_place states n ∷ rest) (rows_inserted numbers place m)

  pub rows_removed : (numbers : List ℕ) (place : ℕ)
      → kept_rows (remove numbers place) states ≡ remove (kept_rows numbers states) place
  unfolding kept_rows
  rows_removed [] zero = refl
  rows_removed [] (suc place) = refl
  rows_removed (n ∷ numbers) zero = refl
  rows_removed (n ∷ numbers) (suc place) = ap (λ rest. rows_in_place states n ∷ rest) (rows_removed numbers place)

-- ---- all of them changed

module _ (numbers : List ℕ) (states self : List Rows) (kept : AreKept numbers (length states))
    (same : kept_rows numbers states ≡ self) where
  pub rows_changed : (change : Rows → Rows) → kept_rows numbers (map change states) ≡ map change self
  rows_changed change =
      let size = length-map (kept_rows numbers states) change in
      let long = rows_long numbers states in
      same_rows numbers (map change states) (map change (kept_rows numbers states)) (omega (arith, size, long)) (λ i lt.
      get_or-map change states (number_at numbers i) no_rows no_rows
      (number_within numbers (length states) kept.within i lt)
      ∙ ap change (sym (rows_at_number numbers states i lt))
      ∙ sym (get_or-map change (kept_rows numbers states) i no_rows no_rows (omega (arith, long, lt))))
      ∙ ap (map change) same

  -- what is so of each variant's rows is so of all that are kept
  pub all_states : (P : Rows → Type 0) → All P self → All P states
  all_states P all = All-from_get_or P states no_rows (λ k lt.
      let there = kept.used k lt in
      let within : there.0 < length numbers = there.1 in
      let long = self_long numbers states self same in
      let is : rows_in_place self there.0 ≡ rows_in_place states k = ap (λ z. rows_in_place z there.0) (sym same)
      ∙ rows_at_number numbers states there.0 within ∙ ap (rows_in_place states) (number_of numbers k there) in
      subst P is (All-get_or P self there.0 no_rows (omega (arith, within, long)) all))

  pub any_same : (p : Rows → Bool) → list_any p states ≡ list_any p self
  any_same p = pick (list_any p states) refl
    where
      pick : (t : Bool) → list_any p states ≡ t → t ≡ list_any p self
      pick true some =
          let found = Any-from_list_any p states some in
          let there = kept.used found.0 found.2 in
          let within : there.0 < length numbers = there.1 in
          let long = self_long numbers states self same in
          let is : rows_in_place self there.0 ≡ found.1 =
          ap (λ z. rows_in_place z there.0) (sym same) ∙ rows_at_number numbers states there.0 within
          ∙ ap (rows_in_place states) (number_of numbers found.0 there)
          ∙ sym (get_or_default states found.0 found.1 no_rows found.2) ∙ found.3 in
          sym (list_any_at p self there.0 no_rows (omega (arith, within, long)) (ap p is ∙ found.4))
      pick false none = sym (list_any_none p self (All-from_get_or (λ rows. p rows ≡ false) self no_rows (λ i lt.
          let long = self_long numbers states self same in
          let below : i < length numbers = omega (arith, lt, long) in
          let there = number_within numbers (length states) kept.within i below in
          ap p (ap (λ z. rows_in_place z i) (sym same) ∙ rows_at_number numbers states i below)
          ∙ unlisted p states (number_at numbers i) there none)))
        where
          unlisted : (p : Rows → Bool) (states : List Rows) (k : ℕ) → k < length states → list_any p states ≡ false
              → p (rows_in_place states k) ≡ false
          unlisted p states k lt none = false_from_ne_true (p (rows_in_place states k))
              (λ yes. true≢false (sym (list_any_at p states k no_rows lt yes) ∙ none))

-- the only states changed in place
pub alone_changed : (change : Rows → Rows) (states : List Rows) (rows : Rows) → length states ≡ 1
    → rows ≡ get_or states 0 rows → set states 0 (change rows) ≡ map change states
alone_changed change [] rows one is = absurd (omega (arith, one))
alone_changed change (s ∷ []) rows one is = ap (λ r. change r ∷ []) is
alone_changed change (s ∷ t ∷ states) rows one is = absurd (omega (arith, one))

pub only_states : (P : Rows → Type 0) (states : List Rows) (rows : Rows) → length states ≡ 1
    → rows ≡ get_or states 0 rows → All P states → P rows
only_states P states rows one is all = subst P (sym is) (All-get_or P states 0 rows (omega (arith, one)) all)
