-- Levels and rows as the changes show them.
use Rattle.std.proofs.Common.{◌≡◌, refl, sym, ap, ◌∙◌, subst, ℕ, zero, suc, ◌+◌, ◌<◌, ◌≤◌, Bool, List, [], ◌∷◌, length, get_or, arith, inl, inr, ◌⊎◌, Option, Some, None}
use Rattle.std.specs.Prelude.{slice_get, slice_set, Box}
use Rattle.std.specs.declared.alloc.Global.{Global}
use Rattle.std.proofs.lemmas.Bool.{cases_eq, cases_lt}
use Rattle.grid_lemmas.proofs.Lists.{get_other, get_set, some_got}
use Rattle.grid_level.specs.VoltageLevel.{VoltageLevel}
use Rattle.grid_powers.specs.Listed.{Listed}
use Rattle.grid_states.specs.Rows.{row_at}
use Rattle.grid_structure.proofs.Places.{length-slice_set}
use Rattle.grid_outages.specs.declared.outage.Changed.{Changed}
use Rattle.grid_outages.specs.Changes.{Changes, change_at, level_by, row_by, shown_levels, shown_rows, FitsAt, IsLooked, IsLookedAt, AreLooked}
use Rattle.grid_outages.specs.Steps.{IsPut, Shows, Stands}
use Rattle.std.proofs.lemmas.Option.{slice_get_within}

abbrev pub Change : Type 0
Change = Option (Box Changed Global)

-- ---- one change

levels-cons : (o : Change) (changes : Changes) (l : VoltageLevel) (ls : List VoltageLevel) → shown_levels (o ∷ changes) (l ∷ ls) ≡ level_by o l ∷ shown_levels changes ls
unfolding shown_levels
levels-cons None changes l ls = refl
levels-cons (Some c) changes l ls = refl

rows-cons : (o : Change) (changes : Changes) (row : List Bool) (rows : List (List Bool)) → shown_rows (o ∷ changes) (row ∷ rows) ≡ row_by o row ∷ shown_rows changes rows
unfolding shown_rows
rows-cons None changes row rows = refl
rows-cons (Some c) changes row rows = refl

-- ---- what is shown at a place

pub get_shown : (changes : Changes) (ls : List VoltageLevel) (k : ℕ) (l : VoltageLevel) → length changes ≡ length ls → slice_get ls k ≡ Some l → slice_get (shown_levels changes ls) k ≡ Some (level_by (change_at changes k) l)
get_shown changes [] k l long at = absurd (cc)
get_shown [] (x ∷ ls) k l long at = absurd (omega (arith, long))
get_shown (o ∷ changes) (x ∷ ls) zero l long at = let same : x ≡ l = cc in rw (levels-cons o changes x ls) (ap (λ z. Some (level_by o z)) same)
get_shown (o ∷ changes) (x ∷ ls) (suc k) l long at = rw (levels-cons o changes x ls) (get_shown changes ls k l (omega (arith, long)) at)

pub row_shown : (changes : Changes) (rows : List (List Bool)) (k : ℕ) → length changes ≡ length rows → row_at (shown_rows changes rows) k ≡ row_by (change_at changes k) (row_at rows k)
unfolding row_at shown_rows
row_shown [] [] k long = refl
row_shown [] (x ∷ rows) k long = absurd (omega (arith, long))
row_shown (o ∷ changes) [] k long = absurd (omega (arith, long))
row_shown (o ∷ changes) (x ∷ rows) zero long = rw (rows-cons o changes x rows) refl
row_shown (o ∷ changes) (x ∷ rows) (suc k) long = rw (rows-cons o changes x rows) (row_shown changes rows k (omega (arith, long)))

pub length-shown_levels : (changes : Changes) (ls : List VoltageLevel) → length changes ≡ length ls → length (shown_levels changes ls) ≡ length ls
unfolding shown_levels
length-shown_levels [] ls long = refl
length-shown_levels (o ∷ changes) [] long = absurd (omega (arith, long))
length-shown_levels (o ∷ changes) (l ∷ ls) long = rw (levels-cons o changes l ls) (ap suc (length-shown_levels changes ls (omega (arith, long))))

pub length-shown_rows : (changes : Changes) (rows : List (List Bool)) → length changes ≡ length rows → length (shown_rows changes rows) ≡ length rows
unfolding shown_rows
length-shown_rows [] rows long = refl
length-shown_rows (o ∷ changes) [] long = absurd (omega (arith, long))
length-shown_rows (o ∷ changes) (r ∷ rows) long = rw (rows-cons o changes r rows) (ap suc (length-shown_rows changes rows (omega (arith, long))))

-- ---- no change

pub levels_unchanged : (changes : Changes) (ls : List VoltageLevel) → length changes ≡ length ls → ((k : ℕ) → change_at changes k ≡ None) → shown_levels changes ls ≡ ls
unfolding shown_levels
levels_unchanged [] ls long none = refl
levels_unchanged (o ∷ changes) [] long none = absurd (omega (arith, long))
levels_unchanged (o ∷ changes) (l ∷ ls) long none = levels-cons o changes l ls ∙ ap (λ z. level_by z l ∷ shown_levels changes ls) (none 0) ∙ ap (λ z. l ∷ z) (levels_unchanged changes ls (omega (arith, long)) (λ k. none (suc k)))

pub rows_unchanged : (changes : Changes) (rows : List (List Bool)) → length changes ≡ length rows → ((k : ℕ) → change_at changes k ≡ None) → shown_rows changes rows ≡ rows
unfolding shown_rows
rows_unchanged [] rows long none = refl
rows_unchanged (o ∷ changes) [] long none = absurd (omega (arith, long))
rows_unchanged (o ∷ changes) (r ∷ rows) long none = rows-cons o changes r rows ∙ ap (λ z. row_by z r ∷ shown_rows changes rows) (none 0) ∙ ap (λ z. r ∷ z) (rows_unchanged changes rows (omega (arith, long)) (λ k. none (suc k)))

-- ---- one change more

pub levels_put : (changes : Changes) (ls : List VoltageLevel) (k : ℕ) (c : Box Changed Global) → length changes ≡ length ls → shown_levels (slice_set changes k (Some c)) ls ≡ slice_set (shown_levels changes ls) k c.value.level
unfolding shown_levels
levels_put [] [] k c long = refl
levels_put [] (l ∷ ls) k c long = absurd (omega (arith, long))
levels_put (o ∷ changes) [] k c long = absurd (omega (arith, long))
levels_put (o ∷ changes) (l ∷ ls) zero c long = rw (levels-cons o changes l ls) refl
levels_put (o ∷ changes) (l ∷ ls) (suc k) c long =
    levels-cons o (slice_set changes k (Some c)) l ls ∙ ap (λ z. level_by o l ∷ z) (levels_put changes ls k c (omega (arith, long)))
    ∙ ap (λ z. slice_set z (suc k) c.value.level) (sym (levels-cons o changes l ls))

pub rows_put : (changes : Changes) (rows : List (List Bool)) (k : ℕ) (c : Box Changed Global) → length changes ≡ length rows → shown_rows (slice_set changes k (Some c)) rows ≡ slice_set (shown_rows changes rows) k c.value.opened
unfolding shown_rows
rows_put [] [] k c long = refl
rows_put [] (r ∷ rows) k c long = absurd (omega (arith, long))
rows_put (o ∷ changes) [] k c long = absurd (omega (arith, long))
rows_put (o ∷ changes) (r ∷ rows) zero c long = rw (rows-cons o changes r rows) refl
rows_put (o ∷ changes) (r ∷ rows) (suc k) c long =
    rows-cons o (slice_set changes k (Some c)) r rows ∙ ap (λ z. row_by o r ∷ z) (rows_put changes rows k c (omega (arith, long)))
    ∙ ap (λ z. slice_set z (suc k) c.value.opened) (sym (rows-cons o changes r rows))

some_same : {X : Type 0} {x y : X} → ◌≡◌ {A = Option X} (Some x) (Some y) → x ≡ y
some_same e = cc

at_same : {X : Type 0} (d : X) (xs : List X) (k : ℕ) (y : X) → k < length xs → get_or (slice_set xs k y) k d ≡ y
at_same d [] k y lt = absurd (omega arith)
at_same d (x ∷ xs) zero y lt = refl
at_same d (x ∷ xs) (suc k) y lt = at_same d xs k y (omega arith)

at_other : {X : Type 0} (d : X) (xs : List X) (k j : ℕ) (y : X) → (k ≡ j → ⊥) → get_or (slice_set xs k y) j d ≡ get_or xs j d
at_other d [] k j y ne = refl
at_other d (x ∷ xs) zero zero y ne = absurd (ne refl)
at_other d (x ∷ xs) zero (suc j) y ne = refl
at_other d (x ∷ xs) (suc k) zero y ne = refl
at_other d (x ∷ xs) (suc k) (suc j) y ne = at_other d xs k j y (λ e. ne (omega (arith, e)))

pub set_over : {X : Type 0} (xs : List X) (k : ℕ) (x y : X) → slice_set (slice_set xs k x) k y ≡ slice_set xs k y
set_over [] k x y = refl
set_over (z ∷ xs) zero x y = refl
set_over (z ∷ xs) (suc k) x y = ap (λ w. z ∷ w) (set_over xs k x y)

-- another level at a place, where its switches stay and its flags are as many
pub put_shows : (before : List VoltageLevel) (flags : List (List Bool)) (old new : Changes) (ls : List VoltageLevel) (rows : List (List Bool)) (k : ℕ) (l level : VoltageLevel) (opened : List Bool)
    → Shows before flags old ls rows → IsPut k level opened old new → slice_get before k ≡ Some l → level.switches ≡ l.switches → length opened ≡ length l.switches
    → Shows before flags new (slice_set ls k level) (slice_set rows k opened)
unfolding row_at
put_shows before flags old new ls rows k l level opened s p at stay fit =
    let inside : k < length before = slice_get_within before k l at in
    let rows_long : length rows ≡ length before = ap length (sym s.rows_are) ∙ length-shown_rows old flags (s.long ∙ sym s.rows_long) ∙ s.rows_long in
    let levels_long : length ls ≡ length before = ap length (sym s.levels_are) ∙ length-shown_levels old before s.long in
    record {
      long = ap length p.is ∙ length-slice_set old k (Some p.box) ∙ s.long;
      rows_long = s.rows_long;
      levels_are = ap (λ z. shown_levels z before) p.is ∙ levels_put old before k p.box s.long ∙ ap (λ z. slice_set z k p.box.value.level) s.levels_are ∙ ap (slice_set ls k) p.level_is;
      rows_are = ap (λ z. shown_rows z flags) p.is ∙ rows_put old flags k p.box (s.long ∙ sym s.rows_long) ∙ ap (λ z. slice_set z k p.box.value.opened) s.rows_are ∙ ap (slice_set rows k) p.opened_is;
      switches_stay = λ j a b e f. elim (cases_eq k j) [
        | inl q ↦ (let same : level ≡ b = some_same (sym (get_set ls k level (omega (arith, inside, levels_long))) ∙ ap (slice_get (slice_set ls k level)) q ∙ f) in
            let first : l ≡ a = some_same (sym at ∙ ap (slice_get before) q ∙ e) in ap (λ z. z.switches) (sym same) ∙ stay ∙ ap (λ z. z.switches) first)
        | inr ne ↦ s.switches_stay j a b e (sym (get_other ls k j level ne) ∙ f)
      ];
      flags_fit = λ j a e. elim (cases_eq k j) [
        | inl q ↦ (let first : l ≡ a = some_same (sym at ∙ ap (slice_get before) q ∙ e) in
            ap (λ z. length (get_or (slice_set rows k opened) z [])) (sym q) ∙ ap length (at_same [] rows k opened (omega (arith, inside, rows_long))) ∙ fit ∙ ap (λ z. length z.switches) first)
        | inr ne ↦ ap length (at_other [] rows k j opened ne) ∙ s.flags_fit j a e
      ];
    }

-- ---- a place that is looked at

pub changed_at : (changes : Changes) (k : ℕ) (o : Change) → k < length changes → o ≡ get_or changes k o → change_at changes k ≡ o
changed_at [] k o lt e = absurd (omega arith)
changed_at (x ∷ changes) zero o lt e = sym e
changed_at (x ∷ changes) (suc k) o lt e = changed_at changes k o (omega arith) e

pub level_changed : (changes : Changes) (ls : List VoltageLevel) (k : ℕ) (c : Box Changed Global) → length changes ≡ length ls → k < length ls → change_at changes k ≡ Some c → slice_get (shown_levels changes ls) k ≡ Some c.value.level
level_changed changes ls k c long lt e = let l = some_got ls k lt in get_shown changes ls k l.0 long l.1 ∙ ap (λ z. Some (level_by z l.0)) e

pub level_kept : (changes : Changes) (ls : List VoltageLevel) (k : ℕ) (l : VoltageLevel) → length changes ≡ length ls → slice_get ls k ≡ Some l → change_at changes k ≡ None → slice_get (shown_levels changes ls) k ≡ Some l
level_kept changes ls k l long at e = get_shown changes ls k l long at ∙ ap (λ z. Some (level_by z l)) e

pub row_changed : (changes : Changes) (rows : List (List Bool)) (k : ℕ) (c : Box Changed Global) → length changes ≡ length rows → change_at changes k ≡ Some c → row_at (shown_rows changes rows) k ≡ c.value.opened
row_changed changes rows k c long e = row_shown changes rows k long ∙ ap (λ z. row_by z (row_at rows k)) e

pub row_kept : (changes : Changes) (rows : List (List Bool)) (k : ℕ) → length changes ≡ length rows → change_at changes k ≡ None → row_at (shown_rows changes rows) k ≡ row_at rows k
row_kept changes rows k long e = row_shown changes rows k long ∙ ap (λ z. row_by z (row_at rows k)) e

-- ---- changes that are looked at

pub nothing_past : (changes : Changes) (k : ℕ) → length changes ≤ k → change_at changes k ≡ None
nothing_past [] k le = refl
nothing_past (o ∷ changes) zero le = absurd (omega arith)
nothing_past (o ∷ changes) (suc k) le = nothing_past changes k (omega arith)

same_levels : (old new : Changes) (ls : List VoltageLevel) → length new ≡ length old → ((k : ℕ) (l : VoltageLevel) → level_by (change_at new k) l ≡ level_by (change_at old k) l) → shown_levels new ls ≡ shown_levels old ls
unfolding shown_levels
same_levels [] [] ls long h = refl
same_levels [] (n ∷ new) ls long h = absurd (omega (arith, long))
same_levels (o ∷ old) [] ls long h = absurd (omega (arith, long))
same_levels (o ∷ old) (n ∷ new) [] long h = refl
same_levels (o ∷ old) (n ∷ new) (l ∷ ls) long h =
    levels-cons n new l ls ∙ ap (λ z. z ∷ shown_levels new ls) (h 0 l) ∙ ap (λ z. level_by o l ∷ z) (same_levels old new ls (omega (arith, long)) (λ k. h (suc k))) ∙ sym (levels-cons o old l ls)

same_rows : (old new : Changes) (rows : List (List Bool)) → length new ≡ length old → ((k : ℕ) (row : List Bool) → row_by (change_at new k) row ≡ row_by (change_at old k) row) → shown_rows new rows ≡ shown_rows old rows
unfolding shown_rows
same_rows [] [] rows long h = refl
same_rows [] (n ∷ new) rows long h = absurd (omega (arith, long))
same_rows (o ∷ old) [] rows long h = absurd (omega (arith, long))
same_rows (o ∷ old) (n ∷ new) [] long h = refl
same_rows (o ∷ old) (n ∷ new) (r ∷ rows) long h =
    rows-cons n new r rows ∙ ap (λ z. z ∷ shown_rows new rows) (h 0 r) ∙ ap (λ z. row_by o r ∷ z) (same_rows old new rows (omega (arith, long)) (λ k. h (suc k))) ∙ sym (rows-cons o old r rows)

pub all_looked : (listed : Listed) (before : List VoltageLevel) (flags : List (List Bool)) (old new : Changes) (ls : List VoltageLevel) (rows : List (List Bool)) → Shows before flags old ls rows → AreLooked listed old new → Stands listed before flags new ls rows
all_looked listed before flags old new ls rows s a = record {
  long = a.long ∙ s.long;
  rows_long = s.rows_long;
  looked = a.looked;
  levels_are = same_levels old new before a.long a.levels ∙ s.levels_are;
  rows_are = same_rows old new flags a.long a.rows ∙ s.rows_are;
}

-- each change has a flag for each switch
pub all_fit : (before : List VoltageLevel) (flags : List (List Bool)) (changes : Changes) (ls : List VoltageLevel) (rows : List (List Bool)) → Shows before flags changes ls rows → (k : ℕ) → FitsAt (change_at changes k)
all_fit before flags changes ls rows s k = by (change_at changes k) refl
  where
    by : (o : Change) → change_at changes k ≡ o → FitsAt o
    by None e = tt
    by (Some c) e =
        let inside : k < length before = within (cases_lt k (length changes)) in
        let l = some_got before k inside in
        let shown = level_changed changes before k c s.long inside e in
        let stay = s.switches_stay k l.0 c.value.level l.1 (ap (λ z. slice_get z k) (sym s.levels_are) ∙ shown) in
        ap length (sym (row_changed changes flags k c (s.long ∙ sym s.rows_long) e)) ∙ ap (λ z. length (row_at z k)) s.rows_are ∙ s.flags_fit k l.0 l.1 ∙ ap length (sym stay)
      where
        within : (k < length changes) ⊎ (length changes ≤ k) → k < length before
        within (inl lt) = omega (arith, lt, s.long)
        within (inr le) = (let none : ◌≡◌ {A = Change} (Some c) None = sym e ∙ nothing_past changes k le in absurd (cc))

-- ---- changes that are looked at one after the other

-- those before a place are looked at
pub record Halfway (listed : Listed) (old new : Changes) (place : ℕ) : Type 0 where
  pub long : length new ≡ length old
  pub levels : (k : ℕ) (l : VoltageLevel) → level_by (change_at new k) l ≡ level_by (change_at old k) l
  pub rows : (k : ℕ) (row : List Bool) → row_by (change_at new k) row ≡ row_by (change_at old k) row
  pub fit : (k : ℕ) → FitsAt (change_at new k)
  pub looked : (k : ℕ) → k < place → IsLookedAt listed (change_at new k)

pub at_first : (listed : Listed) (old : Changes) → ((k : ℕ) → FitsAt (change_at old k)) → Halfway listed old old 0
at_first listed old fit = record { long = refl; levels = λ k l. refl; rows = λ k row. refl; fit = fit; looked = λ k lt. absurd (omega (arith, lt)) }

pub at_last : (listed : Listed) (old new : Changes) (place : ℕ) → length new ≤ place → Halfway listed old new place → AreLooked listed old new
at_last listed old new place le h = record {
  long = h.long;
  levels = h.levels;
  rows = h.rows;
  looked = λ k. elim (cases_lt k (length new)) [
    | inl lt ↦ h.looked k (omega (arith, lt, le))
    | inr past ↦ subst (IsLookedAt listed) (sym (nothing_past new k past)) tt
  ];
}

module _ (listed : Listed) (old new next : Changes) (place : ℕ) (h : Halfway listed old new place) (lt : place < length new) where
  put : (o : Change) → next ≡ slice_set new place o → ((l : VoltageLevel) → level_by o l ≡ level_by (change_at new place) l) → ((row : List Bool) → row_by o row ≡ row_by (change_at new place) row) → FitsAt o → IsLookedAt listed o
      → Halfway listed old next (place + 1)
  put o is level row fit looked = record {
    long = ap length is ∙ length-slice_set new place o ∙ h.long;
    levels = λ k l. elim (cases_eq place k) [ inl e ↦ ap (λ z. level_by z l) (here k e) ∙ level l ∙ ap (λ j. level_by (change_at new j) l) e ∙ h.levels k l | inr ne ↦ ap (λ z. level_by z l) (there k ne) ∙ h.levels k l ];
    rows = λ k r. elim (cases_eq place k) [ inl e ↦ ap (λ z. row_by z r) (here k e) ∙ row r ∙ ap (λ j. row_by (change_at new j) r) e ∙ h.rows k r | inr ne ↦ ap (λ z. row_by z r) (there k ne) ∙ h.rows k r ];
    fit = λ k. elim (cases_eq place k) [ inl e ↦ subst FitsAt (sym (here k e)) fit | inr ne ↦ subst FitsAt (sym (there k ne)) (h.fit k) ];
    looked = λ k below. elim (cases_eq place k) [ inl e ↦ subst (IsLookedAt listed) (sym (here k e)) looked | inr ne ↦ subst (IsLookedAt listed) (sym (there k ne)) (h.looked k (before k below ne)) ];
  }
    where
      here : (k : ℕ) → place ≡ k → change_at next k ≡ o
      here k e = ap (λ z. change_at z k) is ∙ ap (λ j. get_or (slice_set new place o) j None) (sym e) ∙ at_same None new place o lt

      there : (k : ℕ) → (place ≡ k → ⊥) → change_at next k ≡ change_at new k
      there k ne = ap (λ z. change_at z k) is ∙ at_other None new place k o ne

      before : (k : ℕ) → k < place + 1 → (place ≡ k → ⊥) → k < place
      before k below ne = elim (cases_lt k place) [ inl less ↦ less | inr le ↦ absurd (ne (omega (arith, le, below))) ]

  pub over_none : change_at new place ≡ None → next ≡ slice_set new place None → Halfway listed old next (place + 1)
  over_none none is = put None is (λ l. ap (λ z. level_by z l) (sym none)) (λ row. ap (λ z. row_by z row) (sym none)) tt tt

  pub fits_here : (c : Box Changed Global) → change_at new place ≡ Some c → length c.value.opened ≡ length c.value.level.switches
  fits_here c some = subst FitsAt some (h.fit place)

  pub over_some : (c d : Box Changed Global) → change_at new place ≡ Some c → d.value.level ≡ c.value.level → d.value.opened ≡ c.value.opened → IsLooked listed d.value → next ≡ slice_set (slice_set new place None) place (Some d) → Halfway listed old next (place + 1)
  over_some c d some level opened looked is =
      put (Some d) (is ∙ set_over new place None (Some d)) (λ l. level ∙ ap (λ z. level_by z l) (sym some)) (λ row. opened ∙ ap (λ z. row_by z row) (sym some))
      (ap length opened ∙ fits_here c some ∙ ap (λ z. length z.switches) (sym level)) looked

-- what is looked at up to a place is looked at up to a later one, where nothing has changed between
pub passed_over : (listed : Listed) (old new : Changes) (from place : ℕ) → ((k : ℕ) → from ≤ k → k < place → change_at new k ≡ None) → Halfway listed old new from → Halfway listed old new place
passed_over listed old new from place none h = record {
  long = h.long;
  levels = h.levels;
  rows = h.rows;
  fit = h.fit;
  looked = λ k lt. elim (cases_lt k from) [ inl less ↦ h.looked k less | inr more ↦ subst (IsLookedAt listed) (sym (none k more lt)) tt ];
}

pub all_passed : (listed : Listed) (old new : Changes) (from : ℕ) → ((k : ℕ) → from ≤ k → change_at new k ≡ None) → Halfway listed old new from → AreLooked listed old new
all_passed listed old new from none h = at_last listed old new (length new) (omega arith) (passed_over listed old new from (length new) (λ k le lt. none k le) h)
