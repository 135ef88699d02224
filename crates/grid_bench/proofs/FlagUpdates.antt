-- Changed flags taken over one place after the other.
use Rattle.std.proofs.Common.{◌≡◌, refl, sym, ap, ◌∙◌, subst, ℕ, zero, suc, ◌+◌, ◌-◌, ◌<◌, ◌≤◌, inl, inr, Bool, true, false, cond, not, ◌&&◌, List, [], ◌∷◌, ◌++◌, length, set, drop, arith}
use Rattle.std.proofs.lemmas.Bool.{and_parts, cases_eq, false≢true}
use Rattle.std.proofs.lemmas.List.{take_all, drop_all, append-nil}
use Rattle.std.proofs.lemmas.List.Sums.{sum_by-append, sum_by-cons}
use Rattle.std.specs.List.{sum_by}
use Rattle.std.specs.Bool.{beq}
use Rattle.grid_graph.specs.Components.{places}
use Rattle.grid_groups.proofs.Steps.{places_more}
use Rattle.grid_bench.specs.Contents.{Content, content, Fits}
use Rattle.grid_bench.specs.Costs.{with_flags_at, change_cost, midway, content_midway, flag_at, differs_at, count_before, count_changes, place_cost, changes_cost}
use Rattle.grid_bench.proofs.PlaceCounts.{counted_next, counted_none, counted_yes, counted_no, counted_stays}

-- ---- one list of flags

more : (old new : List Bool) (i : ℕ) → i < length old → length new ≡ length old → set (midway old new i) i (flag_at new i) ≡ midway old new (suc i)
more [] new i lt e = absurd (omega arith)
more (o ∷ old) [] i lt e = absurd (omega (arith, e))
more (o ∷ old) (n ∷ new) zero lt e = refl
more (o ∷ old) (n ∷ new) (suc i) lt e = ap (λ z. n ∷ z) (more old new i (omega (arith, lt)) (omega (arith, e)))

pub midway_more : (old new : List Bool) (i : ℕ) → i < length old → length new ≡ length old → set (midway old new i) i (flag_at new i) ≡ midway old new (i + 1)
midway_more old new i lt e = let next : suc i ≡ i + 1 = omega arith in more old new i lt e ∙ ap (midway old new) next

pub midway_flag : (old new : List Bool) (i k : ℕ) → i ≤ k → k < length old → length new ≡ length old → flag_at (midway old new i) k ≡ flag_at old k
midway_flag [] new i k le lt e = absurd (omega arith)
midway_flag (o ∷ old) [] i k le lt e = absurd (omega (arith, e))
midway_flag (o ∷ old) (n ∷ new) zero k le lt e = refl
midway_flag (o ∷ old) (n ∷ new) (suc i) zero le lt e = absurd (omega arith)
midway_flag (o ∷ old) (n ∷ new) (suc i) (suc k) le lt e = midway_flag old new i k (omega (arith, le)) (omega (arith, lt)) (omega (arith, e))

same : (old new : List Bool) (i : ℕ) → i < length old → length new ≡ length old → flag_at old i ≡ flag_at new i → midway old new i ≡ midway old new (suc i)
same [] new i lt e h = absurd (omega arith)
same (o ∷ old) [] i lt e h = absurd (omega (arith, e))
same (o ∷ old) (n ∷ new) zero lt e h = ap (λ z. z ∷ old) h
same (o ∷ old) (n ∷ new) (suc i) lt e h = ap (λ z. n ∷ z) (same old new i (omega (arith, lt)) (omega (arith, e)) h)

pub midway_same : (old new : List Bool) (i : ℕ) → i < length old → length new ≡ length old → flag_at old i ≡ flag_at new i → midway old new i ≡ midway old new (i + 1)
midway_same old new i lt e h = let next : suc i ≡ i + 1 = omega arith in same old new i lt e h ∙ ap (midway old new) next

pub midway_end : (old new : List Bool) (i : ℕ) → length new ≡ length old → length new ≤ i → midway old new i ≡ new
midway_end old new i e le = ap (λ z. z ++ drop i old) (take_all i new le) ∙ ap (λ z. new ++ z) (drop_all i old (omega (arith, e, le))) ∙ append-nil new

pub beq_same : (a b : Bool) → beq a b ≡ true → a ≡ b
beq_same true true h = refl
beq_same false false h = refl
beq_same true false h = absurd (cc)
beq_same false true h = absurd (cc)

pub beq_refl : (a : Bool) → beq a a ≡ true
beq_refl true = refl
beq_refl false = refl

-- ---- both lists

-- after so many places, at so many of which a flag differs: the flags before them are new, and what it cost
pub record Followed (old new now : Content) (place changed before after : ℕ) : Type 0 where
  pub kept : now ≡ content_midway old new place
  pub counted : changed ≡ count_before old new place
  pub cost : after ≤ before + sum_by (place_cost old new) (places place)
  pub equal : old ≡ new → after ≡ before

pub record Matches (old new : Content) : Type 0 where
  pub same_level : new.level ≡ old.level
  pub opened : length new.opened ≡ length old.opened
  pub retained : length new.retained ≡ length old.retained
  pub along : length old.retained ≡ length old.opened

pub followed_start : (old new : Content) (at : ℕ) → Followed old new old 0 0 at at
followed_start old new at = record { kept = refl; counted = counted_none (differs_at old new); cost = omega arith; equal = λ e. refl }

-- whether flags differ midway is whether the old ones do
differs_midway : (old new now : Content) (place k : ℕ) → Matches old new → place ≤ k → k < length old.opened → now ≡ content_midway old new place → differs_at now new k ≡ differs_at old new k
unfolding differs_at
differs_midway old new now place k m le lt e =
    ap (λ (z : Content). not (beq (flag_at z.opened k) (flag_at new.opened k) && beq (flag_at z.retained k) (flag_at new.retained k))) e
    ∙ ap (λ z. not (beq z (flag_at new.opened k) && beq (flag_at (midway old.retained new.retained place) k) (flag_at new.retained k))) (midway_flag old.opened new.opened place k le lt m.opened)
    ∙ ap (λ z. not (beq (flag_at old.opened k) (flag_at new.opened k) && beq z (flag_at new.retained k))) (midway_flag old.retained new.retained place k le (omega (arith, lt, m.along)) m.retained)

-- from a place on as many differ midway as at first
counted_midway : (old new now : Content) (place some : ℕ) → Matches old new → place + some ≤ length old.opened → now ≡ content_midway old new place
    → count_before now new (place + some) + count_before old new place ≡ count_before old new (place + some) + count_before now new place
counted_midway old new now place zero m le e = let same : place + 0 ≡ place = omega arith in omega (arith, ap (count_before now new) same, ap (count_before old new) same)
counted_midway old new now place (suc some) m le e =
    let k = place + some in
    let next : place + suc some ≡ k + 1 = omega arith in
    omega (
      arith,
      counted_midway old new now place some m (omega (arith, le)) e,
      ap (count_before now new) next,
      ap (count_before old new) next,
      counted_next (differs_at now new) k,
      counted_next (differs_at old new) k,
      ap {B = ℕ} (λ z. cond z 1 0) (differs_midway old new now place k m (omega arith) (omega (arith, le)) e),
    )

sum_more : (f : ℕ → ℕ) (n : ℕ) → sum_by f (places (n + 1)) ≡ sum_by f (places n) + f n
sum_more f n = ap (sum_by f) (places_more n) ∙ sum_by-append f (places n) (n ∷ []) ∙ omega (arith, sum_by-cons f n [])

cost_where : (old new : Content) (place : ℕ) → differs_at old new place ≡ true → place_cost old new place ≡ change_cost (content_midway old new place) place (flag_at new.opened place) (flag_at new.retained place)
unfolding place_cost
cost_where old new place h = ap (λ z. cond z (change_cost (content_midway old new place) place (flag_at new.opened place) (flag_at new.retained place)) 0) h

pub followed_changed : (old new now next : Content) (place changed before after later : ℕ) → Matches old new → place < length old.opened → Followed old new now place changed before after → differs_at now new place ≡ true
    → next ≡ with_flags_at now place (flag_at new.opened place) (flag_at new.retained place)
    → later ≤ after + change_cost now place (flag_at new.opened place) (flag_at new.retained place) → Followed old new next (place + 1) (changed + 1) before later
unfolding differs_at
followed_changed old new now next place changed before after later m lt f d e c =
    let differs : differs_at old new place ≡ true = sym (differs_midway old new now place place m (omega arith) lt f.kept) ∙ d in
    let o = flag_at new.opened place in
    let r = flag_at new.retained place in
    let under : place < length old.retained = omega (arith, lt, m.along) in
    let cost : change_cost now place o r ≡ place_cost old new place = ap (λ z. change_cost z place o r) f.kept ∙ sym (cost_where old new place differs) in
    record {
      kept = e ∙ ap (λ z. with_flags_at z place o r) f.kept
          ∙ ap (λ z. content old.level z (set (midway old.retained new.retained place) place r)) (midway_more old.opened new.opened place lt m.opened)
          ∙ ap (λ z. content old.level (midway old.opened new.opened (place + 1)) z) (midway_more old.retained new.retained place under m.retained);
      counted = counted_yes (differs_at old new) place changed f.counted differs;
      cost = omega (arith, c, f.cost, cost, sum_more (place_cost old new) place);
      equal = λ at. absurd (false≢true
          (sym (ap not (ap (λ z. z && beq (flag_at old.retained place) (flag_at old.retained place)) (beq_refl (flag_at old.opened place)) ∙ beq_refl (flag_at old.retained place)))
          ∙ (let P : Content → Type 0 = λ z. differs_at old z place ≡ true in subst P (sym at) differs)));
    }

followed_kept : (old new now : Content) (place changed before after : ℕ) → Matches old new → place < length old.opened → Followed old new now place changed before after → differs_at old new place ≡ false → Followed old new now (place + 1) changed before after
unfolding differs_at
followed_kept old new now place changed before after m lt f none =
    let parts = and_parts (beq (flag_at old.opened place) (flag_at new.opened place)) (beq (flag_at old.retained place) (flag_at new.retained place)) (both (beq (flag_at old.opened place) (flag_at new.opened place) && beq (flag_at old.retained place) (flag_at new.retained place)) none) in
    let under : place < length old.retained = omega (arith, lt, m.along) in
    record {
      kept = f.kept
          ∙ ap (λ z. content old.level z (midway old.retained new.retained place)) (midway_same old.opened new.opened place lt m.opened (beq_same (flag_at old.opened place) (flag_at new.opened place) parts.0))
          ∙ ap (λ z. content old.level (midway old.opened new.opened (place + 1)) z) (midway_same old.retained new.retained place under m.retained (beq_same (flag_at old.retained place) (flag_at new.retained place) parts.1));
      counted = counted_no (differs_at old new) place changed f.counted none;
      cost = omega (arith, f.cost, sum_more (place_cost old new) place);
      equal = f.equal;
    }
  where
    both : (b : Bool) → not b ≡ false → b ≡ true
    both true h = refl
    both false h = absurd (cc)

-- places that stay are stepped over at once
followed_over : (old new now : Content) (place some changed before after : ℕ) → Matches old new → place + some ≤ length old.opened → Followed old new now place changed before after
    → changed ≡ count_before old new (place + some) → Followed old new now (place + some) changed before after
followed_over old new now place zero changed before after m le f e =
    let same : place ≡ place + 0 = omega arith in let P : ℕ → Type 0 = λ z. Followed old new now z changed before after in subst P same f
followed_over old new now place (suc some) changed before after m le f e =
    let next : place + 1 + some ≡ place + suc some = omega arith in
    let P : ℕ → Type 0 = λ z. Followed old new now z changed before after in
    let stays : differs_at old new place ≡ false = counted_stays (differs_at old new) place some (sym f.counted ∙ e) in
    subst P next
    (followed_over old new now (place + 1) some changed before after m (omega (arith, le)) (followed_kept old new now place changed before after m (omega (arith, le)) f stays) (e ∙ sym (ap (count_before old new) next)))

-- from a place to another, where none between differs
pub followed_to : (old new now : Content) (place end changed before after : ℕ) → Matches old new → place ≤ end → end ≤ length old.opened → Followed old new now place changed before after
    → count_before now new place ≡ count_before now new end → Followed old new now end changed before after
followed_to old new now place end changed before after m on le f e =
    let all : place + (end - place) ≡ end = omega arith in
    let P : ℕ → Type 0 = λ z. Followed old new now z changed before after in
    let same : changed ≡ count_before old new (place + (end - place)) =
    omega (arith, f.counted, e, counted_midway old new now place (end - place) m (omega arith) f.kept, ap (count_before now new) all) in
    subst P all (followed_over old new now place (end - place) changed before after m (omega arith) f same)

-- one place more differs, so it is not the end yet
pub followed_within : (old new now : Content) (place changed before after : ℕ) → Followed old new now place changed before after → place ≤ length old.level.switches → changed < count_changes old new → place < length old.level.switches
unfolding count_changes
followed_within old new now place changed before after f le lt = elim (cases_eq place (length old.level.switches)) [
  | inl e ↦ absurd (omega (arith, f.counted, lt, ap (count_before old new) e))
  | inr ne ↦ omega (arith, le, ne)
]

-- all that differ are changed, so the rest stays
pub followed_rest : (old new now : Content) (place changed before after : ℕ) → Matches old new → length old.opened ≡ length old.level.switches → Followed old new now place changed before after → place ≤ length old.level.switches
    → changed ≡ count_changes old new → Followed old new now (length old.level.switches) changed before after
unfolding count_changes
followed_rest old new now place changed before after m long f le e =
    let all : place + (length old.level.switches - place) ≡ length old.level.switches = omega arith in
    let P : ℕ → Type 0 = λ z. Followed old new now z changed before after in
    subst P all (followed_over old new now place (length old.level.switches - place) changed before after m (omega (arith, long, le)) f (e ∙ sym (ap (count_before old new) all)))

pub followed_end : (old new now : Content) (place changed before after : ℕ) → Matches old new → length new.opened ≤ place → Followed old new now place changed before after → now ≡ content old.level new.opened new.retained
followed_end old new now place changed before after m le f =
    f.kept
    ∙ ap (λ z. content old.level z (midway old.retained new.retained place)) (midway_end old.opened new.opened place m.opened le)
    ∙ ap (λ z. content old.level new.opened z) (midway_end old.retained new.retained place m.retained (omega (arith, le, m.along, m.opened, m.retained)))

-- the places before another cost at most what all of them do
sum_part : (f : ℕ → ℕ) (n m : ℕ) → sum_by f (places n) ≤ sum_by f (places (n + m))
sum_part f n zero = let same : n + 0 ≡ n = omega arith in omega (arith, ap (λ z. sum_by f (places z)) same)
sum_part f n (suc m) =
    let next : n + suc m ≡ n + m + 1 = omega arith in
    omega (arith, sum_part f n m, sum_more f (n + m), ap (λ z. sum_by f (places z)) next)

pub followed_part : (old new now : Content) (place changed before after : ℕ) → place ≤ length old.level.switches → Followed old new now place changed before after → after ≤ before + changes_cost old new
unfolding changes_cost
followed_part old new now place changed before after le f =
    let all : place + (length old.level.switches - place) ≡ length old.level.switches = omega (arith, le) in
    omega (arith, f.cost, sum_part (place_cost old new) place (length old.level.switches - place), ap (λ z. sum_by (place_cost old new) (places z)) all)

pub followed_cost : (old new now : Content) (changed before after : ℕ) → Followed old new now (length old.level.switches) changed before after → after ≤ before + changes_cost old new
unfolding changes_cost
followed_cost old new now changed before after f = f.cost

-- where no flag differs, the flags are the same
pub none_changed : (old new : Content) → Fits old → length new.opened ≡ length old.opened → length new.retained ≡ length old.retained → 0 ≡ count_changes old new → old.opened ≡ new.opened
unfolding count_changes differs_at
none_changed old new fits opened retained none =
    let as_new = content old.level new.opened new.retained in
    let m : Matches old as_new = record { same_level = refl; opened = opened; retained = retained; along = fits.retained ∙ sym fits.opened } in
    let start = followed_start old as_new 0 in
    let rest = followed_rest old as_new old 0 0 0 0 m fits.opened start (omega arith) none in
    ap (λ (z : Content). z.opened) (followed_end old as_new old (length old.level.switches) 0 0 0 m (omega (arith, opened, fits.opened)) rest)
