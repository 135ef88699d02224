-- Marks at places.
use Rattle.std.proofs.Common.{◌≡◌, refl, sym, ap, ◌∙◌, ℕ, ◌+◌, ◌<◌, Bool, true, false, cond, ◌||◌, List, length, get_or, set, take, inl, inr, get_or-set_same, get_or-set_other}
use Rattle.std.specs.Prelude.{eqb}
use Rattle.std.proofs.lemmas.Bool.{cases_eq, eq-eqb, ne_eqb}
use Rattle.std.proofs.lemmas.List.Folds.{list_any_more}
use Rattle.grid_lemmas.proofs.Bools.{or_right, or_false}
use Rattle.grid_unions.specs.Sweep.{is_among}
use Rattle.grid_unions.specs.Halves.{is_marked, AreClear, is_gone}
use Rattle.grid_unions.specs.declared.sweeps.Change.{Change}

-- one place more
pub marked_more : (old marks : List Bool) (places : List ℕ) (mark : Bool) (i place x : ℕ) → i < length places → get_or places i 0 ≡ place → place < length marks
    → is_marked marks x ≡ cond (is_among (take i places) x) mark (is_marked old x)
    → is_marked (set marks place mark) x ≡ cond (is_among (take (i + 1) places) x) mark (is_marked old x)
unfolding is_among
marked_more old marks places mark i place x lt at less h = elim (cases_eq place x) [
  | inl e ↦ (let all : is_among (take (i + 1) places) x ≡ true = more ∙ ap (λ t. is_among (take i places) x || t) (eq-eqb place x e) ∙ or_right (is_among (take i places) x) true refl in
      ap (λ y. get_or (set marks place mark) y false) (sym e) ∙ get_or-set_same marks place mark false less ∙ ap (λ t. cond t mark (is_marked old x)) (sym all))
  | inr ne ↦ (let all : is_among (take (i + 1) places) x ≡ is_among (take i places) x = more ∙ ap (λ t. is_among (take i places) x || t) (ne_eqb place x ne) ∙ or_false (is_among (take i places) x) in
      get_or-set_other marks place x mark false (λ f. ne (sym f)) ∙ h ∙ ap (λ t. cond t mark (is_marked old x)) (sym all))
]
  where
    more : is_among (take (i + 1) places) x ≡ (is_among (take i places) x || eqb place x)
    more = list_any_more (λ other. eqb other x) places i 0 lt ∙ ap (λ p. is_among (take i places) x || eqb p x) at

twice : (a b mark old : Bool) → cond b mark (cond a mark old) ≡ cond (a || b) mark old
twice true true mark old = refl
twice true false mark old = refl
twice false true mark old = refl
twice false false mark old = refl

-- one change more
pub gone_more : (old before marks : List Bool) (changes : List Change) (change : Change) (mark : Bool) (i x : ℕ) → i < length changes → get_or changes i change ≡ change
    → is_marked before x ≡ cond (is_gone (take i changes) x) mark (is_marked old x)
    → is_marked marks x ≡ cond (is_among change.gone x) mark (is_marked before x)
    → is_marked marks x ≡ cond (is_gone (take (i + 1) changes) x) mark (is_marked old x)
unfolding is_gone
gone_more old before marks changes change mark i x lt at h k =
    k ∙ ap (λ t. cond (is_among change.gone x) mark t) h
    ∙ twice (is_gone (take i changes) x) (is_among change.gone x) mark (is_marked old x)
    ∙ ap (λ t. cond t mark (is_marked old x)) (sym more)
  where
    more : is_gone (take (i + 1) changes) x ≡ (is_gone (take i changes) x || is_among change.gone x)
    more = list_any_more (λ (c : Change). is_among c.gone x) changes i change lt ∙ ap (λ (c : Change). is_gone (take i changes) x || is_among c.gone x) at

-- ---- marks that were clear

set_there : (b : Bool) → cond b true false ≡ b
set_there true = refl
set_there false = refl

taken_there : (b : Bool) → cond b false b ≡ false
taken_there true = refl
taken_there false = refl

-- what is marked then is what is gone
pub marked_gone : (changes : List Change) (old marks : List Bool) → AreClear old → ((x : ℕ) → is_marked marks x ≡ cond (is_gone changes x) true (is_marked old x))
    → (x : ℕ) → is_marked marks x ≡ is_gone changes x
marked_gone changes old marks clear h x = h x ∙ ap (cond (is_gone changes x) true) (clear x) ∙ set_there (is_gone changes x)

-- and they are clear again when these marks are taken
pub cleared : (changes : List Change) (before marks : List Bool) → ((x : ℕ) → is_marked before x ≡ is_gone changes x)
    → ((x : ℕ) → is_marked marks x ≡ cond (is_gone changes x) false (is_marked before x)) → AreClear marks
cleared changes before marks all h = λ x. h x ∙ ap (cond (is_gone changes x) false) (all x) ∙ taken_there (is_gone changes x)
