use Rattle.std.proofs.Common.{◌≡◌, ap, sym, ◌∙◌, ◌+◌, ◌<◌, ◌≤◌, ℕ, cond, false, get_or, arith, inl, inr, rules}
use Rattle.std.specs.Prelude.{eqb}
use Rattle.std.specs.declared.cmp.Ordering.{Ordering}
use Rattle.std.specs.declared.cmp.Ordering.TheVariants.{Less, Equal, Greater}
use Rattle.std.specs.Ordering.{nat_cmp, is_lt}
use Rattle.std.specs.Cmp.{nat_cmp_total}
use Rattle.std.proofs.lemmas.Bool.{cases_lt, cases_eq, eq-eqb, ne_eqb, lt-ltb, le-ltb}
use Rattle.std.proofs.lemmas.List.{get_or_default}
use Rattle.std.proofs.lemmas.List.Sorted.{answers_always, searchable_from_sorted}
use Rattle.grid_figures.specs.Layouts.{part_at, no_part}
use Rattle.grid_figures.proofs.ChangedLevels.{level_of, rising_before}
use Rattle.grid_figures.proofs.FirstLevels.{unchanged}
use Rattle.grid_figures.proofs.seats.find_changed.Goals as goal

is_less : (a b : ℕ) → a < b → nat_cmp a b ≡ Less
is_less a b lt = ap (λ t. cond t Less (cond (eqb a b) Equal Greater)) (lt-ltb a b lt)

is_no_less : (a b : ℕ) → b ≤ a → nat_cmp a b ≡ cond (eqb a b) Equal Greater
is_no_less a b le = ap (λ t. cond t Less (cond (eqb a b) Equal Greater)) (le-ltb a b le)

is_equal : (a b : ℕ) → a ≡ b → nat_cmp a b ≡ Equal
is_equal a b e = is_no_less a b (omega (arith, e)) ∙ ap (λ t. cond t Equal Greater) (eq-eqb a b e)

equal_from : (a b : ℕ) → nat_cmp a b ≡ Equal → a ≡ b
equal_from a b h = elim (cases_lt a b) [
  | inl lt ↦ (let e : ◌≡◌ {A = Ordering} Less Equal = sym (is_less a b lt) ∙ h in absurd (cc))
  | inr le ↦ elim (cases_eq a b) [
    | inl e ↦ e
    | inr ne ↦ (let e : ◌≡◌ {A = Ordering} Greater Equal = sym (is_no_less a b le ∙ ap (λ t. cond t Equal Greater) (ne_eqb a b ne)) ∙ h in absurd (cc))
  ]
]

none_less : (a b : ℕ) → b ≤ a → is_lt (nat_cmp a b) ≡ false
none_less a b le = ap is_lt (is_no_less a b le) ∙ elim (cases_eq a b) [
  | inl e ↦ ap (λ t. is_lt (cond t Equal Greater)) (eq-eqb a b e)
  | inr ne ↦ ap (λ t. is_lt (cond t Equal Greater)) (ne_eqb a b ne)
]

pub returns-in-Ok : goal.returns-in-Ok
returns-in-Ok c =
    let found = c.in-Ok.ensures.position level_of (answers_always _ _ _ (λ f a r g called. search rules)) in
    (c.in-Ok.ensures.bound, equal_from _ _ (found no_part))

pub returns-in-Err : goal.returns-in-Err
returns-in-Err c =
    let levels = c.args.levels.now in
    let level = c.args.level in
    let found = c.in-Err.ensures.position level_of (answers_always _ _ _ (λ f a r g called. search rules)) in
    let point = found (searchable_from_sorted nat_cmp_total level_of levels level
    (λ k d le lt. (let up = rising_before levels c.requires k (k + 1) (omega arith) lt in
    let here : (get_or levels k d).level ≡ (part_at levels k).level = ap level_of (get_or_default levels k d no_part (omega (arith, lt))) in
    let next : (get_or levels (k + 1) d).level ≡ (part_at levels (k + 1)).level = ap level_of (get_or_default levels (k + 1) d no_part lt) in
    none_less (get_or levels (k + 1) d).level (get_or levels k d).level (omega (arith, up, here, next))))) in
    unchanged levels level (λ k lt e. elim (cases_lt k c.in-Err.field-0) [
      | inl early ↦ (let h : ◌≡◌ {A = Ordering} Less Equal = sym (point.0 k no_part (omega arith) early) ∙ is_equal (part_at levels k).level level e in cc)
      | inr late ↦ (let h : ◌≡◌ {A = Ordering} Greater Equal = sym (point.1 k no_part late lt) ∙ is_equal (part_at levels k).level level e in cc)
    ])
