-- Tables by ids, after one id was given a value.
use Rattle.std.proofs.Common.{◌≡◌, refl, ap, ◌∙◌, ℕ, Bool, true, false, cond, List, [], Option, Some, None}
use Rattle.std.specs.Prelude.{unwrap_or}
use Rattle.std.specs.BTreeMap.{BTreeMap, UpdatesBy, get}
use Rattle.std.specs.Cmp.Lexicographic.{slice_cmp}
use Rattle.std.specs.Map.{lookup}
use Rattle.std.specs.Ordering.{is_eq, nat_cmp}
use Rattle.std.specs.Str.{bytes_eq}
use Rattle.std.proofs.lemmas.Map.Text.{is_eq-slice_cmp}
use Rattle.grid_configured.specs.declared.standing.Tally.{Tally}
use Rattle.grid_configured.specs.Standing.{count_at, tally_at}

changed : {X : Type 0} (id name : List ℕ) (m n : BTreeMap (List ℕ) X) (w : Option X) → name ≡ id → UpdatesBy (slice_cmp nat_cmp) (slice_cmp nat_cmp name) m n w → (q : List ℕ) → get (slice_cmp nat_cmp) n q ≡ cond (bytes_eq id q) w (get (slice_cmp nat_cmp) m q)
changed id name m n w named u q = u.0 q ∙ ap (λ t. cond t w (get (slice_cmp nat_cmp) m q)) (is_eq-slice_cmp name q ∙ ap (λ z. bytes_eq z q) named)

pub tally_changed : (id name : List ℕ) (m n : BTreeMap (List ℕ) Tally) (tally : Tally) → name ≡ id → UpdatesBy (slice_cmp nat_cmp) (slice_cmp nat_cmp name) m n (Some tally) → (q : List ℕ) → tally_at n q ≡ cond (bytes_eq id q) (Some tally) (tally_at m q)
unfolding tally_at
tally_changed id name m n tally named u q = changed id name m n (Some tally) named u q

chosen : (b : Bool) (count : ℕ) (old : Option ℕ) → unwrap_or (cond b (Some count) old) 0 ≡ cond b count (unwrap_or old 0)
chosen true count old = refl
chosen false count old = refl

pub count_changed : (id name : List ℕ) (m n : BTreeMap (List ℕ) ℕ) (count : ℕ) → name ≡ id → UpdatesBy (slice_cmp nat_cmp) (slice_cmp nat_cmp name) m n (Some count) → (q : List ℕ) → count_at n q ≡ cond (bytes_eq id q) count (count_at m q)
unfolding count_at
count_changed id name m n count named u q = ap (λ z. unwrap_or z 0) (changed id name m n (Some count) named u q) ∙ chosen (bytes_eq id q) count (get (slice_cmp nat_cmp) m q)

-- ---- tables of nothing

pub no_tally : (m : BTreeMap (List ℕ) Tally) (q : List ℕ) → m.entries ≡ [] → tally_at m q ≡ None
unfolding tally_at
no_tally m q none = ap (λ (es : List (List ℕ × Tally)). lookup (λ k. is_eq (slice_cmp nat_cmp q k)) es) none

pub no_count : (m : BTreeMap (List ℕ) ℕ) (q : List ℕ) → m.entries ≡ [] → count_at m q ≡ 0
unfolding count_at
no_count m q none = ap (λ (es : List (List ℕ × ℕ)). unwrap_or (lookup (λ k. is_eq (slice_cmp nat_cmp q k)) es) 0) none
