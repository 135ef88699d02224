-- Names of members, tested one by one in the code and in the specification.
use Rattle.std.proofs.Common.{◌≡◌, ℕ, List, [], ◌∷◌, ◌++◌, Bool, true, false, ◌&&◌, ◌||◌, refl, sym, Bor, ap, ◌∙◌, Ordering, Less, Equal, Greater, nat_cmp, is_eq}
use Rattle.std.specs.List.{list_any, list_all}
use Rattle.std.proofs.lemmas.List.Folds.{list_all-append}
use Rattle.std.specs.Ordering.{match_ordering}
use Rattle.std.specs.Str.{bytes_eq}
use Rattle.std.specs.Cmp.Lexicographic.{slice_cmp}
use Rattle.std.proofs.lemmas.Map.Text.{is_eq-slice_cmp}
use Rattle.std.proofs.lemmas.Slice.Eq.{bytes_eq-Decides}
use Rattle.serde_json.specs.Data.{Data, Members, no_members, member, put}
use Rattle.grid_lemmas.proofs.Bools.{and_true}
use Rattle.grid_value.specs.View.{Listed, put_each}
use Rattle.grid_json.specs.Reading.{knows, texts, all_known}

pub knows_is : (names : List (Bor (List ℕ))) (name : List ℕ) → list_any (λ known. bytes_eq known.now name) names ≡ knows (texts names) name
knows_is [] name = refl
knows_is (n ∷ names) name = ap (λ b. bytes_eq n.now name || b) (knows_is names name)

-- ---- a member that is put among others

twice : (a b : Bool) → (a && b) ≡ (a && (a && b))
twice true b = refl
twice false b = refl

swapped : (a b c : Bool) → (b && (a && c)) ≡ (a && (b && c))
swapped true true c = refl
swapped true false c = refl
swapped false true c = refl
swapped false false c = refl

put_at : (names : List (List ℕ)) (o : Ordering) (k l : List ℕ) (d e : Data) (ms : Members) → slice_cmp nat_cmp k l ≡ o
    → all_known names (put k d ms) ≡ (knows names k && all_known names ms)
    → all_known names (match_ordering o (member k d (member l e ms)) (member l d ms) (member l e (put k d ms))) ≡ (knows names k && (knows names l && all_known names ms))
put_at names Less k l d e ms is later = refl
put_at names Equal k l d e ms is later =
    let same : k ≡ l = (bytes_eq-Decides k l).0 (sym (is_eq-slice_cmp k l) ∙ ap is_eq is) in
    twice (knows names l) (all_known names ms) ∙ ap (λ n. knows names n && (knows names l && all_known names ms)) (sym same)
put_at names Greater k l d e ms is later = ap (λ b. knows names l && b) later ∙ swapped (knows names k) (knows names l) (all_known names ms)

pub put_known : (names : List (List ℕ)) (k : List ℕ) (d : Data) (ms : Members) → all_known names (put k d ms) ≡ (knows names k && all_known names ms)
put_known names k d no_members = refl
put_known names k d (member l e ms) = put_at names _ k l d e ms refl (put_known names k d ms)

-- ---- all members

abbrev pub are_known : List (List ℕ) → Listed → Bool
are_known names ms = list_all (λ m. knows names m.0) ms

pub each_known : (names : List (List ℕ)) (ms : Listed) (found : Members) → all_known names (put_each ms found) ≡ (are_known names ms && all_known names found)
each_known names [] found = refl
each_known names (m ∷ ms) found =
    each_known names ms (put m.0 m.1 found) ∙ ap (λ b. are_known names ms && b) (put_known names m.0 m.1 found)
    ∙ moved (knows names m.0) (are_known names ms) (all_known names found)
  where
    moved : (a b c : Bool) → (b && (a && c)) ≡ ((a && b) && c)
    moved true b c = refl
    moved false true c = refl
    moved false false c = refl

pub has_only_is : (names : List (List ℕ)) (ms : Listed) → all_known names (put_each ms no_members) ≡ are_known names ms
has_only_is names ms = each_known names ms no_members ∙ and_true (are_known names ms)

-- ---- the last of all members

last_test : (names : List (List ℕ)) (ms : Listed) (name : List ℕ) (d : Data) (b : Bool) → knows names name ≡ b → are_known names (ms ++ (name, d) ∷ []) ≡ (are_known names ms && (b && true))
last_test names ms name d b is = list_all-append (λ m. knows names m.0) ms ((name, d) ∷ []) ∙ ap (λ t. are_known names ms && (t && true)) is

pub last_known : (names : List (List ℕ)) (ms : Listed) (name : List ℕ) (d : Data) → knows names name ≡ true → are_known names (ms ++ (name, d) ∷ []) ≡ are_known names ms
last_known names ms name d is = last_test names ms name d true is ∙ and_true (are_known names ms)

pub last_unknown : (names : List (List ℕ)) (ms : Listed) (name : List ℕ) (d : Data) → knows names name ≡ false → are_known names (ms ++ (name, d) ∷ []) ≡ false
last_unknown names ms name d is = last_test names ms name d false is ∙ never (are_known names ms)
  where
    never : (a : Bool) → (a && false) ≡ false
    never true = refl
    never false = refl
