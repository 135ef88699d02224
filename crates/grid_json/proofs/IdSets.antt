-- Sets of ids by the keys that keep them, and lists of ids that have the same.
use Rattle.std.proofs.Common.{◌≡◌, refl, sym, ap, ◌∙◌, ℕ, Bool, true, false, cond, ◌||◌, not, List, [], ◌∷◌, ◌++◌, append_assoc}
use Rattle.std.specs.BTreeSet.{BTreeSet, Updates}
use Rattle.std.specs.Cmp.Lexicographic.{slice_cmp}
use Rattle.std.specs.List.{list_any}
use Rattle.std.specs.Ordering.{is_eq, nat_cmp}
use Rattle.std.specs.Str.{bytes_eq}
use Rattle.std.proofs.lemmas.Bool.{false≢true, false_from_ne_true}
use Rattle.std.proofs.lemmas.Map.Text.{is_eq-slice_cmp}
use Rattle.std.proofs.lemmas.Slice.Eq.{bytes_eq-Decides}
use Rattle.grid_ids.specs.Name.{has_id}
use Rattle.grid_ids.proofs.Alike.{has_join}
use Rattle.grid_json.specs.Seen.{Knows}

-- ---- the order of the operands

pub same_flip : (a b : List ℕ) → bytes_eq a b ≡ bytes_eq b a
same_flip a b = by (bytes_eq a b) refl
  where
    by : (t : Bool) → bytes_eq a b ≡ t → bytes_eq a b ≡ bytes_eq b a
    by true e = e ∙ sym ((bytes_eq-Decides b a).1 (sym ((bytes_eq-Decides a b).0 e)))
    by false e = e ∙ sym (false_from_ne_true (bytes_eq b a) (λ h. false≢true (sym e ∙ (bytes_eq-Decides a b).1 (sym ((bytes_eq-Decides b a).0 h)))))

-- ---- lists with the same ids

pub knows-append : (seen ids more : List (List ℕ)) → Knows seen ids → Knows (seen ++ more) (ids ++ more)
knows-append seen ids more k q = has_join seen more q ∙ ap (λ t. t || has_id more q) (k q) ∙ sym (has_join ids more q)

-- one id more, behind those in front
pub knows_next : (seen now ids front : List (List ℕ)) (id : List ℕ) → Knows seen (ids ++ front) → Knows now (seen ++ id ∷ []) → Knows now (ids ++ (front ++ id ∷ []))
knows_next seen now ids front id k h q = h q ∙ knows-append seen (ids ++ front) (id ∷ []) k q ∙ ap (λ z. has_id z q) (append_assoc ids front (id ∷ []))

-- ---- the keys of a set

same_test : (id : List ℕ) → (λ k. is_eq (slice_cmp nat_cmp id k)) ≡ bytes_eq id
same_test id = λ i k. is_eq-slice_cmp id k i

pub key_found : (id : List ℕ) (keys : List (List ℕ)) → list_any (λ k. is_eq (slice_cmp nat_cmp id k)) keys ≡ has_id keys id
unfolding has_id
key_found id keys = ap (λ test. list_any test keys) (same_test id)

or_swapped : (t u : Bool) → cond t true u ≡ (u || (t || false))
or_swapped true true = refl
or_swapped true false = refl
or_swapped false true = refl
or_swapped false false = refl

just_one : (id q : List ℕ) → has_id (id ∷ []) q ≡ (bytes_eq q id || false)
unfolding has_id
just_one id q = refl

pub key_next : (id : List ℕ) (old new : BTreeSet (List ℕ)) → Updates (slice_cmp nat_cmp) old new id true → Knows new.keys (old.keys ++ id ∷ [])
key_next id old new u q =
    sym (key_found q new.keys) ∙ u.0 q ∙ ap (λ t. cond t true (list_any (λ k. is_eq (slice_cmp nat_cmp q k)) old.keys)) (is_eq-slice_cmp id q ∙ same_flip id q)
    ∙ ap (λ t. cond (bytes_eq q id) true t) (key_found q old.keys) ∙ or_swapped (bytes_eq q id) (has_id old.keys q)
    ∙ ap (λ t. has_id old.keys q || t) (sym (just_one id q)) ∙ sym (has_join old.keys (id ∷ []) q)

pub new_told : (id name : List ℕ) (keys seen : List (List ℕ)) (added : Bool) → name ≡ id → keys ≡ seen → added ≡ not (list_any (λ k. is_eq (slice_cmp nat_cmp name k)) keys) → added ≡ not (has_id seen id)
new_told id name keys seen added named same e =
    e ∙ ap (λ z. not (list_any (λ k. is_eq (slice_cmp nat_cmp z k)) keys)) named ∙ ap not (key_found id keys) ∙ ap (λ z. not (has_id z id)) same

pub key_added : (id name : List ℕ) (old new : BTreeSet (List ℕ)) (seen : List (List ℕ)) → name ≡ id → old.keys ≡ seen → Updates (slice_cmp nat_cmp) old new name true → Knows new.keys (seen ++ id ∷ [])
key_added id name old new seen named same u q = key_next name old new u q ∙ ap (λ z. has_id (z ++ name ∷ []) q) same ∙ ap (λ z. has_id (seen ++ z ∷ []) q) named
