-- A printed order is read back as that order.
use Rattle.std.proofs.Common.{◌≡◌, ◌<◌, ◌≤◌, ◌^◌, ℕ, pos, suc, true, not, List, [], ◌∷◌, length, map, Ok, refl, arith}
use Rattle.std.specs.Prelude.{int_lt}
use Rattle.std.specs.List.{list_all}
use Rattle.std.proofs.lemmas.Bool.{and_parts, lt-ltb, ltb-true}
use Rattle.serde_json.specs.View.{items_of}
use Rattle.grid_lemmas.proofs.Lists.{length_map}
use Rattle.grid_requests.specs.declared.request.Request.{Request}
use Rattle.grid_json.specs.Reading.{items_at, whole_at}
use Rattle.grid_json.specs.Job.{max_workers, is_worker, is_order, counts_from, natural_of, order_at}
use Rattle.grid_print.specs.Objects.{array_of, natural}
use Rattle.grid_reading_back.specs.Jobs.{IsScheduleOf}

-- the numbers of few workers fit
numbers_back : (workers n : ℕ) (order : List ℕ) → workers ≤ max_workers → list_all (is_worker workers) (map (λ k. pos k) order) ≡ true
    → items_at whole_at n (items_of (map natural order)) ≡ Ok (map (λ k. pos k) order)
unfolding items_at
numbers_back workers n [] few all = refl
numbers_back workers n (k ∷ order) few all =
    let parts = and_parts (is_worker workers (pos k)) (list_all (is_worker workers) (map (λ m. pos m) order)) all in
    let below : k < workers = ltb-true k workers (and_parts (not (int_lt (pos k) (pos 0))) (int_lt (pos k) (pos workers)) parts.0).1 in
    let small : k < 2 ^ 63 = omega (arith, below, few) in
    rw (lt-ltb k (2 ^ 63) small, numbers_back workers (suc n) order few parts.1) refl

same_numbers : (order : List ℕ) → map natural_of (map (λ k. pos k) order) ≡ order
same_numbers [] = refl
same_numbers (k ∷ order) = rw (same_numbers order) refl

pub order_back : (scripts : List (List Request)) (order : List ℕ) → length scripts ≤ max_workers → IsScheduleOf scripts order → order_at scripts (array_of natural order) ≡ Ok order
unfolding is_order
order_back scripts order few scheduled =
    let lengths = map length scripts in
    let numbers = map (λ k. pos k) order in
    let workers : length lengths ≤ max_workers = rw (length_map length scripts) few in
    let parts = and_parts (list_all (is_worker (length lengths)) numbers) (counts_from 0 lengths numbers) scheduled in
    rw (numbers_back (length lengths) 0 order workers parts.0, parts.0, parts.1, same_numbers order) refl
