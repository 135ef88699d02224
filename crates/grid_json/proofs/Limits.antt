-- Arrays that were read without a limit and have few enough items.
use Rattle.std.proofs.Common.{◌≡◌, ℕ, suc, ◌≤◌, List, [], ◌∷◌, length, false, cond, Option, Some, None, Result, Ok, Err, refl, ap, ◌∙◌, arith}
use Rattle.std.specs.Prelude.{decimal, nat_lt}
use Rattle.serde_json.specs.Data.{Data, Items, no_items, item}
use Rattle.serde_json.specs.Find.{as_array}
use Rattle.json.specs.Token.{Token}
use Rattle.grid_requests.specs.declared.request.Request.{Request}
use Rattle.grid_json.specs.declared.fault.Fault.{Fault}
use Rattle.grid_json.specs.declared.fault.Reason.{Reason}
use Rattle.grid_json.specs.declared.fault.Reason.TheVariants.{WrongKind}
use Rattle.grid_json.specs.declared.format.Format.{Format}
use Rattle.grid_value.specs.View.{items_len}
use Rattle.grid_json.specs.Reading.{◌>>=◌, or_fault, under, items_at, array_at}
use Rattle.grid_json.specs.Command.{command_at}
use Rattle.grid_json.specs.Job.{few_at, workers_at, max_commands, max_workers, command_total}
use Rattle.grid_json.specs.Streams.{Streams}
use Rattle.grid_json.proofs.Results.{bound}

module _ {A : Type 0} (read : Data → Result A Fault) where
  -- as many items were read as there are
  items_read_len : (ds : Items) (i : ℕ) (xs : List A) → items_at read i ds ≡ Ok xs → items_len ds ≡ length xs
  unfolding items_at
  items_read_len no_items i [] is = refl
  items_read_len no_items i (x ∷ xs) is = cc
  items_read_len (item d ds) i xs is =
      let one = bound (under (decimal i) (read d)) (λ x. items_at read (suc i) ds >>= λ ys. Ok (x ∷ ys)) xs is in
      let rest = bound (items_at read (suc i) ds) (λ ys. Ok (one.0 ∷ ys)) xs one.2 in
      let same : one.0 ∷ rest.0 ≡ xs = cc in
      ap suc (items_read_len ds (suc i) rest.0 rest.1) ∙ ap length same

  few_items : (most : ℕ) (reason : Reason) (found : Option Items) (xs : List A) → (or_fault WrongKind found >>= λ ds. items_at read 0 ds) ≡ Ok xs → length xs ≤ most
      → (or_fault WrongKind found >>= λ ds. cond (nat_lt most (items_len ds)) (Err (record { place = []; reason = reason })) (items_at read 0 ds)) ≡ Ok xs
  few_items most reason None xs is few = cc
  few_items most reason (Some ds) xs is few =
      let within : nat_lt most (items_len ds) ≡ false = rw (items_read_len ds 0 xs is) (grind arith) in
      rw within is

  -- an array that was read and has few enough items is one with that limit
  pub few_read : (most : ℕ) (reason : Reason) (d : Data) (xs : List A) → array_at read d ≡ Ok xs → length xs ≤ most → few_at most reason read d ≡ Ok xs
  few_read most reason d xs is few = few_items most reason (as_array d) xs is few

-- scripts that were read, and are as few as a job may have
pub workers_read : (format : Format) (depth : ℕ) (old new : List Token) (scripts : List (List Request)) → Streams (array_at (array_at (command_at format))) depth old new scripts
    → length scripts ≤ max_workers → nat_lt max_commands (command_total scripts) ≡ false → Streams (workers_at format) depth old new scripts
workers_read format depth old new scripts (d, next, is) few total =
    (d, next, rw (few_read (array_at (command_at format)) max_workers _ d scripts is few, total) refl)
