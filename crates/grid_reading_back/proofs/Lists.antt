-- Lists of things that are read back one by one.
use Rattle.std.proofs.Common.{◌≡◌, ◌≤◌, ℕ, suc, List, [], ◌∷◌, length, map, Result, Ok, All, refl}
use Rattle.std.specs.List.{AllByRecursion}
use Rattle.serde_json.specs.Data.{Data}
use Rattle.serde_json.specs.View.{items_of}
use Rattle.grid_json.specs.declared.fault.Fault.{Fault}
use Rattle.grid_json.specs.declared.fault.Reason.{Reason}
use Rattle.grid_json.specs.Reading.{items_at, array_at}
use Rattle.grid_json.specs.Job.{few_at}
use Rattle.grid_json.proofs.Limits.{few_read}
use Rattle.grid_print.specs.Objects.{array_of}
use Rattle.grid_print.proofs.Each.{each_of}

module _ {A : Type 0} (read : Data → Result A Fault) (written : A → Data) (P : A → Type 0) (back : (x : A) → P x → read (written x) ≡ Ok x) where
  items_back : (n : ℕ) (xs : List A) → AllByRecursion P xs → items_at read n (items_of (map written xs)) ≡ Ok xs
  unfolding items_at
  items_back n [] fit = refl
  items_back n (x ∷ xs) fit = rw (back x fit.0, items_back (suc n) xs fit.1) refl

  pub array_back : (xs : List A) → All P xs → array_at read (array_of written xs) ≡ Ok xs
  array_back xs fit = items_back 0 xs (each_of P xs fit)

  -- an array with a limit
  pub few_back : (most : ℕ) (reason : Reason) (xs : List A) → All P xs → length xs ≤ most → few_at most reason read (array_of written xs) ≡ Ok xs
  few_back most reason xs fit few = few_read read most reason (array_of written xs) xs (array_back xs fit) few
