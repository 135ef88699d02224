-- What an option that is made of another one was made of, and what a reading that went well read.
use Rattle.std.proofs.Common.{◌≡◌, Option, Some, None, Result, Ok, option_map, option_and_then, refl}
use Rattle.grid_json.specs.declared.fault.Fault.{Fault}

pub mapped : {A B : Type 0} (f : A → B) (o : Option A) (y : B) → option_map f o ≡ Some y → (x : A) × (o ≡ Some x) × (f x ≡ y)
mapped f None y is = cc
mapped f (Some x) y is = (x, refl, cc)

pub chained : {A B : Type 0} (f : A → Option B) (o : Option A) (y : B) → option_and_then f o ≡ Some y → (x : A) × (o ≡ Some x) × (f x ≡ Some y)
chained f None y is = cc
chained f (Some x) y is = (x, refl, is)

pub same_read : {A : Type 0} (x y : A) → ◌≡◌ {A = Result A Fault} (Ok x) (Ok y) → x ≡ y
same_read x y is = cc
