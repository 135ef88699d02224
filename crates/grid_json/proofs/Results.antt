-- What a reading that went well read.
use Rattle.std.proofs.Common.{◌≡◌, refl, ℕ, Bool, true, false, cond, List, inl, inr, Option, Some, None, Result, Ok, Err}
use Rattle.std.specs.Prelude.{◌⊎◌}
use Rattle.serde_json.specs.Data.{Data}
use Rattle.grid_requests.specs.declared.request.Request.{Request}
use Rattle.grid_json.specs.declared.fault.Fault.{Fault}
use Rattle.grid_json.specs.declared.fault.Reason.TheVariants.{TooManyCommands}
use Rattle.grid_json.specs.Reading.{◌>>=◌, here, present, present_or, some_of, under}

pub bound : {A B : Type 0} (first : Result A Fault) (rest : A → Result B Fault) (y : B) → (first >>= rest) ≡ Ok y → (x : A) × (first ≡ Ok x) × (rest x ≡ Ok y)
bound (Ok x) rest y is = (x, refl, is)
bound (Err fault) rest y is = cc

pub inside : {A : Type 0} (name : List ℕ) (read : Result A Fault) (x : A) → under name read ≡ Ok x → read ≡ Ok x
inside name (Ok y) x is = cc
inside name (Err fault) x is = cc

pub member_read : {A : Type 0} (read : Data → Result A Fault) (name : List ℕ) (found : Option Data) (x : A) → present read name found ≡ Ok x → (d : Data) × (read d ≡ Ok x)
member_read read name None x is = cc
member_read read name (Some d) x is = (d, inside name (read d) x is)

-- a member that may be absent is the other value, or was read
pub either_read : {A : Type 0} (otherwise : A) (read : Data → Result A Fault) (name : List ℕ) (found : Option Data) (x : A) → present_or otherwise read name found ≡ Ok x → (x ≡ otherwise) ⊎ ((d : Data) × (read d ≡ Ok x))
either_read otherwise read name None x is = inl cc
either_read otherwise read name (Some d) x is = inr (d, inside name (read d) x is)

pub some_read : {A : Type 0} (read : Result A Fault) (found : Option A) → some_of read ≡ Ok found → (x : A) × (read ≡ Ok x) × (found ≡ Some x)
some_read (Ok x) found is = (x, refl, cc)
some_read (Err fault) found is = cc

-- the scripts that were counted are those that were read
pub all_counted : (scripts counted : List (List Request)) (over : Bool) → cond over (Err (here TooManyCommands)) (Ok scripts) ≡ Ok counted → scripts ≡ counted
all_counted scripts counted true is = cc
all_counted scripts counted false is = cc
