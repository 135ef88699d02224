-- Under what a call returned.
use Rattle.std.specs.Prelude.{Result, Ok, Err}
use Rattle.std.specs.Result.{OnOk, IfOk}

pub OnOk_then : {A E : Type 0} (r : Result A E) (P Q : Type 0) → OnOk r P → (P → Q) → OnOk r Q
OnOk_then (Ok x) P Q h f = f h
OnOk_then (Err e) P Q h f = h

pub IfOk_then : {A E : Type 0} (r : Result A E) (P Q : A → Type 0) → IfOk r P → ((x : A) → P x → Q x) → IfOk r Q
IfOk_then (Ok x) P Q h f = f x h
IfOk_then (Err e) P Q h f = h
