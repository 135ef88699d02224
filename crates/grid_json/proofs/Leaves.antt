-- What is read from one token.
use Rattle.std.proofs.Common.{◌≡◌, ℕ, ℤ, Bool, List, Option, Some, None, Result, Ok, Err, IfSome, IfOk, OnOk, sym, ap, refl}
use Rattle.std.specs.Result.{result_ok}
use Rattle.json.specs.Token.{Token}
use Rattle.serde_json.specs.Data.{Data, boolean, number, string}
use Rattle.grid_ids.specs.declared.id.IdFault.{IdFault}
use Rattle.grid_ids.specs.Fault.{id_fault}
use Rattle.grid_value.specs.Leaves.{NextIs, NextWhole}
use Rattle.grid_json.specs.declared.fault.Fault.{Fault}
use Rattle.grid_json.specs.declared.fault.Reason.{Reason}
use Rattle.grid_json.specs.Reading.{or_fault, whole_at, flag_at, id_at}
use Rattle.grid_json.specs.Streams.{Streams}

module _ (depth : ℕ) (old new : List Token) where
  pub whole_streams : (o : Option ℤ) → IfSome o (λ whole. NextWhole whole old new) → IfSome o (Streams whole_at depth old new)
  whole_streams None next = tt
  whole_streams (Some whole) next = (number next.0, next.2 depth, rw next.1)

  pub flag_streams : (o : Option Bool) → IfSome o (λ flag. NextIs (boolean flag) old new) → IfSome o (Streams flag_at depth old new)
  flag_streams None next = tt
  flag_streams (Some flag) next = (boolean flag, next depth, refl)

  pub id_streams : (text : List ℕ) (made : Result (List ℕ) IdFault) → NextIs (string text) old new → IfOk made (λ id. id ≡ text) → OnOk made (id_fault text ≡ None)
      → IfSome (result_ok made) (Streams id_at depth old new)
  id_streams text (Ok id) next is valid = (string text, next depth, rw valid (ap Ok (sym is)))
  id_streams text (Err fault) next is valid = tt

  -- a text is read as what a look at it gives, where it gives something
  pub text_streams : {A : Type 0} (read : Data → Result A Fault) (text : List ℕ) (o : Option A) (reason : Reason) → NextIs (string text) old new
      → or_fault reason o ≡ read (string text) → IfSome o (Streams read depth old new)
  text_streams read text None reason next is = tt
  text_streams read text (Some x) reason next is = (string text, next depth, sym is)
