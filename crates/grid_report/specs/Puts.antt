-- What a call that puts bytes last in a text promises.
use Rattle.std.specs.Prelude.{◌≡◌, [], ◌++◌, List, ℕ, Result, OnOk, OnErr}

-- the bytes are put last; where the call gives up, no text is left
pub record Puts {E : Type 0} (old bytes new : List ℕ) (result : Result (Unit {0}) E) : Type 0 where
  pub ok : OnOk result (new ≡ old ++ bytes)
  pub err : OnErr result (new ≡ [])
