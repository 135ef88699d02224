-- What is put behind what was put before.
use Rattle.std.proofs.Common.{◌≡◌, ℕ, List, ◌++◌, Result}
use Rattle.std.proofs.lemmas.Result.{on_ok_weaker}
use Rattle.grid_report.specs.Puts.{Puts}

-- what is put behind a text that was put itself is put with it
pub put_with : {E : Type 0} {old between new bytes all : List ℕ} {r : Result (Unit {0}) E} → (new ≡ between ++ bytes → new ≡ old ++ all) → Puts between bytes new r → Puts old all new r
put_with {E} {old} {between} {new} {bytes} {all} {r} whole p = record { ok = on_ok_weaker r whole p.ok; err = p.err }
