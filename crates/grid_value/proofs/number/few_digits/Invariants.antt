use Rattle.std.proofs.Common.{◌≡◌, ◌≤◌, length, take}
use Rattle.std.specs.Str.Parse.{AllDigits, digits_value}
use Rattle.grid_value.proofs.number.few_digits.Given as goal

abbrev pub invariant-digits : goal.invariant-digits
invariant-digits l = AllDigits 10 (take l.byte-index l.bytes) × (l.number ≡ digits_value 10 (take l.byte-index l.bytes)) × (length l.bytes ≤ 18)
