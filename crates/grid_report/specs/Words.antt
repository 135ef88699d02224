-- Numbers in a report.
use Rattle.std.specs.Prelude.{ℕ, ℤ, List, ◌++◌, codes}
use Rattle.std.specs.Fmt.{signed_decimal}

-- a whole number in digits, behind a minus sign where it is below 0
unfoldable pub signed : ℤ → List ℕ
signed n = signed_decimal n

-- a number behind a space
abbrev pub behind : ℤ → List ℕ
behind n = codes " " ++ signed n
