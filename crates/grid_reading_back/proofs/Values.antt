-- Numbers, and what is alike in every format.
use Rattle.std.proofs.Common.{◌≡◌, ℤ, pos, negsuc, Ok, refl}
use Rattle.grid_json.specs.declared.format.Format.{Format}
use Rattle.grid_json.specs.declared.format.Format.TheVariants.{One, Two, Three, Four, Five}
use Rattle.grid_json.specs.Reading.{whole_at}
use Rattle.grid_print.specs.Objects.{whole}
use Rattle.grid_print.specs.Readable.{IsWhole}

pub whole_back : (z : ℤ) → IsWhole z → whole_at (whole z) ≡ Ok z
whole_back (pos n) small = rw small refl
whole_back (negsuc n) small = refl

-- what holds of each of the five formats
pub each_format : (P : Format → Type 0) → P One → P Two → P Three → P Four → P Five → (format : Format) → P format
each_format P one two three four five One = one
each_format P one two three four five Two = two
each_format P one two three four five Three = three
each_format P one two three four five Four = four
each_format P one two three four five Five = five
