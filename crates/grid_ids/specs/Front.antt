-- The first bytes of a text as one number.
use Rattle.std.specs.Prelude.{ℕ, zero, suc, ◌+◌, ◌*◌, ◌^◌, ◌<◌, ◌++◌, nat_lt, if◌then◌else◌, List, [], ◌∷◌, length, get_or, drop}
use Rattle.std.specs.Hash.{HashWrites, u64}

-- so many bytes, of which the first weighs most; what is lacking counts as zero
unfoldable pub front_bytes : ℕ → List ℕ → ℕ
front_bytes zero bytes = 0
front_bytes (suc count) bytes = get_or bytes 0 0 * 256 ^ count + front_bytes count (drop 1 bytes)

-- the first eight
abbrev pub front_of : List ℕ → ℕ
front_of bytes = front_bytes 8 bytes

-- each is a byte
abbrev pub AreBytes : List ℕ → Type 0
AreBytes bytes = (k : ℕ) → get_or bytes k 0 < 256

-- what is fed to a hash function: the first eight bytes as a number, and then those behind them, where there are some
unfoldable pub fed_id : List ℕ → HashWrites
fed_id bytes = u64 (front_of bytes) ++ (if nat_lt 8 (length bytes) then drop 8 bytes ∷ [] else [])
