-- Texts that are told apart by their first bytes.
use Rattle.std.proofs.Common.{◌≡◌, ◌≢◌, refl, sym, ap, ◌∙◌, ℕ, zero, suc, ◌+◌, ◌*◌, ◌^◌, ◌<◌, ◌≤◌, length, List, [], ◌∷◌, get_or, drop, arith}
use Rattle.std.proofs.Math.Nat.{pow-suc}
use Rattle.std.proofs.lemmas.Nat.{mul-le}
use Rattle.std.specs.declared.cmp.Ordering.{Ordering}
use Rattle.std.specs.declared.cmp.Ordering.TheVariants.{Less, Equal, Greater}
use Rattle.std.specs.Ordering.{MatchOrdering, nat_cmp, ordering_then}
use Rattle.std.specs.Cmp.{nat_cmp_is, ranked}
use Rattle.std.specs.Cmp.Lexicographic.{slice_cmp}
use Rattle.grid_ids.specs.Front.{front_bytes, AreBytes}

behind : (xs : List ℕ) → AreBytes xs → AreBytes (drop 1 xs)
behind [] few k = few k
behind (x ∷ xs) few k = few (suc k)

fits : (p x r : ℕ) → x < 256 → r < p → x * p + r < p * 256
fits p x r few less = let most = mul-le x p 255 p (omega arith) (omega arith) in omega (arith, most)

-- so many bytes are below 256 to their count
front_fits : (n : ℕ) (xs : List ℕ) → AreBytes xs → front_bytes n xs < 256 ^ n
unfolding front_bytes
front_fits zero xs few = omega arith
front_fits (suc n) xs few =
    let made = fits (256 ^ n) (get_or xs 0 0) (front_bytes n (drop 1 xs)) (few 0) (front_fits n (drop 1 xs) (behind xs few)) in
    omega (arith, made, pow-suc 256 n)

front_none : (n : ℕ) → front_bytes n [] ≡ 0
unfolding front_bytes
front_none zero = refl
front_none (suc n) = let rest = front_none n in omega (arith, rest)

-- what both begin with leaves the order to the rest
shifted : (c a b : ℕ) → nat_cmp (c + a) (c + b) ≡ nat_cmp a b
shifted c a b = sym (nat_cmp_is (c + a) (c + b) (nat_cmp a b) (moved (nat_cmp a b) refl))
  where
    moved : (r : Ordering) → r ≡ nat_cmp a b → MatchOrdering r (c + a < c + b) (c + a ≡ c + b) (c + b < c + a)
    moved Less e = (let less : a < b = ranked a b Less e in omega (arith, less))
    moved Equal e = ap (λ n. c + n) (ranked a b Equal e)
    moved Greater e = (let less : b < a = ranked a b Greater e in omega (arith, less))

-- the greater first byte decides
greater : (p x y a b : ℕ) → a < p → x < y → x * p + a < y * p + b
greater p x y a b fit less = let most = mul-le (suc x) p y p (omega arith) (omega arith) in omega (arith, most)

told_heads : (p x y a b : ℕ) (rest : Ordering) → a < p → b < p → x * p + a ≢ y * p + b → (a ≢ b → nat_cmp a b ≡ rest) → nat_cmp (x * p + a) (y * p + b) ≡ ordering_then (nat_cmp x y) rest
told_heads p x y a b rest first second differ same = by (nat_cmp x y) refl
  where
    by : (r : Ordering) → r ≡ nat_cmp x y → nat_cmp (x * p + a) (y * p + b) ≡ ordering_then (nat_cmp x y) rest
    by Less e =
        (let less : x < y = ranked x y Less e in
        sym (nat_cmp_is (x * p + a) (y * p + b) Less (greater p x y a b first less)) ∙ ap (λ o. ordering_then o rest) e)
    by Greater e =
        (let less : y < x = ranked x y Greater e in
        sym (nat_cmp_is (x * p + a) (y * p + b) Greater (greater p y x b a second less)) ∙ ap (λ o. ordering_then o rest) e)
    by Equal e =
        (let alike : x ≡ y = ranked x y Equal e in
        ap (λ z. nat_cmp (x * p + a) (z * p + b)) (sym alike) ∙ shifted (x * p) a b ∙ same (λ is. differ (ap (λ z. z * p + a) alike ∙ ap (λ z. y * p + z) is)) ∙ ap (λ o. ordering_then o rest) e)

-- where the first bytes differ, they decide
pub told : (n : ℕ) (xs ys : List ℕ) → AreBytes xs → AreBytes ys → front_bytes n xs ≢ front_bytes n ys → nat_cmp (front_bytes n xs) (front_bytes n ys) ≡ slice_cmp nat_cmp xs ys
unfolding front_bytes
told zero xs ys first second differ = absurd (differ refl)
told (suc n) [] [] first second differ = absurd (differ refl)
told (suc n) [] (y ∷ ys) first second differ =
    let none = front_none (suc n) in sym (nat_cmp_is (front_bytes (suc n) []) (front_bytes (suc n) (y ∷ ys)) Less (omega (arith, none, differ)))
told (suc n) (x ∷ xs) [] first second differ =
    let none = front_none (suc n) in sym (nat_cmp_is (front_bytes (suc n) (x ∷ xs)) (front_bytes (suc n) []) Greater (omega (arith, none, differ)))
told (suc n) (x ∷ xs) (y ∷ ys) first second differ =
    told_heads (256 ^ n) x y (front_bytes n xs) (front_bytes n ys) (slice_cmp nat_cmp xs ys) (front_fits n xs (behind (x ∷ xs) first)) (front_fits n ys (behind (y ∷ ys) second)) differ (told n xs ys (behind (x ∷ xs) first) (behind (y ∷ ys) second))

-- equal numbers have equal heads and equal rests
same_parts : (p x y a b : ℕ) → a < p → b < p → x * p + a ≡ y * p + b → (x ≡ y) × (a ≡ b)
same_parts p x y a b first second same = by (nat_cmp x y) refl
  where
    by : (r : Ordering) → r ≡ nat_cmp x y → (x ≡ y) × (a ≡ b)
    by Less e =
        (let less : x < y = ranked x y Less e in
        let apart = greater p x y a b first less in
        absurd (omega (arith, apart, same)))
    by Greater e =
        (let less : y < x = ranked x y Greater e in
        let apart = greater p y x b a second less in
        absurd (omega (arith, apart, same)))
    by Equal e =
        (let alike : x ≡ y = ranked x y Equal e in
        let moved : x * p + b ≡ y * p + b = ap (λ z. z * p + b) alike in
        (alike, omega (arith, same, moved)))

-- short texts of one length with the same first bytes are equal
pub same_texts : (n : ℕ) (xs ys : List ℕ) → AreBytes xs → AreBytes ys → length xs ≡ length ys → length xs ≤ n → front_bytes n xs ≡ front_bytes n ys → xs ≡ ys
unfolding front_bytes
same_texts n [] [] first second long few same = refl
same_texts n [] (y ∷ ys) first second long few same = absurd (omega (arith, long))
same_texts n (x ∷ xs) [] first second long few same = absurd (omega (arith, long))
same_texts zero (x ∷ xs) (y ∷ ys) first second long few same = absurd (omega (arith, few))
same_texts (suc n) (x ∷ xs) (y ∷ ys) first second long few same =
    let parts = same_parts (256 ^ n) x y (front_bytes n xs) (front_bytes n ys) (front_fits n xs (behind (x ∷ xs) first)) (front_fits n ys (behind (y ∷ ys) second)) same in
    let rest = same_texts n xs ys (behind (x ∷ xs) first) (behind (y ∷ ys) second) (omega (arith, long)) (omega (arith, few)) parts.1 in
    ap (λ z. z ∷ xs) parts.0 ∙ ap (λ zs. y ∷ zs) rest

-- one byte more
pub front_more : (n k : ℕ) (xs : List ℕ) → front_bytes (suc n) (drop k xs) ≡ get_or xs k 0 * 256 ^ n + front_bytes n (drop (suc k) xs)
unfolding front_bytes
front_more n zero [] = refl
front_more n zero (x ∷ xs) = refl
front_more n (suc k) [] = refl
front_more n (suc k) (x ∷ xs) = front_more n k xs
