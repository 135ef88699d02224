-- Texts that stand between quotes as they are.
use Rattle.std.proofs.Common.{◌≡◌, refl, ap, ◌∙◌, ℕ, zero, suc, ℤ, pos, negsuc, ◌+◌, ◌<◌, ◌/◌, ◌%◌, List, [], ◌∷◌, ◌++◌, Bool, true, false, Result, arith, sym, append_assoc}
use Rattle.std.specs.Prelude.{◌==◌, decimal, codes, if◌then◌else◌}
use Rattle.std.specs.Fmt.{digits, digits_onto, digit_glyph}
use Rattle.std.proofs.lemmas.List.Concat.{flat_map-append}
use Rattle.std.proofs.lemmas.Bool.{lt-ltb}
use Rattle.json.proofs.Printed.Strings.{escape_byte_plain}
use Rattle.json.specs.Print.{escape, escape_byte, quoted}
use Rattle.serde_json.specs.Data.{string}
use Rattle.serde_json.specs.Written.{compact_text}
use Rattle.grid_print.specs.Objects.{whole}
use Rattle.grid_jsonl.specs.Trees.{has_64_bits, sum_value}
use Rattle.grid_level.specs.declared.Terminal.{Terminal}
use Rattle.grid_report.specs.Lines.{bus_name, terminal_text}
use Rattle.grid_report.specs.Words.{signed, behind}
use Rattle.grid_report.specs.Puts.{Puts}
use Rattle.grid_jsonl.proofs.Puts.{put_with}

-- the text is written between quotes as it is
abbrev pub Stays : List ℕ → Type 0
Stays text = escape text ≡ text

pub stays_more : (xs ys : List ℕ) → Stays xs → Stays ys → Stays (xs ++ ys)
stays_more xs ys h k = flat_map-append escape_byte xs ys ∙ ap (λ l. l ++ escape ys) h ∙ ap (λ l. xs ++ l) k

stays_cons : (x : ℕ) (xs : List ℕ) → escape_byte x ≡ x ∷ [] → Stays xs → Stays (x ∷ xs)
stays_cons x xs h k = ap (λ l. l ++ escape xs) h ∙ ap (λ l. x ∷ l) k

-- the digits of numbers do

digit_stays : (d : ℕ) → d < 10 → escape_byte (digit_glyph false d) ≡ digit_glyph false d ∷ []
digit_stays d h =
    let digit : digit_glyph false d ≡ 48 + d = ap (λ b. if b then 48 + d else 87 + d) (lt-ltb d 10 h) in
    rw digit (escape_byte_plain (48 + d) (λ e. omega arith) (λ e. omega arith) (omega arith))

last_stays : (n : ℕ) (acc : List ℕ) → Stays acc → Stays (digit_glyph false (n % 10) ∷ acc)
last_stays n acc h = stays_cons _ acc (digit_stays (n % 10) (omega arith)) h

either_stays : (b : Bool) (xs ys : List ℕ) → Stays xs → Stays ys → Stays (if b then xs else ys)
either_stays true xs ys h k = h
either_stays false xs ys h k = k

digits_stay : (k n : ℕ) (acc : List ℕ) → Stays acc → Stays (digits_onto k 10 false n acc)
digits_stay zero n acc h = h
digits_stay (suc k) n acc h =
    let next = digit_glyph false (n % 10) ∷ acc in
    let stays = last_stays n acc h in
    either_stays (n / 10 == 0) next (digits_onto k 10 false (n / 10) next) stays (digits_stay k (n / 10) next stays)

pub decimal_stays : (n : ℕ) → Stays (decimal n)
unfolding digits
decimal_stays n = digits_stay 64 n [] refl

pub signed_stays : (z : ℤ) → escape (signed z) ≡ signed z
unfolding signed escape_byte
signed_stays (pos n) = decimal_stays n
signed_stays (negsuc n) = stays_cons 45 (decimal (suc n)) refl (decimal_stays (suc n))

pub behind_stays : (z : ℤ) → Stays (behind z)
unfolding escape_byte
behind_stays z = stays_cons 32 (signed z) refl (signed_stays z)

-- ---- numbers

pub whole_text : (z : ℤ) → compact_text (whole z) ≡ signed z
unfolding signed
whole_text (pos n) = refl
whole_text (negsuc n) = refl

pub sum_number : (z : ℤ) → has_64_bits z ≡ true → compact_text (sum_value z) ≡ signed z
unfolding sum_value
sum_number z h = ap (λ b. compact_text (if b then whole z else string (signed z))) h ∙ whole_text z

pub sum_digits : (z : ℤ) → has_64_bits z ≡ false → compact_text (sum_value z) ≡ 34 ∷ (signed z ++ 34 ∷ [])
unfolding sum_value
sum_digits z h = ap (λ b. compact_text (if b then whole z else string (signed z))) h ∙ ap (λ l. 34 ∷ (l ++ 34 ∷ [])) (signed_stays z)

-- ---- names

-- an id, a mark and a number: the id alone may have to be escaped
named_escaped : (name mark : List ℕ) (number : ℕ) → Stays mark → escape (name ++ mark ++ decimal number) ≡ escape name ++ mark ++ decimal number
named_escaped name mark number h =
    flat_map-append escape_byte (name ++ mark) (decimal number)
    ∙ ap (λ l. l ++ escape (decimal number)) (flat_map-append escape_byte name mark ∙ ap (λ l. escape name ++ l) h)
    ∙ ap (λ l. (escape name ++ mark) ++ l) (decimal_stays number)

pub bus_name_escaped : (level : List ℕ) (least : ℕ) → escape (bus_name level least) ≡ escape level ++ codes "_" ++ decimal least
unfolding escape_byte
bus_name_escaped level least = named_escaped level (codes "_") least refl

pub terminal_escaped : (t : Terminal) → escape (terminal_text t) ≡ escape t.equipment ++ codes "." ++ decimal t.side
unfolding escape_byte
terminal_escaped t = named_escaped t.equipment (codes ".") t.side refl

-- a text is put where an id in it, a mark and digits are, and the closing quote
pub quoted_ends : {E : Type 0} {numbered next : List ℕ} {r : Result (Unit {0}) E} (before name mark digits text old named : List ℕ) → 34 ∷ escape text ≡ before ++ escape name ++ mark ++ digits
    → named ≡ old ++ (before ++ escape name ++ mark) → numbered ≡ named ++ digits → Puts numbered (34 ∷ []) next r → Puts old (quoted text) next r
quoted_ends before name mark digits text old named is a b p =
    let parts : (before ++ escape name ++ mark) ++ digits ≡ before ++ escape name ++ mark ++ digits = simp append_assoc in
    put_with (λ c. c
    ∙ ap (λ l. l ++ 34 ∷ []) (b ∙ ap (λ l. l ++ digits) a ∙ append_assoc old (before ++ escape name ++ mark) digits ∙ ap (λ l. old ++ l) (parts ∙ sym is))
    ∙ append_assoc old (34 ∷ escape text) (34 ∷ [])) p
