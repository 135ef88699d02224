-- Bytes that are text, and bytes that are none.
use Rattle.std.proofs.Common.{◌≡◌, ℕ, List, [], ◌∷◌, Bool, true, false, Option, Some, None, refl, ap, cond}
use Rattle.std.specs.Prelude.{IsUtf8, is_some, option_map, option_and_then}
use Rattle.std.specs.Str.{is_utf8}
use Rattle.std.proofs.lemmas.Str.{IsUtf8-from_is_utf8, is_utf8-from_IsUtf8}
use Rattle.serde_json.specs.Data.{Data}
use Rattle.serde_json.specs.Read.{max_depth, of_json, read}
use Rattle.json.specs.Token.{Token}
use Rattle.json.specs.Lex.{tokens}
use Rattle.json.specs.Json.{Json, if_last, value}
use Rattle.grid_value.specs.Bytes.{reading, spelled}

pub reading_some : (bytes : List ℕ) (d : Data) → IsUtf8 bytes → read bytes ≡ Some d → reading bytes ≡ Some d
unfolding reading
reading_some bytes d text is = rw (is_utf8-from_IsUtf8 bytes text) is

cond_none : (b : Bool) (r : Option Data) → (b ≡ true → r ≡ None) → cond b r None ≡ None
cond_none true r h = h refl
cond_none false r h = refl

pub reading_none : (bytes : List ℕ) → (IsUtf8 bytes → read bytes ≡ None) → reading bytes ≡ None
unfolding reading
reading_none bytes h = cond_none (is_utf8 bytes) (read bytes) (λ e. h (IsUtf8-from_is_utf8 bytes e))

-- ---- by the grammar alone

-- the one value of what is read first
abbrev pub alone : Option (Json × List Token) → Option Json
alone read = option_and_then (λ p. if_last p.0 p.1) read

pub spelled_text : (bytes : List ℕ) → IsUtf8 bytes → spelled bytes ≡ alone (value max_depth (tokens bytes))
unfolding spelled
spelled_text bytes text = rw (is_utf8-from_IsUtf8 bytes text) refl

spelled_by : (b : Bool) (j : Option Json) → (b ≡ true → j ≡ None) → cond b j None ≡ None
spelled_by true j h = h refl
spelled_by false j h = refl

pub spelled_none : (bytes : List ℕ) → (IsUtf8 bytes → alone (value max_depth (tokens bytes)) ≡ None) → spelled bytes ≡ None
unfolding spelled
spelled_none bytes h = spelled_by (is_utf8 bytes) (alone (value max_depth (tokens bytes))) (λ e. h (IsUtf8-from_is_utf8 bytes e))

read_by : (b : Bool) (j : Option Json) → cond b j None ≡ None → cond b (option_and_then of_json j) None ≡ None
read_by true j none = ap (option_and_then of_json) none
read_by false j none = refl

pub not_spelled : (bytes : List ℕ) → spelled bytes ≡ None → reading bytes ≡ None
unfolding spelled reading
not_spelled bytes none = read_by (is_utf8 bytes) (alone (value max_depth (tokens bytes))) none

pub alone_refused : (read : Option (Json × List Token)) → option_map (λ p. p.1) read ≡ None → alone read ≡ None
alone_refused None is = refl
alone_refused (Some p) is = absurd (cc)

pub alone_passed : (read : Option (Json × List Token)) (rest : List Token) → option_map (λ p. p.1) read ≡ Some rest → rest ≡ [] → is_some (alone read) ≡ true
alone_passed None rest is none = absurd (cc)
alone_passed (Some (j, [])) rest is none = refl
alone_passed (Some (j, t ∷ ts)) rest is none = absurd (cc)

pub alone_longer : (read : Option (Json × List Token)) (rest : List Token) → option_map (λ p. p.1) read ≡ Some rest → (rest ≡ [] → ⊥) → alone read ≡ None
alone_longer None rest is more = absurd (cc)
alone_longer (Some (j, [])) rest is more = absurd (more cc)
alone_longer (Some (j, t ∷ ts)) rest is more = refl
