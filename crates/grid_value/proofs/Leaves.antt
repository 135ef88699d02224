-- What a look takes from a token that opens no array and no object.
use Rattle.std.proofs.Common.{◌≡◌, ℕ, ℤ, List, [], ◌∷◌, Option, Some, None, IfSome, option_map, option_and_then, Bor, refl, sym, ap, ◌∙◌}
use Rattle.std.specs.Prelude as std
use Rattle.json.specs.Token as json
use Rattle.json.specs.Json.{value}
use Rattle.json.specs.Reads.{token_of}
use Rattle.json.specs.declared.token.Token.{Token}
use Rattle.json.specs.declared.token.Token.TheVariants.{BeginObject, EndObject, BeginArray, EndArray, Key, String, Number, Bool, Null, Bad}
use Rattle.json.proofs.Grammar.{value_is}
use Rattle.serde_json.specs.Data.{Num, Data, boolean, number, string}
use Rattle.serde_json.specs.Find.{as_bool, as_str, as_i64}
use Rattle.serde_json.specs.Read.{of_json, converted, number_of}
use Rattle.grid_value.specs.Leaves.{NextIs, NextWhole, of_leaf, whole_of}

pub flag_is : (b : std.Bool) (old new : List json.Token) → old ≡ json.boolean b ∷ new → NextIs (boolean b) old new
flag_is b old new first = λ depth. ap (λ ts. converted of_json (value depth ts)) first ∙ ap (converted of_json) (value_is depth _)

pub text_is : (s : List ℕ) (old new : List json.Token) → old ≡ json.string s ∷ new → NextIs (string s) old new
text_is s old new first = λ depth. ap (λ ts. converted of_json (value depth ts)) first ∙ ap (converted of_json) (value_is depth _)

pub number_is : (s : List ℕ) (n : Num) (old new : List json.Token) → old ≡ json.number s ∷ new → number_of s ≡ Some n → NextIs (number n) old new
number_is s n old new first read = λ depth. ap (λ ts. converted of_json (value depth ts)) first ∙ ap (converted of_json) (value_is depth _) ∙ rw read

-- the whole number of a number's text
pub whole_is : (o : Option ℤ) (s : List ℕ) (old new : List json.Token) → old ≡ json.number s ∷ new → o ≡ option_and_then as_i64 (number_of s) → IfSome o (λ whole. NextWhole whole old new)
whole_is o s old new first is = by o (number_of s) refl is
  where
    by : (o : Option ℤ) (read : Option Num) → number_of s ≡ read → o ≡ option_and_then as_i64 read → IfSome o (λ whole. NextWhole whole old new)
    by None read e f = tt
    by (Some z) None e f = absurd (cc)
    by (Some z) (Some n) e f = (n, sym f, number_is s n old new first e)

-- ---- what is looked for is not there

pub no_token : {A : Type 0} (look : Data → Option A) → of_leaf look [] ≡ None
unfolding value
no_token look = refl

looked_at : {A : Type 0} (look : Data → Option A) (read : Option Num) (ts : List json.Token)
    → option_and_then (λ next. look next.0) (option_map {U = Data × List json.Token} (λ d. (d, ts)) (option_map number read)) ≡ option_and_then (λ n. look (number n)) read
looked_at look None ts = refl
looked_at look (Some n) ts = refl

-- a look at a number sees what its text is
at_number : {A : Type 0} (look : Data → Option A) (s : List ℕ) (ts : List json.Token) → of_leaf look (json.number s ∷ ts) ≡ option_and_then (λ n. look (number n)) (number_of s)
unfolding value
at_number look s ts = looked_at look (number_of s) ts

pub no_whole : (s : List ℕ) (old new : List json.Token) → old ≡ json.number s ∷ new → None ≡ option_and_then as_i64 (number_of s) → of_leaf whole_of old ≡ None
no_whole s old new first none = ap (of_leaf whole_of) first ∙ at_number whole_of s new ∙ sym none

nothing : {A : Type 0} (read : Option Num) → option_and_then {U = A} (λ n. None) read ≡ None
nothing None = refl
nothing (Some n) = refl

pub no_flag : (t : Token) (ts : List json.Token) → ((b : std.Bool) → t ≡ Bool b → ⊥) → of_leaf as_bool (token_of t ∷ ts) ≡ None
unfolding value
no_flag BeginObject ts other = refl
no_flag EndObject ts other = refl
no_flag BeginArray ts other = refl
no_flag EndArray ts other = refl
no_flag (Key s) ts other = refl
no_flag (String s) ts other = refl
no_flag (Number s) ts other = at_number as_bool s.now ts ∙ nothing (number_of s.now)
no_flag (Bool b) ts other = absurd (other b refl)
no_flag Null ts other = refl
no_flag Bad ts other = refl

pub no_text : (t : Token) (ts : List json.Token) → ((s : Bor (List ℕ)) → t ≡ String s → ⊥) → of_leaf as_str (token_of t ∷ ts) ≡ None
unfolding value
no_text BeginObject ts other = refl
no_text EndObject ts other = refl
no_text BeginArray ts other = refl
no_text EndArray ts other = refl
no_text (Key s) ts other = refl
no_text (String s) ts other = absurd (other s refl)
no_text (Number s) ts other = at_number as_str s.now ts ∙ nothing (number_of s.now)
no_text (Bool b) ts other = refl
no_text Null ts other = refl
no_text Bad ts other = refl

pub no_number : (t : Token) (ts : List json.Token) → ((s : Bor (List ℕ)) → t ≡ Number s → ⊥) → of_leaf whole_of (token_of t ∷ ts) ≡ None
unfolding value
no_number BeginObject ts other = refl
no_number EndObject ts other = refl
no_number BeginArray ts other = refl
no_number EndArray ts other = refl
no_number (Key s) ts other = refl
no_number (String s) ts other = refl
no_number (Number s) ts other = absurd (other s refl)
no_number (Bool b) ts other = refl
no_number Null ts other = refl
no_number Bad ts other = refl
