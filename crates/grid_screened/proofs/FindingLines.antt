-- What a line says of a finding is told from its text.
use Rattle.std.proofs.Common.{◌≡◌, refl, sym, ap, ap₂, ◌∙◌, ℕ, suc, ◌^◌, ◌<◌, ℤ, pos, negsuc, Bool, true, false, not, List, [], ◌∷◌, ◌++◌, length, map, append_assoc, arith, Option, Some, None}
use Rattle.std.specs.Prelude.{decimal, codes, flat_map}
use Rattle.std.specs.Fmt.{signed_decimal}
use Rattle.std.specs.List.{list_all}
use Rattle.std.specs.Str.Parse.{digits_value}
use Rattle.std.proofs.lemmas.Bool.{false≢true}
use Rattle.std.proofs.lemmas.Fmt.{decimal_is_IsNumeral_wide}
use Rattle.json.specs.Print.{escape, quoted}
use Rattle.json.specs.Text.{content, plain}
use Rattle.json.proofs.Printed.Strings.{content-escape}
use Rattle.serde_json.specs.Data.{string}
use Rattle.serde_json.specs.View.{items_of}
use Rattle.serde_json.specs.Written.{comma_if, items_text}
use Rattle.grid_report.specs.Words.{signed}
use Rattle.grid_structure.specs.declared.SwitchAt.{SwitchAt}
use Rattle.grid_structure.specs.Network.{Network}
use Rattle.grid_figures.specs.declared.Figures.{Figures}
use Rattle.grid_screen.specs.declared.Losses.{Losses}
use Rattle.grid_screen.specs.declared.Finding.{Finding}
use Rattle.grid_screen.specs.declared.Finding.TheVariants.{UnknownId, NoBreaker, Effect}
use Rattle.grid_screen.specs.Faults.{switch_ids}
use Rattle.grid_screened.specs.Said.{Unknown, Unfit, Counted, ids_of, said_of, IsSum, AreSums, AreFew, IsHeld}
use Rattle.grid_screen.specs.Texts.{counts_text, losses_text, unconnected_text, ids_text, tripped_text, second_text}
use Rattle.grid_screened.proofs.QuotedTexts.{outside, before_text, is_plain, outside_plain, is_digit, decimal_digits, is_numeral, digit_numerals, signed_numerals, plain_numerals, stops, numerals_told, outside_quoted}

-- ---- lists

pub front_told : (front xs ys : List ℕ) → front ++ xs ≡ front ++ ys → xs ≡ ys
front_told [] xs ys e = e
front_told (c ∷ front) xs ys e = front_told front xs ys cc

pub last_told : (xs ys : List ℕ) (c : ℕ) → xs ++ c ∷ [] ≡ ys ++ c ∷ [] → xs ≡ ys
last_told [] [] c e = refl
last_told [] (y ∷ []) c e = cc
last_told [] (y ∷ z ∷ ys) c e = cc
last_told (x ∷ []) [] c e = cc
last_told (x ∷ z ∷ xs) [] c e = cc
last_told (x ∷ xs) (y ∷ ys) c e =
    let first : x ≡ y = cc in
    let rest : xs ++ c ∷ [] ≡ ys ++ c ∷ [] = cc in
    rw (first, last_told xs ys c rest) refl

-- ---- numbers

decimal_told : (m n : ℕ) → m < 10 ^ 64 → n < 10 ^ 64 → decimal m ≡ decimal n → m ≡ n
decimal_told m n lt less e = sym (decimal_is_IsNumeral_wide m lt).1 ∙ ap (digits_value 10) e ∙ (decimal_is_IsNumeral_wide n less).1

no_sign : (n : ℕ) (text : List ℕ) → decimal n ≡ 45 ∷ text → ⊥
no_sign n text e = false≢true (ap (list_all is_digit) (sym e) ∙ decimal_digits n)

signed_told : (a b : ℤ) → IsSum a → IsSum b → signed_decimal a ≡ signed_decimal b → a ≡ b
signed_told (pos m) (pos n) h k e = ap pos (decimal_told m n (omega (arith, h)) (omega (arith, k)) e)
signed_told (pos m) (negsuc n) h k e = absurd (no_sign m (decimal (suc n)) e)
signed_told (negsuc m) (pos n) h k e = absurd (no_sign n (decimal (suc m)) (sym e))
signed_told (negsuc m) (negsuc n) h k e =
    let digits : decimal (suc m) ≡ decimal (suc n) = cc in
    let same : suc m ≡ suc n = decimal_told (suc m) (suc n) (omega (arith, h)) (omega (arith, k)) digits in
    ap negsuc (omega (arith, same))

-- a number is told, and what is behind it
module _ (m n : ℕ) (rest other : List ℕ) (small : m < 2 ^ 64) (few : n < 2 ^ 64) (s : stops rest ≡ true) (t : stops other ≡ true) (e : decimal m ++ rest ≡ decimal n ++ other) where
  next_number : (m ≡ n) × (rest ≡ other)
  next_number =
      let both = numerals_told (decimal m) (decimal n) rest other (digit_numerals m) (digit_numerals n) s t e in
      (decimal_told m n (omega (arith, small)) (omega (arith, few)) both.0, both.1)

module _ (a b : ℤ) (rest other : List ℕ) (fits : IsSum a) (also : IsSum b) (s : stops rest ≡ true) (t : stops other ≡ true) (e : signed a ++ rest ≡ signed b ++ other) where
  next_sum : (a ≡ b) × (rest ≡ other)
  unfolding signed
  next_sum =
      let both = numerals_told (signed_decimal a) (signed_decimal b) rest other (signed_numerals a) (signed_numerals b) s t e in
      (signed_told a b fits also both.0, both.1)

-- ---- ids

pub quoted_told : (a b rest other : List ℕ) → quoted a ++ rest ≡ quoted b ++ other → (a ≡ b) × (rest ≡ other)
quoted_told a b rest other e =
    let behind : (escape a ++ 34 ∷ []) ++ rest ≡ (escape b ++ 34 ∷ []) ++ other = cc in
    let first = append_assoc (escape a) (34 ∷ []) rest in
    let second = append_assoc (escape b) (34 ∷ []) other in
    let whole : escape a ++ 34 ∷ rest ≡ escape b ++ 34 ∷ other = sym first ∙ behind ∙ second in
    let read : ◌≡◌ {A = Option (List ℕ)} (Some a) (Some b) = sym (content-escape a rest) ∙ ap (content plain) whole ∙ content-escape b other in
    let same : a ≡ b = cc in
    let left : 34 ∷ rest ≡ 34 ∷ other = front_told (escape b) (34 ∷ rest) (34 ∷ other) (ap (λ (z : List ℕ). escape z ++ 34 ∷ rest) (sym same) ∙ whole) in
    (same, cc)

abbrev rest_text : Bool → List (List ℕ) → List ℕ
rest_text later ids = items_text later (items_of (map string ids))

no_end : (later : Bool) (more rest : List ℕ) → 93 ∷ rest ≡ comma_if later ++ (34 ∷ more) → ⊥
no_end false more rest e = let no : ◌≡◌ {A = ℕ} 93 34 = cc in absurd (omega (arith, no))
no_end true more rest e = let no : ◌≡◌ {A = ℕ} 93 44 = cc in absurd (omega (arith, no))

one_more : (later : Bool) (id : List ℕ) (ids : List (List ℕ)) (rest : List ℕ) → rest_text later (id ∷ ids) ++ rest ≡ comma_if later ++ (quoted id ++ (rest_text true ids ++ rest))
one_more later id ids rest = append_assoc (comma_if later) (quoted id ++ rest_text true ids) rest ∙ ap (λ z. comma_if later ++ z) (append_assoc (quoted id) (rest_text true ids) rest)

rest_told : (ids others : List (List ℕ)) (later : Bool) (rest other : List ℕ) → rest_text later ids ++ rest ≡ rest_text later others ++ other → (ids ≡ others) × (rest ≡ other)
rest_told [] [] later rest other e = (refl, cc)
rest_told [] (j ∷ others) later rest other e = absurd (no_end later ((escape j ++ 34 ∷ []) ++ (rest_text true others ++ other)) rest (e ∙ one_more later j others other))
rest_told (i ∷ ids) [] later rest other e = absurd (no_end later ((escape i ++ 34 ∷ []) ++ (rest_text true ids ++ rest)) other (sym e ∙ one_more later i ids rest))
rest_told (i ∷ ids) (j ∷ others) later rest other e =
    let first = quoted_told i j (rest_text true ids ++ rest) (rest_text true others ++ other)
    (front_told (comma_if later) (quoted i ++ (rest_text true ids ++ rest)) (quoted j ++ (rest_text true others ++ other)) (sym (one_more later i ids rest) ∙ e ∙ one_more later j others other)) in
    let again = rest_told ids others true rest other first.1 in
    (ap₂ (λ (z : List ℕ) (zs : List (List ℕ)). z ∷ zs) first.0 again.0, again.1)

ids_told : (ids others : List (List ℕ)) (rest other : List ℕ) → ids_text ids ++ rest ≡ ids_text others ++ other → (ids ≡ others) × (rest ≡ other)
unfolding ids_text
ids_told ids others rest other e = rest_told ids others false rest other (front_told (91 ∷ []) (rest_text false ids ++ rest) (rest_text false others ++ other) e)

outside_rest : (later : Bool) (ids : List (List ℕ)) (rest : List ℕ) → outside (items_text later (items_of (map string ids)) ++ rest) ≡ outside rest
outside_rest later [] rest = refl
outside_rest later (i ∷ ids) rest =
    let more = items_text true (items_of (map string ids)) in
    ap outside (append_assoc (comma_if later) (quoted i ++ more) rest ∙ ap (λ z. comma_if later ++ z) (append_assoc (quoted i) more rest))
    ∙ comma later (quoted i ++ (more ++ rest)) ∙ outside_quoted i (more ++ rest) ∙ outside_rest true ids rest
  where
    comma : (t : Bool) (text : List ℕ) → outside (comma_if t ++ text) ≡ outside text
    comma true text = refl
    comma false text = refl

outside_ids : (ids : List (List ℕ)) (rest : List ℕ) → outside (ids_text ids ++ rest) ≡ outside rest
unfolding ids_text
outside_ids ids rest = outside_rest false ids rest

-- ---- effects

-- what stands behind the sums
abbrev tail_text : Network → Option (List SwitchAt) → List ℕ → List ℕ
tail_text net None rest = rest
tail_text net (Some breakers) rest = codes ", tripped " ++ (decimal (length breakers) ++ (codes " " ++ (ids_text (flat_map (switch_ids net) breakers) ++ rest)))

tail_is : (net : Network) (tripped : Option (List SwitchAt)) (rest : List ℕ) → tripped_text net tripped ++ rest ≡ tail_text net tripped rest
tail_is net None rest = refl
tail_is net (Some breakers) rest =
    let n = decimal (length breakers) in
    let ids = ids_text (flat_map (switch_ids net) breakers) in
    append_assoc ((codes ", tripped " ++ n) ++ codes " ") ids rest ∙ append_assoc (codes ", tripped " ++ n) (codes " ") (ids ++ rest) ∙ append_assoc (codes ", tripped ") n (codes " " ++ (ids ++ rest))

abbrev sums_tail : Losses → List ℕ → List ℕ
sums_tail l rest =
    codes ", lost load "
    ++ (signed l.load
    ++ (codes ", lost generation " ++ (signed l.generation ++ (codes ", unconnected load " ++ (signed l.unconnected_load ++ (codes ", unconnected generation " ++ (signed l.unconnected_generation ++ rest)))))))

sums_are : (l : Losses) (rest : List ℕ) → losses_text l ++ (unconnected_text l ++ rest) ≡ sums_tail l rest
unfolding losses_text unconnected_text
sums_are l rest =
    let more = (((codes ", unconnected load " ++ signed l.unconnected_load) ++ codes ", unconnected generation ") ++ signed l.unconnected_generation) ++ rest in
    let second : more ≡ codes ", unconnected load " ++ (signed l.unconnected_load ++ (codes ", unconnected generation " ++ (signed l.unconnected_generation ++ rest))) =
    append_assoc ((codes ", unconnected load " ++ signed l.unconnected_load) ++ codes ", unconnected generation ") (signed l.unconnected_generation) rest
    ∙ append_assoc (codes ", unconnected load " ++ signed l.unconnected_load) (codes ", unconnected generation ") (signed l.unconnected_generation ++ rest)
    ∙ append_assoc (codes ", unconnected load ") (signed l.unconnected_load) (codes ", unconnected generation " ++ (signed l.unconnected_generation ++ rest)) in
    append_assoc ((codes ", lost load " ++ signed l.load) ++ codes ", lost generation ") (signed l.generation) more
    ∙ append_assoc (codes ", lost load " ++ signed l.load) (codes ", lost generation ") (signed l.generation ++ more) ∙ append_assoc (codes ", lost load ") (signed l.load) (codes ", lost generation " ++ (signed l.generation ++ more))
    ∙ ap (λ z. codes ", lost load " ++ (signed l.load ++ (codes ", lost generation " ++ (signed l.generation ++ z)))) second

abbrev counts_tail : Figures → List ℕ → List ℕ
counts_tail f rest = decimal f.buses ++ (codes " buses, " ++ (decimal f.components ++ (codes " components, main " ++ (decimal f.main ++ rest))))

counts_are : (f : Figures) (rest : List ℕ) → counts_text f ++ rest ≡ counts_tail f rest
unfolding counts_text
counts_are f rest =
    append_assoc (((decimal f.buses ++ codes " buses, ") ++ decimal f.components) ++ codes " components, main ") (decimal f.main) rest
    ∙ append_assoc ((decimal f.buses ++ codes " buses, ") ++ decimal f.components) (codes " components, main ") (decimal f.main ++ rest)
    ∙ append_assoc (decimal f.buses ++ codes " buses, ") (decimal f.components) (codes " components, main " ++ (decimal f.main ++ rest))
    ∙ append_assoc (decimal f.buses) (codes " buses, ") (decimal f.components ++ (codes " components, main " ++ (decimal f.main ++ rest)))

effect_is : (net : Network) (after : Figures) (losses : Losses) (tripped : Option (List SwitchAt)) (rest : List ℕ)
    → second_text net (Effect after losses tripped) ++ rest ≡ counts_tail after (sums_tail losses (tail_text net tripped rest))
unfolding second_text
effect_is net after losses tripped rest =
    let c = counts_text after in
    let l = losses_text losses in
    let u = unconnected_text losses in
    let t = tripped_text net tripped in
    append_assoc ((c ++ l) ++ u) t rest ∙ append_assoc (c ++ l) u (t ++ rest) ∙ append_assoc c l (u ++ (t ++ rest)) ∙ ap (λ z. c ++ (l ++ (u ++ z))) (tail_is net tripped rest)
    ∙ ap (λ z. c ++ z) (sums_are losses (tail_text net tripped rest)) ∙ counts_are after (sums_tail losses (tail_text net tripped rest))

-- ---- outside of quotes

out_number : (n : ℕ) (rest : List ℕ) → outside (decimal n ++ rest) ≡ outside rest
out_number n rest = outside_plain (decimal n) rest (plain_numerals (decimal n) (digit_numerals n))

out_sum : (z : ℤ) (rest : List ℕ) → outside (signed z ++ rest) ≡ outside rest
unfolding signed
out_sum z rest = outside_plain (signed_decimal z) rest (plain_numerals (signed_decimal z) (signed_numerals z))

out_tail : (net : Network) (tripped : Option (List SwitchAt)) (rest : List ℕ) → outside (tail_text net tripped rest) ≡ outside rest
out_tail net None rest = refl
out_tail net (Some breakers) rest =
    let ids = flat_map (switch_ids net) breakers in
    outside_plain (codes ", tripped ") (decimal (length breakers) ++ (codes " " ++ (ids_text ids ++ rest))) refl ∙ out_number (length breakers) (codes " " ++ (ids_text ids ++ rest)) ∙ outside_plain (codes " ") (ids_text ids ++ rest) refl ∙ outside_ids ids rest

out_sums : (l : Losses) (rest : List ℕ) → outside (sums_tail l rest) ≡ outside rest
out_sums l rest =
    let d = codes ", unconnected generation " ++ (signed l.unconnected_generation ++ rest) in
    let c = codes ", unconnected load " ++ (signed l.unconnected_load ++ d) in
    let b = codes ", lost generation " ++ (signed l.generation ++ c) in
    outside_plain (codes ", lost load ") (signed l.load ++ b) refl ∙ out_sum l.load b ∙ outside_plain (codes ", lost generation ") (signed l.generation ++ c) refl ∙ out_sum l.generation c
    ∙ outside_plain (codes ", unconnected load ") (signed l.unconnected_load ++ d) refl ∙ out_sum l.unconnected_load d ∙ outside_plain (codes ", unconnected generation ") (signed l.unconnected_generation ++ rest) refl
    ∙ out_sum l.unconnected_generation rest

out_counts : (f : Figures) (rest : List ℕ) → outside (counts_tail f rest) ≡ outside rest
out_counts f rest =
    let c = codes " components, main " ++ (decimal f.main ++ rest) in
    let b = codes " buses, " ++ (decimal f.components ++ c) in
    out_number f.buses b ∙ outside_plain (codes " buses, ") (decimal f.components ++ c) refl ∙ out_number f.components c ∙ outside_plain (codes " components, main ") (decimal f.main ++ rest) refl ∙ out_number f.main rest

out_amiss : (word id rest : List ℕ) → list_all is_plain word ≡ true → outside ((word ++ quoted id) ++ rest) ≡ outside rest
out_amiss word id rest h = ap outside (append_assoc word (quoted id) rest) ∙ outside_plain word (quoted id ++ rest) h ∙ outside_quoted id rest

pub out_text : (net : Network) (finding : Finding) (rest : List ℕ) → outside (second_text net finding ++ rest) ≡ outside rest
unfolding second_text
out_text net (UnknownId id) rest = out_amiss (codes "unknown ") id rest refl
out_text net (NoBreaker id) rest = out_amiss (codes "no breaker ") id rest refl
out_text net (Effect after losses tripped) rest =
    ap outside (effect_is net after losses tripped rest) ∙ out_counts after (sums_tail losses (tail_text net tripped rest)) ∙ out_sums losses (tail_text net tripped rest) ∙ out_tail net tripped rest

-- ---- what is said

abbrev line_end : List ℕ
line_end = 10 ∷ []

tail_stops : (net : Network) (tripped : Option (List SwitchAt)) → stops (tail_text net tripped line_end) ≡ true
tail_stops net None = refl
tail_stops net (Some breakers) = refl

tail_told : (net other : Network) (p q : Option (List SwitchAt)) → AreFew p → AreFew q → tail_text net p line_end ≡ tail_text other q line_end → ids_of net p ≡ ids_of other q
tail_told net other None None f g e = refl
tail_told net other None (Some b) f g e = let no : ◌≡◌ {A = ℕ} 10 44 = cc in absurd (omega (arith, no))
tail_told net other (Some a) None f g e = let no : ◌≡◌ {A = ℕ} 44 10 = cc in absurd (omega (arith, no))
tail_told net other (Some a) (Some b) f g e =
    let mine = codes " " ++ (ids_text (flat_map (switch_ids net) a) ++ line_end) in
    let its = codes " " ++ (ids_text (flat_map (switch_ids other) b) ++ line_end) in
    let count = next_number (length a) (length b) mine its f g refl refl (front_told (codes ", tripped ") (decimal (length a) ++ mine) (decimal (length b) ++ its) e) in
    let ids = ids_told (flat_map (switch_ids net) a) (flat_map (switch_ids other) b) line_end line_end
    (front_told (codes " ") (ids_text (flat_map (switch_ids net) a) ++ line_end) (ids_text (flat_map (switch_ids other) b) ++ line_end) count.1) in
    ap (λ (z : List (List ℕ)). Some z) ids.0

-- the sums, and what is behind them
sums_told : (l m : Losses) (rest other : List ℕ) → AreSums l → AreSums m → stops rest ≡ true → stops other ≡ true → sums_tail l rest ≡ sums_tail m other → (l ≡ m) × (rest ≡ other)
sums_told l m rest other h k s t e =
    let d = codes ", unconnected generation " ++ (signed l.unconnected_generation ++ rest) in
    let c = codes ", unconnected load " ++ (signed l.unconnected_load ++ d) in
    let b = codes ", lost generation " ++ (signed l.generation ++ c) in
    let z = codes ", unconnected generation " ++ (signed m.unconnected_generation ++ other) in
    let y = codes ", unconnected load " ++ (signed m.unconnected_load ++ z) in
    let x = codes ", lost generation " ++ (signed m.generation ++ y) in
    let first = next_sum l.load m.load b x h.load k.load refl refl (front_told (codes ", lost load ") (signed l.load ++ b) (signed m.load ++ x) e) in
    let second = next_sum l.generation m.generation c y h.generation k.generation refl refl (front_told (codes ", lost generation ") (signed l.generation ++ c) (signed m.generation ++ y) first.1) in
    let third = next_sum l.unconnected_load m.unconnected_load d z h.unconnected_load k.unconnected_load refl refl (front_told (codes ", unconnected load ") (signed l.unconnected_load ++ d) (signed m.unconnected_load ++ z) second.1) in
    let last = next_sum l.unconnected_generation m.unconnected_generation rest other h.unconnected_generation k.unconnected_generation s t
    (front_told (codes ", unconnected generation ") (signed l.unconnected_generation ++ rest) (signed m.unconnected_generation ++ other) third.1) in
    (same_losses l m first.0 second.0 third.0 last.0, last.1)
  where
    same_losses : (l m : Losses) → l.load ≡ m.load → l.generation ≡ m.generation → l.unconnected_load ≡ m.unconnected_load → l.unconnected_generation ≡ m.unconnected_generation → l ≡ m
    same_losses l m e f g h i = record { load = e i; generation = f i; unconnected_load = g i; unconnected_generation = h i }

-- the counts, and what is behind them
pub record SameCounts (f g : Figures) : Type 0 where
  pub buses : f.buses ≡ g.buses
  pub components : f.components ≡ g.components
  pub main : f.main ≡ g.main

abbrev SmallCounts : Figures → Type 0
SmallCounts f = (f.buses < 2 ^ 32) × ((f.components < 2 ^ 32) × (f.main < 2 ^ 32))

counts_told : (f g : Figures) (rest other : List ℕ) → SmallCounts f → SmallCounts g → stops rest ≡ true → stops other ≡ true → counts_tail f rest ≡ counts_tail g other → SameCounts f g × (rest ≡ other)
counts_told f g rest other h k s t e =
    let c = codes " components, main " ++ (decimal f.main ++ rest) in
    let b = codes " buses, " ++ (decimal f.components ++ c) in
    let z = codes " components, main " ++ (decimal g.main ++ other) in
    let y = codes " buses, " ++ (decimal g.components ++ z) in
    let first = next_number f.buses g.buses b y (omega (arith, h.0)) (omega (arith, k.0)) refl refl e in
    let second = next_number f.components g.components c z (omega (arith, h.1.0)) (omega (arith, k.1.0)) refl refl (front_told (codes " buses, ") (decimal f.components ++ c) (decimal g.components ++ z) first.1) in
    let third = next_number f.main g.main rest other (omega (arith, h.1.1)) (omega (arith, k.1.1)) s t (front_told (codes " components, main ") (decimal f.main ++ rest) (decimal g.main ++ other) second.1) in
    (record { buses = first.0; components = second.0; main = third.0 }, third.1)

no_number : (c : ℕ) (text rest : List ℕ) (n : ℕ) → is_numeral c ≡ false → (c ≡ 32 → ⊥) → c ∷ text ≡ decimal n ++ 32 ∷ rest → ⊥
no_number c text rest n letter apart e =
    let both = numerals_told [] (decimal n) (c ∷ text) (32 ∷ rest) refl (digit_numerals n) (ap not letter) refl e in
    let same : c ≡ 32 = cc in
    apart same

amiss_told : (word a b : List ℕ) → (word ++ quoted a) ++ line_end ≡ (word ++ quoted b) ++ line_end → a ≡ b
amiss_told word a b e =
    (quoted_told a b line_end line_end (front_told word (quoted a ++ line_end) (quoted b ++ line_end) (sym (append_assoc word (quoted a) line_end) ∙ e ∙ append_assoc word (quoted b) line_end))).0

-- a word is no effect
no_effect : (net : Network) (after : Figures) (losses : Losses) (tripped : Option (List SwitchAt)) (c : ℕ) (text : List ℕ) → is_numeral c ≡ false → (c ≡ 32 → ⊥) → c ∷ text ≡ second_text net (Effect after losses tripped) ++ line_end → ⊥
no_effect net after losses tripped c text letter apart e =
    no_number c text (codes "buses, " ++ (decimal after.components ++ (codes " components, main " ++ (decimal after.main ++ sums_tail losses (tail_text net tripped line_end))))) after.buses letter apart (e ∙ effect_is net after losses tripped line_end)

no_word : (x y : List ℕ) → 117 ∷ x ≡ 110 ∷ y → ⊥
no_word x y e = let no : ◌≡◌ {A = ℕ} 117 110 = cc in omega (arith, no)

effects_told : (net other : Network) (f g : Figures) (l m : Losses) (p q : Option (List SwitchAt)) → IsHeld (Effect f l p) → IsHeld (Effect g m q)
    → second_text net (Effect f l p) ++ line_end ≡ second_text other (Effect g m q) ++ line_end → Counted f.buses f.components f.main l (ids_of net p) ≡ Counted g.buses g.components g.main m (ids_of other q)
effects_told net other f g l m p q h k e =
    let a = tail_text net p line_end in
    let b = tail_text other q line_end in
    let counts = counts_told f g (sums_tail l a) (sums_tail m b) (h.0, (h.1.0, h.1.1.0)) (k.0, (k.1.0, k.1.1.0)) refl refl (sym (effect_is net f l p line_end) ∙ e ∙ effect_is other g m q line_end) in
    let sums = sums_told l m a b h.1.1.1.0 k.1.1.1.0 (tail_stops net p) (tail_stops other q) counts.1 in
    let ids = tail_told net other p q h.1.1.1.1 k.1.1.1.1 sums.1 in
    rw (counts.0.buses, counts.0.components, counts.0.main, sums.0, ids) refl

pub said_told : (net other : Network) (f g : Finding) → IsHeld f → IsHeld g → second_text net f ++ line_end ≡ second_text other g ++ line_end → said_of net f ≡ said_of other g
unfolding second_text said_of
said_told net other (UnknownId a) (UnknownId b) h k e = ap Unknown (amiss_told (codes "unknown ") a b e)
said_told net other (UnknownId a) (NoBreaker b) h k e = absurd (no_word ((codes "nknown " ++ quoted a) ++ line_end) ((codes "o breaker " ++ quoted b) ++ line_end) e)
said_told net other (UnknownId a) (Effect after losses tripped) h k e = absurd (no_effect other after losses tripped 117 ((codes "nknown " ++ quoted a) ++ line_end) refl (λ i. omega (arith, i)) e)
said_told net other (NoBreaker a) (UnknownId b) h k e = absurd (no_word ((codes "nknown " ++ quoted b) ++ line_end) ((codes "o breaker " ++ quoted a) ++ line_end) (sym e))
said_told net other (NoBreaker a) (NoBreaker b) h k e = ap Unfit (amiss_told (codes "no breaker ") a b e)
said_told net other (NoBreaker a) (Effect after losses tripped) h k e = absurd (no_effect other after losses tripped 110 ((codes "o breaker " ++ quoted a) ++ line_end) refl (λ i. omega (arith, i)) e)
said_told net other (Effect after losses tripped) (UnknownId b) h k e = absurd (no_effect net after losses tripped 117 ((codes "nknown " ++ quoted b) ++ line_end) refl (λ i. omega (arith, i)) (sym e))
said_told net other (Effect after losses tripped) (NoBreaker b) h k e = absurd (no_effect net after losses tripped 110 ((codes "o breaker " ++ quoted b) ++ line_end) refl (λ i. omega (arith, i)) (sym e))
said_told net other (Effect f l p) (Effect g m q) h k e = effects_told net other f g l m p q h k e

-- ---- lines

-- a line without its first word
abbrev pub line_of : Network → List ℕ → Finding → List ℕ
line_of net name f = name ++ 58 ∷ 32 ∷ (second_text net f ++ line_end)

pub line_told : (net other : Network) (name also : List ℕ) (f g : Finding) → IsHeld f → IsHeld g → line_of net name f ≡ line_of other also g → (name ≡ also) × (said_of net f ≡ said_of other g)
line_told net other name also f g h k e =
    let both = before_text name also (second_text net f ++ line_end) (second_text other g ++ line_end) (out_text net f line_end) (out_text other g line_end) e in
    (both.0, said_told net other f g h k both.1)
