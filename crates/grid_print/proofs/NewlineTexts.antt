-- A text with the newline after it is read back.
use Rattle.std.proofs.Common.{◌≡◌, ℕ, List, [], ◌∷◌, ◌++◌, Some, sym, ap, ◌∙◌, subst, append_assoc, append-nil, option_and_then, rules}
use Rattle.std.proofs.lemmas.Str.{IsUtf8-append, IsUtf8-from_ascii}
use Rattle.std.specs.Prelude.{IsUtf8}
use Rattle.json.specs.Token.{Token}
use Rattle.json.specs.Lex.{tokens}
use Rattle.json.specs.Print.{print, ArePrintableOrBad, ArePrintable}
use Rattle.json.specs.Json as json
use Rattle.json.specs.Tree.{json_tokens, items_tokens, members_tokens, HasNumbers, ItemsHaveNumbers, MembersHaveNumbers}
use Rattle.json.proofs.Numbered.{ArePrintableOrBad-tokens}
use Rattle.json.proofs.Printed.Trees.{ArePrintable-json_tokens}
use Rattle.serde_json.specs.Data.{Data}
use Rattle.serde_json.specs.Read.{of_json, max_depth, read}
use Rattle.serde_json.specs.Written.{IsInOrder}
use Rattle.grid_value.specs.Bytes.{reading}
use Rattle.grid_value.proofs.Texts.{reading_some}
use Rattle.grid_print.proofs.Newline.{tokens_newline}

-- ---- the tokens of a tree can be written where none of them is wrong

mutual
  numbers : (j : json.Json) (rest : List Token) → ArePrintableOrBad (json_tokens j ++ rest) → HasNumbers j × ArePrintableOrBad rest
  numbers json.null rest h = (tt, h.1)
  numbers (json.boolean b) rest h = (tt, h.1)
  numbers (json.number s) rest h = h
  numbers (json.string s) rest h = (tt, h.1)
  numbers (json.array js) rest h = items_numbers js rest h.1
  numbers (json.object ms) rest h = members_numbers ms rest h.1

  items_numbers : (js : json.Items) (rest : List Token) → ArePrintableOrBad (items_tokens js ++ rest) → ItemsHaveNumbers js × ArePrintableOrBad rest
  items_numbers json.no_items rest h = (tt, h.1)
  items_numbers (json.item j js) rest h =
      let here = numbers j (items_tokens js ++ rest) (subst ArePrintableOrBad (append_assoc (json_tokens j) (items_tokens js) rest) h) in
      let later = items_numbers js rest here.1 in
      ((here.0, later.0), later.1)

  members_numbers : (ms : json.Members) (rest : List Token) → ArePrintableOrBad (members_tokens ms ++ rest) → MembersHaveNumbers ms × ArePrintableOrBad rest
  members_numbers json.no_members rest h = (tt, h.1)
  members_numbers (json.member k j ms) rest h =
      let here = numbers j (members_tokens ms ++ rest) (subst ArePrintableOrBad (append_assoc (json_tokens j) (members_tokens ms) rest) h.1) in
      let later = members_numbers ms rest here.1 in
      ((here.0, later.0), later.1)

tokens_printable : (bytes : List ℕ) (d : Data) → IsInOrder bytes d → ArePrintable (tokens bytes)
tokens_printable bytes d order =
    let h : ArePrintableOrBad (json_tokens order.0 ++ []) = subst ArePrintableOrBad (order.1 ∙ sym (append-nil (json_tokens order.0))) (ArePrintableOrBad-tokens bytes) in
    subst ArePrintable (sym order.1) (ArePrintable-json_tokens order.0 (numbers order.0 [] h).0)

-- ---- the newline changes nothing

read_newline : (bytes : List ℕ) (d : Data) → bytes ≡ print (tokens bytes) → IsInOrder bytes d → read (bytes ++ 10 ∷ []) ≡ read bytes
read_newline bytes d compact order =
    let same : tokens (bytes ++ 10 ∷ []) ≡ tokens bytes =
    ap (λ b. tokens (b ++ 10 ∷ [])) compact ∙ tokens_newline (tokens bytes) (tokens_printable bytes d order) ∙ ap tokens (sym compact) in
    ap (λ ts. option_and_then of_json (option_and_then (λ p. json.if_last p.0 p.1) (json.value max_depth ts))) same

pub line_returns : (bytes : List ℕ) (d : Data) → IsUtf8 bytes → bytes ≡ print (tokens bytes) → IsInOrder bytes d → read bytes ≡ Some d → reading (bytes ++ 10 ∷ []) ≡ Some d
line_returns bytes d utf8 compact order back =
    reading_some (bytes ++ 10 ∷ []) d (IsUtf8-append bytes (10 ∷ []) utf8 (IsUtf8-from_ascii (10 ∷ []) (search rules))) (read_newline bytes d compact order ∙ back)
