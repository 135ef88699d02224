-- The bytes of a text as they stand between quotes, up to a place.
use Rattle.std.proofs.Common.{◌≡◌, sym, ap, ◌∙◌, ℕ, ◌+◌, ◌-◌, ◌<◌, ◌≤◌, List, [], ◌∷◌, ◌++◌, take, drop, get_or, length, arith, append_assoc, append-nil}
use Rattle.std.proofs.lemmas.List.{take_more, take_all, take_rest, drop_all, drop-append-le, drop-take, length-take}
use Rattle.std.proofs.lemmas.List.Concat.{flat_map-append}
use Rattle.json.specs.Print.{escape, escape_byte}

-- the bytes that wait
waiting : (bytes : List ℕ) (start at : ℕ) → start ≤ at → drop start (take at bytes) ≡ take (at - start) (drop start bytes)
waiting bytes start at within =
    let parts : at ≡ start + (at - start) = omega arith in
    ap (λ n. drop start (take n bytes)) parts ∙ drop-take start (at - start) bytes

module _ (bytes : List ℕ) (at : ℕ) (d : ℕ) (lt : at < length bytes) where
  abbrev pub byte : ℕ
  byte = get_or bytes at d

  one_more : escape (take (at + 1) bytes) ≡ escape (take at bytes) ++ escape_byte byte
  one_more = ap escape (take_more bytes at d lt) ∙ flat_map-append escape_byte (take at bytes) (byte ∷ []) ∙ ap (λ l. escape (take at bytes) ++ l) (append-nil (escape_byte byte))

  -- a byte that stands as it is waits with those before it
  pub plain_more : (start : ℕ) (old out : List ℕ) → start ≤ at → escape_byte byte ≡ byte ∷ [] → out ++ drop start (take at bytes) ≡ old ++ escape (take at bytes)
      → out ++ drop start (take (at + 1) bytes) ≡ old ++ escape (take (at + 1) bytes)
  plain_more start old out within plain so_far =
      ap (λ l. out ++ drop start l) (take_more bytes at d lt)
      ∙ ap (λ l. out ++ l) (drop-append-le start (take at bytes) (byte ∷ []) (omega (arith, length-take at bytes)))
      ∙ sym (append_assoc out (drop start (take at bytes)) (byte ∷ []))
      ∙ ap (λ l. l ++ byte ∷ []) so_far
      ∙ append_assoc old (escape (take at bytes)) (byte ∷ [])
      ∙ ap (λ l. old ++ (escape (take at bytes) ++ l)) (sym plain)
      ∙ ap (λ l. old ++ l) (sym one_more)

  -- behind what stands for another byte nothing waits
  pub escaped_more : (start : ℕ) (old out next put text : List ℕ) → start ≤ at → out ++ drop start (take at bytes) ≡ old ++ escape (take at bytes)
      → next ≡ out ++ take (at - start) (drop start bytes) → put ≡ next ++ text → text ≡ escape_byte byte
      → put ++ drop (at + 1) (take (at + 1) bytes) ≡ old ++ escape (take (at + 1) bytes)
  escaped_more start old out next put text within so_far first second is =
      ap (λ l. put ++ l) (drop_all (at + 1) (take (at + 1) bytes) (omega (arith, length-take (at + 1) bytes)))
      ∙ append-nil put ∙ second ∙ ap (λ l. next ++ l) is
      ∙ ap (λ l. l ++ escape_byte byte) (first ∙ ap (λ l. out ++ l) (sym (waiting bytes start at within)) ∙ so_far)
      ∙ append_assoc old (escape (take at bytes)) (escape_byte byte)
      ∙ ap (λ l. old ++ l) (sym one_more)

-- at the end the last bytes wait
pub all_put : (bytes text : List ℕ) (at start : ℕ) (old out put : List ℕ) → bytes ≡ text → length bytes ≤ at → out ++ drop start (take at bytes) ≡ old ++ escape (take at bytes)
    → put ≡ out ++ take (length bytes - start) (drop start bytes) → put ≡ old ++ escape text
all_put bytes text at start old out put same end so_far is =
    is ∙ ap (λ l. out ++ l) (take_rest bytes start)
    ∙ ap (λ l. out ++ drop start l) (sym (take_all at bytes end)) ∙ so_far ∙ ap (λ l. old ++ escape l) (take_all at bytes end) ∙ ap (λ l. old ++ escape l) same
