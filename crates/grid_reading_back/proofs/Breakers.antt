-- The id of a breaker at a configured bus is an id and a text where that of its equipment is.
use Rattle.std.proofs.Common.{◌≡◌, ◌≤◌, ◌+◌, ℕ, Bool, true, false, cond, List, [], ◌∷◌, ◌++◌, length, Option, Some, None, Result, Ok, Err, option_map, refl, ap, ◌∙◌, arith, append_assoc, IsUtf8}
use Rattle.std.specs.Prelude.{◌==◌, nat_lt, find, codes, decimal, ⊤}
use Rattle.std.proofs.lemmas.Bool.{ltb-false, lt-ltb, le-ltb, ne_eqb}
use Rattle.std.proofs.lemmas.List.{length-append}
use Rattle.std.proofs.lemmas.List.Folds.{find-append}
use Rattle.std.proofs.lemmas.Str.{IsUtf8-append}
use Rattle.std.proofs.lemmas.Fmt.{decimal_digit}
use Rattle.json.proofs.Printed.Utf8.{are_ascii, IsUtf8-are_ascii}
use Rattle.grid_ids.specs.declared.id.IdFault.TheVariants.{Empty, TooLong, Control}
use Rattle.grid_ids.specs.Fault.{is_control}
use Rattle.grid_placed.specs.Translation.{breaker_id}
use Rattle.grid_json.specs.declared.fault.Fault.{Fault}
use Rattle.grid_json.specs.Reading.{here}
use Rattle.grid_json.specs.declared.fault.Reason.TheVariants.{LongAtBus}
use Rattle.grid_json.specs.Loading.{most_at_bus, short_id}
use Rattle.grid_print.specs.Readable.{IsId}

few_bytes : (id : List ℕ) → short_id id ≡ Ok tt → length id ≤ most_at_bus
few_bytes id is = by (nat_lt most_at_bus (length id)) refl is
  where
    by : (b : Bool) → nat_lt most_at_bus (length id) ≡ b → ◌≡◌ {A = Result ⊤ Fault} (cond b (Err (here LongAtBus)) (Ok tt)) (Ok tt) → length id ≤ most_at_bus
    by true e h = cc
    by false e h = ltb-false most_at_bus (length id) e

-- an id with two more bytes, neither of which is a control character
two_more : (id : List ℕ) (digit : ℕ) → is_control digit ≡ false → short_id id ≡ Ok tt → IsId id → IsId (id ++ 33 ∷ digit ∷ [])
two_more id digit plain short valid = by (length id == 0) (nat_lt 128 (length id)) (find is_control id) refl valid
  where
    by : (empty long : Bool) (control : Option ℕ) → find is_control id ≡ control
        → cond empty (Some Empty) (cond long (Some (TooLong (length id))) (option_map (λ byte. Control byte) control)) ≡ None → IsId (id ++ 33 ∷ digit ∷ [])
    by true long control e h = cc
    by false true control e h = cc
    by false false (Some byte) e h = cc
    by false false None e h =
        let more = length-append id (33 ∷ digit ∷ []) in
        let last : find is_control (33 ∷ digit ∷ []) ≡ None = rw plain refl in
        rw (ne_eqb (length (id ++ 33 ∷ digit ∷ [])) 0 (λ s. omega (arith, more, s)), le-ltb 128 (length (id ++ 33 ∷ digit ∷ [])) (omega (arith, more, few_bytes id short)), find-append is_control id (33 ∷ digit ∷ []), e, last) refl

plain_digit : (side : ℕ) → side ≤ 3 → is_control (48 + side) ≡ false
plain_digit side few = rw (le-ltb (48 + side) 32 (omega arith), ne_eqb (48 + side) 127 (λ s. omega (arith, few, s))) refl

breaker_is : (id : List ℕ) (side : ℕ) → side ≤ 3 → breaker_id (record { equipment = id; side = side }) ≡ id ++ 33 ∷ (48 + side) ∷ []
unfolding breaker_id
breaker_is id side few = append_assoc id (codes "!") (decimal side) ∙ ap (λ z. id ++ (codes "!" ++ z)) (decimal_digit side (omega (arith, few)))

pub breaker_is_id : (id : List ℕ) (side : ℕ) → side ≤ 3 → short_id id ≡ Ok tt → IsId id → IsId (breaker_id (record { equipment = id; side = side }))
breaker_is_id id side few short valid = rw (breaker_is id side few) (two_more id (48 + side) (plain_digit side few) short valid)

pub breaker_is_text : (id : List ℕ) (side : ℕ) → side ≤ 3 → IsUtf8 id → IsUtf8 (breaker_id (record { equipment = id; side = side }))
breaker_is_text id side few text =
    let ascii : are_ascii (33 ∷ (48 + side) ∷ []) ≡ true = rw (lt-ltb (48 + side) 128 (omega (arith, few))) refl in
    rw (breaker_is id side few) (IsUtf8-append id (33 ∷ (48 + side) ∷ []) text (IsUtf8-are_ascii (33 ∷ (48 + side) ∷ []) ascii))
