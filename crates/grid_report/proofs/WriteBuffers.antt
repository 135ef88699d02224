-- Bytes that are written in several calls, and bytes that wait for a whole piece.
use Rattle.std.proofs.Common.{◌≡◌, ℕ, ◌+◌, ◌-◌, List, [], ◌++◌, take, drop, Option, None, Some, sym, ap, ◌∙◌, append_assoc, append-nil, take-append-drop}
use Rattle.std.specs.Io.KnownBytes.{Appends, append_known}
use Rattle.grid_source.specs.Whole.{IsBegun}

-- what waits grew by front
pub waits_more : (w0 w : Option (List ℕ)) (old waits grown text front : List ℕ) → Appends (append_known w0 old) (append_known w waits) text → grown ≡ waits ++ front → Appends (append_known w0 old) (append_known w grown) (text ++ front)
waits_more None w old waits grown text front p e = tt
waits_more (Some x) None old waits grown text front p e = absurd p
waits_more (Some x) (Some y) old waits grown text front p e = ap (λ l. y ++ l) e ∙ sym (append_assoc y waits front) ∙ ap (λ l. l ++ front) p ∙ append_assoc (x ++ old) text front

-- what waited was handed over
pub handed_over : (w0 w v : Option (List ℕ)) (old waits text : List ℕ) → Appends (append_known w0 old) (append_known w waits) text → Appends w v waits → Appends (append_known w0 old) (append_known v []) text
handed_over None w v old waits text p q = tt
handed_over (Some x) None v old waits text p q = absurd p
handed_over (Some x) (Some y) None old waits text p q = absurd q
handed_over (Some x) (Some y) (Some z) old waits text p q = append-nil z ∙ q ∙ p

joined : (x y old waits text rest bytes : List ℕ) → bytes ≡ text ++ rest → y ++ waits ≡ (x ++ old) ++ text → (x ++ old) ++ bytes ≡ y ++ (waits ++ rest)
joined x y old waits text rest bytes e p = ap (λ l. (x ++ old) ++ l) e ∙ sym (append_assoc (x ++ old) text rest) ∙ ap (λ l. l ++ rest) (sym p) ∙ append_assoc y waits rest

-- what was written and what waits is a front
pub begun_whole : (w v : Option (List ℕ)) (text rest bytes : List ℕ) → bytes ≡ text ++ rest → Appends w v text → IsBegun w bytes v
begun_whole None v text rest bytes e p = tt
begun_whole (Some x) None text rest bytes e p = absurd p
begun_whole (Some x) (Some y) text rest bytes e p = (rest, ap (λ l. x ++ l) e ∙ sym (append_assoc x text rest) ∙ ap (λ l. l ++ rest) (sym p))

-- where nothing waits, that is what was written
pub begun_bare : (w v : Option (List ℕ)) (bytes waits : List ℕ) → waits ≡ [] → IsBegun w bytes v → IsBegun w bytes (append_known v waits)
begun_bare None v bytes waits e p = tt
begun_bare (Some x) None bytes waits e p = absurd p
begun_bare (Some x) (Some y) bytes waits e p = (p.0, p.1 ∙ ap (λ l. l ++ p.0) (sym (append-nil y)) ∙ ap (λ l. (y ++ l) ++ p.0) (sym e))

-- what was written is a front, where nothing of what waits was handed over
pub begun : (w0 w : Option (List ℕ)) (old waits text rest bytes : List ℕ) → bytes ≡ text ++ rest → Appends (append_known w0 old) (append_known w waits) text → IsBegun (append_known w0 old) bytes w
begun None w old waits text rest bytes e p = tt
begun (Some x) None old waits text rest bytes e p = absurd p
begun (Some x) (Some y) old waits text rest bytes e p = (waits ++ rest, joined x y old waits text rest bytes e p)

-- what was written is a front, where some of what waits was handed over
pub begun_in : (w0 w v : Option (List ℕ)) (old waits text rest bytes : List ℕ) (done : ℕ) → bytes ≡ text ++ rest → Appends (append_known w0 old) (append_known w waits) text → Appends w v (take done waits) → IsBegun (append_known w0 old) bytes v
begun_in None w v old waits text rest bytes done e p q = tt
begun_in (Some x) None v old waits text rest bytes done e p q = absurd p
begun_in (Some x) (Some y) None old waits text rest bytes done e p q = absurd q
begun_in (Some x) (Some y) (Some z) old waits text rest bytes done e p q =
    let whole : z ++ drop done waits ≡ y ++ waits = ap (λ l. l ++ drop done waits) q ∙ append_assoc y (take done waits) (drop done waits) ∙ ap (λ l. y ++ l) (take-append-drop done waits) in
    (drop done waits ++ rest, joined x z old (drop done waits) text rest bytes e (whole ∙ p))

-- a step on through the bytes
pub further : (bytes text rest : List ℕ) (m : ℕ) → bytes ≡ text ++ rest → bytes ≡ (text ++ take m rest) ++ drop m rest
further bytes text rest m e = e ∙ ap (λ l. text ++ l) (sym (take-append-drop m rest)) ∙ sym (append_assoc text (take m rest) (drop m rest))
