-- What was written where a write stopped: a front of all that was to be written.
use Rattle.std.proofs.Common.{◌≡◌, ℕ, suc, ◌+◌, ◌<◌, ◌≤◌, List, [], ◌∷◌, ◌++◌, take, drop, get_or, length, Option, None, Some, refl, sym, ap, ◌∙◌, append_assoc, append-nil, take-append-drop, drop-cons, take-suc, add-one, Result, Ok, Err, subst}
use Rattle.std.specs.Prelude.{OnErr, OnOk}
use Rattle.std.specs.List.{flat_map}
use Rattle.std.specs.Io.KnownBytes.{Appends, append_known}
use Rattle.std.proofs.lemmas.List.{take_all}
use Rattle.std.proofs.lemmas.List.Concat.{flat_map-append}
use Rattle.grid_source.specs.Whole.{IsBegun}

pub on_err_map : {T E : Type 0} {P Q : Type 0} (r : Result T E) → (P → Q) → OnErr r P → OnErr r Q
on_err_map (Ok x) f p = tt
on_err_map (Err e) f p = f p

pub ok_is_no_err : {T E : Type 0} (t : T) (e : E) → Ok t ≡ Err e → ⊥
ok_is_no_err t e p = subst (λ r. OnErr r ⊥) p tt

pub on_ok_map : {T E : Type 0} {P Q : Type 0} (r : Result T E) → (P → Q) → OnOk r P → OnOk r Q
on_ok_map (Ok x) f p = f p
on_ok_map (Err e) f p = tt

joined : (x y text waits rest bytes : List ℕ) → bytes ≡ text ++ rest → y ++ waits ≡ x ++ text → x ++ bytes ≡ y ++ (waits ++ rest)
joined x y text waits rest bytes e p = ap (λ l. x ++ l) e ∙ sym (append_assoc x text rest) ∙ ap (λ l. l ++ rest) (sym p) ∙ append_assoc y waits rest

-- nothing of what waits was handed over
pub before : (w0 w : Option (List ℕ)) (waits text rest bytes : List ℕ) → bytes ≡ text ++ rest → Appends w0 (append_known w waits) text → IsBegun w0 bytes w
before None w waits text rest bytes e p = tt
before (Some x) None waits text rest bytes e p = absurd p
before (Some x) (Some y) waits text rest bytes e p = (waits ++ rest, joined x y text waits rest bytes e p)

-- the write stopped within a line
pub within : (w0 h v : Option (List ℕ)) (text line rest bytes : List ℕ) → bytes ≡ text ++ (line ++ rest) → Appends w0 h text → IsBegun h line v → IsBegun w0 bytes v
within None h v text line rest bytes e p q = tt
within (Some x) None v text line rest bytes e p q = absurd p
within (Some x) (Some y) None text line rest bytes e p q = absurd q
within (Some x) (Some y) (Some z) text line rest bytes e p q =
    (q.0 ++ rest, joined x y text [] (line ++ rest) bytes e (append-nil y ∙ p) ∙ sym (append_assoc y line rest) ∙ ap (λ l. l ++ rest) q.1 ∙ append_assoc z q.0 rest)

-- the write stopped in what waited at the end
pub at_end : (w0 w v : Option (List ℕ)) (waits text : List ℕ) (done : ℕ) → Appends w0 (append_known w waits) text → Appends w v (take done waits) → IsBegun w0 text v
at_end None w v waits text done p q = tt
at_end (Some x) None v waits text done p q = absurd p
at_end (Some x) (Some y) None waits text done p q = absurd q
at_end (Some x) (Some y) (Some z) waits text done p q =
    let whole : z ++ drop done waits ≡ y ++ waits = ap (λ l. l ++ drop done waits) q ∙ append_assoc y (take done waits) (drop done waits) ∙ ap (λ l. y ++ l) (take-append-drop done waits) in
    (drop done waits, sym (whole ∙ p))

module _ {X : Type 0} (f : X → List ℕ) where
  pub cut : (xs : List X) (i : ℕ) → flat_map f xs ≡ flat_map f (take i xs) ++ flat_map f (drop i xs)
  cut xs i = ap (flat_map f) (sym (take-append-drop i xs)) ∙ flat_map-append f (take i xs) (drop i xs)

  pub cut_at : (xs : List X) (i : ℕ) (x : X) → i < length xs → x ≡ get_or xs i x → flat_map f xs ≡ flat_map f (take i xs) ++ (f x ++ flat_map f (drop (suc i) xs))
  cut_at xs i x lt is = cut xs i ∙ ap (λ l. flat_map f (take i xs) ++ flat_map f l) (drop-cons xs i x lt ∙ ap (λ w. w ∷ drop (suc i) xs) (sym is))

  pub one_on : (xs : List X) (i : ℕ) (x : X) → i < length xs → x ≡ get_or xs i x → flat_map f (take (i + 1) xs) ≡ flat_map f (take i xs) ++ f x
  one_on xs i x lt is =
      ap (λ n. flat_map f (take n xs)) (add-one i)
      ∙ ap (flat_map f) (take-suc xs i x lt ∙ ap (λ w. take i xs ++ w ∷ []) (sym is))
      ∙ flat_map-append f (take i xs) (x ∷ [])
      ∙ ap (λ l. flat_map f (take i xs) ++ l) (append-nil (f x))

  pub whole : (xs : List X) (i : ℕ) → length xs ≤ i → flat_map f (take i xs) ≡ flat_map f xs
  whole xs i le = ap (flat_map f) (take_all i xs le)

-- the write stopped in the first part
pub in_first : (h v : Option (List ℕ)) (first rest : List ℕ) → IsBegun h first v → IsBegun h (first ++ rest) v
in_first None v first rest q = tt
in_first (Some x) None first rest q = absurd q
in_first (Some x) (Some z) first rest q = (q.0 ++ rest, sym (append_assoc x first rest) ∙ ap (λ l. l ++ rest) q.1 ∙ append_assoc z q.0 rest)

-- the first part was written or waits, and the write stopped behind it
pub behind_first : (h k v : Option (List ℕ)) (first rest : List ℕ) → Appends h k first → IsBegun k rest v → IsBegun h (first ++ rest) v
behind_first None k v first rest p q = tt
behind_first (Some x) None v first rest p q = absurd p
behind_first (Some x) (Some y) None first rest p q = absurd q
behind_first (Some x) (Some y) (Some z) first rest p q = (q.0, sym (append_assoc x first rest) ∙ ap (λ l. l ++ rest) (sym p) ∙ q.1)

-- where nothing waits, that is what was written
pub none_waits : (w : Option (List ℕ)) (waits : List ℕ) → waits ≡ [] → append_known w waits ≡ w
none_waits None waits e = refl
none_waits (Some x) waits e = ap Some (ap (λ l. x ++ l) e ∙ append-nil x)

-- nothing was written
pub at_start : (old : Option (List ℕ)) (bytes : List ℕ) → IsBegun old bytes old
at_start None bytes = tt
at_start (Some written) bytes = (bytes, refl)

-- ---- text that comes block by block

-- what is still to come begins with a line
pub next_line : (bytes text rest line more : List ℕ) → bytes ≡ text ++ rest → rest ≡ line ++ more → bytes ≡ text ++ (line ++ more)
next_line bytes text rest line more e n = e ∙ ap (λ l. text ++ l) n

-- the line is a part of what was written or waits
pub line_on : (bytes text rest line more : List ℕ) → bytes ≡ text ++ rest → rest ≡ line ++ more → bytes ≡ (text ++ line) ++ more
line_on bytes text rest line more e n = next_line bytes text rest line more e n ∙ sym (append_assoc text line more)

pub line_more : (w0 h v : Option (List ℕ)) (text line : List ℕ) → Appends w0 h text → Appends h v line → Appends w0 v (text ++ line)
line_more None h v text line p q = tt
line_more (Some x) None v text line p q = absurd p
line_more (Some x) (Some y) None text line p q = absurd q
line_more (Some x) (Some y) (Some z) text line p q = q ∙ ap (λ l. l ++ line) p ∙ append_assoc x text line

-- nothing is still to come
pub nothing_left : (bytes text rest : List ℕ) → bytes ≡ text ++ rest → rest ≡ [] → text ≡ bytes
nothing_left bytes text rest e none = sym (e ∙ ap (λ l. text ++ l) none ∙ append-nil text)
