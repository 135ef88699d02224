-- The reasons of refusals: they are UTF-8, and with the number they tell the refusal.
use Rattle.std.proofs.Common.{◌≡◌, ℕ, ℤ, ◌==◌, true, List, [], ◌∷◌, ◌++◌, Option, Some, None, length, drop, refl, ap, ap₂, ◌∙◌, arith, append_assoc}
use Rattle.std.specs.Prelude.{IsUtf8, codes, decimal, if◌then◌else◌}
use Rattle.std.proofs.lemmas.Str.{IsUtf8-append, IsUtf8-from_ascii}
use Rattle.std.proofs.lemmas.Fmt.{IsAscii-decimal}
use Rattle.std.proofs.Math.Seq.{drop-append_seam}
use Rattle.json.proofs.Printed.Utf8.{are_ascii, IsUtf8-are_ascii}
use Rattle.grid_kinds.specs.declared.CheckFault.{CheckFault}
use Rattle.grid_kinds.specs.declared.CheckFault.TheVariants as checks
use Rattle.grid_level.specs.declared.Terminal.{Terminal}
use Rattle.grid_structure.specs.declared.EditFault.{EditFault}
use Rattle.grid_structure.specs.declared.EditFault.TheVariants as faults
use Rattle.grid_core.specs.declared.reply.Refusal.{Refusal}
use Rattle.grid_core.specs.declared.reply.Refusal.TheVariants as refusals
use Rattle.grid_report.specs.Words.{signed, behind}
use Rattle.grid_report.specs.Lines.{terminal_text}
use Rattle.grid_report.specs.Refusals.{check_number, fault_number, refusal_number, check_reason, fault_reason, reason_text}
use Rattle.grid_told.specs.Held.{IsUnsigned, IsSigned, IsTerminal, IsCheckFault}
use Rattle.grid_told.specs.Requested.{IsEditFault}
use Rattle.grid_told.specs.Outcomes.{IsRefusal}
use Rattle.grid_told.proofs.Digits.{decimal_in, decimal_back, decimal_from, lower, signed_in, signed_back, signed_from, cut_at_blank, blank_cut, cut_at_dot, dot_cut}
use Rattle.grid_told.proofs.Sums.{signed_wide, signed_utf8}

-- ---- UTF-8

word : (text : List ℕ) → are_ascii text ≡ true → IsUtf8 text
word = IsUtf8-are_ascii

digits_utf8 : (n : ℕ) → IsUnsigned n → IsUtf8 (decimal n)
digits_utf8 n h = IsUtf8-from_ascii (decimal n) (IsAscii-decimal n h)

behind_utf8 : (z : ℤ) → IsSigned z → IsUtf8 (behind z)
behind_utf8 z h = IsUtf8-append (codes " ") (signed z) (word (codes " ") refl) (signed_utf8 z (signed_wide z h))

one_utf8 : (text : List ℕ) (z : ℤ) → IsUtf8 text → IsSigned z → IsUtf8 (text ++ behind z)
one_utf8 text z h k = IsUtf8-append text (behind z) h (behind_utf8 z k)

two_utf8 : (text : List ℕ) (found bound : ℤ) → IsUtf8 text → IsSigned found → IsSigned bound → IsUtf8 (text ++ behind found ++ behind bound)
two_utf8 text found bound h k l = one_utf8 (text ++ behind found) bound (one_utf8 text found h k) l

check_utf8 : (fault : CheckFault) → IsCheckFault fault → IsUtf8 (check_reason fault)
unfolding check_reason
check_utf8 (checks.NominalNotPositive found bound) h = two_utf8 (codes "nominal not positive") found bound (word _ refl) h.0 h.1
check_utf8 (checks.VoltageLimits found bound) h = two_utf8 (codes "voltage limits") found bound (word _ refl) h.0 h.1
check_utf8 (checks.PowerLimits found bound) h = two_utf8 (codes "power limits") found bound (word _ refl) h.0 h.1
check_utf8 (checks.Sections found bound) h = two_utf8 (codes "sections") found bound (word _ refl) h.0 h.1
check_utf8 (checks.RatedNotPositive found bound) h = two_utf8 (codes "rated not positive") found bound (word _ refl) h.0 h.1

terminal_utf8 : (t : Terminal) → IsTerminal t → IsUtf8 (terminal_text t)
terminal_utf8 t h = IsUtf8-append (t.equipment ++ codes ".") (decimal t.side) (IsUtf8-append t.equipment (codes ".") h.equipment (word (codes ".") refl)) (digits_utf8 t.side h.side)

fault_utf8 : (fault : EditFault) → IsEditFault fault → IsUtf8 (fault_reason fault)
unfolding fault_reason
fault_utf8 (faults.Check fault) h = check_utf8 fault h
fault_utf8 (faults.NodeRange node) h = one_utf8 (codes "node range") node (word _ refl) h
fault_utf8 (faults.NodeTaken terminal) h = IsUtf8-append (codes "node taken by ") (terminal_text terminal) (word _ refl) (terminal_utf8 terminal h)
fault_utf8 (faults.SameNode node) h = one_utf8 (codes "same node") node (word _ refl) h
fault_utf8 (faults.OtherSubstation side) h = IsUtf8-append (codes "other substation ") (decimal side) (word _ refl) (digits_utf8 side h)
fault_utf8 other h = word _ refl

pub reason_utf8 : (refusal : Refusal) → IsRefusal refusal → IsUtf8 (reason_text refusal)
unfolding reason_text
reason_utf8 (refusals.Edit fault) h = fault_utf8 fault h
reason_utf8 other h = word _ refl

-- ---- the values behind a reason's words

abbrev pub value_in : List ℕ → List ℕ → ℤ
value_in words text = signed_in (drop 1 (drop (length words) text))

value_back : (words : List ℕ) (z : ℤ) → IsSigned z → value_in words (words ++ behind z) ≡ z
unfolding signed
value_back words z h = ap (λ l. signed_in (drop 1 l)) (drop-append_seam words (behind z)) ∙ signed_back z (signed_wide z h)

abbrev pub pair_in : List ℕ → ℤ × ℤ
pair_in text = (signed_in (cut_at_blank text).0, signed_in (cut_at_blank text).1)

abbrev pub values_in : List ℕ → List ℕ → ℤ × ℤ
values_in words text = pair_in (drop 1 (drop (length words) text))

pair_back : (found bound : ℤ) → IsSigned found → IsSigned bound → pair_in (signed found ++ 32 ∷ signed bound) ≡ (found, bound)
unfolding signed
pair_back found bound h k =
    ap (λ (p : List ℕ × List ℕ). (signed_in p.0, signed_in p.1)) (blank_cut (signed found) (signed bound) (lower 33 45 (signed found) (omega arith) (signed_from found)))
    ∙ ap₂ (λ (a b : ℤ). (a, b)) (signed_back found (signed_wide found h)) (signed_back bound (signed_wide bound k))

values_back : (words : List ℕ) (found bound : ℤ) → IsSigned found → IsSigned bound → values_in words (words ++ behind found ++ behind bound) ≡ (found, bound)
values_back words found bound h k =
    ap (λ l. pair_in (drop 1 (drop (length words) l))) (append_assoc words (behind found) (behind bound))
    ∙ ap (λ l. pair_in (drop 1 l)) (drop-append_seam words (behind found ++ behind bound)) ∙ pair_back found bound h k

abbrev pub side_in : List ℕ → List ℕ → ℕ
side_in words text = decimal_in (drop (length words) text)

side_back : (words : List ℕ) (side : ℕ) → IsUnsigned side → side_in words (words ++ decimal side) ≡ side
side_back words side h = ap decimal_in (drop-append_seam words (decimal side)) ∙ decimal_back side (omega (arith, h))

abbrev pub named_terminal : Option (List ℕ × List ℕ) → Terminal
named_terminal None = record { equipment = []; side = 0 }
named_terminal (Some cut) = record { equipment = cut.0; side = decimal_in cut.1 }

abbrev pub terminal_behind : List ℕ → List ℕ → Terminal
terminal_behind words text = named_terminal (cut_at_dot (drop (length words) text))

terminal_back : (words : List ℕ) (t : Terminal) → IsTerminal t → terminal_behind words (words ++ terminal_text t) ≡ t
terminal_back words t h =
    ap (λ l. named_terminal (cut_at_dot l)) (drop-append_seam words (terminal_text t) ∙ append_assoc t.equipment (codes ".") (decimal t.side))
    ∙ ap named_terminal (dot_cut t.equipment (decimal t.side) (lower 47 48 (decimal t.side) (omega arith) (decimal_from t.side)))
    ∙ ap (λ n. record { equipment = t.equipment; side = n }) (decimal_back t.side (omega (arith, h.side)))

-- ---- refusals

unfoldable pub check_by : ℕ → List ℕ → CheckFault
check_by number text =
    if number == 10 then checks.NominalNotPositive (values_in (codes "nominal not positive") text).0 (values_in (codes "nominal not positive") text).1
    else if number == 11 then checks.VoltageLimits (values_in (codes "voltage limits") text).0 (values_in (codes "voltage limits") text).1
    else if number == 12 then checks.PowerLimits (values_in (codes "power limits") text).0 (values_in (codes "power limits") text).1
    else if number == 13 then checks.Sections (values_in (codes "sections") text).0 (values_in (codes "sections") text).1
    else checks.RatedNotPositive (values_in (codes "rated not positive") text).0 (values_in (codes "rated not positive") text).1

unfoldable pub fault_by : ℕ → List ℕ → EditFault
fault_by number text =
    if number == 20 then faults.NodeRange (value_in (codes "node range") text)
    else if number == 21 then faults.NodeTaken (terminal_behind (codes "node taken by ") text)
    else if number == 22 then faults.SameNode (value_in (codes "same node") text)
    else if number == 23 then faults.NoEdge
    else if number == 24 then faults.TooManyNodes
    else if number == 25 then faults.TooManyEdges
    else if number == 30 then faults.IdTaken
    else if number == 31 then faults.NoSubstation
    else if number == 32 then faults.NoLevel
    else if number == 33 then faults.NoSuchId
    else if number == 34 then faults.OtherSubstation (side_in (codes "other substation ") text)
    else if number == 35 then faults.TooManyLevels
    else if number == 36 then faults.TooManySwitches
    else faults.Check (check_by number text)

unfoldable pub refusal_by : ℕ → List ℕ → Refusal
refusal_by number text =
    if number == 40 then refusals.NoVariant
    else if number == 41 then refusals.NoSwitch
    else if number == 42 then refusals.NoEquipment
    else if number == 43 then refusals.NoSide
    else if number == 44 then refusals.NoLevel
    else if number == 45 then refusals.TargetExists
    else if number == 46 then refusals.InitialStays
    else if number == 47 then refusals.TooManyVariants
    else if number == 48 then refusals.NoPower
    else refusals.Edit (fault_by number text)

check_back : (fault : CheckFault) → IsCheckFault fault → check_by (check_number fault) (check_reason fault) ≡ fault
unfolding check_by check_number check_reason
check_back (checks.NominalNotPositive found bound) h = ap (λ (p : ℤ × ℤ). checks.NominalNotPositive p.0 p.1) (values_back (codes "nominal not positive") found bound h.0 h.1)
check_back (checks.VoltageLimits found bound) h = ap (λ (p : ℤ × ℤ). checks.VoltageLimits p.0 p.1) (values_back (codes "voltage limits") found bound h.0 h.1)
check_back (checks.PowerLimits found bound) h = ap (λ (p : ℤ × ℤ). checks.PowerLimits p.0 p.1) (values_back (codes "power limits") found bound h.0 h.1)
check_back (checks.Sections found bound) h = ap (λ (p : ℤ × ℤ). checks.Sections p.0 p.1) (values_back (codes "sections") found bound h.0 h.1)
check_back (checks.RatedNotPositive found bound) h = ap (λ (p : ℤ × ℤ). checks.RatedNotPositive p.0 p.1) (values_back (codes "rated not positive") found bound h.0 h.1)

is_check : (fault : CheckFault) (text : List ℕ) → fault_by (check_number fault) text ≡ faults.Check (check_by (check_number fault) text)
unfolding fault_by check_number
is_check (checks.NominalNotPositive found bound) text = refl
is_check other text = refl

fault_back : (fault : EditFault) → IsEditFault fault → fault_by (fault_number fault) (fault_reason fault) ≡ fault
unfolding fault_by fault_number fault_reason
fault_back (faults.Check fault) h = is_check fault (check_reason fault) ∙ ap faults.Check (check_back fault h)
fault_back (faults.NodeRange node) h = ap faults.NodeRange (value_back (codes "node range") node h)
fault_back (faults.NodeTaken terminal) h = ap faults.NodeTaken (terminal_back (codes "node taken by ") terminal h)
fault_back (faults.SameNode node) h = ap faults.SameNode (value_back (codes "same node") node h)
fault_back (faults.OtherSubstation side) h = ap faults.OtherSubstation (side_back (codes "other substation ") side h)
fault_back other h = refl

check_edit : (fault : CheckFault) (text : List ℕ) → refusal_by (check_number fault) text ≡ refusals.Edit (fault_by (check_number fault) text)
unfolding refusal_by check_number
check_edit (checks.NominalNotPositive found bound) text = refl
check_edit other text = refl

is_edit : (fault : EditFault) (text : List ℕ) → refusal_by (fault_number fault) text ≡ refusals.Edit (fault_by (fault_number fault) text)
unfolding refusal_by fault_number
is_edit (faults.Check fault) text = check_edit fault text
is_edit other text = refl

-- for a refusal the number fixes how many values its reason ends with
pub refusal_back : (refusal : Refusal) → IsRefusal refusal → refusal_by (refusal_number refusal) (reason_text refusal) ≡ refusal
unfolding refusal_by refusal_number reason_text
refusal_back (refusals.Edit fault) h = is_edit fault (fault_reason fault) ∙ ap refusals.Edit (fault_back fault h)
refusal_back other h = refl
