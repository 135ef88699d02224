-- Reasons of refusals between quotes: only the id of a terminal may have to be escaped.
use Rattle.std.proofs.Common.{◌≡◌, refl, ap, ◌∙◌, ℕ, ℤ, List, ◌++◌, Option, None, Some}
use Rattle.std.specs.Prelude.{codes, decimal}
use Rattle.std.specs.Option.{unwrap_or}
use Rattle.std.proofs.lemmas.List.Concat.{flat_map-append}
use Rattle.json.specs.Print.{escape, escape_byte}
use Rattle.grid_kinds.specs.declared.CheckFault.{CheckFault}
use Rattle.grid_kinds.specs.declared.CheckFault.TheVariants as checks
use Rattle.grid_level.specs.declared.Terminal.{Terminal}
use Rattle.grid_structure.specs.declared.EditFault.{EditFault}
use Rattle.grid_structure.specs.declared.EditFault.TheVariants as faults
use Rattle.grid_core.specs.declared.reply.Refusal.{Refusal}
use Rattle.grid_core.specs.declared.reply.Refusal.TheVariants as refusals
use Rattle.grid_report.specs.Lines.{terminal_text}
use Rattle.grid_report.specs.Words.{behind}
use Rattle.grid_report.specs.Refusals.{check_reason, fault_reason, reason_text}
use Rattle.grid_jsonl.specs.Refusals.{taken_at, taken_by}
use Rattle.grid_jsonl.proofs.Plain.{Stays, stays_more, behind_stays, decimal_stays, terminal_escaped}

one_number : (words : List ℕ) (found : ℤ) → Stays words → Stays (words ++ behind found)
one_number words found h = stays_more words (behind found) h (behind_stays found)

two_numbers : (words : List ℕ) (found bound : ℤ) → Stays words → Stays (words ++ behind found ++ behind bound)
two_numbers words found bound h = one_number (words ++ behind found) bound (one_number words found h)

check_stays : (fault : CheckFault) → Stays (check_reason fault)
unfolding check_reason escape_byte
check_stays (checks.NominalNotPositive found bound) = two_numbers (codes "nominal not positive") found bound refl
check_stays (checks.VoltageLimits found bound) = two_numbers (codes "voltage limits") found bound refl
check_stays (checks.PowerLimits found bound) = two_numbers (codes "power limits") found bound refl
check_stays (checks.Sections found bound) = two_numbers (codes "sections") found bound refl
check_stays (checks.RatedNotPositive found bound) = two_numbers (codes "rated not positive") found bound refl

fault_stays : (fault : EditFault) → taken_at fault ≡ None → Stays (fault_reason fault)
unfolding fault_reason taken_at escape_byte
fault_stays (faults.Check fault) h = check_stays fault
fault_stays (faults.NodeRange node) h = one_number (codes "node range") node refl
fault_stays (faults.NodeTaken terminal) h = absurd (cc)
fault_stays (faults.SameNode node) h = one_number (codes "same node") node refl
fault_stays (faults.OtherSubstation side) h = stays_more (codes "other substation ") (decimal side) refl (decimal_stays side)
fault_stays other h = refl

pub reason_stays : (refusal : Refusal) → taken_by refusal ≡ None → Stays (reason_text refusal)
unfolding reason_text taken_by escape_byte
reason_stays (refusals.Edit fault) h = fault_stays fault h
reason_stays other h = refl

-- the reason that names a terminal

pub taken_escaped : (t : Terminal) → escape (codes "node taken by " ++ terminal_text t) ≡ codes "node taken by " ++ (escape t.equipment ++ codes "." ++ decimal t.side)
unfolding escape_byte
taken_escaped t = flat_map-append escape_byte (codes "node taken by ") (terminal_text t) ∙ ap (λ l. codes "node taken by " ++ l) (terminal_escaped t)

fault_taken : (fault : EditFault) (t : Terminal) → taken_at fault ≡ Some t → fault_reason fault ≡ codes "node taken by " ++ terminal_text t
unfolding fault_reason taken_at
fault_taken (faults.NodeTaken terminal) t h = ap (λ (o : Option Terminal). codes "node taken by " ++ terminal_text (unwrap_or o t)) h
fault_taken other t h = absurd (cc)

pub reason_taken : (refusal : Refusal) (t : Terminal) → taken_by refusal ≡ Some t → reason_text refusal ≡ codes "node taken by " ++ terminal_text t
unfolding reason_text taken_by
reason_taken (refusals.Edit fault) t h = fault_taken fault t h
reason_taken other t h = absurd (cc)
