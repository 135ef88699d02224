use Rattle.std.proofs.Common.{◌≡◌, refl, ap, ◌∙◌, subst, List, Result, Bor, map, arith}
use Rattle.std.proofs.Crossing.{crosses, frees}
use denote.Param.Send.{sendable}
use Rattle.grid_core.proofs.case.Case.TheSendSync as case
use Rattle.grid_ids.proofs.copies.Memory.TheSendSync as memory
use Rattle.grid_ids.proofs.seq.Seq.TheSendSync as seq
use Rattle.grid_contingencies.proofs.Contingency.TheSendSync as contingency
use Rattle.grid_figures.proofs.Figures.TheSendSync as figures
use Rattle.grid_screen.proofs.Finding.TheSendSync as finding
use Rattle.grid_outages.proofs.screening.Screening.TheSendSync as kept
use Rattle.std.proofs.lemmas.Result.{IfOk-weaker}
use Rattle.std.specs.List.{AllZip}
use Rattle.std.specs.Prelude.{IfOk, flat_map}
use Rattle.rayon.specs.Lists.{chunks_of}
use Rattle.rayon.proofs.ToStd.{slice-AllZip, chunks_of-concat}
use Rattle.grid_ids.specs.declared.copies.Memory.{Memory}
use Rattle.grid_contingencies.specs.declared.Contingency.{Contingency}
use Rattle.grid_screen.specs.declared.Finding.{Finding}
use Rattle.grid_screen.specs.Findings.{state_in}
use Rattle.grid_screen.specs.Found.{finding_of, AreFindings}
use Rattle.grid_report.proofs.BlockParts.{all_right}
use Rattle.grid_screen.proofs.ListPairs.{weaker, joined_parts}
use Rattle.grid_screen.proofs.parallel.screen_parts.Goals as goal

pub collect-requires : goal.collect-requires
collect-requires g c κs = (
  search (sendable, crosses, case.the_sync, kept.the_sync, figures.the_sync, contingency.the_sync) depth 60,
  (
    search (sendable, crosses, finding.the_send, seq.the_send, memory.the_send) depth 40,
    (
      search (sendable, crosses, finding.the_send, seq.the_send, memory.the_send) depth 40,
      (
        search (sendable, crosses) depth 40,
        (
          search (sendable, crosses) depth 40,
          (frees, rw c.map.ensures.f (λ k d lt x e. ((c.screened.invariant.0, (c.screened.invariant.1, c.screened.invariant.2)), λ y p. tt))),
        ),
      ),
    ),
  ),
)

pub returns : goal.returns
returns g c retained =
    let h = c.in_ok-parts.ensures in
    let list = c.args.list.now in
    let f = finding_of (state_in c.args.screened.now retained) in
    let slice = ap (λ it. it.base.slice.now) c.map.ensures.base ∙ ap (λ it. it.slice.now) c.with_min_len.ensures.base ∙ c.par_chunks.ensures.slice ∙ c.slice.ensures in
    let size = ap (λ it. it.base.size) c.map.ensures.base ∙ ap (λ it. it.size) c.with_min_len.ensures.base ∙ c.par_chunks.ensures.size in
    let cut : map (λ (z : Bor (List Contingency)). z.now) h.1.0 ≡ chunks_of 128 list = h.1.1 ∙ rw (size, slice) refl in
    let R : List Contingency → Result (List Finding) Memory → Type 0 = λ part r. IfOk r (AreFindings c.map.result.f.1.now part) in
    let Q : List Contingency → Result (List Finding) Memory → Type 0 = λ part r. IfOk r (λ y. y ≡ map f part) in
    let same : c.map.result.f.1.now ≡ c.args.screened.now = ap (λ z. z.1.now) c.map.ensures.f ∙ c.screened.view_is in
    let right : AllZip R (chunks_of 128 list) h.0 = slice-AllZip h.1.0 (chunks_of 128 list) cut R h.0 h.1.2 in
    let told : AllZip Q (chunks_of 128 list) h.0 = weaker R Q (chunks_of 128 list) h.0 (λ x r p. IfOk-weaker r (AreFindings c.map.result.f.1.now x) (λ y. y ≡ map f x) (λ y q. q retained ∙ ap (λ z. map (finding_of (state_in z retained)) x) same) p) right in
    let made = rw c.in_ok-parts-2.was at h.2 in
    c.in_ok-findings.ensures ∙ ap (flat_map (λ part. part)) (made.2 ∙ all_right Memory (map f) (chunks_of 128 list) made.0 (subst (AllZip Q (chunks_of 128 list)) made.1 told)) ∙ joined_parts f (chunks_of 128 list) ∙ ap (map f) (chunks_of-concat 128 list (omega arith))
