use Rattle.std.proofs.Common.{◌≡◌, ap, ◌∙◌, refl, Some, map}
use Rattle.std.specs.Prelude.{slice_get}
use Rattle.std.proofs.lemmas.Result.{IfOk-weaker}
use Rattle.grid_screen.specs.Findings.{state_in}
use Rattle.grid_screen.specs.Found.{found_of, finding_of, AreFindings}
use Rattle.grid_screen.proofs.Likeness.{found_alike}
use Rattle.grid_screen.proofs.parallel.screen.Goals as goal

pub returns : goal.returns
unfolding finding_of
returns g c =
    let case = c.args.screened.now in
    let list = c.args.list.now in
    IfOk-weaker c.spread.result (λ findings. map (λ finding. Some finding) findings ≡ map (slice_get c.slice.result.now) c.deref.result.now) (AreFindings case list)
    (λ findings e retained.
    let state = state_in case retained in
    found_alike (finding_of state) (λ event. found_of state event.0 event.1) (λ k. refl) list c.in_ok-alike.alike.firsts c.in_ok-alike.alike.groups.items c.in_ok-found.found findings
    c.in_ok-alike.ensures (c.in_ok-found.ensures retained) (e ∙ ap (λ z. map (slice_get z) c.deref.result.now) c.slice.ensures ∙ ap (map (slice_get c.in_ok-found.found)) c.deref.ensures.value)) c.spread.ensures
