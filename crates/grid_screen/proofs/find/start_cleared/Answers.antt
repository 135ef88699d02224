use Rattle.std.proofs.Common.{sym, ap, ◌∙◌, ◌++◌, Some}
use Rattle.grid_screen.specs.Faults.{clearing_of, cleared_of}
use Rattle.grid_screen.specs.Findings.{state_in, figures_of}
use Rattle.grid_screen.specs.Found.{effect_of, effect_in}
use Rattle.grid_screen.specs.Outages.{state_without}
use Rattle.grid_screen.proofs.Clearings.{cleared_is}
use Rattle.grid_screen.proofs.find.start_cleared.Goals as goal

pub returns : goal.returns
unfolding effect_in
returns c =
    let case = c.args.case.now in
    let event = c.args.event.now in
    let tripped = c.in_ok-cleared.cleared.tripped in
    record {
      fits = c.in_ok-outage.ensures.fits;
      makes = λ after e retained.
          let state = state_in case retained in
          let ids = c.slice.ensures ∙ c.in_ok-cleared.ensures.ids retained ∙ ap (λ z. z ++ clearing_of state event) c.in_ok-copy.ensures in
          ap (λ z. effect_of (figures_of state) z (Some tripped)) (e ∙ c.in_ok-outage.ensures.figures retained ∙ ap (λ z. figures_of (state_without state z)) ids ∙ ap figures_of (sym (cleared_is state event)))
          ∙ ap (λ z. effect_of (figures_of state) (figures_of (cleared_of state event)) (Some z)) (c.in_ok-cleared.ensures.tripped retained);
    }
