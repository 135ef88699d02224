use Rattle.std.proofs.Common.{ap, ◌∙◌, None}
use Rattle.grid_screen.specs.Faults.{before_fault}
use Rattle.grid_screen.specs.Findings.{state_in, figures_of}
use Rattle.grid_screen.specs.Found.{effect_of, effect_in}
use Rattle.grid_screen.specs.Outages.{state_without}
use Rattle.grid_screen.proofs.find.start_outage.Goals as goal

pub returns : goal.returns
unfolding effect_in before_fault
returns c =
    let case = c.args.case.now in
    record {
      fits = c.in_ok-outage_without.ensures.fits;
      makes = λ after e retained. ap (λ z. effect_of (figures_of (state_in case retained)) z None) (e ∙ c.in_ok-outage_without.ensures.figures retained ∙ ap (λ z. figures_of (state_without (state_in case retained) z)) c.slice.ensures);
    }
