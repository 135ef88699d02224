use Rattle.std.proofs.Common.{◌≡◌, ap, ◌∙◌, Bool, List, true}
use Rattle.std.specs.Prelude.{Some}
use Rattle.grid_busview.specs.declared.NodeBuses.{NodeBuses}
use Rattle.grid_islands.specs.declared.kept.KeptLevel.{KeptLevel}
use Rattle.grid_islands.specs.Kept.{kept_of}
use Rattle.grid_islands.proofs.kept.KeptBuses.keep.Goals as goal

pub returns-clause-own : goal.returns-clause-own
unfolding kept_of
returns-clause-own c =
    let build : List Bool → NodeBuses → KeptLevel = λ x y. record { opened = x; buses = y; valid = true } in
    let flags : c.from_vec-opened.result ≡ c.args.opened.now = c.from_vec-opened.ensures ∙ c.in_ok-from_slice.ensures.items in
    let same : build c.from_vec-opened.result c.in_ok-buses.buses ≡ kept_of c.args.level.now c.args.opened.now = ap (λ z. build z c.in_ok-buses.buses) flags ∙ ap (build c.args.opened.now) c.in_ok-buses.ensures in
    c.in_ok-put.ensures.own ∙ ap Some same
