use Rattle.std.proofs.Common.{◌≡◌, ◌<◌, ℕ, List, length, arith, subst, sym}
use Rattle.grid_paths.specs.Routes.{EndsBelow}
use Rattle.grid_paths.specs.Search.{AreLeastCosts, cost_at, far}
use Rattle.grid_paths.proofs.PathSearches.{found_here}
use Rattle.grid_paths.proofs.Shortest.{walk_is_least, none_from_far}
use Rattle.grid_paths.proofs.least_path.Goals as goal
use Rattle.grid_paths.proofs.least_path.Goals.{After-ends_below, After-index}
use Rattle.grid_paths.proofs.least_path.Given.{Over}

ends : (g : Over) (c : After-ends_below g) → EndsBelow (g.N.PathNet.edges c.args.net.now) (length c.args.goals.now)
ends g c = let P : ℕ → Type 0 = λ n. EndsBelow (g.N.PathNet.edges c.args.net.now) n in subst P (sym c.requires.goals) c.ends_below.ensures

here : (g : Over) (c : After-index g) → cost_at c.in_ok-found.found.items c.args.from ≡ c.index.result.now
here g c =
    let long = c.in_ok-found.ensures.long in
    found_here c.in_ok-found.found.items c.args.from c.index.result.now (omega (arith, long, c.requires.from)) c.index.ensures

pub returns-clause-none : goal.returns-clause-none
returns-clause-none g c path =
    let same = here g (goal.at.returns-clause-none g c).After-index in
    none_from_far (g.N.PathNet.edges c.args.net.now) c.args.goals.now c.in_ok-found.found.items c.args.from c.in_ok-found.ensures
    (ends g (goal.at.returns-clause-none g c).After-ends_below) c.requires.few c.requires.from (omega (arith, same, c.if-index-lt-FAR.false)) path

pub returns-then-index-lt-FAR-clause-least : goal.returns-then-index-lt-FAR-clause-least
returns-then-index-lt-FAR-clause-least g c =
    let edges = g.N.PathNet.edges c.args.net.now in
    let goals = c.args.goals.now in
    let same = here g (goal.at.returns-then-index-lt-FAR-clause-least g c).After-index in
    let found = c.as_slice.result.now in
    let e : found ≡ c.in_ok-found.found.items = c.as_slice.ensures.value in
    let P : List ℕ → Type 0 = λ z. AreLeastCosts edges goals z (cost_at z c.args.from) in
    let Q : List ℕ → Type 0 = λ z. cost_at z c.args.from < far in
    let least : AreLeastCosts edges goals found (cost_at found c.args.from) = subst P (sym e) c.in_ok-found.ensures in
    let small : cost_at found c.args.from < far = subst Q (sym e) (omega (arith, same, c.if-index-lt-FAR.true)) in
    walk_is_least edges goals found c.args.from least (ends g (goal.at.returns-then-index-lt-FAR-clause-least g c).After-ends_below)
    c.requires.few c.requires.from c.in_ok-walk.field-0 (c.in_ok-walk.ensures goals least small)
