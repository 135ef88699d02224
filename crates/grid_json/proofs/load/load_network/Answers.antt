use Rattle.std.proofs.Common.{◌≡◌, codes, Ok, ap, ◌∙◌}
use Rattle.grid_json.specs.Reading.{Fails, under}
use Rattle.grid_json.specs.Loading.{Loaded, loaded_of, network_load, nothing_of, parts_load}
use Rattle.grid_json.proofs.PartLoops.{fails_on, under_fails}
use Rattle.grid_json.proofs.load.load_network.Goals as goal

pub returns-in-Err : goal.returns-in-Err
unfolding network_load
returns-in-Err c =
    let parts = parts_load c.args.draft (nothing_of c.args.draft.id) in
    let began : loaded_of c.in_ok-loader.loader ≡ nothing_of c.args.draft.id = c.in_ok-loader.ensures ∙ ap nothing_of c.in_ok-copy.ensures in
    let failed : Fails c.in-Err.e parts = rw began at c.in-Err.ensures in
    fails_on (λ (all : Loaded). Ok all.network) (under (codes "network") parts) c.under.result (under_fails (codes "network") parts c.in-Err.e c.under.result failed c.under.ensures)
