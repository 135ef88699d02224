use Rattle.grid_json.proofs.stream.fill_by.Goals as goal

pub returns-in-Some : goal.returns-in-Some
returns-in-Some g c = rw c.in-Some.is c.fill.ensures
