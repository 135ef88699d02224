use Rattle.grid_json.proofs.OlderDrafts.{older_read, older_have}
use Rattle.grid_json.proofs.laws.older_formats_are_of_nodes.Goals as goal

pub returns-clause-reads : goal.returns-clause-reads
returns-clause-reads c = older_read

pub returns-clause-has : goal.returns-clause-has
returns-clause-has c = older_have
