use Rattle.std.proofs.Common.{sym, subst}
use Rattle.std.proofs.lemmas.List.{append-nil}
use Rattle.grid_value.specs.View.{view}
use Rattle.grid_json.specs.Reading.{Gives, only_at, texts}
use Rattle.grid_json.proofs.read.only.Goals as goal

pub returns : goal.returns
returns c = subst (λ names. Gives c.only_of_kind.result (only_at (texts names) (view c.args.value.now))) (append-nil c.args.names.now) c.only_of_kind.ensures
