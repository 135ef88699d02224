use Rattle.std.proofs.Common.{◌≡◌, true, refl, arith}
use Rattle.grid_json.specs.declared.tokens.Offer.TheVariants.{Taken, Unknown}
use Rattle.grid_json.specs.Streams.{Offered, disjoint}
use Rattle.grid_json.proofs.Both.{first_taken, second_offered}
use Rattle.grid_json.proofs.tokens.BothSlots.take.Goals as goal

pub returns-in-Taken : goal.returns-in-Taken
returns-in-Taken g c =
    let names = g.A.Slots.names in
    let others = g.B.Slots.names in
    let holds = g.A.Slots.holds c.args.format in
    let second = g.B.Slots.holds c.args.format in
    let name = c.args.name.now in
    let both = c.args.self.now in
    let apart : disjoint names others ≡ true = grind arith in
    let went : Offered names holds name c.args.depth c.args.reader.now c.take.new.reader both.first c.take.new.self Taken =
    rw c.in-Taken.is at c.take.ensures in
    first_taken names others holds second name c.args.depth c.args.reader.now c.take.new.reader both _
    (g.met.B.Slots.kept c.args.format both.second name) apart refl went

pub returns-in-Unknown : goal.returns-in-Unknown
returns-in-Unknown g c =
    let names = g.A.Slots.names in
    let others = g.B.Slots.names in
    let holds = g.A.Slots.holds c.args.format in
    let second = g.B.Slots.holds c.args.format in
    let name = c.args.name.now in
    let both = c.args.self.now in
    let after = c.take-in-Unknown in
    let went : Offered names holds name c.args.depth c.args.reader.now c.take.new.reader both.first c.take.new.self Unknown =
    rw c.in-Unknown.is at c.take.ensures in
    second_offered names others holds second name c.args.depth c.args.reader.now c.take.new.reader after.new.reader both _
    after.result (g.met.A.Slots.kept c.args.format both.first name) went after.ensures
