use Rattle.std.proofs.Common.{refl, sym, subst, arith, Option}
use Rattle.std.specs.Prelude.{IfSome}
use Rattle.grid_islands.specs.declared.components.Numbers.{Numbers}
use Rattle.grid_islands.specs.Kept.{AreNumbersOf}
use Rattle.grid_islands.proofs.KeptLevels.{still_made, all_kept, none_but, but_long, numbers_gone, still_but}
use Rattle.grid_islands.proofs.kept.KeptBuses.keep_one.Goals as goal

pub returns-then-place-level_count-clause-every : goal.returns-then-place-level_count-clause-every
returns-then-place-level_count-clause-every c =
    let net = c.args.structure.now in
    none_but net c.args.states.now.opened c.args.place c.args.self.now (omega (arith, c.if-place-level_count.true, c.level_count.ensures)) c.requires.others

pub keep-requires-clause-before : goal.keep-requires-clause-before
keep-requires-clause-before c =
    let net = c.args.structure.now in
    but_long net c.args.states.now.opened c.args.place c.find_spots.new.self (omega (arith, c.if-place-level_count.false, c.level_count.ensures))
    (still_but net c.args.states.now.opened c.args.place c.args.self.now c.find_spots.new.self c.in_ok-find_spots.ensures.levels c.requires.others)

pub returns-then-bus_count-count-clause-kept : goal.returns-then-bus_count-count-clause-kept
returns-then-bus_count-count-clause-kept c =
    let net = c.args.structure.now in
    still_made net _ c.keep.new.self c.args.place c.level-level.result.now c.opened_row-2.result.now c.level-level.ensures c.in_ok-keep.ensures.own c.in_ok-keep.ensures.others c.in_ok-keep.ensures.spots c.in_ok-keep.ensures.numbers
    (numbers_gone net c.find_spots.new.self _ refl refl c.take-numbers.ensures.after c.in_ok-find_spots.ensures.kept)

pub returns-then-bus_count-count-clause-every : goal.returns-then-bus_count-count-clause-every
returns-then-bus_count-count-clause-every c =
    let net = c.args.structure.now in
    all_kept net c.find_spots.new.self c.keep.new.self c.args.place c.level-level.result.now c.opened_row-2.result.now c.level-level.ensures c.in_ok-keep.ensures.own c.in_ok-keep.ensures.others c.args.states.now.opened c.opened_row-2.ensures
    (still_but net c.args.states.now.opened c.args.place c.args.self.now c.find_spots.new.self c.in_ok-find_spots.ensures.levels c.requires.others)

pub follow_numbers-requires-clause-kept : goal.follow_numbers-requires-clause-kept
follow_numbers-requires-clause-kept c =
    let net = c.args.structure.now in
    still_made net _ c.keep.new.self c.args.place c.level-level.result.now c.opened_row-2.result.now c.level-level.ensures c.in_ok-keep.ensures.own c.in_ok-keep.ensures.others c.in_ok-keep.ensures.spots c.in_ok-keep.ensures.numbers
    (numbers_gone net c.find_spots.new.self _ refl refl c.take-numbers.ensures.after c.in_ok-find_spots.ensures.kept)

pub follow_numbers-requires-clause-every : goal.follow_numbers-requires-clause-every
follow_numbers-requires-clause-every c =
    let net = c.args.structure.now in
    all_kept net c.find_spots.new.self c.keep.new.self c.args.place c.level-level.result.now c.opened_row-2.result.now c.level-level.ensures c.in_ok-keep.ensures.own c.in_ok-keep.ensures.others c.args.states.now.opened c.opened_row-2.ensures
    (still_but net c.args.states.now.opened c.args.place c.args.self.now c.find_spots.new.self c.in_ok-find_spots.ensures.levels c.requires.others)

pub returns-in-None-clause-kept : goal.returns-in-None-clause-kept
returns-in-None-clause-kept c =
    let net = c.args.structure.now in
    still_made net _ c.keep.new.self c.args.place c.level-level.result.now c.opened_row-2.result.now c.level-level.ensures c.in_ok-keep.ensures.own c.in_ok-keep.ensures.others c.in_ok-keep.ensures.spots c.in_ok-keep.ensures.numbers
    (numbers_gone net c.find_spots.new.self _ refl refl c.take-numbers.ensures.after c.in_ok-find_spots.ensures.kept)

pub returns-in-None-clause-every : goal.returns-in-None-clause-every
returns-in-None-clause-every c =
    let net = c.args.structure.now in
    all_kept net c.find_spots.new.self c.keep.new.self c.args.place c.level-level.result.now c.opened_row-2.result.now c.level-level.ensures c.in_ok-keep.ensures.own c.in_ok-keep.ensures.others c.args.states.now.opened c.opened_row-2.ensures
    (still_but net c.args.states.now.opened c.args.place c.args.self.now c.find_spots.new.self c.in_ok-find_spots.ensures.levels c.requires.others)

pub follow_numbers-requires-clause-numbers : goal.follow_numbers-requires-clause-numbers
follow_numbers-requires-clause-numbers c =
    let net = c.args.structure.now in
    record {
      before = c.find_spots.new.self;
      were = subst (λ (o : Option Numbers). IfSome o (AreNumbersOf net c.find_spots.new.self)) (sym c.in-Some.ensures.value) c.in_ok-find_spots.ensures.kept.numbered;
      others = c.in_ok-keep.ensures.others;
      as_many = λ one other at_one at_other. omega (arith, c.bus_count-count.ensures one at_one, c.bus_count.ensures other at_other, c.if-bus_count-count.false);
    }

pub follow_numbers-requires-clause-spots : goal.follow_numbers-requires-clause-spots
follow_numbers-requires-clause-spots c = rw c.in_ok-keep.ensures.spots c.in_ok-find_spots.ensures.found

pub follow_numbers-requires-clause-inside : goal.follow_numbers-requires-clause-inside
follow_numbers-requires-clause-inside c = omega (arith, c.if-place-level_count.false, c.level_count.ensures)
