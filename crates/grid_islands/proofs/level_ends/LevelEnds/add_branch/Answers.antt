use Rattle.std.proofs.Common.{◌∙◌, inl, inr}
use Rattle.std.specs.Prelude.{◌||◌}
use Rattle.std.proofs.lemmas.Bool.{or_cases}
use Rattle.grid_islands.specs.Spots.{is_in, touches}
use Rattle.grid_islands.proofs.LinkedEnds.{more_trans, kept_end}
use Rattle.grid_islands.proofs.level_ends.LevelEnds.add_branch.Goals as goal

pub add_spot-requires-2 : goal.add_spot-requires-2
add_spot-requires-2 c = c.in_ok-add_spot.ensures.more.linked

pub add_spot-requires-3 : goal.add_spot-requires-3
add_spot-requires-3 c = c.in_ok-add_spot-2.ensures.more.linked

pub returns-clause-more : goal.returns-clause-more
returns-clause-more c =
    more_trans c.args.self.now c.add_spot-2.new.self c.add_spot-3.new.self c.args.place
    (more_trans c.args.self.now c.add_spot.new.self c.add_spot-2.new.self c.args.place c.in_ok-add_spot.ensures.more c.in_ok-add_spot-2.ensures.more) c.in_ok-add_spot-3.ensures.more

pub returns-clause-there : goal.returns-clause-there
unfolding touches
returns-clause-there c level lt on =
    let b = c.args.branch.now in
    let k = c.args.place in
    let one = c.in_ok-add_spot.ensures.more in
    let two = c.in_ok-add_spot-2.ensures.more in
    let three = c.in_ok-add_spot-3.ensures.more in
    elim (or_cases (is_in level b.first) (is_in level b.second || is_in level b.third) on) [
      | inl h ↦ kept_end c.add_spot-2.new.self c.add_spot-3.new.self k level k three (kept_end c.add_spot.new.self c.add_spot-2.new.self k level k two (c.in_ok-add_spot.ensures.there level lt h))
      | inr h ↦ elim (or_cases (is_in level b.second) (is_in level b.third) h) [
        | inl g ↦ kept_end c.add_spot-2.new.self c.add_spot-3.new.self k level k three (c.in_ok-add_spot-2.ensures.there level (rw one.long lt) g)
        | inr g ↦ c.in_ok-add_spot-3.ensures.there level (rw (two.long ∙ one.long) lt) g
      ]
    ]
