use Rattle.std.proofs.Common.{◌≡◌, sym, ap, ◌∙◌, subst, ◌<◌, length, Result, Ok, Err}
use Rattle.std.specs.Prelude.{OnOk}
use Rattle.std.proofs.lemmas.Bool.{false≢true, eqb-true}
use Rattle.grid_islands.specs.Spots.{is_in}
use Rattle.grid_islands.specs.LevelEnds.{HasEnd}
use Rattle.grid_islands.proofs.LinkedEnds.{same_more}
use Rattle.grid_islands.proofs.level_ends.LevelEnds.add_spot.Goals as goal

then_ok : {A E : Type 0} (r : Result A E) (P Q : Type 0) → OnOk r P → (P → Q) → OnOk r Q
then_ok (Ok x) P Q h f = f h
then_ok (Err e) P Q h f = h

pub returns-in-Some-clause-there : goal.returns-in-Some-clause-there
unfolding is_in
returns-in-Some-clause-there c =
    then_ok c.add.result _ _ c.add.ensures.there
    (λ has level lt same. (let e : c.in-Some.spot.level ≡ level = eqb-true c.in-Some.spot.level level (sym (ap (is_in level) c.in-Some.is) ∙ same) in
    subst (λ z. HasEnd c.add.new.self z c.args.branch) e (has (subst (λ z. z < length c.args.self.now.lasts) (sym e) lt))))

pub returns-in-None-clause-more : goal.returns-in-None-clause-more
returns-in-None-clause-more c = same_more c.args.self.now c.args.branch c.requires

pub returns-in-None-clause-there : goal.returns-in-None-clause-there
unfolding is_in
returns-in-None-clause-there c level lt same = absurd (false≢true (sym (ap (is_in level) c.in-None.is) ∙ same))
