-- What edits and set values make of the sums.
use Rattle.std.proofs.Common.{◌≡◌, sym, ap, ◌∙◌, ℕ, ℤ, pos, ◌≤◌, List, ◌∷◌, ◌++◌, arith, Some}
use Rattle.std.specs.Prelude.{◌+ℤ◌}
use Rattle.std.proofs.lemmas.Int.{ints}
use Rattle.std.proofs.lemmas.Grind.{flat_map-append}
use Rattle.grid_level.specs.declared.Placed.{Placed}
use Rattle.grid_level.specs.VoltageLevel.{VoltageLevel}
use Rattle.grid_level.specs.LevelEdits.{with_placed}
use Rattle.grid_level.proofs.PlacedTerminals as placing
use Rattle.grid_structure.specs.Network.{Network}
use Rattle.grid_structure.specs.Sites.{levels, level_named, all_ids}
use Rattle.grid_structure.specs.Editing.{with_level}
use Rattle.grid_structure.proofs.Counts.{times}
use Rattle.grid_structure.proofs.Frames.{put_level}
use Rattle.grid_powers.specs.Listed.{Listed}
use Rattle.grid_watts.specs.Shares.{Part}
use Rattle.grid_watts.proofs.TerminalSums.{summed, summed-append, adds, all_placed, over, whole}

pub over-append : (part : Part) (listed : Listed) (xs ys : List VoltageLevel) → over part listed (xs ++ ys) ≡ over part listed xs +ℤ over part listed ys
over-append part listed xs ys = ap (summed (adds part listed)) (flat_map-append (λ (l : VoltageLevel). l.placed) xs ys) ∙ summed-append (adds part listed) (all_placed xs) (all_placed ys)

-- one level in the place of another
pub over_put : (part : Part) (listed : Listed) (before after : List VoltageLevel) (old new : VoltageLevel) (more : ℤ)
    → summed (adds part listed) new.placed ≡ summed (adds part listed) old.placed +ℤ more
    → over part listed (before ++ new ∷ after) ≡ over part listed (before ++ old ∷ after) +ℤ more
over_put part listed before after old new more e =
    let f = adds part listed in
    let a : over part listed (before ++ new ∷ after) ≡ over part listed before +ℤ over part listed (new ∷ after) = over-append part listed before (new ∷ after) in
    let b : over part listed (before ++ old ∷ after) ≡ over part listed before +ℤ over part listed (old ∷ after) = over-append part listed before (old ∷ after) in
    let c : over part listed (new ∷ after) ≡ summed f new.placed +ℤ over part listed after = summed-append f new.placed (all_placed after) in
    let d : over part listed (old ∷ after) ≡ summed f old.placed +ℤ over part listed after = summed-append f old.placed (all_placed after) in
    omega (arith, ints, a, b, c, d, e)

pub total_put : (part : Part) (net : Network) (listed : Listed) (id : List ℕ) (new old : VoltageLevel) (more : ℤ) → ((q : List ℕ) → times q (all_ids net) ≤ 1)
    → level_named net id ≡ Some old → new.id ≡ old.id → summed (adds part listed) new.placed ≡ summed (adds part listed) old.placed +ℤ more
    → whole part (with_level new net) listed ≡ whole part net listed +ℤ more
total_put part net listed id new old more ids found same e =
    let p = put_level net id new old ids found same in
    ap (over part listed) p.is ∙ over_put part listed p.before p.after old new more e ∙ ap (λ ls. over part listed ls +ℤ more) (sym p.was)

pub same_levels : (part : Part) (net new : Network) (listed : Listed) → all_placed (levels new) ≡ all_placed (levels net) → whole part new listed ≡ whole part net listed +ℤ pos 0
same_levels part net new listed e =
    let a : whole part new listed ≡ whole part net listed = ap (summed (adds part listed)) e in
    omega (arith, ints, a)

-- a placed terminal adds its own
pub placed_adds : (f : Placed → ℤ) (p : Placed) (ps : List Placed) → summed f (with_placed p ps) ≡ summed f ps +ℤ f p
placed_adds f p ps =
    let a : summed f (with_placed p ps) ≡ summed f (p ∷ ps) = placing.rearranged (summed f) (λ x y xs. omega (arith, ints)) (λ x xs ys e. omega (arith, ints, e)) p ps in
    omega (arith, ints, a)
