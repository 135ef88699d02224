-- What one equipment adds to a sum, and what the others add.
use Rattle.std.proofs.Common.{◌≡◌, refl, sym, ap, ◌∙◌, ℕ, ℤ, pos, ◌+◌, ◌≤◌, Bool, true, false, cond, not, ◌&&◌, List, [], ◌∷◌, arith, Some}
use Rattle.std.specs.Prelude.{◌+ℤ◌, map, filter, find}
use Rattle.std.proofs.lemmas.Bool.{false≢true}
use Rattle.std.proofs.lemmas.Int.{ints}
use Rattle.grid_ids.specs.Name.{same_id}
use Rattle.grid_level.specs.declared.Placed.{Placed}
use Rattle.grid_level.specs.declared.Stand.{Stand}
use Rattle.grid_level.specs.declared.Stand.TheVariants.{Busbar, Feeder, BranchEnd}
use Rattle.grid_level.specs.Passing.{is_branch_end}
use Rattle.grid_busview.specs.Views.{is_load, is_generation}
use Rattle.grid_structure.proofs.Counts.{times}
use Rattle.grid_structure.proofs.OneLevel.{names_of}
use Rattle.grid_powers.specs.Listed.{Listed}
use Rattle.grid_watts.specs.Watts.{watts_at, watts_for, is_powered, powered_by}
use Rattle.grid_watts.specs.Shares.{Part, share, own_part}
use Rattle.grid_watts.proofs.TerminalSums.{summed, adds}

-- no watts add nothing
abbrev pub IsPart : Part → Type 0
IsPart part = (s : Stand) → part s (pos 0) ≡ pos 0

pub share_is_part : (test : Stand → Bool) → IsPart (share test)
unfolding share
share_is_part test s = by (test s)
  where
    by : (t : Bool) → cond t (pos 0) (pos 0) ≡ pos 0
    by true = refl
    by false = refl

pub branch_end_is_none : (s : Stand) → is_branch_end s ≡ true → is_powered s ≡ false
unfolding is_branch_end is_powered is_load is_generation
branch_end_is_none Busbar h = absurd (false≢true h)
branch_end_is_none (Feeder item) h = absurd (false≢true h)
branch_end_is_none BranchEnd h = refl

pub unpowered_watts : (listed : Listed) (id : List ℕ) (s : Stand) → is_powered s ≡ false → watts_for listed id s ≡ pos 0
unfolding watts_for
unpowered_watts listed id s none = rw none refl

pub unpowered_adds : (part : Part) (listed : Listed) (p : Placed) → IsPart part → is_powered p.stand ≡ false → adds part listed p ≡ pos 0
unfolding watts_at
unpowered_adds part listed p only none = ap (part p.stand) (unpowered_watts listed p.terminal.equipment p.stand none) ∙ only p.stand

-- ---- what one equipment adds

abbrev pub owned : (Placed → ℤ) → List ℕ → List Placed → ℤ
owned f id [] = pos 0
owned f id (p ∷ ps) = cond (same_id id p.terminal.equipment) (f p) (pos 0) +ℤ owned f id ps

abbrev pub others : List ℕ → List Placed → List Placed
others id ps = filter (λ (p : Placed). not (same_id id p.terminal.equipment)) ps

pub split : (f : Placed → ℤ) (id : List ℕ) (ps : List Placed) → summed f ps ≡ owned f id ps +ℤ summed f (others id ps)
split f id [] = refl
split f id (p ∷ ps) = by (same_id id p.terminal.equipment) (split f id ps)
  where
    by : (t : Bool) → summed f ps ≡ owned f id ps +ℤ summed f (others id ps)
        → f p +ℤ summed f ps ≡ (cond t (f p) (pos 0) +ℤ owned f id ps) +ℤ summed f (cond (not t) (p ∷ others id ps) (others id ps))
    by true again = omega (arith, ints, again)
    by false again = omega (arith, ints, again)

pub others_alike : (f g : Placed → ℤ) (id : List ℕ) (ps : List Placed) → ((p : Placed) → same_id id p.terminal.equipment ≡ false → f p ≡ g p) → summed f (others id ps) ≡ summed g (others id ps)
others_alike f g id [] e = refl
others_alike f g id (p ∷ ps) e = by (same_id id p.terminal.equipment) refl (others_alike f g id ps e)
  where
    by : (t : Bool) → same_id id p.terminal.equipment ≡ t → summed f (others id ps) ≡ summed g (others id ps)
        → summed f (cond (not t) (p ∷ others id ps) (others id ps)) ≡ summed g (cond (not t) (p ∷ others id ps) (others id ps))
    by true h again = again
    by false h again = omega (arith, ints, again, e p h)

-- how often an id stands among the singles, one terminal more
pub count_more : (id : List ℕ) (p : Placed) (ps : List Placed)
    → times id (names_of (p ∷ ps)) ≡ cond (is_branch_end p.stand) 0 (cond (same_id id p.terminal.equipment) 1 0) + times id (names_of ps)
count_more id p ps = by (is_branch_end p.stand)
  where
    rest : List Placed
    rest = filter (λ (q : Placed). not (is_branch_end q.stand)) ps

    by : (b : Bool) → times id (map (λ (q : Placed). q.terminal.equipment) (cond (not b) (p ∷ rest) rest)) ≡ cond b 0 (cond (same_id id p.terminal.equipment) 1 0) + times id (names_of ps)
    by true = omega arith
    by false = refl

-- an id that no single stands under adds nothing
pub owned_none : (part : Part) (listed : Listed) (id : List ℕ) (ps : List Placed) → IsPart part → times id (names_of ps) ≡ 0 → owned (adds part listed) id ps ≡ pos 0
owned_none part listed id [] only none = refl
owned_none part listed id (p ∷ ps) only none = by (same_id id p.terminal.equipment) (is_branch_end p.stand) refl (sym (count_more id p ps) ∙ none) (owned_none part listed id ps only)
  where
    by : (t b : Bool) → is_branch_end p.stand ≡ b → cond b 0 (cond t 1 0) + times id (names_of ps) ≡ 0
        → (times id (names_of ps) ≡ 0 → owned (adds part listed) id ps ≡ pos 0)
        → cond t (adds part listed p) (pos 0) +ℤ owned (adds part listed) id ps ≡ pos 0
    by true true h none again = omega (arith, ints, again (omega (arith, none)), unpowered_adds part listed p only (branch_end_is_none p.stand h))
    by true false h none again = absurd (omega (arith, none))
    by false true h none again = omega (arith, ints, again (omega (arith, none)))
    by false false h none again = omega (arith, ints, again (omega (arith, none)))

-- the one that is found adds all that its id adds
pub owned_found : (part : Part) (listed : Listed) (id : List ℕ) (ps : List Placed) → IsPart part → times id (names_of ps) ≤ 1
    → owned (adds part listed) id ps ≡ own_part part listed (find (powered_by id) ps)
unfolding own_part
owned_found part listed id [] only once = refl
owned_found part listed id (p ∷ ps) only once =
    by (same_id id p.terminal.equipment) (is_powered p.stand) (is_branch_end p.stand) refl refl (rw (count_more id p ps) at once) (owned_found part listed id ps only)
  where
    by : (t w b : Bool) → is_powered p.stand ≡ w → is_branch_end p.stand ≡ b → cond b 0 (cond t 1 0) + times id (names_of ps) ≤ 1
        → (times id (names_of ps) ≤ 1 → owned (adds part listed) id ps ≡ own_part part listed (find (powered_by id) ps))
        → cond t (adds part listed p) (pos 0) +ℤ owned (adds part listed) id ps ≡ own_part part listed (cond (t && w) (Some p) (find (powered_by id) ps))
    by true true true h k once again = absurd (false≢true (sym (branch_end_is_none p.stand k) ∙ h))
    by true true false h k once again = omega (arith, ints, owned_none part listed id ps only (omega (arith, once)))
    by true false true h k once again = omega (arith, ints, again (omega (arith, once)), unpowered_adds part listed p only h)
    by true false false h k once again = omega (arith, ints, again (omega (arith, once)), unpowered_adds part listed p only h)
    by false w true h k once again = omega (arith, ints, again (omega (arith, once)))
    by false w false h k once again = omega (arith, ints, again (omega (arith, once)))
