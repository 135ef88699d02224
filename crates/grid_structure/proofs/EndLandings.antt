-- What placing the ends of a branch leaves as it was in the flat list of levels, and where the ends are then found.
use Rattle.std.proofs.Common.{◌≡◌, refl, sym, ap, ◌∙◌, subst, ℕ, ℤ, zero, suc, ◌+◌, Bool, true, false, cond, not, ◌||◌, List, [], ◌∷◌, length, Option, Some, None}
use Rattle.std.specs.Prelude.{map, filter, position, slice_get, slice_set, ◌==◌, nat_lt, Ok}
use Rattle.std.specs.List.{list_any}
use Rattle.grid_lemmas.proofs.Lists.{length_map, position_map}
use Rattle.grid_ids.specs.Name.{same_id, has_id}
use Rattle.grid_ids.specs.Refusing.{found_or, map_fault}
use Rattle.grid_level.specs.declared.Placed.{Placed}
use Rattle.grid_level.specs.declared.Terminal.{Terminal}
use Rattle.grid_level.specs.declared.Switch.{Switch}
use Rattle.grid_level.specs.declared.Stand.TheVariants.{BranchEnd}
use Rattle.grid_level.specs.VoltageLevel.{VoltageLevel}
use Rattle.grid_level.specs.Passing.{is_branch_end, placed_at}
use Rattle.grid_level.specs.LevelEdits.{level_with_terminal, with_placed}
use Rattle.grid_level.proofs.LevelEdits as on_level
use Rattle.grid_level.proofs.PlacedTerminals.{placing, placed_in}
use Rattle.grid_structure.specs.declared.EditFault.TheVariants as faults
use Rattle.grid_structure.specs.declared.finding.Keyed.{Keyed}
use Rattle.grid_structure.specs.declared.branches.LevelFound.{LevelFound}
use Rattle.grid_structure.specs.declared.branches.LevelFound.TheVariants.{Nowhere, Elsewhere, At}
use Rattle.grid_structure.specs.declared.branches.Landing.{Landing}
use Rattle.grid_structure.specs.Editing.{edit_fault}
use Rattle.grid_structure.specs.Indexed.{has_switch, has_terminal}
use Rattle.grid_structure.specs.Landing.{landed_at, landed}
use Rattle.grid_structure.proofs.Frames.{singles_of, switch_total}
use Rattle.grid_structure.proofs.OneLevel.{found, fits}
use Rattle.grid_structure.proofs.Places.{position_set_same, position_set_new}
use Rattle.grid_structure.proofs.Found.{any-map}
use Rattle.grid_structure.proofs.Flat.{has_single}
use Rattle.grid_structure.proofs.Singles.{placed_others, has_placed}
use Rattle.std.proofs.lemmas.Option.{slice_get_within}

-- an end that was placed
pub record Lands (id : List ℕ) (spot : LevelFound) (side : ℕ) (ls after : List VoltageLevel) : Type 0 where
  pub keyed : Keyed
  pub spot_is : spot ≡ At keyed
  pub old : VoltageLevel
  pub at : slice_get ls keyed.place ≡ Some old
  pub item : Placed
  pub terminal : item.terminal ≡ record { equipment = id; side = side }
  pub stand : item.stand ≡ BranchEnd
  pub free : placed_at old item.node ≡ None
  pub is : slice_set ls keyed.place (placed_in old item) ≡ after

pub lands : (id : List ℕ) (spot : LevelFound) (node : ℤ) (side : ℕ) (ls after : List VoltageLevel) → landed_at id spot node side ls ≡ Ok after → Lands id spot side ls after
unfolding landed_at
lands id Nowhere node side ls after h = cc
lands id Elsewhere node side ls after h = cc
lands id (At keyed) node side ls after h =
    let t : Terminal = record { equipment = id; side = side } in
    let o = on_level.went (found_or (slice_get ls keyed.place) faults.NoLevel) _ after h in
    let w = on_level.went (map_fault edit_fault (level_with_terminal o.value node t BranchEnd)) _ after o.next in
    let k = placing o.value node t BranchEnd w.value (fits _ _ _ w.is) in
    let p : Placed = record { node = k.number; terminal = t; stand = BranchEnd } in
    let last : slice_set ls keyed.place w.value ≡ after = cc (w.next) in
    record {
      keyed = keyed;
      spot_is = refl;
      old = o.value;
      at = found _ _ _ o.is;
      item = p;
      terminal = refl;
      stand = refl;
      free = k.free;
      is = ap (slice_set ls keyed.place) k.is ∙ last;
    }

-- ---- what stays

pub record SameButEnds (these those : List VoltageLevel) : Type 0 where
  pub ids : map (λ (l : VoltageLevel). l.id) these ≡ map (λ (l : VoltageLevel). l.id) those
  pub switches : map (λ (l : VoltageLevel). l.switches) these ≡ map (λ (l : VoltageLevel). l.switches) those
  pub singles : map (λ (l : VoltageLevel). singles_of l) these ≡ map (λ (l : VoltageLevel). singles_of l) those

pub map_set : {X Y : Type 0} (f : X → Y) (xs : List X) (k : ℕ) (old new : X) → slice_get xs k ≡ Some old → f new ≡ f old → map f (slice_set xs k new) ≡ map f xs
map_set f [] k old new e h = cc
map_set f (x ∷ xs) zero old new e h = let same : x ≡ old = cc in ap (λ z. z ∷ map f xs) (h ∙ ap f (sym same))
map_set f (x ∷ xs) (suc k) old new e h = ap (λ z. f x ∷ z) (map_set f xs k old new e h)

singles_left : (p : Placed) (ps : List Placed) → p.stand ≡ BranchEnd → filter (λ (x : Placed). not (is_branch_end x.stand)) (with_placed p ps) ≡ filter (λ (x : Placed). not (is_branch_end x.stand)) ps
unfolding with_placed is_branch_end
singles_left p [] h = rw h refl
singles_left p (x ∷ xs) h = by (nat_lt x.node p.node) (not (is_branch_end x.stand)) refl (singles_left p xs h)
  where
    by : (t d : Bool) → not (is_branch_end x.stand) ≡ d → filter (λ (x : Placed). not (is_branch_end x.stand)) (with_placed p xs) ≡ filter (λ (x : Placed). not (is_branch_end x.stand)) xs
        → filter (λ (x : Placed). not (is_branch_end x.stand)) (cond t (x ∷ with_placed p xs) (p ∷ x ∷ xs)) ≡ filter (λ (x : Placed). not (is_branch_end x.stand)) (x ∷ xs)
    by true true e again = rw e (ap (λ z. x ∷ z) again)
    by true false e again = rw e again
    by false d e again = rw h refl

pub same_step : (id : List ℕ) (spot : LevelFound) (side : ℕ) (ls after : List VoltageLevel) → Lands id spot side ls after → SameButEnds after ls
same_step id spot side ls after w =
    let new = placed_in w.old w.item in
    let k = w.keyed.place in
    subst (λ (z : List VoltageLevel). SameButEnds z ls) w.is (record {
      ids = map_set (λ (l : VoltageLevel). l.id) ls k w.old new w.at refl;
      switches = map_set (λ (l : VoltageLevel). l.switches) ls k w.old new w.at refl;
      singles = map_set (λ (l : VoltageLevel). singles_of l) ls k w.old new w.at (ap (map (λ (p : Placed). p.terminal.equipment)) (singles_left w.item w.old.placed w.stand));
    })

pub same_over : (a b c : List VoltageLevel) → SameButEnds a b → SameButEnds b c → SameButEnds a c
same_over a b c s t = record { ids = s.ids ∙ t.ids; switches = s.switches ∙ t.switches; singles = s.singles ∙ t.singles }

pub same_all : (id : List ℕ) (landings : List Landing) (ls after : List VoltageLevel) → landed id landings ls ≡ Ok after → SameButEnds after ls
unfolding landed
same_all id [] ls after h = let e : ls ≡ after = cc in subst (λ (z : List VoltageLevel). SameButEnds z ls) e (record { ids = refl; switches = refl; singles = refl })
same_all id (l ∷ landings) ls after h =
    let w = on_level.went (landed_at id l.spot l.node l.side ls) _ after h in
    same_over after w.value ls (same_all id landings w.value after w.next) (same_step id l.spot l.side ls w.value (lands id l.spot l.node l.side ls w.value w.is))

pub same_length : (a b : List VoltageLevel) → SameButEnds a b → length a ≡ length b
same_length a b s = sym (length_map (λ (l : VoltageLevel). l.id) a) ∙ ap length s.ids ∙ length_map (λ (l : VoltageLevel). l.id) b

pub same_position : (a b : List VoltageLevel) (q : List ℕ) → SameButEnds a b → position (λ (l : VoltageLevel). same_id q l.id) a ≡ position (λ (l : VoltageLevel). same_id q l.id) b
same_position a b q s = sym (position_map (same_id q) (λ (l : VoltageLevel). l.id) a) ∙ ap (position (same_id q)) s.ids ∙ position_map (same_id q) (λ (l : VoltageLevel). l.id) b

pub same_switches : (a b : List VoltageLevel) (q : List ℕ) → SameButEnds a b → position (has_switch q) a ≡ position (has_switch q) b
unfolding has_switch has_id
same_switches a b q s =
    let t = λ (xs : List Switch). list_any (same_id q) (map (λ (s : Switch). s.id) xs) in
    sym (position_map t (λ (l : VoltageLevel). l.switches) a) ∙ ap (position t) s.switches ∙ position_map t (λ (l : VoltageLevel). l.switches) b

pub same_singles : (a b : List VoltageLevel) (q : List ℕ) → SameButEnds a b → list_any (has_single q) a ≡ list_any (has_single q) b
unfolding has_single
same_singles a b q s =
    sym (any-map (list_any (same_id q)) (λ (l : VoltageLevel). singles_of l) a) ∙ ap (list_any (list_any (same_id q))) s.singles ∙ any-map (list_any (same_id q)) (λ (l : VoltageLevel). singles_of l) b

count_all : List (List Switch) → ℕ
count_all [] = 0
count_all (xs ∷ rest) = length xs + count_all rest

total_by : (ls : List VoltageLevel) → switch_total ls ≡ count_all (map (λ (l : VoltageLevel). l.switches) ls)
unfolding count_all
total_by [] = refl
total_by (l ∷ ls) = ap (λ n. length l.switches + n) (total_by ls)

pub same_total : (a b : List VoltageLevel) → SameButEnds a b → switch_total a ≡ switch_total b
same_total a b s = total_by a ∙ ap count_all s.switches ∙ sym (total_by b)

-- ---- where the ends are found

pub others_step : (id : List ℕ) (spot : LevelFound) (side : ℕ) (ls after : List VoltageLevel) (q : List ℕ) (s : ℕ) → Lands id spot side ls after → same_id id q ≡ false → position (has_terminal q s) after ≡ position (has_terminal q s) ls
others_step id spot side ls after q s w h =
    let apart : same_id w.item.terminal.equipment q ≡ false = ap (λ (t : Terminal). same_id t.equipment q) w.terminal ∙ h in
    ap (position (has_terminal q s)) (sym w.is) ∙ position_set_same (has_terminal q s) ls w.keyed.place w.old (placed_in w.old w.item) w.at ((placed_others w.old w.item).terminals q s apart)

pub others_all : (id : List ℕ) (landings : List Landing) (ls after : List VoltageLevel) (q : List ℕ) (s : ℕ) → landed id landings ls ≡ Ok after → same_id id q ≡ false → position (has_terminal q s) after ≡ position (has_terminal q s) ls
unfolding landed
others_all id [] ls after q s h apart = let e : ls ≡ after = cc in ap (position (has_terminal q s)) (sym e)
others_all id (l ∷ landings) ls after q s h apart =
    let w = on_level.went (landed_at id l.spot l.node l.side ls) _ after h in
    others_all id landings w.value after q s w.next apart ∙ others_step id l.spot l.side ls w.value q s (lands id l.spot l.node l.side ls w.value w.is) apart

pub end_step : (id : List ℕ) (spot : LevelFound) (side : ℕ) (ls after : List VoltageLevel) (s : ℕ) (o : Option ℕ) (w : Lands id spot side ls after) → position (has_terminal id s) ls ≡ o → ((side == s) ≡ true → o ≡ None)
    → position (has_terminal id s) after ≡ cond (side == s) (Some w.keyed.place) o
end_step id spot side ls after s o w was none =
    let new = placed_in w.old w.item in
    let k = w.keyed.place in
    let owner : w.item.terminal.equipment ≡ id = ap (λ (t : Terminal). t.equipment) w.terminal in
    let has : has_terminal id s new ≡ (side == s) || has_terminal id s w.old =
    ap (λ z. has_terminal z s new) (sym owner) ∙ has_placed w.old w.item s ∙ ap (λ (t : Terminal). (t.side == s) || has_terminal w.item.terminal.equipment s w.old) w.terminal ∙ ap (λ z. (side == s) || has_terminal z s w.old) owner in
    ap (position (has_terminal id s)) (sym w.is) ∙ by (side == s) refl has
  where
    by : (t : Bool) → (side == s) ≡ t → has_terminal id s (placed_in w.old w.item) ≡ t || has_terminal id s w.old → position (has_terminal id s) (slice_set ls w.keyed.place (placed_in w.old w.item)) ≡ cond t (Some w.keyed.place) o
    by true e has = position_set_new (has_terminal id s) ls w.keyed.place (placed_in w.old w.item) (slice_get_within ls w.keyed.place w.old w.at) (was ∙ none e) has
    by false e has = position_set_same (has_terminal id s) ls w.keyed.place w.old (placed_in w.old w.item) w.at has ∙ was
