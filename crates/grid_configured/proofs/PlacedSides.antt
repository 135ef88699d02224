-- The ends of lines stand in the levels of a network in node/breaker form where the lines' records say, and no others do.
use Rattle.std.proofs.Common.{◌≡◌, refl, sym, ap, ◌∙◌, subst, ℕ, Bool, true, false, cond, ◌||◌, List, [], ◌∷◌, ◌++◌, get_or, inl, inr}
use Rattle.std.specs.Prelude.{Some, map, filter, find, flat_map, All}
use Rattle.std.proofs.lemmas.Bool.{and_from, or_cases, or_left, or_right, false≢true}
use Rattle.std.proofs.lemmas.List.Elements.{All-head, All-tail}
use Rattle.std.proofs.lemmas.Option.{slice_get-get_or}
use Rattle.grid_lemmas.proofs.Lists.{map_twice}
use Rattle.grid_ids.specs.Name.{same_id}
use Rattle.grid_structure.specs.Sites.{levels}
use Rattle.grid_structure.specs.Soundness.{record_sides, placed_sides, same_side, all_among}
use Rattle.grid_structure.proofs.Sides.{Side, has, has-append, has_among, same_side_is, is_same_side, each_itself, sides_of, sides_in, placed_itself}
use Rattle.grid_paths.proofs.Least.{some_none}
use Rattle.grid_json.specs.declared.buses.BusEnd.{BusEnd}
use Rattle.grid_configured.specs.declared.network.ConfiguredLine.{ConfiguredLine}
use Rattle.grid_configured.specs.declared.network.ConfiguredLevel.{ConfiguredLevel}
use Rattle.grid_configured.specs.declared.network.ConfiguredNetwork.{ConfiguredNetwork}
use Rattle.grid_configured.specs.Checks as checks
use Rattle.grid_configured.specs.Checks.{each_check, level_ids, ids_of, line_check}
use Rattle.grid_placed.specs.Translation.{translated_level}
use Rattle.grid_configured.specs.Levels.{placed_level, placed_levels}
use Rattle.grid_configured.specs.Translation.{node_in, translated}
use Rattle.grid_configured.proofs.Locations.{levels_are}
use Rattle.grid_configured.proofs.FaultlessNetworks.{NetworkRight}
use Rattle.grid_configured.proofs.RightParts.{each_right, EndStands, LineStands, line_stands}
use Rattle.grid_configured.proofs.PlainNetworks.{same_back}
use Rattle.grid_configured.proofs.TerminalCounts.{shape}
use Rattle.grid_configured.proofs.LineSides.{end_side, line_sides, records_are, level_sides}

-- the sides in each of some levels
abbrev by_level : List Side → List ConfiguredLevel → List Side
by_level sides ls = flat_map (λ (l : ConfiguredLevel). filter (λ (x : Side). same_id l.id x.2) sides) ls

filter_has : (p : Side → Bool) (xs : List Side) (x : Side) → has (filter p xs) x ≡ true → has xs x ≡ true
filter_has p [] x h = h
filter_has p (y ∷ xs) x h = by (filter_has p xs x) (p y) h
  where
    by : (has (filter p xs) x ≡ true → has xs x ≡ true) → (t : Bool) → has (cond t (y ∷ filter p xs) (filter p xs)) x ≡ true → has (y ∷ xs) x ≡ true
    by again true e = elim (or_cases (same_side x y) (has (filter p xs) x) e) [ inl f ↦ or_left (same_side x y) (has xs x) f | inr f ↦ or_right (same_side x y) (has xs x) (again f) ]
    by again false e = or_right (same_side x y) (has xs x) (again e)

has_filter : (p : Side → Bool) (xs : List Side) (x : Side) → p x ≡ true → has xs x ≡ true → has (filter p xs) x ≡ true
has_filter p [] x own h = h
has_filter p (y ∷ xs) x own h = elim (or_cases (same_side x y) (has xs x) h) [
  | inl e ↦ (let kept : p y ≡ true = ap p (sym (same_side_is x y e)) ∙ own in ap (λ t. has (cond t (y ∷ filter p xs) (filter p xs)) x) kept ∙ or_left (same_side x y) (has (filter p xs) x) e)
  | inr e ↦ by (p y) (has_filter p xs x own e)
]
  where
    by : (t : Bool) → has (filter p xs) x ≡ true → has (cond t (y ∷ filter p xs) (filter p xs)) x ≡ true
    by true e = or_right (same_side x y) (has (filter p xs) x) e
    by false e = e

by_level_has : (sides : List Side) (ls : List ConfiguredLevel) (x : Side) → has (by_level sides ls) x ≡ true → has sides x ≡ true
by_level_has sides [] x h = absurd (false≢true h)
by_level_has sides (l ∷ ls) x h = elim (or_cases (has (filter (λ (x : Side). same_id l.id x.2) sides) x) (has (by_level sides ls) x) (sym (has-append (filter (λ (x : Side). same_id l.id x.2) sides) (by_level sides ls) x) ∙ h)) [
  | inl e ↦ filter_has (λ (x : Side). same_id l.id x.2) sides x e
  | inr e ↦ by_level_has sides ls x e
]

has_by_level : (sides : List Side) (ls : List ConfiguredLevel) (x : Side) (m : ConfiguredLevel) → find (λ (w : ConfiguredLevel). same_id x.2 w.id) ls ≡ Some m → has sides x ≡ true → has (by_level sides ls) x ≡ true
has_by_level sides [] x m found h = absurd (some_none m found)
has_by_level sides (l ∷ ls) x m found h = has-append own (by_level sides ls) x ∙ by (λ f. has_by_level sides ls x m f h) (same_id x.2 l.id) refl found
  where
    own : List Side
    own = filter (λ (x : Side). same_id l.id x.2) sides

    by : (find (λ (w : ConfiguredLevel). same_id x.2 w.id) ls ≡ Some m → has (by_level sides ls) x ≡ true) → (t : Bool) → same_id x.2 l.id ≡ t → cond t (Some l) (find (λ (w : ConfiguredLevel). same_id x.2 w.id) ls) ≡ Some m → (has own x || has (by_level sides ls) x) ≡ true
    by again true e f = or_left (has own x) (has (by_level sides ls) x) (has_filter (λ (x : Side). same_id l.id x.2) sides x (same_back l.id x.2 ∙ e) h)
    by again false e f = or_right (has own x) (has (by_level sides ls) x) (again f)

-- the level of a side is there
record Leveled (ls : List ConfiguredLevel) (id : List ℕ) : Type 0 where
  level : ConfiguredLevel
  found : checks.level_of ls id ≡ Some level

leveled : (ls : List ConfiguredLevel) (e : BusEnd) → EndStands ls e → Leveled ls e.level
leveled ls e stands = record { level = stands.level; found = stands.found }

module _ (n : ConfiguredNetwork) (right : NetworkRight n) where
  side_level : (lines : List ConfiguredLine) (x : Side) → All (LineStands n.levels) lines → has (line_sides n lines) x ≡ true → Leveled n.levels x.2
  side_level [] x ends h = absurd (false≢true h)
  side_level (line ∷ lines) x ends h =
      let own = All-head (LineStands n.levels) line lines ends in
      let P : Side → Type 0 = λ z. Leveled n.levels z.2 in
      elim (or_cases (same_side x (end_side n line.id 1 line.end1)) (same_side x (end_side n line.id 2 line.end2) || has (line_sides n lines) x) h) [
        | inl e ↦ subst P (sym (same_side_is x (end_side n line.id 1 line.end1) e)) (leveled n.levels line.end1 own.first)
        | inr f ↦ elim (or_cases (same_side x (end_side n line.id 2 line.end2)) (has (line_sides n lines) x) f) [
          | inl e ↦ subst P (sym (same_side_is x (end_side n line.id 2 line.end2) e)) (leveled n.levels line.end2 own.second)
          | inr e ↦ side_level lines x (All-tail (LineStands n.levels) line lines ends) e
        ]
      ]

  records_itself : (lines : List ConfiguredLine) → each_itself (line_sides n lines) ≡ true
  records_itself [] = refl
  records_itself (line ∷ lines) =
      and_from _ _ (is_same_side line.id 1 line.end1.level (node_in n line.end1.level line.id 1)) (and_from _ _ (is_same_side line.id 2 line.end2.level (node_in n line.end2.level line.id 2)) (records_itself lines))

  placed_from : (ls : List ConfiguredLevel) → All (λ l. sides_of (shape n l) ≡ filter (λ (x : Side). same_id l.id x.2) (line_sides n n.lines)) ls → sides_in (map (shape n) ls) ≡ by_level (line_sides n n.lines) ls
  placed_from [] h = refl
  placed_from (l ∷ ls) h =
      let P : ConfiguredLevel → Type 0 = λ l. sides_of (shape n l) ≡ filter (λ (x : Side). same_id l.id x.2) (line_sides n n.lines) in
      ap (λ z. z ++ sides_in (map (shape n) ls)) (All-head P l ls h) ∙ ap (λ z. filter (λ (x : Side). same_id l.id x.2) (line_sides n n.lines) ++ z) (placed_from ls (All-tail P l ls h))

  placed_are : placed_sides (translated n) ≡ by_level (line_sides n n.lines) n.levels
  unfolding placed_sides placed_levels
  placed_are =
      ap sides_in (levels_are n ∙ map_twice translated_level (placed_level n) n.levels)
      ∙ placed_from n.levels (λ i d less. level_sides n right i (get_or n.levels i d) (slice_get-get_or n.levels i d less))

  pub records_placed : all_among (record_sides (translated n)) (placed_sides (translated n)) ≡ true
  unfolding checks.level_of
  records_placed =
      let ends = each_right (line_check n.levels) (LineStands n.levels) (line_stands n.levels) [] 0 n.lines right.lines in
      let among = has_among (line_sides n n.lines) (by_level (line_sides n n.lines) n.levels) (records_itself n.lines)
      (λ x h. let at = side_level n.lines x ends h in has_by_level (line_sides n n.lines) n.levels x at.level at.found h) in
      ap (λ z. all_among z (placed_sides (translated n))) (records_are n) ∙ ap (all_among (line_sides n n.lines)) placed_are ∙ among

  pub placed_recorded : all_among (placed_sides (translated n)) (record_sides (translated n)) ≡ true
  unfolding placed_sides
  placed_recorded =
      has_among (placed_sides (translated n)) (record_sides (translated n)) (placed_itself (levels (translated n)))
      (λ x h. ap (λ z. has z x) (records_are n) ∙ by_level_has (line_sides n n.lines) n.levels x (ap (λ z. has z x) (sym placed_are) ∙ h))
