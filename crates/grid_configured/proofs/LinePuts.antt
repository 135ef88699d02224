-- What the lists of levels are where the ends of one line more are put into them.
use Rattle.std.proofs.Common.{◌≡◌, refl, sym, ap, ◌∙◌, subst, ℕ, pos, zero, suc, ◌+◌, ◌<◌, ◌≤◌, Bool, true, false, cond, ◌&&◌, List, [], ◌∷◌, ◌++◌, length, get_or, take, drop, Ok, append_assoc, arith}
use Rattle.std.specs.Prelude.{Option, Some, None, IfSome, option_map, map, flat_map, slice_get, slice_set, decimal, All, Result, ⊤}
use Rattle.std.specs.List.{list_any, list_all}
use Rattle.std.proofs.lemmas.Bool.{and_parts, and_from, eq-eqb}
use Rattle.std.proofs.lemmas.List.{append-nil, map-append, length-map, take_all, drop_all}
use Rattle.std.proofs.lemmas.List.Elements.{All-nil, All-cons}
use Rattle.std.proofs.lemmas.List.Concat.{flat_map-append}
use Rattle.grid_lemmas.proofs.Lists.{take_next, map_one_more, none_past}
use Rattle.grid_configured.specs.declared.line_lists.GrowingLevel.{GrowingLevel}
use Rattle.grid_configured.specs.declared.network.ConfiguredLine.{ConfiguredLine}
use Rattle.grid_configured.specs.declared.network.ConfiguredLevel.{ConfiguredLevel}
use Rattle.grid_configured.specs.declared.network.ConfiguredNetwork.{ConfiguredNetwork}
use Rattle.grid_configured.specs.Checks.{level_nodes, level_check, IsTranslatable}
use Rattle.grid_placed.specs.Places.{Outlet}
use Rattle.grid_configured.specs.Levels.{item_outlet, line_outlets, outlets}
use Rattle.grid_configured.specs.Levels.{placed_level}
use Rattle.grid_placed.specs.Translation.{translated_level}
use Rattle.grid_structure.specs.Lists.{substation_shown, network_shown}
use Rattle.grid_configured.specs.Names.{is_plain, level_plain, line_plain, network_plain}
use Rattle.grid_configured.specs.Partial.{LevelStands, level_with, growing, levels_with, housed}
use Rattle.grid_configured.specs.Translation.{substation_of, translated_line, translated}
use Rattle.grid_configured.proofs.PlainParts.{own_is_plain}
use Rattle.grid_configured.proofs.FaultlessNetworks.{network_right, level_stands}
use Rattle.grid_configured.proofs.RightParts.{each_right}
use Rattle.grid_configured.proofs.Limits.{level_kept, all_got}

pub stands_at : (n : ConfiguredNetwork) (k : ℕ) (l : ConfiguredLevel) → IsTranslatable n → slice_get n.levels k ≡ Some l → LevelStands l
stands_at n k l h at = all_got LevelStands n.levels k l (each_right level_check LevelStands level_stands [] 0 n.levels (network_right n h.1).levels) at

pub few_at : (n : ConfiguredNetwork) (k : ℕ) (l : ConfiguredLevel) → IsTranslatable n → slice_get n.levels k ≡ Some l → length l.buses + length l.items ≤ 1024
unfolding level_nodes
few_at n k l h at = let few = (level_kept n (network_right n h.1) k l at).nodes in omega (arith, few)

abbrev first : ConfiguredLevel → GrowingLevel
first m = growing m (map (item_outlet m) m.items)

pub firsts_more : (ls : List ConfiguredLevel) (i : ℕ) (l : ConfiguredLevel) → i < length ls → l ≡ get_or ls i l → map first (take (i + 1) ls) ≡ map first (take i ls) ++ first l ∷ []
firsts_more ls i l less is = ap (map first) (take_next ls i l less is) ∙ map-append first (take i ls) (l ∷ [])

-- at first no line has put an end anywhere
pub firsts_are : (n : ConfiguredNetwork) → map first n.levels ≡ levels_with n []
unfolding levels_with outlets
firsts_are n = from n.levels
  where
    from : (ls : List ConfiguredLevel) → map first ls ≡ map (λ l. growing l (map (item_outlet l) l.items ++ [])) ls
    from [] = refl
    from (l ∷ ls) = ap (λ z. growing l z ∷ map first ls) (sym (append-nil (map (item_outlet l) l.items))) ∙ ap (λ z. growing l (map (item_outlet l) l.items ++ []) ∷ z) (from ls)

pub firsts_done : (n : ConfiguredNetwork) (ls : List ConfiguredLevel) (made : List GrowingLevel) (k : ℕ) → ls ≡ n.levels → length ls ≤ k → made ≡ map first (take k ls) → made ≡ levels_with n []
firsts_done n ls made k same end is = is ∙ ap (map first) (take_all k ls end) ∙ ap (map first) same ∙ firsts_are n

-- ---- records of lines

pub line_made : {X Y : Type 0} (f : X → Y) (xs : List X) (k : ℕ) (y : Y) → k < length xs → IfSome (slice_get xs k) (λ x. y ≡ f x) → map f (take (k + 1) xs) ≡ map f (take k xs) ++ y ∷ []
line_made {X} {Y} f xs k y less is = map_one_more f xs k y (by (slice_get xs k) refl is)
  where
    by : (o : Option X) → slice_get xs k ≡ o → IfSome o (λ x. y ≡ f x) → option_map f o ≡ Some y
    by None e h = absurd (none_past xs k less e)
    by (Some x) e h = ap Some (sym h)

-- ---- the lists of a network

housed_from : (n : ConfiguredNetwork) (ls : List ConfiguredLevel) → map housed (map (λ l. growing l (outlets n l)) ls) ≡ map substation_shown (map (substation_of n) ls)
unfolding growing level_with substation_of placed_level translated_level
housed_from n [] = refl
housed_from n (l ∷ ls) = ap (λ z. substation_shown (substation_of n l) ∷ z) (housed_from n ls)

-- the levels with the ends of all lines, each in a substation of its own, and the lines
pub lists_are : (n : ConfiguredNetwork) → record { id = n.id; substations = map housed (levels_with n n.lines); lines = map (translated_line n) n.lines } ≡ network_shown (translated n)
unfolding levels_with translated
lists_are n = ap (λ z. record { id = n.id; substations = z; lines = map (translated_line n) n.lines }) (housed_from n n.levels)

plain_from : (n : ConfiguredNetwork) (ls : List ConfiguredLevel) → list_all level_plain ls ≡ true → All (λ (g : GrowingLevel). is_plain g.lists.id ≡ true) (map (λ l. growing l (outlets n l)) ls)
unfolding growing level_with translated_level
plain_from n [] h = All-nil (λ (g : GrowingLevel). is_plain g.lists.id ≡ true)
plain_from n (l ∷ ls) h =
    let parts = and_parts (level_plain l) (list_all level_plain ls) h in
    All-cons (λ (g : GrowingLevel). is_plain g.lists.id ≡ true) (growing l (outlets n l)) (map (λ l. growing l (outlets n l)) ls) (own_is_plain l parts.0) (plain_from n ls parts.1)

pub homes_plain : (n : ConfiguredNetwork) → IsTranslatable n → All (λ (g : GrowingLevel). is_plain g.lists.id ≡ true) (levels_with n n.lines)
unfolding levels_with network_plain
homes_plain n h =
    let one = and_parts (is_plain n.id && list_all level_plain n.levels) (list_all line_plain n.lines) h.0 in
    plain_from n n.levels (and_parts (is_plain n.id) (list_all level_plain n.levels) one.0).1

-- a vector of which all items were changed through a slice
pub whole : {X : Type 0} (len : ℕ) (new items : List X) → length new ≡ length items → len ≡ length items → take len (new ++ drop (length new) items) ≡ new
whole len new items same full =
    ap (λ z. take len (new ++ z)) (drop_all (length new) items (omega (arith, same))) ∙ ap (take len) (append-nil new) ∙ take_all len new (omega (arith, same, full))

pub levels_count : (n : ConfiguredNetwork) (lines : List ConfiguredLine) → length (levels_with n lines) ≡ length n.levels
unfolding levels_with
levels_count n lines = length-map n.levels (λ l. growing l (outlets (record n { lines = lines }) l))
