-- The names of a network's buses, and the lines that are written of them.
use Rattle.std.proofs.Common.{◌≡◌, refl, sym, ap, ◌∙◌, ℕ, ◌+◌, ◌<◌, ◌≤◌, Bool, List, [], ◌∷◌, ◌++◌, length, get_or, map, take, arith}
use Rattle.std.specs.Prelude.{flat_map, zip, All}
use Rattle.std.specs.List.{enumerate_from, range_with_len}
use Rattle.std.proofs.lemmas.Grind.{flat_map-append}
use Rattle.std.proofs.lemmas.List.{append-nil, take_more, map-append}
use Rattle.std.proofs.lemmas.List.Elements.{All-nil, All-cons, All-append}
use Rattle.grid_graph.specs.Components.{places}
use Rattle.grid_level.specs.VoltageLevel.{VoltageLevel}
use Rattle.grid_level.specs.Passing.{positioned}
use Rattle.grid_structure.specs.Network.{Network}
use Rattle.grid_structure.specs.Sites.{levels}
use Rattle.grid_busview.specs.declared.ViewBus.{ViewBus}
use Rattle.grid_busview.specs.Views.{record_watts, bus_of, bus_leasts}
use Rattle.grid_states.specs.Rows.{row_at}
use Rattle.grid_islands.specs.Islands.{NetworkBus, buses_at, network_buses}
use Rattle.grid_islands.specs.Numbering.{standing}
use Rattle.grid_islands.proofs.BusPlaces.{buses_as}
use Rattle.grid_hvdc.specs.declared.buses.BusName.{BusName}
use Rattle.grid_hvdc.specs.Names.{name_at, level_names, bus_names}

-- what is made of one item more
pub gathered_next : {X Y : Type 0} (f : X → List Y) (xs : List X) (i : ℕ) (x : X) (now : List Y) → i < length xs → x ≡ get_or xs i x → now ≡ flat_map f (take i xs) → now ++ f x ≡ flat_map f (take (i + 1) xs)
gathered_next f xs i x now lt at so_far =
    ap (λ z. z ++ f x) so_far ∙ ap (λ z. flat_map f (take i xs) ++ z) (sym (append-nil (f x)))
    ∙ sym (ap (flat_map f) (take_more xs i x lt ∙ ap (λ z. take i xs ++ z ∷ []) (sym at)) ∙ flat_map-append f (take i xs) (x ∷ []))

-- ---- names by the buses

abbrev pub name_of : NetworkBus → BusName
name_of bus = name_at bus.0 bus.1.least

named_of : (k : ℕ) (made : ℕ → ViewBus) → ((least : ℕ) → (made least).least ≡ least) → (leasts : List ℕ) → map (name_at k) leasts ≡ map name_of (map (λ b. (k, b)) (map made leasts))
named_of k made same [] = refl
named_of k made same (least ∷ leasts) = ap (λ z. name_at k z ∷ map (name_at k) leasts) (sym (same least)) ∙ ap (λ z. name_at k (made least).least ∷ z) (named_of k made same leasts)

gathered_by : {X Y Z : Type 0} (f : X → List Z) (g : X → List Y) (h : Y → Z) → ((x : X) → f x ≡ map h (g x)) → (xs : List X) → flat_map f xs ≡ map h (flat_map g xs)
gathered_by f g h e [] = refl
gathered_by f g h e (x ∷ xs) = ap (λ z. z ++ flat_map f xs) (e x) ∙ ap (λ z. map h (g x) ++ z) (gathered_by f g h e xs) ∙ sym (map-append h (g x) (flat_map g xs))

module _ (opened retained : List (List Bool)) where
  level_as : (at : ℕ × VoltageLevel) → level_names opened at ≡ map name_of (buses_at opened retained at)
  unfolding level_names buses_at standing bus_of
  level_as at =
      let here = positioned at.1 (row_at opened at.0) in
      named_of at.0 (bus_of here (record_watts at.1)) (λ least. refl) (bus_leasts here)
      ∙ ap (λ z. map name_of (map (λ b. (at.0, b)) z)) (sym (buses_as at.1 (row_at opened at.0) (row_at retained at.0)))

  pub names_as : (net : Network) → bus_names net opened ≡ map name_of (network_buses net opened retained)
  unfolding bus_names network_buses
  names_as net = gathered_by (level_names opened) (buses_at opened retained) name_of level_as (enumerate_from 0 (levels net))

-- ---- the levels of the buses are there

in_level : (bound k : ℕ) (leasts : List ℕ) → k < bound → All (λ (name : BusName). name.level < bound) (map (name_at k) leasts)
in_level bound k [] lt = All-nil (λ (name : BusName). name.level < bound)
in_level bound k (least ∷ leasts) lt = All-cons (λ (name : BusName). name.level < bound) (name_at k least) (map (name_at k) leasts) lt (in_level bound k leasts lt)

in_levels : (opened : List (List Bool)) (bound low : ℕ) (ls : List VoltageLevel) → low + length ls ≤ bound → All (λ (name : BusName). name.level < bound) (flat_map (level_names opened) (enumerate_from low ls))
unfolding level_names
in_levels opened bound low [] le = All-nil (λ (name : BusName). name.level < bound)
in_levels opened bound low (l ∷ ls) le =
    All-append (λ (name : BusName). name.level < bound) (level_names opened (low, l)) (flat_map (level_names opened) (enumerate_from (low + 1) ls))
    (in_level bound low (bus_leasts (standing opened (low, l))) (omega arith)) (in_levels opened bound (low + 1) ls (omega arith))

pub levels_there : (net : Network) (opened : List (List Bool)) → All (λ (name : BusName). name.level < length (levels net)) (bus_names net opened)
unfolding bus_names
levels_there net opened = in_levels opened (length (levels net)) 0 (levels net) (omega arith)

-- ---- lines

lines_from : {X Y Z W : Type 0} (f : X → Y) (g : ℕ → Z) (h : Y × Z → List W) (n : ℕ) (xs : List X) → flat_map h (zip (map f xs) (map g (range_with_len n (length xs)))) ≡ flat_map (λ b. h (f b.1, g b.0)) (enumerate_from n xs)
lines_from f g h n [] = refl
lines_from f g h n (x ∷ xs) = ap (λ z. h (f x, g n) ++ z) (lines_from f g h (n + 1) xs)

pub lines_alike : {X Y Z W : Type 0} (f : X → Y) (g : ℕ → Z) (h : Y × Z → List W) (xs : List X) → flat_map h (zip (map f xs) (map g (places (length xs)))) ≡ flat_map (λ b. h (f b.1, g b.0)) (enumerate_from 0 xs)
unfolding places
lines_alike f g h xs = lines_from f g h 0 xs
