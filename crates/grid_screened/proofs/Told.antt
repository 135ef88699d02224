-- Different pairs of a name and a finding have different lines.
use Rattle.std.proofs.Common.{◌≡◌, refl, sym, ap, ◌∙◌, ℕ, ℤ, Bool, true, false, cond, List, [], ◌∷◌, ◌++◌, length, append_assoc, arith, inl, inr, Option, Some, None}
use Rattle.std.specs.Prelude.{◌+ℤ◌, neg_ℤ, codes, filter, flat_map, slice_get, ⊤}
use Rattle.std.specs.List.{enumerate_from}
use Rattle.std.specs.Option.{option_map}
use Rattle.std.proofs.lemmas.Int.{ints}
use Rattle.std.proofs.lemmas.Option.{slice_get_within}
use Rattle.grid_lemmas.proofs.Lists.{some_got}
use Rattle.grid_level.specs.declared.Switch.{Switch}
use Rattle.grid_level.specs.VoltageLevel.{VoltageLevel}
use Rattle.grid_level.specs.Passing.{positioned, with_opened}
use Rattle.grid_states.specs.Rows.{row_at}
use Rattle.grid_structure.specs.declared.SwitchAt.{SwitchAt}
use Rattle.grid_structure.specs.Network.{Network}
use Rattle.grid_structure.specs.Sites.{levels, find_switch, switch_spot}
use Rattle.grid_structure.specs.Soundness.{IsSound}
use Rattle.grid_json.specs.declared.format.Format.TheVariants as formats
use Rattle.grid_core.specs.Solo.{State, positioned_at}
use Rattle.grid_contingencies.specs.declared.FaultCase.{FaultCase}
use Rattle.grid_figures.specs.declared.Figures.{Figures}
use Rattle.grid_screen.specs.declared.Losses.{Losses}
use Rattle.grid_screen.specs.declared.Finding.{Finding}
use Rattle.grid_screen.specs.declared.Finding.TheVariants.{UnknownId, NoBreaker, Effect}
use Rattle.grid_screen.specs.Bodies.{told_line}
use Rattle.grid_screen.specs.Faults.{before_fault, trips, spots_that, tripped_in, tripped_from, tripped_of, in_zone, zone_of, switch_ids}
use Rattle.grid_screen.specs.Findings.{figures_of}
use Rattle.grid_screen.specs.Found.{first_of, first_amiss, first_no_breaker, stuck_amiss, losses_of, effect_of, effect_in, amiss_or, found_of, finding_of}
use Rattle.grid_screen.specs.Outages.{first_unknown, is_known}
use Rattle.grid_screened.specs.Said.{ids_of, said_of}
use Rattle.grid_outages.specs.Changes.{level_without}
use Rattle.grid_screen.specs.Texts.{screen_line, second_text}
use Rattle.grid_screened.specs.Laws.{LinesAreTold, PairsAreTold}
use Rattle.grid_screen.proofs.Clearings.{switch_read}
use Rattle.grid_outages.proofs.Members.{Among, flat_among, map_among, filter_among, enumerate_among}
use Rattle.grid_screen.proofs.Outcomes.{outcome}
use Rattle.grid_screen.proofs.SwitchPlaces.{switch_own}
use Rattle.grid_screen.proofs.WalkResults.{map_back}
use Rattle.grid_screened.proofs.FindingLines.{front_told, line_of, line_told}
use Rattle.grid_screen.proofs.BreakerTrips.{positioned_long}

-- ---- lines

line_is : (net : Network) (name : List ℕ) (f : Finding) → screen_line formats.Two net name f ≡ codes "contingency " ++ line_of net name f
unfolding screen_line
line_is net name f =
    let text = second_text net f in
    append_assoc ((codes "contingency " ++ name) ++ codes ": ") text (codes "\n") ∙ append_assoc (codes "contingency " ++ name) (codes ": ") (text ++ codes "\n") ∙ append_assoc (codes "contingency ") name (codes ": " ++ (text ++ codes "\n"))

pub lines_are_told : LinesAreTold
lines_are_told net other name also f g h k e =
    line_told net other name also f g h k (front_told (codes "contingency ") (line_of net name f) (line_of other also g) (sym (line_is net name f) ∙ e ∙ line_is other also g))

-- ---- breakers by their ids

-- a switch stands there
pub record IsSpot (net : Network) (at : SwitchAt) : Type 0 where
  pub level : VoltageLevel
  pub there : slice_get (levels net) at.level ≡ Some level
  pub switch : Switch
  pub is : slice_get level.switches at.place ≡ Some switch

abbrev AreSpots : Network → List SwitchAt → Type 0
AreSpots net spots = (at : SwitchAt) → Among at spots → IsSpot net at

some_pair : (a b : ℕ × ℕ) → ◌≡◌ {A = Option (ℕ × ℕ)} (Some a) (Some b) → a ≡ b
some_pair a b e = cc

spots_told : (net : Network) → IsSound net → (xs ys : List SwitchAt) → AreSpots net xs → AreSpots net ys → flat_map (switch_ids net) xs ≡ flat_map (switch_ids net) ys → xs ≡ ys
spots_told net sound [] [] h k e = refl
spots_told net sound [] (y ∷ ys) h k e =
    let s = k y (inl refl) in
    let none : ◌≡◌ {A = List (List ℕ)} [] (s.switch.id ∷ flat_map (switch_ids net) ys) = e ∙ ap (λ z. z ++ flat_map (switch_ids net) ys) (switch_read net y s.level s.switch s.there s.is) in
    cc
spots_told net sound (x ∷ xs) [] h k e =
    let s = h x (inl refl) in
    let none : ◌≡◌ {A = List (List ℕ)} (s.switch.id ∷ flat_map (switch_ids net) xs) [] = sym (ap (λ z. z ++ flat_map (switch_ids net) xs) (switch_read net x s.level s.switch s.there s.is)) ∙ e in
    cc
spots_told net sound (x ∷ xs) (y ∷ ys) h k e =
    let s = h x (inl refl) in
    let t = k y (inl refl) in
    let both : s.switch.id ∷ flat_map (switch_ids net) xs ≡ t.switch.id ∷ flat_map (switch_ids net) ys =
    sym (ap (λ z. z ++ flat_map (switch_ids net) xs) (switch_read net x s.level s.switch s.there s.is)) ∙ e ∙ ap (λ z. z ++ flat_map (switch_ids net) ys) (switch_read net y t.level t.switch t.there t.is) in
    let id : s.switch.id ≡ t.switch.id = cc in
    let rest : flat_map (switch_ids net) xs ≡ flat_map (switch_ids net) ys = cc in
    let one = switch_own net x.level x.place s.level s.switch sound s.there s.is in
    let two = switch_own net y.level y.place t.level t.switch sound t.there t.is in
    let place = some_pair (x.level, x.place) (y.level, y.place) (sym one ∙ ap (find_switch net) id ∙ two) in
    let first : x ≡ y = ap switch_spot place in
    ap (λ (z : SwitchAt). z ∷ xs) first ∙ ap (λ (z : List SwitchAt). y ∷ z) (spots_told net sound xs ys (λ at i. h at (inr i)) (λ at i. k at (inr i)) rest)

-- the breakers that trip are switches of the structure
tripped_spots : (state : State) (event : FaultCase) → IsSound state.structure → AreSpots state.structure (tripped_of state event)
unfolding tripped_of tripped_from tripped_in spots_that before_fault positioned_at positioned level_without
tripped_spots state event sound at i =
    let before = before_fault state event in
    let zone = zone_of state event in
    let o = outcome state event.out sound in
    let from = flat_among (tripped_in before event zone) at (enumerate_from 0 (levels before.structure)) i in
    let row = row_at before.opened from.0.0 in
    let test = trips event.stuck event.fault (in_zone zone from.0.0) in
    let numbered = enumerate_from 0 (with_opened from.0.1.switches row) in
    let spot = map_among (λ (s : ℕ × Switch). switch_spot (from.0.0, s.0)) at (filter (λ (s : ℕ × Switch). test s.1) numbered) from.2 in
    let kept = filter_among (λ (s : ℕ × Switch). test s.1) spot.0 numbered spot.1 in
    let place = enumerate_among (with_opened from.0.1.switches row) 0 spot.0 kept.0 in
    let level = enumerate_among (levels before.structure) 0 from.0 from.1 in
    let l = map_back (level_without o.removed) (levels state.structure) level.0 from.0.1 (ap (λ (z : List VoltageLevel). slice_get z level.0) (sym o.out.levels_left) ∙ level.2) in
    let same : from.0.1.switches ≡ l.0.switches = ap (λ (z : VoltageLevel). z.switches) (sym l.2) in
    let long = positioned_long from.0.1.switches row in
    let inside = slice_get_within (with_opened from.0.1.switches row) place.0 spot.0.1 place.2 in
    let lengths = ap length same in
    let x = some_got l.0.switches place.0 (omega (arith, inside, long, lengths)) in
    let level_is : at.level ≡ level.0 = ap (λ (z : SwitchAt). z.level) spot.2 ∙ omega (arith, level.1) in
    let place_is : at.place ≡ place.0 = ap (λ (z : SwitchAt). z.place) spot.2 ∙ omega (arith, place.1) in
    record {
      level = l.0;
      there = ap (slice_get (levels state.structure)) level_is ∙ l.1;
      switch = x.0;
      is = ap (slice_get l.0.switches) place_is ∙ x.1;
    }

-- ---- findings on one state

abbrev AreSpotsOf : Network → Option (List SwitchAt) → Type 0
AreSpotsOf net None = ⊤
AreSpotsOf net (Some spots) = AreSpots net spots

abbrev IsOn : State → Finding → Type 0
IsOn state (UnknownId id) = ⊤
IsOn state (NoBreaker id) = ⊤
IsOn state (Effect after losses tripped) = (losses ≡ losses_of (figures_of state) after) × AreSpotsOf state.structure tripped

amiss_on : (state : State) (effect : Finding) (a b c : Option (List ℕ)) → IsOn state effect → IsOn state (amiss_or effect (first_of (option_map UnknownId a) (first_of (option_map UnknownId b) (option_map (stuck_amiss state.structure) c))))
unfolding stuck_amiss
amiss_on state effect (Some a) b c h = tt
amiss_on state effect None (Some b) c h = tt
amiss_on state effect None None (Some c) h = unfit c
  where
    either : (t : Bool) (id : List ℕ) → IsOn state (cond t (NoBreaker id) (UnknownId id))
    either true id = tt
    either false id = tt

    unfit : (id : List ℕ) → IsOn state (stuck_amiss state.structure id)
    unfit id = either (is_known state.structure id) id
amiss_on state effect None None None h = h

finding_on : (state : State) (event : FaultCase) (has_fault : Bool) → IsSound state.structure → IsOn state (found_of state event has_fault)
unfolding found_of first_amiss effect_in effect_of
finding_on state event has_fault sound =
    amiss_on state (effect_in state event has_fault) (first_unknown state.structure event.out) (first_unknown state.structure event.fault) (first_no_breaker state.structure event.stuck) (effect has_fault)
  where
    effect : (t : Bool) → IsOn state (effect_in state event t)
    effect true = (refl, tripped_spots state event sound)
    effect false = (refl, tt)

less_told : (a x y : ℤ) → a +ℤ neg_ℤ x ≡ a +ℤ neg_ℤ y → x ≡ y
less_told a x y e = omega (arith, ints, e)

-- what is lost tells the figures after
figures_told : (before f g : Figures) → f.buses ≡ g.buses → f.components ≡ g.components → f.main ≡ g.main → losses_of before f ≡ losses_of before g → f ≡ g
unfolding losses_of
figures_told before f g b c m e i = record {
  buses = b i;
  components = c i;
  main = m i;
  load = less_told before.load f.load g.load (ap (λ (z : Losses). z.load) e) i;
  generation = less_told before.generation f.generation g.generation (ap (λ (z : Losses). z.generation) e) i;
  total_load = less_told before.total_load f.total_load g.total_load (ap (λ (z : Losses). z.unconnected_load) e) i;
  total_generation = less_told before.total_generation f.total_generation g.total_generation (ap (λ (z : Losses). z.unconnected_generation) e) i;
}

tripped_told : (net : Network) → IsSound net → (p q : Option (List SwitchAt)) → AreSpotsOf net p → AreSpotsOf net q → ids_of net p ≡ ids_of net q → p ≡ q
tripped_told net sound None None h k e = refl
tripped_told net sound None (Some b) h k e = cc
tripped_told net sound (Some a) None h k e = cc
tripped_told net sound (Some a) (Some b) h k e =
    let ids : flat_map (switch_ids net) a ≡ flat_map (switch_ids net) b = cc in
    ap (λ (z : List SwitchAt). Some z) (spots_told net sound a b h k ids)

finding_told : (state : State) (f g : Finding) → IsSound state.structure → IsOn state f → IsOn state g → said_of state.structure f ≡ said_of state.structure g → f ≡ g
unfolding said_of
finding_told state (UnknownId a) (UnknownId b) sound h k e = let same : a ≡ b = cc in ap UnknownId same
finding_told state (UnknownId a) (NoBreaker b) sound h k e = cc
finding_told state (UnknownId a) (Effect after losses tripped) sound h k e = cc
finding_told state (NoBreaker a) (UnknownId b) sound h k e = cc
finding_told state (NoBreaker a) (NoBreaker b) sound h k e = let same : a ≡ b = cc in ap NoBreaker same
finding_told state (NoBreaker a) (Effect after losses tripped) sound h k e = cc
finding_told state (Effect after losses tripped) (UnknownId b) sound h k e = cc
finding_told state (Effect after losses tripped) (NoBreaker b) sound h k e = cc
finding_told state (Effect f l p) (Effect g m q) sound h k e =
    let buses : f.buses ≡ g.buses = cc in
    let components : f.components ≡ g.components = cc in
    let main : f.main ≡ g.main = cc in
    let losses : l ≡ m = cc in
    let ids : ids_of state.structure p ≡ ids_of state.structure q = cc in
    let after = figures_told (figures_of state) f g buses components main (sym h.0 ∙ losses ∙ k.0) in
    let tripped = tripped_told state.structure sound p q h.1 k.1 ids in
    ap (λ (z : Figures). Effect z l p) after ∙ ap (λ (z : Losses). Effect g z p) losses ∙ ap (λ (z : Option (List SwitchAt)). Effect g m z) tripped

pub pairs_are_told : PairsAreTold
unfolding told_line finding_of
pairs_are_told state first second sound h k e =
    let both = lines_are_told state.structure state.structure first.name second.name (finding_of state first) (finding_of state second) h k e in
    (both.0, finding_told state (finding_of state first) (finding_of state second) sound (finding_on state first.event first.has_fault sound) (finding_on state second.event second.has_fault sound) both.1)
