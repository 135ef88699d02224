-- A level in node/breaker form under present flags is that of the level as it stands.
use Rattle.std.proofs.Common.{◌≡◌, refl, sym, ap, ◌∙◌, ℕ, zero, suc, ◌+◌, ◌<◌, Bool, true, false, not, List, [], ◌∷◌, ◌++◌, length, get_or, take, drop, arith}
use Rattle.std.specs.Prelude.{map, All}
use Rattle.std.specs.List.{enumerate_from}
use Rattle.std.proofs.lemmas.List.{length-map, take_at, drop_at}
use Rattle.std.proofs.lemmas.List.Elements.{All-head, All-tail, All-cons}
use Rattle.grid_level.specs.declared.Switch.{Switch}
use Rattle.grid_level.specs.Passing as levels
use Rattle.grid_placed.specs.Places.{Joint, Outlet, PlacedLevel, PlacesFit, with_opened, with_connected, stood, positioned}
use Rattle.grid_placed.specs.Translation.{joint_breaker, outlet_breaker, outlet_placed, outlets_at, translated_level}
use Rattle.grid_placed.proofs.Nodes.{StandsWell}

pub length_opened : (js : List Joint) (flags : List Bool) → length (with_opened js flags) ≡ length js
unfolding with_opened
length_opened [] flags = refl
length_opened (j ∷ js) [] = refl
length_opened (j ∷ js) (f ∷ flags) = ap suc (length_opened js flags)

pub length_connected : (ts : List Outlet) (flags : List Bool) → length (with_connected ts flags) ≡ length ts
unfolding with_connected
length_connected [] flags = refl
length_connected (t ∷ ts) [] = refl
length_connected (t ∷ ts) (f ∷ flags) = ap suc (length_connected ts flags)

-- ---- the flags of breakers

no_flags : (xs : List Switch) → levels.with_opened xs [] ≡ xs
unfolding levels.with_opened
no_flags [] = refl
no_flags (x ∷ xs) = refl

opened_apart : (xs ys : List Switch) (flags : List Bool) → levels.with_opened (xs ++ ys) flags ≡ levels.with_opened xs (take (length xs) flags) ++ levels.with_opened ys (drop (length xs) flags)
unfolding levels.with_opened
opened_apart [] ys flags = refl
opened_apart (x ∷ xs) ys [] = ap (λ z. x ∷ (xs ++ z)) (sym (no_flags ys))
opened_apart (x ∷ xs) ys (f ∷ flags) = ap (λ z. record x { opened = f } ∷ z) (opened_apart xs ys flags)

joints_flagged : (js : List Joint) (flags : List Bool) → levels.with_opened (map joint_breaker js) flags ≡ map joint_breaker (with_opened js flags)
unfolding levels.with_opened with_opened joint_breaker
joints_flagged [] flags = refl
joints_flagged (j ∷ js) [] = refl
joints_flagged (j ∷ js) (f ∷ flags) = ap (λ z. joint_breaker (record j { opened = f }) ∷ z) (joints_flagged js flags)

outlets_flagged : (at : ℕ) (ts : List Outlet) (flags : List Bool)
    → levels.with_opened (map outlet_breaker (enumerate_from at ts)) flags ≡ map outlet_breaker (enumerate_from at (with_connected ts (map not flags)))
unfolding levels.with_opened with_connected outlet_breaker
outlets_flagged at [] flags = refl
outlets_flagged at (t ∷ ts) [] = refl
outlets_flagged at (t ∷ ts) (true ∷ flags) = ap (λ z. outlet_breaker (at, record t { connected = false }) ∷ z) (outlets_flagged (at + 1) ts flags)
outlets_flagged at (t ∷ ts) (false ∷ flags) = ap (λ z. outlet_breaker (at, record t { connected = true }) ∷ z) (outlets_flagged (at + 1) ts flags)

pub placed_flagged : (at : ℕ) (ts : List Outlet) (flags : List Bool) → map outlet_placed (enumerate_from at (with_connected ts flags)) ≡ map outlet_placed (enumerate_from at ts)
unfolding with_connected outlet_placed
placed_flagged at [] flags = refl
placed_flagged at (t ∷ ts) [] = refl
placed_flagged at (t ∷ ts) (f ∷ flags) = ap (λ z. outlet_placed (at, t) ∷ z) (placed_flagged (at + 1) ts flags)

-- in any positions of the switches and of the breakers behind them
pub level_in_positions : (level : PlacedLevel) (opened : List Bool) → levels.positioned (translated_level level) opened ≡ translated_level (positioned level opened)
unfolding levels.positioned translated_level positioned stood outlets_at
level_in_positions level opened =
    let own = take (length level.joints) opened in
    let behind = drop (length level.joints) opened in
    let breakers = map outlet_breaker (enumerate_from (length level.buses) level.outlets) in
    let switches : levels.with_opened (map joint_breaker level.joints ++ breakers) opened
    ≡ map joint_breaker (with_opened level.joints own) ++ map outlet_breaker (enumerate_from (length level.buses) (with_connected level.outlets (map not behind)))
    = opened_apart (map joint_breaker level.joints) breakers opened
    ∙ ap (λ n. levels.with_opened (map joint_breaker level.joints) (take n opened) ++ levels.with_opened breakers (drop n opened)) (length-map level.joints joint_breaker)
    ∙ ap (λ z. z ++ levels.with_opened breakers behind) (joints_flagged level.joints own)
    ∙ ap (λ z. map joint_breaker (with_opened level.joints own) ++ z) (outlets_flagged (length level.buses) level.outlets behind) in
    rw (switches, placed_flagged (length level.buses) level.outlets (map not behind)) refl

not_twice : (flags : List Bool) → map not (map not flags) ≡ flags
not_twice [] = refl
not_twice (true ∷ flags) = ap (λ z. true ∷ z) (not_twice flags)
not_twice (false ∷ flags) = ap (λ z. false ∷ z) (not_twice flags)

-- in the positions that the flags give
pub level_positioned : (level : PlacedLevel) (opened connected : List Bool) → length opened ≡ length level.joints → length connected ≡ length level.outlets
    → levels.positioned (translated_level level) (opened ++ map not connected) ≡ translated_level (stood level opened connected)
unfolding positioned
level_positioned level opened connected e f =
    level_in_positions level (opened ++ map not connected)
    ∙ ap (λ z. translated_level (stood level z (map not (drop (length level.joints) (opened ++ map not connected))))) (take_at opened (map not connected) (length level.joints) e)
    ∙ ap (λ z. translated_level (stood level opened (map not z))) (drop_at opened (map not connected) (length level.joints) e)
    ∙ ap (λ z. translated_level (stood level opened z)) (not_twice connected)

-- ---- the places stay

joints_fit : (most : ℕ) (js : List Joint) (flags : List Bool) → All (λ (s : Joint). (s.place1 < most) × (s.place2 < most)) js → All (λ (s : Joint). (s.place1 < most) × (s.place2 < most)) (with_opened js flags)
unfolding with_opened
joints_fit most [] flags h = h
joints_fit most (j ∷ js) [] h = h
joints_fit most (j ∷ js) (f ∷ flags) h =
    All-cons (λ (s : Joint). (s.place1 < most) × (s.place2 < most)) (record j { opened = f }) (with_opened js flags)
    (All-head (λ (s : Joint). (s.place1 < most) × (s.place2 < most)) j js h)
    (joints_fit most js flags (All-tail (λ (s : Joint). (s.place1 < most) × (s.place2 < most)) j js h))

outlets_fit : (most : ℕ) (ts : List Outlet) (flags : List Bool) → All (StandsWell most) ts → All (StandsWell most) (with_connected ts flags)
unfolding with_connected
outlets_fit most [] flags h = h
outlets_fit most (t ∷ ts) [] h = h
outlets_fit most (t ∷ ts) (f ∷ flags) h =
    All-cons (StandsWell most) (record t { connected = f }) (with_connected ts flags) (All-head (StandsWell most) t ts h) (outlets_fit most ts flags (All-tail (StandsWell most) t ts h))

pub places_stood : (level : PlacedLevel) (opened connected : List Bool) → PlacesFit level → PlacesFit (stood level opened connected)
unfolding stood
places_stood level opened connected fit = record { joints = joints_fit (length level.buses) level.joints opened fit.joints; outlets = outlets_fit (length level.buses) level.outlets connected fit.outlets }

pub places_positioned : (level : PlacedLevel) (opened : List Bool) → PlacesFit level → PlacesFit (positioned level opened)
unfolding positioned
places_positioned level opened fit = places_stood level (take (length level.joints) opened) (map not (drop (length level.joints) opened)) fit

-- a terminal's flag is the present one
pub flag_of : (ts : List Outlet) (flags : List Bool) (k : ℕ) (d : Outlet) → length flags ≡ length ts → k < length ts → (get_or (with_connected ts flags) k d).connected ≡ get_or flags k false
unfolding with_connected
flag_of [] flags k d e lt = absurd (omega (arith, lt))
flag_of (t ∷ ts) [] k d e lt = absurd (omega (arith, e))
flag_of (t ∷ ts) (f ∷ flags) zero d e lt = refl
flag_of (t ∷ ts) (f ∷ flags) (suc k) d e lt = flag_of ts flags k d (omega (arith, e)) (omega (arith, lt))
