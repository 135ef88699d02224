-- What the numbers of a network's levels and buses tell, where each id stands once.
use Rattle.std.proofs.Common.{◌≡◌, refl, sym, ap, ◌∙◌, subst, ℕ, zero, suc, ◌+◌, ◌<◌, ◌≤◌, Bool, true, false, cond, ◌||◌, List, [], ◌∷◌, ◌++◌, length, get_or, take, append_assoc, arith}
use Rattle.std.specs.Prelude.{Option, Some, None, map, position, option_map, unwrap_or, slice_get, flat_map, All}
use Rattle.std.specs.List.{list_any, enumerate_from}
use Rattle.std.specs.Str.{bytes_eq}
use Rattle.std.proofs.lemmas.Bool.{or_parts, true≢false}
use Rattle.std.proofs.lemmas.List.{append-nil, map-append, length-take-le}
use Rattle.std.proofs.lemmas.Option.{slice_get-get_or}
use Rattle.std.proofs.lemmas.Slice.Eq.{bytes_eq-Decides}
use Rattle.grid_lemmas.proofs.Lists.{position-cons, take_next}
use Rattle.grid_ids.specs.Name.{same_id, has_id}
use Rattle.grid_ids.proofs.Alike.{same_itself}
use Rattle.grid_structure.proofs.Counts.{times, times-append, there}
use Rattle.grid_structure.proofs.Places.{position_none}
use Rattle.grid_paths.proofs.Least.{some_same, some_none}
use Rattle.grid_json.specs.declared.buses.BusSwitch.{BusSwitch}
use Rattle.grid_json.specs.declared.buses.BusInjection.{BusInjection}
use Rattle.grid_configured.specs.declared.network.ConfiguredLevel.{ConfiguredLevel}
use Rattle.grid_configured.specs.declared.network.ConfiguredLine.{ConfiguredLine}
use Rattle.grid_configured.specs.declared.network.ConfiguredNetwork.{ConfiguredNetwork}
use Rattle.grid_configured.specs.Checks.{level_ids, ids_of, level_nodes, IsTranslatable}
use Rattle.grid_configured.specs.Levels.{bus_place}
use Rattle.grid_configured.specs.Numbers.{number_at, numbered, bus_numbers, level_numbers, HasLevels}
use Rattle.grid_configured.proofs.FaultlessNetworks.{network_right, network_once}
use Rattle.grid_configured.proofs.PlainNetworks.{same_back}
use Rattle.grid_configured.proofs.Limits.{level_kept}

pub numbered_join : (ps qs : List (List ℕ × ℕ)) (before : Option ℕ) (id : List ℕ) → numbered (ps ++ qs) before id ≡ numbered qs (numbered ps before id) id
unfolding numbered
numbered_join [] qs before id = refl
numbered_join (p ∷ ps) qs before id = numbered_join ps qs (cond (bytes_eq p.0 id) (Some p.1) before) id

-- pairs without the id change nothing
numbered_absent : (ps : List (List ℕ × ℕ)) (before : Option ℕ) (id : List ℕ) → times id (map (λ (p : List ℕ × ℕ). p.0) ps) ≡ 0 → numbered ps before id ≡ before
unfolding numbered
numbered_absent [] before id h = refl
numbered_absent (p ∷ ps) before id h = by (λ before e. numbered_absent ps before id e) (same_id p.0 id) (same_back id p.0) refl h
  where
    by : ((before : Option ℕ) → times id (map (λ (p : List ℕ × ℕ). p.0) ps) ≡ 0 → numbered ps before id ≡ before) → (t : Bool) → same_id id p.0 ≡ same_id p.0 id → same_id p.0 id ≡ t
        → cond (same_id id p.0) 1 0 + times id (map (λ (p : List ℕ × ℕ). p.0) ps) ≡ 0 → numbered ps (cond t (Some p.1) before) id ≡ before
    by again true same e g = absurd (let one : ◌≡◌ {A = ℕ} (cond (same_id id p.0) 1 0) 1 = ap (λ t. cond t 1 0) (same ∙ e) in omega (arith, g, one))
    by again false same e g = again before (omega (arith, g))

-- ---- buses

pub numbers_more : {X : Type 0} (at : ℕ) (xs : List X) (x : X) → enumerate_from at (xs ++ x ∷ []) ≡ enumerate_from at xs ++ (at + length xs, x) ∷ []
numbers_more at [] x = let e : at ≡ at + 0 = omega arith in ap (λ z. (z, x) ∷ []) e
numbers_more at (y ∷ xs) x = let e : at + 1 + length xs ≡ at + suc (length xs) = omega arith in ap (λ z. (at, y) ∷ z) (numbers_more (at + 1) xs x ∙ ap (λ z. enumerate_from (at + 1) xs ++ (z, x) ∷ []) e)

bus_ids : (at : ℕ) (buses : List (List ℕ)) → map (λ (p : List ℕ × ℕ). p.0) (map (λ (e : ℕ × List ℕ). (e.1, e.0)) (enumerate_from at buses)) ≡ buses
bus_ids at [] = refl
bus_ids at (b ∷ buses) = ap (λ z. b ∷ z) (bus_ids (at + 1) buses)

place_found : (buses : List (List ℕ)) (id : List ℕ) → has_id buses id ≡ true → position (same_id id) buses ≡ Some (bus_place buses id)
unfolding bus_place has_id
place_found buses id h = by (position (same_id id) buses) refl
  where
    by : (o : Option ℕ) → position (same_id id) buses ≡ o → o ≡ Some (unwrap_or o 0)
    by None e = absurd (true≢false (sym h ∙ position_none (same_id id) buses e))
    by (Some k) e = refl

buses_from : (at : ℕ) (buses : List (List ℕ)) (before : Option ℕ) (id : List ℕ) → times id buses ≤ 1 → has_id buses id ≡ true → numbered (map (λ (e : ℕ × List ℕ). (e.1, e.0)) (enumerate_from at buses)) before id ≡ Some (at + bus_place buses id)
unfolding numbered has_id bus_place
buses_from at [] before id once h = absurd (true≢false (sym h))
buses_from at (b ∷ buses) before id once h =
    by (λ before few has. buses_from (at + 1) buses before id few has) (same_id id b) refl (same_back b id) once h
    ∙ ap (λ z. Some (at + unwrap_or z 0)) (sym (position-cons (same_id id) b buses))
  where
    rest : List (List ℕ × ℕ)
    rest = map (λ (e : ℕ × List ℕ). (e.1, e.0)) (enumerate_from (at + 1) buses)

    by : ((before : Option ℕ) → times id buses ≤ 1 → has_id buses id ≡ true → numbered rest before id ≡ Some (at + 1 + bus_place buses id)) → (t : Bool) → same_id id b ≡ t → same_id b id ≡ same_id id b → cond t 1 0 + times id buses ≤ 1 → t || list_any (same_id id) buses ≡ true
        → numbered rest (cond (same_id b id) (Some at) before) id ≡ Some (at + unwrap_or (cond t (Some 0) (option_map suc (position (same_id id) buses))) 0)
    by again true e same few has =
        let none : times id (map (λ (p : List ℕ × ℕ). p.0) rest) ≡ 0 = ap (times id) (bus_ids (at + 1) buses) ∙ (let z : times id buses ≡ 0 = omega (arith, few) in z) in
        let zero_more : at ≡ at + 0 = omega arith in
        ap (λ t. numbered rest (cond t (Some at) before) id) (same ∙ e) ∙ numbered_absent rest (Some at) id none ∙ ap Some zero_more
    by again false e same few has =
        let place = place_found buses id has in
        let suc_more : at + 1 + bus_place buses id ≡ at + suc (bus_place buses id) = omega arith in
        again (cond (same_id b id) (Some at) before) (omega (arith, few)) has ∙ ap Some suc_more ∙ ap (λ z. Some (at + unwrap_or (option_map suc z) 0)) (sym place)

buses_numbered : (buses : List (List ℕ)) (before : Option ℕ) (id : List ℕ) → times id buses ≤ 1 → has_id buses id ≡ true → numbered (bus_numbers buses) before id ≡ Some (bus_place buses id)
unfolding bus_numbers
buses_numbered buses before id once h = let e : 0 + bus_place buses id ≡ bus_place buses id = omega arith in buses_from 0 buses before id once h ∙ ap Some e

-- ---- levels

number_ids : (id : List ℕ) (place : ℕ) (ls : List ConfiguredLevel) → times id (map (λ (p : List ℕ × ℕ). p.0) (level_numbers place ls)) ≤ times id (ids_of ls)
unfolding level_numbers bus_numbers level_ids
number_ids id place [] = omega arith
number_ids id place (l ∷ ls) =
    let pairs = map (λ (e : ℕ × List ℕ). (e.1, e.0)) (enumerate_from 0 l.buses) in
    let others = map (λ (s : BusSwitch). s.id) l.switches ++ map (λ (t : BusInjection). t.id) l.items in
    let a = ap (times id) (map-append (λ (p : List ℕ × ℕ). p.0) pairs (level_numbers (place + 1) ls) ∙ ap (λ z. z ++ map (λ (p : List ℕ × ℕ). p.0) (level_numbers (place + 1) ls)) (bus_ids 0 l.buses)) in
    let b = times-append id l.buses (map (λ (p : List ℕ × ℕ). p.0) (level_numbers (place + 1) ls)) in
    let c = times-append id (l.id ∷ (l.buses ++ others)) (ids_of ls) in
    let d = times-append id l.buses others in
    let rest = number_ids id (place + 1) ls in
    omega (arith, a, b, c, d, rest)

-- the count of a bus's id in its level, and in those behind it
bus_once : (l : ConfiguredLevel) (ls : List ConfiguredLevel) (id : List ℕ) → times id (ids_of (l ∷ ls)) ≤ 1 → has_id l.buses id ≡ true → (times id l.buses ≤ 1) × (times id (ids_of ls) ≡ 0)
unfolding level_ids
bus_once l ls id once h =
    let others = map (λ (s : BusSwitch). s.id) l.switches ++ map (λ (t : BusInjection). t.id) l.items in
    let c = times-append id (l.id ∷ (l.buses ++ others)) (ids_of ls) in
    let d = times-append id l.buses others in
    let one = there id l.buses h in
    (omega (arith, once, c, d), omega (arith, once, c, d, one))

bus_at : (place : ℕ) (ls : List ConfiguredLevel) (before : Option ℕ) (k : ℕ) (l : ConfiguredLevel) (id : List ℕ) → times id (ids_of ls) ≤ 1 → slice_get ls k ≡ Some l → has_id l.buses id ≡ true → numbered (level_numbers place ls) before id ≡ Some (bus_place l.buses id)
unfolding numbered level_numbers
bus_at place [] before k l id once at h = absurd (some_none l at)
bus_at place (m ∷ ls) before zero l id once at h =
    let same : m ≡ l = some_same m l at in
    let own : has_id m.buses id ≡ true = ap (λ (z : ConfiguredLevel). has_id z.buses id) same ∙ h in
    let counts = bus_once m ls id once own in
    let few = number_ids id (place + 1) ls in
    let none : times id (ids_of ls) ≡ 0 = counts.1 in
    numbered_join (bus_numbers m.buses) (level_numbers (place + 1) ls) (cond (bytes_eq m.id id) (Some place) before) id
    ∙ numbered_absent (level_numbers (place + 1) ls) (numbered (bus_numbers m.buses) (cond (bytes_eq m.id id) (Some place) before) id) id (omega (arith, few, none))
    ∙ buses_numbered m.buses (cond (bytes_eq m.id id) (Some place) before) id counts.0 own
    ∙ ap (λ (z : ConfiguredLevel). Some (bus_place z.buses id)) same
bus_at place (m ∷ ls) before (suc k) l id once at h =
    let all = times-append id (level_ids m) (ids_of ls) in
    numbered_join (bus_numbers m.buses) (level_numbers (place + 1) ls) (cond (bytes_eq m.id id) (Some place) before) id
    ∙ bus_at (place + 1) ls (numbered (bus_numbers m.buses) (cond (bytes_eq m.id id) (Some place) before) id) k l id (omega (arith, once, all)) at h

level_at : (place : ℕ) (ls : List ConfiguredLevel) (before : Option ℕ) (k : ℕ) (l : ConfiguredLevel) → times l.id (ids_of ls) ≤ 1 → slice_get ls k ≡ Some l → numbered (level_numbers place ls) before l.id ≡ Some (place + k)
unfolding numbered level_numbers level_ids
level_at place [] before k l once at = absurd (some_none l at)
level_at place (m ∷ ls) before zero l once at =
    let same : m ≡ l = some_same m l at in
    let own : bytes_eq m.id l.id ≡ true = (bytes_eq-Decides m.id l.id).1 (ap (λ (z : ConfiguredLevel). z.id) same) in
    let one : ◌≡◌ {A = ℕ} (cond (same_id l.id m.id) 1 0) 1 = ap (λ t. cond t 1 0) (same_back l.id m.id ∙ own) in
    let few = number_ids l.id place (m ∷ ls) in
    let none : times l.id (map (λ (p : List ℕ × ℕ). p.0) (bus_numbers m.buses ++ level_numbers (place + 1) ls)) ≡ 0 = omega (arith, few, once, one) in
    let zero_more : place ≡ place + 0 = omega arith in
    ap (λ t. numbered (bus_numbers m.buses ++ level_numbers (place + 1) ls) (cond t (Some place) before) l.id) own
    ∙ numbered_absent (bus_numbers m.buses ++ level_numbers (place + 1) ls) (Some place) l.id none
    ∙ ap Some zero_more
level_at place (m ∷ ls) before (suc k) l once at =
    let all = times-append l.id (level_ids m) (ids_of ls) in
    let suc_more : place + 1 + k ≡ place + suc k = omega arith in
    numbered_join (bus_numbers m.buses) (level_numbers (place + 1) ls) (cond (bytes_eq m.id l.id) (Some place) before) l.id
    ∙ level_at (place + 1) ls (numbered (bus_numbers m.buses) (cond (bytes_eq m.id l.id) (Some place) before) l.id) k l (omega (arith, once, all)) at
    ∙ ap Some suc_more

-- what the numbers of all levels and buses tell
pub has_levels : (n : ConfiguredNetwork) (table : List (List ℕ × ℕ)) → IsTranslatable n → ((q : List ℕ) → number_at table q ≡ numbered (level_numbers 0 n.levels) None q) → HasLevels table n.levels
has_levels n table h is =
    let right = network_right n h.1 in
    let once : (q : List ℕ) → times q (ids_of n.levels) ≤ 1 = λ q. (let most = (network_once n right).most q in let all = times-append q (ids_of n.levels) (map (λ (l : ConfiguredLine). l.id) n.lines) in omega (arith, most, all)) in
    record {
      places = λ k l at. is l.id ∙ level_at 0 n.levels None k l (once l.id) at ∙ (let e : 0 + k ≡ k = omega arith in ap Some e);
      buses = λ k l at id has. is id ∙ bus_at 0 n.levels None k l id (once id) at has;
    }

-- ---- one bus or level more

numbers_of_more : (buses : List (List ℕ)) (bus : List ℕ) → bus_numbers (buses ++ bus ∷ []) ≡ bus_numbers buses ++ (bus, length buses) ∷ []
unfolding bus_numbers
numbers_of_more buses bus =
    let e : 0 + length buses ≡ length buses = omega arith in
    ap (map (λ (e : ℕ × List ℕ). (e.1, e.0))) (numbers_more 0 buses bus ∙ ap (λ z. enumerate_from 0 buses ++ (z, bus) ∷ []) e)
    ∙ map-append (λ (e : ℕ × List ℕ). (e.1, e.0)) (enumerate_from 0 buses) ((length buses, bus) ∷ [])

pub bus_more : (buses : List (List ℕ)) (place : ℕ) (bus : List ℕ) (before : Option ℕ) (id : List ℕ) → place < length buses → bus ≡ get_or buses place bus
    → numbered (bus_numbers (take (place + 1) buses)) before id ≡ cond (bytes_eq bus id) (Some place) (numbered (bus_numbers (take place buses)) before id)
unfolding numbered
bus_more buses place bus before id less is =
    let count : length (take place buses) ≡ place = length-take-le place buses (omega (arith, less)) in
    ap (λ z. numbered (bus_numbers z) before id) (take_next buses place bus less is)
    ∙ ap (λ z. numbered z before id) (numbers_of_more (take place buses) bus)
    ∙ numbered_join (bus_numbers (take place buses)) ((bus, length (take place buses)) ∷ []) before id
    ∙ ap (λ z. cond (bytes_eq bus id) (Some z) (numbered (bus_numbers (take place buses)) before id)) count

levels_of_more : (at : ℕ) (levels : List ConfiguredLevel) (l : ConfiguredLevel) → level_numbers at (levels ++ l ∷ []) ≡ level_numbers at levels ++ (l.id, at + length levels) ∷ bus_numbers l.buses
unfolding level_numbers
levels_of_more at [] l = let e : at ≡ at + 0 = omega arith in ap (λ z. (l.id, z) ∷ (bus_numbers l.buses ++ [])) e ∙ ap (λ z. (l.id, at + 0) ∷ z) (append-nil (bus_numbers l.buses))
levels_of_more at (m ∷ levels) l =
    let e : at + 1 + length levels ≡ at + suc (length levels) = omega arith in
    ap (λ z. (m.id, at) ∷ (bus_numbers m.buses ++ z)) (levels_of_more (at + 1) levels l ∙ ap (λ z. level_numbers (at + 1) levels ++ (l.id, z) ∷ bus_numbers l.buses) e)
    ∙ ap (λ z. (m.id, at) ∷ z) (sym (append_assoc (bus_numbers m.buses) (level_numbers (at + 1) levels) ((l.id, at + suc (length levels)) ∷ bus_numbers l.buses)))

pub level_more : (levels : List ConfiguredLevel) (place : ℕ) (l : ConfiguredLevel) (before : Option ℕ) (id : List ℕ) → place < length levels → l ≡ get_or levels place l
    → numbered (level_numbers 0 (take (place + 1) levels)) before id ≡ numbered (bus_numbers l.buses) (cond (bytes_eq l.id id) (Some place) (numbered (level_numbers 0 (take place levels)) before id)) id
unfolding numbered
level_more levels place l before id less is =
    let count : length (take place levels) ≡ place = length-take-le place levels (omega (arith, less)) in
    let zero_more : 0 + length (take place levels) ≡ place = omega (arith, count) in
    ap (λ z. numbered (level_numbers 0 z) before id) (take_next levels place l less is)
    ∙ ap (λ z. numbered z before id) (levels_of_more 0 (take place levels) l)
    ∙ numbered_join (level_numbers 0 (take place levels)) ((l.id, 0 + length (take place levels)) ∷ bus_numbers l.buses) before id
    ∙ ap (λ z. numbered (bus_numbers l.buses) (cond (bytes_eq l.id id) (Some z) (numbered (level_numbers 0 (take place levels)) before id)) id) zero_more

pub small_levels : (n : ConfiguredNetwork) → IsTranslatable n → All (λ (l : ConfiguredLevel). length l.buses ≤ 1024) n.levels
unfolding level_nodes
small_levels n h = λ i d less. let few = (level_kept n (network_right n h.1) i (get_or n.levels i d) (slice_get-get_or n.levels i d less)).nodes in omega (arith, few)
