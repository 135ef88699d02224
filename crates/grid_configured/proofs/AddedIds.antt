-- How often an id stands among those that the node/breaker form of a network with configured buses adds: at most once.
use Rattle.std.proofs.Common.{◌≡◌, refl, sym, ap, ◌∙◌, ℕ, ◌+◌, ◌≤◌, Bool, true, false, cond, List, [], ◌∷◌, ◌++◌, arith}
use Rattle.std.specs.Prelude.{eqb, map, flat_map, decimal}
use Rattle.std.specs.Fmt.{digits}
use Rattle.std.proofs.lemmas.Bool.{or_parts, both_ways}
use Rattle.std.proofs.lemmas.List.{map-append}
use Rattle.std.proofs.lemmas.Slice.Eq.{bytes_eq-Decides}
use Rattle.grid_lemmas.proofs.Lists.{map_twice}
use Rattle.grid_ids.specs.Name.{same_id}
use Rattle.grid_level.specs.declared.Stand.TheVariants.{BranchEnd}
use Rattle.grid_level.specs.declared.Terminal.{Terminal}
use Rattle.grid_structure.proofs.Counts.{times, times-append}
use Rattle.grid_json.specs.declared.buses.BusInjection.{BusInjection}
use Rattle.grid_json.specs.declared.buses.BusEnd.{BusEnd}
use Rattle.grid_configured.specs.declared.network.ConfiguredLine.{ConfiguredLine}
use Rattle.grid_configured.specs.declared.network.ConfiguredLevel.{ConfiguredLevel}
use Rattle.grid_placed.specs.Places.{Outlet}
use Rattle.grid_placed.specs.Translation.{breaker_id}
use Rattle.grid_configured.specs.Levels.{bus_place, terminal, item_outlet, end_outlets, line_outlets}
use Rattle.grid_configured.proofs.Locations.{is_marked}
use Rattle.grid_configured.proofs.PlainNetworks.{Each, same_back, Unmarked, tagged, tagged_marked, plain_apart, breaker_tagged, PlainLevel}

-- ---- counts of ids in lists of lists

-- what each list has is what two others have
pub spread : {X : Type 0} (q : List ℕ) (f g h : X → List (List ℕ)) → ((x : X) → times q (f x) ≡ times q (g x) + times q (h x)) → (xs : List X) → times q (flat_map f xs) ≡ times q (flat_map g xs) + times q (flat_map h xs)
spread q f g h same [] = omega arith
spread q f g h same (x ∷ xs) =
    let a = times-append q (f x) (flat_map f xs) in
    let b = times-append q (g x) (flat_map g xs) in
    let c = times-append q (h x) (flat_map h xs) in
    let d = same x in
    let e = spread q f g h same xs in
    omega (arith, a, b, c, d, e)

pub never : {X : Type 0} (q : List ℕ) (f : X → List (List ℕ)) → ((x : X) → times q (f x) ≡ 0) → (xs : List X) → times q (flat_map f xs) ≡ 0
never q f none [] = refl
never q f none (x ∷ xs) = let a = times-append q (f x) (flat_map f xs) in let b = none x in let c = never q f none xs in omega (arith, a, b, c)

-- ---- what stands before the byte of reserved ids

pub front : List ℕ → List ℕ
front [] = []
front (b ∷ q) = cond (eqb b 33) [] (b ∷ front q)

front_tagged : (x text : List ℕ) → Unmarked x → front (tagged x text) ≡ x
unfolding front
front_tagged [] text p = refl
front_tagged (a ∷ x) text p =
    let parts = or_parts (eqb a 33) (is_marked x) p in
    ap (λ t. cond t [] (a ∷ front (tagged x text))) parts.0 ∙ ap (λ z. a ∷ z) (front_tagged x text parts.1)

tagged_once : (q x text : List ℕ) → Unmarked x → cond (same_id q (tagged x text)) 1 0 ≤ cond (same_id (front q) x) 1 0
tagged_once q x text p = by (same_id q (tagged x text)) refl
  where
    by : (t : Bool) → same_id q (tagged x text) ≡ t → cond t 1 0 ≤ cond (same_id (front q) x) 1 0
    by true e =
        let same : q ≡ tagged x text = (bytes_eq-Decides q (tagged x text)).0 e in
        let here : same_id (front q) x ≡ true = (bytes_eq-Decides (front q) x).1 (ap front same ∙ front_tagged x text p) in
        let one : ◌≡◌ {A = ℕ} (cond (same_id (front q) x) 1 0) 1 = ap (λ t. cond t 1 0) here in
        omega (arith, one)
    by false e = omega arith

tail_apart : (id x y : List ℕ) → tagged id x ≡ tagged id y → x ≡ y
tail_apart [] x y e = cc
tail_apart (c ∷ id) x y e = tail_apart id x y (let t : tagged id x ≡ tagged id y = cc in t)

-- ids with one text behind the plain ids of some things
pub each_tagged : {X : Type 0} (q text : List ℕ) (made key : X → List ℕ) → ((x : X) → made x ≡ tagged (key x) text) → (xs : List X) → Each Unmarked (map key xs) → times q (map made xs) ≤ times (front q) (map key xs)
each_tagged q text made key is [] h = omega arith
each_tagged q text made key is (x ∷ xs) h =
    let same : ◌≡◌ {A = ℕ} (cond (same_id q (made x)) 1 0) (cond (same_id q (tagged (key x) text)) 1 0) = ap (λ z. cond (same_id q z) 1 0) (is x) in
    let here = tagged_once q (key x) text h.0 in
    let rest = each_tagged q text made key is xs h.1 in
    omega (arith, same, here, rest)

-- ---- the breakers of terminals

abbrev pub breakers : List Outlet → List (List ℕ)
breakers ts = map (λ (t : Outlet). breaker_id t.terminal) ts

pub unmarked_none : (q : List ℕ) (ts : List Outlet) → Unmarked q → times q (breakers ts) ≡ 0
unmarked_none q [] p = refl
unmarked_none q (t ∷ ts) p =
    let apart = plain_apart q (breaker_id t.terminal) p (ap is_marked (breaker_tagged t.terminal) ∙ tagged_marked t.terminal.equipment (decimal t.terminal.side)) in
    let none : ◌≡◌ {A = ℕ} (cond (same_id q (breaker_id t.terminal)) 1 0) 0 = ap (λ t. cond t 1 0) apart in
    let rest = unmarked_none q ts p in
    omega (arith, none, rest)

-- an end's breaker is in the level of its end
end_breaker : (q : List ℕ) (l : ConfiguredLevel) (id : List ℕ) (side : ℕ) (e : BusEnd) → times q (breakers (end_outlets l id side e)) ≡ cond (same_id l.id e.level) (cond (same_id q (breaker_id (terminal id side))) 1 0) 0
unfolding end_outlets
end_breaker q l id side e = by (same_id l.id e.level)
  where
    by : (t : Bool) → times q (breakers (cond t (record { terminal = record { equipment = id; side = side }; place = bus_place l.buses e.bus; connected = e.connected; stand = BranchEnd } ∷ []) [])) ≡ cond t (cond (same_id q (breaker_id (terminal id side))) 1 0) 0
    by true = omega arith
    by false = refl

end_breakers : (q id : List ℕ) (side : ℕ) (e : BusEnd) (ls : List ConfiguredLevel)
    → times q (flat_map (λ l. breakers (end_outlets l id side e)) ls) ≡ cond (same_id q (breaker_id (terminal id side))) (times e.level (map (λ (l : ConfiguredLevel). l.id) ls)) 0
end_breakers q id side e [] = by (same_id q (breaker_id (terminal id side)))
  where
    by : (t : Bool) → ◌≡◌ {A = ℕ} 0 (cond t 0 0)
    by true = refl
    by false = refl
end_breakers q id side e (l ∷ ls) =
    let all = times-append q (breakers (end_outlets l id side e)) (flat_map (λ l. breakers (end_outlets l id side e)) ls) in
    let here = end_breaker q l id side e in
    let rest = end_breakers q id side e ls in
    let sum = by (same_id l.id e.level) (same_id e.level l.id) (same_back l.id e.level) (same_id q (breaker_id (terminal id side))) (times e.level (map (λ (l : ConfiguredLevel). l.id) ls)) in
    omega (arith, all, here, rest, sum)
  where
    by : (t s : Bool) → t ≡ s → (u : Bool) (count : ℕ) → cond t (cond u 1 0) 0 + cond u count 0 ≡ cond u (cond s 1 0 + count) 0
    by t s same true count = ap (λ z. cond z 1 0 + count) same
    by true s same false count = refl
    by false s same false count = refl

breaker_once : (q : List ℕ) (t : Terminal) → Unmarked t.equipment → cond (same_id q (breaker_id t)) 1 0 ≤ cond (same_id (front q) t.equipment) 1 0
breaker_once q t p =
    let same : ◌≡◌ {A = ℕ} (cond (same_id q (breaker_id t)) 1 0) (cond (same_id q (tagged t.equipment (decimal t.side))) 1 0) = ap (λ z. cond (same_id q z) 1 0) (breaker_tagged t) in
    let once = tagged_once q t.equipment (decimal t.side) p in
    omega (arith, same, once)

sides_apart : same_id (decimal 1) (decimal 2) ≡ false
unfolding digits
sides_apart = refl

-- the breakers of a line's two ends have two ids
ends_apart : (q id : List ℕ) → same_id q (breaker_id (terminal id 1)) ≡ true → same_id q (breaker_id (terminal id 2)) ≡ true → ⊥
ends_apart q id e f =
    let one : q ≡ tagged id (decimal 1) = (bytes_eq-Decides q (breaker_id (terminal id 1))).0 e ∙ breaker_tagged (terminal id 1) in
    let two : q ≡ tagged id (decimal 2) = (bytes_eq-Decides q (breaker_id (terminal id 2))).0 f ∙ breaker_tagged (terminal id 2) in
    both_ways (same_id (decimal 1) (decimal 2)) sides_apart ((bytes_eq-Decides (decimal 1) (decimal 2)).1 (tail_apart id (decimal 1) (decimal 2) (sym one ∙ two)))

-- where each level stands once, a line has at most one breaker of an id
line_breakers : (q : List ℕ) (ls : List ConfiguredLevel) → ((id : List ℕ) → times id (map (λ (l : ConfiguredLevel). l.id) ls) ≤ 1) → (line : ConfiguredLine) → Unmarked line.id
    → times q (flat_map (λ l. breakers (end_outlets l line.id 1 line.end1)) ls) + times q (flat_map (λ l. breakers (end_outlets l line.id 2 line.end2)) ls) ≤ cond (same_id (front q) line.id) 1 0
line_breakers q ls once line p =
    let a = end_breakers q line.id 1 line.end1 ls in
    let b = end_breakers q line.id 2 line.end2 ls in
    let sum = by (same_id q (breaker_id (terminal line.id 1))) (same_id q (breaker_id (terminal line.id 2))) (times line.end1.level (map (λ (l : ConfiguredLevel). l.id) ls)) (times line.end2.level (map (λ (l : ConfiguredLevel). l.id) ls))
    (breaker_once q (terminal line.id 1) p) (breaker_once q (terminal line.id 2) p) (ends_apart q line.id) (once line.end1.level) (once line.end2.level) in
    omega (arith, a, b, sum)
  where
    by : (t u : Bool) (m k : ℕ) → cond t 1 0 ≤ cond (same_id (front q) line.id) 1 0 → cond u 1 0 ≤ cond (same_id (front q) line.id) 1 0 → (t ≡ true → u ≡ true → ⊥) → m ≤ 1 → k ≤ 1 → cond t m 0 + cond u k 0 ≤ cond (same_id (front q) line.id) 1 0
    by true true m k one two apart few1 few2 = absurd (apart refl refl)
    by true false m k one two apart few1 few2 = omega (arith, one, few1)
    by false true m k one two apart few1 few2 = omega (arith, two, few2)
    by false false m k one two apart few1 few2 = omega arith

pub breakers_join : (q : List ℕ) (xs ys : List Outlet) → times q (breakers (xs ++ ys)) ≡ times q (breakers xs) + times q (breakers ys)
breakers_join q xs ys = ap (times q) (map-append (λ (t : Outlet). breaker_id t.terminal) xs ys) ∙ times-append q (breakers xs) (breakers ys)

pub lines_breakers : (q : List ℕ) (ls : List ConfiguredLevel) → ((id : List ℕ) → times id (map (λ (l : ConfiguredLevel). l.id) ls) ≤ 1) → (lines : List ConfiguredLine) → Each Unmarked (map (λ (l : ConfiguredLine). l.id) lines)
    → times q (flat_map (λ l. breakers (flat_map (line_outlets l) lines)) ls) ≤ times (front q) (map (λ (l : ConfiguredLine). l.id) lines)
unfolding line_outlets
lines_breakers q ls once [] h = let none = never q (λ (l : ConfiguredLevel). breakers []) (λ l. refl) ls in omega (arith, none)
lines_breakers q ls once (line ∷ lines) h =
    let one : ConfiguredLevel → List (List ℕ) = λ l. breakers (end_outlets l line.id 1 line.end1) in
    let two : ConfiguredLevel → List (List ℕ) = λ l. breakers (end_outlets l line.id 2 line.end2) in
    let rest : ConfiguredLevel → List (List ℕ) = λ l. breakers (flat_map (line_outlets l) lines) in
    let all = spread q (λ l. breakers (line_outlets l line ++ flat_map (line_outlets l) lines)) (λ l. breakers (line_outlets l line)) rest (λ l. breakers_join q (line_outlets l line) (flat_map (line_outlets l) lines)) ls in
    let here = spread q (λ l. breakers (line_outlets l line)) one two (λ l. breakers_join q (end_outlets l line.id 1 line.end1) (end_outlets l line.id 2 line.end2)) ls in
    let few = line_breakers q ls once line h.0 in
    let others = lines_breakers q ls once lines h.1 in
    omega (arith, all, here, few, others)

pub items_breakers : (q : List ℕ) (ls : List ConfiguredLevel) → Each PlainLevel ls → times q (flat_map (λ l. breakers (map (item_outlet l) l.items)) ls) ≤ times (front q) (flat_map (λ l. map (λ (t : BusInjection). t.id) l.items) ls)
unfolding item_outlet
items_breakers q [] h = omega arith
items_breakers q (l ∷ ls) h =
    let all = times-append q (breakers (map (item_outlet l) l.items)) (flat_map (λ l. breakers (map (item_outlet l) l.items)) ls) in
    let own = ap (times q) (map_twice (λ (t : Outlet). breaker_id t.terminal) (item_outlet l) l.items) in
    let few = each_tagged q (decimal 1) (λ (t : BusInjection). breaker_id (terminal t.id 1)) (λ t. t.id) (λ t. breaker_tagged (terminal t.id 1)) l.items h.0.items in
    let ids = times-append (front q) (map (λ (t : BusInjection). t.id) l.items) (flat_map (λ l. map (λ (t : BusInjection). t.id) l.items) ls) in
    let rest = items_breakers q ls h.1 in
    omega (arith, all, own, few, ids, rest)
