-- Ids without the byte of reserved ids, and networks with configured buses of which all ids are such.
use Rattle.std.proofs.Common.{◌≡◌, refl, sym, ap, ◌∙◌, ℕ, Bool, true, false, not, ◌&&◌, ◌||◌, List, [], ◌∷◌, ◌++◌, append_assoc}
use Rattle.std.specs.Prelude.{eqb, map, codes, decimal}
use Rattle.std.specs.List.{list_any, list_all}
use Rattle.std.proofs.lemmas.Bool.{and_parts, or_right, both_ways, false_from_ne_true, not-true}
use Rattle.std.proofs.lemmas.List.Folds.{list_any-append}
use Rattle.std.proofs.lemmas.Slice.Eq.{bytes_eq-Decides}
use Rattle.grid_ids.specs.Name.{same_id, has_id}
use Rattle.grid_level.specs.declared.Terminal.{Terminal}
use Rattle.grid_json.specs.declared.buses.BusSwitch.{BusSwitch}
use Rattle.grid_json.specs.declared.buses.BusInjection.{BusInjection}
use Rattle.grid_configured.specs.declared.network.ConfiguredLine.{ConfiguredLine}
use Rattle.grid_configured.specs.declared.network.ConfiguredLevel.{ConfiguredLevel}
use Rattle.grid_configured.specs.declared.network.ConfiguredNetwork.{ConfiguredNetwork}
use Rattle.grid_configured.specs.Names.{is_plain, switch_plain, item_plain, line_plain, level_plain, network_plain}
use Rattle.grid_placed.specs.Translation.{breaker_id}
use Rattle.grid_configured.specs.Translation.{substation_id}
use Rattle.grid_configured.proofs.Locations.{is_marked}

-- each item passes
abbrev pub Each : {X : Type 0} → (X → Type 0) → List X → Type 0
Each P [] = Unit {0}
Each P (x ∷ xs) = P x × Each P xs

pub each_join : {X : Type 0} (P : X → Type 0) (xs ys : List X) → Each P xs → Each P ys → Each P (xs ++ ys)
each_join P [] ys h k = k
each_join P (x ∷ xs) ys h k = (h.0, each_join P xs ys h.1 k)

pub same_back : (a b : List ℕ) → same_id a b ≡ same_id b a
same_back a b = by (same_id a b) refl (same_id b a) refl
  where
    by : (t : Bool) → same_id a b ≡ t → (u : Bool) → same_id b a ≡ u → t ≡ u
    by true e true f = refl
    by false e false f = refl
    by true e false f = sym ((bytes_eq-Decides b a).1 (sym ((bytes_eq-Decides a b).0 e))) ∙ f
    by false e true f = sym e ∙ (bytes_eq-Decides a b).1 (sym ((bytes_eq-Decides b a).0 f))

-- ---- ids with the byte of reserved ids

abbrev pub Unmarked : List ℕ → Type 0
Unmarked id = is_marked id ≡ false

-- an id, the byte, and a text
abbrev pub tagged : List ℕ → List ℕ → List ℕ
tagged id text = id ++ 33 ∷ text

pub tagged_marked : (id text : List ℕ) → is_marked (tagged id text) ≡ true
tagged_marked id text = list_any-append (λ b. eqb b 33) id (33 ∷ text) ∙ or_right (list_any (λ b. eqb b 33) id) (list_any (λ b. eqb b 33) (33 ∷ text)) refl

-- a plain id is none with the byte
pub plain_apart : (x y : List ℕ) → Unmarked x → is_marked y ≡ true → same_id x y ≡ false
plain_apart x y p q = false_from_ne_true (same_id x y) (λ h. both_ways (is_marked y) (ap is_marked (sym ((bytes_eq-Decides x y).0 h)) ∙ p) q)

pub none_marked : (q : List ℕ) (ids : List (List ℕ)) → is_marked q ≡ true → Each Unmarked ids → has_id ids q ≡ false
unfolding has_id
none_marked q [] m h = refl
none_marked q (x ∷ ids) m h = ap (λ t. t || has_id ids q) (same_back q x ∙ plain_apart x q h.0 m) ∙ none_marked q ids m h.1

pub breaker_tagged : (t : Terminal) → breaker_id t ≡ tagged t.equipment (decimal t.side)
unfolding breaker_id
breaker_tagged t = append_assoc t.equipment (codes "!") (decimal t.side)

pub home_tagged : (id : List ℕ) → substation_id id ≡ tagged id (codes "S")
unfolding substation_id
home_tagged id = refl

-- ---- networks of plain ids

pub record PlainLevel (l : ConfiguredLevel) : Type 0 where
  pub own : Unmarked l.id
  pub buses : Each Unmarked l.buses
  pub switches : Each Unmarked (map (λ (s : BusSwitch). s.id) l.switches)
  pub items : Each Unmarked (map (λ (i : BusInjection). i.id) l.items)

pub record PlainNetwork (n : ConfiguredNetwork) : Type 0 where
  pub levels : Each PlainLevel n.levels
  pub lines : Each Unmarked (map (λ (l : ConfiguredLine). l.id) n.lines)

unmarked_of : (id : List ℕ) → is_plain id ≡ true → Unmarked id
unfolding is_plain
unmarked_of id h = not-true (list_any (λ b. eqb b 33) id) (and_parts (not (list_any (λ b. eqb b 33) id)) _ h).0

each_plain : (ids : List (List ℕ)) → list_all is_plain ids ≡ true → Each Unmarked ids
each_plain [] h = tt
each_plain (x ∷ ids) h = let parts = and_parts (is_plain x) (list_all is_plain ids) h in (unmarked_of x parts.0, each_plain ids parts.1)

each_key : {X : Type 0} (test : X → Bool) (key : X → List ℕ) → ((x : X) → test x ≡ true → Unmarked (key x)) → (xs : List X) → list_all test xs ≡ true → Each Unmarked (map key xs)
each_key test key f [] h = tt
each_key test key f (x ∷ xs) h = let parts = and_parts (test x) (list_all test xs) h in (f x parts.0, each_key test key f xs parts.1)

switch_own : (s : BusSwitch) → switch_plain s ≡ true → Unmarked s.id
unfolding switch_plain
switch_own s h = unmarked_of s.id (and_parts (is_plain s.id) (is_plain s.bus1) (and_parts (is_plain s.id && is_plain s.bus1) (is_plain s.bus2) h).0).0

item_own : (t : BusInjection) → item_plain t ≡ true → Unmarked t.id
unfolding item_plain
item_own t h = unmarked_of t.id (and_parts (is_plain t.id) (is_plain t.bus) h).0

line_own : (l : ConfiguredLine) → line_plain l ≡ true → Unmarked l.id
unfolding line_plain
line_own l h = unmarked_of l.id (and_parts (is_plain l.id) _ (and_parts (is_plain l.id && _) _ h).0).0

level_own : (l : ConfiguredLevel) → level_plain l ≡ true → PlainLevel l
unfolding level_plain
level_own l h =
    let one = and_parts (is_plain l.id && list_all is_plain l.buses && list_all switch_plain l.switches) (list_all item_plain l.items) h in
    let two = and_parts (is_plain l.id && list_all is_plain l.buses) (list_all switch_plain l.switches) one.0 in
    let three = and_parts (is_plain l.id) (list_all is_plain l.buses) two.0 in
    record {
      own = unmarked_of l.id three.0;
      buses = each_plain l.buses three.1;
      switches = each_key switch_plain (λ (s : BusSwitch). s.id) switch_own l.switches two.1;
      items = each_key item_plain (λ (t : BusInjection). t.id) item_own l.items one.1;
    }

levels_own : (ls : List ConfiguredLevel) → list_all level_plain ls ≡ true → Each PlainLevel ls
levels_own [] h = tt
levels_own (l ∷ ls) h = let parts = and_parts (level_plain l) (list_all level_plain ls) h in (level_own l parts.0, levels_own ls parts.1)

pub plain_network : (n : ConfiguredNetwork) → network_plain n ≡ true → PlainNetwork n
unfolding network_plain
plain_network n h =
    let one = and_parts (is_plain n.id && list_all level_plain n.levels) (list_all line_plain n.lines) h in
    let two = and_parts (is_plain n.id) (list_all level_plain n.levels) one.0 in
    record { levels = levels_own n.levels two.1; lines = each_key line_plain (λ (l : ConfiguredLine). l.id) line_own n.lines one.1 }
