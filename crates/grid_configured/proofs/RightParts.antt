-- What the checks say of each thing in which they find no fault.
use Rattle.std.proofs.Common.{◌≡◌, refl, sym, ap, ◌∙◌, subst, ℕ, zero, suc, ◌+◌, ◌<◌, Bool, true, false, not, ◌&&◌, List, [], ◌∷◌, ◌++◌, length, get_or, take, Result, Ok, Err, append_assoc}
use Rattle.std.specs.Prelude.{Option, Some, None, position, unwrap_or, slice_get, decimal, nat_le, ⊤, All}
use Rattle.std.proofs.lemmas.Bool.{and_parts, true≢false, not-false, leb-false}
use Rattle.std.proofs.lemmas.List.{append-nil}
use Rattle.std.proofs.lemmas.List.Elements.{All-nil, All-cons}
use Rattle.std.proofs.lemmas.Option.{slice_get-get_or}
use Rattle.std.proofs.lemmas.Slice.Eq.{bytes_eq-Decides}
use Rattle.grid_ids.specs.Name.{same_id, has_id}
use Rattle.grid_ids.specs.Refusing.{refuse_if, refuse_by, found_or}
use Rattle.grid_kinds.specs.Records.{level_fault, injection_fault}
use Rattle.grid_kinds.specs.declared.CheckFault.{CheckFault}
use Rattle.grid_level.specs.LevelEdits.{max_nodes, max_edges}
use Rattle.grid_structure.specs.Editing.{max_levels, max_switches}
use Rattle.grid_structure.proofs.Places.{position_none, position_found}
use Rattle.grid_paths.proofs.Least.{some_same, some_none}
use Rattle.grid_json.specs.declared.fault.Fault.{Fault}
use Rattle.grid_json.specs.Reading.{under}
use Rattle.grid_json.proofs.Results.{bound, inside}
use Rattle.grid_json.specs.declared.buses.BusSwitch.{BusSwitch}
use Rattle.grid_json.specs.declared.buses.BusInjection.{BusInjection}
use Rattle.grid_json.specs.declared.buses.BusEnd.{BusEnd}
use Rattle.grid_configured.specs.declared.network.ConfiguredLine.{ConfiguredLine}
use Rattle.grid_configured.specs.declared.network.ConfiguredLevel.{ConfiguredLevel}
use Rattle.grid_configured.specs.Checks as checks
use Rattle.grid_configured.specs.Checks.{each_check, ids_of, level_nodes, level_edges, ends_in, line_ends, level_of, level_check, level_reasons, id_reasons, bus_check, bus_reasons, switch_check, switch_reasons, buses_reasons, item_check, item_reasons, terminal_reasons, end_reasons, end_check, line_check, record_fault}
use Rattle.grid_configured.specs.Levels.{bus_place}

-- ---- steps that are right

pub not_refused : (t : Bool) (f : Fault) (u : ⊤) → refuse_if t f ≡ Ok u → t ≡ false
not_refused true f u h = absurd (let k : Err f ≡ Ok u = h in cc)
not_refused false f u h = refl

-- each thing is right, behind some earlier ones
pub each_right : {A : Type 0} (check : List A → A → Result ⊤ Fault) (P : A → Type 0) → ((earlier : List A) (x : A) → check earlier x ≡ Ok tt → P x) → (earlier : List A) (i : ℕ) (xs : List A) → each_check check earlier i xs ≡ Ok tt → All P xs
unfolding each_check
each_right check P f earlier i [] h = All-nil P
each_right check P f earlier i (x ∷ xs) h =
    let r = bound (under (decimal i) (check earlier x)) (λ _. each_check check (earlier ++ x ∷ []) (suc i) xs) tt h in
    All-cons P x xs (f earlier x (inside (decimal i) (check earlier x) tt r.1)) (each_right check P f (earlier ++ x ∷ []) (suc i) xs r.2)

-- what a thing in which there is no fault leaves as it was, all of them leave
pub each_keeps : {A : Type 0} (check : List A → A → Result ⊤ Fault) (P : List A → Type 0) → ((earlier : List A) (x : A) → check earlier x ≡ Ok tt → P earlier → P (earlier ++ x ∷ []))
    → (earlier : List A) (i : ℕ) (xs : List A) → each_check check earlier i xs ≡ Ok tt → P earlier → P (earlier ++ xs)
unfolding each_check
each_keeps check P f earlier i [] h p = subst P (sym (append-nil earlier)) p
each_keeps check P f earlier i (x ∷ xs) h p =
    let r = bound (under (decimal i) (check earlier x)) (λ _. each_check check (earlier ++ x ∷ []) (suc i) xs) tt h in
    subst P (append_assoc earlier (x ∷ []) xs) (each_keeps check P f (earlier ++ x ∷ []) (suc i) xs r.2 (f earlier x (inside (decimal i) (check earlier x) tt r.1) p))

-- ---- one thing

pub level_few : (earlier : List ConfiguredLevel) (l : ConfiguredLevel) → level_check earlier l ≡ Ok tt → (length earlier < max_levels) × (level_fault l.nominal_v None None ≡ None)
unfolding level_check level_reasons
level_few earlier l h =
    let one = bound (level_reasons (has_id (ids_of earlier) l.id) (length earlier) (level_fault l.nominal_v None None)) _ tt h in
    let two = bound (id_reasons (has_id (ids_of earlier) l.id)) _ tt one.1 in
    let three = bound (refuse_if (nat_le max_levels (length earlier)) _) _ tt two.2 in
    (leb-false max_levels (length earlier) (not_refused (nat_le max_levels (length earlier)) _ _ three.1), none_of (level_fault l.nominal_v None None) three.2)
  where
    none_of : (o : Option CheckFault) → refuse_by record_fault o ≡ Ok tt → o ≡ None
    none_of None e = refl
    none_of (Some f) e = absurd (let k : Err (record_fault f) ≡ Ok tt = e in cc)

pub bus_few : (ids earlier : List (List ℕ)) (bus : List ℕ) → bus_check ids earlier bus ≡ Ok tt → length earlier < max_nodes
unfolding bus_check bus_reasons
bus_few ids earlier bus h =
    let one = bound (id_reasons (has_id (ids ++ earlier) bus)) _ tt h in
    leb-false max_nodes (length earlier) (not_refused (nat_le max_nodes (length earlier)) _ _ one.2)

-- what is right with a switch
pub record SwitchRight (buses : List (List ℕ)) (edges switches : ℕ) (s : BusSwitch) : Type 0 where
  pub one : has_id buses s.bus1 ≡ true
  pub two : has_id buses s.bus2 ≡ true
  pub apart : same_id s.bus1 s.bus2 ≡ false
  pub edges_few : edges < max_edges
  pub switches_few : switches < max_switches

pub switch_right : (ids buses : List (List ℕ)) (count : ℕ) (earlier : List BusSwitch) (s : BusSwitch) → switch_check ids buses count earlier s ≡ Ok tt → SwitchRight buses (length earlier) (count + length earlier) s
unfolding switch_check switch_reasons buses_reasons
switch_right ids buses count earlier s h =
    let there = has_id buses s.bus1 && has_id buses s.bus2 in
    let one = bound (id_reasons _) _ tt h in
    let two = bound (buses_reasons there (same_id s.bus1 s.bus2)) _ tt one.2 in
    let three = bound (refuse_if (not there) _) _ tt two.1 in
    let four = bound (refuse_if (nat_le max_edges (length earlier)) _) _ tt two.2 in
    let both = and_parts (has_id buses s.bus1) (has_id buses s.bus2) (not-false there (not_refused (not there) _ _ three.1)) in
    record {
      one = both.0;
      two = both.1;
      apart = not_refused (same_id s.bus1 s.bus2) _ _ three.2;
      edges_few = leb-false max_edges (length earlier) (not_refused (nat_le max_edges (length earlier)) _ _ four.1);
      switches_few = leb-false max_switches (count + length earlier) (not_refused (nat_le max_switches (count + length earlier)) _ _ four.2);
    }

-- what is right with a terminal, where there are so many nodes, edges and switches
pub record TerminalRight (nodes edges switches : ℕ) : Type 0 where
  pub nodes_few : nodes < max_nodes
  pub edges_few : edges < max_edges
  pub switches_few : switches < max_switches

pub terminal_right : (nodes edges switches : ℕ) → terminal_reasons nodes edges switches ≡ Ok tt → TerminalRight nodes edges switches
unfolding terminal_reasons
terminal_right nodes edges switches h =
    let one = bound (refuse_if (nat_le max_nodes nodes) _) _ tt h in
    let two = bound (refuse_if (nat_le max_edges edges) _) _ tt one.2 in
    record {
      nodes_few = leb-false max_nodes nodes (not_refused (nat_le max_nodes nodes) _ _ one.1);
      edges_few = leb-false max_edges edges (not_refused (nat_le max_edges edges) _ _ two.1);
      switches_few = leb-false max_switches switches (not_refused (nat_le max_switches switches) _ _ two.2);
    }

-- what is right with an injection
pub record ItemRight (buses : List (List ℕ)) (nodes edges switches : ℕ) (t : BusInjection) : Type 0 where
  pub there : has_id buses t.bus ≡ true
  pub fault : injection_fault t.item ≡ None
  pub few : TerminalRight nodes edges switches

pub item_right : (ids buses : List (List ℕ)) (nodes edges count : ℕ) (earlier : List BusInjection) (t : BusInjection) → item_check ids buses nodes edges count earlier t ≡ Ok tt → ItemRight buses (nodes + length earlier) (edges + length earlier) (count + length earlier) t
unfolding item_check item_reasons
item_right ids buses nodes edges count earlier t h =
    let one = bound (id_reasons _) _ tt h in
    let two = bound (refuse_if (not (has_id buses t.bus)) _) _ tt one.2 in
    let three = bound (refuse_by record_fault (injection_fault t.item)) _ tt two.2 in
    record {
      there = not-false (has_id buses t.bus) (not_refused (not (has_id buses t.bus)) _ _ two.1);
      fault = none_of (injection_fault t.item) three.1;
      few = terminal_right (nodes + length earlier) (edges + length earlier) (count + length earlier) three.2;
    }
  where
    none_of : (o : Option CheckFault) → refuse_by record_fault o ≡ Ok tt → o ≡ None
    none_of None e = refl
    none_of (Some f) e = absurd (let k : Err (record_fault f) ≡ Ok tt = e in cc)

-- buses of different ids are at different places
pub places_apart : (buses : List (List ℕ)) (a b : List ℕ) → has_id buses a ≡ true → has_id buses b ≡ true → same_id a b ≡ false → bus_place buses a ≡ bus_place buses b → ⊥
unfolding bus_place has_id
places_apart buses a b one two other e = by (position (same_id a) buses) refl (position (same_id b) buses) refl e
  where
    by : (o : Option ℕ) → position (same_id a) buses ≡ o → (q : Option ℕ) → position (same_id b) buses ≡ q → unwrap_or o 0 ≡ unwrap_or q 0 → ⊥
    by None f q g same = true≢false (sym one ∙ position_none (same_id a) buses f)
    by (Some i) f None g same = true≢false (sym two ∙ position_none (same_id b) buses g)
    by (Some i) f (Some k) g same =
        let at_a = position_found (same_id a) buses i f in
        let at_b = position_found (same_id b) buses k g in
        let x = get_or buses i [] in
        let got = slice_get-get_or buses i [] at_a.0 in
        let ax : a ≡ x = (bytes_eq-Decides a x).0 (at_a.1 x got) in
        let bx : b ≡ x = (bytes_eq-Decides b x).0 (at_b.1 x (ap (slice_get buses) (sym same) ∙ got)) in
        true≢false (sym ((bytes_eq-Decides a b).1 (ax ∙ sym bx)) ∙ other)

pub found_right : {A : Type 0} (o : Option A) (f : Fault) (x : A) → found_or o f ≡ Ok x → o ≡ Some x
found_right None f x h = absurd (let k : Err f ≡ Ok x = h in cc)
found_right (Some y) f x h = let k : Ok y ≡ Ok x = h in cc

-- an end's level is there, and has its bus
pub record EndStands (levels : List ConfiguredLevel) (e : BusEnd) : Type 0 where
  pub level : ConfiguredLevel
  pub found : level_of levels e.level ≡ Some level
  pub there : has_id level.buses e.bus ≡ true

-- what is right with an end of a line
pub record EndRight (levels : List ConfiguredLevel) (earlier : List BusEnd) (e : BusEnd) : Type 0 where
  pub stands : EndStands levels e
  pub few : TerminalRight (level_nodes stands.level + ends_in e.level earlier) (level_edges stands.level + ends_in e.level earlier) (checks.switch_total levels + length earlier)

pub end_right : (levels : List ConfiguredLevel) (earlier : List BusEnd) (e : BusEnd) → end_check levels earlier e ≡ Ok tt → EndRight levels earlier e
unfolding end_check end_reasons
end_right levels earlier e h =
    let one = bound (found_or (level_of levels e.level) _) _ tt h in
    let two = bound (refuse_if (not (has_id one.0.buses e.bus)) _) _ tt one.2 in
    record {
      stands = record {
        level = one.0;
        found = found_right (level_of levels e.level) _ one.0 one.1;
        there = not-false (has_id one.0.buses e.bus) (not_refused (not (has_id one.0.buses e.bus)) _ _ two.1);
      };
      few = terminal_right (level_nodes one.0 + ends_in e.level earlier) (level_edges one.0 + ends_in e.level earlier) (checks.switch_total levels + length earlier) two.2;
    }

pub record LineRight (levels : List ConfiguredLevel) (earlier : List ConfiguredLine) (line : ConfiguredLine) : Type 0 where
  pub first : EndRight levels (line_ends earlier) line.end1
  pub second : EndRight levels (line_ends earlier ++ line.end1 ∷ []) line.end2

pub line_right : (levels : List ConfiguredLevel) (earlier : List ConfiguredLine) (line : ConfiguredLine) → line_check levels earlier line ≡ Ok tt → LineRight levels earlier line
unfolding line_check
line_right levels earlier line h =
    let one = bound (id_reasons _) _ tt h in
    let two = bound (end_check levels (line_ends earlier) line.end1) _ tt one.2 in
    record { first = end_right levels (line_ends earlier) line.end1 two.1; second = end_right levels (line_ends earlier ++ line.end1 ∷ []) line.end2 two.2 }

-- both ends of a line stand
pub record LineStands (levels : List ConfiguredLevel) (line : ConfiguredLine) : Type 0 where
  pub first : EndStands levels line.end1
  pub second : EndStands levels line.end2

pub line_stands : (levels : List ConfiguredLevel) (earlier : List ConfiguredLine) (line : ConfiguredLine) → line_check levels earlier line ≡ Ok tt → LineStands levels line
line_stands levels earlier line h = let r = line_right levels earlier line h in record { first = r.first.stands; second = r.second.stands }

-- each thing is right behind those before it
pub check_at : {A : Type 0} (check : List A → A → Result ⊤ Fault) (earlier : List A) (i : ℕ) (xs : List A) (k : ℕ) (x : A) → each_check check earlier i xs ≡ Ok tt → slice_get xs k ≡ Some x → check (earlier ++ take k xs) x ≡ Ok tt
unfolding each_check
check_at check earlier i [] k x h e = absurd (some_none x e)
check_at check earlier i (y ∷ xs) zero x h e =
    let r = bound (under (decimal i) (check earlier y)) (λ _. each_check check (earlier ++ y ∷ []) (suc i) xs) tt h in
    ap (λ z. check z x) (append-nil earlier) ∙ ap (check earlier) (sym (some_same y x e)) ∙ inside (decimal i) (check earlier y) tt r.1
check_at check earlier i (y ∷ xs) (suc k) x h e =
    let r = bound (under (decimal i) (check earlier y)) (λ _. each_check check (earlier ++ y ∷ []) (suc i) xs) tt h in
    ap (λ z. check z x) (sym (append_assoc earlier (y ∷ []) (take k xs))) ∙ check_at check (earlier ++ y ∷ []) (suc i) xs k x r.2 e
