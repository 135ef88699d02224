-- What stands in a level, one thing after the other, by what was seen before it.
use Rattle.std.proofs.Common.{◌≡◌, refl, sym, ap, ◌∙◌, ℕ, ◌+◌, ◌<◌, List, [], ◌∷◌, ◌++◌, ◌&&◌, length, get_or, take, append_assoc, subst, Result, Ok, Err}
use Rattle.std.specs.Prelude.{⊤, codes}
use Rattle.std.specs.Result.{IsErrAnd}
use Rattle.std.proofs.lemmas.List.{map-append}
use Rattle.grid_lemmas.proofs.Lists.{take_next}
use Rattle.grid_ids.specs.Name.{has_id, same_id}
use Rattle.grid_json.specs.declared.fault.Fault.{Fault}
use Rattle.grid_json.specs.declared.fault.ReadError.{ReadError}
use Rattle.grid_json.specs.declared.fault.ReadError.TheVariants as errors
use Rattle.grid_json.specs.Reading.{Fails, Gives, under}
use Rattle.grid_kinds.specs.Records.{injection_fault}
use Rattle.grid_json.specs.declared.buses.BusSwitch.{BusSwitch}
use Rattle.grid_json.specs.declared.buses.BusInjection.{BusInjection}
use Rattle.grid_configured.specs.declared.network.ConfiguredLevel.{ConfiguredLevel}
use Rattle.grid_configured.specs.Checks.{bus_check, bus_reasons, item_check, item_ids, item_reasons, list_check, part_ids, parts_check, switch_check, switch_ids, switch_reasons}
use Rattle.grid_json.specs.Seen.{Knows}
use Rattle.grid_configured.proofs.CheckLoops.{each_alike, taken}
use Rattle.grid_json.proofs.IdSets.{knows-append, knows_next}

module _ (ids seen : List (List ℕ)) where
  -- ---- buses

  module _ (buses : List (List ℕ)) (i : ℕ) (bus : List ℕ) (lt : i < length buses) (is : bus ≡ get_or buses i bus) (known : Knows seen (ids ++ take i buses)) where
    pub bus_as : bus_check ids (take i buses) bus ≡ bus_reasons (has_id seen bus) i
    unfolding bus_check
    bus_as = ap (λ t. bus_reasons t (length (take i buses))) (sym (known bus)) ∙ ap (bus_reasons (has_id seen bus)) (taken buses i lt)

    pub buses_known : (now : List (List ℕ)) → Knows now (seen ++ bus ∷ []) → Knows now (ids ++ take (i + 1) buses)
    buses_known now h q = knows_next seen now ids (take i buses) bus known h q ∙ ap (λ z. has_id (ids ++ z) q) (sym (take_next buses i bus lt is))

  -- ---- switches

  module _ (buses : List (List ℕ)) (total : ℕ) (switches : List BusSwitch) (i : ℕ) (s : BusSwitch) (lt : i < length switches) (is : s ≡ get_or switches i s) (known : Knows seen (ids ++ switch_ids (take i switches))) where
    pub switch_as : switch_check ids buses total (take i switches) s ≡ switch_reasons (has_id seen s.id) (has_id buses s.bus1 && has_id buses s.bus2) (same_id s.bus1 s.bus2) i (total + i)
    unfolding switch_check
    switch_as =
        ap (λ t. switch_reasons t (has_id buses s.bus1 && has_id buses s.bus2) (same_id s.bus1 s.bus2) (length (take i switches)) (total + length (take i switches))) (sym (known s.id))
        ∙ ap (λ n. switch_reasons (has_id seen s.id) (has_id buses s.bus1 && has_id buses s.bus2) (same_id s.bus1 s.bus2) n (total + n)) (taken switches i lt)

    pub switches_known : (now : List (List ℕ)) → Knows now (seen ++ s.id ∷ []) → Knows now (ids ++ switch_ids (take (i + 1) switches))
    switches_known now h q =
        knows_next seen now ids (switch_ids (take i switches)) s.id known h q
        ∙ ap (λ z. has_id (ids ++ z) q) (sym (ap switch_ids (take_next switches i s lt is) ∙ map-append (λ (s : BusSwitch). s.id) (take i switches) (s ∷ [])))

  -- ---- injections

  module _ (buses : List (List ℕ)) (nodes edges total : ℕ) (items : List BusInjection) (i : ℕ) (t : BusInjection) (lt : i < length items) (is : t ≡ get_or items i t) (known : Knows seen (ids ++ item_ids (take i items))) where
    pub item_as : item_check ids buses nodes edges total (take i items) t ≡ item_reasons (has_id seen t.id) (has_id buses t.bus) (injection_fault t.item) (nodes + i) (edges + i) (total + i)
    unfolding item_check
    item_as =
        ap (λ b. item_reasons b (has_id buses t.bus) (injection_fault t.item) (nodes + length (take i items)) (edges + length (take i items)) (total + length (take i items))) (sym (known t.id))
        ∙ ap (λ n. item_reasons (has_id seen t.id) (has_id buses t.bus) (injection_fault t.item) (nodes + n) (edges + n) (total + n)) (taken items i lt)

    pub items_known : (now : List (List ℕ)) → Knows now (seen ++ t.id ∷ []) → Knows now (ids ++ item_ids (take (i + 1) items))
    items_known now h q =
        knows_next seen now ids (item_ids (take i items)) t.id known h q
        ∙ ap (λ z. has_id (ids ++ z) q) (sym (ap item_ids (take_next items i t lt is) ∙ map-append (λ (t : BusInjection). t.id) (take i items) (t ∷ [])))

-- ---- what stands in a level, by sets that have its ids

module _ (ids seen own : List (List ℕ)) (total : ℕ) (l : ConfiguredLevel) (known : Knows seen (ids ++ l.buses)) (has : Knows own l.buses) where
  pub switches_alike : list_check (switch_check seen own total) (codes "switches") l.switches ≡ list_check (switch_check (ids ++ l.buses) l.buses total) (codes "switches") l.switches
  unfolding switch_check
  switches_alike = ap (under (codes "switches")) (each_alike (switch_check seen own total) (switch_check (ids ++ l.buses) l.buses total) l.switches same)
    where
      same : (earlier : List BusSwitch) (s : BusSwitch) → switch_check seen own total earlier s ≡ switch_check (ids ++ l.buses) l.buses total earlier s
      same earlier s =
          ap (λ t. switch_reasons t (has_id own s.bus1 && has_id own s.bus2) (same_id s.bus1 s.bus2) (length earlier) (total + length earlier)) (knows-append seen (ids ++ l.buses) (switch_ids earlier) known s.id)
          ∙ ap (λ t. switch_reasons (has_id ((ids ++ l.buses) ++ switch_ids earlier) s.id) (t && has_id own s.bus2) (same_id s.bus1 s.bus2) (length earlier) (total + length earlier)) (has s.bus1)
          ∙ ap (λ t. switch_reasons (has_id ((ids ++ l.buses) ++ switch_ids earlier) s.id) (has_id l.buses s.bus1 && t) (same_id s.bus1 s.bus2) (length earlier) (total + length earlier)) (has s.bus2)

  module _ (more : List (List ℕ)) (later : Knows more (seen ++ switch_ids l.switches)) where
    pub before_items : Knows more (ids ++ (l.buses ++ switch_ids l.switches))
    before_items q = later q ∙ knows-append seen (ids ++ l.buses) (switch_ids l.switches) known q ∙ ap (λ z. has_id z q) (append_assoc ids l.buses (switch_ids l.switches))

    pub items_alike : (nodes edges switches : ℕ) → list_check (item_check more own nodes edges switches) (codes "injections") l.items
        ≡ list_check (item_check (ids ++ (l.buses ++ switch_ids l.switches)) l.buses nodes edges switches) (codes "injections") l.items
    unfolding item_check
    items_alike nodes edges switches = ap (under (codes "injections")) (each_alike (item_check more own nodes edges switches) (item_check (ids ++ (l.buses ++ switch_ids l.switches)) l.buses nodes edges switches) l.items same)
      where
        same : (earlier : List BusInjection) (t : BusInjection) → item_check more own nodes edges switches earlier t ≡ item_check (ids ++ (l.buses ++ switch_ids l.switches)) l.buses nodes edges switches earlier t
        same earlier t =
            ap (λ b. item_reasons b (has_id own t.bus) (injection_fault t.item) (nodes + length earlier) (edges + length earlier) (switches + length earlier)) (knows-append more (ids ++ (l.buses ++ switch_ids l.switches)) (item_ids earlier) before_items t.id)
            ∙ ap (λ b. item_reasons (has_id ((ids ++ (l.buses ++ switch_ids l.switches)) ++ item_ids earlier) t.id) b (injection_fault t.item) (nodes + length earlier) (edges + length earlier) (switches + length earlier)) (has t.bus)

    pub all_known : (now : List (List ℕ)) → Knows now (more ++ item_ids l.items) → Knows now (ids ++ part_ids l)
    all_known now h q =
        h q ∙ knows-append more (ids ++ (l.buses ++ switch_ids l.switches)) (item_ids l.items) before_items q
        ∙ ap (λ z. has_id z q) (append_assoc ids (l.buses ++ switch_ids l.switches) (item_ids l.items) ∙ ap (λ z. ids ++ z) (append_assoc l.buses (switch_ids l.switches) (item_ids l.items)))

-- ---- the buses, then the switches, then the injections

module _ (ids seen own more : List (List ℕ)) (total : ℕ) (l : ConfiguredLevel) (known : Knows seen (ids ++ l.buses)) (has : Knows own l.buses)
    (right : list_check (bus_check ids) (codes "buses") l.buses ≡ Ok tt) where
  -- a switch that is wrong
  pub parts_stop : (e : ReadError) → Fails e (list_check (switch_check seen own total) (codes "switches") l.switches) → Fails e (parts_check ids total l)
  unfolding parts_check
  parts_stop errors.Memory h = tt
  parts_stop (errors.Fault f) h = rw (right, sym (switches_alike ids seen own total l known has) ∙ h) refl

  -- the switches are right
  pub parts_end : (r : Result ⊤ ReadError) → list_check (switch_check seen own total) (codes "switches") l.switches ≡ Ok tt → Knows more (seen ++ switch_ids l.switches)
      → Gives r (list_check (item_check more own (length l.buses) (length l.switches) (total + length l.switches)) (codes "injections") l.items) → Gives r (parts_check ids total l)
  unfolding parts_check
  parts_end r h later g =
      let same : parts_check ids total l ≡ list_check (item_check (ids ++ (l.buses ++ switch_ids l.switches)) l.buses (length l.buses) (length l.switches) (total + length l.switches)) (codes "injections") l.items =
      rw (right, sym (switches_alike ids seen own total l known has) ∙ h) refl in
      subst (Gives r) (items_alike ids seen own total l known has more later (length l.buses) (length l.switches) (total + length l.switches) ∙ sym same) g

-- an error that is handed on
pub fails_on : (r : Result ⊤ ReadError) (e : ReadError) (x : Result ⊤ Fault) → IsErrAnd r (λ f. f ≡ e) → Fails e x → Gives r x
fails_on (Ok done) e x h g = absurd h
fails_on (Err f) e x h g = subst (λ z. Fails z x) (sym h) g

-- ---- sets with the same ids

pub parts_alike : (seen ids : List (List ℕ)) (total : ℕ) (l : ConfiguredLevel) → Knows seen ids → parts_check seen total l ≡ parts_check ids total l
unfolding parts_check bus_check switch_check item_check
parts_alike seen ids total l known =
    let buses : list_check (bus_check seen) (codes "buses") l.buses ≡ list_check (bus_check ids) (codes "buses") l.buses =
    ap (under (codes "buses")) (each_alike (bus_check seen) (bus_check ids) l.buses (λ earlier bus. ap (λ t. bus_reasons t (length earlier)) (knows-append seen ids earlier known bus))) in
    let switches : list_check (switch_check (seen ++ l.buses) l.buses total) (codes "switches") l.switches ≡ list_check (switch_check (ids ++ l.buses) l.buses total) (codes "switches") l.switches =
    switches_alike ids (seen ++ l.buses) l.buses total l (knows-append seen ids l.buses known) (λ q. refl) in
    let items : list_check (item_check (seen ++ (l.buses ++ switch_ids l.switches)) l.buses (length l.buses) (length l.switches) (total + length l.switches)) (codes "injections") l.items
    ≡ list_check (item_check (ids ++ (l.buses ++ switch_ids l.switches)) l.buses (length l.buses) (length l.switches) (total + length l.switches)) (codes "injections") l.items =
    items_alike ids (seen ++ l.buses) l.buses total l (knows-append seen ids l.buses known) (λ q. refl) (seen ++ (l.buses ++ switch_ids l.switches)) (λ q. ap (λ z. has_id z q) (sym (append_assoc seen l.buses (switch_ids l.switches)))) (length l.buses) (length l.switches) (total + length l.switches) in
    rw (buses, switches, items) refl
