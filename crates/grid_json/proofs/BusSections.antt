-- The buses of a level that were loaded are its busbar sections.
use Rattle.std.proofs.Common.{◌≡◌, refl, sym, ap, ◌∙◌, ℕ, suc, pos, ◌+◌, Bool, true, false, cond, List, [], ◌∷◌, ◌++◌, length, Option, Some, Result, Ok, Err, arith, append_assoc}
use Rattle.std.specs.Prelude.{decimal, find, map, nat_le, nat_lt}
use Rattle.std.specs.List.{enumerate_from}
use Rattle.std.proofs.lemmas.Bool.{lt-ltb}
use Rattle.std.proofs.lemmas.List.{append-nil, length-append}
use Rattle.grid_lemmas.proofs.Options.{some_is}
use Rattle.grid_ids.specs.Name.{same_id}
use Rattle.grid_ids.specs.Refusing.{◌>>=◌, refuse_if, found_or, map_fault}
use Rattle.grid_level.specs.declared.Stand.TheVariants.{Busbar}
use Rattle.grid_level.specs.VoltageLevel.{VoltageLevel}
use Rattle.grid_level.specs.LevelEdits.{Unfit, node_range, too_many_nodes, max_node, max_nodes, node_of, refuse_taken, terminal_fits, level_with_terminal, with_placed}
use Rattle.grid_level.specs.Passing.{nodes, placed_at, with_node}
use Rattle.grid_level.proofs.LevelEdits.{went}
use Rattle.grid_placed.specs.Translation.{bus_section}
use Rattle.grid_structure.specs.declared.Edit.TheVariants as edits
use Rattle.grid_structure.specs.declared.EditFault.TheVariants as faults
use Rattle.grid_structure.specs.Network.{Network}
use Rattle.grid_structure.specs.Sites.{levels, level_named, taken}
use Rattle.grid_structure.specs.Editing.{apply, edit_fault, with_level}
use Rattle.grid_structure.proofs.Frames.{is_same, put, stands}
use Rattle.grid_structure.proofs.Levels.{levels-with_levels}
use Rattle.grid_structure.proofs.OneLevel.{fits, found}
use Rattle.grid_json.specs.Reading.{under}
use Rattle.grid_json.specs.Loading.{buses_load, edited}
use Rattle.grid_json.specs.BusPositions.{BusesAreSections}
use Rattle.grid_json.proofs.BusLoops.{accepted}
use Rattle.grid_json.proofs.Results.{bound, inside}

-- ---- a level in the place of one

pub put_named : (id : List ℕ) (old new : VoltageLevel) (ls : List VoltageLevel) → find (λ (l : VoltageLevel). same_id id l.id) ls ≡ Some old → new.id ≡ id → find (λ (l : VoltageLevel). same_id id l.id) (map (put new) ls) ≡ Some new
put_named id old new [] e own = cc
put_named id old new (l ∷ ls) e own = by (same_id id l.id) refl e (put_named id old new ls)
  where
    test : same_id new.id l.id ≡ same_id id l.id
    test = ap (λ z. same_id z l.id) own

    by : (t : Bool) → same_id id l.id ≡ t → ◌≡◌ {A = Option VoltageLevel} (cond t (Some l) (find (λ (l : VoltageLevel). same_id id l.id) ls)) (Some old)
        → (find (λ (l : VoltageLevel). same_id id l.id) ls ≡ Some old → new.id ≡ id → find (λ (l : VoltageLevel). same_id id l.id) (map (put new) ls) ≡ Some new)
        → find (λ (l : VoltageLevel). same_id id l.id) (map (put new) (l ∷ ls)) ≡ Some new
    by true is h again = rw (test ∙ is, is_same id new.id (sym own)) refl
    by false is h again = rw (test ∙ is, is) (again h own)

level_put : (net : Network) (id : List ℕ) (old new : VoltageLevel) → level_named net id ≡ Some old → new.id ≡ old.id → level_named (with_level new net) id ≡ Some new
unfolding level_named with_level
level_put net id old new e same =
    ap (find (λ (l : VoltageLevel). same_id id l.id)) (levels-with_levels (put new) net)
    ∙ put_named id old new (levels net) e (same ∙ sym (stands id (levels net) old e).named)

-- ---- one bus more

pub node_is : (n m : ℕ) → node_of (pos n) ≡ Ok m → n ≡ m
unfolding node_of
node_is n m h = by (nat_le n max_node) h
  where
    by : (t : Bool) → ◌≡◌ {A = Result ℕ Unfit} (cond t (Ok n) (Err (node_range (pos n)))) (Ok m) → n ≡ m
    by true e = cc
    by false e = cc

level_more : (level new : VoltageLevel) (bus : List ℕ) (n : ℕ) → level_with_terminal level (pos n) (record { equipment = bus; side = 1 }) Busbar ≡ Ok new → new ≡ record level { placed = with_placed (bus_section (n, bus)) level.placed }
unfolding level_with_terminal terminal_fits bus_section
level_more level new bus n h =
    let fit = went (terminal_fits level (pos n)) _ new h in
    let node = went (node_of (pos n)) _ fit.value fit.is in
    let first : n ≡ node.value = node_is n node.value node.is in
    let many = nat_lt max_nodes (length (with_node node.value (nodes level))) in
    let rest = went (refuse_taken (placed_at level node.value)) (λ _. refuse_if many too_many_nodes >>= λ _. Ok node.value) fit.value node.next in
    let last = went (refuse_if many too_many_nodes) (λ _. Ok node.value) fit.value rest.next in
    let same : node.value ≡ fit.value = cc (last.next) in
    let made : record level { placed = with_placed (bus_section (fit.value, bus)) level.placed } ≡ new = cc (fit.next) in
    sym made ∙ ap (λ (z : ℕ). record level { placed = with_placed (bus_section (z, bus)) level.placed }) (sym (first ∙ same))

network_more : (net new : Network) (bus level : List ℕ) (n : ℕ) (old : VoltageLevel) → level_named net level ≡ Some old → edited (edits.AddBusbar bus level (pos n)) net ≡ Ok new
    → level_named new level ≡ Some (record old { placed = with_placed (bus_section (n, bus)) old.placed })
unfolding apply
network_more net new bus level n old named h =
    let t = went (refuse_if (taken net bus) faults.IdTaken) _ new (accepted (apply net (edits.AddBusbar bus level (pos n))) new h) in
    let o = went (found_or (level_named net level) faults.NoLevel) _ new t.next in
    let m = went (map_fault edit_fault (level_with_terminal o.value (pos n) (record { equipment = bus; side = 1 }) Busbar)) _ new o.next in
    let own : o.value ≡ old = some_is o.value old (sym (found _ _ _ o.is) ∙ named) in
    let made : m.value ≡ record old { placed = with_placed (bus_section (n, bus)) old.placed } = level_more o.value m.value bus n (fits _ _ _ m.is) ∙ ap (λ (z : VoltageLevel). record z { placed = with_placed (bus_section (n, bus)) z.placed }) own in
    let is : with_level m.value net ≡ new = cc (m.next) in
    ap (λ (z : Network). level_named z level) (sym is) ∙ level_put net level old m.value named (ap (λ (z : VoltageLevel). z.id) made) ∙ ap (λ (z : VoltageLevel). Some z) made

-- ---- all buses

put_last : (place n : ℕ) (front : List (List ℕ)) (bus : List ℕ) → n ≡ place + length front → with_placed (bus_section (n, bus)) (map bus_section (enumerate_from place front)) ≡ map bus_section (enumerate_from place (front ++ bus ∷ []))
unfolding with_placed bus_section
put_last place n [] bus e = let same : n ≡ place = omega (arith, e) in ap (λ z. bus_section (z, bus) ∷ []) same
put_last place n (b ∷ front) bus e =
    let less : nat_lt place n ≡ true = lt-ltb place n (omega (arith, e)) in
    rw (less, put_last (place + 1) n front bus (omega (arith, e))) refl

sections_loaded : (level : List ℕ) (old : VoltageLevel) (rest front : List (List ℕ)) (place : ℕ) (net new : Network) → place ≡ length front → level_named net level ≡ Some (record old { placed = map bus_section (enumerate_from 0 front) }) → buses_load place rest level net ≡ Ok new
    → level_named new level ≡ Some (record old { placed = map bus_section (enumerate_from 0 (front ++ rest)) })
unfolding buses_load
sections_loaded level old [] front place net new at named h =
    let same : net ≡ new = cc in
    ap (λ (z : Network). level_named z level) (sym same) ∙ named ∙ ap (λ z. Some (record old { placed = map bus_section (enumerate_from 0 z) })) (sym (append-nil front))
sections_loaded level old (bus ∷ rest) front place net new at named h =
    let one = bound (under (decimal place) (edited (edits.AddBusbar bus level (pos place)) net)) (buses_load (suc place) rest level) new h in
    let done = inside (decimal place) (edited (edits.AddBusbar bus level (pos place)) net) one.0 one.1 in
    let more = network_more net one.0 bus level place (record old { placed = map bus_section (enumerate_from 0 front) }) named done in
    let last : with_placed (bus_section (place, bus)) (map bus_section (enumerate_from 0 front)) ≡ map bus_section (enumerate_from 0 (front ++ bus ∷ [])) = put_last 0 place front bus (omega (arith, at)) in
    sections_loaded level old rest (front ++ bus ∷ []) (suc place) one.0 new (omega (arith, at, length-append front (bus ∷ []))) (more ∙ ap (λ z. Some (record old { placed = z })) last) one.2
    ∙ ap (λ z. Some (record old { placed = map bus_section (enumerate_from 0 z) })) (append_assoc front (bus ∷ []) rest)

pub buses_are_sections : BusesAreSections
buses_are_sections net new level old buses named none h =
    sections_loaded level old buses [] 0 net new refl (named ∙ ap (λ z. Some (record old { placed = z })) none) h
