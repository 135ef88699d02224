-- Loading the buses of a level one after the other, as a loop does.
use Rattle.std.proofs.Common.{◌≡◌, ℕ, suc, pos, ◌+◌, ◌<◌, ◌≤◌, Bool, true, false, cond, List, ◌∷◌, length, get_or, drop, Result, Ok, Err, refl, sym, ap, ◌∙◌, add-one, drop-cons}
use Rattle.std.specs.Prelude.{decimal, nat_le}
use Rattle.std.proofs.lemmas.Bool.{leb-true}
use Rattle.std.proofs.lemmas.List.{drop_all}
use Rattle.grid_ids.specs.Refusing.{refuse_if, found_or, map_fault}
use Rattle.grid_level.specs.declared.Stand.TheVariants.{Busbar}
use Rattle.grid_level.specs.VoltageLevel.{VoltageLevel}
use Rattle.grid_level.specs.LevelEdits.{Unfit, node_range, max_node, node_of, terminal_fits, level_with_terminal}
use Rattle.grid_level.proofs.LevelEdits.{went}
use Rattle.grid_structure.specs.declared.Edit.TheVariants as edits
use Rattle.grid_structure.specs.declared.EditFault.{EditFault}
use Rattle.grid_structure.specs.declared.EditFault.TheVariants as faults
use Rattle.grid_structure.specs.Network.{Network}
use Rattle.grid_structure.specs.Sites.{level_named, taken}
use Rattle.grid_structure.specs.Editing.{apply, edit_fault}
use Rattle.grid_structure.proofs.OneLevel.{fits}
use Rattle.grid_json.specs.declared.fault.Fault.{Fault}
use Rattle.grid_json.specs.declared.fault.ReadError.{ReadError}
use Rattle.grid_json.specs.declared.fault.ReadError.TheVariants as errors
use Rattle.grid_json.specs.Reading.{Fails, IsUnder, placed}
use Rattle.grid_json.specs.Loading.{buses_load, edited, refused}

one_more : (buses : List (List ℕ)) (place : ℕ) (bus : List ℕ) → place < length buses → bus ≡ get_or buses place bus → drop place buses ≡ bus ∷ drop (place + 1) buses
one_more buses place bus less is = rw add-one (drop-cons buses place bus less ∙ ap (λ z. z ∷ drop (suc place) buses) (sym is))

-- ---- the node of a bus that was added is one

pub accepted : (r : Result Network EditFault) (new : Network) → refused r ≡ Ok new → r ≡ Ok new
accepted (Ok net) new h = cc
accepted (Err fault) new h = cc

in_range : (n m : ℕ) → node_of (pos n) ≡ Ok m → n ≤ max_node
unfolding node_of
in_range n m h = by (nat_le n max_node) refl h
  where
    by : (t : Bool) → nat_le n max_node ≡ t → ◌≡◌ {A = Result ℕ Unfit} (cond t (Ok n) (Err (node_range (pos n)))) (Ok m) → n ≤ max_node
    by true is e = leb-true n max_node is
    by false is e = cc

node_there : (level new : VoltageLevel) (bus : List ℕ) (n : ℕ) → level_with_terminal level (pos n) (record { equipment = bus; side = 1 }) Busbar ≡ Ok new → n ≤ max_node
unfolding level_with_terminal terminal_fits
node_there level new bus n h =
    let fit = went (terminal_fits level (pos n)) _ new h in
    let node = went (node_of (pos n)) _ fit.value fit.is in
    in_range n node.value node.is

pub bus_in_range : (net new : Network) (bus level : List ℕ) (n : ℕ) → edited (edits.AddBusbar bus level (pos n)) net ≡ Ok new → n ≤ 65535
unfolding apply
bus_in_range net new bus level n h =
    let t = went (refuse_if (taken net bus) faults.IdTaken) _ new (accepted (apply net (edits.AddBusbar bus level (pos n))) new h) in
    let o = went (found_or (level_named net level) faults.NoLevel) _ new t.next in
    let m = went (map_fault edit_fault (level_with_terminal o.value (pos n) (record { equipment = bus; side = 1 }) Busbar)) _ new o.next in
    node_there o.value m.value bus n (fits _ _ _ m.is)

-- ---- the loop

module _ (buses : List (List ℕ)) (level : List ℕ) (place : ℕ) (net : Network) (total : Result Network Fault) (so_far : buses_load place (drop place buses) level net ≡ total) where
  pub bus_goes_on : (bus : List ℕ) (new : Network) → place < length buses → bus ≡ get_or buses place bus → edited (edits.AddBusbar bus level (pos place)) net ≡ Ok new
      → buses_load (place + 1) (drop (place + 1) buses) level new ≡ total
  unfolding buses_load
  bus_goes_on bus new less is h =
      let one : buses_load place (drop place buses) level net ≡ buses_load (suc place) (drop (place + 1) buses) level new = rw (one_more buses place bus less is, h) refl in
      let next : buses_load (place + 1) (drop (place + 1) buses) level new ≡ buses_load (suc place) (drop (place + 1) buses) level new = ap (λ z. buses_load z (drop (place + 1) buses) level new) (add-one place) in
      next ∙ sym one ∙ so_far

  pub bus_ends : (bus : List ℕ) (e r : ReadError) → place < length buses → bus ≡ get_or buses place bus → Fails e (edited (edits.AddBusbar bus level (pos place)) net) → IsUnder (decimal place) e r → Fails r total
  unfolding buses_load
  bus_ends bus e errors.Memory less is h u = tt
  bus_ends bus errors.Memory (errors.Fault g) less is h u = absurd u
  bus_ends bus (errors.Fault f) (errors.Fault g) less is h u =
      let one : buses_load place (drop place buses) level net ≡ Err (placed (decimal place) f) = rw (one_more buses place bus less is, h) refl in
      sym so_far ∙ one ∙ ap Err (sym u)

  pub buses_done : length buses ≤ place → total ≡ Ok net
  unfolding buses_load
  buses_done over =
      let one : buses_load place (drop place buses) level net ≡ Ok net = rw (drop_all place buses over) refl in
      sym so_far ∙ one
