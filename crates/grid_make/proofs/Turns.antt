-- Edits and lists that are made in turn, as loops make them.
use Rattle.std.proofs.Common.{◌≡◌, ℕ, zero, suc, ◌+◌, ◌-◌, ◌*◌, ◌<◌, ◌≤◌, List, [], ◌∷◌, ◌++◌, Result, Ok, Err, IsOk, refl, sym, ap, ◌∙◌, arith}
use Rattle.std.proofs.Math.Nat.{mul-suc}
use Rattle.std.proofs.lemmas.List.{append_assoc, append-nil}
use Rattle.grid_structure.specs.declared.Edit.{Edit}
use Rattle.grid_structure.specs.declared.EditFault.{EditFault}
use Rattle.grid_structure.specs.Network.{Network}
use Rattle.grid_structure.specs.Editing.{apply}
use Rattle.grid_ids.specs.Refusing.{◌>>=◌}
use Rattle.grid_requests.specs.Changes.{changed_or}
use Rattle.grid_make.specs.Draws.{next, later, in_turn}
use Rattle.grid_make.specs.MadeNetwork.{network_after, unrefused}

-- after the first edits the others
bind_all : (answer : Result Network EditFault) (more rest : List Edit) → ((net : Network) → unrefused (more ++ rest) net ≡ (unrefused more net >>= unrefused rest))
    → (answer >>= unrefused (more ++ rest)) ≡ ((answer >>= unrefused more) >>= unrefused rest)
bind_all (Ok net) more rest h = h net
bind_all (Err fault) more rest h = refl

pub unrefused_append : (edits rest : List Edit) (net : Network) → unrefused (edits ++ rest) net ≡ (unrefused edits net >>= unrefused rest)
unfolding unrefused
unrefused_append [] rest net = refl
unrefused_append (edit ∷ edits) rest net = bind_all (apply net edit) edits rest (unrefused_append edits rest)

pub and_then : (edits rest : List Edit) (net middle after : Network) → unrefused edits net ≡ Ok middle → unrefused rest middle ≡ Ok after → unrefused (edits ++ rest) net ≡ Ok after
and_then edits rest net middle after first second = unrefused_append edits rest net ∙ ap (λ answer. answer >>= unrefused rest) first ∙ second

-- ---- edits of which none is refused

first_ok : {A B : Type 0} (answer : Result A EditFault) (go : A → Result B EditFault) → IsOk (answer >>= go) → IsOk answer
first_ok (Ok x) go h = refl
first_ok (Err fault) go h = h

pub head_accepted : (edit : Edit) (rest : List Edit) (net : Network) → IsOk (unrefused (edit ∷ rest) net) → IsOk (apply net edit)
unfolding unrefused
head_accepted edit rest net h = first_ok (apply net edit) (unrefused rest) h

pub tail_accepted : (edit : Edit) (rest : List Edit) (net middle : Network) → apply net edit ≡ Ok middle → IsOk (unrefused (edit ∷ rest) net) → IsOk (unrefused rest middle)
unfolding unrefused
tail_accepted edit rest net middle first h = rw first at h

pub front_accepted : (edits rest : List Edit) (net : Network) → IsOk (unrefused (edits ++ rest) net) → IsOk (unrefused edits net)
front_accepted edits rest net h = first_ok (unrefused edits net) (unrefused rest) (rw (unrefused_append edits rest net) at h)

pub rest_accepted : (edits rest : List Edit) (net middle : Network) → unrefused edits net ≡ Ok middle → IsOk (unrefused (edits ++ rest) net) → IsOk (unrefused rest middle)
rest_accepted edits rest net middle first h = rw (unrefused_append edits rest net, first) at h

-- what is left of a count begins with the item at its front
turn : {A : Type 0} (made : ℕ → ℕ → List A) (last : ℕ → ℕ) (from count before : ℕ) → from < count
    → in_turn made last from (count - from) before ≡ made from before ++ in_turn made last (from + 1) (count - (from + 1)) (last before)
unfolding in_turn
turn made last from count before lt =
    let one : count - from ≡ suc (count - (from + 1)) = omega arith in
    let up : from + 1 ≡ suc from = omega arith in
    rw (one, up) refl

none_left : {A : Type 0} (made : ℕ → ℕ → List A) (last : ℕ → ℕ) (from count before : ℕ) → count ≤ from → in_turn made last from (count - from) before ≡ []
unfolding in_turn
none_left made last from count before le =
    let none : count - from ≡ zero = omega arith in
    rw none refl

-- a loop that makes edits
pub edits_go_on : (made : ℕ → ℕ → List Edit) (last : ℕ → ℕ) (from count before : ℕ) (net after : Network) (total : Result Network EditFault) → from < count
    → unrefused (made from before) net ≡ Ok after → unrefused (in_turn made last from (count - from) before) net ≡ total
    → unrefused (in_turn made last (from + 1) (count - (from + 1)) (last before)) after ≡ total
edits_go_on made last from count before net after total lt one so_far =
    let rest : List Edit = in_turn made last (from + 1) (count - (from + 1)) (last before) in
    let first : unrefused (made from before ++ rest) net ≡ unrefused rest after = unrefused_append (made from before) rest net ∙ ap (λ answer. answer >>= unrefused rest) one in
    sym first ∙ ap (λ edits. unrefused edits net) (sym (turn made last from count before lt)) ∙ so_far

-- and in its next turn none of them is refused
pub turn_accepted : (made : ℕ → ℕ → List Edit) (last : ℕ → ℕ) (from count before : ℕ) (net : Network) (total : Result Network EditFault) → from < count
    → unrefused (in_turn made last from (count - from) before) net ≡ total → IsOk total → IsOk (unrefused (made from before) net)
turn_accepted made last from count before net total lt so_far whole =
    let rest : List Edit = in_turn made last (from + 1) (count - (from + 1)) (last before) in
    let all : IsOk (unrefused (in_turn made last from (count - from) before) net) = rw so_far whole in
    front_accepted (made from before) rest net (rw (turn made last from count before lt) at all)

pub edits_end : (made : ℕ → ℕ → List Edit) (last : ℕ → ℕ) (from count before : ℕ) (net : Network) (total : Result Network EditFault) → count ≤ from
    → unrefused (in_turn made last from (count - from) before) net ≡ total → total ≡ Ok net
unfolding unrefused
edits_end made last from count before net total le so_far = sym so_far ∙ ap (λ edits. unrefused edits net) (none_left made last from count before le)

-- a loop that puts items last
pub items_go_on : {A : Type 0} (made : ℕ → ℕ → List A) (last : ℕ → ℕ) (from count before : ℕ) (items longer total : List A) → from < count
    → longer ≡ items ++ made from before → items ++ in_turn made last from (count - from) before ≡ total
    → longer ++ in_turn made last (from + 1) (count - (from + 1)) (last before) ≡ total
items_go_on made last from count before items longer total lt one so_far =
    let rest : List _ = in_turn made last (from + 1) (count - (from + 1)) (last before) in
    rw one (append_assoc items (made from before) rest ∙ ap (λ more. items ++ more) (sym (turn made last from count before lt)) ∙ so_far)

pub items_end : {A : Type 0} (made : ℕ → ℕ → List A) (last : ℕ → ℕ) (from count before : ℕ) (items total : List A) → count ≤ from
    → items ++ in_turn made last from (count - from) before ≡ total → items ≡ total
items_end made last from count before items total le so_far =
    sym (append-nil items) ∙ ap (λ more. items ++ more) (sym (none_left made last from count before le)) ∙ so_far

-- ---- draws

pub later_one : (count x : ℕ) → next (later count x) ≡ later (count + 1) x
unfolding later
later_one count x = let up : count + 1 ≡ suc count = omega arith in rw up refl

pub later_more : (used count x : ℕ) → later used (later count x) ≡ later (used + count) x
unfolding later
later_more zero count x = let none : zero + count ≡ count = omega arith in rw none refl
later_more (suc used) count x = let up : suc used + count ≡ suc (used + count) = omega arith in rw up (ap next (later_more used count x))

-- after so many times so many draws, once more
pub later_times : (used count x : ℕ) → later used (later (used * count) x) ≡ later (used * (count + 1)) x
later_times used count x =
    let up : count + 1 ≡ suc count = omega arith in
    let more : used + used * count ≡ used * (count + 1) = rw (up, mul-suc used count) (omega arith) in
    later_more used (used * count) x ∙ ap (λ n. later n x) more

-- ---- the network

unrefused_from : (net : Network) (answer : Result Network EditFault) (edits : List Edit) (after : Network) → (answer >>= unrefused edits) ≡ Ok after
    → ((new : Network) → unrefused edits new ≡ Ok after → network_after edits new ≡ after) → network_after edits (changed_or net answer) ≡ after
unfolding changed_or
unrefused_from net (Ok new) edits after h go = go new h
unrefused_from net (Err fault) edits after h go = cc h

-- where none is refused, the edits make this network
pub unrefused_after : (edits : List Edit) (net after : Network) → unrefused edits net ≡ Ok after → network_after edits net ≡ after
unfolding unrefused network_after
unrefused_after [] net after h = cc h
unrefused_after (edit ∷ edits) net after h = unrefused_from net (apply net edit) edits after h (λ new so. unrefused_after edits new after so)
