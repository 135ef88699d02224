-- The pairs of a level's terminals, around one node.
use Rattle.std.proofs.Common.{◌≡◌, refl, sym, ap, ◌∙◌, ℕ, ℤ, Bool, true, false, cond, not, ◌&&◌, List, [], ◌∷◌, ◌++◌, Option, Some, None, arith}
use Rattle.std.specs.Prelude.{filter_map, nat_lt, ◌==◌, option_map}
use Rattle.std.specs.List.{list_all, cons_option}
use Rattle.std.proofs.lemmas.Bool.{and_parts, and_from, true≢false, ltb-true, eqb-true, false_from_ne_true, eq-eqb}
use Rattle.std.proofs.lemmas.List.Elements.{filter-append, filter_map-append}
use Rattle.std.proofs.lemmas.List.Folds.{list_all-map}
use Rattle.grid_ids.specs.Name.{same_id}
use Rattle.grid_ids.proofs.Alike.{same_itself}
use Rattle.grid_level.specs.declared.Placed.{Placed}
use Rattle.grid_states.specs.declared.row.NodeWatts.{NodeWatts}
use Rattle.grid_states.specs.Pairs.{pair, value_at, with_pair, without_pair}
use Rattle.grid_powers.specs.Listed.{Listed, value_in}
use Rattle.grid_watts.specs.Watts.{is_powered, powered_by}
use Rattle.grid_watts.specs.Nodes.{listed_pair}
use Rattle.grid_watts.proofs.EquipmentShares.{others}
use Rattle.grid_watts.proofs.Spots.{NoneOf, Around}

abbrev pub pairs : Listed → List Placed → List NodeWatts
pairs listed ps = filter_map (listed_pair listed) ps

-- ---- one terminal

pub unpowered_pair : (listed : Listed) (p : Placed) → is_powered p.stand ≡ false → listed_pair listed p ≡ None
unfolding listed_pair
unpowered_pair listed p none = rw none refl

pub powered_pair : (listed : Listed) (p : Placed) → is_powered p.stand ≡ true → listed_pair listed p ≡ option_map (pair p.node) (value_in listed p.terminal.equipment)
unfolding listed_pair
powered_pair listed p is = rw is refl

-- two lists that agree on all ids but one
abbrev pub AgreeBut : List ℕ → Listed → Listed → Type 0
AgreeBut id more listed = (q : List ℕ) → same_id id q ≡ false → value_in more q ≡ value_in listed q

pair_agrees : (id : List ℕ) (more listed : Listed) (p : Placed) → AgreeBut id more listed → same_id id p.terminal.equipment ≡ false → listed_pair more p ≡ listed_pair listed p
unfolding listed_pair
pair_agrees id more listed p agree e = ap (λ v. cond (is_powered p.stand) (option_map (pair p.node) v) None) (agree p.terminal.equipment e)

-- ---- terminals of others

pub alike : (id : List ℕ) (more listed : Listed) (ps : List Placed) → AgreeBut id more listed → NoneOf id ps → pairs more ps ≡ pairs listed ps
alike id more listed [] agree none = refl
alike id more listed (p ∷ ps) agree none =
    let parts = and_parts (not (powered_by id p)) (list_all (λ (p : Placed). not (powered_by id p)) ps) none in
    let rest = alike id more listed ps agree parts.1 in
    let here : listed_pair more p ≡ listed_pair listed p = by (same_id id p.terminal.equipment) (is_powered p.stand) refl refl parts.0 in
    ap (λ o. cons_option o (pairs more ps)) here ∙ ap (cons_option (listed_pair listed p)) rest
  where
    by : (t w : Bool) → same_id id p.terminal.equipment ≡ t → is_powered p.stand ≡ w → not (t && w) ≡ true → listed_pair more p ≡ listed_pair listed p
    by true true e k h = absurd (true≢false (sym h))
    by true false e k h = unpowered_pair more p k ∙ sym (unpowered_pair listed p k)
    by false w e k h = pair_agrees id more listed p agree e

pub others_alike : (id : List ℕ) (more listed : Listed) (ps : List Placed) → AgreeBut id more listed → NoneOf id ps → pairs more (others id ps) ≡ pairs listed ps
others_alike id more listed [] agree none = refl
others_alike id more listed (p ∷ ps) agree none =
    let parts = and_parts (not (powered_by id p)) (list_all (λ (p : Placed). not (powered_by id p)) ps) none in
    by (same_id id p.terminal.equipment) (is_powered p.stand) refl refl parts.0 (others_alike id more listed ps agree parts.1)
  where
    by : (t w : Bool) → same_id id p.terminal.equipment ≡ t → is_powered p.stand ≡ w → not (t && w) ≡ true → pairs more (others id ps) ≡ pairs listed ps
        → pairs more (cond (not t) (p ∷ others id ps) (others id ps)) ≡ pairs listed (p ∷ ps)
    by true true e k h again = absurd (true≢false (sym h))
    by true false e k h again = again ∙ sym (ap (λ o. cons_option o (pairs listed ps)) (unpowered_pair listed p k))
    by false w e k h again = ap (λ o. cons_option o (pairs more (others id ps))) (pair_agrees id more listed p agree e) ∙ ap (cons_option (listed_pair listed p)) again

-- ---- nodes

-- what is so of the nodes is so of the pairs' nodes
pub pairs_all : (t : ℕ → Bool) (listed : Listed) (ps : List Placed) → list_all (λ (p : Placed). t p.node) ps ≡ true → list_all (λ (w : NodeWatts). t w.node) (pairs listed ps) ≡ true
unfolding listed_pair
pairs_all t listed [] h = refl
pairs_all t listed (p ∷ ps) h =
    let parts = and_parts (t p.node) (list_all (λ (p : Placed). t p.node) ps) h in
    by (is_powered p.stand) (value_in listed p.terminal.equipment) parts.0 (pairs_all t listed ps parts.1)
  where
    by : (w : Bool) (o : Option ℤ) → t p.node ≡ true → list_all (λ (w : NodeWatts). t w.node) (pairs listed ps) ≡ true
        → list_all (λ (w : NodeWatts). t w.node) (cons_option (cond w (option_map (pair p.node) o) None) (pairs listed ps)) ≡ true
    by true (Some x) e again = and_from _ _ e again
    by true None e again = again
    by false o e again = again

below_differs : (n m : ℕ) → nat_lt m n ≡ true → (m == n) ≡ false
below_differs n m h = false_from_ne_true (m == n) (λ e. let less = ltb-true m n h in let same = eqb-true m n e in omega (arith, less, same))

above_differs : (n m : ℕ) → nat_lt n m ≡ true → (m == n) ≡ false
above_differs n m h = false_from_ne_true (m == n) (λ e. let less = ltb-true n m h in let same = eqb-true m n e in omega (arith, less, same))

above_above : (n m : ℕ) → nat_lt n m ≡ true → nat_lt m n ≡ false
above_above n m h = false_from_ne_true (nat_lt m n) (λ e. let less = ltb-true n m h in let more = ltb-true m n e in omega (arith, less, more))

-- ---- a row around a node

abbrev pub Below : ℕ → List NodeWatts → Type 0
Below n row = list_all (λ (w : NodeWatts). nat_lt w.node n) row ≡ true

abbrev pub Above : ℕ → List NodeWatts → Type 0
Above n row = list_all (λ (w : NodeWatts). nat_lt n w.node) row ≡ true

with_behind : (n : ℕ) (watts : ℤ) (low row : List NodeWatts) → Below n low → with_pair n watts (low ++ row) ≡ low ++ with_pair n watts row
unfolding with_pair
with_behind n watts [] row below = refl
with_behind n watts (w ∷ low) row below =
    let parts = and_parts (nat_lt w.node n) (list_all (λ (w : NodeWatts). nat_lt w.node n) low) below in
    rw parts.0 (ap (λ z. w ∷ z) (with_behind n watts low row parts.1))

with_here : (n : ℕ) (watts : ℤ) (o : Option ℤ) (high : List NodeWatts) → Above n high → with_pair n watts (cons_option (option_map (pair n) o) high) ≡ pair n watts ∷ high
unfolding with_pair
with_here n watts (Some former) high above =
    let not_less : nat_lt n n ≡ false = false_from_ne_true (nat_lt n n) (λ e. let less = ltb-true n n e in omega (arith, less)) in
    rw (not_less, eq-eqb n n refl) refl
with_here n watts None [] above = refl
with_here n watts None (w ∷ high) above =
    let parts = and_parts (nat_lt n w.node) (list_all (λ (w : NodeWatts). nat_lt n w.node) high) above in
    rw (above_above n w.node parts.0, above_differs n w.node parts.0) refl

without_low : (n : ℕ) (row : List NodeWatts) → Below n row → without_pair n row ≡ row
unfolding without_pair
without_low n [] below = refl
without_low n (w ∷ row) below =
    let parts = and_parts (nat_lt w.node n) (list_all (λ (w : NodeWatts). nat_lt w.node n) row) below in
    rw (below_differs n w.node parts.0) (ap (λ z. w ∷ z) (without_low n row parts.1))

without_high : (n : ℕ) (row : List NodeWatts) → Above n row → without_pair n row ≡ row
unfolding without_pair
without_high n [] above = refl
without_high n (w ∷ row) above =
    let parts = and_parts (nat_lt n w.node) (list_all (λ (w : NodeWatts). nat_lt n w.node) row) above in
    rw (above_differs n w.node parts.0) (ap (λ z. w ∷ z) (without_high n row parts.1))

without_here : (n : ℕ) (o : Option ℤ) (high : List NodeWatts) → Above n high → without_pair n (cons_option (option_map (pair n) o) high) ≡ high
unfolding without_pair
without_here n (Some former) high above = rw (eq-eqb n n refl) (without_high n high above)
without_here n None high above = without_high n high above

value_behind : (n : ℕ) (low row : List NodeWatts) → Below n low → value_at n (low ++ row) ≡ value_at n row
unfolding value_at
value_behind n [] row below = refl
value_behind n (w ∷ low) row below =
    let parts = and_parts (nat_lt w.node n) (list_all (λ (w : NodeWatts). nat_lt w.node n) low) below in
    rw (below_differs n w.node parts.0) (value_behind n low row parts.1)

value_here : (n : ℕ) (o : Option ℤ) (high : List NodeWatts) → Above n high → value_at n (cons_option (option_map (pair n) o) high) ≡ o
unfolding value_at
value_here n (Some watts) high above = rw (eq-eqb n n refl) refl
value_here n None [] above = refl
value_here n None (w ∷ high) above =
    let parts = and_parts (nat_lt n w.node) (list_all (λ (w : NodeWatts). nat_lt n w.node) high) above in
    rw (above_differs n w.node parts.0) (value_here n None high parts.1)

-- ---- the pairs around a terminal

pub record RowAround (listed : Listed) (id : List ℕ) (ps : List Placed) (p : Placed) (k : Around id ps p) : Type 0 where
  pub is : pairs listed ps ≡ pairs listed k.before ++ cons_option (option_map (pair p.node) (value_in listed id)) (pairs listed k.after)
  pub below : Below p.node (pairs listed k.before)
  pub above : Above p.node (pairs listed k.after)

pub row_around : (listed : Listed) (id : List ℕ) (ps : List Placed) (p : Placed) (k : Around id ps p) → id ≡ p.terminal.equipment → is_powered p.stand ≡ true → RowAround listed id ps p k
row_around listed id ps p k named is = record {
  is = ap (pairs listed) k.is ∙ filter_map-append (listed_pair listed) k.before (p ∷ k.after)
      ∙ ap (λ o. pairs listed k.before ++ cons_option o (pairs listed k.after)) (powered_pair listed p is ∙ ap (λ q. option_map (pair p.node) (value_in listed q)) (sym named));
  below = pairs_all (λ m. nat_lt m p.node) listed k.before k.below;
  above = pairs_all (nat_lt p.node) listed k.after (sym (list_all-map (nat_lt p.node) (λ (q : Placed). q.node) k.after) ∙ k.above);
}

-- the value of its node
pub value_around : (listed : Listed) (id : List ℕ) (ps : List Placed) (p : Placed) (k : Around id ps p) → id ≡ p.terminal.equipment → is_powered p.stand ≡ true → value_at p.node (pairs listed ps) ≡ value_in listed id
value_around listed id ps p k named is =
    let r = row_around listed id ps p k named is in
    ap (value_at p.node) r.is ∙ value_behind p.node (pairs listed k.before) _ r.below ∙ value_here p.node (value_in listed id) (pairs listed k.after) r.above

-- other watts
pub set_around : (more listed : Listed) (watts : ℤ) (id : List ℕ) (ps : List Placed) (p : Placed) (k : Around id ps p) → id ≡ p.terminal.equipment → is_powered p.stand ≡ true → AgreeBut id more listed
    → value_in more id ≡ Some watts → pairs more ps ≡ with_pair p.node watts (pairs listed ps)
set_around more listed watts id ps p k named is agree own =
    let r = row_around listed id ps p k named is in
    let m = row_around more id ps p k named is in
    m.is ∙ ap (λ o. pairs more k.before ++ cons_option (option_map (pair p.node) o) (pairs more k.after)) own
    ∙ ap (λ z. z ++ pair p.node watts ∷ pairs more k.after) (alike id more listed k.before agree k.none_before)
    ∙ ap (λ z. pairs listed k.before ++ pair p.node watts ∷ z) (alike id more listed k.after agree k.none_after)
    ∙ sym (ap (with_pair p.node watts) r.is ∙ with_behind p.node watts (pairs listed k.before) _ r.below ∙ ap (λ z. pairs listed k.before ++ z) (with_here p.node watts (value_in listed id) (pairs listed k.after) r.above))

without-append : (n : ℕ) (xs ys : List NodeWatts) → without_pair n (xs ++ ys) ≡ without_pair n xs ++ without_pair n ys
unfolding without_pair
without-append n xs ys = filter-append (λ (w : NodeWatts). not (w.node == n)) xs ys

others_around : (id : List ℕ) (before after : List Placed) (p : Placed) → id ≡ p.terminal.equipment → others id (before ++ p ∷ after) ≡ others id before ++ others id after
others_around id before after p named =
    let same : same_id id p.terminal.equipment ≡ true = ap (same_id id) (sym named) ∙ same_itself id in
    filter-append (λ (q : Placed). not (same_id id q.terminal.equipment)) before (p ∷ after) ∙ ap (λ t. others id before ++ cond (not t) (p ∷ others id after) (others id after)) same

-- gone
pub gone_around : (more listed : Listed) (id : List ℕ) (ps : List Placed) (p : Placed) (k : Around id ps p) → id ≡ p.terminal.equipment → is_powered p.stand ≡ true → AgreeBut id more listed
    → pairs more (others id ps) ≡ without_pair p.node (pairs listed ps)
gone_around more listed id ps p k named is agree =
    let r = row_around listed id ps p k named is in
    ap (λ z. pairs more (others id z)) k.is ∙ ap (pairs more) (others_around id k.before k.after p named)
    ∙ filter_map-append (listed_pair more) (others id k.before) (others id k.after)
    ∙ ap (λ z. z ++ pairs more (others id k.after)) (others_alike id more listed k.before agree k.none_before)
    ∙ ap (λ z. pairs listed k.before ++ z) (others_alike id more listed k.after agree k.none_after)
    ∙ sym (ap (without_pair p.node) r.is ∙ without-append p.node (pairs listed k.before) _
    ∙ ap (λ z. z ++ without_pair p.node (cons_option (option_map (pair p.node) (value_in listed id)) (pairs listed k.after))) (without_low p.node (pairs listed k.before) r.below)
    ∙ ap (λ z. pairs listed k.before ++ z) (without_here p.node (value_in listed id) (pairs listed k.after) r.above))
