use Rattle.std.proofs.Common.{◌≡◌, sym, ap, subst, ◌∙◌, ◌+◌, ◌<◌, ◌≤◌, [], ◌∷◌, ◌++◌, append_assoc, refl, true, ℕ, Bool, List, length, length-append, get_or, take, arith, rules}
use Rattle.std.specs.Prelude.{map, filter, IsTrue}
use Rattle.std.specs.List.{zip, list_all}
use Rattle.std.proofs.lemmas.List.{take_all, append-nil, map-append}
use Rattle.std.proofs.lemmas.Slice.Zip.{zip_turn, zip_end, length-zip, get_or-zip}
use Rattle.grid_graph.specs.Graph.{graph}
use Rattle.grid_queue.specs.Parents.{AreLabelsOf}
use Rattle.grid_level.specs.VoltageLevel.{VoltageLevel}
use Rattle.grid_level.specs.Kept.{among, ends_among}
use Rattle.grid_level.specs.Passing.{nodes, edges, switch_ends}
use Rattle.grid_groups.specs.Labels.{pair_by_index, passing_flag}
use Rattle.grid_groups.proofs.Steps.{passed_next, skipped_next, pair_at, passing_flag_is, passed_ends}
use Rattle.grid_groups.proofs.joining.join_switches.Goals as goal
use Rattle.grid_groups.proofs.joining.join_switches.Goals.{In-Some}

-- where the pair and its flag stand
turn : (c : In-Some)
    → (length c.loop-pair.yielded < length (map switch_ends c.args.indices.now.switches)) × (length c.loop-pair.yielded < length c.args.flags.now)
    × ((d : ℕ × ℕ) → c.in-Some.pair.now ≡ get_or (map switch_ends c.args.indices.now.switches) (length c.loop-pair.yielded) d) × ((d : Bool) → c.in-Some.flag.now ≡ get_or c.args.flags.now (length c.loop-pair.yielded) d)
turn c =
    let n = length c.loop-pair.yielded in
    let flags = c.args.flags.now in
    let P : List (ℕ × ℕ) → Type 0 = λ z. (n < length z) × (n < length flags) × ((d : ℕ × ℕ) → c.in-Some.pair.now ≡ get_or z n d) × ((d : Bool) → c.in-Some.flag.now ≡ get_or flags n d) in
    subst P (c.switch_ends.ensures ∙ ap (λ (l : VoltageLevel). map switch_ends l.switches) c.level-level.ensures)
    (zip_turn c.switch_ends.result.now flags c.loop-pair.yielded _ c.loop-pair.pair-iterator c.next.new.self c.next.result (search rules) (search rules) c.loop-pair.yielded_by (c.in-Some.pair, c.in-Some.flag) c.in-Some.is c.next.ensures.steps)

-- a switch's ends are nodes
ends_here : (c : In-Some) → IsTrue (among (nodes c.args.indices.now) c.in-Some.pair.now.0) × IsTrue (among (nodes c.args.indices.now) c.in-Some.pair.now.1)
ends_here c =
    let P : VoltageLevel → Type 0 = λ z. list_all (ends_among (nodes z)) (edges z) ≡ true in
    let t = turn c in
    pair_at c.args.indices.now (length c.loop-pair.yielded) c.in-Some.pair.now (subst P c.level-level.ensures c.keeps.ensures.ends_are_nodes) t.0 (t.2 c.in-Some.pair.now)

pub join_pair-requires-clause-first : goal.join_pair-requires-clause-first
join_pair-requires-clause-first c = (ends_here (goal.at.join_pair-requires-clause-first c).In-Some).0

pub join_pair-requires-clause-second : goal.join_pair-requires-clause-second
join_pair-requires-clause-second c = (ends_here (goal.at.join_pair-requires-clause-second c).In-Some).1

pub join_pair-requires-clause-long : goal.join_pair-requires-clause-long
join_pair-requires-clause-long c = c.loop-pair.invariant.long ∙ c.requires.long

pub loop-pair-init : goal.loop-pair-init
loop-pair-init c = record { long = refl; joined = λ pairs labels. (let P : List (ℕ × ℕ) → Type 0 = λ z. AreLabelsOf (graph (length (nodes c.args.indices.now)) z) c.args.joiner.now in subst P (sym (append-nil pairs)) labels) }

-- the ends that are joined after so many turns
abbrev joined_to : VoltageLevel → Bool → List Bool → ℕ → List (ℕ × ℕ)
joined_to level value flags k = map (pair_by_index (nodes level)) (map (λ pair. pair.0) (filter (λ pair. passing_flag value pair.1) (take k (zip (map switch_ends level.switches) flags))))

-- one turn more, and the pair and its flag side by side
next_turn : (c : In-Some) (flag : Bool) → c.in-Some.flag.now ≡ flag → (length (c.loop-pair.yielded ++ (c.in-Some.pair, c.in-Some.flag) ∷ []) ≡ length c.loop-pair.yielded + 1)
    × (length c.loop-pair.yielded < length (zip (map switch_ends c.args.indices.now.switches) c.args.flags.now))
    × ((c.in-Some.pair.now, flag) ≡ get_or (zip (map switch_ends c.args.indices.now.switches) c.args.flags.now) (length c.loop-pair.yielded) (c.in-Some.pair.now, flag))
next_turn c flag is =
    let t = turn c in
    let ends = map switch_ends c.args.indices.now.switches in
    let flags = c.args.flags.now in
    let n : ℕ = length c.loop-pair.yielded in
    let pair : ℕ × ℕ = c.in-Some.pair.now in (
      length-append c.loop-pair.yielded ((c.in-Some.pair, c.in-Some.flag) ∷ []),
      omega (arith, t.0, t.1, length-zip ends flags),
      ap (λ (z : ℕ × ℕ). (z, flag)) (t.2 pair) ∙ ap (λ (z : Bool). (get_or ends n pair, z)) (sym is ∙ t.3 flag) ∙ sym (get_or-zip ends flags n (pair, flag) t.0 t.1),
    )

pub loop-pair-preserved-then-flag-passing : goal.loop-pair-preserved-then-flag-passing
loop-pair-preserved-then-flag-passing c =
    let level : VoltageLevel = c.args.indices.now in
    let flags = c.args.flags.now in
    let n : ℕ = length c.loop-pair.yielded in
    let t = next_turn (goal.at.loop-pair-preserved-then-flag-passing c).In-Some c.in-Some.flag.now refl in
    let by_index : ℕ × ℕ → ℕ × ℕ = pair_by_index (nodes level) in
    let all : List ((ℕ × ℕ) × Bool) = zip (map switch_ends level.switches) flags in
    let its_ends : (ℕ × ℕ) × Bool → ℕ × ℕ = λ pair. pair.0 in
    let its_flag : (ℕ × ℕ) × Bool → Bool = λ pair. passing_flag c.args.passing pair.1 in
    let one : List (ℕ × ℕ) = c.in-Some.pair.now ∷ [] in
    let more =
    sym (map-append by_index (map its_ends (filter its_flag (take n all))) one)
    ∙ ap (map by_index) (passed_next its_ends its_flag all n (c.in-Some.pair.now, c.in-Some.flag.now) t.1 t.2 (passing_flag_is c.args.passing c.in-Some.flag.now ∙ c.if-flag-passing.true))
    ∙ ap (joined_to level c.args.passing flags) (sym t.0) in
    record {
      long = c.join_pair.ensures.long ∙ c.loop-pair.invariant.long;
      joined = λ pairs labels. (let P : List (ℕ × ℕ) → Type 0 = λ z. AreLabelsOf (graph (length (nodes level)) z) c.join_pair.new.joiner in
          subst P
          (append_assoc pairs (joined_to level c.args.passing flags n) (map by_index one) ∙ ap (λ z. pairs ++ z) more)
          (c.join_pair.ensures.joined (pairs ++ joined_to level c.args.passing flags n) (c.loop-pair.invariant.joined pairs labels)));
    }

pub loop-pair-preserved : goal.loop-pair-preserved
loop-pair-preserved c =
    let level : VoltageLevel = c.args.indices.now in
    let flags = c.args.flags.now in
    let n : ℕ = length c.loop-pair.yielded in
    let t = next_turn (goal.at.loop-pair-preserved c).In-Some c.in-Some.flag.now refl in
    record {
      long = c.loop-pair.invariant.long;
      joined = λ pairs labels. (let P : List (ℕ × ℕ) → Type 0 = λ z. AreLabelsOf (graph (length (nodes level)) z) c.loop-pair.joiner in
          subst P
          (ap (λ z. pairs ++ map (pair_by_index (nodes level)) z)
          (skipped_next (λ (pair : (ℕ × ℕ) × Bool). pair.0) (λ (pair : (ℕ × ℕ) × Bool). passing_flag c.args.passing pair.1) (zip (map switch_ends level.switches) flags) n (c.in-Some.pair.now, c.in-Some.flag.now) t.1
          t.2 (passing_flag_is c.args.passing c.in-Some.flag.now ∙ c.if-flag-passing.false))
          ∙ ap (λ k. pairs ++ joined_to level c.args.passing flags k) (sym t.0))
          (c.loop-pair.invariant.joined pairs labels));
    }

pub returns-clause-joined : goal.returns-clause-joined
returns-clause-joined c pairs labels =
    let ends = c.switch_ends.result.now in
    let flags = c.args.flags.now in
    let now : List (ℕ × ℕ) = map switch_ends c.args.indices.now.switches in
    let n : ℕ = length c.loop-pair.yielded in
    let its_ends : (ℕ × ℕ) × Bool → ℕ × ℕ = λ pair. pair.0 in
    let its_flag : (ℕ × ℕ) × Bool → Bool = λ pair. passing_flag c.args.passing pair.1 in
    let same : ends ≡ now = c.switch_ends.ensures ∙ ap (λ (l : VoltageLevel). map switch_ends l.switches) c.level-level.ensures in
    let end = zip_end ends flags c.loop-pair.yielded _ c.loop-pair.pair-iterator c.next.new.self c.next.result (search rules) (search rules) c.loop-pair.yielded_by c.in-None.is c.next.ensures.steps in
    let over : length (zip now flags) ≤ n = omega (arith, end, length-zip now flags, ap length same) in
    let P : List (ℕ × ℕ) → Type 0 = λ z. AreLabelsOf (graph (length (nodes c.args.indices.now)) (pairs ++ map (pair_by_index (nodes c.args.indices.now)) z)) c.loop-pair.joiner in
    subst P (ap (λ z. map its_ends (filter its_flag z)) (take_all n (zip now flags) over) ∙ passed_ends c.args.indices.now.switches c.args.passing flags) (c.loop-pair.invariant.joined pairs labels)
