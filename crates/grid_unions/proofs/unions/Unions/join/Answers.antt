use Rattle.std.proofs.Common.{ap, ◌∙◌, ◌+◌, ◌<◌, ℕ, List, length, length-set, reverse, subst, sym, arith}
use Rattle.grid_graph.specs.Graph.{Graph}
use Rattle.grid_unions.specs.declared.join.Join.{Join}
use Rattle.grid_unions.specs.Trees.{Trees, hung, size_at}
use Rattle.grid_unions.specs.Unions.{AreRight}
use Rattle.grid_unions.proofs.JoinReversals.{graph_of, right_forest, kept_same, kept_hung}
use Rattle.grid_unions.proofs.Trees.{AreApart, IsRootOf, one_root, two_roots, sum_fits, some_roots}
use Rattle.grid_unions.proofs.TreeRanks.{ranks_of, ranks_same, ranks_hung}
use Rattle.grid_unions.specs.Ranks.{Ranking, AreRanked, IsChosen}
use Rattle.grid_unions.proofs.unions.Unions.join.Goals as goal

pub root-first-requires-clause-kept : goal.root-first-requires-clause-kept
root-first-requires-clause-kept c =
    let u = c.self.inside in
    (graph_of (length u.forest.parents) (reverse u.joins), right_forest (length u.forest.parents) (reverse u.joins) u.forest c.self.invariant.1.0)

pub root-second-requires-clause-kept : goal.root-second-requires-clause-kept
root-second-requires-clause-kept c =
    let u = c.self.inside in
    (graph_of (length u.forest.parents) (reverse u.joins), right_forest (length u.forest.parents) (reverse u.joins) u.forest c.self.invariant.1.0)

pub invariant_of-self-then-first-second : goal.invariant_of-self-then-first-second
invariant_of-self-then-first-second c =
    let u = c.self.inside in
    let count : ℕ = length u.forest.parents in
    let net : Graph = graph_of count (reverse u.joins) in
    let f = right_forest count (reverse u.joins) u.forest c.self.invariant.1.0 in
    let A : Graph → Type 0 = λ g. c.args.a < g.nodes in
    let B : Graph → Type 0 = λ g. c.args.b < g.nodes in
    let lt : c.args.a < count = subst A (sym c.self.view_is) c.requires.a in
    let less : c.args.b < count = subst B (sym c.self.view_is) c.requires.b in
    let first : IsRootOf net u.forest c.args.a c.root-first.result = record { below = c.root-first.ensures.below; own = c.root-first.ensures.root; same = c.root-first.ensures.same net f } in
    let second : IsRootOf net u.forest c.args.b c.root-second.result = record { below = c.root-second.ensures.below; own = c.root-second.ensures.root; same = c.root-second.ensures.same net f } in
    let same = one_root net u.forest c.args.a c.args.b c.root-first.result c.root-second.result first second c.if-first-second.true in (
      c.self.invariant.0,
      (
        kept_same count c.args.a c.args.b _ _ u.joins c.push.new.self u.forest c.in_ok-push.ensures.ok c.self.invariant.1.0 lt less same,
        ranks_same count c.args.a c.args.b _ _ u.joins c.push.new.self u.forest u.ranks c.in_ok-push.ensures.ok c.self.invariant.1.0 c.self.invariant.1.1 lt less same,
      ),
    )

pub in_order-low-requires-clause-first : goal.in_order-low-requires-clause-first
in_order-low-requires-clause-first c =
    let u = c.self.inside in
    let count : ℕ = length u.forest.parents in
    let net : Graph = graph_of count (reverse u.joins) in
    let f = right_forest count (reverse u.joins) u.forest c.self.invariant.1.0 in
    omega (arith, c.root-first.ensures.below, f.sizes_long)

pub in_order-low-requires-clause-second : goal.in_order-low-requires-clause-second
in_order-low-requires-clause-second c =
    let u = c.self.inside in
    let count : ℕ = length u.forest.parents in
    let net : Graph = graph_of count (reverse u.joins) in
    let f = right_forest count (reverse u.joins) u.forest c.self.invariant.1.0 in
    omega (arith, c.root-second.ensures.below, f.sizes_long)

pub hang-requires-clause-low : goal.hang-requires-clause-low
hang-requires-clause-low c =
    let u = c.self.inside in
    let count : ℕ = length u.forest.parents in
    let net : Graph = graph_of count (reverse u.joins) in
    let f = right_forest count (reverse u.joins) u.forest c.self.invariant.1.0 in
    let A : Graph → Type 0 = λ g. c.args.a < g.nodes in
    let B : Graph → Type 0 = λ g. c.args.b < g.nodes in
    let lt : c.args.a < count = subst A (sym c.self.view_is) c.requires.a in
    let less : c.args.b < count = subst B (sym c.self.view_is) c.requires.b in
    let first : IsRootOf net u.forest c.args.a c.root-first.result = record { below = c.root-first.ensures.below; own = c.root-first.ensures.root; same = c.root-first.ensures.same net f } in
    let second : IsRootOf net u.forest c.args.b c.root-second.result = record { below = c.root-second.ensures.below; own = c.root-second.ensures.root; same = c.root-second.ensures.same net f } in
    let low : ℕ = c.in_order-low.result.0 in
    let top : ℕ = c.in_order-low.result.1 in
    let h : AreApart net u.forest c.args.a c.args.b low top =
    two_roots net u.forest c.args.a c.args.b c.root-first.result c.root-second.result c.in_order-low.result lt less first second c.if-first-second.false c.in_order-low.ensures in
    omega (arith, h.low_below, f.sizes_long)

pub hang-requires-clause-top : goal.hang-requires-clause-top
hang-requires-clause-top c =
    let u = c.self.inside in
    let count : ℕ = length u.forest.parents in
    let net : Graph = graph_of count (reverse u.joins) in
    let f = right_forest count (reverse u.joins) u.forest c.self.invariant.1.0 in
    let A : Graph → Type 0 = λ g. c.args.a < g.nodes in
    let B : Graph → Type 0 = λ g. c.args.b < g.nodes in
    let lt : c.args.a < count = subst A (sym c.self.view_is) c.requires.a in
    let less : c.args.b < count = subst B (sym c.self.view_is) c.requires.b in
    let first : IsRootOf net u.forest c.args.a c.root-first.result = record { below = c.root-first.ensures.below; own = c.root-first.ensures.root; same = c.root-first.ensures.same net f } in
    let second : IsRootOf net u.forest c.args.b c.root-second.result = record { below = c.root-second.ensures.below; own = c.root-second.ensures.root; same = c.root-second.ensures.same net f } in
    let low : ℕ = c.in_order-low.result.0 in
    let top : ℕ = c.in_order-low.result.1 in
    let h : AreApart net u.forest c.args.a c.args.b low top =
    two_roots net u.forest c.args.a c.args.b c.root-first.result c.root-second.result c.in_order-low.result lt less first second c.if-first-second.false c.in_order-low.ensures in
    omega (arith, h.top_below, f.sizes_long)

pub hang-requires-clause-fits : goal.hang-requires-clause-fits
hang-requires-clause-fits c =
    let u = c.self.inside in
    let count : ℕ = length u.forest.parents in
    let net : Graph = graph_of count (reverse u.joins) in
    let f = right_forest count (reverse u.joins) u.forest c.self.invariant.1.0 in
    let A : Graph → Type 0 = λ g. c.args.a < g.nodes in
    let B : Graph → Type 0 = λ g. c.args.b < g.nodes in
    let lt : c.args.a < count = subst A (sym c.self.view_is) c.requires.a in
    let less : c.args.b < count = subst B (sym c.self.view_is) c.requires.b in
    let first : IsRootOf net u.forest c.args.a c.root-first.result = record { below = c.root-first.ensures.below; own = c.root-first.ensures.root; same = c.root-first.ensures.same net f } in
    let second : IsRootOf net u.forest c.args.b c.root-second.result = record { below = c.root-second.ensures.below; own = c.root-second.ensures.root; same = c.root-second.ensures.same net f } in
    let low : ℕ = c.in_order-low.result.0 in
    let top : ℕ = c.in_order-low.result.1 in
    let h : AreApart net u.forest c.args.a c.args.b low top =
    two_roots net u.forest c.args.a c.args.b c.root-first.result c.root-second.result c.in_order-low.result lt less first second c.if-first-second.false c.in_order-low.ensures in
    omega (arith, sum_fits net c.args.a c.args.b low top u.forest f h, c.self.invariant.0)

pub hang-requires-clause-roots : goal.hang-requires-clause-roots
hang-requires-clause-roots c =
    let u = c.self.inside in
    let count : ℕ = length u.forest.parents in
    let net : Graph = graph_of count (reverse u.joins) in
    let f = right_forest count (reverse u.joins) u.forest c.self.invariant.1.0 in
    let A : Graph → Type 0 = λ g. c.args.a < g.nodes in
    let B : Graph → Type 0 = λ g. c.args.b < g.nodes in
    let lt : c.args.a < count = subst A (sym c.self.view_is) c.requires.a in
    let less : c.args.b < count = subst B (sym c.self.view_is) c.requires.b in
    let first : IsRootOf net u.forest c.args.a c.root-first.result = record { below = c.root-first.ensures.below; own = c.root-first.ensures.root; same = c.root-first.ensures.same net f } in
    let second : IsRootOf net u.forest c.args.b c.root-second.result = record { below = c.root-second.ensures.below; own = c.root-second.ensures.root; same = c.root-second.ensures.same net f } in
    let low : ℕ = c.in_order-low.result.0 in
    let top : ℕ = c.in_order-low.result.1 in
    let h : AreApart net u.forest c.args.a c.args.b low top =
    two_roots net u.forest c.args.a c.args.b c.root-first.result c.root-second.result c.in_order-low.result lt less first second c.if-first-second.false c.in_order-low.ensures in
    some_roots net c.args.a c.args.b low top u.forest f h

pub invariant_of-self-2 : goal.invariant_of-self-2
invariant_of-self-2 c =
    let u = c.self.inside in
    let count : ℕ = length u.forest.parents in
    let net : Graph = graph_of count (reverse u.joins) in
    let f = right_forest count (reverse u.joins) u.forest c.self.invariant.1.0 in
    let A : Graph → Type 0 = λ g. c.args.a < g.nodes in
    let B : Graph → Type 0 = λ g. c.args.b < g.nodes in
    let lt : c.args.a < count = subst A (sym c.self.view_is) c.requires.a in
    let less : c.args.b < count = subst B (sym c.self.view_is) c.requires.b in
    let first : IsRootOf net u.forest c.args.a c.root-first.result = record { below = c.root-first.ensures.below; own = c.root-first.ensures.root; same = c.root-first.ensures.same net f } in
    let second : IsRootOf net u.forest c.args.b c.root-second.result = record { below = c.root-second.ensures.below; own = c.root-second.ensures.root; same = c.root-second.ensures.same net f } in
    let low : ℕ = c.in_order-low.result.0 in
    let top : ℕ = c.in_order-low.result.1 in
    let h : AreApart net u.forest c.args.a c.args.b low top =
    two_roots net u.forest c.args.a c.args.b c.root-first.result c.root-second.result c.in_order-low.result lt less first second c.if-first-second.false c.in_order-low.ensures in
    let more : List Join = c.push-2.new.self in
    let next : Ranking = c.unite.new.self in
    let P : Trees → Type 0 = λ t. (length t.parents < 4294967296) × (AreRight (length t.parents) (reverse more) t × AreRanked (length t.parents) (reverse more) t next) in
    let Q : ℕ → Type 0 = λ n. (n < 4294967296) × (AreRight n (reverse more) (hung u.forest low top) × AreRanked n (reverse more) (hung u.forest low top) next) in
    let R : Trees → Type 0 = λ t. IsChosen t next u.ranks.greatest top in
    let chosen : IsChosen (hung u.forest low top) next u.ranks.greatest top = subst R c.hang.ensures c.unite.ensures.chosen in
    subst P (sym c.hang.ensures)
    (subst Q (sym (length-set u.forest.parents low top)) (
      c.self.invariant.0,
      (
        kept_hung count c.args.a c.args.b low top _ _ u.joins more u.forest c.in_ok-push-2.ensures.ok c.self.invariant.1.0 h,
        ranks_hung count c.args.a c.args.b low top _ _ u.joins more u.forest u.ranks next c.in_ok-push-2.ensures.ok c.self.invariant.1.0 c.self.invariant.1.1 h
            c.first-least-2.ensures c.greatest-greatest.ensures c.unite.ensures.firsts chosen,
      ),
    ))

pub first-least-requires : goal.first-least-requires
first-least-requires c =
    let u = c.self.inside in
    let count : ℕ = length u.forest.parents in
    let net : Graph = graph_of count (reverse u.joins) in
    let f = right_forest count (reverse u.joins) u.forest c.self.invariant.1.0 in
    let g = ranks_of count (reverse u.joins) u.forest u.ranks c.self.invariant.1.1 in
    omega (arith, c.root-first.ensures.below, g.long)

pub first-least-requires-2 : goal.first-least-requires-2
first-least-requires-2 c =
    let u = c.self.inside in
    let count : ℕ = length u.forest.parents in
    let net : Graph = graph_of count (reverse u.joins) in
    let f = right_forest count (reverse u.joins) u.forest c.self.invariant.1.0 in
    let A : Graph → Type 0 = λ g. c.args.a < g.nodes in
    let B : Graph → Type 0 = λ g. c.args.b < g.nodes in
    let lt : c.args.a < count = subst A (sym c.self.view_is) c.requires.a in
    let less : c.args.b < count = subst B (sym c.self.view_is) c.requires.b in
    let first : IsRootOf net u.forest c.args.a c.root-first.result = record { below = c.root-first.ensures.below; own = c.root-first.ensures.root; same = c.root-first.ensures.same net f } in
    let second : IsRootOf net u.forest c.args.b c.root-second.result = record { below = c.root-second.ensures.below; own = c.root-second.ensures.root; same = c.root-second.ensures.same net f } in
    let low : ℕ = c.in_order-low.result.0 in
    let top : ℕ = c.in_order-low.result.1 in
    let h : AreApart net u.forest c.args.a c.args.b low top =
    two_roots net u.forest c.args.a c.args.b c.root-first.result c.root-second.result c.in_order-low.result lt less first second c.if-first-second.false c.in_order-low.ensures in
    let g = ranks_of count (reverse u.joins) u.forest u.ranks c.self.invariant.1.1 in
    omega (arith, h.top_below, g.long)

pub unite-requires-clause-low : goal.unite-requires-clause-low
unite-requires-clause-low c =
    let u = c.self.inside in
    let count : ℕ = length u.forest.parents in
    let net : Graph = graph_of count (reverse u.joins) in
    let f = right_forest count (reverse u.joins) u.forest c.self.invariant.1.0 in
    let A : Graph → Type 0 = λ g. c.args.a < g.nodes in
    let B : Graph → Type 0 = λ g. c.args.b < g.nodes in
    let lt : c.args.a < count = subst A (sym c.self.view_is) c.requires.a in
    let less : c.args.b < count = subst B (sym c.self.view_is) c.requires.b in
    let first : IsRootOf net u.forest c.args.a c.root-first.result = record { below = c.root-first.ensures.below; own = c.root-first.ensures.root; same = c.root-first.ensures.same net f } in
    let second : IsRootOf net u.forest c.args.b c.root-second.result = record { below = c.root-second.ensures.below; own = c.root-second.ensures.root; same = c.root-second.ensures.same net f } in
    let low : ℕ = c.in_order-low.result.0 in
    let top : ℕ = c.in_order-low.result.1 in
    let h : AreApart net u.forest c.args.a c.args.b low top =
    two_roots net u.forest c.args.a c.args.b c.root-first.result c.root-second.result c.in_order-low.result lt less first second c.if-first-second.false c.in_order-low.ensures in
    let g = ranks_of count (reverse u.joins) u.forest u.ranks c.self.invariant.1.1 in
    omega (arith, h.low_below, g.long)

pub unite-requires-clause-top : goal.unite-requires-clause-top
unite-requires-clause-top c =
    let u = c.self.inside in
    let count : ℕ = length u.forest.parents in
    let net : Graph = graph_of count (reverse u.joins) in
    let f = right_forest count (reverse u.joins) u.forest c.self.invariant.1.0 in
    let A : Graph → Type 0 = λ g. c.args.a < g.nodes in
    let B : Graph → Type 0 = λ g. c.args.b < g.nodes in
    let lt : c.args.a < count = subst A (sym c.self.view_is) c.requires.a in
    let less : c.args.b < count = subst B (sym c.self.view_is) c.requires.b in
    let first : IsRootOf net u.forest c.args.a c.root-first.result = record { below = c.root-first.ensures.below; own = c.root-first.ensures.root; same = c.root-first.ensures.same net f } in
    let second : IsRootOf net u.forest c.args.b c.root-second.result = record { below = c.root-second.ensures.below; own = c.root-second.ensures.root; same = c.root-second.ensures.same net f } in
    let low : ℕ = c.in_order-low.result.0 in
    let top : ℕ = c.in_order-low.result.1 in
    let h : AreApart net u.forest c.args.a c.args.b low top =
    two_roots net u.forest c.args.a c.args.b c.root-first.result c.root-second.result c.in_order-low.result lt less first second c.if-first-second.false c.in_order-low.ensures in
    let g = ranks_of count (reverse u.joins) u.forest u.ranks c.self.invariant.1.1 in
    omega (arith, h.top_below, g.long)

pub unite-requires-clause-greatest : goal.unite-requires-clause-greatest
unite-requires-clause-greatest c =
    let u = c.self.inside in
    let count : ℕ = length u.forest.parents in
    let net : Graph = graph_of count (reverse u.joins) in
    let f = right_forest count (reverse u.joins) u.forest c.self.invariant.1.0 in
    let A : Graph → Type 0 = λ g. c.args.a < g.nodes in
    let B : Graph → Type 0 = λ g. c.args.b < g.nodes in
    let lt : c.args.a < count = subst A (sym c.self.view_is) c.requires.a in
    let less : c.args.b < count = subst B (sym c.self.view_is) c.requires.b in
    let first : IsRootOf net u.forest c.args.a c.root-first.result = record { below = c.root-first.ensures.below; own = c.root-first.ensures.root; same = c.root-first.ensures.same net f } in
    let second : IsRootOf net u.forest c.args.b c.root-second.result = record { below = c.root-second.ensures.below; own = c.root-second.ensures.root; same = c.root-second.ensures.same net f } in
    let low : ℕ = c.in_order-low.result.0 in
    let top : ℕ = c.in_order-low.result.1 in
    let h : AreApart net u.forest c.args.a c.args.b low top =
    two_roots net u.forest c.args.a c.args.b c.root-first.result c.root-second.result c.in_order-low.result lt less first second c.if-first-second.false c.in_order-low.ensures in
    let g = ranks_of count (reverse u.joins) u.forest u.ranks c.self.invariant.1.1 in
    let some : 0 < count = omega (arith, h.low_below) in
    omega (arith, (g.greatest some).0, g.long)

pub unite-requires-clause-sizes : goal.unite-requires-clause-sizes
unite-requires-clause-sizes c =
    let u = c.self.inside in
    let count : ℕ = length u.forest.parents in
    let net : Graph = graph_of count (reverse u.joins) in
    let f = right_forest count (reverse u.joins) u.forest c.self.invariant.1.0 in
    let A : Graph → Type 0 = λ g. c.args.a < g.nodes in
    let B : Graph → Type 0 = λ g. c.args.b < g.nodes in
    let lt : c.args.a < count = subst A (sym c.self.view_is) c.requires.a in
    let less : c.args.b < count = subst B (sym c.self.view_is) c.requires.b in
    let first : IsRootOf net u.forest c.args.a c.root-first.result = record { below = c.root-first.ensures.below; own = c.root-first.ensures.root; same = c.root-first.ensures.same net f } in
    let second : IsRootOf net u.forest c.args.b c.root-second.result = record { below = c.root-second.ensures.below; own = c.root-second.ensures.root; same = c.root-second.ensures.same net f } in
    let low : ℕ = c.in_order-low.result.0 in
    let top : ℕ = c.in_order-low.result.1 in
    let h : AreApart net u.forest c.args.a c.args.b low top =
    two_roots net u.forest c.args.a c.args.b c.root-first.result c.root-second.result c.in_order-low.result lt less first second c.if-first-second.false c.in_order-low.ensures in
    let g = ranks_of count (reverse u.joins) u.forest u.ranks c.self.invariant.1.1 in
    ap (λ t. length t.sizes) c.hang.ensures ∙ length-set u.forest.sizes top (size_at u.forest top + size_at u.forest low) ∙ f.sizes_long ∙ sym g.long
