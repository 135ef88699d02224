use Rattle.std.proofs.Common.{◌<◌, ◌∙◌, ap, sym, subst, reverse, arith}
use Rattle.grid_graph.specs.Graph.{Graph}
use Rattle.grid_unions.specs.Summed.{Weighted, weighted, sums_before}
use Rattle.grid_unions.specs.Unions.{with_newest}
use Rattle.grid_unions.proofs.ClassSums.{IsJoined, summed_now, least_in, joined_sums, joined_weights}
use Rattle.grid_unions.proofs.summed.Summed.join.Goals as goal

pub sums_of_both-requires-clause-first : goal.sums_of_both-requires-clause-first
sums_of_both-requires-clause-first c =
    let u = c.self.inside in
    let older = reverse u.replaced in
    let s = summed_now u.unions.nodes u.unions.pairs (sums_before u.sums older) older u.sums c.self.invariant in
    let A : Weighted → Type 0 = λ w. c.args.a < w.net.nodes in
    omega (arith, c.least-first.ensures, least_in u.unions (sums_before u.sums older) u.sums c.args.a s (subst A (sym c.self.view_is) c.requires.a))

pub sums_of_both-requires-clause-second : goal.sums_of_both-requires-clause-second
sums_of_both-requires-clause-second c =
    let u = c.self.inside in
    let older = reverse u.replaced in
    let s = summed_now u.unions.nodes u.unions.pairs (sums_before u.sums older) older u.sums c.self.invariant in
    let B : Weighted → Type 0 = λ w. c.args.b < w.net.nodes in
    omega (arith, c.least-second.ensures, least_in u.unions (sums_before u.sums older) u.sums c.args.b s (subst B (sym c.self.view_is) c.requires.b))

pub index-sums-requires : goal.index-sums-requires
index-sums-requires c =
    let u = c.self.inside in
    let older = reverse u.replaced in
    let s = summed_now u.unions.nodes u.unions.pairs (sums_before u.sums older) older u.sums c.self.invariant in
    let A : Weighted → Type 0 = λ w. c.args.a < w.net.nodes in
    omega (arith, c.min-place.ensures, c.least-first.ensures, least_in u.unions (sums_before u.sums older) u.sums c.args.a s (subst A (sym c.self.view_is) c.requires.a))

pub set-requires : goal.set-requires
set-requires c =
    let u = c.self.inside in
    let older = reverse u.replaced in
    let s = summed_now u.unions.nodes u.unions.pairs (sums_before u.sums older) older u.sums c.self.invariant in
    let A : Weighted → Type 0 = λ w. c.args.a < w.net.nodes in
    omega (arith, c.min-place.ensures, c.least-first.ensures, least_in u.unions (sums_before u.sums older) u.sums c.args.a s (subst A (sym c.self.view_is) c.requires.a))

pub invariant_of-self-2 : goal.invariant_of-self-2
invariant_of-self-2 c =
    let u = c.self.inside in
    let net : Graph = u.unions in
    let A : Weighted → Type 0 = λ w. c.args.a < w.net.nodes in
    let B : Weighted → Type 0 = λ w. c.args.b < w.net.nodes in
    let h : IsJoined net c.join.new.self c.args.a c.args.b u.sums c.set.new.self u.replaced c.push.new.self = record {
      graphs = c.in_default.ensures.ok;
      first = c.least-first.result;
      second = c.least-second.result;
      is_first = c.least-first.ensures;
      is_second = c.least-second.ensures;
      both = c.in_ok-both.both;
      of_both = record { load = c.in_ok-both.ensures.load; generation = c.in_ok-both.ensures.generation };
      place = c.min-place.result;
      is_place = c.min-place.ensures;
      old = c.index-sums.result.now;
      is_old = c.index-sums.ensures;
      put = c.set.ensures;
      pushed = c.in_ok-push.ensures.ok;
    } in
    joined_sums net c.join.new.self c.args.a c.args.b u.sums c.set.new.self u.replaced c.push.new.self c.self.invariant
    (subst A (sym c.self.view_is) c.requires.a) (subst B (sym c.self.view_is) c.requires.b) h

pub returns-clause-ok : goal.returns-clause-ok
returns-clause-ok c =
    let u = c.self.inside in
    let net : Graph = u.unions in
    let A : Weighted → Type 0 = λ w. c.args.a < w.net.nodes in
    let B : Weighted → Type 0 = λ w. c.args.b < w.net.nodes in
    let h : IsJoined net c.join.new.self c.args.a c.args.b u.sums c.set.new.self u.replaced c.push.new.self = record {
      graphs = c.in_default.ensures.ok;
      first = c.least-first.result;
      second = c.least-second.result;
      is_first = c.least-first.ensures;
      is_second = c.least-second.ensures;
      both = c.in_ok-both.both;
      of_both = record { load = c.in_ok-both.ensures.load; generation = c.in_ok-both.ensures.generation };
      place = c.min-place.result;
      is_place = c.min-place.ensures;
      old = c.index-sums.result.now;
      is_old = c.index-sums.ensures;
      put = c.set.ensures;
      pushed = c.in_ok-push.ensures.ok;
    } in
    joined_weights net c.join.new.self c.args.a c.args.b u.sums c.set.new.self u.replaced c.push.new.self c.self.invariant
    (subst A (sym c.self.view_is) c.requires.a) (subst B (sym c.self.view_is) c.requires.b) h
    ∙ ap (λ (w : Weighted). weighted (with_newest w.net c.args.a c.args.b) w.weights) c.self.view_is
