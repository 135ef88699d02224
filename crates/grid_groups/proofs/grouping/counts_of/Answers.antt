use Rattle.std.proofs.Common.{◌≡◌, sym, ap, ◌∙◌, ◌+◌, ◌<◌, List, ℕ, length, get_or, arith, length-set}
use Rattle.std.proofs.lemmas.List.{get_or_default, get_or-replicate}
use Rattle.grid_groups.proofs.GroupMembers.{none_with_key, all_with_key, few_with_key, count_more}
use Rattle.grid_groups.proofs.grouping.counts_of.Goals as goal

pub loop-key-init : goal.loop-key-init
loop-key-init c = record {
  long = grind arith;
  each = λ key lt. (let none : get_or c.in_ok-counts.counts.items key 0 ≡ 0 = grind (arith, get_or-replicate) in none ∙ sym (ap length (none_with_key c.args.keys.now key)));
}

pub overflow_add-index_mut : goal.overflow_add-index_mut
overflow_add-index_mut c =
    let keys : List ℕ = c.args.keys.now in
    let i : ℕ = c.loop-key.key-index in
    let key : ℕ = get_or keys i 0 in
    let counts : List ℕ = c.loop-key.counts.items in
    let lt : key < c.args.count = c.requires.below i c.loop-key-test.true in
    let inside : key < length counts = omega (arith, lt, c.loop-key.invariant.long) in
    let read : c.index_mut.result.now ≡ get_or counts key 0 = c.index_mut.ensures.value ∙ get_or_default counts key c.index_mut.result.now 0 inside in
    omega (arith, read, c.loop-key.invariant.each key lt, few_with_key keys i key, c.loop-key-test.true, c.requires.few)

pub loop-key-preserved : goal.loop-key-preserved
loop-key-preserved c =
    let keys : List ℕ = c.args.keys.now in
    let i : ℕ = c.loop-key.key-index in
    let key : ℕ = get_or keys i 0 in
    let counts : List ℕ = c.loop-key.counts.items in
    let lt : key < c.args.count = c.requires.below i c.loop-key-test.true in
    let inside : key < length counts = omega (arith, lt, c.loop-key.invariant.long) in
    let read : c.index_mut.result.now ≡ get_or counts key 0 = c.index_mut.ensures.value ∙ get_or_default counts key c.index_mut.result.now 0 inside in
    record {
      long = length-set counts key (c.index_mut.result.now + 1) ∙ c.loop-key.invariant.long;
      each = λ k less. count_more keys counts i k c.index_mut.result.now c.args.count inside c.loop-key.invariant.each read less;
    }

pub returns-clause-each : goal.returns-clause-each
returns-clause-each c key lt =
    let over : c.loop-key.key-index ≡ length c.args.keys.now = omega (arith, c.loop-key-test.false, c.loop-key.auto.key-index-end) in
    c.loop-key.invariant.each key lt ∙ ap length (all_with_key c.args.keys.now c.loop-key.key-index key over)
