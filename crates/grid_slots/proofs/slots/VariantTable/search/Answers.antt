use Rattle.std.proofs.Common.{rules, subst}
use Rattle.std.specs.Prelude.{IfOk, IfErr}
use Rattle.std.specs.List.Sorted.{IsBinarySearchResult}
use Rattle.grid_slots.specs.Places.{IsAt, IsGapFor}
use Rattle.std.proofs.lemmas.Fn.{always_returns_same}
use Rattle.std.specs.Ordering.{nat_cmp}
use Rattle.std.specs.Cmp.Lexicographic.{slice_cmp}
use Rattle.grid_slots.proofs.NameSearch.{searched}
use Rattle.grid_slots.proofs.slots.VariantTable.search.Goals as goal

-- the closure compares a variant's name, and the slice is the table's names
pub returns : goal.returns
returns c =
    let facts = c.binary_search_by.ensures in
    let ordered = facts.position (λ m. slice_cmp nat_cmp m.name c.args.name.now)
    (always_returns_same _ _ _ (λ a r f' called. (search rules, search rules))) in
    let ends = searched c.self.inside.variants.items c.self.inside.kept c.self.invariant.1 c.self.invariant.0.rise
    c.args.name.now c.binary_search_by.result
    (rw (← c.deref.ensures.value) facts.bound)
    (subst (λ named. IsBinarySearchResult (λ m. slice_cmp nat_cmp m.name c.args.name.now) named
    c.binary_search_by.result) c.deref.ensures.value ordered) in
    let both : record {
      found : IfOk c.binary_search_by.result (IsAt c.args.self.now c.args.name.now);
      absent : IfErr
          c.binary_search_by.result (IsGapFor c.args.self.now c.args.name.now);
    } = rw (← c.self.view_is) ends in
    record { found = both.found; absent = both.absent; rise = rw (← c.self.view_is) c.self.invariant.0.rise }
