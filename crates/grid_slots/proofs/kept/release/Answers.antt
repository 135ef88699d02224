use Rattle.std.proofs.Common.{◌≡◌, sym, ap, ◌∙◌, subst, length, arith, false, true, ◌+◌, ◌-◌, get_or}
use Rattle.std.specs.Prelude.{◌==◌}
use Rattle.std.specs.List.{list_any}
use Rattle.grid_slots.specs.Kept.{kept_rows, AreKept}
use Rattle.grid_slots.proofs.SharedRows.{released_rows, released, still_kept}
use Rattle.grid_slots.proofs.kept.release.Goals as goal

pub returns-then-contains-clause-kept : goal.returns-then-contains-clause-kept
returns-then-contains-clause-kept c =
    let ns = c.args.numbers.now.items in
    let some : list_any (λ n. n == c.args.number) ns ≡ true = ap (list_any (λ n. n == c.args.number))
    (sym c.deref.ensures.value) ∙ sym c.contains.ensures.value ∙ c.if-contains.true in
    still_kept ns (length c.args.states.now.items) c.args.number c.requires.kept some

pub returns-clause-rows : goal.returns-clause-rows
returns-clause-rows c =
    let ns = c.args.numbers.now.items in
    let none : list_any (λ n. n == c.args.number) ns ≡ false = ap (list_any (λ n. n == c.args.number))
    (sym c.deref.ensures.value) ∙ sym c.contains.ensures.value ∙ c.if-contains.false in
    let less = c.swap_remove.new.self.items in
    let states = c.args.states.now in
    let moved = c.swap_remove.ensures.by_index in
    let long : length less + 1 ≡ length states.items = omega
    (arith, c.swap_remove.ensures.len, states.ok.0, c.swap_remove.new.self.ok.0) in
    let last : c.len.result ≡ length less = omega (arith, c.len.ensures, c.swap_remove.new.self.ok.0) in
    ap (λ z. kept_rows z less) c.renumber.ensures
    ∙ released_rows ns states.items less c.args.number c.len.result c.requires.kept c.requires.number none long last
    (λ d lt. moved.0 d (omega (arith, lt, states.ok.0)) ∙ ap (λ k. get_or states.items (k - 1) d) states.ok.0)
    (λ k d apart lt. moved.1 k d apart (omega (arith, lt, states.ok.0)))

pub returns-clause-kept : goal.returns-clause-kept
returns-clause-kept c =
    let ns = c.args.numbers.now.items in
    let none : list_any (λ n. n == c.args.number) ns ≡ false = ap (list_any (λ n. n == c.args.number))
    (sym c.deref.ensures.value) ∙ sym c.contains.ensures.value ∙ c.if-contains.false in
    let less = c.swap_remove.new.self.items in
    let states = c.args.states.now in
    let moved = c.swap_remove.ensures.by_index in
    let long : length less + 1 ≡ length states.items = omega
    (arith, c.swap_remove.ensures.len, states.ok.0, c.swap_remove.new.self.ok.0) in
    let last : c.len.result ≡ length less = omega (arith, c.len.ensures, c.swap_remove.new.self.ok.0) in
    subst (λ z. AreKept z (length less)) (sym c.renumber.ensures)
    (released ns states.items less c.args.number c.len.result c.requires.kept c.requires.number none long last
    (λ d lt. moved.0 d (omega (arith, lt, states.ok.0)) ∙ ap (λ k. get_or states.items (k - 1) d) states.ok.0)
    (λ k d apart lt. moved.1 k d apart (omega (arith, lt, states.ok.0))))
