use Rattle.std.proofs.Common.{◌≡◌, ◌++◌, ◌∙◌, ap, sym, subst, List, length, take, drop, arith}
use Rattle.std.specs.Prelude.{map, All, IsTrue}
use Rattle.grid_configured.specs.declared.line_lists.GrowingLevel.{GrowingLevel}
use Rattle.grid_configured.specs.Names.{is_plain}
use Rattle.grid_configured.specs.Partial.{housed}
use Rattle.grid_configured.proofs.LinePuts.{homes_plain, lists_are, whole, levels_count}
use Rattle.grid_configured.proofs.translation.lists_of.Goals as goal

pub house_each-requires : goal.house_each-requires
house_each-requires c =
    let n = c.args.network.now in
    let new = c.put_lines.new.levels in
    let v = c.in_ok-levels.levels in
    let same : length new ≡ length v.items = ap length c.in_ok-lines.ensures.levels ∙ levels_count n n.lines ∙ sym (ap length c.in_ok-levels.ensures ∙ levels_count n _) in
    let full : v.len ≡ length v.items = omega (arith, v.ok) in
    let P : List GrowingLevel → Type 0 = All (λ (g : GrowingLevel). IsTrue (is_plain g.lists.id)) in
    subst P (sym (whole v.len new v.items same full ∙ c.in_ok-lines.ensures.levels)) (homes_plain n c.requires)

pub returns : goal.returns
returns c =
    let n = c.args.network.now in
    let new = c.put_lines.new.levels in
    let v = c.in_ok-levels.levels in
    let same : length new ≡ length v.items = ap length c.in_ok-lines.ensures.levels ∙ levels_count n n.lines ∙ sym (ap length c.in_ok-levels.ensures ∙ levels_count n _) in
    let full : v.len ≡ length v.items = omega (arith, v.ok) in
    let homes : c.in_ok-house_each.field-0 ≡ map housed (take v.len (new ++ drop (length new) v.items)) = c.in_ok-house_each.ensures in
    let all = homes ∙ ap (map housed) (whole v.len new v.items same full ∙ c.in_ok-lines.ensures.levels) in
    let id = c.in_ok-copy.ensures in
    let lines = c.in_ok-lines.ensures.lines in
    rw (id, all, lines) (lists_are n)
