use Rattle.std.proofs.Common.{◌≡◌, refl, ◌∙◌}
use Rattle.std.specs.Prelude.{slice_get, slice_set}
use Rattle.grid_configured.specs.Translation.{translated_line}
use Rattle.grid_configured.proofs.ListParts.{first_side, second_side}
use Rattle.grid_configured.proofs.EndPuts.{first_terminals, second_terminals, first_spot, second_spot, is_there, place_inside, next_few, end_is, levels_put, both_put, starts_as}
use Rattle.grid_configured.proofs.PlainParts.{got, inside, line_is_plain, some_if}
use Rattle.grid_configured.proofs.line_lists.put_line.Goals as goal

pub reserved_id-requires-clause-plain : goal.reserved_id-requires-clause-plain
reserved_id-requires-clause-plain c =
    let n = c.args.network.now in
    let i = c.args.place in
    let line = c.index-slice-place.result in
    let at = got n.lines c.slice.result.now i line c.slice.ensures (inside n.lines c.slice.result.now i c.slice.ensures c.requires.place) c.index-slice-place.is in
    line_is_plain n i line c.requires.translatable at

pub reserved_id-requires-2-clause-plain : goal.reserved_id-requires-2-clause-plain
reserved_id-requires-2-clause-plain c =
    let n = c.args.network.now in
    let i = c.args.place in
    let line = c.index-slice-place.result in
    let at = got n.lines c.slice.result.now i line c.slice.ensures (inside n.lines c.slice.result.now i c.slice.ensures c.requires.place) c.index-slice-place.is in
    line_is_plain n i line c.requires.translatable at

pub number-place1-requires : goal.number-place1-requires
number-place1-requires c =
    let n = c.args.network.now in
    let i = c.args.place in
    let line = c.index-slice-place.result in
    let at = got n.lines c.slice.result.now i line c.slice.ensures (inside n.lines c.slice.result.now i c.slice.ensures c.requires.place) c.index-slice-place.is in
    let table = c.args.numbers.now in
    let T1 = first_terminals n c.requires.translatable table c.requires.numbered i line at in
    let one = first_spot n c.requires.translatable table c.requires.numbered i line at in
    is_there _ one.place one.numbered

pub number-bus1-requires : goal.number-bus1-requires
number-bus1-requires c =
    let n = c.args.network.now in
    let i = c.args.place in
    let line = c.index-slice-place.result in
    let at = got n.lines c.slice.result.now i line c.slice.ensures (inside n.lines c.slice.result.now i c.slice.ensures c.requires.place) c.index-slice-place.is in
    let table = c.args.numbers.now in
    let T1 = first_terminals n c.requires.translatable table c.requires.numbered i line at in
    let one = first_spot n c.requires.translatable table c.requires.numbered i line at in
    is_there _ _ one.bus

pub bounds-levels-place1 : goal.bounds-levels-place1
bounds-levels-place1 c =
    let n = c.args.network.now in
    let i = c.args.place in
    let line = c.index-slice-place.result in
    let at = got n.lines c.slice.result.now i line c.slice.ensures (inside n.lines c.slice.result.now i c.slice.ensures c.requires.place) c.index-slice-place.is in
    let table = c.args.numbers.now in
    let T1 = first_terminals n c.requires.translatable table c.requires.numbered i line at in
    let one = first_spot n c.requires.translatable table c.requires.numbered i line at in
    let are1 = c.requires.levels ∙ starts_as n i in
    place_inside n c.requires.translatable table T1 line.id 1 line.end1 one c.args.levels.now c.number-place1.result are1 c.number-place1.ensures

pub put_end-requires : goal.put_end-requires
put_end-requires c =
    let n = c.args.network.now in
    let i = c.args.place in
    let line = c.index-slice-place.result in
    let at = got n.lines c.slice.result.now i line c.slice.ensures (inside n.lines c.slice.result.now i c.slice.ensures c.requires.place) c.index-slice-place.is in
    let table = c.args.numbers.now in
    let T1 = first_terminals n c.requires.translatable table c.requires.numbered i line at in
    let one = first_spot n c.requires.translatable table c.requires.numbered i line at in
    let are1 = c.requires.levels ∙ starts_as n i in
    next_few n c.requires.translatable table T1 line.id 1 line.end1 one c.args.levels.now c.number-place1.result are1 c.number-place1.ensures c.index-levels-place1.result

pub number-place2-requires : goal.number-place2-requires
number-place2-requires c =
    let n = c.args.network.now in
    let i = c.args.place in
    let line = c.index-slice-place.result in
    let at = got n.lines c.slice.result.now i line c.slice.ensures (inside n.lines c.slice.result.now i c.slice.ensures c.requires.place) c.index-slice-place.is in
    let table = c.args.numbers.now in
    let T1 = first_terminals n c.requires.translatable table c.requires.numbered i line at in
    let one = first_spot n c.requires.translatable table c.requires.numbered i line at in
    let T2 = second_terminals n c.requires.translatable table c.requires.numbered i line at in
    let two = second_spot n c.requires.translatable table c.requires.numbered i line at in
    is_there _ two.place two.numbered

pub number-bus2-requires : goal.number-bus2-requires
number-bus2-requires c =
    let n = c.args.network.now in
    let i = c.args.place in
    let line = c.index-slice-place.result in
    let at = got n.lines c.slice.result.now i line c.slice.ensures (inside n.lines c.slice.result.now i c.slice.ensures c.requires.place) c.index-slice-place.is in
    let table = c.args.numbers.now in
    let T1 = first_terminals n c.requires.translatable table c.requires.numbered i line at in
    let one = first_spot n c.requires.translatable table c.requires.numbered i line at in
    let T2 = second_terminals n c.requires.translatable table c.requires.numbered i line at in
    let two = second_spot n c.requires.translatable table c.requires.numbered i line at in
    is_there _ _ two.bus

pub bounds-levels-place2 : goal.bounds-levels-place2
bounds-levels-place2 c =
    let n = c.args.network.now in
    let i = c.args.place in
    let line = c.index-slice-place.result in
    let at = got n.lines c.slice.result.now i line c.slice.ensures (inside n.lines c.slice.result.now i c.slice.ensures c.requires.place) c.index-slice-place.is in
    let table = c.args.numbers.now in
    let T1 = first_terminals n c.requires.translatable table c.requires.numbered i line at in
    let one = first_spot n c.requires.translatable table c.requires.numbered i line at in
    let T2 = second_terminals n c.requires.translatable table c.requires.numbered i line at in
    let two = second_spot n c.requires.translatable table c.requires.numbered i line at in
    let are1 = c.requires.levels ∙ starts_as n i in
    let named1 = first_side line.id c.in_ok-breaker1.breaker1 c.in_ok-breaker1.ensures in
    let put1 = levels_put n c.requires.translatable table T1 line.id 1 line.end1 one c.args.levels.now c.number-place1.result are1 c.number-place1.ensures c.number-bus1.result c.in_ok-breaker1.breaker1 c.put_end.new.level c.index-levels-place1.result c.number-bus1.ensures named1 c.in_ok-end1.ensures.put in
    place_inside n c.requires.translatable table T2 line.id 2 line.end2 two (slice_set c.args.levels.now c.number-place1.result c.put_end.new.level) c.number-place2.result put1 c.number-place2.ensures

pub put_end-requires-2 : goal.put_end-requires-2
put_end-requires-2 c =
    let n = c.args.network.now in
    let i = c.args.place in
    let line = c.index-slice-place.result in
    let at = got n.lines c.slice.result.now i line c.slice.ensures (inside n.lines c.slice.result.now i c.slice.ensures c.requires.place) c.index-slice-place.is in
    let table = c.args.numbers.now in
    let T1 = first_terminals n c.requires.translatable table c.requires.numbered i line at in
    let one = first_spot n c.requires.translatable table c.requires.numbered i line at in
    let T2 = second_terminals n c.requires.translatable table c.requires.numbered i line at in
    let two = second_spot n c.requires.translatable table c.requires.numbered i line at in
    let are1 = c.requires.levels ∙ starts_as n i in
    let named1 = first_side line.id c.in_ok-breaker1.breaker1 c.in_ok-breaker1.ensures in
    let put1 = levels_put n c.requires.translatable table T1 line.id 1 line.end1 one c.args.levels.now c.number-place1.result are1 c.number-place1.ensures c.number-bus1.result c.in_ok-breaker1.breaker1 c.put_end.new.level c.index-levels-place1.result c.number-bus1.ensures named1 c.in_ok-end1.ensures.put in
    next_few n c.requires.translatable table T2 line.id 2 line.end2 two (slice_set c.args.levels.now c.number-place1.result c.put_end.new.level) c.number-place2.result put1 c.number-place2.ensures c.index-levels-place2.result

pub returns-clause-levels : goal.returns-clause-levels
returns-clause-levels c =
    let n = c.args.network.now in
    let i = c.args.place in
    let line = c.index-slice-place.result in
    let at = got n.lines c.slice.result.now i line c.slice.ensures (inside n.lines c.slice.result.now i c.slice.ensures c.requires.place) c.index-slice-place.is in
    let table = c.args.numbers.now in
    let T1 = first_terminals n c.requires.translatable table c.requires.numbered i line at in
    let one = first_spot n c.requires.translatable table c.requires.numbered i line at in
    let T2 = second_terminals n c.requires.translatable table c.requires.numbered i line at in
    let two = second_spot n c.requires.translatable table c.requires.numbered i line at in
    let are1 = c.requires.levels ∙ starts_as n i in
    let named1 = first_side line.id c.in_ok-breaker1.breaker1 c.in_ok-breaker1.ensures in
    let put1 = levels_put n c.requires.translatable table T1 line.id 1 line.end1 one c.args.levels.now c.number-place1.result are1 c.number-place1.ensures c.number-bus1.result c.in_ok-breaker1.breaker1 c.put_end.new.level c.index-levels-place1.result c.number-bus1.ensures named1 c.in_ok-end1.ensures.put in
    let named2 = second_side line.id c.in_ok-breaker2.breaker2 c.in_ok-breaker2.ensures in
    levels_put n c.requires.translatable table T2 line.id 2 line.end2 two (slice_set c.args.levels.now c.number-place1.result c.put_end.new.level) c.number-place2.result put1 c.number-place2.ensures c.number-bus2.result c.in_ok-breaker2.breaker2 c.put_end-2.new.level c.index-levels-place2.result c.number-bus2.ensures named2 c.in_ok-end2.ensures.put
    ∙ both_put n i line at

pub returns-clause-line : goal.returns-clause-line
unfolding translated_line
returns-clause-line c =
    let n = c.args.network.now in
    let i = c.args.place in
    let line = c.index-slice-place.result in
    let at = got n.lines c.slice.result.now i line c.slice.ensures (inside n.lines c.slice.result.now i c.slice.ensures c.requires.place) c.index-slice-place.is in
    let table = c.args.numbers.now in
    let T1 = first_terminals n c.requires.translatable table c.requires.numbered i line at in
    let one = first_spot n c.requires.translatable table c.requires.numbered i line at in
    let T2 = second_terminals n c.requires.translatable table c.requires.numbered i line at in
    let two = second_spot n c.requires.translatable table c.requires.numbered i line at in
    let are1 = c.requires.levels ∙ starts_as n i in
    let named1 = first_side line.id c.in_ok-breaker1.breaker1 c.in_ok-breaker1.ensures in
    let put1 = levels_put n c.requires.translatable table T1 line.id 1 line.end1 one c.args.levels.now c.number-place1.result are1 c.number-place1.ensures c.number-bus1.result c.in_ok-breaker1.breaker1 c.put_end.new.level c.index-levels-place1.result c.number-bus1.ensures named1 c.in_ok-end1.ensures.put in
    let end1 = end_is n c.requires.translatable table T1 line.id 1 line.end1 one c.args.levels.now c.number-place1.result are1 c.number-place1.ensures c.index-levels-place1.result c.in_ok-end1.end1 c.in_ok-end1.ensures.stands in
    let end2 = end_is n c.requires.translatable table T2 line.id 2 line.end2 two (slice_set c.args.levels.now c.number-place1.result c.put_end.new.level) c.number-place2.result put1 c.number-place2.ensures c.index-levels-place2.result c.in_ok-end2.end2 c.in_ok-end2.ensures.stands in
    let id : c.in_ok-copy.field-0 ≡ line.id = c.in_ok-copy.ensures in
    some_if (slice_get n.lines i) line _ at (rw (id, end1, end2) refl)
