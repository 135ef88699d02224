use Rattle.std.proofs.Common.{◌≡◌, ◌<◌, ◌∙◌, sym, Some, None, arith}
use Rattle.grid_structure.specs.Cutting.{transformer_total}
use Rattle.grid_structure.specs.Clearing.{IsPlaceOf, winding_place}
use Rattle.grid_structure.specs.declared.NamedBranch.{NamedBranch}
use Rattle.grid_structure.proofs.Blocks.{head_there}
use Rattle.grid_structure.proofs.BranchRemovals.{absent, dropped_none, dropped_some, line_alone, transformer_alone, named_below, no_line, winding_below, winding_some}
use Rattle.grid_structure.proofs.taking.drop_branch.Goals as goal

pub returns-in-None-clause-dropped : goal.returns-in-None-clause-dropped
returns-in-None-clause-dropped c =
    let none : IsPlaceOf c.args.id.now c.args.transformers.now.items c.args.lines.now.items None = c.in-None.ensures in
    dropped_none c.args.id.now c.args.heads.now c.args.transformers.now.items (absent (λ (b : NamedBranch). b.id) c.args.id.now c.args.transformers.now.items none.0) c.requires.count

pub returns-in-None-clause-lines : goal.returns-in-None-clause-lines
returns-in-None-clause-lines c =
    let none : IsPlaceOf c.args.id.now c.args.transformers.now.items c.args.lines.now.items None = c.in-None.ensures in
    sym (no_line c.args.id.now c.args.lines.now.items none.1)

pub take_record-requires : goal.take_record-requires
take_record-requires c =
    let found : IsPlaceOf c.args.id.now c.args.transformers.now.items c.args.lines.now.items (Some c.in-Some.found) = c.in-Some.ensures in
    let below = named_below c.args.id.now c.args.lines.now.items c.in-Line.place (rw c.in-Line.is at found) in
    omega (arith, below)

pub returns-in-Line-clause-dropped : goal.returns-in-Line-clause-dropped
returns-in-Line-clause-dropped c =
    let found : IsPlaceOf c.args.id.now c.args.transformers.now.items c.args.lines.now.items (Some c.in-Some.found) = c.in-Some.ensures in
    let alone = line_alone c.args.id.now c.args.transformers.now.items c.args.lines.now.items c.in-Line.place c.requires.differ (rw c.in-Line.is at found) in
    dropped_none c.args.id.now c.args.heads.now c.args.transformers.now.items alone.0 c.requires.count

pub returns-in-Line-clause-lines : goal.returns-in-Line-clause-lines
returns-in-Line-clause-lines c =
    let found : IsPlaceOf c.args.id.now c.args.transformers.now.items c.args.lines.now.items (Some c.in-Some.found) = c.in-Some.ensures in
    let alone = line_alone c.args.id.now c.args.transformers.now.items c.args.lines.now.items c.in-Line.place c.requires.differ (rw c.in-Line.is at found) in
    c.take_record.ensures ∙ sym alone.2

pub head_of_transformer-home-requires-clause-within : goal.head_of_transformer-home-requires-clause-within
head_of_transformer-home-requires-clause-within c =
    let found : IsPlaceOf c.args.id.now c.args.transformers.now.items c.args.lines.now.items (Some c.in-Some.found) = c.in-Some.ensures in
    let inside = named_below c.args.id.now c.args.transformers.now.items c.in-Transformer.place (rw c.in-Transformer.is at found) in
    omega (arith, inside, c.requires.count)

pub take_record-requires-in-Transformer : goal.take_record-requires-in-Transformer
take_record-requires-in-Transformer c =
    let found : IsPlaceOf c.args.id.now c.args.transformers.now.items c.args.lines.now.items (Some c.in-Some.found) = c.in-Some.ensures in
    let below = named_below c.args.id.now c.args.transformers.now.items c.in-Transformer.place (rw c.in-Transformer.is at found) in
    omega (arith, below)

pub take_transformer-requires-clause-within : goal.take_transformer-requires-clause-within
take_transformer-requires-clause-within c =
    let found : IsPlaceOf c.args.id.now c.args.transformers.now.items c.args.lines.now.items (Some c.in-Some.found) = c.in-Some.ensures in
    let inside = named_below c.args.id.now c.args.transformers.now.items c.in-Transformer.place (rw c.in-Transformer.is at found) in
    let home : c.head_of_transformer-home.result ≡ winding_place c.args.heads.now c.in-Transformer.place = c.head_of_transformer-home.ensures in
    omega (arith, home, winding_below c.args.heads.now c.in-Transformer.place (omega (arith, inside, c.requires.count)))

pub overflow_cast-place : goal.overflow_cast-place
overflow_cast-place c =
    let found : IsPlaceOf c.args.id.now c.args.transformers.now.items c.args.lines.now.items (Some c.in-Some.found) = c.in-Some.ensures in
    let within = named_below c.args.id.now c.args.transformers.now.items c.in-Transformer.place (rw c.in-Transformer.is at found) in
    omega (arith, within, c.requires.fit)

pub take_transformer-requires-clause-some : goal.take_transformer-requires-clause-some
take_transformer-requires-clause-some c = λ h at.
    let found : IsPlaceOf c.args.id.now c.args.transformers.now.items c.args.lines.now.items (Some c.in-Some.found) = c.in-Some.ensures in
    let within = named_below c.args.id.now c.args.transformers.now.items c.in-Transformer.place (rw c.in-Transformer.is at found) in
    let inside : c.in-Transformer.place < transformer_total c.args.heads.now = omega (arith, within, c.requires.count) in
    winding_some c.args.heads.now c.in-Transformer.place h inside (rw c.head_of_transformer-home.ensures at at)

pub returns-in-Transformer-clause-dropped : goal.returns-in-Transformer-clause-dropped
returns-in-Transformer-clause-dropped c =
    let found : IsPlaceOf c.args.id.now c.args.transformers.now.items c.args.lines.now.items (Some c.in-Some.found) = c.in-Some.ensures in
    let there = rw c.in-Transformer.is at found in
    let within = named_below c.args.id.now c.args.transformers.now.items c.in-Transformer.place there in
    let inside : c.in-Transformer.place < transformer_total c.args.heads.now = omega (arith, within, c.requires.count) in
    let alone = transformer_alone c.args.id.now c.args.transformers.now.items c.args.lines.now.items c.in-Transformer.place c.requires.differ there in
    let home : c.head_of_transformer-home.result ≡ winding_place c.args.heads.now c.in-Transformer.place = c.head_of_transformer-home.ensures in
    let below = winding_below c.args.heads.now c.in-Transformer.place inside in
    let head = head_there c.args.heads.now (winding_place c.args.heads.now c.in-Transformer.place) below in
    let less = c.take_transformer.ensures head.0 (rw home head.1) in
    rw (less, home, c.take_record-in-Transformer.ensures) (dropped_some c.args.id.now c.args.heads.now c.args.transformers.now.items c.in-Transformer.place head.0 alone.1 alone.2 c.requires.count head.1)

pub returns-in-Transformer-clause-lines : goal.returns-in-Transformer-clause-lines
returns-in-Transformer-clause-lines c =
    let found : IsPlaceOf c.args.id.now c.args.transformers.now.items c.args.lines.now.items (Some c.in-Some.found) = c.in-Some.ensures in
    let alone = transformer_alone c.args.id.now c.args.transformers.now.items c.args.lines.now.items c.in-Transformer.place c.requires.differ (rw c.in-Transformer.is at found) in
    sym alone.0
