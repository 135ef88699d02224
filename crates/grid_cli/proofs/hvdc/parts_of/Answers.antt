use Rattle.std.proofs.Common.{sym, ap, ◌∙◌, ◌++◌, append_assoc}
use Rattle.std.specs.List.{flat_map}
use Rattle.grid_core.specs.History.{live}
use Rattle.grid_core.specs.Journals.{journal_of}
use Rattle.grid_jsonl.specs.Steps.{state_line}
use Rattle.grid_jsonl.specs.Outcomes.{lines}
use Rattle.grid_cli.specs.Hvdc.{named_objects, named_text, part_lines, part_text}
use Rattle.grid_cli.proofs.ItemTexts.{last_text, next_lines, next_text}
use Rattle.grid_cli.proofs.hvdc.parts_of.Goals as goal

pub loop-place-preserved : goal.loop-place-preserved
loop-place-preserved c =
    let world = c.args.world.now in
    let names = live world.steps in
    let k = c.loop-place.place in
    let name = c.variant_name.result.now in
    let objects = named_objects world c.args.hvdc.now in
    record {
      text =
          ap (flat_map part_text) c.in_ok-push-2.ensures.items
          ∙ last_text part_text c.loop-place.parts.items _
          ∙ ap (λ t. t ++ named_text world c.args.hvdc.now name) c.loop-place.invariant.text
          ∙ sym (next_text (named_text world c.args.hvdc.now) names k name c.variant_name.ensures);
      lined =
          ap (flat_map part_lines) c.in_ok-push-2.ensures.items
          ∙ last_text part_lines c.loop-place.parts.items _
          ∙ ap (λ t. t ++ lines (objects name)) c.loop-place.invariant.lined
          ∙ append_assoc (state_line (journal_of world.origin world.steps)) _ (lines (objects name))
          ∙ ap (λ t. state_line (journal_of world.origin world.steps) ++ t) (sym (next_lines objects names k name c.variant_name.ensures));
    }
