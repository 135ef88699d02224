use Rattle.std.proofs.Common.{◌≡◌, sym, ap, ◌∙◌, ◌++◌, [], ◌∷◌, append_assoc}
use Rattle.grid_configured.proofs.ReservedIds.{tagged_is_id, named_as}
use Rattle.grid_configured.proofs.level_lists.reserved_id.Goals as goal

pub id_of-requires : goal.id_of-requires
id_of-requires c =
    let own : c.text-own.result.now ≡ c.args.id.now = c.text-own.ensures.text in
    let is : c.as_str.result.now ≡ c.args.id.now ++ 33 ∷ [] ++ c.args.tag.now =
    c.as_str.ensures.value ∙ c.in_ok-text.ensures.ok ∙ ap (λ z. z ++ 33 ∷ c.args.tag.now) own ∙ sym (append_assoc c.args.id.now (33 ∷ []) c.args.tag.now) in
    tagged_is_id c.args.id.now c.args.tag.now c.as_str.result.now is c.requires.plain c.text-own.ensures.valid c.requires.short c.requires.clean

pub returns : goal.returns
returns c =
    let own : c.text-own.result.now ≡ c.args.id.now = c.text-own.ensures.text in
    let is : c.as_str.result.now ≡ c.args.id.now ++ 33 ∷ [] ++ c.args.tag.now =
    c.as_str.ensures.value ∙ c.in_ok-text.ensures.ok ∙ ap (λ z. z ++ 33 ∷ c.args.tag.now) own ∙ sym (append_assoc c.args.id.now (33 ∷ []) c.args.tag.now) in
    named_as c.id_of.result c.as_str.result.now (c.args.id.now ++ 33 ∷ [] ++ c.args.tag.now) c.id_of.ensures is
