use Rattle.std.proofs.Common.{◌≡◌, ◌∙◌, ap, sym, Ok, Err}
use Rattle.grid_structure.specs.Lists.{listed}
use Rattle.grid_configured.specs.Translation.{translated}
use Rattle.grid_configured.proofs.SoundTranslations.{translated_is_sound}
use Rattle.grid_structure.proofs.ListsOfNetworks.{lists_are_loaded}
use Rattle.grid_configured.proofs.translation.translate.Goals as goal

pub returns-in-Ok : goal.returns-in-Ok
returns-in-Ok c =
    let n = c.args.network.now in
    let is : listed c.in_ok-lists.lists ≡ Ok (translated n) = ap listed c.in_ok-lists.ensures ∙ lists_are_loaded (translated n) (translated_is_sound n c.requires) in
    let done = c.in-Ok.ensures.done in
    let same : Ok (translated n) ≡ Ok c.in-Ok.structure = sym is ∙ done in
    cc

pub unreachable-requires : goal.unreachable-requires
unreachable-requires c =
    let n = c.args.network.now in
    let is : listed c.in_ok-lists.lists ≡ Ok (translated n) = ap listed c.in_ok-lists.ensures ∙ lists_are_loaded (translated n) (translated_is_sound n c.requires) in
    let told = rw c.in-Err-Refused.field-0-is at c.in-Err-Refused.ensures.refused in
    let clash : Ok (translated n) ≡ Err c.in-Err-Refused.field-0-0 = sym is ∙ told in
    cc
