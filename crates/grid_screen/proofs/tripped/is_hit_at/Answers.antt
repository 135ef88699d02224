use Rattle.std.proofs.Common.{ap, ◌∙◌, false, get_or, arith}
use Rattle.std.proofs.lemmas.List.{get_or_read}
use Rattle.grid_level.specs.Passing.{nodes}
use Rattle.grid_groups.proofs.Indices.{among_In, index_below}
use Rattle.grid_groups.specs.Labels.{index_in, label_of}
use Rattle.grid_screen.proofs.tripped.is_hit_at.Goals as goal

pub index-requires : goal.index-requires
unfolding label_of
index-requires c =
    let t = c.args.touched.now in
    let lt = index_below c.args.node (nodes t.level.now) (among_In c.args.node (nodes t.level.now) c.requires.node) in
    let less = c.requires.fits.below (index_in (nodes t.level.now) c.args.node) (omega (arith, lt, c.requires.fits.long)) in
    omega (arith, less, c.label_at.ensures, t.hit.ok.0)

pub returns : goal.returns
unfolding label_of
returns c =
    let t = c.args.touched.now in
    let lt = index_below c.args.node (nodes t.level.now) (among_In c.args.node (nodes t.level.now) c.requires.node) in
    let less = c.requires.fits.below (index_in (nodes t.level.now) c.args.node) (omega (arith, lt, c.requires.fits.long)) in
    get_or_read t.hit.items _ _ (omega (arith, less, c.label_at.ensures)) c.index.ensures false ∙ ap (λ z. get_or t.hit.items z false) c.label_at.ensures
