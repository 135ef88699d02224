use Rattle.std.proofs.Common.{◌≡◌, ◌+◌, ◌/◌, refl, ap, ◌∙◌, subst, arith, ℕ, List, map, length, Result, Bor}
use Rattle.std.specs.Prelude.{IfOk, max}
use Rattle.std.specs.List.{AllZip, flat_map}
use Rattle.rayon.specs.Lists.{chunks_of}
use Rattle.rayon.proofs.ToStd.{slice-AllZip, chunks_of-concat}
use Rattle.grid_ids.specs.declared.copies.Memory.{Memory}
use Rattle.grid_report.specs.declared.plan.Block.{Block}
use Rattle.grid_report.specs.Blocks.{block_text}
use Rattle.grid_report.proofs.BlockParts.{all_right, texts_joined, where_ok}
use Rattle.grid_report.proofs.parallel.texts_of.Goals as goal

pub returns : goal.returns
returns g c =
    let h = c.in_ok-texts.ensures in
    let blocks = c.args.blocks.now in
    let size_of : ℕ = max (length blocks / 8 + 1) 1 in
    let slice = ap (λ it. it.base.slice.now) c.map.ensures.base ∙ ap (λ it. it.slice.now) c.with_min_len.ensures.base ∙ c.par_chunks.ensures.slice in
    let size = ap (λ it. it.base.size) c.map.ensures.base ∙ ap (λ it. it.size) c.with_min_len.ensures.base ∙ c.par_chunks.ensures.size in
    let cut : map (λ (z : Bor (List Block)). z.now) h.1.0 ≡ chunks_of size_of blocks = h.1.1 ∙ rw (size, slice) refl in
    let R : List Block → Result (List ℕ) Memory → Type 0 = λ part r. IfOk r (λ text. text ≡ flat_map block_text part) in
    let right : AllZip R (chunks_of size_of blocks) h.0 = slice-AllZip h.1.0 (chunks_of size_of blocks) cut R h.0 h.1.2 in
    where_ok _ _ _ c.in_ok-texts.texts (λ texts made. texts_joined block_text (chunks_of size_of blocks) blocks texts.items (chunks_of-concat size_of blocks (omega arith)) (made.2 ∙ all_right Memory (flat_map block_text) (chunks_of size_of blocks) made.0 (subst (AllZip R (chunks_of size_of blocks)) made.1 right))) h.2
