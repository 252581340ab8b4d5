use Rattle.std.proofs.Common.{◌≡◌, ◌+◌, ◌*◌, take, drop, ap, ◌∙◌, length-take, length-drop, arith}
use Rattle.std.proofs.Math.Seq.{take-add}
use Rattle.news_terms.specs.BlockImage.{chunk_size}
use Rattle.news_terms.proofs.images.chunks_in_a_row.Goals as goal

pub returns-clause-next_chunk : goal.returns-clause-next_chunk
returns-clause-next_chunk c text k =
    let next : chunk_size * (k + 1) ≡ chunk_size * k + chunk_size = omega arith in
    ap (λ n. take n text) next ∙ take-add (chunk_size * k) chunk_size text

pub returns-clause-full : goal.returns-clause-full
returns-clause-full c text k h =
    omega (
      arith,
      length-take chunk_size (drop (chunk_size * k) text),
      length-drop (chunk_size * k) text,
      h,
    )

pub returns-clause-at_most : goal.returns-clause-at_most
returns-clause-at_most c text k = omega (arith, length-take chunk_size (drop (chunk_size * k) text))
