-- What is cut off the rest of the text is the chunk.
use Rattle.std.proofs.Common.{◌≡◌, ◌∙◌, ◌*◌, ap, take, drop, length, min, arith}
use Rattle.std.proofs.lemmas.List.{take_rest, take_min}
use Rattle.cyc_buffer.proofs.buffer.chunk_of.Goals as goal

pub returns : goal.returns
returns c =
    let text = c.args.text.now in
    let from = 480 * c.args.k in
    let rest = take_rest text from in
    let count : c.min.result ≡ min 480 (length (drop from text)) =
    omega (arith, c.min.ensures, ap length rest) in
    ap (take c.min.result) rest ∙ ap (λ n. take n (drop from text)) count
    ∙ take_min 480 (drop from text)
