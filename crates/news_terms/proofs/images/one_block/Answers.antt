-- Each field of a block is read off its image.
use Rattle.std.proofs.Common.{◌≡◌, ℕ, ◌<◌, ◌^◌, ◌-◌, List, length, take, drop, replicate, get_or}
use Rattle.std.proofs.Common.{sym, ap, ◌∙◌, arith}
use Rattle.std.specs.Int.{w16, w32, from_be_bytes}
use Rattle.std.proofs.lemmas.Nat.{from_be_bytes-to_be_bytes_2, from_be_bytes-to_be_bytes_4}
use Rattle.std.proofs.Math.Seq.{take-append_seam}
use Rattle.news_terms.specs.BlockImage.{Block, block_image, chunk_size}
use Rattle.news_terms.proofs.images.one_block.Goals as goal

-- the octets that a block holds, read off its image
payload_of : (b : Block) → take (length b.payload) (drop 32 (block_image b)) ≡ b.payload
payload_of b = take-append_seam b.payload (replicate (chunk_size - length b.payload) 0)

pub returns : goal.returns
returns c a b ha hb e =
    let cycle : a.cycle ≡ b.cycle =
    sym (from_be_bytes-to_be_bytes_4 a.cycle ha.cycle)
    ∙ ap (λ (x : List ℕ). from_be_bytes w32 (take 4 (drop 4 x))) e
    ∙ from_be_bytes-to_be_bytes_4 b.cycle hb.cycle in
    let first : a.first ≡ b.first =
    sym (from_be_bytes-to_be_bytes_4 a.first ha.first)
    ∙ ap (λ (x : List ℕ). from_be_bytes w32 (take 4 (drop 8 x))) e
    ∙ from_be_bytes-to_be_bytes_4 b.first hb.first in
    let index : a.index ≡ b.index =
    sym (from_be_bytes-to_be_bytes_4 a.index ha.index)
    ∙ ap (λ (x : List ℕ). from_be_bytes w32 (take 4 (drop 12 x))) e
    ∙ from_be_bytes-to_be_bytes_4 b.index hb.index in
    let article_length : a.article_length ≡ b.article_length =
    sym (from_be_bytes-to_be_bytes_4 a.article_length ha.article_length)
    ∙ ap (λ (x : List ℕ). from_be_bytes w32 (take 4 (drop 16 x))) e
    ∙ from_be_bytes-to_be_bytes_4 b.article_length hb.article_length in
    let sized_a : length a.payload < 2 ^ 16 = omega (arith, ha.at_most) in
    let sized_b : length b.payload < 2 ^ 16 = omega (arith, hb.at_most) in
    let size : length a.payload ≡ length b.payload =
    sym (from_be_bytes-to_be_bytes_2 (length a.payload) sized_a)
    ∙ ap (λ (x : List ℕ). from_be_bytes w16 (take 2 (drop 20 x))) e
    ∙ from_be_bytes-to_be_bytes_2 (length b.payload) sized_b in
    let class : a.class ≡ b.class = ap (λ (x : List ℕ). get_or x 22 0) e in
    let payload : a.payload ≡ b.payload =
    sym (payload_of a)
    ∙ ap (λ n. take n (drop 32 (block_image a))) size
    ∙ ap (λ (x : List ℕ). take (length b.payload) (drop 32 x)) e
    ∙ payload_of b in
    λ i. record {
      cycle = cycle i;
      first = first i;
      index = index i;
      article_length = article_length i;
      class = class i;
      payload = payload i;
    }
