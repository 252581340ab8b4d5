-- The text of an article, read off its blocks.
use Rattle.std.proofs.Common.{◌≡◌, ◌∙◌, ℕ, zero, suc, ◌+◌, ◌-◌, ◌*◌, ◌<◌, ◌≤◌, min, inl, inr, sym}
use Rattle.std.proofs.Common.{ap, arith, List, ◌++◌, length, take, drop, replicate}
use Rattle.std.proofs.Common.{length-append, length-drop}
use Rattle.std.proofs.Math.Seq.{drop-append_seam, take-append_seam}
use Rattle.std.proofs.lemmas.Bool.{cases_lt}
use Rattle.std.proofs.lemmas.List.{drop-append-le, take-append-le, take_all}
use Rattle.news_terms.specs.BlockImage.{Block, block_image, block_of, chunk, chunk_size}
use Rattle.news_terms.specs.Places.{Buffer, size_of}
use Rattle.cyc_block.specs.Store.{block_at}
use Rattle.cyc_token.specs.Token.{token_view}
use Rattle.cyc_token.specs.declared.Token.{Token}
use Rattle.cyc_buffer.specs.Crash.{IsThere}
use Rattle.cyc_buffer.specs.FoundHistory.{article_in, payload_in, text_in}
use Rattle.cyc_buffer.specs.Stopped.{block_under}

-- the octets that a block holds, read off its image
pub payload_of : (b : Block) → take (length b.payload) (drop 32 (block_image b)) ≡ b.payload
payload_of b = take-append_seam b.payload (replicate (chunk_size - length b.payload) 0)

-- A device that has all of an article.
module _ (buffer : Buffer) (blocks : List (List ℕ)) (t : Token)
    (there : IsThere buffer blocks (token_view t)) where
  abbrev part : ℕ → List ℕ
  part k = payload_in (block_at blocks (t.first + k)) t.length k

  -- block k holds this
  part_is : (k : ℕ) (inside : k < size_of t.length)
      → part k ≡ (there.pieces k inside).image.payload
  part_is k inside =
      let p = (there.pieces k inside).image in
      ap (λ n. take n (drop 32 (block_at blocks (t.first + k)))) (sym p.fills)
      ∙ ap (λ (os : List ℕ). take (length p.payload) (drop 32 os)) p.image
      ∙ payload_of (block_under (token_view t) k p.payload)

  part_length : (k : ℕ) → k < size_of t.length
      → length (part k) ≡ min chunk_size (t.length - chunk_size * k)
  part_length k inside = ap (λ (os : List ℕ). length os) (part_is k inside)
      ∙ (there.pieces k inside).image.fills

  text_length : (n : ℕ) → n ≤ size_of t.length
      → length (text_in blocks t.first t.length n) ≡ min (chunk_size * n) t.length
  unfolding text_in
  text_length zero h = omega arith
  text_length (suc n) h = omega (
    arith,
    h,
    length-append (text_in blocks t.first t.length n) (part n),
    text_length n (omega (arith, h)),
    part_length n (omega (arith, h)),
  )

  -- as long as the article
  pub whole_length : length (article_in blocks t).text ≡ t.length
  whole_length = text_length (size_of t.length) (omega arith) ∙ omega arith

  -- of the first n blocks chunk k is what block k holds
  text_chunk : (n k : ℕ) → n ≤ size_of t.length → k < n
      → chunk k (text_in blocks t.first t.length n) ≡ part k
  unfolding text_in
  text_chunk zero k h inside = absurd (omega (arith, inside))
  text_chunk (suc n) k h inside =
      let before = text_in blocks t.first t.length n in
      let size = text_length n (omega (arith, h)) in
      let full : length before ≡ chunk_size * n = omega (arith, size, h) in
      elim (cases_lt k n) [
        | inl less ↦
            ap (take chunk_size) (drop-append-le (chunk_size * k) before (part n)
            (omega (arith, full, less)))
            ∙ take-append-le chunk_size (drop (chunk_size * k) before) (part n)
            (omega (arith, full, less, length-drop (chunk_size * k) before))
            ∙ text_chunk n k (omega (arith, h)) less
        | inr more ↦
            let same : k ≡ n = omega (arith, more, inside) in
            ap (λ m. take chunk_size (drop m (before ++ part n)))
            (omega (arith, full, ap (λ m. chunk_size * m) same))
            ∙ ap (take chunk_size) (drop-append_seam before (part n))
            ∙ take_all chunk_size (part n) (omega (arith, part_length n (omega (arith, h))))
            ∙ ap part (sym same)
      ]

  -- each block is that of the text
  pub text_blocks : (k : ℕ) → k < size_of t.length → block_at blocks (t.first + k)
      ≡ block_image (block_of t.cycle t.first t.class (article_in blocks t).text k)
  text_blocks k inside =
      let p = (there.pieces k inside).image in
      let length_is : t.length ≡ length (article_in blocks t).text = sym whole_length in
      let payload_is : p.payload ≡ chunk k (article_in blocks t).text =
      sym (part_is k inside) ∙ sym (text_chunk (size_of t.length) k (omega arith) inside) in
      p.image ∙ ap block_image (λ i. record {
        cycle = t.cycle;
        first = t.first;
        index = k;
        article_length = length_is i;
        class = t.class;
        payload = payload_is i;
      })
