-- What is found of a buffer that a crash has left is what was finished there before it.
use Rattle.std.proofs.Common.{◌≡◌, ◌∙◌, ◌⊎◌, ℕ, zero, suc, ◌+◌, ◌-◌, ◌*◌, ◌<◌, min}
use Rattle.std.proofs.Common.{inl, inr, sym, ap, subst, arith, List, ◌++◌, length, take, drop}
use Rattle.std.proofs.Common.{Some, option_map}
use Rattle.std.proofs.Math.Seq.{take-add}
use Rattle.std.proofs.lemmas.List.{length-drop, length-take, take_all}
use Rattle.std.proofs.lemmas.Option.{none-some, same_Some}
use Rattle.std.specs.List.{Contains}
use Rattle.cyc_block.specs.Store.{block_at}
use Rattle.cyc_buffer.proofs.FoundTexts.{payload_of}
use Rattle.cyc_buffer.specs.Crash.{IsOfHistory}
use Rattle.cyc_buffer.specs.FoundHistory.{article_in, payload_in, text_in}
use Rattle.cyc_buffer.specs.History as histories
use Rattle.cyc_buffer.specs.History.{Article, History, finished_at}
use Rattle.cyc_token.specs.Token.{token_view}
use Rattle.cyc_token.specs.declared.Token as codes
use Rattle.news_terms.specs.BlockImage.{block_image, block_of, chunk, chunk_size}
use Rattle.news_terms.specs.Places.{size_of}
use Rattle.news_terms.specs.Token.{Token}
use Rattle.relay_model.specs.Fetches as fetches
use Rattle.relay_model.specs.State.{Kept}
use Rattle.buffer_repair.proofs.LeftTexts.{IsFoundText, IsNoText, text_or_none}
use Rattle.buffer_repair.proofs.RejectedTexts.{article_from, under_own}
use Rattle.buffer_repair.specs.Remains.{Remains, texts_left}

-- the octets that a block of a text holds are those of the text
part_of : (blocks : List (List ℕ)) (cycle first class octets : ℕ) (text : List ℕ)
    → length text ≡ octets → (k : ℕ)
    → block_at blocks (first + k) ≡ block_image (block_of cycle first class text k)
    → payload_in (block_at blocks (first + k)) octets k ≡ chunk k text
part_of blocks cycle first class octets text long k is =
    let b = block_of cycle first class text k in
    let fills : min chunk_size (octets - chunk_size * k) ≡ length (chunk k text) =
    sym (length-take chunk_size (drop (chunk_size * k) text)
    ∙ ap (min chunk_size) (length-drop (chunk_size * k) text)
    ∙ ap (λ n. min chunk_size (n - chunk_size * k)) long) in
    ap (λ n. take n (drop 32 (block_at blocks (first + k)))) fills
    ∙ ap (λ (os : List ℕ). take (length (chunk k text)) (drop 32 os)) is
    ∙ payload_of b

-- the first blocks of a text hold its front
text_front : (blocks : List (List ℕ)) (cycle first class octets : ℕ) (text : List ℕ)
    → length text ≡ octets → (n : ℕ)
    → ((k : ℕ) → k < n
    → block_at blocks (first + k) ≡ block_image (block_of cycle first class text k))
    → text_in blocks first octets n ≡ take (chunk_size * n) text
unfolding text_in
text_front blocks cycle first class octets text long zero each =
    let none : 0 ≡ chunk_size * zero = omega arith in
    ap (λ m. take m text) none
text_front blocks cycle first class octets text long (suc n) each =
    let more : chunk_size * n + chunk_size ≡ chunk_size * suc n = omega arith in
    ap (λ front. front ++ payload_in (block_at blocks (first + n)) octets n)
    (text_front blocks cycle first class octets text long n
    (λ k less. each k (omega (arith, less))))
    ∙ ap (λ part. take (chunk_size * n) text ++ part)
    (part_of blocks cycle first class octets text long n (each n (omega arith)))
    ∙ sym (take-add (chunk_size * n) chunk_size text)
    ∙ ap (λ m. take m text) more

-- the article that a device has under a token is the one whose blocks it has
article_same : (blocks : List (List ℕ)) (t : codes.Token) (class : ℕ) (text : List ℕ)
    → length text ≡ t.length
    → ((k : ℕ) → k < size_of t.length
    → block_at blocks (t.first + k) ≡ block_image (block_of t.cycle t.first class text k))
    → (article_in blocks t).text ≡ text
article_same blocks t class text long each =
    text_front blocks t.cycle t.first class t.length text long (size_of t.length) each
    ∙ take_all (chunk_size * size_of t.length) text (omega (arith, long))

module _ (ids : Token → List ℕ) (r : Remains) (h : History) (same : h.buffer ≡ r.buffer)
    (each : (t : codes.Token) → Contains r.tokens t → IsOfHistory h r.blocks (token_view t)) where
  -- the text of a found article is the one that was finished under its token
  text_before : (t : Token) (old : List ℕ) (f : IsFoundText ids r.blocks r.tokens t)
      → t.buffer ≡ h.buffer.number → histories.text_under h t ≡ Some old
      → (article_in r.blocks f.one).text ≡ old
  text_before t old f here under =
      let a = article_from t old (finished_at h.buffer h.begins t.cycle t.first)
      (sym (under_own h t here) ∙ under) in
      let of = subst (IsOfHistory h r.blocks) f.this (each f.one f.listed) in
      let cycle = ap (λ (u : Token). u.cycle) f.this in
      let first = ap (λ (u : Token). u.first) f.this in
      let long = ap (λ (u : Token). u.length) f.this in
      article_same r.blocks f.one a.article.class a.article.text (a.long ∙ sym long)
      (λ k inside.
      subst (λ c. block_at r.blocks (f.one.first + k)
      ≡ block_image (block_of c f.one.first a.article.class a.article.text k)) (sym cycle)
      (subst (λ n. block_at r.blocks (n + k)
      ≡ block_image (block_of t.cycle n a.article.class a.article.text k)) (sym first)
      (of.text a.article k a.is (omega (arith, inside, ap size_of long)))))
      ∙ a.of

  -- so what is found under a token is what was finished under it
  pub found_before : (t : Token) (text old : List ℕ) → t.buffer ≡ r.buffer.number
      → histories.text_under h t ≡ Some old
      → fetches.text_under (texts_left ids r) t ≡ Some text → text ≡ old
  found_before t text old here under found =
      by (text_or_none ids r.blocks r.tokens t)
    where
      by : IsFoundText ids r.blocks r.tokens t ⊎ IsNoText ids r.blocks r.tokens t → text ≡ old
      by (inl f) =
          same_Some text (article_in r.blocks f.one).text
          (sym found ∙ ap (option_map (λ (one : Kept). one.text)) f.first)
          ∙ text_before t old f (here ∙ sym (ap (λ b. b.number) same)) under
      by (inr f) = absurd (none-some text
          (sym (ap (option_map (λ (one : Kept). one.text)) f.nothing) ∙ found))

  -- and where the token is listed it is found
  pub listed_before : (t : Token) (old : List ℕ) → t.buffer ≡ r.buffer.number
      → histories.text_under h t ≡ Some old
      → (u : codes.Token) → Contains r.tokens u → token_view u ≡ t
      → fetches.text_under (texts_left ids r) t ≡ Some old
  listed_before t old here under u listed this =
      by (text_or_none ids r.blocks r.tokens t)
    where
      by : IsFoundText ids r.blocks r.tokens t ⊎ IsNoText ids r.blocks r.tokens t
          → fetches.text_under (texts_left ids r) t ≡ Some old
      by (inl f) =
          ap (option_map (λ (one : Kept). one.text)) f.first
          ∙ ap Some (text_before t old f (here ∙ sym (ap (λ b. b.number) same)) under)
      by (inr f) = absurd (f.none u listed this)
