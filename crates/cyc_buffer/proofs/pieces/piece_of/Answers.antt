-- What is not said, or doesn't lie here, or isn't such an image, is no block of any article.
use Rattle.std.proofs.Common.{◌≡◌, ◌∙◌, ◌+◌, ◌-◌, ◌≤◌, ℕ, List, refl, sym, arith, subst}
use Rattle.std.proofs.lemmas.Bool.{false≢true}
use Rattle.news_terms.specs.Places.{Buffer}
use Rattle.news_terms.specs.Token as terms
use Rattle.cyc_token.specs.Token.{token_view}
use Rattle.cyc_buffer.specs.BufferState.{buffer_of}
use Rattle.cyc_buffer.specs.Crash.{IsPieceIn}
use Rattle.cyc_buffer.proofs.pieces.piece_of.Goals as goal

-- the index of a block in its article is how far it is behind the first
index_of : (buffer : Buffer) (octets : List ℕ) (t u : terms.Token) (k block : ℕ) → t ≡ u
    → t.first + k ≡ block → IsPieceIn buffer octets t k
    → IsPieceIn buffer octets u (block - u.first)
index_of buffer octets t u k block same here piece =
    subst (λ (v : terms.Token). IsPieceIn buffer octets v (block - v.first)) same
    (subst (IsPieceIn buffer octets t) at piece)
  where
    at : k ≡ block - t.first
    at = omega (arith, here)

-- the first block of an article isn't behind any of its blocks
first_before : (t u : terms.Token) (k block : ℕ) → t ≡ u → t.first + k ≡ block → u.first ≤ block
first_before t u k block same here =
    subst (λ (v : terms.Token). v.first ≤ block) same (omega (arith, here))

pub returns-in_default-clause-none : goal.returns-in_default-clause-none
returns-in_default-clause-none c t k here piece =
    c.in_default.ensures.none (buffer_of c.args.line.now) t k piece

pub returns-then-not-lies_round-clause-none : goal.returns-then-not-lies_round-clause-none
returns-then-not-lies_round-clause-none c t k here piece =
    let same = c.in-Some.ensures.only (buffer_of c.args.line.now) t k refl piece in
    let u = token_view c.in-Some.token in
    let block = c.args.block in
    let there = index_of (buffer_of c.args.line.now) c.args.octets.now t u k block same here piece
    in
    let first = first_before t u k block same here in
    c.lies_round.ensures.other c.if-not-lies_round.true first (omega (arith, first, there.inside))
    there.ends
    there.begun

pub returns-then-not-is_image_under-clause-none :
    goal.returns-then-not-is_image_under-clause-none
returns-then-not-is_image_under-clause-none c t k here piece =
    let same = c.in-Some.ensures.only (buffer_of c.args.line.now) t k refl piece in
    let u = token_view c.in-Some.token in
    let block = c.args.block in
    let there = index_of (buffer_of c.args.line.now) c.args.octets.now t u k block same here piece
    in
    absurd (false≢true (sym c.if-not-is_image_under.true ∙ c.is_image_under.ensures.1 there.image))
