-- Why no article begins at a block, and what was read of one that does.
use Rattle.std.proofs.Common.{◌≡◌, ◌∙◌, ◌+◌, ◌<◌, ◌≤◌, ℕ, zero, suc, false, sym, ap, subst, arith}
use Rattle.std.specs.Prelude.{Err}
use Rattle.news_terms.specs.BlockImage.{block_image}
use Rattle.news_terms.specs.Places.{size_of}
use Rattle.news_terms.specs.Token as terms
use Rattle.cyc_block.specs.Store.{block_at}
use Rattle.cyc_block.specs.declared.store.BlockStore.{Ghosts}
use Rattle.cyc_token.specs.Token.{token_view}
use Rattle.cyc_token.specs.declared.Token.{Token}
use Rattle.cyc_buffer.specs.Readings.{ReadsArticle, ReadsStore}
use Rattle.cyc_buffer.specs.Reads.{IsDamageBy, IsNone, IsOfToken}
use Rattle.cyc_buffer.specs.Stopped.{IsImageUnder, block_under}
use Rattle.cyc_buffer.specs.declared.answers.StartError.{StartError}
use Rattle.cyc_buffer.specs.declared.answers.StartError.TheVariants as errors
use Rattle.cyc_buffer.specs.declared.articles.Stretch.{Stretch}
use Rattle.cyc_buffer.proofs.ReadingLemmas.{reads_damaged, reads_err, reads_err_on, reads_ok_on}
use Rattle.cyc_buffer.proofs.ReadingLemmas.{told}
use Rattle.cyc_buffer.proofs.Refusals.{damage_by, same_token}
use Rattle.cyc_buffer.proofs.articles.read_article.Goals as goal

-- what is so of the first and of the later ones is so of all
from_first : (n : ℕ) (P : ℕ → Type 0) → P 0 → ((k : ℕ) → 1 ≤ k → k < n → P k)
    → (k : ℕ) → k < n → P k
from_first n P first later zero within = first
from_first n P first later (suc k) within = later (suc k) (omega arith) within

-- a refusal, of which the cause is known
because : {S : Type 0} (g : Ghosts S) (old new : S) (stretch : Stretch) (first : ℕ)
    (error : StartError)
    → (g.honest old → IsDamageBy (IsNone (λ j. false) (g.blocks old) stretch.number stretch.cycle
    stretch.end first) error)
    → ReadsStore {A = Token} g old new (Err error)
    → ReadsArticle g old new stretch first (Err error)
because g old new stretch first error cause reads = record {
  read = λ honest. tt;
  only = λ honest. tt;
  place = tt;
  refused = cause;
  calls = tt;
  reads = reads;
}

pub returns-in_err-octets : goal.returns-in_err-octets
returns-in_err-octets g c =
    told c.from_residual.result c.in_err-octets.field-0.0 c.from_residual.ensures
    (λ r. ReadsArticle g.S.BlockStore c.args.store.now c.read_octets.new.store c.args.stretch.now
    c.args.first r)
    (because g.S.BlockStore c.args.store.now c.read_octets.new.store c.args.stretch.now c.args.first
    c.in_err-octets.field-0.0
    (λ honest. damage_by c.in_err-octets.field-0.0 (λ none. absurd none)
    c.in_err-octets.ensures.device)
    (reads_err g.S.BlockStore c.args.store.now c.read_octets.new.store c.in_err-octets.field-0.0
    c.in_err-octets.ensures.reads))

pub returns-in_default : goal.returns-in_default
returns-in_default g c =
    because g.S.BlockStore c.args.store.now c.read_octets.new.store c.args.stretch.now c.args.first
    errors.Damaged
    (λ honest t here read clear.
    let first = read.images 0 (omega (arith, read.some)) in
    let there : c.in_ok-octets.octets ≡ block_image (block_under t 0 first.payload) =
    c.in_ok-octets.ensures.octets honest
    ∙ ap (block_at (g.S.BlockStore.blocks c.args.store.now)) (omega (arith, here)) ∙ first.image in
    c.in_default.ensures.none (block_under t 0 first.payload) first.block there)
    (reads_damaged g.S.BlockStore c.args.store.now c.read_octets.new.store
    c.in_ok-octets.ensures.reads.held c.in_ok-octets.ensures.reads.no_failure)

pub returns-then-not-begins_with : goal.returns-then-not-begins_with
returns-then-not-begins_with g c =
    because g.S.BlockStore c.args.store.now c.read_octets.new.store c.args.stretch.now c.args.first
    errors.Damaged
    (λ honest t here read clear.
    let octets = c.in_ok-octets.ensures.octets honest in
    let only = subst (λ o. IsOfToken o (token_view c.in-Some.token)) octets
    c.in-Some.ensures.only in
    let same = same_token (g.S.BlockStore.blocks c.args.store.now) c.args.stretch.now.number
    c.args.stretch.now.cycle c.args.stretch.now.end c.args.first t (token_view c.in-Some.token) only
    c.in-Some.ensures.place.0 c.in-Some.ensures.place.1 c.in-Some.ensures.place.2 here read in
    let first = read.images 0 (omega (arith, read.some)) in
    c.begins_with.ensures.other c.if-not-begins_with.true
    (subst (λ (u : terms.Token). 1 ≤ u.length) same read.some)
    (subst (λ (u : terms.Token). u.first + size_of u.length ≤ c.args.stretch.now.end) same
    read.ends)
    (subst (λ (u : terms.Token). IsImageUnder c.in_ok-octets.octets u 0) same
    (subst (λ o. IsImageUnder o t 0) (sym (octets
    ∙ ap (block_at (g.S.BlockStore.blocks c.args.store.now)) (omega (arith, here)))) first)))
    (reads_damaged g.S.BlockStore c.args.store.now c.read_octets.new.store
    c.in_ok-octets.ensures.reads.held c.in_ok-octets.ensures.reads.no_failure)

pub returns-in_err-read_images : goal.returns-in_err-read_images
returns-in_err-read_images g c =
    let held = c.in_ok-octets.ensures.reads.held in
    told c.from_residual-in_err-read_images.result c.in_err-read_images.field-0.0
    c.from_residual-in_err-read_images.ensures
    (λ r. ReadsArticle g.S.BlockStore c.args.store.now c.read_images.new.store c.args.stretch.now
    c.args.first r)
    (because g.S.BlockStore c.args.store.now c.read_images.new.store c.args.stretch.now c.args.first
    c.in_err-read_images.field-0.0
    (λ honest.
    let octets = c.in_ok-octets.ensures.octets honest in
    let only = subst (λ o. IsOfToken o (token_view c.in-Some.token)) octets
    c.in-Some.ensures.only in
    damage_by c.in_err-read_images.field-0.0 (λ refuted t here read clear.
    let same = same_token (g.S.BlockStore.blocks c.args.store.now) c.args.stretch.now.number
    c.args.stretch.now.cycle c.args.stretch.now.end c.args.first t (token_view c.in-Some.token) only
    c.in-Some.ensures.place.0 c.in-Some.ensures.place.1 c.in-Some.ensures.place.2 here read in
    refuted (subst (λ blocks. (k : ℕ) → k < size_of c.in-Some.token.length
    → IsImageUnder (block_at blocks (c.in-Some.token.first + k)) (token_view c.in-Some.token) k)
    (sym (held.blocks honest))
    (subst (λ (u : terms.Token). (k : ℕ) → k < size_of u.length → IsImageUnder (block_at
    (g.S.BlockStore.blocks c.args.store.now) (u.first + k)) u k) same read.images)))
    (c.in_err-read_images.ensures.refused (held.honest honest)))
    (reads_err_on g.S.BlockStore c.args.store.now c.read_octets.new.store c.read_images.new.store
    c.in_err-read_images.field-0.0 held c.in_ok-octets.ensures.reads.no_failure
    c.in_err-read_images.ensures.reads))

pub returns : goal.returns
returns g c =
    let token = c.in-Some.token in
    let place = c.in-Some.ensures.place in
    let blocks = g.S.BlockStore.blocks c.args.store.now in
    let octets = c.in_ok-octets.ensures in
    let begins = c.if-not-begins_with.false in
    record {
      read = λ honest. record {
        buffer = place.0;
        cycle = place.1;
        some = c.begins_with.ensures.some begins;
        ends = c.begins_with.ensures.ends begins;
        images = from_first (size_of token.length)
            (λ (k : ℕ). IsImageUnder (block_at blocks (token.first + k)) (token_view token) k)
            (subst (λ o. IsImageUnder o (token_view token) 0)
            (octets.octets honest ∙ ap (block_at blocks) (omega (arith, place.2)))
            (c.begins_with.ensures.image begins))
            (subst (λ bs. (k : ℕ) → 1 ≤ k → k < size_of token.length
            → IsImageUnder (block_at bs (token.first + k)) (token_view token) k)
            (octets.reads.held.blocks honest)
            (c.in_ok-read_images.ensures.images (octets.reads.held.honest honest)));
      };
      only = λ honest. subst (λ o. IsOfToken o (token_view token)) (octets.octets honest)
          c.in-Some.ensures.only;
      place = (place.2, c.begins_with.ensures.ends begins);
      refused = λ honest. tt;
      calls = omega (arith, octets.calls, c.in_ok-read_images.ensures.calls);
      reads = reads_ok_on g.S.BlockStore c.args.store.now c.read_octets.new.store
          c.read_images.new.store _ token octets.reads.held octets.reads.no_failure
          c.in_ok-read_images.ensures.reads;
    }

pub read_images-requires-clause-some : goal.read_images-requires-clause-some
read_images-requires-clause-some g c = c.begins_with.ensures.some c.if-not-begins_with.false

pub read_images-requires-clause-within : goal.read_images-requires-clause-within
read_images-requires-clause-within g c =
    omega (
      arith,
      c.begins_with.ensures.ends c.if-not-begins_with.false,
      c.requires.within,
      c.in_ok-octets.ensures.reads.held.count,
    )
