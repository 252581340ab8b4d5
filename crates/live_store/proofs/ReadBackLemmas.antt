-- What a start reads of a live article.
use Rattle.std.proofs.Common.{◌≡◌, ◌∙◌, ℕ, ◌+◌, ◌*◌, ◌<◌, ◌≤◌, refl, sym, ap, subst, arith}
use Rattle.std.proofs.Common.{Bool, true, false, true≢false, not, nat_lt, nat_le, ◌==◌, ◌||◌}
use Rattle.std.proofs.Common.{List, take, None, Some, Ok, Result}
use Rattle.std.specs.Global.{Vec}
use Rattle.std.specs.Prelude.{Err}
use Rattle.std.proofs.lemmas.Bool.{cond-false, eq-eqb, ne_eqb, le-ltb, lt-leb}
use Rattle.std.proofs.Math.Logic.{∥∥₁_elim}
use Rattle.article_parse.specs.Faults.{IsFaultOf}
use Rattle.article_parse.specs.declared.faults.ArtError.{ArtError}
use Rattle.article_parse.specs.declared.faults.ArtError.TheVariants as faults
use Rattle.news_terms.proofs.ArticleFaults.{article_without_fault}
use Rattle.news_terms.specs.Article as terms
use Rattle.news_terms.specs.Article.{IsFirstFault}
use Rattle.news_terms.specs.ArticleTexts.{IsArticle}
use Rattle.news_terms.specs.BlockImage.{chunk, chunk_size}
use Rattle.news_terms.specs.Places.{size_of, on_line}
use Rattle.news_terms.specs.Token.{Token}
use Rattle.cyc_block.specs.declared.store.BlockStore.{Ghosts}
use Rattle.cyc_buffer.specs.Agreement.{Agrees, store_of}
use Rattle.cyc_buffer.specs.Answers.{Chunk, Gone, Unknown, answer, by_numbers, by_text, front_view}
use Rattle.cyc_buffer.specs.Answers.{is_beyond, or_by_text}
use Rattle.cyc_buffer.specs.Answers as answers
use Rattle.cyc_buffer.specs.Calls.{ReadsBlock}
use Rattle.cyc_buffer.specs.History.{History, front_of, text_under}
use Rattle.cyc_buffer.specs.Head.{stop_of}
use Rattle.cyc_buffer.specs.Reads.{IsBlamed, StaysHeld}
use Rattle.cyc_buffer.specs.BufferState.{Keeps}
use Rattle.cyc_buffer.specs.Stopped.{IsLiveToken}
use Rattle.cyc_buffer.specs.declared.answers.BufError.{BufError}
use Rattle.cyc_buffer.specs.declared.answers.Found.{Found}
use Rattle.cyc_buffer.specs.declared.answers.Found.TheVariants as found
use Rattle.cyc_buffer.specs.declared.answers.Front.{Front}
use Rattle.cyc_buffer.specs.declared.answers.StartError.{StartError}
use Rattle.cyc_buffer.specs.declared.answers.StartError.TheVariants as errors
use Rattle.cyc_buffer.specs.declared.buffer.Buffer.{Buffer}
use Rattle.cyc_buffer.specs.declared.buffer_state.BufferState.{BufferState}
use Rattle.cyc_buffer.proofs.Finished.{lies}
use Rattle.cyc_buffer.proofs.Reading.{is_under}
use Rattle.cyc_buffer.proofs.Refusals.{blamed_on, held_on}
use Rattle.cyc_token.specs.Token.{token_view}
use Rattle.cyc_token.specs.declared.Token as codes
use Rattle.boxcar.specs.Table.{Shelves}
use Rattle.live_store.specs.Started.{EntersArticle, IsMerelyRead, IsNoArticle, IsToldAs}
use Rattle.live_store.specs.Started.{IsUnentered, ReadsArticles, ReadsText}
use Rattle.live_store.proofs.OpenLemmas.{no_prop}

neither : (a b : Bool) → a ≡ false → b ≡ false → a || b ≡ false
neither false b one other = other
neither true b one other = absurd (true≢false one)

-- the numbers don't decide of a live article's block
live_numbers : (r : BufferState) (h : History) (token : Token) (k : ℕ) → Keeps r h
    → (live : IsLiveToken h token) → k < size_of token.length
    → by_numbers h.buffer (front_of h) token k ≡ None
live_numbers r h token k keeps live inside =
    let l = lies h.buffer h.begins token.cycle token.first live.article keeps.sizes live.finished
    in
    let blocks = h.buffer.blocks in
    let size = size_of token.length in
    let place = on_line blocks token.cycle token.first in
    let within : token.first + size ≤ blocks = omega (arith, l.within, ap size_of live.octets) in
    let some : token.length ≡ 0 → ⊥ = λ e. omega (arith, inside, e) in
    cond-false (is_beyond h.buffer (front_of h) token k) (Some Unknown) _
    (neither (not (token.buffer == h.buffer.number) || token.length == 0
    || nat_lt blocks (token.first + size) || nat_le size k) (nat_le (front_of h) place)
    (neither (not (token.buffer == h.buffer.number) || token.length == 0
    || nat_lt blocks (token.first + size)) (nat_le size k)
    (neither (not (token.buffer == h.buffer.number) || token.length == 0)
    (nat_lt blocks (token.first + size))
    (neither (not (token.buffer == h.buffer.number)) (token.length == 0)
    (ap not (eq-eqb token.buffer h.buffer.number live.buffer))
    (ne_eqb token.length 0 some))
    (le-ltb blocks (token.first + size) within))
    (lt-leb size k inside))
    (lt-leb (front_of h) place live.live.begun))
    ∙ cond-false (nat_lt (place + blocks) (front_of h)) (Some (Gone (front_view h.buffer
    (front_of h)))) None (le-ltb (place + blocks) (front_of h) live.live.here)

-- the answer to a read of a live article's block is its chunk
pub live_answer : (r : BufferState) (h : History) (token : Token) (k : ℕ) → Keeps r h
    → (live : IsLiveToken h token) → k < size_of token.length
    → answer h token k ≡ Chunk (chunk k live.article.text)
live_answer r h token k keeps live inside =
    ap (λ o. or_by_text o (by_text k (text_under h token)))
    (live_numbers r h token k keeps live inside)
    ∙ ap (by_text k)
    (is_under h token live.article live.buffer live.finished live.class live.octets)

module _ {S : Type 0} {g : Ghosts S} (old new : Buffer S g) (token : codes.Token) (k : ℕ)
    (before after : List ℕ) (h : History) (agrees : Agrees true old h)
    (live : IsLiveToken h (token_view token)) (inside : k < size_of token.length) where
  shown : (f : Found) → ReadsBlock old token k before (Ok f) after new
      → answers.Shows f after (Chunk (chunk k live.article.text))
  shown f reads = subst (answers.Shows f after)
      (live_answer old.buffer_state h (token_view token) k agrees.keeps live inside)
      (reads.found h agrees)

  -- a chunk is that of the article's text
  pub chunk_read : (n : ℕ) → ReadsBlock old token k before (Ok (found.Chunk n)) after new
      → take n after ≡ chunk k live.article.text
  chunk_read n reads = (shown (found.Chunk n) reads).1

  -- it isn't gone, nor unknown
  pub not_gone : (f : Front) → ReadsBlock old token k before (Ok (found.Gone f)) after new
      → ⊥
  not_gone f reads = shown (found.Gone f) reads

  pub not_unknown : ReadsBlock old token k before (Ok found.Unknown) after new → ⊥
  not_unknown reads = shown found.Unknown reads

by_fault : (text : List ℕ) (fault : terms.Fault) (r : StartError) → IsFirstFault text fault
    → r ≡ errors.Damaged → IsNoArticle text r
by_fault text fault r first told = subst (IsNoArticle text) (sym told)
    (λ article. article_without_fault text article.0 fault article.1 first)

module _ {S : Type 0} {g : Ghosts S} where
  -- where nothing was read nothing is another
  pub merely_none : (b : Buffer S g) → IsMerelyRead b b
  merely_none b = record {
    same = λ trusted h agrees. agrees;
    buffer_state = refl;
    opened = refl;
    stop = refl;
    held = record {
      honest = λ honest. honest;
      blocks = λ honest. refl;
      heads = λ honest. refl;
      count = refl;
    };
  }

  -- one read after others
  pub merely_next : (a b c : Buffer S g) → IsMerelyRead a b → IsMerelyRead b c → IsMerelyRead a c
  merely_next a b c one other = record {
    same = λ trusted h agrees. other.same trusted h (one.same trusted h agrees);
    buffer_state = other.buffer_state ∙ one.buffer_state;
    opened = other.opened ∙ one.opened;
    stop = other.stop ∙ one.stop;
    held = held_on g (store_of a) (store_of b) (store_of c) one.held other.held;
  }

  -- a read of a block
  pub merely_read : (a b : Buffer S g) (token : codes.Token) (k : ℕ) (before after : List ℕ)
      (result : Result Found BufError) → ReadsBlock a token k before result after b
      → StaysHeld g (store_of a) (store_of b) → stop_of b ≡ stop_of a
      → IsMerelyRead a b
  merely_read a b token k before after result reads held stop = record {
    same = reads.same;
    buffer_state = reads.buffer_state;
    opened = reads.opened;
    stop = stop;
    held = held;
  }

  -- it went without a failure
  pub unfailed : (a b : Buffer S g) (token : codes.Token) (k : ℕ) (before after : List ℕ)
      (f : Found) → ReadsBlock a token k before (Ok f) after b
      → g.failures (store_of b) ≡ g.failures (store_of a)
  unfailed a b token k before after f reads = reads.device.no_failure

-- what is told of a text that has a fault
pub no_article : (text : List ℕ) (e : ArtError) (r : StartError) → IsFaultOf text e → IsToldAs e r
    → IsNoArticle text r
no_article text faults.Memory r fault told = subst (IsNoArticle text) (sym told) tt
no_article text faults.NoBlankLine r fault told = by_fault text _ r fault told
no_article text faults.BadHeader r fault told = by_fault text _ r fault told
no_article text faults.BareCrLf r fault told = by_fault text _ r fault told
no_article text faults.Nul r fault told = by_fault text _ r fault told
no_article text (faults.Missing name) r fault told = by_fault text _ r fault told
no_article text (faults.Twice name) r fault told = by_fault text _ r fault told
no_article text (faults.EmptyField name) r fault told = by_fault text _ r fault told
no_article text faults.BadId r fault told = by_fault text _ r fault told
no_article text faults.BadGroups r fault told = by_fault text _ r fault told

-- so an article isn't refused for its text
pub article_unentered : (text other : List ℕ) (e : StartError) → text ≡ other
    → IsNoArticle text e → IsUnentered ∥ IsArticle other ∥₁ e
article_unentered text other errors.Memory same none = tt
article_unentered text other errors.Device same none = tt
article_unentered text other errors.NoHead same none = none
article_unentered text other errors.Unclosed same none = none
article_unentered text other errors.Damaged same none = λ article.
    ∥∥₁_elim article no_prop (λ a. none (subst IsArticle (sym same) a))

-- a text ends with its last block
pub covers : (n k : ℕ) → (k < size_of n → ⊥) → n ≤ chunk_size * k
covers n k past = omega (arith, past)

-- what is refused for a reason is refused for a weaker one
pub unentered_by : (A B : Type 0) (e : StartError) → (B → A) → IsUnentered A e → IsUnentered B e
unentered_by A B errors.Memory f is = tt
unentered_by A B errors.Device f is = tt
unentered_by A B errors.NoHead f is = is
unentered_by A B errors.Unclosed f is = is
unentered_by A B errors.Damaged f is = λ b. is (f b)

no_article_unentered : (text : List ℕ) (e : StartError) → IsNoArticle text e → IsUnentered ⊥ e
no_article_unentered text errors.Memory none = tt
no_article_unentered text errors.Device none = tt
no_article_unentered text errors.NoHead none = none
no_article_unentered text errors.Unclosed none = none
no_article_unentered text errors.Damaged none = λ never. never

no_article_blamed : {S : Type 0} (g : Ghosts S) (old new : S) (text : List ℕ) (e : StartError)
    → g.failures new ≡ g.failures old → IsNoArticle text e → IsBlamed g old new e
no_article_blamed g old new text errors.Memory same none = same
no_article_blamed g old new text errors.Device same none = absurd none
no_article_blamed g old new text errors.NoHead same none = same
no_article_blamed g old new text errors.Unclosed same none = same
no_article_blamed g old new text errors.Damaged same none = same

module _ {S : Type 0} {g : Ghosts S} where
  -- a reading of articles that is refused
  pub refused_reads : {A : Type 0} (a b : Buffer S g) (e : StartError) → IsMerelyRead a b
      → IsUnentered ⊥ e → IsBlamed g (store_of a) (store_of b) e
      → ReadsArticles {A = A} a b (Err e)
  refused_reads a b e read fault failed = record {
    read = read;
    fault = fault;
    failed = failed;
    no_failure = tt;
  }

  -- what the reading of one is refused for, so is that of all
  pub refused_after : {A B : Type 0} (a b c : Buffer S g) (e : StartError) → IsMerelyRead a b
      → g.failures (store_of b) ≡ g.failures (store_of a) → ReadsArticles {A = B} b c (Err e)
      → ReadsArticles {A = A} a c (Err e)
  refused_after a b c e before same reads =
      refused_reads a c e (merely_next a b c before reads.read) reads.fault
      (blamed_on g (store_of a) (store_of b) (store_of c) e same reads.failed)

  -- a text that isn't read
  pub refused_text : (a b : Buffer S g) (token : codes.Token) (e : StartError)
      → ((h : History) → Agrees true a h → IsLiveToken h (token_view token)
      → IsUnentered (Unit {0}) e)
      → ReadsArticles {A = Vec ℕ} a b (Err e) → ReadsText a b token (Err e)
  refused_text a b token e refused reads = record {
    text = tt;
    refused = refused;
    reads = reads;
  }

  -- no record is entered where the text isn't read
  pub unread_article : (register : Shelves) (a b : Buffer S g) (token : codes.Token)
      (e : StartError)
      → ReadsText a b token (Err e) → EntersArticle register a b token (Err e)
  unread_article register a b token e unread = record {
    shown = tt;
    named = tt;
    text = tt;
    refused = λ h agrees live. unentered_by (Unit {0}) ∥ IsArticle live.article.text ∥₁ e (λ _. tt)
        (unread.refused h agrees live);
    reads = refused_reads a b e unread.reads.read unread.reads.fault unread.reads.failed;
  }

  -- nor where it is no article
  pub unjudged_article : (register : Shelves) (a b : Buffer S g) (token : codes.Token)
      (text : Vec ℕ) (e : StartError)
      → ReadsText a b token (Ok text) → IsNoArticle text.items e
      → EntersArticle register a b token (Err e)
  unjudged_article register a b token text e read none = record {
    shown = tt;
    named = tt;
    text = tt;
    refused = λ h agrees live. article_unentered text.items live.article.text e
        (read.text h agrees live) none;
    reads = refused_reads a b e read.reads.read (no_article_unentered text.items e none)
        (no_article_blamed g (store_of a) (store_of b) text.items e read.reads.no_failure none);
  }

  -- nor where memory is refused for it
  pub unentered_article : (register : Shelves) (a b : Buffer S g) (token : codes.Token)
      (text : Vec ℕ)
      → ReadsText a b token (Ok text) → EntersArticle register a b token (Err errors.Memory)
  unentered_article register a b token text read = record {
    shown = tt;
    named = tt;
    text = tt;
    refused = λ h agrees live. tt;
    reads = refused_reads a b errors.Memory read.reads.read tt read.reads.no_failure;
  }
