-- The arm of `share` that reads a block.
use Rattle.std.proofs.Common.{◌≡◌, ◌<◌, ◌*◌, ℕ, true, List, All, Some, refl, sym, ap, subst, ◌∙◌}
use Rattle.std.proofs.Common.{arith, le_refl, Bool}
use Rattle.std.specs.Prelude.{max, take}
use Rattle.article_fetch.specs.Fetch.{Fetch, FoundAs}
use Rattle.article_fetch.specs.declared.chunk.Chunk.{Chunk}
use Rattle.article_fetch.specs.declared.chunk.Chunk.TheVariants as chunks
use Rattle.article_verdict.specs.Config.{terms_of}
use Rattle.block_shelf.specs.Keeping.{KeepsTexts}
use Rattle.block_shelf.specs.declared.buffer_set.BufferSet.{BufferSet}
use Rattle.block_shelf.specs.Leaving.{honestly}
use Rattle.cyc_block.specs.declared.store.BlockStore.{Ghosts}
use Rattle.cyc_token.specs.Token.{token_view}
use Rattle.cyc_token.specs.declared.Token.{Token}
use Rattle.news_terms.specs.BlockImage.{chunk_size}
use Rattle.news_terms.specs.Places.{size_of}
use Rattle.news_terms.specs.Token as terms
use Rattle.peer_session.specs.Answers.{IsStepOf}
use Rattle.peer_session.specs.declared.steps.Answer.TheVariants as answers
use Rattle.peer_session.specs.declared.steps.Step.{Step}
use Rattle.peer_session.specs.declared.steps.Step.TheVariants as steps
use Rattle.relay_model.specs.Asks as asks
use Rattle.relay_model.specs.Asks.{Ask}
use Rattle.relay_model.specs.Fetches as fetches
use Rattle.relay_model.specs.Fetches.{Fetched, fetched, text_under}
use Rattle.relay_model.specs.Invariants.{IsKeptRight}
use Rattle.relay_model.specs.Shares as shares
use Rattle.relay_model.specs.State as model
use Rattle.relay_model.specs.State.{Kept, State}
use Rattle.relay_model.specs.Terms.{Terms}
use Rattle.relay_model.specs.World.{World, with_failures}
use Rattle.relay_core.specs.declared.peers.Peer.{Peer}
use Rattle.relay_core.proofs.Found.{IsRight, found_whole, kept_right, same_text}
use Rattle.relay_core.specs.Agreement.{AgreesBut, IsFront, HasNone, HasSome, SlotIs}
use Rattle.relay_core.specs.Openings.{openings}
use Rattle.relay_core.specs.Reading.{IsChunkOf, ReadsChunk, ChunkRead, HasFound, HasNotFound}
use Rattle.relay_core.specs.Sharing.{AskFits, Gives, SharesStep}
use Rattle.relay_core.specs.declared.system.System.{System}

-- a fetch that goes on has gathered the front of whatever text is whole under its token
pub front_of_text : (kept : List Kept) (token : terms.Token) (had : ℕ) (gathered text : List ℕ)
    → text_under kept token ≡ Some text → IsFront kept token had gathered
    → gathered ≡ take (chunk_size * had) text
front_of_text kept token had gathered text whole (HasNone none zero_had) =
    none ∙ ap (λ k. take (chunk_size * k) text) (sym zero_had)
front_of_text kept token had gathered text whole (HasSome other there front left) =
    front ∙ ap (take (chunk_size * had)) (same_text other text (sym there ∙ whole))

-- and there is a block to read, or it has read none
pub block_left : (kept : List Kept) (token : terms.Token) (had : ℕ) (gathered : List ℕ)
    → IsFront kept token had gathered → had < max 1 (size_of token.length)
block_left kept token had gathered (HasNone none zero_had) = omega (arith, zero_had)
block_left kept token had gathered (HasSome other there front left) = omega (arith, left)

-- the chunk that was read is the next block of the fetch
chunk_found : (w : Terms) (σ : State) (fetch : Fetch) (read : Chunk) (found : Fetched)
    → ((text : List ℕ) → found ≡ fetches.Article text
    → (fetch.gathered ≡ take (chunk_size * fetch.had) text) × IsRight fetch.token text)
    → IsChunkOf w σ fetch.token fetch.had read found → FoundAs fetch read found
chunk_found w σ fetch (chunks.Found octets) (fetches.Article text) of is = (
  text,
  refl,
  let right = of text refl in
      record {
        article = right.1.read;
        is_article = right.1.is_read;
        whole = right.1.whole;
        front = right.0;
        next = is;
      },
)
chunk_found w σ fetch (chunks.Found octets) fetches.Gone of is = absurd is
chunk_found w σ fetch (chunks.Found octets) fetches.NotKnown of is = absurd is
chunk_found w σ fetch (chunks.Found octets) fetches.NotRead of is = absurd is
chunk_found w σ fetch (chunks.Gone front) fetches.Gone of is = refl
chunk_found w σ fetch (chunks.Gone front) (fetches.Article text) of is = absurd is
chunk_found w σ fetch (chunks.Gone front) fetches.NotKnown of is = absurd is
chunk_found w σ fetch (chunks.Gone front) fetches.NotRead of is = absurd is
chunk_found w σ fetch chunks.Unknown fetches.NotKnown of is = refl
chunk_found w σ fetch chunks.Unknown fetches.Gone of is = absurd is
chunk_found w σ fetch chunks.Unknown (fetches.Article text) of is = absurd is
chunk_found w σ fetch chunks.Unknown fetches.NotRead of is = absurd is
chunk_found w σ fetch (chunks.Device fault) fetches.Gone of is = absurd is
chunk_found w σ fetch (chunks.Device fault) fetches.NotKnown of is = absurd is
chunk_found w σ fetch (chunks.Device fault) fetches.NotRead of is = absurd is
chunk_found w σ fetch (chunks.Device fault) (fetches.Article text) of is = absurd is

-- the fetch that asks this
abbrev asking : model.Asked → terms.Token → ℕ → List ℕ → Fetch
asking asked token had gathered =
    record {
      asked = asked;
      token = token;
      had = had;
      gathered = gathered;
      prepared = true;
    }

module _ {S : Type 0} {g : Ghosts S} (n now : ℕ) (old : System S g) (peer : Peer) where
  abbrev w : Terms
  w = terms_of old.config

  -- all agrees after a read, which leaves the buffer set with these counts of failures
  read_but : {leaving : Bool} (x : World) (new : BufferSet S g) (later : ℕ → ℕ)
      → AgreesBut (honestly leaving) w n old x
      → KeepsTexts (honestly leaving) new w x.state.begun x.state.kept (openings x.work.writer)
      later
      → AgreesBut (honestly leaving) w n (record old { buffer_set = new }) (with_failures x later)
  read_but x new later but keeps =
      record {
        core = record {
          newest = but.core.newest;
          claims = but.core.claims;
          count = but.core.count;
          group_writers = but.core.group_writers;
          desk = but.core.desk;
          expirer = but.core.expirer;
          buffer_set = keeps;
        };
        peers = but.peers;
      }

  -- what a read gives, whatever came of it
  read_gives : {leaving : Bool} (asked : model.Asked) (token : terms.Token) (k : ℕ)
      (gathered : List ℕ) (x : World)
      (read : Chunk) (new : BufferSet S g) → AgreesBut (honestly leaving) w n old x
      → SlotIs peer.slot (x.work.slot n)
      → All IsKeptRight x.state.kept → IsFront x.state.kept token k gathered
      → ChunkRead leaving w x.state (openings x.work.writer) x.work.failures token k read new
      → Gives leaving w n now (asks.Reads asked token k) gathered x (answers.Chunk read)
      (record old { buffer_set = new }) peer.slot
  read_gives asked token k gathered x read new but slot right front (HasFound keeps is) =
      record {
        told = shares.ToRead (fetched w x.state token);
        between = with_failures x x.work.failures;
        shares = shares.IsFound x.work.failures (λ b. le_refl (x.work.failures b)) refl refl;
        answers = (
          read,
          fetched w x.state token,
          refl,
          refl,
          chunk_found w x.state (asking asked token k gathered) read (fetched w x.state token)
              (λ text found.
              let whole = found_whole w x.state token text found in (
                front_of_text x.state.kept token k gathered text whole front,
                kept_right x.state.kept token text right whole,
              )) is,
        );
        agrees = read_but x new x.work.failures but keeps;
        slot_is = slot;
      }
  read_gives asked token k gathered x read new but slot right front
      (HasNotFound fault later device at_fault keeps failed undecided) =
      record {
        told = shares.ToRead fetches.NotRead;
        between = with_failures x later;
        shares = shares.HasNotRead later undecided failed refl refl;
        answers = (
          read,
          fetches.NotRead,
          refl,
          refl,
          let P : Chunk → Type 0 = λ one. FoundAs (asking asked token k gathered) one
              fetches.NotRead in
              subst P (sym device) refl,
        );
        agrees = read_but x new later but keeps;
        slot_is = slot;
      }

  -- a block is read
  pub read_shared : (token : Token) (k : ℕ) (read : Chunk) (new : BufferSet S g)
      → ReadsChunk (token_view token) k old.buffer_set read new
      → (step : Step) → step ≡ steps.Read token k
      → SharesStep n now step old peer (answers.Chunk read) (record old { buffer_set = new }) peer
  read_shared token k read new reads step e =
      λ leaving x m d gathered but slot fits planned asked some.
      let one = subst (λ (s : Step). IsStepOf s d.ask) e asked in
      let fit = subst (λ (ask : Ask). AskFits w x ask gathered) one.1 fits in
      let P : Ask → Type 0 = λ ask. Gives leaving w n now ask gathered x (answers.Chunk read)
      (record old { buffer_set = new }) peer.slot in (
        subst P (sym one.1) (read_gives one.0 (token_view token) k gathered x read new but slot
            fit.1 fit.0 (reads leaving w x.state (openings x.work.writer) x.work.failures
            but.core.buffer_set
            (block_left x.state.kept (token_view token) k gathered fit.0))),
        planned,
      )
