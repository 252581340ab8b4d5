-- A relay that is closed: nothing is open in it, and its history is that of each world.
use Rattle.std.proofs.Common.{◌≡◌, ◌∙◌, ◌<◌, ◌≤◌, ◌+◌, ◌++◌, ℕ, true, false, List, [], ◌∷◌, Option}
use Rattle.std.proofs.Common.{None, Some, refl, sym, ap, subst, true≢false, length, map, arith, ◌⊎◌}
use Rattle.std.proofs.Common.{◌^◌, inl, inr, slice_get, All}
use Rattle.std.proofs.lemmas.List.{length-append, length-map, map_push}
use Rattle.std.proofs.lemmas.List.Elements.{All-push}
use Rattle.std.proofs.lemmas.Option.{none-some}
use Rattle.std.specs.Global.{Vec}
use Rattle.std.specs.declared.alloc.AllocError.{AllocError}
use Rattle.std.specs.Prelude.{option_map, slice_index, IfSome, IfOk, Result, Ok, Err}
use Rattle.article_verdict.specs.Config.{terms_of}
use Rattle.block_shelf.specs.Keeping.{KeepsTexts}
use Rattle.block_shelf.specs.Openings.{Opening}
use Rattle.cyc_token.specs.Token.{token_view}
use Rattle.cyc_block.specs.declared.store.BlockStore.{Ghosts}
use Rattle.feed_queue.specs.Feeds.{KeepsFeeds, ring_count}
use Rattle.feed_queue.specs.Permission.{feed_view as conf_view}
use Rattle.feed_queue.specs.declared.desk.FeedDesk.{FeedDesk}
use Rattle.feed_queue.specs.Left.{AreLeft, IsLeft}
use Rattle.id_history.specs.History.{FeedFits, Fits, KeptFeed, history_octets}
use Rattle.id_history.specs.History as texts
use Rattle.id_history.specs.Views.{feed_view}
use Rattle.id_history.specs.declared.kept.KeptFeed as code
use Rattle.id_history.specs.Lasting.{AreLasting}
use Rattle.id_history.specs.Shards.{KeepsAll}
use Rattle.news_terms.proofs.ListPlaces.{at_pushed}
use Rattle.relay_conf.specs.declared.settings.Config.{Config}
use Rattle.relay_facts.specs.Started.{newest_kept}
use Rattle.relay_model.specs.Claims.{Claim, is_storing}
use Rattle.relay_model.specs.Invariants.{IsAt, IsWell}
use Rattle.relay_model.specs.State as model
use Rattle.relay_model.specs.State.{in_phase}
use Rattle.relay_model.specs.Terms.{FeedTerms, Terms}
use Rattle.relay_model.specs.World as world
use Rattle.relay_model.specs.World.{World}
use Rattle.relay_core.specs.Agreement.{IsGone, ring_sizes, AgreesAs}
use Rattle.relay_core.specs.Idle.{TellsIdle}
use Rattle.relay_core.specs.Openings.{opening_of, openings}
use Rattle.relay_core.specs.Stopping.{AreKeptFeeds, Shuts, TellsHistory, next_stop, stop_of}
use Rattle.block_shelf.specs.Stopping.{HoldsKept, IsBusyBufferSet, TellsPositions, HoldsKeptLeft}
use Rattle.block_shelf.specs.Leaving.{Trust, honestly}
use Rattle.relay_core.specs.declared.system.System.{System}

-- no id is being stored
abbrev pub IsIdle : World → Type 0
IsIdle x = (id : List ℕ) → is_storing (x.state.claim id) ≡ false

-- then no writer has an open write
none_open : (w : Terms) (x : World) → IsIdle x → (h : ℕ) (v : world.Writer) → IsAt w x.state h v
    → opening_of v ≡ None
none_open w x idle h world.Idle at = refl
none_open w x idle h (world.Popped job) at = refl
none_open w x idle h (world.Writing job token written) at =
    absurd (true≢false (sym (ap is_storing at.1) ∙ idle job.id))
none_open w x idle h (world.Finished job token) at = refl
none_open w x idle h (world.Failed job None) at = refl
none_open w x idle h (world.Failed job (Some token)) at =
    absurd (true≢false (sym (ap is_storing at.1) ∙ idle job.id))
none_open w x idle h (world.Settled session) at = refl
none_open w x idle h (world.Forgotten session) at = refl

pub nothing_open : (w : Terms) (x : World) → IsIdle x → IsWell w x
    → openings x.work.writer ≡ (λ (h : ℕ). None)
nothing_open w x idle well =
    λ i h. none_open w x idle h (x.work.writer h) (well.placed.writer h) i

-- every session ended
pub ended_gone : (o : Option model.Session)
    → IsGone (option_map (λ (one : model.Session). in_phase one model.Ended) o)
ended_gone None = tt
ended_gone (Some session) = refl

-- what isn't more than the groups that there can be has room in a text
pub few_groups : {count groups : ℕ} → count ≤ 256 → count ≡ groups → groups < 2 ^ 32
few_groups few same = omega arith

-- what holds of what an option has
pub some_of : {A : Type 0} (P : A → Type 0) (o : Option A) (one : A) → o ≡ Some one → IfSome o P
    → P one
some_of P o one is holds = subst (λ (k : Option _). IfSome k P) is holds

-- WHAT IS LEFT OF THE FEEDS

-- this is left of the first feeds
pub record AreLeftSoFar (n : ℕ) (kept : List KeptFeed) (sizes : List ℕ) (feed : ℕ → model.Feed)
    : Type 0 where
  pub count : length kept ≡ n
  pub each : (f : ℕ) (one : KeptFeed) → slice_get kept f ≡ Some one
      → IsLeft one (slice_index sizes f) (feed f)

-- of none
pub none_left : (sizes : List ℕ) (feed : ℕ → model.Feed) → AreLeftSoFar 0 [] sizes feed
none_left sizes feed =
    record { count = refl; each = λ f one there. absurd (none-some one there) }

-- and of one more
pub left_joins : (n : ℕ) (kept : List KeptFeed) (one : KeptFeed) (sizes : List ℕ)
    (feed : ℕ → model.Feed) → AreLeftSoFar n kept sizes feed
    → IsLeft one (slice_index sizes n) (feed n)
    → AreLeftSoFar (n + 1) (kept ++ one ∷ []) sizes feed
left_joins n kept one sizes feed before is =
    record {
      count = length-append kept (one ∷ []) ∙ ap (λ k. k + 1) before.count;
      each = λ f other there. by_place f other (at_pushed kept one f other there);
    }
  where
    by_place : (f : ℕ) (other : KeptFeed)
        → (slice_get kept f ≡ Some other) ⊎ ((f ≡ length kept) × (one ≡ other))
        → IsLeft other (slice_index sizes f) (feed f)
    by_place f other (inl there) = before.each f other there
    by_place f other (inr last) =
        subst (λ (k : ℕ). IsLeft other (slice_index sizes k) (feed k)) (sym (last.0 ∙ before.count))
        (subst (λ (k : KeptFeed). IsLeft k (slice_index sizes n) (feed n)) last.1 is)

-- the same of what the desk gave
pub kept_joins : (n : ℕ) (kept more : List code.KeptFeed) (one : code.KeptFeed) (sizes : List ℕ)
    (feed : ℕ → model.Feed) → more ≡ kept ++ one ∷ []
    → AreLeftSoFar n (map feed_view kept) sizes feed
    → IsLeft (feed_view one) (slice_index sizes n) (feed n)
    → AreLeftSoFar (n + 1) (map feed_view more) sizes feed
kept_joins n kept more one sizes feed joined before is =
    subst (λ all. AreLeftSoFar (n + 1) all sizes feed)
    (sym (ap (map feed_view) joined ∙ map_push feed_view kept one))
    (left_joins n (map feed_view kept) (feed_view one) sizes feed before is)

-- what waits for each has room
pub waits_join : (kept more : List code.KeptFeed) (one : code.KeptFeed) → more ≡ kept ++ one ∷ []
    → All (λ (feed : code.KeptFeed). length feed.waiting.items < 2 ^ 32) kept
    → FeedFits (feed_view one)
    → All (λ (feed : code.KeptFeed). length feed.waiting.items < 2 ^ 32) more
waits_join kept more one joined before fits =
    let P : code.KeptFeed → Type 0 = λ feed. length feed.waiting.items < 2 ^ 32 in
    subst (All P) (sym joined)
    (All-push P kept one before
    (omega (arith, fits.waiting, length-map one.waiting.items token_view)))

-- no feed of a desk is missing
pub feed_missing : (desk : FeedDesk) (sizes : List ℕ) (feed : ℕ → model.Feed) (n : ℕ)
    → KeepsFeeds desk sizes feed → n < length sizes → ring_count desk ≤ n → ⊥
feed_missing desk sizes feed n keeps within past =
    absurd (omega (arith, keeps.count, within, past))

-- this is left of all feeds
pub all_left : (n : ℕ) (kept : List KeptFeed) (sizes : List ℕ) (feed : ℕ → model.Feed)
    → n ≡ length sizes → AreLeftSoFar n kept sizes feed → AreLeft kept sizes feed
all_left n kept sizes feed all so_far =
    record { count = so_far.count ∙ all; each = so_far.each }

-- there are as many rings as feeds
sizes_count : (config : Config)
    → length (ring_sizes (terms_of config)) ≡ length config.relay.feeds.items
sizes_count config =
    length-map (terms_of config).feeds (λ (feed : FeedTerms). feed.ring)
    ∙ length-map config.relay.feeds.items conf_view

-- WHAT CLOSING GIVES

module _ {S : Type 0} {g : Ghosts S} (old : System S g) where
  abbrev w : Terms
  w = terms_of old.config

  -- where the shards have no id that is being stored, no world has
  pub at_rest : TellsIdle old.shards true → (trusted : Trust) (x : World) → AgreesAs trusted old x
      → IsIdle x
  at_rest idle trusted x agrees = idle x.state.claim agrees.core.claims

  -- and the buffer set keeps all without an open write
  pub closed_texts : (trusted : Trust) (x : World) → AgreesAs trusted old x → IsIdle x
      → KeepsTexts trusted old.buffer_set w x.state.begun x.state.kept (λ h. None) x.work.failures
  closed_texts trusted x agrees none =
      let T : (ℕ → Option Opening)
      → Type 0 = λ all. KeepsTexts trusted old.buffer_set w x.state.begun
      x.state.kept all x.work.failures in
      subst T (nothing_open w x none agrees.well) agrees.core.buffer_set

  -- a relay that is closed holds each world with which it agreed
  pub shuts : (stop : ℕ) (stores : List S) (text : List ℕ) → stop ≡ next_stop (stop_of old)
      → TellsIdle old.shards true → TellsHistory old stop text
      → HoldsKept stop old.buffer_set stores → HoldsKeptLeft stop old.buffer_set stores
      → Shuts old stores text
  shuts stop stores text is idle tells holds left =
      let none = at_rest idle in
      let T : ℕ → Type 0 = λ n. TellsHistory old n text in
      let H : ℕ → Type 0 = λ n. HoldsKept n old.buffer_set stores in
      let L : ℕ → Type 0 = λ n. HoldsKeptLeft n old.buffer_set stores in
      let told = subst T is tells in
      record {
        rest = none;
        told = told;
        holds = λ x agrees. record {
          tells = told (honestly false) x agrees;
          buffer_set = subst H is holds w x.state.begun x.state.kept x.work.failures
              (closed_texts (honestly false) x agrees (none (honestly false) x agrees));
          idle = none (honestly false) x agrees;
          well = agrees.well;
        };
        leaves = λ x agrees.
            subst L is left w x.state.begun x.state.kept x.work.failures
            (closed_texts (honestly true) x agrees (none (honestly true) x agrees));
      }

  -- where nothing is being stored no write is open
  pub not_busy : TellsIdle old.shards true → IsBusyBufferSet old.buffer_set
      → (trusted : Trust) (x : World)
      → AgreesAs trusted old x → ⊥
  not_busy idle busy trusted x agrees =
      busy.writing trusted w x.state.begun x.state.kept x.work.failures
      (closed_texts trusted x agrees (at_rest idle trusted x agrees))

  -- the history that is made of the parts is that of each world
  tells_of : (stop : ℕ) (text : List ℕ) (kept : texts.Kept) (count : ℕ)
      (feeds : List code.KeptFeed) → Fits kept
      → text ≡ history_octets kept → kept.stop ≡ stop → kept.newest ≡ newest_kept old.newest
      → TellsPositions old.buffer_set kept.positions → kept.feeds ≡ map feed_view feeds
      → count ≡ length old.config.relay.feeds.items → AreKeptFeeds old.desk count feeds
      → ((claim : List ℕ → Claim) → KeepsAll old.shards claim → AreLasting kept.ids claim)
      → TellsHistory old stop text
  tells_of stop text kept count feeds fits written stops newest positions same all left ids =
      λ trusted x agrees.
      record {
        kept = kept;
        fits = fits;
        written = written;
        history = record {
          stop_is = stops;
          newest = newest ∙ ap newest_kept (sym agrees.core.newest);
          positions = positions trusted w x.state.begun x.state.kept (openings x.work.writer)
              x.work.failures agrees.core.buffer_set;
          feeds = subst (λ fs. AreLeft fs (ring_sizes w) x.state.feed) (sym same)
              (left (ring_sizes w) x.state.feed agrees.core.desk
              (sizes_count old.config ∙ sym all));
          ids = ids x.state.claim agrees.core.claims;
        };
      }

  -- so it is where the text is written
  pub tells_written : (stop : ℕ) (result : Result (Vec ℕ) AllocError) (kept : texts.Kept)
      (count : ℕ) (feeds : List code.KeptFeed) → IfOk result (λ text. Fits kept)
      → IfOk result (λ text. text.items ≡ history_octets kept) → kept.stop ≡ stop
      → kept.newest ≡ newest_kept old.newest
      → TellsPositions old.buffer_set kept.positions → kept.feeds ≡ map feed_view feeds
      → count ≡ length old.config.relay.feeds.items → AreKeptFeeds old.desk count feeds
      → ((claim : List ℕ → Claim) → KeepsAll old.shards claim → AreLasting kept.ids claim)
      → IfOk result (λ text. TellsHistory old stop text.items)
  tells_written stop (Ok text) kept count feeds fits written stops newest positions same all left
      ids =
      tells_of stop text.items kept count feeds fits written stops newest positions same all left
      ids
  tells_written stop (Err error) kept count feeds fits written stops newest positions same all left
      ids = tt
