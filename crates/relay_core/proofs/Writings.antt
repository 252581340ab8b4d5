-- What a Write does, by its writer: one call of one part each.
use Rattle.std.specs.Prelude.{slice_get, length, Ok, Err, is_some}
use Rattle.std.proofs.Common.{◌≡◌, ◌<◌, ◌≤◌, ◌+◌, ◌++◌, ◌∷◌, ℕ, Bool, true, List, [], Option, None}
use Rattle.std.proofs.Common.{Some, refl, sym, ap, subst, ◌∙◌, arith, le_refl, true≢false}
use Rattle.article_verdict.proofs.SoundTerms.{are_sound}
use Rattle.article_verdict.specs.Config.{terms_of}
use Rattle.block_shelf.specs.Calls.{AbandonsOn, BeginsOn, CanBegin, FinishesOn, WritesOn, token_of}
use Rattle.block_shelf.specs.Keeping.{KeepsTexts}
use Rattle.block_shelf.specs.Openings.{IsBroken, IsOpen}
use Rattle.block_shelf.specs.declared.buffer_set.Begun.{Begun}
use Rattle.block_shelf.specs.declared.buffer_set.BufferSet.{BufferSet}
use Rattle.block_shelf.specs.declared.buffer_set.WriteError.{WriteError}
use Rattle.block_shelf.specs.declared.buffer_set.WriteError.TheVariants as errors
use Rattle.block_shelf.specs.Leaving.{honestly}
use Rattle.buffer_group.specs.Jobs.{article_view, job_view}
use Rattle.buffer_group.specs.declared.job.Job.{Job}
use Rattle.buffer_group.specs.declared.writer.Writer.TheVariants as code
use Rattle.cyc_block.specs.declared.store.BlockStore.{Ghosts}
use Rattle.cyc_token.specs.Token.{token_view}
use Rattle.cyc_token.specs.declared.Token.{Token}
use Rattle.feed_queue.specs.Feeds.{HasRoomToCount, KeepsFeeds}
use Rattle.feed_queue.specs.declared.desk.FeedDesk.{FeedDesk}
use Rattle.id_history.specs.Answers as history
use Rattle.id_history.specs.Changes.{ChangesClaim, OfClaim}
use Rattle.id_history.specs.Shards.{KeepsAll}
use Rattle.id_history.specs.declared.claims.Settled.{Settled}
use Rattle.id_history.specs.declared.shards.Shards.{Shards}
use Rattle.news_terms.specs.Places.{size_of}
use Rattle.relay_facts.proofs.Found.{still_found}
use Rattle.relay_facts.proofs.ShortLists.{gained_below}
use Rattle.relay_model.specs.Claims as claims
use Rattle.relay_model.specs.Claims.{Claim}
use Rattle.relay_model.specs.Invariants.{IsWell}
use Rattle.relay_model.specs.State as model
use Rattle.relay_model.specs.State.{Feed, Kept, State, put_at, put_id}
use Rattle.relay_model.specs.Terms.{Terms}
use Rattle.relay_model.specs.World as world
use Rattle.relay_model.specs.World.{World, with_failures}
use Rattle.relay_model.specs.Writers as writers
use Rattle.relay_model.specs.Writers.{IsHopeless, begun_in, gaining, staged, with_stage, writer_at}
use Rattle.relay_core.specs.Peers.{peer_at}
use Rattle.relay_core.specs.declared.peers.Peer.{Peer}
use Rattle.relay_core.proofs.Marks.{forgotten_is, keeps_staged, room_to_count, settled_is}
use Rattle.relay_core.proofs.Marks.{storing_is}
use Rattle.relay_core.proofs.Writers.{is_at, moved, same_opening}
use Rattle.relay_core.specs.Agreement.{IsFront, HasNone, HasSome, IsGathered, PeerIs, ring_sizes}
use Rattle.relay_core.specs.Openings.{opening_of, openings}
use Rattle.relay_core.specs.Writing.{Advances, WriterOut}
use Rattle.relay_core.specs.declared.system.System.{System}

-- what was gathered stays the front of the text when another becomes whole
front_stays : (kept more : List Kept) (token : _) (had : ℕ) (gathered : List ℕ)
    → IsFront kept token had gathered → IsFront (kept ++ more) token had gathered
front_stays kept more token had gathered (HasNone none zero_had) = HasNone none zero_had
front_stays kept more token had gathered (HasSome text there front left) =
    HasSome text (still_found kept more token text there) front left

gathered_stays : (kept more : List Kept) (phase : model.Phase) (gathered : List ℕ)
    → IsGathered kept phase gathered → IsGathered (kept ++ more) phase gathered
gathered_stays kept more (model.Fetches asked token had) gathered h =
    front_stays kept more token had gathered h
gathered_stays kept more model.Ready gathered h = h
gathered_stays kept more (model.AwaitsBlock transfer id) gathered h = h
gathered_stays kept more (model.Holds id article) gathered h = h
gathered_stays kept more (model.Waits transfer id) gathered h = h
gathered_stays kept more model.Leaving gathered h = h
gathered_stays kept more model.Ended gathered h = h

peer_stays : (w : Terms) (kept more : List Kept) (at : Option Peer)
    (session : Option model.Session) (slot : Option world.Outcome)
    → PeerIs true w kept at session slot → PeerIs true w (kept ++ more) at session slot
peer_stays w kept more None session slot h = h
peer_stays w kept more (Some peer) session slot h = (
  h.0,
  h.1,
  record {
    gathered = h.2.gathered;
    stands = h.2.stands;
    fronts = λ trusted. gathered_stays kept more h.0.phase h.2.gathered (h.2.fronts trusted);
    slot_is = h.2.slot_is;
  },
  h.3,
)

hopeless_is : (w : Terms) (σ : State) (job : model.Job) → IsHopeless w σ job
    → claims.after_forget job.session (σ.claim job.id) ≡ claims.Unknown
hopeless_is w σ job (writers.HasFailedToStore claimed) =
    forgotten_is job.session job.article claims.Failed (σ.claim job.id) claimed
hopeless_is w σ job (writers.CannotBegin worn) =
    forgotten_is job.session job.article claims.Waiting (σ.claim job.id) worn.waiting

module _ {S : Type 0} {g : Ghosts S} (h now : ℕ) (job : Job) (old : System S g) where
  abbrev w : Terms
  w = terms_of old.config

  abbrev size : ℕ
  size = size_of (length job.article.text)

  -- the article can begin
  can_begin : {leaving : Bool} (x : World) → WriterOut leaving w h (code.Popped job) old x
      → IsWell w x
      → job.article.group ≡ h → x.state.claim job.id ≡ staged (job_view job) claims.Waiting
      → CanBegin w job.article.group size (openings x.work.writer)
  can_begin x out well group claimed =
      let sound = well.sized.storing job.id job.session (article_view job.article) claims.Waiting
      claimed in
      record {
        group = sound.group;
        there = sound.there;
        free = ap (openings x.work.writer) group ∙ ap opening_of out.writer_is;
        some = sound.some;
        fits = sound.fits;
      }

  -- the job is begun
  pub begun_one : (b : Begun) (buffer_set : BufferSet S g)
      → BeginsOn job.article.group job.article.class (length job.article.text)
      old.buffer_set (Some b)
      buffer_set
      → Advances h now (code.Popped job) old (code.Writing job b 0)
      (record old { buffer_set = buffer_set })
  begun_one b buffer_set begins = λ leaving x out well.
      let at = is_at w h (code.Popped job) old x out well in
      let r = begins (honestly leaving) w x.state.begun x.state.kept (openings x.work.writer)
      x.work.failures
      out.buffer_set (can_begin x out well at.0 at.1) in
      let token = token_of b in
      let σ : State = record (with_stage x.state (job_view job) (claims.Begun token)) {
        begun = put_at x.state.begun job.article.group
            (begun_in (slice_get w.groups job.article.group) (x.state.begun job.article.group)
            size);
      } in
      let Q : ℕ → Type 0 = λ k. KeepsTexts (honestly leaving) buffer_set w σ.begun x.state.kept
      (put_at (openings x.work.writer) k (Some (IsOpen token job.article.text 0)))
      x.work.failures in
      record {
        after = writer_at x σ h (world.Writing (job_view job) token 0);
        writes = writers.HasBegun (job_view job) token σ out.writer_is (record {
          place = r.0;
          waiting = at.1;
          next = r.1;
          in_time = r.2.0;
          named = r.2.1;
          after = refl;
        }) refl;
        out = moved w h (code.Popped job) old x out (code.Writing job b 0)
            (world.Writing (job_view job) token 0) σ x.work.failures old.shards old.desk buffer_set
            refl refl
            (keeps_staged old.shards x.state.claim job.id job.session (article_view job.article)
            claims.Waiting (claims.Begun token) out.claims at.1)
            out.desk (subst Q at.0 (r.2.2 job.article.text refl)) out.peers;
      }

  -- no token has room for the cycle
  pub worn_one : (buffer_set : BufferSet S g)
      → BeginsOn job.article.group job.article.class (length job.article.text) old.buffer_set None
      buffer_set
      → Advances h now (code.Popped job) old (code.Failed job None)
      (record old { buffer_set = buffer_set })
  worn_one buffer_set begins = λ leaving x out well.
      let at = is_at w h (code.Popped job) old x out well in
      let r = begins (honestly leaving) w x.state.begun x.state.kept (openings x.work.writer)
      x.work.failures
      out.buffer_set (can_begin x out well at.0 at.1) in
      record {
        after = writer_at x x.state h (world.Failed (job_view job) None);
        writes = writers.FindsWorn (job_view job) out.writer_is (record {
          place = r.0;
          waiting = at.1;
          next = r.1;
          past = r.2.0;
        }) refl;
        out = moved w h (code.Popped job) old x out (code.Failed job None)
            (world.Failed (job_view job) None) x.state x.work.failures old.shards
            old.desk buffer_set
            refl refl out.claims out.desk
            (same_opening w h (code.Popped job) old x out buffer_set None refl r.2.1) out.peers;
      }

  -- a block is written
  pub block_written : (b : Begun) (written : ℕ) (last : Bool) (buffer_set : BufferSet S g)
      → written < size → WritesOn (token_of b) job.article.text old.buffer_set (Ok last) buffer_set
      → Advances h now (code.Writing job b written) old (code.Writing job b (written + 1))
      (record old { buffer_set = buffer_set })
  block_written b written last buffer_set left writes = λ leaving x out well.
      let r = writes (honestly leaving) w x.state.begun x.state.kept (openings x.work.writer)
      x.work.failures
      out.buffer_set h written (ap opening_of out.writer_is) left in
      let u : world.Writer = world.Writing (job_view job) (token_of b) (written + 1) in
      record {
        after = with_failures (writer_at x x.state h u) x.work.failures;
        writes = writers.WritesBlock (job_view job) (token_of b) written x.work.failures
            out.writer_is left (λ k. le_refl (x.work.failures k)) refl;
        out = moved w h (code.Writing job b written) old x out
            (code.Writing job b (written + 1)) u x.state x.work.failures old.shards
            old.desk buffer_set
            refl refl out.claims out.desk r.0.1 out.peers;
      }

  -- the write of a block failed
  pub block_failed : (b : Begun) (written : ℕ) (fault : WriteError) (buffer_set : BufferSet S g)
      → written < size
      → WritesOn (token_of b) job.article.text old.buffer_set (Err fault) buffer_set
      → Advances h now (code.Writing job b written) old (code.Failed job (Some b))
      (record old { buffer_set = buffer_set })
  block_failed b written errors.NotOpen buffer_set left writes = λ leaving x out well.
      absurd (writes (honestly leaving) w x.state.begun x.state.kept (openings x.work.writer)
      x.work.failures
      out.buffer_set h written (ap opening_of out.writer_is) left).0
  block_failed b written (errors.Failed fault) buffer_set left writes = λ leaving x out well.
      let at = is_at w h (code.Writing job b written) old x out well in
      let r = (writes (honestly leaving) w x.state.begun x.state.kept (openings x.work.writer)
      x.work.failures
      out.buffer_set h written (ap opening_of out.writer_is) left).0.1 in
      let σ : State = with_stage x.state (job_view job) claims.Failed in
      let u : world.Writer = world.Failed (job_view job) (Some (token_of b)) in
      record {
        after = with_failures (writer_at x σ h u) r.0;
        writes = writers.FailsToWrite (job_view job) (token_of b) written r.0 σ out.writer_is left
            r.1 (record { begun = at.1; after = refl }) refl;
        out = moved w h (code.Writing job b written) old x out (code.Failed job (Some b)) u σ r.0
            old.shards old.desk buffer_set refl refl
            (keeps_staged old.shards x.state.claim job.id job.session (article_view job.article)
            (claims.Begun (token_of b)) claims.Failed out.claims at.1)
            out.desk r.2 out.peers;
      }

  -- all blocks are written
  module _ {leaving : Bool} (b : Begun) (written : ℕ) (full : size ≤ written) (x : World)
      (out : WriterOut leaving w h (code.Writing job b written) old x) (well : IsWell w x) where
    -- as many as there are
    all_written : written ≡ size
    all_written =
        omega (arith, full, (is_at w h (code.Writing job b written) old x out well).2)

    -- its open write is that of the group, with all of the text
    all_open : openings x.work.writer h
        ≡ Some (IsOpen (token_of b) job.article.text (size_of (length job.article.text)))
    all_open =
        ap opening_of out.writer_is
        ∙ ap (λ k. Some (IsOpen (token_of b) job.article.text k)) all_written

  -- so it is finished
  pub finished_one : (b : Begun) (written : ℕ) (token : Token) (buffer_set : BufferSet S g)
      → size ≤ written → FinishesOn (token_of b) old.buffer_set (Ok token) buffer_set
      → Advances h now (code.Writing job b written) old (code.Finished job token)
      (record old { buffer_set = buffer_set })
  finished_one b written token buffer_set full finishes = λ leaving x out well.
      let at = is_at w h (code.Writing job b written) old x out well in
      let one : Kept =
      record { token = token_of b; id = job.id; text = job.article.text } in
      let σ : State = record (with_stage x.state (job_view job) (claims.Whole (token_of b))) {
        kept = x.state.kept ++ one ∷ [];
      } in
      let does = finishes (honestly leaving) w x.state.begun x.state.kept (openings x.work.writer)
      x.work.failures out.buffer_set h job.article.text job.id
      (all_open b written full x out well) in
      let u : world.Writer = world.Finished (job_view job) (token_of b) in
      record {
        after = writer_at x σ h u;
        writes = writers.HasStored (job_view job) (token_of b) written σ out.writer_is
            (all_written b written full x out well)
            (record { begun = at.1; after = refl }) refl;
        out = moved w h (code.Writing job b written) old x out (code.Finished job token) u σ
            x.work.failures old.shards old.desk buffer_set
            (ap (world.Finished (job_view job)) (sym does.0)) refl
            (keeps_staged old.shards x.state.claim job.id job.session (article_view job.article)
            (claims.Begun (token_of b)) (claims.Whole (token_of b)) out.claims at.1)
            out.desk does.1
            (λ s. peer_stays w x.state.kept (one ∷ []) (peer_at old.peers s) (x.state.session s)
            (x.work.slot s) (out.peers s));
      }

  -- and isn't given back
  pub not_given_back : {v' : _} {new : System S g} (b back : Begun) (written : ℕ)
      (buffer_set : BufferSet S g) → size ≤ written
      → FinishesOn (token_of b) old.buffer_set (Err back) buffer_set
      → Advances h now (code.Writing job b written) old v' new
  not_given_back b back written buffer_set full finishes = λ leaving x out well.
      absurd (finishes (honestly leaving) w x.state.begun x.state.kept (openings x.work.writer)
      x.work.failures out.buffer_set h job.article.text job.id
      (all_open b written full x out well)).0

  -- the job is settled, and its feeds gain its token
  pub settled_one : (token : Token) (now' : ℕ) (settled : Settled) (shards : Shards)
      (desk : FeedDesk) (permitted : List ℕ) → now' ≡ now
      → permitted ≡ job.article.permitted.items
      → ChangesClaim (KeepsAll old.shards) (KeepsAll shards) job.id
      (claims.after_settle job.session (token_view token) now')
      → history.token_of settled ≡ token
      → ((sizes : List ℕ) (feed : ℕ → Feed) → HasRoomToCount old.desk
      → KeepsFeeds old.desk sizes feed → KeepsFeeds desk sizes
      (gaining feed permitted (token_view (history.token_of settled))))
      → Advances h now (code.Finished job token) old (code.Settled job.session)
      (record old { shards = shards; desk = desk })
  settled_one token now' settled shards desk permitted moment same_feeds changes named posts =
      λ leaving x out well.
      let at = is_at w h (code.Finished job token) old x out well in
      let σ : State = record x.state {
        claim = put_id x.state.claim job.id (claims.Stored (token_view token) now);
        feed = gaining x.state.feed job.article.permitted.items (token_view token);
        accepted = x.state.accepted ++ (token_view token, job.article.permitted.items) ∷ [];
      } in
      let P : Claim → Type 0 = λ c. KeepsAll shards (put_id x.state.claim job.id c) in
      let Q : Token → Type 0 = λ t. KeepsFeeds desk (ring_sizes w)
      (gaining x.state.feed permitted (token_view t)) in
      let R : List ℕ → Type 0 = λ feeds. KeepsFeeds desk (ring_sizes w)
      (gaining x.state.feed feeds (token_view token)) in
      let room = room_to_count old.desk (ring_sizes w) x.state.feed out.desk
      (λ f. gained_below w x f h (job_view job) (token_view token) (are_sound old.config) well
      out.writer_is) in
      record {
        after = writer_at x σ h (world.Settled job.session);
        writes = writers.Settles (job_view job) (token_view token) σ out.writer_is
            (record { whole = at.1; after = refl }) refl;
        out = moved w h (code.Finished job token) old x out (code.Settled job.session)
            (world.Settled job.session) σ x.work.failures shards desk old.buffer_set refl refl
            (subst P (ap (λ k. claims.after_settle job.session (token_view token) k
            (x.state.claim job.id)) moment
            ∙ settled_is job.session now (token_view token) (article_view job.article)
            (claims.Whole (token_view token)) (x.state.claim job.id) at.1)
            (changes x.state.claim out.claims))
            (subst R same_feeds (subst Q named (posts (ring_sizes w) x.state.feed room out.desk)))
            (same_opening w h (code.Finished job token) old x out old.buffer_set None refl
            out.buffer_set)
            out.peers;
      }

  -- the id is being stored, so it can be settled
  pub not_settled : {v' : _} {new : System S g} (token : Token) (result : Option Settled)
      → result ≡ None
      → OfClaim (KeepsAll old.shards) job.id
      (λ claim. is_some result ≡ claims.is_storing_for job.session claim)
      → Advances h now (code.Finished job token) old v' new
  not_settled token result none answers = λ leaving x out well.
      let at = is_at w h (code.Finished job token) old x out well in
      absurd (true≢false (sym (ap is_some (sym none)
      ∙ answers x.state.claim out.claims
      ∙ storing_is job.session (article_view job.article) (claims.Whole (token_view token))
      (x.state.claim job.id) at.1)))

  -- the open write is abandoned
  pub closed_one : (b : Begun) (buffer_set : BufferSet S g)
      → AbandonsOn (token_of b) old.buffer_set buffer_set
      → Advances h now (code.Failed job (Some b)) old (code.Failed job None)
      (record old { buffer_set = buffer_set })
  closed_one b buffer_set abandons = λ leaving x out well.
      record {
        after = writer_at x x.state h (world.Failed (job_view job) None);
        writes = writers.Closes (job_view job) (token_of b) out.writer_is refl;
        out = moved w h (code.Failed job (Some b)) old x out (code.Failed job None)
            (world.Failed (job_view job) None) x.state x.work.failures old.shards
            old.desk buffer_set
            refl refl out.claims out.desk
            (abandons (honestly leaving) w x.state.begun x.state.kept (openings x.work.writer)
            x.work.failures
            out.buffer_set h (IsBroken (token_of b)) (ap opening_of out.writer_is) refl)
            out.peers;
      }

  -- the article is given up
  pub forgotten_one : (shards : Shards)
      → ChangesClaim (KeepsAll old.shards) (KeepsAll shards) job.id
      (claims.after_forget job.session)
      → Advances h now (code.Failed job None) old (code.Forgotten job.session)
      (record old { shards = shards })
  forgotten_one shards changes = λ leaving x out well.
      let at = is_at w h (code.Failed job None) old x out well in
      let σ : State = record x.state { claim = put_id x.state.claim job.id claims.Unknown } in
      let P : Claim → Type 0 = λ c. KeepsAll shards (put_id x.state.claim job.id c) in
      record {
        after = writer_at x σ h (world.Forgotten job.session);
        writes = writers.Forgets (job_view job) σ out.writer_is
            (record { hopeless = at.1; after = refl }) refl;
        out = moved w h (code.Failed job None) old x out (code.Forgotten job.session)
            (world.Forgotten job.session) σ x.work.failures shards old.desk old.buffer_set refl refl
            (subst P (hopeless_is w x.state (job_view job) at.1)
            (changes x.state.claim out.claims))
            out.desk
            (same_opening w h (code.Failed job None) old x out old.buffer_set None refl
            out.buffer_set)
            out.peers;
      }
