-- The step that a session planned is done, by each of its kinds.
use Rattle.std.proofs.Common.{◌≡◌, ◌≢◌, ◌≤◌, ℕ, ◌+◌, ◌-◌, ◌*◌, ◌++◌, Bool, true, false, List, []}
use Rattle.std.proofs.Common.{◌∷◌, Option, None, Some, refl, sym, ap, subst, ◌∙◌, length, map, take}
use Rattle.std.proofs.Common.{slice_index_or, slice_set, inl, inr}
use Rattle.std.proofs.Math.Logic.{∥∥₁_map}
use Rattle.std.proofs.lemmas.List.{map-append}
use Rattle.std.proofs.lemmas.Option.{none-some}
use Rattle.std.specs.Option.{IsSomeAnd}
use Rattle.std.specs.Prelude.{Err, IfErr, IfOk, IfSome, Ok, Result, option_map}
use Rattle.article_fetch.specs.Fetch.{Fetch}
use Rattle.article_fetch.specs.Chunks.{chunk_view}
use Rattle.article_fetch.specs.declared.chunk.Chunk.{Chunk}
use Rattle.article_fetch.specs.declared.chunk.Chunk.TheVariants as chunks
use Rattle.boxcar.specs.Table.{Shelves, Where}
use Rattle.buffer_group.specs.declared.job.Job.{Job}
use Rattle.cyc_buffer.specs.declared.answers.Fault.{Fault}
use Rattle.cyc_buffer.specs.declared.answers.Found.{Found}
use Rattle.cyc_buffer.specs.declared.answers.Found.TheVariants as found
use Rattle.cyc_buffer.specs.declared.answers.Front.{Front}
use Rattle.article_verdict.specs.Verdict.{reason_view}
use Rattle.article_verdict.specs.declared.reasons.Reason.{Reason}
use Rattle.cyc_token.specs.Token.{token_view}
use Rattle.cyc_token.specs.declared.Token as codes
use Rattle.feed_queue.specs.declared.desk.Taken.{Taken}
use Rattle.id_history.specs.Answers.{offer_view, take_view}
use Rattle.id_history.specs.declared.claims.Offer.{Offer}
use Rattle.id_history.specs.declared.claims.Take.{Take}
use Rattle.id_history.specs.declared.claims.Take.TheVariants as takes
use Rattle.live_jobs.specs.declared.store_result.KeptJob.{KeptJob}
use Rattle.live_jobs.specs.Seats.{count_of, end_of, handed_by}
use Rattle.live_session.proofs.Hearings.{answers_by, none_read, reads_block}
use Rattle.live_session.specs.Course.{Hands, HandsAfter, IsHeldOnce, IsToldFor, with_job, with_kept}
use Rattle.live_session.specs.Going.{AnswersBy, AskFits, FoundBy, IsFrontOf, IsReadOf}
use Rattle.live_session.specs.Going.{KeepsButReads, ReadOf, ReadsFor, Shared, SharesFor, chunk_in}
use Rattle.live_session.specs.Going.{hands_of, numbers_of}
use Rattle.live_session.specs.declared.live.LiveSession.{LiveSession}
use Rattle.live_store.specs.Steps.{IsChunkOf, IsFoundGone, IsFoundIn, IsReadFault}
use Rattle.live_store.specs.Steps.{ones_found}
use Rattle.live_store.specs.Tied.{text_in}
use Rattle.live_store.specs.declared.answers.OneRead.{OneRead}
use Rattle.live_store.specs.declared.record.StorePremises.{Ghosts}
use Rattle.live_store.specs.declared.writing.entering.Record.{Record}
use Rattle.news_terms.specs.BlockImage.{chunk_size}
use Rattle.news_terms.specs.Token.{Token}
use Rattle.nntp_text.specs.Reply.{item_view}
use Rattle.peer_session.specs.Answers.{IsAnswerTo, SharesNone, handed}
use Rattle.peer_session.specs.Planning.{HandsOver, Planned}
use Rattle.peer_session.specs.Session.{holds_article, phase_view}
use Rattle.peer_session.specs.declared.phase.Phase.{Phase}
use Rattle.peer_session.specs.declared.phase.Phase.TheVariants as phases
use Rattle.peer_session.specs.declared.session.Session.{Session}
use Rattle.peer_session.specs.declared.steps.Outcome.TheVariants as outcomes
use Rattle.peer_session.specs.declared.steps.Answer.{Answer}
use Rattle.peer_session.specs.declared.steps.Answer.TheVariants as answers
use Rattle.peer_session.specs.declared.steps.Step.{Step}
use Rattle.peer_session.specs.declared.steps.Step.TheVariants as steps
use Rattle.relay_model.specs.Asks as asks
use Rattle.relay_model.specs.Asks.{Ask, Due}
use Rattle.relay_model.specs.Claims.{Held}
use Rattle.relay_model.specs.Fetches as fetches
use Rattle.relay_model.specs.Fetches.{Fetched}
use Rattle.relay_model.specs.Shares as shares
use Rattle.relay_model.specs.State as model
use Rattle.relay_model.specs.Terms.{Terms}
use Rattle.relay_model.specs.World as world

-- the job, or this one
abbrev job_or : Option Job → Job → Job
job_or None other = other
job_or (Some one) other = one

-- the text of a record, if there is one
abbrev text_or : Option (Where Record) → List ℕ
text_or None = []
text_or (Some one) = text_in one

-- hands that are equal part by part
hands_are : (one other : Hands) → one.jobs ≡ other.jobs → one.count ≡ other.count
    → one.kept ≡ other.kept → one ≡ other
hands_are one other jobs count kept =
    ap (λ j. record { jobs = j; count = one.count; kept = one.kept }) jobs
    ∙ ap (λ c. record { jobs = other.jobs; count = c; kept = one.kept }) count
    ∙ ap (λ k. record { jobs = other.jobs; count = other.count; kept = k }) kept

-- nothing is asked of what is shared, and nothing is answered
none_answered : (ask : Ask) (gathered : List ℕ) → SharesNone ask
    → IsAnswerTo ask gathered answers.Nothing shares.Nothing
none_answered asks.Rests gathered is = refl
none_answered asks.GoesOn gathered is = refl
none_answered (asks.Says reply) gathered is = refl
none_answered (asks.Leaves reply) gathered is = refl
none_answered asks.Ends gathered is = refl
none_answered (asks.Offers transfer id) gathered is = absurd is
none_answered (asks.Looks part id) gathered is = absurd is
none_answered (asks.Reads asked token had) gathered is = absurd is
none_answered (asks.TakesQueue feed most) gathered is = absurd is
none_answered (asks.Refuses transfer id reason) gathered is = absurd is
none_answered (asks.Takes transfer id article) gathered is = absurd is
none_answered (asks.Pushes job) gathered is = absurd is
none_answered (asks.LooksInSlot transfer id) gathered is = absurd is
none_answered (asks.Releases id) gathered is = absurd is

none_handed : (end : ℕ) (ask : Ask) (hands : Hands) → SharesNone ask
    → HandsAfter end ask shares.Nothing hands hands
none_handed end asks.Rests hands is = refl
none_handed end asks.GoesOn hands is = refl
none_handed end (asks.Says reply) hands is = refl
none_handed end (asks.Leaves reply) hands is = refl
none_handed end asks.Ends hands is = refl
none_handed end (asks.Offers transfer id) hands is = absurd is
none_handed end (asks.Looks part id) hands is = absurd is
none_handed end (asks.Reads asked token had) hands is = absurd is
none_handed end (asks.TakesQueue feed most) hands is = absurd is
none_handed end (asks.Refuses transfer id reason) hands is = absurd is
none_handed end (asks.Takes transfer id article) hands is = absurd is
none_handed end (asks.Pushes job) hands is = absurd is
none_handed end (asks.LooksInSlot transfer id) hands is = absurd is
none_handed end (asks.Releases id) hands is = absurd is

-- a fetch that has gathered this, and is prepared for its next block
abbrev fetch_at : model.Asked → Token → (k : ℕ) → List ℕ → Fetch
fetch_at asked token k gathered = record {
  asked = asked;
  token = token;
  had = k;
  gathered = gathered;
  prepared = true;
}

-- what was read of a block answers what was asked
read_answer : (honest : Bool) (asked : model.Asked) (token : Token) (k : ℕ) (gathered : List ℕ)
    (chunk : Chunk) (found : Fetched) → FoundBy honest (fetch_at asked token k gathered) chunk found
    → AnswersBy honest (asks.Reads asked token k) gathered (answers.Chunk chunk)
    (shares.ToRead found)
read_answer true asked token k gathered chunk found is = (chunk, found, refl, refl, is)
read_answer false asked token k gathered chunk found is = (chunk, refl, ap shares.ToRead is)

-- a session that holds an article isn't answered that another session stores one
held_once : (take : Take) (session : Session) (phase : model.Phase)
    → phase ≡ phase_view session.phase
    → (holds_article session.phase ≡ true → take ≢ takes.Held)
    → IsHeldOnce phase (shares.ToTake (take_view take))
held_once take session phase is once id article holds told =
    once (by session.phase (sym is ∙ holds)) (held_by take told)
  where
    by : (p : Phase) → phase_view p ≡ model.Holds id article → holds_article p ≡ true
    by (phases.Holds one other room) e = refl
    by phases.Ready e = cc
    by (phases.AwaitsBlock transfer one) e = cc
    by (phases.Waits transfer one room) e = cc
    by (phases.Fetches reading) e = cc
    by phases.Leaving e = cc
    by phases.Ended e = cc

    held_by : (one : Take) → shares.ToTake (take_view one) ≡ shares.ToTake Held
        → one ≡ takes.Held
    held_by takes.Held e = refl
    held_by takes.Mine e = cc
    held_by takes.Seen e = cc

module _ {J : Type 0} {g : Ghosts J} (w : Terms) (live : LiveSession J g) where
  -- what was asked is answered so
  pub answered : (honest : Bool) (new : LiveSession J g) (answer : Answer) (told : shares.Answer)
      (m : model.Session) (d : Due) (gathered : List ℕ) (ask : Ask) → d.ask ≡ ask
      → reads_block ask ≡ false → IsAnswerTo ask gathered answer told
      → IsReadOf new.reads.shown told
      → IsToldFor honest g.register gathered d.ask (chunk_in answer) told
      → IsHeldOnce m.phase told
      → HandsAfter (end_of live.seat) ask told (hands_of live) (hands_of new)
      → Planned w new.session m d gathered (handed answer)
      → ∥ Shared honest w m d gathered live answer new ∥₁
  answered honest new answer told m d gathered ask asked plain is read found held hands planned =
      ∣ record {
        told = told;
        answers = subst (λ a. AnswersBy honest a gathered answer told) (sym asked)
            (answers_by honest ask gathered answer told plain is);
        read = λ trusted. read;
        found = found;
        held = held;
        hands = subst (λ a. HandsAfter (end_of live.seat) a told (hands_of live) (hands_of new))
            (sym asked) hands;
        planned = planned;
      } ∣₁

  pub no_memory : (step : Step) (new : LiveSession J g) → SharesFor w step live answers.Memory new
  no_memory step new honest trust m d gathered planned is fits some = absurd (some refl)

  pub nothing : SharesFor w steps.Nothing live answers.Nothing live
  nothing honest trust m d gathered planned is fits some = ∣ record {
    told = shares.Nothing;
    answers = answers_by honest d.ask gathered answers.Nothing shares.Nothing
        (none_read d.ask is) (none_answered d.ask gathered is);
    read = λ trusted. tt;
    found = tt;
    held = λ id article holds held. cc;
    hands = none_handed (end_of live.seat) d.ask (hands_of live) is;
    planned = planned;
  } ∣₁

  pub offered : (id : List ℕ) (offer : Offer)
      → SharesFor w (steps.Offer id) live (answers.Offer offer) live
  offered id offer honest trust m d gathered planned is fits some =
      answered honest live (answers.Offer offer) (shares.ToOffer (offer_view offer)) m d gathered
      (asks.Offers is.0 id) is.1 refl (offer, refl, refl) tt tt (λ held article holds e. cc) refl
      planned

  pub looked : (id : List ℕ) (token : Option codes.Token)
      → SharesFor w (steps.Look id) live (answers.Look token) live
  looked id token honest trust m d gathered planned is fits some =
      answered honest live (answers.Look token) (shares.ToLook (option_map token_view token)) m d
      gathered (asks.Looks is.0 id) is.1 refl (token, refl, refl) tt tt
      (λ held article holds e. cc) refl planned

  pub queued : (feed most : ℕ) (taken : Taken) → length taken.items.items ≤ most
      → SharesFor w (steps.TakeQueue feed most) live (answers.Queue taken) live
  queued feed most taken few honest trust m d gathered planned is fits some =
      answered honest live (answers.Queue taken)
      (shares.ToTakeQueue taken.missed (map item_view taken.items.items)) m d gathered
      (asks.TakesQueue feed most) is refl (taken, refl, few, refl) tt tt
      (λ held article holds e. cc) refl planned

  pub refused : (id : List ℕ) (reason : Reason)
      → SharesFor w (steps.Refuse id reason) live answers.Nothing live
  refused id reason honest trust m d gathered planned is fits some =
      answered honest live answers.Nothing shares.Nothing m d gathered
      (asks.Refuses is.0 id (reason_view reason)) is.1
      refl refl tt tt (λ held article holds e. cc) refl planned

  -- who holds an article isn't answered that another session stores one
  pub taken_up : (id : List ℕ) (take : Take)
      → (holds_article live.session.phase ≡ true → take ≢ takes.Held)
      → SharesFor w (steps.Take id) live (answers.Take take) live
  taken_up id take once honest trust m d gathered planned is fits some =
      answered honest live (answers.Take take) (shares.ToTake (take_view take)) m d gathered
      (asks.Takes is.0 id is.1) is.2 refl (take, refl, refl) tt tt
      (held_once take live.session m.phase
      (ap (λ (one : model.Session). one.phase) planned.stands.is) once) refl planned

  pub released : (id : List ℕ) → SharesFor w (steps.Release id) live answers.Nothing live
  released id honest trust m d gathered planned is fits some =
      answered honest live answers.Nothing shares.Nothing m d gathered (asks.Releases id) is refl
      refl tt tt (λ held article holds e. cc) refl planned

  pub was_read : (token : codes.Token) (k : ℕ) (chunk : Chunk) (new : LiveSession J g)
      → KeepsButReads live new
      → ((honest : Bool) → (honest ≡ true → g.trusted ≡ true)
      → ReadsFor honest g.register (token_view token) k live.reads.shown chunk new.reads.shown)
      → SharesFor w (steps.Read token k) live (answers.Chunk chunk) new
  was_read token k chunk new keeps reads honest trust m d gathered planned is fits some =
      let ask = asks.Reads is.0 (token_view token) k in
      ∥∥₁_map (reads honest trust is.0 gathered (λ trusted.
      subst (λ a. AskFits live.reads.shown a gathered) is.1 (fits trusted)))
      (λ one. record {
        told = shares.ToRead one.found;
        answers = subst (λ a. AnswersBy honest a gathered (answers.Chunk chunk)
            (shares.ToRead one.found)) (sym is.1)
            (read_answer honest is.0 (token_view token) k gathered chunk one.found one.is_found);
        read = one.read;
        found = subst (λ a. IsToldFor honest g.register gathered a (Some chunk)
            (shares.ToRead one.found)) (sym is.1) one.under;
        held = λ id article holds held. cc;
        hands = subst (λ a. HandsAfter (end_of live.seat) a (shares.ToRead one.found)
            (hands_of live) (hands_of new)) (sym is.1) keeps.hands;
        planned = subst (λ s. Planned w s m d gathered false) (sym keeps.session) planned;
      })

  -- a job is pushed by one who hands it over
  pub pushed : (group : ℕ) (job : Job) (new : LiveSession J g)
      → HandsOver live.session (Some job) new.session
      → handed_by new.seat
      ≡ slice_set (handed_by live.seat) group (slice_index_or (handed_by live.seat) group []
      ++ record { end = end_of live.seat; number = count_of live.seat; job = job } ∷ [])
      → count_of new.seat ≡ count_of live.seat + 1
      → numbers_of new.kept.items ≡ numbers_of live.kept.items
      → SharesFor w (steps.Push group) live (answers.Pushed true) new
  pushed group job new over jobs count kept honest trust m d gathered planned is fits some =
      let gives = over w m d gathered is.0 planned is.1 in
      let same : job ≡ gives.one = ap (λ o. job_or o job) gives.result_is in
      let here : group ≡ gives.one.article.group =
      sym is.2 ∙ sym (ap (λ (j : model.Job). j.article.group) gives.job_is) in
      answered honest new (answers.Pushed true) (shares.ToPush true) m d gathered
      (asks.Pushes is.0) is.1 refl (true, refl, refl) tt tt (λ held article holds e. cc) (
        gives.one,
        gives.job_is,
        hands_are (hands_of new) (with_job (end_of live.seat) gives.one (hands_of live))
            (subst (λ at. handed_by new.seat ≡ slice_set (handed_by live.seat) at
            (slice_index_or (handed_by live.seat) at []
            ++ record {
              end = end_of live.seat;
              number = count_of live.seat;
              job = gives.one;
            } ∷ []))
            here
            (subst (λ one. handed_by new.seat ≡ slice_set (handed_by live.seat) group
            (slice_index_or (handed_by live.seat) group []
            ++ record { end = end_of live.seat; number = count_of live.seat; job = one } ∷ []))
            same jobs))
            count kept,
      )
      gives.planned

  -- no job is in the hand of a session that planned no push
  pub none_in_hand : (group : ℕ) (new : LiveSession J g) → HandsOver live.session None new.session
      → SharesFor w (steps.Push group) live (answers.Pushed false) new
  none_in_hand group new over honest trust m d gathered planned is fits some =
      let gives = over w m d gathered is.0 planned is.1 in
      absurd (none-some gives.one gives.result_is)

  -- the job stays in the session's hand
  pub not_pushed : (group : ℕ) → SharesFor w (steps.Push group) live (answers.Pushed false) live
  not_pushed group honest trust m d gathered planned is fits some =
      answered honest live (answers.Pushed false) (shares.ToPush false) m d gathered
      (asks.Pushes is.0) is.1 refl (false, refl, refl) tt tt (λ held article holds e. cc) refl
      planned

  -- nothing is in the slot
  pub slot_empty : SharesFor w steps.Slot live (answers.Slot None) live
  slot_empty honest trust m d gathered planned is fits some =
      answered honest live (answers.Slot None) (shares.InSlot None) m d gathered
      (asks.LooksInSlot is.0 is.1) is.2 refl (None, refl, refl) tt tt (λ held article holds e. cc)
      refl planned

  -- the job failed
  pub slot_failed : (new : LiveSession J g) → new.session ≡ live.session
      → hands_of new ≡ hands_of live
      → SharesFor w steps.Slot live (answers.Slot (Some outcomes.Failed)) new
  slot_failed new session hands honest trust m d gathered planned is fits some =
      answered honest new (answers.Slot (Some outcomes.Failed))
      (shares.InSlot (Some world.HasFailed)) m d gathered (asks.LooksInSlot is.0 is.1) is.2 refl
      (Some outcomes.Failed, refl, refl) tt tt
      (λ held article holds e. cc) hands
      (subst (λ s. Planned w s m d gathered false) (sym session) planned)

  -- the job is kept, and its receipt joins the others
  pub slot_kept : (new : LiveSession J g) (one : KeptJob J g) → new.session ≡ live.session
      → handed_by new.seat ≡ handed_by live.seat → count_of new.seat ≡ count_of live.seat
      → new.kept.items ≡ live.kept.items ++ one ∷ [] → one.number ≡ count_of live.seat - 1
      → SharesFor w steps.Slot live (answers.Slot (Some outcomes.Kept)) new
  slot_kept new one session jobs count kept number honest trust m d gathered planned is fits some =
      answered honest new (answers.Slot (Some outcomes.Kept)) (shares.InSlot (Some world.IsKept))
      m d gathered (asks.LooksInSlot is.0 is.1) is.2 refl (Some outcomes.Kept, refl, refl) tt tt
      (λ held article holds e. cc)
      (hands_are (hands_of new) (with_kept (hands_of live)) jobs count
      (ap (λ l. numbers_of l) kept ∙ map-append (λ (k : KeptJob J g). k.number) live.kept.items
      (one ∷ []) ∙ ap (λ n. numbers_of live.kept.items ++ n ∷ []) number))
      (subst (λ s. Planned w s m d gathered false) (sym session) planned)

-- what was found of a block, where that is no text
found_gone : (honest : Bool) (fetch : Fetch) (front : Front)
    → FoundBy honest fetch (chunks.Gone front) fetches.Gone
found_gone true fetch front = refl
found_gone false fetch front = refl

found_none : (honest : Bool) (fetch : Fetch)
    → FoundBy honest fetch chunks.Unknown fetches.NotKnown
found_none true fetch = refl
found_none false fetch = refl

found_fault : (honest : Bool) (fetch : Fetch) (fault : Fault)
    → FoundBy honest fetch (chunks.Device fault) fetches.NotRead
found_fault true fetch fault = refl
found_fault false fetch fault = refl

-- what was found of a block is of the record of the reads, whichever they were before
module _ (register : Shelves) (token : Token) (k : ℕ) (old new : Option (Where Record)) where
  chunk_found : (honest : Bool) (octets : List ℕ) → IfSome old (λ w. new ≡ Some w)
      → (honest ≡ true → IsSomeAnd new (IsChunkOf register token k octets))
      → ReadsFor honest register token k old (chunks.Found octets) new
  chunk_found false octets stays is asked gathered front = ∣ record {
    found = fetches.Article (gathered ++ octets);
    is_found = refl;
    read = λ trusted. cc;
    under = refl;
  } ∣₁
  chunk_found true octets stays is asked gathered front = by new refl (is refl)
    where
      by : (now : Option (Where Record)) → new ≡ now
          → IsSomeAnd now (IsChunkOf register token k octets)
          → ∥ ReadOf true register asked token k gathered (chunks.Found octets) new ∥₁
      by None at none = absurd none
      by (Some one) at here =
          ∥∥₁_map one.value.is_article (λ article. record {
            found = fetches.Article (text_in one);
            is_found = (
              text_in one,
              refl,
              record {
                article = article.0;
                is_article = article.1;
                whole = here.length;
                front = front_of one at;
                next = here.chunk;
              },
            );
            read = λ trusted. subst (λ o. IsSomeAnd o (λ w. text_in one ≡ text_in w)) (sym at)
                refl;
            under = (
              record { shown = one; shows = here.shows; named = here.named; octets = refl },
              here.chunk,
            );
          })
        where
          front_of : (one : Where Record) → new ≡ Some one
              → gathered ≡ take (chunk_size * k) (text_in one)
          front_of one at = front_in old stays (front refl)
            where
              front_in : (o : Option (Where Record)) → IfSome o (λ w. new ≡ Some w)
                  → IsFrontOf o k gathered → gathered ≡ take (chunk_size * k) (text_in one)
              front_in o stays (inl none) =
                  none.1 ∙ subst (λ n. [] ≡ take (chunk_size * n) (text_in one)) (sym none.0) refl
              front_in None stays (inr some) = absurd some
              front_in (Some w) stays (inr some) =
                  some ∙ ap (λ o. take (chunk_size * k) (text_or o)) (sym stays ∙ at)

  pub block_read : (honest : Bool) (slice : List ℕ) (read : Result Found Fault)
      → IfSome old (λ w. new ≡ Some w)
      → (honest ≡ true → IfOk read (IsFoundIn register token k slice new))
      → IfOk read (IsFoundGone token) → IfErr read (IsReadFault token)
      → ReadsFor honest register token k old (chunk_view read slice) new
  block_read honest slice (Ok (found.Chunk n)) stays is gone fault asked gathered fits =
      chunk_found honest (take n slice) stays is asked gathered fits
  block_read honest slice (Ok (found.Gone front)) stays is gone fault asked gathered fits =
      ∣ record {
        found = fetches.Gone;
        is_found = found_gone honest (fetch_at asked token k gathered) front;
        read = λ trusted. tt;
        under = gone;
      } ∣₁
  block_read honest slice (Ok found.Unknown) stays is gone fault asked gathered fits = ∣ record {
    found = fetches.NotKnown;
    is_found = found_none honest (fetch_at asked token k gathered);
    read = λ trusted. tt;
    under = tt;
  } ∣₁
  block_read honest slice (Err one) stays is gone fault asked gathered fits = ∣ record {
    found = fetches.NotRead;
    is_found = found_fault honest (fetch_at asked token k gathered) one;
    read = λ trusted. tt;
    under = fault;
  } ∣₁

  -- the reads began anew before
  pub block_begun : (honest : Bool) (mid : Option (Where Record)) (chunk : Chunk)
      → ((gathered : List ℕ) → IsFrontOf old k gathered → IsFrontOf mid k gathered)
      → ReadsFor honest register token k mid chunk new
      → ReadsFor honest register token k old chunk new
  block_begun honest mid chunk begins reads asked gathered front =
      reads asked gathered (λ trusted. begins gathered (front trusted))

-- a read that failed is at fault whatever it might have found
pub fault_found : (token : Token) (read : Result OneRead Fault) → IfErr read (IsReadFault token)
    → IfErr (ones_found read) (IsReadFault token)
fault_found token (Ok one) fault = tt
fault_found token (Err one) fault = fault
