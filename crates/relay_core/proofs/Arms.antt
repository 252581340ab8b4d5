-- The arms of `share` that are one call of the shards, the feeds or the slot.
use Rattle.std.proofs.Common.{◌≡◌, ◌<◌, ◌≤◌, ◌∙◌, ℕ, true, List, Option, None, Some, arith, refl}
use Rattle.std.proofs.Common.{sym, ap, subst, Bool}
use Rattle.std.proofs.lemmas.List.{length-map}
use Rattle.std.specs.Prelude.{IfOk, IfSome, OnErr, Result, Ok, Err, length, map, option_map}
use Rattle.std.specs.Prelude.{slice_get, slice_index}
use Rattle.std.specs.declared.alloc.AllocError.{AllocError}
use Rattle.article_verdict.specs.Config.{terms_of}
use Rattle.cyc_block.specs.declared.store.BlockStore.{Ghosts}
use Rattle.article_verdict.specs.declared.reasons.Reason.{Reason}
use Rattle.cyc_token.specs.Token.{token_view}
use Rattle.cyc_token.specs.declared.Token.{Token}
use Rattle.feed_queue.specs.Feeds.{KeepsFeeds, ring_count}
use Rattle.feed_queue.specs.Taking.{IsTaken, item_view}
use Rattle.feed_queue.specs.declared.desk.FeedDesk.{FeedDesk}
use Rattle.feed_queue.specs.declared.desk.Taken.{Taken}
use Rattle.feed_queue.proofs.TakenItems.{few_items}
use Rattle.id_history.specs.Answers.{offer_view, take_view}
use Rattle.id_history.specs.Changes.{ChangesClaim, KeepsClaims, OfClaim}
use Rattle.id_history.specs.Shards.{KeepsAll}
use Rattle.id_history.specs.declared.claims.Offer.{Offer}
use Rattle.id_history.specs.declared.claims.Take.{Take}
use Rattle.id_history.specs.declared.shards.Shards.{Shards}
use Rattle.peer_session.specs.Answers.{IsAnswerTo, IsStepOf, SharesNone}
use Rattle.peer_session.specs.Session.{outcome_view}
use Rattle.peer_session.specs.declared.steps.Answer.{Answer}
use Rattle.peer_session.specs.declared.steps.Answer.TheVariants as answers
use Rattle.peer_session.specs.declared.steps.Outcome.{Outcome}
use Rattle.peer_session.specs.declared.steps.Step.{Step}
use Rattle.peer_session.specs.declared.steps.Step.TheVariants as steps
use Rattle.relay_facts.proofs.Puts.{put_at_here, put_at_there}
use Rattle.relay_model.specs.Asks as asks
use Rattle.relay_model.specs.Asks.{Ask}
use Rattle.relay_model.specs.Claims as claims
use Rattle.relay_model.specs.Claims.{Accepted, Claim}
use Rattle.relay_model.specs.Shares as shares
use Rattle.relay_model.specs.Shares.{known_at}
use Rattle.relay_model.specs.Shares.{Shares, after_take_of, ring_of}
use Rattle.relay_model.specs.State.{Feed, put_at, put_id}
use Rattle.relay_model.specs.Terms.{FeedTerms, Terms}
use Rattle.relay_model.specs.World as world
use Rattle.relay_model.specs.World.{World, with_claim}
use Rattle.relay_core.specs.Peers.{peer_at}
use Rattle.relay_core.specs.declared.peers.Peer.{Peer}
use Rattle.relay_core.proofs.Dispatch.{never}
use Rattle.relay_core.proofs.Feeds.{ring_at}
use Rattle.article_verdict.specs.declared.reasons.Reason.{Reason}
use Rattle.relay_core.specs.Agreement.{AgreesBut, PeerIs, ring_sizes}
use Rattle.relay_core.specs.Sharing.{AskFits, Gives, LeavesAll, SharesStep, queue_answer}
use Rattle.relay_core.specs.declared.system.System.{System}
use Rattle.block_shelf.specs.Leaving.{honestly}

-- nothing that is shared

none_gives : (w : Terms) (x : World) (n now : ℕ) (gathered : List ℕ) (ask : Ask) → SharesNone ask
    → Shares w x n now ask shares.Nothing x
    × IsAnswerTo ask gathered answers.Nothing shares.Nothing
none_gives w x n now gathered asks.Rests none = ((refl, refl), refl)
none_gives w x n now gathered asks.GoesOn none = ((refl, refl), refl)
none_gives w x n now gathered (asks.Says reply) none = ((refl, refl), refl)
none_gives w x n now gathered (asks.Leaves reply) none = ((refl, refl), refl)
none_gives w x n now gathered asks.Ends none = ((refl, refl), refl)
none_gives w x n now gathered (asks.Offers transfer id) none = absurd none
none_gives w x n now gathered (asks.Looks part id) none = absurd none
none_gives w x n now gathered (asks.Reads asked token had) none = absurd none
none_gives w x n now gathered (asks.TakesQueue feed most) none = absurd none
none_gives w x n now gathered (asks.Refuses transfer id reason) none = absurd none
none_gives w x n now gathered (asks.Takes transfer id article) none = absurd none
none_gives w x n now gathered (asks.Pushes job) none = absurd none
none_gives w x n now gathered (asks.LooksInSlot transfer id) none = absurd none
none_gives w x n now gathered (asks.Releases id) none = absurd none

-- the items are those that a take of the desk gives
abbrev pub GivesItems : FeedDesk → (f most : ℕ) → Taken → Type 0
GivesItems desk f most taken =
    (sizes : List ℕ) (feeds : ℕ → Feed) → KeepsFeeds desk sizes feeds
    → IsTaken taken (slice_index sizes f) most (feeds f)

-- the desk after a take of a feed's ring
abbrev pub TakesItems : FeedDesk → (f most : ℕ) → FeedDesk → Type 0
TakesItems desk f most new =
    (sizes : List ℕ) (feeds : ℕ → Feed) → KeepsFeeds desk sizes feeds
    → KeepsFeeds new sizes (put_at feeds f (after_take_of (slice_index sizes f) most (feeds f)))

-- no feed is without its ring
no_ring : (w : Terms) (desk : FeedDesk) (feeds : ℕ → Feed) (f : ℕ)
    → KeepsFeeds desk (ring_sizes w) feeds → f < length w.feeds → ring_count desk ≤ f → ⊥
no_ring w desk feeds f keeps within past =
    omega (
      arith,
      keeps.count,
      length-map w.feeds (λ (feed : FeedTerms). feed.ring),
      within,
      past,
    )

module _ {S : Type 0} {g : Ghosts S} (n now : ℕ) (old : System S g) (peer : Peer) where
  abbrev w : Terms
  w = terms_of old.config

  -- nothing is shared
  pub none_shared : (step : Step) → step ≡ steps.Nothing
      → SharesStep n now step old peer answers.Nothing old peer
  none_shared step e = λ leaving x m d gathered but slot fits planned asked some.
      let none = subst (λ (one : Step). IsStepOf one d.ask) e asked in
      let given = none_gives w x n now gathered d.ask none in (
        record {
          told = shares.Nothing;
          between = x;
          shares = given.0;
          answers = given.1;
          agrees = but;
          slot_is = slot;
        },
        planned,
      )

  -- the claim of one id is changed
  claim_but : {leaving : Bool} (x : World) (new : Shards) (id : List ℕ) (claim : Claim)
      → AgreesBut (honestly leaving) w n old x
      → KeepsAll new (put_id x.state.claim id claim)
      → AgreesBut (honestly leaving) w n (record old { shards = new }) (with_claim x id claim)
  claim_but x new id claim but keeps =
      record {
        core = record {
          newest = but.core.newest;
          claims = keeps;
          count = but.core.count;
          group_writers = but.core.group_writers;
          desk = but.core.desk;
          expirer = but.core.expirer;
          buffer_set = but.core.buffer_set;
        };
        peers = but.peers;
      }

  -- an id is offered
  pub offer_shared : (id : List ℕ) (answer : Offer) (new : Shards)
      → OfClaim (KeepsAll old.shards) id
      (λ claim. offer_view answer ≡ claims.offer_answer n (claims.standing w.offers now claim))
      → ChangesClaim (KeepsAll old.shards) (KeepsAll new) id
      (λ claim. claims.after_offer n now (claims.standing w.offers now claim))
      → (step : Step) → step ≡ steps.Offer id
      → SharesStep n now step old peer (answers.Offer answer) (record old { shards = new }) peer
  offer_shared id answer new is changes step e =
      λ leaving x m d gathered but slot fits planned asked some.
      let one = subst (λ (s : Step). IsStepOf s d.ask) e asked in
      let P : Ask → Type 0 = λ ask. Gives leaving w n now ask gathered x (answers.Offer answer)
      (record old { shards = new }) peer.slot in (
        subst P (sym one.1) (record {
          told = shares.ToOffer (offer_view answer);
          between = with_claim x id (claims.after_offer n now (known_at w x now id));
          shares = (ap shares.ToOffer (is x.state.claim but.core.claims), refl);
          answers = (answer, refl, refl);
          agrees = claim_but x new id _ but (changes x.state.claim but.core.claims);
          slot_is = slot;
        }),
        planned,
      )

  -- an id's token is looked up
  pub look_shared : (id : List ℕ) (answer : Option Token)
      → OfClaim (KeepsAll old.shards) id
      (λ claim. option_map token_view answer ≡ claims.look_answer claim)
      → (step : Step) → step ≡ steps.Look id
      → SharesStep n now step old peer (answers.Look answer) old peer
  look_shared id answer is step e = λ leaving x m d gathered but slot fits planned asked some.
      let one = subst (λ (s : Step). IsStepOf s d.ask) e asked in
      let P : Ask → Type 0 = λ ask. Gives leaving w n now ask gathered x (answers.Look answer) old
      peer.slot in (
        subst P (sym one.1) (record {
          told = shares.ToLook (option_map token_view answer);
          between = x;
          shares = (ap shares.ToLook (is x.state.claim but.core.claims), refl);
          answers = (answer, refl, refl);
          agrees = but;
          slot_is = slot;
        }),
        planned,
      )

  -- an id's article was refused
  pub refuse_shared : (id : List ℕ) (new : Shards)
      → ChangesClaim (KeepsAll old.shards) (KeepsAll new) id
      (λ claim. claims.after_refuse n now (claims.standing w.offers now claim))
      → (reason : Reason) (step : Step) → step ≡ steps.Refuse id reason
      → SharesStep n now step old peer answers.Nothing (record old { shards = new }) peer
  refuse_shared id new changes reason step e =
      λ leaving x m d gathered but slot fits planned asked some.
      let one = subst (λ (s : Step). IsStepOf s d.ask) e asked in
      let P : Ask → Type 0 = λ ask. Gives leaving w n now ask gathered x answers.Nothing
      (record old { shards = new }) peer.slot in (
        subst P (sym one.1) (record {
          told = shares.Nothing;
          between = with_claim x id (claims.after_refuse n now (known_at w x now id));
          shares = (refl, refl);
          answers = refl;
          agrees = claim_but x new id _ but (changes x.state.claim but.core.claims);
          slot_is = slot;
        }),
        planned,
      )

  -- an open offer ends
  pub release_shared : (id : List ℕ) (new : Shards)
      → ChangesClaim (KeepsAll old.shards) (KeepsAll new) id (claims.after_release n)
      → (step : Step) → step ≡ steps.Release id
      → SharesStep n now step old peer answers.Nothing (record old { shards = new }) peer
  release_shared id new changes step e = λ leaving x m d gathered but slot fits planned asked some.
      let one = subst (λ (s : Step). IsStepOf s d.ask) e asked in
      let P : Ask → Type 0 = λ ask. Gives leaving w n now ask gathered x answers.Nothing
      (record old { shards = new }) peer.slot in (
        subst P (sym one) (record {
          told = shares.Nothing;
          between = with_claim x id (claims.after_release n (x.state.claim id));
          shares = (refl, refl);
          answers = refl;
          agrees = claim_but x new id _ but (changes x.state.claim but.core.claims);
          slot_is = slot;
        }),
        planned,
      )

  -- an id's article was accepted
  pub take_shared : (id : List ℕ) (answer : Take) (new : Shards)
      → OfClaim (KeepsAll old.shards) id (λ claim. take_view answer ≡ claims.take_answer n claim)
      → ((article : Accepted)
      → ChangesClaim (KeepsAll old.shards) (KeepsAll new) id (claims.after_take n article))
      → (step : Step) → step ≡ steps.Take id
      → SharesStep n now step old peer (answers.Take answer) (record old { shards = new }) peer
  take_shared id answer new is changes step e =
      λ leaving x m d gathered but slot fits planned asked some.
      let one = subst (λ (s : Step). IsStepOf s d.ask) e asked in
      let P : Ask → Type 0 = λ ask. Gives leaving w n now ask gathered x (answers.Take answer)
      (record old { shards = new }) peer.slot in (
        subst P (sym one.2) (record {
          told = shares.ToTake (take_view answer);
          between = with_claim x id (claims.after_take n one.1 (x.state.claim id));
          shares = (ap shares.ToTake (is x.state.claim but.core.claims), refl);
          answers = (answer, refl, refl);
          agrees = claim_but x new id _ but (changes one.1 x.state.claim but.core.claims);
          slot_is = slot;
        }),
        planned,
      )

  -- tokens are taken of a feed's ring
  items_shared : (f most : ℕ) (taken : Taken) (new : FeedDesk) → GivesItems old.desk f most taken
      → TakesItems old.desk f most new → (step : Step) → step ≡ steps.TakeQueue f most
      → SharesStep n now step old peer (answers.Queue taken) (record old { desk = new }) peer
  items_shared f most taken new gives keeps step e =
      λ leaving x m d gathered but slot fits planned asked some.
      let one = subst (λ (s : Step). IsStepOf s d.ask) e asked in
      let there : f < length w.feeds = subst (λ (ask : Ask). AskFits w x ask gathered) one fits in
      let ring : slice_index (ring_sizes w) f ≡ ring_of (slice_get w.feeds f) =
      ring_at w.feeds f there in
      let is = subst (λ (r : ℕ). IsTaken taken r most (x.state.feed f)) ring
      (gives (ring_sizes w) x.state.feed but.core.desk) in
      let kept = subst (λ (r : ℕ). KeepsFeeds new (ring_sizes w)
      (put_at x.state.feed f (after_take_of r most (x.state.feed f)))) ring
      (keeps (ring_sizes w) x.state.feed but.core.desk) in
      let P : Ask → Type 0 = λ ask. Gives leaving w n now ask gathered x (answers.Queue taken)
      (record old { desk = new }) peer.slot in (
        subst P (sym one) (record {
          told = shares.ToTakeQueue taken.missed (map item_view taken.items.items);
          between = shares.queue_taken x (ring_of (slice_get w.feeds f)) f most;
          shares = (λ i. shares.ToTakeQueue (is.missed i) (is.items i), refl);
          answers = (taken, refl, few_items taken _ most (x.state.feed f) is, refl);
          agrees = record {
            core = record {
              newest = but.core.newest;
              claims = but.core.claims;
              count = but.core.count;
              group_writers = but.core.group_writers;
              desk = kept;
              expirer = but.core.expirer;
              buffer_set = but.core.buffer_set;
            };
            peers = but.peers;
          };
          slot_is = slot;
        }),
        planned,
      )

  -- what is answered where they are, or where there is no such feed or no memory
  pub queue_shared : (f most : ℕ) (result : Result (Option Taken) AllocError) (answer : Answer)
      (new : FeedDesk) → answer ≡ queue_answer result
      → IfOk result (λ told. IfSome told (GivesItems old.desk f most))
      → IfOk result (λ told. IfSome told (λ _. TakesItems old.desk f most new))
      → (result ≡ Ok None → ring_count old.desk ≤ f) → (step : Step)
      → step ≡ steps.TakeQueue f most
      → SharesStep n now step old peer answer (record old { desk = new }) peer
  queue_shared f most result answer new is given kept missing step e =
      subst (λ a. SharesStep n now step old peer a (record old { desk = new }) peer) (sym is)
      (by_result result given kept missing)
    where
      by_result : (r : Result (Option Taken) AllocError)
          → IfOk r (λ told. IfSome told (GivesItems old.desk f most))
          → IfOk r (λ told. IfSome told (λ _. TakesItems old.desk f most new))
          → (r ≡ Ok None → ring_count old.desk ≤ f)
          → SharesStep n now step old peer (queue_answer r) (record old { desk = new }) peer
      by_result (Ok (Some taken)) gives keeps none =
          items_shared f most taken new gives keeps step e
      by_result (Ok None) gives keeps none =
          λ leaving x m d gathered but slot fits planned asked some.
          let one = subst (λ (s : Step). IsStepOf s d.ask) e asked in
          let there : f < length w.feeds =
          subst (λ (ask : Ask). AskFits w x ask gathered) one fits in
          absurd (no_ring w old.desk x.state.feed f but.core.desk there (none refl))
      by_result (Err error) gives keeps none =
          λ leaving x m d gathered but slot fits planned asked some. absurd (some refl)

  -- want of memory leaves the desk
  pub queue_left : (result : Result (Option Taken) AllocError) (answer : Answer) (new : FeedDesk)
      → answer ≡ queue_answer result → OnErr result (new ≡ old.desk) → answer ≡ answers.Memory
      → LeavesAll n old peer (record old { desk = new }) peer
  queue_left result answer new is same memory = by_result result same (sym is ∙ memory)
    where
      by_result : (r : Result (Option Taken) AllocError) → OnErr r (new ≡ old.desk)
          → queue_answer r ≡ answers.Memory → LeavesAll n old peer (record old { desk = new }) peer
      by_result (Ok (Some taken)) left none = never (answers.Queue taken) refl none
      by_result (Ok None) left none = never answers.Nothing refl none
      by_result (Err error) left none =
          record {
            agrees = λ trusted v x but. subst
                (λ desk. AgreesBut trusted v n (record old { desk = desk }) x) (sym left) but;
            same_peer = refl;
          }

  slot_taken : (step : Step) → step ≡ steps.Slot
      → SharesStep n now step old peer (answers.Slot peer.slot) old (record peer { slot = None })
  slot_taken step e = λ leaving x m d gathered but slot fits planned asked some.
      let one = subst (λ (s : Step). IsStepOf s d.ask) e asked in
      let P : Ask
      → Type 0 = λ ask. Gives leaving w n now ask gathered x (answers.Slot peer.slot) old
      None in (
        subst P (sym one.2) (record {
          told = shares.InSlot (option_map outcome_view peer.slot);
          between = shares.untold x n;
          shares = (ap shares.InSlot (sym slot), refl);
          answers = (peer.slot, refl, refl);
          agrees = record {
            core = record {
              newest = but.core.newest;
              claims = but.core.claims;
              count = but.core.count;
              group_writers = but.core.group_writers;
              desk = but.core.desk;
              expirer = but.core.expirer;
              buffer_set = but.core.buffer_set;
            };
            peers = λ s differ.
                let Q : Option world.Outcome → Type 0 = λ told. PeerIs true w x.state.kept
                (peer_at old.peers s) (x.state.session s) told in
                subst Q (sym (put_at_there x.work.slot n None s differ)) (but.peers s differ);
          };
          slot_is = put_at_here x.work.slot n None n refl;
        }),
        planned,
      )

  -- the outcome is taken out of the slot
  pub slot_shared : (taken left : Option Outcome) → taken ≡ peer.slot → left ≡ None
      → (step : Step) → step ≡ steps.Slot
      → SharesStep n now step old peer (answers.Slot taken) old (record peer { slot = left })
  slot_shared taken left t l step e =
      let P : Option Outcome → Type 0 = λ o. SharesStep n now step old peer (answers.Slot o) old
      (record peer { slot = left }) in
      let Q : Option Outcome → Type 0 = λ o. SharesStep n now step old peer
      (answers.Slot peer.slot) old (record peer { slot = o }) in
      subst P (sym t) (subst Q (sym l) (slot_taken step e))

  -- memory was refused by the shards
  pub claims_left : (new : Shards) → KeepsClaims (KeepsAll old.shards) (KeepsAll new)
      → LeavesAll n old peer (record old { shards = new }) peer
  claims_left new keeps =
      record {
        agrees = λ trusted v x but.
            record {
              core = record {
                newest = but.core.newest;
                claims = keeps x.state.claim but.core.claims;
                count = but.core.count;
                group_writers = but.core.group_writers;
                desk = but.core.desk;
                expirer = but.core.expirer;
                buffer_set = but.core.buffer_set;
              };
              peers = but.peers;
            };
        same_peer = refl;
      }
