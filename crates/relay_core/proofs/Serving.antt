-- A Turn with its peer taken out: plan, share and hear are one Turn of the definitions.
use Rattle.std.proofs.Common.{◌≡◌, ◌≢◌, ◌<◌, ◌+◌, ℕ, Bool, true, false, List}
use Rattle.std.proofs.Common.{Option, None, Some, refl, sym, ap, subst, ◌∙◌, ⊎_elim, arith}
use Rattle.std.proofs.lemmas.Bool.Decides.{nat_tests}
use Rattle.std.proofs.lemmas.Option.{slice_get_within}
use Rattle.std.specs.Prelude.{length, nat_lt}
use Rattle.article_verdict.specs.Config.{terms_of}
use Rattle.cyc_block.specs.declared.store.BlockStore.{Ghosts}
use Rattle.news_terms.specs.Command as commands
use Rattle.news_terms.specs.Places.{size_of}
use Rattle.news_terms.specs.Token as terms
use Rattle.peer_session.specs.Answers.{AsksOf, IsStepOf, SharesNone, reason_in}
use Rattle.peer_session.specs.Hearing.{Gathers}
use Rattle.peer_session.specs.Planning.{DueGiven, Planned}
use Rattle.peer_session.specs.declared.session.Session.{Session}
use Rattle.peer_session.specs.declared.steps.Answer.TheVariants as answers
use Rattle.peer_session.specs.declared.steps.Outcome.{Outcome}
use Rattle.peer_session.specs.declared.steps.Step.{Step}
use Rattle.peer_session.specs.declared.steps.Step.TheVariants as steps
use Rattle.relay_model.specs.Asks as asks
use Rattle.relay_model.specs.Asks.{Ask, Due, IsDue, reason_of}
use Rattle.relay_model.specs.Claims as claims
use Rattle.relay_model.specs.Fetches as fetches
use Rattle.relay_model.specs.Fetches.{Fetched, text_under}
use Rattle.relay_model.specs.Hears.{Heard, Hears, ReadHeard, goes_on, turns_of}
use Rattle.relay_model.specs.Invariants.{IsWell}
use Rattle.relay_model.specs.Shares as shares
use Rattle.relay_model.specs.Shares.{Shares, Reading, Pushing}
use Rattle.relay_model.specs.State as model
use Rattle.relay_model.specs.State.{Kept}
use Rattle.relay_model.specs.Terms.{Terms}
use Rattle.relay_model.specs.World as world
use Rattle.relay_model.specs.World.{World}
use Rattle.relay_core.specs.declared.peers.Peer.{Peer}
use Rattle.relay_core.proofs.Dues.{after_read}
use Rattle.relay_core.proofs.Found.{found_whole}
use Rattle.relay_core.specs.Agreement.{IsFront, HasNone, HasSome, IsGathered, SlotIs}
use Rattle.relay_core.specs.Sharing.{AskFits}
use Rattle.relay_core.specs.Turns.{Serves, StandsStill, StepTaken}
use Rattle.relay_core.specs.Views.{output_view}
use Rattle.relay_core.specs.declared.event.CoreError.TheVariants as faults
use Rattle.relay_core.specs.declared.event.Output.{Output}
use Rattle.relay_core.specs.declared.event.Output.TheVariants as outputs
use Rattle.relay_core.specs.declared.system.System.{System}

-- the group of a job in a hand is there
job_group : (w : Terms) (x : World) (n : ℕ) (m : model.Session) (job : model.Job) → IsWell w x
    → x.state.session n ≡ Some m → m.hand ≡ Some job → job.article.group < length w.groups
job_group w x n m job well there hand =
    let claimed = (well.placed.hand n m job there hand).claimed in
    let sound = well.sized.storing job.id job.session job.article claims.Waiting claimed in
    slice_get_within w.groups job.article.group sound.group sound.there

-- what is asked can be done
ask_fits : (w : Terms) (x : World) (n : ℕ) (m : model.Session) (gathered : List ℕ) → IsWell w x
    → x.state.session n ≡ Some m → IsGathered x.state.kept m.phase gathered
    → (ask : Ask) → AsksOf w m gathered ask → AskFits w x ask gathered
ask_fits w x n m gathered well there front (asks.Pushes job) of =
    job_group w x n m job well there of
ask_fits w x n m gathered well there front (asks.TakesQueue feed most) of = of
ask_fits w x n m gathered well there front (asks.Reads asked token had) of = (
  let P : model.Phase → Type 0 = λ phase. IsGathered x.state.kept phase gathered in
      ⊎_elim (λ phase. subst P phase front) (λ none. HasNone none.0 none.1) of,
  well.sized.kept,
)
ask_fits w x n m gathered well there front asks.Rests of = tt
ask_fits w x n m gathered well there front asks.GoesOn of = tt
ask_fits w x n m gathered well there front (asks.Says reply) of = tt
ask_fits w x n m gathered well there front (asks.Leaves reply) of = tt
ask_fits w x n m gathered well there front asks.Ends of = tt
ask_fits w x n m gathered well there front (asks.Offers transfer id) of = tt
ask_fits w x n m gathered well there front (asks.Looks part id) of = tt
ask_fits w x n m gathered well there front (asks.Refuses transfer id reason) of = tt
ask_fits w x n m gathered well there front (asks.Takes transfer id article) of = tt
ask_fits w x n m gathered well there front (asks.LooksInSlot transfer id) of = tt
ask_fits w x n m gathered well there front (asks.Releases id) of = tt

-- a Turn makes no text whole
push_kept : (x : World) (job : model.Job) (b : Bool) (told : shares.Answer) (y : World)
    → Pushing x job b told y → y.state.kept ≡ x.state.kept
push_kept x job true told y h = ap (λ (z : World). z.state.kept) h.1
push_kept x job false told y h = ap (λ (z : World). z.state.kept) h.1

read_kept : (w : Terms) (x : World) (token : terms.Token) (told : shares.Answer) (y : World)
    → Reading w x token told y → y.state.kept ≡ x.state.kept
read_kept w x token told y (shares.IsFound failures rises answer after) =
    ap (λ (z : World). z.state.kept) after
read_kept w x token told y (shares.HasNotRead failures undecided failed answer after) =
    ap (λ (z : World). z.state.kept) after

kept_stays : (w : Terms) (x : World) (n now : ℕ) (ask : Ask) (told : shares.Answer) (y : World)
    → Shares w x n now ask told y → y.state.kept ≡ x.state.kept
kept_stays w x n now asks.Rests told y h = ap (λ (z : World). z.state.kept) h.1
kept_stays w x n now asks.GoesOn told y h = ap (λ (z : World). z.state.kept) h.1
kept_stays w x n now (asks.Says reply) told y h = ap (λ (z : World). z.state.kept) h.1
kept_stays w x n now (asks.Leaves reply) told y h = ap (λ (z : World). z.state.kept) h.1
kept_stays w x n now asks.Ends told y h = ap (λ (z : World). z.state.kept) h.1
kept_stays w x n now (asks.Offers transfer id) told y h = ap (λ (z : World). z.state.kept) h.1
kept_stays w x n now (asks.Looks part id) told y h = ap (λ (z : World). z.state.kept) h.1
kept_stays w x n now (asks.TakesQueue feed most) told y h = ap (λ (z : World). z.state.kept) h.1
kept_stays w x n now (asks.Refuses transfer id reason) told y h =
    ap (λ (z : World). z.state.kept) h.1
kept_stays w x n now (asks.Takes transfer id article) told y h =
    ap (λ (z : World). z.state.kept) h.1
kept_stays w x n now (asks.LooksInSlot transfer id) told y h =
    ap (λ (z : World). z.state.kept) h.1
kept_stays w x n now (asks.Releases id) told y h = ap (λ (z : World). z.state.kept) h.1
kept_stays w x n now (asks.Pushes job) told y h = push_kept x job _ told y h
kept_stays w x n now (asks.Reads asked token had) told y h = read_kept w x token told y h

same_found : (a b : Fetched) → shares.ToRead a ≡ shares.ToRead b → a ≡ b
same_found a b e = cc

-- what wasn't read is no article
not_read : (text : List ℕ) → shares.ToRead fetches.NotRead ≡ shares.ToRead (fetches.Article text)
    → ⊥
not_read text e = cc

-- what was read is what is whole under the token
read_whole : (w : Terms) (x : World) (token : terms.Token) (told : shares.Answer) (y : World)
    (text : List ℕ) → Reading w x token told y → told ≡ shares.ToRead (fetches.Article text)
    → text_under x.state.kept token ≡ Some text
read_whole w x token told y text (shares.IsFound failures rises answer after) is =
    found_whole w x.state token text
    (same_found (fetches.fetched w x.state token) (fetches.Article text) (sym answer ∙ is))
read_whole w x token told y text (shares.HasNotRead failures undecided failed answer after) is =
    absurd (not_read text (sym answer ∙ is))

-- a fetch takes no more Turns than the article has blocks, but one in any case
few_turns : (asked : model.Asked) (token : terms.Token) (k : ℕ)
    → nat_lt (k + 1) (turns_of asked token) ≡ true → k + 1 < size_of token.length
few_turns model.OfToken token k h = grind (arith, nat_tests)
few_turns (model.OfId commands.WholeText id) token k h = grind (arith, nat_tests)
few_turns (model.OfId commands.Header id) token k h = grind (arith, nat_tests)
few_turns (model.OfId commands.BodyLines id) token k h = grind (arith, nat_tests)
few_turns (model.OfId commands.OverviewLine id) token k h = grind (arith, nat_tests)
few_turns (model.OfId commands.Presence id) token k h = grind (arith, nat_tests)

-- a fetch has had as many blocks as one that is the same
same_had : (asked : model.Asked) (token : terms.Token) (a b : ℕ)
    → model.Fetches asked token a ≡ model.Fetches asked token b → a ≡ b
same_had asked token a b e = cc

-- a session that is ready fetches nothing
no_fetch : (asked : model.Asked) (token : terms.Token) (had : ℕ)
    → model.Ready ≡ model.Fetches asked token had → ⊥
no_fetch asked token had e = cc

-- a fetch goes on exactly where it has more Turns
goes_right : (s : model.Session) (asked : model.Asked) (token : terms.Token) (before had : ℕ)
    (found : Fetched) (text : List ℕ) (b : Bool) (heard : Heard) → s.phase ≡ model.Ready
    → found ≡ fetches.Article text → nat_lt (before + 1) (turns_of asked token) ≡ b
    → ReadHeard s asked token before found b heard
    → heard.session.phase ≡ model.Fetches asked token had → had < size_of token.length
goes_right s asked token before had found text true heard ready is more h at =
    let same : before + 1 ≡ had = same_had asked token (before + 1) had
    (ap (λ (one : Heard). one.session.phase) (sym h) ∙ at) in
    subst (λ (k : ℕ). k < size_of token.length) same (few_turns asked token before more)
goes_right s asked token before had found text false heard ready is more h at =
    absurd (no_fetch asked token had
    (sym ready ∙ ap (λ (one : Heard). one.session.phase) (sym h.2) ∙ at))

-- a fetch that goes on has a block left
more_left : (w : Terms) (x : World) (n now : ℕ) (m : model.Session) (d : Due) (told : shares.Answer)
    (y : World) (heard : Heard) (asked : model.Asked) (token : terms.Token) (before had : ℕ)
    (text : List ℕ) → IsDue w m now d → d.ask ≡ asks.Reads asked token before
    → told ≡ shares.ToRead (fetches.Article text) → Hears n d.after d.ask told heard
    → heard.session.phase ≡ model.Fetches asked token had → had < size_of token.length
more_left w x n now m d told y heard asked token before had text due is tells hears at =
    let P : Ask → Type 0 = λ ask. Hears n d.after ask told heard in
    let h = subst P is hears in
    let found : h.0 ≡ fetches.Article text =
    same_found h.0 (fetches.Article text) (sym h.1 ∙ tells) in
    goes_right d.after asked token before had h.0 text (goes_on asked token before h.0) heard
    (after_read w m now d due asked token before is) found
    (ap (goes_on asked token before) (sym found)) h.2 at

-- what was gathered is a front of the text under the token, also after the Turn
fronts_after : (w : Terms) (x : World) (n now : ℕ) (m : model.Session) (d : Due)
    (told : shares.Answer) (y : World) (heard : Heard) (later : List ℕ) → IsDue w m now d
    → Shares w x n now d.ask told y → Hears n d.after d.ask told heard → (phase : model.Phase)
    → heard.session.phase ≡ phase → Gathers d.ask told phase later
    → IsGathered y.state.kept phase later
fronts_after w x n now m d told y heard later due shares hears (model.Fetches asked token had) at
    gathers =
    ⊎_elim (λ none. HasNone none.0 none.1)
    (λ some.
    let P : Ask → Type 0 = λ one. Shares w x n now one told y in
    let whole = read_whole w x token told y some.1 (subst P some.2 shares) some.3 in
    let Q : List Kept → Type 0 = λ kept. IsFront kept token had later in
    subst Q (sym (kept_stays w x n now d.ask told y shares))
    (HasSome some.1 whole some.4
    (more_left w x n now m d told y heard asked token some.0 had some.1 due some.2 some.3 hears
    at))) gathers
fronts_after w x n now m d told y heard later due shares hears model.Ready at gathers = gathers
fronts_after w x n now m d told y heard later due shares hears
    (model.AwaitsBlock transfer id) at gathers =
    gathers
fronts_after w x n now m d told y heard later due shares hears (model.Holds id article) at gathers =
    gathers
fronts_after w x n now m d told y heard later due shares hears (model.Waits transfer id) at
    gathers = gathers
fronts_after w x n now m d told y heard later due shares hears model.Leaving at gathers = gathers
fronts_after w x n now m d told y heard later due shares hears model.Ended at gathers = gathers

-- what a step that shares nothing asks refuses no article
none_refused : (ask : Ask) → SharesNone ask → reason_of ask ≡ None
none_refused asks.Rests none = refl
none_refused asks.GoesOn none = refl
none_refused (asks.Says reply) none = refl
none_refused (asks.Leaves reply) none = refl
none_refused asks.Ends none = refl
none_refused (asks.Offers transfer id) none = absurd none
none_refused (asks.Looks part id) none = absurd none
none_refused (asks.Reads asked token had) none = absurd none
none_refused (asks.TakesQueue feed most) none = absurd none
none_refused (asks.Refuses transfer id reason) none = absurd none
none_refused (asks.Takes transfer id article) none = absurd none
none_refused (asks.Pushes job) none = absurd none
none_refused (asks.LooksInSlot transfer id) none = absurd none
none_refused (asks.Releases id) none = absurd none

-- a step refuses an article for the reason that is asked
reason_is : (step : Step) (ask : Ask) → IsStepOf step ask → reason_of ask ≡ reason_in step
reason_is steps.Nothing ask is = none_refused ask is
reason_is (steps.Offer id) ask is = ap reason_of is.1
reason_is (steps.Look id) ask is = ap reason_of is.1
reason_is (steps.Read token k) ask is = ap reason_of is.1
reason_is (steps.TakeQueue feed most) ask is = ap reason_of is
reason_is (steps.Refuse id reason) ask is = ap reason_of is.1
reason_is (steps.Take id) ask is = ap reason_of is.2
reason_is (steps.Push group) ask is = ap reason_of is.1
reason_is steps.Slot ask is = ap reason_of is.2
reason_is (steps.Release id) ask is = ap reason_of is

module _ {S : Type 0} {g : Ghosts S} (n now : ℕ) (old : System S g) (peer : Peer)
    (session : Session) (step : Step) (new : System S g) (peer' : Peer) (output : Output) where
  -- a plan and its step make a Turn
  pub served : DueGiven (terms_of old.config) peer.session now step session
      → StepTaken n now step old (record peer { session = session }) output new peer'
      → Serves n now old peer output new peer'
  served due taken = λ leaving x m but there stands well other.
      let w : Terms = terms_of old.config in
      let some : taken.answer ≢ answers.Memory = λ e. other (taken.memory.told e) in
      let p = due m stands.gathered stands.stands in
      let fits = ask_fits w x n m stands.gathered well there (stands.fronts refl) p.due.ask
      p.asks_of in
      let s = taken.shared leaving x m p.due stands.gathered but stands.slot_is fits p.planned
      p.is_step some in
      let gives = s.0 in
      let v = taken.heard w m p.due stands.gathered gives.told
      (reason_is step p.due.ask p.is_step) some s.1 gives.answers in
      record {
        between = gives.between;
        session = v.heard.session;
        turns = record {
          session = m;
          there = there;
          due = p.due;
          is_due = p.is_due;
          answer = gives.told;
          between = gives.between;
          shares = gives.shares;
          heard = v.heard;
          hears = v.hears;
          output_is = v.output_is;
          after = refl;
        };
        agrees = gives.agrees;
        stands = record {
          gathered = v.later;
          stands = v.stands;
          fronts = λ trusted. fronts_after w x n now m p.due gives.told gives.between v.heard
              v.later p.is_due gives.shares v.hears v.heard.session.phase refl v.gathers;
          slot_is = subst (λ (slot : Option Outcome). SlotIs slot (gives.between.work.slot n))
              (sym taken.same_slot) gives.slot_is;
        };
      }

  -- want of memory leaves all as it was
  pub stood_still : DueGiven (terms_of old.config) peer.session now step session
      → StepTaken n now step old (record peer { session = session }) output new peer'
      → output ≡ outputs.Refused faults.Memory → StandsStill n old peer new peer'
  stood_still due taken memory =
      let is : taken.answer ≡ answers.Memory =
      taken.memory.only world.Memory (ap output_view memory) in
      let left = taken.left is in
      record {
        agrees = left.agrees;
        stands = λ m gathered stands.
            let p = due m gathered stands in
            let same : taken.between.session ≡ session =
            ap (λ (one : Peer). one.session) left.same_peer in
            taken.memory.forgets is (terms_of old.config) m p.due gathered
            (subst (λ (one : Session). Planned (terms_of old.config) one m p.due gathered false)
            (sym same) p.planned);
        slot = taken.same_slot ∙ ap (λ (one : Peer). one.slot) left.same_peer;
      }
