-- Each token that is stored or fetched by message-id has a text, so a fetch of it is never of an
-- unknown one.
use Rattle.std.proofs.Common.{◌≡◌, ◌∙◌, ℕ, ◌+◌, ◌≤◌, ◌==◌, ◌||◌, nat_lt, nat_le, Bool, true}
use Rattle.std.proofs.Common.{false, List, ◌++◌, length, Option, None, Some}
use Rattle.std.proofs.Common.{option_map, unwrap_or, if◌then◌else◌, refl, sym, ap, subst, arith}
use Rattle.std.proofs.Common.{true≢false}
use Rattle.std.proofs.lemmas.Bool.{le-ltb, lt-leb, ne_eqb}
use Rattle.std.proofs.lemmas.Option.{none-some, same_Some}
use Rattle.std.specs.Prelude.{slice_get}
use Rattle.news_terms.specs.Command.{Part}
use Rattle.news_terms.specs.Places.{Buffer, on_line, size_of}
use Rattle.news_terms.specs.Token.{Token}
use Rattle.relay_model.specs.Asks.{Ask, Looks}
use Rattle.relay_model.specs.Claims.{Claim, Unknown, Offered, Storing, Stored, Refused}
use Rattle.relay_model.specs.Claims.{Passed, look_answer}
use Rattle.relay_model.specs.Fetches.{Gone, NotKnown, Article, article_of}
use Rattle.relay_model.specs.Fetches.{decided_in, fetched, front_of, text_under}
use Rattle.relay_model.specs.Invariants.{IsWell}
use Rattle.relay_model.specs.OnRecord.{HasText, IsBelow, IsOnRecord}
use Rattle.relay_model.specs.Run.{Event, Open, Bytes, Turn, Write, Break, Expire, Restart, Step}
use Rattle.relay_model.specs.Run.{Does, IsRefused, WantsMemory, IsDone, Turns, Restarts, IsBusy}
use Rattle.relay_model.specs.Run.{HasNoRoom, HasNot, expired, new_session, reads_front}
use Rattle.relay_model.specs.Run as run
use Rattle.relay_model.specs.Shares.{Answer, Shares, ToLook}
use Rattle.relay_model.specs.State.{State, Session, Leaving, Ended}
use Rattle.relay_model.specs.State.{in_phase, put_at, with_unread}
use Rattle.relay_model.specs.Terms.{Terms}
use Rattle.relay_model.specs.World.{World, Output, Expirer, Forgetting}
use Rattle.relay_model.specs.World as world
use Rattle.relay_facts.specs.Sound.{IsSound}
use Rattle.relay_facts.proofs.Moves.{step_moves}
use Rattle.relay_facts.proofs.Puts.{put_at_both}
use Rattle.relay_facts.proofs.Recorded.{under_below}
use Rattle.relay_facts.proofs.RecordedTexts.{texts_stay}
use Rattle.relay_laws.specs.Laws.{Always, FetchesKnown}
use Rattle.relay_laws.proofs.FetchPhases.{fetching, due_reads, heard_comes, Comes_from}
use Rattle.relay_laws.proofs.FetchPhases.{IsLooked, WasRead}
use Rattle.relay_laws.proofs.Runs.{always_keeps, always_well}
use Rattle.relay_laws.proofs.Sessions.{sessions, shared_sessions, write_sessions}

-- the sessions of a world fetch what has a text in this state
abbrev Fetch_known : State → World → Type 0
Fetch_known σ y =
    (s : ℕ) (session : Session) (token : Token) → y.state.session s ≡ Some session
    → fetching session.phase ≡ Some token → HasText σ.kept token

-- what is on record, and what the sessions fetch, has a text
record Knows (w : Terms) (x : World) : Type 0 where
  recorded : IsOnRecord w x.state
  fetched : Fetch_known x.state x

-- a world whose sessions are those of another
same_sessions : (σ : State) (x y : World) → y.state.session ≡ x.state.session → Fetch_known σ x
    → Fetch_known σ y
same_sessions σ x y same known s session token there is =
    known s session token (sym (ap (λ (f : ℕ → Option Session). f s) same) ∙ there) is

-- one session goes on, the others stay
one_session : (σ : State) (x y : World) (k : ℕ) (next : Session)
    → y.state.session ≡ put_at x.state.session k (Some next)
    → ((token : Token) → fetching next.phase ≡ Some token → HasText σ.kept token)
    → Fetch_known σ x → Fetch_known σ y
one_session σ x y k next puts fits known s session token there is =
    put_at_both (λ (o : Option Session). o ≡ Some session → HasText σ.kept token)
    x.state.session k (Some next) s
    (λ here e. fits token
    (ap (λ (one : Session). fetching one.phase) (same_Some next session e) ∙ is))
    (λ other e. known s session token e is)
    (sym (ap (λ (f : ℕ → Option Session). f s) puts) ∙ there)

-- a token that was looked up is stored
look_stored : (claim : Claim) (token : Token) → look_answer claim ≡ Some token
    → (moment : ℕ) × (claim ≡ Stored token moment)
look_stored Unknown token e = absurd (none-some token e)
look_stored (Offered session since) token e = absurd (none-some token e)
look_stored (Storing session article stage) token e = absurd (none-some token e)
look_stored (Stored had moment) token e =
    (moment, ap (λ t. Stored t moment) (same_Some had token e))
look_stored (Refused moment) token e = absurd (none-some token e)

-- what a look is answered in a world
looked : (w : Terms) (x : World) (s now : ℕ) (ask : Ask) (answer : Answer) (y : World)
    (part : Part) (id : List ℕ) (token : Token) → ask ≡ Looks part id
    → answer ≡ ToLook (Some token) → Shares w x s now ask answer y
    → look_answer (x.state.claim id) ≡ Some token
looked w x s now ask answer y part id token asks says shares =
    let one : Shares w x s now (Looks part id) answer y =
    subst (λ a. Shares w x s now a answer y) asks shares in
    let same : ToLook (Some token) ≡ ToLook (look_answer (x.state.claim id)) =
    sym says ∙ one.0 in
    cc

-- where a token that is fetched comes from it has a text
comes_known : (w : Terms) (x y : World) (s now : ℕ) (output : Output)
    (turn : Turns w x s now output y)
    → Knows w x → (token : Token) → Comes_from turn.due.ask turn.answer token
    → HasText x.state.kept token
comes_known w x y s now output turn knows token (IsLooked part id asks says) =
    let stored = look_stored (x.state.claim id) token
    (looked w x s now turn.due.ask turn.answer turn.between part id token asks says turn.shares) in
    knows.recorded.stored id token stored.0 stored.1
comes_known w x y s now output turn knows token (WasRead reads) =
    knows.fetched s turn.session token turn.there
    ((due_reads w turn.session now turn.due turn.is_due).reads token reads)

-- a Turn
turn_known : (w : Terms) (x y : World) (s now : ℕ) (output : Output) → Turns w x s now output y
    → Knows w x → Fetch_known x.state y
turn_known w x y s now output turn knows =
    one_session x.state x y s turn.heard.session
    (ap sessions turn.after
    ∙ ap (λ (f : ℕ → Option Session). put_at f s (Some turn.heard.session))
    (shared_sessions w x s now turn.due.ask turn.answer turn.between turn.shares))
    (λ token is.
    comes_known w x y s now output turn knows token
    (heard_comes s turn.due.after turn.due.ask turn.answer turn.heard
    (due_reads w turn.session now turn.due turn.is_due).after turn.hears token is))
    knows.fetched

-- the sessions that a Restart leaves have ended
ended_none : (o : Option Session) (session : Session)
    → option_map (λ (one : Session). in_phase one Ended) o ≡ Some session
    → fetching session.phase ≡ None
ended_none None session e = absurd (none-some session e)
ended_none (Some one) session e =
    ap (λ (each : Session). fetching each.phase) (sym (same_Some (in_phase one Ended) session e))

-- a Restart
restart_known : (w : Terms) (x : World) (output : Output) (y : World) → Restarts w x output y
    → Knows w x → Fetch_known x.state y
restart_known w x output y (IsBusy id busy said e) knows =
    same_sessions x.state x y (ap sessions e) knows.fetched
restart_known w x output y (HasNoRoom failures rises said e) knows =
    same_sessions x.state x y (ap sessions e) knows.fetched
restart_known w x output y (HasNot i buffer failures there idle failed said e) knows =
    same_sessions x.state x y (ap sessions e) knows.fetched
restart_known w x output y (run.IsDone failures idle rises said e) knows =
    λ s session token there is.
    absurd (none-some token
    (sym (ended_none (x.state.session s) session
    (sym (ap (λ (f : ℕ → Option Session). f s) (ap sessions e)) ∙ there)) ∙ is))

-- an event that isn't refused
does_known : (w : Terms) (x : World) (event : Event) (output : Output) (y : World)
    → Does w x event output y → Knows w x → Fetch_known x.state y
does_known w x (Open s peer) output y does knows =
    one_session x.state x y s (new_session peer) (ap sessions does.1)
    (λ token is. absurd (none-some token is)) knows.fetched
does_known w x (Bytes s piece) output y does knows =
    one_session x.state x y s (with_unread does.0 (does.0.unread ++ piece)) (ap sessions does.3)
    (λ token is. knows.fetched s does.0 token does.1 is) knows.fetched
does_known w x (Turn s now) output y turn knows = turn_known w x y s now output turn knows
does_known w x (Write g now) output y does knows =
    same_sessions x.state x y (write_sessions w x g now y does.1) knows.fetched
does_known w x (Break s) output y does knows =
    one_session x.state x y s (in_phase does.0 Leaving) (ap sessions does.3)
    (λ token is. absurd (none-some token is)) knows.fetched
does_known w x (Expire shard now) output y does knows =
    same_sessions x.state x y (ap sessions does.1 ∙ expired_sessions x.work.expirer) knows.fetched
  where
    read : (fronts : List Passed) (next : Option Buffer)
        → sessions (reads_front w x shard now fronts next) ≡ sessions x
    read fronts (Some buffer) = refl
    read fronts None = refl

    expired_sessions : (expirer : Expirer)
        → sessions (expired w x shard now expirer) ≡ sessions x
    expired_sessions (world.Reading fronts) = read fronts (slice_get w.buffers (length fronts))
    expired_sessions (Forgetting fronts left) = refl
does_known w x Restart output y does knows = restart_known w x output y does knows

-- each step leads to a world whose sessions fetch what had a text before
step_known : (w : Terms) (x : World) (event : Event) (output : Output) (y : World)
    → Step w x event output y → Knows w x → Fetch_known x.state y
step_known w x event output y (IsRefused fault is said e) knows =
    same_sessions x.state x y (ap sessions e) knows.fetched
step_known w x event output y (WantsMemory takes said e) knows =
    same_sessions x.state x y (ap sessions e) knows.fetched
step_known w x event output y (IsDone free does) knows = does_known w x event output y does knows

-- each step keeps that
fetches_kept : (w : Terms) (x : World) (event : Event) (output : Output) (y : World) → IsWell w x
    → Step w x event output y → Fetch_known x.state x → Fetch_known y.state y
fetches_kept w x event output y well step known s session token there is =
    texts_stay w x.state y.state (step_moves w x event output y step) token
    (step_known w x event output y step
    (record { recorded = well.on_record; fetched = known }) s session token there is)

-- what the tests of a fetch leave where the token is below its front
not_unknown : (none past unbegun passed : Bool) (text : List ℕ) → none ≡ false → past ≡ false
    → unbegun ≡ false
    → unwrap_or (if none || past || unbegun then Some NotKnown
    else (if passed then Some Gone else None)) (Article text) ≡ NotKnown → ⊥
not_unknown true past unbegun passed text a b c e = true≢false a
not_unknown false true unbegun passed text a b c e = true≢false b
not_unknown false false true passed text a b c e = true≢false c
not_unknown false false false true text a b c e = cc
not_unknown false false false false text a b c e = cc

-- so such a token is not unknown
below_known : (w : Terms) (σ : State) (token : Token) (text : List ℕ) → IsBelow w σ token
    → text_under σ.kept token ≡ Some text → fetched w σ token ≡ NotKnown → ⊥
below_known w σ token text below under e =
    not_unknown (token.length == 0) (nat_lt buffer.blocks (token.first + size_of token.length))
    (nat_le front place) (nat_lt (place + buffer.blocks) front) text
    (ne_eqb token.length 0 (λ none. absurd (omega (arith, some, none))))
    (le-ltb buffer.blocks (token.first + size_of token.length) below.inside)
    (lt-leb front place below.below)
    (sym (ap (λ found.
    unwrap_or (decided_in w σ token found) (article_of (text_under σ.kept token)))
    below.named
    ∙ ap (λ found. unwrap_or (decided_in w σ token (Some buffer)) (article_of found)) under) ∙ e)
  where
    buffer : Buffer
    buffer = below.buffer

    place : ℕ
    place = on_line buffer.blocks token.cycle token.first

    front : ℕ
    front = front_of w σ buffer

    some : 1 ≤ token.length
    some = below.some

-- a fetch by message-id that is under way is never of an unknown token
pub fetches_known : (w : Terms) → IsSound w → Always w (FetchesKnown w)
fetches_known w sound failures events outputs x ran s session part id token had there is =
    let text = always_keeps w sound (λ y. Fetch_known y.state y) (fetches_kept w)
    (λ failed n one k at e. absurd (none-some one at)) failures events outputs x ran s session token
    there (ap fetching is) in
    below_known w x.state token text.text
    (under_below w x.state x.state.kept token text.text
    (always_well w sound failures events outputs x ran).on_record.kept text.under)
    text.under
