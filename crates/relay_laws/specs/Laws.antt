-- The laws: what holds after every list of events, whatever they were answered.
use Rattle.std.specs.Prelude.{◌≡◌, ◌≢◌, ℕ, ◌≤◌, Bool, true, false, List, []}
use Rattle.std.specs.Prelude.{◌∷◌, count_by, bytes_eq, All, None, Some}
use Rattle.news_terms.specs.Command.{Part}
use Rattle.news_terms.specs.Token.{Token, same_token}
use Rattle.relay_model.specs.Asks.{is_open}
use Rattle.relay_model.specs.Claims.{Claim, Unknown, Offered, Storing, Stored, Refused, Stage}
use Rattle.relay_model.specs.Claims.{Accepted}
use Rattle.relay_model.specs.Fetches as fetches
use Rattle.relay_model.specs.Fetches.{Gone, NotKnown, fetched}
use Rattle.relay_model.specs.Invariants.{places_of}
use Rattle.relay_model.specs.Run.{Event, Run, Step}
use Rattle.relay_model.specs.State.{State, Session, Kept, Job, Fetches, OfId, Ended}
use Rattle.relay_model.specs.Fetches.{is_at}
use Rattle.relay_model.specs.State.{tokens_for}
use Rattle.relay_model.specs.Terms.{Terms}
use Rattle.relay_model.specs.World.{World, Output, Writing, empty_world}
use Rattle.relay_model.specs.Writers.{job_size}
use Rattle.relay_model.specs.Fetches.{IsGoneToken}

-- after every list of events from this world on, whatever they were answered, the world is such
abbrev pub AlwaysFrom : Terms → World → (World → Type 0) → Type 0
AlwaysFrom w x holds =
    (events : List Event) (outputs : List Output) (x' : World) → Run w x events outputs x'
    → holds x'

-- after every list of events from the beginning on, however often devices had failed before
abbrev pub Always : Terms → (World → Type 0) → Type 0
Always w holds = (failures : ℕ → ℕ) → AlwaysFrom w (empty_world failures) holds

-- how many texts of a message-id were stored
abbrev pub texts_of : List ℕ → State → ℕ
texts_of id σ = count_by (λ (kept : Kept). bytes_eq id kept.id) σ.kept

-- the id is stored or was refused
abbrev pub is_remembered : Claim → Bool
is_remembered Unknown = false
is_remembered (Offered session since) = false
is_remembered (Storing session article stage) = false
is_remembered (Stored token moment) = true
is_remembered (Refused moment) = true

-- an id that is remembered before is remembered after
abbrev pub Remembers : List ℕ → World → World → Type 0
Remembers id x x' =
    is_remembered (x.state.claim id) ≡ true → is_remembered (x'.state.claim id) ≡ true

-- a run that doesn't forget this id
abbrev pub RunRemembering : List ℕ → Terms → World → List Event → List Output → World → Type 0
RunRemembering id w x [] [] x' = x' ≡ x
RunRemembering id w x (event ∷ events) (output ∷ outputs) x' =
    (mid : World) × Step w x event output mid × Remembers id x mid
    × RunRemembering id w mid events outputs x'
RunRemembering id w x [] (output ∷ outputs) x' = ⊥
RunRemembering id w x (event ∷ events) [] x' = ⊥

-- each feed gained the tokens of the accepted articles permitted for it, no other, in order
abbrev pub GainsPermitted : World → Type 0
GainsPermitted x =
    (feed : ℕ) → (x.state.feed feed).gained ≡ tokens_for feed x.state.accepted

-- a session of this number is there, and the message-id is one of its open offers
pub record IsOpenOffer (x : World) (s : ℕ) (id : List ℕ) : Type 0 where
  pub session : Session
  pub there : x.state.session s ≡ Some session
  pub open_there : is_open session.offers id ≡ true

-- a message-id that is offered to a session is one of its open offers
abbrev pub OffersAreOpen : World → Type 0
OffersAreOpen x =
    (id : List ℕ) (s since : ℕ) → x.state.claim id ≡ Offered s since → IsOpenOffer x s id

-- a fetch of the token finds it gone
abbrev pub FindsGone : Terms → Token → World → Type 0
FindsGone w token x = fetched w x.state token ≡ Gone

-- at each place lies at most one of all texts that were ever stored
abbrev pub OneTextAPlace : World → Type 0
OneTextAPlace x = (buffer cycle first : ℕ) → count_by (is_at buffer cycle first) x.state.kept ≤ 1

-- under each token at most one text was ever stored
abbrev pub OneTextAToken : World → Type 0
OneTextAToken x =
    (token : Token) → count_by (λ (kept : Kept). same_token kept.token token) x.state.kept ≤ 1

-- no feed gained a token twice
abbrev pub GainsOnce : World → Type 0
GainsOnce x =
    (feed : ℕ) (token : Token)
    → count_by (λ one. same_token one token) (x.state.feed feed).gained ≤ 1

-- the token of a message-id that is stored was accepted exactly once
abbrev pub AcceptsStored : World → Type 0
AcceptsStored x =
    (id : List ℕ) (token : Token) (moment : ℕ) → x.state.claim id ≡ Stored token moment
    → count_by (λ (one : Token × List ℕ). same_token one.0 token) x.state.accepted ≡ 1

-- each message-id that is being stored is in exactly one place: its session's hand, a queue or a
-- writer
abbrev pub IsInOnePlace : World → Type 0
IsInOnePlace x =
    (id : List ℕ) (s : ℕ) (article : Accepted) (stage : Stage)
    → x.state.claim id ≡ Storing s article stage → places_of x id s article.group ≡ 1

-- each text that is whole is found under its token, until the front of its buffer has passed it
abbrev pub FindsUntilGone : Terms → World → Type 0
FindsUntilGone w x =
    All (λ (kept : Kept). ¬ IsGoneToken w x.state kept.token
    → fetched w x.state kept.token ≡ fetches.Article kept.text) x.state.kept

-- a fetch by message-id that is under way is never of a token that is unknown
abbrev pub FetchesKnown : Terms → World → Type 0
FetchesKnown w x =
    (s : ℕ) (session : Session) (part : Part) (id : List ℕ) (token : Token) (had : ℕ)
    → x.state.session s ≡ Some session → session.phase ≡ Fetches (OfId part id) token had
    → fetched w x.state token ≢ NotKnown

-- a session that has ended has no job in its hand
abbrev pub EndedHaveNoJob : World → Type 0
EndedHaveNoJob x =
    (s : ℕ) (session : Session) → x.state.session s ≡ Some session → session.phase ≡ Ended
    → session.hand ≡ None

-- no writer has written more blocks than its job has
abbrev pub WritesWithin : World → Type 0
WritesWithin x =
    (g : ℕ) (job : Job) (token : Token) (written : ℕ)
    → x.work.writer g ≡ Writing job token written → written ≤ job_size job
