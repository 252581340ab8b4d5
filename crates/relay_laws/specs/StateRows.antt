-- What the worked rows leave behind that no reply tells.
use Rattle.std.specs.Prelude.{◌≡◌, ℕ, ◌+◌, ◌-◌, List, [], ◌∷◌, codes, length, slice_get, Option}
use Rattle.std.specs.Prelude.{None, Some, map}
use Rattle.news_terms.specs.Token.{Token}
use Rattle.relay_model.specs.Claims.{Stored, Refused}
use Rattle.relay_model.specs.Run.{Event, Open, Bytes, Turn, Expire, Restart}
use Rattle.relay_model.specs.State.{Session, Job, Kept}
use Rattle.relay_model.specs.World.{World, Output, Quiet, Sent, Refuses, NoSession}
use Rattle.relay_model.specs.World as world
use Rattle.relay_laws.specs.Rows.{greeted, turns}
use Rattle.relay_laws.specs.Terms.{now}

-- the token of the article A(a, 1) at the front of the first cycle
abbrev pub first_token : Token
first_token = record { class = 1; buffer = 0; cycle = 0; first = 0; length = 164 }

-- the id of the article was stored at that moment
abbrev pub IsStoredNow : World → Type 0
IsStoredNow x = x.state.claim (codes "<a@x>") ≡ Stored first_token now

-- a block that is no article, at a moment of its own
abbrev pub refused_at : ℕ → List Event
refused_at moment =
    Open 1 0 ∷ Bytes 1 (codes "TAKETHIS <e@x>\r\n.\r\n") ∷ Turn 1 now ∷ Turn 1 moment ∷ []

-- its id was refused at that moment
abbrev pub IsRefusedAt : ℕ → World → Type 0
IsRefusedAt moment x = x.state.claim (codes "<e@x>") ≡ Refused moment

-- of three tokens all are passed, and two were taken
abbrev pub HasTakenTwo : World → Type 0
HasTakenTwo x = ((x.state.feed 0).passed ≡ 3) × ((x.state.feed 0).taken ≡ 2)

-- three texts are whole and accepted, each behind those before it
abbrev pub AreInOrder : World → Type 0
AreInOrder x =
    (map (λ (one : Kept). one.id) x.state.kept
    ≡ codes "<1@x>" ∷ codes "<2@x>" ∷ codes "<3@x>" ∷ [])
    × (map (λ (one : Token × List ℕ). one.0.first) x.state.accepted ≡ 0 ∷ 1 ∷ 2 ∷ [])

-- the job in the hand of the session that is there
abbrev pub hand_of : Option Session → Option Job
hand_of None = None
hand_of (Some session) = session.hand

-- session 1 has this in its hand, and so many jobs are queued
abbrev pub HasInHand : Option Job → ℕ → World → Type 0
HasInHand hand n x =
    (hand_of (x.state.session 1) ≡ hand) × (length (x.work.queue 0) ≡ n)

-- this job is the newest of so many
abbrev pub IsNewest : ℕ → Job → World → Type 0
IsNewest n job x = slice_get (x.work.queue 0) (n - 1) ≡ Some job

-- session 1 has this in its hand, and these jobs are queued in the first group and in the second
abbrev pub AreQueued : Option Job → (first second : List Job) → World → Type 0
AreQueued hand first second x =
    (hand_of (x.state.session 1) ≡ hand) × (x.work.queue 0 ≡ first) × (x.work.queue 1 ≡ second)

-- the relay is closed and started again; then session 3 asks what session 2 might have
abbrev pub started_again : List Event
started_again =
    Restart ∷ Turn 2 now ∷ Open 2 1 ∷ Open 3 1
    ∷ Bytes 3 (codes "CHECK <1@x>\r\nCHECK <2@x>\r\nCHECK <e@x>\r\nCHECK <o@x>\r\n")
    ∷ turns 3 4

-- sessions have ended, ids that are remembered stay so, and an offer is forgotten
abbrev pub started_again_replies : List Output
started_again_replies =
    Quiet ∷ Refuses NoSession ∷ Refuses world.SessionTaken ∷ greeted 3 ∷ Quiet
    ∷ Sent 3 (codes "438 <1@x>\r\n") ∷ Sent 3 (codes "438 <2@x>\r\n")
    ∷ Sent 3 (codes "438 <e@x>\r\n") ∷ Sent 3 (codes "238 <o@x>\r\n") ∷ []

-- the front was read when the relay is closed and started again
abbrev pub started_forgetting : List Event
started_forgetting =
    Expire 7 now ∷ Restart ∷ Expire 3 (now + 100) ∷ Open 3 1
    ∷ Bytes 3 (codes "CHECK <1@x>\r\nCHECK <1@x>\r\n") ∷ Turn 3 now ∷ Expire 3 (now + 100)
    ∷ Turn 3 now ∷ []

-- it is read again, so that the second Expire after it forgets
abbrev pub started_forgetting_replies : List Output
started_forgetting_replies =
    Quiet ∷ Quiet ∷ Quiet ∷ greeted 3 ∷ Quiet ∷ Sent 3 (codes "438 <1@x>\r\n") ∷ Quiet
    ∷ Sent 3 (codes "238 <1@x>\r\n") ∷ []

-- after it session 3 takes the queue, and asks for what is stored
abbrev pub started_feeding : List Event
started_feeding =
    Restart ∷ Open 3 1 ∷ Bytes 3 (codes "XTAKE 5\r\nSTAT <1@x>\r\nSTAT <2@x>\r\n") ∷ turns 3 5

-- the feed goes on where it was; what was gone is, and what was live is
abbrev pub started_feeding_replies : List Output
started_feeding_replies =
    Quiet ∷ greeted 3 ∷ Quiet
    ∷ Sent 3 (codes "290 Queue follows\r\n0\r\n2 @01000000000000000003000005A0@\r\n.\r\n")
    ∷ Quiet ∷ Sent 3 (codes "430 No such article\r\n") ∷ Quiet
    ∷ Sent 3 (codes "223 0 <2@x>\r\n") ∷ []
