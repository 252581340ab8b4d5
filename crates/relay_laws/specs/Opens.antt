-- Writes that are open (docs/PROTOCOL.md, Writing): what lies under their blocks, and what is begun
-- meanwhile.
use Rattle.std.specs.Prelude.{◌≡◌, ◌≢◌, ◌⊎◌, ℕ, ◌+◌, ◌≤◌, All, Option, None, Some}
use Rattle.news_terms.specs.Places.{Buffer, on_line, size_of}
use Rattle.news_terms.specs.Token.{Token}
use Rattle.relay_model.specs.Fetches.{buffer_of, front_of}
use Rattle.relay_model.specs.Run.{Event, Step}
use Rattle.relay_model.specs.State.{State, Job, Kept}
use Rattle.relay_model.specs.Terms.{Terms}
use Rattle.relay_model.specs.World.{World, Output, Writer, Idle, Popped, Writing, Finished, Failed}
use Rattle.relay_model.specs.World.{Settled, Forgotten}
use Rattle.relay_model.specs.Writers.{Begins}
use Rattle.relay_laws.specs.Rules.{IsLiveToken}

-- the token of a write that is open: its blocks are being written, or the write of one failed and
-- it isn't abandoned yet
abbrev pub open_write : Writer → Option Token
open_write Idle = None
open_write (Popped job) = None
open_write (Writing job token written) = Some token
open_write (Finished job token) = None
open_write (Failed job open_one) = open_one
open_write (Settled session) = None
open_write (Forgotten session) = None

-- the blocks of two tokens of one buffer are apart: those of one end before those of the other
abbrev pub AreApart : Token → Token → Type 0
AreApart one other =
    (one.first + size_of one.length ≤ other.first)
    ⊎ (other.first + size_of other.length ≤ one.first)

-- under the blocks of a write that is open lies no live article
abbrev pub OpensAreFree : Terms → World → Type 0
OpensAreFree w x =
    (g : ℕ) (token : Token) → open_write (x.work.writer g) ≡ Some token
    → All (λ (kept : Kept). kept.token.buffer ≡ token.buffer → IsLiveToken w x.state kept.token
    → AreApart kept.token token) x.state.kept

-- the front of its buffer stands behind the last block of a write that is open: it is the newest
-- that was begun there
abbrev pub OpensAreNewest : Terms → World → Type 0
OpensAreNewest w x =
    (g : ℕ) (token : Token) (buffer : Buffer) → open_write (x.work.writer g) ≡ Some token
    → buffer_of w token ≡ Some buffer
    → front_of w x.state buffer
    ≡ on_line buffer.blocks token.cycle token.first + size_of token.length

-- no next step moves the front of the buffer of a write that is open
abbrev pub OpensKeepFronts : Terms → World → Type 0
OpensKeepFronts w x =
    (event : Event) (output : Output) (y : World) (g : ℕ) (token : Token) (buffer : Buffer)
    → Step w x event output y → open_write (x.work.writer g) ≡ Some token
    → buffer_of w token ≡ Some buffer → front_of w y.state buffer ≡ front_of w x.state buffer

-- what a writer can begin while a write is open is in another buffer
abbrev pub BeginsElsewhere : Terms → World → Type 0
BeginsElsewhere w x =
    (g h : ℕ) (token other : Token) (job : Job) (σ : State)
    → open_write (x.work.writer g) ≡ Some token → x.work.writer h ≡ Popped job
    → Begins w x.state job other σ → other.buffer ≢ token.buffer
