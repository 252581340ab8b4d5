-- What a connection has carried of a session.
use Rattle.std.specs.Prelude.{◌≡◌, ◌⊎◌, ℕ, ◌++◌, Bool, true, false, List, [], codes, bytes_eq, take}
use Rattle.std.specs.Prelude.{Option, None, Some, if◌then◌else◌}
use Rattle.std.specs.Global.{Vec}
use Rattle.std.specs.Option.{IsSomeAnd}
use Rattle.boxcar.specs.Table.{Shelves}
use Rattle.live_session.specs.Course.{Course, Hands, IsClosed, Point, greeted}
use Rattle.live_session.specs.Going.{Going, parted_after}
use Rattle.live_session.specs.declared.commands.Command.{Command}
use Rattle.live_session.specs.declared.live.LiveSession.{LiveSession}
use Rattle.live_session.specs.declared.wire.Finish.{Finish}
use Rattle.live_session.specs.declared.wire.Finish.TheVariants as finishes
use Rattle.live_store.specs.declared.record.StorePremises.{Ghosts}
use Rattle.news_terms.specs.Reply.{Greeting, reply_text}
use Rattle.peer_session.specs.Session.{NewStands}
use Rattle.peer_session.specs.declared.session.Session.{Session}
use Rattle.relay_model.specs.Terms.{Terms}

-- the octets that were read and those that were written, the replies that are still to be written,
-- and how the connection ended, once it has
pub record Carried : Type 0 where
  pub heard : List ℕ
  pub written : List ℕ
  pub waiting : List ℕ
  pub finish : Option Finish

-- the same, by what a connection has
abbrev pub carried : (heard written : List ℕ) → Vec ℕ → Option Finish → Carried
carried heard written outbox finish =
    record { heard = heard; written = written; waiting = outbox.items; finish = finish }

-- the connection is broken
abbrev pub is_broken : Option Finish → Bool
is_broken None = false
is_broken (Some finishes.Quit) = false
is_broken (Some finishes.Fault) = false
is_broken (Some finishes.TurnsSpent) = false
is_broken (Some finishes.Held) = false
is_broken (Some finishes.Broken) = true

-- all octets that were read came to the session; where the connection broke, the last may not have
abbrev pub HeardAs : (broken : Bool) → (read came : List ℕ) → Type 0
HeardAs false read came = read ≡ came
HeardAs true read came = (lost : List ℕ) × (read ≡ came ++ lost)

-- all replies were written or wait; where the connection broke, a front of them was written
abbrev pub WrittenAs : (broken : Bool) → (written waiting replies : List ℕ) → Type 0
WrittenAs false written waiting replies = written ++ waiting ≡ replies
WrittenAs true written waiting replies = (rest : List ℕ) × (written ++ rest ≡ replies)

-- how a session ends by the octets of its last reply: 205 is the answer to QUIT (RFC 3977
-- section 5.4), any other is that to a fault
abbrev pub finish_of : List ℕ → Finish
finish_of octets =
    if bytes_eq (take 3 octets) (codes "205") then finishes.Quit else finishes.Fault

-- how a connection ends once the last reply is said: it stays broken, spent or held
abbrev pub part_finish : Option Finish → List ℕ → Option Finish
part_finish None octets = Some (finish_of octets)
part_finish (Some finishes.Quit) octets = Some (finish_of octets)
part_finish (Some finishes.Fault) octets = Some (finish_of octets)
part_finish (Some finishes.Broken) octets = Some finishes.Broken
part_finish (Some finishes.TurnsSpent) octets = Some finishes.TurnsSpent
part_finish (Some finishes.Held) octets = Some finishes.Held

-- what has ended stays so, and it is neither for its turns that it ends meanwhile nor is it held
pub record Lasts (old new : Option Finish) : Type 0 where
  pub ended : new ≡ None → old ≡ None
  pub unspent : new ≡ Some finishes.TurnsSpent → old ≡ Some finishes.TurnsSpent
  pub unheld : new ≡ Some finishes.Held → old ≡ Some finishes.Held

-- the gate said no to some command
abbrev pub Refusal : (refuses : Command → Type 0) → Type 0
Refusal refuses = ∥ ((command : Command) × refuses command) ∥₁

-- what has ended stays so, it isn't for its turns that it ends meanwhile, and it is held only where
-- the gate said no to some command
pub record LastsOrHeld (refuses : Command → Type 0) (old new : Option Finish) : Type 0 where
  pub ended : new ≡ None → old ≡ None
  pub unspent : new ≡ Some finishes.TurnsSpent → old ≡ Some finishes.TurnsSpent
  pub held : new ≡ Some finishes.Held → (old ≡ Some finishes.Held) ⊎ Refusal refuses

-- it ends with no last reply of the session
abbrev pub is_break : Finish → Bool
is_break finishes.Quit = false
is_break finishes.Fault = false
is_break finishes.Broken = true
is_break finishes.TurnsSpent = true
is_break finishes.Held = true

-- a session that was quit, or ended by a fault, has said its last reply
abbrev pub EndsAs : Option Finish → Option (List ℕ) → Type 0
EndsAs None parted = Unit {0}
EndsAs (Some finishes.Quit) parted = IsSomeAnd parted (λ octets. finish_of octets ≡ finishes.Quit)
EndsAs (Some finishes.Fault) parted = IsSomeAnd parted (λ octets. finish_of octets ≡ finishes.Fault)
EndsAs (Some finishes.Broken) parted = Unit {0}
EndsAs (Some finishes.TurnsSpent) parted = Unit {0}
EndsAs (Some finishes.Held) parted = Unit {0}

-- the connection carried what came to a session and the replies that it said, of which this was the
-- last
pub record Carries (c : Carried) (came replies : List ℕ) (parted : Option (List ℕ)) : Type 0 where
  pub heard : HeardAs (is_broken c.finish) c.heard came
  pub written : WrittenAs (is_broken c.finish) c.written c.waiting replies
  pub ends : EndsAs c.finish parted

-- The session of a thread is on its course, and the connection has carried what it heard and said;
-- before it, the reader had read and the writer had written this.
pub record Serves {J : Type 0} {g : Ghosts J} (honest : Bool) (w : Terms) (s end : ℕ)
    (first : Point) (read written : List ℕ) (live : LiveSession J g) (c : Carried) : Type 0 where
  pub at : Point
  pub going : Going honest w s end first live at
  pub carries : Carries c (read ++ at.heard) (written ++ at.said) at.parted

-- what was served up to here is served further; of honest stores something is said where the
-- stores are trusted
abbrev pub ServesOn : {J : Type 0} {g : Ghosts J} → Terms → LiveSession J g → LiveSession J g
    → (old new : Carried) → Type 0
ServesOn {J} {g} w live live' old new =
    (honest : Bool) → (honest ≡ true → g.trusted ≡ true)
    → (s end : ℕ) (first : Point) (read written : List ℕ)
    → ∥ Serves honest w s end first read written live old ∥₁
    → ∥ Serves honest w s end first read written live' new ∥₁

-- the connection carried this further: these octets came, and this was said, of which the last
-- reply is one where the session leaves
abbrev pub CarriesOn : (old new : Carried) → (piece said : List ℕ) → (leaves : Bool) → Type 0
CarriesOn old new piece said leaves =
    (came replies : List ℕ) (parted : Option (List ℕ)) → Carries old came replies parted
    → Carries new (came ++ piece) (replies ++ said) (parted_after parted leaves said)

-- nothing came and nothing was said
abbrev pub CarriesSame : (old new : Carried) → Type 0
CarriesSame old new =
    (came replies : List ℕ) (parted : Option (List ℕ)) → Carries old came replies parted
    → Carries new came replies parted

-- What a connection that is over was: its session came from the greeting to a point at which it is
-- closed, the reader has read what came to it, the writer has written what it said, and the end has
-- handed over what it handed over.
pub record IsServedBy (honest : Bool) (register : Shelves) (w : Terms) (s end peer : ℕ)
    (before : Hands) (read written : List ℕ) (finish : Finish) (after : Hands)
    (read' written' : List ℕ) : Type 0 where
  pub at : Point
  pub course : Course honest register w s end (greeted peer before) at
  pub closed : IsClosed at.session
  pub carries : Carries (record {
    heard = read';
    written = written';
    waiting = [];
    finish = Some finish;
  }) (read ++ at.heard) (written ++ at.said) at.parted
  pub hands : at.hands ≡ after

-- the same over honest stores
abbrev pub IsServed : Shelves → Terms → (s end peer : ℕ) → Hands → (read written : List ℕ)
    → Finish → Hands → (read' written' : List ℕ) → Type 0
IsServed register w s end peer before read written finish after read' written' =
    IsServedBy true register w s end peer before read written finish after read' written'

-- the same where nothing is said of the stores: each reply is still one that the definitions have
-- for its command and for what was answered, with any text in place of a stored one
abbrev pub IsFormed : Shelves → Terms → (s end peer : ℕ) → Hands → (read written : List ℕ)
    → Finish → Hands → (read' written' : List ℕ) → Type 0
IsFormed register w s end peer before read written finish after read' written' =
    IsServedBy false register w s end peer before read written finish after read' written'

-- nothing has come to the session, and these octets are the greeting
pub record Begins (w : Terms) (peer : ℕ) (session : Session) (octets : List ℕ) : Type 0 where
  pub stands : NewStands w session peer
  pub greeting : octets ≡ reply_text Greeting
