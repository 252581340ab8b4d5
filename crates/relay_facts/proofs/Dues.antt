-- What is due in a Turn: the session goes on as it may, and an article that is taken is sound.
use Rattle.std.proofs.Common.{◌≡◌, ◌∙◌, ◌<◌, ℕ, true, false, List, [], ◌∷◌, length, Option, None}
use Rattle.std.proofs.Common.{Some}
use Rattle.std.proofs.Common.{Result, Ok, Err, refl, sym, ap, subst}
use Rattle.std.proofs.lemmas.Bool.{cond_both}
use Rattle.std.proofs.lemmas.Option.{none-some}
use Rattle.news_terms.specs.Blocks.{NextBlock, Whole, Oversize, Unfinished, next_block}
use Rattle.news_terms.specs.Command.{Command, AskCapabilities, AskHelp, AskDate, Quit, ModeStream}
use Rattle.news_terms.specs.Command.{ModeReader, Check, Ihave, TakeThis, Fetch, NeedsGroup}
use Rattle.news_terms.specs.Command.{TakeQueue, FetchToken, CommandFault, Syntax, command_of}
use Rattle.news_terms.specs.Command as commands
use Rattle.news_terms.specs.Lines.{NextLine, Cut, TooLong, Incomplete, next_line}
use Rattle.relay_model.specs.Asks.{Ask, Rests, GoesOn, Says, Leaves, Offers, Looks, Reads}
use Rattle.relay_model.specs.Asks.{TakesQueue, Refuses, Takes, Pushes, LooksInSlot, Releases, Ends}
use Rattle.relay_model.specs.Asks.{Due, due_as, offer_asked, is_full, later, queue_asked, feed_of}
use Rattle.relay_model.specs.Asks.{IsDueAtCommand, run_out, with_offer}
use Rattle.relay_model.specs.Asks.{TokenAsked, IsRead, IsNone, IsDue, IsDueIn, IsDueOfCommand}
use Rattle.relay_model.specs.Asks.{IsDueOfLine, IsDueWhereReady, IsDueOfBlock, IsDueWhereOwing}
use Rattle.relay_model.specs.Asks.{judged_asked, or_push, leaving_due, without_offer}
use Rattle.relay_model.specs.Claims.{Accepted}
use Rattle.relay_model.specs.Invariants.{IsSoundArticle, held, may_carry}
use Rattle.relay_model.specs.Judging.{Judges}
use Rattle.relay_model.specs.Run.{is_running}
use Rattle.relay_model.specs.State.{Session, Phase, Ready, AwaitsBlock, Holds, Waits, Fetches}
use Rattle.relay_model.specs.State.{Leaving}
use Rattle.relay_model.specs.State.{Ended, Transfer, TakesThis, Has, Job, in_phase, with_unread}
use Rattle.relay_model.specs.State.{OpenOffer, with_offers}
use Rattle.relay_model.specs.Terms.{Terms, Reason}
use Rattle.relay_facts.specs.Sound.{IsSound}
use Rattle.relay_facts.proofs.Judged.{judged_sound}
use Rattle.relay_facts.proofs.SessionOrderly.{Follows}

-- what holds of each session of a world in order that runs
pub record IsFit (w : Terms) (session : Session) : Type 0 where
  pub runs : is_running session.phase ≡ true
  pub peer : session.peer < length w.peers
  pub carries : may_carry session.phase ≡ false → session.hand ≡ None
  pub holds : (article : Accepted) → held session.phase ≡ Some article → IsSoundArticle w article

-- what is asked fits the session that asks
abbrev pub AskFits : Terms → Session → Ask → Type 0
AskFits w after Rests = Unit {0}
AskFits w after GoesOn = Unit {0}
AskFits w after (Says reply) = Unit {0}
AskFits w after (Leaves reply) = Unit {0}
AskFits w after (Offers transfer id) = after.hand ≡ None
AskFits w after (Looks part id) = after.hand ≡ None
AskFits w after (Reads asked token had) = after.hand ≡ None
AskFits w after (TakesQueue feed most) = Unit {0}
AskFits w after (Refuses transfer id reason) = Unit {0}
AskFits w after (Takes transfer id article) = (after.hand ≡ None) × IsSoundArticle w article
AskFits w after (Pushes job) = after.hand ≡ Some job
AskFits w after (LooksInSlot transfer id) = after.hand ≡ None
AskFits w after (Releases id) = Unit {0}
AskFits w after Ends = after.hand ≡ None

-- what is asked fits the session, which goes on as it may
pub record DueFits (w : Terms) (old : Session) (d : Due) : Type 0 where
  pub follows : Follows w old d.after
  pub asks : AskFits w d.after d.ask

-- what is due, named
due_is : (w : Terms) (old after : Session) (ask : Ask) → Follows w old after → AskFits w after ask
    → (d : Due) → d ≡ due_as ask after → DueFits w old d
due_is w old after ask follows asks d e =
    subst (DueFits w old) (sym e) (record { follows = follows; asks = asks })

-- a session with an empty hand goes on in a phase that holds nothing
pub in_idle_phase : (w : Terms) (old after : Session) (phase : Phase) → Follows w old after
    → after.hand ≡ None
    → held phase ≡ None → Follows w old (in_phase after phase)
in_idle_phase w old after phase follows none empty = record {
  runs = follows.runs;
  peer = follows.peer;
  hand = follows.hand;
  carries = λ e. none;
  holds = λ article has. absurd (none-some article (sym empty ∙ has));
}

-- other octets unread, other offers open
pub with_others : (w : Terms) (old after : Session) (unread : List ℕ) (offers : List OpenOffer)
    → Follows w old after
    → Follows w old (record after { unread = unread; offers = offers })
with_others w old after unread offers follows =
    record {
      runs = follows.runs;
      peer = follows.peer;
      hand = follows.hand;
      carries = follows.carries;
      holds = follows.holds;
    }

-- CHECK, IHAVE
offer_fits : (w : Terms) (old session : Session) → Follows w old session → session.hand ≡ None
    → (now : ℕ) (transfer : Transfer) (id : List ℕ)
    → DueFits w old (offer_asked session now transfer id)
offer_fits w old session f none now transfer id =
    cond_both (is_full session.offers id) (due_as (Says (later transfer id)) session)
    (due_as (Offers transfer id) (with_offers session (with_offer session.offers id now)))
    (DueFits w old)
    (λ e. record { follows = f; asks = tt })
    (λ e. record {
      follows = with_others w old session session.unread (with_offer session.offers id now) f;
      asks = none;
    })

-- XTAKE
queue_fits : (w : Terms) (session : Session) (most : ℕ) (feed : Option ℕ)
    → AskFits w session (queue_asked most feed)
queue_fits w session most None = tt
queue_fits w session most (Some feed) = tt

-- XFETCH
token_fits : (w : Terms) (session : Session) (word : List ℕ) (ask : Ask) → session.hand ≡ None
    → TokenAsked word ask → AskFits w session ask
token_fits w session word ask none (IsRead token is reads e) =
    subst (AskFits w session) (sym e) none
token_fits w session word ask none (IsNone none_is e) = subst (AskFits w session) (sym e) tt

-- a command
command_fits : (w : Terms) (old s : Session) → Follows w old s → s.hand ≡ None
    → (now : ℕ) (command : Command) (d : Due)
    → IsDueOfCommand w s now command d → DueFits w old d
command_fits w old s f none now (Check id) d e =
    subst (DueFits w old) (sym e) (offer_fits w old s f none now TakesThis id)
command_fits w old s f none now (Ihave id) d e =
    subst (DueFits w old) (sym e) (offer_fits w old s f none now Has id)
command_fits w old s f none now (TakeThis id) d e =
    due_is w old (in_phase s (AwaitsBlock TakesThis id)) GoesOn
    (in_idle_phase w old s (AwaitsBlock TakesThis id) f none refl) tt d e
command_fits w old s f none now (Fetch part id) d e = due_is w old s (Looks part id) f none d e
command_fits w old s f none now (FetchToken word) d e =
    due_is w old s e.0 f (token_fits w s word e.0 none e.1) d e.2
command_fits w old s f none now (TakeQueue most) d e =
    due_is w old s (queue_asked most (feed_of w s.peer)) f (queue_fits w s most (feed_of w s.peer))
    d e
command_fits w old s f none now AskDate d e = due_is w old s _ f tt d e.2
command_fits w old s f none now NeedsGroup d e = due_is w old s _ f tt d e
command_fits w old s f none now Quit d e = due_is w old s _ f tt d e
command_fits w old s f none now AskCapabilities d e = due_is w old s _ f tt d e
command_fits w old s f none now AskHelp d e = due_is w old s _ f tt d e
command_fits w old s f none now ModeStream d e = due_is w old s _ f tt d e
command_fits w old s f none now ModeReader d e = due_is w old s _ f tt d e

-- a line
line_fits : (w : Terms) (old s : Session) → Follows w old s → s.hand ≡ None → (now : ℕ)
    (line : Result Command CommandFault) (d : Due) → IsDueOfLine w s now line d → DueFits w old d
line_fits w old s f none now (Ok command) d e = command_fits w old s f none now command d e
line_fits w old s f none now (Err commands.Unknown) d e = due_is w old s _ f tt d e
line_fits w old s f none now (Err Syntax) d e = due_is w old s _ f tt d e

-- where a line is due
ready_fits : (w : Terms) (old : Session) → Follows w old old → old.hand ≡ None
    → (now : ℕ) (next : NextLine) (d : Due)
    → IsDueWhereReady w old now next d → DueFits w old d
ready_fits w old f none now (Cut line rest) d e =
    line_fits w old (with_unread old rest) (with_others w old old rest old.offers f) none now
    (command_of line) d e
ready_fits w old f none now TooLong d e = due_is w old old _ f tt d e
ready_fits w old f none now Incomplete d e = due_is w old old Rests f tt d e

-- a block, by the judgement of its article
judged_fits : (w : Terms) → IsSound w → (old s : Session) → Follows w old s → s.hand ≡ None
    → (transfer : Transfer)
    (id : List ℕ) (now : ℕ) (text : Option (List ℕ)) (peer : ℕ) → peer < length w.peers
    → (verdict : Result Accepted Reason) (d : Due)
    → Judges w peer id now text verdict → d ≡ judged_asked s transfer id verdict → DueFits w old d
judged_fits w sound old s f none transfer id now text peer inside (Ok article) d judges e =
    due_is w old s (Takes transfer id article) f
    (none, judged_sound w sound peer inside id now text article judges) d e
judged_fits w sound old s f none transfer id now text peer inside (Err reason) d judges e =
    due_is w old s (Refuses transfer id reason) f tt d e

-- a block
block_fits : (w : Terms) → IsSound w → (old s : Session) → Follows w old s → s.hand ≡ None
    → s.peer < length w.peers
    → (transfer : Transfer) (id : Option (List ℕ)) (now : ℕ) (text : Option (List ℕ)) (d : Due)
    → IsDueOfBlock w s now transfer id text d → DueFits w old d
block_fits w sound old s f none inside transfer None now text d e =
    due_is w old (in_phase s Ready) _ (in_idle_phase w old s Ready f none refl) tt d e
block_fits w sound old s f none inside transfer (Some id) now text d e =
    let after = with_offers (in_phase s Ready) (without_offer s.offers id) in
    judged_fits w sound old after
    (with_others w old (in_phase s Ready) s.unread (without_offer s.offers id)
    (in_idle_phase w old s Ready f none refl))
    none transfer id now text s.peer inside e.0 d e.1 e.2

-- where a block is due
owing_fits : (w : Terms) → IsSound w → (old : Session) → Follows w old old → old.hand ≡ None
    → old.peer < length w.peers
    → (transfer : Transfer) (id : Option (List ℕ)) (now : ℕ) (next : NextBlock) (d : Due)
    → IsDueWhereOwing w old now transfer id next d → DueFits w old d
owing_fits w sound old f none inside transfer id now (Whole text rest) d e =
    block_fits w sound old (with_unread old rest) (with_others w old old rest old.offers f) none
    inside transfer id now (Some text) d e
owing_fits w sound old f none inside transfer id now (Oversize rest) d e =
    block_fits w sound old (with_unread old rest) (with_others w old old rest old.offers f) none
    inside transfer id now None d e
owing_fits w sound old f none inside transfer id now Unfinished d e =
    due_is w old old Rests f tt d e

-- a job in hand, or the slot
waiting_fits : (w : Terms) (old : Session) (transfer : Transfer) (id : List ℕ) (hand : Option Job)
    → old.hand ≡ hand
    → AskFits w old (or_push hand (LooksInSlot transfer id))
waiting_fits w old transfer id None e = e
waiting_fits w old transfer id (Some job) e = e

-- where the session leaves
leaving_fits : (w : Terms) (old : Session) → Follows w old old → (hand : Option Job)
    → old.hand ≡ hand
    → (offers : List OpenOffer) (d : Due) → d ≡ leaving_due old hand offers → DueFits w old d
leaving_fits w old f (Some job) has offers d e = due_is w old old (Pushes job) f has d e
leaving_fits w old f None has [] d e = due_is w old old Ends f has d e
leaving_fits w old f None has (offer ∷ offers) d e =
    due_is w old (with_offers old offers) (Releases offer.id)
    (with_others w old old old.unread offers f) tt d e

-- where a command is due
command_due_fits : (w : Terms) (old : Session) → Follows w old old → old.hand ≡ None → (now : ℕ)
    (ended : Option (OpenOffer × List OpenOffer)) (d : Due) → IsDueAtCommand w old now ended d
    → DueFits w old d
command_due_fits w old f none now None d e =
    ready_fits w old f none now (next_line old.unread) d e
command_due_fits w old f none now (Some ended) d e =
    due_is w old (with_offers old ended.1) (Releases ended.0.id)
    (with_others w old old old.unread ended.1 f) tt d e

-- each phase
phase_fits : (w : Terms) → IsSound w → (old : Session) → IsFit w old → Follows w old old
    → (now : ℕ) (phase : Phase)
    → old.phase ≡ phase → (d : Due) → IsDueIn w old now phase d → DueFits w old d
phase_fits w sound old fit f now Ready is d e =
    command_due_fits w old f (fit.carries (ap may_carry is)) now (run_out w.offers now old.offers)
    d e
phase_fits w sound old fit f now (AwaitsBlock transfer id) is d e =
    owing_fits w sound old f (fit.carries (ap may_carry is)) fit.peer transfer id now
    (next_block w.max_article old.unread) d e
phase_fits w sound old fit f now (Holds id article) is d e =
    let none = fit.carries (ap may_carry is) in
    due_is w old (in_phase old Ready) (Takes TakesThis id article)
    (in_idle_phase w old old Ready f none refl)
    (none, fit.holds article (ap held is)) d e
phase_fits w sound old fit f now (Waits transfer id) is d e =
    due_is w old old (or_push old.hand (LooksInSlot transfer id)) f
    (waiting_fits w old transfer id old.hand refl) d e
phase_fits w sound old fit f now (Fetches asked token had) is d e =
    let none = fit.carries (ap may_carry is) in
    due_is w old (in_phase old Ready) (Reads asked token had)
    (in_idle_phase w old old Ready f none refl) none d e
phase_fits w sound old fit f now Leaving is d e = leaving_fits w old f old.hand refl old.offers d e
phase_fits w sound old fit f now Ended is d e = due_is w old old Rests f tt d e

-- what is due fits
pub due_fits : (w : Terms) → IsSound w → (old : Session) → IsFit w old → (now : ℕ) (d : Due)
    → IsDue w old now d
    → DueFits w old d
due_fits w sound old fit now d e =
    phase_fits w sound old fit
    (record {
      runs = fit.runs;
      peer = refl;
      hand = refl;
      carries = fit.carries;
      holds = fit.holds;
    })
    now old.phase refl d e
