-- What is due in a Turn: an article that is taken or held has the message-id that it was offered
-- under.
use Rattle.std.proofs.Common.{◌≡◌, ◌∙◌, ◌<◌, ℕ, List, [], ◌∷◌, length, Option, None, Some, Result}
use Rattle.std.proofs.Common.{Ok, Err, refl, sym, ap, subst, slice_get, unwrap_or}
use Rattle.std.proofs.lemmas.Bool.{cond_both}
use Rattle.std.proofs.lemmas.Option.{unwrap_or-slice_get}
use Rattle.std.specs.Prelude.{IsTrue}
use Rattle.news_terms.specs.Article.{Article, IsArticleText, MessageId, message_id, name_of}
use Rattle.news_terms.specs.Article.{trimmed}
use Rattle.news_terms.specs.Blocks.{NextBlock, Whole, Oversize, Unfinished, next_block}
use Rattle.news_terms.specs.Command.{Command, AskCapabilities, AskHelp, AskDate, Quit, ModeStream}
use Rattle.news_terms.specs.Command.{ModeReader, Check, Ihave, TakeThis, Fetch, NeedsGroup}
use Rattle.news_terms.specs.Command.{TakeQueue, FetchToken, CommandFault, Syntax, command_of}
use Rattle.news_terms.specs.Command as commands
use Rattle.news_terms.specs.Lines.{NextLine, Cut, TooLong, Incomplete, next_line}
use Rattle.news_terms.specs.Path.{is_agent, updated_article}
use Rattle.news_terms.proofs.ArticleReadings.{one_article}
use Rattle.news_terms.proofs.PathUpdates.{updated-contents}
use Rattle.news_terms.proofs.UpdatedArticles.{updated_is_article}
use Rattle.relay_model.specs.Asks.{Ask, Rests, GoesOn, Says, Leaves, Offers, Looks, Reads}
use Rattle.relay_model.specs.Asks.{TakesQueue, Refuses, Takes, Pushes, LooksInSlot, Releases, Ends}
use Rattle.relay_model.specs.Asks.{Due, due_as, offer_asked, is_full, later, queue_asked, feed_of}
use Rattle.relay_model.specs.Asks.{TokenAsked, IsDue, IsDueIn, IsDueOfCommand}
use Rattle.relay_model.specs.Asks.{IsDueOfLine, IsDueWhereReady, IsDueOfBlock, IsDueWhereOwing}
use Rattle.relay_model.specs.Asks.{judged_asked, or_push, leaving_due, without_offer, with_offer}
use Rattle.relay_model.specs.Asks.{IsDueAtCommand, run_out}
use Rattle.relay_model.specs.Asks as asks
use Rattle.relay_model.specs.Claims.{Accepted}
use Rattle.relay_model.specs.Judging.{Judges, IsOversize, IsNone, IsRead, identity_of, judged}
use Rattle.relay_model.specs.Judging.{stored_text}
use Rattle.relay_model.specs.State.{Session, Phase, Ready, AwaitsBlock, Holds, Waits, Fetches}
use Rattle.relay_model.specs.State.{Leaving, Ended, Transfer, TakesThis, Has, Job, in_phase}
use Rattle.relay_model.specs.State.{OpenOffer, with_unread, with_offers}
use Rattle.relay_model.specs.Terms.{Terms, Reason}
use Rattle.relay_facts.specs.Sound.{IsSound}
use Rattle.relay_laws.proofs.Reasons.{offered, is_updated}

-- the text is no article, or one of this message-id
abbrev pub IsOf : (id text : List ℕ) → Type 0
IsOf id text = (a : Article) → IsArticleText text a → message_id a.fields ≡ id

-- an article that was read and accepted has the id that it was offered under, and so has its update
read_own : (w : Terms) → IsSound w → (from : ℕ) → from < length w.peers → (id : List ℕ) (now : ℕ)
    (octets : List ℕ) (a : Article) → IsArticleText octets a → (accepted : Accepted)
    → judged w from id now a ≡ Ok accepted → IsOf id accepted.text
read_own w sound from inside id now octets a reads accepted e = λ b is.
    let same : b ≡ new =
    one_article (stored_text w from a) b new
    (subst (λ (text : List ℕ). IsArticleText text b)
    (is_updated w from now id a accepted e).0 is).laid_out
    updated.laid_out in
    ap (λ (one : Article). message_id one.fields) same
    ∙ ap (λ contents. trimmed (unwrap_or (slice_get contents 0) []))
    (updated-contents w.own (identity_of w from) (name_of MessageId) a.fields refl)
    ∙ offered w from now id a accepted e
  where
    new : Article
    new = updated_article w.own (identity_of w from) a

    updated : IsArticleText (stored_text w from a) new
    updated =
        updated_is_article w.own (identity_of w from) octets a sound.own
        (subst (λ one. IsTrue (is_agent one)) (sym (unwrap_or-slice_get w.peers from []))
        (sound.peers from [] inside)) reads

-- so has what is accepted
judged_own : (w : Terms) → IsSound w → (from : ℕ) → from < length w.peers → (id : List ℕ)
    (now : ℕ) (text : Option (List ℕ)) (accepted : Accepted)
    → Judges w from id now text (Ok accepted) → IsOf id accepted.text
judged_own w sound from inside id now text accepted judges = by (Ok accepted) refl judges
  where
    by : (verdict : Result Accepted Reason) → verdict ≡ Ok accepted
        → Judges w from id now text verdict → IsOf id accepted.text
    by verdict is (IsOversize large e) = absurd (cc (is, e))
    by verdict is (IsNone octets some none e) = absurd (cc (is, e))
    by verdict is (IsRead octets a some reads e) =
        read_own w sound from inside id now octets a reads accepted (sym e ∙ is)

-- what is taken is of its id
abbrev pub AskOwn : Ask → Type 0
AskOwn Rests = Unit {0}
AskOwn GoesOn = Unit {0}
AskOwn (Says reply) = Unit {0}
AskOwn (Leaves reply) = Unit {0}
AskOwn (Offers transfer id) = Unit {0}
AskOwn (Looks part id) = Unit {0}
AskOwn (Reads asked token had) = Unit {0}
AskOwn (TakesQueue feed most) = Unit {0}
AskOwn (Refuses transfer id reason) = Unit {0}
AskOwn (Takes transfer id article) = IsOf id article.text
AskOwn (Pushes job) = Unit {0}
AskOwn (LooksInSlot transfer id) = Unit {0}
AskOwn (Releases id) = Unit {0}
AskOwn Ends = Unit {0}

-- what a session holds is of its id
abbrev pub PhaseOwn : Phase → Type 0
PhaseOwn Ready = Unit {0}
PhaseOwn (AwaitsBlock transfer id) = Unit {0}
PhaseOwn (Holds id article) = IsOf id article.text
PhaseOwn (Waits transfer id) = Unit {0}
PhaseOwn (Fetches asked token had) = Unit {0}
PhaseOwn Leaving = Unit {0}
PhaseOwn Ended = Unit {0}

-- so is what is due
pub record DueOwn (d : Due) : Type 0 where
  pub asks : AskOwn d.ask
  pub goes_on : PhaseOwn d.after.phase

-- what is due, named
due_is : (ask : Ask) (after : Session) → AskOwn ask → PhaseOwn after.phase → (d : Due)
    → d ≡ due_as ask after → DueOwn d
due_is ask after asks goes_on d e =
    subst DueOwn (sym e) (record { asks = asks; goes_on = goes_on })

-- CHECK, IHAVE
offer_own : (one : Session) → PhaseOwn one.phase → (now : ℕ) (transfer : Transfer) (id : List ℕ)
    → DueOwn (offer_asked one now transfer id)
offer_own one own now transfer id =
    cond_both (is_full one.offers id) (due_as (Says (later transfer id)) one)
    (due_as (Offers transfer id) (with_offers one (with_offer one.offers id now))) DueOwn
    (λ e. record { asks = tt; goes_on = own }) (λ e. record { asks = tt; goes_on = own })

-- XTAKE
queue_own : (most : ℕ) (feed : Option ℕ) → AskOwn (queue_asked most feed)
queue_own most None = tt
queue_own most (Some feed) = tt

-- XFETCH
token_own : (word : List ℕ) (ask : Ask) → TokenAsked word ask → AskOwn ask
token_own word ask (asks.IsRead token is reads e) = subst AskOwn (sym e) tt
token_own word ask (asks.IsNone none e) = subst AskOwn (sym e) tt

-- a command, where nothing is held
command_own : (w : Terms) (one : Session) → PhaseOwn one.phase → (now : ℕ) (command : Command)
    (d : Due) → IsDueOfCommand w one now command d → DueOwn d
command_own w one own now (Check id) d e =
    subst DueOwn (sym e) (offer_own one own now TakesThis id)
command_own w one own now (Ihave id) d e =
    subst DueOwn (sym e) (offer_own one own now Has id)
command_own w one own now (TakeThis id) d e =
    due_is GoesOn (in_phase one (AwaitsBlock TakesThis id)) tt tt d e
command_own w one own now (Fetch part id) d e = due_is (Looks part id) one tt own d e
command_own w one own now (FetchToken word) d e =
    due_is e.0 one (token_own word e.0 e.1) own d e.2
command_own w one own now (TakeQueue most) d e =
    due_is (queue_asked most (feed_of w one.peer)) one (queue_own most (feed_of w one.peer)) own d
    e
command_own w one own now AskDate d e = due_is _ one tt own d e.2
command_own w one own now NeedsGroup d e = due_is _ one tt own d e
command_own w one own now Quit d e = due_is _ one tt own d e
command_own w one own now AskCapabilities d e = due_is _ one tt own d e
command_own w one own now AskHelp d e = due_is _ one tt own d e
command_own w one own now ModeStream d e = due_is _ one tt own d e
command_own w one own now ModeReader d e = due_is _ one tt own d e

-- a line
line_own : (w : Terms) (one : Session) → PhaseOwn one.phase → (now : ℕ)
    (line : Result Command CommandFault) (d : Due) → IsDueOfLine w one now line d → DueOwn d
line_own w one own now (Ok command) d e = command_own w one own now command d e
line_own w one own now (Err commands.Unknown) d e = due_is _ one tt own d e
line_own w one own now (Err Syntax) d e = due_is _ one tt own d e

-- where a line is due
ready_own : (w : Terms) (one : Session) → PhaseOwn one.phase → (now : ℕ) (next : NextLine)
    (d : Due) → IsDueWhereReady w one now next d → DueOwn d
ready_own w one own now (Cut line rest) d e =
    line_own w (with_unread one rest) own now (command_of line) d e
ready_own w one own now TooLong d e = due_is _ one tt own d e
ready_own w one own now Incomplete d e = due_is Rests one tt own d e

-- an article that was judged
article_own : (w : Terms) → IsSound w → (one : Session) → PhaseOwn one.phase
    → (transfer : Transfer) (id : List ℕ) (now : ℕ) (text : Option (List ℕ)) (peer : ℕ)
    → peer < length w.peers → (verdict : Result Accepted Reason) (d : Due)
    → Judges w peer id now text verdict → d ≡ judged_asked one transfer id verdict → DueOwn d
article_own w sound one own transfer id now text peer inside (Ok article) d judges e =
    due_is (Takes transfer id article) one
    (judged_own w sound peer inside id now text article judges) own d e
article_own w sound one own transfer id now text peer inside (Err reason) d judges e =
    due_is (Refuses transfer id reason) one tt own d e

-- a block
block_own : (w : Terms) → IsSound w → (one : Session) → one.peer < length w.peers
    → (transfer : Transfer) (id : Option (List ℕ)) (now : ℕ) (text : Option (List ℕ)) (d : Due)
    → IsDueOfBlock w one now transfer id text d → DueOwn d
block_own w sound one inside transfer None now text d e =
    due_is _ (in_phase one Ready) tt tt d e
block_own w sound one inside transfer (Some id) now text d e =
    article_own w sound (with_offers (in_phase one Ready) (without_offer one.offers id)) tt
    transfer id now text one.peer inside e.0 d e.1 e.2

-- where a block is due
owing_own : (w : Terms) → IsSound w → (one : Session) → PhaseOwn one.phase
    → one.peer < length w.peers → (transfer : Transfer) (id : Option (List ℕ)) (now : ℕ)
    (next : NextBlock) (d : Due) → IsDueWhereOwing w one now transfer id next d → DueOwn d
owing_own w sound one own inside transfer id now (Whole text rest) d e =
    block_own w sound (with_unread one rest) inside transfer id now (Some text) d e
owing_own w sound one own inside transfer id now (Oversize rest) d e =
    block_own w sound (with_unread one rest) inside transfer id now None d e
owing_own w sound one own inside transfer id now Unfinished d e = due_is Rests one tt own d e

-- where the session waits
waiting_own : (transfer : Transfer) (id : List ℕ) (hand : Option Job)
    → AskOwn (or_push hand (LooksInSlot transfer id))
waiting_own transfer id None = tt
waiting_own transfer id (Some job) = tt

-- where it leaves
leaving_own : (one : Session) → PhaseOwn one.phase → (hand : Option Job) (offers : List OpenOffer)
    (d : Due) → d ≡ leaving_due one hand offers → DueOwn d
leaving_own one own (Some job) offers d e = due_is (Pushes job) one tt own d e
leaving_own one own None [] d e = due_is Ends one tt own d e
leaving_own one own None (offer ∷ offers) d e =
    due_is (Releases offer.id) (with_offers one offers) tt own d e

-- where a command is due
at_command_own : (w : Terms) (one : Session) → PhaseOwn one.phase → (now : ℕ)
    (ended : Option (OpenOffer × List OpenOffer)) (d : Due) → IsDueAtCommand w one now ended d
    → DueOwn d
at_command_own w one own now None d e = ready_own w one own now (next_line one.unread) d e
at_command_own w one own now (Some ended) d e =
    due_is (Releases ended.0.id) (with_offers one ended.1) tt own d e

-- by the phase
phase_own : (w : Terms) → IsSound w → (one : Session) → PhaseOwn one.phase
    → one.peer < length w.peers → (now : ℕ) (phase : Phase) → PhaseOwn phase → (d : Due)
    → IsDueIn w one now phase d → DueOwn d
phase_own w sound one own inside now Ready holds d e =
    at_command_own w one own now (run_out w.offers now one.offers) d e
phase_own w sound one own inside now (AwaitsBlock transfer id) holds d e =
    owing_own w sound one own inside transfer id now (next_block w.max_article one.unread) d e
phase_own w sound one own inside now (Holds id article) holds d e =
    due_is (Takes TakesThis id article) (in_phase one Ready) holds tt d e
phase_own w sound one own inside now (Waits transfer id) holds d e =
    due_is (or_push one.hand (LooksInSlot transfer id)) one (waiting_own transfer id one.hand) own
    d e
phase_own w sound one own inside now (Fetches asked token had) holds d e =
    due_is (Reads asked token had) (in_phase one Ready) tt tt d e
phase_own w sound one own inside now Leaving holds d e =
    leaving_own one own one.hand one.offers d e
phase_own w sound one own inside now Ended holds d e = due_is Rests one tt own d e

-- what is due
pub due_own : (w : Terms) → IsSound w → (one : Session) → PhaseOwn one.phase
    → one.peer < length w.peers → (now : ℕ) (d : Due) → IsDue w one now d → DueOwn d
due_own w sound one own inside now d e = phase_own w sound one own inside now one.phase own d e
