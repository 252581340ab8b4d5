-- A session that reads a block is ready once what it read counts as read.
use Rattle.std.proofs.Common.{◌≡◌, ℕ, Bool, true, false, List, [], ◌∷◌, Option, None, Some}
use Rattle.std.proofs.Common.{refl, sym, ap, ◌∙◌}
use Rattle.std.specs.Prelude.{Result, Ok, Err, if◌then◌else◌}
use Rattle.news_terms.specs.Blocks as blocks
use Rattle.news_terms.specs.Blocks.{NextBlock, next_block}
use Rattle.news_terms.specs.Command as commands
use Rattle.news_terms.specs.Command.{Command, CommandFault, command_of}
use Rattle.news_terms.specs.Lines as lines
use Rattle.news_terms.specs.Lines.{NextLine, next_line}
use Rattle.news_terms.specs.Token.{Token}
use Rattle.relay_model.specs.Asks as asks
use Rattle.relay_model.specs.Asks.{Ask, Due, IsDue, IsDueAtCommand, IsDueIn, IsDueOfBlock}
use Rattle.relay_model.specs.Asks.{IsDueOfCommand, IsDueOfLine, IsDueWhereOwing, IsDueWhereReady}
use Rattle.relay_model.specs.Asks.{due_as, is_full, judged_asked, later, leaving_due, offer_asked}
use Rattle.relay_model.specs.Asks.{or_push, run_out, with_offer}
use Rattle.relay_model.specs.Claims.{Accepted}
use Rattle.relay_model.specs.State as model
use Rattle.relay_model.specs.State.{OpenOffer, Session, with_offers, with_unread}
use Rattle.relay_model.specs.Terms.{Reason, Terms}

-- a block is read
abbrev pub AsksRead : Ask → Type 0
AsksRead ask =
    (asked : model.Asked) × (token : Token) × (had : ℕ) × (ask ≡ asks.Reads asked token had)

-- where this is due, and is no read
other_ask : {A : Type 0} (d : Due) (ask : Ask) (after : Session) → d ≡ due_as ask after
    → AsksRead d.ask → (AsksRead ask → A) → A
other_ask d ask after is reads other =
    other (reads.0, reads.1, reads.2, ap (λ (one : Due). one.ask) (sym is) ∙ reads.3)

-- where it is due with a session that is ready
is_ready : (d : Due) (ask : Ask) (after : Session) → after.phase ≡ model.Ready
    → d ≡ due_as ask after → d.after.phase ≡ model.Ready
is_ready d ask after ready is = ap (λ (one : Due). one.after.phase) is ∙ ready

-- where an offer is due
offer_ready : (d : Due) (s : Session) (now : ℕ) (transfer : model.Transfer) (id : List ℕ)
    → s.phase ≡ model.Ready → d ≡ offer_asked s now transfer id → d.after.phase ≡ model.Ready
offer_ready d s now transfer id ready is =
    ap (λ (one : Due). one.after.phase) is ∙ by_room (is_full s.offers id)
  where
    by_room : (full : Bool)
        → (λ (one : Due). one.after.phase)
        (if full then due_as (asks.Says (later transfer id)) s
        else due_as (asks.Offers transfer id) (with_offers s (with_offer s.offers id now)))
        ≡ model.Ready
    by_room true = ready
    by_room false = ready

of_command : (w : Terms) (s : Session) (now : ℕ) (d : Due) → s.phase ≡ model.Ready
    → (command : Command) → IsDueOfCommand w s now command d → AsksRead d.ask
    → d.after.phase ≡ model.Ready
of_command w s now d ready (commands.Check id) is reads =
    offer_ready d s now model.TakesThis id ready is
of_command w s now d ready (commands.Ihave id) is reads = offer_ready d s now model.Has id ready is
of_command w s now d ready (commands.TakeThis id) is reads =
    other_ask d asks.GoesOn _ is reads (λ one. let e = one.3 in cc)
of_command w s now d ready (commands.Fetch part id) is reads = is_ready d _ s ready is
of_command w s now d ready (commands.FetchToken word) is reads = is_ready d is.0 s ready is.2
of_command w s now d ready (commands.TakeQueue most) is reads = is_ready d _ s ready is
of_command w s now d ready commands.AskDate is reads = is_ready d _ s ready is.2
of_command w s now d ready commands.NeedsGroup is reads = is_ready d _ s ready is
of_command w s now d ready commands.Quit is reads = is_ready d _ s ready is
of_command w s now d ready commands.AskCapabilities is reads = is_ready d _ s ready is
of_command w s now d ready commands.AskHelp is reads = is_ready d _ s ready is
of_command w s now d ready commands.ModeStream is reads = is_ready d _ s ready is
of_command w s now d ready commands.ModeReader is reads = is_ready d _ s ready is

of_line : (w : Terms) (s : Session) (now : ℕ) (d : Due) → s.phase ≡ model.Ready
    → (command : Result Command CommandFault) → IsDueOfLine w s now command d → AsksRead d.ask
    → d.after.phase ≡ model.Ready
of_line w s now d ready (Ok command) is reads = of_command w s now d ready command is reads
of_line w s now d ready (Err commands.Unknown) is reads = is_ready d _ s ready is
of_line w s now d ready (Err commands.Syntax) is reads = is_ready d _ s ready is

where_ready : (w : Terms) (s : Session) (now : ℕ) (d : Due) → s.phase ≡ model.Ready
    → (line : NextLine) → IsDueWhereReady w s now line d → AsksRead d.ask
    → d.after.phase ≡ model.Ready
where_ready w s now d ready (lines.Cut line rest) is reads =
    of_line w (with_unread s rest) now d ready (command_of line) is reads
where_ready w s now d ready lines.TooLong is reads = is_ready d _ s ready is
where_ready w s now d ready lines.Incomplete is reads = is_ready d _ s ready is

at_command : (w : Terms) (s : Session) (now : ℕ) (d : Due) → s.phase ≡ model.Ready
    → (ended : Option (OpenOffer × List OpenOffer)) → IsDueAtCommand w s now ended d
    → AsksRead d.ask → d.after.phase ≡ model.Ready
at_command w s now d ready None is reads =
    where_ready w s now d ready (next_line s.unread) is reads
at_command w s now d ready (Some ended) is reads =
    is_ready d _ (with_offers s ended.1) ready is

judged_ready : (d : Due) (s : Session) (transfer : model.Transfer) (id : List ℕ)
    (verdict : Result Accepted Reason) → s.phase ≡ model.Ready
    → d ≡ judged_asked s transfer id verdict → d.after.phase ≡ model.Ready
judged_ready d s transfer id (Ok article) ready is = is_ready d _ s ready is
judged_ready d s transfer id (Err reason) ready is = is_ready d _ s ready is

of_block : (w : Terms) (s : Session) (now : ℕ) (d : Due) (transfer : model.Transfer)
    (id text : Option (List ℕ)) → IsDueOfBlock w s now transfer id text d
    → d.after.phase ≡ model.Ready
of_block w s now d transfer None text is = is_ready d _ _ refl is
of_block w s now d transfer (Some id) text is = judged_ready d _ transfer id is.0 refl is.2

where_owing : (w : Terms) (s : Session) (now : ℕ) (d : Due) (transfer : model.Transfer)
    (id : Option (List ℕ)) (block : NextBlock) → IsDueWhereOwing w s now transfer id block d
    → AsksRead d.ask → d.after.phase ≡ model.Ready
where_owing w s now d transfer id (blocks.Whole text rest) is reads =
    of_block w (with_unread s rest) now d transfer id (Some text) is
where_owing w s now d transfer id (blocks.Oversize rest) is reads =
    of_block w (with_unread s rest) now d transfer id None is
where_owing w s now d transfer id blocks.Unfinished is reads =
    other_ask d asks.Rests s is reads (λ one. let e = one.3 in cc)

no_push : {A : Type 0} (hand : Option model.Job) (transfer : model.Transfer) (id : List ℕ)
    → AsksRead (or_push hand (asks.LooksInSlot transfer id)) → A
no_push None transfer id one = let e = one.3 in absurd (cc)
no_push (Some job) transfer id one = let e = one.3 in absurd (cc)

no_leaving : {A : Type 0} (s : Session) (hand : Option model.Job) (offers : List OpenOffer)
    → AsksRead (leaving_due s hand offers).ask → A
no_leaving s (Some job) offers one = let e = one.3 in absurd (cc)
no_leaving s None [] one = let e = one.3 in absurd (cc)
no_leaving s None (id ∷ offers) one = let e = one.3 in absurd (cc)

in_this : (w : Terms) (s : Session) (now : ℕ) (d : Due) (phase : model.Phase)
    → s.phase ≡ phase → IsDueIn w s now phase d → AsksRead d.ask → d.after.phase ≡ model.Ready
in_this w s now d model.Ready at is reads =
    at_command w s now d at (run_out w.offers now s.offers) is reads
in_this w s now d (model.AwaitsBlock transfer id) at is reads =
    where_owing w s now d transfer id (next_block w.max_article s.unread) is reads
in_this w s now d (model.Holds id article) at is reads = is_ready d _ _ refl is
in_this w s now d (model.Waits transfer id) at is reads =
    other_ask d (or_push s.hand (asks.LooksInSlot transfer id)) s is reads
    (no_push s.hand transfer id)
in_this w s now d (model.Fetches asked token had) at is reads = is_ready d _ _ refl is
in_this w s now d model.Leaving at is reads =
    no_leaving s s.hand s.offers
    (reads.0, reads.1, reads.2, ap (λ (one : Due). one.ask) (sym is) ∙ reads.3)
in_this w s now d model.Ended at is reads =
    other_ask d asks.Rests s is reads (λ one. let e = one.3 in cc)

-- a session that reads a block is ready then
pub after_read : (w : Terms) (s : Session) (now : ℕ) (d : Due) → IsDue w s now d
    → (asked : model.Asked) (token : Token) (had : ℕ) → d.ask ≡ asks.Reads asked token had
    → d.after.phase ≡ model.Ready
after_read w s now d due asked token had is =
    in_this w s now d s.phase refl due (asked, token, had, is)
