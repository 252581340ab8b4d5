use Rattle.std.proofs.Common.{refl, sym, subst, Ok}
use Rattle.news_terms.specs.Command as commands
use Rattle.news_terms.specs.Reply as replies
use Rattle.nntp_text.specs.Command.{command_view}
use Rattle.article_verdict.specs.Config.{terms_of}
use Rattle.peer_session.specs.Asking.{IsAskedBy}
use Rattle.peer_session.proofs.PlanCommon.{if_ok}
use Rattle.peer_session.proofs.PlanLines.{check_asked_so, fetch_asked, ihave_asked_so, left_asked}
use Rattle.peer_session.proofs.PlanLines.{look_asked_so, said_asked}
use Rattle.peer_session.proofs.session.Session.asked.Goals as goal

pub returns-in-Fetch : goal.returns-in-Fetch
returns-in-Fetch c =
    if_ok _ _ c.look_asked.result (λ one looking.
    subst (λ command. IsAskedBy (terms_of c.args.config.now) c.args.now c.args.self.now
    (Ok (command_view command)) one) (sym c.in-Fetch.is)
    (look_asked_so (terms_of c.args.config.now) c.args.now c.args.self.now c.in-Fetch.part
    c.in-Fetch.id one looking)) c.look_asked.ensures

pub returns-in-FetchToken : goal.returns-in-FetchToken
returns-in-FetchToken c =
    if_ok _ _ c.token_asked.result (λ one fetching.
    subst (λ command. IsAskedBy (terms_of c.args.config.now) c.args.now c.args.self.now
    (Ok (command_view command)) one) (sym c.in-FetchToken.is)
    (fetch_asked (terms_of c.args.config.now) c.args.now c.args.self.now c.in-FetchToken.word.now
    one fetching)) c.token_asked.ensures

pub returns-in-NeedsGroup : goal.returns-in-NeedsGroup
returns-in-NeedsGroup c =
    if_ok _ _ c.said.result (λ one says.
    subst (λ command. IsAskedBy (terms_of c.args.config.now) c.args.now c.args.self.now
    (Ok (command_view command)) one) (sym c.in-NeedsGroup.is)
    (said_asked (terms_of c.args.config.now) c.args.now c.args.self.now
    (Ok commands.NeedsGroup) replies.NoGroup one (λ m. refl) says)) c.said.ensures

pub returns-in-Quit : goal.returns-in-Quit
returns-in-Quit c =
    if_ok _ _ c.left.result (λ one says.
    subst (λ command. IsAskedBy (terms_of c.args.config.now) c.args.now c.args.self.now
    (Ok (command_view command)) one) (sym c.in-Quit.is)
    (left_asked (terms_of c.args.config.now) c.args.now c.args.self.now
    (Ok commands.Quit) replies.Bye one (λ m. refl) says)) c.left.ensures

pub returns-in-AskDate : goal.returns-in-AskDate
returns-in-AskDate c =
    if_ok _ _ c.said-in-AskDate.result (λ one says.
    subst (λ command. IsAskedBy (terms_of c.args.config.now) c.args.now c.args.self.now
    (Ok (command_view command)) one) (sym c.in-AskDate.is)
    (said_asked (terms_of c.args.config.now) c.args.now c.args.self.now
    (Ok commands.AskDate) (replies.DateIs c.stamp.result) one
    (λ m. (c.stamp.result, c.stamp.ensures, refl)) says)) c.said-in-AskDate.ensures

pub returns-in-AskCapabilities : goal.returns-in-AskCapabilities
returns-in-AskCapabilities c =
    if_ok _ _ c.said-in-AskCapabilities.result (λ one says.
    subst (λ command. IsAskedBy (terms_of c.args.config.now) c.args.now c.args.self.now
    (Ok (command_view command)) one) (sym c.in-AskCapabilities.is)
    (said_asked (terms_of c.args.config.now) c.args.now c.args.self.now
    (Ok commands.AskCapabilities) replies.CapabilityList one (λ m. refl) says))
    c.said-in-AskCapabilities.ensures

pub returns-in-AskHelp : goal.returns-in-AskHelp
returns-in-AskHelp c =
    if_ok _ _ c.said-in-AskHelp.result (λ one says.
    subst (λ command. IsAskedBy (terms_of c.args.config.now) c.args.now c.args.self.now
    (Ok (command_view command)) one) (sym c.in-AskHelp.is)
    (said_asked (terms_of c.args.config.now) c.args.now c.args.self.now
    (Ok commands.AskHelp) replies.HelpText one (λ m. refl) says)) c.said-in-AskHelp.ensures

pub returns-in-ModeStream : goal.returns-in-ModeStream
returns-in-ModeStream c =
    if_ok _ _ c.said-in-ModeStream.result (λ one says.
    subst (λ command. IsAskedBy (terms_of c.args.config.now) c.args.now c.args.self.now
    (Ok (command_view command)) one) (sym c.in-ModeStream.is)
    (said_asked (terms_of c.args.config.now) c.args.now c.args.self.now
    (Ok commands.ModeStream) replies.StreamingPermitted one (λ m. refl) says))
    c.said-in-ModeStream.ensures

pub returns-in-ModeReader : goal.returns-in-ModeReader
returns-in-ModeReader c =
    if_ok _ _ c.said-in-ModeReader.result (λ one says.
    subst (λ command. IsAskedBy (terms_of c.args.config.now) c.args.now c.args.self.now
    (Ok (command_view command)) one) (sym c.in-ModeReader.is)
    (said_asked (terms_of c.args.config.now) c.args.now c.args.self.now
    (Ok commands.ModeReader) replies.PostingProhibited one (λ m. refl) says))
    c.said-in-ModeReader.ensures

pub returns-in-Check : goal.returns-in-Check
returns-in-Check c =
    if_ok _ _ c.check_asked.result (λ one offering.
    subst (λ command. IsAskedBy (terms_of c.args.config.now) c.args.now c.args.self.now
    (Ok (command_view command)) one) (sym c.in-Check.is)
    (check_asked_so (terms_of c.args.config.now) c.args.now c.args.self.now c.in-Check.id one
    offering)) c.check_asked.ensures

pub returns-in-Ihave : goal.returns-in-Ihave
returns-in-Ihave c =
    if_ok _ _ c.ihave_asked.result (λ one offering.
    subst (λ command. IsAskedBy (terms_of c.args.config.now) c.args.now c.args.self.now
    (Ok (command_view command)) one) (sym c.in-Ihave.is)
    (ihave_asked_so (terms_of c.args.config.now) c.args.now c.args.self.now c.in-Ihave.id one
    offering)) c.ihave_asked.ensures

pub returns-in-TakeQueue : goal.returns-in-TakeQueue
returns-in-TakeQueue c =
    if_ok _ _ c.queue_asked.result (λ one asked.
    subst (λ command. IsAskedBy (terms_of c.args.config.now) c.args.now c.args.self.now
    (Ok (command_view command)) one) (sym c.in-TakeQueue.is)
    (asked c.args.now c.args.self.now refl)) c.queue_asked.ensures
