use Rattle.std.proofs.Common.{◌≡◌, ◌∙◌, Bool, None, Ok, Option, Result, Some, ap, sym, subst, true}
use Rattle.std.proofs.Common.{false}
use Rattle.std.proofs.lemmas.Bool.{false≢true}
use Rattle.article_verdict.specs.Config.{terms_of}
use Rattle.live_jobs.specs.Seats.{IsSeatOf, end_of}
use Rattle.live_jobs.specs.declared.session.SessionSeat.{SessionSeat}
use Rattle.live_session.proofs.Differs.{broken-held, broken-spent}
use Rattle.live_session.proofs.LiveSessions.{unbegun_as}
use Rattle.live_session.proofs.serve.serve_session.Goals as goal
use Rattle.live_session.specs.Carried.{Begins}
use Rattle.live_session.specs.Going.{hands_at}
use Rattle.live_session.specs.declared.serve.Opened.{Opened}
use Rattle.std.specs.Prelude.{IfSome}

-- what begins with nothing doesn't begin
unopened_opened : {X E : Type 0} (x : X) (begun : Result (Option X) E) → begun ≡ Ok None
    → begun ≡ Ok (Some x) → ⊥
unopened_opened x begun none some = cc

-- what it begins with is a session's
pub served-requires-clause-begins : goal.served-requires-clause-begins
served-requires-clause-begins g c =
    subst (λ (one : Option Opened). IfSome one (λ opened. Begins
    (terms_of c.args.context.now.config.now) c.args.connection.peer opened.session
    opened.greeting.items)) c.in-Ok-Some.field-0-is c.in-Ok-Some.ensures.begins

pub returns : goal.returns
returns g c = record {
  seat = c.served.ensures.seat;
  end = c.served.ensures.end;
  served = λ trusted. c.served.ensures.served true (λ honest. trusted);
  formed = c.served.ensures.served false (λ honest. absurd (false≢true honest));
  many = λ lots. absurd (unopened_opened _ c.begin.result (c.begin.ensures.many lots)
      (c.in-Ok-Some.is ∙ ap Ok c.in-Ok-Some.field-0-is));
  spent = c.served.ensures.spent;
  held = c.served.ensures.held;
}

pub returns-in_default : goal.returns-in_default
returns-in_default g c =
    let P : SessionSeat → Type 0 = λ s. IsSeatOf c.args.context.now.channels.now s in
    let left = c.unserved.result in
    let broken = c.unserved.ensures in
    let unbegun = λ (honest : Bool).
    unbegun_as honest g.J.StorePremises.register
    (terms_of c.args.context.now.config.now) c.args.connection.number
    (end_of c.args.seat) c.args.connection.peer (hands_at c.args.seat c.args.kept.items)
    (g.H.Hears.heard c.args.connection.reader) (g.W.Says.said c.args.connection.writer)
    left.finish (hands_at left.seat left.kept.items)
    (g.H.Hears.heard left.reader) (g.W.Says.said left.writer)
    broken.finish broken.hands broken.heard broken.said in
    record {
      seat = subst P (sym broken.seat) c.requires.seat;
      end = ap end_of broken.seat;
      served = λ trusted. ∣ unbegun true ∣₁;
      formed = ∣ unbegun false ∣₁;
      many = λ lots. (broken.finish, broken.heard, broken.said);
      spent = λ is. absurd (broken-spent (sym broken.finish ∙ is));
      held = λ is. absurd (broken-held (sym broken.finish ∙ is));
    }
