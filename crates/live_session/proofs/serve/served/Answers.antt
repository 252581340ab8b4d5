use Rattle.std.proofs.Common.{◌≡◌, ◌∙◌, Some, ap, sym}
use Rattle.article_verdict.specs.Config.{terms_of}
use Rattle.live_session.proofs.Carrying.{end_of_some}
use Rattle.live_session.proofs.LiveSessions.{whole}
use Rattle.live_session.proofs.serve.served.Goals as goal
use Rattle.live_session.specs.Carried.{carried}
use Rattle.live_session.specs.declared.live.LiveSession.{LiveSession}
use Rattle.live_session.specs.declared.wire.Finish.TheVariants as finishes

pub returns : goal.returns
returns g c =
    let opened = c.args.opened in
    let live : LiveSession g.row.J.Denot g.J.StorePremises = record {
      number = c.args.connection.number;
      session = opened.session;
      reads = c.new.result;
      seat = c.args.seat;
      kept = c.args.kept;
    } in
    let through = c.serve_through in
    let wire = through.new.talk.wire in
    let over = carried (g.H.Hears.heard wire.reader) (g.W.Says.said wire.writer) wire.outbox
    wire.finish in
    let ended : wire.finish ≡ Some c.unwrap_or.result =
    end_of_some wire.finish finishes.Broken through.ensures.ended
    ∙ ap Some (sym c.unwrap_or.ensures) in
    record {
      seat = through.ensures.seat;
      end = through.ensures.end;
      served = λ honest trust.
          whole (terms_of c.args.context.now.config.now) honest trust live through.new.talk.live
          c.args.connection.peer (g.H.Hears.heard c.args.connection.reader)
          (g.W.Says.said c.args.connection.writer) opened.greeting.items over over
          c.unwrap_or.result c.requires.begins through.ensures.served
          (λ came replies parted carries. carries) ended
          through.ensures.waiting through.ensures.closed;
      spent = λ is. c.turns.ensures ∙ through.ensures.spent (ended ∙ ap Some is);
      held = λ is. through.ensures.held (ended ∙ ap Some is);
    }
