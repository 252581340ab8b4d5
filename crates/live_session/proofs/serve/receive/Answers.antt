use Rattle.std.proofs.Common.{◌∙◌, ◌++◌, [], Some, Ok, Err, ap, inl, inr, is_some}
use Rattle.std.proofs.Common.{refl, sym, take, true≢false}
use Rattle.std.proofs.lemmas.List.{append-nil, length-take-le}
use Rattle.live_session.proofs.Carrying.{breaks, lasts_same, lost, piece_came, same_heard}
use Rattle.live_session.proofs.LiveSessions.{fed, served_still, still, then_same}
use Rattle.live_session.proofs.serve.receive.Goals as goal
use Rattle.live_session.specs.Carried.{carried}
use Rattle.live_session.specs.declared.wire.Finish.TheVariants as finishes
use Rattle.cyc_buffer.proofs.StopLemmas.{none_of}

pub returns-in-Ok-eq0 : goal.returns-in-Ok-eq0
returns-in-Ok-eq0 g c =
    let live = c.args.talk.now.live in
    let wire = c.args.talk.now.wire in
    let old = carried (g.H.Hears.heard wire.reader) (g.W.Says.said wire.writer) wire.outbox
    wire.finish in
    let heard = g.H.Hears.heard c.hear.new.self in
    record {
      seat = refl;
      served = λ w.
          then_same w live live old old
          (record old { heard = heard; finish = Some finishes.Broken })
          (λ honest trust s end first read written one. one)
          (lost old heard (take c.in-Ok-eq0.field-0 c.hear.new.room.items) c.in-Ok-eq0.ensures.ok.1
          (none_of wire.finish (sym c.is_some.ensures ∙ c.if-is_some.false)));
      ends = breaks wire.finish;
      turns = refl;
      waiting = refl;
      broken = λ is. inr (λ w m gathered stands. stands);
      read = λ none reading. ∣ record {
        answer = Ok c.in-Ok-eq0.field-0;
        came = (
          take c.in-Ok-eq0.field-0 c.hear.new.room.items,
          length-take-le
              c.in-Ok-eq0.field-0 c.hear.new.room.items c.in-Ok-eq0.ensures.ok.0,
          c.in-Ok-eq0.ensures.ok.1,
        );
        failed = tt;
        over = λ is. refl;
        counted = λ some. absurd (some c.in-Ok-eq0.field-0-test);
        nothing = λ is. refl;
      } ∣₁;
    }

pub returns-in-Ok-feed : goal.returns-in-Ok-feed
returns-in-Ok-feed g c =
    let live = c.args.talk.now.live in
    let wire = c.args.talk.now.wire in
    let old = carried (g.H.Hears.heard wire.reader) (g.W.Says.said wire.writer) wire.outbox
    wire.finish in
    let heard = g.H.Hears.heard c.hear.new.self in
    let piece = take c.in-Ok.n c.deref.result.now in
    record {
      seat = refl;
      served = λ w.
          fed w live (record live { session = c.feed.new.self }) piece c.in-Ok-feed.ensures.fed
          (sym c.is_reading.ensures ∙ c.if-not-is_reading.false) refl refl
          (record { number = refl; end_is = refl }) old (record old { heard = heard })
          (piece_came old heard piece
          (c.in-Ok.ensures.ok.1
          ∙ ap (λ l. old.heard ++ take c.in-Ok.n l) (sym c.deref.ensures.value))
          (none_of wire.finish (sym c.is_some.ensures ∙ c.if-is_some.false)));
      ends = lasts_same wire.finish;
      turns = c.read.ensures.rest.2;
      waiting = refl;
      broken = λ is. inl is;
      read = λ none reading. ∣ record {
        answer = Ok c.in-Ok.n;
        came = (
          take c.in-Ok.n c.hear.new.room.items,
          length-take-le c.in-Ok.n
              c.hear.new.room.items c.in-Ok.ensures.ok.0,
          c.in-Ok.ensures.ok.1,
        );
        failed = tt;
        over = λ is. absurd (c.in-Ok.n-test.1 is);
        counted = λ some. c.read.ensures.untold;
        nothing = λ is. absurd (c.in-Ok.n-test.1 is);
      } ∣₁;
    }

pub returns-in-Err-feed : goal.returns-in-Err-feed
returns-in-Err-feed g c =
    let live = c.args.talk.now.live in
    let wire = c.args.talk.now.wire in
    let old = carried (g.H.Hears.heard wire.reader) (g.W.Says.said wire.writer) wire.outbox
    wire.finish in
    let heard = g.H.Hears.heard c.hear.new.self in
    let new = record live { session = c.feed.new.self } in
    record {
      seat = refl;
      served = λ w.
          served_still w live new
          (still w live new refl refl (record { number = refl; end_is = refl })
          (c.in-Err-feed.ensures.err w)) old
          (record old { heard = heard; finish = Some finishes.Broken })
          (lost old heard (take c.in-Ok.n c.hear.new.room.items) c.in-Ok.ensures.ok.1
          (none_of wire.finish (sym c.is_some.ensures ∙ c.if-is_some.false)));
      ends = breaks wire.finish;
      turns = c.read.ensures.rest.2;
      waiting = refl;
      broken = λ is. inr c.in-Err-feed.ensures.err;
      read = λ none reading. ∣ record {
        answer = Ok c.in-Ok.n;
        came = (
          take c.in-Ok.n c.hear.new.room.items,
          length-take-le c.in-Ok.n
              c.hear.new.room.items c.in-Ok.ensures.ok.0,
          c.in-Ok.ensures.ok.1,
        );
        failed = tt;
        over = λ is. refl;
        counted = λ some. c.read.ensures.untold;
        nothing = λ is. absurd (c.in-Ok.n-test.1 is);
      } ∣₁;
    }

pub returns-in_default : goal.returns-in_default
returns-in_default g c =
    let live = c.args.talk.now.live in
    let wire = c.args.talk.now.wire in
    let old = carried (g.H.Hears.heard wire.reader) (g.W.Says.said wire.writer) wire.outbox
    wire.finish in
    let heard = g.H.Hears.heard c.hear.new.self in
    record {
      seat = refl;
      served = λ w.
          then_same w live live old old
          (record old { heard = heard; finish = Some finishes.Broken })
          (λ honest trust s end first read written one. one)
          (lost old heard [] (c.in-Err.ensures.err ∙ sym (append-nil old.heard))
          (none_of wire.finish (sym c.is_some.ensures ∙ c.if-is_some.false)));
      ends = breaks wire.finish;
      turns = refl;
      waiting = refl;
      broken = λ is. inr (λ w m gathered stands. stands);
      read = λ none reading. ∣ record {
        answer = Err c.in-Err.error;
        came = tt;
        failed = c.in-Err.ensures.err;
        over = λ is. refl;
        counted = tt;
        nothing = λ is. refl;
      } ∣₁;
    }

pub returns-in-Interrupted : goal.returns-in-Interrupted
returns-in-Interrupted g c =
    let live = c.args.talk.now.live in
    let wire = c.args.talk.now.wire in
    let old = carried (g.H.Hears.heard wire.reader) (g.W.Says.said wire.writer) wire.outbox
    wire.finish in
    let heard = g.H.Hears.heard c.hear.new.self in
    record {
      seat = refl;
      served = λ w.
          then_same w live live old old (record old { heard = heard })
          (λ honest trust s end first read written one. one)
          (same_heard old heard c.in-Err.ensures.err);
      ends = lasts_same wire.finish;
      turns = refl;
      waiting = refl;
      broken = λ is. inl is;
      read = λ none reading. ∣ record {
        answer = Err c.in-Err.error;
        came = tt;
        failed = c.in-Err.ensures.err;
        over = λ other. absurd (other (sym c.kind.ensures ∙ c.in-Interrupted.is));
        counted = tt;
        nothing = λ is. refl;
      } ∣₁;
    }

pub returns-then-is_some : goal.returns-then-is_some
returns-then-is_some g c = record {
  seat = refl;
  served = λ w honest trust s end first read written one. one;
  ends = lasts_same c.args.talk.now.wire.finish;
  turns = refl;
  waiting = refl;
  broken = λ is. inl is;
  read = λ none reading. absurd (true≢false (sym c.if-is_some.true ∙ c.is_some.ensures
      ∙ ap is_some none));
}

pub returns-then-not-is_reading : goal.returns-then-not-is_reading
returns-then-not-is_reading g c = record {
  seat = refl;
  served = λ w honest trust s end first read written one. one;
  ends = lasts_same c.args.talk.now.wire.finish;
  turns = refl;
  waiting = refl;
  broken = λ is. inl is;
  read = λ none reading. absurd (true≢false (sym reading ∙ sym c.is_reading.ensures
      ∙ c.if-not-is_reading.true));
}
