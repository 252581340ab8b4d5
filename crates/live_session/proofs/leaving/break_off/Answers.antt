use Rattle.std.proofs.Common.{◌∙◌, refl, sym}
use Rattle.live_session.proofs.LiveSessions.{gone}
use Rattle.live_session.proofs.leaving.break_off.Goals as goal

pub returns-then-is_reading-clause-gone : goal.returns-then-is_reading-clause-gone
returns-then-is_reading-clause-gone g c w carried =
    let live = c.args.live.now in
    gone w live (record live { session = c.break_off.new.self }) c.break_off.ensures
    (sym c.is_reading.ensures ∙ c.if-is_reading.true) refl refl
    (record { number = refl; end_is = refl }) carried
