use Rattle.std.proofs.Common.{refl}
use Rattle.id_history.specs.Views.{history_view, setting_view}
use Rattle.relay_log.proofs.Rooms.{has_room}
use Rattle.relay_log.proofs.text.folded_text.Goals as goal

-- what was read has room, and so what is folded in to it
pub write-requires : goal.write-requires
write-requires c =
    c.in_ok-new.ensures.room (has_room c.in_ok-history.history c.in_ok-history.ensures.found.0)

-- the text is of that history
pub returns-clause-folded : goal.returns-clause-folded
returns-clause-folded c =
    let folded = c.in_ok-new.ensures.folded (setting_view c.args.setting.now) refl in
    record {
      before = history_view c.in_ok-history.history;
      was = record {
        fits = c.in_ok-history.ensures.found.0;
        holds = c.in_ok-history.ensures.found.1;
        octets = c.in_ok-history.ensures.found.2;
      };
      after = history_view c.in_ok-new.new;
      is = record {
        fits = c.in_ok-written.ensures.fits;
        holds = c.in_ok-new.ensures.holds (setting_view c.args.setting.now) refl
            c.in_ok-history.ensures.found.1;
        octets = c.in_ok-written.ensures.octets;
      };
      found = folded.0;
      folded = folded.1;
    }
