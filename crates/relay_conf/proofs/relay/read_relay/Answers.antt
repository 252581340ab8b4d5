use Rattle.std.proofs.Common.{◌∙◌}
use Rattle.relay_conf.specs.Drafts.{IsDrawnFrom}
use Rattle.relay_conf.specs.Lines.{lines_of}
use Rattle.relay_conf.specs.RelayLines.{LineSays}
use Rattle.relay_conf.specs.Relay.{early_fault, relay_said}
use Rattle.relay_conf.specs.RelayDraft.{IsDraftOf, draft_view}
use Rattle.relay_conf.specs.RelayViews.{relay_view}
use Rattle.relay_conf.proofs.LinesRead.{draft_fails}
use Rattle.relay_conf.proofs.RelayReadings.{no_draft, reading_says, relay_gives}
use Rattle.relay_conf.proofs.SoundRelay.{relay_is_sound}
use Rattle.relay_conf.proofs.relay.read_relay.Goals as goal

pub returns-in_err-draft : goal.returns-in_err-draft
returns-in_err-draft c =
    draft_fails relay_view LineSays early_fault IsDraftOf relay_said (lines_of c.args.text.now)
    c.from_residual.result c.in_err-draft.field-0.0 c.from_residual.ensures.1
    (c.in_err-draft.ensures (no_draft c.new.result c.new.ensures.stand c.new.ensures.listed))

-- The draft is that of the lines that were read.
drawn : (c : goal.In_ok-draft)
    → IsDrawnFrom LineSays early_fault IsDraftOf (lines_of c.args.text.now) c.in_ok-draft.draft
drawn c = c.in_ok-draft.ensures (no_draft c.new.result c.new.ensures.stand c.new.ensures.listed)

pub finished-requires : goal.finished-requires
finished-requires c =
    let from = drawn c in
    record {
      few = from.draws.reading.few;
      sound = λ settings e. relay_is_sound _ settings (record {
        said = from.said;
        says = from.says;
        gives = reading_says from.said (draft_view c.in_ok-draft.draft) from.none from.draws.reading
            ∙ e;
      });
    }

pub returns : goal.returns
returns c =
    relay_gives (lines_of c.args.text.now) _ c.finished.result
    (c.in_ok-draft.ensures (no_draft c.new.result c.new.ensures.stand c.new.ensures.listed))
    c.finished.ensures
