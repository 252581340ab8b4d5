-- relay.conf says something, and one thing.
use Rattle.std.proofs.Common.{ℕ, List, Ok, refl}
use Rattle.uwild.proofs.EachText.{each_reading}
use Rattle.relay_conf.specs.RelayLines.{RawLine, SaidLine, FeedLine, RawSays, LineSays, relay_line}
use Rattle.relay_conf.specs.Relay.{early_fault, relay_said}
use Rattle.relay_conf.proofs.OneExpression.{expression_one}
use Rattle.relay_conf.proofs.OneReading.{IsOne, HaveOneReading, one_reading}

-- A line says one thing.
pub raw_one : (raw : RawLine) → IsOne (RawSays raw)
raw_one (Ok (FeedLine name ring text hash)) =
    expression_one text (λ expression. FeedLine name ring expression hash)
    (RawSays (Ok (FeedLine name ring text hash)))
    (λ fault. (λ h. h, λ h. h)) (λ line. (λ h. h, λ h. h)) (each_reading text)
raw_one raw = record { one = _; is = refl; only = λ other h. h }

-- A line says one thing, whatever stands before it.
abbrev pub line_one : (before : List SaidLine) (line : List ℕ) → IsOne (LineSays before line)
line_one before line = raw_one (relay_line line)

-- relay.conf has one reading.
pub relay_one : HaveOneReading LineSays early_fault relay_said
relay_one = one_reading LineSays line_one early_fault relay_said (λ said fault h. rw h refl)
