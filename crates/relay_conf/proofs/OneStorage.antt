-- storage.conf says something, and one thing.
use Rattle.std.proofs.Common.{ℕ, List, Ok, refl}
use Rattle.uwild.proofs.EachText.{each_reading}
use Rattle.relay_conf.specs.Cycbuff.{Group}
use Rattle.relay_conf.specs.declared.storage_lines.Place.{Place}
use Rattle.relay_conf.specs.StorageLines.{RawLine, SaidLine, NewsgroupsLine, RawSays, storage_line}
use Rattle.relay_conf.specs.StorageFile.{LineSays, place_behind, early_fault, storage_said}
use Rattle.relay_conf.proofs.OneExpression.{expression_one}
use Rattle.relay_conf.proofs.OneReading.{IsOne, HaveOneReading, one_reading}

-- A line says one thing.
raw_one : (raw : RawLine) → IsOne (RawSays raw)
raw_one (Ok (NewsgroupsLine text)) =
    expression_one text NewsgroupsLine (RawSays (Ok (NewsgroupsLine text)))
    (λ fault. (λ h. h, λ h. h)) (λ line. (λ h. h, λ h. h)) (each_reading text)
raw_one raw = record { one = _; is = refl; only = λ other h. h }

-- A line says one thing where it stands.
pub placed_one : (place : Place) (line : List ℕ) → IsOne (RawSays (storage_line place line))
placed_one place line = raw_one (storage_line place line)

-- A line says one thing behind others.
abbrev pub line_one : (before : List SaidLine) (line : List ℕ) → IsOne (LineSays before line)
line_one before line = placed_one (place_behind before) line

-- storage.conf has one reading.
pub storage_one : (groups : List Group)
    → HaveOneReading LineSays (early_fault groups) (storage_said groups)
storage_one groups =
    one_reading LineSays line_one (early_fault groups) (storage_said groups)
    (λ said fault h. rw h refl)
