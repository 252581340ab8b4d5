-- Since when the oldest articles are there that the buffers of a served relay still have
-- (docs/FORMATS.md, Report, Ages file).
use Rattle.std.specs.Prelude.{◌≡◌, ℕ, Bool, false, List, [], ◌∷◌, ◌++◌, bytes_eq, codes, decimal}
use Rattle.std.specs.Prelude.{map, Option, None, Some}
use Rattle.std.specs.Global.{Vec}
use Rattle.buffer_ages.specs.Marks.{noted, since}
use Rattle.buffer_ages.specs.Text.{BufferAges}
use Rattle.buffer_ages.specs.Views.{ages_view}
use Rattle.buffer_ages.specs.declared.marks.BufferMarks.{BufferMarks}
use Rattle.relay_conf.specs.declared.cycbuff.BufferConf.{BufferConf}
use Rattle.relay_report.specs.declared.figures.NamedBuffer.{NamedBuffer}

-- the line of a buffer: `oldest buffer=A since=1764547200`; none where nobody knows since when
abbrev pub since_line : (name : List ℕ) → Option ℕ → List ℕ
since_line name None = []
since_line name (Some moment) =
    codes "oldest buffer=" ++ name ++ codes " since=" ++ decimal moment ++ codes "\n"

-- the line of a buffer of these marks and figures
abbrev pub oldest_line : BufferMarks → BufferConf → NamedBuffer → List ℕ
oldest_line ages buffer named =
    since_line named.name (since ages.marks.items named.figures.front buffer.blocks)

-- the lines of the buffers of these marks, each with the buffer and the figures at its place
abbrev pub oldest_text : List BufferMarks → List BufferConf → List NamedBuffer → List ℕ
oldest_text [] buffers figures = []
oldest_text (ages ∷ more) [] figures = []
oldest_text (ages ∷ more) (buffer ∷ buffers) [] = []
oldest_text (ages ∷ more) (buffer ∷ buffers) (named ∷ figures) =
    oldest_line ages buffer named ++ oldest_text more buffers figures

-- the marks of a buffer, once it is noted how far its front is at a moment
abbrev pub noted_one : (moment : ℕ) → BufferMarks → BufferConf → NamedBuffer → BufferAges
noted_one moment ages buffer named =
    record {
      name = ages.name;
      marks = noted ages.marks.items named.figures.front buffer.blocks moment;
    }

-- so of all of them, each with the buffer and the figures at its place
abbrev pub noted_all : (moment : ℕ) → List BufferMarks → List BufferConf → List NamedBuffer
    → List BufferAges
noted_all moment [] buffers figures = []
noted_all moment (ages ∷ more) [] figures = []
noted_all moment (ages ∷ more) (buffer ∷ buffers) [] = []
noted_all moment (ages ∷ more) (buffer ∷ buffers) (named ∷ figures) =
    noted_one moment ages buffer named ∷ noted_all moment more buffers figures

-- Behind a text stand the lines of these buffers and figures, by marks that are noted at this
-- moment.
pub record TellsOldest (moment : ℕ) (buffers : List BufferConf) (figures : List NamedBuffer)
    (old new : List ℕ) : Type 0 where
  pub before : List BufferMarks
  pub ages : List BufferMarks
  pub noted : map ages_view ages ≡ noted_all moment before buffers figures
  pub told : new ≡ old ++ oldest_text ages buffers figures

-- a text where it is known, else none
abbrev pub text_known : Option (Vec ℕ) → List ℕ
text_known None = []
text_known (Some text) = text.items

-- a text is known to be this one
abbrev pub is_text : Option (Vec ℕ) → (other : List ℕ) → Bool
is_text None other = false
is_text (Some text) other = bytes_eq text.items other
