-- Marks of the code as the definitions have them.
use Rattle.buffer_ages.specs.Text.{BufferAges}
use Rattle.buffer_ages.specs.declared.marks.BufferMarks.{BufferMarks}

-- the marks of a buffer, with its name
abbrev pub ages_view : BufferMarks → BufferAges
ages_view ages = record { name = ages.name; marks = ages.marks.items }
