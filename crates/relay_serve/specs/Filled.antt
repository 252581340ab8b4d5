-- How large the buffers of a served relay are, and how much of them is filled (docs/FORMATS.md,
-- Report).
use Rattle.std.specs.Prelude.{ℕ, List, [], ◌∷◌, ◌++◌, codes, decimal, min}
use Rattle.relay_conf.specs.declared.cycbuff.BufferConf.{BufferConf}
use Rattle.relay_report.specs.declared.figures.NamedBuffer.{NamedBuffer}

-- a number of blocks behind its key
abbrev pub blocks_text : (key : List ℕ) → (blocks : ℕ) → List ℕ
blocks_text key blocks = key ++ decimal blocks

-- The blocks of a buffer that hold something: in its first cycle those before its front, from then
-- on all of them.
abbrev pub filled_blocks : BufferConf → NamedBuffer → ℕ
filled_blocks buffer named = min named.figures.front buffer.blocks

-- the line of a buffer of these figures: `size buffer=A blocks=1000 filled=371`
abbrev pub size_line : BufferConf → NamedBuffer → List ℕ
size_line buffer named =
    codes "size buffer=" ++ named.name ++ blocks_text (codes " blocks=") buffer.blocks
    ++ blocks_text (codes " filled=") (filled_blocks buffer named) ++ codes "\n"

-- the lines of these buffers, each with the figures at its place
abbrev pub sizes_text : List BufferConf → List NamedBuffer → List ℕ
sizes_text [] figures = []
sizes_text (buffer ∷ buffers) [] = []
sizes_text (buffer ∷ buffers) (named ∷ figures) =
    size_line buffer named ++ sizes_text buffers figures
