-- The figures of a buffer as the definitions have them (docs/FORMATS.md, Report).
use Rattle.block_shelf.specs.declared.figures.BufferFigures.{BufferFigures}
use Rattle.relay_model.specs.Figures as model

-- what is reported of a buffer, each number under the name that the definition gives it
abbrev pub figures_view : BufferFigures → model.BufferFigures
figures_view f =
    record {
      cycle = f.cycle;
      front = f.front;
      begun = f.begun;
      stored = f.stored;
    }
