-- What the report says of a buffer, by its history (docs/FORMATS.md, Report).
use Rattle.std.specs.Prelude.{length}
use Rattle.cyc_buffer.specs.History.{History, cycle_of, front_of, stored_count}
use Rattle.relay_model.specs.Figures.{BufferFigures}

-- the cycle of the newest article, the front, how many articles were begun, how many were finished
abbrev pub figures_by : History → BufferFigures
figures_by h =
    record {
      cycle = cycle_of h;
      front = front_of h;
      begun = length h.begins;
      stored = stored_count h.begins;
    }
