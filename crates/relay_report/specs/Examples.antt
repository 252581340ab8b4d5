-- The worked reports (docs/FORMATS.md, Report): what is reported, and its text.
use Rattle.std.specs.Prelude.{ℕ, List, ◌++◌, codes}
use Rattle.id_history.specs.declared.counts.Counts.{Counts}
use Rattle.relay_report.specs.Figures.{NamedBuffer, NamedFeed}

-- the buffer A in its cycle 0, with so many blocks behind its front, and as many articles of a
-- block each begun and stored
abbrev pub buffer_a : ℕ → NamedBuffer
buffer_a n =
    record { name = codes "A"; figures = record { cycle = 0; front = n; begun = n; stored = n } }

-- the feed of p2
abbrev pub feed_p2 : (waiting gained overwritten : ℕ) → NamedFeed
feed_p2 waiting gained overwritten =
    record {
      peer = codes "p2";
      figures = record { waiting = waiting; gained = gained; overwritten = overwritten };
    }

-- so many message-ids are stored, and of no others is anything known
abbrev pub stored_ids : ℕ → Counts
stored_ids n = record { offered = 0; storing = 0; stored = n; refused = 0 }

-- the report after *first script*
abbrev pub first_script : List ℕ
first_script =
    codes "buffer A                         0                   1          1          1\n"
    ++ codes "feed   p2                        1                   1          0\n"
    ++ codes "ids              0          0          1          0\n"

-- the report after *ring*
abbrev pub ring : List ℕ
ring =
    codes "buffer A                         0                   3          3          3\n"
    ++ codes "feed   p2                        0                   3          1\n"
    ++ codes "ids              0          0          3          0\n"
