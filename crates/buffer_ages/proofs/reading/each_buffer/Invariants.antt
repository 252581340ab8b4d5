use Rattle.std.proofs.Common.{◌≡◌, map, take}
use Rattle.buffer_ages.specs.Text.{ages_in}
use Rattle.buffer_ages.specs.Views.{ages_view}
use Rattle.buffer_ages.proofs.reading.each_buffer.Given as goal

-- the buffers so far have their marks
abbrev pub invariant-loop-buffer : goal.invariant-loop-buffer
invariant-loop-buffer l =
    map ages_view l.ages.items
    ≡ map (ages_in (map (λ line. line.now) l.lines))
    (map (λ buffer. buffer.name) (take l.buffer-index l.buffers))
