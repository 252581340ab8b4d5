-- Two registers that agree with a history have the same marks of first blocks.
use Rattle.std.proofs.Common.{◌≡◌, ◌∙◌, ℕ, ◌<◌, true, sym, ap, arith}
use Rattle.std.specs.Cmp.{both_ways}
use Rattle.news_terms.specs.Places.{Buffer}
use Rattle.cyc_buffer.specs.History.{History}
use Rattle.cyc_buffer.specs.Marks.{is_marked}
use Rattle.cyc_buffer.specs.BufferState.{Keeps}
use Rattle.cyc_buffer.specs.Restart.{HaveOther}
use Rattle.cyc_buffer.specs.declared.buffer_state.BufferState.{BufferState}
use Rattle.cyc_buffer.proofs.Places.{moved}

-- where one register marks a first block, so does the other
marked_too : (one other : BufferState) (h : History) → Keeps one h → Keeps other h → (at : ℕ)
    → at < one.line.blocks → at < other.line.blocks → is_marked one.starts.words.items at ≡ true
    → is_marked other.starts.words.items at ≡ true
marked_too one other h first next at here there m =
    let s = (first.starts at here).0 m in
    (next.starts at there).1 (record {
      cycle = s.cycle;
      article = s.article;
      finished = s.finished;
      unpassed = moved one.line.cycle one.line.used other.line.cycle other.line.used s.cycle at
          (first.cycle ∙ sym next.cycle) (first.used ∙ sym next.used) s.unpassed;
    })

pub no_other : (one other : BufferState) (h : History) → Keeps one h → Keeps other h
    → HaveOther one.starts.words.items other.starts.words.items one.line.blocks → ⊥
no_other one other h first next o =
    let there : o.at < other.line.blocks = omega (
      arith,
      o.within,
      ap (λ (b : Buffer). b.blocks) first.buffer,
      ap (λ (b : Buffer). b.blocks) next.buffer,
    ) in
    o.differ (both_ways (is_marked one.starts.words.items o.at)
    (is_marked other.starts.words.items o.at)
    (marked_too one other h first next o.at o.within there)
    (marked_too other one h next first o.at there o.within))
