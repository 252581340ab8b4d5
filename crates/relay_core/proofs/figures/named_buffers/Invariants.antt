use Rattle.std.proofs.Common.{◌≡◌, ◌≤◌, ℕ, Option, length, map, take, vec_len, vec_capacity}
use Rattle.article_verdict.specs.Config.{terms_of}
use Rattle.block_shelf.specs.Keeping.{KeepsTexts}
use Rattle.block_shelf.specs.Openings.{Opening}
use Rattle.block_shelf.specs.Leaving.{Trust}
use Rattle.relay_report.specs.Figures.{buffer_view, named_buffers}
use Rattle.relay_model.specs.State.{State}
use Rattle.relay_core.proofs.figures.named_buffers.Given as goal

-- the buffers so far are those of the report, and there is room for all
abbrev pub invariant-loop-number : goal.invariant-loop-number
invariant-loop-number g l = record {
  count : vec_len l.named ≤ l.number;
  room : length l.config.buffers.buffers.items ≤ vec_capacity l.named;
  said : (trusted : Trust) (σ : State) (openings : ℕ → Option Opening) (failures : ℕ → ℕ)
      → KeepsTexts {S = g.row.S.Denot} {g = g.S.BlockStore} trusted l.buffer_set
      (terms_of l.config) σ.begun σ.kept openings failures
      → map buffer_view l.named.items ≡ take l.number (named_buffers l.config σ);
}
