use Rattle.std.proofs.Common.{◌≡◌, ◌∙◌, Some, ap, arith, length, map, option_map}
use Rattle.std.proofs.Common.{refl, slice_get, sym}
use Rattle.std.proofs.lemmas.List.{length-map}
use Rattle.std.proofs.lemmas.Option.{slice_get-map, slice_get_read, slice_get_within}
use Rattle.live_store.specs.Steps.{buffer_of}
use Rattle.relay_live.proofs.Rest.{idle_more}
use Rattle.relay_live.proofs.stopping.none_is_written.Goals as goal

pub loop-buffer-init : goal.loop-buffer-init
loop-buffer-init g c = λ b code below there. absurd (omega (arith, below))

pub loop-buffer-preserved : goal.loop-buffer-preserved
loop-buffer-preserved g c =
    let all = c.args.buffers.now in
    let k = c.loop-buffer.buffer-index in
    let one = c.buffer-item.result in
    let here : slice_get (map buffer_of all) k ≡ Some (buffer_of one) =
    slice_get-map buffer_of all k
    ∙ ap (option_map buffer_of) (slice_get_read all (length all) k one refl c.loop-buffer-test.true
    c.buffer-item.is) in
    idle_more (map buffer_of all) k (buffer_of one) here
    (sym c.is_busy.ensures.busy ∙ c.if-is_busy.false) c.loop-buffer.invariant

-- a write is open
pub returns-then-is_busy-clause-some : goal.returns-then-is_busy-clause-some
returns-then-is_busy-clause-some g c = λ e.
    let all = c.args.buffers.now in
    let k = c.loop-buffer.buffer-index in
    let one = c.buffer-item.result in
    let here : slice_get (map buffer_of all) k ≡ Some (buffer_of one) =
    slice_get-map buffer_of all k
    ∙ ap (option_map buffer_of) (slice_get_read all (length all) k one refl c.loop-buffer-test.true
    c.buffer-item.is) in
    (k, buffer_of one, here, sym c.is_busy.ensures.busy ∙ c.if-is_busy.true)

pub returns-clause-none : goal.returns-clause-none
returns-clause-none g c = λ e b code there.
    c.loop-buffer.invariant b code
    (omega (
      arith,
      c.loop-buffer-test.false,
      slice_get_within (map buffer_of c.args.buffers.now) b code there,
      length-map c.args.buffers.now buffer_of,
    ))
    there
