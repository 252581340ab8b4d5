use Rattle.std.proofs.Common.{◌∙◌, ◌+◌, ap, arith, length, map}
use Rattle.std.proofs.lemmas.List.{take_all}
use Rattle.std.proofs.lemmas.Result.{err_from_is_err_and}
use Rattle.file_blocks.specs.Store.{count_of}
use Rattle.buffer_files.proofs.FileFaults.{fault_at}
use Rattle.buffer_files.proofs.Rows.{longer, one_more_made}
use Rattle.relay_check.proofs.looking.see_files.Goals as goal

pub loop-buffer-init : goal.loop-buffer-init
loop-buffer-init g c =
    let none = c.in_ok-stores.ensures.items in
    record {
      room = omega (
        arith,
        c.in_ok-stores.ensures.capacity,
        c.len.ensures ∙ c.args.settings.now.buffers.ok.0,
      );
      count = ap length none;
      blocks = ap (map count_of) none;
    }

-- the fault of one is told,
pub returns-in_err-store-clause-fault : goal.returns-in_err-store-clause-fault
returns-in_err-store-clause-fault g c =
    let gone = c.from_residual-in_err-store in
    let told = err_from_is_err_and gone.result gone.ensures.1 in
    rw (told.1, told.2)
    (fault_at c.args.settings.now c.deref-buffer-items.result.now c.loop-buffer.buffer-index
    c.buffer-item.result c.in_err-store.field-0.0 c.deref-buffer-items.ensures.value
    c.loop-buffer-test.true c.buffer-item.is c.in_err-store.ensures.fault)

-- there is room for one store more
pub push_reserved-requires : goal.push_reserved-requires
push_reserved-requires g c =
    omega (
      arith,
      c.loop-buffer.stores.ok.0 ∙ c.loop-buffer.invariant.count,
      c.loop-buffer-test.true,
      ap length c.deref-buffer-items.ensures.value,
      c.loop-buffer.invariant.room,
    )

pub loop-buffer-preserved : goal.loop-buffer-preserved
loop-buffer-preserved g c =
    let old = c.loop-buffer.stores.items in
    let new = c.push_reserved.new.self.items in
    let before = c.loop-buffer.invariant in
    let pushed = c.push_reserved.ensures in
    record {
      room = omega (arith, before.room, pushed.capacity);
      count = longer count_of old new c.in_ok-store.store pushed.items
          ∙ ap (λ n. n + 1) before.count;
      blocks = one_more_made count_of old new c.in_ok-store.store pushed.items
          (λ buffer. buffer.blocks)
          c.deref-buffer-items.result.now c.args.settings.now.buffers.items
          c.loop-buffer.buffer-index c.buffer-item.result c.deref-buffer-items.ensures.value
          c.loop-buffer-test.true c.buffer-item.is c.in_ok-store.ensures.blocks before.blocks;
    }

-- that was the last
pub returns-clause-blocks : goal.returns-clause-blocks
returns-clause-blocks g c =
    let all = c.args.settings.now.buffers.items in
    c.loop-buffer.invariant.blocks
    ∙ ap (map (λ buffer. buffer.blocks)) (take_all c.loop-buffer.buffer-index all
    (omega (arith, ap length c.deref-buffer-items.ensures.value, c.loop-buffer-test.false)))
