use Rattle.std.proofs.Common.{◌≡◌, ◌∙◌, ◌+◌, ◌<◌, ℕ, Some, ap, arith, length, map, refl, subst, sym}
use Rattle.std.specs.Prelude.{slice_get}
use Rattle.std.proofs.lemmas.List.{take_all}
use Rattle.std.proofs.lemmas.Option.{get_or_from_slice_get}
use Rattle.std.proofs.lemmas.Result.{err_from_is_err_and}
use Rattle.file_blocks.specs.Host.{held_identity}
use Rattle.relay_devices.specs.Syncing.{identity_in, name_in}
use Rattle.buffer_files.proofs.FileFaults.{fault_at}
use Rattle.relay_devices.proofs.Rooms.{index_fits_as, no_more, room_of, still_fits}
use Rattle.buffer_files.proofs.Rows.{longer, one_more_made}
use Rattle.relay_devices.proofs.syncing.open_again.Goals as goal

pub loop-buffer-init : goal.loop-buffer-init
loop-buffer-init g c =
    let none = c.in_ok-files.ensures.items in
    record {
      room = room_of _ _ _ c.in_ok-files.ensures.capacity
          (c.len.ensures ∙ c.args.settings.now.buffers.ok.0);
      count = ap length none;
      names = ap (map name_in) none;
      same = ap (map identity_in) none;
    }

-- there is one that is held for each buffer,
pub held_at-own-requires : goal.held_at-own-requires
held_at-own-requires g c =
    omega (
      arith,
      c.len-in-loop-buffer.ensures,
      c.loop-buffer.files.ok.0,
      c.loop-buffer.invariant.count,
      c.loop-buffer-test.true,
      ap length c.deref-buffer-items.ensures.value,
      c.requires,
    )

-- whose fault is told,
pub returns-in_err-file-clause-fault : goal.returns-in_err-file-clause-fault
returns-in_err-file-clause-fault g c =
    let gone = c.from_residual-in_err-file in
    let told = err_from_is_err_and gone.result gone.ensures.1 in
    rw (told.1, told.2)
    (fault_at c.args.settings.now c.deref-buffer-items.result.now c.loop-buffer.buffer-index
    c.buffer-item.result c.in_err-file.field-0.0 c.deref-buffer-items.ensures.value
    c.loop-buffer-test.true c.buffer-item.is c.in_err-file.ensures.fault)

-- and room for one file more
pub push_reserved-requires : goal.push_reserved-requires
push_reserved-requires g c =
    index_fits_as _ _ _ _ _ (c.loop-buffer.files.ok.0 ∙ c.loop-buffer.invariant.count)
    c.loop-buffer-test.true (ap length c.deref-buffer-items.ensures.value)
    c.loop-buffer.invariant.room

pub loop-buffer-preserved : goal.loop-buffer-preserved
loop-buffer-preserved g c =
    let old = c.loop-buffer.files.items in
    let new = c.push_reserved.new.self.items in
    let before = c.loop-buffer.invariant in
    let pushed = c.push_reserved.ensures in
    let held = c.args.held.now in
    let index = c.loop-buffer.buffer-index in
    let own = c.held_at-own.result.now in
    let place : c.len-in-loop-buffer.result ≡ index =
    c.len-in-loop-buffer.ensures ∙ c.loop-buffer.files.ok.0 ∙ before.count in
    let there = subst (λ (n : ℕ). slice_get held n ≡ Some own) place c.held_at-own.ensures in
    let within : index < length held =
    omega (
      arith,
      c.loop-buffer-test.true,
      ap length c.deref-buffer-items.ensures.value,
      c.requires,
    ) in
    record {
      room = still_fits _ _ _ before.room pushed.capacity;
      count = longer name_in old new _ pushed.items ∙ ap (λ n. n + 1) before.count;
      names = one_more_made name_in old new _ pushed.items (λ buffer. buffer.name)
          c.deref-buffer-items.result.now c.args.settings.now.buffers.items index
          c.buffer-item.result c.deref-buffer-items.ensures.value c.loop-buffer-test.true
          c.buffer-item.is c.as_slice-name.ensures before.names;
      same = one_more_made identity_in old new _ pushed.items held_identity held held index own
          refl within (sym (get_or_from_slice_get held index own own there))
          c.in_ok-file.ensures.same before.same;
    }

-- that was the last
pub returns : goal.returns
returns g c =
    let all = c.args.settings.now.buffers.items in
    let last = no_more _ _ _ (sym (ap length c.deref-buffer-items.ensures.value))
    c.loop-buffer-test.false in
    record {
      names = c.loop-buffer.invariant.names
          ∙ ap (map (λ buffer. buffer.name)) (take_all c.loop-buffer.buffer-index all last);
      same = c.loop-buffer.invariant.same
          ∙ ap (map held_identity) (take_all c.loop-buffer.buffer-index c.args.held.now
          (omega (arith, last, c.requires)));
      fault = tt;
    }
