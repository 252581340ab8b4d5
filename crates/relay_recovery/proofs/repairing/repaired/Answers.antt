use Rattle.std.proofs.Common.{◌∙◌, ℕ, ap, map, subst, sym}
use Rattle.std.specs.Global.{Vec}
use Rattle.block_shelf.specs.Each.{AreEach}
use Rattle.cyc_block.specs.Heads.{head_view}
use Rattle.relay_repair.specs.Repairing.{Repairs}
use Rattle.relay_recovery.proofs.ShutAgain.{repairs_again}
use Rattle.buffer_files.specs.Synced.{IsUncalled}
use Rattle.relay_startup.specs.Unstopped.{kept_text}
use Rattle.relay_recovery.proofs.Unsaved.{same_without}
use Rattle.relay_recovery.proofs.repairing.repaired.Goals as goal

-- what is kept is what the repair gave, but for what its journal alone says is stored
pub returns-clause-repaired : goal.returns-clause-repaired
returns-clause-repaired g c =
    let config = c.args.config.now in
    let left = c.args.stores.items in
    let gave = c.in_ok-stopped.stopped in
    let read = c.in_ok-stopped-2.stopped in
    record {
      found = read.history;
      repaired = record {
        now = c.now-now.result;
        back = read.stores.items;
        repairs =
            subst (λ written. Repairs g.S.BlockStore config left (kept_text c.args.last.items)
            c.now-now.result read.stores.items written)
            (sym (ap (λ (text : Vec ℕ). text.items) c.in_ok-stopped-2.ensures.text))
            (repairs_again g.S.BlockStore gave.stores.items read.stores.items
            c.in_ok-stopped-2.ensures.unwritten config left (kept_text c.args.last.items)
            c.now-now.result gave.history.items
            (subst (λ text. Repairs g.S.BlockStore config left text c.now-now.result
            gave.stores.items gave.history.items)
            (c.history_of.ensures ∙ ap kept_text c.deref.ensures.value)
            c.in_ok-stopped.ensures.repaired));
        uncalled =
            subst (λ (stores : Vec _). AreEach (IsUncalled g.S.BlockStore) stores.items
            c.in_ok-stopped-4.stopped.stores.items) c.in_ok-stopped-3.ensures.stores
            c.in_ok-stopped-4.ensures.uncalled;
      };
      wrote = gave.stores.items;
      unwritten = c.in_ok-stopped-2.ensures.unwritten;
      heads = c.with_heads.new.heads.items;
      are = c.in_ok-stopped-2.ensures.heads;
      left =
          same_without config c.deref-2.ensures.value c.deref-3.ensures.value
          (ap (map head_view) c.deref-4.ensures.value) (sym c.in_ok-stopped-4.ensures.text)
          c.in_ok-stopped-3.ensures.text;
    }
