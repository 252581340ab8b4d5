use Rattle.std.proofs.Common.{◌∙◌, arith, refl, sym}
use Rattle.block_shelf.proofs.Shelving.{buffers_kept, calls_same, groups_kept, kept_at}
use Rattle.block_shelf.proofs.Shelving.{read_there, still}
use Rattle.block_shelf.proofs.Armed.{arms, arms_none}
use Rattle.block_shelf.proofs.arming.BufferSet+FailAt+S.arm.Goals as goal

-- it keeps what it kept
pub returns-in-Some : goal.returns-in-Some
returns-in-Some g c = record {
  armed =
      arms c.args.self.now c.args.number c.args.k c.arm.new.self
      (read_there c.args.self.now.buffers.items c.args.number c.in-Some.ensures.item)
      c.arm.ensures.armed;
  kept = λ trusted w begun kept openings failures keeps.
      let at = kept_at (buffers_kept keeps)
      (read_there c.args.self.now.buffers.items c.args.number c.in-Some.ensures.item) in
      still keeps at c.arm.ensures.same
      (record {
        blocks = λ sure. c.arm.ensures.armed.seen.blocks;
        more = omega (arith, c.arm.ensures.armed.seen.failures);
      })
      (at.failed ∙ sym c.arm.ensures.armed.seen.failures)
      (λ n apart. refl) (groups_kept keeps);
  calls =
      calls_same c.args.self.now c.args.number c.arm.new.self
      (read_there c.args.self.now.buffers.items c.args.number c.in-Some.ensures.item)
      c.arm.ensures.armed.seen.calls;
}

pub returns-in-None : goal.returns-in-None
returns-in-None g c = record {
  armed = arms_none c.args.self.now c.args.number c.args.k c.in-None.ensures.item.0;
  kept = λ trusted w begun kept openings failures keeps. keeps;
  calls = λ number. refl;
}
