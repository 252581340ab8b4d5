-- A finish keeps the buffer's agreement with a history.
use Rattle.std.proofs.Common.{◌≡◌, ◌+◌, ◌∙◌, ◌⊎◌, ℕ, Bool, true, arith, sym, refl}
use Rattle.std.proofs.lemmas.Bool.Decides.{nat_tests}
use Rattle.cyc_buffer.specs.Marks.{marked_after}
use Rattle.cyc_buffer.proofs.Contents.{holds_finish}
use Rattle.cyc_buffer.proofs.CrashWrites.{left_finished}
use Rattle.cyc_buffer.proofs.buffer.Buffer.finish.Goals as goal

-- a block that is marked then is this one, or it was marked
marked_one : (first block : ℕ) (old : Bool)
    → marked_after first (first + 1) true block old ≡ true → (block ≡ first) ⊎ (old ≡ true)
marked_one first block old e = grind (arith, nat_tests)

pub returns-clause-starts : goal.returns-clause-starts
returns-clause-starts g c block e =
    marked_one c.args.write.token.first block _ (sym (c.finish.ensures.starts block) ∙ e)

pub returns-clause-finished : goal.returns-clause-finished
returns-clause-finished g c trusted h agrees = record {
  keeps = c.finish.ensures.finished h agrees.keeps;
  honest = agrees.honest;
  holds = λ is. holds_finish _ c.args.self.now.buffer_state c.finish.new.self h c.args.write
      agrees.keeps c.finish.ensures.line
      (agrees.holds is) c.requires.owned c.requires.written;
}

pub returns-clause-leaves : goal.returns-clause-leaves
returns-clause-leaves g c h kept later agrees left still =
    let old = c.args.self.now.buffer_state in
    left_finished h kept later (g.S.BlockStore.blocks c.args.self.now.store) c.args.write
    old.progress h.writing refl agrees.keeps.writing c.requires.owned c.requires.written
    (agrees.holds refl).open_one agrees.keeps.sizes
    c.finish.ensures.cycle (omega (arith, c.finish.ensures.end))
    (omega (arith, c.finish.ensures.end)) left still
