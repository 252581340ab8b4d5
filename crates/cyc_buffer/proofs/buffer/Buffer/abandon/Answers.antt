-- An abandoned write keeps the buffer's agreement with a history.
use Rattle.std.proofs.Common.{◌+◌, ◌∙◌, sym, subst, Option, None}
use Rattle.std.proofs.lemmas.Bool.{false≢true}
use Rattle.cyc_buffer.specs.History.{without_write}
use Rattle.cyc_buffer.specs.BufferState.{Writes, IsUnpassed}
use Rattle.cyc_buffer.specs.declared.line.Line.{Line}
use Rattle.cyc_buffer.specs.declared.buffer_state.Progress.{Progress}
use Rattle.cyc_buffer.proofs.Contents.{no_open}
use Rattle.cyc_buffer.proofs.CrashWrites.{left_writing}
use Rattle.cyc_buffer.proofs.Writes.{keeps_stays}
use Rattle.cyc_buffer.proofs.buffer.Buffer.abandon.Goals as goal

pub returns-then-owned-clause-abandoned : goal.returns-then-owned-clause-abandoned
returns-then-owned-clause-abandoned g c owned trusted h agrees =
    let new = c.abandon.new.self in
    record {
      keeps = keeps_stays c.args.self.now.buffer_state new h None c.abandon.ensures.rest
          (subst (λ (p : Option Progress). Writes (without_write h) p None)
          (sym c.abandon.ensures.progress) tt) agrees.keeps;
      honest = agrees.honest;
      holds = λ is. record {
        articles = λ cycle first k article finished inside unpassed. (agrees.holds is).articles
            cycle first k article finished inside
            (subst (λ (l : Line). IsUnpassed l cycle (first + k)) c.abandon.ensures.rest.line
            unpassed);
        open_one = no_open _ new.progress;
      };
    }

-- another write isn't this buffer's
pub returns-else-owned-clause-abandoned : goal.returns-else-owned-clause-abandoned
returns-else-owned-clause-abandoned g c owned =
    absurd (false≢true (sym c.if-owned.false ∙ c.owns-owned.ensures.1 owned))

-- what is left has nothing to do with the open write
pub returns-then-owned-clause-leaves : goal.returns-then-owned-clause-leaves
returns-then-owned-clause-leaves g c h kept left = left_writing h kept _ None left

pub returns-else-owned-clause-leaves : goal.returns-else-owned-clause-leaves
returns-else-owned-clause-leaves g c h kept left = left_writing h kept _ None left
