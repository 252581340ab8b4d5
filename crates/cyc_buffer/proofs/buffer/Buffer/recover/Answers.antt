-- What was found is the buffer as each history says that the device tells it.
use Rattle.std.proofs.Common.{List, ℕ, length, arith, refl, sym, subst}
use Rattle.news_terms.specs.Places.{Buffer}
use Rattle.cyc_buffer.specs.Agreement.{Holds}
use Rattle.cyc_buffer.proofs.FoundLemmas.{found_in, holds_found, keeps_found, lists_live}
use Rattle.cyc_token.specs.Token.{token_view}
use Rattle.cyc_buffer.specs.Crash.{IsFoundAgain, IsFrontOn}
use Rattle.cyc_buffer.specs.FoundHistory.{found_history}
use Rattle.cyc_buffer.proofs.CrashLaws.{found_begun, kept_found}
use Rattle.cyc_buffer.proofs.FoundHistories.{found_counted, found_told}
use Rattle.cyc_buffer.proofs.buffer.Buffer.recover.Goals as goal

pub returns-in-Ok-clause-agrees : goal.returns-in-Ok-clause-agrees
returns-in-Ok-clause-agrees g c honest h tells is counts =
    let blocks = g.S.BlockStore.blocks c.args.store in
    let stopped = c.in-Ok.stopped in
    let was = c.in-Ok.ensures in
    record {
      keeps = keeps_found blocks h tells _ stopped.buffer_state stopped.tokens.items
          (was.found honest) is counts;
      honest = λ trusted. was.reads.held.honest honest;
      holds = λ trusted. subst (λ (bs : List (List ℕ)). Holds bs stopped.buffer_state h)
          (sym (was.reads.held.blocks honest))
          (holds_found blocks h tells _ stopped.buffer_state stopped.tokens.items
          (was.found honest) is);
    }

pub returns-in-Ok-clause-tokens : goal.returns-in-Ok-clause-tokens
returns-in-Ok-clause-tokens g c honest h tells is =
    lists_live (g.S.BlockStore.blocks c.args.store) h tells _ c.in-Ok.stopped.buffer_state
    c.in-Ok.stopped.tokens.items (c.in-Ok.ensures.found honest) is

pub returns-in-Ok-clause-found : goal.returns-in-Ok-clause-found
returns-in-Ok-clause-found g c honest =
    found_in (g.S.BlockStore.blocks c.args.store) _ c.in-Ok.stopped.buffer_state
    c.in-Ok.stopped.tokens.items (c.in-Ok.ensures.found honest)

-- a buffer of so many blocks
abbrev of : (number first_cycle blocks : ℕ) → Buffer
of number first_cycle blocks =
    record { number = number; blocks = blocks; first_cycle = first_cycle }

pub returns-in-Ok-clause-history : goal.returns-in-Ok-clause-history
returns-in-Ok-clause-history g c honest some cycle used front =
    let blocks = g.S.BlockStore.blocks c.args.store in
    let stopped = c.in-Ok.stopped in
    let was = c.in-Ok.ensures in
    let buffer = of c.args.number c.args.first_cycle (length blocks) in
    let lists = found_in blocks buffer stopped.buffer_state stopped.tokens.items
    (was.found honest) cycle used front in
    let tells = found_told buffer blocks cycle used stopped.tokens.items some front lists refl
    (omega (arith, c.ranges.first_cycle.fits))
    (omega (arith, c.count-blocks.ensures.blocks, c.count-blocks.type_inv)) in
    let h = found_history buffer blocks cycle used stopped.tokens.items in
    record {
      keeps = keeps_found blocks h tells buffer stopped.buffer_state stopped.tokens.items
          (was.found honest) refl
          (found_counted buffer blocks cycle used stopped.tokens.items some front lists);
      honest = λ trusted. was.reads.held.honest honest;
      holds = λ trusted. subst (λ (bs : List (List ℕ)). Holds bs stopped.buffer_state h)
          (sym (was.reads.held.blocks honest))
          (holds_found blocks h tells buffer stopped.buffer_state stopped.tokens.items
          (was.found honest) refl);
    }

pub returns-in-Ok-clause-kept : goal.returns-in-Ok-clause-kept
returns-in-Ok-clause-kept g c honest h kept left is t k =
    let blocks = g.S.BlockStore.blocks c.args.store in
    let found = c.in-Ok.ensures.found honest in
    let line = c.in-Ok.stopped.buffer_state.line in
    let front = subst (λ (b : Buffer). IsFrontOn b blocks line.cycle line.used) (sym is)
    found.front in
    (found.all.all t).1 (subst (λ (b : Buffer).
    IsFoundAgain b blocks line.cycle line.used (token_view t)) is
    (kept_found h kept blocks left line.cycle line.used front (token_view t) k))

pub returns-in-Ok-clause-begun : goal.returns-in-Ok-clause-begun
returns-in-Ok-clause-begun g c honest h kept left is t listed =
    let blocks = g.S.BlockStore.blocks c.args.store in
    let found = c.in-Ok.ensures.found honest in
    let line = c.in-Ok.stopped.buffer_state.line in
    let front = subst (λ (b : Buffer). IsFrontOn b blocks line.cycle line.used) (sym is)
    found.front in
    found_begun h kept blocks left line.cycle line.used front (token_view t)
    (subst (λ (b : Buffer). IsFoundAgain b blocks line.cycle line.used (token_view t)) (sym is)
    ((found.all.all t).0 listed))

pub returns-in-Ok-clause-front : goal.returns-in-Ok-clause-front
returns-in-Ok-clause-front g c honest = (c.in-Ok.ensures.found honest).front
