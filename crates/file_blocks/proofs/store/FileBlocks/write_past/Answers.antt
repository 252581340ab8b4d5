-- What is set aside gives way first, and then the block is written alone.
use Rattle.std.proofs.Common.{◌∙◌, ◌-◌, ◌≤◌, ℕ, sym, subst, arith}
use Rattle.std.proofs.lemmas.Result.{IfOk-from_err, on_ok_weaker}
use Rattle.file_blocks.specs.Run.{Holds}
use Rattle.file_blocks.specs.Store.{blocks_seen, PassesBy}
use Rattle.file_blocks.specs.declared.run.Run.{Run}
use Rattle.file_blocks.proofs.AsideLemmas.{set_changed}
use Rattle.file_blocks.proofs.CallLemmas.{any_ok, asks_behind, length-blocks_seen, same_seen}
use Rattle.file_blocks.proofs.KeptLemmas.{keeps_on}
use Rattle.file_blocks.proofs.store.FileBlocks.write_past.Goals as goal

pub returns-clause-block : goal.returns-clause-block
returns-clause-block g c =
    let f = g.F.RunFile in
    let store = c.args.self.now in
    let mid = c.let_go.new.self in
    let alone = c.write_alone.ensures.block in
    let k = c.args.k in
    record {
      written = λ honest. on_ok_weaker c.write_alone.result
          (λ is. is ∙ set_changed k (blocks_seen f store) (blocks_seen f mid) c.args.octets.now
          (same_seen f store mid c.let_go.ensures.count)
          (omega (arith, length-blocks_seen f store, c.requires.within))
          (c.let_go.ensures.others honest))
          (alone.written (c.let_go.ensures.honest honest));
      others = λ honest j other. alone.others (c.let_go.ensures.honest honest) j other
          ∙ c.let_go.ensures.others honest j other;
      heads = λ honest. alone.heads (c.let_go.ensures.honest honest)
          ∙ c.let_go.ensures.heads honest;
      honest = λ honest. alone.honest (c.let_go.ensures.honest honest);
      count = alone.count ∙ c.let_go.ensures.count;
    }

pub returns-clause-article : goal.returns-clause-article
returns-clause-article g c b block is =
    any_ok c.write_alone.result
    (λ j since until held. c.in_ok-let_go.ensures.written j
    (subst (λ (i : ℕ). c.args.k - i ≤ j) (sym (c.index.ensures b block is)) since) until
    (subst (λ (run : Run). Holds run j) c.write_alone.ensures.gathered held))

pub returns-clause-aside : goal.returns-clause-aside
returns-clause-aside g c =
    keeps_on c.args.k c.args.self.now c.let_go.new.self c.write_alone.new.self
    c.write_alone.ensures.gathered c.write_alone.ensures.aside c.let_go.ensures.aside

pub returns-clause-once : goal.returns-clause-once
returns-clause-once g c b block is passes =
    asks_behind g.F.RunFile 1 c.args.self.now c.let_go.new.self c.write_alone.new.self
    c.write_alone.result
    (c.let_go.ensures.unasked
    (subst (λ (i : ℕ). PassesBy c.args.k i c.args.self.now)
    (sym (c.index.ensures b block is)) passes))
    c.write_alone.ensures.file

pub returns-in_err-let_go-clause-once : goal.returns-in_err-let_go-clause-once
returns-in_err-let_go-clause-once g c b block is passes =
    absurd (c.in_err-let_go.ensures.passes
    (subst (λ (i : ℕ). PassesBy c.args.k i c.args.self.now)
    (sym (c.index.ensures b block is)) passes))

pub returns-in_err-let_go-clause-block : goal.returns-in_err-let_go-clause-block
returns-in_err-let_go-clause-block g c =
    let left = c.let_go.ensures in
    record {
      written = λ honest. IfOk-from_err c.from_residual.result _ c.from_residual.ensures.0;
      others = left.others;
      heads = left.heads;
      honest = left.honest;
      count = left.count;
    }

pub write_alone-requires-clause-apart : goal.write_alone-requires-clause-apart
write_alone-requires-clause-apart g c =
    c.in_ok-let_go.ensures.written c.args.k (omega arith) (omega arith)
