-- Where the run isn't written its last block is taken back.
use Rattle.std.proofs.Common.{◌∙◌, ◌+◌, ℕ, List, [], get_or, sym, ap, subst}
use Rattle.std.proofs.Common.{arith}
use Rattle.std.proofs.lemmas.Bool.{le-leb}
use Rattle.cyc_block.specs.Store.{ChangesOnly}
use Rattle.file_blocks.specs.Blocks.{blocks_of}
use Rattle.file_blocks.specs.Overlay.{overlaid}
use Rattle.file_blocks.specs.Run.{blocks_in}
use Rattle.file_blocks.specs.Store.{blocks_seen}
use Rattle.file_blocks.specs.declared.run.Run.{Run}
use Rattle.file_blocks.proofs.SeenLemmas.{untaken_seen}
use Rattle.file_blocks.proofs.store.FileBlocks.settle.Goals as goal

pub returns-in-Ok : goal.returns-in-Ok
returns-in-Ok g c =
    let asks = c.in-Ok.ensures.file in
    let seen = c.write_run.ensures.seen in
    record {
      written = λ honest. seen.blocks honest;
      others = λ honest k at j other.
          ap (λ (blocks : List (List ℕ)). get_or blocks j []) (seen.blocks honest);
      heads = seen.heads;
      honest = seen.honest;
      count = seen.count;
      last = λ b block is ends. c.in-Ok.ensures.written;
      aside = tt;
      asked = c.write_run.ensures.asked;
      file = record { calls = asks.calls; failed = tt; no_failure = asks.no_failure };
    }

pub returns-in-Err : goal.returns-in-Err
returns-in-Err g c =
    let mid = c.write_run.new.self in
    let held = g.F.RunFile.held mid.file in
    let left = c.give_back.new.self in
    let seen = blocks_seen g.F.RunFile c.args.self.now in
    let asks = c.in-Err.ensures.file in
    let kept = c.write_run.ensures.seen in
    record {
      written = λ honest. tt;
      others = λ honest k at.
          subst (λ (first : ℕ). ChangesOnly k seen
          (overlaid first (blocks_in left) (blocks_of mid.count held)))
          (sym c.give_back.ensures.first)
          (untaken_seen mid.count mid.gathered.first mid.gathered.count left.count k held
          mid.gathered.octets.items (blocks_in left) seen mid.gathered_within
          (sym c.give_back.ensures.count)
          (at ∙ sym (ap (λ (run : Run). run.first + run.count) c.in-Err.ensures.kept))
          c.give_back.ensures.fewer (c.write_run.ensures.seen.blocks honest));
      heads = kept.heads;
      honest = λ honest.
          let stays = kept.honest honest in
          record { file = stays.file; ahead = stays.ahead };
      count = kept.count;
      last = λ b block is ends. tt;
      aside = λ j held.
          le-leb 1 c.give_back.new.self.count (omega (arith, held.0, held.1));
      asked = c.write_run.ensures.asked;
      file = record { calls = asks.calls; failed = asks.failed; no_failure = tt };
    }
