-- The block is taken where there is room, and then all is written that is to be.
use Rattle.std.proofs.Common.{◌∙◌, List, ℕ, get_or, set, ap, []}
use Rattle.std.proofs.lemmas.List.{get_or-set_other}
use Rattle.std.proofs.lemmas.Result.{IfOk-from_err, on_ok_weaker}
use Rattle.file_blocks.specs.Store.{blocks_seen}
use Rattle.file_blocks.proofs.CallLemmas.{heads_as, honest_as}
use Rattle.file_blocks.proofs.store.FileBlocks.gather.Goals as goal

pub returns-clause-block : goal.returns-clause-block
returns-clause-block g c =
    let f = g.F.RunFile in
    let store = c.args.self.now in
    let room = c.make_room.new.self in
    let taken = c.take.new.self in
    let take = c.take.ensures in
    let seen = c.make_room.ensures.seen in
    let k = c.args.k in
    record {
      written = λ honest. on_ok_weaker c.settle.result
          (λ is. is ∙ take.blocks
          ∙ ap (λ (blocks : List (List ℕ)). set blocks k c.args.octets.now) (seen.blocks honest))
          (c.settle.ensures.written
          (honest_as f room taken take.file take.count take.ahead (seen.honest honest)));
      others = λ honest j other.
          c.settle.ensures.others
          (honest_as f room taken take.file take.count take.ahead (seen.honest honest)) k take.last
          j other
          ∙ ap (λ (blocks : List (List ℕ)). get_or blocks j []) take.blocks
          ∙ get_or-set_other (blocks_seen f room) k j c.args.octets.now [] other
          ∙ ap (λ (blocks : List (List ℕ)). get_or blocks j []) (seen.blocks honest);
      heads = λ honest.
          c.settle.ensures.heads
          (honest_as f room taken take.file take.count take.ahead (seen.honest honest))
          ∙ heads_as f room taken take.file take.count ∙ seen.heads honest;
      honest = λ honest.
          c.settle.ensures.honest
          (honest_as f room taken take.file take.count take.ahead (seen.honest honest));
      count = c.settle.ensures.count ∙ take.count ∙ seen.count;
    }

pub returns-in_err-make_room-clause-block : goal.returns-in_err-make_room-clause-block
returns-in_err-make_room-clause-block g c =
    let seen = c.make_room.ensures.seen in
    record {
      written = λ honest. IfOk-from_err c.from_residual.result _ c.from_residual.ensures.0;
      others = λ honest j other.
          ap (λ (blocks : List (List ℕ)). get_or blocks j []) (seen.blocks honest);
      heads = seen.heads;
      honest = seen.honest;
      count = seen.count;
    }
