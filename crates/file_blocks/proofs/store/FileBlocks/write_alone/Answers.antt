-- A block that isn't gathered is written alone.
use Rattle.std.proofs.Common.{length, refl}
use Rattle.std.proofs.lemmas.Result.{on_ok_weaker}
use Rattle.file_blocks.proofs.AsideLemmas.{changed_seen, one_changed, one_run, one_written}
use Rattle.file_blocks.proofs.AsideLemmas.{set_seen}
use Rattle.file_blocks.proofs.CopyLemmas.{copy_left}
use Rattle.file_blocks.proofs.StoreLemmas.{run_heads}
use Rattle.file_blocks.proofs.store.FileBlocks.write_alone.Goals as goal

pub returns-clause-block : goal.returns-clause-block
returns-clause-block g c =
    let store = c.args.self.now in
    let run = store.gathered in
    let n = store.count in
    let k = c.args.k in
    let old = g.F.RunFile.held store.file in
    let new = g.F.RunFile.held c.write.new.self in
    let place = c.place_of.result in
    let size = length c.args.octets.now in
    let is = one_run n k place size c.requires.within c.place_of.ensures c.told-octets in
    record {
      written = λ honest. on_ok_weaker c.write.result
          (λ there. set_seen n run.first run.count k old new run.octets.items c.args.octets.now
          store.gathered_within c.requires.within
          (λ since before. c.requires.apart (since, before))
          (one_changed n k place size old new is (c.write.ensures.others honest.file))
          (one_written n k place size new c.args.octets.now c.requires.within c.place_of.ensures
          c.told-octets there))
          (c.write.ensures.written honest.file);
      others = λ honest. changed_seen n run.first run.count k old new run.octets.items
          store.gathered_within
          (one_changed n k place size old new is (c.write.ensures.others honest.file));
      heads = λ honest. run_heads n k 1 place size old new is (c.write.ensures.others honest.file);
      honest = λ honest. record {
        file = c.write.ensures.honest honest.file;
        ahead = copy_left store.ahead c.give_way.new.self n k 1 place size old new is
            (c.write.ensures.others honest.file) c.give_way.ensures.stays c.give_way.ensures.apart
            honest.ahead;
      };
      count = refl;
    }

pub returns-clause-there : goal.returns-clause-there
returns-clause-there g c honest =
    let store = c.args.self.now in
    let new = g.F.RunFile.held c.write.new.self in
    on_ok_weaker c.write.result
    (one_written store.count c.args.k c.place_of.result (length c.args.octets.now) new
    c.args.octets.now c.requires.within c.place_of.ensures c.told-octets)
    (c.write.ensures.written honest.file)
