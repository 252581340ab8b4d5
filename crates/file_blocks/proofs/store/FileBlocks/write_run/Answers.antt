-- A run that was written is in the file; one that wasn't is gathered still.
use Rattle.std.proofs.Common.{◌∙◌, length, refl, arith}
use Rattle.std.proofs.lemmas.Result.{IfOk-from_err}
use Rattle.file_blocks.specs.Blocks.{blocks_of}
use Rattle.file_blocks.proofs.CallLemmas.{any_err}
use Rattle.file_blocks.proofs.CopyLemmas.{copy_left}
use Rattle.file_blocks.proofs.RunLemmas.{no_blocks}
use Rattle.file_blocks.proofs.SeenLemmas.{none_gathered}
use Rattle.file_blocks.proofs.StoreLemmas.{IsRun, run_heads, run_kept, run_written}
use Rattle.file_blocks.proofs.store.FileBlocks.write_run.Goals as goal

pub returns-then-self-eq0 : goal.returns-then-self-eq0
returns-then-self-eq0 g c =
    let run = c.args.self.now.gathered in
    record {
      seen = record {
        blocks = λ honest. refl;
        heads = λ honest. refl;
        honest = λ honest. honest;
        count = refl;
      };
      written = no_blocks run.count run.octets.items c.if-self-eq0.true;
      none = c.if-self-eq0.true;
      kept = tt;
      aside = tt;
      asked = refl;
      file = record { calls = omega arith; failed = tt; no_failure = refl };
    }

pub returns-in_err-write : goal.returns-in_err-write
returns-in_err-write g c =
    let store = c.args.self.now in
    let run = store.gathered in
    let old = g.F.RunFile.held store.file in
    let new = g.F.RunFile.held c.write.new.self in
    let place = c.place_of-place.result in
    let size = length c.octets.result.now in
    let is : IsRun store.count run.first run.count place size = record {
      within = store.gathered_within;
      begins = c.place_of-place.ensures;
      long = c.octets.ensures.length;
    } in
    record {
      seen = record {
        blocks = λ honest. run_kept store.count run.first run.count place size old new
            run.octets.items is (c.write.ensures.others honest.file);
        heads = λ honest. run_heads store.count run.first run.count place size old new is
            (c.write.ensures.others honest.file);
        honest = λ honest. record {
          file = c.write.ensures.honest honest.file;
          ahead = copy_left store.ahead c.give_way.new.self store.count run.first run.count place
              size old new is (c.write.ensures.others honest.file) c.give_way.ensures.stays
              c.give_way.ensures.apart honest.ahead;
        };
        count = refl;
      };
      written = IfOk-from_err c.from_residual.result _ c.from_residual.ensures.0;
      none = IfOk-from_err c.from_residual.result _ c.from_residual.ensures.0;
      kept = any_err c.from_residual.result refl;
      aside = any_err c.from_residual.result refl;
      asked = refl;
      file = record {
        calls = omega (arith, c.write.ensures.calls);
        failed = any_err c.from_residual.result c.in_err-write.ensures.failed;
        no_failure = IfOk-from_err c.from_residual.result _ c.from_residual.ensures.0;
      };
    }

pub returns : goal.returns
returns g c =
    let store = c.args.self.now in
    let run = store.gathered in
    let old = g.F.RunFile.held store.file in
    let new = g.F.RunFile.held c.write.new.self in
    let place = c.place_of-place.result in
    let size = length c.octets.result.now in
    let is : IsRun store.count run.first run.count place size = record {
      within = store.gathered_within;
      begins = c.place_of-place.ensures;
      long = c.octets.ensures.length;
    } in
    record {
      seen = record {
        blocks = λ honest. none_gathered c.clear.new.self.first c.clear.new.self.count
            c.clear.new.self.octets.items (blocks_of store.count new) c.clear.ensures.none
            ∙ run_written store.count run.first run.count place size old new c.octets.result.now
            run.octets.items is c.octets.ensures.blocks (c.write.ensures.others honest.file)
            (c.in_ok-write.ensures.written honest.file);
        heads = λ honest. run_heads store.count run.first run.count place size old new is
            (c.write.ensures.others honest.file);
        honest = λ honest. record {
          file = c.write.ensures.honest honest.file;
          ahead = copy_left store.ahead c.give_way.new.self store.count run.first run.count place
              size old new is (c.write.ensures.others honest.file) c.give_way.ensures.stays
              c.give_way.ensures.apart honest.ahead;
        };
        count = refl;
      };
      written =
          no_blocks c.clear.new.self.count c.clear.new.self.octets.items c.clear.ensures.none;
      none = c.clear.ensures.none;
      kept = tt;
      aside = tt;
      asked = refl;
      file = record {
        calls = omega (arith, c.write.ensures.calls);
        failed = tt;
        no_failure = c.in_ok-write.ensures.no_failure;
      };
    }
