-- A block that follows what is gathered has room, and so has each where nothing is gathered.
use Rattle.std.proofs.Common.{arith, refl}
use Rattle.std.proofs.lemmas.Result.{on_ok_weaker}
use Rattle.file_blocks.proofs.store.FileBlocks.make_room.Goals as goal

pub returns-then-takes : goal.returns-then-takes
returns-then-takes g c =
    let can = c.takes.ensures c.if-takes.true in
    record {
      seen = record {
        blocks = λ honest. refl;
        heads = λ honest. refl;
        honest = λ honest. honest;
        count = refl;
      };
      room = record { room = can.0; follows = can.1 };
      aside = tt;
      asked = refl;
      file = record { calls = omega arith; failed = tt; no_failure = refl };
    }

pub returns : goal.returns
returns g c =
    let writes = c.write_run.ensures in
    record {
      seen = writes.seen;
      room = on_ok_weaker c.write_run.result
          (λ none. record {
            room = omega (arith, none);
            follows = λ some. absurd (omega (arith, none, some));
          })
          writes.none;
      aside = writes.aside;
      asked = writes.asked;
      file = writes.file;
    }
