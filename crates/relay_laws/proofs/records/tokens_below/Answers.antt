use Rattle.std.proofs.Common.{◌≡◌, ◌+◌, ◌≤◌, ◌<◌, arith, refl}
use Rattle.std.proofs.lemmas.Option.{none-some}
use Rattle.relay_model.specs.Fetches.{front_of}
use Rattle.relay_laws.specs.FigureRuns.{one_of_two}
use Rattle.relay_laws.specs.Records.{one_block_at, three_begun}
use Rattle.relay_laws.specs.Terms.{k1, buffer_a}
use Rattle.relay_laws.specs.Worlds.{three_blocks_at}
use Rattle.relay_laws.proofs.Recording.{below_front, ends_inside}
use Rattle.relay_laws.proofs.records.tokens_below.Goals as goal

pub returns-clause-last_block : goal.returns-clause-last_block
returns-clause-last_block c =
    let front : front_of k1 one_of_two buffer_a ≡ 6 = refl in
    record {
      buffer = buffer_a;
      named = refl;
      fits = record {
        class = omega arith;
        buffer = omega arith;
        cycle = omega arith;
        first = omega arith;
        length = omega arith;
      };
      some = omega arith;
      inside = omega arith;
      below = omega (arith, front);
    }

pub returns-clause-at_front : goal.returns-clause-at_front
returns-clause-at_front c = λ is.
    let below : 6 < 6 = below_front k1 one_of_two (one_block_at 6) buffer_a refl is in
    omega (arith, below)

pub returns-clause-past_end : goal.returns-clause-past_end
returns-clause-past_end c = λ is.
    let inside : 6 + 3 ≤ 8 = ends_inside k1 three_begun (three_blocks_at 0 6) buffer_a refl is in
    omega (arith, inside)

pub returns-clause-nameless : goal.returns-clause-nameless
returns-clause-nameless c = λ is. none-some is.buffer is.named

pub returns-clause-empty : goal.returns-clause-empty
returns-clause-empty c = λ is. let some : 1 ≤ 0 = is.some in omega (arith, some)

pub returns-clause-no_room : goal.returns-clause-no_room
returns-clause-no_room c = λ is. let class : 256 < 256 = is.fits.class in omega (arith, class)
