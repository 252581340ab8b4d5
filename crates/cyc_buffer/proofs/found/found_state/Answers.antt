-- The counts of a register that was found.
use Rattle.std.proofs.Common.{◌≤◌, length, arith}
use Rattle.std.proofs.lemmas.List.Elements.{All-contains}
use Rattle.news_terms.specs.Places.{size_of}
use Rattle.cyc_token.specs.declared.Token.{Token}
use Rattle.cyc_buffer.specs.Starting.{blocks_in}
use Rattle.cyc_buffer.proofs.LiveLemmas.{few_in, passed_few}
use Rattle.cyc_buffer.proofs.found.found_state.Goals as goal

pub invariant_of-result : goal.invariant_of-result
invariant_of-result c =
    let tokens = c.args.tokens.now in
    let few : length tokens ≤ blocks_in tokens =
    few_in tokens (λ t is. All-contains (λ (u : Token). 1 ≤ size_of u.length) tokens t
    c.requires.some is) in
    let passed = passed_few c.args.line c.requires.begun in
    record {
      starts_room = c.requires.starts_room;
      kept_room = c.requires.kept_room;
      starts_least = c.requires.starts_least;
      kept_least = c.requires.kept_least;
      begins_within = omega arith;
      ends_within = omega arith;
      begun_within = omega (arith, few, passed, c.begun_count.ensures);
      stored_within = omega (arith, c.requires.within, c.begun_count.ensures);
    }
