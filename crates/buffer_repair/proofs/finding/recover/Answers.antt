use Rattle.std.proofs.Common.{None, arith, refl}
use Rattle.std.proofs.lemmas.Option.{none-some}
use Rattle.block_shelf.proofs.Starts.{few_stores, untouched_stores}
use Rattle.buffer_repair.proofs.KeepsLeft.{agree_before, keeps_left, of_groups_left, record_left}
use Rattle.buffer_repair.proofs.Recovered.{found_stores, unfound_set}
use Rattle.buffer_repair.proofs.finding.recover.Goals as goal

pub returns-in-Refused : goal.returns-in-Refused
returns-in-Refused g c = record {
  found = tt;
  keeps = λ honest. tt;
  on_record = λ honest. tt;
  of_groups = λ honest. tt;
  before = λ honest. tt;
  unwritten = tt;
  refusal =
      unfound_set g.S.BlockStore c.args.stores.items
      (rw c.in-Refused.is at c.find_each.ensures.found);
}

pub returns-in-Found : goal.returns-in-Found
returns-in-Found g c =
    let over = (rw c.in-Found.is at c.find_each.ensures.found).0 in
    record {
      found = over;
      keeps = λ honest w ids turns same_buffers same_groups are_turns of_groups.
          keeps_left c.args.settings.now _ c.requires honest over w same_buffers same_groups ids
          turns are_turns of_groups;
      on_record = λ honest w ids turns same_buffers same_groups are_turns of_groups.
          record_left c.args.settings.now c.in-Found.found.items c.requires honest over w
          same_buffers same_groups ids turns are_turns of_groups;
      of_groups = λ honest w begun kept openings saved same_buffers same_groups left.
          of_groups_left c.args.settings.now c.in-Found.found.items c.requires honest over w
          same_buffers same_groups
          left;
      before = λ honest w begun kept openings saved ids turns same_buffers same_groups are_turns
          left.
          agree_before c.args.settings.now c.in-Found.found.items c.requires honest over w
          same_buffers same_groups left ids turns are_turns;
      unwritten = found_stores None over (λ b within e. none-some b e);
      refusal = tt;
    }

pub returns-in_default : goal.returns-in_default
returns-in_default g c = record {
  found = tt;
  keeps = λ honest. tt;
  on_record = λ honest. tt;
  of_groups = λ honest. tt;
  before = λ honest. tt;
  unwritten = tt;
  refusal = (refl, untouched_stores g.S.BlockStore c.args.stores.items);
}

pub find_each-requires-clause-few : goal.find_each-requires-clause-few
find_each-requires-clause-few g c = omega (
  arith,
  c.args.stores.ok,
  few_stores g.S.BlockStore c.args.settings.now c.args.stores.items c.requires,
)
