use Rattle.std.proofs.Common.{◌≡◌, ◌++◌, ◌∷◌, [], sym, map}
use Rattle.std.proofs.lemmas.List.{map_push}
use Rattle.relay_log.specs.Journal.{IsEntry}
use Rattle.relay_log.specs.Views.{entry_view}
use Rattle.relay_log.proofs.Beginnings.{none_begins}
use Rattle.relay_log.proofs.Checked.{entry_takes, entry_shorter}
use Rattle.relay_log.proofs.Texts.{holds_push, one_more}
use Rattle.relay_log.proofs.reading.entries.Goals as goal

-- an entry was taken from the front
pub loop-all-smaller : goal.loop-all-smaller
loop-all-smaller c =
    entry_shorter c.loop-all.rest.now (entry_view c.in-Some.one, c.in-Some.after.now)
    c.loop-all.invariant.are_octets (sym (rw c.in-Some.is at c.in_ok-one.ensures))

-- one entry more
pub loop-all-preserved : goal.loop-all-preserved
loop-all-preserved c =
    let entry = entry_view c.in-Some.one in
    let so_far = map entry_view c.loop-all.all.items in
    let takes = entry_takes c.loop-all.rest.now (entry, c.in-Some.after.now)
    c.loop-all.invariant.are_octets (sym (rw c.in-Some.is at c.in_ok-one.ensures)) in
    let more : map entry_view c.push.new.self.items ≡ so_far ++ entry ∷ [] =
    rw c.in_ok-push.ensures.items (map_push entry_view c.loop-all.all.items c.in-Some.one) in
    rw more (record {
      octets = one_more c.args.bytes.now c.loop-all.rest.now c.in-Some.after.now so_far entry
          c.loop-all.invariant.octets takes.0.parts;
      entries = holds_push IsEntry so_far entry c.loop-all.invariant.entries takes.1;
      are_octets = takes.0.rest_fits;
    })

-- no entry is left in front
pub returns-clause-ends : goal.returns-clause-ends
returns-clause-ends c =
    none_begins c.loop-all.rest.now (sym (rw c.in_default.is at c.in_ok-one.ensures))
