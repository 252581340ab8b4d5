use Rattle.std.proofs.Common.{◌∷◌, [], ◌∙◌, ap, sym, subst, arith, length, map}
use Rattle.std.proofs.lemmas.List.{map-append}
use Rattle.std.proofs.lemmas.Map.Iter.{rest_so_far, iter_end}
use Rattle.std.specs.HashMap.{values}
use Rattle.std.specs.Map.Iter.{deref}
use Rattle.id_history.specs.Counts.{Numbers}
use Rattle.id_history.proofs.CountLemmas.{claim_by, number_of, Numbers-push, AtMost-so_far}
use Rattle.id_history.proofs.CountLemmas.{AtMost-one, CountsOf-from_entries}
use Rattle.id_history.proofs.RoomLemmas.{lasting-counts}
use Rattle.id_history.proofs.claims.Shard.counts.Goals as goal

-- so far there are no more entries than the map has
pub plus-counts-requires-clause-here : goal.plus-counts-requires-clause-here
plus-counts-requires-clause-here c =
    AtMost-so_far _ (map deref c.loop-entry.yielded) c.loop-entry.entry-iterator _ _
    (rest_so_far deref c.loop-entry.yielded c.into_iter-entry-iterator.result
    c.loop-entry.entry-iterator c.loop-entry.yielded_by)
    (omega (
      arith,
      ap length c.into_iter-entry-iterator.ensures.into_iter_gives,
      c.values-entry-items.ensures.len,
      c.values-entry-items.ensures.fits,
    ))
    c.loop-entry.invariant

-- an entry counts once
pub plus-counts-requires-clause-there : goal.plus-counts-requires-clause-there
plus-counts-requires-clause-there c =
    AtMost-one _ (claim_by c.in-Some.entry.now) _ (omega arith) c.counts.ensures

-- the entry is counted
pub loop-entry-preserved : goal.loop-entry-preserved
loop-entry-preserved c =
    subst (λ entries. Numbers c.plus-counts.result (number_of entries))
    (sym (map-append deref c.loop-entry.yielded (c.in-Some.entry ∷ [])))
    (Numbers-push c.loop-entry.counts c.counts.result _ (map deref c.loop-entry.yielded)
    c.in-Some.entry.now c.plus-counts.ensures.offered c.plus-counts.ensures.storing
    c.plus-counts.ensures.stored c.plus-counts.ensures.refused c.loop-entry.invariant
    c.counts.ensures)

-- at the end all entries are counted
pub returns-clause-claims : goal.returns-clause-claims
returns-clause-claims c =
    let all = iter_end deref (values c.args.self.now.entries) c.loop-entry.yielded
    c.into_iter-entry-iterator.result c.loop-entry.entry-iterator c.next.new.self c.next.result
    (c.into_iter-entry-iterator.ensures.into_iter_gives ∙ c.values-entry-items.ensures.rest)
    c.loop-entry.yielded_by c.in-None.is c.next.ensures.steps in
    CountsOf-from_entries c.args.self.now c.loop-entry.counts c.values-entry-items.ensures.unique
    (subst (λ entries. Numbers c.loop-entry.counts (number_of entries)) all.0
    c.loop-entry.invariant)

-- the map has fewer than 2 ^ 63 entries
pub returns-clause-few : goal.returns-clause-few
returns-clause-few c =
    AtMost-so_far _ (map deref c.loop-entry.yielded) c.loop-entry.entry-iterator _ _
    (rest_so_far deref c.loop-entry.yielded c.into_iter-entry-iterator.result
    c.loop-entry.entry-iterator c.loop-entry.yielded_by)
    (omega (
      arith,
      ap length c.into_iter-entry-iterator.ensures.into_iter_gives,
      c.values-entry-items.ensures.len,
      c.values-entry-items.ensures.fits,
    ))
    c.loop-entry.invariant

-- those of the entries that are left
pub returns-clause-lasting : goal.returns-clause-lasting
returns-clause-lasting c =
    let all = iter_end deref (values c.args.self.now.entries) c.loop-entry.yielded
    c.into_iter-entry-iterator.result c.loop-entry.entry-iterator c.next.new.self c.next.result
    (c.into_iter-entry-iterator.ensures.into_iter_gives ∙ c.values-entry-items.ensures.rest)
    c.loop-entry.yielded_by c.in-None.is c.next.ensures.steps in
    lasting-counts c.args.self.now c.loop-entry.counts
    (subst (λ entries. Numbers c.loop-entry.counts (number_of entries)) all.0
    c.loop-entry.invariant)
