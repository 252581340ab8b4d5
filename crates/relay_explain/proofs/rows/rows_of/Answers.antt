use Rattle.std.proofs.Common.{◌∙◌, ◌<◌, ◌∷◌, ◌++◌, [], ap, arith, length, map, unwrap_or}
use Rattle.std.specs.Prelude.{slice_get}
use Rattle.relay_explain.specs.Entries.{said_entry}
use Rattle.relay_explain.proofs.SaidEntries.{said_one}
use Rattle.relay_explain.proofs.Told.{made_all, made_more}
use Rattle.relay_explain.proofs.rows.rows_of.Goals as goal

pub loop-place-preserved : goal.loop-place-preserved
loop-place-preserved c =
    let there : c.loop-place.place < length c.args.storage_entries.now =
    omega (arith, c.loop-place-test.true) in
    let one = said_one c.args.lines.now c.behind.result.now c.in_ok-begins.begins.items
    c.newsgroups_in.result.now c.loop-place.place c.number_at-line.result
    c.index-storage_entries-place.result _ c.in_ok-begins.ensures
    (c.number_at-line.ensures
    ∙ ap (λ numbers. unwrap_or (slice_get numbers c.loop-place.place) 0) c.deref.ensures.value)
    c.behind.ensures c.newsgroups_in.ensures c.index-storage_entries-place.is in
    made_more (said_entry (map (λ line. line.now) c.args.lines.now)) c.args.storage_entries.now
    c.loop-place.place c.index-storage_entries-place.result _ _ there c.loop-place.invariant
    (c.in_ok-push.ensures.items ∙ ap (λ last. c.loop-place.rows.items ++ last ∷ []) one)

pub returns : goal.returns
returns c =
    made_all (said_entry (map (λ line. line.now) c.args.lines.now)) c.args.storage_entries.now
    c.loop-place.place
    _ c.loop-place-test.false c.loop-place.invariant
