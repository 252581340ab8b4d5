use Rattle.std.proofs.Common.{◌∙◌, ◌∷◌, [], ◌++◌, map}
use Rattle.std.proofs.lemmas.Iterator.Adapters.{YieldsList-from_vec}
use Rattle.std.proofs.lemmas.Iterator.Consumers.{YieldsList-end}
use Rattle.std.proofs.lemmas.List.{map_push}
use Rattle.id_history.specs.Views.{id_view}
use Rattle.id_history.proofs.LastingLemmas.{KeepsAll-put_more, KeepsAll-put_all, views-same}
use Rattle.id_history.proofs.shards.Shards.resume.Goals as goal

-- the next one was put
pub loop-one-preserved : goal.loop-one-preserved
loop-one-preserved c =
    KeepsAll-put_more c.loop-one.shards c.put.new.self (map id_view c.loop-one.yielded)
    (map id_view (c.loop-one.yielded ++ c.in-Some.one ∷ [])) (id_view c.in-Some.one)
    (map_push id_view c.loop-one.yielded c.in-Some.one) c.in_ok-put.ensures
    c.loop-one.invariant

-- all were put
pub returns : goal.returns
returns c =
    let end = YieldsList-end (YieldsList-from_vec c.args.entries.items
    c.into_iter-one-iterator.ensures.into_iter_gives.0
    (c.into_iter-one-iterator.ensures.into_iter_gives.1 ∙ c.args.entries.ok.0))
    c.loop-one.yielded c.loop-one.one-iterator c.loop-one.yielded_by c.next.result
    c.next.new.self c.in-None.is c.next.ensures.steps in
    KeepsAll-put_all c.loop-one.shards (map id_view c.loop-one.yielded)
    (map id_view c.args.entries.items)
    (views-same c.loop-one.yielded c.args.entries.items end.0) c.loop-one.invariant
