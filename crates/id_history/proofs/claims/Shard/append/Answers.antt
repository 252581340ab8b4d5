use Rattle.std.proofs.Common.{◌≡◌, ◌∙◌, ◌++◌, ◌∷◌, ap, sym, arith, Option, None, Some}
use Rattle.std.proofs.Common.{ℕ, length, map, vec_len, vec_capacity}
use Rattle.std.proofs.lemmas.List.{map_push}
use Rattle.std.proofs.lemmas.Map.Iter.{hash_map_turn, iter_end}
use Rattle.std.specs.Map.Iter.{deref_pair}
use Rattle.std.specs.String.{string_bytes, string_eq_equiv}
use Rattle.cyc_token.specs.declared.Token as code
use Rattle.news_terms.specs.MessageId.{id_fault}
use Rattle.id_history.specs.Views.{id_view}
use Rattle.id_history.proofs.FitLemmas.{fits-push, kept_now, one_more}
use Rattle.id_history.proofs.LastingLemmas.{Gathers-from_entries, gathered-all, kept-more}
use Rattle.id_history.proofs.LastingLemmas.{none_more}
use Rattle.id_history.proofs.OnlyIdsLemmas.{OnlyIds-entry}
use Rattle.id_history.proofs.RoomLemmas.{room_left, split_at}
use Rattle.id_history.proofs.claims.Shard.append.Goals as goal

-- what has an entry is a message-id
pub id_of-requires : goal.id_of-requires
id_of-requires c =
    let turn = hash_map_turn deref_pair c.loop-text.yielded c.into_iter-text-iterator.result
    c.loop-text.text-iterator c.next.new.self c.next.result (c.in-Some.text, c.in-Some.entry)
    c.loop-text.yielded_by c.in-Some.is c.next.ensures.steps string_eq_equiv
    c.args.self.now.entries
    (c.into_iter-text-iterator.ensures.into_iter_gives ∙ c.iter-text-items.ensures.rest)
    c.iter-text-items.ensures.unique in
    ap id_fault c.as_str.ensures.value
    ∙ OnlyIds-entry c.args.self.now.entries (string_bytes c.in-Some.text.now) _
    c.args.self.now.ids turn.1

-- there is room for one more
pub push_reserved-requires : goal.push_reserved-requires
push_reserved-requires c =
    let pair = deref_pair (c.in-Some.text, c.in-Some.entry) in
    let all = c.args.self.now.entries.entries in
    let split : all ≡ map deref_pair c.loop-text.yielded ++ pair ∷ c.next.new.self =
    sym (c.into_iter-text-iterator.ensures.into_iter_gives ∙ c.iter-text-items.ensures.rest)
    ∙ split_at deref_pair c.loop-text.yielded c.into_iter-text-iterator.result
    c.loop-text.text-iterator c.next.new.self c.next.result (c.in-Some.text, c.in-Some.entry)
    c.loop-text.yielded_by c.in-Some.is c.next.ensures.steps in
    let left = kept_now pair c.fate.result (Some (c.in-Some-fate.token, c.in-Some-fate.moment))
    c.fate.ensures c.in-Some-fate.is in
    room_left c.args.list.now.items c.loop-text.list.items (vec_len c.args.list.now)
    (vec_len c.loop-text.list) (vec_capacity c.loop-text.list)
    (map deref_pair c.loop-text.yielded) c.next.new.self all pair split c.loop-text.invariant.0
    (sym c.args.list.now.ok.0) (sym c.loop-text.list.ok.0)
    (omega (arith, c.requires, c.loop-text.invariant.1)) (ap length left)

-- nothing is left of the entry
pub loop-text-preserved : goal.loop-text-preserved
loop-text-preserved c =
    let pair = deref_pair (c.in-Some.text, c.in-Some.entry) in (
      none_more (map id_view c.args.list.now.items) (map id_view c.loop-text.list.items)
          (map deref_pair c.loop-text.yielded) _ pair
          (map_push deref_pair c.loop-text.yielded (c.in-Some.text, c.in-Some.entry))
          c.loop-text.invariant.0
          (kept_now pair c.fate.result None c.fate.ensures c.in_default.is),
      c.loop-text.invariant.1,
      c.loop-text.invariant.2,
    )

-- one more is left
pub loop-text-preserved-in-Some-fate : goal.loop-text-preserved-in-Some-fate
loop-text-preserved-in-Some-fate c =
    let pair = deref_pair (c.in-Some.text, c.in-Some.entry) in
    let fate : Option code.Token × ℕ = (c.in-Some-fate.token, c.in-Some-fate.moment) in (
      kept-more (map id_view c.args.list.now.items) (map id_view c.loop-text.list.items)
          (map id_view c.push_reserved.new.self.items) (map deref_pair c.loop-text.yielded) _
          pair (map_push deref_pair c.loop-text.yielded (c.in-Some.text, c.in-Some.entry))
          c.loop-text.invariant.0
          (one_more c.loop-text.list.items c.push_reserved.new.self.items c.kept.result pair fate
          c.in_ok-id.id c.push_reserved.ensures.items c.kept.ensures.value
          (c.in_ok-id.ensures ∙ c.as_str.ensures.value)
          (kept_now pair c.fate.result (Some fate) c.fate.ensures c.in-Some-fate.is)),
      c.push_reserved.ensures.capacity ∙ c.loop-text.invariant.1,
      λ begun. fits-push c.loop-text.list.items c.push_reserved.new.self.items c.kept.result
          c.push_reserved.ensures.items (c.loop-text.invariant.2 begun) c.kept.ensures.fits,
    )

-- at the end these are all entries
pub returns-clause-gathers : goal.returns-clause-gathers
returns-clause-gathers c =
    let all = iter_end deref_pair c.args.self.now.entries.entries c.loop-text.yielded
    c.into_iter-text-iterator.result c.loop-text.text-iterator c.next.new.self c.next.result
    (c.into_iter-text-iterator.ensures.into_iter_gives ∙ c.iter-text-items.ensures.rest)
    c.loop-text.yielded_by c.in-None.is c.next.ensures.steps in
    Gathers-from_entries c.args.self.now (map id_view c.args.list.now.items)
    (map id_view c.loop-text.list.items) c.iter-text-items.ensures.unique
    (gathered-all _ _ _ _ c.loop-text.invariant.0 all.0)
