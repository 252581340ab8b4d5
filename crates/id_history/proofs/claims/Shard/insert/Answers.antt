use Rattle.std.proofs.Common.{rules, ap, ◌∙◌, Some}
use Rattle.std.specs.String.{string_bytes}
use Rattle.news_terms.specs.MessageId.{id_fault}
use Rattle.id_history.proofs.MarkLemmas.{SetsMark-from_update, SameMarks-from_entries}
use Rattle.id_history.proofs.OnlyIdsLemmas.{OnlyIds-update, OnlyIds-same}
use Rattle.id_history.proofs.OwnLemmas.{either_way}
use Rattle.id_history.proofs.claims.Shard.insert.Goals as goal

-- the map stays where it has no memory for the entry
pub returns-in_err-insert-clause-err : goal.returns-in_err-insert-clause-err
returns-in_err-insert-clause-err c = search (rules, SameMarks-from_entries)

-- the key has the octets of the id
pub returns-clause-ok : goal.returns-clause-ok
returns-clause-ok c =
    rw (← c.into_string.ensures)
    (SetsMark-from_update _ _ _ _ c.in_ok-insert.ensures.updates)

-- the key is a message-id, and where there is no memory the entries stay
pub invariant_of-self : goal.invariant_of-self
invariant_of-self c =
    let is_id = ap id_fault c.into_string.ensures ∙ c.as_bytes-octets.ensures.no_fault in
    record {
      ids = either_way c.insert.result c.insert.ensures.updates c.insert.ensures.err
          (λ update. OnlyIds-update c.args.self.now.entries c.insert.new.self
          (string_bytes c.into_string.result) (Some c.args.entry) is_id update
          c.args.self.now.ids)
          (λ same. OnlyIds-same c.args.self.now.entries c.insert.new.self same
          c.args.self.now.ids);
    }
