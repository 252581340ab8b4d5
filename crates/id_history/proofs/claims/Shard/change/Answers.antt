use Rattle.std.proofs.Common.{ap, ◌∙◌, None, rules}
use Rattle.news_terms.specs.MessageId.{id_fault}
use Rattle.id_history.proofs.OnlyIdsLemmas.{OnlyIds-update}
use Rattle.id_history.proofs.MarkLemmas.{SetsMark-from_update, mark_at-entry}
use Rattle.id_history.proofs.claims.Shard.change.Goals as goal

-- the entry is written at the text of the id
pub returns-in-Some : goal.returns-in-Some
returns-in-Some c =
    let written = c.get_mut.follows.holds c.args.entry in
    rw (← c.text_of.ensures.value) (SetsMark-from_update _ _ _ _ (written.3 (search rules)))

-- an id that has a mark has an entry
pub returns-in_default : goal.returns-in_default
returns-in_default c =
    absurd (c.requires (rw (← c.text_of.ensures.value) (mark_at-entry _ _ None (search rules))))

-- the keys stay
pub invariant_of-self : goal.invariant_of-self
invariant_of-self c =
    let written = c.get_mut.follows.holds c.args.entry in
    record {
      ids = OnlyIds-update _ _ c.text_of.result.now _
          (ap id_fault c.text_of.ensures.value ∙ c.text_of.ensures.no_fault)
          (written.3 (search rules)) c.args.self.now.ids;
    }
