use Rattle.std.proofs.Common.{ap, ◌∙◌, None}
use Rattle.news_terms.specs.MessageId.{id_fault}
use Rattle.id_history.proofs.OnlyIdsLemmas.{OnlyIds-update}
use Rattle.id_history.proofs.MarkLemmas.{SetsMark-from_update}
use Rattle.id_history.proofs.claims.Shard.remove.Goals as goal

-- the entry is taken away at the text of the id
pub returns : goal.returns
returns c =
    rw (← c.text_of.ensures.value) (SetsMark-from_update _ _ _ None c.remove.ensures.updates)

-- the other keys stay
pub invariant_of-self : goal.invariant_of-self
invariant_of-self c = record {
  ids = OnlyIds-update _ _ c.text_of.result.now None
      (ap id_fault c.text_of.ensures.value ∙ c.text_of.ensures.no_fault)
      c.remove.ensures.updates c.args.self.now.ids;
}
