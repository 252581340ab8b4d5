use Rattle.std.proofs.Common.{◌++◌, ◌∷◌, ◌∙◌, [], List, ap, append_assoc, append-nil, arith, map}
use Rattle.std.proofs.Common.{subst, sym}
use Rattle.id_history.specs.declared.kept.KeptId.{KeptId}
use Rattle.id_history.specs.Views.{id_view}
use Rattle.relay_log.specs.Knowing.{KnowsBefore}
use Rattle.relay_log.proofs.Knows.{is_done, knows_both}
use Rattle.relay_log.proofs.folding.say_ids.Goals as goal

-- nothing was said yet
pub loop-one-init : goal.loop-one-init
loop-one-init c = ([], sym (append-nil c.args.ids.items), λ later keeps. keeps)

-- one more was said
pub loop-one-preserved : goal.loop-one-preserved
loop-one-preserved c =
    let done = c.loop-one.invariant.0 in
    let one = c.in-Some.one in (
      one ∷ done,
      c.loop-one.invariant.1 ∙ ap (λ (xs : List KeptId). xs ++ done) c.in-Some.ensures.items
          ∙ append_assoc c.pop.new.self.items (one ∷ []) done,
      knows_both c.args.shards.now c.loop-one.shards c.say_id.new.shards
          (id_view one ∷ []) (map id_view done)
          c.loop-one.invariant.2 c.in_ok-say_id.ensures,
    )

-- all was said
pub returns : goal.returns
returns c =
    subst (λ (xs : List KeptId). KnowsBefore c.args.shards.now c.loop-one.shards
    (map id_view xs))
    (sym (is_done c.loop-one.left.items c.loop-one.invariant.0 c.args.ids.items
    (omega (arith, c.in_default.ensures.cases.0, c.loop-one.left.ok.0))
    c.loop-one.invariant.1))
    c.loop-one.invariant.2
