use Rattle.std.proofs.Common.{◌++◌, ◌∷◌, ◌∙◌, [], List, ap, append_assoc, append-nil, arith, map}
use Rattle.std.proofs.Common.{subst, sym}
use Rattle.relay_log.specs.declared.journal.Entry.{Entry}
use Rattle.relay_log.specs.Folding.{all_told, told}
use Rattle.relay_log.specs.Knowing.{KnowsBefore}
use Rattle.relay_log.specs.Views.{entry_view}
use Rattle.relay_log.proofs.Knows.{is_done, knows_both}
use Rattle.relay_log.proofs.folding.say_entries.Goals as goal

-- nothing was said yet
pub loop-entry-init : goal.loop-entry-init
loop-entry-init c = ([], sym (append-nil c.args.entries.items), λ later keeps. keeps)

-- one more was said
pub loop-entry-preserved : goal.loop-entry-preserved
loop-entry-preserved c =
    let done = c.loop-entry.invariant.0 in
    let one = c.in-Some.entry in (
      one ∷ done,
      c.loop-entry.invariant.1 ∙ ap (λ (xs : List Entry). xs ++ done) c.in-Some.ensures.items
          ∙ append_assoc c.pop.new.self.items (one ∷ []) done,
      knows_both c.args.shards.now c.loop-entry.shards c.say_entry.new.shards
          (told c.args.buffers (entry_view one)) (all_told c.args.buffers (map entry_view done))
          c.loop-entry.invariant.2 c.in_ok-say_entry.ensures,
    )

-- all was said
pub returns : goal.returns
returns c =
    subst (λ (xs : List Entry). KnowsBefore c.args.shards.now c.loop-entry.shards
    (all_told c.args.buffers (map entry_view xs)))
    (sym (is_done c.loop-entry.left.items c.loop-entry.invariant.0 c.args.entries.items
    (omega (arith, c.in_default.ensures.cases.0, c.loop-entry.left.ok.0))
    c.loop-entry.invariant.1))
    c.loop-entry.invariant.2
