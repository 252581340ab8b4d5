use Rattle.std.proofs.Common.{inl, inr, refl, subst}
use Rattle.std.proofs.lemmas.Result.{IfOk-weaker}
use Rattle.relay_recovery.proofs.Repairs.{both_ok, with_repair_on}
use Rattle.relay_startup.specs.Unstopped.{IsUnstoppedBy}
use Rattle.relay_recovery.proofs.repairing.go_on.Goals as goal

-- what is repaired was left without a stop, and what is kept is what the repair gave
pub returns-then-unstopped-clause-goes : goal.returns-then-unstopped-clause-goes
returns-then-unstopped-clause-goes g c =
    let taken = c.in_ok-stores.field-0.text in
    let told =
    subst (λ unstopped. IsUnstoppedBy g.S.BlockStore c.args.config.now taken.items
    c.args.left.stores.items unstopped) c.if-unstopped.true c.in_ok-stores.ensures.told in
    IfOk-weaker c.repaired_with.result _ _
    (λ stopped both. record {
      taken = taken;
      by_name = c.in_ok-stores.ensures.taken;
      goes =
          inr (
            told,
            with_repair_on c.args.config.now taken.items stopped c.args.journal.now
                c.repaired_with.new.journal c.in_ok-stores.ensures.unwritten both.0,
            both.1,
          );
    })
    (both_ok c.repaired_with.result _ _ c.repaired_with.ensures.repaired
    c.repaired_with.ensures.kept)

-- what was stopped is gone on with as it is
pub returns-clause-goes : goal.returns-clause-goes
returns-clause-goes g c = record {
  taken = c.in_ok-stores.field-0.text;
  by_name = c.in_ok-stores.ensures.taken;
  goes =
      inl (
        subst (λ unstopped. IsUnstoppedBy g.S.BlockStore c.args.config.now
            c.in_ok-stores.field-0.text.items c.args.left.stores.items unstopped)
            c.if-unstopped.false c.in_ok-stores.ensures.told,
        refl,
        c.in_ok-stores.ensures.unwritten,
        refl,
        refl,
      );
}
