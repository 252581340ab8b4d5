use Rattle.std.proofs.Common.{◌<◌, ◌^◌, Some, ap, arith, length, refl, subst}
use Rattle.std.proofs.lemmas.List.{length-map}
use Rattle.std.proofs.lemmas.Option.{slice_get_within}
use Rattle.std.proofs.lemmas.Result.{IfOk-weaker, IfErr-weaker}
use Rattle.relay_remains.specs.Heads.{AreUnwritten, TellsEnds}
use Rattle.relay_repair.proofs.FoundOver.{left_repairs_on}
use Rattle.relay_repair.proofs.RefusedAs.{by_head, may_have_ended, refused_over}
use Rattle.relay_repair.specs.Refusing.{IsRefusedAfter}
use Rattle.relay_repair.specs.Telling.{last_lent}
use Rattle.relay_repair.proofs.repairing.repair_after.Goals as goal

pub returns-in-Ok-clause-repaired : goal.returns-in-Ok-clause-repaired
returns-in-Ok-clause-repaired g c =
    IfOk-weaker c.repair_found.result _ _
    (λ stopped repairs in_time.
    left_repairs_on c.args.config.now (last_lent c.args.old) c.args.now stopped.stores.items
    stopped.history.items
    (subst (λ told. AreUnwritten g.S.BlockStore told c.args.stores.items
    c.looked_at-stores.result.0.items) c.in-Ok.is c.looked_at-stores.ensures.unwritten)
    (repairs in_time))
    c.repair_found.ensures.repaired

pub returns-in-Ok-clause-refused : goal.returns-in-Ok-clause-refused
returns-in-Ok-clause-refused g c =
    IfErr-weaker c.repair_found.result _ _
    (λ refused unshut.
    subst (λ stop. IsRefusedAfter g.S.BlockStore stop c.args.stores.items refused)
    c.last_stop.ensures
    (refused_over c.last_stop.result c.args.stores.items c.looked_at-stores.result.0.items
    (subst (λ told. AreUnwritten g.S.BlockStore told c.args.stores.items
    c.looked_at-stores.result.0.items) c.in-Ok.is c.looked_at-stores.ensures.unwritten)
    (may_have_ended c.last_stop.result c.args.stores.items c.in-Ok.field-0
    (subst (λ told. TellsEnds g.S.BlockStore c.last_stop.result c.args.stores.items told)
    c.in-Ok.is c.looked_at-stores.ensures.told))
    refused unshut))
    c.repair_found.ensures.refused

pub returns-in-Err-clause-refused : goal.returns-in-Err-clause-refused
returns-in-Err-clause-refused g c =
    let told =
    subst (λ told. TellsEnds g.S.BlockStore c.last_stop.result c.args.stores.items told)
    c.in-Err.is c.looked_at-stores.ensures.told in
    let few : c.in-Err.fault.place < 2 ^ 8 =
    omega (
      arith,
      slice_get_within c.args.stores.items c.in-Err.fault.place told.store told.there,
      ap length c.requires,
      length-map c.args.stores.items (λ store. length (g.S.BlockStore.blocks store)),
      length-map c.args.config.now.buffers.buffers.items (λ buffer. buffer.blocks),
      c.args.config.now.buffers.few_buffers,
    ) in
    subst (λ stop. IsRefusedAfter g.S.BlockStore stop c.args.stores.items (record {
      stores = c.looked_at-stores.result.0;
      buffer = Some c.number_of.result;
      error = c.in-Err.fault.error;
    })) c.last_stop.ensures
    (by_head c.last_stop.result c.args.stores.items c.in-Err.fault (record {
      stores = c.looked_at-stores.result.0;
      buffer = Some c.number_of.result;
      error = c.in-Err.fault.error;
    }) told refl
    (ap Some (c.number_of.ensures few))
    (subst (λ told. AreUnwritten g.S.BlockStore told c.args.stores.items
    c.looked_at-stores.result.0.items) c.in-Err.is c.looked_at-stores.ensures.unwritten))
