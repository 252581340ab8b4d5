use Rattle.std.proofs.Common.{◌≡◌, ◌∙◌, ◌+◌, ◌∷◌, ◌++◌, [], ap, append-nil, append_assoc, arith}
use Rattle.std.proofs.Common.{get_or, length-append, refl, subst, sym}
use Rattle.relay_devices.specs.Syncing.{deeds_of, round_of}
use Rattle.relay_devices.proofs.Rounds.{none_flushed, one_flushed}
use Rattle.relay_devices.proofs.syncing.flush_round.Goals as goal

-- at first nothing was done,
pub loop-file-init : goal.loop-file-init
loop-file-init g c =
    let old = g.S.Syncer.done c.args.syncer.now in (
      [],
      refl,
      sym (append-nil old) ∙ ap (λ list. old ++ list) (sym (none_flushed c.args.files.now)),
    )

-- then one file more was flushed,
pub loop-file-preserved : goal.loop-file-preserved
loop-file-preserved g c =
    let before = c.loop-file.invariant in
    let one = c.flush_one.ensures in
    let old = g.S.Syncer.done c.args.syncer.now in (
      before.0 ++ one.failed ∷ [],
      length-append before.0 (one.failed ∷ []) ∙ ap (λ n. n + 1) before.1,
      one.done
          ∙ ap (λ list. list ++ deeds_of c.file-item.result one.failed)
          (c.sees_end.ensures.done ∙ before.2)
          ∙ append_assoc old (round_of c.args.files.now before.0) _
          ∙ ap (λ list. old ++ list) (sym (one_flushed c.args.files.now before.0
          c.file-item.result one.failed (omega (arith, before.1, c.loop-file-test.true))
          (subst (λ n. c.file-item.result ≡ get_or c.args.files.now n c.file-item.result)
          (sym before.1) c.file-item.is))),
    )
