use Rattle.std.proofs.Common.{◌∙◌, ◌+◌, ◌++◌, ◌∷◌, [], ap, ap₂, length, map, refl, sym}
use Rattle.std.proofs.Common.{length-append, take}
use Rattle.std.proofs.lemmas.List.{map-append, take_all, take_more}
use Rattle.live_jobs.specs.Mismatches.{mismatched_receipts_in}
use Rattle.relay_live.specs.PeerServers.{kept_of}
use Rattle.relay_live.proofs.Rooms.{index_fits, room_of, still_fits}
use Rattle.relay_live.proofs.running.counted_of.Goals as goal

pub loop-end-init : goal.loop-end-init
loop-end-init g c =
    let none = c.in_ok-answers.ensures.items in
    record {
      room = room_of _ _ _ c.in_ok-answers.ensures.capacity
          (c.len.ensures ∙ c.args.seats.now.services.ok.0
          ∙ sym (ap length c.as_slice-ends.ensures.value));
      long = ap length none;
      finished = ap (map (λ a. a.now)) none;
    }

-- the list of one end more
pub loop-end-preserved : goal.loop-end-preserved
loop-end-preserved g c =
    let all = c.as_slice-ends.result.now in
    let k = c.loop-end.end-index in
    let one = c.end-item.result in
    let within = c.loop-end-test.true in
    let inv = c.loop-end.invariant in
    let pushed = c.push_reserved.ensures in
    record {
      room = still_fits _ _ _ inv.room pushed.capacity;
      long = ap length pushed.items ∙ length-append c.loop-end.answers.items (c.kept.result ∷ [])
          ∙ ap (λ n. n + 1) inv.long;
      finished = ap (map (λ a. a.now)) pushed.items
          ∙ map-append (λ a. a.now) c.loop-end.answers.items (c.kept.result ∷ [])
          ∙ (λ i. inv.finished i ++ c.kept.ensures i ∷ [])
          ∙ sym (map-append kept_of (take k all) (one ∷ []))
          ∙ ap (map kept_of) (sym (take_more all k one within
          ∙ ap (λ each. take k all ++ each ∷ []) (sym c.end-item.is)));
    }

pub push_reserved-requires : goal.push_reserved-requires
push_reserved-requires g c =
    index_fits _ _ _ _ (c.loop-end.answers.ok.0 ∙ c.loop-end.invariant.long) c.loop-end-test.true
    c.loop-end.invariant.room

-- the lists of all ends are those that are compared
pub returns : goal.returns
returns g c =
    let all = c.as_slice-ends.result.now in
    let kept = ap (map (λ a. a.now)) c.as_slice.ensures.value ∙ c.loop-end.invariant.finished
    ∙ ap (map kept_of) (take_all c.loop-end.end-index all c.loop-end-test.false
    ∙ c.as_slice-ends.ensures.value) in
    let told = ap (map (λ w. w.finished.items)) c.as_slice-writers.ensures.value in
    record {
      accepted = refl;
      posted = refl;
      mismatched_receipts = c.in_ok-mismatched_receipts.ensures.count
          ∙ ap₂ mismatched_receipts_in kept told;
    }
