-- What goes from thread to thread.
use denote.RattleType.{RattleType}
use denote.Param.Send.{IsSend, sendable}
use Rattle.live_jobs.specs.contracts.store_result.StoreResult as store_result
use Rattle.cyc_buffer.proofs.answers.Fault.TheSendSync as faults
use Rattle.live_jobs.specs.contracts.desk.both.Posted as posted
use Rattle.live_jobs.specs.contracts.forgetting.Forgotten as forgotten
use Rattle.live_store.proofs.stored.Receipt.TheSendSync as receipts
use Rattle.live_store.specs.declared.record.StorePremises.{Ghosts}
use Rattle.std.specs.contracts.snapshot.Snapshot.{the_row}

-- a snapshot owns nothing, so any thread may have it
snapshot_send : (T : RattleType) → IsSend (the_row T)
snapshot_send T = record {
  owned = λ d vs. ((λ vss. (tt, ((λ uss. (tt, tt)), tt))), tt);
  leaving = λ k f vs. tt;
}

-- what was posted has snapshots alone, so any thread may have it
posted_send : IsSend posted.the_row
posted_send = search (sendable, snapshot_send) depth 14

-- so it may as a field
posted_field_send : IsSend (posted.the_field).row
posted_field_send = search (sendable, snapshot_send, posted_send) depth 14

-- what was given up has snapshots alone, so any thread may have it
forgotten_send : IsSend forgotten.the_row
forgotten_send = search (sendable, snapshot_send) depth 14

-- so it may as a field
forgotten_field_send : IsSend (forgotten.the_field).row
forgotten_field_send = search (sendable, snapshot_send, forgotten_send) depth 14

-- so what became of a job may go to any thread, with all that stands in it
pub store_result_send : (T : RattleType) (g : Ghosts T.Denot) → IsSend (store_result.the_row T g)
store_result_send T g =
    search (
      sendable,
      posted_send,
      posted_field_send,
      forgotten_send,
      forgotten_field_send,
      receipts.the_send,
      receipts.the_field_send,
      faults.the_send,
      faults.the_field_send,
    ) depth 8
