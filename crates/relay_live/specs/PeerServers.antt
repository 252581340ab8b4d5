-- What an end says of itself.
use Rattle.std.specs.Prelude.{ℕ, List}
use Rattle.article_verdict.specs.Config.{terms_of}
use Rattle.cyc_block.specs.declared.store.BlockStore as blocks
use Rattle.live_jobs.specs.declared.store_result.KeptJob.{KeptJob}
use Rattle.live_store.specs.declared.record.StorePremises as store_premises
use Rattle.relay_live.specs.declared.peer_server.PeerServer.{PeerServer}
use Rattle.relay_live.specs.declared.register_ref.RegisterRef as register_ref
use Rattle.relay_model.specs.Terms.{Terms}
use Rattle.post_history.specs.declared.book.Naming as naming

-- the jobs that its sessions answered kept, in the order of the answers
abbrev pub kept_of : {X S J L C G Q : Type 0} {s : blocks.Ghosts S}
    {j : store_premises.Ghosts J} {n : naming.Ghosts J}
    {q : register_ref.Ghosts Q} → PeerServer X S J L C G Q s j n q → List (KeptJob J j)
kept_of end = end.kept.items

-- the number of its peer
abbrev pub peer_of : {X S J L C G Q : Type 0} {s : blocks.Ghosts S}
    {j : store_premises.Ghosts J} {n : naming.Ghosts J}
    {q : register_ref.Ghosts Q} → PeerServer X S J L C G Q s j n q → ℕ
peer_of end = end.peer

-- the terms of its configuration
abbrev pub terms_at : {X S J L C G Q : Type 0} {s : blocks.Ghosts S}
    {j : store_premises.Ghosts J} {n : naming.Ghosts J}
    {q : register_ref.Ghosts Q} → PeerServer X S J L C G Q s j n q → Terms
terms_at end = terms_of end.config.now
