-- A block that is gathered is read out of memory, and any other is the one in the file.
use Rattle.std.proofs.Common.{◌∙◌, sym, refl}
use Rattle.std.proofs.lemmas.Bool.{false≢true}
use Rattle.file_blocks.specs.Run.{blocks_in}
use Rattle.file_blocks.specs.Store.{blocks_there}
use Rattle.file_blocks.proofs.CallLemmas.{honest_as, is_within, same_seen}
use Rattle.file_blocks.proofs.SeenLemmas.{copy_read, gathered_seen, there_seen}
use Rattle.file_blocks.proofs.store.FileBlocksBlockStore.read.Goals as goal

pub returns-then-holds-clause-octets : goal.returns-then-holds-clause-octets
returns-then-holds-clause-octets g c honest =
    let store = c.args.self.now in
    let run = store.gathered in
    let held = c.holds.ensures.0 c.if-holds.true in
    gathered_seen store.count run.first run.count c.args.k (g.F.RunFile.held store.file)
    run.octets.items c.get.new.octets store.gathered_within held.0 held.1 c.get.ensures

pub returns-then-holds-2-clause-octets : goal.returns-then-holds-2-clause-octets
returns-then-holds-2-clause-octets g c honest =
    let store = c.args.self.now in
    let run = store.gathered in
    let copy = store.ahead in
    let held = c.holds-2.ensures.0 c.if-holds-2.true in
    copy_read copy.first copy.count c.args.k (blocks_in copy) (blocks_there g.F.RunFile store)
    c.get-then-holds-2.new.octets honest.ahead held.0 held.1 c.get-then-holds-2.ensures
    ∙ sym (there_seen store.count run.first run.count c.args.k (g.F.RunFile.held store.file)
    run.octets.items store.gathered_within
    (λ since before. absurd
    (false≢true (sym c.if-holds.false ∙ c.holds.ensures.1 (since, before)))))

pub read_there-requires : goal.read_there-requires
read_there-requires g c =
    is_within g.F.RunFile c.args.self.now c.args.self.now.count c.args.k refl c.requires

pub returns-in_err-read_there-clause-count : goal.returns-in_err-read_there-clause-count
returns-in_err-read_there-clause-count g c =
    same_seen g.F.RunFile c.args.self.now c.read_there.new.self c.read_there.ensures.seen.count

pub returns-clause-octets : goal.returns-clause-octets
returns-clause-octets g c honest =
    let store = c.args.self.now in
    let run = store.gathered in
    c.in_ok-read_there.ensures.octets (honest_as g.F.RunFile store _ refl refl refl honest)
    ∙ sym (there_seen store.count run.first run.count c.args.k (g.F.RunFile.held store.file)
    run.octets.items store.gathered_within
    (λ since before. absurd
    (false≢true (sym c.if-holds.false ∙ c.holds.ensures.1 (since, before)))))

pub returns-clause-count : goal.returns-clause-count
returns-clause-count g c =
    same_seen g.F.RunFile c.args.self.now c.read_there.new.self c.read_there.ensures.seen.count

pub get-requires : goal.get-requires
get-requires g c = c.holds.ensures.0 c.if-holds.true

pub get-requires-then-holds-2 : goal.get-requires-then-holds-2
get-requires-then-holds-2 g c = c.holds-2.ensures.0 c.if-holds-2.true

pub returns-then-holds-clause-honest : goal.returns-then-holds-clause-honest
returns-then-holds-clause-honest g c honest =
    honest_as g.F.RunFile c.args.self.now _ refl refl refl honest

pub returns-then-holds-2-clause-honest : goal.returns-then-holds-2-clause-honest
returns-then-holds-2-clause-honest g c honest =
    honest_as g.F.RunFile c.args.self.now _ refl refl refl honest

pub returns-clause-same : goal.returns-clause-same
returns-clause-same g c honest =
    c.read_there.ensures.seen.blocks (honest_as g.F.RunFile c.args.self.now _ refl refl refl honest)

pub returns-clause-heads : goal.returns-clause-heads
returns-clause-heads g c honest =
    c.read_there.ensures.seen.heads (honest_as g.F.RunFile c.args.self.now _ refl refl refl honest)

pub returns-clause-honest : goal.returns-clause-honest
returns-clause-honest g c honest =
    honest_as g.F.RunFile c.read_there.new.self _ refl refl refl
    (c.read_there.ensures.seen.honest
    (honest_as g.F.RunFile c.args.self.now _ refl refl refl honest))

pub returns-clause-file : goal.returns-clause-file
returns-clause-file g c =
    let asks = c.in_ok-read_there.ensures.file in
    record { calls = asks.calls; failed = asks.failed; no_failure = asks.no_failure }

pub returns-clause-calls : goal.returns-clause-calls
returns-clause-calls g c = c.read_there.ensures.asked ∙ c.add_one.ensures

pub returns-in_err-read_there-clause-calls : goal.returns-in_err-read_there-clause-calls
returns-in_err-read_there-clause-calls g c = c.read_there.ensures.asked ∙ c.add_one.ensures

pub invariant_of-self-then-holds-2 : goal.invariant_of-self-then-holds-2
invariant_of-self-then-holds-2 g c =
    let store = c.args.self.now in
    record {
      few = store.few;
      aside_some = store.aside_some;
      gathered_within = store.gathered_within;
      ahead_within = store.ahead_within;
    }

pub invariant_of-self-2 : goal.invariant_of-self-2
invariant_of-self-2 g c =
    let store = c.read_there.new.self in
    record {
      few = store.few;
      aside_some = store.aside_some;
      gathered_within = store.gathered_within;
      ahead_within = store.ahead_within;
    }
