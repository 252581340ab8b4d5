-- The block is gathered, or written past what is set aside.
use Rattle.std.proofs.Common.{◌∙◌, ◌-◌, refl, sym}
use Rattle.std.proofs.lemmas.Bool.{false≢true}
use Rattle.std.proofs.lemmas.Result.{on_ok_weaker}
use Rattle.file_blocks.proofs.CallLemmas.{any_err, honest_as, is_within, same_seen}
use Rattle.file_blocks.proofs.KeptLemmas.{all_written, in_file}
use Rattle.file_blocks.proofs.store.FileBlocksBlockStore.write.Goals as goal

pub write_past-requires-clause-within : goal.write_past-requires-clause-within
write_past-requires-clause-within g c =
    is_within g.F.RunFile c.args.self.now c.args.self.now.count c.args.k refl c.requires

pub gather-requires : goal.gather-requires
gather-requires g c = record {
  within = is_within g.F.RunFile c.args.self.now c.args.self.now.count c.args.k refl c.requires;
}

pub returns-then-self-clause-count : goal.returns-then-self-clause-count
returns-then-self-clause-count g c =
    same_seen g.F.RunFile c.args.self.now c.write_past.new.self c.write_past.ensures.block.count

pub returns-clause-others : goal.returns-clause-others
returns-clause-others g c honest =
    c.gather.ensures.block.others (honest_as g.F.RunFile c.args.self.now _ refl refl refl honest)

pub returns-clause-article : goal.returns-clause-article
returns-clause-article g c b block is ends =
    on_ok_weaker c.gather.result
    (λ none. all_written c.gather.new.self (c.args.k - b.index) c.args.k none)
    (c.gather.ensures.last b block is ends)

pub returns-clause-count : goal.returns-clause-count
returns-clause-count g c =
    same_seen g.F.RunFile c.args.self.now c.gather.new.self c.gather.ensures.block.count

pub returns-then-self-clause-once : goal.returns-then-self-clause-once
returns-then-self-clause-once g c aside b block is passes =
    let asks = c.write_past.ensures.once b block is passes in
    record { calls = asks.calls; failed = asks.failed; no_failure = asks.no_failure }

pub returns-then-self-clause-rest : goal.returns-then-self-clause-rest
returns-then-self-clause-rest g c aside =
    let kept = c.write_past.ensures.aside in
    record { no_more = kept.no_more; rest = kept.rest; aside = kept.aside }

pub returns-then-self-clause-written : goal.returns-then-self-clause-written
returns-then-self-clause-written g c honest =
    c.write_past.ensures.block.written
    (honest_as g.F.RunFile c.args.self.now _ refl refl refl honest)

pub returns-then-self-clause-honest : goal.returns-then-self-clause-honest
returns-then-self-clause-honest g c honest =
    c.write_past.ensures.block.honest
    (honest_as g.F.RunFile c.args.self.now _ refl refl refl honest)

pub returns-then-self-clause-there : goal.returns-then-self-clause-there
returns-then-self-clause-there g c aside honest =
    c.write_past.ensures.there (honest_as g.F.RunFile c.args.self.now _ refl refl refl honest)

pub returns-then-self-clause-last : goal.returns-then-self-clause-last
returns-then-self-clause-last g c free = absurd (free c.if-self.true)

pub returns-then-self-clause-article : goal.returns-then-self-clause-article
returns-then-self-clause-article g c b block is ends = c.write_past.ensures.article b block is

pub returns-then-self-clause-aside : goal.returns-then-self-clause-aside
returns-then-self-clause-aside g c =
    any_err c.write_past.result c.write_past.ensures.aside.aside

pub returns-clause-written : goal.returns-clause-written
returns-clause-written g c honest =
    c.gather.ensures.block.written (honest_as g.F.RunFile c.args.self.now _ refl refl refl honest)

pub returns-clause-honest : goal.returns-clause-honest
returns-clause-honest g c honest =
    c.gather.ensures.block.honest (honest_as g.F.RunFile c.args.self.now _ refl refl refl honest)

pub returns-clause-there : goal.returns-clause-there
returns-clause-there g c aside = absurd (false≢true (sym c.if-self.false ∙ aside))

pub returns-clause-rest : goal.returns-clause-rest
returns-clause-rest g c aside = absurd (false≢true (sym c.if-self.false ∙ aside))

pub returns-clause-once : goal.returns-clause-once
returns-clause-once g c aside = absurd (false≢true (sym c.if-self.false ∙ aside))

pub returns-then-self-clause-calls : goal.returns-then-self-clause-calls
returns-then-self-clause-calls g c = c.write_past.ensures.asked ∙ c.add_one.ensures

pub returns-clause-calls : goal.returns-clause-calls
returns-clause-calls g c = c.gather.ensures.asked ∙ c.add_one.ensures

pub returns-then-self-clause-kept : goal.returns-then-self-clause-kept
returns-then-self-clause-kept g c b block is ends =
    on_ok_weaker c.write_past.result
    (λ written. in_file g.F.RunFile c.write_past.new.self (c.args.k - b.index) c.args.k written)
    (c.write_past.ensures.article b block is)

pub returns-clause-kept : goal.returns-clause-kept
returns-clause-kept g c b block is ends =
    on_ok_weaker c.gather.result
    (λ none.
    in_file g.F.RunFile c.gather.new.self (c.args.k - b.index) c.args.k
    (all_written c.gather.new.self (c.args.k - b.index) c.args.k none))
    (c.gather.ensures.last b block is ends)
