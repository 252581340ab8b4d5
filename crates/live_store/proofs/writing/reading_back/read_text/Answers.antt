use Rattle.std.proofs.Common.{◌∙◌, ◌*◌, ap, subst, arith, refl, true, take, Ok}
use Rattle.std.proofs.lemmas.List.{take_all}
use Rattle.news_terms.specs.BlockImage.{chunk_size}
use Rattle.cyc_buffer.specs.Calls.{ReadsBlock}
use Rattle.cyc_buffer.specs.Head.{inside}
use Rattle.cyc_buffer.proofs.ReadingLemmas.{told}
use Rattle.cyc_buffer.specs.declared.answers.StartError.TheVariants as errors
use Rattle.live_store.specs.Started.{ReadsText}
use Rattle.live_store.proofs.FetchLemmas.{one_more}
use Rattle.live_store.proofs.ReadBackLemmas.{chunk_read, covers, merely_next, merely_none}
use Rattle.live_store.proofs.ReadBackLemmas.{merely_read}
use Rattle.live_store.proofs.ReadBackLemmas.{not_gone, not_unknown, refused_reads}
use Rattle.live_store.proofs.ReadBackLemmas.{refused_text, unfailed}
use Rattle.live_store.proofs.writing.reading_back.read_text.Goals as goal

pub returns-in_err-text : goal.returns-in_err-text
returns-in_err-text g c =
    let a = inside c.args.buffer.now in
    told _ errors.Memory c.from_residual.ensures (ReadsText a a c.args.token.now)
    (refused_text a a c.args.token.now errors.Memory (λ h agrees live. tt)
    (refused_reads a a errors.Memory (merely_none a) tt refl))

pub returns-in_err-extend_from_slice-in-Ok-Chunk : goal.returns-in_err-extend_from_slice-in-Ok-Chunk
returns-in_err-extend_from_slice-in-Ok-Chunk g c =
    let a = inside c.args.buffer.now in
    let b = inside c.loop-k.buffer in
    let d = inside c.read_block.new.self in
    told _ errors.Memory c.from_residual-in_err-extend_from_slice-in-Ok-Chunk.ensures
    (ReadsText a d c.args.token.now)
    (refused_text a d c.args.token.now errors.Memory (λ h agrees live. tt)
    (refused_reads a d errors.Memory
    (merely_next a b d c.loop-k.invariant.read (merely_read b d c.args.token.now c.loop-k.k
    c.loop-k.chunk c.read_block.new.chunk c.read_block.result c.read_block.ensures.reads
    c.read_block.ensures.held c.read_block.ensures.stop))
    tt (c.in-Ok-Chunk.ensures.reads.device.no_failure ∙ c.loop-k.invariant.failures)))

pub returns-in-Ok-Gone : goal.returns-in-Ok-Gone
returns-in-Ok-Gone g c =
    let a = inside c.args.buffer.now in
    let b = inside c.loop-k.buffer in
    let d = inside c.read_block.new.self in
    refused_text a d c.args.token.now errors.Damaged
    (λ h agrees live sound. not_gone b d c.args.token.now c.loop-k.k c.loop-k.chunk
    c.read_block.new.chunk h (c.loop-k.invariant.read.same true h agrees) live
    (omega (arith, c.loop-k-test.true, c.size_of-k-end.ensures))
    c.in-Ok-Gone.field-0-0
    (subst (λ r. ReadsBlock b c.args.token.now c.loop-k.k c.loop-k.chunk r c.read_block.new.chunk d)
    (c.in-Ok-Gone.is ∙ ap Ok c.in-Ok-Gone.field-0-is) c.read_block.ensures.reads))
    (refused_reads a d errors.Damaged
    (merely_next a b d c.loop-k.invariant.read (merely_read b d c.args.token.now c.loop-k.k
    c.loop-k.chunk c.read_block.new.chunk c.read_block.result c.read_block.ensures.reads
    c.read_block.ensures.held c.read_block.ensures.stop))
    (λ never. never) (c.in-Ok-Gone.ensures.reads.device.no_failure ∙ c.loop-k.invariant.failures))

pub returns-in-Ok-Unknown : goal.returns-in-Ok-Unknown
returns-in-Ok-Unknown g c =
    let a = inside c.args.buffer.now in
    let b = inside c.loop-k.buffer in
    let d = inside c.read_block.new.self in
    refused_text a d c.args.token.now errors.Damaged
    (λ h agrees live sound. not_unknown b d c.args.token.now c.loop-k.k c.loop-k.chunk
    c.read_block.new.chunk h (c.loop-k.invariant.read.same true h agrees) live
    (omega (arith, c.loop-k-test.true, c.size_of-k-end.ensures))
    (subst (λ r. ReadsBlock b c.args.token.now c.loop-k.k c.loop-k.chunk r c.read_block.new.chunk d)
    (c.in-Ok-Unknown.is ∙ ap Ok c.in-Ok-Unknown.field-0-is) c.read_block.ensures.reads))
    (refused_reads a d errors.Damaged
    (merely_next a b d c.loop-k.invariant.read (merely_read b d c.args.token.now c.loop-k.k
    c.loop-k.chunk c.read_block.new.chunk c.read_block.result c.read_block.ensures.reads
    c.read_block.ensures.held c.read_block.ensures.stop))
    (λ never. never)
    (c.in-Ok-Unknown.ensures.reads.device.no_failure ∙ c.loop-k.invariant.failures))

pub returns-in-Err : goal.returns-in-Err
returns-in-Err g c =
    let a = inside c.args.buffer.now in
    let b = inside c.loop-k.buffer in
    let d = inside c.read_block.new.self in
    refused_text a d c.args.token.now errors.Device (λ h agrees live. tt)
    (refused_reads a d errors.Device
    (merely_next a b d c.loop-k.invariant.read (merely_read b d c.args.token.now c.loop-k.k
    c.loop-k.chunk c.read_block.new.chunk c.read_block.result c.read_block.ensures.reads
    c.read_block.ensures.held c.read_block.ensures.stop))
    tt (omega (arith, c.in-Err.ensures.reads.device.failed, c.loop-k.invariant.failures)))

pub loop-k-preserved : goal.loop-k-preserved
loop-k-preserved g c = record {
  read = (merely_next (inside c.args.buffer.now) (inside c.loop-k.buffer)
      (inside c.read_block.new.self)
      c.loop-k.invariant.read (merely_read (inside c.loop-k.buffer) (inside c.read_block.new.self)
      c.args.token.now c.loop-k.k c.loop-k.chunk c.read_block.new.chunk c.read_block.result
      c.read_block.ensures.reads c.read_block.ensures.held c.read_block.ensures.stop));
  failures = unfailed (inside c.loop-k.buffer) (inside c.read_block.new.self) c.args.token.now
      c.loop-k.k c.loop-k.chunk c.read_block.new.chunk c.in-Ok-Chunk.field-0
      (subst (λ r. ReadsBlock (inside c.loop-k.buffer) c.args.token.now c.loop-k.k c.loop-k.chunk
      r c.read_block.new.chunk (inside c.read_block.new.self)) c.in-Ok-Chunk.is
      c.read_block.ensures.reads)
      ∙ c.loop-k.invariant.failures;
  gathered = λ h agrees live.
      one_more live.article.text live.article.text c.loop-k.k c.loop-k.text.items
      (take c.in-Ok-Chunk.octets c.read_block.new.chunk) c.extend_from_slice.new.self.items refl
      (c.loop-k.invariant.gathered h agrees live)
      (chunk_read (inside c.loop-k.buffer)
      (inside c.read_block.new.self) c.args.token.now c.loop-k.k c.loop-k.chunk
      c.read_block.new.chunk h (c.loop-k.invariant.read.same true h agrees) live
      (omega (arith, c.loop-k-test.true, c.size_of-k-end.ensures)) c.in-Ok-Chunk.octets
      (subst (λ r. ReadsBlock (inside c.loop-k.buffer) c.args.token.now c.loop-k.k c.loop-k.chunk r
      c.read_block.new.chunk (inside c.read_block.new.self))
      (c.in-Ok-Chunk.is ∙ ap Ok c.in-Ok-Chunk.field-0-is) c.read_block.ensures.reads))
      c.in_ok-extend_from_slice-in-Ok-Chunk.ensures.items;
}

pub returns : goal.returns
returns g c = record {
  text = λ h agrees live.
      c.loop-k.invariant.gathered h agrees live
      ∙ take_all (chunk_size * c.loop-k.k) live.article.text (omega (
        arith,
        live.octets,
        covers c.args.token.now.length c.loop-k.k
            (λ less. omega (arith, less, c.size_of-k-end.ensures, c.loop-k-test.false)),
      ));
  refused = λ h agrees live. tt;
  reads = record {
    read = c.loop-k.invariant.read;
    fault = tt;
    failed = tt;
    no_failure = c.loop-k.invariant.failures;
  };
}
