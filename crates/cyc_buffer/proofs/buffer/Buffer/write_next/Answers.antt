-- A write of the next block, and what its failure leaves.
use Rattle.std.proofs.Common.{◌≡◌, ◌<◌, ◌∙◌, ◌+◌, ◌==◌, ℕ, true, length, arith, ap, subst, sym}
use Rattle.std.proofs.Common.{refl, Option, None, Some, ◌^◌, inl, inr}
use Rattle.std.proofs.lemmas.Bool.{cases_eq}
use Rattle.news_terms.specs.Places.{Buffer, size_of}
use Rattle.cyc_block.specs.Store.{ChangesOnly, block_at}
use Rattle.cyc_block.specs.declared.image.Stamp.{Stamp}
use Rattle.cyc_buffer.specs.Marks.{is_marked}
use Rattle.cyc_buffer.specs.Answers.{fault_of}
use Rattle.cyc_buffer.specs.BufferState.{buffer_of}
use Rattle.cyc_buffer.specs.Progress.{IsTheOpen, failed, written_of}
use Rattle.cyc_buffer.specs.declared.answers.BufError.TheVariants as errors
use Rattle.cyc_buffer.specs.declared.answers.FaultKind.TheVariants as kinds
use Rattle.cyc_buffer.specs.declared.buffer_state.Open.{Open}
use Rattle.cyc_buffer.specs.declared.buffer_state.Progress.{Progress}
use Rattle.cyc_buffer.specs.declared.line.Line.{Line}
use Rattle.cyc_buffer.specs.declared.marks.Marks.{Marks}
use Rattle.cyc_buffer.proofs.Writes.{chunk_length, counted_on, fails_by, next_by, image_there}
use Rattle.cyc_buffer.proofs.Writes.{with_error, without_error}
use Rattle.cyc_buffer.proofs.CrashWrites.{left_same, left_write, newest_open, one_image}
use Rattle.cyc_buffer.proofs.CrashWrites.{written_piece}
use Rattle.cyc_buffer.proofs.buffer.Buffer.write_next.Goals as goal

pub block_image-image-requires-clause-some : goal.block_image-image-requires-clause-some
block_image-image-requires-clause-some g c =
    let stamp = c.next_stamp-stamp.result in
    omega (
      arith,
      ap length c.chunk_of.ensures,
      chunk_length stamp.index c.args.text.now,
      ap (λ (s : Stamp). s.index) c.next_stamp-stamp.ensures.stamp,
      c.requires.left,
      c.requires.octets,
    )

pub block_image-image-requires-clause-room : goal.block_image-image-requires-clause-room
block_image-image-requires-clause-room g c =
    omega (
      arith,
      ap length c.chunk_of.ensures,
      chunk_length c.next_stamp-stamp.result.index c.args.text.now,
    )

-- a write that failed is still the open one
still_open : (write : Open) (p : Option Progress) → IsTheOpen write p → IsTheOpen write (failed p)
still_open write None owned = owned
still_open write (Some p) owned = owned

pub write-requires : goal.write-requires
write-requires g c =
    let here = ap (λ (s : Stamp). s.first + s.index) c.next_stamp-stamp.ensures.stamp in
    subst (λ (n : ℕ). n < length (g.S.BlockStore.blocks c.args.self.now.store)) (sym here)
    (subst (λ (n : ℕ). c.args.write.now.token.first
    + written_of c.args.self.now.buffer_state.progress < n) c.args.self.now.counted
    c.next_stamp-stamp.ensures.within)

pub returns-then-is_err : goal.returns-then-is_err
returns-then-is_err g c =
    record {
      written = let stamp = c.next_stamp-stamp.result in record {
        last = tt;
        fault = λ trusted h agrees. ap errors.Device (c.fault-fault.ensures
            ∙ ap (λ (l : Line). fault_of (buffer_of l) kinds.Write stamp.article_length)
            c.mark_broken.ensures.rest.line
            ∙ ap (λ (s : Stamp). fault_of (buffer_of c.args.self.now.buffer_state.line) kinds.Write
            s.article_length) c.next_stamp-stamp.ensures.stamp
            ∙ ap (λ (b : Buffer). fault_of b kinds.Write c.args.write.now.token.length)
            (sym agrees.keeps.buffer));
        written = tt;
        count = tt;
        whole = tt;
        broken = λ trusted h agrees.
            let old = c.args.self.now.buffer_state in
            let here = ap (λ (s : Stamp). s.first + s.index) c.next_stamp-stamp.ensures.stamp in
            let left = fails_by (trusted ≡ true) (g.S.BlockStore.blocks c.args.self.now.store)
            (g.S.BlockStore.blocks c.write.new.self) old c.mark_broken.new.self h c.args.write.now
            agrees.keeps agrees.holds c.mark_broken.ensures.rest old.progress h.writing refl refl
            agrees.keeps.writing
            c.requires.owned c.requires.left c.mark_broken.ensures.progress
            (λ is. subst (λ n. ChangesOnly n (g.S.BlockStore.blocks c.args.self.now.store)
            (g.S.BlockStore.blocks c.write.new.self)) here
            (c.write.ensures.others (agrees.honest is)))
            (λ is. (agrees.holds is).open_one) in
            record {
              keeps = left.0;
              honest = λ is. c.write.ensures.honest (agrees.honest is);
              holds = left.1;
            };
        owned = subst (IsTheOpen c.args.write.now) (sym c.mark_broken.ensures.progress)
            (still_open c.args.write.now c.args.self.now.buffer_state.progress c.requires.owned);
        calls = c.write.ensures.calls;
      };
      fault = ap errors.Device (c.fault-fault.ensures
          ∙ ap (λ (l : Line). fault_of (buffer_of l) kinds.Write
          c.next_stamp-stamp.result.article_length) c.mark_broken.ensures.rest.line
          ∙ ap (λ (s : Stamp). fault_of (buffer_of c.args.self.now.buffer_state.line) kinds.Write
          s.article_length) c.next_stamp-stamp.ensures.stamp);
      starts = λ block is. ap (λ (m : Marks). is_marked m.words.items block)
          (sym c.mark_broken.ensures.rest.starts) ∙ is;
      device = record {
        failed = with_error c.write.result (sym c.is_err.ensures.value ∙ c.if-is_err.true)
            c.write.ensures.failed;
        no_failure = tt;
        honest = c.write.ensures.honest;
        blocks = c.write.ensures.count;
      };
      head = refl;
      leaves = λ h kept agrees left. tt;
      leaves_failed = λ h kept agrees left whole.
          let old = c.args.self.now.buffer_state in
          let blocks = g.S.BlockStore.blocks c.args.self.now.store in
          let after = g.S.BlockStore.blocks c.write.new.self in
          let token = c.args.write.now.token in
          let k = written_of old.progress in
          let here = ap (λ (s : Stamp). s.first + s.index) c.next_stamp-stamp.ensures.stamp in
          let others = subst (λ n. ChangesOnly n blocks after) here
          (c.write.ensures.others (agrees.honest refl)) in
          elim whole [
            | inl same ↦ left_same h kept blocks after c.write.ensures.count
                (λ j. elim (cases_eq j (token.first + k)) [
                  | inl e ↦ subst (λ m. block_at after m ≡ block_at blocks m) (sym e) same
                  | inr n ↦ others j n
                ]) left
            | inr piece ↦ left_write one_image h kept blocks after agrees.keeps.sizes left token
                (newest_open h c.args.write.now old.progress h.writing agrees.keeps.writing
                c.requires.owned) k c.write.ensures.count piece others
          ];
    }

pub returns : goal.returns
returns g c = record {
  written =
      let counted = counted_on c.args.write.now c.args.self.now.buffer_state.progress
      c.count_block.new.self.progress c.requires.owned c.count_block.ensures.progress in
      record {
        last = c.count_block.ensures.last
            ∙ ap (λ (n : ℕ). n == size_of c.args.write.now.token.length) (sym counted.0);
        fault = tt;
        written = λ trusted h continues agrees.
            let old = c.args.self.now.buffer_state in
            let here = ap (λ (s : Stamp). s.first + s.index) c.next_stamp-stamp.ensures.stamp in
            let left = next_by (trusted ≡ true) (g.S.BlockStore.blocks c.args.self.now.store)
            (g.S.BlockStore.blocks c.write.new.self) old c.count_block.new.self h c.args.write.now
            agrees.keeps agrees.holds c.count_block.ensures.rest c.args.text.now c.requires.octets
            old.progress h.writing refl refl agrees.keeps.writing
            c.requires.owned continues c.requires.left c.count_block.ensures.progress
            (λ is. subst (λ n. ChangesOnly n (g.S.BlockStore.blocks c.args.self.now.store)
            (g.S.BlockStore.blocks c.write.new.self)) here
            (c.write.ensures.others (agrees.honest is)))
            (λ is. (agrees.holds is).open_one)
            (λ is. image_there (g.S.BlockStore.blocks c.args.self.now.store)
            (g.S.BlockStore.blocks c.write.new.self) c.next_stamp-stamp.result
            c.args.write.now.token _ c.block_image-image.result c.chunk_of.result.now
            c.args.text.now
            (without_error c.write.result (sym c.is_err.ensures.value ∙ c.if-is_err.false)
            (c.write.ensures.written (agrees.honest is)))
            (omega (arith, here, c.next_stamp-stamp.ensures.within, c.args.self.now.counted))
            c.next_stamp-stamp.ensures.stamp c.block_image-image.ensures c.chunk_of.ensures) in
            record {
              keeps = left.0;
              honest = λ is. c.write.ensures.honest (agrees.honest is);
              holds = left.1;
            };
        count = counted.0;
        whole = counted.1 ∙ c.requires.whole;
        broken = tt;
        owned = counted.2;
        calls = c.write.ensures.calls;
      };
  fault = tt;
  starts = λ block is. ap (λ (m : Marks). is_marked m.words.items block)
      (sym c.count_block.ensures.rest.starts) ∙ is;
  device = record {
    failed = tt;
    no_failure = without_error c.write.result (sym c.is_err.ensures.value ∙ c.if-is_err.false)
        c.write.ensures.no_failure;
    honest = c.write.ensures.honest;
    blocks = c.write.ensures.count;
  };
  head = refl;
  leaves = λ h kept agrees left.
      let old = c.args.self.now.buffer_state in
      let blocks = g.S.BlockStore.blocks c.args.self.now.store in
      let after = g.S.BlockStore.blocks c.write.new.self in
      let token = c.args.write.now.token in
      let k = written_of old.progress in
      let here = ap (λ (s : Stamp). s.first + s.index) c.next_stamp-stamp.ensures.stamp in
      let fits = subst (λ (s : Stamp). (s.cycle < 2 ^ 32) × (s.first < 2 ^ 32)
      × (s.index < 2 ^ 32)) c.next_stamp-stamp.ensures.stamp c.next_stamp-stamp.ensures.fits in
      let newest = newest_open h c.args.write.now old.progress h.writing agrees.keeps.writing
      c.requires.owned in
      let image = image_there blocks after c.next_stamp-stamp.result token k
      c.block_image-image.result c.chunk_of.result.now c.args.text.now
      (without_error c.write.result (sym c.is_err.ensures.value ∙ c.if-is_err.false)
      (c.write.ensures.written (agrees.honest refl)))
      (omega (arith, here, c.next_stamp-stamp.ensures.within, c.args.self.now.counted))
      c.next_stamp-stamp.ensures.stamp c.block_image-image.ensures c.chunk_of.ensures in
      left_write one_image h kept blocks after agrees.keeps.sizes left token newest k
      c.write.ensures.count
      (written_piece h agrees.keeps.sizes token newest after k c.args.text.now c.requires.octets
      c.requires.left fits.0 fits.1 fits.2 image)
      (subst (λ n. ChangesOnly n blocks after) here
      (c.write.ensures.others (agrees.honest refl)));
  leaves_failed = λ h kept agrees left whole.
      let old = c.args.self.now.buffer_state in
      let blocks = g.S.BlockStore.blocks c.args.self.now.store in
      let after = g.S.BlockStore.blocks c.write.new.self in
      let token = c.args.write.now.token in
      let k = written_of old.progress in
      let here = ap (λ (s : Stamp). s.first + s.index) c.next_stamp-stamp.ensures.stamp in
      let fits = subst (λ (s : Stamp). (s.cycle < 2 ^ 32) × (s.first < 2 ^ 32)
      × (s.index < 2 ^ 32)) c.next_stamp-stamp.ensures.stamp c.next_stamp-stamp.ensures.fits in
      let newest = newest_open h c.args.write.now old.progress h.writing agrees.keeps.writing
      c.requires.owned in
      let image = image_there blocks after c.next_stamp-stamp.result token k
      c.block_image-image.result c.chunk_of.result.now c.args.text.now
      (without_error c.write.result (sym c.is_err.ensures.value ∙ c.if-is_err.false)
      (c.write.ensures.written (agrees.honest refl)))
      (omega (arith, here, c.next_stamp-stamp.ensures.within, c.args.self.now.counted))
      c.next_stamp-stamp.ensures.stamp c.block_image-image.ensures c.chunk_of.ensures in
      left_write one_image h kept blocks after agrees.keeps.sizes left token newest k
      c.write.ensures.count
      (written_piece h agrees.keeps.sizes token newest after k c.args.text.now c.requires.octets
      c.requires.left fits.0 fits.1 fits.2 image)
      (subst (λ n. ChangesOnly n blocks after) here
      (c.write.ensures.others (agrees.honest refl)));
}
