use Rattle.std.proofs.Common.{◌∙◌, ◌<◌, ◌+◌, ◌*◌, ◌==◌, Bool, arith, ap, cond, length}
use Rattle.std.specs.Int.{bit_at}
use Rattle.std.proofs.lemmas.List.{length-set, get_or_default}
use Rattle.cyc_buffer.specs.Marks.{is_marked, is_among}
use Rattle.cyc_buffer.proofs.MarkLemmas.{all_words, marks_of_word}
use Rattle.cyc_buffer.proofs.marks.Marks.change.Goals as goal

pub loop-word-preserved : goal.loop-word-preserved
loop-word-preserved c =
    let within : c.loop-word.word < length c.loop-word.self.words.items =
    omega (
      arith,
      c.loop-word-test.true,
      c.div_ceil-word-end.ensures,
      c.requires,
      c.loop-word.invariant.length,
    ) in
    record {
      marks = marks_of_word c.loop-word.self.words.items (is_marked c.args.self.now.words.items)
          c.loop-word.word
          c.change_bits.result c.args.from c.args.to c.args.value within c.loop-word.invariant.marks
          (λ i h. c.change_bits.ensures i h
          ∙ ap (λ (b : Bool). cond b c.args.value (bit_at c.index-old.result.now i == 1))
          (c.mask-mask.ensures i h)
          ∙ ap (λ w. cond (is_among c.args.from c.args.to (c.loop-word.word * 64 + i)) c.args.value
          (bit_at w i == 1))
          (c.index-old.ensures ∙ get_or_default c.loop-word.self.words.items c.loop-word.word
          c.index-old.result.now 0 within));
      length = length-set c.loop-word.self.words.items c.loop-word.word c.change_bits.result
          ∙ c.loop-word.invariant.length;
    }

pub returns-clause-changed : goal.returns-clause-changed
returns-clause-changed c j =
    c.loop-word.invariant.marks j
    ∙ all_words c.args.from c.args.to c.loop-word.word j c.args.value
    (is_marked c.args.self.now.words.items j)
    (omega (arith, c.loop-word-test.false, c.div_ceil-word-end.ensures))
