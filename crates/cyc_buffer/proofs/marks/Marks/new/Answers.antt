use Rattle.std.proofs.Common.{◌≡◌, ◌<◌, ◌∙◌, ◌++◌, ◌∷◌, [], ℕ, List, arith, ap, length}
use Rattle.std.proofs.lemmas.List.{length-replicate, replicate_more}
use Rattle.cyc_buffer.specs.Marks.{is_marked}
use Rattle.cyc_buffer.proofs.MarkLemmas.{none_marked}
use Rattle.cyc_buffer.proofs.marks.Marks.new.Goals as goal

pub returns-clause-none : goal.returns-clause-none
returns-clause-none c j = ap (λ (ws : List ℕ). is_marked ws j) c.loop-word.invariant.0
    ∙ none_marked c.loop-word._word j

pub returns-clause-room : goal.returns-clause-room
returns-clause-room c =
    omega (
      arith,
      c.loop-word-test.false,
      c.div_ceil-count.ensures,
      ap length c.loop-word.invariant.0,
      length-replicate {A = ℕ} c.loop-word._word 0,
    )

-- the words so far are fewer than there is room for
fewer : {count length words room : ℕ} → words < count → length ≡ words → room ≡ count
    → length < room
fewer more same least = omega arith

pub push_reserved-requires : goal.push_reserved-requires
push_reserved-requires c =
    fewer c.loop-word-test.true
    (c.loop-word.words.ok.0 ∙ ap length c.loop-word.invariant.0
    ∙ length-replicate {A = ℕ} c.loop-word._word 0) c.loop-word.invariant.1

pub loop-word-preserved : goal.loop-word-preserved
loop-word-preserved c = (
  c.push_reserved.ensures.items ∙ ap (λ (ws : List ℕ). ws ++ 0 ∷ []) c.loop-word.invariant.0
      ∙ replicate_more c.loop-word._word 0,
  c.push_reserved.ensures.capacity ∙ c.loop-word.invariant.1,
)
