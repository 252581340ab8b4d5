-- Steps of a run over pieces.
use Rattle.std.proofs.Common.{◌≡◌, ℕ, ◌≤◌, false, List, [], ◌∷◌, ◌++◌, length, refl, sym, ap, subst}
use Rattle.std.proofs.Common.{◌∙◌, ⊎_elim, Option, Some, Ok, Err, Vec}
use Rattle.std.proofs.lemmas.Bool.{false≢true}
use Rattle.std.proofs.lemmas.Option.{none-some}
use Rattle.news_terms.specs.Lines.{next_line, NextLine, Cut, TooLong, Incomplete}
use Rattle.news_terms.specs.Blocks.{next_block, NextBlock, unstuffed, Unfinished}
use Rattle.news_terms.specs.Blocks as blocks
use Rattle.news_terms.proofs.LineLemmas.{CutsLine-from_first, no_first_line}
use Rattle.news_terms.proofs.BlockLemmas.{CutsBlock-from_first, first_block-cuts}
use Rattle.std.specs.declared.alloc.Global.{Global}
use Rattle.stream_cut.specs.declared.run.Want.{Want}
use Rattle.stream_cut.specs.declared.run.Cut.TheVariants as cut
use Rattle.stream_cut.specs.declared.cutter.Block.{Block}
use Rattle.stream_cut.specs.declared.cutter.Block.TheVariants as block
use Rattle.stream_cut.specs.declared.cutter.CutError.{CutError}
use Rattle.stream_cut.specs.declared.cutter.CutError.TheVariants.{LineTooLong}
use Rattle.stream_cut.specs.declared.run.Want.TheVariants as want
use Rattle.stream_cut.specs.Stream.{Stream, with_unread, TakesLine, TakesText, PassesOversize}
use Rattle.stream_cut.specs.Stream.{RefusesLine, LineCut, BlockCut, cut_to}
use Rattle.stream_cut.specs.Cuts.{CutOff, OfLine, OfText, OfOversize, cut_off, line_and_later}
use Rattle.stream_cut.specs.Cuts.{block_and_later, cuts_of, CutsUp}
use Rattle.stream_cut.specs.Steps.{Advances, Ends}
use Rattle.stream_cut.proofs.PlaceLemmas.{EndsAt-front}
use Rattle.news_terms.proofs.NextLemmas.{IsNextBlock, next_block-is, next_line-append}
use Rattle.news_terms.proofs.NextLemmas.{too_long-append, whole-append, oversize-append}
use Rattle.stream_cut.proofs.NextLemmas.{IsNextLine, next_line-is}

-- what a step leaves, with more octets
after_step : (old new left : Stream) (more : List ℕ) → new ≡ left
    → left.unread ++ more ≡ new.unread ++ more
after_step old new left more e = ap (λ (s : Stream). s.unread ++ more) (sym e)

-- a line is cut
pub advances_line : (old : Stream) (line : List ℕ) (new : Stream) → TakesLine old line new
    → Advances old want.Line (OfLine line) new
advances_line old line new h = record {
  sound = ap (λ (s : Stream). s.overlong) h.left ∙ h.sound;
  kept = ap (λ (s : Stream). s.dropped) h.left ∙ h.kept;
  limit = ap (λ (s : Stream). s.limit) h.left;
  cuts = λ later more. ap (line_and_later later)
      (next_line-append old.unread line h.rest more h.cut)
      ∙ ap (λ (x : List ℕ). OfLine line ∷ later x)
      (after_step old new (with_unread old h.rest) more h.left);
}

-- a text is cut
pub advances_text : (old : Stream) (text : List ℕ) (new : Stream) → TakesText old text new
    → Advances old want.Block (OfText text) new
advances_text old text new h = record {
  sound = ap (λ (s : Stream). s.overlong) h.left ∙ h.sound;
  kept = ap (λ (s : Stream). s.dropped) h.left ∙ h.kept;
  limit = ap (λ (s : Stream). s.limit) h.left;
  cuts = λ later more. ap (block_and_later later)
      (whole-append old.limit old.unread text h.rest more h.cut)
      ∙ ap (λ (x : List ℕ). OfText text ∷ later x)
      (after_step old new (with_unread old h.rest) more h.left);
}

-- an oversize block is cut
pub advances_oversize : (old new : Stream) → PassesOversize old new
    → Advances old want.Block OfOversize new
advances_oversize old new h = record {
  sound = ap (λ (s : Stream). s.overlong) h.left ∙ h.sound;
  kept = ap (λ (s : Stream). s.dropped) h.left;
  limit = ap (λ (s : Stream). s.limit) h.left;
  cuts = λ later more. ap (block_and_later later)
      (oversize-append old.limit old.unread h.rest more h.cut)
      ∙ ap (λ (x : List ℕ). OfOversize ∷ later x)
      (after_step old new (cut_to old h.rest) more h.left);
}

-- what `line` gives is a step
pub step_line : (old new : Stream) (w : Want) (given : Option (Vec ℕ Global)) (line : Vec ℕ Global)
    → w ≡ want.Line → given ≡ Some line → LineCut old (Ok given) new
    → Advances old w (OfLine line.items) new
step_line old new w given line is e h =
    subst (λ (x : Want). Advances old x (OfLine line.items) new) (sym is)
    (advances_line old line.items new
    (subst (λ (x : Option (Vec ℕ Global)). LineCut old (Ok x) new) e h))

-- what `block` gives is a step
pub step_block : (old new : Stream) (w : Want) (given : Option Block) (b : Block) → w ≡ want.Block
    → given ≡ Some b → BlockCut old (Ok given) new
    → Advances old w (cut_off (cut.Block b)) new
step_block old new w given b is e h =
    subst (λ (x : Want). Advances old x (cut_off (cut.Block b)) new) (sym is)
    (at b (subst (λ (x : Option Block). BlockCut old (Ok x) new) e h))
  where
    at : (b : Block) → BlockCut old (Ok (Some b)) new
        → Advances old want.Block (cut_off (cut.Block b)) new
    at (block.Whole text) h = advances_text old text.items new h
    at block.Oversize h = advances_oversize old new h

-- a line that is too long ends the run
pub step_end : (old new : Stream) (w : Want) (error : CutError) → w ≡ want.Line
    → error ≡ LineTooLong → old.overlong ≡ false → LineCut old (Err error) new → Ends old w new
step_end old new w error is e sound h =
    let refused : RefusesLine old new = subst (λ (x : CutError). LineCut old (Err x) new) e h in
    let long : next_line old.unread ≡ TooLong =
    ⊎_elim (λ was. absurd (false≢true (sym sound ∙ was))) (λ now. now) refused.too_long in
    subst (λ (x : Want). Ends old x new) (sym is) (record {
      limit = ap (λ (s : Stream). s.limit) refused.remembered;
      unread = ap (λ (s : Stream). s.unread) refused.remembered;
      cuts = λ later more. ap (line_and_later later) (too_long-append old.unread more long);
    })

-- nothing is cut off nothing
pub cuts_of-nil : (limit : ℕ) (wants : List Want) → cuts_of limit wants [] ≡ []
cuts_of-nil limit [] = refl
cuts_of-nil limit (want.Line ∷ wants) = refl
cuts_of-nil limit (want.Block ∷ wants) = refl

-- what is left of a stream after a run, with the proof that it was cut up so
abbrev CutsUpSome : ℕ → List Want → List CutOff → List ℕ → Type 0
CutsUpSome limit wants cuts stream = (rest : List ℕ) × CutsUp limit wants cuts stream rest

-- one line, and what is cut after it
cuts_up-line : (limit : ℕ) (wants : List Want) (later : List ℕ → List CutOff)
    → ((s : List ℕ) → CutsUpSome limit wants (later s) s)
    → (stream : List ℕ) (n : NextLine) → IsNextLine stream n
    → CutsUpSome limit (want.Line ∷ wants) (line_and_later later n) stream
cuts_up-line limit wants later ih stream (Cut line after) h =
    let rest = ih after in (
      rest.0,
      (
        after,
        record { cuts = CutsLine-from_first stream line after h.0; fits = h.1 },
        rest.1,
      ),
    )
cuts_up-line limit wants later ih stream TooLong h = (
  stream,
  (
    refl,
    refl,
    record {
      long = h.0;
      none =
          λ line rest cut. h.1 (length line) (EndsAt-front stream line rest cut.whole);
    },
  ),
)
cuts_up-line limit wants later ih stream Incomplete h = (
  stream,
  (
    refl,
    record {
      short = h.0;
      none =
          λ line rest cut. no_first_line stream line rest h.1 cut.whole;
    },
  ),
)

-- one block, and what is cut after it
cuts_up-block : (limit : ℕ) (wants : List Want) (later : List ℕ → List CutOff)
    → ((s : List ℕ) → CutsUpSome limit wants (later s) s)
    → (stream : List ℕ) (n : NextBlock) → IsNextBlock limit stream n
    → CutsUpSome limit (want.Block ∷ wants) (block_and_later later n) stream
cuts_up-block limit wants later ih stream (blocks.Whole text after) h =
    let rest = ih after in
    let short = subst (λ (x : List ℕ). length x ≤ limit) (sym h.2) h.3 in (
      rest.0,
      (
        after,
        record {
          lines = h.0;
          cuts = CutsBlock-from_first stream h.0 after h.1;
          unstuffs = h.2;
        },
        short,
        rest.1,
      ),
    )
cuts_up-block limit wants later ih stream (blocks.Oversize after) h =
    let rest = ih after in (
      rest.0,
      (
        unstuffed h.0,
        after,
        record { lines = h.0; cuts = CutsBlock-from_first stream h.0 after h.1; unstuffs = refl },
        h.2,
        rest.1,
      ),
    )
cuts_up-block limit wants later ih stream Unfinished h = (
  stream,
  (
    refl,
    λ lines after cut. none-some (lines, after)
        (sym h ∙ first_block-cuts stream lines after cut),
  ),
)

-- what a run cuts and a rest are the stream
pub cuts_up : (limit : ℕ) (wants : List Want) (stream : List ℕ)
    → CutsUpSome limit wants (cuts_of limit wants stream) stream
cuts_up limit [] stream = (stream, refl)
cuts_up limit (want.Line ∷ wants) stream =
    cuts_up-line limit wants (λ rest. cuts_of limit wants rest) (λ s. cuts_up limit wants s) stream
    (next_line stream) (next_line-is stream)
cuts_up limit (want.Block ∷ wants) stream =
    cuts_up-block limit wants (λ rest. cuts_of limit wants rest) (λ s. cuts_up limit wants s) stream
    (next_block limit stream) (next_block-is limit stream)
