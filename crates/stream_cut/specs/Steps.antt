-- What one step of a run does, whatever comes after it. No public contract cites it.
use Rattle.std.specs.Prelude.{◌≡◌, ℕ, false, List, [], ◌∷◌, ◌++◌, Option, Some, None}
use Rattle.stream_cut.specs.declared.run.Want.{Want}
use Rattle.stream_cut.specs.declared.run.Want.TheVariants as want
use Rattle.stream_cut.specs.declared.run.Cut.{Cut}
use Rattle.stream_cut.specs.declared.run.Cut.TheVariants as cut
use Rattle.stream_cut.specs.Stream.{Stream, with_dropped}
use Rattle.stream_cut.specs.Cuts.{CutOff, OfTooLong, cut_off, want_and_later}

-- where a line is wanted, all unread octets are kept
abbrev pub KeepsLine : Want → Stream → Type 0
KeepsLine want.Line stream = stream.dropped ≡ 0
KeepsLine want.Block stream = Unit {0}

-- Where more is wanted from a place on, no line was too long; and where that is a line, all unread
-- octets are kept.
abbrev pub GoesOn : List Want → Stream → Type 0
GoesOn [] stream = Unit {0}
GoesOn (want ∷ wants) stream = (stream.overlong ≡ false) × KeepsLine want stream

-- What was cut is what the stream has next, however it goes on, and the new stream is what follows.
pub record Advances (old : Stream) (want : Want) (cut : CutOff) (new : Stream) : Type 0 where
  pub sound : new.overlong ≡ false
  pub kept : new.dropped ≡ 0
  pub limit : new.limit ≡ old.limit
  pub cuts : (later : List ℕ → List CutOff) (more : List ℕ) →
      want_and_later old.limit want later (old.unread ++ more) ≡ cut ∷ later (new.unread ++ more)

-- A line is too long, however the stream goes on.
pub record Ends (old : Stream) (want : Want) (new : Stream) : Type 0 where
  pub limit : new.limit ≡ old.limit
  pub unread : new.unread ≡ old.unread
  pub cuts : (later : List ℕ → List CutOff) (more : List ℕ) →
      want_and_later old.limit want later (old.unread ++ more) ≡ OfTooLong ∷ []

-- What is wanted isn't whole so far, and nothing changes but what is kept of a block.
pub record Waits (old : Stream) (want : Want) (new : Stream) : Type 0 where
  pub left : new ≡ with_dropped old new.dropped
  pub kept : KeepsLine want new
  pub cuts : (later : List ℕ → List CutOff) → want_and_later old.limit want later old.unread ≡ []

-- what a step cuts
abbrev pub CutsNext : Stream → Want → Option Cut → Stream → Type 0
CutsNext old want None new = Waits old want new
CutsNext old want (Some cut.TooLong) new = Ends old want new
CutsNext old want (Some (cut.Line line)) new = Advances old want (cut_off (cut.Line line)) new
CutsNext old want (Some (cut.Block block)) new = Advances old want (cut_off (cut.Block block)) new
