-- Blocks of other stamps aren't the token's.
use Rattle.std.proofs.Common.{◌≡◌, ◌≤◌, ◌∙◌, ◌++◌, List, ℕ, not, sym, ap, arith, length, take}
use Rattle.std.proofs.Math.Seq.{take-append_seam}
use Rattle.std.proofs.lemmas.Bool.{false≢true}
use Rattle.std.proofs.lemmas.Slice.{drop-append-drop}
use Rattle.news_terms.specs.BlockImage.{Block}
use Rattle.cyc_block.specs.Image.{stamped}
use Rattle.cyc_block.specs.declared.image.Stamp.{Stamp}
use Rattle.cyc_buffer.specs.Progress.{stamp_of}
use Rattle.cyc_buffer.proofs.Stamps.{agree, stamp_in}
use Rattle.cyc_buffer.proofs.buffer.take_chunk.Goals as goal

-- a block has one stamp
same_stamp : (one other : Stamp) (payload : List ℕ) (b : Block) → stamped one payload ≡ b
    → stamped other b.payload ≡ b → one ≡ other
same_stamp one other payload b is so = ap stamp_in (is ∙ sym so)

pub returns-then-ne-clause-same : goal.returns-then-ne-clause-same
returns-then-ne-clause-same c b block same stamp =
    let s = same_stamp c.in-Some.read.stamp (stamp_of c.args.token.now c.args.k)
    c.in-Some.read.payload.now b (c.in-Some.ensures.read b block same) stamp in
    let all = agree c.in-Some.read.stamp (stamp_of c.args.token.now c.args.k) s in
    absurd (false≢true (sym (ap not all) ∙ sym c.ne.ensures ∙ c.if-ne.true))

-- what was copied to the front is there
front_is : (new rest old payload : List ℕ) → new ≡ old → old ≡ payload
    → take (length old) (new ++ rest) ≡ payload
front_is new rest old payload copied is =
    ap (λ (l : List ℕ). take (length l) (new ++ rest)) (sym copied) ∙ take-append_seam new rest
    ∙ copied ∙ is

no_less : (n : ℕ) → n ≤ n
no_less n = omega arith

pub returns-clause-same : goal.returns-clause-same
returns-clause-same c b block same stamp =
    let payload = ap (λ (one : Block). one.payload) (c.in-Some.ensures.read b block same) in (
      ap length payload,
      front_is c.copy_from_slice.new.self _ c.in-Some.read.payload.now b.payload
          c.copy_from_slice.ensures.after payload,
    )

pub returns-clause-rest : goal.returns-clause-rest
returns-clause-rest c =
    let octets = length c.in-Some.read.payload.now in
    drop-append-drop octets c.args.chunk.now c.copy_from_slice.new.self octets (no_less octets)
    (ap length c.copy_from_slice.ensures.after)
