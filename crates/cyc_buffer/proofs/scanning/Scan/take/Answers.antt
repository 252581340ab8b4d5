-- One block more of a scan, by what it holds.
use Rattle.std.proofs.Common.{◌∙◌, ℕ, inl, inr, ap, arith, subst}
use Rattle.std.proofs.Common.{List}
use Rattle.cyc_block.specs.Store.{block_at}
use Rattle.cyc_buffer.specs.BufferState.{buffer_of}
use Rattle.cyc_buffer.specs.Crash.{IsPieceIn}
use Rattle.cyc_buffer.proofs.ScanLemmas.{sound_none, scanned_none, reached_to, take_apart_sound}
use Rattle.cyc_buffer.proofs.ScanLemmas.{take_apart, take_on_sound, take_on, take_end_sound}
use Rattle.cyc_buffer.proofs.ScanLemmas.{take_end}
use Rattle.cyc_buffer.proofs.scanning.Scan.take.Goals as goal
use Rattle.cyc_buffer.proofs.scanning.Scan.take.Goals.{else-token-block-via-then-token-block+else-not-goes_on_with}
use Rattle.cyc_buffer.proofs.scanning.Scan.take.Goals.{else-token-block-via-else-token-block}

pub returns-in_default-clause-sound : goal.returns-in_default-clause-sound
returns-in_default-clause-sound c =
    let self = c.args.self.now in
    sound_none (buffer_of self.line) self.line.cycle self.line.used self.tokens.items self.run
    c.args.block c.requires.scan

pub returns-in_default-clause-scanned : goal.returns-in_default-clause-scanned
returns-in_default-clause-scanned c blocks at has =
    let self = c.args.self.now in
    scanned_none (buffer_of self.line) self.line.cycle self.line.used self.tokens.items self.run
    c.args.block c.requires.scan blocks has
    (λ t k here piece. c.in_default.ensures.none t k here
    (subst (λ (os : List ℕ). IsPieceIn (buffer_of self.line) os t k)
    (ap (block_at blocks) here ∙ at) piece))

pub returns-then-not-goes_on_with-clause-sound : goal.returns-then-not-goes_on_with-clause-sound
returns-then-not-goes_on_with-clause-sound c =
    let self = c.args.self.now in
    let line = c.reach.new.self in
    take_apart_sound (buffer_of self.line) self.line.cycle self.line.used self.tokens.items self.run
    c.args.block c.requires.scan c.args.octets.now c.in-Some.token c.in-Some.ensures.before
    c.in-Some.ensures.piece c.in-Some.ensures.only line.cycle line.used c.reach.ensures.ends
    c.reach.ensures.rises (reached_to self.line line c.in-Some.token c.reach.ensures.to)

pub returns-then-not-goes_on_with-clause-scanned :
    goal.returns-then-not-goes_on_with-clause-scanned
returns-then-not-goes_on_with-clause-scanned c =
    let self = c.args.self.now in
    let line = c.reach.new.self in
    take_apart (buffer_of self.line) self.line.cycle self.line.used self.tokens.items self.run
    c.args.block c.requires.scan c.args.octets.now c.in-Some.token c.in-Some.ensures.before
    c.in-Some.ensures.piece c.in-Some.ensures.only line.cycle line.used c.reach.ensures.ends
    c.reach.ensures.rises (reached_to self.line line c.in-Some.token c.reach.ensures.to)
    c.if-token-block.true (c.goes_on_with.ensures.other c.if-not-goes_on_with.true)

pub overflow_add-block : goal.overflow_add-block
overflow_add-block c = omega (arith, c.requires.within, c.requires.fits)

pub overflow_add-token : goal.overflow_add-token
overflow_add-token c =
    omega (arith, c.in-Some.ensures.piece.ends, c.size_of.ensures, c.requires.fits)

pub returns-then-block-token-clause-sound : goal.returns-then-block-token-clause-sound
returns-then-block-token-clause-sound c =
    let self = c.args.self.now in
    let line = c.reach.new.self in
    take_on_sound (buffer_of self.line) self.line.cycle self.line.used self.tokens.items self.run
    c.args.block c.requires.scan c.args.octets.now c.in-Some.token c.in-Some.ensures.before
    c.in-Some.ensures.piece c.in-Some.ensures.only line.cycle line.used c.reach.ensures.ends
    c.reach.ensures.rises (reached_to self.line line c.in-Some.token c.reach.ensures.to)
    (elim c.else-token-block.branch [
      | else-token-block-via-then-token-block+else-not-goes_on_with w ↦
          inr (w.goes_on_with.ensures.is w.if-not-goes_on_with.false)
      | else-token-block-via-else-token-block w ↦ inl w.if-token-block.false
    ])
    (omega (arith, c.size_of.ensures, c.if-block-token.true))

pub returns-then-block-token-clause-scanned : goal.returns-then-block-token-clause-scanned
returns-then-block-token-clause-scanned c =
    let self = c.args.self.now in
    let line = c.reach.new.self in
    take_on (buffer_of self.line) self.line.cycle self.line.used self.tokens.items self.run
    c.args.block c.requires.scan c.args.octets.now c.in-Some.token c.in-Some.ensures.before
    c.in-Some.ensures.piece c.in-Some.ensures.only line.cycle line.used c.reach.ensures.ends
    c.reach.ensures.rises (reached_to self.line line c.in-Some.token c.reach.ensures.to)
    (elim c.else-token-block.branch [
      | else-token-block-via-then-token-block+else-not-goes_on_with w ↦
          inr (w.goes_on_with.ensures.is w.if-not-goes_on_with.false)
      | else-token-block-via-else-token-block w ↦ inl w.if-token-block.false
    ])
    (omega (arith, c.size_of.ensures, c.if-block-token.true))

pub returns-clause-sound : goal.returns-clause-sound
returns-clause-sound c =
    let self = c.args.self.now in
    let line = c.reach.new.self in
    take_end_sound (buffer_of self.line) self.line.cycle self.line.used self.tokens.items self.run
    c.args.block c.requires.scan c.args.octets.now c.in-Some.token c.in-Some.ensures.before
    c.in-Some.ensures.piece c.in-Some.ensures.only line.cycle line.used c.reach.ensures.ends
    c.reach.ensures.rises (reached_to self.line line c.in-Some.token c.reach.ensures.to)
    (elim c.else-token-block.branch [
      | else-token-block-via-then-token-block+else-not-goes_on_with w ↦
          inr (w.goes_on_with.ensures.is w.if-not-goes_on_with.false)
      | else-token-block-via-else-token-block w ↦ inl w.if-token-block.false
    ])
    (omega (arith, c.size_of.ensures, c.if-block-token.false))
    c.push.new.self.items c.in_ok-push.ensures.items

pub returns-clause-scanned : goal.returns-clause-scanned
returns-clause-scanned c =
    let self = c.args.self.now in
    let line = c.reach.new.self in
    take_end (buffer_of self.line) self.line.cycle self.line.used self.tokens.items self.run
    c.args.block c.requires.scan c.args.octets.now c.in-Some.token c.in-Some.ensures.before
    c.in-Some.ensures.piece c.in-Some.ensures.only line.cycle line.used c.reach.ensures.ends
    c.reach.ensures.rises (reached_to self.line line c.in-Some.token c.reach.ensures.to)
    (elim c.else-token-block.branch [
      | else-token-block-via-then-token-block+else-not-goes_on_with w ↦
          inr (w.goes_on_with.ensures.is w.if-not-goes_on_with.false)
      | else-token-block-via-else-token-block w ↦ inl w.if-token-block.false
    ])
    (omega (arith, c.size_of.ensures, c.if-block-token.false))
    c.push.new.self.items c.in_ok-push.ensures.items
