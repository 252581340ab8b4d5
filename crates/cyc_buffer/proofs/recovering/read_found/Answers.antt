-- All blocks were read, and what they say is the buffer that was found.
use Rattle.std.proofs.Common.{◌≡◌, ◌+◌, ◌∙◌, ℕ, List, length, sym, ap, arith, subst}
use Rattle.news_terms.specs.Places.{Buffer}
use Rattle.cyc_token.specs.declared.Token.{Token}
use Rattle.cyc_buffer.specs.BufferState.{buffer_of}
use Rattle.cyc_buffer.specs.Marks.{is_marked}
use Rattle.cyc_buffer.specs.Remembered.{AreWithin, ListsStarts}
use Rattle.cyc_buffer.specs.Scanning.{HasScanned, passed_on}
use Rattle.cyc_buffer.specs.Starting.{blocks_in}
use Rattle.cyc_buffer.specs.declared.line.Line.{Line}
use Rattle.cyc_buffer.specs.declared.marks.Marks.{Marks}
use Rattle.cyc_buffer.proofs.Assembled.{all_some, all_within, has_found, live_few, marked_listed}
use Rattle.cyc_buffer.proofs.ReadingLemmas.{reads_ok_on}
use Rattle.cyc_buffer.proofs.recovering.read_found.Goals as goal

-- a buffer of so many blocks
abbrev of : (number first_cycle blocks : ℕ) → Buffer
of number first_cycle blocks =
    record { number = number; blocks = blocks; first_cycle = first_cycle }

pub found_state-requires-clause-some : goal.found_state-requires-clause-some
found_state-requires-clause-some g c k d inside =
    let scan = c.in_ok-scan.scan in
    all_some scan.line scan.tokens.items scan.run _ c.in_ok-scan.ensures.sound
    c.in_ok-tokens.tokens.items c.in_ok-tokens.ensures.listed c.in_ok-tokens.ensures.order
    c.deref.result.now c.deref.ensures.value k d inside

pub found_state-requires-clause-within : goal.found_state-requires-clause-within
found_state-requires-clause-within g c =
    let scan = c.in_ok-scan.scan in
    live_few scan.line scan.tokens.items scan.run _ c.in_ok-scan.ensures.sound
    c.in_ok-tokens.tokens.items c.in_ok-tokens.ensures.listed c.in_ok-tokens.ensures.order
    c.deref.result.now c.deref.ensures.value

pub returns : goal.returns
returns g c =
    let old = c.args.store.now in
    let mid = c.read_stop.new.store in
    let blocks = g.S.BlockStore.blocks old in
    let scan = c.in_ok-scan.scan in
    let line = scan.line in
    let tokens = c.in_ok-tokens.tokens.items in
    let r = c.found_state.result in
    let first = c.in_ok-stop.ensures.reads in
    let count : length (g.S.BlockStore.blocks mid) ≡ length blocks = first.held.count in
    let is : buffer_of line ≡ of c.args.number c.args.first_cycle (length blocks) =
    c.in_ok-scan.ensures.buffer
    ∙ ap (of c.args.number c.args.first_cycle) count in
    let all : line.blocks ≡ length (g.S.BlockStore.blocks mid) =
    ap (λ (b : Buffer). b.blocks) c.in_ok-scan.ensures.buffer in
    let sound = c.in_ok-scan.ensures.sound in
    let listed = c.in_ok-tokens.ensures.listed in
    let order = c.in_ok-tokens.ensures.order in
    let starts : Marks = c.list_found.new.starts in
    let kept : Marks = c.list_found.new.kept in
    record {
      found = λ honest. has_found line scan.tokens.items scan.run
          (length (g.S.BlockStore.blocks mid)) sound tokens listed order blocks all
          (subst (λ (bs : List (List ℕ)). HasScanned (buffer_of line) bs line.cycle line.used
          scan.tokens.items scan.run (length (g.S.BlockStore.blocks mid)))
          (first.held.blocks honest)
          (c.in_ok-scan.ensures.scanned (first.held.honest honest)))
          (of c.args.number c.args.first_cycle (length blocks)) is r starts kept
          c.found_state.ensures.line c.found_state.ensures.starts c.found_state.ensures.kept
          c.in_ok-tokens.ensures.marks
          (subst (λ (ts : List Token). r.counts.begun + blocks_in ts
          ≡ passed_on line + length ts) c.deref.ensures.value c.found_state.ensures.begun)
          (c.found_state.ensures.stored
          ∙ ap (λ (ts : List Token). length ts) c.deref.ensures.value)
          c.found_state.ensures.progress;
      stop = λ honest. c.in_ok-stop.ensures.stop honest;
      refused = λ honest. tt;
      count = ap (λ (l : Line). l.blocks) c.found_state.ensures.line ∙ all ∙ count;
      idle = c.found_state.ensures.progress;
      listed = subst (λ (m : Marks). ListsStarts 0 (length blocks) (is_marked m.words.items) tokens)
          (sym c.found_state.ensures.starts)
          (marked_listed tokens starts.words.items kept.words.items (length blocks)
          c.in_ok-tokens.ensures.marks);
      within = subst (λ (n : ℕ). AreWithin n tokens) (all ∙ count)
          (all_within line scan.tokens.items scan.run (length (g.S.BlockStore.blocks mid)) sound
          tokens listed order);
      calls = omega (arith, c.in_ok-scan.ensures.calls, c.in_ok-stop.ensures.calls, count);
      reads = reads_ok_on g.S.BlockStore old mid c.scan_blocks.new.store scan _ first.held
          first.no_failure c.in_ok-scan.ensures.reads;
    }
