-- All of the device was read, or something is wrong with it.
use Rattle.std.proofs.Common.{◌≡◌, ◌+◌, ◌∙◌, ℕ, List, length, refl, sym, ap, arith, subst}
use Rattle.std.specs.Prelude.{Err}
use Rattle.news_terms.specs.HeadBlocks.{HeadBlock, bitmap_blocks, head_blocks}
use Rattle.news_terms.specs.Places.{Buffer}
use Rattle.cyc_block.specs.Heads.{head_view}
use Rattle.cyc_block.specs.declared.store.BlockStore.{Ghosts}
use Rattle.cyc_buffer.specs.Marks.{is_marked}
use Rattle.cyc_buffer.specs.Readings.{ReadsStopped, ReadsStore}
use Rattle.cyc_buffer.specs.Reads.{AreBits, HasReadAll, IsBeyond, IsRefusedBy}
use Rattle.cyc_buffer.specs.Remembered.{AreWithin, ListsStarts}
use Rattle.cyc_buffer.specs.BufferState.{numbers_in}
use Rattle.cyc_buffer.specs.Stopped.{IsDamaged, BitBeyond, has_bit}
use Rattle.cyc_buffer.specs.declared.answers.StartError.{StartError}
use Rattle.cyc_buffer.specs.declared.answers.StartError.TheVariants as errors
use Rattle.cyc_buffer.specs.declared.marks.Marks.{Marks}
use Rattle.cyc_buffer.specs.declared.stopped.Stopped.{Stopped}
use Rattle.cyc_buffer.proofs.ReadingLemmas.{reads_err, reads_err_on, reads_ok_on, told}
use Rattle.cyc_buffer.proofs.Refusals.{damage_refuses, held_on}
use Rattle.cyc_buffer.proofs.stopped.read_stopped.Goals as goal

-- a buffer of so many blocks
abbrev of : (number first_cycle : ℕ) (blocks : List (List ℕ)) → Buffer
of number first_cycle blocks =
    record { number = number; blocks = length blocks; first_cycle = first_cycle }

-- a refusal, of which the cause is known
because : {S : Type 0} (g : Ghosts S) (old new : S) (buffer : Buffer) (error : StartError)
    → (g.honest old → IsRefusedBy (g.heads old) (g.blocks old) buffer error)
    → ReadsStore {A = Stopped} g old new (Err error) → ReadsStopped g old new buffer (Err error)
because g old new buffer error cause reads = record {
  started = λ honest. tt;
  refused = cause;
  count = tt;
  idle = tt;
  listed = tt;
  within = tt;
  calls = tt;
  reads = reads;
}

pub returns-in_err-numbers : goal.returns-in_err-numbers
returns-in_err-numbers g c =
    let buffer = of c.args.number c.args.first_cycle (g.S.BlockStore.blocks c.args.store.now) in
    told c.from_residual.result c.in_err-numbers.field-0.0 c.from_residual.ensures
    (λ r. ReadsStopped g.S.BlockStore c.args.store.now c.read_closed.new.store buffer r)
    (because g.S.BlockStore c.args.store.now c.read_closed.new.store buffer
    c.in_err-numbers.field-0.0 c.in_err-numbers.ensures.numbers.refused
    (reads_err g.S.BlockStore c.args.store.now c.read_closed.new.store
    c.in_err-numbers.field-0.0 c.in_err-numbers.ensures.numbers.reads))

pub returns-in_err-starts : goal.returns-in_err-starts
returns-in_err-starts g c =
    let buffer = of c.args.number c.args.first_cycle (g.S.BlockStore.blocks c.args.store.now) in
    let reads = c.in_ok-numbers.ensures.numbers.reads in
    told c.from_residual-in_err-starts.result errors.Memory c.from_residual-in_err-starts.ensures
    (λ r. ReadsStopped g.S.BlockStore c.args.store.now c.read_closed.new.store buffer r)
    (because g.S.BlockStore c.args.store.now c.read_closed.new.store buffer errors.Memory
    (λ honest. tt) (record { held = reads.held; failed = reads.no_failure; no_failure = tt }))

pub returns-in_err-read_bitmap : goal.returns-in_err-read_bitmap
returns-in_err-read_bitmap g c =
    let heads = g.S.BlockStore.heads c.args.store.now in
    let blocks = g.S.BlockStore.blocks c.args.store.now in
    let numbers = c.in_ok-numbers.numbers in
    let closed = c.in_ok-numbers.ensures in
    let held = closed.numbers.reads.held in
    let buffer = of c.args.number c.args.first_cycle blocks in
    told c.from_residual-in_err-read_bitmap.result c.in_err-read_bitmap.field-0.0
    c.from_residual-in_err-read_bitmap.ensures
    (λ r. ReadsStopped g.S.BlockStore c.args.store.now c.read_bitmap.new.store buffer r)
    (because g.S.BlockStore c.args.store.now c.read_bitmap.new.store buffer
    c.in_err-read_bitmap.field-0.0
    (λ honest. damage_refuses heads blocks buffer c.in_err-read_bitmap.field-0.0
    (λ beyond. record {
      numbers = head_view numbers;
      says = closed.numbers.says honest;
      closed = closed.closed;
      damaged =
          let b = subst (λ hs. IsBeyond hs numbers.blocks) (held.heads honest) beyond in
          BitBeyond b.at b.behind b.within b.set;
    })
    (c.in_err-read_bitmap.ensures.refused (held.honest honest)))
    (reads_err_on g.S.BlockStore c.args.store.now c.read_closed.new.store
    c.read_bitmap.new.store c.in_err-read_bitmap.field-0.0 held closed.numbers.reads.no_failure
    c.in_err-read_bitmap.ensures.reads))

pub returns-in_err-kept : goal.returns-in_err-kept
returns-in_err-kept g c =
    let buffer = of c.args.number c.args.first_cycle (g.S.BlockStore.blocks c.args.store.now) in
    let first = c.in_ok-numbers.ensures.numbers.reads in
    let next = c.in_ok-read_bitmap.ensures.reads in
    told c.from_residual-in_err-kept.result errors.Memory c.from_residual-in_err-kept.ensures
    (λ r. ReadsStopped g.S.BlockStore c.args.store.now c.read_bitmap.new.store buffer r)
    (because g.S.BlockStore c.args.store.now c.read_bitmap.new.store buffer errors.Memory
    (λ honest. tt) (record {
      held = held_on g.S.BlockStore c.args.store.now c.read_closed.new.store
          c.read_bitmap.new.store first.held next.held;
      failed = next.no_failure ∙ first.no_failure;
      no_failure = tt;
    }))

pub returns-in_err-tokens : goal.returns-in_err-tokens
returns-in_err-tokens g c =
    let heads = g.S.BlockStore.heads c.args.store.now in
    let blocks = g.S.BlockStore.blocks c.args.store.now in
    let numbers = c.in_ok-numbers.numbers in
    let closed = c.in_ok-numbers.ensures in
    let first = closed.numbers.reads in
    let bitmap = c.in_ok-read_bitmap.ensures in
    let buffer = of c.args.number c.args.first_cycle blocks in
    told c.from_residual-in_err-tokens.result c.in_err-tokens.field-0.0
    c.from_residual-in_err-tokens.ensures
    (λ r. ReadsStopped g.S.BlockStore c.args.store.now c.read_all.new.store buffer r)
    (because g.S.BlockStore c.args.store.now c.read_all.new.store buffer
    c.in_err-tokens.field-0.0
    (λ honest.
    let bits : AreBits heads numbers.blocks c.read_bitmap.new.starts.words.items =
    subst (λ hs. AreBits hs numbers.blocks c.read_bitmap.new.starts.words.items)
    (first.held.heads honest) (bitmap.bits (first.held.honest honest)) in
    damage_refuses heads blocks buffer c.in_err-tokens.field-0.0
    (λ damaged. record {
      numbers = head_view numbers;
      says = closed.numbers.says honest;
      closed = closed.closed;
      damaged = subst (λ bs. IsDamaged heads bs (head_view numbers))
          (bitmap.reads.held.blocks (first.held.honest honest) ∙ first.held.blocks honest) damaged;
    })
    (c.in_err-tokens.ensures.refused
    (bitmap.reads.held.honest (first.held.honest honest)) heads bits))
    (reads_err_on g.S.BlockStore c.args.store.now c.read_bitmap.new.store c.read_all.new.store
    c.in_err-tokens.field-0.0
    (held_on g.S.BlockStore c.args.store.now c.read_closed.new.store c.read_bitmap.new.store
    first.held bitmap.reads.held)
    (bitmap.reads.no_failure ∙ first.no_failure) c.in_err-tokens.ensures.reads))

-- the calls are those of the head, the bitmap and the articles
calls_all : (start closed behind all count blocks listed : ℕ) → closed ≡ start + 1
    → behind ≡ closed + bitmap_blocks count → count ≡ blocks → all ≡ behind + listed
    → all ≡ start + head_blocks blocks + listed
calls_all start closed behind all count blocks listed head bits same articles =
    let e = ap bitmap_blocks same in
    omega (arith, head, bits, articles, e)

pub returns : goal.returns
returns g c =
    let blocks = g.S.BlockStore.blocks c.args.store.now in
    let numbers = c.in_ok-numbers.numbers in
    let closed = c.in_ok-numbers.ensures in
    let first = closed.numbers.reads in
    let bitmap = c.in_ok-read_bitmap.ensures in
    let all = c.in_ok-tokens.ensures in
    let tokens = c.in_ok-tokens.tokens.items in
    let buffer_state = c.stopped_buffer_state.result in
    let starts = c.read_bitmap.new.starts.words.items in
    let same_starts : starts ≡ buffer_state.starts.words.items =
    ap (λ (m : Marks). m.words.items) (sym c.stopped_buffer_state.ensures.starts) in
    let same_kept : c.read_all.new.kept.words.items ≡ buffer_state.kept.words.items =
    ap (λ (m : Marks). m.words.items) (sym c.stopped_buffer_state.ensures.kept) in
    record {
      started = λ honest. record {
        numbers = head_view numbers;
        says = closed.numbers.says honest;
        closed = closed.closed;
        stop_is = refl;
        sound = closed.sound;
        beyond = λ j behind within. ap (λ hs. has_bit hs j) (sym (first.held.heads honest))
            ∙ bitmap.none_beyond (first.held.honest honest) j behind within;
        buffer_state_is = ap (λ state. numbers_in buffer_state state numbers.stop)
            (sym closed.closed) ∙ c.stopped_buffer_state.ensures.numbers;
        progress = c.stopped_buffer_state.ensures.progress;
        bits = subst (λ hs. AreBits hs numbers.blocks buffer_state.starts.words.items)
            (first.held.heads honest)
            (subst (λ ws. AreBits (g.S.BlockStore.heads c.read_closed.new.store) numbers.blocks ws)
            same_starts (bitmap.bits (first.held.honest honest)));
        some_kept = c.in_ok-kept.kept.words.items;
        unkept = c.in_ok-kept.ensures.none;
        all = subst (λ ks. HasReadAll (is_marked buffer_state.starts.words.items) blocks
            (head_view numbers) tokens c.in_ok-kept.kept.words.items ks)
            same_kept
            (subst (λ ws. HasReadAll (is_marked ws) blocks (head_view numbers)
            tokens c.in_ok-kept.kept.words.items c.read_all.new.kept.words.items)
            same_starts
            (subst (λ bs. HasReadAll (is_marked starts) bs (head_view numbers)
            tokens c.in_ok-kept.kept.words.items c.read_all.new.kept.words.items)
            (bitmap.reads.held.blocks (first.held.honest honest) ∙ first.held.blocks honest)
            (all.read (bitmap.reads.held.honest (first.held.honest honest)))));
      };
      refused = λ honest. tt;
      count = ap (λ (b : HeadBlock). b.blocks) c.stopped_buffer_state.ensures.numbers
          ∙ closed.numbers.blocks;
      idle = c.stopped_buffer_state.ensures.progress;
      listed = subst (λ (n : ℕ). ListsStarts 0 n (is_marked buffer_state.starts.words.items) tokens)
          closed.numbers.blocks
          (subst (λ (m : Marks). ListsStarts 0 numbers.blocks (is_marked m.words.items) tokens)
          (sym c.stopped_buffer_state.ensures.starts) all.listed);
      within = subst (λ (n : ℕ). AreWithin n tokens) closed.numbers.blocks all.within;
      calls = calls_all _ _ _ _ numbers.blocks _ _ closed.numbers.calls bitmap.calls
          closed.numbers.blocks all.calls;
      reads = reads_ok_on g.S.BlockStore c.args.store.now c.read_bitmap.new.store
          c.read_all.new.store c.in_ok-tokens.tokens _
          (held_on g.S.BlockStore c.args.store.now c.read_closed.new.store c.read_bitmap.new.store
          first.held bitmap.reads.held)
          (bitmap.reads.no_failure ∙ first.no_failure) all.reads;
    }

pub read_all-requires-clause-sound : goal.read_all-requires-clause-sound
read_all-requires-clause-sound g c = c.in_ok-numbers.ensures.sound

pub stopped_buffer_state-requires-clause-sound : goal.stopped_buffer_state-requires-clause-sound
stopped_buffer_state-requires-clause-sound g c = c.in_ok-numbers.ensures.sound

pub read_bitmap-requires-clause-count : goal.read_bitmap-requires-clause-count
read_bitmap-requires-clause-count g c =
    c.in_ok-numbers.ensures.numbers.reads.held.count ∙ sym c.in_ok-numbers.ensures.numbers.blocks

pub read_bitmap-requires-clause-room : goal.read_bitmap-requires-clause-room
read_bitmap-requires-clause-room g c = c.in_ok-starts.ensures.room

pub read_all-requires-clause-count : goal.read_all-requires-clause-count
read_all-requires-clause-count g c =
    c.in_ok-read_bitmap.ensures.reads.held.count ∙ c.in_ok-numbers.ensures.numbers.reads.held.count
    ∙ sym c.in_ok-numbers.ensures.numbers.blocks

pub read_all-requires-clause-room : goal.read_all-requires-clause-room
read_all-requires-clause-room g c =
    omega (arith, c.in_ok-starts.ensures.room, c.in_ok-read_bitmap.ensures.room)

pub read_all-requires-clause-kept_room : goal.read_all-requires-clause-kept_room
read_all-requires-clause-kept_room g c = c.in_ok-kept.ensures.room

pub stopped_buffer_state-requires-clause-starts_room :
    goal.stopped_buffer_state-requires-clause-starts_room
stopped_buffer_state-requires-clause-starts_room g c =
    omega (arith, c.in_ok-starts.ensures.room, c.in_ok-read_bitmap.ensures.room)

pub stopped_buffer_state-requires-clause-starts_least :
    goal.stopped_buffer_state-requires-clause-starts_least
stopped_buffer_state-requires-clause-starts_least g c =
    omega (arith, c.in_ok-starts.ensures.least, c.in_ok-read_bitmap.ensures.room)

pub stopped_buffer_state-requires-clause-kept_room :
    goal.stopped_buffer_state-requires-clause-kept_room
stopped_buffer_state-requires-clause-kept_room g c =
    omega (arith, c.in_ok-kept.ensures.room, c.in_ok-tokens.ensures.kept_room)

pub stopped_buffer_state-requires-clause-kept_least :
    goal.stopped_buffer_state-requires-clause-kept_least
stopped_buffer_state-requires-clause-kept_least g c =
    omega (arith, c.in_ok-kept.ensures.least, c.in_ok-tokens.ensures.kept_room)
