-- What a stop writes holds the buffer as stopped, with each history that it agrees with.
use Rattle.std.proofs.Common.{◌≡◌, ◌∙◌, ◌↔◌, ℕ, ◌+◌, ◌*◌, ◌/◌, ◌%◌, ◌<◌, ◌≤◌, ◌&&◌}
use Rattle.std.proofs.Common.{true, false, refl, sym, ap, subst, arith, List, length, Option}
use Rattle.std.proofs.Common.{None, Some, is_some, Result, Ok, Err, is_err, OnOk}
use Rattle.std.specs.Prelude.{⊤}
use Rattle.std.proofs.lemmas.Bool.{lt-ltb, le-ltb, true≢false}
use Rattle.std.proofs.Math.Nat.{div-add-mod}
use Rattle.news_terms.specs.HeadBlocks.{HeadBlock, HeadState, Closed, IsHeadBlock, head_image}
use Rattle.news_terms.specs.HeadBlocks.{bits_of_block, bitmap_blocks, bitmap_block, is_set}
use Rattle.news_terms.specs.Places.{Buffer}
use Rattle.news_terms.proofs.Bitmaps.{told_at}
use Rattle.cyc_block.specs.Store.{block_at, ChangesOnly}
use Rattle.cyc_block.specs.declared.store.BlockStore.{Ghosts}
use Rattle.cyc_buffer.specs.Agreement.{Follows, Holds}
use Rattle.cyc_buffer.specs.Head.{LeavesBuffer, LeavesBlocks}
use Rattle.cyc_buffer.specs.History.{Writing, History, cycle_of}
use Rattle.cyc_buffer.specs.Marks.{is_marked, is_told}
use Rattle.cyc_buffer.specs.BufferState.{Keeps, Writes, numbers_in}
use Rattle.cyc_buffer.specs.Stopped.{HoldsStopped, TellsStarts, BeginsLive, has_bit, used_of}
use Rattle.cyc_buffer.specs.Stopped.{numbers_of}
use Rattle.cyc_buffer.specs.declared.buffer.Buffer as buffers
use Rattle.cyc_buffer.specs.declared.buffer_state.Progress.{Progress}
use Rattle.cyc_buffer.specs.declared.buffer_state.BufferState.{BufferState}
use Rattle.cyc_buffer.proofs.Places.{moved}
use Rattle.cyc_buffer.proofs.Writes.{without_error}

-- what a head block says of a buffer, by its parts
abbrev numbers_with : HeadState → (stop : ℕ) → Buffer → (cycle head begun stored : ℕ) → HeadBlock
numbers_with state stop buffer cycle head begun stored = record {
  state = state;
  number = buffer.number;
  blocks = buffer.blocks;
  first_cycle = buffer.first_cycle;
  cycle = cycle;
  head = head;
  stop = stop;
  begun = begun;
  stored = stored;
}

-- a register and a history that it agrees with say the same numbers
pub same_numbers : (r : BufferState) (h : History) (state : HeadState) (stop : ℕ) → Keeps r h
    → numbers_in r state stop ≡ numbers_of state stop h
same_numbers r h state stop keeps =
    ap (λ (b : Buffer). numbers_with state stop b r.line.cycle r.line.used r.counts.begun
    r.counts.stored) (sym keeps.buffer)
    ∙ ap (λ n. numbers_with state stop h.buffer n r.line.used r.counts.begun r.counts.stored)
    keeps.cycle
    ∙ ap (λ n. numbers_with state stop h.buffer (cycle_of h) n r.counts.begun r.counts.stored)
    keeps.used
    ∙ ap (λ n. numbers_with state stop h.buffer (cycle_of h) (used_of h) n r.counts.stored)
    keeps.begun
    ∙ ap (λ n. numbers_with state stop h.buffer (cycle_of h) (used_of h) (length h.begins) n)
    keeps.stored

-- without progress no write is open
idle_of : (h : History) (p : Option Progress) (o : Option Writing) → p ≡ None → Writes h p o
    → o ≡ None
idle_of h None None e w = refl
idle_of h None (Some o) e w = absurd w
idle_of h (Some p) None e w = refl
idle_of h (Some p) (Some o) e w = absurd (some_none e)
  where
    some_none : Some p ≡ None → ⊥
    some_none e = cc

-- of a block of the buffer its mark is told, and of a block past it nothing
told_within : (words : List ℕ) (count j : ℕ) → j < count → is_told words count j ≡ is_marked words j
told_within words count j h = ap (λ b. b && is_marked words j) (lt-ltb j count h)

told_beyond : (words : List ℕ) (count j : ℕ) → count ≤ j → is_told words count j ≡ false
told_beyond words count j h = ap (λ b. b && is_marked words j) (le-ltb j count h)

-- the blocks behind the first are those of the bitmap of the marks of so many blocks
abbrev pub IsBitmap : List (List ℕ) → List ℕ → (count : ℕ) → Type 0
IsBitmap heads words count = (i : ℕ) → i < bitmap_blocks count
    → block_at heads (1 + i) ≡ bitmap_block (is_told words count) i

-- another first block leaves the bitmap
pub bitmap_stays : (old new : List (List ℕ)) (words : List ℕ) (count : ℕ) → ChangesOnly 0 old new
    → IsBitmap old words count → IsBitmap new words count
bitmap_stays old new words count others bitmap i h = others (1 + i) (λ e. omega (arith, e))
    ∙ bitmap i h

-- a bitmap that was written without an error is there after another first block was written
pub written_bitmap : {E : Type 0} (result : Result ⊤ E) (mid new : List (List ℕ)) (words : List ℕ)
    (count n : ℕ) → count ≡ n → is_err result ≡ false → OnOk result (IsBitmap mid words n)
    → ChangesOnly 0 mid new → IsBitmap new words count
written_bitmap result mid new words count n same fine bitmap others =
    bitmap_stays mid new words count others
    (subst (IsBitmap mid words) (sym same) (without_error result fine bitmap))

-- what is so under a premise where there is no error
pub under : {A E X : Type 0} (Y : Type 0) (result : Result A E) → (X → OnOk result Y)
    → OnOk result (X → Y)
under Y (Ok a) f = f
under Y (Err e) f = tt

-- where nothing is there is none
pub none_of : {A : Type 0} (o : Option A) → is_some o ≡ false → o ≡ None
none_of None e = refl
none_of (Some a) e = absurd (true≢false e)

module _ (r : BufferState) (heads : List (List ℕ)) (h : History) (keeps : Keeps r h)
    (bitmap : IsBitmap heads r.starts.words.items r.line.blocks) where
  same_count : h.buffer.blocks ≡ r.line.blocks
  same_count = ap (λ (b : Buffer). b.blocks) keeps.buffer

  -- each bit is what the marks tell
  bits : (j : ℕ) → j < bits_of_block * bitmap_blocks r.line.blocks
      → has_bit heads j ≡ is_told r.starts.words.items r.line.blocks j
  bits j within =
      ap (λ octets. is_set octets (j % bits_of_block))
      (bitmap (j / bits_of_block) (omega (arith, within, div-add-mod j bits_of_block)))
      ∙ told_at (is_told r.starts.words.items r.line.blocks) (j / bits_of_block) (j % bits_of_block)
      (omega arith)
      ∙ ap (is_told r.starts.words.items r.line.blocks) (div-add-mod j bits_of_block)

  -- the bit of a block of the buffer is its mark
  bit_is : (j : ℕ) → j < r.line.blocks → has_bit heads j ≡ is_marked r.starts.words.items j
  bit_is j within = bits j (omega (arith, within))
      ∙ told_within r.starts.words.items r.line.blocks j within

  begins : (j : ℕ) → j < h.buffer.blocks → (has_bit heads j ≡ true) ↔ BeginsLive h j
  begins j within =
      let here : j < r.line.blocks = omega (arith, within, same_count) in (
        (λ t.
            let s = (keeps.starts j here).0 (sym (bit_is j here) ∙ t) in
            record {
              cycle = s.cycle;
              article = s.article;
              finished = s.finished;
              unpassed = moved r.line.cycle r.line.used (cycle_of h) (used_of h) s.cycle j
                  keeps.cycle keeps.used s.unpassed;
            }),
        (λ (s : BeginsLive h j). bit_is j here ∙ (keeps.starts j here).1 (record {
          cycle = s.cycle;
          article = s.article;
          finished = s.finished;
          unpassed = moved (cycle_of h) (used_of h) r.line.cycle r.line.used s.cycle j
              (sym keeps.cycle) (sym keeps.used) s.unpassed;
        })),
      )

  -- the bitmap tells where live articles of the history begin
  pub tells_starts : TellsStarts heads h
  tells_starts = record {
    starts = begins;
    beyond = λ j behind within.
        bits j (subst (λ n. j < bits_of_block * bitmap_blocks n) same_count within)
        ∙ told_beyond r.starts.words.items r.line.blocks j (omega (arith, behind, same_count));
  }

-- numbers, bitmap and blocks hold the buffer as stopped
pub holds_stopped : (r : BufferState) (heads blocks : List (List ℕ)) (stop : ℕ) (h : History)
    → Keeps r h → Holds blocks r h → r.progress ≡ None → length blocks ≡ r.line.blocks
    → IsHeadBlock (numbers_in r Closed stop)
    → block_at heads 0 ≡ head_image (numbers_in r Closed stop)
    → IsBitmap heads r.starts.words.items r.line.blocks → HoldsStopped heads blocks stop h
holds_stopped r heads blocks stop h keeps holds idle count fit numbers bitmap = record {
  numbers = numbers ∙ ap head_image (same_numbers r h Closed stop keeps);
  fit = subst IsHeadBlock (same_numbers r h Closed stop keeps) fit;
  count = count ∙ sym (ap (λ (b : Buffer). b.blocks) keeps.buffer);
  bitmap = tells_starts r heads h keeps bitmap;
  articles = λ cycle first k article finished inside unpassed.
      holds.articles cycle first k article finished inside
      (moved (cycle_of h) (used_of h) r.line.cycle r.line.used cycle (first + k)
      (sym keeps.cycle) (sym keeps.used) unpassed);
  sizes = keeps.sizes;
  idle = idle_of h r.progress h.writing idle keeps.writing;
}

-- what leaves the blocks twice leaves them
pub leaves_twice : {S : Type 0} (g : Ghosts S) (old mid new : S) → LeavesBlocks g old mid
    → LeavesBlocks g mid new → LeavesBlocks g old new
leaves_twice g old mid new first second = record {
  honest = λ is. second.honest (first.honest is);
  blocks = λ is. second.blocks (first.honest is) ∙ first.blocks is;
  count = second.count ∙ first.count;
}

-- what leaves the buffer keeps its agreement with each history
pub still_agrees : {S : Type 0} {g : Ghosts S} (old new : buffers.Buffer S g)
    → LeavesBuffer old new → Follows (λ h. h) old new
still_agrees {g = g} old new left trusted h agrees = record {
  keeps = subst (λ (r : BufferState). Keeps r h) (sym left.buffer_state) agrees.keeps;
  honest = λ is. left.store.honest (agrees.honest is);
  holds = λ is. subst (λ (r : BufferState). Holds (g.blocks new.store) r h) (sym left.buffer_state)
      (subst (λ (blocks : List (List ℕ)). Holds blocks old.buffer_state h)
      (sym (left.store.blocks (agrees.honest is))) (agrees.holds is));
}
