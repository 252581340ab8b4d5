-- What a scan of all blocks and the live ones of its articles make.
use Rattle.std.proofs.Common.{◌≡◌, ◌↔◌, ◌∙◌, ℕ, ◌+◌, ◌<◌, ◌≤◌, sym, ap, subst, arith}
use Rattle.std.proofs.Common.{List, length, map, Option, None, get_or}
use Rattle.std.specs.List.{Contains}
use Rattle.std.proofs.lemmas.List.Elements.{Contains-get_or}
use Rattle.news_terms.specs.Places.{Buffer, size_of, on_line}
use Rattle.cyc_token.specs.Token.{token_view}
use Rattle.cyc_token.specs.declared.Token.{Token}
use Rattle.cyc_buffer.specs.BufferState.{IsUnpassed, buffer_of}
use Rattle.cyc_buffer.specs.Crash.{IsFrontOn, ListsFound}
use Rattle.cyc_buffer.specs.Marks.{is_marked}
use Rattle.cyc_buffer.specs.Remembered.{AreWithin, ListsStarts}
use Rattle.cyc_buffer.specs.Crash.{AreOnLine}
use Rattle.cyc_buffer.specs.Scanning.{AreMarksOf, HasFound, HasScanned, IsScan, IsWithin}
use Rattle.cyc_buffer.specs.Scanning.{passed_on}
use Rattle.cyc_buffer.specs.Starting.{blocks_in}
use Rattle.cyc_buffer.specs.declared.buffer_state.BufferState.{BufferState}
use Rattle.cyc_buffer.specs.declared.line.Line.{Line}
use Rattle.cyc_buffer.specs.declared.marks.Marks.{Marks}
use Rattle.cyc_buffer.proofs.LiveLemmas.{on_line_rises, passed_from, rising_less, room_on_line}

-- The live articles of a scan, whatever store it is of.
module _ (line : Line) (scanned : List Token) (run : Option Token) (n : ℕ)
    (sound : IsScan (buffer_of line) line.cycle line.used scanned run n) (tokens : List Token)
    (listed : (t : Token) → Contains tokens t
    ↔ (Contains scanned t × IsUnpassed line t.cycle t.first))
    (order : AreOnLine line.blocks (on_line line.blocks line.first_cycle 0)
    (on_line line.blocks line.cycle line.used) tokens) where
  pub live_within : (t : Token) → Contains tokens t
      → IsWithin (buffer_of line) line.cycle line.used t
  live_within t c = sound.within t ((listed t).0 c).0

  -- each has a block
  pub live_some : (t : Token) → Contains tokens t → 1 ≤ size_of t.length
  live_some t c = (live_within t c).some

  pub all_some : (ys : List Token) → ys ≡ tokens → (k : ℕ) (d : Token) → k < length ys
      → 1 ≤ size_of (get_or ys k d).length
  all_some ys same k d inside = live_some (get_or ys k d)
      (subst (λ (zs : List Token). Contains zs (get_or ys k d)) same
      (Contains-get_or ys k d inside))

  -- and there are no more blocks of them than the front has passed
  pub live_few : (ys : List Token) → ys ≡ tokens → blocks_in ys ≤ passed_on line
  live_few ys same = subst (λ (zs : List Token). blocks_in zs ≤ passed_on line) (sym same)
      (omega (
        arith,
        room_on_line line.blocks (on_line line.blocks line.first_cycle 0)
            (on_line line.blocks line.cycle line.used) tokens order,
        passed_from line sound.begun,
      ))

  pub all_within : AreWithin line.blocks tokens
  all_within k d inside =
      let w = live_within (get_or tokens k d) (Contains-get_or tokens k d inside) in
      omega (arith, w.some, w.inside)

  -- of an honest store's blocks
  module _ (blocks : List (List ℕ)) (all : line.blocks ≡ n)
      (has : HasScanned (buffer_of line) blocks line.cycle line.used scanned run n) where
    front_scanned : IsFrontOn (buffer_of line) blocks line.cycle line.used
    front_scanned = record {
      reached = has.reached;
      last = λ t k p. has.last t k (omega (arith, p.ends, p.inside, all)) p;
    }

    lists_scanned : ListsFound (buffer_of line) blocks line.cycle line.used tokens
    lists_scanned = record {
      all = λ t. (
        λ c. let p = (listed t).0 c in record { there = has.listed t p.0; live = p.1 },
        λ f. (listed t).1 (
          has.all t f.there (omega (
            arith,
            (f.there.pieces 0 (omega (arith, f.there.some))).ends,
            all,
          )),
          f.live,
        ),
      );
      rising = rising_less line.blocks 0 (on_line line.blocks line.first_cycle 0)
          (map token_view tokens) (omega arith)
          (on_line_rises line.blocks (on_line line.blocks line.first_cycle 0)
          (on_line line.blocks line.cycle line.used) tokens live_some order);
      order = order;
    }

    pub has_found : (buffer : Buffer) → buffer_of line ≡ buffer → (r : BufferState)
        (starts kept : Marks) → r.line ≡ line → r.starts ≡ starts → r.kept ≡ kept
        → AreMarksOf tokens starts.words.items kept.words.items
        → r.counts.begun + blocks_in tokens ≡ passed_on line + length tokens
        → r.counts.stored ≡ length tokens → r.progress ≡ None → HasFound blocks buffer r tokens
    has_found buffer is r starts kept same same_starts same_kept marks begun stored progress =
        record {
          buffer_is = ap buffer_of same ∙ is;
          front = subst (λ (b : Buffer). IsFrontOn b blocks r.line.cycle r.line.used) is
              (subst (λ (l : Line). IsFrontOn (buffer_of line) blocks l.cycle l.used) (sym same)
              front_scanned);
          all = subst (λ (b : Buffer). ListsFound b blocks r.line.cycle r.line.used tokens) is
              (subst (λ (l : Line). ListsFound (buffer_of line) blocks l.cycle l.used tokens)
              (sym same) lists_scanned);
          marks = subst (λ (m : Marks). AreMarksOf tokens m.words.items r.kept.words.items)
              (sym same_starts)
              (subst (λ (m : Marks). AreMarksOf tokens starts.words.items m.words.items)
              (sym same_kept) marks);
          begun = begun ∙ ap (λ (l : Line). passed_on l + length tokens) (sym same);
          stored = stored;
          progress = progress;
        }

-- each marked block is a listed article's first
pub marked_listed : (tokens : List Token) (starts kept : List ℕ) (n : ℕ)
    → AreMarksOf tokens starts kept → ListsStarts 0 n (is_marked starts) tokens
marked_listed tokens starts kept n marks block behind before set =
    let f = (marks.firsts block).0 set in
    record { token = f.token; listed = f.listed; here = f.here }
