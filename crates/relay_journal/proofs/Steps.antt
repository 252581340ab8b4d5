-- What a writer does in turn.
use Rattle.std.proofs.Common.{◌≡◌, Bool, true, false, List, ℕ, subst, sym}
use Rattle.std.specs.Prelude.{MatchBool}
use Rattle.relay_folder.specs.declared.journal_file.JournalFile as files
use Rattle.relay_journal.specs.Writing.{MakesReady, Puts, Writes}
use Rattle.relay_journal.specs.declared.lines.JournalLines as lines
use Rattle.relay_journal.specs.declared.writing.JournalWriter.{JournalWriter}

-- what is put behind a journal that is begun is written,
pub writes_put : {F L : Type 0} (f : files.Ghosts F) (l : lines.Ghosts L) (octets : List ℕ)
    (old begun new : JournalWriter F L) → MakesReady f l old begun → begun.is_begun ≡ true
    → Puts f l octets begun new → Writes f l octets old new
writes_put f l octets old begun new ready is puts = record {
  begun = begun;
  ready = ready;
  puts = subst (λ (b : Bool). MatchBool b (Puts f l octets begun new) (new ≡ begun)) (sym is) puts;
}

-- and nothing is where none is
pub writes_none : {F L : Type 0} (f : files.Ghosts F) (l : lines.Ghosts L) (octets : List ℕ)
    (old begun new : JournalWriter F L) → MakesReady f l old begun → begun.is_begun ≡ false
    → new ≡ begun → Writes f l octets old new
writes_none f l octets old begun new ready is same = record {
  begun = begun;
  ready = ready;
  puts = subst (λ (b : Bool). MatchBool b (Puts f l octets begun new) (new ≡ begun)) (sym is) same;
}
