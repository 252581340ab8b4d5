use Rattle.std.proofs.Common.{◌∙◌, ◌++◌, ap, append-nil, false, refl, sym, true≢false, List}
use Rattle.std.proofs.Common.{ℕ}
use Rattle.relay_log.specs.Journal.{journal_octets}
use Rattle.relay_journal.proofs.Texts.{more_entries}
use Rattle.relay_journal.proofs.writing.JournalWriter.put.Goals as goal

-- the entries stand behind the others
pub returns-in-Ok : goal.returns-in-Ok
returns-in-Ok g c = record {
  failed = false;
  begun = c.requires;
  told = sym (append-nil _);
  is_told = refl;
  text = λ honest went stop entries more was are.
      c.in-Ok.ensures.text honest
      ∙ ap (λ (octets : List ℕ). octets ++ c.args.octets.now) was
      ∙ ap (λ (octets : List ℕ). journal_octets stop entries ++ octets) are
      ∙ more_entries stop entries more;
  behind = λ honest failed. absurd (true≢false (sym failed));
  written = λ went. c.saturating_add-self.ensures;
  honest = c.append.ensures.honest;
  front = refl;
}
