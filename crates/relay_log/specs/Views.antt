-- The values of the program as the definitions have them.
use Rattle.std.specs.Prelude.{map}
use Rattle.cyc_token.specs.Token.{token_view}
use Rattle.relay_log.specs.Journal as terms
use Rattle.relay_log.specs.declared.journal.Entry.{Entry}
use Rattle.relay_log.specs.declared.journal.Entry.TheVariants.{Refused, Stored, Taken}
use Rattle.relay_log.specs.declared.journal.Journal.{Journal}

-- an entry
abbrev pub entry_view : Entry → terms.Entry
entry_view (Refused id moment) = terms.Refused id moment
entry_view (Stored id moment token) = terms.Stored id moment (token_view token)
entry_view (Taken feed gained passed taken) = terms.Taken feed gained passed taken

-- a journal that was read
abbrev pub journal_view : Journal → terms.Journal
journal_view journal =
    record {
      stop = journal.stop;
      entries = map entry_view journal.entries.items;
      octets = journal.octets;
    }
