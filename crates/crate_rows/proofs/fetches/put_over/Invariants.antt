use Rattle.std.proofs.Common.{true, [], map}
use Rattle.feed_queue.specs.Feeds.{ring_size}
use Rattle.post_history.specs.Opening.{book_in}
use Rattle.relay_live.specs.Holding.{has_buffer}
use Rattle.crate_rows.proofs.fetches.put_over.Given as goal

-- the register that was just made, over the buffers of the configuration
abbrev pub ghosts-put_of-J-StorePremises : goal.ghosts-put_of-J-StorePremises
ghosts-put_of-J-StorePremises g a = record {
  register = a.register.now;
  trusted = true;
  holds = has_buffer a.config.now.buffers;
}

-- a ledger of one part
abbrev pub ghosts-put_of-L-Ledger : goal.ghosts-put_of-L-Ledger
ghosts-put_of-L-Ledger g a = record { name = a.blank.name; parts = a.blank.parts }

-- the book that was just opened, of a relay that begins from nothing
abbrev pub ghosts-put_of-J-Naming : goal.ghosts-put_of-J-Naming
ghosts-put_of-J-Naming g a = record {
  book = book_in a.opened;
  began = [];
  rings = map ring_size a.config.now.relay.feeds.items;
}
