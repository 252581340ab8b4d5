use Rattle.std.proofs.Common.{false, map}
use Rattle.feed_queue.specs.Feeds.{ring_size}
use Rattle.post_history.specs.Opening.{book_in}
use Rattle.relay_live.specs.Holding.{has_buffer}
use Rattle.relay_serve.specs.Lives.{text_in}
use Rattle.relay_serve.proofs.beginning.run_watched.Given as goal

-- the register that was just made, over the buffers of the configuration; no file is trusted
abbrev pub ghosts-run_relay-J-StorePremises : goal.ghosts-run_relay-J-StorePremises
ghosts-run_relay-J-StorePremises g a = record {
  register = a.records.register.now;
  trusted = false;
  holds = has_buffer a.config.now.buffers;
}

-- a ledger of as many parts as there are writers
abbrev pub ghosts-run_relay-L-Ledger : goal.ghosts-run_relay-L-Ledger
ghosts-run_relay-L-Ledger g a = record {
  name = a.records.blank.name;
  parts = a.records.blank.parts;
}

-- the book that was just opened, of a relay that begins from this history with these rings
abbrev pub ghosts-run_relay-J-Naming : goal.ghosts-run_relay-J-Naming
ghosts-run_relay-J-Naming g a = record {
  book = book_in a.records.opened;
  began = text_in a.beginning.origin;
  rings = map ring_size a.config.now.relay.feeds.items;
}
