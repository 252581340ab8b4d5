-- Lines of relay.conf that were read, as the definitions have them.
use Rattle.std.specs.Prelude.{ℕ, List, filter_map, Result, Ok, Err}
use Rattle.std.specs.Result.{result_ok}
use Rattle.relay_conf.specs.declared.faults.Fault.{Fault}
use Rattle.relay_conf.specs.declared.relay_lines.Line.{Line}
use Rattle.relay_conf.specs.declared.relay_lines.Line.TheVariants as lines
use Rattle.relay_conf.specs.declared.relay_lines.Limit.{Limit}
use Rattle.relay_conf.specs.declared.relay_lines.Limit.TheVariants as limits
use Rattle.relay_conf.specs.declared.faults.LineFault.{LineFault}
use Rattle.relay_conf.specs.declared.faults.ConfError.{ConfError}
use Rattle.relay_conf.specs.declared.reach.Range.{Range}
use Rattle.relay_conf.specs.declared.settings.Relay.{Relay}
use Rattle.relay_conf.specs.LineByLine.{SayTogether, HaveFault, LinesGive}
use Rattle.relay_conf.specs.RelayLines.{LineSays, RelayLine, RawLine, Skipped, Own, MaxArticle}
use Rattle.relay_conf.specs.RelayLines.{Cutoff, Remember, Patience, Sync, Offers, Bind, PeerLine}
use Rattle.relay_conf.specs.RelayLines.{Log, ConnectionsLine, AllowLine, FeedLine, range_of}
use Rattle.relay_conf.specs.Words.{words}
use Rattle.relay_conf.specs.Relay.{RelaySettings, early_fault, relay_said}

-- the ranges that are among the words of a text
abbrev pub ranges_in : (text : List ℕ) → List Range
ranges_in text = filter_map (λ word. result_ok (range_of word)) (words text)

-- a line of relay.conf as the definitions have it, its expression as text
abbrev pub raw_view : Line → RelayLine (List ℕ)
raw_view lines.Skipped = Skipped
raw_view (lines.Own identity) = Own identity.now
raw_view (lines.MaxArticle octets) = MaxArticle octets
raw_view (lines.Cutoff seconds) = Cutoff seconds
raw_view (lines.Remember seconds) = Remember seconds
raw_view (lines.Patience seconds) = Patience seconds
raw_view (lines.Sync seconds) = Sync seconds
raw_view (lines.Offers seconds) = Offers seconds
raw_view (lines.Log all path) = Log all path.now
raw_view (lines.Bind address) = Bind address
raw_view (lines.Peer name identity port) = PeerLine name.now identity.now port
raw_view (lines.Connections name connections) = ConnectionsLine name.now connections
raw_view (lines.Allow name text) = AllowLine name.now (ranges_in text.now)
raw_view (lines.Feed name ring text hash) = FeedLine name.now ring text.now hash

-- the answer is what a line says alone
abbrev pub raw_by : Result Line Fault → RawLine
raw_by (Ok line) = Ok (raw_view line)
raw_by (Err fault) = Err fault

-- the line of a key of one number
abbrev pub limit_view : Limit → ℕ → RelayLine (List ℕ)
limit_view limits.MaxArticle number = MaxArticle number
limit_view limits.Cutoff number = Cutoff number
limit_view limits.Remember number = Remember number
limit_view limits.Patience number = Patience number
limit_view limits.Sync number = Sync number
limit_view limits.Offers number = Offers number

-- the settings of relay.conf as the definitions have them
abbrev pub relay_view : Relay → RelaySettings
relay_view relay =
    record {
      own = relay.own;
      max_article = relay.max_article;
      cutoff = relay.cutoff;
      remember = relay.remember;
      patience = relay.patience;
      sync = relay.sync;
      offers = relay.offers;
      log = relay.log;
      binds = relay.binds.items;
      peers = relay.peers.items;
      feeds = relay.feeds.items;
      allows = relay.allows.items;
    }

-- the lines say these settings together (docs/FORMATS.md, Configuration)
abbrev pub HasSettings : (lines : List (List ℕ)) → RelaySettings → Type 0
HasSettings lines settings = SayTogether LineSays relay_said lines (Ok settings)

-- the lines have this fault (docs/FORMATS.md, Configuration)
abbrev pub HasFault : (lines : List (List ℕ)) → LineFault → Type 0
HasFault lines fault = HaveFault LineSays early_fault relay_said lines fault

-- the answer is what the lines of relay.conf say, unless memory ran out
abbrev pub RelayGives : Result Relay ConfError → (lines : List (List ℕ)) → Type 0
RelayGives result lines = LinesGive relay_view LineSays early_fault relay_said result lines
