-- What is told of a whole configuration.
use Rattle.std.specs.Prelude.{ℕ, List, ◌++◌}
use Rattle.relay_conf.specs.Lines.{lines_of}
use Rattle.relay_conf.specs.declared.settings.Config.{Config}
use Rattle.relay_explain.specs.Buffers.{buffers_text, groups_text}
use Rattle.relay_explain.specs.Entries.{entries_text}
use Rattle.relay_explain.specs.Peers.{feeds_text, peers_text}
use Rattle.relay_explain.specs.Settings.{settings_text}
use Rattle.relay_explain.specs.Sums.{wants_text}
use Rattle.relay_explain.specs.declared.found.Found.{Found}
use Rattle.relay_explain.specs.declared.whole.Sources.{Sources}

-- what is told of cycbuff.conf
abbrev pub cycbuff_text : Config → (lines : List (List ℕ)) → List Found → List ℕ
cycbuff_text config lines found =
    buffers_text config lines found ++ groups_text config lines

-- what is told of relay.conf
abbrev pub relay_text : Config → (lines : List (List ℕ)) → List ℕ
relay_text config lines =
    settings_text config.relay lines ++ peers_text config.relay lines
    ++ feeds_text config.relay lines

-- what is told of a configuration that these texts say, with what lies where the files of its
-- buffers are to be: its buffers and groups, its entries in the order of trial, the relay, its
-- peers and their feeds, and what it takes of the machine; what is odd stands behind its line
abbrev pub explained : Config → Sources → List Found → List ℕ
explained config sources found =
    cycbuff_text config (lines_of sources.cycbuff.items) found
    ++ entries_text config (lines_of sources.storage.items)
    ++ relay_text config (lines_of sources.relay.items)
    ++ wants_text config
