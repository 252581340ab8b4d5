-- The worked example *relay.log* (docs/FORMATS.md, Journal file), and one of what is folded in.
use Rattle.std.specs.Prelude.{List, [], ◌∷◌, None, Some}
use Rattle.id_history.specs.History.{Kept, Setting}
use Rattle.news_terms.specs.Token.{Token}
use Rattle.relay_log.specs.Journal.{Entry, Refused, Stored, Taken, Journal}

-- an article of 164 octets, of class 1, at the front of the one buffer
abbrev pub first_token : Token
first_token = record { class = 1; buffer = 0; cycle = 0; first = 0; length = 164 }

-- `<b@x>` was refused in the first second of 2021, and `<a@x>` stored in the next; then of the
-- third feed, which had gained nine tokens, six were past taking and one was taken
abbrev pub first_entries : List Entry
first_entries =
    Refused (60 ∷ 98 ∷ 64 ∷ 120 ∷ 62 ∷ []) 1609459200
    ∷ Stored (60 ∷ 97 ∷ 64 ∷ 120 ∷ 62 ∷ []) 1609459201 first_token ∷ Taken 2 9 6 1 ∷ []

-- a store of one buffer
abbrev pub one_buffer : Setting
one_buffer = record { buffers = 1; groups = 1 ∷ []; rings = [] }

-- the same article, in a buffer that the store hasn't
abbrev pub lost_token : Token
lost_token = record { class = 1; buffer = 1; cycle = 0; first = 0; length = 164 }

-- at the third stop `<a@x>` was known to be refused
abbrev pub last_history : Kept
last_history =
    record {
      stop = 3;
      newest = 7;
      positions = 0 ∷ [];
      feeds = [];
      ids =
          record {
            id = 60 ∷ 97 ∷ 64 ∷ 120 ∷ 62 ∷ [];
            token = None;
            moment = 10;
          }
          ∷ [];
    }

-- after it `<b@x>` was refused, and later stored; `<c@x>` stored, and later refused; `<a@x>`
-- stored, and `<d@x>` in a buffer that is gone
abbrev pub last_journal : Journal
last_journal =
    record {
      stop = 3;
      entries =
          Refused (60 ∷ 98 ∷ 64 ∷ 120 ∷ 62 ∷ []) 11
          ∷ Stored (60 ∷ 99 ∷ 64 ∷ 120 ∷ 62 ∷ []) 12 first_token
          ∷ Stored (60 ∷ 98 ∷ 64 ∷ 120 ∷ 62 ∷ []) 13 first_token
          ∷ Stored (60 ∷ 97 ∷ 64 ∷ 120 ∷ 62 ∷ []) 14 first_token
          ∷ Stored (60 ∷ 100 ∷ 64 ∷ 120 ∷ 62 ∷ []) 15 lost_token
          ∷ Taken 0 1 1 1
          ∷ Refused (60 ∷ 99 ∷ 64 ∷ 120 ∷ 62 ∷ []) 16 ∷ [];
      octets = 221;
    }

-- both together
abbrev pub last_folded : Kept
last_folded =
    record {
      stop = 3;
      newest = 7;
      positions = 0 ∷ [];
      feeds = [];
      ids =
          record {
            id = 60 ∷ 97 ∷ 64 ∷ 120 ∷ 62 ∷ [];
            token = Some first_token;
            moment = 14;
          }
          ∷ record {
            id = 60 ∷ 98 ∷ 64 ∷ 120 ∷ 62 ∷ [];
            token = Some first_token;
            moment = 13;
          }
          ∷ record {
            id = 60 ∷ 99 ∷ 64 ∷ 120 ∷ 62 ∷ [];
            token = None;
            moment = 16;
          }
          ∷ [];
    }
