-- The worked example *relay.hist* (docs/FORMATS.md, History file).
use Rattle.std.specs.Prelude.{[], ◌∷◌, None, Some}
use Rattle.news_terms.specs.Token.{Token}
use Rattle.id_history.specs.History.{KeptId, KeptFeed, Kept}

-- an article of 164 octets, of class 1, at the front of the one buffer
abbrev pub first_token : Token
first_token = record { class = 1; buffer = 0; cycle = 0; first = 0; length = 164 }

-- `<a@x>`, which is stored under it since the first second of 2021
abbrev pub first_id : KeptId
first_id =
    record {
      id = 60 ∷ 97 ∷ 64 ∷ 120 ∷ 62 ∷ [];
      token = Some first_token;
      moment = 1609459200;
    }

-- the one feed, in whose ring it waits
abbrev pub first_feed : KeptFeed
first_feed = record { gained = 1; passed = 0; taken = 0; waiting = first_token ∷ [] }

-- the first stop after one session brought that article
abbrev pub first_stop : Kept
first_stop =
    record {
      stop = 1;
      newest = 1;
      positions = 0 ∷ [];
      feeds = first_feed ∷ [];
      ids = first_id ∷ [];
    }

-- a stop of which no two numbers are alike but those of its lists: two groups, a feed that gained
-- nine tokens, six of them past taking and one taken, and `<b@x>`, which was refused
abbrev pub unlike_stop : Kept
unlike_stop =
    record {
      stop = 2;
      newest = 3;
      positions = 7 ∷ 8 ∷ [];
      feeds = record {
        gained = 9;
        passed = 6;
        taken = 1;
        waiting = record { class = 10; buffer = 11; cycle = 12; first = 13; length = 14 } ∷ [];
      } ∷ [];
      ids = record {
        id = 60 ∷ 98 ∷ 64 ∷ 120 ∷ 62 ∷ [];
        token = None;
        moment = 4;
      } ∷ [];
    }
