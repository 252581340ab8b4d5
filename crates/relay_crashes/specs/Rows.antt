-- Worked examples of crashes.
use Rattle.std.specs.Prelude.{ℕ, ◌∷◌, [], List, codes, Some}
use Rattle.news_terms.specs.Article.{Article}
use Rattle.news_terms.specs.Path.{updated_article}
use Rattle.relay_model.specs.Judging.{identity_of}
use Rattle.relay_model.specs.Terms.{Terms}
use Rattle.relay_model.specs.Crash.{Again, Found}
use Rattle.relay_laws.specs.Terms.{k1, now}
use Rattle.relay_laws.specs.Worlds.{courses_of, three_blocks_at}

-- the header of an article of the first peer
abbrev pub from_first : Article
from_first =
    record {
      fields =
          record { name = codes "Path"; content = codes " relay.example!!one.example!x" }
          ∷ record { name = codes "Newsgroups"; content = codes " misc.test" } ∷ [];
      body = [];
    }

-- that of an article that has been at the second peer
abbrev pub seen_by_second : Article
seen_by_second =
    record {
      fields =
          record {
            name = codes "Path";
            content = codes " relay.example!!one.example!Two.Example!x";
          }
          ∷ record { name = codes "Newsgroups"; content = codes " misc.test" } ∷ [];
      body = [];
    }

-- a text that is found under this token and id, and reads so
abbrev pub again_at : (cycle first : ℕ) → (id text : List ℕ) → Article → Again
again_at cycle first id text read =
    record {
      kept = record { token = three_blocks_at cycle first; id = id; text = text };
      read = read;
    }

-- four texts are found, one of them no id's; the second peer has seen the third
abbrev pub four_found : (a b c d : List ℕ) → Found
four_found a b c d =
    record {
      texts =
          again_at 0 3 (codes "<1@x>") a from_first
          ∷ again_at 1 0 [] b from_first
          ∷ again_at 1 3 (codes "<2@x>") c seen_by_second
          ∷ again_at 2 0 (codes "<3@x>") d from_first ∷ [];
      begun = courses_of k1 (λ group. 3 ∷ 3 ∷ 3 ∷ 3 ∷ 3 ∷ []);
      listed =
          record { id = codes "<e@x>"; moment = 7 }
          ∷ record { id = codes "<1@x>"; moment = 7 } ∷ [];
      newest = Some 5;
      moment = now;
    }

-- three texts are found that the second peer may have
abbrev pub three_found : (a b c : List ℕ) → Found
three_found a b c =
    record (four_found a b c c) {
      texts =
          again_at 0 3 (codes "<1@x>") a from_first
          ∷ again_at 1 0 (codes "<2@x>") b from_first
          ∷ again_at 2 0 (codes "<3@x>") c from_first ∷ [];
    }

-- the header of an article as it came, with this Path
abbrev pub came_by : (path : List ℕ) → Article
came_by path =
    record {
      fields =
          record { name = codes "Path"; content = path }
          ∷ record { name = codes "Newsgroups"; content = codes " misc.test" } ∷ [];
      body = [];
    }

-- the same as it is stored, where it came from this peer
abbrev pub stored_from : Terms → ℕ → Article → Article
stored_from w from a = updated_article w.own (identity_of w from) a
