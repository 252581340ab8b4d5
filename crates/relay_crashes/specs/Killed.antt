-- Kills while articles of three blocks are written: what is found after each.
use Rattle.std.specs.Prelude.{◌≡◌, ℕ, ◌+◌, List, [], ◌∷◌, length, codes, None}
use Rattle.news_terms.specs.Article.{Article, IsArticleText, message_id}
use Rattle.relay_laws.specs.Terms.{k1, now}
use Rattle.relay_laws.specs.Worlds.{courses_of, three_blocks, three_blocks_at, third_job}
use Rattle.relay_model.specs.Claims.{Unknown, Storing, Begun}
use Rattle.relay_model.specs.Crash.{Again, Found, Listed}
use Rattle.relay_model.specs.State.{Job, empty_state, put_at, put_id}
use Rattle.relay_model.specs.World.{World, Idle, Writing, empty_world}
use Rattle.relay_crashes.specs.Rows.{again_at}

-- a text of three blocks that reads as this article, of this message-id
pub record IsThree (id text : List ℕ) (a : Article) : Type 0 where
  pub reads : IsArticleText text a
  pub own : message_id a.fields ≡ id
  pub long : length text ≡ 1440

-- a minute after all that happened, at which it is found again
abbrev pub found_at : ℕ
found_at = now + 60

-- these texts are found, where articles of these sizes were begun, and these ids are listed
abbrev pub found_by : List Again → (sizes : List ℕ) → List Listed → Found
found_by texts sizes listed =
    record {
      texts = texts;
      begun = courses_of k1 (λ group. sizes);
      listed = listed;
      newest = None;
      moment = found_at;
    }

-- the second text is found, and some of the third article's blocks, so that the front is past it
-- and the first is overwritten
abbrev pub second_found : (two : List ℕ) → Article → List Listed → Found
second_found two b listed =
    found_by (again_at 0 3 (codes "<2@x>") two b ∷ []) (3 ∷ 3 ∷ 3 ∷ []) listed

-- the refused id, as a file lists it
abbrev pub refused_listed : List Listed
refused_listed = record { id = codes "<e@x>"; moment = now } ∷ []

-- the first two texts are found, and nothing of the third article
abbrev pub first_found : (one two : List ℕ) → (a b : Article) → Found
first_found one two a b =
    found_by (again_at 0 0 (codes "<1@x>") one a ∷ again_at 0 3 (codes "<2@x>") two b ∷ [])
    (3 ∷ 3 ∷ []) []

-- nothing is found
abbrev pub nothing_found : Found
nothing_found = found_by [] [] []

-- the second text and the third are found, both of one id, which the third has
abbrev pub twice_found : (two three : List ℕ) → (b c : Article) → Found
twice_found two three b c =
    found_by (again_at 0 3 [] two b ∷ again_at 1 0 (codes "<2@x>") three c ∷ [])
    (3 ∷ 3 ∷ 3 ∷ []) []

-- the job of another article of the second one's id
abbrev pub second_again : Job
second_again = record third_job { id = codes "<2@x>" }

-- the second article was given up, though its blocks came to the device; another one of its id is
-- written, and isn't finished yet
abbrev pub twice_world : (failures : ℕ → ℕ) → World
twice_world failures =
    record {
      state = record empty_state {
        claim = put_id (λ id. Unknown) (codes "<2@x>")
            (Storing 1 three_blocks (Begun (three_blocks_at 1 0)));
        begun = courses_of k1 (λ group. 3 ∷ 3 ∷ 3 ∷ []);
      };
      work = record (empty_world failures).work {
        writer = put_at (λ group. Idle) 0 (Writing second_again (three_blocks_at 1 0) 3);
      };
    }
