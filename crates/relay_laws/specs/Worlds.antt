-- The worlds in which the other worked rows begin, so that they stay short.
use Rattle.std.specs.Prelude.{ℕ, ◌+◌, List, [], ◌∷◌, codes, replicate, slice_get}
use Rattle.std.specs.Prelude.{Option, Some, None}
use Rattle.std.specs.Str.{byte}
use Rattle.news_terms.specs.Command.{WholeText}
use Rattle.news_terms.specs.Courses.{Course, course_of, first_course}
use Rattle.news_terms.specs.Places.{Group}
use Rattle.news_terms.specs.Token.{Token}
use Rattle.relay_model.specs.Claims.{Accepted, Claim, Unknown, Offered, Storing, Stored, Refused}
use Rattle.relay_model.specs.Claims.{Stage, Waiting, Begun}
use Rattle.relay_model.specs.Claims as claims
use Rattle.relay_model.specs.State.{State, Session, Job, Ready, Waits, Fetches, OfId, OfToken}
use Rattle.relay_model.specs.State.{Asked, OpenOffer, TakesThis, Has}
use Rattle.relay_model.specs.State.{put_id, put_at, empty_state}
use Rattle.relay_model.specs.Terms.{Terms}
use Rattle.relay_model.specs.World.{World, Idle, Writing, empty_world}
use Rattle.relay_model.specs.World as world
use Rattle.relay_laws.specs.OtherTerms.{in_last_cycle, two_groups}
use Rattle.relay_laws.specs.Terms.{now, k1, group_g}

-- the course of a group that began articles of these sizes
abbrev pub course_in : Option Group → List ℕ → Course
course_in None sizes = first_course
course_in (Some group) sizes = course_of group sizes

-- the course of each group of these terms, after it began articles of its sizes
abbrev pub courses_of : Terms → (ℕ → List ℕ) → ℕ → Course
courses_of w sizes g = course_in (slice_get w.groups g) (sizes g)

-- the token of an article of three blocks, at this cycle and block
abbrev pub three_blocks_at : (cycle first : ℕ) → Token
three_blocks_at cycle first =
    record { class = 1; buffer = 0; cycle = cycle; first = first; length = 1440 }

-- an accepted article of three blocks, permitted for the one feed
abbrev pub three_blocks : Accepted
three_blocks =
    record { class = 1; group = 0; permitted = 0 ∷ []; text = replicate 1440 (byte "x") }

-- the job of the third article, which session 1 brought by TAKETHIS
abbrev pub third_job : Job
third_job = record { session = 1; id = codes "<3@x>"; article = three_blocks }

-- the job of the fourth, which session 3 brought by IHAVE
abbrev pub fourth_job : Job
fourth_job = record { session = 3; id = codes "<4@x>"; article = three_blocks }

-- an open offer of this id, since now
abbrev pub open_now : List ℕ → OpenOffer
open_now id = record { id = id; since = now }

-- a session of the first peer that waits for the outcome of its article
abbrev pub waiting_third : Session
waiting_third =
    record {
      peer = 0;
      unread = [];
      offers = [];
      phase = Waits TakesThis (codes "<3@x>");
      hand = None;
    }

-- another one
abbrev pub waiting_fourth : Session
waiting_fourth =
    record { peer = 0; unread = []; offers = []; phase = Waits Has (codes "<4@x>"); hand = None }

-- a session of the second peer that reads commands
abbrev pub reading : Session
reading = record { peer = 1; unread = []; offers = []; phase = Ready; hand = None }

-- the sessions 1 and 3 wait, session 2 reads commands
abbrev pub three_sessions : ℕ → Option Session
three_sessions =
    put_at (put_at (put_at (λ s. None) 1 (Some waiting_third)) 2 (Some reading)) 3
    (Some waiting_fourth)

-- two articles of three blocks are stored, the third and the fourth wait for their writer
abbrev pub two_stored_claims : List ℕ → Claim
two_stored_claims =
    put_id (put_id (put_id (put_id (λ id. Unknown) (codes "<1@x>")
    (Stored (three_blocks_at 0 0) now)) (codes "<2@x>") (Stored (three_blocks_at 0 3) now))
    (codes "<3@x>") (Storing 1 three_blocks Waiting)) (codes "<4@x>")
    (Storing 3 three_blocks Waiting)

-- the state in which these two texts are stored
abbrev pub two_stored_state : (one two : List ℕ) → State
two_stored_state one two =
    record empty_state {
      claim = two_stored_claims;
      begun = courses_of k1 (λ group. 3 ∷ 3 ∷ []);
      kept =
          record { token = three_blocks_at 0 0; id = codes "<1@x>"; text = one }
          ∷ record { token = three_blocks_at 0 3; id = codes "<2@x>"; text = two } ∷ [];
      session = three_sessions;
      newest = Some 3;
    }

-- the world in which these two texts are stored, and two jobs are queued
abbrev pub two_stored : (failures : ℕ → ℕ) → (one two : List ℕ) → World
two_stored failures one two =
    record {
      state = two_stored_state one two;
      work = record (empty_world failures).work {
        queue = put_at (λ group. []) 0 (third_job ∷ fourth_job ∷ []);
      };
    }

-- one article of three blocks was begun, and the same two jobs are queued
abbrev pub one_begun : (failures : ℕ → ℕ) → World
one_begun failures =
    record (two_stored failures [] []) {
      state = record empty_state {
        claim = put_id (put_id (λ id. Unknown) (codes "<3@x>") (Storing 1 three_blocks Waiting))
            (codes "<4@x>") (Storing 3 three_blocks Waiting);
        begun = courses_of in_last_cycle (λ group. 3 ∷ []);
        session = three_sessions;
        newest = Some 3;
      };
    }

-- the claims while a job is being stored, at this stage
abbrev pub claims_at : Job → Stage → List ℕ → Claim
claims_at job stage = put_id two_stored_claims job.id (Storing job.session three_blocks stage)

-- the state in which a job is begun, so that the first article is overwritten
abbrev pub begun_state : (one two : List ℕ) → Job → State
begun_state one two job =
    record (two_stored_state one two) {
      claim = claims_at job (Begun (three_blocks_at 1 0));
      begun = put_at (courses_of k1 (λ group. 3 ∷ 3 ∷ [])) 0 (course_of group_g (3 ∷ 3 ∷ 3 ∷ []));
    }

-- so many of its blocks are written, and these jobs are queued
abbrev pub begun_world : (failures : ℕ → ℕ) → (one two : List ℕ) → Job → (rest : List Job)
    → (written : ℕ) → World
begun_world failures one two job rest written =
    record {
      state = begun_state one two job;
      work = record (empty_world failures).work {
        queue = put_at (λ group. []) 0 rest;
        writer = put_at (λ group. Idle) 0 (Writing job (three_blocks_at 1 0) written);
      };
    }

-- the write of a block has failed
abbrev pub failed_world : (failures : ℕ → ℕ) → (one two : List ℕ) → Job → (rest : List Job)
    → (written : ℕ) → World
failed_world failures one two job rest written =
    let before = begun_world failures one two job rest written in
    record {
      state = record before.state {
        claim = put_id before.state.claim job.id (Storing job.session three_blocks claims.Failed);
      };
      work = record before.work {
        writer = put_at before.work.writer 0 (world.Failed job (Some (three_blocks_at 1 0)));
      };
    }

-- two texts are stored, and session 2, which asked for the first, has read so many of its three
-- blocks
abbrev pub reading_on : Asked → ℕ → (failures : ℕ → ℕ) → (one two : List ℕ) → World
reading_on asked had failures one two =
    let before = two_stored failures one two in
    record before {
      state = record before.state {
        session = put_at before.state.session 2 (Some (record reading {
          phase = Fetches asked (three_blocks_at 0 0) had;
        }));
      };
    }

-- it asked for it by its id, and has read two
abbrev pub reading_last : (failures : ℕ → ℕ) → (one two : List ℕ) → World
reading_last = reading_on (OfId WholeText (codes "<1@x>")) 2

-- the same, where it asked by the token
abbrev pub reading_by_token : (failures : ℕ → ℕ) → (one two : List ℕ) → World
reading_by_token = reading_on OfToken 2

-- session 1 has four offers open, of ids that are by now offered to session 3, being stored for
-- session 1 and for session 3, and stored
abbrev pub sharing : (failures : ℕ → ℕ) → (one two : List ℕ) → World
sharing failures one two =
    let before = two_stored failures one two in
    record before {
      state = record before.state {
        claim = put_id before.state.claim (codes "<o@x>") (Offered 3 now);
        session = put_at before.state.session 1 (Some (record reading {
          offers =
              open_now (codes "<o@x>") ∷ open_now (codes "<3@x>") ∷ open_now (codes "<4@x>")
              ∷ open_now (codes "<2@x>") ∷ [];
        }));
      };
    }

-- ids may be forgotten after a hundred seconds
abbrev pub forgetting : Terms
forgetting = record k1 { remember = Some 100 }

-- three articles were begun, so that the first is overwritten; the ids of the first two are stored,
-- a third one was refused, and a fourth is offered
abbrev pub remembering : (failures : ℕ → ℕ) → World
remembering failures =
    record (empty_world failures) {
      state = record empty_state {
        claim = put_id (put_id (put_id (put_id (λ id. Unknown) (codes "<1@x>")
            (Stored (three_blocks_at 0 0) now)) (codes "<2@x>")
            (Stored (three_blocks_at 0 3) now)) (codes "<e@x>") (Refused now)) (codes "<o@x>")
            (Offered 1 now);
        begun = courses_of k1 (λ group. 3 ∷ 3 ∷ 3 ∷ []);
        session = put_at (λ s. None) 2 (Some reading);
        newest = Some 2;
      };
    }

-- three articles were begun in the second buffer, so that the first there is overwritten, and one
-- in the first; the ids of the first two there and of the one here are stored
abbrev pub remembering_two : (failures : ℕ → ℕ) → World
remembering_two failures =
    record (empty_world failures) {
      state = record empty_state {
        claim = put_id (put_id (put_id (λ id. Unknown) (codes "<1@x>")
            (Stored (record (three_blocks_at 0 0) { buffer = 1 }) now)) (codes "<2@x>")
            (Stored (three_blocks_at 0 0) now)) (codes "<3@x>")
            (Stored (record (three_blocks_at 0 3) { buffer = 1 }) now);
        begun = courses_of two_groups (put_at (λ group. 3 ∷ []) 1 (3 ∷ 3 ∷ 3 ∷ []));
        session = put_at (λ s. None) 2 (Some reading);
        newest = Some 2;
      };
    }

-- of two tokens that the feed gained one was taken, and this text is stored under the other
abbrev pub remembering_feed : (failures : ℕ → ℕ) → (two : List ℕ) → World
remembering_feed failures two =
    let before = remembering failures in
    record before {
      state = record before.state {
        kept = record { token = three_blocks_at 0 3; id = codes "<2@x>"; text = two } ∷ [];
        feed = λ feed. record {
          gained = three_blocks_at 0 0 ∷ three_blocks_at 0 3 ∷ [];
          passed = 1;
          taken = 1;
        };
      };
    }

-- each feed gained three tokens of its own: two of a first cycle, one of a later one
abbrev pub both_gained : (failures : ℕ → ℕ) → World
both_gained failures =
    record (empty_world failures) {
      state = record empty_state {
        feed = λ feed. record {
          gained =
              three_blocks_at feed 0 ∷ three_blocks_at feed 3 ∷ three_blocks_at (feed + 2) 0 ∷ [];
          passed = 0;
          taken = 0;
        };
      };
    }

-- session 1 has so many offers open, all of one id
abbrev pub offering : (failures : ℕ → ℕ) → ℕ → World
offering failures n =
    record (empty_world failures) {
      state = record empty_state {
        claim = put_id (λ id. Unknown) (codes "<o@x>") (Offered 1 now);
        session = put_at (λ s. None) 1
            (Some (record reading { offers = replicate n (open_now (codes "<o@x>")) }));
        newest = Some 1;
      };
    }

-- offers run out after half a minute
abbrev pub running_out : Terms
running_out = record k1 { offers = Some 30 }

-- session 1 has 256 offers open, the oldest twenty seconds older than the others
abbrev pub aging : (failures : ℕ → ℕ) → World
aging failures =
    record (empty_world failures) {
      state = record empty_state {
        claim = put_id (put_id (λ id. Unknown) (codes "<o@x>") (Offered 1 (now + 20)))
            (codes "<3@x>") (Offered 1 now);
        session = put_at (λ s. None) 1 (Some (record reading {
          offers =
              open_now (codes "<3@x>")
              ∷ replicate 255 (record { id = codes "<o@x>"; since = now + 20 });
        }));
        newest = Some 1;
      };
    }

-- session 1 has 256 offers open, the oldest of another id than the others
abbrev pub offering_third : (failures : ℕ → ℕ) → World
offering_third failures =
    record (empty_world failures) {
      state = record empty_state {
        claim = put_id (put_id (λ id. Unknown) (codes "<o@x>") (Offered 1 now)) (codes "<3@x>")
            (Offered 1 now);
        session = put_at (λ s. None) 1 (Some (record reading {
          offers = open_now (codes "<3@x>") ∷ replicate 255 (open_now (codes "<o@x>"));
        }));
        newest = Some 1;
      };
    }

-- session 1 has 256 offers open, two of them of ids that are by now being stored for session 3, and
-- stored
abbrev pub outdated : (failures : ℕ → ℕ) → World
outdated failures =
    record (empty_world failures) {
      state = record empty_state {
        claim = put_id (put_id (put_id (λ id. Unknown) (codes "<o@x>") (Offered 1 now))
            (codes "<3@x>") (Storing 3 three_blocks Waiting)) (codes "<2@x>")
            (Stored (three_blocks_at 0 3) now);
        session = put_at (λ s. None) 1 (Some (record reading {
          offers = open_now (codes "<3@x>") ∷ open_now (codes "<2@x>")
              ∷ replicate 254 (open_now (codes "<o@x>"));
        }));
        newest = Some 1;
      };
    }

-- session 1 has a job in its hand, and so many are queued
abbrev pub pushing : (failures : ℕ → ℕ) → ℕ → World
pushing failures n =
    record {
      state = record empty_state {
        claim = put_id (λ id. Unknown) (codes "<3@x>") (Storing 1 three_blocks Waiting);
        session = put_at (λ s. None) 1 (Some (record waiting_third { hand = Some third_job }));
        newest = Some 1;
      };
      work = record (empty_world failures).work {
        queue = put_at (λ group. []) 0 (replicate n fourth_job);
      };
    }

-- the job of an article of three blocks that goes to the second group
abbrev pub other_job : Job
other_job = record third_job { article = record three_blocks { group = 1 } }

-- session 1 has that job in its hand, so many are queued in the first group and so many in the
-- second
abbrev pub pushing_to_second : (failures : ℕ → ℕ) → (first second : ℕ) → World
pushing_to_second failures first second =
    record {
      state = record empty_state {
        claim = put_id (λ id. Unknown) (codes "<3@x>")
            (Storing 1 (record three_blocks { group = 1 }) Waiting);
        session = put_at (λ s. None) 1 (Some (record waiting_third { hand = Some other_job }));
        newest = Some 1;
      };
      work = record (empty_world failures).work {
        queue = put_at (put_at (λ group. []) 0 (replicate first fourth_job)) 1
            (replicate second other_job);
      };
    }
