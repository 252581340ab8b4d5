-- What a crash leaves of the relay (docs/PROTOCOL.md, Crashes): its program was killed, or the
-- power failed, and it was found again from what its devices have, and from what a file lists of
-- earlier message-ids.
use Rattle.std.specs.Prelude.{◌≡◌, ◌⊎◌, ℕ, ◌≤◌, not, nat_lt, Bool, true, List, [], ◌∷◌}
use Rattle.std.specs.Prelude.{length, map, filter, find, bytes_eq, count_by, All, slice_get}
use Rattle.std.specs.Prelude.{Option, None, Some, if◌then◌else◌}
use Rattle.std.specs.List.{Contains}
use Rattle.news_terms.specs.Article.{Article, IsArticleText, is_empty, message_id}
use Rattle.news_terms.specs.Courses.{Course, IsLaid}
use Rattle.news_terms.specs.Fronts.{FitsGroup}
use Rattle.news_terms.specs.Places.{Buffer, Extent, Group}
use Rattle.news_terms.specs.Token.{Token}
use Rattle.relay_model.specs.Claims.{Claim, Unknown, Stored, Refused}
use Rattle.relay_model.specs.Counted.{IsInTime, all_begun}
use Rattle.relay_model.specs.Fetches.{IsGoneToken, front_of, is_at, text_under}
use Rattle.relay_model.specs.Judging.{permitted}
use Rattle.relay_model.specs.OnRecord.{IsBelow}
use Rattle.relay_model.specs.Shares.{ring_of}
use Rattle.relay_model.specs.State.{State, Kept, empty_state, tokens_for}
use Rattle.relay_model.specs.Terms.{Terms, last_moment}
use Rattle.relay_model.specs.World.{World, empty_world}

-- a message-id that a file lists as remembered, and since when
pub record Listed : Type 0 where
  pub id : List ℕ
  pub moment : ℕ

-- a text that is found again, and the article that it reads as. Its id is empty where it is no
-- id's: another text of its message-id is found too, and is the id's.
pub record Again : Type 0 where
  pub kept : Kept
  pub read : Article

-- all that is found again: the texts, those thought the newest last; the course of each group, as
-- far as the devices tell; what the file lists, and its newest session; and the moment
pub record Found : Type 0 where
  pub texts : List Again
  pub begun : ℕ → Course
  pub listed : List Listed
  pub newest : Option ℕ
  pub moment : ℕ

-- the text is an id's
abbrev pub is_claimed : Again → Bool
is_claimed one = not (is_empty one.kept.id)

-- the texts that are some id's
abbrev pub claimed : List Again → List Again
claimed texts = filter is_claimed texts

-- an id is stored from now on where a text of it is found, else remembered as refused where it is
-- listed
abbrev pub claim_by : (now : ℕ) → Option Again → Option Listed → Claim
claim_by now (Some one) listed = Stored one.kept.token now
claim_by now None (Some one) = Refused one.moment
claim_by now None None = Unknown

-- the claim of each id
abbrev pub claim_again : Found → List ℕ → Claim
claim_again found id =
    claim_by found.moment
    (find (λ (one : Again). bytes_eq id one.kept.id) (claimed found.texts))
    (find (λ (one : Listed). bytes_eq one.id id) found.listed)

-- the numbers of the feeds that may have an article that is found again, as if no peer had brought
-- it: the one that did is in its Path, unless it gave another name there (RFC 5537 section 3.6)
abbrev pub permitted_again : Terms → Article → List ℕ
permitted_again w a = permitted w (length w.peers) a

-- the feed's ring has room for one more before these
abbrev pub has_room : Terms → List (Token × List ℕ) → ℕ → Bool
has_room w later feed =
    nat_lt (length (tokens_for feed later)) (ring_of (slice_get w.feeds feed))

-- one more text that is found before these: its token, for those feeds whose rings have room
abbrev pub with_again : Terms → Again → List (Token × List ℕ) → List (Token × List ℕ)
with_again w one later =
    if is_claimed one
    then (one.kept.token, filter (has_room w later) (permitted_again w one.read)) ∷ later
    else later

-- each token that is accepted again, with the feeds that gain it: of each feed the newest, as many
-- as its ring holds
abbrev pub accepted_again : Terms → List Again → List (Token × List ℕ)
accepted_again w [] = []
accepted_again w (one ∷ later) = with_again w one (accepted_again w later)

-- the state: what is found, and what follows from it; nobody is here, and no feed has taken
-- anything
abbrev pub state_again : Terms → Found → State
state_again w found =
    let accepted = accepted_again w found.texts in
    record empty_state {
      claim = claim_again found;
      begun = found.begun;
      kept = map (λ (one : Again). one.kept) found.texts;
      feed = λ f. record { gained = tokens_for f accepted; passed = 0; taken = 0 };
      accepted = accepted;
      newest = found.newest;
    }

-- the world: nobody has anything to do
abbrev pub world_again : Terms → Found → (ℕ → ℕ) → World
world_again w found failures = record (empty_world failures) { state = state_again w found }

-- a text that is found is an article as long as its token says; it is its message-id's, or no id's
pub record IsRead (one : Again) : Type 0 where
  pub is_read : IsArticleText one.kept.text one.read
  pub length_of : one.kept.token.length ≡ length one.kept.text
  pub id : (one.kept.id ≡ message_id one.read.fields) ⊎ (one.kept.id ≡ [])

-- where a text was whole under its token, it is that one; where none was, its article was begun and
-- never finished, though all its blocks came to the device
abbrev pub IsOfBefore : List Kept → Again → Type 0
IsOfBefore before one =
    (text : List ℕ) → text_under before one.kept.token ≡ Some text → text ≡ one.kept.text

-- What is found of a relay that was in this state. The tokens that were saved are those of articles
-- that the devices had to keep: after a kill all that were whole, after a power cut those that were
-- flushed.
pub record IsFound (w v : Terms) (saved : Token → Bool) (σ : State) (found : Found) : Type 0 where
  -- each article begun fits and lies where it may, in a cycle that a token has room for
  pub sizes : (g : ℕ) (group : Group) → slice_get v.groups g ≡ Some group
      → All (λ (one : Extent). (1 ≤ one.size) × FitsGroup group one.size) (found.begun g).articles
  pub laid : (g : ℕ) (group : Group) → slice_get v.groups g ≡ Some group
      → IsLaid group (found.begun g)
  pub in_time : (g : ℕ) (group : Group) → slice_get v.groups g ≡ Some group
      → All IsInTime (found.begun g).articles
  -- no front is past where it was
  pub fronts : (i : ℕ) (buffer : Buffer) → slice_get v.buffers i ≡ Some buffer
      → front_of v (state_again v found) buffer ≤ front_of w σ buffer
  -- each text is an article below the front of its buffer, the one that was whole there
  pub read : All IsRead found.texts
  pub below : All (λ one. IsBelow v (state_again v found) one.kept.token) found.texts
  pub of_before : All (IsOfBefore σ.kept) found.texts
  -- at a place lies one text at most, and of an id is one; there are no more than were begun
  pub places : (buffer cycle first : ℕ)
      → count_by (λ (one : Again). is_at buffer cycle first one.kept) found.texts ≤ 1
  pub ids : (id : List ℕ)
      → count_by (λ (one : Again). bytes_eq id one.kept.id) (claimed found.texts) ≤ 1
  pub count : length found.texts ≤ all_begun v (state_again v found)
  -- each message-id that is found has one that is its own
  pub owned : All (λ (one : Again). (other : Again) × Contains found.texts other
      × (other.kept.id ≡ message_id one.read.fields)) found.texts
  -- each text that was saved, and wasn't gone, is found
  pub kept : All (λ (before : Kept). saved before.token ≡ true → ¬ IsGoneToken w σ before.token
      → text_under (map (λ (one : Again). one.kept) found.texts) before.token ≡ Some before.text)
      σ.kept
  -- it is found at a moment that there is, and so are those that are listed
  pub now : found.moment ≤ last_moment
  pub listed : All (λ one. one.moment ≤ last_moment) found.listed

-- A crash: the relay is found again, under these settings. What it was in is gone. That they have
-- the same store is asked where a life goes on after it.
pub record Crash (w v : Terms) (saved : Token → Bool) (x y : World) : Type 0 where
  pub found : Found
  pub failures : ℕ → ℕ
  pub is_found : IsFound w v saved x.state found
  pub after : y ≡ world_again v found failures
