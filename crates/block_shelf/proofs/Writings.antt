-- The histories of buffers, while groups begin, write and end theirs, and what the relay's state
-- says of a history of which only its open write is another, or in which an article is finished.
use Rattle.std.proofs.Common.{◌≡◌, ◌≢◌, ◌∙◌, ℕ, ◌+◌, Bool, refl, sym, ap, List, [], ◌∷◌, Option}
use Rattle.std.proofs.Common.{None, Some, arith, ◌==◌, ◌&&◌, false, add-one, length, ◌++◌}
use Rattle.std.proofs.Common.{if◌then◌else◌}
use Rattle.std.specs.Prelude.{count_by}
use Rattle.std.proofs.lemmas.Bool.Decides.{nat_tests}
use Rattle.std.proofs.lemmas.List.Sums.{sum_by_push}
use Rattle.cyc_buffer.specs.History.{History, Begin, Writing, open_token, with_begin, next_place}
use Rattle.cyc_buffer.specs.History.{token_at, Article, head_of, is_at, finished_at, text_of}
use Rattle.cyc_buffer.specs.History.{stored_count}
use Rattle.news_terms.specs.Courses.{Course}
use Rattle.news_terms.specs.Places.{Group, size_of, Buffer, Head}
use Rattle.news_terms.specs.Token.{Token, same_token}
use Rattle.news_terms.specs.Picks.{place_after}
use Rattle.news_terms.specs.Settings.{IsBufferAt}
use Rattle.news_terms.specs.Places as places
use Rattle.relay_facts.proofs.Puts.{put_at_here, put_at_there, put_at_both}
use Rattle.relay_model.specs.Fetches.{text_under}
use Rattle.relay_model.specs.Figures.{is_kept_in}
use Rattle.relay_model.specs.State.{Kept, put_at}
use Rattle.block_shelf.specs.Histories.{HasBegins, HasWriting, IsFree, IsBusy, IsHistoryOf}
use Rattle.block_shelf.specs.Histories.{IsWriting}
use Rattle.block_shelf.specs.Openings.{Opening, IsOpen, token_in}

-- a group's open write, if it has one, isn't in the buffer of this number
abbrev pub IsApart : (number : ℕ) → Option Opening → Type 0
IsApart number opening = (one : Opening) → opening ≡ Some one → (token_in one).buffer ≢ number

-- no other group has its open write in the buffer of this number
abbrev pub IsOnly : (ℕ → Option Opening) → (g number : ℕ) → Type 0
IsOnly openings g number =
    (k : ℕ) (one : Opening) → openings k ≡ Some one → (token_in one).buffer ≡ number → k ≡ g

-- this is the history's open write
pub record HasThis (h : History) (one : Opening) : Type 0 where
  pub token : open_token h ≡ Some (token_in one)
  pub writing : IsWriting one h.writing

-- the token of a history's open write names its buffer
pub open_token_here : (h : History) (token : Token) → open_token h ≡ Some token
    → token.buffer ≡ h.buffer.number
open_token_here h token e = grind arith

module _ (openings : ℕ → Option Opening) (g : ℕ) {h : History} where
  -- what a group does in another buffer leaves the history's open write
  pub writing_apart : {v : Option Opening} → IsApart h.buffer.number (openings g)
      → IsApart h.buffer.number v → HasWriting openings h → HasWriting (put_at openings g v) h
  writing_apart {v} old new (IsFree free apart) =
      IsFree free (λ k one is.
      put_at_both (λ each. each ≡ Some one → (token_in one).buffer ≢ h.buffer.number) openings g v k
      (λ same e. new one e) (λ other e. apart k one e) is)
  writing_apart {v} old new (IsBusy k one is token writing) =
      IsBusy k one
      (put_at_there openings g v k (λ same. old one (ap openings (sym same) ∙ is)
      (open_token_here h (token_in one) token)) ∙ is)
      token writing

  -- the open write of a group in this buffer is the history's
  pub has_this : {one : Opening} → openings g ≡ Some one
      → (token_in one).buffer ≡ h.buffer.number → IsOnly openings g h.buffer.number
      → HasWriting openings h → HasThis h one
  has_this {one} is here only (IsFree free apart) = absurd (apart g one is here)
  has_this {one} is here only (IsBusy k other at token writing) = grind (arith, nat_tests)

  -- where the group of a buffer has no open write, its history has none
  pub is_free : openings g ≡ None → IsOnly openings g h.buffer.number → HasWriting openings h
      → h.writing ≡ None
  is_free none only (IsFree free apart) = free
  is_free none only (IsBusy k one at token writing) =
      cc (only k one at (open_token_here h (token_in one) token))

  -- the history's open write is now this one of the group
  pub writing_here : {one : Opening} → HasThis h one → HasWriting (put_at openings g (Some one)) h
  writing_here {one} this =
      IsBusy g one (put_at_here openings g (Some one) g refl) this.token this.writing

  -- the group's open write has ended
  pub writing_ended : h.writing ≡ None → IsOnly openings g h.buffer.number
      → HasWriting (put_at openings g None) h
  writing_ended free only = grind (arith, nat_tests)

-- the history's open write right after its begin
pub just_begun : (h : History) {class octets : ℕ} {fresh : Bool} {token : Token} (text : List ℕ)
    → token ≡ token_at h.buffer (next_place h fresh (size_of octets)) class octets
    → HasThis (with_begin class octets fresh h) (IsOpen token text 0)
just_begun h text is = rw is (record { token = refl; writing = refl })

-- THE RELAY'S STATE

-- a history that only its open write is another of is still what is said
pub rewritten : {groups : List Group} {begun : ℕ → Course} {kept : List Kept}
    {openings openings' : ℕ → Option Opening} {h : History} {writing : Option Writing}
    → IsHistoryOf groups begun kept openings h
    → HasWriting openings' (record h { writing = writing })
    → IsHistoryOf groups begun kept openings' (record h { writing = writing })
rewritten said open_write = assumption

-- a call that has to do with the buffer of this number alone
pub record Concerns (groups : List Group) (begun begun' : ℕ → Course) (kept kept' : List Kept)
    (openings : ℕ → Option Opening) (h : ℕ) (after : Option Opening) (number : ℕ)
    : Type 0 where
  pub was : (one : Opening) → openings h ≡ Some one → (token_in one).buffer ≡ number
  pub now : (one : Opening) → after ≡ Some one → (token_in one).buffer ≡ number
  pub begins : (one : History) → one.buffer.number ≢ number → HasBegins groups begun one
      → HasBegins groups begun' one
  pub texts : (t : Token) → t.buffer ≢ number → text_under kept' t ≡ text_under kept t
  pub stored : (buffer : places.Buffer) → buffer.number ≢ number
      → count_by (is_kept_in buffer) kept' ≡ count_by (is_kept_in buffer) kept

-- leaves what is said of the history of each other
pub untouched : {groups : List Group} {begun begun' : ℕ → Course} {kept kept' : List Kept}
    {openings : ℕ → Option Opening} {h : ℕ} {after : Option Opening} {number : ℕ}
    → Concerns groups begun begun' kept kept' openings h after number → (one : History)
    → one.buffer.number ≢ number → IsHistoryOf groups begun kept openings one
    → IsHistoryOf groups begun' kept' (put_at openings h after) one
untouched {openings = openings} {h} is one apart said = record {
  begins = is.begins one apart said.begins;
  texts = λ t here. said.texts t here ∙ sym (is.texts t (λ e. apart (sym here ∙ e)));
  stored = said.stored ∙ sym (is.stored one.buffer apart);
  writing = writing_apart openings h (λ other e here. apart (sym here ∙ is.was other e))
      (λ other e here. apart (sym here ∙ is.now other e)) said.writing;
}

-- a text that is whole in another buffer is none more here
pub kept_elsewhere : (buffer : Buffer) (kept : List Kept) (one : Kept)
    → one.token.buffer ≢ buffer.number
    → count_by (is_kept_in buffer) (kept ++ one ∷ []) ≡ count_by (is_kept_in buffer) kept
kept_elsewhere buffer kept one apart =
    sum_by_push (λ each. if is_kept_in buffer each then 1 else 0) kept one
    ∙ grind (arith, nat_tests)

-- where a kept text has another token, it is not found
another : (kept : List Kept) (one : Kept) (t : Token) → same_token one.token t ≡ false
    → text_under (kept ++ one ∷ []) t ≡ text_under kept t
another [] one t other = rw other
another (first ∷ kept) one t other = grind (arith, another kept one t other)

-- a token of another buffer is another
pub other_buffer : (kept : List Kept) (one : Kept) (t : Token) → one.token.buffer ≢ t.buffer
    → text_under (kept ++ one ∷ []) t ≡ text_under kept t
other_buffer kept one t apart = another kept one t (grind (arith, nat_tests))

-- where nothing was found before, it is found if the token is its own
newest : (kept : List Kept) (one : Kept) (t : Token) → text_under kept t ≡ None
    → text_under (kept ++ one ∷ []) t
    ≡ (if same_token one.token t then Some one.text else None)
newest [] one t none = grind arith
newest (first ∷ kept) one t none = grind (arith, newest kept one t)

-- what was finished under a token in a buffer, by its begins
abbrev under : Buffer → List Begin → Token → Option (List ℕ)
under buffer begins t =
    if t.buffer == buffer.number
    then text_of t.class t.length (finished_at buffer begins t.cycle t.first) else None

-- a begin before it is finished
abbrev pub unfinished : (fresh : Bool) → (size : ℕ) → Begin
unfinished fresh size = record { size = size; fresh = fresh; finished = None }

-- and after
abbrev pub finished : (fresh : Bool) → (size : ℕ) → Article → Begin
finished fresh size article = record { size = size; fresh = fresh; finished = Some article }

module _ (h : History) (earlier : List Begin) (fresh : Bool) (size : ℕ) (article : Article)
    (one : Kept)
    (named : one.token ≡ token_at h.buffer
    (place_after h.buffer.blocks (head_of h.buffer.blocks earlier) fresh size) article.class
    (length article.text))
    (whole : one.text ≡ article.text) where
  -- where the article begins
  abbrev place : Head
  place = place_after h.buffer.blocks (head_of h.buffer.blocks earlier) fresh size

  -- a token of this buffer is the article's where it has its place, its class and its length
  own_token : (t : Token) → t.buffer ≡ h.buffer.number
      → same_token one.token t
      ≡ (if is_at h.buffer place t.cycle t.first
      then (article.class == t.class) && (length article.text == t.length) else false)
  own_token t here = ap (λ (each : Token). same_token each t) named ∙ grind (arith, nat_tests)

  -- what is found in the history after the finish is what the relay keeps then
  finished_texts : (kept : List Kept) (t : Token) → t.buffer ≡ h.buffer.number
      → under h.buffer (unfinished fresh size ∷ earlier) t ≡ text_under kept t
      → under h.buffer (finished fresh size article ∷ earlier) t ≡ text_under (kept ++ one ∷ []) t
  finished_texts kept t here before =
      grind (arith, nat_tests, own_token t here, newest kept one t, another kept one t)

  -- the relay's state says so of the history after a finish, with this text kept
  pub finished_said : {groups : List Group} {begun : ℕ → Course} {kept : List Kept}
      {openings openings' : ℕ → Option Opening} {g i : ℕ}
      → IsHistoryOf groups begun kept openings h → h.begins ≡ unfinished fresh size ∷ earlier
      → IsBufferAt groups g i h.buffer
      → HasWriting openings'
      (record h { begins = finished fresh size article ∷ earlier; writing = None })
      → IsHistoryOf groups begun (kept ++ one ∷ []) openings'
      (record h { begins = finished fresh size article ∷ earlier; writing = None })
  finished_said {kept = kept} {g = g} {i = i} said begun at writing = record {
    begins = grind (arith, nat_tests);
    texts = λ t here.
        finished_texts kept t here
        (sym (ap (λ begins. under h.buffer begins t) begun) ∙ said.texts t here);
    stored = sym (add-one (stored_count earlier))
        ∙ ap (λ n. n + 1) (sym (ap stored_count begun) ∙ said.stored)
        ∙ sym (sum_by_push (λ each. if is_kept_in h.buffer each then 1 else 0) kept one
        ∙ grind (arith, nat_tests, ap (λ (t : Token). t.buffer) named));
    writing = writing;
  }
