-- All that is found of a relay that was not stopped, from its buffers to the texts that have their
-- ids, and what follows for the relay (docs/PROTOCOL.md, Crashes).
use Rattle.std.specs.Prelude.{◌≡◌, ◌≤◌, ℕ, Bool, List, All, IsPermutation, Option, map, count_by}
use Rattle.std.specs.List.{AllZip}
use Rattle.buffer_repair.specs.Keeping.{AgreeWithBefore, AreOnRecord, KeepsFound}
use Rattle.buffer_repair.specs.declared.found_set.FoundBufferSet.{FoundBufferSet}
use Rattle.cyc_block.specs.declared.store.BlockStore.{Ghosts}
use Rattle.found_again.specs.Claiming.{claimed_by_last}
use Rattle.found_again.specs.Reading.{AreArticlesOf, AreSameTexts, IsArticleOf}
use Rattle.found_again.specs.Texts.{IsText}
use Rattle.found_again.specs.declared.text.FoundText.{FoundText}
use Rattle.news_terms.specs.Courses.{Course}
use Rattle.news_terms.specs.Token.{Token}
use Rattle.relay_model.specs.Crash.{Again, Found, IsFound, Listed}
use Rattle.relay_model.specs.Fetches.{is_at}
use Rattle.relay_model.specs.Invariants.{IsWell}
use Rattle.relay_model.specs.State.{Kept}
use Rattle.relay_model.specs.Terms.{Terms, last_moment}
use Rattle.relay_model.specs.World.{World}

-- at each place lies one of these texts at most
abbrev pub AreAtPlaces : List Kept → Type 0
AreAtPlaces kept = (buffer cycle first : ℕ) → count_by (is_at buffer cycle first) kept ≤ 1

-- The relay was well, with one text at a place at most; under settings with its buffers and groups
-- these buffers were found again, which keep these courses and texts, can be gone on with, and
-- agree with what the relay was.
pub record AreBuffersFound {S : Type 0} {g : Ghosts S} (found_set : FoundBufferSet S g)
    (w v : Terms) (saved : Token → Bool) (x : World) (begun : ℕ → Course) (kept : List Kept)
    : Type 0 where
  pub buffers : v.buffers ≡ w.buffers
  pub groups : v.groups ≡ w.groups
  pub well : IsWell w x
  pub before : AreAtPlaces x.state.kept
  pub failures : ℕ → ℕ
  pub keeps : KeepsFound found_set v begun kept failures
  pub on_record : AreOnRecord v begun kept
  pub agrees : AgreeWithBefore v x.state.begun begun saved x.state.kept kept

-- Of the texts that the buffers keep these are left, as articles; read one buffer after the other,
-- then put in some order, and each message-id given to the last text that has it, they are these.
pub record AreClaimed (v : Terms) (kept left : List Kept) (claimed : List FoundText) : Type 0
  where
    pub articles : AreArticlesOf kept left
    pub texts : List FoundText
    pub are_articles : AllZip (IsArticleOf v) texts left
    pub ordered : List FoundText
    pub order : IsPermutation texts ordered
    pub by_last : claimed ≡ claimed_by_last ordered

-- what is found: these texts, on these courses, with what is listed
abbrev pub found_with : List Again → (ℕ → Course) → List Listed → Option ℕ → (now : ℕ) → Found
found_with again begun listed newest now =
    record { texts = again; begun = begun; listed = listed; newest = newest; moment = now }

-- What is claimed are the texts of a crash of this relay: they are the same as those that are left,
-- and whatever is listed, whenever, is found with them.
pub record IsOfCrash (w v : Terms) (saved : Token → Bool) (x : World) (begun : ℕ → Course)
    (left : List Kept) (claimed : List FoundText)
    : Type 0 where
  pub again : List Again
  pub texts_are : AllZip (IsText v) claimed again
  pub same : AreSameTexts left (map (λ (one : Again). one.kept) again)
  pub is_found : (listed : List Listed) (newest : Option ℕ) (now : ℕ) → now ≤ last_moment
      → All (λ (one : Listed). one.moment ≤ last_moment) listed
      → IsFound w v saved x.state (found_with again begun listed newest now)
