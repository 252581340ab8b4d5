-- What is found and claimed is what a crash leaves of the relay.
use Rattle.std.proofs.Common.{◌≡◌, ◌∙◌, ◌≤◌, ℕ, Bool, true, refl, sym, ap, subst}
use Rattle.std.proofs.Common.{arith, List, map, length, All, Some, slice_get}
use Rattle.std.proofs.Common.{IsPermutation, le_trans, Option}
use Rattle.std.proofs.lemmas.List.{length-map}
use Rattle.std.proofs.lemmas.List.Elements.{All-contains, All-contains_itself, All-weaker}
use Rattle.std.proofs.lemmas.List.Sorted.{Contains-permutation, IsPermutation-map}
use Rattle.std.proofs.lemmas.List.Sorted.{IsPermutation-sym, length_permutation}
use Rattle.std.specs.List.{AllZip, Contains}
use Rattle.buffer_repair.specs.declared.found_set.FoundBufferSet.{FoundBufferSet}
use Rattle.cyc_block.specs.declared.store.BlockStore.{Ghosts}
use Rattle.found_again.proofs.ClaimLemmas.{no_more_have, one_has, same_ids}
use Rattle.found_again.specs.Reading.{AreSameTexts, IsArticleOf, unnamed}
use Rattle.found_again.specs.Texts.{IsText}
use Rattle.found_again.specs.declared.text.FoundText.{FoundText}
use Rattle.news_terms.specs.Article.{IsArticleText, message_id}
use Rattle.news_terms.specs.Courses.{Course}
use Rattle.news_terms.specs.Places.{Group, front_after}
use Rattle.news_terms.specs.Token.{Token}
use Rattle.relay_model.specs.Counted.{all_begun}
use Rattle.relay_model.specs.Crash.{Again, Found, IsFound, IsOfBefore, IsRead, Listed}
use Rattle.relay_model.specs.Crash.{state_again}
use Rattle.relay_model.specs.Fetches.{IsGoneToken, extents_from, is_at, text_under}
use Rattle.relay_model.specs.Invariants.{IsKeptRight}
use Rattle.relay_model.specs.OnRecord.{IsBelow}
use Rattle.relay_model.specs.State.{Kept, State, empty_state}
use Rattle.relay_model.specs.Terms.{Terms, last_moment}
use Rattle.relay_model.specs.World.{World}
use Rattle.repair_laws.proofs.ArticlesLeft.{article_left, left_in, left_length, left_places}
use Rattle.repair_laws.proofs.BegunCounts.{begun_count, named_there}
use Rattle.repair_laws.proofs.Claimed.{Came, again_of, again_texts, all_came, owner, texts_are}
use Rattle.repair_laws.proofs.Paired.{GoesWith, permuted_zip}
use Rattle.repair_laws.proofs.UnderTokens.{count_map, found_same, found_under, places_same}
use Rattle.repair_laws.proofs.UnderTokens.{under_found, under_is}
use Rattle.repair_laws.specs.FoundAll.{AreAtPlaces, AreBuffersFound, AreClaimed, IsOfCrash}
use Rattle.repair_laws.specs.FoundAll.{found_with}

-- a token is below the front of its buffer in any state on the same courses
below_on : (w : Terms) (begun : ℕ → Course) (σ : State) (token : Token) → σ.begun ≡ begun
    → IsBelow w (record empty_state { begun = begun }) token → IsBelow w σ token
below_on w begun σ token same below = record {
  buffer = below.buffer;
  named = below.named;
  fits = below.fits;
  some = below.some;
  inside = below.inside;
  below = rw same below.below;
}

module _ {S : Type 0} {g : Ghosts S} {found_set : FoundBufferSet S g} {w v : Terms}
    {saved : Token → Bool} {x : World} {begun : ℕ → Course} {kept left : List Kept}
    {claimed_texts : List FoundText} (buffers : AreBuffersFound found_set w v saved x begun kept)
    (claims : AreClaimed v kept left claimed_texts) where
  -- the texts that are left, in the order of those that are claimed
  ordered_left : GoesWith (IsArticleOf v) claims.ordered left
  ordered_left =
      permuted_zip (IsArticleOf v) claims.texts claims.ordered left claims.order claims.are_articles

  -- what is found of them
  abbrev again : List Again
  again = again_of v claims.ordered ordered_left.others ordered_left.together

  -- their texts
  abbrev texts : List Kept
  texts = map (λ (one : Again). one.kept) again

  -- it is what is claimed
  claimed_are : AllZip (IsText v) claimed_texts again
  claimed_are =
      subst (λ (all : List FoundText). AllZip (IsText v) all again) (sym claims.by_last)
      (texts_are v claims.ordered ordered_left.others ordered_left.together)

  -- they are the same texts
  same_texts : AreSameTexts left texts
  same_texts =
      subst (IsPermutation (map unnamed left))
      (sym (again_texts v claims.ordered ordered_left.others ordered_left.together))
      (IsPermutation-map unnamed left ordered_left.others ordered_left.order)

  -- each is of one that was kept
  came : All (Came v kept claims.ordered) again
  came =
      all_came v kept claims.ordered claims.ordered ordered_left.others ordered_left.together
      (λ one c.
      left_in kept left claims.articles one
      (Contains-permutation ordered_left.others left one
      (IsPermutation-sym left ordered_left.others ordered_left.order) c))
      (λ p any. any)

  -- at a place lies one of those that are left at most, and of those that are found
  places_left : AreAtPlaces left
  places_left = left_places kept left claims.articles buffers.keeps.places

  -- it is read as its article
  came_read : (one : Again) → Came v kept claims.ordered one → IsRead one
  came_read one c = record {
    is_read = c.is_read;
    length_of = ap (λ (t : Token). t.length) c.token
        ∙ All-contains (λ (k : Kept). k.token.length ≡ length k.text) kept c.one
        buffers.on_record.lengths c.among
        ∙ ap length (sym c.text_is);
    id = c.id;
  }

  -- it is the text that was under its token
  came_before : (one : Again) → Came v kept claims.ordered one → IsOfBefore x.state.kept one
  came_before one c text under =
      sym (buffers.agrees.texts c.one.token c.one.text text
      (ap (text_under x.state.kept) (sym c.token) ∙ under)
      (found_under kept buffers.keeps.places c.one c.among))
      ∙ sym c.text_is

  -- a text that was saved is found
  saved_again : (before : Kept) → Contains x.state.kept before → saved before.token ≡ true
      → text_under texts before.token ≡ Some before.text
  saved_again before c is_saved =
      let below = All-contains (λ (one : Kept). IsBelow w x.state one.token) x.state.kept before
      buffers.well.on_record.kept c in
      let right = All-contains IsKeptRight x.state.kept before buffers.well.sized.kept c in
      let there : slice_get v.buffers before.token.buffer ≡ Some below.buffer =
      named_there v.buffers buffers.keeps.texts.numbered before.token.buffer below.buffer
      (rw buffers.buffers below.named) in
      let now : text_under kept before.token ≡ Some before.text =
      buffers.agrees.all_saved before.token before.text below.buffer there is_saved
      (found_under x.state.kept buffers.before before c) in
      let is = under_is kept before.token before.text now in
      let inside : Contains left is.one =
      article_left kept left claims.articles is.one right.read is.among
      (subst (λ text. IsArticleText text right.read) (sym is.says) right.is_read) in
      sym (found_same left texts same_texts places_left before.token)
      ∙ under_found left places_left before.token before.text
      (record { one = is.one; among = inside; this = is.this; says = is.says })

  -- no more are found than were begun
  few : length again ≤ all_begun v (record empty_state { begun = begun })
  few = omega (
    arith,
    length-map again (λ (one : Again). one.kept),
    length-map texts unnamed,
    length-map left unnamed,
    length_permutation (map unnamed left) (map unnamed texts) same_texts,
    left_length kept left claims.articles,
    begun_count found_set v begun kept buffers.failures buffers.keeps buffers.on_record.below,
  )

  -- so what is found is of a crash, with whatever is listed
  of_crash : (listed : List Listed) (newest : Option ℕ) (now : ℕ) → now ≤ last_moment
      → All (λ (one : Listed). one.moment ≤ last_moment) listed
      → IsFound w v saved x.state (found_with again begun listed newest now)
  of_crash listed newest now in_time timed = record {
    sizes = λ h group there k d within. (
      buffers.on_record.sizes h group there k d within,
      buffers.keeps.texts.fit h group there k d within,
    );
    laid = buffers.keeps.texts.laid;
    in_time = buffers.on_record.in_time;
    fronts = λ i buffer there.
        subst (λ (groups : List Group). front_after buffer (extents_from 0 v.groups begun)
        ≤ front_after buffer (extents_from 0 groups x.state.begun)) buffers.groups
        (buffers.agrees.fronts i buffer there);
    read = All-weaker (Came v kept claims.ordered) IsRead came_read again came;
    below = All-weaker (Came v kept claims.ordered)
        (λ (one : Again). IsBelow v (state_again v found) one.kept.token)
        (λ one c. below_on v begun (state_again v found) one.kept.token refl
        (subst (IsBelow v (record empty_state { begun = begun })) (sym c.token)
        (All-contains (λ (k : Kept). IsBelow v (record empty_state { begun = begun }) k.token) kept
        c.one buffers.on_record.below c.among)))
        again came;
    of_before = All-weaker (Came v kept claims.ordered) (IsOfBefore x.state.kept) came_before again
        came;
    places = λ buffer cycle first. omega (
      arith,
      count_map (is_at buffer cycle first) (λ (one : Again). one.kept) again,
      places_same left texts same_texts places_left buffer cycle first,
    );
    ids = λ id. le_trans (no_more_have v id claimed_texts again claimed_are)
        (rw claims.by_last (one_has id claims.ordered));
    count = few;
    owned = All-weaker (Came v kept claims.ordered)
        (λ (one : Again). (other : Again) × Contains again other
        × (other.kept.id ≡ message_id one.read.fields))
        (λ one c.
        let id = message_id one.read.fields in
        let is = owner v id claimed_texts again claimed_are
        (rw claims.by_last (same_ids id claims.ordered ∙ c.had)) in
        (is.other, is.among, is.own))
        again came;
    kept = All-weaker (Contains x.state.kept)
        (λ (before : Kept). saved before.token ≡ true
        → ¬ IsGoneToken w x.state before.token
        → text_under texts before.token ≡ Some before.text)
        (λ before c is_saved apart. saved_again before c is_saved) x.state.kept
        (All-contains_itself x.state.kept);
    now = in_time;
    listed = timed;
  }
    where
      found : Found
      found = found_with again begun listed newest now

  -- and so it is what a crash of the relay leaves
  pub found_is_of_crash : IsOfCrash w v saved x begun left claimed_texts
  found_is_of_crash = record {
    again = again;
    texts_are = claimed_are;
    same = same_texts;
    is_found = of_crash;
  }
