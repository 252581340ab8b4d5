-- What the relay's state says of a buffer's history, once an article was rejected: nothing begins
-- at its place any more, and all else stays.
use Rattle.std.proofs.Common.{◌≡◌, ◌∙◌, ◌⊎◌, ℕ, ◌+◌, ◌*◌, ◌<◌, ◌≤◌, ◌==◌, ◌&&◌, inl, inr, refl, sym}
use Rattle.std.proofs.Common.{ap, subst}
use Rattle.std.proofs.Common.{arith, true, List, All, length, Option, None, Some}
use Rattle.std.proofs.Common.{slice_get, count_by}
use Rattle.std.proofs.lemmas.Bool.{and_parts, cases_eq, cond-true, eq-eqb, eqb-true, ne_eqb}
use Rattle.std.proofs.lemmas.Bool.Decides.{nat_tests}
use Rattle.std.proofs.lemmas.List.Elements.{All-contains}
use Rattle.std.proofs.lemmas.Option.{none-some, same_Some}
use Rattle.std.specs.List.{AllByRecursion, Contains}
use Rattle.block_shelf.proofs.Reported.{fronts_agree}
use Rattle.block_shelf.specs.Histories.{HasWriting, IsBusy, IsFree, IsHistoryOf}
use Rattle.cyc_buffer.proofs.Finished.{Lies, lies}
use Rattle.cyc_buffer.proofs.Numbers.{further, live_place}
use Rattle.cyc_buffer.proofs.Places.{chosen}
use Rattle.cyc_buffer.proofs.RejectLemmas.{gone, one_less, others, same_asked}
use Rattle.cyc_buffer.proofs.Sound.{used_within}
use Rattle.cyc_buffer.specs.Answers.{Unknown, by_numbers}
use Rattle.cyc_buffer.specs.BufferState.{IsSized}
use Rattle.cyc_buffer.specs.History as histories
use Rattle.cyc_buffer.specs.History.{Article, Begin, History, asked, cycle_of, finished_at}
use Rattle.cyc_buffer.specs.History.{front_of}
use Rattle.cyc_buffer.specs.History.{head_of, stored_count, text_of}
use Rattle.cyc_buffer.specs.Rejecting.{IsLiveAt, begins_without, without_article}
use Rattle.cyc_buffer.specs.Stopped.{used_of}
use Rattle.news_terms.specs.Courses.{Course, IsLaid, articles_of}
use Rattle.news_terms.specs.Places as places
use Rattle.news_terms.specs.Places.{Extent, Group, on_line, size_of}
use Rattle.news_terms.specs.Settings.{AreSound}
use Rattle.news_terms.specs.Token.{Token}
use Rattle.relay_model.specs.Fetches as fetches
use Rattle.relay_model.specs.Figures.{is_kept_in}
use Rattle.relay_model.specs.State.{Kept, State, empty_state}
use Rattle.relay_model.specs.Terms.{Terms}
use Rattle.buffer_repair.proofs.LeftTexts.{text_is}
use Rattle.buffer_repair.proofs.Without.{at_one, count_beside, count_without, found_beside}
use Rattle.buffer_repair.proofs.Without.{found_none, here, is_here, one_counted, some_under}
use Rattle.buffer_repair.proofs.Without.{under_some}
use Rattle.buffer_repair.specs.Keeping.{IsLiveText, without_text}

-- the token of an article at a place
abbrev of_article : Token → Article → Token
of_article t article = record {
  class = article.class;
  buffer = t.buffer;
  cycle = t.cycle;
  first = t.first;
  length = length article.text;
}

-- what a history has under a token of its buffer
pub under_own : (h : History) (u : Token) → u.buffer ≡ h.buffer.number
    → histories.text_under h u
    ≡ text_of u.class u.length (finished_at h.buffer h.begins u.cycle u.first)
under_own h u same = cond-true (u.buffer == h.buffer.number) _ None
    (eq-eqb u.buffer h.buffer.number same)

module _ {groups : List Group} {begun : ℕ → Course} {kept : List Kept} (t : Token) (h : History)
    (said : IsHistoryOf groups begun kept (λ g. None) h) where
  -- of another buffer the same is said
  pub said_beside : (h.buffer.number ≡ t.buffer → ⊥)
      → IsHistoryOf groups begun (without_text t kept) (λ g. None) h
  said_beside apart = record {
    begins = said.begins;
    texts = λ u own. said.texts u own
        ∙ sym (found_beside t u (λ same. apart (sym own ∙ same.buffer)) kept);
    stored = said.stored
        ∙ sym (count_beside t (is_kept_in h.buffer)
        (λ one e. ne_eqb one.token.buffer h.buffer.number
        (λ same. apart (sym same ∙ (at_one t one e).buffer))) kept);
    writing = said.writing;
  }

  module _ (own : t.buffer ≡ h.buffer.number) where
    -- where an article begins there, the history without it
    pub said_without : (article : Article)
        → finished_at h.buffer h.begins t.cycle t.first ≡ Some article
        → count_by (here t) kept ≤ 1
        → IsHistoryOf groups begun (without_text t kept) (λ g. None) (without_article t h)
    said_without article finished most = record {
      begins = record {
        picked = λ g i group at is.
            ap (articles_of h.buffer) (same_asked h.buffer t.cycle t.first h.begins)
            ∙ said.begins.picked g i group at is;
        none = λ nobody. ap (begins_without h.buffer t.cycle t.first)
            (said.begins.none nobody);
      };
      texts = λ u named. under_own (without_article t h) u named ∙ texts u named
          (cases_eq u.cycle t.cycle) (cases_eq u.first t.first);
      stored = omega (
        arith,
        said.stored,
        one_less h.buffer t.cycle t.first h.begins article finished,
        count_without t (is_kept_in h.buffer)
            (λ one e. eq-eqb one.token.buffer h.buffer.number
            ((at_one t one e).buffer ∙ own)) kept,
        most,
        some,
      );
      writing = IsFree (idle said.writing) (λ g one e. absurd (none-some one e));
    }
      where
        idle : HasWriting (λ g. None) h → h.writing ≡ None
        idle (IsFree none away) = none
        idle (IsBusy k one is named this) = absurd (none-some one is)

        -- the article's own token
        its : Token
        its = of_article t article

        under : fetches.text_under kept its ≡ Some article.text
        under =
            sym (said.texts its own)
            ∙ under_own h its own
            ∙ ap (text_of article.class (length article.text)) finished
            ∙ text_is article.class (length article.text) article refl refl

        some : 1 ≤ count_by (here t) kept
        some =
            let one = under_some kept its article.text under in
            one_counted (here t) kept one.one one.among
            (is_here t one.one (record {
              buffer = ap (λ (x : Token). x.buffer) one.this;
              cycle = ap (λ (x : Token). x.cycle) one.this;
              first = ap (λ (x : Token). x.first) one.this;
            }))

        beside : (u : Token) → u.buffer ≡ h.buffer.number
            → (u.cycle ≡ t.cycle → u.first ≡ t.first → ⊥)
            → text_of u.class u.length
            (finished_at h.buffer (without_article t h).begins u.cycle u.first)
            ≡ fetches.text_under (without_text t kept) u
        beside u named apart =
            ap (text_of u.class u.length)
            (others h.buffer t.cycle t.first h.begins u.cycle u.first apart)
            ∙ sym (under_own h u named)
            ∙ said.texts u named
            ∙ sym (found_beside t u (λ same. apart same.cycle same.first) kept)

        texts : (u : Token) → u.buffer ≡ h.buffer.number
            → (u.cycle ≡ t.cycle) ⊎ (u.cycle ≡ t.cycle → ⊥)
            → (u.first ≡ t.first) ⊎ (u.first ≡ t.first → ⊥)
            → text_of u.class u.length
            (finished_at h.buffer (without_article t h).begins u.cycle u.first)
            ≡ fetches.text_under (without_text t kept) u
        texts u named (inl cycle) (inl first) =
            ap (text_of u.class u.length)
            (ap (λ n. finished_at h.buffer (without_article t h).begins n u.first) cycle
            ∙ ap (finished_at h.buffer (without_article t h).begins t.cycle) first
            ∙ gone h.buffer t.cycle t.first h.begins)
            ∙ sym (found_none t u (record {
              buffer = named ∙ sym own;
              cycle = cycle;
              first = first;
            }) kept)
        texts u named (inl cycle) (inr other) = beside u named (λ p q. other q)
        texts u named (inr other) first = beside u named (λ p q. other p)

    -- where none does, no text begins there
    pub none_here : finished_at h.buffer h.begins t.cycle t.first ≡ None
        → (one : Kept) → Contains kept one → here t one ≡ true → ⊥
    none_here finished one c e =
        let at = at_one t one e in
        let named = at.buffer ∙ own in
        some_under kept one c
        (sym (said.texts one.token named)
        ∙ under_own h one.token named
        ∙ ap (text_of one.token.class one.token.length)
        (ap (λ n. finished_at h.buffer h.begins n one.token.first) at.cycle
        ∙ ap (finished_at h.buffer h.begins t.cycle) at.first ∙ finished))

-- where a finished article lies, it was begun before the front
before_front : (h : History) (cycle first : ℕ) (article : Article)
    → Lies h.buffer h.begins cycle first article
    → on_line h.buffer.blocks cycle first < front_of h
before_front h cycle first article at =
    let head = head_of h.buffer.blocks h.begins in
    elim at.before [
      | inl less ↦ omega (
        arith,
        at.some,
        at.within,
        further cycle (h.buffer.first_cycle + head.run) h.buffer.blocks less,
      )
      | inr same ↦ omega (arith, at.some, same.1, ap (λ n. n * h.buffer.blocks) same.0)
    ]

-- an article that was finished under a token
pub record IsArticle (t : Token) (text : List ℕ) (found : Option Article) : Type 0 where
  pub article : Article
  pub is : found ≡ Some article
  pub long : length article.text ≡ t.length
  pub of : article.text ≡ text

pub article_from : (t : Token) (text : List ℕ) (found : Option Article)
    → text_of t.class t.length found ≡ Some text → IsArticle t text found
article_from t text None e = absurd (none-some text e)
article_from t text (Some article) e =
    elim (chosen ((article.class == t.class) && (length article.text == t.length))
    (Some article.text) None (Some text) e) [
      | inl p ↦ record {
        article = article;
        is = refl;
        long = eqb-true (length article.text) t.length
            (and_parts (article.class == t.class) (length article.text == t.length) p.0).1;
        of = same_Some article.text text p.1;
      }
      | inr p ↦ absurd (none-some text p.1)
    ]

-- the numbers don't decide of a block of an article that lies before the front and isn't passed
by_parts : (buffer : places.Buffer) (front : ℕ) (t : Token) (k : ℕ) → t.buffer ≡ buffer.number
    → k < size_of t.length → t.first + size_of t.length ≤ buffer.blocks
    → on_line buffer.blocks t.cycle t.first < front
    → front ≤ on_line buffer.blocks t.cycle t.first + buffer.blocks
    → by_numbers buffer front t k ≡ None
by_parts buffer front t k same inside within before live = grind (arith, nat_tests)

-- a block that the article hasn't is beyond it
pub by_parts_beyond : (buffer : places.Buffer) (front : ℕ) (t : Token) (k : ℕ)
    → size_of t.length ≤ k → by_numbers buffer front t k ≡ Some Unknown
by_parts_beyond buffer front t k past = grind (arith, nat_tests)

module _ (w : Terms) {begun : ℕ → Course} {kept : List Kept} (t : Token) (h : History)
    (sound : AreSound w.buffers w.groups)
    (numbered : (b : ℕ) (buffer : places.Buffer) → slice_get w.buffers b ≡ Some buffer
    → buffer.number ≡ b)
    (laid : (g : ℕ) (group : Group) → slice_get w.groups g ≡ Some group → IsLaid group (begun g))
    (said : IsHistoryOf w.groups begun kept (λ g. None) h)
    (sized : AllByRecursion (IsSized h.buffer.blocks) h.begins)
    (there : slice_get w.buffers t.buffer ≡ Some h.buffer)
    (live : All (IsLiveText w begun) kept) where
  -- its buffer's number
  own_number : t.buffer ≡ h.buffer.number
  own_number = sym (numbered t.buffer h.buffer there)

  -- the front of the buffer hasn't passed a text that is kept at the token's place
  pub live_front : (u : Token) (text : List ℕ) → u.buffer ≡ t.buffer
      → fetches.text_under kept u ≡ Some text
      → front_of h ≤ on_line h.buffer.blocks u.cycle u.first + h.buffer.blocks
  live_front u text named under =
      let one = under_some kept u text under in
      let is = All-contains (IsLiveText w begun) kept one.one live one.among in
      let same : is.buffer ≡ h.buffer =
      same_Some is.buffer h.buffer
      (sym is.there ∙ ap (λ (x : Token). slice_get w.buffers x.buffer) one.this
      ∙ ap (slice_get w.buffers) named ∙ there) in
      let state : State = record empty_state { begun = begun } in
      rw (fronts_agree w state h sound laid numbered t.buffer there said.begins)
      (subst (λ (x : Token). fetches.front_of w state h.buffer
      ≤ on_line h.buffer.blocks x.cycle x.first + h.buffer.blocks) one.this
      (subst (λ (x : places.Buffer). fetches.front_of w state x
      ≤ on_line x.blocks one.one.token.cycle one.one.token.first + x.blocks) same is.unpassed))

  -- what was finished at the token's place is live
  pub live_there : (article : Article)
      → finished_at h.buffer h.begins t.cycle t.first ≡ Some article → IsLiveAt h t
  live_there article finished =
      let its = of_article t article in
      let under : fetches.text_under kept its ≡ Some article.text =
      sym (said.texts its own_number)
      ∙ under_own h its own_number
      ∙ ap (text_of article.class (length article.text)) finished
      ∙ text_is article.class (length article.text) article refl refl in
      let at = lies h.buffer h.begins t.cycle t.first article sized finished in
      record {
        article = article;
        finished = finished;
        buffer = own_number;
        unpassed = live_place h.buffer.blocks (cycle_of h) (used_of h) t.cycle t.first
            (omega (arith, at.some, at.within))
            (used_within h.buffer.blocks h.begins sized)
            (before_front h t.cycle t.first article at)
            (live_front its article.text refl under);
      }

  -- block k of a text that is kept is asked of the device
  pub asked_for : (k : ℕ) (text : List ℕ) → fetches.text_under kept t ≡ Some text
      → k < size_of t.length → by_numbers h.buffer (front_of h) t k ≡ None
  asked_for k text under inside =
      let a = article_from t text (finished_at h.buffer h.begins t.cycle t.first)
      (sym (under_own h t own_number) ∙ said.texts t own_number ∙ under) in
      let at = lies h.buffer h.begins t.cycle t.first a.article sized a.is in
      by_parts h.buffer (front_of h) t k own_number inside
      (omega (arith, at.within, ap size_of a.long))
      (before_front h t.cycle t.first a.article at) (live_front t text refl under)
