-- What is read of several texts, one after the other.
use Rattle.std.proofs.Common.{◌≡◌, ◌∙◌, ℕ, ◌+◌, ◌<◌, ap, inl, inr, refl, subst, sym, List, []}
use Rattle.std.proofs.Common.{◌∷◌, ◌++◌, All, append_assoc, append-nil, length, map, None, Some}
use Rattle.std.proofs.Common.{take, slice_get}
use Rattle.std.proofs.lemmas.List.{flat_map_more, take_more}
use Rattle.std.proofs.lemmas.List.Elements.{All-cons, All-head, All-nil, All-push}
use Rattle.std.proofs.lemmas.List.Elements.{All-same, All-tail}
use Rattle.std.proofs.lemmas.Option.{get_or_from_slice_get, slice_get_within}
use Rattle.std.specs.List.{AllZip, Contains}
use Rattle.std.specs.Option.{option_to_list}
use Rattle.std.specs.Prelude.{Option, Vec, flat_map}
use Rattle.std.specs.declared.alloc.Global.{Global}
use Rattle.block_shelf.proofs.EachLemmas.{none_each, one_read}
use Rattle.block_shelf.specs.Each.{AreEach}
use Rattle.buffer_repair.specs.Finding.{tokens_at}
use Rattle.buffer_repair.specs.Keeping.{KeepsFound, KeepsRejected, without_text}
use Rattle.buffer_repair.specs.Parts.{tokens_in}
use Rattle.buffer_repair.specs.declared.found_set.FoundBufferSet.{FoundBufferSet}
use Rattle.cyc_block.specs.declared.store.BlockStore.{Ghosts}
use Rattle.cyc_buffer.specs.declared.starting.Started.{Started}
use Rattle.cyc_token.specs.Token.{token_view}
use Rattle.cyc_token.specs.declared.Token as code
use Rattle.found_again.specs.Lists.{all_of, texts_of}
use Rattle.found_again.specs.Reading.{AreArticlesOf, IsArticleOf}
use Rattle.found_again.specs.declared.text.FoundText.{FoundText}
use Rattle.news_terms.proofs.ListPlaces.{there_within}
use Rattle.news_terms.specs.Courses.{Course}
use Rattle.news_terms.specs.Token as terms
use Rattle.relay_conf.specs.declared.settings.Relay.{Relay}
use Rattle.relay_model.specs.Fetches.{text_under}
use Rattle.relay_model.specs.State.{Kept}
use Rattle.relay_model.specs.Terms.{Terms}
use Rattle.found_texts.proofs.AmongLemmas.{under_it, without_it}
use Rattle.found_texts.proofs.HeldLemmas.{same_tokens}
use Rattle.found_texts.specs.Held.{AreHeld}
use Rattle.found_texts.specs.Judging.{IsSetUp, ReadsOne}
use Rattle.found_texts.specs.Reading.{AreAmong, AreAsLong, AreOfBuffer, AreUnder, ReadsAll}
use Rattle.found_texts.specs.Reading.{HasReadAmong, ReadsEach, ReadsFurther, all_tokens_in}
use Rattle.found_texts.specs.Reading.{tokens_of}

-- lists that belong together, and further ones behind them
zip_append : {A B : Type 0} (R : A → B → Type 0) (xs us : List A) (ys vs : List B) → AllZip R xs ys
    → AllZip R us vs → AllZip R (xs ++ us) (ys ++ vs)
zip_append R [] us [] vs first next = next
zip_append R [] us (y ∷ ys) vs first next = absurd first
zip_append R (x ∷ xs) us [] vs first next = absurd first
zip_append R (x ∷ xs) us (y ∷ ys) vs first next =
    (first.0, zip_append R xs us ys vs first.1 next)

-- the articles of some texts, and of further ones behind them
articles_append : (kept more left others : List Kept) → AreArticlesOf kept left
    → AreArticlesOf more others → AreArticlesOf (kept ++ more) (left ++ others)
articles_append [] more left others first next =
    subst (λ (before : List Kept). AreArticlesOf more (before ++ others)) (sym first) next
articles_append (one ∷ kept) more left others first next = elim first [
  | inl is ↦ inl (
    is.0 ++ others,
    ap (λ (texts : List Kept). texts ++ others) is.1,
    articles_append kept more is.0 others is.2 next,
  )
  | inr none ↦ inr (none.0, articles_append kept more left others none.1 next)
]

-- what is so of all is so of those before and of those behind
all_parts : {X : Type 0} (P : X → Type 0) (xs ys : List X) → All P (xs ++ ys)
    → All P xs × All P ys
all_parts P [] ys all = (All-nil P, all)
all_parts P (x ∷ xs) ys all =
    let rest = all_parts P xs ys (All-tail P x (xs ++ ys) all) in
    (All-cons P x xs (All-head P x (xs ++ ys) all) rest.0, rest.1)

-- texts under some tokens and further ones: those under the first, and those under the others
record IsCut (tokens more : List code.Token) (kept : List Kept) : Type 0 where
  pub first : List Kept
  pub rest : List Kept
  pub is : kept ≡ first ++ rest
  pub first_under : AreUnder tokens first
  pub rest_under : AreUnder more rest

-- the first text is under the first token, and the later ones are under the later ones
under_first : (token : code.Token) (one : Kept) (tokens more : List code.Token) (kept : List Kept)
    → AreUnder (token ∷ (tokens ++ more)) (one ∷ kept) → one.token ≡ token_view token
under_first token one tokens more kept under = cc

under_later : (token : code.Token) (one : Kept) (tokens more : List code.Token) (kept : List Kept)
    → AreUnder (token ∷ (tokens ++ more)) (one ∷ kept) → AreUnder (tokens ++ more) kept
under_later token one tokens more kept under = cc

-- a text before those that are cut
both_heads : (t u : terms.Token) (ts us : List terms.Token) → t ≡ u → ts ≡ us → t ∷ ts ≡ u ∷ us
both_heads t u ts us same later = cc

cut_one : (token : code.Token) (one : Kept) (tokens more : List code.Token) (kept : List Kept)
    → one.token ≡ token_view token → IsCut tokens more kept
    → IsCut (token ∷ tokens) more (one ∷ kept)
cut_one token one tokens more kept here later = record {
  first = one ∷ later.first;
  rest = later.rest;
  is = ap (λ (texts : List Kept). one ∷ texts) later.is;
  first_under = both_heads one.token (token_view token)
      (map (λ (each : Kept). each.token) later.first) (map token_view tokens) here
      later.first_under;
  rest_under = later.rest_under;
}

-- they can be cut so
cut : (tokens more : List code.Token) (kept : List Kept) → AreUnder (tokens ++ more) kept
    → IsCut tokens more kept
cut [] more kept under = record {
  first = [];
  rest = kept;
  is = refl;
  first_under = refl;
  rest_under = under;
}
cut (token ∷ tokens) more [] under = absurd (cc)
cut (token ∷ tokens) more (one ∷ kept) under =
    cut_one token one tokens more kept (under_first token one tokens more kept under)
    (cut tokens more kept (under_later token one tokens more kept under))

-- texts between others, taken apart and put together
parted : (before read first rest after : List Kept) → read ≡ first ++ rest
    → before ++ (read ++ after) ≡ before ++ (first ++ (rest ++ after))
parted before read first rest after is =
    ap (λ (kept : List Kept). before ++ (kept ++ after)) is
    ∙ ap (λ (kept : List Kept). before ++ kept) (append_assoc first rest after)

regrouped : (before first rest after : List Kept)
    → (before ++ first) ++ (rest ++ after) ≡ before ++ ((first ++ rest) ++ after)
regrouped before first rest after =
    append_assoc before first (rest ++ after)
    ∙ ap (λ (kept : List Kept). before ++ kept) (sym (append_assoc first rest after))

-- one token more of those that were gone through
pub token_more : (tokens : List code.Token) (place : ℕ) → place < length tokens
    → take place tokens ++ option_to_list (slice_get tokens place) ≡ take (place + 1) tokens
token_more tokens place within =
    let at = there_within tokens place within in
    ap (λ (one : Option code.Token). take place tokens ++ option_to_list one) at.1
    ∙ ap (λ (one : code.Token). take place tokens ++ one ∷ [])
    (sym (get_or_from_slice_get tokens place at.0 at.0 at.1))
    ∙ sym (take_more tokens place at.0 within)

-- no values are of no texts
pub none_among : (tokens : List code.Token) (texts : List FoundText) → texts ≡ []
    → AreAmong tokens texts
none_among tokens texts none =
    All-same (λ (text : FoundText). Contains tokens text.token) texts [] none
    (All-nil (λ (text : FoundText). Contains tokens text.token))

-- one value more
pub one_more_among : (tokens : List code.Token) (before after : List FoundText) (text : FoundText)
    → after ≡ before ++ text ∷ [] → Contains tokens text.token → AreAmong tokens before
    → AreAmong tokens after
one_more_among tokens before after text behind listed among =
    All-same (λ (one : FoundText). Contains tokens one.token) after (before ++ text ∷ []) behind
    (All-push (λ (one : FoundText). Contains tokens one.token) before text among listed)

-- the token at a place is one of them
pub listed_at : (tokens : List code.Token) (place : ℕ) (token : code.Token)
    → slice_get tokens place ≡ Some token → Contains tokens token
listed_at tokens place token is =
    let within = slice_get_within tokens place token is in
    (place, within, get_or_from_slice_get tokens place token token is)

module _ {S : Type 0} {g : Ghosts S} where
  -- the tokens of a buffer, as the clauses say them
  abbrev tokens_of_each : Started S g → List code.Token
  tokens_of_each one = tokens_of one

  -- those of one buffer more
  pub buffer_more : (found : List (Started S g)) (number : ℕ) → number < length found
      → flat_map (λ (one : Started S g). tokens_of one) (take number found)
      ++ tokens_in (slice_get found number)
      ≡ flat_map (λ (one : Started S g). tokens_of one) (take (number + 1) found)
  buffer_more found number within =
      let at = there_within found number within in
      ap (λ (one : Option (Started S g)). flat_map tokens_of_each (take number found)
      ++ tokens_in one) at.1
      ∙ flat_map_more tokens_of_each [] (take number found) at.0
      ∙ ap (λ (ones : List (Started S g)). flat_map tokens_of_each ones)
      (ap (λ (one : Started S g). take number found ++ one ∷ [])
      (sym (get_or_from_slice_get found number at.0 at.0 at.1))
      ∙ sym (take_more found number at.0 within))

  -- the values of no buffers, and of one more
  pub each_none : (buffers : List (Vec FoundText Global)) → buffers ≡ []
      → AreEach (AreOfBuffer {S = S} {g = g}) [] buffers
  each_none buffers none =
      subst (λ (all : List (Vec FoundText Global)).
      AreEach (AreOfBuffer {S = S} {g = g}) [] all) (sym none)
      (none_each (AreOfBuffer {S = S} {g = g}))

  pub each_more : (old mid : FoundBufferSet S g) → AreHeld old mid → (number : ℕ)
      → number < length old.found.items → (buffers after : List (Vec FoundText Global))
      (buffer : Vec FoundText Global) → after ≡ buffers ++ buffer ∷ []
      → AreAmong (tokens_at mid number) buffer.items
      → AreEach (AreOfBuffer {S = S} {g = g}) (take number old.found.items) buffers
      → AreEach (AreOfBuffer {S = S} {g = g}) (take (number + 1) old.found.items) after
  each_more old mid held number within buffers after buffer behind among each =
      let at = there_within old.found.items number within in
      subst (λ (all : List (Vec FoundText Global)).
      AreEach (AreOfBuffer {S = S} {g = g}) (take (number + 1) old.found.items) all) (sym behind)
      (one_read old.found.items number buffers each at.1 (record {
        among = subst (λ (tokens : List code.Token). AreAmong tokens buffer.items)
            (same_tokens old mid held number
            ∙ ap (λ (one : Option (Started S g)). tokens_in one) at.1)
            among;
      }))

-- the texts of one buffer more
pub texts_more : (buffers after : List (Vec FoundText Global)) (buffer : Vec FoundText Global)
    → after ≡ buffers ++ buffer ∷ [] → all_of after ≡ all_of buffers ++ buffer.items
texts_more buffers after buffer behind =
    ap all_of behind ∙ sym (flat_map_more texts_of [] buffers buffer)

module _ {S : Type 0} {g : Ghosts S} (relay : Relay) where
  -- of no tokens nothing is read
  pub reads_none : (old : FoundBufferSet S g) (texts : List FoundText) → texts ≡ []
      → ReadsEach relay [] old texts old
  reads_none old texts none w begun before [] after failures is under long keeps = record {
    left = [];
    articles = refl;
    values = subst (λ (values : List FoundText). AllZip (IsArticleOf w) values []) (sym none) tt;
    keeps = keeps;
  }
  reads_none old texts none w begun before (one ∷ read) after failures is under long keeps =
      absurd (cc)

  -- those behind are read once those before them were
  read_behind : (mid new : FoundBufferSet S g) (more : List code.Token)
      (texts others : List FoundText) (w : Terms) (begun : ℕ → Course)
      (before first rest after : List Kept) (failures : ℕ → ℕ) → IsSetUp w relay
      → AreUnder more rest → AreAsLong rest
      → HasReadAmong w begun before first (rest ++ after) failures texts mid
      → ReadsEach relay more mid others new
      → HasReadAmong w begun before (first ++ rest) after failures (texts ++ others) new
  read_behind mid new more texts others w begun before first rest after failures is under long here
      other =
      both (other w begun (before ++ here.left) rest after failures is under long
      (subst (λ (kept : List Kept). KeepsFound mid w begun kept failures)
      (sym (append_assoc before here.left (rest ++ after))) here.keeps))
    where
      both : HasReadAmong w begun (before ++ here.left) rest after failures others new
          → HasReadAmong w begun before (first ++ rest) after failures (texts ++ others) new
      both behind = record {
        left = here.left ++ behind.left;
        articles = articles_append first rest here.left behind.left here.articles behind.articles;
        values = zip_append (IsArticleOf w) texts others here.left behind.left here.values
            behind.values;
        keeps = subst (λ (kept : List Kept). KeepsFound new w begun kept failures)
            (regrouped before here.left behind.left after) behind.keeps;
      }

  -- those under some tokens are read, and those under further ones
  pub reads_on : (old mid new : FoundBufferSet S g) (tokens more : List code.Token)
      (texts others : List FoundText) → ReadsEach relay tokens old texts mid
      → ReadsEach relay more mid others new
      → ReadsEach relay (tokens ++ more) old (texts ++ others) new
  reads_on old mid new tokens more texts others one other =
      λ w begun before read after failures is under long keeps.
      by w begun before read after failures is long keeps (cut tokens more read under)
    where
      by : (w : Terms) (begun : ℕ → Course) (before read after : List Kept) (failures : ℕ → ℕ)
          → IsSetUp w relay → AreAsLong read
          → KeepsFound old w begun (before ++ (read ++ after)) failures → IsCut tokens more read
          → HasReadAmong w begun before read after failures (texts ++ others) new
      by w begun before read after failures is long keeps parts =
          let longs = all_parts (λ (x : Kept). x.token.length ≡ length x.text) parts.first
          parts.rest (subst AreAsLong parts.is long) in
          let first = parts.first in
          let rest = parts.rest in
          subst (λ (kept : List Kept).
          HasReadAmong w begun before kept after failures (texts ++ others) new) (sym parts.is)
          (read_behind mid new more texts others w begun before first rest after failures is
          parts.rest_under longs.1
          (one w begun before first (rest ++ after) failures is parts.first_under longs.0
          (subst (λ (kept : List Kept). KeepsFound old w begun kept failures)
          (parted before read first rest after parts.is) keeps)) other)

  -- what was read is put behind what was
  pub reads_further : (old mid new : FoundBufferSet S g) (tokens more : List code.Token)
      (before after : List FoundText) → ReadsEach relay tokens old before mid
      → ReadsFurther relay more mid before new after
      → ReadsEach relay (tokens ++ more) old after new
  reads_further old mid new tokens more before after one further =
      subst (λ (texts : List FoundText). ReadsEach relay (tokens ++ more) old texts new)
      (sym further.behind)
      (reads_on old mid new tokens more before further.texts one further.reads)

  -- one that is an article is left
  pub reads_article : (old new : FoundBufferSet S g) (token : code.Token) (text : FoundText)
      → ReadsOne relay token old (Some text) new
      → ReadsEach relay (token ∷ []) old (text ∷ []) new
  reads_article old new token text reads w begun before [] after failures is under long keeps =
      absurd (cc)
  reads_article old new token text reads w begun before (one ∷ []) after failures is under long
      keeps =
      let same : one.token ≡ token_view token = cc in
      let judged = reads w begun (before ++ one ∷ after) failures one is keeps same
      (subst (λ t. text_under (before ++ one ∷ after) t ≡ Some one.text) same
      (under_it one after before (keeps.places one.token.buffer one.token.cycle one.token.first)))
      (ap (λ (x : terms.Token). x.length) (sym same)
      ∙ All-head (λ (x : Kept). x.token.length ≡ length x.text) one [] long) in
      record {
        left = one ∷ [];
        articles = inl ([], refl, refl);
        values = (judged.is_judged, tt);
        keeps = judged.keeps;
      }
  reads_article old new token text reads w begun before (one ∷ two ∷ read) after failures is under
      long keeps =
      absurd (cc)

  -- one that is none is rejected
  pub reads_no_article : (old mid new : FoundBufferSet S g) (token : code.Token)
      → ReadsOne relay token old None mid → KeepsRejected (token_view token) mid new
      → ReadsEach relay (token ∷ []) old [] new
  reads_no_article old mid new token reads rejects w begun before [] after failures is under long
      keeps =
      absurd (cc)
  reads_no_article old mid new token reads rejects w begun before (one ∷ []) after failures is
      under long keeps =
      let same : one.token ≡ token_view token = cc in
      let most = keeps.places one.token.buffer one.token.cycle one.token.first in
      let judged = reads w begun (before ++ one ∷ after) failures one is keeps same
      (subst (λ t. text_under (before ++ one ∷ after) t ≡ Some one.text) same
      (under_it one after before most))
      (ap (λ (x : terms.Token). x.length) (sym same)
      ∙ All-head (λ (x : Kept). x.token.length ≡ length x.text) one [] long) in
      record {
        left = [];
        articles = inr (judged.is_judged, refl);
        values = tt;
        keeps = subst (λ (kept : List Kept). KeepsFound new w begun kept failures)
            (ap (λ (t : terms.Token). without_text t (before ++ one ∷ after)) (sym same)
            ∙ without_it one after before most)
            (rejects w begun (before ++ one ∷ after) failures judged.keeps);
      }
  reads_no_article old mid new token reads rejects w begun before (one ∷ two ∷ read) after failures
      is under long keeps =
      absurd (cc)

  -- where all tokens were gone through, all is read
  pub reads_all : (old new : FoundBufferSet S g) (texts : List FoundText)
      → ReadsEach relay (all_tokens_in old) old texts new → ReadsAll relay old texts new
  reads_all old new texts reads w begun kept failures is under long keeps =
      let all = reads w begun [] kept [] failures is under long
      (subst (λ (texts : List Kept). KeepsFound old w begun texts failures)
      (sym (append-nil kept)) keeps) in
      record {
        left = all.left;
        articles = all.articles;
        values = all.values;
        keeps = subst (λ (texts : List Kept). KeepsFound new w begun texts failures)
            (append-nil all.left) all.keeps;
      }
