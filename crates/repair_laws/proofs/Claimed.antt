-- What is found of the texts that are claimed: which text each is of, and whose its message-id is.
use Rattle.std.proofs.Common.{◌≡◌, ◌⊎◌, ◌∙◌, ◌||◌, Bool, true, false, inl, inr, refl, sym, ap}
use Rattle.std.proofs.Common.{cond, List, [], ◌∷◌, map, Option, None, Some, ℕ, All}
use Rattle.std.proofs.lemmas.Bool.{cases_Bool, false≢true, or_left, or_right}
use Rattle.std.proofs.lemmas.List.Elements.{All-cons, All-nil}
use Rattle.std.proofs.lemmas.Slice.Eq.{bytes_eq-Decides}
use Rattle.std.specs.List.{AllZip, Contains, list_any}
use Rattle.cyc_token.specs.Token.{token_view}
use Rattle.found_again.specs.Claiming.{claimed_before, claimed_by_last, has_id, is_had, is_id}
use Rattle.found_again.specs.Claiming.{without_id}
use Rattle.found_again.specs.Reading.{IsArticleOf, unnamed}
use Rattle.found_again.specs.Texts.{IsText, octets_of}
use Rattle.found_again.specs.declared.text.FoundText.{FoundText}
use Rattle.news_terms.specs.Article.{IsArticleText, message_id}
use Rattle.relay_model.specs.Crash.{Again}
use Rattle.relay_model.specs.State.{Kept}
use Rattle.relay_model.specs.Terms.{Terms}
use Rattle.repair_laws.proofs.UnderTokens.{first_in, later_in}

-- an id that a text has is its octets
octets_are : (id : List ℕ) (own : Option (List ℕ)) → is_id id own ≡ true → octets_of own ≡ id
octets_are id None is = absurd (false≢true is)
octets_are id (Some own) is = sym ((bytes_eq-Decides id own).0 is)

-- a text of this id has it
has_own : (id : List ℕ) (own : Option (List ℕ)) → own ≡ Some id → is_id id own ≡ true
has_own id own is = ap (is_id id) is ∙ (bytes_eq-Decides id id).1 refl

-- a text that may be no id's any more has its token still
same_token_had : (had : Bool) (text : FoundText)
    → (cond had (without_id text) text).token ≡ text.token
same_token_had true text = refl
same_token_had false text = refl

-- and its feeds
same_feeds_had : (had : Bool) (text : FoundText)
    → (cond had (without_id text) text).feeds ≡ text.feeds
same_feeds_had true text = refl
same_feeds_had false text = refl

-- its id is its own, or none
id_or_none : (had : Bool) (text : FoundText) (id : List ℕ) → text.id ≡ Some id
    → (octets_of (cond had (without_id text) text).id ≡ id)
    ⊎ (octets_of (cond had (without_id text) text).id ≡ [])
id_or_none true text id is = inr refl
id_or_none false text id is = inl (ap octets_of is)

module _ (v : Terms) where
  -- what is found of a text, before these
  abbrev again_one : (text : FoundText) (later : List FoundText) (one : Kept)
      → IsArticleOf v text one → Again
  again_one text later one is = record {
    kept = record one { id = octets_of (claimed_before later text).id };
    read = is.article;
  }

  -- what is found of texts that are these articles
  abbrev pub again_of : (ordered : List FoundText) (left : List Kept)
      → AllZip (IsArticleOf v) ordered left → List Again
  again_of [] [] are = []
  again_of [] (one ∷ left) are = []
  again_of (text ∷ later) [] are = []
  again_of (text ∷ later) (one ∷ left) are =
      again_one text later one are.0 ∷ again_of later left are.1

  -- it is what is claimed
  pub texts_are : (ordered : List FoundText) (left : List Kept)
      (are : AllZip (IsArticleOf v) ordered left)
      → AllZip (IsText v) (claimed_by_last ordered) (again_of ordered left are)
  texts_are [] [] are = tt
  texts_are [] (one ∷ left) are = absurd are
  texts_are (text ∷ later) [] are = absurd are
  texts_are (text ∷ later) (one ∷ left) are =
      let had = is_had text.id later in (
        record {
          token = ap token_view (same_token_had had text) ∙ are.0.token;
          id = refl;
          feeds = ap (λ feeds. feeds.items) (same_feeds_had had text) ∙ are.0.feeds;
        },
        texts_are later left are.1,
      )

  -- the texts are those that are left
  pub again_texts : (ordered : List FoundText) (left : List Kept)
      (are : AllZip (IsArticleOf v) ordered left)
      → map unnamed (map (λ (one : Again). one.kept) (again_of ordered left are))
      ≡ map unnamed left
  again_texts [] [] are = refl
  again_texts [] (one ∷ left) are = absurd are
  again_texts (text ∷ later) [] are = absurd are
  again_texts (text ∷ later) (one ∷ left) are =
      ap (λ (rest : List Kept). unnamed one ∷ rest) (again_texts later left are.1)

  -- This is found of one of these kept texts, as an article; its id is the article's, or none, and
  -- one of these texts has that.
  pub record Came (kept : List Kept) (texts : List FoundText) (again : Again) : Type 0 where
    pub one : Kept
    pub among : Contains kept one
    pub token : again.kept.token ≡ one.token
    pub text_is : again.kept.text ≡ one.text
    pub is_read : IsArticleText again.kept.text again.read
    pub id : (again.kept.id ≡ message_id again.read.fields) ⊎ (again.kept.id ≡ [])
    pub had : list_any (has_id (message_id again.read.fields)) texts ≡ true

  -- so is each
  pub all_came : (kept : List Kept) (texts ordered : List FoundText) (left : List Kept)
      (are : AllZip (IsArticleOf v) ordered left)
      → ((one : Kept) → Contains left one → Contains kept one)
      → ((p : FoundText → Bool) → list_any p ordered ≡ true → list_any p texts ≡ true)
      → All (Came kept texts) (again_of ordered left are)
  all_came kept texts [] [] are inside among = All-nil (Came kept texts)
  all_came kept texts [] (one ∷ left) are inside among = absurd are
  all_came kept texts (text ∷ later) [] are inside among = absurd are
  all_came kept texts (text ∷ later) (one ∷ left) are inside among =
      let is = are.0 in
      let id = message_id is.article.fields in
      All-cons (Came kept texts) (again_one text later one is) (again_of later left are.1)
      (record {
        one = one;
        among = inside one (first_in one left);
        token = refl;
        text_is = refl;
        is_read = is.is_read;
        id = id_or_none (is_had text.id later) text id is.id;
        had = among (has_id id)
            (or_left (has_id id text) (list_any (has_id id) later) (has_own id text.id is.id));
      })
      (all_came kept texts later left are.1 (λ x c. inside x (later_in one left x c))
      (λ p any. among p (or_right (p text) (list_any p later) any)))

-- one of what is found has this id
pub record HasOwner (again : List Again) (id : List ℕ) : Type 0 where
  pub other : Again
  pub among : Contains again other
  pub own : other.kept.id ≡ id

-- where a text has an id, so has what is found of it
pub owner : (v : Terms) (id : List ℕ) (texts : List FoundText) (again : List Again)
    → AllZip (IsText v) texts again → list_any (has_id id) texts ≡ true → HasOwner again id
owner v id [] again are any = absurd (false≢true any)
owner v id (text ∷ texts) [] are any = absurd are
owner v id (text ∷ texts) (one ∷ again) are any = elim (cases_Bool (has_id id text)) [
  | inl has ↦ record {
    other = one;
    among = first_in one again;
    own = sym are.0.id ∙ octets_are id text.id has;
  }
  | inr off ↦
      let rest = owner v id texts again are.1
      (ap (λ (b : Bool). b || list_any (has_id id) texts) (sym off) ∙ any) in
      record {
        other = rest.other;
        among = later_in one again rest.other rest.among;
        own = rest.own;
      }
]
