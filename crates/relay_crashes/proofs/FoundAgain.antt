-- What is found is what was whole there, and its message-id is remembered.
use Rattle.std.proofs.Common.{◌≡◌, ◌∙◌, ℕ, Bool, true, false, List, [], ◌∷◌, All, Option, None}
use Rattle.std.proofs.Common.{Some}
use Rattle.std.proofs.Common.{bytes_eq, refl, sym, ap, subst, true≢false, if◌then◌else◌, ◌≤◌, arith}
use Rattle.std.proofs.Common.{length, get_or}
use Rattle.std.specs.Prelude.{find, option_map}
use Rattle.std.specs.List.{Contains}
use Rattle.std.proofs.lemmas.List.Elements.{All-map, All-contains, All-cons, All-nil}
use Rattle.std.proofs.lemmas.List.Elements.{All-contains_itself}
use Rattle.std.proofs.lemmas.Option.{same_Some, none-some}
use Rattle.news_terms.specs.Article.{Article, IsArticleText, message_id, is_empty}
use Rattle.news_terms.specs.Token.{Token, same_token}
use Rattle.relay_model.specs.Fetches.{text_under}
use Rattle.relay_model.specs.State.{Kept}
use Rattle.relay_model.specs.Terms.{Terms}
use Rattle.relay_model.specs.World.{World}
use Rattle.relay_facts.proofs.NamedBuffers.{found_passes}
use Rattle.relay_facts.proofs.SameTokens.{same_one}
use Rattle.relay_model.specs.Crash.{Again, Crash, Found}
use Rattle.std.specs.Prelude.{not}
use Rattle.relay_facts.proofs.Puts.{is_itself}
use Rattle.news_terms.proofs.ArticleReadings.{one_article}
use Rattle.relay_laws.specs.Laws.{is_remembered}
use Rattle.relay_model.specs.Crash.{IsRead, Listed, claim_again, claim_by, claimed, is_claimed}
use Rattle.relay_model.specs.Fetches.{IsGoneToken}
use Rattle.relay_crashes.proofs.SavedAgain.{crash_keeps}
use Rattle.relay_crashes.proofs.WellAgain.{find_all, kept_of}

-- where a text was whole under a token, the text that is found under it is that one
pub found_same : (w v : Terms) (saved : Token → Bool) (x y : World) (token : Token)
    (before after : List ℕ) → Crash w v saved x y
    → text_under x.state.kept token ≡ Some before → text_under y.state.kept token ≡ Some after
    → after ≡ before
found_same w v saved x y token before after crash was is =
    by (find (λ (one : Kept). same_token one.token token) texts) refl
    (subst (λ (z : World). text_under z.state.kept token ≡ Some after) crash.after is)
  where
    texts : List Kept
    texts = kept_of crash.found.texts

    Same : Kept → Type 0
    Same one = (text : List ℕ) → text_under x.state.kept one.token ≡ Some text → text ≡ one.text

    by : (found : Option Kept)
        → find (λ (one : Kept). same_token one.token token) texts ≡ found
        → option_map (λ (one : Kept). one.text) found ≡ Some after → after ≡ before
    by None at same = absurd (none-some after same)
    by (Some one) at same =
        let named : one.token ≡ token =
        same_one one.token token
        (found_passes (λ (each : Kept). same_token each.token token) texts one at) in
        let is_of : Same one =
        find_all Same (λ (each : Kept). same_token each.token token) texts one
        (All-map Same (λ (each : Again). each.kept) crash.found.texts crash.is_found.of_before) at
        in
        sym
        (is_of before (ap (text_under x.state.kept) named ∙ was)
        ∙ same_Some one.text after same)

-- a message-id has octets
some_octets : (a : Article) (text : List ℕ) → IsArticleText text a
    → is_empty (message_id a.fields) ≡ false
some_octets a text is = by (message_id a.fields) is.fields.id.least
  where
    by : (id : List ℕ) → 3 ≤ length id → is_empty id ≡ false
    by [] least = absurd (omega (arith, least))
    by (c ∷ id) least = refl

-- it is no id's, or fails the test
abbrev Fails : (Again → Bool) → Again → Type 0
Fails p each = is_claimed each ≡ true → p each ≡ true → ⊥

-- where nothing is found among those that are some id's, none of them passes
none_found : (p : Again → Bool) (texts : List Again) → find p (claimed texts) ≡ None
    → All (Fails p) texts
none_found p [] e = All-nil (Fails p)
none_found p (first ∷ texts) e =
    by (is_claimed first) refl (p first) refl e (none_found p texts)
  where
    by : (own : Bool) → is_claimed first ≡ own → (test : Bool) → p first ≡ test
        → find p (if own then first ∷ claimed texts else claimed texts) ≡ None
        → (find p (claimed texts) ≡ None → All (Fails p) texts) → All (Fails p) (first ∷ texts)
    by true is true passes none rest =
        absurd (none-some first
        (sym none
        ∙ ap (λ (t : Bool). if t then Some first else find p (claimed texts)) passes))
    by true is false fails none rest =
        All-cons (Fails p) first texts (λ own passes. true≢false (sym passes ∙ fails))
        (rest
        (sym (ap (λ (t : Bool). if t then Some first else find p (claimed texts)) fails) ∙ none))
    by false is test passes none rest =
        All-cons (Fails p) first texts (λ own. absurd (true≢false (sym own ∙ is))) (rest none)

-- a test that isn't failed is passed
not_failed : (b : Bool) → b ≡ false → not b ≡ true
not_failed true e = absurd (true≢false e)
not_failed false e = refl

-- the id of a text that is found is remembered
remembered : (found : Found) (id : List ℕ) (one : Again) → Contains found.texts one
    → one.kept.id ≡ id → is_empty id ≡ false → is_remembered (claim_again found id) ≡ true
remembered found id one inside named some =
    by (find own (claimed found.texts))
    (find (λ (each : Listed). bytes_eq each.id id) found.listed) refl
  where
    own : Again → Bool
    own each = bytes_eq id each.kept.id

    by : (text : Option Again) (listed : Option Listed) → find own (claimed found.texts) ≡ text
        → is_remembered (claim_by found.moment text listed) ≡ true
    by (Some each) listed e = refl
    by None listed e =
        absurd (All-contains (Fails own) found.texts one (none_found own found.texts e) inside
        (not_failed (is_empty one.kept.id) (ap is_empty named ∙ some))
        (ap (bytes_eq id) named ∙ is_itself id))

-- so the message-id of each text that is found is
pub found_remembered : (w v : Terms) (saved : Token → Bool) (x y : World) (one : Kept)
    (a : Article) → Crash w v saved x y → Contains y.state.kept one → IsArticleText one.text a
    → is_remembered (y.state.claim (message_id a.fields)) ≡ true
found_remembered w v saved x y one a crash inside is =
    subst (λ (z : World). is_remembered (z.state.claim (message_id a.fields)) ≡ true)
    (sym crash.after)
    (All-contains Holds (kept_of texts) one
    (All-map Holds (λ (each : Again). each.kept) texts
    (λ k d within. holds (get_or texts k d) (crash.is_found.read k d within)
    (crash.is_found.owned k d within)))
    (subst (λ (z : World). Contains z.state.kept one) crash.after inside) a is)
  where
    texts : List Again
    texts = crash.found.texts

    Holds : Kept → Type 0
    Holds each =
        (b : Article) → IsArticleText each.text b
        → is_remembered (claim_again crash.found (message_id b.fields)) ≡ true

    holds : (each : Again) → IsRead each
        → (other : Again) × Contains texts other × (other.kept.id ≡ message_id each.read.fields)
        → Holds each.kept
    holds each reads owned b is_read =
        let same : each.read ≡ b =
        one_article each.kept.text each.read b reads.is_read.laid_out is_read.laid_out in
        remembered crash.found (message_id b.fields) owned.0 owned.1
        (owned.2 ∙ ap (λ (c : Article). message_id c.fields) same)
        (some_octets b each.kept.text is_read)

-- the message-id of each text that was saved and not gone is remembered
pub saved_remembered : (w v : Terms) (saved : Token → Bool) (x y : World) (token : Token)
    (text : List ℕ) (a : Article) → Crash w v saved x y
    → text_under x.state.kept token ≡ Some text → saved token ≡ true
    → (IsGoneToken w x.state token → ⊥) → IsArticleText text a
    → is_remembered (y.state.claim (message_id a.fields)) ≡ true
saved_remembered w v saved x y token text a crash e is apart reads =
    by (find (λ (one : Kept). same_token one.token token) y.state.kept) refl
    (crash_keeps w v saved x y token text crash e is apart)
  where
    by : (found : Option Kept)
        → find (λ (one : Kept). same_token one.token token) y.state.kept ≡ found
        → option_map (λ (one : Kept). one.text) found ≡ Some text
        → is_remembered (y.state.claim (message_id a.fields)) ≡ true
    by None at same = absurd (none-some text same)
    by (Some one) at same =
        found_remembered w v saved x y one a crash
        (find_all (Contains y.state.kept) (λ (each : Kept). same_token each.token token)
        y.state.kept one (All-contains_itself y.state.kept) at)
        (subst (λ (octets : List ℕ). IsArticleText octets a)
        (sym (same_Some one.text text same)) reads)
