-- What is known of message-ids, text by text and id by id.
use Rattle.std.proofs.Common.{◌≡◌, ◌∙◌, ap, sym, refl, subst, Bool, true, false, ℕ, List, []}
use Rattle.std.proofs.Common.{◌+◌, ◌<◌, ◌∷◌, ◌++◌, cond, length, map, not, take, Option, None, Some}
use Rattle.std.proofs.Math.ListN.{get_or}
use Rattle.std.proofs.lemmas.List.{take_more}
use Rattle.std.specs.Prelude.{IfSome, find}
use Rattle.std.specs.Cmp.Lexicographic.{nat_list_eq_equiv}
use Rattle.std.specs.List.{AllByRecursion, AllZip}
use Rattle.std.specs.Str.{bytes_eq}
use Rattle.std.proofs.lemmas.Slice.Eq.{bytes_eq-Decides}
use Rattle.cyc_token.specs.Token.{token_view}
use Rattle.id_history.specs.Mark.{no_article}
use Rattle.id_history.specs.Shards.{KeepsAll}
use Rattle.id_history.specs.declared.kept.KeptId.{KeptId}
use Rattle.id_history.specs.declared.shards.Shards.{Shards}
use Rattle.news_terms.specs.Article.{is_empty}
use Rattle.news_terms.specs.MessageId.{id_fault}
use Rattle.news_terms.specs.Token.{Token}
use Rattle.relay_model.specs.Claims.{Claim, Unknown, Offered, Storing, Stored, Refused, Mine}
use Rattle.relay_model.specs.Claims.{Held, Had, take_answer, after_take, after_settle}
use Rattle.relay_model.specs.Claims.{after_refuse}
use Rattle.relay_model.specs.Crash.{Again, Found, Listed, claim_again, claim_by, claimed}
use Rattle.relay_model.specs.Crash.{is_claimed}
use Rattle.relay_model.specs.State.{put_id}
use Rattle.relay_model.specs.Terms.{Terms}
use Rattle.found_again.specs.Finding.{after_found, found_of, all_found, all_refused, known_again}
use Rattle.found_again.specs.Texts.{HasSome, IsText, listed_view, octets_of}
use Rattle.found_again.specs.declared.text.FoundText.{FoundText}
use Rattle.found_again.proofs.ClaimLemmas.{keeps_same}

-- an id of which nothing was known is taken and stored
mine_after : (claim : Claim) (token : Token) (now : ℕ) → Mine ≡ take_answer 0 claim
    → after_settle 0 token now (after_take 0 no_article claim) ≡ after_found token now claim
mine_after Unknown token now says = refl
mine_after (Offered session since) token now says = refl
mine_after (Storing session article stage) token now says = absurd cc
mine_after (Stored had moment) token now says = absurd cc
mine_after (Refused moment) token now says = absurd cc

-- one that is being stored, or of which something is remembered, stays as it was
held_after : (claim : Claim) (token : Token) (now : ℕ) → Held ≡ take_answer 0 claim
    → after_take 0 no_article claim ≡ after_found token now claim
held_after Unknown token now says = absurd cc
held_after (Offered session since) token now says = absurd cc
held_after (Storing session article stage) token now says = refl
held_after (Stored had moment) token now says = absurd cc
held_after (Refused moment) token now says = absurd cc

had_after : (claim : Claim) (token : Token) (now : ℕ) → Had ≡ take_answer 0 claim
    → after_take 0 no_article claim ≡ after_found token now claim
had_after Unknown token now says = absurd cc
had_after (Offered session since) token now says = absurd cc
had_after (Storing session article stage) token now says = absurd cc
had_after (Stored had moment) token now says = refl
had_after (Refused moment) token now says = refl

-- what is put twice is what is put last
put_twice : (claims : List ℕ → Claim) (id : List ℕ) (first : Claim) (after : Claim → Claim)
    (later : Claim) → after first ≡ later → (other : List ℕ)
    → put_id (put_id claims id first) id (after (put_id claims id first id)) other
    ≡ put_id claims id later other
put_twice claims id first after later is other =
    ap (λ (b : Bool). cond (bytes_eq other id) (after (cond b first (claims id)))
    (cond (bytes_eq other id) first (claims other))) (nat_list_eq_equiv.refl id)
    ∙ by (bytes_eq other id)
  where
    by : (b : Bool) → cond b (after first) (cond b first (claims other))
        ≡ cond b later (claims other)
    by true = is
    by false = refl

-- taken and settled
pub keeps_mine : (mid new : Shards) (claims : List ℕ → Claim) (id : List ℕ) (token : Token)
    (now : ℕ) → Mine ≡ take_answer 0 (claims id)
    → KeepsAll mid (put_id claims id (after_take 0 no_article (claims id)))
    → ((others : List ℕ → Claim) → KeepsAll mid others
    → KeepsAll new (put_id others id (after_settle 0 token now (others id))))
    → KeepsAll new (put_id claims id (after_found token now (claims id)))
keeps_mine mid new claims id token now says keeps settle =
    keeps_same new
    (put_id (put_id claims id (after_take 0 no_article (claims id))) id
    (after_settle 0 token now
    (put_id claims id (after_take 0 no_article (claims id)) id)))
    (put_id claims id (after_found token now (claims id)))
    (put_twice claims id (after_take 0 no_article (claims id)) (after_settle 0 token now)
    (after_found token now (claims id)) (mine_after (claims id) token now says))
    (settle (put_id claims id (after_take 0 no_article (claims id))) keeps)

-- left as it was
pub keeps_held : (new : Shards) (claims : List ℕ → Claim) (id : List ℕ) (token : Token) (now : ℕ)
    → Held ≡ take_answer 0 (claims id)
    → KeepsAll new (put_id claims id (after_take 0 no_article (claims id)))
    → KeepsAll new (put_id claims id (after_found token now (claims id)))
keeps_held new claims id token now says keeps =
    subst (λ (claim : Claim). KeepsAll new (put_id claims id claim))
    (held_after (claims id) token now says) keeps

pub keeps_had : (new : Shards) (claims : List ℕ → Claim) (id : List ℕ) (token : Token) (now : ℕ)
    → Had ≡ take_answer 0 (claims id)
    → KeepsAll new (put_id claims id (after_take 0 no_article (claims id)))
    → KeepsAll new (put_id claims id (after_found token now (claims id)))
keeps_had new claims id token now says keeps =
    subst (λ (claim : Claim). KeepsAll new (put_id claims id claim))
    (had_after (claims id) token now says) keeps

-- one text more was found
pub found_push : (now : ℕ) (claims : List ℕ → Claim) (texts : List FoundText) (text : FoundText)
    → all_found now claims (texts ++ text ∷ [])
    ≡ found_of text.id (token_view text.token) now (all_found now claims texts)
found_push now claims [] text = refl
found_push now claims (first ∷ texts) text =
    found_push now (found_of first.id (token_view first.token) now claims) texts text

-- one id more was refused
pub refused_push : (claims : List ℕ → Claim) (listed : List KeptId) (one : KeptId)
    → all_refused claims (listed ++ one ∷ [])
    ≡ put_id (all_refused claims listed) one.id
    (after_refuse 0 one.moment (all_refused claims listed one.id))
refused_push claims [] one = refl
refused_push claims (first ∷ listed) one =
    refused_push (put_id claims first.id (after_refuse 0 first.moment (claims first.id))) listed
    one

-- one id more was refused, of those that are listed
pub keeps_refused : (new : Shards) (claims : List ℕ → Claim) (listed : List KeptId) (n : ℕ)
    (one : KeptId) → n < length listed → one ≡ get_or listed n one
    → KeepsAll new (put_id (all_refused claims (take n listed)) one.id
    (after_refuse 0 one.moment (all_refused claims (take n listed) one.id)))
    → KeepsAll new (all_refused claims (take (n + 1) listed))
keeps_refused new claims listed n one within at keeps =
    subst (KeepsAll new)
    (sym (refused_push claims (take n listed) one)
    ∙ ap (λ (x : KeptId). all_refused claims (take n listed ++ x ∷ [])) at
    ∙ ap (all_refused claims) (sym (take_more listed n one within)))
    keeps

-- one text more was found
pub keeps_found : (new : Shards) (now : ℕ) (claims : List ℕ → Claim) (texts : List FoundText)
    (n : ℕ) (text : FoundText) → n < length texts → text ≡ get_or texts n text
    → KeepsAll new
    (found_of text.id (token_view text.token) now (all_found now claims (take n texts)))
    → KeepsAll new (all_found now claims (take (n + 1) texts))
keeps_found new now claims texts n text within at keeps =
    subst (KeepsAll new)
    (sym (found_push now claims (take n texts) text)
    ∙ ap (λ (x : FoundText). all_found now claims (take n texts ++ x ∷ [])) at
    ∙ ap (all_found now claims) (sym (take_more texts n text within)))
    keeps

-- one that has some id or none
pub some_more : (texts : List FoundText) (n : ℕ) (text : FoundText) → n < length texts
    → text ≡ get_or texts n text → HasSome text → AllByRecursion HasSome (take n texts)
    → AllByRecursion HasSome (take (n + 1) texts)
some_more texts n text within at some all =
    subst (AllByRecursion HasSome)
    (ap (λ (x : FoundText). take n texts ++ x ∷ []) at ∙ sym (take_more texts n text within))
    (push (take n texts) all)
  where
    push : (xs : List FoundText) → AllByRecursion HasSome xs
        → AllByRecursion HasSome (xs ++ text ∷ [])
    push [] all = (some, tt)
    push (x ∷ xs) all = (all.0, push xs all.1)

-- a message-id isn't empty
pub not_empty : (id : List ℕ) → id_fault id ≡ None → is_empty id ≡ false
not_empty [] none = absurd cc
not_empty (octet ∷ id) none = refl

-- what is put of another id changes nothing
put_other : (claims : List ℕ → Claim) (own id : List ℕ) (claim : Claim) → bytes_eq id own ≡ false
    → put_id claims own claim id ≡ claims id
put_other claims own id claim apart =
    ap (λ (b : Bool). cond b claim (claims id)) apart

put_own : (claims : List ℕ → Claim) (own id : List ℕ) (claim : Claim) → bytes_eq id own ≡ true
    → put_id claims own claim id ≡ claim
put_own claims own id claim same =
    ap (λ (b : Bool). cond b claim (claims id)) same

-- an id that is stored stays so
found_stays : (now : ℕ) (id : List ℕ) (token : Token) (moment : ℕ) (texts : List FoundText)
    (claims : List ℕ → Claim) → claims id ≡ Stored token moment
    → all_found now claims texts id ≡ Stored token moment
found_stays now id token moment [] claims is = is
found_stays now id token moment (text ∷ texts) claims is =
    found_stays now id token moment texts
    (found_of text.id (token_view text.token) now claims) (by text.id)
  where
    by : (own : Option (List ℕ))
        → found_of own (token_view text.token) now claims id ≡ Stored token moment
    by None = is
    by (Some own) = put (bytes_eq id own) refl
      where
        put : (same : Bool) → bytes_eq id own ≡ same
            → cond same (after_found (token_view text.token) now (claims own)) (claims id)
            ≡ Stored token moment
        put true at =
            ap (λ (x : List ℕ). after_found (token_view text.token) now (claims x))
            (sym ((bytes_eq-Decides id own).0 at))
            ∙ ap (after_found (token_view text.token) now) is
        put false at = is

-- the first text that is found of an id, of those that are some id's
abbrev first_of_id : List ℕ → List Again → Option Again
first_of_id id texts = find (λ (one : Again). bytes_eq id one.kept.id) (claimed texts)

-- a text that is no id's isn't found of any
without : (id : List ℕ) (one : Again) (texts : List Again) → is_claimed one ≡ false
    → first_of_id id (one ∷ texts) ≡ first_of_id id texts
without id one texts none =
    ap (λ (b : Bool). find (λ (one : Again). bytes_eq id one.kept.id)
    (cond b (one ∷ claimed texts) (claimed texts))) none

-- one that is some id's is found of it
with_own : (id : List ℕ) (one : Again) (texts : List Again) (same : Bool)
    → is_claimed one ≡ true → bytes_eq id one.kept.id ≡ same
    → first_of_id id (one ∷ texts) ≡ cond same (Some one) (first_of_id id texts)
with_own id one texts same some is =
    ap (λ (b : Bool). find (λ (one : Again). bytes_eq id one.kept.id)
    (cond b (one ∷ claimed texts) (claimed texts))) some
    ∙ ap (λ (b : Bool). cond b (Some one) (first_of_id id texts)) is

-- an id of which nothing was known is as the first text of it says
found_is : (w : Terms) (now : ℕ) (id : List ℕ) (texts : List FoundText) (again : List Again)
    (claims : List ℕ → Claim) → AllZip (IsText w) texts again → AllByRecursion HasSome texts
    → claims id ≡ Unknown
    → all_found now claims texts id ≡ claim_by now (first_of_id id again) None
found_is w now id [] [] claims are some is = is
found_is w now id [] (one ∷ again) claims are some is = absurd are
found_is w now id (text ∷ texts) [] claims are some is = absurd are
found_is w now id (text ∷ texts) (one ∷ again) claims are some is =
    by text.id are.0.id some.0
    (λ others unknown. found_is w now id texts again others are.1 some.1 unknown)
  where
    token : Token
    token = token_view text.token

    by : (own : Option (List ℕ)) → octets_of own ≡ one.kept.id
        → IfSome own (λ id. is_empty id ≡ false)
        → ((others : List ℕ → Claim) → others id ≡ Unknown
        → all_found now others texts id ≡ claim_by now (first_of_id id again) None)
        → all_found now (found_of own token now claims) texts id
        ≡ claim_by now (first_of_id id (one ∷ again)) None
    by None own none rest =
        rest claims is
        ∙ ap (λ (o : Option Again). claim_by now o None)
        (sym (without id one again (ap (λ (x : List ℕ). not (is_empty x)) (sym own))))
    by (Some own) at filled rest = put (bytes_eq id own) refl
      where
        new : Claim
        new = after_found token now (claims own)

        some_id : is_claimed one ≡ true
        some_id =
            ap (λ (x : List ℕ). not (is_empty x)) (sym at) ∙ ap (λ (b : Bool). not b) filled

        first : (same : Bool) → bytes_eq id own ≡ same
            → first_of_id id (one ∷ again) ≡ cond same (Some one) (first_of_id id again)
        first same is = with_own id one again same some_id (ap (bytes_eq id) (sym at) ∙ is)

        put : (same : Bool) → bytes_eq id own ≡ same
            → all_found now (put_id claims own new) texts id
            ≡ claim_by now (first_of_id id (one ∷ again)) None
        put true same =
            found_stays now id token now texts (put_id claims own new)
            (put_own claims own id new same
            ∙ ap (λ (x : List ℕ). after_found token now (claims x))
            (sym ((bytes_eq-Decides id own).0 same))
            ∙ ap (after_found token now) is)
            ∙ ap (λ (t : Token). Stored t now) are.0.token
            ∙ ap (λ (o : Option Again). claim_by now o None) (sym (first true same))
        put false apart =
            rest (put_id claims own new) (put_other claims own id new apart ∙ is)
            ∙ ap (λ (o : Option Again). claim_by now o None) (sym (first false apart))

-- what is remembered of an id stays where it is refused again
refused_stays : (id : List ℕ) (claim : Claim)
    → ((moment : ℕ) → after_refuse 0 moment claim ≡ claim) → (listed : List KeptId)
    (claims : List ℕ → Claim) → claims id ≡ claim → all_refused claims listed id ≡ claim
refused_stays id claim stays [] claims is = is
refused_stays id claim stays (one ∷ listed) claims is =
    refused_stays id claim stays listed
    (put_id claims one.id (after_refuse 0 one.moment (claims one.id)))
    (put (bytes_eq id one.id) refl)
  where
    put : (same : Bool) → bytes_eq id one.id ≡ same
        → cond same (after_refuse 0 one.moment (claims one.id)) (claims id) ≡ claim
    put true at =
        ap (λ (x : List ℕ). after_refuse 0 one.moment (claims x))
        (sym ((bytes_eq-Decides id one.id).0 at))
        ∙ ap (after_refuse 0 one.moment) is ∙ stays one.moment
    put false at = is

-- the first that is listed of an id
abbrev first_listed : List ℕ → List KeptId → Option Listed
first_listed id listed = find (λ (one : Listed). bytes_eq one.id id) (map listed_view listed)

-- an id of which nothing was known is as the first that is listed says
refused_is : (now : ℕ) (id : List ℕ) (listed : List KeptId) (claims : List ℕ → Claim)
    → claims id ≡ Unknown
    → all_refused claims listed id ≡ claim_by now None (first_listed id listed)
refused_is now id [] claims is = is
refused_is now id (one ∷ listed) claims is =
    put (bytes_eq id one.id) refl (refused_is now id listed)
  where
    new : Claim
    new = after_refuse 0 one.moment (claims one.id)

    put : (same : Bool) → bytes_eq id one.id ≡ same
        → ((others : List ℕ → Claim) → others id ≡ Unknown
        → all_refused others listed id ≡ claim_by now None (first_listed id listed))
        → all_refused (put_id claims one.id new) listed id
        ≡ claim_by now None (first_listed id (one ∷ listed))
    put true same rest =
        refused_stays id (Refused one.moment) (λ moment. refl) listed (put_id claims one.id new)
        (put_own claims one.id id new same
        ∙ ap (λ (x : List ℕ). after_refuse 0 one.moment (claims x))
        (sym ((bytes_eq-Decides id one.id).0 same))
        ∙ ap (after_refuse 0 one.moment) is)
        ∙ ap (λ (b : Bool). claim_by now None (cond b (Some (listed_view one))
        (first_listed id listed))) (sym (nat_list_eq_equiv.symm one.id id ∙ same))
    put false apart rest =
        rest (put_id claims one.id new) (put_other claims one.id id new apart ∙ is)
        ∙ ap (λ (b : Bool). claim_by now None (cond b (Some (listed_view one))
        (first_listed id listed))) (sym (nat_list_eq_equiv.symm one.id id ∙ apart))

-- what is known of an id is its claim in the state that is found
pub known_is : (w : Terms) (found : Found) (texts : List FoundText) (listed : List KeptId) (now : ℕ)
    → AllZip (IsText w) texts found.texts → AllByRecursion HasSome texts
    → found.listed ≡ map listed_view listed → found.moment ≡ now → (id : List ℕ)
    → known_again now texts listed id ≡ claim_again found id
known_is w found texts listed now are some lists at id =
    by (first_of_id id found.texts) refl
    ∙ ap (λ (xs : List Listed). claim_by now (first_of_id id found.texts)
    (find (λ (one : Listed). bytes_eq one.id id) xs)) (sym lists)
    ∙ ap (λ (moment : ℕ). claim_by moment (first_of_id id found.texts)
    (find (λ (one : Listed). bytes_eq one.id id) found.listed)) (sym at)
  where
    nothing : List ℕ → Claim
    nothing other = Unknown

    claims : List ℕ → Claim
    claims = all_found now nothing texts

    by : (first : Option Again) → first_of_id id found.texts ≡ first
        → all_refused claims listed id
        ≡ claim_by now (first_of_id id found.texts) (first_listed id listed)
    by None none =
        refused_is now id listed claims
        (found_is w now id texts found.texts nothing are some refl
        ∙ ap (λ (o : Option Again). claim_by now o None) none)
        ∙ ap (λ (o : Option Again). claim_by now o (first_listed id listed)) (sym none)
    by (Some one) is =
        refused_stays id (Stored one.kept.token now) (λ moment. refl) listed claims
        (found_is w now id texts found.texts nothing are some refl
        ∙ ap (λ (o : Option Again). claim_by now o None) is)
        ∙ ap (λ (o : Option Again). claim_by now o (first_listed id listed)) (sym is)
