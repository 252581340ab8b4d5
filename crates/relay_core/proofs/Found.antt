-- What is found is what is whole.
use Rattle.std.proofs.Common.{◌≡◌, ℕ, Bool, true, false, List, [], ◌∷◌, All, Option, None, Some}
use Rattle.std.proofs.Common.{refl, sym, subst, ◌∙◌, arith, zero, suc}
use Rattle.std.proofs.lemmas.Bool.{eqb-true}
use Rattle.std.specs.Prelude.{◌&&◌, find, length, option_map, unwrap_or, if◌then◌else◌}
use Rattle.news_terms.specs.Article.{Article, IsArticleText}
use Rattle.news_terms.specs.Places.{Buffer}
use Rattle.news_terms.specs.Token as terms
use Rattle.news_terms.specs.Token.{same_token}
use Rattle.relay_model.specs.Fetches as fetches
use Rattle.relay_model.specs.Fetches.{Fetched, article_of, buffer_of, decided_in, fetched}
use Rattle.relay_model.specs.Fetches.{text_under}
use Rattle.relay_model.specs.Invariants.{IsKeptRight}
use Rattle.relay_model.specs.State.{Kept, State}
use Rattle.relay_model.specs.Terms.{Terms}

pub same_text : (a b : List ℕ) → Some a ≡ Some b → a ≡ b
same_text a b e = cc

decided_none : (text : List ℕ) (known gone : Bool) (rest : Fetched)
    → unwrap_or (if known then Some fetches.NotKnown
    else (if gone then Some fetches.Gone else None)) rest ≡ fetches.Article text
    → rest ≡ fetches.Article text
decided_none text true gone rest h = cc
decided_none text false true rest h = cc
decided_none text false false rest h = h

decided_in_none : (w : Terms) (σ : State) (token : terms.Token) (text : List ℕ)
    (buffer : Option Buffer) (rest : Fetched)
    → unwrap_or (decided_in w σ token buffer) rest ≡ fetches.Article text
    → rest ≡ fetches.Article text
decided_in_none w σ token text None rest h = cc
decided_in_none w σ token text (Some buffer) rest h = decided_none text _ _ rest h

article_is : (one : Option (List ℕ)) (text : List ℕ) → article_of one ≡ fetches.Article text
    → one ≡ Some text
article_is None text h = cc
article_is (Some other) text h = cc

-- what is found of a token is what is whole under it
pub found_whole : (w : Terms) (σ : State) (token : terms.Token) (text : List ℕ)
    → fetched w σ token ≡ fetches.Article text → text_under σ.kept token ≡ Some text
found_whole w σ token text h =
    article_is (text_under σ.kept token) text
    (decided_in_none w σ token text (buffer_of w token) (article_of (text_under σ.kept token)) h)

-- what is whole under a token is an article, as long as the token says
pub record IsRight (token : terms.Token) (text : List ℕ) : Type 0 where
  pub read : Article
  pub is_read : IsArticleText text read
  pub whole : length text ≡ token.length

and_right : (a b : Bool) → (a && b) ≡ true → b ≡ true
and_right true b h = h
and_right false b h = cc

same_length : (a b : terms.Token) → same_token a b ≡ true → a.length ≡ b.length
same_length a b h = eqb-true a.length b.length (and_right _ _ h)

right_if : (b : Bool) (one : Kept) (rest : Option Kept) (token : terms.Token) (text : List ℕ)
    → same_token one.token token ≡ b → IsKeptRight one
    → (option_map (λ (kept : Kept). kept.text) rest ≡ Some text → IsRight token text)
    → option_map (λ (kept : Kept). kept.text) (if b then Some one else rest) ≡ Some text
    → IsRight token text
right_if true one rest token text is right later h =
    let P : List ℕ → Type 0 = λ t. IsRight token t in
    subst P (same_text one.text text h) (record {
      read = right.read;
      is_read = right.is_read;
      whole = sym right.length_of ∙ same_length one.token token is;
    })
right_if false one rest token text is right later h = later h

pub kept_right : (kept : List Kept) (token : terms.Token) (text : List ℕ) → All IsKeptRight kept
    → text_under kept token ≡ Some text → IsRight token text
kept_right [] token text right h = cc
kept_right (one ∷ kept) token text right h =
    right_if (same_token one.token token) one
    (find (λ (other : Kept). same_token other.token token) kept) token text refl
    (right zero one (omega arith))
    (kept_right kept token text (λ k d within. right (suc k) d (omega (arith, within)))) h
