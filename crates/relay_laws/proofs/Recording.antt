-- What follows of a token that is on record, and what a token without a text is.
use Rattle.std.proofs.Common.{◌≡◌, ◌∙◌, ◌+◌, ◌≤◌, ◌<◌, List, None, Some, sym, subst}
use Rattle.std.proofs.lemmas.Option.{none-some, same_Some}
use Rattle.news_terms.specs.Places.{Buffer, on_line, size_of}
use Rattle.news_terms.specs.Token.{Token}
use Rattle.relay_model.specs.Fetches.{buffer_of, front_of, text_under}
use Rattle.relay_model.specs.OnRecord.{IsBelow, HasText}
use Rattle.relay_model.specs.State.{State, Kept}
use Rattle.relay_model.specs.Terms.{Terms}

-- the buffer is the one that the token names
its_buffer : (w : Terms) (σ : State) (token : Token) (buffer : Buffer)
    → buffer_of w token ≡ Some buffer → (is : IsBelow w σ token) → is.buffer ≡ buffer
its_buffer w σ token buffer named is = same_Some is.buffer buffer (sym is.named ∙ named)

-- it is below the front of that buffer
pub below_front : (w : Terms) (σ : State) (token : Token) (buffer : Buffer)
    → buffer_of w token ≡ Some buffer → IsBelow w σ token
    → on_line buffer.blocks token.cycle token.first < front_of w σ buffer
below_front w σ token buffer named is =
    subst (λ (b : Buffer). on_line b.blocks token.cycle token.first < front_of w σ b)
    (its_buffer w σ token buffer named is) is.below

-- and its blocks lie there
pub ends_inside : (w : Terms) (σ : State) (token : Token) (buffer : Buffer)
    → buffer_of w token ≡ Some buffer → IsBelow w σ token
    → token.first + size_of token.length ≤ buffer.blocks
ends_inside w σ token buffer named is =
    subst (λ (b : Buffer). token.first + size_of token.length ≤ b.blocks)
    (its_buffer w σ token buffer named is) is.inside

-- a token under which no text is found has none
pub has_none : (kept : List Kept) (token : Token) → text_under kept token ≡ None
    → HasText kept token → ⊥
has_none kept token none has = none-some has.text (sym none ∙ has.under)
