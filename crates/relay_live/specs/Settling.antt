-- What the settling of an article comes to. No public contract cites it.
use Rattle.std.specs.Prelude.{◌≡◌, ℕ, ◌+◌, List, Option, None, IfSome}
use Rattle.cyc_token.specs.declared.Token.{Token}
use Rattle.live_jobs.specs.Posted.{IsPostOf}
use Rattle.live_jobs.specs.declared.desk.both.Posted.{Posted}

-- where it was posted, that is the post of this article, and the share counts one more; where it
-- wasn't the share counts as many as before, and its parts stay
pub record SettlesJob (id : List ℕ) (session : ℕ) (token : Token) (permitted : List ℕ)
    (amount amount' parts parts' : ℕ) (posted : Option Posted)
    : Type 0 where
  pub post : IfSome posted (IsPostOf id session token permitted)
  pub counted : IfSome posted (λ one. amount' ≡ amount + 1)
  pub same : posted ≡ None → amount' ≡ amount
  pub parts_stay : parts' ≡ parts
