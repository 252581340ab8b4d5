-- What is below the front of its buffer stays below it, and an article that is begun is below it.
use Rattle.std.proofs.Common.{ℕ, ◌+◌, ◌^◌, ◌≤◌, ◌<◌, length}
use Rattle.std.proofs.Common.{sym, arith, le_of_eq, le_trans, lt_of_lt_of_le}
use Rattle.news_terms.specs.Places.{Place, last_cycle, on_line, size_of}
use Rattle.news_terms.specs.Settings.{IsSoundBuffer}
use Rattle.news_terms.specs.Token.{Token, IsToken}
use Rattle.news_terms.proofs.CourseLaws.{next_ends}
use Rattle.relay_model.specs.Invariants.{IsSized}
use Rattle.relay_model.specs.OnRecord.{IsBelow}
use Rattle.relay_model.specs.State.{State, Job}
use Rattle.relay_model.specs.Terms.{Terms}
use Rattle.relay_model.specs.Writers.{job_size, token_at}
use Rattle.relay_facts.specs.Sound.{IsSound}
use Rattle.relay_facts.proofs.BufferCount.{buffer_sound}
use Rattle.relay_facts.proofs.Moves.{Moves}
use Rattle.relay_facts.proofs.RisingFronts.{BeginFacts, WithSize, front_rises, front_then, place_at}
use Rattle.relay_facts.proofs.RisingFronts.{place_named}

-- what is below the front stays below it
pub below_rises : (w : Terms) → IsSound w → (σ τ : State) → Moves w σ τ → IsSized w σ
    → (token : Token) → IsBelow w σ token → IsBelow w τ token
below_rises w sound σ τ move sized token is = record {
  buffer = is.buffer;
  named = is.named;
  fits = is.fits;
  some = is.some;
  inside = is.inside;
  below =
      lt_of_lt_of_le is.below
      (front_rises w sound σ τ move sized token.buffer is.buffer is.named);
}

-- an article that is begun ends in its buffer
begun_ends : (w : Terms) (σ : State) (job : Job) (place : Place) → BeginFacts w σ job place
    → place.first + job_size job ≤ place.buffer.blocks
begun_ends w σ job place facts =
    (next_ends facts.sound.group (σ.begun job.article.group) (job_size job) facts.sound.fits place
    facts.next).ends

-- the token of an article that is begun in time has room for its parts
new_fits : (w : Terms) → IsSound w → (σ : State) (job : Job) (place : Place)
    → BeginFacts w σ job place → place.cycle ≤ last_cycle → IsToken (token_at job place)
new_fits w sound σ job place facts in_time =
    let buffer : IsSoundBuffer place.buffer =
    buffer_sound w sound job.article.group facts.index place.buffer (place_at w σ job place facts)
    in
    let ends = begun_ends w σ job place facts in
    record {
      class = facts.sound.class;
      buffer = buffer.number;
      cycle = omega (arith, in_time);
      first = omega (arith, ends, facts.sound.some, buffer.most);
      length = short (length job.article.text) (omega (arith, ends, buffer.most));
    }
  where
    short : (n : ℕ) → size_of n ≤ 2 ^ 22 → n < 2 ^ 32
    short n few = omega (arith, few)

-- the new token is below the front once its article is begun
pub new_below : (w : Terms) → IsSound w → (σ : State) → IsSized w σ → (job : Job) (place : Place)
    → BeginFacts w σ job place → place.cycle ≤ last_cycle
    → IsBelow w (WithSize w σ job.article.group (job_size job)) (token_at job place)
new_below w sound σ sized job place facts in_time = record {
  buffer = place.buffer;
  named = place_named w sound σ job place facts;
  fits = new_fits w sound σ job place facts in_time;
  some = octets (length job.article.text) facts.sound.some;
  inside = begun_ends w σ job place facts;
  below =
      le_trans (behind (on_line place.buffer.blocks place.cycle place.first) (job_size job)
      facts.sound.some)
      (le_of_eq (sym (front_then w sound σ sized job place facts)));
}
  where
    behind : (n size : ℕ) → 1 ≤ size → n < n + size
    behind n size some = omega arith

    octets : (n : ℕ) → 1 ≤ size_of n → 1 ≤ n
    octets n some = omega (arith, some)
