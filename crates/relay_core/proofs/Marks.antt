-- What the shards and the feeds keep where the relay changes more than they see.
use Rattle.std.proofs.Common.{◌≡◌, ◌<◌, ◌^◌, ℕ, Bool, true, List, refl}
use Rattle.std.proofs.Common.{subst, sym, ap, ◌∙◌}
use Rattle.std.proofs.lemmas.Bool.{eq-eqb}
use Rattle.std.specs.Prelude.{length, if◌then◌else◌}
use Rattle.feed_queue.specs.Feeds.{HasRoomToCount, KeepsFeeds}
use Rattle.feed_queue.specs.declared.desk.FeedDesk.{FeedDesk}
use Rattle.id_history.specs.Mark.{mark_of}
use Rattle.id_history.specs.Shards.{KeepsAll}
use Rattle.id_history.specs.declared.shards.Shards.{Shards}
use Rattle.relay_facts.proofs.Puts.{put_id_both, same_id}
use Rattle.relay_model.specs.Claims as claims
use Rattle.relay_model.specs.Claims.{Accepted, Claim, Stage}
use Rattle.relay_model.specs.State.{Feed, put_id}

-- the shards see no stage: an id that goes on being stored for its session is the same to them
pub keeps_staged : (shards : Shards) (claim : List ℕ → Claim) (id : List ℕ) (s : ℕ)
    (article : Accepted) (stage next : Stage) → KeepsAll shards claim
    → claim id ≡ claims.Storing s article stage
    → KeepsAll shards (put_id claim id (claims.Storing s article next))
keeps_staged shards claim id s article stage next keeps is =
    record {
      agrees = λ other none.
          keeps.agrees other none
          ∙ sym (put_id_both (λ (one : Claim). mark_of one ≡ mark_of (claim other)) claim id
          (claims.Storing s article next) other
          (λ e. ap mark_of (sym is ∙ ap claim (sym (same_id other id e)))) (λ e. refl));
    }

-- an id that is stored for its session
pub settled_is : (s now : ℕ) (token : _) (article : Accepted) (stage : Stage) (claim : Claim)
    → claim ≡ claims.Storing s article stage
    → claims.after_settle s token now claim ≡ claims.Stored token now
settled_is s now token article stage claim is =
    ap (claims.after_settle s token now) is
    ∙ ap (λ (b : Bool). if b then claims.Stored token now else claims.Storing s article stage)
    (eq-eqb s s refl)

-- an id that is given up
pub forgotten_is : (s : ℕ) (article : Accepted) (stage : Stage) (claim : Claim)
    → claim ≡ claims.Storing s article stage → claims.after_forget s claim ≡ claims.Unknown
forgotten_is s article stage claim is =
    ap (claims.after_forget s) is
    ∙ ap (λ (b : Bool). if b then claims.Unknown else claims.Storing s article stage)
    (eq-eqb s s refl)

-- it is being stored for its session
pub storing_is : (s : ℕ) (article : Accepted) (stage : Stage) (claim : Claim)
    → claim ≡ claims.Storing s article stage → claims.is_storing_for s claim ≡ true
storing_is s article stage claim is = ap (claims.is_storing_for s) is ∙ eq-eqb s s refl

-- a desk counts on where no list is too long
pub room_to_count : (desk : FeedDesk) (sizes : List ℕ) (feed : ℕ → Feed)
    → KeepsFeeds desk sizes feed → ((f : ℕ) → length (feed f).gained < 2 ^ 62)
    → HasRoomToCount desk
room_to_count desk sizes feed keeps short = λ f none within.
    subst (λ (k : ℕ). k < 2 ^ 62) (sym (keeps.each f none within).gained) (short f)
