-- What is folded in holds the setting that it held before.
use Rattle.std.proofs.Common.{◌≡◌, ◌≤◌, ◌<◌, ◌==◌, sym, refl, subst, Bool, true, false}
use Rattle.std.proofs.Common.{List, ℕ, [], ◌∷◌, ◌++◌, cond, Option, None, Some}
use Rattle.std.proofs.Math.Dec.{ltb}
use Rattle.std.proofs.lemmas.Bool.{ltb-true}
use Rattle.std.specs.Prelude.{IfSome, MatchBool}
use Rattle.std.specs.List.{AllByRecursion}
use Rattle.std.specs.Str.{bytes_eq}
use Rattle.id_history.specs.History.{Holds, IdHolds, IsThere, Kept, KeptId, Setting}
use Rattle.id_history.specs.Lasting.{claim_of_kept, claim_since, lasting, put_all}
use Rattle.id_history.proofs.LastingJoins.{all_append}
use Rattle.news_terms.specs.Token.{Token}
use Rattle.relay_model.specs.Claims.{Claim, Unknown, Offered, Storing, Stored, Refused}
use Rattle.relay_model.specs.State.{put_id}
use Rattle.relay_model.specs.Terms.{last_moment}
use Rattle.relay_log.specs.Folding.{IsFolded, IsFoldedWith, all_told, nothing, told}
use Rattle.relay_log.specs.Journal.{Entry, Journal, IsEntry}
use Rattle.relay_log.specs.Journal as entry

-- what is known of an id, in a store with so many buffers
ClaimHolds : (buffers : ℕ) → Claim → Type 0
ClaimHolds buffers Unknown = Unit {0}
ClaimHolds buffers (Offered session since) = Unit {0}
ClaimHolds buffers (Storing session article stage) = Unit {0}
ClaimHolds buffers (Stored token moment) = (token.buffer < buffers) × (moment ≤ last_moment)
ClaimHolds buffers (Refused moment) = moment ≤ last_moment

since_holds : (buffers : ℕ) (one : KeptId) → IdHolds buffers one
    → ClaimHolds buffers (claim_of_kept one)
unfolding ClaimHolds
since_holds buffers one holds = by one.token holds.token
  where
    by : (token : Option Token) → IfSome token (IsThere buffers)
        → ClaimHolds buffers (claim_since token one.moment)
    by None there = holds.moment
    by (Some token) there = (there, holds.moment)

said_hold : (buffers : ℕ) (base : List ℕ → Claim) → ((id : List ℕ) → ClaimHolds buffers (base id))
    → (said : List KeptId) → AllByRecursion (IdHolds buffers) said → (id : List ℕ)
    → ClaimHolds buffers (put_all base said id)
said_hold buffers base holds [] all id = holds id
said_hold buffers base holds (one ∷ said) all id =
    said_hold buffers (put_id base one.id (claim_of_kept one))
    (λ (other : List ℕ). by other (bytes_eq other one.id)) said all.1 id
  where
    by : (other : List ℕ) (b : Bool)
        → ClaimHolds buffers (cond b (claim_of_kept one) (base other))
    by other true = since_holds buffers one all.0
    by other false = holds other

lasting_holds : (buffers : ℕ) (claim : Claim) → ClaimHolds buffers claim
    → ClaimHolds buffers (lasting claim)
unfolding ClaimHolds
lasting_holds buffers Unknown holds = tt
lasting_holds buffers (Offered session since) holds = tt
lasting_holds buffers (Storing session article stage) holds = tt
lasting_holds buffers (Stored token moment) holds = holds
lasting_holds buffers (Refused moment) holds = holds

id_holds : (buffers : ℕ) (id : List ℕ) (token : Option Token) (moment : ℕ)
    → ClaimHolds buffers (claim_since token moment)
    → IdHolds buffers (record { id = id; token = token; moment = moment })
unfolding ClaimHolds
id_holds buffers id None moment holds = record { token = tt; moment = holds }
id_holds buffers id (Some token) moment holds = record { token = holds.0; moment = holds.1 }

each_holds : (buffers : ℕ) (claims : List ℕ → Claim) (ids : List KeptId)
    → ((id : List ℕ) → ClaimHolds buffers (claims id))
    → AllByRecursion (λ (one : KeptId). claim_of_kept one ≡ lasting (claims one.id)) ids
    → AllByRecursion (IdHolds buffers) ids
each_holds buffers claims [] all each = tt
each_holds buffers claims (one ∷ ids) all each = (
  id_holds buffers one.id one.token one.moment
      (subst (ClaimHolds buffers) (sym each.0)
      (lasting_holds buffers (claims one.id) (all one.id))),
  each_holds buffers claims ids all each.1,
)

-- what an entry says
told_holds : (buffers : ℕ) (one : Entry) → IsEntry one
    → AllByRecursion (IdHolds buffers) (told buffers one)
told_holds buffers (entry.Refused id moment) is =
    (record { token = tt; moment = is.there }, tt)
told_holds buffers (entry.Stored id moment token) is = by (ltb token.buffer buffers) refl
  where
    one : KeptId
    one = record { id = id; token = Some token; moment = moment }

    by : (b : Bool) → ltb token.buffer buffers ≡ b
        → AllByRecursion (IdHolds buffers) (cond b (one ∷ []) [])
    by true at = (record { token = ltb-true token.buffer buffers at; moment = is.0.there }, tt)
    by false at = tt
told_holds buffers (entry.Taken feed gained passed taken) is = tt

all_told_hold : (buffers : ℕ) (entries : List Entry) → AllByRecursion IsEntry entries
    → AllByRecursion (IdHolds buffers) (all_told buffers entries)
all_told_hold buffers [] are = tt
all_told_hold buffers (one ∷ entries) are =
    all_append (IdHolds buffers) (told buffers one) (all_told buffers entries)
    (told_holds buffers one are.0) (all_told_hold buffers entries are.1)

pub with_holds : (old : Kept) (entries : List Entry) (setting : Setting) (new : Kept)
    → Holds setting old → AllByRecursion IsEntry entries → IsFoldedWith old entries setting new
    → Holds setting new
unfolding ClaimHolds
with_holds old entries setting new holds are is =
    subst (Holds setting) (sym is.others)
    (record {
      positions = holds.positions;
      feeds = holds.feeds;
      ids = each_holds setting.buffers
          (put_all nothing (old.ids ++ all_told setting.buffers entries)) new.ids
          (said_hold setting.buffers nothing (λ id. tt)
          (old.ids ++ all_told setting.buffers entries)
          (all_append (IdHolds setting.buffers) old.ids (all_told setting.buffers entries)
          holds.ids (all_told_hold setting.buffers entries are)))
          is.ids.each;
      rises = is.ids.rises;
    })

pub folded_holds : (old : Kept) (journal : Journal) (setting : Setting) (new : Kept)
    → Holds setting old → AllByRecursion IsEntry journal.entries
    → IsFolded old journal setting new → Holds setting new
folded_holds old journal setting new holds are = by (journal.stop == old.stop)
  where
    by : (b : Bool) → MatchBool b (IsFoldedWith old journal.entries setting new) (new ≡ old)
        → Holds setting new
    by true is = with_holds old journal.entries setting new holds are is
    by false same = subst (Holds setting) (sym same) holds
