-- What shards know of what was said.
use Rattle.std.proofs.Common.{◌≡◌, ◌∙◌, ap, sym, refl, subst, Bool, true, false, cond, List, ℕ}
use Rattle.std.proofs.Common.{[], ◌∷◌, ◌++◌, None, Some, append_assoc, length}
use Rattle.std.specs.Cmp.Lexicographic.{nat_list_eq_equiv}
use Rattle.std.specs.Str.{bytes_eq}
use Rattle.id_history.specs.History.{KeptId}
use Rattle.id_history.specs.Lasting.{lasting, put_all}
use Rattle.id_history.specs.Mark.{mark_of, no_article}
use Rattle.id_history.specs.Shards.{KeepsAll}
use Rattle.id_history.specs.declared.shards.Shards.{Shards}
use Rattle.news_terms.specs.Token.{Token}
use Rattle.relay_model.specs.Claims.{Claim, Unknown, Offered, Storing, Stored, Refused, Mine}
use Rattle.relay_model.specs.Claims.{Held, Had, take_answer, after_take, after_settle}
use Rattle.relay_model.specs.Claims.{after_refuse}
use Rattle.relay_model.specs.State.{put_id}
use Rattle.relay_log.specs.Folding.{nothing}
use Rattle.relay_log.specs.Knowing.{KnowsBefore}
use Rattle.relay_log.proofs.Said.{or_else, all_last, said_before}

-- shards that keep claims keep those that are equal to them
keeps_same : (shards : Shards) (claims others : List ℕ → Claim)
    → ((id : List ℕ) → claims id ≡ others id) → KeepsAll shards claims → KeepsAll shards others
keeps_same shards claims others same keeps =
    record { agrees = λ id none. keeps.agrees id none ∙ ap mark_of (same id) }

-- a refusal of an id whose claim lasts
refused_after : (claim : Claim) (moment : ℕ) → lasting claim ≡ claim
    → after_refuse 0 moment claim ≡ or_else claim (Refused moment)
refused_after Unknown moment lasts = refl
refused_after (Offered session since) moment lasts = absurd cc
refused_after (Storing session article stage) moment lasts = absurd cc
refused_after (Stored token had) moment lasts = refl
refused_after (Refused had) moment lasts = refl

pub knows_refused : (new : Shards) (later : List KeptId) (id : List ℕ) (moment : ℕ)
    → KeepsAll new (put_id (put_all nothing later) id
    (after_refuse 0 moment (put_all nothing later id)))
    → KeepsAll new
    (put_all nothing (record { id = id; token = None; moment = moment } ∷ later))
knows_refused new later id moment keeps =
    let one : KeptId = record { id = id; token = None; moment = moment } in
    keeps_same new
    (put_id (put_all nothing later) id (or_else (put_all nothing later id) (Refused moment)))
    (put_all nothing (one ∷ later)) (said_before one later)
    (subst (λ (claim : Claim). KeepsAll new (put_id (put_all nothing later) id claim))
    (refused_after (put_all nothing later id) moment (all_last later id)) keeps)

-- an id of which nothing was known is taken and stored
mine_after : (claim : Claim) (token : Token) (moment : ℕ) → Mine ≡ take_answer 0 claim
    → lasting claim ≡ claim
    → after_settle 0 token moment (after_take 0 no_article claim)
    ≡ or_else claim (Stored token moment)
mine_after Unknown token moment says lasts = refl
mine_after (Offered session since) token moment says lasts = absurd cc
mine_after (Storing session article stage) token moment says lasts = absurd cc
mine_after (Stored had since) token moment says lasts = absurd cc
mine_after (Refused since) token moment says lasts = absurd cc

-- of no id whose claim lasts an article is being stored
held_after : (claim : Claim) (token : Token) (moment : ℕ) → Held ≡ take_answer 0 claim
    → lasting claim ≡ claim
    → after_take 0 no_article claim ≡ or_else claim (Stored token moment)
held_after Unknown token moment says lasts = absurd cc
held_after (Offered session since) token moment says lasts = absurd cc
held_after (Storing session article stage) token moment says lasts = absurd cc
held_after (Stored had since) token moment says lasts = absurd cc
held_after (Refused since) token moment says lasts = absurd cc

-- one of which something was said later stays as it was
had_after : (claim : Claim) (token : Token) (moment : ℕ) → Had ≡ take_answer 0 claim
    → lasting claim ≡ claim
    → after_take 0 no_article claim ≡ or_else claim (Stored token moment)
had_after Unknown token moment says lasts = absurd cc
had_after (Offered session since) token moment says lasts = absurd cc
had_after (Storing session article stage) token moment says lasts = absurd cc
had_after (Stored had since) token moment says lasts = refl
had_after (Refused since) token moment says lasts = refl

-- what is put twice is what is put last
put_twice : (claims : List ℕ → Claim) (id : List ℕ) (first : Claim) (after : Claim → Claim)
    (later : Claim) → after first ≡ later → (other : List ℕ)
    → put_id (put_id claims id first) id (after (put_id claims id first id)) other
    ≡ put_id claims id later other
put_twice claims id first after later is other =
    ap (λ (b : Bool). cond (bytes_eq other id) (after (cond b first (claims id)))
    (cond (bytes_eq other id) first (claims other))) (nat_list_eq_equiv.refl id)
    ∙ by (bytes_eq other id)
  where
    by : (b : Bool) → cond b (after first) (cond b first (claims other))
        ≡ cond b later (claims other)
    by true = is
    by false = refl

-- what was said of an id that is stored
abbrev stored_one : List ℕ → Token → ℕ → KeptId
stored_one id token moment = record { id = id; token = Some token; moment = moment }

-- taken and settled
pub knows_mine : (mid new : Shards) (later : List KeptId) (id : List ℕ) (token : Token)
    (moment : ℕ) → Mine ≡ take_answer 0 (put_all nothing later id)
    → KeepsAll mid (put_id (put_all nothing later) id
    (after_take 0 no_article (put_all nothing later id)))
    → ((others : List ℕ → Claim) → KeepsAll mid others
    → KeepsAll new (put_id others id (after_settle 0 token moment (others id))))
    → KeepsAll new
    (put_all nothing (record { id = id; token = Some token; moment = moment } ∷ later))
knows_mine mid new later id token moment says keeps settle =
    let claims : List ℕ → Claim = put_all nothing later in
    let taken : Claim = after_take 0 no_article (put_all nothing later id) in
    let stored : Claim = or_else (put_all nothing later id) (Stored token moment) in
    keeps_same new (put_id claims id stored)
    (put_all nothing (stored_one id token moment ∷ later))
    (said_before (stored_one id token moment) later)
    (keeps_same new
    (put_id (put_id claims id taken) id (after_settle 0 token moment (put_id claims id taken id)))
    (put_id claims id stored)
    (put_twice claims id taken (after_settle 0 token moment) stored
    (mine_after (put_all nothing later id) token moment says (all_last later id)))
    (settle (put_id claims id taken) keeps))

-- left as it was
knows_other : (new : Shards) (later : List KeptId) (id : List ℕ) (token : Token) (moment : ℕ)
    → after_take 0 no_article (put_all nothing later id)
    ≡ or_else (put_all nothing later id) (Stored token moment)
    → KeepsAll new (put_id (put_all nothing later) id
    (after_take 0 no_article (put_all nothing later id)))
    → KeepsAll new
    (put_all nothing (record { id = id; token = Some token; moment = moment } ∷ later))
knows_other new later id token moment same keeps =
    keeps_same new
    (put_id (put_all nothing later) id
    (or_else (put_all nothing later id) (Stored token moment)))
    (put_all nothing (stored_one id token moment ∷ later))
    (said_before (stored_one id token moment) later)
    (subst (λ (claim : Claim). KeepsAll new (put_id (put_all nothing later) id claim)) same keeps)

pub knows_held : (new : Shards) (later : List KeptId) (id : List ℕ) (token : Token) (moment : ℕ)
    → Held ≡ take_answer 0 (put_all nothing later id)
    → KeepsAll new (put_id (put_all nothing later) id
    (after_take 0 no_article (put_all nothing later id)))
    → KeepsAll new
    (put_all nothing (record { id = id; token = Some token; moment = moment } ∷ later))
knows_held new later id token moment says keeps =
    knows_other new later id token moment
    (held_after (put_all nothing later id) token moment says (all_last later id)) keeps

pub knows_had : (new : Shards) (later : List KeptId) (id : List ℕ) (token : Token) (moment : ℕ)
    → Had ≡ take_answer 0 (put_all nothing later id)
    → KeepsAll new (put_id (put_all nothing later) id
    (after_take 0 no_article (put_all nothing later id)))
    → KeepsAll new
    (put_all nothing (record { id = id; token = Some token; moment = moment } ∷ later))
knows_had new later id token moment says keeps =
    knows_other new later id token moment
    (had_after (put_all nothing later id) token moment says (all_last later id)) keeps

-- what was said in two parts
pub knows_both : (old mid new : Shards) (first rest : List KeptId) → KnowsBefore old mid rest
    → KnowsBefore mid new first → KnowsBefore old new (first ++ rest)
knows_both old mid new first rest one other later keeps =
    subst (λ (said : List KeptId). KeepsAll new (put_all nothing said))
    (sym (append_assoc first rest later)) (other (rest ++ later) (one later keeps))

-- all of a list, where nothing of it is left
pub is_done : {X : Type 0} (left done all : List X) → length left ≡ 0 → all ≡ left ++ done
    → all ≡ done
is_done [] done all none is = is
is_done (x ∷ left) done all none is = absurd cc
