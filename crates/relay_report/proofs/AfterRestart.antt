-- The report behind a Restart: buffers and feeds are as before, and of the message-ids none is
-- offered.
use Rattle.std.proofs.Common.{◌≡◌, ◌∙◌, ◌∷◌, ◌&&◌, ◌+◌, [], ap, sym, subst, refl, zero-add}
use Rattle.std.proofs.Common.{Bool, true, false, cond, List, ℕ, true≢false}
use Rattle.std.proofs.lemmas.List.Sums.{sum_by-cons}
use Rattle.std.specs.List.{count_by, filter}
use Rattle.article_verdict.specs.Config.{terms_of}
use Rattle.id_history.specs.Counts.{CountsOf, is_known, is_offered, is_refused, is_stored}
use Rattle.id_history.specs.declared.counts.Counts.{Counts}
use Rattle.id_history.proofs.CountLaws.{IsDistinct-filter, member_filter}
use Rattle.relay_conf.specs.declared.settings.Config.{Config}
use Rattle.relay_model.specs.Claims.{Claim, Unknown, Offered, Storing, Stored, Refused}
use Rattle.relay_model.specs.Claims.{after_restart}
use Rattle.relay_model.specs.Claims.{is_storing}
use Rattle.relay_model.specs.Run.{Restart, Restarts, Step, IsRefused, WantsMemory, IsDone, IsBusy}
use Rattle.relay_model.specs.Run.{HasNoRoom, HasNot}
use Rattle.relay_model.specs.Run as run
use Rattle.relay_model.specs.Terms.{Terms}
use Rattle.relay_model.specs.World.{Fault, Quiet, Refuses, World}
use Rattle.relay_report.specs.Report.{ReportsOn, text_after_restart}

-- something is known of the id behind a Restart
abbrev lasts : (List ℕ → Claim) → List ℕ → Bool
lasts claims id = is_known (after_restart (claims id))

-- and so it was before
known_before : (claim : Claim)
    → (is_known (after_restart claim) && is_known claim) ≡ is_known (after_restart claim)
known_before Unknown = refl
known_before (Offered session since) = refl
known_before (Storing session article stage) = refl
known_before (Stored token moment) = refl
known_before (Refused moment) = refl

-- nothing is offered
none_offered : (claim : Claim) → is_offered (after_restart claim) ≡ false
none_offered Unknown = refl
none_offered (Offered session since) = refl
none_offered (Storing session article stage) = refl
none_offered (Stored token moment) = refl
none_offered (Refused moment) = refl

-- of what is known something passes a test that what is unknown doesn't
known_by : (test : Claim → Bool) → test Unknown ≡ false → (claim : Claim) → test claim ≡ true
    → is_known claim ≡ true
known_by test none Unknown passes = absurd (true≢false (sym passes ∙ none))
known_by test none (Offered session since) passes = refl
known_by test none (Storing session article stage) passes = refl
known_by test none (Stored token moment) passes = refl
known_by test none (Refused moment) passes = refl

-- a test to which what is offered is as what is unknown gives the same as before
same_test : (test : Claim → Bool)
    → ((session since : ℕ) → test (Offered session since) ≡ test Unknown)
    → (claim : Claim) → test claim ≡ test (after_restart claim)
same_test test alike Unknown = refl
same_test test alike (Offered session since) = alike session since
same_test test alike (Storing session article stage) = refl
same_test test alike (Stored token moment) = refl
same_test test alike (Refused moment) = refl

-- what doesn't pass fails
fails : (b : Bool) → (b ≡ true → ⊥) → b ≡ false
fails true not = absurd (not refl)
fails false not = refl

-- of those that a filter keeps as many pass, where it keeps all that pass
count_filter : (p keep : List ℕ → Bool) → ((id : List ℕ) → p id ≡ true → keep id ≡ true)
    → (xs : List (List ℕ)) → count_by p (filter keep xs) ≡ count_by p xs
count_filter p keep kept [] = refl
count_filter p keep kept (x ∷ xs) = by (keep x) refl (count_filter p keep kept xs)
  where
    by : (b : Bool) → keep x ≡ b → count_by p (filter keep xs) ≡ count_by p xs
        → count_by p (cond b (x ∷ filter keep xs) (filter keep xs)) ≡ count_by p (x ∷ xs)
    by true is rest =
        sum_by-cons (λ id. cond (p id) 1 0) x (filter keep xs)
        ∙ ap (λ n. cond (p x) 1 0 + n) rest
        ∙ sym (sum_by-cons (λ id. cond (p id) 1 0) x xs)
    by false is rest =
        let fail = fails (p x) (λ passes. true≢false (sym (kept x passes) ∙ is)) in
        rest ∙ sym (zero-add (count_by p xs))
        ∙ ap (λ b. cond b 1 0 + count_by p xs) (sym fail)
        ∙ sym (sum_by-cons (λ id. cond (p id) 1 0) x xs)

-- where none passes, none is counted
count_none : (p : List ℕ → Bool) → ((id : List ℕ) → p id ≡ false) → (xs : List (List ℕ))
    → count_by p xs ≡ 0
count_none p none [] = refl
count_none p none (x ∷ xs) =
    sum_by-cons (λ id. cond (p id) 1 0) x xs
    ∙ (λ i. cond (none x i) 1 0 + count_none p none xs i)

-- the counts behind a Restart are those before it, with none offered
counts_again : (claims : List ℕ → Claim) (ids : Counts) → CountsOf claims ids
    → CountsOf (λ id. after_restart (claims id)) (record ids { offered = 0 })
counts_again claims ids counted = record {
  ids = filter (lasts claims) counted.ids;
  once = IsDistinct-filter (lasts claims) counted.ids counted.once;
  known = λ id. member_filter (lasts claims) id counted.ids
      ∙ ap (λ b. lasts claims id && b) (counted.known id) ∙ known_before (claims id);
  numbers = record {
    offered = sym (count_none (λ id. is_offered (after_restart (claims id)))
        (λ id. none_offered (claims id)) (filter (lasts claims) counted.ids));
    storing = counted.numbers.storing ∙ again is_storing refl (λ session since. refl);
    stored = counted.numbers.stored ∙ again is_stored refl (λ session since. refl);
    refused = counted.numbers.refused ∙ again is_refused refl (λ session since. refl);
  };
}
  where
    again : (test : Claim → Bool) → test Unknown ≡ false
        → ((session since : ℕ) → test (Offered session since) ≡ test Unknown)
        → count_by (λ id. test (claims id)) counted.ids ≡ count_by
        (λ id. test (after_restart (claims id))) (filter (lasts claims) counted.ids)
    again test none alike =
        (λ i. count_by (λ id. same_test test alike (claims id) i) counted.ids)
        ∙ sym (count_filter (λ id. test (after_restart (claims id))) (lasts claims)
        (λ id passes. known_by test none (after_restart (claims id)) passes) counted.ids)

-- what was reported is reported behind a Restart that was done, with none offered
restart_done
    : (config : Config) (x y : World) (text : List ℕ) (reports : ReportsOn config x.state text)
    → Restarts (terms_of config) x Quiet y
    → ReportsOn config y.state (text_after_restart config x.state reports.ids)
restart_done config x y text reports (IsBusy id busy said e) = absurd (cc)
restart_done config x y text reports (HasNoRoom failures rises said e) = absurd (cc)
restart_done config x y text reports (HasNot i buffer failures there idle failed said e) =
    absurd (cc)
restart_done config x y text reports (run.IsDone failures idle rises said e) =
    subst (λ (z : World). ReportsOn config z.state (text_after_restart config x.state reports.ids))
    (sym e)
    (record {
      ids = record reports.ids { offered = 0 };
      counted = counts_again x.state.claim reports.ids reports.counted;
      told = refl;
    })

pub done : (config : Config) (x y : World) (text : List ℕ) (reports : ReportsOn config x.state text)
    → Step (terms_of config) x Restart Quiet y
    → ReportsOn config y.state (text_after_restart config x.state reports.ids)
done config x y text reports (IsRefused fault free said e) = absurd (cc)
done config x y text reports (WantsMemory takes said e) = absurd (cc)
done config x y text reports (IsDone free does) = restart_done config x y text reports does

-- a Restart that was refused leaves the state
restart_leaves : (w : Terms) (x y : World) (fault : Fault) → Restarts w x (Refuses fault) y
    → y.state ≡ x.state
restart_leaves w x y fault (IsBusy id busy said e) = ap (λ (z : World). z.state) e
restart_leaves w x y fault (HasNoRoom failures rises said e) = ap (λ (z : World). z.state) e
restart_leaves w x y fault (HasNot i buffer failures there idle failed said e) =
    ap (λ (z : World). z.state) e
restart_leaves w x y fault (run.IsDone failures idle rises said e) = absurd (cc)

leaves : (w : Terms) (x y : World) (fault : Fault) → Step w x Restart (Refuses fault) y
    → y.state ≡ x.state
leaves w x y fault (IsRefused other free said e) = ap (λ (z : World). z.state) e
leaves w x y fault (WantsMemory takes said e) = ap (λ (z : World). z.state) e
leaves w x y fault (IsDone free does) = restart_leaves w x y fault does

pub refused : (config : Config) (x y : World) (text : List ℕ) (fault : Fault)
    → ReportsOn config x.state text → Step (terms_of config) x Restart (Refuses fault) y
    → ReportsOn config y.state text
refused config x y text fault reports step =
    subst (λ σ. ReportsOn config σ text) (sym (leaves (terms_of config) x y fault step)) reports
