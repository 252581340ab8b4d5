use Rattle.std.proofs.Common.{◌≡◌, ◌∙◌, ◌<◌, ◌^◌, ℕ, [], ap, length, map, subst, sym}
use denote.Param.Send.{sendable}
use Rattle.std.proofs.lemmas.Result.{IfOk-from_err}
use Rattle.article_verdict.specs.Config.{terms_of}
use Rattle.live_jobs.specs.Desks.{posts_in}
use Rattle.relay_live.specs.Counts.{posted_in}
use Rattle.std.specs.Prelude.{IfSome}
use Rattle.live_jobs.specs.Gathered.{NoneElse}
use Rattle.relay_live.specs.PeerServers.{kept_of}
use Rattle.relay_live.proofs.Accounts.{each_same, marked, new_accounts, same_length}
use Rattle.relay_live.proofs.Audited.{both_of}
use Rattle.relay_live.proofs.Sent.{store_result_send}
use Rattle.relay_live.proofs.running.serve_all.Goals as goal

-- there is an end for each peer source, which has kept nothing
pub serve_ends-requires-clause-few : goal.serve_ends-requires-clause-few
serve_ends-requires-clause-few g c κs within =
    let peer_sources = same_length kept_of _ c.in_ok-ends.ends.items
    c.args.serving.peer_sources.items c.in_ok-ends.ensures.new in
    subst (λ (n : ℕ). n < 2 ^ 62) (sym peer_sources) c.requires.few

pub serve_ends-requires-clause-new : goal.serve_ends-requires-clause-new
serve_ends-requires-clause-new g c κs within e end jobs there none =
    new_accounts _ _ _ _ jobs _ none
    (each_same kept_of [] c.in_ok-ends.ends.items c.args.serving.peer_sources.items e end
    c.in_ok-ends.ensures.new there)

-- what was posted has parts for contracts alone, which any thread may have
pub serve_ends-requires-send-O : goal.serve_ends-requires-send-O
serve_ends-requires-send-O g c κs within = search (sendable, store_result_send)

-- what an end is stays, whatever it serves, and what was counted is of the seats that come back
pub returns : goal.returns
returns g c =
    let served = c.in_ok-seats.ensures in
    let seats = c.in_ok-seats.seats in
    let counts = c.in-Ok.ensures in
    let ends = c.in_ok-ends.ends.items in
    let peer_sources = same_length kept_of _ ends c.args.serving.peer_sources.items
    c.in_ok-ends.ensures.new in
    record {
      lefts = served.lefts ∙ peer_sources;
      lists = served.lists;
      writers = served.writers;
      jobs = served.jobs;
      none = subst (λ (n : ℕ). NoneElse n (map (λ w. w.finished.items) seats.writers.items))
          peer_sources served.none;
      peers = marked _ (λ m. m.0) seats.services.items ends served.marks
          ∙ c.in_ok-ends.ensures.peers;
      terms = marked _ (λ m. terms_of m.1) seats.services.items ends served.marks
          ∙ c.in_ok-ends.ensures.terms;
      kept = served.kept;
      accepted = counts.accepted ∙ served.accepted;
      posted = ap posts_in counts.posted ∙ served.posted ∙ sym counts.accepted;
      mismatched_receipts = counts.mismatched_receipts;
      once = both_of c.in_ok-audit.audit
          (λ posts. length posts ≡ posts_in (posted_in c.in-Ok.counted))
          (c.in_ok-audit.ensures.as_many (posts_in (posted_in c.in-Ok.counted))
          (subst (λ (totals : _). IfSome c.in_ok-seats.closed.posts
          (λ all. length all.history ≡ posts_in totals)) (sym counts.posted)
          c.in_ok-seats.closed.as_many));
      unforgotten = c.in_ok-audit.ensures.unforgotten;
      read = c.in_ok-audit.ensures.read;
    }

-- where memory was refused before a thread was started, nothing comes back,
pub returns-in_err-ends : goal.returns-in_err-ends
returns-in_err-ends g c =
    let told = c.from_residual in
    record {
      lefts = IfOk-from_err told.result _ told.ensures.0;
      lists = IfOk-from_err told.result _ told.ensures.0;
      writers = IfOk-from_err told.result _ told.ensures.0;
      jobs = IfOk-from_err told.result _ told.ensures.0;
      none = IfOk-from_err told.result _ told.ensures.0;
      peers = IfOk-from_err told.result _ told.ensures.0;
      terms = IfOk-from_err told.result _ told.ensures.0;
      kept = IfOk-from_err told.result _ told.ensures.0;
      accepted = IfOk-from_err told.result _ told.ensures.0;
      posted = IfOk-from_err told.result _ told.ensures.0;
      mismatched_receipts = IfOk-from_err told.result _ told.ensures.0;
      once = IfOk-from_err told.result _ told.ensures.0;
      unforgotten = λ unset. IfOk-from_err told.result _ told.ensures.0;
      read = λ set. IfOk-from_err told.result _ told.ensures.0;
    }

-- nor where a thread couldn't be started
pub returns-in_err-seats : goal.returns-in_err-seats
returns-in_err-seats g c =
    let told = c.from_residual-in_err-seats in
    record {
      lefts = IfOk-from_err told.result _ told.ensures.0;
      lists = IfOk-from_err told.result _ told.ensures.0;
      writers = IfOk-from_err told.result _ told.ensures.0;
      jobs = IfOk-from_err told.result _ told.ensures.0;
      none = IfOk-from_err told.result _ told.ensures.0;
      peers = IfOk-from_err told.result _ told.ensures.0;
      terms = IfOk-from_err told.result _ told.ensures.0;
      kept = IfOk-from_err told.result _ told.ensures.0;
      accepted = IfOk-from_err told.result _ told.ensures.0;
      posted = IfOk-from_err told.result _ told.ensures.0;
      mismatched_receipts = IfOk-from_err told.result _ told.ensures.0;
      once = IfOk-from_err told.result _ told.ensures.0;
      unforgotten = λ unset. IfOk-from_err told.result _ told.ensures.0;
      read = λ set. IfOk-from_err told.result _ told.ensures.0;
    }

-- or where there is no memory to count
pub returns-in-Err : goal.returns-in-Err
returns-in-Err g c =
    record {
      lefts = tt;
      lists = tt;
      writers = tt;
      jobs = tt;
      none = tt;
      peers = tt;
      terms = tt;
      kept = tt;
      accepted = tt;
      posted = tt;
      mismatched_receipts = tt;
      once = tt;
      unforgotten = λ unset. tt;
      read = λ set. tt;
    }

-- or none for the fronts
pub returns-in_err-audit : goal.returns-in_err-audit
returns-in_err-audit g c =
    let told = c.from_residual-in_err-audit in
    record {
      lefts = IfOk-from_err told.result _ told.ensures.0;
      lists = IfOk-from_err told.result _ told.ensures.0;
      writers = IfOk-from_err told.result _ told.ensures.0;
      jobs = IfOk-from_err told.result _ told.ensures.0;
      none = IfOk-from_err told.result _ told.ensures.0;
      peers = IfOk-from_err told.result _ told.ensures.0;
      terms = IfOk-from_err told.result _ told.ensures.0;
      kept = IfOk-from_err told.result _ told.ensures.0;
      accepted = IfOk-from_err told.result _ told.ensures.0;
      posted = IfOk-from_err told.result _ told.ensures.0;
      mismatched_receipts = IfOk-from_err told.result _ told.ensures.0;
      once = IfOk-from_err told.result _ told.ensures.0;
      unforgotten = λ unset. IfOk-from_err told.result _ told.ensures.0;
      read = λ set. IfOk-from_err told.result _ told.ensures.0;
    }
