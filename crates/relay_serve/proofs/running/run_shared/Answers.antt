use Rattle.std.proofs.Common.{◌∙◌, ℕ, ap, length, map, subst, sym}
use Rattle.std.specs.Prelude.{slice_get}
use Rattle.std.proofs.lemmas.List.{length-map}
use Rattle.article_verdict.specs.Config.{terms_of}
use Rattle.live_jobs.specs.Desks.{posts_in}
use Rattle.live_jobs.specs.Gathered.{NoneElse, hands_of}
use Rattle.live_jobs.specs.Seats.{left_by}
use Rattle.relay_live.specs.Counts.{accepted_in, mismatched_receipts_of}
use Rattle.relay_live.specs.Counts.{posted_in}
use Rattle.relay_live.specs.PeerServers.{kept_of, peer_of, terms_at}
use Rattle.relay_live.specs.Sessions.{Accounted, HasLists}
use Rattle.relay_live.specs.declared.running.Counted.{Counted}
use Rattle.relay_model.specs.Terms.{Terms}
use Rattle.relay_serve.proofs.Kept.{made_there, one_there, same_there}
use Rattle.relay_serve.proofs.running.run_shared.Goals as goal
use Rattle.news_terms.proofs.ListPlaces.{mapped_at}

-- what the seats had is what the totals are of
pub returns-in-Ok : goal.returns-in-Ok
returns-in-Ok g c =
    let ran = c.in-Ok.ensures in
    let same = c.into_counted.ensures in
    let seats = c.in-Ok.ran.seats in
    let ends = seats.services.items in
    let config = c.args.serving.config.now in
    let peer_sources =
    length-map c.args.serving.peer_sources.items (λ peer_source. peer_source.peer) in
    record {
      ran = record {
        finished = map (λ w. w.finished.items) seats.writers.items;
        hands = hands_of seats.lefts.items;
        kept = map kept_of ends;
        writers = length-map seats.writers.items (λ w. w.finished.items) ∙ ran.writers
            ∙ c.channels_of-groups.ensures.count;
        ends = (
          length-map seats.lefts.items left_by ∙ ran.lefts ∙ sym peer_sources,
          length-map ends kept_of ∙ sym (length-map ends peer_of) ∙ ap length ran.peers,
        );
        lists = subst (λ n. HasLists n (hands_of seats.lefts.items))
            c.channels_of-groups.ensures.count ran.lists;
        told = ran.jobs;
        none = subst (λ (n : ℕ). NoneElse n (map (λ w. w.finished.items) seats.writers.items))
            (sym peer_sources) ran.none;
        served = λ end peer jobs answers at_peer handed kept.
            let at = mapped_at kept_of ends end answers kept in
            let has = ran.kept end jobs at.0 handed at.1 in
            let its_peer = one_there _ _ end (peer_of at.0) peer ran.peers
            (made_there peer_of ends end at.0 at.1) at_peer in
            let its_terms = same_there (terms_of config) c.args.serving.peer_sources.items end
            (terms_at at.0) (ap (λ row. slice_get row end) (sym ran.terms)
            ∙ made_there terms_at ends end at.0 at.1) in (
              has.0,
              subst (λ (x : Terms × ℕ). Accounted g.J.StorePremises.trusted x.0 end x.1
                  has.0 jobs answers)
                  (λ i. (its_terms i, its_peer i))
                  (subst (λ list. Accounted g.J.StorePremises.trusted (terms_at at.0) end
                  (peer_of at.0) has.0 jobs list) at.2 has.1),
            );
        accepted = ap accepted_in same ∙ ran.accepted;
        posted = ap (λ (counts : Counted). posts_in (posted_in counts)) same ∙ ran.posted
            ∙ sym (ap accepted_in same);
        mismatched_receipts = ap mismatched_receipts_of same ∙ ran.mismatched_receipts;
      };
      fault = tt;
    }
