use Rattle.std.proofs.Common.{subst}
use Rattle.cyc_token.specs.Token.{token_view}
use Rattle.found_texts.specs.Gathering.{ReadsText}
use Rattle.found_texts.specs.Judging.{Judges}
use Rattle.found_texts.proofs.JudgeLemmas.{judged_none, judged_text}
use Rattle.found_texts.proofs.reading.read_one.Goals as goal

pub returns-in_ok-text-in-Some-clause-read : goal.returns-in_ok-text-in-Some-clause-read
returns-in_ok-text-in-Some-clause-read g c =
    let old = c.args.found_set.now in
    let new = c.read_text.new.found_set in
    let token = c.args.token in
    judged_text c.args.relay.now token old new c.in-Some.octets c.in_ok-text-in-Some.text
    (subst (λ octets. ReadsText (token_view token) old octets new) c.in-Some.is
    c.in_ok-octets.ensures.text)
    (subst (λ octets. Judges c.args.relay.now token octets c.in_ok-text-in-Some.text)
    c.deref.ensures.value c.in_ok-text-in-Some.ensures.judged)

pub returns-in-None-clause-read : goal.returns-in-None-clause-read
returns-in-None-clause-read g c =
    let old = c.args.found_set.now in
    let new = c.read_text.new.found_set in
    judged_none c.args.relay.now c.args.token old new
    (subst (λ octets. ReadsText (token_view c.args.token) old octets new) c.in-None.is
    c.in_ok-octets.ensures.text)
