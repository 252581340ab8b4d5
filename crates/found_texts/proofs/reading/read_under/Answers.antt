use Rattle.std.proofs.Common.{◌≡◌, [], ◌∷◌, append-nil, subst, sym}
use Rattle.std.specs.List.{Contains}
use Rattle.found_texts.specs.Judging.{ReadsOne}
use Rattle.found_texts.specs.Reading.{HasToken}
use Rattle.found_texts.proofs.HeldLemmas.{reject_held, reject_unfailed, still_held, still_unfailed}
use Rattle.found_texts.proofs.ReadLemmas.{one_more_among, reads_article, reads_no_article}
use Rattle.found_texts.proofs.reading.read_under.Goals as goal

pub returns-in_ok-push-in-Some-clause-read : goal.returns-in_ok-push-in-Some-clause-read
returns-in_ok-push-in-Some-clause-read g c =
    let old = c.args.found_set.now in
    let new = c.read_one.new.found_set in
    record {
      texts = c.in-Some.text ∷ [];
      behind = c.in_ok-push-in-Some.ensures.items;
      reads = reads_article c.args.relay.now old new c.args.token c.in-Some.text
          (subst (λ text. ReadsOne c.args.relay.now c.args.token old text new) c.in-Some.is
          c.in_ok-text.ensures.read);
    }

pub returns-in-None-clause-read : goal.returns-in-None-clause-read
returns-in-None-clause-read g c =
    let old = c.args.found_set.now in
    let mid = c.read_one.new.found_set in
    record {
      texts = [];
      behind = sym (append-nil c.args.texts.now.items);
      reads = reads_no_article c.args.relay.now old mid c.reject.new.self c.args.token
          (subst (λ text. ReadsOne c.args.relay.now c.args.token old text mid) c.in-None.is
          c.in_ok-text.ensures.read)
          c.reject.ensures.keeps;
    }

pub returns-in-None-clause-unfailed : goal.returns-in-None-clause-unfailed
returns-in-None-clause-unfailed g c =
    let mid = c.read_one.new.found_set in
    still_unfailed c.args.found_set.now mid c.reject.new.self c.in_ok-text.ensures.unfailed
    (reject_unfailed mid c.reject.new.self c.reject.ensures.rejects)

pub returns-in-None-clause-held : goal.returns-in-None-clause-held
returns-in-None-clause-held g c =
    let mid = c.read_one.new.found_set in
    still_held c.args.found_set.now mid c.reject.new.self c.read_one.ensures.held
    (reject_held mid c.reject.new.self c.reject.ensures.rejects)

pub returns-in_ok-push-in-Some-clause-among : goal.returns-in_ok-push-in-Some-clause-among
returns-in_ok-push-in-Some-clause-among g c = λ tokens listed among.
    let same : c.in-Some.text.token ≡ c.args.token =
    subst (λ text. HasToken c.args.token text) c.in-Some.is c.in_ok-text.ensures.token in
    one_more_among tokens c.args.texts.now.items c.push.new.self.items c.in-Some.text
    c.in_ok-push-in-Some.ensures.items (subst (Contains tokens) (sym same) listed) among
