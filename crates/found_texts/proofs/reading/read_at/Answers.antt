use Rattle.std.proofs.Common.{◌∙◌, [], append-nil, ap, refl, subst, sym}
use Rattle.std.proofs.lemmas.Result.{on_ok_weaker}
use Rattle.std.specs.Option.{option_to_list}
use Rattle.buffer_repair.specs.Finding.{tokens_at}
use Rattle.found_texts.specs.Reading.{ReadsFurther}
use Rattle.found_texts.proofs.ReadLemmas.{listed_at, reads_none}
use Rattle.found_texts.proofs.reading.read_at.Goals as goal

pub returns-in-None-clause-read : goal.returns-in-None-clause-read
returns-in-None-clause-read g c =
    let old = c.args.found_set.now in
    let texts = c.args.texts.now.items in
    subst (λ tokens. ReadsFurther c.args.relay.now tokens old texts old texts)
    (ap option_to_list (sym c.in-None.is ∙ c.token.ensures))
    (record {
      texts = [];
      behind = sym (append-nil texts);
      reads = reads_none c.args.relay.now old [] refl;
    })

pub returns-in-Some-clause-among : goal.returns-in-Some-clause-among
returns-in-Some-clause-among g c = λ among.
    let tokens = tokens_at c.args.found_set.now c.args.number in
    let listed =
    listed_at tokens c.args.place c.in-Some.token (sym c.token.ensures ∙ c.in-Some.is) in
    on_ok_weaker c.read_under.result (λ stay. stay tokens listed among) c.read_under.ensures.among
