use Rattle.std.proofs.Common.{◌≡◌, ◌∙◌, ap, sym, subst, ℕ, ◌-◌, List, length, take, drop, None}
use Rattle.std.specs.Prelude.{map, IsTrue, IsFalse}
use Rattle.std.proofs.lemmas.List.{take_rest}
use Rattle.news_terms.specs.Article.{IsArticleText, has_nul, is_paired, message_id}
use Rattle.article_parse.specs.declared.header.Field.{Field}
use Rattle.article_parse.specs.Content.{unfolded_newsgroups}
use Rattle.article_parse.specs.Header.{field_view}
use Rattle.article_parse.specs.Reads.{IsHeader}
use Rattle.article_parse.specs.Faults.{ErrorGives, first_that, is_wrong, field_faults}
use Rattle.article_parse.proofs.FirstFaults.{laid_out, fields_right, error_is_first}
use Rattle.article_parse.proofs.article.Article.with_header.Goals as goal

-- a text with this header, whose fields have no fault, is the article that is made of it
is_article : (text : List ℕ) (at : ℕ) (fields : List Field) (ref : List Field)
    → IsFalse (has_nul text) → IsTrue (is_paired text) → IsHeader text (map field_view fields) at
    → ref ≡ fields → first_that (is_wrong (map field_view ref)) field_faults ≡ None
    → IsArticleText text
    (record { fields = map field_view fields; body = take (length text - at) (drop at text) })
is_article text at fields ref nul paired header same right =
    let views = map field_view fields in
    subst (λ (x : List ℕ). IsArticleText text (record { fields = views; body = x }))
    (sym (take_rest text at))
    (record {
      laid_out = laid_out text views at nul paired header;
      fields = fields_right views
          (ap (λ (x : List Field). first_that (is_wrong (map field_view x)) field_faults)
          (sym same) ∙ right);
    })

-- what the type of an article says
pub invariant_of-result : goal.invariant_of-result
invariant_of-result c = record {
  is_id = c.in-Ok.ensures.id
      ∙ ap (λ (x : List Field). message_id (map field_view x)) c.deref.ensures.value;
  is_newsgroups_line = c.in-Ok.ensures.newsgroups
      ∙ ap (λ (x : List Field). unfolded_newsgroups (map field_view x)) c.deref.ensures.value;
  is_article = ∣ is_article c.args.text.now c.args.header.body_at c.args.header.fields.items
      c.deref.result.now c.requires.nul c.requires.paired c.requires.header c.deref.ensures.value
      c.in-Ok.ensures.fault ∣₁;
}

pub returns-in-Ok-clause-read : goal.returns-in-Ok-clause-read
returns-in-Ok-clause-read c =
    record {
      article = is_article c.args.text.now c.args.header.body_at c.args.header.fields.items
          c.deref.result.now c.requires.nul c.requires.paired c.requires.header
          c.deref.ensures.value c.in-Ok.ensures.fault;
      within = c.requires.header.within;
      body = take_rest c.args.text.now c.args.header.body_at;
      id = c.in-Ok.ensures.id
          ∙ ap (λ (x : List Field). message_id (map field_view x)) c.deref.ensures.value;
    }

pub returns-clause-fault : goal.returns-clause-fault
returns-clause-fault c =
    let text = c.args.text.now in
    let at = c.args.header.body_at in
    let fields = map field_view c.args.header.fields.items in
    error_is_first text (record { fields = fields; body = drop at text }) c.in-Err.error
    (laid_out text fields at c.requires.nul c.requires.paired c.requires.header)
    (subst (λ (x : List Field). ErrorGives c.in-Err.error
    (first_that (is_wrong (map field_view x)) field_faults))
    c.deref.ensures.value c.in-Err.ensures.fault)
