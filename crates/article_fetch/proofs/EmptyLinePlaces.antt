-- The place of the empty line of an article's text, and the octets before and behind it.
use Rattle.std.proofs.Common.{◌≡◌, ℕ, ◌+◌, true, false, List, take, drop, sym, ap, ◌∙◌}
use Rattle.std.specs.Prelude.{flat_map}
use Rattle.std.proofs.lemmas.List.{append_cancel_right, take-append-drop}
use Rattle.news_terms.specs.Article.{Article, Field, IsLaidOut, field_text, has_nul, is_paired}
use Rattle.news_terms.proofs.ArticleReadings.{one_article}
use Rattle.article_parse.specs.Header.{AreFieldsTo, IsEmptyLineAt}
use Rattle.article_parse.proofs.FieldCuts.{header_ends}
use Rattle.article_parse.proofs.FirstFaults.{laid_out}
use Rattle.article_fetch.specs.Layout.{IsEmptyLinePlace}

-- the octets in front of a place are those of the fields that stand there
fields_before : (s : List ℕ) (fields : List Field) (at : ℕ) → AreFieldsTo s fields at
    → flat_map field_text fields ≡ take at s
fields_before s fields at h =
    append_cancel_right (flat_map field_text fields) (take at s) (drop at s)
    (sym h.spelled ∙ sym (take-append-drop at s))

-- fields in front of a place, and an empty line there
pub place_found : (s rest : List ℕ) (fields : List Field) (at : ℕ) → has_nul s ≡ false
    → is_paired s ≡ true → rest ≡ drop at s → AreFieldsTo s fields at → IsEmptyLineAt rest
    → IsEmptyLinePlace s at
place_found s rest fields at nul paired e h line =
    let header = header_ends s rest fields at e h line in
    let read : Article = record { fields = fields; body = drop (at + 2) s } in
    let is_read : IsLaidOut s read = laid_out s fields (at + 2) nul paired header in
    let same : (a : Article) → IsLaidOut s a → a ≡ read =
    λ a laid. one_article s a read laid is_read in
    record {
      article = read;
      laid_out = is_read;
      within = header.within;
      header = λ a laid. ap (λ (x : Article). flat_map field_text x.fields) (same a laid)
          ∙ fields_before s fields at h;
      body = λ a laid. ap (λ (x : Article). x.body) (same a laid);
    }
