-- Each text is an article's, or has a first fault.
use Rattle.std.proofs.Common.{◌≡◌, ℕ, List, Option, Some, None, refl, inl, inr}
use Rattle.std.proofs.lemmas.Bool.{cases_Bool}
use Rattle.news_terms.specs.Article.{Article, Fault, Nul, BareCrLf, NoBlankLine, BadHeader}
use Rattle.news_terms.specs.Article.{IsLaidOut, has_nul, is_paired}
use Rattle.news_terms.specs.Article.{has_empty_line, are_header_lines, header_lines}
use Rattle.article_parse.specs.Readings.{HasReading}
use Rattle.article_parse.proofs.FirstFaults.{first_nul, first_bare, first_blank, first_header}
use Rattle.article_parse.proofs.FirstFaults.{first_field, fields_right}
use Rattle.article_parse.specs.Faults.{is_wrong, first_that, field_faults}
use Rattle.article_parse.proofs.Layouts.{each_layout}

-- by the first fault of the fields, where there is one
of_fields : (text : List ℕ) (a : Article) → IsLaidOut text a → (found : Option Fault)
    → first_that (is_wrong a.fields) field_faults ≡ found → HasReading text
of_fields text a laid None e = inl (a, record { laid_out = laid; fields = fields_right a.fields e })
of_fields text a laid (Some fault) e = inr (fault, first_field text a fault laid e)

-- by the tests of the whole text, in their order
pub each_reading : (text : List ℕ) → HasReading text
each_reading text = elim (cases_Bool (has_nul text)) [
  | inl nul ↦ inr (Nul, first_nul text nul)
  | inr nul ↦ elim (cases_Bool (is_paired text)) [
    | inr bare ↦ inr (BareCrLf, first_bare text nul bare)
    | inl paired ↦ elim (cases_Bool (has_empty_line text)) [
      | inr none ↦ inr (NoBlankLine, first_blank text nul paired none)
      | inl blank ↦ elim (cases_Bool (are_header_lines (header_lines text))) [
        | inr bad ↦ inr (BadHeader, first_header text nul paired blank bad)
        | inl good ↦
            let laid = each_layout text nul paired blank good in
            of_fields text laid.0 laid.1
            (first_that (is_wrong laid.0.fields) field_faults) refl
      ]
    ]
  ]
]
