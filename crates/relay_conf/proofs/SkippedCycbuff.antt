-- Comments and empty lines of cycbuff.conf.
use Rattle.std.proofs.Common.{◌≡◌, ℕ, true, List, [], ◌∷◌, ◌++◌, Result, Ok, refl, ap, ◌∙◌, sym}
use Rattle.std.specs.Prelude.{◌↔◌}
use Rattle.std.proofs.lemmas.List.Elements.{filter_map-append}
use Rattle.news_terms.specs.Article.{without_outer_white}
use Rattle.line_words.specs.Comments.{is_skipped}
use Rattle.relay_conf.specs.declared.cycbuff.BufferConf.{BufferConf}
use Rattle.relay_conf.specs.declared.faults.Fault.{Fault}
use Rattle.relay_conf.specs.Cycbuff.{CycbuffLine, CycbuffSettings, Skipped, buffers_of, group_names}
use Rattle.relay_conf.specs.Cycbuff.{groups_of, cycbuff_line, cycbuff_of, cycbuff_said, early_fault}
use Rattle.relay_conf.specs.Cycbuff.{late_fault, no_group_fault}
use Rattle.relay_conf.specs.CycbuffDraft.{LineSays}
use Rattle.relay_conf.proofs.CycbuffReadings.{alone, saying_alone}
use Rattle.relay_conf.proofs.OneReading.{say}
use Rattle.relay_conf.proofs.SkippedLines.{IsIdle, come_without}

-- the settings of these lines, over these buffers
abbrev settings_over : List (Result CycbuffLine Fault) → List BufferConf → CycbuffSettings
settings_over said buffers = record { buffers = buffers; groups = groups_of buffers said }

-- A line that is skipped changes nothing.
cycbuff_idle : IsIdle early_fault (λ said. no_group_fault (group_names said)) buffers_of late_fault
    (λ said. settings_over said (buffers_of said)) (Ok Skipped)
cycbuff_idle = record {
  none = λ before. refl;
  none_late = λ buffers before. refl;
  early_same = λ before after line. simp filter_map-append;
  whole_same = λ before after. simp filter_map-append;
  key_same = λ before after. simp filter_map-append;
  late_same = λ buffers before after line. simp filter_map-append;
  made_same = λ before after. simp filter_map-append;
}

-- A line that says nothing is skipped.
cycbuff_skipped : (line : List ℕ) → is_skipped (without_outer_white line) ≡ true
    → cycbuff_line line ≡ Ok Skipped
cycbuff_skipped line e = rw e refl

-- The settings of cycbuff.conf are the same without a comment or an empty line.
pub cycbuff_without : (before after : List (List ℕ)) (line : List ℕ) (settings : CycbuffSettings)
    → is_skipped (without_outer_white line) ≡ true
    → (cycbuff_of (before ++ line ∷ after) ≡ Ok settings) ↔
    (cycbuff_of (before ++ after) ≡ Ok settings)
cycbuff_without before after line settings e =
    let both = come_without early_fault (λ said. no_group_fault (group_names said)) buffers_of
    late_fault (λ said. settings_over said (buffers_of said)) (Ok Skipped) cycbuff_idle
    (say LineSays alone) (λ b c next. refl) before after line settings
    (λ b. cycbuff_skipped line e) in
    let with = ap cycbuff_said (saying_alone [] (before ++ line ∷ after)) in
    let less = ap cycbuff_said (saying_alone [] (before ++ after)) in
    (λ h. sym less ∙ both.0 (with ∙ h), λ h. sym with ∙ both.1 (less ∙ h))
