-- Comments and empty lines of relay.conf.
use Rattle.std.proofs.Common.{◌≡◌, ℕ, true, List, ◌∷◌, ◌++◌, Ok, refl, ap, ap₂, ◌∙◌}
use Rattle.std.specs.Prelude.{◌↔◌, filter_map, flat_map}
use Rattle.std.proofs.lemmas.List.Elements.{filter_map-append}
use Rattle.std.proofs.lemmas.Grind.{flat_map-append}
use Rattle.news_terms.specs.Article.{without_outer_white}
use Rattle.line_words.specs.Comments.{is_skipped}
use Rattle.relay_conf.specs.RelayLines.{SaidLine, Skipped, LineSays, relay_line}
use Rattle.relay_conf.specs.Relay.{Stand, stand_of, feed_of, allows_of, line_fault}
use Rattle.relay_conf.specs.Relay.{early_fault, late_fault}
use Rattle.relay_conf.specs.Relay.{no_own_fault, settings_of, RelaySettings}
use Rattle.relay_conf.specs.RelayViews.{HasSettings}
use Rattle.relay_conf.proofs.OneRelay.{line_one}
use Rattle.relay_conf.proofs.RelayReadings.{settings_by}
use Rattle.relay_conf.proofs.SkippedLines.{IsIdle, settings_without}

-- The same stands without a line that is skipped.
stand_same : (before after : List SaidLine) → stand_of (before ++ Ok Skipped ∷ after) ≡ stand_of
    (before ++ after)
stand_same before after = simp filter_map-append

-- A line that is skipped changes nothing.
relay_idle : IsIdle early_fault (λ said. no_own_fault (stand_of said).owns)
    (λ said. (stand_of said).peers) late_fault settings_of (Ok Skipped)
relay_idle = record {
  none = λ before. refl;
  none_late = λ peers before. refl;
  early_same = λ before after line. ap (λ (st : Stand). line_fault st line)
      (stand_same before after);
  whole_same = λ before after. ap (λ (st : Stand). no_own_fault st.owns) (stand_same before after);
  key_same = λ before after. ap (λ (st : Stand). st.peers) (stand_same before after);
  late_same = λ peers before after line. refl;
  made_same = λ before after.
      ap (λ (st : Stand).
      settings_by st (filter_map (feed_of st.peers) (before ++ Ok Skipped ∷ after))
      (flat_map (allows_of st.peers) (before ++ Ok Skipped ∷ after)))
      (stand_same before after)
      ∙ ap₂ (settings_by (stand_of (before ++ after)))
      (simp filter_map-append) (simp flat_map-append);
}

-- A comment or an empty line is skipped.
relay_skipped : (line : List ℕ) → is_skipped (without_outer_white line) ≡ true
    → relay_line line ≡ Ok Skipped
relay_skipped line e = rw e refl

-- The settings of relay.conf are the same without a comment or an empty line.
pub relay_without : (before after : List (List ℕ)) (line : List ℕ) (settings : RelaySettings)
    → is_skipped (without_outer_white line) ≡ true
    → HasSettings (before ++ line ∷ after) settings ↔ HasSettings (before ++ after) settings
relay_without before after line settings e =
    settings_without early_fault (λ said. no_own_fault (stand_of said).owns)
    (λ said. (stand_of said).peers) late_fault settings_of (Ok Skipped) relay_idle LineSays line_one
    (λ b c next. refl) before after line settings
    (λ b. rw (relay_skipped line e) refl)
