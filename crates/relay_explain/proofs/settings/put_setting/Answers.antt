use Rattle.std.proofs.Common.{◌≡◌, ◌<◌, ◌≤◌, ◌++◌, ℕ, List, true, false, arith, codes, length, map}
use Rattle.std.proofs.Common.{refl}
use Rattle.std.proofs.lemmas.Bool.{le-ltb, lt-ltb}
use Rattle.std.proofs.lemmas.List.{length-map}
use Rattle.std.specs.Borrow.{Bor}
use Rattle.std.specs.Prelude.{nat_lt}
use Rattle.relay_explain.specs.Lines.{key_line, told_line}
use Rattle.relay_explain.specs.Settings.{relay_conf, setting_text}
use Rattle.relay_explain.proofs.settings.put_setting.Goals as goal

-- A setting that no line says.
unsaid : (lines : List (Bor (List ℕ))) (line : ℕ) (key value meaning : List ℕ)
    → line ≡ key_line key (map (λ one. one.now) lines) → length lines < line
    → setting_text (map (λ one. one.now) lines) key value meaning
    ≡ codes "relay.conf: " ++ key ++ codes " " ++ value ++ codes " (no line says it): "
    ++ meaning ++ codes "\n"
unfolding setting_text
unsaid lines line key value meaning is past =
    let test : nat_lt (length (map (λ one. one.now) lines))
    (key_line key (map (λ one. one.now) lines)) ≡ true =
    lt-ltb _ _ (omega (arith, is, past, length-map lines (λ one. one.now))) in
    rw test refl

-- A setting at the line that says it.
said : (lines : List (Bor (List ℕ))) (line : ℕ) (key value meaning : List ℕ)
    → line ≡ key_line key (map (λ one. one.now) lines) → line ≤ length lines
    → setting_text (map (λ one. one.now) lines) key value meaning
    ≡ told_line relay_conf line (key ++ codes " " ++ value ++ codes ": " ++ meaning)
unfolding setting_text
said lines line key value meaning is there =
    let test : nat_lt (length (map (λ one. one.now) lines))
    (key_line key (map (λ one. one.now) lines)) ≡ false =
    le-ltb _ _ (omega (arith, is, there, length-map lines (λ one. one.now))) in
    rw (test, is) refl

pub returns-then-lines-line : goal.returns-then-lines-line
returns-then-lines-line c =
    rw (unsaid c.args.lines.now c.key_line-line.result c.args.key.now c.args.value.now
    c.args.meaning.now c.key_line-line.ensures c.if-lines-line.true) c.put.ensures

pub returns : goal.returns
returns c =
    rw (said c.args.lines.now c.key_line-line.result c.args.key.now c.args.value.now
    c.args.meaning.now c.key_line-line.ensures c.if-lines-line.false) c.put_line.ensures
