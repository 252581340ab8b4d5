-- Lines that begin fields.
use Rattle.std.proofs.Common.{◌≡◌, ℕ, ◌+◌, ◌<◌, Bool, true, false, List, length, take, drop}
use Rattle.std.proofs.Common.{refl, sym, ap, ◌∙◌, arith}
use Rattle.std.specs.Prelude.{◌&&◌, ◌==◌}
use Rattle.std.specs.List.{list_any, position_or_len}
use Rattle.std.specs.Str.{byte}
use Rattle.news_terms.specs.Article.{begins_field, is_field_name, is_set_off}
use Rattle.article_parse.proofs.Pairs.{no_place, some_place}

-- the test that an octet is a colon
abbrev pub is_colon : ℕ → Bool
is_colon c = c == byte ":"

-- a line without a colon begins no field
pub no_colon : (line : List ℕ) → position_or_len is_colon line ≡ length line
    → begins_field line ≡ false
no_colon line e =
    parts (is_field_name (take (position_or_len is_colon line) line)) (list_any is_colon line)
    (is_set_off (drop (position_or_len is_colon line + 1) line)) (no_place is_colon line e)
  where
    parts : (a b c : Bool) → b ≡ false → ((a && b) && c) ≡ false
    parts true b c e = rw e refl
    parts false b c e = refl

-- a line with a colon begins a field where a name stands before it and what follows is set off
pub with_colon : (line : List ℕ) (n : ℕ) (a b : Bool) → n ≡ position_or_len is_colon line
    → n < length line → a ≡ is_field_name (take n line) → b ≡ is_set_off (drop (n + 1) line)
    → (a && b) ≡ begins_field line
with_colon line n a b e within named off =
    parts (list_any is_colon line) a b
    (is_field_name (take (position_or_len is_colon line) line))
    (is_set_off (drop (position_or_len is_colon line + 1) line))
    (some_place is_colon line (omega (arith, e, within)))
    (named ∙ ap (λ m. is_field_name (take m line)) e)
    (off ∙ ap (λ m. is_set_off (drop (m + 1) line)) e)
  where
    parts : (l a b a' b' : Bool) → l ≡ true → a ≡ a' → b ≡ b' → (a && b) ≡ ((a' && l) && b')
    parts l true b a' b' t e f = rw (sym e, t) f
    parts l false b a' b' t e f = rw (sym e) refl
