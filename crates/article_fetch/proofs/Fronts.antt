-- The front of a content, which the unfolded content is without.
use Rattle.std.proofs.Common.{◌≡◌, ℕ, ◌+◌, true, false, List, [], ◌∷◌, drop, refl, sym, ap}
use Rattle.std.proofs.Common.{◌∙◌, arith}
use Rattle.std.specs.Prelude.{nat_eq}
use Rattle.std.specs.List.{starts_with}
use Rattle.std.proofs.lemmas.Bool.{both_ways}
use Rattle.std.proofs.lemmas.List.{drop-drop}
use Rattle.news_terms.specs.Lines.{crlf}
use Rattle.news_terms.specs.Article.{without_crlf, without_first_white}
use Rattle.article_parse.specs.Content.{begins_white}
use Rattle.article_parse.proofs.Contents.{octet_kept_at}

-- a white octet in front of a text is the first of its line
white_front : (t : List ℕ) → starts_with nat_eq t crlf ≡ false → begins_white t ≡ true
    → without_crlf (drop 1 t) ≡ without_first_white (without_crlf t)
white_front [] h w = absurd (both_ways _ refl w)
white_front (c ∷ t) h w =
    let kept : without_crlf (c ∷ t) ≡ c ∷ without_crlf t =
    octet_kept_at (c ∷ t) (c ∷ t) 0 refl (omega arith) h in
    rw kept (rw w refl)

-- and where another octet stands in front, or none, no white octet does in its line
black_front : (t : List ℕ) → starts_with nat_eq t crlf ≡ false → begins_white t ≡ false
    → without_crlf t ≡ without_first_white (without_crlf t)
black_front [] h w = refl
black_front (c ∷ t) h w =
    let kept : without_crlf (c ∷ t) ≡ c ∷ without_crlf t =
    octet_kept_at (c ∷ t) (c ∷ t) 0 refl (omega arith) h in
    rw kept (rw w refl)

-- the same of what is sliced off at a place
pub white_passed : (s tail : List ℕ) (at : ℕ) → tail ≡ drop at s
    → starts_with nat_eq tail crlf ≡ false → begins_white tail ≡ true
    → without_crlf (drop at s) ≡ without_crlf s
    → without_crlf (drop (at + 1) s) ≡ without_first_white (without_crlf s)
white_passed s tail at e h w passed =
    ap without_crlf (sym (drop-drop 1 at s) ∙ ap (drop 1) (sym e)) ∙ white_front tail h w
    ∙ ap (λ x. without_first_white (without_crlf x)) e ∙ ap without_first_white passed

pub black_kept : (s tail : List ℕ) (at : ℕ) → tail ≡ drop at s
    → starts_with nat_eq tail crlf ≡ false → begins_white tail ≡ false
    → without_crlf (drop at s) ≡ without_crlf s
    → without_crlf (drop at s) ≡ without_first_white (without_crlf s)
black_kept s tail at e h w passed =
    ap without_crlf (sym e) ∙ black_front tail h w
    ∙ ap (λ x. without_first_white (without_crlf x)) e ∙ ap without_first_white passed
