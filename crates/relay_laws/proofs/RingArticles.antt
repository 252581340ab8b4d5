-- What is known beforehand of the events of the row `ring`: its three articles.
use Rattle.std.proofs.Common.{ℕ, List, [], ◌∷◌, refl}
use Rattle.std.specs.Fmt.{digits}
use Rattle.std.specs.Str.{byte}
use Rattle.news_terms.specs.Article.{worked_article}
use Rattle.relay_model.specs.World.{empty_world}
use Rattle.relay_laws.specs.Rows as rows
use Rattle.relay_laws.specs.Terms.{k1}
use Rattle.relay_laws.proofs.Articles.{article_1_is, article_2_is, article_3_is}
use Rattle.relay_laws.proofs.Dues.{Hint, NoHint, ReadsAs}
use Rattle.relay_laws.proofs.Playing.{Knows}

-- which event reads which article
abbrev pub ring_hints : List Hint
ring_hints =
    NoHint ∷ NoHint ∷ NoHint ∷ NoHint ∷ NoHint ∷ NoHint
    ∷ ReadsAs (worked_article (byte "1") 1) ∷ NoHint ∷ NoHint ∷ NoHint ∷ NoHint ∷ NoHint
    ∷ NoHint ∷ NoHint ∷ NoHint ∷ NoHint ∷ ReadsAs (worked_article (byte "2") 1) ∷ NoHint
    ∷ NoHint ∷ NoHint ∷ NoHint ∷ NoHint ∷ NoHint ∷ NoHint ∷ NoHint ∷ NoHint
    ∷ ReadsAs (worked_article (byte "3") 1) ∷ []

-- they are articles
pub ring_known : (failures : ℕ → ℕ) → Knows k1 (empty_world failures) ring_hints rows.ring
unfolding digits
ring_known failures = (
  article_1_is,
  (
    refl,
    (
      refl,
      (
        refl,
        (
          refl,
          (
            refl,
            (
              article_2_is,
              (
                refl,
                (
                  refl,
                  (
                    refl,
                    (
                      refl,
                      (
                        refl,
                        (
                          article_3_is,
                          (
                            refl,
                            (
                              refl,
                              (
                                refl,
                                (refl, (refl, tt)),
                              ),
                            ),
                          ),
                        ),
                      ),
                    ),
                  ),
                ),
              ),
            ),
          ),
        ),
      ),
    ),
  ),
)
