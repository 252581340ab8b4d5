-- The room that the reply with an overview line takes.
use Rattle.std.proofs.Common.{◌≡◌, ℕ, ◌+◌, ◌<◌, ◌≤◌, ◌^◌, List, ◌++◌, length, ap, ◌∙◌, arith}
use Rattle.std.proofs.Common.{⊎_elim, Bool, Err, Result, true, false, codes, drop, refl, sym}
use Rattle.std.proofs.Math.Seq.{drop-append_seam}
use Rattle.std.proofs.lemmas.Bool.{cases_lt}
use Rattle.std.proofs.lemmas.Bool.Decides.{not_from_Decides}
use Rattle.std.proofs.lemmas.List.{append_assoc, length-append}
use Rattle.std.proofs.lemmas.Slice.Eq.{bytes_eq-Decides}
use Rattle.std.specs.Str.{bytes_eq}
use Rattle.news_terms.specs.Article.{Article, IsLaidOut, article_text}
use Rattle.news_terms.specs.Overview.{overview_line}
use Rattle.news_terms.specs.Lines.{crlf}
use Rattle.news_terms.specs.Reply.{OverviewFollows, line_of, reply_text}
use Rattle.article_fetch.proofs.Rooms.{line_within}
use Rattle.article_fetch.specs.declared.overview.PutError.{PutError}
use Rattle.article_fetch.specs.declared.overview.PutError.TheVariants as errors

-- the octets in front of a line, and the line
line_fits : (front after text : List ℕ) (a : Article) → IsLaidOut text a → length text < 2 ^ 64
    → after ≡ front ++ overview_line a → length after ≤ length front + length text + 48
line_fits front after text a laid small e =
    let same : length text ≡ length (article_text a) = ap length laid.spelled in
    let within = line_within a (omega (arith, small, same)) in
    omega (arith, same, within, ap length e ∙ length-append front (overview_line a))

-- what follows the line has room too: else no text could be laid out as an article
pub rest_fits : (front after text : List ℕ) (capacity : ℕ) → length text < 2 ^ 64
    → length front + length text + 53 ≤ capacity
    → ((a : Article) → IsLaidOut text a → after ≡ front ++ overview_line a)
    → (((a : Article) → IsLaidOut text a → ⊥) → ⊥)
    → length after + 5 ≤ capacity
rest_fits front after text capacity small room line some = ⊎_elim
    (λ short. absurd (some (λ a laid.
    let fits = line_fits front after text a laid small (line a laid) in
    absurd (omega (arith, fits, short, room)))))
    (λ enough. enough)
    (cases_lt capacity (length after + 5))

-- what was put behind the octets in front is a line, since some text could be laid out
pub some_line : (front after text : List ℕ)
    → ((a : Article) → IsLaidOut text a → after ≡ front ++ overview_line a)
    → (((a : Article) → IsLaidOut text a → ⊥) → ⊥) → after ≡ front ++ drop (length front) after
some_line front after text line some = by (bytes_eq after other) refl
  where
    other : List ℕ
    other = front ++ drop (length front) after

    here : (a : Article) → IsLaidOut text a → after ≡ other
    here a laid =
        line a laid
        ∙ ap (λ l. front ++ l) (sym (ap (drop (length front)) (line a laid)
        ∙ drop-append_seam front (overview_line a)))

    by : (b : Bool) → bytes_eq after other ≡ b → after ≡ other
    by true e = (bytes_eq-Decides after other).0 e
    by false e = absurd (some (λ a laid.
        not_from_Decides (bytes_eq after other) (bytes_eq-Decides after other) e (here a laid)))

-- the octets of the reply with a line
pub line_said : (front line after said : List ℕ) → front ≡ line_of (codes "224 Overview follows")
    → after ≡ front ++ line → said ≡ after ++ (crlf ++ line_of (codes "."))
    → said ≡ reply_text (OverviewFollows line)
line_said front line after said begins put ends =
    let first = line_of (codes "224 Overview follows") in
    let last = line_of (codes ".") in
    ends
    ∙ ap (λ l. l ++ (crlf ++ last)) (put ∙ ap (λ f. f ++ line) begins)
    ∙ append_assoc first line (crlf ++ last)
    ∙ ap (λ l. first ++ l) (sym (append_assoc line crlf last))

-- of two errors the other can't be
pub no_article_in : {P T : Type 0} (result : Result T PutError) (error : PutError)
    → result ≡ Err error → (result ≡ Err errors.NoArticle → P) → (result ≡ Err errors.NoRoom → ⊥)
    → P
no_article_in result errors.NoArticle is says room = says is
no_article_in result errors.NoRoom is says room = absurd (room is)
