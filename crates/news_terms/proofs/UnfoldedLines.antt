-- Of a content of an article no CR and no LF is left once it is unfolded.
use Rattle.std.proofs.Common.{◌≡◌, ◌≢◌, ℕ, List, [], ◌∷◌, ◌++◌, refl, subst, inl, inr, arith}
use Rattle.std.specs.Prelude.{◌==◌, IsTrue, IsFalse, flat_map}
use Rattle.std.specs.List.{list_any, AllByRecursion}
use Rattle.std.specs.Str.{byte}
use Rattle.std.proofs.lemmas.Bool.{and_parts, or_parts, cases_Bool, cases_eq, eq-eqb, ne_eqb}
use Rattle.news_terms.specs.Lines.{crlf}
use Rattle.news_terms.specs.Article.{Field, Article, field_text, carriage_return, line_feed}
use Rattle.news_terms.specs.Article.{is_white, is_of_line_end, is_paired_after, IsLaidOut}
use Rattle.news_terms.specs.Article.{without_crlf, without_first_white, unfolded}
use Rattle.news_terms.proofs.ArticleReadings.{header_parts}
use Rattle.news_terms.proofs.HeaderLines.{paired-tail, no_line_feed, then_line_feed}

-- a text without CR and LF
abbrev pub IsOneLine : List ℕ → Type 0
IsOneLine text = IsFalse (list_any is_of_line_end text)

-- an octet of no line end stays in front
pub kept_first : (c : ℕ) (text : List ℕ) → IsFalse (is_of_line_end c)
    → without_crlf (c ∷ text) ≡ c ∷ without_crlf text
kept_first c [] h = refl
kept_first c (next ∷ text) h = rw (or_parts (c == carriage_return) (c == line_feed) h).0 refl

-- an octet that is neither is of no line end
of_no_end : (c : ℕ) → c ≢ carriage_return → c ≢ line_feed → IsFalse (is_of_line_end c)
of_no_end c no_cr no_lf = rw (ne_eqb c carriage_return no_cr, ne_eqb c line_feed no_lf) refl

-- a pair is left out
pair_first : (c next : ℕ) (text : List ℕ) → c ≡ carriage_return → next ≡ line_feed
    → without_crlf (c ∷ next ∷ text) ≡ without_crlf text
pair_first c next text e f =
    rw (eq-eqb c carriage_return e, eq-eqb next line_feed f) refl

-- what stands in pairs before a CRLF has no line end without them
pub pairs_left_out : (content rest : List ℕ) (before : ℕ) → before ≢ carriage_return
    → IsTrue (is_paired_after before (content ++ carriage_return ∷ line_feed ∷ rest))
    → IsOneLine (without_crlf content)
pairs_left_out [] rest before no_cr h = refl
pairs_left_out (c ∷ []) rest before no_cr h =
    let no_lf = no_line_feed before c (carriage_return ∷ line_feed ∷ rest) no_cr h in
    let behind = (and_parts _ _ h).1 in
    let is_no_cr : c ≢ carriage_return =
    λ e. let lf : carriage_return ≡ line_feed =
    then_line_feed c carriage_return (line_feed ∷ rest) e behind in
    omega (arith, lf) in
    rw (of_no_end c is_no_cr no_lf) refl
pairs_left_out (c ∷ next ∷ content) rest before no_cr h =
    let tail = content ++ carriage_return ∷ line_feed ∷ rest in
    let no_lf = no_line_feed before c (next ∷ tail) no_cr h in
    let behind = (and_parts _ _ h).1 in
    elim (cases_eq c carriage_return) [
      | inl e ↦
          let f = then_line_feed c next tail e behind in
          let is_lf_no_cr : next ≢ carriage_return = λ g. omega (arith, f, g) in
          rw (pair_first c next content e f)
          (pairs_left_out content rest next is_lf_no_cr (and_parts _ _ behind).1)
      | inr n ↦
          rw (kept_first c (next ∷ content) (of_no_end c n no_lf), of_no_end c n no_lf)
          (pairs_left_out (next ∷ content) rest c n behind)
    ]

-- nor where a first white octet is dropped
first_left_out : (text : List ℕ) → IsOneLine text → IsOneLine (without_first_white text)
first_left_out [] h = refl
first_left_out (c ∷ text) h =
    let parts = or_parts (is_of_line_end c) (list_any is_of_line_end text) h in
    elim (cases_Bool (is_white c)) [
      | inl y ↦ rw y parts.1
      | inr n ↦ rw n h
    ]

-- so it is of each field of a header
fields_unfold : (fields : List Field) (body : List ℕ) (before : ℕ)
    → IsTrue (is_paired_after before (flat_map field_text fields ++ crlf ++ body))
    → AllByRecursion (λ f. IsOneLine (unfolded f.content)) fields
fields_unfold [] body before h = tt
fields_unfold (f ∷ fields) body before h =
    let rest = flat_map field_text fields ++ crlf ++ body in
    let whole = subst (λ (x : List ℕ). IsTrue (is_paired_after before x))
    (header_parts f fields body) h in
    let inside = paired-tail before (byte ":") f.name
    (f.content ++ carriage_return ∷ line_feed ∷ rest) whole in
    let behind = paired-tail carriage_return line_feed [] rest
    (paired-tail (byte ":") carriage_return f.content (line_feed ∷ rest) inside) in (
      first_left_out (without_crlf f.content)
          (pairs_left_out f.content rest (byte ":") (λ e. omega (arith, e)) inside),
      fields_unfold fields body line_feed behind,
    )

-- and of an article
pub laid_out_unfolds : (text : List ℕ) (a : Article) → IsLaidOut text a
    → AllByRecursion (λ f. IsOneLine (unfolded f.content)) a.fields
laid_out_unfolds text a h =
    fields_unfold a.fields a.body 0
    (subst (λ (x : List ℕ). IsTrue (is_paired_after 0 x)) h.spelled h.paired)
