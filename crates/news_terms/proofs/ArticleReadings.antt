-- A text is laid out as one article at most.
use Rattle.std.proofs.Common.{◌≡◌, ℕ, ◌<◌, not, List, [], ◌∷◌, ◌++◌, refl, sym, ap, subst, ◌∙◌, inl}
use Rattle.std.proofs.Common.{inr, append_assoc, arith}
use Rattle.std.specs.Prelude.{◌==◌, IsTrue, IsFalse, flat_map}
use Rattle.std.specs.List.{AllByRecursion, list_all}
use Rattle.std.specs.Char.{is_ascii_graphic}
use Rattle.std.proofs.lemmas.Bool.{and_parts, or_cases, eqb-false, both_ways, not-true, leb-true}
use Rattle.std.proofs.lemmas.Bool.{or_from, ne_eqb}
use Rattle.std.specs.Str.{byte}
use Rattle.news_terms.specs.Article.{Field, Article, field_text, line_feed, space, tab}
use Rattle.news_terms.specs.Lines.{crlf}
use Rattle.news_terms.specs.Article.{carriage_return, is_white, is_folded, is_name_octet}
use Rattle.news_terms.specs.Article.{is_field_name, IsField, IsLaidOut, continues_field}

-- a folded content goes on being folded behind its first octet
pub is_folded-tail : (c : ℕ) (rest : List ℕ) → IsTrue (is_folded (c ∷ rest))
    → IsTrue (is_folded rest)
is_folded-tail c [] h = refl
is_folded-tail c (d ∷ rest) h = (and_parts _ _ h).1

-- an LF in a folded content has an SP or TAB behind it
pub white_behind : (c d : ℕ) (rest : List ℕ) → IsTrue (is_folded (c ∷ d ∷ rest)) → c ≡ line_feed
    → IsTrue (is_white d)
white_behind c d rest h e =
    elim (or_cases _ _ (and_parts _ _ h).0) [
      | inl n ↦ absurd (eqb-false c line_feed (not-true _ n) e)
      | inr w ↦ w
    ]

-- a folded content does not end with LF
pub no_end : (c : ℕ) → IsTrue (is_folded (c ∷ [])) → c ≡ line_feed → ⊥
no_end c h e = eqb-false c line_feed (not-true _ h) e

-- a folded content, and the CRLF that ends it, do not begin with the CRLF that ends a field
no_content : (content after more : List ℕ)
    → IsTrue (is_folded content) → IsFalse (continues_field after)
    → carriage_return ∷ line_feed ∷ after ≡ content ++ carriage_return ∷ line_feed ∷ more
    → (content ≡ []) × (after ≡ more)
no_content [] after more folded ends e = (refl, cc)
no_content (c ∷ []) after more folded ends e =
    let same : line_feed ≡ carriage_return = cc in absurd (omega arith)
no_content (c ∷ d ∷ []) after more folded ends e =
    absurd (no_end d (is_folded-tail c (d ∷ []) folded) cc)
no_content (c ∷ d ∷ g ∷ rest) after more folded ends e =
    let white = white_behind d g rest (is_folded-tail c (d ∷ g ∷ rest) folded) cc in
    let begins : after ≡ g ∷ (rest ++ carriage_return ∷ line_feed ∷ more) = cc in
    absurd (both_ways _ (subst (λ x. IsFalse (continues_field x)) begins ends) white)

-- two folded contents, each ended by a CRLF behind which the field does not go on, are the same
one_content : (x y after more : List ℕ)
    → IsTrue (is_folded x) → IsTrue (is_folded y)
    → IsFalse (continues_field after) → IsFalse (continues_field more)
    → x ++ carriage_return ∷ line_feed ∷ after ≡ y ++ carriage_return ∷ line_feed ∷ more
    → (x ≡ y) × (after ≡ more)
one_content [] y after more fx fy ends ends' e =
    let n = no_content y after more fy ends e in (sym n.0, n.1)
one_content (c ∷ x) [] after more fx fy ends ends' e =
    let n = no_content (c ∷ x) more after fx ends' (sym e) in (n.0, sym n.1)
one_content (c ∷ x) (d ∷ y) after more fx fy ends ends' e =
    let tails : x ++ carriage_return ∷ line_feed ∷ after
    ≡ y ++ carriage_return ∷ line_feed ∷ more = cc in
    let n = one_content x y after more (is_folded-tail c x fx)
    (is_folded-tail d y fy) ends ends' tails in
    (cc, n.1)

-- an octet of a name is no colon
pub no_colon : (c : ℕ) → IsTrue (is_name_octet c) → c ≡ byte ":" → ⊥
no_colon c h e = eqb-false c (byte ":") (not-true _ (and_parts _ _ h).1) e

-- two names, each ended by its first colon, are the same
one_name : (x y after more : List ℕ)
    → IsTrue (list_all is_name_octet x) → IsTrue (list_all is_name_octet y)
    → x ++ byte ":" ∷ after ≡ y ++ byte ":" ∷ more
    → (x ≡ y) × (after ≡ more)
one_name [] [] after more nx ny e = (refl, cc)
one_name [] (d ∷ y) after more nx ny e = absurd (no_colon d (and_parts _ _ ny).0 cc)
one_name (c ∷ x) [] after more nx ny e = absurd (no_colon c (and_parts _ _ nx).0 cc)
one_name (c ∷ x) (d ∷ y) after more nx ny e =
    let tails : x ++ byte ":" ∷ after ≡ y ++ byte ":" ∷ more = cc in
    let nx' = (and_parts (is_name_octet c) (list_all is_name_octet x) nx).1 in
    let ny' = (and_parts (is_name_octet d) (list_all is_name_octet y) ny).1 in
    let n = one_name x y after more nx' ny' tails in
    (cc, n.1)

-- a header that begins with a field: its name, the colon, its content, CRLF and the rest
pub header_parts : (f : Field) (fields : List Field) (body : List ℕ)
    → flat_map field_text (f ∷ fields) ++ crlf ++ body
    ≡ f.name ++ byte ":" ∷ (f.content ++ carriage_return ∷ line_feed
    ∷ (flat_map field_text fields ++ crlf ++ body))
header_parts f fields body =
    let others = flat_map field_text fields in
    ap (λ x. x ++ body) (append_assoc (field_text f) others crlf)
    ∙ append_assoc (field_text f) (others ++ crlf) body
    ∙ append_assoc (f.name ++ byte ":" ∷ f.content) crlf (others ++ crlf ++ body)
    ∙ append_assoc f.name (byte ":" ∷ f.content) (crlf ++ (others ++ crlf ++ body))

-- a name begins with no white space, and not with CR
name_begins : (name rest : List ℕ) → IsTrue (is_field_name name)
    → (c : ℕ) × (more : List ℕ) × (name ++ rest ≡ c ∷ more) × IsTrue (is_ascii_graphic c)
name_begins [] rest h = absurd (both_ways _ refl h)
name_begins (c ∷ name) rest h =
    let all = and_parts (is_name_octet c) (list_all is_name_octet name) h in
    (c, name ++ rest, refl, (and_parts (is_ascii_graphic c) (not (c == byte ":")) all.0).0)

-- a printable octet is above the SP
pub graphic_above : (c : ℕ) → IsTrue (is_ascii_graphic c) → space < c
graphic_above c h = leb-true 33 c (and_parts _ _ h).0

-- and so is neither white space nor of a line end
graphic_not_white : (c : ℕ) → IsTrue (is_ascii_graphic c) → IsFalse (is_white c)
graphic_not_white c h =
    let above : space < c = graphic_above c h in
    let no_space : c ≡ space → ⊥ = λ e. omega (arith, e, above) in
    let no_tab : c ≡ tab → ⊥ = λ e. omega (arith, e, above) in
    or_from _ _ (ne_eqb c space no_space) (ne_eqb c tab no_tab)

-- behind a field stands what does not continue it: the next one's name, or the empty line
ends_field : (fields : List Field) (body : List ℕ) → AllByRecursion IsField fields
    → IsFalse (continues_field (flat_map field_text fields ++ crlf ++ body))
ends_field [] body h = refl
ends_field (f ∷ fields) body h =
    let begun = name_begins f.name (byte ":" ∷ (f.content ++ carriage_return ∷ line_feed
    ∷ (flat_map field_text fields ++ crlf ++ body))) h.0.named in
    subst (λ (x : List ℕ). IsFalse (continues_field x)) (sym (header_parts f fields body ∙ begun.2))
    (graphic_not_white begun.0 begun.3)

-- a header that begins with a field does not begin with the empty line
no_field : (f : Field) (fields : List Field) (b c : List ℕ) → IsField f
    → crlf ++ b ≡ flat_map field_text (f ∷ fields) ++ crlf ++ c → ⊥
no_field f fields b c h e =
    let begun = name_begins f.name (byte ":" ∷ (f.content ++ carriage_return ∷ line_feed
    ∷ (flat_map field_text fields ++ crlf ++ c))) h.named in
    let whole : crlf ++ b ≡ begun.0 ∷ begun.1 = e ∙ header_parts f fields c ∙ begun.2 in
    let same : carriage_return ≡ begun.0 = cc in
    let above = graphic_above begun.0 begun.3 in
    omega (arith, same, above)

-- two headers, each with a body behind its empty line, are the same
one_header : (fs gs : List Field) (b c : List ℕ)
    → AllByRecursion IsField fs → AllByRecursion IsField gs
    → flat_map field_text fs ++ crlf ++ b ≡ flat_map field_text gs ++ crlf ++ c
    → (fs ≡ gs) × (b ≡ c)
one_header [] [] b c hf hg e = (refl, cc)
one_header [] (g ∷ gs) b c hf hg e = absurd (no_field g gs b c hg.0 e)
one_header (f ∷ fs) [] b c hf hg e = absurd (no_field f fs c b hf.0 (sym e))
one_header (f ∷ fs) (g ∷ gs) b c hf hg e =
    let whole = sym (header_parts f fs b) ∙ e ∙ header_parts g gs c in
    let names = one_name f.name g.name _ _ (and_parts _ _ hf.0.named).1
    (and_parts _ _ hg.0.named).1 whole in
    let contents = one_content f.content g.content _ _ hf.0.folded hg.0.folded
    (ends_field fs b hf.1) (ends_field gs c hg.1) names.1 in
    let others = one_header fs gs b c hf.1 hg.1 contents.1 in
    ((λ i. record { name = names.0 i; content = contents.0 i } ∷ others.0 i), others.1)

-- a text is laid out as one article at most
pub one_article : (text : List ℕ) (a b : Article) → IsLaidOut text a → IsLaidOut text b → a ≡ b
one_article text a b ha hb =
    let one = one_header a.fields b.fields a.body b.body ha.each_field hb.each_field
    (sym ha.spelled ∙ hb.spelled) in
    λ i. record { fields = one.0 i; body = one.1 i }
