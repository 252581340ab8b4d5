-- The update of an article is an article.
use Rattle.std.proofs.Common.{◌≡◌, ℕ, not, ◌&&◌, List, [], ◌∷◌}
use Rattle.std.proofs.Common.{◌++◌, map, reverse, length, codes, refl, sym, ap, subst, ◌∙◌, inl}
use Rattle.std.proofs.Common.{inr, append_assoc, arith}
use Rattle.std.specs.Prelude.{◌==◌, IsTrue, IsFalse, flat_map, unwrap_or, slice_get}
use Rattle.std.specs.List.{list_all, list_any, AllByRecursion}
use Rattle.std.specs.Char.{is_ascii_graphic}
use Rattle.std.specs.Str.{byte, str_eq_ignore_ascii_case}
use Rattle.std.proofs.lemmas.Bool.{and_parts, and_from, or_from, or_parts}
use Rattle.std.proofs.lemmas.Bool.{both_ways, cases_Bool}
use Rattle.std.proofs.lemmas.List.{reverse-append, length-map}
use Rattle.news_terms.specs.MessageId.{IsMessageId}
use Rattle.news_terms.specs.Article.{Field, Article, FieldName, Date, From, MessageId, Newsgroups}
use Rattle.news_terms.specs.Article.{Path, Subject, InjectionDate, field_text, article_text}
use Rattle.news_terms.specs.Article.{contents_of, name_of, space, carriage_return}
use Rattle.news_terms.specs.Lines.{crlf}
use Rattle.news_terms.specs.Article.{line_feed, is_white, is_of_line_end, is_empty}
use Rattle.news_terms.specs.Article.{is_paired_after, has_nul, IsField, IsArticleText}
use Rattle.news_terms.specs.Article.{StandsRightly, is_newsgroup_name, newsgroups_in, trimmed}
use Rattle.news_terms.specs.Article.{without_leading_white, without_outer_white, without_crlf}
use Rattle.news_terms.proofs.UnfoldedLines.{kept_first}
use Rattle.news_terms.specs.Path.{is_agent, is_identity}
use Rattle.news_terms.specs.Path.{path_prefix, without_leading_folding, updated_content}
use Rattle.news_terms.specs.Path.{updated_field, updated_article}
use Rattle.news_terms.proofs.ArticleReadings.{header_parts}
use Rattle.news_terms.proofs.HeaderLines.{paired-tail}
use Rattle.news_terms.proofs.PathUpdates.{all_agent, agent_octet, updated_begins, updated-contents}
use Rattle.news_terms.proofs.UpdatedTexts.{is_plain, prefix_plain, paired_plain}
use Rattle.news_terms.proofs.UpdatedTexts.{paired_swap, paired_stripped, folded_cons}
use Rattle.news_terms.proofs.UpdatedTexts.{folded_plain, folded_stripped, nul_plain, nul_stripped}
use Rattle.news_terms.proofs.UpdatedTexts.{nul_both, nul_parts}

-- THE FIELDS

-- what is asked of the two identities: of the source no more than the octets, for it may be empty
record Agents (own expected : List ℕ) : Type 0 where
  own_agent : IsTrue (is_agent own)
  expected_octets : IsTrue (all_agent expected)

-- the octets of what stands before a received Path
prefix_of : (own expected content : List ℕ) → Agents own expected
    → IsTrue (is_plain (path_prefix own expected content))
prefix_of own expected content h =
    prefix_plain own expected content (and_parts (is_identity own) (all_agent own) h.own_agent).1
    h.expected_octets

-- a field of the update may stand in a header
updated-is_field : (own expected : List ℕ) (f : Field) → Agents own expected → IsField f
    → IsField (updated_field own expected f)
updated-is_field own expected f agents h =
    elim (cases_Bool (str_eq_ignore_ascii_case f.name (codes "Path"))) [
      | inl y ↦ rw y (record {
        named = h.named;
        set_off = refl;
        folded = folded_cons space (updated_content own expected f.content) (λ e. omega (arith, e))
            (folded_plain (path_prefix own expected f.content) (without_leading_folding f.content)
            (prefix_of own expected f.content agents) (folded_stripped f.content h.folded));
      })
      | inr n ↦ rw n h
    ]

-- all of them may
updated-are_fields : (own expected : List ℕ) (fields : List Field) → Agents own expected
    → AllByRecursion IsField fields
    → AllByRecursion IsField (map (updated_field own expected) fields)
updated-are_fields own expected [] agents h = tt
updated-are_fields own expected (f ∷ fields) agents h =
    (updated-is_field own expected f agents h.0, updated-are_fields own expected fields agents h.1)

-- a content of the update has no octet 0 where the received one has none
nul_content : (own expected content : List ℕ) → Agents own expected → IsFalse (has_nul content)
    → IsFalse (has_nul (space ∷ updated_content own expected content))
nul_content own expected content agents h =
    nul_both (path_prefix own expected content) (without_leading_folding content)
    (nul_plain (path_prefix own expected content) (prefix_of own expected content agents))
    (nul_stripped content h)

-- nor has a header with its body
updated-nul : (own expected : List ℕ) (fields : List Field) (body : List ℕ) → Agents own expected
    → IsFalse (has_nul (flat_map field_text fields ++ crlf ++ body))
    → IsFalse (has_nul (flat_map field_text (map (updated_field own expected) fields) ++ crlf
    ++ body))
updated-nul own expected [] body agents h = h
updated-nul own expected (f ∷ fields) body agents h =
    let new = updated_field own expected f in
    let rest = flat_map field_text fields ++ crlf ++ body in
    let news = map (updated_field own expected) fields in
    let whole = subst (λ (x : List ℕ). IsFalse (has_nul x)) (header_parts f fields body) h in
    let named = nul_parts f.name
    (byte ":" ∷ (f.content ++ carriage_return ∷ line_feed ∷ rest)) whole in
    let inside = nul_parts f.content (carriage_return ∷ line_feed ∷ rest) named.1 in
    let later = updated-nul own expected fields body agents inside.1 in
    let join : (content : List ℕ) → IsFalse (has_nul content)
    → IsFalse (has_nul (f.name
    ++ byte ":" ∷ (content
    ++ carriage_return ∷ line_feed ∷ (flat_map field_text news ++ crlf ++ body)))) =
    λ content k. nul_both f.name
    (byte ":" ∷ (content
    ++ carriage_return ∷ line_feed
    ∷ (flat_map field_text news ++ crlf ++ body))) named.0
    (nul_both content (carriage_return ∷ line_feed
    ∷ (flat_map field_text news ++ crlf ++ body)) k later) in
    subst (λ (x : List ℕ). IsFalse (has_nul x)) (sym (header_parts new news body))
    (elim (cases_Bool (str_eq_ignore_ascii_case f.name (codes "Path"))) [
      | inl y ↦ rw y (join (space ∷ updated_content own expected f.content)
          (nul_content own expected f.content agents inside.0))
      | inr n ↦ rw n (join f.content inside.0)
    ])

-- its line ends are in pairs where the received ones are
updated-paired : (own expected : List ℕ) (fields : List Field) (body : List ℕ) (b : ℕ)
    → Agents own expected
    → IsTrue (is_paired_after b (flat_map field_text fields ++ crlf ++ body))
    → IsTrue (is_paired_after b
    (flat_map field_text (map (updated_field own expected) fields) ++ crlf ++ body))
updated-paired own expected [] body b agents h = h
updated-paired own expected (f ∷ fields) body b agents h =
    let new = updated_field own expected f in
    let news = map (updated_field own expected) fields in
    let rest = flat_map field_text fields ++ crlf ++ body in
    let more = flat_map field_text news ++ crlf ++ body in
    let whole = subst (λ (x : List ℕ). IsTrue (is_paired_after b x))
    (header_parts f fields body) h in
    let inside = paired-tail b (byte ":") f.name
    (f.content ++ carriage_return ∷ line_feed ∷ rest) whole in
    let behind = paired-tail carriage_return line_feed [] rest
    (paired-tail (byte ":") carriage_return f.content (line_feed ∷ rest) inside) in
    let later : IsTrue (is_paired_after line_feed more) =
    updated-paired own expected fields body line_feed agents behind in
    let kept : IsTrue (is_paired_after (byte ":")
    (f.content ++ carriage_return ∷ line_feed ∷ more)) =
    paired_swap f.content (line_feed ∷ rest) (line_feed ∷ more) carriage_return (byte ":") inside
    (and_from _ _ refl later) in
    let join : (content : List ℕ)
    → IsTrue (is_paired_after (byte ":") (content ++ carriage_return ∷ line_feed ∷ more))
    → IsTrue (is_paired_after b
    (f.name ++ byte ":" ∷ (content ++ carriage_return ∷ line_feed ∷ more))) =
    λ content k. paired_swap f.name (f.content ++ carriage_return ∷ line_feed ∷ rest)
    (content ++ carriage_return ∷ line_feed ∷ more) (byte ":") b whole k in
    let prefix = path_prefix own expected f.content in
    let stripped = without_leading_folding f.content in
    let changed : IsTrue (is_paired_after (byte ":")
    ((space ∷ prefix) ++ (stripped ++ carriage_return ∷ line_feed ∷ more))) =
    paired_plain (space ∷ prefix) (stripped ++ carriage_return ∷ line_feed ∷ more)
    (prefix_of own expected f.content agents)
    (λ d no_cr. paired_stripped f.content more (byte ":") d kept later no_cr)
    (byte ":") (λ e. omega (arith, e)) in
    subst (λ (x : List ℕ). IsTrue (is_paired_after b x)) (sym (header_parts new news body))
    (elim (cases_Bool (str_eq_ignore_ascii_case f.name (codes "Path"))) [
      | inl y ↦ rw y (join (space ∷ updated_content own expected f.content)
          (subst (λ (x : List ℕ). IsTrue (is_paired_after (byte ":") (space ∷ x)))
          (sym (append_assoc prefix stripped (carriage_return ∷ line_feed ∷ more))) changed))
      | inr n ↦ rw n (join f.content kept)
    ])

-- WHAT IS ASKED OF THEM

-- the contents of Path after the update
path_contents : (own expected : List ℕ) (fields : List Field)
    → contents_of (name_of Path) (map (updated_field own expected) fields)
    ≡ map (λ content. space ∷ updated_content own expected content)
    (contents_of (name_of Path) fields)
path_contents own expected [] = refl
path_contents own expected (f ∷ fields) =
    let rest = path_contents own expected fields in
    elim (cases_Bool (str_eq_ignore_ascii_case f.name (codes "Path"))) [
      | inl y ↦ rw y (rw y (ap (λ x. (space ∷ updated_content own expected f.content) ∷ x) rest))
      | inr n ↦ rw n (rw n rest)
    ]

-- a text before an octet that is not white has something in it without its leading white space
keeps_last : (text : List ℕ) (c : ℕ) → IsFalse (is_white c)
    → (d : ℕ) × (rest : List ℕ) × (without_leading_white (text ++ c ∷ []) ≡ d ∷ rest)
keeps_last [] c h = (c, [], rw h refl)
keeps_last (d ∷ text) c h =
    elim (cases_Bool (is_white d)) [
      | inl y ↦ let r = keeps_last text c h in (r.0, r.1, rw y r.2)
      | inr n ↦ (d, text ++ c ∷ [], rw n refl)
    ]

-- a text with an octet at its end is not empty
not_empty : (text : List ℕ) (c : ℕ) → IsFalse (is_empty (text ++ c ∷ []))
not_empty [] c = refl
not_empty (d ∷ text) c = refl

-- nor is one in the other order
not_empty-reverse : (text : List ℕ) (c : ℕ) → IsFalse (is_empty (reverse (c ∷ text)))
not_empty-reverse text c =
    subst (λ (x : List ℕ). IsFalse (is_empty x)) (sym (reverse-append (c ∷ []) text))
    (not_empty (reverse text) c)

-- a text that begins with what is no white space is not empty without its white space
filled_trim : (c : ℕ) (text : List ℕ) → IsFalse (is_white c)
    → IsFalse (is_empty (without_outer_white (c ∷ text)))
filled_trim c text h =
    let kept = keeps_last (reverse text) c h in
    let back : without_leading_white (reverse (c ∷ text)) ≡ kept.0 ∷ kept.1 =
    ap without_leading_white (reverse-append (c ∷ []) text) ∙ kept.2 in
    rw h (subst (λ (x : List ℕ). IsFalse (is_empty (reverse x))) (sym back)
    (not_empty-reverse kept.1 kept.0))

-- behind an SP, a text that begins with an identity is not empty
filled_agent : (own more : List ℕ) → IsTrue (is_agent own)
    → IsFalse (is_empty (trimmed (space ∷ (own ++ more))))
filled_agent [] more h = absurd (both_ways _ refl h)
filled_agent (c ∷ own) more h =
    let all = (and_parts (is_identity (c ∷ own)) (all_agent (c ∷ own)) h).1 in
    let octet = agent_octet c
    (and_parts (is_ascii_graphic c && not (c == byte "!")) (all_agent own) all).0 in
    let parts = or_parts (is_white c) (is_of_line_end c) octet.1 in
    rw (kept_first c (own ++ more) parts.1)
    (filled_trim c (without_crlf (own ++ more)) parts.0)

-- the new Path is not empty
filled_path : (own expected content : List ℕ) → IsTrue (is_agent own)
    → IsFalse (is_empty (trimmed (space ∷ updated_content own expected content)))
filled_path own expected content h =
    let begun = updated_begins own expected content in
    subst (λ (x : List ℕ). IsFalse (is_empty (trimmed (space ∷ x)))) (sym begun.1)
    (filled_agent own (byte "!" ∷ begun.0) h)

-- none of the new Paths is
filled_paths : (own expected : List ℕ) (contents : List (List ℕ)) → IsTrue (is_agent own)
    → IsFalse (list_any (λ c. is_empty (trimmed c))
    (map (λ content. space ∷ updated_content own expected content) contents))
filled_paths own expected [] h = refl
filled_paths own expected (c ∷ contents) h =
    or_from _ _ (filled_path own expected c h) (filled_paths own expected contents h)

-- a field stands as often in the update
updated-often : (own expected : List ℕ) (fields : List Field) (name : FieldName)
    → length (contents_of (name_of name) (map (updated_field own expected) fields))
    ≡ length (contents_of (name_of name) fields)
updated-often own expected fields Date =
    ap length (updated-contents own expected (name_of Date) fields refl)
updated-often own expected fields From =
    ap length (updated-contents own expected (name_of From) fields refl)
updated-often own expected fields MessageId =
    ap length (updated-contents own expected (name_of MessageId) fields refl)
updated-often own expected fields Newsgroups =
    ap length (updated-contents own expected (name_of Newsgroups) fields refl)
updated-often own expected fields Path =
    ap length (path_contents own expected fields)
    ∙ length-map (contents_of (name_of Path) fields)
    (λ content. space ∷ updated_content own expected content)
updated-often own expected fields Subject =
    ap length (updated-contents own expected (name_of Subject) fields refl)
updated-often own expected fields InjectionDate =
    ap length (updated-contents own expected (name_of InjectionDate) fields refl)

-- the contents of one name are all filled
abbrev AreFilled : List (List ℕ) → Type 0
AreFilled contents = IsFalse (list_any (λ c. is_empty (trimmed c)) contents)

-- and is as filled
updated-filled : (own expected : List ℕ) (fields : List Field) (name : FieldName)
    → IsTrue (is_agent own)
    → AreFilled (contents_of (name_of name) fields)
    → AreFilled (contents_of (name_of name) (map (updated_field own expected) fields))
updated-filled own expected fields Date h k =
    subst AreFilled (sym (updated-contents own expected (name_of Date) fields refl)) k
updated-filled own expected fields From h k =
    subst AreFilled (sym (updated-contents own expected (name_of From) fields refl)) k
updated-filled own expected fields MessageId h k =
    subst AreFilled (sym (updated-contents own expected (name_of MessageId) fields refl)) k
updated-filled own expected fields Newsgroups h k =
    subst AreFilled (sym (updated-contents own expected (name_of Newsgroups) fields refl)) k
updated-filled own expected fields Path h k =
    subst AreFilled (sym (path_contents own expected fields))
    (filled_paths own expected (contents_of (name_of Path) fields) h)
updated-filled own expected fields Subject h k =
    subst AreFilled (sym (updated-contents own expected (name_of Subject) fields refl)) k
updated-filled own expected fields InjectionDate h k =
    subst AreFilled (sym (updated-contents own expected (name_of InjectionDate) fields refl)) k

-- the update of an article is an article, where the source has an agent's octets, if any
pub updated_from_octets : (own expected text : List ℕ) (a : Article) → IsTrue (is_agent own)
    → IsTrue (all_agent expected)
    → IsArticleText text a
    → IsArticleText (article_text (updated_article own expected a)) (updated_article own expected a)
updated_from_octets own expected text a ho he h =
    let agents : Agents own expected = record { own_agent = ho; expected_octets = he } in
    let laid_out = h.laid_out in
    let ids = updated-contents own expected (name_of MessageId) a.fields refl in
    let groups = updated-contents own expected (name_of Newsgroups) a.fields refl in
    record {
      laid_out = record {
        without_nul = updated-nul own expected a.fields a.body agents
            (subst (λ (x : List ℕ). IsFalse (has_nul x)) laid_out.spelled laid_out.without_nul);
        paired = updated-paired own expected a.fields a.body 0 agents
            (subst (λ (x : List ℕ). IsTrue (is_paired_after 0 x)) laid_out.spelled laid_out.paired);
        spelled = refl;
        each_field = updated-are_fields own expected a.fields agents laid_out.each_field;
      };
      fields = record {
        often = λ name. subst (StandsRightly name) (sym (updated-often own expected a.fields name))
            (h.fields.often name);
        filled = λ name. updated-filled own expected a.fields name ho (h.fields.filled name);
        id = subst (λ (x : List (List ℕ)). IsMessageId (trimmed (unwrap_or (slice_get x 0) [])))
            (sym ids) h.fields.id;
        groups = subst (λ (x : List (List ℕ)). IsTrue
            (list_all is_newsgroup_name (newsgroups_in (unwrap_or (slice_get x 0) []))))
            (sym groups) h.fields.groups;
      };
    }

-- the update of an article by agents is an article
pub updated_is_article : (own expected text : List ℕ) (a : Article) → IsTrue (is_agent own)
    → IsTrue (is_agent expected)
    → IsArticleText text a
    → IsArticleText (article_text (updated_article own expected a)) (updated_article own expected a)
updated_is_article own expected text a ho he h =
    updated_from_octets own expected text a ho
    (and_parts (is_identity expected) (all_agent expected) he).1 h
