-- Addresses in lines of relay.conf.
use Rattle.std.proofs.Common.{◌≡◌, ◌≢◌, ℕ, ◌+◌, ◌-◌, ◌<◌, ◌^◌, Bool, true, List, [], ◌∷◌, ◌++◌}
use Rattle.std.proofs.Common.{length, get_or, take, Option, None, Some, refl, ap, ap₂, ◌∙◌, sym}
use Rattle.std.proofs.Common.{subst, append-nil, ne_eqb, lit≤, arith}
use Rattle.std.specs.Prelude.{◌==◌, ◌&&◌, nat_le, option_map, slice_index, codes}
use Rattle.std.specs.Prelude.{if◌then◌else◌}
use Rattle.std.specs.Net.Addr.{octets_of}
use Rattle.std.specs.Net.Grammar.{IsDotted, IsColonHex, IsIpv4Text, IsIpv6Text}
use Rattle.std.specs.Net.Reader.{Read, read_ipv4, read_ipv6, read_number, read_octet}
use Rattle.std.specs.Net.Reader.{read_segment, read_segments, whole_value}
use Rattle.std.specs.Net.Text.{ipv4_text, ipv6_text}
use Rattle.std.specs.declared.net.ipv4_addr.Ipv4Addr.{Ipv4Addr}
use Rattle.std.specs.declared.net.ipv6_addr.Ipv6Addr.{Ipv6Addr}
use Rattle.std.proofs.Math.Seq.{get_or-append_seam, take-append_seam}
use Rattle.std.proofs.NetLemmas.Ipv4.{read_ipv4_complete, read_ipv4_sound}
use Rattle.std.proofs.NetLemmas.Ipv6.{EndsGroups-nil, IsDotted-not_colon_hex}
use Rattle.std.proofs.NetLemmas.Ipv6.{read_ipv6_complete, read_ipv6_sound}
use Rattle.std.proofs.NetLemmas.Texts.{IsColonHex-ipv6_text, IsDotted-ipv4_text}
use Rattle.std.proofs.lemmas.Bool.{and_parts, cond_both, eqb-true, le-leb}
use Rattle.std.proofs.lemmas.List.{length-append}
use Rattle.std.proofs.lemmas.Option.{none-some}
use Rattle.relay_conf.specs.RelayLines.{address_of, either_address, ipv4_of, ipv6_of, is_bracketed}
use Rattle.relay_conf.specs.RelayLines.{mapped, without_brackets}

-- WHOLE WORDS

-- A word of which nothing is read as a whole has no value.
whole_none : {A : Type 0} (read : Read A)
    → ((a : A) (rest : List ℕ) → read ≡ Some (a, rest) → rest ≢ []) → whole_value read ≡ None
whole_none None never = refl
whole_none {A} (Some one) never = by_rest one.1 (never one.0 one.1 refl)
  where
    by_rest : (rest : List ℕ) → rest ≢ [] → whole_value (Some (one.0, rest)) ≡ None
    by_rest [] some = absurd (some refl)
    by_rest (c ∷ rest) some = rw (ne_eqb (length (c ∷ rest)) 0 (omega arith)) refl

-- The text of an IPv4 address gives its octets,
pub ipv4_read : (word octets : List ℕ) → IsDotted word octets → ipv4_of word ≡ Some octets
ipv4_read word octets is =
    ap whole_value (subst (λ (w : List ℕ). read_ipv4 w ≡ Some (octets, [])) (append-nil word)
    (read_ipv4_complete word octets [] is (lit≤ tt)))

-- and what is read as a whole is that text.
ipv4_spelled : (word octets rest : List ℕ) → read_ipv4 word ≡ Some (octets, rest) → rest ≡ []
    → IsDotted word octets
ipv4_spelled word octets rest e none =
    let (front, split, dotted) = read_ipv4_sound word octets rest e in
    subst (λ (t : List ℕ). IsDotted t octets)
    (sym (split ∙ ap (λ (r : List ℕ). front ++ r) none ∙ append-nil front)) dotted

-- So a word that is the text of no IPv4 address has none.
pub ipv4_unread : (word : List ℕ) → ((address : Ipv4Addr) → ¬ (IsIpv4Text word address))
    → None ≡ ipv4_of word
ipv4_unread word never =
    sym (whole_none (read_ipv4 word) (λ octets rest e none.
    never (record { octets = octets }) (ipv4_spelled word octets rest e none)))

-- The text of an IPv6 address gives its octets,
pub ipv6_read : (word segments : List ℕ) → IsColonHex word segments
    → ipv6_of word ≡ Some (octets_of segments)
ipv6_read word segments is =
    ap (λ (read : Read (List ℕ)). option_map octets_of (whole_value read))
    (subst (λ (w : List ℕ). read_ipv6 w ≡ Some (segments, [])) (append-nil word)
    (read_ipv6_complete word segments [] is EndsGroups-nil))

-- and a word that is none has none.
pub ipv6_unread : (word : List ℕ) → ((address : Ipv6Addr) → ¬ (IsIpv6Text word address))
    → None ≡ ipv6_of word
ipv6_unread word never =
    sym (ap (option_map octets_of) (whole_none (read_ipv6 word) (λ segments rest e none.
    let (front, split, spelled) = read_ipv6_sound word segments rest e in
    never (record { segments = segments })
    (subst (λ (t : List ℕ). IsColonHex t segments)
    (sym (split ∙ ap (λ (r : List ℕ). front ++ r) none ∙ append-nil front)) spelled))))

-- BRACKETS

-- No address begins with a bracket.
bracket_is_no_ipv4 : (rest : List ℕ) → read_ipv4 (91 ∷ rest) ≡ None
unfolding read_ipv4 read_octet read_number
bracket_is_no_ipv4 rest = refl

bracket_is_no_ipv6 : (rest : List ℕ) → read_ipv6 (91 ∷ rest) ≡ None
unfolding read_ipv6 read_segments read_segment read_ipv4 read_octet read_number
bracket_is_no_ipv6 rest = refl

-- So the text of an IPv6 address has none,
not_bracketed : (text segments : List ℕ) → IsColonHex text segments
    → is_bracketed text ≡ true → ⊥
not_bracketed [] segments is bracketed = cc
not_bracketed (c ∷ rest) segments is bracketed =
    let word : List ℕ = c ∷ rest in
    let both = and_parts (nat_le 2 (length word) && slice_index word 0 == 91)
    (slice_index word (length word - 1) == 93) bracketed in
    let first : c ≡ 91 =
    eqb-true c 91 (and_parts (nat_le 2 (length word)) (slice_index word 0 == 91) both.0).1 in
    none-some _ (sym (bracket_is_no_ipv6 (rest ++ []))
    ∙ subst (λ (d : ℕ). read_ipv6 (d ∷ rest ++ []) ≡ Some (segments, [])) first
    (read_ipv6_complete word segments [] is EndsGroups-nil))

-- and stands as it is without them.
plain_text : (text segments : List ℕ) → IsColonHex text segments → without_brackets text ≡ text
plain_text text segments is =
    cond_both (is_bracketed text) _ text (λ (t : List ℕ). t ≡ text)
    (λ bracketed. absurd (not_bracketed text segments is bracketed)) (λ plain. refl)

-- What stands between brackets stands without them.
between : (inner : List ℕ) → without_brackets (91 ∷ inner ++ 93 ∷ []) ≡ inner
between inner =
    let word : List ℕ = 91 ∷ inner ++ 93 ∷ [] in
    let many : length word ≡ length inner + 2 = omega (arith, length-append inner (93 ∷ [])) in
    let place : length word - 1 ≡ length (91 ∷ inner) = omega (arith, many) in
    let room : length word - 2 ≡ length inner = omega (arith, many) in
    let two : nat_le 2 (length word) ≡ true =
    le-leb 2 (length word) (omega (arith, many)) in
    let last : slice_index word (length word - 1) ≡ 93 =
    ap (λ (k : ℕ). get_or word k 0) place ∙ get_or-append_seam (91 ∷ inner) 93 [] 0 in
    let bracketed : is_bracketed word ≡ true =
    ap₂ (λ (t : Bool) (c : ℕ). t && slice_index word 0 == 91 && c == 93) two last in
    ap (λ (b : Bool). if b then take (length word - 2) (inner ++ 93 ∷ []) else word) bracketed
    ∙ ap (λ (k : ℕ). take k (inner ++ 93 ∷ [])) room ∙ take-append_seam inner (93 ∷ [])

-- TEXTS

-- The text of an IPv4 address is read back as its IPv4-mapped one,
pub ipv4_text_read : (octets : List ℕ) → length octets ≡ 4
    → ((k : ℕ) → slice_index octets k < 2 ^ 8)
    → address_of (ipv4_text octets) ≡ Some (mapped octets)
ipv4_text_read octets four fits =
    ap (λ (o : Option (List ℕ)). either_address o (ipv6_of (without_brackets (ipv4_text octets))))
    (ipv4_read (ipv4_text octets) octets (IsDotted-ipv4_text octets four fits))

-- a text of an IPv6 address as its octets,
colon_hex_read : (text segments : List ℕ) → IsColonHex text segments
    → address_of text ≡ Some (octets_of segments)
colon_hex_read text segments is =
    let none : ipv4_of text ≡ None =
    whole_none (read_ipv4 text) (λ octets rest e whole.
    IsDotted-not_colon_hex text octets segments (ipv4_spelled text octets rest e whole) is) in
    ap (λ (o : Option (List ℕ)). either_address o (ipv6_of (without_brackets text))) none
    ∙ ap ipv6_of (plain_text text segments is)
    ∙ ipv6_read text segments is

pub ipv6_text_read : (segments : List ℕ) → length segments ≡ 8
    → ((k : ℕ) → slice_index segments k < 2 ^ 16)
    → address_of (ipv6_text segments) ≡ Some (octets_of segments)
ipv6_text_read segments eight fits =
    colon_hex_read (ipv6_text segments) segments (IsColonHex-ipv6_text segments eight fits)

-- and in brackets too.
pub bracketed_text_read : (segments : List ℕ) → length segments ≡ 8
    → ((k : ℕ) → slice_index segments k < 2 ^ 16)
    → address_of (codes "[" ++ ipv6_text segments ++ codes "]") ≡ Some (octets_of segments)
bracketed_text_read segments eight fits =
    let text = ipv6_text segments in
    let none : ipv4_of (91 ∷ text ++ 93 ∷ []) ≡ None =
    ap whole_value (bracket_is_no_ipv4 (text ++ 93 ∷ [])) in
    ap (λ (o : Option (List ℕ)).
    either_address o (ipv6_of (without_brackets (91 ∷ text ++ 93 ∷ [])))) none
    ∙ ap ipv6_of (between text)
    ∙ ipv6_read text segments (IsColonHex-ipv6_text segments eight fits)
