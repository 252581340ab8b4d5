-- A text that is sent in pieces of whole lines, of which the first alone may begin with a dot.
use Rattle.std.proofs.Common.{◌≡◌, ◌≢◌, ℕ, zero, suc, ◌+◌, ◌-◌, ◌<◌, ◌≤◌, ◌==◌, List, [], ◌∷◌, ◌++◌}
use Rattle.std.proofs.Common.{length, take, drop, get_or, map, Option, Some, None, refl, sym, ap}
use Rattle.std.proofs.Common.{subst, ◌∙◌, arith, ⊎_elim, append_assoc, append-nil, length-append}
use Rattle.std.proofs.Common.{length-drop, length-take-le, take-append-drop, Bool, true, false}
use Rattle.std.proofs.Common.{true≢false, map-id, not}
use Rattle.std.proofs.Math.Dec.{eqb}
use Rattle.std.proofs.lemmas.Bool.{cases_Bool, cases_lt, cond-true, cond-false, eqb-true}
use Rattle.std.proofs.lemmas.Bool.Decides.{Decides-eqb}
use Rattle.std.proofs.lemmas.List.{append_cancel_left, drop-append-le, drop-drop, drop_at, take_at}
use Rattle.std.proofs.lemmas.Slice.Eq.{ends_is}
use Rattle.std.specs.List.{ends_with}
use Rattle.memchr.proofs.lemmas.MatchLemmas.{OccursAt-split, OccursAt-from_part}
use Rattle.memchr.specs.Find.{OccursAt, NoneBefore, Nowhere}
use Rattle.news_terms.specs.Lines.{crlf, first_line, spelled}
use Rattle.news_terms.specs.Blocks.{dot, stuffed, stuffed_line, text_lines, unstuffed_line}
use Rattle.news_terms.proofs.LineLemmas.{CutsLine-from_first, first_line_whole, no_first_line}
use Rattle.news_terms.proofs.LineLemmas.{same_front}
use Rattle.news_terms.proofs.StuffLemmas.{text_lines-line, text_lines-last}
use Rattle.stream_cut.specs.Dots.{DotsAt, HasNoInnerDot, end_of}
use Rattle.stream_cut.specs.Look.{IsLooked}
use Rattle.stream_cut.proofs.PlaceLemmas.{EndsAt-front}

-- what stands behind a place stands behind one before it
drop_behind : (t : List ℕ) (at next : ℕ) → at < next
    → drop next t ≡ drop (next - at) (drop at t)
drop_behind t at next behind =
    let count : next ≡ at + (next - at) = omega (arith, behind) in
    ap (λ (n : ℕ). drop n t) count ∙ sym (drop-drop (next - at) at t)

-- what changes a line where it begins with a dot, and then there alone
pub record ChangesDots (f : List ℕ → List ℕ) : Type 0 where
  alone : (s more : List ℕ) → 0 < length s → f (s ++ more) ≡ f s ++ more
  plain : (s : List ℕ) → ((after : List ℕ) → s ≢ 46 ∷ after) → f s ≡ s

-- stuffing does
pub stuffed_line-dots : ChangesDots stuffed_line
stuffed_line-dots = record { alone = alone; plain = plain }
  where
    alone : (s more : List ℕ) → 0 < length s → stuffed_line (s ++ more) ≡ stuffed_line s ++ more
    alone [] more some = absurd (omega (arith, some))
    alone (a ∷ s) more some = ⊎_elim
        (λ t. cond-true _ _ _ t
        ∙ ap (λ (x : List ℕ). x ++ more) (sym (cond-true _ (46 ∷ a ∷ s) (a ∷ s) t)))
        (λ f. cond-false _ _ _ f
        ∙ ap (λ (x : List ℕ). x ++ more) (sym (cond-false _ (46 ∷ a ∷ s) (a ∷ s) f)))
        (cases_Bool (a == 46))

    plain : (s : List ℕ) → ((after : List ℕ) → s ≢ 46 ∷ after) → stuffed_line s ≡ s
    plain [] none = refl
    plain (a ∷ s) none = ⊎_elim
        (λ t. absurd (none s (ap (λ (x : ℕ). x ∷ s) (eqb-true a 46 t))))
        (λ f. cond-false _ _ _ f)
        (cases_Bool (a == 46))

-- and unstuffing
pub unstuffed_line-dots : ChangesDots unstuffed_line
unstuffed_line-dots = record { alone = alone; plain = plain }
  where
    alone : (s more : List ℕ) → 0 < length s
        → unstuffed_line (s ++ more) ≡ unstuffed_line s ++ more
    alone [] more some = absurd (omega (arith, some))
    alone (a ∷ s) more some = ⊎_elim
        (λ t. cond-true _ _ _ t
        ∙ ap (λ (x : List ℕ). x ++ more) (sym (cond-true _ s (a ∷ s) t)))
        (λ f. cond-false _ _ _ f
        ∙ ap (λ (x : List ℕ). x ++ more) (sym (cond-false _ s (a ∷ s) f)))
        (cases_Bool (a == 46))

    plain : (s : List ℕ) → ((after : List ℕ) → s ≢ 46 ∷ after) → unstuffed_line s ≡ s
    plain [] none = refl
    plain (a ∷ s) none = ⊎_elim
        (λ t. absurd (none s (ap (λ (x : ℕ). x ∷ s) (eqb-true a 46 t))))
        (λ f. cond-false _ _ _ f)
        (cases_Bool (a == 46))

-- what leaves all as it is does too
unchanged-dots : ChangesDots (λ s. s)
unchanged-dots = record { alone = λ s more some. refl; plain = λ s none. refl }

-- THE FIRST LINE AND WHAT FOLLOWS IT

no_less : (m n : ℕ) → m < n → ¬ (n ≤ m)
no_less m n less more = omega (arith, less, more)

equal_both : (m n : ℕ) → n ≤ m → m ≤ n → m ≡ n
equal_both m n more less = omega (arith, more, less)

-- the line ends before a later CRLF begins
behind_line : (t l r front after : List ℕ) → t ≡ l ++ 13 ∷ 10 ∷ r → t ≡ front ++ 13 ∷ 10 ∷ after
    → length l < length front → length l + 2 ≤ length front
behind_line t l r front after line other less =
    past (length l) (length front) less (λ same.
    let both : 10 ≡ 13 = sym (EndsAt-front t l r line).1 ∙ ap (λ (k : ℕ). get_or t k 0) same
    ∙ (EndsAt-front t front after other).0 in
    cc both)
  where
    past : (m n : ℕ) → m < n → m + 1 ≢ n → m + 2 ≤ n
    past m n less apart = omega (arith, less, apart)

-- the line and the octets behind it are as many as all
length-behind : (l front : List ℕ) → length l + 2 ≤ length front
    → length ((l ++ crlf) ++ drop (length l + 2) front) ≡ length front
length-behind l front long = omega (
  arith,
  long,
  length-append (l ++ crlf) (drop (length l + 2) front),
  length-append l crlf,
  length-drop (length l + 2) front,
)

-- fewer octets follow the line
fewer_behind : (n : ℕ) (t l r : List ℕ) → t ≡ l ++ 13 ∷ 10 ∷ r → length t ≤ suc n → length r ≤ n
fewer_behind n t l r line fits =
    omega (arith, fits, ap length line, length-append l (13 ∷ 10 ∷ r))

-- what is longer with the line is longer without it
longer_behind : (l front next x : List ℕ) → front ≡ (l ++ crlf) ++ next
    → length front ≤ length ((l ++ crlf) ++ x) → length next ≤ length x
longer_behind l front next x whole longer = omega (
  arith,
  longer,
  ap length whole,
  length-append (l ++ crlf) next,
  length-append (l ++ crlf) x,
)

-- what follows a line before another CRLF
pub between : (t l r front after : List ℕ) → t ≡ l ++ 13 ∷ 10 ∷ r → t ≡ front ++ 13 ∷ 10 ∷ after
    → length l < length front
    → (r ≡ drop (length l + 2) front ++ 13 ∷ 10 ∷ after)
    × (front ≡ (l ++ crlf) ++ drop (length l + 2) front)
between t l r front after line other less =
    let n = length l + 2 in
    let long = behind_line t l r front after line other less in
    let split : t ≡ (l ++ crlf) ++ r = line ∙ sym (append_assoc l crlf r) in
    let rest : r ≡ drop n front ++ 13 ∷ 10 ∷ after =
    sym (drop_at (l ++ crlf) r n (length-append l crlf)) ∙ ap (drop n) (sym split)
    ∙ ap (drop n) other ∙ drop-append-le n front (13 ∷ 10 ∷ after) long in
    let whole : ((l ++ crlf) ++ drop n front) ++ 13 ∷ 10 ∷ after ≡ front ++ 13 ∷ 10 ∷ after =
    append_assoc (l ++ crlf) (drop n front) (13 ∷ 10 ∷ after)
    ∙ ap (λ (x : List ℕ). (l ++ crlf) ++ x) (sym rest) ∙ sym split ∙ other in (
      rest,
      sym (same_front ((l ++ crlf) ++ drop n front) front _ _ whole
          (length-behind l front long)).0,
    )

-- a dot after a CRLF of what follows a line stands after one of the text
pub dot_later : (t l r f a : List ℕ) → t ≡ l ++ 13 ∷ 10 ∷ r → r ≡ f ++ 13 ∷ 10 ∷ 46 ∷ a
    → t ≡ ((l ++ crlf) ++ f) ++ 13 ∷ 10 ∷ 46 ∷ a
dot_later t l r f a line e =
    line ∙ sym (append_assoc l crlf r) ∙ ap (λ (x : List ℕ). (l ++ crlf) ++ x) e
    ∙ sym (append_assoc (l ++ crlf) f (13 ∷ 10 ∷ 46 ∷ a))

-- CRLF and a dot occur behind what stands before them, in what was not looked at
occurs_within : (t hay : List ℕ) (looked : ℕ) (x y : List ℕ) → hay ≡ drop looked t
    → looked ≤ length x → t ≡ x ++ 13 ∷ 10 ∷ 46 ∷ y
    → OccursAt hay (13 ∷ 10 ∷ 46 ∷ []) (length x - looked)
occurs_within t hay looked x y rest new e =
    let needle = 13 ∷ 10 ∷ 46 ∷ [] in
    let left = drop looked x in
    let split : hay ≡ left ++ 13 ∷ 10 ∷ 46 ∷ y = rest ∙ ap (drop looked) e
    ∙ drop-append-le looked x (13 ∷ 10 ∷ 46 ∷ y) new in
    let place : length left ≡ length x - looked = length-drop looked x in
    OccursAt-from_part hay needle (length x - looked)
    (omega (arith, ap length split, length-append left (13 ∷ 10 ∷ 46 ∷ y), place))
    (ap (λ (n : ℕ). take 3 (drop n hay)) (sym place)
    ∙ ap (λ (x : List ℕ). take 3 (drop (length left) x)) split
    ∙ ap (take 3) (drop_at left (13 ∷ 10 ∷ 46 ∷ y) (length left) refl))

-- each line of a text as f has it
abbrev pub sent : (List ℕ → List ℕ) → List ℕ → List ℕ
sent f t = spelled (map f (text_lines t))

-- something stands where an octet does
length-more : (a : ℕ) (l : List ℕ) → 0 < length (a ∷ l)
length-more a l = omega arith

-- a CRLF begins with no dot
crlf-undotted : (after : List ℕ) → crlf ≢ 46 ∷ after
crlf-undotted after same = cc

-- nor does nothing
nil-undotted : (after : List ℕ) → [] ≢ 46 ∷ after
nil-undotted after same = cc

module _ (f : List ℕ → List ℕ) (changes : ChangesDots f) where
  abbrev Sent : List ℕ → List ℕ
  Sent = sent f

  -- f looks at no CRLF
  even : (l : List ℕ) → f (l ++ crlf) ≡ f l ++ crlf
  even [] =
      changes.plain crlf crlf-undotted
      ∙ ap (λ (x : List ℕ). x ++ crlf) (sym (changes.plain [] nil-undotted))
  even (a ∷ l) = changes.alone (a ∷ l) crlf (length-more a l)

  -- a line, and lines after it of which the first begins with no dot, are sent as one line is
  joined : (l more : List ℕ) → ((after : List ℕ) → more ≢ 46 ∷ after)
      → (f l ++ crlf) ++ f more ≡ f ((l ++ crlf) ++ more)
  joined l more none =
      ap (λ (x : List ℕ). (f l ++ crlf) ++ x) (changes.plain more none)
      ∙ ap (λ (x : List ℕ). x ++ more) (sym (even l))
      ∙ sym (changes.alone (l ++ crlf) more (omega (arith, length-append l crlf)))

  -- whole lines at the front of at most n octets, of which none behind the first begins with a dot,
  -- are sent as one line is
  abbrev SendsFronts : ℕ → Type 0
  SendsFronts n =
      (t front after : List ℕ) → length t ≤ n → t ≡ front ++ 13 ∷ 10 ∷ after
      → ((x y : List ℕ) → t ≡ x ++ 13 ∷ 10 ∷ 46 ∷ y → length front ≤ length x)
      → Sent t ≡ f (front ++ crlf) ++ Sent after

  sent_front : (n : ℕ) → SendsFronts n
  sent_front zero t front after fits whole first =
      absurd (omega (arith, fits, ap length whole, length-append front (13 ∷ 10 ∷ after)))
  sent_front (suc n) t front after fits whole first =
      by (sent_front n) (first_line t) refl
    where
      by : SendsFronts n → (o : Option (List ℕ × List ℕ)) → first_line t ≡ o
          → Sent t ≡ f (front ++ crlf) ++ Sent after
      by shorter None e = absurd (no_first_line t front after e whole)
      by shorter (Some p) e =
          let l = p.0 in
          let r = p.1 in
          let line = first_line_whole t p e in
          let here : Sent t ≡ (f l ++ crlf) ++ Sent r =
          ap (λ (x : List (List ℕ)). spelled (map f x)) (text_lines-line t l r e) in
          ⊎_elim
          (λ less.
          let parts = between t l r front after line whole less in
          let next = drop (length l + 2) front in
          let plain : (a : List ℕ) → next ++ crlf ≢ 46 ∷ a = λ a same.
          let r_is : r ≡ 46 ∷ (a ++ after) = parts.0 ∙ sym (append_assoc next crlf after)
          ∙ ap (λ (x : List ℕ). x ++ after) same in
          no_less (length l) (length front) less
          (first l (a ++ after) (line ∙ ap (λ (x : List ℕ). l ++ 13 ∷ 10 ∷ x) r_is)) in
          let later = shorter r next after (fewer_behind n t l r line fits) parts.0
          (λ x y same. longer_behind l front next x parts.1
          (first ((l ++ crlf) ++ x) y (dot_later t l r x y line same))) in
          here ∙ ap (λ (x : List ℕ). (f l ++ crlf) ++ x) later
          ∙ sym (append_assoc (f l ++ crlf) (f (next ++ crlf)) (Sent after))
          ∙ ap (λ (x : List ℕ). x ++ Sent after) (joined l (next ++ crlf) plain)
          ∙ ap (λ (x : List ℕ). f x ++ Sent after)
          (sym (append_assoc (l ++ crlf) next crlf)
          ∙ ap (λ (x : List ℕ). x ++ crlf) (sym parts.1)))
          (λ past.
          let least = (CutsLine-from_first t l r e).shortest front after whole in
          let same = same_front l front (13 ∷ 10 ∷ r) (13 ∷ 10 ∷ after) (sym line ∙ whole)
          (equal_both (length l) (length front) past least) in
          let rest : r ≡ after = ap (drop 2) same.1 in
          here ∙ ap (λ (x : List ℕ). x ++ Sent r) (sym (even l))
          ∙ ap (λ (x : List ℕ). f (x ++ crlf) ++ Sent r) same.0
          ∙ ap (λ (x : List ℕ). f (front ++ crlf) ++ Sent x) rest)
          (cases_lt (length l) (length front))

  -- at most n octets that no CRLF ends are sent as one line is, where no line behind the first
  -- begins with a dot
  abbrev SendsUnended : ℕ → Type 0
  SendsUnended n =
      (t : List ℕ) → length t ≤ n → 0 < length t → HasNoInnerDot t
      → ((front : List ℕ) → t ≢ front ++ crlf) → Sent t ≡ f t ++ crlf

  sent_unended : (n : ℕ) → SendsUnended n
  sent_unended zero t fits some none unended = absurd (omega (arith, fits, some))
  sent_unended (suc n) t fits some none unended =
      by (sent_unended n) (first_line t) refl
    where
      by_rest : SendsUnended n → (l r : List ℕ) → t ≡ l ++ 13 ∷ 10 ∷ r
          → Sent t ≡ (f l ++ crlf) ++ Sent r → Sent t ≡ f t ++ crlf
      by_rest shorter l [] line here = absurd (unended l line)
      by_rest shorter l (b ∷ r) line here =
          let plain : (a : List ℕ) → b ∷ r ≢ 46 ∷ a = λ a same.
          none l a (line ∙ ap (λ (x : List ℕ). l ++ 13 ∷ 10 ∷ x) same) in
          let split : t ≡ (l ++ crlf) ++ b ∷ r = line ∙ sym (append_assoc l crlf (b ∷ r)) in
          let later = shorter (b ∷ r)
          (fewer_behind n t l (b ∷ r) line fits) (omega arith)
          (λ x y same. none ((l ++ crlf) ++ x) y (dot_later t l (b ∷ r) x y line same))
          (λ x same. unended ((l ++ crlf) ++ x)
          (split ∙ ap (λ (y : List ℕ). (l ++ crlf) ++ y) same
          ∙ sym (append_assoc (l ++ crlf) x crlf))) in
          here ∙ ap (λ (x : List ℕ). (f l ++ crlf) ++ x) later
          ∙ sym (append_assoc (f l ++ crlf) (f (b ∷ r)) crlf)
          ∙ ap (λ (x : List ℕ). x ++ crlf) (joined l (b ∷ r) plain)
          ∙ ap (λ (x : List ℕ). f x ++ crlf) (sym split)

      by : SendsUnended n → (o : Option (List ℕ × List ℕ)) → first_line t ≡ o
          → Sent t ≡ f t ++ crlf
      by shorter None e =
          ap (λ (x : List (List ℕ)). spelled (map f x)) (text_lines-last t e some)
          ∙ append-nil (f t ++ crlf)
      by shorter (Some p) e = by_rest shorter p.0 p.1 (first_line_whole t p e)
          (ap (λ (x : List (List ℕ)). spelled (map f x)) (text_lines-line t p.0 p.1 e))

  -- up to where a line behind the first begins with a dot, a text is sent as one line is
  pub sent_piece : (t : List ℕ) (k : ℕ) → DotsAt t k
      → Sent t ≡ f (take k t) ++ Sent (drop k t)
  sent_piece t k at =
      let after = 46 ∷ at.after in
      let split : t ≡ (at.front ++ crlf) ++ after = at.whole
      ∙ sym (append_assoc at.front crlf after) in
      let long : length (at.front ++ crlf) ≡ k = length-append at.front crlf ∙ sym at.place in
      let taken = ap (take k) split ∙ take_at (at.front ++ crlf) after k long in
      let left = ap (drop k) split ∙ drop_at (at.front ++ crlf) after k long in
      sent_front (length t) t at.front after (omega arith) at.whole at.first
      ∙ (λ i. f (sym taken i) ++ Sent (sym left i))

  -- whole lines of which none behind the first begins with a dot are sent as one line is
  pub sent_last : (t front : List ℕ) → HasNoInnerDot t → t ≡ front ++ crlf → Sent t ≡ f t
  sent_last t front none ended =
      sent_front (length t) t front [] (omega arith) ended (λ x y e. absurd (none x y e))
      ∙ append-nil (f (front ++ crlf)) ∙ ap f (sym ended)

  -- one piece more is sent
  pub sent_more : (t before : List ℕ) (at next : ℕ) → DotsAt (drop at t) (next - at) → at < next
      → (before ++ f (take (next - at) (drop at t))) ++ Sent (drop next t)
      ≡ before ++ Sent (drop at t)
  sent_more t before at next dots behind =
      let left = drop at t in
      append_assoc before (f (take (next - at) left)) (Sent (drop next t))
      ∙ ap (λ (x : List ℕ). before ++ (f (take (next - at) left) ++ Sent x))
      (drop_behind t at next behind)
      ∙ ap (λ (x : List ℕ). before ++ x) (sym (sent_piece left (next - at) dots))

-- a place of a dot is within the text, and not at its begin
pub dots_within : (t : List ℕ) (k : ℕ) → DotsAt t k → (0 < k) × (k ≤ length t)
dots_within t k at =
    let long = ap length at.whole ∙ length-append at.front (13 ∷ 10 ∷ 46 ∷ at.after) in (
      omega (arith, at.place),
      omega (arith, at.place, long),
    )

-- a dot behind others is within the text
pub dot_within : (s : List ℕ) (passed end : ℕ) → passed ≤ length s → DotsAt (drop passed s) end
    → (0 < end) × (passed + end ≤ length s)
dot_within s passed end fits dots =
    let within = dots_within (drop passed s) end dots in
    (within.0, omega (arith, fits, within.1, length-drop passed s))

-- and less is left behind it
pub less_left : (passed end len : ℕ) → (0 < end) × (passed + end ≤ len)
    → len - (passed + end) < len - passed
less_left passed end len within = omega (arith, within.0, within.1)

-- where CRLF and a dot are found first, a line behind the first begins with a dot
pub dots_found : (t hay : List ℕ) (looked k : ℕ) → IsLooked t looked → hay ≡ drop looked t
    → NoneBefore (OccursAt hay (13 ∷ 10 ∷ 46 ∷ [])) 0 (length hay + 1) k
    → OccursAt hay (13 ∷ 10 ∷ 46 ∷ []) k → DotsAt t (looked + k + 2)
dots_found t hay looked k seen rest none here =
    let fits = here.fits in
    let count : length hay ≡ length t - looked = ap length rest ∙ length-drop looked t in
    let long : length (take (looked + k) t) ≡ looked + k =
    length-take-le (looked + k) t (omega (arith, fits, count)) in
    record {
      front = take (looked + k) t;
      after = drop (k + 3) hay;
      whole = sym (take-append-drop (looked + k) t)
          ∙ ap (λ (x : List ℕ). take (looked + k) t ++ x)
          (ap (λ (n : ℕ). drop n t) (omega arith) ∙ sym (drop-drop k looked t)
          ∙ ap (drop k) (sym rest) ∙ OccursAt-split hay (13 ∷ 10 ∷ 46 ∷ []) k here);
      place = omega (arith, long);
      first = λ x y e. ⊎_elim
          (λ old. absurd (seen.none (length x) old (EndsAt-front t x (46 ∷ y) e)))
          (λ new. ⊎_elim
          (λ early. absurd (none.before (length x - looked) (omega arith) early
          (occurs_within t hay looked x y rest new e)))
          (λ late. omega (arith, late, long, new))
          (cases_lt (length x - looked) k))
          (cases_lt (length x) looked);
    }

-- where they are found nowhere, none does
pub dots_missed : (t hay : List ℕ) (looked : ℕ) → IsLooked t looked → hay ≡ drop looked t
    → Nowhere (OccursAt hay (13 ∷ 10 ∷ 46 ∷ [])) 0 (length hay + 1) → HasNoInnerDot t
dots_missed t hay looked seen rest none x y e = ⊎_elim
    (λ old. absurd (seen.none (length x) old (EndsAt-front t x (46 ∷ y) e)))
    (λ new.
    let here = occurs_within t hay looked x y rest new e in
    let fits = here.fits in
    none (length x - looked) (omega arith) (omega (arith, fits)) here)
    (cases_lt (length x) looked)

-- THE BLOCK THAT SENDS A TEXT

-- what closes it, in another order
closed_later : (x a : List ℕ) → x ++ ((a ++ dot) ++ crlf) ≡ ((x ++ a) ++ dot) ++ crlf
closed_later x a =
    sym (append_assoc x (a ++ dot) crlf)
    ∙ ap (λ (y : List ℕ). y ++ crlf) (sym (append_assoc x a dot))

-- one piece more is in it
pub stuffed_more : (t before : List ℕ) (at next : ℕ) → DotsAt (drop at t) (next - at)
    → at < next
    → (before ++ stuffed_line (take (next - at) (drop at t))) ++ stuffed (drop next t)
    ≡ before ++ stuffed (drop at t)
stuffed_more t before at next dots behind =
    let piece = stuffed_line (take (next - at) (drop at t)) in
    closed_later (before ++ piece) (sent stuffed_line (drop next t))
    ∙ ap (λ (y : List ℕ). (y ++ dot) ++ crlf)
    (sent_more stuffed_line stuffed_line-dots t before at next dots behind)
    ∙ sym (closed_later before (sent stuffed_line (drop at t)))

-- the octets of it
pub stuffed_count : (t : List ℕ) (at next : ℕ) → DotsAt (drop at t) (next - at) → at < next
    → length (stuffed_line (take (next - at) (drop at t))) + length (stuffed (drop next t))
    ≡ length (stuffed (drop at t))
stuffed_count t at next dots behind =
    let piece = stuffed_line (take (next - at) (drop at t)) in
    sym (length-append piece (stuffed (drop next t)))
    ∙ ap length (stuffed_more t [] at next dots behind)

-- what is left is sent as one line is, with the end that it lacks
pub stuffed_end : (t : List ℕ) (ended : Bool) → HasNoInnerDot t → ended ≡ ends_with eqb t crlf
    → 0 < length t
    → stuffed t ≡ (stuffed_line t ++ end_of (not ended)) ++ 46 ∷ 13 ∷ 10 ∷ []
stuffed_end t true none is some =
    let front = take (length t - 2) t in
    ap (λ (x : List ℕ). (x ++ dot) ++ crlf)
    (sent_last stuffed_line stuffed_line-dots t front none
    ((ends_is Decides-eqb t crlf true is).0 refl) ∙ sym (append-nil (stuffed_line t)))
    ∙ append_assoc (stuffed_line t ++ []) dot crlf
stuffed_end t false none is some =
    ap (λ (x : List ℕ). (x ++ dot) ++ crlf)
    (sent_unended stuffed_line stuffed_line-dots (length t) t (omega arith) some none (λ front e.
    true≢false (sym ((ends_is Decides-eqb t crlf false is).1 front e))))
    ∙ append_assoc (stuffed_line t ++ crlf) dot crlf

-- WHOLE LINES

-- lines of which each is as it was
pub whole_first : (t : List ℕ) → spelled (text_lines t) ≡ t → sent (λ s. s) t ≡ t
whole_first t whole = ap spelled (map-id (text_lines t)) ∙ whole

-- where lines are whole, what follows a piece of them is
pub whole_more : (t : List ℕ) (at next : ℕ) → DotsAt (drop at t) (next - at) → at < next
    → sent (λ s. s) (drop at t) ≡ drop at t → sent (λ s. s) (drop next t) ≡ drop next t
whole_more t at next dots behind whole =
    let left = drop at t in
    let end = next - at in
    subst (λ (x : List ℕ). sent (λ s. s) x ≡ x) (sym (drop_behind t at next behind))
    (append_cancel_left (take end left) _ _
    (sym (sent_piece (λ s. s) unchanged-dots left end dots) ∙ whole
    ∙ sym (take-append-drop end left)))

-- whole lines end with a CRLF
ends_spelled : (l : List ℕ) (ls : List (List ℕ))
    → (front : List ℕ) × (spelled (l ∷ ls) ≡ front ++ crlf)
ends_spelled l [] = (l, append-nil (l ++ crlf))
ends_spelled l (m ∷ ls) =
    let later = ends_spelled m ls in (
      (l ++ crlf) ++ later.0,
      ap (λ (x : List ℕ). (l ++ crlf) ++ x) later.1 ∙ sym (append_assoc (l ++ crlf) later.0 crlf),
    )

whole_front : (t : List ℕ) → sent (λ s. s) t ≡ t → 0 < length t
    → (front : List ℕ) × (t ≡ front ++ crlf)
whole_front t whole some = by (map (λ (s : List ℕ). s) (text_lines t)) refl
  where
    by : (ls : List (List ℕ)) → map (λ (s : List ℕ). s) (text_lines t) ≡ ls
        → (front : List ℕ) × (t ≡ front ++ crlf)
    by [] e = absurd (omega (arith, some, ap length (sym whole ∙ ap spelled e)))
    by (l ∷ ls) e =
        let ends = ends_spelled l ls in (ends.0, sym whole ∙ ap spelled e ∙ ends.1)

-- whole lines of which none behind the first begins with a dot are sent as one line is
pub whole_last : (f : List ℕ → List ℕ) → ChangesDots f → (t : List ℕ) → HasNoInnerDot t
    → sent (λ s. s) t ≡ t → sent f t ≡ f t
whole_last f changes [] none whole = sym (changes.plain [] (λ after e. cc))
whole_last f changes (a ∷ t) none whole =
    sent_last f changes (a ∷ t) (whole_front (a ∷ t) whole (omega arith)).0 none
    (whole_front (a ∷ t) whole (omega arith)).1
