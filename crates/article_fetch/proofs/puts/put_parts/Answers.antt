-- Each part stands behind those before it.
use Rattle.std.proofs.Common.{◌≡◌, ◌∙◌, ◌+◌, ◌++◌, ◌∷◌, [], ℕ, List, ap, arith, length}
use Rattle.std.proofs.Common.{append_assoc, length-append}
use Rattle.std.specs.Prelude.{decimal}
use Rattle.news_terms.specs.Article.{tab}
use Rattle.news_terms.specs.Overview.{line_count}
use Rattle.article_fetch.specs.Parts.{line_of, shown}
use Rattle.article_fetch.specs.declared.parts.Parts.{Parts}
use Rattle.article_fetch.proofs.puts.put_parts.Goals as goal

-- the octets of a line, a TAB before each part but the first
length-line : (p : Parts) → length (line_of p)
    ≡ 1 + (1 + length (shown p.subject.now)) + (1 + length (shown p.from.now))
    + (1 + length (shown p.date.now)) + (1 + length (shown p.id.now))
    + (1 + length (shown p.references.now)) + (1 + length (decimal p.octets))
    + (1 + length (decimal (line_count p.body.now)))
length-line p =
    let m = decimal (line_count p.body.now) in
    let n = decimal p.octets ++ tab ∷ m in
    let r = shown p.references.now ++ tab ∷ n in
    let i = shown p.id.now ++ tab ∷ r in
    let d = shown p.date.now ++ tab ∷ i in
    let f = shown p.from.now ++ tab ∷ d in
    omega (
      arith,
      length-append (shown p.subject.now) (tab ∷ f),
      length-append (shown p.from.now) (tab ∷ d),
      length-append (shown p.date.now) (tab ∷ i),
      length-append (shown p.id.now) (tab ∷ r),
      length-append (shown p.references.now) (tab ∷ n),
      length-append (decimal p.octets) (tab ∷ m),
    )

pub put_text-requires : goal.put_text-requires
put_text-requires c = omega (
  arith,
  c.requires,
  length-line c.args.parts.now,
  c.push_reserved.ensures.len,
  c.push_reserved.ensures.capacity,
)

pub put_text-requires-2 : goal.put_text-requires-2
put_text-requires-2 c = omega (
  arith,
  c.requires,
  length-line c.args.parts.now,
  c.push_reserved.ensures.len,
  c.push_reserved.ensures.capacity,
  c.put_text.ensures.len,
  c.put_text.ensures.capacity,
)

pub put_text-requires-3 : goal.put_text-requires-3
put_text-requires-3 c = omega (
  arith,
  c.requires,
  length-line c.args.parts.now,
  c.push_reserved.ensures.len,
  c.push_reserved.ensures.capacity,
  c.put_text.ensures.len,
  c.put_text.ensures.capacity,
  c.put_text-2.ensures.len,
  c.put_text-2.ensures.capacity,
)

pub put_text-requires-4 : goal.put_text-requires-4
put_text-requires-4 c = omega (
  arith,
  c.requires,
  length-line c.args.parts.now,
  c.push_reserved.ensures.len,
  c.push_reserved.ensures.capacity,
  c.put_text.ensures.len,
  c.put_text.ensures.capacity,
  c.put_text-2.ensures.len,
  c.put_text-2.ensures.capacity,
  c.put_text-3.ensures.len,
  c.put_text-3.ensures.capacity,
)

pub put_text-requires-5 : goal.put_text-requires-5
put_text-requires-5 c = omega (
  arith,
  c.requires,
  length-line c.args.parts.now,
  c.push_reserved.ensures.len,
  c.push_reserved.ensures.capacity,
  c.put_text.ensures.len,
  c.put_text.ensures.capacity,
  c.put_text-2.ensures.len,
  c.put_text-2.ensures.capacity,
  c.put_text-3.ensures.len,
  c.put_text-3.ensures.capacity,
  c.put_text-4.ensures.len,
  c.put_text-4.ensures.capacity,
)

pub put_number-requires : goal.put_number-requires
put_number-requires c = omega (
  arith,
  c.requires,
  length-line c.args.parts.now,
  c.push_reserved.ensures.len,
  c.push_reserved.ensures.capacity,
  c.put_text.ensures.len,
  c.put_text.ensures.capacity,
  c.put_text-2.ensures.len,
  c.put_text-2.ensures.capacity,
  c.put_text-3.ensures.len,
  c.put_text-3.ensures.capacity,
  c.put_text-4.ensures.len,
  c.put_text-4.ensures.capacity,
  c.put_text-5.ensures.len,
  c.put_text-5.ensures.capacity,
)

pub put_number-requires-2 : goal.put_number-requires-2
put_number-requires-2 c = omega (
  arith,
  c.requires,
  length-line c.args.parts.now,
  ap (λ (n : ℕ). length (decimal n)) c.count_lines.ensures,
  c.push_reserved.ensures.len,
  c.push_reserved.ensures.capacity,
  c.put_text.ensures.len,
  c.put_text.ensures.capacity,
  c.put_text-2.ensures.len,
  c.put_text-2.ensures.capacity,
  c.put_text-3.ensures.len,
  c.put_text-3.ensures.capacity,
  c.put_text-4.ensures.len,
  c.put_text-4.ensures.capacity,
  c.put_text-5.ensures.len,
  c.put_text-5.ensures.capacity,
  c.put_number.ensures.len,
  c.put_number.ensures.capacity,
)

-- what is put behind what was put
onto : (new old put more : List ℕ) → new ≡ old ++ put → new ++ more ≡ old ++ (put ++ more)
onto new old put more e = ap (λ (x : List ℕ). x ++ more) e ∙ append_assoc old put more

pub returns-clause-items : goal.returns-clause-items
returns-clause-items c =
    let p = c.args.parts.now in
    let m = tab ∷ decimal (line_count p.body.now) in
    let n = tab ∷ (decimal p.octets ++ m) in
    let r = tab ∷ (shown p.references.now ++ n) in
    let i = tab ∷ (shown p.id.now ++ r) in
    let d = tab ∷ (shown p.date.now ++ i) in
    let f = tab ∷ (shown p.from.now ++ d) in
    let s = tab ∷ (shown p.subject.now ++ f) in
    c.put_number-2.ensures.items
    ∙ ap (λ (n : ℕ). c.put_number.new.room.items ++ tab ∷ decimal n) c.count_lines.ensures
    ∙ onto _ c.put_text-5.new.room.items (tab ∷ decimal p.octets) m c.put_number.ensures.items
    ∙ onto _ c.put_text-4.new.room.items (tab ∷ shown p.references.now) n
    c.put_text-5.ensures.items
    ∙ onto _ c.put_text-3.new.room.items (tab ∷ shown p.id.now) r c.put_text-4.ensures.items
    ∙ onto _ c.put_text-2.new.room.items (tab ∷ shown p.date.now) i c.put_text-3.ensures.items
    ∙ onto _ c.put_text.new.room.items (tab ∷ shown p.from.now) d c.put_text-2.ensures.items
    ∙ onto _ c.push_reserved.new.self.items (tab ∷ shown p.subject.now) f c.put_text.ensures.items
    ∙ onto _ c.args.room.now.items (48 ∷ []) s c.push_reserved.ensures.items

pub returns-clause-capacity : goal.returns-clause-capacity
returns-clause-capacity c =
    c.put_number-2.ensures.capacity ∙ c.put_number.ensures.capacity
    ∙ c.put_text-5.ensures.capacity ∙ c.put_text-4.ensures.capacity
    ∙ c.put_text-3.ensures.capacity ∙ c.put_text-2.ensures.capacity
    ∙ c.put_text.ensures.capacity ∙ c.push_reserved.ensures.capacity
