-- The lines of a report, read again.
use Rattle.std.proofs.Common.{◌≡◌, ◌∙◌, ◌++◌, ◌∷◌, ◌-◌, ◌<◌, ◌^◌, [], List, ℕ, ap, append_assoc}
use Rattle.std.proofs.Common.{arith}
use Rattle.std.proofs.Common.{Some, codes, length, refl, sym, true}
use Rattle.std.specs.Prelude.{decimal}
use Rattle.std.proofs.Math.Dec.{leb-zero}
use Rattle.std.proofs.lemmas.List.{append_cancel_right}
use Rattle.id_history.specs.declared.counts.Counts.{Counts}
use Rattle.line_words.specs.Words.{words}
use Rattle.line_words.specs.declared.words.Between.TheVariants.{Spaces}
use Rattle.line_words.specs.Numbers.{is_numeral}
use Rattle.relay_metrics.specs.declared.lines.Subject.TheVariants.{Buffer, Feed, Ids}
use Rattle.relay_report.specs.Figures.{NamedBuffer, NamedFeed}
use Rattle.relay_report.specs.Text.{buffer_line, feed_line, ids_line, name_column, right_in}
use Rattle.relay_report.specs.Text.{spaces}
use Rattle.relay_metrics.specs.Forms.{report_forms}
use Rattle.relay_metrics.specs.Laws.{IsName, buffer_said, feed_said, ids_said}
use Rattle.relay_metrics.specs.Lines.{number_behind, said_by, said_line}
use Rattle.relay_metrics.proofs.Spaced.{IsNumber, is_number, last_word, led, next_name, next_word}

-- The words of columns.
three : (p q r a b c : ℕ) → IsNumber p a → IsNumber q b → IsNumber r c
    → words Spaces (right_in p (decimal a) ++ (right_in q (decimal b) ++ right_in r (decimal c)))
    ≡ decimal a ∷ decimal b ∷ decimal c ∷ []
three p q r a b c one two last =
    let gap : (places n : ℕ) → ℕ = λ places n. places - length (decimal n) in
    simp append_assoc
    (led (gap p a)
    (decimal a ++ (spaces (gap q b) ++ (decimal b ++ (spaces (gap r c) ++ decimal c))))
    ∙ next_word (decimal a) (gap q b) (decimal b ++ (spaces (gap r c) ++ decimal c)) one.name
    two.room
    ∙ ap (λ (more : List (List ℕ)). decimal a ∷ more)
    (next_word (decimal b) (gap r c) (decimal c) two.name last.room
    ∙ ap (λ (more : List (List ℕ)). decimal b ∷ more) (last_word (decimal c) last.name)))

four : (p q r s a b c d : ℕ) → IsNumber p a → IsNumber q b → IsNumber r c → IsNumber s d
    → words Spaces (right_in p (decimal a)
    ++ (right_in q (decimal b) ++ (right_in r (decimal c) ++ right_in s (decimal d))))
    ≡ decimal a ∷ decimal b ∷ decimal c ∷ decimal d ∷ []
four p q r s a b c d one two third last =
    let gap : (places n : ℕ) → ℕ = λ places n. places - length (decimal n) in
    let rest = right_in r (decimal c) ++ right_in s (decimal d) in
    let tail = spaces (gap r c) ++ (decimal c ++ (spaces (gap s d) ++ decimal d)) in
    simp append_assoc
    (led (gap p a) (decimal a ++ (spaces (gap q b) ++ (decimal b ++ tail)))
    ∙ next_word (decimal a) (gap q b) (decimal b ++ tail) one.name two.room
    ∙ ap (λ (more : List (List ℕ)). decimal a ∷ more)
    (next_word (decimal b) (gap r c) (decimal c ++ (spaces (gap s d) ++ decimal d)) two.name
    third.room
    ∙ ap (λ (more : List (List ℕ)). decimal b ∷ more)
    (next_word (decimal c) (gap s d) (decimal d) third.name last.room
    ∙ ap (λ (more : List (List ℕ)). decimal c ∷ more) (last_word (decimal d) last.name))))

-- So it is behind a name.
three_named : (name : List ℕ) (room p q r a b c : ℕ) → IsName name → IsNumber p a → IsNumber q b
    → IsNumber r c
    → words Spaces (name ++ (spaces room
    ++ (right_in p (decimal a) ++ (right_in q (decimal b) ++ right_in r (decimal c)))))
    ≡ name ∷ decimal a ∷ decimal b ∷ decimal c ∷ []
three_named name room p q r a b c is one two last =
    let gap : (places n : ℕ) → ℕ = λ places n. places - length (decimal n) in
    let tail = decimal a ++ (spaces (gap q b) ++ (decimal b ++ (spaces (gap r c) ++ decimal c))) in
    simp append_assoc
    (next_name name room (gap p a) tail is one.room
    ∙ ap (λ (more : List (List ℕ)). name ∷ more)
    (sym (led (gap p a) tail) ∙ (simp append_assoc at (three p q r a b c one two last))))

four_named : (name : List ℕ) (room p q r s a b c d : ℕ) → IsName name → IsNumber p a
    → IsNumber q b → IsNumber r c → IsNumber s d
    → words Spaces (name ++ (spaces room ++ (right_in p (decimal a)
    ++ (right_in q (decimal b) ++ (right_in r (decimal c) ++ right_in s (decimal d))))))
    ≡ name ∷ decimal a ∷ decimal b ∷ decimal c ∷ decimal d ∷ []
four_named name room p q r s a b c d is one two third last =
    let gap : (places n : ℕ) → ℕ = λ places n. places - length (decimal n) in
    let tail = decimal a ++ (spaces (gap q b) ++ (decimal b
    ++ (spaces (gap r c) ++ (decimal c ++ (spaces (gap s d) ++ decimal d))))) in
    simp append_assoc
    (next_name name room (gap p a) tail is one.room
    ∙ ap (λ (more : List (List ℕ)). name ∷ more)
    (sym (led (gap p a) tail) ∙ (simp append_assoc at (four p q r s a b c d one two third last))))

-- A number stands behind nothing.
plain : (digits : List ℕ) → is_numeral digits ≡ true → number_behind [] digits ≡ Some digits
plain digits is = rw (leb-zero (length digits), is) refl

-- What words of numbers say behind `ids`,
ids_by : (a b c d : List ℕ) → is_numeral a ≡ true → is_numeral b ≡ true → is_numeral c ≡ true
    → is_numeral d ≡ true
    → said_by report_forms (codes "ids" ∷ a ∷ b ∷ c ∷ d ∷ [])
    ≡ record { subject = Ids; name = []; numbers = a ∷ b ∷ c ∷ d ∷ [] }
ids_by a b c d one two third last =
    rw (plain a one, plain b two, plain c third, plain d last) refl

-- behind `feed`,
feed_by : (name a b c : List ℕ) → is_numeral a ≡ true → is_numeral b ≡ true → is_numeral c ≡ true
    → said_by report_forms (codes "feed" ∷ name ∷ a ∷ b ∷ c ∷ [])
    ≡ record { subject = Feed; name = name; numbers = a ∷ b ∷ c ∷ [] }
feed_by name a b c one two third =
    rw (leb-zero (length name), plain a one, plain b two, plain c third) refl

-- and behind `buffer`.
buffer_by : (name a b c d : List ℕ) → is_numeral a ≡ true → is_numeral b ≡ true
    → is_numeral c ≡ true → is_numeral d ≡ true
    → said_by report_forms (codes "buffer" ∷ name ∷ a ∷ b ∷ c ∷ d ∷ [])
    ≡ record { subject = Buffer; name = name; numbers = a ∷ b ∷ c ∷ d ∷ [] }
buffer_by name a b c d one two third last =
    rw (leb-zero (length name), plain a one, plain b two, plain c third, plain d last) refl

-- The line of the message-ids is read as what it says,
pub ids_read : (ids : Counts) (line : List ℕ) → ids.offered < 10 ^ 10 → ids.storing < 10 ^ 10
    → ids.stored < 10 ^ 10 → ids.refused < 10 ^ 10 → ids_line ids ≡ line ++ codes "\n"
    → said_line line ≡ ids_said ids
ids_read ids line a b c d is =
    let one = is_number 10 ids.offered (omega arith) a (omega (arith, a)) in
    let two = is_number 10 ids.storing (omega arith) b (omega (arith, b)) in
    let third = is_number 10 ids.stored (omega arith) c (omega (arith, c)) in
    let last = is_number 10 ids.refused (omega arith) d (omega (arith, d)) in
    let front = codes "ids    " ++ right_in 11 (decimal ids.offered)
    ++ right_in 11 (decimal ids.storing) ++ right_in 11 (decimal ids.stored)
    ++ right_in 11 (decimal ids.refused) in
    let same : line ≡ front = append_cancel_right line front (codes "\n") (sym is) in
    let told = ap (λ (more : List (List ℕ)). codes "ids" ∷ more)
    (four 11 11 11 11 ids.offered ids.storing ids.stored ids.refused one two third last) in
    let cut : words Spaces front
    ≡ codes "ids" ∷ decimal ids.offered ∷ decimal ids.storing ∷ decimal ids.stored
    ∷ decimal ids.refused ∷ [] = simp append_assoc (simp append_assoc at told) in
    ap said_line same ∙ ap (said_by report_forms) cut
    ∙ ids_by (decimal ids.offered) (decimal ids.storing) (decimal ids.stored) (decimal ids.refused)
    one.numeral two.numeral third.numeral last.numeral

-- that of a feed,
pub feed_read : (feed : NamedFeed) (line : List ℕ) → IsName feed.peer
    → feed.figures.waiting < 10 ^ 10 → feed.figures.gained < 10 ^ 19
    → feed.figures.overwritten < 10 ^ 10 → feed_line feed ≡ line ++ codes "\n"
    → said_line line ≡ feed_said feed
feed_read feed line named a b c is =
    let figures = feed.figures in
    let one = is_number 10 figures.waiting (omega arith) a (omega (arith, a)) in
    let two = is_number 19 figures.gained (omega arith) b (omega (arith, b)) in
    let third = is_number 10 figures.overwritten (omega arith) c (omega (arith, c)) in
    let front = codes "feed   " ++ name_column feed.peer ++ right_in 11 (decimal figures.waiting)
    ++ right_in 20 (decimal figures.gained) ++ right_in 11 (decimal figures.overwritten) in
    let same : line ≡ front = append_cancel_right line front (codes "\n") (sym is) in
    let told = ap (λ (more : List (List ℕ)). codes "feed" ∷ more)
    (three_named feed.peer (16 - length feed.peer) 11 20 11 figures.waiting figures.gained
    figures.overwritten named one two third) in
    let cut : words Spaces front
    ≡ codes "feed" ∷ feed.peer ∷ decimal figures.waiting ∷ decimal figures.gained
    ∷ decimal figures.overwritten ∷ [] = simp append_assoc (simp append_assoc at told) in
    ap said_line same ∙ ap (said_by report_forms) cut
    ∙ feed_by feed.peer (decimal figures.waiting) (decimal figures.gained)
    (decimal figures.overwritten) one.numeral two.numeral third.numeral

-- and that of a buffer.
pub buffer_read : (buffer : NamedBuffer) (line : List ℕ) → IsName buffer.name
    → buffer.figures.cycle < 10 ^ 10 → buffer.figures.front < 10 ^ 19
    → buffer.figures.begun < 10 ^ 10 → buffer.figures.stored < 10 ^ 10
    → buffer_line buffer ≡ line ++ codes "\n" → said_line line ≡ buffer_said buffer
buffer_read buffer line named a b c d is =
    let figures = buffer.figures in
    let one = is_number 10 figures.cycle (omega arith) a (omega (arith, a)) in
    let two = is_number 19 figures.front (omega arith) b (omega (arith, b)) in
    let third = is_number 10 figures.begun (omega arith) c (omega (arith, c)) in
    let last = is_number 10 figures.stored (omega arith) d (omega (arith, d)) in
    let front = codes "buffer " ++ name_column buffer.name ++ right_in 11 (decimal figures.cycle)
    ++ right_in 20 (decimal figures.front) ++ right_in 11 (decimal figures.begun)
    ++ right_in 11 (decimal figures.stored) in
    let same : line ≡ front = append_cancel_right line front (codes "\n") (sym is) in
    let told = ap (λ (more : List (List ℕ)). codes "buffer" ∷ more)
    (four_named buffer.name (16 - length buffer.name) 11 20 11 11 figures.cycle figures.front
    figures.begun figures.stored named one two third last) in
    let cut : words Spaces front
    ≡ codes "buffer" ∷ buffer.name ∷ decimal figures.cycle ∷ decimal figures.front
    ∷ decimal figures.begun ∷ decimal figures.stored ∷ [] =
    simp append_assoc (simp append_assoc at told) in
    ap said_line same ∙ ap (said_by report_forms) cut
    ∙ buffer_by buffer.name (decimal figures.cycle) (decimal figures.front)
    (decimal figures.begun) (decimal figures.stored) one.numeral two.numeral third.numeral
    last.numeral
