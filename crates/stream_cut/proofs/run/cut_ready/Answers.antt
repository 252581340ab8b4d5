-- What is wanted at a place goes on there.
use Rattle.std.proofs.Common.{◌<◌, ◌≤◌, ◌+◌, ◌++◌, ℕ, List, [], ◌∷◌, length, drop, get_or, map}
use Rattle.std.proofs.Common.{false}
use Rattle.std.proofs.Common.{◌≡◌, refl, sym, ap, subst, ◌∙◌, append-nil, Option}
use Rattle.std.proofs.Common.{Some, le_refl}
use Rattle.std.proofs.lemmas.List.{drop_all, drop_more, map-append}
use Rattle.std.proofs.lemmas.Result.{IfOk-at_ok}
use Rattle.stream_cut.specs.Stream.{Stream}
use Rattle.stream_cut.specs.Cuts.{CutOff, OfTooLong, cut_off, cuts_of, want_and_later}
use Rattle.stream_cut.specs.Steps.{CutsNext, Ends, GoesOn, KeepsLine, Waits}
use Rattle.stream_cut.specs.declared.run.Cut.{Cut}
use Rattle.stream_cut.specs.declared.run.Cut.TheVariants as cut
use Rattle.stream_cut.specs.declared.run.Want.{Want}
use Rattle.stream_cut.specs.declared.run.Want.TheVariants as want
use Rattle.stream_cut.proofs.run.cut_ready.Goals as goal

goes_on_at : (wants : List Want) (s : Stream) (at : ℕ) → at < length wants
    → GoesOn (drop at wants) s
    → (s.overlong ≡ false) × KeepsLine (get_or wants at want.Line) s
goes_on_at wants s at within h =
    subst (λ (ws : List Want). GoesOn ws s) (drop_more wants at want.Line within) h

pub loop-at-init : goal.loop-at-init
loop-at-init c = record { sound = c.requires.sound; limit = refl; cut = λ more. refl }

pub cut_next-requires-clause-sound : goal.cut_next-requires-clause-sound
cut_next-requires-clause-sound c =
    (goes_on_at c.args.wants.now c.loop-at.cutter c.loop-at.at c.loop-at-test.true
    c.loop-at.invariant.sound).0

pub cut_next-requires-clause-kept : goal.cut_next-requires-clause-kept
cut_next-requires-clause-kept c =
    (goes_on_at c.args.wants.now c.loop-at.cutter c.loop-at.at c.loop-at-test.true
    c.loop-at.invariant.sound).1

-- WHERE NOTHING MORE IS WANTED

nothing_goes_on : (wants : List Want) (s : Stream) (at : ℕ) → length wants ≤ at
    → GoesOn (drop at wants) s
nothing_goes_on wants s at past =
    subst (λ (ws : List Want). GoesOn ws s) (sym (drop_all at wants past)) tt

nothing_cut : (wants : List Want) (limit at : ℕ) (octets : List ℕ) → length wants ≤ at
    → cuts_of limit (drop at wants) octets ≡ []
nothing_cut wants limit at octets past =
    ap (λ (ws : List Want). cuts_of limit ws octets) (drop_all at wants past)

pub returns-clause-sound : goal.returns-clause-sound
returns-clause-sound c = c.loop-at.invariant.sound

pub returns-clause-limit : goal.returns-clause-limit
returns-clause-limit c = c.loop-at.invariant.limit

pub returns-clause-waits : goal.returns-clause-waits
returns-clause-waits c =
    nothing_cut c.args.wants.now c.args.cutter.now.limit c.loop-at.at c.loop-at.cutter.unread
    c.loop-at-test.false

pub returns-clause-cut : goal.returns-clause-cut
returns-clause-cut c = c.loop-at.invariant.cut

-- WHERE WHAT IS WANTED ISN'T WHOLE

-- the first want and what is cut after it
first_cuts : (wants : List Want) (limit at : ℕ) (octets : List ℕ) → at < length wants
    → cuts_of limit (drop at wants) octets
    ≡ want_and_later limit (get_or wants at want.Line)
    (λ rest. cuts_of limit (drop (at + 1) wants) rest) octets
first_cuts wants limit at octets within =
    ap (λ (ws : List Want). cuts_of limit ws octets) (drop_more wants at want.Line within)

waits_at : (wants : List Want) (old new : Stream) (at limit : ℕ) → at < length wants
    → old.limit ≡ limit → GoesOn (drop at wants) old
    → Waits old (get_or wants at want.Line) new
    → GoesOn (drop at wants) new × (cuts_of limit (drop at wants) new.unread ≡ [])
waits_at wants old new at limit within same sound h =
    let w = get_or wants at want.Line in
    let later = λ (rest : List ℕ). cuts_of limit (drop (at + 1) wants) rest in (
      subst (λ (ws : List Want). GoesOn ws new) (sym (drop_more wants at want.Line within)) (
        ap (λ (s : Stream). s.overlong) h.left ∙ (goes_on_at wants old at within sound).0,
        h.kept,
      ),
      first_cuts wants limit at new.unread within
          ∙ ap (λ (s : Stream). want_and_later limit w later s.unread) h.left
          ∙ ap (λ (n : ℕ). want_and_later n w later old.unread) (sym same)
          ∙ h.cuts later,
    )

-- what a step gave
waited : (c : goal.In-None) → Waits c.loop-at.cutter
    (get_or c.args.wants.now c.loop-at.at want.Line) c.cut_next.new.cutter
waited c =
    subst (λ (o : Option Cut). CutsNext c.loop-at.cutter
    (get_or c.args.wants.now c.loop-at.at want.Line) o c.cut_next.new.cutter) c.in-None.is
    (IfOk-at_ok (λ (o : Option Cut). CutsNext c.loop-at.cutter
    (get_or c.args.wants.now c.loop-at.at want.Line) o c.cut_next.new.cutter)
    c.in_ok-cut_next.was c.cut_next.ensures)

pub returns-in-None-clause-sound : goal.returns-in-None-clause-sound
returns-in-None-clause-sound c =
    (waits_at c.args.wants.now c.loop-at.cutter c.cut_next.new.cutter c.loop-at.at
    c.args.cutter.now.limit c.loop-at-test.true c.loop-at.invariant.limit
    c.loop-at.invariant.sound (waited c)).0

pub returns-in-None-clause-limit : goal.returns-in-None-clause-limit
returns-in-None-clause-limit c =
    ap (λ (s : Stream). s.limit) (waited c).left ∙ c.loop-at.invariant.limit

pub returns-in-None-clause-waits : goal.returns-in-None-clause-waits
returns-in-None-clause-waits c =
    (waits_at c.args.wants.now c.loop-at.cutter c.cut_next.new.cutter c.loop-at.at
    c.args.cutter.now.limit c.loop-at-test.true c.loop-at.invariant.limit
    c.loop-at.invariant.sound (waited c)).1

pub returns-in-None-clause-cut : goal.returns-in-None-clause-cut
returns-in-None-clause-cut c more =
    ap (λ (s : Stream). map cut_off c.loop-at.cuts.items ++ cuts_of c.args.cutter.now.limit
    (drop c.loop-at.at c.args.wants.now) (s.unread ++ more)) (waited c).left
    ∙ c.loop-at.invariant.cut more

-- WHERE A LINE IS TOO LONG

ended : (c : goal.In_ok-push-in-Some-TooLong) → Ends c.loop-at.cutter
    (get_or c.args.wants.now c.loop-at.at want.Line) c.cut_next.new.cutter
ended c =
    subst (λ (o : Option Cut). CutsNext c.loop-at.cutter
    (get_or c.args.wants.now c.loop-at.at want.Line) o c.cut_next.new.cutter)
    (c.in-Some-TooLong.is ∙ ap Some c.in-Some-TooLong.field-0-is)
    (IfOk-at_ok (λ (o : Option Cut). CutsNext c.loop-at.cutter
    (get_or c.args.wants.now c.loop-at.at want.Line) o c.cut_next.new.cutter)
    c.in_ok-cut_next.was c.cut_next.ensures)

pub returns-in-Some-TooLong-clause-sound : goal.returns-in-Some-TooLong-clause-sound
returns-in-Some-TooLong-clause-sound c =
    nothing_goes_on c.args.wants.now c.cut_next.new.cutter (length c.args.wants.now) (le_refl _)

pub returns-in-Some-TooLong-clause-limit : goal.returns-in-Some-TooLong-clause-limit
returns-in-Some-TooLong-clause-limit c = (ended c).limit ∙ c.loop-at.invariant.limit

pub returns-in-Some-TooLong-clause-waits : goal.returns-in-Some-TooLong-clause-waits
returns-in-Some-TooLong-clause-waits c =
    nothing_cut c.args.wants.now c.args.cutter.now.limit (length c.args.wants.now)
    c.cut_next.new.cutter.unread (le_refl _)

pub returns-in-Some-TooLong-clause-cut : goal.returns-in-Some-TooLong-clause-cut
returns-in-Some-TooLong-clause-cut c more =
    let wants = c.args.wants.now in
    let limit = c.args.cutter.now.limit in
    let at = c.loop-at.at in
    let old : Stream = c.loop-at.cutter in
    let later = λ (rest : List ℕ). cuts_of limit (drop (at + 1) wants) rest in
    let front = map cut_off c.loop-at.cuts.items in
    let last : cuts_of limit (drop at wants) (old.unread ++ more) ≡ OfTooLong ∷ [] =
    first_cuts wants limit at (old.unread ++ more) c.loop-at-test.true
    ∙ ap (λ (n : ℕ). want_and_later n (get_or wants at want.Line) later (old.unread ++ more))
    (sym c.loop-at.invariant.limit)
    ∙ (ended c).cuts later more in
    ap (λ (x : List CutOff). map cut_off c.push.new.self.items ++ x)
    (nothing_cut wants limit (length wants) _ (le_refl _))
    ∙ append-nil (map cut_off c.push.new.self.items)
    ∙ ap (map cut_off) c.in_ok-push-in-Some-TooLong.ensures.items
    ∙ map-append cut_off c.loop-at.cuts.items (cut.TooLong ∷ [])
    ∙ ap (λ (x : List CutOff). front ++ x) (sym last) ∙ c.loop-at.invariant.cut more
