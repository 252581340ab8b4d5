-- The cutter was fed the pieces so far, joined.
use Rattle.std.proofs.Common.{◌≡◌, ◌++◌, ◌+◌, ◌-◌, ◌<◌, ℕ, arith, length, List, []}
use Rattle.std.proofs.Common.{◌∷◌, drop, map, false, Vec, OnOk, Result, Ok, Err, refl, sym, ap}
use Rattle.std.proofs.Common.{subst, ◌∙◌, append_assoc, append-nil}
use Rattle.std.specs.List.{flat_map}
use Rattle.std.specs.Result.{is_err}
use Rattle.std.proofs.lemmas.Bool.{true≢false}
use Rattle.std.proofs.lemmas.List.{drop_more, drop_all}
use Rattle.std.specs.declared.alloc.Global.{Global}
use Rattle.stream_cut.specs.declared.run.Want.{Want}
use Rattle.stream_cut.specs.declared.run.Want.TheVariants as want
use Rattle.stream_cut.specs.Stream.{Stream, with_memory, with_unread}
use Rattle.stream_cut.specs.Steps.{GoesOn}
use Rattle.stream_cut.specs.Cuts.{CutOff, cut_off, cuts_of, CutsUp}
use Rattle.stream_cut.proofs.RunLemmas.{cuts_of-nil, cuts_up}
use Rattle.stream_cut.proofs.run.cut_all.Goals as goal

-- what holds of an `Ok` holds where there is no error
on_no_error : {T E : Type 0} (r : Result T E) (P : Type 0) → is_err r ≡ false → OnOk r P → P
on_no_error (Ok x) P e h = h
on_no_error (Err y) P e h = absurd (true≢false e)

-- a stream that was fed nothing is sound
goes_on_new : (wants : List Want) (limit : ℕ) → GoesOn wants (record {
  unread = [];
  dropped = 0;
  held = 0;
  room = 0;
  limit = limit;
  overlong = false;
})
goes_on_new [] limit = tt
goes_on_new (want.Line ∷ wants) limit = (refl, refl)
goes_on_new (want.Block ∷ wants) limit = (refl, tt)

-- more octets leave it so
goes_on_more : (wants : List Want) (s : Stream) (octets : List ℕ) (held room : ℕ)
    → GoesOn wants s
    → GoesOn wants (with_memory (with_unread s octets) held room)
goes_on_more [] s octets held room h = tt
goes_on_more (want.Line ∷ wants) s octets held room h = h
goes_on_more (want.Block ∷ wants) s octets held room h = h

-- the pieces joined
abbrev joined : List (Vec ℕ Global) → List ℕ
joined pieces = flat_map (λ piece. piece.items) pieces

pub loop-piece-init : goal.loop-piece-init
loop-piece-init c =
    let made : c.new-cutter.result ≡ record {
      unread = [];
      dropped = 0;
      held = 0;
      room = 0;
      limit = c.args.max_block;
      overlong = false;
    } = c.new-cutter.ensures in
    let wants = c.args.wants.now in
    let limit = c.args.max_block in
    let all = joined c.args.pieces.now in
    record {
      sound = subst (GoesOn wants) (sym made) (goes_on_new wants limit);
      limit = ap (λ (s : Stream). s.limit) made;
      waits = ap (λ (s : Stream). cuts_of limit wants s.unread) made ∙ cuts_of-nil limit wants;
      cut = ap (λ (s : Stream). map cut_off c.new-cuts.result.items ++ cuts_of limit wants
          (s.unread ++ all)) made
          ∙ ap (λ x. map cut_off x ++ cuts_of limit wants all) c.new-cuts.ensures.items;
    }

-- what feeding leaves
grown : (c : goal.After-cuts-1) → c.feed.new.self ≡ with_memory (with_unread c.loop-piece.cutter
    (c.loop-piece.cutter.unread ++ c.deref.result.now)) c.feed.new.self.held c.feed.new.self.room
grown c =
    on_no_error c.feed.result _ (sym c.is_err.ensures.value ∙ c.if-is_err.false)
    c.feed.ensures.fed

pub cut_ready-requires : goal.cut_ready-requires
cut_ready-requires c =
    let left = drop c.loop-piece.next c.args.wants.now in
    record {
      sound = subst (GoesOn left) (sym (grown c)) (goes_on_more left c.loop-piece.cutter _
          c.feed.new.self.held c.feed.new.self.room c.loop-piece.invariant.sound);
    }

pub bounds-pieces-piece-index : goal.bounds-pieces-piece-index
bounds-pieces-piece-index c = c.loop-piece-test.true

-- fewer pieces are left
fewer : (i n : ℕ) → i < n → n - (i + 1) < n - i
fewer i n within = omega (arith, within)

pub loop-piece-smaller : goal.loop-piece-smaller
loop-piece-smaller c =
    fewer c.loop-piece.piece-index (length c.args.pieces.now) c.loop-piece-test.true

pub loop-piece-preserved : goal.loop-piece-preserved
loop-piece-preserved c =
    let wants = c.args.wants.now in
    let limit = c.args.max_block in
    let pieces = c.args.pieces.now in
    let i = c.loop-piece.piece-index in
    let old : Stream = c.loop-piece.cutter in
    let fed : Stream = c.feed.new.self in
    let inv = c.loop-piece.invariant in
    let after = c.in_ok-next.ensures in
    let more = joined (drop (i + 1) pieces) in
    let grown : fed ≡ with_memory (with_unread old (old.unread ++ c.deref.result.now)) fed.held
    fed.room = on_no_error
    c.feed.result _ (sym c.is_err.ensures.value ∙ c.if-is_err.false) c.feed.ensures.fed in
    let same : fed.limit ≡ limit = ap (λ (s : Stream). s.limit) grown ∙ inv.limit in
    let left : drop i pieces ≡ c.piece-item.result ∷ drop (i + 1) pieces =
    drop_more pieces i c.piece-item.result c.loop-piece-test.true
    ∙ ap (λ x. x ∷ drop (i + 1) pieces) (sym c.piece-item.is) in
    let rest : fed.unread ++ more ≡ old.unread ++ joined (drop i pieces) =
    ap (λ (s : Stream). s.unread ++ more) grown ∙ append_assoc old.unread c.deref.result.now more
    ∙ ap (λ (x : List ℕ). old.unread ++ (x ++ more)) c.deref.ensures.value
    ∙ ap (λ x. old.unread ++ joined x) (sym left) in
    let cut = subst (λ (n : ℕ). map cut_off c.cut_ready.new.cuts.items ++ cuts_of n
    (drop c.in_ok-next.next wants) (c.cut_ready.new.cutter.unread ++ more)
    ≡ map cut_off c.loop-piece.cuts.items ++ cuts_of n (drop c.loop-piece.next wants)
    (fed.unread ++ more)) same (after.cut more) in
    record {
      sound = after.sound;
      limit = after.limit ∙ same;
      waits = subst (λ (n : ℕ). cuts_of n
          (drop c.in_ok-next.next wants) c.cut_ready.new.cutter.unread ≡ []) same after.waits;
      cut = cut ∙ ap (λ (x : List ℕ). map cut_off c.loop-piece.cuts.items ++ cuts_of limit
          (drop c.loop-piece.next wants) x) rest ∙ inv.cut;
    }

pub returns-clause-cut : goal.returns-clause-cut
returns-clause-cut c =
    let wants = c.args.wants.now in
    let limit = c.args.max_block in
    let pieces = c.args.pieces.now in
    let inv = c.loop-piece.invariant in
    let unread = c.loop-piece.cutter.unread in
    let none : drop c.loop-piece.piece-index pieces ≡ [] =
    drop_all c.loop-piece.piece-index pieces c.loop-piece-test.false in
    let end : unread ++ joined (drop c.loop-piece.piece-index pieces) ≡ unread =
    ap (λ x. unread ++ joined x) none ∙ append-nil unread in
    sym (append-nil (map cut_off c.loop-piece.cuts.items))
    ∙ ap (λ (x : List CutOff). map cut_off c.loop-piece.cuts.items ++ x)
    (sym (ap (λ (x : List ℕ). cuts_of limit (drop c.loop-piece.next wants) x) end ∙ inv.waits))
    ∙ inv.cut

pub returns-clause-whole : goal.returns-clause-whole
returns-clause-whole c =
    let wants = c.args.wants.now in
    let limit = c.args.max_block in
    let pieces = c.args.pieces.now in
    subst (λ (x : List CutOff). (rest : List ℕ) × CutsUp limit wants x (joined pieces) rest)
    (sym (returns-clause-cut c)) (cuts_up limit wants (joined pieces))
