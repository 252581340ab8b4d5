-- What a connection carries as it is written to, read from and stopped.
use Rattle.std.proofs.Common.{◌≡◌, ◌≢◌, ℕ, ◌++◌, Bool, true, false, List, [], ◌∷◌, Option, None}
use Rattle.std.proofs.Common.{Some, refl, sym, ap, subst, ◌∙◌, take, drop, if◌then◌else◌, length}
use Rattle.std.proofs.Common.{◌==◌, ⊎_elim, inl}
use Rattle.std.specs.Global.{Vec}
use Rattle.std.specs.Prelude.{is_some, unwrap_or, vec_len}
use Rattle.std.proofs.lemmas.Bool.{eqb-true}
use Rattle.std.proofs.lemmas.List.{append-nil, append_assoc, nil_from_length, take-append-drop}
use Rattle.std.proofs.lemmas.Option.{none-some}
use Rattle.live_session.specs.Carried.{Carried, Carries, CarriesOn, CarriesSame, EndsAs, HeardAs}
use Rattle.live_session.specs.Carried.{Lasts, LastsOrHeld, Refusal, WrittenAs, finish_of, is_break}
use Rattle.live_session.specs.Carried.{is_broken}
use Rattle.live_session.specs.Carried.{part_finish}
use Rattle.live_session.specs.Going.{parted_after}
use Rattle.live_session.specs.declared.commands.Command.{Command}
use Rattle.live_session.specs.declared.wire.Finish.{Finish}
use Rattle.live_session.specs.declared.wire.Finish.TheVariants as finishes

-- nothing more was read
heard_more : (broken : Bool) (read came : List ℕ) → HeardAs broken read came
    → HeardAs broken read (came ++ [])
heard_more false read came h = h ∙ sym (append-nil came)
heard_more true read came h = (h.0, h.1 ∙ ap (λ c. c ++ h.0) (sym (append-nil came)))

-- what wasn't broken and breaks has heard all up to here
heard_broken : (read came : List ℕ) → HeardAs false read came → HeardAs true read came
heard_broken read came h = ([], h ∙ sym (append-nil came))

-- this was said too, and waits
written_more : (broken : Bool) (written waiting replies said : List ℕ)
    → WrittenAs broken written waiting replies
    → WrittenAs broken written (waiting ++ said) (replies ++ said)
written_more false written waiting replies said h =
    sym (append_assoc written waiting said) ∙ ap (λ l. l ++ said) h
written_more true written waiting replies said h =
    (h.0 ++ said, sym (append_assoc written h.0 said) ∙ ap (λ l. l ++ said) h.1)

-- nothing is parted by a reply of a session that stays
parted_stays : (parted : Option (List ℕ)) (said : List ℕ) → parted_after parted false said ≡ parted
parted_stays parted [] = refl
parted_stays parted (octet ∷ octets) = refl

-- some octets of a session that leaves are its last reply
parted_some : (parted : Option (List ℕ)) (said : List ℕ) → said ≢ []
    → parted_after parted true said ≡ Some said
parted_some parted [] some = absurd (some refl)
parted_some parted (octet ∷ octets) some = refl

module _ (c : Carried) where
  -- a broken connection writes nothing
  pub flushed_broken : is_broken c.finish ≡ true → (waiting : List ℕ)
      → CarriesSame c (record c { waiting = waiting })
  flushed_broken broken waiting came replies parted carries = record {
    heard = carries.heard;
    written = subst (λ b. WrittenAs b c.written waiting replies) (sym broken)
        (subst (λ b. WrittenAs b c.written c.waiting replies) broken carries.written);
    ends = carries.ends;
  }

  -- all that waited is written
  pub flushed_whole : is_broken c.finish ≡ false → (written waiting : List ℕ)
      → written ≡ c.written ++ c.waiting → waiting ≡ []
      → CarriesSame c (record c { written = written; waiting = waiting })
  flushed_whole whole written waiting is none came replies parted carries = record {
    heard = carries.heard;
    written = subst (λ b. WrittenAs b written waiting replies) (sym whole)
        (ap (λ l. written ++ l) none ∙ append-nil written ∙ is
        ∙ subst (λ b. WrittenAs b c.written c.waiting replies) whole carries.written);
    ends = carries.ends;
  }

  -- a front of what waited is written, and the connection is broken
  pub flushed_part : is_broken c.finish ≡ false → (n : ℕ) (written waiting : List ℕ)
      → written ≡ c.written ++ take n c.waiting → CarriesSame c (record c {
        written = written;
        waiting = waiting;
        finish = Some finishes.Broken;
      })
  flushed_part whole n written waiting is came replies parted carries = record {
    heard = heard_broken c.heard came
        (subst (λ b. HeardAs b c.heard came) whole carries.heard);
    written = (
      drop n c.waiting,
      ap (λ l. l ++ drop n c.waiting) is
          ∙ append_assoc c.written (take n c.waiting) (drop n c.waiting)
          ∙ ap (λ l. c.written ++ l) (take-append-drop n c.waiting)
          ∙ subst (λ b. WrittenAs b c.written c.waiting replies) whole carries.written,
    );
    ends = tt;
  }

  -- what a session says waits
  pub appended : (waiting said : List ℕ) → waiting ≡ c.waiting ++ said
      → CarriesOn c (record c { waiting = waiting }) [] said false
  appended waiting said is came replies parted carries = record {
    heard = heard_more (is_broken c.finish) c.heard came carries.heard;
    written = subst (λ l. WrittenAs (is_broken c.finish) c.written l (replies ++ said)) (sym is)
        (written_more (is_broken c.finish) c.written c.waiting replies said carries.written);
    ends = subst (EndsAs c.finish) (sym (parted_stays parted said)) carries.ends;
  }

  -- nothing was said
  pub said_nothing : (leaves : Bool) (said : List ℕ) → said ≡ [] → CarriesOn c c [] said leaves
  said_nothing leaves said none came replies parted carries =
      subst (λ l. Carries c (came ++ []) (replies ++ l) (parted_after parted leaves l)) (sym none)
      (record {
        heard = heard_more (is_broken c.finish) c.heard came carries.heard;
        written = subst (WrittenAs (is_broken c.finish) c.written c.waiting)
            (sym (append-nil replies)) carries.written;
        ends = carries.ends;
      })

-- how it ends by its last reply
ends_of : (finish : Finish) (said : List ℕ) → finish_of said ≡ finish
    → EndsAs (Some finish) (Some said)
ends_of finishes.Quit said is = is
ends_of finishes.Fault said is = is
ends_of finishes.Broken said is = tt
ends_of finishes.TurnsSpent said is = tt
ends_of finishes.Held said is = tt

-- the last reply breaks nothing
unbroken_of : (said : List ℕ) (b : Bool)
    → is_broken (Some (if b then finishes.Quit else finishes.Fault)) ≡ false
unbroken_of said true = refl
unbroken_of said false = refl

parted_same : (finish : Option Finish) (said : List ℕ)
    → is_broken (part_finish finish said) ≡ is_broken finish
parted_same None said = unbroken_of said _
parted_same (Some finishes.Quit) said = unbroken_of said _
parted_same (Some finishes.Fault) said = unbroken_of said _
parted_same (Some finishes.Broken) said = refl
parted_same (Some finishes.TurnsSpent) said = refl
parted_same (Some finishes.Held) said = refl

parted_ends : (finish : Option Finish) (said : List ℕ)
    → EndsAs (part_finish finish said) (Some said)
parted_ends None said = ends_of (finish_of said) said refl
parted_ends (Some finishes.Quit) said = ends_of (finish_of said) said refl
parted_ends (Some finishes.Fault) said = ends_of (finish_of said) said refl
parted_ends (Some finishes.Broken) said = tt
parted_ends (Some finishes.TurnsSpent) said = tt
parted_ends (Some finishes.Held) said = tt

-- the last reply is said, and waits
pub parted_on : (c new : Carried) (said : List ℕ) → said ≢ []
    → CarriesOn (record c { finish = part_finish c.finish said }) new [] said false
    → CarriesOn c new [] said true
parted_on c new said some goes came replies parted carries =
    subst (Carries new (came ++ []) (replies ++ said))
    (parted_stays (Some said) said ∙ sym (parted_some parted said some))
    (goes came replies (Some said) (record {
      heard = subst (λ b. HeardAs b c.heard came) (sym (parted_same c.finish said)) carries.heard;
      written = subst (λ b. WrittenAs b c.written c.waiting replies)
          (sym (parted_same c.finish said)) carries.written;
      ends = parted_ends c.finish said;
    }))

-- a connection that hasn't ended ends so
stopped_ends : (finish : Finish) (parted : Option (List ℕ)) → is_break finish ≡ true
    → EndsAs (Some finish) parted
stopped_ends finishes.Quit parted breaks = cc
stopped_ends finishes.Fault parted breaks = cc
stopped_ends finishes.Broken parted breaks = tt
stopped_ends finishes.TurnsSpent parted breaks = tt
stopped_ends finishes.Held parted breaks = tt

stopped_heard : (broken : Bool) (read came : List ℕ) → HeardAs false read came
    → HeardAs broken read came
stopped_heard false read came h = h
stopped_heard true read came h = heard_broken read came h

stopped_written : (broken : Bool) (written waiting replies : List ℕ)
    → WrittenAs false written waiting replies → WrittenAs broken written waiting replies
stopped_written false written waiting replies h = h
stopped_written true written waiting replies h = (waiting, h)

pub stopped : (c : Carried) (finish : Finish) → is_break finish ≡ true → c.finish ≡ None
    → CarriesSame c (record c { finish = Some finish })
stopped c finish breaks none came replies parted carries =
    let heard = subst (λ f. HeardAs (is_broken f) c.heard came) none carries.heard in
    let written = subst (λ f. WrittenAs (is_broken f) c.written c.waiting replies) none
    carries.written in
    record {
      heard = stopped_heard (is_broken (Some finish)) c.heard came heard;
      written = stopped_written (is_broken (Some finish)) c.written c.waiting replies written;
      ends = stopped_ends finish parted breaks;
    }

-- a list that isn't empty has an item
pub some_of : (v : Vec ℕ) (empty : Bool) → empty ≡ (vec_len v == 0) → empty ≡ false → v.items ≢ []
some_of v empty is none nil =
    cc (sym none ∙ is ∙ ap (λ n. n == 0) (v.ok.0 ∙ ap length nil))

-- and one that is has none
pub none_of : (v : Vec ℕ) (empty : Bool) → empty ≡ (vec_len v == 0) → empty ≡ true → v.items ≡ []
none_of v empty is nothing =
    nil_from_length v.items (sym v.ok.0 ∙ eqb-true (vec_len v) 0 (sym is ∙ nothing))

-- a connection that was stopped for its turns is over for them where it had ended by nothing else
pub spent_by : (last stopped : Option Finish)
    → stopped ≡ Some (unwrap_or last finishes.TurnsSpent) → stopped ≡ Some finishes.TurnsSpent
    → unwrap_or last finishes.TurnsSpent ≡ finishes.TurnsSpent
spent_by last stopped stops is = ap (λ o. unwrap_or o finishes.Broken) (sym stops ∙ is)

-- a connection that is over for its turns hadn't ended while it had them
pub never_ended : {refuses : Command → Type 0} (conversed left last : Option Finish)
    → LastsOrHeld refuses None conversed → Lasts conversed left → Lasts left last
    → unwrap_or last finishes.TurnsSpent ≡ finishes.TurnsSpent → conversed ≡ None
never_ended conversed left None one two three is = two.ended (three.ended refl)
never_ended conversed left (Some finish) one two three is =
    absurd (none-some finishes.TurnsSpent (one.unspent (two.unspent (three.unspent (ap Some is)))))

-- what is over for its turns isn't held
spent-held : finishes.TurnsSpent ≡ finishes.Held → ⊥
spent-held is = cc

-- what is held once its turns would end it was held before
pub held_by : (last stopped : Option Finish)
    → stopped ≡ Some (unwrap_or last finishes.TurnsSpent) → stopped ≡ Some finishes.Held
    → last ≡ Some finishes.Held
held_by None stopped stops is =
    absurd (spent-held (ap (λ o. unwrap_or o finishes.Broken) (sym stops ∙ is)))
held_by (Some finish) stopped stops is = sym stops ∙ is

-- a connection that was held had a gate that said no
pub refused_by : {refuses : Command → Type 0} (conversed left last : Option Finish)
    → LastsOrHeld refuses None conversed → Lasts conversed left → Lasts left last
    → last ≡ Some finishes.Held → Refusal refuses
refused_by conversed left last one two three is =
    ⊎_elim (λ none. absurd (none-some finishes.Held none)) (λ refusal. refusal)
    (one.held (two.unheld (three.unheld is)))

-- what lasted over both parts of a turn lasts, and nothing was held in it
pub lasts_on : {refuses : Command → Type 0} (first mid last : Option Finish) → Lasts first mid
    → Lasts mid last → LastsOrHeld refuses first last
lasts_on first mid last one two = record {
  ended = λ none. one.ended (two.ended none);
  unspent = λ spent. one.unspent (two.unspent spent);
  held = λ held. inl (one.unheld (two.unheld held));
}

-- what is stopped for one reason had ended before, where it is over for another
pub stopped_for : (last stopped : Option Finish) (why other : Finish) → (why ≡ other → ⊥)
    → stopped ≡ Some (unwrap_or last why) → stopped ≡ Some other → last ≡ Some other
stopped_for None stopped why other differs stops is =
    absurd (differs (ap (λ o. unwrap_or o finishes.Broken) (sym stops ∙ is)))
stopped_for (Some finish) stopped why other differs stops is = sym stops ∙ is

-- what is stopped is over
pub stopped_over : (last stopped : Option Finish) (why : Finish)
    → stopped ≡ Some (unwrap_or last why) → stopped ≡ None → ⊥
stopped_over last stopped why stops none = none-some (unwrap_or last why) (sym none ∙ stops)

-- what had ended when it was stopped as broken lasts
pub lasts_broken : (last stopped : Option Finish)
    → stopped ≡ Some (unwrap_or last finishes.Broken) → Lasts last stopped
lasts_broken last stopped stops = record {
  ended = λ none. absurd (stopped_over last stopped finishes.Broken stops none);
  unspent = stopped_for last stopped finishes.Broken finishes.TurnsSpent (λ e. cc) stops;
  unheld = stopped_for last stopped finishes.Broken finishes.Held (λ e. cc) stops;
}

-- what breaks isn't ended for another reason
pub breaks : (last : Option Finish) → Lasts last (Some finishes.Broken)
breaks last = record {
  ended = λ none. absurd (none-some finishes.Broken (sym none));
  unspent = λ spent. absurd (cc);
  unheld = λ held. absurd (cc);
}

-- what stays lasts
pub lasts_same : (last : Option Finish) → Lasts last last
lasts_same last = record { ended = λ e. e; unspent = λ e. e; unheld = λ e. e }

-- an end is the end
pub end_of_some : (o : Option Finish) (other : Finish) → is_some o ≡ true
    → o ≡ Some (unwrap_or o other)
end_of_some None other some = cc
end_of_some (Some x) other some = refl

module _ (c : Carried) where
  -- a piece that was read and lost
  pub lost : (heard piece : List ℕ) → heard ≡ c.heard ++ piece → c.finish ≡ None
      → CarriesSame c (record c { heard = heard; finish = Some finishes.Broken })
  lost heard piece is none came replies parted carries = record {
    heard = (
      piece,
      is ∙ ap (λ l. l ++ piece)
          (subst (λ f. HeardAs (is_broken f) c.heard came) none carries.heard),
    );
    written = (
      c.waiting,
      subst (λ f. WrittenAs (is_broken f) c.written c.waiting replies) none carries.written,
    );
    ends = tt;
  }

  -- nothing was read
  pub same_heard : (heard : List ℕ) → heard ≡ c.heard → CarriesSame c (record c { heard = heard })
  same_heard heard is came replies parted carries = record {
    heard = subst (λ l. HeardAs (is_broken c.finish) l came) (sym is) carries.heard;
    written = carries.written;
    ends = carries.ends;
  }

  -- a piece that was read has come
  pub piece_came : (heard piece : List ℕ) → heard ≡ c.heard ++ piece → c.finish ≡ None
      → CarriesOn c (record c { heard = heard }) piece [] false
  piece_came heard piece is none came replies parted carries = record {
    heard = subst (λ f. HeardAs (is_broken f) heard (came ++ piece)) (sym none)
        (is ∙ ap (λ l. l ++ piece)
        (subst (λ f. HeardAs (is_broken f) c.heard came) none carries.heard));
    written = subst (WrittenAs (is_broken c.finish) c.written c.waiting) (sym (append-nil replies))
        carries.written;
    ends = carries.ends;
  }
