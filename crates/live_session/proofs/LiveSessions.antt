-- Where a turn leaves a session on its course.
use Rattle.std.proofs.Common.{◌≡◌, ◌≢◌, ◌⊎◌, ◌≤◌, ℕ, ◌*◌, ◌++◌, Bool, true, false, List, []}
use Rattle.std.proofs.Common.{◌∷◌, Option}
use Rattle.std.proofs.Common.{None, Some, refl, sym, ap, subst, ◌∙◌, take, length, arith, inl, inr}
use Rattle.std.proofs.Common.{⊎_elim}
use Rattle.std.proofs.Math.Logic.{∥∥₁_map, ∥∥₁_elim, ∥∥₁_prop}
use Rattle.std.proofs.lemmas.List.{append-nil, append_assoc}
use Rattle.std.specs.Option.{IsSomeAnd}
use Rattle.boxcar.specs.Table.{Shelves, Where}
use Rattle.live_jobs.specs.Seats.{end_of}
use Rattle.live_session.proofs.Closing.{course_ends}
use Rattle.live_session.specs.Carried.{Begins, Carried, Carries, CarriesOn, CarriesSame}
use Rattle.live_session.specs.Carried.{IsServedBy, Serves, ServesOn}
use Rattle.live_session.specs.Course as course
use Rattle.live_session.specs.Course.{Breaks, Comes, Goes, Hands, HandsAfter, HearsBy}
use Rattle.live_session.specs.Course.{Turn, after_turn, broken_off, greeted, octets_of}
use Rattle.live_session.specs.Course.{parted_by, with_piece}
use Rattle.live_session.specs.Going.{AskFits, FrontFits, HearsAnswer, IsFrontOf, IsReadOf}
use Rattle.live_session.specs.Going.{KeepsButSession, KeepsPlace, LetsGo, SharesFor}
use Rattle.live_session.specs.Going.{StaysSame, WentOn, chunk_in, hands_of, parted_after, said_in}
use Rattle.live_session.specs.declared.live.LiveSession.{LiveSession}
use Rattle.live_session.specs.declared.live.Turned.{Turned}
use Rattle.live_session.specs.declared.live.Turned.TheVariants as turns
use Rattle.live_session.specs.declared.wire.Finish.{Finish}
use Rattle.live_session.specs.declared.wire.Finish.TheVariants as finishes
use Rattle.live_store.specs.Tied.{text_in}
use Rattle.live_store.specs.declared.record.StorePremises.{Ghosts}
use Rattle.live_store.specs.declared.writing.entering.Record.{Record}
use Rattle.news_terms.specs.Reply.{Greeting, reply_text}
use Rattle.peer_session.specs.Answers.{AsksOf}
use Rattle.peer_session.specs.Hearing.{Gathers}
use Rattle.peer_session.specs.Planning.{DueGiven, Planned}
use Rattle.peer_session.specs.Said.{IsSaid}
use Rattle.peer_session.specs.Session.{BrokenOff, Fed, Stands, has_parted}
use Rattle.peer_session.specs.Session.{session_view}
use Rattle.peer_session.specs.declared.steps.Answer.{Answer}
use Rattle.peer_session.specs.declared.steps.Answer.TheVariants as answers
use Rattle.peer_session.specs.declared.steps.Step.{Step}
use Rattle.peer_session.proofs.Phases.{not_running}
use Rattle.relay_model.specs.Asks as asks
use Rattle.relay_model.specs.Asks.{Ask}
use Rattle.relay_model.specs.Hears.{silent}
use Rattle.relay_model.specs.Run.{is_reading, is_running, new_session}
use Rattle.relay_model.specs.Shares as shares
use Rattle.relay_model.specs.State as model
use Rattle.relay_model.specs.State.{in_phase}
use Rattle.relay_model.specs.Terms.{Terms, last_moment}
use Rattle.relay_model.specs.World.{Parts, Said, Silent, Speaks}

-- the octets are those of what is said
octets_are : (octets : List ℕ) (parted : Bool) (said : Said) → IsSaid octets parted said
    → octets ≡ octets_of said
octets_are octets parted Silent is = is
octets_are octets parted (Speaks reply) is = is.0.text
octets_are octets parted (Parts reply) is = is.0.text

-- no reply is empty
parted_spoken : (octets : List ℕ) (leaves : Bool) (before : Option (List ℕ))
    → leaves ≡ false → before ≡ parted_after before leaves octets
parted_spoken [] leaves before stays = refl
parted_spoken (octet ∷ octets) false before stays = refl
parted_spoken (octet ∷ octets) true before stays = cc

parted_told : (octets : List ℕ) (leaves : Bool) (before : Option (List ℕ)) → leaves ≡ true
    → 1 ≤ length octets → Some octets ≡ parted_after before leaves octets
parted_told [] leaves before goes some = absurd (omega (arith, some))
parted_told (octet ∷ octets) true before goes some = refl
parted_told (octet ∷ octets) false before goes some = cc

-- what it parted with, by its octets
parted_are : (octets : List ℕ) (leaves : Bool) (before : Option (List ℕ)) (said : Said)
    → IsSaid octets leaves said → parted_by before said ≡ parted_after before leaves octets
parted_are octets leaves before Silent is =
    ap (parted_after before leaves) (sym is)
parted_are octets leaves before (Speaks reply) is = parted_spoken octets leaves before is.1
parted_are octets leaves before (Parts reply) is =
    ap Some (sym is.0.text) ∙ parted_told octets leaves before is.1 is.0.some

-- what holds of the value follows from what held of it
some_then : {T : Type 0} (P Q : T → Type 0) (o : Option T) → ((x : T) → P x → Q x)
    → IsSomeAnd o P → IsSomeAnd o Q
some_then P Q None then is = absurd is
some_then P Q (Some x) then is = then x is

-- what is asked fits what was gathered
asks_fit : (w : Terms) (m : model.Session) (gathered : List ℕ) (shown : Option (Where Record))
    (ask : Ask) → AsksOf w m gathered ask → FrontFits shown m.phase gathered
    → AskFits shown ask gathered
asks_fit w m gathered shown (asks.Reads asked token had) (inl here) front =
    front asked token had here
asks_fit w m gathered shown (asks.Reads asked token had) (inr begins) front =
    inl (begins.1, begins.0)
asks_fit w m gathered shown asks.Rests is front = tt
asks_fit w m gathered shown asks.GoesOn is front = tt
asks_fit w m gathered shown (asks.Says reply) is front = tt
asks_fit w m gathered shown (asks.Leaves reply) is front = tt
asks_fit w m gathered shown (asks.Offers transfer id) is front = tt
asks_fit w m gathered shown (asks.Looks part id) is front = tt
asks_fit w m gathered shown (asks.TakesQueue feed most) is front = tt
asks_fit w m gathered shown (asks.Refuses transfer id reason) is front = tt
asks_fit w m gathered shown (asks.Takes transfer id article) is front = tt
asks_fit w m gathered shown (asks.Pushes job) is front = tt
asks_fit w m gathered shown (asks.LooksInSlot transfer id) is front = tt
asks_fit w m gathered shown (asks.Releases id) is front = tt
asks_fit w m gathered shown asks.Ends is front = tt

-- a turn that rests or is held says nothing
pub unsaid : (turned : Turned) → (turned ≡ turns.Rests) ⊎ (turned ≡ turns.Held)
    → said_in turned ≡ []
unsaid turned = ⊎_elim (ap said_in) (ap said_in)

-- want of memory is told from every other answer
memory_or_not : (answer : Answer) → (answer ≡ answers.Memory) ⊎ (answer ≢ answers.Memory)
memory_or_not answers.Memory = inl refl
memory_or_not answers.Nothing = inr (λ is. cc)
memory_or_not (answers.Offer offer) = inr (λ is. cc)
memory_or_not (answers.Look token) = inr (λ is. cc)
memory_or_not (answers.Chunk chunk) = inr (λ is. cc)
memory_or_not (answers.Queue taken) = inr (λ is. cc)
memory_or_not (answers.Take told) = inr (λ is. cc)
memory_or_not (answers.Pushed has_room) = inr (λ is. cc)
memory_or_not (answers.Slot outcome) = inr (λ is. cc)

-- what was gathered by an answer is the front of the record's text
front_heard : (ask : Ask) (told : shares.Answer) (phase : model.Phase) (later : List ℕ)
    (shown : Option (Where Record)) → Gathers ask told phase later → IsReadOf shown told
    → FrontFits shown phase later
front_heard ask told phase later shown gathers read asked token had is =
    by (subst (λ p. Gathers ask told p later) is gathers)
  where
    by : Gathers ask told (model.Fetches asked token had) later → IsFrontOf shown had later
    by (inl none) = inl (none.1, none.0)
    by (inr (before, text, asks_it, tells, front)) =
        inr (some_then (λ one. text ≡ text_in one) (λ one. later ≡ take (480 * had) (text_in one))
        shown (λ one same. front ∙ ap (take (480 * had)) same)
        (subst (IsReadOf shown) tells read))

module _ {J : Type 0} {g : Ghosts J} (w : Terms) (old new : LiveSession J g) where
  -- a session that stands for what it stood for is where it was
  pub still : new.reads.shown ≡ old.reads.shown → hands_of new ≡ hands_of old
      → KeepsPlace old new
      → ((m : model.Session) (gathered : List ℕ) → Stands w old.session m gathered
      → Stands w new.session m gathered) → WentOn w old [] new
  still reads hands place stands honest trust s end first p going = ∣ record {
    at = p;
    going = record {
      course = going.course;
      stands = stands p.session p.gathered going.stands;
      front = λ trusted. subst (λ shown. FrontFits shown p.session.phase p.gathered)
          (sym reads) (going.front trusted);
      hands = going.hands ∙ sym hands;
      number = place.number ∙ going.number;
      end_is = place.end_is ∙ going.end_is;
    };
    heard = refl;
    said_is = sym (append-nil p.said);
    parted = refl;
  } ∣₁

  -- a session that planned, shared and heard goes on by that turn
  pub went : (step : Step) (now : ℕ) (between after : LiveSession J g) (answer : Answer)
      (said : List ℕ)
      → now ≤ last_moment → DueGiven w old.session now step between.session
      → KeepsButSession old between → SharesFor w step between answer after
      → KeepsPlace between after → HearsAnswer after answer said new
      → KeepsButSession after new → answer ≢ answers.Memory → WentOn w old said new
  went step now between after answer said moment plans rest shares_it place hears_it kept some
      honest trust s end first p going =
      let plan = plans p.session p.gathered going.stands in
      let fits : honest ≡ true → AskFits between.reads.shown plan.due.ask p.gathered =
      λ trusted. asks_fit w p.session p.gathered between.reads.shown plan.due.ask plan.asks_of
      (subst (λ shown. FrontFits shown p.session.phase p.gathered) (sym rest.reads)
      (going.front trusted)) in
      ∥∥₁_map (shares_it honest trust p.session plan.due p.gathered plan.planned plan.is_step
      fits some)
      (λ shared.
      let heard = hears_it honest w p.session plan.due p.gathered shared.told some
      shared.planned shared.answers in
      let turn : Turn = record {
        now = now;
        due = plan.due;
        chunk = chunk_in answer;
        told = shared.told;
        heard = heard.heard;
      } in
      let number : after.number ≡ s = place.number ∙ rest.place.number ∙ going.number in
      let end_here : end_of between.seat ≡ end = rest.place.end_is ∙ going.end_is in
      let hands : HandsAfter end plan.due.ask shared.told p.hands (hands_of new) =
      subst (λ e. HandsAfter e plan.due.ask shared.told p.hands (hands_of new)) end_here
      (subst (λ h. HandsAfter (end_of between.seat) plan.due.ask shared.told h (hands_of new))
      (rest.hands ∙ sym going.hands)
      (subst (HandsAfter (end_of between.seat) plan.due.ask shared.told (hands_of between))
      (sym kept.hands) shared.hands)) in
      record {
        at = after_turn p turn (hands_of new);
        going = record {
          course = Goes p turn (hands_of new) going.course (record {
            moment = moment;
            due = plan.is_due;
            hears = subst (λ n. HearsBy honest n plan.due.after plan.due.ask shared.told
                heard.heard) number heard.hears;
            found = shared.found;
            held = shared.held;
          }) hands;
          stands = subst (λ l. Stands w new.session heard.heard.session l) heard.later_is
              heard.stands;
          front = λ trusted. subst (λ l. FrontFits new.reads.shown heard.heard.session.phase l)
              heard.later_is
              (subst (λ shown. FrontFits shown heard.heard.session.phase heard.later)
              (sym kept.reads)
              (front_heard plan.due.ask shared.told heard.heard.session.phase heard.later
              after.reads.shown (heard.gathers trusted) (shared.read trusted)));
          hands = refl;
          number = kept.place.number ∙ number;
          end_is = kept.place.end_is ∙ place.end_is ∙ end_here;
        };
        heard = refl;
        said_is = ap (λ l. p.said ++ l)
            (sym (octets_are said (has_parted new.session) heard.heard.said heard.is_said));
        parted = parted_are said (has_parted new.session) p.parted heard.heard.said heard.is_said;
      })

  -- a session that forgets what it planned is where it was
  pub let_go : (step : Step) (now : ℕ) (between after : LiveSession J g) (said : List ℕ)
      → DueGiven w old.session now step between.session → KeepsButSession old between
      → StaysSame between after → KeepsPlace between after → LetsGo after said new
      → KeepsButSession after new → WentOn w old [] new
  let_go step now between after said plans rest same place lets kept =
      still (kept.reads ∙ same.reads ∙ rest.reads) (kept.hands ∙ same.hands ∙ rest.hands)
      (record {
        number = kept.place.number ∙ place.number ∙ rest.place.number;
        end_is = kept.place.end_is ∙ place.end_is ∙ rest.place.end_is;
      })
      (λ m gathered stands.
      let plan = plans m gathered stands in
      lets.forgets w m plan.due gathered
      (subst (λ s. Planned w s m plan.due gathered false) (sym same.session) plan.planned))

  -- a turn is had, unless memory was refused
  pub turned : (step : Step) (now : ℕ) (between after : LiveSession J g) (answer : Answer)
      (said : List ℕ) → now ≤ last_moment → DueGiven w old.session now step between.session
      → KeepsButSession old between → SharesFor w step between answer after
      → KeepsPlace between after → (answer ≡ answers.Memory → StaysSame between after)
      → HearsAnswer after answer said new → (answer ≡ answers.Memory → LetsGo after said new)
      → KeepsButSession after new → WentOn w old said new
  turned step now between after answer said moment plans rest shares_it place same hears_it lets
      kept = by (memory_or_not answer)
    where
      by : (answer ≡ answers.Memory) ⊎ (answer ≢ answers.Memory) → WentOn w old said new
      by (inl is) = subst (λ l. WentOn w old l new) (sym (lets is).silent)
          (let_go step now between after said plans rest (same is) place (lets is) kept)
      by (inr some) = went step now between after answer said moment plans rest shares_it place
          hears_it kept some

  -- where a turn went on and what it said is carried, the session is served further
  pub served_turn : (said : List ℕ) (c c' : Carried) → WentOn w old said new
      → CarriesOn c c' [] said (has_parted new.session) → ServesOn w old new c c'
  served_turn said c c' goes carries_on honest trust s end first read written serves =
      ∥∥₁_elim serves (∥∥₁_prop) (λ one.
      ∥∥₁_map (goes honest trust s end first one.at one.going) (λ to.
      let carries = carries_on (read ++ one.at.heard) (written ++ one.at.said) one.at.parted
      one.carries in
      record {
        at = to.at;
        going = to.going;
        carries = subst (λ l. Carries c' (read ++ l) (written ++ to.at.said) to.at.parted)
            (sym to.heard)
            (subst (λ l. Carries c' (read ++ one.at.heard) (written ++ l) to.at.parted)
            (sym to.said_is)
            (subst (Carries c' (read ++ one.at.heard) (written ++ (one.at.said ++ said)))
            (sym to.parted)
            (subst (λ l. Carries c' l (written ++ (one.at.said ++ said))
            (parted_after one.at.parted (has_parted new.session) said))
            (append-nil (read ++ one.at.heard))
            (subst (λ l. Carries c' ((read ++ one.at.heard) ++ []) l
            (parted_after one.at.parted (has_parted new.session) said))
            (append_assoc written one.at.said said) carries))));
      }))

  -- a session that still reads breaks off
  pub gone : BrokenOff old.session new.session
      → is_reading (session_view old.session).phase ≡ true
      → new.reads.shown ≡ old.reads.shown → hands_of new ≡ hands_of old → KeepsPlace old new
      → (c : Carried) → ServesOn w old new c c
  gone breaks reads shown hands place c honest trust s end first read written serves =
      ∥∥₁_map serves (λ one. record {
        at = broken_off one.at;
        going = record {
          course = Breaks one.at one.going.course
              (ap (λ (m : model.Session). is_reading m.phase) one.going.stands.is ∙ reads);
          stands = breaks w one.at.session one.at.gathered one.going.stands;
          front = λ trusted asked token had is. cc;
          hands = one.going.hands ∙ sym hands;
          number = place.number ∙ one.going.number;
          end_is = place.end_is ∙ one.going.end_is;
        };
        carries = one.carries;
      })

  -- a piece has come
  pub fed : (piece : List ℕ) → Fed old.session piece new.session
      → is_reading (session_view old.session).phase ≡ true
      → new.reads.shown ≡ old.reads.shown → hands_of new ≡ hands_of old → KeepsPlace old new
      → (c c' : Carried) → CarriesOn c c' piece [] false → ServesOn w old new c c'
  fed piece feeds reads shown hands place c c' carries_on honest trust s end first read written
      serves =
      ∥∥₁_map serves (λ one.
      let carries = carries_on (read ++ one.at.heard) (written ++ one.at.said) one.at.parted
      one.carries in
      record {
        at = with_piece piece one.at;
        going = record {
          course = Comes one.at piece one.going.course
              (ap (λ (m : model.Session). is_reading m.phase) one.going.stands.is ∙ reads);
          stands = feeds w one.at.session one.at.gathered one.going.stands;
          front = λ trusted.
              subst (λ shown_one. FrontFits shown_one one.at.session.phase one.at.gathered)
              (sym shown) (one.going.front trusted);
          hands = one.going.hands ∙ sym hands;
          number = place.number ∙ one.going.number;
          end_is = place.end_is ∙ one.going.end_is;
        };
        carries = subst (λ l. Carries c' l (written ++ one.at.said) one.at.parted)
            (append_assoc read one.at.heard piece)
            (subst (λ l. Carries c' ((read ++ one.at.heard) ++ piece) l one.at.parted)
            (append-nil (written ++ one.at.said)) carries);
      })

  -- nothing came to the session, and it stands for what it stood for
  pub served_still : WentOn w old [] new → (c c' : Carried) → CarriesSame c c'
      → ServesOn w old new c c'
  served_still goes c c' same honest trust s end first read written serves =
      ∥∥₁_elim serves (∥∥₁_prop) (λ one.
      ∥∥₁_map (goes honest trust s end first one.at one.going) (λ to. record {
        at = to.at;
        going = to.going;
        carries = subst (λ l. Carries c' (read ++ l) (written ++ to.at.said) to.at.parted)
            (sym to.heard)
            (subst (λ l. Carries c' (read ++ one.at.heard) (written ++ l) to.at.parted)
            (sym (to.said_is ∙ append-nil one.at.said))
            (subst (Carries c' (read ++ one.at.heard) (written ++ one.at.said)) (sym to.parted)
            (same (read ++ one.at.heard) (written ++ one.at.said) one.at.parted one.carries)));
      }))

module _ {J : Type 0} {g : Ghosts J} (w : Terms) (live : LiveSession J g) (peer : ℕ)
    (read written : List ℕ) where
  -- a session that has just been opened is on its course, and its greeting waits
  pub begun : (honest : Bool) (octets : List ℕ) → Begins w peer live.session octets
      → Serves honest w live.number (end_of live.seat) (greeted peer (hands_of live)) read written
      live
      (record { heard = read; written = written; waiting = octets; finish = None })
  begun honest octets begins = record {
    at = greeted peer (hands_of live);
    going = record {
      course = course.Begins;
      stands = begins.stands;
      front = λ trusted asked token had is. cc;
      hands = refl;
      number = refl;
      end_is = refl;
    };
    carries = record {
      heard = sym (append-nil read);
      written = ap (λ l. written ++ l) begins.greeting;
      ends = tt;
    };
  }

  -- a session that is closed, with nothing left to write, was served
  pub ended : (honest : Bool) (s end : ℕ) (before : Hands) (c : Carried) (finish : Finish)
      → c.finish ≡ Some finish → c.waiting ≡ []
      → is_running (session_view live.session).phase ≡ false
      → Serves honest w s end (greeted peer before) read written live c
      → IsServedBy honest g.register w s end peer before read written finish (hands_of live)
      c.heard c.written
  ended honest s end before c finish is none closes serves =
      let here = not_running serves.at.session.phase
      (ap (λ (m : model.Session). is_running m.phase) serves.going.stands.is ∙ closes) in
      let nothing = course_ends honest g.register w s end (greeted peer before) serves.at (λ at. cc)
      serves.going.course here in
      record {
        at = serves.at;
        course = serves.going.course;
        closed = record { phase = here; hand = nothing.0; offers = nothing.1 };
        carries = subst (λ l. Carries (record {
          heard = c.heard;
          written = c.written;
          waiting = l;
          finish = Some finish;
        }) (read ++ serves.at.heard) (written ++ serves.at.said) serves.at.parted) none
            (subst (λ f. Carries (record {
              heard = c.heard;
              written = c.written;
              waiting = c.waiting;
              finish = f;
            }) (read ++ serves.at.heard) (written ++ serves.at.said) serves.at.parted) is
            serves.carries);
        hands = serves.going.hands;
      }

-- a session that breaks off at its greeting, with no job and no offer, ends by its next turn
abbrev last_turn : ℕ → Turn
last_turn peer =
    let left = in_phase (new_session peer) model.Leaving in
    record {
      now = 0;
      due = asks.due_as asks.Ends left;
      chunk = None;
      told = shares.Nothing;
      heard = silent (in_phase left model.Ended);
    }

-- it ends silently, over honest stores or any
last_heard : (honest : Bool) (s peer : ℕ) → HearsBy honest s (last_turn peer).due.after asks.Ends
    shares.Nothing (last_turn peer).heard
last_heard true s peer = refl
last_heard false s peer = refl

-- a session for which there was no memory read and wrote nothing
pub unbegun : (honest : Bool) (register : Shelves) (w : Terms) (s end peer : ℕ) (hands : Hands)
    (read written : List ℕ)
    → IsServedBy honest register w s end peer hands read written finishes.Broken hands read written
unbegun honest register w s end peer hands read written = record {
  at = after_turn (broken_off (greeted peer hands)) (last_turn peer) hands;
  course = Goes (broken_off (greeted peer hands)) (last_turn peer) hands
      (Breaks (greeted peer hands) course.Begins refl)
      (record {
        moment = omega arith;
        due = refl;
        hears = last_heard honest s peer;
        found = tt;
        held = λ id article holds held. cc;
      }) refl;
  closed = record { phase = refl; hand = refl; offers = refl };
  carries = record {
    heard = ([], sym (append-nil (read ++ []) ∙ append-nil read));
    written = (reply_text Greeting ++ [], refl);
    ends = tt;
  };
  hands = refl;
}

-- so it is where its end, its connection and how it ended are those
pub unbegun_as : (honest : Bool) (register : Shelves) (w : Terms) (s end peer : ℕ) (hands : Hands)
    (read written : List ℕ) (finish : Finish) (after : Hands) (read' written' : List ℕ)
    → finish ≡ finishes.Broken → after ≡ hands → read' ≡ read → written' ≡ written
    → IsServedBy honest register w s end peer hands read written finish after read' written'
unbegun_as honest register w s end peer hands read written finish after read' written' f a r t =
    subst (λ (x : Finish × (Hands × (List ℕ × List ℕ))).
    IsServedBy honest register w s end peer hands read written x.0 x.1.0 x.1.1.0 x.1.1.1)
    (λ i. (sym f i, (sym a i, (sym r i, sym t i))))
    (unbegun honest register w s end peer hands read written)

module _ {J : Type 0} {g : Ghosts J} (w : Terms) where
  -- nothing more than the connection has changed
  pub then_same : (old new : LiveSession J g) (c mid c' : Carried) → ServesOn w old new c mid
      → CarriesSame mid c' → ServesOn w old new c c'
  then_same old new c mid c' serves same honest trust s end first read written here =
      ∥∥₁_map (serves honest trust s end first read written here) (λ one. record {
        at = one.at;
        going = one.going;
        carries = same (read ++ one.at.heard) (written ++ one.at.said) one.at.parted one.carries;
      })

  -- one after the other
  pub then_on : (old mid new : LiveSession J g) (c c1 c' : Carried) → ServesOn w old mid c c1
      → ServesOn w mid new c1 c' → ServesOn w old new c c'
  then_on old mid new c c1 c' one other honest trust s end first read written here =
      other honest trust s end first read written (one honest trust s end first read written here)

  -- a session that was opened, and served until it was closed, was served as a whole
  pub whole : (honest : Bool) → (honest ≡ true → g.trusted ≡ true) → (old new : LiveSession J g)
      (peer : ℕ) (read written octets : List ℕ) (c c' : Carried) (finish : Finish)
      → Begins w peer old.session octets
      → ServesOn w old new
      (record { heard = read; written = written; waiting = octets; finish = None }) c
      → CarriesSame c c' → c'.finish ≡ Some finish → c'.waiting ≡ []
      → is_running (session_view new.session).phase ≡ false
      → ∥ IsServedBy honest g.register w old.number (end_of old.seat) peer (hands_of old) read
      written finish (hands_of new) c'.heard c'.written ∥₁
  whole honest trust old new peer read written octets c c' finish begins serves same is none
      closes =
      let first = greeted peer (hands_of old) in
      ∥∥₁_map (serves honest trust old.number (end_of old.seat) first read written
      ∣ begun w old peer read written honest octets begins ∣₁)
      (λ one. ended w new peer read written honest old.number (end_of old.seat) (hands_of old) c'
      finish is none closes (record {
        at = one.at;
        going = one.going;
        carries = same (read ++ one.at.heard) (written ++ one.at.said) one.at.parted one.carries;
      }))
