-- What a session says is the output.
use Rattle.std.proofs.Common.{◌≡◌, ◌≢◌, ◌≤◌, ℕ, Bool, true, false, List, [], Option}
use Rattle.std.proofs.Common.{refl, sym, ap}
use Rattle.std.proofs.Common.{◌∙◌, arith, true≢false, Vec}
use Rattle.std.proofs.lemmas.Bool.{eqb-true}
use Rattle.std.specs.Prelude.{length, vec_len, nat_eq}
use Rattle.std.specs.declared.alloc.Global.{Global}
use Rattle.peer_session.specs.Hearing.{Heeds}
use Rattle.peer_session.specs.Said.{IsSaid}
use Rattle.peer_session.specs.Session.{has_parted}
use Rattle.peer_session.specs.declared.session.Session.{Session}
use Rattle.peer_session.specs.declared.steps.Answer.{Answer}
use Rattle.peer_session.specs.declared.steps.Answer.TheVariants as answers
use Rattle.relay_model.specs.World as world
use Rattle.relay_model.specs.Terms.{Reason}
use Rattle.relay_model.specs.World.{Fault, Said, output_of, spoken}
use Rattle.relay_core.specs.Turns.{HeardAs, HearsMemory}
use Rattle.relay_core.specs.Views.{output_view}
use Rattle.relay_core.specs.declared.event.Output.{Output}
use Rattle.relay_core.specs.declared.event.Output.TheVariants as outputs

-- what was heard is told, where the output shows whatever is said
pub voiced : (n : ℕ) (why : Option Reason) (old new : Session) (answer : Answer) (said : List ℕ)
    (output : Output)
    → Heeds n old answer said new
    → ((s : Said) → IsSaid said (has_parted new) s → output_view output ≡ output_of n s why)
    → HeardAs n why old answer output new
voiced n why old new answer said output heeds shows =
    λ w m d gathered told for some planned is_answer.
    let h = heeds w m d gathered told planned is_answer in
    record {
      heard = h.heard;
      later = h.later;
      hears = h.hears;
      output_is = shows h.heard.said h.is_said ∙ ap (output_of n h.heard.said) (sym for);
      stands = h.stands;
      gathers = h.gathers;
    }

nothing_said : (said : Vec ℕ Global) → nat_eq (vec_len said) 0 ≡ true → 1 ≤ length said.items
    → ⊥
nothing_said said h some =
    let e : vec_len said ≡ 0 = eqb-true (vec_len said) 0 h in
    let size : vec_len said ≡ length said.items = said.ok.0 in
    omega arith

something_said : (said : Vec ℕ Global) → nat_eq (vec_len said) 0 ≡ false → said.items ≡ [] → ⊥
something_said said h none =
    let size : vec_len said ≡ 0 = said.ok.0 ∙ ap length none in
    true≢false (sym (ap (λ k. nat_eq k 0) size) ∙ h)

-- nothing was said
pub quiet : (n : ℕ) (why : Option Reason) (said : Vec ℕ Global) (parted : Bool)
    → nat_eq (vec_len said) 0 ≡ true
    → (s : Said) → IsSaid said.items parted s → output_view outputs.Quiet ≡ output_of n s why
quiet n why said parted h world.Silent is = refl
quiet n why said parted h (world.Speaks reply) is = absurd (nothing_said said h is.0.some)
quiet n why said parted h (world.Parts reply) is = absurd (nothing_said said h is.0.some)

-- a last reply was said
pub ended : (n : ℕ) (why : Option Reason) (said : Vec ℕ Global) (parted : Bool)
    → nat_eq (vec_len said) 0 ≡ false
    → parted ≡ true → (s : Said) → IsSaid said.items parted s
    → output_view (outputs.Ended n said.items) ≡ output_of n s why
ended n why said parted h right world.Silent is = absurd (something_said said h is)
ended n why said parted h right (world.Speaks reply) is =
    absurd (true≢false (sym right ∙ is.1))
ended n why said parted h right (world.Parts reply) is = ap (world.Ended n) is.0.text

-- another reply was said
pub sent : (n : ℕ) (why : Option Reason) (said : Vec ℕ Global) (parted : Bool)
    → nat_eq (vec_len said) 0 ≡ false
    → parted ≡ false → (s : Said) → IsSaid said.items parted s
    → spoken n said.items why ≡ output_of n s why
sent n why said parted h wrong world.Silent is = absurd (something_said said h is)
sent n why said parted h wrong (world.Speaks reply) is =
    ap (λ (octets : List ℕ). spoken n octets why) is.0.text
sent n why said parted h wrong (world.Parts reply) is =
    absurd (true≢false (sym is.1 ∙ wrong))

-- an answer that isn't want of memory isn't told so
pub told_other : (old : Session) (answer : Answer) (output : Output) (new : Session)
    → answer ≢ answers.Memory
    → ((fault : Fault) → output_view output ≡ world.Refuses fault → ⊥)
    → HearsMemory old answer output new
told_other old answer output new other done =
    record {
      told = λ e. absurd (other e);
      forgets = λ e. absurd (other e);
      only = λ fault is. absurd (done fault is);
    }
