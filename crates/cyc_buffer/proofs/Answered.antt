-- What a start answers of a device that holds a buffer as stopped, and of any other.
use Rattle.std.proofs.Common.{◌≡◌, ◌∙◌, ℕ, ◌+◌, ◌<◌, ◌≤◌, inl, inr, true}
use Rattle.std.proofs.Common.{sym, ap, subst, arith, List, map}
use Rattle.std.specs.List.{Contains}
use Rattle.std.proofs.lemmas.Bool.{false≢true}
use Rattle.news_terms.specs.HeadBlocks.{HeadBlock, Open, Closed}
use Rattle.news_terms.specs.Places.{Buffer, size_of}
use Rattle.news_terms.specs.Token as terms
use Rattle.cyc_token.specs.Token.{token_view}
use Rattle.cyc_token.specs.declared.Token.{Token}
use Rattle.cyc_buffer.specs.Agreement.{Holds}
use Rattle.cyc_buffer.specs.History.{History, cycle_of}
use Rattle.cyc_buffer.specs.Marks.{is_marked}
use Rattle.cyc_buffer.specs.Reads.{HasStarted, IsRefusedBy}
use Rattle.cyc_buffer.specs.BufferState.{Keeps, buffer_of, numbers_in}
use Rattle.cyc_buffer.specs.Starting.{IsOutside, IsReason, ListsLive, Starts}
use Rattle.cyc_buffer.specs.Stopped.{HoldsStopped, IsDamaged, IsLiveToken, IsWhole, Says}
use Rattle.cyc_buffer.specs.Stopped.{numbers_of}
use Rattle.cyc_buffer.specs.Stopped.{HeadAbove, CycleBelow, BegunAbove, StoredAbove, BitBeyond}
use Rattle.cyc_buffer.specs.Stopped.{NotWhole, IsRising, has_bit, used_of}
use Rattle.cyc_buffer.specs.declared.answers.StartError.{StartError}
use Rattle.cyc_buffer.specs.declared.answers.StartError.TheVariants as errors
use Rattle.cyc_buffer.specs.declared.buffer_state.BufferState.{BufferState}
use Rattle.cyc_buffer.proofs.Finished.{lies}
use Rattle.cyc_buffer.proofs.Numbers.{live_place, live_unpassed}
use Rattle.cyc_buffer.proofs.Restored.{all_rising, listed_whole, told, whole_at, whole_listed}
use Rattle.cyc_buffer.proofs.Restored.{whole_marked}
use Rattle.cyc_buffer.proofs.Sound.{head_within, not_damaged, whole_live}
use Rattle.cyc_buffer.proofs.StartLemmas.{IsCovered, IsMarkedWhole, IsReadFirst, holds_started}
use Rattle.cyc_buffer.proofs.StartLemmas.{keeps_started, read_first}
use Rattle.cyc_buffer.proofs.Whole.{end_behind}

open_closed : Open ≡ Closed → ⊥
open_closed e = cc

-- What a start says of the device, whatever it holds.
module _ (heads blocks : List (List ℕ)) (buffer : Buffer) (stop : ℕ) (buffer_state : BufferState)
    (tokens : List Token) (s : HasStarted heads blocks buffer stop buffer_state tokens) where
  -- nothing is wrong with the device
  not_wrong : IsDamaged heads blocks s.numbers → ⊥
  not_wrong (HeadAbove e) = omega (arith, e, s.sound.head)
  not_wrong (CycleBelow e) = omega (arith, e, s.sound.cycle)
  not_wrong (BegunAbove e) = omega (arith, e, s.sound.begun)
  not_wrong (StoredAbove e) = omega (arith, e, s.sound.stored)
  not_wrong (BitBeyond j behind within e) =
      false≢true (sym (s.beyond j behind within) ∙ e)
  not_wrong (NotWhole j within e none) =
      let at = whole_at heads blocks s.numbers buffer_state.starts.words.items tokens s.some_kept
      buffer_state.kept.words.items s.bits s.sound s.unkept s.all j within e in
      none (token_view at.token) at.here at.whole

  pub starts_of : Starts heads blocks buffer stop tokens
  starts_of = record {
    numbers = s.numbers;
    says = s.says.says;
    closed = s.closed;
    stop_is = s.stop_is;
    sound = not_wrong;
    all = λ t. (
      λ c. (listed_whole heads blocks s.numbers buffer_state.starts.words.items tokens s.some_kept
          buffer_state.kept.words.items s.bits s.sound s.unkept s.all t c).whole,
      whole_listed heads blocks s.numbers buffer_state.starts.words.items tokens s.some_kept
          buffer_state.kept.words.items s.bits s.sound s.unkept s.all t,
    );
    rising = subst (λ n. IsRising n (map token_view tokens)) s.says.says.blocks
        (all_rising heads blocks s.numbers buffer_state.starts.words.items tokens s.some_kept
        buffer_state.kept.words.items s.bits s.sound s.unkept s.all);
  }

  -- the register is as far as the head block says
  pub says_of : Says heads buffer (numbers_in buffer_state Closed stop)
  says_of = subst (Says heads buffer) (sym s.buffer_state_is) s.says.says

  -- What a start gives back of a history that the device holds.
  module _ (kept_stop : ℕ) (h : History) (held : HoldsStopped heads blocks kept_stop h) where
    same : s.numbers ≡ numbers_of Closed kept_stop h
    same = s.says.only (numbers_of Closed kept_stop h) held.fit held.numbers

    in_buffer_state : numbers_in buffer_state Closed stop ≡ numbers_of Closed kept_stop h
    in_buffer_state = s.buffer_state_is ∙ same

    same_buffer : h.buffer ≡ buffer_of buffer_state.line
    same_buffer = λ i. record {
      number = (sym in_buffer_state i).number;
      blocks = (sym in_buffer_state i).blocks;
      first_cycle = (sym in_buffer_state i).first_cycle;
    }

    same_cycle : buffer_state.line.cycle ≡ cycle_of h
    same_cycle = ap (λ (b : HeadBlock). b.cycle) in_buffer_state

    same_used : buffer_state.line.used ≡ used_of h
    same_used = ap (λ (b : HeadBlock). b.head) in_buffer_state

    pub same_stop : stop ≡ kept_stop
    same_stop = ap (λ (b : HeadBlock). b.stop) in_buffer_state

    same_blocks : s.numbers.blocks ≡ buffer_state.line.blocks
    same_blocks = sym (ap (λ (b : HeadBlock). b.blocks) s.buffer_state_is)

    starts_told : (j : ℕ) → j < buffer_state.line.blocks
        → is_marked buffer_state.starts.words.items j ≡ has_bit heads j
    starts_told j within = s.bits j (omega (arith, within, same_blocks))

    kept_told : (j : ℕ) → j < buffer_state.line.blocks
        → is_marked buffer_state.kept.words.items j ≡ true
        → IsCovered heads blocks (cycle_of h) (used_of h) buffer_state.line.blocks j
    kept_told j within m =
        subst (λ (n : HeadBlock). IsCovered heads blocks n.cycle n.head buffer_state.line.blocks j)
        same
        (subst (λ n. IsCovered heads blocks s.numbers.cycle s.numbers.head n j) same_blocks
        (told heads blocks s.numbers buffer_state.starts.words.items tokens s.some_kept
        buffer_state.kept.words.items s.bits s.sound s.unkept s.all j m))

    whole_told : (j : ℕ) → j < buffer_state.line.blocks → has_bit heads j ≡ true
        → IsMarkedWhole heads blocks (cycle_of h) (used_of h) buffer_state.kept.words.items j
    whole_told j within set =
        subst (λ (n : HeadBlock).
        IsMarkedWhole heads blocks n.cycle n.head buffer_state.kept.words.items j) same
        (whole_marked heads blocks s.numbers buffer_state.starts.words.items tokens s.some_kept
        buffer_state.kept.words.items s.bits s.sound s.unkept s.all j
        (omega (arith, within, same_blocks)) set)

    pub keeps_history : Keeps buffer_state h
    keeps_history = keeps_started heads blocks kept_stop h held buffer_state same_buffer same_cycle
        same_used (ap (λ (b : HeadBlock). b.begun) in_buffer_state)
        (ap (λ (b : HeadBlock). b.stored) in_buffer_state) s.progress starts_told
        kept_told whole_told

    pub holds_history : Holds blocks buffer_state h
    holds_history = holds_started heads blocks kept_stop h held buffer_state same_buffer same_cycle
        same_used (ap (λ (b : HeadBlock). b.begun) in_buffer_state)
        (ap (λ (b : HeadBlock). b.stored) in_buffer_state) s.progress starts_told
        kept_told whole_told

    -- a listed token is of a live finished article
    listed_live : (t : Token) → Contains tokens t → IsLiveToken h (token_view t)
    listed_live t c =
        let w = listed_whole heads blocks s.numbers buffer_state.starts.words.items
        tokens s.some_kept
        buffer_state.kept.words.items s.bits s.sound s.unkept s.all t c in
        let whole = subst (λ (n : HeadBlock). IsWhole heads blocks n (token_view t)) same w.whole in
        let read = subst (λ (n : HeadBlock). IsReadFirst heads blocks n.cycle n.head (token_view t))
        same w.read in
        let within : t.first < h.buffer.blocks =
        elim read.unpassed [
          | inl p ↦ omega (arith, p.1, head_within heads blocks kept_stop h held)
          | inr p ↦ omega (arith, whole.some, behind_within whole p.1)
        ] in
        let a = read_first heads blocks kept_stop h held (token_view t) within read in
        record {
          article = a.article;
          finished = a.finished;
          buffer = whole.buffer;
          class = a.class;
          octets = a.octets;
          live = live_unpassed h.buffer.blocks (cycle_of h) (used_of h) t.cycle t.first within
              (head_within heads blocks kept_stop h held) read.unpassed;
        }
      where
        behind_within : IsWhole heads blocks (numbers_of Closed kept_stop h) (token_view t)
            → used_of h ≤ t.first → t.first + size_of t.length ≤ h.buffer.blocks
        behind_within w behind = subst (λ n. t.first + size_of t.length ≤ n)
            (end_behind (numbers_of Closed kept_stop h) t.first behind) w.ends

    -- the token of a live finished article is listed
    live_listed : (t : Token) → IsLiveToken h (token_view t) → Contains tokens t
    live_listed t l =
        let lie = lies h.buffer h.begins t.cycle t.first l.article held.sizes l.finished in
        let unpassed = live_place h.buffer.blocks (cycle_of h) (used_of h) t.cycle t.first
        (omega (arith, lie.some, lie.within)) (head_within heads blocks kept_stop h held)
        l.live.begun l.live.here in
        let whole = whole_live heads blocks kept_stop h held t.cycle t.first l.article l.finished
        unpassed in
        whole_listed heads blocks s.numbers buffer_state.starts.words.items tokens s.some_kept
        buffer_state.kept.words.items s.bits s.sound s.unkept s.all t
        (subst (λ (n : HeadBlock). IsWhole heads blocks n (token_view t)) (sym same)
        (subst (λ (u : terms.Token). IsWhole heads blocks (numbers_of Closed kept_stop h) u)
        (λ i. record {
          class = l.class i;
          buffer = sym l.buffer i;
          cycle = t.cycle;
          first = t.first;
          length = l.octets i;
        }) whole))

    pub lists_live : ListsLive tokens h
    lists_live = record {
      all = λ t. (listed_live t, live_listed t);
      rising = subst (λ (b : HeadBlock). IsRising b.blocks (map token_view tokens)) same
          (all_rising heads blocks s.numbers buffer_state.starts.words.items tokens s.some_kept
          buffer_state.kept.words.items s.bits s.sound s.unkept s.all);
    }

-- a refusal's cause
pub reason_of : (heads blocks : List (List ℕ)) (buffer : Buffer) (error : StartError)
    → IsRefusedBy heads blocks buffer error → IsReason heads blocks buffer error
reason_of heads blocks buffer errors.Memory r = tt
reason_of heads blocks buffer errors.Device r = tt
reason_of heads blocks buffer errors.NoHead r = r
reason_of heads blocks buffer errors.Unclosed r =
    record { numbers = r.numbers; says = r.says.says; opened = r.opened }
reason_of heads blocks buffer errors.Damaged r = record {
  numbers = r.numbers;
  says = r.says.says;
  closed = r.closed;
  damaged = r.damaged;
}

-- a device that holds the buffer as stopped is refused for a reason from without alone
pub outside_of : (heads blocks : List (List ℕ)) (buffer : Buffer) (stop : ℕ) (h : History)
    → HoldsStopped heads blocks stop h → h.buffer ≡ buffer → (error : StartError)
    → IsRefusedBy heads blocks buffer error → IsOutside error
outside_of heads blocks buffer stop h held is errors.Memory r = tt
outside_of heads blocks buffer stop h held is errors.Device r = tt
outside_of heads blocks buffer stop h held is errors.NoHead r =
    r (numbers_of Closed stop h) (record {
      numbers = held.fit;
      image = held.numbers;
      number = ap (λ (b : Buffer). b.number) is;
      blocks = ap (λ (b : Buffer). b.blocks) is;
      first_cycle = ap (λ (b : Buffer). b.first_cycle) is;
    })
outside_of heads blocks buffer stop h held is errors.Unclosed r =
    open_closed (sym r.opened ∙ ap (λ (b : HeadBlock). b.state)
    (r.says.only (numbers_of Closed stop h) held.fit held.numbers))
outside_of heads blocks buffer stop h held is errors.Damaged r =
    not_damaged heads blocks stop h held (subst (λ (b : HeadBlock). IsDamaged heads blocks b)
    (r.says.only (numbers_of Closed stop h) held.fit held.numbers) r.damaged)
