use Rattle.std.proofs.Common.{◌≡◌, ◌+◌, ◌<◌, ◌≤◌, ◌++◌, ◌∙◌, ap, subst, take, List, ℕ, [], None}
use Rattle.std.proofs.Common.{arith, false, length, refl, sym, Some, Vec, vec_capacity}
use Rattle.std.specs.Global.{Global}
use Rattle.cyc_token.specs.Token.{token_view}
use Rattle.relay_model.specs.Fetches.{Fetched}
use Rattle.relay_model.specs.Hears.{goes_on, turns_of}
use Rattle.article_fetch.specs.Fetch.{asked_view, ended, Fetch, FoundAs, HearsBlock, Replies}
use Rattle.article_fetch.specs.Fetch.{StaysSame}
use Rattle.article_fetch.specs.Given.{HearsAny, ReplyToAny, SaysSuch, found_with, given}
use Rattle.article_fetch.specs.Inside.{HasRoom, most_due}
use Rattle.article_fetch.specs.Malformed.{FaultsAsked, FaultsLast, SaysFault}
use Rattle.article_fetch.specs.Shown.{SaysLast, most_by}
use Rattle.news_terms.specs.BlockImage.{chunk_size}
use Rattle.article_fetch.specs.contracts.reading.Reading.{the_view}
use Rattle.article_fetch.specs.declared.chunk.Chunk.{Chunk}
use Rattle.article_fetch.proofs.Hearing.{all_due, any_last, any_nothing, any_on}
use Rattle.article_fetch.proofs.Hearing.{heard_on, heard_last, heard_nothing, no_text}
use Rattle.article_fetch.proofs.Readings.{last_has_room, none_has_room, read_on}
use Rattle.article_fetch.proofs.reading.Reading.hear_prepared.Goals as goal
use Rattle.article_fetch.proofs.reading.Reading.hear_prepared.Goals.{in-Found+else-self-turns}
use Rattle.article_fetch.proofs.reading.Reading.hear_prepared.Goals.{in_default}

pub returns-then-self-turns : goal.returns-then-self-turns
returns-then-self-turns c =
    let inside = c.self.inside in
    let octets = c.in-Found.octets in
    let due = most_due (asked_view inside.asked) in
    let now : c.gather.new.text.items ≡ inside.gathered.items ++ take due octets =
    c.gather.ensures.items
    ∙ ap (λ (v : Vec ℕ Global). v.items ++ take due c.as_slice.result.now)
    c.replace-text.ensures.value
    ∙ ap (λ (x : List ℕ). inside.gathered.items ++ take due x) c.as_slice.ensures.octets in
    let more : inside.had + 1 < turns_of (asked_view inside.asked) (token_view inside.token) =
    omega (arith, c.if-self-turns.true, c.turns-turns.ensures) in
    let after : Fetch = the_view (record inside {
      had = inside.had + 1;
      gathered = c.gather.new.text;
      prepared = false;
    }) in
    record {
      heard = subst (λ (fetch : Fetch). (found : Fetched) → FoundAs fetch c.args.chunk found
          → HearsBlock fetch found None after)
          c.self.view_is
          (λ found h. heard_on (the_view inside) octets c.gather.new.text.items found now more
          (subst (λ (chunk : Chunk). FoundAs (the_view inside) chunk found) c.in-Found.is h));
      same = subst (λ (fetch : Fetch). StaysSame fetch None after) c.self.view_is refl;
      given = subst (λ (fetch : Fetch). HearsAny fetch c.args.chunk None after) c.self.view_is
          (subst (λ (chunk : Chunk). HearsAny (the_view inside) chunk None after)
          (sym c.in-Found.is)
          (any_on (the_view inside) octets c.gather.new.text.items now
          (subst (λ (x : List ℕ). length x ≤ chunk_size) c.as_slice.ensures.octets
          c.as_slice.ensures.short) more));
      fault = tt;
    }

pub returns : goal.returns
returns c =
    let inside = c.self.inside in
    let fetch = the_view inside in
    let asked = asked_view inside.asked in
    let token = token_view inside.token in
    let said = c.last_reply.result.items in
    let nothing : c.replace-text.new.dest.items ≡ [] =
    ap (λ (v : Vec ℕ Global). v.items) c.replace-text.ensures.after ∙ c.new.ensures.items in
    let after : Fetch = the_view (record inside {
      gathered = c.replace-text.new.dest;
      room = c.replace-room.new.dest;
      prepared = false;
    }) in
    let over : after ≡ ended fetch =
    ap (λ (x : List ℕ). record fetch { gathered = x; prepared = false }) nothing in
    let says : SaysLast asked token c.args.chunk c.match-chunk.text.items said =
    subst (λ (x : List ℕ). SaysLast asked token c.args.chunk x said) c.deref.ensures.value
    c.last_reply.ensures.says in
    let heard : (found : Fetched) → FoundAs fetch c.args.chunk found
    → (goes_on asked token inside.had found ≡ false) × Replies asked token found said =
    elim c.match-chunk.branch [
      | in-Found+else-self-turns w ↦ λ found h.
          let octets = w.in-Found.octets in
          let due = most_due asked in
          let now : c.match-chunk.text.items ≡ inside.gathered.items ++ take due octets =
          ap (λ (v : Vec ℕ Global). v.items) w.text-is
          ∙ w.gather.ensures.items
          ∙ ap (λ (v : Vec ℕ Global). v.items ++ take due w.as_slice.result.now)
          c.replace-text.ensures.value
          ∙ ap (λ (x : List ℕ). inside.gathered.items ++ take due x) w.as_slice.ensures.octets in
          let last : turns_of asked token ≤ inside.had + 1 =
          omega (arith, w.if-self-turns.false, w.turns-turns.ensures) in
          heard_last fetch octets c.match-chunk.text.items said found now last
          (subst (λ (chunk : Chunk). SaysLast asked token chunk c.match-chunk.text.items said)
          w.in-Found.is says)
          (subst (λ (chunk : Chunk). FoundAs fetch chunk found) w.in-Found.is h)
      | in_default w ↦ λ found h. heard_nothing fetch c.args.chunk c.match-chunk.text.items said
          found w.in_default.not-Found says h
    ] in
    let told : FaultsLast asked c.args.chunk c.match-chunk.text.items said =
    subst (λ (x : List ℕ). FaultsLast asked c.args.chunk x said) c.deref.ensures.value
    c.last_reply.ensures.fault in
    let faults : SaysFault fetch c.args.chunk (Some c.last_reply.result) =
    elim c.match-chunk.branch [
      | in-Found+else-self-turns w ↦
          let octets = w.in-Found.octets in
          let due = most_due asked in
          let now : c.match-chunk.text.items ≡ inside.gathered.items ++ take due octets =
          ap (λ (v : Vec ℕ Global). v.items) w.text-is
          ∙ w.gather.ensures.items
          ∙ ap (λ (v : Vec ℕ Global). v.items ++ take due w.as_slice.result.now)
          c.replace-text.ensures.value
          ∙ ap (λ (x : List ℕ). inside.gathered.items ++ take due x) w.as_slice.ensures.octets in
          subst (λ (chunk : Chunk). SaysFault fetch chunk (Some c.last_reply.result))
          (sym w.in-Found.is)
          (all_due asked inside.gathered.items octets said
          (subst (λ (x : List ℕ). length x ≤ chunk_size) w.as_slice.ensures.octets
          w.as_slice.ensures.short)
          (subst (λ (x : List ℕ). FaultsAsked asked x said) now
          (subst (λ (chunk : Chunk). FaultsLast asked chunk c.match-chunk.text.items said)
          w.in-Found.is told)))
      | in_default w ↦ no_text fetch c.args.chunk c.last_reply.result w.in_default.not-Found
    ] in
    let shows : SaysSuch (ReplyToAny asked token (found_with c.args.chunk c.match-chunk.text.items))
    said =
    subst (λ (x : List ℕ). SaysSuch (ReplyToAny asked token (found_with c.args.chunk x)) said)
    c.deref.ensures.value c.last_reply.ensures.given in
    let any : (goes_on asked token inside.had (given inside.gathered.items c.args.chunk) ≡ false)
    × SaysSuch (ReplyToAny asked token (given inside.gathered.items c.args.chunk)) said =
    elim c.match-chunk.branch [
      | in-Found+else-self-turns w ↦
          let octets = w.in-Found.octets in
          let due = most_due asked in
          let now : c.match-chunk.text.items ≡ inside.gathered.items ++ take due octets =
          ap (λ (v : Vec ℕ Global). v.items) w.text-is
          ∙ w.gather.ensures.items
          ∙ ap (λ (v : Vec ℕ Global). v.items ++ take due w.as_slice.result.now)
          c.replace-text.ensures.value
          ∙ ap (λ (x : List ℕ). inside.gathered.items ++ take due x) w.as_slice.ensures.octets in
          let last : turns_of asked token ≤ inside.had + 1 =
          omega (arith, w.if-self-turns.false, w.turns-turns.ensures) in
          subst (λ (chunk : Chunk).
          (goes_on asked token inside.had (given inside.gathered.items chunk) ≡ false)
          × SaysSuch (ReplyToAny asked token (given inside.gathered.items chunk)) said)
          (sym w.in-Found.is)
          (any_last fetch octets c.match-chunk.text.items said now
          (subst (λ (x : List ℕ). length x ≤ chunk_size) w.as_slice.ensures.octets
          w.as_slice.ensures.short) last
          (subst (λ (chunk : Chunk). SaysSuch (ReplyToAny asked token
          (found_with chunk c.match-chunk.text.items)) said) w.in-Found.is shows))
      | in_default w ↦ any_nothing fetch c.args.chunk c.match-chunk.text.items said
          w.in_default.not-Found shows
    ] in
    record {
      given = subst (λ (fetch : Fetch).
          HearsAny fetch c.args.chunk (Some c.last_reply.result) after)
          c.self.view_is (any.0, any.1, over);
      heard = subst (λ (fetch : Fetch). (found : Fetched) → FoundAs fetch c.args.chunk found
          → (goes_on fetch.asked fetch.token fetch.had found ≡ false)
          × Replies fetch.asked fetch.token found said × (after ≡ ended fetch))
          c.self.view_is
          (λ found h. ((heard found h).0, (heard found h).1, over));
      same = subst (λ (fetch : Fetch). (1 ≤ length said) × (after ≡ ended fetch)) c.self.view_is
          (c.last_reply.ensures.some, over);
      fault = subst (λ (fetch : Fetch). SaysFault fetch c.args.chunk (Some c.last_reply.result))
          c.self.view_is faults;
    }

pub invariant_of-self : goal.invariant_of-self
invariant_of-self c =
    let inside = c.self.inside in
    let due = most_due (asked_view inside.asked) in
    read_on (asked_view inside.asked) (token_view inside.token) inside.had inside.gathered
    c.gather.new.text inside.room inside.prepared c.as_slice.result.now c.self.invariant
    (omega (arith, c.if-self-turns.true, c.turns-turns.ensures))
    (c.gather.ensures.items
    ∙ ap (λ (v : Vec ℕ Global). v.items ++ take due c.as_slice.result.now)
    c.replace-text.ensures.value)
    c.as_slice.ensures.short
    (c.gather.ensures.capacity
    ∙ ap (λ (v : Vec ℕ Global). vec_capacity v) c.replace-text.ensures.value)

pub last_reply-requires-clause-room : goal.last_reply-requires-clause-room
last_reply-requires-clause-room c =
    let inside = c.self.inside in
    let asked = asked_view inside.asked in
    let token = token_view inside.token in
    let room : HasRoom asked token inside.had inside.gathered inside.room =
    c.self.invariant.ready (ap (λ (x : Fetch). x.prepared) c.self.view_is ∙ c.requires) in
    let fits : most_by c.args.chunk c.match-chunk.text.items ≤ vec_capacity inside.room =
    elim c.match-chunk.branch [
      | in-Found+else-self-turns w ↦
          let due = most_due asked in
          last_has_room asked token inside.had inside.gathered inside.room c.args.chunk
          w.as_slice.result.now c.match-chunk.text.items room c.self.invariant.turns
          (omega (arith, w.if-self-turns.false, w.turns-turns.ensures))
          (ap (λ (v : Vec ℕ Global). v.items) w.text-is
          ∙ w.gather.ensures.items
          ∙ ap (λ (v : Vec ℕ Global). v.items ++ take due w.as_slice.result.now)
          c.replace-text.ensures.value)
      | in_default w ↦ none_has_room asked token inside.had inside.gathered inside.room c.args.chunk
          c.match-chunk.text.items room w.in_default.not-Found
    ] in
    subst (λ (v : Vec ℕ Global). most_by c.args.chunk c.deref.result.now ≤ vec_capacity v)
    (sym c.replace-room.ensures.value)
    (subst (λ (x : List ℕ). most_by c.args.chunk x ≤ vec_capacity inside.room)
    (sym c.deref.ensures.value) fits)
