-- What a fetch makes of the next block, by the octets that it has then gathered.
use Rattle.std.proofs.Common.{◌≡◌, ℕ, ◌+◌, ◌*◌, ◌≤◌, ◌<◌, false, List, ◌++◌, length, take}
use Rattle.std.proofs.Common.{drop, None, Some, refl, sym, ap, subst, ◌∙◌, arith, length-take}
use Rattle.std.proofs.Math.Seq.{take-add}
use Rattle.std.proofs.lemmas.Bool.{lt-ltb, le-ltb}
use Rattle.std.proofs.lemmas.List.{take_all}
use Rattle.std.specs.Global.{Vec}
use Rattle.std.specs.Prelude.{max}
use Rattle.news_terms.specs.BlockImage.{chunk, chunk_size}
use Rattle.news_terms.specs.Command.{Presence, WholeText, Header, BodyLines, OverviewLine}
use Rattle.news_terms.specs.Places.{size_of}
use Rattle.news_terms.specs.Token.{Token}
use Rattle.relay_model.specs.Fetches.{Fetched}
use Rattle.relay_model.specs.Hears.{goes_on, turns_of}
use Rattle.relay_model.specs.State.{Asked, OfId, OfToken}
use Rattle.article_fetch.specs.Fetch.{Fetch, FoundAs, HearsBlock, Replies}
use Rattle.article_fetch.specs.Given.{HearsAny, ReplyToAny, SaysSuch, ShowsAsked, found_with, given}
use Rattle.article_fetch.specs.Inside.{most_due}
use Rattle.article_fetch.specs.Malformed.{FaultsAsked, SaysFault}
use Rattle.article_fetch.specs.Shown.{SaysLast, ServesAsked}
use Rattle.article_fetch.specs.declared.chunk.Chunk.{Chunk}
use Rattle.article_fetch.specs.declared.chunk.Chunk.TheVariants as chunks

-- a chunk is no longer than a block holds
short_chunk : (k : ℕ) (text : List ℕ) → take chunk_size (chunk k text) ≡ chunk k text
short_chunk k text =
    take_all chunk_size (chunk k text)
    (omega (arith, length-take chunk_size (drop (chunk_size * k) text)))

-- the front of a text and the next chunk are the front that is longer by that chunk
one_chunk_more : (text gathered octets : List ℕ) (had : ℕ)
    → gathered ≡ take (chunk_size * had) text → octets ≡ chunk had text
    → gathered ++ take chunk_size octets ≡ take (chunk_size * (had + 1)) text
one_chunk_more text gathered octets had front next =
    let sum : chunk_size * (had + 1) ≡ chunk_size * had + chunk_size = omega arith in
    ap (λ x. gathered ++ take chunk_size x) next
    ∙ ap (λ x. gathered ++ x) (short_chunk had text)
    ∙ ap (λ x. x ++ chunk had text) front
    ∙ sym (ap (λ n. take n text) sum ∙ take-add (chunk_size * had) chunk_size text)

-- what has more Turns than one is not STAT, so it shows all of a block
shows_block : (asked : Asked) (token : Token) (had : ℕ) → had + 1 < turns_of asked token
    → most_due asked ≡ chunk_size
shows_block (OfId Presence id) token had more = absurd (omega (arith, more))
shows_block (OfId WholeText id) token had more = refl
shows_block (OfId Header id) token had more = refl
shows_block (OfId BodyLines id) token had more = refl
shows_block (OfId OverviewLine id) token had more = refl
shows_block OfToken token had more = refl

-- it goes on where more Turns are to come
pub heard_on : (fetch : Fetch) (octets now : List ℕ) (found : Fetched)
    → now ≡ fetch.gathered ++ take (most_due fetch.asked) octets
    → fetch.had + 1 < turns_of fetch.asked fetch.token
    → FoundAs fetch (chunks.Found octets) found
    → HearsBlock fetch found None
    (record fetch { had = fetch.had + 1; gathered = now; prepared = false })
heard_on fetch octets now found e more (text, is, next) =
    let asked = fetch.asked in
    let had = fetch.had in
    let all : now ≡ take (chunk_size * (had + 1)) text =
    e ∙ ap (λ n. fetch.gathered ++ take n octets) (shows_block asked fetch.token had more)
    ∙ one_chunk_more text fetch.gathered octets had next.front next.next in (
      ap (goes_on asked fetch.token had) is ∙ lt-ltb (had + 1) (turns_of asked fetch.token) more,
      text,
      is,
      ap (λ (x : List ℕ). record fetch { had = had + 1; gathered = x; prepared = false }) all,
    )

-- once all of its blocks are heard, the whole text is gathered
whole_gathered : (text gathered octets : List ℕ) (had length_told : ℕ)
    → length text ≡ length_told → max 1 (size_of length_told) ≤ had + 1
    → gathered ≡ take (chunk_size * had) text → octets ≡ chunk had text
    → gathered ++ take chunk_size octets ≡ text
whole_gathered text gathered octets had told whole last front next =
    one_chunk_more text gathered octets had front next
    ∙ take_all (chunk_size * (had + 1)) text (omega (arith, whole, last))

-- so what is gathered is all that has to be there to show what is asked
last_serves : (asked : Asked) (token : Token) (had : ℕ) (text gathered octets : List ℕ)
    → length text ≡ token.length → turns_of asked token ≤ had + 1
    → gathered ≡ take (chunk_size * had) text → octets ≡ chunk had text
    → ServesAsked asked (gathered ++ take (most_due asked) octets) text
last_serves (OfId Presence id) token had text gathered octets whole last front next = tt
last_serves (OfId WholeText id) token had text gathered octets whole last front next =
    whole_gathered text gathered octets had token.length whole last front next
last_serves (OfId Header id) token had text gathered octets whole last front next =
    whole_gathered text gathered octets had token.length whole last front next
last_serves (OfId BodyLines id) token had text gathered octets whole last front next =
    whole_gathered text gathered octets had token.length whole last front next
last_serves (OfId OverviewLine id) token had text gathered octets whole last front next =
    whole_gathered text gathered octets had token.length whole last front next
last_serves OfToken token had text gathered octets whole last front next =
    whole_gathered text gathered octets had token.length whole last front next

-- it ends with the last Turn, and what was found is said
pub heard_last : (fetch : Fetch) (octets now said : List ℕ) (found : Fetched)
    → now ≡ fetch.gathered ++ take (most_due fetch.asked) octets
    → turns_of fetch.asked fetch.token ≤ fetch.had + 1
    → SaysLast fetch.asked fetch.token (chunks.Found octets) now said
    → FoundAs fetch (chunks.Found octets) found
    → (goes_on fetch.asked fetch.token fetch.had found ≡ false)
    × Replies fetch.asked fetch.token found said
heard_last fetch octets now said found e last says (text, is, next) = (
  ap (goes_on fetch.asked fetch.token fetch.had) is
      ∙ le-ltb (fetch.had + 1) (turns_of fetch.asked fetch.token) last,
  subst (λ (x : Fetched). Replies fetch.asked fetch.token x said) (sym is)
      (says text next.article next.is_article
      (subst (λ (x : List ℕ). ServesAsked fetch.asked x text) (sym e)
      (last_serves fetch.asked fetch.token fetch.had text fetch.gathered octets next.whole last
      next.front next.next))),
)

-- of what is shown of a text, the whole of a block counts
pub all_due : (asked : Asked) (gathered octets said : List ℕ) → length octets ≤ chunk_size
    → FaultsAsked asked (gathered ++ take (most_due asked) octets) said
    → FaultsAsked asked (gathered ++ octets) said
all_due (OfId Presence id) gathered octets said short faults = tt
all_due (OfId WholeText id) gathered octets said short faults = tt
all_due (OfId Header id) gathered octets said short faults =
    subst (λ (x : List ℕ). FaultsAsked (OfId Header id) (gathered ++ x) said)
    (take_all chunk_size octets short) faults
all_due (OfId BodyLines id) gathered octets said short faults =
    subst (λ (x : List ℕ). FaultsAsked (OfId BodyLines id) (gathered ++ x) said)
    (take_all chunk_size octets short) faults
all_due (OfId OverviewLine id) gathered octets said short faults =
    subst (λ (x : List ℕ). FaultsAsked (OfId OverviewLine id) (gathered ++ x) said)
    (take_all chunk_size octets short) faults
all_due OfToken gathered octets said short faults = tt

-- where no block was found, no text is shown
pub no_text : (fetch : Fetch) (last : Chunk) (said : Vec ℕ)
    → ((octets : List ℕ) → last ≡ chunks.Found octets → ⊥) → SaysFault fetch last (Some said)
no_text fetch (chunks.Found octets) said none = absurd (none octets refl)
no_text fetch (chunks.Gone front) said none = tt
no_text fetch chunks.Unknown said none = tt
no_text fetch (chunks.Device fault) said none = tt

-- it ends where nothing was found, and that is said
pub heard_nothing : (fetch : Fetch) (last : Chunk) (now said : List ℕ) (found : Fetched)
    → ((octets : List ℕ) → last ≡ chunks.Found octets → ⊥)
    → SaysLast fetch.asked fetch.token last now said
    → FoundAs fetch last found
    → (goes_on fetch.asked fetch.token fetch.had found ≡ false)
    × Replies fetch.asked fetch.token found said
heard_nothing fetch (chunks.Found octets) now said found none says is = absurd (none octets refl)
heard_nothing fetch (chunks.Gone front) now said found none says is = (
  ap (goes_on fetch.asked fetch.token fetch.had) is,
  subst (λ (x : Fetched). Replies fetch.asked fetch.token x said) (sym is) says,
)
heard_nothing fetch chunks.Unknown now said found none says is = (
  ap (goes_on fetch.asked fetch.token fetch.had) is,
  subst (λ (x : Fetched). Replies fetch.asked fetch.token x said) (sym is) says,
)
heard_nothing fetch (chunks.Device fault) now said found none says is = (
  ap (goes_on fetch.asked fetch.token fetch.had) is,
  subst (λ (x : Fetched). Replies fetch.asked fetch.token x said) (sym is) says,
)

-- it goes on where more Turns are to come, whatever was read
pub any_on : (fetch : Fetch) (octets now : List ℕ)
    → now ≡ fetch.gathered ++ take (most_due fetch.asked) octets → length octets ≤ chunk_size
    → fetch.had + 1 < turns_of fetch.asked fetch.token
    → HearsAny fetch (chunks.Found octets) None
    (record fetch { had = fetch.had + 1; gathered = now; prepared = false })
any_on fetch octets now e short more = (
  lt-ltb (fetch.had + 1) (turns_of fetch.asked fetch.token) more,
  ap (λ (x : List ℕ). record fetch { had = fetch.had + 1; gathered = x; prepared = false })
      (e ∙ ap (λ n. fetch.gathered ++ take n octets)
      (shows_block fetch.asked fetch.token fetch.had more)
      ∙ ap (λ x. fetch.gathered ++ x) (take_all chunk_size octets short)),
)

-- of any text that is shown, the whole of a block counts
all_given : (asked : Asked) (token : Token) (gathered octets said : List ℕ)
    → length octets ≤ chunk_size
    → SaysSuch (ShowsAsked asked token (gathered ++ take (most_due asked) octets)) said
    → SaysSuch (ShowsAsked asked token (gathered ++ octets)) said
all_given (OfId Presence id) token gathered octets said short says = says
all_given (OfId WholeText id) token gathered octets said short says =
    subst (λ (x : List ℕ). SaysSuch (ShowsAsked (OfId WholeText id) token (gathered ++ x)) said)
    (take_all chunk_size octets short) says
all_given (OfId Header id) token gathered octets said short says =
    subst (λ (x : List ℕ). SaysSuch (ShowsAsked (OfId Header id) token (gathered ++ x)) said)
    (take_all chunk_size octets short) says
all_given (OfId BodyLines id) token gathered octets said short says =
    subst (λ (x : List ℕ). SaysSuch (ShowsAsked (OfId BodyLines id) token (gathered ++ x)) said)
    (take_all chunk_size octets short) says
all_given (OfId OverviewLine id) token gathered octets said short says =
    subst (λ (x : List ℕ). SaysSuch (ShowsAsked (OfId OverviewLine id) token (gathered ++ x)) said)
    (take_all chunk_size octets short) says
all_given OfToken token gathered octets said short says =
    subst (λ (x : List ℕ). SaysSuch (ShowsAsked OfToken token (gathered ++ x)) said)
    (take_all chunk_size octets short) says

-- it ends with the last Turn, and what was given is said
pub any_last : (fetch : Fetch) (octets now said : List ℕ)
    → now ≡ fetch.gathered ++ take (most_due fetch.asked) octets → length octets ≤ chunk_size
    → turns_of fetch.asked fetch.token ≤ fetch.had + 1
    → SaysSuch (ShowsAsked fetch.asked fetch.token now) said
    → (goes_on fetch.asked fetch.token fetch.had (given fetch.gathered (chunks.Found octets))
    ≡ false)
    × SaysSuch (ReplyToAny fetch.asked fetch.token (given fetch.gathered (chunks.Found octets)))
    said
any_last fetch octets now said e short last says = (
  le-ltb (fetch.had + 1) (turns_of fetch.asked fetch.token) last,
  all_given fetch.asked fetch.token fetch.gathered octets said short
      (subst (λ (x : List ℕ). SaysSuch (ShowsAsked fetch.asked fetch.token x) said) e says),
)

-- it ends where nothing was given, and that is said
pub any_nothing : (fetch : Fetch) (last : Chunk) (now said : List ℕ)
    → ((octets : List ℕ) → last ≡ chunks.Found octets → ⊥)
    → SaysSuch (ReplyToAny fetch.asked fetch.token (found_with last now)) said
    → (goes_on fetch.asked fetch.token fetch.had (given fetch.gathered last) ≡ false)
    × SaysSuch (ReplyToAny fetch.asked fetch.token (given fetch.gathered last)) said
any_nothing fetch (chunks.Found octets) now said none says = absurd (none octets refl)
any_nothing fetch (chunks.Gone front) now said none says = (refl, says)
any_nothing fetch chunks.Unknown now said none says = (refl, says)
any_nothing fetch (chunks.Device fault) now said none says = (refl, says)
