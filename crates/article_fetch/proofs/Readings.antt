-- What holds inside a fetch once it has heard a block, and the room for what it says then.
use Rattle.std.proofs.Common.{◌≡◌, ◌+◌, ◌<◌, ◌≤◌, ◌++◌, ℕ, Bool, true, false, List}
use Rattle.std.proofs.Common.{ap, refl, arith, length, take, length-append, length-take}
use Rattle.std.proofs.Common.{vec_len, vec_capacity, if◌then◌else◌}
use Rattle.std.specs.Global.{Vec}
use Rattle.std.specs.Prelude.{◌==◌}
use Rattle.std.proofs.lemmas.Bool.{both_ways, eqb-false, ne_eqb}
use Rattle.news_terms.specs.Blocks.{stuffed_room}
use Rattle.news_terms.specs.BlockImage.{chunk_size}
use Rattle.news_terms.specs.Token.{Token}
use Rattle.nntp_text.specs.Reply.{reply_room}
use Rattle.relay_model.specs.Hears.{turns_of}
use Rattle.relay_model.specs.State.{Asked}
use Rattle.article_fetch.specs.Inside.{HasRoom, IsReading, most_due, most_said}
use Rattle.article_fetch.specs.Shown.{most_by}
use Rattle.article_fetch.specs.declared.chunk.Chunk.{Chunk}
use Rattle.article_fetch.specs.declared.chunk.Chunk.TheVariants as chunks

-- the most that is said, by whether the next block is the last
abbrev by_last : Asked → (gathered : ℕ) → Bool → ℕ
by_last asked gathered last =
    if last then reply_room + stuffed_room (gathered + most_due asked) else reply_room

-- a reply that shows no text has always room
least_said : (asked : Asked) (gathered : ℕ) (last : Bool) → reply_room ≤ by_last asked gathered last
least_said asked gathered true = omega arith
least_said asked gathered false = omega arith

-- before the last block no more is said
said_before : (asked : Asked) (token : Token) (had gathered : ℕ)
    → had + 1 < turns_of asked token → most_said asked token had gathered ≡ reply_room
said_before asked token had gathered more =
    ap (by_last asked gathered)
    (ne_eqb (had + 1) (turns_of asked token) (λ e. absurd (omega (arith, e, more))))

-- a fetch that goes on
pub read_on : (asked : Asked) (token : Token) (had : ℕ) (gathered now room : Vec ℕ)
    (prepared : Bool) (octets : List ℕ) → IsReading asked token had gathered room prepared
    → had + 1 < turns_of asked token
    → now.items ≡ gathered.items ++ take (most_due asked) octets → length octets ≤ chunk_size
    → vec_capacity now ≡ vec_capacity gathered → IsReading asked token (had + 1) now room false
read_on asked token had gathered now room prepared octets h more items short capacity =
    let before = said_before asked token had (vec_len gathered) more in
    record {
      turns = more;
      short = omega (
        arith,
        h.short,
        short,
        ap length items,
        length-append gathered.items (take (most_due asked) octets),
        length-take (most_due asked) octets,
        now.ok,
        gathered.ok,
      );
      unsaid = h.unsaid;
      held = omega (arith, h.held, capacity);
      reserved = omega (
        arith,
        h.reserved,
        before,
        least_said asked (vec_len now) (had + 1 + 1 == turns_of asked token),
      );
      ready = λ e. absurd (both_ways false refl e);
    }

-- where the block that was heard is the last, there is room for what is said of the whole text
pub last_has_room : (asked : Asked) (token : Token) (had : ℕ) (gathered room : Vec ℕ)
    (last : Chunk) (octets now : List ℕ) → HasRoom asked token had gathered room
    → had < turns_of asked token → turns_of asked token ≤ had + 1
    → now ≡ gathered.items ++ take (most_due asked) octets → most_by last now ≤ vec_capacity room
last_has_room asked token had gathered room last octets now h more over items =
    by_chunk last (whole (had + 1 == turns_of asked token) refl h.reply)
  where
    all : ℕ
    all = reply_room + stuffed_room (vec_len gathered + most_due asked)

    whole : (b : Bool) → (had + 1 == turns_of asked token) ≡ b
        → by_last asked (vec_len gathered) b ≤ vec_capacity room → all ≤ vec_capacity room
    whole true e fits = fits
    whole false e fits =
        absurd (eqb-false (had + 1) (turns_of asked token) e (omega (arith, more, over)))

    few : length now ≤ vec_len gathered + most_due asked
    few = omega (
      arith,
      ap length items,
      length-append gathered.items (take (most_due asked) octets),
      length-take (most_due asked) octets,
      gathered.ok,
    )

    by_chunk : (one : Chunk) → all ≤ vec_capacity room → most_by one now ≤ vec_capacity room
    by_chunk (chunks.Found read) fits = omega (arith, fits, few)
    by_chunk (chunks.Gone front) fits = omega (arith, fits)
    by_chunk chunks.Unknown fits = omega (arith, fits)
    by_chunk (chunks.Device fault) fits = omega (arith, fits)

-- and where none was found, for the reply that says so
pub none_has_room : (asked : Asked) (token : Token) (had : ℕ) (gathered room : Vec ℕ)
    (last : Chunk) (now : List ℕ) → HasRoom asked token had gathered room
    → ((octets : List ℕ) → last ≡ chunks.Found octets → ⊥) → most_by last now ≤ vec_capacity room
none_has_room asked token had gathered room last now h none = by last none
  where
    enough : reply_room ≤ vec_capacity room
    enough = omega (
      arith,
      h.reply,
      least_said asked (vec_len gathered) (had + 1 == turns_of asked token),
    )

    by : (one : Chunk) → ((octets : List ℕ) → one ≡ chunks.Found octets → ⊥)
        → most_by one now ≤ vec_capacity room
    by (chunks.Found read) not = absurd (not read refl)
    by (chunks.Gone front) not = enough
    by chunks.Unknown not = enough
    by (chunks.Device fault) not = enough
