-- Why a start refuses a device: what the octets that were read rule out.
use Rattle.std.proofs.Common.{◌≡◌, ◌∙◌, ℕ, sym, ap, arith, cond, List}
use Rattle.std.specs.Prelude.{Result, Ok, Err, false, is_ok, is_err}
use Rattle.std.proofs.lemmas.Bool.{false≢true}
use Rattle.news_terms.specs.BlockImage.{block_image}
use Rattle.news_terms.specs.Places.{Buffer}
use Rattle.news_terms.specs.Token.{Token}
use Rattle.cyc_block.specs.Store.{block_at}
use Rattle.cyc_block.specs.declared.store.BlockStore.{Ghosts}
use Rattle.cyc_buffer.specs.Reads.{StaysHeld, IsBlamed, IsDamageBy, IsDamagedBy, IsOfToken, IsRead}
use Rattle.cyc_buffer.specs.Reads.{IsRefusedBy}
use Rattle.cyc_buffer.specs.Stopped.{block_under}
use Rattle.cyc_buffer.specs.declared.answers.StartError.{StartError}
use Rattle.cyc_buffer.specs.declared.answers.StartError.TheVariants as errors

-- a cause of a cause is a cause
pub damage_by : {A B : Type 0} → (error : StartError) → (A → B) → IsDamageBy A error
    → IsDamageBy B error
damage_by errors.Memory from cause = tt
damage_by errors.Device from cause = tt
damage_by errors.NoHead from cause = cause
damage_by errors.Unclosed from cause = cause
damage_by errors.Damaged from cause = from cause

-- a first block is of one token's article
pub same_token : (blocks : List (List ℕ)) (number since end at : ℕ) (t u : Token)
    → IsOfToken (block_at blocks at) u → u.buffer ≡ number → u.cycle ≡ since → u.first ≡ at
    → t.first ≡ at → IsRead blocks number since end t
    → t ≡ u
same_token blocks number since end at t u only number_is since_is here there read =
    let first = read.images 0 (omega (arith, read.some)) in
    let image : block_at blocks at ≡ block_image (block_under t 0 first.payload) =
    ap (block_at blocks) (omega (arith, there)) ∙ first.image in
    let class : t.class ≡ u.class = only.class (block_under t 0 first.payload) first.block image in
    let length : t.length ≡ u.length =
    only.length (block_under t 0 first.payload) first.block image in
    let buffer : t.buffer ≡ u.buffer = omega (arith, read.buffer, number_is) in
    let cycle : t.cycle ≡ u.cycle = omega (arith, read.cycle, since_is) in
    let place : t.first ≡ u.first = omega (arith, here, there) in
    λ i. record {
      class = class i;
      buffer = buffer i;
      cycle = cycle i;
      first = place i;
      length = length i;
    }

-- what two calls in a row leave as it was stays as it was
pub held_on : {S : Type 0} (g : Ghosts S) (old mid new : S) → StaysHeld g old mid
    → StaysHeld g mid new → StaysHeld g old new
held_on g old mid new first next = record {
  honest = λ h. next.honest (first.honest h);
  blocks = λ h. next.blocks (first.honest h) ∙ first.blocks h;
  heads = λ h. next.heads (first.honest h) ∙ first.heads h;
  count = next.count ∙ first.count;
}

-- whom a refusal blames where nothing failed before
pub blamed_on : {S : Type 0} (g : Ghosts S) (old mid new : S) (error : StartError)
    → g.failures mid ≡ g.failures old → IsBlamed g mid new error → IsBlamed g old new error
blamed_on g old mid new errors.Memory same blamed = blamed ∙ same
blamed_on g old mid new errors.Device same blamed = omega (arith, same, blamed)
blamed_on g old mid new errors.NoHead same blamed = blamed ∙ same
blamed_on g old mid new errors.Unclosed same blamed = blamed ∙ same
blamed_on g old mid new errors.Damaged same blamed = blamed ∙ same

-- damage is a refusal, where head block 0 says whose it is
pub damage_refuses : {A : Type 0} (heads blocks : List (List ℕ)) (buffer : Buffer)
    (error : StartError)
    → (A → IsDamagedBy heads blocks buffer) → IsDamageBy A error
    → IsRefusedBy heads blocks buffer error
damage_refuses heads blocks buffer errors.Memory from cause = tt
damage_refuses heads blocks buffer errors.Device from cause = tt
damage_refuses heads blocks buffer errors.NoHead from cause = absurd cause
damage_refuses heads blocks buffer errors.Unclosed from cause = absurd cause
damage_refuses heads blocks buffer errors.Damaged from cause = from cause

-- what a push without an error leaves
pub pushed_on : {T E X : Type 0} (r : Result T E) (pushed old new : X) → is_err r ≡ false
    → new ≡ cond (is_ok r) pushed old → new ≡ pushed
pushed_on (Ok x) pushed old new fine told = told
pushed_on (Err x) pushed old new fine told = absurd (false≢true (sym fine))
