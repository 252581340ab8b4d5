-- There are sound terms.
use Rattle.std.proofs.Common.{◌≡◌, ◌∙◌, ◌≤◌, ◌<◌, ◌^◌, ℕ, List, [], ◌∷◌, length, Some, refl}
use Rattle.std.proofs.Common.{sym, ap, arith, slice_get}
use Rattle.std.proofs.lemmas.Option.{same_Some, slice_get_within}
use Rattle.std.specs.Prelude.{IsTrue, codes}
use Rattle.news_terms.specs.Path.{is_agent}
use Rattle.news_terms.specs.Places.{Buffer, Group}
use Rattle.news_terms.specs.Settings.{AreSound, IsBufferAt, IsSoundBuffer}
use Rattle.news_terms.specs.StorageClass.{Entry}
use Rattle.news_terms.proofs.ListPlaces.{all_one}
use Rattle.relay_model.specs.Terms.{FeedTerms}
use Rattle.relay_facts.specs.Sound.{IsSound}
use Rattle.relay_facts.specs.SoundExample.{sound_terms, one_buffer, one_group, one_entry, one_feed}

-- one element is at 0
first : {X : Type 0} (a x : X) (i : ℕ) → slice_get (a ∷ []) i ≡ Some x → i ≡ 0
first a x i e = let within : i < 1 = slice_get_within (a ∷ []) i x e in omega (arith, within)

-- what stands in a list of one is that one
only : {X : Type 0} (a x : X) (i : ℕ) → slice_get (a ∷ []) i ≡ Some x → a ≡ x
only a x i e = same_Some a x (ap (slice_get (a ∷ [])) (sym (first a x i e)) ∙ e)

-- where a buffer of a group is
placed : (g i : ℕ) (buffer : Buffer) → IsBufferAt sound_terms.groups g i buffer
    → (g ≡ 0) × (i ≡ 0) × (one_buffer ≡ buffer)
placed g i buffer at =
    let group = only one_group at.group g at.is_group in
    let here : slice_get (one_buffer ∷ []) i ≡ Some buffer =
    ap (λ (one : Group). slice_get one.buffers i) group ∙ at.is_buffer in (
      first one_group at.group g at.is_group,
      first one_buffer buffer i here,
      only one_buffer buffer
          i here,
    )

-- the buffers and groups are sound
sound_places : AreSound sound_terms.buffers sound_terms.groups
sound_places = record {
  buffers = all_one IsSoundBuffer one_buffer
      (record { number = omega arith; some = omega arith; most = omega arith });
  apart = λ i j a b at other same. first one_buffer a i at ∙ sym (first one_buffer b j other);
  filled = all_one (λ (group : Group). 1 ≤ length group.buffers) one_group (omega arith);
  named = λ g i buffer at. (0, ap (λ b. Some b) (placed g i buffer at).2);
  once = λ g h i j a b at other same.
      let one = placed g i a at in
      let two = placed h j b other in
      (one.0 ∙ sym two.0, one.1 ∙ sym two.1);
}

-- the terms are sound
pub are_sound : IsSound sound_terms
are_sound = record {
  places = sound_places;
  classes = all_one (λ (entry : Entry). entry.class < 2 ^ 8) one_entry (omega arith);
  rings = all_one (λ (feed : FeedTerms). 1 ≤ feed.ring) one_feed (omega arith);
  own_feed = λ i j a b at other same. first one_feed a i at ∙ sym (first one_feed b j other);
  own = refl;
  peers = all_one (λ (peer : List ℕ). IsTrue (is_agent peer)) (codes "one.example") refl;
}
