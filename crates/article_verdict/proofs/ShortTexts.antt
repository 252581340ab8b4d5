-- A text that fits the buffers of a group is one whose length a token has room for.
use Rattle.std.proofs.Common.{◌≡◌, ◌+◌, ◌<◌, ◌≤◌, ◌/◌, ◌^◌, ℕ, true, arith}
use Rattle.std.proofs.Common.{length, nat_le, refl, slice_get, Option, None, Some}
use Rattle.std.proofs.lemmas.Bool.{leb-true}
use Rattle.std.proofs.lemmas.List.Sums.{AllPass-from_list_all}
use Rattle.news_terms.specs.Places.{Buffer, Group, size_of}
use Rattle.news_terms.specs.Settings.{IsSoundBuffer}
use Rattle.news_terms.proofs.ListPlaces.{holds_at, there_within}
use Rattle.relay_conf.specs.Settings.{places_of_buffers, places_of_groups}
use Rattle.relay_conf.specs.declared.settings.Buffers.{Buffers}
use Rattle.relay_model.specs.Judging.{fits}

-- what takes at most the blocks of the largest buffer is short
below_largest : (n blocks : ℕ) → (n + 479) / 480 ≤ blocks → blocks ≤ 4194304 → n < 4294967296
below_largest n blocks fit most = omega (arith, fit, most)

-- a text that fits the buffers of a group has fewer than 2^32 octets
pub short : (settings : Buffers) (g n : ℕ)
    → fits (slice_get (places_of_groups settings) g) (size_of n) ≡ true → n < 2 ^ 32
short settings g n fit = by (slice_get (places_of_groups settings) g) refl fit
  where
    by : (o : Option Group) → slice_get (places_of_groups settings) g ≡ o
        → fits o (size_of n) ≡ true → n < 2 ^ 32
    by None is fit = absurd (cc (fit))
    by (Some group) is fit =
        let filled = holds_at (λ (one : Group). 1 ≤ length one.buffers) (places_of_groups settings)
        settings.sound.filled g group is in
        let first = there_within group.buffers 0 filled in
        let named = settings.sound.named g 0 first.0
        (record { group = group; is_group = is; is_buffer = first.1 }) in
        let sound = holds_at IsSoundBuffer (places_of_buffers settings) settings.sound.buffers
        named.0 first.0 named.1 in
        let room : nat_le (size_of n) first.0.blocks ≡ true =
        holds_at (λ (one : Buffer). nat_le (size_of n) one.blocks ≡ true) group.buffers
        (AllPass-from_list_all (λ (one : Buffer). nat_le (size_of n) one.blocks) group.buffers fit)
        0 first.0 first.1 in
        below_largest n first.0.blocks (leb-true _ _ room) sound.most
