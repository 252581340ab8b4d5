-- Lists that are gone through, one element after the other.
use Rattle.std.proofs.Common.{◌≡◌, ◌∙◌, ℕ, ◌+◌, ◌<◌, List, [], ◌∷◌, ◌++◌, length, map, take, get_or}
use Rattle.std.proofs.Common.{Bool, true, false, refl, ap, sym, append_assoc, arith}
use Rattle.std.specs.Prelude.{bytes_eq, flat_map, ◌↔◌, IsTrue}
use Rattle.std.specs.Option.{option_to_list}
use Rattle.std.proofs.lemmas.Grind.{flat_map-append}
use Rattle.std.proofs.lemmas.List.{get_or-map, take_more_same}
use Rattle.std.proofs.lemmas.Bool.{false≢true}
use Rattle.std.proofs.lemmas.Slice.Eq.{bytes_eq-Decides}
use Rattle.relay_conf.proofs.FirstFaults.{filter_one, map_one}
use Rattle.relay_names.specs.Names.{GroupNames, Names}
use Rattle.relay_names.specs.Text.{NamesLine, buffer_of, feed_of, group_of, line_octets, names_said}

-- Names of which there is one more of what a line says are those that one line more says.
pub said_more : {X : Type 0} (view : X → NamesLine) (lines : List X) (i : ℕ) (d : X)
    (names new : Names) → i < length lines → names ≡ names_said (map view (take i lines))
    → new.buffers ≡ names.buffers ++ option_to_list (buffer_of (view (get_or lines i d)))
    → new.groups ≡ names.groups ++ option_to_list (group_of (view (get_or lines i d)))
    → new.feeds ≡ names.feeds ++ option_to_list (feed_of (view (get_or lines i d)))
    → new ≡ names_said (map view (take (i + 1) lines))
said_more {X} view lines i d names new within are buffers groups feeds =
    let front = map view (take i lines) in
    let line = view (get_or lines i d) in
    let more : map view (take (i + 1) lines) ≡ front ++ line ∷ [] =
    map_one view lines i d within in
    rw (
      more,
      filter_one buffer_of front line,
      filter_one group_of front line,
      filter_one feed_of front line,
    )
    (same_names
    (buffers ∙ ap (λ (o : Names). o.buffers ++ option_to_list (buffer_of line)) are)
    (groups ∙ ap (λ (o : Names). o.groups ++ option_to_list (group_of line)) are)
    (feeds ∙ ap (λ (o : Names). o.feeds ++ option_to_list (feed_of line)) are))
  where
    same_names : {names : Names} {buffers : List (List ℕ)} {groups : List GroupNames}
        {feeds : List (List ℕ)} → names.buffers ≡ buffers → names.groups ≡ groups
        → names.feeds ≡ feeds
        → names ≡ record { buffers = buffers; groups = groups; feeds = feeds }
    same_names a b c = grind arith

-- The lines of a part are put one behind the other.
pub part_put : (text : List ℕ) (line : List (List ℕ)) (xs ys zs : List (List (List ℕ)))
    → text ++ line_octets line ++ flat_map line_octets xs ++ flat_map line_octets ys
    ++ flat_map line_octets zs
    ≡ text ++ flat_map line_octets (line ∷ (xs ++ ys ++ zs))
part_put text line xs ys zs =
    rw (flat_map-append line_octets (xs ++ ys) zs, flat_map-append line_octets xs ys)
    (simp append_assoc refl)

-- Lists that differ at a place differ,
pub differ_at : {X Y : Type 0} (f : X → Y) (xs ys : List X) (i : ℕ) (x y : X) (same : Bool)
    → i < length xs → length xs ≡ length ys → x ≡ get_or xs i x → y ≡ get_or ys i y
    → (IsTrue same ↔ (f x ≡ f y)) → same ≡ false
    → (IsTrue false ↔ (map f xs ≡ map f ys))
differ_at {X} {Y} f xs ys i x y same within long one other is not = (
  λ t. absurd (false≢true t),
  λ (h : map f xs ≡ map f ys).
      let there : i < length ys = omega (arith, within, long) in
      let alike : f x ≡ f y =
      ap f one ∙ sym (get_or-map f xs i x (f x) within)
      ∙ ap (λ (zs : List Y). get_or zs i (f x)) h
      ∙ get_or-map f ys i y (f x) there ∙ sym (ap f other) in
      sym not ∙ is.1 alike,
)

-- and names that are the same so far are it with one more that is.
pub same_more : (xs ys : List (List ℕ)) (i : ℕ) (x y : List ℕ) → i < length xs
    → length xs ≡ length ys → take i xs ≡ take i ys → x ≡ get_or xs i x → y ≡ get_or ys i y
    → bytes_eq x y ≡ true → take (i + 1) xs ≡ take (i + 1) ys
same_more xs ys i x y within long are one other is =
    let alike : x ≡ y = (bytes_eq-Decides x y).0 is in
    take_more_same xs ys i x within (omega (arith, within, long)) are
    (sym one ∙ alike ∙ other ∙ ap (λ (z : List ℕ). get_or ys i z) (sym alike))
