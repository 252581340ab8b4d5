-- Kills while articles of three blocks are written are crashes.
use Rattle.std.proofs.Common.{◌≡◌, ◌∙◌, ℕ, ◌≤◌, ◌<◌, true, List, [], ◌∷◌, All}
use Rattle.std.proofs.Common.{bytes_eq, Some, inl, inr, refl, sym, ap, arith}
use Rattle.std.proofs.Common.{codes, le_refl, true≢false, zero-le, false}
use Rattle.std.specs.List.{Contains}
use Rattle.std.proofs.lemmas.List.Elements.{All-nil}
use Rattle.std.proofs.lemmas.List.Sums.{count_by-le-length}
use Rattle.std.proofs.lemmas.Option.{same_Some, none-some}
use Rattle.news_terms.specs.Article.{Article, message_id}
use Rattle.relay_model.specs.Crash.{Again, Crash, IsOfBefore, IsRead, Listed}
use Rattle.relay_model.specs.Crash.{state_again, world_again}
use Rattle.relay_model.specs.Fetches.{IsGoneToken, front_of, is_at, text_under}
use Rattle.relay_model.specs.OnRecord.{IsBelow}
use Rattle.relay_model.specs.State.{State, Kept}
use Rattle.relay_model.specs.Terms.{last_moment}
use Rattle.relay_model.specs.World.{World}
use Rattle.relay_facts.proofs.Puts.{same_id}
use Rattle.relay_laws.specs.Terms.{buffer_a, k1, now}
use Rattle.relay_laws.specs.Worlds.{begun_state, begun_world, remembering_feed}
use Rattle.relay_laws.specs.Worlds.{third_job, three_blocks_at}
use Rattle.relay_crashes.specs.Killed.{IsThree, first_found, refused_listed}
use Rattle.relay_crashes.specs.Killed.{nothing_found, second_found, twice_found, twice_world}
use Rattle.relay_crashes.specs.Rows.{again_at}
use Rattle.relay_crashes.proofs.Threes.{all_one, all_two, below_at, crash_by, lie_apart, one_of_two}
use Rattle.relay_crashes.proofs.Threes.{none_begun, read_at, three_begun, two_begun}
use Rattle.relay_crashes.proofs.WellAgain.{kept_of}

-- a text that is found has its own id, or one among those found has
abbrev Owned : List Again → Again → Type 0
Owned texts one =
    (other : Again) × Contains texts other × (other.kept.id ≡ message_id one.read.fields)

-- what was saved, and wasn't gone, is found
abbrev IsSaved : State → List Again → Kept → Type 0
IsSaved σ texts before =
    true ≡ true → (IsGoneToken k1 σ before.token → ⊥)
    → text_under (kept_of texts) before.token ≡ Some before.text

-- a text that is whole in one of these worlds
abbrev text_at : (first : ℕ) → (id text : List ℕ) → Kept
text_at first id text =
    record { token = three_blocks_at 0 first; id = id; text = text }

-- the first text, the second, and another one of the second one's id
abbrev first_text : List ℕ → Article → Again
first_text one a = again_at 0 0 (codes "<1@x>") one a

abbrev second_text : List ℕ → Article → Again
second_text two b = again_at 0 3 (codes "<2@x>") two b

abbrev third_text : List ℕ → Article → Again
third_text three c = again_at 1 0 (codes "<2@x>") three c

-- the second text alone is found, whatever is listed, where three articles were begun and nothing
-- else was kept but what was overwritten
second_alone : (x : World) (listed : List Listed) (later : ℕ → ℕ) (two : List ℕ) (b : Article)
    → 11 ≤ front_of k1 x.state buffer_a
    → IsThree (codes "<2@x>") two b
    → ((text : List ℕ) → text_under x.state.kept (three_blocks_at 0 3) ≡ Some text → text ≡ two)
    → All (IsSaved x.state (second_text two b ∷ [])) x.state.kept
    → All (λ one. one.moment ≤ last_moment) listed
    → Crash k1 k1 (λ t. true) x (world_again k1 (second_found two b listed) later)
second_alone x listed later two b front is before kept timed =
    let texts : List Again = second_text two b ∷ [] in
    let σ : State = state_again k1 (second_found two b listed) in
    crash_by (λ t. true) x texts (3 ∷ 3 ∷ 3 ∷ []) listed later three_begun
    front
    (all_one IsRead (second_text two b)
    (read_at 0 3 (codes "<2@x>") (codes "<2@x>") two b is (inl refl)))
    (all_one (λ (one : Again). IsBelow k1 σ one.kept.token) (second_text two b)
    (below_at σ 0 3 (omega arith) (omega arith) (let less : 3 < 11 = omega arith in less)))
    (all_one (IsOfBefore x.state.kept) (second_text two b) before)
    (λ buffer cycle first. count_by-le-length
    (λ (one : Again). is_at buffer cycle first one.kept) texts)
    (λ id. count_by-le-length (λ (one : Again). bytes_eq id one.kept.id) texts)
    (let less : 1 ≤ 3 = omega arith in less)
    (all_one (Owned texts) (second_text two b)
    (second_text two b, (0, omega arith, refl), sym is.own))
    kept timed

-- once the third article was begun the first is gone
pub first_gone : (one two : List ℕ)
    → IsGoneToken k1 (begun_state one two third_job) (three_blocks_at 0 0)
first_gone one two = record {
  buffer = buffer_a;
  named = refl;
  gone = record { passed = let less : 8 < 11 = omega arith in less };
}

-- while the third article is written
pub killed_writing : (failures later : ℕ → ℕ) (one two : List ℕ) (b : Article)
    → IsThree (codes "<2@x>") two b
    → Crash k1 k1 (λ t. true) (begun_world failures one two third_job [] 2)
    (world_again k1 (second_found two b []) later)
killed_writing failures later one two b is =
    let x : World = begun_world failures one two third_job [] 2 in
    second_alone x [] later two b (le_refl 11) is (λ text e. sym (same_Some two text e))
    (all_two (IsSaved x.state (second_text two b ∷ [])) (text_at 0 (codes "<1@x>") one)
    (text_at 3 (codes "<2@x>") two)
    (λ saved apart. absurd (apart (first_gone one two)))
    (λ saved apart. refl))
    (All-nil (λ (one : Listed). one.moment ≤ last_moment))

-- after an id was refused
pub killed_refused : (failures later : ℕ → ℕ) (two : List ℕ) (b : Article) (listed : List Listed)
    → IsThree (codes "<2@x>") two b → All (λ one. one.moment ≤ last_moment) listed
    → Crash k1 k1 (λ t. true) (remembering_feed failures two)
    (world_again k1 (second_found two b listed) later)
killed_refused failures later two b listed is timed =
    let x : World = remembering_feed failures two in
    second_alone x listed later two b (le_refl 11) is (λ text e. sym (same_Some two text e))
    (all_one (IsSaved x.state (second_text two b ∷ [])) (text_at 3 (codes "<2@x>") two)
    (λ saved apart. refl))
    timed

-- the listed id has a moment that there is
pub listed_timed : All (λ (one : Listed). one.moment ≤ last_moment) refused_listed
listed_timed =
    all_one (λ (one : Listed). one.moment ≤ last_moment)
    (record { id = codes "<e@x>"; moment = now }) (omega arith)

-- two texts of one id
pub killed_twice : (failures later : ℕ → ℕ) (two three : List ℕ) (b c : Article)
    → IsThree (codes "<2@x>") two b → IsThree (codes "<2@x>") three c
    → Crash k1 k1 (λ t. true) (twice_world failures)
    (world_again k1 (twice_found two three b c) later)
killed_twice failures later two three b c is other =
    let x : World = twice_world failures in
    let unnamed : Again = again_at 0 3 [] two b in
    let named : Again = third_text three c in
    let texts : List Again = unnamed ∷ named ∷ [] in
    let σ : State = state_again k1 (twice_found two three b c) in
    crash_by (λ t. true) x texts (3 ∷ 3 ∷ 3 ∷ []) [] later three_begun (le_refl 11)
    (all_two IsRead unnamed named
    (read_at 0 3 [] (codes "<2@x>") two b is (inr refl))
    (read_at 1 0 (codes "<2@x>") (codes "<2@x>") three c other (inl refl)))
    (all_two (λ (one : Again). IsBelow k1 σ one.kept.token) unnamed named
    (below_at σ 0 3 (omega arith) (omega arith) (let less : 3 < 11 = omega arith in less))
    (below_at σ 1 0 (omega arith) (omega arith) (let less : 8 < 11 = omega arith in less)))
    (all_two (IsOfBefore x.state.kept) unnamed named
    (λ text e. absurd (none-some text e)) (λ text e. absurd (none-some text e)))
    (lie_apart unnamed named (λ same. omega (arith, same)))
    (λ id. count_by-le-length (λ (one : Again). bytes_eq id one.kept.id) (named ∷ []))
    (let less : 2 ≤ 3 = omega arith in less)
    (all_two (Owned texts) unnamed named
    (named, (1, omega arith, refl), sym is.own)
    (named, (1, omega arith, refl), sym other.own))
    (All-nil (IsSaved x.state texts))
    (All-nil (λ (one : Listed). one.moment ≤ last_moment))

-- two ids
two_ids : codes "<1@x>" ≡ codes "<2@x>" → ⊥
two_ids same = true≢false (ap (λ id. bytes_eq (codes "<1@x>") id) same)

-- before any block of the third article came to the device
pub killed_unwritten : (failures later : ℕ → ℕ) (one two : List ℕ) (a b : Article)
    → IsThree (codes "<1@x>") one a → IsThree (codes "<2@x>") two b
    → Crash k1 k1 (λ t. true) (begun_world failures one two third_job [] 0)
    (world_again k1 (first_found one two a b) later)
killed_unwritten failures later one two a b is other =
    let x : World = begun_world failures one two third_job [] 0 in
    let texts : List Again = first_text one a ∷ second_text two b ∷ [] in
    let σ : State = state_again k1 (first_found one two a b) in
    crash_by (λ t. true) x texts (3 ∷ 3 ∷ []) [] later two_begun
    (let less : 6 ≤ 11 = omega arith in less)
    (all_two IsRead (first_text one a) (second_text two b)
    (read_at 0 0 (codes "<1@x>") (codes "<1@x>") one a is (inl refl))
    (read_at 0 3 (codes "<2@x>") (codes "<2@x>") two b other (inl refl)))
    (all_two (λ (each : Again). IsBelow k1 σ each.kept.token) (first_text one a)
    (second_text two b)
    (below_at σ 0 0 (omega arith) (omega arith) (let less : 0 < 6 = omega arith in less))
    (below_at σ 0 3 (omega arith) (omega arith) (let less : 3 < 6 = omega arith in less)))
    (all_two (IsOfBefore x.state.kept) (first_text one a) (second_text two b)
    (λ text e. sym (same_Some one text e)) (λ text e. sym (same_Some two text e)))
    (lie_apart (first_text one a) (second_text two b) (λ same. omega (arith, same)))
    (λ id. one_of_two (λ (each : Again). bytes_eq id each.kept.id) (first_text one a)
    (second_text two b)
    (λ same also. two_ids
    (sym (same_id id (codes "<1@x>") same) ∙ same_id id (codes "<2@x>") also)))
    (let less : 2 ≤ 2 = omega arith in less)
    (all_two (Owned texts) (first_text one a) (second_text two b)
    (first_text one a, (0, omega arith, refl), sym is.own)
    (second_text two b, (1, omega arith, refl), sym other.own))
    (all_two (IsSaved x.state texts) (text_at 0 (codes "<1@x>") one)
    (text_at 3 (codes "<2@x>") two) (λ saved apart. refl) (λ saved apart. refl))
    (All-nil (λ (each : Listed). each.moment ≤ last_moment))

-- the power fails, and nothing was flushed
pub cut : (failures later : ℕ → ℕ) (one two : List ℕ)
    → Crash k1 k1 (λ t. false) (begun_world failures one two third_job [] 2)
    (world_again k1 nothing_found later)
cut failures later one two =
    let x : World = begun_world failures one two third_job [] 2 in
    let σ : State = state_again k1 nothing_found in
    crash_by (λ t. false) x [] [] [] later none_begun
    (let less : 0 ≤ 11 = omega arith in less)
    (All-nil IsRead) (All-nil (λ (each : Again). IsBelow k1 σ each.kept.token))
    (All-nil (IsOfBefore x.state.kept))
    (λ buffer cycle first. zero-le) (λ id. zero-le) (le_refl 0) (All-nil (Owned []))
    (all_two Lost (text_at 0 (codes "<1@x>") one) (text_at 3 (codes "<2@x>") two)
    (λ saved apart. absurd (true≢false (sym saved)))
    (λ saved apart. absurd (true≢false (sym saved))))
    (All-nil (λ (each : Listed). each.moment ≤ last_moment))
  where
    Lost : Kept → Type 0
    Lost before =
        false ≡ true
        → (IsGoneToken k1 (begun_state one two third_job) before.token → ⊥)
        → text_under [] before.token ≡ Some before.text
