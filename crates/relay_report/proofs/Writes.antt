-- What a writer gained piece by piece.
use Rattle.std.proofs.Common.{◌≡◌, ℕ, ◌+◌, ◌<◌, List, [], ◌++◌, length, take, drop, get_or}
use Rattle.std.proofs.Common.{Option, Some, None, Result, Ok, Err, refl, sym, ap, ◌∙◌, append_assoc}
use Rattle.std.proofs.Common.{append-nil}
use Rattle.std.proofs.lemmas.Grind.{flat_map-append}
use Rattle.std.proofs.lemmas.List.{drop_more, take-append-drop}
use Rattle.std.specs.List.{flat_map}
use Rattle.std.specs.Io.KnownBytes.{Appends, Keeps}
use Rattle.std.specs.Result.{IsErr}
use Rattle.relay_report.specs.Written.{GainsFront, Writes}

-- A writer that gains one text and then another gains both.
pub appends_both : (old mid new : Option (List ℕ)) (first second : List ℕ) → Appends old mid first
    → Appends mid new second → Appends old new (first ++ second)
appends_both None mid new first second a b = tt
appends_both (Some xs) None new first second a b = absurd a
appends_both (Some xs) (Some ys) None first second a b = absurd b
appends_both (Some xs) (Some ys) (Some zs) first second a b =
    rw (b, a) (append_assoc xs first second)

-- A writer that gains nothing holds what it held.
pub appends_none : (old : Option (List ℕ)) → Appends old old []
appends_none None = tt
appends_none (Some xs) = simp append-nil

-- A writer that keeps what it held has gained what it had gained.
pub gains_kept : (old mid new : Option (List ℕ)) (text : List ℕ) → Appends old mid text
    → Keeps mid new → Appends old new text
gains_kept None mid new text a k = tt
gains_kept (Some xs) None new text a k = absurd a
gains_kept (Some xs) (Some ys) None text a k = absurd k
gains_kept (Some xs) (Some ys) (Some zs) text a k = k ∙ a

-- Of octets that begin with what was taken, more is taken.
pub takes_more : (octets done rest : List ℕ) (count : ℕ) → octets ≡ done ++ rest
    → octets ≡ (done ++ take count rest) ++ drop count rest
takes_more octets done rest count e =
    e ∙ ap (λ (left : List ℕ). done ++ left) (sym (take-append-drop count rest))
    ∙ sym (append_assoc done (take count rest) (drop count rest))

-- A front of a part that follows what was written, with more behind it, is a front of all.
pub front_within : (old mid new : Option (List ℕ)) (done text rest : List ℕ) → Appends old mid done
    → GainsFront text mid new → GainsFront (done ++ (text ++ rest)) old new
front_within old mid new done text rest a f =
    record {
      front = done ++ f.front;
      left = f.left ++ rest;
      cut = ap (λ (t : List ℕ). done ++ (t ++ rest)) f.cut ∙ simp append_assoc;
      gained = appends_both old mid new done f.front a f.gained;
    }

-- A call that failed has written a front.
pub writes_failed : {E : Type 0} (result : Result (Unit {0}) E) (text : List ℕ)
    (before after : Option (List ℕ)) → IsErr result → GainsFront text before after
    → Writes result text before after
writes_failed (Ok done) text before after is f = absurd (cc is)
writes_failed (Err error) text before after is f = f

-- Parts before one, that one and those behind it are all parts.
pub parts_at : {X : Type 0} (f : X → List ℕ) (xs : List X) (i : ℕ) (x : X) → i < length xs
    → flat_map f xs ≡ flat_map f (take i xs) ++ (f (get_or xs i x) ++ flat_map f (drop (i + 1) xs))
parts_at f xs i x h =
    ap (flat_map f) (sym (take-append-drop i xs)) ∙ flat_map-append f (take i xs) (drop i xs)
    ∙ ap (λ ys. flat_map f (take i xs) ++ flat_map f ys) (drop_more xs i x h)

-- A front of what stands first is a front of all.
pub front_before : (before after : Option (List ℕ)) (text rest : List ℕ)
    → GainsFront text before after → GainsFront (text ++ rest) before after
front_before before after text rest f =
    record {
      front = f.front;
      left = f.left ++ rest;
      cut = ap (λ (t : List ℕ). t ++ rest) f.cut ∙ append_assoc f.front f.left rest;
      gained = f.gained;
    }

-- A front of what follows a text that was written is a front of both.
pub front_behind : (done text : List ℕ) (old mid new : Option (List ℕ)) → Appends old mid done
    → GainsFront text mid new → GainsFront (done ++ text) old new
front_behind done text old mid new a f =
    record {
      front = done ++ f.front;
      left = f.left;
      cut = ap (λ (t : List ℕ). done ++ t) f.cut ∙ sym (append_assoc done f.front f.left);
      gained = appends_both old mid new done f.front a f.gained;
    }

-- What is written behind a text is written behind it.
pub writes_behind : {E : Type 0} (result : Result (Unit {0}) E) (done text : List ℕ)
    (old mid new : Option (List ℕ)) → Appends old mid done → Writes result text mid new
    → Writes result (done ++ text) old new
writes_behind (Ok fine) done text old mid new a w = appends_both old mid new done text a w
writes_behind (Err error) done text old mid new a w = front_behind done text old mid new a w

-- A writer that isn't called holds what it held.
pub keeps_same : (held : Option (List ℕ)) → Keeps held held
keeps_same None = tt
keeps_same (Some xs) = refl
