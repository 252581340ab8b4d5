-- Lines put behind what is there.
use Rattle.std.proofs.Common.{◌≡◌, ◌∙◌, ◌++◌, ◌∷◌, [], ℕ, List, ap, sym}
use Rattle.std.proofs.Common.{append_assoc, append-nil, flat_map, if◌then◌else◌}
use Rattle.std.proofs.Common.{Result, Ok, Err}
use Rattle.std.specs.Result.{OnOk, is_ok}
use Rattle.std.proofs.lemmas.Grind.{flat_map-append}
use Rattle.history_names.specs.Changes.{Adds, ended}

-- Nothing more is no line.
pub adds_none : (out : List ℕ) → Adds out out []
adds_none out = record { octets = sym (append-nil out) }

-- What is there where nothing failed.
pub on_ok : {T E : Type 0} (r : Result T E) (old new more : List ℕ)
    → new ≡ (if is_ok r then old ++ more else old) → OnOk r (new ≡ old ++ more)
on_ok (Ok done) old new more put = put
on_ok (Err error) old new more put = tt

-- One line with its end.
pub adds_one : (old new line before name after : List ℕ)
    → line ≡ before ++ name ++ after ++ 10 ∷ [] → new ≡ old ++ line
    → Adds old new ((before ++ (name ++ after)) ∷ [])
adds_one old new line before name after is put =
    record {
      octets =
          put
          ∙ ap (λ (more : List ℕ). old ++ more)
          (
          is
          ∙ ap (λ (text : List ℕ). text ++ 10 ∷ []) (append_assoc before name after)
          ∙ sym (append-nil ((before ++ (name ++ after)) ++ 10 ∷ []))
          );
    }

-- Where the first lines are put, what is to come is what comes behind them.
pub adds_more : (out mid all : List ℕ) (first more : List (List ℕ)) → Adds out mid first
    → out ++ flat_map ended (first ++ more) ≡ all → mid ++ flat_map ended more ≡ all
adds_more out mid all first more put is =
    ap (λ (front : List ℕ). front ++ flat_map ended more) put.octets
    ∙ append_assoc out (flat_map ended first) (flat_map ended more)
    ∙ ap (λ (lines : List ℕ). out ++ lines) (sym (flat_map-append ended first more)) ∙ is

-- Where nothing is to come all is put.
pub adds_all : (out old : List ℕ) (lines : List (List ℕ))
    → out ++ flat_map ended [] ≡ old ++ flat_map ended lines → Adds old out lines
adds_all out old lines is = record { octets = sym (append-nil out) ∙ is }

-- Lines behind lines.
adds_both : (a b c : List ℕ) (first second : List (List ℕ)) → Adds a b first → Adds b c second
    → Adds a c (first ++ second)
adds_both a b c first second one two =
    record {
      octets =
          two.octets ∙ ap (λ (front : List ℕ). front ++ flat_map ended second) one.octets
          ∙ append_assoc a (flat_map ended first) (flat_map ended second)
          ∙ ap (λ (lines : List ℕ). a ++ lines) (sym (flat_map-append ended first second));
    }

-- Four times, from nothing.
pub adds_four : (a b c d e : List ℕ) (first second third fourth : List (List ℕ)) → a ≡ []
    → Adds a b first → Adds b c second → Adds c d third → Adds d e fourth
    → e ≡ flat_map ended (first ++ (second ++ (third ++ fourth)))
adds_four a b c d e first second third fourth nothing one two three four =
    (adds_both a b e first (second ++ (third ++ fourth)) one
    (adds_both b c e second (third ++ fourth) two
    (adds_both c d e third fourth three four))).octets
    ∙ ap
    (λ (front : List ℕ). front ++ flat_map ended (first ++ (second ++ (third ++ fourth))))
    nothing
