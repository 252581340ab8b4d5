-- How a number that was given is read, and how numbers are told.
use Rattle.std.proofs.Common.{◌≡◌, ◌∙◌, ap, arith, false, true, ℕ, Bool, List, Option, None}
use Rattle.std.proofs.Common.{◌++◌, [], Some, append-nil, append_assoc, refl, sym}
use Rattle.std.specs.Prelude.{Err, Ok, Result, option_and_then}
use Rattle.std.specs.Str.Parse.{ParsesUnsigned}
use Rattle.clap.specs.ValueTests.{is_unsigned_in}
use Rattle.clap.specs.Words.{ReadsOne}
use Rattle.clap.specs.declared.builder.ValueParser.TheVariants.{Unsigned}
use Rattle.clap.proofs.ValueTestLemmas.{Accepts-accepts, accepts-Accepts}
use Rattle.relay_command.specs.Numbers.{number_of}

-- A text that was read as a number of 32 bits stands for it, and one that couldn't be for none.
pub number_read : {E : Type 0} (gives : List ℕ → Result ℕ E → Type 0) (text : List ℕ)
    (given : Option ℕ) → ((r : Result ℕ E) → gives text r → ParsesUnsigned 32 10 text r)
    → ReadsOne gives text given → given ≡ number_of text
number_read {E} gives text given parses reads =
    go (is_unsigned_in 0 4294967295 text) refl given reads
  where
    go : (b : Bool) → is_unsigned_in 0 4294967295 text ≡ b → (o : Option ℕ) → ReadsOne gives text o
        → o ≡ number_of text
    go true is (Some n) read =
        let parsed = parses (Ok n) read in
        rw is (ap Some parsed.1)
    go true is None read =
        let inside = accepts-Accepts false (Unsigned 0 4294967295) text is in
        let most = inside.3 in
        absurd (parses (Err read.0) read.1 (inside.0, omega (arith, most)))
    go false is (Some n) read =
        let parsed = parses (Ok n) read in
        let low = parsed.0.1 in
        let passes = Accepts-accepts false (Unsigned 0 4294967295) text
        (parsed.0.0, omega (arith, low), omega arith, omega (arith, low)) in
        let both : false ≡ true = sym is ∙ passes in
        cc
    go false is None read = rw is refl

-- A number that may be given is that of its text, where there is one.
pub number_given : {E : Type 0} (gives : List ℕ → Result ℕ E → Type 0) (text : Option (List ℕ))
    (given : Option ℕ)
    → ((t : List ℕ) (r : Result ℕ E) → gives t r → ParsesUnsigned 32 10 t r)
    → (text ≡ None → given ≡ None) → ((t : List ℕ) → text ≡ Some t → ReadsOne gives t given)
    → given ≡ option_and_then number_of text
number_given gives None given parses none reads = none refl
number_given gives (Some t) given parses none reads =
    number_read gives t given (parses t) (reads t refl)

-- Five numbers, each behind its words, and an end are one line.
pub in_line : (a b c d e end : List ℕ) {k l m n o k' l' m' n' o' : List ℕ} → k ≡ k' → l ≡ l'
    → m ≡ m' → n ≡ n' → o ≡ o'
    → a ++ (k ++ (b ++ (l ++ (c ++ (m ++ (d ++ (n ++ (e ++ (o ++ (end ++ []))))))))))
    ≡ a ++ k' ++ b ++ l' ++ c ++ m' ++ d ++ n' ++ e ++ o' ++ end
in_line a b c d e end first second third fourth fifth =
    simp (append_assoc, append-nil, first, second, third, fourth, fifth)
