-- Lists of parcels: those of one end, and what follows a closing mark.
use Rattle.std.proofs.Common.{◌≡◌, ◌≢◌, ◌⊎◌, inl, inr, ℕ, ◌==◌, Bool, true, false, true≢false}
use Rattle.std.proofs.Common.{List, [], ◌∷◌, ◌++◌, cond, refl, sym, ap, ◌∙◌, ⊎_elim, arith}
use Rattle.std.proofs.lemmas.Bool.Decides.{nat_tests}
use Rattle.job_queue.specs.declared.parcel.Parcel.{Parcel}
use Rattle.job_queue.specs.Parcels.{end_of, is_mark, of_end, has_mark, is_sealed}

-- false is not true
pub off : false ≡ true → ⊥
off e = true≢false (sym e)

-- nothing more at the end
append_nil : {A : Type 0} (xs : List A) → xs ++ [] ≡ xs
append_nil [] = refl
append_nil (x ∷ xs) = ap (λ l. x ∷ l) (append_nil xs)

-- where two lists are nothing together, the first is nothing
nil_left : {A : Type 0} (a b : List A) → a ++ b ≡ [] → a ≡ []
nil_left [] b h = refl
nil_left (x ∷ a) b h = absurd (cc)

-- and so is the second
nil_right : {A : Type 0} (a b : List A) → a ++ b ≡ [] → b ≡ []
nil_right [] b h = h
nil_right (x ∷ a) b h = absurd (cc)

-- ---- those of one end

-- the parcels of an end are told by its number, one after the other
of_end_cons : (e : ℕ) (p : Parcel) (a b : List Parcel) (c : Bool)
    → of_end e (a ++ b) ≡ of_end e a ++ of_end e b
    → cond c (p ∷ of_end e (a ++ b)) (of_end e (a ++ b))
    ≡ cond c (p ∷ of_end e a) (of_end e a) ++ of_end e b
of_end_cons e p a b true h = ap (λ l. p ∷ l) h
of_end_cons e p a b false h = h

-- those of two lists together are those of each
pub of_end_append : (e : ℕ) (a b : List Parcel) → of_end e (a ++ b) ≡ of_end e a ++ of_end e b
of_end_append e [] b = refl
of_end_append e (p ∷ a) b = of_end_cons e p a b (end_of p == e) (of_end_append e a b)

-- a parcel of the end alone
of_end_here : (e : ℕ) (p : Parcel) → end_of p ≡ e → of_end e (p ∷ []) ≡ p ∷ []
of_end_here e p h = grind (arith, nat_tests)

-- a parcel of another
of_end_else : (e : ℕ) (p : Parcel) → end_of p ≢ e → of_end e (p ∷ []) ≡ []
of_end_else e p h = grind (arith, nat_tests)

-- one more of the end is one more among its own
pub of_end_snoc : (e : ℕ) (a : List Parcel) (p : Parcel) → end_of p ≡ e
    → of_end e (a ++ p ∷ []) ≡ of_end e a ++ p ∷ []
of_end_snoc e a p h =
    of_end_append e a (p ∷ []) ∙ ap (λ l. of_end e a ++ l) (of_end_here e p h)

-- one more of another end is none
pub of_end_snoc_else : (e : ℕ) (a : List Parcel) (p : Parcel) → end_of p ≢ e
    → of_end e (a ++ p ∷ []) ≡ of_end e a
of_end_snoc_else e a p h =
    of_end_append e a (p ∷ []) ∙ ap (λ l. of_end e a ++ l) (of_end_else e p h)
    ∙ append_nil (of_end e a)

-- ---- closing marks

-- where there is no mark, none is first and none is later
no_mark : (c m : Bool) → cond c true m ≡ false → (c ≡ false) × (m ≡ false)
no_mark true m h = absurd (true≢false h)
no_mark false m h = (refl, h)

-- where there is a mark, it is the first or one later
some_mark : (c m : Bool) → cond c true m ≡ true → (c ≡ true) ⊎ (m ≡ true)
some_mark true m h = inl refl
some_mark false m h = inr h

-- whatever joins jobs alone, there is a mark where it is one
pub mark_snoc : (a : List Parcel) (p : Parcel) → has_mark a ≡ false
    → has_mark (a ++ p ∷ []) ≡ is_mark p
mark_snoc [] p h = only (is_mark p)
  where
    only : (m : Bool) → cond m true false ≡ m
    only true = refl
    only false = refl
mark_snoc (x ∷ a) p h =
    let parts = no_mark (is_mark x) (has_mark a) h in
    ap (λ m. cond m true (has_mark (a ++ p ∷ []))) parts.0 ∙ mark_snoc a p parts.1

-- a list that begins with a job is sealed where its rest is
seal_cons : (c s : Bool) → c ≡ false → s ≡ true → cond c false s ≡ true
seal_cons true s h k = absurd (true≢false h)
seal_cons false s h k = k

-- a sealed list of more than one begins with a job, and its rest is sealed
seal_parts : (c s : Bool) → cond c false s ≡ true → (c ≡ false) × (s ≡ true)
seal_parts true s h = absurd (off h)
seal_parts false s h = (refl, h)

-- whatever joins jobs alone, nothing follows a mark
pub seal_snoc : (a : List Parcel) (p : Parcel) → has_mark a ≡ false → is_sealed (a ++ p ∷ []) ≡ true
seal_snoc [] p h = refl
seal_snoc (x ∷ []) p h = seal_cons (is_mark x) true (no_mark (is_mark x) false h).0 refl
seal_snoc (x ∷ y ∷ a) p h =
    let parts = no_mark (is_mark x) (has_mark (y ∷ a)) h in
    seal_cons (is_mark x) (is_sealed (y ∷ (a ++ p ∷ []))) parts.0 (seal_snoc (y ∷ a) p parts.1)

-- nothing follows a mark that comes first
seal_first : (b : List Parcel) (x : Parcel) → is_mark x ≡ true → is_sealed (x ∷ b) ≡ true → b ≡ []
seal_first [] x m s = refl
seal_first (y ∷ b) x m s =
    absurd (true≢false (sym m ∙ (seal_parts (is_mark x) (is_sealed (y ∷ b)) s).0))

-- the rest of a sealed list is sealed
seal_rest : (x : Parcel) (b : List Parcel) → is_sealed (x ∷ b) ≡ true → is_sealed b ≡ true
seal_rest x [] s = refl
seal_rest x (y ∷ b) s = (seal_parts (is_mark x) (is_sealed (y ∷ b)) s).1

-- nothing follows the part that has the mark
seal_end : (a b : List Parcel) → is_sealed (a ++ b) ≡ true → has_mark a ≡ true → b ≡ []
seal_end [] b s m = absurd (off m)
seal_end (x ∷ a) b s m =
    ⊎_elim (λ (here : is_mark x ≡ true). nil_right a b (seal_first (a ++ b) x here s))
    (λ (later : has_mark a ≡ true). seal_end a b (seal_rest x (a ++ b) s) later)
    (some_mark (is_mark x) (has_mark a) m)

-- ---- what was taken, and what was handed over

-- where the mark of the end was taken, all that it handed over was
pub all_taken : (e : ℕ) (handed taken held : List Parcel) → handed ≡ of_end e (taken ++ held)
    → is_sealed handed ≡ true → has_mark (of_end e taken) ≡ true → of_end e taken ≡ handed
all_taken e handed taken held is sealed marked =
    let mine = of_end e taken in
    let parts : handed ≡ mine ++ of_end e held = is ∙ of_end_append e taken held in
    let rest = seal_end mine (of_end e held) (ap is_sealed (sym parts) ∙ sealed) marked in
    sym (parts ∙ ap (λ l. mine ++ l) rest ∙ append_nil mine)

-- where nothing was handed over, nothing was taken
pub none_taken : (e : ℕ) (taken held : List Parcel) → [] ≡ of_end e (taken ++ held)
    → of_end e taken ≡ []
none_taken e taken held is =
    nil_left (of_end e taken) (of_end e held) (sym (is ∙ of_end_append e taken held))
