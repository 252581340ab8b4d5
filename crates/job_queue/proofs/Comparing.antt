-- A comparison: a pass lends its ends to the writer's, which learns, and gives them back. The
-- writer's pass knows w at first, the other k.
use Rattle.std.proofs.Common.{◌≡◌, ℕ, ◌+◌, Bool, List, [], sym, ap, ◌∙◌, subst, arith}
use Rattle.job_queue.specs.declared.known.Known.{Known}
use Rattle.job_queue.specs.declared.parcel.Parcel.{Parcel}
use Rattle.job_queue.specs.Delivery.{knows, OfEnd, OfWriter, Compared, TookAll, TookNone}
use Rattle.job_queue.specs.Delivery.{without_ends, ends_of, meeting}
use Rattle.job_queue.proofs.Lists.{all_taken, none_taken}

-- the writer's pass knows again what it knew
pub writer_again : (w lent met learned parted : Known) → OfWriter w
    → met ≡ meeting w lent → learned ≡ met → parted ≡ without_ends learned → parted ≡ w
writer_again w lent met learned parted is m l p =
    p ∙ ap without_ends (l ∙ m)
    ∙ ap (λ (takes : Bool). knows 0 0 [] takes w.taken) (ap (λ (k : Known). k.takes) is) ∙ sym is

-- and so does the other
pub other_again : (w k rest lent met learned back again : Known) → rest ≡ without_ends k
    → lent ≡ ends_of k → met ≡ meeting w lent → learned ≡ met → back ≡ ends_of learned
    → again ≡ meeting rest back → again ≡ k
other_again w k rest lent met learned back again r e m l b a =
    a ∙ ap (λ (x : Known). meeting x back) r
    ∙ ap (meeting (without_ends k)) (b ∙ ap ends_of (l ∙ m ∙ ap (meeting w) e))

-- what was learned of the lent ends is of those of the other
pub learned_of : (w k lent met : Known) (held : List Parcel) → lent ≡ ends_of k
    → met ≡ meeting w lent → Compared met held → Compared (meeting w k) held
learned_of w k lent met held e m fact =
    subst (λ (x : Known). Compared x held) (m ∙ ap (meeting w) e) fact

-- of an end whose mark was taken, all that it handed over was taken
pub told_whole : (end : ℕ) (w k : Known) (held : List Parcel) → OfWriter w → OfEnd end k
    → Compared (meeting w k) held → TookAll end w k
told_whole end w k held is own fact marked =
    let low : k.low ≡ end = ap (λ (x : Known). x.low) own in
    let high : k.high ≡ end + 1 = ap (λ (x : Known). x.high) own in
    let here = fact end (omega arith) (omega arith) (ap (λ (x : Known). x.takes) is) in
    all_taken end k.handed w.taken held here.0 here.1 marked

-- of the ends of a pass that has handed nothing over, nothing was taken
pub told_nothing : (w k : Known) (held : List Parcel) → OfWriter w → k.handed ≡ []
    → Compared (meeting w k) held → TookNone w k
told_nothing w k held is none fact end from to =
    let here = fact end from to (ap (λ (x : Known). x.takes) is) in
    none_taken end w.taken held (sym none ∙ here.0)
