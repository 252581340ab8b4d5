-- An end goes on by one session more.
use Rattle.std.proofs.Common.{◌≡◌, ℕ, Bool, true, false, List, [], refl, subst, sym}
use Rattle.std.proofs.Math.Logic.{∥∥₁_map, ∥∥₁_elim, ∥∥₁_prop}
use Rattle.boxcar.specs.Table.{Shelves}
use Rattle.live_session.specs.Carried.{IsServedBy}
use Rattle.live_session.specs.Course.{Hands}
use Rattle.live_session.specs.declared.wire.Finish.{Finish}
use Rattle.relay_live.specs.Sessions.{IsOneMore, Sessions, Then}
use Rattle.relay_model.specs.Terms.{Terms}

-- what was served over honest stores where the stores are trusted, and over any
pub served_over : (honest trusted : Bool) (register : Shelves) (w : Terms) (s end peer : ℕ)
    (before : Hands) (read written : List ℕ) (finish : Finish) (after : Hands)
    (heard said : List ℕ) → (honest ≡ true → trusted ≡ true)
    → (trusted ≡ true
    → ∥ IsServedBy true register w s end peer before read written finish after heard said ∥₁)
    → ∥ IsServedBy false register w s end peer before read written finish after heard said ∥₁
    → ∥ IsServedBy honest register w s end peer before read written finish after heard said ∥₁
served_over true trusted register w s end peer before read written finish after heard said trust
    served formed =
    served (trust refl)
served_over false trusted register w s end peer before read written finish after heard said trust
    served formed =
    formed

-- what was served over a connection that was new is one session more, of its number
pub one_more : (honest : Bool) (register : Shelves) (w : Terms) (end peer number spent : ℕ)
    (before begun after : Hands) (read written : List ℕ) (finish : Finish) (heard said : List ℕ)
    → spent ≡ number → begun ≡ before → read ≡ [] → written ≡ []
    → ∥ IsServedBy honest register w spent end peer begun read written finish after heard said ∥₁
    → ∥ IsOneMore honest register w end peer number before after ∥₁
one_more honest register w end peer number spent before begun after read written finish heard said
    same first unread unwritten served =
    ∥∥₁_map served (λ one. record {
      finish = finish;
      heard = heard;
      said = said;
      served = subst (λ (x : ℕ × Hands × List ℕ × List ℕ).
          IsServedBy honest register w x.0 end peer x.1 x.2 x.3 finish after heard said)
          (λ i. (same i, first i, unread i, unwritten i)) one;
    })

-- what the sessions of an end have come to goes on by one session more
pub goes_on : (honest : Bool) (register : Shelves) (w w' : Terms) (end end' peer peer' number : ℕ)
    (before after : Hands)
    → w' ≡ w → end' ≡ end → peer' ≡ peer
    → ∥ Sessions honest register w end peer before ∥₁
    → ∥ IsOneMore honest register w end peer number before after ∥₁
    → ∥ Sessions honest register w' end' peer' after ∥₁
goes_on honest register w w' end end' peer peer' number before after terms ends peers old more =
    ∥∥₁_elim old (∥∥₁_prop) (λ so_far.
    ∥∥₁_map more (λ one.
    subst (λ (x : Terms × ℕ × ℕ). Sessions honest register x.0 x.1 x.2 after)
    (λ i. (sym terms i, sym ends i, sym peers i))
    (Then number before after so_far one)))
