-- Refusals that take another name on the way.
use Rattle.std.proofs.Common.{◌≡◌, Ok, Err, Result, MatchResult, sym, refl, ap, ◌∙◌, subst}
use Rattle.std.specs.Result.{is_err, IsErrAnd}
use Rattle.std.proofs.lemmas.Bool.{false≢true}

-- what a refusal with another name, or none, was before
pub renamed : {E D : Type 0} (x : Result (Unit {0}) E) (y : Result (Unit {0}) D) (P : E → D → Type 0) → MatchResult x (λ u. y ≡ Ok u) (λ e. IsErrAnd y (P e)) → (d : D) → y ≡ Err d → (e : E) × (x ≡ Err e) × P e d
renamed (Ok u) y P m d q = absurd (false≢true (ap is_err (sym m ∙ q)))
renamed (Err e) (Ok u) P m d q = absurd m
renamed (Err e) (Err b) P m d q = (e, refl, subst (P e) (err_same b d q) m)
  where
    err_same : {D : Type 0} (b d : D) → ◌≡◌ {A = Result (Unit {0}) D} (Err b) (Err d) → b ≡ d
    err_same b d q = cc q

pub unrefused : {E D : Type 0} (x : Result (Unit {0}) E) (y : Result (Unit {0}) D) (P : E → D → Type 0) → MatchResult x (λ u. y ≡ Ok u) (λ e. IsErrAnd y (P e)) → (u : Unit {0}) → y ≡ Ok u → x ≡ Ok tt
unrefused (Ok v) y P m u q = refl
unrefused (Err e) (Ok v) P m u q = absurd m
unrefused (Err e) (Err b) P m u q = absurd (false≢true (sym (ap is_err q)))
