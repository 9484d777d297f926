-- Results whose errors are passed on, or take another name on the way.
use Rattle.std.proofs.Common.{◌≡◌, Ok, Err, MatchResult, Result, sym, subst}
use Rattle.std.specs.Result.{IsErrAnd}

-- what follows of an error follows of a result that is that error
pub is_that_error : {X E : Type 0} (P : Result X E → Type 0) (r : Result X E) (e : E) → IsErrAnd r (λ x. x ≡ e) → P (Err e) → P r
is_that_error P (Ok x) e h p = absurd h
is_that_error P (Err y) e h p = subst (λ x. P (Err x)) (sym h) p

-- a result whose error took another name, by what is known of it as it was
module _ {A E D : Type 0} (Q : Result A E → Type 0) (P : E → D → Type 0) where
  named : (x : Result A E) (y : Result A D) → MatchResult x (λ a. y ≡ Ok a) (λ e. IsErrAnd y (P e)) → Q x → MatchResult y (λ a. Q (Ok a)) (λ d. (e : E) × Q (Err e) × P e d)
  named (Ok a) y m h = subst (λ r. MatchResult r (λ b. Q (Ok b)) (λ d. (e : E) × Q (Err e) × P e d)) (sym m) h
  named (Err e) (Ok a) m h = absurd m
  named (Err e) (Err d) m h = (e, h, m)

  pub kept : (x : Result A E) (y : Result A D) → MatchResult x (λ a. y ≡ Ok a) (λ e. IsErrAnd y (P e)) → Q x → {a : A} → y ≡ Ok a → Q (Ok a)
  kept x y m h k = rw k at (named x y m h)

  pub renamed : (x : Result A E) (y : Result A D) → MatchResult x (λ a. y ≡ Ok a) (λ e. IsErrAnd y (P e)) → Q x → {d : D} → y ≡ Err d → (e : E) × Q (Err e) × P e d
  renamed x y m h k = rw k at (named x y m h)
