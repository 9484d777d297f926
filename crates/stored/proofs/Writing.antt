-- Text that is written piece by piece.
use Rattle.std.proofs.Common.{◌≡◌, ℕ, List, [], ◌++◌, refl, sym, ap, ◌∙◌, subst, append_assoc, append-nil}
use Rattle.std.proofs.Output.{has_written_append, has_written_of_eq}
use Rattle.std.specs.Fmt.{HasWritten, IsPlainFormatter}
use Rattle.std.specs.declared.fmt.Formatter.{Formatter}

-- g is f after all of the whole but the rest was written
pub record HasLeft {W : Type 0} (took : W → List ℕ → W → Type 0) (f : Formatter W) (whole rest : List ℕ) (g : Formatter W) : Type 0 where
  pub text : List ℕ
  pub written : HasWritten took f text g
  pub is : text ++ rest ≡ whole

module _ {W : Type 0} {took : W → List ℕ → W → Type 0} {f : Formatter W} {whole rest : List ℕ} where
  pub nothing_yet : IsPlainFormatter f → rest ≡ whole → HasLeft took f whole rest f
  nothing_yet plain e = record { text = []; written = record { wrote = record { parts = []; calls = refl; whole = refl }; plain = plain }; is = e }

  pub no_more : {behind : List ℕ} {g : Formatter W} → rest ≡ behind → HasLeft took f whole rest g → HasLeft took f whole behind g
  no_more {behind} {g} e p = subst (λ x. HasLeft took f whole x g) e p

  pub one_more : (piece : List ℕ) {behind : List ℕ} {g h : Formatter W} → rest ≡ piece ++ behind → HasLeft took f whole rest g → HasWritten took g piece h → HasLeft took f whole behind h
  one_more piece {behind} e p q = record {
    text = p.text ++ piece;
    written = has_written_append _ _ _ _ _ _ p.written q;
    is = append_assoc p.text piece behind ∙ ap (λ x. p.text ++ x) (sym e) ∙ p.is;
  }

  pub all_written : {g : Formatter W} → rest ≡ [] → HasLeft took f whole rest g → HasWritten took f whole g
  all_written e p = has_written_of_eq _ _ _ _ _ (sym (append-nil p.text) ∙ ap (λ x. p.text ++ x) (sym e) ∙ p.is) p.written
