-- What follows from a call's answer: it enters the log, and a sound state stays one where ring and division stay.
use Rattle.std.proofs.Common.{◌≡◌, ℕ, Ok, Err, Result, sym, subst, ap₂}
use Rattle.polynomial.specs.Polynomial.{Poly}
use Rattle.involutive.specs.Sheet.{Setting, State}
use Rattle.involutive.specs.Answers.{Adds}
use Rattle.involutive.specs.Sound.{Sound}
use Rattle.involutive.specs.Log.{After}
use Rattle.involutive.specs.Log as log_of
use Rattle.calls.specs.declared.refusal.Refusal.{Refusal}
use Rattle.calls.specs.Told.{added}
use Rattle.calls.specs.Logs.{LoggedAdd}

pub log_add : {S : Setting} {s s' : State} {f : Poly} (r : Result ℕ Refusal) → Adds S s f (added r) s' → LoggedAdd S (log_of.add f) f (added r) s s'
log_add (Ok n) d calls gs a = After.added a d
log_add (Err e) d calls gs a = After.not_added a d

-- a ring and a division that stayed make the same setting, in which a sound state is sound
pub stays_sound : {R D : Type 0} (S : R → D → Setting) {r r' : R} {d d' : D} {s : State} → (r' ≡ r) × (d' ≡ d) → Sound (S r d) s → Sound (S r' d') s
stays_sound S {s = s} e I = subst (λ x. Sound x s) (sym (ap₂ S e.0 e.1)) I
