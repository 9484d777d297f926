-- What each command comes to, from the sheet's answer and the text that was written.
use Rattle.std.proofs.Common.{◌≡◌, ℕ, ◌≤◌, List, [], ◌∷◌, ◌++◌, length, get_or, IfOk, Ok, Err, Option, Result, MatchResult, sym, ap, ◌∙◌, subst, append-nil, Bor}
use Rattle.std.specs.Result.{IsOkAnd}
use Rattle.calls.specs.declared.refusal.Refusal.{Refusal as Denial}
use Rattle.calls.specs.declared.answer.Verdict.{Verdict}
use Rattle.calls.specs.Told.{added, judgement, judged}
use Rattle.involutive.specs.Reduction.{Refusal}
use Rattle.replay.specs.declared.command.Command.{Command}
use Rattle.replay.specs.declared.command.Command.TheVariants.{Term as CommandTerm}
use Rattle.replay.specs.Grammar.{byte_of, operands_of}
use Rattle.replay.specs.Words.{word, term_of, gather, answered, shown, copied, stepped}
use Rattle.polynomial.specs.Polynomial.{Poly}
use Rattle.involutive.specs.Sheet.{Setting, State}
use Rattle.involutive.specs.Answers.{Answer, Adds, add_faulty, add_stuck, add_zero, add_full, add_row, Remains, Shows, FairCopies, Judges}
use Rattle.involutive.specs.Log.{Call, add, remainder, show_row, fair_copy, verdict, After}
use Rattle.replay.specs.Replay.{Stepping, Does, gathers, adds, steps, remains, shows, copies, judges, Acts, most_bytes}
use Rattle.polynomial.specs.Check.{most_terms}

pub made_then : {X Y : Type 0} {P Q : X → Type 0} (r : Result X Y) → IfOk r P → ((x : X) → P x → Q x) → IfOk r Q
made_then (Ok x) p f = f x p
made_then (Err y) p f = tt

-- a text that is added in other words
pub told_as : (before : List ℕ) {after t u : List ℕ} → after ≡ before ++ t → t ≡ u → after ≡ before ++ u
told_as before e q = e ∙ ap (λ x. before ++ x) q

-- a verdict's number is told as the rows of an add are
pub judged_line : (at b : ℕ) (v : Result Verdict Denial) (r : Result ℕ Denial) (P : Verdict → ℕ → Type 0) → MatchResult v (λ x. IsOkAnd r (P x)) (λ e. r ≡ Err e) → ((x : Verdict) (n : ℕ) → P x n → n ≡ judgement x) → answered at b (added r) ≡ answered at b (judged v)
judged_line at b (Ok x) (Ok n) P m f = ap (λ n. answered at b (added (Ok n))) (f x n m)
judged_line at b (Ok x) (Err e) P m f = absurd m
judged_line at b (Err e) r P m f = ap (λ r. answered at b (added r)) m

module _ {S : Setting} {s : State} {g : Poly} {at : ℕ} {before after : List ℕ} where
  pub acts_term : {ops : List ℕ} {g' : Poly} → g' ≡ gather g (term_of ops) → after ≡ before → Acts S s g at 1 ops s g' before after
  acts_term {ops = ops} {g' = g'} e t log = record { text = []; bytes = t ∙ sym (append-nil before); is_so = (log, subst (λ h. Does S s log g at 1 ops s log h []) (sym e) gathers) }

  pub acts_term_of : {o : Bor (List ℕ)} {k : Command} {g' : Poly} → k ≡ CommandTerm o → g' ≡ gather g (term_of o.now) → after ≡ before → Acts S s g at (byte_of k) (operands_of k) s g' before after
  acts_term_of {o = o} {g' = g'} e q t = subst (λ k. Acts S s g at (byte_of k) (operands_of k) s g' before after) (sym e) (acts_term {ops = o.now} q t)

  pub acts_add : {f g' : Poly} {r : Answer} {s' : State} → f ≡ g → g' ≡ [] → after ≡ before ++ answered at 2 r → Adds S s f r s' → Acts S s g at 2 [] s' g' before after
  acts_add {r = r} {s' = s'} e n t a log = record { text = answered at 2 r; bytes = t; is_so = (add g ∷ log, subst (λ h. Does S s log g at 2 [] s' (add g ∷ log) h (answered at 2 r)) (sym n) (adds (subst (λ f. Adds S s f r s') e a))) }

  pub acts_steps : {ops : List ℕ} {k count : ℕ} {e : Option Refusal} {s' : State} → count ≡ word (get_or ops 0 0) (get_or ops 1 0) → after ≡ before ++ stepped at k e → ((log : List Call) → (log' : List Call) × Stepping S s log count k e s' log') → Acts S s g at 3 ops s' g before after
  acts_steps {k = k} {e = e} {s' = s'} n t w log = record { text = stepped at k e; bytes = t; is_so = ((w log).0, steps (subst (λ c. Stepping S s log c k e s' (w log).0) n (w log).1)) }

  pub acts_remainder : {f g' out out' : Poly} {r : Answer} {s' : State} → f ≡ g → g' ≡ [] → s' ≡ s → most_terms ≤ length out → after ≡ before ++ shown at 4 r out' → Remains S s f out r out' → Acts S s g at 4 [] s' g' before after
  acts_remainder {g' = g'} {out = out} {out' = out'} {r = r} e n q l t a log =
      record { text = shown at 4 r out'; bytes = t; is_so = (remainder g out ∷ log, subst (λ s'. Does S s log g at 4 [] s' (remainder g out ∷ log) g' (shown at 4 r out')) (sym q) (subst (λ h. Does S s log g at 4 [] s (remainder g out ∷ log) h (shown at 4 r out')) (sym n) (remains l (subst (λ f. Remains S s f out r out') e a)))) }

  pub acts_row : {ops : List ℕ} {k : ℕ} {out out' : Poly} {r : Answer} → k ≡ get_or ops 0 0 → most_terms ≤ length out → after ≡ before ++ shown at 5 r out' → Shows S s k out r out' → Acts S s g at 5 ops s g before after
  acts_row {ops = ops} {out = out} {out' = out'} {r = r} e l t a log = record { text = shown at 5 r out'; bytes = t; is_so = (show_row (get_or ops 0 0) out ∷ log, shows l (subst (λ k. Shows S s k out r out') e a)) }

  pub acts_copy : {out out' : List ℕ} {r : Answer} {s' : State} → s' ≡ s → most_bytes ≤ length out → after ≡ before ++ copied at r out' → FairCopies S s out r out' → Acts S s g at 6 [] s' g before after
  acts_copy {out = out} {out' = out'} {r = r} q l t a log = record { text = copied at r out'; bytes = t; is_so = (fair_copy out ∷ log, subst (λ s'. Does S s log g at 6 [] s' (fair_copy out ∷ log) g (copied at r out')) (sym q) (copies l a)) }

  pub acts_verdict : {r : Answer} → after ≡ before ++ answered at 7 r → Judges S s r → Acts S s g at 7 [] s g before after
  acts_verdict {r = r} t a log = record { text = answered at 7 r; bytes = t; is_so = (verdict ∷ log, judges a) }

-- a log with the calls of a command leaves the sheet as that command does
module _ {S : Setting} where
  pub after_steps : {s s' : State} {log log' : List Call} {gs : List Poly} {n k : ℕ} {e : Option Refusal} → After S log s gs → Stepping S s log n k e s' log' → After S log' s' gs
  after_steps a Stepping.used_up = a
  after_steps a (Stepping.on_closed st) = After.stepped a st
  after_steps a (Stepping.on_denial st) = After.stepped a st
  after_steps a (Stepping.marks st r) = after_steps (After.stepped a st) r
  after_steps a (Stepping.appends st r) = after_steps (After.stepped a st) r

  after_add : {s s' : State} {log : List Call} {gs : List Poly} {f : Poly} {r : Answer} → After S log s gs → Adds S s f r s' → (gs' : List Poly) × After S (add f ∷ log) s' gs'
  after_add {gs = gs} a (add_faulty e) = (gs, After.not_added a (add_faulty e))
  after_add {gs = gs} a (add_stuck e h) = (gs, After.not_added a (add_stuck e h))
  after_add {gs = gs} {f = f} a (add_zero e h) = (gs ++ (f ∷ []), After.added a (add_zero e h))
  after_add {gs = gs} a (add_full e h l) = (gs, After.not_added a (add_full e h l))
  after_add {gs = gs} {f = f} a (add_row e h l) = (gs ++ (f ∷ []), After.added a (add_row e h l))

  pub after_does : {s s' : State} {log log' : List Call} {gs : List Poly} {at b : ℕ} {ops text : List ℕ} {g g' : Poly} → After S log s gs → Does S s log g at b ops s' log' g' text → (gs' : List Poly) × After S log' s' gs'
  after_does {gs = gs} a Does.gathers = (gs, a)
  after_does a (Does.adds d) = after_add a d
  after_does {gs = gs} a (Does.steps w) = (gs, after_steps a w)
  after_does {gs = gs} a (Does.remains l d) = (gs, After.reduced a d)
  after_does {gs = gs} a (Does.shows l d) = (gs, After.shown a d)
  after_does {gs = gs} a (Does.copies l d) = (gs, After.copied a d)
  after_does {gs = gs} a (Does.judges d) = (gs, After.judged a d)
