-- A turn of repeated steps.
use Rattle.std.proofs.Common.{◌≡◌, ℕ, suc, ◌+◌, List, ◌∷◌, Ok, Option, ◌⊎◌, ⊎_elim, sym, subst, arith}
use Rattle.involutive.specs.Reduction.{Refusal}
use Rattle.involutive.specs.Sheet.{Setting, State}
use Rattle.involutive.specs.Answers.{Answer, marked_answer, appended_answer, Steps}
use Rattle.calls.specs.declared.answer.Step.{Step}
use Rattle.calls.specs.Told.{stepped}
use Rattle.involutive.specs.Log.{Call, step}
use Rattle.replay.specs.Replay.{Stepping, marks, appends}

-- where the steps made so far stand: whatever the steps left come to, all of them come to
pub record Stood (S : Setting) (s₀ : State) (log₀ : List Call) (count granted : ℕ) (s : State) (left : ℕ) : Type 0 where
  pub log : List Call
  pub onward : (k : ℕ) (e : Option Refusal) (s' : State) (log' : List Call) → Stepping S s log left k e s' log' → Stepping S s₀ log₀ count (granted + k) e s' log'

-- a step that is counted
abbrev pub Counts : Setting → State → State → Type 0
Counts S s s' = Steps S s marked_answer s' ⊎ Steps S s appended_answer s'

module _ {S : Setting} {s₀ : State} {log₀ : List Call} {count granted : ℕ} where
  pub stood_more : {s s' : State} {left less : ℕ} → left ≡ suc less → Stood S s₀ log₀ count granted s left → Counts S s s' → Stood S s₀ log₀ count (granted + 1) s' less
  stood_more {s = s} {s' = s'} {less = less} q w st = record {
    log = step ∷ w.log;
    onward = λ k e s'' log'' r.
        let all : Stepping S s w.log (suc less) (suc k) e s'' log'' = ⊎_elim (λ m. marks m r) (λ a. appends a r) st in
        subst (λ x. Stepping S s₀ log₀ count x e s'' log'') (omega arith) (w.onward (suc k) e s'' log'' (subst (λ n. Stepping S s w.log n (suc k) e s'' log'') (sym q) all));
  }

  pub stood_last : {s s' : State} {log' : List Call} {e : Option Refusal} {left n : ℕ} → left ≡ n → (w : Stood S s₀ log₀ count granted s left) → Stepping S s w.log n 0 e s' log' → Stepping S s₀ log₀ count granted e s' log'
  stood_last {s = s} {s' = s'} {log' = log'} {e = e} q w r = subst (λ x. Stepping S s₀ log₀ count x e s' log') (omega arith) (w.onward 0 e s' log' (subst (λ n. Stepping S s w.log n 0 e s' log') (sym q) r))

pub stood_first : {S : Setting} {s : State} {log : List Call} {n left : ℕ} → left ≡ n → Stood S s log n 0 s left
stood_first {S = S} {s = s} {log = log} {left = left} q = record { log = log; onward = λ k e s' log' r. subst (λ n. Stepping S s log n (0 + k) e s' log') q (subst (λ x. Stepping S s log left x e s' log') (omega arith) r) }

-- a step's answer under a setting that is the same
pub said : {S S' : Setting} {s s' : State} {a : Answer} → S' ≡ S → Steps S' s a s' → Steps S s a s'
said {s = s} {s' = s'} {a = a} e f = subst (λ S. Steps S s a s') e f

pub known : {S : Setting} {s s' : State} {a b : Step} → a ≡ b → Steps S s (stepped (Ok a)) s' → Steps S s (stepped (Ok b)) s'
known {S = S} {s = s} {s' = s'} e st = subst (λ a. Steps S s (stepped (Ok a)) s') e st
