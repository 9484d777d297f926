-- One answer: on a sound sheet each call has at most one answer and leaves one state and one buffer, so a log determines its sheet.
-- Soundness is asked for only as a type can keep it: that a proof exists (`∥ .. ∥₁`).
use Rattle.std.specs.Prelude.{◌≡◌, ℕ, List}
use Rattle.polynomial.specs.Polynomial.{Poly, Written}
use Rattle.involutive.specs.Reduction.{Outcome}
use Rattle.involutive.specs.Sheet.{Setting, Lawful, State}
use Rattle.involutive.specs.Answers.{Answer, ReducesTo, Adds, Steps, Remains, Shows, FairCopies, Judges}
use Rattle.involutive.specs.Log.{Call, After}
use Rattle.involutive.specs.Sound.{Sound}

pub record OneAnswer (S : Setting) (s : State) : Type 0 where
  pub reduces : (room : ℕ) (h : Poly) (o p : Outcome) → Written S.field S.order S.variables h → ReducesTo S s room h o → ReducesTo S s room h p → o ≡ p
  pub adds : (f : Poly) (a b : Answer) (s₁ s₂ : State) → Adds S s f a s₁ → Adds S s f b s₂ → (a ≡ b) × (s₁ ≡ s₂)
  pub steps : (a b : Answer) (s₁ s₂ : State) → Steps S s a s₁ → Steps S s b s₂ → (a ≡ b) × (s₁ ≡ s₂)
  pub remains : (f out : Poly) (a b : Answer) (out₁ out₂ : Poly) → Remains S s f out a out₁ → Remains S s f out b out₂ → (a ≡ b) × (out₁ ≡ out₂)
  pub shows : (k : ℕ) (out : Poly) (a b : Answer) (out₁ out₂ : Poly) → Shows S s k out a out₁ → Shows S s k out b out₂ → (a ≡ b) × (out₁ ≡ out₂)
  pub fair_copies : (out : List ℕ) (a b : Answer) (out₁ out₂ : List ℕ) → FairCopies S s out a out₁ → FairCopies S s out b out₂ → (a ≡ b) × (out₁ ≡ out₂)
  pub judges : (a b : Answer) → Judges S s a → Judges S s b → a ≡ b

abbrev pub OneAnswerEach : Type 0
OneAnswerEach = (S : Setting) → Lawful S → (s : State) → ∥ Sound S s ∥₁ → OneAnswer S s

-- a log determines the state that it leaves, and the generators that were accepted
abbrev pub OneState : Type 0
OneState = (S : Setting) → Lawful S → (calls : List Call) (s₁ s₂ : State) (gs₁ gs₂ : List Poly) → After S calls s₁ gs₁ → After S calls s₂ gs₂ → (s₁ ≡ s₂) × (gs₁ ≡ gs₂)
