-- Every call has at most one answer, and so a log leaves one state.
use Rattle.std.proofs.Common.{◌≡◌, ℕ, suc, ◌-◌, ◌<◌, ◌≤◌, cond, eqb, ltb, ◌⊎◌, List, [], ◌∷◌, ◌++◌, length, drop, Some, None, Option, sym, refl, ap, ◌∙◌, subst, subst₂, inl, inr, arith}
use mathlib.Core.Sum.{⊎_set}
use Rattle.std.proofs.Math.Logic.{∥∥₁_elim}
use Rattle.std.proofs.Props.{props}
use Rattle.std.proofs.lemmas.Bool.{eq-eqb, ne_eqb, lt-ltb, le-ltb, cond-true, cond-false, both_ways}
use Rattle.polynomial.specs.Polynomial.{Poly}
use Rattle.involutive.specs.Reduction.{row, Refusal, Outcome, left, refused, refuse}
use Rattle.polynomial.specs.Check.{Fits, most_terms}
use Rattle.involutive.specs.Answers
use Rattle.involutive.specs.Sheet.{Setting, State, most_rows, Closed, Chosen, prolonged, with_row, with_mark, Lawful}
use Rattle.polynomial.specs.declared.refusal.Refusal.{Refusal as Fault}
use Rattle.involutive.specs.Answers.{rows_now, closed_answer, marked_answer, appended_answer, written, copied_answer, denied, first_fault, fault_refusal, ReducesTo, Adds, Steps, Remains, Shows, FairCopies, Judges, front, Answer, Selection, Copies, Copied, copies, copy_refused}
use Rattle.polynomial.specs.Bytes.{copy_bytes}
use Rattle.involutive.specs.Log.{Call, After, made, added, not_added, stepped, reduced, shown, copied, judged}
use Rattle.involutive.specs.Once.{OneAnswer, OneAnswerEach, OneState}
use Rattle.involutive.proofs.Soundness
use Rattle.involutive.proofs.OneReduction.{reduced_one}
use Rattle.involutive.proofs.OneChoice.{chosen_one, selection_one}
use Rattle.involutive.specs.Sound.{Sound}

parts : {A B : Type 0} {x y : A × B} → x ≡ y → (x.0 ≡ y.0) × (x.1 ≡ y.1)
parts e = (ap (λ x. x.0) e, ap (λ x. x.1) e)

-- x is what the one thing that P holds of comes to
record Comes {A X : Type 0} (P : A → Type 0) (result : A → X) (x : X) : Type 0 where
  by : A
  holds : P by
  is : x ≡ result by

come : {A X : Type 0} {P : A → Type 0} {result : A → X} {x : X} (a : A) → P a → x ≡ result a → Comes P result x
come a h e = record { by = a; holds = h; is = e }

comes_one : {A X : Type 0} {P : A → Type 0} {result : A → X} → ((a b : A) → P a → P b → a ≡ b) → (x y : X) → Comes P result x → Comes P result y → x ≡ y
comes_one {result = result} one x y p q = p.is ∙ ap result (one _ _ p.holds q.holds) ∙ sym q.is

module _ (S : Setting) (W : Lawful S) (s : State) (I : Sound S s) where
  -- what a polynomial that is handed over comes to: a fault, or what reducing it comes to
  data Handed (f : Poly) : Fault ⊎ Outcome → Type 0 where
    faulty : {q : Fault} → first_fault S f ≡ Some q → Handed f (inl q)
    reduces : {o : Outcome} → first_fault S f ≡ None → ReducesTo S s most_terms f o → Handed f (inr o)

  handed_one : {f : Poly} {x y : Fault ⊎ Outcome} → Handed f x → Handed f y → x ≡ y
  handed_one (faulty e) (faulty d) = cc
  handed_one (faulty e) (reduces d r) = cc
  handed_one (reduces e r) (faulty d) = cc
  handed_one {f} (reduces e r) (reduces d q) = ap inr (reduced_one S W I {room = most_terms} {h = f} (Soundness.no_fault S W f e).written r q)

  -- a call that is denied on an open sheet, and looks for something on a closed one
  data Asked {A : Type 0} (P : A → Type 0) : Option A → Type 0 where
    on_open : (Closed S s → ⊥) → Asked P None
    on_closed : {a : A} → Closed S s → P a → Asked P (Some a)

  asked_one : {A : Type 0} {P : A → Type 0} → ((a b : A) → P a → P b → a ≡ b) → (x y : Option A) → Asked P x → Asked P y → x ≡ y
  asked_one one _ _ (on_open c) (on_open d) = refl
  asked_one one _ _ (on_open c) (on_closed d p) = absurd (c d)
  asked_one one _ _ (on_closed c p) (on_open d) = absurd (d c)
  asked_one one _ _ (on_closed c p) (on_closed d q) = ap Some (one _ _ p q)

  -- a row appended where there is room
  appended : Answer → Poly → Answer × State
  appended a g = cond (eqb (length s.rows) most_rows) (denied (refuse 11 most_rows), s) (a, with_row S s g)

  at_full : (a : Answer) (g : Poly) → length s.rows ≡ most_rows → (denied (refuse 11 most_rows), s) ≡ appended a g
  unfolding appended
  at_full a g e = sym (cond-true _ _ _ (eq-eqb _ _ e))

  with_room : (a : Answer) (g : Poly) → length s.rows < most_rows → (a, with_row S s g) ≡ appended a g
  unfolding appended
  with_room a g l = sym (cond-false _ _ _ (ne_eqb (length s.rows) most_rows (λ d. omega arith)))

  -- a list written where the buffer is long enough
  fitted : {A : Type 0} → Answer → List A → List A → Answer × List A
  fitted a g out = cond (ltb (length out) (length g)) (denied (refuse 14 (length g)), out) (a, front g out)

  too_short : {A : Type 0} (a : Answer) (g out : List A) → length out < length g → (denied (refuse 14 (length g)), out) ≡ fitted a g out
  unfolding fitted
  too_short a g out l = sym (cond-true _ _ _ (lt-ltb _ _ l))

  long_enough : {A : Type 0} (a : Answer) (g out : List A) → length g ≤ length out → (a, front g out) ≡ fitted a g out
  unfolding fitted
  long_enough a g out l = sym (cond-false _ _ _ (le-ltb _ _ l))

  add_result : Fault ⊎ Outcome → Answer × State
  add_result (inl q) = (denied (fault_refusal q), s)
  add_result (inr (refused r)) = (denied r, s)
  add_result (inr (left [])) = (rows_now (length s.rows), s)
  add_result (inr (left (t ∷ g))) = appended (rows_now (suc (length s.rows))) (t ∷ g)

  add_comes : {f : Poly} {a : Answer} {s' : State} → Adds S s f a s' → Comes (Handed f) add_result (a, s')
  unfolding add_result
  add_comes (Answers.add_faulty e) = come _ (faulty e) refl
  add_comes (Answers.add_stuck e r) = come _ (reduces e r) refl
  add_comes (Answers.add_zero e r) = come _ (reduces e r) refl
  add_comes (Answers.add_full e r l) = come _ (reduces e r) (at_full _ _ l)
  add_comes (Answers.add_row e r l) = come _ (reduces e r) (with_room _ _ l)

  pub adds_one : {f : Poly} {a a' : Answer} {s₁ s₂ : State} → Adds S s f a s₁ → Adds S s f a' s₂ → ◌≡◌ {A = Answer × State} (a, s₁) (a', s₂)
  adds_one p q = comes_one (λ x y. handed_one) _ _ (add_comes p) (add_comes q)

  -- what a step does: nothing, or it treats a pair, whose prolongation is too wide or comes to something
  data Treatment : Type 0 where
    nothing : Treatment
    too_wide : ℕ → Treatment
    outcome : ℕ → ℕ → Outcome → Treatment

  data Treats : Treatment → Type 0 where
    treats_nothing : Closed S s → Treats nothing
    treats_wide : {k v : ℕ} → Chosen S s k v → (Fits (prolonged S s k v) → ⊥) → Treats (too_wide k)
    treats_pair : {k v : ℕ} {o : Outcome} → Chosen S s k v → Fits (prolonged S s k v) → ReducesTo S s most_terms (prolonged S s k v) o → Treats (outcome k v o)

  open_pair : {k v : ℕ} → Closed S s → Chosen S s k v → ⊥
  open_pair {k} {v} c h = both_ways _ h.unmarked (c k v h.pair)

  treats_one : {x y : Treatment} → Treats x → Treats y → x ≡ y
  treats_one (treats_nothing c) (treats_nothing d) = refl
  treats_one (treats_nothing c) (treats_wide h f) = absurd (open_pair c h)
  treats_one (treats_nothing c) (treats_pair h f r) = absurd (open_pair c h)
  treats_one (treats_wide h f) (treats_nothing c) = absurd (open_pair c h)
  treats_one (treats_wide h f) (treats_wide j g) = ap too_wide (chosen_one S W s I h j).0
  treats_one (treats_wide h f) (treats_pair j g r) = let e = chosen_one S W s I h j in absurd (f (subst₂ (λ k v. Fits (prolonged S s k v)) (sym e.0) (sym e.1) g))
  treats_one (treats_pair h f r) (treats_nothing c) = absurd (open_pair c h)
  treats_one (treats_pair h f r) (treats_wide j g) = let e = chosen_one S W s I h j in absurd (g (subst₂ (λ k v. Fits (prolonged S s k v)) e.0 e.1 f))
  treats_one (treats_pair {k = k} {v = v} {o = o} h f r) (treats_pair {o = p} j g q) =
      let e = chosen_one S W s I h j in
      let d : o ≡ p = reduced_one S W I {room = most_terms} {h = prolonged S s k v} (Soundness.prolonged_written S W I k v h.pair.at_variable) r (subst₂ (λ k v. ReducesTo S s most_terms (prolonged S s k v) p) (sym e.0) (sym e.1) q) in
      λ i. outcome (e.0 i) (e.1 i) (d i)

  step_result : Treatment → Answer × State
  step_result nothing = (closed_answer, s)
  step_result (too_wide k) = (denied (refuse 9 k), s)
  step_result (outcome k v (refused r)) = (denied r, s)
  step_result (outcome k v (left [])) = (marked_answer, with_mark s k v)
  step_result (outcome k v (left (t ∷ g))) = appended appended_answer (t ∷ g)

  step_comes : {a : Answer} {s' : State} → Steps S s a s' → Comes Treats step_result (a, s')
  unfolding step_result
  step_comes (Answers.step_closed c) = come _ (treats_nothing c) refl
  step_comes (Answers.step_wide c f) = come _ (treats_wide c f) refl
  step_comes (Answers.step_stuck c f r) = come _ (treats_pair c f r) refl
  step_comes (Answers.step_mark c f r) = come _ (treats_pair c f r) refl
  step_comes (Answers.step_full c f r l) = come _ (treats_pair c f r) (at_full _ _ l)
  step_comes (Answers.step_row c f r l) = come _ (treats_pair c f r) (with_room _ _ l)

  pub steps_one : {a a' : Answer} {s₁ s₂ : State} → Steps S s a s₁ → Steps S s a' s₂ → ◌≡◌ {A = Answer × State} (a, s₁) (a', s₂)
  steps_one p q = comes_one (λ x y. treats_one) _ _ (step_comes p) (step_comes q)

  remainder_result : Poly → Option (Fault ⊎ Outcome) → Answer × Poly
  remainder_result out None = (denied (refuse 12 0), out)
  remainder_result out (Some (inl q)) = (denied (fault_refusal q), out)
  remainder_result out (Some (inr (refused r))) = (denied r, out)
  remainder_result out (Some (inr (left g))) = fitted (written (length g)) g out

  remainder_comes : {f out out' : Poly} {a : Answer} → Remains S s f out a out' → Comes (Asked (Handed f)) (remainder_result out) (a, out')
  unfolding remainder_result
  remainder_comes (Answers.remainder_open c) = come _ (on_open c) refl
  remainder_comes (Answers.remainder_faulty c e) = come _ (on_closed c (faulty e)) refl
  remainder_comes (Answers.remainder_stuck c e r) = come _ (on_closed c (reduces e r)) refl
  remainder_comes (Answers.remainder_short c e r l) = come _ (on_closed c (reduces e r)) (too_short _ _ _ l)
  remainder_comes (Answers.remainder_written c e r l) = come _ (on_closed c (reduces e r)) (long_enough _ _ _ l)

  pub remains_one : {f out out₁ out₂ : Poly} {a a' : Answer} → Remains S s f out a out₁ → Remains S s f out a' out₂ → ◌≡◌ {A = Answer × Poly} (a, out₁) (a', out₂)
  remains_one p q = comes_one (asked_one (λ x y. handed_one)) _ _ (remainder_comes p) (remainder_comes q)

  pub shows_one : {k : ℕ} {out out₁ out₂ : Poly} {a a' : Answer} → Shows S s k out a out₁ → Shows S s k out a' out₂ → ◌≡◌ {A = Answer × Poly} (a, out₁) (a', out₂)
  shows_one (Answers.row_absent w) (Answers.row_absent v) = refl
  shows_one (Answers.row_absent w) (Answers.row_short v l) = absurd (w v)
  shows_one (Answers.row_absent w) (Answers.row_written v l) = absurd (w v)
  shows_one (Answers.row_short w l) (Answers.row_absent v) = absurd (v w)
  shows_one (Answers.row_short w l) (Answers.row_short v m) = refl
  shows_one (Answers.row_short w l) (Answers.row_written v m) = absurd (omega arith)
  shows_one (Answers.row_written w l) (Answers.row_absent v) = absurd (v w)
  shows_one (Answers.row_written w l) (Answers.row_short v m) = absurd (omega arith)
  shows_one (Answers.row_written w l) (Answers.row_written v m) = refl

  tail_one : (k : ℕ) {o o' : Outcome} → ReducesTo S s (most_terms - 1) (drop 1 (row s.rows k)) o → ReducesTo S s (most_terms - 1) (drop 1 (row s.rows k)) o' → o ≡ o'
  tail_one k a b = reduced_one S W I {room = most_terms - 1} {h = drop 1 (row s.rows k)} (Soundness.tail_written S W I k) a b

  pub copies_one : {ks : List ℕ} {c c' : Copied} → Copies S s ks c → Copies S s ks c' → c ≡ c'
  copies_one Answers.copy_end Answers.copy_end = refl
  copies_one (Answers.copy_stuck {k = k} r) (Answers.copy_stuck q) = cc (tail_one k r q)
  copies_one (Answers.copy_stuck {k = k} r) (Answers.copy_later q m) = cc (tail_one k q r)
  copies_one (Answers.copy_stuck {k = k} r) (Answers.copy_row q m) = cc (tail_one k q r)
  copies_one (Answers.copy_later {k = k} r n) (Answers.copy_stuck q) = cc (tail_one k r q)
  copies_one (Answers.copy_later r n) (Answers.copy_later q m) = copies_one n m
  copies_one (Answers.copy_later r n) (Answers.copy_row q m) = cc (copies_one n m)
  copies_one (Answers.copy_row {k = k} r n) (Answers.copy_stuck q) = cc (tail_one k r q)
  copies_one (Answers.copy_row r n) (Answers.copy_later q m) = cc (copies_one n m)
  copies_one (Answers.copy_row {k = k} r n) (Answers.copy_row q m) = cc (tail_one k r q, copies_one n m)

  -- the rows to copy, and their copies
  record Copying (c : Copied) : Type 0 where
    rows : List ℕ
    selection : Selection S s rows
    copied : Copies S s rows c

  copying_one : {c c' : Copied} → Copying c → Copying c' → c ≡ c'
  copying_one {c' = c'} x y = copies_one x.copied (subst (λ ks. Copies S s ks c') (sym (selection_one S W s I x.selection y.selection)) y.copied)

  copy_result : List ℕ → Option Copied → Answer × List ℕ
  copy_result out None = (denied (refuse 12 0), out)
  copy_result out (Some (copy_refused r)) = (denied r, out)
  copy_result out (Some (copies fs)) = fitted (copied_answer (length fs) (length (copy_bytes fs))) (copy_bytes fs) out

  copy_comes : {out out' : List ℕ} {a : Answer} → FairCopies S s out a out' → Comes (Asked Copying) (copy_result out) (a, out')
  unfolding copy_result
  copy_comes (Answers.copy_open c) = come _ (on_open c) refl
  copy_comes (Answers.copy_denied c z m) = come _ (on_closed c (record { rows = _; selection = z; copied = m })) refl
  copy_comes (Answers.copy_short c z m l) = come _ (on_closed c (record { rows = _; selection = z; copied = m })) (too_short _ _ _ l)
  copy_comes (Answers.copy_written c z m l) = come _ (on_closed c (record { rows = _; selection = z; copied = m })) (long_enough _ _ _ l)

  pub fair_copies_one : {out out₁ out₂ : List ℕ} {a a' : Answer} → FairCopies S s out a out₁ → FairCopies S s out a' out₂ → ◌≡◌ {A = Answer × List ℕ} (a, out₁) (a', out₂)
  fair_copies_one p q = comes_one (asked_one (λ x y. copying_one)) _ _ (copy_comes p) (copy_comes q)

  pub judges_one : {a a' : Answer} → Judges S s a → Judges S s a' → a ≡ a'
  judges_one (Answers.verdict_open c) (Answers.verdict_open d) = refl
  judges_one (Answers.verdict_open c) (Answers.impossible d m) = absurd (c d)
  judges_one (Answers.verdict_open c) (Answers.possible d m) = absurd (c d)
  judges_one (Answers.impossible c m) (Answers.verdict_open d) = absurd (d c)
  judges_one (Answers.impossible c m) (Answers.impossible d n) = refl
  judges_one (Answers.impossible c m) (Answers.possible d n) = absurd (n m)
  judges_one (Answers.possible c m) (Answers.verdict_open d) = absurd (d c)
  judges_one (Answers.possible c m) (Answers.impossible d n) = absurd (m n)
  judges_one (Answers.possible c m) (Answers.possible d n) = refl

-- a log leaves one state, and has accepted one list of generators
module _ (S : Setting) (W : Lawful S) where
  answers_differ : {n : ℕ} {r : Refusal} {s s' : State} → ◌≡◌ {A = Answer × State} (Answers.rows_now n, s) (Answers.denied r, s') → ⊥
  answers_differ e = let x : ◌≡◌ {A = Answer} (Answers.rows_now _) (Answers.denied _) = ap (λ x. x.0) e in cc

  pub after_one : {calls : List Call} {s₁ s₂ : State} {gs₁ gs₂ : List Poly} → After S calls s₁ gs₁ → After S calls s₂ gs₂ → ◌≡◌ {A = State × List Poly} (s₁, gs₁) (s₂, gs₂)
  after_one made made = refl
  after_one (added {f = f} {n = n} a h) (added {s' = t} {n = m} b k) =
      let e = after_one a b in
      let d = adds_one S W _ (Soundness.sound S W a) h (subst (λ x. Adds S x.0 f (Answers.rows_now m) t) (sym e) k) in
      λ i. ((d i).1, (e i).1 ++ (f ∷ []))
  after_one (added {f = f} a h) (not_added {s' = t} {r = r} b k) = absurd (answers_differ (adds_one S W _ (Soundness.sound S W a) h (subst (λ x. Adds S x.0 f (Answers.denied r) t) (sym (after_one a b)) k)))
  after_one (not_added {f = f} a h) (added {s' = t} {n = m} b k) = absurd (answers_differ (sym (adds_one S W _ (Soundness.sound S W a) h (subst (λ x. Adds S x.0 f (Answers.rows_now m) t) (sym (after_one a b)) k))))
  after_one (not_added {f = f} a h) (not_added {s' = t} {r = r} b k) =
      let e = after_one a b in
      let d = adds_one S W _ (Soundness.sound S W a) h (subst (λ x. Adds S x.0 f (Answers.denied r) t) (sym e) k) in
      λ i. ((d i).1, (e i).1)
  after_one (stepped a h) (stepped {s' = t} {a = o} b k) =
      let e = after_one a b in
      let d = steps_one S W _ (Soundness.sound S W a) h (subst (λ x. Steps S x.0 o t) (sym e) k) in
      λ i. ((d i).1, (e i).1)
  after_one (reduced a h) (reduced b k) = after_one a b
  after_one (shown a h) (shown b k) = after_one a b
  after_one (copied a h) (copied b k) = after_one a b
  after_one (judged a h) (judged b k) = after_one a b

pub sound_one : (S : Setting) → Lawful S → (s : State) → Sound S s → OneAnswer S s
sound_one S W s I = record {
  reduces = λ room h o p w a b. reduced_one S W I w a b;
  adds = λ f a b s₁ s₂ p q. parts (adds_one S W s I p q);
  steps = λ a b s₁ s₂ p q. parts (steps_one S W s I p q);
  remains = λ f out a b out₁ out₂ p q. parts (remains_one S W s I p q);
  shows = λ k out a b out₁ out₂ p q. parts (shows_one S W s I p q);
  fair_copies = λ out a b out₁ out₂ p q. parts (fair_copies_one S W s I p q);
  judges = λ a b p q. judges_one S W s I p q;
}

-- what is said are equations in sets, so it is enough that a proof of soundness exists
pub one_answer : OneAnswerEach
one_answer S W s I = ∥∥₁_elim I (hlevel (⊎_set, props)) (sound_one S W s)

pub one_state : OneState
one_state S W calls s₁ s₂ gs₁ gs₂ a b = parts (after_one S W a b)
