-- What each call on a sheet answers and leaves: add, step, remainder, row, fair copy and verdict, each as a relation.
use Rattle.std.specs.Prelude.{◌≡◌, ℕ, suc, ◌-◌, ◌<◌, ◌≤◌, ◌↔◌, List, [], ◌∷◌, ◌++◌, length, take, drop, Some, None, Option}
use mathlib.Core.List.{Memᴰ}
use Rattle.monomial.specs.Monomial.{Divides}
use Rattle.monomial.specs.Order.{Under}
use Rattle.monomial.specs.Division.{Within}
use Rattle.polynomial.specs.declared.term.Term.{Term}
use Rattle.polynomial.specs.declared.refusal.Refusal.{Refusal as Fault}
use Rattle.polynomial.specs.Polynomial.{Poly, leading}
use Rattle.polynomial.specs.Check.{Fits, fault, most_terms, number as fault_number, place as fault_place}
use Rattle.polynomial.specs.Bytes.{copy_bytes}
use Rattle.involutive.specs.Value.{unit}
use Rattle.involutive.specs.Ideal.{Member}
use Rattle.involutive.specs.Reduction.{row, Refusal, refuse, Outcome, left, refused, Reduces}
use Rattle.involutive.specs.Sheet.{Setting, State, most_rows, Closed, Chosen, prolonged, with_mark, with_row}

pub data Answer : Type 0 where
  -- add: the number of rows after it
  rows_now : ℕ → Answer
  -- step: the sheet was closed, a pair was marked, or a row was appended
  closed_answer marked_answer appended_answer : Answer
  -- remainder and row: the number of terms written
  written : ℕ → Answer
  -- fair copy: the numbers of rows and of bytes written
  copied_answer : ℕ → ℕ → Answer
  -- verdict: 1 where the polynomial 1 lies in the ideal
  verdict_answer : ℕ → Answer
  denied : Refusal → Answer

-- the first check that a polynomial fails which is handed over
abbrev pub first_fault : Setting → Poly → Option Fault
first_fault S f = fault S.field S.order S.variables f

abbrev pub fault_refusal : Fault → Refusal
fault_refusal q = refuse (fault_number q) (fault_place q)

-- terms or bytes go to the front of what the caller lent, and those behind stay
abbrev pub front : {A : Type 0} → List A → List A → List A
front new old = new ++ drop (length new) old

-- the copies of the rows, or why one of them is denied
pub data Copied : Type 0 where
  copies : List Poly → Copied
  copy_refused : Refusal → Copied

module _ (S : Setting) (s : State) where
  -- reducing by the table of the sheet
  abbrev pub ReducesTo : ℕ → Poly → Outcome → Type 0
  ReducesTo room = Reduces S.field S.order S.division S.variables s.rows room

  -- add f: the answer, and the state after it
  pub data Adds (f : Poly) : Answer → State → Type 0 where
    add_faulty : {q : Fault} → first_fault S f ≡ Some q → Adds f (denied (fault_refusal q)) s
    add_stuck : {r : Refusal} → first_fault S f ≡ None → ReducesTo most_terms f (refused r) → Adds f (denied r) s
    add_zero : first_fault S f ≡ None → ReducesTo most_terms f (left []) → Adds f (rows_now (length s.rows)) s
    add_full : {t : Term} {g : Poly} → first_fault S f ≡ None → ReducesTo most_terms f (left (t ∷ g)) → length s.rows ≡ most_rows → Adds f (denied (refuse 11 most_rows)) s
    add_row : {t : Term} {g : Poly} → first_fault S f ≡ None → ReducesTo most_terms f (left (t ∷ g)) → length s.rows < most_rows → Adds f (rows_now (suc (length s.rows))) (with_row S s (t ∷ g))

  -- step: the answer, and the state after it
  pub data Steps : Answer → State → Type 0 where
    step_closed : Closed S s → Steps closed_answer s
    step_wide : {k v : ℕ} → Chosen S s k v → (Fits (prolonged S s k v) → ⊥) → Steps (denied (refuse 9 k)) s
    step_stuck : {k v : ℕ} {r : Refusal} → Chosen S s k v → Fits (prolonged S s k v) → ReducesTo most_terms (prolonged S s k v) (refused r) → Steps (denied r) s
    step_mark : {k v : ℕ} → Chosen S s k v → Fits (prolonged S s k v) → ReducesTo most_terms (prolonged S s k v) (left []) → Steps marked_answer (with_mark s k v)
    step_full : {k v : ℕ} {t : Term} {g : Poly} → Chosen S s k v → Fits (prolonged S s k v) → ReducesTo most_terms (prolonged S s k v) (left (t ∷ g)) → length s.rows ≡ most_rows → Steps (denied (refuse 11 most_rows)) s
    step_row : {k v : ℕ} {t : Term} {g : Poly} → Chosen S s k v → Fits (prolonged S s k v) → ReducesTo most_terms (prolonged S s k v) (left (t ∷ g)) → length s.rows < most_rows → Steps appended_answer (with_row S s (t ∷ g))

  -- remainder of f into the lent terms: the answer, and the terms after it
  pub data Remains (f out : Poly) : Answer → Poly → Type 0 where
    remainder_open : (Closed S s → ⊥) → Remains f out (denied (refuse 12 0)) out
    remainder_faulty : {q : Fault} → Closed S s → first_fault S f ≡ Some q → Remains f out (denied (fault_refusal q)) out
    remainder_stuck : {r : Refusal} → Closed S s → first_fault S f ≡ None → ReducesTo most_terms f (refused r) → Remains f out (denied r) out
    remainder_short : {g : Poly} → Closed S s → first_fault S f ≡ None → ReducesTo most_terms f (left g) → length out < length g → Remains f out (denied (refuse 14 (length g))) out
    remainder_written : {g : Poly} → Closed S s → first_fault S f ≡ None → ReducesTo most_terms f (left g) → length g ≤ length out → Remains f out (written (length g)) (front g out)

  -- row k into the lent terms: the answer, and the terms after it
  pub data Shows (k : ℕ) (out : Poly) : Answer → Poly → Type 0 where
    row_absent : (Within k (length s.rows) → ⊥) → Shows k out (denied (refuse 13 k)) out
    row_short : Within k (length s.rows) → length out < length (row s.rows k) → Shows k out (denied (refuse 14 (length (row s.rows k)))) out
    row_written : Within k (length s.rows) → length (row s.rows k) ≤ length out → Shows k out (written (length (row s.rows k))) (front (row s.rows k) out)

  -- row k is to be copied: no other row's leading monomial divides its own
  pub record Minimal (k : ℕ) : Type 0 where
    pub within : Within k (length s.rows)
    pub undivided : (j : ℕ) → Within j (length s.rows) → Divides (leading (row s.rows j)) (leading (row s.rows k)) → j ≡ k

  -- row numbers in rising order of the rows' leading monomials
  pub data Rising : List ℕ → Type 0 where
    rising_none : Rising []
    rising_one : {k : ℕ} → Rising (k ∷ [])
    rising_more : {j k : ℕ} {ks : List ℕ} → Under S.order (leading (row s.rows j)) (leading (row s.rows k)) → Rising (k ∷ ks) → Rising (j ∷ k ∷ ks)

  -- the rows to copy, each once
  pub record Selection (ks : List ℕ) : Type 0 where
    pub rising : Rising ks
    pub minimal : (k : ℕ) → Memᴰ k ks ↔ Minimal k

  -- the copy of a row is its leading term plus the remainder of its other terms
  pub data Copies : List ℕ → Copied → Type 0 where
    copy_end : Copies [] (copies [])
    copy_stuck : {k : ℕ} {ks : List ℕ} {r : Refusal} → ReducesTo (most_terms - 1) (drop 1 (row s.rows k)) (refused r) → Copies (k ∷ ks) (copy_refused r)
    copy_later : {k : ℕ} {ks : List ℕ} {g : Poly} {r : Refusal} → ReducesTo (most_terms - 1) (drop 1 (row s.rows k)) (left g) → Copies ks (copy_refused r) → Copies (k ∷ ks) (copy_refused r)
    copy_row : {k : ℕ} {ks : List ℕ} {g : Poly} {fs : List Poly} → ReducesTo (most_terms - 1) (drop 1 (row s.rows k)) (left g) → Copies ks (copies fs) → Copies (k ∷ ks) (copies ((take 1 (row s.rows k) ++ g) ∷ fs))

  -- fair copy into the lent bytes: the answer, and the bytes after it
  pub data FairCopies (out : List ℕ) : Answer → List ℕ → Type 0 where
    copy_open : (Closed S s → ⊥) → FairCopies out (denied (refuse 12 0)) out
    copy_denied : {ks : List ℕ} {r : Refusal} → Closed S s → Selection ks → Copies ks (copy_refused r) → FairCopies out (denied r) out
    copy_short : {ks : List ℕ} {fs : List Poly} → Closed S s → Selection ks → Copies ks (copies fs) → length out < length (copy_bytes fs) → FairCopies out (denied (refuse 14 (length (copy_bytes fs)))) out
    copy_written : {ks : List ℕ} {fs : List Poly} → Closed S s → Selection ks → Copies ks (copies fs) → length (copy_bytes fs) ≤ length out → FairCopies out (copied_answer (length fs) (length (copy_bytes fs))) (front (copy_bytes fs) out)

  -- verdict: whether 1 lies in the ideal of the rows
  pub data Judges : Answer → Type 0 where
    verdict_open : (Closed S s → ⊥) → Judges (denied (refuse 12 0))
    impossible : Closed S s → Member S.field S.variables s.rows unit → Judges (verdict_answer 1)
    possible : Closed S s → (Member S.field S.variables s.rows unit → ⊥) → Judges (verdict_answer 0)
