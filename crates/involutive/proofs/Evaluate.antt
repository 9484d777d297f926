-- An evaluator that answers with the proof: what reducing, the calls and a log come to, or nothing.
use Rattle.std.proofs.Common.{◌≡◌, ℕ, zero, suc, ◌-◌, ◌<◌, ◌≤◌, Bool, true, false, cond, eqb, ◌⊎◌, List, [], ◌∷◌, ◌++◌, length, take, drop, Some, None, Option, Ordering, Less, Equal as Same, Greater, refl, inl, inr}
use mathlib.Core.List.{Memᴰ}
use Rattle.std.proofs.lemmas.Bool.{eqb-false, both_ways}
use Rattle.polynomial.specs.declared.term.Term.{Term}
use Rattle.field.specs.Field.{FieldMeaning}
use Rattle.monomial.specs.Monomial.{Divides}
use Rattle.monomial.specs.Order.{Compare, Under}
use Rattle.monomial.specs.Division.{Involutive}
use Rattle.polynomial.specs.Polynomial.{Poly, term, exponents, leading}
use Rattle.involutive.specs.Value.{minus}
use Rattle.involutive.specs.Reduction.{Table, row, leaders, left, Irreducible, multiple, Difference, Reduces, done, acts}
use Rattle.polynomial.specs.Check.{Fits, most_terms}
use Rattle.polynomial.specs.Bytes.{copy_bytes}
use Rattle.involutive.specs.Answers
use Rattle.involutive.specs.Sheet.{Setting, State, empty, Chosen, Closed, prolonged, height, with_mark, with_row, most_rows}
use Rattle.involutive.specs.Answers.{Answer, first_fault, Adds, Steps, Minimal, Rising, Selection, Copies, copies, ReducesTo}
use Rattle.std.specs.Ordering.{is_lt}
use Rattle.involutive.specs.Log
use Rattle.involutive.specs.Log.{Call, After}
use Rattle.polynomial.proofs.Checking.{acceptable_from}
use Rattle.involutive.proofs.Decided.{◌>>=◌, ◌or◌, is_some, passes, fails, le?, lt?, eq?, same?, within?, under?, not_under, missing, present, says?, denies?, all?, some?, each?, divides?, not_divides?, divisor?, no_divisor?, equal?, fits?}

-- what a sum of terms comes to, in falling order
module _ (F : FieldMeaning) (O : Compare) where
  abbrev place : Ordering → Term → Term → Poly → Poly → Poly
  place Less t s g r = s ∷ r
  place Same t s g r = let c : ℕ = F.add t.coefficient s.coefficient in cond (eqb c 0) g (term c (exponents t) ∷ g)
  place Greater t s g r = t ∷ s ∷ g

  abbrev insert : Term → Poly → Poly
  insert t [] = t ∷ []
  insert t (s ∷ g) = let r : Poly = insert t g in place (O (exponents t) (exponents s)) t s g r

  abbrev pub tidy : Poly → Poly
  tidy [] = []
  tidy (t ∷ f) = insert t (tidy f)

module _ (S : Setting) (R : Table) where
  open S use {field as F, variables as N, order as O, division as D}

  abbrev irreducible? : (h : Poly) → Option (Irreducible F O D N R h)
  irreducible? h = each? (λ t. no_divisor? D (leaders R) (exponents t)) h

  pub record Found (h : Poly) : Type 0 where
    pub t : Term
    pub k : ℕ
    pub stands : Memᴰ t h
    pub divisor : Involutive D (leaders R) k (exponents t)

  -- the first term that has an involutive divisor
  abbrev find : (h : Poly) → Option (Found h)
  find [] = None
  find (t ∷ h) =
      (divisor? D (leaders R) (exponents t) >>= λ d. Some (record { t = t; k = d.0; stands = Memᴰ.head refl; divisor = d.1 }))
      or λ u. find h >>= λ x. Some (record { t = x.t; k = x.k; stands = Memᴰ.tail x.stands; divisor = x.divisor })

  abbrev spared? : (t s : Term) → Option (Under O (exponents t) (exponents s) → (j : ℕ) → Involutive D (leaders R) j (exponents s) → ⊥)
  spared? t s = (fails (is_lt (O (exponents t) (exponents s))) >>= λ f. Some (λ u j i. not_under O (exponents t) (exponents s) f u)) or λ u. no_divisor? D (leaders R) (exponents s) >>= λ n. Some (λ u. n)

  abbrev difference? : (h f g : Poly) → Option (Difference F O D N R h f g)
  difference? h f g = missing (first_fault S g) >>= λ n. equal? F g (minus F h f) >>= λ e. Some (record { written = (acceptable_from F O N g n).written; value = e })

  abbrev pub Reduced : ℕ → Poly → Type 0
  Reduced room h = (g : Poly) × Reduces F O D N R room h (left g)

  -- at most `fuel` actions
  abbrev pub reduce : (room fuel : ℕ) (h : Poly) → Option (Reduced room h)
  reduce room zero h = None
  reduce room (suc fuel) h =
      (irreducible? h >>= λ i. Some (h, done i))
      or λ u. find h >>= λ x.
      let f : Poly = multiple F O D N R x.t x.k in
      let g : Poly = tidy F O (minus F h f) in
      each? (spared? x.t) h >>= λ s. fits? f >>= λ w. difference? h f g >>= λ d. le? (length g) room >>= λ l. reduce room fuel g >>= λ r.
      Some (r.0, acts (record { stands = x.stands; divisor = x.divisor; greatest = s }) w d l r.1)

-- more actions than any case below takes
abbrev pub fuel : ℕ
fuel = 100

module _ (S : Setting) (s : State) where
  abbrev split : ℕ → ℕ → Option Bool
  split k v = S.division (leaders s.rows) k v

  abbrev Marked : ℕ → ℕ → Type 0
  Marked k v = split k v ≡ Some false → s.marks k v ≡ true

  abbrev marked? : (k v : ℕ) → Option (Marked k v)
  marked? k v = (passes (s.marks k v) >>= λ m. Some (λ e. m)) or λ u. denies? false (split k v) >>= λ n. Some (λ e. absurd (n e))

  abbrev pub closed? : Option (Closed S s)
  closed? = all? (λ k. all? (marked? k) S.variables) (length s.rows) >>= λ h. Some (λ k v p. h k p.at_row v p.at_variable p.not_multiplicative)

  -- the pair (k, v) comes before (j, u)
  abbrev First : ℕ → ℕ → ℕ → ℕ → Type 0
  First k v j u = Under S.order (height s k v) (height s j u) ⊎ ((height s k v ≡ height s j u) × (k ≤ j))

  abbrev first? : (k v j u : ℕ) → Option (First k v j u)
  first? k v j u = (under? S.order (height s k v) (height s j u) >>= λ l. Some (inl l)) or λ w. same? (height s k v) (height s j u) >>= λ e. le? k j >>= λ l. Some (inr (e, l))

  abbrev Best : ℕ → ℕ → ℕ → ℕ → Type 0
  Best k v j u = split j u ≡ Some false → s.marks j u ≡ false → First k v j u

  pub none_first : (k v j u : ℕ) → Marked j u → Best k v j u
  none_first k v j u m e f = absurd (both_ways _ f (m e))

  abbrev best? : (k v j u : ℕ) → Option (Best k v j u)
  best? k v j u = (marked? j u >>= λ m. Some (none_first k v j u m)) or λ w. first? k v j u >>= λ f. Some (λ e m. f)

  abbrev chosen? : (k v : ℕ) → Option (Chosen S s k v)
  chosen? k v =
      within? k (length s.rows) >>= λ a. within? v S.variables >>= λ b. says? false (split k v) >>= λ d. fails (s.marks k v) >>= λ f.
      all? (λ j. all? (best? k v j) S.variables) (length s.rows) >>= λ h.
      Some (record { pair = record { at_row = a; at_variable = b; not_multiplicative = d }; unmarked = f; smallest = λ j u p m. h j p.at_row u p.at_variable p.not_multiplicative m })

  -- the choice, by trying every pair
  abbrev pub choose : Option ((k : ℕ) × (v : ℕ) × Chosen S s k v)
  choose = some? (λ k. some? (λ v. chosen? k v >>= λ c. Some (k, v, c)) S.variables) (length s.rows)

  abbrev room? : Option (length s.rows < most_rows)
  room? = lt? (length s.rows) most_rows

  pub record Added (f : Poly) : Type 0 where
    pub count : ℕ
    pub state : State
    pub adds : Adds S s f (Answers.rows_now count) state

  abbrev add_left : (f : Poly) → first_fault S f ≡ None → (g : Poly) → ReducesTo S s most_terms f (left g) → Option (Added f)
  add_left f n [] r = Some (record { count = length s.rows; state = s; adds = Answers.add_zero n r })
  add_left f n (t ∷ g) r = room? >>= λ l. Some (record { count = suc (length s.rows); state = with_row S s (t ∷ g); adds = Answers.add_row n r l })

  abbrev pub add? : (f : Poly) → Option (Added f)
  add? f = missing (first_fault S f) >>= λ n. reduce S s.rows most_terms fuel f >>= λ r. add_left f n r.0 r.1

  pub record Stepped : Type 0 where
    pub answer : Answer
    pub state : State
    pub steps : Steps S s answer state

  abbrev step_left : (k v : ℕ) → Chosen S s k v → Fits (prolonged S s k v) → (g : Poly) → ReducesTo S s most_terms (prolonged S s k v) (left g) → Option Stepped
  step_left k v c f [] r = Some (record { answer = Answers.marked_answer; state = with_mark s k v; steps = Answers.step_mark c f r })
  step_left k v c f (t ∷ g) r = room? >>= λ l. Some (record { answer = Answers.appended_answer; state = with_row S s (t ∷ g); steps = Answers.step_row c f r l })

  abbrev pub step? : Option Stepped
  step? =
      (choose >>= λ c. fits? (prolonged S s c.0 c.1) >>= λ f. reduce S s.rows most_terms fuel (prolonged S s c.0 c.1) >>= λ r. step_left c.0 c.1 c.2 f r.0 r.1)
      or λ u. closed? >>= λ c. Some (record { answer = Answers.closed_answer; state = s; steps = Answers.step_closed c })

  abbrev lead : ℕ → List ℕ
  lead k = leading (row s.rows k)

  abbrev alone? : (k j : ℕ) → Option (Divides (lead j) (lead k) → j ≡ k)
  alone? k j = (eq? j k >>= λ e. Some (λ d. e)) or λ u. not_divides? (lead j) (lead k) >>= λ n. Some (λ d. absurd (n d))

  abbrev minimal? : (k : ℕ) → Option (Minimal S s k)
  minimal? k = within? k (length s.rows) >>= λ w. all? (alone? k) (length s.rows) >>= λ h. Some (record { within = w; undivided = h })

  abbrev not_minimal? : (k : ℕ) → Option (Minimal S s k → ⊥)
  not_minimal? k = some? (λ j. within? j (length s.rows) >>= λ w. fails (eqb j k) >>= λ f. divides? (lead j) (lead k) >>= λ d. Some (λ m. eqb-false j k f (m.undivided j w d))) (length s.rows)

  abbrev rising? : (ks : List ℕ) → Option (Rising S s ks)
  rising? [] = Some Answers.rising_none
  rising? (k ∷ []) = Some Answers.rising_one
  rising? (j ∷ k ∷ ks) = under? S.order (lead j) (lead k) >>= λ l. rising? (k ∷ ks) >>= λ r. Some (Answers.rising_more l r)

  abbrev listed? : (k : ℕ) (ks : List ℕ) → Option (Memᴰ k ks)
  listed? k [] = None
  listed? k (j ∷ ks) = (eq? k j >>= λ e. Some (Memᴰ.head e)) or λ u. listed? k ks >>= λ m. Some (Memᴰ.tail m)

  abbrev there? : (ks : List ℕ) (k : ℕ) → Option (Minimal S s k → Memᴰ k ks)
  there? ks k = (listed? k ks >>= λ m. Some (λ h. m)) or λ u. not_minimal? k >>= λ n. Some (λ h. absurd (n h))

  abbrev selection? : (ks : List ℕ) → Option (Selection S s ks)
  selection? ks = rising? ks >>= λ r. each? minimal? ks >>= λ a. all? (there? ks) (length s.rows) >>= λ b. Some (record { rising = r; minimal = λ k. (λ h. a k h, λ m. b k m.within m) })

  abbrev rank : ℕ → List ℕ → List ℕ
  rank k [] = k ∷ []
  rank k (j ∷ ks) = let r : List ℕ = rank k ks in cond (is_lt (S.order (lead k) (lead j))) (k ∷ j ∷ ks) (j ∷ r)

  abbrev select : ℕ → List ℕ
  select zero = []
  select (suc k) = cond (is_some (minimal? (suc k))) (rank (suc k) (select k)) (select k)

  abbrev copy? : (ks : List ℕ) → Option ((fs : List Poly) × Copies S s ks (copies fs))
  copy? [] = Some ([], Answers.copy_end)
  copy? (k ∷ ks) = reduce S s.rows (most_terms - 1) fuel (drop 1 (row s.rows k)) >>= λ r. copy? ks >>= λ c. Some ((take 1 (row s.rows k) ++ r.0) ∷ c.0, Answers.copy_row r.1 c.1)

  pub record Copy : Type 0 where
    pub closed : Closed S s
    pub rows : List ℕ
    pub selection : Selection S s rows
    pub polys : List Poly
    pub copied : Copies S s rows (copies polys)

  abbrev pub fair_copy? : Option Copy
  fair_copy? = let ks : List ℕ = select (length s.rows) in closed? >>= λ c. selection? ks >>= λ z. copy? ks >>= λ f. Some (record { closed = c; rows = ks; selection = z; polys = f.0; copied = f.1 })

-- a pair that a step takes is not marked
pub not_closed : {S : Setting} {s : State} {k v : ℕ} → Chosen S s k v → Closed S s → ⊥
not_closed c h = both_ways _ c.unmarked (h _ _ c.pair)

-- logs of steps, of granted adds, remainders, rows and copies, of adds of faulty polynomials and of verdicts too early
module _ (S : Setting) where
  pub record Ran (calls : List Call) : Type 0 where
    pub state : State
    pub accepted : List Poly
    pub after : After S calls state accepted

  abbrev pub run : (calls : List Call) → Option (Ran calls)
  run [] = Some (record { state = empty; accepted = []; after = Log.made })
  run (Log.add f ∷ calls) = run calls >>= λ x.
      (add? S x.state f >>= λ y. Some (record { state = y.state; accepted = x.accepted ++ (f ∷ []); after = Log.added x.after y.adds }))
      or λ u. present (first_fault S f) >>= λ q. Some (record { state = x.state; accepted = x.accepted; after = Log.not_added x.after (Answers.add_faulty q.1) })
  run (Log.step ∷ calls) = run calls >>= λ x. step? S x.state >>= λ y. Some (record { state = y.state; accepted = x.accepted; after = Log.stepped x.after y.steps })
  run (Log.remainder f out ∷ calls) = run calls >>= λ x. closed? S x.state >>= λ c. missing (first_fault S f) >>= λ n.
      reduce S x.state.rows most_terms fuel f >>= λ r. le? (length r.0) (length out) >>= λ l.
      Some (record { state = x.state; accepted = x.accepted; after = Log.reduced x.after (Answers.remainder_written c n r.1 l) })
  run (Log.show_row k out ∷ calls) = run calls >>= λ x. within? k (length x.state.rows) >>= λ w. le? (length (row x.state.rows k)) (length out) >>= λ l.
      Some (record { state = x.state; accepted = x.accepted; after = Log.shown x.after (Answers.row_written w l) })
  run (Log.fair_copy out ∷ calls) = run calls >>= λ x. fair_copy? S x.state >>= λ c. le? (length (copy_bytes c.polys)) (length out) >>= λ l.
      Some (record { state = x.state; accepted = x.accepted; after = Log.copied x.after (Answers.copy_written c.closed c.selection c.copied l) })
  run (Log.verdict ∷ calls) = run calls >>= λ x. choose S x.state >>= λ c.
      Some (record { state = x.state; accepted = x.accepted; after = Log.judged x.after (Answers.verdict_open (not_closed c.2)) })
