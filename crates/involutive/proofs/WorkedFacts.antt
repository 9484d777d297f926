-- The worked facts hold: the evaluator is run once, over the whole list.
use Rattle.std.proofs.Common.{◌≡◌, ℕ, zero, suc, ◌-◌, false, T, List, [], ◌∷◌, length, get_or, Some, None, Option, sym, refl, ap, subst, ⊎_elim, arith}
use mathlib.Core.List.Memᴰ
use mathlib.Core.List.{Memᴰ}
use Rattle.std.proofs.lemmas.Bool.{both_ways}
use Rattle.monomial.specs.Monomial.{one, same}
use Rattle.monomial.specs.Division.{Within}
use Rattle.polynomial.specs.Polynomial.{Poly, leading}
use Rattle.involutive.specs.Reduction.{row}
use Rattle.involutive.specs.Sheet.{Setting, State, Closed, Lawful}
use Rattle.involutive.specs.Answers.{Copies, copies, Judges, verdict_answer, copy_written}
use Rattle.involutive.specs.Log.{Call, After}
use Rattle.involutive.specs.Facts.{Fact, inverse, below, multiplicative, ends, still_open, Ends, Open, Holds, listed, facts, FactsHold, three}
use Rattle.involutive.specs.Sound.{Sound}
use Rattle.involutive.proofs.Soundness
use Rattle.involutive.proofs.Verdicts
use Rattle.monomial.specs.Divisions.{janet_laws}
use Rattle.monomial.specs.Orders.{lexicographic_laws}
use Rattle.field.specs.Primes
use Rattle.field.specs.PrimeLaws.{prime_laws}
use Rattle.involutive.proofs.Decided.{◌>>=◌, is_some, given, fails, eq?, same?, under?, within?, says?, all?, some?, same_polys?}
use Rattle.involutive.proofs.Evaluate.{Copy, fair_copy?, Ran, run, choose, not_closed}

-- no row has the leading monomial 1
module _ (s : State) where
  pub not_one : (m : List ℕ) → same m one ≡ false → m ≡ one → ⊥
  not_one m f e = both_ways _ f (ap (λ m. same m one) e)

  abbrev pub no_unit? : Option ((k : ℕ) → Within k (length s.rows) → leading (row s.rows k) ≡ one → ⊥)
  no_unit? = all? (λ k. fails (same (leading (row s.rows k)) one) >>= λ f. Some (not_one _ f)) (length s.rows)

module _ (S : Setting) (W : Lawful S) (s : State) (I : Sound S s) (c : Closed S s) where
  abbrev verdict? : (v : ℕ) → Option (Judges S s (verdict_answer v))
  verdict? zero = no_unit? s >>= λ h. Some (Verdicts.judges_none S W s I c h)
  verdict? (suc zero) = some? (λ k. within? k (length s.rows) >>= λ w. same? (leading (row s.rows k)) one >>= λ e. Some (Verdicts.judges_row S W s I c (record { k = k; within = w; leads = e }))) (length s.rows)
  verdict? (suc (suc v)) = None

module _ (S : Setting) (W : Lawful S) (calls : List Call) (gs T fs : List Poly) (v : ℕ) where
  end : (x : Ran S calls) → x.accepted ≡ gs → x.state.rows ≡ T → (y : Copy S x.state) → y.polys ≡ fs → Judges S x.state (verdict_answer v) → Ends S calls gs T fs v
  end x p q y r j = record {
    state = x.state;
    after = subst (After S calls x.state) p x.after;
    rows_are = q;
    closed = y.closed;
    fair_copy = λ out l. copy_written y.closed y.selection (subst (λ fs. Copies S x.state y.rows (copies fs)) r y.copied) l;
    judged = j;
  }

  abbrev ends? : Option (Ends S calls gs T fs v)
  ends? =
      run S calls >>= λ x. same_polys? x.accepted gs >>= λ p. same_polys? x.state.rows T >>= λ q. fair_copy? S x.state >>= λ y. same_polys? y.polys fs >>= λ r.
      verdict? S W x.state (Soundness.sound S W x.after) y.closed v >>= λ j. Some (end x p q y r j)

module _ (S : Setting) (calls : List Call) (gs : List Poly) where
  abbrev open? : Option (Open S calls gs)
  open? =
      run S calls >>= λ x. same_polys? x.accepted gs >>= λ p. choose S x.state >>= λ c.
      Some (record { state = x.state; after = subst (After S calls x.state) p x.after; not_closed = not_closed c.2 })

-- what no computation shows, that a setting keeps its laws: the verdict rests on it
abbrev Laws : Fact → Type 0
Laws (inverse F a b) = Unit {0}
Laws (below O u m) = Unit {0}
Laws (multiplicative D n U vs) = Unit {0}
Laws (ends S calls gs T fs v) = Lawful S
Laws (still_open S calls gs) = Unit {0}

abbrev prove : (f : Fact) → Laws f → Option (Holds f)
prove (inverse F a b) l = eq? (F.inv a) b >>= λ p. eq? (F.mul a b) 1 >>= λ q. Some (p, q)
prove (below O u m) l = under? O u m
prove (multiplicative D n U vs) l =
    all? (λ k. all? (λ v. says? (listed v (get_or vs (k - 1) [])) (D U k v)) n) (length U) >>= λ h.
    Some (λ k v w u. h k w v u)
prove (ends S calls gs T fs v) W = ends? S W calls gs T fs v
prove (still_open S calls gs) l = open? S calls gs

abbrev All : (Fact → Type 0) → List Fact → Type 0
All P [] = Unit {0}
All P (f ∷ l) = P f × All P l

pub three_lawful : Lawful three
unfolding Primes.listed
three_lawful = record { field = prime_laws 3 refl; order = lexicographic_laws; division = janet_laws; variables = (omega arith, omega arith) }

laws : All Laws facts
laws = (tt, (tt, (tt, (tt, (tt, (tt, (tt, (three_lawful, (three_lawful, (tt, (three_lawful, (three_lawful, tt))))))))))))

abbrev prove_all : (l : List Fact) → All Laws l → Option (All Holds l)
prove_all [] w = Some tt
prove_all (f ∷ l) w = prove f w.0 >>= λ p. prove_all l w.1 >>= λ q. Some (p, q)

every : (l : List Fact) → All Holds l → (f : Fact) → Memᴰ f l → Holds f
every [] h f m = elim m [ ]
every (g ∷ l) h f m = ⊎_elim (λ e. subst Holds (sym e) h.0) (λ k. every l h.1 f k) (Memᴰ.cases_cons m)

-- all facts by one computation
computed : T (is_some (prove_all facts laws))
computed = tt

pub all_hold : FactsHold
all_hold = every facts (given (prove_all facts laws) computed)
