-- Terms that are taken up to be reduced: those of a polynomial without a fault, and those behind a row's first.
use Rattle.std.proofs.Common.{◌≡◌, ℕ, ◌-◌, ◌<◌, ◌≤◌, List, length, get_or, take, drop, None, Ok, Err, Result, MatchResult, sym, ap, ◌∙◌, subst, arith}
use Rattle.std.proofs.lemmas.List.{take_rest}
use Rattle.field.specs.Field.{FieldMeaning}
use Rattle.monomial.specs.Order.{Compare}
use Rattle.monomial.specs.Division.{Within}
use Rattle.polynomial.specs.declared.refusal.Refusal.{Refusal}
use Rattle.polynomial.specs.Polynomial.{Poly}
use Rattle.polynomial.specs.Check.{Acceptable, fault, outcome, most_terms}
use Rattle.polynomial.proofs.Checking.{granted}
use Rattle.involutive.specs.Reduction.{row}
use Rattle.involutive.specs.Sheet.{Setting}
use Rattle.reduction.specs.declared.table.Row.{Row}
use Rattle.reduction.specs.Table.{terms_of, table_of, SoundTable}
use Rattle.reduction.proofs.Lines.{good_at, tail_of, row_at}

-- the checks have passed
pub faultless : (F : FieldMeaning) (O : Compare) (n : ℕ) (f : Poly) (r : Result (Unit {0}) Refusal) → r ≡ outcome (fault F O n f) → r ≡ Ok tt → fault F O n f ≡ None
faultless F O n f r e o = sym (granted F O n (fault F O n f) (sym e ∙ o))

-- at most 40 terms find room
pub loaded : {E : Type 0} (f old new : Poly) (r : Result (Unit {0}) E) → length f ≤ most_terms → MatchResult r (λ _. (length f ≤ most_terms) × (new ≡ f)) (λ _. (most_terms < length f) × (new ≡ old)) → new ≡ f
loaded f old new (Ok u) l e = e.1
loaded f old new (Err x) l e = absurd (let k = e.0 in omega arith)

-- `new` has the terms behind the first of row k, and they can be reduced
pub record Tail (S : Setting) (rows : List Row) (k : ℕ) (new : Poly) : Type 0 where
  pub is : new ≡ drop 1 (row (table_of rows) k)
  pub acceptable : Acceptable S.field S.order S.variables (drop 1 (row (table_of rows) k))
  pub short : length (drop 1 (row (table_of rows) k)) ≤ 39

pub tail_loaded : {E : Type 0} {S : Setting} {rows : List Row} → SoundTable S rows → (k : ℕ) → Within k (length rows) → (it : Row) → it ≡ get_or rows (k - 1) it →
    (xs old new : Poly) (r : Result (Unit {0}) E) → xs ≡ terms_of (get_or rows (k - 1) it) →
    MatchResult r (λ _. (length (take (length xs - 1) (drop 1 xs)) ≤ most_terms) × (new ≡ take (length xs - 1) (drop 1 xs))) (λ _. (most_terms < length (take (length xs - 1) (drop 1 xs))) × (new ≡ old)) →
    Tail S rows k new
tail_loaded {S = S} {rows = rows} I k w it e xs old new r p m =
    let a = tail_of (row (table_of rows) k) (good_at S rows I k w).acceptable in
    let t : take (length xs - 1) (drop 1 xs) ≡ drop 1 (row (table_of rows) k) = take_rest xs 1 ∙ ap (drop 1) (p ∙ ap terms_of (sym e) ∙ sym (row_at rows k w it e)) in
    record {
      is = loaded (take (length xs - 1) (drop 1 xs)) old new r (subst (λ y. length y ≤ 40) (sym t) (let s = a.1 in omega arith)) m ∙ t;
      acceptable = a.0;
      short = a.1;
    }
