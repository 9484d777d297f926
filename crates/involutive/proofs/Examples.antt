-- What exists: the evaluator makes it, and the main theorem tells the sheets' ideals apart.
use Rattle.std.proofs.Common.{◌≡◌, ℕ, false, eqb, List, [], ◌∷◌, ◌++◌, length, drop, Some, None, Option, refl, sym, ap, ◌∙◌, subst, arith}
use lib.Seq.{take-append_seam}
use Rattle.std.proofs.lemmas.Bool.{both_ways, eqb-false}
use Rattle.monomial.specs.Monomial.{one, same}
use Rattle.monomial.specs.Division.{Within, thomas}
use Rattle.monomial.specs.Divisions.{thomas_laws}
use Rattle.polynomial.specs.Polynomial.{Poly, term, leading}
use Rattle.polynomial.specs.Check.{most_terms}
use Rattle.polynomial.specs.Bytes.{copy_bytes}
use Rattle.polynomial.proofs.Checking.{acceptable_from}
use Rattle.involutive.specs.Value.{plus, product, unit}
use Rattle.involutive.specs.Ideal.{combination, Member}
use Rattle.involutive.specs.Sheet.{Setting, Lawful, State, Closed}
use Rattle.involutive.specs.Answers.{first_fault, front, ReducesTo, remainder_written, copy_written}
use Rattle.involutive.specs.Reduction.{row, left}
use Rattle.involutive.specs.Log.{Call, add}
use Rattle.involutive.specs.Complete.{Granted, GrantedCopy, under_division}
use Rattle.involutive.specs.Facts.{three, power, x1, x2, x1x2², x1²+2, x1x2+2, x1+2x2, x2²+2, two_adds, steps}
use Rattle.involutive.specs.Examples.{Made, Proper, Combined, OneCopy, TwoCopies, NotEmpty}
use Rattle.involutive.proofs.Soundness
use Rattle.involutive.proofs.Monomials
use Rattle.involutive.proofs.Verdicts
use Rattle.involutive.proofs.Completeness.{complete}
use Rattle.involutive.proofs.Decided.{◌>>=◌, given, fails, lt?, same?, missing, each?, equal?, same_poly?}
use Rattle.involutive.proofs.Evaluate.{tidy, fuel, reduce, Copy, fair_copy?, closed?, run}
use Rattle.involutive.proofs.WorkedFacts.{no_unit?, three_lawful}

-- lists of numbers that the test tells apart
apart : (u m : List ℕ) → same u m ≡ false → u ≡ m → ⊥
apart u m f e = both_ways _ f (ap (λ m. same u m) (sym e) ∙ Monomials.same_refl u)

-- polynomials that their leading monomials tell apart
abbrev led_apart? : (f g : Poly) → Option (f ≡ g → ⊥)
led_apart? f g = fails (same (leading f) (leading g)) >>= λ d. Some (λ e. apart (leading f) (leading g) d (ap leading e))

module _ (S : Setting) (W : Lawful S) where
  abbrev made? : (calls : List Call) → Option (Made S calls)
  made? calls = run S calls >>= λ x. closed? S x.state >>= λ c. Some (record { state = x.state; generators = x.accepted; after = x.after; sound = Soundness.sound S W x.after; closed = c })

  -- into a buffer that is just long enough
  granted : {s : State} {f r : Poly} → Closed S s → first_fault S f ≡ None → ReducesTo S s most_terms f (left r) → Granted S s f r
  granted {r = r} c n h = record { out = r; after = front r r; grant = remainder_written c n h (omega arith); front = take-append_seam r (drop (length r) r) }

  abbrev remainder? : {calls : List Call} (x : Made S calls) (f : Poly) → Option ((r : Poly) × Granted S x.state f r)
  remainder? x f = missing (first_fault S f) >>= λ n. reduce S x.state.rows most_terms fuel f >>= λ r. Some (r.0, granted x.closed n r.1)

  granted_copy : {s : State} → (c : Copy S s) → GrantedCopy S s (copy_bytes c.polys)
  granted_copy {s} c = let b : List ℕ = copy_bytes c.polys in record {
    rows = length c.polys;
    out = b;
    after = front b b;
    grant = copy_written c.closed c.selection c.copied (omega arith);
    front = take-append_seam b (drop (length b) b);
  }

  proper : {calls : List Call} (x : Made S calls) → ((k : ℕ) → Within k (length x.state.rows) → leading (row x.state.rows k) ≡ one → ⊥) → Member S.field S.variables x.generators unit → ⊥
  proper {calls} x h m =
      let u = (Verdicts.sound_verdict S W x.state x.sound x.closed).0 (((complete S W).ideal calls x.state x.generators x.after unit (Verdicts.unit_written S W).over).1 m) in
      h u.k u.within u.leads

  abbrev proper? : (calls : List Call) (f g h : Poly) → Option (Proper S calls)
  proper? calls f g h =
      made? calls >>= λ x. lt? 0 (length x.state.rows) >>= λ n. no_unit? x.state >>= λ no.
      remainder? x f >>= λ r. remainder? x g >>= λ t. remainder? x h >>= λ u. led_apart? r.0 t.0 >>= λ d. same_poly? u.0 r.0 >>= λ e. led_apart? h f >>= λ o.
      Some (record {
        sheet = x;
        nonempty = n;
        proper = proper x no;
        f = f;
        g = g;
        r = r.0;
        t = t.0;
        first = r.1;
        second = t.1;
        differ = d;
        h = h;
        third = subst (Granted S x.state h) e u.1;
        other = o;
      })

  abbrev combined? : (calls : List Call) (f g : Poly) → Option (Combined S calls)
  combined? calls f g =
      made? calls >>= λ x. remainder? x f >>= λ r. remainder? x g >>= λ t.
      let a : Poly = tidy S.field S.order (plus f g) in
      let b : Poly = tidy S.field S.order (product S.field f g) in
      let c : Poly = tidy S.field S.order (product S.field r.0 t.0) in
      equal? S.field a (plus f g) >>= λ ea. equal? S.field b (product S.field f g) >>= λ eb. equal? S.field c (product S.field r.0 t.0) >>= λ ec.
      remainder? x a >>= λ u. remainder? x b >>= λ v. remainder? x c >>= λ w. same_poly? w.0 v.0 >>= λ e.
      Some (record {
        sheet = x;
        f = f;
        g = g;
        r = r.0;
        t = t.0;
        first = r.1;
        second = t.1;
        sum = a;
        is_sum = ea;
        u = u.0;
        of_sum = u.1;
        fg = b;
        is_fg = eb;
        rt = c;
        is_rt = ec;
        w = v.0;
        of_fg = v.1;
        of_rt = subst (Granted S x.state c) e w.1;
      })

-- two sheets, side by side
module _ (S T : Setting) (W : Lawful S) (V : Lawful T) where
  one_copy : {calls calls' : List Call} (x : Made S calls) (y : Made T calls') (c : Copy S x.state) (d : Copy T y.state) →
      eqb (length x.state.rows) (length y.state.rows) ≡ false → copy_bytes c.polys ≡ copy_bytes d.polys → OneCopy S T calls calls'
  one_copy x y c d n e = record {
    here = x;
    there = y;
    tables = λ t. eqb-false _ _ n (ap length t);
    copy = copy_bytes c.polys;
    copy_here = granted_copy S W c;
    copy_there = subst (GrantedCopy T y.state) (sym e) (granted_copy T V d);
  }

  abbrev one_copy? : (calls calls' : List Call) → Option (OneCopy S T calls calls')
  one_copy? calls calls' =
      made? S W calls >>= λ x. made? T V calls' >>= λ y. fair_copy? S x.state >>= λ c. fair_copy? T y.state >>= λ d.
      fails (eqb (length x.state.rows) (length y.state.rows)) >>= λ n. same? (copy_bytes c.polys) (copy_bytes d.polys) >>= λ e. Some (one_copy x y c d n e)

module _ (S : Setting) (W : Lawful S) where
  two_copies : {calls calls' : List Call} (x : Made S calls) (y : Made S calls') (c : Copy S x.state) (d : Copy S y.state) →
      same (copy_bytes c.polys) (copy_bytes d.polys) ≡ false → TwoCopies S calls calls'
  two_copies {calls} {calls'} x y c d n =
      let G = granted_copy S W c in
      let H = granted_copy S W d in
      let differ : copy_bytes c.polys ≡ copy_bytes d.polys → ⊥ = apart (copy_bytes c.polys) (copy_bytes d.polys) n in
      record {
        here = x;
        there = y;
        ideals = λ i. differ (((complete S W).copies S.division W.division calls calls' x.state y.state x.generators y.generators x.after x.closed y.after y.closed (copy_bytes c.polys) (copy_bytes d.polys) G H).1 i);
        copy = copy_bytes c.polys;
        other = copy_bytes d.polys;
        copy_here = G;
        copy_there = H;
        copies = differ;
      }

  abbrev two_copies? : (calls calls' : List Call) → Option (TwoCopies S calls calls')
  two_copies? calls calls' =
      made? S W calls >>= λ x. made? S W calls' >>= λ y. fair_copy? S x.state >>= λ c. fair_copy? S y.state >>= λ d.
      fails (same (copy_bytes c.polys) (copy_bytes d.polys)) >>= λ n. Some (two_copies x y c d n)

-- multipliers, one to a generator, and the value of their combination
abbrev member? : (S : Setting) (ms gs : List Poly) (f : Poly) → length ms ≡ length gs → Option (Member S.field S.variables gs f)
member? S ms gs f e =
    each? (λ a. missing (first_fault S a)) ms >>= λ n. equal? S.field f (combination S.field ms gs) >>= λ s.
    Some (record { multipliers = ms; each = e; over = λ a m. (acceptable_from S.field S.order S.variables a (n a m)).written.over; sum = s })

thomas_lawful : Lawful (under_division three thomas)
thomas_lawful = record { field = three_lawful.field; order = three_lawful.order; division = thomas_laws; variables = three_lawful.variables }

pub not_empty : NotEmpty
not_empty = record {
  lawful = three_lawful;
  sum = given (equal? three.field x1+2x2 (plus x1 (plus x2 x2))) tt;
  member = given (member? three (x2 ∷ (term 2 (power 1 0 0) ∷ []) ∷ []) (x1²+2 ∷ x1x2+2 ∷ []) x1+2x2 refl) tt;
  proper = given (proper? three three_lawful (steps 6 two_adds) x1x2² unit x1) tt;
  combined = given (combined? three three_lawful (steps 6 two_adds) (x1x2² ++ x2) (x1 ++ unit)) tt;
  two_divisions = given (one_copy? three (under_division three thomas) three_lawful thomas_lawful (steps 21 two_adds) (steps 21 two_adds)) tt;
  laws = thomas_laws;
  one_division = given (one_copy? three three three_lawful three_lawful (steps 6 two_adds) (steps 1 (add x2²+2 ∷ add x1+2x2 ∷ []))) tt;
  two_copies = given (two_copies? three three_lawful (steps 6 two_adds) (add x1+2x2 ∷ [])) tt;
}
