-- Adding up from the greatest terms on writes the sum down: its value is that of the two lists together, and there is always a sum.
use Rattle.std.proofs.Common.{◌≡◌, ℕ, ◌<◌, Bool, true, false, cond, List, [], ◌∷◌, ◌++◌, Ordering, Less, Equal, Greater, sym, refl, ap, ◌∙◌, subst, ⊎_elim, arith}
use Rattle.std.specs.Ordering.{ordering_reverse}
use Rattle.std.proofs.lemmas.Bool.{cond_both, cases_eq}
use Rattle.field.specs.Field.{FieldMeaning, FieldLaws}
use Rattle.monomial.specs.Monomial.{Wide, In, same}
use Rattle.monomial.specs.Order.{Compare, OrderLaws, Under}
use Rattle.polynomial.specs.declared.term.Term.{Term}
use Rattle.polynomial.specs.Polynomial.{Poly, exponents, Over, Falling, none, Written}
use Rattle.involutive.specs.Value.{at}
use Rattle.involutive.proofs.Typing.{positive}
use Rattle.reduction.specs.Merging.{Sums, code_sum, nothing, left_only, right_only, left_first, right_first, together, cancelled}
use Rattle.reduction.proofs.Codes.{sum_is, add_swap}
use Rattle.reduction.proofs.Terms.{Each, each_cons, each_head, each_tail, Tops, falling_head, falling_tail, falling_cons}

swap_cond : (b d : Bool) (add : ℕ → ℕ → ℕ) (t s x : ℕ) → add t (add s x) ≡ add s (add t x) → cond b (add t (cond d (add s x) x)) (cond d (add s x) x) ≡ cond d (add s (cond b (add t x) x)) (cond b (add t x) x)
swap_cond true true add t s x e = e
swap_cond true false add t s x e = refl
swap_cond false true add t s x e = refl
swap_cond false false add t s x e = refl

double_cond : (b : Bool) (add : ℕ → ℕ → ℕ) (t s r x : ℕ) → add t (add s x) ≡ add r x → cond b (add t (cond b (add s x) x)) (cond b (add s x) x) ≡ cond b (add r x) x
double_cond true add t s r x e = e
double_cond false add t s r x e = refl

pub gone_cond : (b : Bool) (add : ℕ → ℕ → ℕ) (t s x : ℕ) → add t (add s x) ≡ x → cond b (add t (cond b (add s x) x)) (cond b (add s x) x) ≡ x
gone_cond true add t s x e = e
gone_cond false add t s x e = refl

module _ (F : FieldMeaning) (L : FieldLaws F) (O : Compare) (Q : OrderLaws O) (n : ℕ) where
  abbrev pub Good : Term → Type 0
  Good t = (t.coefficient < F.q) × In n (exponents t)

  pub at_below : (f : Poly) → Over F n f → (m : List ℕ) → at F f m < F.q
  at_below [] o m = positive L
  at_below (t ∷ f) o m =
      cond_both (same (exponents t) m) _ _ (λ x. x < F.q) (λ _. L.add_below _ _ (each_head {P = Good} o).0 (at_below f (each_tail {P = Good} o) m)) (λ _. at_below f (each_tail {P = Good} o) m)

  pub over_append : (h f : Poly) → Over F n h → Over F n f → Over F n (h ++ f)
  over_append [] f o p = p
  over_append (t ∷ h) f o p = each_cons Good (each_head {P = Good} o) (over_append h f (each_tail {P = Good} o) p)

  -- a term further on counts as much as one in front
  pub in_front : (h f : Poly) (s : Term) → Over F n h → Over F n f → s.coefficient < F.q → (m : List ℕ) → at F (h ++ s ∷ f) m ≡ at F (s ∷ (h ++ f)) m
  in_front [] f s o p k m = refl
  in_front (t ∷ h) f s o p k m =
      let x : ℕ = at F (h ++ f) m in
      let b : x < F.q = at_below (h ++ f) (over_append h f (each_tail {P = Good} o) p) m in
      ap (λ y. cond (same (exponents t) m) (F.add t.coefficient y) y) (in_front h f s (each_tail {P = Good} o) p k m)
      ∙ swap_cond (same (exponents t) m) (same (exponents s) m) F.add t.coefficient s.coefficient x (add_swap F L t.coefficient s.coefficient x (each_head {P = Good} o).0 k b)

  -- the heads t and s of one monomial
  heads : (t s : Term) (h f : Poly) → Over F n (t ∷ h) → Over F n (s ∷ f) → O (exponents t) (exponents s) ≡ Equal → (m : List ℕ) →
      at F ((t ∷ h) ++ (s ∷ f)) m ≡ cond (same (exponents t) m) (F.add t.coefficient (cond (same (exponents t) m) (F.add s.coefficient (at F (h ++ f) m)) (at F (h ++ f) m))) (cond (same (exponents t) m) (F.add s.coefficient (at F (h ++ f) m)) (at F (h ++ f) m))
  heads t s h f o p e m =
      let d : exponents t ≡ exponents s = (Q.equal (exponents t) (exponents s) (each_head {P = Good} o).1.wide (each_head {P = Good} p).1.wide).0 e in
      ap (λ y. cond (same (exponents t) m) (F.add t.coefficient y) y)
      (in_front h f s (each_tail {P = Good} o) (each_tail {P = Good} p) (each_head {P = Good} p).0 m ∙ ap (λ u. cond (same u m) (F.add s.coefficient (at F (h ++ f) m)) (at F (h ++ f) m)) (sym d))

  pub value : {h f g : Poly} → Sums F O h f g → Over F n h → Over F n f → (m : List ℕ) → at F g m ≡ at F (h ++ f) m
  value nothing o p m = refl
  value (left_only {t = t} r) o p m = ap (λ y. cond (same (exponents t) m) (F.add t.coefficient y) y) (value r (each_tail {P = Good} o) p m)
  value (right_only {s = s} r) o p m = ap (λ y. cond (same (exponents s) m) (F.add s.coefficient y) y) (value r o (each_tail {P = Good} p) m)
  value (left_first {t = t} e r) o p m = ap (λ y. cond (same (exponents t) m) (F.add t.coefficient y) y) (value r (each_tail {P = Good} o) p m)
  value (right_first {t = t} {s = s} {h = h} {f = f} e r) o p m =
      ap (λ y. cond (same (exponents s) m) (F.add s.coefficient y) y) (value r o (each_tail {P = Good} p) m) ∙ sym (in_front (t ∷ h) f s o (each_tail {P = Good} p) (each_head {P = Good} p).0 m)
  value (together {t = t} {s = s} {h = h} {f = f} e z r) o p m =
      let a = (each_head {P = Good} o).0 in
      let b = (each_head {P = Good} p).0 in
      let x : ℕ = at F (h ++ f) m in
      let k : x < F.q = at_below (h ++ f) (over_append h f (each_tail {P = Good} o) (each_tail {P = Good} p)) m in
      ap (λ y. cond (same (exponents t) m) (F.add (code_sum F t.coefficient s.coefficient) y) y) (value r (each_tail {P = Good} o) (each_tail {P = Good} p) m)
      ∙ sym (heads t s h f o p e m ∙ double_cond (same (exponents t) m) F.add t.coefficient s.coefficient (code_sum F t.coefficient s.coefficient) x
      (sym (L.add_assoc _ _ x a b k) ∙ ap (λ y. F.add y x) (sym (sum_is F L t.coefficient s.coefficient a b))))
  value (cancelled {t = t} {s = s} {h = h} {f = f} e z r) o p m =
      let a = (each_head {P = Good} o).0 in
      let b = (each_head {P = Good} p).0 in
      let x : ℕ = at F (h ++ f) m in
      let k : x < F.q = at_below (h ++ f) (over_append h f (each_tail {P = Good} o) (each_tail {P = Good} p)) m in
      value r (each_tail {P = Good} o) (each_tail {P = Good} p) m
      ∙ sym (heads t s h f o p e m ∙ gone_cond (same (exponents t) m) F.add t.coefficient s.coefficient x
      (sym (L.add_assoc _ _ x a b k) ∙ ap (λ y. F.add y x) (sym (sum_is F L t.coefficient s.coefficient a b) ∙ z) ∙ L.zero_neutral x k))

  -- the sum is written down
  abbrev pub Fine : Term → Type 0
  Fine t = (0 < t.coefficient) × Good t

  fine : {h f g : Poly} → Sums F O h f g → Each Fine h → Each Fine f → Each Fine g
  fine nothing o p = o
  fine (left_only r) o p = each_cons Fine (each_head {P = Fine} o) (fine r (each_tail {P = Fine} o) p)
  fine (right_only r) o p = each_cons Fine (each_head {P = Fine} p) (fine r o (each_tail {P = Fine} p))
  fine (left_first e r) o p = each_cons Fine (each_head {P = Fine} o) (fine r (each_tail {P = Fine} o) p)
  fine (right_first e r) o p = each_cons Fine (each_head {P = Fine} p) (fine r o (each_tail {P = Fine} p))
  fine (together {t = t} {s = s} e z r) o p =
      let a = (each_head {P = Fine} o).1.0 in
      let b = (each_head {P = Fine} p).1.0 in
      each_cons Fine (z, (rw (sum_is F L t.coefficient s.coefficient a b) (L.add_below _ _ a b), (each_head {P = Fine} o).1.1)) (fine r (each_tail {P = Fine} o) (each_tail {P = Fine} p))
  fine (cancelled e z r) o p = fine r (each_tail {P = Fine} o) (each_tail {P = Fine} p)

  pub tops_up : (u v : List ℕ) (f : Poly) → Wide u → Wide v → Over F n f → Under O u v → Tops O u f → Tops O v f
  tops_up u v [] p q o h k = tt
  tops_up u v (t ∷ f) p q o h k = Q.transitive (exponents t) u v (each_head {P = Good} o).1.wide p q k h

  pub good : {f : Poly} → Each Fine f → Over F n f
  good o t h = (o t h).1

  pub tops : {h f g : Poly} → Sums F O h f g → Each Fine h → Each Fine f → Falling O h → Falling O f → (u : List ℕ) → Wide u → Tops O u h → Tops O u f → Tops O u g
  tops nothing o p a b u w c d = tt
  tops (left_only r) o p a b u w c d = c
  tops (right_only r) o p a b u w c d = d
  tops (left_first e r) o p a b u w c d = c
  tops (right_first e r) o p a b u w c d = d
  tops (together e z r) o p a b u w c d = c
  tops (cancelled {t = t} {s = s} {h = h} {f = f} e z r) o p a b u w c d =
      tops r (each_tail {P = Fine} o) (each_tail {P = Fine} p) (falling_tail h a) (falling_tail f b) u w
      (tops_up (exponents t) u h (each_head {P = Fine} o).1.1.wide w (good (each_tail {P = Fine} o)) c (falling_head h a))
      (tops_up (exponents s) u f (each_head {P = Fine} p).1.1.wide w (good (each_tail {P = Fine} p)) d (falling_head f b))

  falls : {h f g : Poly} → Sums F O h f g → Each Fine h → Each Fine f → Falling O h → Falling O f → Falling O g
  falls nothing o p a b = none
  falls (left_only {t = t} {h = h} {g = g} r) o p a b =
      falling_cons t g (tops r (each_tail {P = Fine} o) p (falling_tail h a) b (exponents t) (each_head {P = Fine} o).1.1.wide (falling_head h a) tt) (falls r (each_tail {P = Fine} o) p (falling_tail h a) b)
  falls (right_only {s = s} {f = f} {g = g} r) o p a b =
      falling_cons s g (tops r o (each_tail {P = Fine} p) a (falling_tail f b) (exponents s) (each_head {P = Fine} p).1.1.wide tt (falling_head f b)) (falls r o (each_tail {P = Fine} p) a (falling_tail f b))
  falls (left_first {t = t} {s = s} {h = h} {g = g} e r) o p a b =
      let wt = (each_head {P = Fine} o).1.1.wide in
      falling_cons t g (tops r (each_tail {P = Fine} o) p (falling_tail h a) b (exponents t) wt (falling_head h a) (Q.total (exponents t) (exponents s) wt (each_head {P = Fine} p).1.1.wide ∙ ap ordering_reverse e)) (falls r (each_tail {P = Fine} o) p (falling_tail h a) b)
  falls (right_first {t = t} {s = s} {f = f} {g = g} e r) o p a b =
      falling_cons s g (tops r o (each_tail {P = Fine} p) a (falling_tail f b) (exponents s) (each_head {P = Fine} p).1.1.wide e (falling_head f b)) (falls r o (each_tail {P = Fine} p) a (falling_tail f b))
  falls (together {t = t} {s = s} {h = h} {f = f} {g = g} e z r) o p a b =
      let wt = (each_head {P = Fine} o).1.1.wide in
      let d : exponents t ≡ exponents s = (Q.equal (exponents t) (exponents s) wt (each_head {P = Fine} p).1.1.wide).0 e in
      falling_cons _ g (tops r (each_tail {P = Fine} o) (each_tail {P = Fine} p) (falling_tail h a) (falling_tail f b) (exponents t) wt (falling_head h a) (subst (λ u. Tops O u f) (sym d) (falling_head f b))) (falls r (each_tail {P = Fine} o) (each_tail {P = Fine} p) (falling_tail h a) (falling_tail f b))
  falls (cancelled {h = h} {f = f} e z r) o p a b = falls r (each_tail {P = Fine} o) (each_tail {P = Fine} p) (falling_tail h a) (falling_tail f b)

  pub fine_of : {f : Poly} → Written F O n f → Each Fine f
  fine_of w t h = (w.nonzero t h, w.over t h)

  pub written : {h f g : Poly} → Sums F O h f g → Written F O n h → Written F O n f → Written F O n g
  written r v w = record {
    over = good (fine r (fine_of v) (fine_of w));
    nonzero = λ t h. (fine r (fine_of v) (fine_of w) t h).0;
    falling = falls r (fine_of v) (fine_of w) v.falling w.falling;
  }

-- there is always a sum
module _ (F : FieldMeaning) (O : Compare) where
  abbrev pub Summed : Poly → Poly → Type 0
  Summed h f = (g : Poly) × Sums F O h f g

  rights : (f : Poly) → Sums F O [] f f
  rights [] = nothing
  rights (s ∷ f) = right_only (rights f)

  pub lefts : (h : Poly) → Sums F O h [] h
  lefts [] = nothing
  lefts (t ∷ h) = left_only (lefts h)

  one : (t s : Term) (h f : Poly) → Summed h (s ∷ f) → Summed (t ∷ h) f → Summed h f → (o : Ordering) → O (exponents t) (exponents s) ≡ o → Summed (t ∷ h) (s ∷ f)
  one t s h f x y z Greater e = (t ∷ x.0, left_first e x.1)
  one t s h f x y z Less e = (s ∷ y.0, right_first e y.1)
  one t s h f x y z Equal e = ⊎_elim (λ n. (z.0, cancelled e n z.1)) (λ n. (_, together e (omega arith) z.1)) (cases_eq (code_sum F t.coefficient s.coefficient) 0)

  inner : (t : Term) (h : Poly) → ((f : Poly) → Summed h f) → (f : Poly) → Summed (t ∷ h) f
  inner t h r [] = (t ∷ h, lefts (t ∷ h))
  inner t h r (s ∷ f) = one t s h f (r (s ∷ f)) (inner t h r f) (r f) (O (exponents t) (exponents s)) refl

  pub summed : (h f : Poly) → Summed h f
  summed [] f = (f, rights f)
  summed (t ∷ h) f = inner t h (λ k. summed h k) f
