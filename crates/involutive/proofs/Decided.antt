-- Tests that answer with the proof: each function below answers a proof of what it is asked, or nothing.
use Rattle.std.proofs.Common.{◌≡◌, ℕ, zero, suc, ◌-◌, ◌<◌, ◌≤◌, Bool, true, false, T, eqb, ltb, leb, List, [], ◌∷◌, length, get_or, Some, None, Option, Ordering, Less, Equal as Same, Greater, sym, refl, ap, subst, ⊎_elim, arith}
use mathlib.Core.List.Memᴰ
use mathlib.Core.List.{Memᴰ}
use native.Mathlib.Decide.{ℕ_discrete}
use Rattle.std.proofs.lemmas.Bool.{leb-true, ltb-true, eqb-true, both_ways}
use Rattle.polynomial.specs.declared.term.Term.{Term}
use Rattle.field.specs.Field.{FieldMeaning}
use Rattle.monomial.specs.Monomial.{width, same, exponent, quotient, Divides}
use Rattle.monomial.specs.Order.{Compare, Under}
use Rattle.monomial.specs.Division.{Split, Within, Involutive, member}
use Rattle.involutive.specs.Value
use Rattle.polynomial.specs.Polynomial.{Poly, exponents}
use Rattle.involutive.specs.Value.{Equal}
use Rattle.polynomial.specs.Check.{Fits}
use Rattle.std.specs.Ordering.{is_lt}
use Rattle.involutive.proofs.Values
use Rattle.involutive.proofs.Monomials

infixl 10 ◌>>=◌
infixr 15 ◌or◌
-- answers that may be missing
module _ {A : Type 0} where
  abbrev pub ◌>>=◌ : {B : Type 0} → Option A → (A → Option B) → Option B
  ◌>>=◌ None f = None
  ◌>>=◌ (Some a) f = f a

  -- the first answer; the second is not looked at before
  abbrev pub ◌or◌ : Option A → (Unit {0} → Option A) → Option A
  ◌or◌ (Some a) f = Some a
  ◌or◌ None f = f tt

  abbrev pub is_some : Option A → Bool
  is_some (Some a) = true
  is_some None = false

  pub given : (o : Option A) → T (is_some o) → A
  given (Some a) t = a
  given None t = absurd t

  pub no_some : {B : Type 0} {a : A} → None ≡ Some a → B
  no_some e = cc

abbrev pub passes : (b : Bool) → Option (b ≡ true)
passes true = Some refl
passes false = None

abbrev pub fails : (b : Bool) → Option (b ≡ false)
fails true = None
fails false = Some refl

abbrev pub le? : (a b : ℕ) → Option (a ≤ b)
le? a b = passes (leb a b) >>= λ e. Some (leb-true a b e)

abbrev pub lt? : (a b : ℕ) → Option (a < b)
lt? a b = passes (ltb a b) >>= λ e. Some (ltb-true a b e)

abbrev pub eq? : (a b : ℕ) → Option (a ≡ b)
eq? a b = passes (eqb a b) >>= λ e. Some (eqb-true a b e)

abbrev pub same? : (u m : List ℕ) → Option (u ≡ m)
same? u m = passes (same u m) >>= λ e. Some (Monomials.same_true u m e)

abbrev pub within? : (k n : ℕ) → Option (Within k n)
within? k n = le? 1 k >>= λ a. le? k n >>= λ b. Some (a, b)

abbrev less? : (o : Ordering) → Option (o ≡ Less)
less? Less = Some refl
less? Same = None
less? Greater = None

abbrev pub under? : (O : Compare) (u m : List ℕ) → Option (Under O u m)
under? O u m = less? (O u m)

pub not_under : (O : Compare) (u m : List ℕ) → is_lt (O u m) ≡ false → Under O u m → ⊥
not_under O u m f e = both_ways _ f (ap is_lt e)

abbrev pub missing : {A : Type 0} (o : Option A) → Option (o ≡ None)
missing None = Some refl
missing (Some a) = None

abbrev pub present : {A : Type 0} (o : Option A) → Option ((a : A) × (o ≡ Some a))
present None = None
present (Some a) = Some (a, refl)

abbrev pub says? : (b : Bool) (o : Option Bool) → Option (o ≡ Some b)
says? true (Some true) = Some refl
says? true (Some false) = None
says? true None = None
says? false (Some true) = None
says? false (Some false) = Some refl
says? false None = None

pub other : (b c : Bool) (o : Option Bool) → o ≡ Some b → (b ≡ c → ⊥) → o ≡ Some c → ⊥
other b c o e n d = n cc

abbrev pub denies? : (b : Bool) (o : Option Bool) → Option (o ≡ Some b → ⊥)
denies? b None = Some (λ e. no_some e)
denies? true (Some true) = None
denies? true (Some false) = Some (λ e. other false true (Some false) refl (λ d. both_ways true (sym d) refl) e)
denies? false (Some true) = Some (λ e. other true false (Some true) refl (λ d. both_ways true d refl) e)
denies? false (Some false) = None

-- of all from 1 to n, of some, of all members of a list
pub more : (P : ℕ → Type 0) (n : ℕ) → P (suc n) → ((k : ℕ) → Within k n → P k) → (k : ℕ) → Within k (suc n) → P k
more P n p h k w = go (ℕ_discrete k (suc n))
  where
    go : Dec (k ≡ suc n) → P k
    go (yes e) = subst P (sym e) p
    go (no e) = h k (omega arith)

abbrev pub all? : {P : ℕ → Type 0} → ((k : ℕ) → Option (P k)) → (n : ℕ) → Option ((k : ℕ) → Within k n → P k)
all? f zero = Some (λ k w. absurd (omega arith))
all? {P} f (suc n) = f (suc n) >>= λ p. all? f n >>= λ h. Some (more P n p h)

abbrev pub some? : {A : Type 0} → (ℕ → Option A) → ℕ → Option A
some? f zero = None
some? f (suc n) = f (suc n) or λ u. some? f n

pub one_more : {A : Type 0} (P : A → Type 0) (x : A) (l : List A) → P x → ((y : A) → Memᴰ y l → P y) → (y : A) → Memᴰ y (x ∷ l) → P y
one_more P x l p h y m = ⊎_elim (λ e. subst P (sym e) p) (λ k. h y k) (Memᴰ.cases_cons m)

abbrev pub each? : {A : Type 0} {P : A → Type 0} → ((x : A) → Option (P x)) → (l : List A) → Option ((x : A) → Memᴰ x l → P x)
each? f [] = Some (λ x h. elim h [ ])
each? {P} f (x ∷ l) = f x >>= λ p. each? f l >>= λ h. Some (one_more P x l p h)

pub entry_more : (d e : ℕ) (u m : List ℕ) → d ≤ e → ((i : ℕ) → get_or u i 0 ≤ get_or m i 0) → (i : ℕ) → get_or (d ∷ u) i 0 ≤ get_or (e ∷ m) i 0
entry_more d e u m p h zero = p
entry_more d e u m p h (suc i) = h i

-- answers where the monomials are equally wide
abbrev entries? : (u m : List ℕ) → Option ((i : ℕ) → get_or u i 0 ≤ get_or m i 0)
entries? [] m = Some (λ i. omega arith)
entries? (d ∷ u) [] = None
entries? (d ∷ u) (e ∷ m) = le? d e >>= λ p. entries? u m >>= λ h. Some (entry_more d e u m p h)

abbrev pub divides? : (u m : List ℕ) → Option (Divides u m)
divides? u m = entries? u m >>= λ h. Some (λ v. h (v - 1))

pub larger : (u m : List ℕ) (v : ℕ) → exponent m v < exponent u v → Divides u m → ⊥
larger u m v l h = omega (arith, h v)

abbrev pub not_divides? : (u m : List ℕ) → Option (Divides u m → ⊥)
not_divides? u m = some? (λ v. lt? (exponent m v) (exponent u v) >>= λ l. Some (larger u m v l)) width

module _ (D : Split) (U : List (List ℕ)) where
  abbrev usable? : (k : ℕ) (m : List ℕ) (v : ℕ) → Option (0 < exponent (quotient m (member U k)) v → D U k v ≡ Some true)
  usable? k m v = (le? (exponent (quotient m (member U k)) v) 0 >>= λ l. Some (λ h. absurd (omega arith))) or λ u. says? true (D U k v) >>= λ e. Some (λ h. e)

  abbrev pub involutive? : (k : ℕ) (m : List ℕ) → Option (Involutive D U k m)
  involutive? k m = within? k (length U) >>= λ w. divides? (member U k) m >>= λ d. all? (usable? k m) width >>= λ h. Some (record { within = w; divides = d; multiplicative = h })

  abbrev pub not_involutive? : (k : ℕ) (m : List ℕ) → Option (Involutive D U k m → ⊥)
  not_involutive? k m =
      (not_divides? (member U k) m >>= λ n. Some (λ i. n i.divides))
      or λ u. some? (λ v. within? v width >>= λ w. lt? 0 (exponent (quotient m (member U k)) v) >>= λ l. denies? true (D U k v) >>= λ n. Some (λ i. n (i.multiplicative v w l))) width

  abbrev pub divisor? : (m : List ℕ) → Option ((k : ℕ) × Involutive D U k m)
  divisor? m = some? (λ k. involutive? k m >>= λ i. Some (k, i)) (length U)

  abbrev pub no_divisor? : (m : List ℕ) → Option ((k : ℕ) → Involutive D U k m → ⊥)
  no_divisor? m = all? (λ k. not_involutive? k m) (length U) >>= λ h. Some (λ k i. h k i.within i)

module _ (F : FieldMeaning) (f g : Poly) where
  abbrev Agree : Term → Type 0
  Agree t = Value.at F f (exponents t) ≡ Value.at F g (exponents t)

  abbrev agree? : (t : Term) → Option (Agree t)
  agree? t = eq? (Value.at F f (exponents t)) (Value.at F g (exponents t))

  abbrev pub equal? : Option (Equal F f g)
  equal? = each? agree? f >>= λ a. each? agree? g >>= λ b. Some (Values.agree F f g a b)

pub same_term : (t s : Term) → t.coefficient ≡ s.coefficient → exponents t ≡ exponents s → t ≡ s
same_term t s c m = λ i. record { coefficient = c i; monomial = record { exponents = m i } }

pub same_cons : {A : Type 0} (x y : A) (l r : List A) → x ≡ y → l ≡ r → x ∷ l ≡ y ∷ r
same_cons x y l r p q = cc

abbrev pub same_list? : {A : Type 0} → ((x y : A) → Option (x ≡ y)) → (l r : List A) → Option (l ≡ r)
same_list? f [] [] = Some refl
same_list? f [] (y ∷ r) = None
same_list? f (x ∷ l) [] = None
same_list? f (x ∷ l) (y ∷ r) = f x y >>= λ p. same_list? f l r >>= λ q. Some (same_cons x y l r p q)

abbrev pub same_poly? : (f g : Poly) → Option (f ≡ g)
same_poly? = same_list? (λ t s. eq? t.coefficient s.coefficient >>= λ c. same? (exponents t) (exponents s) >>= λ m. Some (same_term t s c m))

abbrev pub same_polys? : (fs gs : List Poly) → Option (fs ≡ gs)
same_polys? = same_list? same_poly?

pub small : (m : List ℕ) → ((e : ℕ) → Memᴰ e m → e ≤ 40) → (i : ℕ) → get_or m i 0 ≤ 40
small [] h i = omega arith
small (e ∷ m) h zero = h e (Memᴰ.head refl)
small (e ∷ m) h (suc i) = small m (λ e k. h e (Memᴰ.tail k)) i

abbrev fit? : (t : Term) → Option ((v : ℕ) → exponent (exponents t) v ≤ 40)
fit? t = each? (λ e. le? e 40) (exponents t) >>= λ h. Some (λ v. small (exponents t) h (v - 1))

abbrev pub fits? : (f : Poly) → Option (Fits f)
fits? f = each? fit? f
