-- The list of copies, row by row.
use Rattle.std.proofs.Common.{◌≡◌, ℕ, ◌-◌, List, [], ◌∷◌, ◌++◌, take, drop, sym, refl, subst, ⊎_elim}
use mathlib.Core.List.Memᴰ
use mathlib.Core.List.{Memᴰ}
use Rattle.polynomial.specs.Polynomial.{Poly}
use Rattle.involutive.specs.Reduction.{row, left}
use Rattle.involutive.specs.Sheet.{Setting, State}
use Rattle.involutive.specs.Answers.{ReducesTo, Copied, Copies, copies, copy_end, copy_stuck, copy_later, copy_row}
use Rattle.polynomial.specs.Check.{most_terms}

module _ (S : Setting) (s : State) where
  -- f is the copy of row k
  pub record CopyOf (k : ℕ) (f : Poly) : Type 0 where
    pub rest : Poly
    pub reduced : ReducesTo S s (most_terms - 1) (drop 1 (row s.rows k)) (left rest)
    pub is : f ≡ take 1 (row s.rows k) ++ rest

  -- the two lists run side by side
  pub data Beside : List ℕ → List Poly → Type 0 where
    no_more : Beside [] []
    one_more : {k : ℕ} {f : Poly} {ks : List ℕ} {fs : List Poly} → CopyOf k f → Beside ks fs → Beside (k ∷ ks) (f ∷ fs)

  cast : {ks : List ℕ} {fs gs : List Poly} → Beside ks fs → ◌≡◌ {A = Copied} (copies fs) (copies gs) → Beside ks gs
  cast {ks} {fs} {gs} b e = let d : fs ≡ gs = cc in subst (Beside ks) d b

  go : {ks : List ℕ} {o : Copied} → Copies S s ks o → (fs : List Poly) → o ≡ copies fs → Beside ks fs
  go copy_end fs e = cast no_more e
  go (copy_stuck r) fs e = cc
  go (copy_later r c) fs e = cc
  go (copy_row {g = g} {fs = gs} r c) fs e = cast (one_more (record { rest = g; reduced = r; is = refl }) (go c gs refl)) e

  pub beside : {ks : List ℕ} {fs : List Poly} → Copies S s ks (copies fs) → Beside ks fs
  beside {ks} {fs} c = go c fs refl

  pub record CopyFrom (ks : List ℕ) (f : Poly) : Type 0 where
    pub k : ℕ
    pub stands : Memᴰ k ks
    pub copy : CopyOf k f

  pub record CopyTo (fs : List Poly) (k : ℕ) : Type 0 where
    pub f : Poly
    pub stands : Memᴰ f fs
    pub copy : CopyOf k f

  pub copy_from : {ks : List ℕ} {fs : List Poly} → Beside ks fs → (f : Poly) → Memᴰ f fs → CopyFrom ks f
  copy_from no_more f h = elim h [ ]
  copy_from (one_more {k = k} c b) f h = ⊎_elim
      (λ e. record { k = k; stands = Memᴰ.head refl; copy = subst (CopyOf k) (sym e) c })
      (λ m. let r = copy_from b f m in record { k = r.k; stands = Memᴰ.tail r.stands; copy = r.copy })
      (Memᴰ.cases_cons h)

  pub copy_to : {ks : List ℕ} {fs : List Poly} → Beside ks fs → (k : ℕ) → Memᴰ k ks → CopyTo fs k
  copy_to no_more k h = elim h [ ]
  copy_to (one_more {f = f} c b) k h = ⊎_elim
      (λ e. record { f = f; stands = Memᴰ.head refl; copy = subst (λ k. CopyOf k f) (sym e) c })
      (λ m. let r = copy_to b k m in record { f = r.f; stands = Memᴰ.tail r.stands; copy = r.copy })
      (Memᴰ.cases_cons h)
