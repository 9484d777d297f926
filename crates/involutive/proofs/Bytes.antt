-- Copies with the same bytes are the same.
use Rattle.std.proofs.Common.{◌≡◌, ℕ, List, [], ◌∷◌, ◌++◌, length, sym, refl, ap, arith, length-append}
use mathlib.Core.List.{Memᴰ}
use Rattle.polynomial.specs.Polynomial.{Poly}
use Rattle.polynomial.specs.Bytes.{poly_bytes, copy_bytes}
use Rattle.polynomial.specs.Reading.{Wides}
use Rattle.polynomial.proofs.Codec.{run_once}

same_poly : (f g : Poly) (x y : List ℕ) → Wides f → Wides g → poly_bytes f ++ (2 ∷ x) ≡ poly_bytes g ++ (2 ∷ y) → (f ≡ g) × (x ≡ y)
same_poly f g x y v w e =
    let r = run_once (2 ∷ x) (2 ∷ y) (λ h. omega arith) f g v w (λ h. omega arith) e in
    (r.0, cc r.1)

closed_not_empty : (f : Poly) (x : List ℕ) → [] ≡ poly_bytes f ++ (2 ∷ x) → ⊥
closed_not_empty f x e = omega (arith, ap length e, length-append (poly_bytes f) (2 ∷ x))

pub same_copies : (fs gs : List Poly) → ((f : Poly) → Memᴰ f fs → Wides f) → ((g : Poly) → Memᴰ g gs → Wides g) → copy_bytes fs ≡ copy_bytes gs → fs ≡ gs
same_copies [] [] v w e = refl
same_copies [] (g ∷ gs) v w e = absurd (closed_not_empty g (copy_bytes gs) e)
same_copies (f ∷ fs) [] v w e = absurd (closed_not_empty f (copy_bytes fs) (sym e))
same_copies (f ∷ fs) (g ∷ gs) v w e =
    let p = same_poly f g (copy_bytes fs) (copy_bytes gs) (v f (Memᴰ.head refl)) (w g (Memᴰ.head refl)) e in
    let q = same_copies fs gs (λ x h. v x (Memᴰ.tail h)) (λ x h. w x (Memᴰ.tail h)) p.1 in
    λ i. p.0 i ∷ q i
