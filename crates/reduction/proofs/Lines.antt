-- The rows of a sound table by their numbers, and the terms behind their first ones.
use Rattle.std.proofs.Common.{◌≡◌, ℕ, ◌-◌, ◌<◌, ◌≤◌, List, [], ◌∷◌, length, drop, get_or, refl, sym, subst, arith}
use mathlib.Core.List.Memᴰ
use Rattle.field.specs.Field.{FieldMeaning}
use Rattle.monomial.specs.Order.{Compare}
use Rattle.monomial.specs.Division.{Within}
use Rattle.monomial.specs.Monomial.{Wide}
use Rattle.polynomial.specs.Polynomial.{Poly, leading}
use Rattle.polynomial.specs.Check.{Acceptable}
use Rattle.involutive.specs.Reduction.{row}
use Rattle.involutive.specs.Sheet.{Setting}
use Rattle.involutive.specs.Sound.{Row as Good}
use Rattle.reduction.specs.declared.table.Row.{Row}
use Rattle.reduction.specs.Table.{terms_of, table_of, SoundTable}
use Rattle.reduction.proofs.Mapping.{map_at, element}
use Rattle.reduction.proofs.Terms.{falling_tail}

pub row_at : (rows : List Row) (k : ℕ) → Within k (length rows) → (r : Row) → r ≡ get_or rows (k - 1) r → row (table_of rows) k ≡ terms_of r
row_at rows k w r e = map_at terms_of rows (k - 1) r [] (omega (arith, w)) e

pub good_at : (S : Setting) (rows : List Row) → SoundTable S rows → (k : ℕ) → Within k (length rows) → Good S (row (table_of rows) k)
good_at S rows I k w =
    let h : k - 1 < length rows = omega (arith, w) in
    let x = element rows (k - 1) h in
    subst (Good S) (sym (row_at rows k w x.0 x.1)) (I.each (k - 1) x.0 h x.1).good

pub leading_wide : {S : Setting} (f : Poly) → Good S f → Wide (leading f)
leading_wide [] a = refl
leading_wide (t ∷ f) a = (a.acceptable.written.over t (Memᴰ.head refl)).1.wide

pub tail_of : {F : FieldMeaning} {O : Compare} {n : ℕ} (f : Poly) → Acceptable F O n f → Acceptable F O n (drop 1 f) × (length (drop 1 f) ≤ 39)
tail_of [] a = (a, omega arith)
tail_of (t ∷ f) a = (
  record {
    written = record {
      over = λ s m. a.written.over s (Memᴰ.tail m);
      nonzero = λ s m. a.written.nonzero s (Memᴰ.tail m);
      falling = falling_tail f a.written.falling;
    };
    fits = λ s m. a.fits s (Memᴰ.tail m);
    short = (let l = a.short in omega arith);
  },
  (let l = a.short in omega arith),
)
