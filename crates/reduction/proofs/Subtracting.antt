-- From what the code adds up to the difference.
use Rattle.std.proofs.Common.{◌≡◌, ℕ, ◌<◌, true, List, map, ◌∙◌, subst}
use Rattle.field.specs.Field.{FieldMeaning, FieldLaws}
use Rattle.monomial.specs.Monomial.{In}
use Rattle.monomial.specs.Order.{Compare, OrderLaws}
use Rattle.polynomial.specs.Polynomial.{Poly, Written}
use Rattle.involutive.specs.Value.{scaled, negated}
use Rattle.involutive.proofs.Typing.{Ground}
use Rattle.reduction.specs.Merging.{Sums, image, all_small, code_negative}
use Rattle.reduction.specs.Subtraction.{Differs}
use Rattle.reduction.proofs.Adding
use Rattle.reduction.proofs.Codes.{negative_is}
use Rattle.reduction.proofs.Multiples.{negative_images, written_multiple}

module _ (F : FieldMeaning) (L : FieldLaws F) (O : Compare) (Q : OrderLaws O) (n : ℕ) where
  abbrev pub ground : Ground
  ground = record { field = F; laws = L; order = O; order_laws = Q; variables = n }

  module _ (h row : Poly) (c : ℕ) (a : List ℕ) (v : Written F O n h) (w : Written F O n row) (pos : 0 < c) (below : c < F.q) (within : In n a) where
    pub differs : (k : ℕ) {g : Poly} → k ≡ code_negative F c → all_small a row ≡ true → Sums F O h (map (image F k a) row) g → Differs F O n h (scaled F c a row) g
    differs k {g} d e r =
        let m = written_multiple ground c a pos below within row w in
        let i = negative_images F L n c a row below w.over e in
        let s : Sums F O h (negated F (scaled F c a row)) g = subst (λ x. Sums F O h x g) i (subst (λ x. Sums F O h (map (image F x a) row) g) (d ∙ negative_is F L c below) r) in
        record {
          written = Adding.written F L O Q n s v m;
          value = Adding.value F L O Q n s v.over m.over;
        }
