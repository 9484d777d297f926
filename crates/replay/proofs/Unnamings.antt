-- What a choice does not name is what the making refuses.
use Rattle.std.proofs.Common.{◌≡◌, ℕ, Bool, true, false, cond, Some, None, Ok, Err, Option, Result, ap, arith}
use Rattle.field.specs.Field.{FieldMeaning}
use Rattle.monomial.specs.Order.{Compare, order_of}
use Rattle.monomial.specs.Division.{Split, division_of}
use Rattle.choice.specs.declared.unnamed.Unnamed.{Unnamed}
use Rattle.choice.specs.declared.unnamed.Unnamed.TheVariants.{Field, Variables, Order, Division}
use Rattle.choice.specs.Choice.{Chosen, has_variables}
use Rattle.replay.specs.Grammar.{no_sheet_number}
use Rattle.replay.specs.Replay.{refused, with_division, with_order, with_field}

module _ {Done : Type 0} (gives : FieldMeaning → Compare → Split → ℕ → Done → Type 0) (n : ℕ) where
  number_of : (u v : Unnamed) → ◌≡◌ {A = Result Done Unnamed} (Err u) (Err v) → refused (no_sheet_number v) ≡ refused (no_sheet_number u)
  number_of u v e = let same : v ≡ u = cc in ap (λ w. refused (no_sheet_number w)) same

  err_no_ok : (u : Unnamed) (done : Done) → ◌≡◌ {A = Result Done Unnamed} (Err u) (Ok done) → ⊥
  err_no_ok u done e = let z : ◌≡◌ {A = ℕ} 0 1 = cc in omega (arith, z)

  no_division : (F : FieldMeaning) (O : Compare) (D : Option Split) (u : Unnamed) → Chosen gives n (Some F) true (Some O) D (Err u) → with_division F n O D ≡ refused (no_sheet_number u)
  no_division F O None u e = number_of u Division e
  no_division F O (Some D) u e = absurd (err_no_ok u e.0 e.1)

  no_order : (F : FieldMeaning) (O : Option Compare) (d : ℕ) (u : Unnamed) → Chosen gives n (Some F) true O (division_of d) (Err u) → with_order F n O d ≡ refused (no_sheet_number u)
  no_order F None d u e = number_of u Order e
  no_order F (Some O) d u e = no_division F O (division_of d) u e

  no_variables : (F : FieldMeaning) (b : Bool) (o d : ℕ) (u : Unnamed) → Chosen gives n (Some F) b (order_of o) (division_of d) (Err u) → cond b (with_order F n (order_of o) d) (refused 2) ≡ refused (no_sheet_number u)
  no_variables F false o d u e = number_of u Variables e
  no_variables F true o d u e = no_order F (order_of o) d u e

  pub not_named : (F : Option FieldMeaning) (o d : ℕ) (u : Unnamed) → Chosen gives n F (has_variables n) (order_of o) (division_of d) (Err u) → with_field F n o d ≡ refused (no_sheet_number u)
  not_named None o d u e = number_of u Field e
  not_named (Some F) o d u e = no_variables F (has_variables n) o d u e
