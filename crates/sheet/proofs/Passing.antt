-- A mark closes its pair and opens none: so where all pairs before a place of the queue were passed, marking the pair there
-- passes one more.
use Rattle.std.proofs.Common.{below_more, ◌≡◌, ℕ, ◌+◌, ◌-◌, ◌<◌, Bool, true, false, not, ◌&&◌, ◌||◌, eqb, List, length, get_or, Ok, refl, ap, ap₂, ◌∙◌, subst}
use Rattle.std.proofs.lemmas.List.{get_or_read}
use Rattle.std.proofs.lemmas.Bool.{eq-eqb}
use Rattle.reduction.specs.declared.table.Row.{Row}
use Rattle.sheet.specs.declared.queue.Pick.{Pick}
use Rattle.sheet.specs.declared.settle.Settled.TheVariants.{Nothing}
use Rattle.sheet.specs.declared.settle.Settled.{Settled}
use Rattle.sheet.specs.Marks.{marked}
use Rattle.sheet.specs.Queueing.{no_pick, lead_at, pick_at, opens, Passed}
use Rattle.sheet.specs.Settling.{UnlessAppended}

-- where nothing was left, no row was appended
pub unappended : {P : Type 0} (x : Settled) → x ≡ Nothing → UnlessAppended (Ok x) P → P
unappended {P = P} x e h = subst (λ y. UnlessAppended (Ok y) P) e h

stays_shut : (a b m : Bool) → (not a && not m) ≡ false → (not a && not (b || m)) ≡ false
stays_shut true b m e = refl
stays_shut false true m e = refl
stays_shut false false m e = e

shut : (a m : Bool) → (not a && not (true || m)) ≡ false
shut true m = refl
shut false m = refl

module _ (rows : List Row) (xs ys : List (List Bool)) (picks : List Pick) (i : ℕ) (p : Pick) where
  -- the variable is multiplicative for the row
  abbrev a : Pick → Bool
  a q = get_or (lead_at rows q.row).multiplicative (q.variable - 1) false

  pub passed_more : Passed rows xs picks i → i < length picks → p ≡ get_or picks i p → ((j u : ℕ) → marked ys j u ≡ ((eqb j p.row && eqb u p.variable) || marked xs j u)) → Passed rows ys picks (i + 1)
  passed_more P h e m = below_more (λ j. opens rows ys (pick_at picks j) ≡ false) i before here
    where
      before : (j : ℕ) → j < i → opens rows ys (pick_at picks j) ≡ false
      before j l =
          let q = pick_at picks j in
          ap (λ t. not (a q) && not t) (m q.row q.variable) ∙ stays_shut (a q) (eqb q.row p.row && eqb q.variable p.variable) (marked xs q.row q.variable) (P j l)

      here : opens rows ys (pick_at picks i) ≡ false
      here =
          let t = ap₂ (λ x y. (x && y) || marked xs p.row p.variable) (eq-eqb p.row p.row refl) (eq-eqb p.variable p.variable refl) in
          subst (λ q. opens rows ys q ≡ false) (get_or_read picks i p h e no_pick) (ap (λ x. not (a p) && not x) (m p.row p.variable ∙ t) ∙ shut (a p) (marked xs p.row p.variable))
