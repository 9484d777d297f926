-- Rows put one after another into a rising list.
use Rattle.std.proofs.Common.{◌≡◌, ℕ, ◌+◌, ◌-◌, ◌<◌, ◌≤◌, Bool, true, false, cond, ◌⊎◌, List, [], ◌∷◌, map, length, get_or, Decides, MatchBool, Ordering, Less, Equal, Greater, sym, refl, ap, ◌∙◌, subst, ap₂, subst₂, inl, inr, ⊎_elim, arith}
use mathlib.Core.List.Memᴰ
use mathlib.Core.List.{Memᴰ}
use lib.ListN.{length-map}
use Rattle.std.specs.List.{insert, enumerate_from, AllWithin, HoldsAt}
use Rattle.std.proofs.lemmas.List.FromFn.{length-enumerate_from, get_or-enumerate_from}
use Rattle.std.specs.Ordering.{is_lt, ordering_reverse}
use Rattle.std.proofs.lemmas.List.{get_or-map}
use Rattle.std.proofs.lemmas.Bool.{cases_eq, cond-true, both_ways}
use Rattle.monomial.specs.Monomial.{Divides}
use Rattle.monomial.specs.Order.{Compare, OrderLaws, Under}
use Rattle.monomial.specs.Division.{Within, Distinct, member}
use Rattle.polynomial.specs.Polynomial.{leading}
use Rattle.involutive.specs.Reduction.{row}
use Rattle.involutive.specs.Sheet.{Setting, State}
use Rattle.involutive.specs.Answers.{Minimal, Rising, rising_none, rising_one, rising_more, Selection}
use Rattle.reduction.specs.declared.table.Row.{Row}
use Rattle.reduction.specs.Table.{terms_of, SoundTable}
use Rattle.sheet.specs.Marks.{state_of}
use Rattle.sheet.specs.Rows.{lead_of}
use Rattle.sheet.specs.Selecting.{Undivided, placed, Picks, Ascending, ascending_none, ascending_more}
use Rattle.reduction.proofs.Mapping.{map_at, element}
use Rattle.sheet.proofs.Standing.{leads_are}

pub lead_at : (rows : List Row) (k : ℕ) (d : Row) → Within k (length rows) → member (map lead_of rows) k ≡ lead_of (get_or rows (k - 1) d)
lead_at rows k d w = get_or-map lead_of rows (k - 1) d [] (omega (arith, w))

-- row i, counted from 0
pub lead_from : (rows : List Row) (i : ℕ) (r : Row) → i < length rows → r ≡ get_or rows i r → member (map lead_of rows) (i + 1) ≡ lead_of r
lead_from rows i r h e = lead_at rows (i + 1) r (omega arith, omega arith) ∙ ap (λ j. lead_of (get_or rows j r)) (let z : i + 1 - 1 ≡ i = omega arith in z) ∙ ap lead_of (sym e)

-- ---- whether a member is divided

-- row k of the table, counted from 1, or one whose leading monomial does not divide this one
abbrev pub Passes : ℕ → List ℕ → ℕ × Row → Type 0
Passes k own p = (p.0 ≡ k - 1) ⊎ (Divides (lead_of p.1) own → ⊥)

-- another row, whose leading monomial divides this one
abbrev pub Fails : ℕ → List ℕ → ℕ × Row → Type 0
Fails k own p = (p.0 ≡ k - 1 → ⊥) × Divides (lead_of p.1) own

-- row i beside its number, both counted from 0
record Place (rows : List Row) (i : ℕ) : Type 0 where
  it : Row
  leads : member (map lead_of rows) (i + 1) ≡ lead_of it
  stands : get_or (enumerate_from 0 rows) i (0, it) ≡ (i, it)

place : (rows : List Row) (i : ℕ) → i < length rows → Place rows i
place rows i h =
    let x = element rows i h in
    let z : 0 + i ≡ i = omega arith in
    record { it = x.0; leads = lead_from rows i x.0 h x.1; stands = get_or-enumerate_from 0 rows i (0, x.0) h ∙ ap₂ (λ a b. (a, b)) z (sym x.1) }

module _ (rows : List Row) (k : ℕ) (w : Within k (length rows)) (r : Row) (e : r ≡ get_or rows (k - 1) r) where
  own_is : member (map lead_of rows) k ≡ lead_of r
  own_is = lead_at rows k r w ∙ ap lead_of (sym e)

  -- from what `all` says of the rows and their numbers
  pub minimal_from_all : (b : Bool) → MatchBool b (AllWithin (Passes k (lead_of r)) (enumerate_from 0 rows) 0 (length (enumerate_from 0 rows))) ((i : ℕ) × (i < length (enumerate_from 0 rows)) × HoldsAt (Fails k (lead_of r)) (enumerate_from 0 rows) i) → Decides b (Undivided (map lead_of rows) k)
  minimal_from_all true f = (
    λ _ j v d.
        let h : j - 1 < length rows = omega (arith, v, length-map rows lead_of) in
        let z : j - 1 + 1 ≡ j = omega (arith, v) in
        let p = place rows (j - 1) h in
        let q : Passes k (lead_of r) (j - 1, p.it) = subst (Passes k (lead_of r)) p.stands (f (j - 1) (0, p.it) (omega arith) (omega (arith, h, length-enumerate_from 0 rows))) in
        ⊎_elim (λ s. omega (arith, s, v, w)) (λ n. absurd (n (subst₂ Divides (ap (member (map lead_of rows)) (sym z) ∙ p.leads) own_is d))) q,
    λ _. refl,
  )
  minimal_from_all false (i, h, f) = (
    λ t. absurd (both_ways false refl t),
    λ u.
        let l : i < length rows = omega (arith, h, length-enumerate_from 0 rows) in
        let p = place rows i l in
        let q : Fails k (lead_of r) (i, p.it) = subst (Fails k (lead_of r)) p.stands (f (0, p.it)) in
        let s : i + 1 ≡ k = u (i + 1) (omega arith, omega (arith, l, length-map rows lead_of)) (subst₂ Divides (sym p.leads) (sym own_is) q.1) in
        absurd (q.0 (omega (arith, s))),
  )

module _ (O : Compare) (U : List (List ℕ)) (k : ℕ) where
  -- ---- what is in the list then

  pub from_placed : (ks : List ℕ) (j : ℕ) → Memᴰ j (placed O U k ks) → (j ≡ k) ⊎ Memᴰ j ks
  from_placed [] j m = Memᴰ.cases_cons m
  from_placed (x ∷ ks) j m = go (λ p. from_placed ks j p) (is_lt (O (member U x) (member U k))) m
    where
      go : (Memᴰ j (placed O U k ks) → (j ≡ k) ⊎ Memᴰ j ks) → (b : Bool) → Memᴰ j (cond b (x ∷ placed O U k ks) (k ∷ x ∷ ks)) → (j ≡ k) ⊎ Memᴰ j (x ∷ ks)
      go f true n = ⊎_elim (λ e. inr (Memᴰ.head e)) (λ p. ⊎_elim (λ e. inl e) (λ q. inr (Memᴰ.tail q)) (f p)) (Memᴰ.cases_cons n)
      go f false n = Memᴰ.cases_cons n

  pub to_placed : (ks : List ℕ) (j : ℕ) → (j ≡ k) ⊎ Memᴰ j ks → Memᴰ j (placed O U k ks)
  to_placed [] j o = ⊎_elim (λ e. Memᴰ.head e) (λ p. Memᴰ.tail p) o
  to_placed (x ∷ ks) j o = go (λ p. to_placed ks j p) (is_lt (O (member U x) (member U k)))
    where
      go : ((j ≡ k) ⊎ Memᴰ j ks → Memᴰ j (placed O U k ks)) → (b : Bool) → Memᴰ j (cond b (x ∷ placed O U k ks) (k ∷ x ∷ ks))
      go f true = ⊎_elim (λ e. Memᴰ.tail (f (inl e))) (λ p. ⊎_elim (λ e. Memᴰ.head e) (λ q. Memᴰ.tail (f (inr q))) (Memᴰ.cases_cons p)) o
      go f false = ⊎_elim (λ e. Memᴰ.head e) (λ p. Memᴰ.tail p) o

  -- ---- it still rises

  module _ (Q : OrderLaws O) (W : Distinct U) (w : Within k (length U)) where
    -- of two members one stands below the other
    above : (j : ℕ) → Within j (length U) → (j ≡ k → ⊥) → is_lt (O (member U j) (member U k)) ≡ false → Under O (member U k) (member U j)
    above j v n e = go (O (member U j) (member U k)) refl e
      where
        go : (o : Ordering) → O (member U j) (member U k) ≡ o → is_lt o ≡ false → Under O (member U k) (member U j)
        go Less p f = absurd (both_ways true f refl)
        go Equal p f = absurd (n (W.once j k v w ((Q.equal (member U j) (member U k) (W.wide j v) (W.wide k w)).0 p)))
        go Greater p f = Q.total (member U j) (member U k) (W.wide j v) (W.wide k w) ∙ ap ordering_reverse p

    less : (o : Ordering) → is_lt o ≡ true → o ≡ Less
    less Less e = refl
    less Equal e = absurd (both_ways false refl e)
    less Greater e = absurd (both_ways false refl e)

    pub placed_ascends : {ks : List ℕ} → ((j : ℕ) → Memᴰ j ks → Within j (length U) × (j ≡ k → ⊥)) → Ascending O U ks → Ascending O U (placed O U k ks)
    placed_ascends f ascending_none = ascending_more (λ j m. elim m [ ]) ascending_none
    placed_ascends f (ascending_more {k = x} {ks = ks} h a) = go (placed_ascends (λ j m. f j (Memᴰ.tail m)) a) (is_lt (O (member U x) (member U k))) refl
      where
        vx : Within x (length U)
        vx = (f x (Memᴰ.head refl)).0

        go : Ascending O U (placed O U k ks) → (b : Bool) → is_lt (O (member U x) (member U k)) ≡ b → Ascending O U (cond b (x ∷ placed O U k ks) (k ∷ x ∷ ks))
        go r true e = ascending_more (λ j m. ⊎_elim (λ d. subst (λ z. Under O (member U x) (member U z)) (sym d) (less _ e)) (h j) (from_placed ks j m)) r
        go r false e = ascending_more
            (λ j m. ⊎_elim
            (λ d. subst (λ z. Under O (member U k) (member U z)) (sym d) (above x vx (f x (Memᴰ.head refl)).1 e))
            (λ p. Q.transitive (member U k) (member U x) (member U j) (W.wide k w) (W.wide x vx) (W.wide j (f j (Memᴰ.tail p)).0) (above x vx (f x (Memᴰ.head refl)).1 e) (h j p))
            (Memᴰ.cases_cons m))
            (ascending_more h a)

-- ---- one row more

module _ (O : Compare) (U : List (List ℕ)) (i : ℕ) (ks : List ℕ) (P : Picks U i ks) where
  pub picks_more : Undivided U (i + 1) → Picks U (i + 1) (placed O U (i + 1) ks)
  picks_more u k = (
    λ m. ⊎_elim (λ e. ((omega arith, omega arith), subst (Undivided U) (sym e) u)) (λ p. let q = (P k).0 p in ((q.0.0, (let z = q.0 in omega arith)), q.1)) (from_placed O U (i + 1) ks k m),
    λ p. to_placed O U (i + 1) ks k (⊎_elim (λ e. inl e) (λ n. inr ((P k).1 ((p.0.0, (let z = p.0 in omega arith)), p.1))) (cases_eq k (i + 1))),
  )

  pub picks_same : (Undivided U (i + 1) → ⊥) → Picks U (i + 1) ks
  picks_same u k = (
    λ m. let q = (P k).0 m in ((q.0.0, (let z = q.0 in omega arith)), q.1),
    λ p. ⊎_elim (λ e. absurd (u (subst (Undivided U) e p.1))) (λ n. (P k).1 ((p.0.0, (let z = p.0 in omega arith)), p.1)) (cases_eq k (i + 1)),
  )

  pub ascends_more : OrderLaws O → i < length U → Distinct U → Ascending O U ks → Ascending O U (placed O U (i + 1) ks)
  ascends_more Q h W a = placed_ascends O U (i + 1) Q W (omega arith, omega arith) (λ j m. let q = ((P j).0 m).0 in ((q.0, omega arith), λ e. omega arith)) a

-- the list so far
abbrev pub SoFar : Compare → List (List ℕ) → ℕ → List ℕ → Type 0
SoFar O U i ks = Picks U i ks × (Distinct U → Ascending O U ks)

pub so_far_none : (O : Compare) (U : List (List ℕ)) (ks : List ℕ) → ks ≡ [] → SoFar O U 0 ks
so_far_none O U ks e = subst (SoFar O U 0) (sym e) (λ k. (λ m. elim m [ ], λ p. absurd (let z = p.0 in omega arith)), λ W. ascending_none)

module _ (O : Compare) (Q : OrderLaws O) (U : List (List ℕ)) (i : ℕ) (old new : List ℕ) (I : SoFar O U i old) (h : i < length U) where
  pub so_far_more : (at : ℕ) (b : Bool) → Undivided U (i + 1) → insert old at (i + 1) ≡ placed O U (i + 1) old → b ≡ true → new ≡ cond b (insert old at (i + 1)) old → SoFar O U (i + 1) new
  so_far_more at b u p t e =
      let d : new ≡ placed O U (i + 1) old = e ∙ cond-true b _ _ t ∙ p in
      subst (SoFar O U (i + 1)) (sym d) (picks_more O U i old I.0 u, λ W. ascends_more O U i old I.0 Q h W (I.1 W))

  pub so_far_same : (Undivided U (i + 1) → ⊥) → new ≡ old → SoFar O U (i + 1) new
  so_far_same u e = subst (SoFar O U (i + 1)) (sym e) (picks_same O U i old I.0 u, I.1)

-- ---- in a sound table these are the rows to copy

module _ (S : Setting) (rows : List Row) (xs : List (List Bool)) (I : SoundTable S rows) where
  abbrev U : List (List ℕ)
  U = map lead_of rows

  abbrev s : State
  s = state_of rows xs

  lead_is : (k : ℕ) → Within k (length rows) → member U k ≡ leading (row s.rows k)
  lead_is k w =
      let h : k - 1 < length rows = omega (arith, w) in
      let x = element rows (k - 1) h in
      map_at lead_of rows (k - 1) x.0 [] h x.1 ∙ (I.each (k - 1) x.0 h x.1).lead ∙ ap leading (sym (map_at terms_of rows (k - 1) x.0 [] h x.1))

  -- the rows, their leading monomials and their polynomials are as many
  inside : (k : ℕ) → Within k (length U) → Within k (length rows)
  inside k w = (w.0, subst (λ n. k ≤ n) (length-map rows lead_of) w.1)

  outside : (k : ℕ) → Within k (length rows) → Within k (length U)
  outside k w = (w.0, subst (λ n. k ≤ n) (sym (length-map rows lead_of)) w.1)

  in_rows : (k : ℕ) → Within k (length s.rows) → Within k (length rows)
  in_rows k w = (w.0, subst (λ n. k ≤ n) (length-map rows terms_of) w.1)

  in_table : (k : ℕ) → Within k (length rows) → Within k (length s.rows)
  in_table k w = (w.0, subst (λ n. k ≤ n) (sym (length-map rows terms_of)) w.1)

  distinct : Distinct U
  distinct = subst Distinct (sym (leads_are rows (λ i r h e. (I.each i r h e).lead))) I.distinct

  minimal : (k : ℕ) → Within k (length rows) × Undivided U k → Minimal S s k
  minimal k (w, u) = record {
    within = in_table k w;
    undivided = λ j v d. u j (outside j (in_rows j v)) (subst₂ Divides (sym (lead_is j (in_rows j v))) (sym (lead_is k w)) d);
  }

  undivided : (k : ℕ) → Minimal S s k → Within k (length rows) × Undivided U k
  undivided k m =
      let w = in_rows k m.within in
      (w, λ j v d. m.undivided j (in_table j (inside j v)) (subst₂ Divides (lead_is j (inside j v)) (lead_is k w) d))

  rises : {ks : List ℕ} → ((k : ℕ) → Memᴰ k ks → Within k (length rows)) → Ascending S.order U ks → Rising S s ks
  rises f ascending_none = rising_none
  rises f (ascending_more h ascending_none) = rising_one
  rises f (ascending_more {k = j} h (ascending_more {k = k} m a)) = rising_more
      (subst₂ (Under S.order) (lead_is j (f j (Memᴰ.head refl))) (lead_is k (f k (Memᴰ.tail (Memᴰ.head refl)))) (h k (Memᴰ.head refl)))
      (rises (λ i n. f i (Memᴰ.tail n)) (ascending_more m a))

  pub selected : (ks : List ℕ) → Picks U (length rows) ks → (Distinct U → Ascending S.order U ks) → Selection S s ks
  selected ks P a = record {
    rising = rises (λ k m. ((P k).0 m).0) (a distinct);
    minimal = λ k. (λ m. minimal k ((P k).0 m), λ m. (P k).1 (undivided k m));
  }
