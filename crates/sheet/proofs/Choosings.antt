-- On a sound table the first open pair of the queue is the pair that a step takes, and where none is open the sheet is closed.
use Rattle.std.proofs.Common.{◌≡◌, ℕ, zero, suc, ◌+◌, ◌-◌, ◌<◌, ◌≤◌, min, Bool, true, false, not, ◌&&◌, ◌⊎◌, eqb, List, [], ◌∷◌, map, length, get_or, set, replicate, Some, Ordering, Less, Equal, Greater, sym, refl, ap, ◌∙◌, subst, ap₂, inl, inr, ⊎_elim, arith, length-set}
use mathlib.Core.List.Memᴰ
use lib.ListN.{length-map}
use Rattle.std.proofs.lemmas.List.{get_or-replicate}
use Rattle.std.proofs.lemmas.Bool.{cases_Bool, cases_eq, cases_lt, and_parts, or_cases, both_ways, eqb-true, leb-true}
use Rattle.monomial.specs.Monomial.{Wide, width, one, variable, times}
use Rattle.monomial.specs.Order.{OrderLaws, Under}
use Rattle.monomial.specs.Division.{Within, member}
use Rattle.polynomial.specs.Polynomial.{Poly, exponents, leading}
use Rattle.polynomial.specs.Check.{largest_exponent}
use Rattle.involutive.specs.Reduction.{row, leaders}
use Rattle.involutive.specs.Sheet.{Setting, State, Pair, Closed, Chosen, height}
use Rattle.involutive.specs.Sound.{Row as Good}
use Rattle.reduction.specs.declared.table.Row.{Row}
use Rattle.reduction.specs.Table.{terms_of, table_of, SoundRow, SoundTable}
use Rattle.sheet.specs.declared.queue.Pick.{Pick}
use Rattle.sheet.specs.Marks.{marked, state_of}
use Rattle.sheet.specs.Queueing.{capped_raise, no_lead, lead_at, pick_at, is_open, opens, Passed, Waits, in_turn, has, Queued}
use Rattle.sheet.specs.Rows.{lead_of}
use Rattle.reduction.proofs.Lines.{leading_wide}
use Rattle.reduction.proofs.Mapping.{map_at, element}

some_same : {a b : Bool} → Some a ≡ Some b → a ≡ b
some_same {a} {b} e = cc

not_true : (a : Bool) → not a ≡ true → a ≡ false
not_true true e = absurd (both_ways false refl e)
not_true false e = refl

both_not : (a b : Bool) → a ≡ false → b ≡ false → (not a && not b) ≡ true
both_not a b p q = ap₂ (λ x y. not x && not y) p q

-- ---- a monomial times a variable

times_zeros : (n : ℕ) (m : List ℕ) → length m ≡ n → times (replicate n 0) m ≡ m
times_zeros zero [] e = refl
times_zeros zero (x ∷ m) e = absurd (omega (arith, e))
times_zeros (suc n) [] e = absurd (omega (arith, e))
times_zeros (suc n) (x ∷ m) e = let c : 0 + x ≡ x = omega arith in ap₂ (λ y z. y ∷ z) c (times_zeros n m (omega (arith, e)))

times_one : (n i : ℕ) (m : List ℕ) → length m ≡ n → i < n → times (set (replicate n 0) i 1) m ≡ set m i (get_or m i 0 + 1)
times_one zero i m e h = absurd (omega (arith, h))
times_one (suc n) i [] e h = absurd (omega (arith, e))
times_one (suc n) zero (x ∷ m) e h = let c : 1 + x ≡ x + 1 = omega arith in ap₂ (λ y z. y ∷ z) c (times_zeros n m (omega (arith, e)))
times_one (suc n) (suc i) (x ∷ m) e h = let c : 0 + x ≡ x = omega arith in ap₂ (λ y z. y ∷ z) c (times_one n i m (omega (arith, e)) (omega (arith, h)))

raise_times : (m : List ℕ) (v : ℕ) → Wide m → Within v width → get_or m (v - 1) 0 ≤ largest_exponent → capped_raise m v ≡ times (variable v) m
raise_times m v w b s =
    let c : min (get_or m (v - 1) 0 + 1) 255 ≡ get_or m (v - 1) 0 + 1 = omega (arith, s) in
    ap (set m (v - 1)) c ∙ sym (times_one width (v - 1) m w (omega (arith, b)))

-- ---- the leading monomial of a row

leading_small : {S : Setting} (f : Poly) (i : ℕ) → i < width → Good S f → get_or (leading f) i 0 ≤ largest_exponent
leading_small [] i h a = let z : get_or one i 0 ≡ 0 = get_or-replicate width i 0 0 h in omega (arith, z)
leading_small (t ∷ f) i h a = let z : suc i - 1 ≡ i = omega arith in subst (λ j. get_or (exponents t) j 0 ≤ largest_exponent) z (a.acceptable.fits t (Memᴰ.head refl) (suc i))

-- ---- places in the queue

-- where a pair stands
record Place (picks : List Pick) (k v : ℕ) : Type 0 where
  index : ℕ
  inside : index < length picks
  row_is : (pick_at picks index).row ≡ k
  variable_is : (pick_at picks index).variable ≡ v

place : (picks : List Pick) (k v : ℕ) → has picks k v ≡ true → Place picks k v
place [] k v e = absurd (both_ways false refl e)
place (p ∷ picks) k v e = ⊎_elim
    (λ a. let b = and_parts (eqb p.row k) (eqb p.variable v) a in record { index = 0; inside = omega arith; row_is = eqb-true p.row k b.0; variable_is = eqb-true p.variable v b.1 })
    (λ a. let x = place picks k v a in let l = x.inside in record { index = suc x.index; inside = omega (arith, l); row_is = x.row_is; variable_is = x.variable_is })
    (or_cases (eqb p.row k && eqb p.variable v) (has picks k v) e)

turn_cases : (o : Ordering) (j k : ℕ) → in_turn o j k ≡ true → (o ≡ Less) ⊎ ((o ≡ Equal) × (j ≤ k))
turn_cases Less j k e = inl refl
turn_cases Equal j k e = inr (refl, leb-true j k e)
turn_cases Greater j k e = absurd (both_ways false refl e)

-- ---- the queue of a sound table

module _ (S : Setting) (Q : OrderLaws S.order) (few : S.variables ≤ width) (rows : List Row) (xs : List (List Bool)) (I : SoundTable S rows) (picks : List Pick) (K : Queued S.order S.variables (map lead_of rows) picks) where
  abbrev s : State
  s = state_of rows xs

  abbrev N : ℕ
  N = length rows

  -- row j of the sheet
  record At (j : ℕ) : Type 0 where
    it : Row
    is_lead : lead_at rows j ≡ it.lead
    is_member : member (map lead_of rows) j ≡ lead_of it
    is_row : row (table_of rows) j ≡ terms_of it
    sound : SoundRow S (table_of rows) (j - 1) it

  at : (j : ℕ) → Within j N → At j
  at j w =
      let h : j - 1 < N = omega (arith, w) in
      let x = element rows (j - 1) h in
      record { it = x.0; is_lead = map_at (λ r. r.lead) rows (j - 1) x.0 no_lead h x.1; is_member = map_at lead_of rows (j - 1) x.0 [] h x.1; is_row = map_at terms_of rows (j - 1) x.0 [] h x.1; sound = I.each (j - 1) x.0 h x.1 }

  good : (j : ℕ) → Within j N → Good S (row (table_of rows) j)
  good j w = let a = at j w in subst (Good S) (sym a.is_row) a.sound.good

  height_is : (j u : ℕ) → Within j N → Within u S.variables → capped_raise (member (map lead_of rows) j) u ≡ height s j u
  height_is j u w v =
      let a = at j w in
      let m = leading (row (table_of rows) j) in
      ap (λ x. capped_raise x u) (a.is_member ∙ a.sound.lead ∙ ap leading (sym a.is_row)) ∙ raise_times m u (leading_wide (row (table_of rows) j) (good j w)) (v.0, omega (arith, v, few)) (leading_small (row (table_of rows) j) (u - 1) (omega (arith, v, few)) (good j w))

  flag : (j u : ℕ) → Within j N → Within u S.variables → S.division (leaders (table_of rows)) j u ≡ Some (get_or (lead_at rows j).multiplicative (u - 1) false)
  flag j u w v =
      let a = at j w in
      let z : suc (j - 1) ≡ j = omega (arith, w) in
      ap (λ x. S.division (leaders (table_of rows)) x u) (sym z) ∙ a.sound.flags u (v.0, omega (arith, v, few)) ∙ ap (λ l. Some (get_or l.multiplicative (u - 1) false)) (sym a.is_lead)

  rows_there : length (table_of rows) ≡ N
  rows_there = length-map rows terms_of

  leads_there : length (map lead_of rows) ≡ N
  leads_there = length-map rows lead_of

  in_rows : (j : ℕ) → Within j (length (table_of rows)) → Within j N
  in_rows j w = (w.0, subst (λ x. j ≤ x) rows_there w.1)

  -- ---- a place of the queue

  row_at : (i : ℕ) → i < length picks → Within (pick_at picks i).row N
  row_at i h = let w = K.rows i h in (w.0, subst (λ x. (pick_at picks i).row ≤ x) leads_there w.1)

  height_at : (i : ℕ) → i < length picks → (pick_at picks i).height.exponents ≡ height s (pick_at picks i).row (pick_at picks i).variable
  height_at i h = K.heights i h ∙ height_is (pick_at picks i).row (pick_at picks i).variable (row_at i h) (K.variables i h)

  wide_at : (i : ℕ) → i < length picks → Wide (pick_at picks i).height.exponents
  wide_at i h =
      let p = pick_at picks i in
      ap length (K.heights i h) ∙ length-set (member (map lead_of rows) p.row) (p.variable - 1) _ ∙ K.wide p.row (K.rows i h)

  -- an open pair of the sheet, and where it stands in the queue
  record Stands (j u : ℕ) : Type 0 where
    place : Place picks j u
    is_open : opens rows xs (pick_at picks place.index) ≡ true

  stands : (j u : ℕ) → Pair S s j u → s.marks j u ≡ false → Stands j u
  stands j u p m =
      let w = in_rows j p.at_row in
      let x = place picks j u (K.all j u p.at_variable (inl (w.0, subst (λ z. j ≤ z) (sym leads_there) w.1))) in
      let f : get_or (lead_at rows j).multiplicative (u - 1) false ≡ false = some_same (sym (flag j u w p.at_variable) ∙ p.not_multiplicative) in
      record { place = x; is_open = ap₂ (λ a b. is_open (lead_at rows a) xs a b) x.row_is x.variable_is ∙ both_not (get_or (lead_at rows j).multiplicative (u - 1) false) (marked xs j u) f m }

  pub passed_closed : Passed rows xs picks (length picks) → Closed S s
  passed_closed P k v p = ⊎_elim (λ t. t) (λ f. let x = stands k v p f in absurd (both_ways (opens rows xs (pick_at picks x.place.index)) (P x.place.index x.place.inside) x.is_open)) (cases_Bool (marked xs k v))

  -- the pair at a place that waits
  record Open (i : ℕ) : Type 0 where
    pair : Pair S s (pick_at picks i).row (pick_at picks i).variable
    unmarked : marked xs (pick_at picks i).row (pick_at picks i).variable ≡ false

  open_at : (i : ℕ) → Waits rows xs picks i → Open i
  open_at i W =
      let p = pick_at picks i in
      let w = row_at i W.0 in
      let v = K.variables i W.0 in
      let o = and_parts (not (get_or (lead_at rows p.row).multiplicative (p.variable - 1) false)) (not (marked xs p.row p.variable)) W.1 in
      record {
        pair = record { at_row = (w.0, subst (λ z. p.row ≤ z) (sym rows_there) w.1); at_variable = v; not_multiplicative = flag p.row p.variable w v ∙ ap Some (not_true _ o.0) };
        unmarked = not_true _ o.1;
      }

  pub waits_open : (i : ℕ) → Waits rows xs picks i → Closed S s → ⊥
  waits_open i W c = let o = open_at i W in both_ways (marked xs (pick_at picks i).row (pick_at picks i).variable) o.unmarked (c (pick_at picks i).row (pick_at picks i).variable o.pair)

  abbrev NotAbove : ℕ → ℕ → ℕ → Type 0
  NotAbove i j u = Under S.order (height s (pick_at picks i).row (pick_at picks i).variable) (height s j u) ⊎ ((height s (pick_at picks i).row (pick_at picks i).variable ≡ height s j u) × ((pick_at picks i).row ≤ j))

  -- a place is not above any later one
  before : (i k : ℕ) → i < k → k < length picks → NotAbove i (pick_at picks k).row (pick_at picks k).variable
  before i k h l =
      let b : i < length picks = omega (arith, h, l) in
      let p = pick_at picks i in
      let q = pick_at picks k in
      ⊎_elim
      (λ e. inl (sym (ap₂ S.order (height_at i b) (height_at k l)) ∙ e))
      (λ e. inr (sym (height_at i b) ∙ (Q.equal p.height.exponents q.height.exponents (wide_at i b) (wide_at k l)).0 e.0 ∙ height_at k l, e.1))
      (turn_cases (S.order p.height.exponents q.height.exponents) p.row q.row (K.rises i k h l))

  smallest_at : (i : ℕ) → Passed rows xs picks i → i < length picks → (j u : ℕ) → Pair S s j u → s.marks j u ≡ false → NotAbove i j u
  smallest_at i P h j u q m =
      let x = stands j u q m in
      let k = x.place.index in
      let r = x.place.row_is in
      let d = x.place.variable_is in
      let same : k ≡ i → NotAbove i j u = λ e.
      let a : (pick_at picks i).row ≡ j = ap (λ z. (pick_at picks z).row) (sym e) ∙ r in
      let b : (pick_at picks i).variable ≡ u = ap (λ z. (pick_at picks z).variable) (sym e) ∙ d in
      inr (ap₂ (height s) a b, omega (arith, a)) in
      ⊎_elim
      (λ l. absurd (both_ways (opens rows xs (pick_at picks k)) (P k l) x.is_open))
      (λ g. ⊎_elim same (λ n. subst (λ z. NotAbove i z u) r (subst (NotAbove i (pick_at picks k).row) d (before i k (omega (arith, g, n)) x.place.inside))) (cases_eq k i))
      (cases_lt k i)

  pub waits_chosen : (i : ℕ) → Passed rows xs picks i → Waits rows xs picks i → Chosen S s (pick_at picks i).row (pick_at picks i).variable
  waits_chosen i P W = let o = open_at i W in record { pair = o.pair; unmarked = o.unmarked; smallest = smallest_at i P W.0 }
