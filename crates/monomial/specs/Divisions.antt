-- The laws of Janet's and Thomas's divisions, proved once for both.
use Rattle.std.specs.Prelude.{◌≡◌, ℕ, zero, suc, ◌+◌, ◌-◌, ◌<◌, ◌≤◌, Bool, true, false, not, ◌&&◌, ◌||◌, ◌⊎◌, List, [], ◌∷◌, length, get_or, take, replicate, Some, None, Option, ◌==◌, ◌≢◌, nat_le, slice_index, slice_index_or, refl}
use Rattle.std.proofs.Common.{sym, ◌∙◌, ap, subst, inl, inr, arith, length-set, get_or-set_same, get_or-set_other}
use Rattle.std.proofs.Math.Decide.{ℕ_discrete, dec_lt}
use Rattle.std.proofs.lemmas.List.{length-map, get_or-map}
use Rattle.std.proofs.lemmas.Bool.{and_parts, and_from, and_cases, or_parts, or_cases, cases_Bool, both_ways, leb-true, leb-false, le-leb, not-true, not-false, eq-eqb}
use Rattle.monomial.specs.declared.Monomial.{Monomial}
use Rattle.monomial.specs.Lists.{exponents_of}
use Rattle.monomial.specs.Monomial.{Wide, width, same, exponent, variable, one, times}
use Rattle.monomial.specs.Division.{Split, member, Within, Distinct, Involutive, Next, Walk, step, walk, DivisionLaws, asked, agrees, largest, janet, thomas}
use Rattle.monomial.specs.Places.{Agree, agree_all, at_times, at_quotient, length_times, low}

-- a variable by itself
zeros : (n i : ℕ) → ◌≡◌ {A = ℕ} (slice_index (replicate n 0) i) 0
zeros zero i = refl
zeros (suc n) zero = refl
zeros (suc n) (suc i) = zeros n i

pub at_variable : (v : ℕ) → Within v width → slice_index (variable v) (v - 1) ≡ 1
at_variable v h = get_or-set_same one (v - 1) 1 0 (omega arith)

pub at_others : (v i : ℕ) → (i ≢ v - 1) → slice_index (variable v) i ≡ 0
at_others v i h = get_or-set_other one (v - 1) i 1 0 h ∙ zeros 6 i

pub wide_variable : (v : ℕ) → Wide (variable v)
wide_variable v = length-set one (v - 1) 1

agree_take : (i : ℕ) (u w : List ℕ) → length u ≡ length w → Agree i u w → take i u ≡ take i w
agree_take zero u w e a = refl
agree_take (suc i) [] [] e a = refl
agree_take (suc i) [] (x ∷ w) e a = absurd (omega arith)
agree_take (suc i) (d ∷ u) [] e a = absurd (omega arith)
agree_take (suc i) (d ∷ u) (x ∷ w) e a =
    let p : d ≡ x = a 0 (omega arith) in
    cc (p, agree_take i u w (omega arith) (λ h l. a (suc h) (omega arith)))

same_refl : (u : List ℕ) → same u u ≡ true
same_refl [] = refl
same_refl (d ∷ u) = and_from (d == d) (same u u) (eq-eqb d d refl) (same_refl u)

-- the largest exponent of a group
largest_gives : (among : List ℕ → Bool) (U : List (List ℕ)) (v : ℕ) (u : List ℕ) → largest among U v u ≡ true →
    (i : ℕ) → i < length U → among (slice_index_or U i []) ≡ true → exponent (slice_index_or U i []) v ≤ exponent u v
largest_gives among [] v u e i h t = absurd (omega arith)
largest_gives among (w ∷ U) v u e zero h t =
    elim (or_cases (not (among w)) (nat_le (exponent w v) (exponent u v)) (and_parts (not (among w) || nat_le (exponent w v) (exponent u v)) (largest among U v u) e).0) [
      | inl n ↦ absurd (both_ways (among w) (not-true (among w) n) t)
      | inr l ↦ leb-true (exponent w v) (exponent u v) l
    ]
largest_gives among (w ∷ U) v u e (suc i) h t =
    largest_gives among U v u (and_parts (not (among w) || nat_le (exponent w v) (exponent u v)) (largest among U v u) e).1 i (omega arith) t

-- a member of the group with a larger exponent
record Larger (among : List ℕ → Bool) (U : List (List ℕ)) (v : ℕ) (u : List ℕ) : Type 0 where
  place : ℕ
  within : place < length U
  grouped : among (slice_index_or U place []) ≡ true
  larger : exponent u v < exponent (slice_index_or U place []) v

largest_fails : (among : List ℕ → Bool) (U : List (List ℕ)) (v : ℕ) (u : List ℕ) → largest among U v u ≡ false → Larger among U v u
largest_fails among [] v u e = absurd (both_ways true e refl)
largest_fails among (w ∷ U) v u e = go (λ f. largest_fails among U v u f) (and_cases (not (among w) || nat_le (exponent w v) (exponent u v)) (largest among U v u) e)
  where
    go : (largest among U v u ≡ false → Larger among U v u) → ((not (among w) || nat_le (exponent w v) (exponent u v)) ≡ false) ⊎ (largest among U v u ≡ false) → Larger among (w ∷ U) v u
    go rec (inl f) =
        let p = or_parts (not (among w)) (nat_le (exponent w v) (exponent u v)) f in
        record { place = 0; within = omega arith; grouped = not-false (among w) p.0; larger = leb-false (exponent w v) (exponent u v) p.1 }
    go rec (inr f) = let r = rec f in record { place = suc r.place; within = omega arith; grouped = r.grouped; larger = r.larger }

-- where a division answers
abbrev test : List (List ℕ) → ℕ → ℕ → Bool
test U k v = nat_le 1 k && nat_le k (length U) && nat_le 1 v && nat_le v width

abbrev tested : Bool → Bool → Option Bool
tested b t = elim t [ true ↦ Some b | false ↦ None ]

asked_is : (U : List (List ℕ)) (k v : ℕ) (b x : Bool) → asked U k v b ≡ Some x → b ≡ x
asked_is U k v b x e = go (test U k v) e
  where
    go : (t : Bool) → tested b t ≡ Some x → b ≡ x
    go true e = cc
    go false e = cc

asked_answers : (U : List (List ℕ)) (k v : ℕ) (b : Bool) → Within k (length U) → Within v width → asked U k v b ≡ Some b
asked_answers U k v b h g = ap (tested b) (and_from (nat_le 1 k && nat_le k (length U) && nat_le 1 v) (nat_le v width)
    (and_from (nat_le 1 k && nat_le k (length U)) (nat_le 1 v) (and_from (nat_le 1 k) (nat_le k (length U)) (le-leb 1 k h.0) (le-leb k (length U) h.1)) (le-leb 1 v g.0)) (le-leb v width g.1))

asked_refuses : (U : List (List ℕ)) (k v : ℕ) (b : Bool) → (Within k (length U) × Within v width → ⊥) → asked U k v b ≡ None
asked_refuses U k v b h = elim (cases_Bool (test U k v)) [ inl t ↦ absurd (h (parts t)) | inr f ↦ ap (tested b) f ]
  where
    parts : test U k v ≡ true → Within k (length U) × Within v width
    parts t =
        let p = and_parts (nat_le 1 k && nat_le k (length U) && nat_le 1 v) (nat_le v width) t in
        let q = and_parts (nat_le 1 k && nat_le k (length U)) (nat_le 1 v) p.0 in
        let r = and_parts (nat_le 1 k) (nat_le k (length U)) q.0 in
        ((leb-true 1 k r.0, leb-true k (length U) r.1), (leb-true 1 v q.1, leb-true v width p.1))

-- a division by groups: v is multiplicative for u where u's exponent is the largest of u's group at v
abbrev pub Groups : Type 0
Groups = ℕ → List ℕ → List ℕ → Bool

abbrev pub grouped : Groups → Split
grouped G U k v = asked U k v (largest (G v (member U k)) U v (member U k))

-- above, in the first place where they differ
record Above (u w : List ℕ) : Type 0 where
  place : ℕ
  agree : Agree place u w
  more : get_or u place 0 < slice_index w place

above_trans : {u v w : List ℕ} → Above u v → Above v w → Above u w
above_trans {u} {v} {w} p q = go (dec_lt p.place q.place) (dec_lt q.place p.place)
  where
    go : Dec (p.place < q.place) → Dec (q.place < p.place) → Above u w
    go (yes l) d = record { place = p.place; agree = λ h k. p.agree h k ∙ q.agree h (omega arith); more = omega (arith, p.more, q.agree p.place l) }
    go (no l) (yes g) = record { place = q.place; agree = λ h k. p.agree h (omega arith) ∙ q.agree h k; more = omega (arith, q.more, p.agree q.place g) }
    go (no l) (no g) =
        let e : p.place ≡ q.place = omega arith in
        record { place = q.place; agree = λ h k. p.agree h (omega arith) ∙ q.agree h k; more = omega (arith, q.more, subst (λ x. slice_index u x < slice_index v x) e p.more) }

-- one place more
agree_more : (i : ℕ) (u w : List ℕ) → Agree i u w → slice_index u i ≡ slice_index w i → Agree (suc i) u w
agree_more i u w a e h l = elim (ℕ_discrete h i) [ yes q ↦ subst (λ x. slice_index u x ≡ slice_index w x) (sym q) e | no q ↦ a h (omega arith) ]

-- whoever agrees with u before v is in u's group, which goes by nothing else of u
module _ (G : Groups) (joins : (v : ℕ) (u w : List ℕ) → Wide u → Wide w → Agree (v - 1) u w → G v u w ≡ true)
    (keeps : (v : ℕ) (u u' w : List ℕ) → Wide u → Wide u' → Agree (v - 1) u u' → G v u w ≡ true → G v u' w ≡ true) where
  module _ (U : List (List ℕ)) (dis : Distinct U) where
    -- a variable of the quotient is the largest of the group
    most : (m : List ℕ) → Wide m → (j p : ℕ) → Involutive (grouped G) U j m → p < length U → (v : ℕ) → Within v width →
        exponent (member U j) v < exponent m v → G v (member U j) (slice_index_or U p []) ≡ true → exponent (slice_index_or U p []) v ≤ exponent (member U j) v
    most m wm j p d h v wv l g =
        largest_gives (G v (member U j)) U v (member U j)
        (asked_is U j v _ true (d.multiplicative v wv (rw (at_quotient m (member U j) (wm ∙ sym (dis.wide j d.within)) (v - 1)) (omega arith))))
        p h g

    -- so no member that agrees before a place exceeds it there
    tops : (m : List ℕ) → Wide m → (j k : ℕ) → Involutive (grouped G) U j m → Within k (length U) → (i : ℕ) → i < width →
        slice_index (member U j) i < slice_index m i → Agree i (member U j) (member U k) → slice_index (member U k) i ≤ slice_index (member U j) i
    tops m wm j k d wk i h l a =
        rw (low i) at (most m wm j (k - 1) d (omega arith) (suc i) (omega arith) (rw (low i) l)
        (joins (suc i) (member U j) (member U k) (dis.wide j d.within) (dis.wide k wk) (rw (low i) a)))

    divides_at : (m : List ℕ) (k : ℕ) → Involutive (grouped G) U k m → (i : ℕ) → slice_index (member U k) i ≤ slice_index m i
    divides_at m k d i = rw (low i) at (d.divides (suc i))

    here : (m : List ℕ) → Wide m → (j k : ℕ) → Involutive (grouped G) U j m → Involutive (grouped G) U k m → (i : ℕ) → i < width → Agree i (member U j) (member U k) →
        Dec (slice_index (member U j) i < slice_index (member U k) i) → Dec (slice_index (member U k) i < slice_index (member U j) i) → slice_index (member U j) i ≡ slice_index (member U k) i
    here m wm j k d e i l a (yes p) q = absurd (omega (arith, tops m wm j k d e.within i l (omega (arith, divides_at m k e i)) a))
    here m wm j k d e i l a (no p) (yes q) = absurd (omega (arith, tops m wm k j e d.within i l (omega (arith, divides_at m j d i)) (λ h n. sym (a h n))))
    here m wm j k d e i l a (no p) (no q) = omega arith

    agree_upto : (m : List ℕ) → Wide m → (j k : ℕ) → Involutive (grouped G) U j m → Involutive (grouped G) U k m → (i : ℕ) → i ≤ width → Agree i (member U j) (member U k)
    agree_upto m wm j k d e zero l = λ h n. absurd (omega arith)
    agree_upto m wm j k d e (suc i) l =
        let a = agree_upto m wm j k d e i (omega arith) in
        agree_more i (member U j) (member U k) a (here m wm j k d e i l a (dec_lt _ _) (dec_lt _ _))

    no_two : (m : List ℕ) → Wide m → (j k : ℕ) → Involutive (grouped G) U j m → Involutive (grouped G) U k m → j ≡ k
    no_two m wm j k d e = dis.once j k d.within e.within
        (agree_all (member U j) (member U k) (dis.wide j d.within ∙ sym (dis.wide k e.within)) (λ h l. agree_upto m wm j k d e 6 (omega arith) h (subst (λ n. h < n) (dis.wide j d.within) l)))

    -- ---- one step of a walk: the next member is above
    module _ (j k : ℕ) (s : Next (grouped G) U j k) where
      abbrev u : List ℕ
      u = member U j

      abbrev w : List ℕ
      w = member U k

      abbrev m : List ℕ
      m = times (variable s.by) u

      wide_u : Wide u
      wide_u = dis.wide j s.from

      wide_w : Wide w
      wide_w = dis.wide k s.divisor.within

      same_length : length (variable s.by) ≡ length u
      same_length = wide_variable s.by ∙ sym wide_u

      wide_m : Wide m
      wide_m = length_times (variable s.by) u same_length ∙ wide_u

      at_m : (i : ℕ) → slice_index m i ≡ slice_index (variable s.by) i + slice_index u i
      at_m i = at_times (variable s.by) u same_length i

      before : (i : ℕ) → i ≤ s.by - 1 → Agree i w u
      before zero l = λ h n. absurd (omega arith)
      before (suc i) l =
          let a = before i (omega arith) in
          let e : get_or m i 0 ≡ get_or u i 0 = at_m i ∙ omega (arith, at_others s.by i (omega arith)) in
          agree_more i w u a (elim (dec_lt (slice_index w i) (slice_index u i)) [
            | yes p ↦ absurd (omega (arith, tops m wide_m k j s.divisor s.from i (omega (arith, s.by_within)) (omega (arith, e)) a))
            | no p ↦ omega (arith, divides_at m k s.divisor i, e)
          ])

      rises : Above u w
      rises = record { place = s.by - 1; agree = λ h l. sym (before (s.by - 1) (omega arith) h l); more = elim (dec_lt (slice_index u (s.by - 1)) (slice_index w (s.by - 1))) [ yes p ↦ p | no p ↦ absurd (stuck p) ] }
        where
          stuck : (slice_index u (s.by - 1) < slice_index w (s.by - 1) → ⊥) → ⊥
          stuck p =
              let f = largest_fails (G s.by u) U s.by u (asked_is U j s.by _ false s.not_multiplicative) in
              omega (
                arith,
                f.larger,
                most m wide_m k f.place s.divisor f.within s.by s.by_within
                    (omega (arith, at_m (s.by - 1), at_variable s.by s.by_within))
                    (keeps s.by u w (slice_index_or U f.place []) wide_u wide_w (λ h l. sym (before (s.by - 1) (omega arith) h l)) f.grouped),
              )

    climbs : {j k : ℕ} → Walk (grouped G) U j k → Above (member U j) (member U k)
    climbs (step {j = j} {k = k} s) = rises j k s
    climbs (walk {i = i} {j = j} s t) = above_trans (rises i j s) (climbs t)

  grouped_laws : DivisionLaws (grouped G)
  grouped_laws = record {
    answers = λ U k v h g. (largest (G v (member U k)) U v (member U k), asked_answers U k v _ h g);
    refuses = λ U k v h. asked_refuses U k v _ h;
    no_two = λ U dis m wm j k d e. no_two U dis m wm j k d e;
    no_return = λ U dis k t. let a = climbs U dis t in omega (arith, a.more);
  }

-- Janet's groups: the members that agree before the variable. Thomas's: all members.
abbrev pub janet_groups : Groups
janet_groups v u w = agrees (v - 1) u w

abbrev pub thomas_groups : Groups
thomas_groups v u w = true

pub janet_laws : DivisionLaws janet
janet_laws = grouped_laws janet_groups
    (λ v u w wu ww a. rw (agree_take (v - 1) u w (wu ∙ sym ww) a) (same_refl (take (v - 1) w)))
    (λ v u u' w wu wu' a e. subst (λ x. same (take (v - 1) w) x ≡ true) (agree_take (v - 1) u u' (wu ∙ sym wu') a) e)

pub thomas_laws : DivisionLaws thomas
thomas_laws = grouped_laws thomas_groups (λ v u w wu ww a. refl) (λ v u u' w wu wu' a e. refl)

-- the same, asked of the code's monomials
module _ (G : Groups) (list : List Monomial) (k v : ℕ) where
  count : length (exponents_of list) ≡ length list
  count = length-map list (λ m. m.exponents)

  pub not_asked : (r : Option Bool) → (Within k (length list) × Within v width → ⊥) → r ≡ None → r ≡ grouped G (exponents_of list) k v
  not_asked r h e = e ∙ sym (asked_refuses (exponents_of list) k v _ (λ w. h ((w.0.0, subst (λ n. k ≤ n) count w.0.1), w.1)))

  pub told : (u : Monomial) (r : Bool) → Within k (length list) × Within v width → u ≡ slice_index_or list (k - 1) u →
      r ≡ largest (G v u.exponents) (exponents_of list) v u.exponents → Some r ≡ grouped G (exponents_of list) k v
  told u r h e is =
      let m : member (exponents_of list) k ≡ u.exponents = get_or-map (λ m. m.exponents) list (k - 1) u [] (omega arith) ∙ ap (λ m. m.exponents) (sym e) in
      ap (λ b. Some b) (is ∙ ap (λ x. largest (G v x) (exponents_of list) v x) (sym m)) ∙ sym (asked_answers (exponents_of list) k v _ (h.0.0, subst (λ n. k ≤ n) (sym count) h.0.1) h.1)
