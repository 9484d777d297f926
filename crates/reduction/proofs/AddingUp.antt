-- A turn of adding up, over plain lists.
use Rattle.std.proofs.Common.{◌≡◌, ℕ, ◌+◌, ◌<◌, ◌≤◌, [], ◌∷◌, ◌++◌, map, length, get_or, take, drop, Ok, Err, Result, MatchResult, sym, ap, ◌∙◌, subst, append_assoc, arith, length-append}
use Rattle.std.specs.Result.{IsErr}
use Rattle.std.proofs.lemmas.Bool.{false≢true}
use Rattle.std.proofs.lemmas.List.{drop_more, drop_all}
use Rattle.field.specs.Field.{FieldMeaning}
use Rattle.monomial.specs.Order.{Compare}
use Rattle.polynomial.specs.declared.term.Term.{Term}
use Rattle.polynomial.specs.Polynomial.{Poly}
use Rattle.reduction.specs.Merging.{Sums, Above, Meets}
use Rattle.reduction.proofs.Adding.{summed, lefts}
use Rattle.reduction.proofs.Meeting.{copied}

-- what became of `out`, to which `part` was to be added
abbrev pub Extended : {E : Type 0} → Poly → Poly → ℕ → Result (Unit {0}) E → Poly → Type 0
Extended out part room res out' = MatchResult res (λ _. (length out + length part ≤ room) × (out' ≡ out ++ part)) (λ _. (room < length out + length part) × (out' ≡ out))

-- where there is room for all
pub extend_all : {E : Type 0} (out part : Poly) (room : ℕ) (res : Result (Unit {0}) E) (out' : Poly) → length out + length part ≤ room → Extended out part room res out' → out' ≡ out ++ part
extend_all out part room (Ok u) out' l e = e.1
extend_all out part room (Err x) out' l e = absurd (let k = e.0 in omega arith)

pub failed : {A E Q : Type 0} (P : A → Type 0) (res : Result A E) → IsErr res → Q → MatchResult res P (λ _. Q)
failed P (Ok a) h q = absurd (false≢true h)
failed P (Err e) h q = q

-- two parts written one after the other
pub behind : (out a b out' out'' : Poly) → out' ≡ out ++ a → out'' ≡ out' ++ b → out'' ≡ out ++ (a ++ b)
behind out a b out' out'' e d = d ∙ ap (λ x. x ++ b) e ∙ append_assoc out a b

module _ (F : FieldMeaning) (O : Compare) where
  -- where there is no room for what a turn writes of the sum of h and s ∷ f, there is none for the sum
  pub too_long : {h after : Poly} {s : Term} (part : Poly) (more : Poly → Poly) → ((f g : Poly) → Sums F O after (more f) g → Sums F O h (s ∷ f) (part ++ g)) → (out room : ℕ) → room < out + length part → (f : Poly) → (g : Poly) × Sums F O h (s ∷ f) g × (room < out + length g)
  too_long {after = after} part more turns out room l f = let z = summed F O after (more f) in (part ++ z.0, turns f z.0 z.1, omega (arith, length-append part z.0))

  -- the same where the room ends among the terms above s
  pub too_long_above : (h : Poly) (s : Term) (k : ℕ) → Above O s h k → k ≤ length h → (out room : ℕ) → room < out + length (take k h) → (f : Poly) → (g : Poly) × Sums F O h (s ∷ f) g × (room < out + length g)
  too_long_above h s k above l = too_long (take k h) (λ f. s ∷ f) (copied F O s h k above l)

  -- and where it ends behind them
  pub too_long_by_one : {h after : Poly} {s : Term} (part : Poly) (t : Term) → Meets F O s h (part ++ t ∷ []) after → (out out' : Poly) (room : ℕ) → out' ≡ out ++ part → room ≤ length out' → (f : Poly) → (g : Poly) × Sums F O h (s ∷ f) g × (room < length out + length g)
  too_long_by_one part t meets out out' room e l = too_long (part ++ t ∷ []) (λ f. f) meets (length out) room (omega (arith, ap length e, length-append out part, length-append part (t ∷ [])))

-- what is left of h is `rest`, and of the row what stands from term j on; whatever they come to, behind what is written, is the whole
module _ (F : FieldMeaning) (O : Compare) (I : Term → Term) (h row rest : Poly) (j : ℕ) (out : Poly) (inv : (r : Poly) → Sums F O rest (map I (drop j row)) r → Sums F O h (map I row) (out ++ r)) where
  abbrev pub Whole : Poly → Type 0
  Whole = Sums F O h (map I row)

  abbrev pub Longer : ℕ → Type 0
  Longer room = (g : Poly) × Whole g × (room < length g)

  ended : length row ≤ j → Whole (out ++ rest)
  ended l = inv rest (subst (λ x. Sums F O rest x rest) (sym (ap (map I) (drop_all j row l))) (lefts F O rest))

  -- what writing all that is left comes to
  pub closed : {E : Type 0} → length row ≤ j → (room : ℕ) (res : Result (Unit {0}) E) (out' : Poly) → Extended out rest room res out' → MatchResult res (λ _. Whole out' × (length out' ≤ room)) (λ _. Longer room)
  closed l room (Ok u) out' e = (subst Whole (sym e.1) (ended l), omega (arith, e.0, ap length e.1, length-append out rest))
  closed l room (Err x) out' e = (out ++ rest, ended l, let k = e.0 in omega (arith, length-append out rest))

  -- a turn at term j of the row, whose image is s
  module _ (s d : Term) (inside : j < length row) (is : s ≡ I (get_or row j d)) where
    abbrev tail : Poly
    tail = map I (drop (j + 1) row)

    whole : (g : Poly) → Sums F O rest (s ∷ tail) g → Whole (out ++ g)
    whole g = let e : map I (drop j row) ≡ s ∷ tail = ap (map I) (drop_more row j d inside) ∙ ap (λ x. x ∷ tail) (sym is) in subst (λ x. Sums F O rest x g → Whole (out ++ g)) e (inv g)

    pub turned_long : (room : ℕ) → ((f : Poly) → (g : Poly) × Sums F O rest (s ∷ f) g × (room < length out + length g)) → Longer room
    turned_long room long = let z = long tail in (out ++ z.0, whole z.0 z.1, let l = z.2 in omega (arith, length-append out z.0))
