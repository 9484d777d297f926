-- What a file is shown as.
use Rattle.std.proofs.Common.{◌≡◌, ℕ, ◌+◌, ◌-◌, ◌*◌, ◌/◌, ◌%◌, ◌<◌, ◌≤◌, Bool, true, false, List, [], ◌∷◌, ◌++◌, map, length, get_or, take, drop, Some, None, Ok, Err, MatchResult, Option, Result, String, vec_items, leb, sym, refl, ap, ◌∙◌, subst, ap₂, arith, length-drop}
use Rattle.std.specs.declared.alloc.Global.{Global}
use Rattle.std.proofs.lemmas.List.{take_rest, length-map}
use Rattle.std.proofs.lemmas.Bool.{both_ways, and_parts, and_from, leb-true, le-leb}
use Rattle.field.specs.Field.{FieldMeaning}
use Rattle.field.specs.Kinds.{field_of}
use Rattle.monomial.specs.declared.Monomial.{Monomial}
use Rattle.monomial.specs.Lists.{exponents_of}
use Rattle.monomial.specs.Monomial.{width}
use Rattle.monomial.specs.Order.{Compare, order_of}
use Rattle.monomial.specs.Division.{Split, Within, division_of}
use Rattle.choice.specs.declared.operands.Operands.{Operands}
use Rattle.choice.specs.declared.unnamed.Unnamed.{Unnamed}
use Rattle.choice.specs.Choice.{Chosen, Chooses, has_variables}
use Rattle.stored.specs.declared.fault.Fault.{Fault}
use Rattle.stored.specs.declared.fault.Fault.TheVariants.{Bad, Memory}
use Rattle.stored.specs.declared.fault.Reason.TheVariants.{NoSheet}
use Rattle.stored.specs.Faults.{unnamed_fault}
use Rattle.polynomial.specs.Polynomial.{Poly, leading}
use Rattle.stored.specs.declared.row.Row.{Row}
use Rattle.stored.specs.Leader.{leader_of}
use Rattle.stored.specs.Rows.{polys}
use Rattle.stored.specs.Text.{setting_text, rows_text, table_text}
use Rattle.stored.specs.Stored.{rows, bad, Reads, Opens, Displays, no_sheet, no_field, no_variables, no_order, no_division, table, text, fault_at, TellsFile}
use Rattle.stored.specs.Show.{Tells}

-- the text of a table whose rows have those leading monomials
pub table_told : (D : Split) (modulus n order division : ℕ) (rs : List Row) (ms : List Monomial) (told : List ℕ) →
    told ≡ setting_text modulus n order division (length rs) ++ rows_text D (exponents_of ms) n 1 (polys rs) → ms ≡ map (λ r. leader_of (vec_items r.terms)) rs → told ≡ table_text D modulus n order division (polys rs)
table_told D modulus n order division rs ms told e h =
    e ∙ ap₂ (λ x y. setting_text modulus n order division x ++ rows_text D y n 1 (polys rs)) (sym (length-map rs (λ r. vec_items r.terms))) (ap exponents_of h ∙ leaders rs)
  where
    leader : (f : Poly) → (leader_of f).exponents ≡ leading f
    leader [] = refl
    leader (t ∷ f) = refl

    leaders : (qs : List Row) → exponents_of (map (λ r. leader_of (vec_items r.terms)) qs) ≡ map leading (polys qs)
    leaders [] = refl
    leaders (r ∷ qs) = ap₂ (λ x y. x ∷ y) (leader (vec_items r.terms)) (leaders qs)

-- a file that opens with no sheet command
pub opens_nothing : (bytes : List ℕ) → (7 ≤ length bytes → get_or bytes 0 0 ≡ 0 → ⊥) → Displays bytes (fault_at NoSheet 0)
opens_nothing bytes never = no_sheet (λ kind modulus n order division rest h. never (omega (arith, ap length h.1)) (ap (λ x. get_or x 0 0) h.1))

-- a file that opens with one
pub opens_here : (bytes : List ℕ) → 7 ≤ length bytes → get_or bytes 0 0 ≡ 0 → ((i : ℕ) → get_or bytes i 0 < 256) →
    Opens bytes (get_or bytes 1 0) (get_or bytes 2 0 * 256 + get_or bytes 3 0) (get_or bytes 4 0) (get_or bytes 5 0) (get_or bytes 6 0) (take (length bytes - 7) (drop 7 bytes))
opens_here bytes seven zero small = go bytes seven zero (small 2) (small 3)
  where
    go : (b : List ℕ) → 7 ≤ length b → get_or b 0 0 ≡ 0 → get_or b 2 0 < 256 → get_or b 3 0 < 256 →
        Opens b (get_or b 1 0) (get_or b 2 0 * 256 + get_or b 3 0) (get_or b 4 0) (get_or b 5 0) (get_or b 6 0) (take (length b - 7) (drop 7 b))
    go [] l z p q = absurd (omega arith)
    go (b0 ∷ []) l z p q = absurd (omega arith)
    go (b0 ∷ b1 ∷ []) l z p q = absurd (omega arith)
    go (b0 ∷ b1 ∷ b2 ∷ []) l z p q = absurd (omega arith)
    go (b0 ∷ b1 ∷ b2 ∷ b3 ∷ []) l z p q = absurd (omega arith)
    go (b0 ∷ b1 ∷ b2 ∷ b3 ∷ b4 ∷ []) l z p q = absurd (omega arith)
    go (b0 ∷ b1 ∷ b2 ∷ b3 ∷ b4 ∷ b5 ∷ []) l z p q = absurd (omega arith)
    go (b0 ∷ b1 ∷ b2 ∷ b3 ∷ b4 ∷ b5 ∷ b6 ∷ rest) l z p q =
        let a : (b2 * 256 + b3) / 256 ≡ b2 = omega arith in
        let b : (b2 * 256 + b3) % 256 ≡ b3 = omega arith in
        let t = take_rest (b0 ∷ b1 ∷ b2 ∷ b3 ∷ b4 ∷ b5 ∷ b6 ∷ rest) 7 in
        (omega arith, cc)

-- what is shown, or what the sheet command does not name
abbrev pub Told : List ℕ → Result (Result (String Global) Fault) Unnamed → Type 0
Told bytes r = MatchResult r (TellsFile (Displays bytes)) (λ u. TellsFile (Displays bytes) (Err (unnamed_fault u)))

-- what is told behind the sheet command is what the file is shown as
module _ (rest : List ℕ) (s : Operands) (total : ℕ) where
  abbrev pub Gives : FieldMeaning → Compare → Split → ℕ → Result (String Global) Fault → Type 0
  Gives F O D n done = Tells (Reads F O n total [] rest) (table_text D s.modulus s.variables s.order s.division) done

module _ (bytes rest : List ℕ) (s : Operands) (total : ℕ) (long : total ≡ length bytes) (opens : Opens bytes s.kind s.modulus s.variables s.order s.division rest) where
  table_file : {F : FieldMeaning} {O : Compare} {D : Split} → field_of s.kind s.modulus ≡ Some F → Within s.variables width → order_of s.order ≡ Some O → division_of s.division ≡ Some D →
      (q : Result (String Global) Fault) → Tells (Reads F O s.variables total [] rest) (table_text D s.modulus s.variables s.order s.division) q → TellsFile (Displays bytes) q
  table_file {F} {O} {D} f n o d (Ok t) h =
      subst (λ x. Displays bytes (text x)) (sym h.2) (table opens f n o d (subst (λ k. Reads F O s.variables k [] rest (rows h.0)) long h.1))
  table_file {F} {O} {D} f n o d (Err (Bad why at)) h = table opens f n o d (subst (λ k. Reads F O s.variables k [] rest (bad why at)) long h)
  table_file f n o d (Err Memory) h = tt

  chosen_told : (r : Result (Result (String Global) Fault) Unnamed) → Chooses (Gives rest s total) s r → Told bytes r
  chosen_told r h = go (field_of s.kind s.modulus) (has_variables s.variables) (order_of s.order) (division_of s.division) refl refl refl refl h
    where
      within : has_variables s.variables ≡ true → Within s.variables width
      within e = let p = and_parts (leb 1 s.variables) (leb s.variables width) e in (leb-true 1 s.variables p.0, leb-true s.variables width p.1)

      without : has_variables s.variables ≡ false → Within s.variables width → ⊥
      without e w = both_ways _ e (and_from (leb 1 s.variables) (leb s.variables width) (le-leb 1 s.variables w.0) (le-leb s.variables width w.1))

      go : (f : Option FieldMeaning) (v : Bool) (o : Option Compare) (d : Option Split) → field_of s.kind s.modulus ≡ f → has_variables s.variables ≡ v → order_of s.order ≡ o → division_of s.division ≡ d →
          Chosen (Gives rest s total) s.variables f v o d r → Told bytes r
      go None v o d ef ev eo ed k = subst (Told bytes) (sym k) (no_field opens ef)
      go (Some F) false o d ef ev eo ed k = subst (Told bytes) (sym k) (no_variables opens ef (without ev))
      go (Some F) true None d ef ev eo ed k = subst (Told bytes) (sym k) (no_order opens ef (within ev) eo)
      go (Some F) true (Some O) None ef ev eo ed k = subst (Told bytes) (sym k) (no_division opens ef (within ev) eo ed)
      go (Some F) true (Some O) (Some D) ef ev eo ed k = subst (Told bytes) (sym k.1) (table_file ef (within ev) eo ed k.0 k.2)

-- the same by the bytes of the file, of which the first seven are the sheet command
pub file_told : (bytes : List ℕ) → 7 ≤ length bytes → get_or bytes 0 0 ≡ 0 → ((i : ℕ) → get_or bytes i 0 < 256) → (s : Operands) →
    s ≡ record { kind = get_or bytes 1 0; modulus = get_or bytes 2 0 * 256 + get_or bytes 3 0; variables = get_or bytes 4 0; order = get_or bytes 5 0; division = get_or bytes 6 0 } →
    (r : Result (Result (String Global) Fault) Unnamed) → let rest = take (length bytes - 7) (drop 7 bytes) in Chooses (Gives rest s (7 + length rest)) s r → Told bytes r
file_told bytes seven zero small s e r h =
    let rest = take (length bytes - 7) (drop 7 bytes) in
    let long : 7 + length rest ≡ length bytes = omega (arith, ap length (take_rest bytes 7), length-drop 7 bytes) in
    let P : Operands → Type 0 = λ q. Opens bytes q.kind q.modulus q.variables q.order q.division rest in
    chosen_told bytes rest s (7 + length rest) long (subst P (sym e) (opens_here bytes seven zero small)) r h
