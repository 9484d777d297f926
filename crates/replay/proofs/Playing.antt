-- The commands carried out so far: whatever the rest comes to, the whole comes to.
use Rattle.std.proofs.Common.{take-append-drop, ◌≡◌, ℕ, ◌+◌, ◌<◌, ◌≤◌, List, [], ◌∷◌, ◌++◌, length, get_or, take, drop, Some, None, Ok, Err, Option, sym, refl, ap, ◌∙◌, subst, append_assoc, append-nil, add-one, arith, length-append, length-take-le, Bor}
use Rattle.replay.specs.declared.command.Command.{Command}
use Rattle.replay.specs.declared.command.Command.TheVariants.{Sheet, Term, Add, Steps, Remainder, Row, FairCopy, Verdict}
use Rattle.replay.specs.declared.command.Fault.{Fault}
use Rattle.replay.specs.declared.command.Fault.TheVariants.{Short, Unknown}
use Rattle.replay.specs.declared.stop.Stop.{Stop}
use Rattle.replay.specs.declared.stop.Stop.TheVariants.{Unread, Misplaced}
use Rattle.replay.specs.Words.{operand_bytes, refused_line}
use Rattle.replay.specs.Grammar.{byte_of, operands_of, stop_byte, stop_number, Reads, ReadsCall}
use Rattle.polynomial.specs.Polynomial.{Poly}
use Rattle.involutive.specs.Sheet.{Setting, State}
use Rattle.involutive.specs.Log.{Call, After}
use Rattle.replay.specs.Replay.{Acts, Appends, Runs, ends, stops, made_again, goes_on, CommandAt, Faulty, unknown, short}
use Rattle.replay.proofs.Acting.{after_does}

pub record Reached (S : Setting) (s₀ : State) (log₀ : List Call) (at₀ : ℕ) (bs₀ before after : List ℕ) (s : State) (g : Poly) (at : ℕ) (bs : List ℕ) : Type 0 where
  pub text : List ℕ
  pub bytes : after ≡ before ++ text
  pub log : List Call
  pub accepted : List Poly
  pub stands : After S log s accepted
  pub onward : (s' : State) (log' : List Call) (more : List ℕ) → Runs S s log g at bs s' log' more → Runs S s₀ log₀ [] at₀ bs₀ s' log' (text ++ more)

abbrev pub Ended : Setting → State → List Call → ℕ → List ℕ → List ℕ → List ℕ → State → Type 0
Ended S s₀ log₀ at₀ bs₀ before after s = Appends before after (λ text. (log' : List Call) × (gs' : List Poly) × Runs S s₀ log₀ [] at₀ bs₀ s log' text × After S log' s gs')

pub reached_first : (S : Setting) (s : State) (log : List Call) (gs : List Poly) {at at' : ℕ} {bs out : List ℕ} {g : Poly} → at' ≡ at → g ≡ [] → After S log s gs → Reached S s log at bs out out s g at' bs
reached_first S s log gs {at} {at'} {bs} {out} {g} e n a = record { text = []; bytes = sym (append-nil out); log = log; accepted = gs; stands = a; onward = λ s' log' more r. subst (λ h. Runs S s log h at bs s' log' more) n (subst (λ x. Runs S s log g x bs s' log' more) e r) }

module _ {S : Setting} {s₀ : State} {log₀ : List Call} {at₀ : ℕ} {bs₀ before after : List ℕ} {s : State} {g : Poly} {at : ℕ} {bs : List ℕ} where
  pub reached_line : {new : List ℕ} (t : List ℕ) → new ≡ after ++ t → ((log : List Call) → Runs S s log g at bs s log t) → Reached S s₀ log₀ at₀ bs₀ before after s g at bs → Ended S s₀ log₀ at₀ bs₀ before new s
  reached_line t e r w = record {
    text = w.text ++ t;
    bytes = e ∙ ap (λ x. x ++ t) w.bytes ∙ append_assoc before w.text t;
    is_so = (w.log, w.accepted, w.onward s w.log t (r w.log), w.stands);
  }

  pub reached_act : {new ops rest : List ℕ} {b at' : ℕ} {s' : State} {g' : Poly} → CommandAt bs b ops rest → at' ≡ at + (operand_bytes b + 1) → Acts S s g at b ops s' g' after new → Reached S s₀ log₀ at₀ bs₀ before after s g at bs → Reached S s₀ log₀ at₀ bs₀ before new s' g' at' rest
  reached_act {rest = rest} {s' = s'} {g' = g'} k e f w =
      let a = f w.log in
      let d = after_does w.stands a.is_so.1 in
      record {
        text = w.text ++ a.text;
        bytes = a.bytes ∙ ap (λ x. x ++ a.text) w.bytes ∙ append_assoc before w.text a.text;
        log = a.is_so.0;
        accepted = d.0;
        stands = d.1;
        onward = λ s'' log'' more r. subst (λ x. Runs S s₀ log₀ [] at₀ bs₀ s'' log'' x) (sym (append_assoc w.text a.text more))
            (w.onward s'' log'' (a.text ++ more) (goes_on k a.is_so.1 (subst (λ x. Runs S s' a.is_so.0 g' x rest s'' log'' more) e r)));
      }

-- what the reader of commands says

pub byte_small : (c : Command) → byte_of c ≤ 7
byte_small (Sheet a) = omega arith
byte_small (Term a) = omega arith
byte_small Add = omega arith
byte_small (Steps a) = omega arith
byte_small Remainder = omega arith
byte_small (Row a) = omega arith
byte_small FairCopy = omega arith
byte_small Verdict = omega arith

stands : (bs : List ℕ) {b : ℕ} {ops rest : List ℕ} → b ≤ 7 → get_or bs 0 0 ≡ b → operand_bytes b < length bs → ops ≡ take (operand_bytes b) (drop 1 bs) → rest ≡ drop (operand_bytes b + 1) bs → CommandAt bs b ops rest
stands [] k e l o r = absurd (omega (arith, l))
stands (x ∷ bs) {b} {ops} {rest} k e l o r =
    let w = operand_bytes b in
    let t : rest ≡ drop w bs = r ∙ ap (λ n. drop n (x ∷ bs)) (add-one w) in
    record {
      known = k;
      bytes = ap (λ y. y ∷ bs) e ∙ ap (λ ys. b ∷ ys) (sym (take-append-drop w bs) ∙ ap (λ y. y ++ drop w bs) (sym o) ∙ ap (λ y. ops ++ y) (sym t));
      operands = ap length o ∙ length-take-le w bs (omega (arith, l));
    }

pub read_some : (bs : List ℕ) {p : Option (Command × Bor (List ℕ))} {c : Command} {rest : Bor (List ℕ)} → p ≡ Some (c, rest) → Reads bs (Ok p) → CommandAt bs (byte_of c) (operands_of c) rest.now
read_some bs {c = c} e h = let r = subst (λ p. Reads bs (Ok p)) e h in stands bs (byte_small c) r.0 r.1 r.2 r.3

pub read_none : (bs : List ℕ) {p : Option (Command × Bor (List ℕ))} → p ≡ None → Reads bs (Ok p) → bs ≡ []
read_none [] e h = refl
read_none (b ∷ bs) e h = let k : length (b ∷ bs) ≡ 0 = subst (λ p. Reads (b ∷ bs) (Ok p)) e h in absurd (omega (arith, k))

faulty_unknown : (bs : List ℕ) {b : ℕ} → (0 < length bs) × (get_or bs 0 0 ≡ b) × (7 < b) → Faulty bs b 15
faulty_unknown [] h = absurd (omega (arith, h.0))
faulty_unknown (x ∷ bs) {b} h = subst (λ y. Faulty (y ∷ bs) b 15) (sym h.1) (unknown h.2)

faulty_short : (bs : List ℕ) {b : ℕ} → (0 < length bs) × (get_or bs 0 0 ≡ b) × (b ≤ 7) × (length bs ≤ operand_bytes b) → Faulty bs b 16
faulty_short [] h = absurd (omega (arith, h.0))
faulty_short (x ∷ bs) {b} h = subst (λ y. Faulty (y ∷ bs) b 16) (sym h.1) (short h.2 (omega (arith, h.3)))

pub read_fault : (bs : List ℕ) (f : Fault) → Reads bs (Err f) → Faulty bs (stop_byte (Unread f)) (stop_number (Unread f))
read_fault bs (Unknown b) h = faulty_unknown bs h
read_fault bs (Short b) h = faulty_short bs h

-- the same behind the sheet command

pub call_some : (bs : List ℕ) {p : Option (Command × Bor (List ℕ))} {c : Command} {rest : Bor (List ℕ)} → p ≡ Some (c, rest) → ReadsCall bs (Ok p) → (0 < byte_of c) × CommandAt bs (byte_of c) (operands_of c) rest.now
call_some bs {rest = rest} e h = let r = subst (λ p. ReadsCall bs (Ok p)) e h in (r.0, read_some bs {rest = rest} refl r.1)

pub call_none : {S : Setting} {s : State} {g : Poly} {at : ℕ} (bs : List ℕ) {p : Option (Command × Bor (List ℕ))} → p ≡ None → ReadsCall bs (Ok p) → (log : List Call) → Runs S s log g at bs s log []
call_none [] e h log = ends
call_none (b ∷ bs) e h log = let k : length (b ∷ bs) ≡ 0 = subst (λ p. ReadsCall (b ∷ bs) (Ok p)) e h in absurd (omega (arith, k))

pub call_stop : {S : Setting} {s : State} {g : Poly} {at : ℕ} (bs : List ℕ) (stop : Stop) → ReadsCall bs (Err stop) → (log : List Call) → Runs S s log g at bs s log (refused_line at (stop_byte stop) (stop_number stop))
call_stop bs (Unread f) h log = stops (read_fault bs f h)
call_stop {S = S} {s = s} {g = g} {at = at} bs (Misplaced b) h log = subst (λ b. Runs S s log g at bs s log (refused_line at b 17)) (sym h.2) (made_again (stands bs (omega arith) h.0 h.1 refl refl))

pub long : {bs ops rest : List ℕ} {b : ℕ} → CommandAt bs b ops rest → length bs ≡ 1 + (operand_bytes b + length rest)
long {ops = ops} {rest = rest} k = let e = length-append ops rest in let l = ap length k.bytes in let w = k.operands in omega (arith, e, l, w)

pub acts_under : {S S' : Setting} {s s' : State} {g g' : Poly} {at b : ℕ} {ops before after : List ℕ} → S' ≡ S → Acts S' s g at b ops s' g' before after → Acts S s g at b ops s' g' before after
acts_under {s = s} {s' = s'} {g = g} {g' = g'} {at = at} {b = b} {ops = ops} {before = before} {after = after} e f = subst (λ S. Acts S s g at b ops s' g' before after) e f

pub not_sheet : (c : Command) → ((o : Bor (List ℕ)) → c ≡ Sheet o → ⊥) → 0 < byte_of c
not_sheet (Sheet o) f = absurd (f o refl)
not_sheet (Term a) f = omega arith
not_sheet Add f = omega arith
not_sheet (Steps a) f = omega arith
not_sheet Remainder f = omega arith
not_sheet (Row a) f = omega arith
not_sheet FairCopy f = omega arith
not_sheet Verdict f = omega arith
