-- A command file has one transcript at most.
use Rattle.std.proofs.Common.{◌≡◌, ℕ, suc, ◌+◌, ◌<◌, List, [], ◌++◌, length, get_or, take, drop, Some, None, Option, sym, refl, ap, ◌∙◌, subst, ap₂, arith}
use lib.Seq.{take-append_seam, drop-append_seam}
use Rattle.polynomial.specs.Polynomial.{Poly}
use Rattle.involutive.specs.Reduction.{Refusal}
use Rattle.involutive.specs.Sheet.{Setting, Lawful, State}
use Rattle.involutive.specs.Answers.{Answer, rows_now, closed_answer, marked_answer, appended_answer, written, copied_answer, verdict_answer, denied, Steps}
use Rattle.involutive.specs.Log.{Call, After}
use Rattle.involutive.specs.Sound.{Sound}
use Rattle.involutive.proofs.OneAnswer.{sound_one}
use Rattle.involutive.proofs.Soundness
use Rattle.lines.specs.Line.{line}
use Rattle.replay.specs.Words.{operand_bytes, answered, stepped, refused_line}
use Rattle.replay.specs.Replay.{Stepping, Does, Runs, CommandAt, Faulty, Making, granted, making, Starts, Transcript}
use Rattle.replay.proofs.Acting.{after_does}
use Rattle.replay.proofs.Makings.{made_lawful}
use Rattle.replay.proofs.Playing.{long}
use Rattle.replay.proofs.Rooms.{remainder_line, row_line, copy_line}

-- ---- reading a command has one outcome

operands_are : {bs ops rest : List ℕ} {b : ℕ} → CommandAt bs b ops rest → ops ≡ take (operand_bytes b) (drop 1 bs)
operands_are {ops = ops} {rest = rest} {b = b} k = sym (take-append_seam ops rest) ∙ ap (λ n. take n (ops ++ rest)) k.operands ∙ ap (λ l. take (operand_bytes b) (drop 1 l)) (sym k.bytes)

rest_is : {bs ops rest : List ℕ} {b : ℕ} → CommandAt bs b ops rest → rest ≡ drop (operand_bytes b) (drop 1 bs)
rest_is {ops = ops} {rest = rest} {b = b} k = sym (drop-append_seam ops rest) ∙ ap (λ n. drop n (ops ++ rest)) k.operands ∙ ap (λ l. drop (operand_bytes b) (drop 1 l)) (sym k.bytes)

byte_is : {bs ops rest : List ℕ} {b : ℕ} → CommandAt bs b ops rest → get_or bs 0 0 ≡ b
byte_is k = ap (λ l. get_or l 0 0) k.bytes

command_one : {bs ops rest ops' rest' : List ℕ} {b b' : ℕ} → CommandAt bs b ops rest → CommandAt bs b' ops' rest' → (b' ≡ b) × (ops' ≡ ops) × (rest' ≡ rest)
command_one {bs = bs} k k' =
    let e = sym (byte_is k') ∙ byte_is k in
    (e, operands_are k' ∙ ap (λ b. take (operand_bytes b) (drop 1 bs)) e ∙ sym (operands_are k), rest_is k' ∙ ap (λ b. drop (operand_bytes b) (drop 1 bs)) e ∙ sym (rest_is k))

faulty_some : {bs : List ℕ} {b n : ℕ} → Faulty bs b n → 0 < length bs
faulty_some (Faulty.unknown p) = omega arith
faulty_some (Faulty.short p q) = omega arith

faulty_not : {X : Type 0} {bs ops rest : List ℕ} {b b' n : ℕ} → Faulty bs b n → CommandAt bs b' ops rest → X
faulty_not {b = b} {b' = b'} (Faulty.unknown p) k = let e : b ≡ b' = byte_is k in let h = k.known in absurd (omega (arith, p, e, h))
faulty_not {b = b} {b' = b'} (Faulty.short {bs = xs} p q) k = let e : b ≡ b' = byte_is k in let l = long k in let w : operand_bytes b ≡ operand_bytes b' = ap operand_bytes e in absurd (omega (arith, q, l, w))

faulty_one : {bs : List ℕ} {b b' n n' : ℕ} → Faulty bs b n → Faulty bs b' n' → (b ≡ b') × (n ≡ n')
faulty_one (Faulty.unknown p) (Faulty.unknown q) = (refl, refl)
faulty_one (Faulty.unknown p) (Faulty.short q r) = absurd (omega arith)
faulty_one (Faulty.short p r) (Faulty.unknown q) = absurd (omega arith)
faulty_one (Faulty.short p r) (Faulty.short q u) = (refl, refl)

empty_not : {X : Type 0} {bs ops rest : List ℕ} {b : ℕ} → bs ≡ [] → CommandAt bs b ops rest → X
empty_not {bs = bs} e k = let l = long k in let z : length bs ≡ 0 = ap length e in absurd (omega (arith, l, z))

empty_faulty : {X : Type 0} {bs : List ℕ} {b n : ℕ} → bs ≡ [] → Faulty bs b n → X
empty_faulty {bs = bs} e f = let h = faulty_some f in let z : length bs ≡ 0 = ap length e in absurd (omega (arith, h, z))

-- ---- a step's answers, told apart by a number

abbrev kind : Answer → ℕ
kind closed_answer = 0
kind marked_answer = 1
kind appended_answer = 2
kind (denied r) = 3
kind (rows_now n) = 4
kind (written n) = 4
kind (copied_answer m n) = 4
kind (verdict_answer v) = 4

abbrev denial : Answer → Option Refusal
denial (denied r) = Some r
denial closed_answer = None
denial marked_answer = None
denial appended_answer = None
denial (rows_now n) = None
denial (written n) = None
denial (copied_answer m n) = None
denial (verdict_answer v) = None

module _ {S : Setting} where
  stepping_at : {s s₂ t : State} {log l : List Call} {n k : ℕ} {e : Option Refusal} → s₂ ≡ s → Stepping S s₂ log n k e t l → Stepping S s log n k e t l
  stepping_at {t = t} {log = log} {l = l} {n = n} {k = k} {e = e} q r = subst (λ s. Stepping S s log n k e t l) q r

  does_at : {s t : State} {log l : List Call} {at b b₂ : ℕ} {ops ops₂ x : List ℕ} {g g₁ : Poly} → b₂ ≡ b → ops₂ ≡ ops → Does S s log g at b₂ ops₂ t l g₁ x → Does S s log g at b ops t l g₁ x
  does_at {s = s} {t = t} {log = log} {l = l} {at = at} {b = b} {ops₂ = ops₂} {x = x} {g = g} {g₁ = g₁} p q d = subst (λ o. Does S s log g at b o t l g₁ x) q (subst (λ b. Does S s log g at b ops₂ t l g₁ x) p d)

  runs_at : {s s₂ t : State} {log l : List Call} {at at₂ : ℕ} {bs bs₂ x : List ℕ} {g g₂ : Poly} → s₂ ≡ s → g₂ ≡ g → at₂ ≡ at → bs₂ ≡ bs → Runs S s₂ log g₂ at₂ bs₂ t l x → Runs S s log g at bs t l x
  runs_at {s = s} {t = t} {log = log} {l = l} {at = at} {at₂ = at₂} {bs₂ = bs₂} {x = x} {g = g} {g₂ = g₂} p q u v r =
      subst (λ bs. Runs S s log g at bs t l x) v (subst (λ at. Runs S s log g at bs₂ t l x) u (subst (λ g. Runs S s log g at₂ bs₂ t l x) q (subst (λ s. Runs S s log g₂ at₂ bs₂ t l x) p r)))

  does_some : {s t : State} {log l : List Call} {at b : ℕ} {ops x : List ℕ} {g g₁ : Poly} → Does S s log g at b ops t l g₁ x → 0 < b
  does_some Does.gathers = omega arith
  does_some (Does.adds a) = omega arith
  does_some (Does.steps a) = omega arith
  does_some (Does.remains p a) = omega arith
  does_some (Does.shows p a) = omega arith
  does_some (Does.copies p a) = omega arith
  does_some (Does.judges a) = omega arith

module _ (S : Setting) (W : Lawful S) where
  step_one : {s t t' : State} {a b : Answer} → Sound S s → Steps S s a t → Steps S s b t' → (a ≡ b) × (t ≡ t')
  step_one {s} {t} {t'} {a} {b} I p q = (sound_one S W s I).steps a b t t' p q

  unlike : {X : Type 0} {s t t' : State} {a b : Answer} → Sound S s → Steps S s a t → Steps S s b t' → (kind a ≡ kind b → ⊥) → X
  unlike I p q f = absurd (f (ap kind (step_one I p q).0))

  stepping_one : {s t t' : State} {log log' l l' : List Call} {gs : List Poly} {n k k' : ℕ} {e e' : Option Refusal} → After S log s gs → Stepping S s log n k e t l → Stepping S s log' n k' e' t' l' → (k ≡ k') × (e ≡ e') × (t ≡ t')
  stepping_one h Stepping.used_up Stepping.used_up = (refl, refl, refl)
  stepping_one h (Stepping.on_closed a) (Stepping.on_closed b) = (refl, refl, (step_one (Soundness.sound S W h) a b).1)
  stepping_one h (Stepping.on_closed a) (Stepping.on_denial b) = unlike (Soundness.sound S W h) a b (λ z. omega (arith, z))
  stepping_one h (Stepping.on_closed a) (Stepping.marks b q) = unlike (Soundness.sound S W h) a b (λ z. omega (arith, z))
  stepping_one h (Stepping.on_closed a) (Stepping.appends b q) = unlike (Soundness.sound S W h) a b (λ z. omega (arith, z))
  stepping_one h (Stepping.on_denial a) (Stepping.on_closed b) = unlike (Soundness.sound S W h) a b (λ z. omega (arith, z))
  stepping_one h (Stepping.on_denial a) (Stepping.on_denial b) = let o = step_one (Soundness.sound S W h) a b in (refl, ap denial o.0, o.1)
  stepping_one h (Stepping.on_denial a) (Stepping.marks b q) = unlike (Soundness.sound S W h) a b (λ z. omega (arith, z))
  stepping_one h (Stepping.on_denial a) (Stepping.appends b q) = unlike (Soundness.sound S W h) a b (λ z. omega (arith, z))
  stepping_one h (Stepping.marks a p) (Stepping.on_closed b) = unlike (Soundness.sound S W h) a b (λ z. omega (arith, z))
  stepping_one h (Stepping.marks a p) (Stepping.on_denial b) = unlike (Soundness.sound S W h) a b (λ z. omega (arith, z))
  stepping_one h (Stepping.marks a p) (Stepping.marks b q) = let i = stepping_one (After.stepped h a) p (stepping_at (sym (step_one (Soundness.sound S W h) a b).1) q) in (ap suc i.0, i.1, i.2)
  stepping_one h (Stepping.marks a p) (Stepping.appends b q) = unlike (Soundness.sound S W h) a b (λ z. omega (arith, z))
  stepping_one h (Stepping.appends a p) (Stepping.on_closed b) = unlike (Soundness.sound S W h) a b (λ z. omega (arith, z))
  stepping_one h (Stepping.appends a p) (Stepping.on_denial b) = unlike (Soundness.sound S W h) a b (λ z. omega (arith, z))
  stepping_one h (Stepping.appends a p) (Stepping.marks b q) = unlike (Soundness.sound S W h) a b (λ z. omega (arith, z))
  stepping_one h (Stepping.appends a p) (Stepping.appends b q) = let i = stepping_one (After.stepped h a) p (stepping_at (sym (step_one (Soundness.sound S W h) a b).1) q) in (ap suc i.0, i.1, i.2)

  does_one : {s t t' : State} {log log' l l' : List Call} {gs : List Poly} {at b : ℕ} {ops x x' : List ℕ} {g g₁ g₂ : Poly} → After S log s gs → Does S s log g at b ops t l g₁ x → Does S s log' g at b ops t' l' g₂ x' → (t ≡ t') × (g₁ ≡ g₂) × (x ≡ x')
  does_one h Does.gathers Does.gathers = (refl, refl, refl)
  does_one {s = s} {at = at} {g = g} h (Does.adds a) (Does.adds b) = let o = (sound_one S W s (Soundness.sound S W h)).adds g _ _ _ _ a b in (o.1, refl, ap (answered at 2) o.0)
  does_one {at = at} h (Does.steps a) (Does.steps b) = let i = stepping_one h a b in (i.2, refl, ap₂ (stepped at) i.0 i.1)
  does_one {at = at} h (Does.remains p a) (Does.remains q b) = (refl, refl, remainder_line S W (Soundness.sound S W h) p q a b at)
  does_one {at = at} h (Does.shows p a) (Does.shows q b) = (refl, refl, row_line S W (Soundness.sound S W h) p q a b at)
  does_one {at = at} h (Does.copies p a) (Does.copies q b) = (refl, refl, copy_line S W (Soundness.sound S W h) p q a b at)
  does_one {s = s} {at = at} h (Does.judges a) (Does.judges b) = (refl, refl, ap (answered at 7) ((sound_one S W s (Soundness.sound S W h)).judges _ _ a b))

  -- two runs from one state, with the same terms gathered, write one text; their logs differ in the lent buffers only
  runs_one : {s t t' : State} {log log' l l' : List Call} {gs : List Poly} {g : Poly} {at : ℕ} {bs x x' : List ℕ} → After S log s gs → Runs S s log g at bs t l x → Runs S s log' g at bs t' l' x' → x ≡ x'
  runs_one h Runs.ends Runs.ends = refl
  runs_one h Runs.ends (Runs.stops f) = empty_faulty refl f
  runs_one h Runs.ends (Runs.made_again k) = empty_not refl k
  runs_one h Runs.ends (Runs.goes_on k d r) = empty_not refl k
  runs_one h (Runs.stops f) Runs.ends = empty_faulty refl f
  runs_one {at = at} h (Runs.stops f) (Runs.stops f') = let i = faulty_one f f' in ap₂ (refused_line at) i.0 i.1
  runs_one h (Runs.stops f) (Runs.made_again k) = faulty_not f k
  runs_one h (Runs.stops f) (Runs.goes_on k d r) = faulty_not f k
  runs_one h (Runs.made_again k) Runs.ends = empty_not refl k
  runs_one h (Runs.made_again k) (Runs.stops f) = faulty_not f k
  runs_one h (Runs.made_again k) (Runs.made_again k') = refl
  runs_one h (Runs.made_again k) (Runs.goes_on k' d r) = let e = (command_one k k').0 in let z = does_some d in absurd (omega (arith, e, z))
  runs_one h (Runs.goes_on k d r) Runs.ends = empty_not refl k
  runs_one h (Runs.goes_on k d r) (Runs.stops f) = faulty_not f k
  runs_one h (Runs.goes_on k d r) (Runs.made_again k') = let e = (command_one k k').0 in let z = does_some d in absurd (omega (arith, e, z))
  runs_one {at = at} h (Runs.goes_on k d r) (Runs.goes_on k' d' r') =
      let c = command_one k k' in
      let i = does_one h d (does_at c.0 c.1 d') in
      let j = runs_one (after_does h d).1 r (runs_at (sym i.0) (sym i.1) (ap (λ b. at + (operand_bytes b + 1)) c.0) c.2 r') in
      ap₂ (λ a b. a ++ b) i.2 j

starts_one : {rest x x' : List ℕ} {m : Making} → ((S : Setting) → m ≡ granted S → Lawful S) → Starts rest m x → Starts rest m x' → x ≡ x'
starts_one L Starts.not_made Starts.not_made = refl
starts_one L (Starts.is_made {S = S} r a) (Starts.is_made r' a') = ap (λ b. line 0 0 0 0 [] ++ b) (runs_one S (L S refl) After.made r r')

starts_at : {rest rest₂ ops ops₂ x : List ℕ} → rest₂ ≡ rest → ops₂ ≡ ops → Starts rest₂ (making ops₂) x → Starts rest (making ops) x
starts_at {rest = rest} {ops₂ = ops₂} {x = x} p q r = subst (λ o. Starts rest (making o) x) q (subst (λ rest. Starts rest (making ops₂) x) p r)

-- a command file has one transcript at most
pub transcript_one : {bs x x' : List ℕ} → Transcript bs x → Transcript bs x' → x ≡ x'
transcript_one Transcript.nothing Transcript.nothing = refl
transcript_one Transcript.nothing (Transcript.faulty f) = empty_faulty refl f
transcript_one Transcript.nothing (Transcript.not_a_sheet k p) = empty_not refl k
transcript_one Transcript.nothing (Transcript.starts k r) = empty_not refl k
transcript_one (Transcript.faulty f) Transcript.nothing = empty_faulty refl f
transcript_one (Transcript.faulty f) (Transcript.faulty f') = let i = faulty_one f f' in ap₂ (refused_line 0) i.0 i.1
transcript_one (Transcript.faulty f) (Transcript.not_a_sheet k p) = faulty_not f k
transcript_one (Transcript.faulty f) (Transcript.starts k r) = faulty_not f k
transcript_one (Transcript.not_a_sheet k p) Transcript.nothing = empty_not refl k
transcript_one (Transcript.not_a_sheet k p) (Transcript.faulty f) = faulty_not f k
transcript_one (Transcript.not_a_sheet k p) (Transcript.not_a_sheet k' q) = ap (λ b. refused_line 0 b 17) (sym (command_one k k').0)
transcript_one (Transcript.not_a_sheet k p) (Transcript.starts k' r) = let e = (command_one k k').0 in absurd (omega (arith, e, p))
transcript_one (Transcript.starts k r) Transcript.nothing = empty_not refl k
transcript_one (Transcript.starts k r) (Transcript.faulty f) = faulty_not f k
transcript_one (Transcript.starts k r) (Transcript.not_a_sheet k' p) = let e = (command_one k k').0 in absurd (omega (arith, e, p))
transcript_one (Transcript.starts {ops = ops} k r) (Transcript.starts k' r') = let c = command_one k k' in starts_one (made_lawful ops) r (starts_at c.2 c.1 r')
