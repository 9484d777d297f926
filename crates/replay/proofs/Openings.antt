-- From the first command to the transcript.
use Rattle.std.proofs.Common.{◌≡◌, ℕ, List, [], ◌++◌, Ok, Err, Some, Option, sym, ap, ◌∙◌, subst, Bor}
use Rattle.involutive.specs.Sheet.{Setting, State, empty}
use Rattle.involutive.specs.Log.{After}
use Rattle.lines.specs.Line.{line}
use Rattle.replay.specs.declared.command.Command.{Command}
use Rattle.replay.specs.declared.command.Command.TheVariants.{Sheet}
use Rattle.replay.specs.declared.command.Fault.{Fault}
use Rattle.replay.specs.declared.stop.Stop.{Stop}
use Rattle.replay.specs.declared.stop.Stop.TheVariants.{Unread}
use Rattle.replay.specs.Words.{refused_line}
use Rattle.replay.specs.Grammar.{byte_of, operands_of, stop_byte, stop_number, Reads}
use Rattle.replay.specs.Replay.{CommandAt, Ran, granted, refused, making, Starts, not_made, is_made, Transcript, nothing, faulty, not_a_sheet, starts}
use Rattle.replay.proofs.Playing.{read_some, read_fault, not_sheet}

-- the making is refused with this line
pub denied : {text : List ℕ} {n : ℕ} (rest : List ℕ) → text ≡ line 0 0 n 0 [] → Starts rest (refused n) text
denied {n = n} rest e = subst (Starts rest (refused n)) (sym e) not_made

-- a run from the empty sheet, behind the line of its making
pub opened : {S : Setting} {s s' : State} {rest mid text : List ℕ} → mid ≡ line 0 0 0 0 [] → s ≡ empty → Ran S s [] 7 rest s' mid text → Starts rest (granted S) text
opened {S = S} {s' = s'} {rest = rest} {mid = mid} {text = text} e q r =
    let a = subst (λ s. Ran S s [] 7 rest s' mid text) q r [] [] After.made in
    subst (Starts rest (granted S)) (sym (a.bytes ∙ ap (λ x. x ++ a.text) e)) (is_made a.is_so.2 a.is_so.3)

-- the first command makes a sheet
pub begun : {text : List ℕ} (bs : List ℕ) {p : Option (Command × Bor (List ℕ))} {c : Command} {o rest : Bor (List ℕ)} → p ≡ Some (c, rest) → Reads bs (Ok p) → c ≡ Sheet o → Starts rest.now (making o.now) text → Transcript bs text
begun bs {rest = rest} e h q a = starts (subst (λ c. CommandAt bs (byte_of c) (operands_of c) rest.now) q (read_some bs e h)) a

-- the first command is another one
pub other_first : {text : List ℕ} (bs : List ℕ) {p : Option (Command × Bor (List ℕ))} {c : Command} {rest : Bor (List ℕ)} {b : ℕ} → p ≡ Some (c, rest) → Reads bs (Ok p) → ((o : Bor (List ℕ)) → c ≡ Sheet o → ⊥) → b ≡ byte_of c → text ≡ refused_line 0 b 17 → Transcript bs text
other_first bs {c = c} e h f q t = subst (Transcript bs) (sym (t ∙ ap (λ b. refused_line 0 b 17) q)) (not_a_sheet (read_some bs e h) (not_sheet c f))

pub nothing_read : {text : List ℕ} (bs : List ℕ) → bs ≡ [] → text ≡ [] → Transcript bs text
nothing_read {text = text} bs e t = subst (λ bs. Transcript bs text) (sym e) (subst (Transcript []) (sym t) nothing)

pub none_carried_out : {text : List ℕ} {stop : Stop} (bs : List ℕ) (f : Fault) → Reads bs (Err f) → stop ≡ Unread f → text ≡ refused_line 0 (stop_byte stop) (stop_number stop) → Transcript bs text
none_carried_out bs f h e t = subst (Transcript bs) (sym (t ∙ ap (λ stop. refused_line 0 (stop_byte stop) (stop_number stop)) e)) (faulty (read_fault bs f h))
