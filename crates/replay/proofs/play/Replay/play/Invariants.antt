use Rattle.std.proofs.Common.{◌≡◌, ◌+◌, ◌-◌, ◌≤◌, List, [], length, vec_items}
use Rattle.polynomial.specs.Polynomial.{Poly}
use Rattle.involutive.specs.Log.{Call, After}
use Rattle.replay.proofs.Playing.{Reached}
use Rattle.replay.proofs.play.Replay.play.Given as goal

abbrev pub invariant-loop-command : goal.invariant-loop-command
invariant-loop-command g l = (g.C.Calls.setting l.sheet ≡ g.C.Calls.setting l.initial.sheet) × (length l.rest ≤ length l.input) ×
    (vec_items l.initial.self.gathered ≡ [] → (log : List Call) (gs : List Poly) → After (g.C.Calls.setting l.initial.sheet) log (g.C.Calls.state l.initial.sheet) gs →
    Reached (g.C.Calls.setting l.initial.sheet) (g.C.Calls.state l.initial.sheet) log 7 l.input (vec_items l.initial.self.text) (vec_items l.self.text) (g.C.Calls.state l.sheet) (vec_items l.self.gathered) (7 + (length l.input - length l.rest)) l.rest)

abbrev pub decreases-loop-command : goal.decreases-loop-command
decreases-loop-command g l = length l.rest
