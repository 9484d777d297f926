use Rattle.std.proofs.Common.{◌≡◌, ◌-◌, List}
use Rattle.involutive.specs.Log.{Call}
use Rattle.replay.proofs.Steppings.{Stood}
use Rattle.replay.proofs.play.repeat_step.Given as goal

abbrev pub invariant-steps : goal.invariant-steps
invariant-steps g l = (g.C.Calls.setting l.sheet ≡ g.C.Calls.setting l.initial.sheet) ×
    ((log : List Call) → Stood (g.C.Calls.setting l.initial.sheet) (g.C.Calls.state l.initial.sheet) log l.count l.granted (g.C.Calls.state l.sheet) (l.count - l.granted))
