use Rattle.std.proofs.Common.{List, ℕ, ◌++◌, ap, ◌∙◌, rules, append_assoc}
use Rattle.std.proofs.Output.{has_written_append}
use Rattle.std.specs.Slice.Iter.{chunks_rest}
use Rattle.lines.proofs.Hexadecimal.{hexed_first}
use Rattle.lines.proofs.HexDisplay.fmt.Goals as goal

pub loop-bytes-preserved : goal.loop-bytes-preserved
loop-bytes-preserved g c =
    let steps = c.in-Some.ensures.steps in (
      search rules,
      tt,
      steps.0 ∙ c.loop-bytes.invariant.2,
      λ plain.
          let so_far = c.loop-bytes.invariant.3 plain in (
            so_far.0 ++ c.digits.result.now,
            has_written_append _ _ _ _ _ _ so_far.1 (search rules),
            append_assoc so_far.0 _ _
                ∙ ap (λ (t : List ℕ). so_far.0 ++ t)
                (rw c.digits.ensures (hexed_first _ c.in-Some.bytes.now (chunks_rest c.next.new.self) steps.1.0))
                ∙ so_far.2,
          ),
    )
