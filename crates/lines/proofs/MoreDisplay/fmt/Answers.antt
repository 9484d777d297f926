use Rattle.std.proofs.Common.{◌≤◌, ap, ◌∙◌, sym, subst, length}
use Rattle.std.proofs.Output.{has_written_of_eq}
use Rattle.lines.specs.Line.{more_text}
use Rattle.lines.proofs.Hexadecimal.{terms_field}
use Rattle.lines.proofs.MoreDisplay.fmt.Goals as goal

pub returns-in-Terms-clause-writes : goal.returns-in-Terms-clause-writes
returns-in-Terms-clause-writes g c = λ p q.
    let l : 1 ≤ length c.in-Terms.terms.now = subst (λ t. 1 ≤ length t.now) c.in-Terms.terms-is c.in-Terms.len_at_least in
    let e = terms_field c.in-Terms.terms.now l ∙ sym (ap more_text c.in-Terms.is) in
    has_written_of_eq _ _ _ _ _ e ((rw c.in-Terms.terms-is at c.write-in-Terms.ensures.writes) p q)
