use Rattle.std.proofs.Common.{arith}
use Rattle.field.proofs.Reciprocal.{quotient}
use Rattle.field.proofs.prime.remainder.Goals as goal

pub overflow_mul-quotient : goal.overflow_mul-quotient
overflow_mul-quotient c = let k = quotient c.args.x c.args.p c.args.reciprocal c.requires.0 c.requires.1 c.requires.2 c.requires.3 in omega arith

pub overflow_mul-result : goal.overflow_mul-result
overflow_mul-result c = let k = quotient c.args.x c.args.p c.args.reciprocal c.requires.0 c.requires.1 c.requires.2 c.requires.3 in omega arith

pub overflow_sub-result : goal.overflow_sub-result
overflow_sub-result c = let k = quotient c.args.x c.args.p c.args.reciprocal c.requires.0 c.requires.1 c.requires.2 c.requires.3 in omega arith

pub returns : goal.returns
returns c = let k = quotient c.args.x c.args.p c.args.reciprocal c.requires.0 c.requires.1 c.requires.2 c.requires.3 in omega arith
