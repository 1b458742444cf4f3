use native.Mathlib.Omega.{arith}
use Rattle.statement.proofs.Locals as laws
use Rattle.statement.proofs.declare_local.Goals as goal

pub returns-then-earlier-gt0-clause-effect : goal.returns-then-earlier-gt0-clause-effect
returns-then-earlier-gt0-clause-effect c = laws.local_kept _ _ _ _ _ _ _ c.word-name.ensures c.requires.1 _ c.word_of-earlier.ensures c.if-earlier-gt0.true c.error_at.ensures c.report.ensures.effect

pub returns-clause-effect : goal.returns-clause-effect
returns-clause-effect c = laws.local_new _ _ _ _ _ _ _ c.word-name.ensures c.requires.1 _ c.word_of-earlier.ensures (omega (arith, c.if-earlier-gt0.false)) c.set_word.ensures
