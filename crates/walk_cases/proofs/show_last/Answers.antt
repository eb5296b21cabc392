use Rattle.std.proofs.Common.{◌≡◌, ℕ, arith, ap, ◌∙◌}
use Rattle.stretch.specs.Stretch.{leads}
use Rattle.stretch.proofs.Codes.{leads_here}
use Rattle.walk_cases.proofs.show_last.Goals as goal

pub last_pass-requires-clause-inside : goal.last_pass-requires-clause-inside
unfolding leads
last_pass-requires-clause-inside g c = (
  omega (arith, c.if-exit-ip.false),
  omega (arith, c.if-x-exit.false),
  leads_here _ _ c.instr_at-code.result c.instr_at-code.ensures ∙ ap (λ (j : ℕ). leads j c.instr_at-code.result.a) c.if-code-ne-LOOP.false,
)
