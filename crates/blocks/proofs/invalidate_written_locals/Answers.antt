-- The locals that are left to forget are those from p on, and the operands stay: a SetLocal's is forgotten, and any other instruction forgets none.
use Rattle.std.proofs.Common.{◌≡◌, ℕ, ◌+◌, List, sym, ap, ◌∙◌, arith}
use Rattle.definition.specs.Shapes.{Shape}
use Rattle.definition.specs.Effects.{set_local}
use Rattle.definition.specs.Walk.{State as AnyState, with_locals, forget}
use Rattle.bytecode.specs.Meaning.{chunk_of}
use Rattle.frame.specs.Model.{state_of, value_at, with_local}
use Rattle.frame.specs.Slots.{SameOperands}
use Rattle.blocks.specs.Visits.{SpanOf}
use Rattle.stretch.proofs.Codes.{instr_here}
use Rattle.blocks.proofs.Codes.{writes_local, writes_none}
use Rattle.blocks.proofs.Laws.{Forgetting, forget_local, forget_none, forgetting_more, forgetting_end}
use Rattle.blocks.proofs.invalidate_written_locals.Goals as goal
use Rattle.blocks.proofs.invalidate_written_locals.Goals.{then-i-eq-SET_LOCAL, else-i-eq-SET_LOCAL}

pub loop-p-preserved : goal.loop-p-preserved
loop-p-preserved c = (forgets, stay)
  where
    forgets : (k : ℕ) → SpanOf c.args.t.now k c.args.chunk → Forgetting (chunk_of c.args.t.now k) c.args.locals.count c.args.ips.start c.args.ips.end (c.loop-p.p + 1) c.args.s.now.state c.if-i-eq-SET_LOCAL.s.state
    forgets k h =
        let a = c.args in
        let l = c.loop-p in
        let i = c.instr_at-i in
        let S : AnyState = state_of a.locals.count l.s.state in
        let R : AnyState = state_of a.locals.count c.if-i-eq-SET_LOCAL.s.state in
        let here = instr_here a.t.now k a.chunk.first a.chunk.count l.p h.0 h.1 (omega arith) in
        let e : R ≡ with_locals S (forget (chunk_of a.t.now k) l.p 1 S.locals) = elim c.if-i-eq-SET_LOCAL.branch [
          | then-i-eq-SET_LOCAL w ↦ ap (λ (z : _). state_of a.locals.count z.state) w.s-is
              ∙ w.set_local.ensures.state
              ∙ ap (λ (v : Shape). with_local i.result.a v S) w.unknown_value.ensures
              ∙ ap (λ (ls : List Shape). with_locals S ls) (forget_local (chunk_of a.t.now k) l.p _ here S.locals i.result.a (ap set_local (sym i.ensures.same) ∙ writes_local i.result w.if-i-eq-SET_LOCAL.true))
          | else-i-eq-SET_LOCAL w ↦ ap (λ (z : _). state_of a.locals.count z.state) w.s-is
              ∙ ap (λ (ls : List Shape). with_locals S ls) (forget_none (chunk_of a.t.now k) l.p _ here S.locals (ap set_local (sym i.ensures.same) ∙ writes_none i.result i.ensures.code_low w.if-i-eq-SET_LOCAL.false))
        ] in
        forgetting_more (chunk_of a.t.now k) a.locals.count a.ips.start a.ips.end l.p a.s.now.state l.s.state c.if-i-eq-SET_LOCAL.s.state c.loop-p-test.true (l.invariant.0 k h) e

    stay : SameOperands c.args.s.now.state c.if-i-eq-SET_LOCAL.s.state
    stay j u = elim c.if-i-eq-SET_LOCAL.branch [
      | then-i-eq-SET_LOCAL w ↦ ap (λ (z : _). value_at z.state j) w.s-is ∙ w.set_local.ensures.operands j u ∙ c.loop-p.invariant.1 j u
      | else-i-eq-SET_LOCAL w ↦ ap (λ (z : _). value_at z.state j) w.s-is ∙ c.loop-p.invariant.1 j u
    ]

pub returns-clause-state : goal.returns-clause-state
returns-clause-state c k h = let a = c.args in let l = c.loop-p in forgetting_end (chunk_of a.t.now k) a.locals.count a.ips.start a.ips.end l.p a.s.now.state l.s.state (omega arith) (l.invariant.0 k h)
