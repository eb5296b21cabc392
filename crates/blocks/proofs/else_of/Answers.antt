-- The Else of an If is the instruction before its target, if it stands after the If.
use Rattle.std.proofs.Common.{◌+◌, ◌-◌, arith}
use Rattle.bytecode.specs.Meaning.{chunk_of}
use Rattle.stretch.proofs.Codes.{instr_here, no_instr, leads_here}
use Rattle.blocks.proofs.Laws.{else_behind, else_past, else_by_code}
use Rattle.blocks.proofs.else_of.Goals as goal
use Rattle.blocks.proofs.else_of.Goals.{then-target-ip-via-then-target-ip, then-target-ip-via-else-target-ip+then-chunk-target}

pub returns-then-target-ip : goal.returns-then-target-ip
returns-then-target-ip c k h =
    let a = c.args in
    elim c.then-target-ip.branch [
      | then-target-ip-via-then-target-ip w ↦ else_behind (chunk_of a.t.now k) a.ip a.target (omega arith)
      | then-target-ip-via-else-target-ip+then-chunk-target w ↦ else_past (chunk_of a.t.now k) a.ip a.target (omega arith) (no_instr a.t.now k a.chunk.first a.chunk.count (a.target - 1) h.0 h.1 (omega arith))
    ]

pub returns : goal.returns
returns c k h =
    let a = c.args in
    let i = c.instr_at-i in
    else_by_code (chunk_of a.t.now k) a.ip a.target _ (instr_here a.t.now k a.chunk.first a.chunk.count (a.target - 1) h.0 h.1 (omega arith)) (omega arith) i.result.code i.result.a i.ensures.code_low
    (leads_here a.t.now (a.chunk.first + (a.target - 1)) i.result i.ensures) _ c.then_some.ensures
