use Rattle.std.proofs.Common.{◌≡◌, length}
use Rattle.stretch.specs.Stretch.{sheets_of}
use Rattle.stretch.proofs.Laws.{Running}
use Rattle.stretch.proofs.step.Given as goal

abbrev pub invariant-loop-ip : goal.invariant-loop-ip
invariant-loop-ip l = (length l.heights ≡ length l.initial.heights) × (length l.blinds ≡ length l.initial.blinds) ×
    Running l.x l.ips.start l.ips.end l.floor.height l.initial.s.state (sheets_of l.initial.heights l.initial.blinds) l.ip l.s.state (sheets_of l.heights l.blinds)
