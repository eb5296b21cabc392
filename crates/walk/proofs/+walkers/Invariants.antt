use Rattle.std.proofs.Common.{◌≡◌, ◌-◌, ◌*◌}
use Rattle.frame.specs.Model.{state_of}
use Rattle.stretch.specs.Stretch.{sheets_of}
use Rattle.blocks.specs.Outcomes.{standing}
use Rattle.walk.proofs.Cycle.{Walking, Passing}
use Rattle.walk.proofs.+walkers.Given as goal

abbrev pub decreases-interp_region : goal.decreases-interp_region
decreases-interp_region l = 8 * (l.x.now.code.count - l.ips.start)

abbrev pub decreases-block_at : goal.decreases-block_at
decreases-block_at l = 8 * (l.v.now.x.now.code.count - l.v.now.ip) - 1

abbrev pub decreases-if_at : goal.decreases-if_at
decreases-if_at l = 8 * (l.v.now.x.now.code.count - l.v.now.ip) - 2

abbrev pub decreases-loop_at : goal.decreases-loop_at
decreases-loop_at l = 8 * (l.v.now.x.now.code.count - l.v.now.ip) - 2

abbrev pub decreases-one_arm : goal.decreases-one_arm
decreases-one_arm l = 8 * (l.v.now.x.now.code.count - l.v.now.ip) - 4

abbrev pub decreases-two_arms : goal.decreases-two_arms
decreases-two_arms l = 8 * (l.v.now.x.now.code.count - l.v.now.ip) - 4

abbrev pub decreases-passes_at : goal.decreases-passes_at
decreases-passes_at l = 8 * (l.v.now.x.now.code.count - l.v.now.ip) - 3

abbrev pub decreases-last_pass : goal.decreases-last_pass
decreases-last_pass l = 8 * (l.v.now.x.now.code.count - l.v.now.ip) - 4

abbrev pub invariant-interp_region-loop-ip : goal.invariant-interp_region-loop-ip
invariant-interp_region-loop-ip l =
    Walking l.x l.ips.start l.ips.end l.floor.height (standing l.x.locals.count l.initial.s.state l.initial.b l.initial.heights l.initial.blinds) l.ip (standing l.x.locals.count l.s.state l.b l.heights l.blinds)

abbrev pub decreases-interp_region-loop-ip : goal.decreases-interp_region-loop-ip
decreases-interp_region-loop-ip l = l.ips.end - l.ip

abbrev pub invariant-passes_at-passes : goal.invariant-passes_at-passes
invariant-passes_at-passes l =
    (state_of l.x.locals.count l.s.state ≡ state_of l.x.locals.count l.head.state)
    × Passing l.x l.ip l.target l.initial.s.state (sheets_of l.initial.heights l.initial.blinds) (sheets_of l.heights l.blinds) l.head.state l.left

abbrev pub decreases-passes_at-passes : goal.decreases-passes_at-passes
decreases-passes_at-passes l = l.left
