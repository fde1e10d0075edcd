use Rattle.std.proofs.Common.{◌≡◌, ◌∙◌, ℕ, ◌+◌, ◌-◌, ◌*◌, true, false, ap, arith, rules}
use Rattle.nvme_clock.specs.Draws.{exponential_from}
use Rattle.nvme_clock.proofs.Turns.{exponential_even, exponential_full, exponential_odd}
use Rattle.nvme_clock.proofs.draws.exponential.Goals as goal

pub returns-then-run-clause-value : goal.returns-then-run-clause-value
returns-then-run-clause-value g c =
    let is : c.run.result ≡ true = search rules in
    ap (λ (v : ℕ). (c.loop-turn.turn * c.args.mean + v, g.R.Rng.stream c.run.new.rng)) c.part.ensures.value
    ∙ (exponential_odd c.loop-turn.turn c.args.mean c.next_u64-first.result c.run.result _ _ _ (omega arith) c.next_u64-first.ensures c.run.ensures is
    ∙ c.loop-turn.invariant)

pub loop-turn-preserved : goal.loop-turn-preserved
loop-turn-preserved g c =
    let is : c.run.result ≡ false = search rules in
    exponential_even c.loop-turn.turn c.args.mean c.next_u64-first.result c.run.result _ _ _ (omega arith) c.next_u64-first.ensures c.run.ensures is
    ∙ c.loop-turn.invariant

pub returns-clause-value : goal.returns-clause-value
returns-clause-value g c =
    let done : 64 ≡ c.loop-turn.turn = omega arith in
    exponential_full c.args.mean 64 _
    ∙ (ap (λ (n : ℕ). exponential_from (64 - n) c.args.mean n (g.R.Rng.stream c.loop-turn.rng)) done ∙ c.loop-turn.invariant)
