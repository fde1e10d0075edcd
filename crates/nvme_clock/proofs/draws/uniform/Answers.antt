use Rattle.std.proofs.Common.{◌≡◌, ◌∙◌, ℕ, ◌-◌, true, false, nat_lt, ap, sym, arith}
use Rattle.nvme_clock.specs.Draws.{accepted_below, uniform_from}
use Rattle.nvme_clock.proofs.Turns.{uniform_hit, uniform_last, uniform_miss}
use Rattle.nvme_clock.proofs.draws.uniform.Goals as goal

pub returns-then-is_accepted-clause-value : goal.returns-then-is_accepted-clause-value
returns-then-is_accepted-clause-value g c =
    let hit : nat_lt c.next_u64-word.result (accepted_below c.args.bound) ≡ true = sym c.is_accepted.ensures ∙ c.if-is_accepted.true in
    uniform_hit c.loop-turn._turn c.args.bound c.next_u64-word.result _ _ (omega arith) c.next_u64-word.ensures hit ∙ c.loop-turn.invariant

pub loop-turn-preserved : goal.loop-turn-preserved
loop-turn-preserved g c =
    let miss : nat_lt c.next_u64-word.result (accepted_below c.args.bound) ≡ false = sym c.is_accepted.ensures ∙ c.if-is_accepted.false in
    uniform_miss c.loop-turn._turn c.args.bound c.next_u64-word.result _ _ (omega arith) c.next_u64-word.ensures miss ∙ c.loop-turn.invariant

pub returns-clause-value : goal.returns-clause-value
returns-clause-value g c =
    let done : 0 ≡ 64 - c.loop-turn._turn = omega arith in
    uniform_last c.args.bound c.next_u64.result _ _ c.next_u64.ensures
    ∙ (ap (λ (n : ℕ). uniform_from n c.args.bound (g.R.Rng.stream c.loop-turn.rng)) done ∙ c.loop-turn.invariant)
