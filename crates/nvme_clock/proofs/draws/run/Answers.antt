use Rattle.std.proofs.Common.{◌≡◌, ◌∙◌, ℕ, ◌-◌, true, false, nat_lt, ap, arith}
use Rattle.std.proofs.lemmas.Bool.Decides.{nat_tests}
use Rattle.nvme_clock.specs.Draws.{run_from}
use Rattle.nvme_clock.proofs.Turns.{run_ends, run_falls, run_full}
use Rattle.nvme_clock.proofs.draws.run.Goals as goal

pub returns-then-word-last : goal.returns-then-word-last
returns-then-word-last g c =
    let ends : nat_lt c.next_u64-word.result c.loop-turn.last ≡ false = grind (arith, nat_tests) in
    run_ends c.loop-turn._turn c.loop-turn.last c.next_u64-word.result c.loop-turn.odd _ _ (omega arith) c.next_u64-word.ensures ends
    ∙ c.loop-turn.invariant

pub loop-turn-preserved : goal.loop-turn-preserved
loop-turn-preserved g c =
    let falls : nat_lt c.next_u64-word.result c.loop-turn.last ≡ true = grind (arith, nat_tests) in
    run_falls c.loop-turn._turn c.loop-turn.last c.next_u64-word.result c.loop-turn.odd _ _ (omega arith) c.next_u64-word.ensures falls
    ∙ c.loop-turn.invariant

pub returns : goal.returns
returns g c =
    let done : 0 ≡ 64 - c.loop-turn._turn = omega arith in
    run_full c.loop-turn.odd c.loop-turn.last _
    ∙ (ap (λ (n : ℕ). run_from n c.loop-turn.odd c.loop-turn.last (g.R.Rng.stream c.loop-turn.rng)) done ∙ c.loop-turn.invariant)
