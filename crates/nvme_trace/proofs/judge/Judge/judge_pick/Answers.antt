use Rattle.std.proofs.Common.{◌≡◌, ◌∷◌, Some, sym, subst, rules}
use Rattle.nvme_arbiter.specs.Standing.{StandsAt}
use Rattle.nvme_arbiter.specs.History.{Picked}
use Rattle.nvme_arbiter.specs.declared.pick.Pick.{Pick}
use Rattle.nvme_trace.specs.Taken.{as_written}
use Rattle.nvme_trace.proofs.JudgeLemmas.{at_some}
use Rattle.nvme_trace.proofs.TakenLemmas.{stands_told}
use Rattle.nvme_trace.proofs.judge.Judge.judge_pick.Goals as goal

pub returns-then-eq-clause-stands : goal.returns-then-eq-clause-stands
returns-then-eq-clause-stands c = λ m first past h.
    let kept : c.args.self.now.kept ≡ c.self.inside.arbiter = cc in
    let stood = subst (StandsAt m first past) kept h in
    let same : c.pick_within-lawful.result ≡ Some c.as_written.result = search rules in
    let written : c.as_written.result ≡ as_written m past c.args.picked = c.as_written.ensures.stands m first past (subst (StandsAt m first past) (sym c.parts-kept.ensures) stood) in
    stands_told m first past c.args.seen.now c.args.picked c.pick_within-lawful.new.arbiter
    (subst (λ (pick : Pick). StandsAt m first (Picked c.args.seen.now pick ∷ past) c.pick_within-lawful.new.arbiter) written
    (at_some _ (λ pick. StandsAt m first (Picked c.args.seen.now pick ∷ past) c.pick_within-lawful.new.arbiter) c.pick_within-lawful.result c.as_written.result (c.pick_within-lawful.ensures.stands m first past stood) same))
