use Rattle.std.proofs.Common.{◌≡◌, ◌∙◌, true, inl, inr, ap, sym, subst, arith}
use Rattle.nvme_simulation.specs.Plans.{picks_behind}
use Rattle.nvme_simulation.specs.Stepping.{HasStepped}
use Rattle.nvme_simulation.proofs.Handling.{stands_on}
use Rattle.nvme_simulation.proofs.Stepping.{if_ok, settled_is}
use Rattle.nvme_simulation.proofs.simulation.Simulation.go_on.Goals as goal

pub returns-then-not-self-clause-stands : goal.returns-then-not-self-clause-stands
returns-then-not-self-clause-stands c = stands_on _ _ c.advance.ensures.same c.requires.stands

pub returns-then-not-self-clause-goes : goal.returns-then-not-self-clause-goes
returns-then-not-self-clause-goes c = if_ok _ _ c.advance.result (λ h s. inl s) c.advance.ensures.steps

pub returns-in_err-happening-clause-stands : goal.returns-in_err-happening-clause-stands
returns-in_err-happening-clause-stands c = stands_on _ _ c.pick.ensures.same c.requires.stands

pub returns-then-self-clause-stands : goal.returns-then-self-clause-stands
returns-then-self-clause-stands c = stands_on _ _ c.pick.ensures.same c.requires.stands

pub returns-then-self-clause-goes : goal.returns-then-self-clause-goes
returns-then-self-clause-goes c = inl c.in_ok-happening.ensures.steps

pub advance-requires-2-clause-front : goal.advance-requires-2-clause-front
advance-requires-2-clause-front c = (stands_on _ _ c.pick.ensures.same c.requires.stands).front

pub returns-clause-stands : goal.returns-clause-stands
returns-clause-stands c = stands_on _ _ c.advance-2.ensures.same (stands_on _ _ c.pick.ensures.same c.requires.stands)

pub returns-clause-goes : goal.returns-clause-goes
returns-clause-goes c =
    let told = c.in_ok-happening.happening in
    let picks : c.args.self.now.picks ≡ true = grind (arith, c.if-not-self.false) in
    let behind = ap (picks_behind told) (sym picks) ∙ sym c.in_ok-happening.ensures.steps.picks ∙ c.if-self.false in
    let settled = subst (λ h. HasStepped c.args.self.now c.pick.new.self h) (settled_is told behind) c.in_ok-happening.ensures.steps in
    if_ok _ _ c.advance-2.result (λ h s. inr (_, (settled, s))) c.advance-2.ensures.steps
