use Rattle.std.proofs.Common.{refl}
use Rattle.std.proofs.lemmas.Bool.{eq-eqb, ne_eqb}
use Rattle.nvme_slots.proofs.Phases.{turned, unturned}
use Rattle.nvme_ctrl.proofs.state.CqState.write.Goals as goal
use Rattle.nvme_ctrl.proofs.state.CqState.write.Goals.{then-self-eq1, else-self-eq1}

pub returns-after-self-eq1-clause-phase : goal.returns-after-self-eq1-clause-phase
returns-after-self-eq1-clause-phase c read written h room was =
    let old = c.args.self.now.phase in
    turned c.write.new.self c.args.self.now.ring.slots read written old c.if-self-eq1.self (c.write.ensures.counts read written h room) c.write.ensures.slots c.if-self-eq0.true
    (elim c.if-self-eq1.branch [
      | then-self-eq1 w ↦ rw (w.self-is, eq-eqb old 1 w.if-self-eq1.true) refl
      | else-self-eq1 w ↦ rw (w.self-is, ne_eqb old 1 w.if-self-eq1.false) refl
    ])
    was

pub returns-else-self-eq0-clause-phase : goal.returns-else-self-eq0-clause-phase
returns-else-self-eq0-clause-phase c read written h room was =
    unturned c.write.new.self c.args.self.now.ring.slots read written c.args.self.now.phase (c.write.ensures.counts read written h room) c.write.ensures.slots c.if-self-eq0.false was
