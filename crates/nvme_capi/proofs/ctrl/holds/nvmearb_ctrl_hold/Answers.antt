use Rattle.std.proofs.Common.{◌≡◌, ◌∙◌, true, false, sym}
use Rattle.nvme_capi.proofs.ctrl.holds.nvmearb_ctrl_hold.Goals as goal

pub returns-then-hold-clause-may : goal.returns-then-hold-clause-may
returns-then-hold-clause-may c = λ rules late notes slots s _. (c.hold.ensures.answer rules late notes slots s).0 c.if-hold.true

pub returns-then-hold-clause-stands : goal.returns-then-hold-clause-stands
returns-then-hold-clause-stands c = λ rules late notes slots s _. c.hold.ensures.stands rules late notes slots s c.if-hold.true

pub returns-then-hold-clause-kept : goal.returns-then-hold-clause-kept
returns-then-hold-clause-kept c = λ slots k. record { front = λ m n. c.hold.ensures.front slots (k.front m n) }

pub returns-else-hold-clause-nothing : goal.returns-else-hold-clause-nothing
returns-else-hold-clause-nothing c = λ rules late notes slots s _ may.
    let lost : true ≡ false = sym ((c.hold.ensures.answer rules late notes slots s).1 may) ∙ c.if-hold.false in
    cc lost

pub returns-else-hold-clause-kept : goal.returns-else-hold-clause-kept
returns-else-hold-clause-kept c = λ slots k. record { front = λ m n. c.hold.ensures.front slots (k.front m n) }
