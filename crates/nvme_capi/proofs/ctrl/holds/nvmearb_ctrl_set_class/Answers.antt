use Rattle.std.proofs.Common.{◌≡◌, ◌∙◌, ◌∷◌, true, false, sym, subst}
use Rattle.std.proofs.lemmas.Option.{same_Some}
use Rattle.nvme_arbiter.specs.declared.settings.Class.{Class}
use Rattle.nvme_ctrl_log.specs.Notes.{Classed}
use Rattle.nvme_ctrl_log.specs.Account.{MayBeClassed}
use Rattle.nvme_ctrl.specs.Standing.{Stands}
use Rattle.nvme_capi.proofs.ctrl.holds.nvmearb_ctrl_set_class.Goals as goal

pub returns-then-set_class-clause-may : goal.returns-then-set_class-clause-may
returns-then-set_class-clause-may c = λ rules late notes slots s _ class is.
    let same : c.in-Some.class ≡ class = same_Some c.in-Some.class class (sym c.in-Some.is ∙ c.io_class.ensures ∙ is) in
    subst (λ (x : Class). MayBeClassed notes c.args.qid x) same ((c.set_class.ensures.answer rules late notes slots s).0 c.if-set_class.true)

pub returns-then-set_class-clause-stands : goal.returns-then-set_class-clause-stands
returns-then-set_class-clause-stands c = λ rules late notes slots s _ class is.
    let same : c.in-Some.class ≡ class = same_Some c.in-Some.class class (sym c.in-Some.is ∙ c.io_class.ensures ∙ is) in
    subst (λ (x : Class). Stands rules late (Classed c.args.qid x ∷ notes) c.set_class.new.self slots) same (c.set_class.ensures.stands rules late notes slots s c.if-set_class.true)

pub returns-then-set_class-clause-kept : goal.returns-then-set_class-clause-kept
returns-then-set_class-clause-kept c = λ slots k. record { front = λ m n. c.set_class.ensures.front slots (k.front m n) }

pub returns-else-set_class-clause-nothing : goal.returns-else-set_class-clause-nothing
returns-else-set_class-clause-nothing c = λ rules late notes slots s _ class is may.
    let same : class ≡ c.in-Some.class = same_Some class c.in-Some.class (sym is ∙ sym c.io_class.ensures ∙ c.in-Some.is) in
    let lost : true ≡ false = sym ((c.set_class.ensures.answer rules late notes slots s).1 (subst (λ (x : Class). MayBeClassed notes c.args.qid x) same may)) ∙ c.if-set_class.false in
    cc lost

pub returns-else-set_class-clause-kept : goal.returns-else-set_class-clause-kept
returns-else-set_class-clause-kept c = λ slots k. record { front = λ m n. c.set_class.ensures.front slots (k.front m n) }
