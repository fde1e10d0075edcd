use Rattle.std.proofs.Common.{◌≡◌, ◌∙◌, Err, ap, sym}
use Rattle.std.proofs.lemmas.Result.{err_from_is_err_and}
use Rattle.nvme_front.specs.declared.front.FrontError.TheVariants.{LogFull}
use Rattle.nvme_front.proofs.States.{IsSame-refl}
use Rattle.nvme_front.proofs.RunningFacts.{has_engine, told_next, told_lacks, told_has}
use Rattle.nvme_front.proofs.Picking.{needs_places}
use Rattle.nvme_front.proofs.state.FrontState.pick.Goals as goal

pub next_pick-requires : goal.next_pick-requires
next_pick-requires c = record { engine = has_engine c.args.self.now (c.requires.consistent.running c.requires.admin) }

pub returns-in_default-clause-idle : goal.returns-in_default-clause-idle
returns-in_default-clause-idle c = λ _.
    let s = c.args.self.now in
    let k = c.requires.consistent.running c.requires.admin in
    (IsSame-refl s, told_next s k c.next_pick.result c.next_pick.ensures ∙ c.in_default.is)

pub returns-then-lacks_places-clause-stalled : goal.returns-then-lacks_places-clause-stalled
returns-then-lacks_places-clause-stalled c = λ _.
    let s = c.args.self.now in
    let k = c.requires.consistent.running c.requires.admin in
    let next = told_next s k c.next_pick.result c.next_pick.ensures ∙ c.in-Some.is in
    (IsSame-refl s, needs_places s c.in-Some.pick next (told_lacks s k c.in-Some.pick c.lacks_places.result c.lacks_places.ensures c.if-lacks_places.true))

pub pick_next-requires-clause-next : goal.pick_next-requires-clause-next
pick_next-requires-clause-next c =
    let k = c.requires.consistent.running c.requires.admin in
    told_next c.args.self.now k c.next_pick.result c.next_pick.ensures ∙ c.in-Some.is

pub pick_next-requires-clause-places : goal.pick_next-requires-clause-places
pick_next-requires-clause-places c =
    let s = c.args.self.now in
    let k = c.requires.consistent.running c.requires.admin in
    told_has s k c.in-Some.pick c.lacks_places.result c.lacks_places.ensures c.if-lacks_places.false

pub returns-in_err-pick_next-clause-full : goal.returns-in_err-pick_next-clause-full
returns-in_err-pick_next-clause-full c = λ e.
    let p = err_from_is_err_and c.from_residual.result c.from_residual.ensures.1 in
    let full : p.0 ≡ LogFull = cc (p.1, e) in
    c.in_err-pick_next.ensures.full (ap Err (sym p.2 ∙ full))
