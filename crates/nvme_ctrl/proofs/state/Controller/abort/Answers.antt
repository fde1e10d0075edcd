use Rattle.std.proofs.Common.{◌<◌, ◌∙◌, ap, sym, subst}
use Rattle.std.proofs.lemmas.Option.{same_Some}
use Rattle.std.specs.Prelude.{◌==◌, IsSomeAnd}
use Rattle.nvme_arbiter.specs.Layout.{board_of}
use Rattle.nvme_arbiter.specs.Board.{BoardStandsAt}
use Rattle.nvme_arbiter.specs.Queues.{queue_at}
use Rattle.nvme_arbiter.specs.declared.pick.OpenQueue.{OpenQueue}
use Rattle.nvme_placing.specs.Telling.{unplaced}
use Rattle.nvme_admin.specs.declared.verdict.SqEntry.{SqEntry}
use Rattle.nvme_ctrl.specs.declared.state.Controller.{Controller}
use Rattle.nvme_ctrl.specs.kept.Kept.{tags_of}
use Rattle.nvme_ctrl_log.proofs.ToldQueues.{told_none}
use Rattle.nvme_ctrl.proofs.Aborting.{told_queue, none_left, chain_there, went_some, WentBoard, requested_one, few_unposted_more, few_outstanding_more}
use Rattle.nvme_slots.proofs.Generations.{left_both, items_left}
use Rattle.nvme_ctrl.proofs.state.Controller.abort.Goals as goal

pub returns-in_default-clause-none_named : goal.returns-in_default-clause-none_named
returns-in_default-clause-none_named c = λ rules notes k g _ h none may entry io is not_closing.
    let gone = told_none c.sq.result (k.table.sq c.args.sqid) (c.sq.ensures.told k.table h.numbers.tells) c.in_default.is in
    absurd (cc (gone, is))

pub returns-in_default-take_named-clause-none_named : goal.returns-in_default-take_named-clause-none_named
returns-in_default-take_named-clause-none_named c = λ rules notes k g _ h none may entry io is not_closing.
    let life = (may entry io is not_closing).there in
    let chain = chain_there rules notes c.args.self.now c.args.slots.now k g c.args.sqid entry.region c.sq-sq.result h life c.sq-sq.ensures in
    none_left rules notes c.args.self.now c.args.slots.now k g c.args.cid c.args.sqid entry.region h none life
    (sym (c.take_named.ensures.named (tags_of (g.windows entry.region)) chain) ∙ c.in_default-take_named.is)

pub returns-clause-aborted : goal.returns-clause-aborted
returns-clause-aborted c = λ rules notes k g y _ h none may other.
    let t = told_queue c.args.self.now.table k.table h.numbers.tells c.args.sqid c.in-Some.queue (sym c.sq.ensures.exact ∙ c.in-Some.is) in
    let not_closing = ap (λ (e : SqEntry). e.closing) (sym t.same) ∙ c.if-queue.false in
    let ab = may t.entry c.if-sqid-eq0.false t.there not_closing in
    let r = t.entry.region in
    let chain = chain_there rules notes c.args.self.now c.args.slots.now k g c.args.sqid r c.sq-sq.result h ab.there c.sq-sq.ensures in
    let xs = tags_of (g.windows r) in
    let named = sym (c.take_named.ensures.named xs chain) ∙ c.in-Some-take_named.is in
    let went = c.went.ensures.went (λ not_held. subst (λ (x : Controller). IsSomeAnd (queue_at (board_of x.board).queues c.args.sqid) (λ (queue : OpenQueue). 0 < queue.count)) (sym c.put_sq.ensures)
    (went_some rules notes c.args.self.now c.args.slots.now k g c.args.sqid c.args.cid h none t.entry ab c.in-Some-take_named.x named c.sq-sq.result c.sq-sq.ensures not_held)) in
    requested_one rules notes c.args.self.now c.args.slots.now k g c.args.sqid c.args.cid h none t.entry ab c.in-Some-take_named.x
    (sym (c.take_named.ensures.named xs chain) ∙ c.in-Some-take_named.is) c.if-sqid-eq0.false t.there not_closing y other
    c.sq-sq.result c.take_named.new.self c.take_named.new.slots c.saturating_add.result c.saturating_add-self.result c.went.new.board _ c.end.new.self c.end.new.slots c.sq-sq.ensures
    (c.take_named.ensures.rest xs chain) c.take_named.ensures.items (c.take_named.ensures.links xs chain)
    (c.saturating_add.ensures ∙ few_unposted_more rules notes c.args.self.now c.args.slots.now k g c.args.sqid c.args.cid t.entry c.sq-sq.result h ab c.sq-sq.ensures)
    (c.saturating_add-self.ensures
    ∙ few_outstanding_more rules notes c.args.self.now c.put_sq.new.self c.args.slots.now k g c.args.sqid c.args.cid t.entry h none ab c.in-Some-take_named.x
    (sym (c.take_named.ensures.named xs chain) ∙ c.in-Some-take_named.is) (ap (λ (x : Controller). x.outstanding) c.put_sq.ensures))
    (subst (λ (x : Controller). WentBoard x.board c.went.new.board c.args.sqid (c.sq-sq.result.held == 1)) c.put_sq.ensures went)
    (c.went.ensures.arbiter ∙ ap (λ (x : Controller). x.board.arbiter) c.put_sq.ensures)
    (λ mechanism first past stands. c.went.ensures.stands mechanism first past (subst (λ (x : Controller). BoardStandsAt mechanism first past (board_of x.board)) (sym c.put_sq.ensures) stands))
    (ap (λ (x : Controller). record x { board = c.went.new.board; outstanding = c.saturating_add-self.result }) c.put_sq.ensures)
    c.end.ensures.kept c.end.ensures.size c.end.ensures.others

pub returns-then-queue-clause-none_named : goal.returns-then-queue-clause-none_named
returns-then-queue-clause-none_named c = λ rules notes k g _ h none may entry io is not_closing.
    let t = told_queue c.args.self.now.table k.table h.numbers.tells c.args.sqid c.in-Some.queue (sym c.sq.ensures.exact ∙ c.in-Some.is) in
    let one = same_Some t.entry entry (sym t.there ∙ is) in
    let closes = c.if-queue.true in
    let opened = ap (λ (e : SqEntry). e.closing) (t.same ∙ ap unplaced one) ∙ not_closing in
    absurd (cc (closes, opened))

pub returns-clause-generations : goal.returns-clause-generations
returns-clause-generations c =
    left_both c.args.slots.now c.take_named.new.slots c.end.new.slots (items_left c.args.slots.now c.take_named.new.slots c.take_named.ensures.items) c.end.ensures.generations
