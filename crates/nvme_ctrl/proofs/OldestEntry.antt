-- The command that the next pick of the admin queue takes is the oldest of its slots.
use Rattle.std.proofs.Common.{◌≡◌, ℕ, ◌<◌, ◌≤◌, Bool, List, ◌∷◌, length, map, drop, Some, sym, ap, ◌∙◌, subst, arith}
use Rattle.std.specs.List.{All}
use Rattle.std.proofs.lemmas.Option.{same_Some}
use Rattle.std.proofs.lemmas.List.Elements.{All-head}
use Rattle.nvme_entry.specs.declared.submission.Sqe.{Sqe}
use Rattle.nvme_arbiter.specs.Lawful.{lawful_pick}
use Rattle.nvme_arbiter.specs.declared.pick.Pick.{Pick}
use Rattle.nvme_arbiter.specs.declared.pick.Seen.{Seen}
use Rattle.nvme_log.specs.Histories.{admin_entry, arbitration_of}
use Rattle.nvme_log.specs.Queues.{Queue, admin_queue, open_sq}
use Rattle.nvme_log.specs.Rules.{FrontRules, Past}
use Rattle.nvme_ctrl_log.specs.Notes.{Notes, logged}
use Rattle.nvme_ctrl_log.specs.Steps.{IsNextPick}
use Rattle.nvme_slots.specs.declared.slot.Slot.{Slot}
use Rattle.nvme_ctrl.specs.declared.state.Controller.{Controller}
use Rattle.nvme_ctrl.specs.inside.Picks.{oldest_entry}
use Rattle.nvme_ctrl_content.specs.Content.{Candidate, Content}
use Rattle.nvme_ctrl.specs.kept.Kept.{Item, Items, IsWaitingIn, StandsAt, tags_of, candidate_of}
use Rattle.nvme_slots.specs.Pool.{slot_at, IsChain}
use Rattle.nvme_ctrl.specs.kept.State.{sq_at}
use Rattle.nvme_ctrl.proofs.AdminCall.{IsSplit, split, length-candidates}
use Rattle.nvme_ctrl_content.proofs.Observing.{IsPickable, pickable, seen_is_observed}
use Rattle.nvme_ctrl_content.proofs.Oldest.{admin_entry_is}
use Rattle.nvme_ctrl_content.proofs.OpenQueues.{admin_is_open}
use Rattle.nvme_arbiter.proofs.PickLaws.{whole_is_limited}
use Rattle.nvme_arbiter.specs.Queues.{seen_of}
use Rattle.nvme_slots.proofs.Pools.{linked-head}
use Rattle.nvme_ctrl.proofs.QueueStates.{none_picked_of}

module _ (rules : FrontRules) (late : Bool) (notes : Notes) (c : Controller) (slots : List Slot) (s : StandsAt rules late notes c slots)
    (none : c.picked ≡ 0) (whole : Pick) (next : IsNextPick rules notes (Some whole)) where
  abbrev past : Past
  past = logged notes

  abbrev k : Content
  k = s.content

  abbrev g : Items
  g = s.items

  can_be : IsPickable past k whole
  can_be = pickable rules.mechanism rules.start.settings (arbitration_of past) past k whole s.holds.queues s.holds.arbitration.stands.observed
      (whole_is_limited rules.mechanism rules.start.settings (arbitration_of past) (seen_of k.board.queues) whole s.holds.arbitration.stands.observed
      (ap (λ (xs : List Seen). lawful_pick rules.mechanism rules.start.settings (arbitration_of past) xs) (seen_is_observed notes k s.holds.regions s.holds.queues s.shown) ∙ sym next))

  -- ---- a pick of the admin queue
  module _ (first_is : whole.qid ≡ 0) where
    queue_is : can_be.queue ≡ admin_queue
    queue_is =
        let attached = s.holds.queues.attached whole.qid can_be.queue can_be.is_open in
        let below = s.holds.queues.sq_there can_be.queue.region (record { qid = whole.qid; cq_region = attached.cq_region }) attached.attached in
        let some : 0 < k.nsq = omega (arith, below) in
        same_Some can_be.queue admin_queue (sym can_be.is_open ∙ ap (open_sq past) first_is ∙ admin_is_open rules late past k s.holds some)

    window_all : (k.sq 0).window ≡ map candidate_of (g.windows 0)
    window_all = s.has.windows.are 0 ∙ ap (λ (n : ℕ). map candidate_of (drop n (g.windows 0))) (none_picked_of c (k.sq_id 0) none)

    -- its oldest command
    oldest : IsSplit (g.windows 0)
    oldest = split (g.windows 0) (
        let one = can_be.at_least_one in
        let enough : whole.n ≤ length (k.sq 0).window = subst (λ (q : Queue). whole.n ≤ length (k.sq q.region).window) queue_is can_be.enough in
        let all = ap (λ (w : List Candidate). length w) window_all in
        let same = length-candidates (g.windows 0) in
        omega (arith, one, enough, all, same))

    abbrev x : Item
    x = oldest.first

    -- has the entry of its slot in the log
    in_slot : oldest_entry c slots ≡ x.entry
    in_slot =
        let linked : IsChain slots (sq_at c.sqs 0).window (x.tag ∷ tags_of oldest.rest) =
        subst (λ (its : List Item). IsChain slots (sq_at c.sqs 0).window (tags_of its)) oldest.is (s.has.windows.chain 0 0 s.numbers.sqs.ids.admin) in
        let waits : IsWaitingIn slots 0 0 x = All-head (IsWaitingIn slots 0 0) x oldest.rest (subst (All (IsWaitingIn slots 0 0)) oldest.is (s.has.windows.items 0 0 s.numbers.sqs.ids.admin)) in
        ap (λ (z : ℕ). (slot_at slots z).entry) (linked-head slots (sq_at c.sqs 0).window.first (sq_at c.sqs 0).window.last x.tag (tags_of oldest.rest) linked.linked) ∙ waits.entry

    pub entry_is : Some (oldest_entry c slots) ≡ admin_entry past
    entry_is =
        ap (λ (e : Sqe). Some e) in_slot
        ∙ sym (admin_entry_is past (k.sq 0) (candidate_of x) (map candidate_of oldest.rest) (s.holds.regions 0) (window_all ∙ ap (λ (its : List Item). map candidate_of its) oldest.is))
