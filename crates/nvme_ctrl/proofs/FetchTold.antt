-- What may be fetched by the log is told: the controller sees that it may.
use Rattle.std.proofs.Common.{◌≡◌, ◌≢◌, ℕ, ◌%◌, Bool, List, [], ◌∷◌, length, Option, Some, None, sym, ap, ◌∙◌, arith}
use Rattle.std.proofs.lemmas.Bool.{le-leb}
use Rattle.nvme_log.specs.Rules.{FrontRules}
use Rattle.nvme_log.specs.Places.{fetched}
use Rattle.nvme_ctrl_log.specs.Notes.{Notes, logged}
use Rattle.nvme_ctrl_log.specs.Doorbells.{gap, submitted}
use Rattle.nvme_slots.specs.Rings.{HasCounts}
use Rattle.nvme_ctrl.specs.Calls.{depth_of}
use Rattle.nvme_ctrl_log.specs.Calls.{MayFetch}
use Rattle.nvme_slots.specs.declared.chain.Chain.{Chain}
use Rattle.nvme_slots.specs.declared.ring.Ring.{Ring}
use Rattle.nvme_slots.specs.declared.slot.Slot.{Slot}
use Rattle.nvme_ctrl.specs.declared.state.Controller.{Controller}
use Rattle.nvme_ctrl.specs.inside.Fetching.{IsFetchable}
use Rattle.nvme_ctrl.specs.kept.Kept.{StandsAt}
use Rattle.nvme_slots.specs.Pool.{IsChain}
use Rattle.nvme_ctrl.specs.kept.State.{sq_at}
use Rattle.nvme_ctrl.proofs.DoorbellCalls.{open_unclosing, sq_lives, slots_are}
use Rattle.nvme_ctrl.proofs.FetchCalls.{waits}
use Rattle.nvme_slots.proofs.Turns.{filled-is}

-- nothing is in a ring whose head is at its tail
drained : (ring : Ring) → ring.head ≡ ring.tail → gap ring.slots ring.head ring.tail ≡ 0
drained ring same = rw (le-leb ring.head ring.tail (omega (arith, same))) (omega (arith, same))

module _ (rules : FrontRules) (late : Bool) (notes : Notes) (c : Controller) (slots : List Slot) (s : StandsAt rules late notes c slots)
    (qid slot : ℕ) (m : MayFetch rules notes (depth_of c qid) (length slots) qid slot)
  where
    told_life : s.content.sq_life qid ≡ Some m.queue.region
    told_life = sq_lives rules late notes c slots s qid m.queue m.is_open

    counted : HasCounts (sq_at c.sqs qid).ring (length (fetched (logged notes) m.queue.region)) (submitted rules notes m.queue.region)
    counted = s.doorbells.sqs.each qid m.queue.region told_life

    -- so the controller sees that it may be fetched
    pub is_fetchable : IsFetchable c qid
    is_fetchable =
        let r = m.queue.region in
        record {
          not_closing = open_unclosing rules late notes c slots s qid m.queue m.is_open;
          some_free = λ zero. (let count = s.tags.free_count in let some = m.some_free in omega (arith, zero, count, some));
          some_submitted = λ same. (let all = filled-is (sq_at c.sqs qid).ring (length (fetched (logged notes) r)) (submitted rules notes r) counted in
              let none = drained (sq_at c.sqs qid).ring same in let more = m.submitted in omega (arith, all, none, more));
          in_depth = (let w = waits rules late notes c slots s qid r told_life in let u = (s.numbers.sqs.each qid r told_life).unposted in let all = s.holds.counts.unposted r in let room = m.in_depth in omega (arith, w, u, all, room));
          room = rw (← waits rules late notes c slots s qid r told_life, slots_are rules late notes c slots s qid r told_life) m.has_room;
        }

    -- and the slot is the head of its ring
    pub slot_told : (sq_at c.sqs qid).ring.head ≡ slot
    slot_told =
        let r = m.queue.region in
        counted.head_is ∙ ap (λ (n : ℕ). length (fetched (logged notes) r) % n) (slots_are rules late notes c slots s qid r told_life) ∙ sym m.slot_is

-- a free slot is taken where there is one
pub some_popped : (slots : List Slot) (chain : Chain) (xs : List ℕ) (o : Option ℕ) → IsChain slots chain xs → chain.len ≢ 0
    → ((x : ℕ) (rest : List ℕ) → IsChain slots chain (x ∷ rest) → o ≡ Some x) → o ≡ None → ⊥
some_popped slots chain [] o h some is none = some h.len_is
some_popped slots chain (x ∷ rest) o h some is none = (let here = is x rest h in cc)
