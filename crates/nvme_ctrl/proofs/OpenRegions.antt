-- The regions of open queues are there, and so is the completion queue of a place whose completion is to be posted.
use Rattle.std.proofs.Common.{◌≡◌, ℕ, ◌<◌, ◌≤◌, ◌&&◌, not, nat_lt, Bool, true, false, List, [], ◌∷◌, length, Option, Some, None, refl, sym, ap, ◌∙◌, arith}
use Rattle.std.specs.Prelude.{option_map}
use Rattle.std.proofs.lemmas.Bool.{and_parts, and_from, false_from_ne_true, ltb-true}
use Rattle.std.proofs.lemmas.Option.{same_Some}
use Rattle.nvme_arbiter.specs.Limits.{highest_qid}
use Rattle.nvme_log.specs.Rules.{FrontRules, sq_regions_of, cq_regions_of}
use Rattle.nvme_log.specs.Queues.{Queue, open_sq, open_cq, is_closed_region, qid_of_region, cq_region_of}
use Rattle.nvme_log.specs.Places.{fetched, places, fate_of, is_waiting, is_served}
use Rattle.nvme_log.specs.Completions.{is_posted}
use Rattle.nvme_log.proofs.Members.{IsIn, filter-in, in-upto}
use Rattle.nvme_ctrl_log.specs.Notes.{Notes, logged}
use Rattle.nvme_slots.specs.declared.slot.Slot.{Slot}
use Rattle.nvme_ctrl.specs.declared.state.Controller.{Controller}
use Rattle.nvme_ctrl_content.specs.Content.{Attachment}
use Rattle.nvme_ctrl.specs.kept.Kept.{StandsAt}
use Rattle.nvme_ctrl.specs.kept.State.{sq_at}

-- a completion queue is open on a region, with an identifier within the limit
pub record IsOpenOn (notes : Notes) (x : ℕ) : Type 0 where
  pub cqid : ℕ
  pub is_open : open_cq (logged notes) cqid ≡ Some x
  pub few : cqid < 65

-- a list that something stands in has a length
some_in : {X : Type 0} (x : X) (xs : List X) → IsIn x xs → 1 ≤ length xs
some_in x [] at = absurd at
some_in x (y ∷ xs) at = omega arith

module _ (rules : FrontRules) (late : Bool) (notes : Notes) (c : Controller) (slots : List Slot) (s : StandsAt rules late notes c slots) where
  -- the identifier of an open submission queue is within the limit, and its region is there
  pub open_is_few : (q : ℕ) (queue : Queue) → open_sq (logged notes) q ≡ Some queue → (q ≤ highest_qid) × (queue.region < length (sq_regions_of rules))
  open_is_few q queue is =
      let at = s.holds.queues.attached q queue is in
      let below = s.holds.queues.sq_there queue.region (record { qid = q; cq_region = at.cq_region }) at.attached in
      (s.holds.queues.few q queue is, omega (arith, below, s.holds.tabled.sq_number))

  -- so those of an open completion queue
  pub open_cq_is_few : (q x : ℕ) → open_cq (logged notes) q ≡ Some x → (q < 65) × (x < length (cq_regions_of rules))
  open_cq_is_few q x is =
      let below = s.holds.queues.cq_there q x is in
      (s.numbers.cqs.few q x (s.holds.lives.cqs q ∙ is), omega (arith, below, s.holds.tabled.cq_number))

  -- the region of a place whose completion isn't posted isn't closed
  unclosed : (r i : ℕ) → is_served (logged notes) r i ≡ true → is_posted (logged notes) r i ≡ false → is_closed_region (logged notes) r ≡ false
  unclosed r i served unposted = false_from_ne_true (is_closed_region (logged notes) r) (λ closed.
      let parts = and_parts (nat_lt i (length (fetched (logged notes) r))) (not (is_waiting (fate_of (logged notes) r i))) served in
      let inside : IsIn i (places (logged notes) r) = in-upto i (length (fetched (logged notes) r)) (ltb-true i (length (fetched (logged notes) r)) parts.0) in
      let counts : (not (is_waiting (fate_of (logged notes) r i)) && not (is_posted (logged notes) r i)) ≡ true =
      and_from (not (is_waiting (fate_of (logged notes) r i))) (not (is_posted (logged notes) r i)) parts.1 (ap not unposted) in
      let one = some_in i _ (filter-in (λ (j : ℕ). not (is_waiting (fate_of (logged notes) r j)) && not (is_posted (logged notes) r j)) i (places (logged notes) r) inside counts) in
      omega (arith, one, s.holds.counts.unposted r, (s.holds.queues.gone r closed).all_posted))

  -- the completion region of such a place has an open queue
  pub cq_is_open : (r i x : ℕ) → is_served (logged notes) r i ≡ true → is_posted (logged notes) r i ≡ false → cq_region_of (logged notes) r ≡ Some x → IsOpenOn notes x
  cq_is_open r i x served unposted region = by (s.content.sq r).queue refl where
    by : (o : Option Attachment) → (s.content.sq r).queue ≡ o → IsOpenOn notes x
    by None none =
        absurd (let no : cq_region_of (logged notes) r ≡ None = s.holds.queues.cq_region_is r ∙ ap (option_map (λ (a : Attachment). a.cq_region)) none in cc (no, region))
    by (Some a) is =
        let named : qid_of_region (logged notes) r ≡ Some a.qid = s.holds.queues.qid_is r ∙ ap (option_map (λ (a : Attachment). a.qid)) is in
        let life = s.holds.lives.there r a.qid named (unclosed r i served unposted) in
        let of = s.numbers.sqs.each a.qid r life in
        let to : x ≡ of.cq_region =
        same_Some x of.cq_region (sym region ∙ s.holds.queues.cq_region_is r ∙ ap (option_map (λ (a : Attachment). a.cq_region)) of.opened) in
        record {
          cqid = (sq_at c.sqs a.qid).cqid;
          is_open = sym (s.holds.lives.cqs (sq_at c.sqs a.qid).cqid) ∙ of.cq_open ∙ ap (λ (z : ℕ). Some z) (sym to);
          few = s.numbers.cqs.few (sq_at c.sqs a.qid).cqid of.cq_region of.cq_open;
        }
