use Rattle.std.proofs.Common.{◌≡◌, ℕ, ◌+◌, ◌%◌, true, List, ◌∷◌, length, sym, ap, ◌∙◌, subst}
use Rattle.nvme_log.specs.Places.{fetched}
use Rattle.nvme_ctrl_log.specs.Calls as calls_in_log
use Rattle.nvme_ctrl.specs.Calls as calls
use Rattle.nvme_ctrl_log.specs.Doorbells.{sq_slots}
use Rattle.nvme_ctrl_log.specs.Notes.{Notes, Tail, logged}
use Rattle.nvme_ctrl.specs.Standing.{Stands}
use Rattle.nvme_slots.specs.declared.slot.Slot.{Slot}
use Rattle.nvme_engine.specs.declared.engine.Engine.{Engine}
use Rattle.nvme_engine.proofs.Calls.{written, slots_are, leaves}
use Rattle.nvme_engine.proofs.FetchNotes.{is_tail, may_fetch, tail_is, has_fetched}
use Rattle.nvme_engine.proofs.Turn.{next-slot}
use Rattle.nvme_engine.proofs.engine.Engine.fetched.Goals as goal

pub returns : goal.returns
returns c = record {
  stands = λ rules late notes s m.
      (let self : Engine = c.args.self.now in
      let qid = c.args.qid in
      let slots = c.args.slots in
      let index = c.args.index in
      let slot : ℕ = (index + 1) % slots in
      let before : Notes = Tail m.queue.region slot ∷ notes in
      let slot_is : (index % c.from-slots.result + 1) % c.from-slots.result ≡ slot =
      (λ i. (index % c.from-slots.ensures i + 1) % c.from-slots.ensures i) ∙ next-slot slots index c.requires.some in
      let rung : c.sq_tail.result ≡ true = (c.sq_tail.ensures.answer s.their s.their_late notes self.slots.items s.stands).1
      (subst (λ (x : ℕ). calls_in_log.IsTailOf s.their notes qid x) (sym slot_is) (is_tail rules late notes self s qid slots index m)) in
      let there : Stands s.their s.their_late before c.sq_tail.new.self c.deref_mut.result.now =
      subst (λ (pool : List Slot). Stands s.their s.their_late before c.sq_tail.new.self pool) (sym c.deref_mut.ensures.value)
      (tail_is rules late notes self s qid slots index m c.sq_tail.new.self
      (subst (λ (x : ℕ). calls.TailRung s.their s.their_late notes qid x c.sq_tail.new.self self.slots.items) slot_is
      (c.sq_tail.ensures.stands s.their s.their_late notes self.slots.items s.stands rung))) in
      let next : ℕ = length (fetched (logged notes) m.queue.region) % sq_slots s.their m.queue.region in
      let done : c.fetched.result ≡ true = c.fetched.ensures.told s.their s.their_late before there next
      (subst (λ (pool : List Slot). calls_in_log.MayFetch s.their before (calls.depth_of c.sq_tail.new.self c.args.qid) (length pool) qid next) (sym c.deref_mut.ensures.value)
      (may_fetch rules late notes self s qid slots index m c.sq_tail.new.self c.sq_tail.ensures.depths)) in
      let size : length c.fetched.new.slots ≡ length self.slots.items = c.fetched.ensures.size ∙ ap (λ (xs : List Slot). length xs) c.deref_mut.ensures.value in
      has_fetched rules late notes self s qid slots index m c.args.entry.now (written self c.fetched.new.self c.fetched.new.slots)
      (subst (λ (pool : List Slot). calls.HasFetched s.their s.their_late before qid c.args.entry.now index c.fetched.new.self pool) (sym (slots_are self c.fetched.new.self c.fetched.new.slots size))
      (c.fetched.ensures.stands s.their s.their_late before there done))
      (leaves self c.fetched.new.self c.fetched.new.slots (c.fetched.ensures.depths ∙ c.sq_tail.ensures.depths) (c.fetched.ensures.own ∙ c.sq_tail.ensures.own) size));
}
