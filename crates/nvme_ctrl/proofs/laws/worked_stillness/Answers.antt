use Rattle.std.proofs.Common.{◌≡◌, ℕ, ◌<◌, ◌==◌, Bool, true, false, if◌then◌else◌, length, Some, None, refl, sym, ap, subst, arith, inl, inr}
use Rattle.std.proofs.lemmas.Option.{same_Some}
use Rattle.nvme_admin.specs.Accepted.{effects_of, queue_table}
use Rattle.nvme_log.specs.Examples.{two_slots}
use Rattle.nvme_log.specs.Places.{fetched}
use Rattle.nvme_log.specs.Queues.{Queue, admin_queue}
use Rattle.nvme_ctrl_log.specs.Doorbells.{submitted}
use Rattle.nvme_ctrl_log.specs.Examples.{identify_taken}
use Rattle.nvme_ctrl_log.specs.Notes.{logged}
use Rattle.nvme_ctrl.proofs.laws.worked_stillness.Goals as goal

-- the one queue that is open is the admin queue
only_admin : (b : Bool) (queue : Queue) → (if b then Some admin_queue else None) ≡ Some queue → queue.region ≡ 0
only_admin true queue is = sym (ap (λ (q : Queue). q.region) (same_Some admin_queue queue is))
only_admin false queue is = absurd (cc is)

pub returns-clause-still : goal.returns-clause-still
unfolding effects_of queue_table
returns-clause-still c = record {
  fetches = λ qid queue is more depth room.
      let at : queue.region ≡ 0 = only_admin (qid == 0) queue is in
      let here : length (fetched (logged identify_taken) 0) < submitted two_slots identify_taken 0 = subst (λ (r : ℕ). length (fetched (logged identify_taken) r) < submitted two_slots identify_taken r) at more in
      omega (arith, here);
  picks = refl;
  takes = refl;
  posts = λ cqid x is. inr (λ r i goes through. cc through);
  ends = λ region index is. cc is;
}

pub returns-clause-fetches : goal.returns-clause-fetches
unfolding effects_of queue_table
returns-clause-fetches c s = s.fetches 0 admin_queue refl (omega arith) (omega arith) (omega arith)

pub returns-clause-picks : goal.returns-clause-picks
unfolding effects_of queue_table
returns-clause-picks c s = cc s.picks

pub returns-clause-takes : goal.returns-clause-takes
returns-clause-takes c s = (let e : 0 ≡ 1 = s.takes in omega (arith, e))

pub returns-clause-posts : goal.returns-clause-posts
unfolding effects_of queue_table
returns-clause-posts c s = elim (s.posts 0 0 refl) [
  | inl full ↦ omega (arith, full)
  | inr all ↦ (let e : false ≡ true = all 0 0 refl refl in cc e)
]

pub returns-clause-ends : goal.returns-clause-ends
returns-clause-ends c s = s.ends 1 2 refl refl
