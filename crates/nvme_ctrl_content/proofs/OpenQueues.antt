-- The open queues and their regions.
use Rattle.std.proofs.Common.{◌≡◌, ℕ, zero, suc, ◌<◌, Bool, true, false, List, [], ◌∷◌, length, Some, refl, sym, ap, ◌∙◌, subst, arith, inl, inr}
use Rattle.std.specs.List.{list_any}
use Rattle.std.proofs.lemmas.Bool.{cases_lt, false_from_ne_true, eq-eqb, or_left, or_right}
use Rattle.std.proofs.lemmas.Option.{same_Some}
use Rattle.std.proofs.lemmas.List.Folds.{list_any-append}
use Rattle.nvme_arbiter.specs.Limits.{queue_limit}
use Rattle.nvme_admin.specs.QueueTable.{QueueTable, admin_sq}
use Rattle.nvme_admin.specs.Accepted.{queue_table}
use Rattle.nvme_ctrl_content.specs.Content.{Attachment, Content}
use Rattle.nvme_log.specs.Rules.{Past, FrontRules, upto}
use Rattle.nvme_log.specs.Queues.{Queue, admin_queue, open_sq, has_region, is_open_region, is_closed_region}
use Rattle.nvme_log.specs.Laws.{as_open}
use Rattle.nvme_admin.specs.declared.region.Region.{Region}
use Rattle.nvme_ctrl_content.specs.Standing.{Holds}

-- ---- queues
-- a test passes among the numbers below n where it passes at one
pub any_upto : (test : ℕ → Bool) (n i : ℕ) → i < n → test i ≡ true → list_any test (upto n) ≡ true
any_upto test zero i lt h = absurd (omega arith)
any_upto test (suc n) i lt h = list_any-append test (upto n) (n ∷ []) ∙ elim (cases_lt i n) [
  | inl below ↦ or_left (list_any test (upto n)) (list_any test (n ∷ [])) (any_upto test n i below h)
  | inr from ↦ let same : i ≡ n = omega arith in
      or_right (list_any test (upto n)) (list_any test (n ∷ [])) (or_left (test n) false (subst (λ (z : ℕ). test z ≡ true) same h))
]

-- the admin queue of some regions is open
admin_open : (regions : List Region) → 0 < length regions → as_open (admin_sq regions) ≡ Some admin_queue
admin_open [] there = absurd (omega arith)
admin_open (r ∷ regions) there = refl

module _ (rules : FrontRules) (late : Bool) (past : Past) (k : Content) (s : Holds rules late past k) where
  -- the region of an open queue is open
  pub open_region : (q : ℕ) (queue : Queue) → open_sq past q ≡ Some queue → is_open_region past queue.region ≡ true
  open_region q queue is = any_upto (λ (x : ℕ). has_region queue.region (open_sq past x)) queue_limit q (omega (arith, s.queues.few q queue is))
      (rw is (eq-eqb queue.region queue.region refl))

  -- nor is its deletion finished
  pub not_closed_region : (q : ℕ) (queue : Queue) → open_sq past q ≡ Some queue → is_closed_region past queue.region ≡ false
  not_closed_region q queue is = false_from_ne_true (is_closed_region past queue.region) (λ closed. s.queues.closed q queue.region queue closed is refl)

  -- the admin queue is open once there is a region
  pub admin_is_open : 0 < k.nsq → open_sq past 0 ≡ Some admin_queue
  unfolding queue_table
  admin_is_open there =
      let some : 0 < length (queue_table rules.start s.tabled.history).sq_regions =
      omega (arith, there, ap (λ (t : QueueTable). length t.sq_regions) s.tabled.table_is, s.tabled.sq_count) in
      s.queues.sqs 0 ∙ ap (λ (t : QueueTable). as_open (t.sq 0)) s.tabled.table_is ∙ admin_open (queue_table rules.start s.tabled.history).sq_regions some

  -- an I/O queue's region isn't the admin queue's
  pub io_region : (r qid c : ℕ) → (k.sq r).queue ≡ Some (record { qid = qid; cq_region = c }) → (qid ≡ 0 → ⊥) → r ≡ 0 → ⊥
  io_region r qid c is io first =
      let there : 0 < k.nsq = omega (arith, s.queues.sq_there r (record { qid = qid; cq_region = c }) is) in
      let admin = s.queues.attached 0 admin_queue (admin_is_open there) in
      let here : (k.sq 0).queue ≡ Some (record { qid = qid; cq_region = c }) = subst (λ (z : ℕ). (k.sq z).queue ≡ Some (record { qid = qid; cq_region = c })) first is in
      let same : Some (record { qid = 0; cq_region = admin.cq_region }) ≡ Some (record { qid = qid; cq_region = c }) = sym admin.attached ∙ here in
      io (sym (ap (λ (a : Attachment). a.qid) (same_Some (record { qid = 0; cq_region = admin.cq_region }) (record { qid = qid; cq_region = c }) same)))
