-- No submission queue is closing at the start: one would be attached to an I/O completion queue that is open.
use Rattle.std.proofs.Common.{◌≡◌, ℕ, ◌<◌, ◌≤◌, ◌==◌, Bool, true, false, if◌then◌else◌, ◌∷◌, Option, Some, None, is_some, refl, sym, ap, ◌∙◌, arith, ◌⊎◌, inl, inr, eqb-true}
use Rattle.std.proofs.lemmas.Bool.{cases_eq, ne_eqb}
use Rattle.std.proofs.lemmas.Option.{none-some, same_Some}
use Rattle.nvme_entry.specs.declared.admin.AdminCommand.{AdminCommand}
use Rattle.nvme_entry.specs.declared.admin.AdminCommand.TheVariants.{DeleteSq, CreateSq, DeleteCq, CreateCq, Abort, SetFeatures, GetFeatures, Other}
use Rattle.nvme_admin.specs.declared.bounds.TheConstants.{MAX_REGIONS}
use Rattle.nvme_admin.specs.declared.verdict.SqEntry.{SqEntry}
use Rattle.nvme_admin.specs.History.{Start, TableHistory, Effects, Accepted}
use Rattle.nvme_admin.specs.QueueTable.{first_request_in, io_sq_in, nsq_by, table_in}
use Rattle.nvme_admin.specs.Accepted.{effects_of, queue_table, sq_at, cq_at}
use Rattle.nvme_admin.proofs.LawLemmas.{attached-stay_open, closing-back, finished-back, nsq_by-le}
use Rattle.nvme_admin.proofs.Reached.{Passes, create_sq-found, reached}
use Rattle.nvme_admin.proofs.Slots.{sq_in-io}
use Rattle.nvme_log.specs.Rules.{FrontRules}
use Rattle.nvme_log.specs.Queues.{admin_queue}
use Rattle.nvme_log.specs.Laws.{as_open, StartsWithAdmin}

abbrev pub StartsWithNoDeletion : FrontRules → Type 0
StartsWithNoDeletion rules = (q : ℕ) (queue : SqEntry) → sq_at rules.start rules.regions q ≡ Some queue → queue.closing ≡ false

-- an I/O submission queue has one of the numbers that may be allotted, and is attached to an I/O completion queue
abbrev AreAttached : Start → Effects → Type 0
AreAttached start e = (q : ℕ) (queue : SqEntry) → io_sq_in e q ≡ Some queue → (q ≤ start.nsq) × (queue.cqid ≡ 0 → ⊥)

created_or : (b : Bool) (x : SqEntry) (o : Option SqEntry) (queue : SqEntry) → (if b then Some x else o) ≡ Some queue → ((b ≡ true) × (x ≡ queue)) ⊎ (o ≡ Some queue)
created_or true x o queue h = inl (refl, same_Some x queue h)
created_or false x o queue h = inr h

attached_after : (start : Start) (e : Effects) (command : AdminCommand) → AreAttached start e → Passes (table_in start e) command → AreAttached start (Accepted command ∷ e)
attached_after start e (CreateSq qid qsize prp1 cqid qprio pc) before passes q queue is = elim (created_or (qid == q) _ (io_sq_in e q) queue is) [
  | inl new ↦
      let found = create_sq-found (table_in start e) qid qsize prp1 cqid qprio pc passes in
      let range : qid ≤ nsq_by start (first_request_in e) = found.in_range in
      let here : cqid ≡ queue.cqid = ap (λ (x : SqEntry). x.cqid) new.1 in
      let own : qid ≡ q = eqb-true qid q new.0 in
      (omega (arith, range, own, nsq_by-le start (first_request_in e)), (λ zero. found.cq_not_admin (here ∙ zero)))
  | inr old ↦ before q queue old
]
attached_after start e (DeleteSq qid) before passes q queue is = (let old = closing-back (qid == q) (io_sq_in e q) queue is in let it = before q old.0 old.1 in (it.0, λ zero. it.1 (old.2 ∙ zero)))
attached_after start e (DeleteCq qid) before passes q queue is = before q queue is
attached_after start e (CreateCq qid qsize prp1 pc) before passes q queue is = before q queue is
attached_after start e (Abort sqid cid) before passes q queue is = before q queue is
attached_after start e (SetFeatures fid sv cdw11) before passes q queue is = before q queue is
attached_after start e (GetFeatures fid) before passes q queue is = before q queue is
attached_after start e Other before passes q queue is = before q queue is

attached : (start : Start) (h : TableHistory) → AreAttached start (effects_of start h)
attached start h =
    reached start (AreAttached start) (λ q queue is. absurd (none-some queue is)) (λ e kind address slots before. before) (attached_after start)
    (λ e qid before q queue is. before q queue (finished-back (qid == q) (io_sq_in e q) queue is)) (λ e placing before. before) h

pub io_attached : (start : Start) (h : TableHistory) (q : ℕ) (queue : SqEntry) → (q ≡ 0 → ⊥) → sq_at start h q ≡ Some queue → (q ≤ start.nsq) × (queue.cqid ≡ 0 → ⊥)
unfolding queue_table
io_attached start h q queue io is = attached start h q queue (sym (sq_in-io (effects_of start h) q io) ∙ is)

pub no_deletion : (rules : FrontRules) → StartsWithAdmin rules → rules.start.nsq < MAX_REGIONS → StartsWithNoDeletion rules
no_deletion rules starts few q queue is = by queue.closing refl where
  by : (b : Bool) → queue.closing ≡ b → queue.closing ≡ false
  by false e = e
  by true e = elim (cases_eq q 0) [
    | inl zero ↦ absurd (
        let shut : Some admin_queue ≡ None = ap (λ (n : ℕ). if n == 0 then Some admin_queue else None) (sym zero) ∙ starts.sq q ∙ ap as_open is ∙ rw e refl in
        cc shut)
    | inr io ↦ absurd (
        let other : queue.cqid ≡ 0 → ⊥ = (io_attached rules.start rules.regions q queue io is).1 in
        let opened : is_some (cq_at rules.start rules.regions queue.cqid) ≡ true = attached-stay_open rules.start rules.regions q queue few io is in
        let none : None ≡ cq_at rules.start rules.regions queue.cqid = (let start : (if queue.cqid == 0 then Some 0 else None) ≡ None = rw (ne_eqb queue.cqid 0 other) refl in sym start ∙ starts.cq queue.cqid) in
        let shut : is_some (cq_at rules.start rules.regions queue.cqid) ≡ false = ap (λ (o : Option ℕ). is_some o) (sym none) in
        cc (opened, shut))
  ]
