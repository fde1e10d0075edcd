-- Where no Create or Delete of a submission queue is outstanding, the judge finds those on a completion queue that the table has there.
use Rattle.std.proofs.Common.{◌≡◌, ℕ, zero, suc, ◌<◌, ◌≤◌, ◌==◌, Bool, true, false, if◌then◌else◌, List, [], ◌∷◌, Option, Some, None, refl, sym, ap, ◌∙◌, arith, inl, inr}
use Rattle.std.proofs.lemmas.Bool.{cases_Bool, cases_eq, ne_eqb, or_cases, or_parts, false_from_ne_true}
use Rattle.std.proofs.lemmas.Option.{none-some, same_Some}
use Rattle.std.proofs.lemmas.List.{append-nil}
use Rattle.nvme_entry.specs.AdminCommand.{admin_command_of}
use Rattle.nvme_entry.specs.declared.submission.Sqe.{Sqe}
use Rattle.nvme_entry.specs.declared.admin.AdminCommand.{AdminCommand}
use Rattle.nvme_entry.specs.declared.admin.AdminCommand.TheVariants.{DeleteSq, CreateSq, DeleteCq, CreateCq, Abort, SetFeatures, GetFeatures, Other}
use Rattle.nvme_admin.specs.declared.bounds.TheConstants.{MAX_REGIONS}
use Rattle.nvme_admin.specs.declared.region.Region.{Region}
use Rattle.nvme_admin.specs.declared.verdict.SqEntry.{SqEntry}
use Rattle.nvme_admin.specs.History.{Start, TableHistory, EntryApplied, DeletionFinished, Effects, Accepted}
use Rattle.nvme_admin.specs.QueueTable.{admin_sq, sq_in, sq_regions_in, table_in, unless_closing}
use Rattle.nvme_admin.specs.Checks.{attaches, is_attached, is_success, some_below, status_over}
use Rattle.nvme_admin.specs.Accepted.{effects_of, queue_table, sq_at}
use Rattle.nvme_admin.proofs.Changed.{finish-takes_one}
use Rattle.nvme_log.specs.declared.event.Event.TheVariants as event
use Rattle.nvme_log.specs.Rules.{FrontRules, Past}
use Rattle.nvme_log.specs.Queues.{Queue, open_sq}
use Rattle.nvme_log.specs.Places.{picked}
use Rattle.nvme_log.specs.Histories.{table_history}
use Rattle.nvme_log.specs.Completions.{table_before}
use Rattle.nvme_log.specs.Effects.{effects_since, made_last}
use Rattle.nvme_log.specs.Laws.{as_open, StartsWithAdmin}
use Rattle.nvme_log.proofs.Tables.{sync}
use Rattle.nvme_ctrl_log.specs.Notes.{Notes, Logged, logged}
use Rattle.nvme_ctrl_log.specs.Making.{placing_in}
use Rattle.nvme_audit.specs.Lives as lives
use Rattle.nvme_audit.specs.Lives.{turns_sq}
use Rattle.nvme_audit.specs.Queues.{ring_of}
use Rattle.nvme_audit.specs.Turns.{asks_of, replies_of, is_of_sqs, is_on}
use Rattle.nvme_audit.specs.Marks.{mark_of}
use Rattle.nvme_audit.specs.Facts.{cq_after}
use Rattle.nvme_audit.specs.Answers as answers
use Rattle.nvme_own_log.specs.Shown.{start_of, shown}
use Rattle.nvme_own_log.proofs.AdminQueues.{effects_of as events_of}
use Rattle.nvme_own_log.proofs.Phases.{IsPending, Stage, untold, told_on, Phase, closed, creating, made, told, deleting_it, going}
use Rattle.nvme_own_log.proofs.Queues.{QueueAt, Seen}
use Rattle.nvme_own_statuses.proofs.Attachments.{unattached, attached}
use Rattle.nvme_own_statuses.proofs.Counts.{pending_counts}
use Rattle.nvme_own_statuses.proofs.Endings.{ending_at}
use Rattle.nvme_own_statuses.proofs.Settled.{IsMarked, none_pends, same_at}
use Rattle.nvme_own_statuses.proofs.Standing.{Stands, stands_before, admin_at, io_at}
use Rattle.nvme_own_statuses.proofs.Starts.{StartsWithNoDeletion, io_attached}

-- ---- commands
of_sqs : (c : AdminCommand) (q : ℕ) → turns_sq c q ≡ true → is_of_sqs c ≡ true
of_sqs (DeleteSq qid) q h = refl
of_sqs (CreateSq qid qsize prp1 cqid qprio pc) q h = refl
of_sqs (DeleteCq qid) q h = cc h
of_sqs (CreateCq qid qsize prp1 pc) q h = cc h
of_sqs (Abort sqid cid) q h = cc h
of_sqs (SetFeatures fid sv cdw11) q h = cc h
of_sqs (GetFeatures fid) q h = cc h
of_sqs Other q h = cc h

-- ---- the table
command_leaves : (c : AdminCommand) (e : Effects) (q : ℕ) → is_of_sqs c ≡ false → sq_in (Accepted c ∷ e) q ≡ sq_in e q
command_leaves (DeleteSq qid) e q h = cc h
command_leaves (CreateSq qid qsize prp1 cqid qprio pc) e q h = cc h
command_leaves (DeleteCq qid) e q h = refl
command_leaves (CreateCq qid qsize prp1 pc) e q h = refl
command_leaves (Abort sqid cid) e q h = refl
command_leaves (SetFeatures fid sv cdw11) e q h = refl
command_leaves (GetFeatures fid) e q h = refl
command_leaves Other e q h = refl

entry_leaves : (start : Start) (h : TableHistory) (entry : Sqe) (q : ℕ) → is_of_sqs (admin_command_of entry) ≡ false → sq_at start (EntryApplied entry ∷ h) q ≡ sq_at start h q
unfolding effects_of queue_table
entry_leaves start h entry q none = by (is_success (status_over (table_in start (effects_of start h)) entry)) where
  by : (b : Bool) → sq_in (if b then Accepted (admin_command_of entry) ∷ effects_of start h else effects_of start h) q ≡ sq_in (effects_of start h) q
  by true = command_leaves (admin_command_of entry) (effects_of start h) q none
  by false = refl

unless_open : (o : Option SqEntry) → ((x : SqEntry) → o ≡ Some x → x.closing ≡ true → ⊥) → unless_closing o ≡ o
unless_open None none = refl
unless_open (Some x) none = by x.closing refl where
  by : (b : Bool) → x.closing ≡ b → (if b then None else Some x) ≡ Some x
  by true e = absurd (none x refl e)
  by false e = refl

-- the admin queue is attached to its own completion queue
admin_attaches : (start : Start) (h : TableHistory) (q : ℕ) → (q ≡ 0 → ⊥) → attaches q (sq_at start h 0) ≡ false
unfolding queue_table
admin_attaches start h q io = by (sq_regions_in (effects_of start h)) where
  by : (rs : List Region) → attaches q (admin_sq rs) ≡ false
  by [] = refl
  by (r ∷ rs) = ne_eqb 0 q (λ same. io (sym same))

-- ---- tests below a number
none_below : (test : ℕ → Bool) (n p : ℕ) → some_below test n ≡ false → p < n → test p ≡ false
unfolding some_below
none_below test zero p h lt = absurd (omega (arith, lt))
none_below test (suc n) p h lt = elim (cases_eq p n) [
  | inl is ↦ ap test is ∙ (or_parts (some_below test n) (test n) h).1
  | inr apart ↦ none_below test n p (or_parts (some_below test n) (test n) h).0 (omega (arith, lt, apart))
]

one_below : (test : ℕ → Bool) (n : ℕ) → some_below test n ≡ true → (p : ℕ) × (test p ≡ true)
unfolding some_below
one_below test zero h = cc h
one_below test (suc n) h = elim (or_cases (some_below test n) (test n) h) [ inl earlier ↦ one_below test n earlier | inr here ↦ (n, here) ]

attached_entry : (o : Option SqEntry) (q : ℕ) → attaches q o ≡ true → (x : SqEntry) × (o ≡ Some x)
attached_entry None q h = cc h
attached_entry (Some x) q h = (x, refl)

module _ (rules : FrontRules) (starts : StartsWithAdmin rules) (by_regions : placing_in rules ≡ None) (none_at_start : StartsWithNoDeletion rules) where
  -- no deletion ends where none is outstanding
  ends : (p : ℕ) → (p ≡ 0 → ⊥) → (qid r : ℕ) (notes : Notes) → Stands rules (Logged (event.ClosedSq qid r) ∷ notes) → asks_of is_of_sqs (shown rules notes) ≤ replies_of is_of_sqs (shown rules notes)
      → sq_at rules.start (DeletionFinished qid ∷ table_history rules (logged notes)) p ≡ sq_at rules.start (table_history rules (logged notes)) p
  ends p io qid r notes s few = finish-takes_one rules.start (table_history rules (logged notes)) qid p ∙ by (qid == p) where
    by : (b : Bool) → (if b then unless_closing (sq_at rules.start (table_history rules (logged notes)) p) else sq_at rules.start (table_history rules (logged notes)) p) ≡ sq_at rules.start (table_history rules (logged notes)) p
    by false = refl
    by true = unless_open (sq_at rules.start (table_history rules (logged notes)) p) (λ x is c.
        let b = stands_before rules (Logged (event.ClosedSq qid r)) notes s in
        let it = ending_at rules starts by_regions none_at_start notes b p io x is c in
        let fewer = pending_counts rules is_of_sqs refl notes b it.place it.entry it.pending (ap is_of_sqs it.delete) in
        omega (arith, few, fewer))

  module _ (notes : Notes) (s : Stands rules notes) (whole : effects_since (logged notes) ≡ made_last rules (logged notes)) where
    abbrev past : Past
    past = logged notes

    abbrev log : lives.Past
    log = shown rules notes

    module _ (none : (k : ℕ) (a : Sqe) → IsPending rules past k a → is_of_sqs (admin_command_of a) ≡ true → ⊥) (q : ℕ) (q_io : q ≡ 0 → ⊥) where
      -- what the judge finds of an I/O queue the table has
      on_table : (p : ℕ) → (p ≡ 0 → ⊥) → is_on q (ring_of (start_of rules) log p) ≡ attaches q (sq_at rules.start (table_history rules past) p)
      on_table p io = by_entry (sq_at rules.start (table_history rules past) p) refl where
        open_as : open_sq past p ≡ as_open (sq_at rules.start (table_history rules past) p)
        open_as = (sync rules starts past (events_of rules notes s.each) [] (append-nil (effects_since past) ∙ whole)).sq p

        at : QueueAt rules notes p
        at = (io_at rules starts by_regions notes s).queue p io

        shut : (st : Stage) → open_sq past p ≡ None → Phase rules past p st → Seen rules notes p st → is_on q (ring_of (start_of rules) log p) ≡ false
        shut untold o phase seen = ap (is_on q) seen.0
        shut (told_on t to) o (told queue opened served n y) seen = absurd (none-some queue (sym o ∙ opened))
        shut (told_on t to) o (deleting_it k e queue more delete pending a l opened n made_is m served) seen = absurd (none-some queue (sym o ∙ opened))
        shut (told_on t to) o (going k e v cq delete pending a opened own ends_so served y) seen = absurd (none k e pending (ap is_of_sqs delete))

        there : (queue : Queue) → open_sq past p ≡ Some queue → (st : Stage) → Phase rules past p st → Seen rules notes p st → is_on q (ring_of (start_of rules) log p) ≡ (queue.cqid == q)
        there queue o untold (closed opened served n y) seen = absurd (none-some queue (sym opened ∙ o))
        there queue o untold (creating k e t to class create pending a opened n made_is fresh served) seen = absurd (none-some queue (sym opened ∙ o))
        there queue o untold (made k e own create pending a opened served y) seen = absurd (none k e pending (ap is_of_sqs create.command_is))
        there queue o (told_on t to) (told own opened served n y) seen =
            ap (is_on q) seen.ring_is ∙ ap (λ (n : ℕ). n == q) (seen.cqid_is ∙ ap (λ (x : Queue). x.cqid) (same_Some own queue (sym opened ∙ o)))
        there queue o (told_on t to) (deleting_it k e own more delete pending a l opened n made_is m served) seen = absurd (none k e pending (ap is_of_sqs delete))
        there queue o (told_on t to) (going k e v cq delete pending a opened own ends_so served y) seen = absurd (none k e pending (ap is_of_sqs delete))

        by_entry : (o : Option SqEntry) → sq_at rules.start (table_history rules past) p ≡ o → is_on q (ring_of (start_of rules) log p) ≡ attaches q o
        by_entry None is = shut at.stage (open_as ∙ ap as_open is) at.phase at.seen
        by_entry (Some x) is = by_closing x.closing refl where
          by_closing : (b : Bool) → x.closing ≡ b → is_on q (ring_of (start_of rules) log p) ≡ (x.cqid == q)
          by_closing true e = absurd (let it = ending_at rules starts by_regions none_at_start notes s p io x is e in none it.place it.entry it.pending (ap is_of_sqs it.delete))
          by_closing false e =
              let queue : Queue = record { region = x.region; cqid = x.cqid; class = x.class } in
              there queue (open_as ∙ ap as_open is ∙ rw e refl) at.stage at.phase at.seen

      admin_off : is_on q (ring_of (start_of rules) log 0) ≡ false
      admin_off = let own = (admin_at rules notes s).sq in ap (is_on q) own.ring_is ∙ ne_eqb own.ring.cqid q (λ same. q_io (sym same ∙ own.cqid_is))

    -- whether one is attached is as it was at the pick of a command that was marked with as many Creates and Deletes as were fetched
    pub attached_as : rules.start.nsq < MAX_REGIONS → (k : ℕ) (a : Sqe) → IsPending rules past k a → IsMarked rules starts by_regions is_of_sqs refl a → k < picked past 0 → asks_of is_of_sqs log ≤ mark_of log 0 a.cid
        → (q : ℕ) → (q ≡ 0 → ⊥) → answers.is_attached (cq_after (start_of rules) log q) ≡ is_attached (queue_table rules.start (table_before rules past k)) q
    attached_as few k a p m lt settled q q_io = elim (cases_Bool (is_attached (queue_table rules.start (table_before rules past k)) q)) [
      | inl on_it ↦
          let one = one_below (λ n. attaches q (sq_at rules.start (table_before rules past k) n)) MAX_REGIONS on_it in
          let io : one.0 ≡ 0 → ⊥ = λ is_zero. let never : attaches q (sq_at rules.start (table_before rules past k) one.0) ≡ false = ap (λ (n : ℕ). attaches q (sq_at rules.start (table_before rules past k) n)) is_zero ∙ admin_attaches rules.start (table_before rules past k) q q_io in cc (never, one.1) in
          attached (start_of rules) q q_io log one.0 (found one.0 io ∙ one.1) ∙ sym on_it
      | inr off ↦
          unattached (start_of rules) q q_io log (λ n. elim (cases_eq n 0) [
            | inl is_zero ↦ ap (λ (j : ℕ). is_on q (ring_of (start_of rules) log j)) is_zero ∙ admin_off none q q_io
            | inr io ↦ found n io ∙ false_from_ne_true (attaches q (sq_at rules.start (table_before rules past k) n)) (λ on_it.
                let entry = attached_entry (sq_at rules.start (table_before rules past k) n) q on_it in
                let range = (io_attached rules.start (table_before rules past k) n entry.0 io entry.1).0 in
                let none_there : attaches q (sq_at rules.start (table_before rules past k) n) ≡ false = none_below (λ j. attaches q (sq_at rules.start (table_before rules past k) j)) MAX_REGIONS n off (omega (arith, few, range)) in
                cc (none_there, on_it))
          ])
          ∙ sym off
    ] where
      none : (j : ℕ) (x : Sqe) → IsPending rules past j x → is_of_sqs (admin_command_of x) ≡ true → ⊥
      none j x pending own = none_pends rules starts by_regions is_of_sqs refl notes s k a p m settled j x pending own

      found : (n : ℕ) → (n ≡ 0 → ⊥) → is_on q (ring_of (start_of rules) log n) ≡ attaches q (sq_at rules.start (table_before rules past k) n)
      found n io =
          on_table none q q_io n io
          ∙ sym (ap (attaches q) (same_at rules starts by_regions is_of_sqs refl (Option SqEntry) (λ h. sq_at rules.start h n) (λ h entry leaves. entry_leaves rules.start h entry n leaves) (ends n io) notes s k a p m lt settled))
