-- What stands at each note of an account whose host keeps its duties, and what holds of each completion that it shows.
use Rattle.std.proofs.Common.{◌≡◌, ℕ, ◌%◌, [], ◌∷◌, length, Option, Some, None, refl}
use Rattle.nvme_entry.specs.declared.completion.Cqe.{Cqe}
use Rattle.nvme_arbiter.specs.Lawful.{IsLimitedRun}
use Rattle.nvme_log.specs.declared.event.Event.TheVariants.{Fetch, Post}
use Rattle.nvme_log.specs.Rules.{FrontRules}
use Rattle.nvme_log.specs.Queues.{qid_of_region}
use Rattle.nvme_log.specs.Completions.{posted_to}
use Rattle.nvme_log.specs.Histories.{arbitration_of}
use Rattle.nvme_log.specs.Laws.{StartsWithAdmin}
use Rattle.nvme_ctrl_log.specs.Notes.{Notes, Note, Logged, Tail, Head, EachNote, logged}
use Rattle.nvme_ctrl_log.specs.Doorbells.{sq_slots, cq_slots}
use Rattle.nvme_ctrl_log.specs.Account.{IsLawful}
use Rattle.nvme_ctrl_log.specs.Making.{placing_in}
use Rattle.nvme_ctrl_log.proofs.TakenCommands.{lawful-before}
use Rattle.nvme_audit.specs.declared.event.Completion.{Completion}
use Rattle.nvme_audit.specs.Lives.{Past}
use Rattle.nvme_own_log.specs.Shown.{cqid_of_region, start_of, completion_of, tail_of, head_of, fetch_of, post_of, shown}
use Rattle.nvme_own_log.specs.Duties.{KeepsDuties, IsDutiful, NamesAreFree}
use Rattle.nvme_own_statuses.specs.Statuses.{EachPost}
use Rattle.nvme_own_log.proofs.EachEvent.{free_before}
use Rattle.nvme_own_log.proofs.AdminQueues.{AdminAt, admin_agrees}
use Rattle.nvme_own_log.proofs.IoQueues.{QueuesAt, queues_at}
use Rattle.nvme_own_log.proofs.Fetches.{names_free}

module _ (rules : FrontRules) where
  -- the notes so far are lawful, and the host keeps its duties
  pub record Stands (notes : Notes) : Type 0 where
    pub each : EachNote (IsLawful rules) notes
    pub lawful : IsLimitedRun rules.mechanism rules.start.settings (arbitration_of (logged notes))
    pub duties : KeepsDuties (start_of rules) (shown rules notes)

  run_before : (note : Note) (notes : Notes) → IsLimitedRun rules.mechanism rules.start.settings (arbitration_of (logged (note ∷ notes))) → IsLimitedRun rules.mechanism rules.start.settings (arbitration_of (logged notes))
  run_before (Logged e) notes l = lawful-before rules e (logged notes) l
  run_before note notes l = l

  pub stands_before : (note : Note) (notes : Notes) → Stands (note ∷ notes) → Stands notes
  stands_before note notes s = record {
    each = s.each.1;
    lawful = run_before note notes s.lawful;
    duties = free_before rules (IsDutiful (start_of rules)) note notes s.duties;
  }

  pub names_at : (notes : Notes) → Stands notes → NamesAreFree (shown rules notes)
  names_at notes s = names_free rules (shown rules notes) s.duties

  pub admin_at : (notes : Notes) → Stands notes → AdminAt rules notes
  admin_at notes s = admin_agrees rules notes s.each (names_at notes s)

  pub io_at : StartsWithAdmin rules → placing_in rules ≡ None → (notes : Notes) → Stands notes → QueuesAt rules notes
  io_at starts by_regions notes s = queues_at rules starts by_regions notes s.each s.lawful s.duties (names_at notes s)

  -- what holds of the completion that each post shows holds of each completion of the log
  module _ (P : Past → ℕ → Completion → Type 0) (Q : Notes → Note → Type 0)
      (posts : (notes : Notes) (c r i q : ℕ) (cqe : Cqe) → Stands (Logged (Post c r i cqe) ∷ notes) → EachNote Q (Logged (Post c r i cqe) ∷ notes) → cqid_of_region (logged notes) c ≡ Some q
      → P (shown rules notes) q (completion_of cqe)) where
    pub each_post : (notes : Notes) → Stands notes → EachNote Q notes → EachPost P (shown rules notes)
    each_post [] s d = tt
    each_post (Tail r slot ∷ notes) s d = by (qid_of_region (logged notes) r) (each_post notes (stands_before (Tail r slot) notes s) d.1) where
      by : (o : Option ℕ) → EachPost P (shown rules notes) → EachPost P (tail_of o slot (shown rules notes))
      by None rest = rest
      by (Some q) rest = (tt, rest)
    each_post (Head c slot ∷ notes) s d = by (cqid_of_region (logged notes) c) (each_post notes (stands_before (Head c slot) notes s) d.1) where
      by : (o : Option ℕ) → EachPost P (shown rules notes) → EachPost P (head_of o slot (shown rules notes))
      by None rest = rest
      by (Some q) rest = (tt, rest)
    each_post (Logged (Fetch r i entry) ∷ notes) s d = by (qid_of_region (logged notes) r) (each_post notes (stands_before (Logged (Fetch r i entry)) notes s) d.1) where
      by : (o : Option ℕ) → EachPost P (shown rules notes) → EachPost P (fetch_of o (i % sq_slots rules r) entry (shown rules notes))
      by None rest = rest
      by (Some q) rest = (tt, rest)
    each_post (Logged (Post c r i cqe) ∷ notes) s d =
        by (cqid_of_region (logged notes) c) refl (each_post notes (stands_before (Logged (Post c r i cqe)) notes s) d.1) where
          by : (o : Option ℕ) → cqid_of_region (logged notes) c ≡ o → EachPost P (shown rules notes) → EachPost P (post_of o (length (posted_to (logged notes) c) % cq_slots rules c) cqe (shown rules notes))
          by None is rest = rest
          by (Some q) is rest = (posts notes c r i q cqe s d is, rest)
    each_post (Logged e ∷ notes) s d = each_post notes (stands_before (Logged e) notes s) d.1
    each_post (note ∷ notes) s d = each_post notes (stands_before note notes s) d.1
