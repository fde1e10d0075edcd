-- What holds of the event that each note shows holds of each event of the log.
use Rattle.std.proofs.Common.{◌≡◌, ℕ, ◌%◌, [], ◌∷◌, length, Option, Some, None, refl}
use Rattle.nvme_entry.specs.AdminCommand.{admin_command_of}
use Rattle.nvme_entry.specs.declared.submission.Sqe.{Sqe}
use Rattle.nvme_entry.specs.declared.completion.Cqe.{Cqe}
use Rattle.nvme_log.specs.declared.event.Event.TheVariants.{Fetch, Post}
use Rattle.nvme_log.specs.Rules.{FrontRules}
use Rattle.nvme_log.specs.Queues.{qid_of_region}
use Rattle.nvme_log.specs.Completions.{posted_to}
use Rattle.nvme_ctrl_log.specs.Notes.{Notes, Note, Logged, Tail, Head, EachNote, logged}
use Rattle.nvme_ctrl_log.specs.Doorbells.{sq_slots, cq_slots}
use Rattle.nvme_ctrl_log.specs.Account.{IsLawful}
use Rattle.nvme_audit.specs.declared.event.Event.{Event}
use Rattle.nvme_audit.specs.declared.event.Event.TheVariants as shows
use Rattle.nvme_audit.specs.Lives.{Past}
use Rattle.nvme_own_log.specs.Shown.{cqid_of_region, completion_of, tail_of, head_of, fetch_of, post_of, shown, EachShown}

module _ (rules : FrontRules) (D : Past → Event → Type 0) where
  -- what holds of each event of a log held before
  pub free_before : (note : Note) (notes : Notes) → EachShown D (shown rules (note ∷ notes)) → EachShown D (shown rules notes)
  free_before (Tail r slot) notes free = by (qid_of_region (logged notes) r) free where
    by : (o : Option ℕ) → EachShown D (tail_of o slot (shown rules notes)) → EachShown D (shown rules notes)
    by None f = f
    by (Some q) f = f.1
  free_before (Head c slot) notes free = by (cqid_of_region (logged notes) c) free where
    by : (o : Option ℕ) → EachShown D (head_of o slot (shown rules notes)) → EachShown D (shown rules notes)
    by None f = f
    by (Some q) f = f.1
  free_before (Logged (Fetch r i entry)) notes free = by (qid_of_region (logged notes) r) free where
    by : (o : Option ℕ) → EachShown D (fetch_of o (i % sq_slots rules r) entry (shown rules notes)) → EachShown D (shown rules notes)
    by None f = f
    by (Some q) f = f.1
  free_before (Logged (Post c r i cqe)) notes free = by (cqid_of_region (logged notes) c) free where
    by : (o : Option ℕ) → EachShown D (post_of o (length (posted_to (logged notes) c) % cq_slots rules c) cqe (shown rules notes)) → EachShown D (shown rules notes)
    by None f = f
    by (Some q) f = f.1
  free_before (Logged e) notes free = free
  free_before note notes free = free

  module _ (P : Past → Event → Type 0) (R : Notes → Type 0) (earlier : (note : Note) (notes : Notes) → R (note ∷ notes) → R notes)
      (tails : (notes : Notes) (r slot q : ℕ) → EachNote (IsLawful rules) (Tail r slot ∷ notes) → EachShown D (shown rules notes) → R notes → qid_of_region (logged notes) r ≡ Some q
      → D (shown rules notes) (shows.Tail q slot) → P (shown rules notes) (shows.Tail q slot))
      (heads : (notes : Notes) (c slot q : ℕ) → EachNote (IsLawful rules) (Head c slot ∷ notes) → EachShown D (shown rules notes) → R notes → cqid_of_region (logged notes) c ≡ Some q
      → P (shown rules notes) (shows.Head q slot))
      (fetches : (notes : Notes) (r i q : ℕ) (entry : Sqe) → EachNote (IsLawful rules) (Logged (Fetch r i entry) ∷ notes) → EachShown D (shown rules notes) → R notes → qid_of_region (logged notes) r ≡ Some q
      → D (shown rules notes) (shows.Fetch q (Some (i % sq_slots rules r)) entry.cid (admin_command_of entry)) → P (shown rules notes) (shows.Fetch q (Some (i % sq_slots rules r)) entry.cid (admin_command_of entry)))
      (posts : (notes : Notes) (c r i q : ℕ) (cqe : Cqe) → EachNote (IsLawful rules) (Logged (Post c r i cqe) ∷ notes) → EachShown D (shown rules notes) → R notes → cqid_of_region (logged notes) c ≡ Some q
      → P (shown rules notes) (shows.Post q (Some (length (posted_to (logged notes) c) % cq_slots rules c)) (completion_of cqe))) where
    pub each_shown : (notes : Notes) → EachNote (IsLawful rules) notes → EachShown D (shown rules notes) → R notes → EachShown P (shown rules notes)
    each_shown [] h free r0 = tt
    each_shown (Tail r slot ∷ notes) h free r0 = by (qid_of_region (logged notes) r) refl free (free_before (Tail r slot) notes free) (each_shown notes h.1 (free_before (Tail r slot) notes free) (earlier (Tail r slot) notes r0)) where
      by : (o : Option ℕ) → qid_of_region (logged notes) r ≡ o → EachShown D (tail_of o slot (shown rules notes)) → EachShown D (shown rules notes) → EachShown P (shown rules notes) → EachShown P (tail_of o slot (shown rules notes))
      by None is all f rest = rest
      by (Some q) is all f rest = (tails notes r slot q h f (earlier (Tail r slot) notes r0) is all.0, rest)
    each_shown (Head c slot ∷ notes) h free r0 = by (cqid_of_region (logged notes) c) refl (free_before (Head c slot) notes free) (each_shown notes h.1 (free_before (Head c slot) notes free) (earlier (Head c slot) notes r0)) where
      by : (o : Option ℕ) → cqid_of_region (logged notes) c ≡ o → EachShown D (shown rules notes) → EachShown P (shown rules notes) → EachShown P (head_of o slot (shown rules notes))
      by None is f rest = rest
      by (Some q) is f rest = (heads notes c slot q h f (earlier (Head c slot) notes r0) is, rest)
    each_shown (Logged (Fetch r i entry) ∷ notes) h free r0 =
        by (qid_of_region (logged notes) r) refl free (free_before (Logged (Fetch r i entry)) notes free) (each_shown notes h.1 (free_before (Logged (Fetch r i entry)) notes free) (earlier (Logged (Fetch r i entry)) notes r0)) where
          by : (o : Option ℕ) → qid_of_region (logged notes) r ≡ o → EachShown D (fetch_of o (i % sq_slots rules r) entry (shown rules notes)) → EachShown D (shown rules notes) → EachShown P (shown rules notes)
              → EachShown P (fetch_of o (i % sq_slots rules r) entry (shown rules notes))
          by None is all f rest = rest
          by (Some q) is all f rest = (fetches notes r i q entry h f (earlier (Logged (Fetch r i entry)) notes r0) is all.0, rest)
    each_shown (Logged (Post c r i cqe) ∷ notes) h free r0 =
        by (cqid_of_region (logged notes) c) refl (free_before (Logged (Post c r i cqe)) notes free) (each_shown notes h.1 (free_before (Logged (Post c r i cqe)) notes free) (earlier (Logged (Post c r i cqe)) notes r0)) where
          by : (o : Option ℕ) → cqid_of_region (logged notes) c ≡ o → EachShown D (shown rules notes) → EachShown P (shown rules notes)
              → EachShown P (post_of o (length (posted_to (logged notes) c) % cq_slots rules c) cqe (shown rules notes))
          by None is f rest = rest
          by (Some q) is f rest = (posts notes c r i q cqe h f (earlier (Logged (Post c r i cqe)) notes r0) is, rest)
    each_shown (Logged e ∷ notes) h free r0 = each_shown notes h.1 free (earlier (Logged e) notes r0)
    each_shown (note ∷ notes) h free r0 = each_shown notes h.1 free (earlier note notes r0)
