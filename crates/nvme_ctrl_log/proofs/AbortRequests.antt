-- Which places Abort commands aborted, and which were aborted with their queue, after more events.
use Rattle.std.proofs.Common.{◌≡◌, ℕ, ◌==◌, ◌&&◌, ◌||◌, Bool, true, false, not, List, [], ◌∷◌, map, Option, Some, refl, sym, ap, ◌∙◌, subst, eqb-true, eq-eqb, true≢false}
use Rattle.std.proofs.lemmas.Bool.{and_left, and_right, and_parts, false_from_ne_true}
use Rattle.nvme_entry.specs.declared.submission.Sqe.{Sqe}
use Rattle.nvme_arbiter.specs.declared.pick.Pick.{Pick}
use Rattle.nvme_arbiter.specs.declared.pick.Seen.{Seen}
use Rattle.nvme_log.specs.declared.event.Event.TheVariants as event
use Rattle.nvme_log.specs.Rules.{Past}
use Rattle.nvme_log.specs.Places.{is_aborted}
use Rattle.nvme_log.specs.Histories.{admin_entry}
use Rattle.nvme_log.specs.Aborts.{is_abort_entry, took_abort, is_abort_requested, is_aborted_with_queue}
use Rattle.nvme_ctrl_log.proofs.LaterEvents.{with_events}

-- what an Abort command aborted is aborted
pub requested_aborted : (past : Past) (r i : ℕ) → is_abort_requested past r i ≡ true → is_aborted past r i ≡ true
requested_aborted [] r i h = h
requested_aborted (event.Abort region index ∷ past) r i h =
    either (region == r && index == i) (took_abort past) (is_abort_requested past r i) (is_aborted past r i) (requested_aborted past r i) h where
      either : (here took earlier aborted : Bool) → (earlier ≡ true → aborted ≡ true) → ((here && took) || earlier) ≡ true → (here || aborted) ≡ true
      either true took earlier aborted k e = refl
      either false took earlier aborted k e = k e
requested_aborted (e ∷ past) r i h = requested_aborted past r i h

-- so none aborted a place that isn't aborted
pub unrequested : (past : Past) (r i : ℕ) → is_aborted past r i ≡ false → is_abort_requested past r i ≡ false
unrequested past r i h = false_from_ne_true (is_abort_requested past r i) (λ e. true≢false (sym (requested_aborted past r i e) ∙ h))

-- nor was it aborted with its queue
pub not_with_queue : (past : Past) (r i : ℕ) → is_aborted past r i ≡ false → is_aborted_with_queue past r i ≡ false
not_with_queue past r i h = and_left (is_aborted past r i) (not (is_abort_requested past r i)) h

-- a pick of the admin queue takes an Abort command where its entry is one
pub took_pick : (past : Past) (seen : List Seen) (pick : Pick) (entry : Sqe) → pick.qid ≡ 0 → admin_entry past ≡ Some entry
    → took_abort (event.Pick seen pick ∷ past) ≡ is_abort_entry (Some entry)
took_pick past seen pick entry first taken =
    ap (λ (b : Bool). b && is_abort_entry (admin_entry past)) (eq-eqb pick.qid 0 first) ∙ ap (λ (o : Option Sqe). is_abort_entry o) taken

-- the aborts of a deletion are those of no Abort command
pub requests-aborts : (r x j : ℕ) (is : List ℕ) (past : Past) → took_abort past ≡ false
    → is_abort_requested (with_events (map (λ (i : ℕ). event.Abort r i) is) past) x j ≡ is_abort_requested past x j
requests-aborts r x j [] past h = refl
requests-aborts r x j (i ∷ is) past h =
    requests-aborts r x j is (event.Abort r i ∷ past) h
    ∙ ap (λ (b : Bool). b || is_abort_requested past x j) (and_right (r == x && i == j) (took_abort past) h)

-- the abort of an Abort command, of a place that isn't aborted yet, leaves which places were aborted with their queue
pub with_queue-request : (past : Past) (r i : ℕ) → took_abort past ≡ true → is_aborted past r i ≡ false → (x j : ℕ)
    → is_aborted_with_queue (event.Abort r i ∷ past) x j ≡ is_aborted_with_queue past x j
with_queue-request past r i took fresh x j =
    leaves (r == x && i == j) (took_abort past) (is_aborted past x j) (is_abort_requested past x j) took (λ here. let same = and_parts (r == x) (i == j) here in
    subst (λ (z : ℕ). is_aborted past x z ≡ false) (eqb-true i j same.1) (subst (λ (z : ℕ). is_aborted past z i ≡ false) (eqb-true r x same.0) fresh)) where
      leaves : (h t a q : Bool) → t ≡ true → (h ≡ true → a ≡ false) → ((h || a) && not ((h && t) || q)) ≡ (a && not q)
      leaves true true true q e k = absurd (true≢false (k refl))
      leaves true true false q e k = refl
      leaves true false a q e k = absurd (true≢false (sym e))
      leaves false t a q e k = refl
