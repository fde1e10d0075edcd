-- A command that turns a completion queue and was refused: while it is pending the queue is as it was at its pick. And no more queues are allotted than then.
use Rattle.std.proofs.Common.{◌≡◌, ℕ, ◌<◌, ◌≤◌, ◌==◌, ◌&&◌, true, false, if◌then◌else◌, List, [], ◌∷◌, ◌++◌, length, Option, None, is_some, refl, sym, ap, ◌∙◌, subst, arith, inl, inr}
use Rattle.std.proofs.lemmas.Bool.{cases_eq, eq-eqb, ne_eqb, or_parts, false_from_ne_true}
use Rattle.std.proofs.lemmas.Option.{none-some, same_Some}
use Rattle.nvme_entry.specs.AdminCommand.{admin_command_of}
use Rattle.nvme_entry.specs.declared.submission.Sqe.{Sqe}
use Rattle.nvme_arbiter.specs.declared.pick.Pick.{Pick}
use Rattle.nvme_arbiter.specs.declared.pick.Seen.{Seen}
use Rattle.nvme_admin.specs.History.{TableHistory}
use Rattle.nvme_admin.specs.Checks.{is_success}
use Rattle.nvme_admin.specs.Accepted.{cq_at, status_of}
use Rattle.nvme_log.specs.declared.event.Event.{Event}
use Rattle.nvme_log.specs.declared.event.Event.TheVariants as event
use Rattle.nvme_log.specs.Rules.{FrontRules, Past}
use Rattle.nvme_log.specs.Places.{fetched, picked, entry_at}
use Rattle.nvme_log.specs.Histories.{table_history, applied}
use Rattle.nvme_log.specs.Completions.{is_posted, table_before}
use Rattle.nvme_log.specs.Laws.{StartsWithAdmin}
use Rattle.nvme_ctrl_log.specs.Notes.{Notes, Logged, logged}
use Rattle.nvme_ctrl_log.specs.Making.{placing_in}
use Rattle.nvme_ctrl_log.proofs.TakenCommands.{IsSound}
use Rattle.nvme_audit.specs.Lives as lives
use Rattle.nvme_audit.specs.Queues.{turns_cq}
use Rattle.nvme_audit.specs.Turns.{have_met}
use Rattle.nvme_own_log.specs.Shown.{shown}
use Rattle.nvme_own_log.proofs.AdminTurns.{TakesNext, takes_next, takes_other, few_picked}
use Rattle.nvme_own_statuses.proofs.CqFacts.{CqsAt, Turns, finds, has, cqs_at, unmet_before}
use Rattle.nvme_own_statuses.proofs.CqTables.{entry_leaves, event_leaves}
use Rattle.nvme_own_log.proofs.IoQueues.{sound}
use Rattle.nvme_own_log.proofs.Phases.{IsPending}
use Rattle.nvme_own_statuses.proofs.Standing.{Stands, stands_before, io_at}
use Rattle.nvme_own_statuses.proofs.TellsNotes.{split}

module _ (rules : FrontRules) where
  abbrev pub AreRefused : Past → Type 0
  AreRefused past = (q k : ℕ) (a : Sqe) → IsPending rules past k a → k < picked past 0 → is_success (status_of rules.start (table_before rules past k) a) ≡ false → Turns rules a q
      → is_some (cq_at rules.start (table_before rules past k) q) ≡ has rules past q

  abbrev IsUnseen : Event → Type 0
  IsUnseen (event.Fetch r i entry) = ⊥
  IsUnseen (event.Pick seen pick) = ⊥
  IsUnseen (event.Post c r i cqe) = ⊥
  IsUnseen e = Unit {0}

  refused_event : (past : Past) (e : Event) → IsUnseen e → AreRefused past → AreRefused (e ∷ past)
  refused_event past (event.Fetch r i entry) u before = absurd u
  refused_event past (event.Pick seen pick) u before = absurd u
  refused_event past (event.Post b r i cqe) u before = absurd u
  refused_event past e u before = λ q k a p lt refused turns. before q k a p lt refused turns ∙ sym (ap (λ (o : Option ℕ). is_some o) (event_leaves rules e past q tt))

  module _ (log : lives.Past) (past : Past) (seen : List Seen) (pick : Pick) (s : IsSound rules (event.Pick seen pick ∷ past)) (c : CqsAt rules log past) (fresh : is_posted past 0 (picked past 0) ≡ false) (before : AreRefused past) where
    refused_io : (pick.qid ≡ 0 → ⊥) → AreRefused (event.Pick seen pick ∷ past)
    refused_io io q k a p lt refused turns =
        let same : table_before rules (event.Pick seen pick ∷ past) k ≡ table_before rules past k = rw (ne_eqb pick.qid 0 io) refl in
        let table_same : table_history rules (event.Pick seen pick ∷ past) ≡ table_history rules past = rw (ne_eqb pick.qid 0 io) refl in
        ap (λ (x : TableHistory). is_some (cq_at rules.start x q)) same
        ∙ before q k a p (omega (arith, lt, takes_other rules past seen pick s io)) (subst (λ (x : TableHistory). is_success (status_of rules.start x a) ≡ false) same refused) turns
        ∙ ap (λ (x : TableHistory). is_some (cq_at rules.start x q)) (sym table_same)

    refused_admin : pick.qid ≡ 0 → AreRefused (event.Pick seen pick ∷ past)
    refused_admin z q k a p lt refused turns = elim (cases_eq k (picked past 0)) [
      | inl here ↦
          let now : table_before rules (event.Pick seen pick ∷ past) k ≡ table_history rules past = rw (eq-eqb pick.qid 0 z, next.oldest, eq-eqb (picked past 0) k (sym here)) refl in
          let entry : next.entry ≡ a = same_Some next.entry a (sym next.is_there ∙ ap (entry_at past 0) (sym here) ∙ p.0) in
          let fails : is_success (status_of rules.start (table_history rules past) next.entry) ≡ false =
          subst (λ (x : Sqe). is_success (status_of rules.start (table_history rules past) x) ≡ false) (sym entry) (subst (λ (x : TableHistory). is_success (status_of rules.start x a) ≡ false) now refused) in
          ap (λ (x : TableHistory). is_some (cq_at rules.start x q)) now ∙ sym (left (λ success. cc (success, fails)))
      | inr other ↦
          let same : table_before rules (event.Pick seen pick ∷ past) k ≡ table_before rules past k = rw (eq-eqb pick.qid 0 z, next.oldest, ne_eqb (picked past 0) k (λ e. other (sym e))) refl in
          ap (λ (x : TableHistory). is_some (cq_at rules.start x q)) same
          ∙ before q k a p (omega (arith, lt, other, next.one_more)) (subst (λ (x : TableHistory). is_success (status_of rules.start x a) ≡ false) same refused) turns
          ∙ sym (left (λ success. false_from_ne_true (turns_cq (admin_command_of next.entry) q) (λ too. other (c.alone q k (picked past 0) a next.entry p (next.is_there, fresh) turns too))))
    ] where
      next : TakesNext rules past seen pick
      next = takes_next rules past seen pick s z

      left : (is_success (status_of rules.start (table_history rules past) next.entry) ≡ true → turns_cq (admin_command_of next.entry) q ≡ false) → has rules (event.Pick seen pick ∷ past) q ≡ has rules past q
      left none =
          ap (λ (x : TableHistory). is_some (cq_at rules.start x q)) (λ i. if eq-eqb pick.qid 0 z i then applied (next.entry_is i) ++ table_history rules past else table_history rules past)
          ∙ ap (λ (o : Option ℕ). is_some o) (entry_leaves rules.start (table_history rules past) next.entry q none)

    refused_pick : AreRefused (event.Pick seen pick ∷ past)
    refused_pick = elim (cases_eq pick.qid 0) [ inl z ↦ refused_admin z | inr io ↦ refused_io io ]

  module _ (starts : StartsWithAdmin rules) (by_regions : placing_in rules ≡ None) where
    refused_fetch : (t j : ℕ) (entry : Sqe) (notes : Notes) → Stands rules (Logged (event.Fetch t j entry) ∷ notes) → AreRefused (logged notes) → AreRefused (event.Fetch t j entry ∷ logged notes)
    refused_fetch t j entry notes s before q k a pending lt refused turns = elim (split rules starts by_regions t j entry notes s 0 k a pending.0) [
      | inl old ↦ before q k a (old, pending.1) lt refused turns
      | inr new ↦ absurd (
          let now = stands_before rules (Logged (event.Fetch t j entry)) notes s in
          let few : picked (logged notes) 0 ≤ length (fetched (logged notes) 0) = few_picked rules (logged notes) (sound rules starts by_regions notes now.each now.lawful) in
          omega (arith, lt, few, new.1))
    ]

    pub refused_at : (notes : Notes) → Stands rules notes → have_met (shown rules notes) ≡ false → AreRefused (logged notes)
    refused_at [] s m = λ q k a p lt refused turns. absurd (none-some a p.0)
    refused_at (Logged (event.Fetch r i entry) ∷ notes) s m = refused_fetch r i entry notes s (refused_at notes (stands_before rules (Logged (event.Fetch r i entry)) notes s) (unmet_before rules starts by_regions (Logged (event.Fetch r i entry)) notes m))
    refused_at (Logged (event.Post c r i cqe) ∷ notes) s m =
        let before = refused_at notes (stands_before rules (Logged (event.Post c r i cqe)) notes s) (unmet_before rules starts by_regions (Logged (event.Post c r i cqe)) notes m) in
        λ q k a p lt refused turns. before q k a (p.0, (or_parts (r == 0 && i == k) (is_posted (logged notes) 0 k) p.1).1) lt refused turns
    refused_at (Logged (event.Pick seen pick) ∷ notes) s m =
        let before = stands_before rules (Logged (event.Pick seen pick)) notes s in
        refused_pick (shown rules notes) (logged notes) seen pick (sound rules starts by_regions (Logged (event.Pick seen pick) ∷ notes) s.each s.lawful) (cqs_at rules starts by_regions notes before m)
        (false_from_ne_true (is_posted (logged notes) 0 (picked (logged notes) 0)) (λ p. let few = (io_at rules starts by_regions notes before).picked_posts (picked (logged notes) 0) p in absurd (omega (arith, few))))
        (refused_at notes before m)
    refused_at (Logged (event.SetArbitration x) ∷ notes) s m = refused_event (logged notes) (event.SetArbitration x) tt (refused_at notes (stands_before rules (Logged (event.SetArbitration x)) notes s) m)
    refused_at (Logged (event.OpenSq q r x k) ∷ notes) s m = refused_event (logged notes) (event.OpenSq q r x k) tt (refused_at notes (stands_before rules (Logged (event.OpenSq q r x k)) notes s) m)
    refused_at (Logged (event.OpenCq q r) ∷ notes) s m = refused_event (logged notes) (event.OpenCq q r) tt (refused_at notes (stands_before rules (Logged (event.OpenCq q r)) notes s) m)
    refused_at (Logged (event.Closing q r) ∷ notes) s m = refused_event (logged notes) (event.Closing q r) tt (refused_at notes (stands_before rules (Logged (event.Closing q r)) notes s) m)
    refused_at (Logged (event.Abort r i) ∷ notes) s m = refused_event (logged notes) (event.Abort r i) tt (refused_at notes (stands_before rules (Logged (event.Abort r i)) notes s) m)
    refused_at (Logged (event.ClosedSq q r) ∷ notes) s m = refused_event (logged notes) (event.ClosedSq q r) tt (refused_at notes (stands_before rules (Logged (event.ClosedSq q r)) notes s) m)
    refused_at (Logged (event.ClosedCq q r) ∷ notes) s m = refused_event (logged notes) (event.ClosedCq q r) tt (refused_at notes (stands_before rules (Logged (event.ClosedCq q r)) notes s) m)
    refused_at (note ∷ notes) s m = refused_at notes (stands_before rules note notes s) (unmet_before rules starts by_regions note notes m)

    -- so the judge finds the queue where it was there at the pick
    pub found_as : (notes : Notes) → Stands rules notes → have_met (shown rules notes) ≡ false → (q k : ℕ) (a : Sqe) → IsPending rules (logged notes) k a → k < picked (logged notes) 0
        → is_success (status_of rules.start (table_before rules (logged notes) k) a) ≡ false → Turns rules a q → finds rules (shown rules notes) q ≡ is_some (cq_at rules.start (table_before rules (logged notes) k) q)
    found_as notes s m q k a p lt refused turns =
        let facts = cqs_at rules starts by_regions notes s m in
        facts.idle q (λ j x pending ok too.
        let same : k ≡ j = facts.alone q k j a x p pending turns too in
        let entry : a ≡ x = same_Some a x (sym p.0 ∙ ap (entry_at (logged notes) 0) same ∙ pending.0) in
        let success : is_success (status_of rules.start (table_before rules (logged notes) k) a) ≡ true =
        subst (λ (y : Sqe). is_success (status_of rules.start (table_before rules (logged notes) k) y) ≡ true) (sym entry) (subst (λ (n : ℕ). is_success (status_of rules.start (table_before rules (logged notes) n) x) ≡ true) (sym same) ok.1) in
        cc (success, refused))
        ∙ sym (refused_at notes s m q k a p lt refused turns)
