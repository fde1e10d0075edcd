-- A command that turns a submission queue and was refused: while it is pending the queue is as it was at its pick.
use Rattle.std.proofs.Common.{◌≡◌, ℕ, ◌<◌, ◌≤◌, ◌==◌, ◌&&◌, true, false, List, [], ◌∷◌, length, None, refl, sym, ap, ◌∙◌, subst, arith, inl, inr}
use Rattle.std.proofs.lemmas.Bool.{cases_eq, eq-eqb, ne_eqb, or_parts}
use Rattle.std.proofs.lemmas.Option.{none-some, same_Some}
use Rattle.std.proofs.lemmas.List.{append-nil}
use Rattle.nvme_entry.specs.AdminCommand.{admin_command_of}
use Rattle.nvme_entry.specs.declared.submission.Sqe.{Sqe}
use Rattle.nvme_entry.specs.declared.admin.AdminCommand.{AdminCommand}
use Rattle.nvme_arbiter.specs.declared.settings.Class.{Class}
use Rattle.nvme_arbiter.specs.declared.pick.Pick.{Pick}
use Rattle.nvme_arbiter.specs.declared.pick.Seen.{Seen}
use Rattle.nvme_admin.specs.History.{TableHistory}
use Rattle.nvme_admin.specs.Checks.{is_success}
use Rattle.nvme_admin.specs.Accepted.{sq_at, status_of}
use Rattle.nvme_log.specs.declared.event.Event.TheVariants.{OpenSq, Closing}
use Rattle.nvme_log.specs.declared.event.Event.TheVariants as event
use Rattle.nvme_log.specs.Rules.{FrontRules, Past}
use Rattle.nvme_log.specs.Queues.{open_sq}
use Rattle.nvme_log.specs.Places.{fetched, picked, entry_at}
use Rattle.nvme_log.specs.Histories.{table_history}
use Rattle.nvme_log.specs.Completions.{is_posted, table_before}
use Rattle.nvme_log.specs.Effects.{effects_since, EffectsAtOnce}
use Rattle.nvme_log.specs.Laws.{as_open, StartsWithAdmin}
use Rattle.nvme_log.proofs.Promise.{first-is_made}
use Rattle.nvme_log.proofs.Tables.{sync}
use Rattle.nvme_ctrl_log.specs.Notes.{Notes, Logged, logged}
use Rattle.nvme_ctrl_log.specs.Making.{placing_in}
use Rattle.nvme_ctrl_log.proofs.TakenCommands.{IsSound}
use Rattle.nvme_audit.specs.Lives.{turns_sq}
use Rattle.nvme_own_log.proofs.AdminTurns.{TakesNext, takes_next, takes_other, few_picked}
use Rattle.nvme_own_log.proofs.IoQueues.{sound}
use Rattle.nvme_own_log.proofs.OwnRegions.{opens_io, closes_io}
use Rattle.nvme_own_log.proofs.Phases.{IsPending, IsAccepted, AreAlone, Stage, Phase, closed, creating, made, told, deleting_it, going, quiet_open, quiet_closing}
use Rattle.nvme_own_statuses.proofs.Standing.{Stands, stands_before, io_at}
use Rattle.nvme_own_statuses.proofs.TellsNotes.{split}

module _ (rules : FrontRules) where
  -- a command that turns the queue is pending, and was accepted
  pub record IsTurning (past : Past) (q : ℕ) : Type 0 where
    pub place : ℕ
    pub entry : Sqe
    pub pending : IsPending rules past place entry
    pub accepted : IsAccepted rules past place entry
    pub turns : turns_sq (admin_command_of entry) q ≡ true

  -- so it is where the queue is opened
  opens_by : (past : Past) (q r c : ℕ) (class : Class) (st : Stage) → EffectsAtOnce rules past (OpenSq q r c class) → Phase rules past q st → IsTurning past q
  opens_by past q r c class st h (closed o s n y) = absurd (quiet_open q r c class _ _ y h)
  opens_by past q r c class st h (creating k entry s cqid cl is p a o none made_is fresh served) =
      record { place = k; entry = entry; pending = p; accepted = a; turns = ap (λ (x : AdminCommand). turns_sq x q) is.command_is ∙ eq-eqb q q refl }
  opens_by past q r c class st h (made k entry queue is p a o s y) = absurd (quiet_open q r c class _ _ y h)
  opens_by past q r c class st h (told queue o s n y) = absurd (quiet_open q r c class _ _ y h)
  opens_by past q r c class st h (deleting_it k entry queue more is p a l o none made_is m s) =
      absurd (let same : OpenSq q r c class ≡ Closing q queue.region = first-is_made rules past (OpenSq q r c class) (Closing q queue.region) more h none made_is in cc same)
  opens_by past q r c class st h (going k entry s cq is p a o own ends others y) = absurd (quiet_open q r c class _ _ y h)

  -- and where its deletion begins
  closes_by : (past : Past) (q r : ℕ) (st : Stage) → EffectsAtOnce rules past (Closing q r) → Phase rules past q st → IsTurning past q
  closes_by past q r st h (closed o s n y) = absurd (quiet_closing q r _ _ y h)
  closes_by past q r st h (creating k entry s cqid cl is p a o none made_is fresh served) =
      absurd (let same : Closing q r ≡ OpenSq q s cqid cl = first-is_made rules past (Closing q r) (OpenSq q s cqid cl) [] h none made_is in cc same)
  closes_by past q r st h (made k entry queue is p a o s y) = absurd (quiet_closing q r _ _ y h)
  closes_by past q r st h (told queue o s n y) = absurd (quiet_closing q r _ _ y h)
  closes_by past q r st h (deleting_it k entry queue more is p a l o none made_is m s) =
      record { place = k; entry = entry; pending = p; accepted = a; turns = ap (λ (x : AdminCommand). turns_sq x q) is ∙ eq-eqb q q refl }
  closes_by past q r st h (going k entry s cq is p a o own ends others y) = absurd (quiet_closing q r _ _ y h)

  -- a refused command isn't the one that turns the queue
  pub not_turning : (past : Past) → AreAlone rules past → (k q : ℕ) (a : Sqe) → IsPending rules past k a → is_success (status_of rules.start (table_before rules past k) a) ≡ false → turns_sq (admin_command_of a) q ≡ true → IsTurning past q → ⊥
  not_turning past alone k q a p refused turns t =
      let same : k ≡ t.place = alone q k t.place a t.entry p t.pending turns t.turns in
      let entry : a ≡ t.entry = same_Some a t.entry (sym p.0 ∙ ap (entry_at past 0) same ∙ t.pending.0) in
      let success : is_success (status_of rules.start (table_before rules past k) a) ≡ true =
      subst (λ (x : Sqe). is_success (status_of rules.start (table_before rules past k) x) ≡ true) (sym entry) (subst (λ (z : ℕ). is_success (status_of rules.start (table_before rules past z) t.entry) ≡ true) (sym same) t.accepted.1) in
      cc (success, refused)

  -- the queue of each refused command is as it was
  abbrev pub AreRefused : Past → Type 0
  AreRefused past = (k q : ℕ) (a : Sqe) → IsPending rules past k a → k < picked past 0 → is_success (status_of rules.start (table_before rules past k) a) ≡ false → turns_sq (admin_command_of a) q ≡ true
      → open_sq past q ≡ as_open (sq_at rules.start (table_before rules past k) q)

  refused_pick : StartsWithAdmin rules → (past : Past) (seen : List Seen) (pick : Pick) → IsSound rules (event.Pick seen pick ∷ past) → AreRefused past → AreRefused (event.Pick seen pick ∷ past)
  refused_pick starts past seen pick s before k q a p lt refused turns = elim (cases_eq pick.qid 0) [
    | inr io ↦
        let same : table_before rules (event.Pick seen pick ∷ past) k ≡ table_before rules past k = rw (ne_eqb pick.qid 0 io) refl in
        old same (omega (arith, lt, takes_other rules past seen pick s io))
    | inl z ↦
        let next : TakesNext rules past seen pick = takes_next rules past seen pick s z in
        elim (cases_eq k (picked past 0)) [
          | inl here ↦
              let now : table_before rules (event.Pick seen pick ∷ past) k ≡ table_history rules past = rw (eq-eqb pick.qid 0 z, next.oldest, eq-eqb (picked past 0) k (sym here)) refl in
              (sync rules starts past s.effects.1 [] (append-nil (effects_since past) ∙ s.effects.0)).sq q ∙ ap (λ (t : TableHistory). as_open (sq_at rules.start t q)) (sym now)
          | inr other ↦
              let same : table_before rules (event.Pick seen pick ∷ past) k ≡ table_before rules past k = rw (eq-eqb pick.qid 0 z, next.oldest, ne_eqb (picked past 0) k (λ e. other (sym e))) refl in
              old same (omega (arith, lt, other, next.one_more))
        ]
  ] where
    old : table_before rules (event.Pick seen pick ∷ past) k ≡ table_before rules past k → k < picked past 0 → open_sq past q ≡ as_open (sq_at rules.start (table_before rules (event.Pick seen pick ∷ past) k) q)
    old same few =
        before k q a p few (subst (λ (t : TableHistory). is_success (status_of rules.start t a) ≡ false) same refused) turns ∙ ap (λ (t : TableHistory). as_open (sq_at rules.start t q)) (sym same)

  module _ (starts : StartsWithAdmin rules) (by_regions : placing_in rules ≡ None) where
    refused_open : (p r c : ℕ) (class : Class) (notes : Notes) → Stands rules (Logged (OpenSq p r c class) ∷ notes) → AreRefused (logged notes) → AreRefused (OpenSq p r c class ∷ logged notes)
    refused_open p r c class notes s before k q a pending lt refused turns = elim (cases_eq p q) [
      | inr other ↦ rw (ne_eqb p q other) (before k q a pending lt refused turns)
      | inl same ↦
          absurd (let at = io_at rules starts by_regions notes (stands_before rules (Logged (OpenSq p r c class)) notes s) in
          let x = at.queue p (opens_io rules (logged notes) p r c class s.each.0.effects_at_once) in
          let t : IsTurning (logged notes) q = subst (IsTurning (logged notes)) same (opens_by (logged notes) p r c class x.stage s.each.0.effects_at_once x.phase) in
          not_turning (logged notes) at.alone k q a pending refused turns t)
    ]

    refused_closing : (p r : ℕ) (notes : Notes) → Stands rules (Logged (Closing p r) ∷ notes) → AreRefused (logged notes) → AreRefused (Closing p r ∷ logged notes)
    refused_closing p r notes s before k q a pending lt refused turns = elim (cases_eq p q) [
      | inr other ↦ rw (ne_eqb p q other) (before k q a pending lt refused turns)
      | inl same ↦
          absurd (let at = io_at rules starts by_regions notes (stands_before rules (Logged (Closing p r)) notes s) in
          let x = at.queue p (closes_io rules (logged notes) p r s.each.0.effects_at_once) in
          let t : IsTurning (logged notes) q = subst (IsTurning (logged notes)) same (closes_by (logged notes) p r x.stage s.each.0.effects_at_once x.phase) in
          not_turning (logged notes) at.alone k q a pending refused turns t)
    ]

    refused_fetch : (t j : ℕ) (entry : Sqe) (notes : Notes) → Stands rules (Logged (event.Fetch t j entry) ∷ notes) → AreRefused (logged notes) → AreRefused (event.Fetch t j entry ∷ logged notes)
    refused_fetch t j entry notes s before k q a pending lt refused turns = elim (split rules starts by_regions t j entry notes s 0 k a pending.0) [
      | inl old ↦ before k q a (old, pending.1) lt refused turns
      | inr new ↦ absurd (
          let now = stands_before rules (Logged (event.Fetch t j entry)) notes s in
          let few : picked (logged notes) 0 ≤ length (fetched (logged notes) 0) = few_picked rules (logged notes) (sound rules starts by_regions notes now.each now.lawful) in
          omega (arith, lt, few, new.1))
    ]

    pub refused_at : (notes : Notes) → Stands rules notes → AreRefused (logged notes)
    refused_at [] s = λ k q a p lt refused turns. absurd (none-some a p.0)
    refused_at (Logged (event.Fetch r i entry) ∷ notes) s = refused_fetch r i entry notes s (refused_at notes (stands_before rules (Logged (event.Fetch r i entry)) notes s))
    refused_at (Logged (event.Post c r i cqe) ∷ notes) s =
        let before = refused_at notes (stands_before rules (Logged (event.Post c r i cqe)) notes s) in
        λ k q a p lt refused turns. before k q a (p.0, (or_parts (r == 0 && i == k) (is_posted (logged notes) 0 k) p.1).1) lt refused turns
    refused_at (Logged (event.Pick seen pick) ∷ notes) s =
        refused_pick starts (logged notes) seen pick (sound rules starts by_regions (Logged (event.Pick seen pick) ∷ notes) s.each s.lawful) (refused_at notes (stands_before rules (Logged (event.Pick seen pick)) notes s))
    refused_at (Logged (OpenSq q r c k) ∷ notes) s = refused_open q r c k notes s (refused_at notes (stands_before rules (Logged (OpenSq q r c k)) notes s))
    refused_at (Logged (Closing q r) ∷ notes) s = refused_closing q r notes s (refused_at notes (stands_before rules (Logged (Closing q r)) notes s))
    refused_at (Logged e ∷ notes) s = refused_at notes (stands_before rules (Logged e) notes s)
    refused_at (note ∷ notes) s = refused_at notes (stands_before rules note notes s)
