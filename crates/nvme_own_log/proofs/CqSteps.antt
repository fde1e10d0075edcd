-- The phases of a completion queue at completions and picks.
use Rattle.std.proofs.Common.{◌≡◌, ℕ, ◌+◌, ◌<◌, ◌==◌, ◌&&◌, Bool, true, false, List, [], ◌∷◌, Option, Some, None, is_some, refl, sym, ap, ◌∙◌, subst, arith, inl, inr, eqb-true, eq-eqb}
use Rattle.std.proofs.lemmas.Bool.{cases_Bool, cases_eq, ne_eqb, or_parts, and_parts, and_from}
use Rattle.std.proofs.lemmas.List.{append-nil}
use Rattle.std.proofs.lemmas.Option.{none-some}
use Rattle.nvme_entry.specs.AdminCommand.{admin_command_of}
use Rattle.nvme_entry.specs.declared.submission.Sqe.{Sqe}
use Rattle.nvme_entry.specs.declared.completion.Cqe.{Cqe}
use Rattle.nvme_entry.specs.declared.admin.AdminCommand.{AdminCommand}
use Rattle.nvme_entry.specs.declared.admin.AdminCommand.TheVariants.{DeleteCq, CreateCq}
use Rattle.nvme_arbiter.specs.declared.pick.Pick.{Pick}
use Rattle.nvme_arbiter.specs.declared.pick.Seen.{Seen}
use Rattle.nvme_admin.specs.History.{TableHistory}
use Rattle.nvme_admin.specs.Changes.{IsDue, MayOpenCq, MayCloseCq}
use Rattle.nvme_admin.specs.Checks.{is_success}
use Rattle.nvme_admin.specs.Accepted.{queue_table, cq_at, status_of, verdict_of}
use Rattle.nvme_admin.specs.declared.region.Region.{Region}
use Rattle.nvme_admin.specs.declared.verdict.Verdict.{Verdict}
use Rattle.nvme_admin.specs.declared.verdict.Verdict.TheVariants as verdict
use Rattle.nvme_admin.proofs.Changed.{TellsChange-entry}
use Rattle.nvme_log.specs.declared.event.Event.TheVariants.{OpenSq, OpenCq, ClosedCq, Post}
use Rattle.nvme_log.specs.declared.event.Event.TheVariants as event
use Rattle.nvme_log.specs.Rules.{FrontRules, Past, slots_at}
use Rattle.nvme_log.specs.Queues.{open_cq}
use Rattle.nvme_log.specs.Places.{picked}
use Rattle.nvme_log.specs.Histories.{table_history}
use Rattle.nvme_log.specs.Completions.{is_posted}
use Rattle.nvme_log.specs.Effects.{closed_cq_of, made_by, made_last, effects_since, EffectsAtOnce}
use Rattle.nvme_log.specs.Laws.{StartsWithAdmin}
use Rattle.nvme_log.proofs.Members.{IsIn}
use Rattle.nvme_log.proofs.Promise.{first-is_made}
use Rattle.nvme_log.proofs.Tables.{sync}
use Rattle.nvme_ctrl_log.specs.Doorbells.{cq_slots}
use Rattle.nvme_ctrl_log.specs.Making.{placing_in}
use Rattle.nvme_ctrl_log.proofs.FurtherHistories.{placing-stays}
use Rattle.nvme_ctrl_log.proofs.TakenCommands.{IsSound}
use Rattle.nvme_audit.specs.Queues.{turns_cq}
use Rattle.nvme_own_log.proofs.AdminTurns.{TakesNext, takes_next}
use Rattle.nvme_own_log.proofs.CqsAlone.{AreCqsAlone}
use Rattle.nvme_own_log.proofs.CqPhases.{CqStage, unknown, known_on, NoTurn, no_turn, rest_none, IsCqCreate, NoneTurns, Quiet, CqPhase, absent, coming, hidden, present, leaving, gone}
use Rattle.nvme_own_log.proofs.CqTurns.{CqTurn, cq_turn_of, cq_regions_stay}
use Rattle.nvme_own_log.proofs.CqTurns as cq
use Rattle.nvme_own_log.proofs.OwnRegions.{cq_opened-by, cq_closed-by}
use Rattle.nvme_own_log.proofs.Phases.{IsPending, IsAccepted}
use Rattle.nvme_own_log.proofs.PickedCommands.{accepted_io, accepted_io_before, accepted_more, accepted_parts, made_is_by, pending_now, accepted_now}

module _ (rules : FrontRules) where
  -- ---- completions
  module _ (past : Past) (alone : AreCqsAlone rules past) (q c s i : ℕ) (cqe : Cqe) where
    pending_before : (k : ℕ) (e : Sqe) → IsPending rules (Post c s i cqe ∷ past) k e → IsPending rules past k e
    pending_before k e p = (p.0, (or_parts (s == 0 && i == k) (is_posted past 0 k) p.1).1)

    pending_post : (k : ℕ) (e : Sqe) → (s == 0 && i == k) ≡ false → IsPending rules past k e → IsPending rules (Post c s i cqe ∷ past) k e
    pending_post k e other p = (p.0, rw other p.1)

    none_left : (k : ℕ) (e : Sqe) → (s == 0 && i == k) ≡ true → IsPending rules past k e → turns_cq (admin_command_of e) q ≡ true → NoneTurns rules (Post c s i cqe ∷ past) q
    none_left k e here p turns j o pending a turns_too =
        let same : k ≡ j = alone q k j e o p (pending_before j o pending) turns turns_too in
        let now : (s == 0 && i == j) ≡ true = ap (λ (z : ℕ). s == 0 && i == z) (sym same) ∙ here in
        let not_now : (s == 0 && i == j) ≡ false = (or_parts (s == 0 && i == j) (is_posted past 0 j) pending.1).0 in
        cc (now, not_now)

    -- the posted command turns the queue
    abbrev pub Turns : Sqe → Type 0
    Turns e = (s ≡ 0) × IsPending rules past i e × IsAccepted rules past i e × (turns_cq (admin_command_of e) q ≡ true)

    -- what the host is told by a completion: nothing, that the queue is there, or that it is gone
    pub data CqTelling : CqStage → Type 0 where
      nothing : (st : CqStage) → ((e : Sqe) → Turns e → ⊥) → CqPhase rules (Post c s i cqe ∷ past) q st → CqTelling st
      begins : (e : Sqe) (x : ℕ) → Turns e → IsCqCreate rules e q (cq_slots rules x) → open_cq past q ≡ Some x → CqPhase rules (Post c s i cqe ∷ past) q (known_on x) → CqTelling unknown
      finishes : (e : Sqe) (x : ℕ) → Turns e → admin_command_of e ≡ DeleteCq q → open_cq past q ≡ None → CqPhase rules (Post c s i cqe ∷ past) q unknown → CqTelling (known_on x)

    here_it_is : (k : ℕ) (e : Sqe) → (s == 0 && i == k) ≡ true → IsPending rules past k e → IsAccepted rules past k e → turns_cq (admin_command_of e) q ≡ true → Turns e
    here_it_is k e here p a turns =
        let parts = and_parts (s == 0) (i == k) here in
        let same : k ≡ i = sym (eqb-true i k parts.1) in
        (eqb-true s 0 parts.0, subst (λ (z : ℕ). IsPending rules past z e) same p, subst (λ (z : ℕ). IsAccepted rules past z e) same a, turns)

    not_this : (k : ℕ) (e : Sqe) → (s == 0 && i == k) ≡ false → IsPending rules past k e → turns_cq (admin_command_of e) q ≡ true → (o : Sqe) → Turns o → ⊥
    not_this k e other p turns o t =
        let same : i ≡ k = alone q i k o e t.1 p t.3 turns in
        let now : (s == 0 && i == k) ≡ true = and_from (s == 0) (i == k) (eq-eqb s 0 t.0) (eq-eqb i k same) in
        cc (now, other)

    pub at_post : (st : CqStage) → EffectsAtOnce rules past (Post c s i cqe) → CqPhase rules past q st → CqTelling st
    at_post st h phase = by st phase where
      quiet : Quiet rules (Post c s i cqe ∷ past) q
      quiet = rest_none (NoTurn q) (no_turn q) (effects_since past) (made_last rules past) h

      by : (z : CqStage) → CqPhase rules past q z → CqTelling z
      by z (absent o n y) = nothing unknown (λ e t. n i e t.1 t.2 t.3) (absent o (λ k e p a turns. n k e (pending_before k e p) a turns) quiet)
      by z (coming k e x is p a o none made_is) =
          absurd (let same : Post c s i cqe ≡ OpenCq q x = first-is_made rules past (Post c s i cqe) (OpenCq q x) [] h none made_is in cc same)
      by z (hidden k e x is p a o y) =
          let turns : turns_cq (admin_command_of e) q ≡ true = ap (λ (a : AdminCommand). turns_cq a q) is.command_is ∙ eq-eqb q q refl in
          elim (cases_Bool (s == 0 && i == k)) [
            | inl here ↦ begins e x (here_it_is k e here p a turns) is o (present x o (none_left k e here p turns) quiet)
            | inr other ↦ nothing unknown (not_this k e other p turns) (hidden k e x is (pending_post k e other p) a o quiet)
          ]
      by z (present x o n y) = nothing (known_on x) (λ e t. n i e t.1 t.2 t.3) (present x o (λ k e p a turns. n k e (pending_before k e p) a turns) quiet)
      by z (leaving k e x is p a o none made_is) =
          absurd (let same : Post c s i cqe ≡ ClosedCq q x = first-is_made rules past (Post c s i cqe) (ClosedCq q x) [] h none made_is in cc same)
      by z (gone k e x is p a o own y) =
          let turns : turns_cq (admin_command_of e) q ≡ true = ap (λ (a : AdminCommand). turns_cq a q) is ∙ eq-eqb q q refl in
          elim (cases_Bool (s == 0 && i == k)) [
            | inl here ↦ finishes e x (here_it_is k e here p a turns) is o (absent o (none_left k e here p turns) quiet)
            | inr other ↦ nothing (known_on x) (not_this k e other p turns) (gone k e x is (pending_post k e other p) a o own quiet)
          ]

  -- ---- picks
  module _ (starts : StartsWithAdmin rules) (by_regions : placing_in rules ≡ None) (past : Past) (seen : List Seen) (pick : Pick) (sound : IsSound rules (event.Pick seen pick ∷ past))
      (alone : AreCqsAlone rules past) (unposted : pick.qid ≡ 0 → is_posted past 0 (picked past 0) ≡ false) (q : ℕ) where
    abbrev later : Past
    later = event.Pick seen pick ∷ past

    whole : effects_since past ≡ made_last rules past
    whole = sound.effects.0

    io : (pick.qid ≡ 0 → ⊥) → (st : CqStage) → CqPhase rules past q st → CqPhase rules later q st
    io other = by where
      none_made : [] ≡ made_last rules later
      none_made = rw (ne_eqb pick.qid 0 other) refl

      quiet : Quiet rules later q
      quiet = rest_none (NoTurn q) (no_turn q) [] (made_last rules later) none_made

      more : (k : ℕ) (e : Sqe) → IsAccepted rules past k e → IsAccepted rules later k e
      more = accepted_io rules past seen pick sound other

      fewer : NoneTurns rules past q → NoneTurns rules later q
      fewer n k e p a turns = n k e p (accepted_io_before rules past seen pick sound other k e a) turns

      by : (st : CqStage) → CqPhase rules past q st → CqPhase rules later q st
      by st (absent o n y) = absent o (fewer n) quiet
      by st (coming k e x is p a o none made_is) = absurd (let same : [] ≡ OpenCq q x ∷ [] = sym none ∙ whole ∙ made_is in cc same)
      by st (hidden k e x is p a o y) = hidden k e x is p (more k e a) o quiet
      by st (present x o n y) = present x o (fewer n) quiet
      by st (leaving k e x is p a o none made_is) = absurd (let same : [] ≡ ClosedCq q x ∷ [] = sym none ∙ whole ∙ made_is in cc same)
      by st (gone k e x is p a o own y) = gone k e x is p (more k e a) o own quiet

    module _ (admin : pick.qid ≡ 0) where
      abbrev next : TakesNext rules past seen pick
      next = takes_next rules past seen pick sound admin

      abbrev table : TableHistory
      table = table_history rules past

      abbrev judged : Verdict
      judged = verdict_of rules.start table next.entry

      abbrev command : AdminCommand
      command = admin_command_of next.entry

      abbrev succeeds : Bool
      succeeds = is_success (status_of rules.start table next.entry)

      makes : made_last rules later ≡ made_by past judged
      makes = made_is_by rules past seen pick sound admin

      more : (k : ℕ) (e : Sqe) → IsAccepted rules past k e → IsAccepted rules later k e
      more = accepted_more rules past seen pick sound admin

      pending : IsPending rules past (picked past 0) next.entry
      pending = pending_now rules past seen pick sound admin (unposted admin)

      -- the open queues are those of the table
      queue_is : open_cq past q ≡ cq_at rules.start table q
      queue_is = (sync rules starts past sound.effects.1 [] (append-nil (effects_since past) ∙ whole)).cq q

      -- while a command that turns the queue is pending, no other is picked that does
      not_after : (k : ℕ) (e : Sqe) → IsPending rules past k e → IsAccepted rules past k e → turns_cq (admin_command_of e) q ≡ true → turns_cq command q ≡ true → ⊥
      not_after k e p a turns turns_too =
          let same : k ≡ picked past 0 = alone q k (picked past 0) e next.entry p pending turns turns_too in
          let below : k < picked past 0 = a.0 in
          absurd (omega (arith, same, below))

      plain : ((region : ℕ) → judged ≡ verdict.OpenCq q region → ⊥) → (judged ≡ verdict.CloseCq q → ⊥) → (succeeds ≡ true → turns_cq command q ≡ false) → (st : CqStage) → CqPhase rules past q st → CqPhase rules later q st
      plain opens_none closes_none leaves = by where
        quiet : Quiet rules later q
        quiet rest is = (
          (λ c h. opens_none c (cq_opened-by past judged q c (subst (IsIn (OpenCq q c)) (is ∙ makes) h))),
          (λ c h. closes_none (cq_closed-by past judged q c (subst (IsIn (ClosedCq q c)) (is ∙ makes) h)).0),
        )

        none_more : NoneTurns rules past q → NoneTurns rules later q
        none_more n k e p a turns = elim (accepted_parts rules past seen pick sound admin k e p a) [
          | inl earlier ↦ n k e p earlier turns
          | inr mine ↦
              let no : turns_cq command q ≡ false = leaves mine.1 in
              let turned : turns_cq command q ≡ true = ap (λ (x : Sqe). turns_cq (admin_command_of x) q) mine.0 ∙ turns in
              cc (no, turned)
        ]

        by : (st : CqStage) → CqPhase rules past q st → CqPhase rules later q st
        by st (absent o n y) = absent o (none_more n) quiet
        by st (coming k e x is p a o none made_is) = absurd (let same : [] ≡ OpenCq q x ∷ [] = sym none ∙ whole ∙ made_is in cc same)
        by st (hidden k e x is p a o y) = hidden k e x is p (more k e a) o quiet
        by st (present x o n y) = present x o (none_more n) quiet
        by st (leaving k e x is p a o none made_is) = absurd (let same : [] ≡ ClosedCq q x ∷ [] = sym none ∙ whole ∙ made_is in cc same)
        by st (gone k e x is p a o own y) = gone k e x is p (more k e a) o own quiet

      creates : (qsize prp1 : ℕ) (pc : Bool) (region : ℕ) → succeeds ≡ true → command ≡ CreateCq q qsize prp1 pc → judged ≡ verdict.OpenCq q region
          → ((queue_table rules.start table).placing ≡ None → slots_at (queue_table rules.start table).cq_regions region ≡ qsize + 1) → (st : CqStage) → CqPhase rules past q st → CqPhase rules later q st
      creates qsize prp1 pc region success command_is verdict_is slots = by where
        turns : turns_cq command q ≡ true
        turns = ap (λ (x : AdminCommand). turns_cq x q) command_is ∙ eq-eqb q q refl

        due : MayOpenCq (queue_table rules.start table) q region
        due = subst (IsDue (queue_table rules.start table)) verdict_is (TellsChange-entry rules.start table next.entry).due

        none_open : open_cq past q ≡ None
        none_open = queue_is ∙ due.free

        slots_are : cq_slots rules region ≡ qsize + 1
        slots_are = ap (λ (rs : List Region). slots_at rs region) (sym (cq_regions_stay rules past)) ∙ slots (placing-stays rules past ∙ by_regions)

        by : (st : CqStage) → CqPhase rules past q st → CqPhase rules later q st
        by st (absent o n y) =
            coming (picked past 0) next.entry region (record { qsize = qsize; prp1 = prp1; pc = pc; command_is = command_is; slots_are = slots_are }) pending (accepted_now rules past seen pick sound admin success) o refl
            (makes ∙ ap (made_by past) verdict_is)
        by st (coming k e x is p a o none made_is) = absurd (let same : [] ≡ OpenCq q x ∷ [] = sym none ∙ whole ∙ made_is in cc same)
        by st (hidden k e x is p a o y) = absurd (none-some x (sym none_open ∙ o))
        by st (present x o n y) = absurd (none-some x (sym none_open ∙ o))
        by st (leaving k e x is p a o none made_is) = absurd (none-some x (sym none_open ∙ o))
        by st (gone k e x is p a o own y) = absurd (not_after k e p a (ap (λ (c : AdminCommand). turns_cq c q) is ∙ eq-eqb q q refl) turns)

      ends : succeeds ≡ true → command ≡ DeleteCq q → judged ≡ verdict.CloseCq q → (st : CqStage) → CqPhase rules past q st → CqPhase rules later q st
      ends success command_is verdict_is = by where
        turns : turns_cq command q ≡ true
        turns = ap (λ (x : AdminCommand). turns_cq x q) command_is ∙ eq-eqb q q refl

        due : MayCloseCq (queue_table rules.start table) q
        due = subst (IsDue (queue_table rules.start table)) verdict_is (TellsChange-entry rules.start table next.entry).due

        not_closed : open_cq past q ≡ None → ⊥
        not_closed o = let some = due.open_cq in let none : is_some (cq_at rules.start table q) ≡ false = ap (λ (x : Option ℕ). is_some x) (sym queue_is ∙ o) in cc (some, none)

        by : (st : CqStage) → CqPhase rules past q st → CqPhase rules later q st
        by st (absent o n y) = absurd (not_closed o)
        by st (coming k e x is p a o none made_is) = absurd (not_closed o)
        by st (hidden k e x is p a o y) = absurd (not_after k e p a (ap (λ (c : AdminCommand). turns_cq c q) is.command_is ∙ eq-eqb q q refl) turns)
        by st (present x o n y) =
            leaving (picked past 0) next.entry x command_is pending (accepted_now rules past seen pick sound admin success) o refl (makes ∙ ap (made_by past) verdict_is ∙ ap (closed_cq_of q) o)
        by st (leaving k e x is p a o none made_is) = absurd (let same : [] ≡ ClosedCq q x ∷ [] = sym none ∙ whole ∙ made_is in cc same)
        by st (gone k e x is p a o own y) = absurd (not_closed o)

      of_admin : (st : CqStage) → CqPhase rules past q st → CqPhase rules later q st
      of_admin st phase = by (cq_turn_of rules.start table next.entry q) where
        by : CqTurn (queue_table rules.start table).placing (queue_table rules.start table).cq_regions judged command succeeds q → CqPhase rules later q st
        by (cq.opens qsize prp1 pc region success command_is verdict_is slots) = creates qsize prp1 pc region success command_is verdict_is slots st phase
        by (cq.closes success command_is verdict_is) = ends success command_is verdict_is st phase
        by (cq.neither a b c) = plain a b c st phase

    pub at_pick : (st : CqStage) → CqPhase rules past q st → CqPhase rules later q st
    at_pick st phase = elim (cases_eq pick.qid 0) [
      | inl admin ↦ of_admin admin st phase
      | inr other ↦ io other st phase
    ]
