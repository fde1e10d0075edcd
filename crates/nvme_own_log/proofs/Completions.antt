-- The completions that an account shows keep the rules of rings and of names.
use Rattle.std.proofs.Common.{◌≡◌, ℕ, ◌%◌, ◌<◌, true, false, List, [], ◌∷◌, length, Option, Some, None, refl, sym, ap, ◌∙◌, subst, arith, inl, inr}
use Rattle.std.specs.Prelude.{slice_get}
use Rattle.std.proofs.lemmas.Bool.{lt-ltb, cases_eq, ne_eqb, false_from_ne_true}
use Rattle.std.proofs.lemmas.Option.{none-some, same_Some}
use Rattle.nvme_entry.specs.AdminCommand.{admin_command_of}
use Rattle.nvme_entry.specs.declared.submission.Sqe.{Sqe}
use Rattle.nvme_entry.specs.declared.completion.Cqe.{Cqe}
use Rattle.nvme_arbiter.specs.Lawful.{IsLimitedRun}
use Rattle.nvme_log.specs.declared.event.Event.{Event}
use Rattle.nvme_log.specs.declared.event.Event.TheVariants.{Fetch, SetArbitration, OpenSq, OpenCq, Closing, Abort, Post, ClosedSq, ClosedCq}
use Rattle.nvme_log.specs.declared.event.Event.TheVariants as event
use Rattle.nvme_log.specs.Rules.{FrontRules, Past}
use Rattle.nvme_log.specs.Queues.{open_cq, cq_region_of}
use Rattle.nvme_log.specs.Places.{fetched, picked, entry_at}
use Rattle.nvme_log.specs.Histories.{arbitration_of}
use Rattle.nvme_log.specs.Completions.{is_posted, posted_to}
use Rattle.nvme_log.specs.Effects.{EffectsAtOnce}
use Rattle.nvme_log.specs.Laws.{StartsWithAdmin}
use Rattle.nvme_admin.specs.History.{Submission}
use Rattle.nvme_ctrl_log.specs.Notes.{Notes, Logged, Tail, Head, EachNote, logged}
use Rattle.nvme_ctrl_log.specs.Doorbells.{sq_slots, cq_slots, submitted, consumed}
use Rattle.nvme_ctrl_log.specs.Making.{placing_in}
use Rattle.nvme_ctrl_log.specs.Account.{IsLawful}
use Rattle.nvme_ctrl_log.proofs.FurtherAccounts.{sound-notes}
use Rattle.nvme_ctrl_log.proofs.TakenCommands.{IsSound, lawful-before}
use Rattle.nvme_audit.specs.declared.verdict.Verdict.TheVariants.{Kept}
use Rattle.nvme_audit.specs.Queues.{turns_cq, qsize_of}
use Rattle.nvme_audit.specs.Turns.{cq_asks, cq_replies}
use Rattle.nvme_audit.specs.Facts.{sq_after, cq_after, outstanding}
use Rattle.nvme_audit.specs.Rules.{name_verdict, slot_rules}
use Rattle.nvme_own_log.specs.Shown.{cqid_of_region, start_of, completion_of, shown}
use Rattle.nvme_own_log.specs.Duties.{IsFreeName, NamesAreFree, KeepsDuties, IsDutiful, TurnsCqAlone, TurnsCqsAlone}
use Rattle.nvme_own_log.specs.Laws.{IsPostKept, CompletionsAreLawful}
use Rattle.nvme_own_log.proofs.AdminQueues.{AdminAt, admin_agrees, effects_of}
use Rattle.nvme_own_log.proofs.Answered.{IsPosted, posted_so}
use Rattle.nvme_own_log.proofs.CqsAlone.{cqs_alone, fewer_replies}
use Rattle.nvme_own_log.proofs.CqPhases.{CqStage, unknown, known_on, CqPhase, absent, no_turn, NoTurn, rest_none, leave, plain, sq_closed, cq_opened, cq_closed, fetches, open_own, close_own}
use Rattle.nvme_own_log.proofs.CqQueues.{CqSeen, CqQueueAt, the_region, into_open, seen_plain, seen_opened, seen_closed, seen_post, seen_begins, seen_ends, unturned}
use Rattle.nvme_own_log.proofs.CqRegions.{goes_to}
use Rattle.nvme_own_log.proofs.CqSteps.{CqTelling, nothing, begins, finishes, at_post, at_pick}
use Rattle.nvme_own_log.proofs.EachEvent.{free_before, each_shown}
use Rattle.nvme_own_log.proofs.Fetches.{names_free, run_before}
use Rattle.nvme_own_log.proofs.IoQueues.{some_sqs, some_cqs, queues_at}
use Rattle.nvme_own_log.proofs.OwnRegions.{admin_region, admin_posts_to, admin_cqid, admin_cq_region}
use Rattle.nvme_own_log.proofs.Phases.{IsPending, Stage, untold, told_on, Phase, closed, creating, made, IsServed}
use Rattle.nvme_own_log.proofs.Queues.{QueueAt, Seen, posted_region, named_by}
use Rattle.nvme_own_log.proofs.Steps.{SqAt, CqAt}
use Rattle.nvme_own_log.proofs.Verdicts.{name_kept, slot_kept, early_slot, post_kept}

module _ (rules : FrontRules) (starts : StartsWithAdmin rules) (by_regions : placing_in rules ≡ None) where
  -- ---- completion queues
  sound : (notes : Notes) → EachNote (IsLawful rules) notes → IsLimitedRun rules.mechanism rules.start.settings (arbitration_of (logged notes)) → IsSound rules (logged notes)
  sound notes h l = sound-notes rules Submission 0 0 (some_sqs rules starts) (some_cqs rules starts) notes h l

  module _ (notes : Notes) (h : EachNote (IsLawful rules) notes) (l : IsLimitedRun rules.mechanism rules.start.settings (arbitration_of (logged notes))) (free : NamesAreFree (shown rules notes))
      (duties : KeepsDuties (start_of rules) (shown rules notes)) (turns_alone : TurnsCqsAlone (shown rules notes)) (q : ℕ) (io : q ≡ 0 → ⊥) (x : CqQueueAt rules notes q) where
    abbrev past : Past
    past = logged notes

    -- a queue at a note that shows no completion, and opens and closes no queue
    at_quiet : (e : Event) → (CqPhase rules past q x.stage → CqPhase rules (e ∷ past) q x.stage) → CqSeen rules (Logged e ∷ notes) q x.stage → CqQueueAt rules (Logged e ∷ notes) q
    at_quiet e phase seen = record { stage = x.stage; phase = phase x.phase; seen = seen }

    completed : (c s i : ℕ) (cqe : Cqe) → IsLawful rules notes (Logged (Post c s i cqe)) → CqQueueAt rules (Logged (Post c s i cqe) ∷ notes) q
    completed c s i cqe it = by x.stage x.phase x.seen (at_post rules past (cqs_alone rules notes h free turns_alone) q c s i cqe x.stage it.effects_at_once x.phase) where
      admin : AdminAt rules notes
      admin = admin_agrees rules notes h free

      by : (st : CqStage) → CqPhase rules past q st → CqSeen rules notes q st → CqTelling rules past (cqs_alone rules notes h free turns_alone) q c s i cqe st → CqQueueAt rules (Logged (Post c s i cqe) ∷ notes) q
      by st phase seen (nothing z none after) = record {
        stage = z;
        phase = after;
        seen = seen_post rules starts notes h q c s i cqe it (fewer_replies rules notes h free turns_alone q) z (unturned rules starts notes h q c s i cqe it admin (cqs_alone rules notes h free turns_alone) (sound notes h l) none) phase seen;
      }
      by st phase seen (begins e y turns is o after) =
          record { stage = known_on y; phase = after; seen = seen_begins rules starts notes h q c s i cqe it admin e turns.0 turns.1 turns.2 io y is o seen }
      by st phase seen (finishes e y turns is o after) =
          record { stage = unknown; phase = after; seen = seen_ends rules starts notes h q c s i cqe it admin e turns.0 turns.1 turns.2 is o }

    at_event : (e : Event) → IsLawful rules notes (Logged e) → IsSound rules (e ∷ past) → CqQueueAt rules (Logged e ∷ notes) q
    at_event (Fetch s i entry) it s0 = at_quiet (Fetch s i entry)
        (leave rules (Fetch s i entry) past q x.stage it.effects_at_once (fetches rules past (effects_of rules notes h) q (sound notes h l) s i entry it.effects_at_once))
        (seen_plain rules starts notes h q (Logged (Fetch s i entry)) tt x.stage it x.phase x.seen)
    at_event (event.Pick seen pick) it s0 = at_quiet (event.Pick seen pick)
        (at_pick rules starts by_regions past seen pick s0 (cqs_alone rules notes h free turns_alone) (λ zero_is. unposted) q x.stage)
        (seen_plain rules starts notes h q (Logged (event.Pick seen pick)) tt x.stage it x.phase x.seen) where
          unposted : is_posted past 0 (picked past 0) ≡ false
          unposted = false_from_ne_true (is_posted past 0 (picked past 0)) (λ p. let few = (queues_at rules starts by_regions notes h l duties free).picked_posts (picked past 0) p in absurd (omega (arith, few)))
    at_event (SetArbitration settings) it s0 = at_quiet (SetArbitration settings)
        (leave rules (SetArbitration settings) past q x.stage it.effects_at_once (plain rules past (effects_of rules notes h) q (SetArbitration settings) tt))
        (seen_plain rules starts notes h q (Logged (SetArbitration settings)) tt x.stage it x.phase x.seen)
    at_event (OpenSq qid region cqid class) it s0 = at_quiet (OpenSq qid region cqid class)
        (leave rules (OpenSq qid region cqid class) past q x.stage it.effects_at_once (plain rules past (effects_of rules notes h) q (OpenSq qid region cqid class) tt))
        (seen_plain rules starts notes h q (Logged (OpenSq qid region cqid class)) tt x.stage it x.phase x.seen)
    at_event (OpenCq qid region) it s0 = at_quiet (OpenCq qid region) phase (seen_opened rules starts notes h q qid region x.stage it x.phase x.seen) where
      phase : CqPhase rules past q x.stage → CqPhase rules (OpenCq qid region ∷ past) q x.stage
      phase p = elim (cases_eq qid q) [
        | inl same ↦ subst (λ (z : ℕ). CqPhase rules (OpenCq z region ∷ past) q x.stage) (sym same)
            (open_own rules past (effects_of rules notes h) q region x.stage (subst (λ (z : ℕ). EffectsAtOnce rules past (OpenCq z region)) same it.effects_at_once) p)
        | inr other ↦ leave rules (OpenCq qid region) past q x.stage it.effects_at_once (cq_opened rules past (effects_of rules notes h) q qid region other it.effects_at_once) p
      ]
    at_event (Closing qid region) it s0 = at_quiet (Closing qid region)
        (leave rules (Closing qid region) past q x.stage it.effects_at_once (plain rules past (effects_of rules notes h) q (Closing qid region) tt))
        (seen_plain rules starts notes h q (Logged (Closing qid region)) tt x.stage it x.phase x.seen)
    at_event (Abort region index) it s0 = at_quiet (Abort region index)
        (leave rules (Abort region index) past q x.stage it.effects_at_once (plain rules past (effects_of rules notes h) q (Abort region index) tt))
        (seen_plain rules starts notes h q (Logged (Abort region index)) tt x.stage it x.phase x.seen)
    at_event (Post c s i cqe) it s0 = completed c s i cqe it
    at_event (ClosedSq qid region) it s0 = at_quiet (ClosedSq qid region)
        (leave rules (ClosedSq qid region) past q x.stage it.effects_at_once (sq_closed rules past (effects_of rules notes h) q qid region it.effects_at_once))
        (seen_plain rules starts notes h q (Logged (ClosedSq qid region)) tt x.stage it x.phase x.seen)
    at_event (ClosedCq qid region) it s0 = at_quiet (ClosedCq qid region) phase (seen_closed rules starts notes h q qid region x.stage it x.phase x.seen) where
      phase : CqPhase rules past q x.stage → CqPhase rules (ClosedCq qid region ∷ past) q x.stage
      phase p = elim (cases_eq qid q) [
        | inl same ↦ subst (λ (z : ℕ). CqPhase rules (ClosedCq z region ∷ past) q x.stage) (sym same)
            (close_own rules past (effects_of rules notes h) q region x.stage (subst (λ (z : ℕ). EffectsAtOnce rules past (ClosedCq z region)) same it.effects_at_once) p)
        | inr other ↦ leave rules (ClosedCq qid region) past q x.stage it.effects_at_once (cq_closed rules past (effects_of rules notes h) q qid region other) p
      ]

  pub cqs_at : (notes : Notes) → EachNote (IsLawful rules) notes → IsLimitedRun rules.mechanism rules.start.settings (arbitration_of (logged notes)) → NamesAreFree (shown rules notes)
      → KeepsDuties (start_of rules) (shown rules notes) → TurnsCqsAlone (shown rules notes) → (q : ℕ) → (q ≡ 0 → ⊥) → CqQueueAt rules notes q
  cqs_at [] h l free duties turns_alone q io = record {
    stage = unknown;
    phase = absent (rw (ne_eqb q 0 io) refl) (λ k e p a turns. none-some e p.0) (rest_none (NoTurn q) (no_turn q) [] [] refl);
    seen = (rw (ne_eqb q 0 io) refl, λ c o. inr (refl, refl));
  }
  cqs_at (Logged e ∷ notes) h l free duties turns_alone q io =
      let earlier = lawful-before rules e (logged notes) l in
      let named = free_before rules IsFreeName (Logged e) notes free in
      let kept = free_before rules (IsDutiful (start_of rules)) (Logged e) notes duties in
      let alone = free_before rules TurnsCqAlone (Logged e) notes turns_alone in
      at_event notes h.1 earlier named kept alone q io (cqs_at notes h.1 earlier named kept alone q io) e h.0 (sound (Logged e ∷ notes) h l)
  cqs_at (Tail s slot ∷ notes) h l free duties turns_alone q io =
      let x = cqs_at notes h.1 l (free_before rules IsFreeName (Tail s slot) notes free) (free_before rules (IsDutiful (start_of rules)) (Tail s slot) notes duties) (free_before rules TurnsCqAlone (Tail s slot) notes turns_alone) q io in
      record { stage = x.stage; phase = x.phase; seen = seen_plain rules starts notes h.1 q (Tail s slot) tt x.stage h.0 x.phase x.seen }
  cqs_at (Head c slot ∷ notes) h l free duties turns_alone q io =
      let x = cqs_at notes h.1 l (free_before rules IsFreeName (Head c slot) notes free) (free_before rules (IsDutiful (start_of rules)) (Head c slot) notes duties) (free_before rules TurnsCqAlone (Head c slot) notes turns_alone) q io in
      record { stage = x.stage; phase = x.phase; seen = seen_plain rules starts notes h.1 q (Head c slot) tt x.stage h.0 x.phase x.seen }
  cqs_at (note ∷ notes) h l free duties turns_alone q io =
      let x = cqs_at notes h.1 l free duties turns_alone q io in
      record { stage = x.stage; phase = x.phase; seen = seen_plain rules starts notes h.1 q note tt x.stage h.0 x.phase x.seen }

  -- ---- a completion
  module _ (notes : Notes) (h : EachNote (IsLawful rules) notes) (admin : AdminAt rules notes) (c r i q : ℕ) (cqe : Cqe) (it : IsLawful rules notes (Logged (Post c r i cqe)))
      (own : cqid_of_region (logged notes) c ≡ Some q) where
    abbrev before : Past
    before = logged notes

    posted : IsPosted rules notes c r i cqe
    posted = posted_so rules notes c r i cqe h it.posts_own

    -- its slot: of a completion queue that isn't open, that was early, or with which what is shown agrees
    abbrev SlotIsKept : Type 0
    SlotIsKept = slot_rules (start_of rules).tells (cq_after (start_of rules) (shown rules notes) q) (qsize_of (start_of rules) (shown rules notes) q) (Some (length (posted_to before c) % cq_slots rules c)) (Some cqe.phase) ≡ Kept

    unopened : qsize_of (start_of rules) (shown rules notes) q ≡ None → cq_replies (shown rules notes) q < cq_asks (shown rules notes) q → SlotIsKept
    unopened none fewer =
        ap (λ (o : Option ℕ). slot_rules (start_of rules).tells (cq_after (start_of rules) (shown rules notes) q) o (Some (length (posted_to before c) % cq_slots rules c)) (Some cqe.phase)) none
        ∙ rw (lt-ltb (cq_replies (shown rules notes) q) (cq_asks (shown rules notes) q) fewer) refl

    agreeing : CqAt rules notes q c → SlotIsKept
    agreeing a =
        slot_kept (start_of rules) (shown rules notes) q (cq_slots rules c) (length (posted_to before c)) (consumed rules notes c) a
        (length (posted_to before c) % cq_slots rules c) cqe.phase it.posts_on_free_slot refl posted.phase

    io_slots : ((k : ℕ) (e : Sqe) → IsPending rules before k e → turns_cq (admin_command_of e) q ≡ true → cq_replies (shown rules notes) q < cq_asks (shown rules notes) q) → CqQueueAt rules notes q → SlotIsKept
    io_slots fewer x = by x.stage x.phase x.seen where
      into : open_cq before q ≡ Some c
      into = into_open rules starts notes h q c r i cqe it posted own

      by : (st : CqStage) → CqPhase rules before q st → CqSeen rules notes q st → SlotIsKept
      by unknown phase seen = (let pending = the_region rules before q c unknown into phase in unopened seen.0 (fewer pending.0 pending.1 pending.2 pending.3))
      by (known_on y) phase (inl early) =
          early_slot (start_of rules) (shown rules notes) q (Some (length (posted_to before c) % cq_slots rules c)) (Some cqe.phase) (qsize_of (start_of rules) (shown rules notes) q) early.0 early.1
      by (known_on y) phase (inr agrees) = agreeing (subst (CqAt rules notes q) (sym (the_region rules before q c (known_on y) into phase)) agrees)

    all_slots : ((k : ℕ) (e : Sqe) → IsPending rules before k e → turns_cq (admin_command_of e) q ≡ true → cq_replies (shown rules notes) q < cq_asks (shown rules notes) q)
        → ((q ≡ 0 → ⊥) → CqQueueAt rules notes q) → SlotIsKept
    all_slots fewer x = elim (cases_eq q 0) [
      | inl zero_is ↦
          let region : c ≡ 0 = admin_cq_region rules before (effects_of rules notes h) c (own ∙ ap (λ (k : ℕ). Some k) zero_is) in
          agreeing (subst (λ (k : ℕ). CqAt rules notes k c) (sym zero_is) (subst (CqAt rules notes 0) (sym region) admin.cq))
      | inr io ↦ io_slots fewer (x io)
    ]

    -- its name, where what is shown of its queue agrees with the region
    names : (s cqid : ℕ) → s ≡ r → cqid ≡ q → SqAt rules notes cqe.sqid s cqid
        → name_verdict (start_of rules).tells q (sq_after (start_of rules) (shown rules notes) cqe.sqid) (outstanding (shown rules notes) cqe.sqid cqe.cid) (Some cqe.sqhd) ≡ Kept
    names s cqid same into a =
        name_kept (start_of rules) (shown rules notes) cqe.sqid (sq_slots rules s) cqid (submitted rules notes s) (fetched before s) (λ k. is_posted before s k) a
        i posted.entry q cqe.cid cqe.sqhd
        (subst (λ (k : ℕ). entry_at before k i ≡ Some posted.entry) (sym same) posted.is_there)
        (subst (λ (k : ℕ). is_posted before k i ≡ false) (sym same) posted.no_post)
        into posted.cid
        (posted.sqhd ∙ ap (λ (k : ℕ). length (fetched before k) % sq_slots rules k) (sym same))

    -- a region that is served has no such completion
    served_not : IsServed rules before r → ⊥
    served_not served = let done : is_posted before r i ≡ true = served i posted.entry posted.is_there in let none = posted.no_post in cc (done, none)

    io_names : QueueAt rules notes cqe.sqid
        → name_verdict (start_of rules).tells q (sq_after (start_of rules) (shown rules notes) cqe.sqid) (outstanding (shown rules notes) cqe.sqid cqe.cid) (Some cqe.sqhd) ≡ Kept
    io_names x = by x.stage x.phase x.seen where
      hidden_not : Phase rules before cqe.sqid untold → Seen rules notes cqe.sqid untold → ⊥
      hidden_not (closed o served n y) seen = served_not (served r posted.sqid)
      hidden_not (creating k e s cqid class is p a o none made_is fresh served) seen = served_not (served r posted.sqid)
      hidden_not (made k e queue is p a o served y) seen = elim (cases_eq r queue.region) [
        | inl same ↦ none-some posted.entry (ap (λ (xs : List Sqe). slice_get xs i) (sym (seen.1 queue o).1) ∙ ap (λ (z : ℕ). entry_at before z i) (sym same) ∙ posted.is_there)
        | inr other ↦ served_not (served r posted.sqid other)
      ]

      by : (st : Stage) → Phase rules before cqe.sqid st → Seen rules notes cqe.sqid st
          → name_verdict (start_of rules).tells q (sq_after (start_of rules) (shown rules notes) cqe.sqid) (outstanding (shown rules notes) cqe.sqid cqe.cid) (Some cqe.sqhd) ≡ Kept
      by untold phase seen = absurd (hidden_not phase seen)
      by (told_on s cqid) phase seen =
          let same : r ≡ s = posted_region rules before cqe.sqid r i posted.entry (told_on s cqid) posted.sqid posted.is_there posted.no_post phase in
          let named = named_by rules before (effects_of rules notes h) cqe.sqid (told_on s cqid) phase in
          let to : cqid_of_region before c ≡ Some cqid = goes_to rules before (effects_of rules notes h) s c cqid named (ap (cq_region_of before) (sym same) ∙ posted.region) in
          names s cqid (sym same) (same_Some cqid q (sym to ∙ own)) seen

    all_names : ((cqe.sqid ≡ 0 → ⊥) → QueueAt rules notes cqe.sqid)
        → name_verdict (start_of rules).tells q (sq_after (start_of rules) (shown rules notes) cqe.sqid) (outstanding (shown rules notes) cqe.sqid cqe.cid) (Some cqe.sqhd) ≡ Kept
    all_names x = elim (cases_eq cqe.sqid 0) [
      | inl zero_is ↦
          let region : r ≡ 0 = admin_region rules before (effects_of rules notes h) r (posted.sqid ∙ ap (λ (k : ℕ). Some k) zero_is) in
          let c_is : c ≡ 0 = same_Some c 0 (sym posted.region ∙ ap (cq_region_of before) region ∙ admin_posts_to rules before (effects_of rules notes h)) in
          let q_is : q ≡ 0 = same_Some q 0 (sym own ∙ ap (cqid_of_region before) c_is ∙ admin_cqid rules before (effects_of rules notes h)) in
          names 0 0 (sym region) (sym q_is) (subst (λ (k : ℕ). SqAt rules notes k 0 0) (sym zero_is) admin.sq)
      | inr io ↦ io_names (x io)
    ]

pub completions_are_lawful : CompletionsAreLawful
completions_are_lawful rules notes starts by_regions h duties turns_alone =
    each_shown rules (IsDutiful (start_of rules)) (IsPostKept (start_of rules))
    (λ past. IsLimitedRun rules.mechanism rules.start.settings (arbitration_of (logged past)) × TurnsCqsAlone (shown rules past))
    (λ note past r. (run_before rules note past r.0, free_before rules TurnsCqAlone note past r.1))
    (λ past r slot q lawful before l is duty. tt)
    (λ past c slot q lawful before l is. tt)
    (λ past r i q entry lawful before l is duty. tt)
    (λ past c r i q cqe lawful before l is.
    let free = names_free rules (shown rules past) before in
    let admin = admin_agrees rules past lawful.1 free in
    post_kept (start_of rules) (shown rules past) q (Some (length (posted_to (logged past) c) % cq_slots rules c)) (completion_of cqe)
    (all_slots rules starts by_regions past lawful.1 admin c r i q cqe lawful.0 is (fewer_replies rules past lawful.1 free l.1 q) (cqs_at rules starts by_regions past lawful.1 l.0 free before l.1 q))
    (all_names rules starts by_regions past lawful.1 admin c r i q cqe lawful.0 is ((queues_at rules starts by_regions past lawful.1 l.0 before free).queue cqe.sqid)))
    notes h.each duties (h.lawful, turns_alone)
