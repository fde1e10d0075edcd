-- What is shown of the admin queues agrees with their regions, so they keep the rules.
use Rattle.std.proofs.Common.{◌≡◌, ℕ, ◌+◌, ◌%◌, ◌<◌, false, [], ◌∷◌, length, Some, is_some, refl, sym, ap, ◌∙◌, subst, arith, inl, inr, ◌⊎◌}
use Rattle.std.proofs.lemmas.Option.{none-some, same_Some}
use Rattle.nvme_entry.specs.AdminCommand.{admin_command_of}
use Rattle.nvme_entry.specs.declared.submission.Sqe.{Sqe}
use Rattle.nvme_entry.specs.declared.completion.Cqe.{Cqe}
use Rattle.nvme_log.specs.declared.event.Event.TheVariants.{Fetch, Post}
use Rattle.nvme_log.specs.Rules.{FrontRules, Each}
use Rattle.nvme_log.specs.Queues.{qid_of_region, cq_region_of}
use Rattle.nvme_log.specs.Places.{fetched, entry_at}
use Rattle.nvme_log.specs.Completions.{is_posted, posted_to, phase_after}
use Rattle.nvme_log.specs.Effects.{EffectsAtOnce}
use Rattle.nvme_ctrl_log.specs.Notes.{Notes, Note, Logged, Tail, Head, EachNote, logged}
use Rattle.nvme_ctrl_log.specs.Doorbells.{sq_slots, cq_slots, submitted, consumed}
use Rattle.nvme_ctrl_log.specs.Account.{IsLawful}
use Rattle.nvme_ctrl_log.proofs.Noted.{each-event}
use Rattle.nvme_audit.specs.Lives.{asked}
use Rattle.nvme_audit.specs.declared.verdict.Verdict.TheVariants.{Kept}
use Rattle.nvme_audit.specs.Queues.{qsize_of}
use Rattle.nvme_audit.specs.Facts.{sq_after, cq_after, outstanding}
use Rattle.nvme_audit.specs.Rules.{fetch_verdict, name_verdict, slot_rules, post_verdict}
use Rattle.nvme_own_log.specs.Shown.{cqid_of_region, start_of, completion_of, shown}
use Rattle.nvme_own_log.specs.Duties.{IsFreeName, NamesAreFree}
use Rattle.nvme_own_log.specs.Laws.{IsKeptByAdmin, AdminQueuesAreLawful}
use Rattle.nvme_own_log.proofs.EachEvent.{free_before, each_shown}
use Rattle.nvme_own_log.proofs.OwnRegions.{admin_qid, admin_region, admin_posts_to, admin_cqid, admin_cq_region}
use Rattle.nvme_own_log.proofs.Answered.{IsPosted, posted_so, what_is_done, turns_none}
use Rattle.nvme_own_log.proofs.Steps.{SqAt, CqAt, IsOfRegion, IsOfCqRegion, LeavesSq, LeavesCq, sq_step, cq_step}
use Rattle.nvme_own_log.proofs.Verdicts.{fetch_kept, name_kept, slot_kept, post_kept}

module _ (rules : FrontRules) where
  pub effects_of : (notes : Notes) → EachNote (IsLawful rules) notes → Each (EffectsAtOnce rules) (logged notes)
  effects_of notes h = each-event _ rules (λ past e it. it.effects_at_once) notes h

  -- what is shown of the admin queues agrees with their regions
  pub record AdminAt (notes : Notes) : Type 0 where
    pub sq : SqAt rules notes 0 0 0
    pub cq : CqAt rules notes 0 0

  -- the judge finds the outstanding commands of the admin queue
  pub admin_asks : (notes : Notes) → AdminAt notes → (i : ℕ) (entry : Sqe) → entry_at (logged notes) 0 i ≡ Some entry → is_posted (logged notes) 0 i ≡ false
      → asked (shown rules notes) 0 entry.cid ≡ Some (admin_command_of entry)
  admin_asks notes a i entry at unposted = (a.sq.outs i entry at unposted).asks

  module _ (notes : Notes) (h : EachNote (IsLawful rules) notes) where
    sq_alone : (note : Note) → IsOfRegion rules notes 0 0 note
    sq_alone (Tail s slot) = admin_region rules (logged notes) (effects_of notes h) s
    sq_alone (Logged (Fetch s i entry)) = admin_region rules (logged notes) (effects_of notes h) s
    sq_alone (Logged (Post c s i cqe)) = admin_region rules (logged notes) (effects_of notes h) s
    sq_alone (Logged e) = tt
    sq_alone note = tt

    cq_alone : (note : Note) → IsOfCqRegion rules notes 0 0 note
    cq_alone (Head c slot) = admin_cq_region rules (logged notes) (effects_of notes h) c
    cq_alone (Logged (Post c s i cqe)) = admin_cq_region rules (logged notes) (effects_of notes h) c
    cq_alone (Logged e) = tt
    cq_alone note = tt

    sq_left : (note : Note) → IsLawful rules notes note → AdminAt notes → LeavesSq rules notes 0 note
    sq_left (Logged (Post c s i cqe)) it a =
        (turns_none rules (shown rules notes) notes h c s i cqe
        (what_is_done rules (shown rules notes) notes h c s i cqe (posted_so rules notes c s i cqe h it.posts_own) (admin_asks notes a i))).0
    sq_left (Logged e) it a = tt
    sq_left note it a = tt

    cq_left : (note : Note) → IsLawful rules notes note → AdminAt notes → LeavesCq rules notes 0 note
    cq_left (Logged (Post c s i cqe)) it a =
        (turns_none rules (shown rules notes) notes h c s i cqe
        (what_is_done rules (shown rules notes) notes h c s i cqe (posted_so rules notes c s i cqe h it.posts_own) (admin_asks notes a i))).1
    cq_left (Logged e) it a = tt
    cq_left note it a = tt

  pub admin_agrees : (notes : Notes) → EachNote (IsLawful rules) notes → NamesAreFree (shown rules notes) → AdminAt notes
  admin_agrees [] h free = record {
    sq = record {
      ring = record { qsize = (start_of rules).asqs; cqid = 0 };
      ring_is = refl;
      cqid_is = refl;
      slots_are = λ some. omega (arith, some);
      submitted_is = refl;
      some_slots = none;
      fetched_is = refl;
      outs = λ i entry at unposted. absurd (none-some entry at);
    };
    cq = record { qsize = (start_of rules).acqs; qsize_is = refl; slots_are = λ some. omega (arith, some); posted_is = refl; consumed_is = refl; fits = omega arith };
  } where
    none : (0 < 0) ⊎ (0 < 0) → 0 < sq_slots rules 0
    none (inl few) = absurd (omega (arith, few))
    none (inr few) = absurd (omega (arith, few))
  admin_agrees (note ∷ notes) h free =
      let before : AdminAt notes = admin_agrees notes h.1 (free_before rules IsFreeName note notes free) in
      record {
        sq = sq_step rules notes h.1 0 0 0 (admin_qid rules (logged notes) (effects_of notes h.1)) before.sq note h.0 (sq_alone notes h.1 note) (sq_left notes h.1 note h.0 before) free;
        cq = cq_step rules notes 0 0 (admin_cqid rules (logged notes) (effects_of notes h.1)) before.cq note h.0 (cq_alone notes h.1 note) (cq_left notes h.1 note h.0 before);
      }

  -- ---- the verdicts
  module _ (notes : Notes) (h : EachNote (IsLawful rules) notes) (a : AdminAt notes) where
    pub fetches : (r i q : ℕ) (entry : Sqe) → IsLawful rules notes (Logged (Fetch r i entry)) → qid_of_region (logged notes) r ≡ Some q → is_some (asked (shown rules notes) q entry.cid) ≡ false → q ≡ 0
        → fetch_verdict (start_of rules).tells (sq_after (start_of rules) (shown rules notes) q) (Some (i % sq_slots rules r)) (is_some (outstanding (shown rules notes) q entry.cid)) ≡ Kept
    fetches r i q entry it is free z =
        let region : r ≡ 0 = admin_region rules (logged notes) (effects_of notes h) r (is ∙ ap (λ (k : ℕ). Some k) z) in
        let more : length (fetched (logged notes) r) < submitted rules notes r = it.fetches_submitted in
        subst (λ (k : ℕ). fetch_verdict (start_of rules).tells (sq_after (start_of rules) (shown rules notes) k) (Some (i % sq_slots rules r)) (is_some (outstanding (shown rules notes) k entry.cid)) ≡ Kept) (sym z)
        (fetch_kept (start_of rules) (shown rules notes) 0 (sq_slots rules 0) 0 (submitted rules notes 0) (fetched (logged notes) 0) (λ k. is_posted (logged notes) 0 k) a.sq
        (i % sq_slots rules r) entry.cid
        (subst (λ (k : ℕ). length (fetched (logged notes) k) < submitted rules notes k) region more)
        (ap (λ (n : ℕ). n % sq_slots rules r) it.index_counts ∙ ap (λ (k : ℕ). length (fetched (logged notes) k) % sq_slots rules k) region)
        (subst (λ (k : ℕ). is_some (asked (shown rules notes) k entry.cid) ≡ false) z free))

    posts : (c r i q : ℕ) (cqe : Cqe) → IsLawful rules notes (Logged (Post c r i cqe)) → cqid_of_region (logged notes) c ≡ Some q → cqe.sqid ≡ 0
        → post_verdict (start_of rules).tells q (cq_after (start_of rules) (shown rules notes) q) (sq_after (start_of rules) (shown rules notes) cqe.sqid)
        (outstanding (shown rules notes) cqe.sqid cqe.cid) (Some (length (posted_to (logged notes) c) % cq_slots rules c)) (completion_of cqe) ≡ Kept
    posts c r i q cqe it is z =
        let posted : IsPosted rules notes c r i cqe = posted_so rules notes c r i cqe h it.posts_own in
        let region : r ≡ 0 = admin_region rules (logged notes) (effects_of notes h) r (posted.sqid ∙ ap (λ (k : ℕ). Some k) z) in
        let into : c ≡ 0 = same_Some c 0 (sym posted.region ∙ ap (cq_region_of (logged notes)) region ∙ admin_posts_to rules (logged notes) (effects_of notes h)) in
        let cq : q ≡ 0 = same_Some q 0 (sym is ∙ ap (cqid_of_region (logged notes)) into ∙ admin_cqid rules (logged notes) (effects_of notes h)) in
        let room : length (posted_to (logged notes) c) + 1 < consumed rules notes c + cq_slots rules c = it.posts_on_free_slot in
        post_kept (start_of rules) (shown rules notes) q (Some (length (posted_to (logged notes) c) % cq_slots rules c)) (completion_of cqe)
        (subst (λ (k : ℕ). slot_rules (start_of rules).tells (cq_after (start_of rules) (shown rules notes) k) (qsize_of (start_of rules) (shown rules notes) k) (Some (length (posted_to (logged notes) c) % cq_slots rules c)) (Some cqe.phase) ≡ Kept) (sym cq)
        (slot_kept (start_of rules) (shown rules notes) 0 (cq_slots rules 0) (length (posted_to (logged notes) 0)) (consumed rules notes 0) a.cq
        (length (posted_to (logged notes) c) % cq_slots rules c) cqe.phase
        (subst (λ (k : ℕ). length (posted_to (logged notes) k) + 1 < consumed rules notes k + cq_slots rules k) into room)
        (ap (λ (k : ℕ). length (posted_to (logged notes) k) % cq_slots rules k) into)
        (posted.phase ∙ ap (λ (k : ℕ). phase_after (length (posted_to (logged notes) k)) (cq_slots rules k)) into)))
        (subst (λ (k : ℕ). name_verdict (start_of rules).tells q (sq_after (start_of rules) (shown rules notes) k) (outstanding (shown rules notes) k cqe.cid) (Some cqe.sqhd) ≡ Kept) (sym z)
        (name_kept (start_of rules) (shown rules notes) 0 (sq_slots rules 0) 0 (submitted rules notes 0) (fetched (logged notes) 0) (λ k. is_posted (logged notes) 0 k) a.sq
        i posted.entry q cqe.cid cqe.sqhd
        (subst (λ (k : ℕ). entry_at (logged notes) k i ≡ Some posted.entry) region posted.is_there)
        (subst (λ (k : ℕ). is_posted (logged notes) k i ≡ false) region posted.no_post)
        (sym cq) posted.cid
        (posted.sqhd ∙ ap (λ (k : ℕ). length (fetched (logged notes) k) % sq_slots rules k) region)))

pub admin_queues : AdminQueuesAreLawful
admin_queues rules notes h free =
    each_shown rules IsFreeName (IsKeptByAdmin (start_of rules)) (λ past. Unit {0}) (λ note past whatever. tt)
    (λ past r slot q lawful before r0 is duty. tt)
    (λ past c slot q lawful before r0 is. tt)
    (λ past r i q entry lawful before r0 is name. fetches rules past lawful.1 (admin_agrees rules past lawful.1 before) r i q entry lawful.0 is name)
    (λ past c r i q cqe lawful before r0 is. posts rules past lawful.1 (admin_agrees rules past lawful.1 before) c r i q cqe lawful.0 is)
    notes h.each free tt
