-- The doorbells that an account shows keep the rules of the host.
use Rattle.std.proofs.Common.{◌≡◌, ℕ, ◌+◌, ◌%◌, ◌<◌, ◌≤◌, true, false, if◌then◌else◌, [], ◌∷◌, length, Option, Some, None, is_some, refl, sym, ap, ◌∙◌, subst, inl, inr}
use Rattle.std.proofs.lemmas.Bool.{cases_eq, eq-eqb}
use Rattle.std.proofs.lemmas.Option.{same_Some}
use Rattle.nvme_arbiter.specs.Lawful.{IsLimitedRun}
use Rattle.nvme_log.specs.declared.event.Event.TheVariants.{Fetch, Post}
use Rattle.nvme_log.specs.Rules.{FrontRules, Past}
use Rattle.nvme_log.specs.Queues.{open_cq, qid_of_region}
use Rattle.nvme_log.specs.Places.{fetched}
use Rattle.nvme_log.specs.Histories.{arbitration_of}
use Rattle.nvme_log.specs.Completions.{is_posted, posted_to}
use Rattle.nvme_log.specs.Laws.{StartsWithAdmin}
use Rattle.nvme_ctrl_log.specs.Notes.{Notes, Logged, Tail, Head, EachNote, logged}
use Rattle.nvme_ctrl_log.specs.Doorbells.{gap, sq_slots, cq_slots, submitted, consumed}
use Rattle.nvme_ctrl_log.specs.Account.{IsLawful}
use Rattle.nvme_ctrl_log.specs.Making.{placing_in}
use Rattle.nvme_audit.specs.declared.facts.Ring.{Ring}
use Rattle.nvme_audit.specs.declared.verdict.Verdict.TheVariants.{Kept}
use Rattle.nvme_audit.specs.Lives as lives
use Rattle.nvme_audit.specs.Queues.{ring_of, qsize_of}
use Rattle.nvme_audit.specs.Early.{is_early}
use Rattle.nvme_audit.specs.Facts.{sq_after, cq_after}
use Rattle.nvme_audit.specs.Host.{tail_verdict, head_verdict}
use Rattle.nvme_own_log.specs.Shown.{cqid_of_region, start_of, tail_of, head_of, fetch_of, post_of, shown, EachShown}
use Rattle.nvme_own_log.specs.Duties.{KeepsDuties, IsDutiful, NamesAreFree, TurnsCqAlone, TurnsCqsAlone, KnowsHeads, IsKnownHead}
use Rattle.nvme_own_log.specs.Laws.{IsDoorbellKept, DoorbellsAreLawful}
use Rattle.nvme_own_log.proofs.AdminQueues.{admin_agrees, effects_of}
use Rattle.nvme_own_log.proofs.Completions.{cqs_at}
use Rattle.nvme_own_log.proofs.CqPhases.{CqStage, unknown, known_on, CqPhase}
use Rattle.nvme_own_log.proofs.CqQueues.{CqSeen, CqQueueAt, open_region, the_region}
use Rattle.nvme_own_log.proofs.EachEvent.{free_before}
use Rattle.nvme_own_log.proofs.Fetches.{names_free, run_before}
use Rattle.nvme_own_log.proofs.IoQueues.{queues_at}
use Rattle.nvme_own_log.proofs.OwnRegions.{admin_region, admin_cq_region}
use Rattle.nvme_own_log.proofs.Phases.{Stage, untold, told_on, Phase}
use Rattle.nvme_own_log.proofs.PhaseSteps.{open_on}
use Rattle.nvme_own_log.proofs.Queues as queues
use Rattle.nvme_own_log.proofs.Queues.{QueueAt, Seen}
use Rattle.nvme_own_log.proofs.Steps.{SqAt, CqAt}
use Rattle.nvme_own_log.proofs.Verdicts.{tail_kept, head_kept}

module _ (rules : FrontRules) (starts : StartsWithAdmin rules) (by_regions : placing_in rules ≡ None) where
  module _ (notes : Notes) (h : EachNote (IsLawful rules) notes) (l : IsLimitedRun rules.mechanism rules.start.settings (arbitration_of (logged notes)))
      (duties : KeepsDuties (start_of rules) (shown rules notes)) (turns_alone : TurnsCqsAlone (shown rules notes)) where
    abbrev past : Past
    past = logged notes

    abbrev log : lives.Past
    log = shown rules notes

    names : NamesAreFree log
    names = names_free rules log duties

    -- a tail of a queue that the host was told of
    module _ (r slot q : ℕ) (it : IsLawful rules notes (Tail r slot)) (own : qid_of_region past r ≡ Some q) (known : is_some (ring_of (start_of rules) log q) ≡ true) where
      tail_agreeing : (s cqid : ℕ) → r ≡ s → SqAt rules notes q s cqid → tail_verdict (sq_after (start_of rules) log q) slot ≡ Kept
      tail_agreeing s cqid same a =
          let fits : submitted rules notes r + gap (sq_slots rules r) (submitted rules notes r % sq_slots rules r) slot < length (fetched past r) + sq_slots rules r =
          subst (λ b. (if b then submitted rules notes r + gap (sq_slots rules r) (submitted rules notes r % sq_slots rules r) slot else submitted rules notes r) < length (fetched past r) + sq_slots rules r) (eq-eqb r r refl) it.fits in
          tail_kept (start_of rules) log q (sq_slots rules s) cqid (submitted rules notes s) (fetched past s) (λ k. is_posted past s k) a slot
          (subst (λ (z : ℕ). slot < sq_slots rules z) same it.is_slot)
          (subst (λ (z : ℕ). submitted rules notes z + gap (sq_slots rules z) (submitted rules notes z % sq_slots rules z) slot < length (fetched past z) + sq_slots rules z) same fits)

      io_tail : QueueAt rules notes q → tail_verdict (sq_after (start_of rules) log q) slot ≡ Kept
      io_tail x = by x.stage x.phase x.seen where
        by : (st : Stage) → Phase rules past q st → Seen rules notes q st → tail_verdict (sq_after (start_of rules) log q) slot ≡ Kept
        by untold phase seen = absurd (let none : is_some (ring_of (start_of rules) log q) ≡ false = ap (λ (o : Option Ring). is_some o) seen.0 in cc (none, known))
        by (told_on s cqid) phase seen =
            tail_agreeing s cqid (queues.open_region rules past q r (told_on s cqid) (open_on rules past (effects_of rules notes h) q r it.is_open own) phase) seen

      tail_lawful : tail_verdict (sq_after (start_of rules) log q) slot ≡ Kept
      tail_lawful = elim (cases_eq q 0) [
        | inl z ↦
            let region : r ≡ 0 = admin_region rules past (effects_of rules notes h) r (own ∙ ap (λ (k : ℕ). Some k) z) in
            tail_agreeing 0 0 region (subst (λ (k : ℕ). SqAt rules notes k 0 0) (sym z) (admin_agrees rules notes h names).sq)
        | inr io ↦ io_tail ((queues_at rules starts by_regions notes h l duties names).queue q io)
      ]

    -- a head of a completion queue that the host was told of before any completion
    module _ (c slot q : ℕ) (it : IsLawful rules notes (Head c slot)) (own : cqid_of_region past c ≡ Some q) (known : is_some (qsize_of (start_of rules) log q) ≡ true) (on_time : is_early (start_of rules) log q ≡ false) where
      head_agreeing : (y : ℕ) → c ≡ y → CqAt rules notes q y → head_verdict (cq_after (start_of rules) log q) slot ≡ Kept
      head_agreeing y same a =
          let fits : consumed rules notes c + gap (cq_slots rules c) (consumed rules notes c % cq_slots rules c) slot ≤ length (posted_to past c) =
          subst (λ b. (if b then consumed rules notes c + gap (cq_slots rules c) (consumed rules notes c % cq_slots rules c) slot else consumed rules notes c) ≤ length (posted_to past c)) (eq-eqb c c refl) it.posted in
          head_kept (start_of rules) log q (cq_slots rules y) (length (posted_to past y)) (consumed rules notes y) a slot
          (subst (λ (z : ℕ). slot < cq_slots rules z) same it.is_slot)
          (subst (λ (z : ℕ). consumed rules notes z + gap (cq_slots rules z) (consumed rules notes z % cq_slots rules z) slot ≤ length (posted_to past z)) same fits)

      io_head : CqQueueAt rules notes q → head_verdict (cq_after (start_of rules) log q) slot ≡ Kept
      io_head x = by x.stage x.phase x.seen where
        into : open_cq past q ≡ Some c
        into =
            let found = open_region rules notes (effects_of rules notes h) c it.is_open in
            let same = same_Some found.0 q (sym found.2 ∙ own) in
            subst (λ (k : ℕ). open_cq past k ≡ Some c) same found.1

        by : (st : CqStage) → CqPhase rules past q st → CqSeen rules notes q st → head_verdict (cq_after (start_of rules) log q) slot ≡ Kept
        by unknown phase seen = absurd (let none : is_some (qsize_of (start_of rules) log q) ≡ false = ap (λ (o : Option ℕ). is_some o) seen.0 in cc (none, known))
        by (known_on y) phase (inl early) = absurd (let yes = early.1 in cc (yes, on_time))
        by (known_on y) phase (inr agrees) = head_agreeing y (the_region rules past q c (known_on y) into phase) agrees

      head_lawful : head_verdict (cq_after (start_of rules) log q) slot ≡ Kept
      head_lawful = elim (cases_eq q 0) [
        | inl z ↦
            let region : c ≡ 0 = admin_cq_region rules past (effects_of rules notes h) c (own ∙ ap (λ (k : ℕ). Some k) z) in
            head_agreeing 0 region (subst (λ (k : ℕ). CqAt rules notes k 0) (sym z) (admin_agrees rules notes h names).cq)
        | inr io ↦ io_head (cqs_at rules starts by_regions notes h l names duties turns_alone q io)
      ]

  -- ---- note by note
  doorbells : (notes : Notes) → EachNote (IsLawful rules) notes → IsLimitedRun rules.mechanism rules.start.settings (arbitration_of (logged notes)) → KeepsDuties (start_of rules) (shown rules notes) → TurnsCqsAlone (shown rules notes)
      → KnowsHeads (start_of rules) (shown rules notes) → EachShown (IsDoorbellKept (start_of rules)) (shown rules notes)
  doorbells [] h l d t k = tt
  doorbells (Tail r slot ∷ notes) h l d t k = by (qid_of_region (logged notes) r) refl d (doorbells notes h.1 l before alone (free_before rules (IsKnownHead (start_of rules)) (Tail r slot) notes k)) where
    before : KeepsDuties (start_of rules) (shown rules notes)
    before = free_before rules (IsDutiful (start_of rules)) (Tail r slot) notes d

    alone : TurnsCqsAlone (shown rules notes)
    alone = free_before rules TurnsCqAlone (Tail r slot) notes t

    by : (o : Option ℕ) → qid_of_region (logged notes) r ≡ o → KeepsDuties (start_of rules) (tail_of o slot (shown rules notes)) → EachShown (IsDoorbellKept (start_of rules)) (shown rules notes) → EachShown (IsDoorbellKept (start_of rules)) (tail_of o slot (shown rules notes))
    by None is duty rest = rest
    by (Some q) is duty rest = (tail_lawful notes h.1 l before alone r slot q h.0 is duty.0, rest)
  doorbells (Head c slot ∷ notes) h l d t k = by (cqid_of_region (logged notes) c) refl k (doorbells notes h.1 l before alone (free_before rules (IsKnownHead (start_of rules)) (Head c slot) notes k)) where
    before : KeepsDuties (start_of rules) (shown rules notes)
    before = free_before rules (IsDutiful (start_of rules)) (Head c slot) notes d

    alone : TurnsCqsAlone (shown rules notes)
    alone = free_before rules TurnsCqAlone (Head c slot) notes t

    by : (o : Option ℕ) → cqid_of_region (logged notes) c ≡ o → KnowsHeads (start_of rules) (head_of o slot (shown rules notes)) → EachShown (IsDoorbellKept (start_of rules)) (shown rules notes) → EachShown (IsDoorbellKept (start_of rules)) (head_of o slot (shown rules notes))
    by None is duty rest = rest
    by (Some q) is duty rest = (head_lawful notes h.1 l before alone c slot q h.0 is duty.0.0 duty.0.1, rest)
  doorbells (Logged (Fetch r i entry) ∷ notes) h l d t k =
      by (qid_of_region (logged notes) r) (doorbells notes h.1 (run_before rules (Logged (Fetch r i entry)) notes l) (free_before rules (IsDutiful (start_of rules)) (Logged (Fetch r i entry)) notes d) (free_before rules TurnsCqAlone (Logged (Fetch r i entry)) notes t) (free_before rules (IsKnownHead (start_of rules)) (Logged (Fetch r i entry)) notes k)) where
        by : (o : Option ℕ) → EachShown (IsDoorbellKept (start_of rules)) (shown rules notes) → EachShown (IsDoorbellKept (start_of rules)) (fetch_of o (i % sq_slots rules r) entry (shown rules notes))
        by None rest = rest
        by (Some q) rest = (tt, rest)
  doorbells (Logged (Post c r i cqe) ∷ notes) h l d t k =
      by (cqid_of_region (logged notes) c) (doorbells notes h.1 (run_before rules (Logged (Post c r i cqe)) notes l) (free_before rules (IsDutiful (start_of rules)) (Logged (Post c r i cqe)) notes d) (free_before rules TurnsCqAlone (Logged (Post c r i cqe)) notes t) (free_before rules (IsKnownHead (start_of rules)) (Logged (Post c r i cqe)) notes k)) where
        by : (o : Option ℕ) → EachShown (IsDoorbellKept (start_of rules)) (shown rules notes) → EachShown (IsDoorbellKept (start_of rules)) (post_of o (length (posted_to (logged notes) c) % cq_slots rules c) cqe (shown rules notes))
        by None rest = rest
        by (Some q) rest = (tt, rest)
  doorbells (Logged e ∷ notes) h l d t k = doorbells notes h.1 (run_before rules (Logged e) notes l) d t k
  doorbells (note ∷ notes) h l d t k = doorbells notes h.1 l d t k

pub doorbells_are_lawful : DoorbellsAreLawful
doorbells_are_lawful rules notes starts by_regions h duties turns heads = doorbells rules starts by_regions notes h.each h.lawful duties turns heads
