-- What is shown of each submission queue agrees with its region, from when the host is told of it until it is told of its end.
use Rattle.std.proofs.Common.{◌≡◌, ℕ, ◌%◌, ◌<◌, true, false, List, [], ◌∷◌, length, Option, Some, None, is_some, refl, sym, ap, ◌∙◌, subst, arith, ◌⊎◌, inl, inr}
use Rattle.std.specs.Prelude.{slice_get}
use Rattle.std.proofs.lemmas.Bool.{cases_eq, eq-eqb, ne_eqb, false_from_ne_true}
use Rattle.std.proofs.lemmas.Option.{none-some, same_Some}
use Rattle.nvme_entry.specs.AdminCommand.{admin_command_of}
use Rattle.nvme_entry.specs.declared.submission.Sqe.{Sqe}
use Rattle.nvme_entry.specs.declared.completion.Cqe.{Cqe}
use Rattle.nvme_entry.specs.declared.admin.AdminCommand.{AdminCommand}
use Rattle.nvme_entry.specs.declared.admin.AdminCommand.TheVariants.{DeleteSq, CreateSq, Other}
use Rattle.nvme_admin.specs.Checks.{is_success}
use Rattle.nvme_admin.specs.Accepted.{status_of}
use Rattle.nvme_log.specs.declared.event.Event.TheVariants.{Fetch, Post}
use Rattle.nvme_log.specs.Rules.{FrontRules, Past, Each}
use Rattle.nvme_log.proofs.LoadedRegions.{region-owned}
use Rattle.nvme_log.specs.Queues.{Queue, open_sq, qid_of_region}
use Rattle.nvme_log.specs.Places.{fetched, entry_at, fate_of, is_waiting}
use Rattle.nvme_log.specs.Completions.{is_posted, posted_to, table_before}
use Rattle.nvme_log.specs.Effects.{EffectsAtOnce}
use Rattle.nvme_ctrl_log.specs.Notes.{Notes, Logged, Tail, Head, EachNote, logged}
use Rattle.nvme_ctrl_log.specs.Doorbells.{sq_slots, cq_slots, submitted}
use Rattle.nvme_ctrl_log.specs.Own.{command_may_be_own}
use Rattle.nvme_ctrl_log.specs.Account.{IsLawful}
use Rattle.nvme_ctrl_log.proofs.TakenCommands.{IsSound, admin_picked}
use Rattle.nvme_audit.specs.declared.facts.Ring.{Ring}
use Rattle.nvme_audit.specs.Lives as lives
use Rattle.nvme_audit.specs.Lives.{turns_sq, asked, done_by, done}
use Rattle.nvme_audit.specs.Queues.{ring_of, ring_by}
use Rattle.nvme_own_log.specs.Shown.{cqid_of_region, start_of, completion_of, tail_of, head_of, fetch_of, post_of, shown}
use Rattle.nvme_own_log.specs.Duties.{NamesAreFree, KeepsDuties}
use Rattle.nvme_own_log.proofs.Agreeing.{SqAgrees, no_turn}
use Rattle.nvme_own_log.proofs.Answered.{IsPosted, IsDoneBy, posted_so, of_device, device_turns, what_is_done}
use Rattle.nvme_own_log.proofs.AdminQueues.{AdminAt, admin_asks, effects_of}
use Rattle.nvme_own_log.proofs.Steps.{SqAt, sq_step}
use Rattle.nvme_own_log.proofs.PhaseSteps.{IsOpenOn, open_on, Turns}
use Rattle.nvme_own_log.proofs.CqRegions.{cqid_with, region_with}
use Rattle.nvme_own_log.proofs.OwnRegions.{admin_qid, admin_posts_to, admin_cqid}
use Rattle.nvme_own_log.proofs.Phases.{IsPending, IsAccepted, AreAlone, IsCreate, OthersServed, Stage, untold, told_on, Phase, closed, creating, made, told, deleting_it, going}

module _ (rules : FrontRules) (notes : Notes) (h : EachNote (IsLawful rules) notes) (admin : AdminAt rules notes) (c i : ℕ) (cqe : Cqe) (posted : IsPosted rules notes c 0 i cqe) where
  -- a command of a kind that can't be the device's, which was accepted, is done by its completion
  pub done_is : (e : Sqe) → IsPending rules (logged notes) i e → IsAccepted rules (logged notes) i e → command_may_be_own e (admin_command_of e) ≡ false → cqe.sqid ≡ 0
      → done (shown rules notes) (completion_of cqe) ≡ admin_command_of e
  done_is e p a own z =
      let same : posted.entry ≡ e = same_Some posted.entry e (sym posted.is_there ∙ p.0) in
      let asks : asked (shown rules notes) 0 cqe.cid ≡ Some (admin_command_of e) =
      ap (λ (k : ℕ). asked (shown rules notes) 0 k) (posted.cid ∙ ap (λ (x : Sqe). x.cid) same) ∙ admin_asks rules notes admin i e p.0 p.1 in
      let success : is_success cqe.status ≡ true = elim (posted.status refl) [
        | inl passed ↦
            absurd (let device = of_device rules notes h i passed in
            let entry : device.entry ≡ e = same_Some device.entry e (sym device.is_there ∙ p.0) in
            let may : command_may_be_own e (admin_command_of e) ≡ true = subst (λ (x : Sqe). command_may_be_own x (admin_command_of x) ≡ true) entry device.may_be in
            cc (may, own))
        | inr is ↦ ap is_success is ∙ ap (λ (x : Sqe). is_success (status_of rules.start (table_before rules (logged notes) i) x)) same ∙ a.1
      ] in
      ap (λ (o : Option AdminCommand). done_by o (completion_of cqe)) asks ∙ rw (eq-eqb cqe.sqid 0 z, success) refl

-- ---- what is shown of a queue
module _ (rules : FrontRules) where
  -- where the host isn't told the judge finds no queue, and nothing was submitted to it; otherwise what is shown agrees with the region
  abbrev pub Seen : Notes → ℕ → Stage → Type 0
  Seen notes q untold =
      (ring_of (start_of rules) (shown rules notes) q ≡ None)
      × ((queue : Queue) → open_sq (logged notes) q ≡ Some queue → (submitted rules notes queue.region ≡ 0) × (fetched (logged notes) queue.region ≡ []))
  Seen notes q (told_on r cqid) = SqAt rules notes q r cqid

  pub record QueueAt (notes : Notes) (q : ℕ) : Type 0 where
    pub stage : Stage
    pub phase : Phase rules (logged notes) q stage
    pub seen : Seen notes q stage

  -- ---- the region of a told queue
  abbrev pub IsTheRegion : ℕ → Stage → Type 0
  IsTheRegion s untold = Unit {0}
  IsTheRegion s (told_on r cqid) = s ≡ r

  pub open_region : (past : Past) (q s : ℕ) (st : Stage) → IsOpenOn rules past q s → Phase rules past q st → IsTheRegion s st
  open_region past q s st on (closed o served n y) = tt
  open_region past q s st on (creating k e r cqid class is p a o none made_is fresh served) = tt
  open_region past q s st on (made k e queue is p a o served y) = tt
  open_region past q s st on (told queue o served n y) = sym on.region ∙ ap (λ (x : Queue). x.region) (same_Some on.queue queue (sym on.is_open ∙ o))
  open_region past q s st on (deleting_it k e queue more is p a l o none made_is m served) = sym on.region ∙ ap (λ (x : Queue). x.region) (same_Some on.queue queue (sym on.is_open ∙ o))
  open_region past q s st on (going k e r cq is p a o own ends served y) = absurd (none-some on.queue (sym o ∙ on.is_open))

  not_served : (past : Past) (q s r i : ℕ) (e : Sqe) → OthersServed rules past q r → qid_of_region past s ≡ Some q → entry_at past s i ≡ Some e → is_posted past s i ≡ false → s ≡ r
  not_served past q s r i e served own at unposted = elim (cases_eq s r) [
    | inl same ↦ same
    | inr other ↦ absurd (let done : is_posted past s i ≡ true = served s own other i e at in cc (done, unposted))
  ]

  pub posted_region : (past : Past) (q s i : ℕ) (e : Sqe) (st : Stage) → qid_of_region past s ≡ Some q → entry_at past s i ≡ Some e → is_posted past s i ≡ false → Phase rules past q st → IsTheRegion s st
  posted_region past q s i e st own at unposted (closed o served n y) = tt
  posted_region past q s i e st own at unposted (creating k x r cqid class is p a o none made_is fresh served) = tt
  posted_region past q s i e st own at unposted (made k x queue is p a o served y) = tt
  posted_region past q s i e st own at unposted (told queue o served n y) = not_served past q s queue.region i e served own at unposted
  posted_region past q s i e st own at unposted (deleting_it k x queue more is p a l o none made_is m served) = not_served past q s queue.region i e served own at unposted
  posted_region past q s i e st own at unposted (going k x r cq is p a o mine ends served y) = not_served past q s r i e served own at unposted

  abbrev pub IsOwned : Past → ℕ → Stage → Type 0
  IsOwned past q untold = Unit {0}
  IsOwned past q (told_on r cqid) = qid_of_region past r ≡ Some q

  pub owned_by : (past : Past) → Each (EffectsAtOnce rules) past → (q : ℕ) (st : Stage) → Phase rules past q st → IsOwned past q st
  owned_by past h q st (closed o served n y) = tt
  owned_by past h q st (creating k x r cqid class is p a o none made_is fresh served) = tt
  owned_by past h q st (made k x queue is p a o served y) = tt
  owned_by past h q st (told queue o served n y) = region-owned rules past h q queue o
  owned_by past h q st (deleting_it k x queue more is p a l o none made_is m served) = region-owned rules past h q queue o
  owned_by past h q st (going k x r cq is p a o mine ends served y) = mine.0

  -- the completion queue of a told queue is the one that its Create named
  abbrev pub IsNamed : Past → Stage → Type 0
  IsNamed past untold = Unit {0}
  IsNamed past (told_on r cqid) = cqid_with past r ≡ Some cqid

  pub named_by : (past : Past) → Each (EffectsAtOnce rules) past → (q : ℕ) (st : Stage) → Phase rules past q st → IsNamed past st
  named_by past h q st (closed o served n y) = tt
  named_by past h q st (creating k x r cqid class is p a o none made_is fresh served) = tt
  named_by past h q st (made k x queue is p a o served y) = tt
  named_by past h q st (told queue o served n y) = region_with rules past h q queue o
  named_by past h q st (deleting_it k x queue more is p a l o none made_is m served) = region_with rules past h q queue o
  named_by past h q st (going k x r cq is p a o mine ends served y) = mine.1

  -- ---- note by note
  module _ (notes : Notes) (h : EachNote (IsLawful rules) notes) (q : ℕ) where
    abbrev past : Past
    past = logged notes

    abbrev log : lives.Past
    log = shown rules notes

    effects : Each (EffectsAtOnce rules) past
    effects = effects_of rules notes h

    pub seen_tail : (s slot : ℕ) (st : Stage) → IsLawful rules notes (Tail s slot) → KeepsDuties (start_of rules) (shown rules (Tail s slot ∷ notes)) → NamesAreFree (shown rules (Tail s slot ∷ notes))
        → Phase rules past q st → Seen notes q st → Seen (Tail s slot ∷ notes) q st
    seen_tail s slot untold it duties free phase seen = (by_ring (qid_of_region past s), λ queue o. kept queue o (seen.1 queue o)) where
      by_ring : (o : Option ℕ) → ring_of (start_of rules) (tail_of o slot log) q ≡ None
      by_ring None = seen.0
      by_ring (Some p) = seen.0

      refused : qid_of_region past s ≡ Some q → ⊥
      refused own =
          let duty = subst (λ (o : Option ℕ). KeepsDuties (start_of rules) (tail_of o slot log)) own duties in
          let none : is_some (ring_of (start_of rules) log q) ≡ false = ap (λ (o : Option Ring). is_some o) seen.0 in
          cc (duty.0, none)

      kept : (queue : Queue) → open_sq past q ≡ Some queue → (submitted rules notes queue.region ≡ 0) × (fetched past queue.region ≡ []) → (submitted rules (Tail s slot ∷ notes) queue.region ≡ 0) × (fetched past queue.region ≡ [])
      kept queue o none =
          let other : s ≡ queue.region → ⊥ = λ same. refused (ap (qid_of_region past) same ∙ region-owned rules past effects q queue o) in
          (rw (ne_eqb s queue.region other) none.0, none.1)
    seen_tail s slot (told_on r cqid) it duties free phase seen =
        sq_step rules notes h q r cqid (owned_by past effects q (told_on r cqid) phase) seen (Tail s slot) it
        (λ own. open_region past q s (told_on r cqid) (open_on rules past effects q s it.is_open own) phase) tt free

    pub seen_head : (c slot : ℕ) (st : Stage) → IsLawful rules notes (Head c slot) → NamesAreFree (shown rules (Head c slot ∷ notes)) → Phase rules past q st → Seen notes q st → Seen (Head c slot ∷ notes) q st
    seen_head c slot untold it free phase seen = (by_ring (cqid_of_region past c), seen.1) where
      by_ring : (o : Option ℕ) → ring_of (start_of rules) (head_of o slot log) q ≡ None
      by_ring None = seen.0
      by_ring (Some p) = seen.0
    seen_head c slot (told_on r cqid) it free phase seen = sq_step rules notes h q r cqid (owned_by past effects q (told_on r cqid) phase) seen (Head c slot) it tt tt free

    pub seen_fetch : (s i : ℕ) (entry : Sqe) (st : Stage) → IsLawful rules notes (Logged (Fetch s i entry)) → NamesAreFree (shown rules (Logged (Fetch s i entry) ∷ notes)) → Phase rules past q st → Seen notes q st
        → Seen (Logged (Fetch s i entry) ∷ notes) q st
    seen_fetch s i entry untold it free phase seen = (by_ring (qid_of_region past s), λ queue o. kept queue (seen.1 queue o)) where
      by_ring : (o : Option ℕ) → ring_of (start_of rules) (fetch_of o (i % sq_slots rules s) entry log) q ≡ None
      by_ring None = seen.0
      by_ring (Some p) = seen.0

      kept : (queue : Queue) → (submitted rules notes queue.region ≡ 0) × (fetched past queue.region ≡ []) → (submitted rules notes queue.region ≡ 0) × (fetched (Fetch s i entry ∷ past) queue.region ≡ [])
      kept queue none = elim (cases_eq s queue.region) [
        | inl same ↦ absurd (let more : length (fetched past queue.region) < submitted rules notes queue.region = subst (λ (z : ℕ). length (fetched past z) < submitted rules notes z) same it.fetches_submitted in omega (arith, more, none.0))
        | inr other ↦ (none.0, rw (ne_eqb s queue.region other) none.1)
      ]
    seen_fetch s i entry (told_on r cqid) it free phase seen =
        sq_step rules notes h q r cqid (owned_by past effects q (told_on r cqid) phase) seen (Logged (Fetch s i entry)) it
        (λ own. open_region past q s (told_on r cqid) (open_on rules past effects q s it.served_while_open.0 own) phase) tt free

    -- a completion that doesn't turn the queue
    pub seen_post : (c s i : ℕ) (cqe : Cqe) (st : Stage) → IsLawful rules notes (Logged (Post c s i cqe)) → NamesAreFree (shown rules (Logged (Post c s i cqe) ∷ notes)) → turns_sq (done log (completion_of cqe)) q ≡ false
        → Phase rules past q st → Seen notes q st → Seen (Logged (Post c s i cqe) ∷ notes) q st
    seen_post c s i cqe untold it free leaves phase seen = (by_ring (cqid_of_region past c), seen.1) where
      by_ring : (o : Option ℕ) → ring_of (start_of rules) (post_of o (length (posted_to past c) % cq_slots rules c) cqe log) q ≡ None
      by_ring None = seen.0
      by_ring (Some p) = no_turn (done log (completion_of cqe)) q (ring_of (start_of rules) log q) leaves ∙ seen.0
    seen_post c s i cqe (told_on r cqid) it free leaves phase seen =
        let posted : IsPosted rules notes c s i cqe = posted_so rules notes c s i cqe h it.posts_own in
        sq_step rules notes h q r cqid (owned_by past effects q (told_on r cqid) phase) seen (Logged (Post c s i cqe)) it
        (λ own. posted_region past q s i posted.entry (told_on r cqid) own posted.is_there posted.no_post phase) leaves free

    -- ---- what turns the queue
    module _ (admin : AdminAt rules notes) (c s i : ℕ) (cqe : Cqe) (it : IsLawful rules notes (Logged (Post c s i cqe))) (e : Sqe) (of_admin : s ≡ 0) (p : IsPending rules past i e) (a : IsAccepted rules past i e) where
      posted : IsPosted rules notes c 0 i cqe
      posted = subst (λ (z : ℕ). IsPosted rules notes c z i cqe) of_admin (posted_so rules notes c s i cqe h it.posts_own)

      sqid_is : cqe.sqid ≡ 0
      sqid_is = same_Some cqe.sqid 0 (sym posted.sqid ∙ admin_qid rules past effects)

      cqid_is : cqid_of_region past c ≡ Some 0
      cqid_is = ap (cqid_of_region past) (same_Some c 0 (sym posted.region ∙ admin_posts_to rules past effects)) ∙ admin_cqid rules past effects

      pub seen_begins : (queue : Queue) → IsCreate rules e q (sq_slots rules queue.region) queue.cqid → open_sq past q ≡ Some queue → Seen notes q untold → Seen (Logged (Post c s i cqe) ∷ notes) q (told_on queue.region queue.cqid)
      seen_begins queue is o seen =
          let command : done log (completion_of cqe) ≡ CreateSq q is.qsize is.prp1 queue.cqid is.qprio is.pc =
          done_is rules notes h admin c i cqe posted e p a (ap (command_may_be_own e) is.command_is) sqid_is ∙ is.command_is in
          let turned : turns_sq (done log (completion_of cqe)) q ≡ true = ap (λ (x : AdminCommand). turns_sq x q) command ∙ eq-eqb q q refl in
          let none = seen.1 queue o in
          subst (λ (x : Option ℕ). SqAgrees (start_of rules) (post_of x (length (posted_to past c) % cq_slots rules c) cqe log) q (sq_slots rules queue.region) queue.cqid (submitted rules notes queue.region) (fetched past queue.region) (λ k. is_posted (Post c s i cqe ∷ past) queue.region k)) (sym cqid_is)
          (record {
            ring = record { qsize = is.qsize; cqid = queue.cqid };
            ring_is = ap (λ (x : AdminCommand). ring_by x q (ring_of (start_of rules) log q)) command ∙ rw (eq-eqb q q refl) refl;
            cqid_is = refl;
            slots_are = λ some. sym is.slots_are;
            submitted_is = rw turned (sym none.0);
            some_slots = λ some. omega (arith, is.slots_are);
            fetched_is = rw turned (sym (ap length none.1));
            outs = λ k x at open_it. absurd (none-some x (ap (λ (xs : List Sqe). slice_get xs k) (sym none.1) ∙ at));
          })

      pub seen_ends : admin_command_of e ≡ DeleteSq q → open_sq past q ≡ None → Seen (Logged (Post c s i cqe) ∷ notes) q untold
      seen_ends is o =
          let command : done log (completion_of cqe) ≡ DeleteSq q = done_is rules notes h admin c i cqe posted e p a (ap (command_may_be_own e) is) sqid_is ∙ is in (
            subst (λ (x : Option ℕ). ring_of (start_of rules) (post_of x (length (posted_to past c) % cq_slots rules c) cqe log) q ≡ None) (sym cqid_is)
                (ap (λ (x : AdminCommand). ring_by x q (ring_of (start_of rules) log q)) command ∙ rw (eq-eqb q q refl) refl),
            λ queue is_open. absurd (none-some queue (sym o ∙ is_open)),
          )

    -- a completion of no command that turns the queue
    pub unturned : AdminAt rules notes → (alone : AreAlone rules past) (c s i : ℕ) (cqe : Cqe) → IsLawful rules notes (Logged (Post c s i cqe)) → IsSound rules past
        → ((e : Sqe) → Turns rules past alone q c s i cqe e → ⊥) → turns_sq (done log (completion_of cqe)) q ≡ false
    unturned admin alone c s i cqe it sound none = by (what_is_done rules log notes h c s i cqe posted (admin_asks rules notes admin i)) where
      posted : IsPosted rules notes c s i cqe
      posted = posted_so rules notes c s i cqe h it.posts_own

      by : (done log (completion_of cqe) ≡ Other) ⊎ IsDoneBy rules log notes s i cqe → turns_sq (done log (completion_of cqe)) q ≡ false
      by (inl other) = ap (λ (x : AdminCommand). turns_sq x q) other
      by (inr d) = ap (λ (x : AdminCommand). turns_sq x q) d.command_is ∙ elim d.why [
        | inl device ↦ (device_turns d.entry (admin_command_of d.entry) device q).0
        | inr success ↦ false_from_ne_true (turns_sq (admin_command_of d.entry) q) (λ turns.
            none d.entry (
              d.of_admin,
              (d.is_there, subst (λ (z : ℕ). is_posted past z i ≡ false) d.of_admin posted.no_post),
              (admin_picked rules past sound.effects i (subst (λ (z : ℕ). is_waiting (fate_of past z i) ≡ false) d.of_admin posted.served), success),
              turns,
            ))
      ]
