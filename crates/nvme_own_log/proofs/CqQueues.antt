-- What is shown of each I/O completion queue agrees with its region, from when the host is told of it until it is told of its end.
use Rattle.std.proofs.Common.{◌≡◌, ℕ, ◌%◌, ◌<◌, ◌≤◌, ◌==◌, ◌&&◌, Bool, true, false, if◌then◌else◌, [], ◌∷◌, length, Option, Some, None, is_some, refl, sym, ap, ◌∙◌, subst, arith, ◌⊎◌, inl, inr, eqb-true, eq-eqb}
use Rattle.std.proofs.lemmas.Bool.{cases_eq, ne_eqb, or_right, lt-ltb, false_from_ne_true}
use Rattle.std.proofs.lemmas.Option.{none-some, same_Some}
use Rattle.nvme_entry.specs.AdminCommand.{admin_command_of}
use Rattle.nvme_entry.specs.declared.submission.Sqe.{Sqe}
use Rattle.nvme_entry.specs.declared.completion.Cqe.{Cqe}
use Rattle.nvme_entry.specs.declared.admin.AdminCommand.{AdminCommand}
use Rattle.nvme_entry.specs.declared.admin.AdminCommand.TheVariants.{DeleteSq, CreateSq, DeleteCq, CreateCq, Abort, SetFeatures, GetFeatures, Other}
use Rattle.nvme_arbiter.specs.Limits.{queue_limit}
use Rattle.nvme_log.specs.declared.event.Event.TheVariants.{Fetch, OpenCq, Post, ClosedCq}
use Rattle.nvme_log.specs.Rules.{FrontRules, Past, Each, upto}
use Rattle.nvme_log.specs.Queues.{open_cq, qid_of_region}
use Rattle.nvme_log.specs.Places.{fate_of, is_waiting}
use Rattle.nvme_log.specs.Aborts.{is_index}
use Rattle.nvme_log.specs.Completions.{is_posted, posted_to}
use Rattle.nvme_log.specs.Effects.{EffectsAtOnce}
use Rattle.nvme_log.specs.Laws.{StartsWithAdmin}
use Rattle.nvme_ctrl_log.specs.Notes.{Notes, Note, Logged, Tail, Head, EachNote, logged}
use Rattle.nvme_ctrl_log.specs.Doorbells.{sq_slots, cq_slots, consumed}
use Rattle.nvme_ctrl_log.specs.Own.{command_may_be_own}
use Rattle.nvme_ctrl_log.specs.Account.{IsLawful, is_open_cq_region}
use Rattle.nvme_ctrl_log.proofs.Noted.{each-event}
use Rattle.nvme_ctrl_log.proofs.TakenCommands.{IsSound, admin_picked}
use Rattle.nvme_audit.specs.Lives as lives
use Rattle.nvme_audit.specs.Lives.{done}
use Rattle.nvme_audit.specs.Early.{may_be_open, is_early}
use Rattle.nvme_audit.specs.Queues.{turns_cq, deletes_cq, qsize_by, qsize_of}
use Rattle.nvme_audit.specs.Turns.{cq_asks, cq_replies}
use Rattle.nvme_own_log.specs.Shown.{cqid_of_region, start_of, completion_of, tail_of, head_of, fetch_of, post_of, shown}
use Rattle.nvme_own_log.proofs.Agreeing.{CqAgrees, no_cq_turn}
use Rattle.nvme_own_log.proofs.Answered.{IsPosted, IsDoneBy, posted_so, device_turns, what_is_done}
use Rattle.nvme_own_log.proofs.AdminQueues.{AdminAt, admin_asks, effects_of}
use Rattle.nvme_own_log.proofs.CqsAlone.{AreCqsAlone}
use Rattle.nvme_own_log.proofs.CqPhases.{CqStage, unknown, known_on, IsCqCreate, CqPhase, absent, coming, hidden, present, leaving, gone}
use Rattle.nvme_own_log.proofs.CqRegions.{cq_fresh, cq_owned, posts_known}
use Rattle.nvme_own_log.proofs.CqSteps.{Turns}
use Rattle.nvme_own_log.proofs.OwnRegions.{admin_qid, admin_posts_to, admin_cqid}
use Rattle.nvme_own_log.proofs.Phases.{IsPending, IsAccepted}
use Rattle.nvme_own_log.proofs.PhaseSteps.{any_of}
use Rattle.nvme_own_log.proofs.Queues.{done_is}
use Rattle.nvme_own_log.proofs.ShutRegions.{posts_open}
use Rattle.nvme_own_log.proofs.SqRegions.{IsInRange, in_range}
use Rattle.nvme_own_log.proofs.Steps.{CqAt, cq_step}

-- what turns no completion queue deletes none
deletes_turns : (a : AdminCommand) (q : ℕ) → turns_cq a q ≡ false → deletes_cq a q ≡ false
deletes_turns (DeleteSq qid) q h = refl
deletes_turns (CreateSq qid qsize prp1 cqid qprio pc) q h = refl
deletes_turns (DeleteCq qid) q h = h
deletes_turns (CreateCq qid qsize prp1 pc) q h = refl
deletes_turns (Abort sqid cid) q h = refl
deletes_turns (SetFeatures fid sv cdw11) q h = refl
deletes_turns (GetFeatures fid) q h = refl
deletes_turns Other q h = refl

module _ (rules : FrontRules) where
  -- a completion came before the host was told, so that nobody knows how many there are
  abbrev pub IsEarly : Notes → ℕ → Type 0
  IsEarly notes q = is_early (start_of rules) (shown rules notes) q ≡ true

  -- where the host isn't told the judge finds no queue, and nothing was posted and consumed that wasn't early; otherwise what is shown agrees with the
  -- region, unless a completion was early
  abbrev pub CqSeen : Notes → ℕ → CqStage → Type 0
  CqSeen notes q unknown =
      (qsize_of (start_of rules) (shown rules notes) q ≡ None)
      × ((c : ℕ) → open_cq (logged notes) q ≡ Some c → IsEarly notes q ⊎ ((posted_to (logged notes) c ≡ []) × (consumed rules notes c ≡ 0)))
  CqSeen notes q (known_on c) = ((is_some (qsize_of (start_of rules) (shown rules notes) q) ≡ true) × IsEarly notes q) ⊎ CqAt rules notes q c

  pub record CqQueueAt (notes : Notes) (q : ℕ) : Type 0 where
    pub stage : CqStage
    pub phase : CqPhase rules (logged notes) q stage
    pub seen : CqSeen notes q stage

  -- ---- the region of a queue
  -- while the queue is open: that of the host's queue, and where the host isn't told its Create is pending
  abbrev pub IsRegion : Past → ℕ → ℕ → CqStage → Type 0
  IsRegion past q s unknown = (k : ℕ) × (e : Sqe) × IsPending rules past k e × (turns_cq (admin_command_of e) q ≡ true)
  IsRegion past q s (known_on c) = s ≡ c

  pub the_region : (past : Past) (q s : ℕ) (st : CqStage) → open_cq past q ≡ Some s → CqPhase rules past q st → IsRegion past q s st
  the_region past q s st is (absent o n y) = absurd (none-some s (sym o ∙ is))
  the_region past q s st is (coming k e c create p a o none made_is) = absurd (none-some s (sym o ∙ is))
  the_region past q s st is (hidden k e c create p a o y) = (k, e, p, ap (λ (x : AdminCommand). turns_cq x q) create.command_is ∙ eq-eqb q q refl)
  the_region past q s st is (present c o n y) = same_Some s c (sym is ∙ o)
  the_region past q s st is (leaving k e c del p a o none made_is) = same_Some s c (sym is ∙ o)
  the_region past q s st is (gone k e c del p a o own y) = absurd (none-some s (sym o ∙ is))

  abbrev IsOwned : Past → ℕ → CqStage → Type 0
  IsOwned past q unknown = Unit {0}
  IsOwned past q (known_on c) = cqid_of_region past c ≡ Some q

  owned_by : (past : Past) → Each (EffectsAtOnce rules) past → (q : ℕ) (st : CqStage) → CqPhase rules past q st → IsOwned past q st
  owned_by past h q st (absent o n y) = tt
  owned_by past h q st (coming k e c create p a o none made_is) = tt
  owned_by past h q st (hidden k e c create p a o y) = tt
  owned_by past h q st (present c o n y) = cq_owned rules past h q c o
  owned_by past h q st (leaving k e c del p a o none made_is) = cq_owned rules past h q c o
  owned_by past h q st (gone k e c del p a o own y) = own

  -- the queue of an open completion region
  pub open_region : (notes : Notes) → Each (EffectsAtOnce rules) (logged notes) → (s : ℕ) → is_open_cq_region notes s ≡ true → (p : ℕ) × (open_cq (logged notes) p ≡ Some s) × (cqid_of_region (logged notes) s ≡ Some p)
  open_region notes h s is_open = by some.0 (open_cq (logged notes) some.0) refl some.1 where
    some : (p : ℕ) × (is_index s (open_cq (logged notes) p) ≡ true)
    some = any_of (λ (p : ℕ). is_index s (open_cq (logged notes) p)) (upto queue_limit) is_open

    by : (p : ℕ) (o : Option ℕ) → open_cq (logged notes) p ≡ o → is_index s o ≡ true → (p : ℕ) × (open_cq (logged notes) p ≡ Some s) × (cqid_of_region (logged notes) s ≡ Some p)
    by p None is on = cc on
    by p (Some c) is on =
        let at : open_cq (logged notes) p ≡ Some s = is ∙ ap (λ (k : ℕ). Some k) (eqb-true c s on) in
        (p, at, cq_owned rules (logged notes) h p s at)

  -- nothing was posted to a region that no queue was opened on, and nothing was consumed
  pub untouched : (notes : Notes) → EachNote (IsLawful rules) notes → (c : ℕ) → cqid_of_region (logged notes) c ≡ None → (posted_to (logged notes) c ≡ []) × (consumed rules notes c ≡ 0)
  untouched [] h c none = (refl, refl)
  untouched (Logged (Post x s i cqe) ∷ notes) h c none = elim (cases_eq x c) [
    | inl same ↦
        let posted : IsPosted rules notes x s i cqe = posted_so rules notes x s i cqe h.1 h.0.posts_own in
        absurd (posts_known rules (logged notes) (effects_of rules notes h.1) s c (posted.region ∙ ap (λ (k : ℕ). Some k) same) none)
    | inr other ↦ (let before = untouched notes h.1 c none in (rw (ne_eqb x c other) before.0, before.1))
  ]
  untouched (Logged (OpenCq qid region) ∷ notes) h c none = by (region == c) none (untouched notes h.1 c) where
    by : (b : Bool) → (if b then Some qid else cqid_of_region (logged notes) c) ≡ None → (cqid_of_region (logged notes) c ≡ None → (posted_to (logged notes) c ≡ []) × (consumed rules notes c ≡ 0))
        → (posted_to (logged notes) c ≡ []) × (consumed rules notes c ≡ 0)
    by true k f = absurd (none-some qid (sym k))
    by false k f = f k
  untouched (Head s slot ∷ notes) h c none = elim (cases_eq s c) [
    | inl same ↦ absurd (let it = open_region notes (effects_of rules notes h.1) s h.0.is_open in none-some it.0 (sym none ∙ ap (cqid_of_region (logged notes)) (sym same) ∙ it.2))
    | inr other ↦ (let before = untouched notes h.1 c none in (before.0, rw (ne_eqb s c other) before.1))
  ]
  untouched (Logged e ∷ notes) h c none = untouched notes h.1 c none
  untouched (note ∷ notes) h c none = untouched notes h.1 c none

  -- ---- note by note
  module _ (starts : StartsWithAdmin rules) (notes : Notes) (h : EachNote (IsLawful rules) notes) (q : ℕ) where
    abbrev past : Past
    past = logged notes

    abbrev log : lives.Past
    log = shown rules notes

    effects : Each (EffectsAtOnce rules) past
    effects = effects_of rules notes h

    -- a completion goes to the open region of its completion queue
    pub into_open : (c s i : ℕ) (cqe : Cqe) → IsLawful rules notes (Logged (Post c s i cqe)) → IsPosted rules notes c s i cqe → cqid_of_region past c ≡ Some q → open_cq past q ≡ Some c
    into_open c s i cqe it posted own =
        let range : IsInRange rules past s = in_range rules past effects (each-event _ rules (λ p e x. x.served_while_open) notes h) s i posted.entry posted.is_there in
        posts_open rules starts past effects (each-event _ rules (λ p e x. x.deletes) notes h) q c s range.qid own posted.region range.is_of range.below it.deletes.0

    -- a note that shows no completion, and neither opens nor closes a completion queue
    abbrev pub IsPlainNote : Note → Type 0
    IsPlainNote (Logged (Post c s i cqe)) = ⊥
    IsPlainNote (Logged (OpenCq qid region)) = ⊥
    IsPlainNote (Logged (ClosedCq qid region)) = ⊥
    IsPlainNote (Logged e) = Unit {0}
    IsPlainNote note = Unit {0}

    none_taken : (s slot c : ℕ) → IsLawful rules notes (Head s slot) → (posted_to past c ≡ []) × (consumed rules notes c ≡ 0) → consumed rules (Head s slot ∷ notes) c ≡ 0
    none_taken s slot c it none = elim (cases_eq s c) [
      | inl same ↦
          let few : consumed rules (Head c slot ∷ notes) c ≤ length (posted_to past c) = subst (λ (k : ℕ). consumed rules (Head k slot ∷ notes) k ≤ length (posted_to past k)) same it.posted in
          let as_own : consumed rules (Head s slot ∷ notes) c ≡ consumed rules (Head c slot ∷ notes) c = ap (λ (k : ℕ). consumed rules (Head k slot ∷ notes) c) same in
          omega (arith, few, as_own, ap length none.0)
      | inr other ↦ rw (ne_eqb s c other) none.1
    ]

    -- such a note leaves the size of the queue, and whether it is early
    unchanged : (note : Note) → IsPlainNote note → (qsize_of (start_of rules) (shown rules (note ∷ notes)) q ≡ qsize_of (start_of rules) log q) × (is_early (start_of rules) (shown rules (note ∷ notes)) q ≡ is_early (start_of rules) log q)
    unchanged (Tail r slot) b = by (qid_of_region past r) where
      by : (o : Option ℕ) → (qsize_of (start_of rules) (tail_of o slot log) q ≡ qsize_of (start_of rules) log q) × (is_early (start_of rules) (tail_of o slot log) q ≡ is_early (start_of rules) log q)
      by None = (refl, refl)
      by (Some p) = (refl, refl)
    unchanged (Head c slot) b = by (cqid_of_region past c) where
      by : (o : Option ℕ) → (qsize_of (start_of rules) (head_of o slot log) q ≡ qsize_of (start_of rules) log q) × (is_early (start_of rules) (head_of o slot log) q ≡ is_early (start_of rules) log q)
      by None = (refl, refl)
      by (Some p) = (refl, refl)
    unchanged (Logged (Fetch r i entry)) b = by (qid_of_region past r) where
      by : (o : Option ℕ) → (qsize_of (start_of rules) (fetch_of o (i % sq_slots rules r) entry log) q ≡ qsize_of (start_of rules) log q) × (is_early (start_of rules) (fetch_of o (i % sq_slots rules r) entry log) q ≡ is_early (start_of rules) log q)
      by None = (refl, refl)
      by (Some p) = (refl, refl)
    unchanged (Logged (Post c s i cqe)) b = absurd b
    unchanged (Logged e) b = (refl, refl)
    unchanged note b = (refl, refl)

    pub seen_plain : (note : Note) → IsPlainNote note → (st : CqStage) → IsLawful rules notes note → CqPhase rules past q st → CqSeen notes q st → CqSeen (note ∷ notes) q st
    seen_plain (Logged (Post c s i cqe)) b st it phase seen = absurd b
    seen_plain (Logged (OpenCq qid region)) b st it phase seen = absurd b
    seen_plain (Logged (ClosedCq qid region)) b st it phase seen = absurd b
    seen_plain (Head s slot) b unknown it phase seen = (
      (unchanged (Head s slot) b).0 ∙ seen.0,
      λ c o. elim (seen.1 c o) [ inl early ↦ inl ((unchanged (Head s slot) b).1 ∙ early) | inr none ↦ inr (none.0, none_taken s slot c it none) ],
    )
    seen_plain (Head s slot) b (known_on c) it phase seen = elim seen [
      | inl early ↦ inl (ap (λ (o : Option ℕ). is_some o) (unchanged (Head s slot) b).0 ∙ early.0, (unchanged (Head s slot) b).1 ∙ early.1)
      | inr agrees ↦ inr (cq_step rules notes q c (owned_by past effects q (known_on c) phase) agrees (Head s slot) it
          (λ own. let is = open_region notes effects s it.is_open in the_region past q s (known_on c) (ap (open_cq past) (same_Some q is.0 (sym own ∙ is.2)) ∙ is.1) phase) tt)
    ]
    seen_plain (Logged e) b unknown it phase seen = (
      (unchanged (Logged e) b).0 ∙ seen.0,
      λ c o. elim (seen.1 c o) [ inl early ↦ inl ((unchanged (Logged e) b).1 ∙ early) | inr none ↦ inr none ],
    )
    seen_plain (Logged e) b (known_on c) it phase seen = elim seen [
      | inl early ↦ inl (ap (λ (o : Option ℕ). is_some o) (unchanged (Logged e) b).0 ∙ early.0, (unchanged (Logged e) b).1 ∙ early.1)
      | inr agrees ↦ inr (cq_step rules notes q c (owned_by past effects q (known_on c) phase) agrees (Logged e) it tt tt)
    ]
    seen_plain note b unknown it phase seen = (
      (unchanged note b).0 ∙ seen.0,
      λ c o. elim (seen.1 c o) [ inl early ↦ inl ((unchanged note b).1 ∙ early) | inr none ↦ inr none ],
    )
    seen_plain note b (known_on c) it phase seen = elim seen [
      | inl early ↦ inl (ap (λ (o : Option ℕ). is_some o) (unchanged note b).0 ∙ early.0, (unchanged note b).1 ∙ early.1)
      | inr agrees ↦ inr (cq_step rules notes q c (owned_by past effects q (known_on c) phase) agrees note it tt tt)
    ]

    -- a completion queue is opened
    pub seen_opened : (qid region : ℕ) (st : CqStage) → IsLawful rules notes (Logged (OpenCq qid region)) → CqPhase rules past q st → CqSeen notes q st → CqSeen (Logged (OpenCq qid region) ∷ notes) q st
    seen_opened qid region unknown it phase seen = (seen.0, λ c. by c (qid == q)) where
      by : (c : ℕ) (b : Bool) → (if b then Some region else open_cq past q) ≡ Some c → IsEarly notes q ⊎ ((posted_to past c ≡ []) × (consumed rules notes c ≡ 0))
      by c true o = inr (untouched notes h c (ap (cqid_of_region past) (sym (same_Some region c o)) ∙ cq_fresh rules past effects qid region it.effects_at_once))
      by c false o = seen.1 c o
    seen_opened qid region (known_on c) it phase seen = elim seen [
      | inl early ↦ inl early
      | inr agrees ↦ inr (cq_step rules notes q c (owned_by past effects q (known_on c) phase) agrees (Logged (OpenCq qid region)) it tt tt)
    ]

    -- and closed
    pub seen_closed : (qid region : ℕ) (st : CqStage) → IsLawful rules notes (Logged (ClosedCq qid region)) → CqPhase rules past q st → CqSeen notes q st → CqSeen (Logged (ClosedCq qid region) ∷ notes) q st
    seen_closed qid region unknown it phase seen = (seen.0, λ c. by c (qid == q)) where
      by : (c : ℕ) (b : Bool) → (if b then None else open_cq past q) ≡ Some c → IsEarly notes q ⊎ ((posted_to past c ≡ []) × (consumed rules notes c ≡ 0))
      by c true o = absurd (none-some c o)
      by c false o = seen.1 c o
    seen_closed qid region (known_on c) it phase seen = elim seen [
      | inl early ↦ inl early
      | inr agrees ↦ inr (cq_step rules notes q c (owned_by past effects q (known_on c) phase) agrees (Logged (ClosedCq qid region)) it tt tt)
    ]

    -- a completion that doesn't turn the queue
    module _ (c s i : ℕ) (cqe : Cqe) (it : IsLawful rules notes (Logged (Post c s i cqe))) where
      posted : IsPosted rules notes c s i cqe
      posted = posted_so rules notes c s i cqe h it.posts_own

      size_kept : turns_cq (done log (completion_of cqe)) q ≡ false → (o : Option ℕ) → qsize_of (start_of rules) (post_of o (length (posted_to past c) % cq_slots rules c) cqe log) q ≡ qsize_of (start_of rules) log q
      size_kept leaves None = refl
      size_kept leaves (Some p) = no_cq_turn (done log (completion_of cqe)) q (qsize_of (start_of rules) log q) leaves

      -- a completion queue that isn't deleted stays early
      early_kept : deletes_cq (done log (completion_of cqe)) q ≡ false → IsEarly notes q → (o : Option ℕ) → is_early (start_of rules) (post_of o (length (posted_to past c) % cq_slots rules c) cqe log) q ≡ true
      early_kept leaves early None = early
      early_kept leaves early (Some p) = rw leaves (or_right ((p == q) && may_be_open (start_of rules) log q) (is_early (start_of rules) log q) early)

      -- a completion into the open queue is early where the host isn't told
      now_early : turns_cq (done log (completion_of cqe)) q ≡ false → qsize_of (start_of rules) log q ≡ None → cq_replies log q < cq_asks log q → cqid_of_region past c ≡ Some q → IsEarly (Logged (Post c s i cqe) ∷ notes) q
      now_early leaves none fewer own =
          subst (λ (o : Option ℕ). is_early (start_of rules) (post_of o (length (posted_to past c) % cq_slots rules c) cqe log) q ≡ true) (sym own)
          (rw (deletes_turns (done log (completion_of cqe)) q leaves, eq-eqb q q refl, none, lt-ltb (cq_replies log q) (cq_asks log q) fewer) refl)

      pub seen_post : ((k : ℕ) (e : Sqe) → IsPending rules past k e → turns_cq (admin_command_of e) q ≡ true → cq_replies log q < cq_asks log q)
          → (st : CqStage) → turns_cq (done log (completion_of cqe)) q ≡ false → CqPhase rules past q st → CqSeen notes q st → CqSeen (Logged (Post c s i cqe) ∷ notes) q st
      seen_post fewer unknown leaves phase seen = (
        size_kept leaves (cqid_of_region past c) ∙ seen.0,
        λ x o. elim (cases_eq c x) [
          | inl same ↦
              let x_is = the_region past q x unknown o phase in
              inl (now_early leaves seen.0 (fewer x_is.0 x_is.1 x_is.2 x_is.3) (ap (cqid_of_region past) same ∙ cq_owned rules past effects q x o))
          | inr other ↦ elim (seen.1 x o) [
            | inl early ↦ inl (early_kept (deletes_turns (done log (completion_of cqe)) q leaves) early (cqid_of_region past c))
            | inr none ↦ inr (rw (ne_eqb c x other) none.0, none.1)
          ]
        ],
      )
      seen_post fewer (known_on x) leaves phase seen = elim seen [
        | inl early ↦ inl (
          ap (λ (o : Option ℕ). is_some o) (size_kept leaves (cqid_of_region past c)) ∙ early.0,
          early_kept (deletes_turns (done log (completion_of cqe)) q leaves) early.1 (cqid_of_region past c),
        )
        | inr agrees ↦ inr (cq_step rules notes q x (owned_by past effects q (known_on x) phase) agrees (Logged (Post c s i cqe)) it
            (λ own. the_region past q c (known_on x) (into_open c s i cqe it posted own) phase) leaves)
      ]

      -- ---- what turns the queue
      module _ (admin : AdminAt rules notes) where
        module _ (e : Sqe) (of_admin : s ≡ 0) (p : IsPending rules past i e) (a : IsAccepted rules past i e) where
          as_admin : IsPosted rules notes c 0 i cqe
          as_admin = subst (λ (z : ℕ). IsPosted rules notes c z i cqe) of_admin posted

          sqid_is : cqe.sqid ≡ 0
          sqid_is = same_Some cqe.sqid 0 (sym as_admin.sqid ∙ admin_qid rules past effects)

          cqid_is : cqid_of_region past c ≡ Some 0
          cqid_is = ap (cqid_of_region past) (same_Some c 0 (sym as_admin.region ∙ admin_posts_to rules past effects)) ∙ admin_cqid rules past effects

          command_is : command_may_be_own e (admin_command_of e) ≡ false → done log (completion_of cqe) ≡ admin_command_of e
          command_is own = done_is rules notes h admin c i cqe as_admin e p a own sqid_is

          pub seen_begins : (q ≡ 0 → ⊥) → (x : ℕ) → IsCqCreate rules e q (cq_slots rules x) → open_cq past q ≡ Some x → CqSeen notes q unknown → CqSeen (Logged (Post c s i cqe) ∷ notes) q (known_on x)
          seen_begins io x is o seen =
              let command : done log (completion_of cqe) ≡ CreateCq q is.qsize is.prp1 is.pc = command_is (ap (command_may_be_own e) is.command_is) ∙ is.command_is in
              let turned : turns_cq (done log (completion_of cqe)) q ≡ true = ap (λ (y : AdminCommand). turns_cq y q) command ∙ eq-eqb q q refl in
              let other : c ≡ x → ⊥ = λ same. io (same_Some q 0 (sym (cq_owned rules past effects q x o) ∙ ap (cqid_of_region past) (sym same) ∙ cqid_is)) in
              elim (seen.1 x o) [
                | inl early ↦ inl (
                  subst (λ (z : Option ℕ). is_some (qsize_of (start_of rules) (post_of z (length (posted_to past c) % cq_slots rules c) cqe log) q) ≡ true) (sym cqid_is)
                      (ap (λ (y : AdminCommand). is_some (qsize_by y q (qsize_of (start_of rules) log q))) command ∙ rw (eq-eqb q q refl) refl),
                  early_kept (ap (λ (y : AdminCommand). deletes_cq y q) command) early (cqid_of_region past c),
                )
                | inr untaken ↦
                    let none : posted_to (Post c s i cqe ∷ past) x ≡ [] = rw (ne_eqb c x other) untaken.0 in
                    inr (subst (λ (z : Option ℕ). CqAgrees (start_of rules) (post_of z (length (posted_to past c) % cq_slots rules c) cqe log) q (cq_slots rules x) (length (posted_to (Post c s i cqe ∷ past) x)) (consumed rules notes x)) (sym cqid_is)
                    (record {
                      qsize = is.qsize;
                      qsize_is = ap (λ (y : AdminCommand). qsize_by y q (qsize_of (start_of rules) log q)) command ∙ rw (eq-eqb q q refl) refl;
                      slots_are = λ some. sym is.slots_are;
                      posted_is = rw turned (sym (ap length none));
                      consumed_is = rw turned (sym untaken.1);
                      fits = omega (arith, untaken.1);
                    }))
              ]

          pub seen_ends : admin_command_of e ≡ DeleteCq q → open_cq past q ≡ None → CqSeen (Logged (Post c s i cqe) ∷ notes) q unknown
          seen_ends is o =
              let command : done log (completion_of cqe) ≡ DeleteCq q = command_is (ap (command_may_be_own e) is) ∙ is in (
                subst (λ (z : Option ℕ). qsize_of (start_of rules) (post_of z (length (posted_to past c) % cq_slots rules c) cqe log) q ≡ None) (sym cqid_is)
                    (ap (λ (y : AdminCommand). qsize_by y q (qsize_of (start_of rules) log q)) command ∙ rw (eq-eqb q q refl) refl),
                λ x is_open. absurd (none-some x (sym o ∙ is_open)),
              )

        -- a completion of no command that turns the queue
        pub unturned : (alone : AreCqsAlone rules past) → IsSound rules past → ((e : Sqe) → Turns rules past alone q c s i cqe e → ⊥) → turns_cq (done log (completion_of cqe)) q ≡ false
        unturned alone sound none = by (what_is_done rules log notes h c s i cqe posted (admin_asks rules notes admin i)) where
          by : (done log (completion_of cqe) ≡ Other) ⊎ IsDoneBy rules log notes s i cqe → turns_cq (done log (completion_of cqe)) q ≡ false
          by (inl other) = ap (λ (x : AdminCommand). turns_cq x q) other
          by (inr d) = ap (λ (x : AdminCommand). turns_cq x q) d.command_is ∙ elim d.why [
            | inl device ↦ (device_turns d.entry (admin_command_of d.entry) device q).1
            | inr success ↦ false_from_ne_true (turns_cq (admin_command_of d.entry) q) (λ turns.
                none d.entry (
                  d.of_admin,
                  (d.is_there, subst (λ (z : ℕ). is_posted past z i ≡ false) d.of_admin posted.no_post),
                  (admin_picked rules past sound.effects i (subst (λ (z : ℕ). is_waiting (fate_of past z i) ≡ false) d.of_admin posted.served), success),
                  turns,
                ))
          ]
