-- Of the pending admin commands one alone turns a completion queue, and it is the one that isn't answered of those that were fetched.
use Rattle.std.proofs.Common.{◌≡◌, ℕ, ◌+◌, ◌%◌, ◌<◌, ◌==◌, ◌&&◌, Bool, true, false, if◌then◌else◌, List, [], ◌∷◌, ◌++◌, length, Option, Some, None, refl, sym, ap, ◌∙◌, subst, arith, ◌⊎◌, inl, inr, eq-eqb, eqb-true}
use Rattle.std.specs.Prelude.{slice_get}
use Rattle.std.proofs.lemmas.Bool.{cases_eq, ne_eqb, or_parts, or_cases, and_parts, and_from, false_from_ne_true}
use Rattle.std.proofs.lemmas.List.{length_push}
use Rattle.std.proofs.lemmas.Option.{none-some, same_Some, slice_get_within}
use Rattle.nvme_entry.specs.AdminCommand.{admin_command_of}
use Rattle.nvme_entry.specs.declared.submission.Sqe.{Sqe}
use Rattle.nvme_entry.specs.declared.completion.Cqe.{Cqe}
use Rattle.nvme_entry.specs.declared.admin.AdminCommand.{AdminCommand}
use Rattle.nvme_entry.specs.declared.admin.AdminCommand.TheVariants.{Other}
use Rattle.nvme_log.specs.declared.event.Event.TheVariants.{Fetch, Post}
use Rattle.nvme_log.specs.Rules.{FrontRules, Past}
use Rattle.nvme_log.specs.Queues.{qid_of_region, cq_region_of}
use Rattle.nvme_log.specs.Places.{fetched, entry_at}
use Rattle.nvme_log.specs.Completions.{is_posted, posted_to}
use Rattle.nvme_log.proofs.AbortAnswers.{entry-stays}
use Rattle.nvme_ctrl_log.specs.Notes.{Notes, Logged, Tail, Head, EachNote, logged}
use Rattle.nvme_ctrl_log.specs.Doorbells.{sq_slots, cq_slots}
use Rattle.nvme_ctrl_log.specs.Account.{IsLawful}
use Rattle.nvme_audit.specs.Lives as lives
use Rattle.nvme_audit.specs.Lives.{asked}
use Rattle.nvme_audit.specs.Queues.{turns_cq}
use Rattle.nvme_audit.specs.Turns.{answered_by, answered, cq_asks, cq_replies}
use Rattle.nvme_own_log.specs.Shown.{cqid_of_region, completion_of, shown, tail_of, head_of, fetch_of, post_of}
use Rattle.nvme_own_log.specs.Duties.{IsFreeName, NamesAreFree, TurnsCqAlone, TurnsCqsAlone}
use Rattle.nvme_own_log.proofs.AdminQueues.{AdminAt, admin_asks, admin_agrees, effects_of}
use Rattle.nvme_own_log.proofs.Agreeing.{get_push}
use Rattle.nvme_own_log.proofs.Answered.{IsPosted, posted_so}
use Rattle.nvme_own_log.proofs.EachEvent.{free_before}
use Rattle.nvme_own_log.proofs.OwnRegions.{admin_qid, admin_region, admin_posts_to, admin_cqid}
use Rattle.nvme_own_log.proofs.Phases.{IsPending}

get_last : (xs : List Sqe) (y : Sqe) → slice_get (xs ++ y ∷ []) (length xs) ≡ Some y
get_last [] y = refl
get_last (x ∷ xs) y = get_last xs y

module _ (rules : FrontRules) where
  abbrev pub AreCqsAlone : Past → Type 0
  AreCqsAlone past = (q k j : ℕ) (one other : Sqe) → IsPending rules past k one → IsPending rules past j other → turns_cq (admin_command_of one) q ≡ true → turns_cq (admin_command_of other) q ≡ true → k ≡ j

  module _ (notes : Notes) (h : EachNote (IsLawful rules) notes) (admin : AdminAt rules notes) (earlier : AreCqsAlone (logged notes)) (s i : ℕ) (entry : Sqe) where
    abbrev past : Past
    past = logged notes

    pub earlier_io : (s ≡ 0 → ⊥) → (k : ℕ) (e : Sqe) → IsPending rules (Fetch s i entry ∷ past) k e → IsPending rules past k e
    earlier_io io k e p = (subst (λ (b : Bool). slice_get (if b then fetched past 0 ++ entry ∷ [] else fetched past 0) k ≡ Some e) (ne_eqb s 0 io) p.0, p.1)

    parts : s ≡ 0 → (k : ℕ) (e : Sqe) → IsPending rules (Fetch s i entry ∷ past) k e → IsPending rules past k e ⊎ ((k ≡ length (fetched past 0)) × (entry ≡ e))
    parts z k e p = elim (get_push (fetched past 0) entry k e (subst (λ (b : Bool). slice_get (if b then fetched past 0 ++ entry ∷ [] else fetched past 0) k ≡ Some e) (eq-eqb s 0 z) p.0)) [
      | inl old ↦ inl (old, p.1)
      | inr last ↦ inr last
    ]

    -- the command that is fetched turns no completion queue that a pending one turns
    refused : TurnsCqsAlone (shown rules (Logged (Fetch s i entry) ∷ notes)) → s ≡ 0 → (k : ℕ) (e : Sqe) → IsPending rules past k e → (q : ℕ) → turns_cq (admin_command_of entry) q ≡ true → turns_cq (admin_command_of e) q ≡ true → ⊥
    refused duties z k e p q new old =
        let own : qid_of_region past s ≡ Some 0 = ap (qid_of_region past) z ∙ admin_qid rules past (effects_of rules notes h) in
        let duty = subst (λ (o : Option ℕ). TurnsCqsAlone (fetch_of o (i % sq_slots rules s) entry (shown rules notes))) own duties in
        duty.0 refl e.cid (admin_command_of e) (admin_asks rules notes admin k e p.0 p.1) q new old

    at_fetch : TurnsCqsAlone (shown rules (Logged (Fetch s i entry) ∷ notes)) → AreCqsAlone (Fetch s i entry ∷ past)
    at_fetch duties q k j one other p o turns turns_too = elim (cases_eq s 0) [
      | inr io ↦ earlier q k j one other (earlier_io io k one p) (earlier_io io j other o) turns turns_too
      | inl z ↦ elim (parts z k one p) [
        | inl pk ↦ elim (parts z j other o) [
          | inl oj ↦ earlier q k j one other pk oj turns turns_too
          | inr new ↦ absurd (refused duties z k one pk q (ap (λ (x : Sqe). turns_cq (admin_command_of x) q) new.1 ∙ turns_too) turns)
        ]
        | inr mine ↦ elim (parts z j other o) [
          | inl oj ↦ absurd (refused duties z j other oj q (ap (λ (x : Sqe). turns_cq (admin_command_of x) q) mine.1 ∙ turns) turns_too)
          | inr new ↦ mine.0 ∙ sym new.0
        ]
      ]
    ]

  pub cqs_alone : (notes : Notes) → EachNote (IsLawful rules) notes → NamesAreFree (shown rules notes) → TurnsCqsAlone (shown rules notes) → AreCqsAlone (logged notes)
  cqs_alone [] h free duties = λ q k j one other p o turns turns_too. absurd (none-some one p.0)
  cqs_alone (Logged (Fetch s i entry) ∷ notes) h free duties =
      let named = free_before rules IsFreeName (Logged (Fetch s i entry)) notes free in
      at_fetch notes h.1 (admin_agrees rules notes h.1 named) (cqs_alone notes h.1 named (free_before rules TurnsCqAlone (Logged (Fetch s i entry)) notes duties)) s i entry duties
  cqs_alone (Logged (Post c s i cqe) ∷ notes) h free duties = λ q k j one other p o turns turns_too.
      cqs_alone notes h.1 (free_before rules IsFreeName (Logged (Post c s i cqe)) notes free) (free_before rules TurnsCqAlone (Logged (Post c s i cqe)) notes duties) q k j one other
      (p.0, (or_parts (s == 0 && i == k) (is_posted (logged notes) 0 k) p.1).1) (o.0, (or_parts (s == 0 && i == j) (is_posted (logged notes) 0 j) o.1).1) turns turns_too
  cqs_alone (Logged e ∷ notes) h free duties = cqs_alone notes h.1 free duties
  cqs_alone (note ∷ notes) h free duties = cqs_alone notes h.1 (free_before rules IsFreeName note notes free) (free_before rules TurnsCqAlone note notes duties)

  -- ---- counts
  -- only what was fetched is posted
  posted_fetched : (notes : Notes) → EachNote (IsLawful rules) notes → (k : ℕ) → is_posted (logged notes) 0 k ≡ true → k < length (fetched (logged notes) 0)
  posted_fetched [] h k p = cc p
  posted_fetched (Logged (Post c s i cqe) ∷ notes) h k p = elim (or_cases (s == 0 && i == k) (is_posted (logged notes) 0 k) p) [
    | inl here ↦
        let both = and_parts (s == 0) (i == k) here in
        let posted : IsPosted rules notes c s i cqe = posted_so rules notes c s i cqe h.1 h.0.posts_own in
        subst (λ (z : ℕ). z < length (fetched (logged notes) 0)) (eqb-true i k both.1)
        (slice_get_within (fetched (logged notes) 0) i posted.entry (subst (λ (z : ℕ). entry_at (logged notes) z i ≡ Some posted.entry) (eqb-true s 0 both.0) posted.is_there))
    | inr earlier ↦ posted_fetched notes h.1 k earlier
  ]
  posted_fetched (Logged (Fetch s i entry) ∷ notes) h k p = by (s == 0) (posted_fetched notes h.1 k p) where
    by : (b : Bool) → k < length (fetched (logged notes) 0) → k < length (if b then fetched (logged notes) 0 ++ entry ∷ [] else fetched (logged notes) 0)
    by true few = omega (arith, few, length_push (fetched (logged notes) 0) entry)
    by false few = few
  posted_fetched (Logged e ∷ notes) h k p = posted_fetched notes h.1 k p
  posted_fetched (note ∷ notes) h k p = posted_fetched notes h.1 k p

  -- of the commands that turn a completion queue all were answered, or all but the one that is pending
  abbrev NonePending : Past → ℕ → Type 0
  NonePending past q = (k : ℕ) (e : Sqe) → IsPending rules past k e → turns_cq (admin_command_of e) q ≡ true → ⊥

  abbrev OnePending : Past → ℕ → Type 0
  OnePending past q = (k : ℕ) × (e : Sqe) × IsPending rules past k e × (turns_cq (admin_command_of e) q ≡ true)

  abbrev Balance : Past → lives.Past → ℕ → Type 0
  Balance past log q = (NonePending past q × (cq_replies log q ≡ cq_asks log q)) ⊎ (OnePending past q × (cq_replies log q + 1 ≡ cq_asks log q))

  module _ (notes : Notes) (h : EachNote (IsLawful rules) notes) (admin : AdminAt rules notes) (alone : AreCqsAlone (logged notes)) (q : ℕ) where
    abbrev before : Past
    before = logged notes

    abbrev log : lives.Past
    log = shown rules notes

    -- a command is fetched
    fetch_balance : (s i : ℕ) (entry : Sqe) → AreCqsAlone (Fetch s i entry ∷ before) → Balance before log q → Balance (Fetch s i entry ∷ before) (shown rules (Logged (Fetch s i entry) ∷ notes)) q
    fetch_balance s i entry later b = elim (cases_eq s 0) [ inl z ↦ of_admin z | inr io ↦ of_io io (qid_of_region before s) refl b ] where
      stays : (k : ℕ) (e : Sqe) → IsPending rules before k e → IsPending rules (Fetch s i entry ∷ before) k e
      stays k e p = (by (s == 0), p.1) where
        by : (t : Bool) → slice_get (if t then fetched before 0 ++ entry ∷ [] else fetched before 0) k ≡ Some e
        by true = entry-stays (fetched before 0) (entry ∷ []) k e p.0
        by false = p.0

      no_ask : (s ≡ 0 → ⊥) → (p : ℕ) → qid_of_region before s ≡ Some p → (p == 0) ≡ false
      no_ask io p own = ne_eqb p 0 (λ z. io (admin_region rules before (effects_of rules notes h) s (own ∙ ap (λ (k : ℕ). Some k) z)))

      of_io : (s ≡ 0 → ⊥) → (o : Option ℕ) → qid_of_region before s ≡ o → Balance before log q → Balance (Fetch s i entry ∷ before) (fetch_of o (i % sq_slots rules s) entry log) q
      of_io io None own (inl x) = inl ((λ k e p. x.0 k e (earlier_io notes h admin alone s i entry io k e p)), x.1)
      of_io io None own (inr x) = inr ((x.0.0, x.0.1, stays x.0.0 x.0.1 x.0.2, x.0.3), x.1)
      of_io io (Some p) own (inl x) = inl ((λ k e y. x.0 k e (earlier_io notes h admin alone s i entry io k e y)), rw (no_ask io p own) x.1)
      of_io io (Some p) own (inr x) = inr ((x.0.0, x.0.1, stays x.0.0 x.0.1 x.0.2, x.0.3), rw (no_ask io p own) x.1)

      last : ℕ
      last = length (fetched before 0)

      not_yet : (k : ℕ) (e : Sqe) → IsPending rules before k e → k ≡ length (fetched before 0) → ⊥
      not_yet k e p same = absurd (let within : k < length (fetched before 0) = slice_get_within (fetched before 0) k e p.0 in omega (arith, same, within))

      of_admin : s ≡ 0 → Balance (Fetch s i entry ∷ before) (shown rules (Logged (Fetch s i entry) ∷ notes)) q
      of_admin z =
          subst (λ (o : Option ℕ). Balance (Fetch s i entry ∷ before) (fetch_of o (i % sq_slots rules s) entry log) q) (sym (ap (qid_of_region before) z ∙ admin_qid rules before (effects_of rules notes h)))
          (by (turns_cq (admin_command_of entry) q) refl b) where
            at_end : IsPending rules (Fetch s i entry ∷ before) (length (fetched before 0)) entry
            at_end = (
              rw (eq-eqb s 0 z) (get_last (fetched before 0) entry),
              false_from_ne_true (is_posted before 0 (length (fetched before 0))) (λ p. let few = posted_fetched notes h (length (fetched before 0)) p in absurd (omega (arith, few))),
            )

            by : (t : Bool) → turns_cq (admin_command_of entry) q ≡ t → Balance before log q → Balance (Fetch s i entry ∷ before) (fetch_of (Some 0) (i % sq_slots rules s) entry log) q
            by true e (inl x) = inr ((length (fetched before 0), entry, at_end, e), rw e (ap (λ (n : ℕ). n + 1) x.1))
            by true e (inr x) = absurd (not_yet x.0.0 x.0.1 x.0.2 (later q x.0.0 (length (fetched before 0)) x.0.1 entry (stays x.0.0 x.0.1 x.0.2) at_end x.0.3 e))
            by false e (inl x) = inl (
              (λ k y p turns. elim (parts notes h admin alone s i entry z k y p) [
                | inl old ↦ x.0 k y old turns
                | inr new ↦ (let turned = ap (λ (w : Sqe). turns_cq (admin_command_of w) q) new.1 ∙ turns in cc (turned, e))
              ]),
              rw e x.1,
            )
            by false e (inr x) = inr ((x.0.0, x.0.1, stays x.0.0 x.0.1 x.0.2, x.0.3), rw e x.1)

    -- a completion is posted
    post_balance : (c s i : ℕ) (cqe : Cqe) → IsPosted rules notes c s i cqe → Balance before log q → Balance (Post c s i cqe ∷ before) (shown rules (Logged (Post c s i cqe) ∷ notes)) q
    post_balance c s i cqe posted b = elim (cases_eq s 0) [ inl z ↦ of_admin z | inr io ↦ of_io io (cqid_of_region before c) b ] where
      earlier : (k : ℕ) (e : Sqe) → IsPending rules (Post c s i cqe ∷ before) k e → IsPending rules before k e
      earlier k e p = (p.0, (or_parts (s == 0 && i == k) (is_posted before 0 k) p.1).1)

      stays : (k : ℕ) (e : Sqe) → (s == 0 && i == k) ≡ false → IsPending rules before k e → IsPending rules (Post c s i cqe ∷ before) k e
      stays k e other p = (p.0, rw other p.1)

      none_answered : (s ≡ 0 → ⊥) → answered log (completion_of cqe) ≡ Other
      none_answered io = by (asked log 0 cqe.cid) where
        other : (cqe.sqid == 0) ≡ false
        other = ne_eqb cqe.sqid 0 (λ z. io (admin_region rules before (effects_of rules notes h) s (posted.sqid ∙ ap (λ (k : ℕ). Some k) z)))

        by : (o : Option AdminCommand) → answered_by o (completion_of cqe) ≡ Other
        by None = refl
        by (Some command) = rw other refl

      of_io : (s ≡ 0 → ⊥) → (o : Option ℕ) → Balance before log q → Balance (Post c s i cqe ∷ before) (post_of o (length (posted_to before c) % cq_slots rules c) cqe log) q
      of_io io None (inl x) = inl ((λ k e p. x.0 k e (earlier k e p)), x.1)
      of_io io None (inr x) = inr ((x.0.0, x.0.1, stays x.0.0 x.0.1 (ap (λ (t : Bool). t && i == x.0.0) (ne_eqb s 0 io)) x.0.2, x.0.3), x.1)
      of_io io (Some p) (inl x) = inl ((λ k e y. x.0 k e (earlier k e y)), rw (none_answered io) x.1)
      of_io io (Some p) (inr x) = inr ((x.0.0, x.0.1, stays x.0.0 x.0.1 (ap (λ (t : Bool). t && i == x.0.0) (ne_eqb s 0 io)) x.0.2, x.0.3), rw (none_answered io) x.1)

      of_admin : s ≡ 0 → Balance (Post c s i cqe ∷ before) (shown rules (Logged (Post c s i cqe) ∷ notes)) q
      of_admin z =
          subst (λ (o : Option ℕ). Balance (Post c s i cqe ∷ before) (post_of o (length (posted_to before c) % cq_slots rules c) cqe log) q) (sym into)
          (by (turns_cq (admin_command_of posted.entry) q) refl b) where
            into : cqid_of_region before c ≡ Some 0
            into = ap (cqid_of_region before) (same_Some c 0 (sym posted.region ∙ ap (cq_region_of before) z ∙ admin_posts_to rules before (effects_of rules notes h))) ∙ admin_cqid rules before (effects_of rules notes h)

            pending : IsPending rules before i posted.entry
            pending = (subst (λ (k : ℕ). entry_at before k i ≡ Some posted.entry) z posted.is_there, subst (λ (k : ℕ). is_posted before k i ≡ false) z posted.no_post)

            command : answered log (completion_of cqe) ≡ admin_command_of posted.entry
            command =
                ap (λ (o : Option AdminCommand). answered_by o (completion_of cqe)) (ap (λ (k : ℕ). asked log 0 k) posted.cid ∙ admin_asks rules notes admin i posted.entry pending.0 pending.1)
                ∙ rw (eq-eqb cqe.sqid 0 (same_Some cqe.sqid 0 (sym posted.sqid ∙ ap (qid_of_region before) z ∙ admin_qid rules before (effects_of rules notes h)))) refl

            turned : (t : Bool) → turns_cq (admin_command_of posted.entry) q ≡ t → turns_cq (answered log (completion_of cqe)) q ≡ t
            turned t e = ap (λ (a : AdminCommand). turns_cq a q) command ∙ e

            here : (k : ℕ) → i ≡ k → (s == 0 && i == k) ≡ true
            here k same = and_from (s == 0) (i == k) (eq-eqb s 0 z) (eq-eqb i k same)

            by : (t : Bool) → turns_cq (admin_command_of posted.entry) q ≡ t → Balance before log q → Balance (Post c s i cqe ∷ before) (post_of (Some 0) (length (posted_to before c) % cq_slots rules c) cqe log) q
            by true e (inl x) = absurd (x.0 i posted.entry pending e)
            by true e (inr x) = inl (
              (λ k y p turns. let now = here k (alone q i k posted.entry y pending (earlier k y p) e turns) in
                  let not_now = (or_parts (s == 0 && i == k) (is_posted before 0 k) p.1).0 in
                  cc (now, not_now)),
              rw (turned true e) x.1,
            )
            by false e (inl x) = inl ((λ k y p. x.0 k y (earlier k y p)), rw (turned false e) x.1)
            by false e (inr x) = inr (
              (
                x.0.0,
                x.0.1,
                stays x.0.0 x.0.1 (false_from_ne_true (s == 0 && i == x.0.0) (λ now.
                    let same : i ≡ x.0.0 = eqb-true i x.0.0 (and_parts (s == 0) (i == x.0.0) now).1 in
                    let entry : posted.entry ≡ x.0.1 = same_Some posted.entry x.0.1 (sym pending.0 ∙ ap (entry_at before 0) same ∙ x.0.2.0) in
                    let turns : turns_cq (admin_command_of posted.entry) q ≡ true = ap (λ (w : Sqe). turns_cq (admin_command_of w) q) entry ∙ x.0.3 in
                    cc (turns, e))) x.0.2,
                x.0.3,
              ),
              rw (turned false e) x.1,
            )

  balance : (notes : Notes) → EachNote (IsLawful rules) notes → NamesAreFree (shown rules notes) → TurnsCqsAlone (shown rules notes) → (q : ℕ) → Balance (logged notes) (shown rules notes) q
  balance [] h free duties q = inl ((λ k e p turns. none-some e p.0), refl)
  balance (Logged (Fetch s i entry) ∷ notes) h free duties q =
      let named = free_before rules IsFreeName (Logged (Fetch s i entry)) notes free in
      let kept = free_before rules TurnsCqAlone (Logged (Fetch s i entry)) notes duties in
      fetch_balance notes h.1 (admin_agrees rules notes h.1 named) (cqs_alone notes h.1 named kept) q s i entry (cqs_alone (Logged (Fetch s i entry) ∷ notes) h free duties) (balance notes h.1 named kept q)
  balance (Logged (Post c s i cqe) ∷ notes) h free duties q =
      let named = free_before rules IsFreeName (Logged (Post c s i cqe)) notes free in
      let kept = free_before rules TurnsCqAlone (Logged (Post c s i cqe)) notes duties in
      post_balance notes h.1 (admin_agrees rules notes h.1 named) (cqs_alone notes h.1 named kept) q c s i cqe (posted_so rules notes c s i cqe h.1 h.0.posts_own) (balance notes h.1 named kept q)
  balance (Tail s slot ∷ notes) h free duties q =
      by (qid_of_region (logged notes) s) (balance notes h.1 (free_before rules IsFreeName (Tail s slot) notes free) (free_before rules TurnsCqAlone (Tail s slot) notes duties) q) where
        by : (o : Option ℕ) → Balance (logged notes) (shown rules notes) q → Balance (logged notes) (tail_of o slot (shown rules notes)) q
        by None b = b
        by (Some p) b = b
  balance (Head c slot ∷ notes) h free duties q =
      by (cqid_of_region (logged notes) c) (balance notes h.1 (free_before rules IsFreeName (Head c slot) notes free) (free_before rules TurnsCqAlone (Head c slot) notes duties) q) where
        by : (o : Option ℕ) → Balance (logged notes) (shown rules notes) q → Balance (logged notes) (head_of o slot (shown rules notes)) q
        by None b = b
        by (Some p) b = b
  balance (Logged e ∷ notes) h free duties q = balance notes h.1 free duties q
  balance (note ∷ notes) h free duties q = balance notes h.1 free duties q

  -- so while one is pending, fewer were answered than fetched
  pub fewer_replies : (notes : Notes) → EachNote (IsLawful rules) notes → NamesAreFree (shown rules notes) → TurnsCqsAlone (shown rules notes) → (q k : ℕ) (e : Sqe) → IsPending rules (logged notes) k e
      → turns_cq (admin_command_of e) q ≡ true → cq_replies (shown rules notes) q < cq_asks (shown rules notes) q
  fewer_replies notes h free duties q k e p turns = elim (balance notes h free duties q) [
    | inl x ↦ absurd (x.0 k e p turns)
    | inr x ↦ omega (arith, x.1)
  ]
