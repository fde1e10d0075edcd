-- How many admin commands of a kind were fetched, and how many were answered: those that are pending lie between.
use Rattle.std.proofs.Common.{◌≡◌, ℕ, zero, suc, ◌+◌, ◌%◌, ◌<◌, ◌≤◌, ◌==◌, ◌&&◌, ◌||◌, Bool, true, false, not, if◌then◌else◌, List, [], ◌∷◌, ◌++◌, length, Option, Some, None, refl, sym, ap, ◌∙◌, subst, arith, inl, inr, eqb-true}
use Rattle.std.specs.Prelude.{slice_get}
use Rattle.std.proofs.lemmas.Bool.{cases_eq, eq-eqb, ne_eqb, or_cases, and_parts, false_from_ne_true}
use Rattle.std.proofs.lemmas.Option.{same_Some, slice_get_within}
use Rattle.std.proofs.lemmas.List.{length_push}
use Rattle.nvme_entry.specs.AdminCommand.{admin_command_of}
use Rattle.nvme_entry.specs.declared.submission.Sqe.{Sqe}
use Rattle.nvme_entry.specs.declared.completion.Cqe.{Cqe}
use Rattle.nvme_entry.specs.declared.admin.AdminCommand.{AdminCommand}
use Rattle.nvme_entry.specs.declared.admin.AdminCommand.TheVariants.{Other}
use Rattle.nvme_log.specs.declared.event.Event.TheVariants.{Fetch, Post}
use Rattle.nvme_log.specs.Rules.{FrontRules, Past, Each, upto}
use Rattle.nvme_log.specs.Queues.{qid_of_region, cq_region_of}
use Rattle.nvme_log.specs.Places.{fetched, entry_at, one_if}
use Rattle.nvme_log.specs.Completions.{is_posted, posted_to}
use Rattle.nvme_log.specs.Effects.{EffectsAtOnce}
use Rattle.nvme_log.specs.Laws.{count_of}
use Rattle.nvme_log.proofs.AbortAnswers.{entry-stays}
use Rattle.nvme_log.proofs.Counting.{count_of-push, counts_below, counts_change, counts_same}
use Rattle.nvme_ctrl_log.specs.Notes.{Notes, Logged, Tail, Head, EachNote, logged}
use Rattle.nvme_ctrl_log.specs.Doorbells.{sq_slots, cq_slots}
use Rattle.nvme_ctrl_log.specs.Account.{IsLawful}
use Rattle.nvme_audit.specs.Lives as lives
use Rattle.nvme_audit.specs.Lives.{asked}
use Rattle.nvme_audit.specs.Turns.{answered_by, asks_of, replies_of}
use Rattle.nvme_own_log.specs.Shown.{cqid_of_region, completion_of, tail_of, head_of, fetch_of, post_of, shown}
use Rattle.nvme_own_log.proofs.AdminQueues.{admin_asks, effects_of}
use Rattle.nvme_own_log.proofs.Answered.{IsPosted, posted_so}
use Rattle.nvme_own_log.proofs.OwnRegions.{admin_qid, admin_region, admin_posts_to, admin_cqid}
use Rattle.nvme_own_log.proofs.Phases.{IsPending}
use Rattle.nvme_own_statuses.proofs.Standing.{Stands, stands_before, admin_at}

-- what stands below the length of a list
pub at_below : (xs : List Sqe) (k : ℕ) → k < length xs → (entry : Sqe) × (slice_get xs k ≡ Some entry)
at_below [] k lt = absurd (omega (arith, lt))
at_below (x ∷ xs) zero lt = (x, refl)
at_below (x ∷ xs) (suc k) lt = at_below xs k (omega (arith, lt))

get_last : (xs : List Sqe) (y : Sqe) → slice_get (xs ++ y ∷ []) (length xs) ≡ Some y
get_last [] y = refl
get_last (x ∷ xs) y = get_last xs y

-- a number below n that passes is counted
pub counts_one : (t : ℕ → Bool) (k n : ℕ) → k < n → t k ≡ true → 1 ≤ count_of t (upto n)
counts_one t k zero lt h = absurd (omega (arith, lt))
counts_one t k (suc n) lt h = elim (cases_eq k n) [
  | inl same ↦ (let here : one_if (t n) ≡ 1 = ap (λ (z : ℕ). one_if (t z)) (sym same) ∙ ap one_if h in omega (arith, here, count_of-push t (upto n) n))
  | inr other ↦ (let rest = counts_one t k n (omega (arith, lt, other)) h in omega (arith, rest, count_of-push t (upto n) n))
]

module _ (rules : FrontRules) where
  -- only fetched commands are posted
  pub posted_fetched : (notes : Notes) → EachNote (IsLawful rules) notes → (r k : ℕ) → is_posted (logged notes) r k ≡ true → k < length (fetched (logged notes) r)
  posted_fetched [] h r k p = cc p
  posted_fetched (Logged (Post c s j cqe) ∷ notes) h r k p = elim (or_cases (s == r && j == k) (is_posted (logged notes) r k) p) [
    | inl here ↦
        let parts = and_parts (s == r) (j == k) here in
        let posted : IsPosted rules notes c s j cqe = posted_so rules notes c s j cqe h.1 h.0.posts_own in
        slice_get_within (fetched (logged notes) r) k posted.entry
        (subst (λ (z : ℕ). entry_at (logged notes) z k ≡ Some posted.entry) (eqb-true s r parts.0) (subst (λ (z : ℕ). entry_at (logged notes) s z ≡ Some posted.entry) (eqb-true j k parts.1) posted.is_there))
    | inr earlier ↦ posted_fetched notes h.1 r k earlier
  ]
  posted_fetched (Logged (Fetch s j entry) ∷ notes) h r k p = by (s == r) (posted_fetched notes h.1 r k p) where
    by : (b : Bool) → k < length (fetched (logged notes) r) → k < length (if b then fetched (logged notes) r ++ entry ∷ [] else fetched (logged notes) r)
    by true lt = omega (arith, lt, length_push (fetched (logged notes) r) entry)
    by false lt = lt
  posted_fetched (Logged e ∷ notes) h r k p = posted_fetched notes h.1 r k p
  posted_fetched (note ∷ notes) h r k p = posted_fetched notes h.1 r k p

  -- ---- admin commands of a kind
  module _ (kind : AdminCommand → Bool) (no_other : kind Other ≡ false) where
    abbrev is_kind : Option Sqe → Bool
    is_kind None = false
    is_kind (Some entry) = kind (admin_command_of entry)

    -- fetched, and its completion isn't posted
    abbrev is_pending : Past → ℕ → Bool
    is_pending past k = not (is_posted past 0 k) && is_kind (entry_at past 0 k)

    abbrev pendings : Past → ℕ
    pendings past = count_of (is_pending past) (upto (length (fetched past 0)))

    more_if : (b : Bool) (n : ℕ) → (if b then n + 1 else n) ≡ n + one_if b
    more_if true n = omega arith
    more_if false n = omega arith

    other_answered : (o : Option AdminCommand) (cqe : Cqe) → (cqe.sqid ≡ 0 → ⊥) → kind (answered_by o (completion_of cqe)) ≡ false
    other_answered None cqe io = no_other
    other_answered (Some command) cqe io = rw (ne_eqb cqe.sqid 0 io) no_other

    module _ (notes : Notes) (s : Stands rules notes) where
      abbrev past : Past
      past = logged notes

      effects : Each (EffectsAtOnce rules) past
      effects = effects_of rules notes s.each

      abbrev log : lives.Past
      log = shown rules notes

      -- a fetch
      fetch_own : (entry : Sqe) (more : List Sqe) → more ≡ fetched past 0 ++ entry ∷ [] → count_of (λ (k : ℕ). not (is_posted past 0 k) && is_kind (slice_get more k)) (upto (length more)) ≡ pendings past + one_if (kind (admin_command_of entry))
      fetch_own entry more is =
          let n : ℕ = length (fetched past 0) in
          let long : length more ≡ suc n = ap length is ∙ length_push (fetched past 0) entry ∙ omega arith in
          let after : ℕ → Bool = λ (k : ℕ). not (is_posted past 0 k) && is_kind (slice_get more k) in
          let fresh : is_posted past 0 n ≡ false = false_from_ne_true (is_posted past 0 n) (λ p. let lt = posted_fetched notes s.each 0 n p in absurd (omega (arith, lt))) in
          let last : after n ≡ kind (admin_command_of entry) = rw fresh (ap (λ (xs : List Sqe). is_kind (slice_get xs n)) is ∙ ap is_kind (get_last (fetched past 0) entry)) in
          let below : count_of after (upto n) ≡ pendings past = counts_below (is_pending past) after n (λ k lt.
          let x = at_below (fetched past 0) k lt in
          let same : slice_get more k ≡ slice_get (fetched past 0) k = ap (λ (xs : List Sqe). slice_get xs k) is ∙ entry-stays (fetched past 0) (entry ∷ []) k x.0 x.1 ∙ sym x.1 in
          ap (λ (o : Option Sqe). not (is_posted past 0 k) && is_kind o) same) in
          ap (λ (m : ℕ). count_of after (upto m)) long ∙ count_of-push after (upto n) n ∙ (λ t. below t + one_if (last t))

      counted_fetch : (r j : ℕ) (entry : Sqe) → asks_of kind log ≡ replies_of kind log + pendings past
          → asks_of kind (fetch_of (qid_of_region past r) (j % sq_slots rules r) entry log) ≡ replies_of kind (fetch_of (qid_of_region past r) (j % sq_slots rules r) entry log) + pendings (Fetch r j entry ∷ past)
      counted_fetch r j entry h = elim (cases_eq r 0) [
        | inl z ↦
            let own : qid_of_region past r ≡ Some 0 = ap (qid_of_region past) z ∙ admin_qid rules past effects in
            let more : List Sqe = if r == 0 then fetched past 0 ++ entry ∷ [] else fetched past 0 in
            let now = fetch_own entry more (rw (eq-eqb r 0 z) refl) in
            subst (λ (o : Option ℕ). asks_of kind (fetch_of o (j % sq_slots rules r) entry log) ≡ replies_of kind (fetch_of o (j % sq_slots rules r) entry log) + pendings (Fetch r j entry ∷ past)) (sym own)
            (omega (arith, h, now, more_if (kind (admin_command_of entry)) (asks_of kind log)))
        | inr io ↦ by io (qid_of_region past r) refl
      ] where
        kept : (r ≡ 0 → ⊥) → pendings (Fetch r j entry ∷ past) ≡ pendings past
        kept io =
            ap (λ (b : Bool). count_of (λ (k : ℕ). not (is_posted past 0 k) && is_kind (slice_get (if b then fetched past 0 ++ entry ∷ [] else fetched past 0) k)) (upto (length (if b then fetched past 0 ++ entry ∷ [] else fetched past 0))))
            (ne_eqb r 0 io)

        by : (r ≡ 0 → ⊥) → (o : Option ℕ) → qid_of_region past r ≡ o
            → asks_of kind (fetch_of o (j % sq_slots rules r) entry log) ≡ replies_of kind (fetch_of o (j % sq_slots rules r) entry log) + pendings (Fetch r j entry ∷ past)
        by io None is = omega (arith, h, kept io)
        by io (Some p) is =
            let other : p ≡ 0 → ⊥ = λ same. io (admin_region rules past effects r (is ∙ ap (λ (q : ℕ). Some q) same)) in
            rw (ne_eqb p 0 other, no_other) (omega (arith, h, kept io))

      counted_post : (c r j : ℕ) (cqe : Cqe) → IsLawful rules notes (Logged (Post c r j cqe)) → asks_of kind log ≡ replies_of kind log + pendings past
          → asks_of kind (post_of (cqid_of_region past c) (length (posted_to past c) % cq_slots rules c) cqe log) ≡ replies_of kind (post_of (cqid_of_region past c) (length (posted_to past c) % cq_slots rules c) cqe log) + pendings (Post c r j cqe ∷ past)
      counted_post c r j cqe it h = elim (cases_eq r 0) [
        | inl z ↦ own z (posted_so rules notes c r j cqe s.each it.posts_own)
        | inr io ↦ by io (cqid_of_region past c)
      ] where
        posted : IsPosted rules notes c r j cqe
        posted = posted_so rules notes c r j cqe s.each it.posts_own

        own : r ≡ 0 → IsPosted rules notes c r j cqe
            → asks_of kind (post_of (cqid_of_region past c) (length (posted_to past c) % cq_slots rules c) cqe log) ≡ replies_of kind (post_of (cqid_of_region past c) (length (posted_to past c) % cq_slots rules c) cqe log) + pendings (Post c r j cqe ∷ past)
        own z p =
            let there : entry_at past 0 j ≡ Some p.entry = subst (λ (k : ℕ). entry_at past k j ≡ Some p.entry) z p.is_there in
            let fresh : is_posted past 0 j ≡ false = subst (λ (k : ℕ). is_posted past k j ≡ false) z p.no_post in
            let into : cqid_of_region past c ≡ Some 0 =
            ap (cqid_of_region past) (same_Some c 0 (sym p.region ∙ ap (cq_region_of past) z ∙ admin_posts_to rules past effects)) ∙ admin_cqid rules past effects in
            let sqid : cqe.sqid ≡ 0 = same_Some cqe.sqid 0 (sym p.sqid ∙ ap (qid_of_region past) z ∙ admin_qid rules past effects) in
            let asks : asked log 0 cqe.cid ≡ Some (admin_command_of p.entry) = ap (λ (k : ℕ). asked log 0 k) p.cid ∙ admin_asks rules notes (admin_at rules notes s) j p.entry there fresh in
            let answered : answered_by (asked log 0 cqe.cid) (completion_of cqe) ≡ admin_command_of p.entry = ap (λ (o : Option AdminCommand). answered_by o (completion_of cqe)) asks ∙ rw (eq-eqb cqe.sqid 0 sqid) refl in
            let change = counts_change (is_pending past) (is_pending (Post c r j cqe ∷ past)) j (length (fetched past 0)) (slice_get_within (fetched past 0) j p.entry there)
            (λ k apart. ap (λ (b : Bool). not ((r == 0 && b) || is_posted past 0 k) && is_kind (entry_at past 0 k)) (ne_eqb j k apart) ∙ rw (and_none (r == 0)) refl) in
            let was : is_pending past j ≡ kind (admin_command_of p.entry) = rw (fresh, there) refl in
            let now : is_pending (Post c r j cqe ∷ past) j ≡ false = rw (eq-eqb r 0 z, eq-eqb j j refl) refl in
            let replied : (if kind (answered_by (asked log 0 cqe.cid) (completion_of cqe)) then replies_of kind log + 1 else replies_of kind log) ≡ replies_of kind log + one_if (kind (admin_command_of p.entry)) =
            ap (λ (a : AdminCommand). if kind a then replies_of kind log + 1 else replies_of kind log) answered ∙ more_if (kind (admin_command_of p.entry)) (replies_of kind log) in
            subst (λ (o : Option ℕ). asks_of kind (post_of o (length (posted_to past c) % cq_slots rules c) cqe log) ≡ replies_of kind (post_of o (length (posted_to past c) % cq_slots rules c) cqe log) + pendings (Post c r j cqe ∷ past)) (sym into)
            (omega (arith, h, change, ap one_if was, ap one_if now, replied)) where
              and_none : (b : Bool) → (b && false) ≡ false
              and_none true = refl
              and_none false = refl

        kept : (r ≡ 0 → ⊥) → pendings (Post c r j cqe ∷ past) ≡ pendings past
        kept io = counts_same (is_pending past) (is_pending (Post c r j cqe ∷ past)) (λ k. rw (ne_eqb r 0 io) refl) (upto (length (fetched past 0)))

        by : (r ≡ 0 → ⊥) → (o : Option ℕ)
            → asks_of kind (post_of o (length (posted_to past c) % cq_slots rules c) cqe log) ≡ replies_of kind (post_of o (length (posted_to past c) % cq_slots rules c) cqe log) + pendings (Post c r j cqe ∷ past)
        by io None = omega (arith, h, kept io)
        by io (Some q) =
            let other : cqe.sqid ≡ 0 → ⊥ = λ same. io (admin_region rules past effects r (posted.sqid ∙ ap (λ (k : ℕ). Some k) same)) in
            rw (other_answered (asked log 0 cqe.cid) cqe other) (omega (arith, h, kept io))

    counted : (notes : Notes) → Stands rules notes → asks_of kind (shown rules notes) ≡ replies_of kind (shown rules notes) + pendings (logged notes)
    counted [] s = refl
    counted (Tail r slot ∷ notes) s = by (qid_of_region (logged notes) r) (counted notes (stands_before rules (Tail r slot) notes s)) where
      by : (o : Option ℕ) → asks_of kind (shown rules notes) ≡ replies_of kind (shown rules notes) + pendings (logged notes)
          → asks_of kind (tail_of o slot (shown rules notes)) ≡ replies_of kind (tail_of o slot (shown rules notes)) + pendings (logged notes)
      by None h = h
      by (Some q) h = h
    counted (Head c slot ∷ notes) s = by (cqid_of_region (logged notes) c) (counted notes (stands_before rules (Head c slot) notes s)) where
      by : (o : Option ℕ) → asks_of kind (shown rules notes) ≡ replies_of kind (shown rules notes) + pendings (logged notes)
          → asks_of kind (head_of o slot (shown rules notes)) ≡ replies_of kind (head_of o slot (shown rules notes)) + pendings (logged notes)
      by None h = h
      by (Some q) h = h
    counted (Logged (Fetch r j entry) ∷ notes) s = let b = stands_before rules (Logged (Fetch r j entry)) notes s in counted_fetch notes b r j entry (counted notes b)
    counted (Logged (Post c r j cqe) ∷ notes) s = let b = stands_before rules (Logged (Post c r j cqe)) notes s in counted_post notes b c r j cqe s.each.0 (counted notes b)
    counted (Logged e ∷ notes) s = counted notes (stands_before rules (Logged e) notes s)
    counted (note ∷ notes) s = counted notes (stands_before rules note notes s)

    -- while one is pending, fewer were answered
    pub pending_counts : (notes : Notes) → Stands rules notes → (k : ℕ) (e : Sqe) → IsPending rules (logged notes) k e → kind (admin_command_of e) ≡ true → replies_of kind (shown rules notes) < asks_of kind (shown rules notes)
    pending_counts notes s k e p own =
        let one = counts_one (is_pending (logged notes)) k (length (fetched (logged notes) 0)) (slice_get_within (fetched (logged notes) 0) k e p.0) (rw (p.1, p.0) own) in
        omega (arith, counted notes s, one)

    -- no more are answered than were fetched
    pub few_answered : (notes : Notes) → Stands rules notes → replies_of kind (shown rules notes) ≤ asks_of kind (shown rules notes)
    few_answered notes s = omega (arith, counted notes s)
