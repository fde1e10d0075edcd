-- The regions of completion queues: each is opened once, and a submission region posts to that of the completion queue which its Create named.
use Rattle.std.proofs.Common.{◌≡◌, ℕ, ◌==◌, Bool, true, false, if◌then◌else◌, [], ◌∷◌, ◌++◌, Option, Some, None, refl, sym, ap, ◌∙◌, subst, inl, inr, eq-eqb}
use Rattle.std.proofs.lemmas.Bool.{or_right, or_left, ne_eqb, cases_eq}
use Rattle.std.proofs.lemmas.Option.{none-some, same_Some}
use Rattle.nvme_entry.specs.declared.submission.Sqe.{Sqe}
use Rattle.nvme_admin.specs.History.{TableHistory}
use Rattle.nvme_admin.specs.Accepted.{queue_table, verdict_of}
use Rattle.nvme_admin.specs.Changes.{IsDue, MayOpenCq}
use Rattle.nvme_admin.specs.declared.verdict.Verdict.{Verdict}
use Rattle.nvme_admin.specs.declared.verdict.Verdict.TheVariants as verdict
use Rattle.nvme_admin.proofs.Changed.{TellsChange-entry}
use Rattle.nvme_log.specs.declared.event.Event.{Event}
use Rattle.nvme_log.specs.declared.event.Event.TheVariants.{ClosedSq, OpenSq, OpenCq, ClosedCq}
use Rattle.nvme_log.specs.declared.event.Event.TheVariants as event
use Rattle.nvme_log.specs.Rules.{FrontRules, Past, Each}
use Rattle.nvme_log.specs.Queues.{Queue, admin_queue, open_sq, open_cq, qid_of_region, cq_region_of}
use Rattle.nvme_log.specs.Histories.{table_history, admin_entry, applied}
use Rattle.nvme_log.specs.Effects.{EffectsAtOnce}
use Rattle.nvme_log.proofs.LoadedRegions.{region-owned}
use Rattle.nvme_ctrl_log.proofs.QueueWords.{chosen}
use Rattle.nvme_ctrl_log.proofs.UsedCqRegions.{cq_used_after, cq_used-entry, cq_used-finished}
use Rattle.nvme_own_log.specs.Shown.{cqid_of_region}
use Rattle.nvme_own_log.proofs.OwnRegions.{cq_region_0-used}
use Rattle.nvme_own_log.proofs.PickEvents.{IsAtPick, at_open_cq}

-- the completion queue that the Create of a submission region's queue named
abbrev pub cqid_with : Past → ℕ → Option ℕ
cqid_with [] r = if r == 0 then Some 0 else None
cqid_with (OpenSq qid region cqid class ∷ past) r = if region == r then Some cqid else cqid_with past r
cqid_with (e ∷ past) r = cqid_with past r

-- what a Create, or the beginning, says of a region and of its queue
both_zero : (r x : ℕ) → if◌then◌else◌ {A = Option ℕ} (r == 0) (Some 0) None ≡ Some x → (r ≡ 0) × (x ≡ 0)
both_zero r x is = elim (chosen r 0 (Some 0) None x is) [
  | inl p ↦ (p.0, sym (same_Some 0 x p.1))
  | inr n ↦ absurd (none-some x n.1)
]

zero_both : (r x : ℕ) → r ≡ 0 → x ≡ 0 → if◌then◌else◌ {A = Option ℕ} (r == 0) (Some 0) None ≡ Some x
zero_both r x a b = rw (eq-eqb r 0 a) (ap (λ (k : ℕ). Some k) (sym b))

module _ (rules : FrontRules) where
  -- ---- used regions
  abbrev IsUsed : TableHistory → ℕ → Type 0
  IsUsed t c = (queue_table rules.start t).cq_region_used c ≡ true

  cq_stays : (v : Verdict) (before : ℕ → Bool) (c : ℕ) → before c ≡ true → cq_used_after v before c ≡ true
  cq_stays (verdict.OpenCq qid region) before c h = or_right (region == c) (before c) h
  cq_stays v before c h = h

  cq_used_event : (e : Event) (past : Past) (c : ℕ) → IsUsed (table_history rules past) c → IsUsed (table_history rules (e ∷ past)) c
  cq_used_event (event.Pick seen pick) past c h = by (pick.qid == 0) (admin_entry past) where
    by : (b : Bool) (o : Option Sqe) → IsUsed (if b then applied o ++ table_history rules past else table_history rules past) c
    by false o = h
    by true None = h
    by true (Some entry) = cq_used-entry rules.start (table_history rules past) entry c ∙ cq_stays (verdict_of rules.start (table_history rules past) entry) _ c h
  cq_used_event (ClosedSq qid region) past c h = cq_used-finished rules.start (table_history rules past) qid c ∙ h
  cq_used_event e past c h = h

  -- the region of a queue that was opened is used
  cq_used : (past : Past) → Each (EffectsAtOnce rules) past → (c q : ℕ) → cqid_of_region past c ≡ Some q → IsUsed (table_history rules past) c
  cq_used [] h c q is = subst (IsUsed rules.regions) (sym (both_zero c q is).0) (cq_region_0-used rules rules.regions)
  cq_used (OpenCq qid region ∷ past) h c q is = elim (chosen region c (Some qid) (cqid_of_region past c) q is) [
    | inl p ↦
        let it : IsAtPick rules past (verdict.OpenCq qid region) = at_open_cq rules past h.1 qid region h.0 in
        subst (λ (t : TableHistory). IsUsed t c) (sym it.history_is)
        (cq_used-entry rules.start (table_history rules it.before) it.entry c
        ∙ ap (λ (v : Verdict). cq_used_after v (queue_table rules.start (table_history rules it.before)).cq_region_used c) it.verdict_is
        ∙ or_left (region == c) _ (eq-eqb region c p.0))
    | inr n ↦ cq_used past h.1 c q n.1
  ]
  cq_used (event.Pick seen pick ∷ past) h c q is = cq_used_event (event.Pick seen pick) past c (cq_used past h.1 c q is)
  cq_used (ClosedSq qid region ∷ past) h c q is = cq_used_event (ClosedSq qid region) past c (cq_used past h.1 c q is)
  cq_used (e ∷ past) h c q is = cq_used past h.1 c q is

  -- the region of a queue that is opened is that of none
  pub cq_fresh : (past : Past) → Each (EffectsAtOnce rules) past → (qid region : ℕ) → EffectsAtOnce rules past (OpenCq qid region) → cqid_of_region past region ≡ None
  cq_fresh past h qid region it = by (cqid_of_region at.before region) refl where
    at : IsAtPick rules past (verdict.OpenCq qid region)
    at = at_open_cq rules past h qid region it

    due : MayOpenCq (queue_table rules.start (table_history rules at.before)) qid region
    due = subst (IsDue (queue_table rules.start (table_history rules at.before))) at.verdict_is (TellsChange-entry rules.start (table_history rules at.before) at.entry).due

    by : (o : Option ℕ) → cqid_of_region at.before region ≡ o → cqid_of_region past region ≡ None
    by None is = ap (λ (p : Past). cqid_of_region p region) at.stands ∙ is
    by (Some q) is = absurd (let yes = cq_used at.before at.whole region q is in let no : (queue_table rules.start (table_history rules at.before)).cq_region_used region ≡ false = due.unused in cc (yes, no))

  -- ---- owners
  -- the region of an open queue was opened for it
  pub cq_owned : (past : Past) → Each (EffectsAtOnce rules) past → (q c : ℕ) → open_cq past q ≡ Some c → cqid_of_region past c ≡ Some q
  cq_owned [] h q c is = let z = both_zero q c is in zero_both c q z.1 z.0
  cq_owned (OpenCq qid region ∷ past) h q c is = elim (chosen qid q (Some region) (open_cq past q) c is) [
    | inl p ↦ rw (eq-eqb region c (same_Some region c p.1)) (ap (λ (k : ℕ). Some k) p.0)
    | inr n ↦
        let before = cq_owned past h.1 q c n.1 in
        rw (ne_eqb region c (λ same. none-some q (sym (cq_fresh past h.1 qid region h.0) ∙ ap (cqid_of_region past) same ∙ before))) before
  ]
  cq_owned (ClosedCq qid region ∷ past) h q c is = elim (chosen qid q None (open_cq past q) c is) [
    | inl p ↦ absurd (none-some c p.1)
    | inr n ↦ cq_owned past h.1 q c n.1
  ]
  cq_owned (e ∷ past) h q c is = cq_owned past h.1 q c is

  -- the completion queue of an open submission queue is the one that its Create named
  pub region_with : (past : Past) → Each (EffectsAtOnce rules) past → (q : ℕ) (queue : Queue) → open_sq past q ≡ Some queue → cqid_with past queue.region ≡ Some queue.cqid
  region_with [] h q queue is = by (q == 0) is where
    by : (b : Bool) → if◌then◌else◌ {A = Option Queue} b (Some admin_queue) None ≡ Some queue → cqid_with [] queue.region ≡ Some queue.cqid
    by true k = let same : admin_queue ≡ queue = same_Some admin_queue queue k in subst (λ (x : Queue). cqid_with [] x.region ≡ Some x.cqid) same refl
    by false k = absurd (none-some queue k)
  region_with (OpenSq qid region cqid class ∷ past) h q queue is = by (qid == q) refl is (λ k. region_with past h.1 q queue k) where
    new : Queue
    new = record { region = region; cqid = cqid; class = class }

    owned : (if region == queue.region then Some qid else qid_of_region past queue.region) ≡ Some q
    owned = region-owned rules (OpenSq qid region cqid class ∷ past) h q queue is

    by : (b : Bool) → (qid == q) ≡ b → (if b then Some new else open_sq past q) ≡ Some queue → (open_sq past q ≡ Some queue → cqid_with past queue.region ≡ Some queue.cqid)
        → (if region == queue.region then Some cqid else cqid_with past queue.region) ≡ Some queue.cqid
    by true e k before =
        let same : new ≡ queue = same_Some new queue k in
        rw (eq-eqb region queue.region (ap (λ (x : Queue). x.region) same)) (ap (λ (x : Queue). Some x.cqid) same)
    by false e k before = elim (cases_eq region queue.region) [
      | inl here ↦ absurd (let mine : qid ≡ q = same_Some qid q (sym (λ i. if eq-eqb region queue.region here i then Some qid else qid_of_region past queue.region) ∙ owned) in
          let yes : (qid == q) ≡ true = eq-eqb qid q mine in cc (yes, e))
      | inr other ↦ rw (ne_eqb region queue.region other) (before k)
    ]
  region_with (event.Closing qid region ∷ past) h q queue is = by (qid == q) is (λ k. region_with past h.1 q queue k) where
    by : (b : Bool) → (if b then None else open_sq past q) ≡ Some queue → (open_sq past q ≡ Some queue → cqid_with past queue.region ≡ Some queue.cqid) → cqid_with past queue.region ≡ Some queue.cqid
    by true k before = absurd (none-some queue k)
    by false k before = before k
  region_with (e ∷ past) h q queue is = region_with past h.1 q queue is

  -- a region that posts somewhere was opened by a Create that named a completion queue
  some_with : (past : Past) (r c : ℕ) → cq_region_of past r ≡ Some c → (p : ℕ) × (cqid_with past r ≡ Some p)
  some_with [] r c is = let z = both_zero r c is in (0, zero_both r 0 z.0 refl)
  some_with (OpenSq qid region cqid class ∷ past) r c is = elim (chosen region r (open_cq past cqid) (cq_region_of past r) c is) [
    | inl p ↦ (cqid, rw (eq-eqb region r p.0) refl)
    | inr n ↦ let rest = some_with past r c n.1 in (rest.0, rw (ne_eqb region r n.0) rest.1)
  ]
  some_with (e ∷ past) r c is = some_with past r c is

  -- and posts to its region
  pub goes_to : (past : Past) → Each (EffectsAtOnce rules) past → (r c p : ℕ) → cqid_with past r ≡ Some p → cq_region_of past r ≡ Some c → cqid_of_region past c ≡ Some p
  goes_to [] h r c p with is = zero_both c p (both_zero r c is).1 (both_zero r p with).1
  goes_to (OpenSq qid region cqid class ∷ past) h r c p with is = elim (chosen region r (Some cqid) (cqid_with past r) p with) [
    | inl a ↦ elim (chosen region r (open_cq past cqid) (cq_region_of past r) c is) [
      | inl b ↦ cq_owned past h.1 cqid c b.1 ∙ a.1
      | inr n ↦ absurd (n.0 a.0)
    ]
    | inr a ↦ elim (chosen region r (open_cq past cqid) (cq_region_of past r) c is) [
      | inl b ↦ absurd (a.0 b.0)
      | inr n ↦ goes_to past h.1 r c p a.1 n.1
    ]
  ]
  goes_to (OpenCq qid region ∷ past) h r c p with is =
      let before = goes_to past h.1 r c p with is in
      rw (ne_eqb region c (λ same. none-some p (sym (cq_fresh past h.1 qid region h.0) ∙ ap (cqid_of_region past) same ∙ before))) before
  goes_to (e ∷ past) h r c p with is = goes_to past h.1 r c p with is

  pub posts_known : (past : Past) → Each (EffectsAtOnce rules) past → (r c : ℕ) → cq_region_of past r ≡ Some c → cqid_of_region past c ≡ None → ⊥
  posts_known past h r c is none = let with = some_with past r c is in none-some with.0 (sym none ∙ goes_to past h r c with.0 with.1 is)
