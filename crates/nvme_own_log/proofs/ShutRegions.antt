-- Completions go to open completion queues: where a region's queue was closed, the deletions of all queues that post to it were finished before.
use Rattle.std.proofs.Common.{◌≡◌, ℕ, ◌<◌, ◌==◌, Bool, true, false, if◌then◌else◌, [], ◌∷◌, ◌++◌, Option, Some, None, is_some, refl, sym, ap, ◌∙◌, subst, ◌⊎◌, inl, inr, eq-eqb}
use Rattle.std.proofs.lemmas.Bool.{or_right, or_left, ne_eqb, cases_eq}
use Rattle.std.proofs.lemmas.List.{append-nil}
use Rattle.std.proofs.lemmas.Option.{none-some, same_Some}
use Rattle.nvme_entry.specs.declared.submission.Sqe.{Sqe}
use Rattle.nvme_arbiter.specs.Limits.{queue_limit}
use Rattle.nvme_admin.specs.History.{TableHistory, EntryApplied}
use Rattle.nvme_admin.specs.QueueTable.{unless_closing}
use Rattle.nvme_admin.specs.Accepted.{queue_table, sq_at, verdict_of}
use Rattle.nvme_admin.specs.Changes.{IsDue, MayOpenCq, MayCloseCq, sq_after}
use Rattle.nvme_admin.specs.Checks.{attaches}
use Rattle.nvme_admin.specs.declared.bounds.TheConstants.{MAX_REGIONS}
use Rattle.nvme_admin.specs.declared.verdict.SqEntry.{SqEntry}
use Rattle.nvme_admin.specs.declared.verdict.Verdict.{Verdict}
use Rattle.nvme_admin.specs.declared.verdict.Verdict.TheVariants as verdict
use Rattle.nvme_admin.proofs.Changed.{TellsChange-entry, finish-takes_one}
use Rattle.nvme_log.specs.declared.event.Event.TheVariants.{ClosedSq, OpenSq, OpenCq, Closing, ClosedCq}
use Rattle.nvme_log.specs.declared.event.Event.TheVariants as event
use Rattle.nvme_log.specs.Rules.{FrontRules, Past, Each}
use Rattle.nvme_log.specs.Queues.{open_cq, is_closed_region, qid_of_region, cq_region_of}
use Rattle.nvme_log.specs.Histories.{table_history, admin_entry, applied}
use Rattle.nvme_log.specs.Effects.{effects_since, EffectsAtOnce}
use Rattle.nvme_log.specs.Account.{latest_admin_place}
use Rattle.nvme_log.specs.Laws.{StartsWithAdmin}
use Rattle.nvme_log.proofs.Tables.{sync}
use Rattle.nvme_ctrl_log.specs.Deletions.{deleting, FollowsDeletions}
use Rattle.nvme_ctrl_log.proofs.LifeLaws.{StaysIn, stays_after, none_below}
use Rattle.nvme_ctrl_log.proofs.QueueWords.{chosen}
use Rattle.nvme_own_log.specs.Shown.{cqid_of_region}
use Rattle.nvme_own_log.proofs.CqRegions.{cqid_with, cq_owned, goes_to}
use Rattle.nvme_own_log.proofs.OwnRegions.{admin_region, admin_posts_to, admin_cqid}
use Rattle.nvme_own_log.proofs.PickEvents.{IsAtPick, at_open_sq, at_open_cq, at_close_cq}

-- a deletion that is pending isn't finished
pending_open : (past : Past) → Each FollowsDeletions past → (s i : ℕ) → deleting past s ≡ Some i → is_closed_region past s ≡ false
pending_open [] h s i is = absurd (none-some i is)
pending_open (Closing qid region ∷ past) h s i is = elim (chosen region s (latest_admin_place past) (deleting past s) i is) [
  | inl p ↦ ap (is_closed_region past) (sym p.0) ∙ h.0.1
  | inr n ↦ pending_open past h.1 s i n.1
]
pending_open (ClosedSq qid region ∷ past) h s i is = elim (chosen region s None (deleting past s) i is) [
  | inl p ↦ absurd (none-some i p.1)
  | inr n ↦ rw (ne_eqb region s n.0) (pending_open past h.1 s i n.1)
]
pending_open (e ∷ past) h s i is = pending_open past h.1 s i is

module _ (rules : FrontRules) where
  -- ---- submission regions
  -- the queue of a region is in the table, with the completion queue that its Create named
  pub record IsInTable (past : Past) (r q : ℕ) : Type 0 where
    pub entry : SqEntry
    pub there : sq_at rules.start (table_history rules past) q ≡ Some entry
    pub region : entry.region ≡ r
    pub cqid : cqid_with past r ≡ Some entry.cqid

  -- the deletion of a region's queue was finished, or the queue is in the table
  abbrev IsOver : Past → ℕ → ℕ → Type 0
  IsOver past r q = (is_closed_region past r ≡ true) ⊎ IsInTable past r q

  at_pick : (past : Past) (r q : ℕ) (b : Bool) (o : Option Sqe) → IsOver past r q
      → (is_closed_region past r ≡ true) ⊎ ((entry : SqEntry) × (sq_at rules.start (if b then applied o ++ table_history rules past else table_history rules past) q ≡ Some entry) × (entry.region ≡ r) × (cqid_with past r ≡ Some entry.cqid))
  at_pick past r q b o (inl closed) = inl closed
  at_pick past r q false o (inr it) = inr (it.entry, it.there, it.region, it.cqid)
  at_pick past r q true None (inr it) = inr (it.entry, it.there, it.region, it.cqid)
  at_pick past r q true (Some e) (inr it) =
      let t : TableHistory = table_history rules past in
      let tells = TellsChange-entry rules.start t e in
      let stays : StaysIn (queue_table rules.start (EntryApplied e ∷ t)) q it.entry =
      stays_after (verdict_of rules.start t e) (sq_at rules.start t) (queue_table rules.start (EntryApplied e ∷ t)) q it.entry (tells.sqs q) it.there
      (λ qid region cqid class is. let due = subst (λ (z : Verdict). IsDue (queue_table rules.start t) z) is tells.due in due.free) in
      inr (stays.now, stays.in_table, stays.region ∙ it.region, it.cqid ∙ ap (λ (c : ℕ). Some c) (sym stays.cqid))

  lives : (past : Past) → Each (EffectsAtOnce rules) past → Each FollowsDeletions past → (r q : ℕ) → (q ≡ 0 → ⊥) → qid_of_region past r ≡ Some q → IsOver past r q
  lives [] h d r q io is = elim (chosen r 0 (Some 0) None q is) [
    | inl p ↦ absurd (io (sym (same_Some 0 q p.1)))
    | inr n ↦ absurd (none-some q n.1)
  ]
  lives (event.Pick seen pick ∷ past) h d r q io is = elim (at_pick past r q (pick.qid == 0) (admin_entry past) (lives past h.1 d.1 r q io is)) [
    | inl closed ↦ inl closed
    | inr it ↦ inr (record { entry = it.0; there = it.1; region = it.2; cqid = it.3 })
  ]
  lives (OpenSq qid region cqid class ∷ past) h d r q io is = elim (chosen region r (Some qid) (qid_of_region past r) q is) [
    | inl p ↦
        let at : IsAtPick rules past (verdict.OpenSq qid region cqid class) = at_open_sq rules past h.1 qid region cqid class h.0 in
        let t : TableHistory = table_history rules at.before in
        let new : SqEntry = record { region = region; cqid = cqid; class = class; closing = false } in
        inr (record {
          entry = new;
          there = ap (λ (z : TableHistory). sq_at rules.start z q) at.history_is ∙ (TellsChange-entry rules.start t at.entry).sqs q
              ∙ ap (λ (v : Verdict). sq_after v (sq_at rules.start t) q) at.verdict_is
              ∙ ap (λ (b : Bool). if b then Some new else sq_at rules.start t q) (eq-eqb qid q (same_Some qid q p.1));
          region = p.0;
          cqid = rw (eq-eqb region r p.0) refl;
        })
    | inr n ↦ elim (lives past h.1 d.1 r q io n.1) [
      | inl closed ↦ inl closed
      | inr it ↦ inr (record { entry = it.entry; there = it.there; region = it.region; cqid = rw (ne_eqb region r n.0) it.cqid })
    ]
  ]
  lives (ClosedSq qid s ∷ past) h d r q io is = elim (cases_eq s r) [
    | inl here ↦ inl (or_left (s == r) (is_closed_region past r) (eq-eqb s r here))
    | inr other ↦ elim (lives past h.1 d.1 r q io is) [
      | inl closed ↦ inl (or_right (s == r) (is_closed_region past r) closed)
      | inr it ↦ inr (record {
        entry = it.entry;
        there = finish-takes_one rules.start (table_history rules past) qid q
            ∙ ap (λ (b : Bool). if b then unless_closing (sq_at rules.start (table_history rules past) q) else sq_at rules.start (table_history rules past) q) (ne_eqb qid q (apart other it (lives past h.1 d.1 s q io)))
            ∙ it.there;
        region = it.region;
        cqid = it.cqid;
      })
    ]
  ] where
    apart : (s ≡ r → ⊥) → IsInTable past r q → (qid_of_region past s ≡ Some q → IsOver past s q) → qid ≡ q → ⊥
    apart other it over same = by (deleting past s) refl d.0.0 (over (d.0.1 ∙ ap (λ (k : ℕ). Some k) same)) where
      by : (o : Option ℕ) → deleting past s ≡ o → is_some o ≡ true → IsOver past s q → ⊥
      by None e some x = cc some
      by (Some k) e some (inl closed) = let no = pending_open past d.1 s k e in cc (no, closed)
      by (Some k) e some (inr its) = other (sym its.region ∙ ap (λ (x : SqEntry). x.region) (same_Some its.entry it.entry (sym its.there ∙ it.there)) ∙ it.region)
  lives (e ∷ past) h d r q io is = elim (lives past h.1 d.1 r q io is) [
    | inl closed ↦ inl closed
    | inr it ↦ inr (record { entry = it.entry; there = it.there; region = it.region; cqid = it.cqid })
  ]

  -- ---- completion regions
  -- the deletions of all queues with an identifier in range that post to it were finished
  abbrev pub IsShut : Past → ℕ → Type 0
  IsShut past c = (r p : ℕ) → cq_region_of past r ≡ Some c → qid_of_region past r ≡ Some p → p < queue_limit → is_closed_region past r ≡ true

  module _ (starts : StartsWithAdmin rules) where
    -- so it is when the queue of a region is closed
    closing_shut : (past : Past) → Each (EffectsAtOnce rules) past → Each FollowsDeletions past → (q region c : ℕ) → EffectsAtOnce rules past (ClosedCq q region) → cqid_of_region past c ≡ Some q → IsShut past c
    closing_shut past h d q region c it own r p to is below = elim (cases_eq p 0) [
      | inl zero_is ↦
          let r_is : r ≡ 0 = admin_region rules past h r (is ∙ ap (λ (k : ℕ). Some k) zero_is) in
          let c_is : c ≡ 0 = same_Some c 0 (sym to ∙ ap (cq_region_of past) r_is ∙ admin_posts_to rules past h) in
          absurd (due.not_admin (same_Some q 0 (sym own ∙ ap (cqid_of_region past) c_is ∙ admin_cqid rules past h)))
      | inr io ↦ by (lives past h d r p io is)
    ] where
      at : IsAtPick rules past (verdict.CloseCq q)
      at = at_close_cq rules past h q region it

      due : MayCloseCq (queue_table rules.start (table_history rules at.before)) q
      due = subst (IsDue (queue_table rules.start (table_history rules at.before))) at.verdict_is (TellsChange-entry rules.start (table_history rules at.before) at.entry).due

      by : IsOver past r p → is_closed_region past r ≡ true
      by (inl closed) = closed
      by (inr x) =
          let t : TableHistory = table_history rules at.before in
          let same : sq_at rules.start (table_history rules past) p ≡ sq_at rules.start t p =
          ap (λ (z : TableHistory). sq_at rules.start z p) at.history_is ∙ (TellsChange-entry rules.start t at.entry).sqs p ∙ ap (λ (v : Verdict). sq_after v (sq_at rules.start t) p) at.verdict_is in
          let into : x.entry.cqid ≡ q = same_Some x.entry.cqid q (sym (goes_to rules past h r c x.entry.cqid x.cqid to) ∙ own) in
          let none : attaches q (sq_at rules.start t p) ≡ false = none_below (λ (z : ℕ). attaches q (sq_at rules.start t z)) MAX_REGIONS p due.unattached below in
          let some : attaches q (sq_at rules.start t p) ≡ true = ap (attaches q) (sym same ∙ x.there) ∙ eq-eqb x.entry.cqid q into in
          cc (none, some)

    -- a queue that is opened had no region
    none_before : (past : Past) → Each (EffectsAtOnce rules) past → (q region : ℕ) → EffectsAtOnce rules past (OpenCq q region) → open_cq past q ≡ None
    none_before past h q region it =
        let at : IsAtPick rules past (verdict.OpenCq q region) = at_open_cq rules past h q region it in
        let t : TableHistory = table_history rules at.before in
        let due : MayOpenCq (queue_table rules.start t) q region = subst (IsDue (queue_table rules.start t)) at.verdict_is (TellsChange-entry rules.start t at.entry).due in
        ap (λ (p : Past). open_cq p q) at.stands ∙ (sync rules starts at.before at.whole [] (append-nil (effects_since at.before) ∙ at.effects_whole)).cq q ∙ due.free

    -- the regions of a queue are shut, but for the one that is open
    shut : (past : Past) → Each (EffectsAtOnce rules) past → Each FollowsDeletions past → (q c : ℕ) → cqid_of_region past c ≡ Some q → (open_cq past q ≡ Some c → ⊥) → IsShut past c
    shut [] h d q c own other = elim (chosen c 0 (Some 0) None q own) [
      | inl p ↦ absurd (other (rw (eq-eqb q 0 (sym (same_Some 0 q p.1))) (ap (λ (k : ℕ). Some k) (sym p.0))))
      | inr n ↦ absurd (none-some q n.1)
    ]
    shut (OpenCq qid region ∷ past) h d q c own other = elim (chosen region c (Some qid) (cqid_of_region past c) q own) [
      | inl p ↦ absurd (other (rw (eq-eqb qid q (same_Some qid q p.1)) (ap (λ (k : ℕ). Some k) p.0)))
      | inr n ↦ before (shut past h.1 d.1 q c n.1 (λ is. elim (cases_eq qid q) [
        | inl same ↦ none-some c (sym (none_before past h.1 qid region h.0) ∙ ap (open_cq past) same ∙ is)
        | inr apart ↦ other (rw (ne_eqb qid q apart) is)
      ]))
    ] where
      before : IsShut past c → IsShut (OpenCq qid region ∷ past) c
      before x r p to is below = x r p to is below
    shut (ClosedCq qid region ∷ past) h d q c own other = elim (cases_eq qid q) [
      | inl same ↦ before (closing_shut past h.1 d.1 q region c (subst (λ (k : ℕ). EffectsAtOnce rules past (ClosedCq k region)) same h.0) own)
      | inr apart ↦ before (shut past h.1 d.1 q c own (λ is. other (rw (ne_eqb qid q apart) is)))
    ] where
      before : IsShut past c → IsShut (ClosedCq qid region ∷ past) c
      before x r p to is below = x r p to is below
    shut (OpenSq qid region cqid class ∷ past) h d q c own other = by (shut past h.1 d.1 q c own other) where
      by : IsShut past c → IsShut (OpenSq qid region cqid class ∷ past) c
      by x r p to is below = elim (chosen region r (open_cq past cqid) (cq_region_of past r) c to) [
        | inl a ↦ absurd (other (ap (open_cq past) (same_Some q cqid (sym own ∙ cq_owned rules past h.1 cqid c a.1)) ∙ a.1))
        | inr a ↦ elim (chosen region r (Some qid) (qid_of_region past r) p is) [
          | inl b ↦ absurd (a.0 b.0)
          | inr b ↦ x r p a.1 b.1 below
        ]
      ]
    shut (ClosedSq qid s ∷ past) h d q c own other = by (shut past h.1 d.1 q c own other) where
      by : IsShut past c → IsShut (ClosedSq qid s ∷ past) c
      by x r p to is below = or_right (s == r) (is_closed_region past r) (x r p to is below)
    shut (e ∷ past) h d q c own other = shut past h.1 d.1 q c own other

    -- so what isn't finished posts to an open queue
    pub posts_open : (past : Past) → Each (EffectsAtOnce rules) past → Each FollowsDeletions past → (q c r p : ℕ) → cqid_of_region past c ≡ Some q → cq_region_of past r ≡ Some c → qid_of_region past r ≡ Some p → p < queue_limit
        → is_closed_region past r ≡ false → open_cq past q ≡ Some c
    posts_open past h d q c r p own to is below unfinished = by (open_cq past q) refl where
      not_other : (open_cq past q ≡ Some c → ⊥) → ⊥
      not_other other = let closed = shut past h d q c own other r p to is below in cc (closed, unfinished)

      by : (o : Option ℕ) → open_cq past q ≡ o → open_cq past q ≡ Some c
      by None e = absurd (not_other (λ k. none-some c (sym e ∙ k)))
      by (Some x) e = elim (cases_eq x c) [
        | inl same ↦ e ∙ ap (λ (k : ℕ). Some k) same
        | inr apart ↦ absurd (not_other (λ k. apart (same_Some x c (sym e ∙ k))))
      ]
