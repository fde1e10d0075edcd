-- Set Features of Number of Queues: the numbers are the same at each success, and none is set once a queue was created.
use Rattle.std.proofs.Common.{◌≡◌, ℕ, ◌%◌, ◌<◌, ◌≤◌, ◌==◌, ◌&&◌, ◌||◌, Bool, true, false, not, if◌then◌else◌, List, [], ◌∷◌, ◌++◌, length, Option, Some, None, refl, sym, ap, ◌∙◌, subst, arith, ◌⊎◌, inl, inr, eqb-true}
use Rattle.std.proofs.lemmas.Bool.{cases_Bool, cases_eq, eq-eqb, ne_eqb, or_cases, or_parts, or_right, and_parts}
use Rattle.std.proofs.lemmas.Option.{none-some, same_Some}
use Rattle.nvme_entry.specs.AdminCommand.{admin_command_of}
use Rattle.nvme_entry.specs.declared.submission.Sqe.{Sqe}
use Rattle.nvme_entry.specs.declared.completion.Cqe.{Cqe}
use Rattle.nvme_entry.specs.declared.admin.AdminCommand.{AdminCommand}
use Rattle.nvme_entry.specs.declared.admin.AdminCommand.TheVariants.{DeleteSq, CreateSq, DeleteCq, CreateCq, Abort, SetFeatures, GetFeatures, Other}
use Rattle.nvme_arbiter.specs.declared.pick.Pick.{Pick}
use Rattle.nvme_arbiter.specs.declared.pick.Seen.{Seen}
use Rattle.nvme_admin.specs.History.{Start, TableHistory, EntryApplied}
use Rattle.nvme_admin.specs.QueueTable.{QueueTable, number_of_queues}
use Rattle.nvme_admin.specs.Checks.{is_success, verdict_after, verdict_by, numbers_dw0}
use Rattle.nvme_admin.specs.Accepted.{queue_table, status_of, dw0_of, verdict_of}
use Rattle.nvme_admin.specs.declared.verdict.Verdict.TheVariants as verdict
use Rattle.nvme_log.specs.declared.event.Event.{Event}
use Rattle.nvme_log.specs.declared.event.Event.TheVariants as event
use Rattle.nvme_log.specs.Rules.{FrontRules, Past}
use Rattle.nvme_log.specs.Queues.{qid_of_region}
use Rattle.nvme_log.specs.Places.{fetched, picked, entry_at, fate_of, is_waiting, is_aborted}
use Rattle.nvme_log.specs.Histories.{table_history, applied}
use Rattle.nvme_log.specs.Aborts.{has_aborted, told_dw0}
use Rattle.nvme_log.specs.Completions.{is_posted, posted_to, table_before}
use Rattle.nvme_log.specs.Laws.{StartsWithAdmin}
use Rattle.nvme_ctrl_log.specs.Notes.{Notes, Logged, Tail, Head, logged}
use Rattle.nvme_ctrl_log.specs.Doorbells.{sq_slots, cq_slots}
use Rattle.nvme_ctrl_log.specs.Tags.{is_passed, is_of_device}
use Rattle.nvme_ctrl_log.specs.Own.{command_may_be_own}
use Rattle.nvme_ctrl_log.specs.Making.{placing_in}
use Rattle.nvme_ctrl_log.proofs.TakenCommands.{IsSound, admin_picked}
use Rattle.nvme_audit.specs.Lives as lives
use Rattle.nvme_audit.specs.Lives.{asked, done}
use Rattle.nvme_audit.specs.Turns.{creates, was_created, told_first, numbers_by, numbers}
use Rattle.nvme_audit.specs.Marks.{mark_for, mark_of}
use Rattle.nvme_own_log.specs.Shown.{cqid_of_region, completion_of, tail_of, head_of, fetch_of, post_of, shown}
use Rattle.nvme_own_log.proofs.AdminQueues.{admin_asks, effects_of}
use Rattle.nvme_own_log.proofs.AdminTurns.{TakesNext, takes_next, takes_other, few_picked}
use Rattle.nvme_own_log.proofs.Answered.{IsPosted, IsDoneBy, posted_so, of_device, what_is_done}
use Rattle.nvme_own_log.proofs.IoQueues.{sound}
use Rattle.nvme_own_statuses.proofs.Numbers.{Keeps, keeps_event, is_create, create_leaves, set_leaves}
use Rattle.nvme_own_statuses.proofs.Outs.{IsOut}
use Rattle.nvme_own_log.proofs.OwnRegions.{admin_qid}
use Rattle.nvme_own_log.proofs.Phases.{IsPending, IsAccepted}
use Rattle.nvme_own_statuses.proofs.Standing.{Stands, stands_before, admin_at}
use Rattle.nvme_own_statuses.proofs.StatusBy.{StatusBy, by_device, by_abort, by_checks, status_by}
use Rattle.nvme_own_statuses.proofs.TellsNotes.{split, marks_same, free, posts_there}
use Rattle.nvme_log.proofs.Turns.{admin-unaborted}

-- ---- commands
create_is : (command : AdminCommand) → creates command ≡ true → is_create command ≡ true
create_is (DeleteSq qid) h = cc h
create_is (CreateSq qid qsize prp1 cqid qprio pc) h = refl
create_is (DeleteCq qid) h = cc h
create_is (CreateCq qid qsize prp1 pc) h = refl
create_is (Abort sqid cid) h = cc h
create_is (SetFeatures fid sv cdw11) h = cc h
create_is (GetFeatures fid) h = cc h
create_is Other h = cc h

create_own : (entry : Sqe) (command : AdminCommand) → creates command ≡ true → command_may_be_own entry command ≡ true → ⊥
create_own entry (DeleteSq qid) h m = cc h
create_own entry (CreateSq qid qsize prp1 cqid qprio pc) h m = cc m
create_own entry (DeleteCq qid) h m = cc h
create_own entry (CreateCq qid qsize prp1 pc) h m = cc m
create_own entry (Abort sqid cid) h m = cc h
create_own entry (SetFeatures fid sv cdw11) h m = cc h
create_own entry (GetFeatures fid) h m = cc h
create_own entry Other h m = cc h

-- Dword 0 of a command that is no Abort is that of the queue table
set_dw0 : (start : Start) (h : TableHistory) (entry : Sqe) (sv : Bool) (cdw11 : ℕ) (aborted : Bool) (dw0 : ℕ) → admin_command_of entry ≡ SetFeatures number_of_queues sv cdw11 → told_dw0 aborted (verdict_of start h entry) dw0 ≡ dw0
unfolding verdict_of
set_dw0 start h entry sv cdw11 aborted dw0 is =
    ap (λ (c : AdminCommand). told_dw0 aborted (verdict_by (status_of start h entry) (queue_table start (EntryApplied entry ∷ h)) c) dw0) is
    ∙ by (is_success (status_of start h entry)) where
      by : (b : Bool) → told_dw0 aborted (if b then verdict_after (queue_table start (EntryApplied entry ∷ h)) (SetFeatures number_of_queues sv cdw11) else verdict.Done (status_of start h entry) 0) dw0 ≡ dw0
      by true = refl
      by false = refl

-- what the judge keeps of the numbers
numbers_told : (command : AdminCommand) (dw0 : ℕ) (before : Option ℕ) (n : ℕ) → numbers_by command (Some dw0) before ≡ Some n
    → (before ≡ Some n) ⊎ ((sv : Bool) × (cdw11 : ℕ) × (command ≡ SetFeatures number_of_queues sv cdw11) × (dw0 ≡ n))
numbers_told (SetFeatures fid sv cdw11) dw0 before n is = elim (cases_Bool (fid == number_of_queues)) [
  | inr other ↦ inl (subst (λ (b : Bool). (if b then told_first before (Some dw0) else before) ≡ Some n) other is)
  | inl own ↦ by before (subst (λ (b : Bool). (if b then told_first before (Some dw0) else before) ≡ Some n) own is) (ap (λ (k : ℕ). SetFeatures k sv cdw11) (eqb-true fid number_of_queues own))
] where
  by : (o : Option ℕ) → told_first o (Some dw0) ≡ Some n → SetFeatures fid sv cdw11 ≡ SetFeatures number_of_queues sv cdw11
      → (o ≡ Some n) ⊎ ((s : Bool) × (c : ℕ) × (SetFeatures fid sv cdw11 ≡ SetFeatures number_of_queues s c) × (dw0 ≡ n))
  by None e same = inr (sv, cdw11, same, same_Some dw0 n e)
  by (Some x) e same = inl e
numbers_told (DeleteSq qid) dw0 before n is = inl is
numbers_told (CreateSq qid qsize prp1 cqid qprio pc) dw0 before n is = inl is
numbers_told (DeleteCq qid) dw0 before n is = inl is
numbers_told (CreateCq qid qsize prp1 pc) dw0 before n is = inl is
numbers_told (Abort sqid cid) dw0 before n is = inl is
numbers_told (GetFeatures fid) dw0 before n is = inl is
numbers_told Other dw0 before n is = inl is

module _ (rules : FrontRules) where
  abbrev table : Past → QueueTable
  table past = queue_table rules.start (table_history rules past)

  abbrev pub IsSet : Sqe → Type 0
  IsSet a = (sv : Bool) × (cdw11 : ℕ) × (admin_command_of a ≡ SetFeatures number_of_queues sv cdw11)

  pub record FeaturesAt (log : lives.Past) (past : Past) : Type 0 where
    -- a queue whose creation shows was created
    pub created : was_created log ≡ true → (table past).created ≡ true
    -- so it was before a Set that was fetched after that
    pub marked : (k : ℕ) (a : Sqe) → IsPending rules past k a → IsSet a → 0 < mark_of log 0 a.cid
        → (was_created log ≡ true) × (k < picked past 0 → (queue_table rules.start (table_before rules past k)).created ≡ true)
    -- the numbers that show are those of the table
    pub numbered : (n : ℕ) → numbers log ≡ Some n → (n ≡ numbers_dw0 (table past)) × ((table past).numbers_set ≡ true)
    -- and those that an accepted Set will tell
    pub sets : (k : ℕ) (a : Sqe) → IsPending rules past k a → IsAccepted rules past k a → IsSet a → (dw0_of rules.start (table_before rules past k) a ≡ numbers_dw0 (table past)) × ((table past).numbers_set ≡ true)
    pub makes : (k : ℕ) (a : Sqe) → IsPending rules past k a → IsAccepted rules past k a → is_create (admin_command_of a) ≡ true → (table past).created ≡ true

  features_tail : (log : lives.Past) (past : Past) (o : Option ℕ) (slot : ℕ) → FeaturesAt log past → FeaturesAt (tail_of o slot log) past
  features_tail log past None slot f = f
  features_tail log past (Some q) slot f = record { created = f.created; marked = f.marked; numbered = f.numbered; sets = f.sets; makes = f.makes }

  features_head : (log : lives.Past) (past : Past) (o : Option ℕ) (slot : ℕ) → FeaturesAt log past → FeaturesAt (head_of o slot log) past
  features_head log past None slot f = f
  features_head log past (Some q) slot f = record { created = f.created; marked = f.marked; numbered = f.numbered; sets = f.sets; makes = f.makes }

  -- an event that shows nothing, but a pick
  abbrev IsUnseen : Event → Type 0
  IsUnseen (event.Fetch r i entry) = ⊥
  IsUnseen (event.Pick seen pick) = ⊥
  IsUnseen (event.Post c r i cqe) = ⊥
  IsUnseen e = Unit {0}

  features_event : (log : lives.Past) (past : Past) (e : Event) → IsUnseen e → FeaturesAt log past → FeaturesAt log (e ∷ past)
  features_event log past (event.Fetch r i entry) u f = absurd u
  features_event log past (event.Pick seen pick) u f = absurd u
  features_event log past (event.Post c r i cqe) u f = absurd u
  features_event log past e u f = record {
    created = λ h. (keeps_event rules e past).created (f.created h);
    marked = λ k a p is more. f.marked k a p is more;
    numbered = λ n h. (let it = f.numbered n h in (it.0 ∙ sym ((keeps_event rules e past).numbers it.1), (keeps_event rules e past).set it.1));
    sets = λ k a p accepted is. (let it = f.sets k a p accepted is in (it.0 ∙ sym ((keeps_event rules e past).numbers it.1), (keeps_event rules e past).set it.1));
    makes = λ k a p accepted is. (keeps_event rules e past).created (f.makes k a p accepted is);
  }

  -- ---- a pick
  module _ (log : lives.Past) (past : Past) (seen : List Seen) (pick : Pick) (s : IsSound rules (event.Pick seen pick ∷ past)) (f : FeaturesAt log past) where
    keeps : Keeps (table past) (table (event.Pick seen pick ∷ past))
    keeps = keeps_event rules (event.Pick seen pick) past

    later_created : was_created log ≡ true → (table (event.Pick seen pick ∷ past)).created ≡ true
    later_created h = keeps.created (f.created h)

    later_numbered : (n : ℕ) → numbers log ≡ Some n → (n ≡ numbers_dw0 (table (event.Pick seen pick ∷ past))) × ((table (event.Pick seen pick ∷ past)).numbers_set ≡ true)
    later_numbered n h = let it = f.numbered n h in (it.0 ∙ sym (keeps.numbers it.1), keeps.set it.1)

    -- of a command that was picked before
    module _ (k : ℕ) (a : Sqe) (same : table_before rules (event.Pick seen pick ∷ past) k ≡ table_before rules past k) (p : IsPending rules past k a) where
      old_accepted : k < picked past 0 → IsAccepted rules (event.Pick seen pick ∷ past) k a → IsAccepted rules past k a
      old_accepted before h = (before, subst (λ (t : TableHistory). is_success (status_of rules.start t a) ≡ true) same h.1)

      old_sets : k < picked past 0 → IsAccepted rules (event.Pick seen pick ∷ past) k a → IsSet a
          → (dw0_of rules.start (table_before rules (event.Pick seen pick ∷ past) k) a ≡ numbers_dw0 (table (event.Pick seen pick ∷ past))) × ((table (event.Pick seen pick ∷ past)).numbers_set ≡ true)
      old_sets before h is =
          let it = f.sets k a p (old_accepted before h) is in
          (ap (λ (t : TableHistory). dw0_of rules.start t a) same ∙ it.0 ∙ sym (keeps.numbers it.1), keeps.set it.1)

    features_io : (pick.qid ≡ 0 → ⊥) → FeaturesAt log (event.Pick seen pick ∷ past)
    features_io io = record {
      created = later_created;
      marked = λ k a p is more. (let it = f.marked k a p is more in (it.0, λ lt. subst (λ (t : TableHistory). (queue_table rules.start t).created ≡ true) (sym (same k)) (it.1 (omega (arith, lt, other)))));
      numbered = later_numbered;
      sets = λ k a p accepted is. (let lt : k < picked (event.Pick seen pick ∷ past) 0 = accepted.0 in old_sets k a (same k) p (omega (arith, lt, other)) accepted is);
      makes = λ k a p accepted is. (let lt : k < picked (event.Pick seen pick ∷ past) 0 = accepted.0 in keeps.created (f.makes k a p (old_accepted k a (same k) p (omega (arith, lt, other)) accepted) is));
    } where
      other : picked (event.Pick seen pick ∷ past) 0 ≡ picked past 0
      other = takes_other rules past seen pick s io

      same : (k : ℕ) → table_before rules (event.Pick seen pick ∷ past) k ≡ table_before rules past k
      same k = rw (ne_eqb pick.qid 0 io) refl

    features_admin : pick.qid ≡ 0 → FeaturesAt log (event.Pick seen pick ∷ past)
    features_admin z = record {
      created = later_created;
      marked = λ k a p is more. (let it = f.marked k a p is more in (
        it.0,
        λ lt. elim (cases_eq k (picked past 0)) [
          | inl here ↦ subst (λ (t : TableHistory). (queue_table rules.start t).created ≡ true) (sym (now k here)) (f.created it.0)
          | inr other ↦ subst (λ (t : TableHistory). (queue_table rules.start t).created ≡ true) (sym (same k other)) (it.1 (omega (arith, lt, other, next.one_more)))
        ],
      ));
      numbered = later_numbered;
      sets = λ k a p accepted is. elim (cases_eq k (picked past 0)) [
        | inl here ↦ new_sets k a here p accepted is
        | inr other ↦ (let lt : k < picked (event.Pick seen pick ∷ past) 0 = accepted.0 in old_sets k a (same k other) p (omega (arith, lt, other, next.one_more)) accepted is)
      ];
      makes = λ k a p accepted is. elim (cases_eq k (picked past 0)) [
        | inl here ↦ subst (λ (t : TableHistory). (queue_table rules.start t).created ≡ true) (sym (after k a here p)) (create_leaves rules.start (table_history rules past) a (subst (λ (t : TableHistory). is_success (status_of rules.start t a) ≡ true) (now k here) accepted.1) is)
        | inr other ↦
            (let lt : k < picked (event.Pick seen pick ∷ past) 0 = accepted.0 in
            keeps.created (f.makes k a p (old_accepted k a (same k other) p (omega (arith, lt, other, next.one_more)) accepted) is))
      ];
    } where
      next : TakesNext rules past seen pick
      next = takes_next rules past seen pick s z

      same : (k : ℕ) → (k ≡ picked past 0 → ⊥) → table_before rules (event.Pick seen pick ∷ past) k ≡ table_before rules past k
      same k other = rw (eq-eqb pick.qid 0 z, next.oldest, ne_eqb (picked past 0) k (λ e. other (sym e))) refl

      now : (k : ℕ) → k ≡ picked past 0 → table_before rules (event.Pick seen pick ∷ past) k ≡ table_history rules past
      now k here = rw (eq-eqb pick.qid 0 z, next.oldest, eq-eqb (picked past 0) k (sym here)) refl

      -- the picked command is the next step of the table
      after : (k : ℕ) (a : Sqe) → k ≡ picked past 0 → IsPending rules past k a → table_history rules (event.Pick seen pick ∷ past) ≡ EntryApplied a ∷ table_history rules past
      after k a here p =
          let entry : next.entry ≡ a = same_Some next.entry a (sym next.is_there ∙ ap (entry_at past 0) (sym here) ∙ p.0) in
          (λ i. if eq-eqb pick.qid 0 z i then applied (next.entry_is i) ++ table_history rules past else table_history rules past) ∙ ap (λ (x : Sqe). EntryApplied x ∷ table_history rules past) entry

      new_sets : (k : ℕ) (a : Sqe) → k ≡ picked past 0 → IsPending rules past k a → IsAccepted rules (event.Pick seen pick ∷ past) k a → IsSet a
          → (dw0_of rules.start (table_before rules (event.Pick seen pick ∷ past) k) a ≡ numbers_dw0 (table (event.Pick seen pick ∷ past))) × ((table (event.Pick seen pick ∷ past)).numbers_set ≡ true)
      new_sets k a here p accepted is =
          let it = set_leaves rules.start (table_history rules past) a is.0 is.1 (subst (λ (t : TableHistory). is_success (status_of rules.start t a) ≡ true) (now k here) accepted.1) is.2 in (
            ap (λ (t : TableHistory). dw0_of rules.start t a) (now k here) ∙ it.1 ∙ ap (λ (t : TableHistory). numbers_dw0 (queue_table rules.start t)) (sym (after k a here p)),
            ap (λ (t : TableHistory). (queue_table rules.start t).numbers_set) (after k a here p) ∙ it.0,
          )

    features_pick : FeaturesAt log (event.Pick seen pick ∷ past)
    features_pick = elim (cases_eq pick.qid 0) [ inl z ↦ features_admin z | inr io ↦ features_io io ]

  -- ---- notes
  module _ (starts : StartsWithAdmin rules) (by_regions : placing_in rules ≡ None) where
    -- a fetch
    module _ (t j : ℕ) (entry : Sqe) (notes : Notes) (s : Stands rules (Logged (event.Fetch t j entry) ∷ notes)) (f : FeaturesAt (shown rules notes) (logged notes)) where
      abbrev log_before : lives.Past
      log_before = shown rules notes

      abbrev stands : Stands rules notes
      stands = stands_before rules (Logged (event.Fetch t j entry)) notes s

      abbrev then_log : Option ℕ → lives.Past
      then_log o = fetch_of o (j % sq_slots rules t) entry log_before

      created_same : (o : Option ℕ) → was_created (then_log o) ≡ was_created log_before
      created_same None = refl
      created_same (Some p) = refl

      numbers_same : (o : Option ℕ) → numbers (then_log o) ≡ numbers log_before
      numbers_same None = refl
      numbers_same (Some p) = refl

      pending_old : (k : ℕ) (a : Sqe) → entry_at (logged notes) 0 k ≡ Some a → is_posted (logged notes) 0 k ≡ false → IsOut rules (logged notes) 0 k 0 a
      pending_old k a at fresh = record { own = admin_qid rules (logged notes) (effects_of rules notes stands.each); is_there = at; unposted = fresh }

      few : picked (logged notes) 0 ≤ length (fetched (logged notes) 0)
      few = few_picked rules (logged notes) (sound rules starts by_regions notes stands.each stands.lawful)

      -- at its fetch a Set is marked where a queue was created
      marked_new : (a : Sqe) → t ≡ 0 → entry ≡ a → IsSet a → 0 < mark_of (then_log (qid_of_region (logged notes) t)) 0 a.cid → was_created log_before ≡ true
      marked_new a z same is more = by (was_created log_before) (subst (λ (n : ℕ). 0 < n) mark more) where
        own : qid_of_region (logged notes) t ≡ Some 0
        own = ap (qid_of_region (logged notes)) z ∙ admin_qid rules (logged notes) (effects_of rules notes stands.each)

        mark : mark_of (then_log (qid_of_region (logged notes) t)) 0 a.cid ≡ (if was_created log_before then 1 else 0)
        mark =
            ap (λ (o : Option ℕ). mark_of (then_log o) 0 a.cid) own
            ∙ rw (eq-eqb entry.cid a.cid (ap (λ (y : Sqe). y.cid) same)) (ap (mark_for log_before) (ap (λ (y : Sqe). admin_command_of y) same ∙ is.2))

        by : (b : Bool) → 0 < (if b then 1 else 0) → b ≡ true
        by true h = refl
        by false h = absurd (omega (arith, h))

      features_fetch : FeaturesAt (shown rules (Logged (event.Fetch t j entry) ∷ notes)) (event.Fetch t j entry ∷ logged notes)
      features_fetch = record {
        created = λ h. f.created (sym (created_same (qid_of_region (logged notes) t)) ∙ h);
        marked = λ k a p is more. elim (split rules starts by_regions t j entry notes s 0 k a p.0) [
          | inl old ↦
              let mark = marks_same rules starts by_regions t j entry notes s 0 k 0 a (pending_old k a old p.1) (qid_of_region (logged notes) t) (free rules starts by_regions t j entry notes s) in
              let it = f.marked k a (old, p.1) is (subst (λ (n : ℕ). 0 < n) mark more) in
              (created_same (qid_of_region (logged notes) t) ∙ it.0, it.1)
          | inr new ↦ (created_same (qid_of_region (logged notes) t) ∙ marked_new a new.0 new.2 is more, λ lt. absurd (omega (arith, lt, few, new.1)))
        ];
        numbered = λ n h. f.numbered n (sym (numbers_same (qid_of_region (logged notes) t)) ∙ h);
        sets = λ k a p accepted is. elim (split rules starts by_regions t j entry notes s 0 k a p.0) [
          | inl old ↦ f.sets k a (old, p.1) accepted is
          | inr new ↦ absurd (let lt : k < picked (logged notes) 0 = accepted.0 in omega (arith, lt, few, new.1))
        ];
        makes = λ k a p accepted is. elim (split rules starts by_regions t j entry notes s 0 k a p.0) [
          | inl old ↦ f.makes k a (old, p.1) accepted is
          | inr new ↦ absurd (let lt : k < picked (logged notes) 0 = accepted.0 in omega (arith, lt, few, new.1))
        ];
      }

    -- a completion
    module _ (b t j : ℕ) (cqe : Cqe) (notes : Notes) (s : Stands rules (Logged (event.Post b t j cqe) ∷ notes)) (f : FeaturesAt (shown rules notes) (logged notes)) where
      abbrev before_log : lives.Past
      before_log = shown rules notes

      abbrev past_before : Past
      past_before = logged notes

      abbrev now : Stands rules notes
      now = stands_before rules (Logged (event.Post b t j cqe)) notes s

      abbrev posted : IsPosted rules notes b t j cqe
      posted = posted_so rules notes b t j cqe now.each s.each.0.posts_own

      abbrev given : StatusBy rules notes t j posted.entry cqe
      given = status_by rules notes now.each b t j cqe posted.entry posted.is_there s.each.0.posts_own

      pending_before : (k : ℕ) (a : Sqe) → IsPending rules (event.Post b t j cqe ∷ past_before) k a → IsPending rules past_before k a
      pending_before k a p = (p.0, (or_parts (t == 0 && j == k) (is_posted past_before 0 k) p.1).1)

      -- the command of an admin place, where it was answered with success
      pub accepted_here : t ≡ 0 → is_success (status_of rules.start (table_before rules past_before j) posted.entry) ≡ true → IsAccepted rules past_before j posted.entry
      accepted_here z success = (admin_picked rules past_before (effects_of rules notes now.each) j (subst (λ (k : ℕ). is_waiting (fate_of past_before k j) ≡ false) z posted.served), success)

      pub pending_here : t ≡ 0 → IsPending rules past_before j posted.entry
      pending_here z = (subst (λ (k : ℕ). entry_at past_before k j ≡ Some posted.entry) z posted.is_there, subst (λ (k : ℕ). is_posted past_before k j ≡ false) z posted.no_post)

      -- a Set of Number of Queues is answered by the controller
      pub set_own : IsSet posted.entry → t ≡ 0
          → (cqe.status ≡ status_of rules.start (table_before rules past_before j) posted.entry) × (cqe.dw0 ≡ dw0_of rules.start (table_before rules past_before j) posted.entry)
      set_own is z = by given where
        by : StatusBy rules notes t j posted.entry cqe → (cqe.status ≡ status_of rules.start (table_before rules past_before j) posted.entry) × (cqe.dw0 ≡ dw0_of rules.start (table_before rules past_before j) posted.entry)
        by (by_device g) = absurd (
            let own = (and_parts (is_of_device notes t j) (not (is_aborted past_before t j)) g).0 in
            let passed : is_passed notes j ≡ true = subst (λ (y : Bool). (not y || is_passed notes j) ≡ true) (eq-eqb t 0 z) own in
            let device = of_device rules notes now.each j passed in
            let same : device.entry ≡ posted.entry = same_Some device.entry posted.entry (sym device.is_there ∙ (pending_here z).0) in
            let may : command_may_be_own posted.entry (admin_command_of posted.entry) ≡ true = subst (λ (x : Sqe). command_may_be_own x (admin_command_of x) ≡ true) same device.may_be in
            let never : command_may_be_own posted.entry (admin_command_of posted.entry) ≡ false = ap (command_may_be_own posted.entry) is.2 in
            cc (may, never))
        by (by_abort a at) = absurd (admin-unaborted rules past_before (effects_of rules notes now.each) j (subst (λ (k : ℕ). is_aborted past_before k j ≡ true) z a))
        by (by_checks first none status dw0) = (status, dw0 ∙ set_dw0 rules.start (table_before rules past_before j) posted.entry is.0 is.1 (has_aborted past_before j) (dw0_of rules.start (table_before rules past_before j) posted.entry) is.2)

      abbrev what : AdminCommand
      what = done before_log (completion_of cqe)

      done_so : (what ≡ Other) ⊎ IsDoneBy rules before_log notes t j cqe
      done_so = what_is_done rules before_log notes now.each b t j cqe posted (admin_asks rules notes (admin_at rules notes now) j)

      created_done : creates what ≡ true → (table past_before).created ≡ true
      created_done h = by done_so where
        by : (what ≡ Other) ⊎ IsDoneBy rules before_log notes t j cqe → (table past_before).created ≡ true
        by (inl other) = absurd (let never : creates what ≡ false = ap creates other in cc (never, h))
        by (inr d) =
            let own : creates (admin_command_of d.entry) ≡ true = ap creates (sym d.command_is) ∙ h in
            let same : posted.entry ≡ d.entry = same_Some posted.entry d.entry (sym (pending_here d.of_admin).0 ∙ d.is_there) in
            elim d.why [
              | inl device ↦ absurd (create_own d.entry (admin_command_of d.entry) own device)
              | inr success ↦
                  f.makes j posted.entry (pending_here d.of_admin) (accepted_here d.of_admin (subst (λ (x : Sqe). is_success (status_of rules.start (table_before rules past_before j) x) ≡ true) (sym same) success))
                  (create_is (admin_command_of posted.entry) (ap (λ (x : Sqe). creates (admin_command_of x)) same ∙ own))
            ]

      numbered_done : (n : ℕ) (sv : Bool) (cdw11 : ℕ) → what ≡ SetFeatures number_of_queues sv cdw11 → cqe.dw0 ≡ n → (n ≡ numbers_dw0 (table past_before)) × ((table past_before).numbers_set ≡ true)
      numbered_done n sv cdw11 is told = by done_so where
        by : (what ≡ Other) ⊎ IsDoneBy rules before_log notes t j cqe → (n ≡ numbers_dw0 (table past_before)) × ((table past_before).numbers_set ≡ true)
        by (inl other) = absurd (let never : Other ≡ SetFeatures number_of_queues sv cdw11 = sym other ∙ is in cc never)
        by (inr d) =
            let same : posted.entry ≡ d.entry = same_Some posted.entry d.entry (sym (pending_here d.of_admin).0 ∙ d.is_there) in
            let command : admin_command_of posted.entry ≡ SetFeatures number_of_queues sv cdw11 = ap (λ (x : Sqe). admin_command_of x) same ∙ sym d.command_is ∙ is in
            let own = set_own (sv, cdw11, command) d.of_admin in
            elim d.why [
              | inl device ↦ absurd (
                  let may : command_may_be_own d.entry (SetFeatures number_of_queues sv cdw11) ≡ true = subst (λ (k : AdminCommand). command_may_be_own d.entry k ≡ true) (sym d.command_is ∙ is) device in
                  cc may)
              | inr success ↦
                  let it = f.sets j posted.entry (pending_here d.of_admin)
                  (accepted_here d.of_admin (subst (λ (x : Sqe). is_success (status_of rules.start (table_before rules past_before j) x) ≡ true) (sym same) success)) (sv, cdw11, command) in
                  (sym told ∙ own.1 ∙ it.0, it.1)
            ]

      abbrev later_log : Option ℕ → lives.Past
      later_log o = post_of o (length (posted_to past_before b) % cq_slots rules b) cqe before_log

      features_into : (p : ℕ) → FeaturesAt (later_log (Some p)) (event.Post b t j cqe ∷ past_before)
      features_into p = record {
        created = λ h. elim (or_cases (creates what) (was_created before_log) h) [ inl new ↦ created_done new | inr old ↦ f.created old ];
        marked = λ k a pending is more. (let it = f.marked k a (pending_before k a pending) is more in (or_right (creates what) (was_created before_log) it.0, it.1));
        numbered = λ n h. elim (numbers_told what cqe.dw0 (numbers before_log) n h) [
          | inl old ↦ f.numbered n old
          | inr new ↦ numbered_done n new.0 new.1 new.2 new.3
        ];
        sets = λ k a pending accepted is. f.sets k a (pending_before k a pending) accepted is;
        makes = λ k a pending accepted is. f.makes k a (pending_before k a pending) accepted is;
      }

      features_post : FeaturesAt (shown rules (Logged (event.Post b t j cqe) ∷ notes)) (event.Post b t j cqe ∷ past_before)
      features_post =
          let into = posts_there past_before t b posted.region in
          subst (λ (o : Option ℕ). FeaturesAt (later_log o) (event.Post b t j cqe ∷ past_before)) (sym into.1) (features_into into.0)

    pub features_at : (notes : Notes) → Stands rules notes → FeaturesAt (shown rules notes) (logged notes)
    features_at [] s = record {
      created = λ h. cc h;
      marked = λ k a p is more. absurd (none-some a p.0);
      numbered = λ n h. cc h;
      sets = λ k a p accepted is. absurd (none-some a p.0);
      makes = λ k a p accepted is. absurd (none-some a p.0);
    }
    features_at (Tail r slot ∷ notes) s = features_tail (shown rules notes) (logged notes) (qid_of_region (logged notes) r) slot (features_at notes (stands_before rules (Tail r slot) notes s))
    features_at (Head c slot ∷ notes) s = features_head (shown rules notes) (logged notes) (cqid_of_region (logged notes) c) slot (features_at notes (stands_before rules (Head c slot) notes s))
    features_at (Logged (event.Fetch r i entry) ∷ notes) s = features_fetch r i entry notes s (features_at notes (stands_before rules (Logged (event.Fetch r i entry)) notes s))
    features_at (Logged (event.Post c r i cqe) ∷ notes) s = features_post c r i cqe notes s (features_at notes (stands_before rules (Logged (event.Post c r i cqe)) notes s))
    features_at (Logged (event.Pick seen pick) ∷ notes) s =
        features_pick (shown rules notes) (logged notes) seen pick (sound rules starts by_regions (Logged (event.Pick seen pick) ∷ notes) s.each s.lawful) (features_at notes (stands_before rules (Logged (event.Pick seen pick)) notes s))
    features_at (Logged (event.SetArbitration x) ∷ notes) s = features_event (shown rules notes) (logged notes) (event.SetArbitration x) tt (features_at notes (stands_before rules (Logged (event.SetArbitration x)) notes s))
    features_at (Logged (event.OpenSq q r c k) ∷ notes) s = features_event (shown rules notes) (logged notes) (event.OpenSq q r c k) tt (features_at notes (stands_before rules (Logged (event.OpenSq q r c k)) notes s))
    features_at (Logged (event.OpenCq q r) ∷ notes) s = features_event (shown rules notes) (logged notes) (event.OpenCq q r) tt (features_at notes (stands_before rules (Logged (event.OpenCq q r)) notes s))
    features_at (Logged (event.Closing q r) ∷ notes) s = features_event (shown rules notes) (logged notes) (event.Closing q r) tt (features_at notes (stands_before rules (Logged (event.Closing q r)) notes s))
    features_at (Logged (event.Abort r i) ∷ notes) s = features_event (shown rules notes) (logged notes) (event.Abort r i) tt (features_at notes (stands_before rules (Logged (event.Abort r i)) notes s))
    features_at (Logged (event.ClosedSq q r) ∷ notes) s = features_event (shown rules notes) (logged notes) (event.ClosedSq q r) tt (features_at notes (stands_before rules (Logged (event.ClosedSq q r)) notes s))
    features_at (Logged (event.ClosedCq q r) ∷ notes) s = features_event (shown rules notes) (logged notes) (event.ClosedCq q r) tt (features_at notes (stands_before rules (Logged (event.ClosedCq q r)) notes s))
    features_at (note ∷ notes) s = features_at notes (stands_before rules note notes s)
