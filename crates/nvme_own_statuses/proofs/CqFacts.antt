-- While no two commands of one queue have met, the completion queues that the judge finds are those of the table, but for one that is turned.
use Rattle.std.proofs.Common.{◌≡◌, ℕ, ◌%◌, ◌<◌, ◌≤◌, ◌==◌, ◌&&◌, nat_lt, Bool, true, false, not, if◌then◌else◌, List, [], ◌∷◌, ◌++◌, length, Option, Some, None, is_some, refl, sym, ap, ◌∙◌, subst, arith, ◌⊎◌, inl, inr, eqb-true}
use Rattle.std.specs.Prelude.{slice_get}
use Rattle.std.proofs.lemmas.Bool.{cases_Bool, cases_eq, eq-eqb, ne_eqb, lt-ltb, or_parts, and_parts, and_from, false_from_ne_true}
use Rattle.std.proofs.lemmas.Option.{none-some, same_Some}
use Rattle.nvme_entry.specs.AdminCommand.{admin_command_of}
use Rattle.nvme_entry.specs.declared.submission.Sqe.{Sqe}
use Rattle.nvme_entry.specs.declared.completion.Cqe.{Cqe}
use Rattle.nvme_entry.specs.declared.admin.AdminCommand.{AdminCommand}
use Rattle.nvme_entry.specs.declared.admin.AdminCommand.TheVariants.{DeleteSq, CreateSq, DeleteCq, CreateCq, Abort, SetFeatures, GetFeatures, Other}
use Rattle.nvme_arbiter.specs.declared.pick.Pick.{Pick}
use Rattle.nvme_arbiter.specs.declared.pick.Seen.{Seen}
use Rattle.nvme_admin.specs.History.{TableHistory, EntryApplied}
use Rattle.nvme_admin.specs.Checks.{is_success}
use Rattle.nvme_admin.specs.Accepted.{cq_at, status_of}
use Rattle.nvme_log.specs.declared.event.Event.{Event}
use Rattle.nvme_log.specs.declared.event.Event.TheVariants as event
use Rattle.nvme_log.specs.Rules.{FrontRules, Past}
use Rattle.nvme_log.specs.Queues.{qid_of_region}
use Rattle.nvme_log.specs.Places.{fetched, picked, entry_at, fate_of, is_waiting}
use Rattle.nvme_log.specs.Histories.{table_history, applied}
use Rattle.nvme_log.specs.Completions.{is_posted, posted_to, table_before}
use Rattle.nvme_log.specs.Laws.{StartsWithAdmin}
use Rattle.nvme_log.proofs.AbortAnswers.{entry-stays}
use Rattle.nvme_ctrl_log.specs.Notes.{Notes, Note, Logged, Tail, Head, logged}
use Rattle.nvme_ctrl_log.specs.Doorbells.{sq_slots, cq_slots}
use Rattle.nvme_ctrl_log.specs.Own.{command_may_be_own}
use Rattle.nvme_ctrl_log.specs.Making.{placing_in}
use Rattle.nvme_ctrl_log.proofs.TakenCommands.{IsSound, admin_picked}
use Rattle.nvme_audit.specs.Lives as lives
use Rattle.nvme_audit.specs.Lives.{done}
use Rattle.nvme_audit.specs.Queues.{turns_cq, qsize_of}
use Rattle.nvme_audit.specs.Turns.{asking, cq_asks, cq_replies, meets, have_met}
use Rattle.nvme_own_log.specs.Shown.{cqid_of_region, start_of, completion_of, tail_of, head_of, fetch_of, post_of, shown}
use Rattle.nvme_own_log.proofs.AdminQueues.{admin_asks, effects_of}
use Rattle.nvme_own_log.proofs.AdminTurns.{TakesNext, takes_next, takes_other, few_picked}
use Rattle.nvme_own_log.proofs.Answered.{IsPosted, IsDoneBy, posted_so, device_turns, what_is_done}
use Rattle.nvme_own_statuses.proofs.Counts.{pending_counts}
use Rattle.nvme_own_statuses.proofs.CqTables.{opens_cq, qsize_leaves, qsize_turns, entry_leaves, entry_turns, event_leaves}
use Rattle.nvme_own_log.proofs.IoQueues.{sound}
use Rattle.nvme_own_log.proofs.OwnRegions.{admin_qid}
use Rattle.nvme_own_log.proofs.Phases.{IsPending, IsAccepted}
use Rattle.nvme_own_log.proofs.Queues.{done_is}
use Rattle.nvme_own_statuses.proofs.Standing.{Stands, stands_before, admin_at, io_at}
use Rattle.nvme_own_statuses.proofs.TellsNotes.{split, posts_there}

-- a command that turns the queue meets another
meets_is : (log : lives.Past) (c : AdminCommand) (q : ℕ) → turns_cq c q ≡ true → meets log c ≡ nat_lt (cq_replies log q) (cq_asks log q)
meets_is log (DeleteSq qid) q h = cc h
meets_is log (CreateSq qid qsize prp1 cqid qprio pc) q h = cc h
meets_is log (DeleteCq qid) q h = ap (λ (n : ℕ). nat_lt (cq_replies log n) (cq_asks log n)) (eqb-true qid q h)
meets_is log (CreateCq qid qsize prp1 pc) q h = ap (λ (n : ℕ). nat_lt (cq_replies log n) (cq_asks log n)) (eqb-true qid q h)
meets_is log (Abort sqid cid) q h = cc h
meets_is log (SetFeatures fid sv cdw11) q h = cc h
meets_is log (GetFeatures fid) q h = cc h
meets_is log Other q h = cc h

own_turns : (entry : Sqe) (c : AdminCommand) (q : ℕ) → turns_cq c q ≡ true → command_may_be_own entry c ≡ false
own_turns entry (DeleteSq qid) q h = cc h
own_turns entry (CreateSq qid qsize prp1 cqid qprio pc) q h = cc h
own_turns entry (DeleteCq qid) q h = refl
own_turns entry (CreateCq qid qsize prp1 pc) q h = refl
own_turns entry (Abort sqid cid) q h = cc h
own_turns entry (SetFeatures fid sv cdw11) q h = cc h
own_turns entry (GetFeatures fid) q h = cc h
own_turns entry Other q h = cc h

module _ (rules : FrontRules) where
  abbrev pub Turns : Sqe → ℕ → Type 0
  Turns a q = turns_cq (admin_command_of a) q ≡ true

  -- the judge finds the queue
  abbrev pub finds : lives.Past → ℕ → Bool
  finds log q = is_some (qsize_of (start_of rules) log q)

  -- the table has it
  abbrev pub has : Past → ℕ → Bool
  has past q = is_some (cq_at rules.start (table_history rules past) q)

  pub record CqsAt (log : lives.Past) (past : Past) : Type 0 where
    pub alone : (q k j : ℕ) (one other : Sqe) → IsPending rules past k one → IsPending rules past j other → Turns one q → Turns other q → k ≡ j
    pub idle : (q : ℕ) → ((k : ℕ) (a : Sqe) → IsPending rules past k a → IsAccepted rules past k a → Turns a q → ⊥) → finds log q ≡ has past q
    pub making : (q k : ℕ) (a : Sqe) → IsPending rules past k a → IsAccepted rules past k a → Turns a q → (finds log q ≡ not (opens_cq (admin_command_of a))) × (has past q ≡ opens_cq (admin_command_of a))

  cqs_tail : (log : lives.Past) (past : Past) (o : Option ℕ) (slot : ℕ) → CqsAt log past → CqsAt (tail_of o slot log) past
  cqs_tail log past None slot c = c
  cqs_tail log past (Some q) slot c = record { alone = c.alone; idle = c.idle; making = c.making }

  cqs_head : (log : lives.Past) (past : Past) (o : Option ℕ) (slot : ℕ) → CqsAt log past → CqsAt (head_of o slot log) past
  cqs_head log past None slot c = c
  cqs_head log past (Some q) slot c = record { alone = c.alone; idle = c.idle; making = c.making }

  abbrev IsUnseen : Event → Type 0
  IsUnseen (event.Fetch r i entry) = ⊥
  IsUnseen (event.Pick seen pick) = ⊥
  IsUnseen (event.Post c r i cqe) = ⊥
  IsUnseen e = Unit {0}

  cqs_event : (log : lives.Past) (past : Past) (e : Event) → IsUnseen e → CqsAt log past → CqsAt log (e ∷ past)
  cqs_event log past (event.Fetch r i entry) u c = absurd u
  cqs_event log past (event.Pick seen pick) u c = absurd u
  cqs_event log past (event.Post b r i cqe) u c = absurd u
  cqs_event log past e u c = record {
    alone = λ q k j one other p o t v. c.alone q k j one other p o t v;
    idle = λ q none. c.idle q (λ k a p ok t. none k a p ok t) ∙ sym (ap (λ (o : Option ℕ). is_some o) (event_leaves rules e past q tt));
    making = λ q k a p ok t. (let it = c.making q k a p ok t in (it.0, ap (λ (o : Option ℕ). is_some o) (event_leaves rules e past q tt) ∙ it.1));
  }

  -- ---- a pick
  module _ (log : lives.Past) (past : Past) (seen : List Seen) (pick : Pick) (s : IsSound rules (event.Pick seen pick ∷ past)) (c : CqsAt log past) (fresh : is_posted past 0 (picked past 0) ≡ false) where
    cqs_io : (pick.qid ≡ 0 → ⊥) → CqsAt log (event.Pick seen pick ∷ past)
    cqs_io io = record {
      alone = λ q k j one other p o t v. c.alone q k j one other p o t v;
      idle = λ q none. c.idle q (λ k a p ok t. none k a p (omega (arith, takes_other rules past seen pick s io, ok.0), subst (λ (x : TableHistory). is_success (status_of rules.start x a) ≡ true) (sym (same k)) ok.1) t) ∙ ap (λ (x : TableHistory). is_some (cq_at rules.start x q)) (sym table_same);
      making = λ q k a p ok t. (let it = c.making q k a p (omega (arith, takes_other rules past seen pick s io, ok.0), subst (λ (x : TableHistory). is_success (status_of rules.start x a) ≡ true) (same k) ok.1) t in
          (it.0, ap (λ (x : TableHistory). is_some (cq_at rules.start x q)) table_same ∙ it.1));
    } where
      same : (k : ℕ) → table_before rules (event.Pick seen pick ∷ past) k ≡ table_before rules past k
      same k = rw (ne_eqb pick.qid 0 io) refl

      table_same : table_history rules (event.Pick seen pick ∷ past) ≡ table_history rules past
      table_same = rw (ne_eqb pick.qid 0 io) refl

    module _ (z : pick.qid ≡ 0) where
      abbrev next : TakesNext rules past seen pick
      next = takes_next rules past seen pick s z

      abbrev table : TableHistory
      table = table_history rules past

      old_table : (k : ℕ) → (k ≡ picked past 0 → ⊥) → table_before rules (event.Pick seen pick ∷ past) k ≡ table_before rules past k
      old_table k other = rw (eq-eqb pick.qid 0 z, next.oldest, ne_eqb (picked past 0) k (λ e. other (sym e))) refl

      now_table : table_before rules (event.Pick seen pick ∷ past) (picked past 0) ≡ table
      now_table = rw (eq-eqb pick.qid 0 z, next.oldest, eq-eqb (picked past 0) (picked past 0) refl) refl

      after_table : table_history rules (event.Pick seen pick ∷ past) ≡ EntryApplied next.entry ∷ table
      after_table = λ i. if eq-eqb pick.qid 0 z i then applied (next.entry_is i) ++ table else table

      here : IsPending rules past (picked past 0) next.entry
      here = (next.is_there, fresh)

      entry_same : (k : ℕ) (a : Sqe) → k ≡ picked past 0 → IsPending rules past k a → next.entry ≡ a
      entry_same k a same p = same_Some next.entry a (sym next.is_there ∙ ap (entry_at past 0) (sym same) ∙ p.0)

      accepted_before : (k : ℕ) (a : Sqe) → (k ≡ picked past 0 → ⊥) → IsAccepted rules (event.Pick seen pick ∷ past) k a → IsAccepted rules past k a
      accepted_before k a other ok = (let lt : k < picked (event.Pick seen pick ∷ past) 0 = ok.0 in omega (arith, lt, other, next.one_more), subst (λ (x : TableHistory). is_success (status_of rules.start x a) ≡ true) (old_table k other) ok.1)

      accepted_later : (k : ℕ) (a : Sqe) → IsAccepted rules past k a → IsAccepted rules (event.Pick seen pick ∷ past) k a
      accepted_later k a ok =
          let lt : k < picked past 0 = ok.0 in
          (omega (arith, next.one_more, lt), subst (λ (x : TableHistory). is_success (status_of rules.start x a) ≡ true) (sym (old_table k (λ same. omega (arith, same, lt)))) ok.1)

      -- where it is accepted and turns the queue, no other does
      turned : (q : ℕ) → is_success (status_of rules.start table next.entry) ≡ true → Turns next.entry q → (finds log q ≡ not (opens_cq (admin_command_of next.entry))) × (has (event.Pick seen pick ∷ past) q ≡ opens_cq (admin_command_of next.entry))
      turned q success turns =
          let it = entry_turns rules.start table next.entry q success turns in (
            c.idle q (λ k a p ok t. (let same : k ≡ picked past 0 = c.alone q k (picked past 0) a next.entry p here t turns in let lt : k < picked past 0 = ok.0 in omega (arith, same, lt))) ∙ it.0,
            ap (λ (x : TableHistory). is_some (cq_at rules.start x q)) after_table ∙ it.1,
          )

      left : (q : ℕ) → (is_success (status_of rules.start table next.entry) ≡ true → turns_cq (admin_command_of next.entry) q ≡ false) → has (event.Pick seen pick ∷ past) q ≡ has past q
      left q none = ap (λ (x : TableHistory). is_some (cq_at rules.start x q)) after_table ∙ ap (λ (o : Option ℕ). is_some o) (entry_leaves rules.start table next.entry q none)

      cqs_admin : CqsAt log (event.Pick seen pick ∷ past)
      cqs_admin = record {
        alone = λ q k j one other p o t v. c.alone q k j one other p o t v;
        idle = λ q none.
            c.idle q (λ k a p ok t. none k a p (accepted_later k a ok) t)
            ∙ sym (left q (λ success. false_from_ne_true (turns_cq (admin_command_of next.entry) q) (λ turns. none (picked past 0) next.entry here (omega (arith, next.one_more), subst (λ (x : TableHistory). is_success (status_of rules.start x next.entry) ≡ true) (sym now_table) success) turns)));
        making = λ q k a p ok t. elim (cases_eq k (picked past 0)) [
          | inl same ↦
              let e = entry_same k a same p in
              let success : is_success (status_of rules.start table next.entry) ≡ true =
              subst (λ (x : Sqe). is_success (status_of rules.start table x) ≡ true) (sym e) (subst (λ (x : TableHistory). is_success (status_of rules.start x a) ≡ true) (ap (table_before rules (event.Pick seen pick ∷ past)) same ∙ now_table) ok.1) in
              subst (λ (x : Sqe). (finds log q ≡ not (opens_cq (admin_command_of x))) × (has (event.Pick seen pick ∷ past) q ≡ opens_cq (admin_command_of x))) e
              (turned q success (ap (λ (x : Sqe). turns_cq (admin_command_of x) q) e ∙ t))
          | inr other ↦
              let it = c.making q k a p (accepted_before k a other ok) t in
              (it.0, left q (λ success. false_from_ne_true (turns_cq (admin_command_of next.entry) q) (λ turns. other (c.alone q k (picked past 0) a next.entry p here t turns))) ∙ it.1)
        ];
      }

    cqs_pick : CqsAt log (event.Pick seen pick ∷ past)
    cqs_pick = elim (cases_eq pick.qid 0) [ inl z ↦ cqs_admin z | inr io ↦ cqs_io io ]

  -- ---- notes
  module _ (starts : StartsWithAdmin rules) (by_regions : placing_in rules ≡ None) where
    -- a fetch
    module _ (t j : ℕ) (entry : Sqe) (notes : Notes) (s : Stands rules (Logged (event.Fetch t j entry) ∷ notes)) (unmet : have_met (shown rules (Logged (event.Fetch t j entry) ∷ notes)) ≡ false) (c : CqsAt (shown rules notes) (logged notes)) where
      abbrev stands : Stands rules notes
      stands = stands_before rules (Logged (event.Fetch t j entry)) notes s

      abbrev then_log : Option ℕ → lives.Past
      then_log o = fetch_of o (j % sq_slots rules t) entry (shown rules notes)

      finds_same : (q : ℕ) (o : Option ℕ) → finds (then_log o) q ≡ finds (shown rules notes) q
      finds_same q None = refl
      finds_same q (Some p) = refl

      few : picked (logged notes) 0 ≤ length (fetched (logged notes) 0)
      few = few_picked rules (logged notes) (sound rules starts by_regions notes stands.each stands.lawful)

      -- no command that turns its queue is pending
      none_meets : t ≡ 0 → (k q : ℕ) (a : Sqe) → IsPending rules (logged notes) k a → Turns a q → Turns entry q → ⊥
      none_meets z k q a p turns new =
          let own : qid_of_region (logged notes) t ≡ Some 0 = ap (qid_of_region (logged notes)) z ∙ admin_qid rules (logged notes) (effects_of rules notes stands.each) in
          let none : have_met (then_log (Some 0)) ≡ false = subst (λ (o : Option ℕ). have_met (then_log o) ≡ false) own unmet in
          let apart : nat_lt (cq_replies (shown rules notes) q) (cq_asks (shown rules notes) q) ≡ false =
          sym (meets_is (shown rules notes) (admin_command_of entry) q new) ∙ (or_parts (meets (shown rules notes) (admin_command_of entry)) (have_met (shown rules notes)) none).0 in
          let fewer : cq_replies (shown rules notes) q < cq_asks (shown rules notes) q = pending_counts rules (λ (x : AdminCommand). turns_cq x q) refl notes stands k a p turns in
          let met : nat_lt (cq_replies (shown rules notes) q) (cq_asks (shown rules notes) q) ≡ true = lt-ltb (cq_replies (shown rules notes) q) (cq_asks (shown rules notes) q) fewer in
          cc (apart, met)

      -- a command that was picked was fetched before
      old : (k : ℕ) (a : Sqe) → IsPending rules (event.Fetch t j entry ∷ logged notes) k a → k < picked (logged notes) 0 → IsPending rules (logged notes) k a
      old k a p lt = elim (split rules starts by_regions t j entry notes s 0 k a p.0) [
        | inl earlier ↦ (earlier, p.1)
        | inr new ↦ absurd (omega (arith, lt, few, new.1))
      ]

      longer : (k : ℕ) (a : Sqe) → IsPending rules (logged notes) k a → IsPending rules (event.Fetch t j entry ∷ logged notes) k a
      longer k a p = (by (t == 0), p.1) where
        by : (b : Bool) → slice_get (if b then fetched (logged notes) 0 ++ entry ∷ [] else fetched (logged notes) 0) k ≡ Some a
        by true = entry-stays (fetched (logged notes) 0) (entry ∷ []) k a p.0
        by false = p.0

      cqs_fetch : CqsAt (shown rules (Logged (event.Fetch t j entry) ∷ notes)) (event.Fetch t j entry ∷ logged notes)
      cqs_fetch = record {
        alone = λ q k i one other p o turns too. elim (split rules starts by_regions t j entry notes s 0 k one p.0) [
          | inl first ↦ elim (split rules starts by_regions t j entry notes s 0 i other o.0) [
            | inl second ↦ c.alone q k i one other (first, p.1) (second, o.1) turns too
            | inr new ↦ absurd (none_meets new.0 k q one (first, p.1) turns (ap (λ (x : Sqe). turns_cq (admin_command_of x) q) new.2 ∙ too))
          ]
          | inr mine ↦ elim (split rules starts by_regions t j entry notes s 0 i other o.0) [
            | inl second ↦ absurd (none_meets mine.0 i q other (second, o.1) too (ap (λ (x : Sqe). turns_cq (admin_command_of x) q) mine.2 ∙ turns))
            | inr new ↦ mine.1 ∙ sym new.1
          ]
        ];
        idle = λ q none. finds_same q (qid_of_region (logged notes) t) ∙ c.idle q (λ k a p ok turns. none k a (longer k a p) ok turns);
        making = λ q k a p ok turns. (let it = c.making q k a (old k a p ok.0) ok turns in (finds_same q (qid_of_region (logged notes) t) ∙ it.0, it.1));
      }

    -- a completion
    module _ (b t j : ℕ) (cqe : Cqe) (notes : Notes) (s : Stands rules (Logged (event.Post b t j cqe) ∷ notes)) (c : CqsAt (shown rules notes) (logged notes)) where
      abbrev now : Stands rules notes
      now = stands_before rules (Logged (event.Post b t j cqe)) notes s

      abbrev posted : IsPosted rules notes b t j cqe
      posted = posted_so rules notes b t j cqe now.each s.each.0.posts_own

      abbrev what : AdminCommand
      what = done (shown rules notes) (completion_of cqe)

      abbrev later_log : Option ℕ → lives.Past
      later_log o = post_of o (length (posted_to (logged notes) b) % cq_slots rules b) cqe (shown rules notes)

      pending_before : (k : ℕ) (a : Sqe) → IsPending rules (event.Post b t j cqe ∷ logged notes) k a → IsPending rules (logged notes) k a
      pending_before k a p = (p.0, (or_parts (t == 0 && j == k) (is_posted (logged notes) 0 k) p.1).1)

      -- the accepted command of the place that turns a queue is done
      done_here : (q : ℕ) (a : Sqe) → t ≡ 0 → IsPending rules (logged notes) j a → IsAccepted rules (logged notes) j a → Turns a q → turns_cq what q ≡ true
      done_here q a z p ok turns =
          let sqid : cqe.sqid ≡ 0 = same_Some cqe.sqid 0 (sym posted.sqid ∙ ap (qid_of_region (logged notes)) z ∙ admin_qid rules (logged notes) (effects_of rules notes now.each)) in
          ap (λ (x : AdminCommand). turns_cq x q)
          (done_is rules notes now.each (admin_at rules notes now) b j cqe (subst (λ (k : ℕ). IsPosted rules notes b k j cqe) z posted) a p ok (own_turns a (admin_command_of a) q turns) sqid)
          ∙ turns

      -- what is done turns a queue where it is that of an accepted command
      turned_by : (q : ℕ) → turns_cq what q ≡ true → (a : Sqe) × (t ≡ 0) × IsPending rules (logged notes) j a × IsAccepted rules (logged notes) j a × (what ≡ admin_command_of a)
      turned_by q h = by (what_is_done rules (shown rules notes) notes now.each b t j cqe posted (admin_asks rules notes (admin_at rules notes now) j)) where
        by : (what ≡ Other) ⊎ IsDoneBy rules (shown rules notes) notes t j cqe → (a : Sqe) × (t ≡ 0) × IsPending rules (logged notes) j a × IsAccepted rules (logged notes) j a × (what ≡ admin_command_of a)
        by (inl other) = absurd (let none : turns_cq what q ≡ false = ap (λ (x : AdminCommand). turns_cq x q) other in cc (none, h))
        by (inr d) = elim d.why [
          | inl device ↦ absurd (
              let none : turns_cq (admin_command_of d.entry) q ≡ false = (device_turns d.entry (admin_command_of d.entry) device q).1 in
              let some : turns_cq (admin_command_of d.entry) q ≡ true = ap (λ (x : AdminCommand). turns_cq x q) (sym d.command_is) ∙ h in
              cc (none, some))
          | inr success ↦ (
            d.entry,
            d.of_admin,
            (d.is_there, subst (λ (k : ℕ). is_posted (logged notes) k j ≡ false) d.of_admin posted.no_post),
            (admin_picked rules (logged notes) (effects_of rules notes now.each) j (subst (λ (k : ℕ). is_waiting (fate_of (logged notes) k j) ≡ false) d.of_admin posted.served), success),
            d.command_is,
          )
        ]

      -- a queue that isn't turned
      left_idle : (q p : ℕ) → turns_cq what q ≡ false → ((k : ℕ) (a : Sqe) → IsPending rules (event.Post b t j cqe ∷ logged notes) k a → IsAccepted rules (logged notes) k a → Turns a q → ⊥) → finds (later_log (Some p)) q ≡ has (logged notes) q
      left_idle q p leaves none =
          ap (λ (o : Option ℕ). is_some o) (qsize_leaves what q (qsize_of (start_of rules) (shown rules notes) q) leaves)
          ∙ c.idle q (λ k a pending ok turns. elim (cases_Bool (t == 0 && j == k)) [
            | inr other ↦ none k a (pending.0, rw other pending.1) ok turns
            | inl here ↦
                let parts = and_parts (t == 0) (j == k) here in
                let same : k ≡ j = sym (eqb-true j k parts.1) in
                let done_too : turns_cq what q ≡ true = done_here q a (eqb-true t 0 parts.0) (subst (λ (z : ℕ). IsPending rules (logged notes) z a) same pending) (subst (λ (z : ℕ). IsAccepted rules (logged notes) z a) same ok) turns in
                cc (done_too, leaves)
          ])

      -- one that is
      now_idle : (q p : ℕ) → turns_cq what q ≡ true → finds (later_log (Some p)) q ≡ has (logged notes) q
      now_idle q p turned =
          let it = turned_by q turned in
          let made = c.making q j it.0 it.2 it.3 (ap (λ (x : AdminCommand). turns_cq x q) (sym it.4) ∙ turned) in
          qsize_turns what q (qsize_of (start_of rules) (shown rules notes) q) turned ∙ ap opens_cq it.4 ∙ sym made.1

      none_else : (q k : ℕ) (a : Sqe) → turns_cq what q ≡ true → IsPending rules (event.Post b t j cqe ∷ logged notes) k a → Turns a q → ⊥
      none_else q k a turned pending turns =
          let it = turned_by q turned in
          let same : k ≡ j = c.alone q k j a it.0 (pending_before k a pending) it.2 turns (ap (λ (x : AdminCommand). turns_cq x q) (sym it.4) ∙ turned) in
          let here : (t == 0 && j == k) ≡ true = and_from (t == 0) (j == k) (eq-eqb t 0 it.1) (eq-eqb j k (sym same)) in
          let not_here : (t == 0 && j == k) ≡ false = (or_parts (t == 0 && j == k) (is_posted (logged notes) 0 k) pending.1).0 in
          cc (here, not_here)

      cqs_into : (p : ℕ) → CqsAt (later_log (Some p)) (event.Post b t j cqe ∷ logged notes)
      cqs_into p = record {
        alone = λ q k i one other x o turns too. c.alone q k i one other (pending_before k one x) (pending_before i other o) turns too;
        idle = λ q none. elim (cases_Bool (turns_cq what q)) [
          | inl turned ↦ now_idle q p turned
          | inr leaves ↦ left_idle q p leaves (λ k a pending ok turns. none k a pending ok turns)
        ];
        making = λ q k a pending ok turns. elim (cases_Bool (turns_cq what q)) [
          | inl turned ↦ absurd (none_else q k a turned pending turns)
          | inr leaves ↦
              let it = c.making q k a (pending_before k a pending) ok turns in
              (ap (λ (o : Option ℕ). is_some o) (qsize_leaves what q (qsize_of (start_of rules) (shown rules notes) q) leaves) ∙ it.0, it.1)
        ];
      }

      cqs_post : CqsAt (shown rules (Logged (event.Post b t j cqe) ∷ notes)) (event.Post b t j cqe ∷ logged notes)
      cqs_post =
          let into = posts_there (logged notes) t b posted.region in
          subst (λ (o : Option ℕ). CqsAt (later_log o) (event.Post b t j cqe ∷ logged notes)) (sym into.1) (cqs_into into.0)

    -- none met before
    pub unmet_before : (note : Note) (notes : Notes) → have_met (shown rules (note ∷ notes)) ≡ false → have_met (shown rules notes) ≡ false
    unmet_before (Tail r slot) notes h = by (qid_of_region (logged notes) r) h where
      by : (o : Option ℕ) → have_met (tail_of o slot (shown rules notes)) ≡ false → have_met (shown rules notes) ≡ false
      by None k = k
      by (Some q) k = k
    unmet_before (Head x slot) notes h = by (cqid_of_region (logged notes) x) h where
      by : (o : Option ℕ) → have_met (head_of o slot (shown rules notes)) ≡ false → have_met (shown rules notes) ≡ false
      by None k = k
      by (Some q) k = k
    unmet_before (Logged (event.Fetch r i entry)) notes h = by (qid_of_region (logged notes) r) h where
      by : (o : Option ℕ) → have_met (fetch_of o (i % sq_slots rules r) entry (shown rules notes)) ≡ false → have_met (shown rules notes) ≡ false
      by None k = k
      by (Some q) k = (or_parts (meets (shown rules notes) (asking q (admin_command_of entry))) (have_met (shown rules notes)) k).1
    unmet_before (Logged (event.Post x r i cqe)) notes h = by (cqid_of_region (logged notes) x) h where
      by : (o : Option ℕ) → have_met (post_of o (length (posted_to (logged notes) x) % cq_slots rules x) cqe (shown rules notes)) ≡ false → have_met (shown rules notes) ≡ false
      by None k = k
      by (Some q) k = k
    unmet_before (Logged e) notes h = h
    unmet_before note notes h = h

    pub cqs_at : (notes : Notes) → Stands rules notes → have_met (shown rules notes) ≡ false → CqsAt (shown rules notes) (logged notes)
    cqs_at [] s m = record {
      alone = λ q k j one other p o turns too. absurd (none-some one p.0);
      idle = λ q none. first q;
      making = λ q k a p ok turns. absurd (none-some a p.0);
    } where
      first : (q : ℕ) → finds [] q ≡ has [] q
      first q = by (q == 0) ∙ ap (λ (o : Option ℕ). is_some o) (starts.cq q) where
        by : (x : Bool) → is_some (if◌then◌else◌ {A = Option ℕ} x (Some (start_of rules).acqs) None) ≡ is_some (if◌then◌else◌ {A = Option ℕ} x (Some 0) None)
        by true = refl
        by false = refl
    cqs_at (Tail r slot ∷ notes) s m = cqs_tail (shown rules notes) (logged notes) (qid_of_region (logged notes) r) slot (cqs_at notes (stands_before rules (Tail r slot) notes s) (unmet_before (Tail r slot) notes m))
    cqs_at (Head x slot ∷ notes) s m = cqs_head (shown rules notes) (logged notes) (cqid_of_region (logged notes) x) slot (cqs_at notes (stands_before rules (Head x slot) notes s) (unmet_before (Head x slot) notes m))
    cqs_at (Logged (event.Fetch r i entry) ∷ notes) s m = cqs_fetch r i entry notes s m (cqs_at notes (stands_before rules (Logged (event.Fetch r i entry)) notes s) (unmet_before (Logged (event.Fetch r i entry)) notes m))
    cqs_at (Logged (event.Post x r i cqe) ∷ notes) s m = cqs_post x r i cqe notes s (cqs_at notes (stands_before rules (Logged (event.Post x r i cqe)) notes s) (unmet_before (Logged (event.Post x r i cqe)) notes m))
    cqs_at (Logged (event.Pick seen pick) ∷ notes) s m =
        let before = stands_before rules (Logged (event.Pick seen pick)) notes s in
        cqs_pick (shown rules notes) (logged notes) seen pick (sound rules starts by_regions (Logged (event.Pick seen pick) ∷ notes) s.each s.lawful) (cqs_at notes before m)
        (false_from_ne_true (is_posted (logged notes) 0 (picked (logged notes) 0)) (λ p. let few = (io_at rules starts by_regions notes before).picked_posts (picked (logged notes) 0) p in absurd (omega (arith, few))))
    cqs_at (Logged (event.SetArbitration x) ∷ notes) s m = cqs_event (shown rules notes) (logged notes) (event.SetArbitration x) tt (cqs_at notes (stands_before rules (Logged (event.SetArbitration x)) notes s) m)
    cqs_at (Logged (event.OpenSq q r x k) ∷ notes) s m = cqs_event (shown rules notes) (logged notes) (event.OpenSq q r x k) tt (cqs_at notes (stands_before rules (Logged (event.OpenSq q r x k)) notes s) m)
    cqs_at (Logged (event.OpenCq q r) ∷ notes) s m = cqs_event (shown rules notes) (logged notes) (event.OpenCq q r) tt (cqs_at notes (stands_before rules (Logged (event.OpenCq q r)) notes s) m)
    cqs_at (Logged (event.Closing q r) ∷ notes) s m = cqs_event (shown rules notes) (logged notes) (event.Closing q r) tt (cqs_at notes (stands_before rules (Logged (event.Closing q r)) notes s) m)
    cqs_at (Logged (event.Abort r i) ∷ notes) s m = cqs_event (shown rules notes) (logged notes) (event.Abort r i) tt (cqs_at notes (stands_before rules (Logged (event.Abort r i)) notes s) m)
    cqs_at (Logged (event.ClosedSq q r) ∷ notes) s m = cqs_event (shown rules notes) (logged notes) (event.ClosedSq q r) tt (cqs_at notes (stands_before rules (Logged (event.ClosedSq q r)) notes s) m)
    cqs_at (Logged (event.ClosedCq q r) ∷ notes) s m = cqs_event (shown rules notes) (logged notes) (event.ClosedCq q r) tt (cqs_at notes (stands_before rules (Logged (event.ClosedCq q r)) notes s) m)
    cqs_at (note ∷ notes) s m = cqs_at notes (stands_before rules note notes s) m
