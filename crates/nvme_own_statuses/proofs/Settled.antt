-- Where as many admin commands of a kind were answered before the fetch of a command as were fetched by now, none was fetched since: what the table had at
-- the pick of the command it has still.
use Rattle.std.proofs.Common.{◌≡◌, ℕ, ◌+◌, ◌%◌, ◌<◌, ◌≤◌, ◌==◌, ◌&&◌, Bool, true, false, if◌then◌else◌, List, [], ◌∷◌, ◌++◌, length, Option, Some, None, refl, sym, ap, ◌∙◌, arith, inl, inr}
use Rattle.std.proofs.lemmas.Bool.{cases_eq, eq-eqb, ne_eqb, or_parts, false_from_ne_true}
use Rattle.std.proofs.lemmas.Option.{none-some, same_Some, slice_get_within}
use Rattle.nvme_entry.specs.AdminCommand.{admin_command_of}
use Rattle.nvme_entry.specs.declared.submission.Sqe.{Sqe}
use Rattle.nvme_entry.specs.declared.completion.Cqe.{Cqe}
use Rattle.nvme_entry.specs.declared.admin.AdminCommand.{AdminCommand}
use Rattle.nvme_entry.specs.declared.admin.AdminCommand.TheVariants.{Other}
use Rattle.nvme_arbiter.specs.declared.pick.Pick.{Pick}
use Rattle.nvme_arbiter.specs.declared.pick.Seen.{Seen}
use Rattle.nvme_admin.specs.History.{TableHistory, EntryApplied, DeletionFinished}
use Rattle.nvme_log.specs.declared.event.Event.TheVariants as event
use Rattle.nvme_log.specs.Rules.{FrontRules, Past}
use Rattle.nvme_log.specs.Queues.{qid_of_region}
use Rattle.nvme_log.specs.Places.{fetched, picked, entry_at}
use Rattle.nvme_log.specs.Histories.{table_history, applied}
use Rattle.nvme_log.specs.Completions.{is_posted, posted_to, table_before}
use Rattle.nvme_log.specs.Laws.{StartsWithAdmin}
use Rattle.nvme_ctrl_log.specs.Notes.{Notes, Logged, Tail, Head, logged}
use Rattle.nvme_ctrl_log.specs.Doorbells.{sq_slots, cq_slots}
use Rattle.nvme_ctrl_log.specs.Making.{placing_in}
use Rattle.nvme_ctrl_log.proofs.TakenCommands.{IsSound}
use Rattle.nvme_audit.specs.Lives as lives
use Rattle.nvme_audit.specs.Turns.{asking, answered, asks_of, replies_of}
use Rattle.nvme_audit.specs.Marks.{mark_for, mark_of}
use Rattle.nvme_own_log.specs.Shown.{cqid_of_region, completion_of, tail_of, head_of, fetch_of, post_of, shown}
use Rattle.nvme_own_log.proofs.AdminQueues.{effects_of}
use Rattle.nvme_own_log.proofs.AdminTurns.{TakesNext, takes_next, takes_other, few_picked}
use Rattle.nvme_own_log.proofs.IoQueues.{sound}
use Rattle.nvme_own_log.proofs.OwnRegions.{admin_qid}
use Rattle.nvme_own_log.proofs.Phases.{IsPending}
use Rattle.nvme_own_statuses.proofs.Counts.{few_answered, pending_counts}
use Rattle.nvme_own_statuses.proofs.Standing.{Stands, stands_before}
use Rattle.nvme_own_statuses.proofs.TellsNotes.{split, marks_same, free}

module _ (rules : FrontRules) (starts : StartsWithAdmin rules) (by_regions : placing_in rules ≡ None) (kind : AdminCommand → Bool) (no_other : kind Other ≡ false) where
  -- a command that is marked with how many of the kind were answered, and is none of them
  pub record IsMarked (a : Sqe) : Type 0 where
    pub mark_is : (log : lives.Past) → mark_for log (admin_command_of a) ≡ replies_of kind log
    pub other_kind : kind (admin_command_of a) ≡ false

  -- by now no fewer were answered
  abbrev AreLow : lives.Past → Past → Type 0
  AreLow log past = (k : ℕ) (a : Sqe) → IsPending rules past k a → IsMarked a → mark_of log 0 a.cid ≤ replies_of kind log

  -- one that was fetched later is counted
  abbrev AreCounted : lives.Past → Past → Type 0
  AreCounted log past = (k n : ℕ) (a x : Sqe) → IsPending rules past k a → IsMarked a → k < n → entry_at past 0 n ≡ Some x → kind (admin_command_of x) ≡ true → mark_of log 0 a.cid < asks_of kind log

  -- a fetch
  module _ (t j : ℕ) (entry : Sqe) (notes : Notes) (s : Stands rules (Logged (event.Fetch t j entry) ∷ notes)) where
    abbrev past : Past
    past = logged notes

    abbrev log : lives.Past
    log = shown rules notes

    abbrev now : Stands rules notes
    now = stands_before rules (Logged (event.Fetch t j entry)) notes s

    abbrev then_log : Option ℕ → lives.Past
    then_log o = fetch_of o (j % sq_slots rules t) entry log

    shows : t ≡ 0 → qid_of_region past t ≡ Some 0
    shows z = ap (qid_of_region past) z ∙ admin_qid rules past (effects_of rules notes now.each)

    replies_same : (o : Option ℕ) → replies_of kind (then_log o) ≡ replies_of kind log
    replies_same None = refl
    replies_same (Some p) = refl

    asks_grow : (o : Option ℕ) → asks_of kind log ≤ asks_of kind (then_log o)
    asks_grow None = omega arith
    asks_grow (Some p) = by (kind (asking p (admin_command_of entry))) where
      by : (b : Bool) → asks_of kind log ≤ (if b then asks_of kind log + 1 else asks_of kind log)
      by true = omega arith
      by false = omega arith

    asks_more : (x : Sqe) → t ≡ 0 → entry ≡ x → kind (admin_command_of x) ≡ true → asks_of kind (then_log (qid_of_region past t)) ≡ asks_of kind log + 1
    asks_more x z same own = ap (λ (o : Option ℕ). asks_of kind (then_log o)) (shows z) ∙ rw (ap (λ (y : Sqe). kind (admin_command_of y)) same ∙ own) refl

    old_mark : (k : ℕ) (a : Sqe) → IsPending rules past k a → mark_of (then_log (qid_of_region past t)) 0 a.cid ≡ mark_of log 0 a.cid
    old_mark k a p =
        marks_same rules starts by_regions t j entry notes s 0 k 0 a (record { own = admin_qid rules past (effects_of rules notes now.each); is_there = p.0; unposted = p.1 })
        (qid_of_region past t) (free rules starts by_regions t j entry notes s)

    new_mark : (a : Sqe) → t ≡ 0 → entry ≡ a → IsMarked a → mark_of (then_log (qid_of_region past t)) 0 a.cid ≡ replies_of kind log
    new_mark a z same m =
        ap (λ (o : Option ℕ). mark_of (then_log o) 0 a.cid) (shows z)
        ∙ rw (eq-eqb entry.cid a.cid (ap (λ (y : Sqe). y.cid) same)) (ap (mark_for log) (ap (λ (y : Sqe). admin_command_of y) same) ∙ m.mark_is log)

    low_fetch : AreLow log past → AreLow (shown rules (Logged (event.Fetch t j entry) ∷ notes)) (event.Fetch t j entry ∷ past)
    low_fetch low k a p m = elim (split rules starts by_regions t j entry notes s 0 k a p.0) [
      | inl old ↦ (let mark = old_mark k a (old, p.1) in let before = low k a (old, p.1) m in omega (arith, mark, before, replies_same (qid_of_region past t)))
      | inr new ↦ (let mark = new_mark a new.0 new.2 m in omega (arith, mark, replies_same (qid_of_region past t)))
    ]

    counted_fetch : AreLow log past → AreCounted log past → AreCounted (shown rules (Logged (event.Fetch t j entry) ∷ notes)) (event.Fetch t j entry ∷ past)
    counted_fetch low later k n a x p m lt at own = elim (split rules starts by_regions t j entry notes s 0 k a p.0) [
      | inl old ↦ elim (split rules starts by_regions t j entry notes s 0 n x at) [
        | inl earlier ↦ (let mark = old_mark k a (old, p.1) in let before = later k n a x (old, p.1) m lt earlier own in omega (arith, mark, before, asks_grow (qid_of_region past t)))
        | inr newest ↦
            let mark = old_mark k a (old, p.1) in
            let before = low k a (old, p.1) m in
            let more = asks_more x newest.0 newest.2 own in
            omega (arith, mark, before, more, few_answered rules kind no_other notes now)
      ]
      | inr new ↦ elim (split rules starts by_regions t j entry notes s 0 n x at) [
        | inl earlier ↦ (let within = slice_get_within (fetched past 0) n x earlier in absurd (omega (arith, within, lt, new.1)))
        | inr newest ↦ absurd (omega (arith, lt, new.1, newest.1))
      ]
    ]

  -- a completion
  module _ (b t j : ℕ) (cqe : Cqe) (notes : Notes) where
    abbrev later_log : Option ℕ → lives.Past
    later_log o = post_of o (length (posted_to (logged notes) b) % cq_slots rules b) cqe (shown rules notes)

    pending_before : (k : ℕ) (a : Sqe) → IsPending rules (event.Post b t j cqe ∷ logged notes) k a → IsPending rules (logged notes) k a
    pending_before k a p = (p.0, (or_parts (t == 0 && j == k) (is_posted (logged notes) 0 k) p.1).1)

    low_post : AreLow (shown rules notes) (logged notes) → AreLow (shown rules (Logged (event.Post b t j cqe) ∷ notes)) (event.Post b t j cqe ∷ logged notes)
    low_post low k a p m = by (cqid_of_region (logged notes) b) (low k a (pending_before k a p) m) where
      more : (x : Bool) → mark_of (shown rules notes) 0 a.cid ≤ replies_of kind (shown rules notes) → mark_of (shown rules notes) 0 a.cid ≤ (if x then replies_of kind (shown rules notes) + 1 else replies_of kind (shown rules notes))
      more true h = omega (arith, h)
      more false h = h

      by : (o : Option ℕ) → mark_of (shown rules notes) 0 a.cid ≤ replies_of kind (shown rules notes) → mark_of (later_log o) 0 a.cid ≤ replies_of kind (later_log o)
      by None h = h
      by (Some q) h = more (kind (answered (shown rules notes) (completion_of cqe))) h

    counted_post : AreCounted (shown rules notes) (logged notes) → AreCounted (shown rules (Logged (event.Post b t j cqe) ∷ notes)) (event.Post b t j cqe ∷ logged notes)
    counted_post later k n a x p m lt at own = by (cqid_of_region (logged notes) b) (later k n a x (pending_before k a p) m lt at own) where
      by : (o : Option ℕ) → mark_of (shown rules notes) 0 a.cid < asks_of kind (shown rules notes) → mark_of (later_log o) 0 a.cid < asks_of kind (later_log o)
      by None h = h
      by (Some q) h = h

  pub low_at : (notes : Notes) → Stands rules notes → AreLow (shown rules notes) (logged notes)
  low_at [] s = λ k a p m. absurd (none-some a p.0)
  low_at (Tail r slot ∷ notes) s = by (qid_of_region (logged notes) r) (low_at notes (stands_before rules (Tail r slot) notes s)) where
    by : (o : Option ℕ) → AreLow (shown rules notes) (logged notes) → AreLow (tail_of o slot (shown rules notes)) (logged notes)
    by None low = low
    by (Some q) low = low
  low_at (Head c slot ∷ notes) s = by (cqid_of_region (logged notes) c) (low_at notes (stands_before rules (Head c slot) notes s)) where
    by : (o : Option ℕ) → AreLow (shown rules notes) (logged notes) → AreLow (head_of o slot (shown rules notes)) (logged notes)
    by None low = low
    by (Some q) low = low
  low_at (Logged (event.Fetch r i entry) ∷ notes) s = low_fetch r i entry notes s (low_at notes (stands_before rules (Logged (event.Fetch r i entry)) notes s))
  low_at (Logged (event.Post c r i cqe) ∷ notes) s = low_post c r i cqe notes (low_at notes (stands_before rules (Logged (event.Post c r i cqe)) notes s))
  low_at (Logged e ∷ notes) s = low_at notes (stands_before rules (Logged e) notes s)
  low_at (note ∷ notes) s = low_at notes (stands_before rules note notes s)

  counted_at : (notes : Notes) → Stands rules notes → AreCounted (shown rules notes) (logged notes)
  counted_at [] s = λ k n a x p m lt at own. absurd (none-some a p.0)
  counted_at (Tail r slot ∷ notes) s = by (qid_of_region (logged notes) r) (counted_at notes (stands_before rules (Tail r slot) notes s)) where
    by : (o : Option ℕ) → AreCounted (shown rules notes) (logged notes) → AreCounted (tail_of o slot (shown rules notes)) (logged notes)
    by None later = later
    by (Some q) later = later
  counted_at (Head c slot ∷ notes) s = by (cqid_of_region (logged notes) c) (counted_at notes (stands_before rules (Head c slot) notes s)) where
    by : (o : Option ℕ) → AreCounted (shown rules notes) (logged notes) → AreCounted (head_of o slot (shown rules notes)) (logged notes)
    by None later = later
    by (Some q) later = later
  counted_at (Logged (event.Fetch r i entry) ∷ notes) s = (let b = stands_before rules (Logged (event.Fetch r i entry)) notes s in counted_fetch r i entry notes s (low_at notes b) (counted_at notes b))
  counted_at (Logged (event.Post c r i cqe) ∷ notes) s = counted_post c r i cqe notes (counted_at notes (stands_before rules (Logged (event.Post c r i cqe)) notes s))
  counted_at (Logged e ∷ notes) s = counted_at notes (stands_before rules (Logged e) notes s)
  counted_at (note ∷ notes) s = counted_at notes (stands_before rules note notes s)

  -- while a command is pending that was marked with as many as were fetched, none of the kind is
  pub none_pends : (notes : Notes) → Stands rules notes → (k : ℕ) (a : Sqe) → IsPending rules (logged notes) k a → IsMarked a → asks_of kind (shown rules notes) ≤ mark_of (shown rules notes) 0 a.cid
      → (n : ℕ) (x : Sqe) → IsPending rules (logged notes) n x → kind (admin_command_of x) ≡ true → ⊥
  none_pends notes s k a p m settled n x pending own =
      let low = low_at notes s k a p m in
      let fewer = pending_counts rules kind no_other notes s n x pending own in
      omega (arith, low, fewer, settled)

  -- ---- what the table has, which commands of the kind alone change
  module _ (X : Type 0) (F : TableHistory → X)
      (leaves : (h : TableHistory) (entry : Sqe) → kind (admin_command_of entry) ≡ false → F (EntryApplied entry ∷ h) ≡ F h)
      (ends : (qid r : ℕ) (notes : Notes) → Stands rules (Logged (event.ClosedSq qid r) ∷ notes) → asks_of kind (shown rules notes) ≤ replies_of kind (shown rules notes)
      → F (DeletionFinished qid ∷ table_history rules (logged notes)) ≡ F (table_history rules (logged notes))) where
    abbrev AreSame : lives.Past → Past → Type 0
    AreSame log past = (k : ℕ) (a : Sqe) → IsPending rules past k a → IsMarked a → k < picked past 0 → asks_of kind log ≤ mark_of log 0 a.cid → F (table_before rules past k) ≡ F (table_history rules past)

    same_pick : (seen : List Seen) (pick : Pick) (notes : Notes) → Stands rules (Logged (event.Pick seen pick) ∷ notes) → AreSame (shown rules notes) (logged notes) → AreSame (shown rules notes) (event.Pick seen pick ∷ logged notes)
    same_pick seen pick notes s same k a p m lt settled = elim (cases_eq pick.qid 0) [ inl z ↦ admin z | inr io ↦ other io ] where
      is_sound : IsSound rules (event.Pick seen pick ∷ logged notes)
      is_sound = sound rules starts by_regions (Logged (event.Pick seen pick) ∷ notes) s.each s.lawful

      other : (pick.qid ≡ 0 → ⊥) → F (table_before rules (event.Pick seen pick ∷ logged notes) k) ≡ F (table_history rules (event.Pick seen pick ∷ logged notes))
      other io =
          let table : table_history rules (event.Pick seen pick ∷ logged notes) ≡ table_history rules (logged notes) = rw (ne_eqb pick.qid 0 io) refl in
          let before : table_before rules (event.Pick seen pick ∷ logged notes) k ≡ table_before rules (logged notes) k = rw (ne_eqb pick.qid 0 io) refl in
          ap F before ∙ same k a p m (omega (arith, lt, takes_other rules (logged notes) seen pick is_sound io)) settled ∙ ap F (sym table)

      admin : pick.qid ≡ 0 → F (table_before rules (event.Pick seen pick ∷ logged notes) k) ≡ F (table_history rules (event.Pick seen pick ∷ logged notes))
      admin z = elim (cases_eq k (picked (logged notes) 0)) [
        | inl here ↦
            let now : table_before rules (event.Pick seen pick ∷ logged notes) k ≡ table_history rules (logged notes) = rw (eq-eqb pick.qid 0 z, next.oldest, eq-eqb (picked (logged notes) 0) k (sym here)) refl in
            let entry : next.entry ≡ a = same_Some next.entry a (sym next.is_there ∙ ap (entry_at (logged notes) 0) (sym here) ∙ p.0) in
            ap F now ∙ sym (leaves (table_history rules (logged notes)) next.entry (ap (λ (x : Sqe). kind (admin_command_of x)) entry ∙ m.other_kind)) ∙ ap F (sym after)
        | inr apart ↦
            let before : table_before rules (event.Pick seen pick ∷ logged notes) k ≡ table_before rules (logged notes) k =
            rw (eq-eqb pick.qid 0 z, next.oldest, ne_eqb (picked (logged notes) 0) k (λ e. apart (sym e))) refl in
            let few : k < picked (logged notes) 0 = omega (arith, lt, apart, next.one_more) in
            let none : kind (admin_command_of next.entry) ≡ false = false_from_ne_true (kind (admin_command_of next.entry)) (λ own.
            let more = counted_at notes (stands_before rules (Logged (event.Pick seen pick)) notes s) k (picked (logged notes) 0) a next.entry p m few next.is_there own in omega (arith, more, settled)) in
            ap F before ∙ same k a p m few settled ∙ sym (leaves (table_history rules (logged notes)) next.entry none) ∙ ap F (sym after)
      ] where
        next : TakesNext rules (logged notes) seen pick
        next = takes_next rules (logged notes) seen pick is_sound z

        after : table_history rules (event.Pick seen pick ∷ logged notes) ≡ EntryApplied next.entry ∷ table_history rules (logged notes)
        after = λ i. if eq-eqb pick.qid 0 z i then applied (next.entry_is i) ++ table_history rules (logged notes) else table_history rules (logged notes)

    same_fetch : (t j : ℕ) (entry : Sqe) (notes : Notes) → Stands rules (Logged (event.Fetch t j entry) ∷ notes) → AreSame (shown rules notes) (logged notes)
        → AreSame (shown rules (Logged (event.Fetch t j entry) ∷ notes)) (event.Fetch t j entry ∷ logged notes)
    same_fetch t j entry notes s same k a p m lt settled = elim (split rules starts by_regions t j entry notes s 0 k a p.0) [
      | inl old ↦ same k a (old, p.1) m lt (let mark = old_mark t j entry notes s k a (old, p.1) in omega (arith, settled, mark, asks_grow t j entry notes s (qid_of_region (logged notes) t)))
      | inr new ↦ absurd (
          let b = stands_before rules (Logged (event.Fetch t j entry)) notes s in
          let few : picked (logged notes) 0 ≤ length (fetched (logged notes) 0) = few_picked rules (logged notes) (sound rules starts by_regions notes b.each b.lawful) in
          omega (arith, lt, few, new.1))
    ]

    same_post : (b t j : ℕ) (cqe : Cqe) (notes : Notes) → AreSame (shown rules notes) (logged notes) → AreSame (shown rules (Logged (event.Post b t j cqe) ∷ notes)) (event.Post b t j cqe ∷ logged notes)
    same_post b t j cqe notes same k a p m lt settled = same k a (pending_before b t j cqe notes k a p) m lt (by (cqid_of_region (logged notes) b) settled) where
      by : (o : Option ℕ) → asks_of kind (later_log b t j cqe notes o) ≤ mark_of (later_log b t j cqe notes o) 0 a.cid → asks_of kind (shown rules notes) ≤ mark_of (shown rules notes) 0 a.cid
      by None h = h
      by (Some q) h = h

    same_closed : (qid r : ℕ) (notes : Notes) → Stands rules (Logged (event.ClosedSq qid r) ∷ notes) → AreSame (shown rules notes) (logged notes) → AreSame (shown rules notes) (event.ClosedSq qid r ∷ logged notes)
    same_closed qid r notes s same k a p m lt settled =
        let low = low_at notes (stands_before rules (Logged (event.ClosedSq qid r)) notes s) k a p m in
        same k a p m lt settled ∙ sym (ends qid r notes s (omega (arith, low, settled)))

    pub same_at : (notes : Notes) → Stands rules notes → AreSame (shown rules notes) (logged notes)
    same_at [] s = λ k a p m lt settled. absurd (none-some a p.0)
    same_at (Tail r slot ∷ notes) s = by (qid_of_region (logged notes) r) (same_at notes (stands_before rules (Tail r slot) notes s)) where
      by : (o : Option ℕ) → AreSame (shown rules notes) (logged notes) → AreSame (tail_of o slot (shown rules notes)) (logged notes)
      by None same = same
      by (Some q) same = same
    same_at (Head c slot ∷ notes) s = by (cqid_of_region (logged notes) c) (same_at notes (stands_before rules (Head c slot) notes s)) where
      by : (o : Option ℕ) → AreSame (shown rules notes) (logged notes) → AreSame (head_of o slot (shown rules notes)) (logged notes)
      by None same = same
      by (Some q) same = same
    same_at (Logged (event.Fetch r i entry) ∷ notes) s = same_fetch r i entry notes s (same_at notes (stands_before rules (Logged (event.Fetch r i entry)) notes s))
    same_at (Logged (event.Post c r i cqe) ∷ notes) s = same_post c r i cqe notes (same_at notes (stands_before rules (Logged (event.Post c r i cqe)) notes s))
    same_at (Logged (event.Pick seen pick) ∷ notes) s = same_pick seen pick notes s (same_at notes (stands_before rules (Logged (event.Pick seen pick)) notes s))
    same_at (Logged (event.ClosedSq qid r) ∷ notes) s = same_closed qid r notes s (same_at notes (stands_before rules (Logged (event.ClosedSq qid r)) notes s))
    same_at (Logged e ∷ notes) s = same_at notes (stands_before rules (Logged e) notes s)
    same_at (note ∷ notes) s = same_at notes (stands_before rules note notes s)
