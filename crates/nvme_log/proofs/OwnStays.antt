-- What the completion of a place is by stays as the log grows behind its post.
use Rattle.std.proofs.Common.{◌≡◌, ℕ, ◌==◌, ◌&&◌, ◌||◌, Bool, true, false, if◌then◌else◌, List, [], ◌∷◌, ◌++◌, length, Option, Some, None, refl, sym, ap, ◌∙◌, subst, arith, append_assoc, length-append, inl, inr}
use Rattle.std.specs.Prelude.{slice_get}
use Rattle.std.proofs.lemmas.Bool.{eqb-true, eq-eqb, and_parts, and_right, false_from_ne_true}
use Rattle.std.proofs.lemmas.Option.{none-some}
use Rattle.nvme_entry.specs.Status.{abort_requested, aborted_by_deletion}
use Rattle.nvme_entry.specs.declared.submission.Sqe.{Sqe}
use Rattle.nvme_entry.specs.declared.completion.Cqe.{Cqe}
use Rattle.nvme_arbiter.specs.declared.settings.Class.{Class}
use Rattle.nvme_arbiter.specs.declared.pick.Seen.{Seen}
use Rattle.nvme_arbiter.specs.declared.pick.Pick.{Pick}
use Rattle.nvme_admin.specs.History.{TableHistory, EntryApplied}
use Rattle.nvme_admin.specs.Accepted.{queue_table, status_of, dw0_of, verdict_of}
use Rattle.nvme_admin.specs.Changes.{IsDue, MayOpenSq}
use Rattle.nvme_admin.specs.declared.verdict.Verdict.{Verdict}
use Rattle.nvme_admin.specs.declared.verdict.Verdict.TheVariants as verdict
use Rattle.nvme_admin.proofs.Changed.{TellsChange-entry}
use Rattle.nvme_log.specs.declared.event.Event.{Event}
use Rattle.nvme_log.specs.declared.event.Event.TheVariants.{Fetch, OpenSq, Abort, Post, ClosedSq}
use Rattle.nvme_log.specs.declared.event.Event.TheVariants as event
use Rattle.nvme_log.specs.Rules.{Past, FrontRules, Each}
use Rattle.nvme_log.specs.Queues.{open_cq, cq_region_of}
use Rattle.nvme_log.specs.Places.{waiting, fate_of, is_waiting, is_aborted}
use Rattle.nvme_log.specs.Histories.{table_history, admin_entry, applied}
use Rattle.nvme_log.specs.Aborts.{is_abort_requested, taken_by, just_picked, is_index, has_aborted, told_dw0}
use Rattle.nvme_log.specs.Answers.{Answer, Executor, outcome_answer}
use Rattle.nvme_log.specs.Completions.{table_before, own_status_by, own_dw0_by}
use Rattle.nvme_log.specs.Effects.{made_of, made_last, effects_since, EffectsAtOnce}
use Rattle.nvme_log.specs.Account.{PostsOwn, PostsOwnBy}
use Rattle.nvme_log.proofs.Members.{IsIn, in-prefix, in-first}
use Rattle.nvme_log.proofs.Prefixes.{Each-after}
use Rattle.nvme_log.proofs.Turns.{in-waits, stays, aborted-by, opened-by, IsMadeBy, made-by, region_0-used}
use Rattle.nvme_log.proofs.UsedRegions.{used_after, used-entry, used-finished}

module _ (rules : FrontRules) where
  -- ---- what isn't due
  -- an event isn't among what the latest command still makes
  abbrev pub IsNotDue : Past → Event → Type 0
  IsNotDue past e = (rest : List Event) → effects_since past ++ rest ≡ made_last rules past → IsIn e rest → ⊥

  -- nothing is due where all effects are there
  none-due : (xs rest made : List Event) (e : Event) → xs ≡ made → xs ++ rest ≡ made → IsIn e rest → ⊥
  none-due xs [] made e all more h = h
  none-due xs (x ∷ rest) made e all more h = omega (arith, ap length all, ap length more, length-append xs (x ∷ rest))

  -- what isn't due isn't after one more event, where it isn't due after a pick
  due-next : (x : Event) (past : Past) (e : Event) → EffectsAtOnce rules past x → ((seen : List Seen) (pick : Pick) → IsNotDue (event.Pick seen pick ∷ past) e)
      → IsNotDue past e → IsNotDue (x ∷ past) e
  due-next (event.Pick seen pick) past e h picks due = picks seen pick
  due-next (Fetch region index entry) past e h picks due = λ rest is among. none-due (effects_since past) rest (made_last rules past) e h is among
  due-next (Post c region index cqe) past e h picks due = λ rest is among. none-due (effects_since past) rest (made_last rules past) e h is among
  due-next (ClosedSq qid region) past e h picks due = λ rest is among. none-due (effects_since past) rest (made_last rules past) e h is among
  due-next x past e h picks due = λ rest is among. due (x ∷ rest) (sym (append_assoc (effects_since past) (x ∷ []) rest) ∙ is) (inr among)

  -- what isn't due doesn't come next
  not-next : (past : Past) (e : Event) (rest : List Event) → (effects_since past ++ e ∷ []) ++ rest ≡ made_last rules past → IsNotDue past e → ⊥
  not-next past e rest is due = due (e ∷ rest) (sym (append_assoc (effects_since past) (e ∷ []) rest) ∙ is) (inl refl)

  -- ---- aborts
  -- a place doesn't wait, and its abort isn't due
  pub record IsOver (past : Past) (r i : ℕ) : Type 0 where
    pub waits_not : is_waiting (fate_of past r i) ≡ false
    pub not_due : IsNotDue past (Abort r i)

  -- a pick makes no abort of what doesn't wait
  over-pick : (past : Past) (seen : List Seen) (pick : Pick) (r i : ℕ) → is_waiting (fate_of past r i) ≡ false → IsNotDue (event.Pick seen pick ∷ past) (Abort r i)
  over-pick past seen pick r i none rest is among = by (pick.qid == 0) (admin_entry past) (subst (IsIn (Abort r i)) is among) where
    by : (b : Bool) (o : Option Sqe) → IsIn (Abort r i) (if b then made_of rules past o else []) → ⊥
    by false o k = k
    by true None k = k
    by true (Some entry) k =
        let waits : is_waiting (fate_of past r i) ≡ true = (in-waits past r i (aborted-by past (verdict_of rules.start (table_history rules past) entry) r i k).waits).1 in cc

  -- it stays so
  over-next : (x : Event) (past : Past) (r i : ℕ) → EffectsAtOnce rules past x → IsOver past r i → IsOver (x ∷ past) r i
  over-next x past r i h s = record {
    waits_not = stays x past r i s.waits_not;
    not_due = due-next x past (Abort r i) h (λ seen pick. over-pick past seen pick r i s.waits_not) s.not_due;
  }

  -- whether it was aborted, and by whom, stays
  pub record StaysOver (past now : Past) (r i : ℕ) : Type 0 where
    pub over : IsOver now r i
    pub aborted : is_aborted now r i ≡ is_aborted past r i
    pub requested : is_abort_requested now r i ≡ is_abort_requested past r i

  over-later : (later past : Past) (r i : ℕ) → Each (EffectsAtOnce rules) (later ++ past) → IsOver past r i → StaysOver past (later ++ past) r i
  over-later [] past r i h s = record { over = s; aborted = refl; requested = refl }
  over-later (Abort region index ∷ later) past r i h s =
      let it = over-later later past r i h.1 s in
      let other : (region == r && index == i) ≡ false = false_from_ne_true (region == r && index == i) (λ here.
      let same = and_parts (region == r) (index == i) here in
      let next : EffectsAtOnce rules (later ++ past) (Abort r i) =
      subst (λ (z : ℕ). EffectsAtOnce rules (later ++ past) (Abort r z)) (eqb-true index i same.1)
      (subst (λ (z : ℕ). EffectsAtOnce rules (later ++ past) (Abort z index)) (eqb-true region r same.0) h.0) in
      not-next (later ++ past) (Abort r i) next.0 next.1 it.over.not_due) in
      record { over = over-next (Abort region index) (later ++ past) r i h.0 it.over; aborted = rw other it.aborted; requested = rw other it.requested }
  over-later (e ∷ later) past r i h s =
      let it = over-later later past r i h.1 s in
      record { over = over-next e (later ++ past) r i h.0 it.over; aborted = it.aborted; requested = it.requested }

  -- so it is from the post of its completion on
  pub over-posted : (later before : Past) (c r i : ℕ) (cqe : Cqe) → Each (EffectsAtOnce rules) (later ++ Post c r i cqe ∷ before)
      → is_waiting (fate_of before r i) ≡ false → StaysOver (Post c r i cqe ∷ before) (later ++ Post c r i cqe ∷ before) r i
  over-posted later before c r i cqe h served =
      let post : Past = Post c r i cqe ∷ before in
      let here : EffectsAtOnce rules before (Post c r i cqe) = (Each-after (EffectsAtOnce rules) later post h).0 in
      over-later later post r i h
      (record { waits_not = served; not_due = λ rest is among. none-due (effects_since before) rest (made_last rules before) (Abort r i) here is among })

  -- ---- admin places
  -- a place that doesn't wait isn't the oldest that waits
  never-oldest : (past : Past) (i : ℕ) → is_waiting (fate_of past 0 i) ≡ false → is_index i (slice_get (waiting past 0) 0) ≡ false
  never-oldest past i none = by (slice_get (waiting past 0) 0) refl where
    by : (o : Option ℕ) → slice_get (waiting past 0) 0 ≡ o → is_index i o ≡ false
    by None is = refl
    by (Some j) is = false_from_ne_true (j == i) (λ same.
        let waits : is_waiting (fate_of past 0 i) ≡ true = (in-waits past 0 i (subst (λ (z : ℕ). IsIn z (waiting past 0)) (eqb-true j i same) (in-first j (waiting past 0) is))).1 in cc)

  -- nor is it taken by a pick
  never-taken : (past : Past) (pick : Pick) (i : ℕ) → is_waiting (fate_of past 0 i) ≡ false → is_index i (taken_by past pick) ≡ false
  never-taken past pick i none = by (pick.qid == 0) where
    by : (b : Bool) → is_index i (if b then slice_get (waiting past 0) 0 else None) ≡ false
    by true = never-oldest past i none
    by false = refl

  -- an admin place doesn't wait and wasn't picked just now. The table before its command stays, and so does whether an abort follows its pick
  record StaysTold (past now : Past) (i : ℕ) : Type 0 where
    pub waits_not : is_waiting (fate_of now 0 i) ≡ false
    pub not_just : is_index i (just_picked now) ≡ false
    pub table : table_before rules now i ≡ table_before rules past i
    pub found : has_aborted now i ≡ has_aborted past i

  told-later : (later past : Past) (i : ℕ) → is_waiting (fate_of past 0 i) ≡ false → is_index i (just_picked past) ≡ false → StaysTold past (later ++ past) i
  told-later [] past i none not_just = record { waits_not = none; not_just = not_just; table = refl; found = refl }
  told-later (event.Pick seen pick ∷ later) past i none not_just =
      let it = told-later later past i none not_just in
      let now : Past = later ++ past in
      let untaken = never-taken now pick i it.waits_not in
      record {
        waits_not = stays (event.Pick seen pick) now 0 i it.waits_not;
        not_just = untaken;
        table = ap (λ (b : Bool). if b then table_history rules now else table_before rules now i)
            (and_right (pick.qid == 0) (is_index i (slice_get (waiting now 0) 0)) (never-oldest now i it.waits_not)) ∙ it.table;
        found = ap (λ (b : Bool). if b then false else has_aborted now i) untaken ∙ it.found;
      }
  told-later (Abort region index ∷ later) past i none not_just =
      let it = told-later later past i none not_just in
      let now : Past = later ++ past in
      record {
        waits_not = stays (Abort region index) now 0 i it.waits_not;
        not_just = refl;
        table = it.table;
        found = ap (λ (b : Bool). b || has_aborted now i) it.not_just ∙ it.found;
      }
  told-later (e ∷ later) past i none not_just =
      let it = told-later later past i none not_just in
      record { waits_not = stays e (later ++ past) 0 i it.waits_not; not_just = refl; table = it.table; found = it.found }

  -- ---- the completion of a place
  -- its status and Dword 0 at its post are those of any later moment
  pub record StaysOwnBy (answer : Answer) (before now : Past) (r i : ℕ) (entry : Sqe) : Type 0 where
    pub status : own_status_by rules answer now r i entry ≡ own_status_by rules answer before r i entry
    pub dw0 : own_dw0_by rules answer now r i entry ≡ own_dw0_by rules answer before r i entry

  pub own-later_by : (answer : Answer) (later before : Past) (c r i : ℕ) (cqe : Cqe) → Each (EffectsAtOnce rules) (later ++ Post c r i cqe ∷ before)
      → is_waiting (fate_of before r i) ≡ false → (entry : Sqe) → StaysOwnBy answer before (later ++ Post c r i cqe ∷ before) r i entry
  own-later_by answer later before c r i cqe h served entry =
      let post : Past = Post c r i cqe ∷ before in
      let now : Past = later ++ post in
      let it = over-posted later before c r i cqe h served in
      let told : (r ≡ 0) → StaysTold post now i = λ z.
      told-later later post i (subst (λ (x : ℕ). is_waiting (fate_of before x i) ≡ false) z served) refl in
      record {
        status = λ t.
            if it.aborted t then (if it.requested t then abort_requested else aborted_by_deletion) else by_status (r == 0) refl told t;
        dw0 = λ t. if it.aborted t then 0 else by_dw0 (r == 0) refl told t;
      } where
        by_status : (b : Bool) → (r == 0) ≡ b → ((r ≡ 0) → StaysTold (Post c r i cqe ∷ before) (later ++ Post c r i cqe ∷ before) i)
            → (if b then status_of rules.start (table_before rules (later ++ Post c r i cqe ∷ before) i) entry else answer.status)
            ≡ (if b then status_of rules.start (table_before rules before i) entry else answer.status)
        by_status true e told = ap (λ (t : TableHistory). status_of rules.start t entry) (told (eqb-true r 0 e)).table
        by_status false e told = refl

        told_by : Bool → TableHistory → ℕ
        told_by found t = told_dw0 found (verdict_of rules.start t entry) (dw0_of rules.start t entry)

        by_dw0 : (b : Bool) → (r == 0) ≡ b → ((r ≡ 0) → StaysTold (Post c r i cqe ∷ before) (later ++ Post c r i cqe ∷ before) i)
            → (if b then told_by (has_aborted (later ++ Post c r i cqe ∷ before) i) (table_before rules (later ++ Post c r i cqe ∷ before) i) else answer.dw0)
            ≡ (if b then told_by (has_aborted before i) (table_before rules before i) else answer.dw0)
        by_dw0 true e told = let it = told (eqb-true r 0 e) in λ t. told_by (it.found t) (it.table t)
        by_dw0 false e told = refl

  -- where commands are answered by their outcomes
  abbrev pub StaysOwn : (before now : Past) (r i : ℕ) → Sqe → Type 0
  StaysOwn before now r i entry = StaysOwnBy (outcome_answer rules entry) before now r i entry

  pub own-later : (later before : Past) (c r i : ℕ) (cqe : Cqe) → Each (EffectsAtOnce rules) (later ++ Post c r i cqe ∷ before)
      → PostsOwn rules before (Post c r i cqe) → (entry : Sqe) → StaysOwn before (later ++ Post c r i cqe ∷ before) r i entry
  own-later later before c r i cqe h own entry = own-later_by (outcome_answer rules entry) later before c r i cqe h own.1 entry

  -- ---- the completion region of a submission region
  -- a region is used in the table of a log
  abbrev IsUsed : TableHistory → ℕ → Type 0
  IsUsed t r = (queue_table rules.start t).sq_region_used r ≡ true

  -- a verdict leaves used regions used
  verdict-used : (v : Verdict) (before : ℕ → Bool) (r : ℕ) → before r ≡ true → used_after v before r ≡ true
  verdict-used (verdict.OpenSq qid region cqid class) before r h = by (region == r) where
    by : (b : Bool) → (b || before r) ≡ true
    by true = refl
    by false = h
  verdict-used v before r h = h

  -- so does an entry
  entry-used : (t : TableHistory) (o : Option Sqe) (r : ℕ) → IsUsed t r → IsUsed (applied o ++ t) r
  entry-used t None r h = h
  entry-used t (Some entry) r h = used-entry rules.start t entry r ∙ verdict-used (verdict_of rules.start t entry) (queue_table rules.start t).sq_region_used r h

  -- and each event
  event-used : (e : Event) (past : Past) (r : ℕ) → IsUsed (table_history rules past) r → IsUsed (table_history rules (e ∷ past)) r
  event-used (event.Pick seen pick) past r h = by (pick.qid == 0) where
    by : (b : Bool) → IsUsed (if b then applied (admin_entry past) ++ table_history rules past else table_history rules past) r
    by true = entry-used (table_history rules past) (admin_entry past) r h
    by false = h
  event-used (ClosedSq qid region) past r h = used-finished rules.start (table_history rules past) qid r ∙ h
  event-used e past r h = h

  -- and any number of them
  later-used : (later past : Past) (r : ℕ) → IsUsed (table_history rules past) r → IsUsed (table_history rules (later ++ past)) r
  later-used [] past r h = h
  later-used (e ∷ later) past r h = event-used e (later ++ past) r (later-used later past r h)

  -- the pick of the command that opens a queue makes its region used
  opens-used : (past : Past) (qid region cqid : ℕ) (class : Class) → EffectsAtOnce rules past (OpenSq qid region cqid class) → IsUsed (table_history rules past) region
  opens-used past qid region cqid class h =
      let it : IsMadeBy rules past (OpenSq qid region cqid class) =
      made-by rules past (OpenSq qid region cqid class) (in-prefix (effects_since past) (made_last rules past) (OpenSq qid region cqid class) h) in
      let t : TableHistory = table_history rules it.before in
      let is = opened-by it.before (verdict_of rules.start t it.entry) qid region cqid class it.made in
      let own : IsUsed (EntryApplied it.entry ∷ t) region =
      used-entry rules.start t it.entry region ∙ ap (λ (v : Verdict). used_after v (queue_table rules.start t).sq_region_used region) is
      ∙ ap (λ (b : Bool). b || (queue_table rules.start t).sq_region_used region) (eq-eqb region region refl) in
      let picked : table_history rules (event.Pick it.seen it.pick ∷ it.before) ≡ EntryApplied it.entry ∷ t =
      (λ j. if (eq-eqb it.pick.qid 0 it.of_admin) j then applied (it.entry_is j) ++ t else t) in
      subst (λ (z : Past). IsUsed (table_history rules z) region) (sym it.stands)
      (later-used it.between (event.Pick it.seen it.pick ∷ it.before) region (subst (λ (z : TableHistory). IsUsed z region) (sym picked) own))

  -- a region that has a completion region is used
  served-used : (past : Past) → Each (EffectsAtOnce rules) past → (r c : ℕ) → cq_region_of past r ≡ Some c → IsUsed (table_history rules past) r
  served-used [] h r c is = by (r == 0) refl is where
    by : (b : Bool) → (r == 0) ≡ b → (if b then Some 0 else None) ≡ Some c → IsUsed rules.regions r
    by true e k = subst (λ (z : ℕ). IsUsed rules.regions z) (sym (eqb-true r 0 e)) (region_0-used rules.start rules.regions)
    by false e k = absurd (none-some c k)
  served-used (OpenSq qid region cqid class ∷ past) h r c is = by (region == r) refl is (λ k. served-used past h.1 r c k) where
    by : (b : Bool) → (region == r) ≡ b → (if b then open_cq past cqid else cq_region_of past r) ≡ Some c
        → (cq_region_of past r ≡ Some c → IsUsed (table_history rules past) r) → IsUsed (table_history rules past) r
    by true e k f = subst (λ (z : ℕ). IsUsed (table_history rules past) z) (eqb-true region r e) (opens-used past qid region cqid class h.0)
    by false e k f = f k
  served-used (event.Pick seen pick ∷ past) h r c is = event-used (event.Pick seen pick) past r (served-used past h.1 r c is)
  served-used (ClosedSq qid region ∷ past) h r c is = event-used (ClosedSq qid region) past r (served-used past h.1 r c is)
  served-used (e ∷ past) h r c is = served-used past h.1 r c is

  -- no queue is due to be opened on a region, which is used
  pub record IsTaken (past : Past) (r : ℕ) : Type 0 where
    pub used : IsUsed (table_history rules past) r
    pub not_due : (qid cqid : ℕ) (class : Class) → IsNotDue past (OpenSq qid r cqid class)

  -- a pick opens no queue on a used region
  taken-pick : (past : Past) (seen : List Seen) (pick : Pick) (r qid cqid : ℕ) (class : Class) → IsUsed (table_history rules past) r
      → IsNotDue (event.Pick seen pick ∷ past) (OpenSq qid r cqid class)
  taken-pick past seen pick r qid cqid class used rest is among = by (pick.qid == 0) (admin_entry past) (subst (IsIn (OpenSq qid r cqid class)) is among) where
    by : (b : Bool) (o : Option Sqe) → IsIn (OpenSq qid r cqid class) (if b then made_of rules past o else []) → ⊥
    by false o k = k
    by true None k = k
    by true (Some entry) k =
        let t : TableHistory = table_history rules past in
        let opens = opened-by past (verdict_of rules.start t entry) qid r cqid class k in
        let due : MayOpenSq (queue_table rules.start t) qid r cqid class = subst (IsDue (queue_table rules.start t)) opens (TellsChange-entry rules.start t entry).due in
        let unused : (queue_table rules.start t).sq_region_used r ≡ false = due.unused in
        (let e : true ≡ false = sym used ∙ unused in cc e)

  -- it stays so
  pub taken-next : (x : Event) (past : Past) (r : ℕ) → EffectsAtOnce rules past x → IsTaken past r → IsTaken (x ∷ past) r
  taken-next x past r h s = record {
    used = event-used x past r s.used;
    not_due = λ qid cqid class. due-next x past (OpenSq qid r cqid class) h (λ seen pick. taken-pick past seen pick r qid cqid class s.used) (s.not_due qid cqid class);
  }

  -- so its completion region stays
  pub served-next : (x : Event) (past : Past) (r : ℕ) → EffectsAtOnce rules past x → IsTaken past r → cq_region_of (x ∷ past) r ≡ cq_region_of past r
  served-next (OpenSq qid region cqid class) past r h s =
      let other : (region == r) ≡ false = false_from_ne_true (region == r) (λ same.
      let next : EffectsAtOnce rules past (OpenSq qid r cqid class) = subst (λ (z : ℕ). EffectsAtOnce rules past (OpenSq qid z cqid class)) (eqb-true region r same) h in
      not-next past (OpenSq qid r cqid class) next.0 next.1 (s.not_due qid cqid class)) in
      ap (λ (b : Bool). if b then open_cq past cqid else cq_region_of past r) other
  served-next x past r h s = refl

  -- the region of a place is taken where its completion is posted
  pub taken-posted : (executor : Executor) (past : Past) (c r i : ℕ) (cqe : Cqe) → Each (EffectsAtOnce rules) (Post c r i cqe ∷ past)
      → PostsOwnBy rules executor past (Post c r i cqe) → IsTaken (Post c r i cqe ∷ past) r
  taken-posted executor past c r i cqe h own = record {
    used = served-used past h.1 r c own.2.region;
    not_due = λ qid cqid class rest is among. none-due (effects_since past) rest (made_last rules past) (OpenSq qid r cqid class) h.0 is among;
  }
