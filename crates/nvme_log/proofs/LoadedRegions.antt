-- The regions of a log: each is opened once, so the identifier of an open queue is the one that its region was opened for.
use Rattle.std.proofs.Common.{◌≡◌, ℕ, ◌==◌, ◌||◌, Bool, true, false, if◌then◌else◌, List, [], ◌∷◌, ◌++◌, Option, Some, None, refl, sym, ap, ◌∙◌, subst, arith, length-append, length}
use Rattle.std.proofs.lemmas.Bool.{eqb-true, eq-eqb, ne_eqb}
use Rattle.std.proofs.lemmas.Option.{none-some, same_Some}
use Rattle.nvme_entry.specs.declared.submission.Sqe.{Sqe}
use Rattle.nvme_arbiter.specs.declared.settings.Class.{Class}
use Rattle.nvme_arbiter.specs.declared.pick.Seen.{Seen}
use Rattle.nvme_arbiter.specs.declared.pick.Pick.{Pick}
use Rattle.nvme_admin.specs.History.{TableHistory, EntryApplied}
use Rattle.nvme_admin.specs.Accepted.{queue_table, verdict_of}
use Rattle.nvme_admin.specs.Changes.{IsDue, MayOpenSq}
use Rattle.nvme_admin.specs.declared.verdict.Verdict.{Verdict}
use Rattle.nvme_admin.specs.declared.verdict.Verdict.TheVariants as verdict
use Rattle.nvme_admin.proofs.Changed.{TellsChange-entry}
use Rattle.nvme_log.specs.declared.event.Event.{Event}
use Rattle.nvme_log.specs.declared.event.Event.TheVariants.{Fetch, SetArbitration, OpenSq, OpenCq, Closing, Abort, Post, ClosedSq, ClosedCq}
use Rattle.nvme_log.specs.declared.event.Event.TheVariants as event
use Rattle.nvme_log.specs.Rules.{Past, FrontRules, Each}
use Rattle.nvme_log.specs.Queues.{Queue, admin_queue, open_sq, qid_of_region}
use Rattle.nvme_log.specs.Histories.{table_history, admin_entry, applied, picks_in}
use Rattle.nvme_log.specs.Effects.{made_by, made_of, made_last, effects_since, EffectsAtOnce}
use Rattle.nvme_log.proofs.Members.{in-prefix}
use Rattle.nvme_log.proofs.Prefixes.{Each-after}
use Rattle.nvme_log.proofs.Turns.{IsMadeBy, made-by, opened-by, region_0-used}
use Rattle.nvme_log.proofs.AbortLaws.{made-turn}
use Rattle.nvme_log.proofs.Promise.{pushed_some}
use Rattle.nvme_log.proofs.UsedRegions.{used_after, used-entry, used-finished}

module _ (rules : FrontRules) where
  -- a region is used in the table of a log
  abbrev IsUsed : TableHistory → ℕ → Type 0
  IsUsed t r = (queue_table rules.start t).sq_region_used r ≡ true

  -- a verdict leaves used regions used
  stays-used : (v : Verdict) (before : ℕ → Bool) (r : ℕ) → before r ≡ true → used_after v before r ≡ true
  stays-used (verdict.OpenSq qid region cqid class) before r h = by (region == r) where
    by : (b : Bool) → (b || before r) ≡ true
    by true = refl
    by false = h
  stays-used v before r h = h

  -- so does an entry
  entry-used : (t : TableHistory) (o : Option Sqe) (r : ℕ) → IsUsed t r → IsUsed (applied o ++ t) r
  entry-used t None r h = h
  entry-used t (Some entry) r h = used-entry rules.start t entry r ∙ stays-used (verdict_of rules.start t entry) (queue_table rules.start t).sq_region_used r h

  -- and each event
  event-used : (e : Event) (past : Past) (r : ℕ) → IsUsed (table_history rules past) r → IsUsed (table_history rules (e ∷ past)) r
  event-used (event.Pick seen pick) past r h = by (pick.qid == 0) where
    by : (b : Bool) → IsUsed (if b then applied (admin_entry past) ++ table_history rules past else table_history rules past) r
    by true = entry-used (table_history rules past) (admin_entry past) r h
    by false = h
  event-used (ClosedSq qid region) past r h = used-finished rules.start (table_history rules past) qid r ∙ h
  event-used e past r h = h

  -- and any number of them
  later-used : (later past : Past) (r : ℕ) → IsUsed (table_history rules past) r → IsUsed (table_history rules (later ++ past)) r
  later-used [] past r h = h
  later-used (e ∷ later) past r h = event-used e (later ++ past) r (later-used later past r h)

  -- the command that opened a queue
  record IsOpenedBy (past : Past) (qid region cqid : ℕ) (class : Class) : Type 0 where
    pub made : IsMadeBy rules past (OpenSq qid region cqid class)
    pub verdict_is : verdict_of rules.start (table_history rules made.before) made.entry ≡ verdict.OpenSq qid region cqid class
    pub unused : (queue_table rules.start (table_history rules made.before)).sq_region_used region ≡ false

  -- each queue that is opened has one, and its region was unused
  opened : (past : Past) (qid region cqid : ℕ) (class : Class) → EffectsAtOnce rules past (OpenSq qid region cqid class) → IsOpenedBy past qid region cqid class
  opened past qid region cqid class h =
      let it = made-by rules past (OpenSq qid region cqid class) (in-prefix (effects_since past) (made_last rules past) (OpenSq qid region cqid class) h) in
      let t : TableHistory = table_history rules it.before in
      let is = opened-by it.before (verdict_of rules.start t it.entry) qid region cqid class it.made in
      let due : MayOpenSq (queue_table rules.start t) qid region cqid class = subst (IsDue (queue_table rules.start t)) is (TellsChange-entry rules.start t it.entry).due in
      record { made = it; verdict_is = is; unused = due.unused }

  -- its pick makes the region used
  pick-uses : (past : Past) (qid region cqid : ℕ) (class : Class) → IsOpenedBy past qid region cqid class → IsUsed (table_history rules past) region
  pick-uses past qid region cqid class h =
      let t : TableHistory = table_history rules h.made.before in
      let own : IsUsed (EntryApplied h.made.entry ∷ t) region =
      used-entry rules.start t h.made.entry region ∙ ap (λ (v : Verdict). used_after v (queue_table rules.start t).sq_region_used region) h.verdict_is
      ∙ here (region == region) (eq-eqb region region refl) ((queue_table rules.start t).sq_region_used region) in
      let at_pick : IsUsed (table_history rules (event.Pick h.made.seen h.made.pick ∷ h.made.before)) region = by (h.made.pick.qid == 0) (eq-eqb h.made.pick.qid 0 h.made.of_admin) own in
      subst (λ (z : Past). IsUsed (table_history rules z) region) (sym h.made.stands) (later-used h.made.between (event.Pick h.made.seen h.made.pick ∷ h.made.before) region at_pick) where
        here : (b : Bool) → b ≡ true → (c : Bool) → (b || c) ≡ true
        here true e c = refl
        here false e c = cc e

        by : (b : Bool) → b ≡ true → IsUsed (EntryApplied h.made.entry ∷ table_history rules h.made.before) region
            → IsUsed (if b then applied (admin_entry h.made.before) ++ table_history rules h.made.before else table_history rules h.made.before) region
        by true e k = subst (λ (o : Option Sqe). IsUsed (applied o ++ table_history rules h.made.before) region) (sym h.made.entry_is) k
        by false e k = cc e

  -- the region of a queue that was opened is used
  opened-used : (past : Past) → Each (EffectsAtOnce rules) past → (r q : ℕ) → qid_of_region past r ≡ Some q → IsUsed (table_history rules past) r
  opened-used [] h r q is = by (r == 0) refl is where
    by : (b : Bool) → (r == 0) ≡ b → (if b then Some 0 else None) ≡ Some q → IsUsed rules.regions r
    by true e k = subst (λ (z : ℕ). IsUsed rules.regions z) (sym (eqb-true r 0 e)) (region_0-used rules.start rules.regions)
    by false e k = absurd (none-some q k)
  opened-used (OpenSq qid region cqid class ∷ past) h r q is = by (region == r) refl is (λ k. opened-used past h.1 r q k) where
    by : (b : Bool) → (region == r) ≡ b → (if b then Some qid else qid_of_region past r) ≡ Some q
        → (qid_of_region past r ≡ Some q → IsUsed (table_history rules past) r) → IsUsed (table_history rules past) r
    by true e k f = subst (λ (z : ℕ). IsUsed (table_history rules past) z) (eqb-true region r e) (pick-uses past qid region cqid class (opened past qid region cqid class h.0))
    by false e k f = f k
  opened-used (event.Pick seen pick ∷ past) h r q is = event-used (event.Pick seen pick) past r (opened-used past h.1 r q is)
  opened-used (ClosedSq qid region ∷ past) h r q is = event-used (ClosedSq qid region) past r (opened-used past h.1 r q is)
  opened-used (e ∷ past) h r q is = opened-used past h.1 r q is

  -- since a pick that has no effect yet no region was opened
  none-opened : (between before : Past) (seen : List Seen) (pick : Pick) → picks_in between ≡ 0 → effects_since (between ++ event.Pick seen pick ∷ before) ≡ []
      → (r : ℕ) → qid_of_region (between ++ event.Pick seen pick ∷ before) r ≡ qid_of_region before r
  none-opened [] before seen pick none empty r = refl
  none-opened (event.Pick s p ∷ between) before seen pick none empty r = absurd (omega (arith, none))
  none-opened (OpenSq qid region cqid class ∷ between) before seen pick none empty r = absurd (pushed_some _ _ empty)
  none-opened (SetArbitration settings ∷ between) before seen pick none empty r = absurd (pushed_some _ _ empty)
  none-opened (OpenCq qid region ∷ between) before seen pick none empty r = absurd (pushed_some _ _ empty)
  none-opened (Closing qid region ∷ between) before seen pick none empty r = absurd (pushed_some _ _ empty)
  none-opened (Abort region index ∷ between) before seen pick none empty r = absurd (pushed_some _ _ empty)
  none-opened (ClosedCq qid region ∷ between) before seen pick none empty r = absurd (pushed_some _ _ empty)
  none-opened (e ∷ between) before seen pick none empty r = none-opened between before seen pick none empty r

  -- nothing comes before the one event of a list that another begins with
  only-first : (es rest : List Event) (e one : Event) → (es ++ e ∷ []) ++ rest ≡ one ∷ [] → es ≡ []
  only-first [] rest e one h = refl
  only-first (x ∷ es) rest e one h = absurd (omega (arith, ap length h, length-append (x ∷ (es ++ e ∷ [])) rest, length-append es (e ∷ [])))

  -- the region of a queue that is opened wasn't opened before
  opens-unused : (past : Past) → Each (EffectsAtOnce rules) past → (qid region cqid : ℕ) (class : Class) → EffectsAtOnce rules past (OpenSq qid region cqid class)
      → (q : ℕ) → qid_of_region past region ≡ Some q → ⊥
  opens-unused past h qid region cqid class next q is =
      let it = opened past qid region cqid class next in
      let m : IsMadeBy rules past (OpenSq qid region cqid class) = it.made in
      let made : made_last rules past ≡ OpenSq qid region cqid class ∷ [] =
      ap (made_last rules) m.stands ∙ made-turn rules m.between m.before m.seen m.pick m.no_pick
      ∙ by (m.pick.qid == 0) (eq-eqb m.pick.qid 0 m.of_admin) (admin_entry m.before) m.entry_is it.verdict_is in
      let empty : effects_since past ≡ [] = only-first (effects_since past) next.0 (OpenSq qid region cqid class) (OpenSq qid region cqid class) (next.1 ∙ made) in
      let same : qid_of_region past region ≡ qid_of_region m.before region =
      ap (λ (z : Past). qid_of_region z region) m.stands
      ∙ none-opened m.between m.before m.seen m.pick m.no_pick (sym (ap effects_since m.stands) ∙ empty) region in
      let whole : Each (EffectsAtOnce rules) m.before = (Each-after (EffectsAtOnce rules) m.between (event.Pick m.seen m.pick ∷ m.before) (subst (Each (EffectsAtOnce rules)) m.stands h)).1 in
      let used : IsUsed (table_history rules m.before) region = opened-used m.before whole region q (sym same ∙ is) in
      let unused : (queue_table rules.start (table_history rules m.before)).sq_region_used region ≡ false = it.unused in
      (let e : true ≡ false = sym used ∙ unused in cc e) where
        by : (b : Bool) → b ≡ true → (o : Option Sqe) → o ≡ Some (opened past qid region cqid class next).made.entry
            → verdict_of rules.start (table_history rules (opened past qid region cqid class next).made.before) (opened past qid region cqid class next).made.entry
            ≡ verdict.OpenSq qid region cqid class
            → (if b then made_of rules (opened past qid region cqid class next).made.before o else []) ≡ OpenSq qid region cqid class ∷ []
        by true e o k v = ap (made_of rules (opened past qid region cqid class next).made.before) k ∙ ap (made_by (opened past qid region cqid class next).made.before) v
        by false e o k v = cc e

  -- the region of an open queue was opened for it
  pub region-owned : (past : Past) → Each (EffectsAtOnce rules) past → (q : ℕ) (queue : Queue) → open_sq past q ≡ Some queue → qid_of_region past queue.region ≡ Some q
  region-owned [] h q queue is = by (q == 0) refl is where
    by : (b : Bool) → (q == 0) ≡ b → (if b then Some admin_queue else None) ≡ Some queue → (if queue.region == 0 then Some 0 else None) ≡ Some q
    by true e k =
        let at_0 : 0 ≡ queue.region = ap (λ (x : Queue). x.region) (same_Some _ _ k) in
        rw (eq-eqb queue.region 0 (sym at_0), eqb-true q 0 e) refl
    by false e k = absurd (none-some queue k)
  region-owned (OpenSq qid region cqid class ∷ past) h q queue is = by (qid == q) refl is (λ k. region-owned past h.1 q queue k) where
    by : (b : Bool) → (qid == q) ≡ b → (if b then Some (record { region = region; cqid = cqid; class = class }) else open_sq past q) ≡ Some queue
        → (open_sq past q ≡ Some queue → qid_of_region past queue.region ≡ Some q) → (if region == queue.region then Some qid else qid_of_region past queue.region) ≡ Some q
    by true e k f =
        let same : region ≡ queue.region = ap (λ (x : Queue). x.region) (same_Some _ _ k) in
        rw (eq-eqb region queue.region same, eqb-true qid q e) refl
    by false e k f =
        let owned = f k in
        rw (ne_eqb region queue.region (λ same. opens-unused past h.1 qid region cqid class h.0 q (ap (qid_of_region past) same ∙ owned))) owned
  region-owned (Closing qid region ∷ past) h q queue is = by (qid == q) is (λ k. region-owned past h.1 q queue k) where
    by : (b : Bool) → (if b then None else open_sq past q) ≡ Some queue → (open_sq past q ≡ Some queue → qid_of_region past queue.region ≡ Some q) → qid_of_region past queue.region ≡ Some q
    by true k f = absurd (none-some queue k)
    by false k f = f k
  region-owned (e ∷ past) h q queue is = region-owned past h.1 q queue is
