-- The regions of submission queues: each is opened once, and a command is fetched from the region of a queue with an identifier in range.
use Rattle.std.proofs.Common.{◌≡◌, ℕ, zero, suc, ◌<◌, ◌==◌, Bool, true, false, if◌then◌else◌, List, [], ◌∷◌, ◌++◌, Option, Some, None, refl, sym, ap, ◌∙◌, subst, arith, inl, inr, eqb-true, eq-eqb}
use Rattle.std.specs.Prelude.{slice_get}
use Rattle.std.specs.List.{list_any}
use Rattle.std.proofs.lemmas.Bool.{or_right, or_left, or_cases, ne_eqb, cases_eq}
use Rattle.std.proofs.lemmas.List.Folds.{list_any-append}
use Rattle.std.proofs.lemmas.Option.{none-some}
use Rattle.nvme_entry.specs.declared.submission.Sqe.{Sqe}
use Rattle.nvme_arbiter.specs.Limits.{queue_limit}
use Rattle.nvme_admin.specs.History.{TableHistory}
use Rattle.nvme_arbiter.specs.declared.settings.Class.{Class}
use Rattle.nvme_admin.specs.Accepted.{queue_table, verdict_of}
use Rattle.nvme_admin.specs.Changes.{IsDue, MayOpenSq}
use Rattle.nvme_admin.specs.declared.verdict.Verdict.{Verdict}
use Rattle.nvme_admin.specs.declared.verdict.Verdict.TheVariants as verdict
use Rattle.nvme_admin.proofs.Changed.{TellsChange-entry}
use Rattle.nvme_log.specs.declared.event.Event.{Event}
use Rattle.nvme_log.specs.declared.event.Event.TheVariants.{Fetch, ClosedSq, OpenSq}
use Rattle.nvme_log.specs.declared.event.Event.TheVariants as event
use Rattle.nvme_log.specs.Rules.{FrontRules, Past, Each, upto}
use Rattle.nvme_log.specs.Queues.{Queue, open_sq, has_region, qid_of_region}
use Rattle.nvme_log.specs.Places.{fetched, entry_at}
use Rattle.nvme_log.specs.Histories.{table_history, admin_entry, applied}
use Rattle.nvme_log.specs.Account.{ServedWhileOpen}
use Rattle.nvme_log.specs.Effects.{EffectsAtOnce}
use Rattle.nvme_log.proofs.LoadedRegions.{region-owned}
use Rattle.nvme_log.proofs.Turns.{region_0-used}
use Rattle.nvme_log.proofs.UsedRegions.{used_after, used-entry, used-finished}
use Rattle.nvme_ctrl_log.proofs.QueueWords.{chosen}
use Rattle.nvme_own_log.proofs.PickEvents.{IsAtPick, at_open_sq}

-- what passes a test among the numbers below n
record IsBelow (t : ℕ → Bool) (n : ℕ) : Type 0 where
  pub number : ℕ
  pub below : number < n
  pub passes : t number ≡ true

some_below : (t : ℕ → Bool) (n : ℕ) → list_any t (upto n) ≡ true → IsBelow t n
some_below t zero h = cc h
some_below t (suc n) h = elim (or_cases (list_any t (upto n)) (list_any t (n ∷ [])) (sym (list_any-append t (upto n) (n ∷ [])) ∙ h)) [
  | inl earlier ↦ (let it = some_below t n earlier in record { number = it.number; below = omega (arith, it.below); passes = it.passes })
  | inr last ↦ elim (or_cases (t n) false last) [
    | inl here ↦ record { number = n; below = omega arith; passes = here }
    | inr none ↦ cc none
  ]
]

module _ (rules : FrontRules) where
  -- ---- used regions
  abbrev IsUsed : TableHistory → ℕ → Type 0
  IsUsed t r = (queue_table rules.start t).sq_region_used r ≡ true

  used_stays : (v : Verdict) (before : ℕ → Bool) (r : ℕ) → before r ≡ true → used_after v before r ≡ true
  used_stays (verdict.OpenSq qid region cqid class) before r h = or_right (region == r) (before r) h
  used_stays v before r h = h

  pub used_after_event : (e : Event) (past : Past) → (r : ℕ)
      → (queue_table rules.start (table_history rules past)).sq_region_used r ≡ true → (queue_table rules.start (table_history rules (e ∷ past))).sq_region_used r ≡ true
  used_after_event (event.Pick seen pick) past r h = by (pick.qid == 0) (admin_entry past) where
    by : (b : Bool) (o : Option Sqe) → (queue_table rules.start (if b then applied o ++ table_history rules past else table_history rules past)).sq_region_used r ≡ true
    by false o = h
    by true None = h
    by true (Some entry) = used-entry rules.start (table_history rules past) entry r ∙ used_stays (verdict_of rules.start (table_history rules past) entry) _ r h
  used_after_event (ClosedSq qid region) past r h = used-finished rules.start (table_history rules past) qid r ∙ h
  used_after_event e past r h = h

  -- the region of a queue that was opened is used
  sq_used : (past : Past) → Each (EffectsAtOnce rules) past → (r q : ℕ) → qid_of_region past r ≡ Some q → IsUsed (table_history rules past) r
  sq_used [] h r q is = elim (chosen r 0 (Some 0) None q is) [
    | inl p ↦ subst (IsUsed rules.regions) (sym p.0) (region_0-used rules.start rules.regions)
    | inr n ↦ absurd (none-some q n.1)
  ]
  sq_used (OpenSq qid region cqid class ∷ past) h r q is = elim (chosen region r (Some qid) (qid_of_region past r) q is) [
    | inl p ↦
        let it : IsAtPick rules past (verdict.OpenSq qid region cqid class) = at_open_sq rules past h.1 qid region cqid class h.0 in
        subst (λ (t : TableHistory). IsUsed t r) (sym it.history_is)
        (used-entry rules.start (table_history rules it.before) it.entry r
        ∙ ap (λ (v : Verdict). used_after v (queue_table rules.start (table_history rules it.before)).sq_region_used r) it.verdict_is
        ∙ or_left (region == r) _ (eq-eqb region r p.0))
    | inr n ↦ sq_used past h.1 r q n.1
  ]
  sq_used (event.Pick seen pick ∷ past) h r q is = used_after_event (event.Pick seen pick) past r (sq_used past h.1 r q is)
  sq_used (ClosedSq qid region ∷ past) h r q is = used_after_event (ClosedSq qid region) past r (sq_used past h.1 r q is)
  sq_used (e ∷ past) h r q is = sq_used past h.1 r q is

  -- the region of a queue that is opened is that of none
  pub sq_fresh : (past : Past) → Each (EffectsAtOnce rules) past → (qid region cqid : ℕ) (class : Class) → EffectsAtOnce rules past (OpenSq qid region cqid class) → (q : ℕ) → qid_of_region past region ≡ Some q → ⊥
  sq_fresh past h qid region cqid class it q is =
      let at : IsAtPick rules past (verdict.OpenSq qid region cqid class) = at_open_sq rules past h qid region cqid class it in
      let due : MayOpenSq (queue_table rules.start (table_history rules at.before)) qid region cqid class =
      subst (IsDue (queue_table rules.start (table_history rules at.before))) at.verdict_is (TellsChange-entry rules.start (table_history rules at.before) at.entry).due in
      let yes = sq_used at.before at.whole region q (sym (ap (λ (p : Past). qid_of_region p region) at.stands) ∙ is) in
      let no : (queue_table rules.start (table_history rules at.before)).sq_region_used region ≡ false = due.unused in
      cc (yes, no)

  -- ---- fetches
  -- a region from which a command was fetched is that of a queue with an identifier in range
  pub record IsInRange (past : Past) (r : ℕ) : Type 0 where
    pub qid : ℕ
    pub below : qid < queue_limit
    pub is_of : qid_of_region past r ≡ Some qid

  pub in_range : (past : Past) → Each (EffectsAtOnce rules) past → Each (ServedWhileOpen rules) past → (r i : ℕ) (entry : Sqe) → entry_at past r i ≡ Some entry → IsInRange past r
  in_range [] h w r i entry at = absurd (none-some entry at)
  in_range (Fetch region index e ∷ past) h w r i entry at = elim (cases_eq region r) [
    | inl same ↦
        let it = some_below (λ (q : ℕ). has_region region (open_sq past q)) queue_limit w.0.0 in
        by it.number it.below (open_sq past it.number) refl it.passes same
    | inr other ↦
        let before = in_range past h.1 w.1 r i entry (sym (λ j. slice_get_of (if ne_eqb region r other j then fetched past r ++ e ∷ [] else fetched past r)) ∙ at) in
        record { qid = before.qid; below = before.below; is_of = before.is_of }
  ] where
    slice_get_of : List Sqe → Option Sqe
    slice_get_of xs = slice_get xs i

    by : (q : ℕ) → q < queue_limit → (o : Option Queue) → open_sq past q ≡ o → has_region region o ≡ true → region ≡ r → IsInRange (Fetch region index e ∷ past) r
    by q below None is on same = cc on
    by q below (Some queue) is on same = record {
      qid = q;
      below = below;
      is_of = ap (qid_of_region past) (sym same ∙ sym (eqb-true queue.region region on)) ∙ region-owned rules past h.1 q queue is;
    }
  in_range (OpenSq qid region cqid class ∷ past) h w r i entry at =
      let before = in_range past h.1 w.1 r i entry at in
      record { qid = before.qid; below = before.below; is_of = rw (ne_eqb region r (λ same. sq_fresh past h.1 qid region cqid class h.0 before.qid (ap (qid_of_region past) same ∙ before.is_of))) before.is_of }
  in_range (e ∷ past) h w r i entry at = let before = in_range past h.1 w.1 r i entry at in record { qid = before.qid; below = before.below; is_of = before.is_of }
