-- The regions whose queues are open or being deleted, and what is told of the deletion.
use Rattle.std.proofs.Common.{◌≡◌, ◌≢◌, ◌↔◌, ℕ, ◌<◌, ◌||◌, Bool, true, false, List, [], ◌∷◌, Option, Some, None, refl, sym, ap, ◌∙◌, subst, eqb-true, eq-eqb, eqb}
use Rattle.std.specs.Prelude.{is_some, IsTrue}
use Rattle.std.specs.Option.{option_eq}
use Rattle.std.specs.List.{list_any}
use Rattle.std.proofs.lemmas.Bool.{false_from_ne_true}
use Rattle.std.proofs.lemmas.Option.{same_Some}
use Rattle.nvme_arbiter.specs.Limits.{queue_limit}
use Rattle.nvme_log.specs.Rules.{FrontRules, Past, upto}
use Rattle.nvme_log.specs.Queues.{Queue, Deletion, open_sq, has_region, pending, is_deleted_region, is_open_region, is_closed_region, is_serving, qid_of_region}
use Rattle.nvme_log.specs.Completions.{unposted_of}
use Rattle.nvme_log.specs.Account.{IsClear}
use Rattle.nvme_ctrl_log.specs.Notes.{Notes, logged}
use Rattle.nvme_ctrl_log.specs.Deletions.{IsDeletingSome}
use Rattle.nvme_ctrl_log.specs.Laws.{NoneDeleting}
use Rattle.nvme_ctrl.specs.Outlook.{IsAllDone}
use Rattle.nvme_ctrl_log.specs.Steps.{NoneFinishable, IsFinishableAt}
use Rattle.nvme_engine.specs.Standing.{StandsAt, IsPlain}
use Rattle.nvme_engine.specs.declared.engine.Engine.{Engine}
use Rattle.nvme_engine.proofs.Deleting.{none_pending, has_deleter}
use Rattle.nvme_engine.proofs.OneDeletion.{deleting_is_pending, none_deleting}
use Rattle.nvme_engine.proofs.Ends.{unfinished}

-- ---- the deletion
-- whether one is pending
pub deleting_told : (notes : Notes) → IsPlain notes → (b : Bool) → (b ≡ false → NoneDeleting (logged notes)) → (b ≡ true → IsDeletingSome (logged notes))
    → b ≡ is_some (pending (logged notes))
deleting_told notes plain false none some = ap (λ (o : Option Deletion). is_some o) (sym (none_pending notes plain (none refl)))
deleting_told notes plain true none some =
    let it = some refl in
    ap (λ (o : Option Deletion). is_some o) (sym (deleting_is_pending (logged notes) plain.deletes plain.alone it.region it.index it.deletes).is_pending)

-- whether all is clear
pub clear_told : (notes : Notes) → IsPlain notes → (b : Bool) → (IsTrue b ↔ IsAllDone (logged notes)) → IsTrue b ↔ IsClear (logged notes)
clear_told notes plain b told = (
  λ yes. (let all = told.0 yes in record { none_waits = all.none_waits; all_posted = all.all_posted; none_pending = none_pending notes plain all.none_deleting }),
  λ clear. told.1 (record {
    none_waits = clear.none_waits;
    all_posted = clear.all_posted;
    none_deleting = none_deleting (logged notes) plain.deletes plain.alone clear.none_pending;
  }),
)

-- an option is compared with a number
pub is_some_of : (o : Option ℕ) (r : ℕ) → option_eq eqb o (Some r) ≡ true → o ≡ Some r
is_some_of None r e = absurd (cc e)
is_some_of (Some x) r e = ap (λ (y : ℕ). Some y) (eqb-true x r e)

pub eq_some : (o : Option ℕ) (r : ℕ) → o ≡ Some r → option_eq eqb o (Some r) ≡ true
eq_some None r e = absurd (cc e)
eq_some (Some x) r e = eq-eqb x r (same_Some x r e)

-- a test that something passes
some_in : (t : ℕ → Bool) (xs : List ℕ) → list_any t xs ≡ true → (q : ℕ) × (t q ≡ true)
some_in t [] h = cc h
some_in t (x ∷ xs) h = by (t x) refl (some_in t xs) where
  by : (b : Bool) → t x ≡ b → (list_any t xs ≡ true → (q : ℕ) × (t q ≡ true)) → (q : ℕ) × (t q ≡ true)
  by true e rest = (x, e)
  by false e rest = rest (sym (ap (λ (b : Bool). b || list_any t xs) e) ∙ h)

-- ---- a deletion that can be finished
module _ (rules : FrontRules) (late : Bool) (notes : Notes) (e : Engine) (s : StandsAt rules late notes e) where
  abbrev past : Past
  past = logged notes

  -- it is the pending one
  pub finishable_is : (qid : ℕ) (f : IsFinishableAt notes qid) → (pending past ≡ Some (record { qid = qid; region = f.region })) × (is_closed_region past f.region ≡ false)
  finishable_is qid f =
      let p = deleting_is_pending past s.plain.deletes s.plain.alone f.region f.index f.deletes in
      let queue : p.deletion.qid ≡ qid = same_Some p.deletion.qid qid (sym (s.named p.deletion p.is_pending) ∙ ap (qid_of_region past) p.region ∙ f.queue) in (
        p.is_pending ∙ (λ j. Some (record { qid = queue j; region = p.region j })),
        (unfinished s.their s.their_late notes e.controller e.slots.items s.stands f.region f.index f.deletes).not_closed,
      )

  -- and its region is told
  pub finishing_is : (qid region : ℕ) → IsFinishableAt notes qid
      → ((r : ℕ) → (Some region ≡ Some r) ↔ ((qid_of_region past r ≡ Some qid) × (is_closed_region past r ≡ false)))
      → (pending past ≡ Some (record { qid = qid; region = region })) × (unposted_of past region ≡ 0)
  finishing_is qid region f told =
      let it = finishable_is qid f in
      let same : f.region ≡ region = same_Some f.region region (sym ((told f.region).1 (f.queue, it.1))) in (
        it.0 ∙ ap (λ (r : ℕ). Some (record { qid = qid; region = r })) same,
        subst (λ (r : ℕ). unposted_of past r ≡ 0) same f.all_posted,
      )

  -- where none can be finished, a place of its queue isn't posted
  pub none_finishes : NoneFinishable notes → (d : Deletion) → pending past ≡ Some d → unposted_of past d.region ≢ 0
  none_finishes none d is =
      let by_command = has_deleter notes s.plain d is in
      none d.region by_command.index (by_command.deletes)

  -- ---- the regions that are served
  -- a region that a queue was opened on, and that isn't closed
  pub record IsUsed (r : ℕ) : Type 0 where
    pub qid : ℕ
    pub few : qid < queue_limit
    pub named : qid_of_region past r ≡ Some qid
    pub not_closed : is_closed_region past r ≡ false

  life_used : (q r : ℕ) → s.stands.content.sq_life q ≡ Some r → IsUsed r
  life_used q r life = record {
    qid = q;
    few = s.stands.numbers.sqs.few q r life;
    named = s.stands.holds.lives.named q r life;
    not_closed = s.stands.holds.lives.not_closed q r life;
  }

  -- that of an open queue
  open_used : (r q : ℕ) → has_region r (open_sq past q) ≡ true → IsUsed r
  open_used r q h = by (open_sq past q) refl where
    by : (o : Option Queue) → open_sq past q ≡ o → IsUsed r
    by None none = absurd (let no : has_region r (open_sq past q) ≡ false = ap (has_region r) none in cc (no, h))
    by (Some queue) is =
        let same : queue.region ≡ r = eqb-true queue.region r (sym (ap (has_region r) is) ∙ h) in
        life_used q r (s.stands.holds.lives.sqs q queue is ∙ ap (λ (x : ℕ). Some x) same)

  -- that of the pending deletion
  deleted_used : (r : ℕ) → is_deleted_region (pending past) r ≡ true → IsUsed r
  deleted_used r h = by (pending past) refl where
    by : (o : Option Deletion) → pending past ≡ o → IsUsed r
    by None none = absurd (let no : is_deleted_region (pending past) r ≡ false = ap (λ (o : Option Deletion). is_deleted_region o r) none in cc (no, h))
    by (Some d) is =
        let same : d.region ≡ r = eqb-true d.region r (sym (ap (λ (o : Option Deletion). is_deleted_region o r) is) ∙ h) in
        let by_command = has_deleter notes s.plain d is in
        let not_closed = (unfinished s.their s.their_late notes e.controller e.slots.items s.stands d.region by_command.index by_command.deletes).not_closed in
        subst IsUsed same (life_used d.qid d.region (s.stands.holds.lives.there d.region d.qid (s.named d is) not_closed))

  serving_used : (r : ℕ) → is_serving past r ≡ true → IsUsed r
  serving_used r h = by (is_open_region past r) refl where
    by : (b : Bool) → is_open_region past r ≡ b → IsUsed r
    by true e = (let at = some_in (λ (q : ℕ). has_region r (open_sq past q)) (upto queue_limit) e in open_used r at.0 at.1)
    by false e = deleted_used r (sym (ap (λ (b : Bool). b || is_deleted_region (pending past) r) e) ∙ h)

  -- no other region is served
  pub not_serving : (r : ℕ) → ((q : ℕ) → q < queue_limit → qid_of_region past r ≡ Some q → is_closed_region past r ≡ false → ⊥) → is_serving past r ≡ false
  not_serving r none = false_from_ne_true (is_serving past r) (λ yes.
      let used = serving_used r yes in
      none used.qid used.few used.named used.not_closed)
