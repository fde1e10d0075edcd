-- Region 0 is that of the admin queues, and of no other queue.
use Rattle.std.proofs.Common.{◌≡◌, ℕ, ◌==◌, Bool, true, false, if◌then◌else◌, List, [], ◌∷◌, map, take, Option, Some, None, refl, sym, ap, ◌∙◌, subst, inl, inr}
use Rattle.std.proofs.lemmas.Bool.{eqb-true, ne_eqb}
use Rattle.std.proofs.lemmas.Option.{none-some, same_Some}
use Rattle.nvme_arbiter.specs.declared.settings.Class.{Class}
use Rattle.nvme_admin.specs.History.{TableHistory}
use Rattle.nvme_admin.specs.Accepted.{queue_table, verdict_of}
use Rattle.nvme_admin.specs.Changes.{IsDue, MayOpenSq, MayOpenCq, MayBeginDelete}
use Rattle.nvme_admin.specs.declared.verdict.Verdict.{Verdict}
use Rattle.nvme_admin.specs.declared.verdict.Verdict.TheVariants as verdict
use Rattle.nvme_admin.proofs.Changed.{TellsChange-entry}
use Rattle.nvme_log.specs.declared.event.Event.TheVariants as event
use Rattle.nvme_log.specs.declared.event.Event.TheVariants.{OpenSq, OpenCq, Closing, ClosedCq}
use Rattle.nvme_log.specs.Rules.{Past, FrontRules, Each}
use Rattle.nvme_log.specs.Queues.{Queue, open_sq, open_cq, qid_of_region, cq_region_of}
use Rattle.nvme_log.specs.Places.{waiting}
use Rattle.nvme_log.specs.Histories.{table_history}
use Rattle.nvme_log.specs.Effects.{named, abort_in, target_of, closing_of, closed_cq_of, made_by, made_last, effects_since, EffectsAtOnce}
use Rattle.nvme_log.proofs.Members.{IsIn, only, in-prefix}
use Rattle.nvme_log.proofs.Turns.{made-by, opened-by, begun-by, region_0-used}
use Rattle.nvme_own_log.specs.Shown.{cqid_of_region}

-- ---- what a Create of a completion queue makes
cq_not_abort : (qid region r : ℕ) (is : List ℕ) → IsIn (OpenCq qid region) (map (λ (k : ℕ). event.Abort r k) is) → ⊥
cq_not_abort qid region r [] h = h
cq_not_abort qid region r (k ∷ is) (inl e) = cc e
cq_not_abort qid region r (k ∷ is) (inr h) = cq_not_abort qid region r is h

closed_not_abort : (qid region r : ℕ) (is : List ℕ) → IsIn (ClosedCq qid region) (map (λ (k : ℕ). event.Abort r k) is) → ⊥
closed_not_abort qid region r [] h = h
closed_not_abort qid region r (k ∷ is) (inl e) = cc e
closed_not_abort qid region r (k ∷ is) (inr h) = closed_not_abort qid region r is h

-- a completion queue is opened by its Create
pub cq_opened-by : (past : Past) (v : Verdict) (qid region : ℕ) → IsIn (OpenCq qid region) (made_by past v) → v ≡ verdict.OpenCq qid region
cq_opened-by past (verdict.Done status dw0) qid region h = absurd h
cq_opened-by past (verdict.OpenSq q r c k) qid region h = absurd (let e : OpenSq q r c k ≡ OpenCq qid region = only _ _ h in cc)
cq_opened-by past (verdict.OpenCq q r) qid region h = let e : OpenCq q r ≡ OpenCq qid region = only _ _ h in cc
cq_opened-by past (verdict.BeginDelete q) qid region h = by (open_sq past q) h where
  by : (o : Option Queue) → IsIn (OpenCq qid region) (closing_of past q o) → verdict.BeginDelete q ≡ verdict.OpenCq qid region
  by None k = absurd k
  by (Some queue) (inl e) = absurd (cc e)
  by (Some queue) (inr k) = absurd (cq_not_abort qid region queue.region (waiting past queue.region) k)
cq_opened-by past (verdict.CloseCq q) qid region h = by (open_cq past q) h where
  by : (o : Option ℕ) → IsIn (OpenCq qid region) (closed_cq_of q o) → verdict.CloseCq q ≡ verdict.OpenCq qid region
  by None k = absurd k
  by (Some r) k = absurd (let e : ClosedCq q r ≡ OpenCq qid region = only _ _ k in cc)
cq_opened-by past (verdict.Abort s c) qid region h = by (target_of past s) h where
  by : (o : Option Queue) → IsIn (OpenCq qid region) (abort_in past c o) → verdict.Abort s c ≡ verdict.OpenCq qid region
  by None k = absurd k
  by (Some queue) k = absurd (cq_not_abort qid region queue.region (take 1 (named past queue.region c)) k)
cq_opened-by past (verdict.SetArbitration settings) qid region h = absurd (let e : event.SetArbitration settings ≡ OpenCq qid region = only _ _ h in cc)

-- and closed by its Delete
pub cq_closed-by : (past : Past) (v : Verdict) (qid region : ℕ) → IsIn (ClosedCq qid region) (made_by past v) → (v ≡ verdict.CloseCq qid) × (open_cq past qid ≡ Some region)
cq_closed-by past (verdict.Done status dw0) qid region h = absurd h
cq_closed-by past (verdict.OpenSq q r c k) qid region h = absurd (let e : OpenSq q r c k ≡ ClosedCq qid region = only _ _ h in cc)
cq_closed-by past (verdict.OpenCq q r) qid region h = absurd (let e : OpenCq q r ≡ ClosedCq qid region = only _ _ h in cc)
cq_closed-by past (verdict.BeginDelete q) qid region h = by (open_sq past q) h where
  by : (o : Option Queue) → IsIn (ClosedCq qid region) (closing_of past q o) → (verdict.BeginDelete q ≡ verdict.CloseCq qid) × (open_cq past qid ≡ Some region)
  by None k = absurd k
  by (Some queue) (inl e) = absurd (cc e)
  by (Some queue) (inr k) = absurd (closed_not_abort qid region queue.region (waiting past queue.region) k)
cq_closed-by past (verdict.CloseCq q) qid region h = by (open_cq past q) refl h where
  by : (o : Option ℕ) → open_cq past q ≡ o → IsIn (ClosedCq qid region) (closed_cq_of q o) → (verdict.CloseCq q ≡ verdict.CloseCq qid) × (open_cq past qid ≡ Some region)
  by None is k = absurd k
  by (Some r) is k =
      let e : ClosedCq q r ≡ ClosedCq qid region = only _ _ k in
      let same : q ≡ qid = cc e in
      let on : r ≡ region = cc e in
      (ap (λ (z : ℕ). verdict.CloseCq z) same, ap (open_cq past) (sym same) ∙ is ∙ ap (λ (z : ℕ). Some z) on)
cq_closed-by past (verdict.Abort s c) qid region h = by (target_of past s) h where
  by : (o : Option Queue) → IsIn (ClosedCq qid region) (abort_in past c o) → (verdict.Abort s c ≡ verdict.CloseCq qid) × (open_cq past qid ≡ Some region)
  by None k = absurd k
  by (Some queue) k = absurd (closed_not_abort qid region queue.region (take 1 (named past queue.region c)) k)
cq_closed-by past (verdict.SetArbitration settings) qid region h = absurd (let e : event.SetArbitration settings ≡ ClosedCq qid region = only _ _ h in cc)

module _ (rules : FrontRules) where
  -- region 0 is used from the beginning
  pub cq_region_0-used : (h : TableHistory) → (queue_table rules.start h).cq_region_used 0 ≡ true
  unfolding queue_table
  cq_region_0-used h = refl

  -- a queue that is opened is no admin queue, and lies on another region
  record IsOfIo (qid region : ℕ) : Type 0 where
    pub qid_is : qid ≡ 0 → ⊥
    pub region_is : region ≡ 0 → ⊥

  opens-sq : (past : Past) (qid region cqid : ℕ) (class : Class) → EffectsAtOnce rules past (OpenSq qid region cqid class) → IsOfIo qid region
  opens-sq past qid region cqid class h =
      let it = made-by rules past (OpenSq qid region cqid class) (in-prefix (effects_since past) (made_last rules past) (OpenSq qid region cqid class) h) in
      let t : TableHistory = table_history rules it.before in
      let is = opened-by it.before (verdict_of rules.start t it.entry) qid region cqid class it.made in
      let due : MayOpenSq (queue_table rules.start t) qid region cqid class = subst (IsDue (queue_table rules.start t)) is (TellsChange-entry rules.start t it.entry).due in
      record {
        qid_is = due.not_admin;
        region_is = λ z. let used : (queue_table rules.start t).sq_region_used region ≡ true = ap (queue_table rules.start t).sq_region_used z ∙ region_0-used rules.start t in
            let unused : (queue_table rules.start t).sq_region_used region ≡ false = due.unused in
            cc;
      }

  opens-cq : (past : Past) (qid region : ℕ) → EffectsAtOnce rules past (OpenCq qid region) → IsOfIo qid region
  opens-cq past qid region h =
      let it = made-by rules past (OpenCq qid region) (in-prefix (effects_since past) (made_last rules past) (OpenCq qid region) h) in
      let t : TableHistory = table_history rules it.before in
      let is = cq_opened-by it.before (verdict_of rules.start t it.entry) qid region it.made in
      let due : MayOpenCq (queue_table rules.start t) qid region = subst (IsDue (queue_table rules.start t)) is (TellsChange-entry rules.start t it.entry).due in
      record {
        qid_is = due.not_admin;
        region_is = λ z. let used : (queue_table rules.start t).cq_region_used region ≡ true = ap (queue_table rules.start t).cq_region_used z ∙ cq_region_0-used t in
            let unused : (queue_table rules.start t).cq_region_used region ≡ false = due.unused in
            cc;
      }

  pub opens_io : (past : Past) (qid region cqid : ℕ) (class : Class) → EffectsAtOnce rules past (OpenSq qid region cqid class) → qid ≡ 0 → ⊥
  opens_io past qid region cqid class h = (opens-sq past qid region cqid class h).qid_is

  pub closes_io : (past : Past) (qid region : ℕ) → EffectsAtOnce rules past (Closing qid region) → qid ≡ 0 → ⊥
  closes_io past qid region h =
      let it = made-by rules past (Closing qid region) (in-prefix (effects_since past) (made_last rules past) (Closing qid region) h) in
      let t : TableHistory = table_history rules it.before in
      let is = begun-by it.before (verdict_of rules.start t it.entry) qid region it.made in
      let due : MayBeginDelete (queue_table rules.start t) qid = subst (IsDue (queue_table rules.start t)) is (TellsChange-entry rules.start t it.entry).due in
      due.not_admin

  -- ---- submission regions
  pub admin_qid : (past : Past) → Each (EffectsAtOnce rules) past → qid_of_region past 0 ≡ Some 0
  admin_qid [] h = refl
  admin_qid (OpenSq qid region cqid class ∷ past) h = rw (ne_eqb region 0 (opens-sq past qid region cqid class h.0).region_is) (admin_qid past h.1)
  admin_qid (e ∷ past) h = admin_qid past h.1

  pub admin_region : (past : Past) → Each (EffectsAtOnce rules) past → (r : ℕ) → qid_of_region past r ≡ Some 0 → r ≡ 0
  admin_region [] h r is = by (r == 0) refl is where
    by : (b : Bool) → (r == 0) ≡ b → if◌then◌else◌ {A = Option ℕ} b (Some 0) None ≡ Some 0 → r ≡ 0
    by true e k = eqb-true r 0 e
    by false e k = absurd (none-some 0 k)
  admin_region (OpenSq qid region cqid class ∷ past) h r is = by (region == r) is (admin_region past h.1 r) where
    by : (b : Bool) → (if b then Some qid else qid_of_region past r) ≡ Some 0 → (qid_of_region past r ≡ Some 0 → r ≡ 0) → r ≡ 0
    by true k f = absurd ((opens-sq past qid region cqid class h.0).qid_is (same_Some qid 0 k))
    by false k f = f k
  admin_region (e ∷ past) h r is = admin_region past h.1 r is

  -- its completions go to region 0
  pub admin_posts_to : (past : Past) → Each (EffectsAtOnce rules) past → cq_region_of past 0 ≡ Some 0
  admin_posts_to [] h = refl
  admin_posts_to (OpenSq qid region cqid class ∷ past) h = rw (ne_eqb region 0 (opens-sq past qid region cqid class h.0).region_is) (admin_posts_to past h.1)
  admin_posts_to (e ∷ past) h = admin_posts_to past h.1

  -- ---- completion regions
  pub admin_cqid : (past : Past) → Each (EffectsAtOnce rules) past → cqid_of_region past 0 ≡ Some 0
  admin_cqid [] h = refl
  admin_cqid (OpenCq qid region ∷ past) h = rw (ne_eqb region 0 (opens-cq past qid region h.0).region_is) (admin_cqid past h.1)
  admin_cqid (e ∷ past) h = admin_cqid past h.1

  pub admin_cq_region : (past : Past) → Each (EffectsAtOnce rules) past → (c : ℕ) → cqid_of_region past c ≡ Some 0 → c ≡ 0
  admin_cq_region [] h c is = by (c == 0) refl is where
    by : (b : Bool) → (c == 0) ≡ b → if◌then◌else◌ {A = Option ℕ} b (Some 0) None ≡ Some 0 → c ≡ 0
    by true e k = eqb-true c 0 e
    by false e k = absurd (none-some 0 k)
  admin_cq_region (OpenCq qid region ∷ past) h c is = by (region == c) is (admin_cq_region past h.1 c) where
    by : (b : Bool) → (if b then Some qid else cqid_of_region past c) ≡ Some 0 → (cqid_of_region past c ≡ Some 0 → c ≡ 0) → c ≡ 0
    by true k f = absurd ((opens-cq past qid region h.0).qid_is (same_Some qid 0 k))
    by false k f = f k
  admin_cq_region (e ∷ past) h c is = admin_cq_region past h.1 c is
