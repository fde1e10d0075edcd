-- An event that an admin command makes alone comes right after the pick of that command.
use Rattle.std.proofs.Common.{◌≡◌, ℕ, ◌==◌, Bool, true, false, if◌then◌else◌, List, [], ◌∷◌, ◌++◌, length, Option, Some, None, refl, sym, ap, ◌∙◌, arith, length-append, eqb-true}
use mathlib.Core.List.{IsPrefix}
use Rattle.nvme_entry.specs.declared.submission.Sqe.{Sqe}
use Rattle.nvme_arbiter.specs.declared.pick.Pick.{Pick}
use Rattle.nvme_arbiter.specs.declared.pick.Seen.{Seen}
use Rattle.nvme_arbiter.specs.declared.settings.Class.{Class}
use Rattle.nvme_admin.specs.History.{EntryApplied}
use Rattle.nvme_admin.specs.Accepted.{verdict_of}
use Rattle.nvme_admin.specs.declared.verdict.Verdict.{Verdict}
use Rattle.nvme_admin.specs.declared.verdict.Verdict.TheVariants as verdict
use Rattle.nvme_log.specs.declared.event.Event.{Event}
use Rattle.nvme_log.specs.declared.event.Event.TheVariants.{Fetch, Post, ClosedSq, SetArbitration, OpenSq, OpenCq, Closing, Abort, ClosedCq}
use Rattle.nvme_log.specs.declared.event.Event.TheVariants as event
use Rattle.nvme_log.specs.Rules.{FrontRules, Past, Each}
use Rattle.nvme_log.specs.Histories.{table_history, admin_entry}
use Rattle.nvme_log.specs.Effects.{closed_cq_of, made_by, made_of, made_last, effects_since, EffectsAtOnce}
use Rattle.nvme_log.proofs.Members.{IsIn, in-prefix}
use Rattle.nvme_log.proofs.Promise.{pushed_some}
use Rattle.nvme_log.proofs.Turns.{opened-by}
use Rattle.nvme_own_log.proofs.OwnRegions.{cq_opened-by, cq_closed-by}

-- nothing comes before the one event of a list that another begins with
only-first : (es rest : List Event) (e one : Event) → (es ++ e ∷ []) ++ rest ≡ one ∷ [] → es ≡ []
only-first [] rest e one h = refl
only-first (x ∷ es) rest e one h = absurd (omega (arith, ap length h, length-append (x ∷ (es ++ e ∷ [])) rest, length-append es (e ∷ [])))

module _ (rules : FrontRules) where
  -- the latest event is the pick of an admin command with this verdict
  pub record IsAtPick (past : Past) (v : Verdict) : Type 0 where
    pub before : Past
    pub seen : List Seen
    pub pick : Pick
    pub stands : past ≡ event.Pick seen pick ∷ before
    pub of_admin : pick.qid ≡ 0
    pub entry : Sqe
    pub verdict_is : verdict_of rules.start (table_history rules before) entry ≡ v
    pub whole : Each (EffectsAtOnce rules) before
    pub effects_whole : effects_since before ≡ made_last rules before
    pub history_is : table_history rules past ≡ EntryApplied entry ∷ table_history rules before

  -- an event is the only one that a verdict makes, and just this one makes it
  module _ (one : Event) (v : Verdict) (alone : (past : Past) (w : Verdict) → IsIn one (made_by past w) → (w ≡ v) × (made_by past w ≡ one ∷ [])) where
    made_alone : (past : Past) → IsIn one (made_last rules past) → made_last rules past ≡ one ∷ []
    made_alone [] h = absurd h
    made_alone (event.Pick seen pick ∷ past) h = by (pick.qid == 0) (admin_entry past) h where
      by : (b : Bool) (o : Option Sqe) → IsIn one (if b then made_of rules past o else []) → (if b then made_of rules past o else []) ≡ one ∷ []
      by false o k = absurd k
      by true None k = absurd k
      by true (Some entry) k = (alone past (verdict_of rules.start (table_history rules past) entry) k).1
    made_alone (e ∷ past) h = made_alone past h

    here : (past : Past) → Each (EffectsAtOnce rules) past → effects_since past ≡ [] → IsIn one (made_last rules past) → made_last rules past ≡ one ∷ [] → IsAtPick past v
    here [] h none is made = absurd is
    here (event.Pick seen pick ∷ past) h none is made = by (pick.qid == 0) refl (admin_entry past) refl is where
      by : (b : Bool) → (pick.qid == 0) ≡ b → (o : Option Sqe) → admin_entry past ≡ o → IsIn one (if b then made_of rules past o else []) → IsAtPick (event.Pick seen pick ∷ past) v
      by false z o e k = absurd k
      by true z None e k = absurd k
      by true z (Some entry) e k = record {
        before = past;
        seen = seen;
        pick = pick;
        stands = refl;
        of_admin = eqb-true pick.qid 0 z;
        entry = entry;
        verdict_is = (alone past (verdict_of rules.start (table_history rules past) entry) k).0;
        whole = h.1;
        effects_whole = h.0;
        history_is = rw (z, e) refl;
      }
    here (Fetch region index entry ∷ past) h none is made = absurd (let e : [] ≡ one ∷ [] = sym none ∙ h.0 ∙ made in cc e)
    here (Post c region index cqe ∷ past) h none is made = absurd (let e : [] ≡ one ∷ [] = sym none ∙ h.0 ∙ made in cc e)
    here (ClosedSq qid region ∷ past) h none is made = absurd (let e : [] ≡ one ∷ [] = sym none ∙ h.0 ∙ made in cc e)
    here (SetArbitration settings ∷ past) h none is made = absurd (pushed_some _ _ none)
    here (OpenSq qid region cqid class ∷ past) h none is made = absurd (pushed_some _ _ none)
    here (OpenCq qid region ∷ past) h none is made = absurd (pushed_some _ _ none)
    here (Closing qid region ∷ past) h none is made = absurd (pushed_some _ _ none)
    here (Abort region index ∷ past) h none is made = absurd (pushed_some _ _ none)
    here (ClosedCq qid region ∷ past) h none is made = absurd (pushed_some _ _ none)

    after_pick : (past : Past) → Each (EffectsAtOnce rules) past → IsPrefix (effects_since past ++ one ∷ []) (made_last rules past) → IsAtPick past v
    after_pick past h p =
        let is = in-prefix (effects_since past) (made_last rules past) one p in
        let made = made_alone past is in
        here past h (only-first (effects_since past) p.0 one one (p.1 ∙ made)) is made

  -- so a queue is opened, and a completion queue is closed
  pub at_open_sq : (past : Past) → Each (EffectsAtOnce rules) past → (qid region cqid : ℕ) (class : Class) → EffectsAtOnce rules past (OpenSq qid region cqid class) → IsAtPick past (verdict.OpenSq qid region cqid class)
  at_open_sq past h qid region cqid class it =
      after_pick (OpenSq qid region cqid class) (verdict.OpenSq qid region cqid class)
      (λ before w is. let v = opened-by before w qid region cqid class is in (v, ap (made_by before) v)) past h it

  pub at_open_cq : (past : Past) → Each (EffectsAtOnce rules) past → (qid region : ℕ) → EffectsAtOnce rules past (OpenCq qid region) → IsAtPick past (verdict.OpenCq qid region)
  at_open_cq past h qid region it =
      after_pick (OpenCq qid region) (verdict.OpenCq qid region)
      (λ before w is. let v = cq_opened-by before w qid region is in (v, ap (made_by before) v)) past h it

  pub at_close_cq : (past : Past) → Each (EffectsAtOnce rules) past → (qid region : ℕ) → EffectsAtOnce rules past (ClosedCq qid region) → IsAtPick past (verdict.CloseCq qid)
  at_close_cq past h qid region it =
      after_pick (ClosedCq qid region) (verdict.CloseCq qid)
      (λ before w is. let v = cq_closed-by before w qid region is in (v.0, ap (made_by before) v.0 ∙ ap (closed_cq_of qid) v.1)) past h it
