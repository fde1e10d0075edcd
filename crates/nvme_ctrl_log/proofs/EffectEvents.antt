-- What a picked admin command makes is lawful.
use Rattle.std.proofs.Common.{◌≡◌, ℕ, ◌||◌, Bool, true, false, List, [], ◌∷◌, ◌++◌, map, take, Option, Some, None, refl, sym, ap, ◌∙◌, append_assoc}
use Rattle.std.specs.Prelude.{MatchBool}
use Rattle.std.proofs.lemmas.List.{append-nil}
use mathlib.Core.List.{IsPrefix}
use Rattle.nvme_admin.specs.declared.verdict.Verdict.{Verdict}
use Rattle.nvme_admin.specs.declared.verdict.Verdict.TheVariants.{Done, BeginDelete, CloseCq}
use Rattle.nvme_admin.specs.declared.verdict.Verdict.TheVariants as verdict
use Rattle.nvme_log.specs.declared.event.Event.{Event}
use Rattle.nvme_log.specs.declared.event.Event.TheVariants.{Fetch, Pick, SetArbitration, OpenSq, OpenCq, Closing, Abort, Post, ClosedSq, ClosedCq}
use Rattle.nvme_log.specs.Rules.{Past, FrontRules}
use Rattle.nvme_log.specs.Queues.{Queue, open_sq, open_cq, is_closed_region}
use Rattle.nvme_log.specs.Places.{fetched, waiting, fate_of, is_waiting, is_aborted}
use Rattle.nvme_log.specs.Completions.{table_before}
use Rattle.nvme_log.specs.Effects.{is_effect, closing_of, closed_cq_of, made_by, made_last, effects_since, EffectsAtOnce, abort_in, named, target_of}
use Rattle.nvme_log.specs.Account.{IndexCounts, ServedWhileOpen}
use Rattle.nvme_ctrl_log.specs.Deletions.{deleting, FollowsDeletions}
use Rattle.nvme_ctrl_log.specs.Next.{EachNext}
use Rattle.nvme_ctrl_log.proofs.LaterEvents.{with_events}
use Rattle.nvme_ctrl_log.proofs.AbortsLeave.{aborts_leave_done, aborts_leave_region, aborts_leave, requests_leave, waits_apart, waiting_wait, named_wait}
use Rattle.nvme_log.specs.Aborts.{is_index, is_abort_requested, just_picked, has_aborted}
use Rattle.nvme_ctrl_log.proofs.AbortTargets.{target_is}

-- events that only picked admin commands make
abbrev pub AreEffects : List Event → Type 0
AreEffects [] = Unit {0}
AreEffects (e ∷ rest) = (is_effect e ≡ true) × AreEffects rest

-- aborts are such
aborts_are_effects : (r : ℕ) (is : List ℕ) → AreEffects (map (λ (i : ℕ). Abort r i) is)
aborts_are_effects r [] = tt
aborts_are_effects r (i ∷ is) = (refl, aborts_are_effects r is)

-- so is what a deletion of a submission queue begins with
closing_effects : (past : Past) (qid : ℕ) (o : Option Queue) → AreEffects (closing_of past qid o)
closing_effects past qid None = tt
closing_effects past qid (Some queue) = (refl, aborts_are_effects queue.region (waiting past queue.region))

-- and the closing of a completion queue
closed_effects : (qid : ℕ) (o : Option ℕ) → AreEffects (closed_cq_of qid o)
closed_effects qid None = tt
closed_effects qid (Some region) = (refl, tt)

-- and what an Abort command makes
abort_effects : (past : Past) (cid : ℕ) (o : Option Queue) → AreEffects (abort_in past cid o)
abort_effects past cid None = tt
abort_effects past cid (Some queue) = aborts_are_effects queue.region (take 1 (named past queue.region cid))

-- what a verdict makes are effects
pub made_are_effects : (past : Past) (v : Verdict) → AreEffects (made_by past v)
made_are_effects past (Done status dw0) = tt
made_are_effects past (verdict.OpenSq qid region cqid class) = (refl, tt)
made_are_effects past (verdict.OpenCq qid region) = (refl, tt)
made_are_effects past (BeginDelete qid) = closing_effects past qid (open_sq past qid)
made_are_effects past (CloseCq qid) = closed_effects qid (open_cq past qid)
made_are_effects past (verdict.Abort sqid cid) = abort_effects past cid (target_of past sqid)
made_are_effects past (verdict.SetArbitration settings) = (refl, tt)

-- what holds of each effect
pub next_effects : (P : Past → Event → Type 0) → ((past : Past) (e : Event) → is_effect e ≡ true → P past e)
    → (rest : List Event) (past : Past) → AreEffects rest → EachNext P rest past
next_effects P h [] past are = tt
next_effects P h (e ∷ rest) past are = (h past e are.0, next_effects P h rest (e ∷ past) are.1)

-- an effect counts no fetch
pub index_of_effect : (past : Past) (e : Event) → is_effect e ≡ true → IndexCounts past e
index_of_effect past (Fetch region index entry) h = cc h
index_of_effect past e h = tt

-- nor does it serve a queue
pub effect_is_served : (rules : FrontRules) (past : Past) (e : Event) → is_effect e ≡ true → ServedWhileOpen rules past e
effect_is_served rules past (Fetch region index entry) h = cc h
effect_is_served rules past (Pick seen pick) h = cc h
effect_is_served rules past e h = tt

-- ---- effects at once
-- an effect comes after those since the latest pick
effect_comes : (e : Event) (past : Past) → is_effect e ≡ true → effects_since (e ∷ past) ≡ effects_since past ++ e ∷ []
effect_comes (Fetch region index entry) past h = cc h
effect_comes (Pick seen pick) past h = cc h
effect_comes (Post cq_region region index cqe) past h = cc h
effect_comes (ClosedSq qid region) past h = cc h
effect_comes e past h = refl

-- it leaves what the command of the latest pick makes
effect_leaves_made : (rules : FrontRules) (e : Event) (past : Past) → is_effect e ≡ true → made_last rules (e ∷ past) ≡ made_last rules past
effect_leaves_made rules (Pick seen pick) past h = cc h
effect_leaves_made rules e past h = refl

-- and the table history at the pick of a place
effect_leaves_table : (rules : FrontRules) (i : ℕ) (e : Event) (past : Past) → is_effect e ≡ true → table_before rules (e ∷ past) i ≡ table_before rules past i
effect_leaves_table rules i (Pick seen pick) past h = cc h
effect_leaves_table rules i e past h = refl

-- a choice that is known
first_choice : (b : Bool) (A B : Type 0) → b ≡ true → A → MatchBool b A B
first_choice true A B h x = x
first_choice false A B h x = cc h

-- the effects that the latest pick makes, one after another, come at once
pub effects_come_at_once : (rules : FrontRules) (rest : List Event) (past : Past) → AreEffects rest → made_last rules past ≡ effects_since past ++ rest
    → EachNext (EffectsAtOnce rules) rest past
effects_come_at_once rules [] past are made = tt
effects_come_at_once rules (e ∷ rest) past are made =
    let more : effects_since past ++ e ∷ rest ≡ (effects_since past ++ e ∷ []) ++ rest = sym (append_assoc (effects_since past) (e ∷ []) rest) in (
      first_choice (is_effect e) (IsPrefix (effects_since past ++ e ∷ []) (made_last rules past)) (effects_since past ≡ made_last rules past) are.0
          (rest, sym (made ∙ more)),
      effects_come_at_once rules rest (e ∷ past) are.1
          (effect_leaves_made rules e past are.0 ∙ made ∙ more ∙ ap (λ (xs : List Event). xs ++ rest) (sym (effect_comes e past are.0))),
    )

-- afterwards they are all there
pub effects_are_whole : (rules : FrontRules) (rest : List Event) (past : Past) → AreEffects rest → made_last rules past ≡ effects_since past ++ rest
    → effects_since (with_events rest past) ≡ made_last rules (with_events rest past)
effects_are_whole rules [] past are made = sym (made ∙ append-nil (effects_since past))
effects_are_whole rules (e ∷ rest) past are made =
    let more : effects_since past ++ e ∷ rest ≡ (effects_since past ++ e ∷ []) ++ rest = sym (append_assoc (effects_since past) (e ∷ []) rest) in
    effects_are_whole rules rest (e ∷ past) are.1
    (effect_leaves_made rules e past are.0 ∙ made ∙ more ∙ ap (λ (xs : List Event). xs ++ rest) (sym (effect_comes e past are.0)))

-- effects leave the table history at the pick of a place
pub effects_leave_table : (rules : FrontRules) (i : ℕ) (rest : List Event) (past : Past) → AreEffects rest
    → table_before rules (with_events rest past) i ≡ table_before rules past i
effects_leave_table rules i [] past are = refl
effects_leave_table rules i (e ∷ rest) past are = effects_leave_table rules i rest (e ∷ past) are.1 ∙ effect_leaves_table rules i e past are.0

-- an effect fetches nothing
effect_leaves_fetched : (r : ℕ) (e : Event) (past : Past) → is_effect e ≡ true → fetched (e ∷ past) r ≡ fetched past r
effect_leaves_fetched r (Fetch region index entry) past h = cc h
effect_leaves_fetched r e past h = refl

-- effects leave what was fetched
pub effects_leave_fetched : (r : ℕ) (rest : List Event) (past : Past) → AreEffects rest → fetched (with_events rest past) r ≡ fetched past r
effects_leave_fetched r [] past are = refl
effects_leave_fetched r (e ∷ rest) past are = effects_leave_fetched r rest (e ∷ past) are.1 ∙ effect_leaves_fetched r e past are.0

-- ---- deletions
-- the aborted candidates are of a region that isn't closed
aborts_delete : (r : ℕ) (is : List ℕ) (past : Past) → is_closed_region past r ≡ false → EachNext FollowsDeletions (map (λ (i : ℕ). Abort r i) is) past
aborts_delete r [] past h = tt
aborts_delete r (i ∷ is) past h = (h, aborts_delete r is (Abort r i ∷ past) h)

-- so a deletion begins of a queue that isn't being deleted, and aborts no candidate of a closed region
closing_deletes : (past mid : Past) (qid : ℕ) (o : Option Queue) → ((queue : Queue) → o ≡ Some queue → (deleting mid queue.region ≡ None) × (is_closed_region mid queue.region ≡ false))
    → EachNext FollowsDeletions (closing_of past qid o) mid
closing_deletes past mid qid None h = tt
closing_deletes past mid qid (Some queue) h = (h queue refl, aborts_delete queue.region (waiting past queue.region) (Closing qid queue.region ∷ mid) (h queue refl).1)

-- and the closing of a completion queue aborts none
closed_deletes : (mid : Past) (qid : ℕ) (o : Option ℕ) → EachNext FollowsDeletions (closed_cq_of qid o) mid
closed_deletes mid qid None = tt
closed_deletes mid qid (Some region) = (tt, tt)

-- an Abort command aborts a candidate of an open queue
abort_deletes : (past mid : Past) (cid : ℕ) (o : Option Queue) → ((queue : Queue) → o ≡ Some queue → is_closed_region mid queue.region ≡ false)
    → EachNext FollowsDeletions (abort_in past cid o) mid
abort_deletes past mid cid None h = tt
abort_deletes past mid cid (Some queue) h = aborts_delete queue.region (take 1 (named past queue.region cid)) mid (h queue refl)

-- what a verdict makes deletes open queues, and aborts candidates of open queues, alone
pub made_delete : (past mid : Past) (v : Verdict) → ((q : ℕ) (queue : Queue) → open_sq past q ≡ Some queue → (deleting mid queue.region ≡ None) × (is_closed_region mid queue.region ≡ false))
    → EachNext FollowsDeletions (made_by past v) mid
made_delete past mid (Done status dw0) h = tt
made_delete past mid (verdict.OpenSq qid region cqid class) h = (tt, tt)
made_delete past mid (verdict.OpenCq qid region) h = (tt, tt)
made_delete past mid (BeginDelete qid) h = closing_deletes past mid qid (open_sq past qid) (h qid)
made_delete past mid (CloseCq qid) h = closed_deletes mid qid (open_cq past qid)
made_delete past mid (verdict.Abort sqid cid) h = abort_deletes past mid cid (target_of past sqid) (λ queue is. (h sqid queue (target_is past sqid queue is).1).1)
made_delete past mid (verdict.SetArbitration settings) h = (tt, tt)

-- ---- aborts
-- the closing of a completion queue aborts no place
closed_leave_aborts : (mid : Past) (qid x i : ℕ) (o : Option ℕ) → is_aborted (with_events (closed_cq_of qid o) mid) x i ≡ is_aborted mid x i
closed_leave_aborts mid qid x i None = refl
closed_leave_aborts mid qid x i (Some region) = refl

-- the beginning of a deletion aborts no place that doesn't wait
closing_leave_done : (past mid : Past) (qid x i : ℕ) (o : Option Queue) → is_waiting (fate_of past x i) ≡ false
    → is_aborted (with_events (closing_of past qid o) mid) x i ≡ is_aborted mid x i
closing_leave_done past mid qid x i None h = refl
closing_leave_done past mid qid x i (Some queue) h = aborts_leave_done queue.region x i past (Closing qid queue.region ∷ mid) h

-- nor does an Abort command
abort_leave_done : (past mid : Past) (cid x i : ℕ) (o : Option Queue) → is_waiting (fate_of past x i) ≡ false
    → is_aborted (with_events (abort_in past cid o) mid) x i ≡ is_aborted mid x i
abort_leave_done past mid cid x i None h = refl
abort_leave_done past mid cid x i (Some queue) h =
    aborts_leave queue.region x i (take 1 (named past queue.region cid)) mid
    (waits_apart queue.region x i past (take 1 (named past queue.region cid)) (named_wait past queue.region cid) h)

-- what a verdict makes aborts no place that doesn't wait
pub made_leave_done : (past mid : Past) (v : Verdict) (x i : ℕ) → is_waiting (fate_of past x i) ≡ false
    → is_aborted (with_events (made_by past v) mid) x i ≡ is_aborted mid x i
made_leave_done past mid (Done status dw0) x i h = refl
made_leave_done past mid (verdict.OpenSq qid region cqid class) x i h = refl
made_leave_done past mid (verdict.OpenCq qid region) x i h = refl
made_leave_done past mid (BeginDelete qid) x i h = closing_leave_done past mid qid x i (open_sq past qid) h
made_leave_done past mid (CloseCq qid) x i h = closed_leave_aborts mid qid x i (open_cq past qid)
made_leave_done past mid (verdict.Abort sqid cid) x i h = abort_leave_done past mid cid x i (target_of past sqid) h
made_leave_done past mid (verdict.SetArbitration settings) x i h = refl

-- by whatever command
closing_leave_requests : (past mid : Past) (qid x i : ℕ) (o : Option Queue) → is_waiting (fate_of past x i) ≡ false
    → is_abort_requested (with_events (closing_of past qid o) mid) x i ≡ is_abort_requested mid x i
closing_leave_requests past mid qid x i None h = refl
closing_leave_requests past mid qid x i (Some queue) h =
    requests_leave queue.region x i (waiting past queue.region) (Closing qid queue.region ∷ mid)
    (waits_apart queue.region x i past (waiting past queue.region) (waiting_wait past queue.region) h)

closed_leave_requests : (mid : Past) (qid x i : ℕ) (o : Option ℕ) → is_abort_requested (with_events (closed_cq_of qid o) mid) x i ≡ is_abort_requested mid x i
closed_leave_requests mid qid x i None = refl
closed_leave_requests mid qid x i (Some region) = refl

abort_leave_requests : (past mid : Past) (cid x i : ℕ) (o : Option Queue) → is_waiting (fate_of past x i) ≡ false
    → is_abort_requested (with_events (abort_in past cid o) mid) x i ≡ is_abort_requested mid x i
abort_leave_requests past mid cid x i None h = refl
abort_leave_requests past mid cid x i (Some queue) h =
    requests_leave queue.region x i (take 1 (named past queue.region cid)) mid
    (waits_apart queue.region x i past (take 1 (named past queue.region cid)) (named_wait past queue.region cid) h)

pub made_leave_requests : (past mid : Past) (v : Verdict) (x i : ℕ) → is_waiting (fate_of past x i) ≡ false
    → is_abort_requested (with_events (made_by past v) mid) x i ≡ is_abort_requested mid x i
made_leave_requests past mid (Done status dw0) x i h = refl
made_leave_requests past mid (verdict.OpenSq qid region cqid class) x i h = refl
made_leave_requests past mid (verdict.OpenCq qid region) x i h = refl
made_leave_requests past mid (BeginDelete qid) x i h = closing_leave_requests past mid qid x i (open_sq past qid) h
made_leave_requests past mid (CloseCq qid) x i h = closed_leave_requests mid qid x i (open_cq past qid)
made_leave_requests past mid (verdict.Abort sqid cid) x i h = abort_leave_requests past mid cid x i (target_of past sqid) h
made_leave_requests past mid (verdict.SetArbitration settings) x i h = refl

-- what a command makes is told of the place that it was picked with alone
pub effects_leave_told : (i : ℕ) (rest : List Event) (past : Past) → AreEffects rest → is_index i (just_picked past) ≡ false
    → has_aborted (with_events rest past) i ≡ has_aborted past i
effects_leave_told i [] past are apart = refl
effects_leave_told i (Fetch region index entry ∷ rest) past are apart = cc (are.0)
effects_leave_told i (Pick seen pick ∷ rest) past are apart = cc (are.0)
effects_leave_told i (Post cq_region region index cqe ∷ rest) past are apart = cc (are.0)
effects_leave_told i (ClosedSq qid region ∷ rest) past are apart = cc (are.0)
effects_leave_told i (Abort region index ∷ rest) past are apart =
    effects_leave_told i rest (Abort region index ∷ past) are.1 refl ∙ ap (λ (b : Bool). b || has_aborted past i) apart
effects_leave_told i (SetArbitration settings ∷ rest) past are apart = effects_leave_told i rest (SetArbitration settings ∷ past) are.1 refl
effects_leave_told i (OpenSq qid region cqid class ∷ rest) past are apart = effects_leave_told i rest (OpenSq qid region cqid class ∷ past) are.1 refl
effects_leave_told i (OpenCq qid region ∷ rest) past are apart = effects_leave_told i rest (OpenCq qid region ∷ past) are.1 refl
effects_leave_told i (Closing qid region ∷ rest) past are apart = effects_leave_told i rest (Closing qid region ∷ past) are.1 refl
effects_leave_told i (ClosedCq qid region ∷ rest) past are apart = effects_leave_told i rest (ClosedCq qid region ∷ past) are.1 refl

-- nor a place of another region
closing_leave_region : (past mid : Past) (qid x i : ℕ) (o : Option Queue) → ((queue : Queue) → o ≡ Some queue → queue.region ≡ x → ⊥)
    → is_aborted (with_events (closing_of past qid o) mid) x i ≡ is_aborted mid x i
closing_leave_region past mid qid x i None h = refl
closing_leave_region past mid qid x i (Some queue) h = aborts_leave_region queue.region x i (waiting past queue.region) (Closing qid queue.region ∷ mid) (h queue refl)

-- nor does an Abort command
abort_leave_region : (past mid : Past) (cid x i : ℕ) (o : Option Queue) → ((queue : Queue) → o ≡ Some queue → queue.region ≡ x → ⊥)
    → is_aborted (with_events (abort_in past cid o) mid) x i ≡ is_aborted mid x i
abort_leave_region past mid cid x i None h = refl
abort_leave_region past mid cid x i (Some queue) h = aborts_leave_region queue.region x i (take 1 (named past queue.region cid)) mid (h queue refl)

-- what a verdict makes aborts no place of a region whose queue it doesn't delete, and whose candidates it doesn't name
pub made_leave_region : (past mid : Past) (v : Verdict) (x i : ℕ)
    → ((qid : ℕ) (queue : Queue) → v ≡ BeginDelete qid → open_sq past qid ≡ Some queue → queue.region ≡ x → ⊥)
    → ((sqid : ℕ) (queue : Queue) → target_of past sqid ≡ Some queue → queue.region ≡ x → ⊥)
    → is_aborted (with_events (made_by past v) mid) x i ≡ is_aborted mid x i
made_leave_region past mid (Done status dw0) x i h g = refl
made_leave_region past mid (verdict.OpenSq qid region cqid class) x i h g = refl
made_leave_region past mid (verdict.OpenCq qid region) x i h g = refl
made_leave_region past mid (verdict.Abort sqid cid) x i h g = abort_leave_region past mid cid x i (target_of past sqid) (g sqid)
made_leave_region past mid (BeginDelete qid) x i h g = closing_leave_region past mid qid x i (open_sq past qid) (λ queue is same. h qid queue refl is same)
made_leave_region past mid (CloseCq qid) x i h g = closed_leave_aborts mid qid x i (open_cq past qid)
made_leave_region past mid (verdict.SetArbitration settings) x i h g = refl
