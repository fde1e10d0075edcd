-- Posts don't matter to a loaded log: its words say the same of a log and of it without its posts, and what an account says of a log holds of it
-- without its posts.
use Rattle.std.proofs.Common.{◌≡◌, ℕ, ◌+◌, ◌==◌, ◌&&◌, ◌||◌, Bool, true, false, not, nat_lt, nat_le, if◌then◌else◌, MatchBool, is_some, List, [], ◌∷◌, ◌++◌, length, map, filter, take, slice_get, option_and_then, Option, Some, None, refl, sym, ap, ◌∙◌, subst, inl, inr}
use Rattle.std.specs.List.{flat_map, list_any}
use Rattle.std.proofs.lemmas.Bool.{eq-eqb}
use Rattle.std.proofs.lemmas.Option.{none-some}
use mathlib.Core.List.{IsPrefix}
use Rattle.nvme_entry.specs.declared.submission.Sqe.{Sqe}
use Rattle.nvme_entry.specs.declared.completion.Cqe.{Cqe}
use Rattle.nvme_arbiter.specs.Limits.{queue_limit}
use Rattle.nvme_arbiter.specs.Lawful.{IsLawfulRun}
use Rattle.nvme_arbiter.specs.History.{History, Picked, Changed}
use Rattle.nvme_arbiter.specs.declared.pick.Seen.{Seen}
use Rattle.nvme_admin.specs.History.{TableHistory, DeletionFinished}
use Rattle.nvme_admin.specs.Accepted.{verdict_of}
use Rattle.nvme_admin.specs.declared.verdict.Verdict.{Verdict}
use Rattle.nvme_admin.specs.declared.verdict.Verdict.TheVariants.{Done, BeginDelete, CloseCq}
use Rattle.nvme_admin.specs.declared.verdict.Verdict.TheVariants as verdict
use Rattle.nvme_log.specs.declared.event.Event.{Event}
use Rattle.nvme_log.specs.declared.event.Event.TheVariants.{Fetch, SetArbitration, OpenSq, OpenCq, Closing, Abort, Post, ClosedSq, ClosedCq}
use Rattle.nvme_log.specs.declared.event.Event.TheVariants as event
use Rattle.nvme_log.specs.Rules.{Past, FrontRules, Each, upto, window_at}
use Rattle.nvme_log.specs.Queues.{Queue, Deletion, open_sq, open_cq, has_region, is_open_region, pending, is_closed_region, qid_of_region}
use Rattle.nvme_log.specs.Places.{WasAborted, WasPicked, Waits, fetched, picked, is_aborted, fate_of, is_waiting, waiting, entry_at, seen_as, observation_of}
use Rattle.nvme_log.specs.Histories.{arbitration_of, admin_entry, applied, table_history}
use Rattle.nvme_log.specs.Effects.{is_effect, closing_of, closed_cq_of, has_cid, named, abort_in, target_of, made_by, made_of, made_last, effects_since, EffectsAtOnce}
use Rattle.nvme_log.specs.Answers.{Executor, by_outcome}
use Rattle.nvme_log.specs.Account.{IndexCounts, ServedWhileOpen, Observed, Deletes, IsAccount, IsAccountBy}
use Rattle.nvme_log.specs.Loaded.{is_post, without_posts, IsNoPost, is_filled, FilledBefore, FetchesLast, is_abort, is_closed_of, ends_deletion, ClosedAtOnce, NothingAfterClosed, LoadedSoFar}
use Rattle.nvme_log.proofs.Members.{IsIn, in-append_right, in-append_left}

-- ---- queues
-- the open submission queues
pub open_sq-posts : (past : Past) (q : ℕ) → open_sq (without_posts past) q ≡ open_sq past q
open_sq-posts [] q = refl
open_sq-posts (OpenSq qid region cqid class ∷ past) q =
    ap (λ (o : Option Queue). if qid == q then Some (record { region = region; cqid = cqid; class = class }) else o) (open_sq-posts past q)
open_sq-posts (Closing qid region ∷ past) q = ap (λ (o : Option Queue). if qid == q then None else o) (open_sq-posts past q)
open_sq-posts (e ∷ past) q = open_sq-posts past q

-- and completion queues
pub open_cq-posts : (past : Past) (q : ℕ) → open_cq (without_posts past) q ≡ open_cq past q
open_cq-posts [] q = refl
open_cq-posts (OpenCq qid region ∷ past) q = ap (λ (o : Option ℕ). if qid == q then Some region else o) (open_cq-posts past q)
open_cq-posts (ClosedCq qid region ∷ past) q = ap (λ (o : Option ℕ). if qid == q then None else o) (open_cq-posts past q)
open_cq-posts (e ∷ past) q = open_cq-posts past q

-- the pending deletion
pub pending-posts : (past : Past) → pending (without_posts past) ≡ pending past
pending-posts [] = refl
pending-posts (Closing qid region ∷ past) = refl
pending-posts (ClosedSq qid region ∷ past) = refl
pending-posts (e ∷ past) = pending-posts past

-- the regions whose deletion was finished
pub is_closed_region-posts : (past : Past) (r : ℕ) → is_closed_region (without_posts past) r ≡ is_closed_region past r
is_closed_region-posts [] r = refl
is_closed_region-posts (ClosedSq qid region ∷ past) r = ap (λ (b : Bool). region == r || b) (is_closed_region-posts past r)
is_closed_region-posts (e ∷ past) r = is_closed_region-posts past r

-- what a region was opened for
pub qid_of_region-posts : (past : Past) (r : ℕ) → qid_of_region (without_posts past) r ≡ qid_of_region past r
qid_of_region-posts [] r = refl
qid_of_region-posts (OpenSq qid region cqid class ∷ past) r = ap (λ (o : Option ℕ). if region == r then Some qid else o) (qid_of_region-posts past r)
qid_of_region-posts (e ∷ past) r = qid_of_region-posts past r

-- ---- places
-- what was fetched
pub fetched-posts : (past : Past) (r : ℕ) → fetched (without_posts past) r ≡ fetched past r
fetched-posts [] r = refl
fetched-posts (Fetch region index entry ∷ past) r = ap (λ (xs : List Sqe). if region == r then xs ++ entry ∷ [] else xs) (fetched-posts past r)
fetched-posts (e ∷ past) r = fetched-posts past r

-- how many were picked
picked-posts : (past : Past) (r : ℕ) → picked (without_posts past) r ≡ picked past r
picked-posts [] r = refl
picked-posts (event.Pick seen pick ∷ past) r = λ t.
    if has_region r (open_sq-posts past pick.qid t) then picked-posts past r t + pick.n else picked-posts past r t
picked-posts (e ∷ past) r = picked-posts past r

-- which were aborted
is_aborted-posts : (past : Past) (r i : ℕ) → is_aborted (without_posts past) r i ≡ is_aborted past r i
is_aborted-posts [] r i = refl
is_aborted-posts (Abort region index ∷ past) r i = ap (λ (b : Bool). (region == r && index == i) || b) (is_aborted-posts past r i)
is_aborted-posts (e ∷ past) r i = is_aborted-posts past r i

-- what became of a place
pub fate_of-posts : (past : Past) (r i : ℕ) → fate_of (without_posts past) r i ≡ fate_of past r i
fate_of-posts past r i = λ t.
    if is_aborted-posts past r i t then WasAborted
    else (if nat_lt (length (filter (λ (k : ℕ). not (is_aborted-posts past r k t)) (upto i))) (picked-posts past r t) then WasPicked else Waits)

-- the places that wait
pub waiting-posts : (past : Past) (r : ℕ) → waiting (without_posts past) r ≡ waiting past r
waiting-posts past r = λ t. filter (λ (i : ℕ). is_waiting (fate_of-posts past r i t)) (upto (length (fetched-posts past r t)))

-- the entry of a place
entry_at-posts : (past : Past) (r i : ℕ) → entry_at (without_posts past) r i ≡ entry_at past r i
entry_at-posts past r i = ap (λ (xs : List Sqe). slice_get xs i) (fetched-posts past r)

-- what arbitration sees of a queue
seen_as-posts : (past : Past) (q : ℕ) (o : Option Queue) → seen_as (without_posts past) q o ≡ seen_as past q o
seen_as-posts past q None = refl
seen_as-posts past q (Some queue) =
    ap (λ (n : ℕ). the_seen n ∷ []) (ap length (waiting-posts past queue.region)) where
      the_seen : ℕ → Seen
      the_seen n = record { qid = q; class = queue.class; count = n }

-- and of all open queues
pub observation_of-posts : (past : Past) → observation_of (without_posts past) ≡ observation_of past
observation_of-posts past = ap (λ (f : ℕ → List Seen). flat_map f (upto queue_limit)) one where
  seen_before : Past → ℕ → List Seen
  seen_before before q = seen_as before q (open_sq before q)

  one : seen_before (without_posts past) ≡ seen_before past
  one = λ t q. (seen_as-posts past q (open_sq (without_posts past) q) ∙ ap (seen_as past q) (open_sq-posts past q)) t

-- the regions of open queues
pub is_open_region-posts : (past : Past) (r : ℕ) → is_open_region (without_posts past) r ≡ is_open_region past r
is_open_region-posts past r = λ t. open_in (λ (q : ℕ). open_sq-posts past q t) where
  open_in : (ℕ → Option Queue) → Bool
  open_in f = list_any (λ (q : ℕ). has_region r (f q)) (upto queue_limit)

-- ---- histories
-- the picks and the changes of the settings
pub arbitration_of-posts : (past : Past) → arbitration_of (without_posts past) ≡ arbitration_of past
arbitration_of-posts [] = refl
arbitration_of-posts (event.Pick seen pick ∷ past) = ap (λ (h : History). Picked seen pick ∷ h) (arbitration_of-posts past)
arbitration_of-posts (SetArbitration settings ∷ past) = ap (λ (h : History). Changed settings ∷ h) (arbitration_of-posts past)
arbitration_of-posts (e ∷ past) = arbitration_of-posts past

-- the entry that a pick of the admin queue takes
admin_entry-posts : (past : Past) → admin_entry (without_posts past) ≡ admin_entry past
admin_entry-posts past = λ t. option_and_then (λ (i : ℕ). entry_at-posts past 0 i t) (slice_get (waiting-posts past 0 t) 0)

-- the history of the queue table
pub table_history-posts : (rules : FrontRules) (past : Past) → table_history rules (without_posts past) ≡ table_history rules past
table_history-posts rules [] = refl
table_history-posts rules (event.Pick seen pick ∷ past) = λ t.
    if pick.qid == 0 then applied (admin_entry-posts past t) ++ table_history-posts rules past t else table_history-posts rules past t
table_history-posts rules (ClosedSq qid region ∷ past) = ap (λ (h : TableHistory). DeletionFinished qid ∷ h) (table_history-posts rules past)
table_history-posts rules (e ∷ past) = table_history-posts rules past

-- ---- effects
-- what a deletion that begins makes
closing_of-posts : (past : Past) (qid : ℕ) (o : Option Queue) → closing_of (without_posts past) qid o ≡ closing_of past qid o
closing_of-posts past qid None = refl
closing_of-posts past qid (Some queue) =
    ap (λ (is : List ℕ). Closing qid queue.region ∷ map (λ (i : ℕ). Abort queue.region i) is) (waiting-posts past queue.region)

-- the candidates with a command identifier
named-posts : (past : Past) (r cid : ℕ) → named (without_posts past) r cid ≡ named past r cid
named-posts past r cid = λ t. filter (λ (i : ℕ). has_cid cid (entry_at-posts past r i t)) (waiting-posts past r t)

-- what an Abort command makes of a queue
abort_in-posts : (past : Past) (cid : ℕ) (o : Option Queue) → abort_in (without_posts past) cid o ≡ abort_in past cid o
abort_in-posts past cid None = refl
abort_in-posts past cid (Some queue) = ap (λ (is : List ℕ). map (λ (i : ℕ). Abort queue.region i) (take 1 is)) (named-posts past queue.region cid)

-- what a verdict makes
made_by-posts : (past : Past) (v : Verdict) → made_by (without_posts past) v ≡ made_by past v
made_by-posts past (Done status dw0) = refl
made_by-posts past (verdict.OpenSq qid region cqid class) = refl
made_by-posts past (verdict.OpenCq qid region) = refl
made_by-posts past (BeginDelete qid) = closing_of-posts past qid (open_sq (without_posts past) qid) ∙ ap (closing_of past qid) (open_sq-posts past qid)
made_by-posts past (CloseCq qid) = ap (closed_cq_of qid) (open_cq-posts past qid)
made_by-posts past (verdict.Abort sqid cid) =
    abort_in-posts past cid (target_of (without_posts past) sqid)
    ∙ ap (λ (o : Option Queue). abort_in past cid (if sqid == 0 then None else o)) (open_sq-posts past sqid)
made_by-posts past (verdict.SetArbitration settings) = refl

-- what an admin entry makes
made_of-posts : (rules : FrontRules) (past : Past) (o : Option Sqe) → made_of rules (without_posts past) o ≡ made_of rules past o
made_of-posts rules past None = refl
made_of-posts rules past (Some entry) =
    made_by-posts past (verdict_of rules.start (table_history rules (without_posts past)) entry)
    ∙ ap (λ (h : TableHistory). made_by past (verdict_of rules.start h entry)) (table_history-posts rules past)

-- what the latest pick makes
pub made_last-posts : (rules : FrontRules) (past : Past) → made_last rules (without_posts past) ≡ made_last rules past
made_last-posts rules [] = refl
made_last-posts rules (event.Pick seen pick ∷ past) =
    ap (λ (xs : List Event). if pick.qid == 0 then xs else [])
    (made_of-posts rules past (admin_entry (without_posts past)) ∙ ap (made_of rules past) (admin_entry-posts past))
made_last-posts rules (e ∷ past) = made_last-posts rules past

-- the effects since the latest pick
pub effects_since-posts : (past : Past) → effects_since (without_posts past) ≡ effects_since past
effects_since-posts [] = refl
effects_since-posts (event.Pick seen pick ∷ past) = refl
effects_since-posts (SetArbitration settings ∷ past) = ap (λ (xs : List Event). xs ++ SetArbitration settings ∷ []) (effects_since-posts past)
effects_since-posts (OpenSq qid region cqid class ∷ past) = ap (λ (xs : List Event). xs ++ OpenSq qid region cqid class ∷ []) (effects_since-posts past)
effects_since-posts (OpenCq qid region ∷ past) = ap (λ (xs : List Event). xs ++ OpenCq qid region ∷ []) (effects_since-posts past)
effects_since-posts (Closing qid region ∷ past) = ap (λ (xs : List Event). xs ++ Closing qid region ∷ []) (effects_since-posts past)
effects_since-posts (Abort region index ∷ past) = ap (λ (xs : List Event). xs ++ Abort region index ∷ []) (effects_since-posts past)
effects_since-posts (ClosedCq qid region ∷ past) = ap (λ (xs : List Event). xs ++ ClosedCq qid region ∷ []) (effects_since-posts past)
effects_since-posts (e ∷ past) = effects_since-posts past

-- ---- windows
-- a queue is filled
pub is_filled-posts : (rules : FrontRules) (scripts : ℕ → List Sqe) (past : Past) (o : Option Queue)
    → is_filled rules scripts (without_posts past) o ≡ is_filled rules scripts past o
is_filled-posts rules scripts past None = refl
is_filled-posts rules scripts past (Some queue) = λ t.
    nat_le (length (scripts queue.region)) (length (fetched-posts past queue.region t))
    || nat_le (window_at rules queue.region) (length (waiting-posts past queue.region t))

-- the queue of an identifier is
pub is_filled-at : (rules : FrontRules) (scripts : ℕ → List Sqe) (past : Past) (q : ℕ)
    → is_filled rules scripts (without_posts past) (open_sq (without_posts past) q) ≡ is_filled rules scripts past (open_sq past q)
is_filled-at rules scripts past q = is_filled-posts rules scripts past (open_sq (without_posts past) q) ∙ ap (is_filled rules scripts past) (open_sq-posts past q)

-- ---- what holds of each event
-- what holds of each event of a log holds of each event but posts of it without its posts
pub each-posts : (P Q : Past → Event → Type 0) → ((past : Past) (e : Event) → is_post e ≡ false → P past e → Q (without_posts past) e)
    → (past : Past) → Each P past → Each Q (without_posts past)
each-posts P Q f [] h = tt
each-posts P Q f (e ∷ past) h = by (is_post e) refl (each-posts P Q f past h.1) where
  by : (b : Bool) → is_post e ≡ b → Each Q (without_posts past) → Each Q (if not b then e ∷ without_posts past else without_posts past)
  by true is rest = rest
  by false is rest = (f past e is h.0, rest)

-- no post is left
pub no_post-posts : (past : Past) → Each IsNoPost (without_posts past)
no_post-posts [] = tt
no_post-posts (Post c r i cqe ∷ past) = no_post-posts past
no_post-posts (e ∷ past) = (tt, no_post-posts past)

-- indexes count
index_counts-posts : (past : Past) (e : Event) → is_post e ≡ false → IndexCounts past e → IndexCounts (without_posts past) e
index_counts-posts past (Fetch r i entry) is h = h ∙ ap length (sym (fetched-posts past r))
index_counts-posts past e is h = tt

-- a queue is served while it is open
served_while_open-posts : (rules : FrontRules) (past : Past) (e : Event) → is_post e ≡ false → ServedWhileOpen rules past e → ServedWhileOpen rules (without_posts past) e
served_while_open-posts rules past (Fetch r i entry) is h = (
  is_open_region-posts past r ∙ h.0,
  ap (λ (is : List ℕ). nat_le (length is) (window_at rules r)) (waiting-posts (Fetch r i entry ∷ past) r) ∙ h.1,
)
served_while_open-posts rules past (event.Pick seen pick) is h = ap is_some (open_sq-posts past pick.qid) ∙ h
served_while_open-posts rules past e is h = tt

-- arbitration sees the open queues
observed-posts : (past : Past) (e : Event) → is_post e ≡ false → Observed past e → Observed (without_posts past) e
observed-posts past (event.Pick seen pick) is h = h ∙ sym (observation_of-posts past)
observed-posts past e is h = tt

-- effects stand right after their pick
effects_at_once-posts : (rules : FrontRules) (past : Past) (e : Event) → is_post e ≡ false → EffectsAtOnce rules past e → EffectsAtOnce rules (without_posts past) e
effects_at_once-posts rules past e is h =
    subst (λ (xs : List Event). MatchBool (is_effect e) (IsPrefix (effects_since (without_posts past) ++ e ∷ []) xs) (effects_since (without_posts past) ≡ xs))
    (sym (made_last-posts rules past))
    (subst (λ (xs : List Event). MatchBool (is_effect e) (IsPrefix (xs ++ e ∷ []) (made_last rules past)) (xs ≡ made_last rules past))
    (sym (effects_since-posts past)) h)

-- ---- deletions
-- behind its first event, a list has aborts alone
abbrev pub EndsInAborts : List Event → Type 0
EndsInAborts [] = Unit {0}
EndsInAborts (x ∷ xs) = (e : Event) → IsIn e xs → is_abort e ≡ true

-- an abort of a list of them is one
abort-among : (r : ℕ) (is : List ℕ) (e : Event) → IsIn e (map (λ (i : ℕ). Abort r i) is) → is_abort e ≡ true
abort-among r [] e h = absurd h
abort-among r (i ∷ is) e (inl same) = ap is_abort (sym same)
abort-among r (i ∷ is) e (inr h) = abort-among r is e h

-- so is each behind the first
aborts-end : (r : ℕ) (is : List ℕ) → EndsInAborts (map (λ (i : ℕ). Abort r i) is)
aborts-end r [] = tt
aborts-end r (i ∷ is) = abort-among r is

-- what a verdict makes ends in aborts
made_by-ends : (past : Past) (v : Verdict) → EndsInAborts (made_by past v)
made_by-ends past (Done status dw0) = tt
made_by-ends past (verdict.OpenSq qid region cqid class) = λ e h. absurd h
made_by-ends past (verdict.OpenCq qid region) = λ e h. absurd h
made_by-ends past (BeginDelete qid) = by (open_sq past qid) where
  by : (o : Option Queue) → EndsInAborts (closing_of past qid o)
  by None = tt
  by (Some queue) = abort-among queue.region (waiting past queue.region)
made_by-ends past (CloseCq qid) = by (open_cq past qid) where
  by : (o : Option ℕ) → EndsInAborts (closed_cq_of qid o)
  by None = tt
  by (Some region) = λ e h. absurd h
made_by-ends past (verdict.Abort sqid cid) = by (target_of past sqid) where
  by : (o : Option Queue) → EndsInAborts (abort_in past cid o)
  by None = tt
  by (Some queue) = aborts-end queue.region (take 1 (named past queue.region cid))
made_by-ends past (verdict.SetArbitration settings) = λ e h. absurd h

-- and so does what the latest pick makes
made_last-ends : (rules : FrontRules) (past : Past) → EndsInAborts (made_last rules past)
made_last-ends rules [] = tt
made_last-ends rules (event.Pick seen pick ∷ past) = by (pick.qid == 0) (admin_entry past) where
  by : (b : Bool) (o : Option Sqe) → EndsInAborts (if b then made_of rules past o else [])
  by false o = tt
  by true None = tt
  by true (Some entry) = made_by-ends past (verdict_of rules.start (table_history rules past) entry)
made_last-ends rules (e ∷ past) = made_last-ends rules past

-- what comes behind the first effects of such a list is an abort
behind-effects : (xs made : List Event) (e : Event) → (xs ≡ [] → ⊥) → IsPrefix (xs ++ e ∷ []) made → EndsInAborts made → is_abort e ≡ true
behind-effects [] made e some h ends = absurd (some refl)
behind-effects (x ∷ xs) made e some h ends =
    subst EndsInAborts (sym h.1) ends e (in-append_left e (xs ++ e ∷ []) h.0 (in-append_right e xs (e ∷ []) (inl refl)))

-- a list with an element more isn't empty
pushed : (xs : List Event) (e : Event) → xs ++ e ∷ [] ≡ [] → ⊥
pushed [] e h = cc h
pushed (x ∷ xs) e h = cc h

-- while a deletion is pending the latest pick has an effect
pending-effect : (past : Past) → Each Deletes past → (d : Deletion) → pending past ≡ Some d → effects_since past ≡ [] → ⊥
pending-effect [] h d is = absurd (none-some d is)
pending-effect (ClosedSq qid region ∷ past) h d is = absurd (none-some d is)
pending-effect (Fetch r i entry ∷ past) h d is = absurd (none-some d (sym h.0.0 ∙ is))
pending-effect (event.Pick seen pick ∷ past) h d is = absurd (none-some d (sym h.0 ∙ is))
pending-effect (Post c r i cqe ∷ past) h d is = pending-effect past h.1 d is
pending-effect (SetArbitration settings ∷ past) h d is = pushed (effects_since past) (SetArbitration settings)
pending-effect (OpenSq qid region cqid class ∷ past) h d is = pushed (effects_since past) (OpenSq qid region cqid class)
pending-effect (OpenCq qid region ∷ past) h d is = pushed (effects_since past) (OpenCq qid region)
pending-effect (Closing qid region ∷ past) h d is = pushed (effects_since past) (Closing qid region)
pending-effect (Abort region index ∷ past) h d is = pushed (effects_since past) (Abort region index)
pending-effect (ClosedCq qid region ∷ past) h d is = pushed (effects_since past) (ClosedCq qid region)

-- so an effect that comes then is an abort
effect-while_pending : (rules : FrontRules) (past : Past) → Each Deletes past → (d : Deletion) → pending past ≡ Some d → (e : Event)
    → IsPrefix (effects_since past ++ e ∷ []) (made_last rules past) → is_abort e ≡ true
effect-while_pending rules past h d is e next =
    behind-effects (effects_since past) (made_last rules past) e (pending-effect past h d is) next (made_last-ends rules past)

-- so a deletion ends at once
closed_at_once-event : (rules : FrontRules) (past : Past) → Each Deletes past → (e : Event) → is_post e ≡ false → EffectsAtOnce rules past e → Deletes past e → ClosedAtOnce past e
closed_at_once-event rules past h (Post c r i cqe) kind effects deletes = cc kind
closed_at_once-event rules past h (Fetch r i entry) kind effects deletes = ap (λ (o : Option Deletion). ends_deletion o (Fetch r i entry)) deletes.0
closed_at_once-event rules past h (event.Pick seen pick) kind effects deletes = ap (λ (o : Option Deletion). ends_deletion o (event.Pick seen pick)) deletes
closed_at_once-event rules past h (ClosedSq qid region) kind effects deletes =
    ap (λ (o : Option Deletion). ends_deletion o (ClosedSq qid region)) deletes.0
    ∙ rw (eq-eqb qid qid refl, eq-eqb region region refl) refl
closed_at_once-event rules past h e kind effects deletes = by (pending past) refl where
  by : (o : Option Deletion) → pending past ≡ o → ends_deletion o e ≡ true
  by None is = refl
  by (Some d) is = ap (λ (b : Bool). b || is_closed_of d e) (effect-while_pending rules past h d is e effects)

-- in each log whose deletions and effects are accounted for
closed_at_once-each : (rules : FrontRules) (past : Past) → Each (EffectsAtOnce rules) past → Each Deletes past → Each ClosedAtOnce (without_posts past)
closed_at_once-each rules [] effects deletes = tt
closed_at_once-each rules (e ∷ past) effects deletes = by (is_post e) refl (closed_at_once-each rules past effects.1 deletes.1) where
  by : (b : Bool) → is_post e ≡ b → Each ClosedAtOnce (without_posts past) → Each ClosedAtOnce (if not b then e ∷ without_posts past else without_posts past)
  by true is rest = rest
  by false is rest = (
    ap (λ (o : Option Deletion). ends_deletion o e) (pending-posts past) ∙ closed_at_once-event rules past deletes.1 e is effects.0 deletes.0,
    rest,
  )

-- nothing more happens to a region whose queue's deletion was finished
nothing_after_closed-posts : (past : Past) (e : Event) → is_post e ≡ false → Deletes past e → NothingAfterClosed (without_posts past) e
nothing_after_closed-posts past (Fetch r i entry) is h = is_closed_region-posts past r ∙ h.1
nothing_after_closed-posts past (Abort r i) is h = is_closed_region-posts past r ∙ h
nothing_after_closed-posts past e is h = tt

-- ---- all of it
-- an accounted log, its posts left out, is a loaded log so far where its queues were filled before each pick and its fetches come last
pub loaded-account_by : (rules : FrontRules) (executor : Executor) (sent scripts : ℕ → List Sqe) (past : Past) (collected : ℕ → List Cqe)
    → IsAccountBy rules executor sent past collected
    → ((r : ℕ) → IsPrefix (fetched past r) (scripts r)) → Each (FilledBefore rules scripts) (without_posts past) → Each FetchesLast (without_posts past)
    → LoadedSoFar rules scripts (without_posts past)
loaded-account_by rules executor sent scripts past collected h in_order filled last = record {
  no_post = no_post-posts past;
  fetched_in_order = λ r. subst (λ (xs : List Sqe). IsPrefix xs (scripts r)) (sym (fetched-posts past r)) (in_order r);
  indexes_count = each-posts IndexCounts IndexCounts index_counts-posts past h.indexes_count;
  served_while_open = each-posts (ServedWhileOpen rules) (ServedWhileOpen rules) (served_while_open-posts rules) past h.served_while_open;
  observed = each-posts Observed Observed observed-posts past h.observed;
  effects_at_once = each-posts (EffectsAtOnce rules) (EffectsAtOnce rules) (effects_at_once-posts rules) past h.effects_at_once;
  lawful = subst (IsLawfulRun rules.mechanism rules.start.settings) (sym (arbitration_of-posts past)) h.lawful;
  filled_before = filled;
  fetches_last = last;
  closed_at_once = closed_at_once-each rules past h.effects_at_once h.deletes;
  nothing_after_closed = each-posts Deletes NothingAfterClosed nothing_after_closed-posts past h.deletes;
}

-- where commands are answered by their outcomes
pub loaded-account : (rules : FrontRules) (sent scripts : ℕ → List Sqe) (past : Past) (collected : ℕ → List Cqe) → IsAccount rules sent past collected
    → ((r : ℕ) → IsPrefix (fetched past r) (scripts r)) → Each (FilledBefore rules scripts) (without_posts past) → Each FetchesLast (without_posts past)
    → LoadedSoFar rules scripts (without_posts past)
loaded-account rules = loaded-account_by rules (by_outcome rules)
