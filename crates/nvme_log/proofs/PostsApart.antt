-- What the completions of a log are by is the same without its posts.
use Rattle.std.proofs.Common.{◌≡◌, ℕ, ◌+◌, ◌==◌, ◌&&◌, ◌||◌, Bool, false, if◌then◌else◌, List, [], ◌∷◌, ◌++◌, length, Option, None, refl, ap, arith, length-append}
use Rattle.std.specs.Prelude.{slice_get, option_and_then}
use Rattle.nvme_entry.specs.Status.{abort_requested, aborted_by_deletion}
use Rattle.nvme_entry.specs.declared.submission.Sqe.{Sqe}
use Rattle.nvme_arbiter.specs.declared.pick.Pick.{Pick}
use Rattle.nvme_admin.specs.Accepted.{status_of, dw0_of, verdict_of}
use Rattle.nvme_log.specs.declared.event.Event.{Event}
use Rattle.nvme_log.specs.declared.event.Event.TheVariants.{Abort, OpenSq, OpenCq, Post}
use Rattle.nvme_log.specs.declared.event.Event.TheVariants as event
use Rattle.nvme_log.specs.Rules.{Past, FrontRules, Each}
use Rattle.nvme_log.specs.Queues.{has_region, cq_region_of}
use Rattle.nvme_log.specs.Places.{picked, is_aborted, entry_at}
use Rattle.nvme_log.specs.Histories.{admin_entry}
use Rattle.nvme_log.specs.Aborts.{is_abort_entry, took_abort, is_abort_requested, taken_by, just_picked, is_index, has_aborted, told_dw0}
use Rattle.nvme_log.specs.Answers.{Answer, outcome_answer}
use Rattle.nvme_log.specs.Completions.{table_before, own_status, own_dw0, own_status_by, own_dw0_by}
use Rattle.nvme_log.specs.Effects.{made_last, effects_since, EffectsAtOnce}
use Rattle.nvme_log.specs.Loaded.{without_posts}
use Rattle.nvme_log.proofs.WithoutPosts.{open_cq-posts, open_sq-posts, fetched-posts, waiting-posts, table_history-posts}

-- ---- queues
-- the completion region of a submission region
pub cq_region_of-posts : (past : Past) (r : ℕ) → cq_region_of (without_posts past) r ≡ cq_region_of past r
cq_region_of-posts [] r = refl
cq_region_of-posts (OpenSq qid region cqid class ∷ past) r = λ t. if region == r then open_cq-posts past cqid t else cq_region_of-posts past r t
cq_region_of-posts (e ∷ past) r = cq_region_of-posts past r

-- ---- places
-- how many places were picked
pub picks-posts : (past : Past) (r : ℕ) → picked (without_posts past) r ≡ picked past r
picks-posts [] r = refl
picks-posts (event.Pick seen pick ∷ past) r = λ t. if has_region r (open_sq-posts past pick.qid t) then picks-posts past r t + pick.n else picks-posts past r t
picks-posts (e ∷ past) r = picks-posts past r

-- the entry of a place
pub entry-posts : (past : Past) (r i : ℕ) → entry_at (without_posts past) r i ≡ entry_at past r i
entry-posts past r i = ap (λ (xs : List Sqe). slice_get xs i) (fetched-posts past r)

-- ---- aborts
-- which places were aborted
pub aborted-posts : (past : Past) (r i : ℕ) → is_aborted (without_posts past) r i ≡ is_aborted past r i
aborted-posts [] r i = refl
aborted-posts (Abort region index ∷ past) r i = ap (λ (b : Bool). (region == r && index == i) || b) (aborted-posts past r i)
aborted-posts (e ∷ past) r i = aborted-posts past r i

-- the entry that a pick of the admin queue takes
taken-posts : (past : Past) → admin_entry (without_posts past) ≡ admin_entry past
taken-posts past = λ t. option_and_then (λ (i : ℕ). entry-posts past 0 i t) (slice_get (waiting-posts past 0 t) 0)

-- whether the latest pick took an Abort command
pub took_abort-posts : (past : Past) → took_abort (without_posts past) ≡ took_abort past
took_abort-posts [] = refl
took_abort-posts (event.Pick seen pick ∷ past) = ap (λ (o : Option Sqe). pick.qid == 0 && is_abort_entry o) (taken-posts past)
took_abort-posts (e ∷ past) = took_abort-posts past

-- whether an Abort command aborted a place
pub is_abort_requested-posts : (past : Past) (r i : ℕ) → is_abort_requested (without_posts past) r i ≡ is_abort_requested past r i
is_abort_requested-posts [] r i = refl
is_abort_requested-posts (Abort region index ∷ past) r i = λ t.
    ((region == r && index == i) && took_abort-posts past t) || is_abort_requested-posts past r i t
is_abort_requested-posts (e ∷ past) r i = is_abort_requested-posts past r i

-- the admin place that a pick takes
pub taken_by-posts : (past : Past) (pick : Pick) → taken_by (without_posts past) pick ≡ taken_by past pick
taken_by-posts past pick = ap (λ (is : List ℕ). if pick.qid == 0 then slice_get is 0 else None) (waiting-posts past 0)

-- an effect that comes where all effects are there
pub none-more : (xs made : List Event) (e : Event) (rest : List Event) → xs ≡ made → (xs ++ e ∷ []) ++ rest ≡ made → ⊥
none-more xs made e rest all more =
    omega (arith, ap length all, ap length more, length-append (xs ++ e ∷ []) rest, length-append xs (e ∷ []))

-- the admin place whose pick is the last event, where an abort comes next: then no post does stand between
just_picked-posts : (rules : FrontRules) (past : Past) (r i : ℕ) → Each (EffectsAtOnce rules) (Abort r i ∷ past) → just_picked (without_posts past) ≡ just_picked past
just_picked-posts rules [] r i h = refl
just_picked-posts rules (event.Pick seen pick ∷ past) r i h = taken_by-posts past pick
just_picked-posts rules (Post c region index cqe ∷ past) r i h = absurd (none-more (effects_since past) (made_last rules past) (Abort r i) h.0.0 h.1.0 h.0.1)
just_picked-posts rules (e ∷ past) r i h = refl

-- whether an abort follows the pick of an admin place
pub has_aborted-posts : (rules : FrontRules) (past : Past) (i : ℕ) → Each (EffectsAtOnce rules) past → has_aborted (without_posts past) i ≡ has_aborted past i
has_aborted-posts rules [] i h = refl
has_aborted-posts rules (Abort region index ∷ past) i h = λ t. is_index i (just_picked-posts rules past region index h t) || has_aborted-posts rules past i h.1 t
has_aborted-posts rules (event.Pick seen pick ∷ past) i h = λ t. if is_index i (taken_by-posts past pick t) then false else has_aborted-posts rules past i h.1 t
has_aborted-posts rules (e ∷ past) i h = has_aborted-posts rules past i h.1

-- ---- completions
-- the table before the command of an admin place
pub table_before-posts : (rules : FrontRules) (past : Past) (i : ℕ) → table_before rules (without_posts past) i ≡ table_before rules past i
table_before-posts rules [] i = refl
table_before-posts rules (event.Pick seen pick ∷ past) i = λ t.
    if pick.qid == 0 && is_index i (slice_get (waiting-posts past 0 t) 0) then table_history-posts rules past t else table_before-posts rules past i t
table_before-posts rules (e ∷ past) i = table_before-posts rules past i

-- the status of a place
pub own_status_by-posts : (rules : FrontRules) (answer : Answer) (past : Past) (r i : ℕ) (entry : Sqe)
    → own_status_by rules answer (without_posts past) r i entry ≡ own_status_by rules answer past r i entry
own_status_by-posts rules answer past r i entry = λ t.
    if aborted-posts past r i t then (if is_abort_requested-posts past r i t then abort_requested else aborted_by_deletion)
    else (if r == 0 then status_of rules.start (table_before-posts rules past i t) entry else answer.status)

-- and its Dword 0
pub own_dw0_by-posts : (rules : FrontRules) (answer : Answer) (past : Past) (r i : ℕ) (entry : Sqe) → Each (EffectsAtOnce rules) past
    → own_dw0_by rules answer (without_posts past) r i entry ≡ own_dw0_by rules answer past r i entry
own_dw0_by-posts rules answer past r i entry h = λ t.
    if aborted-posts past r i t then 0
    else (if r == 0
    then told_dw0 (has_aborted-posts rules past i h t) (verdict_of rules.start (table_before-posts rules past i t) entry) (dw0_of rules.start (table_before-posts rules past i t) entry)
    else answer.dw0)

-- where commands are answered by their outcomes
pub own_status-posts : (rules : FrontRules) (past : Past) (r i : ℕ) (entry : Sqe) → own_status rules (without_posts past) r i entry ≡ own_status rules past r i entry
own_status-posts rules past r i entry = own_status_by-posts rules (outcome_answer rules entry) past r i entry

pub own_dw0-posts : (rules : FrontRules) (past : Past) (r i : ℕ) (entry : Sqe) → Each (EffectsAtOnce rules) past
    → own_dw0 rules (without_posts past) r i entry ≡ own_dw0 rules past r i entry
own_dw0-posts rules past r i entry h = own_dw0_by-posts rules (outcome_answer rules entry) past r i entry h
