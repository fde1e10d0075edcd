-- What aborts leave, and what stays in a later log of a place that is done.
use Rattle.std.proofs.Common.{◌≡◌, ℕ, ◌==◌, ◌&&◌, ◌||◌, Bool, true, false, List, [], ◌∷◌, map, take, Some, refl, ap, ◌∙◌, subst, eqb-true}
use Rattle.std.specs.Prelude.{All}
use Rattle.std.proofs.lemmas.Bool.{and_parts, false_from_ne_true, ne_eqb}
use Rattle.std.proofs.lemmas.List.Elements.{All-head, All-tail, All-weaker, All-filter, All-take, filter_passes}
use Rattle.nvme_entry.specs.declared.submission.Sqe.{Sqe}
use Rattle.nvme_log.specs.declared.event.Event.TheVariants as event
use Rattle.nvme_log.specs.Rules.{Past, FrontRules}
use Rattle.nvme_log.specs.Places.{entry_at, waiting, places, fate_of, is_waiting, is_aborted}
use Rattle.nvme_log.specs.Completions.{table_before}
use Rattle.nvme_ctrl_log.proofs.LaterEvents.{with_events}
use Rattle.nvme_log.specs.Aborts.{took_abort, is_abort_requested, has_aborted}
use Rattle.nvme_log.specs.Effects.{has_cid, named}

-- what a place's own completion says stays in a later log: its entry, its being aborted, and by what, and of an admin place the table history at its
-- pick and whether it aborted another
pub record Stays (rules : FrontRules) (past later : Past) (r i : ℕ) : Type 0 where
  pub there : (entry : Sqe) → entry_at past r i ≡ Some entry → entry_at later r i ≡ Some entry
  pub aborted : is_aborted later r i ≡ is_aborted past r i
  pub requested : is_abort_requested later r i ≡ is_abort_requested past r i
  pub table : r ≡ 0 → table_before rules later i ≡ table_before rules past i
  pub told : r ≡ 0 → has_aborted later i ≡ has_aborted past i

-- the places that wait are waiting
pub waiting_wait : (past : Past) (r : ℕ) → All (λ (i : ℕ). is_waiting (fate_of past r i) ≡ true) (waiting past r)
waiting_wait past r = filter_passes (λ (i : ℕ). is_waiting (fate_of past r i)) (places past r)

-- ---- aborts
-- a place that isn't among those aborted
pub aborts_leave : (r x i : ℕ) (is : List ℕ) (past : Past) → All (λ (j : ℕ). (r == x && j == i) ≡ false) is
    → is_aborted (with_events (map (λ (j : ℕ). event.Abort r j) is) past) x i ≡ is_aborted past x i
aborts_leave r x i [] past h = refl
aborts_leave r x i (j ∷ is) past h =
    aborts_leave r x i is (event.Abort r j ∷ past) (All-tail (λ (j : ℕ). (r == x && j == i) ≡ false) j is h)
    ∙ ap (λ (b : Bool). b || is_aborted past x i) (All-head (λ (j : ℕ). (r == x && j == i) ≡ false) j is h)

-- whichever commands they are of
pub requests_leave : (r x i : ℕ) (is : List ℕ) (past : Past) → All (λ (j : ℕ). (r == x && j == i) ≡ false) is
    → is_abort_requested (with_events (map (λ (j : ℕ). event.Abort r j) is) past) x i ≡ is_abort_requested past x i
requests_leave r x i [] past h = refl
requests_leave r x i (j ∷ is) past h =
    requests_leave r x i is (event.Abort r j ∷ past) (All-tail (λ (j : ℕ). (r == x && j == i) ≡ false) j is h)
    ∙ ap (λ (b : Bool). (b && took_abort past) || is_abort_requested past x i) (All-head (λ (j : ℕ). (r == x && j == i) ≡ false) j is h)

-- a place that doesn't wait is none of some that do
pub waits_apart : (r x i : ℕ) (past : Past) (is : List ℕ) → All (λ (j : ℕ). is_waiting (fate_of past r j) ≡ true) is → is_waiting (fate_of past x i) ≡ false
    → All (λ (j : ℕ). (r == x && j == i) ≡ false) is
waits_apart r x i past is wait h =
    All-weaker (λ (j : ℕ). is_waiting (fate_of past r j) ≡ true) (λ (j : ℕ). (r == x && j == i) ≡ false)
    (λ j w. false_from_ne_true (r == x && j == i) (λ same. let parts = and_parts (r == x) (j == i) same in
    let er : r ≡ x = eqb-true r x parts.0 in
    let ej : j ≡ i = eqb-true j i parts.1 in
    let moved : is_waiting (fate_of past x i) ≡ true = subst (λ (z : ℕ). is_waiting (fate_of past x z) ≡ true) ej (subst (λ (z : ℕ). is_waiting (fate_of past z j) ≡ true) er w) in
    cc (moved, h))) is wait

-- the place that an Abort command names waits
pub named_wait : (past : Past) (r cid : ℕ) → All (λ (i : ℕ). is_waiting (fate_of past r i) ≡ true) (take 1 (named past r cid))
named_wait past r cid =
    All-take (λ (i : ℕ). is_waiting (fate_of past r i) ≡ true) 1 (named past r cid)
    (All-filter (λ (i : ℕ). has_cid cid (entry_at past r i)) (λ (i : ℕ). is_waiting (fate_of past r i) ≡ true) (waiting past r) (waiting_wait past r))

-- aborts leave what doesn't wait
pub aborts_leave_done : (r x i : ℕ) (past later : Past) → is_waiting (fate_of past x i) ≡ false
    → is_aborted (with_events (map (λ (j : ℕ). event.Abort r j) (waiting past r)) later) x i ≡ is_aborted later x i
aborts_leave_done r x i past later h = aborts_leave r x i (waiting past r) later (waits_apart r x i past (waiting past r) (waiting_wait past r) h)

-- aborts leave every other region
pub aborts_leave_region : (r x i : ℕ) (is : List ℕ) (past : Past) → (r ≡ x → ⊥)
    → is_aborted (with_events (map (λ (j : ℕ). event.Abort r j) is) past) x i ≡ is_aborted past x i
aborts_leave_region r x i is past n = aborts_leave r x i is past (λ k d lt. rw (ne_eqb r x n) refl)
