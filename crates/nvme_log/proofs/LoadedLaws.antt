-- Loaded logs of one workload are one.
use Rattle.std.proofs.Common.{◌≡◌, List, [], ◌∷◌, ◌++◌, refl, sym, ap, ◌∙◌, subst, append_assoc, inl, inr}
use Rattle.std.proofs.lemmas.List.{append-nil}
use Rattle.nvme_log.specs.declared.event.Event.{Event}
use Rattle.nvme_log.specs.Rules.{Past}
use Rattle.nvme_log.specs.Loaded.{IsLoadedLog}
use Rattle.nvme_log.specs.LoadedLaws.{IsOldest, GoOnAlike, LoadedStepIsOne, LoadedLogIsOne}
use Rattle.nvme_log.proofs.Tables.{with_events}
use Rattle.nvme_log.proofs.LoadedSteps.{in_order, in_order-after, same-later}

-- a log is its events in their order
whole : (past : Past) (xs : List Event) → in_order past ≡ xs → past ≡ with_events xs []
whole past xs h = sym (append-nil past) ∙ sym (in_order-after past []) ∙ ap (λ (z : List Event). with_events z []) h

-- the events before some stay behind them
with_events-after : (xs : List Event) (past : Past) → with_events xs past ≡ with_events xs [] ++ past
with_events-after [] past = refl
with_events-after (x ∷ xs) past =
    with_events-after xs (x ∷ past) ∙ sym (append_assoc (with_events xs []) (x ∷ []) past)
    ∙ ap (λ (z : Past). z ++ past) (sym (with_events-after xs (x ∷ [])))

-- the oldest event is the first in order
oldest : (past : Past) (e : Event) (xs : List Event) → in_order past ≡ e ∷ xs → IsOldest e past
oldest past e xs h = (with_events xs [], whole past (e ∷ xs) h ∙ with_events-after xs (e ∷ []))

-- logs with the same events in order go on alike
alike : (one other : Past) (xs : List Event) → in_order one ≡ xs → in_order other ≡ xs → GoOnAlike one other
alike one other [] h k = inl (whole one [] h, whole other [] k)
alike one other (e ∷ xs) h k = inr (e, oldest one e xs h, oldest other e xs k)

-- the next event is one, since all that comes is
pub loaded_step_is_one : LoadedStepIsOne
loaded_step_is_one rules scripts one other past h k =
    alike one other (in_order other)
    (same-later rules scripts (in_order one) (in_order other) past
    (subst (IsLoadedLog rules scripts) (sym (in_order-after one past)) h) (subst (IsLoadedLog rules scripts) (sym (in_order-after other past)) k))
    refl

-- and so is the log
pub loaded_log_is_one : LoadedLogIsOne
loaded_log_is_one rules scripts one other h k =
    let same = same-later rules scripts (in_order one) (in_order other) []
    (subst (IsLoadedLog rules scripts) (whole one (in_order one) refl) h) (subst (IsLoadedLog rules scripts) (whole other (in_order other) refl) k) in
    whole one (in_order other) same ∙ sym (whole other (in_order other) refl)
