-- A log is a run of its events in their order.
use Rattle.std.proofs.Common.{◌≡◌, ℕ, List, [], ◌∷◌, ◌++◌, length, take, reverse, Some, refl, sym, ap, subst, ◌∙◌, arith}
use Rattle.std.specs.Prelude.{slice_get}
use Rattle.std.proofs.lemmas.List.{take_at, length-append, length-reverse}
use mathlib.Core.List.{reverse-cons}
use Rattle.nvme_audit.specs.declared.event.Event.{Event}
use Rattle.nvme_audit.specs.declared.facts.Start.{Start}
use Rattle.nvme_audit.specs.declared.verdict.Rule.{Rule}
use Rattle.nvme_audit.specs.declared.verdict.Verdict.TheVariants.{Broken}
use Rattle.nvme_audit.specs.Lives.{Past}
use Rattle.nvme_audit.specs.Lawful.{verdict, IsLawful, IsLawfulLog, IsLawfulRun, IsFirstBroken, log_after}

log_after-push : (past : Past) (events : List Event) (event : Event) → log_after past (events ++ event ∷ []) ≡ event ∷ log_after past events
log_after-push past [] event = refl
log_after-push past (e ∷ events) event = log_after-push (e ∷ past) events event

run-push : (start : Start) (past : Past) (events : List Event) (event : Event) → IsLawfulRun start past events → IsLawful start (log_after past events) event → IsLawfulRun start past (events ++ event ∷ [])
run-push start past [] event run lawful = (lawful, tt)
run-push start past (e ∷ events) event run lawful = (run.0, run-push start (e ∷ past) events event run.1 lawful)

in_order : (past : Past) → log_after [] (reverse past) ≡ past
in_order [] = refl
in_order (event ∷ past) = ap (log_after []) (reverse-cons event past) ∙ (log_after-push [] (reverse past) event ∙ ap (λ (l : Past). event ∷ l) (in_order past))

run_of : (start : Start) (past : Past) → IsLawfulLog start past → IsLawfulRun start [] (reverse past)
run_of start [] lawful = tt
run_of start (event ∷ past) lawful =
    subst (IsLawfulRun start []) (sym (reverse-cons event past))
    (run-push start [] (reverse past) event (run_of start past lawful.1) (subst (λ (l : Past). IsLawful start l event) (sym (in_order past)) lawful.0))

at_end : (events : List Event) (event : Event) → slice_get (events ++ event ∷ []) (length events) ≡ Some event
at_end [] event = refl
at_end (e ∷ events) event = at_end events event

pub first : (start : Start) (past : Past) (event : Event) (rule : Rule) → IsLawfulLog start past → verdict start past event ≡ Broken rule → IsFirstBroken start [] (reverse past ++ event ∷ []) (length past) rule
first start past event rule lawful breaks =
    let long : length (reverse past) ≡ length past = length-reverse past in
    let before : take (length past) (reverse past ++ event ∷ []) ≡ reverse past = take_at (reverse past) (event ∷ []) (length past) long in
    let there : slice_get (reverse past ++ event ∷ []) (length past) ≡ Some event = subst (λ (n : ℕ). slice_get (reverse past ++ event ∷ []) n ≡ Some event) long (at_end (reverse past) event) in
    let said : verdict start (log_after [] (take (length past) (reverse past ++ event ∷ []))) event ≡ Broken rule = subst (λ (l : Past). verdict start l event ≡ Broken rule) (sym (ap (log_after []) before ∙ in_order past)) breaks in record {
      lawful_before = subst (IsLawfulRun start []) (sym before) (run_of start past lawful);
      breaks = rw there said;
      within = omega (arith, length-append (reverse past) (event ∷ []), long);
    }
