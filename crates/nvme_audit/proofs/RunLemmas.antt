-- A run over a list, event by event.
use Rattle.std.proofs.Common.{◌≡◌, ℕ, ◌+◌, ◌<◌, Bool, true, false, List, [], ◌∷◌, ◌++◌, length, take, get_or, MatchBool, refl, sym, subst, ap, ◌∙◌}
use Rattle.std.proofs.lemmas.List.{take_more}
use Rattle.std.proofs.lemmas.Option.{slice_get_read}
use Rattle.nvme_audit.specs.declared.event.Event.{Event}
use Rattle.nvme_audit.specs.declared.facts.Start.{Start}
use Rattle.nvme_audit.specs.declared.judge.Judge.{Judge}
use Rattle.nvme_audit.specs.declared.verdict.Rule.{Rule}
use Rattle.nvme_audit.specs.declared.verdict.Verdict.{Verdict}
use Rattle.nvme_audit.specs.declared.verdict.Verdict.TheVariants.{Kept, Host, Broken}
use Rattle.nvme_audit.specs.Lives.{Past}
use Rattle.nvme_audit.specs.Lawful.{verdict, is_broken, IsLawful, log_after, IsLawfulRun, IsFirstBroken}
use Rattle.nvme_audit.specs.Standing.{StandsAt}

log_after-push : (past : Past) (events : List Event) (event : Event) → log_after past (events ++ event ∷ []) ≡ event ∷ log_after past events
log_after-push past [] event = refl
log_after-push past (e ∷ events) event = log_after-push (e ∷ past) events event

run-push : (start : Start) (past : Past) (events : List Event) (event : Event) → IsLawfulRun start past events → IsLawful start (log_after past events) event → IsLawfulRun start past (events ++ event ∷ [])
run-push start past [] event run lawful = (lawful, tt)
run-push start past (e ∷ events) event run lawful = (run.0, run-push start (e ∷ past) events event run.1 lawful)

not_broken : (v : Verdict) → ((rule : Rule) → v ≡ Broken rule → ⊥) → is_broken v ≡ false
not_broken Kept h = refl
not_broken (Host breach) h = refl
not_broken (Broken rule) h = absurd (h rule refl)

when_false : (P Q : Type 0) (b : Bool) → b ≡ false → MatchBool b P Q → Q
when_false P Q true h m = cc
when_false P Q false h m = m

pub run_step : (start : Start) (past : Past) (events : List Event) (i : ℕ) (event : Event) (v : Verdict) (old new : Judge) → i < length events → event ≡ get_or events i event → v ≡ verdict start (log_after past (take i events)) event → ((rule : Rule) → v ≡ Broken rule → ⊥)
    → MatchBool (is_broken v) (new ≡ old) (StandsAt start (event ∷ log_after past (take i events)) new) → IsLawfulRun start past (take i events) → IsLawfulRun start past (take (i + 1) events) × StandsAt start (log_after past (take (i + 1) events)) new
run_step start past events i event v old new within at is kept stands run =
    let fine : is_broken v ≡ false = not_broken v kept in
    let more : take (i + 1) events ≡ take i events ++ event ∷ [] = take_more events i event within ∙ ap (λ (e : Event). take i events ++ e ∷ []) (sym at) in (
      subst (IsLawfulRun start past) (sym more) (run-push start past (take i events) event run (ap is_broken (sym is) ∙ fine)),
      subst (λ (p : Past). StandsAt start p new) (sym (ap (log_after past) more ∙ log_after-push past (take i events) event)) (when_false _ _ _ fine stands),
    )

pub run_broken : (start : Start) (past : Past) (events : List Event) (i : ℕ) (event : Event) (rule : Rule) → i < length events → event ≡ get_or events i event → Broken rule ≡ verdict start (log_after past (take i events)) event → IsLawfulRun start past (take i events) → IsFirstBroken start past events i rule
run_broken start past events i event rule within at is run = record {
  lawful_before = run;
  breaks = rw (slice_get_read events (length events) i event refl within at) (sym is);
  within = within;
}
