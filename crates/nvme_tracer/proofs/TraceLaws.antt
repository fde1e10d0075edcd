-- The trace of an accounted log is a lawful text.
use Rattle.std.proofs.Common.{◌≡◌, ℕ, ◌+◌, List, [], ◌∷◌, reverse, refl, sym, ap, subst, ◌∙◌, arith}
use mathlib.Core.List.{reverse-cons, reverse-reverse}
use Rattle.nvme_log.specs.declared.event.Event.{Event}
use Rattle.nvme_log.specs.declared.event.Event.TheVariants as event
use Rattle.nvme_log.specs.Histories.{arbitration_of}
use Rattle.nvme_log.specs.Histories as log
use Rattle.nvme_log.proofs.PickCounts.{picks_in-append}
use Rattle.nvme_lines.specs.Lines.{told_lines}
use Rattle.nvme_trace.specs.Judged.{picks_in}
use Rattle.nvme_trace.specs.Checks.{Tells}
use Rattle.nvme_trace.specs.Format.{rooms_of}
use Rattle.nvme_trace.specs.Taken.{TellNoRoom}
use Rattle.nvme_tracer.specs.Traces.{trace_of, head_of, TracesAreReadBack, TracesAreLawful}
use Rattle.nvme_tracer.proofs.TracedLines.{trace_tells, trace_no_room}
use Rattle.nvme_tracer.proofs.AccountedSettings.{log_fits}

pub read_back : TracesAreReadBack
read_back rules sent log collected f a =
    let fit = log_fits rules (reverse log) f a.effects_at_once in
    subst (λ (es : List Event). Tells (head_of rules) (arbitration_of (reverse log)) (reverse (told_lines (trace_of rules es)))) (reverse-reverse log)
    (trace_tells rules.mechanism rules.start.settings (reverse log) f fit a.lawful)

-- the picks of a log are those of its history
picks_of_log : (past : List Event) → log.picks_in past ≡ picks_in (arbitration_of past)
picks_of_log [] = refl
picks_of_log (event.Pick seen pick ∷ past) = ap (λ (n : ℕ). n + 1) (picks_of_log past)
picks_of_log (event.SetArbitration settings ∷ past) = let e = picks_of_log past in omega (arith, e)
picks_of_log (e ∷ past) = picks_of_log past

picks_turned : (es : List Event) → log.picks_in (reverse es) ≡ log.picks_in es
picks_turned [] = refl
picks_turned (e ∷ es) =
    let last = ap log.picks_in (reverse-cons e es) ∙ picks_in-append (reverse es) (e ∷ []) in
    let first = picks_in-append (e ∷ []) es in
    omega (arith, last, first, picks_turned es)

pub lawful : TracesAreLawful
lawful rules sent log collected f a = record {
  head = head_of rules;
  past = arbitration_of (reverse log);
  tells = read_back rules sent log collected f a;
  no_room = let fit = log_fits rules (reverse log) f a.effects_at_once in
      subst (λ (es : List Event). TellNoRoom (rooms_of (reverse (told_lines (trace_of rules es))))) (reverse-reverse log)
      (trace_no_room rules.mechanism rules.start.settings (reverse log) f fit a.lawful);
  lawful = a.lawful;
  picks_are = sym (picks_turned log) ∙ picks_of_log (reverse log);
}
