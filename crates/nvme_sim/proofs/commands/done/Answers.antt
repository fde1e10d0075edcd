-- A fault of each request is a fault of an input, by its word.
use Rattle.std.proofs.Common.{◌≡◌, true, inl, inr}
use Rattle.std.specs.Prelude.{codes}
use Rattle.nvme_sim.specs.Inputs.{AsksForMore, IsBadInput, IsFaultyShown, IsFaultyTrace, IsJudgedBy}
use Rattle.nvme_sim.specs.Files.{IsBadFile}
use Rattle.nvme_trace.specs.declared.basis.Basis.TheVariants.{Profile, Specification}
use Rattle.nvme_sim.specs.Statuses.{IsBadEntry, IsBadWorkload}
use Rattle.nvme_sim.specs.declared.commands.Answer.TheVariants as answer
use Rattle.nvme_words.specs.Words.{asks, reads_workload, shows_trace}
use Rattle.nvme_sim.proofs.Inputs.{bad_all, bad_check, bad_file_read, bad_once, bad_run, bad_shown, faulty_is_bad, is_quiet, no_fault_said, no_kind, nothing_said, of_kind, on_done, one_reads_file, only_check, or_else, said_of}
use Rattle.nvme_sim.proofs.commands.done.Goals as goal

pub returns-in-Once-clause-input : goal.returns-in-Once-clause-input
returns-in-Once-clause-input g c =
    let words = c.args.words.now in
    let asked : asks (codes "once") words ≡ true = rw c.in-Once.is at c.requires in
    of_kind c.answered.result (g.R.Read.remaining c.args.input) IsBadEntry (IsBadInput words) (λ bs h. bad_once words bs asked h) c.answered.ensures.input

pub returns-in-Run-clause-input : goal.returns-in-Run-clause-input
returns-in-Run-clause-input g c =
    let words = c.args.words.now in
    let asked : reads_workload words ≡ true = rw c.in-Run.is at c.requires in
    of_kind c.ran.result (g.R.Read.remaining c.args.input) IsBadWorkload (IsBadInput words) (λ bs h. bad_run words bs asked h) c.ran.ensures.input

pub returns-in-RunFile-clause-input : goal.returns-in-RunFile-clause-input
returns-in-RunFile-clause-input g c =
    let words = c.args.words.now in
    let asked : asks (codes "run") words ≡ true = rw c.in-RunFile.is at c.requires in
    of_kind c.ran_file.result (g.R.Read.remaining c.args.input) IsBadFile (IsBadInput words) (λ bs h. bad_file_read words bs (one_reads_file words (inl asked)) h) c.ran_file.ensures.input

pub returns-in-Expand-clause-input : goal.returns-in-Expand-clause-input
returns-in-Expand-clause-input g c =
    let words = c.args.words.now in
    let asked : asks (codes "expand") words ≡ true = rw c.in-Expand.is at c.requires in
    of_kind c.expanded.result (g.R.Read.remaining c.args.input) IsBadFile (IsBadInput words) (λ bs h. bad_file_read words bs (one_reads_file words (inr (inr (inr asked)))) h) c.expanded.ensures.input

pub returns-in-Lint-clause-input : goal.returns-in-Lint-clause-input
returns-in-Lint-clause-input g c =
    let words = c.args.words.now in
    let asked : asks (codes "lint") words ≡ true = rw c.in-Lint.is at c.requires in
    of_kind c.linted_file.result (g.R.Read.remaining c.args.input) IsBadFile (IsBadInput words) (λ bs h. bad_file_read words bs (one_reads_file words (inr (inl asked))) h) c.linted_file.ensures.input

pub returns-in-Check-clause-input : goal.returns-in-Check-clause-input
returns-in-Check-clause-input g c =
    let words = c.args.words.now in
    let asked : asks (codes "check") words ≡ true = rw c.in-Check.is at c.requires in
    of_kind c.checked.result (g.R.Read.remaining c.args.input) (IsFaultyTrace Profile) (IsBadInput words) (λ bs h. bad_check Profile words bs asked (faulty_is_bad Profile bs h)) c.checked.ensures.input

pub returns-in-CheckSpec-clause-input : goal.returns-in-CheckSpec-clause-input
returns-in-CheckSpec-clause-input g c =
    let words = c.args.words.now in
    let asked : IsJudgedBy words Specification = rw c.in-CheckSpec.is at c.requires in
    of_kind c.checked-in-CheckSpec.result (g.R.Read.remaining c.args.input) (IsFaultyTrace Specification) (IsBadInput words) (λ bs h. bad_check Specification words bs asked (faulty_is_bad Specification bs h)) c.checked-in-CheckSpec.ensures.input

pub returns-in-CheckAll-clause-input : goal.returns-in-CheckAll-clause-input
returns-in-CheckAll-clause-input g c =
    let words = c.args.words.now in
    let asked : AsksForMore words = rw c.in-CheckAll.is at c.requires in
    of_kind c.surveyed.result (g.R.Read.remaining c.args.input) (IsFaultyShown Profile) (IsBadInput words) (λ bs h. bad_all words bs asked (inl h)) c.surveyed.ensures.input

-- ---- a pick that is not allowed

pub returns-in-Check-clause-refused : goal.returns-in-Check-clause-refused
returns-in-Check-clause-refused g c = λ is.
    let asked : IsJudgedBy c.args.words.now Profile = rw c.in-Check.is at c.requires in inl (Profile, asked, c.checked.ensures.refused is)

pub returns-in-CheckSpec-clause-refused : goal.returns-in-CheckSpec-clause-refused
returns-in-CheckSpec-clause-refused g c = λ is.
    let asked : IsJudgedBy c.args.words.now Specification = rw c.in-CheckSpec.is at c.requires in inl (Specification, asked, c.checked-in-CheckSpec.ensures.refused is)

pub returns-in-CheckAll-clause-refused : goal.returns-in-CheckAll-clause-refused
returns-in-CheckAll-clause-refused g c = λ is.
    let asked : AsksForMore c.args.words.now = rw c.in-CheckAll.is at c.requires in inr (asked, c.surveyed.ensures.refused is)

-- ---- other faults

pub returns-in-Trace-clause-input : goal.returns-in-Trace-clause-input
returns-in-Trace-clause-input g c =
    let words = c.args.words.now in
    let asked : asks (codes "trace") words ≡ true = rw c.in-Trace.is at c.requires in
    of_kind c.traced_file.result (g.R.Read.remaining c.args.input) IsBadFile (IsBadInput words) (λ bs h. bad_file_read words bs (one_reads_file words (inr (inr (inl asked)))) h) c.traced_file.ensures.input

pub returns-in-Chart-clause-input : goal.returns-in-Chart-clause-input
returns-in-Chart-clause-input g c =
    let words = c.args.words.now in
    let shown : shows_trace words ≡ true = rw c.in-Chart.is at c.requires in
    of_kind c.charted.result (g.R.Read.remaining c.args.input) (IsFaultyShown Specification) (IsBadInput words) (λ bs h. bad_shown words bs shown h) c.charted.ensures.input

pub returns-in-Stats-clause-input : goal.returns-in-Stats-clause-input
returns-in-Stats-clause-input g c =
    let words = c.args.words.now in
    let shown : shows_trace words ≡ true = rw c.in-Stats.is at c.requires in
    of_kind c.counted.result (g.R.Read.remaining c.args.input) (IsFaultyShown Specification) (IsBadInput words) (λ bs h. bad_shown words bs shown h) c.counted.ensures.input

pub returns-in-Settings-clause-input : goal.returns-in-Settings-clause-input
returns-in-Settings-clause-input g c =
    no_kind c.translated.result (g.R.Read.remaining c.args.input) (IsBadInput c.args.words.now) c.translated.ensures.no_input

pub returns-in-Once-clause-lawful : goal.returns-in-Once-clause-lawful
returns-in-Once-clause-lawful g c = λ is alone.
    let none : ⊥ = rw c.in-Once.is at (only_check c.args.words.now c.args.request c.requires alone) in absurd none

pub returns-in-Run-clause-lawful : goal.returns-in-Run-clause-lawful
returns-in-Run-clause-lawful g c = λ is alone.
    let none : ⊥ = rw c.in-Run.is at (only_check c.args.words.now c.args.request c.requires alone) in absurd none

pub returns-in-RunFile-clause-lawful : goal.returns-in-RunFile-clause-lawful
returns-in-RunFile-clause-lawful g c = λ is alone.
    let none : ⊥ = rw c.in-RunFile.is at (only_check c.args.words.now c.args.request c.requires alone) in absurd none

pub returns-in-Expand-clause-lawful : goal.returns-in-Expand-clause-lawful
returns-in-Expand-clause-lawful g c = λ is alone.
    let none : ⊥ = rw c.in-Expand.is at (only_check c.args.words.now c.args.request c.requires alone) in absurd none

pub returns-in-Lint-clause-lawful : goal.returns-in-Lint-clause-lawful
returns-in-Lint-clause-lawful g c = λ is alone.
    let none : ⊥ = rw c.in-Lint.is at (only_check c.args.words.now c.args.request c.requires alone) in absurd none

pub returns-in-CheckSpec-clause-lawful : goal.returns-in-CheckSpec-clause-lawful
returns-in-CheckSpec-clause-lawful g c = λ is alone.
    let none : ⊥ = rw c.in-CheckSpec.is at (only_check c.args.words.now c.args.request c.requires alone) in absurd none

pub returns-in-CheckAll-clause-lawful : goal.returns-in-CheckAll-clause-lawful
returns-in-CheckAll-clause-lawful g c = λ is alone.
    let none : ⊥ = rw c.in-CheckAll.is at (only_check c.args.words.now c.args.request c.requires alone) in absurd none

pub returns-in-Trace-clause-lawful : goal.returns-in-Trace-clause-lawful
returns-in-Trace-clause-lawful g c = λ is alone.
    let none : ⊥ = rw c.in-Trace.is at (only_check c.args.words.now c.args.request c.requires alone) in absurd none

pub returns-in-Chart-clause-lawful : goal.returns-in-Chart-clause-lawful
returns-in-Chart-clause-lawful g c = λ is alone.
    let none : ⊥ = rw c.in-Chart.is at (only_check c.args.words.now c.args.request c.requires alone) in absurd none

pub returns-in-Stats-clause-lawful : goal.returns-in-Stats-clause-lawful
returns-in-Stats-clause-lawful g c = λ is alone.
    let none : ⊥ = rw c.in-Stats.is at (only_check c.args.words.now c.args.request c.requires alone) in absurd none

pub returns-in-Settings-clause-lawful : goal.returns-in-Settings-clause-lawful
returns-in-Settings-clause-lawful g c = λ is alone.
    let none : ⊥ = rw c.in-Settings.is at (only_check c.args.words.now c.args.request c.requires alone) in absurd none

pub returns-in-Help-clause-lawful : goal.returns-in-Help-clause-lawful
returns-in-Help-clause-lawful g c = λ is alone.
    let none : ⊥ = rw c.in-Help.is at (only_check c.args.words.now c.args.request c.requires alone) in absurd none

-- ---- what was written

pub returns-in-Once-clause-done : goal.returns-in-Once-clause-done
returns-in-Once-clause-done g c = λ is. rw c.in-Once.is (on_done c.answered.result answer.Done _ c.answered.ensures.done is)

pub returns-in-Run-clause-done : goal.returns-in-Run-clause-done
returns-in-Run-clause-done g c = λ is. rw c.in-Run.is (on_done c.ran.result answer.Done _ c.ran.ensures.done is)

pub returns-in-RunFile-clause-done : goal.returns-in-RunFile-clause-done
returns-in-RunFile-clause-done g c = λ is. rw c.in-RunFile.is (on_done c.ran_file.result answer.Done _ c.ran_file.ensures.done is)

pub returns-in-Expand-clause-done : goal.returns-in-Expand-clause-done
returns-in-Expand-clause-done g c = λ is. rw c.in-Expand.is (on_done c.expanded.result answer.Done _ c.expanded.ensures.done is)

pub returns-in-Lint-clause-done : goal.returns-in-Lint-clause-done
returns-in-Lint-clause-done g c = λ is. rw c.in-Lint.is (is_quiet c.args.output.now c.linted_file.new.output (g.R.Read.remaining c.args.input) (c.linted_file.ensures.none is) (c.linted_file.ensures.quiet is))

pub returns-in-Check-clause-done : goal.returns-in-Check-clause-done
returns-in-Check-clause-done g c = λ is. rw c.in-Check.is (c.checked.ensures.lawful is)

pub returns-in-CheckSpec-clause-done : goal.returns-in-CheckSpec-clause-done
returns-in-CheckSpec-clause-done g c = λ is. rw c.in-CheckSpec.is (c.checked-in-CheckSpec.ensures.lawful is)

pub returns-in-CheckAll-clause-done : goal.returns-in-CheckAll-clause-done
returns-in-CheckAll-clause-done g c = λ is. rw c.in-CheckAll.is (c.surveyed.ensures.lawful is)

pub returns-in-Trace-clause-done : goal.returns-in-Trace-clause-done
returns-in-Trace-clause-done g c = λ is. rw c.in-Trace.is (on_done c.traced_file.result answer.Done _ c.traced_file.ensures.done is)

pub returns-in-Chart-clause-done : goal.returns-in-Chart-clause-done
returns-in-Chart-clause-done g c = λ is. rw c.in-Chart.is (on_done c.charted.result answer.Done _ c.charted.ensures.done is)

pub returns-in-Stats-clause-done : goal.returns-in-Stats-clause-done
returns-in-Stats-clause-done g c = λ is. rw c.in-Stats.is (on_done c.counted.result answer.Done _ c.counted.ensures.done is)

pub returns-in-Settings-clause-done : goal.returns-in-Settings-clause-done
returns-in-Settings-clause-done g c = λ is.
    rw c.in-Settings.is (said_of (g.R.Read.remaining c.args.input) _ (on_done c.translated.result answer.Done _ c.translated.ensures.done is))

pub returns-in-Help-clause-done : goal.returns-in-Help-clause-done
returns-in-Help-clause-done g c = λ is. rw c.in-Help.is (nothing_said (g.R.Read.remaining c.args.input))

pub returns-in-Once-clause-failed : goal.returns-in-Once-clause-failed
returns-in-Once-clause-failed g c = rw c.in-Once.is c.answered.ensures.failed

pub returns-in-Run-clause-failed : goal.returns-in-Run-clause-failed
returns-in-Run-clause-failed g c = rw c.in-Run.is c.ran.ensures.failed

pub returns-in-RunFile-clause-failed : goal.returns-in-RunFile-clause-failed
returns-in-RunFile-clause-failed g c = rw c.in-RunFile.is c.ran_file.ensures.failed

pub returns-in-Expand-clause-failed : goal.returns-in-Expand-clause-failed
returns-in-Expand-clause-failed g c = rw c.in-Expand.is c.expanded.ensures.failed

pub returns-in-Lint-clause-failed : goal.returns-in-Lint-clause-failed
returns-in-Lint-clause-failed g c = rw c.in-Lint.is c.linted_file.ensures.failed

pub returns-in-Check-clause-failed : goal.returns-in-Check-clause-failed
returns-in-Check-clause-failed g c = rw c.in-Check.is c.checked.ensures.failed

pub returns-in-CheckSpec-clause-failed : goal.returns-in-CheckSpec-clause-failed
returns-in-CheckSpec-clause-failed g c = rw c.in-CheckSpec.is c.checked-in-CheckSpec.ensures.failed

pub returns-in-CheckAll-clause-failed : goal.returns-in-CheckAll-clause-failed
returns-in-CheckAll-clause-failed g c = rw c.in-CheckAll.is c.surveyed.ensures.failed

pub returns-in-Trace-clause-failed : goal.returns-in-Trace-clause-failed
returns-in-Trace-clause-failed g c = rw c.in-Trace.is c.traced_file.ensures.failed

pub returns-in-Chart-clause-failed : goal.returns-in-Chart-clause-failed
returns-in-Chart-clause-failed g c = rw c.in-Chart.is c.charted.ensures.failed

pub returns-in-Stats-clause-failed : goal.returns-in-Stats-clause-failed
returns-in-Stats-clause-failed g c = rw c.in-Stats.is c.counted.ensures.failed

pub returns-in-Settings-clause-failed : goal.returns-in-Settings-clause-failed
returns-in-Settings-clause-failed g c =
    rw c.in-Settings.is (or_else c.translated.result _ _ _ (λ h. said_of (g.R.Read.remaining c.args.input) _ h) c.translated.ensures.failed)

pub returns-in-Help-clause-failed : goal.returns-in-Help-clause-failed
returns-in-Help-clause-failed g c = rw c.in-Help.is (no_fault_said c.helped.result _ (g.R.Read.remaining c.args.input))
