use Rattle.std.proofs.Common.{rules, ◌+◌, ℕ, List, Option, ap, sym, subst}
use Rattle.std.specs.Io.KnownBytes.{Appends}
use Rattle.std.specs.List.{flat_map}
use Rattle.nvme_log.specs.Rules.{upto}
use Rattle.nvme_report.specs.Report.{cmd_line, completions_of}
use Rattle.nvme_output.specs.Written.{AppendsPrefix, Writes}
use Rattle.nvme_report.proofs.Completions.{completions_are_posts, no_line, one_line}
use Rattle.nvme_report.proofs.Loops.{upto_fail, upto_written}
use Rattle.nvme_output.proofs.Writing.{appends_nothing}
use Rattle.nvme_report.proofs.reports.completions.put_places.Goals as goal
use Rattle.nvme_report.proofs.reports.completions.put_places.Goals.{in-Some+in_ok-put_completion, in_default}

pub completion_of-requires-clause-once : goal.completion_of-requires-clause-once
completion_of-requires-clause-once g c =
    rw (completions_are_posts c.args.log.now c.args.region c.loop-index.index) (c.requires.posted_once c.args.region c.loop-index.index)

pub returns-in_err-put_completion : goal.returns-in_err-put_completion
returns-in_err-put_completion g c =
    let log = c.args.log.now in
    let r = c.args.region in
    let i = c.loop-index.index in
    let start = g.W.Write.contents c.args.writer.now in
    let old = g.W.Write.contents c.loop-index.writer in
    let new = g.W.Write.contents c.put_completion.new.writer in
    let lines : ℕ → List ℕ = λ (k : ℕ). flat_map (cmd_line r k) (completions_of log r k) in
    let prefix = subst (λ (z : List ℕ). AppendsPrefix old new z) (sym (one_line (cmd_line r i) log r i c.in-Some.found.cqe c.in-Some.ensures)) c.in_err-put_completion.ensures in
    subst (λ (n : ℕ). Writes start new c.from_residual.result (flat_map lines (upto n))) c.requires.count
    (upto_fail lines c.args.count i start old new c.from_residual.result c.from_residual.ensures.0 (search rules) c.loop-index.invariant prefix)

pub loop-index-preserved : goal.loop-index-preserved
loop-index-preserved g c =
    let log = c.args.log.now in
    let r = c.args.region in
    let i = c.loop-index.index in
    let start = g.W.Write.contents c.args.writer.now in
    let old = g.W.Write.contents c.loop-index.writer in
    let lines : ℕ → List ℕ = λ (k : ℕ). flat_map (cmd_line r k) (completions_of log r k) in
    elim c.match-completion_of.branch [
      | in-Some+in_ok-put_completion w ↦
          let new = g.W.Write.contents w.put_completion.new.writer in
          let line = subst (λ (z : List ℕ). Appends old new z) (sym (one_line (cmd_line r i) log r i w.in-Some.found.cqe w.in-Some.ensures)) w.in_ok-put_completion.ensures in
          subst (λ (o : Option (List ℕ)). Appends start o (flat_map lines (upto (i + 1)))) (sym (ap (λ v. g.W.Write.contents v) w.writer-is))
          (upto_written lines i start old new c.loop-index.invariant line)
      | in_default w ↦
          let line = subst (λ (z : List ℕ). Appends old old z) (sym (no_line (cmd_line r i) log r i (search rules))) (appends_nothing old) in
          subst (λ (o : Option (List ℕ)). Appends start o (flat_map lines (upto (i + 1)))) (sym (ap (λ v. g.W.Write.contents v) w.writer-is))
          (upto_written lines i start old old c.loop-index.invariant line)
    ]
