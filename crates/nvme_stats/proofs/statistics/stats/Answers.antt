use Rattle.std.proofs.Common.{◌≡◌, [], refl, sym, subst}
use Rattle.std.proofs.lemmas.Result.{err_from_is_err_and}
use Rattle.nvme_trace.specs.declared.records.Head.{Head}
use Rattle.nvme_stats.specs.Chosen.{IsPart}
use Rattle.nvme_stats.specs.Counted.{IsCounted}
use Rattle.nvme_stats.specs.Looked.{IsCountedPart}
use Rattle.nvme_stats.specs.declared.selection.Part.{Part}
use Rattle.nvme_stats.proofs.ShowLemmas.{shown_at, fault_at, head_fault_at}
use Rattle.nvme_stats.proofs.statistics.stats.Goals as goal

pub returns-in_err-head-clause-fault : goal.returns-in_err-head-clause-fault
returns-in_err-head-clause-fault g c =
    let p = err_from_is_err_and c.from_residual.result c.from_residual.ensures.1 in
    rw (p.1, p.2) (head_fault_at _ (g.R.Read.remaining c.args.reader) _ c.new-trace.ensures.rest c.in_err-head.ensures.err)

pub returns-in_err-part-clause-fault : goal.returns-in_err-part-clause-fault
returns-in_err-part-clause-fault g c =
    let p = err_from_is_err_and c.from_residual-in_err-part.result c.from_residual-in_err-part.ensures.1 in
    rw (p.1, p.2) (fault_at _ (λ (h : Head). IsCounted h [] c.new-counted.result) (g.R.Read.remaining c.args.reader) c.new-trace.result.rest c.head.new.self.number c.head.new.self.rest c.in_ok-head.head
    c.new-trace.ensures.rest c.in_ok-head.ensures.ok c.new-counted.ensures c.in_err-part.ensures.fault)

pub returns-clause-counted : goal.returns-clause-counted
returns-clause-counted g c =
    let selection = c.args.selection in
    shown_at (λ head past. IsCountedPart selection head past c.note_part.new.self) (λ (h : Head). IsCounted h [] c.new-counted.result × (h.mechanism ≡ c.in_ok-head.head.mechanism))
    (g.R.Read.remaining c.args.reader) c.new-trace.result.rest c.head.new.self.number c.head.new.self.rest c.in_ok-head.head
    c.new-trace.ensures.rest c.in_ok-head.ensures.ok (c.new-counted.ensures, refl)
    (λ text h took start.
    let shown = c.in_ok-part.ensures.shown text h took start.0 start.1 in
    record {
      head = shown.head;
      past = shown.past;
      tells = shown.tells;
      holds = record {
        counted = c.note_part.ensures.counted shown.head _ shown.holds.0;
        part = subst (λ (p : Part). IsPart selection shown.past p) (sym c.note_part.ensures.part) shown.holds.1;
      };
    })
