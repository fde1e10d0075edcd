use Rattle.std.proofs.Common.{◌≡◌, [], refl, sym, subst}
use Rattle.std.proofs.lemmas.Result.{err_from_is_err_and}
use Rattle.nvme_arbiter.specs.History.{History}
use Rattle.nvme_trace.specs.declared.basis.Basis.TheVariants.{Specification}
use Rattle.nvme_trace.specs.declared.records.Head.{Head}
use Rattle.nvme_trace.specs.Shown.{IsShownBy}
use Rattle.nvme_stats.specs.Chosen.{IsPart, chosen}
use Rattle.nvme_stats.specs.declared.selection.Part.{Part}
use Rattle.nvme_chart.specs.Pictured.{IsPictured, IsPicturedPart}
use Rattle.nvme_stats.proofs.ShowLemmas.{shown_at, fault_at, head_fault_at}
use Rattle.nvme_chart.proofs.picture.chart.Goals as goal

pub returns-in_err-head-clause-fault : goal.returns-in_err-head-clause-fault
returns-in_err-head-clause-fault g c =
    let p = err_from_is_err_and c.from_residual.result c.from_residual.ensures.1 in
    rw (p.1, p.2) (head_fault_at _ (g.R.Read.remaining c.args.reader) _ c.new-trace.ensures.rest c.in_err-head.ensures.err)

pub returns-in_err-part-clause-fault : goal.returns-in_err-part-clause-fault
returns-in_err-part-clause-fault g c =
    let p = err_from_is_err_and c.from_residual-in_err-part.result c.from_residual-in_err-part.ensures.1 in
    rw (p.1, p.2) (fault_at _ (λ (h : Head). IsPictured h [] c.new-picture.result) (g.R.Read.remaining c.args.reader) c.new-trace.result.rest c.head.new.self.number c.head.new.self.rest c.in_ok-head.head
    c.new-trace.ensures.rest c.in_ok-head.ensures.ok c.new-picture.ensures c.in_err-part.ensures.fault)

pub returns-clause-pictured : goal.returns-clause-pictured
returns-clause-pictured g c =
    let selection = c.args.selection in
    shown_at (λ head past. IsPicturedPart selection head past _) (λ (h : Head). IsPictured h [] c.new-picture.result × (h.mechanism ≡ c.in_ok-head.head.mechanism))
    (g.R.Read.remaining c.args.reader) c.new-trace.result.rest c.head.new.self.number c.head.new.self.rest c.in_ok-head.head
    c.new-trace.ensures.rest c.in_ok-head.ensures.ok (c.new-picture.ensures, refl)
    (λ text h took start.
    let shown : IsShownBy Specification text (λ (head : Head) (past : History). IsPictured head (chosen head.mechanism selection past) c.show.new.watcher × IsPart selection past c.in_ok-part.part) = c.in_ok-part.ensures.shown text h took start.0 start.1 in
    let noted = c.note_part.ensures.pictured shown.head (chosen shown.head.mechanism selection shown.past) shown.holds.0 in
    record {
      head = shown.head;
      past = shown.past;
      tells = shown.tells;
      holds = record {
        pictured = record { mechanism = noted.mechanism; picks = noted.picks; commands = noted.commands };
        part = subst (λ (p : Part). IsPart selection shown.past p) (sym c.note_part.ensures.part) shown.holds.1;
      };
    })
