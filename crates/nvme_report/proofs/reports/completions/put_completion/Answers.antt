use Rattle.std.proofs.Common.{◌≡◌, ◌∙◌, ℕ, List, [], ◌∷◌, ◌++◌, refl, subst}
use Rattle.std.specs.Prelude.{codes, decimal}
use Rattle.nvme_entry.specs.declared.completion.Cqe.{Cqe}
use Rattle.nvme_output.specs.Pieces.{hex_byte, hex_dword}
use Rattle.nvme_output.specs.Written.{Writes}
use Rattle.nvme_report.proofs.Lines.{joined, joined_is}
use Rattle.nvme_report.proofs.reports.completions.put_completion.Goals as goal

pub returns : goal.returns
returns g c =
    let cqe : Cqe = c.args.cqe.now in
    let parts : List (List ℕ) =
    codes "cmd " ∷ decimal c.args.region ∷ codes "." ∷ decimal c.args.index ∷ codes " " ∷ decimal cqe.status.sct ∷ codes "/" ∷ hex_byte cqe.status.sc
    ∷ codes " " ∷ hex_dword cqe.dw0 ∷ [] in
    let line : c.dword.new.self ≡ joined [] parts =
    rw (
      c.dword.ensures.added,
      c.words-5.ensures.added,
      c.byte.ensures.added,
      c.words-4.ensures.added,
      c.number-3.ensures.added,
      c.words-3.ensures.added,
      c.number-2.ensures.added,
      c.words-2.ensures.added,
      c.number.ensures.added,
      c.words.ensures.added,
      c.new-line.ensures,
      c.from.ensures,
      c.sct.ensures.value,
      c.sc.ensures,
    ) refl in
    subst (λ (z : List ℕ). Writes (g.W.Write.contents c.args.writer.now) (g.W.Write.contents c.write.new.writer) c.write.result (z ++ codes "\n"))
    (line ∙ joined_is [] parts) c.write.ensures
