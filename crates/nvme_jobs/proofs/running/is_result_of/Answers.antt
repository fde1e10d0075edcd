-- The namespaces are the same where their padded lists and their lengths are.
use Rattle.std.proofs.Common.{◌≡◌, ℕ, ◌==◌, ◌&&◌, true, List, length, take, refl, ap, sym, ◌∙◌, eqb-true, eq-eqb, rules}
use Rattle.std.specs.Bool.{Decides}
use Rattle.std.specs.Cmp.Lexicographic.{pointwise}
use Rattle.std.proofs.Math.Seq.{take-append_seam}
use Rattle.std.proofs.lemmas.Bool.{and_parts, and_from}
use Rattle.std.proofs.lemmas.Bool.Decides.{Decides-eqb}
use Rattle.std.proofs.lemmas.Slice.Eq.{slice_eq-Decides}
use Rattle.nvme_entry.specs.Namespaces.{padded}
use Rattle.nvme_pool.specs.declared.jobs.Job.{Job}
use Rattle.nvme_jobs.proofs.running.is_result_of.Goals as goal
use Rattle.nvme_jobs.proofs.running.is_result_of.Goals.{then-ticket-dispatched, else-ticket-dispatched}

-- padded lists of the same length are equal where the lists are
padded_decides : (xs ys : List ℕ) → Decides (pointwise (λ (x y : ℕ). x == y) (padded xs) (padded ys) && (length xs == length ys)) (xs ≡ ys)
padded_decides xs ys =
    let same = slice_eq-Decides Decides-eqb (padded xs) (padded ys) (pointwise (λ (x y : ℕ). x == y) (padded xs) (padded ys)) refl in (
      λ e.
          let both = and_parts _ (length xs == length ys) e in
          sym (take-append_seam xs _) ∙ ap (take (length xs)) (same.0 both.0) ∙ ap (λ (n : ℕ). take n (padded ys)) (eqb-true (length xs) (length ys) both.1) ∙ take-append_seam ys _,
      λ e. and_from _ (length xs == length ys) (same.1 (ap padded e)) (eq-eqb (length xs) (length ys) (ap length e)),
    )

pub returns-then-eq : goal.returns-then-eq
returns-then-eq c =
    let spaces = padded_decides c.spaces.result c.args.spaces.now in
    elim c.if-ticket-dispatched.branch [
      | then-ticket-dispatched w ↦
          let equal : w.eq.result ≡ true = sym w.value-is ∙ c.if-eq.true in
          let entry : w.entry.result ≡ c.args.dispatched.now.entry = search rules in (
            λ yes i. record {
              ticket = (sym c.ticket.ensures ∙ w.if-ticket-dispatched.true) i;
              entry = (sym w.entry.ensures ∙ entry) i;
              spaces = (sym c.spaces.ensures ∙ spaces.0 (sym c.eq-then-eq.ensures ∙ yes)) i;
            },
            λ e. c.eq-then-eq.ensures ∙ spaces.1 (c.spaces.ensures ∙ ap (λ (j : Job). j.spaces) e),
          )
      | else-ticket-dispatched w ↦ absurd (w.if-ticket-dispatched.false (eqb-true c.ticket.result c.args.dispatched.now.ticket (sym w.value-is ∙ c.if-eq.true)))
    ]
