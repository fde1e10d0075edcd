use Rattle.std.proofs.Common.{◌≡◌, ◌+◌, ◌++◌, ◌∷◌, [], ◌∙◌, List, ap, map, take, rules, sym, subst}
use Rattle.std.specs.Prelude.{All}
use Rattle.std.proofs.lemmas.List.{map-append, take_more}
use Rattle.std.proofs.lemmas.List.Elements.{All-push}
use Rattle.nvme_points.specs.Rows.{IsRowOver}
use Rattle.nvme_points.specs.declared.rows.Scope.{Scope}
use Rattle.nvme_points.specs.declared.rows.SweepRow.{SweepRow}
use Rattle.nvme_points.proofs.rows.rows_for.Goals as goal

pub loop-scope-preserved : goal.loop-scope-preserved
loop-scope-preserved c =
    let scopes : List Scope = c.args.scopes.now in
    let rows : List SweepRow = c.loop-scope.rows.items in
    let row : SweepRow = c.in_ok-row_over.field-0 in
    let i = c.loop-scope.scope-index in
    let told : map (λ (r : SweepRow). r.scope) c.push.new.self.items ≡ map (λ (r : SweepRow). r.scope) rows ++ row.scope ∷ [] =
    ap (map (λ (r : SweepRow). r.scope)) c.in_ok-push.ensures.items ∙ map-append (λ (r : SweepRow). r.scope) rows (row ∷ []) in
    let more : take i scopes ++ row.scope ∷ [] ≡ take (i + 1) scopes =
    ap (λ (s : Scope). take i scopes ++ s ∷ []) c.in_ok-row_over.ensures.scope ∙ sym (take_more scopes i _ c.loop-scope-test.true) in
    record {
      of_each = told ∙ (ap (λ (ss : List Scope). ss ++ row.scope ∷ []) c.loop-scope.invariant.of_each ∙ more);
      each = subst (All (λ (r : SweepRow). IsRowOver c.args.runs.now r.scope r)) (sym c.in_ok-push.ensures.items)
          (All-push (λ (r : SweepRow). IsRowOver c.args.runs.now r.scope r) _ _ c.loop-scope.invariant.each (search rules));
    }
