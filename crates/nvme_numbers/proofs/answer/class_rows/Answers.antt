use Rattle.std.proofs.Common.{◌∙◌, sym, subst, refl}
use Rattle.std.specs.List.{All}
use Rattle.std.proofs.lemmas.List.Elements.{All-push}
use Rattle.nvme_numbers.specs.inside.Unions.{IsClassFed, IsClassRow, has_ranked}
use Rattle.nvme_numbers.proofs.Classes.{passed_more, told_more}
use Rattle.nvme_numbers.proofs.answer.class_rows.Goals.{then-has_queue+in_ok-row+in_ok-push, else-has_queue}
use Rattle.nvme_numbers.proofs.answer.class_rows.Goals as goal

pub loop-class-preserved : goal.loop-class-preserved
loop-class-preserved c =
    let has = has_ranked c.args.queues.now in
    let inv = c.loop-class.invariant in
    let i = c.loop-class.class-index in
    elim c.if-has_queue.branch [
      | then-has_queue+in_ok-row+in_ok-push w ↦
          rw w.rows-is (record {
            of_each = told_more has c.args.classes.now _ _ i _ _ c.loop-class-test.true refl (sym c.has_queue.ensures ∙ w.if-has_queue.true) w.in_ok-push.ensures.items inv.of_each;
            each = subst (All (IsClassRow c.args.span c.args.whole c.args.queues.now)) (sym w.in_ok-push.ensures.items)
                (All-push (IsClassRow c.args.span c.args.whole c.args.queues.now) _ _ inv.each w.in_ok-row.ensures.row);
            fed = subst (All (IsClassFed c.args.coming c.args.queues.now)) (sym w.in_ok-push.ensures.items)
                (All-push (IsClassFed c.args.coming c.args.queues.now) _ _ inv.fed w.in_ok-row.ensures.fed);
          })
      | else-has_queue w ↦
          rw w.rows-is (record {
            of_each = inv.of_each ∙ passed_more has c.args.classes.now i _ c.loop-class-test.true (sym c.has_queue.ensures ∙ w.if-has_queue.false);
            each = inv.each;
            fed = inv.fed;
          })
    ]
