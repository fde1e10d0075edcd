use Rattle.nvme_pool.proofs.Gaining.{gained_from, kept_at, unknown_more}
use Rattle.std.proofs.Common.{◌∙◌, [], ◌∷◌, ◌++◌, sym, ap, subst}
use Rattle.std.proofs.lemmas.List.{take_all}
use Rattle.std.specs.List.{All}
use Rattle.nvme_pool.specs.Seat.{IsUnknown}
use Rattle.nvme_pool.proofs.seat.first_of.Goals as goal

pub returns-then-not-is_empty-clause-gained : goal.returns-then-not-is_empty-clause-gained
returns-then-not-is_empty-clause-gained c =
    let l = c.is_empty.ensures in
    let g = c.get_known.ensures in
    gained_from c.args.ends.now c.loop-end.ends c.loop-end.end-index c.end-item.result c.get_known.new.self c.get_known.result
    c.loop-end.invariant.0 c.loop-end-test.true c.loop-end.invariant.1
    (g.ring.0 ∙ l.ring.0, g.ring.1 ∙ l.ring.1, g.ring.2 ∙ l.ring.2)
    (g.got ∙ ap (λ xs. xs ++ c.get_known.result ∷ []) l.got)
    (λ some. ap (λ e. e.known) (sym (l.known some)) ∙ g.known)

pub loop-end-preserved : goal.loop-end-preserved
loop-end-preserved c = (
  kept_at c.args.ends.now c.loop-end.ends c.loop-end.end-index c.end-item.result c.is_empty.new.self c.loop-end.invariant.0 (c.is_empty.ensures.unchanged c.if-not-is_empty.false),
  unknown_more c.args.ends.now c.loop-end.ends c.loop-end.end-index c.end-item.result c.loop-end.invariant.0 c.loop-end-test.true (c.is_empty.ensures.none_known c.if-not-is_empty.false) c.loop-end.invariant.1,
)

pub returns-clause-none_known : goal.returns-clause-none_known
returns-clause-none_known c = subst (All IsUnknown) (take_all c.loop-end.end-index c.args.ends.now c.loop-end-test.false) c.loop-end.invariant.1
