use Rattle.std.proofs.Common.{◌≡◌, ◌<◌, length, sym, ap, ◌∙◌, arith, inl, inr}
use Rattle.std.proofs.lemmas.List.{length-set}
use Rattle.nvme_front.specs.View.{FrontView}
use Rattle.nvme_front.proofs.Hosted.{fed_at, Rests-more, serving_is}
use Rattle.nvme_front.proofs.settlement.look.Goals as goal
use Rattle.nvme_front.proofs.settlement.look.Goals.{then-rests-gt0+then-is_serving, else-rests-gt0, else-rests-gt0-via-then-rests-gt0+else-is_serving, else-rests-gt0-via-else-rests-gt0}

pub beside_sq-rests-requires-clause-pair : goal.beside_sq-rests-requires-clause-pair
beside_sq-rests-requires-clause-pair c =
    let i = c.loop-r.invariant in
    let n = i.feeders in
    fed_at c.loop-r.front c.loop-r.feeders.items (i.rests.feeders.places ∙ c.requires ∙ sym i.rests.front.get_places) c.loop-r.r c.index_mut-feeder.result.now (omega arith) (rw c.from.ensures at c.index_mut-feeder.ensures.value)

pub loop-r-preserved : goal.loop-r-preserved
loop-r-preserved c =
    let i = c.loop-r.invariant in
    let n = i.feeders in
    let m = i.gets in
    let look = c.beside_sq-rests.ensures in
    let z = c.beside_sq-rests.new.self in
    let gets : length z.gets ≡ c.sq_count-count.result = ap (λ (v : FrontView). length v.gets) look.view ∙ length-set _ _ _ ∙ i.gets in
    let log : z.log ≡ c.args.front.now.log = ap (λ (v : FrontView). v.log) look.view ∙ i.rests.front.log in
    let there : c.loop-r.r < length z.gets = omega arith in
    record {
      rests = rw c.from.ensures (Rests-more c.loop-r.r c.loop-r.quiet c.if-rests-gt0.quiet _ _ _ _ _ _ _ _ i.rests (omega arith) (omega arith) (rw c.from.ensures at c.index_mut-feeder.ensures.value) look
          (λ e. elim c.if-rests-gt0.branch [
            | then-rests-gt0+then-is_serving w ↦ cc (e, w.quiet-is)
            | else-rests-gt0 w ↦ elim w.else-rests-gt0.branch [
              | else-rests-gt0-via-then-rests-gt0+else-is_serving w' ↦
                  (sym w.quiet-is ∙ e, λ s. let q = serving_is c.loop-r.r c.args.front.now z _ log there w'.is_serving.ensures in cc (q, s, w'.if-is_serving.false))
              | else-rests-gt0-via-else-rests-gt0 w' ↦ (sym w.quiet-is ∙ e, λ s. let none = w'.if-rests-gt0.false in omega arith)
            ]
          ])
          (λ e. elim c.if-rests-gt0.branch [
            | then-rests-gt0+then-is_serving w ↦ inr (sym (serving_is c.loop-r.r c.args.front.now z _ log there w.is_serving.ensures) ∙ w.if-is_serving.true, w.if-rests-gt0.true)
            | else-rests-gt0 w ↦ inl (sym w.quiet-is ∙ e)
          ]));
      feeders = rw length-set i.feeders;
      gets = gets;
    }
