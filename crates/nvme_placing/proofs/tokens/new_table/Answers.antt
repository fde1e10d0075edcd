use Rattle.std.proofs.Common.{◌≡◌, ◌∙◌, ◌+◌, ◌*◌, ◌==◌, List, [], ◌∷◌, ◌++◌, length, Some, ap, sym, subst, arith}
use Rattle.nvme_admin.specs.declared.region.Region.{Region}
use Rattle.nvme_admin.specs.Changes.{admin_queue}
use Rattle.nvme_admin.specs.Layout.{view_of}
use Rattle.nvme_admin.specs.Standing.{TableView, sq_of, cq_of}
use Rattle.nvme_placing.specs.Telling.{AreTokens}
use Rattle.nvme_placing.proofs.TokenLemmas.{tokens-more, one-longer, opened-first}
use Rattle.nvme_placing.proofs.tokens.new_table.Goals as goal

pub add_cq-requires-clause-sqs : goal.add_cq-requires-clause-sqs
add_cq-requires-clause-sqs c =
    let inv = c.loop-number.invariant in
    subst (AreTokens 0) (sym c.add_sq.ensures.regions)
    (tokens-more 0 (view_of c.loop-number.table).sq_regions (record { address = 2 * c.loop-number.number; slots = c.args.sq_slots }) inv.sq_tokens (omega (arith, inv.sqs)))

pub loop-number-preserved : goal.loop-number-preserved
loop-number-preserved c =
    let inv = c.loop-number.invariant in
    let v : TableView = view_of c.loop-number.table in
    let middle : TableView = view_of c.add_sq.new.table in
    let new : TableView = view_of c.add_cq.new.table in
    let sqs : new.sq_regions ≡ v.sq_regions ++ record { address = 2 * c.loop-number.number; slots = c.args.sq_slots } ∷ [] =
    ap (λ (w : TableView). w.sq_regions) c.add_cq.ensures.rest ∙ c.add_sq.ensures.regions in
    let cqs : new.cq_regions ≡ v.cq_regions ++ record { address = 2 * c.loop-number.number + 1; slots = c.args.cq_slots } ∷ [] =
    c.add_cq.ensures.regions ∙ ap (λ (w : TableView). w.cq_regions ++ record { address = 2 * c.loop-number.number + 1; slots = c.args.cq_slots } ∷ []) c.add_sq.ensures.rest in
    record {
      sqs = ap (λ (rs : List Region). length rs) sqs ∙ one-longer v.sq_regions _ ∙ ap (λ n. n + 1) inv.sqs;
      cqs = ap (λ (rs : List Region). length rs) cqs ∙ one-longer v.cq_regions _ ∙ ap (λ n. n + 1) inv.cqs;
      sq_tokens = subst (AreTokens 0) (sym sqs) (tokens-more 0 v.sq_regions _ inv.sq_tokens (omega (arith, inv.sqs)));
      cq_tokens = subst (AreTokens 1) (sym cqs) (tokens-more 1 v.cq_regions _ inv.cq_tokens (omega (arith, inv.cqs)));
      sq = λ q. ap (λ (w : TableView). sq_of w q) c.add_cq.ensures.rest ∙ c.add_sq.ensures.queues q ∙ opened-first (q == 0) c.loop-number.number (Some admin_queue) (sq_of v q) (inv.sq q);
      cq = λ q. c.add_cq.ensures.queues q ∙ opened-first (q == 0) c.loop-number.number (Some 0) (cq_of middle q) (ap (λ (w : TableView). cq_of w q) c.add_sq.ensures.rest ∙ inv.cq q);
      nsq = ap (λ (w : TableView). w.nsq) c.add_cq.ensures.rest ∙ ap (λ (w : TableView). w.nsq) c.add_sq.ensures.rest ∙ inv.nsq;
      ncq = ap (λ (w : TableView). w.ncq) c.add_cq.ensures.rest ∙ ap (λ (w : TableView). w.ncq) c.add_sq.ensures.rest ∙ inv.ncq;
      numbers_set = ap (λ (w : TableView). w.numbers_set) c.add_cq.ensures.rest ∙ ap (λ (w : TableView). w.numbers_set) c.add_sq.ensures.rest ∙ inv.numbers_set;
      created = ap (λ (w : TableView). w.created) c.add_cq.ensures.rest ∙ ap (λ (w : TableView). w.created) c.add_sq.ensures.rest ∙ inv.created;
      settings_are = ap (λ (w : TableView). w.settings) c.add_cq.ensures.rest ∙ ap (λ (w : TableView). w.settings) c.add_sq.ensures.rest ∙ inv.settings_are;
    }
