-- An engine stands only where the admin regions are there, so that a front begins with the admin queues.
use Rattle.std.proofs.Common.{◌≡◌, ◌<◌, ◌==◌, Bool, true, false, if◌then◌else◌, List, [], ◌∷◌, length, Option, Some, None, refl, sym, ap, ◌∙◌, subst, arith}
use Rattle.std.specs.Prelude.{option_map}
use Rattle.nvme_admin.specs.QueueTable.{QueueTable, admin_sq, admin_cq}
use Rattle.nvme_admin.specs.Accepted.{queue_table}
use Rattle.nvme_admin.specs.declared.region.Region.{Region}
use Rattle.nvme_log.specs.declared.place.Place.{Place}
use Rattle.nvme_log.specs.Rules.{FrontRules, sq_regions_of, cq_regions_of}
use Rattle.nvme_log.specs.Queues.{admin_queue}
use Rattle.nvme_log.specs.Laws.{as_open, StartsWithAdmin}
use Rattle.nvme_ctrl_log.specs.Notes.{Notes}
use Rattle.nvme_ctrl_content.specs.Content.{Attachment}
use Rattle.nvme_engine.specs.Standing.{StandsBut}
use Rattle.nvme_engine.specs.declared.engine.Engine.{Engine}
use Rattle.nvme_engine.proofs.Additions.{added_sqs, added_cqs, first_table, table_of-additions}

opened_for : (o : Option Attachment) → Some 0 ≡ option_map (λ (a : Attachment). a.qid) o → (a : Attachment) × (o ≡ Some a)
opened_for None e = cc
opened_for (Some a) e = (a, refl)

first_sq : (b : Bool) (regions : List Region) → 0 < length regions → (if b then Some admin_queue else None) ≡ as_open (if b then admin_sq regions else None)
first_sq true [] some = absurd (omega (arith, some))
first_sq true (region ∷ regions) some = refl
first_sq false regions some = refl

first_cq : (b : Bool) (regions : List Region) → 0 < length regions → (if b then Some 0 else None) ≡ (if b then admin_cq regions else None)
first_cq true [] some = absurd (omega (arith, some))
first_cq true (region ∷ regions) some = refl
first_cq false regions some = refl

module _ (rules : FrontRules) (late : Bool) (notes : Notes) (rest : List Place) (e : Engine) (s : StandsBut rules late notes rest e) where
  -- the admin regions are there
  admin_region : (a : Attachment) × ((s.stands.content.sq 0).queue ≡ Some a)
  admin_region = opened_for (s.stands.content.sq 0).queue (sym s.stands.holds.ready.admin_qid ∙ s.stands.holds.queues.qid_is 0)

  sqs_there : 0 < length (sq_regions_of rules)
  sqs_there =
      subst (λ (rs : List Region). 0 < length rs) s.alike.sqs
      (let there = s.stands.holds.queues.sq_there 0 admin_region.0 admin_region.1 in omega (arith, there, s.stands.holds.tabled.sq_number))

  cqs_there : 0 < length (cq_regions_of rules)
  cqs_there =
      subst (λ (rs : List Region). 0 < length rs) s.alike.cqs
      (let there = s.stands.holds.queues.posts_there 0 admin_region.0 admin_region.1 in omega (arith, there, s.stands.holds.tabled.cq_number))

  table : queue_table rules.start rules.regions ≡ first_table rules.start (added_sqs rules.regions) (added_cqs rules.regions)
  table = table_of-additions rules.start rules.regions s.alike.own_adds

  pub starts : StartsWithAdmin rules
  starts = record {
    sq = λ q. first_sq (q == 0) (added_sqs rules.regions) (subst (λ (t : QueueTable). 0 < length t.sq_regions) table sqs_there) ∙ ap (λ (t : QueueTable). as_open (t.sq q)) (sym table);
    cq = λ q. first_cq (q == 0) (added_cqs rules.regions) (subst (λ (t : QueueTable). 0 < length t.cq_regions) table cqs_there) ∙ ap (λ (t : QueueTable). t.cq q) (sym table);
  }
