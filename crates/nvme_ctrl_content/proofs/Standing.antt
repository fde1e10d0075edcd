-- Each step of a controller keeps all that holds at its log.
use Rattle.nvme_ctrl_content.proofs.StepKeeps.{KeepsFetch, KeepsIo, KeepsAnswer, KeepsAdmin, KeepsPost, KeepsClose, Invariant}
use Rattle.nvme_ctrl_content.specs.Standing.{Holds}
use Rattle.nvme_ctrl_content.proofs.Regions.{regions-fetch, regions-io, regions-admin, regions-post, regions-close}
use Rattle.nvme_ctrl_content.proofs.ReadySteps.{ready-fetch, ready-io, ready-admin, ready-post, ready-close, posts-fetch, posts-io, posts-admin, posts-post, posts-close}
use Rattle.nvme_ctrl_content.proofs.ReadyHand.{ready-answer, posts-answer}
use Rattle.nvme_ctrl_content.proofs.HandSteps.{hand-fetch, hand-io, hand-answer, hand-admin, hand-post, hand-close}
use Rattle.nvme_ctrl_content.proofs.AnswerSteps.{regions-answer, counts-answer, queues-answer, deleting-answer, arbitration-answer, tabled-answer}
use Rattle.nvme_ctrl_content.proofs.Counts.{counts-fetch, counts-io, counts-admin, counts-post, counts-close}
use Rattle.nvme_ctrl_content.proofs.QueueSteps.{queues-fetch, queues-io, queues-admin, queues-post, queues-close}
use Rattle.nvme_ctrl_content.proofs.DeletionSteps.{deleting-fetch, deleting-io, deleting-admin, deleting-post, deleting-close}
use Rattle.nvme_ctrl_content.proofs.LifeSteps.{lives-fetch, lives-io, lives-answer, lives-admin, lives-post, lives-close}
use Rattle.nvme_ctrl_content.proofs.ArbitrationSteps.{arbitration-fetch, arbitration-io, arbitration-admin, arbitration-post, arbitration-close}
use Rattle.nvme_ctrl_content.proofs.OwnSteps.{own-fetch, own-io, own-answer, own-post, own-close}
use Rattle.nvme_ctrl_content.proofs.AdminEvents.{own-admin}
use Rattle.nvme_ctrl_content.proofs.TableSteps.{tabled-fetch, tabled-io, tabled-admin, tabled-post, tabled-close}

abbrev pub Holding : Invariant
Holding rules late past k = Holds rules late past k

pub holds-fetch : KeepsFetch Holding
holds-fetch rules late past k q queue entry s can =
    let r = regions-fetch rules late past k q queue entry s can in
    record {
      regions = r;
      ready = ready-fetch rules late past k q queue entry s can r;
      hand = hand-fetch rules late past k q queue entry s can r;
      counts = counts-fetch rules late past k q queue entry s can r;
      posts = posts-fetch rules late past k q queue entry s can;
      queues = queues-fetch rules late past k q queue entry s can r;
      deletion = deleting-fetch rules late past k q queue entry s can r;
      lives = lives-fetch rules late past k q queue entry s can;
      arbitration = arbitration-fetch rules late past k q queue entry s can;
      tabled = tabled-fetch rules late past k q queue entry s can;
      own = own-fetch rules late past k q queue entry s can r;
    }

pub holds-io : KeepsIo Holding
holds-io rules late past k queue seen pick board c s can is io at =
    let r = regions-io rules late past k queue seen pick board c s can is io at in
    record {
      regions = r;
      ready = ready-io rules late past k queue seen pick board c s can is io at r;
      hand = hand-io rules late past k queue seen pick board c s can is io at r;
      counts = counts-io rules late past k queue seen pick board c s can is io at r;
      posts = posts-io rules late past k queue seen pick board c s can is io at;
      queues = queues-io rules late past k queue seen pick board c s can is io at r;
      deletion = deleting-io rules late past k queue seen pick board c s can is io at r;
      lives = lives-io rules late past k queue seen pick board c s can is io at;
      arbitration = arbitration-io rules late past k queue seen pick board c s can is io at;
      tabled = tabled-io rules late past k queue seen pick board c s can is io at;
      own = own-io rules late past k queue seen pick board c s can is io at r;
    }

pub holds-admin : KeepsAdmin Holding
holds-admin rules late past k seen pick picked candidate rest table c board s can is z one apply chosen =
    let r = regions-admin rules late past k seen pick picked candidate rest table c board s can is z one apply chosen in
    record {
      regions = r;
      ready = ready-admin rules late past k seen pick picked candidate rest table c board s can is z one apply chosen r;
      hand = hand-admin rules late past k seen pick picked candidate rest table c board s can is z one apply chosen r;
      counts = counts-admin rules late past k seen pick picked candidate rest table c board s can is z one apply chosen r;
      posts = posts-admin rules late past k seen pick picked candidate rest table c board s can is z one apply chosen;
      queues = queues-admin rules late past k seen pick picked candidate rest table c board s can is z one apply chosen r;
      deletion = deleting-admin rules late past k seen pick picked candidate rest table c board s can is z one apply chosen r;
      lives = lives-admin rules late past k seen pick picked candidate rest table c board s can is z one apply chosen;
      arbitration = arbitration-admin rules late past k seen pick picked candidate rest table c board s can is z one apply chosen;
      tabled = tabled-admin rules late past k seen pick picked candidate rest table c board s can is z one apply chosen;
      own = own-admin rules late past k seen pick picked candidate rest table c board s can is z one apply chosen r;
    }

pub holds-post : KeepsPost Holding
holds-post rules late past k c t rest cqe s can =
    let r = regions-post rules late past k c t rest cqe s can in
    record {
      regions = r;
      ready = ready-post rules late past k c t rest cqe s can r;
      hand = hand-post rules late past k c t rest cqe s can r;
      counts = counts-post rules late past k c t rest cqe s can r;
      posts = posts-post rules late past k c t rest cqe s can;
      queues = queues-post rules late past k c t rest cqe s can r;
      deletion = deleting-post rules late past k c t rest cqe s can r;
      lives = lives-post rules late past k c t rest cqe s can;
      arbitration = arbitration-post rules late past k c t rest cqe s can;
      tabled = tabled-post rules late past k c t rest cqe s can;
      own = own-post rules late past k c t rest cqe s can r;
    }

pub holds-close : KeepsClose Holding
holds-close rules late past k d table s can =
    let r = regions-close rules late past k d table s can in
    record {
      regions = r;
      ready = ready-close rules late past k d table s can r;
      hand = hand-close rules late past k d table s can r;
      counts = counts-close rules late past k d table s can r;
      posts = posts-close rules late past k d table s can;
      queues = queues-close rules late past k d table s can r;
      deletion = deleting-close rules late past k d table s can r;
      lives = lives-close rules late past k d table s can;
      arbitration = arbitration-close rules late past k d table s can;
      tabled = tabled-close rules late past k d table s can;
      own = own-close rules late past k d table s can r;
    }

pub holds-answer : KeepsAnswer Holding
holds-answer rules late past k p before after sqid c cid answer entry s can there names =
    let r = regions-answer rules late past k p before after sqid c cid answer entry s can there names in
    record {
      regions = r;
      ready = ready-answer rules late past k p before after sqid c cid answer entry s can there names r;
      hand = hand-answer rules late past k p before after sqid c cid answer entry s can there names r;
      counts = counts-answer rules late past k p before after sqid c cid answer entry s can there names r;
      posts = posts-answer rules late past k p before after sqid c cid answer entry s can there names;
      queues = queues-answer rules late past k p before after sqid c cid answer entry s can there names r;
      deletion = deleting-answer rules late past k p before after sqid c cid answer entry s can there names r;
      lives = lives-answer rules late past k p before after sqid c cid answer entry s can there names;
      arbitration = arbitration-answer rules late past k p before after sqid c cid answer entry s can there names;
      tabled = tabled-answer rules late past k p before after sqid c cid answer entry s can there names;
      own = own-answer rules late past k p before after sqid c cid answer entry s can there names r;
    }
