-- The worked log in which a device answers a Read otherwise is accounted by its answers.
use Rattle.std.proofs.Common.{◌≡◌, ℕ, [], refl, rules}
use mathlib.Core.List.{IsPrefix}
use Rattle.nvme_arbiter.specs.Lawful.{IsLawfulRun}
use Rattle.nvme_admin.specs.Accepted.{effects_of, queue_table, status_of, dw0_of, verdict_of}
use Rattle.nvme_entry.specs.Status.{aborted_by_deletion}
use Rattle.nvme_log.specs.declared.event.Event.TheVariants.{Post}
use Rattle.nvme_log.specs.Rules.{Each}
use Rattle.nvme_log.specs.Places.{fetched}
use Rattle.nvme_log.specs.Histories.{arbitration_of}
use Rattle.nvme_log.specs.Answers.{by_answers}
use Rattle.nvme_log.specs.Completions.{posted_to}
use Rattle.nvme_log.specs.Effects.{EffectsAtOnce, effects_since, made_last}
use Rattle.nvme_log.specs.Account.{IndexCounts, ServedWhileOpen, Observed, Deletes, PostsOwnBy, LeavesPlaces, IsAccountBy}
use Rattle.nvme_log.specs.Examples.{at_two, one_deletion, create_cq, create_sq, admin_script, reads, read, done, closing}
use Rattle.nvme_log.specs.AnswerExamples.{faulty, read_failed, creates_done, failed_told}
use Rattle.nvme_log.proofs.BrokenPromises.{by_region}

indexes : Each IndexCounts read_failed
indexes = search rules

served : Each (ServedWhileOpen one_deletion) read_failed
unfolding effects_of queue_table
served = search rules

observed : Each Observed read_failed
observed = search rules

effects : Each (EffectsAtOnce one_deletion) read_failed
unfolding effects_of queue_table status_of dw0_of verdict_of
effects = (refl, (refl, (refl, (refl, (refl, (refl, (([], refl), (refl, (refl, (([], refl), (refl, (refl, (refl, (refl, tt))))))))))))))

whole : effects_since read_failed ≡ made_last one_deletion read_failed
unfolding effects_of queue_table status_of dw0_of verdict_of
whole = refl

deletes : Each Deletes read_failed
deletes = search rules

outstanding_few : Each (LeavesPlaces one_deletion) read_failed
unfolding effects_of queue_table
outstanding_few = search rules

posts : Each (PostsOwnBy one_deletion (by_answers faulty)) read_failed
unfolding effects_of queue_table status_of dw0_of verdict_of
posts = (
  (refl, refl, record { entry = read 0; is_there = refl; region = refl; sqid = refl; cid = refl; status = refl; dw0 = refl; sqhd = refl; phase = refl }),
  (
    tt,
    (
      tt,
      (
        tt,
        (
          tt,
          (
            (refl, refl, record { entry = create_sq; is_there = refl; region = refl; sqid = refl; cid = refl; status = refl; dw0 = refl; sqhd = refl; phase = refl }),
            (
              tt,
              (
                tt,
                (
                  (refl, refl, record { entry = create_cq; is_there = refl; region = refl; sqid = refl; cid = refl; status = refl; dw0 = refl; sqhd = refl; phase = refl }),
                  (tt, (tt, (tt, (tt, (tt, tt))))),
                ),
              ),
            ),
          ),
        ),
      ),
    ),
  ),
)

lawful : IsLawfulRun one_deletion.mechanism one_deletion.start.settings (arbitration_of read_failed)
lawful = search rules

pub failed_account : IsAccountBy one_deletion (by_answers faulty) (at_two admin_script reads) read_failed (at_two creates_done failed_told)
failed_account = record {
  fetched_in_order = by_region (λ (r : ℕ). IsPrefix (fetched read_failed r) (at_two admin_script reads r)) ([], refl) ([], refl) (λ r e f. rw (e, f) ([], refl));
  indexes_count = indexes;
  served_while_open = served;
  observed = observed;
  effects_at_once = effects;
  effects_whole = whole;
  deletes = deletes;
  posts_own = posts;
  leaves_places = outstanding_few;
  lawful = lawful;
  collected_in_order = by_region (λ (c : ℕ). IsPrefix (at_two creates_done failed_told c) (posted_to read_failed c)) ([], refl) ([], refl) (λ c e f. rw (e, f) ([], refl));
}

-- a Read that was aborted with its queue
pub aborted_own : PostsOwnBy one_deletion (by_answers faulty) closing (Post 1 1 1 (done 1 1 aborted_by_deletion))
unfolding effects_of queue_table status_of dw0_of verdict_of
aborted_own =
    (refl, refl, record { entry = read 1; is_there = refl; region = refl; sqid = refl; cid = refl; status = refl; dw0 = refl; sqhd = refl; phase = refl })
