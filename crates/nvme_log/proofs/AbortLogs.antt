-- The worked logs of Abort commands are accounted.
use Rattle.std.proofs.Common.{◌≡◌, ℕ, ◌==◌, true, false, [], ◌∷◌, refl, ⊎_elim, rules, subst}
use Rattle.std.proofs.lemmas.Bool.{eqb-true}
use mathlib.Core.List.{IsPrefix}
use Rattle.nvme_arbiter.specs.Lawful.{IsLawfulRun}
use Rattle.nvme_admin.specs.Accepted.{effects_of, queue_table, status_of, dw0_of, verdict_of}
use Rattle.nvme_log.specs.declared.event.Event.TheVariants.{Abort}
use Rattle.nvme_log.specs.Rules.{Each}
use Rattle.nvme_log.specs.Places.{fetched}
use Rattle.nvme_log.specs.Histories.{arbitration_of}
use Rattle.nvme_log.specs.Completions.{posted_to}
use Rattle.nvme_log.specs.Effects.{EffectsAtOnce, effects_since, made_last}
use Rattle.nvme_log.specs.Account.{IndexCounts, ServedWhileOpen, Observed, Deletes, PostsOwn, LeavesPlaces, IsAccount}
use Rattle.nvme_log.specs.Examples.{at_two, one_deletion, create_cq, create_sq, read}
use Rattle.nvme_log.specs.FourNumbers.{four_numbers, at_zero_and_two, create_cq_3, create_sq_4, delete_sq_4}
use Rattle.nvme_log.specs.AbortExamples.{abort, abort_1_1, two_aborts, reads_and, two_aborts_told, reads_told, both_told, abort_4_13, abort_and_delete, six_reads, abort_and_delete_told, six_told, abort_and_deleted}
use Rattle.nvme_log.proofs.ExampleLogs.{true_or_false}

-- ---- two Abort commands
module _ (third : ℕ) where
  fetched_reads : (r : ℕ) → IsPrefix (fetched (both_told third) r) (at_two two_aborts (reads_and third) r)
  fetched_reads r = ⊎_elim (λ (e : (0 == r) ≡ true). let s : 0 ≡ r = eqb-true 0 r e in subst (λ (z : ℕ). IsPrefix (fetched (both_told third) z) (at_two two_aborts (reads_and third) z)) s ([], refl))
      (λ (e : (0 == r) ≡ false). ⊎_elim (λ (f : (1 == r) ≡ true). let s : 1 ≡ r = eqb-true 1 r f in subst (λ (z : ℕ). IsPrefix (fetched (both_told third) z) (at_two two_aborts (reads_and third) z)) s ([], refl))
      (λ (f : (1 == r) ≡ false). rw (e, f) ([], refl)) (true_or_false (1 == r))) (true_or_false (0 == r))

  collected_reads : (c : ℕ) → IsPrefix (at_two two_aborts_told (reads_told third) c) (posted_to (both_told third) c)
  collected_reads c = ⊎_elim (λ (e : (0 == c) ≡ true). let s : 0 ≡ c = eqb-true 0 c e in subst (λ (z : ℕ). IsPrefix (at_two two_aborts_told (reads_told third) z) (posted_to (both_told third) z)) s ([], refl))
      (λ (e : (0 == c) ≡ false). ⊎_elim (λ (f : (1 == c) ≡ true). let s : 1 ≡ c = eqb-true 1 c f in subst (λ (z : ℕ). IsPrefix (at_two two_aborts_told (reads_told third) z) (posted_to (both_told third) z)) s ([], refl))
      (λ (f : (1 == c) ≡ false). rw (e, f) ([], refl)) (true_or_false (1 == c))) (true_or_false (0 == c))

  indexes_reads : Each IndexCounts (both_told third)
  indexes_reads = search rules

  served_reads : Each (ServedWhileOpen one_deletion) (both_told third)
  unfolding effects_of queue_table
  served_reads = search rules

  observed_reads : Each Observed (both_told third)
  observed_reads = search rules

  effects_reads : Each (EffectsAtOnce one_deletion) (both_told third)
  unfolding effects_of queue_table status_of dw0_of verdict_of
  effects_reads =
      (refl, (refl, (refl, (refl, (refl, (refl, (refl, (([], refl), (refl, (refl, (refl, (refl, (refl, (refl, (([], refl), (refl, (refl, (([], refl), (refl, (refl, (refl, (refl, (refl, tt)))))))))))))))))))))))

  effects_whole_reads : effects_since (both_told third) ≡ made_last one_deletion (both_told third)
  unfolding effects_of queue_table status_of dw0_of verdict_of
  effects_whole_reads = refl

  deletes_reads : Each Deletes (both_told third)
  deletes_reads = search rules

  places_reads : Each (LeavesPlaces one_deletion) (both_told third)
  unfolding effects_of queue_table
  places_reads = search rules

  posts_reads : Each (PostsOwn one_deletion) (both_told third)
  unfolding effects_of queue_table status_of dw0_of verdict_of
  posts_reads = ((refl, refl, record { entry = abort 3 1 1; is_there = refl; region = refl; sqid = refl; cid = refl; status = refl; dw0 = refl; sqhd = refl; phase = refl }), ((refl, refl, record { entry = read third; is_there = refl; region = refl; sqid = refl; cid = refl; status = refl; dw0 = refl; sqhd = refl; phase = refl }), ((refl, refl, record { entry = read 0; is_there = refl; region = refl; sqid = refl; cid = refl; status = refl; dw0 = refl; sqhd = refl; phase = refl }), (tt, (tt, ((refl, refl, record { entry = abort_1_1; is_there = refl; region = refl; sqid = refl; cid = refl; status = refl; dw0 = refl; sqhd = refl; phase = refl }), ((refl, refl, record { entry = read 1; is_there = refl; region = refl; sqid = refl; cid = refl; status = refl; dw0 = refl; sqhd = refl; phase = refl }), (tt, (tt, (tt, (tt, (tt, (tt, ((refl, refl, record { entry = create_sq; is_there = refl; region = refl; sqid = refl; cid = refl; status = refl; dw0 = refl; sqhd = refl; phase = refl }), (tt, (tt, ((refl, refl, record { entry = create_cq; is_there = refl; region = refl; sqid = refl; cid = refl; status = refl; dw0 = refl; sqhd = refl; phase = refl }), (tt, (tt, (tt, (tt, (tt, (tt, tt)))))))))))))))))))))))

  lawful_reads : IsLawfulRun one_deletion.mechanism one_deletion.start.settings (arbitration_of (both_told third))
  lawful_reads = search rules

  pub two_aborts_account : IsAccount one_deletion (at_two two_aborts (reads_and third)) (both_told third) (at_two two_aborts_told (reads_told third))
  two_aborts_account = record {
    fetched_in_order = fetched_reads;
    indexes_count = indexes_reads;
    served_while_open = served_reads;
    observed = observed_reads;
    effects_at_once = effects_reads;
    effects_whole = effects_whole_reads;
    deletes = deletes_reads;
    posts_own = posts_reads;
    leaves_places = places_reads;
    lawful = lawful_reads;
    collected_in_order = collected_reads;
  }

-- ---- an Abort command and a Delete
fetched_six : (r : ℕ) → IsPrefix (fetched abort_and_deleted r) (at_zero_and_two abort_and_delete six_reads r)
fetched_six r = ⊎_elim (λ (e : (0 == r) ≡ true). let s : 0 ≡ r = eqb-true 0 r e in subst (λ (z : ℕ). IsPrefix (fetched abort_and_deleted z) (at_zero_and_two abort_and_delete six_reads z)) s ([], refl))
    (λ (e : (0 == r) ≡ false). ⊎_elim (λ (f : (2 == r) ≡ true). let s : 2 ≡ r = eqb-true 2 r f in subst (λ (z : ℕ). IsPrefix (fetched abort_and_deleted z) (at_zero_and_two abort_and_delete six_reads z)) s ([], refl))
    (λ (f : (2 == r) ≡ false). rw (e, f) ([], refl)) (true_or_false (2 == r))) (true_or_false (0 == r))

collected_six : (c : ℕ) → IsPrefix (at_two abort_and_delete_told six_told c) (posted_to abort_and_deleted c)
collected_six c = ⊎_elim (λ (e : (0 == c) ≡ true). let s : 0 ≡ c = eqb-true 0 c e in subst (λ (z : ℕ). IsPrefix (at_two abort_and_delete_told six_told z) (posted_to abort_and_deleted z)) s ([], refl))
    (λ (e : (0 == c) ≡ false). ⊎_elim (λ (f : (1 == c) ≡ true). let s : 1 ≡ c = eqb-true 1 c f in subst (λ (z : ℕ). IsPrefix (at_two abort_and_delete_told six_told z) (posted_to abort_and_deleted z)) s ([], refl))
    (λ (f : (1 == c) ≡ false). rw (e, f) ([], refl)) (true_or_false (1 == c))) (true_or_false (0 == c))

indexes_six : Each IndexCounts abort_and_deleted
indexes_six = search rules

served_six : Each (ServedWhileOpen four_numbers) abort_and_deleted
unfolding effects_of queue_table
served_six = search rules

observed_six : Each Observed abort_and_deleted
observed_six = search rules

effects_six : Each (EffectsAtOnce four_numbers) abort_and_deleted
unfolding effects_of queue_table status_of dw0_of verdict_of
effects_six =
    (refl, (refl, (refl, (refl, (refl, (refl, (refl, (refl, (refl, (([], refl), ((Abort 2 5 ∷ [], refl), (refl, (refl, (refl, (([], refl), (refl, (refl, (refl, (refl, (refl, (refl, (refl, (refl, (([], refl), (refl, (refl, (([], refl), (refl, (refl, (refl, (refl, (refl, tt))))))))))))))))))))))))))))))))

effects_whole_six : effects_since abort_and_deleted ≡ made_last four_numbers abort_and_deleted
unfolding effects_of queue_table status_of dw0_of verdict_of
effects_whole_six = refl

deletes_six : Each Deletes abort_and_deleted
deletes_six = search rules

places_six : Each (LeavesPlaces four_numbers) abort_and_deleted
unfolding effects_of queue_table
places_six = search rules

posts_six : Each (PostsOwn four_numbers) abort_and_deleted
unfolding effects_of queue_table status_of dw0_of verdict_of
posts_six = ((refl, refl, record { entry = delete_sq_4; is_there = refl; region = refl; sqid = refl; cid = refl; status = refl; dw0 = refl; sqhd = refl; phase = refl }), (tt, ((refl, refl, record { entry = read 14; is_there = refl; region = refl; sqid = refl; cid = refl; status = refl; dw0 = refl; sqhd = refl; phase = refl }), ((refl, refl, record { entry = read 12; is_there = refl; region = refl; sqid = refl; cid = refl; status = refl; dw0 = refl; sqhd = refl; phase = refl }), ((refl, refl, record { entry = abort_4_13; is_there = refl; region = refl; sqid = refl; cid = refl; status = refl; dw0 = refl; sqhd = refl; phase = refl }), ((refl, refl, record { entry = read 11; is_there = refl; region = refl; sqid = refl; cid = refl; status = refl; dw0 = refl; sqhd = refl; phase = refl }), ((refl, refl, record { entry = read 10; is_there = refl; region = refl; sqid = refl; cid = refl; status = refl; dw0 = refl; sqhd = refl; phase = refl }), ((refl, refl, record { entry = read 15; is_there = refl; region = refl; sqid = refl; cid = refl; status = refl; dw0 = refl; sqhd = refl; phase = refl }), ((refl, refl, record { entry = read 13; is_there = refl; region = refl; sqid = refl; cid = refl; status = refl; dw0 = refl; sqhd = refl; phase = refl }), (tt, (tt, (tt, (tt, (tt, (tt, (tt, (tt, (tt, (tt, (tt, (tt, (tt, ((refl, refl, record { entry = create_sq_4; is_there = refl; region = refl; sqid = refl; cid = refl; status = refl; dw0 = refl; sqhd = refl; phase = refl }), (tt, (tt, ((refl, refl, record { entry = create_cq_3; is_there = refl; region = refl; sqid = refl; cid = refl; status = refl; dw0 = refl; sqhd = refl; phase = refl }), (tt, (tt, (tt, (tt, (tt, (tt, tt))))))))))))))))))))))))))))))))

lawful_six : IsLawfulRun four_numbers.mechanism four_numbers.start.settings (arbitration_of abort_and_deleted)
lawful_six = search rules

pub abort_and_delete_account : IsAccount four_numbers (at_zero_and_two abort_and_delete six_reads) abort_and_deleted (at_two abort_and_delete_told six_told)
abort_and_delete_account = record {
  fetched_in_order = fetched_six;
  indexes_count = indexes_six;
  served_while_open = served_six;
  observed = observed_six;
  effects_at_once = effects_six;
  effects_whole = effects_whole_six;
  deletes = deletes_six;
  posts_own = posts_six;
  leaves_places = places_six;
  lawful = lawful_six;
  collected_in_order = collected_six;
}
