-- The worked log of four different numbers is the whole account of its scripts.
use Rattle.std.proofs.Common.{◌≡◌, ℕ, ◌==◌, true, false, [], ◌∷◌, refl, ⊎_elim, rules, subst}
use Rattle.std.proofs.lemmas.Bool.{eqb-true}
use mathlib.Core.List.{IsPrefix}
use Rattle.nvme_arbiter.specs.Lawful.{IsLawfulRun}
use Rattle.nvme_admin.specs.Accepted.{effects_of, queue_table, status_of, dw0_of, verdict_of}
use Rattle.nvme_admin.specs.Checks.{some_below}
use Rattle.nvme_log.specs.declared.event.Event.TheVariants.{Abort}
use Rattle.nvme_log.specs.Rules.{Each}
use Rattle.nvme_log.specs.Places.{fetched}
use Rattle.nvme_log.specs.Histories.{arbitration_of}
use Rattle.nvme_log.specs.Completions.{posted_to}
use Rattle.nvme_log.specs.Effects.{EffectsAtOnce, effects_since, made_last}
use Rattle.nvme_log.specs.Account.{IndexCounts, ServedWhileOpen, Observed, Deletes, PostsOwn, LeavesPlaces, IsAccount}
use Rattle.nvme_log.specs.Examples.{at_two, read}
use Rattle.nvme_log.specs.FourNumbers.{four_numbers, admin_five, four_reads, at_zero_and_two, five_told, four_told, all_closed, create_cq_3, create_sq_4, set_burst, delete_sq_4, delete_cq_3}
use Rattle.nvme_log.proofs.ExampleLogs.{true_or_false}

fetched_four : (r : ℕ) → IsPrefix (fetched all_closed r) (at_zero_and_two admin_five four_reads r)
fetched_four r = ⊎_elim (λ (e : (0 == r) ≡ true). let s : 0 ≡ r = eqb-true 0 r e in subst (λ (z : ℕ). IsPrefix (fetched all_closed z) (at_zero_and_two admin_five four_reads z)) s ([], refl))
    (λ (e : (0 == r) ≡ false). ⊎_elim (λ (f : (2 == r) ≡ true). let s : 2 ≡ r = eqb-true 2 r f in subst (λ (z : ℕ). IsPrefix (fetched all_closed z) (at_zero_and_two admin_five four_reads z)) s ([], refl))
    (λ (f : (2 == r) ≡ false). rw (e, f) ([], refl)) (true_or_false (2 == r))) (true_or_false (0 == r))

collected_four : (c : ℕ) → IsPrefix (at_two five_told four_told c) (posted_to all_closed c)
collected_four c = ⊎_elim (λ (e : (0 == c) ≡ true). let s : 0 ≡ c = eqb-true 0 c e in subst (λ (z : ℕ). IsPrefix (at_two five_told four_told z) (posted_to all_closed z)) s ([], refl))
    (λ (e : (0 == c) ≡ false). ⊎_elim (λ (f : (1 == c) ≡ true). let s : 1 ≡ c = eqb-true 1 c f in subst (λ (z : ℕ). IsPrefix (at_two five_told four_told z) (posted_to all_closed z)) s ([], refl))
    (λ (f : (1 == c) ≡ false). rw (e, f) ([], refl)) (true_or_false (1 == c))) (true_or_false (0 == c))

indexes_four : Each IndexCounts all_closed
indexes_four = search rules

served_four : Each (ServedWhileOpen four_numbers) all_closed
unfolding effects_of queue_table
served_four = search rules

observed_four : Each Observed all_closed
observed_four = search rules

deletes_four : Each Deletes all_closed
deletes_four = search rules

places_four : Each (LeavesPlaces four_numbers) all_closed
unfolding effects_of queue_table
places_four = search rules

lawful_four : IsLawfulRun four_numbers.mechanism four_numbers.start.settings (arbitration_of all_closed)
lawful_four = search rules

effects_four : Each (EffectsAtOnce four_numbers) all_closed
unfolding effects_of queue_table status_of dw0_of verdict_of some_below
effects_four =
    (refl, (([], refl), (refl, (refl, (refl, (refl, (refl, (refl, (refl, (([], refl), ((Abort 2 3 ∷ [], refl), (refl, (refl, (refl, (refl, (([], refl), (refl, (refl, (refl, (refl, (refl, (refl, (([], refl), (refl, (refl, (([], refl), (refl, (refl, (refl, (refl, (refl, (refl, tt))))))))))))))))))))))))))))))))

effects_whole_four : effects_since all_closed ≡ made_last four_numbers all_closed
unfolding effects_of queue_table status_of dw0_of verdict_of some_below
effects_whole_four = refl

posts_four : Each (PostsOwn four_numbers) all_closed
unfolding effects_of queue_table status_of dw0_of verdict_of some_below
posts_four = (
  (refl, refl, record { entry = delete_cq_3; is_there = refl; region = refl; sqid = refl; cid = refl; status = refl; dw0 = refl; sqhd = refl; phase = refl }),
  (
    tt,
    (
      tt,
      (
        (refl, refl, record { entry = delete_sq_4; is_there = refl; region = refl; sqid = refl; cid = refl; status = refl; dw0 = refl; sqhd = refl; phase = refl }),
        (
          tt,
          (
            (refl, refl, record { entry = read 12; is_there = refl; region = refl; sqid = refl; cid = refl; status = refl; dw0 = refl; sqhd = refl; phase = refl }),
            (
              (refl, refl, record { entry = read 11; is_there = refl; region = refl; sqid = refl; cid = refl; status = refl; dw0 = refl; sqhd = refl; phase = refl }),
              (
                (refl, refl, record { entry = read 10; is_there = refl; region = refl; sqid = refl; cid = refl; status = refl; dw0 = refl; sqhd = refl; phase = refl }),
                (
                  (refl, refl, record { entry = read 13; is_there = refl; region = refl; sqid = refl; cid = refl; status = refl; dw0 = refl; sqhd = refl; phase = refl }),
                  (
                    tt,
                    (
                      tt,
                      (
                        tt,
                        (
                          tt,
                          (
                            tt,
                            (
                              (refl, refl, record { entry = set_burst; is_there = refl; region = refl; sqid = refl; cid = refl; status = refl; dw0 = refl; sqhd = refl; phase = refl }),
                              (
                                tt,
                                (
                                  tt,
                                  (
                                    tt,
                                    (
                                      tt,
                                      (
                                        tt,
                                        (
                                          tt,
                                          (
                                            (refl, refl, record { entry = create_sq_4; is_there = refl; region = refl; sqid = refl; cid = refl; status = refl; dw0 = refl; sqhd = refl; phase = refl }),
                                            (
                                              tt,
                                              (
                                                tt,
                                                (
                                                  (refl, refl, record { entry = create_cq_3; is_there = refl; region = refl; sqid = refl; cid = refl; status = refl; dw0 = refl; sqhd = refl; phase = refl }),
                                                  (tt, (tt, (tt, (tt, (tt, (tt, (tt, tt))))))),
                                                ),
                                              ),
                                            ),
                                          ),
                                        ),
                                      ),
                                    ),
                                  ),
                                ),
                              ),
                            ),
                          ),
                        ),
                      ),
                    ),
                  ),
                ),
              ),
            ),
          ),
        ),
      ),
    ),
  ),
)

pub four_numbers_account : IsAccount four_numbers (at_zero_and_two admin_five four_reads) all_closed (at_two five_told four_told)
four_numbers_account = record {
  fetched_in_order = fetched_four;
  indexes_count = indexes_four;
  served_while_open = served_four;
  observed = observed_four;
  effects_at_once = effects_four;
  effects_whole = effects_whole_four;
  deletes = deletes_four;
  posts_own = posts_four;
  leaves_places = places_four;
  lawful = lawful_four;
  collected_in_order = collected_four;
}
