-- The worked logs are accounted.
use Rattle.std.proofs.Common.{◌≡◌, ℕ, ◌==◌, Bool, true, false, [], ◌∷◌, refl, ◌⊎◌, inl, inr, ⊎_elim, rules, subst}
use Rattle.std.proofs.lemmas.Bool.{eqb-true}
use mathlib.Core.List.{IsPrefix}
use Rattle.nvme_arbiter.specs.Lawful.{IsLawfulRun}
use Rattle.nvme_admin.specs.Accepted.{effects_of, queue_table, status_of, dw0_of, verdict_of}
use Rattle.nvme_log.specs.declared.event.Event.TheVariants.{Abort}
use Rattle.nvme_log.specs.Rules.{Each}
use Rattle.nvme_log.specs.Places.{fetched}
use Rattle.nvme_log.specs.Histories.{arbitration_of}
use Rattle.nvme_log.specs.Completions.{posted_to}
use Rattle.nvme_log.specs.Effects.{EffectsAtOnce, effects_since, made_last}
use Rattle.nvme_log.specs.Account.{IndexCounts, ServedWhileOpen, Observed, Deletes, PostsOwn, LeavesPlaces, IsAccount}
use Rattle.nvme_log.specs.Laws.{StartsWithAdmin}
use Rattle.nvme_log.specs.Examples.{two_slots, at_admin, four_commands, four_completions, two_slots_past, admin_posted, get_arbitration, at_two, one_deletion, create_cq, create_sq, delete_sq, admin_script, reads, read, admin_done, reads_done, deleted}

pub true_or_false : (b : Bool) → (b ≡ true) ⊎ (b ≡ false)
true_or_false true = inl refl
true_or_false false = inr refl

fetched_two : (r : ℕ) → IsPrefix (fetched (two_slots_past (admin_posted 3 false)) r) (at_admin four_commands r)
fetched_two r = ⊎_elim (λ (e : (0 == r) ≡ true). rw e ([], refl)) (λ (e : (0 == r) ≡ false). rw e ([], refl)) (true_or_false (0 == r))

collected_two : (c : ℕ) → IsPrefix (at_admin four_completions c) (posted_to (two_slots_past (admin_posted 3 false)) c)
collected_two c = ⊎_elim (λ (e : (0 == c) ≡ true). rw e ([], refl)) (λ (e : (0 == c) ≡ false). rw e ([], refl)) (true_or_false (0 == c))

indexes_two : Each IndexCounts (two_slots_past (admin_posted 3 false))
indexes_two = search rules

served_two : Each (ServedWhileOpen two_slots) (two_slots_past (admin_posted 3 false))
unfolding effects_of queue_table
served_two = search rules

observed_two : Each Observed (two_slots_past (admin_posted 3 false))
observed_two = search rules

effects_two : Each (EffectsAtOnce two_slots) (two_slots_past (admin_posted 3 false))
unfolding effects_of queue_table status_of dw0_of verdict_of
effects_two = search rules

whole_two : effects_since (two_slots_past (admin_posted 3 false)) ≡ made_last two_slots (two_slots_past (admin_posted 3 false))
unfolding effects_of queue_table status_of dw0_of verdict_of
whole_two = refl

deletes_two : Each Deletes (two_slots_past (admin_posted 3 false))
deletes_two = search rules

places_two : Each (LeavesPlaces two_slots) (two_slots_past (admin_posted 3 false))
unfolding effects_of queue_table
places_two = search rules

posts_two : Each (PostsOwn two_slots) (two_slots_past (admin_posted 3 false))
unfolding effects_of queue_table status_of dw0_of verdict_of
posts_two = (
  (refl, refl, record { entry = get_arbitration 3; is_there = refl; region = refl; sqid = refl; cid = refl; status = refl; dw0 = refl; sqhd = refl; phase = refl }),
  (
    tt,
    (
      (refl, refl, record { entry = get_arbitration 2; is_there = refl; region = refl; sqid = refl; cid = refl; status = refl; dw0 = refl; sqhd = refl; phase = refl }),
      (
        tt,
        (
          (refl, refl, record { entry = get_arbitration 1; is_there = refl; region = refl; sqid = refl; cid = refl; status = refl; dw0 = refl; sqhd = refl; phase = refl }),
          (
            tt,
            (
              (refl, refl, record { entry = get_arbitration 0; is_there = refl; region = refl; sqid = refl; cid = refl; status = refl; dw0 = refl; sqhd = refl; phase = refl }),
              (
                tt,
                (
                  tt,
                  (
                    tt,
                    (
                      tt,
                      (
                        tt,
                        tt,
                      ),
                    ),
                  ),
                ),
              ),
            ),
          ),
        ),
      ),
    ),
  ),
)

wrong_phase : Each (PostsOwn two_slots) (two_slots_past (admin_posted 3 true)) → ⊥
unfolding effects_of queue_table status_of dw0_of verdict_of
wrong_phase h = let e : true ≡ false = h.0.2.phase in cc e

lawful_two : IsLawfulRun two_slots.mechanism two_slots.start.settings (arbitration_of (two_slots_past (admin_posted 3 false)))
lawful_two = search rules

pub two_slots_account : IsAccount two_slots (at_admin four_commands) (two_slots_past (admin_posted 3 false)) (at_admin four_completions)
two_slots_account = record {
  fetched_in_order = fetched_two;
  indexes_count = indexes_two;
  served_while_open = served_two;
  observed = observed_two;
  effects_at_once = effects_two;
  effects_whole = whole_two;
  deletes = deletes_two;
  posts_own = posts_two;
  leaves_places = places_two;
  lawful = lawful_two;
  collected_in_order = collected_two;
}

pub two_slots_wrong_phase : Each (PostsOwn two_slots) (two_slots_past (admin_posted 3 true)) → ⊥
two_slots_wrong_phase = wrong_phase

-- ---- the deletion
fetched_all : (r : ℕ) → IsPrefix (fetched deleted r) (at_two admin_script reads r)
fetched_all r = ⊎_elim (λ (e : (0 == r) ≡ true). let s : 0 ≡ r = eqb-true 0 r e in subst (λ (z : ℕ). IsPrefix (fetched deleted z) (at_two admin_script reads z)) s ([], refl))
    (λ (e : (0 == r) ≡ false). ⊎_elim (λ (f : (1 == r) ≡ true). let s : 1 ≡ r = eqb-true 1 r f in subst (λ (z : ℕ). IsPrefix (fetched deleted z) (at_two admin_script reads z)) s ([], refl))
    (λ (f : (1 == r) ≡ false). rw (e, f) ([], refl)) (true_or_false (1 == r))) (true_or_false (0 == r))

collected_all : (c : ℕ) → IsPrefix (at_two admin_done reads_done c) (posted_to deleted c)
collected_all c = ⊎_elim (λ (e : (0 == c) ≡ true). let s : 0 ≡ c = eqb-true 0 c e in subst (λ (z : ℕ). IsPrefix (at_two admin_done reads_done z) (posted_to deleted z)) s ([], refl))
    (λ (e : (0 == c) ≡ false). ⊎_elim (λ (f : (1 == c) ≡ true). let s : 1 ≡ c = eqb-true 1 c f in subst (λ (z : ℕ). IsPrefix (at_two admin_done reads_done z) (posted_to deleted z)) s ([], refl))
    (λ (f : (1 == c) ≡ false). rw (e, f) ([], refl)) (true_or_false (1 == c))) (true_or_false (0 == c))

indexes_all : Each IndexCounts deleted
indexes_all = search rules

served_all : Each (ServedWhileOpen one_deletion) deleted
unfolding effects_of queue_table
served_all = search rules

observed_all : Each Observed deleted
observed_all = search rules

effects_all : Each (EffectsAtOnce one_deletion) deleted
unfolding effects_of queue_table status_of dw0_of verdict_of
effects_all =
    (refl, (refl, (refl, (refl, (refl, (([], refl), ((Abort 1 2 ∷ [], refl), ((Abort 1 1 ∷ Abort 1 2 ∷ [], refl), (refl, (refl, (refl, (refl, (refl, (refl, (([], refl), (refl, (refl, (([], refl), (refl, (refl, (refl, (refl, tt))))))))))))))))))))))

effects_are_whole : effects_since deleted ≡ made_last one_deletion deleted
unfolding effects_of queue_table status_of dw0_of verdict_of
effects_are_whole = refl

deletes_all : Each Deletes deleted
deletes_all = search rules

places_all : Each (LeavesPlaces one_deletion) deleted
unfolding effects_of queue_table
places_all = search rules

posts_all : Each (PostsOwn one_deletion) deleted
unfolding effects_of queue_table status_of dw0_of verdict_of
posts_all = (
  (refl, refl, record { entry = delete_sq; is_there = refl; region = refl; sqid = refl; cid = refl; status = refl; dw0 = refl; sqhd = refl; phase = refl }),
  (
    tt,
    (
      (refl, refl, record { entry = read 0; is_there = refl; region = refl; sqid = refl; cid = refl; status = refl; dw0 = refl; sqhd = refl; phase = refl }),
      (
        (refl, refl, record { entry = read 2; is_there = refl; region = refl; sqid = refl; cid = refl; status = refl; dw0 = refl; sqhd = refl; phase = refl }),
        (
          (refl, refl, record { entry = read 1; is_there = refl; region = refl; sqid = refl; cid = refl; status = refl; dw0 = refl; sqhd = refl; phase = refl }),
          (
            tt,
            (
              tt,
              (
                tt,
                (
                  tt,
                  (
                    tt,
                    (
                      tt,
                      (
                        tt,
                        (
                          tt,
                          (
                            (refl, refl, record { entry = create_sq; is_there = refl; region = refl; sqid = refl; cid = refl; status = refl; dw0 = refl; sqhd = refl; phase = refl }),
                            (
                              tt,
                              (
                                tt,
                                (
                                  (refl, refl, record { entry = create_cq; is_there = refl; region = refl; sqid = refl; cid = refl; status = refl; dw0 = refl; sqhd = refl; phase = refl }),
                                  (
                                    tt,
                                    (
                                      tt,
                                      (
                                        tt,
                                        (
                                          tt,
                                          (
                                            tt,
                                            tt,
                                          ),
                                        ),
                                      ),
                                    ),
                                  ),
                                ),
                              ),
                            ),
                          ),
                        ),
                      ),
                    ),
                  ),
                ),
              ),
            ),
          ),
        ),
      ),
    ),
  ),
)

lawful_all : IsLawfulRun one_deletion.mechanism one_deletion.start.settings (arbitration_of deleted)
lawful_all = search rules

pub deletion_account : IsAccount one_deletion (at_two admin_script reads) deleted (at_two admin_done reads_done)
deletion_account = record {
  fetched_in_order = fetched_all;
  indexes_count = indexes_all;
  served_while_open = served_all;
  observed = observed_all;
  effects_at_once = effects_all;
  effects_whole = effects_are_whole;
  deletes = deletes_all;
  posts_own = posts_all;
  leaves_places = places_all;
  lawful = lawful_all;
  collected_in_order = collected_all;
}

pub deletion_starts : StartsWithAdmin one_deletion
unfolding effects_of queue_table
deletion_starts = record {
  sq = λ q. ⊎_elim (λ (e : (q == 0) ≡ true). rw e refl) (λ (e : (q == 0) ≡ false). rw e refl) (true_or_false (q == 0));
  cq = λ q. ⊎_elim (λ (e : (q == 0) ≡ true). rw e refl) (λ (e : (q == 0) ≡ false). rw e refl) (true_or_false (q == 0));
}
