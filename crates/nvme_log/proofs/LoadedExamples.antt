-- The worked loaded logs are loaded.
use Rattle.std.proofs.Common.{◌≡◌, ℕ, ◌==◌, Bool, true, false, if◌then◌else◌, List, [], ◌∷◌, Option, Some, None, refl, sym, ⊎_elim, rules, subst}
use Rattle.std.specs.Prelude.{MatchOption}
use Rattle.std.proofs.lemmas.Bool.{eqb-true, eqb-false, ne_eqb}
use mathlib.Core.List.{IsPrefix}
use Rattle.nvme_entry.specs.declared.submission.Sqe.{Sqe}
use Rattle.nvme_arbiter.specs.Lawful.{IsLawfulRun}
use Rattle.nvme_admin.specs.Accepted.{effects_of, queue_table, status_of, dw0_of, verdict_of}
use Rattle.nvme_log.specs.declared.event.Event.TheVariants.{Abort}
use Rattle.nvme_log.specs.Rules.{Past, FrontRules, Each}
use Rattle.nvme_log.specs.Queues.{Queue, admin_queue, open_sq}
use Rattle.nvme_log.specs.Places.{fetched, waiting}
use Rattle.nvme_log.specs.Histories.{arbitration_of}
use Rattle.nvme_log.specs.Effects.{EffectsAtOnce, effects_since, made_last}
use Rattle.nvme_log.specs.Account.{IndexCounts, ServedWhileOpen, Observed}
use Rattle.nvme_log.specs.Loaded.{IsNoPost, without_posts, are_filled, FilledBefore, FetchesLast, ClosedAtOnce, NothingAfterClosed, IsLoadedLog}
use Rattle.nvme_log.specs.Examples.{at_two, one_deletion, admin_script, reads, deleted}
use Rattle.nvme_log.specs.AbortExamples.{two_aborts, reads_and, both_told}
use Rattle.nvme_log.specs.LoadedExamples.{no_scripts, small_windows, small_script, small_closed}
use Rattle.nvme_log.proofs.ExampleLogs.{true_or_false}

-- no candidate of a queue waits
abbrev NoneOf : Past → Option Queue → Type 0
NoneOf past o = MatchOption o (Unit {0}) (λ queue. waiting past queue.region ≡ [])

-- what is so of 0, of 1 and of each other number
by_number : (P : ℕ → Type 0) → P 0 → P 1 → ((r : ℕ) → (0 == r) ≡ false → (1 == r) ≡ false → P r) → (r : ℕ) → P r
by_number P zero one others r = ⊎_elim (λ (e : (0 == r) ≡ true). subst P (eqb-true 0 r e) zero)
    (λ (e : (0 == r) ≡ false). ⊎_elim (λ (f : (1 == r) ≡ true). subst P (eqb-true 1 r f) one) (λ (f : (1 == r) ≡ false). others r e f) (true_or_false (1 == r)))
    (true_or_false (0 == r))

-- a test for 0, turned
turned : (q : ℕ) → (0 == q) ≡ false → (q == 0) ≡ false
turned q e = ne_eqb q 0 (λ same. eqb-false 0 q e (sym same))

-- ---- small windows
fetched_small : (r : ℕ) → IsPrefix (fetched small_closed r) (at_two small_script reads r)
fetched_small = by_number (λ (r : ℕ). IsPrefix (fetched small_closed r) (at_two small_script reads r)) ([], refl) ([], refl) (λ r e f. rw (e, f) ([], refl))

indexes_small : Each IndexCounts small_closed
indexes_small = search rules

served_small : Each (ServedWhileOpen small_windows) small_closed
unfolding effects_of queue_table
served_small = search rules

observed_small : Each Observed small_closed
observed_small = search rules

effects_small : Each (EffectsAtOnce small_windows) small_closed
unfolding effects_of queue_table status_of dw0_of verdict_of
effects_small =
    (refl, (([], refl), ((Abort 1 2 ∷ [], refl), ((Abort 1 1 ∷ Abort 1 2 ∷ [], refl), (refl, (refl, (refl, (refl, (refl, (refl, (([], refl), (refl, (refl, (([], refl), (refl, (refl, tt))))))))))))))))

lawful_small : IsLawfulRun small_windows.mechanism small_windows.start.settings (arbitration_of small_closed)
lawful_small = search rules

filled_before_small : Each (FilledBefore small_windows (at_two small_script reads)) small_closed
unfolding effects_of queue_table
filled_before_small = search rules

fetches_last_small : Each FetchesLast small_closed
fetches_last_small = search rules

closed_at_once_small : Each ClosedAtOnce small_closed
closed_at_once_small = search rules

after_closed_small : Each NothingAfterClosed small_closed
after_closed_small = search rules

effects_whole_small : effects_since small_closed ≡ made_last small_windows small_closed
unfolding effects_of queue_table status_of dw0_of verdict_of
effects_whole_small = refl

filled_small : are_filled small_windows (at_two small_script reads) small_closed ≡ true
unfolding effects_of queue_table
filled_small = refl

none_waits_small : (q : ℕ) → NoneOf small_closed (open_sq small_closed q)
none_waits_small = by_number (λ (q : ℕ). NoneOf small_closed (open_sq small_closed q)) refl tt (λ q e f. rw (turned q e, f) tt)

pub small_loaded : IsLoadedLog small_windows (at_two small_script reads) small_closed
small_loaded = record {
  so_far = record {
    no_post = search rules;
    fetched_in_order = fetched_small;
    indexes_count = indexes_small;
    served_while_open = served_small;
    observed = observed_small;
    effects_at_once = effects_small;
    lawful = lawful_small;
    filled_before = filled_before_small;
    fetches_last = fetches_last_small;
    closed_at_once = closed_at_once_small;
    nothing_after_closed = after_closed_small;
  };
  at_end = record {
    effects_whole = effects_whole_small;
    filled = filled_small;
    none_pending = refl;
    none_waits = none_waits_small;
  };
}

-- ---- a deletion while two commands wait
fetched_deletion : (r : ℕ) → IsPrefix (fetched (without_posts deleted) r) (at_two admin_script reads r)
fetched_deletion = by_number (λ (r : ℕ). IsPrefix (fetched (without_posts deleted) r) (at_two admin_script reads r)) ([], refl) ([], refl) (λ r e f. rw (e, f) ([], refl))

no_post_deletion : Each IsNoPost (without_posts deleted)
no_post_deletion = search rules

indexes_deletion : Each IndexCounts (without_posts deleted)
indexes_deletion = search rules

served_deletion : Each (ServedWhileOpen one_deletion) (without_posts deleted)
unfolding effects_of queue_table
served_deletion = search rules

observed_deletion : Each Observed (without_posts deleted)
observed_deletion = search rules

effects_deletion : Each (EffectsAtOnce one_deletion) (without_posts deleted)
unfolding effects_of queue_table status_of dw0_of verdict_of
effects_deletion =
    (refl, (([], refl), ((Abort 1 2 ∷ [], refl), ((Abort 1 1 ∷ Abort 1 2 ∷ [], refl), (refl, (refl, (refl, (refl, (refl, (([], refl), (refl, (([], refl), (refl, (refl, (refl, (refl, tt))))))))))))))))

lawful_deletion : IsLawfulRun one_deletion.mechanism one_deletion.start.settings (arbitration_of (without_posts deleted))
lawful_deletion = search rules

filled_before_deletion : Each (FilledBefore one_deletion (at_two admin_script reads)) (without_posts deleted)
unfolding effects_of queue_table
filled_before_deletion = search rules

fetches_last_deletion : Each FetchesLast (without_posts deleted)
fetches_last_deletion = search rules

closed_at_once_deletion : Each ClosedAtOnce (without_posts deleted)
closed_at_once_deletion = search rules

after_closed_deletion : Each NothingAfterClosed (without_posts deleted)
after_closed_deletion = search rules

effects_whole_deletion : effects_since (without_posts deleted) ≡ made_last one_deletion (without_posts deleted)
unfolding effects_of queue_table status_of dw0_of verdict_of
effects_whole_deletion = refl

filled_deletion : are_filled one_deletion (at_two admin_script reads) (without_posts deleted) ≡ true
unfolding effects_of queue_table
filled_deletion = refl

none_waits_deletion : (q : ℕ) → NoneOf (without_posts deleted) (open_sq (without_posts deleted) q)
none_waits_deletion = by_number (λ (q : ℕ). NoneOf (without_posts deleted) (open_sq (without_posts deleted) q)) refl tt (λ q e f. rw (turned q e, f) tt)

pub deletion_loaded : IsLoadedLog one_deletion (at_two admin_script reads) (without_posts deleted)
deletion_loaded = record {
  so_far = record {
    no_post = no_post_deletion;
    fetched_in_order = fetched_deletion;
    indexes_count = indexes_deletion;
    served_while_open = served_deletion;
    observed = observed_deletion;
    effects_at_once = effects_deletion;
    lawful = lawful_deletion;
    filled_before = filled_before_deletion;
    fetches_last = fetches_last_deletion;
    closed_at_once = closed_at_once_deletion;
    nothing_after_closed = after_closed_deletion;
  };
  at_end = record {
    effects_whole = effects_whole_deletion;
    filled = filled_deletion;
    none_pending = refl;
    none_waits = none_waits_deletion;
  };
}

-- ---- two Abort commands, of which the second finds nothing
module _ (third : ℕ) where
  fetched_aborts : (r : ℕ) → IsPrefix (fetched (without_posts (both_told third)) r) (at_two two_aborts (reads_and third) r)
  fetched_aborts = by_number (λ (r : ℕ). IsPrefix (fetched (without_posts (both_told third)) r) (at_two two_aborts (reads_and third) r)) ([], refl) ([], refl) (λ r e f. rw (e, f) ([], refl))

  no_post_aborts : Each IsNoPost (without_posts (both_told third))
  no_post_aborts = search rules

  indexes_aborts : Each IndexCounts (without_posts (both_told third))
  indexes_aborts = search rules

  served_aborts : Each (ServedWhileOpen one_deletion) (without_posts (both_told third))
  unfolding effects_of queue_table
  served_aborts = search rules

  observed_aborts : Each Observed (without_posts (both_told third))
  observed_aborts = search rules

  effects_aborts : Each (EffectsAtOnce one_deletion) (without_posts (both_told third))
  unfolding effects_of queue_table status_of dw0_of verdict_of
  effects_aborts = (refl, (refl, (([], refl), (refl, (refl, (refl, (refl, (refl, (([], refl), (refl, (([], refl), (refl, (refl, (refl, (refl, (refl, tt))))))))))))))))

  lawful_aborts : IsLawfulRun one_deletion.mechanism one_deletion.start.settings (arbitration_of (without_posts (both_told third)))
  lawful_aborts = search rules

  filled_before_aborts : Each (FilledBefore one_deletion (at_two two_aborts (reads_and third))) (without_posts (both_told third))
  unfolding effects_of queue_table
  filled_before_aborts = search rules

  fetches_last_aborts : Each FetchesLast (without_posts (both_told third))
  fetches_last_aborts = search rules

  closed_at_once_aborts : Each ClosedAtOnce (without_posts (both_told third))
  closed_at_once_aborts = search rules

  after_closed_aborts : Each NothingAfterClosed (without_posts (both_told third))
  after_closed_aborts = search rules

  effects_whole_aborts : effects_since (without_posts (both_told third)) ≡ made_last one_deletion (without_posts (both_told third))
  unfolding effects_of queue_table status_of dw0_of verdict_of
  effects_whole_aborts = refl

  filled_aborts : are_filled one_deletion (at_two two_aborts (reads_and third)) (without_posts (both_told third)) ≡ true
  unfolding effects_of queue_table
  filled_aborts = refl

  none_waits_aborts : (q : ℕ) → NoneOf (without_posts (both_told third)) (open_sq (without_posts (both_told third)) q)
  none_waits_aborts = by_number (λ (q : ℕ). NoneOf (without_posts (both_told third)) (open_sq (without_posts (both_told third)) q)) refl refl (λ q e f. rw (turned q e, f) tt)

  pub aborts_loaded : IsLoadedLog one_deletion (at_two two_aborts (reads_and third)) (without_posts (both_told third))
  aborts_loaded = record {
    so_far = record {
      no_post = no_post_aborts;
      fetched_in_order = fetched_aborts;
      indexes_count = indexes_aborts;
      served_while_open = served_aborts;
      observed = observed_aborts;
      effects_at_once = effects_aborts;
      lawful = lawful_aborts;
      filled_before = filled_before_aborts;
      fetches_last = fetches_last_aborts;
      closed_at_once = closed_at_once_aborts;
      nothing_after_closed = after_closed_aborts;
    };
    at_end = record {
      effects_whole = effects_whole_aborts;
      filled = filled_aborts;
      none_pending = refl;
      none_waits = none_waits_aborts;
    };
  }

-- ---- nothing is served
-- an empty log is loaded where each queue that is open at first is filled
none_loaded : (rules : FrontRules) (scripts : ℕ → List Sqe) → are_filled rules scripts [] ≡ true → IsLoadedLog rules scripts []
none_loaded rules scripts filled = record {
  so_far = record {
    no_post = tt;
    fetched_in_order = λ r. (scripts r, refl);
    indexes_count = tt;
    served_while_open = tt;
    observed = tt;
    effects_at_once = tt;
    lawful = tt;
    filled_before = tt;
    fetches_last = tt;
    closed_at_once = tt;
    nothing_after_closed = tt;
  };
  at_end = record {
    effects_whole = refl;
    filled = filled;
    none_pending = refl;
    none_waits = λ q. none_open q (q == 0);
  };
} where
  -- the admin queue alone is open, and nothing waits in it
  none_open : (q : ℕ) (b : Bool) → NoneOf [] (if b then Some admin_queue else None)
  none_open q true = refl
  none_open q false = tt

-- so it is where nothing is submitted
pub empty_loaded : (rules : FrontRules) → IsLoadedLog rules no_scripts []
empty_loaded rules = none_loaded rules no_scripts refl

-- and where nothing is submitted to the admin queue
pub unserved_loaded : IsLoadedLog one_deletion (at_two [] reads) []
unserved_loaded = none_loaded one_deletion (at_two [] reads) refl
