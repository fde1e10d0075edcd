-- How a front that was loaded stays so: where only posts came, and where events came that are neither fetches nor picks.
use Rattle.std.proofs.Common.{◌≡◌, ℕ, ◌<◌, ◌≤◌, ◌||◌, Bool, true, false, nat_le, List, [], ◌∷◌, ◌++◌, map, length, get_or, Option, Some, None, refl, sym, ap, ◌∙◌, subst, arith, inl, inr, ⊎_elim, reverse, length-append}
use mathlib.Core.List.{IsPrefix}
use Rattle.std.proofs.lemmas.List.{append-nil, append_assoc, length-map, reverse-append, get_or_past}
use Rattle.std.proofs.lemmas.Bool.{cases_lt, le-leb}
use Rattle.nvme_entry.specs.declared.submission.Sqe.{Sqe}
use Rattle.nvme_lane.specs.View.{GetView}
use Rattle.nvme_log.specs.declared.event.Event.{Event}
use Rattle.nvme_log.specs.declared.event.Event.TheVariants.{Fetch}
use Rattle.nvme_log.specs.Rules.{FrontRules, Past, Each, window_at}
use Rattle.nvme_log.specs.Queues.{Queue, open_sq, pending}
use Rattle.nvme_log.specs.Places.{fetched, waiting}
use Rattle.nvme_log.specs.Loaded.{without_posts, is_filled, FilledBefore, FetchesLast, LoadedSoFar}
use Rattle.nvme_log.proofs.Prefixes.{fetched-after}
use Rattle.nvme_log.proofs.Tables.{with_events}
use Rattle.nvme_log.proofs.WithoutPosts.{loaded-account, pending-posts}
use Rattle.nvme_log.proofs.LoadedTurns.{AreOther, EndsNoFetch, ends-others, last-others, filled-others}
use Rattle.nvme_front.specs.declared.region.SqRegion.{SqRegion}
use Rattle.nvme_front.specs.declared.state.FrontState.{FrontState}
use Rattle.nvme_front.specs.inside.State.{rules_of, past_of, gets_of, view_of}
use Rattle.nvme_front.specs.inside.Room.{IsConsistent}
use Rattle.nvme_front.specs.inside.Goes.{Goes, IsSame, HasAdmin, IsScanned}
use Rattle.nvme_front.specs.View.{FrontView, past_in, got_in, known_in}
use Rattle.nvme_front.specs.LoadedFront.{FilledBelow, IsLoadedFront, GotWithin}
use Rattle.nvme_front.specs.inside.Loads.{PostsOnly, Loads}
use Rattle.nvme_front.proofs.States.{past-push, rules-goes}
use Rattle.nvme_front.proofs.Ended.{fetched_all}
use Rattle.nvme_front.proofs.EndsSeen.{accounts_for_ends}
use Rattle.nvme_front.proofs.RunningFacts.{open_there}

pub posts-trans : (a b c : FrontState) → PostsOnly a b → PostsOnly b c → PostsOnly a c
posts-trans a b c g h = record { gets = h.gets ∙ g.gets; log = h.log ∙ g.log }

-- nor where the log and the ends are the same
pub posts-by : (a b : FrontState) → b.log.items ≡ a.log.items → b.sqs.items ≡ a.sqs.items → PostsOnly a b
posts-by a b log sqs = record { gets = ap gets_of sqs; log = ap (λ (xs : List Event). without_posts (reverse xs)) log }

-- or nothing changed
pub posts-same : (a b : FrontState) → IsSame a b → PostsOnly a b
posts-same a b same = posts-by a b same.log same.sqs

-- so the same deletion is pending
pub posts-pending : (a b : FrontState) → PostsOnly a b → pending (past_of b) ≡ pending (past_of a)
posts-pending a b posts = sym (pending-posts (past_of b)) ∙ ap pending posts.log ∙ pending-posts (past_of a)

-- and a loaded front is one still
pub posts-load : (a b : FrontState) → Goes a b → PostsOnly a b → Loads a b
posts-load a b goes posts = λ scripts within h.
    let rules = rules-goes a b goes in record {
      not_late = goes.late ∙ h.not_late;
      so_far = subst (λ (r : FrontRules). LoadedSoFar r scripts (without_posts (past_of b))) (sym rules)
          (subst (LoadedSoFar (rules_of a) scripts) (sym posts.log) h.so_far);
      scripts_are = subst (λ (gets : List (GetView Sqe)). (r : ℕ) → r < length gets
          → get_or (map (λ (g : GetView Sqe). g.got) gets) r [] ++ get_or (map (λ (g : GetView Sqe). g.known) gets) r [] ≡ scripts r) (sym posts.gets) h.scripts_are;
      below_filled = subst (λ (r : FrontRules). FilledBelow r scripts (without_posts (past_of b))) (sym rules)
          (subst (FilledBelow (rules_of a) scripts) (sym posts.log) h.below_filled);
    }

-- ---- one step after another
-- no more was got before than later
pub within-before : (a b : FrontState) → IsConsistent a → IsConsistent b → Goes a b → (scripts : ℕ → List Sqe) → GotWithin scripts (view_of b) → GotWithin scripts (view_of a)
within-before a b kept kept' goes scripts within = λ r.
    let later : reverse goes.grew.0 ++ past_of a ≡ past_of b = sym (reverse-append a.log.items goes.grew.0) ∙ ap reverse goes.grew.1 in
    let more = fetched-after (reverse goes.grew.0) (past_of a) r in
    let longer : length (fetched (past_of a) r) ≤ length (fetched (past_of b) r) =
    subst (λ (p : Past). length (fetched (past_of a) r) ≤ length (fetched p r)) later
    (omega (arith, ap length more.1, length-append (fetched (past_of a) r) more.0)) in
    omega (arith, longer, within r, ap length (fetched_all a kept r), ap length (fetched_all b kept' r))

-- so two steps keep a loaded front where each does
pub loads-trans : (a b c : FrontState) → IsConsistent b → IsConsistent c → Goes b c → Loads a b → Loads b c → Loads a c
loads-trans a b c kept kept' goes first second = λ scripts within h.
    second scripts within (first scripts (within-before b c kept kept' goes scripts within) h)

-- ---- what makes a loaded front
-- what was got begins the script
pub got-begins : (v : FrontView) (scripts : ℕ → List Sqe) → ((r : ℕ) → r < length v.gets → got_in v r ++ known_in v r ≡ scripts r) → (r : ℕ) → IsPrefix (got_in v r) (scripts r)
got-begins v scripts are r = elim (cases_lt r (length v.gets)) [
  | inl there ↦ (known_in v r, are r there)
  | inr beyond ↦
      let none : got_in v r ≡ [] = get_or_past (map (λ (g : GetView Sqe). g.got) v.gets) r [] (omega (arith, beyond, length-map v.gets (λ (g : GetView Sqe). g.got))) in
      (scripts r, ap (λ (xs : List Sqe). xs ++ scripts r) none)
]

-- a kept front is loaded where its picks and fetches came in turn
pub loaded-by : (s : FrontState) → IsConsistent s → HasAdmin s → s.late ≡ false → (scripts : ℕ → List Sqe)
    → ((r : ℕ) → r < length (gets_of s.sqs.items) → got_in (view_of s) r ++ known_in (view_of s) r ≡ scripts r)
    → Each (FilledBefore (rules_of s) scripts) (without_posts (past_of s)) → Each FetchesLast (without_posts (past_of s))
    → FilledBelow (rules_of s) scripts (without_posts (past_of s)) → IsLoadedFront scripts (view_of s)
loaded-by s kept admin late scripts are filled last below =
    let ends = accounts_for_ends s kept admin late in record {
      not_late = late;
      so_far = loaded-account (rules_of s) (got_in (view_of s)) scripts (past_of s) _ ends.account
          (λ r. subst (λ (xs : List Sqe). IsPrefix xs (scripts r)) (sym (ends.all_fetched r)) (got-begins (view_of s) scripts are r)) filled last;
      scripts_are = are;
      below_filled = below;
    }

-- so is a front with no event, where what rests in its rings is known to be the scripts
pub loaded-at-start : (scripts : ℕ → List Sqe) (v : FrontView) → v.late ≡ false → v.log ≡ []
    → ((r : ℕ) → r < length v.gets → got_in v r ++ known_in v r ≡ scripts r) → IsLoadedFront scripts v
loaded-at-start scripts v late empty are =
    let none : [] ≡ without_posts (past_in v) = sym (ap (λ (xs : List Event). without_posts (reverse xs)) empty) in
    record {
      not_late = late;
      so_far = subst (LoadedSoFar v.rules scripts) none (record {
        no_post = tt;
        fetched_in_order = λ r. (scripts r, refl);
        indexes_count = tt;
        served_while_open = tt;
        observed = tt;
        effects_at_once = tt;
        lawful = tt;
        filled_before = tt;
        fetches_last = tt;
        closed_at_once = tt;
        nothing_after_closed = tt;
      });
      scripts_are = are;
      below_filled = subst (FilledBelow v.rules scripts) none tt;
    }

-- ---- events that are neither fetches nor picks
-- nothing is said of the queues where the newest event is no fetch
below-none : (rules : FrontRules) (scripts : ℕ → List Sqe) (past : Past) → EndsNoFetch past → FilledBelow rules scripts past
below-none rules scripts [] none = tt
below-none rules scripts (Fetch r i entry ∷ past) none = absurd none
below-none rules scripts (e ∷ past) none = tt

-- the log backwards, after events
pub past-later : (es xs : List Event) → reverse (xs ++ es) ≡ with_events es (reverse xs)
past-later [] xs = ap reverse (append-nil xs)
past-later (e ∷ es) xs = ap reverse (sym (append_assoc xs (e ∷ []) es)) ∙ past-later es (xs ++ e ∷ []) ∙ ap (with_events es) (past-push xs e)

-- they come behind events of which the newest is no fetch, and leave the ends
pub others-load : (a b : FrontState) → IsConsistent b → HasAdmin b → Goes a b → gets_of b.sqs.items ≡ gets_of a.sqs.items → (scripts : ℕ → List Sqe) → IsLoadedFront scripts (view_of a)
    → (es : List Event) (base : Past) → past_of b ≡ with_events es base → AreOther es → EndsNoFetch (without_posts base)
    → Each (FilledBefore (rules_of a) scripts) (without_posts base) → Each FetchesLast (without_posts base) → IsLoadedFront scripts (view_of b)
others-load a b kept admin goes gets scripts h es base past others none filled last =
    loaded-by b kept admin (goes.late ∙ h.not_late) scripts
    (subst (λ (gets : List (GetView Sqe)). (r : ℕ) → r < length gets
    → get_or (map (λ (g : GetView Sqe). g.got) gets) r [] ++ get_or (map (λ (g : GetView Sqe). g.known) gets) r [] ≡ scripts r) (sym gets) h.scripts_are)
    (subst (λ (r : FrontRules). Each (FilledBefore r scripts) (without_posts (past_of b))) (sym (rules-goes a b goes))
    (subst (λ (p : Past). Each (FilledBefore (rules_of a) scripts) (without_posts p)) (sym past) (filled-others (rules_of a) scripts es base others filled)))
    (subst (λ (p : Past). Each FetchesLast (without_posts p)) (sym past) (last-others es base others none last))
    (below-none (rules_of b) scripts (without_posts (past_of b))
    (subst (λ (p : Past). EndsNoFetch (without_posts p)) (sym past) (ends-others es base others none)))

-- ---- queues that were scanned
-- a queue that was scanned is filled, where what was got and is known to come is the script
pub scanned-filled : (s : FrontState) → IsConsistent s → HasAdmin s → (scripts : ℕ → List Sqe)
    → ((r : ℕ) → r < length (gets_of s.sqs.items) → got_in (view_of s) r ++ known_in (view_of s) r ≡ scripts r)
    → (q : ℕ) → IsScanned s q → is_filled (rules_of s) scripts (past_of s) (open_sq (past_of s) q) ≡ true
scanned-filled s kept admin scripts are q scanned = by (open_sq (past_of s) q) refl where
  either : (a b : Bool) → b ≡ true → (a || b) ≡ true
  either true b e = refl
  either false b e = e

  by : (o : Option Queue) → open_sq (past_of s) q ≡ o → is_filled (rules_of s) scripts (past_of s) o ≡ true
  by None is = refl
  by (Some queue) is =
      let r : ℕ = queue.region in
      let there : r < length s.sqs.items = (open_there s (kept.running admin) q queue is).1 in
      ⊎_elim
      (λ full. either (nat_le (length (scripts r)) (length (fetched (past_of s) r))) (nat_le (window_at (rules_of s) r) (length (waiting (past_of s) r)))
      (le-leb (window_at (rules_of s) r) (length (waiting (past_of s) r)) full.0))
      (λ none.
      let whole : length (scripts r) ≡ length (fetched (past_of s) r) =
      ap length (sym (are r (omega (arith, there, length-map s.sqs.items (λ (x : SqRegion). x.end)))) ∙ ap (λ (xs : List Sqe). got_in (view_of s) r ++ xs) none
      ∙ append-nil (got_in (view_of s) r) ∙ sym (fetched_all s kept r)) in
      ap (λ (b : Bool). b || nat_le (window_at (rules_of s) r) (length (waiting (past_of s) r)))
      (le-leb (length (scripts r)) (length (fetched (past_of s) r)) (omega (arith, whole))))
      (scanned queue is)
