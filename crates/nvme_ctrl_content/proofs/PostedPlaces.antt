-- The posted places of a region, and how many places are unposted by them.
use Rattle.std.proofs.Common.{◌≡◌, ℕ, zero, suc, ◌+◌, ◌<◌, ◌≤◌, Bool, true, false, not, ◌&&◌, ◌||◌, nat_lt, ◌==◌, if◌then◌else◌, List, [], ◌∷◌, length, refl, sym, ap, ◌∙◌, subst, arith, ⊎_elim, All}
use Rattle.std.proofs.lemmas.Bool.{ltb-true, lt-ltb, and_parts, and_left, eqb-true, eq-eqb, cases_eq, cases_lt, or_right, or_cases, false_from_ne_true, false≢true}
use Rattle.std.proofs.lemmas.List.Elements.{filter_passes}
use Rattle.std.proofs.lemmas.List.Sums.{sum_by-cons}
use Rattle.std.specs.Prelude.{slice_index_or}
use Rattle.nvme_entry.specs.declared.completion.Cqe.{Cqe}
use Rattle.nvme_log.specs.declared.event.Event.TheVariants.{Abort, Post}
use Rattle.nvme_log.specs.declared.event.Event.TheVariants as event
use Rattle.nvme_ctrl_content.specs.Content.{Ready, Content}
use Rattle.nvme_arbiter.specs.declared.pick.Seen.{Seen}
use Rattle.nvme_arbiter.specs.declared.pick.Pick.{Pick}
use Rattle.nvme_log.specs.Rules.{Past, upto}
use Rattle.nvme_log.specs.Queues.{has_region, open_sq}
use Rattle.nvme_log.specs.Places.{fetched, places, waiting, picked, fate_of, is_waiting, is_picked, is_aborted, unaborted_below, one_if, is_served}
use Rattle.nvme_log.specs.declared.place.Place.{Place}
use Rattle.nvme_log.specs.Aborts.{is_abort_requested, is_aborted_with_queue}
use Rattle.nvme_log.specs.Completions.{is_posted, posts_of, takes_place, unposted_of}
use Rattle.nvme_log.specs.Laws.{count_of}
use Rattle.nvme_ctrl_content.specs.Standing.{HoldsReady, times_in}
use Rattle.nvme_ctrl_log.specs.Regions.{over_regions}
use Rattle.nvme_ctrl_log.proofs.AbortRequests.{requested_aborted}
use Rattle.nvme_log.proofs.Fates.{length-upto}
use Rattle.nvme_log.proofs.Posts.{posts_of-some}
use Rattle.nvme_log.proofs.Counting.{counts_add, counts_all, counts_less, fate_by, picked_among}
use Rattle.nvme_ctrl_log.proofs.OutstandingPlaces.{outstanding_of, aborts, count_one}

-- how many places of a region are posted
abbrev pub posted_places : Past → ℕ → ℕ
posted_places past r = count_of (λ (i : ℕ). is_posted past r i) (places past r)

-- and how many of those weren't aborted with their queue
abbrev pub posted_takers : Past → ℕ → ℕ
posted_takers past r = count_of (λ (i : ℕ). is_posted past r i && not (is_aborted_with_queue past r i)) (places past r)

-- how many places of a region Abort commands aborted
abbrev pub requested_places : Past → ℕ → ℕ
requested_places past r = count_of (λ (i : ℕ). is_abort_requested past r i) (places past r)

-- what is posted doesn't wait
abbrev pub PostedServed : Past → ℕ → Type 0
PostedServed past r = (i : ℕ) → is_posted past r i ≡ true → is_waiting (fate_of past r i) ≡ false

-- ---- places by their posts
-- of a region's places, those that wait, those that are unposted and those that are posted are all
pub unposted_by : (past : Past) (r : ℕ) → PostedServed past r → length (waiting past r) + unposted_of past r + posted_places past r ≡ length (fetched past r)
unposted_by past r h =
    let open_ones = counts_add (λ (i : ℕ). is_waiting (fate_of past r i)) (λ (i : ℕ). not (is_waiting (fate_of past r i)) && not (is_posted past r i))
    (λ (i : ℕ). not (is_posted past r i)) (λ (i : ℕ). parts (is_waiting (fate_of past r i)) (is_posted past r i) (h i)) (places past r) in
    let all = counts_all (λ (i : ℕ). is_posted past r i) (places past r) in
    let many = length-upto (length (fetched past r)) in
    omega (arith, open_ones, all, many) where
      parts : (w p : Bool) → (p ≡ true → w ≡ false) → one_if w + one_if (not w && not p) ≡ one_if (not p)
      parts true true k = absurd (cc (k refl))
      parts true false k = refl
      parts false true k = refl
      parts false false k = refl

-- as many places are picked as commands were
pub picked_are : (past : Past) (r n : ℕ) → picked past r ≤ unaborted_below past r n → count_of (λ (i : ℕ). is_picked (fate_of past r i)) (upto n) ≡ picked past r
picked_are past r n few =
    let least = picked_among (λ (i : ℕ). is_aborted past r i) (picked past r) n in
    omega (arith, least, few)

-- the picked places and those that wait are the unaborted ones
pub unaborted_are : (past : Past) (r n : ℕ) → count_of (λ (i : ℕ). is_picked (fate_of past r i)) (upto n) + count_of (λ (i : ℕ). is_waiting (fate_of past r i)) (upto n) ≡ unaborted_below past r n
unaborted_are past r n =
    counts_add (λ (i : ℕ). is_picked (fate_of past r i)) (λ (i : ℕ). is_waiting (fate_of past r i)) (λ (i : ℕ). not (is_aborted past r i))
    (λ (i : ℕ). parts (is_aborted past r i) (nat_lt (unaborted_below past r i) (picked past r))) (upto n) where
      parts : (a b : Bool) → one_if (is_picked (fate_by a b)) + one_if (is_waiting (fate_by a b)) ≡ one_if (not a)
      parts true b = refl
      parts false true = refl
      parts false false = refl

-- the outstanding places of a region, and the posted ones that weren't aborted with their queue, are its picked ones and those that Abort commands
-- aborted
pub outstanding_by : (past : Past) (r : ℕ) → PostedServed past r → picked past r ≤ unaborted_below past r (length (fetched past r))
    → outstanding_of past r + posted_takers past r ≡ picked past r + requested_places past r
outstanding_by past r h few =
    let unposted = counts_add (λ (i : ℕ). takes_place past r i && not (is_posted past r i)) (λ (i : ℕ). is_posted past r i && not (is_aborted_with_queue past r i))
    (λ (i : ℕ). takes_place past r i)
    (λ (i : ℕ). parts (is_aborted past r i) (nat_lt (unaborted_below past r i) (picked past r)) (is_posted past r i) (is_abort_requested past r i) (h i) (requested_aborted past r i))
    (places past r) in
    let takers = counts_add (λ (i : ℕ). is_picked (fate_of past r i)) (λ (i : ℕ). is_abort_requested past r i) (λ (i : ℕ). takes_place past r i)
    (λ (i : ℕ). either (is_aborted past r i) (nat_lt (unaborted_below past r i) (picked past r)) (is_abort_requested past r i) (requested_aborted past r i))
    (places past r) in
    let picks = picked_are past r (length (fetched past r)) few in
    omega (arith, unposted, takers, picks) where
      parts : (a b p q : Bool) → (p ≡ true → is_waiting (fate_by a b) ≡ false) → (q ≡ true → a ≡ true)
          → one_if ((is_picked (fate_by a b) || q) && not p) + one_if (p && not (a && not q)) ≡ one_if (is_picked (fate_by a b) || q)
      parts true b true true k l = refl
      parts true b true false k l = refl
      parts true b false true k l = refl
      parts true b false false k l = refl
      parts false b p true k l = absurd (false≢true (l refl))
      parts false true true false k l = refl
      parts false true false false k l = refl
      parts false false true false k l = absurd (cc (k refl))
      parts false false false false k l = refl

      either : (a b q : Bool) → (q ≡ true → a ≡ true) → one_if (is_picked (fate_by a b)) + one_if q ≡ one_if (is_picked (fate_by a b) || q)
      either true b true l = refl
      either true b false l = refl
      either false b true l = absurd (false≢true (l refl))
      either false true false l = refl
      either false false false l = refl

-- ---- what is posted doesn't wait
-- each part of a sum over regions is within it
pub over_regions_at : (f : ℕ → ℕ) (c n : ℕ) → c < n → f c ≤ over_regions f n
unfolding over_regions
over_regions_at f c zero lt = absurd (omega arith)
over_regions_at f c (suc n) lt =
    ⊎_elim (λ (same : c ≡ n). let here : f c ≡ f n = ap f same in omega (arith, here))
    (λ (other : c ≡ n → ⊥). let rest = over_regions_at f c n (omega arith) in omega (arith, rest))
    (cases_eq c n)

-- a place that was served doesn't wait
served_not_waiting : (b w : Bool) → 1 ≤ one_if (b && not w) → w ≡ false
served_not_waiting true true h = absurd (omega (arith, h))
served_not_waiting true false h = refl
served_not_waiting false w h = absurd (omega (arith, h))

-- where the ready completions stand, what is posted doesn't wait
pub posted_served : (past : Past) (k : Content) (hand : List Place) → HoldsReady past k hand → (r : ℕ) → PostedServed past r
posted_served past k hand h r i posted =
    let once = h.once r i in
    let some = posts_of-some past r i posted in
    served_not_waiting (nat_lt i (length (fetched past r))) (is_waiting (fate_of past r i)) (omega (arith, once, some))

-- a place stays served where it stays aborted or before enough picks
still_served : (a b a' b' : Bool) → (a ≡ true → a' ≡ true) → (b ≡ true → b' ≡ true) → is_waiting (fate_by a b) ≡ false → is_waiting (fate_by a' b') ≡ false
still_served true b true b' ha hb h = refl
still_served true b false b' ha hb h = absurd (cc (ha refl))
still_served false true true b' ha hb h = refl
still_served false true false true ha hb h = refl
still_served false true false false ha hb h = absurd (cc (hb refl))
still_served false false a' b' ha hb h = absurd (cc h)

-- fewer places and more picks keep a place before enough picks
still_first : (u u' p p' : ℕ) → u' ≤ u → p ≤ p' → nat_lt u p ≡ true → nat_lt u' p' ≡ true
still_first u u' p p' lu lp e = lt-ltb u' p' (omega (arith, ltb-true u p e))

-- a pick takes no place back
pub pick_served : (past : Past) (seen : List Seen) (pick : Pick) (r : ℕ) → PostedServed past r → PostedServed (event.Pick seen pick ∷ past) r
pick_served past seen pick r h i posted =
    still_served (is_aborted past r i) (nat_lt (unaborted_below past r i) (picked past r)) (is_aborted past r i)
    (nat_lt (unaborted_below past r i) (picked (event.Pick seen pick ∷ past) r)) (λ e. e)
    (still_first (unaborted_below past r i) (unaborted_below past r i) (picked past r) (picked (event.Pick seen pick ∷ past) r) (omega arith) (more (has_region r (open_sq past pick.qid))))
    (h i posted) where
      more : (b : Bool) → picked past r ≤ (if b then picked past r + pick.n else picked past r)
      more true = omega arith
      more false = omega arith

-- an abort takes no place back
pub abort_served : (past : Past) (r0 i0 r : ℕ) → PostedServed past r → PostedServed (Abort r0 i0 ∷ past) r
abort_served past r0 i0 r h i posted =
    still_served (is_aborted past r i) (nat_lt (unaborted_below past r i) (picked past r)) (is_aborted (Abort r0 i0 ∷ past) r i)
    (nat_lt (unaborted_below (Abort r0 i0 ∷ past) r i) (picked past r)) (λ e. or_right (r0 == r && i0 == i) (is_aborted past r i) e)
    (still_first (unaborted_below past r i) (unaborted_below (Abort r0 i0 ∷ past) r i) (picked past r) (picked past r)
    (counts_less (λ (k : ℕ). not (is_aborted (Abort r0 i0 ∷ past) r k)) (λ (k : ℕ). not (is_aborted past r k))
    (λ (k : ℕ). less (r0 == r && i0 == k) (is_aborted past r k)) (upto i))
    (omega arith))
    (h i posted) where
      less : (x a : Bool) → not (x || a) ≡ true → not a ≡ true
      less true a e = absurd (cc e)
      less false a e = e

-- aborts leave the posted places
pub aborts_posted : (r0 : ℕ) (is : List ℕ) (past : Past) (r : ℕ) → posted_places (aborts r0 is past) r ≡ posted_places past r
aborts_posted r0 [] past r = refl
aborts_posted r0 (i ∷ is) past r = aborts_posted r0 is (Abort r0 i ∷ past) r

-- aborts take no place back
pub aborts_served : (r0 : ℕ) (is : List ℕ) (past : Past) (r : ℕ) → PostedServed past r → PostedServed (aborts r0 is past) r
aborts_served r0 [] past r h = h
aborts_served r0 (i ∷ is) past r h = aborts_served r0 is (Abort r0 i ∷ past) r (abort_served past r0 i r h)

-- what waits has no post
pub waiting_unposted : (past : Past) (r : ℕ) → PostedServed past r → All (λ (i : ℕ). is_posted past r i ≡ false) (waiting past r)
waiting_unposted past r h k d lt =
    let i = slice_index_or (waiting past r) k d in
    let waits : is_waiting (fate_of past r i) ≡ true = filter_passes (λ (z : ℕ). is_waiting (fate_of past r z)) (places past r) k d lt in
    false_from_ne_true (is_posted past r i) (λ posted. false≢true (sym (h i posted) ∙ waits))

-- the place of a post, as one of a region
at_region : (past : Past) (r0 i0 r : ℕ) → is_posted past r0 i0 ≡ false → (r0 == r) ≡ true → is_posted past r i0 ≡ false
at_region past r0 i0 r none here = subst (λ (z : ℕ). is_posted past z i0 ≡ false) (eqb-true r0 r here) none

-- a first post of a fetched place counts it
pub post_places : (past : Past) (c r0 i0 r : ℕ) (cqe : Cqe) → i0 < length (fetched past r0) → is_posted past r0 i0 ≡ false
    → posted_places (Post c r0 i0 cqe ∷ past) r ≡ posted_places past r + (if r0 == r then 1 else 0)
post_places past c r0 i0 r cqe lt none =
    count_one (λ (i : ℕ). is_posted past r i) (λ (i : ℕ). is_posted (Post c r0 i0 cqe ∷ past) r i) (r0 == r) i0 (length (fetched past r))
    (λ here. subst (λ (z : ℕ). i0 < length (fetched past z)) (eqb-true r0 r here) lt) (at_region past r0 i0 r none)
    (λ (j : ℕ) apart. rw apart refl)
    ∙ ap (λ (z : ℕ). posted_places past r + z) (by (r0 == r)) where
      by : (b : Bool) → (if b then one_if ((b && i0 == i0) || is_posted past r i0) else 0) ≡ (if b then 1 else 0)
      by true = rw (eq-eqb i0 i0 refl) refl
      by false = refl

-- and among those that weren't aborted with their queue where it wasn't
pub post_takers : (past : Past) (c r0 i0 r : ℕ) (cqe : Cqe) → i0 < length (fetched past r0) → is_posted past r0 i0 ≡ false
    → posted_takers (Post c r0 i0 cqe ∷ past) r ≡ posted_takers past r + (if r0 == r then one_if (not (is_aborted_with_queue past r0 i0)) else 0)
post_takers past c r0 i0 r cqe lt none =
    count_one (λ (i : ℕ). is_posted past r i && not (is_aborted_with_queue past r i))
    (λ (i : ℕ). is_posted (Post c r0 i0 cqe ∷ past) r i && not (is_aborted_with_queue past r i))
    (r0 == r) i0 (length (fetched past r))
    (λ here. subst (λ (z : ℕ). i0 < length (fetched past z)) (eqb-true r0 r here) lt)
    (λ here. and_left (is_posted past r i0) (not (is_aborted_with_queue past r i0)) (at_region past r0 i0 r none here))
    (λ (j : ℕ) apart. rw apart refl)
    ∙ ap (λ (z : ℕ). posted_takers past r + z) (by (r0 == r) refl) where
      by : (b : Bool) → (r0 == r) ≡ b → (if b then one_if (((b && i0 == i0) || is_posted past r i0) && not (is_aborted_with_queue past r i0)) else 0)
          ≡ (if b then one_if (not (is_aborted_with_queue past r0 i0)) else 0)
      by true e = rw (eq-eqb i0 i0 refl, eqb-true r0 r e) refl
      by false e = refl

-- what is posted was served
pub post_served : (past : Past) (c r0 i0 r : ℕ) (cqe : Cqe) → is_waiting (fate_of past r0 i0) ≡ false → PostedServed past r → PostedServed (Post c r0 i0 cqe ∷ past) r
post_served past c r0 i0 r cqe served h i posted =
    ⊎_elim
    (λ (here : (r0 == r && i0 == i) ≡ true). let same = and_parts (r0 == r) (i0 == i) here in
    subst (λ (z : ℕ). is_waiting (fate_of past r z) ≡ false) (eqb-true i0 i same.1)
    (subst (λ (z : ℕ). is_waiting (fate_of past z i0) ≡ false) (eqb-true r0 r same.0) served))
    (λ (earlier : is_posted past r i ≡ true). h i earlier)
    (or_cases (r0 == r && i0 == i) (is_posted past r i) posted)

-- the place of a ready completion was fetched and served, and nothing of it is posted
pub record IsUnanswered (past : Past) (r i : ℕ) : Type 0 where
  pub was_fetched : i < length (fetched past r)
  pub was_served : is_waiting (fate_of past r i) ≡ false
  pub no_post : is_posted past r i ≡ false

-- a place that was served was fetched
served_once : (past : Past) (r i : ℕ) → 1 ≤ one_if (is_served past r i) → i < length (fetched past r)
served_once past r i h = by (nat_lt i (length (fetched past r))) refl where
  by : (b : Bool) → nat_lt i (length (fetched past r)) ≡ b → i < length (fetched past r)
  by true e = ltb-true i (length (fetched past r)) e
  by false e = absurd (zero_not_one (rw e at h)) where
    zero_not_one : 1 ≤ 0 → ⊥
    zero_not_one k = omega arith

-- the oldest ready completion is of such a place
pub ready_unanswered : (past : Past) (k : Content) (hand : List Place) → HoldsReady past k hand → (c : ℕ) (t : Ready) (rest : List Ready) → (k.cq c).ready ≡ t ∷ rest
    → IsUnanswered past t.place.region t.place.index
ready_unanswered past k hand h c t rest oldest =
    let first : times_in t.place.region t.place.index (t ∷ rest) ≡ one_if (t.place.region == t.place.region && t.place.index == t.place.index) + times_in t.place.region t.place.index rest =
    sum_by-cons (λ (z : Ready). one_if (z.place.region == t.place.region && z.place.index == t.place.index)) t rest in
    let here : one_if (t.place.region == t.place.region && t.place.index == t.place.index) ≡ 1 = rw (eq-eqb t.place.region t.place.region refl, eq-eqb t.place.index t.place.index refl) refl in
    let there : times_in t.place.region t.place.index (k.cq c).ready ≡ times_in t.place.region t.place.index (t ∷ rest) = ap (λ (z : List Ready). times_in t.place.region t.place.index z) oldest in
    let within : c < k.ncq =
    ⊎_elim (λ (lt : c < k.ncq). lt)
    (λ (le : k.ncq ≤ c). absurd (let none = h.none_beyond c le in cc))
    (cases_lt c k.ncq) in
    let part = over_regions_at (λ (z : ℕ). times_in t.place.region t.place.index (k.cq z).ready) c k.ncq within in
    let once = h.once t.place.region t.place.index in
    let some : 1 ≤ one_if (is_served past t.place.region t.place.index) = omega (arith, first, here, there, part, once) in
    let few : one_if (is_served past t.place.region t.place.index) ≤ 1 = at_most (is_served past t.place.region t.place.index) in
    let none : posts_of past t.place.region t.place.index ≡ 0 = omega (arith, first, here, there, part, once, few) in
    record {
      was_fetched = served_once past t.place.region t.place.index some;
      was_served = served_not_waiting (nat_lt t.place.index (length (fetched past t.place.region))) (is_waiting (fate_of past t.place.region t.place.index)) some;
      no_post = false_from_ne_true (is_posted past t.place.region t.place.index) (λ posted. let it = posts_of-some past t.place.region t.place.index posted in absurd (omega (arith, it, none)));
    } where
      at_most : (b : Bool) → one_if b ≤ 1
      at_most true = omega arith
      at_most false = omega arith
