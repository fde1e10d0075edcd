-- How many places of a region are unposted, where its queue isn't being deleted.
use Rattle.std.proofs.Common.{◌≡◌, ℕ, zero, suc, ◌<◌, ◌≤◌, ◌==◌, ◌&&◌, ◌||◌, nat_lt, Bool, true, false, not, List, [], ◌∷◌, length, None, refl, sym, ap, ◌∙◌, arith, inl, inr, true≢false}
use Rattle.std.specs.Prelude.{All, sum_by, slice_index_or}
use Rattle.std.proofs.lemmas.Bool.{false_from_ne_true, cases_lt, cases_eq, eqb-true, and_parts, and_from, not_from_false, lt-ltb}
use Rattle.std.proofs.lemmas.List.Sums.{sum_by-le, sum_by-append}
use Rattle.nvme_ctrl_content.specs.Content.{Ready, Content}
use Rattle.nvme_log.specs.Rules.{FrontRules, Past, upto, sq_regions_of}
use Rattle.nvme_log.specs.Places.{fetched, picked, fate_of, is_waiting, is_picked, is_aborted, unaborted_below, places, one_if, is_served}
use Rattle.nvme_log.specs.declared.place.Place.{Place}
use Rattle.nvme_log.specs.Aborts.{is_abort_requested, is_aborted_with_queue}
use Rattle.nvme_log.specs.Completions.{is_posted, takes_place, unposted_of}
use Rattle.nvme_ctrl_content.specs.Standing.{HoldsSq, HoldsReady, HoldsDeletion, IsReady, Holds, times_in, times_ready, times_held, held_upto, hand_of, IsInHand}
use Rattle.nvme_log.proofs.Posts.{posts_of-none}
use Rattle.nvme_log.proofs.Counting.{counts_less, fate_by}
use Rattle.nvme_ctrl_log.proofs.OutstandingPlaces.{outstanding_of}
use Rattle.nvme_ctrl_content.proofs.Readying.{over_none}
use Rattle.nvme_ctrl_content.proofs.ReadyHand.{times_held-append}
use Rattle.nvme_ctrl_content.proofs.DeletingRegions.{held-none}
use Rattle.nvme_ctrl_content.proofs.ReadyAdmin.{not_deleting}

-- ---- unposted places
-- what doesn't hold counts nothing
counts_none : (b : Bool) → (b ≡ true → ⊥) → one_if b ≤ 0
counts_none true n = absurd (n refl)
counts_none false n = omega arith

-- where the queue of a region isn't being deleted, no ready completion is that of a place that was aborted with it
ready-unaborted : (past : Past) (k : Content) (r i : ℕ) → HoldsReady past k (hand_of k) → k.deletion r ≡ None → is_aborted_with_queue past r i ≡ true
    → times_ready k r i ≡ 0
ready-unaborted past k r i h none gone =
    over_none (λ (c : ℕ). times_in r i (k.cq c).ready) k.ncq (λ c l.
    omega (
      arith,
      sum_by-le (λ (t : Ready). one_if (t.place.region == r && t.place.index == i)) 0 (k.cq c).ready (λ j d m.
          let t : Ready = slice_index_or (k.cq c).ready j d in
          let is : IsReady past k.deletion c t = h.each c j d m in
          counts_none (t.place.region == r && t.place.index == i) (λ e.
          let same = and_parts (t.place.region == r) (t.place.index == i) e in
          not_deleting past k.deletion c t is (ap k.deletion (eqb-true t.place.region r same.0) ∙ none)
          (is.with_queue ∙ ap (λ (z : ℕ). is_aborted_with_queue past z t.place.index) (eqb-true t.place.region r same.0)
          ∙ ap (λ (z : ℕ). is_aborted_with_queue past r z) (eqb-true t.place.index i same.1) ∙ gone))),
    ))

-- no place in hand is aborted
places-unaborted : (past : Past) (ps : List Place) (r i : ℕ) → All (IsInHand past) ps → is_aborted past r i ≡ true → times_held r i ps ≡ 0
places-unaborted past ps r i each gone =
    omega (
      arith,
      sum_by-le (λ (p : Place). one_if (p.region == r && p.index == i)) 0 ps (λ j e m.
          let p : Place = slice_index_or ps j e in
          let is : IsInHand past p = each j e m in
          counts_none (p.region == r && p.index == i) (λ h.
          let same = and_parts (p.region == r) (p.index == i) h in
          true≢false (sym gone ∙ ap (λ (z : ℕ). is_aborted past z i) (sym (eqb-true p.region r same.0)) ∙ ap (is_aborted past p.region) (sym (eqb-true p.index i same.1)) ∙ is.not_aborted))),
    )

-- so no aborted place is in hand: the commands of deletions weren't aborted
hand-unaborted : (past : Past) (k : Content) (r i : ℕ) → All (IsInHand past) k.hand → HoldsDeletion past k → is_aborted past r i ≡ true
    → times_held r i (hand_of k) ≡ 0
hand-unaborted past k r i each deletes gone =
    let held = held-none r i k.deletion k.nsq (λ x d is. false_from_ne_true (d.place.region == r && d.place.index == i) (λ h.
    let same = and_parts (d.place.region == r) (d.place.index == i) h in
    true≢false (sym gone ∙ ap (λ (z : ℕ). is_aborted past z i) (sym (eqb-true d.place.region r same.0)) ∙ ap (is_aborted past d.place.region) (sym (eqb-true d.place.index i same.1)) ∙ (deletes.stands x d is).not_aborted))) in
    omega (arith, times_held-append r i k.hand (held_upto k.deletion k.nsq), places-unaborted past k.hand r i each gone, held)

-- so a place that was aborted with its queue has its completion posted
pub aborted-posted : (past : Past) (k : Content) (r i : ℕ) → ((x : ℕ) → HoldsSq past x (k.sq x)) → HoldsReady past k (hand_of k)
    → All (IsInHand past) k.hand → HoldsDeletion past k → k.deletion r ≡ None → is_aborted_with_queue past r i ≡ true → is_posted past r i ≡ false → ⊥
aborted-posted past k r i regions h each deletes none gone fresh =
    let named : is_aborted past r i ≡ true = (and_parts (is_aborted past r i) (not (is_abort_requested past r i)) gone).0 in
    elim (cases_lt i (length (k.sq r).got)) [
      | inl there ↦
          let many : length (fetched past r) ≡ length (k.sq r).got = ap length (regions r).fetched_is in
          let fetched_there : nat_lt i (length (fetched past r)) ≡ true = lt-ltb i (length (fetched past r)) (omega arith) in
          let served : one_if (is_served past r i) ≡ 1 = rw (named, fetched_there) refl in
          let once = h.once r i in
          let unready = ready-unaborted past k r i h none gone in
          let unposted = posts_of-none past r i fresh in
          let hand = hand-unaborted past k r i each deletes named in
          absurd (omega arith)
      | inr beyond ↦ true≢false (sym named ∙ (regions r).none_aborted i beyond)
    ]

-- a part of a sum is within it
pub part_of : (f : ℕ → ℕ) (r n : ℕ) → r < n → f r ≤ sum_by f (upto n)
part_of f r zero l = absurd (omega arith)
part_of f r (suc n) l =
    let split = sum_by-append f (upto n) (n ∷ []) in
    elim (cases_eq r n) [
      | inl e ↦ let here : f r ≡ f n = ap f e in omega arith
      | inr d ↦ omega (arith, part_of f r n (omega arith))
    ]

-- so no more places of such a region are unposted than are outstanding
pub few_unposted : (rules : FrontRules) (late : Bool) (past : Past) (k : Content) → Holds rules late past k → (r : ℕ) → k.deletion r ≡ None → r < k.nsq
    → (k.sq r).unposted ≤ k.outstanding
few_unposted rules late past k s r none there =
    let picks : unposted_of past r ≤ outstanding_of past r =
    counts_less (λ (i : ℕ). not (is_waiting (fate_of past r i)) && not (is_posted past r i)) (λ (i : ℕ). takes_place past r i && not (is_posted past r i))
    (λ (i : ℕ). takes (is_aborted past r i) (nat_lt (unaborted_below past r i) (picked past r)) (is_posted past r i) (is_abort_requested past r i)
    (λ gone kept fresh. aborted-posted past k r i s.regions s.ready s.hand.each s.deletion none
    (and_from (is_aborted past r i) (not (is_abort_requested past r i)) gone (not_from_false (is_abort_requested past r i) kept)) fresh))
    (places past r) in
    let all = part_of (λ (x : ℕ). outstanding_of past x) r (length (sq_regions_of rules)) (omega (arith, s.tabled.sq_number)) in
    omega (arith, s.counts.unposted r, s.counts.outstanding_is) where
      takes : (a b p q : Bool) → (a ≡ true → q ≡ false → p ≡ false → ⊥) → (not (is_waiting (fate_by a b)) && not p) ≡ true
          → ((is_picked (fate_by a b) || q) && not p) ≡ true
      takes true b false true n e = refl
      takes true b false false n e = absurd (n refl refl refl)
      takes true b true q n e = cc e
      takes false true p q n e = e
      takes false false p q n e = cc e
