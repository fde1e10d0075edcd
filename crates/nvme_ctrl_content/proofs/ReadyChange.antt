-- How the ready completions change: what is added to those of one completion region, and what that asks of the log.
use Rattle.std.proofs.Common.{◌≡◌, ℕ, ◌+◌, ◌<◌, ◌≤◌, ◌==◌, ◌&&◌, Bool, true, false, not, List, length, take, drop, slice_index_or, Option, Some, None, refl, sym, ap, ◌∙◌, subst, arith, inl, inr}
use Rattle.std.specs.Prelude.{sum_by, All, option_map}
use Rattle.std.proofs.lemmas.Bool.{cases_eq, cases_lt, eq-eqb}
use Rattle.std.proofs.lemmas.List.{take-append-drop}
use Rattle.std.proofs.lemmas.List.Sums.{sum_by-append, get_or-le-sum_by, length-filter}
use Rattle.std.proofs.lemmas.List.Elements.{All-append, All-same}
use Rattle.nvme_ctrl_content.specs.Content.{Attachment, Candidate, Ready, SqContent, Content}
use Rattle.nvme_log.specs.Rules.{Past}
use Rattle.nvme_log.specs.Queues.{cq_region_of, qid_of_region}
use Rattle.nvme_log.specs.Completions.{posts_of}
use Rattle.nvme_log.specs.declared.place.Place.{Place}
use Rattle.nvme_ctrl_content.specs.Standing.{HoldsReady, HoldsQueues, IsReady, times_in, times_held, times_ready, ready_picked}
use Rattle.nvme_log.specs.Places.{is_served, one_if}
use Rattle.nvme_ctrl_content.proofs.Windows.{times_in_window}
use Rattle.nvme_ctrl_content.specs.Steps.{picked_sq}
use Rattle.nvme_ctrl_content.proofs.Readying.{Moves, over_same, over_at, GrowsBy, readies, sum_ready, sum_ready-grows}

-- the ready completions that hold an outstanding place are a sum over all that are ready
pub picked-sum : (k : Content) → ready_picked k ≡ sum_ready (λ (t : Ready). one_if (not t.with_queue)) (readies k.cq) k.ncq
picked-sum k =
    over_same _ _ k.ncq (λ c l. length-filter (λ (t : Ready). not t.with_queue) (k.cq c).ready)

-- a test that counts passes
counts_true : (b : Bool) → 1 ≤ one_if b → b ≡ true
counts_true true l = refl
counts_true false l = absurd (omega arith)

-- a place is itself
itself : (t : Ready) → one_if (t.place.region == t.place.region && t.place.index == t.place.index) ≡ 1
itself t = rw (eq-eqb t.place.region t.place.region refl, eq-eqb t.place.index t.place.index refl) refl

-- the place of a completion was served and has no post
pub record IsServed (past : Past) (t : Ready) : Type 0 where
  pub served : is_served past t.place.region t.place.index ≡ true
  pub no_post : posts_of past t.place.region t.place.index ≡ 0

-- so it is with every ready completion
pub ready-served : (past : Past) (k : Content) (hand : List Place) → HoldsReady past k hand → (c : ℕ) → All (IsServed past) (k.cq c).ready
ready-served past k hand h c j d l =
    let t : Ready = slice_index_or (k.cq c).ready j d in
    let small : c < k.ncq = elim (cases_lt c k.ncq) [
      | inl p ↦ p
      | inr p ↦ absurd (omega (arith, ap (λ (xs : List Ready). length xs) (h.none_beyond c p)))
    ] in
    let here : one_if (t.place.region == t.place.region && t.place.index == t.place.index) ≤ times_in t.place.region t.place.index (k.cq c).ready =
    get_or-le-sum_by (λ (u : Ready). one_if (u.place.region == t.place.region && u.place.index == t.place.index)) (k.cq c).ready j d l in
    let all : times_in t.place.region t.place.index (k.cq c).ready ≤ times_ready k t.place.region t.place.index =
    over_at (λ (x : ℕ). times_in t.place.region t.place.index (k.cq x).ready) c k.ncq small in
    let once = h.once t.place.region t.place.index in
    record {
      served = counts_true (is_served past t.place.region t.place.index) (omega (arith, itself t, once));
      no_post = few_posts (is_served past t.place.region t.place.index) _ (posts_of past t.place.region t.place.index) _ (omega (arith, itself t)) once;
    } where
      few_posts : (b : Bool) (x y z : ℕ) → 1 ≤ x → x + y + z ≡ one_if b → y ≡ 0
      few_posts true x y z l e = omega arith
      few_posts false x y z l e = omega arith

-- the admin queue posts to a completion region, so there is one
pub some_cqs : (past : Past) (k : Content) (hand : List Place) → HoldsReady past k hand → HoldsQueues past k → 0 < k.ncq
some_cqs past k hand ready queues = by (k.sq 0).queue refl where
  by : (o : Option Attachment) → (k.sq 0).queue ≡ o → 0 < k.ncq
  by None e =
      let nowhere : cq_region_of past 0 ≡ None = queues.cq_region_is 0 ∙ ap (option_map (λ (a : Attachment). a.cq_region)) e in
      let there = ready.admin_region in
      absurd (cc (nowhere, there))
  by (Some a) e = omega (arith, queues.posts_there 0 a e)

-- what is ready after some events, where ts is ready more in completion region a
pub record Becomes (past later : Past) (k after : Content) (hand held : List Place) (a : ℕ) (ts : List Ready) : Type 0 where
  pub small : a < k.ncq
  pub ncq : after.ncq ≡ k.ncq
  pub grows : GrowsBy (readies k.cq) (readies after.cq) a ts
  pub posts : (r i : ℕ) → posts_of later r i ≡ posts_of past r i
  pub served : (r i : ℕ) → one_if (is_served past r i) + times_in r i ts + times_held r i held ≡ one_if (is_served later r i) + times_held r i hand
  pub stay : (c : ℕ) (t : Ready) → IsServed past t → IsReady past k.deletion c t → IsReady later after.deletion c t
  pub new : All (IsReady later after.deletion a) ts
  pub taken : sum_by (λ (t : Ready). one_if (not t.with_queue)) ts + length held + k.outstanding ≡ after.outstanding + length hand
  pub admin_qid : qid_of_region later 0 ≡ Some 0
  pub admin_region : cq_region_of later 0 ≡ Some 0

-- the relation of what is ready to the log is kept
pub becomes-ready : (past later : Past) (k after : Content) (hand held : List Place) (a : ℕ) (ts : List Ready)
    → HoldsReady past k hand → Becomes past later k after hand held a ts → HoldsReady later after held
becomes-ready past later k after hand held a ts h b = record {
  once = λ r i.
      omega (
        arith,
        h.once r i,
        b.served r i,
        b.posts r i,
        sum_ready-grows (λ (t : Ready). one_if (t.place.region == r && t.place.index == i)) (readies k.cq) (readies after.cq) a k.ncq ts b.grows b.small,
        ap (λ (n : ℕ). sum_ready (λ (t : Ready). one_if (t.place.region == r && t.place.index == i)) (readies after.cq) n) b.ncq,
      );
  each = λ c. elim (cases_eq c a) [
    | inl e ↦ subst (λ (z : ℕ). All (IsReady later after.deletion z) (after.cq z).ready) (sym e)
        (All-same (IsReady later after.deletion a) _ _ b.grows.here (All-append (IsReady later after.deletion a) (k.cq a).ready ts (kept a) b.new))
    | inr d ↦ All-same (IsReady later after.deletion c) _ _ (b.grows.elsewhere c d) (kept c)
  ];
  taken = omega (
    arith,
    h.taken,
    b.taken,
    picked-sum k,
    picked-sum after,
    sum_ready-grows (λ (t : Ready). one_if (not t.with_queue)) (readies k.cq) (readies after.cq) a k.ncq ts b.grows b.small,
    ap (λ (n : ℕ). sum_ready (λ (t : Ready). one_if (not t.with_queue)) (readies after.cq) n) b.ncq,
  );
  none_beyond = λ c l. b.grows.elsewhere c (λ e. absurd (omega (arith, b.small, b.ncq))) ∙ h.none_beyond c (omega (arith, l, b.ncq));
  admin_qid = b.admin_qid;
  admin_region = b.admin_region;
} where
  kept : (c : ℕ) → All (IsReady later after.deletion c) (k.cq c).ready
  kept c j d l = b.stay c (slice_index_or (k.cq c).ready j d) (ready-served past k hand h c j d l) (h.each c j d l)

-- what is picked is no candidate any more
pub pick-moves : (s : SqContent) (n i : ℕ) → Moves i (times_in_window i (take n s.window)) s (picked_sq s n)
pick-moves s n i =
    let here = λ (c : Candidate). one_if (c.index == i) in
    let split : times_in_window i s.window ≡ times_in_window i (take n s.window) + times_in_window i (drop n s.window) =
    ap (sum_by here) (sym (take-append-drop n s.window)) ∙ sum_by-append here (take n s.window) (drop n s.window) in
    omega arith
